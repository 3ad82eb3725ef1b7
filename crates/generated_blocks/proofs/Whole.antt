-- No instruction of the code of a well-typed program breaks a rule.
use Rattle.std.proofs.Common.{◌≡◌, ℕ, List, [], length, None}
use Rattle.rev_syntax.specs.Trees.{ProgramTree}
use Rattle.rev_syntax.specs.Small.{IsSmall}
use Rattle.typed_programs.specs.FunRules.{fun_faults, statements_uses, declarations_uses}
use Rattle.typed_programs.specs.FunRules as rule
use Rattle.typed_programs.specs.Accepted.{IsWellTyped}
use Rattle.typed_programs.specs.Scopes.{outside}
use Rattle.typed_programs.proofs.Applying.{broken_parts}
use Rattle.rev_code.specs.declared.code.CodeBlock.{CodeBlock}
use Rattle.code_rules.specs.declared.Cost.{Cost}
use Rattle.code_rules.specs.Pass.{blocks_fault}
use Rattle.code_generation.specs.Numbers.{numbers}
use Rattle.code_generation.specs.Generated.{body_blocks, layouts_of, code_of}
use Rattle.code_generation.proofs.BlockPlaces.{Stand, all_stand}
use Rattle.code_generation.proofs.Standing.{whole_stands}
use Rattle.generated_blocks.proofs.Funs.{AllBefore, funs_accepted}
use Rattle.generated_blocks.proofs.Procs.{few_of_fun, bodies_accepted}

module _ (p : ProgramTree) (small : IsSmall p) (fine : fun_faults p ≡ []) (well : IsWellTyped p) where
  abbrev tail : List CodeBlock
  tail = body_blocks (numbers p) (outside p.declarations) p.declarations p.main 0

  later : (costs : List Cost) (at : ℕ) → length costs ≡ at → AllBefore p at → Stand p at tail
      → blocks_fault (code_of p) costs at tail ≡ None
  later costs at many before stand =
      bodies_accepted p well.within.declarations costs at 0 0 [] [] p.declarations before well.typed.declarations
      well.within.declarations small.declarations well.typed.main small.main well.within.main
      (whole_stands (layouts_of (outside p.declarations) 0 p.declarations p.main)) stand

  pub instructions_accepted : blocks_fault (code_of p) [] 0 (code_of p).blocks ≡ None
  instructions_accepted =
      let all : ℕ = length p.declarations in
      let uses =
      broken_parts (rule.fun_named p) (declarations_uses all 0 p.declarations) (statements_uses all p.main) fine in
      funs_accepted p (λ name f e. few_of_fun [] p.declarations name f well.within.declarations e) tail later all
      well.within.declared_funs well.typed.declarations well.within.declarations uses.0 small.declarations (all_stand p)
