-- When the statements of a body stand where they mean what they mean in the program.
--   ProcMeans   a procedure that may be called or forked
--   BodyMeans   funs and procedures, as names mean them
--   Tables      kinds of locals and layouts, from the numbers on that the statements have
use Rattle.std.specs.Prelude.{◌≡◌, ◌≤◌, ℕ, true, false, is_some, length, slice_get, Some}
use Rattle.rev_syntax.specs.Trees.{Statements}
use Rattle.name_tables.specs.Names.{Name}
use Rattle.typed_programs.specs.Kinds.{Callee, Names, Locals}
use Rattle.rev_code.specs.declared.code.Code.{Code}
use Rattle.rev_code.specs.declared.code.CodeBlock.{CodeBlock}
use Rattle.rev_code.specs.Step.{params, is_procedure}
use Rattle.code_rules.specs.Pass.{is_value_class}
use Rattle.code_rules.specs.Tables.{most_params}
use Rattle.code_generation.specs.Numbers.{Numbers}
use Rattle.code_generation.specs.Generated.{kinds_of}
use Rattle.code_generation.specs.Statements.{Spot}
use Rattle.code_generation.specs.Prints.{statements_kinds, statements_layouts}
use Rattle.code_generation.specs.Stands.{HasItems}
use Rattle.generated_certificates.specs.Means.{FunMeans}

pub record ProcMeans (code : Code) (n : Numbers) (name : Name) (f : Callee) : Type 0 where
  pub block : CodeBlock
  pub is : slice_get code.blocks (n.proc name) ≡ Some block
  pub class : is_procedure block.class ≡ true
  pub params : params block ≡ kinds_of f.params
  pub result : block.result ≡ f.result
  pub gives : n.gives name ≡ is_some f.result
  pub few : length f.params ≤ most_params

pub record FunApplies (code : Code) (at : ℕ) (n : Numbers) (name : Name) (f : Callee) : Type 0 where
  pub means : FunMeans code at n name f
  pub few : length f.params ≤ most_params

pub record BodyMeans (code : Code) (at : ℕ) (b : CodeBlock) (n : Numbers) (c : Names) : Type 0 where
  pub outside : is_value_class b.class ≡ false
  pub funs : (name : Name) (f : Callee) → c.funs name ≡ Some f → FunApplies code at n name f
  pub procs : (name : Name) (f : Callee) → c.procs name ≡ Some f → ProcMeans code n name f

abbrev pub Tables : Code → CodeBlock → Names → Locals → (texts : ℕ) → Statements → Spot → Type 0
Tables code b c l texts xs s =
    HasItems b.locals s.local (statements_kinds c l xs)
    × HasItems code.layouts s.layout (statements_layouts c l texts xs)
