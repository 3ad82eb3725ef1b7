-- The code of a program from its parts.
use Rattle.std.proofs.Common.{◌≡◌, ◌∙◌, ◌<◌, ◌^◌, List, ◌++◌, length, map, subst, sym}
use Rattle.rev_syntax.specs.Trees.{ProgramTree}
use Rattle.typed_programs.specs.Kinds.{Names}
use Rattle.typed_programs.specs.Layout.{variables}
use Rattle.typed_programs.specs.Scopes.{outside}
use Rattle.rev_code.specs.declared.code.CodeVar.{CodeVar}
use Rattle.rev_code.specs.declared.code.CodeBlock.{CodeBlock}
use Rattle.rev_code.specs.declared.code.LayoutItem.{LayoutItem}
use Rattle.std.specs.Prelude.{ℕ, []}
use Rattle.code_generation.specs.Numbers.{Numbers, numbers}
use Rattle.code_generation.specs.Generated.{var_of, value_blocks, body_blocks, texts_of, layouts_of, code_of}
use Rattle.emit_program.specs.Fitting.{BodyFits, DeclarationsFit, ProgramFits}

module _ (p : ProgramTree) where
  pub whole_code : (n : Numbers) (c : Names) (vars : List CodeVar) (texts : List (List ℕ))
      (layouts : List (List LayoutItem)) (values blocks : List CodeBlock)
      → n ≡ numbers p → c ≡ outside p.declarations
      → vars ≡ map (var_of p.declarations) (variables p)
      → texts ≡ texts_of p.declarations p.main
      → layouts ≡ layouts_of c 0 p.declarations p.main
      → values ≡ value_blocks n p.declarations
      → blocks ≡ values ++ body_blocks n c p.declarations p.main 0
      → record { vars = vars; texts = texts; layouts = layouts; blocks = blocks } ≡ code_of p
  whole_code n c vars texts layouts values blocks en ec ev et el es eb = λ i. record {
    vars = ev i;
    texts = et i;
    layouts = (el ∙ (λ j. layouts_of (ec j) 0 p.declarations p.main)) i;
    blocks = (eb
        ∙ (λ j. (es ∙ (λ k. value_blocks (en k) p.declarations)) j
        ++ body_blocks (en j) (ec j) p.declarations p.main 0))
        i;
  }

  pub declarations_by : (n : Numbers) → n ≡ numbers p → ProgramFits p → DeclarationsFit n p.declarations
  declarations_by n e f = subst (λ m. DeclarationsFit m p.declarations) (sym e) f.declarations

  pub main_by : (n : Numbers) → n ≡ numbers p → ProgramFits p → BodyFits n [] p.main
  main_by n e f = subst (λ m. BodyFits m [] p.main) (sym e) f.main

  pub layouts_by : (c : Names) → c ≡ outside p.declarations → ProgramFits p
      → length (layouts_of c 0 p.declarations p.main) < 2 ^ 32
  layouts_by c e f = subst (λ m. length (layouts_of m 0 p.declarations p.main) < 2 ^ 32) (sym e) f.layouts
