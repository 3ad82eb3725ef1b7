-- Answers of emit_values: the first declaration left adds its blocks, and it fits since all that are left do.
use Rattle.std.proofs.Common.{◌≡◌, ◌∙◌, ◌+◌, ◌∷◌, ◌++◌, drop, map, ap, sym, subst, arith}
use Rattle.std.proofs.lemmas.List.{drop_more}
use Rattle.rev_syntax.specs.View.{declaration}
use Rattle.code_generation.specs.Generated.{value_blocks}
use Rattle.emit_code.specs.Naming.{numbers_of}
use Rattle.emit_program.specs.Fitting.{DeclarationsFit}
use Rattle.emit_program.proofs.Joined.{values_behind}
use Rattle.emit_program.proofs.values.emit_values.Goals as goal

pub enter_value-requires : goal.enter_value-requires
enter_value-requires c =
    let n = numbers_of c.args.numbers.now in
    let at = c.loop-d.d-index in let d = c.d-item.result in let rest = drop (at + 1) c.args.decls.now in
    let here : drop at c.args.decls.now ≡ d ∷ rest =
    drop_more c.args.decls.now at d (omega arith) ∙ ap (λ y. y ∷ rest) (sym c.d-item.is) in
    (subst (λ l. DeclarationsFit n (map declaration l)) here c.loop-d.invariant.fits).0

pub loop-d-preserved : goal.loop-d-preserved
loop-d-preserved c =
    let n = numbers_of c.args.numbers.now in
    let at = c.loop-d.d-index in let d = c.d-item.result in let rest = drop (at + 1) c.args.decls.now in
    let here : drop at c.args.decls.now ≡ d ∷ rest =
    drop_more c.args.decls.now at d (omega arith) ∙ ap (λ y. y ∷ rest) (sym c.d-item.is) in
    record {
      blocks =
          values_behind n (declaration d) (map declaration rest) c.loop-d.blocks.items c.enter_value.new.blocks.items
          c.in_ok-enter_value.ensures
          ∙ ap (λ l. c.loop-d.blocks.items ++ value_blocks n (map declaration l)) (sym here)
          ∙ c.loop-d.invariant.blocks;
      fits = (subst (λ l. DeclarationsFit n (map declaration l)) here c.loop-d.invariant.fits).1;
    }
