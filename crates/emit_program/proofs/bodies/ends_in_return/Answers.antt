-- Answers of ends_in_return: whether the last statement returns is kept up with each one, and none is left at last.
use Rattle.std.proofs.Common.{◌≡◌, ◌∙◌, ◌+◌, ◌∷◌, drop, ap, sym, arith}
use Rattle.std.proofs.lemmas.List.{drop_more, at_drop_all}
use Rattle.rev_syntax.specs.View.{stmts}
use Rattle.code_generation.specs.Generated.{ends_in_return}
use Rattle.emit_program.specs.Parts.{ends_behind}
use Rattle.rev_syntax.proofs.Shapes.{block_is}
use Rattle.emit_program.proofs.Ends.{ends_are, ends_more}
use Rattle.emit_program.proofs.bodies.ends_in_return.Goals as goal

pub loop-s-init : goal.loop-s-init
loop-s-init c = ends_are (stmts c.deref-s-items.result.now)

pub loop-s-preserved : goal.loop-s-preserved
loop-s-preserved c =
    let items = c.deref-s-items.result.now in
    let at = c.loop-s.s-index in
    let s = c.s-item.result in
    let rest = drop (at + 1) items in
    let here : drop at items ≡ s ∷ rest = drop_more items at s (omega arith) ∙ ap (λ y. y ∷ rest) (sym c.s-item.is) in
    ap (λ r. ends_behind r (stmts rest)) c.is_return-last.ensures
    ∙ ends_more c.loop-s.last s rest
    ∙ ap (λ l. ends_behind c.loop-s.last (stmts l)) (sym here)
    ∙ c.loop-s.invariant

pub returns : goal.returns
returns c =
    let items = c.deref-s-items.result.now in
    let none = at_drop_all (λ l. ends_behind c.loop-s.last (stmts l)) items c.loop-s.s-index c.loop-s-test.false in
    sym none
    ∙ c.loop-s.invariant
    ∙ ap (λ l. ends_in_return (stmts l)) c.deref-s-items.ensures.value
    ∙ ap ends_in_return (sym (block_is c.args.b.now))
