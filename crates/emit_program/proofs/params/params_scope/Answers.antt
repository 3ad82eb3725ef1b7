-- Answers of params_scope: the next parameter gets the next number, and fewer than 256 are left to be numbered.
use Rattle.std.proofs.Common.{◌≡◌, ◌∙◌, ◌+◌, ◌∷◌, drop, map, length, ap, sym, suc, arith}
use Rattle.std.proofs.lemmas.List.{drop_more}
use Rattle.rev_syntax.specs.View.{parameter}
use Rattle.name_tables.specs.Table.{added}
use Rattle.code_generation.specs.Numbers.{with_params}
use Rattle.emit_program.proofs.params.params_scope.Goals as goal

pub loop-p-preserved : goal.loop-p-preserved
loop-p-preserved c =
    let at = c.loop-p.p-index in let p = c.p-item.result in let rest = drop (at + 1) c.args.params.now in
    let here : drop at c.args.params.now ≡ p ∷ rest =
    drop_more c.args.params.now at p (omega arith) ∙ ap (λ y. y ∷ rest) (sym c.p-item.is) in
    let more : c.loop-p.next + 1 ≡ suc c.loop-p.next = omega arith in
    let room = c.loop-p.invariant.room in
    let long = ap length here in
    record {
      scope =
          (λ j. with_params (c.in_ok-add.ensures.ok j) (more j) (map parameter rest))
          ∙ ap (λ w. with_params (added c.loop-p.scope w c.loop-p.next) (suc c.loop-p.next) (map parameter rest))
          c.deref.ensures.value
          ∙ ap (λ l. with_params c.loop-p.scope c.loop-p.next (map parameter l)) (sym here)
          ∙ c.loop-p.invariant.scope;
      room = omega (arith, long, room);
    }
