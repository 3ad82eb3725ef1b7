-- Answers of put_list: the next round is put behind those before it.
use Rattle.std.proofs.Common.{rules, ◌+◌, ◌≤◌, [], ◌∷◌, length, slice_index_or, sym, ap, ◌∙◌, subst, arith}
use Rattle.std.proofs.Math.ListN.{drop}
use Rattle.std.proofs.lemmas.List.{drop_all, at_drop_more}
use Rattle.hub_core.specs.declared.closing.Round.{Round}
use Rattle.hub_core.specs.Woven.{rounds_at, triples}
use Rattle.hub_core.specs.Ordered.{AreBelow, placed}
use Rattle.hub_core.proofs.Looking.{placed_same}
use Rattle.hub_core.proofs.ordering.put_list.Goals as goal

abbrev nothing : Round
nothing = record { child = 0; joinee = 0; forker = 0 }

pub put_round-requires : goal.put_round-requires
put_round-requires c =
    let i = c.loop-at.invariant in
    let all =
    subst (AreBelow (length c.args.rounds.now.items))
    (at_drop_more triples c.args.list.now c.loop-at.at nothing c.loop-at-test.true) i.1 in
    let h = all.0 in
    let e = i.0 in
    omega arith

pub loop-at-preserved : goal.loop-at-preserved
loop-at-preserved c =
    let i = c.loop-at.invariant in
    let at = c.loop-at.at in
    let list = c.args.list.now in
    let r = slice_index_or list at nothing in
    let more = at_drop_more triples list at nothing c.loop-at-test.true in (
      c.put_round.ensures.many ∙ i.0,
      (subst (AreBelow (length c.args.rounds.now.items)) more i.1).1,
      (λ n.
          placed_same (triples (drop (at + 1) list))
          (placed ((r.child, r.joinee, r.forker) ∷ []) (rounds_at c.loop-at.rounds.items))
          (rounds_at c.put_round.new.rounds.items) c.put_round.ensures.at n
          ∙ (ap (λ l. placed l (rounds_at c.loop-at.rounds.items) n) (sym more) ∙ i.2 n)),
    )

pub returns-clause-at : goal.returns-clause-at
returns-clause-at c n =
    let over : length c.args.list.now ≤ c.loop-at.at = search rules in
    ap (λ l. placed (triples l) (rounds_at c.loop-at.rounds.items) n) (sym (drop_all c.loop-at.at c.args.list.now over))
    ∙ c.loop-at.invariant.2 n
