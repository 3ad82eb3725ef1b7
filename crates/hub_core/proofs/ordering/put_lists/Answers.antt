-- Answers of put_lists: the rounds of the next seat are put behind those before them.
use Rattle.std.proofs.Common.{rules, ◌≡◌, ◌+◌, ◌≤◌, List, ◌++◌, length, map, slice_index_or, sym, ap, ◌∙◌, subst, Vec}
use Rattle.std.specs.Global.{Global}
use Rattle.std.proofs.Math.ListN.{drop}
use Rattle.std.proofs.lemmas.List.{drop_all, at_drop_more}
use Rattle.hub_core.specs.declared.closing.Round.{Round}
use Rattle.hub_core.specs.Rounds as pure
use Rattle.hub_core.specs.Woven.{rounds_at, triples}
use Rattle.hub_core.specs.Ordered.{all_rounds, AreBelow, placed}
use Rattle.hub_core.proofs.Looking.{placed_same, placed_append, below_front}
use Rattle.hub_core.proofs.ordering.put_lists.Goals as goal

abbrev rounds_of : List (Vec Round Global) → List pure.Round
rounds_of lists = all_rounds (map (λ l. triples l.items) lists)

pub put_list-requires : goal.put_list-requires
put_list-requires c =
    let i = c.loop-at.invariant in
    let lists = c.args.lists.now in
    let at = c.loop-at.at in
    let one = c.index-lists-at.result in
    let here : slice_index_or lists at one ≡ one = search rules in
    let more = at_drop_more rounds_of lists at one c.loop-at-test.true in
    let all = subst (AreBelow (length c.args.rounds.now.items)) more i.1 in
    let f =
    below_front (length c.args.rounds.now.items) (triples (slice_index_or lists at one).items)
    (rounds_of (drop (at + 1) lists)) all in
    let is : (slice_index_or lists at one).items ≡ c.as_slice.result.now =
    ap (λ l. l.items) here ∙ sym c.as_slice.ensures.value in
    subst (λ n. AreBelow n (triples c.as_slice.result.now)) (sym i.0)
    (subst (λ l. AreBelow (length c.args.rounds.now.items) (triples l)) is f.0)

pub loop-at-preserved : goal.loop-at-preserved
loop-at-preserved c =
    let i = c.loop-at.invariant in
    let lists = c.args.lists.now in
    let at = c.loop-at.at in
    let one = c.index-lists-at.result in
    let here : slice_index_or lists at one ≡ one = search rules in
    let more = at_drop_more rounds_of lists at one c.loop-at-test.true in
    let all = subst (AreBelow (length c.args.rounds.now.items)) more i.1 in
    let behind = rounds_of (drop (at + 1) lists) in
    let f =
    below_front (length c.args.rounds.now.items) (triples (slice_index_or lists at one).items) behind all in
    let is : (slice_index_or lists at one).items ≡ c.as_slice.result.now =
    ap (λ l. l.items) here ∙ sym c.as_slice.ensures.value in
    let old = rounds_at c.loop-at.rounds.items in (
      c.put_list.ensures.many ∙ i.0,
      f.1,
      (λ n.
          placed_same behind (placed (triples c.as_slice.result.now) old) (rounds_at c.put_list.new.rounds.items)
          c.put_list.ensures.at n
          ∙ (sym (placed_append (triples c.as_slice.result.now) behind old n)
          ∙ (ap (λ l. placed (triples l ++ behind) old n) (sym is)
          ∙ (ap (λ l. placed l old n) (sym more) ∙ i.2 n)))),
    )

pub returns-clause-at : goal.returns-clause-at
returns-clause-at c n =
    let over : length c.args.lists.now ≤ c.loop-at.at = search rules in
    ap (λ l. placed (rounds_of l) (rounds_at c.loop-at.rounds.items) n)
    (sym (drop_all c.loop-at.at c.args.lists.now over))
    ∙ c.loop-at.invariant.2 n
