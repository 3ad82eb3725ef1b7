-- Answers of give_back: what the hand taken last kept goes to what is gathered, and stays in the group of the store.
use Rattle.std.proofs.Common.{◌≡◌, ◌+◌, length, Some, ap, ◌∙◌, arith}
use Rattle.std.proofs.lemmas.List.Elements.{All-pop}
use Rattle.segment_store.specs.Names.{gathered}
use Rattle.hub_core.proofs.Lists.{many_more}
use Rattle.rev_workers.specs.Hands.{IsHandAt, kept_by}
use Rattle.rev_workers.proofs.Opened.{kept_more}
use Rattle.rev_workers.proofs.hands.give_back.Goals as goal

pub gather-requires : goal.gather-requires
gather-requires g c =
    let h = All-pop (IsHandAt c.args.store.now) c.loop.rest.items c.take_last.new.list.items (Some c.take_last.result)
    c.take_last.ensures.items c.loop.invariant.0 in
    record {
      own = (
        c.loop.invariant.2,
        c.into_parts-spent.ensures.own ∙ (c.into_parts-keeper.ensures.group ∙ h.1),
      );
    }

pub loop-preserved : goal.loop-preserved
loop-preserved g c =
    let i = c.loop.invariant in
    let h = All-pop (IsHandAt c.args.store.now) c.loop.rest.items c.take_last.new.list.items (Some c.take_last.result)
    c.take_last.ensures.items i.0 in
    let a : length c.loop.rest.items ≡ length c.take_last.new.list.items + 1 =
    ap length c.take_last.ensures.items ∙ many_more c.take_last.new.list.items c.take_last.result in
    let left = i.1 in
    let sums = i.3 in
    let k : kept_by c.loop.rest.items ≡ kept_by c.take_last.new.list.items + c.take_last.result.kept =
    ap kept_by c.take_last.ensures.items ∙ kept_more c.take_last.new.list.items c.take_last.result in
    let more = c.gather.ensures.1 in
    let whole : gathered c.into_parts-spent.result.0 ≡ c.take_last.result.kept =
    c.into_parts-spent.ensures.all ∙ c.into_parts-keeper.ensures.kept in (
      h.0,
      omega arith,
      c.gather.ensures.0 ∙ i.2,
      omega (arith, sums, k, more, whole),
    )
