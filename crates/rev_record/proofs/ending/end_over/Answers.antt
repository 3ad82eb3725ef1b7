-- `end_over`: the writes lie inside, ascend, and are those of the entry over the words of the snapshot.
use Rattle.std.proofs.Common.{◌∙◌, ◌<◌, length, refl, sym, subst}
use Rattle.rev_record.specs.Standing.{Has}
use Rattle.rev_record.proofs.Ends.{ascending_over, end_is, over_same, writes_inside}
use Rattle.rev_record.proofs.ending.end_over.Goals as goal

pub writes_over-requires-clause-inside : goal.writes_over-requires-clause-inside
writes_over-requires-clause-inside c = λ x has.
    let r = c.requires.entry in
    let inside =
    writes_inside r.0.code r.1 r.2 c.args.start.now r.5 c.args.entry.now r.3 r.6 r.7 x
    (subst (λ z. Has z x) c.as_slice.ensures has) in
    subst (λ z. x.location < length z) (sym c.as_slice-base.ensures.value) inside

pub invariant_of-result : goal.invariant_of-result
invariant_of-result c =
    let r = c.requires.entry in
    let o = over_same r.1 c.as_slice-base.result.now c.args.start.now.base.items c.as_slice.result.now
    c.args.entry.now.written c.in_ok-written.written.items c.from_vec.result
    c.as_slice-base.ensures.value c.as_slice.ensures c.from_vec.ensures
    (c.in_ok-written.ensures r.1 r.4 r.5.distinct) in
    record {
      ascending = ascending_over r.0.code r.1 r.2 c.args.start.now r.5 c.args.entry.now r.3 r.6 r.7 c.from_vec.result o;
    }

pub returns : goal.returns
returns c = λ g t f e names b s fits.
    let o = over_same t c.as_slice-base.result.now c.args.start.now.base.items c.as_slice.result.now
    c.args.entry.now.written c.in_ok-written.written.items c.from_vec.result
    c.as_slice-base.ensures.value c.as_slice.ensures c.from_vec.ensures (c.in_ok-written.ensures t names b.distinct) in
    end_is g.code t f c.args.start.now b c.args.entry.now e s fits g refl _ o
    (c.from_vec-2.ensures ∙ (c.in_ok-text.ensures).items ∙ c.as_slice-2.ensures) refl c.finish_of.ensures
