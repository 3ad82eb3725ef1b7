-- Answers of join_at: a handle names a revision of the list, which the table finds and whose mark and end decide.
use Rattle.std.proofs.Common.{◌+◌, ◌<◌, ◌≤◌, length, get_or, refl, sym, ap, ◌∙◌, subst, arith}
use Rattle.std.proofs.lemmas.Bool.{true≢false}
use Rattle.revision_machine.specs.Machine.{Joins, Ended}
use Rattle.revision_machine.specs.Rules.{machine_of}
use Rattle.revision_machine.specs.ListStep.{JoinsPlace, NextIs}
use Rattle.revision_machine.specs.declared.state.RevisionRow.{RevisionRow}
use Rattle.revision_machine.proofs.PathIndex.{found_at, not_found}
use Rattle.revision_machine.proofs.Steps.{same_read}
use Rattle.revision_machine.proofs.Joins.{at_none, at_twice, at_waits, at_joins, after_distinct, after_paths, apart, ends_at, at_room, after_of}
use Rattle.revision_machine.proofs.list.join_at.Goals as goal

pub unreachable-requires : goal.unreachable-requires
unreachable-requires g c =
    let M = machine_of (g.L.Language.rules c.args.language.now) in
    at_none M c.args.list.now.items c.args.i c.args.on c.requires.distinct c.requires.within c.requires.plain
    c.requires.joins (g.L.Language.rules c.args.language.now).holds (g.L.Language.rules c.args.language.now).weight
    (g.L.Language.rules c.args.language.now).limit
    (g.met.L.Language.keeps c.args.language.now).counts (g.met.L.Language.keeps c.args.language.now).handles
    (g.met.L.Language.keeps c.args.language.now).spends c.requires.reached
    (not_found c.args.places.now.map c.args.list.now.items c.args.on c.requires.indexed
    (sym c.find.ensures ∙ c.in-None.is))

pub returns-then-index-clause-step : goal.returns-then-index-clause-step
returns-then-index-clause-step g c =
    let M = machine_of (g.L.Language.rules c.args.language.now) in
    let there =
    found_at c.args.places.now.map c.args.list.now.items c.args.on c.in-Some.j c.requires.indexed
    (sym c.find.ensures ∙ c.in-Some.is) in
    at_twice M c.args.list.now.items c.args.i c.args.on c.requires.distinct c.requires.within c.requires.plain
    c.requires.joins c.in-Some.j there c.index.result.now c.index.ensures c.if-index.true

pub returns-then-not-has_ended-clause-step : goal.returns-then-not-has_ended-clause-step
returns-then-not-has_ended-clause-step g c d =
    let M = machine_of (g.L.Language.rules c.args.language.now) in
    let there =
    found_at c.args.places.now.map c.args.list.now.items c.args.on c.in-Some.j c.requires.indexed
    (sym c.find.ensures ∙ c.in-Some.is) in
    let y = c.index-2.result.now in
    let plain =
    ap (λ v. v.joined)
    (same_read c.args.list.now.items c.in-Some.j y c.index.result.now there.within c.index-2.ensures c.index.ensures)
    ∙ c.if-index.false in (
      at_waits M c.args.list.now.items c.args.i c.args.on c.requires.distinct c.requires.within c.requires.plain
          c.requires.joins c.in-Some.j there y c.index-2.ensures plain
          (λ e. true≢false (sym (c.has_ended.ensures.1 e) ∙ c.if-not-has_ended.true)) d,
      refl,
    )

pub settle_at-requires-clause-room : goal.settle_at-requires-clause-room
settle_at-requires-clause-room g c =
    let M = machine_of (g.L.Language.rules c.args.language.now) in
    let there =
    found_at c.args.places.now.map c.args.list.now.items c.args.on c.in-Some.j c.requires.indexed
    (sym c.find.ensures ∙ c.in-Some.is) in
    let y = c.index-2.result.now in
    let plain =
    ap (λ v. v.joined)
    (same_read c.args.list.now.items c.in-Some.j y c.index.result.now there.within c.index-2.ensures c.index.ensures)
    ∙ c.if-index.false in
    subst (λ v.
    (d : RevisionRow M.Local)
    → M.forks (get_or v c.args.i d).state + (g.L.Language.rules c.args.language.now).weight (get_or v c.args.i d).state
    + (M.forks (get_or v c.in-Some.j d).state
    + (g.L.Language.rules c.args.language.now).weight (get_or v c.in-Some.j d).state)
    ≤ (g.L.Language.rules c.args.language.now).limit)
    (sym c.as_mut_slice.ensures.value)
    (at_room M c.args.list.now.items c.args.i c.args.on c.requires.distinct c.requires.within c.requires.plain
    c.requires.joins c.in-Some.j there y c.index-2.ensures plain (c.has_ended.ensures.0 c.if-not-has_ended.false)
    (g.L.Language.rules c.args.language.now).holds (g.L.Language.rules c.args.language.now).weight
    (g.L.Language.rules c.args.language.now).limit
    (g.met.L.Language.keeps c.args.language.now).counts (g.met.L.Language.keeps c.args.language.now).handles
    (g.met.L.Language.keeps c.args.language.now).spends c.requires.reached)

pub returns-clause-step : goal.returns-clause-step
returns-clause-step g c =
    let M = machine_of (g.L.Language.rules c.args.language.now) in
    let there =
    found_at c.args.places.now.map c.args.list.now.items c.args.on c.in-Some.j c.requires.indexed
    (sym c.find.ensures ∙ c.in-Some.is) in
    let y = c.index-2.result.now in
    let plain =
    ap (λ v. v.joined)
    (same_read c.args.list.now.items c.in-Some.j y c.index.result.now there.within c.index-2.ensures c.index.ensures)
    ∙ c.if-index.false in
    let after =
    after_of M c.args.list.now.items c.as_mut_slice.result.now c.settle_at.new.list c.args.i c.in-Some.j
    c.args.list.now.len c.as_mut_slice.ensures.value c.settle_at.auto.list c.args.list.now.ok.0
    c.in_ok-settle_at.ensures in
    at_joins M c.args.list.now.items c.args.i c.args.on c.requires.distinct c.requires.within c.requires.plain
    c.requires.joins c.in-Some.j there y c.index-2.ensures plain (c.has_ended.ensures.0 c.if-not-has_ended.false) _
    after

pub returns-clause-distinct : goal.returns-clause-distinct
returns-clause-distinct g c =
    let M = machine_of (g.L.Language.rules c.args.language.now) in
    let there =
    found_at c.args.places.now.map c.args.list.now.items c.args.on c.in-Some.j c.requires.indexed
    (sym c.find.ensures ∙ c.in-Some.is) in
    let y = c.index-2.result.now in
    let plain =
    ap (λ v. v.joined)
    (same_read c.args.list.now.items c.in-Some.j y c.index.result.now there.within c.index-2.ensures c.index.ensures)
    ∙ c.if-index.false in
    let after =
    after_of M c.args.list.now.items c.as_mut_slice.result.now c.settle_at.new.list c.args.i c.in-Some.j
    c.args.list.now.len c.as_mut_slice.ensures.value c.settle_at.auto.list c.args.list.now.ok.0
    c.in_ok-settle_at.ensures in
    after_distinct M c.args.list.now.items c.args.i c.args.on c.requires.distinct c.requires.within c.requires.plain
    c.requires.joins c.in-Some.j there y c.index-2.ensures plain (c.has_ended.ensures.0 c.if-not-has_ended.false) _
    after

pub returns-clause-same : goal.returns-clause-same
returns-clause-same g c =
    let M = machine_of (g.L.Language.rules c.args.language.now) in
    let there =
    found_at c.args.places.now.map c.args.list.now.items c.args.on c.in-Some.j c.requires.indexed
    (sym c.find.ensures ∙ c.in-Some.is) in
    let after =
    after_of M c.args.list.now.items c.as_mut_slice.result.now c.settle_at.new.list c.args.i c.in-Some.j
    c.args.list.now.len c.as_mut_slice.ensures.value c.settle_at.auto.list c.args.list.now.ok.0
    c.in_ok-settle_at.ensures in
    after_paths M c.args.list.now.items c.args.i c.args.on c.requires.within c.in-Some.j there c.index-2.result.now _
    after

pub index-requires : goal.index-requires
index-requires g c =
    let there =
    found_at c.args.places.now.map c.args.list.now.items c.args.on c.in-Some.j c.requires.indexed
    (sym c.find.ensures ∙ c.in-Some.is) in
    let len = c.args.list.now.ok.0 in let h = there.within in omega arith

pub index-requires-2 : goal.index-requires-2
index-requires-2 g c =
    let there =
    found_at c.args.places.now.map c.args.list.now.items c.args.on c.in-Some.j c.requires.indexed
    (sym c.find.ensures ∙ c.in-Some.is) in
    let len = c.args.list.now.ok.0 in let h = there.within in omega arith

pub settle_at-requires-clause-target : goal.settle_at-requires-clause-target
settle_at-requires-clause-target g c =
    let there =
    found_at c.args.places.now.map c.args.list.now.items c.args.on c.in-Some.j c.requires.indexed
    (sym c.find.ensures ∙ c.in-Some.is) in
    subst (λ v. c.in-Some.j < length v) (sym c.as_mut_slice.ensures.value) there.within

pub settle_at-requires-clause-apart : goal.settle_at-requires-clause-apart
settle_at-requires-clause-apart g c =
    let M = machine_of (g.L.Language.rules c.args.language.now) in
    let there =
    found_at c.args.places.now.map c.args.list.now.items c.args.on c.in-Some.j c.requires.indexed
    (sym c.find.ensures ∙ c.in-Some.is) in
    let y = c.index-2.result.now in
    let plain =
    ap (λ v. v.joined)
    (same_read c.args.list.now.items c.in-Some.j y c.index.result.now there.within c.index-2.ensures c.index.ensures)
    ∙ c.if-index.false in
    apart M c.args.list.now.items c.args.i c.args.on c.requires.distinct c.requires.within c.requires.plain
    c.requires.joins c.in-Some.j there y c.index-2.ensures plain (c.has_ended.ensures.0 c.if-not-has_ended.false)

pub settle_at-requires-clause-joins : goal.settle_at-requires-clause-joins
settle_at-requires-clause-joins g c =
    let there =
    found_at c.args.places.now.map c.args.list.now.items c.args.on c.in-Some.j c.requires.indexed
    (sym c.find.ensures ∙ c.in-Some.is) in
    subst (λ v. JoinsPlace (g.L.Language.rules c.args.language.now) v c.args.i c.in-Some.j)
    (sym c.as_mut_slice.ensures.value) (λ d. c.requires.joins d ∙ ap Joins (sym (there.path d)))

pub settle_at-requires-clause-over : goal.settle_at-requires-clause-over
settle_at-requires-clause-over g c =
    let M = machine_of (g.L.Language.rules c.args.language.now) in
    let there =
    found_at c.args.places.now.map c.args.list.now.items c.args.on c.in-Some.j c.requires.indexed
    (sym c.find.ensures ∙ c.in-Some.is) in
    subst (λ v. NextIs (g.L.Language.rules c.args.language.now) v c.in-Some.j Ended) (sym c.as_mut_slice.ensures.value)
    (ends_at M c.args.list.now.items c.args.on c.in-Some.j there c.index-2.result.now c.index-2.ensures
    (c.has_ended.ensures.0 c.if-not-has_ended.false))
