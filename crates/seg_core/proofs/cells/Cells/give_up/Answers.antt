-- Answers of Cells::give_up: the count is that of the references and at least 1, so it may lose this one.
use Rattle.std.proofs.Common.{ℕ, suc, ◌<◌, [], ◌∷◌, map, refl, ap, ◌∙◌, arith, ⊎_elim, inr}
use Rattle.seg_core.specs.declared.segment.Stage.TheVariants as stage
use Rattle.seg_core.specs.Core.{Core, live, times}
use Rattle.seg_core.specs.Steps as core
use Rattle.seg_core.specs.Shape.{name_of, list_of}
use Rattle.seg_core.proofs.Maps.{map_inside}
use Rattle.seg_core.proofs.Sums.{total_one, is_at_same}
use Rattle.seg_core.proofs.Refers.{one_or_two, live_not_free}
use Rattle.seg_core.proofs.cells.Cells.give_up.Goals as goal

pub overflow_sub-count : goal.overflow_sub-count
overflow_sub-count c = let n = c.requires.counted (suc c.args.segment)
    (live c.requires.live.0 (name_of c.args.parent) c.args.count) (omega arith) c.requires.live.1 in
    let n0 = n.0 in let n1 = n.1 in omega arith

pub overflow_sub-count-2 : goal.overflow_sub-count-2
overflow_sub-count-2 c = let n = c.requires.counted (suc c.args.segment)
    (live c.requires.live.0 (name_of c.args.parent) c.args.count) (omega arith) c.requires.live.1 in
    let n0 = n.0 in let n1 = n.1 in omega arith

pub turn-requires : goal.turn-requires
turn-requires c = (stage.Live c.args.parent c.args.count, c.requires.live.0, c.requires.live.1)

pub turn-requires-2 : goal.turn-requires-2
turn-requires-2 c = (stage.Live c.args.parent c.args.count, c.requires.live.0, c.requires.live.1)

pub refer-requires : goal.refer-requires
refer-requires c = let h = map_inside list_of c.args.self.now.holders.items c.args.holder _
    c.if-refers.ensures in let long = c.args.self.now.long in let long1 = long.1 in omega arith

pub refer-requires-2 : goal.refer-requires-2
refer-requires-2 c = let h = map_inside list_of c.args.self.now.holders.items c.args.holder _
    c.if-not-refers.ensures in let long = c.args.self.now.long in let long1 = long.1 in omega arith

pub free-requires-clause-inside : goal.free-requires-clause-inside
free-requires-clause-inside c = let h = map_inside list_of c.args.self.now.holders.items
    c.args.holder _ c.if-not-refers.ensures in let long = c.args.self.now.long in
    let long1 = long.1 in omega arith

pub returns-then-refers-clause-done : goal.returns-then-refers-clause-done
returns-then-refers-clause-done c = λ done. let n =
    c.requires.counted (suc c.args.segment)
    (live c.requires.live.0 (name_of c.args.parent) c.args.count) (omega arith) c.requires.live.1 in
    let n0 = n.0 in let n1 = n.1 in let seg : ℕ = suc c.args.segment in let one = is_at_same seg in
    let two = total_one (times seg) (map list_of c.args.self.now.holders.items) c.args.holder
    (seg ∷ seg ∷ []) c.if-refers.ensures in (
      c.requires.live.0,
      name_of c.args.parent,
      c.args.count,
      seg ∷ [],
      omega arith,
      c.requires.live.1,
      c.if-refers.ensures,
      inr (
        (let many : 1 < c.args.count = omega arith in many),
        c.refer.ensures
            ∙ ap (λ (k : Core). core.list_to k c.args.holder (seg ∷ []))
            (c.turn.ensures.words (stage.Live c.args.parent c.args.count) c.requires.live.0
            (live_not_free c.args.parent c.args.count) c.requires.live.1),
      ),
    )

pub returns-then-not-refers-clause-refused : goal.returns-then-not-refers-clause-refused
returns-then-not-refers-clause-refused c =
    λ e. (
      refl,
      λ k t. ⊎_elim c.if-not-refers.ensures c.if-refers.ensures
          (one_or_two c.args.self.now.holders.items c.args.holder (suc c.args.segment) t.3 t.6),
    )

pub returns-clause-done : goal.returns-clause-done
returns-clause-done c = λ done. let n = c.requires.counted (suc c.args.segment)
    (live c.requires.live.0 (name_of c.args.parent) c.args.count) (omega arith) c.requires.live.1 in
    let n0 = n.0 in let n1 = n.1 in let seg : ℕ = suc c.args.segment in
    let other = c.if-count-eq1.false in (
      c.requires.live.0,
      name_of c.args.parent,
      c.args.count,
      [],
      omega arith,
      c.requires.live.1,
      c.if-not-refers.ensures,
      inr (
        (let many : 1 < c.args.count = omega arith in many),
        c.refer-2.ensures
            ∙ ap (λ (k : Core). core.list_to k c.args.holder [])
            (c.turn-2.ensures.words (stage.Live c.args.parent c.args.count) c.requires.live.0
            (live_not_free c.args.parent c.args.count) c.requires.live.1),
      ),
    )
