-- Answers of Store::fork: after a share, a push or a copy, child and hold show the delta over the hold's base.
use Rattle.std.proofs.Common.{arith, ◌<◌, ◌++◌, ℕ, List, sym, ap, ◌∙◌, subst, refl}
use Rattle.std.proofs.lemmas.Result.{IfOk-weaker}
use Rattle.version_map.specs.declared.delta.Delta.{Delta}
use Rattle.version_map.specs.Overlay.{under}
use Rattle.segment_store.specs.Places.{view}
use Rattle.segment_store.specs.Entry.{Look}
use Rattle.segment_store.specs.declared.board.SegmentView.{SegmentView}
use Rattle.segment_store.specs.Names.{base}
use Rattle.segment_store.proofs.Forks.{own_none}
use Rattle.segment_store.proofs.Bases.{Still, same_base, same_under, based_under, none_under}
use Rattle.segment_store.proofs.store.Store.fork.Goals.{then-is_empty+in_default, else-is_empty}
use Rattle.segment_store.proofs.store.Store.fork.Goals as goal

pub returns-in-Some-clause-parent : goal.returns-in-Some-clause-parent
returns-in-Some-clause-parent c = λ l lt.
    same_under c.args.self.now c.args.delta.now c.args.hold.now c.fork_share.new.hold l c.fork_share.ensures.own.1

pub returns-in-Some-clause-child : goal.returns-in-Some-clause-child
returns-in-Some-clause-child c =
    let e = c.in-Some.ensures.child in let s = c.args.self.now in let h = c.args.hold.now in (
      e.0,
      λ l lt. same_base s h c.in-Some.child l (e.1, e.2 ∙ sym e.3)
          ∙ sym (none_under s c.args.delta.now h l
          (c.if-is_empty.ensures l (subst (λ (n : ℕ). l < n) (sym c.requires.own.1) lt))),
    )

pub returns-then-hold-ge-LONGEST-clause-child : goal.returns-then-hold-ge-LONGEST-clause-child
returns-then-hold-ge-LONGEST-clause-child c = let s = c.args.self.now in let h = c.args.hold.now in
    let kept : Still s h c.if-is_empty.hold = elim c.if-is_empty.branch [
      | then-is_empty+in_default w ↦ subst (Still s h) (sym w.hold-is) (
        w.fork_share.ensures.own.0,
        w.fork_share.ensures.own.1,
        ap (λ (m : SegmentView). m.log) w.in_default.ensures.none,
      )
      | else-is_empty w ↦ subst (Still s h) (sym w.hold-is) (c.requires.own.0, (refl, refl), refl)
    ] in let k = c.if-is_empty.hold in let d = c.args.delta.now in
    IfOk-weaker c.fork_long.result _ _
    (λ r q. (q.0, λ l lt. q.1 l lt ∙ same_under s d h k l kept.1)) c.fork_long.ensures.child

pub returns-then-hold-ge-LONGEST-clause-parent : goal.returns-then-hold-ge-LONGEST-clause-parent
returns-then-hold-ge-LONGEST-clause-parent c = let s = c.args.self.now in let h = c.args.hold.now in
    let kept : Still s h c.if-is_empty.hold = elim c.if-is_empty.branch [
      | then-is_empty+in_default w ↦ subst (Still s h) (sym w.hold-is) (
        w.fork_share.ensures.own.0,
        w.fork_share.ensures.own.1,
        ap (λ (m : SegmentView). m.log) w.in_default.ensures.none,
      )
      | else-is_empty w ↦ subst (Still s h) (sym w.hold-is) (c.requires.own.0, (refl, refl), refl)
    ] in let k = c.if-is_empty.hold in let d = c.args.delta.now in
    λ l lt. c.fork_long.ensures.parent l lt ∙ same_under s d h k l kept.1

pub returns-then-hold-ge-LONGEST-clause-copied : goal.returns-then-hold-ge-LONGEST-clause-copied
returns-then-hold-ge-LONGEST-clause-copied c = let s = c.args.self.now in let h = c.args.hold.now in
    let kept : Still s h c.if-is_empty.hold = elim c.if-is_empty.branch [
      | then-is_empty+in_default w ↦ subst (Still s h) (sym w.hold-is) (
        w.fork_share.ensures.own.0,
        w.fork_share.ensures.own.1,
        ap (λ (m : SegmentView). m.log) w.in_default.ensures.none,
      )
      | else-is_empty w ↦ subst (Still s h) (sym w.hold-is) (c.requires.own.0, (refl, refl), refl)
    ] in let k = c.if-is_empty.hold in let d = c.args.delta.now in
    IfOk-weaker c.fork_long.result _ _ (λ r q is. let p = q is in (
      p.0,
      λ l lt. p.1 l lt ∙ same_base s h k l kept.1,
      p.2,
      (p.3.0, p.3.1 ∙ ap (λ (ls : List Look). p.3.0 ++ ls) kept.2, p.3.2),
    )) c.fork_long.ensures.copied

pub returns-in-Some-fork_push-clause-child : goal.returns-in-Some-fork_push-clause-child
returns-in-Some-fork_push-clause-child c = let s = c.args.self.now in let h = c.args.hold.now in
    let kept : Still s h c.if-is_empty.hold = elim c.if-is_empty.branch [
      | then-is_empty+in_default w ↦ subst (Still s h) (sym w.hold-is) (
        w.fork_share.ensures.own.0,
        w.fork_share.ensures.own.1,
        ap (λ (m : SegmentView). m.log) w.in_default.ensures.none,
      )
      | else-is_empty w ↦ subst (Still s h) (sym w.hold-is) (c.requires.own.0, (refl, refl), refl)
    ] in let k = c.if-is_empty.hold in let d = c.args.delta.now in
    let e = c.in-Some-fork_push.ensures in (
      e.child.0,
      λ l lt. e.base l lt ∙ same_under s d h k l kept.1,
    )

pub returns-in-Some-fork_push-clause-parent : goal.returns-in-Some-fork_push-clause-parent
returns-in-Some-fork_push-clause-parent c = let s = c.args.self.now in let h = c.args.hold.now in
    let kept : Still s h c.if-is_empty.hold = elim c.if-is_empty.branch [
      | then-is_empty+in_default w ↦ subst (Still s h) (sym w.hold-is) (
        w.fork_share.ensures.own.0,
        w.fork_share.ensures.own.1,
        ap (λ (m : SegmentView). m.log) w.in_default.ensures.none,
      )
      | else-is_empty w ↦ subst (Still s h) (sym w.hold-is) (c.requires.own.0, (refl, refl), refl)
    ] in let k = c.if-is_empty.hold in let d = c.args.delta.now in
    λ l lt. let e = c.in-Some-fork_push.ensures in let new = c.fork_push.new.hold in
    none_under s c.fork_push.new.delta new l
    (e.empty l (subst (λ (n : ℕ). l < n) (sym (e.own.1 ∙ c.requires.own.1)) lt))
    ∙ (sym (same_base s new c.in-Some-fork_push.child l (e.child.1, e.child.2 ∙ sym e.child.3))
    ∙ (e.base l lt ∙ same_under s d h k l kept.1))

pub returns-clause-child : goal.returns-clause-child
returns-clause-child c = let s = c.args.self.now in let h = c.args.hold.now in
    let kept : Still s h c.if-is_empty.hold = elim c.if-is_empty.branch [
      | then-is_empty+in_default w ↦ subst (Still s h) (sym w.hold-is) (
        w.fork_share.ensures.own.0,
        w.fork_share.ensures.own.1,
        ap (λ (m : SegmentView). m.log) w.in_default.ensures.none,
      )
      | else-is_empty w ↦ subst (Still s h) (sym w.hold-is) (c.requires.own.0, (refl, refl), refl)
    ] in let k = c.if-is_empty.hold in let d = c.args.delta.now in
    let n = c.in_default-fork_push.ensures.none in let f = c.fork_own.ensures in
    let pushed = c.fork_push.new.hold in (
      f.child.0,
      λ l lt. f.base l ∙ (c.in_ok-words.ensures.words.1 l lt
          ∙ (ap (λ (x : Delta). under x (base s pushed) l) n.1
          ∙ (same_under s d k pushed l n.0 ∙ same_under s d h k l kept.1))),
    )

pub returns-clause-parent : goal.returns-clause-parent
returns-clause-parent c = let s = c.args.self.now in let h = c.args.hold.now in
    let kept : Still s h c.if-is_empty.hold = elim c.if-is_empty.branch [
      | then-is_empty+in_default w ↦ subst (Still s h) (sym w.hold-is) (
        w.fork_share.ensures.own.0,
        w.fork_share.ensures.own.1,
        ap (λ (m : SegmentView). m.log) w.in_default.ensures.none,
      )
      | else-is_empty w ↦ subst (Still s h) (sym w.hold-is) (c.requires.own.0, (refl, refl), refl)
    ] in let k = c.if-is_empty.hold in let d = c.args.delta.now in
    let n = c.in_default-fork_push.ensures.none in let pushed = c.fork_push.new.hold in
    let copied = c.copy.new.hold in let new = c.fork_own.new.hold in λ l lt.
    ap (λ (x : Delta). under x (base s new) l) n.1
    ∙ (same_under s d copied new l c.fork_own.ensures.own.1
    ∙ (based_under s d pushed copied l lt c.copy.ensures.own.1
    ∙ (same_under s d k pushed l n.0 ∙ same_under s d h k l kept.1)))

pub fork_long-requires-clause-some : goal.fork_long-requires-clause-some
fork_long-requires-clause-some c = let k = c.if-is_empty.hold in
    let long = c.if-hold-ge-LONGEST.true in (
      omega arith,
      own_none (view k.seat) k.own k.rests k.own_words (λ e. omega arith),
    )
