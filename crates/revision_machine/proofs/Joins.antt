-- The revision at a place, as it joins another.
use Rattle.std.proofs.Common.{◌≡◌, ◌≢◌, ℕ, ◌+◌, ◌<◌, ◌≤◌, true, false, List, None, ◌++◌, length, get_or, set, take, drop, Some, refl, sym, ap, ◌∙◌, subst}
use Rattle.rev_num.specs.Path.{Path}
use Rattle.revision_machine.specs.Machine.{Joins, Ended, Machine, Plain, Twice, Live, step}
use Rattle.revision_machine.specs.Conditions.{Counts, Handles, Spends}
use Rattle.revision_machine.specs.Laws.{IsDistinct}
use Rattle.revision_machine.specs.declared.state.RevisionRow.{RevisionRow}
use Rattle.revision_machine.specs.RevisionList.{paths, entry_with, globe}
use Rattle.revision_machine.specs.StepOutcomes.{WaitsOn, IsReached}
use Rattle.revision_machine.specs.ListStep.{IsAt, with_state, with_mark}
use Rattle.revision_machine.proofs.RevisionList.{paths_two}
use Rattle.revision_machine.proofs.Splits.{written_all}
use Rattle.revision_machine.proofs.Steps.{Reads, shown_at, twice, waits, differ, apart_paths, joins_both, distinct_both, reads, at_place, read_is, revision_at}
use Rattle.revision_machine.proofs.Reached.{target_stands, room_two}

-- the list after the join, read with any default
abbrev pub IsAfter : (M : Machine) → List (RevisionRow M.Local) → ℕ → ℕ → List (RevisionRow M.Local) → Type 0
IsAfter M revisions i j new =
    (d : RevisionRow M.Local)
    → new
    ≡ set (set revisions i (with_state (get_or revisions i d)
    (M.join (get_or revisions i d).path (get_or revisions i d).state (get_or revisions j d).path
    (get_or revisions j d).state)))
    j (with_mark (get_or revisions j d))

-- the same, written through a slice of the whole list
pub after_of : (M : Machine) (revisions res new : List (RevisionRow M.Local)) (i j n : ℕ) → res ≡ revisions
    → length new ≡ length res → n ≡ length revisions → IsAfter M res i j new
    → IsAfter M revisions i j (take n (new ++ drop (length new) revisions))
after_of M revisions res new i j n value kept len after =
    subst (IsAfter M revisions i j) (sym (written_all revisions new n (kept ∙ ap length value ∙ sym len)))
    (subst (λ v. IsAfter M v i j new) value after)

-- the paths stay as they were
pub after_paths : (M : Machine) (revisions : List (RevisionRow M.Local)) (i : ℕ) (q : Path) → i < length revisions
    → (j : ℕ) → IsAt revisions j q → RevisionRow M.Local
    → (new : List (RevisionRow M.Local)) → IsAfter M revisions i j new → paths new ≡ paths revisions
after_paths M revisions i q lt j there d new after =
    ap paths (after d) ∙ paths_two revisions i j d _ _ lt there.within refl refl

-- one that is read to have ended has done so, read with any default
pub ends_at : (M : Machine) (revisions : List (RevisionRow M.Local)) (q : Path) (j : ℕ) → IsAt revisions j q
    → (y : RevisionRow M.Local) → Reads revisions j y
    → M.next q y.state ≡ Ended → (d : RevisionRow M.Local)
    → M.next (get_or revisions j d).path (get_or revisions j d).state ≡ Ended
ends_at M revisions q j there y s ended d =
    ap (λ p. M.next p (get_or revisions j d).state) (there.path d)
    ∙ ap (λ v. M.next q v.state) (sym (read_is revisions j there.within d y s)) ∙ ended

module _ (M : Machine) (revisions : List (RevisionRow M.Local)) (i : ℕ) (q : Path)
    (distinct : IsDistinct (paths revisions)) (lt : i < length revisions)
    (plain : (d : RevisionRow M.Local) → (get_or revisions i d).joined ≡ false)
    (joins : (d : RevisionRow M.Local)
    → M.next (get_or revisions i d).path (get_or revisions i d).state ≡ Joins q) where
  here : (d : RevisionRow M.Local)
      → globe revisions (get_or revisions i d).path ≡ Some (Plain (get_or revisions i d).state)
  here d = shown_at revisions i (get_or revisions i d).path (get_or revisions i d) distinct (at_place revisions i lt d)
      (reads revisions i lt d)
      ∙ ap (λ b. Some (entry_with b (get_or revisions i d).state)) (plain d)

  module _ (j : ℕ) (there : IsAt revisions j q) (y : RevisionRow M.Local) (s : Reads revisions j y) where
    pub at_twice : y.joined ≡ true → (d : RevisionRow M.Local)
        → step M (Live (globe revisions)) (get_or revisions i d).path ≡ Some Twice
    at_twice e d =
        twice M revisions i (get_or revisions i d).path distinct (at_place revisions i lt d) (get_or revisions i d)
        (reads revisions i lt d) q (plain d) (joins d) j there y s e

    pub at_waits : y.joined ≡ false → M.next q y.state ≢ Ended → (d : RevisionRow M.Local)
        → WaitsOn M (globe revisions) (get_or revisions i d).path q
    at_waits e f d =
        waits M revisions i (get_or revisions i d).path distinct (at_place revisions i lt d) (get_or revisions i d)
        (reads revisions i lt d) q (plain d) (joins d) j there y s e f

    pub apart : y.joined ≡ false → M.next q y.state ≡ Ended → i ≢ j
    apart e f g =
        differ M revisions i y'.path distinct (at_place revisions i lt y) y' (reads revisions i lt y) q (plain y)
        (joins y) j there y s e f (sym g)
      where
        y' : RevisionRow M.Local
        y' = get_or revisions i y

    after_is : (new : List (RevisionRow M.Local)) → IsAfter M revisions i j new → (d : RevisionRow M.Local)
        → new
        ≡ set (set revisions i (with_state (get_or revisions i d)
        (M.join (get_or revisions i d).path (get_or revisions i d).state q (get_or revisions j d).state)))
        j (with_mark (get_or revisions j d))
    after_is new after d =
        after d
        ∙ ap (λ v.
        set (set revisions i (with_state (get_or revisions i d)
        (M.join (get_or revisions i d).path (get_or revisions i d).state v (get_or revisions j d).state)))
        j (with_mark (get_or revisions j d)))
        (there.path d)

    module _ (unmarked : y.joined ≡ false) (ended : M.next q y.state ≡ Ended) where
      same : (d : RevisionRow M.Local) → y ≡ get_or revisions j d
      same d = read_is revisions j there.within d y s

      unmarked_at : (d : RevisionRow M.Local) → (get_or revisions j d).joined ≡ false
      unmarked_at d = ap (λ v. v.joined) (sym (same d)) ∙ unmarked

      ended_at : (d : RevisionRow M.Local) → M.next q (get_or revisions j d).state ≡ Ended
      ended_at d = ap (λ v. M.next q v.state) (sym (same d)) ∙ ended

      pub at_joins : (new : List (RevisionRow M.Local)) → IsAfter M revisions i j new → (d : RevisionRow M.Local)
          → step M (Live (globe revisions)) (get_or revisions i d).path ≡ Some (Live (globe new))
      at_joins new after d =
          joins_both M revisions i (get_or revisions i d).path distinct (at_place revisions i lt d)
          (get_or revisions i d) (reads revisions i lt d) q (plain d) (joins d) j there (get_or revisions j d)
          (reads revisions j there.within d) (unmarked_at d) (ended_at d)
          ∙ ap (λ v. Some (Live (globe v))) (sym (after_is new after d))

      pub after_distinct : (new : List (RevisionRow M.Local)) → IsAfter M revisions i j new → IsDistinct (paths new)
      after_distinct new after =
          subst (λ v. IsDistinct (paths v)) (sym (after y))
          (distinct_both M revisions i (get_or revisions i y).path distinct (at_place revisions i lt y)
          (get_or revisions i y) (reads revisions i lt y) q (plain y) (joins y) j there (get_or revisions j y)
          (reads revisions j there.within y) (unmarked_at y) (ended_at y) _)

      pub at_room : (holds : M.Local → Path → Type 0) (weight : M.Local → ℕ) (limit : ℕ) → Counts M → Handles M holds
          → Spends M 1 weight → IsReached M holds (λ l. M.forks l + weight l) limit (Live (globe revisions))
          → (d : RevisionRow M.Local)
          → M.forks (get_or revisions i d).state + weight (get_or revisions i d).state
          + (M.forks (get_or revisions j d).state + weight (get_or revisions j d).state)
          ≤ limit
      at_room holds weight limit counts H spends is d =
          let there' : globe revisions q ≡ Some (Plain (get_or revisions j d).state) =
          shown_at revisions j q (get_or revisions j d) distinct there (reads revisions j there.within d)
          ∙ ap (λ b. Some (entry_with b (get_or revisions j d).state)) (unmarked_at d) in
          room_two M holds weight limit counts H spends (globe revisions) is (get_or revisions i d).path q
          (get_or revisions i d).state (get_or revisions j d).state (here d) there'
          (apart_paths M revisions i (get_or revisions i d).path distinct (at_place revisions i lt d)
          (get_or revisions i d) (reads revisions i lt d) q (plain d) (joins d) j there (get_or revisions j d)
          (reads revisions j there.within d) (unmarked_at d) (ended_at d))

  pub at_none : (holds : M.Local → Path → Type 0) (weight : M.Local → ℕ) (limit : ℕ) → Counts M → Handles M holds
      → Spends M 1 weight → IsReached M holds (λ l. M.forks l + weight l) limit (Live (globe revisions))
      → globe revisions q ≡ None → ⊥
  at_none holds weight limit counts H spends is none =
      let d = (revision_at revisions i lt).0 in
      let b = target_stands M holds weight limit counts H spends (globe revisions) is (get_or revisions i d).path q
      (get_or revisions i d).state (here d) (joins d) in
      let clash : None ≡ Some b.0 = sym none ∙ b.1 in
      cc
