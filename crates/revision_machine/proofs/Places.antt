-- The revision at a place, as it steps by itself.
use Rattle.std.proofs.Common.{◌≡◌, ℕ, ◌+◌, ◌<◌, ◌≤◌, true, false, List, [], ◌∷◌, ◌++◌, get_or, set, length, Some, refl, sym, ap, ◌∙◌, subst}
use Rattle.rev_num.specs.Path.{Path, child}
use Rattle.revision_machine.specs.Machine.{Moves, Forks, Ended, Machine, Plain, Live, step}
use Rattle.revision_machine.specs.Conditions.{Counts, Handles, Spends}
use Rattle.revision_machine.specs.Laws.{IsDistinct}
use Rattle.revision_machine.specs.declared.state.RevisionRow.{RevisionRow}
use Rattle.revision_machine.specs.RevisionList.{paths, entry_with, globe}
use Rattle.revision_machine.specs.StepOutcomes.{IsEndedEntry, IsReached}
use Rattle.revision_machine.specs.ListStep.{IsAt, with_state}
use Rattle.revision_machine.proofs.Steps.{Reads, shown_at, over_marked, over_ended, moved, forks, distinct_forked, set_back, distinct_set, at_place, read_is}
use Rattle.revision_machine.proofs.Reached.{is_forked, room_one}

module _ (M : Machine) (revisions : List (RevisionRow M.Local)) (i : ℕ) (distinct : IsDistinct (paths revisions))
    (lt : i < length revisions) (x : RevisionRow M.Local) (r : Reads revisions i x) where
  path_is : (d : RevisionRow M.Local) → x.path ≡ (get_or revisions i d).path
  path_is d = ap (λ v. v.path) (read_is revisions i lt d x r)

  at_x : IsAt revisions i x.path
  at_x = subst (λ v. IsAt revisions i v) (sym (path_is x)) (at_place revisions i lt x)

  pub over_marked_at : x.joined ≡ true → (d : RevisionRow M.Local)
      → IsEndedEntry M (get_or revisions i d).path (globe revisions (get_or revisions i d).path)
  over_marked_at e d =
      subst (λ v. IsEndedEntry M v (globe revisions v)) (path_is d)
      (over_marked M revisions i x.path distinct at_x x r e)

  module _ (plain : x.joined ≡ false) where
    pub over_ended_at : M.next x.path x.state ≡ Ended → (d : RevisionRow M.Local)
        → IsEndedEntry M (get_or revisions i d).path (globe revisions (get_or revisions i d).path)
    over_ended_at f d =
        subst (λ v. IsEndedEntry M v (globe revisions v)) (path_is d)
        (over_ended M revisions i x.path distinct at_x x r plain f)

    pub moved_at : (l : M.Local) → M.next x.path x.state ≡ Moves l → (d : RevisionRow M.Local)
        → step M (Live (globe revisions)) (get_or revisions i d).path
        ≡ Some (Live (globe (set revisions i (with_state x l))))
    moved_at l f d =
        subst (λ v. step M (Live (globe revisions)) v ≡ Some (Live (globe (set revisions i (with_state x l)))))
        (path_is d) (moved M revisions i x.path distinct at_x x r plain l f)

    module _ (holds : M.Local → Path → Type 0) (weight : M.Local → ℕ) (limit : ℕ) (counts : Counts M)
        (H : Handles M holds) (spends : Spends M 1 weight)
        (is : IsReached M holds (λ l. M.forks l + weight l) limit (Live (globe revisions))) where
      pub room_at : M.forks x.state + weight x.state ≤ limit
      room_at = room_one M holds weight limit counts H spends (globe revisions) is x.path x.state
          (shown_at revisions i x.path x distinct at_x r ∙ ap (λ b. Some (entry_with b x.state)) plain)

      module _ (l c : M.Local) (t : RevisionRow M.Local) (path : t.path ≡ child x.path (M.forks x.state)) where
        pub forks_at : M.next x.path x.state ≡ Forks l c → entry_with t.joined t.state ≡ Plain c
            → (d : RevisionRow M.Local)
            → step M (Live (globe revisions)) (get_or revisions i d).path
            ≡ Some (Live (globe (set revisions i (with_state x l) ++ t ∷ [])))
        forks_at f e d =
            subst
            (λ v. step M (Live (globe revisions)) v ≡ Some (Live (globe (set revisions i (with_state x l) ++ t ∷ []))))
            (path_is d)
            (forks M revisions i x.path distinct at_x x r
            (is_forked M holds weight limit counts H spends (globe revisions) is) plain l c t f path e)

        pub forks_distinct : IsDistinct (paths (set revisions i (with_state x l) ++ t ∷ []))
        forks_distinct =
            distinct_forked M revisions i x.path distinct at_x x r
            (is_forked M holds weight limit counts H spends (globe revisions) is) plain l t path

  pub distinct_at : (l : M.Local) → IsDistinct (paths (set revisions i (with_state x l)))
  distinct_at l = distinct_set revisions i x (with_state x l) distinct lt r refl

  -- a state that was taken out and put back as it was
  pub unchanged : (l : M.Local) → l ≡ x.state → set revisions i (with_state x l) ≡ revisions
  unchanged l e = set_back revisions i x l r e
