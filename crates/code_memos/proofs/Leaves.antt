-- A revision that its first event ends has that end where a run is complete.
use Rattle.std.proofs.Common.{◌≡◌, ◌∙◌, ◌⊎◌, inl, inr, Some, refl, sym, ap, subst}
use Rattle.rev_num.specs.Path.{Path}
use Rattle.rev_num.proofs.Options.{none_some}
use Rattle.revision_machine.specs.Machine.{Event, Moves, Forks, Joins, Ended, Machine, Entry, Plain, Joined, Global, Twice, Live, start, step_at, happens, Runs, Final, Complete, Reached}
use Rattle.revision_machine.specs.Conditions.{Counts, IsKept}
use Rattle.revision_machine.specs.Laws.{local_of, KeptLaw}
use Rattle.revision_machine.proofs.KeptByEvents.{kept_law}
use Rattle.revision_machine.proofs.Standing.{standing_law}
use Rattle.code_memos.specs.Births.{LeavesEnd}
use Rattle.code_memos.proofs.Witness.{with_birth, Both, W, plain_entry, plain_option, plain_map, plain, lift, start_same, final_same, moves_count, forks_count, joins_count}
use Rattle.code_memos.proofs.Births.{of_born}

module _ (M : Machine) (main : M.Local) where
  -- one that its first event ends has not begun, or has ended
  abbrev Two : Path → Both M → Type 0
  Two r l = (a : M.Local) → M.next r l.1 ≡ Moves a → M.next r a ≡ Ended → (l.0 ≡ l.1) ⊎ (l.0 ≡ a)

  abbrev Same : Event M.Local → Event M.Local → Type 0
  Same v w = v ≡ w

  same_move : (r : Path) (b a k : M.Local) → M.next r b ≡ Moves a → M.next r b ≡ Moves k → k ≡ a
  same_move r b a k e f = let z : Moves k ≡ Moves a = sym f ∙ e in cc

  moved_birth : (b : M.Local) (k : Both M) (v : Event M.Local) → with_birth b v ≡ Moves k → k.1 ≡ b
  moved_birth b k (Moves j) f = let z : Moves (j, b) ≡ Moves k = f in let w : (j, b) ≡ k = cc in sym (ap (λ u. u.1) w)
  moved_birth b k (Forks j c) f = absurd (let z : Forks (j, b) (c, c) ≡ Moves k = f in cc)
  moved_birth b k (Joins q) f = absurd (let z : Joins q ≡ Moves k = f in cc)
  moved_birth b k Ended f = absurd (let z : Ended ≡ Moves k = f in cc)

  forked_birth : (b : M.Local) (k c : Both M) (v : Event M.Local) → with_birth b v ≡ Forks k c → (k.1 ≡ b) × (c.0 ≡ c.1)
  forked_birth b k c (Forks j d) f =
      let z : Forks (j, b) (d, d) ≡ Forks k c = f in
      let w : (j, b) ≡ k = cc in let x : (d, d) ≡ c = cc in
      (sym (ap (λ u. u.1) w), sym (ap (λ u. u.0) x) ∙ ap (λ u. u.1) x)
  forked_birth b k c (Moves j) f = absurd (let z : Moves (j, b) ≡ Forks k c = f in cc)
  forked_birth b k c (Joins q) f = absurd (let z : Joins q ≡ Forks k c = f in cc)
  forked_birth b k c Ended f = absurd (let z : Ended ≡ Forks k c = f in cc)

  -- what goes on otherwise is neither
  neither : (r : Path) (l : Both M) (a : M.Local) (v : Event M.Local) → M.next r l.0 ≡ v → M.next r l.1 ≡ Moves a
      → M.next r a ≡ Ended → (l.0 ≡ l.1) ⊎ (l.0 ≡ a) → Same v (Moves a) ⊎ Same v Ended
  neither r l a v is first last (inl e) = inl (sym is ∙ ap (M.next r) e ∙ first)
  neither r l a v is first last (inr e) = inr (sym is ∙ ap (M.next r) e ∙ last)

  kept : IsKept (W M) Two
  kept = record {
    moves = λ r l k two does a first last.
        let does' = moves_count M l k (M.next r l.0) does in
        let birth = moved_birth l.1 k (M.next r l.0) does in
        let first' : M.next r l.1 ≡ Moves a = ap (M.next r) (sym birth) ∙ first in
        by_move r l k a does' birth (neither r l a (Moves k.0) does' first' last (two a first' last));
    forker = λ r l k c two does a first last.
        let does' = forks_count M l k c (M.next r l.0) does in
        let birth = (forked_birth l.1 k c (M.next r l.0) does).0 in
        let first' : M.next r l.1 ≡ Moves a = ap (M.next r) (sym birth) ∙ first in
        absurd (no_fork a k.0 c.0 (neither r l a (Forks k.0 c.0) does' first' last (two a first' last)));
    forked = λ r l k c two does a first last. inl (forked_birth l.1 k c (M.next r l.0) does).1;
    joins = λ r q l lq two other does over a first last.
        absurd (no_join a q
        (neither r l a (Joins q) (joins_count M l q (M.next r l.0) does) first last (two a first last)));
  }
    where
      by_move : (r : Path) (l k : Both M) (a : M.Local) → M.next r l.0 ≡ Moves k.0 → k.1 ≡ l.1
          → Same (Moves k.0) (Moves a) ⊎ Same (Moves k.0) Ended → (k.0 ≡ k.1) ⊎ (k.0 ≡ a)
      by_move r l k a does birth (inl e) = inr (let z : Moves k.0 ≡ Moves a = e in cc)
      by_move r l k a does birth (inr e) = absurd (let z : Moves k.0 ≡ Ended = e in cc)

      no_fork : (a k c : M.Local) → Same (Forks k c) (Moves a) ⊎ Same (Forks k c) Ended → ⊥
      no_fork a k c (inl e) = let z : Forks k c ≡ Moves a = e in cc
      no_fork a k c (inr e) = let z : Forks k c ≡ Ended = e in cc

      no_join : (a : M.Local) (q : Path) → Same (Joins q) (Moves a) ⊎ Same (Joins q) Ended → ⊥
      no_join a q (inl e) = let z : Joins q ≡ Moves a = e in cc
      no_join a q (inr e) = let z : Joins q ≡ Ended = e in cc

  two_law : KeptLaw (W M) (main, main) Two
  two_law = kept_law (W M) (main, main) Two kept (λ a first last. inl refl)

  module _ (counts : Counts M) where
    pub leaves_end : LeavesEnd M main
    leaves_end rs h complete r b a born first last =
        let run =
        lift M rs (start (W M) (main, main)) (Live h)
        (subst (λ m. Runs M m rs (Live h)) (sym (start_same M main)) complete.runs) in
        in_end run.end run.runs run.is
      where
        in_end : (g : Global (Both M)) → Runs (W M) (start (W M) (main, main)) rs g → plain M g ≡ Live h
            → (e : Entry M.Local) × (h r ≡ Some e) × (local_of e ≡ a)
        in_end Twice runs is = absurd (let z : Twice ≡ Live h = is in cc)
        in_end (Live us) runs is = by x.0 x.1 x.2
          where
            final : Final (W M) (Live us)
            final = final_same M (Live us) (subst (Final M) (sym is) complete.final)

            whole : Complete (W M) (start (W M) (main, main)) rs (Live us)
            whole = record { runs = runs; final = final }

            reached : Reached (W M) (main, main) (Live us)
            reached = record { by = rs; runs = runs }

            x : (e : Entry (Both M)) × (us r ≡ Some e) × ((local_of e).1 ≡ b)
            x = of_born M main counts rs (Live us) whole r b born

            same : plain_map M us ≡ h
            same = (let z : Live (plain_map M us) ≡ Live h = is in cc)

            at_end : (e : Entry (Both M)) → us r ≡ Some e → h r ≡ Some (plain_entry M e)
            at_end e there = ap (λ m. m r) (sym same) ∙ ap (plain_option M) there

            two : (e : Entry (Both M)) → us r ≡ Some e → (local_of e).1 ≡ b
                → ((local_of e).0 ≡ (local_of e).1) ⊎ ((local_of e).0 ≡ a)
            two e there birth = two_law (Live us) reached r e there a (ap (M.next r) birth ∙ first) last

            -- one that has not begun could step, and is not marked
            begun_plain : (l : Both M) → us r ≡ Some (Plain l) → l.0 ≡ b → ⊥
            begun_plain l there e =
                let does : (W M).next r l ≡ Moves (a, l.1) = ap (with_birth l.1) (ap (M.next r) e ∙ first) in
                none_some (sym (final r) ∙ ap (step_at (W M) us r) there ∙ ap (happens (W M) us r l) does)

            begun_joined : (l : Both M) → us r ≡ Some (Joined l) → l.0 ≡ b → ⊥
            begun_joined l there e =
                let over = (standing_law (W M) (main, main) (Live us) reached).marked r l there in
                let does : (W M).next r l ≡ Moves (a, l.1) = ap (with_birth l.1) (ap (M.next r) e ∙ first) in
                (let z : Moves (a, l.1) ≡ Ended = sym does ∙ over in cc)

            by : (e : Entry (Both M)) → us r ≡ Some e → (local_of e).1 ≡ b
                → (e : Entry M.Local) × (h r ≡ Some e) × (local_of e ≡ a)
            by (Plain l) there birth = of_plain (two (Plain l) there birth)
              where
                of_plain : (l.0 ≡ l.1) ⊎ (l.0 ≡ a) → (e : Entry M.Local) × (h r ≡ Some e) × (local_of e ≡ a)
                of_plain (inl e) = absurd (begun_plain l there (e ∙ birth))
                of_plain (inr e) = (Plain l.0, at_end (Plain l) there, e)
            by (Joined l) there birth = of_joined (two (Joined l) there birth)
              where
                of_joined : (l.0 ≡ l.1) ⊎ (l.0 ≡ a) → (e : Entry M.Local) × (h r ≡ Some e) × (local_of e ≡ a)
                of_joined (inl e) = absurd (begun_joined l there (e ∙ birth))
                of_joined (inr e) = (Joined l.0, at_end (Joined l) there, e)
