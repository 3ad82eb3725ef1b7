-- What a leg does to what is recorded and counted so far, and what that is at the end.
use Rattle.std.proofs.Common.{◌≡◌, ◌⊎◌, inl, inr, ◌∙◌, ◌≤◌, ℕ, zero, suc, List, [], ◌∷◌, ◌++◌, Some, refl, sym, ap, subst}
use Rattle.rev_num.specs.Path.{Path}
use Rattle.rev_num.specs.Limits.{most_fuel}
use Rattle.rev_num.proofs.Options.{none_some}
use Rattle.revision_machine.specs.Machine.{Entry, Plain}
use Rattle.revision_machine.specs.Laws.{local_of, IsIn, IsDistinct}
use Rattle.revision_machine.specs.Numbered as numbers
use Rattle.revision_machine.specs.Numbered.{Entries, World, Both, Listing, at_number, paths_of, begin, Replays}
use Rattle.revision_machine.proofs.Numbers.{number_at, path_at}
use Rattle.revision_machine.proofs.Paths.{distinct_more}
use Rattle.revision_machine.proofs.RevisionList.{in-push}
use Rattle.code_machine.specs.Local.{CodeRun, IsVerified, Local, at_work}
use Rattle.code_machine.specs.Machines.{numbered, IsMain, start_in}
use Rattle.code_machine.specs.Proper.{IsOver}
use Rattle.code_machine.proofs.Ending.{none_blocked}
use Rattle.code_memos.specs.Leaf.{Known}
use Rattle.code_memos.specs.Memo.{IsEntry, IsAmong, paths_of as entry_paths, HasValid}
use Rattle.code_memos.specs.ByNumber.{Refused}
use Rattle.code_memos.proofs.ByNumber.{recorded_by_number, counted_by_number}
use Rattle.code_memos.proofs.Numbers.{has_state}
use Rattle.code_machine_laws.specs.Reached.{IsReached}
pub use Rattle.world_runs.proofs.Noting.{not_over}
use Rattle.rev_record.specs.SoFar.{LeafLeg, IsOverAt, RecordedSoFar, IsRecordedSoFar, CountedSoFar, IsCountedSoFar}
use Rattle.rev_record.specs.RunLaws.{RecordedAtTheStart, RecordedWithout, RecordedWith, RecordedAtTheEnd, CountedAtTheStart, CountedWithout, CountedWith, CountedAtTheEnd}
use Rattle.rev_record.proofs.Leaves.{one_row, leaf_over, still_over, UnlistedOver, had_ended, is_leaf, unlisted_over}

module _ (g : CodeRun) (number : ℕ) (main : IsMain g number) (fuel : ℕ) where
  -- ---- one entry more

  among_front : (es : List Known) (e x : Known) → IsAmong g number main fuel x es
      → IsAmong g number main fuel x (es ++ e ∷ [])
  among_front [] e x i = absurd i
  among_front (y ∷ es) e x (inl is) = inl is
  among_front (y ∷ es) e x (inr i) = inr (among_front es e x i)

  among_last : (es : List Known) (e : Known) → IsAmong g number main fuel e (es ++ e ∷ [])
  among_last [] e = inl refl
  among_last (y ∷ es) e = inr (among_last es e)

  among_more : (es : List Known) (e x : Known) → IsAmong g number main fuel x (es ++ e ∷ [])
      → IsAmong g number main fuel x es ⊎ (x ≡ e)
  among_more [] e x (inl is) = inr is
  among_more [] e x (inr i) = absurd i
  among_more (y ∷ es) e x (inl is) = inl (inl is)
  among_more (y ∷ es) e x (inr i) = by (among_more es e x i)
    where
      by : IsAmong g number main fuel x es ⊎ (x ≡ e) → IsAmong g number main fuel x (y ∷ es) ⊎ (x ≡ e)
      by (inl j) = inl (inr j)
      by (inr is) = inr is

  paths_more : (es : List Known) (e : Known)
      → entry_paths g number main fuel (es ++ e ∷ []) ≡ entry_paths g number main fuel es ++ e.path ∷ []
  paths_more [] e = refl
  paths_more (y ∷ es) e = ap (λ ps. y.path ∷ ps) (paths_more es e)

  among_path : (es : List Known) (p : Path) → IsIn p (entry_paths g number main fuel es)
      → (x : Known) × IsAmong g number main fuel x es × (x.path ≡ p)
  among_path [] p i = absurd i
  among_path (y ∷ es) p (inl is) = (y, inl refl, sym is)
  among_path (y ∷ es) p (inr i) = let x = among_path es p i in (x.0, inr x.1, x.2)

  in_front : (ps : List Path) (p q : Path) → IsIn q ps → IsIn q (ps ++ p ∷ [])
  in_front [] p q i = absurd i
  in_front (r ∷ ps) p q (inl is) = inl is
  in_front (r ∷ ps) p q (inr i) = inr (in_front ps p q i)

  in_last : (ps : List Path) (p : Path) → IsIn p (ps ++ p ∷ [])
  in_last [] p = inl refl
  in_last (r ∷ ps) p = inr (in_last ps p)

  -- ---- the start

  -- `main` has not ended
  none_at_start : (n : ℕ) (r : Path) (x : Entry (Local ℕ))
      → at_number {A = Path × Entry (Local ℕ)} (([], Plain (start_in g number main.body fuel)) ∷ []) n ≡ Some (r, x)
      → IsOver (local_of x) → ⊥
  none_at_start zero r x there over =
      let row = one_row _ [] r (Plain (start_in g number main.body fuel)) x refl there in
      not_over (local_of x) (ap (λ (z : Entry (Local ℕ)). (local_of z).phase) (sym row.1)) over
  none_at_start (suc n) r x there over = none_some there

  -- ---- a leg

  module _ (ok : IsVerified g) (few : fuel ≤ most_fuel) (ns : List ℕ) (w : Entries (Local ℕ))
      (replays : Replays (numbered g) (begin (numbered g) (start_in g number main.body fuel)) ns (Listing w))
      (n : ℕ) (u : Entries (Local ℕ)) (e : numbers.leg (numbered g) (Listing w) n ≡ Some (Listing u)) where
    reached : IsReached g (Listing w)
    reached = record { number = number; main = main; fuel = fuel; few = few; schedule = ns; replays = replays }

    -- the revision of a leaf has not ended before its leg
    new_leaf : (r : Path) (l : Local ℕ) → LeafLeg g w n r l → IsOverAt w r → ⊥
    new_leaf r l leaf x =
        let distinct : IsDistinct (paths_of w) = (has_state g ok number main fuel ns w replays).distinct in
        let here = number_at (paths_of w) n r distinct (path_at w n r (Plain (at_work leaf.state)) leaf.there) in
        let there = number_at (paths_of w) x.number r distinct (path_at w x.number r x.entry x.there) in
        let row =
        one_row (at_number w n) r r (Plain (at_work leaf.state)) x.entry leaf.there
        (ap (at_number w) (sym here ∙ there) ∙ x.there) in
        not_over (local_of x.entry) (ap (λ (z : Entry (Local ℕ)). (local_of z).phase) (sym row.1)) x.over

    module _ (es : List Known) (so_far : RecordedSoFar g number main fuel w es) where
      without_leaf : ((r : Path) (l : Local ℕ) → LeafLeg g w n r l → ⊥) → RecordedSoFar g number main fuel u es
      without_leaf none = record {
        each = λ x i. ((so_far.each x i).0, still_over g w u n e x.path (so_far.each x i).1);
        found = λ m r x there over empty.
            by m r x over empty (unlisted_over g ok w u reached n e m r x there over empty);
        once = so_far.once;
      }
        where
          by : (m : ℕ) (r : Path) (x : Entry (Local ℕ)) → IsOver (local_of x) → (local_of x).state.listed ≡ []
              → UnlistedOver g ok w u reached n e m r x → (y : Known) × IsAmong g number main fuel y es × (y.path ≡ r)
          by m r x over empty (had_ended y there same) =
              so_far.found m r y there (subst (λ (z : Local ℕ). IsOver z) (sym same) over)
              (ap (λ (z : Local ℕ). z.state.listed) same ∙ empty)
          by m r x over empty (is_leaf leaf) = absurd (none r (local_of x) leaf)

      module _ (r : Path) (l : Local ℕ) (leaf : LeafLeg g w n r l) (new : Known)
          (entry : IsEntry g number main fuel new) (path : new.path ≡ r) where
        with_leaf : RecordedSoFar g number main fuel u (es ++ new ∷ [])
        with_leaf = record {
          each = λ x i. one x (among_more es new x i);
          found = λ m q x there over empty.
              by m q x there over empty (unlisted_over g ok w u reached n e m q x there over empty);
          once = subst IsDistinct (sym (paths_more es new))
              (distinct_more (entry_paths g number main fuel es) new.path so_far.once out);
        }
          where
            one : (x : Known) → IsAmong g number main fuel x es ⊎ (x ≡ new)
                → IsEntry g number main fuel x × IsOverAt u x.path
            one x (inl i) = ((so_far.each x i).0, still_over g w u n e x.path (so_far.each x i).1)
            one x (inr is) = (
              subst (IsEntry g number main fuel) (sym is) entry,
              subst (IsOverAt u) (sym (ap (λ (z : Known). z.path) is ∙ path)) (leaf_over g w n r l leaf u e),
            )

            by : (m : ℕ) (q : Path) (x : Entry (Local ℕ)) → at_number u m ≡ Some (q, x) → IsOver (local_of x)
                → (local_of x).state.listed ≡ [] → UnlistedOver g ok w u reached n e m q x
                → (y : Known) × IsAmong g number main fuel y (es ++ new ∷ []) × (y.path ≡ q)
            by m q x there over empty (had_ended y before same) =
                let k = so_far.found m q y before (subst (λ (z : Local ℕ). IsOver z) (sym same) over)
                (ap (λ (z : Local ℕ). z.state.listed) same ∙ empty) in
                (k.0, among_front es new k.0 k.1, k.2)
            by m q x there over empty (is_leaf again) =
                let row =
                one_row (at_number w n) r q (Plain (at_work leaf.state)) (Plain (at_work again.state)) leaf.there
                again.there in
                (new, among_last es new, path ∙ row.0)

            out : IsIn new.path (entry_paths g number main fuel es) → ⊥
            out i =
                let x = among_path es new.path i in
                new_leaf r l leaf (subst (IsOverAt w) (x.2 ∙ path) (so_far.each x.0 x.1).1)

    module _ (es : List Known) (paths : List Path) (so_far : CountedSoFar g number main fuel es w paths) where
      counted_without_leaf : ((r : Path) (l : Local ℕ) → LeafLeg g w n r l → Refused g number main fuel es r)
          → CountedSoFar g number main fuel es u paths
      counted_without_leaf refused = record {
        each = λ r i. ((so_far.each r i).0, still_over g w u n e r (so_far.each r i).1);
        found = λ m r x there over empty.
            by m r x over empty (unlisted_over g ok w u reached n e m r x there over empty);
        once = so_far.once;
      }
        where
          by : (m : ℕ) (r : Path) (x : Entry (Local ℕ)) → IsOver (local_of x) → (local_of x).state.listed ≡ []
              → UnlistedOver g ok w u reached n e m r x → IsIn r paths ⊎ Refused g number main fuel es r
          by m r x over empty (had_ended y there same) =
              so_far.found m r y there (subst (λ (z : Local ℕ). IsOver z) (sym same) over)
              (ap (λ (z : Local ℕ). z.state.listed) same ∙ empty)
          by m r x over empty (is_leaf leaf) = inr (refused r (local_of x) leaf)

      module _ (r : Path) (l : Local ℕ) (leaf : LeafLeg g w n r l) (valid : HasValid g number main fuel es r) where
        counted_with_leaf : CountedSoFar g number main fuel es u (paths ++ r ∷ [])
        counted_with_leaf = record {
          each = λ q i. one q (in-push paths r q i);
          found = λ m q x there over empty.
              by m q x over empty (unlisted_over g ok w u reached n e m q x there over empty);
          once = distinct_more paths r so_far.once (λ i. new_leaf r l leaf (so_far.each r i).1);
        }
          where
            one : (q : Path) → IsIn q paths ⊎ (q ≡ r) → HasValid g number main fuel es q × IsOverAt u q
            one q (inl i) = ((so_far.each q i).0, still_over g w u n e q (so_far.each q i).1)
            one q (inr is) = (
              subst (HasValid g number main fuel es) (sym is) valid,
              subst (IsOverAt u) (sym is) (leaf_over g w n r l leaf u e),
            )

            more : (q : Path) → IsIn q paths ⊎ Refused g number main fuel es q
                → IsIn q (paths ++ r ∷ []) ⊎ Refused g number main fuel es q
            more q (inl i) = inl (in_front paths r q i)
            more q (inr x) = inr x

            by : (m : ℕ) (q : Path) (x : Entry (Local ℕ)) → IsOver (local_of x) → (local_of x).state.listed ≡ []
                → UnlistedOver g ok w u reached n e m q x → IsIn q (paths ++ r ∷ []) ⊎ Refused g number main fuel es q
            by m q x over empty (had_ended y before same) =
                more q (so_far.found m q y before (subst (λ (z : Local ℕ). IsOver z) (sym same) over)
                (ap (λ (z : Local ℕ). z.state.listed) same ∙ empty))
            by m q x over empty (is_leaf again) =
                let row =
                one_row (at_number w n) r q (Plain (at_work leaf.state)) (Plain (at_work again.state)) leaf.there
                again.there in
                inl (subst (λ z. IsIn z (paths ++ r ∷ [])) row.0 (in_last paths r))

-- ---- recording

pub recorded_at_start : RecordedAtTheStart
recorded_at_start g number main fuel = record {
  each = λ e i. absurd i;
  found = λ n r x there over empty. absurd (none_at_start g number main fuel n r x there over);
  once = tt;
}

pub recorded_without : RecordedWithout
recorded_without g ok number main fuel few ns w replays n u e none es so_far = by u e
  where
    by : (u : World (Local ℕ)) → numbers.leg (numbered g) (Listing w) n ≡ Some u
        → IsRecordedSoFar g number main fuel u es
    by Both e = tt
    by (Listing u) e = without_leaf g number main fuel ok few ns w replays n u e es so_far none

pub recorded_with : RecordedWith
recorded_with g ok number main fuel few ns w replays n u e r l leaf new entry path es so_far = by u e
  where
    by : (u : World (Local ℕ)) → numbers.leg (numbered g) (Listing w) n ≡ Some u
        → IsRecordedSoFar g number main fuel u (es ++ new ∷ [])
    by Both e = tt
    by (Listing u) e = with_leaf g number main fuel ok few ns w replays n u e es so_far r l leaf new entry path

pub recorded_at_end : RecordedAtTheEnd
recorded_at_end g ok number main fuel ns Both replays over es so_far =
    recorded_by_number g ok number main fuel ns Both replays over [] refl
recorded_at_end g ok number main fuel ns (Listing w) replays over es so_far =
    recorded_by_number g ok number main fuel ns (Listing w) replays over es (
      (λ e i. (so_far.each e i).0),
      (λ n r x there empty.
          so_far.found n r x there (none_blocked g ok number main fuel ns (Listing w) replays over n r x there) empty),
      so_far.once,
    )

-- ---- counting

pub counted_at_start : CountedAtTheStart
counted_at_start g number main fuel es = record {
  each = λ r i. absurd i;
  found = λ n r x there over empty. absurd (none_at_start g number main fuel n r x there over);
  once = tt;
}

pub counted_without : CountedWithout
counted_without g ok number main fuel few ns w replays n u e es refused paths so_far = by u e
  where
    by : (u : World (Local ℕ)) → numbers.leg (numbered g) (Listing w) n ≡ Some u
        → IsCountedSoFar g number main fuel es u paths
    by Both e = tt
    by (Listing u) e = counted_without_leaf g number main fuel ok few ns w replays n u e es paths so_far refused

pub counted_with : CountedWith
counted_with g ok number main fuel few ns w replays n u e r l leaf es valid paths so_far = by u e
  where
    by : (u : World (Local ℕ)) → numbers.leg (numbered g) (Listing w) n ≡ Some u
        → IsCountedSoFar g number main fuel es u (paths ++ r ∷ [])
    by Both e = tt
    by (Listing u) e = counted_with_leaf g number main fuel ok few ns w replays n u e es paths so_far r l leaf valid

pub counted_at_end : CountedAtTheEnd
counted_at_end g ok number main fuel ns Both replays over es paths so_far =
    counted_by_number g ok number main fuel ns Both replays over es [] refl
counted_at_end g ok number main fuel ns (Listing w) replays over es paths so_far =
    counted_by_number g ok number main fuel ns (Listing w) replays over es paths (
      (λ r i. (so_far.each r i).0),
      (λ n r x there empty.
          so_far.found n r x there (none_blocked g ok number main fuel ns (Listing w) replays over n r x there) empty),
      so_far.once,
    )
