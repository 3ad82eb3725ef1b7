-- What a revision has written, by locations.
--   written_as   what a memory says was written is what the state's locations say
use Rattle.std.proofs.Common.{◌≡◌, ◌∙◌, ℕ, zero, suc, ◌+◌, List, [], ◌∷◌, ◌++◌, length, Option, Some, None, refl, sym, ap, subst, arith}
use Rattle.std.specs.Prelude.{slice_get}
use Rattle.rev_num.specs.declared.value.ValueKind.{ValueKind}
use Rattle.rev_code.specs.Words.{Word}
use Rattle.rev_code.specs.State.{Location}
use Rattle.code_soundness.specs.Typed.{AreLocations, IsLocation}
use Rattle.block_run.specs.Remembering.{written_below, written_there}
use Rattle.block_run.specs.Standing.{AreSeen, IsSeen}
use Rattle.version_map.specs.declared.end.Written.{Written}
use Rattle.version_map.specs.Composing.{Entry}
use Rattle.code_machine.specs.Local.{with_entry, written_from}
use Rattle.rev_vm.specs.Meaning.{AreWritten}
pub use Rattle.std.proofs.lemmas.List.{append-nil as append_none}
pub use Rattle.std.proofs.lemmas.List.{append_assoc as append_three}

module _ (seen : ℕ → ℕ) (root : ℕ → Option ℕ) where
  -- of the k locations from this number on
  abbrev ahead : (n k : ℕ) → List Written
  ahead n zero = []
  ahead n (suc k) = written_there n (seen n) (root n) ++ ahead (suc n) k

  below_ahead : (n k : ℕ) → written_below seen root n ++ ahead n k ≡ written_below seen root (n + k)
  below_ahead n zero =
      append_none (written_below seen root n) ∙ (let e : n ≡ n + 0 = omega arith in ap (written_below seen root) e)
  below_ahead n (suc k) =
      sym (append_three (written_below seen root n) (written_there n (seen n) (root n)) (ahead (suc n) k))
      ∙ below_ahead (suc n) k
      ∙ (let e : suc n + k ≡ n + suc k = omega arith in ap (written_below seen root) e)

  module _ (full : List ValueKind) where
    one : (n : ℕ) (kind : ValueKind) (l : Location ℕ) (es : List (Entry (Word ℕ))) (ws : List Written)
        → slice_get full n ≡ Some kind → IsLocation kind l → (r : Option ℕ) → IsSeen l (seen n) r
        → AreWritten full es ws
        → AreWritten full (with_entry n l.written l.snapshot es) (written_there n (seen n) r ++ ws)
    one n kind l es ws at t None s h = subst (λ o. AreWritten full (with_entry n o l.snapshot es) ws) (sym s.0) h
    one n kind l es ws at t (Some root) s h =
        subst (λ o.
        AreWritten full (with_entry n o l.snapshot es) (record { location = n; value = seen n; root = root } ∷ ws))
        (sym s.1) (
          record {
            location = refl;
            kind = kind;
            there = at;
            value = record { of_kind = t.written s.0 s.1; word = s.2 };
            root = record { of_kind = t.snapshot; word = s.3 };
          },
          h,
        )

    from : (kinds : List ValueKind) (ls : List (Location ℕ)) (n : ℕ) → AreLocations kinds ls
        → ((l : ℕ) (x : Location ℕ) → slice_get ls l ≡ Some x → IsSeen x (seen (n + l)) (root (n + l)))
        → ((l : ℕ) (kind : ValueKind) → slice_get kinds l ≡ Some kind → slice_get full (n + l) ≡ Some kind)
        → AreWritten full (written_from n ls) (ahead n (length kinds))
    from [] [] n t there at = tt
    from [] (l ∷ ls) n t there at = absurd t
    from (kind ∷ kinds) [] n t there at = absurd t
    from (kind ∷ kinds) (l ∷ ls) n t there at =
        let here : n + 0 ≡ n = omega arith in
        let s : IsSeen l (seen n) (root n) = subst (λ m. IsSeen l (seen m) (root m)) here (there 0 l refl) in
        let rest =
        from kinds ls (suc n) t.1
        (λ m x is.
        subst (λ k. IsSeen x (seen k) (root k)) (let e : n + suc m ≡ suc n + m = omega arith in e) (there (suc m) x is))
        (λ m k is. ap (slice_get full) (let e : suc n + m ≡ n + suc m = omega arith in e) ∙ at (suc m) k is) in
        one n kind l (written_from (suc n) ls) (ahead (suc n) (length kinds))
        (ap (slice_get full) (sym here) ∙ at 0 kind refl) t.0 (root n) s rest

pub written_as : (kinds : List ValueKind) (ls : List (Location ℕ)) (seen : ℕ → ℕ) (root : ℕ → Option ℕ) (size : ℕ)
    → size ≡ length kinds → AreLocations kinds ls → AreSeen ls seen root
    → AreWritten kinds (written_from 0 ls) (written_below seen root size)
written_as kinds ls seen root size sized t there =
    subst (AreWritten kinds (written_from 0 ls))
    (below_ahead seen root 0 (length kinds)
    ∙ (let e : 0 + length kinds ≡ size = omega (arith, sized) in ap (written_below seen root) e))
    (from seen root kinds kinds ls 0 t
    (λ l x is. subst (λ k. IsSeen x (seen k) (root k)) (let e : l ≡ 0 + l = omega arith in e) (there l x is))
    (λ l k is. ap (slice_get kinds) (let e : 0 + l ≡ l = omega arith in e) ∙ is))
