-- Locations by their numbers.
use Rattle.std.proofs.Common.{◌≡◌, ℕ, zero, suc, ◌<◌, ◌≤◌, List, [], ◌∷◌, length, get_or, set, pos, refl, ap, arith}
use Rattle.rev_num.specs.declared.value.Value.{Value}
use Rattle.rev_num.specs.declared.value.Value.TheVariants as v
use Rattle.revision_calculus.specs.State.{Location, view, view_at, write_at, with_write}

pub written_in : (ms : List Location) (n : ℕ) (d : Location) (x : Value) → n < length ms
    → set ms n (with_write (get_or ms n d).base x) ≡ write_at ms n x
written_in [] n d x lt = absurd (omega arith)
written_in (k ∷ ms) zero d x lt = refl
written_in (k ∷ ms) (suc n) d x lt = ap (λ t. k ∷ t) (written_in ms n d x (omega arith))

pub written_out : (ms : List Location) (n : ℕ) (x : Value) → length ms ≤ n → ms ≡ write_at ms n x
written_out [] n x le = refl
written_out (m ∷ ms) zero x le = absurd (omega arith)
written_out (m ∷ ms) (suc n) x le = ap (λ t. m ∷ t) (written_out ms n x (omega arith))

pub seen_in : (ms : List Location) (n : ℕ) (m : Location) → n < length ms → m ≡ get_or ms n m → view m ≡ view_at ms n
seen_in [] n m lt e = absurd (omega arith)
seen_in (k ∷ ms) zero m lt e = ap view e
seen_in (k ∷ ms) (suc n) m lt e = seen_in ms n m (omega arith) e

pub seen_out : (ms : List Location) (n : ℕ) → length ms ≤ n → v.Int (pos 0) ≡ view_at ms n
seen_out [] n le = refl
seen_out (m ∷ ms) zero le = absurd (omega arith)
seen_out (m ∷ ms) (suc n) le = seen_out ms n (omega arith)
