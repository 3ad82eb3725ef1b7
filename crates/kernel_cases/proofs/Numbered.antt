-- Written locations that are numbered from 0 on.
use Rattle.std.proofs.Common.{◌≡◌, ◌∙◌, ◌<◌, ap, sym, refl, ℕ, zero, suc, ◌+◌, List, [], ◌∷◌, ◌++◌, length, Some, None, Bool, true, false, nat_lt, arith}
use Rattle.std.proofs.lemmas.Bool.Decides.{nat_tests}
use Rattle.std.specs.Prelude.{slice_get}
use Rattle.version_map.specs.declared.end.Written.{Written}
use Rattle.version_map.specs.Ascending.{IsAscending}
use Rattle.kernel_cases.specs.Written.{AreNumbered}

-- they ascend
pub ascends : (ws : List Written) → AreNumbered ws → IsAscending ws
ascends ws are i j v w h at there = let a = are i v at in let b = are j w there in omega (arith, a, b, h)

last_at : (ws : List Written) (x : Written) (i : ℕ) (w : Written) → slice_get (ws ++ x ∷ []) i ≡ Some w
    → (i ≡ length ws → x ≡ w) × (i < length ws → slice_get ws i ≡ Some w) × (i < length ws + 1)
last_at [] x zero w e = (λ h. cc, λ h. absurd (omega arith), omega arith)
last_at [] x (suc i) w e = absurd (let z : None ≡ Some w = e in cc)
last_at (y ∷ ws) x zero w e = (λ h. absurd (omega arith), λ h. e, omega arith)
last_at (y ∷ ws) x (suc i) w e =
    let r = last_at ws x i w e in
    let below = (last_at ws x i w e).2 in
    (λ h. r.0 (omega arith), λ h. r.1 (omega arith), omega (arith, below))

pub numbered_more : (ws : List Written) (x : Written) → AreNumbered ws → x.location ≡ length ws
    → AreNumbered (ws ++ x ∷ [])
numbered_more ws x are is i w e = by (nat_lt i (length ws)) refl
  where
    by : (b : Bool) → nat_lt i (length ws) ≡ b → w.location ≡ i
    by true h = are i w ((last_at ws x i w e).1 (grind (arith, nat_tests, h)))
    by false h =
        let below = (last_at ws x i w e).2 in
        let last : i ≡ length ws = grind (arith, nat_tests, h, below) in
        ap (λ (u : Written). u.location) (sym ((last_at ws x i w e).0 last)) ∙ is ∙ sym last
