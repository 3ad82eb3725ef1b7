-- Lines of the parts of a table, from a place on.
use Rattle.std.proofs.Common.{◌≡◌, ◌∙◌, ℕ, suc, ◌+◌, ◌<◌, ◌≤◌, List, [], ◌++◌, length, drop, get_or, ap, arith}
use Rattle.std.proofs.Math.Seq.{drop-cons}
use Rattle.code_listing.specs.Listing.{numbered}
use Rattle.code_file.proofs.Sums.{past}

pub numbered_more : {A : Type 0} (lines : ℕ → A → List ℕ) (xs : List A) (n : ℕ) (d : A) → n < length xs →
    numbered lines n (drop n xs) ≡ lines n (get_or xs n d) ++ numbered lines (n + 1) (drop (n + 1) xs)
numbered_more lines xs n d h =
    ap (numbered lines n) (drop-cons xs n d h)
    ∙ ap (λ k. lines n (get_or xs n d) ++ numbered lines (n + 1) (drop k xs)) (let z : suc n ≡ n + 1 = omega arith in z)

pub numbered_end : {A : Type 0} (lines : ℕ → A → List ℕ) (xs : List A) (n : ℕ) → length xs ≤ n
    → numbered lines n (drop n xs) ≡ []
numbered_end lines xs n h = ap (numbered lines n) (past xs n h)
