-- The text of a path, one number after another.
use Rattle.std.proofs.Common.{◌≡◌, ◌≤◌, ap, ℕ, length, get_or, drop, List, [], ◌∷◌, ◌++◌, arith, rules}
use Rattle.std.specs.Fmt.{decimal}
use Rattle.std.specs.List.{flat_map}
use Rattle.rev_num.specs.Text.{behind_dot, path_text}

-- the first number, and each further one with a dot in front
pub path_text-cons : (k : ℕ) (r : List ℕ) → path_text (k ∷ r) ≡ decimal k ++ flat_map behind_dot r
path_text-cons k [] = grind (arith, rules)
path_text-cons k (m ∷ r) = ap (λ t. decimal k ++ (46 ∷ t)) (path_text-cons m r)

pub path_text-split : (r : List ℕ) → 1 ≤ length r
    → path_text r ≡ decimal (get_or r 0 0) ++ flat_map behind_dot (drop 1 r)
path_text-split [] some = absurd (omega arith)
path_text-split (k ∷ r) some = path_text-cons k r
