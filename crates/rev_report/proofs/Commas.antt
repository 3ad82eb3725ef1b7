-- The text of a schedule, one number after another.
use Rattle.std.proofs.Common.{◌≡◌, ◌≤◌, ap, ℕ, length, get_or, drop, List, [], ◌∷◌, ◌++◌, arith, rules}
use Rattle.std.specs.Fmt.{decimal}
use Rattle.std.specs.List.{flat_map}
use Rattle.rev_report.specs.Modes.{behind_comma, schedule_text}

-- the first number, and each further one with a comma in front
schedule_text-cons : (n : ℕ) (rest : List ℕ) → schedule_text (n ∷ rest) ≡ decimal n ++ flat_map behind_comma rest
schedule_text-cons n [] = grind (arith, rules)
schedule_text-cons n (m ∷ rest) = ap (λ t. decimal n ++ (44 ∷ t)) (schedule_text-cons m rest)

pub schedule_text-split : (ns : List ℕ) → 1 ≤ length ns
    → schedule_text ns ≡ decimal (get_or ns 0 0) ++ flat_map behind_comma (drop 1 ns)
schedule_text-split [] some = absurd (omega arith)
schedule_text-split (n ∷ rest) some = schedule_text-cons n rest
