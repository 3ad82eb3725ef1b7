-- Texts of a print with a space between two of them.
use Rattle.std.proofs.Common.{◌≡◌, ℕ, ◌≤◌, List, [], ◌∷◌, ◌++◌, map, drop, length, get_or, Vec, Global, sym, ap, append-nil, arith}
use Rattle.std.specs.List.{flat_map, join_with_byte}
use Rattle.rev_report.specs.Lines.{space}
use Rattle.revision_steps.specs.Texts.{behind_space}

pub join_split : (x : List ℕ) (xs : List (List ℕ)) → join_with_byte space (x ∷ xs) ≡ x ++ flat_map behind_space xs
join_split x [] = sym (append-nil x)
join_split x (y ∷ ys) = ap (λ t. x ++ (space ∷ t)) (join_split y ys)

pub texts_split : (texts : List (Vec ℕ Global)) (d : Vec ℕ Global) → 1 ≤ length texts
    → join_with_byte space (map (λ t. t.items) texts)
    ≡ (get_or texts 0 d).items ++ flat_map behind_space (map (λ t. t.items) (drop 1 texts))
texts_split [] d some = absurd (omega arith)
texts_split (t ∷ texts) d some = join_split t.items (map (λ t. t.items) texts)
