-- Texts in pieces.
use Rattle.std.proofs.Common.{◌≡◌, ℕ, List, [], ◌∷◌, ◌++◌, ap, ◌∙◌, append-nil}
use Rattle.std.proofs.lemmas.Grind.{flat_map-append}
use Rattle.revision_data.specs.Pieces.{all_bytes}

-- a piece behind others
pub one_more : (pieces : List (List ℕ)) (bytes : List ℕ) → all_bytes (pieces ++ bytes ∷ []) ≡ all_bytes pieces ++ bytes
one_more pieces bytes =
    flat_map-append (λ p. p) pieces (bytes ∷ []) ∙ ap (λ t. all_bytes pieces ++ t) (append-nil bytes)
