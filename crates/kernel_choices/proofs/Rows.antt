-- The merges of locations, row by row.
use Rattle.std.proofs.Common.{◌≡◌, ◌∙◌, ap, sym, ℕ, ◌+◌, ◌<◌, ◌≤◌, List, ◌∷◌, ◌++◌, length, replicate, drop, get_or, Option, append_assoc}
use Rattle.std.proofs.lemmas.List.{append-nil, drop_more, drop_all}
use Rattle.typed_programs.specs.declared.shared_info.SharedInfo.{SharedInfo}
use Rattle.revision_state.specs.Tables.{merges_in}

pub goes_on : (rows : List SharedInfo) (i : ℕ) (x : SharedInfo) → i < length rows → x ≡ get_or rows i x
    → (ms : List (Option ℕ))
    → ms ++ merges_in (drop i rows) ≡ merges_in rows
    → (ms ++ replicate x.cells x.merge) ++ merges_in (drop (i + 1) rows) ≡ merges_in rows
goes_on rows i x h e ms so =
    append_assoc ms (replicate x.cells x.merge) (merges_in (drop (i + 1) rows))
    ∙ (ap (λ ys. ms ++ ys) (sym (ap merges_in (drop_more rows i x h ∙ ap (λ y. y ∷ drop (i + 1) rows) (sym e)))) ∙ so)

pub ends : (rows : List SharedInfo) (i : ℕ) → length rows ≤ i → (ms : List (Option ℕ))
    → ms ++ merges_in (drop i rows) ≡ merges_in rows → ms ≡ merges_in rows
ends rows i h ms so = sym (append-nil ms) ∙ (ap (λ xs. ms ++ merges_in xs) (sym (drop_all i rows h)) ∙ so)
