-- Whether bytes are the text of a path.
use Rattle.std.proofs.Common.{◌≡◌, ◌≢◌, ◌∙◌, ◌⊎◌, inl, inr, sym, ap, ℕ, ◌<◌, ◌^◌, List, [], ◌∷◌, ◌++◌, arith}
use Rattle.std.specs.Prelude.{codes}
use Rattle.std.specs.Fmt.{decimal}
use Rattle.rev_num.specs.Path.{Path}
use Rattle.rev_num.specs.Text.{path_text}
use Rattle.trace_diagram.specs.Cuts.{IsCut, IsWithout}
use Rattle.trace_diagram.specs.Lines.{FitsPath}
use Rattle.trace_diagram.specs.Reading.{Forks}
use Rattle.trace_diagram.proofs.Forks.{Begins, begins_all, begins_more, no_last, no_number}
use Rattle.program_texts.proofs.Deciding.{Pieces, last_piece, next_piece, Readable, Reader, spells, spells_none, pieces, same_or_not}
use Rattle.program_texts.proofs.Numbers.{read_small}

-- ---- numbers with dots between them

read_last : (bytes : List ℕ) → IsWithout 46 bytes → Readable (λ n. n < 2 ^ 32) decimal bytes
    → Readable Forks path_text bytes
read_last bytes none (spells k small is) = spells (k ∷ []) (record { some = omega arith; fit = (small, tt) }) is
read_last bytes none (spells_none no_such) = spells_none (no_last bytes [] bytes none no_such (begins_all bytes))

-- a number more in front
longer_text : (k : ℕ) (r : Path) (bytes front rest : List ℕ) → IsCut 46 bytes front rest → Forks r → decimal k ≡ front
    → path_text r ≡ rest → path_text (k ∷ r) ≡ bytes
longer_text k [] bytes front rest cut forks is text = absurd (let some = forks.some in omega arith)
longer_text k (j ∷ r) bytes front rest cut forks is text =
    ap (λ t. decimal k ++ 46 ∷ t) text ∙ ap (λ t. t ++ 46 ∷ rest) is ∙ sym cut.is

longer_forks : (k : ℕ) (r : Path) → k < 2 ^ 32 → Forks r → Forks (k ∷ r)
longer_forks k r small forks = record { some = omega arith; fit = (small, forks.fit) }

read_next : (bytes front rest : List ℕ) → IsCut 46 bytes front rest → Readable (λ n. n < 2 ^ 32) decimal front
    → Readable Forks path_text rest → Readable Forks path_text bytes
read_next bytes front rest cut (spells k small is) (spells r forks text) =
    spells (k ∷ r) (longer_forks k r small forks) (longer_text k r bytes front rest cut forks is text)
read_next bytes front rest cut (spells k small is) (spells_none none) = spells_none (λ path forks text.
    let begin : Begins bytes (k ∷ []) rest path =
    begins_more bytes [] bytes front rest k cut small is (begins_all bytes) path
    (record { forks = forks; text = text }) in
    none begin.others begin.spells.forks begin.spells.text)
read_next bytes front rest cut (spells_none none) other =
    spells_none (no_number bytes [] bytes front rest cut none (begins_all bytes))

read_forks : (bytes : List ℕ) → Pieces 46 bytes → Readable Forks path_text bytes
read_forks bytes (last_piece bs none) = read_last bs none (read_small bs)
read_forks bytes (next_piece bs front rest cut later) =
    read_next bs front rest cut (read_small front) (read_forks rest later)

-- ---- paths

pub read_path : Reader FitsPath path_text
read_path bytes = by_main (same_or_not (codes "main") bytes) (read_forks bytes (pieces 46 bytes))
  where
    none_other : codes "main" ≢ bytes → ((path : Path) → Forks path → path_text path ≡ bytes → ⊥) → (path : Path)
        → FitsPath path → path_text path ≡ bytes → ⊥
    none_other other none [] fit is = other is
    none_other other none (k ∷ r) fit is = none (k ∷ r) (record { some = omega arith; fit = fit }) is

    by_main : (codes "main" ≡ bytes) ⊎ (codes "main" ≢ bytes) → Readable Forks path_text bytes
        → Readable FitsPath path_text bytes
    by_main (inl main) other = spells [] tt main
    by_main (inr other) (spells path forks is) = spells path forks.fit is
    by_main (inr other) (spells_none none) = spells_none (none_other other none)
