-- Numbers with dots between them are read one after another.
use Rattle.std.proofs.Common.{◌≡◌, ◌∙◌, sym, ap, subst, ℕ, ◌<◌, ◌^◌, true, List, [], ◌∷◌, ◌++◌, length, refl, arith, append_assoc}
use Rattle.std.specs.Fmt.{decimal}
use Rattle.std.specs.Int.{IsInRange}
use Rattle.std.specs.Str.{all_ascii_digits}
use Rattle.std.proofs.lemmas.Fmt.{decimal_injective, digits_decimal}
use Rattle.std.proofs.lemmas.Str.Parse.{tells_all_ascii_digits}
use Rattle.rev_num.specs.Path.{Path}
use Rattle.rev_num.specs.Text.{path_text}
use Rattle.rev_num.proofs.Decimals.{own}
use Rattle.trace_diagram.specs.Cuts.{IsCut, IsWithout}
use Rattle.trace_diagram.specs.Lines.{FitsPath}
use Rattle.trace_diagram.specs.Reading.{Forks}
use Rattle.trace_diagram.proofs.Cutting.{cut_once, not_without}

-- ---- digits have no such byte

no_digit : (b : ℕ) → (IsInRange 48 57 b → ⊥) → (ds : List ℕ) → (all_ascii_digits ds ≡ true) → IsWithout b ds
no_digit b other [] h = tt
no_digit b other (d ∷ ds) h =
    let parts = tells_all_ascii_digits.parts d ds h in
    (λ same. other (subst (IsInRange 48 57) same parts.0), no_digit b other ds parts.1)

pub decimal_without : (b n : ℕ) → (IsInRange 48 57 b → ⊥) → n < 2 ^ 64 → IsWithout b (decimal n)
decimal_without b n other small = no_digit b other (decimal n) (digits_decimal own n small)

-- ---- numbers, each with a dot behind it, and what stands behind them

abbrev pub dotted : List ℕ → List ℕ → List ℕ
dotted [] rest = rest
dotted (k ∷ ks) rest = decimal k ++ 46 ∷ dotted ks rest

pub dotted_more : (ks : List ℕ) (k : ℕ) (rest : List ℕ)
    → dotted (ks ++ k ∷ []) rest ≡ dotted ks (decimal k ++ 46 ∷ rest)
dotted_more [] k rest = refl
dotted_more (j ∷ ks) k rest = ap (λ t. decimal j ++ 46 ∷ t) (dotted_more ks k rest)

pub dotted_path : (ks : List ℕ) (k : ℕ) → path_text (ks ++ k ∷ []) ≡ dotted ks (decimal k)
dotted_path [] k = refl
dotted_path (j ∷ []) k = refl
dotted_path (j ∷ i ∷ ks) k = ap (λ t. decimal j ++ 46 ∷ t) (dotted_path (i ∷ ks) k)

pub fits_more : (ks : List ℕ) (k : ℕ) → FitsPath ks → k < 2 ^ 32 → FitsPath (ks ++ k ∷ [])
fits_more [] k h small = (small, tt)
fits_more (j ∷ ks) k h small = (h.0, fits_more ks k h.1 small)

-- ---- which paths have the bytes as their text

pub record Spells (bytes : List ℕ) (path : Path) : Type 0 where
  pub forks : Forks path
  pub text : path_text path ≡ bytes

-- of each path of the bytes these are the first numbers, and the others spell the rest
pub record Begins (bytes ks rest : List ℕ) (path : Path) : Type 0 where
  pub others : Path
  pub is : path ≡ ks ++ others
  pub spells : Spells rest others

abbrev pub AllBegin : List ℕ → List ℕ → List ℕ → Type 0
AllBegin bytes ks rest = (path : Path) → Spells bytes path → Begins bytes ks rest path

pub begins_all : (bytes : List ℕ) → AllBegin bytes [] bytes
begins_all bytes path h = record { others = path; is = refl; spells = h }

-- a path whose text has a dot: its first number stands before it, and its others behind it
record Split (front more : List ℕ) (j : ℕ) (r : Path) : Type 0 where
  first : decimal j ≡ front
  others : Spells more r

pub wide : (j : ℕ) → j < 2 ^ 32 → j < 2 ^ 64
wide j small = omega arith

pub no_dot : (j : ℕ) → j < 2 ^ 32 → IsWithout 46 (decimal j)
no_dot j small = decimal_without 46 j (λ digit. omega (arith, digit)) (wide j small)

split : (front more : List ℕ) (j : ℕ) (r : Path) → IsWithout 46 front → FitsPath (j ∷ r)
    → path_text (j ∷ r) ≡ front ++ 46 ∷ more → Split front more j r
split front more j [] one fit is = absurd (not_without 46 front more (subst (IsWithout 46) is (no_dot j fit.0)))
split front more j (i ∷ r) one fit is =
    let both = cut_once 46 (decimal j) (path_text (i ∷ r)) front more (no_dot j fit.0) one is in
    record { first = both.0; others = record { forks = record { some = omega arith; fit = fit.1 }; text = both.1 } }

whole : (rest : List ℕ) (j : ℕ) (r : Path) → IsWithout 46 rest → path_text (j ∷ r) ≡ rest
    → (r ≡ []) × (decimal j ≡ rest)
whole rest j [] none is = (refl, is)
whole rest j (i ∷ r) none is =
    absurd (not_without 46 (decimal j) (path_text (i ∷ r)) (subst (IsWithout 46) (sym is) none))

same_number : (j k : ℕ) (front : List ℕ) → j < 2 ^ 32 → k < 2 ^ 32 → decimal j ≡ front → decimal k ≡ front → j ≡ k
same_number j k front small few is at = decimal_injective j k (wide j small) (wide k few) (is ∙ sym at)

-- ---- a step

pub begins_more : (bytes ks rest front more : List ℕ) (k : ℕ) → IsCut 46 rest front more → k < 2 ^ 32
    → decimal k ≡ front → AllBegin bytes ks rest → AllBegin bytes (ks ++ k ∷ []) more
begins_more bytes ks rest front more k cut small is all path h = go (all path h)
  where
    go : Begins bytes ks rest path → Begins bytes (ks ++ k ∷ []) more path
    go b = by b.others b.is b.spells
      where
        by : (others : Path) → path ≡ ks ++ others → Spells rest others → Begins bytes (ks ++ k ∷ []) more path
        by [] at s = absurd (let some = s.forks.some in omega arith)
        by (j ∷ r) at s =
            let parts = split front more j r cut.first s.forks.fit (s.text ∙ cut.is) in
            let same = same_number j k front s.forks.fit.0 small parts.first is in
            record {
              others = r;
              is = at ∙ ap (λ n. ks ++ n ∷ r) same ∙ sym (append_assoc ks (k ∷ []) r);
              spells = parts.others;
            }

-- where the front is no number, the bytes are no path
pub no_number : (bytes ks rest front more : List ℕ) → IsCut 46 rest front more
    → ((n : ℕ) → n < 2 ^ 32 → decimal n ≡ front → ⊥) → AllBegin bytes ks rest → (path : Path) → Forks path
    → path_text path ≡ bytes → ⊥
no_number bytes ks rest front more cut none all path forks text = go (all path (record { forks = forks; text = text }))
  where
    go : Begins bytes ks rest path → ⊥
    go b = by b.others b.spells
      where
        by : (others : Path) → Spells rest others → ⊥
        by [] s = let some = s.forks.some in omega arith
        by (j ∷ r) s = none j s.forks.fit.0 (split front more j r cut.first s.forks.fit (s.text ∙ cut.is)).first

-- the same of the last one
pub no_last : (bytes ks rest : List ℕ) → IsWithout 46 rest → ((n : ℕ) → n < 2 ^ 32 → decimal n ≡ rest → ⊥)
    → AllBegin bytes ks rest → (path : Path) → Forks path → path_text path ≡ bytes → ⊥
no_last bytes ks rest last none all path forks text = go (all path (record { forks = forks; text = text }))
  where
    go : Begins bytes ks rest path → ⊥
    go b = by b.others b.spells
      where
        by : (others : Path) → Spells rest others → ⊥
        by [] s = let some = s.forks.some in omega arith
        by (j ∷ r) s = none j s.forks.fit.0 (whole rest j r last s.text).1

pub forks_more : (ks : List ℕ) (k : ℕ) → FitsPath ks → k < 2 ^ 32 → Forks (ks ++ k ∷ [])
forks_more ks k h small = record { some = some ks; fit = fits_more ks k h small }
  where
    some : (js : List ℕ) → 0 < length (js ++ k ∷ [])
    some [] = omega arith
    some (j ∷ js) = omega arith

pub spells_more : (bytes ks rest : List ℕ) (k : ℕ) → decimal k ≡ rest → dotted ks rest ≡ bytes
    → path_text (ks ++ k ∷ []) ≡ bytes
spells_more bytes ks rest k is front = dotted_path ks k ∙ ap (dotted ks) is ∙ front

pub dotted_cut : {bytes : List ℕ} (ks : List ℕ) {rest front more : List ℕ} (k : ℕ) → IsCut 46 rest front more
    → decimal k ≡ front
    → dotted ks rest ≡ bytes → dotted (ks ++ k ∷ []) more ≡ bytes
dotted_cut ks {more} k cut is at =
    dotted_more ks k more ∙ ap (λ t. dotted ks (t ++ 46 ∷ more)) is ∙ ap (dotted ks) (sym cut.is) ∙ at
