-- Whether bytes are the text of a value.
use Rattle.std.proofs.Common.{◌≡◌, ◌≢◌, ◌⊎◌, inl, inr, true, false, ℤ, List, ℕ, ◌++◌}
use Rattle.std.specs.Prelude.{codes, IsTrue, Some, None}
use Rattle.std.specs.Fmt.{signed_decimal}
use Rattle.rev_num.specs.Arith.{fits_i64}
use Rattle.rev_num.specs.Path.{Path}
use Rattle.rev_num.specs.Text.{path_text}
use Rattle.rev_num.specs.declared.value.Value.{Value}
use Rattle.rev_num.specs.declared.value.Value.TheVariants as value
use Rattle.trace_diagram.specs.Lines.{FitsPath, FitsValue, value_text}
use Rattle.program_texts.proofs.Deciding.{Readable, Reader, spells, spells_none, read_behind, same_or_not}
use Rattle.program_texts.proofs.Numbers.{read_int}
use Rattle.program_texts.proofs.Paths.{read_path}

abbrev handle_text : Path → List ℕ
handle_text path = codes "@" ++ path_text path

read_handle : Reader FitsPath handle_text
read_handle = read_behind FitsPath path_text (codes "@") read_path

-- the bytes are not of any form that a value has
record NoForm (bytes : List ℕ) : Type 0 where
  yes_word : codes "true" ≢ bytes
  nay_word : codes "false" ≢ bytes
  none_word : codes "none" ≢ bytes
  int : (n : ℤ) → IsTrue (fits_i64 n) → signed_decimal n ≡ bytes → ⊥
  handle : (path : Path) → FitsPath path → handle_text path ≡ bytes → ⊥

no_value : (bytes : List ℕ) → NoForm bytes → (x : Value) → FitsValue x → value_text x ≡ bytes → ⊥
no_value bytes h (value.Int n) fits is = h.int n fits is
no_value bytes h (value.Bool true) fits is = h.yes_word is
no_value bytes h (value.Bool false) fits is = h.nay_word is
no_value bytes h (value.Rev None) fits is = h.none_word is
no_value bytes h (value.Rev (Some path)) fits is = h.handle path fits is

pub read_value : Reader FitsValue value_text
read_value bytes =
    by_forms (same_or_not (codes "true") bytes) (same_or_not (codes "false") bytes) (same_or_not (codes "none") bytes)
    (read_int bytes) (read_handle bytes)
  where
    by_forms : (codes "true" ≡ bytes) ⊎ (codes "true" ≢ bytes) → (codes "false" ≡ bytes) ⊎ (codes "false" ≢ bytes)
        → (codes "none" ≡ bytes) ⊎ (codes "none" ≢ bytes) → Readable (λ n. IsTrue (fits_i64 n)) signed_decimal bytes
        → Readable FitsPath handle_text bytes → Readable FitsValue value_text bytes
    by_forms (inl is) f n i p = spells (value.Bool true) tt is
    by_forms (inr t) (inl is) n i p = spells (value.Bool false) tt is
    by_forms (inr t) (inr f) (inl is) i p = spells (value.Rev None) tt is
    by_forms (inr t) (inr f) (inr n) (spells z fits is) p = spells (value.Int z) fits is
    by_forms (inr t) (inr f) (inr n) (spells_none i) (spells path fits is) = spells (value.Rev (Some path)) fits is
    by_forms (inr t) (inr f) (inr n) (spells_none i) (spells_none p) =
        spells_none (no_value bytes (record { yes_word = t; nay_word = f; none_word = n; int = i; handle = p }))
