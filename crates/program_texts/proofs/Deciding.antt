-- What can be decided of bytes: whether they are others, whether they have a prefix, and whether
-- something has them as its text.
--   Readable   what fits and has these bytes as its text, or that nothing has
--   Prefixed   what stands behind a prefix, or that the bytes lack it
--   Pieces     the bytes cut at each of a byte
use Rattle.std.proofs.Common.{◌≡◌, ◌≢◌, ◌∙◌, ◌⊎◌, inl, inr, sym, ap, subst, ℕ, Bool, true, false, List, [], ◌∷◌, ◌++◌, length, take, drop, refl, arith, rules}
use Rattle.std.specs.Prelude.{nat_eq, ◌==◌}
use Rattle.std.specs.Cmp.Lexicographic.{pointwise}
use Rattle.std.proofs.lemmas.Bool.{eqb-true, true≢false}
use Rattle.rev_num.proofs.PostOrder.{same_refl, same-eq}
use Rattle.trace_diagram.specs.Cuts.{IsCut, IsWithout}
use Rattle.trace_diagram.specs.Reading.{LacksPrefix}
use Rattle.trace_diagram.proofs.Cutting.{append_cancel}
use Rattle.trace_diagram.proofs.Spelling.{is_behind, lacks}

pub data Readable {A : Type 0} (Fits : A → Type 0) (text : A → List ℕ) (bytes : List ℕ) : Type 0 where
  spells : (x : A) → Fits x → text x ≡ bytes → Readable Fits text bytes
  spells_none : ((x : A) → Fits x → text x ≡ bytes → ⊥) → Readable Fits text bytes

-- whatever the bytes are
abbrev pub Reader : {A : Type 0} → (A → Type 0) → (A → List ℕ) → Type 0
Reader Fits text = (bytes : List ℕ) → Readable Fits text bytes

-- ---- equal bytes

pub same_or_not : (xs ys : List ℕ) → (xs ≡ ys) ⊎ (xs ≢ ys)
same_or_not xs ys = by_test (pointwise nat_eq xs ys) refl
  where
    by_test : (t : Bool) → pointwise nat_eq xs ys ≡ t → (xs ≡ ys) ⊎ (xs ≢ ys)
    by_test true is = inl (same-eq xs ys is)
    by_test false is = inr (λ e. true≢false (sym (subst (λ v. pointwise nat_eq xs v ≡ true) e (same_refl xs)) ∙ is))

-- a test is decided
pub true_or_not : (t : Bool) → (t ≡ true) ⊎ (t ≡ true → ⊥)
true_or_not true = inl refl
true_or_not false = inr (λ e. true≢false (sym e))

-- ---- prefixes

pub data Prefixed (word bytes : List ℕ) : Type 0 where
  has_prefix : (rest : List ℕ) → bytes ≡ word ++ rest → Prefixed word bytes
  lacks_prefix : LacksPrefix bytes word → Prefixed word bytes

pub prefixed : (word bytes : List ℕ) → Prefixed word bytes
prefixed word bytes = by_test (pointwise nat_eq (take (length word) bytes) word) refl
  where
    by_test : (t : Bool) → pointwise nat_eq (take (length word) bytes) word ≡ t → Prefixed word bytes
    by_test true is = has_prefix (drop (length word) bytes) (is_behind bytes word (drop (length word) bytes) is refl)
    by_test false is = lacks_prefix (lacks bytes word is)

-- a word, and what can be read behind it
pub read_behind : {A : Type 0} (Fits : A → Type 0) (text : A → List ℕ) (word : List ℕ) → Reader Fits text
    → Reader Fits (λ x. word ++ text x)
read_behind Fits text word reader bytes = by_word (prefixed word bytes)
  where
    by_rest : (rest : List ℕ) → bytes ≡ word ++ rest → Readable Fits text rest
        → Readable Fits (λ x. word ++ text x) bytes
    by_rest rest is (spells x fits same) = spells x fits (ap (λ t. word ++ t) same ∙ sym is)
    by_rest rest is (spells_none none) =
        spells_none (λ x fits same. none x fits (append_cancel word (text x) rest (same ∙ is)))

    by_word : Prefixed word bytes → Readable Fits (λ x. word ++ text x) bytes
    by_word (has_prefix rest is) = by_rest rest is (reader rest)
    by_word (lacks_prefix none) = spells_none (λ x fits same. none (text x) (sym same))

-- ---- cuts

pub data Pieces (b : ℕ) : List ℕ → Type 0 where
  last_piece : (bytes : List ℕ) → IsWithout b bytes → Pieces b bytes
  next_piece : (bytes front rest : List ℕ) → IsCut b bytes front rest → Pieces b rest → Pieces b bytes

one_longer : (b c : ℕ) (bytes : List ℕ) → c ≢ b → Pieces b bytes → Pieces b (c ∷ bytes)
one_longer b c bytes other (last_piece bs none) = last_piece (c ∷ bs) (other, none)
one_longer b c bytes other (next_piece bs front rest cut later) =
    next_piece (c ∷ bs) (c ∷ front) rest (record { is = ap (λ t. c ∷ t) cut.is; first = (other, cut.first) }) later

by_first : (b c : ℕ) (bytes : List ℕ) (t : Bool) → (c == b) ≡ t → Pieces b bytes → Pieces b (c ∷ bytes)
by_first b c bytes true is later =
    next_piece (c ∷ bytes) [] bytes (record { is = ap (λ x. x ∷ bytes) (eqb-true c b is); first = tt }) later
by_first b c bytes false is later = one_longer b c bytes (λ same. grind (arith, rules, same)) later

pub pieces : (b : ℕ) (bytes : List ℕ) → Pieces b bytes
pieces b [] = last_piece [] tt
pieces b (c ∷ bytes) = by_first b c bytes (c == b) refl (pieces b bytes)
