-- From readers of pieces a reader of the whole.
--   Same      the one's texts are the other's, so that what reads the one reads the other
--   read_cut  two pieces with a byte between them that is none of the first
use Rattle.std.proofs.Common.{◌≡◌, ◌∙◌, sym, ap, subst, ℕ, List, ◌∷◌, ◌++◌}
use Rattle.trace_diagram.specs.Cuts.{IsCut, IsWithout}
use Rattle.trace_diagram.proofs.Cutting.{cut_once, not_without}
use Rattle.program_texts.proofs.Deciding.{Pieces, last_piece, next_piece, Readable, Reader, spells, spells_none, pieces}

-- ---- the same texts

pub record Same {A B : Type 0} (Fits : A → Type 0) (text : A → List ℕ) (Suits : B → Type 0)
    (words : B → List ℕ) : Type 0 where
  pub to : A → B
  pub from : B → A
  pub to_suits : (x : A) → Fits x → Suits (to x)
  pub to_text : (x : A) → words (to x) ≡ text x
  pub from_fits : (y : B) → Suits y → Fits (from y)
  pub from_text : (y : B) → text (from y) ≡ words y

pub read_as : {A B : Type 0} (Fits : A → Type 0) (text : A → List ℕ) (Suits : B → Type 0) (words : B → List ℕ)
    → Same Fits text Suits words → Reader Fits text → Reader Suits words
read_as Fits text Suits words same reader bytes = by_reading (reader bytes)
  where
    by_reading : Readable Fits text bytes → Readable Suits words bytes
    by_reading (spells x fits is) = spells (same.to x) (same.to_suits x fits) (same.to_text x ∙ is)
    by_reading (spells_none none) =
        spells_none (λ y suits is. none (same.from y) (same.from_fits y suits) (same.from_text y ∙ is))

-- ---- two pieces

abbrev pub FitBoth : {A B : Type 0} → (A → Type 0) → (B → Type 0) → A × B → Type 0
FitBoth Fits Suits x = Fits x.0 × Suits x.1

abbrev pub text_of_both : {A B : Type 0} → (A → List ℕ) → ℕ → (B → List ℕ) → A × B → List ℕ
text_of_both text b words x = text x.0 ++ b ∷ words x.1

pub read_cut : {A B : Type 0} (Fits : A → Type 0) (text : A → List ℕ) (b : ℕ) (Suits : B → Type 0) (words : B → List ℕ)
    → ((x : A) → Fits x → IsWithout b (text x)) → Reader Fits text → Reader Suits words
    → Reader (FitBoth Fits Suits) (text_of_both text b words)
read_cut {A} {B} Fits text b Suits words without first second bytes = by_pieces bytes (pieces b bytes)
  where
    by_both : (bs front rest : List ℕ) → IsCut b bs front rest → Readable Fits text front → Readable Suits words rest
        → Readable (FitBoth Fits Suits) (text_of_both text b words) bs
    by_both bs front rest cut (spells x fits is) (spells y suits same) =
        spells (x, y) (fits, suits) (ap (λ t. t ++ b ∷ words y) is ∙ ap (λ t. front ++ b ∷ t) same ∙ sym cut.is)
    by_both bs front rest cut (spells x fits is) (spells_none none) =
        spells_none (λ z h e.
        none z.1 h.1 (cut_once b (text z.0) (words z.1) front rest (without z.0 h.0) cut.first (e ∙ cut.is)).1)
    by_both bs front rest cut (spells_none none) other =
        spells_none (λ z h e.
        none z.0 h.0 (cut_once b (text z.0) (words z.1) front rest (without z.0 h.0) cut.first (e ∙ cut.is)).0)

    by_pieces : (bs : List ℕ) → Pieces b bs → Readable (FitBoth Fits Suits) (text_of_both text b words) bs
    by_pieces bs (last_piece cs none) =
        spells_none (λ z h e. not_without b (text z.0) (words z.1) (subst (IsWithout b) (sym e) none))
    by_pieces bs (next_piece cs front rest cut later) = by_both cs front rest cut (first front) (second rest)
