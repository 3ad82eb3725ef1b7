-- Names of locations, cut at their brackets.
use Rattle.std.proofs.Common.{◌≡◌, ◌≢◌, ◌∙◌, inl, inr, sym, ap, subst, ℕ, Bool, true, false, ◌&&◌, ◌||◌, List, [], ◌∷◌, ◌++◌, length, refl}
use Rattle.std.specs.Prelude.{IsTrue, MatchBool, not, ◌==◌}
use Rattle.std.specs.List.{list_all}
use Rattle.std.proofs.lemmas.Bool.{and_parts, or_left, or_parts, true≢false}
use Rattle.trace_diagram.specs.Cuts.{IsCut, IsWithout}
use Rattle.rev_syntax.specs.Bytes.{is_digit, is_letter, is_name_byte, is_word}
use Rattle.rev_syntax.specs.Words.{is_name, is_reserved}
use Rattle.trace_diagram.specs.Places.{HasCell, IsPlace, is_plain}
use Rattle.trace_diagram.proofs.Cutting.{cut_once, not_without, without-append}

-- ---- bytes that names and numbers don't have

pub all_without : (f : ℕ → Bool) (b : ℕ) → f b ≡ false → (bs : List ℕ) → list_all f bs ≡ true → IsWithout b bs
all_without f b other [] h = tt
all_without f b other (c ∷ bs) h =
    let both = and_parts (f c) (list_all f bs) h in
    (λ same. true≢false (sym both.0 ∙ ap f same ∙ other), all_without f b other bs both.1)

pub name_without : (b : ℕ) → is_name_byte b ≡ false → (bs : List ℕ) → is_name bs ≡ true → IsWithout b bs
name_without b other bs h = go bs (and_parts (is_word bs) (not (is_reserved bs)) h).0
  where
    go : (cs : List ℕ) → is_word cs ≡ true → IsWithout b cs
    go [] e = tt
    go (c ∷ cs) e =
        let both = and_parts (is_letter c) (list_all is_name_byte cs) e in (
          λ same. true≢false (sym (or_left (is_letter c) (is_digit c) both.0) ∙ ap is_name_byte same ∙ other),
          all_without is_name_byte b other cs both.1,
        )

pub plain_without : (b : ℕ) → is_digit b ≡ false → (bs : List ℕ) → is_plain bs ≡ true → IsWithout b bs
plain_without b other [] h = tt
plain_without b other (c ∷ bs) h =
    all_without is_digit b other (c ∷ bs)
    (and_parts (list_all is_digit (c ∷ bs)) (not (c == 48) || (length bs == 0)) h).0

pub place_without : (b : ℕ) → is_name_byte b ≡ false → b ≢ 91 → b ≢ 93 → (place : List ℕ) → IsPlace place
    → IsWithout b place
place_without b other apart behind place (inl name) = name_without b other place name
place_without b other apart behind place (inr cell) =
    subst (IsWithout b) (sym cell.is)
    (without-append b cell.array (91 ∷ cell.index ++ 93 ∷ []) (name_without b other cell.array cell.name) (
      λ same. apart (sym same),
      without-append b cell.index (93 ∷ []) (plain_without b digit cell.index cell.number)
          (λ same. behind (sym same), tt),
    ))
  where
    digit : is_digit b ≡ false
    digit = (or_parts (is_letter b) (is_digit b) other).1

-- ---- a name and no bracket

by_name : (bytes : List ℕ) → IsWithout 91 bytes → (t : Bool) → t ≡ is_name bytes
    → MatchBool t (IsPlace bytes) (IsPlace bytes → ⊥)
by_name bytes none true is = inl (sym is)
by_name bytes none false is = go
  where
    go : IsPlace bytes → ⊥
    go (inl name) = true≢false (sym name ∙ sym is)
    go (inr cell) = not_without 91 cell.array (cell.index ++ 93 ∷ []) (subst (IsWithout 91) cell.is none)

pub no_bracket : (bytes : List ℕ) (t : Bool) → IsWithout 91 bytes → t ≡ is_name bytes
    → MatchBool t (IsPlace bytes) (IsPlace bytes → ⊥)
no_bracket bytes t none is = by_name bytes none t is

-- ---- a bracket

has_place : (bytes array cell : List ℕ) → IsCut 91 bytes array cell → HasCell array cell → IsPlace bytes
has_place bytes array cell cut h = inr (record {
  array = array;
  index = h.index;
  name = h.name;
  number = h.number;
  is = cut.is ∙ ap (λ t. array ++ 91 ∷ t) h.is;
})

lacks_place : (bytes array cell : List ℕ) → IsCut 91 bytes array cell → (HasCell array cell → ⊥) → IsPlace bytes → ⊥
lacks_place bytes array cell cut none (inl name) =
    not_without 91 array cell (subst (IsWithout 91) cut.is (name_without 91 refl bytes name))
lacks_place bytes array cell cut none (inr h) =
    let both =
    cut_once 91 h.array (h.index ++ 93 ∷ []) array cell (name_without 91 refl h.array h.name) cut.first
    (sym h.is ∙ cut.is) in
    none (record {
      index = h.index;
      name = subst (λ a. IsTrue (is_name a)) both.0 h.name;
      number = h.number;
      is = sym both.1;
    })

pub with_bracket : (bytes array cell : List ℕ) (t : Bool) → IsCut 91 bytes array cell
    → MatchBool t (HasCell array cell) (HasCell array cell → ⊥) → MatchBool t (IsPlace bytes) (IsPlace bytes → ⊥)
with_bracket bytes array cell true cut h = has_place bytes array cell cut h
with_bracket bytes array cell false cut h = lacks_place bytes array cell cut h

-- ---- a cell

pub no_closing : (array cell : List ℕ) → IsWithout 93 cell → HasCell array cell → ⊥
no_closing array cell none h = not_without 93 h.index [] (subst (IsWithout 93) h.is none)

pub more_behind : (array cell index rest : List ℕ) → IsCut 93 cell index rest → rest ≢ [] → HasCell array cell → ⊥
more_behind array cell index rest cut some h =
    some
    (sym (cut_once 93 h.index [] index rest (plain_without 93 refl h.index h.number) cut.first (sym h.is ∙ cut.is)).1)

cell_by : (array cell index : List ℕ) (t u : Bool) → t ≡ is_name array → u ≡ is_plain index → IsCut 93 cell index []
    → MatchBool (t && u) (HasCell array cell) (HasCell array cell → ⊥)
cell_by array cell index true true name number cut =
    record { index = index; name = sym name; number = sym number; is = cut.is }
cell_by array cell index true false name number cut = λ h.
    let same =
    (cut_once 93 h.index [] index [] (plain_without 93 refl h.index h.number) cut.first (sym h.is ∙ cut.is)).0 in
    true≢false (sym h.number ∙ ap is_plain same ∙ sym number)
cell_by array cell index false u name number cut = λ h. true≢false (sym h.name ∙ sym name)

pub is_cell_by : (array cell index rest : List ℕ) (t u : Bool) → t ≡ is_name array → u ≡ is_plain index
    → IsCut 93 cell index rest → rest ≡ [] → MatchBool (t && u) (HasCell array cell) (HasCell array cell → ⊥)
is_cell_by array cell index rest t u name number cut none = cell_by array cell index t u name number
    (record { is = cut.is ∙ ap (λ r. index ++ 93 ∷ r) none; first = cut.first })
