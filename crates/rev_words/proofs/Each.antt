-- A loop that takes the values of a list's elements one by one.
use Rattle.std.proofs.Common.{◌≡◌, ◌∙◌, ap, refl, ℕ, ◌+◌, ◌<◌, Bor, List, [], ◌∷◌, ◌++◌, length, get_or, map, drop, drop-cons, add-one, append_assoc}
use Rattle.std.specs.Prelude.{Option, Some, None, option_map}
use Rattle.clap.specs.Words.{Text}
use Rattle.rev_words.specs.Each.{each_said}

-- what the rest says, with values in front
abbrev pub with_front : {B : Type 0} → List B → Option (List B) → Option (List B)
with_front front rest = option_map (λ ys. front ++ ys) rest

-- one more value goes from the rest to the front
pub one_more : {A B : Type 0} (f : A → Option B) (front : List B) (x : A) (rest : List A) (y : B) → f x ≡ Some y
    → with_front front (each_said f (x ∷ rest)) ≡ with_front (front ++ y ∷ []) (each_said f rest)
one_more {A} {B} f front x rest y is = rw is (go (each_said f rest))
  where
    go : (r : Option (List B)) → with_front front (option_map (λ ys. y ∷ ys) r) ≡ with_front (front ++ y ∷ []) r
    go None = refl
    go (Some ys) = ap Some (rw append_assoc refl)

-- the same at a place of a list of texts
pub one_more_text : {B : Type 0} (f : Text → Option B) (front : List B) (texts : List (Bor Text)) (i : ℕ) (d : Bor Text)
    (y : B)
    → i < length texts
    → f ((get_or texts i d).now) ≡ Some y
    → with_front front (each_said f (map (λ s. s.now) (drop i texts)))
    ≡ with_front (front ++ y ∷ []) (each_said f (map (λ s. s.now) (drop (i + 1) texts)))
one_more_text {B} f front texts i d y inside is =
    let next : drop i texts ≡ get_or texts i d ∷ drop (i + 1) texts = rw (add-one, drop-cons texts i d inside) refl in
    ap (λ (xs : List (Bor Text)). with_front front (each_said f (map (λ s. s.now) xs))) next
    ∙ one_more f front ((get_or texts i d).now) (map (λ s. s.now) (drop (i + 1) texts)) y is
