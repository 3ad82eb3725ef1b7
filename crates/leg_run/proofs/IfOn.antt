-- Notes that may be off.
use Rattle.std.proofs.Common.{◌≡◌, ◌∙◌, ℕ, ℤ, Bool, true, false, List, [], ◌++◌, refl, sym, subst}
use Rattle.block_run.specs.declared.notes.ReadMarks.{ReadMarks}
use Rattle.block_run.specs.declared.notes.Notes.{Notes}
use Rattle.block_run.specs.declared.notes.Notes.TheVariants as notes
use Rattle.block_run.specs.Marks.{Mark, HasMarked}
use Rattle.block_run.specs.WhereOn.{HasPlaces, HasPlacesIfOn, HasMarkedIfOn, HasNoted}
use Rattle.leg_run.proofs.Adding.{none_marked, marked_more}

-- ---- marks

pub none_marked_if_on : (x : Notes) → HasMarkedIfOn x x []
none_marked_if_on notes.Off = tt
none_marked_if_on (notes.On a) = none_marked a

pub marked_more_if_on : (x y z : Notes) (ms ns : List Mark) → HasMarkedIfOn x y ms → HasMarkedIfOn y z ns
    → HasMarkedIfOn x z (ms ++ ns)
marked_more_if_on notes.Off notes.Off notes.Off ms ns h k = tt
marked_more_if_on notes.Off notes.Off (notes.On c) ms ns h k = absurd k
marked_more_if_on notes.Off (notes.On b) z ms ns h k = absurd h
marked_more_if_on (notes.On a) notes.Off z ms ns h k = absurd h
marked_more_if_on (notes.On a) (notes.On b) notes.Off ms ns h k = absurd k
marked_more_if_on (notes.On a) (notes.On b) (notes.On c) ms ns h k = marked_more a b c ms ns h k

-- what is given back has the marks
pub marked_back : (old back : ReadMarks) (x y : Notes) (ms : List Mark) → x ≡ notes.On old
    → ((own : ReadMarks) → y ≡ notes.On own → back ≡ own) → HasMarkedIfOn x y ms → HasMarked old back ms
marked_back old back x y ms e f h = by y f (subst (λ z. HasMarkedIfOn z y ms) e h)
  where
    by : (y : Notes) → ((own : ReadMarks) → y ≡ notes.On own → back ≡ own) → HasMarkedIfOn (notes.On old) y ms
        → HasMarked old back ms
    by notes.Off f h = absurd h
    by (notes.On own) f h = subst (λ b. HasMarked old b ms) (sym (f own refl)) h

-- ---- noted or not

pub none_noted : (noting : Bool) (x : Notes) → HasNoted noting x x []
none_noted false x = refl
none_noted true x = none_marked_if_on x

pub more_noted : (noting : Bool) (x y z : Notes) (ms ns : List Mark) → HasNoted noting x y ms
    → HasNoted noting y z ns → HasNoted noting x z (ms ++ ns)
more_noted false x y z ms ns h k = k ∙ h
more_noted true x y z ms ns h k = marked_more_if_on x y z ms ns h k

-- ---- places

pub places_in : (size : ℕ) (inputs : List ℤ) (x : Notes) (a : ReadMarks) → x ≡ notes.On a → HasPlacesIfOn size inputs x
    → HasPlaces size inputs a
places_in size inputs x a e h = subst (HasPlacesIfOn size inputs) e h

pub places_of : (size : ℕ) (inputs : List ℤ) (x : Notes) (a : ReadMarks) → x ≡ notes.On a → HasPlaces size inputs a
    → HasPlacesIfOn size inputs x
places_of size inputs x a e h = subst (HasPlacesIfOn size inputs) (sym e) h

-- marks leave the places
places_kept : (size size' : ℕ) (inputs : List ℤ) (x y : Notes) (ms : List Mark) → size' ≡ size
    → HasMarkedIfOn x y ms → HasPlacesIfOn size inputs x → HasPlacesIfOn size' inputs y
places_kept size size' inputs notes.Off notes.Off ms e h k = tt
places_kept size size' inputs notes.Off (notes.On b) ms e h k = absurd h
places_kept size size' inputs (notes.On a) notes.Off ms e h k = absurd h
places_kept size size' inputs (notes.On a) (notes.On b) ms e h k = record {
  of_locations = h.size ∙ k.of_locations ∙ sym e;
  of_positions = h.positions ∙ k.of_positions;
  few = k.few;
}

pub places_still : (noting : Bool) (size size' : ℕ) (inputs : List ℤ) (x y : Notes) (ms : List Mark) → size' ≡ size
    → HasNoted noting x y ms → HasPlacesIfOn size inputs x → HasPlacesIfOn size' inputs y
places_still false size size' inputs x y ms e h k =
    subst (λ n. HasPlacesIfOn n inputs y) (sym e) (subst (HasPlacesIfOn size inputs) (sym h) k)
places_still true size size' inputs x y ms e h k = places_kept size size' inputs x y ms e h k
