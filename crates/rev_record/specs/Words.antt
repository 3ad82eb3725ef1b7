-- Values of words of a machine, where these are the paths of the revisions by number.
--   kind_at      the kind of a location
--   value_at     the value of a word at a location
--   args_of      the values of arguments of these kinds
--   written_of   what was written, with its values
--   HasRead      these are the first locations that were read, each with its value, and no others
--   HasGiven     and these the first positions of the input, each with its number
--   count_of     the count of inputs, if it was read
--   leaf_end     how a revision ended by itself; and finish_of, the other way
--   AreHere      the words of a snapshot have these values at their locations
--   AreGiven     the input has these numbers at their positions
--   IsCount      and as many
--   IsSameStart  an entry is of the revision of this path, with this block and this fuel
--   AreOver      what is written there stands for these values, each with its root in the words of a snapshot
use Rattle.std.specs.Prelude.{◌≡◌, ◌<◌, ℕ, ℤ, Bool, true, false, is_some, List, [], ◌∷◌, length, map, Option, Some, None, get_or, slice_get}
use Rattle.rev_num.specs.Path.{Path}
use Rattle.rev_num.specs.declared.value.Value.{Value}
use Rattle.rev_num.specs.declared.value.ValueKind.{ValueKind}
use Rattle.rev_code.specs.declared.code.CodeVar.{CodeVar}
use Rattle.rev_code.specs.Words.{Word}
use Rattle.code_rules.specs.Shapes.{kind_or_int}
use Rattle.code_soundness.specs.Typed.{location_kinds}
use Rattle.block_run.specs.Agreement.{IsWord}
use Rattle.revision_machine.specs.Numbered.{number_of}
use Rattle.version_map.specs.declared.end.Finish.{Finish}
use Rattle.version_map.specs.declared.end.Finish.TheVariants as finish
use Rattle.version_map.specs.declared.end.Written.{Written}
use Rattle.code_machine.specs.Outcome.{value_of}
use Rattle.code_machine.specs.Renamed.{renamed_word}
use Rattle.leg_run.specs.Standing.{word_as, words_as}
use Rattle.code_world.specs.declared.freshness.FreshStart as rust
use Rattle.rev_record.specs.declared.entry.Given.{Given}
use Rattle.rev_record.specs.declared.entry.KeptValue.{KeptValue}
use Rattle.rev_record.specs.declared.entry.LeafEnd.{LeafEnd}
use Rattle.rev_record.specs.declared.entry.LeafEnd.TheVariants as leaf
use Rattle.rev_record.specs.declared.entry.LeafEntry.{LeafEntry}
use Rattle.rev_record.specs.Standing.{Has, given, value}

abbrev pub kind_at : List CodeVar → ℕ → ValueKind
kind_at vars l = kind_or_int (slice_get (location_kinds vars) l)

module _ (path : ℕ → Path) where
  abbrev pub args_of : List ValueKind → List ℕ → List Value
  args_of kinds ws = map (value_of path) (words_as kinds ws)

  module _ (vars : List CodeVar) where
    abbrev pub value_at : (location word : ℕ) → Value
    value_at l w = value_of path (word_as (kind_at vars l) w)

    abbrev pub kept_at : (location word : ℕ) → KeptValue
    kept_at l w = record { location = l; value = value_at l w }

    abbrev pub written_of : List Written → List KeptValue
    written_of ws = map (λ w. kept_at w.location w.value) ws

    pub record HasRead (noted : ℕ → Option ℕ) (base : List ℕ) (many : ℕ) (read : List KeptValue) : Type 0 where
      pub all : (l w : ℕ) → l < many → is_some (noted l) ≡ true → slice_get base l ≡ Some w → Has read (kept_at l w)
      pub only : (x : KeptValue) → Has read x
          → (w : ℕ) × (x.location < many) × (is_some (noted x.location) ≡ true) × (slice_get base x.location ≡ Some w)
          × (x.value ≡ value_at x.location w)

    abbrev pub IsHere : (base : List ℕ) → KeptValue → Type 0
    IsHere base x = (w : ℕ) × (slice_get base x.location ≡ Some w) × (value_at x.location w ≡ x.value)

    abbrev pub AreHere : (base : List ℕ) → List KeptValue → Type 0
    AreHere base read = (x : KeptValue) → Has read x → IsHere base x

pub record HasGiven (noted : ℕ → Option ℕ) (inputs : List ℤ) (many : ℕ) (read : List Given) : Type 0 where
  pub all : (n : ℕ) (z : ℤ) → n < many → is_some (noted n) ≡ true → slice_get inputs n ≡ Some z → Has read (given n z)
  pub only : (x : Given) → Has read x
      → (x.position < many) × (is_some (noted x.position) ≡ true) × (slice_get inputs x.position ≡ Some x.number)

abbrev pub AreGiven : (inputs : List ℤ) → List Given → Type 0
AreGiven inputs read = (x : Given) → Has read x → slice_get inputs x.position ≡ Some x.number

abbrev pub count_of : Bool → List ℤ → Option ℕ
count_of true inputs = Some (length inputs)
count_of false inputs = None

abbrev pub IsCount : List ℤ → Option ℕ → Type 0
IsCount inputs o = (n : ℕ) → o ≡ Some n → length inputs ≡ n

pub record IsSameStart (path : Path) (x : rust.FreshStart) (k : LeafEntry) : Type 0 where
  pub path_is : k.path ≡ path
  pub block_is : k.block ≡ x.block
  pub fuel_is : k.fuel ≡ x.fuel

-- ---- ends

abbrev pub leaf_end : Finish → LeafEnd
leaf_end finish.Done = leaf.Done
leaf_end (finish.Trapped t) = leaf.Trapped t.cause t.line

abbrev pub finish_of : LeafEnd → Finish
finish_of leaf.Done = finish.Done
finish_of (leaf.Trapped cause line) = finish.Trapped (record { cause = cause; line = line; origin = None })

abbrev pub AreInside : (many : ℕ) → List KeptValue → Type 0
AreInside many written = (x : KeptValue) → Has written x → x.location < many

module _ (t : List Path) (base : List ℕ) where
  pub record IsOver (k : KeptValue) (w : Written) : Type 0 where
    pub location : w.location ≡ k.location
    pub value_is : (u : Word Path) → k.value ≡ value u → IsWord (renamed_word (number_of t) u) w.value
    pub root : w.root ≡ get_or base k.location 0

  abbrev pub AreOver : List KeptValue → List Written → Type 0
  AreOver [] [] = Unit {0}
  AreOver (k ∷ ks) (w ∷ ws) = IsOver k w × AreOver ks ws
  AreOver [] (w ∷ ws) = ⊥
  AreOver (k ∷ ks) [] = ⊥
