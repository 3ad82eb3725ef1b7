-- The rule of the words under a table.
-- First lie the words of the table by their index, where first words have no use. Behind them lie the
-- first words of the parts, each with a flag behind it: that of the part c is 2 * (c / 2 ^ shift) behind
-- the words. A flag is 0 where the part was not wanted yet, 1 where it is there, and 2 where a seat makes
-- it. The word 0 is there from the start, since the seats step on it.
--   IsPart, head_at, flag_at    a part, and where its first word and its flag lie
--   Stands             what a seat knows of the part that it makes, by its stage
--   Rules              all that holds between any two steps
use Rattle.std.specs.Prelude.{◌≡◌, ℕ, zero, suc, ◌+◌, ◌*◌, ◌/◌, ◌%◌, ◌^◌, ◌<◌, ◌≤◌, ◌⊎◌, Bool, true, List}
use Rattle.std.specs.Prelude.{[], ◌∷◌, map, length, slice_index}
use mathlib.Core.Option.{some}
use lib.ListN.{get_elem?}
use Rattle.atomic_table.specs.Table as table
use Rattle.sparse_table.specs.Words as raw
use Rattle.sparse_table.specs.Words.{blank}
use Rattle.sparse_table.specs.declared.rule.Trail.{Trail}
use Rattle.sparse_table.specs.declared.rule.Doing.{Doing}

abbrev pub IsPart : ℕ → ℕ → ℕ → Type 0
IsPart words width c = (c < words) × (c % width ≡ 0)

-- i is another word of the part c
abbrev pub IsInner : ℕ → ℕ → ℕ → Type 0
IsInner width c i = (c < i) × (i < c + width)

abbrev pub head_at : ℕ → ℕ → ℕ → ℕ
head_at words shift c = words + 2 * (c / 2 ^ shift)

abbrev pub flag_at : ℕ → ℕ → ℕ → ℕ
flag_at words shift c = head_at words shift c + 1

-- how many words there are, with first words and flags
abbrev pub total_of : ℕ → ℕ → ℕ
total_of words shift = words + 2 * (words / 2 ^ shift + 1)

abbrev pub Has : ℕ → List ℕ → Type 0
Has k [] = ⊥
Has k (x ∷ xs) = (x ≡ k) ⊎ Has k xs

-- The stages: 0 makes no part, 1 found that it is not there, 2 took its memory
module _ (part : Type 0) (makes : Type 0) (flag : ℕ) where
  abbrev pub Stands : ℕ → Type 0
  Stands zero = Unit {0}
  Stands (suc zero) = part × makes × (flag ≡ 0)
  Stands (suc (suc n)) = part × makes × (flag ≡ 2)

abbrev pub trail : ℕ → ℕ → ℕ → List ℕ → ℕ → ℕ → Trail
trail words width shift known stage k = record {
  words = words;
  width = width;
  shift = shift;
  known = known;
  stage = stage;
  part = k;
}

abbrev pub State : Type 0 → Type 0
State V = raw.State (Doing V)

module _ {V : Type 0} where
  abbrev pub doing : Trail → V → Doing V
  doing t v = record { trail = t; client = v }

  -- it makes no part
  abbrev pub resting : ℕ → ℕ → ℕ → List ℕ → V → Doing V
  resting words width shift known v = doing (trail words width shift known 0 0) v

  abbrev pub aimed : Doing V → ℕ → ℕ → Doing V
  aimed d stage k = doing (trail d.trail.words d.trail.width d.trail.shift d.trail.known stage k)
      d.client

  -- it knows that the part is there
  abbrev pub knowing : Doing V → ℕ → Doing V
  knowing d k = resting d.trail.words d.trail.width d.trail.shift (k ∷ d.trail.known) d.client

  abbrev pub client : Doing V → V
  client d = d.client

  -- the table as its user sees it
  abbrev pub seen : List ℕ → List V → table.State (Unit {0}) V
  seen ws vs = record { words = ws; homes = []; views = vs }

  module _ (makes : V → ℕ → Type 0) (words width shift : ℕ) (ns : List ℕ) where
    abbrev pub flag : ℕ → ℕ
    flag c = slice_index ns (flag_at words shift c)

    pub record Knows (d : Doing V) : Type 0 where
      pub stands : Stands (IsPart words width d.trail.part) (makes d.client d.trail.part)
          (flag d.trail.part) d.trail.stage
      pub known : (c : ℕ) → Has c d.trail.known → IsPart words width c × (flag c ≡ 1)

  -- a seat that makes the part
  abbrev pub Maker : List (Doing V) → ℕ → Type 0
  Maker views c = (j : ℕ) × (d : Doing V) × (get_elem? views j ≡ some d) × (d.trail.stage ≡ 2)
      × (d.trail.part ≡ c)

  pub record Rules (holds : table.State (Unit {0}) V → Type 0) (makes : V → ℕ → Type 0)
      (needs : ℕ → ℕ → Bool) (words width shift : ℕ) (s : State V) : Type 0 where
    pub all : List ℕ
    pub agreed : holds (seen all (map client s.views))
    pub sizes : (1 < width) × (2 ^ shift ≤ width) × (words % width ≡ 0) × (0 < words)
    pub long : (length all ≡ words) × (length s.words ≡ total_of words shift)
    pub numbers : (j : ℕ) → (j ≡ 0) ⊎ (words ≤ j) → slice_index s.words j < blank
    pub firsts : (c : ℕ) → IsPart words width c → slice_index s.words c ≤ blank
    pub heads : (c : ℕ) → IsPart words width c
        → slice_index s.words (head_at words shift c) ≡ slice_index all c
    pub there : (c i : ℕ) → IsPart words width c → IsInner width c i → flag makes words width shift s.words c ≡ 1
        → (slice_index s.words i ≡ slice_index all i) × (slice_index s.words i < blank)
    pub zeros : (c i : ℕ) → IsPart words width c → IsInner width c i
        → (flag makes words width shift s.words c ≡ 1) ⊎ (slice_index all i ≡ 0)
    pub unmade : (c i : ℕ) → IsPart words width c → IsInner width c i → flag makes words width shift s.words c ≡ 0
        → slice_index s.words i ≡ blank
    pub needed : (c : ℕ) → IsPart words width c → needs c (slice_index all c) ≡ true
        → flag makes words width shift s.words c ≡ 1
    pub flags : (c : ℕ) → IsPart words width c → (flag makes words width shift s.words c ≡ 0)
        ⊎ ((flag makes words width shift s.words c ≡ 1)
        ⊎ ((flag makes words width shift s.words c ≡ 2) × Maker s.views c))
    pub seats : (i : ℕ) (d : Doing V) → get_elem? s.views i ≡ some d
        → Knows makes words width shift s.words d
