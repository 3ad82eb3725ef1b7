-- The steps of holders on segments.
--   Steps k s k'        the step s leads from k to k': what it needs, and what it makes of k
--   Runs k ss k'        the steps ss, the latest first, lead from k to k'
--   Reached k           some steps lead to k from a core with all segments free and no references
--   IsFreedAtLast k k'  what becomes of each live segment
--   SameBase k k' g     the holder g has the same base
use Rattle.std.specs.Prelude.{◌≡◌, ◌≢◌, ℕ, ◌+◌, ◌-◌, ◌<◌, List, [], ◌∷◌, length, cond, ◌==◌}
use Rattle.std.specs.Prelude.{slice_set, Option, None, Some, ◌⊎◌, replicate}
use Rattle.seg_core.specs.Core.{Seg, free, building, live, Core, refs, At, Has, base_of}

pub data CoreStep : Type 0 where
  claim : ℕ → ℕ → CoreStep
  put : ℕ → ℕ → ℕ → ℕ → CoreStep
  publish : ℕ → ℕ → CoreStep
  share : ℕ → ℕ → CoreStep
  hand_on : ℕ → ℕ → ℕ → CoreStep
  release : ℕ → ℕ → CoreStep
  collapse : ℕ → ℕ → CoreStep

abbrev pub no_delta : ℕ → Option ℕ
no_delta i = None

abbrev pub with_word : (ℕ → Option ℕ) → ℕ → ℕ → ℕ → Option ℕ
with_word d l w i = cond (i == l) (Some w) (d i)

-- the list with the segment p, where there is one
abbrev pub joined : ℕ → List ℕ → List ℕ
joined p xs = cond (p == 0) xs (p ∷ xs)

abbrev pub BuildsNone : Core → ℕ → Type 0
BuildsNone k h = (c : ℕ) (d : ℕ → Option ℕ) → ¬ (At k c (building h d))

-- the core with another segment c, and another list of the holder h
abbrev pub seg_to : Core → ℕ → Seg → Core
seg_to k c x = record k { segs = slice_set k.segs c x }

abbrev pub list_to : Core → ℕ → List ℕ → Core
list_to k h xs = record k { lists = slice_set k.lists h xs }

-- what the step needs, and what it makes of the core
abbrev pub Steps : Core → CoreStep → Core → Type 0
Steps k (claim h c) k' = (0 < c) × At k c free × BuildsNone k h × (h < length k.lists)
    × (k' ≡ seg_to k c (building h no_delta))
Steps k (put h c l w) k' = (d : ℕ → Option ℕ) × (0 < c) × At k c (building h d) × (l < k.locations)
    × (k' ≡ seg_to k c (building h (with_word d l w)))
Steps k (publish h c) k' = (d : ℕ → Option ℕ) × (p : ℕ) × (0 < c) × At k c (building h d)
    × Has k h (joined p []) × (k' ≡ list_to (seg_to k c (live d p 2)) h (c ∷ c ∷ []))
Steps k (share h c) k' = (d : ℕ → Option ℕ) × (p n : ℕ) × (0 < c) × At k c (live d p n)
    × Has k h (c ∷ []) × (k' ≡ list_to (seg_to k c (live d p (n + 1))) h (c ∷ c ∷ []))
Steps k (hand_on h c to) k' = (0 < c) × (to ≢ h) × Has k h (c ∷ c ∷ []) × Has k to []
    × BuildsNone k to × (k' ≡ list_to (list_to k h (c ∷ [])) to (c ∷ []))
Steps k (release h c) k' = (d : ℕ → Option ℕ) × (p n : ℕ) × (xs : List ℕ) × (0 < c)
    × At k c (live d p n) × Has k h (c ∷ xs)
    × (((n ≡ 1) × (k' ≡ list_to (seg_to k c free) h (joined p xs)))
    ⊎ ((1 < n) × (k' ≡ list_to (seg_to k c (live d p (n - 1))) h xs)))
Steps k (collapse h c) k' = (d : ℕ → Option ℕ) × (p : ℕ) × (0 < c) × At k c (live d p 1)
    × Has k h (c ∷ []) × (k' ≡ list_to (seg_to k c free) h (joined p []))

abbrev pub holder : CoreStep → ℕ
holder (claim h c) = h
holder (put h c l w) = h
holder (publish h c) = h
holder (share h c) = h
holder (hand_on h c to) = h
holder (release h c) = h
holder (collapse h c) = h

-- the step gives the holder g its first reference
abbrev pub GivesTo : CoreStep → ℕ → Type 0
GivesTo (hand_on h c to) g = to ≡ g
GivesTo s g = ⊥

-- the holder g has the same references, and the same base
abbrev pub SameBase : Core → Core → ℕ → Type 0
SameBase k k' g = ((xs : List ℕ) → Has k g xs → Has k' g xs)
    × ((c : ℕ) (xs : List ℕ) → 0 < c → Has k g (c ∷ xs) → (n l : ℕ) (initial : ℕ → ℕ)
    → base_of n initial k'.segs c l ≡ base_of n initial k.segs c l)

-- a live segment is free after the step, which took its last reference, or it has the same delta
-- and parent and still some reference
abbrev pub IsFreedAtLast : Core → Core → Type 0
IsFreedAtLast k k' = (c : ℕ) (d : ℕ → Option ℕ) (p n : ℕ) → 0 < c → At k c (live d p n)
    → (At k' c free × (refs k c ≡ 1) × (refs k' c ≡ 0))
    ⊎ ((m : ℕ) × At k' c (live d p m) × (m ≡ refs k' c) × (0 < m))

-- all segments free, and no references
abbrev pub empty : ℕ → ℕ → ℕ → Core
empty segments holders locations =
    record { segs = replicate segments free; lists = replicate holders []; locations = locations }

-- the steps, the latest first, lead from k to k'
abbrev pub Runs : Core → List CoreStep → Core → Type 0
Runs k [] k' = k' ≡ k
Runs k (s ∷ ss) k' = (j : Core) × Runs k ss j × Steps j s k'

abbrev pub Reached : Core → Type 0
Reached k = (segments holders locations : ℕ) × (ss : List CoreStep)
    × Runs (empty segments holders locations) ss k
