-- Segments, and the references of holders to them, as plain data. Sums are those of rev_num.
-- A segment is named by a number from 1 on; 0 names none.
--   Seg            free, building by a holder with a delta so far, or live with a delta, a parent,
--   a count
--   Core           the segments, each holder's list of references, and how many locations there are
--   refs k c       the references to c: in all lists, and the live segments whose parent it is
--   Counted k      each live count is the number of references and at least 1
--   base_of        the words of initial under the deltas along the parents
use Rattle.std.specs.Prelude.{◌≡◌, ℕ, zero, suc, ◌+◌, ◌<◌, List, Option}
use mathlib.Core.Option as m
use lib.ListN.{get_elem?}
use Rattle.version_map.specs.Overlay.{word_or}
pub use Rattle.rev_num.specs.Sums.{total, is_at, times}

pub data Seg : Type 0 where
  free : Seg
  building : ℕ → (ℕ → Option ℕ) → Seg
  live : (ℕ → Option ℕ) → ℕ → ℕ → Seg

pub record Core : Type 0 where
  pub segs : List Seg
  pub lists : List (List ℕ)
  pub locations : ℕ

-- 1 where the segment's parent is c
abbrev pub up_is : ℕ → Seg → ℕ
up_is c free = 0
up_is c (building h d) = 0
up_is c (live d p n) = is_at c p

abbrev pub refs : Core → ℕ → ℕ
refs k c = total (times c) k.lists + total (up_is c) k.segs

abbrev pub At : Core → ℕ → Seg → Type 0
At k c x = get_elem? k.segs c ≡ m.some x

abbrev pub Has : Core → ℕ → List ℕ → Type 0
Has k h xs = get_elem? k.lists h ≡ m.some xs

abbrev pub CountIs : Seg → ℕ → Type 0
CountIs free n = n ≡ 0
CountIs (building h d) n = n ≡ 0
CountIs (live d p c) n = (c ≡ n) × (0 < c)

-- each live count is the number of references and at least 1, and nothing refers to another segment
abbrev pub Counted : Core → Type 0
Counted k = (c : ℕ) (x : Seg) → 0 < c → At k c x → CountIs x (refs k c)

-- the word that a segment has, or its parent's
abbrev pub through : ℕ → (ℕ → ℕ) → ℕ → m.Option Seg → ℕ
through bare parent l (m.some (live d p n)) = word_or (parent p) (d l)
through bare parent l (m.some free) = bare
through bare parent l (m.some (building h d)) = bare
through bare parent l m.none = bare

-- the word of the location l along at most n parents, from the segment c
abbrev pub base_of : ℕ → (ℕ → ℕ) → List Seg → ℕ → ℕ → ℕ
base_of zero initial segs c l = initial l
base_of (suc n) initial segs c l = through (initial l) (λ p. base_of n initial segs p l) l
    (get_elem? segs c)
