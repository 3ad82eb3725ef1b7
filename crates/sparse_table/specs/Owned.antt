-- What spans, words and seats own. The words are lent for a lifetime of their own, whose token they
-- keep, and a `&` to them shows that it lasts. An invariant holds the borrow of the memory that is
-- there, and a quarter of each seat's view.
use Rattle.std.specs.Prelude.{◌≡◌, ℕ, ◌+◌, ◌*◌, ◌^◌, ◌<◌, ◌==◌, Bool, true, false, List, [], ◌∷◌, length}
use base.Fraction.{full_share}
use base.Share.{three_quarters}
use base.Stored.{Gv, Coded, coded×, coded_ℕ, coded_via}
use base.Fml.{Lft, Fml, ftrue, fsep, fex, froom, fbor, flent, flft, fshr_bor, finv}
use lib.Dec.{ltb}
use mir.Syntax.{Ty, w64, ty_int, ty_array}
use denote.RawPtr.{Ptr, block_ptr, block_of, count_of, InBlock}
use Rattle.atomic_table.specs.Seated.{word, fact, seen, roster}
use Rattle.sparse_table.specs.Words.{State, blank}

-- what is owned of the word n at the place o of the block b, where it is a number, blank or away: memory
-- that has the number, memory that was not written, and nothing
abbrev pub spot_of : Bool → Bool → ℕ → ℕ → ℕ → Fml
spot_of true e b o n = word b o n
spot_of false true b o n = froom (ty_int w64) b o
spot_of false false b o n = ftrue

-- the same, where n itself says which of the three it is
abbrev pub spot : ℕ → ℕ → ℕ → Fml
spot b o n = spot_of (ltb n blank) (n == blank) b o n

-- words side by side from the place o on, 8 bytes each
abbrev pub row : ℕ → ℕ → List ℕ → Fml
row b o [] = ftrue
row b o (n ∷ ns) = fsep (spot b o n) (row b (o + 8) ns)

abbrev pub Sized : Ptr → ℕ → Type 0
Sized p n = InBlock p × (n * 8 < 2 ^ 63)

abbrev pub span : Ptr → List ℕ → Fml
span p ns = fsep (fact (Sized p (length ns))) (row (block_of p) (count_of p) ns)

-- where the word i lies
abbrev pub place : Ptr → ℕ → Ptr
place p i = block_ptr (block_of p) (i * 8 + count_of p)

-- the type for which the memory of n words is asked
abbrev pub words_ty : ℕ → Ty
words_ty n = ty_array (ty_int w64) n

abbrev pub freed_by : (Ty → Ptr → Fml) → Ptr → ℕ → Fml
freed_by token p n = token (words_ty n) p

-- how many words, the name of the views, and the lifetime
pub record WordsId : Type 0 where
  pub words : ℕ
  pub views_name : ℕ
  pub atom : ℕ

abbrev pub words_id_coded : Coded WordsId
words_id_coded = coded_via (coded× coded_ℕ (coded× coded_ℕ coded_ℕ))
    (λ (z : WordsId). (z.words, (z.views_name, z.atom)))
    (λ x y e i. record { words = (e i).0; views_name = (e i).1.0; atom = (e i).1.1 })

abbrev pub age : WordsId → Lft
age z = z.atom ∷ []

abbrev pub mine : {V : Type 0} → (V → Gv) → WordsId → ℕ → V → Fml
mine c z id v = seen c z.views_name id three_quarters v

module _ {V : Type 0} (c : V → Gv) (holds : State V → Type 0) (p : Ptr) (z : WordsId) where
  abbrev pub standing : State V → Fml
  standing s = fsep (row (block_of p) (count_of p) s.words)
      (fsep (roster c z.views_name 0 s.views) (fact (holds s × (length s.words ≡ z.words))))

  abbrev pub inner : Fml
  inner = fex (State V) standing

  abbrev pub common : Fml
  common = fsep (fact (Sized p z.words)) (finv (fbor (age z) inner))

abbrev pub lasts : WordsId → Lft → Fml
lasts z κ = fshr_bor κ (λ q. flft (age z) q)

-- It keeps `holds` in sight as an argument, where `search` can match it
unfoldable pub seal : (X : Type 1) → X → (X → Fml) → Fml
seal X x F = F x

module _ {V : Type 0} (c : V → Gv) (holds : State V → Type 0) (p : Ptr) (z : WordsId) where
  abbrev pub words_own : Fml
  words_own = seal (State V → Type 0) holds (λ h. fsep (flft (age z) full_share)
      (fsep (common c h p z) (flent (age z) (inner c h p z))))

  abbrev pub words_share : Lft → Fml
  words_share κ = seal (State V → Type 0) holds (λ h. fsep (lasts z κ) (common c h p z))
