-- Entries and what they stand for, place by place.
use Rattle.std.proofs.Common.{◌≡◌, inl, inr, ◌∙◌, ℕ, zero, suc, ◌+◌, ◌<◌, List, [], ◌∷◌, ◌++◌, length, take, get_or, Some, refl, sym, ap, subst, arith, length-take}
use Rattle.std.proofs.lemmas.List.{take_more}
use Rattle.std.specs.List.{slice_get}
use Rattle.std.specs.Prelude.{slice_index_or}
use Rattle.rev_num.specs.Path.{Path}
use Rattle.rev_num.proofs.Options.{none_some, some_eq}
use Rattle.rev_code.specs.declared.code.Code.{Code}
use Rattle.revision_machine.specs.Laws.{IsIn, IsDistinct}
use Rattle.revision_machine.specs.PathIndex.{IsEntered, IsIndexed}
use Rattle.revision_machine.proofs.PathIndex.{Key, indexed_push}
use Rattle.std.specs.BTreeMap.{BTreeMap}
use Rattle.code_machine.specs.Local.{CodeRun}
use Rattle.code_machine.specs.Machines.{IsMain}
use Rattle.code_memos.specs.Leaf.{Known}
use Rattle.code_memos.specs.Memo.{IsAmong, paths_of as entry_paths}
use Rattle.code_memos.specs.ByNumber.{KnownFor}
use Rattle.rev_record.specs.declared.entry.LeafEntry.{LeafEntry}
use Rattle.rev_record.specs.Standing.{StandsFor}
use Rattle.rev_record.specs.Entries.{paths, AreKnown}

-- ---- paths

pub paths_push : (ks : List LeafEntry) (k : LeafEntry) → paths (ks ++ k ∷ []) ≡ paths ks ++ k.path ∷ []
paths_push [] k = refl
paths_push (x ∷ ks) k = ap (λ ps. x.path ∷ ps) (paths_push ks k)

paths_many : (ks : List LeafEntry) → length (paths ks) ≡ length ks
paths_many [] = refl
paths_many (x ∷ ks) = ap suc (paths_many ks)

-- one entry more has its place
pub indexed_entry : (m n : BTreeMap Key ℕ) (ks : List LeafEntry) (i : ℕ) (x : LeafEntry) → i < length ks
    → x ≡ get_or ks i x → IsIndexed m (paths (take i ks)) → IsEntered m n x.path i
    → IsIndexed n (paths (take (i + 1) ks))
indexed_entry m n ks i x less is indexed entered =
    let many : length (paths (take i ks)) ≡ i =
    (let a = paths_many (take i ks) in let b = length-take i ks in omega (arith, a, b, less)) in
    subst (λ v. IsIndexed n (paths v)) (sym (take_more ks i x less))
    (subst (IsIndexed n) (sym (paths_push (take i ks) (get_or ks i x)))
    (indexed_push m n (paths (take i ks)) (get_or ks i x).path indexed
    (subst (λ v. IsEntered m n v.path (length (paths (take i ks)))) is
    (subst (IsEntered m n x.path) (sym many) entered))))

pub path_place : (ks : List LeafEntry) (i : ℕ) (p : Path) → slice_get (paths ks) i ≡ Some p
    → (k : LeafEntry) × (slice_get ks i ≡ Some k) × (k.path ≡ p)
path_place [] i p e = none_some e
path_place (k ∷ ks) zero p e = (k, refl, some_eq e)
path_place (k ∷ ks) (suc i) p e = path_place ks i p e

-- ---- entries

pub known_push : (code : Code) (ks : List LeafEntry) (es : List Known) → AreKnown code ks es
    → (k : LeafEntry) (e : Known) → StandsFor k e → KnownFor code e → AreKnown code (ks ++ k ∷ []) (es ++ e ∷ [])
known_push code [] [] h k e stands known = (stands, known, tt)
known_push code (x ∷ ks) (y ∷ es) h k e stands known = (h.0, h.1, known_push code ks es h.2 k e stands known)
known_push code [] (y ∷ es) h k e stands known = absurd h
known_push code (x ∷ ks) [] h k e stands known = absurd h

module _ (g : CodeRun) (number : ℕ) (main : IsMain g number) (fuel : ℕ) where
  pub known_paths : (code : Code) (ks : List LeafEntry) (es : List Known) → AreKnown code ks es
      → paths ks ≡ entry_paths g number main fuel es
  known_paths code [] [] h = refl
  known_paths code (k ∷ ks) (e ∷ es) h = let p = h.0.path in let ps = known_paths code ks es h.2 in λ i. p i ∷ ps i
  known_paths code [] (e ∷ es) h = absurd h
  known_paths code (k ∷ ks) [] h = absurd h

  -- for what an entry at a place stands
  pub record KnownAt (code : Code) (k : LeafEntry) (es : List Known) : Type 0 where
    pub known : Known
    pub stands : StandsFor k known
    pub for : KnownFor code known
    pub among : IsAmong g number main fuel known es

  pub known_at : (code : Code) (ks : List LeafEntry) (es : List Known) → AreKnown code ks es → (i : ℕ) (k : LeafEntry)
      → slice_get ks i ≡ Some k → KnownAt code k es
  known_at code [] [] h i k there = none_some there
  known_at code (x ∷ ks) (e ∷ es) h zero k there =
      record { known = e; stands = subst (λ z. StandsFor z e) (some_eq there) h.0; for = h.1; among = inl refl }
  known_at code (x ∷ ks) (e ∷ es) h (suc i) k there =
      let y = known_at code ks es h.2 i k there in
      record { known = y.known; stands = y.stands; for = y.for; among = inr y.among }
  known_at code [] (e ∷ es) h i k there = absurd h
  known_at code (x ∷ ks) [] h i k there = absurd h

  among_in : (es : List Known) (e : Known) → IsAmong g number main fuel e es
      → IsIn e.path (entry_paths g number main fuel es)
  among_in [] e i = absurd i
  among_in (x ∷ es) e (inl is) = inl (ap (λ (z : Known). z.path) is)
  among_in (x ∷ es) e (inr i) = inr (among_in es e i)

  -- one that is among them has its path there
  pub path_among : (code : Code) (ks : List LeafEntry) (es : List Known) → AreKnown code ks es → (e : Known)
      → IsAmong g number main fuel e es → (p : Path) → e.path ≡ p → IsIn p (paths ks)
  path_among code ks es h e i p is =
      subst (λ ps. IsIn p ps) (sym (known_paths code ks es h))
      (subst (λ q. IsIn q (entry_paths g number main fuel es)) is (among_in es e i))

  -- no two of them have one path
  pub one_known : (es : List Known) → IsDistinct (entry_paths g number main fuel es) → (e f : Known)
      → IsAmong g number main fuel e es → IsAmong g number main fuel f es → e.path ≡ f.path → e ≡ f
  one_known [] d e f i j same = absurd i
  one_known (x ∷ es) d e f (inl is) (inl js) same = is ∙ sym js
  one_known (x ∷ es) d e f (inl is) (inr j) same =
      absurd (d.0 (subst (λ q. IsIn q (entry_paths g number main fuel es)) (sym same ∙ ap (λ (z : Known). z.path) is)
      (among_in es f j)))
  one_known (x ∷ es) d e f (inr i) (inl js) same =
      absurd (d.0 (subst (λ q. IsIn q (entry_paths g number main fuel es)) (same ∙ ap (λ (z : Known). z.path) js)
      (among_in es e i)))
  one_known (x ∷ es) d e f (inr i) (inr j) same = one_known es d.1 e f i j same

-- ---- what is found by its place

pub below : (ks : List LeafEntry) (i : ℕ) (k : LeafEntry) → slice_get ks i ≡ Some k → i < length ks
below [] i k e = none_some e
below (x ∷ ks) zero k e = omega arith
below (x ∷ ks) (suc i) k e = let a = below ks i k e in omega (arith, a)

pub found : (ks : List LeafEntry) (i : ℕ) (k d : LeafEntry) → slice_get ks i ≡ Some k → slice_index_or ks i d ≡ k
found [] i k d e = none_some e
found (x ∷ ks) zero k d e = some_eq e
found (x ∷ ks) (suc i) k d e = found ks i k d e
