-- Tables as lists, and the maps that find their names.
use Rattle.std.proofs.Common.{◌≡◌, ◌∙◌, ℕ, zero, suc, Bool, true, false, cond, List, [], ◌∷◌, ◌++◌, Option, None, Some, nat_eq, refl, sym, ap, subst, Vec, is_some, if◌then◌else◌, ◌&&◌, arith, true≢false, length, take, drop, get_or, ◌<◌, ◌≤◌, ◌+◌, ◌*◌, ◌-◌}
use Rattle.std.proofs.lemmas.List.{drop_more, get_or-drop, length-drop, take-map, take-take}
use Rattle.std.proofs.lemmas.Bool.Decides.{nat_tests}
use Rattle.std.specs.declared.alloc.Global.{Global}
use Rattle.std.specs.Cmp.Lexicographic.{slice_cmp}
use Rattle.std.specs.Ordering.{is_eq, nat_cmp}
use Rattle.std.specs.BTreeMap.{BTreeMap, get_by, UpdatesBy}
use Rattle.std.specs.Prelude.{Result, Ok, Err, OnOk, OnErr}
use Rattle.rev_num.proofs.Maps.{other_found}
use Rattle.name_tables.specs.Names.{Name, same}
use Rattle.name_tables.specs.Table.{AreBytes, IsIndexed, IsLongIndex, IsOnce, IsShortIndex, Table, against, find, added, most_short, number, rows}

abbrev pub Key : Type 0
Key = Vec ℕ Global

module _ {V : Type 0} where
  -- a name that is there changes nothing
  pub kept : (t : Table V) (name : Name) (x : V) → is_some (find name t) ≡ true → t ≡ added t name x
  kept t name x h = ap (λ b. cond b t (t ++ (name, x) ∷ [])) (sym h)

  -- a name that is not there goes last
  pub grown : (t : Table V) (name : Name) (x : V) → find name t ≡ None → t ++ (name, x) ∷ [] ≡ added t name x
  grown t name x h = ap (λ o. cond (is_some o) t (t ++ (name, x) ∷ [])) (sym h)

  pub not_there : (o : Option V) → is_some o ≡ false → o ≡ None
  not_there None h = refl
  not_there (Some x) h = cc

-- ---- names

same_head : (x y : ℕ) (b : Bool) → nat_eq x y && b ≡ true → (x ≡ y) × (b ≡ true)
same_head x y b h = grind (arith, nat_tests)

-- names with the same bytes are equal
pub same_equal : (a b : Name) → same a b ≡ true → a ≡ b
same_equal [] [] h = refl
same_equal [] (y ∷ b) h = absurd (true≢false (sym h))
same_equal (x ∷ a) [] h = absurd (true≢false (sym h))
same_equal (x ∷ a) (y ∷ b) h =
    let parts = same_head x y (same a b) h in
    λ i. parts.0 i ∷ same_equal a b parts.1 i

same_self : (a : Name) → same a a ≡ true
same_self [] = refl
same_self (x ∷ a) = let e = same_self a in grind (arith, nat_tests)

-- names of other lengths are apart
apart : (a b : Name) → (length a ≡ length b → ⊥) → same a b ≡ false
apart a b h = by (same a b) refl
  where
    by : (t : Bool) → same a b ≡ t → t ≡ false
    by true e = absurd (h (ap (λ (v : Name). length v) (same_equal a b e)))
    by false e = refl

-- ---- names by their numbers

number_some : (bs : Name) → 1 ≤ number bs
number_some [] = omega arith
number_some (b ∷ bs) = let r : 1 ≤ number bs = number_some bs in omega arith

-- short names with one number are equal
number_same : (a b : Name) → AreBytes a → AreBytes b → number a ≡ number b → a ≡ b
number_same [] [] h k e = refl
number_same [] (y ∷ b) h k e =
    let r : 1 ≤ number b = number_some b in
    let f : 1 ≡ y + 256 * number b = e in
    absurd (omega arith)
number_same (x ∷ a) [] h k e =
    let r : 1 ≤ number a = number_some a in
    let f : x + 256 * number a ≡ 1 = e in
    absurd (omega arith)
number_same (x ∷ a) (y ∷ b) h k e =
    let f : x + 256 * number a ≡ y + 256 * number b = e in
    let p : x < 256 = h 0 in
    let q : y < 256 = k 0 in
    let first : x ≡ y = omega arith in
    let rest : number a ≡ number b = omega arith in
    let tail = number_same a b (λ i. h (suc i)) (λ i. k (suc i)) rest in
    λ i. first i ∷ tail i

eq_self : (n : ℕ) → is_eq (nat_cmp n n) ≡ true
eq_self n = grind (arith, nat_tests)

eq_true : (m n : ℕ) → is_eq (nat_cmp m n) ≡ true → m ≡ n
eq_true m n h = grind (arith, nat_tests)

-- the numbers of names are equal where the names are
numbers_equal : (w name : Name) → AreBytes w → AreBytes name
    → is_eq (nat_cmp (number w) (number name)) ≡ same name w
numbers_equal w name p q = by (same name w) refl
  where
    apart_by : same name w ≡ false → (t : Bool) → is_eq (nat_cmp (number w) (number name)) ≡ t → t ≡ false
    apart_by h true e =
        let one : name ≡ w = number_same name w q p (sym (eq_true (number w) (number name) e)) in
        sym (same_self w) ∙ sym (ap (λ (v : Name). same v w) one) ∙ h
    apart_by h false e = refl

    by : (b : Bool) → same name w ≡ b → is_eq (nat_cmp (number w) (number name)) ≡ b
    by true h = ap (λ (v : Name). is_eq (nat_cmp (number w) (number v))) (same_equal name w h) ∙ eq_self (number w)
    by false h = apart_by h (is_eq (nat_cmp (number w) (number name))) refl

-- a bound on the numbers of names of so many bytes
abbrev top : ℕ → ℕ
top zero = 256
top (suc k) = 256 * top k

top_some : (k : ℕ) → 256 ≤ top k
top_some zero = omega arith
top_some (suc k) = let r : 256 ≤ top k = top_some k in omega arith

number_below : (bs : Name) (k : ℕ) → AreBytes bs → length bs ≤ k → number bs < top k
number_below [] k h le = let r : 256 ≤ top k = top_some k in omega arith
number_below (b ∷ bs) zero h le = absurd (omega arith)
number_below (b ∷ bs) (suc k) h le =
    let p : b < 256 = h 0 in
    let r : number bs < top k = number_below bs k (λ i. h (suc i)) (omega arith) in
    omega arith

-- the number of a part of a short name has room for one more byte
pub number_room : (name : Name) (i : ℕ) → AreBytes name → length name ≤ 7 → 0 < i
    → number (drop i name) < 72057594037927936
number_room name i h few some =
    let l : length (drop i name) ≡ length name - i = length-drop i name in
    number_below (drop i name) 6
    (λ k. subst (λ (v : ℕ). v < 256) (sym (get_or-drop i name k 0)) (h (i + k)))
    (omega arith)

-- the number from a byte on
pub number_step : (name : Name) (i : ℕ) → i < length name
    → number (drop i name) ≡ get_or name i 0 + 256 * number (drop (i + 1) name)
number_step name i lt = ap number (drop_more name i 0 lt)

-- the first of two, where there is one
abbrev pub or_else : {A : Type 0} → Option A → Option A → Option A
or_else (Some x) o = Some x
or_else None o = o

pub or_else-none : {A : Type 0} (o : Option A) → or_else o None ≡ o
or_else-none None = refl
or_else-none (Some x) = refl

or_else-some : {A : Type 0} (o p : Option A) → is_some o ≡ true → or_else o p ≡ o
or_else-some None p h = absurd (true≢false (sym h))
or_else-some (Some x) p h = refl

module _ {V : Type 0} where
  find-push : (name w : Name) (x : V) (t : Table V)
      → find name (t ++ (w, x) ∷ []) ≡ or_else (find name t) (if same name w then Some x else None)
  find-push name w x [] = refl
  find-push name w x (e ∷ t) = by (same name e.0) (find-push name w x t)
    where
      by : (b : Bool) → find name (t ++ (w, x) ∷ []) ≡ or_else (find name t) (if same name w then Some x else None)
          → cond b (Some e.1) (find name (t ++ (w, x) ∷ []))
          ≡ or_else (cond b (Some e.1) (find name t)) (if same name w then Some x else None)
      by true rest = refl
      by false rest = rest

  find-kept : (name w : Name) (x : V) (t : Table V) (b : Bool) → same name w ≡ b → is_some (find w t) ≡ true
      → find name t ≡ or_else (find name t) (if b then Some x else None)
  find-kept name w x t true h k =
      sym (or_else-some (find name t) (Some x) (ap (λ n. is_some (find n t)) (same_equal name w h) ∙ k))
  find-kept name w x t false h k = sym (or_else-none (find name t))

  find-added-by : (name w : Name) (x : V) (t : Table V) (b : Bool) → is_some (find w t) ≡ b
      → find name (cond b t (t ++ (w, x) ∷ [])) ≡ or_else (find name t) (if same name w then Some x else None)
  find-added-by name w x t true h = find-kept name w x t _ refl h
  find-added-by name w x t false h = find-push name w x t

  -- a look-up in a table with a further entry
  pub find-added : (name w : Name) (x : V) (t : Table V)
      → find name (added t w x) ≡ or_else (find name t) (if same name w then Some x else None)
  find-added name w x t = find-added-by name w x t _ refl

-- a choice between two, and then a third
pub or_else-step : {A : Type 0} (o : Option A) (b : Bool) (h : A) (r : Option A)
    → or_else (or_else o (if b then Some h else None)) r ≡ or_else o (if b then Some h else r)
or_else-step None true h r = refl
or_else-step None false h r = refl
or_else-step (Some x) b h r = refl

-- ---- a table that a map indexes

same-sym : (a b : Name) → same a b ≡ same b a
same-sym [] [] = refl
same-sym [] (y ∷ b) = refl
same-sym (x ∷ a) [] = refl
same-sym (x ∷ a) (y ∷ b) = let e = same-sym a b in grind (arith, nat_tests)

-- one more row
pub rows_push : {V : Type 0} (es : List (Key × V)) (key : Key) (x : V)
    → rows (es ++ (key, x) ∷ []) ≡ rows es ++ (key.items, x) ∷ []
rows_push [] key x = refl
rows_push (e ∷ es) key x = ap (λ t. (e.0.items, e.1) ∷ t) (rows_push es key x)

-- without the last entry the first ones are the same
pub shorter : {V : Type 0} (len : ℕ) (es new : List (Key × V)) → new ≡ take (length es - 1) es → len < length es
    → take len (rows new) ≡ take len (rows es)
shorter len es new e h =
    ap (λ l. take len (rows l)) e ∙ ap (λ l. take len l) (sym (take-map _ (length es - 1) es))
    ∙ take-take len (length es - 1) (rows es) (omega arith)

module _ {V : Type 0} where
  cond_none : (b : Bool) (x : V) (o : Option V) → cond b (Some x) o ≡ None → (b ≡ false) × (o ≡ None)
  cond_none true x o h = cc
  cond_none false x o h = (refl, h)

  or_else_none : (o : Option V) (b : Bool) (x : V) → or_else o (if b then Some x else None) ≡ None
      → (b ≡ false) × (o ≡ None)
  or_else_none None true x h = cc
  or_else_none None false x h = (refl, refl)
  or_else_none (Some y) b x h = cc

  none_or_else : (o : Option V) (b : Bool) (x : V) → b ≡ false → o ≡ None
      → or_else o (if b then Some x else None) ≡ None
  none_or_else None true x h k = absurd (true≢false h)
  none_or_else None false x h k = refl
  none_or_else (Some y) b x h k = cc

  -- a new name goes last
  once_push : (w : Name) (x : V) (t : Table V) → IsOnce t → find w t ≡ None → IsOnce (t ++ (w, x) ∷ [])
  once_push w x [] h k = (refl, tt)
  once_push w x (e ∷ t) h k =
      let parts = cond_none (same w e.0) e.1 (find w t) k in (
        find-push e.0 w x t ∙ none_or_else (find e.0 t) (same e.0 w) x (same-sym e.0 w ∙ parts.0) h.0,
        once_push w x t h.1 parts.1,
      )

  -- without the last entry, whose name is then not there
  once_pop : (w : Name) (x : V) (t : Table V) → IsOnce (t ++ (w, x) ∷ []) → IsOnce t × (find w t ≡ None)
  once_pop w x [] h = (tt, refl)
  once_pop w x (e ∷ t) h =
      let parts = or_else_none (find e.0 t) (same e.0 w) x (sym (find-push e.0 w x t) ∙ h.0) in
      let rest = once_pop w x t h.1 in
      ((parts.1, rest.0), ap (λ b. cond b (Some e.1) (find w t)) (same-sym w e.0 ∙ parts.0) ∙ rest.1)

  push_found : (name w : Name) (x : V) (t : Table V) (b : Bool) → same name w ≡ b → find w t ≡ None
      → cond b (Some x) (find name t) ≡ or_else (find name t) (if b then Some x else None)
  push_found name w x t true h k = ap (λ o. or_else o (Some x)) (sym (ap (λ n. find n t) (same_equal name w h) ∙ k))
  push_found name w x t false h k = sym (or_else-none (find name t))

  pop_found : (name w : Name) (x : V) (t : Table V) (b : Bool) → same name w ≡ b → find w t ≡ None
      → cond b None (or_else (find name t) (if b then Some x else None)) ≡ find name t
  pop_found name w x t true h k = sym (ap (λ n. find n t) (same_equal name w h) ∙ k)
  pop_found name w x t false h k = or_else-none (find name t)

  -- a map that gives a name this value, or none
  given_by : (m n : BTreeMap Key V) (key : Key) (o : Option V) (name : Name) (b : Bool) → same name key.items ≡ b
      → UpdatesBy (λ (a b : Key). slice_cmp nat_cmp a.items b.items) (against key.items) m n o
      → get_by (against name) n ≡ cond b o (get_by (against name) m)
  given_by m n key o name true e h = ap (λ w. get_by (against w) n) (same_equal name key.items e) ∙ h.1
  given_by m n key o name false e h = other_found m n key o name (same-sym key.items name ∙ e) h

  given : (m n : BTreeMap Key V) (key : Key) (o : Option V) (name : Name)
      → UpdatesBy (λ (a b : Key). slice_cmp nat_cmp a.items b.items) (against key.items) m n o
      → get_by (against name) n ≡ cond (same name key.items) o (get_by (against name) m)
  given m n key o name h = given_by m n key o name (same name key.items) refl h

  -- a new long name, in its map and last in the table
  pub long_push : (m n : BTreeMap Key V) (key : Key) (x : V) (t : Table V)
      → UpdatesBy (λ (a b : Key). slice_cmp nat_cmp a.items b.items) (against key.items) m n (Some x)
      → IsLongIndex m t → find key.items t ≡ None → IsLongIndex n (t ++ (key.items, x) ∷ [])
  long_push m n key x t h i k = record {
    finds = λ name many. given m n key (Some x) name h
        ∙ ap (λ o. cond (same name key.items) (Some x) o) (i.finds name many)
        ∙ push_found name key.items x t (same name key.items) refl k ∙ sym (find-push name key.items x t);
  }

  -- the last entry goes, and its long name goes from its map
  long_pop : (m n : BTreeMap Key V) (key : Key) (x : V) (t : Table V)
      → UpdatesBy (λ (a b : Key). slice_cmp nat_cmp a.items b.items) (against key.items) m n None
      → IsLongIndex m (t ++ (key.items, x) ∷ []) → find key.items t ≡ None → IsLongIndex n t
  long_pop m n key x t h i k = record {
    finds = λ name many.
        given m n key None name h
        ∙ ap (λ o. cond (same name key.items) None o) (i.finds name many ∙ find-push name key.items x t)
        ∙ pop_found name key.items x t (same name key.items) refl k;
  }

  -- a map of numbers that gives a name this value, or none
  given_number : (m n : BTreeMap ℕ V) (w name : Name) (o : Option V) → AreBytes w → AreBytes name
      → UpdatesBy nat_cmp (nat_cmp (number w)) m n o
      → get_by (nat_cmp (number name)) n ≡ cond (same name w) o (get_by (nat_cmp (number name)) m)
  given_number m n w name o p q h =
      h.0 (number name) ∙ ap (λ b. cond b o (get_by (nat_cmp (number name)) m)) (numbers_equal w name p q)

  -- a new short name, in its map and last in the table
  pub short_push : (m n : BTreeMap ℕ V) (w : Name) (k : ℕ) (x : V) (t : Table V) → AreBytes w → k ≡ number w
      → UpdatesBy nat_cmp (nat_cmp k) m n (Some x) → IsShortIndex m t → find w t ≡ None
      → IsShortIndex n (t ++ (w, x) ∷ [])
  short_push m n w k x t p e h i none = record {
    finds = λ name bytes few.
        given_number m n w name (Some x) p bytes (subst (λ (v : ℕ). UpdatesBy nat_cmp (nat_cmp v) m n (Some x)) e h)
        ∙ ap (λ o. cond (same name w) (Some x) o) (i.finds name bytes few)
        ∙ push_found name w x t (same name w) refl none ∙ sym (find-push name w x t);
  }

  short_pop : (m n : BTreeMap ℕ V) (w : Name) (k : ℕ) (x : V) (t : Table V) → AreBytes w → k ≡ number w
      → UpdatesBy nat_cmp (nat_cmp k) m n None → IsShortIndex m (t ++ (w, x) ∷ []) → find w t ≡ None
      → IsShortIndex n t
  short_pop m n w k x t p e h i none = record {
    finds = λ name bytes few.
        given_number m n w name None p bytes (subst (λ (v : ℕ). UpdatesBy nat_cmp (nat_cmp v) m n None) e h)
        ∙ ap (λ o. cond (same name w) None o) (i.finds name bytes few ∙ find-push name w x t)
        ∙ pop_found name w x t (same name w) refl none;
  }

  -- names of another length are found as without the last entry
  beside : (name w : Name) (x : V) (t : Table V) → (length name ≡ length w → ⊥)
      → find name (t ++ (w, x) ∷ []) ≡ find name t
  beside name w x t h =
      find-push name w x t ∙ ap (λ b. or_else (find name t) (if b then Some x else None)) (apart name w h)
      ∙ or_else-none (find name t)

  -- a short name, entered
  pub indexed_short : (s n : BTreeMap ℕ V) (l : BTreeMap Key V) (w : Name) (x : V) (t : Table V) → length w ≤ most_short
      → IsIndexed s l t → find w t ≡ None → IsShortIndex n (t ++ (w, x) ∷ []) → IsIndexed n l (t ++ (w, x) ∷ [])
  indexed_short s n l w x t short i none new = record {
    of_short = new;
    of_long = record {
      finds = λ name many. i.of_long.finds name many ∙ sym (beside name w x t (λ e. omega arith));
    };
    once = once_push w x t i.once none;
  }

  -- another name, entered
  pub indexed_long : (s : BTreeMap ℕ V) (l n : BTreeMap Key V) (w : Name) (x : V) (t : Table V) → most_short < length w
      → IsIndexed s l t → find w t ≡ None → IsLongIndex n (t ++ (w, x) ∷ []) → IsIndexed s n (t ++ (w, x) ∷ [])
  indexed_long s l n w x t long i none new = record {
    of_short = record {
      finds = λ name bytes few. i.of_short.finds name bytes few ∙ sym (beside name w x t (λ e. omega arith));
    };
    of_long = new;
    once = once_push w x t i.once none;
  }

  -- a short name, taken out
  pub forget_short : (s n : BTreeMap ℕ V) (l : BTreeMap Key V) (w : Name) (k : ℕ) (x : V) (t : Table V) → AreBytes w
      → length w ≤ most_short → k ≡ number w → UpdatesBy nat_cmp (nat_cmp k) s n None
      → IsIndexed s l (t ++ (w, x) ∷ []) → IsIndexed n l t
  forget_short s n l w k x t p short e h i =
      let parts = once_pop w x t i.once in
      record {
        of_short = short_pop s n w k x t p e h i.of_short parts.1;
        of_long = record {
          finds = λ name many. i.of_long.finds name many ∙ beside name w x t (λ e. omega arith);
        };
        once = parts.0;
      }

  -- another name, taken out
  pub forget_long : (s : BTreeMap ℕ V) (l n : BTreeMap Key V) (key : Key) (x : V) (t : Table V)
      → most_short < length key.items
      → UpdatesBy (λ (a b : Key). slice_cmp nat_cmp a.items b.items) (against key.items) l n None
      → IsIndexed s l (t ++ (key.items, x) ∷ []) → IsIndexed s n t
  forget_long s l n key x t long h i =
      let parts = once_pop key.items x t i.once in
      record {
        of_short = record {
          finds = λ name bytes few. i.of_short.finds name bytes few ∙ beside name key.items x t (λ e. omega arith);
        };
        of_long = long_pop l n key x t h i.of_long parts.1;
        once = parts.0;
      }

  -- a short name that goes last, or nothing where memory was wanted
  pub short_entered : {A E : Type 0} (r : Result A E) (s n : BTreeMap ℕ V) (l : BTreeMap Key V) (w : Name) (x : V)
      (old new : List (Key × V)) → length w ≤ most_short → IsIndexed s l (rows old) → find w (rows old) ≡ None
      → OnOk r (rows new ≡ rows old ++ (w, x) ∷ []) → OnErr r (new ≡ old) → IsShortIndex n (rows new)
      → IsIndexed n l (rows new)
  short_entered (Ok a) s n l w x old new few i none ok err of_short =
      subst (λ (t : Table V). IsIndexed n l t) (sym ok)
      (indexed_short s n l w x (rows old) few i none (subst (λ (t : Table V). IsShortIndex n t) ok of_short))
  short_entered (Err e) s n l w x old new few i none ok err of_short = record {
    of_short = of_short;
    of_long = subst (λ (es : List (Key × V)). IsLongIndex l (rows es)) (sym err) i.of_long;
    once = subst (λ (es : List (Key × V)). IsOnce (rows es)) (sym err) i.once;
  }

  -- another name that goes last, or nothing
  pub long_entered : {A E : Type 0} (r : Result A E) (s : BTreeMap ℕ V) (l n : BTreeMap Key V) (w : Name) (x : V)
      (old new : List (Key × V)) → most_short < length w → IsIndexed s l (rows old) → find w (rows old) ≡ None
      → OnOk r (rows new ≡ rows old ++ (w, x) ∷ []) → OnErr r (new ≡ old) → IsLongIndex n (rows new)
      → IsIndexed s n (rows new)
  long_entered (Ok a) s l n w x old new many i none ok err of_long =
      subst (λ (t : Table V). IsIndexed s n t) (sym ok)
      (indexed_long s l n w x (rows old) many i none (subst (λ (t : Table V). IsLongIndex n t) ok of_long))
  long_entered (Err e) s l n w x old new many i none ok err of_long = record {
    of_short = subst (λ (es : List (Key × V)). IsShortIndex s (rows es)) (sym err) i.of_short;
    of_long = of_long;
    once = subst (λ (es : List (Key × V)). IsOnce (rows es)) (sym err) i.once;
  }
