-- Parts of different revisions, put into post-order.
use Rattle.std.proofs.Common.{◌≡◌, ◌≢◌, ◌⊎◌, inl, inr, ℕ, zero, suc, ◌+◌, ◌≤◌, ◌<◌, Bool, true, false, cond, List, [], ◌∷◌, length, get_or, Option, Some, None, refl, sym, ap, ◌∙◌, subst, arith, is_lt}
use Rattle.std.proofs.lemmas.Bool.{true≢false}
use Rattle.std.specs.List.{Contains, sum_by}
use Rattle.std.specs.List.Sorted.{IsPermutation, IsSortedBy}
use Rattle.std.specs.Cmp.{IsStrictWeakOrder}
use Rattle.std.proofs.lemmas.List.Sorted.{Contains-permutation, IsPermutation-sym, sum_by-IsPermutation, sorted_far}
use Rattle.std.proofs.lemmas.List.Sums.{sum_by-cons}
use Rattle.rev_num.specs.Path.{Path, same, before}
use Rattle.rev_num.proofs.PostOrder.{same_refl, same-eq}
use Rattle.rev_num.proofs.PostOrder.{before_trans, before_irrefl}
use Rattle.rev_num.proofs.PostOrder.{before_total}
use Rattle.typed_programs.specs.Least.{Among}
use Rattle.revision_machine.specs.Laws.{IsIn, IsDistinct}
use Rattle.revision_machine.proofs.Paths.{some_inj, apart-same, decide_same}
use Rattle.trace_diagram.specs.declared.diagram.Part.{Part}
use Rattle.audit_rules.specs.Traces.{InPostOrder, part_at, paths_of}
use Rattle.audit_rules.proofs.OneOwnRun.{none_some}
use Rattle.trace_parts.specs.PartOfRevision.{is_sooner, post_order}
use Rattle.std.specs.declared.cmp.Ordering.TheVariants.{Less, Equal, Greater}

-- ---- the order

decide_before : (b : Bool) → (b ≡ true) ⊎ (b ≡ false)
decide_before true = inl refl
decide_before false = inr refl

pub sooner_order : IsStrictWeakOrder is_sooner
sooner_order = record { one_way = one_way; chain = chain }
  where
    one_way : (x y : Part) → is_sooner x y ≡ true → is_sooner y x ≡ false
    one_way x y h = go (decide_before (before y.path x.path))
      where
        go : (before y.path x.path ≡ true) ⊎ (before y.path x.path ≡ false) → before y.path x.path ≡ false
        go (inl k) = absurd (before_irrefl x.path (before_trans x.path y.path x.path h k))
        go (inr k) = k

    chain : (x y z : Part) → is_sooner x y ≡ false → is_sooner y z ≡ false → is_sooner x z ≡ false
    chain x y z h k = go (decide_before (before x.path z.path))
      where
        from : before x.path z.path ≡ true → (x.path ≡ y.path) ⊎ (x.path ≢ y.path) → ⊥
        from m (inl e) = true≢false (sym (subst (λ v. before v z.path ≡ true) e m) ∙ k)
        from m (inr apart) = by (before_total x.path y.path apart)
          where
            by : (before x.path y.path ≡ true) ⊎ (before y.path x.path ≡ true) → ⊥
            by (inl n) = true≢false (sym n ∙ h)
            by (inr n) = true≢false (sym (before_trans y.path x.path z.path n m) ∙ k)

        go : (before x.path z.path ≡ true) ⊎ (before x.path z.path ≡ false) → before x.path z.path ≡ false
        go (inl m) = absurd (from m (decide_same x.path y.path))
        go (inr m) = m

pub sooner_is : (p q : Path) → is_lt (post_order p q) ≡ before p q
sooner_is p q = go (before p q) (same p q)
  where
    go : (b c : Bool) → is_lt (cond b Less (cond c Equal Greater)) ≡ b
    go true c = refl
    go false true = refl
    go false false = refl

-- the same order, as a comparison gives it
abbrev pub is_less : Part → Part → Bool
is_less p q = is_lt (post_order p.path q.path)

pub same_order : is_less ≡ is_sooner
same_order = λ i p q. sooner_is p.path q.path i

pub less_order : IsStrictWeakOrder is_less
less_order = subst IsStrictWeakOrder (sym same_order) sooner_order

-- ---- how many parts a revision has

abbrev pub one_if : Bool → ℕ
one_if true = 1
one_if false = 0

abbrev pub count : Path → List Part → ℕ
count r = sum_by (λ (p : Part). one_if (same p.path r))

-- no revision has two
abbrev pub AreOnce : List Part → Type 0
AreOnce ps = (r : Path) → count r ps ≤ 1

count_cons : (r : Path) (p : Part) (ps : List Part) → count r (p ∷ ps) ≡ one_if (same p.path r) + count r ps
count_cons r p ps = sum_by-cons (λ (x : Part). one_if (same x.path r)) p ps

count_none : (r : Path) → count r [] ≡ 0
count_none r = refl

count_out : (r : Path) (ps : List Part) → (IsIn r (paths_of ps) → ⊥) → count r ps ≡ 0
count_out r [] none = count_none r
count_out r (p ∷ ps) none =
    let rest = count_out r ps (λ i. none (inr i)) in
    let off : same p.path r ≡ false = apart-same p.path r (λ e. none (inl (sym e))) in
    count_cons r p ps ∙ ap (λ b. one_if b + count r ps) off ∙ (let z : 0 + count r ps ≡ 0 = omega (arith, rest) in z)

pub distinct_once : (ps : List Part) → IsDistinct (paths_of ps) → AreOnce ps
distinct_once [] d r = let z = count_none r in omega (arith, z)
distinct_once (p ∷ ps) d r = go (decide_same p.path r) (distinct_once ps d.1 r)
  where
    go : (p.path ≡ r) ⊎ (p.path ≢ r) → count r ps ≤ 1 → count r (p ∷ ps) ≤ 1
    go (inl e) rest =
        let none : count r ps ≡ 0 = count_out r ps (subst (λ v. IsIn v (paths_of ps) → ⊥) e d.0) in
        let whole : count r (p ∷ ps) ≡ 1 + count r ps =
        count_cons r p ps ∙ ap (λ b. one_if b + count r ps) (subst (λ v. same p.path v ≡ true) e (same_refl p.path)) in
        omega (arith, none, whole)
    go (inr apart) rest =
        let whole : count r (p ∷ ps) ≡ 0 + count r ps =
        count_cons r p ps ∙ ap (λ b. one_if b + count r ps) (apart-same p.path r apart) in
        omega (arith, rest, whole)

pub once_moved : (ps qs : List Part) → IsPermutation ps qs → AreOnce ps → AreOnce qs
once_moved ps qs moved once r =
    let same_count = sum_by-IsPermutation (λ (p : Part). one_if (same p.path r)) ps qs moved in
    let few = once r in
    omega (arith, same_count, few)

-- ---- membership

pub contains_among : (ps : List Part) (x : Part) → Contains ps x → Among ps x
contains_among [] x h = let less = h.1 in absurd (omega arith)
contains_among (p ∷ ps) x h = go h.0 h.1 h.2 (λ k. contains_among ps x k)
  where
    go : (k : ℕ) → k < length (p ∷ ps) → get_or (p ∷ ps) k x ≡ x → (Contains ps x → Among ps x) → Among (p ∷ ps) x
    go zero less e rest = inl e
    go (suc k) less e rest = inr (rest (k, omega arith, e))

pub among_contains : (ps : List Part) (x : Part) → Among ps x → Contains ps x
among_contains [] x i = absurd i
among_contains (p ∷ ps) x (inl e) = (zero, omega arith, e)
among_contains (p ∷ ps) x (inr i) = let h = among_contains ps x i in (suc h.0, (let less = h.1 in omega arith), h.2)

among_count : (ps : List Part) (x : Part) → Among ps x → 1 ≤ count x.path ps
among_count [] x i = absurd i
among_count (p ∷ ps) x (inl e) =
    let on : same p.path x.path ≡ true = ap (λ v. same v.path x.path) e ∙ same_refl x.path in
    let whole : count x.path (p ∷ ps) ≡ 1 + count x.path ps =
    count_cons x.path p ps ∙ ap (λ b. one_if b + count x.path ps) on in
    omega (arith, whole)
among_count (p ∷ ps) x (inr i) =
    let rest = among_count ps x i in
    let whole = count_cons x.path p ps in
    omega (arith, rest, whole)

-- the part of a revision stands under its path
pub among_at : (ps : List Part) (x : Part) → AreOnce ps → Among ps x → part_at ps x.path ≡ Some x
among_at [] x once i = absurd i
among_at (p ∷ ps) x once (inl e) =
    let on : same p.path x.path ≡ true = ap (λ v. same v.path x.path) e ∙ same_refl x.path in
    ap (λ b. cond b (Some p) (part_at ps x.path)) on ∙ ap Some e
among_at (p ∷ ps) x once (inr i) = go (decide_same p.path x.path) (λ few. among_at ps x few i)
  where
    fewer : AreOnce ps
    fewer r = let whole = count_cons r p ps in let few = once r in omega (arith, whole, few)

    go : (p.path ≡ x.path) ⊎ (p.path ≢ x.path) → (AreOnce ps → part_at ps x.path ≡ Some x)
        → part_at (p ∷ ps) x.path ≡ Some x
    go (inl e) rest =
        let on : same p.path x.path ≡ true = subst (λ v. same p.path v ≡ true) e (same_refl p.path) in
        let whole : count x.path (p ∷ ps) ≡ 1 + count x.path ps =
        count_cons x.path p ps ∙ ap (λ b. one_if b + count x.path ps) on in
        let some = among_count ps x i in
        let few = once x.path in
        absurd (omega (arith, whole, some, few))
    go (inr apart) rest = ap (λ b. cond b (Some p) (part_at ps x.path)) (apart-same p.path x.path apart) ∙ rest fewer

at_among : (ps : List Part) (r : Path) (x : Part) → part_at ps r ≡ Some x → Among ps x × (x.path ≡ r)
at_among [] r x e = none_some e
at_among (p ∷ ps) r x e = go (same p.path r) refl e (at_among ps r x)
  where
    go : (b : Bool) → same p.path r ≡ b → cond b (Some p) (part_at ps r) ≡ Some x
        → (part_at ps r ≡ Some x → Among ps x × (x.path ≡ r)) → Among (p ∷ ps) x × (x.path ≡ r)
    go true is f rest = let one : p ≡ x = some_inj f in (inl one, sym (ap (λ v. v.path) one) ∙ same-eq p.path r is)
    go false is f rest = let h = rest f in (inr h.0, h.1)

-- the same parts in another order
pub same_at : (ps qs : List Part) (r : Path) → IsPermutation ps qs → AreOnce ps → part_at qs r ≡ part_at ps r
same_at ps qs r moved once = go (part_at ps r) refl (part_at qs r) refl
  where
    forth : (x : Part) → Among ps x → Among qs x
    forth x i = contains_among qs x (Contains-permutation ps qs x moved (among_contains ps x i))

    back : (x : Part) → Among qs x → Among ps x
    back x i = contains_among ps x
        (Contains-permutation qs ps x (IsPermutation-sym ps qs moved) (among_contains qs x i))

    go : (o : Option Part) → part_at ps r ≡ o → (u : Option Part) → part_at qs r ≡ u → u ≡ o
    go (Some x) e u f =
        let h = at_among ps r x e in
        sym f ∙ ap (part_at qs) (sym h.1) ∙ among_at qs x (once_moved ps qs moved once) (forth x h.0)
    go None e None f = refl
    go None e (Some x) f =
        let h = at_among qs r x f in
        none_some (sym e ∙ ap (part_at ps) (sym h.1) ∙ among_at ps x once (back x h.0))

-- ---- post-order

fewer : (p : Part) (ps : List Part) → AreOnce (p ∷ ps) → AreOnce ps
fewer p ps once r = let whole = count_cons r p ps in let few = once r in omega (arith, whole, few)

tail : (p : Part) (ps : List Part) → IsSortedBy is_sooner (p ∷ ps) → IsSortedBy is_sooner ps
tail p ps up k d low high =
    let next : suc k + 1 ≡ suc (k + 1) = omega arith in
    subst (λ n. is_sooner (get_or (p ∷ ps) n d) (get_or (p ∷ ps) (suc k) d) ≡ false) next
    (up (suc k) d (omega arith) (omega arith))

pub in_order : (ps : List Part) → AreOnce ps → IsSortedBy is_sooner ps → InPostOrder ps
in_order [] once up = tt
in_order (p ∷ ps) once up = (behind, in_order ps (fewer p ps once) (tail p ps up))
  where
    behind : (q : Part) → Among ps q → before p.path q.path ≡ true
    behind q i = go (decide_same p.path q.path)
      where
        at : Contains ps q
        at = among_contains ps q i

        late : before q.path p.path ≡ false
        late = subst (λ v. before v.path p.path ≡ false) at.2
            (sorted_far is_sooner sooner_order (p ∷ ps) up zero (suc at.0) q (omega arith)
            (let less = at.1 in omega arith))

        go : (p.path ≡ q.path) ⊎ (p.path ≢ q.path) → before p.path q.path ≡ true
        go (inl e) =
            let on : same p.path q.path ≡ true = subst (λ v. same p.path v ≡ true) e (same_refl p.path) in
            let whole : count q.path (p ∷ ps) ≡ 1 + count q.path ps =
            count_cons q.path p ps ∙ ap (λ b. one_if b + count q.path ps) on in
            let some = among_count ps q i in
            let few = once q.path in
            absurd (omega (arith, whole, some, few))
        go (inr apart) = by (before_total p.path q.path apart)
          where
            by : (before p.path q.path ≡ true) ⊎ (before q.path p.path ≡ true) → before p.path q.path ≡ true
            by (inl h) = h
            by (inr h) = absurd (true≢false (sym h ∙ late))
