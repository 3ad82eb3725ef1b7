-- What the numbers of shapes stand for stays so when a shape is added.
use Rattle.std.proofs.Common.{◌≡◌, ◌∙◌, ℕ, zero, suc, ◌+◌, ◌<◌, ◌≤◌, Bool, true, false, List, [], ◌∷◌, ◌++◌, length, Some, None, refl, sym, ap, arith, true≢false, length-append, get_or}
use Rattle.std.specs.Prelude.{slice_get, slice_set, nat_eq}
use Rattle.std.proofs.lemmas.Option.{slice_get_read}
use Rattle.std.proofs.lemmas.Bool.Decides.{nat_tests}
use Rattle.rev_num.specs.declared.value.ValueKind.{ValueKind}
use Rattle.code_soundness.proofs.Basics.{same_is, within_some, same_self}
use Rattle.code_rules.specs.Shapes.{Shape, same_shape}
use Rattle.code_verifier.specs.declared.node.Node.{Node}
use Rattle.code_verifier.specs.ShapesByNumber.{shape_at, first, rest, Extends}
use Rattle.code_verifier.specs.Trie.{shape_on, grown, shapes_of, above_at, IsTrie}

-- ---- lists

pub get_or_some : {A : Type 0} (xs : List A) (n : ℕ) (x : A) → n < length xs → x ≡ get_or xs n x
    → slice_get xs n ≡ Some x
get_or_some xs n x h e = slice_get_read xs (length xs) n x refl h e

pub get_last : {A : Type 0} (xs : List A) (x : A) → slice_get (xs ++ x ∷ []) (length xs) ≡ Some x
get_last [] x = refl
get_last (y ∷ xs) x = get_last xs x

-- ---- growth

pub grown_length : (done : List Shape) (ns : List Node) → length (grown done ns) ≡ length done + length ns
grown_length done [] = omega arith
grown_length done (n ∷ ns) =
    let r = grown_length (done ++ shape_on done n ∷ []) ns in
    let l = length-append done (shape_on done n ∷ []) in
    omega (arith, r, l)

pub grown_snoc : (done : List Shape) (ns : List Node) (n : Node)
    → grown done (ns ++ n ∷ []) ≡ grown done ns ++ shape_on (grown done ns) n ∷ []
grown_snoc done [] n = refl
grown_snoc done (m ∷ ns) n = grown_snoc (done ++ shape_on done m ∷ []) ns n

pub view_within : (ns : List Node) (shapes : List Shape) (id : ℕ) → shapes_of ns ≡ shapes → id < length shapes
    → id < length ns
view_within ns shapes id e h = let l = grown_length [] ns in let z = ap length e in omega (arith, l, z, h)

-- the same of the length that a vector tells
pub len_within : (ns : List Node) (shapes : List Shape) (id len : ℕ) → len ≡ length ns → shapes_of ns ≡ shapes
    → id < length shapes → id < len
len_within ns shapes id len l e h = let z = view_within ns shapes id e h in omega (arith, l, z)

-- numbers of shapes above do not count
pub grown_set : (done : List Shape) (ns : List Node) (i : ℕ) (n n' : Node) → slice_get ns i ≡ Some n → n'.kind ≡ n.kind
    → n'.below ≡ n.below → grown done (slice_set ns i n') ≡ grown done ns
grown_set done [] i n n' h e f = refl
grown_set done (m ∷ ns) zero n n' h e f =
    let mn : m ≡ n = cc in
    let s : (d : List Shape) → shape_on d n' ≡ shape_on d m =
    on_eq n' m (e ∙ ap (λ y. y.kind) (sym mn)) (f ∙ ap (λ y. y.below) (sym mn)) in
    ap (λ y. grown (done ++ y ∷ []) ns) (s done)
  where
    on_eq : (a b : Node) → a.kind ≡ b.kind → a.below ≡ b.below → (d : List Shape) → shape_on d a ≡ shape_on d b
    on_eq a b p q [] = refl
    on_eq a b p q (s ∷ ss) = λ i. p i ∷ shape_at (s ∷ ss) (q i)
grown_set done (m ∷ ns) (suc i) n n' h e f = grown_set (done ++ shape_on done m ∷ []) ns i n n' h e f

pub shape_extends : (old new : List Shape) (id : ℕ) → Extends old new → id < length old
    → shape_at new id ≡ shape_at old id
shape_extends old new id e h = ap (λ o. elim o as (λ _. Shape) [ None ↦ [] | Some s ↦ s ]) (e.kept id h)

-- ---- equal shapes have one number

no_cons : (x : ValueKind) (s : Shape) → x ∷ s ≡ [] → ⊥
no_cons x s h = cc

cons_first : (x y : ValueKind) (s t : Shape) → x ∷ s ≡ y ∷ t → (x ≡ y) × (s ≡ t)
cons_first x y s t h = (cc, cc)

module _ (ns : List Node) (trie : IsTrie ns) where
  empty_is_root : (a : ℕ) → a < length ns → shape_at (shapes_of ns) a ≡ [] → a ≡ 0
  empty_is_root zero h e = refl
  empty_is_root (suc a) h e =
      let n = within_some ns (suc a) h in
      let is = trie.each (suc a) n.0 n.1 (omega arith) in
      absurd (no_cons _ _ (sym is.shape ∙ e))

  deep : (a : ℕ) (x : ValueKind) (s : Shape) → shape_at (shapes_of ns) a ≡ x ∷ s → 0 < a
  deep zero x s e = absurd (no_cons x s (sym e ∙ trie.root))
  deep (suc a) x s e = omega arith

  pub one_number : (s : Shape) (a b : ℕ) → a < length ns → b < length ns → shape_at (shapes_of ns) a ≡ s
      → shape_at (shapes_of ns) b ≡ s → a ≡ b
  one_number [] a b ha hb ea eb = empty_is_root a ha ea ∙ sym (empty_is_root b hb eb)
  one_number (x ∷ s) a b ha hb ea eb =
      let n = within_some ns a ha in
      let m = within_some ns b hb in
      let p = trie.each a n.0 n.1 (deep a x s ea) in
      let q = trie.each b m.0 m.1 (deep b x s eb) in
      let cp = cons_first _ _ _ _ (sym p.shape ∙ ea) in
      let cq = cons_first _ _ _ _ (sym q.shape ∙ eb) in
      let lp = p.below in
      let lq = q.below in
      let low = one_number s n.0.below m.0.below (omega (arith, lp, ha)) (omega (arith, lq, hb)) cp.1 cq.1 in
      sym p.found ∙ ap (λ y. above_at y ns n.0.below) (cp.0 ∙ sym cq.0) ∙ ap (above_at m.0.kind ns) low ∙ q.found

  pub same_number : (a b : ℕ) → a < length ns → b < length ns
      → nat_eq a b ≡ same_shape (shape_at (shapes_of ns) a) (shape_at (shapes_of ns) b)
  same_number a b ha hb = by (nat_eq a b) refl (same_shape (shape_at (shapes_of ns) a) (shape_at (shapes_of ns) b)) refl
    where
      by : (d : Bool) → nat_eq a b ≡ d → (e : Bool)
          → same_shape (shape_at (shapes_of ns) a) (shape_at (shapes_of ns) b) ≡ e → d ≡ e
      by true p true q = refl
      by false p false q = refl
      by true p false q =
          let z : a ≡ b = grind (arith, nat_tests, p) in
          absurd (true≢false (sym (same_self (shape_at (shapes_of ns) b))
          ∙ ap (λ y. same_shape (shape_at (shapes_of ns) y) (shape_at (shapes_of ns) b)) (sym z) ∙ q))
      by false p true q =
          let z = one_number (shape_at (shapes_of ns) b) a b ha hb (same_is _ _ q) refl in
          grind (arith, nat_tests, p, z)

-- what a node says of its shape
module _ (ns : List Node) (trie : IsTrie ns) (shapes : List Shape) (view : shapes_of ns ≡ shapes) (id : ℕ)
    (within : id < length shapes) (n : Node) (is : n ≡ get_or ns id n) where
  here : slice_get ns id ≡ Some n
  here = get_or_some ns id n (view_within ns shapes id view within) is

  pub node_depth : n.depth ≡ length (shape_at shapes id)
  node_depth = (trie.depth id n here).0 ∙ ap (λ y. length (shape_at y id)) view

  pub node_fits : n.depth ≤ id
  node_fits = (trie.depth id n here).1

  no_depth : (s : Shape) → 0 ≡ length s → s ≡ []
  no_depth [] h = refl
  no_depth (x ∷ s) h = absurd (omega (arith, h))

  first_of_none : nat_eq n.depth 0 ≡ true → None ≡ first (shape_at shapes id)
  first_of_none h =
      let d = node_depth in
      let z : n.depth ≡ 0 = grind (arith, nat_tests, h) in
      sym (ap first (no_depth (shape_at shapes id) (sym z ∙ d)))

  pub no_first : n.depth ≡ 0 → None ≡ first (shape_at shapes id)
  no_first h = first_of_none (grind (arith, nat_tests, h))

  above_root : nat_eq n.depth 0 ≡ false → 0 < id
  above_root h = let f = node_fits in grind (arith, nat_tests, h, f)

  node_shape : 0 < id → shape_at shapes id ≡ n.kind ∷ shape_at shapes n.below
  node_shape h =
      ap (λ y. shape_at y id) (sym view) ∙ (trie.each id n here h).shape ∙ ap (λ y. n.kind ∷ shape_at y n.below) view

  pub some_first : (n.depth ≡ 0 → ⊥) → Some n.kind ≡ first (shape_at shapes id)
  some_first h = sym (ap first (node_shape (above_root (grind (arith, nat_tests, h)))))

  pub below_within : n.below < length shapes
  below_within = by (nat_eq id 0) refl
    where
      by : (d : Bool) → nat_eq id 0 ≡ d → n.below < length shapes
      by true p =
          let z : id ≡ 0 = grind (arith, nat_tests, p) in
          let b = trie.bottom n (ap (slice_get ns) (sym z) ∙ here) in
          let w = within in
          omega (arith, b, w, z)
      by false p =
          let pos : 0 < id = grind (arith, nat_tests, p) in
          let b = (trie.each id n here pos).below in
          let w = within in
          omega (arith, b, w)

  pub below_shape : shape_at shapes n.below ≡ rest (shape_at shapes id)
  below_shape = by (nat_eq id 0) refl
    where
      by : (d : Bool) → nat_eq id 0 ≡ d → shape_at shapes n.below ≡ rest (shape_at shapes id)
      by true p =
          let z : id ≡ 0 = grind (arith, nat_tests, p) in
          let b = trie.bottom n (ap (slice_get ns) (sym z) ∙ here) in
          let r : shape_at shapes 0 ≡ [] = ap (λ y. shape_at y 0) (sym view) ∙ trie.root in
          ap (shape_at shapes) b ∙ r ∙ sym (ap rest (ap (shape_at shapes) z ∙ r))
      by false p = sym (ap rest (node_shape (grind (arith, nat_tests, p))))
