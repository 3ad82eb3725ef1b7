-- The numbers of shapes when one is added.
use Rattle.std.proofs.Common.{◌≡◌, ◌≢◌, ◌∙◌, ◌⊎◌, inl, inr, ℕ, zero, suc, ◌+◌, ◌<◌, ◌≤◌, Bool, true, false, List, [], ◌∷◌, ◌++◌, length, Option, Some, None, refl, sym, ap, subst, arith, length-append}
use Rattle.std.specs.Prelude.{slice_get, slice_set, nat_eq}
use Rattle.std.proofs.lemmas.Bool.Decides.{nat_tests}
use Rattle.std.proofs.lemmas.List.{length-set}
use Rattle.rev_num.specs.declared.value.ValueKind.{ValueKind}
use Rattle.rev_num.specs.declared.value.ValueKind.TheVariants as k
use Rattle.code_rules.specs.Shapes.{Shape}
use Rattle.code_verifier.specs.declared.node.Node.{Node}
use Rattle.code_verifier.specs.ShapesByNumber.{shape_at, IsPushed}
use Rattle.code_verifier.specs.Trie.{shape_on, shapes_of, above, above_at, IsNode, IsTrie, new_node, with_above}
use Rattle.code_verifier.proofs.Tries.{get_last, grown_length, grown_snoc, grown_set}
use Rattle.code_soundness.proofs.Basics.{some_within}
use Rattle.rev_num.proofs.Lists.{get_append, get_set, get_set_other}
use Rattle.rev_num.proofs.Options.{some_same as some_eq}

abbrev at_of : Option Shape → Shape
at_of o = elim o [ None ↦ [] | Some s ↦ s ]

abbrev above_of : ValueKind → Option Node → ℕ
above_of x o = elim o [ None ↦ 0 | Some n ↦ above x n ]

above_same : (x : ValueKind) (m : ℕ) (n : Node) → above x (with_above x m n) ≡ m
above_same k.Int m n = refl
above_same k.Bool m n = refl
above_same k.Rev m n = refl

-- the other kinds stay
above_other : (x y : ValueKind) (m : ℕ) (n : Node)
    → ((x ≡ y) × (above x (with_above y m n) ≡ m)) ⊎ (above x (with_above y m n) ≡ above x n)
above_other k.Int k.Int m n = inl (refl, refl)
above_other k.Int k.Bool m n = inr refl
above_other k.Int k.Rev m n = inr refl
above_other k.Bool k.Int m n = inr refl
above_other k.Bool k.Bool m n = inl (refl, refl)
above_other k.Bool k.Rev m n = inr refl
above_other k.Rev k.Int m n = inr refl
above_other k.Rev k.Bool m n = inr refl
above_other k.Rev k.Rev m n = inl (refl, refl)

same_fields : (x : ValueKind) (m : ℕ) (n : Node)
    → ((with_above x m n).kind ≡ n.kind) × ((with_above x m n).below ≡ n.below) × ((with_above x m n).depth ≡ n.depth)
same_fields k.Int m n = (refl, refl, refl)
same_fields k.Bool m n = (refl, refl, refl)
same_fields k.Rev m n = (refl, refl, refl)

grown_cons : (done : List Shape) (kind : ValueKind) (below depth : ℕ) → 0 < length done
    → shape_on done (new_node kind below depth) ≡ kind ∷ shape_at done below
grown_cons [] kind below depth h = absurd (omega (arith, h))
grown_cons (s ∷ ss) kind below depth h = refl

module _ (ns : List Node) (trie : IsTrie ns) (id : ℕ) (kind : ValueKind) (node : Node)
    (here : slice_get ns id ≡ Some node) (free : above kind node ≡ 0) where
  abbrev ns1 : List Node
  ns1 = ns ++ new_node kind id (suc node.depth) ∷ []

  abbrev pub grown_nodes : List Node
  grown_nodes = slice_set (ns ++ new_node kind id (suc node.depth) ∷ []) id (with_above kind (length ns) node)

  within : id < length ns
  within = some_within ns id node here

  long1 : length ns1 ≡ suc (length ns)
  long1 = let l = length-append ns (new_node kind id (suc node.depth) ∷ []) in omega (arith, l)

  long : length grown_nodes ≡ suc (length ns)
  long = length-set ns1 id (with_above kind (length ns) node) ∙ long1

  here1 : slice_get ns1 id ≡ Some node
  here1 = get_append ns (new_node kind id (suc node.depth) ∷ []) id within ∙ here

  count : length (shapes_of ns) ≡ length ns
  count = let l = grown_length [] ns in omega (arith, l)

  pub shapes : shapes_of grown_nodes ≡ shapes_of ns ++ (kind ∷ shape_at (shapes_of ns) id) ∷ []
  shapes =
      let f = same_fields kind (length ns) node in
      let c : 0 < length (shapes_of ns) = (let l = count in let t = trie.some in omega (arith, l, t)) in
      grown_set [] ns1 id node (with_above kind (length ns) node) here1 f.0 f.1
      ∙ grown_snoc [] ns (new_node kind id (suc node.depth))
      ∙ ap (λ y. shapes_of ns ++ y ∷ []) (grown_cons (shapes_of ns) kind id (suc node.depth) c)

  old_shape : (j : ℕ) → j < length ns → shape_at (shapes_of grown_nodes) j ≡ shape_at (shapes_of ns) j
  old_shape j h =
      ap (λ y. shape_at y j) shapes
      ∙ ap at_of
      (get_append (shapes_of ns) ((kind ∷ shape_at (shapes_of ns) id) ∷ []) j (let l = count in omega (arith, l, h)))

  new_shape : shape_at (shapes_of grown_nodes) (length ns) ≡ kind ∷ shape_at (shapes_of ns) id
  new_shape =
      ap (shape_at (shapes_of grown_nodes)) (sym count)
      ∙ ap (λ y. shape_at y (length (shapes_of ns))) shapes
      ∙ ap at_of (get_last (shapes_of ns) (kind ∷ shape_at (shapes_of ns) id))

  record Old (j : ℕ) (n : Node) : Type 0 where
    node' : Node
    is : slice_get ns j ≡ Some node'
    less : j < length ns
    kind' : n.kind ≡ node'.kind
    below' : n.below ≡ node'.below
    depth' : n.depth ≡ node'.depth

  data Which (j : ℕ) (n : Node) : Type 0 where
    old : Old j n → Which j n
    new : j ≡ length ns → n ≡ new_node kind id (suc node.depth) → Which j n

  which : (j : ℕ) (n : Node) → slice_get grown_nodes j ≡ Some n → Which j n
  which j n h = by (nat_eq j id) refl (nat_eq j (length ns)) refl
    where
      inside : j < suc (length ns)
      inside = let a = some_within grown_nodes j n h in let l = long in omega (arith, a, l)

      by : (d : Bool) → nat_eq j id ≡ d → (e : Bool) → nat_eq j (length ns) ≡ e → Which j n
      by true p e q =
          let z : j ≡ id = grind (arith, nat_tests, p) in
          let w : with_above kind (length ns) node ≡ n =
          some_eq _ _ (sym (get_set ns1 id (with_above kind (length ns) node)
          (let l = long1 in let i = within in omega (arith, l, i)))
          ∙ ap (slice_get grown_nodes) (sym z) ∙ h) in
          let f = same_fields kind (length ns) node in
          old (record {
            node' = node;
            is = ap (slice_get ns) z ∙ here;
            less = (let i = within in omega (arith, z, i));
            kind' = ap (λ y. y.kind) (sym w) ∙ f.0;
            below' = ap (λ y. y.below) (sym w) ∙ f.1;
            depth' = ap (λ y. y.depth) (sym w) ∙ f.2;
          })
      by false p true q =
          let z : j ≡ length ns = grind (arith, nat_tests, q) in
          let o = get_set_other ns1 j id (with_above kind (length ns) node) (λ e. grind (arith, nat_tests, p, e)) in
          new z (some_eq _ _ (sym h ∙ o ∙ ap (slice_get ns1) z ∙ get_last ns (new_node kind id (suc node.depth))))
      by false p false q =
          let i = inside in
          let less : j < length ns = grind (arith, nat_tests, q, i) in
          let o = get_set_other ns1 j id (with_above kind (length ns) node) (λ e. grind (arith, nat_tests, p, e)) in
          old (record {
            node' = n;
            is = sym (get_append ns (new_node kind id (suc node.depth) ∷ []) j less) ∙ sym o ∙ h;
            less = less;
            kind' = refl;
            below' = refl;
            depth' = refl;
          })

  here2 : slice_get grown_nodes id ≡ Some (with_above kind (length ns) node)
  here2 = get_set ns1 id (with_above kind (length ns) node) (let l = long1 in let i = within in omega (arith, l, i))

  new_above : (x : ValueKind) → above x (new_node kind id (suc node.depth)) ≡ 0
  new_above k.Int = refl
  new_above k.Bool = refl
  new_above k.Rev = refl

  -- what is found from a shape: as before, or the new one
  found : (x : ValueKind) (j : ℕ)
      → ((x ≡ kind) × (j ≡ id) × (above_at x grown_nodes j ≡ length ns)) ⊎ (above_at x grown_nodes j ≡ above_at x ns j)
  found x j = by (nat_eq j id) refl (slice_get ns1 j) refl (slice_get ns j) refl
    where
      by : (d : Bool) → nat_eq j id ≡ d → (o : Option Node) → slice_get ns1 j ≡ o → (u : Option Node)
          → slice_get ns j ≡ u
          → ((x ≡ kind) × (j ≡ id) × (above_at x grown_nodes j ≡ length ns))
          ⊎ (above_at x grown_nodes j ≡ above_at x ns j)
      by true p o q u r =
          let z : j ≡ id = grind (arith, nat_tests, p) in
          let a : above_at x grown_nodes j ≡ above x (with_above kind (length ns) node) =
          ap (above_of x) (ap (slice_get grown_nodes) z ∙ here2) in
          let b : above_at x ns j ≡ above x node = ap (above_of x) (ap (slice_get ns) z ∙ here) in
          elim (above_other x kind (length ns) node) [ inl e ↦ inl (e.0, z, a ∙ e.1) | inr e ↦ inr (a ∙ e ∙ sym b) ]
      by false p o q (Some n) r =
          inr (ap (above_of x) (get_set_other ns1 j id (with_above kind (length ns) node)
          (λ e. grind (arith, nat_tests, p, e))
          ∙ get_append ns (new_node kind id (suc node.depth) ∷ []) j (some_within ns j n r)))
      by false p None q None r =
          inr (ap (above_of x)
          (get_set_other ns1 j id (with_above kind (length ns) node) (λ e. grind (arith, nat_tests, p, e)) ∙ q)
          ∙ sym (ap (above_of x) r))
      by false p (Some n) q None r =
          let less : j < suc (length ns) = (let a = some_within ns1 j n q in let l = long1 in omega (arith, a, l)) in
          let more : j < length ns → ⊥ = (λ l. no_some j l r) in
          let z : j ≡ length ns = omega (arith, less, more) in
          let nn : n ≡ new_node kind id (suc node.depth) =
          some_eq _ _ (sym q ∙ ap (slice_get ns1) z ∙ get_last ns (new_node kind id (suc node.depth))) in
          inr (ap (above_of x)
          (get_set_other ns1 j id (with_above kind (length ns) node) (λ e. grind (arith, nat_tests, p, e)) ∙ q)
          ∙ ap (above x) nn ∙ new_above x ∙ sym (ap (above_of x) r))
        where
          no_some : (j : ℕ) → j < length ns → slice_get ns j ≡ None → ⊥
          no_some j l e = go ns j l e
            where
              go : (xs : List Node) (i : ℕ) → i < length xs → slice_get xs i ≡ None → ⊥
              go [] i l e = omega (arith, l)
              go (y ∷ xs) zero l e = (let z : Some y ≡ None = e in cc)
              go (y ∷ xs) (suc i) l e = go xs i (omega (arith, l)) e

  above_id : above_at kind ns id ≡ 0
  above_id = ap (above_of kind) here ∙ free

  found_still : (x : ValueKind) (j to : ℕ) → 0 < to → above_at x ns j ≡ to → above_at x grown_nodes j ≡ to
  found_still x j to pos e = by (found x j)
    where
      by : ((x ≡ kind) × (j ≡ id) × (above_at x grown_nodes j ≡ length ns))
          ⊎ (above_at x grown_nodes j ≡ above_at x ns j)
          → above_at x grown_nodes j ≡ to
      by (inl p) = absurd (let z : above_at x ns j ≡ 0 =
          ap (λ y. above_at y ns j) p.0 ∙ ap (above_at kind ns) p.1 ∙ above_id in
          omega (arith, pos, e, z))
      by (inr p) = p ∙ e

  pub grows : IsTrie grown_nodes
  grows = record {
    some = (let l = long in omega (arith, l));
    root = old_shape 0 trie.some ∙ trie.root;
    bottom = λ n h. by_bottom n (which 0 n h);
    each = λ j n h pos. by_each j n pos (which j n h);
    more = λ x j h. by_more x j h (found x j);
    depth = λ j n h. by_depth j n (which j n h);
  }
    where
      by_bottom : (n : Node) → Which 0 n → n.below ≡ 0
      by_bottom n (old o) = o.below' ∙ trie.bottom o.node' o.is
      by_bottom n (new e q) = absurd (let t = trie.some in omega (arith, t, e))

      by_each : (j : ℕ) (n : Node) → 0 < j → Which j n → IsNode grown_nodes j n
      by_each j n pos (old o) =
          let p = trie.each j o.node' o.is pos in
          let lo = p.below in
          let lb : n.below < j = (let b = o.below' in omega (arith, lo, b)) in
          let ln = o.less in
          record {
            below = lb;
            shape = old_shape j o.less ∙ p.shape ∙ (λ i. sym o.kind' i ∷ shape_at (shapes_of ns) (sym o.below' i))
                ∙ ap (λ y. n.kind ∷ y) (sym (old_shape n.below (omega (arith, lb, ln))));
            found = ap (λ y. above_at y grown_nodes n.below) o.kind' ∙ ap (above_at o.node'.kind grown_nodes) o.below'
                ∙ found_still o.node'.kind o.node'.below j pos p.found;
          }
      by_each j n pos (new e q) =
          let b : n.below ≡ id = ap (λ y. y.below) q in
          let kd : n.kind ≡ kind = ap (λ y. y.kind) q in
          let w = within in
          record {
            below = omega (arith, b, w, e);
            shape = ap (shape_at (shapes_of grown_nodes)) e ∙ new_shape ∙ (λ i. sym kd i ∷ sym (old_shape id within) i)
                ∙ ap (λ y. n.kind ∷ shape_at (shapes_of grown_nodes) y) (sym b);
            found = ap (λ y. above_at y grown_nodes n.below) kd ∙ ap (above_at kind grown_nodes) b
                ∙ ap (above_of kind) here2 ∙ above_same kind (length ns) node ∙ sym e;
          }

      by_more : (x : ValueKind) (j : ℕ) → above_at x grown_nodes j ≢ 0
          → ((x ≡ kind) × (j ≡ id) × (above_at x grown_nodes j ≡ length ns))
          ⊎ (above_at x grown_nodes j ≡ above_at x ns j)
          → (above_at x grown_nodes j < length grown_nodes)
          × (shape_at (shapes_of grown_nodes) (above_at x grown_nodes j) ≡ x ∷ shape_at (shapes_of grown_nodes) j)
      by_more x j h (inl p) =
          let l = long in
          let e = p.2 in (
            omega (arith, l, e),
            ap (shape_at (shapes_of grown_nodes)) p.2 ∙ new_shape ∙ (λ i. sym p.0 i ∷ sym (old_shape id within) i)
                ∙ ap (λ y. x ∷ shape_at (shapes_of grown_nodes) y) (sym p.1),
          )
      by_more x j h (inr p) =
          let q = trie.more x j (λ z. h (p ∙ z)) in
          let l = long in
          let lq = q.0 in
          let jin : j < length ns = above_in j (λ z. h (p ∙ z)) in (
            omega (arith, l, p, lq),
            ap (shape_at (shapes_of grown_nodes)) p ∙ old_shape (above_at x ns j) q.0 ∙ q.1
                ∙ ap (λ y. x ∷ y) (sym (old_shape j jin)),
          )
        where
          above_in : (j : ℕ) → above_at x ns j ≢ 0 → j < length ns
          above_in j d = go ns j d
            where
              go : (xs : List Node) (i : ℕ) → above_of x (slice_get xs i) ≢ 0 → i < length xs
              go [] i d = absurd (d refl)
              go (y ∷ xs) zero d = omega arith
              go (y ∷ xs) (suc i) d = let r = go xs i d in omega (arith, r)

      by_depth : (j : ℕ) (n : Node) → Which j n
          → (n.depth ≡ length (shape_at (shapes_of grown_nodes) j)) × (n.depth ≤ j)
      by_depth j n (old o) =
          let p = trie.depth j o.node' o.is in
          let e = o.depth' in
          let le = p.1 in
          (o.depth' ∙ p.0 ∙ ap length (sym (old_shape j o.less)), omega (arith, e, le))
      by_depth j n (new e q) =
          let p = trie.depth id node here in
          let d : n.depth ≡ suc node.depth = ap (λ y. y.depth) q in
          let w = within in
          let le = p.1 in (
            d ∙ ap suc p.0 ∙ ap length (sym new_shape) ∙ ap (λ y. length (shape_at (shapes_of grown_nodes) y)) (sym e),
            omega (arith, d, le, w, e),
          )

  pub pushed : IsPushed (shapes_of ns) id kind (shapes_of grown_nodes) (length ns)
  pushed = record {
    extends = record {
      kept = λ j h.
          ap (λ y. slice_get y j) shapes ∙ get_append (shapes_of ns) ((kind ∷ shape_at (shapes_of ns) id) ∷ []) j h;
      longer = (let a = grown_length [] grown_nodes in let b = count in let l = long in omega (arith, a, b, l));
    };
    within = (let a = grown_length [] grown_nodes in let l = long in omega (arith, a, l));
    there = new_shape;
  }

-- the same, of what a push makes of the nodes
module _ (ns : List Node) (trie : IsTrie ns) (shapes' : List Shape) (view : shapes_of ns ≡ shapes') (id : ℕ)
    (kind : ValueKind) (node : Node) (here : slice_get ns id ≡ Some node) (free : above kind node ≡ 0)
    (ns' : List Node) (n1 n2 : Node) (to : ℕ) (pushed_on : ns' ≡ ns ++ n1 ∷ [])
    (is1 : n1 ≡ new_node kind id (node.depth + 1)) (len : to ≡ length ns) (is2 : n2 ≡ with_above kind to node) where
  is_grown : slice_set ns' id n2 ≡ grown_nodes ns trie id kind node here free
  is_grown =
      let d : node.depth + 1 ≡ suc node.depth = omega arith in
      let a : ns' ≡ ns ++ new_node kind id (suc node.depth) ∷ [] =
      pushed_on ∙ ap (λ y. ns ++ y ∷ []) (is1 ∙ ap (new_node kind id) d) in
      let b : n2 ≡ with_above kind (length ns) node = is2 ∙ ap (λ y. with_above kind y node) len in
      λ i. slice_set (a i) id (b i)

  pub still_trie : IsTrie (slice_set ns' id n2)
  still_trie = subst IsTrie (sym is_grown) (grows ns trie id kind node here free)

  pub is_pushed : (grown' : List Shape) → shapes_of (slice_set ns' id n2) ≡ grown' → IsPushed shapes' id kind grown' to
  is_pushed grown' e =
      let p = pushed ns trie id kind node here free in
      let g : shapes_of (grown_nodes ns trie id kind node here free) ≡ grown' = sym (ap shapes_of is_grown) ∙ e in
      subst (λ y. IsPushed y id kind grown' to) view
      (subst (λ y. IsPushed (shapes_of ns) id kind y to) g
      (subst (λ y. IsPushed (shapes_of ns) id kind (shapes_of (grown_nodes ns trie id kind node here free)) y) (sym len)
      p))

-- the one that is found stands for the same
pub is_found : (ns : List Node) (trie : IsTrie ns) (shapes' : List Shape) (view : shapes_of ns ≡ shapes') (id : ℕ)
    (kind : ValueKind) (node : Node) (here : slice_get ns id ≡ Some node) (to : ℕ)
    → to ≡ above kind node → (to ≡ 0 → ⊥) → IsPushed shapes' id kind shapes' to
is_found ns trie shapes' view id kind node here to e d =
    let z : above_at kind ns id ≡ to = ap (above_of kind) here ∙ sym e in
    let p = trie.more kind id (λ q. d (sym z ∙ q)) in
    let l = grown_length [] ns in
    let v = ap length view in
    let p0 = p.0 in
    record {
      extends = record { kept = λ j h. refl; longer = omega arith };
      within = omega (arith, l, v, z, p0);
      there = ap (λ y. shape_at y to) (sym view) ∙ ap (shape_at (shapes_of ns)) (sym z) ∙ p.1
          ∙ ap (λ y. kind ∷ shape_at y id) view;
    }
