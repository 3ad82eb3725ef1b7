-- The words allow a step of a table where its user allows it.
use Rattle.std.proofs.Common.{◌≡◌, ◌≢◌, ℕ, zero, suc, ◌+◌, ◌-◌, ◌*◌, ◌%◌, ◌^◌, ◌<◌, ◌≤◌, ◌⊎◌, inl, inr, Bool}
use Rattle.std.proofs.Common.{true, List, [], ◌∷◌, map, length, get_or, set, sym, refl, ap, ◌∙◌, subst, arith}
use mathlib.Core.Option as maybe
use lib.ListN.{get_elem?}
use Rattle.atomic_table.specs.Table as table
use Rattle.atomic_table.proofs.Lists.{at_map}
use Rattle.sparse_table.specs.Words as raw
use Rattle.sparse_table.specs.Words.{blank}
use Rattle.sparse_table.specs.declared.rule.Doing.{Doing}
use Rattle.sparse_table.specs.Parts.{IsPart, IsInner, Has, head_at, client, seen, State, Rules}
use Rattle.sparse_table.specs.Plays.{UserSat, UserThen, PartAt, mine, settled, told_at, head_told, inner_told}
use Rattle.sparse_table.specs.Seats.{IsThere, Backed}
use Rattle.sparse_table.proofs.Spots.{heads_apart}
use Rattle.sparse_table.proofs.Changes.{F, head_set, inner_set}

-- with no slots an act does nothing
plain_act : (a : table.Act (Unit {0})) → table.Valid [] [] a → (table.homes_after [] [] a ≡ [])
    × (table.carried_after [] a ≡ [])
plain_act table.keeps v = (refl, refl)
plain_act (table.takes k y) v = absurd (maybe.some-ne-none (maybe.some y) (sym v))
plain_act table.gives v = (refl, refl)
plain_act (table.chain a b) v = let p = plain_act a v.0 in
    let q = plain_act b (subst (λ (z : List (maybe.Option (Unit {0})) × List (ℕ × Unit {0})). table.Valid z.0 z.1 b)
    (λ i. (p.0 i, p.1 i)) v.1) in
    ((λ i. table.homes_after (p.0 i) (p.1 i) b) ∙ q.0, (λ i. table.carried_after (p.1 i) b) ∙ q.1)

module _ {V : Type 0} (holds : table.State (Unit {0}) V → Type 0) (makes : V → ℕ → Type 0) (needs : ℕ → ℕ → Bool)
    (words width shift : ℕ) where
  abbrev D : Type 0
  D = Doing V

  abbrev R : State V → Type 0
  R = Rules holds makes needs words width shift

  abbrev U : Type 0
  U = UserSat V

  -- what the user's rule allows, at the word that is found
  user : (ws : List ℕ) (vs : List V) (id i x : ℕ) (v : V) (f : ℕ → ℕ) (then : ℕ → U → Type 0) → holds (seen ws vs)
      → get_elem? vs id ≡ maybe.some v → get_or ws i 0 ≡ x → x < blank → table.Allows holds 0 id (v, []) i f then
      → (w : V) × holds (seen (set ws i (f x)) (set vs id w)) × then x (w, [])
  user ws vs id i x v f then h at e small law = let g = law (seen ws vs) h refl at (subst (λ (z : ℕ). z < blank)
      (sym e) small) in
      let w : V = g.0 in let p = plain_act g.1 g.2 in (
        w,
        subst (λ (z : ℕ × List (maybe.Option (Unit {0}))). holds record {
          words = set ws i (f z.0);
          homes = z.1;
          views = set vs id w;
        }) (λ j. (e j, p.0 j)) g.3,
        subst (λ (z : ℕ × List (ℕ × Unit {0})). then z.0 (w, z.1)) (λ j. (e j, p.1 j)) g.4,
      )

  -- a part of which the user shows that it is there
  pub is_there : (s : State V) (r : R s) (id c : ℕ) (d : D) → get_elem? s.views id ≡ maybe.some d → IsPart words width c
      → (needs c (get_or r.all c 0) ≡ true) ⊎ Has c d.trail.known → F holds makes needs words width shift s.words c ≡ 1
  is_there s r id c d at pc why = Rattle.std.proofs.Common.⊎_elim (λ n. r.needed c pc n)
      (λ h. ((r.seats id d at).known c h).1) why

  -- a step on the first word of a part
  pub head_step : (id : ℕ) (d : D) (c : ℕ) (f : ℕ → ℕ) (then : ℕ → U → Type 0) (told : ℕ → D → Type 0)
      → d.trail.stage ≡ 0 → IsPart words width c → ((n : ℕ) → n < blank → f n < blank)
      → table.Allows holds 0 id (d.client, []) c f then → Backed holds needs id d.client d.trail.known c f
      → ((n : ℕ) (w : V) → then n (w, []) → told n (settled d w))
      → raw.Allows R id d (head_at words shift c) f told
  head_step id d c f then told rest pc small law backed tells s r at = let ns : List ℕ = s.words in
      let h : ℕ = head_at words shift c in let x : ℕ = get_or ns h 0 in let is : x ≡ get_or r.all c 0 = r.heads c pc
      in
      let number : x < blank = r.numbers h (inr (omega arith)) in let mid : get_elem? (map (client {V = V}) s.views)
      id ≡ maybe.some d.client = at_map (client {V = V}) s.views id d at in
      let g = user r.all (map (client {V = V}) s.views) id c x d.client f then r.agreed mid (sym is) number law in
      let w : V = g.0 in (
        number,
        settled d w,
        head_set holds makes needs words width shift s r id d at rest w c (f x) pc (small x number) g.1
            (λ n. is_there s r id c d at pc (backed (seen r.all (map (client {V = V}) s.views)) r.agreed mid
            (subst (λ (y : ℕ). needs c (f y) ≡ true) is n))),
        tells x w g.2,
      )

  -- a step on another word of a part that is there
  pub inner_step : (id : ℕ) (d : D) (c i : ℕ) (f : ℕ → ℕ) (then : ℕ → U → Type 0) (told : ℕ → D → Type 0)
      → d.trail.stage ≡ 0 → IsPart words width c → IsInner width c i → ((n : ℕ) → n < blank → f n < blank)
      → table.Allows holds 0 id (d.client, []) i f then → IsThere holds needs id d.client d.trail.known c
      → ((n : ℕ) (w : V) → then n (w, []) → told n (settled d w))
      → raw.Allows R id d i f told
  inner_step id d c i f then told rest pc pi small law there tells s r at = let ns : List ℕ = s.words in
      let x : ℕ = get_or ns i 0 in
      let mid : get_elem? (map (client {V = V}) s.views) id ≡ maybe.some d.client = at_map (client {V = V}) s.views
      id d at in
      let made = is_there s r id c d at pc (there (seen r.all (map (client {V = V}) s.views)) r.agreed mid) in
      let t = r.there c i pc pi made in
      let g = user r.all (map (client {V = V}) s.views) id i x d.client f then r.agreed mid (sym t.0) t.1 law in
      let w : V = g.0 in (
        t.1,
        settled d w,
        inner_set holds makes needs words width shift s r id d at rest w c i (f x) pc pi (small x t.1) g.1 made,
        tells x w g.2,
      )

  -- what a step on a first word tells, whichever part lies there
  pub head_tells : (then : UserThen V) (d : D) (c a b : ℕ) → (1 < width) → (2 ^ shift ≤ width)
      → d.trail.words ≡ words → d.trail.width ≡ width → d.trail.shift ≡ shift → IsPart words width c
      → (n : ℕ) (w : V) → then (table.step 0 c a b maybe.none) (mine d) n (w, []) → head_told then
      (raw.step (head_at words shift c) a b) d n (settled d w)
  head_tells then d c a b one tight ew ed es pc n w t k pk = let qk : IsPart words width k =
      (subst (λ (y : ℕ). k < y) ew pk.0.0, subst (λ (y : ℕ). k % y ≡ 0) ed pk.0.1) in
      let same : c ≡ k = heads_apart words width shift one tight c k pc qk (pk.1 ∙ (λ i. head_at (ew i) (es i) k)) in
      (w, refl, subst (λ (y : ℕ). then (table.step 0 y a b maybe.none) (mine d) n (w, [])) same t)

  module _ (len wide by : ℕ) (kw : words ≡ len) (kd : width ≡ wide) (ks : shift ≡ by) (one : 1 < wide)
      (tight : 2 ^ by ≤ wide) (id : ℕ) (d : D) (ew : d.trail.words ≡ len) (ed : d.trail.width ≡ wide)
      (es : d.trail.shift ≡ by)
      (rest : d.trail.stage ≡ 0) (then : UserThen V) (a b : ℕ) (num f : ℕ → ℕ) (small : (n : ℕ) → n < blank
      → f n < blank) where
    part_here : (c : ℕ) → IsPart len wide c → IsPart words width c
    part_here c pc = (subst (λ (y : ℕ). c < y) (sym kw) pc.0, subst (λ (y : ℕ). c % y ≡ 0) (sym kd) pc.1)

    -- what a step on a first word asks and tells, as the table's fields have it
    pub head_told_at : (c at : ℕ) → at ≡ head_at len by c → IsPart len wide c → table.Allows holds 0 id (mine d) c f
        (λ n u. then (table.step 0 c a b maybe.none) (mine d) (num n) u) → Backed holds needs id d.client
        d.trail.known c f
        → raw.Allows R id d at f (λ n e. head_told then (raw.step at a b) d (num n) e)
    head_told_at c at is pc law backed = let qc = part_here c pc in let here : at ≡ head_at words shift c = is
        ∙ (λ i. head_at (sym kw i) (sym ks i) c) in
        subst (λ (z : ℕ). raw.Allows R id d z f (λ n e. head_told then (raw.step z a b) d (num n) e)) (sym here)
        (head_step id d c f (λ n u. then (table.step 0 c a b maybe.none) (mine d) (num n) u) (λ n e. head_told then
        (raw.step (head_at words shift c) a b) d (num n) e) rest qc small law backed
        (λ n w t. head_tells then d c a b (subst (λ (y : ℕ). 1 < y) (sym kd) one)
        (subst (λ (y : ℕ × ℕ). 2 ^ y.0 ≤ y.1) (λ i. (sym ks i, sym kd i)) tight) (ew ∙ sym kw) (ed ∙ sym kd)
        (es ∙ sym ks) qc (num n) w t))

    pub inner_told_at : (c i : ℕ) → IsPart len wide c → IsInner wide c i → table.Allows holds 0 id (mine d) i f
        (λ n u. then (table.step 0 i a b maybe.none) (mine d) (num n) u) → IsThere holds needs id d.client
        d.trail.known c
        → raw.Allows R id d i f (λ n e. inner_told then (raw.step i a b) d (num n) e)
    inner_told_at c i pc pi law there = inner_step id d c i f (λ n u. then (table.step 0 i a b maybe.none) (mine d)
        (num n) u) (λ n e. inner_told then (raw.step i a b) d (num n) e) rest (part_here c pc)
        (pi.0, subst (λ (y : ℕ). i < c + y) (sym kd) pi.1) small law there (λ n w t. (w, refl, t))

module _ {V : Type 0} (then : UserThen V) (i a b n : ℕ) (d e : Doing V) where
  -- what the user is told of the seat after the step
  pub told_rests : told_at then i a b d n e → d.trail.stage ≡ 0 → e.trail.stage ≡ 0
  told_rests t rest = ap (λ (x : Doing V). x.trail.stage) t.1 ∙ rest

  pub told_trail : told_at then i a b d n e → e.trail ≡ d.trail
  told_trail t = ap (λ (x : Doing V). x.trail) t.1

  pub told_user : told_at then i a b d n e → then (table.step 0 i a b maybe.none) (mine d) n (mine e)
  told_user t = subst (λ (x : Doing V). then (table.step 0 i a b maybe.none) (mine d) n (mine x)) (sym t.1) t.2

-- the part whose first word a step was at
pub part_at : {V : Type 0} (d : Doing V) (len wide by : ℕ) → d.trail.words ≡ len → d.trail.width ≡ wide
    → d.trail.shift ≡ by → (c at : ℕ) → at ≡ head_at len by c → IsPart len wide c → PartAt head_at d at c
part_at d len wide by ew ed es c at is pc = (
  (
    subst (λ (y : ℕ). c < y) (sym ew) pc.0,
    subst (λ (y : ℕ). c % y ≡ 0)
        (sym ed) pc.1,
  ),
  is ∙ (λ i. head_at (sym ew i) (sym es i) c),
)
