-- What a change of one word leaves of the rule.
use Rattle.std.proofs.Common.{◌≡◌, ◌≢◌, ℕ, zero, suc, ◌+◌, ◌*◌, ◌/◌, ◌%◌, ◌^◌, ◌<◌, ◌≤◌, ◌⊎◌, inl, inr, Bool}
use Rattle.std.proofs.Common.{true, List, [], ◌∷◌, map, length, get_or, set, sym, refl, ap, ◌∙◌, subst, arith}
use Rattle.std.proofs.Common.{length-set, get_or-set_other, get_or-set_same}
use mathlib.Core.Logic.{dite}
use mathlib.Core.Option.{some, some-injective}
use native.Mathlib.Decide.{ℕ_discrete}
use lib.ListN.{get_elem?}
use Rattle.atomic_table.specs.Table as table
use Rattle.atomic_table.proofs.Lists.{at_set, set_else}
use Rattle.sparse_table.specs.Words.{blank, stepped}
use Rattle.sparse_table.specs.declared.rule.Doing.{Doing}
use Rattle.sparse_table.specs.Parts.{IsPart, IsInner, Stands, head_at, flag_at, total_of, client, seen, flag}
use Rattle.sparse_table.specs.Parts.{Knows, Maker, State, Rules}
use Rattle.sparse_table.specs.Plays.{settled}
use Rattle.sparse_table.proofs.Spots.{heads_apart, in_heads, inner_apart, inner_in}

pub map_set : {A B : Type 0} (f : A → B) (xs : List A) (i : ℕ) (x : A) → map f (set xs i x) ≡ set (map f xs) i (f x)
map_set f [] i x = refl
map_set f (y ∷ ys) zero x = refl
map_set f (y ∷ ys) (suc i) x = λ j. f y ∷ map_set f ys i x j

module _ (part : Type 0) (makes : Type 0) (a b : ℕ) (same : part → b ≡ a) where
  pub stands_stay : (stage : ℕ) → Stands part makes a stage → Stands part makes b stage
  stands_stay zero s = tt
  stands_stay (suc zero) s = (s.0, s.1, same s.0 ∙ s.2)
  stands_stay (suc (suc n)) s = (s.0, s.1, same s.0 ∙ s.2)

module _ {V : Type 0} (holds : table.State (Unit {0}) V → Type 0) (makes : V → ℕ → Type 0) (needs : ℕ → ℕ → Bool)
    (words width shift : ℕ) where
  abbrev R : State V → Type 0
  R = Rules holds makes needs words width shift

  abbrev pub F : List ℕ → ℕ → ℕ
  F ns c = flag makes words width shift ns c

  pub knows_stay : (ns ms : List ℕ) (d : Doing V) → ((c : ℕ) → IsPart words width c → F ms c ≡ F ns c)
      → Knows makes words width shift ns d → Knows makes words width shift ms d
  knows_stay ns ms d same k = record {
    stands = stands_stay (IsPart words width d.trail.part) (makes d.client d.trail.part) (F ns d.trail.part)
        (F ms d.trail.part) (same d.trail.part) d.trail.stage k.stands;
    known = λ c h. let t = k.known c h in (t.0, same c t.0 ∙ t.1);
  }

  module _ (s : State V) (r : R s) (id : ℕ) (d : Doing V) (at : get_elem? s.views id ≡ some d)
      (rest : d.trail.stage ≡ 0) (w : V) where
    abbrev e : Doing V
    e = settled d w

    abbrev vs : List (Doing V)
    vs = set s.views id e

    -- a seat that makes a part is another one
    pub makers_stay : (c : ℕ) → Maker s.views c → Maker vs c
    makers_stay c m = let j : ℕ = m.0 in let ne : j ≢ id = λ q. let two : d.trail.stage ≡ 2 = subst
        (λ (x : Doing V). x.trail.stage ≡ 2) (some-injective m.1 d (sym m.2 ∙ (ap (get_elem? s.views) q ∙ at)))
        m.3 in let z = rest in omega arith in
        (j, m.1, set_else s.views id j e ne ∙ m.2, m.3, m.4)

    pub seats_stay : (ms : List ℕ) → ((c : ℕ) → IsPart words width c → F ms c ≡ F s.words c) → (j : ℕ) (x : Doing V)
        → get_elem? vs j ≡ some x → Knows makes words width shift ms x
    seats_stay ms same j x q = Rattle.std.proofs.Common.⊎_elim
        (λ t. let old = r.seats id d at in subst (λ (y : Doing V). Knows makes words width shift ms y) t.1 record {
          stands = subst (λ (n : ℕ). Stands (IsPart words width d.trail.part) (makes w d.trail.part)
              (F ms d.trail.part) n) (sym rest) tt;
          known = λ c h. let k = old.known c h in (k.0, same c k.0 ∙ k.1);
        })
        (λ t. knows_stay s.words ms x same (r.seats j x t.1))
        (at_set s.views id j e x q)

    abbrev now : List ℕ → List V → Type 0
    now ws us = holds (seen ws us)

    -- the first word of a part becomes x
    pub head_set : (c x : ℕ) → IsPart words width c → x < blank → now (set r.all c x)
        (set (map (client {V = V}) s.views) id w) → (needs c x ≡ true → F s.words c ≡ 1)
        → R (stepped s (head_at words shift c) x id e)
    head_set c x pc small good backed = let ns : List ℕ = s.words in let h : ℕ = head_at words shift c in
        let ms : List ℕ = set ns h x in let ws : List ℕ = set r.all c x in
        let one = r.sizes.0 in let tight = r.sizes.1 in let near = in_heads words width shift one tight c pc.0 in
        let far : length ns ≡ total_of words shift = r.long.1 in
        let flags : (k : ℕ) → IsPart words width k → F ms k ≡ F ns k = λ k pk. get_or-set_other ns h
        (flag_at words shift k) x 0 (λ q. omega arith) in
        let inside : (k i : ℕ) → IsPart words width k → IsInner width k i → get_or ms i 0 ≡ get_or ns i 0 =
        λ k i pk pi. let low = inner_in words width shift one tight k i r.sizes.2 pk pi in
        get_or-set_other ns h i x 0 (λ q. omega arith) in
        let alone : (k i : ℕ) → IsPart words width k → IsInner width k i → get_or ws i 0 ≡ get_or r.all i 0 =
        λ k i pk pi. get_or-set_other r.all c i x 0 (inner_apart words width shift one tight k c i pk pc pi) in
        record {
          all = ws;
          agreed = subst (now ws) (sym (map_set (client {V = V}) s.views id e)) good;
          sizes = r.sizes;
          long = (length-set r.all c x ∙ r.long.0, length-set ns h x ∙ far);
          numbers = λ j why. dite (ℕ_discrete j h)
              (λ q. subst (λ (y : ℕ). y < blank) (sym (ap (λ (y : ℕ). get_or ms y 0) q ∙ get_or-set_same ns h x 0
              (omega arith))) small)
              (λ ne. subst (λ (y : ℕ). y < blank) (sym (get_or-set_other ns h j x 0 ne)) (r.numbers j why));
          firsts = λ k pk. let low = pk.0 in subst (λ (y : ℕ). y ≤ blank) (sym (get_or-set_other ns h k x 0
              (λ q. omega arith))) (r.firsts k pk);
          heads = λ k pk. dite (ℕ_discrete k c)
              (λ q. ap (λ (y : ℕ). get_or ms (head_at words shift y) 0) q ∙ (get_or-set_same ns h x 0 (omega arith)
              ∙ sym (ap (λ (y : ℕ). get_or ws y 0) q ∙ get_or-set_same r.all c x 0 (subst (λ (y : ℕ). c < y)
              (sym r.long.0) pc.0))))
              (λ ne. get_or-set_other ns h (head_at words shift k) x 0
              (λ q. ne (heads_apart words width shift one tight k c pk pc q)) ∙ (r.heads k pk ∙ sym
              (get_or-set_other r.all c k x 0 ne)));
          there = λ k i pk pi f. let t = r.there k i pk pi (sym (flags k pk) ∙ f) in (
            inside k i pk pi ∙ (t.0 ∙ sym (alone k i pk pi)),
            subst (λ (y : ℕ). y < blank)
                (sym (inside k i pk pi)) t.1,
          );
          zeros = λ k i pk pi. Rattle.std.proofs.Common.⊎_elim (λ f. inl (flags k pk ∙ f)) (λ z. inr (alone k i pk pi
              ∙ z)) (r.zeros k i pk pi);
          unmade = λ k i pk pi f. inside k i pk pi ∙ r.unmade k i pk pi (sym (flags k pk) ∙ f);
          needed = λ k pk n. flags k pk ∙ dite (ℕ_discrete k c)
              (λ q. subst (λ (y : ℕ). F ns y ≡ 1) (sym q) (backed (subst (λ (y : ℕ × ℕ). needs y.0 y.1 ≡ true)
              (λ i. (
                q i,
                (ap (λ (y : ℕ). get_or ws y 0) q ∙ get_or-set_same r.all c x 0
                    (subst (λ (y : ℕ). c < y) (sym r.long.0) pc.0)) i,
              )) n)))
              (λ ne. r.needed k pk (subst (λ (y : ℕ). needs k y ≡ true) (get_or-set_other r.all c k x 0 ne) n));
          flags = λ k pk. Rattle.std.proofs.Common.⊎_elim (λ f. inl (flags k pk ∙ f))
              (λ m. inr (Rattle.std.proofs.Common.⊎_elim (λ f. inl (flags k pk ∙ f)) (λ f. inr (
                flags k pk ∙ f.0,
                makers_stay k f.1,
              )) m)) (r.flags k pk);
          seats = seats_stay ms flags;
        }

    -- another word of a part that is there becomes x
    pub inner_set : (c i x : ℕ) → IsPart words width c → IsInner width c i → x < blank → now (set r.all i x)
        (set (map (client {V = V}) s.views) id w) → F s.words c ≡ 1
        → R (stepped s i x id e)
    inner_set c i x pc pi small good made = let ns : List ℕ = s.words in let ms : List ℕ = set ns i x in
        let ws : List ℕ = set r.all i x in
        let one = r.sizes.0 in let tight = r.sizes.1 in let low = inner_in words width shift one tight c i r.sizes.2
        pc pi in let far : length ns ≡ total_of words shift = r.long.1 in
        let flags : (k : ℕ) → IsPart words width k → F ms k ≡ F ns k = λ k pk. get_or-set_other ns i
        (flag_at words shift k) x 0 (λ q. omega arith) in
        let heads : (k : ℕ) → IsPart words width k → get_or ms (head_at words shift k) 0 ≡ get_or ns
        (head_at words shift k) 0 = λ k pk. get_or-set_other ns i (head_at words shift k) x 0 (λ q. omega arith)
        in
        let parts : (k : ℕ) → IsPart words width k → get_or ws k 0 ≡ get_or r.all k 0 = λ k pk. get_or-set_other
        r.all i k x 0 (λ q. inner_apart words width shift one tight c k i pc pk pi (sym q)) in
        let lone : (k j : ℕ) → IsPart words width k → IsInner width k j → (F ns k ≡ 1 → ⊥)
        → j ≢ i = λ k j pk pj not q. not (subst (λ (y : ℕ). F ns y ≡ 1)
        (Rattle.sparse_table.proofs.Spots.inner_one words width shift one tight c k i pc pk pi
        (subst (IsInner width k) q pj)) made) in record {
          all = ws;
          agreed = subst (now ws) (sym (map_set (client {V = V}) s.views id e)) good;
          sizes = r.sizes;
          long = (length-set r.all i x ∙ r.long.0, length-set ns i x ∙ far);
          numbers = λ j why. dite (ℕ_discrete j i)
              (λ q. subst (λ (y : ℕ). y < blank) (sym (ap (λ (y : ℕ). get_or ms y 0) q ∙ get_or-set_same ns i x 0
              (omega arith))) small)
              (λ ne. subst (λ (y : ℕ). y < blank) (sym (get_or-set_other ns i j x 0 ne)) (r.numbers j why));
          firsts = λ k pk. subst (λ (y : ℕ). y ≤ blank) (sym (get_or-set_other ns i k x 0
              (λ q. inner_apart words width shift one tight c k i pc pk pi (sym q)))) (r.firsts k pk);
          heads = λ k pk. heads k pk ∙ (r.heads k pk ∙ sym (parts k pk));
          there = λ k j pk pj f. dite (ℕ_discrete j i)
              (λ q. let a = ap (λ (y : ℕ). get_or ms y 0) q ∙ get_or-set_same ns i x 0 (omega arith) in
              let b = ap (λ (y : ℕ). get_or ws y 0) q ∙ get_or-set_same r.all i x 0 (subst (λ (y : ℕ). i < y)
              (sym r.long.0) low) in
              (a ∙ sym b, subst (λ (y : ℕ). y < blank) (sym a) small))
              (λ ne. let t = r.there k j pk pj (sym (flags k pk) ∙ f) in let a = get_or-set_other ns i j x 0 ne in
              (a ∙ (t.0 ∙ sym (get_or-set_other r.all i j x 0 ne)), subst (λ (y : ℕ). y < blank) (sym a) t.1));
          zeros = λ k j pk pj. dite (ℕ_discrete (F ns k) 1) (λ f. inl (flags k pk ∙ f))
              (λ not. Rattle.std.proofs.Common.⊎_elim (λ f. inl (flags k pk ∙ f))
              (λ z. inr (get_or-set_other r.all i j x 0 (lone k j pk pj not) ∙ z)) (r.zeros k j pk pj));
          unmade = λ k j pk pj f. let was : F ns k ≡ 0 = sym (flags k pk) ∙ f in get_or-set_other ns i j x 0
              (lone k j pk pj (λ q. omega arith)) ∙ r.unmade k j pk pj was;
          needed = λ k pk n. flags k pk ∙ r.needed k pk (subst (λ (y : ℕ). needs k y ≡ true) (parts k pk) n);
          flags = λ k pk. Rattle.std.proofs.Common.⊎_elim (λ f. inl (flags k pk ∙ f))
              (λ m. inr (Rattle.std.proofs.Common.⊎_elim (λ f. inl (flags k pk ∙ f)) (λ f. inr (
                flags k pk ∙ f.0,
                makers_stay k f.1,
              )) m)) (r.flags k pk);
          seats = seats_stay ms flags;
        }
