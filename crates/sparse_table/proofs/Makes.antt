-- How the memory of a part leaves, and comes back written.
use Rattle.std.proofs.Common.{◌≡◌, ◌≢◌, ℕ, zero, suc, ◌+◌, ◌-◌, ◌%◌, ◌^◌, ◌<◌, ◌≤◌, ◌⊎◌, inl, inr, ⊎_elim, Bool}
use Rattle.std.proofs.Common.{List, [], ◌∷◌, map, length, get_or, set, sym, refl, ap, ◌∙◌, subst, arith}
use Rattle.std.proofs.Common.{length-set, get_or-set_other, get_or-set_same}
use Rattle.std.specs.Prelude.{replicate}
use lib.ListN.{get_elem?}
use mathlib.Core.Logic.{dite}
use mathlib.Core.Option.{some, some-injective}
use native.Mathlib.Decide.{ℕ_discrete, dec_le}
use Rattle.atomic_table.specs.Table as table
use Rattle.atomic_table.proofs.Lists.{at_map, at_set, set_here, set_else, set_again}
use Rattle.sparse_table.specs.Words as raw
use Rattle.sparse_table.specs.Words.{blank, away, laid}
use Rattle.sparse_table.proofs.Moves.{set_same}
use Rattle.sparse_table.specs.declared.rule.Doing.{Doing}
use Rattle.sparse_table.specs.Parts.{IsPart, IsInner, Stands, head_at, flag_at, total_of, client, seen, Knows}
use Rattle.sparse_table.specs.Parts.{Maker, State, Rules, aimed, knowing}
use Rattle.sparse_table.specs.Plays.{PartAt, begun, took, entered}
use Rattle.sparse_table.specs.Seats.{Sole}
use Rattle.sparse_table.proofs.Spots.{heads_apart, in_heads, inner_apart, inner_one, inner_in}
use Rattle.sparse_table.proofs.Changes.{F, map_set}
use Rattle.sparse_table.proofs.Steps.{part_at}
use Rattle.sparse_table.proofs.Cuts.{same_words}
use Rattle.sparse_table.proofs.Laid.{laid_long, laid_same, laid_apart}

at_length : {A : Type 0} (l : List A) (i : ℕ) (a : A) → get_elem? l i ≡ some a → i < length l
at_length [] i a e = absurd (mathlib.Core.Option.some-ne-none a (sym e))
at_length (x ∷ xs) zero a e = omega arith
at_length (x ∷ xs) (suc i) a e = let r = at_length xs i a e in omega arith

module _ {V : Type 0} (holds : table.State (Unit {0}) V → Type 0) (makes : V → ℕ → Type 0) (needs : ℕ → ℕ → Bool)
    (words width shift : ℕ) where
  abbrev D : Type 0
  D = Doing V

  abbrev R : State V → Type 0
  R = Rules holds makes needs words width shift

  abbrev G : List ℕ → ℕ → ℕ
  G = F holds makes needs words width shift

  module _ (s : State V) (r : R s) (id : ℕ) (d : D) (at : get_elem? s.views id ≡ some d) (c : ℕ)
      (pc : IsPart words width c) (sole : Sole holds makes id d.client c) where
    abbrev ns : List ℕ
    ns = s.words

    abbrev vs : List V
    vs = map (client {V = V}) s.views

    mid : get_elem? vs id ≡ some d.client
    mid = at_map (client {V = V}) s.views id d at

    alone : (j : ℕ) (x : D) → get_elem? s.views j ≡ some x → j ≢ id → ¬ makes x.client c
    alone j x q ne = sole.1 (seen r.all vs) r.agreed mid j x.client (at_map (client {V = V}) s.views j x q) ne

    same_views : (e : D) → e.client ≡ d.client → holds (seen r.all (map (client {V = V}) (set s.views id e)))
    same_views e is = subst (λ (z : List V). holds (seen r.all z)) (sym (map_set (client {V = V}) s.views id e
        ∙ (ap (λ (z : V). set vs id z) is ∙ set_again vs id d.client mid))) r.agreed

    -- a seat that makes another part is another one, or it is no maker
    makers_else : (e : D) (k : ℕ) → (d.trail.stage ≡ 2 → d.trail.part ≡ k → ⊥) → Maker s.views k → Maker
        (set s.views id e) k
    makers_else e k not m = let j : ℕ = m.0 in let ne : j ≢ id = λ q. let is = some-injective m.1 d
        (sym m.2 ∙ (ap (get_elem? s.views) q ∙ at)) in
        not (subst (λ (x : D). x.trail.stage ≡ 2) is m.3) (subst (λ (x : D). x.trail.part ≡ k) is m.4) in
        (j, m.1, set_else s.views id j e ne ∙ m.2, m.3, m.4)

    -- a part that no seat makes and that was wanted is there
    is_made : (G ns c ≢ 0) → d.trail.stage ≡ 0 → G ns c ≡ 1
    is_made nz rest = ⊎_elim (λ z. absurd (nz z)) (λ m. ⊎_elim (λ f. f) (λ f. let k = f.1 in let j : ℕ = k.0 in
        let x : D = k.1 in
        let ne : j ≢ id = λ q. let is = some-injective x d (sym k.2 ∙ (ap (get_elem? s.views) q ∙ at)) in
        let two : d.trail.stage ≡ 2 = subst (λ (y : D). y.trail.stage ≡ 2) is k.3 in let z = rest in
        omega arith in
        let st = subst (λ (n : ℕ). Stands (IsPart words width x.trail.part) (makes x.client x.trail.part)
        (G ns x.trail.part) n) k.3 (r.seats j x k.2).stands in
        absurd (alone j x k.2 ne (subst (makes x.client) k.4 st.1))) m) (r.flags c pc)

    module _ (flagv fill : ℕ) (e : D) (is : e.client ≡ d.client) (number : flagv < blank) (filled : flagv ≡ 1
        → fill ≡ 0) (some_ : flagv ≢ 0) (unmade : G ns c ≢ 1)
        (only : (k : ℕ) → k ≢ c → d.trail.stage ≡ 2 → d.trail.part ≡ k → ⊥) (state : (flagv ≡ 1)
        ⊎ ((flagv ≡ 2) × Maker (set s.views id e) c)) where
      abbrev h : ℕ
      h = flag_at words shift c

      abbrev ms : List ℕ
      ms = laid (set ns h flagv) (c + 1) (replicate (width - 1) fill)

      one : 1 < width
      one = r.sizes.0

      tight : 2 ^ shift ≤ width
      tight = r.sizes.1

      room : c + width ≤ words
      room = let low = inner_in words width shift one tight c (c + (width - 1)) r.sizes.2 pc
          ((let o = one in omega arith), (let o = one in omega arith)) in let o = one in omega arith

      far : length (set ns h flagv) ≡ total_of words shift
      far = length-set ns h flagv ∙ r.long.1

      outside : (j : ℕ) → words ≤ j → get_or ms j 0 ≡ get_or (set ns h flagv) j 0
      outside j le = laid_apart (width - 1) fill (set ns h flagv) (c + 1) j (inr (let q = room in let o = one in
          omega arith))

      near : h < total_of words shift
      near = in_heads words width shift one tight c pc.0

      flag_here : G ms c ≡ flagv
      flag_here = outside h (let q = near in omega arith) ∙ get_or-set_same ns h flagv 0 (let q = near in
          let l = r.long.1 in omega arith)

      flags_else : (k : ℕ) → IsPart words width k → k ≢ c → G ms k ≡ G ns k
      flags_else k pk ne = outside (flag_at words shift k) (omega arith) ∙ get_or-set_other ns h
          (flag_at words shift k) flagv 0 (λ q. ne (heads_apart words width shift one tight k c pk pc (omega arith)))

      inside_else : (k i : ℕ) → IsPart words width k → IsInner width k i → k ≢ c → get_or ms i 0 ≡ get_or ns i 0
      inside_else k i pk pi ne = let low = inner_in words width shift one tight k i r.sizes.2 pk pi in
          laid_apart (width - 1) fill (set ns h flagv) (c + 1) i (dite (dec_le i c) (λ le. inl (omega arith))
          (λ no. dite (dec_le (c + width) i) (λ le. inr (let o = one in omega arith))
          (λ no2. absurd (ne (inner_one words width shift one tight k c i pk pc pi (
            (let a = no in omega arith),
            (let a = no2 in omega arith),
          ))))))
          ∙ get_or-set_other ns h i flagv 0 (λ q. omega arith)

      inside_here : (i : ℕ) → IsInner width c i → get_or ms i 0 ≡ fill
      inside_here i pi = let a = pi.0 in let b = pi.1 in let o = one in laid_same (width - 1) fill (set ns h flagv)
          (c + 1) i (omega arith) (omega arith) (let q = room in let l = far in omega arith)

      others : (j : ℕ) (x : D) → get_elem? s.views j ≡ some x → j ≢ id → Knows makes words width shift ms x
      others j x q ne = let k = r.seats j x q in let lone = alone j x q ne in record {
        stands = other_stands x lone x.trail.stage k.stands;
        known = λ y hy. let t = k.known y hy in
            (t.0, flags_else y t.0 (λ p. unmade (subst (λ (z : ℕ). G ns z ≡ 1) p t.1)) ∙ t.1);
      } where
        other_stands : (x : D) → (makes x.client c → ⊥) → (stage : ℕ) → Stands (IsPart words width x.trail.part)
            (makes x.client x.trail.part) (G ns x.trail.part) stage
            → Stands (IsPart words width x.trail.part) (makes x.client x.trail.part) (G ms x.trail.part) stage
        other_stands x lone zero t = tt
        other_stands x lone (suc zero) t = (
          t.0,
          t.1,
          flags_else x.trail.part t.0
              (λ p. lone (subst (makes x.client) p t.1)) ∙ t.2,
        )
        other_stands x lone (suc (suc n)) t = (
          t.0,
          t.1,
          flags_else x.trail.part t.0
              (λ p. lone (subst (makes x.client) p t.1)) ∙ t.2,
        )

      first_else : (k : ℕ) → IsPart words width k → get_or ms k 0 ≡ get_or ns k 0
      first_else k pk = let low = pk.0 in let o = one in laid_apart (width - 1) fill (set ns h flagv) (c + 1) k
          (dite (dec_le k c) (λ le. inl (omega arith)) (λ no. dite (dec_le (c + width) k) (λ le. inr (omega arith))
          (λ no2. absurd (inner_apart words width shift one tight c k k pc pk (
            (let a = no in omega arith),
            (let a = no2 in omega arith),
          ) refl))))
          ∙ get_or-set_other ns h k flagv 0 (λ q. omega arith)

      pub remade : Knows makes words width shift ms e → R record { words = ms; views = set s.views id e }
      remade knows = record {
        all = r.all;
        agreed = same_views e is;
        sizes = r.sizes;
        long = (r.long.0, laid_long (replicate (width - 1) fill) (set ns h flagv) (c + 1) ∙ far);
        numbers = λ j why. let same : get_or ms j 0 ≡ get_or (set ns h flagv) j 0 = ⊎_elim (λ z. laid_apart
            (width - 1) fill (set ns h flagv) (c + 1) j (inl (omega arith))) (outside j) why in
            subst (λ (y : ℕ). y < blank) (sym same) (dite (ℕ_discrete j h)
            (λ q. subst (λ (y : ℕ). y < blank) (sym (ap (λ (y : ℕ). get_or (set ns h flagv) y 0) q
            ∙ get_or-set_same ns h flagv 0 (let n = near in let l = r.long.1 in omega arith))) number)
            (λ ne. subst (λ (y : ℕ). y < blank) (sym (get_or-set_other ns h j flagv 0 ne)) (r.numbers j why)));
        firsts = λ k pk. subst (λ (y : ℕ). y ≤ blank) (sym (first_else k pk)) (r.firsts k pk);
        heads = λ k pk. outside (head_at words shift k) (omega arith) ∙ (get_or-set_other ns h
            (head_at words shift k) flagv 0 (λ q. omega arith) ∙ r.heads k pk);
        there = λ k i pk pi f. dite (ℕ_discrete k c)
            (λ q. let pi' : IsInner width c i = subst (λ (y : ℕ). IsInner width y i) q pi in
            let z : fill ≡ 0 = filled (sym flag_here ∙ subst (λ (y : ℕ). G ms y ≡ 1) q f) in
            let v = inside_here i pi' ∙ z in
            let none : get_or r.all i 0 ≡ 0 = ⊎_elim (λ g. absurd (unmade g)) (λ g. g) (r.zeros c i pc pi') in
            (v ∙ sym none, subst (λ (y : ℕ). y < blank) (sym v) (omega arith)))
            (λ ne. let t = r.there k i pk pi (sym (flags_else k pk ne) ∙ f) in let v = inside_else k i pk pi ne in
            (v ∙ t.0, subst (λ (y : ℕ). y < blank) (sym v) t.1));
        zeros = λ k i pk pi. dite (ℕ_discrete k c)
            (λ q. inr (⊎_elim (λ g. absurd (unmade g)) (λ g. g) (r.zeros c i pc (subst (λ (y : ℕ). IsInner width y i)
            q pi))))
            (λ ne. ⊎_elim (λ g. inl (flags_else k pk ne ∙ g)) (λ g. inr g) (r.zeros k i pk pi));
        unmade = λ k i pk pi f. dite (ℕ_discrete k c)
            (λ q. absurd (some_ (sym flag_here ∙ subst (λ (y : ℕ). G ms y ≡ 0) q f)))
            (λ ne. inside_else k i pk pi ne ∙ r.unmade k i pk pi (sym (flags_else k pk ne) ∙ f));
        needed = λ k pk n. dite (ℕ_discrete k c)
            (λ q. absurd (unmade (subst (λ (y : ℕ). G ns y ≡ 1) q (r.needed k pk n))))
            (λ ne. flags_else k pk ne ∙ r.needed k pk n);
        flags = λ k pk. dite (ℕ_discrete k c)
            (λ q. inr (⊎_elim (λ g. inl (ap (G ms) q ∙ (flag_here ∙ g))) (λ g. inr (
              ap (G ms) q ∙ (flag_here ∙ g.0),
              subst (Maker (set s.views id e)) (sym q) g.1,
            )) state))
            (λ ne. let same = flags_else k pk ne in ⊎_elim (λ f. inl (same ∙ f))
            (λ m. inr (⊎_elim (λ f. inl (same ∙ f)) (λ f. inr (same ∙ f.0, makers_else e k (only k ne) f.1)) m))
            (r.flags k pk));
        seats = λ j x q. ⊎_elim (λ t. subst (λ (y : D). Knows makes words width shift ms y) t.1 knows)
            (λ t. others j x t.1 t.0) (at_set s.views id j e x q);
      }

  module _ (id : ℕ) (d : D) (c : ℕ) (pc : IsPart words width c) (sole : Sole holds makes id d.client c) where
    pub begins : d.trail.stage ≡ 0 → (1 < width) → (2 ^ shift ≤ width) → d.trail.words ≡ words
        → d.trail.width ≡ width → d.trail.shift ≡ shift
        → raw.Allows R id d (flag_at words shift c) (λ n. n) (begun (raw.step (flag_at words shift c) 0 0) d)
    begins rest one tight ew ed es s r at = let ns : List ℕ = s.words in let h : ℕ = flag_at words shift c in
        let n : ℕ = G ns c in let k = r.seats id d at in
        let here : (x : ℕ) → PartAt flag_at d h x → c ≡ x = λ x px. let qx : IsPart words width x =
        (subst (λ (y : ℕ). x < y) ew px.0.0, subst (λ (y : ℕ). x % y ≡ 0) ed px.0.1) in
        let e : flag_at words shift c ≡ flag_at words shift x = px.1 ∙ (λ i. flag_at (ew i) (es i) x) in
        heads_apart words width shift one tight c x pc qx (omega arith) in
        let back : (e : D) → e.client ≡ d.client → Knows makes words width shift ns e
        → R record { words = set ns h n; views = set s.views id e } = λ e is ke.
        subst (λ (z : List ℕ). R record { words = z; views = set s.views id e }) (sym (set_same ns h))
        (same_words holds makes needs words width shift s r (set s.views id e) (same_views s r id d at c pc sole
        e is)
        (λ y m. makers_else s r id d at c pc sole e y (λ two p. let z = rest in omega arith) m)
        (λ j x q. ⊎_elim (λ t. subst (λ (y : D). Knows makes words width shift ns y) t.1 ke) (λ t. r.seats j x t.1)
        (at_set s.views id j e x q))) in
        dite (ℕ_discrete n 0)
        (λ z. (
          r.numbers h (inr (omega arith)),
          aimed d 1 c,
          back (aimed d 1 c) refl record { stands = (pc, sole.0, z); known = k.known },
          λ x px. ((λ nz. ap (aimed d 1) (here x px)), λ pos. absurd (omega arith)),
        ))
        (λ nz. let made = is_made s r id d at c pc sole nz rest in (
          r.numbers h (inr (omega arith)),
          knowing d c,
          back (knowing d c) refl record {
            stands = tt;
            known = λ y hy. ⊎_elim
                (λ e. subst (λ (w : ℕ). IsPart words width w × (G ns w ≡ 1)) e (pc, made)) (λ hh. k.known y hh) hy;
          },
          λ x px. ((λ z. absurd (nz z)), λ pos. ap (knowing d) (here x px)),
        ))

    pub takes : d.trail.stage ≡ 1 → d.trail.part ≡ c → raw.Takes R id d (flag_at words shift c) 2 (c + 1) (width - 1)
        (took (raw.step (flag_at words shift c) 2 0) d 2)
    takes one_ part s r at = let ns : List ℕ = s.words in let h : ℕ = flag_at words shift c in
        let e : D = aimed d 2 c in let k = r.seats id d at in
        let st = subst (λ (n : ℕ). Stands (IsPart words width d.trail.part) (makes d.client d.trail.part)
        (G ns d.trail.part) n) one_ k.stands in
        let zero_ : G ns c ≡ 0 = subst (λ (y : ℕ). G ns y ≡ 0) part st.2 in let not_one : G ns c ≢ 1 = λ q.
        omega arith in let wide = r.sizes.0 in
        let there : Maker (set s.views id e) c = (
          id,
          e,
          set_here s.views id e (at_length s.views id d at),
          refl,
          refl,
        ) in
        let made = remade s r id d at c pc sole 2 away e refl (omega arith) (λ q. absurd (omega arith))
        (λ q. omega arith) not_one (λ y ne two p. omega arith) (inr (refl, there)) in
        let fh = flag_here s r id d at c pc sole 2 away e refl (omega arith) (λ q. absurd (omega arith))
        (λ q. omega arith) not_one (λ y ne two p. omega arith) (inr (refl, there)) in
        let fe = flags_else s r id d at c pc sole 2 away e refl (omega arith) (λ q. absurd (omega arith))
        (λ q. omega arith) not_one (λ y ne two p. omega arith) (inr (refl, there)) in (
          r.numbers h (inr (omega arith)),
          (λ x low. r.unmade c (c + 1 + x) pc ((omega arith), (omega arith)) zero_),
          e,
          made record {
            stands = (pc, sole.0, fh);
            known = λ y hy. let t = k.known y hy in
                (t.0, fe y t.0 (λ p. not_one (subst (λ (z : ℕ). G ns z ≡ 1) p t.1)) ∙ t.1);
          },
          ap (aimed d 2) (sym part),
        )

    pub lays : d.trail.stage ≡ 2 → d.trail.part ≡ c → raw.Lays R id d (flag_at words shift c) 1 (c + 1)
        (replicate (width - 1) 0) (entered (raw.step (flag_at words shift c) 1 0) d 1)
    lays two part s r at = let ns : List ℕ = s.words in let h : ℕ = flag_at words shift c in
        let e : D = knowing d c in let k = r.seats id d at in
        let st = subst (λ (n : ℕ). Stands (IsPart words width d.trail.part) (makes d.client d.trail.part)
        (G ns d.trail.part) n) two k.stands in
        let was : G ns c ≡ 2 = subst (λ (y : ℕ). G ns y ≡ 2) part st.2 in let not_one : G ns c ≢ 1 = λ q. omega arith in
        let only : (y : ℕ) → y ≢ c → d.trail.stage ≡ 2 → d.trail.part ≡ y → ⊥ = λ y ne t p. ne (sym p ∙ part) in
        let made = remade s r id d at c pc sole 1 0 e refl (omega arith) (λ q. refl) (λ q. omega arith) not_one only
        (inl refl) in
        let fh = flag_here s r id d at c pc sole 1 0 e refl (omega arith) (λ q. refl) (λ q. omega arith) not_one only
        (inl refl) in
        let fe = flags_else s r id d at c pc sole 1 0 e refl (omega arith) (λ q. refl) (λ q. omega arith) not_one
        only (inl refl) in (
          r.numbers h (inr (omega arith)),
          e,
          made record {
            stands = tt;
            known = λ y hy. ⊎_elim (λ q. subst (λ (w : ℕ). IsPart words width w
                × (G (laid (set ns h 1) (c + 1) (replicate (width - 1) 0)) w ≡ 1)) q (pc, fh))
                (λ hh. let t = k.known y hh in (
                  t.0,
                  fe y t.0 (λ p. not_one (subst (λ (z : ℕ). G ns z ≡ 1) p t.1))
                      ∙ t.1,
                )) hy;
          },
          ap (knowing d) (sym part),
        )

  -- the same as the table's fields have it
  module _ (len wide by : ℕ) (kw : words ≡ len) (kd : width ≡ wide) (ks : shift ≡ by) (one : 1 < wide)
      (tight : 2 ^ by ≤ wide) (id : ℕ) (d : D) (c at : ℕ) (is : at ≡ head_at len by c) (pc : IsPart len wide c) where
    part_here : IsPart words width c
    part_here = (subst (λ (y : ℕ). c < y) (sym kw) pc.0, subst (λ (y : ℕ). c % y ≡ 0) (sym kd) pc.1)

    flag_there : flag_at words shift c ≡ at + 1
    flag_there = ap (λ (y : ℕ). y + 1) (sym (is ∙ (λ i. head_at (sym kw i) (sym ks i) c)))

    pub begins_at : Sole holds makes id d.client c → d.trail.stage ≡ 0 → d.trail.words ≡ len → d.trail.width ≡ wide
        → d.trail.shift ≡ by → raw.Allows R id d (at + 1) (λ n. n) (begun (raw.step (at + 1) 0 0) d)
    begins_at sole rest ew ed es = subst (λ (z : ℕ). raw.Allows R id d z (λ n. n) (begun (raw.step z 0 0) d)) flag_there
        (begins id d c part_here sole rest (subst (λ (y : ℕ). 1 < y) (sym kd) one)
        (subst (λ (y : ℕ × ℕ). 2 ^ y.0 ≤ y.1) (λ i. (sym ks i, sym kd i)) tight) (ew ∙ sym kw) (ed ∙ sym kd)
        (es ∙ sym ks))

    pub takes_at : Sole holds makes id d.client c → d.trail.stage ≡ 1 → d.trail.part ≡ c → raw.Takes R id d
        (at + 1) 2 (c + 1) (wide - 1) (took (raw.step (at + 1) 2 0) d 2)
    takes_at sole one_ part = subst (λ (z : ℕ × ℕ). raw.Takes R id d z.0 2 (c + 1) (z.1 - 1)
        (took (raw.step z.0 2 0) d 2)) (λ i. (flag_there i, kd i)) (takes id d c part_here sole one_ part)

    pub lays_at : Sole holds makes id d.client c → d.trail.stage ≡ 2 → d.trail.part ≡ c → raw.Lays R id d (at + 1) 1
        (c + 1) (replicate (wide - 1) 0) (entered (raw.step (at + 1) 1 0) d 1)
    lays_at sole two part = subst (λ (z : ℕ × ℕ). raw.Lays R id d z.0 1 (c + 1) (replicate (z.1 - 1) 0)
        (entered (raw.step z.0 1 0) d 1)) (λ i. (flag_there i, kd i)) (lays id d c part_here sole two part)

-- the part whose flag a step was at
pub flag_part : {V : Type 0} (d : Doing V) (len wide by : ℕ) → d.trail.words ≡ len → d.trail.width ≡ wide
    → d.trail.shift ≡ by → (c at : ℕ) → at ≡ head_at len by c → IsPart len wide c → PartAt flag_at d (at + 1) c
flag_part d len wide by ew ed es c at is pc = let p = part_at d len wide by ew ed es c at is pc in
    (p.0, ap (λ (y : ℕ). y + 1) p.1)

-- a seat of the same number that has the same view of the user's
pub still_sole : {V : Type 0} (holds : table.State (Unit {0}) V → Type 0) (makes : V → ℕ → Type 0) (id now : ℕ)
    (v w : V) (c : ℕ) → now ≡ id → w ≡ v → Sole holds makes id v c → Sole holds makes now w c
still_sole {V} holds makes id now v w c same is sole =
    subst (λ (y : ℕ × V). Sole holds makes y.0 y.1 c) (λ i. (sym same i, sym is i)) sole
