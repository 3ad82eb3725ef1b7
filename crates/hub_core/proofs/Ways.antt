-- Lists of numbers through links: a link changes, and lists get longer, shorter and joined.
use Rattle.std.proofs.Common.{◌≡◌, ◌≢◌, ℕ, zero, suc, ◌+◌, ◌<◌, ◌≤◌, cond, List, [], ◌∷◌, ◌++◌, length, get_or, append_assoc, eq-eqb, ne_eqb, sym, refl, ap, ◌∙◌, subst, arith, Option, Some, None}
use mathlib.Core.Logic.{dite}
use native.Mathlib.Decide.{ℕ_discrete}
use Rattle.revision_machine.specs.Numbered.{at_number, put_number}
use Rattle.revision_machine.proofs.Paths.{some_inj}
use Rattle.revision_machine.proofs.Lists.{put_other, at_front}
use Rattle.hub_core.specs.declared.run_queue.Chain.{Chain}
use Rattle.hub_core.specs.declared.run_queue.RunQueue.{RunQueue}
use Rattle.hub_core.specs.Counts.{is_at, times}
use Rattle.hub_core.specs.Chains.{IsWay, IsChain, IsList, HasLists, chain_at, with_waiter, without_waiters, AddsOne, HasOne}
use Rattle.hub_core.proofs.Lists.{total_snoc, is_at_same}

pub put_within : {B : Type 0} → (w : List B) (n : ℕ) (y : B) → n < length w → at_number (put_number w n y) n ≡ Some y
put_within [] n y h = absurd (omega (arith, h))
put_within (x ∷ w) zero y h = refl
put_within (x ∷ w) (suc n) y h = put_within w n y (omega (arith, h))

not_first : (k n : ℕ) (ns : List ℕ) → times k (n ∷ ns) ≡ 0 → n ≢ k
not_first k n ns none is = let a : is_at k n ≡ 1 = ap (is_at k) is ∙ is_at_same k in omega arith

in_front : (k last : ℕ) (ns front : List ℕ) → ns ≡ front ++ last ∷ [] → times k ns ≡ times k front + is_at k last
in_front k last ns front is = ap (times k) is ∙ total_snoc (is_at k) front last

way_put : (links : List ℕ) (k x first : ℕ) (ns : List ℕ) (last : ℕ) → times k ns ≡ 0 → IsWay links first ns last
    → IsWay (put_number links k x) first ns last
way_put links k x first [] last none w = w
way_put links k x first (n ∷ ns) last none w =
    (w.0, w.1, put_other links k n x (not_first k n ns none) ∙ w.2, way_put links k x w.0 ns last (omega arith) w.3)

way_more : (links more : List ℕ) (first : ℕ) (ns : List ℕ) (last : ℕ) → IsWay links first ns last
    → IsWay (links ++ more) first ns last
way_more links more first [] last w = w
way_more links more first (n ∷ ns) last w =
    (w.0, w.1, at_front links more n w.0 w.2, way_more links more w.0 ns last w.3)

way_join : (links : List ℕ) (first : ℕ) (ms : List ℕ) (last next : ℕ) (ns : List ℕ) (end : ℕ)
    → IsWay links first ms last → at_number links last ≡ Some next → IsWay links next ns end
    → IsWay links first (ms ++ last ∷ ns) end
way_join links first [] last next ns end w at v = (next, w, at, v)
way_join links first (m ∷ ms) last next ns end w at v = (w.0, w.1, w.2, way_join links w.0 ms last next ns end w.3 at v)

chain_put : (links : List ℕ) (k x : ℕ) (c : Chain) (ns : List ℕ) → times k ns ≡ 0 → IsChain links c ns
    → IsChain (put_number links k x) c ns
chain_put links k x c ns none h =
    let f = in_front k c.last ns h.front h.is in
    record { front = h.front; is = h.is; way = way_put links k x c.first h.front c.last (omega arith) h.way }

-- a list without the number whose link changes
pub list_put : (links : List ℕ) (k x : ℕ) (list : Option Chain) (ns : List ℕ) → times k ns ≡ 0 → IsList links list ns
    → IsList (put_number links k x) list ns
list_put links k x None ns none h = h
list_put links k x (Some c) ns none h = chain_put links k x c ns none h

pub list_more : (links more : List ℕ) (list : Option Chain) (ns : List ℕ) → IsList links list ns
    → IsList (links ++ more) list ns
list_more links more None ns h = h
list_more links more (Some c) ns h =
    record { front = h.front; is = h.is; way = way_more links more c.first h.front c.last h.way }

pub chain_before : (links : List ℕ) (k : ℕ) (c : Chain) (ns : List ℕ) → k < length links → times k ns ≡ 0
    → IsChain links c ns → IsChain (put_number links k c.first) record { first = k; last = c.last } (k ∷ ns)
chain_before links k c ns within none h = let f = in_front k c.last ns h.front h.is in record {
  front = k ∷ h.front;
  is = ap (λ l. k ∷ l) h.is;
  way = (
    c.first,
    refl,
    put_within links k c.first within,
    way_put links k c.first c.first h.front c.last (omega arith) h.way,
  );
}

pub chain_joined : (links : List ℕ) (a b : Chain) (ms ns : List ℕ) → a.last < length links → IsChain links a ms
    → IsChain links b ns → ((n : ℕ) → times n ms + times n ns ≤ 1)
    → IsChain (put_number links a.last b.first) record { first = a.first; last = b.last } (ms ++ ns)
chain_joined links a b ms ns within h i once =
    let f = in_front a.last a.last ms h.front h.is in
    let g = in_front a.last b.last ns i.front i.is in
    let o = is_at_same a.last in
    let most = once a.last in
    record {
      front = h.front ++ a.last ∷ i.front;
      is = ap (λ l. l ++ ns) h.is
          ∙ (append_assoc h.front (a.last ∷ []) ns
          ∙ (ap (λ l. h.front ++ a.last ∷ l) i.is ∙ sym (append_assoc h.front (a.last ∷ i.front) (b.last ∷ []))));
      way = way_join (put_number links a.last b.first) a.first h.front a.last b.first i.front b.last
          (way_put links a.last b.first a.first h.front a.last (omega arith) h.way)
          (put_within links a.last b.first within)
          (way_put links a.last b.first b.first i.front b.last (omega arith) i.way);
    }

-- the list after its first
abbrev Rest : List ℕ → ℕ → Option Chain → List ℕ → Type 0
Rest links first list ns = (rest : List ℕ) × (ns ≡ first ∷ rest) × IsList links list rest

pub rest_none : (links : List ℕ) (c : Chain) (ns : List ℕ) → IsChain links c ns → ((n : ℕ) → times n ns ≤ 1)
    → c.first ≡ c.last → Rest links c.first None ns
rest_none links c ns h once same = by h.front h.is h.way
  where
    by : (front : List ℕ) → ns ≡ front ++ c.last ∷ [] → IsWay links c.first front c.last → Rest links c.first None ns
    by [] is w = ([], is ∙ ap (λ x. x ∷ []) (sym same), refl)
    by (n ∷ front) is w =
        let f = in_front c.last c.last ns (n ∷ front) is in
        let o = is_at_same c.last in
        let p : is_at c.last n ≡ 1 = ap (is_at c.last) (sym w.1 ∙ same) ∙ o in
        let most = once c.last in absurd (omega arith)

pub rest_some : (links : List ℕ) (c : Chain) (ns : List ℕ) (x : ℕ) → IsChain links c ns → c.first ≢ c.last
    → at_number links c.first ≡ Some x → Rest links c.first (Some record { first = x; last = c.last }) ns
rest_some links c ns x h apart at = by h.front h.is h.way
  where
    by : (front : List ℕ) → ns ≡ front ++ c.last ∷ [] → IsWay links c.first front c.last
        → Rest links c.first (Some record { first = x; last = c.last }) ns
    by [] is w = absurd (apart w)
    by (n ∷ front) is w =
        let next : w.0 ≡ x = some_inj (sym w.2 ∙ (ap (at_number links) (sym w.1) ∙ at)) in (
          front ++ c.last ∷ [],
          is ∙ ap (λ z. z ∷ (front ++ c.last ∷ [])) (sym w.1),
          record { front = front; is = refl; way = subst (λ z. IsWay links z front c.last) next w.3 },
        )

-- the first and the last stand in the list
pub chain_within : (links : List ℕ) (c : Chain) (ns : List ℕ) (many : ℕ) → IsChain links c ns
    → ((n : ℕ) → 0 < times n ns → n < many) → (c.first < many) × (c.last < many)
chain_within links c ns many h all = (
  by h.front h.is h.way,
  all c.last (let f = in_front c.last c.last ns h.front h.is in let o = is_at_same c.last in omega arith),
)
  where
    by : (front : List ℕ) → ns ≡ front ++ c.last ∷ [] → IsWay links c.first front c.last → c.first < many
    by front is w = all c.first (of_way front w (in_front c.first c.last ns front is))
      where
        of_way : (front : List ℕ) → IsWay links c.first front c.last
            → times c.first ns ≡ times c.first front + is_at c.first c.last → 0 < times c.first ns
        of_way [] w f =
            let o : is_at c.first c.last ≡ 1 = ap (is_at c.first) (sym w) ∙ is_at_same c.first in omega arith
        of_way (n ∷ front) w f =
            let o : is_at c.first n ≡ 1 = ap (is_at c.first) (sym w.1) ∙ is_at_same c.first in omega arith

-- of each number those that wait for it
pub chain_here : (cs : List (Option Chain)) (m : ℕ) (c : Option Chain) → m < length cs
    → chain_at (put_number cs m c) m ≡ c
chain_here [] m c h = absurd (omega (arith, h))
chain_here (x ∷ cs) zero c h = refl
chain_here (x ∷ cs) (suc m) c h = chain_here cs m c (omega (arith, h))

pub chain_other : (cs : List (Option Chain)) (m k : ℕ) (c : Option Chain) → m ≢ k
    → chain_at (put_number cs m c) k ≡ chain_at cs k
chain_other [] m k c apart = refl
chain_other (x ∷ cs) zero zero c apart = absurd (apart refl)
chain_other (x ∷ cs) zero (suc k) c apart = refl
chain_other (x ∷ cs) (suc m) zero c apart = refl
chain_other (x ∷ cs) (suc m) (suc k) c apart = chain_other cs m k c (λ e. apart (ap suc e))

pub chain_more : (cs : List (Option Chain)) (m : ℕ) → chain_at (cs ++ None ∷ []) m ≡ chain_at cs m
chain_more [] zero = refl
chain_more [] (suc m) = refl
chain_more (x ∷ cs) zero = refl
chain_more (x ∷ cs) (suc m) = chain_more cs m

-- what an index gives
pub chain_read : (cs : List (Option Chain)) (m : ℕ) (c : Option Chain) → m < length cs → c ≡ get_or cs m c
    → chain_at cs m ≡ c
chain_read [] m c h e = absurd (omega (arith, h))
chain_read (x ∷ cs) zero c h e = sym e
chain_read (x ∷ cs) (suc m) c h e = chain_read cs m c (omega (arith, h)) e

-- one list of those that wait gets longer
pub waits_put : (links : List ℕ) (cs : List (Option Chain)) (on k : ℕ) (c : Chain) (waits : ℕ → List ℕ) → on < length cs
    → IsChain links c (k ∷ waits on) → ((m : ℕ) → IsList links (chain_at cs m) (waits m))
    → (m : ℕ) → IsList links (chain_at (put_number cs on (Some c)) m) (with_waiter waits on k m)
waits_put links cs on k c waits within one others m = dite (ℕ_discrete m on)
    (λ is. subst (λ (z : Option Chain × List ℕ). IsList links z.0 z.1)
    (λ i. (
      sym (ap (chain_at (put_number cs on (Some c))) is ∙ chain_here cs on (Some c) within) i,
      sym (ap (λ b. cond b (k ∷ waits m) (waits m)) (eq-eqb m on is) ∙ ap (λ j. k ∷ waits j) is) i,
    )) one)
    (λ ne. subst (λ (z : Option Chain × List ℕ). IsList links z.0 z.1)
    (λ i. (
      sym (chain_other cs on m (Some c) (λ e. ne (sym e))) i,
      sym (ap (λ b. cond b (k ∷ waits m) (waits m)) (ne_eqb m on ne)) i,
    )) (others m))

-- and one is no more
pub waits_gone : (links : List ℕ) (cs : List (Option Chain)) (k : ℕ) (waits : ℕ → List ℕ) → k < length cs
    → ((m : ℕ) → m ≢ k → IsList links (chain_at cs m) (waits m))
    → (m : ℕ) → IsList links (chain_at (put_number cs k None) m) (without_waiters waits k m)
waits_gone links cs k waits within others m = dite (ℕ_discrete m k)
    (λ is. subst (λ (z : Option Chain × List ℕ). IsList links z.0 z.1)
    (λ i. (
      sym (ap (chain_at (put_number cs k None)) is ∙ chain_here cs k None within) i,
      sym (ap (λ b. cond b [] (waits m)) (eq-eqb m k is)) i,
    )) none)
    (λ ne. subst (λ (z : Option Chain × List ℕ). IsList links z.0 z.1)
    (λ i. (sym (chain_other cs k m None (λ e. ne (sym e))) i, sym (ap (λ b. cond b [] (waits m)) (ne_eqb m k ne)) i))
    (others m ne))
  where
    none : IsList links None []
    none = refl

pub last_in : (links : List ℕ) (c : Chain) (ns : List ℕ) → IsChain links c ns → 0 < times c.last ns
last_in links c ns h = let f = in_front c.last c.last ns h.front h.is in let o = is_at_same c.last in omega arith

lists_empty : (q : RunQueue) → q.waiters.items ≡ [] → q.ready ≡ None → HasLists q [] (λ m. [])
lists_empty q none idle = record {
  ready_is = subst (λ o. IsList q.links.items o []) (sym idle) refl;
  waits_are = λ m. subst (λ cs. IsList q.links.items (chain_at cs m) []) (sym none) refl;
}

-- the first number
pub first_one : (q q' : RunQueue) (n : ℕ)
    → (q.links.items ≡ []) × (q.waiters.items ≡ []) × (q.ready ≡ None) × (q.unfinished ≡ 0) → n ≡ 0 → AddsOne q q' n
    → HasOne q'
first_one q q' n none is adds = (
  subst (λ k. HasLists q' (k ∷ []) (λ m. [])) is
      (adds.0 [] (λ m. []) (lists_empty q none.1 none.2) record { in_ready = refl; in_waits = λ m. refl }),
  (let a = adds.1 in let b = none.3 in omega arith),
  (let a = adds.2 in let b = ap length none.0 in omega arith),
  (let a = adds.3 in let b = adds.2 in let e = ap length none.0 in omega arith),
)
