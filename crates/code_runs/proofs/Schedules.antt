-- A schedule of verified code is legal, or stops at one entry.
use Rattle.std.proofs.Common.{◌≡◌, ◌∙◌, ◌⊎◌, inl, inr, ℕ, zero, suc, List, [], ◌∷◌, take, Option, Some, None, refl, sym, ap, ap₂}
use Rattle.std.specs.Prelude.{slice_get}
use Rattle.rev_code.specs.declared.code.CodeBlock.{CodeBlock}
use Rattle.revision_machine.specs.Numbered as numbers
use Rattle.revision_machine.specs.Numbered.{World, begin}
use Rattle.code_machine.specs.Local.{CodeRun, IsVerified, Local}
use Rattle.code_machine.specs.Machines.{IsMain, numbered, start_in}
use Rattle.code_machine.specs.Worlds.{after, replay}
use Rattle.code_machine_laws.proofs.Mains.{has_main, main_is_one}
use Rattle.world_runs.specs.Replay.{Replayed, StopsAt}
use Rattle.code_runs.specs.Schedules.{EachIsLegalOrStops, IsLegal, NeverBoth, StopsOnce, WorldIsOne}
use Rattle.rev_num.proofs.Options.{some_eq as some_same, none_some as never_some}

-- ---- from any world

module _ (g : CodeRun) where
  record Stops (v : World (Local ℕ)) (ns : List ℕ) (at revision : ℕ) : Type 0 where
    before : World (Local ℕ)
    replayed : replay (numbered g) v (take at ns) ≡ Some before
    entry : slice_get ns at ≡ Some revision
    none : numbers.leg (numbered g) before revision ≡ None

  -- the entries behind one that has a leg
  goes_on : (v u : World (Local ℕ)) (n : ℕ) (ns : List ℕ) → numbers.leg (numbered g) v n ≡ Some u
      → replay (numbered g) v (n ∷ ns) ≡ replay (numbered g) u ns
  goes_on v u n ns e = ap (λ o. after (numbered g) o (λ x. replay (numbered g) x ns)) e

  -- there are none behind one that has no leg
  stuck : (v : World (Local ℕ)) (n : ℕ) (ns : List ℕ) → numbers.leg (numbered g) v n ≡ None
      → replay (numbered g) v (n ∷ ns) ≡ None
  stuck v n ns e = ap (λ o. after (numbered g) o (λ x. replay (numbered g) x ns)) e

  abbrev IsSorted : World (Local ℕ) → List ℕ → Type 0
  IsSorted v ns =
      ((w : World (Local ℕ)) × (replay (numbered g) v ns ≡ Some w)) ⊎ ((at revision : ℕ) × Stops v ns at revision)

  -- the same behind an entry that has a leg
  sorted_on : (v u : World (Local ℕ)) (n : ℕ) (ns : List ℕ) → numbers.leg (numbered g) v n ≡ Some u → IsSorted u ns
      → IsSorted v (n ∷ ns)
  sorted_on v u n ns e (inl k) = inl (k.0, goes_on v u n ns e ∙ k.1)
  sorted_on v u n ns e (inr k) =
      inr (
        suc k.0,
        k.1,
        record {
          before = k.2.before;
          replayed = goes_on v u n (take k.0 ns) e ∙ k.2.replayed;
          entry = k.2.entry;
          none = k.2.none;
        },
      )

  legal_or_stops : (v : World (Local ℕ)) (ns : List ℕ) → IsSorted v ns
  legal_or_stops v [] = inl (v, refl)
  legal_or_stops v (n ∷ ns) = by (numbers.leg (numbered g) v n) refl (λ u. legal_or_stops u ns)
    where
      by : (o : Option (World (Local ℕ))) → numbers.leg (numbered g) v n ≡ o → ((u : World (Local ℕ)) → IsSorted u ns)
          → IsSorted v (n ∷ ns)
      by None e rest = inr (zero, n, record { before = v; replayed = refl; entry = refl; none = e })
      by (Some u) e rest = sorted_on v u n ns e (rest u)

  -- a stop behind an entry that has a leg
  stops_on : (v u : World (Local ℕ)) (n : ℕ) (ns : List ℕ) → numbers.leg (numbered g) v n ≡ Some u
      → (at revision : ℕ) → Stops v (n ∷ ns) (suc at) revision → Stops u ns at revision
  stops_on v u n ns e at revision s =
      record {
        before = s.before;
        replayed = sym (goes_on v u n (take at ns) e) ∙ s.replayed;
        entry = s.entry;
        none = s.none;
      }

  never_both : (v w : World (Local ℕ)) (ns : List ℕ) → replay (numbered g) v ns ≡ Some w
      → (at revision : ℕ) → Stops v ns at revision → ⊥
  never_both v w [] h at revision s = never_some s.entry
  never_both v w (n ∷ ns) h zero revision s =
      let here : v ≡ s.before = some_same s.replayed in
      let same : n ≡ revision = some_same s.entry in
      let none : numbers.leg (numbered g) v n ≡ None = ap₂ (λ x k. numbers.leg (numbered g) x k) here same ∙ s.none in
      never_some (sym (stuck v n ns none) ∙ h)
  never_both v w (n ∷ ns) h (suc at) revision s =
      by (numbers.leg (numbered g) v n) refl (λ u k t. never_both u w ns k at revision t)
    where
      by : (o : Option (World (Local ℕ))) → numbers.leg (numbered g) v n ≡ o
          → ((u : World (Local ℕ)) → replay (numbered g) u ns ≡ Some w → Stops u ns at revision → ⊥) → ⊥
      by None e rest = never_some (sym (stuck v n ns e) ∙ h)
      by (Some u) e rest = rest u (sym (goes_on v u n ns e) ∙ h) (stops_on v u n ns e at revision s)

  -- an entry without a leg lets no later one be reached
  never_later : (v : World (Local ℕ)) (n : ℕ) (ns : List ℕ) (k : ℕ) → Stops v (n ∷ ns) zero k
      → (at revision : ℕ) → Stops v (n ∷ ns) (suc at) revision → ⊥
  never_later v n ns k first at revision s =
      let here : v ≡ first.before = some_same first.replayed in
      let same : n ≡ k = some_same first.entry in
      let none : numbers.leg (numbered g) v n ≡ None =
      ap₂ (λ x m. numbers.leg (numbered g) x m) here same ∙ first.none in
      never_some (sym (stuck v n (take at ns) none) ∙ s.replayed)

  stops_once : (v : World (Local ℕ)) (ns : List ℕ) (at revision : ℕ) → Stops v ns at revision
      → (place number : ℕ) → Stops v ns place number → (at ≡ place) × (revision ≡ number)
  stops_once v [] at revision s place number t = absurd (never_some s.entry)
  stops_once v (n ∷ ns) zero revision s zero number t = (refl, some_same (sym s.entry ∙ t.entry))
  stops_once v (n ∷ ns) zero revision s (suc place) number t = absurd (never_later v n ns revision s place number t)
  stops_once v (n ∷ ns) (suc at) revision s zero number t = absurd (never_later v n ns number t at revision s)
  stops_once v (n ∷ ns) (suc at) revision s (suc place) number t =
      by (numbers.leg (numbered g) v n) refl (λ u x y. stops_once u ns at revision x place number y)
    where
      by : (o : Option (World (Local ℕ))) → numbers.leg (numbered g) v n ≡ o
          → ((u : World (Local ℕ)) → Stops u ns at revision → Stops u ns place number
          → (at ≡ place) × (revision ≡ number))
          → (suc at ≡ suc place) × (revision ≡ number)
      by None e rest = absurd (never_some (sym (stuck v n (take at ns) e) ∙ s.replayed))
      by (Some u) e rest =
          let both = rest u (stops_on v u n ns e at revision s) (stops_on v u n ns e place number t) in
          (ap suc both.0, both.1)

-- ---- from the start of `main`

module _ (g : CodeRun) (ok : IsVerified g) (fuel : ℕ) where
  abbrev start : World (Local ℕ)
  start = begin (numbered g) (start_in g (has_main g ok).0 (has_main g ok).1.body fuel)

  same_body : (o : Option CodeBlock) (b c : CodeBlock) → o ≡ Some b → o ≡ Some c → b ≡ c
  same_body o b c h k = some_same (sym h ∙ k)

  -- there is one block of `main`
  one_start : (n : ℕ) (m : IsMain g n) → begin (numbered g) (start_in g n m.body fuel) ≡ start
  one_start n m =
      let own = has_main g ok in
      let same : n ≡ own.0 = main_is_one g ok n own.0 m own.1 in
      let body : m.body ≡ own.1.body = some_same (sym m.is ∙ ap (slice_get g.code.blocks) same ∙ own.1.is) in
      ap₂ (λ k b. begin (numbered g) (start_in g k b fuel)) same body

  from_start : (ns : List ℕ) (w : World (Local ℕ)) → Replayed g fuel ns w → replay (numbered g) start ns ≡ Some w
  from_start ns w r = ap (λ v. replay (numbered g) v ns) (sym (one_start r.number r.main)) ∙ r.world

  is_replayed : (ns : List ℕ) (w : World (Local ℕ)) → replay (numbered g) start ns ≡ Some w → Replayed g fuel ns w
  is_replayed ns w h = record { number = (has_main g ok).0; main = (has_main g ok).1; world = h }

  stops_from : (ns : List ℕ) (at revision : ℕ) → StopsAt g fuel ns at revision → Stops g start ns at revision
  stops_from ns at revision s = record {
    before = s.before;
    replayed = from_start (take at ns) s.before s.replayed;
    entry = s.entry;
    none = s.none;
  }

  stops_at : (ns : List ℕ) (at revision : ℕ) → Stops g start ns at revision → StopsAt g fuel ns at revision
  stops_at ns at revision s = record {
    before = s.before;
    replayed = is_replayed (take at ns) s.before s.replayed;
    entry = s.entry;
    none = s.none;
  }

  sorted : (ns : List ℕ)
      → ((w : World (Local ℕ)) × (replay (numbered g) start ns ≡ Some w))
      ⊎ ((at revision : ℕ) × Stops g start ns at revision)
      → IsLegal g fuel ns ⊎ ((at revision : ℕ) × StopsAt g fuel ns at revision)
  sorted ns (inl h) = inl (h.0, is_replayed ns h.0 h.1)
  sorted ns (inr s) = inr (s.0, s.1, stops_at ns s.0 s.1 s.2)

pub each_is_legal_or_stops : EachIsLegalOrStops
each_is_legal_or_stops g ok fuel ns = sorted g ok fuel ns (legal_or_stops g (start g ok fuel) ns)

pub legal_never_stops : NeverBoth
legal_never_stops g ok fuel ns legal at revision s =
    never_both g (start g ok fuel) legal.0 ns (from_start g ok fuel ns legal.0 legal.1) at revision
    (stops_from g ok fuel ns at revision s)

pub world_is_one : WorldIsOne
world_is_one g ok fuel ns w v a b = some_same (sym (from_start g ok fuel ns w a) ∙ from_start g ok fuel ns v b)

pub one_stop : StopsOnce
one_stop g ok fuel ns at revision s place number t =
    stops_once g (start g ok fuel) ns at revision (stops_from g ok fuel ns at revision s) place number
    (stops_from g ok fuel ns place number t)
