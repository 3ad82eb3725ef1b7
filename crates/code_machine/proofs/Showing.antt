-- A trap shows whether a join made it.
use Rattle.std.proofs.Common.{◌≡◌, ◌∙◌, ℕ, suc, ◌+◌, ◌≤◌, Bool, true, false, List, [], ◌∷◌, Option, Some, None, Ok, Err, refl, sym, ap, subst, arith}
use Rattle.std.specs.Prelude.{slice_get}
use Rattle.rev_code.specs.declared.code.CodeBlock.{CodeBlock}
use Rattle.rev_code.specs.Words.{Word}
use Rattle.rev_code.specs.State.{State, Location}
use Rattle.code_soundness.specs.Typed.{location_kinds}
use Rattle.code_machine.proofs.Typing.{written_fit, merge_defined}
use Rattle.rev_code.specs.Step.{Comes, goes, traps, forks, joins, ends, stuck}
use Rattle.version_map.specs.Composing.{Composition, composed}
use Rattle.code_machine.specs.Local.{CodeRun, written_from, with_entry, Trap, Phase, running, done, trapped, Local, has_ended, at_work, End, end_of}
use Rattle.code_machine.specs.Leg.{leg}
use Rattle.code_machine.specs.Joining.{merges, mains, absorb, join_in, join_end}
use Rattle.code_machine.specs.Machines.{Goes, Bears, Wants, Stops, fork, act_of, act_in}
use Rattle.code_machine.specs.Ends.{shows_join, OwnTrapsShowIt, JoinTrapsShowIt, JoinIsByTheEnd, Ascend, EndsFit, MergesAreDefined}
use Rattle.code_machine.proofs.Events.{leg_own}

went_to : {H : Type 0} (l k : Local H) → Goes l ≡ Goes k → l ≡ k
went_to l k e = cc

same_trap : {H : Type 0} (t u : Trap H) → ◌≡◌ {A = Phase H} (trapped t) (trapped u) → t ≡ u
same_trap t u e = cc

pub own_traps : {H : Type 0} → OwnTrapsShowIt H
own_traps {H} g l c t e = by_phase l.phase e
  where
    of_fork : (d : State H) (n : ℕ) (args : Rattle.std.specs.Prelude.List (Word H)) (o : Option CodeBlock)
        → fork g d n args o ≡ Goes (has_ended c (trapped t)) → shows_join t ≡ false
    of_fork d n args None e = absurd (let z : Stops ≡ Goes (has_ended c (trapped t)) = e in cc)
    of_fork d n args (Some b) e =
        absurd (let z : Bears (λ h. at_work (Rattle.rev_code.specs.Events.parent g.share d args h))
        (at_work (Rattle.rev_code.specs.Events.child g.share d n b args))
        ≡ Goes (has_ended c (trapped t)) = e in
        cc)

    by_event : (o : Comes H) → leg g l.state ≡ o → act_of g o ≡ Goes (has_ended c (trapped t)) → shows_join t ≡ false
    by_event (traps d x) is e =
        let z = went_to (has_ended d (trapped (record { cause = x; line = d.line; origin = None })))
        (has_ended c (trapped t)) e in
        let y : record { cause = x; line = d.line; origin = None } ≡ t =
        same_trap (record { cause = x; line = d.line; origin = None }) t (ap (λ k. k.phase) z) in
        subst (λ k. shows_join k ≡ false) y (leg_own g l.state d x is)
    by_event (forks d n args) is e = of_fork d n args (slice_get g.code.blocks n) e
    by_event (ends d w) is e =
        let z = went_to (has_ended d done) (has_ended c (trapped t)) e in
        absurd (let y : ◌≡◌ {A = Phase H} done (trapped t) = ap (λ k. k.phase) z in cc)
    by_event (joins d try h) is e = absurd (let z : Wants h ≡ Goes (has_ended c (trapped t)) = e in cc)
    by_event (goes d) is e = absurd (let z : Stops ≡ Goes (has_ended c (trapped t)) = e in cc)
    by_event stuck is e = absurd (let z : Stops ≡ Goes (has_ended c (trapped t)) = e in cc)

    by_phase : (p : Phase H) → act_in g l.state p ≡ Goes (has_ended c (trapped t)) → shows_join t ≡ false
    by_phase running e = by_event (leg g l.state) refl e
    by_phase done e = absurd (let z : Stops ≡ Goes (has_ended c (trapped t)) = e in cc)
    by_phase (trapped u) e = absurd (let z : Stops ≡ Goes (has_ended c (trapped t)) = e in cc)

module _ {H : Type 0} (g : CodeRun) (t : Trap H) where
  works : {A : Type 0} → ◌≡◌ {A = Phase H} running (trapped t) → A
  works e = absurd cc

  of_absorb : (c : State H) (try : Bool) (h : H) (j : End H) (o : Composition (Word H))
      → (absorb c try h j o).phase ≡ trapped t → shows_join t ≡ true
  of_absorb c try h j (Ok ws) e = works e
  of_absorb c try h j (Err f) e = ap shows_join (sym (same_trap _ t e))

  of_join : (c : State H) (try : Bool) (h : H) (j : End H) (p : Phase H) → (join_in g c try h j p).phase ≡ trapped t
      → shows_join t ≡ true
  of_join c try h j done e = of_absorb c try h j (composed (merges g) (mains c.locations j.written) j.written) e
  of_join c true h j (trapped u) e = works e
  of_join c false h j (trapped u) e = ap shows_join (sym (same_trap _ t e))
  of_join c try h j running e = works e

  of_end : (l : Local H) → l.phase ≡ running → (o : Comes H) (j : End H) → (join_end g l o j).phase ≡ trapped t
      → shows_join t ≡ true
  of_end l is (joins c try h) j e = of_join c try h j j.phase e
  of_end l is (goes c) j e = works (sym is ∙ e)
  of_end l is (traps c x) j e = works (sym is ∙ e)
  of_end l is (forks c n args) j e = works (sym is ∙ e)
  of_end l is (ends c w) j e = works (sym is ∙ e)
  of_end l is stuck j e = works (sym is ∙ e)

pub join_traps : {H : Type 0} → JoinTrapsShowIt H
join_traps g l j t is e = of_end g t l is (leg g l.state) (end_of j) e

pub by_the_end : {H : Type 0} → JoinIsByTheEnd H
by_the_end g l j k e = ap (join_end g l (leg g l.state)) e

-- ---- what was written

ascend : {H : Type 0} (n m : ℕ) (ls : List (Location H)) → m ≤ n → Ascend m (written_from n ls)
ascend n m [] le = tt
ascend n m (l ∷ ls) le =
    by l.written (ascend (suc n) m ls (omega (arith, le))) (ascend (suc n) (suc n) ls (omega arith))
  where
    by : (o : Option (Word _)) → Ascend m (written_from (suc n) ls) → Ascend (suc n) (written_from (suc n) ls)
        → Ascend m (with_entry n o l.snapshot (written_from (suc n) ls))
    by None earlier later = earlier
    by (Some w) earlier later = (le, later)

pub ends_fit : {H : Type 0} → EndsFit H
ends_fit g ok l p = (
  written_fit g ok 0 (location_kinds g.code.vars) l.state.locations
      (λ i. ap (slice_get (location_kinds g.code.vars)) (let z : 0 + i ≡ i = omega arith in z)) p.locations,
  ascend 0 0 l.state.locations (omega arith),
)

pub merges_defined : {H : Type 0} → MergesAreDefined H
merges_defined g ok n block kind is at x y z a b c = merge_defined g ok n block kind is at x y z a b c
