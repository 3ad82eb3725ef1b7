-- A joiner and the end that it takes in.
use Rattle.std.proofs.Common.{◌≡◌, ◌≢◌, refl, ℕ, ◌+◌, ◌≤◌, Bool, true, false, List, [], ◌∷◌, Option, Some, None, sym, ap, ◌∙◌, subst, arith}
use Rattle.std.specs.Prelude.{slice_get}
use Rattle.rev_num.specs.Path.{Path}
use Rattle.rev_num.specs.declared.outcome.Cause.TheVariants as cause
use Rattle.rev_code.specs.declared.code.Instr.{Instr}
use Rattle.rev_code.specs.declared.code.Instr.TheVariants as i
use Rattle.rev_code.specs.State.{State, Frame}
use Rattle.rev_code.specs.Step.{Comes, goes, traps, forks, joins, ends, stuck}
use Rattle.revision_machine.specs.Machine.{Entry, Plain, Joined}
use Rattle.revision_machine.specs.Numbered as numbers
use Rattle.revision_machine.specs.Numbered.{Entries, World, Both, Listing, at_number}
use Rattle.revision_machine.proofs.Paths.{some_inj}
use Rattle.revision_machine.proofs.Numbers.{none_some}
use Rattle.hub_core.specs.Replay.{replay}
use Rattle.hub_core.specs.Hub.{Stands}
use Rattle.hub_core.specs.HubMachine as hub
use Rattle.hub_core.proofs.Replay.{replay_is}
use Rattle.code_soundness.specs.Prices.{Prices, Bears, place_price, instr_in, place, below, total}
use Rattle.code_soundness.specs.AcceptedCode.{notes_of}
use Rattle.code_machine.specs.Local.{CodeRun, IsVerified, Trap, trapped, Local, at_work, has_ended, end_of}
use Rattle.code_machine.specs.Leg.{longest, leg}
use Rattle.code_machine.specs.Joining.{join_in, join_end, join, inherit}
use Rattle.code_machine.specs.Machines.{act_of, wish_of, numbered, start_in}
use Rattle.code_machine.proofs.Fuel.{fuel_of, two_fuels}
use Rattle.code_machine.proofs.Paying.{Leaves, leg_leaves}
use Rattle.run_revision.specs.CodeState.{CodeState, state_of, told, states, shown_at, shown_all, shown_some}
use Rattle.run_revision.specs.CodeValues.{JoinerValue, LeftValue, joined, is_end, code_hub}
use Rattle.run_revision.specs.Laws.{MeetingsFit, LegComesToJoin, OverIsOfCode}
use Rattle.run_revision.proofs.Shown.{at_shown, legs, replays}

-- ---- instructions use up fuel alone

abbrev fuel_alone : Prices
fuel_alone = record { fuel = 1; paid = 0; other = 0; left = λ len at. 0; each = 0 }

alone_bears : (most : ℕ) → Bears fuel_alone most
alone_bears most = record {
  on = λ len at to less inside short. omega arith;
  back = λ len at to less short. omega arith;
  charge = omega arith;
  call = λ len short. omega arith;
}

no_price : (o : Option Instr) (paid : Bool) → place_price fuel_alone o paid ≡ 0
no_price None true = refl
no_price None false = refl
no_price (Some (i.Charge line)) true = refl
no_price (Some (i.Charge line)) false = refl
no_price (Some _) true = refl
no_price (Some _) false = refl

module _ (g : CodeRun) where
  no_place : (n at : ℕ) → place g.code (notes_of g.code) fuel_alone n at ≡ 0
  no_place n at =
      let price : ℕ = place_price fuel_alone (instr_in (slice_get g.code.blocks n) at) (notes_of g.code n at).paid in
      let none : price ≡ 0 = no_price (instr_in (slice_get g.code.blocks n) at) (notes_of g.code n at).paid in
      let sum : 0 + price ≡ 0 = omega (arith, none) in
      sum

  none_below : (fs : List (Frame ℕ)) → below g.code (notes_of g.code) fuel_alone fs ≡ 0
  none_below [] = refl
  none_below (f ∷ fs) = let a = no_place f.block f.at in let b = none_below fs in omega (arith, a, b)

  fuel_is : (c : State ℕ) → total g.code (notes_of g.code) fuel_alone c ≡ c.fuel
  fuel_is c = let a = no_place c.block c.at in let b = none_below c.below in omega (arith, a, b)

  -- a leg leaves no more fuel at its join than there was before it
  pub less_fuel : IsVerified g → (c d : State ℕ) (try : Bool) (m : ℕ) → leg g c ≡ joins d try m → d.fuel ≤ c.fuel
  less_fuel ok c d try m comes =
      let left : Leaves g ok fuel_alone (alone_bears (longest g.code.blocks))
      (total g.code (notes_of g.code) fuel_alone c) (joins d try m) =
      subst (Leaves g ok fuel_alone (alone_bears (longest g.code.blocks)) (total g.code (notes_of g.code) fuel_alone c))
      comes (leg_leaves g ok fuel_alone (alone_bears (longest g.code.blocks)) c) in
      let a = left.0 in
      let b = fuel_is c in
      let e = fuel_is d in
      omega (arith, a, b, e)

-- ---- legs that come to a join

told_wants : (g : CodeRun) (c : State ℕ) (o : Comes ℕ) (d : State ℕ) (try : Bool) (m : ℕ) → leg g c ≡ o
    → o ≡ joins d try m
    → states.next (state_of g (at_work c)) ≡ numbers.Wants m
told_wants g c o d try m is comes = ap (λ x. told g (wish_of (act_of g x))) (is ∙ comes)

pub comes_to_join : LegComesToJoin
comes_to_join g c a run comes = (
  told_wants g c (leg g c) a.state a.try a.on refl comes,
  λ e lq is. ap (λ h. state_of h (join_in h a.state a.try a.on e.left e.left.phase)) run
      ∙ sym (ap (λ o. state_of g (join_end g (at_work c) o (end_of lq.local))) comes
      ∙ ap (λ j. state_of g (join_in g a.state a.try a.on j j.phase)) is.1),
)

-- ---- what stands at a join

-- by a joinee that has trapped: the joiner has the fuel that it had at its join
after_trap : (c : State ℕ) (try : Bool) (m : ℕ) (t : Trap ℕ) → (inherit c try m t).state.fuel ≡ c.fuel
after_trap c true m t = refl
after_trap c false m t = refl

some_trap : Trap ℕ
some_trap = record { cause = cause.ZeroDivisor; line = 0; origin = None }

-- one that has ended by that trap
abbrev fallen : Local ℕ → Local ℕ
fallen l = has_ended l.state (trapped some_trap)

module _ (g : CodeRun) (ok : IsVerified g) where
  -- such a joinee leaves a joiner no more fuel than it had before its leg
  no_more : (l : Local ℕ) (o : Comes ℕ) → leg g l.state ≡ o
      → (join_end g l o (end_of (fallen l))).state.fuel ≤ l.state.fuel
  no_more l (joins d try m) is =
      let a = less_fuel g ok l.state d try m is in let b = after_trap d try m some_trap in omega (arith, a, b)
  no_more l (goes d) is = omega arith
  no_more l (traps d e) is = omega arith
  no_more l (forks d n args) is = omega arith
  no_more l (ends d w) is = omega arith
  no_more l stuck is = omega arith

abbrev Stood : JoinerValue → CodeState → Type 0
Stood a l = Stands (hub.numbered code_hub) (hub.values code_hub is_end) a l

abbrev fell : CodeState → LeftValue
fell l = record { run = l.run; left = end_of (fallen l.local) }

one_join : (a : JoinerValue) (l : CodeState) → Stood a l
    → joined a (fell l) ≡ state_of l.run (join l.run l.local (fallen l.local))
one_join a l stood = stood.1 (fell l) (state_of l.run (fallen l.local)) (refl, refl)

same_run : (a : JoinerValue) (l : CodeState) → Stood a l → a.run ≡ l.run
same_run a l stood = ap (λ z. z.run) (one_join a l stood)

joiner_fuel : (a : JoinerValue) (l : CodeState) → IsVerified l.run → Stood a l → a.state.fuel ≤ l.local.state.fuel
joiner_fuel a l ok stood =
    let x = after_trap a.state a.try a.on some_trap in
    let y : (inherit a.state a.try a.on some_trap).state.fuel
    ≡ (join_end l.run l.local (leg l.run l.local.state) (end_of (fallen l.local))).state.fuel =
    ap (λ z. z.local.state.fuel) (one_join a l stood) in
    let z = no_more l.run ok l.local (leg l.run l.local.state) refl in
    omega (arith, x, y, z)

-- ---- of one world

Found : CodeRun → Option (Path × Entry (Local ℕ)) → Path → CodeState → Type 0
Found g o r s = (l : Local ℕ) × (o ≡ Some (r, Plain l)) × (s ≡ state_of g l)

found : (g : CodeRun) (o : Option (Path × Entry (Local ℕ))) (r : Path) (s : CodeState)
    → shown_at g o ≡ Some (r, Plain s) → Found g o r s
unfolding Found
found g None r s e = none_some e
found g (Some (q, Joined l)) r s e =
    absurd (let x : ◌≡◌ {A = Path × Entry CodeState} (q, Joined (state_of g l)) (r, Plain s) = some_inj e in
    let y : ◌≡◌ {A = Entry CodeState} (Joined (state_of g l)) (Plain s) = ap (λ z. z.1) x in
    cc)
found g (Some (q, Plain l)) r s e =
    let x : ◌≡◌ {A = Path × Entry CodeState} (q, Plain (state_of g l)) (r, Plain s) = some_inj e in
    let y : ◌≡◌ {A = Entry CodeState} (Plain (state_of g l)) (Plain s) = ap (λ z. z.1) x in
    (l, ap (λ p. Some (p, Plain l)) (ap (λ z. z.0) x), (let w : s ≡ state_of g l = cc in w))

Shows : CodeRun → Option (World (Local ℕ)) → Entries CodeState → Type 0
Shows g o u = (w : Entries (Local ℕ)) × (o ≡ Some (Listing w)) × (u ≡ shown_all g w)

shows : (g : CodeRun) (o : Option (World (Local ℕ))) (u : Entries CodeState) → shown_some g o ≡ Some (Listing u)
    → Shows g o u
unfolding Shows
shows g None u e = none_some e
shows g (Some Both) u e = absurd (let x : ◌≡◌ {A = World CodeState} Both (Listing u) = some_inj e in cc)
shows g (Some (Listing w)) u e =
    let x : ◌≡◌ {A = World CodeState} (Listing (shown_all g w)) (Listing u) = some_inj e in
    (w, refl, (let y : u ≡ shown_all g w = cc in y))

pub meetings_fit : MeetingsFit
unfolding Found Shows
meetings_fit g fuel start begun ns k a e met =
    let main : Local ℕ = start_in g begun.block begun.main.body fuel in
    let same : replay states (state_of g main) ns ≡ Some (Listing met.world) =
    ap (λ s. replay states s ns) (sym begun.is) ∙ met.replays in
    let u = shows g (replay (numbered g) main ns) met.world (sym (replays g main ns) ∙ same) in
    let w : Entries (Local ℕ) = u.0 in
    let l = found g (at_number w k) met.path met.state
    (sym (at_shown g w k) ∙ (ap (λ x. at_number x k) (sym u.2) ∙ met.joiner)) in
    let q = found g (at_number w a.on) met.other met.last
    (sym (at_shown g w a.on) ∙ (ap (λ x. at_number x a.on) (sym u.2) ∙ met.joinee)) in
    let apart : k ≢ a.on = λ is.
    let both :
    ◌≡◌ {A = Option (Path × Entry CodeState)} (Some (met.path, Plain met.state)) (Some (met.other, Plain met.last)) =
    sym met.joiner ∙ (ap (λ x. at_number met.world x) is ∙ met.joinee) in
    let entry : ◌≡◌ {A = Entry CodeState} (Plain met.state) (Plain met.last) = ap (λ z. z.1) (some_inj both) in
    let one : met.state ≡ met.last = cc in
    let clash : ◌≡◌ {A = numbers.Wish CodeState} (numbers.Wants a.on) numbers.Stops =
    sym met.stands.0 ∙ (ap states.next one ∙ met.is_end.0) in
    cc in
    let all =
    fuel_of g begun.verified begun.block begun.main fuel ns w ((replay_is (numbered g) main ns (Listing w)).0 u.1) in
    let two = two_fuels w k a.on met.path met.other l.0 q.0 apart l.1 q.1 in
    let run : met.state.run ≡ g = ap (λ s. s.run) l.2 in
    let mine = joiner_fuel a met.state (subst IsVerified (sym run) begun.verified) met.stands in
    let before = ap (λ s. s.local.state.fuel) l.2 in
    let its = ap (λ s. s.local.state.fuel) q.2 in
    let left = ap (λ j. j.fuel) met.is_end.1.1 in
    record {
      joiner = same_run a met.state met.stands ∙ run;
      joinee = sym met.is_end.1.0 ∙ ap (λ s. s.run) q.2;
      fuels = omega (arith, all, two, mine, before, its, left);
    }

no_leg : (g : CodeRun) (o : Option (World (Local ℕ))) → shown_some g o ≡ None → o ≡ None
no_leg g None e = refl
no_leg g (Some v) e = none_some (sym e)

pub over_is : OverIsOfCode
over_is g main w over n = no_leg g (numbers.leg (numbered g) (Listing w) n) (sym (legs g (Listing w) n) ∙ over n)
