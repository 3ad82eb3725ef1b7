-- What holds of each reached world.
use Rattle.std.proofs.Common.{◌≡◌, ◌≢◌, ◌∙◌, ℕ, zero, suc, true, false, List, [], ◌∷◌, ◌++◌, length, Option, Some, None, IsTrue, refl, sym, ap, subst, arith}
use Rattle.rev_num.specs.Path.{Path, before}
use Rattle.rev_code.specs.declared.code.CodeBlock.{CodeBlock}
use Rattle.rev_code.specs.State.{State}
use Rattle.rev_code.specs.Step.{Comes, goes, traps, forks, joins, ends, stuck}
use Rattle.rev_code.specs.Variables.{start_locations}
use Rattle.rev_code.specs.Words.{Word}
use Rattle.rev_code.specs.Events as events
use Rattle.revision_machine.specs.Machine.{Entry, Plain, Joined, Global, Twice, Live}
use Rattle.revision_machine.specs.Laws.{IsDistinct, IsBelow, HandlesPrecede}
use Rattle.revision_machine.specs.Numbered as numbers
use Rattle.revision_machine.specs.Numbered.{Entries, World, Both, Listing, at_number, put_number, number_of, paths_of, globe_of, machine_by, begin, Replays, ReadsAs}
use Rattle.revision_machine.specs.Simulation.{Agrees, EntryAgrees}
use Rattle.revision_machine.specs.Schedules.{Matches}
use Rattle.revision_machine.proofs.Blocked.{handle_law}
use Rattle.revision_machine.proofs.Numbers.{number_back, globe_there}
use Rattle.revision_machine.proofs.Schedules.{schedule_law, schedule_agrees}
use Rattle.code_machine.specs.Local.{CodeRun, IsVerified, Phase, running, done, trapped, Local, at_work, has_ended}
use Rattle.code_machine.specs.Leg.{leg}
use Rattle.code_machine.specs.Joining.{join}
use Rattle.code_machine.specs.Machines.{Act, Goes, Bears, Wants, Stops, fork, act_of, act_in, act, machine, numbered, Holds, start_in}
use Rattle.code_machine.specs.Renamed.{renamed, IsNumbered}
use Rattle.code_machine.specs.Worlds.{after}
use Rattle.code_machine.proofs.Acts.{SameAct, both_go, both_bear, both_want, both_stop, act_same}
use Rattle.code_machine.proofs.Changes.{LegOf, went, bore, took, twice, leg_ways, one_entry, replay_is}
use Rattle.revision_machine.proofs.Replays.{replays_keep}
use Rattle.revision_machine.proofs.Lists.{at_front, put_other, put_here}
use Rattle.code_machine.proofs.Fuel.{fuel_of, two_fuels}
use Rattle.code_machine.proofs.Holding.{holding, want_held}
use Rattle.code_machine.proofs.MachineConditions.{counts, named_counts}
use Rattle.code_machine.proofs.Numbering.{simulates, first_none, first_numbered}
use Rattle.code_machine.proofs.Starting.{revision_count}
use Rattle.code_machine.proofs.Typing.{goes_act, bears_act, wants_act}
use Rattle.code_machine_laws.specs.Reached.{IsReached, snapshots}
use Rattle.code_machine_laws.specs.Laws.{StartIsReached, LegsAreReached, HasNumber, JoineesStand, MainStands, WorldsAreSmall, JoinsFit}
use Rattle.code_machine_laws.proofs.Keeping.{Keeps, leg_keeps, join_keeps}

-- ---- schedules

pub start_reached : StartIsReached
start_reached g n m fuel few =
    record { number = n; main = m; fuel = fuel; few = few; schedule = []; replays = refl }

pub legs_reached : LegsAreReached
legs_reached g v u n r e = record {
  number = r.number;
  main = r.main;
  fuel = r.fuel;
  few = r.few;
  schedule = r.schedule ++ n ∷ [];
  replays = by (begin (numbered g) (start_in g r.number r.main.body r.fuel)) r.schedule r.replays;
}
  where
    by : (s : World (Local ℕ)) (ns : List ℕ) → Replays (numbered g) s ns v → Replays (numbered g) s (ns ++ n ∷ []) u
    by s ns h =
        (replay_is g s u (ns ++ n ∷ [])).1
        (one_entry g s ns n
        ∙ ap (λ o. after (numbered g) o (λ x. numbers.leg (numbered g) x n)) ((replay_is g s v ns).0 h) ∙ e)

pub small : WorldsAreSmall
small g ok w h =
    let a = revision_count g ok h.number h.main h.fuel h.schedule (Listing w) h.replays in
    let b = h.few in omega (arith, a, b)

-- ---- entries

some_pair : {A B : Type 0} (x y : A × B) → Some x ≡ Some y → x ≡ y
some_pair x y e = cc

plain_same : {L : Type 0} (r q : Path) (l k : L)
    → ◌≡◌ {A = Option (Path × Entry L)} (Some (r, Plain l)) (Some (q, Plain k)) → (r ≡ q) × (l ≡ k)
plain_same r q l k e =
    let p = some_pair (r, Plain l) (q, Plain k) e in
    (ap (λ x. x.0) p, (let z : Plain l ≡ Plain k = ap (λ x. x.1) p in cc))

of_paths : {A : Type 0} (w : List (Path × A)) (m : ℕ) (q : Path) → at_number (paths_of w) m ≡ Some q
    → (p : Path) × (e : A) × (at_number w m ≡ Some (p, e))
of_paths {A} [] m q e = absurd (let z : ◌≡◌ {A = Option Path} None (Some q) = e in cc)
of_paths (x ∷ w) zero q e = (x.0, x.1, refl)
of_paths (x ∷ w) (suc m) q e = of_paths w m q e

-- ---- joins

from_want : {H K : Type 0} (f : H → K) (x : Act H) (y : Act K) → SameAct f x y → (m : K) → y ≡ Wants m
    → (q : H) × (x ≡ Wants q) × (m ≡ f q)
from_want f x y (both_want q) m e = (q, refl, (let w : Wants (f q) ≡ Wants m = e in let z : f q ≡ m = cc in sym z))
from_want f x y (both_go l) m e = absurd (let w : Goes (renamed f l) ≡ Wants m = e in cc)
from_want f x y (both_bear u v c h) m e = absurd (let w : Bears v (renamed f c) ≡ Wants m = e in cc)
from_want f x y both_stop m e = absurd (let w : Stops ≡ Wants m = e in cc)

module _ (g : CodeRun) (ok : IsVerified g) (w : Entries (Local ℕ)) (h : IsReached g (Listing w)) where
  abbrev first : Local ℕ
  first = start_in g h.number h.main.body h.fuel

  matches : Matches (machine g) (numbered g) IsNumbered (start_in g h.number h.main.body h.fuel)
      (start_in g h.number h.main.body h.fuel) (Listing w)
  matches =
      schedule_agrees (machine g) (numbered g) IsNumbered (start_in g h.number h.main.body h.fuel)
      (start_in g h.number h.main.body h.fuel)
      (named_counts g ok) (simulates g ok) (λ t i. first_numbered g h.number h.main.body h.fuel t) h.schedule
      (Listing w) h.replays

  -- `main` stands first
  first_path : (p : Path) → at_number (paths_of w) 0 ≡ Some p → p ≡ []
  first_path p e =
      let law =
      schedule_law (numbered g) (start_in g h.number h.main.body h.fuel) (named_counts g ok) h.schedule (Listing w)
      h.replays in
      let reads : ReadsAs (numbered g) (start_in g h.number h.main.body h.fuel) h.schedule (Listing w) law.0 = law.2 in
      let z : Some p ≡ Some [] = sym e ∙ ap (λ ps. at_number ps 0) (sym law.1 ∙ reads.are) in cc

  module _ (n : ℕ) (r : Path) (l : Local ℕ) (there : at_number w n ≡ Some (r, Plain l)) (m : ℕ)
      (is : (numbered g).next l ≡ numbers.Wants m) where
    none_before : (q : Path) → q ≡ [] → IsTrue (before q r) → ⊥
    none_before q e t =
        let z : IsTrue (before [] r) = subst (λ p. IsTrue (before p r)) e t in let y : false ≡ true = z in cc

    joinee : (t : List Path) → t ≡ paths_of w → (revs : Path → Option (Entry (Local Path)))
        → HandlesPrecede (machine g) Holds (Live revs) → (a : Local Path) → revs r ≡ Some (Plain a) → IsNumbered t r a l
        → HasNumber w m × (m ≢ 0)
    joinee t own revs ordered a stands rel =
        let same : SameAct (number_of t) (act g a) (act g l) =
        subst (λ z. SameAct (number_of t) (act g a) (act g z)) (sym rel.is) (act_same (number_of t) g a) in
        let x = from_want (number_of t) (act g a) (act g l) same m (wants_act g ok (act g l) m is) in
        let held : Holds a x.0 = want_held x.0 g a x.1 in
        let below : IsBelow (machine g) revs r x.0 = ordered r x.0 (Plain a) stands held in
        let found : at_number (paths_of w) m ≡ Some x.0 =
        ap (λ ps. at_number ps m) (sym own) ∙ ap (at_number t) x.2 ∙ number_back t x.0 (rel.known x.0 held) in (
          of_paths w m x.0 found,
          λ z. none_before x.0 (first_path x.0 (subst (λ k. at_number (paths_of w) k ≡ Some x.0) z found))
              below.earlier,
        )

    by_entry : (t : List Path) → t ≡ paths_of w → (revs : Path → Option (Entry (Local Path)))
        → HandlesPrecede (machine g) Holds (Live revs) → (x : Option (Entry (Local Path))) → revs r ≡ x
        → EntryAgrees (machine g) (machine_by (numbered g) t) (IsNumbered t) r x (Some (Plain l))
        → HasNumber w m × (m ≢ 0)
    by_entry t own revs ordered (Some (Plain a)) e rel = joinee t own revs ordered a e rel
    by_entry t own revs ordered (Some (Joined a)) e rel = absurd rel
    by_entry t own revs ordered None e rel = absurd rel

    by_state : (t : List Path) → t ≡ paths_of w → IsDistinct t → (s : Global (Local Path))
        → HandlesPrecede (machine g) Holds s
        → Agrees (machine g) (machine_by (numbered g) t) (IsNumbered t) s (Live (globe_of w)) → HasNumber w m × (m ≢ 0)
    by_state t own distinct Twice ordered agrees = absurd agrees
    by_state t own distinct (Live revs) ordered agrees =
        let globe : globe_of w r ≡ Some (Plain l) = globe_there w n r (Plain l) (subst IsDistinct own distinct) there in
        by_entry t own revs ordered (revs r) refl
        (subst (EntryAgrees (machine g) (machine_by (numbered g) t) (IsNumbered t) r (revs r)) globe (agrees r))

    joinee_stands : HasNumber w m × (m ≢ 0)
    joinee_stands =
        by_state matches.table matches.own matches.distinct matches.state
        (handle_law (machine g) (start_in g h.number h.main.body h.fuel) Holds (counts g ok) (holding g)
        (first_none g h.number h.main.body h.fuel) matches.state (record { by = matches.by; runs = matches.runs }))
        matches.agrees

pub joinees : JoineesStand
joinees g ok w h n r l there m is = joinee_stands g ok w h n r l there m is

-- ---- `main`

-- a fork is no step that goes on alone
module _ (g : CodeRun) where
  pub forked_goes : (d : State ℕ) (n : ℕ) (args : List (Word ℕ)) (o : Option CodeBlock) (l' : Local ℕ)
      → fork g d n args o ≡ Goes l' → ⊥
  forked_goes d n args None l' is = (let z : Stops ≡ Goes l' = is in cc)
  forked_goes d n args (Some b) l' is =
      (let z :
      Bears (λ h. at_work (events.parent g.share d args h)) (at_work (events.child g.share d n b args)) ≡ Goes l' =
      is in
      cc)

module _ (g : CodeRun) (ok : IsVerified g) where
  abbrev Kept : Local ℕ → Local ℕ → Type 0
  Kept l l' = snapshots l'.state.locations ≡ snapshots l.state.locations

  forked_keeps : (c d : State ℕ) (n : ℕ) (args : List (Word ℕ)) (o : Option CodeBlock)
      → snapshots d.locations ≡ snapshots c.locations
      → (f : ℕ → Local ℕ) (k : Local ℕ) → fork g d n args o ≡ Bears f k → (m : ℕ)
      → snapshots (f m).state.locations ≡ snapshots c.locations
  forked_keeps c d n args None e f k is m = absurd (let z : Stops ≡ Bears f k = is in cc)
  forked_keeps c d n args (Some b) e f k is m =
      let z : (λ h. at_work (events.parent g.share d args h)) ≡ f =
      (let y :
      Bears (λ h. at_work (events.parent g.share d args h)) (at_work (events.child g.share d n b args)) ≡ Bears f k =
      is in
      cc) in
      ap (λ u. snapshots (u m).state.locations) (sym z) ∙ e

  ended_keeps : (c d : State ℕ) (p : Phase ℕ) (l' : Local ℕ) → snapshots d.locations ≡ snapshots c.locations
      → Goes (has_ended d p) ≡ Goes l' → snapshots l'.state.locations ≡ snapshots c.locations
  ended_keeps c d p l' k e = let z : has_ended d p ≡ l' = cc in ap (λ x. snapshots x.state.locations) (sym z) ∙ k

  event_goes : (c : State ℕ) (o : Comes ℕ) → Keeps c o → (l' : Local ℕ) → act_of g o ≡ Goes l'
      → snapshots l'.state.locations ≡ snapshots c.locations
  event_goes c (traps d x) k l' e =
      ended_keeps c d (trapped (record { cause = x; line = d.line; origin = None })) l' k.0 e
  event_goes c (ends d v) k l' e = ended_keeps c d done l' k.0 e
  event_goes c (forks d n args) k l' e = absurd (forked_goes g d n args _ l' e)
  event_goes c (joins d try m) k l' e = absurd (let z : Wants m ≡ Goes l' = e in cc)
  event_goes c (goes d) k l' e = absurd (let z : Stops ≡ Goes l' = e in cc)
  event_goes c stuck k l' e = absurd (let z : Stops ≡ Goes l' = e in cc)

  event_bears : (c : State ℕ) (o : Comes ℕ) → Keeps c o → (f : ℕ → Local ℕ) (u : Local ℕ) → act_of g o ≡ Bears f u
      → (m : ℕ) → snapshots (f m).state.locations ≡ snapshots c.locations
  event_bears c (forks d n args) k f u e m = forked_keeps c d n args _ k.0 f u e m
  event_bears c (traps d x) k f u e m =
      absurd (let z : Goes (has_ended d (trapped (record { cause = x; line = d.line; origin = None }))) ≡ Bears f u =
      e in
      cc)
  event_bears c (ends d v) k f u e m = absurd (let z : Goes (has_ended d done) ≡ Bears f u = e in cc)
  event_bears c (joins d try q) k f u e m = absurd (let z : Wants q ≡ Bears f u = e in cc)
  event_bears c (goes d) k f u e m = absurd (let z : Stops ≡ Bears f u = e in cc)
  event_bears c stuck k f u e m = absurd (let z : Stops ≡ Bears f u = e in cc)

  goes_keeps : (c : State ℕ) (p : Phase ℕ) (l' : Local ℕ) → act_in g c p ≡ Goes l'
      → snapshots l'.state.locations ≡ snapshots c.locations
  goes_keeps c running l' e = event_goes c (leg g c) (leg_keeps g c) l' e
  goes_keeps c done l' e = absurd (let z : Stops ≡ Goes l' = e in cc)
  goes_keeps c (trapped t) l' e = absurd (let z : Stops ≡ Goes l' = e in cc)

  bears_keeps : (c : State ℕ) (p : Phase ℕ) (f : ℕ → Local ℕ) (u : Local ℕ) → act_in g c p ≡ Bears f u → (m : ℕ)
      → snapshots (f m).state.locations ≡ snapshots c.locations
  bears_keeps c running f u e m = event_bears c (leg g c) (leg_keeps g c) f u e m
  bears_keeps c done f u e m = absurd (let z : Stops ≡ Bears f u = e in cc)
  bears_keeps c (trapped t) f u e m = absurd (let z : Stops ≡ Bears f u = e in cc)

  abbrev MainIs : Entries (Local ℕ) → Type 0
  MainIs w = (l : Local ℕ) × (at_number w 0 ≡ Some ([], Plain l))
      × (snapshots l.state.locations ≡ snapshots (start_locations g.code.vars))

  abbrev InWorld : World (Local ℕ) → Type 0
  InWorld Both = Unit {0}
  InWorld (Listing w) = MainIs w

  -- a revision that changes and keeps its snapshot
  put_main : (w : Entries (Local ℕ)) (n : ℕ) (r : Path) (l l' : Local ℕ) → MainIs w → at_number w n ≡ Some (r, Plain l)
      → snapshots l'.state.locations ≡ snapshots l.state.locations → MainIs (put_number w n (r, Plain l'))
  put_main w zero r l l' (k, there, same) at keeps =
      let p = plain_same r [] l k (sym at ∙ there) in (
        l',
        put_here w zero (r, Plain l) (r, Plain l') at ∙ ap (λ q. Some (q, Plain l')) p.0,
        keeps ∙ ap (λ x. snapshots x.state.locations) p.1 ∙ same,
      )
  put_main w (suc n) r l l' (k, there, same) at keeps =
      (k, put_other w (suc n) 0 (r, Plain l') (λ e. omega (arith, e)) ∙ there, same)

  step_main : (w : Entries (Local ℕ)) → IsReached g (Listing w) → MainIs w → (n : ℕ) (u : World (Local ℕ))
      → LegOf (numbered g) w n u → InWorld u
  step_main w h m n u (went r l l' at is z) =
      subst InWorld (sym z) (put_main w n r l l' m at (goes_keeps l.state l.phase l' (goes_act g ok (act g l) l' is)))
  step_main w h m n u (bore r l f c at is z) =
      let p = put_main w n r l (f (length w)) m at
      (bears_keeps l.state l.phase f c (bears_act g ok (act g l) f c is) (length w)) in
      subst InWorld (sym z) (p.0, at_front (put_number w n (r, Plain (f (length w)))) _ 0 _ p.1, p.2)
  step_main w h m n u (took r l k q lq at is there stops z) =
      let p = put_main w n r l (join g l lq) m at (join_keeps g l lq) in
      let apart = (joinees g ok w h n r l at k is).1 in
      subst InWorld (sym z)
      (p.0, put_other (put_number w n (r, Plain (join g l lq))) k 0 (q, Joined lq) (λ e. apart (sym e)) ∙ p.1, p.2)
  step_main w h m n u (twice r l k at is z) = subst InWorld (sym z) tt

  along : (ns : List ℕ) (v w : World (Local ℕ)) → IsReached g v × InWorld v → Replays (numbered g) v ns w
      → IsReached g w × InWorld w
  along = replays_keep (numbered g) (λ v. IsReached g v × InWorld v)
      (λ x n u k e. (legs_reached g (Listing x) u n k.0 e, step_main x k.0 k.1 n u (leg_ways (numbered g) x n u e)))

pub main_stands : MainStands
main_stands g ok w h =
    (along g ok h.schedule (begin (numbered g) (start_in g h.number h.main.body h.fuel)) (Listing w)
    (start_reached g h.number h.main h.fuel h.few, (start_in g h.number h.main.body h.fuel, refl, refl)) h.replays).1

-- ---- fuel

pub joins_fit : JoinsFit
joins_fit g ok w h n r c c' there try m is q l stands stops =
    let kept : Keeps c (joins c' try m) = subst (Keeps c) is (leg_keeps g c) in
    let less = kept.1 in
    let two = two_fuels w n m r q (at_work c) l apart there stands in
    let all = fuel_of g ok h.number h.main h.fuel h.schedule w h.replays in
    let few = h.few in
    omega (arith, less, two, all, few)
  where
    apart : n ≢ m
    apart e =
        let same = (plain_same r q (at_work c) l (sym there ∙ ap (at_number w) e ∙ stands)).1 in
        let clash : numbers.Wants m ≡ numbers.Stops =
        sym (ap (λ o. Rattle.code_machine.specs.Machines.wish_of (act_of g o)) is) ∙ ap (λ k. (numbered g).next k) same
        ∙ stops in
        cc
