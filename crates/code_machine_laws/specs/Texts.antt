-- The text of `main` along the legs of code.
--   said          the text of an outcome; Twice has none
--   HasSaid       what a revision has said: its text; or, where its leg comes to a join, its text there
--   LegsSay       what `main` has said grows along legs
--   FirstParts    after a legal schedule it is a first part of the outcome's text
--   OverIsAll     after a complete one all of it
--   NeverJoinsTwice   no legal schedule leads to Twice
--   TwiceIsTold   that is so exactly where the outcome is not Twice
use Rattle.std.specs.Prelude.{ℕ, ◌≡◌, ◌≢◌, ◌≤◌, ◌↔◌, Bool, List, [], Some, None}
use Rattle.rev_num.specs.declared.outcome.Outcome.{Outcome}
use Rattle.rev_num.specs.declared.outcome.Outcome.TheVariants as o
use Rattle.rev_code.specs.State.{State}
use Rattle.rev_code.specs.Step.{joins}
use Rattle.revision_machine.specs.Machine.{Plain}
use Rattle.revision_machine.specs.Numbered as numbers
use Rattle.revision_machine.specs.Numbered.{Entries, World, Both, Listing, at_number, begin, Replays}
use Rattle.code_machine.specs.Local.{CodeRun, IsVerified, Local, running}
use Rattle.code_machine.specs.Leg.{leg}
use Rattle.code_machine.specs.Machines.{numbered, IsMain, start_in}
use Rattle.code_machine_laws.specs.Outcomes.{HasOutcome}
use Rattle.code_machine_laws.specs.Reached.{IsReached, most_fuel}
use Rattle.code_machine_laws.specs.Forms.{Grows}

abbrev pub said : Outcome → List ℕ
said (o.Done text values) = text
said (o.Trapped text values t) = text
said o.Twice = []

-- a revision that was found to wait stands at its join, behind the instructions of its leg
pub data HasSaid (g : CodeRun) (l : Local ℕ) (text : List ℕ) : Type 0 where
  as_it_is : text ≡ l.state.text → HasSaid g l text
  at_join : (c : State ℕ) (try : Bool) (m : ℕ) → l.phase ≡ running → leg g l.state ≡ joins c try m
      → text ≡ c.text → HasSaid g l text

-- `main` has said this in the world
abbrev pub MainSays : CodeRun → Entries (Local ℕ) → List ℕ → Type 0
MainSays g w text = (l : Local ℕ) × (at_number w 0 ≡ Some ([], Plain l)) × HasSaid g l text

-- ---- laws

-- whatever `main` is found to have said before and behind a leg
abbrev pub LegsSay : Type 0
LegsSay =
    (g : CodeRun) → IsVerified g → (w u : Entries (Local ℕ)) (n : ℕ) → IsReached g (Listing w)
    → numbers.leg (numbered g) (Listing w) n ≡ Some (Listing u)
    → (old : List ℕ) → MainSays g w old
    → (n ≢ 0 → MainSays g u old)
    × (n ≡ 0 → (new : List ℕ) → MainSays g u new → Grows old new)

-- from the start of `main`, with at most 4,000,000,000 units of fuel
abbrev pub AfterSchedule : (CodeRun → (fuel : ℕ) → World (Local ℕ) → Type 0) → Type 0
AfterSchedule Law =
    (g : CodeRun) → IsVerified g → (n : ℕ) (m : IsMain g n) (fuel : ℕ) → fuel ≤ most_fuel
    → (ns : List ℕ) (w : World (Local ℕ))
    → Replays (numbered g) (begin (numbered g) (start_in g n m.body fuel)) ns w
    → Law g fuel w

abbrev pub FirstParts : Type 0
FirstParts =
    AfterSchedule (λ g fuel w.
    (x : Entries (Local ℕ)) → w ≡ Listing x → (text : List ℕ) → MainSays g x text
    → (end : Outcome) → HasOutcome g fuel end → end ≢ o.Twice → Grows text (said end))

abbrev pub OverIsAll : Type 0
OverIsAll =
    AfterSchedule (λ g fuel w.
    (x : Entries (Local ℕ)) → w ≡ Listing x → ((k : ℕ) → numbers.leg (numbered g) w k ≡ None)
    → (text : List ℕ) → MainSays g x text
    → (end : Outcome) → HasOutcome g fuel end → text ≡ said end)

-- with this fuel, no legal schedule of `main` leads to Twice
abbrev pub NeverJoinsTwice : CodeRun → (fuel : ℕ) → Type 0
NeverJoinsTwice g fuel =
    (n : ℕ) (m : IsMain g n) (ns : List ℕ) (w : World (Local ℕ))
    → Replays (numbered g) (begin (numbered g) (start_in g n m.body fuel)) ns w → w ≢ Both

abbrev pub TwiceIsTold : Type 0
TwiceIsTold =
    (g : CodeRun) (fuel : ℕ) (end : Outcome) → HasOutcome g fuel end
    → NeverJoinsTwice g fuel ↔ (end ≢ o.Twice)
