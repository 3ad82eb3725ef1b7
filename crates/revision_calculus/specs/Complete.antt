-- What holds of the end of every complete run, and runs by a list of steps.
--
-- `Always` is what holds of each end; `HasOutcome`, `Reports` and `Tells` say it of the outcome, of what is written and
-- of one revision; `OneOutcome` is that there is one outcome; `runs_to` follows one list of steps.
use Rattle.std.specs.Prelude.{◌≡◌, ℕ, Bool, false, List, [], ◌∷◌, Option, Some, None, option_map}
use Rattle.rev_num.specs.Path.{Path}
use Rattle.rev_num.specs.declared.outcome.Outcome.{Outcome}
use Rattle.rev_report.specs.Report.{Output}
use Rattle.rev_report.specs.Outcome.{report}
use Rattle.revision_machine.specs.Machine.{Entry, Global, Twice, Live, start, step, Complete}
use Rattle.revision_machine.specs.Laws.{local_of}
use Rattle.revision_calculus.specs.Program.{Setting}
use Rattle.revision_calculus.specs.State.{Local}
use Rattle.revision_calculus.specs.Calculus.{main, calculus}
use Rattle.revision_calculus.specs.Outcome.{outcome}

-- the state before the first step
abbrev pub start_of : Setting → ℕ → Global Local
start_of s fuel = start (calculus s) (main s fuel)

-- there is a complete run of the program, and every complete run, whatever the order of its steps,
-- ends in a state of which this holds
pub record Always (s : Setting) (fuel : ℕ) (P : Global Local → Type 0) : Type 0 where
  pub by : List Path
  pub end : Global Local
  pub complete : Complete (calculus s) (start_of s fuel) by end
  pub each : (rs : List Path) (g : Global Local) → Complete (calculus s) (start_of s fuel) rs g → P g

-- every complete run has this outcome
abbrev pub HasOutcome : Setting → ℕ → Outcome → Type 0
HasOutcome s fuel o = Always s fuel (λ g. outcome s g ≡ Some o)

-- a program with its inputs, share and fuel has one outcome, and no other
pub record OneOutcome (s : Setting) (fuel : ℕ) : Type 0 where
  pub is : Outcome
  pub has : HasOutcome s fuel is
  pub only : (o : Outcome) → HasOutcome s fuel o → o ≡ is

-- the report of a state in which `main` has ended, or that is Twice
abbrev pub report_of : Setting → Bool → Global Local → Option Output
report_of s asked g = option_map (report asked) (outcome s g)

-- every complete run gives this report
abbrev pub Reports : Setting → ℕ → Bool → Output → Type 0
Reports s fuel asked r = Always s fuel (λ g. report_of s asked g ≡ Some r)

-- the local state of the revision at this path, with or without the mark
abbrev pub entry_state : Option (Entry Local) → Option Local
entry_state None = None
entry_state (Some e) = Some (local_of e)

abbrev pub state_at : Path → Global Local → Option Local
state_at r Twice = None
state_at r (Live revs) = entry_state (revs r)

-- in the end of every complete run, this is what f tells of the revision at this path
abbrev pub Tells : {X : Type 0} → Setting → ℕ → Path → (Local → X) → X → Type 0
Tells s fuel r f x = Always s fuel (λ g. option_map f (state_at r g) ≡ Some x)

-- the state after these steps, where each can be made
abbrev pub after : Setting → Global Local → List Path → Option (Global Local)
after s g [] = Some g
after s g (r ∷ rs) = elim (step (calculus s) g r) [ None ↦ None | Some h ↦ after s h rs ]

-- the report of the state after these steps from the start, where each can be made and `main` has ended or it is Twice
abbrev pub runs_to : Setting → ℕ → List Path → Option Output
runs_to s fuel rs = elim (after s (start_of s fuel) rs) [ None ↦ None | Some g ↦ report_of s false g ]
