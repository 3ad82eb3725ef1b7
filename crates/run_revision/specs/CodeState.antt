-- Verified code as one machine by numbers, whose states tell what runs.
--   CodeState   a local state of a run of code
--   states      the machine: a leg of a state is that of its run
--   shown       a world of one run of code, with what runs at each state
use Rattle.std.specs.Prelude.{ℕ, [], ◌∷◌, Option, Some, None}
use Rattle.rev_num.specs.Path.{Path}
use Rattle.revision_machine.specs.Machine.{Entry, Plain, Joined}
use Rattle.revision_machine.specs.Numbered.{Wish, Goes, Bears, Wants, Stops, Numbered, Entries, World, Both, Listing}
use Rattle.code_machine.specs.Local.{CodeRun, Local}
use Rattle.code_machine.specs.Machines.{numbered}

pub record CodeState : Type 0 where
  pub run : CodeRun
  pub local : Local ℕ

abbrev pub state_of : CodeRun → Local ℕ → CodeState
state_of g l = record { run = g; local = l }

abbrev pub told : CodeRun → Wish (Local ℕ) → Wish CodeState
told g (Goes l) = Goes (state_of g l)
told g (Bears f c) = Bears (λ n. state_of g (f n)) (state_of g c)
told g (Wants m) = Wants m
told g Stops = Stops

abbrev pub next : CodeState → Wish CodeState
next s = told s.run ((numbered s.run).next s.local)

abbrev pub forks : CodeState → ℕ
forks s = s.local.state.forks

abbrev pub join : CodeState → ℕ → CodeState → CodeState
join s m t = state_of s.run ((numbered s.run).join s.local m t.local)

abbrev pub states : Numbered
states = record { Local = CodeState; next = next; forks = forks; join = join }

-- ---- worlds of one run

abbrev pub shown_entry : CodeRun → Entry (Local ℕ) → Entry CodeState
shown_entry g (Plain l) = Plain (state_of g l)
shown_entry g (Joined l) = Joined (state_of g l)

abbrev pub shown_at : CodeRun → Option (Path × Entry (Local ℕ)) → Option (Path × Entry CodeState)
shown_at g None = None
shown_at g (Some (r, e)) = Some (r, shown_entry g e)

abbrev pub shown_all : CodeRun → Entries (Local ℕ) → Entries CodeState
shown_all g [] = []
shown_all g ((r, e) ∷ w) = (r, shown_entry g e) ∷ shown_all g w

abbrev pub shown : CodeRun → World (Local ℕ) → World CodeState
shown g Both = Both
shown g (Listing w) = Listing (shown_all g w)

abbrev pub shown_some : CodeRun → Option (World (Local ℕ)) → Option (World CodeState)
shown_some g None = None
shown_some g (Some w) = Some (shown g w)
