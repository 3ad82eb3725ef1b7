-- A leg of the code and the calculus.
--   ForksAlike     both come to the fork of the same child, and forkers and children are related
--   JoinsAlike     both come to the join of the same revision
--   ComesAlike     what the calculus comes to by its own steps, where the code comes to this event
--   LegsAlike      so it does for every leg
use Rattle.std.specs.Prelude.{◌≡◌, ℕ, Bool, is_some, Option, Some, None, List, slice_get}
use Rattle.rev_num.specs.Path.{Path, child}
use Rattle.rev_num.specs.declared.outcome.Cause.{Cause}
use Rattle.rev_num.specs.declared.outcome.Trap.{Trap}
use Rattle.name_tables.specs.Names.{Name}
use Rattle.revision_machine.specs.Machine.{Forks}
use Rattle.revision_machine.specs.Simulation.{Quiet}
use Rattle.revision_calculus.specs.Program.{Setting}
use Rattle.revision_calculus.specs.State as source
use Rattle.revision_calculus.specs.State.{Local}
use Rattle.revision_calculus.specs.Step.{next}
use Rattle.revision_calculus.specs.Calculus.{calculus}
use Rattle.revision_calculus.specs.Kinded.{IsAccepted, IsKinded}
use Rattle.rev_code.specs.declared.code.CodeBlock.{CodeBlock}
use Rattle.rev_code.specs.Words.{Word}
use Rattle.rev_code.specs.State.{State}
use Rattle.rev_code.specs.Step.{Comes, goes, traps, forks, joins, ends, stuck}
use Rattle.rev_code.specs.Events as events
use Rattle.code_generation.specs.Generated.{code_of}
use Rattle.expression_meaning.specs.States.{IsShared, AtJoin}
use Rattle.program_meaning.specs.StatementLaws.{tables}
use Rattle.code_machine.specs.Leg.{leg}
use Rattle.program_meaning.specs.Related.{run_of, IsTrap, IsAtWork}

-- of the revision at r
module _ (s : Setting) (r : Path) where
  pub record EndsAlike (l : Local) (c : State Path) : Type 0 where
    pub after : Local
    pub quiet : Quiet (calculus s) r l after
    pub phase : after.phase ≡ source.done
    pub shared : IsShared after c

  pub record TrapsAlike (l : Local) (c : State Path) (e : Cause) : Type 0 where
    pub after : Local
    pub quiet : Quiet (calculus s) r l after
    pub trap : Trap
    pub phase : after.phase ≡ source.trapped trap
    pub is : IsTrap r trap (record { cause = e; line = c.line; origin = None })
    pub shared : IsShared after c

  pub record ForksAlike (l : Local) (c : State Path) (n : ℕ) (args : List (Word Path))
      : Type 0 where
    pub before : Local
    pub quiet : Quiet (calculus s) r l before
    pub forker : Local
    pub kid : Local
    pub forks : next s r before ≡ Forks forker kid
    pub counted : before.forks ≡ c.forks
    pub block : CodeBlock
    pub is : slice_get (code_of s.program).blocks n ≡ Some block
    pub works : IsAtWork s forker (events.parent s.share c args (child r c.forks))
    pub kid_works : IsAtWork s kid (events.child s.share c n block args)

  pub record JoinsAlike (l : Local) (c : State Path) (try : Bool) (q : Path) : Type 0 where
    pub before : Local
    pub quiet : Quiet (calculus s) r l before
    pub left : Option Name
    pub tries : try ≡ is_some left
    pub phase : before.phase ≡ source.joining q left
    pub at : AtJoin s (tables s) before left q c

  abbrev pub ComesAlike : Local → Comes Path → Type 0
  ComesAlike l (ends c w) = EndsAlike l c
  ComesAlike l (traps c e) = TrapsAlike l c e
  ComesAlike l (forks c n args) = ForksAlike l c n args
  ComesAlike l (joins c try q) = JoinsAlike l c try q
  ComesAlike l (goes c) = ⊥
  ComesAlike l stuck = ⊥

-- ---- law

-- From a related state the calculus comes by its own steps to what the leg of the code comes to.
abbrev pub LegsAlike : Type 0
LegsAlike =
    (s : Setting) → IsAccepted s.program
    → (r : Path) (l : Local) (c : State Path) → IsAtWork s l c → IsKinded s r l
    → ComesAlike s r l (leg (run_of s) c)
