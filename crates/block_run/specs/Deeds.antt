-- What an instruction leaves to be done with the words and the registers, and what is there when it is done.
--   words_after       the area when it is done
--   registers_after   the registers when it is done
--   run_after         what an instruction works on when it is done
--   stop_after        why a run stops whose last instruction leaves this
--   Fits              the words that it takes are there, and room for the one that it adds
--   IsDeed            what an instruction comes to that leaves this, where it neither reads nor writes a location
--   IsDeedOf          the same of an instruction that itself changes nothing
use Rattle.std.specs.Prelude.{ℕ, ◌+◌, ◌-◌, ◌^◌, ◌<◌, ◌≤◌, List, length, slice_set}
use Rattle.rev_code.specs.declared.code.CodeBlock.{CodeBlock}
use Rattle.block_run.specs.declared.deed.Deed.{Deed}
use Rattle.block_run.specs.declared.deed.Deed.TheVariants as deed
use Rattle.block_run.specs.declared.registers.Registers.{Registers}
use Rattle.block_run.specs.declared.registers.Stop.{Stop}
use Rattle.block_run.specs.declared.registers.Stop.TheVariants as stop
use Rattle.block_run.specs.Area.{run_of, IsAct}
use Rattle.block_run.specs.Plain.{Run, Plain}
use Rattle.block_run.specs.Stops.{cause_of}

abbrev pub words_after : Deed → List ℕ → Registers → List ℕ
words_after (deed.Pushes w) ws r = slice_set ws r.top w
words_after (deed.Puts w) ws r = slice_set ws (r.top - 1) w
words_after (deed.PutsTwo w) ws r = slice_set ws (r.top - 2) w
words_after _ ws r = ws

abbrev pub registers_after : Deed → Registers → Registers
registers_after (deed.Pushes w) r = record r { at = r.at + 1; top = r.top + 1 }
registers_after (deed.Puts w) r = record r { at = r.at + 1 }
registers_after (deed.PutsTwo w) r = record r { at = r.at + 1; top = r.top - 1 }
registers_after deed.Takes r = record r { at = r.at + 1; top = r.top - 1 }
registers_after (deed.Jumps to) r = record r { at = to }
registers_after deed.Goes r = record r { at = r.at + 1 }
registers_after (deed.Traps f) r = r
registers_after deed.Leaves r = r

-- what an instruction works on when it is done
abbrev pub run_after : CodeBlock → List ℕ → Registers → Deed → Run
run_after b ws r d = run_of b (words_after d ws r) (registers_after d r)

abbrev pub stop_after : Deed → Stop
stop_after (deed.Traps f) = stop.Traps (cause_of f)
stop_after deed.Leaves = stop.Leaves
stop_after _ = stop.Goes

-- how many words it needs on the stack
abbrev pub needs : Deed → ℕ
needs (deed.Puts w) = 1
needs (deed.PutsTwo w) = 2
needs deed.Takes = 1
needs _ = 0

-- how many words more there are when it is done
abbrev pub adds : Deed → ℕ
adds (deed.Pushes w) = 1
adds _ = 0

pub record Fits (d : Deed) (n : ℕ) (r : Registers) : Type 0 where
  pub found : needs d ≤ r.top
  pub within : r.top + adds d ≤ n
  pub at : r.at + 1 < 2 ^ 32

pub record IsDeed (p : Plain) (b : CodeBlock) (ws ws' : List ℕ) (r r' : Registers) (d : Deed) : Type 0 where
  pub act : IsAct p b ws (words_after d ws' r') r (registers_after d r') (stop_after d)
  pub fits : Fits d (length ws') r'

-- the same of one that itself changes nothing, by what it comes to on a run with this stack
abbrev pub IsDeedOf : (Run → List ℕ → Plain) → CodeBlock → List ℕ → Registers → Deed → Type 0
IsDeedOf f b ws r d = IsDeed (f (run_of b ws r) (run_of b ws r).stack) b ws ws r r d
