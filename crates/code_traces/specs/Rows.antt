-- Worked codes. After this schedule, with 100 of fuel and at most 10 for a child, the world has this trace alone, whose
-- lines are these.
--   Merges        two revisions add to one variable, and their changes are brought together
--   MergeFaults   the merge overflows
--   TrapPassesOn  a child that wrote a cell of an array traps, and its joiner takes over the trap
--   PathsStay     by two schedules revisions have other numbers and the same parts
use Rattle.std.specs.Prelude.{◌≡◌, ℕ, pos, Bool, true, false, List, [], ◌∷◌, codes, Some, None}
use Rattle.rev_num.specs.declared.value.Value.TheVariants as v
use Rattle.rev_num.specs.declared.value.ValueKind.{ValueKind}
use Rattle.rev_num.specs.declared.value.ValueKind.TheVariants as k
use Rattle.rev_num.specs.declared.value.NumFault.TheVariants as fault
use Rattle.rev_num.specs.declared.outcome.Cause.TheVariants as cause
use Rattle.trace_diagram.specs.declared.diagram.Part.{Part}
use Rattle.trace_diagram.specs.declared.diagram.Trace.{Trace}
use Rattle.trace_diagram.specs.declared.diagram.Change.{Change}
use Rattle.trace_diagram.specs.declared.diagram.PartEnd.{PartEnd}
use Rattle.trace_diagram.specs.declared.diagram.PartEnd.TheVariants as part_end
use Rattle.trace_diagram.specs.declared.diagram.TraceEvent.{TraceEvent}
use Rattle.trace_diagram.specs.declared.diagram.TraceEvent.TheVariants as event
use Rattle.trace_diagram.specs.Traces.{trace_lines}
use Rattle.revision_machine.specs.Numbered.{Listing, Entries, begin}
use Rattle.rev_code.specs.declared.code.Code.{Code}
use Rattle.rev_code.specs.declared.code.CodeBlock.{CodeBlock}
use Rattle.rev_code.specs.declared.code.CodeVar.{CodeVar}
use Rattle.rev_code.specs.declared.code.BlockClass.TheVariants as class
use Rattle.rev_code.specs.declared.code.Instr.{Instr}
use Rattle.rev_code.specs.declared.code.Instr.TheVariants as i
use Rattle.rev_code.specs.declared.code.LayoutItem.TheVariants as item
use Rattle.code_machine.specs.Local.{IsVerified, Local}
use Rattle.code_machine.specs.Machines.{numbered, start_in}
use Rattle.code_machine.specs.Worlds.{replay}
use Rattle.code_traces.specs.Traces.{IsTraceOf, IsTheOnly}
use Rattle.code_machine.specs.Rows.{block, procedure, run_of, idle, fork_into, rest_of_it, sum, add_one, most_int}

-- ---- codes

abbrev main : List Instr → CodeBlock
main instrs' = block class.Main 0 None (k.Rev ∷ []) instrs'

-- that prints an int by layout 0
abbrev code_of : List CodeVar → List CodeBlock → Code
code_of vars' blocks' = record {
  vars = vars';
  texts = [];
  layouts = (item.Int ∷ []) ∷ [];
  blocks = blocks';
}

abbrev variable : List ℕ → ValueKind → (array : Bool) → (cells : ℕ) → CodeVar
variable name' kind' array' cells' = record {
  name = name';
  cumulative = false;
  kind = kind';
  array = array';
  cells = cells';
  start = 0;
  merge = 65535;
}

-- by merge block 0
abbrev cumulative_int : List ℕ → CodeVar
cumulative_int name' = record {
  name = name';
  cumulative = true;
  kind = k.Int;
  array = false;
  cells = 1;
  start = 0;
  merge = 0;
}

-- ---- rows

abbrev lines_of : List Part → List (List ℕ)
lines_of parts' = let t : Trace = record { parts = parts' } in trace_lines t

-- block n is `main`
pub record HasTrace
    (code : Code) (n : ℕ) (main : CodeBlock) (schedule : List ℕ) (parts : List Part)
    (lines : List (List ℕ)) : Type 0 where
  pub verified : IsVerified (run_of code)
  pub world : Entries (Local ℕ)
  pub replays : replay (numbered (run_of code)) (begin (numbered (run_of code)) (start_in (run_of code) n main 100))
      schedule
      ≡ Some (Listing world)
  pub trace : IsTheOnly (IsTraceOf (run_of code) (Listing world)) parts
  pub text : lines_of parts ≡ lines

-- ---- two revisions add to one variable

-- x is 5 at the fork, and then becomes this in the joiner, which prints what comes of the join
abbrev summing : ℕ → CodeBlock
summing most = main (
    i.Charge 5 ∷ i.PushInt (pos 5) ∷ i.StoreShared 0 ∷ i.Charge 6 ∷ i.Fork 1 ∷ i.StoreLocal 0
    ∷ i.Charge 7 ∷ i.PushInt (pos most) ∷ i.StoreShared 0
    ∷ i.Charge 8 ∷ i.LoadLocal 0 ∷ i.Join
    ∷ i.Charge 9 ∷ i.LoadShared 0 ∷ i.Print 0 ∷ i.Return ∷ [])

abbrev cumulative_x : ℕ → Code
cumulative_x most =
    code_of (cumulative_int (codes "x") ∷ []) (sum ∷ add_one ∷ summing most ∷ [])

abbrev int_change : List ℕ → (value root : ℕ) → Change
int_change place' n m = record { place = place'; value = v.Int (pos n); root = v.Int (pos m) }

-- the child of `main`, forked and joined in these lines
abbrev one_child : (forked joined : ℕ) → List TraceEvent
one_child l m = event.Forked (0 ∷ []) l ∷ event.Joined (0 ∷ []) m ∷ []

abbrev child_part : PartEnd → (fuel : ℕ) → List Change → Part
child_part end' fuel' written' = record {
  path = 0 ∷ [];
  events = [];
  end = end';
  fuel = fuel';
  written = written';
  text = [];
}

abbrev main_part : List TraceEvent → PartEnd → (fuel : ℕ) → List Change → List ℕ → Part
main_part events' end' fuel' written' text' = record {
  path = [];
  events = events';
  end = end';
  fuel = fuel';
  written = written';
  text = text';
}

-- 15, 6 and 5 make 16
abbrev pub Merges : Type 0
Merges =
    HasTrace (cumulative_x 15) 2 (summing 15) (0 ∷ 1 ∷ 0 ∷ 0 ∷ []) (
    child_part part_end.Done 9 (int_change (codes "x") 6 5 ∷ [])
    ∷ main_part (one_child 6 8) part_end.Done 94 (int_change (codes "x") 16 0 ∷ []) (49 ∷ 54 ∷ 10 ∷ [])
    ∷ []) (
    codes "revisions trace 1"
    ∷ codes "revision 0"
    ∷ codes "end done"
    ∷ codes "fuel 9"
    ∷ codes "write x 6 root 5"
    ∷ codes "revision main"
    ∷ codes "forked 0 line 6"
    ∷ codes "joined 0 line 8"
    ∷ codes "end done"
    ∷ codes "fuel 94"
    ∷ codes "write x 16 root 0"
    ∷ codes "> 16" ∷ [])

-- nothing is merged, and the trap has the name of the location
abbrev pub MergeFaults : Type 0
MergeFaults =
    HasTrace (cumulative_x most_int) 2 (summing most_int) (0 ∷ 1 ∷ 0 ∷ []) (
    child_part part_end.Done 9 (int_change (codes "x") 6 5 ∷ [])
    ∷ main_part (one_child 6 8)
    (part_end.Trapped (record { cause = cause.Merge 0 fault.Overflow; line = 8; origin = [] }) (codes "x"))
    86 (int_change (codes "x") most_int 0 ∷ []) []
    ∷ []) (
    codes "revisions trace 1"
    ∷ codes "revision 0"
    ∷ codes "end done"
    ∷ codes "fuel 9"
    ∷ codes "write x 6 root 5"
    ∷ codes "revision main"
    ∷ codes "forked 0 line 6"
    ∷ codes "joined 0 line 8"
    ∷ codes "end merge of x: overflow at line 8 in revision main"
    ∷ codes "fuel 86"
    ∷ codes "write x 9223372036854775807 root 0" ∷ [])

-- ---- a child that writes a cell, and traps

abbrev failing : CodeBlock
failing = procedure (
    i.Charge 3 ∷ i.PushInt (pos 2) ∷ i.PushInt (pos 7) ∷ i.StoreCell 1
    ∷ i.Charge 4 ∷ i.PushBool false ∷ i.Assert ∷ i.Return ∷ [])

abbrev joining : CodeBlock
joining = main (
    i.Charge 6 ∷ i.Fork 0 ∷ i.StoreLocal 0 ∷ i.Charge 7 ∷ i.LoadLocal 0 ∷ i.Join ∷ i.Return ∷ [])

abbrev with_array : Code
with_array =
    code_of (variable (codes "x") k.Int false 1 ∷ variable (codes "a") k.Int true 3 ∷ []) (failing ∷ joining ∷ [])

abbrev asserted : PartEnd
asserted = part_end.Trapped (record { cause = cause.Assert; line = 4; origin = 0 ∷ [] }) []

abbrev pub TrapPassesOn : Type 0
TrapPassesOn =
    HasTrace with_array 1 joining (0 ∷ 1 ∷ 0 ∷ []) (
    child_part asserted 8 (int_change (codes "a[2]") 7 0 ∷ [])
    ∷ main_part (one_child 6 7) asserted 88 [] []
    ∷ []) (
    codes "revisions trace 1"
    ∷ codes "revision 0"
    ∷ codes "end assert at line 4 in revision 0"
    ∷ codes "fuel 8"
    ∷ codes "write a[2] 7 root 0"
    ∷ codes "revision main"
    ∷ codes "forked 0 line 6"
    ∷ codes "joined 0 line 7"
    ∷ codes "end assert at line 4 in revision 0"
    ∷ codes "fuel 88" ∷ [])

-- ---- numbers follow the schedule and paths do not

abbrev fork_two : CodeBlock
fork_two = block class.Main 0 None (k.Rev ∷ k.Rev ∷ []) (
    i.Charge 6 ∷ i.Fork 1 ∷ i.StoreLocal 0 ∷ i.Charge 6 ∷ i.Fork 2 ∷ i.StoreLocal 1
    ∷ i.Charge 7 ∷ i.LoadLocal 0 ∷ i.Join ∷ i.Charge 8 ∷ i.LoadLocal 1 ∷ i.Join ∷ i.Return ∷ [])

abbrev grandchildren : Code
grandchildren =
    code_of (variable (codes "p") k.Rev false 1 ∷ variable (codes "q") k.Rev false 1 ∷ [])
    (idle ∷ fork_into 4 0 ∷ fork_into 5 1 ∷ fork_two ∷ [])

abbrev handle_change : List ℕ → List ℕ → Change
handle_change place' path' = record { place = place'; value = v.Rev (Some path'); root = v.Rev None }

abbrev quiet_part : List ℕ → List TraceEvent → (fuel : ℕ) → List Change → Part
quiet_part path' events' fuel' written' = record {
  path = path';
  events = events';
  end = part_end.Done;
  fuel = fuel';
  written = written';
  text = [];
}

abbrev family : List Part
family =
    quiet_part (0 ∷ 0 ∷ []) [] 4 []
    ∷ quiet_part (0 ∷ []) (event.Forked (0 ∷ 0 ∷ []) 4 ∷ []) 5
    (handle_change (codes "p") (0 ∷ 0 ∷ []) ∷ [])
    ∷ quiet_part (1 ∷ 0 ∷ []) [] 4 []
    ∷ quiet_part (1 ∷ []) (event.Forked (1 ∷ 0 ∷ []) 5 ∷ []) 5
    (handle_change (codes "q") (1 ∷ 0 ∷ []) ∷ [])
    ∷ quiet_part []
    (event.Forked (0 ∷ []) 6 ∷ event.Forked (1 ∷ []) 6 ∷ event.Joined (0 ∷ []) 7 ∷ event.Joined (1 ∷ []) 8 ∷ [])
    86
    (handle_change (codes "p") (0 ∷ 0 ∷ []) ∷ handle_change (codes "q") (1 ∷ 0 ∷ []) ∷ [])
    ∷ []

abbrev family_lines : List (List ℕ)
family_lines =
    codes "revisions trace 1"
    ∷ codes "revision 0.0"
    ∷ codes "end done"
    ∷ codes "fuel 4"
    ∷ codes "revision 0"
    ∷ codes "forked 0.0 line 4"
    ∷ codes "end done"
    ∷ codes "fuel 5"
    ∷ codes "write p @0.0 root none"
    ∷ codes "revision 1.0"
    ∷ codes "end done"
    ∷ codes "fuel 4"
    ∷ codes "revision 1"
    ∷ codes "forked 1.0 line 5"
    ∷ codes "end done"
    ∷ codes "fuel 5"
    ∷ codes "write q @1.0 root none"
    ∷ codes "revision main"
    ∷ codes "forked 0 line 6"
    ∷ codes "forked 1 line 6"
    ∷ codes "joined 0 line 7"
    ∷ codes "joined 1 line 8"
    ∷ codes "end done"
    ∷ codes "fuel 86"
    ∷ codes "write p @0.0 root none"
    ∷ codes "write q @1.0 root none" ∷ []

-- the grandchildren, which no one joins, have the numbers 3 and 4 by either schedule, but not the
-- same ones
abbrev pub PathsStay : Type 0
PathsStay =
    HasTrace grandchildren 3 fork_two (0 ∷ 0 ∷ 1 ∷ 2 ∷ rest_of_it) family family_lines
    × HasTrace grandchildren 3 fork_two (0 ∷ 0 ∷ 2 ∷ 1 ∷ rest_of_it) family family_lines
