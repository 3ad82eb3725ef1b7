-- Worked codes. Each is verified, and each schedule leads to this outcome, or is no legal one.
--   after       the outcome of the world after a schedule, where it is legal
use Rattle.std.specs.Prelude.{◌≡◌, ℕ, Bool, true, false, pos, List, [], ◌∷◌, ◌++◌, codes, Option, Some, None}
use Rattle.rev_num.specs.declared.value.ValueKind.{ValueKind}
use Rattle.rev_num.specs.declared.value.ValueKind.TheVariants as k
use Rattle.rev_num.specs.declared.value.Value.{Value}
use Rattle.rev_num.specs.declared.value.Value.TheVariants as v
use Rattle.rev_num.specs.declared.value.NumFault.TheVariants as fault
use Rattle.rev_num.specs.declared.outcome.Cause.{Cause}
use Rattle.rev_num.specs.declared.outcome.Cause.TheVariants as cause
use Rattle.rev_num.specs.declared.outcome.Outcome.{Outcome}
use Rattle.rev_num.specs.declared.outcome.Outcome.TheVariants as o
use Rattle.rev_num.specs.declared.outcome.Shown.{Shown}
use Rattle.rev_code.specs.declared.code.Code.{Code}
use Rattle.rev_code.specs.declared.code.CodeBlock.{CodeBlock}
use Rattle.rev_code.specs.declared.code.CodeVar.{CodeVar}
use Rattle.rev_code.specs.declared.code.BlockClass.{BlockClass}
use Rattle.rev_code.specs.declared.code.BlockClass.TheVariants as class
use Rattle.rev_code.specs.declared.code.Instr.{Instr}
use Rattle.rev_code.specs.declared.code.Instr.TheVariants as i
use Rattle.rev_code.specs.declared.code.LayoutItem.TheVariants as item
use Rattle.revision_machine.specs.Numbered.{World, begin}
use Rattle.code_machine.specs.Local.{CodeRun, IsVerified, Local}
use Rattle.code_machine.specs.Machines.{numbered, start_in}
use Rattle.code_machine.specs.Worlds.{replay}
use Rattle.code_machine.specs.Outcome.{outcome}

-- ---- codes

-- with these parameters and locals
abbrev pub block : BlockClass → ℕ → Option ValueKind → List ValueKind → List Instr → CodeBlock
block class' params' result' locals' instrs' = record {
  class = class';
  params = params';
  result = result';
  locals = locals';
  instrs = instrs';
}

abbrev main : List ValueKind → List Instr → CodeBlock
main locals' instrs' = block class.Main 0 None locals' instrs'

abbrev pub procedure : List Instr → CodeBlock
procedure instrs' = block class.Proc 0 None [] instrs'

-- that prints an int by layout 0, and a bool by layout 1
abbrev code_of : List CodeVar → List CodeBlock → Code
code_of vars' blocks' = record {
  vars = vars';
  texts = [];
  layouts = (item.Int ∷ []) ∷ (item.Bool ∷ []) ∷ [];
  blocks = blocks';
}

abbrev scalar : List ℕ → ValueKind → (cumulative : Bool) → ℕ → CodeVar
scalar name' kind' cumulative' merge' = record {
  name = name';
  cumulative = cumulative';
  kind = kind';
  array = false;
  cells = 1;
  start = 0;
  merge = merge';
}

-- ---- runs

-- with no input, and 10 fuel for a child at most
abbrev pub run_of : Code → CodeRun
run_of code' = record { code = code'; inputs = []; share = 10 }

abbrev Verified : Code → Type 0
Verified code' = IsVerified (run_of code')

abbrev outcome_of : CodeRun → Option (World (Local ℕ)) → Option Outcome
outcome_of g None = None
outcome_of g (Some w) = outcome g w

-- block n is `main`, which begins with this fuel
abbrev after_with : ℕ → Code → ℕ → CodeBlock → List ℕ → Option Outcome
after_with fuel code' n b schedule =
    let g = run_of code' in
    outcome_of g (replay (numbered g) (begin (numbered g) (start_in g n b fuel)) schedule)

abbrev after : Code → ℕ → CodeBlock → List ℕ → Option Outcome
after code' n b schedule = after_with 100 code' n b schedule

abbrev done_with : List ℕ → List Shown → Option Outcome
done_with text' values' = Some (o.Done text' values')

-- with no text
abbrev trapped_with : List Shown → Cause → ℕ → List ℕ → Option Outcome
trapped_with values' cause' line' origin' =
    Some (o.Trapped [] values' (record { cause = cause'; line = line'; origin = origin' }))

-- ---- one revision

abbrev seven : CodeBlock
seven = main [] (i.Charge 1 ∷ i.PushInt (pos 7) ∷ i.Print 0 ∷ i.Return ∷ [])

abbrev printing : Code
printing = code_of [] (seven ∷ [])

-- 7 and a line feed
abbrev seven_text : List ℕ
seven_text = 55 ∷ 10 ∷ []

-- 7 is printed
abbrev pub Prints : Type 0
Prints = Verified printing × (after printing 0 seven (0 ∷ []) ≡ done_with seven_text [])

-- a revision that has ended has no leg, and no revision has this number
abbrev pub NoMoreLegs : Type 0
NoMoreLegs = (after printing 0 seven (0 ∷ 0 ∷ []) ≡ None) × (after printing 0 seven (1 ∷ []) ≡ None)

abbrev try_none : CodeBlock
try_none = main [] (i.Charge 1 ∷ i.PushNone ∷ i.TryJoin ∷ i.Pop ∷ i.Return ∷ [])

abbrev joining_none : Code
joining_none = code_of [] (try_none ∷ [])

-- a TryJoin of `none` traps
abbrev pub TriesNone : Type 0
TriesNone =
    Verified joining_none
    × (after joining_none 0 try_none (0 ∷ []) ≡ trapped_with [] cause.JoinNone 1 [])

-- ---- a joinee that traps, after it printed 1

abbrev dividing : CodeBlock
dividing = procedure (
    i.Charge 1 ∷ i.PushInt (pos 1) ∷ i.Print 0
    ∷ i.PushInt (pos 1) ∷ i.PushInt (pos 0) ∷ i.Div ∷ i.Pop ∷ i.Return ∷ [])

abbrev trying : CodeBlock
trying = main [] (i.Charge 2 ∷ i.Fork 0 ∷ i.TryJoin ∷ i.Print 1 ∷ i.Return ∷ [])

abbrev tried : Code
tried = code_of [] (dividing ∷ trying ∷ [])

-- `false` and a line feed
abbrev false_text : List ℕ
false_text = 102 ∷ 97 ∷ 108 ∷ 115 ∷ 101 ∷ 10 ∷ []

-- a TryJoin drops the joinee's text, and `false` is printed
abbrev pub TryDrops : Type 0
TryDrops =
    Verified tried × (after tried 1 trying (0 ∷ 1 ∷ 0 ∷ 0 ∷ []) ≡ done_with false_text [])

abbrev joining : CodeBlock
joining = main [] (i.Charge 2 ∷ i.Fork 0 ∷ i.Join ∷ i.Return ∷ [])

abbrev passed_on : Code
passed_on = code_of [] (dividing ∷ joining ∷ [])

-- a Join takes over the cause, the line and the origin
abbrev pub TrapPassesOn : Type 0
TrapPassesOn =
    Verified passed_on
    × (after passed_on 1 joining (0 ∷ 1 ∷ 0 ∷ []) ≡ trapped_with [] cause.ZeroDivisor 1 (0 ∷ []))

-- ---- fuel

-- a Join, or a TryJoin, of block 0, and then 7 is printed
abbrev joining_by : Instr → List Instr → CodeBlock
joining_by join rest = main [] (
    i.Charge 1 ∷ i.Fork 0 ∷ join
    ∷ (rest ++ (i.Charge 2 ∷ i.PushInt (pos 7) ∷ i.Print 0 ∷ i.Return ∷ [])))

abbrev pub idle : CodeBlock
idle = procedure (i.Return ∷ [])

-- traps at once, and has all its fuel left
abbrev failing : CodeBlock
failing = procedure (i.PushBool false ∷ i.Assert ∷ i.Return ∷ [])

abbrev awaiting : CodeBlock
awaiting = joining_by i.Join (i.Charge 1 ∷ [])

abbrev attempting : CodeBlock
attempting = joining_by i.TryJoin (i.Pop ∷ i.Charge 1 ∷ [])

abbrev returned : Code
returned = code_of [] (idle ∷ awaiting ∷ [])

abbrev lost : Code
lost = code_of [] (failing ∷ attempting ∷ [])

-- The joiner has 3: it pays 1, its child gets 1, and it needs 2 more. What the child has left is
-- the joiner's where the child is done, and lost where it trapped.
abbrev pub FuelComesBack : Type 0
FuelComesBack =
    Verified returned × Verified lost
    × (after_with 3 returned 1 awaiting (0 ∷ 1 ∷ 0 ∷ 0 ∷ []) ≡ done_with seven_text [])
    × (after_with 3 lost 1 attempting (0 ∷ 1 ∷ 0 ∷ 0 ∷ []) ≡ trapped_with [] cause.Spent 2 [])

-- ---- joins of one revision by two others

abbrev join_it : CodeBlock
join_it = block class.Proc 1 None (k.Rev ∷ []) (i.Charge 2 ∷ i.LoadLocal 0 ∷ i.Join ∷ i.Return ∷ [])

abbrev two_joiners : CodeBlock
two_joiners = main (k.Rev ∷ k.Rev ∷ k.Rev ∷ []) (
    i.Charge 3 ∷ i.Fork 0 ∷ i.StoreLocal 0
    ∷ i.Charge 3 ∷ i.LoadLocal 0 ∷ i.Fork 1 ∷ i.StoreLocal 1
    ∷ i.Charge 3 ∷ i.LoadLocal 0 ∷ i.Fork 1 ∷ i.StoreLocal 2
    ∷ i.Charge 3 ∷ i.LoadLocal 1 ∷ i.Join
    ∷ i.Charge 3 ∷ i.PushInt (pos 1) ∷ i.Print 0 ∷ i.Return ∷ [])

abbrev joined_twice : Code
joined_twice = code_of [] (idle ∷ join_it ∷ two_joiners ∷ [])

-- whichever joins first, the second leads to Twice
abbrev pub JoinedTwice : Type 0
JoinedTwice =
    Verified joined_twice
    × (after joined_twice 2 two_joiners (0 ∷ 0 ∷ 0 ∷ 1 ∷ 2 ∷ 3 ∷ []) ≡ Some o.Twice)
    × (after joined_twice 2 two_joiners (0 ∷ 0 ∷ 0 ∷ 1 ∷ 3 ∷ 2 ∷ []) ≡ Some o.Twice)

-- ---- numbers follow the schedule and paths do not

-- keeps the handle of its child
abbrev pub fork_into : (line variable : ℕ) → CodeBlock
fork_into line variable =
    procedure (i.Charge line ∷ i.Fork 0 ∷ i.StoreShared variable ∷ i.Return ∷ [])

abbrev fork_two : CodeBlock
fork_two = main (k.Rev ∷ k.Rev ∷ []) (
    i.Charge 6 ∷ i.Fork 1 ∷ i.StoreLocal 0 ∷ i.Charge 6 ∷ i.Fork 2 ∷ i.StoreLocal 1
    ∷ i.Charge 6 ∷ i.LoadLocal 0 ∷ i.Join ∷ i.Charge 6 ∷ i.LoadLocal 1 ∷ i.Join ∷ i.Return ∷ [])

abbrev grandchildren : Code
grandchildren = code_of
    (scalar (codes "p") k.Rev false 65535 ∷ scalar (codes "q") k.Rev false 65535 ∷ [])
    (idle ∷ fork_into 4 0 ∷ fork_into 5 1 ∷ fork_two ∷ [])

abbrev shown : List ℕ → Value → Shown
shown name' value' = record { name = name'; cell = None; value = value' }

abbrev both_handles : List Shown
both_handles =
    shown (codes "p") (v.Rev (Some (0 ∷ 0 ∷ [])))
    ∷ shown (codes "q") (v.Rev (Some (1 ∷ 0 ∷ []))) ∷ []

-- `main` joins both children, and then the grandchildren end
abbrev pub rest_of_it : List ℕ
rest_of_it = 1 ∷ 0 ∷ 2 ∷ 0 ∷ 0 ∷ 3 ∷ 4 ∷ []

-- the grandchildren have the numbers 3 and 4 by either schedule, but not the same ones
abbrev pub PathsStay : Type 0
PathsStay =
    Verified grandchildren
    × (after grandchildren 3 fork_two (0 ∷ 0 ∷ 1 ∷ 2 ∷ rest_of_it) ≡ done_with [] both_handles)
    × (after grandchildren 3 fork_two (0 ∷ 0 ∷ 2 ∷ 1 ∷ rest_of_it) ≡ done_with [] both_handles)

-- a revision whose join waits has no leg
abbrev pub WaitingHasNone : Type 0
WaitingHasNone = after grandchildren 3 fork_two (0 ∷ 0 ∷ 0 ∷ []) ≡ None

-- ---- merges

abbrev pub sum : CodeBlock
sum = block class.Merge 3 (Some k.Int) (k.Int ∷ k.Int ∷ k.Int ∷ []) (
    i.LoadLocal 0 ∷ i.LoadLocal 1 ∷ i.Add ∷ i.LoadLocal 2 ∷ i.Sub ∷ i.Return ∷ [])

abbrev pub add_one : CodeBlock
add_one = procedure (
    i.Charge 3 ∷ i.LoadShared 0 ∷ i.PushInt (pos 1) ∷ i.Add ∷ i.StoreShared 0 ∷ i.Return ∷ [])

-- x is 5 at the fork, and then becomes this in the joiner
abbrev summing : ℕ → CodeBlock
summing most = main (k.Rev ∷ []) (
    i.Charge 5 ∷ i.PushInt (pos 5) ∷ i.StoreShared 0 ∷ i.Charge 6 ∷ i.Fork 1 ∷ i.StoreLocal 0
    ∷ i.Charge 7 ∷ i.PushInt (pos most) ∷ i.StoreShared 0
    ∷ i.Charge 8 ∷ i.LoadLocal 0 ∷ i.Join ∷ i.Return ∷ [])

abbrev cumulative_x : ℕ → Code
cumulative_x most =
    code_of (scalar (codes "x") k.Int true 0 ∷ []) (sum ∷ add_one ∷ summing most ∷ [])

abbrev x_is : ℕ → List Shown
x_is n = shown (codes "x") (v.Int (pos n)) ∷ []

-- 15, 6 and 5 make 16
abbrev pub MergesThree : Type 0
MergesThree =
    Verified (cumulative_x 15)
    × (after (cumulative_x 15) 2 (summing 15) (0 ∷ 1 ∷ 0 ∷ 0 ∷ []) ≡ done_with [] (x_is 16))

abbrev pub most_int : ℕ
most_int = 9223372036854775807

-- where the merge overflows, nothing is merged
abbrev pub MergeFaults : Type 0
MergeFaults =
    Verified (cumulative_x most_int)
    × (after (cumulative_x most_int) 2 (summing most_int) (0 ∷ 1 ∷ 0 ∷ [])
    ≡ trapped_with (x_is most_int) (cause.Merge 0 fault.Overflow) 8 [])
