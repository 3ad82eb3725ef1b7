-- What calls and returns do to a revision.
--   Entered    a frame of a block, whose arguments are the words on the stack of the frame that calls
--   Left       the frame that waits goes on, with the result on its stack
--   Printed    a revision has printed a line
use Rattle.std.specs.Prelude.{ℕ, suc, ◌≡◌, ◌+◌, ◌-◌, ◌≤◌, List, [], ◌∷◌, ◌++◌, length, take, drop, replicate, slice_set, slice_index_or, Option, Some, None}
use Rattle.rev_num.specs.declared.value.ValueKind.{ValueKind}
use Rattle.rev_code.specs.declared.code.CodeBlock.{CodeBlock}
use Rattle.rev_code.specs.Step.{params}
use Rattle.rev_code.specs.declared.code.LayoutItem.{LayoutItem}
use Rattle.block_run.specs.Area.{low}
use Rattle.leg_run.specs.Printed.{bytes_from, widths}
use Rattle.block_run.specs.declared.registers.Registers.{Registers}
use Rattle.leg_run.specs.declared.revision.Run.{Run}
use Rattle.leg_run.specs.declared.revision.Waiting.{Waiting}

pub record SameRest (run run' : Run) : Type 0 where
  pub text : run'.text.items ≡ run.text.items
  pub forks : run'.forks ≡ run.forks
  pub meetings : run'.meetings.items ≡ run.meetings.items

-- block b calls block n, for which there is room
pub record Entered (b : CodeBlock) (n : ℕ) (called : CodeBlock) (room : ℕ) (run run' : Run) : Type 0 where
  pub registers : run'.registers ≡ record {
    block = n;
    at = 0;
    base = low b run.registers;
    top = low b run.registers + length called.locals;
    fuel = run.registers.fuel;
    line = run.registers.line;
  }
  pub below : run'.below.items ≡ run.below.items ++
      record { block = run.registers.block; at = suc run.registers.at; base = run.registers.base } ∷ []
  pub locals : take (length called.locals) (drop (low b run.registers) run'.words.items)
      ≡ take (length (params called)) (drop (low b run.registers) run.words.items)
      ++ replicate (length called.locals - length (params called)) 0
  pub beneath : take (low b run.registers) run'.words.items ≡ take (low b run.registers) run.words.items
  pub long : length run.words.items ≤ length run'.words.items
  pub enough : low b run.registers + room ≤ length run'.words.items
  pub rest : SameRest run run'

-- the words behind a return: the result, if there is one, where the frame began
abbrev pub returned : Option ValueKind → Registers → List ℕ → List ℕ
returned None r ws = ws
returned (Some x) r ws = slice_set ws r.base (slice_index_or ws (r.top - 1) 0)

abbrev pub results : Option ValueKind → ℕ
results None = 0
results (Some x) = 1

pub record Left (b : CodeBlock) (w : Waiting) (run run' : Run) : Type 0 where
  pub registers : run'.registers ≡ record {
    block = w.block;
    at = w.at;
    base = w.base;
    top = run.registers.base + results b.result;
    fuel = run.registers.fuel;
    line = run.registers.line;
  }
  pub below : run.below.items ≡ run'.below.items ++ w ∷ []
  pub words : run'.words.items ≡ returned b.result run.registers run.words.items
  pub rest : SameRest run run'

-- the line of a layout, whose values were on the stack
pub record Printed (texts : List (List ℕ)) (items : List LayoutItem) (run run' : Run) : Type 0 where
  pub registers : run'.registers ≡
      record run.registers { at = run.registers.at + 1; top = run.registers.top - widths items }
  pub words : run'.words.items ≡ run.words.items
  pub below : run'.below.items ≡ run.below.items
  pub text : run'.text.items
      ≡ (run.text.items ++ bytes_from [] texts items run.words.items (run.registers.top - widths items)) ++ 10 ∷ []
  pub forks : run'.forks ≡ run.forks
  pub meetings : run'.meetings.items ≡ run.meetings.items
