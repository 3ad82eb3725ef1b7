-- Worked reads: what a procedure of these instructions reads, of a snapshot in which the one scalar is 0, and of this
-- input.
use Rattle.std.specs.Prelude.{◌≡◌, ℕ, ℤ, false, pos, negsuc, List, [], ◌∷◌, codes, None}
use Rattle.rev_num.specs.declared.value.ValueKind.TheVariants as k
use Rattle.rev_code.specs.declared.code.Code.{Code}
use Rattle.rev_code.specs.declared.code.CodeBlock.{CodeBlock}
use Rattle.rev_code.specs.declared.code.CodeVar.{CodeVar}
use Rattle.rev_code.specs.declared.code.BlockClass.TheVariants as class
use Rattle.rev_code.specs.declared.code.Instr.{Instr}
use Rattle.rev_code.specs.declared.code.Instr.TheVariants as i
use Rattle.rev_code.specs.Words.{int}
use Rattle.rev_code.specs.Variables.{start_locations}
use Rattle.rev_code.specs.Funs.{setting}
use Rattle.rev_code.specs.Events.{start}
use Rattle.code_machine_laws.specs.Reads.{Read, location, input, count, reach_reads}
use Rattle.code_machine_laws.specs.Moved.{AllAgree}

abbrev scalar_x : CodeVar
scalar_x = record {
  name = codes "x";
  cumulative = false;
  kind = k.Int;
  array = false;
  cells = 1;
  start = 0;
  merge = 65535;
}

abbrev body_of : List Instr → CodeBlock
body_of instrs' = record { class = class.Proc; params = 0; result = None; locals = []; instrs = instrs' }

abbrev code_of : List Instr → Code
code_of instrs' = record { vars = scalar_x ∷ []; texts = []; layouts = []; blocks = body_of instrs' ∷ [] }

abbrev pub reads_by : List Instr → List ℤ → List (Read ℕ)
reads_by instrs' inputs' =
    reach_reads (setting (code_of instrs') inputs' 10) 20
    (start 0 (body_of instrs') [] (start_locations (scalar_x ∷ [])) 100)

abbrev two : List ℤ
two = pos 3 ∷ pos 4 ∷ []

-- x = input[0] * 10 reads the number alone, and not x, though its root is the snapshot's
abbrev pub NumberAlone : Type 0
NumberAlone =
    reads_by (i.Charge 1 ∷ i.PushInt (pos 0) ∷ i.LoadInput ∷ i.PushInt (pos 10) ∷ i.Mul ∷ i.StoreShared 0 ∷ i.Return
    ∷ []) two
    ≡ input 0 (pos 3) ∷ []

-- what was written is not read any more
abbrev pub OnceRead : Type 0
OnceRead =
    reads_by (i.Charge 1 ∷ i.LoadShared 0 ∷ i.StoreShared 0 ∷ i.Charge 2 ∷ i.LoadShared 0 ∷ i.Pop ∷ i.Return ∷ []) two
    ≡ location 0 (int (pos 0)) ∷ []

-- a position out of range reads the count, and traps
abbrev pub OutOfRange : Type 0
OutOfRange =
    (reads_by (i.Charge 1 ∷ i.PushInt (pos 2) ∷ i.LoadInput ∷ i.Pop ∷ i.CountInput ∷ i.Return ∷ []) two ≡ count 2 ∷ [])
    × (reads_by (i.Charge 1 ∷ i.PushInt (negsuc 0) ∷ i.LoadInput ∷ i.Pop ∷ i.Return ∷ []) two ≡ count 2 ∷ [])

-- `x = input[0] * 10` is as well for the input 3, 5, and not for 4, 4
abbrev pub OtherInputs : Type 0
OtherInputs =
    AllAgree {H = ℕ} (int (pos 9) ∷ []) (pos 3 ∷ pos 5 ∷ []) (input 0 (pos 3) ∷ [])
    × (AllAgree {H = ℕ} (int (pos 9) ∷ []) (pos 4 ∷ pos 4 ∷ []) (input 0 (pos 3) ∷ []) → ⊥)
