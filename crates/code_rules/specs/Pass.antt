-- The rules on instructions, as one pass over the instructions of a block in order.
--   Note          what is known on arrival at an instruction: the shape of the stack, and whether on each way to it a
--                 Charge stands behind the last Call or Fork
--   Passed        an instruction that was passed, with what was known on arrival
--   arrival       what is known on arrival, from the instruction before and from earlier jumps:
--                 None where shapes differ
--   broken        the first rule that an instruction breaks
--   block_fault   the first fault of a block, or what the block costs
--   blocks_fault  the first fault of the instructions of blocks
use Rattle.std.specs.Prelude.{ℕ, suc, ◌+◌, max, Bool, true, false, ◌&&◌, ◌||◌, not, if◌then◌else◌, List, [], ◌∷◌, ◌++◌, length, take, Option, Some, None, Result, Ok, Err, slice_get, nat_eq, nat_lt}
use Rattle.rev_code.specs.declared.code.Code.{Code}
use Rattle.rev_code.specs.declared.code.CodeBlock.{CodeBlock}
use Rattle.rev_code.specs.declared.code.CodeVar.{CodeVar}
use Rattle.rev_code.specs.declared.code.BlockClass.{BlockClass}
use Rattle.rev_code.specs.declared.code.BlockClass.TheVariants as class
use Rattle.rev_code.specs.declared.code.LayoutItem.{LayoutItem}
use Rattle.rev_code.specs.declared.code.Instr.{Instr}
use Rattle.rev_code.specs.declared.code.Instr.TheVariants as i
use Rattle.rev_code.specs.Step.{is_fun, is_procedure}
use Rattle.code_rules.specs.declared.Cost.{Cost}
use Rattle.code_rules.specs.declared.Fault.{Fault}
use Rattle.code_rules.specs.declared.Rule.{Rule}
use Rattle.code_rules.specs.declared.Rule.TheVariants as rule
use Rattle.code_rules.specs.Shapes.{Shape, same_shape, begins, takes, shape_after}

-- ---- properties of instructions

-- where it jumps to
abbrev pub target : Instr → Option ℕ
target (i.Jump to) = Some to
target (i.JumpIfFalse to) = Some to
target (i.JumpIfTrue to) = Some to
target _ = None

-- whether the next instruction can follow it
abbrev pub falls : Instr → Bool
falls (i.Jump to) = false
falls i.Return = false
falls _ = true

-- the stack below what it takes must be empty
abbrev pub is_bare : Instr → Bool
is_bare (i.Charge line) = true
is_bare (i.Call n) = true
is_bare (i.Fork n) = true
is_bare i.Join = true
is_bare i.TryJoin = true
is_bare i.Return = true
is_bare _ = false

-- a Charge pays for it
abbrev pub is_paid_for : Instr → Bool
is_paid_for (i.Call n) = true
is_paid_for (i.Fork n) = true
is_paid_for _ = false

abbrev pub paid_after : Bool → Instr → Bool
paid_after paid (i.Charge line) = true
paid_after paid (i.Call n) = false
paid_after paid (i.Fork n) = false
paid_after paid _ = paid

abbrev pub is_charge : Option Instr → Bool
is_charge (Some (i.Charge line)) = true
is_charge _ = false

-- whether it may stand in a fun or merge
abbrev pub is_pure : Instr → Bool
is_pure (i.LoadShared v) = false
is_pure (i.StoreShared v) = false
is_pure (i.LoadCell v) = false
is_pure (i.StoreCell v) = false
is_pure (i.CheckCell v) = false
is_pure i.LoadInput = false
is_pure i.CountInput = false
is_pure (i.Charge line) = false
is_pure (i.Call n) = false
is_pure (i.Fork n) = false
is_pure i.Join = false
is_pure (i.Print n) = false
is_pure i.Assert = false
is_pure i.TryJoin = false
is_pure _ = true

abbrev pub is_value_class : BlockClass → Bool
is_value_class class.Fun = true
is_value_class class.Merge = true
is_value_class class.Proc = false
is_value_class class.Main = false

-- ---- what is known on arrival

pub record Note : Type 0 where
  pub shape : Shape
  pub paid : Bool

pub record Passed : Type 0 where
  pub instr : Instr
  pub note : Note

-- at the start of a way
abbrev pub entry : Note
entry = record { shape = []; paid = false }

abbrev pub after : Code → CodeBlock → Passed → Note
after code b p = record { shape = shape_after code b p.note.shape p.instr; paid = paid_after p.note.paid p.instr }

-- from the instruction before, of those passed, the last first
abbrev pub fallen : Code → CodeBlock → List Passed → Option Note
fallen code b [] = None
fallen code b (p ∷ done) = if falls p.instr then Some (after code b p) else None

abbrev pub leads_to : ℕ → Option ℕ → Bool
leads_to to None = false
leads_to to (Some n) = nat_eq n to

abbrev pub joined : Option Note → Note → Note
joined None n = n
joined (Some m) n = record { shape = n.shape; paid = m.paid && n.paid }

-- from the jumps to a place, of instructions passed, the last first
abbrev pub jumped : Code → CodeBlock → ℕ → List Passed → Option Note
jumped code b to [] = None
jumped code b to (p ∷ done) =
    if leads_to to (target p.instr) then Some (joined (jumped code b to done) (after code b p))
    else jumped code b to done

-- both ways together: the entry where there is none, and None where their shapes differ
abbrev pub meet : Option Note → Option Note → Option Note
meet None None = Some entry
meet None (Some n) = Some n
meet (Some m) None = Some m
meet (Some m) (Some n) =
    if same_shape m.shape n.shape then Some (record { shape = m.shape; paid = m.paid && n.paid }) else None

abbrev pub arrival : Code → CodeBlock → List Passed → Option Note
arrival code b done = meet (fallen code b done) (jumped code b (length done) done)

-- ---- 1: jumps

abbrev pub bad_jump : CodeBlock → ℕ → Option ℕ → Bool
bad_jump b at None = false
bad_jump b at (Some to) =
    not (nat_lt to (length b.instrs))
    || (not (nat_lt at to) && (is_value_class b.class || not (is_charge (slice_get b.instrs to))))

-- ---- 2: operands

abbrev pub is_scalar : Option CodeVar → Bool
is_scalar None = false
is_scalar (Some v) = not v.array

abbrev pub is_array : Option CodeVar → Bool
is_array None = false
is_array (Some v) = v.array

abbrev pub has_class : (BlockClass → Bool) → Option CodeBlock → Bool
has_class wanted None = false
has_class wanted (Some b) = wanted b.class

abbrev pub is_layout : Option (List LayoutItem) → Bool
is_layout None = false
is_layout (Some items) = true

-- whether the operand names something of the right sort, in the block of this number
abbrev pub names : Code → ℕ → Instr → Bool
names code n (i.LoadShared v) = is_scalar (slice_get code.vars v)
names code n (i.StoreShared v) = is_scalar (slice_get code.vars v)
names code n (i.LoadCell v) = is_array (slice_get code.vars v)
names code n (i.StoreCell v) = is_array (slice_get code.vars v)
names code n (i.CheckCell v) = is_array (slice_get code.vars v)
names code n (i.Apply f) = nat_lt f n && has_class is_fun (slice_get code.blocks f)
names code n (i.Call p) = has_class is_procedure (slice_get code.blocks p)
names code n (i.Fork p) = has_class is_procedure (slice_get code.blocks p)
names code n (i.Print l) = is_layout (slice_get code.layouts l)
names code n _ = true

abbrev pub bad_operand : Code → ℕ → CodeBlock → Instr → Bool
bad_operand code n b x = not (names code n x) || (is_value_class b.class && not (is_pure x))

-- ---- 3: shapes

-- at a jump: whether an earlier jump to the target left another shape; of a target that is not after the jump, and so a
-- Charge, the shape is empty
abbrev pub is_other : Shape → Option Note → Bool
is_other shape None = false
is_other shape (Some n) = not (same_shape shape n.shape)

abbrev pub clashes : Code → CodeBlock → List Passed → Shape → Option ℕ → Bool
clashes code b done shape None = false
clashes code b done shape (Some to) =
    if nat_lt (length done) to then is_other shape (jumped code b to done) else nat_lt 0 (length shape)

abbrev pub bad_shape : Code → CodeBlock → List Passed → Passed → Bool
bad_shape code b done p =
    let wanted = length (takes code b p.note.shape p.instr) in
    let found = length p.note.shape in
    nat_lt found wanted
    || (is_bare p.instr && nat_lt wanted found)
    || (is_paid_for p.instr && not p.note.paid)
    || clashes code b done (shape_after code b p.note.shape p.instr) (target p.instr)

-- ---- 4: kinds

abbrev pub wrong_kind : Code → CodeBlock → Passed → Bool
wrong_kind code b p = not (begins (takes code b p.note.shape p.instr) p.note.shape)

-- ---- 5: locals

abbrev pub bad_local : CodeBlock → Instr → Bool
bad_local b (i.LoadLocal n) = not (nat_lt n (length b.locals))
bad_local b (i.StoreLocal n) = not (nat_lt n (length b.locals))
bad_local b _ = false

-- ---- 6: the end

abbrev pub falls_off : CodeBlock → ℕ → Instr → Bool
falls_off b at x = falls x && nat_eq (suc at) (length b.instrs)

-- ---- 7: limits

abbrev pub no_cost : Cost
no_cost = record { need = 0; count = 0 }

abbrev pub cost_at : List Cost → ℕ → Cost
cost_at costs n = elim (slice_get costs n) [ None ↦ no_cost | Some c ↦ c ]

-- of the fun that an instruction applies
abbrev pub applied : List Cost → Instr → Cost
applied costs (i.Apply f) = cost_at costs f
applied costs _ = no_cost

-- the greatest number of words on the stack behind one of these instructions
abbrev pub greatest_depth : Code → CodeBlock → List Passed → ℕ
greatest_depth code b [] = 0
greatest_depth code b (p ∷ done) = max (length (after code b p).shape) (greatest_depth code b done)

abbrev pub greatest_need : List Cost → List Passed → ℕ
greatest_need costs [] = 0
greatest_need costs (p ∷ done) = max (applied costs p.instr).need (greatest_need costs done)

abbrev pub count_of : List Cost → List Passed → ℕ
count_of costs [] = 0
count_of costs (p ∷ done) = 1 + (applied costs p.instr).count + count_of costs done

-- what these instructions of a fun or merge cost
abbrev pub cost_of : Code → List Cost → CodeBlock → List Passed → Cost
cost_of code costs b done = record {
  need = length b.locals + greatest_depth code b done + greatest_need costs done;
  count = count_of costs done;
}

abbrev pub most_words : ℕ
most_words = 4096

abbrev pub most_need : ℕ
most_need = 65536

abbrev pub most_count : ℕ
most_count = 262144

abbrev pub costs_too_much : Cost → Bool
costs_too_much c = nat_lt most_need c.need || nat_lt most_count c.count

-- with the instruction that was passed last
abbrev pub over_limit : Code → List Cost → CodeBlock → List Passed → Passed → Bool
over_limit code costs b done p =
    if is_value_class b.class then costs_too_much (cost_of code costs b (p ∷ done))
    else nat_lt most_words (length (after code b p).shape)

-- ---- the first rule that is broken

abbrev pub broken_on_arrival : Code → List Cost → CodeBlock → List Passed → Passed → Option Rule
broken_on_arrival code costs b done p =
    if bad_shape code b done p then Some rule.StackShape else
    if wrong_kind code b p then Some rule.WrongKind else
    if bad_local b p.instr then Some rule.BadLocal else
    if falls_off b (length done) p.instr then Some rule.FallsOff else
    if over_limit code costs b done p then Some rule.LimitOf else None

-- where shapes differ on arrival, that is the fault
abbrev pub broken_with : Code → List Cost → CodeBlock → List Passed → Instr → Option Note → Option Rule
broken_with code costs b done x None = Some rule.StackShape
broken_with code costs b done x (Some n) = broken_on_arrival code costs b done (record { instr = x; note = n })

abbrev pub broken : Code → List Cost → ℕ → CodeBlock → List Passed → Instr → Option Note → Option Rule
broken code costs n b done x arrived =
    if bad_jump b (length done) (target x) then Some rule.BadJump else
    if bad_operand code n b x then Some rule.BadOperand else
    broken_with code costs b done x arrived

-- ---- the pass

abbrev pub known : Option Note → Note
known None = entry
known (Some n) = n

-- the instruction behind these, with what is known on arrival
abbrev pub passed : Code → CodeBlock → List Passed → Instr → Passed
passed code b done x = record { instr = x; note = known (arrival code b done) }

abbrev pub or_fault : {A : Type 0} → ℕ → Option Rule → Result A (ℕ × Rule) → Result A (ℕ × Rule)
or_fault at None rest = rest
or_fault at (Some r) rest = Err (at, r)

-- what a block costs: what is no fun or merge costs nothing
abbrev pub block_cost : Code → List Cost → CodeBlock → List Passed → Cost
block_cost code costs b done = if is_value_class b.class then cost_of code costs b done else no_cost

-- the first of these instructions that breaks a rule, behind those passed; or what the block costs
abbrev pub scan : Code → List Cost → ℕ → CodeBlock → List Passed → List Instr → Result Cost (ℕ × Rule)
scan code costs n b done [] = Ok (block_cost code costs b done)
scan code costs n b done (x ∷ xs) =
    or_fault (length done) (broken code costs n b done x (arrival code b done))
    (scan code costs n b (passed code b done x ∷ done) xs)

-- of block n
abbrev pub block_fault : Code → List Cost → ℕ → CodeBlock → Result Cost (ℕ × Rule)
block_fault code costs n b =
    if nat_eq (length b.instrs) 0 then Err (0, rule.FallsOff) else scan code costs n b [] b.instrs

abbrev pub fault_or : ℕ → Result Cost (ℕ × Rule) → (Cost → Option Fault) → Option Fault
fault_or n (Ok cost) rest = rest cost
fault_or n (Err f) rest = Some (record { block = n; at = f.0; rule = f.1 })

-- the first fault of these blocks, of which the first has this number, behind blocks of these costs
abbrev pub blocks_fault : Code → List Cost → ℕ → List CodeBlock → Option Fault
blocks_fault code costs n [] = None
blocks_fault code costs n (b ∷ bs) =
    fault_or n (block_fault code costs n b) (λ cost. blocks_fault code (costs ++ cost ∷ []) (suc n) bs)

-- ---- the instructions passed up to a place

abbrev pub gone : Code → CodeBlock → List Passed → List Instr → List Passed
gone code b done [] = done
gone code b done (x ∷ xs) = gone code b (passed code b done x ∷ done) xs

-- the last first
abbrev pub before : Code → CodeBlock → (at : ℕ) → List Passed
before code b at = gone code b [] (take at b.instrs)
