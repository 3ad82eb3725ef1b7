-- When an instruction breaks a rule, in the words of the rules: by the ways that lead to it and by the
-- instructions up to it, and not by what a pass has noted.
--   BreaksShape   the rule on shapes: each constructor is a kind of fault
--   IsDeepest     the greatest number of words on the stack behind the instructions up to a place
--   Breaks        an instruction breaks a rule
use Rattle.std.specs.Prelude.{ℕ, ◌≡◌, ◌≢◌, ◌+◌, ◌<◌, ◌≤◌, max, Bool, true, false, List, [], ◌∷◌, length, take, Some, slice_get, suc}
use Rattle.rev_code.specs.declared.code.Code.{Code}
use Rattle.rev_code.specs.declared.code.CodeBlock.{CodeBlock}
use Rattle.rev_code.specs.declared.code.Instr.{Instr}
use Rattle.code_rules.specs.declared.Cost.{Cost}
use Rattle.code_rules.specs.declared.Rule.{Rule}
use Rattle.code_rules.specs.declared.Rule.TheVariants as rule
use Rattle.code_rules.specs.Shapes.{Shape, takes, begins, shape_after}
use Rattle.code_rules.specs.Pass.{target, is_bare, is_paid_for, is_value_class, bad_jump, bad_operand, bad_local, falls_off, applied, costs_too_much, most_words}
use Rattle.code_ways.specs.Ways.{Arrives, Way}

-- ---- shapes

-- an earlier jump to a place, and the shape that arrives at that jump
pub record IsEarlierJump (code : Code) (b : CodeBlock) (at to : ℕ) : Type 0 where
  pub from : ℕ
  pub earlier : from < at
  pub instr : Instr
  pub is : slice_get b.instrs from ≡ Some instr
  pub jumps : target instr ≡ Some to
  pub shape : Shape
  pub arrives : Arrives code b from shape

pub data BreaksShape (code : Code) (b : CodeBlock) (at : ℕ) (x : Instr) : Type 0 where
  -- two ways bring different shapes
  differ : (s t : Shape) → Arrives code b at s → Arrives code b at t → s ≢ t → BreaksShape code b at x
  too_few : (s : Shape) → Arrives code b at s → length s < length (takes code b s x)
      → BreaksShape code b at x
  too_many : (s : Shape) → Arrives code b at s → is_bare x ≡ true → length (takes code b s x) < length s
      → BreaksShape code b at x
  -- a way to a Call or Fork has not paid
  unpaid : is_paid_for x ≡ true → Way b at false → BreaksShape code b at x
  -- an earlier jump to the same target brings another shape
  clash : (s : Shape) → Arrives code b at s → (to : ℕ) → target x ≡ Some to → at < to
      → (j : IsEarlierJump code b at to) → shape_after code b s x ≢ shape_after code b j.shape j.instr
      → BreaksShape code b at x
  -- a jump that does not lead on brings words
  back : (s : Shape) → Arrives code b at s → (to : ℕ) → target x ≡ Some to → to ≤ at
      → shape_after code b s x ≢ [] → BreaksShape code b at x

-- ---- limits

-- behind an instruction up to a place the stack has so many words
pub record IsDepth (code : Code) (b : CodeBlock) (upto depth : ℕ) : Type 0 where
  pub at : ℕ
  pub within : at ≤ upto
  pub instr : Instr
  pub is : slice_get b.instrs at ≡ Some instr
  pub shape : Shape
  pub arrives : Arrives code b at shape
  pub words : depth ≡ length (shape_after code b shape instr)

pub record IsDeepest (code : Code) (b : CodeBlock) (upto depth : ℕ) : Type 0 where
  pub some : IsDepth code b upto depth
  pub most : (d : ℕ) → IsDepth code b upto d → d ≤ depth

-- the greatest need of a fun that these instructions apply
abbrev pub need_of_applied : List Cost → List Instr → ℕ
need_of_applied costs [] = 0
need_of_applied costs (x ∷ xs) = max (applied costs x).need (need_of_applied costs xs)

-- these instructions, and for each Apply the count of the fun
abbrev pub total_count : List Cost → List Instr → ℕ
total_count costs [] = 0
total_count costs (x ∷ xs) = 1 + (applied costs x).count + total_count costs xs

-- of a fun or merge up to a place, with the greatest depth up to there
abbrev pub cost_upto : List Cost → CodeBlock → (upto depth : ℕ) → Cost
cost_upto costs b upto depth = record {
  need = length b.locals + depth + need_of_applied costs (take (suc upto) b.instrs);
  count = total_count costs (take (suc upto) b.instrs);
}

abbrev pub BreaksLimit : (is_value : Bool) → Code → List Cost → CodeBlock → ℕ → Instr → Type 0
BreaksLimit true code costs b at x =
    (depth : ℕ) × IsDeepest code b at depth × (costs_too_much (cost_upto costs b at depth) ≡ true)
BreaksLimit false code costs b at x =
    (s : Shape) × Arrives code b at s × (most_words < length (shape_after code b s x))

-- ---- the rules

-- instruction `at` of block n, behind blocks of these costs
abbrev pub Breaks : Code → List Cost → ℕ → CodeBlock → ℕ → Instr → Rule → Type 0
Breaks code costs n b at x rule.BadJump = bad_jump b at (target x) ≡ true
Breaks code costs n b at x rule.BadOperand = bad_operand code n b x ≡ true
Breaks code costs n b at x rule.StackShape = BreaksShape code b at x
Breaks code costs n b at x rule.WrongKind =
    (s : Shape) × Arrives code b at s × (begins (takes code b s x) s ≡ false)
Breaks code costs n b at x rule.BadLocal = bad_local b x ≡ true
Breaks code costs n b at x rule.FallsOff = falls_off b at x ≡ true
Breaks code costs n b at x rule.LimitOf = BreaksLimit (is_value_class b.class) code costs b at x
