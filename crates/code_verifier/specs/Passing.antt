-- The pass, with what the verifier keeps.
use Rattle.std.specs.Prelude.{◌≡◌, ℕ, suc, ◌+◌, ◌<◌, ◌≤◌, ◌^◌, Bool, false, ◌&&◌, ◌||◌, not, nat_lt, replicate, if◌then◌else◌, [], ◌∷◌, length, Option, Some, None, Result}
use Rattle.rev_code.specs.declared.code.Instr.{Instr}
use Rattle.rev_code.specs.declared.code.CodeBlock.{CodeBlock}
use Rattle.code_rules.specs.declared.Cost.{Cost}
use Rattle.code_rules.specs.declared.Rule.{Rule}
use Rattle.code_rules.specs.declared.Rule.TheVariants as rule
use Rattle.code_rules.specs.Pass.{before, broken, arrival, bad_jump, bad_operand, target, is_bare, is_paid_for, is_value_class, no_cost, block_fault}
use Rattle.code_verifier.specs.declared.mark.Mark.{Mark}
use Rattle.code_verifier.specs.declared.spent.Spent.{Spent}
use Rattle.code_verifier.specs.declared.pass.Scope.{Scope}
use Rattle.code_verifier.specs.declared.pass.Known.{Known}
use Rattle.code_verifier.specs.Marking.{Marks, Stands}
use Rattle.code_verifier.specs.Spending.{AllCheap, IsSpent}

abbrev pub rule_of : (shape kind local off limit : Bool) → Option Rule
rule_of shape kind local off limit =
    if shape then Some rule.StackShape else
    if kind then Some rule.WrongKind else
    if local then Some rule.BadLocal else
    if off then Some rule.FallsOff else
    if limit then Some rule.LimitOf else None

abbrev pub shape_faulty : (words wanted : ℕ) → (paid clash : Bool) → Instr → Bool
shape_faulty words wanted paid clash x =
    nat_lt words wanted || (is_bare x && nat_lt wanted words) || (is_paid_for x && not paid) || clash

-- what is known before the first of so many instructions
pub record IsFirst (count : ℕ) (k : Known) : Type 0 where
  pub shapes : k.shapes ≡ [] ∷ []
  pub ahead : k.ahead.items ≡ replicate count None
  pub last : k.last ≡ None
  pub depth : k.spent.depth ≡ 0
  pub need : k.spent.need ≡ 0
  pub count' : k.spent.count ≡ 0

abbrev pub spent_cost : CodeBlock → Spent → Cost
spent_cost b s = if is_value_class b.class then record { need = length b.locals + s.depth + s.need; count = s.count }
    else no_cost

-- of the block
abbrev pub verdict_of : Scope → Result Cost (ℕ × Rule)
verdict_of s = block_fault s.code.now s.costs.now s.number s.block.now

-- what is known at a place, where no instruction before it breaks a rule
pub record IsReady (s : Scope) (at : ℕ) (k : Known) : Type 0 where
  pub count : length (before s.code.now s.block.now at) ≡ at
  pub stands : Stands s.code.now s.block.now (before s.code.now s.block.now at) k.shapes k.ahead.items k.last
  pub spent : IsSpent s.code.now s.costs.now s.block.now (before s.code.now s.block.now at) k.spent
  pub cheap : AllCheap s.costs.now
  pub locals : length s.block.now.locals ≤ 64
  pub instrs : length s.block.now.instrs < 2 ^ 32

pub record Arrived (s : Scope) (at : ℕ) (x : Instr) (k : Known) (m : Mark) : Type 0 where
  pub mark : Marks k.shapes (Some m) (arrival s.code.now s.block.now (before s.code.now s.block.now at))
  pub jump : bad_jump s.block.now at (target x) ≡ false
  pub operand : bad_operand s.code.now s.number s.block.now x ≡ false

-- the first rule that the instruction breaks; where it breaks none, what is known at the next place
abbrev pub IsStep : Scope → ℕ → Instr → Known → Option Rule → Type 0
IsStep s at x k (Some r) = broken s.code.now s.costs.now s.number s.block.now (before s.code.now s.block.now at) x
    (arrival s.code.now s.block.now (before s.code.now s.block.now at)) ≡ Some r
IsStep s at x k None =
    (broken s.code.now s.costs.now s.number s.block.now (before s.code.now s.block.now at) x
    (arrival s.code.now s.block.now (before s.code.now s.block.now at)) ≡ None)
    × IsReady s (suc at) k
