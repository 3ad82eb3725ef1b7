-- What the instructions of a block cost, kept as three numbers.
use Rattle.std.specs.Prelude.{◌≡◌, ℕ, ◌+◌, ◌*◌, ◌<◌, ◌≤◌, ◌^◌, max, Bool, true, false, ◌||◌, if◌then◌else◌, List, length, Some, slice_get, nat_lt}
use Rattle.rev_code.specs.declared.code.Code.{Code}
use Rattle.rev_code.specs.declared.code.CodeBlock.{CodeBlock}
use Rattle.code_rules.specs.declared.Cost.{Cost}
use Rattle.code_rules.specs.Pass.{Passed, greatest_depth, greatest_need, count_of, cost_of, costs_too_much, is_value_class, most_need, most_count, most_words}
use Rattle.code_verifier.specs.declared.spent.Spent.{Spent}

abbrev pub spend : Spent → ℕ → Cost → Spent
spend s depth cost = record { depth = max depth s.depth; need = max cost.need s.need; count = 1 + cost.count + s.count }

abbrev pub is_over : CodeBlock → Spent → ℕ → Bool
is_over b s depth =
    if is_value_class b.class then nat_lt most_need (length b.locals + s.depth + s.need) || nat_lt most_count s.count
    else nat_lt most_words depth

abbrev pub IsCheap : Cost → Type 0
IsCheap c = (c.need ≤ most_need) × (c.count ≤ most_count)

-- no fun costs more than the limits
abbrev pub AllCheap : List Cost → Type 0
AllCheap costs = (n : ℕ) (c : Cost) → slice_get costs n ≡ Some c → IsCheap c

pub record IsSpent (code : Code) (costs : List Cost) (b : CodeBlock) (done : List Passed) (s : Spent) : Type 0 where
  pub depth : s.depth ≡ greatest_depth code b done
  pub need : s.need ≡ greatest_need costs done
  pub count : s.count ≡ count_of costs done
  pub small_depth : s.depth < 2 ^ 63
  pub small_need : s.need ≤ most_need
  pub small_count : s.count ≤ length done * 262145
  pub cheap : is_value_class b.class ≡ true → costs_too_much (cost_of code costs b done) ≡ false
