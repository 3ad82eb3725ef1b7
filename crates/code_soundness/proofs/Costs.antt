-- What the pass answers for a block that it accepts: what its instructions cost.
use Rattle.std.proofs.Common.{◌≡◌, ℕ, Bool, true, false, List, [], ◌∷◌, length, refl}
use Rattle.std.specs.Prelude.{nat_eq, if◌then◌else◌, Result, Ok, Err}
use Rattle.rev_code.specs.declared.code.Code.{Code}
use Rattle.rev_code.specs.declared.code.CodeBlock.{CodeBlock}
use Rattle.rev_code.specs.declared.code.Instr.{Instr}
use Rattle.code_rules.specs.declared.Cost.{Cost}
use Rattle.code_rules.specs.declared.Rule.{Rule}
use Rattle.code_rules.specs.declared.Rule.TheVariants as rule
use Rattle.code_rules.specs.Pass.{Passed, arrival, block_cost, block_fault, broken, gone, passed, scan}
use Rattle.code_soundness.proofs.Accepted.{or_none}

pub ok_eq : (r : Result Cost (ℕ × Rule)) (x y : Cost) → r ≡ Ok x → r ≡ Ok y → x ≡ y
ok_eq r x y h g = cc

module _ (code : Code) (costs : List Cost) (n : ℕ) (b : CodeBlock) where
  scan_cost : (xs : List Instr) (done : List Passed) (c : Cost) → scan code costs n b done xs ≡ Ok c
      → c ≡ block_cost code costs b (gone code b done xs)
  scan_cost [] done c h = ok_eq (Ok (block_cost code costs b done)) c (block_cost code costs b done) h refl
  scan_cost (x ∷ xs) done c h =
      scan_cost xs (passed code b done x ∷ done) c
      (or_none (length done) (broken code costs n b done x (arrival code b done))
      (scan code costs n b (passed code b done x ∷ done) xs) c h).1

  pub block_costs : (c : Cost) → block_fault code costs n b ≡ Ok c
      → c ≡ block_cost code costs b (gone code b [] b.instrs)
  block_costs c h = by (nat_eq (length b.instrs) 0) h
    where
      by : (d : Bool) → (if d then Err (0, rule.FallsOff) else scan code costs n b [] b.instrs) ≡ Ok c
          → c ≡ block_cost code costs b (gone code b [] b.instrs)
      by true g = absurd (let z : Err (0, rule.FallsOff) ≡ Ok c = g in cc)
      by false g = scan_cost b.instrs [] c g
