-- No instruction has a code byte above 37.
use Rattle.std.proofs.Common.{◌≡◌, ◌∙◌, ℕ, ◌≤◌, Bool, false, cond, Some, None, ap, arith, slice_get, nat_eq}
use Rattle.std.proofs.lemmas.Grind.{common_steps}
use Rattle.code_file.specs.Parts.{Plain, operand_of, operands}
use Rattle.rev_code.specs.declared.code.Instr.TheVariants as i
use Rattle.std.proofs.lemmas.Option.{slice_get_past}

not_last : (n : ℕ) → 38 ≤ n → nat_eq n 37 ≡ false
not_last n h = grind (arith, common_steps)

pub beyond : (tries' : Bool) (n : ℕ) → 38 ≤ n → operand_of tries' n ≡ None
beyond tries' n h =
    ap (λ b. cond b (cond tries' (Some (Plain i.TryJoin)) None) (slice_get operands n)) (not_last n h)
    ∙ slice_get_past operands n (let e : 37 ≤ n = omega arith in e)
