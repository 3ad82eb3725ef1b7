-- What the loops over the instructions of a block share: room, locations and registers from turn to turn.
use Rattle.std.proofs.Common.{◌≡◌, ◌≢◌, ◌∙◌, ℕ, length, sym, ap, refl, arith, subst, ◌+◌, ◌≤◌}
use Rattle.rev_code.specs.declared.code.Code.{Code}
use Rattle.rev_code.specs.declared.code.CodeBlock.{CodeBlock}
use Rattle.code_soundness.specs.AcceptedCode.{notes_of}
use Rattle.block_run.specs.declared.registers.Act.{Act}
use Rattle.block_run.specs.declared.registers.Act.TheVariants as act
use Rattle.block_run.specs.declared.registers.Registers.{Registers}
use Rattle.block_run.specs.declared.registers.Stop.TheVariants as stop
use Rattle.block_run.specs.Area.{low}
use Rattle.block_run.specs.Standing.{IsRoomy}
use Rattle.block_run.specs.Stops.{stop_of}

pub roomy_still : (code : Code) (b : CodeBlock) (r r' : Registers) (n n' : ℕ) → IsRoomy code b r n → r'.block ≡ r.block
    → r'.base ≡ r.base → n' ≡ n → IsRoomy code b r' n'
roomy_still code b r r' n n' h d e f at k =
    let g = subst (λ m. low b r + length (notes_of code m at).shape ≤ n) (sym d) (h at k) in omega (arith, g, e, f)

pub few_locations : (size size' most few : ℕ) → size' ≡ size → size ≡ most → few ≤ most → few ≤ size'
few_locations size size' most few e f h = omega (arith, e, f, h)

pub not_goes : (a : Act) → a ≢ act.Goes → stop_of a ≢ stop.Goes
not_goes act.Goes other = absurd (other refl)
not_goes (act.Traps f) other = λ e. absurd cc
not_goes act.Leaves other = λ e. absurd cc

-- the loop leaves the block and the base as they were
pub same_registers : (r r' : Registers) → r'.block ≡ r.block → r'.base ≡ r.base
    → r' ≡ record r { at = r'.at; top = r'.top; fuel = r'.fuel; line = r'.line }
same_registers r r' e f =
    ap (λ n. record { block = n; at = r'.at; base = r'.base; top = r'.top; fuel = r'.fuel; line = r'.line }) e
    ∙ ap (λ n. record { block = r.block; at = r'.at; base = n; top = r'.top; fuel = r'.fuel; line = r'.line }) f
