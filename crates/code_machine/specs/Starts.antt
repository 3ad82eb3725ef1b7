-- What holds from each start: of all verified code, input, share and fuel.
use Rattle.std.specs.Prelude.{ℕ}
use Rattle.rev_num.specs.Path.{Path}
use Rattle.code_machine.specs.Local.{CodeRun, IsVerified, Local}
use Rattle.code_machine.specs.Machines.{IsMain, start_in}

-- of `main` with this fuel, where handles are these
abbrev pub FromEachStart : (H : Type 0) → (CodeRun → (fuel : ℕ) → Local H → Type 0) → Type 0
FromEachStart H Law =
    (g : CodeRun) → IsVerified g → (n : ℕ) (m : IsMain g n) (fuel : ℕ)
    → Law g fuel (start_in g n m.body fuel)

-- of `main` by paths and by numbers
abbrev pub FromBothStarts : (CodeRun → Local Path → Local ℕ → Type 0) → Type 0
FromBothStarts Law =
    (g : CodeRun) → IsVerified g → (n : ℕ) (m : IsMain g n) (fuel : ℕ)
    → Law g (start_in g n m.body fuel) (start_in g n m.body fuel)
