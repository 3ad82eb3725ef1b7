-- How the logic tells locations apart: a code for each, and locations with equal codes are equal.
use Rattle.std.specs.Prelude.{Option, refl}
use Rattle.std.specs.Coded.{Coded, code_by, coded×, coded_option}
use Rattle.rev_num.specs.declared.value.Value.{Value}
use Rattle.rev_num.specs.contracts.value.Value as value
use Rattle.revision_calculus.specs.State.{Location}

abbrev pub coded_location : Coded Location
coded_location =
    code_by (Value × Option Value) (coded× value.the_row.coded (coded_option value.the_row.coded))
    (λ m. (m.base, m.written)) (λ p. record { base = p.0; written = p.1 }) (λ _. refl)
