-- Whether a line is that of a write.
use Rattle.std.proofs.Common.{ℕ, List, ◌++◌, refl, arith}
use Rattle.std.specs.Prelude.{codes}
use Rattle.rev_num.specs.declared.value.Value.{Value}
use Rattle.trace_diagram.specs.Cuts.{IsWithout}
use Rattle.trace_diagram.specs.Lines.{FitsChange, FitsValue, change_text, value_text}
use Rattle.trace_diagram.specs.Places.{IsPlace}
use Rattle.trace_diagram.proofs.ChangeForms.{space, value_without}
use Rattle.trace_diagram.proofs.PlaceForms.{place_without}
use Rattle.program_texts.proofs.Deciding.{Reader, read_behind}
use Rattle.program_texts.proofs.Pairing.{FitBoth, read_as, read_cut, text_of_both}
use Rattle.program_texts.proofs.PlaceNames.{place_text, read_place}
use Rattle.program_texts.proofs.Values.{read_value}

abbrev root_text : Value → List ℕ
root_text root = codes "root " ++ value_text root

abbrev FitsValues : Value × Value → Type 0
FitsValues = FitBoth FitsValue FitsValue

abbrev values_text : Value × Value → List ℕ
values_text = text_of_both value_text 32 root_text

abbrev FitsWrite : List ℕ × (Value × Value) → Type 0
FitsWrite = FitBoth IsPlace FitsValues

abbrev write_text : List ℕ × (Value × Value) → List ℕ
write_text = text_of_both place_text 32 values_text

read_values : Reader FitsValues values_text
read_values =
    read_cut FitsValue value_text 32 FitsValue root_text (value_without 32 space) read_value
    (read_behind FitsValue value_text (codes "root ") read_value)

place_space : (place : List ℕ) → IsPlace place → IsWithout 32 place
place_space place h = place_without 32 refl (λ e. omega arith) (λ e. omega arith) place h

read_write : Reader FitsWrite write_text
read_write = read_cut IsPlace place_text 32 FitsValues values_text place_space read_place read_values

pub read_change : Reader FitsChange change_text
read_change = read_as FitsWrite (λ x. codes "write " ++ write_text x) FitsChange change_text (record {
  to = λ x. record { place = x.0; value = x.1.0; root = x.1.1 };
  from = λ c. (c.place, (c.value, c.root));
  to_suits = λ x fit. record { place = fit.0; value = fit.1.0; root = fit.1.1 };
  to_text = λ x. refl;
  from_fits = λ c fit. (fit.place, (fit.value, fit.root));
  from_text = λ c. refl;
}) (read_behind FitsWrite write_text (codes "write ") read_write)
