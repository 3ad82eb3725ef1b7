-- Answers of decimal_laws: two lemmas give both directions of reading, and a third that what is written is read.
use Rattle.rev_num.proofs.Decimals.{decimal_in-is, is-decimal_in, decimal_in-signed_decimal}
use Rattle.rev_num.proofs.laws.decimal_laws.Goals as goal

pub returns-clause-exact : goal.returns-clause-exact
returns-clause-exact c = λ bytes n. (decimal_in-is bytes n, λ h. is-decimal_in bytes n h.0 h.1)

pub returns-clause-read_back : goal.returns-clause-read_back
returns-clause-read_back c = decimal_in-signed_decimal
