-- The statuses of the program, each of which stands once, as a constant of the code.
use Rattle.std.specs.Prelude.{ℕ}
use Rattle.rev_report.specs.declared.status.TheConstants.{DONE, TRAPPED, REFUSED, TWICE, USAGE, READ_FAULT, WRITE_FAULT, NO_MEMORY}

abbrev pub done_status : ℕ
done_status = DONE

abbrev pub trapped_status : ℕ
trapped_status = TRAPPED

abbrev pub refused_status : ℕ
refused_status = REFUSED

abbrev pub twice_status : ℕ
twice_status = TWICE

abbrev pub usage_status : ℕ
usage_status = USAGE

abbrev pub read_fault_status : ℕ
read_fault_status = READ_FAULT

abbrev pub write_fault_status : ℕ
write_fault_status = WRITE_FAULT

abbrev pub no_memory_status : ℕ
no_memory_status = NO_MEMORY
