-- Answers of row_laws: each row, with the command unfolded, is read or refused by computation.
use Rattle.std.proofs.Common.{refl}
use Rattle.clap.proofs.OnLiterals.{clap_on_literals}
use Rattle.rev_words.specs.Command.{command}
use Rattle.rev_words.proofs.laws.row_laws.Goals as goal

pub returns-clause-read : goal.returns-clause-read
unfolding clap_on_literals command
returns-clause-read c = record {
  alone = refl;
  attached = refl;
  plus = refl;
  between_numbers = refl;
  schedule = refl;
  empty_schedule = refl;
  check = refl;
  load = refl;
  dis = refl;
  exec = refl;
  emit = refl;
  trace = refl;
  audit = refl;
  replay = refl;
  replay_of_nothing = refl;
  replay_by_default = refl;
  greatest_entry = refl;
  order = refl;
  stream = refl;
  repeat = refl;
  repeat_by_default = refl;
  repeat_of_nothing = refl;
  negative_before = refl;
}

pub returns-clause-usage : goal.returns-clause-usage
unfolding clap_on_literals command
returns-clause-usage c = record {
  no_words = refl;
  other_mode = refl;
  capital = refl;
  no_size = refl;
  no_workers = refl;
  many_workers = refl;
  many_segments = refl;
  no_number = refl;
  no_value = refl;
  flag_twice = refl;
  help = refl;
  minus = refl;
  plus_number = refl;
  empty_entry = refl;
  signed_entry = refl;
  large_entry = refl;
  empty_before = refl;
  plus_before = refl;
  minus_before = refl;
  large_before = refl;
  blank_before = refl;
  two_schedules = refl;
}
