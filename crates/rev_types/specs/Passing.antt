-- What a contract sees of what declarations declare.
use Rattle.rev_types.specs.declared.passed.Passed as held
use Rattle.typed_programs.specs.Program.{Passed}

abbrev pub passed_of : held.Passed → Passed
passed_of p = record {
  number = p.number;
  names = p.names;
  merges = p.merges;
  merge_count = p.merge_count;
  weights = p.weights;
  located = p.located;
  procs_left = p.procs_left;
  funs_left = p.funs_left;
}
