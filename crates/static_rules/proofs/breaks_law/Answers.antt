-- Answers of breaks_law: eight lemmas tie the checker's lists of faults to the relation of what is broken.
use Rattle.static_rules.proofs.Fronts.{decided, has_one, same_first, typed_where_none}
use Rattle.static_rules.proofs.FunFaults.{same_funs, same_first_fun, funs_kept}
use Rattle.static_rules.proofs.Whole.{same}
use Rattle.static_rules.proofs.breaks_law.Goals as goal

pub returns : goal.returns
returns c = record {
  same = same;
  first = same_first;
  funs = same_funs;
  first_fun = same_first_fun;
  kept = funs_kept;
  decided = decided;
  none = typed_where_none;
  outcome = has_one;
}
