-- Answers of affine_programs: each program keeps the rule by computation, and the third one the typing rules too.
use Rattle.std.proofs.Common.{refl, arith}
use Rattle.affine_check.specs.Examples as x
use Rattle.affine_check.proofs.Places.{affine_by}
use Rattle.affine_check.proofs.examples.affine_programs.Goals as goal

pub returns : goal.returns
returns c = record {
  once = affine_by x.joins_once refl;
  either = affine_by x.joins_in_either refl;
  by_return = affine_by x.returns_after_join refl;
  anew = affine_by x.joins_anew refl;
  typed = record { small = record { few = omega arith; declarations = refl; main = refl }; funs = refl; rules = refl };
}
