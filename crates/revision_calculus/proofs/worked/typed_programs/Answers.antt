-- Answers of typed_programs: each program is small, keeps the rules on funs and the other rules, all by computation.
use Rattle.std.proofs.Common.{refl, arith}
use Rattle.revision_calculus.proofs.worked.typed_programs.Goals as goal

pub returns : goal.returns
returns c = record {
  handle_travels =
      record { small = record { few = omega arith; declarations = refl; main = refl }; funs = refl; rules = refl };
  merges_fault =
      record { small = record { few = omega arith; declarations = refl; main = refl }; funs = refl; rules = refl };
  tries = record { small = record { few = omega arith; declarations = refl; main = refl }; funs = refl; rules = refl };
  returns = record {
    small = record { few = omega arith; declarations = refl; main = refl };
    funs = refl;
    rules = refl;
  };
  picks = record { small = record { few = omega arith; declarations = refl; main = refl }; funs = refl; rules = refl };
  adds_inputs =
      record { small = record { few = omega arith; declarations = refl; main = refl }; funs = refl; rules = refl };
}
