-- Answers of other_programs: each program is well typed by computation, and its first break is the one computed.
use Rattle.std.proofs.Common.{refl, arith}
use Rattle.affine_check.specs.Examples as x
use Rattle.affine_check.proofs.ExampleProofs.{refused}
use Rattle.affine_check.proofs.examples.other_programs.Goals as goal

pub returns : goal.returns
returns c = record {
  joins = refused x.joins_twice
      (record { small = record { few = omega arith; declarations = refl; main = refl }; funs = refl; rules = refl });
  tries = refused x.tries_twice
      (record { small = record { few = omega arith; declarations = refl; main = refl }; funs = refl; rules = refl });
  passes = refused x.passes_and_joins
      (record { small = record { few = omega arith; declarations = refl; main = refl }; funs = refl; rules = refl });
  in_turns = refused x.joins_in_loop
      (record { small = record { few = omega arith; declarations = refl; main = refl }; funs = refl; rules = refl });
  renews = refused x.renews_in_loop
      (record { small = record { few = omega arith; declarations = refl; main = refl }; funs = refl; rules = refl });
  copies = refused x.copies
      (record { small = record { few = omega arith; declarations = refl; main = refl }; funs = refl; rules = refl });
  picks = refused x.picks
      (record { small = record { few = omega arith; declarations = refl; main = refl }; funs = refl; rules = refl });
  stores = refused x.stores
      (record { small = record { few = omega arith; declarations = refl; main = refl }; funs = refl; rules = refl });
}
