-- Answers of program_laws: five lemmas, on typing, acceptance, the limits by themselves, and where variables lie.
use Rattle.typed_programs.proofs.Accepting.{well_typed, accepts}
use Rattle.typed_programs.proofs.DeclsFaults.{limits_alone}
use Rattle.typed_programs.proofs.Layouts.{laid_out}
use Rattle.rev_types.proofs.OwnLimits.{own_limits}
use Rattle.rev_types.proofs.laws.program_laws.Goals as goal

pub returns : goal.returns
returns c = record {
  typed = well_typed;
  accepts = accepts;
  limits_alone = limits_alone;
  own_limits = own_limits;
  laid_out = laid_out;
}
