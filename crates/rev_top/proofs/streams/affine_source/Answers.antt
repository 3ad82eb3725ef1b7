-- Answers of affine_source: a source that fails or is too long leaves with that, and the text that was read is tried.
use Rattle.std.proofs.Common.{Vec, Global, ℕ, List, subst}
use Rattle.std.specs.Prelude.{Some}
use Rattle.rev_syntax.specs.View.{program as whole}
use Rattle.typed_programs.specs.declared.typed.Typed.{Typed}
use Rattle.mode_reports.specs.Affine.{ReadsAffine}
use Rattle.mode_reports.specs.Answer.{Given}
use Rattle.mode_reports.specs.declared.sizes.TheConstants.{SOURCE_LIMIT as source_limit}
use Rattle.mode_reports.specs.Stops.{Meets}
use Rattle.mode_reports.proofs.Stages.{goes_on, leaves}
use Rattle.rev_top.proofs.streams.affine_source.Goals as goal

pub returns-in_err-text-clause-meets : goal.returns-in_err-text-clause-meets
returns-in_err-text-clause-meets g c =
    leaves (Given (Some source_limit) _ _) ReadsAffine (λ (v : Vec ℕ Global). v.items)
    (λ (t : Typed). whole t.expanded.program)
    _ c.in_err-text.field-0.0 c.from_residual.ensures.1 c.in_err-text.ensures.meets

pub returns-clause-meets : goal.returns-clause-meets
returns-clause-meets g c =
    goes_on (Given (Some source_limit) _ _) ReadsAffine (λ (t : Typed). whole t.expanded.program)
    c.in_ok-text.text.items c.affine_text.result c.in_ok-text.ensures.meets
    (subst
    (λ (bytes : List ℕ). Meets (λ (t : Typed). whole t.expanded.program) c.affine_text.result (ReadsAffine bytes))
    c.as_slice.ensures.value c.affine_text.ensures)
