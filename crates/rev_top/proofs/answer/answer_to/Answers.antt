-- Answers of answer_to: a source that fails or is too long leaves so, and else the mode says its answer.
use Rattle.std.proofs.Common.{Vec, Global, ℕ, List, map, subst}
use Rattle.merge_kernels.specs.Terms.{definition}
use Rattle.rev_top.specs.Kernels.{HasChosenIn, text_of}
use Rattle.std.specs.Prelude.{IfOk}
use Rattle.rev_report.specs.Report.{output}
use Rattle.mode_reports.specs.Answer.{Given, SaysAs, reads_of}
use Rattle.rev_top.specs.Making.{said}
use Rattle.rev_top.specs.Rans.{Holds}
use Rattle.mode_reports.specs.Stops.{Meets}
use Rattle.rev_top.proofs.Kernels.{of_call}
use Rattle.rev_top.proofs.Rans.{leaves_by}
use Rattle.mode_reports.proofs.Stages.{goes_on, leaves}
use Rattle.rev_top.proofs.answer.answer_to.Goals as goal

pub returns-in_err-bytes-clause-meets : goal.returns-in_err-bytes-clause-meets
returns-in_err-bytes-clause-meets g c =
    leaves (Given (reads_of c.args.words.now.mode) _ _) (SaysAs c.args.words.now.mode c.args.words.now)
    (λ (v : Vec ℕ Global). v.items) said
    _ c.in_err-bytes.field-0.0 c.from_residual.ensures.1 c.in_err-bytes.ensures.meets

pub returns-clause-meets : goal.returns-clause-meets
returns-clause-meets g c =
    goes_on (Given (reads_of c.args.words.now.mode) _ _) (SaysAs c.args.words.now.mode c.args.words.now) said
    c.in_ok-bytes.bytes.items c.say.result c.in_ok-bytes.ensures.meets
    (subst (λ (t : List ℕ). Meets said c.say.result (SaysAs c.args.words.now.mode c.args.words.now t))
    c.as_slice.ensures.value c.say.ensures.says)

pub returns-clause-leaves : goal.returns-clause-leaves
returns-clause-leaves g c =
    leaves_by c.args.words.now _ _ c.in_ok-bytes.bytes.items c.in_ok-bytes.ensures.meets c.say.result
    (subst
    (λ (t : List ℕ). IfOk c.say.result (λ m. Holds c.args.words.now.mode c.args.words.now t m.ran (output m.report)))
    c.as_slice.ensures.value c.say.ensures.holds)

pub returns-clause-kernels : goal.returns-clause-kernels
returns-clause-kernels g c =
    of_call c.args.words.now _ _ (map (λ k. definition k.def) c.args.kernels.now) c.in_ok-bytes.bytes.items
    c.in_ok-bytes.ensures.meets c.say.result
    (subst
    (λ (t : List ℕ). IfOk c.say.result (λ m. HasChosenIn (text_of c.args.words.now.mode c.args.words.now t)
    (map (λ k. definition k.def) c.args.kernels.now) m.ran))
    c.as_slice.ensures.value c.say.ensures.kernels)
