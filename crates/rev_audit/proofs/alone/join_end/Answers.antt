-- Answers of join_end: the end that is told makes the state with which the joiner settles as the calculus joins.
use Rattle.std.proofs.Common.{ap, length, ◌∙◌}
use Rattle.revision_machine.proofs.Splits.{one_ok}
use Rattle.revision_calculus.specs.Join.{join}
use Rattle.revision_state.specs.Views.{given}
use Rattle.rev_audit.specs.Alone.{told_state}
use Rattle.rev_audit.proofs.ToldEnds.{joins_told}
use Rattle.rev_audit.proofs.alone.join_end.Goals as goal

pub returns : goal.returns
returns c =
    let s = given c.args.setting.now in
    let r = c.args.path.now in
    let q = c.args.on.now in
    let l = c.args.local.now in
    let e = c.args.end.now in
    one_ok c.settle.result
    (λ h. joins_told s r q l e c.settle.new.self
    (h ∙ ap (join s r l q) (c.in_ok-ended.ensures ∙ ap (λ ms. told_state (length ms) e) c.locations.ensures)))
    c.settle.ensures
