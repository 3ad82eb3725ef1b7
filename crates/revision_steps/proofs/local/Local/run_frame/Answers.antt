-- Answers of Local::run_frame: the statement taken is the next of the frames, and paying for it begins the step.
use Rattle.std.proofs.Common.{◌∙◌, sym, ap, Option, option_map, option_copied}
use Rattle.std.specs.Borrow.{Bor}
use Rattle.std.proofs.lemmas.Result.{IfOk-weaker}
use Rattle.rev_syntax.specs.View.{stmt}
use Rattle.rev_syntax.specs.declared.tree.Stmt.{Stmt}
use Rattle.revision_state.specs.Views.{given}
use Rattle.revision_steps.proofs.Steps.{with_statement, begins}
use Rattle.revision_steps.proofs.local.Local.run_frame.Goals as goal

pub returns-in-Some : goal.returns-in-Some
returns-in-Some c =
    let e = c.in_ok-take.ensures
    ∙ ap (λ (o : Option (Bor Stmt)). with_statement (option_map stmt (option_copied o)) c.take.new.self) c.in-Some.is in
    IfOk-weaker c.pay.result _ _
    (λ n h. h
    ∙ sym (begins (given c.args.setting.now) c.args.path.now c.args.self.now c.take.new.self (stmt c.in-Some.this.now) e
    c.requires.some))
    c.pay.ensures
