-- Answers of Known::step: what is met on arrival is the mark of the definition, so the same rule is the first broken.
use Rattle.std.proofs.Common.{◌∙◌, sym, ap, subst}
use Rattle.code_rules.specs.Pass.{arrival, before, bad_jump}
use Rattle.code_verifier.specs.Marking.{Marks}
use Rattle.code_verifier.proofs.Passes.{ahead_at, arrives, shapes_differ}
use Rattle.code_verifier.proofs.pass.Known.step.Goals as goal

pub pass-requires-clause-arrived : goal.pass-requires-clause-arrived
pass-requires-clause-arrived c = record {
  mark =
      subst (λ o.
      Marks c.args.self.now.shapes o
      (arrival c.args.scope.now.code.now c.args.scope.now.block.now
      (before c.args.scope.now.code.now c.args.scope.now.block.now c.args.at)))
      (sym c.meet-arrived.ensures ∙ c.in-Some.is)
      (arrives c.args.scope.now c.args.at c.args.x c.args.self.now c.requires.ready c.requires.here c.index.result.now
      (ahead_at c.args.scope.now c.args.at c.args.x c.args.self.now c.requires.ready c.requires.here c.index.result.now
      c.index.ensures));
  jump = ap (bad_jump c.args.scope.now.block.now c.args.at) (sym c.target.ensures) ∙ sym c.bad_jump.ensures
      ∙ c.if-bad_jump.false;
  operand = sym c.bad_operand.ensures ∙ c.if-bad_operand.false;
}

pub returns-in-None : goal.returns-in-None
returns-in-None c =
    shapes_differ c.args.scope.now c.args.at c.args.x c.args.self.now c.requires.ready c.requires.here
    (ap (bad_jump c.args.scope.now.block.now c.args.at) (sym c.target.ensures) ∙ sym c.bad_jump.ensures
    ∙ c.if-bad_jump.false)
    (sym c.bad_operand.ensures ∙ c.if-bad_operand.false)
    c.index.result.now
    (ahead_at c.args.scope.now c.args.at c.args.x c.args.self.now c.requires.ready c.requires.here c.index.result.now
    c.index.ensures)
    (sym c.meet-arrived.ensures ∙ c.in-None.is)
