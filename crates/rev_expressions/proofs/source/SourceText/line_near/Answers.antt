-- Answers of Source::line_near: behind so many feeds stands the line of the next number, and they are few.
use Rattle.std.proofs.Common.{◌∙◌, arith}
use Rattle.rev_expressions.proofs.Feeds.{few_before, line_by_edge}
use Rattle.rev_expressions.proofs.source.SourceText.line_near.Goals as goal

pub overflow_cast-result : goal.overflow_cast-result
overflow_cast-result c =
    omega (
      arith,
      few_before c.args.at c.args.self.now.bytes.now c.deref.result.now c.in-Some.before
          (c.deref.ensures.value ∙ c.args.self.now.fed) c.in-Some.ensures c.args.self.now.small,
    )

pub overflow_add-result : goal.overflow_add-result
overflow_add-result c =
    omega (
      arith,
      few_before c.args.at c.args.self.now.bytes.now c.deref.result.now c.in-Some.before
          (c.deref.ensures.value ∙ c.args.self.now.fed) c.in-Some.ensures c.args.self.now.small,
    )

pub returns-in-Some : goal.returns-in-Some
returns-in-Some c =
    line_by_edge c.args.at c.args.self.now.bytes.now c.deref.result.now c.in-Some.before
    (c.deref.ensures.value ∙ c.args.self.now.fed) c.in-Some.ensures
