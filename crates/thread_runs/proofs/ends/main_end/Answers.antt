-- Answers of main_end: the first of the ends is there, so the end of main is found at number 0.
use Rattle.std.proofs.Common.{Some, ap, ◌∙◌}
use Rattle.thread_runs.proofs.Firsts.{some_first, first_is, no_first}
use Rattle.thread_runs.proofs.ends.main_end.Goals as goal

pub bounds-ends-0 : goal.bounds-ends-0
bounds-ends-0 g c = some_first c.args.ends.now c.requires.0 c.requires.1

pub unreachable-requires : goal.unreachable-requires
unreachable-requires g c =
    no_first c.args.ends.now c.requires.0 c.requires.1 c.index-ends-0.result c.index-ends-0.is c.in-None.is

pub unreachable-unreachable : goal.unreachable-unreachable
unreachable-unreachable g c =
    no_first c.args.ends.now c.requires.0 c.requires.1 c.index-ends-0.result c.index-ends-0.is c.in-None.is

pub returns : goal.returns
returns g c =
    first_is c.args.ends.now c.requires.0 c.requires.1 c.index-ends-0.result c.index-ends-0.is
    ∙ ap (λ x. Some x) c.in-Some.is
