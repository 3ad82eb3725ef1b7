-- Answers of run_of: the plan chooses kernels for the program's own merges, and the run of its code has its outcome.
use Rattle.std.proofs.Common.{◌∙◌, ap, map, Vec, Global, ℕ}
use Rattle.std.specs.Prelude.{Option}
use Rattle.rev_syntax.specs.View.{program as whole}
use Rattle.merge_kernels.specs.Terms.{definition}
use Rattle.rev_top.proofs.Kernels.{run_planned}
use Rattle.rev_top.proofs.RunsByThreads.{plan_for, ran_by, ran_of}
use Rattle.rev_top.proofs.runs.run_of.Goals as goal

pub run_threads-requires-clause-plan : goal.run_threads-requires-clause-plan
run_threads-requires-clause-plan g c κs within =
    let plan = c.new-plan.ensures in
    plan_for _ _ c.in_ok-code.code.code _ _ _ _ c.in_ok-code.ensures
    (ap (λ (v : Vec (Option ℕ) Global). v.items) plan.choices) plan.kernels
    c.in_ok-choices.ensures.plan

pub returns-clause-kernels : goal.returns-clause-kernels
returns-clause-kernels g c =
    run_planned (whole c.args.typed.now.expanded.program) (map (λ k. definition k.def) c.args.kernels.now)
    c.in_ok-choices.choices c.new-plan.result.choices c.in_ok-choices.ensures.chosen c.new-plan.ensures.choices
    c.run_threads.result c.run_threads.ensures.choices

pub returns-clause-run : goal.returns-clause-run
returns-clause-run g c =
    ran_of c.args.words.now c.args.typed.now c.in_ok-code.code.code c.in_ok-numbers.numbers.items c.run_threads.result
    c.in_ok-code.ensures (c.in_ok-numbers.ensures.items ∙ c.as_slice.ensures) c.run_threads.ensures.run

pub returns-clause-outcome : goal.returns-clause-outcome
returns-clause-outcome g c =
    ran_by c.args.words.now c.args.typed.now c.in_ok-code.code.code c.in_ok-numbers.numbers.items c.run_threads.result
    c.in_ok-code.ensures (c.in_ok-numbers.ensures.items ∙ c.as_slice.ensures) c.run_threads.ensures.outcome
