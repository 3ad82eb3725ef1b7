-- Answers of shown_values: the words are split at the cells of each variable, of which there are words enough.
use Rattle.std.proofs.Common.{◌++◌, ap, arith}
use Rattle.code_runs.specs.Births.{path_in}
use Rattle.code_runs.specs.Words.{variables_shown}
use Rattle.code_runs.proofs.Shows.{count_more, variable_more, variables_all}
use Rattle.code_runs.proofs.values.shown_values.Goals as goal

pub loop-variable-init : goal.loop-variable-init
loop-variable-init c = (
  c.requires.all,
  λ paths names.
      ap (λ l. l ++ variables_shown (path_in paths) c.args.variables.now c.args.words.now)
      (c.in_ok-shown.ensures).items,
)

pub split_at-requires : goal.split_at-requires
split_at-requires c =
    let more =
    count_more c.args.variables.now c.loop-variable.variable-index c.variable-item.result c.loop-variable-test.true
    c.variable-item.is in
    let all = c.loop-variable.invariant.0 in
    omega (arith, more, all)

pub loop-variable-preserved : goal.loop-variable-preserved
loop-variable-preserved c =
    let vs = c.args.variables.now in
    let more =
    count_more vs c.loop-variable.variable-index c.variable-item.result c.loop-variable-test.true c.variable-item.is in
    let all = c.loop-variable.invariant.0 in
    let back = c.split_at.ensures.back_len in (
      omega (arith, more, all, back),
      λ paths names.
          variable_more (path_in paths) vs c.loop-variable.variable-index c.variable-item.result
          c.loop-variable.rest.now c.split_at.result.0.now c.split_at.result.1.now
          c.loop-variable.shown.items c.append_variable.new.shown.items _ c.loop-variable-test.true c.variable-item.is
          c.split_at.ensures.front c.split_at.ensures.back (c.in_ok-append_variable.ensures paths names)
          (c.loop-variable.invariant.1 paths names),
    )

pub returns : goal.returns
returns c = λ paths names.
    variables_all (path_in paths) c.args.variables.now c.loop-variable.rest.now c.loop-variable.variable-index
    c.loop-variable.shown.items _ c.loop-variable-test.false (c.loop-variable.invariant.1 paths names)
