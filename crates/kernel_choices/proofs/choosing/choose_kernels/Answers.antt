-- Answers of choose_kernels: each choice is a place of the kernels, and by the law on choices all make a plan.
use Rattle.std.proofs.Common.{map}
use Rattle.rev_syntax.specs.View.{program as whole}
use Rattle.typed_programs.specs.Layout.{variables}
use Rattle.revision_calculus.specs.Join.{merges_of}
use Rattle.merge_kernels.specs.Terms.{definition}
use Rattle.kernel_choices.proofs.Serving.{choices_within}
use Rattle.kernel_choices.proofs.choosing.choose_kernels.Goals as goal

pub returns-clause-within : goal.returns-clause-within
returns-clause-within g c =
    let p = whole c.args.typed.now.expanded.program in
    choices_within p (map (λ k. definition k.def) c.args.kernels.now) (merges_of (variables p))
    c.in_ok-choices.choices.items c.in_ok-choices.ensures

pub returns-clause-plan : goal.returns-clause-plan
returns-clause-plan g c =
    let p = whole c.args.typed.now.expanded.program in
    c.choice_laws.ensures.plan p (map (λ k. definition k.def) c.args.kernels.now) c.in_ok-choices.choices.items
    (record {
      small = c.args.typed.now.expanded.small;
      funs = c.args.typed.now.expanded.keeps_rules;
      rules = c.args.typed.now.well_typed;
    })
    c.in_ok-choices.ensures
