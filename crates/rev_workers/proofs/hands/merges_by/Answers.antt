-- Answers of merges_by: kernels that agree with the code's merges stand for them, so planned merges are the run's.
use Rattle.std.proofs.Common.{sym, subst, ap, ◌∙◌, map}
use Rattle.rev_code.specs.declared.code.Code.{Code}
use Rattle.code_soundness.proofs.Accepting.{no_fault_accepted}
use Rattle.block_run.specs.Area.{count}
use Rattle.fun_run.specs.Merging.{AreMergesOf, word_merges}
use Rattle.rev_vm.specs.Starts.{run_under}
use Rattle.merge_kernels.specs.Terms.{definition}
use Rattle.merge_kernels.specs.Words.{Agrees}
use Rattle.rev_workers.specs.Plans.{planned}
use Rattle.rev_workers.proofs.Planned.{agrees, stands_too}
use Rattle.rev_workers.proofs.hands.merges_by.Goals as goal

pub new-requires : goal.new-requires
new-requires g c =
    let choices = c.args.plan.now.choices.items in
    let kernels = map (λ k. definition k.def) c.args.plan.now.kernels.now in
    subst (λ (x : Code). Agrees choices kernels (word_merges x))
    (sym (c.in_ok-inner.ensures.code ∙ c.code.ensures.code)) (agrees c.args.setting.now.code choices kernels c.requires)

pub returns : goal.returns
returns g c =
    let run = run_under c.args.setting.now in
    let choices = c.args.plan.now.choices.items in
    let kernels = map (λ k. definition k.def) c.args.plan.now.kernels.now in
    let code = c.in_ok-inner.ensures.code ∙ c.code.ensures.code in
    let inner =
    subst (λ (x : Code). AreMergesOf run (word_merges x)) code
    (c.in_ok-inner.ensures.merges run (sym c.code.ensures.code)) in
    let all =
    stands_too run choices kernels (no_fault_accepted c.args.setting.now.code c.args.setting.now.faultless) c.requires
    inner in
    let of_code = subst (λ (x : Code). AreMergesOf run (planned x choices kernels)) (sym code) all in
    let of_plan =
    subst (λ p.
    AreMergesOf run (planned c.in_ok-inner.inner.code.now p.choices.items (map (λ k. definition k.def) p.kernels.now)))
    (sym c.new.ensures.plan) of_code in (
      ap (λ i. count i.code.now.vars) c.new.ensures.inner ∙ ap (λ (x : Code). count x.vars) code,
      subst (λ i. AreMergesOf run
          (planned i.code.now c.new.result.plan.now.choices.items
          (map (λ k. definition k.def) c.new.result.plan.now.kernels.now)))
          (sym c.new.ensures.inner) of_plan,
    )
