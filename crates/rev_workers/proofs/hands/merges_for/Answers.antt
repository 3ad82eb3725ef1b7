-- Answers of merges_for: the merges that are made in a turn are for this setting, and go behind those before.
use Rattle.std.proofs.Common.{◌≡◌, ◌+◌, ◌++◌, List, [], ◌∷◌, All, length, map, ap, ◌∙◌, arith}
use Rattle.std.proofs.lemmas.List.Elements.{All-push, All-same}
use Rattle.block_run.specs.Area.{count}
use Rattle.fun_run.specs.Merging.{AreMergesOf}
use Rattle.hub_core.proofs.Lists.{many_more}
use Rattle.merge_kernels.specs.Terms.{definition}
use Rattle.rev_vm.specs.Starts.{run_under}
use Rattle.rev_workers.specs.Plans.{planned}
use Rattle.rev_workers.proofs.hands.merges_for.Goals as goal

-- what holds of all in a list and of one more holds of all where that one is at its end
one_more : {A : Type 0} (xs ys : List A) (x : A) (P : A → Type 0) → ys ≡ xs ++ x ∷ [] → All P xs → P x → All P ys
one_more xs ys x P e all p = All-same P ys (xs ++ x ∷ []) e (All-push P xs x all p)

pub loop-preserved : goal.loop-preserved
loop-preserved g c =
    let i = c.loop.invariant in
    let e = c.in_ok-push.ensures.items in
    let a : length c.push.new.self.items ≡ length c.loop.list.items + 1 =
    ap length e ∙ many_more c.loop.list.items c.in_ok-merges_by.field-0 in
    let many = i.1 in (
      one_more c.loop.list.items c.push.new.self.items c.in_ok-merges_by.field-0
          (λ m. (count m.inner.code.now.vars ≡ count c.args.setting.now.code.vars)
          × AreMergesOf (run_under c.args.setting.now)
          (planned m.inner.code.now m.plan.now.choices.items (map (λ k. definition k.def) m.plan.now.kernels.now)))
          e i.0 c.in_ok-merges_by.ensures,
      omega arith,
    )
