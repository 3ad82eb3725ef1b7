-- Answers of begin: the first frame and the empty tables stand for the state before the first leg.
use Rattle.std.proofs.Common.{◌∙◌, length, sym, ap, subst}
use Rattle.std.proofs.lemmas.Result.{IfOk-weaker}
use Rattle.code_soundness.proofs.Lists.{kinds_length}
use Rattle.block_run.proofs.Onward.{words_length}
use Rattle.rev_vm.specs.Starts.{Begins, run_under}
use Rattle.rev_vm.proofs.Born.{at_start}
use Rattle.rev_vm.proofs.Boxes.{same_at}
use Rattle.rev_vm.proofs.beginning.begin.Goals as goal

pub begin_with-requires : goal.begin_with-requires
begin_with-requires g c =
    let h = c.requires.stands.1 in
    record {
      block = (
        h.body,
        h.called.is,
        ap length c.as_slice.ensures.value ∙ sym (words_length h.args c.args.beginning.args.items h.called.stand)
            ∙ sym (kinds_length h.args) ∙ ap length h.called.kinds,
      );
    }

pub returns-in-Ok-clause-state : goal.returns-in-Ok-clause-state
returns-in-Ok-clause-state g c = λ s h.
    let run = subst (λ ws. Begins c.args.setting.now c.args.beginning.block ws c.args.beginning.fuel c.in-Ok.parts.0)
    c.as_slice.ensures.value c.in-Ok.ensures.run in
    IfOk-weaker c.in_box.result _ _
    (λ r e. same_at (sym e) (run_under c.args.setting.now) s
    (at_start c.args.setting.now c.args.beginning.block c.args.beginning.args.items
    (g.P.Snapshot.base c.args.beginning.snapshot) (g.P.Snapshot.size c.args.beginning.snapshot) c.args.beginning.fuel s
    h c.in-Ok.parts.0 run c.in-Ok.parts.1 c.in-Ok.parts.2.roots c.in-Ok.ensures.delta.0 c.in-Ok.ensures.delta.1
    c.in-Ok.ensures.first.0 c.in-Ok.ensures.first.1))
    c.in_box.ensures.ok
