-- Answers of Local::absorb: a typed program has as many merges as locations, which are fewer than 2^32.
use Rattle.std.proofs.Common.{ap, sym, ◌∙◌, length, arith}
use Rattle.rev_syntax.specs.View.{program as whole}
use Rattle.revision_state.proofs.Merges.{merge_count}
use Rattle.revision_steps.proofs.local.Local.absorb.Goals as goal

pub compose-requires-clause-few : goal.compose-requires-clause-few
compose-requires-clause-few c =
    let p = whole c.args.setting.now.typed.now.expanded.program in
    let e = ap length c.args.setting.now.merges_listed ∙ merge_count p ∙ sym c.args.setting.now.typed.now.located in
    omega arith
