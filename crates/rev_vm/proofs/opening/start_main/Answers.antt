-- Answers of start_main: the last block is the one called as main, without arguments and over the words at the start.
use Rattle.std.proofs.Common.{◌≡◌, ◌∙◌, ℕ, [], Some, true, sym, ap, subst}
use Rattle.std.proofs.lemmas.Result.{IfOk-weaker}
use Rattle.std.specs.Prelude.{slice_get, IfOk}
use Rattle.rev_code.specs.declared.code.Code.{Code}
use Rattle.rev_code.specs.declared.code.CodeBlock.{CodeBlock}
use Rattle.rev_code.specs.Events as events
use Rattle.rev_code.specs.State.{State}
use Rattle.rev_code.specs.Variables.{start_locations}
use Rattle.code_rules.specs.Tables.{is_main}
use Rattle.rev_vm.specs.Starts.{run_under}
use Rattle.rev_vm.specs.Values.{StandsFor}
use Rattle.rev_vm.proofs.Mains.{main_called, starts_based}
use Rattle.rev_vm.proofs.opening.start_main.Goals as goal

pub main_of-main-requires : goal.main_of-main-requires
main_of-main-requires g c = c.code.ensures.faultless

pub start-requires-clause-called : goal.start-requires-clause-called
start-requires-clause-called g c =
    let q : (b : CodeBlock) × (slice_get c.args.setting.now.code.blocks c.main_of-main.result ≡ Some b)
    × (is_main b.class ≡ true) =
    subst
    (λ (z : Code). (b : CodeBlock) × (slice_get z.blocks c.main_of-main.result ≡ Some b) × (is_main b.class ≡ true))
    c.code.ensures.code c.main_of-main.ensures.is in
    (q.0, [], main_called (run_under c.args.setting.now) c.args.setting.now.faultless c.main_of-main.result q.0 q.1 q.2)

pub returns-clause-state : goal.returns-clause-state
returns-clause-state g c = λ n m.
    let e = c.main_of-main.ensures.one n m.body (ap (λ (z : Code). slice_get z.blocks n) c.code.ensures.code ∙ m.is)
    m.class in
    let there = ap (slice_get c.args.setting.now.code.blocks) (sym e) ∙ m.is in
    let base =
    starts_based (run_under c.args.setting.now) c.args.setting.now.faultless (g.P.Snapshot.base c.args.snapshot)
    c.requires.base in
    subst (λ k.
    IfOk c.start.result (λ r. StandsFor (run_under c.args.setting.now) r
    (events.start k m.body [] (start_locations c.args.setting.now.code.vars) c.args.fuel))) (sym e)
    (c.start.ensures.state m.body [] (start_locations c.args.setting.now.code.vars)
    (main_called (run_under c.args.setting.now) c.args.setting.now.faultless c.main_of-main.result m.body there m.class)
    base)

pub returns-clause-stands : goal.returns-clause-stands
returns-clause-stands g c =
    let q : (b : CodeBlock) × (slice_get c.args.setting.now.code.blocks c.main_of-main.result ≡ Some b)
    × (is_main b.class ≡ true) =
    subst
    (λ (z : Code). (b : CodeBlock) × (slice_get z.blocks c.main_of-main.result ≡ Some b) × (is_main b.class ≡ true))
    c.code.ensures.code c.main_of-main.ensures.is in
    let base =
    starts_based (run_under c.args.setting.now) c.args.setting.now.faultless (g.P.Snapshot.base c.args.snapshot)
    c.requires.base in
    IfOk-weaker c.start.result
    (λ r. StandsFor (run_under c.args.setting.now) r
    (events.start c.main_of-main.result q.0 [] (start_locations c.args.setting.now.code.vars) c.args.fuel))
    (λ r. (s : State ℕ) × StandsFor (run_under c.args.setting.now) r s)
    (λ r h. (events.start c.main_of-main.result q.0 [] (start_locations c.args.setting.now.code.vars) c.args.fuel, h))
    (c.start.ensures.state q.0 [] (start_locations c.args.setting.now.code.vars)
    (main_called (run_under c.args.setting.now) c.args.setting.now.faultless c.main_of-main.result q.0 q.1 q.2) base)
