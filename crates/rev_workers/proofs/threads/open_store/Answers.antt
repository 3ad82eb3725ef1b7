-- Answers of open_store: the words at the start are as many as the locations, which a store has room for.
use Rattle.std.proofs.Common.{◌≡◌, ◌/◌, ◌^◌, ◌∙◌, [], None, ap, arith}
use Rattle.std.proofs.lemmas.Result.{IfOk-weaker}
use Rattle.std.specs.Prelude.{min}
use Rattle.rev_code.specs.declared.code.Code.{Code}
use Rattle.rev_vm.specs.Opening.{words_at_start}
use Rattle.code_soundness.proofs.Accepting.{no_fault_accepted}
use Rattle.block_run.proofs.Tables.{most_locations}
use Rattle.segment_store.specs.declared.store.Hold.{Hold}
use Rattle.segment_store.specs.declared.store.Store.{Store}
use Rattle.segment_store.specs.Places.{view}
use Rattle.segment_store.specs.Names.{IsOf}
use Rattle.rev_workers.specs.Stores.{IsOpened}
use Rattle.rev_workers.proofs.Opened.{words_many, opened_is}
use Rattle.rev_workers.proofs.threads.open_store.Goals as goal

pub open-requires : goal.open-requires
open-requires c =
    let m = words_many c.args.setting.now.code.vars c.in_ok-words.words
    (c.in_ok-words.ensures.words ∙ ap (λ (z : Code). words_at_start z.vars) c.code.ensures.code) in
    let few =
    most_locations c.args.setting.now.code
    (no_fault_accepted c.args.setting.now.code c.args.setting.now.faultless).small in
    omega (arith, m, few)

pub returns : goal.returns
returns c = IfOk-weaker c.open.result
    (λ (r : Store × Hold).
    IsOf r.0 r.1 × ((view r.1.seat).chain ≡ []) × (r.1.own ≡ None) × (r.0.initial ≡ c.in_ok-words.words)
    × (r.0.segments ≡ min c.args.segments (2 ^ 26 / r.0.stride)))
    (λ (r : Store × Hold). IsOpened c.args.setting.now.code.vars r.0 r.1)
    (λ r h. opened_is c.args.setting.now.code.vars c.in_ok-words.words r.0 r.1
    (c.in_ok-words.ensures.words ∙ ap (λ (z : Code). words_at_start z.vars) c.code.ensures.code)
    c.in_ok-words.ensures.short h.0 h.1 h.2 h.3)
    c.open.ensures.hold
