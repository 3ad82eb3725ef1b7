-- Answers of begin_frame: the words that grew keep those there before, so the frame begins over the same arguments.
use Rattle.std.proofs.Common.{◌≡◌, ◌∙◌, ◌-◌, ◌++◌, List, ℕ, length, drop, take, replicate, sym, ap, arith}
use Rattle.rev_code.specs.Step.{params}
use Rattle.code_soundness.proofs.Lists.{take_append}
use Rattle.leg_run.proofs.Frames.{part_same, take_whole}
use Rattle.leg_run.proofs.calls.begin_frame.Goals as goal

pub returns-clause-locals : goal.returns-clause-locals
returns-clause-locals c =
    let args = c.requires.args in
    let items = c.as_mut_slice.ensures.value in
    let same = c.begin.auto.words in
    let k = c.ensure.new.words.ok.0 in
    let l = ap length items in
    let e : c.ensure.new.words.len ≡ length c.begin.new.words = omega (arith, k, same, l) in
    let w = ap (λ n. take n (c.begin.new.words ++ drop (length c.begin.new.words) c.ensure.new.words.items)) e
    ∙ take_append c.begin.new.words (drop (length c.begin.new.words) c.ensure.new.words.items) in
    let grown : take (length c.args.words.now.items) c.ensure.new.words.items
    ≡ take (length c.args.words.now.items) c.args.words.now.items =
    c.in_ok-ensure.ensures.kept ∙ sym (take_whole c.args.words.now.items) in
    ap (λ (xs : List ℕ). take (length c.args.called.now.locals) (drop c.args.low xs)) w
    ∙ c.begin.ensures.locals
    ∙ ap (λ (xs : List ℕ). xs ++ replicate (length c.args.called.now.locals - length (params c.args.called.now)) 0)
    (ap (λ (xs : List ℕ). take (length (params c.args.called.now)) (drop c.args.low xs)) items
    ∙ part_same c.args.words.now.items c.ensure.new.words.items (length c.args.words.now.items) c.args.low
    (length (params c.args.called.now)) grown args)
