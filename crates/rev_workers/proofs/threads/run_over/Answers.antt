-- Answers of run_over: purse and hands leave the hold as it was opened, so its base is the words at the start.
use Rattle.segment_store.specs.Names.{IsOf, IsSameHold}
use Rattle.rev_workers.proofs.Opened.{opened_same, last_of}
use Rattle.rev_workers.proofs.threads.run_over.Goals as goal

pub run_code-requires-clause-base : goal.run_code-requires-clause-base
run_code-requires-clause-base g c κs within l w is =
    let s = c.args.store.now in
    let vars = c.args.setting.now.code.vars in
    let first =
    opened_same vars s c.args.hold c.purse-all.new.hold c.requires.opened c.purse-all.ensures.own.0
    c.purse-all.ensures.own.1 in
    let own = c.hands_for.ensures.own in
    (opened_same vars s c.purse-all.new.hold c.hands_for.new.hold first own.0
    (last_of {A = IsOf s c.hands_for.new.hold} {B = IsSameHold c.purse-all.new.hold c.hands_for.new.hold} own)).2
    l w is
