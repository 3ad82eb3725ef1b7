-- Answers of Store::lay: the word stood there already, or it was put over the one that did.
use Rattle.std.proofs.Common.{◌∙◌, ap}
use mathlib.Core.Option.{some}
use Rattle.segment_store.proofs.Fills.{put_look, put_again}
use Rattle.segment_store.proofs.store.Store.lay.Goals as goal

pub returns-then-found-x-clause-view : goal.returns-then-found-x-clause-view
returns-then-found-x-clause-view c = (put_look c.args.seat.now c.adopt-found.new.seat c.args.i _
    c.adopt-found.ensures.view).0

pub returns-then-found-x-clause-here : goal.returns-then-found-x-clause-here
returns-then-found-x-clause-here c =
    (put_look c.args.seat.now c.adopt-found.new.seat c.args.i _ c.adopt-found.ensures.view).1 ∙ ap some
    c.if-found-x.true

pub returns-then-found-x-clause-others : goal.returns-then-found-x-clause-others
returns-then-found-x-clause-others c = (put_look c.args.seat.now c.adopt-found.new.seat c.args.i _
    c.adopt-found.ensures.view).2

pub returns-clause-view : goal.returns-clause-view
returns-clause-view c = (put_again c.args.seat.now c.adopt-found.new.seat c.put.new.seat c.args.i _ c.args.x
    c.adopt-found.ensures.view c.put.ensures.view).0

pub returns-clause-here : goal.returns-clause-here
returns-clause-here c = (put_again c.args.seat.now c.adopt-found.new.seat c.put.new.seat c.args.i _ c.args.x
    c.adopt-found.ensures.view c.put.ensures.view).1

pub returns-clause-others : goal.returns-clause-others
returns-clause-others c = (put_again c.args.seat.now c.adopt-found.new.seat c.put.new.seat c.args.i _ c.args.x
    c.adopt-found.ensures.view c.put.ensures.view).2
