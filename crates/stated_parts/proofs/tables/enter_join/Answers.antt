-- Answers of enter_join: a fork enters nothing, and a join enters the one revision that it lists.
use Rattle.std.proofs.lemmas.Result.{on_ok_weaker}
use Rattle.stated_parts.proofs.Finding.{entered_none, entered_one}
use Rattle.stated_parts.proofs.tables.enter_join.Goals as goal

pub returns-in-Forked : goal.returns-in-Forked
returns-in-Forked c = entered_none c.args.table.now.map c.args.event.now _ _ c.args.number c.in-Forked.is

pub returns-in-Joined : goal.returns-in-Joined
returns-in-Joined c =
    on_ok_weaker c.enter.result
    (entered_one c.args.table.now.map c.enter.new.self.map c.args.event.now _ _ c.args.number c.in-Joined.is)
    c.enter.ensures
