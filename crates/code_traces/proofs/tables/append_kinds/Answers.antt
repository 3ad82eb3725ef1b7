-- Answers of append_kinds: each turn appends the variable's kind once more, from a list with none appended.
use Rattle.std.proofs.Common.{sym, append-nil}
use Rattle.code_traces.proofs.Loops.{more_copies}
use Rattle.code_traces.proofs.tables.append_kinds.Goals as goal

pub loop-done-init : goal.loop-done-init
loop-done-init c = sym (append-nil c.args.list.now.items)

pub loop-done-preserved : goal.loop-done-preserved
loop-done-preserved c =
    more_copies c.args.list.now.items c.loop-done.list.items c.push.new.self.items c.loop-done.done
    c.args.variable.now.kind c.in_ok-push.ensures.items c.loop-done.invariant
