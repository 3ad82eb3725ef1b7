-- Answers of append_last: nothing behind the last line feed is no line, and anything else is the last line.
use Rattle.std.proofs.Common.{◌∙◌, refl, sym}
use Rattle.std.proofs.lemmas.Result.{on_ok_weaker}
use Rattle.trace_diagram.proofs.TextLines.{last_line, no_line}
use Rattle.trace_diagram.proofs.printer.append_last.Goals as goal

pub returns-then-is_empty : goal.returns-then-is_empty
returns-then-is_empty c =
    no_line c.args.rest.now c.args.out.now.items _ (sym c.is_empty.ensures ∙ c.if-is_empty.true) refl

pub returns : goal.returns
returns c =
    on_ok_weaker c.append_quoted.result
    (last_line c.args.rest.now c.args.out.now.items c.append_quoted.new.text.items c.requires
    (sym c.is_empty.ensures ∙ c.if-is_empty.false))
    c.append_quoted.ensures
