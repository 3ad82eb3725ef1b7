-- Loops of append_statements: the text has the lines of the statements so far, after three draws for each.
use Rattle.std.proofs.Common.{◌≡◌, ◌*◌, ◌++◌, map}
use Rattle.std.specs.String.{string_bytes}
use Rattle.rev_words.specs.Load.{lines, state, statement_text, statements_from}
use Rattle.rev_words.proofs.load.append_statements.Given as goal

-- the statements so far, with three draws for each
abbrev pub invariant-loop-made : goal.invariant-loop-made
invariant-loop-made l = record {
  state : l.generator.state ≡ state l.seed (3 * l._made);
  text : string_bytes l.text
      ≡ string_bytes l.initial.text ++ lines (map statement_text (statements_from l.seed l._made));
}
