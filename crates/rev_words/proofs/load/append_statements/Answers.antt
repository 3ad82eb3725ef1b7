-- Answers of append_statements: a statement takes three draws of the generator, and its line goes behind the others.
use Rattle.std.proofs.Common.{◌∙◌, ◌++◌, ap, append-nil, rules, sym}
use Rattle.std.specs.String.{string_bytes}
use Rattle.rev_words.specs.Load.{state}
use Rattle.rev_words.proofs.Loads.{lines-none, state-more, text-more}
use Rattle.rev_words.proofs.load.append_statements.Goals as goal

pub loop-made-init : goal.loop-made-init
loop-made-init c = record {
  state = search rules;
  text = sym (ap (λ t. string_bytes c.args.text.now ++ t) (lines-none c.args.seed)
      ∙ append-nil (string_bytes c.args.text.now));
}

pub loop-made-preserved : goal.loop-made-preserved
loop-made-preserved c = record {
  state = c.statement.ensures.state ∙ ap (λ s. state s 3) c.loop-made.invariant.state
      ∙ state-more c.args.seed c.loop-made._made;
  text = text-more c.args.seed c.loop-made._made c.loop-made.generator.state _ _ _ c.statement.result
      c.loop-made.invariant.state c.statement.ensures.statement c.loop-made.invariant.text
      c.in_ok-append_statement.ensures;
}
