-- Answers of blocks: a block that fails ends the reading there, and one that is read leaves one less to read.
use Rattle.std.proofs.Common.{◌∙◌}
use Rattle.std.proofs.lemmas.Result.{err_from_is_err_and}
use Rattle.code_file.specs.Fields.{number_16}
use Rattle.code_file.specs.Reads.{block, blocks}
use Rattle.code_file.proofs.Steps.{list_stop, list_turn}
use Rattle.code_file.proofs.read.blocks.Goals as goal

pub returns-in_err-block-clause-reads : goal.returns-in_err-block-clause-reads
unfolding blocks
returns-in_err-block-clause-reads c =
    let p = err_from_is_err_and c.from_residual-in_err-block.result c.from_residual-in_err-block.ensures.1 in
    rw (p.1, p.2)
    (list_stop number_16 (λ _. block c.args.tries) c.loop-turn.parts.items c.args.cursor.now.whole
    c.loop-turn.cursor.whole
    c.args.cursor.now.rest.now c.number_16.new.self.rest.now c.loop-turn.cursor.rest.now c.loop-turn._turn
    c.in_ok-count.count _
    c.in_ok-count.ensures.reads c.loop-turn.invariant.rest c.loop-turn-test.true c.in_err-block.ensures.reads)

pub loop-turn-preserved : goal.loop-turn-preserved
loop-turn-preserved c = record {
  rest =
      list_turn (λ _. block c.args.tries) c.loop-turn.parts.items c.push.new.self.items _ c.loop-turn.cursor.whole
      c.block.new.cursor.whole c.loop-turn.cursor.rest.now
      c.block.new.cursor.rest.now c.in_ok-block.field-0 c.loop-turn._turn c.in_ok-count.count
      c.loop-turn.invariant.rest c.loop-turn-test.true c.in_ok-block.ensures.reads c.in_ok-block.ensures.whole
      c.in_ok-push.ensures.items;
  whole = c.in_ok-block.ensures.whole ∙ c.loop-turn.invariant.whole;
}
