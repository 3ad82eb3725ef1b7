-- Answers of vars: each variable is read after the count of the locations before it, which stays below its bound.
use Rattle.std.proofs.Common.{◌∙◌, ◌+◌, sym, ap, arith}
use Rattle.std.proofs.lemmas.Result.{err_from_is_err_and}
use Rattle.code_rules.specs.Tables.{locations}
use Rattle.code_file.specs.Fields.{Got, number_16}
use Rattle.code_file.specs.Reads.{var, vars}
use Rattle.code_file.proofs.Steps.{list_stop, list_read, list_turn, locations_push}
use Rattle.code_file.proofs.read.vars.Goals as goal

pub returns-in_err-var-clause-reads : goal.returns-in_err-var-clause-reads
unfolding vars
returns-in_err-var-clause-reads c =
    let p = err_from_is_err_and c.from_residual-in_err-var.result c.from_residual-in_err-var.ensures.1 in
    rw (p.1, p.2)
    (list_stop number_16 (λ done. var c.args.wide (locations done)) c.loop-turn.parts.items c.args.cursor.now.whole
    c.loop-turn.cursor.whole
    c.args.cursor.now.rest.now c.number_16.new.self.rest.now c.loop-turn.cursor.rest.now c.loop-turn._turn
    c.in_ok-count.count _
    c.in_ok-count.ensures.reads c.loop-turn.invariant.rest c.loop-turn-test.true
    (λ known.
    ap (λ k. var c.args.wide k c.loop-turn.cursor.whole c.loop-turn.cursor.rest.now) (sym c.loop-turn.invariant.before)
    ∙ c.in_err-var.ensures.reads known))

pub loop-turn-preserved : goal.loop-turn-preserved
loop-turn-preserved c = record {
  rest =
      list_turn (λ done. var c.args.wide (locations done)) c.loop-turn.parts.items c.push.new.self.items _
      c.loop-turn.cursor.whole c.var.new.cursor.whole c.loop-turn.cursor.rest.now
      c.var.new.cursor.rest.now c.in_ok-var.var c.loop-turn._turn c.in_ok-count.count
      c.loop-turn.invariant.rest c.loop-turn-test.true
      (ap (λ k. var c.args.wide k c.loop-turn.cursor.whole c.loop-turn.cursor.rest.now)
      (sym c.loop-turn.invariant.before)
      ∙ c.in_ok-var.ensures.reads)
      c.in_ok-var.ensures.whole c.in_ok-push.ensures.items;
  whole = c.in_ok-var.ensures.whole ∙ c.loop-turn.invariant.whole;
  before =
      ap (λ k. k + c.in_ok-var.var.cells) c.loop-turn.invariant.before
      ∙ sym (locations_push c.loop-turn.parts.items c.in_ok-var.var) ∙ ap locations (sym c.in_ok-push.ensures.items);
  bound = omega arith;
}

pub returns-clause-reads : goal.returns-clause-reads
unfolding vars
returns-clause-reads c =
    list_read number_16 (λ done. var c.args.wide (locations done)) c.loop-turn.parts.items c.args.cursor.now.whole
    c.loop-turn.cursor.whole
    c.args.cursor.now.rest.now c.number_16.new.self.rest.now c.loop-turn.cursor.rest.now c.loop-turn._turn
    c.in_ok-count.count
    c.in_ok-count.ensures.reads c.loop-turn.invariant.rest c.loop-turn-test.false
    ∙ ap (λ parts. Got parts c.loop-turn.cursor.rest.now) (sym c.from_vec.ensures)
