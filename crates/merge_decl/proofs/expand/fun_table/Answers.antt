-- Answers of fun_table: a fun is entered behind the names before it, and no other declaration is entered.
use Rattle.std.proofs.Common.{◌∙◌, sym, arith}
use Rattle.std.proofs.lemmas.List.{length-map}
use Rattle.rev_syntax.specs.View.{parameter}
use Rattle.merge_decl.proofs.FunSteps.{fun_turn, other_turn}
use Rattle.merge_decl.proofs.expand.fun_table.Goals as goal
use Rattle.merge_decl.proofs.expand.fun_table.Goals.{in-Fun+in_ok-add, in_default}

pub loop-decl-preserved : goal.loop-decl-preserved
loop-decl-preserved c = record {
  number_small = elim c.match-d.branch [ in-Fun+in_ok-add w ↦ omega arith | in_default w ↦ omega arith ];
  found = λ name. elim c.match-d.branch [
    | in-Fun+in_ok-add w ↦
        fun_turn c.args.decls.now c.loop-decl.decl c.loop-decl.number c.match-d.number c.index-decls-decl.result
        c.loop-decl.table c.match-d.table name _ w.in-Fun.name w.in-Fun.params w.in-Fun.result w.in-Fun.body
        w.deref.result.now w.len.result
        c.loop-decl-test.true c.index-decls-decl.is w.in-Fun.is w.deref.ensures.value
        (w.len.ensures ∙ w.in-Fun.params.ok.0 ∙ sym (length-map w.in-Fun.params.items parameter))
        (w.table-is ∙ w.in_ok-add.ensures.ok) w.number-is
        (c.loop-decl.invariant.found name)
    | in_default w ↦
        other_turn c.args.decls.now c.loop-decl.decl c.loop-decl.number c.match-d.number c.index-decls-decl.result
        c.loop-decl.table c.match-d.table name _ c.loop-decl-test.true c.index-decls-decl.is w.in_default.not-Fun
        w.table-is w.number-is
        (c.loop-decl.invariant.found name)
  ];
}
