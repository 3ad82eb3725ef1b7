-- Answers of name_numbers: as many names are counted as variables, funs and procedures, so each gets a number.
use Rattle.std.proofs.Common.{◌∙◌, [], map, refl, ap, sym, arith}
use Rattle.std.proofs.lemmas.List.{at_drop_all}
use Rattle.emit_code.specs.declared.known.NameNumbers.{NameNumbers}
use Rattle.rev_syntax.specs.View.{declaration, program as whole}
use Rattle.emit_program.proofs.Numbered.{numbered, vars_counted, values_counted, procs_counted}
use Rattle.emit_code.specs.Naming.{numbers_of}
use Rattle.emit_program.specs.Numbering.{with_declarations, var_total, value_total, proc_total}
use Rattle.emit_program.proofs.numbers.name_numbers.Goals as goal

pub loop-d-init : goal.loop-d-init
loop-d-init c =
    let all = map declaration c.args.program.now.decls.items in
    let list = ap (λ l. map declaration l) c.deref-d-items.ensures.value in
    let vs = ap var_total list ∙ vars_counted [] all in
    let fs = ap value_total list ∙ values_counted all in
    let ps = ap proc_total list ∙ procs_counted all in
    let first = c.requires.first in let vars = c.requires.vars in let blocks = c.requires.blocks in
    let n0 = c.none_named.ensures.next in
    let n1 = c.none_named-2.ensures.next in
    let n2 = c.none_named-3.ensures.next in
    record {
      comes = refl;
      room = (omega (arith, vs, vars, n0), omega (arith, fs, blocks, n1), omega (arith, ps, first, blocks, n2));
    }

pub returns : goal.returns
returns c =
    let p = whole c.args.program.now in
    let start : NameNumbers = record {
      vars = c.none_named.result;
      funs = c.none_named-2.result;
      procs = c.none_named-3.result;
      gives = c.new.result;
    } in
    let items = c.deref-d-items.result.now in
    let none =
    at_drop_all (λ l. with_declarations c.loop-d.numbers (map declaration l)) items c.loop-d.d-index
    c.loop-d-test.false in
    ap numbers_of (sym none ∙ c.loop-d.invariant.comes
    ∙ ap (λ l. with_declarations start (map declaration l)) c.deref-d-items.ensures.value)
    ∙ numbered p start (record {
      vars = c.none_named.ensures.table;
      vars_next = c.none_named.ensures.next;
      funs = c.none_named-2.ensures.table;
      funs_next = c.none_named-2.ensures.next;
      procs = c.none_named-3.ensures.table;
      procs_next = c.none_named-3.ensures.next ∙ c.requires.first;
      gives = c.new.ensures;
    })
