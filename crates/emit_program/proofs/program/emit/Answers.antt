-- Answers of emit: a typed program fits all tables, and its names mean in them what they mean outside of procedures.
use Rattle.std.proofs.Common.{◌∙◌, [], false, map, ap, refl, sym, subst, arith}
use Rattle.rev_syntax.specs.View.{declaration, program as whole}
use Rattle.rev_kinds.specs.declared.names.Checker.{Checker}
use Rattle.rev_kinds.specs.Walk.{names_of}
use Rattle.typed_programs.specs.Limits.{funs}
use Rattle.rev_types.specs.Tables.{shared_table, proc_table, fun_table}
use Rattle.rev_types.proofs.Named.{outer_names}
use Rattle.code_generation.specs.Generated.{value_blocks}
use Rattle.emit_code.specs.Naming.{numbers_of}
use Rattle.emit_program.specs.Numbering.{merges_from}
use Rattle.emit_program.specs.Fitting.{DeclarationsFit}
use Rattle.emit_program.proofs.Fits.{typed_fits}
use Rattle.emit_program.proofs.Whole.{whole_code, declarations_by, main_by, layouts_by}
use Rattle.emit_program.proofs.program.emit.Goals as goal

pub value_blocks-requires : goal.value_blocks-requires
value_blocks-requires c =
    let f = typed_fits c.args.typed.now in
    let b = f.blocks in
    let e = ap (λ l. funs (map declaration l)) c.deref.ensures.value in
    omega (arith, e, b)

pub code_vars-requires-clause-merges : goal.code_vars-requires-clause-merges
code_vars-requires-clause-merges c =
    c.in_ok-values.ensures.merges ∙ ap (λ l. merges_from 0 (map declaration l)) c.deref.ensures.value

pub code_vars-requires-clause-next : goal.code_vars-requires-clause-next
code_vars-requires-clause-next c =
    c.in_ok-values.ensures.next ∙ ap (λ l. funs (map declaration l)) c.deref.ensures.value

pub name_numbers-requires-clause-first : goal.name_numbers-requires-clause-first
name_numbers-requires-clause-first c =
    c.in_ok-values.ensures.next ∙ ap (λ l. funs (map declaration l)) c.deref.ensures.value

pub name_numbers-requires-clause-vars : goal.name_numbers-requires-clause-vars
name_numbers-requires-clause-vars c = (typed_fits c.args.typed.now).variables

pub name_numbers-requires-clause-blocks : goal.name_numbers-requires-clause-blocks
name_numbers-requires-clause-blocks c = (typed_fits c.args.typed.now).blocks

pub emit_numbered-requires-clause-named : goal.emit_numbered-requires-clause-named
emit_numbered-requires-clause-named c =
    let p = whole c.args.typed.now.expanded.program in
    let checker : Checker = record {
      shared = record { ref_ptr = (0, 0); now = c.in_ok-names.names.shared };
      procs = record { ref_ptr = (0, 0); now = c.in_ok-names.names.procs };
      funs = record { ref_ptr = (0, 0); now = c.in_ok-names.names.funs };
      inside = false;
    } in
    let v = c.deref-2.ensures.value in
    outer_names checker p.declarations refl
    (c.in_ok-names.ensures.shared ∙ ap (λ l. shared_table [] (map declaration l)) v)
    (c.in_ok-names.ensures.procs ∙ ap (λ l. proc_table [] (map declaration l)) v)
    (c.in_ok-names.ensures.funs ∙ ap (λ l. fun_table [] (map declaration l)) v)
