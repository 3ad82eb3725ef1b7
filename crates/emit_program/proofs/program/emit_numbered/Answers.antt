-- Answers of emit_numbered: a typed program fits all tables, and each part that is made is that part of its code.
use Rattle.std.proofs.Common.{◌∙◌, map, ap, sym, subst}
use Rattle.rev_syntax.specs.View.{declaration, program as whole}
use Rattle.rev_kinds.specs.Walk.{names_of}
use Rattle.code_generation.specs.Generated.{value_blocks}
use Rattle.emit_code.specs.Naming.{numbers_of}
use Rattle.emit_program.specs.Fitting.{DeclarationsFit}
use Rattle.emit_program.proofs.Fits.{typed_fits}
use Rattle.emit_program.proofs.Whole.{whole_code, declarations_by, main_by, layouts_by}
use Rattle.emit_program.proofs.program.emit_numbered.Goals as goal

pub emit_values-requires : goal.emit_values-requires
emit_values-requires c =
    let n = numbers_of c.args.numbers.now in
    subst (λ l. DeclarationsFit n (map declaration l)) (sym c.deref.ensures.value)
    (declarations_by (whole c.args.typed.now.expanded.program) n c.requires.numbered (typed_fits c.args.typed.now))

pub emit_bodies-requires-clause-declarations : goal.emit_bodies-requires-clause-declarations
emit_bodies-requires-clause-declarations c =
    declarations_by (whole c.args.typed.now.expanded.program) (numbers_of c.args.numbers.now)
    c.requires.numbered (typed_fits c.args.typed.now)

pub emit_bodies-requires-clause-main : goal.emit_bodies-requires-clause-main
emit_bodies-requires-clause-main c =
    main_by (whole c.args.typed.now.expanded.program) (numbers_of c.args.numbers.now) c.requires.numbered
    (typed_fits c.args.typed.now)

pub emit_bodies-requires-clause-texts : goal.emit_bodies-requires-clause-texts
emit_bodies-requires-clause-texts c = (typed_fits c.args.typed.now).texts

pub emit_bodies-requires-clause-layouts : goal.emit_bodies-requires-clause-layouts
emit_bodies-requires-clause-layouts c =
    layouts_by (whole c.args.typed.now.expanded.program) (names_of c.args.checker.now) c.requires.named
    (typed_fits c.args.typed.now)

pub returns : goal.returns
returns c =
    let p = whole c.args.typed.now.expanded.program in
    let n = numbers_of c.args.numbers.now in
    whole_code p n (names_of c.args.checker.now) c.args.vars c.from_vec.result c.from_vec-2.result
    c.in_ok-blocks.blocks.items c.from_vec-3.result
    c.requires.numbered c.requires.named c.requires.variables
    (c.from_vec.ensures ∙ c.in_ok-listed.ensures.texts)
    (c.from_vec-2.ensures ∙ c.in_ok-listed.ensures.layouts)
    (c.in_ok-blocks.ensures ∙ ap (λ l. value_blocks n (map declaration l)) c.deref.ensures.value)
    (c.from_vec-3.ensures ∙ c.in_ok-listed.ensures.blocks)
