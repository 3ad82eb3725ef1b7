-- Answers of code_vars: the typed program lists the rows of its variables, so those made from rows are its own.
use Rattle.std.proofs.Common.{◌≡◌, ◌∙◌, [], map, ap, refl}
use Rattle.std.proofs.lemmas.Result.{IfOk-weaker}
use Rattle.rev_syntax.specs.View.{declaration, program as whole}
use Rattle.typed_programs.specs.Layout.{variables}
use Rattle.code_generation.specs.Generated.{var_of}
use Rattle.emit_program.specs.Variables.{vars_in}
use Rattle.emit_program.proofs.Vars.{vars_are}
use Rattle.emit_program.proofs.variables.code_vars.Goals as goal

pub returns : goal.returns
returns c =
    let t = c.args.typed.now in
    let all = (whole t.expanded.program).declarations in
    let rows = c.as_slice.ensures ∙ t.shared_listed in
    let list = ap (λ l. map declaration l) c.deref.ensures.value in
    let exact : vars_in c.args.blocks.now.merges.items c.args.blocks.now.next (map declaration c.deref.result.now)
    c.as_slice.result.now
    ≡ map (var_of all) (variables (whole t.expanded.program)) =
    (λ i. vars_in (c.requires.merges i) (c.requires.next i) (list i) (rows i)) ∙ vars_are all [] all refl in
    IfOk-weaker c.vars_of_rows.result _ _ (λ vs e. e ∙ exact) c.vars_of_rows.ensures
