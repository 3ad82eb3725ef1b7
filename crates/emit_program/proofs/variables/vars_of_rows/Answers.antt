-- Answers of vars_of_rows: the first row left adds its variable, which the declaration of its number gives.
use Rattle.std.proofs.Common.{◌≡◌, ◌∙◌, ◌+◌, ◌++◌, ◌∷◌, false, None, drop, map, ap, sym, get_or, arith}
use Rattle.std.specs.Prelude.{slice_get}
use Rattle.std.proofs.lemmas.List.{drop_more}
use Rattle.rev_syntax.specs.View.{declaration}
use Rattle.typed_programs.proofs.Appends.{appends}
use Rattle.typed_programs.specs.declared.shared_info.SharedInfo.{SharedInfo}
use Rattle.emit_program.specs.Variables.{var_in, vars_in}
use Rattle.emit_program.proofs.variables.vars_of_rows.Goals as goal

pub loop-info-preserved : goal.loop-info-preserved
loop-info-preserved c =
    let ms = c.args.blocks.now.merges.items in let next = c.args.blocks.now.next in
    let es = map declaration c.args.decls.now in let rows = c.args.rows.now in let at = c.loop-info.info-index in
    let blank : SharedInfo = record { decl = 0; base = 0; cells = 0; array = false; merge = None } in
    let x : SharedInfo = get_or rows at blank in
    let rest = drop (at + 1) rows in
    let old = c.loop-info.vars.items in
    let here : drop at rows ≡ x ∷ rest = drop_more rows at blank (omega arith) in
    let written : c.enter_var.new.vars.items ≡ old ++ var_in ms next x (slice_get es x.decl) =
    c.in_ok-enter_var.ensures ∙ ap (λ o. old ++ var_in ms next x o) c.declared.ensures in
    ap (λ l. l ++ vars_in ms next es rest) written
    ∙ appends old (var_in ms next x (slice_get es x.decl)) (vars_in ms next es rest)
    ∙ ap (λ l. old ++ vars_in ms next es l) (sym here)
    ∙ c.loop-info.invariant
