-- A small, well-typed program fits.
use Rattle.std.proofs.Common.{◌≤◌, ℕ, List, [], ◌∷◌, arith}
use Rattle.std.proofs.lemmas.List.{length-map}
use Rattle.rev_syntax.specs.Trees.{Declaration, fun, merge, shared, proc, ProgramTree}
use Rattle.rev_syntax.specs.Small.{declarations_count, IsSmall}
use Rattle.name_tables.specs.Table.{Table}
use Rattle.typed_programs.specs.Weights.{weights_with}
use Rattle.rev_syntax.specs.View.{program as whole}
use Rattle.typed_programs.specs.declared.typed.Typed.{Typed}
use Rattle.typed_programs.specs.Accepted.{IsWellTyped}
use Rattle.typed_programs.proofs.Accepting.{kept_typed}
use Rattle.typed_programs.specs.Layout.{variables}
use Rattle.typed_programs.specs.Limits.{DeclarationsWithin}
use Rattle.typed_programs.specs.Scopes.{outside, within}
use Rattle.code_generation.specs.Numbers.{Numbers, numbers}
use Rattle.code_generation.specs.Generated.{var_of}
use Rattle.generated_certificates.proofs.Counts.{size_few, statements_few}
use Rattle.generated_certificates.proofs.Small.{texts_count, layouts_count, parts_few}
use Rattle.generated_certificates.proofs.Variables.{vars_few}
use Rattle.emit_program.specs.Fitting.{DeclarationsFit, ProgramFits}

declarations_fit : (n : Numbers) (ws : Table ℕ) (es : List Declaration) → DeclarationsWithin ws es
    → declarations_count es ≤ 16777216 → DeclarationsFit n es
declarations_fit n ws [] lim few = tt
declarations_fit n ws (fun w ps r body ∷ es) lim few =
    let params = lim.0.0 in
    let size = size_few body in (
      (omega (arith, params), omega (arith, size, few)),
      declarations_fit n (weights_with ws (fun w ps r body)) es lim.1 (omega (arith, few)),
    )
declarations_fit n ws (merge w m j r body ∷ es) lim few =
    let size = size_few body in
    (omega (arith, size, few), declarations_fit n ws es lim.1 (omega (arith, few)))
declarations_fit n ws (shared x ∷ es) lim few = (tt, declarations_fit n ws es lim.1 (omega (arith, few)))
declarations_fit n ws (proc w ps r body ∷ es) lim few =
    let locals = lim.0.1.0 in
    let size = statements_few n body in
    ((omega (arith, locals), omega (arith, size, few)), declarations_fit n ws es lim.1 (omega (arith, few)))

module _ (p : ProgramTree) (small : IsSmall p) (well : IsWellTyped p) where
  pub program_fits : ProgramFits p
  program_fits =
      let es : List Declaration = p.declarations in
      let few = parts_few p small well in
      let main = well.within.main.0 in
      let size = statements_few (numbers p) p.main in
      let vs = vars_few (outside es) (within es) es [] es [] well.typed.declarations in
      let same = length-map (variables p) (var_of es) in
      let located = well.within.locations in
      let fs = well.within.declared_funs in
      let procs = well.within.procedures in
      let ts = texts_count es p.main in
      let ls = layouts_count (outside es) 0 es p.main in
      record {
        declarations = declarations_fit (numbers p) [] es well.within.declarations (omega (arith, few));
        main = (omega (arith, main), omega (arith, size, few));
        variables = omega (arith, vs, same, located);
        blocks = omega (arith, fs, procs);
        texts = omega (arith, ts, few);
        layouts = omega (arith, ls, few);
      }

pub typed_fits : (t : Typed) → ProgramFits (whole t.expanded.program)
typed_fits t =
    program_fits (whole t.expanded.program) t.expanded.small
    (kept_typed (whole t.expanded.program) t.expanded.keeps_rules t.well_typed t.expanded.small)
