-- A small program has few declarations.
use Rattle.std.proofs.Common.{◌<◌, ◌≤◌, ◌^◌, List, [], ◌∷◌, length, map, arith}
use Rattle.std.proofs.lemmas.List.{length-map}
use Rattle.rev_syntax.specs.Trees.{Declaration, fun, merge, shared, proc}
use Rattle.rev_syntax.specs.Small.{declaration_count, declarations_count, IsSmall}
use Rattle.rev_syntax.specs.View.{declaration, program as whole}
use Rattle.rev_syntax.specs.declared.tree.Program.{Program}

-- a declaration is a part itself
declaration_counted : (e : Declaration) → 1 ≤ declaration_count e
declaration_counted (fun w params result body) = omega arith
declaration_counted (merge w m j r body) = omega arith
declaration_counted (shared x) = omega arith
declaration_counted (proc w params result body) = omega arith

declarations_counted : (es : List Declaration) → length es ≤ declarations_count es
declarations_counted [] = omega arith
declarations_counted (e ∷ es) = omega (arith, declaration_counted e, declarations_counted es)

pub few_declarations : (p : Program) → IsSmall (whole p) → length p.decls.items < 2 ^ 32
few_declarations p h =
    let few = h.few in
    omega (arith, few, declarations_counted (map declaration p.decls.items), length-map p.decls.items declaration)
