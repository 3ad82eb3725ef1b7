-- The values of an outcome are those of all locations, so that each trap of a merge names one of them.
use Rattle.std.proofs.Common.{◌≡◌, ◌∙◌, ℕ, zero, suc, ◌+◌, List, [], ◌∷◌, ◌++◌, length, Option, Some, None, refl, sym, ap, subst, length-append}
use Rattle.rev_num.specs.declared.outcome.Outcome.{Outcome}
use Rattle.rev_num.specs.declared.outcome.Outcome.TheVariants as o
use Rattle.rev_num.specs.declared.outcome.Shown.{Shown}
use Rattle.rev_syntax.specs.Trees.{ArraySize, SharedDeclaration, Declaration, fun, merge, shared, proc}
use Rattle.name_tables.specs.Names.{Name}
use Rattle.revision_machine.specs.Machine.{Entry, Global, Twice, Live}
use Rattle.revision_machine.specs.Laws.{local_of, Everywhere}
use Rattle.revision_machine.proofs.KeptByEvents.{kept_law}
use Rattle.typed_programs.specs.Layout.{variable_behind, variables_behind, variables}
use Rattle.typed_programs.specs.Limits.{cells}
use Rattle.typed_programs.specs.Scopes.{cells_of}
use Rattle.revision_calculus.specs.Program.{Setting}
use Rattle.revision_calculus.specs.State.{Location, Phase, running, joining, done, trapped, Local}
use Rattle.revision_calculus.specs.Calculus.{main, calculus}
use Rattle.revision_calculus.specs.Outcome.{show_cells, show_variable, show_all, end_as, main_outcome, outcome}
use Rattle.revision_calculus.specs.KeptBySteps.{location_count, IsTrapBelow, IsShaped, IsPlaced, PlaceLaw}
use Rattle.revision_calculus.proofs.Shapes.{shape_kept, main_shaped}

cells_count : (name : Name) (ls : List Location) (base cell count : ℕ)
    → length (show_cells name ls base cell count) ≡ count
cells_count name ls base cell zero = refl
cells_count name ls base cell (suc n) = ap suc (cells_count name ls base (suc cell) n)

variable_count : (before : List Declaration) (ls : List Location) (x : SharedDeclaration)
    → length (show_variable ls (variable_behind before x) (variable_behind before x).info.array) ≡ cells_of x.size
variable_count before ls x = by x.size
  where
    by : (size : Option ArraySize)
        → length (show_variable ls (variable_behind before (record x { size = size }))
        (variable_behind before (record x { size = size })).info.array)
        ≡ cells_of size
    by None = refl
    by (Some y) = cells_count x.name.text ls (cells before) 0 (cells_of (Some y))

pub values_count : (before es : List Declaration) (ls : List Location)
    → length (show_all (variables_behind before es) ls) ≡ cells es
values_count before [] ls = refl
values_count before (fun w ps r body ∷ es) ls = values_count (before ++ fun w ps r body ∷ []) es ls
values_count before (merge w m j r body ∷ es) ls = values_count (before ++ merge w m j r body ∷ []) es ls
values_count before (proc w ps r body ∷ es) ls = values_count (before ++ proc w ps r body ∷ []) es ls
values_count before (shared x ∷ es) ls =
    let first : List Shown = show_variable ls (variable_behind before x) (variable_behind before x).info.array in
    let rest : List Shown = show_all (variables_behind (before ++ shared x ∷ []) es) ls in
    length-append first rest ∙ ap (λ n. n + length rest) (variable_count before ls x)
    ∙ ap (λ n. cells_of x.size + n) (values_count (before ++ shared x ∷ []) es ls)

of_end : (text : List ℕ) (values : List Shown) (p : Phase) (x : Outcome) → IsTrapBelow (length values) p
    → end_as text values p ≡ Some x → IsPlaced x
of_end text values running x below e = absurd cc
of_end text values (joining q left) x below e = absurd cc
of_end text values done x below e = subst IsPlaced (let is : o.Done text values ≡ x = cc in is) tt
of_end text values (trapped t) x below e = subst IsPlaced (let is : o.Trapped text values t ≡ x = cc in is) below

pub place_law : (s : Setting) (fuel : ℕ) → PlaceLaw s fuel
place_law s fuel g reached x e =
    by g (kept_law (calculus s) (main s fuel) (IsShaped s) (shape_kept s) (main_shaped s fuel) g reached) e
  where
    by : (g : Global Local) → Everywhere (calculus s) (IsShaped s) g → outcome s g ≡ Some x → IsPlaced x
    by Twice shaped e = subst IsPlaced (let is : o.Twice ≡ x = cc in is) tt
    by (Live revs) shaped e = of_main (revs []) refl e
      where
        of_main : (m : Option (Entry Local)) → revs [] ≡ m → main_outcome s m ≡ Some x → IsPlaced x
        of_main None there f = absurd cc
        of_main (Some m) there f =
            let l : Local = local_of m in
            let values : List Shown = show_all (variables s.program) l.locations in
            let count : length values ≡ location_count s = values_count [] s.program.declarations l.locations in
            of_end l.text values l.phase x (subst (λ n. IsTrapBelow n l.phase) (sym count) (shaped [] m there).trap) f
