-- The outcome of a run.
--
-- `show_all` lists the values of a view by location; `outcome` is what a state gives in which `main` has ended, or that
-- is Twice.
use Rattle.std.specs.Prelude.{ℕ, zero, suc, ◌+◌, List, [], ◌∷◌, ◌++◌, Bool, true, false, Option, Some, None}
use Rattle.rev_num.specs.declared.outcome.Outcome.{Outcome}
use Rattle.rev_num.specs.declared.outcome.Outcome.TheVariants as o
use Rattle.rev_num.specs.declared.outcome.Shown.{Shown}
use Rattle.revision_machine.specs.Machine.{Entry, Global, Twice, Live}
use Rattle.revision_machine.specs.Laws.{local_of}
use Rattle.name_tables.specs.Names.{Name}
use Rattle.typed_programs.specs.Layout.{SharedVariable, variables}
use Rattle.revision_calculus.specs.Program.{Setting}
use Rattle.revision_calculus.specs.State.{Location, view_at, Phase, done, trapped, Local}

-- the cells of an array from this one on, of which there are so many, at these locations
abbrev pub show_cells : Name → List Location → (base cell : ℕ) → (count : ℕ) → List Shown
show_cells name locations base cell zero = []
show_cells name locations base cell (suc n) =
    record { name = name; cell = Some cell; value = view_at locations (base + cell) } ∷ show_cells name locations base
    (suc cell) n

abbrev pub show_variable : List Location → SharedVariable → Bool → List Shown
show_variable locations x true = show_cells x.declared.name.text locations x.info.base 0 x.info.cells
show_variable locations x false =
    record { name = x.declared.name.text; cell = None; value = view_at locations x.info.base } ∷ []

-- the values of the view by location, with their names
abbrev pub show_all : List SharedVariable → List Location → List Shown
show_all [] locations = []
show_all (x ∷ xs) locations = show_variable locations x x.info.array ++ show_all xs locations

-- of `main`, where it has ended
abbrev pub end_as : List ℕ → List Shown → Phase → Option Outcome
end_as text values done = Some (o.Done text values)
end_as text values (trapped t) = Some (o.Trapped text values t)
end_as text values _ = None

abbrev pub main_outcome : Setting → Option (Entry Local) → Option Outcome
main_outcome s None = None
main_outcome s (Some e) =
    let l : Local = local_of e in end_as l.text (show_all (variables s.program) l.locations) l.phase

-- Twice, or what `main` printed, the values of its view and how it ended
abbrev pub outcome : Setting → Global Local → Option Outcome
outcome s Twice = Some o.Twice
outcome s (Live revs) = main_outcome s (revs [])
