-- Traces as lists of parts, and what an audit's verdict says of them.
use Rattle.std.specs.Prelude.{◌≡◌, ◌⊎◌, ℕ, true, List, [], ◌∷◌, map, Option, Some, None, if◌then◌else◌}
use Rattle.rev_num.specs.Path.{Path, same, before}
use Rattle.typed_programs.specs.Least.{Among}
use Rattle.revision_machine.specs.Machine.{Entry, Global, Twice, Live, Complete}
use Rattle.revision_machine.specs.Laws.{local_of}
use Rattle.revision_calculus.specs.Program.{Setting}
use Rattle.revision_calculus.specs.State.{Local}
use Rattle.revision_calculus.specs.Calculus.{main, calculus}
use Rattle.revision_calculus.specs.Complete.{start_of}
use Rattle.revision_calculus.specs.Kinded.{IsAccepted}
use Rattle.audit_rules.specs.Audited.{Computed, IsYes, IsNo, IsComputed, OneVerdict}
use Rattle.trace_diagram.specs.declared.diagram.Part.{Part}
use Rattle.trace_diagram.specs.Shown.{shown_part}
use Rattle.audit_rules.specs.Parts.{part_of, calculus_parts}

-- the part of the revision at this path
abbrev pub part_at : List Part → Path → Option Part
part_at [] r = None
part_at (p ∷ ps) r = if same p.path r then Some p else part_at ps r

-- the revisions of the parts
abbrev pub paths_of : List Part → List Path
paths_of [] = []
paths_of (p ∷ ps) = p.path ∷ paths_of ps

-- each revision comes before those behind it
abbrev pub InPostOrder : List Part → Type 0
InPostOrder [] = Unit {0}
InPostOrder (p ∷ ps) = ((q : Part) → Among ps q → before p.path q.path ≡ true) × InPostOrder ps

abbrev pub IsPartOf : Setting → Path → Option Part → Option (Entry Local) → Type 0
IsPartOf s r None None = Unit {0}
IsPartOf s r None (Some e) = ⊥
IsPartOf s r (Some p) None = ⊥
IsPartOf s r (Some p) (Some e) = p ≡ part_of s r (local_of e)

-- the trace of a state: one part for each revision, marked or not, in post-order
abbrev pub IsTrace : Setting → Global Local → List Part → Type 0
IsTrace s Twice ps = ⊥
IsTrace s (Live revs) ps = InPostOrder ps × ((r : Path) → IsPartOf s r (part_at ps r) (revs r))

-- two stated parts of a revision, or none, are the same but for the number of a merge's location,
-- which their lines do not have
abbrev pub SameStated : Option Part → Option Part → Type 0
SameStated None None = Unit {0}
SameStated None (Some q) = ⊥
SameStated (Some p) None = ⊥
SameStated (Some p) (Some q) = shown_part p ≡ shown_part q

-- two traces are the same where their texts are
abbrev pub SameTrace : List Part → List Part → Type 0
SameTrace ps qs = map shown_part ps ≡ map shown_part qs

-- the verdict yes of these stated parts
abbrev pub SaysYes : Setting → ℕ → List Part → Type 0
SaysYes s fuel ps = IsYes (calculus s) (calculus_parts s fuel) (main s fuel) (part_at ps)

abbrev pub SaysNo : Setting → ℕ → List Part → Path → Option Part → Computed Part → Type 0
SaysNo s fuel ps = IsNo (calculus s) (calculus_parts s fuel) (main s fuel) (part_at ps)

-- ---- laws, for each program that breaks no static rule, with any input, fuel and share

-- the final state is not Twice, and these parts are its trace by their texts, which is the only one
pub record IsTold (s : Setting) (stated : List Part) (g : Global Local) : Type 0 where
  pub not_twice : g ≡ Twice → ⊥
  pub trace : List Part
  pub is_trace : IsTrace s g trace
  pub same : SameTrace stated trace
  pub only : (ps : List Part) → IsTrace s g ps → SameTrace stated ps

-- a yes to parts in post-order tells of the end of every complete run
abbrev pub YesTells : Setting → ℕ → Type 0
YesTells s fuel =
    (stated : List Part) → InPostOrder stated → SaysYes s fuel stated → (rs : List Path) (g : Global Local)
    → Complete (calculus s) (start_of s fuel) rs g → IsTold s stated g

-- the trace of the end of a complete run has a yes, by its text
abbrev pub TraceHasYes : Setting → ℕ → Type 0
TraceHasYes s fuel =
    (rs : List Path) (g : Global Local) (trace stated : List Part) → Complete (calculus s) (start_of s fuel) rs g
    → IsTrace s g trace → SameTrace stated trace → SaysYes s fuel stated

abbrev pub IsComputedPart : Setting → ℕ → List Part → Path → Computed Part → Type 0
IsComputedPart s fuel stated = IsComputed (calculus s) (calculus_parts s fuel) (main s fuel) (part_at stated)

-- each revision has one computed part
pub record HasComputed (s : Setting) (fuel : ℕ) (stated : List Part) (r : Path) : Type 0 where
  pub part : Computed Part
  pub is : IsComputedPart s fuel stated r part
  pub only : (c : Computed Part) → IsComputedPart s fuel stated r c → c ≡ part

abbrev pub EachIsComputed : Setting → ℕ → Type 0
EachIsComputed s fuel = (stated : List Part) (r : Path) → HasComputed s fuel stated r

-- there is not both a yes and a no, and a no names one revision with its stated and its computed part
abbrev pub VerdictIsOne : Setting → ℕ → Type 0
VerdictIsOne s fuel =
    (stated : List Part) → OneVerdict (calculus s) (calculus_parts s fuel) (main s fuel) (part_at stated)

-- a yes, or a no with the first revision in post-order that differs
abbrev pub HasVerdict : Setting → ℕ → Type 0
HasVerdict s fuel =
    (stated : List Part) → SaysYes s fuel stated
    ⊎ ((r : Path) × (c : Computed Part) × SaysNo s fuel stated r (part_at stated r) c)

-- the end of a complete run that is not Twice has a trace
abbrev pub EndHasTrace : Setting → ℕ → Type 0
EndHasTrace s fuel =
    (rs : List Path) (g : Global Local) → Complete (calculus s) (start_of s fuel) rs g → (g ≡ Twice → ⊥)
    → (trace : List Part) × IsTrace s g trace

-- what holds of each program without a fault, with any fuel
abbrev pub Always : (Setting → ℕ → Type 0) → Type 0
Always Law = (s : Setting) (fuel : ℕ) → IsAccepted s.program → Law s fuel
