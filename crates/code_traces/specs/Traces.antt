-- The trace of a world of code, and of a program's code.
--   IsTraceOf      the parts of all revisions of a world, marked or not, in post-order
--   IsTheOnly      these parts are a trace, and no others are
--   EachHasTrace   the world after a complete schedule has one trace, if no revision was joined
--                  twice
--   EndsInMain     `main` is last in it
--   OneTrace       any two complete schedules have one trace
--   TracesAgree    that of a program's code is the trace of the end of every complete run
use Rattle.std.specs.Prelude.{◌≡◌, ℕ, List, Some}
use Rattle.rev_num.specs.Path.{Path}
use Rattle.typed_programs.specs.Least.{Among}
use Rattle.trace_diagram.specs.declared.diagram.Part.{Part}
use Rattle.trace_diagram.specs.Traces.{MainIsLast}
use Rattle.revision_machine.specs.Machine.{Entry, Global, Twice, Live, start, Complete}
use Rattle.revision_machine.specs.Laws.{local_of}
use Rattle.revision_machine.specs.Numbered.{Entries, World, Both, Listing, at_number, paths_of, begin, Replays, IsOver}
use Rattle.revision_calculus.specs.Program.{Setting}
use Rattle.revision_calculus.specs.State as source
use Rattle.revision_calculus.specs.Calculus.{calculus}
use Rattle.audit_rules.specs.Traces.{InPostOrder, IsTrace}
use Rattle.code_machine.specs.Local.{CodeRun, Local}
use Rattle.code_machine.specs.Machines.{numbered}
use Rattle.code_machine.specs.Starts.{FromEachStart}
pub use Rattle.program_meaning.specs.Related.{run_of}
use Rattle.program_meaning.specs.Laws.{FromStart}
use Rattle.code_traces.specs.Parts.{part_in}

-- ---- the trace of a world

-- p is the part of a revision of the world
pub record IsPartOf (g : CodeRun) (w : Entries (Local ℕ)) (p : Part) : Type 0 where
  pub number : ℕ
  pub path : Path
  pub entry : Entry (Local ℕ)
  pub stands : at_number w number ≡ Some (path, entry)
  pub is : p ≡ part_in g (paths_of w) path (local_of entry)

-- the parts of all revisions, marked or not, in ascending post-order of their paths
pub record IsListing (g : CodeRun) (w : Entries (Local ℕ)) (ps : List Part) : Type 0 where
  pub order : InPostOrder ps
  pub all : (n : ℕ) (r : Path) (e : Entry (Local ℕ)) → at_number w n ≡ Some (r, e)
      → Among ps (part_in g (paths_of w) r (local_of e))
  pub only : (p : Part) → Among ps p → IsPartOf g w p

-- the world in which a revision was joined a second time has no trace
abbrev pub IsTraceOf : CodeRun → World (Local ℕ) → List Part → Type 0
IsTraceOf g Both ps = ⊥
IsTraceOf g (Listing w) ps = IsListing g w ps

-- ---- laws

-- these parts are a trace, and no others are
pub record IsTheOnly (Is : List Part → Type 0) (trace : List Part) : Type 0 where
  pub is : Is trace
  pub only : (ps : List Part) → Is ps → ps ≡ trace

-- of every verified code, the world after each complete schedule
abbrev pub EachHasTrace : Type 0
EachHasTrace =
    FromEachStart ℕ (λ g fuel main.
    (ns : List ℕ) (w : Entries (Local ℕ))
    → Replays (numbered g) (begin (numbered g) main) ns (Listing w)
    → IsOver (numbered g) main (Listing w)
    → (trace : List Part) × IsTheOnly (IsTraceOf g (Listing w)) trace)

-- in a trace of the world after a legal schedule `main` is last
abbrev pub EndsInMain : Type 0
EndsInMain =
    FromEachStart ℕ (λ g fuel main.
    (ns : List ℕ) (w : World (Local ℕ)) → Replays (numbered g) (begin (numbered g) main) ns w
    → (ps : List Part) → IsTraceOf g w ps → MainIsLast ps)

-- both are that of a second join, or have one trace
abbrev pub HaveOneTrace : CodeRun → World (Local ℕ) → World (Local ℕ) → Type 0
HaveOneTrace g Both Both = Unit {0}
HaveOneTrace g Both (Listing u) = ⊥
HaveOneTrace g (Listing w) Both = ⊥
HaveOneTrace g (Listing w) (Listing u) =
    (trace : List Part) × IsTheOnly (IsTraceOf g (Listing w)) trace
    × IsTheOnly (IsTraceOf g (Listing u)) trace

-- of every verified code, the worlds after any two complete schedules
abbrev pub OneTrace : Type 0
OneTrace =
    FromEachStart ℕ (λ g fuel main.
    (ns ks : List ℕ) (w u : World (Local ℕ))
    → Replays (numbered g) (begin (numbered g) main) ns w → IsOver (numbered g) main w
    → Replays (numbered g) (begin (numbered g) main) ks u → IsOver (numbered g) main u
    → HaveOneTrace g w u)

-- both are that of a second join, or have one trace
abbrev pub AgreeOnTrace : Setting → World (Local ℕ) → Global source.Local → Type 0
AgreeOnTrace s Both Twice = Unit {0}
AgreeOnTrace s Both (Live revs) = ⊥
AgreeOnTrace s (Listing w) Twice = ⊥
AgreeOnTrace s (Listing w) (Live revs) =
    (trace : List Part) × IsTheOnly (IsTraceOf (run_of s) (Listing w)) trace
    × IsTheOnly (IsTrace s (Live revs)) trace

-- the world after each complete schedule of a program's code, and the end of every complete run
abbrev pub TracesAgree : Type 0
TracesAgree =
    FromStart (λ s l k.
    (ns : List ℕ) (w : World (Local ℕ))
    → Replays (numbered (run_of s)) (begin (numbered (run_of s)) k) ns w
    → IsOver (numbered (run_of s)) k w
    → (rs : List Path) (h : Global source.Local) → Complete (calculus s) (start (calculus s) l) rs h
    → AgreeOnTrace s w h)
