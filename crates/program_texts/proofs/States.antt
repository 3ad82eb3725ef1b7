-- Local states of which all fits that a trace tells of, and what an assignment keeps of them.
use Rattle.std.proofs.Common.{ℕ, zero, suc, ◌+◌, ◌^◌, ◌<◌, Bool, true, false, cond, List, [], ◌∷◌, ◌++◌, map, Option, Some, None, refl}
use Rattle.std.specs.List.{AllByRecursion}
use Rattle.rev_num.specs.Path.{Path}
use Rattle.rev_num.specs.declared.value.Value.{Value}
use Rattle.rev_syntax.specs.Trees.{Statements, no_statements, statements, Expression, Expressions}
use Rattle.name_tables.specs.Names.{Name, same}
use Rattle.name_tables.specs.Table.{Table, find}
use Rattle.typed_programs.specs.Definitions.{funs_in}
use Rattle.typed_programs.specs.Value.{array, scalar, funs_of}
use Rattle.typed_programs.specs.Layout.{SharedVariable, variables, Procedure}
use Rattle.block_run.specs.Agreement.{AreInputs}
use Rattle.revision_calculus.specs.Program.{variable_named, Setting}
use Rattle.revision_calculus.specs.State.{Location, view, view_at, write_at, fresh, Frame, Noted, forked, joined, Phase, running, joining, done, trapped, Local}
use Rattle.revision_calculus.specs.Evaluation.{top_locals, read_shared, env, eval, evals, with_local, on_top, set_local, set_named, set, give}
use Rattle.revision_calculus.specs.Step.{append, locals_of, frame_of}
use Rattle.revision_calculus.proofs.Values.{OfOk}
use Rattle.trace_diagram.specs.Lines.{FitsPath, FitsValue}
use Rattle.program_texts.specs.Written.{ExpressionWritten, ExpressionsWritten, StatementsWritten, IsWritten}
use Rattle.program_texts.proofs.WrittenTexts.{AreLines}
use Rattle.program_texts.proofs.WrittenValues.{FitsIfAny, FitsEach, SharedFits, EnvFits, value_fits, values_fit, program_funs}

-- ---- locations

pub record LocationFits (m : Location) : Type 0 where
  pub base : FitsValue m.base
  pub written : FitsIfAny m.written

abbrev pub LocationsFit : List Location → Type 0
LocationsFit ms = AllByRecursion LocationFits ms

pub view_fits : (m : Location) → LocationFits m → FitsValue (view m)
view_fits m h = by m.written h.written
  where
    by : (o : Option Value) → FitsIfAny o → FitsValue (view (record { base = m.base; written = o }))
    by None k = h.base
    by (Some x) k = k

view_at_fits : (ms : List Location) (n : ℕ) → LocationsFit ms → FitsValue (view_at ms n)
view_at_fits [] n h = refl
view_at_fits (m ∷ ms) zero h = view_fits m h.0
view_at_fits (m ∷ ms) (suc n) h = view_at_fits ms n h.1

pub write_fits : (ms : List Location) (n : ℕ) (x : Value) → LocationsFit ms → FitsValue x
    → LocationsFit (write_at ms n x)
write_fits [] n x h k = tt
write_fits (m ∷ ms) zero x h k = (record { base = h.0.base; written = k }, h.1)
write_fits (m ∷ ms) (suc n) x h k = (h.0, write_fits ms n x h.1 k)

pub fresh_fits : (xs : List Value) → FitsEach xs → LocationsFit (fresh xs)
fresh_fits [] h = tt
fresh_fits (x ∷ xs) h = (record { base = h.0; written = tt }, fresh_fits xs h.1)

pub views_fit : (ms : List Location) → LocationsFit ms → FitsEach (map view ms)
views_fit [] h = tt
views_fit (m ∷ ms) h = (view_fits m h.0, views_fit ms h.1)

-- ---- frames

abbrev LocalsFit : Table Value → Type 0
LocalsFit es = AllByRecursion (λ e. FitsValue e.1) es

pub record FrameFits (f : Frame) : Type 0 where
  pub locals : LocalsFit f.locals
  pub rest : StatementsWritten f.rest

abbrev pub FramesFit : List Frame → Type 0
FramesFit fs = AllByRecursion FrameFits fs

find_fits : (es : Table Value) (name : Name) → LocalsFit es → FitsIfAny (find name es)
find_fits [] name h = tt
find_fits (e ∷ es) name h = by (same name e.0) (find_fits es name h.1)
  where
    by : (t : Bool) → FitsIfAny (find name es) → FitsIfAny (cond t (Some e.1) (find name es))
    by true later = h.0
    by false later = later

with_local_fits : (es : Table Value) (name : Name) (x : Value) → LocalsFit es → FitsValue x
    → LocalsFit (with_local es name x)
with_local_fits [] name x h k = (k, tt)
with_local_fits (e ∷ es) name x h k = by (same name e.0) (with_local_fits es name x h.1 k)
  where
    by : (t : Bool) → LocalsFit (with_local es name x) → LocalsFit (cond t ((e.0, x) ∷ es) (e ∷ with_local es name x))
    by true later = (k, h.1)
    by false later = (h.0, later)

locals_fit : (ps : List Name) (xs : List Value) → FitsEach xs → LocalsFit (locals_of ps xs)
locals_fit [] xs h = tt
locals_fit (p ∷ ps) [] h = tt
locals_fit (p ∷ ps) (x ∷ xs) h = (h.0, locals_fit ps xs h.1)

pub frame_fits : (p : Procedure) (args : List Value) (left : Option Name) → StatementsWritten p.body → FitsEach args
    → FrameFits (frame_of p args left)
frame_fits p args left body h = record { locals = locals_fit p.params args h; rest = body }

pub append_written : (xs ys : Statements) → StatementsWritten xs → StatementsWritten ys
    → StatementsWritten (append xs ys)
append_written no_statements ys h k = k
append_written (statements x xs) ys h k = (h.0, append_written xs ys h.1 k)

pub entered_fits : (block : Statements) (fs : List Frame) → StatementsWritten block → FramesFit fs
    → FramesFit (on_top (λ f. record f { rest = append block f.rest }) fs)
entered_fits block [] k h = tt
entered_fits block (f ∷ fs) k h = (record { locals = h.0.locals; rest = append_written block f.rest k h.0.rest }, h.1)

set_top_fits : (fs : List Frame) (name : Name) (x : Value) → FramesFit fs → FitsValue x
    → FramesFit (on_top (λ f. set_local f name x) fs)
set_top_fits [] name x h k = tt
set_top_fits (f ∷ fs) name x h k =
    (record { locals = with_local_fits f.locals name x h.0.locals k; rest = h.0.rest }, h.1)

-- ---- forks and joins, and ends

abbrev pub NotedFits : Noted → Type 0
NotedFits (forked q line) = FitsPath q × (line < 2 ^ 32)
NotedFits (joined q line) = FitsPath q × (line < 2 ^ 32)

pub noted_more : (ns : List Noted) (n : Noted) → AllByRecursion NotedFits ns → NotedFits n
    → AllByRecursion NotedFits (ns ++ n ∷ [])
noted_more [] n h k = (k, tt)
noted_more (m ∷ ns) n h k = (h.0, noted_more ns n h.1 k)

abbrev pub PhaseFits : Phase → Type 0
PhaseFits running = Unit {0}
PhaseFits (joining q left) = FitsPath q
PhaseFits done = Unit {0}
PhaseFits (trapped t) = (t.line < 2 ^ 32) × FitsPath t.origin

-- ---- local states

pub record StateFits (r : Path) (l : Local) : Type 0 where
  pub path : FitsPath r
  pub locations : LocationsFit l.locations
  pub frames : FramesFit l.frames
  pub noted : AllByRecursion NotedFits l.noted
  pub text : AreLines l.text
  pub line : l.line < 2 ^ 32
  pub phase : PhaseFits l.phase

-- one that fits, with other locations, other frames or another phase

module _ {r : Path} {l : Local} (h : StateFits r l) where
  pub with_locations : (ls : List Location) → LocationsFit ls → StateFits r (record l { locations = ls })
  with_locations ls fit = record {
    path = h.path;
    locations = fit;
    frames = h.frames;
    noted = h.noted;
    text = h.text;
    line = h.line;
    phase = h.phase;
  }

  pub with_frames : (fs : List Frame) → FramesFit fs → StateFits r (record l { frames = fs })
  with_frames fs fit = record {
    path = h.path;
    locations = h.locations;
    frames = fit;
    noted = h.noted;
    text = h.text;
    line = h.line;
    phase = h.phase;
  }

  pub with_phase : (p : Phase) → PhaseFits p → StateFits r (record l { phase = p })
  with_phase p fit = record {
    path = h.path;
    locations = h.locations;
    frames = h.frames;
    noted = h.noted;
    text = h.text;
    line = h.line;
    phase = fit;
  }

-- ---- evaluation

module _ (s : Setting) (written : IsWritten s.program) (inputs : AreInputs s.inputs) (r : Path) (l : Local)
    (h : StateFits r l) where
  top_fits : (fs : List Frame) (name : Name) → FramesFit fs → FitsIfAny (find name (top_locals fs))
  top_fits [] name k = tt
  top_fits (f ∷ fs) name k = find_fits f.locals name k.0.locals

  env_fits : EnvFits (env s l)
  env_fits = record {
    local = λ name. top_fits l.frames name h.frames;
    shared = λ name. by (variable_named (variables s.program) name);
    inputs = inputs;
  }
    where
      by : (o : Option SharedVariable) → SharedFits (read_shared o l.locations)
      by None = tt
      by (Some x) = of_array x.info.array
        where
          of_array : (b : Bool)
              → SharedFits (cond b (array x.info.cells (λ i. view_at l.locations (x.info.base + i)))
              (scalar (view_at l.locations x.info.base)))
          of_array true = λ i. view_at_fits l.locations (x.info.base + i) h.locations
          of_array false = view_at_fits l.locations x.info.base h.locations

  pub eval_fits : (e : Expression) → ExpressionWritten e → OfOk FitsValue (eval s l e)
  eval_fits e = value_fits (funs_of (funs_in s.program)) (env s l) (program_funs s.program written) env_fits e

  pub evals_fit : (es : Expressions) → ExpressionsWritten es → OfOk FitsEach (evals s l es)
  evals_fit es = values_fit (funs_of (funs_in s.program)) (env s l) (program_funs s.program written) env_fits es

-- ---- assignment

pub set_fits : (s : Setting) (r : Path) (l : Local) (name : Name) (x : Value) → StateFits r l → FitsValue x
    → StateFits r (set s l name x)
set_fits s r l name x h k = by (variable_named (variables s.program) name)
  where
    by : (o : Option SharedVariable) → StateFits r (set_named o l name x)
    by (Some y) = with_locations h _ (write_fits l.locations y.info.base x h.locations k)
    by None = with_frames h _ (set_top_fits l.frames name x h.frames k)

pub give_fits : (s : Setting) (r : Path) (l : Local) (left : Option Name) (x : Option Value) → StateFits r l
    → FitsIfAny x → StateFits r (give s l left x)
give_fits s r l (Some name) (Some x) h k = set_fits s r l name x h k
give_fits s r l (Some name) None h k = h
give_fits s r l None x h k = h
