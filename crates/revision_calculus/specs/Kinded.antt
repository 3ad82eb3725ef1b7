-- Values of the kinds that the static rules give, in the local states of a well-typed program.
--
-- `IsAccepted` is a program without a fault; `IsKinded` is kept of the local states of its runs. `ValueLaw` is on
-- expressions, `MergeLaw` on merges, and `JoinLaw` on the merges at the joins of reached states.
use Rattle.std.specs.Prelude.{◌≡◌, ◌≢◌, ℕ, ◌++◌, replicate, IsTrue, IfOk, List, [], ◌∷◌, Option, Some, None, Ok, Err}
use Rattle.rev_num.specs.Path.{Path}
use Rattle.rev_num.specs.Value.{kind_of}
use Rattle.rev_num.specs.declared.value.Value.{Value}
use Rattle.rev_num.specs.declared.value.ValueKind.{ValueKind}
use Rattle.rev_num.specs.declared.value.ValueKind.TheVariants as kind
use Rattle.rev_num.specs.declared.outcome.Cause.TheVariants as cause
use Rattle.rev_syntax.specs.Trees.{Expression, Statements, no_statements, statements, Declaration, fun, merge, shared, proc, ProgramTree}
use Rattle.rev_syntax.specs.Small.{expression_formed, statements_small, IsSmall}
use Rattle.name_tables.specs.Names.{Name}
use Rattle.name_tables.specs.Table.{Table, find}
use Rattle.typed_programs.specs.FunRules.{fun_faults}
use Rattle.typed_programs.specs.Value.{Answer}
use Rattle.typed_programs.specs.Definitions.{merge_value_of}
use Rattle.typed_programs.specs.declared.names.Holder.{Holder}
use Rattle.typed_programs.specs.Kinds.{Names, Locals}
use Rattle.typed_programs.specs.Typing.{ScalarHas, HasKind}
use Rattle.typed_programs.specs.Program.{faults}
use Rattle.typed_programs.specs.Scopes.{cells_of, outside}
use Rattle.typed_programs.specs.Judgement.{StatementTyped, Returns}
use Rattle.typed_programs.specs.Layout.{variables}
use Rattle.revision_machine.specs.Machine.{Entry, Global, Twice, Live, Reached}
use Rattle.revision_machine.specs.Laws.{local_of}
use Rattle.revision_calculus.specs.Program.{Setting}
use Rattle.revision_calculus.specs.State.{Location, view, Frame, Phase, running, joining, done, trapped, Local}
use Rattle.revision_calculus.specs.Evaluation.{eval}
use Rattle.revision_calculus.specs.Join.{merges_of}
use Rattle.revision_calculus.specs.Calculus.{main, calculus}

-- a small tree that breaks no rule on funs and no other static rule or limit
pub record IsAccepted (p : ProgramTree) : Type 0 where
  pub small : IsSmall p
  pub funs : fun_faults p ≡ []
  pub rules : faults p ≡ []

-- ---- values

-- the value is of this kind
abbrev pub IsOf : ValueKind → Value → Type 0
IsOf t x = kind_of x ≡ t

-- there is a value, and it is of this kind
abbrev pub IsSomeOf : ValueKind → Option Value → Type 0
IsSomeOf t None = ⊥
IsSomeOf t (Some x) = IsOf t x

-- the value is of this kind, if there is one
abbrev pub IsOfIfAny : ValueKind → Option Value → Type 0
IsOfIfAny t None = Unit {0}
IsOfIfAny t (Some x) = IsOf t x

-- ---- locations

-- the kinds of the locations, in their order
abbrev pub declared_kinds : List Declaration → List ValueKind
declared_kinds [] = []
declared_kinds (shared x ∷ es) = replicate (cells_of x.size) x.holds ++ declared_kinds es
declared_kinds (fun name params result body ∷ es) = declared_kinds es
declared_kinds (merge name m j r body ∷ es) = declared_kinds es
declared_kinds (proc name params result body ∷ es) = declared_kinds es

-- the snapshot has a value of this kind there, and so have the writes, if they have one
pub record LocationIs (t : ValueKind) (m : Location) : Type 0 where
  pub base : IsOf t m.base
  pub written : IsOfIfAny t m.written

-- the locations are of these kinds
abbrev pub LocationsAre : List ValueKind → List Location → Type 0
LocationsAre [] [] = Unit {0}
LocationsAre [] (m ∷ ms) = ⊥
LocationsAre (t ∷ ts) [] = ⊥
LocationsAre (t ∷ ts) (m ∷ ms) = LocationIs t m × LocationsAre ts ms

-- ---- frames

-- The locals of a frame in which these names are in scope. Each has a value of its kind, but for the one that waits
-- for its value. A name whose block has ended may still have a value. No local has the name of a shared variable.
pub record LocalsAre (c : Names) (scope : Locals) (waits : Option Name) (values : Table Value) : Type 0 where
  pub kinds : (name : Name) (t : ValueKind) → waits ≢ Some name → find name scope ≡ Some (Some t)
      → IsSomeOf t (find name values)
  pub apart : (name : Name) (h : Holder) → c.shared name ≡ Some h → (find name scope ≡ None) × (find name values ≡ None)

-- what the first scope knows, the second knows with the same kinds
abbrev pub IsWithin : Locals → Locals → Type 0
IsWithin inner outer = (name : Name) (t : Option ValueKind) → find name inner ≡ Some t → find name outer ≡ Some t

-- The statements that remain, in a procedure with this result, where these names are in scope: each is typed with
-- some of them, since those of a block that has ended are no longer known behind it.
abbrev pub RestTyped : Names → Option ValueKind → Locals → Statements → Type 0
RestTyped c result scope no_statements = Unit {0}
RestTyped c result scope (statements x rest) =
    (known : Locals) × (after : Locals) × IsWithin known scope × StatementTyped c result known x after
    × RestTyped c result after rest

-- a frame of a procedure with this result, in which these names are in scope and this one waits for its value
pub record FrameIs (c : Names) (result : Option ValueKind) (scope : Locals) (waits : Option Name) (f : Frame) : Type
    0 where
  pub locals : LocalsAre c scope waits f.locals
  pub rest : RestTyped c result scope f.rest
  pub small : IsTrue (statements_small f.rest)

-- a left side, if there is one, takes values of this kind
abbrev pub Takes : Names → Locals → Option Name → Option ValueKind → Type 0
Takes c scope None given = Unit {0}
Takes c scope (Some name) None = ⊥
Takes c scope (Some name) (Some t) = ScalarHas (find name scope) (c.shared name) t

-- Frames, in the top one of which this left side waits for a value of this kind. In each other the left side that
-- waits takes the result of the procedure of the frame above it. What remains of a procedure with a result returns.
abbrev pub FramesAre : Names → Option Name → Option ValueKind → List Frame → Type 0
FramesAre c waits given [] = waits ≡ None
FramesAre c waits given (f ∷ fs) =
    (scope : Locals) × (result : Option ValueKind) × Takes c scope waits given × FrameIs c result scope waits f
    × Returns result f.rest × FramesAre c f.left result fs

-- the frames where a statement trapped, whose left side has no value yet
abbrev pub FramesTrapped : Names → List Frame → Type 0
FramesTrapped c [] = Unit {0}
FramesTrapped c (f ∷ fs) =
    (scope : Locals) × (result : Option ValueKind) × (waits : Option Name) × FrameIs c result scope waits f
    × FramesAre c f.left result fs

-- The frames of a revision in this phase. At a `tryjoin` the left side waits for a bool.
abbrev pub FramesAt : Names → Phase → List Frame → Type 0
FramesAt c running fs = FramesAre c None None fs
FramesAt c (joining q left) fs = FramesAre c left (Some kind.Bool) fs
FramesAt c done fs = FramesAre c None None fs
FramesAt c (trapped t) fs = FramesTrapped c fs

-- ---- local states

-- what names mean in procedures and in `main`
abbrev pub names : Setting → Names
names s = outside s.program.declarations

-- the kinds of the locations of a run
abbrev pub location_kinds : Setting → List ValueKind
location_kinds s = declared_kinds s.program.declarations

-- each value is of the kind that the static rules give
pub record IsKinded (s : Setting) (r : Path) (l : Local) : Type 0 where
  pub locations : LocationsAre (location_kinds s) l.locations
  pub frames : FramesAt (names s) l.phase l.frames

-- ---- values that are worked out

-- In a state whose values are of their kinds, an expression of a small tree that is typed with names in scope in the
-- top frame has a value of its kind, where it has one.
abbrev pub ValueLaw : Setting → Type 0
ValueLaw s =
    (l : Local) (f : Frame) (fs : List Frame) (scope known : Locals) (e : Expression) (t : ValueKind)
    → LocationsAre (location_kinds s) l.locations → l.frames ≡ f ∷ fs → LocalsAre (names s) scope None f.locals
    → IsWithin known scope
    → IsTrue (expression_formed e) → HasKind (names s) known e t → IfOk (eval s l e) (IsOf t)

-- ---- merges

-- an int, or a fault of arithmetic
abbrev pub IsNumberOrFault : Answer → Type 0
IsNumberOrFault (Ok x) = IsOf kind.Int x
IsNumberOrFault (Err cause.Overflow) = Unit {0}
IsNumberOrFault (Err cause.ZeroDivisor) = Unit {0}
IsNumberOrFault (Err cause.Index) = ⊥
IsNumberOrFault (Err cause.Assert) = ⊥
IsNumberOrFault (Err cause.JoinNone) = ⊥
IsNumberOrFault (Err cause.CallDepth) = ⊥
IsNumberOrFault (Err cause.Spent) = ⊥
IsNumberOrFault (Err (cause.Merge n f)) = ⊥

-- a merge of three ints is an int or a fault of arithmetic
abbrev pub MergeLaw : ProgramTree → Type 0
MergeLaw p =
    (n : ℕ) (m j r : Value) → IsOf kind.Int m → IsOf kind.Int j → IsOf kind.Int r
    → IsNumberOrFault (merge_value_of p n m j r)

-- what a joiner's location takes of a joinee's by the merge of this number: three ints go in
pub record IsMerge (p : ProgramTree) (k : ℕ) (joiner joinee : Location) (x : Value) : Type 0 where
  pub main : IsOf kind.Int (view joiner)
  pub join : IsOf kind.Int x
  pub root : IsOf kind.Int joinee.base
  pub answer : IsNumberOrFault (merge_value_of p k (view joiner) x joinee.base)

-- where there is a merge, and the joinee wrote
abbrev pub MergesLocation : ProgramTree → Option ℕ → Location → Location → Option Value → Type 0
MergesLocation p (Some k) joiner joinee (Some x) = IsMerge p k joiner joinee x
MergesLocation p (Some k) joiner joinee None = Unit {0}
MergesLocation p None joiner joinee x = Unit {0}

-- at each location: their merges, the joiner's and the joinee's
abbrev pub MergesLocations : ProgramTree → List (Option ℕ) → List Location → List Location → Type 0
MergesLocations p (k ∷ ks) (m ∷ ms) (j ∷ js) = MergesLocation p k m j j.written × MergesLocations p ks ms js
MergesLocations p (k ∷ ks) (m ∷ ms) [] = Unit {0}
MergesLocations p (k ∷ ks) [] js = Unit {0}
MergesLocations p [] ms js = Unit {0}

-- for any two revisions of a state
abbrev pub MergesIn : Setting → Global Local → Type 0
MergesIn s Twice = Unit {0}
MergesIn s (Live revs) =
    (r q : Path) (l j : Entry Local) → revs r ≡ Some l → revs q ≡ Some j
    → MergesLocations s.program (merges_of (variables s.program)) (local_of l).locations (local_of j).locations

-- in every state that a run reaches, whichever two revisions join
abbrev pub JoinLaw : Setting → ℕ → Type 0
JoinLaw s fuel = (g : Global Local) → Reached (calculus s) (main s fuel) g → MergesIn s g
