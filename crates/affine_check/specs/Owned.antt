-- Local states in which each handle is owned, and how many live places of a state name a revision.
--
-- `count` is over a table of locals, and `owned` over all of a local state.
-- `IsOwned` is what each step keeps of a local
-- state, `UsesHandlesOnce` is what it asks of the program, and `OneOwner` is what follows for all revisions.
use Rattle.std.specs.Prelude.{◌≡◌, ◌≢◌, ℕ, ◌+◌, ◌≤◌, Bool, true, false, cond, List, [], ◌∷◌, Option, Some, None}
use Rattle.rev_num.specs.Path.{Path}
use Rattle.rev_num.specs.Path as path
use Rattle.rev_num.specs.declared.value.Value.{Value}
use Rattle.rev_num.specs.declared.value.Value.TheVariants as v
use Rattle.rev_num.specs.declared.value.ValueKind.{ValueKind}
use Rattle.rev_num.specs.declared.value.ValueKind.TheVariants as k
use Rattle.rev_syntax.specs.Trees.{Statements, no_statements, statements, Declaration, fun, merge, shared, proc, ProgramTree}
use Rattle.name_tables.specs.Names.{Name}
use Rattle.name_tables.specs.Table.{Table, find}
use Rattle.typed_programs.specs.declared.names.Holder.{Holder}
use Rattle.typed_programs.specs.Kinds.{Names, Locals}
use Rattle.typed_programs.specs.Typing.{ScalarHas}
use Rattle.typed_programs.specs.Scopes.{outside, with_params}
use Rattle.typed_programs.specs.Judgement.{StatementTyped}
use Rattle.revision_machine.specs.Machine.{Entry, Plain, Joined}
use Rattle.revision_calculus.specs.Program.{Setting}
use Rattle.revision_calculus.specs.State.{Frame, Phase, running, joining, done, trapped, Local}
use Rattle.revision_calculus.specs.Kinded.{IsWithin, names}
use Rattle.revision_calculus.specs.HandlesHeld.{LocationsHold}
use Rattle.affine_check.specs.Live.{live, statement_passes, without, StatementOnce, StatementsOnce}

-- ---- how often a revision is named

-- 1 where the value is the handle of the revision at q
abbrev pub hit : Value → Path → ℕ
hit (v.Rev (Some p)) q = cond (path.same p q) 1 0
hit (v.Rev None) q = 0
hit (v.Int z) q = 0
hit (v.Bool x) q = 0

-- how many of these names have the handle of q as the value that they find
abbrev pub count : (Name → Bool) → Table Value → Path → ℕ
count b [] q = 0
count b (e ∷ es) q = cond (b e.0) (hit e.1 q) 0 + count (without b e.0) es q

-- the locals that are used before they get a new value, where this one waits for its value
abbrev pub live_locals : Option Name → Statements → Name → Bool
live_locals None rest = λ n. live n rest false
live_locals (Some w) rest = without (λ n. live n rest false) w

abbrev pub frames_count : Option Name → List Frame → Path → ℕ
frames_count waits [] q = 0
frames_count waits (f ∷ fs) q = count (live_locals waits f.rest) f.locals q + frames_count f.left fs q

abbrev pub owned_at : Phase → List Frame → Path → ℕ
owned_at running fs q = frames_count None fs q
owned_at (joining p left) fs q = hit (v.Rev (Some p)) q + frames_count left fs q
owned_at done fs q = 0
owned_at (trapped t) fs q = 0

-- how many live places of the state name the revision at q
abbrev pub owned : Local → Path → ℕ
owned l q = owned_at l.phase l.frames q

-- ---- what each step keeps

-- what remains of a frame uses handles once
abbrev pub RestOnce : Names → Option ValueKind → Locals → Statements → Type 0
RestOnce c result scope no_statements = Unit {0}
RestOnce c result scope (statements x rest) =
    (known : Locals) × (after : Locals) × IsWithin known scope × StatementTyped c result known x after
    × StatementOnce c result known x (λ n. live n rest false)
    × (statement_passes x ≡ true → RestOnce c result after rest)

-- A local in scope that has a handle is of kind rev, but for the one that waits. No local has the name of a shared
-- variable.
pub record LocalsRev (c : Names) (scope : Locals) (waits : Option Name) (values : Table Value) : Type 0 where
  pub rev : (name : Name) (t : ValueKind) (q : Path) → waits ≢ Some name → find name scope ≡ Some (Some t)
      → find name values ≡ Some (v.Rev (Some q)) → t ≡ k.Rev
  pub apart : (name : Name) (h : Holder) → c.shared name ≡ Some h → (find name scope ≡ None) × (find name values ≡ None)

pub record FrameOwn (c : Names) (result : Option ValueKind) (scope : Locals) (waits : Option Name) (f : Frame) : Type
    0 where
  pub locals : LocalsRev c scope waits f.locals
  pub rest : RestOnce c result scope f.rest

-- a left side takes values of this kind, and is no shared variable of kind rev
abbrev pub Fits : Names → Locals → Option Name → Option ValueKind → Type 0
Fits c scope None given = Unit {0}
Fits c scope (Some name) None = ⊥
Fits c scope (Some name) (Some t) =
    ScalarHas (find name scope) (c.shared name) t × ((h : Holder) → c.shared name ≡ Some h → h.kind ≢ k.Rev)

abbrev pub FramesOwn : Names → Option Name → Option ValueKind → List Frame → Type 0
FramesOwn c waits given [] = waits ≡ None
FramesOwn c waits given (f ∷ fs) =
    (scope : Locals) × (result : Option ValueKind) × Fits c scope waits given × FrameOwn c result scope waits f
    × FramesOwn c f.left result fs

abbrev pub FramesOwnAt : Names → Phase → List Frame → Type 0
FramesOwnAt c running fs = FramesOwn c None None fs
FramesOwnAt c (joining q left) fs = FramesOwn c left (Some k.Bool) fs
FramesOwnAt c done fs = Unit {0}
FramesOwnAt c (trapped t) fs = Unit {0}

pub record IsOwned (s : Setting) (l : Local) : Type 0 where
  pub locations : (q : Path) → LocationsHold l.locations q → ⊥
  pub frames : FramesOwnAt (names s) l.phase l.frames

-- ---- programs

abbrev pub DeclarationsOnce : Names → List Declaration → Type 0
DeclarationsOnce c [] = Unit {0}
DeclarationsOnce c (fun w ps r body ∷ es) = DeclarationsOnce c es
DeclarationsOnce c (merge w m j r body ∷ es) = DeclarationsOnce c es
DeclarationsOnce c (shared x ∷ es) = DeclarationsOnce c es
DeclarationsOnce c (proc w ps r body ∷ es) =
    StatementsOnce c r (with_params [] ps) body (λ n. false) × DeclarationsOnce c es

-- each procedure and `main` use handles once
pub record UsesHandlesOnce (p : ProgramTree) : Type 0 where
  pub declarations : DeclarationsOnce (outside p.declarations) p.declarations
  pub main : StatementsOnce (outside p.declarations) None [] p.main (λ n. false)

-- ---- states

-- Of these revisions each is named by at most one live place of those that no join has marked,
-- and a marked one by none.
pub record OneOwner (revs : Path → Option (Entry Local)) : Type 0 where
  pub one : (r : Path) (l : Local) (q : Path) → revs r ≡ Some (Plain l) → owned l q ≤ 1
  pub two : (r r' : Path) (l l' : Local) (q : Path) → r ≢ r' → revs r ≡ Some (Plain l) → revs r' ≡ Some (Plain l')
      → owned l q + owned l' q ≤ 1
  pub marked : (r : Path) (l : Local) (q : Path) (lq : Local) → revs r ≡ Some (Plain l) → revs q ≡ Some (Joined lq)
      → owned l q ≡ 0
