-- As a shared variable, as a procedure and as a fun a name means the first declaration that declares
-- it so, anywhere in the text.
use Rattle.std.specs.Prelude.{◌≡◌, Option, Some, None, List, ◌∷◌, ◌++◌}
use Rattle.rev_syntax.specs.Trees.{Declaration, fun, merge, shared, proc}
use Rattle.typed_programs.specs.Least.{Among}
use Rattle.name_tables.specs.Names.{Name}
use Rattle.typed_programs.specs.declared.names.Holder.{Holder}
use Rattle.typed_programs.specs.Kinds.{Callee}
use Rattle.typed_programs.specs.Scopes.{holder, shared_named, proc_named, fun_named}

-- a declaration declares this name as this shared variable, as this procedure, as this fun

abbrev pub DeclaresShared : Name → Declaration → Holder → Type 0
DeclaresShared name (shared x) h = (x.name.text ≡ name) × (h ≡ holder x)
DeclaresShared name (fun w ps r body) h = ⊥
DeclaresShared name (merge w m j r body) h = ⊥
DeclaresShared name (proc w ps r body) h = ⊥

abbrev pub DeclaresProc : Name → Declaration → Callee → Type 0
DeclaresProc name (proc w ps r body) f = (w.text ≡ name) × (f ≡ record { params = ps; result = r })
DeclaresProc name (fun w ps r body) f = ⊥
DeclaresProc name (merge w m j r body) f = ⊥
DeclaresProc name (shared x) f = ⊥

abbrev pub DeclaresFun : Name → Declaration → Callee → Type 0
DeclaresFun name (fun w ps r body) f = (w.text ≡ name) × (f ≡ record { params = ps; result = Some r })
DeclaresFun name (merge w m j r body) f = ⊥
DeclaresFun name (shared x) f = ⊥
DeclaresFun name (proc w ps r body) f = ⊥

-- of the declarations that declare something the first declares this
pub record IsFirstOf {V : Type 0} (declares : Declaration → V → Type 0) (es : List Declaration) (x : V) : Type 0 where
  pub before : List Declaration
  pub declaration : Declaration
  pub behind : List Declaration
  pub parts : es ≡ before ++ declaration ∷ behind
  pub declared : declares declaration x
  pub first : (e : Declaration) (y : V) → Among before e → declares e y → ⊥

-- what the first declares, or nothing where none does
abbrev pub Means : {V : Type 0} → (Declaration → V → Type 0) → List Declaration → Option V → Type 0
Means {V} declares es (Some x) = IsFirstOf declares es x
Means {V} declares es None = (e : Declaration) (y : V) → Among es e → declares e y → ⊥

pub record FirstDeclarations (es : List Declaration) (name : Name) : Type 0 where
  pub shared : Means (DeclaresShared name) es (shared_named es name)
  pub procs : Means (DeclaresProc name) es (proc_named es name)
  pub funs : Means (DeclaresFun name) es (fun_named es name)

-- with two declarations of one name the first counts
abbrev pub FirstCounts : Type 0
FirstCounts = (es : List Declaration) (name : Name) → FirstDeclarations es name
