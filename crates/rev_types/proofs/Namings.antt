-- As a shared variable, a procedure or a fun a name means the first such declaration of it.
use Rattle.std.proofs.Common.{◌≡◌, inl, inr, Bool, true, false, cond, Option, Some, None, List, [], ◌∷◌, refl, sym, ap, subst}
use Rattle.std.specs.Cmp.Lexicographic.{same_text, other_text}
use Rattle.rev_syntax.specs.Trees.{Declaration, fun, merge, shared, proc}
use Rattle.name_tables.specs.Names.{Name, same}
use Rattle.typed_programs.specs.Scopes.{holder, shared_named, proc_named, fun_named}
use Rattle.rev_types.specs.Naming.{DeclaresShared, DeclaresProc, DeclaresFun, Means, FirstCounts}

module _ {V : Type 0} (declares : Declaration → V → Type 0) where
  none_means : Means declares [] None
  none_means e y m d = absurd m

  -- the first of all
  hit : (e : Declaration) (es : List Declaration) (x : V) → declares e x → Means declares (e ∷ es) (Some x)
  hit e es x d =
      record { before = []; declaration = e; behind = es; parts = refl; declared = d; first = λ f y m h. absurd m }

  -- one that declares nothing
  miss : (e : Declaration) (es : List Declaration) (o : Option V) → ((y : V) → declares e y → ⊥) → Means declares es o
      → Means declares (e ∷ es) o
  miss e es None n h = λ f y m d. elim m [ inl is ↦ n y (subst (λ z. declares z y) (sym is) d) | inr r ↦ h f y r d ]
  miss e es (Some x) n h = record {
    before = e ∷ h.before;
    declaration = h.declaration;
    behind = h.behind;
    parts = ap (λ r. e ∷ r) h.parts;
    declared = h.declared;
    first = λ f y m d. elim m [ inl is ↦ n y (subst (λ z. declares z y) (sym is) d) | inr r ↦ h.first f y r d ];
  }

  -- by a test of the name
  tested : (b : Bool) (e : Declaration) (es : List Declaration) (x : V) (o : Option V) → (true ≡ b → declares e x)
      → (false ≡ b → (y : V) → declares e y → ⊥) → Means declares es o
      → Means declares (e ∷ es) (cond b (Some x) o)
  tested true e es x o yes_it no_it h = hit e es x (yes_it refl)
  tested false e es x o yes_it no_it h = miss e es o (no_it refl) h

shared_first : (es : List Declaration) (name : Name) → Means (DeclaresShared name) es (shared_named es name)
shared_first [] name = none_means (DeclaresShared name)
shared_first (shared x ∷ es) name =
    tested (DeclaresShared name) (same name x.name.text) (shared x) es (holder x) (shared_named es name)
    (λ e. (sym (same_text name x.name.text e), refl))
    (λ e y d. other_text name x.name.text e (sym d.0)) (shared_first es name)
shared_first (fun w ps r body ∷ es) name =
    miss (DeclaresShared name) (fun w ps r body) es (shared_named es name) (λ y d. d) (shared_first es name)
shared_first (merge w m j r body ∷ es) name =
    miss (DeclaresShared name) (merge w m j r body) es (shared_named es name) (λ y d. d) (shared_first es name)
shared_first (proc w ps r body ∷ es) name =
    miss (DeclaresShared name) (proc w ps r body) es (shared_named es name) (λ y d. d) (shared_first es name)

proc_first : (es : List Declaration) (name : Name) → Means (DeclaresProc name) es (proc_named es name)
proc_first [] name = none_means (DeclaresProc name)
proc_first (proc w ps r body ∷ es) name =
    tested (DeclaresProc name) (same name w.text) (proc w ps r body) es (record { params = ps; result = r })
    (proc_named es name) (λ e. (sym (same_text name w.text e), refl))
    (λ e y d. other_text name w.text e (sym d.0)) (proc_first es name)
proc_first (fun w ps r body ∷ es) name =
    miss (DeclaresProc name) (fun w ps r body) es (proc_named es name) (λ y d. d) (proc_first es name)
proc_first (merge w m j r body ∷ es) name =
    miss (DeclaresProc name) (merge w m j r body) es (proc_named es name) (λ y d. d) (proc_first es name)
proc_first (shared x ∷ es) name =
    miss (DeclaresProc name) (shared x) es (proc_named es name) (λ y d. d) (proc_first es name)

fun_first : (es : List Declaration) (name : Name) → Means (DeclaresFun name) es (fun_named es name)
fun_first [] name = none_means (DeclaresFun name)
fun_first (fun w ps r body ∷ es) name =
    tested (DeclaresFun name) (same name w.text) (fun w ps r body) es (record { params = ps; result = Some r })
    (fun_named es name) (λ e. (sym (same_text name w.text e), refl))
    (λ e y d. other_text name w.text e (sym d.0)) (fun_first es name)
fun_first (merge w m j r body ∷ es) name =
    miss (DeclaresFun name) (merge w m j r body) es (fun_named es name) (λ y d. d) (fun_first es name)
fun_first (shared x ∷ es) name =
    miss (DeclaresFun name) (shared x) es (fun_named es name) (λ y d. d) (fun_first es name)
fun_first (proc w ps r body ∷ es) name =
    miss (DeclaresFun name) (proc w ps r body) es (fun_named es name) (λ y d. d) (fun_first es name)

pub first_counts : FirstCounts
first_counts es name = record { shared = shared_first es name; procs = proc_first es name; funs = fun_first es name }
