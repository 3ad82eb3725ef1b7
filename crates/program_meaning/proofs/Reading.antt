-- A state of the code reads as the local state of the calculus does.
use Rattle.std.proofs.Common.{◌≡◌, ◌∙◌, ◌<◌, ℕ, ◌+◌, Bool, true, false, cond, IsTrue, List, [], ◌∷◌, ◌++◌, length, Option, Some, None, refl, sym, ap, subst, arith}
use Rattle.std.specs.Prelude.{slice_get, if◌then◌else◌}
use Rattle.rev_num.specs.Path.{Path}
use Rattle.rev_num.specs.declared.value.Value.{Value}
use Rattle.rev_num.specs.declared.value.ValueKind.{ValueKind}
use Rattle.rev_num.specs.Value.{kind_of}
use Rattle.rev_syntax.specs.Trees.{Expression, Expressions, Declaration, fun, merge, shared, proc}
use Rattle.rev_syntax.specs.Small.{expression_formed, expressions_formed}
use Rattle.name_tables.specs.Names.{Name, same}
use Rattle.name_tables.specs.Table.{find}
use Rattle.typed_programs.specs.FunRules.{count}
use Rattle.typed_programs.specs.Value as value
use Rattle.typed_programs.specs.Value.{funs_of}
use Rattle.typed_programs.specs.Definitions.{funs_in}
use Rattle.typed_programs.specs.declared.names.Holder.{Holder}
use Rattle.typed_programs.specs.Kinds.{Callee, Locals}
use Rattle.typed_programs.specs.Typing.{HasKind, ArgsHave}
use Rattle.typed_programs.specs.Scopes.{shared_named, holder}
use Rattle.typed_programs.specs.Layout.{SharedVariable, variable_behind, variables_behind, variables}
use Rattle.revision_calculus.specs.Program.{variable_named, Setting}
use Rattle.revision_calculus.specs.State.{view_at, Frame, running, Local}
use Rattle.revision_calculus.specs.Evaluation.{top_locals, read_shared, env, eval, evals}
use Rattle.revision_calculus.specs.Kinded.{LocationsAre, location_kinds, names}
use Rattle.revision_calculus.proofs.LocationKinds.{IsAt, seen_at_is, Located, located}
use Rattle.rev_code.specs.declared.code.CodeBlock.{CodeBlock}
use Rattle.rev_code.specs.Words.{Word}
use Rattle.rev_code.specs.State.{State, seen_at}
use Rattle.rev_code.specs.Variables.{if_scalar, if_array, scalar, array}
use Rattle.code_generation.specs.Numbers.{Scope}
use Rattle.code_generation.specs.Expressions.{expression_size, expression_code, expressions_size, expressions_code}
use Rattle.code_generation.specs.Generated.{var_of}
use Rattle.code_generation.specs.Stands.{HasAt}
use Rattle.expression_meaning.specs.Agrees.{word, FunReads, LocalReads, ScalarReads, ArrayReads, Reads, Gives, GiveAll}
use Rattle.expression_meaning.proofs.Applying.{all_apply, args_apply}
use Rattle.expression_meaning.proofs.Typing.{typed, args_typed}
use Rattle.expression_meaning.proofs.Runs.{expression_runs, args_run}
use Rattle.expression_meaning.proofs.Words.{word_kind}
use Rattle.expression_meaning.specs.Places.{Tables, AreNames}
use Rattle.expression_meaning.specs.States.{IsShared, IsSame, AreLocals, Below}
use Rattle.expression_meaning.proofs.Locals.{kind-there, seen_there}
use Rattle.expression_meaning.proofs.Parts.{names_none}
use Rattle.program_meaning.proofs.Linked.{IsLinked}

-- ---- shared variables

-- the first variable of a name is declared as the name means
abbrev Declared : Option SharedVariable → Option Holder → Type 0
Declared None None = Unit {0}
Declared None (Some h) = ⊥
Declared (Some y) None = ⊥
Declared (Some y) (Some h) = h ≡ holder y.declared

declared_is : (before es : List Declaration) (name : Name)
    → Declared (variable_named (variables_behind before es) name) (shared_named es name)
declared_is before [] name = tt
declared_is before (fun w ps r body ∷ es) name = declared_is (before ++ fun w ps r body ∷ []) es name
declared_is before (merge w m j r body ∷ es) name = declared_is (before ++ merge w m j r body ∷ []) es name
declared_is before (proc w ps r body ∷ es) name = declared_is (before ++ proc w ps r body ∷ []) es name
declared_is before (shared x ∷ es) name = by (same name x.name.text) (declared_is (before ++ shared x ∷ []) es name)
  where
    by : (d : Bool)
        → Declared (variable_named (variables_behind (before ++ shared x ∷ []) es) name) (shared_named es name)
        → Declared
        (cond d (Some (variable_behind before x)) (variable_named (variables_behind (before ++ shared x ∷ []) es) name))
        (cond d (Some (holder x)) (shared_named es name))
    by true later = refl
    by false later = later

module _ (s : Setting) where
  -- the variable of a name, as the name means
  pub record Variable (name : Name) (h : Holder) : Type 0 where
    pub y : SharedVariable
    pub named : variable_named (variables s.program) name ≡ Some y
    pub array : y.info.array ≡ h.array
    pub one : h.array ≡ false → y.info.cells ≡ 1
    pub kinds : (i : ℕ) → i < y.info.cells → IsAt (location_kinds s) (y.info.base + i) h.kind
    pub holds : y.declared.holds ≡ h.kind

  pub variable : (name : Name) (h : Holder) → (names s).shared name ≡ Some h → Variable name h
  variable name h e =
      by (variable_named (variables s.program) name) (shared_named s.program.declarations name) refl e
      (located [] s.program.declarations name) (declared_is [] s.program.declarations name)
    where
      by : (o : Option SharedVariable) (m : Option Holder) → variable_named (variables s.program) name ≡ o → m ≡ Some h
          → Located (location_kinds s) o m → Declared o m → Variable name h
      by None None q e at is = absurd (let z : None ≡ Some h = e in cc)
      by None (Some k) q e at is = absurd at
      by (Some y) None q e at is = absurd at
      by (Some y) (Some k) q e at is =
          let same : k ≡ h = cc in
          let at' : Located (location_kinds s) (Some y) (Some h) =
          subst (λ z. Located (location_kinds s) (Some y) (Some z)) same at in
          record {
            y = y;
            named = q;
            array = at'.0;
            one = at'.1;
            kinds = at'.2;
            holds = ap (λ z. z.kind) (sym is ∙ same);
          }

  -- a name that is no shared variable has none
  pub no_variable : (name : Name) → (names s).shared name ≡ None → variable_named (variables s.program) name ≡ None
  no_variable name e =
      by (variable_named (variables s.program) name) (shared_named s.program.declarations name) refl e
      (declared_is [] s.program.declarations name)
    where
      by : (o : Option SharedVariable) (m : Option Holder) → variable_named (variables s.program) name ≡ o → m ≡ None
          → Declared o m → variable_named (variables s.program) name ≡ None
      by None m q e is = q
      by (Some y) None q e is = absurd is
      by (Some y) (Some k) q e is = absurd (let z : Some k ≡ None = e in cc)

  first_kind : (name : Name) (h : Holder) (x : Variable name h) → h.array ≡ false
      → IsAt (location_kinds s) x.y.info.base h.kind
  first_kind name h x flat =
      let one = x.one flat in
      subst (λ n. IsAt (location_kinds s) n h.kind) (let z : x.y.info.base + 0 ≡ x.y.info.base = omega arith in z)
      (x.kinds 0 (omega (arith, one)))

  module _ (g : Tables) where
    -- a running revision, in whose top frame these names are in scope
    pub record Ready (b : CodeBlock) (scope : Scope) (l : Local) (f : Frame) (fs : List Frame)
        (c : State Path) : Type 0 where
      pub shared : IsShared l c
      pub frames : l.frames ≡ f ∷ fs
      pub is : slice_get g.setting.code.blocks c.block ≡ Some b
      pub locals : AreLocals b.locals scope None f.locals c.locals
      pub kinded : LocationsAre (location_kinds s) l.locations
      pub apart : (name : Name) (h : Holder) → (names s).shared name ≡ Some h → find name f.locals ≡ None
      pub phase : l.phase ≡ running
      pub below : Below s g f.left b.result fs c.below

    module _ (lk : IsLinked s g) where
      pub scalar_there : (name : Name) (y : SharedVariable) → variable_named (variables s.program) name ≡ Some y
          → y.info.array ≡ false
          → scalar g.setting.code.vars (g.numbers.var name)
          ≡ Some (record { var = var_of s.program.declarations y; first = y.info.base })
      scalar_there name y named flat =
          ap if_scalar (lk.vars name y named)
          ∙ ap (λ d. if d then None else Some (record { var = var_of s.program.declarations y; first = y.info.base }))
          flat

      pub array_there : (name : Name) (y : SharedVariable) → variable_named (variables s.program) name ≡ Some y
          → y.info.array ≡ true
          → array g.setting.code.vars (g.numbers.var name)
          ≡ Some (record { var = var_of s.program.declarations y; first = y.info.base })
      array_there name y named is_array =
          ap if_array (lk.vars name y named)
          ∙ ap (λ d. if d then Some (record { var = var_of s.program.declarations y; first = y.info.base }) else None)
          is_array

      module _ (b : CodeBlock) (scope : Scope) (ls : Locals) (next : ℕ) (l : Local) (f : Frame) (fs : List Frame)
          (c : State Path) (rd : Ready b scope l f fs c) (are : AreNames b.locals scope ls next) where
        local_reads : (name : Name) (t : ValueKind) → find name ls ≡ Some (Some t)
            → (m : ℕ) × (find name scope ≡ Some m) × LocalReads (env s l) c name t m
        local_reads name t h =
            let m = are.local name (Some t) h in
            let d = are.kind name m.0 m.1 in
            let tt' : d.0 ≡ t = (let z : Some (Some d.0) ≡ Some (Some t) = sym d.1 ∙ h in cc) in
            let x = by (find name f.locals) refl m.0 (rd.locals.same name m.0 (λ e. cc) m.1) in
            let kind : kind_of x.0 ≡ t =
            sym (word_kind x.0)
            ∙ kind-there c.locals m.0 d.0 (word x.0) (ap (λ q. slice_get q m.0) rd.locals.kinds ∙ d.2) x.2 ∙ tt' in
            (m.0, m.1, (x.0, ap (λ z. find name (top_locals z)) rd.frames ∙ x.1, kind, x.2))
          where
            by : (o : Option Value) → find name f.locals ≡ o → (m : ℕ) → IsSame o (slice_get c.locals m)
                → (x : Value) × (find name f.locals ≡ Some x) × (slice_get c.locals m ≡ Some (word x))
            by None q m e = absurd e
            by (Some x) q m e = (x, q, e)

        scalar_reads : (name : Name) (h : Holder) → (names s).shared name ≡ Some h → h.array ≡ false
            → ScalarReads g.setting (g.numbers.var name) (env s l) c name h
        scalar_reads name h e flat =
            let x = variable name h e in
            let y = x.y in
            let plain : y.info.array ≡ false = x.array ∙ flat in
            let at = first_kind name h x flat in (
              record { var = var_of s.program.declarations y; first = y.info.base },
              view_at l.locations y.info.base,
              scalar_there name y x.named plain,
              ap (λ o. read_shared o l.locations) x.named
                  ∙ ap (λ d.
                  if d then value.array y.info.cells (λ i. view_at l.locations (y.info.base + i))
                  else value.scalar (view_at l.locations y.info.base))
                  plain,
              seen_at_is (location_kinds s) l.locations y.info.base h.kind rd.kinded at,
              ap (λ z. seen_at z y.info.base) rd.shared.0
                  ∙ seen_there (location_kinds s) l.locations y.info.base h.kind rd.kinded at,
            )

        array_reads : (name : Name) (h : Holder) → (names s).shared name ≡ Some h → h.array ≡ true
            → ArrayReads g.setting (g.numbers.var name) (env s l) c name h
        array_reads name h e is_array =
            let x = variable name h e in
            let y = x.y in
            let whole : y.info.array ≡ true = x.array ∙ is_array in (
              record { var = var_of s.program.declarations y; first = y.info.base },
              (λ i. view_at l.locations (y.info.base + i)),
              array_there name y x.named whole,
              ap (λ o. read_shared o l.locations) x.named
                  ∙ ap (λ d.
                  if d then value.array y.info.cells (λ i. view_at l.locations (y.info.base + i))
                  else value.scalar (view_at l.locations y.info.base))
                  whole,
              λ i less. (
                seen_at_is (location_kinds s) l.locations (y.info.base + i) h.kind rd.kinded (x.kinds i less),
                ap (λ z. seen_at z (y.info.base + i)) rd.shared.0
                    ∙ seen_there (location_kinds s) l.locations (y.info.base + i) h.kind rd.kinded (x.kinds i less),
              ),
            )

        pub reads : Reads g.setting g.numbers b scope (names s) ls (env s l) c
        reads = record {
          is = rd.is;
          locals = local_reads;
          outside = λ name h gone e. (
            names_none b.locals scope ls next name are gone,
            ap (λ z. find name (top_locals z)) rd.frames ∙ rd.apart name h e,
          );
          scalars = λ name h gone e plain. scalar_reads name h e plain;
          arrays = λ name h gone e whole. array_reads name h e whole;
          inputs = λ q. lk.inputs;
        }

        abbrev Can : Name → Callee → Type 0
        Can name f = FunReads g.setting (g.numbers.fun name) f (funs_of (funs_in s.program) name)

        pub evaluates : (e : Expression) (t : ValueKind) (at : ℕ) (stack : List (Word Path)) → HasKind (names s) ls e t
            → IsTrue (expression_formed e) → HasAt b.instrs at (expression_code g.numbers scope e at)
            → Gives g.setting c at stack (at + expression_size e) stack t (eval s l e)
        evaluates e t at stack has formed here =
            expression_runs g.setting g.numbers b scope (names s) ls (funs_of (funs_in s.program)) (env s l) c reads e t
            at stack (typed (names s) ls Can e t has formed (all_apply (names s) Can lk.funs e)) here

        pub evaluates_all : (q : Callee) (es : Expressions) (at : ℕ) (stack : List (Word Path))
            → count es ≡ length q.params → ArgsHave (names s) ls q.params 0 es → IsTrue (expressions_formed es)
            → HasAt b.instrs at (expressions_code g.numbers scope es at)
            → GiveAll g.setting c at stack (at + expressions_size es) stack q.params (evals s l es)
        evaluates_all q es at stack many has formed here =
            args_run g.setting g.numbers b scope (names s) ls (funs_of (funs_in s.program)) (env s l) c reads q.params
            es at stack
            (args_typed (names s) ls Can q.params q.params 0 es
            (λ i. ap (slice_get q.params) (let z : 0 + i ≡ i = omega arith in z)) many has formed
            (args_apply (names s) Can lk.funs es))
            here
