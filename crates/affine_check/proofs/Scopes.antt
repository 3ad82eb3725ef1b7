-- Names in scope, locals and what remains: what a `let`, a block, a call and an assignment do to them.
use Rattle.std.proofs.Common.{◌≡◌, inl, inr, ◌∙◌, ◌≢◌, ℕ, Bool, true, false, cond, List, [], ◌∷◌, Option, Some, None, refl, sym, ap, subst}
use Rattle.std.specs.Prelude.{◌+◌, if◌then◌else◌}
use Rattle.std.specs.Cmp.Lexicographic.{other_text}
use Rattle.rev_num.specs.Path.{Path}
use Rattle.rev_num.specs.declared.value.Value.{Value}
use Rattle.rev_num.specs.declared.value.Value.TheVariants as v
use Rattle.rev_num.specs.declared.value.ValueKind.{ValueKind}
use Rattle.rev_num.specs.declared.value.ValueKind.TheVariants as k
use Rattle.rev_syntax.specs.Trees.{PlacedName, Parameter, statement, Statements, no_statements, statements, Declaration, fun, merge, shared, proc}
use Rattle.typed_programs.specs.Least.{Among}
use Rattle.name_tables.specs.Names.{Name, same}
use Rattle.name_tables.specs.Table.{Table, find, added}
use Rattle.typed_programs.specs.Definitions.{names_of}
use Rattle.name_tables.proofs.Tables.{same_equal, or_else, or_else-none, find-added}
use Rattle.typed_programs.specs.declared.names.Holder.{Holder}
use Rattle.typed_programs.specs.Kinds.{Callee, Names, Locals}
use Rattle.typed_programs.specs.Scopes.{proc_named, with_params, fun_named}
use Rattle.typed_programs.specs.Judgement.{IsNew, ParamsNew, DeclarationsTyped}
use Rattle.typed_programs.specs.Layout.{Procedure, procedures_from}
use Rattle.revision_calculus.specs.Program.{procedure_named}
use Rattle.revision_calculus.specs.State.{Frame}
use Rattle.revision_calculus.specs.Evaluation.{with_local}
use Rattle.revision_calculus.specs.Step.{append, locals_of, frame_of}
use Rattle.revision_calculus.specs.HandlesHeld.{IsHandle}
use Rattle.revision_calculus.specs.Kinded.{IsWithin}
use Rattle.revision_calculus.proofs.ScopeKinds.{within_self, within_trans, statement_within, find-with_local, first_kind, find-params, apart_new, apart_within, apart_let, let_takes, apart_set, apart_params}
use Rattle.affine_check.specs.Live.{live, passes, StatementOnce, StatementsOnce}
use Rattle.affine_check.specs.Owned.{RestOnce, LocalsRev, FrameOwn, Fits, FramesOwn, DeclarationsOnce}
use Rattle.affine_check.proofs.Readings.{PlainParams, Fit}

-- ---- what is live

pub live_append : (n : Name) (block rest : Statements) (later : Bool)
    → live n (append block rest) later ≡ live n block (live n rest later)
live_append n no_statements rest later = refl
live_append n (statements (statement at line form) xs) rest later =
    ap (λ d. live n (statements (statement at line form) no_statements) d) (live_append n xs rest later)

rest_wider : (c : Names) (result : Option ValueKind) (l m : Locals) (rest : Statements) → IsWithin l m
    → RestOnce c result l rest → RestOnce c result m rest
rest_wider c result l m no_statements inside typed = tt
rest_wider c result l m (statements x rest) inside typed =
    (typed.0, typed.1, within_trans typed.0 l m typed.2 inside, typed.3, typed.4, typed.5)

-- a block before what remains
pub block_once : (c : Names) (result : Option ValueKind) (l m : Locals) (block rest : Statements)
    → StatementsOnce c result m block (λ n. live n rest false) → IsWithin l m
    → (passes block ≡ true → RestOnce c result l rest) → RestOnce c result m (append block rest)
block_once c result l m no_statements rest once inside later = rest_wider c result l m rest inside (later refl)
block_once c result l m (statements x xs) rest once inside later = (
  m,
  once.0,
  within_self m,
  once.1,
  subst (λ K. StatementOnce c result m x K)
      (λ i n.
      let e : live n xs (live n rest false) ≡ live n (append xs rest) false = sym (live_append n xs rest false) in e i)
      once.2,
  λ p. block_once c result l once.0 xs rest (once.3 p)
      (within_trans l m once.0 inside (statement_within c result m x once.0 once.1))
      (λ q. later (ap (λ d. cond d (passes xs) false) p ∙ q)),
)

pub whole_once : (c : Names) (result : Option ValueKind) (l : Locals) (block : Statements)
    → StatementsOnce c result l block (λ n. false) → RestOnce c result l block
whole_once c result l no_statements once = tt
whole_once c result l (statements x xs) once =
    (l, once.0, within_self l, once.1, once.2, λ p. whole_once c result once.0 xs (once.3 p))

-- ---- locals

module _ (c : Names) where
  pub shared_new : (scope : Locals) (waits : Option Name) (values : Table Value) (name : Name)
      (found : Option ValueKind)
      → LocalsRev c scope waits values → find name scope ≡ Some found → c.shared name ≡ None
  shared_new scope waits values name found are h = apart_new c scope values name found are.apart h

  pub locals_wait : (scope : Locals) (waits : Option Name) (values : Table Value) → LocalsRev c scope None values
      → LocalsRev c scope waits values
  locals_wait scope waits values are =
      record { rev = λ name t q differ h g. are.rev name t q (λ e. cc) h g; apart = are.apart }

  pub locals_within : (inner outer : Locals) (values : Table Value) → IsWithin inner outer
      → LocalsRev c outer None values → LocalsRev c inner None values
  locals_within inner outer values inside are = record {
    rev = λ name t q differ h g. are.rev name t q differ (inside name (Some t) h) g;
    apart = apart_within c inner outer values inside are.apart;
  }

  pub locals_let : (scope : Locals) (w : PlacedName) (t : ValueKind) (values : Table Value) → IsNew c scope w
      → LocalsRev c scope None values → LocalsRev c (added scope w.text (Some t)) (Some w.text) values
  locals_let scope w t values new are = record { rev = rev; apart = apart_let c scope w t values new are.apart }
    where
      rev : (name : Name) (u : ValueKind) (q : Path) → Some w.text ≢ Some name
          → find name (added scope w.text (Some t)) ≡ Some (Some u) → find name values ≡ Some (v.Rev (Some q))
          → u ≡ k.Rev
      rev name u q differ h g = by (same name w.text) refl (sym (find-added name w.text (Some t) scope) ∙ h)
        where
          by : (d : Bool) → same name w.text ≡ d
              → or_else (find name scope) (if d then Some (Some t) else None) ≡ Some (Some u) → u ≡ k.Rev
          by true e i = absurd (differ (ap Some (sym (same_equal name w.text e))))
          by false e i = are.rev name u q (λ d. cc) (sym (or_else-none (find name scope)) ∙ i) g

  pub let_fits : (scope : Locals) (w : PlacedName) (t : ValueKind) → IsNew c scope w
      → Fits c (added scope w.text (Some t)) (Some w.text) (Some t)
  let_fits scope w t new = (let_takes c scope w t new, λ h e. absurd (let clash : None ≡ Some h = sym new.1 ∙ e in cc))

  -- the name that waited has its value
  pub locals_set : (scope : Locals) (w : Name) (t : ValueKind) (x : Value) (values : Table Value)
      → LocalsRev c scope (Some w) values → find w scope ≡ Some (Some t) → ((q : Path) → IsHandle x q → t ≡ k.Rev)
      → LocalsRev c scope None (with_local values w x)
  locals_set scope w t x values are found is =
      record { rev = rev; apart = apart_set c scope w t x values found are.apart }
    where
      rev : (name : Name) (u : ValueKind) (q : Path) → None ≢ Some name → find name scope ≡ Some (Some u)
          → find name (with_local values w x) ≡ Some (v.Rev (Some q)) → u ≡ k.Rev
      rev name u q differ h g = by (same name w) refl (sym (find-with_local values w x name) ∙ g)
        where
          by : (d : Bool) → same name w ≡ d → cond d (Some x) (find name values) ≡ Some (v.Rev (Some q)) → u ≡ k.Rev
          by true e i =
              let both : Some (Some t) ≡ Some (Some u) =
              sym found ∙ ap (λ n. find n scope) (sym (same_equal name w e)) ∙ h in
              let value : x ≡ v.Rev (Some q) = cc in
              let first : t ≡ k.Rev = is q value in
              let kinds : t ≡ u = cc in
              sym kinds ∙ first
          by false e i = are.rev name u q (λ p. other_text name w (sym e) (let f : w ≡ name = cc in sym f)) h i

  -- the name that waits is that of a shared variable
  pub locals_shared : (scope : Locals) (w : Name) (h : Holder) (values : Table Value)
      → LocalsRev c scope (Some w) values → c.shared w ≡ Some h → LocalsRev c scope None values
  locals_shared scope w h values are e = record { rev = rev; apart = are.apart }
    where
      rev : (name : Name) (u : ValueKind) (q : Path) → None ≢ Some name → find name scope ≡ Some (Some u)
          → find name values ≡ Some (v.Rev (Some q)) → u ≡ k.Rev
      rev name u q differ i g =
          are.rev name u q (λ p.
          let same : w ≡ name = cc in
          let clash : None ≡ Some (Some u) = sym (are.apart w h e).0 ∙ ap (λ n. find n scope) same ∙ i in
          cc)
          i g

  -- ---- parameters

  param_rev : (ps : List Parameter) (xs : List Value) (name : Name) (u : ValueKind) (q : Path) → Fit ps xs
      → first_kind c name ps ≡ Some (Some u) → find name (locals_of (names_of ps) xs) ≡ Some (v.Rev (Some q))
      → u ≡ k.Rev
  param_rev [] xs name u q fit h g = cc
  param_rev (p ∷ ps) [] name u q fit h g = cc
  param_rev (p ∷ ps) (x ∷ xs) name u q fit h g = by (same name p.name.text) h g (param_rev ps xs name u q fit.1)
    where
      by : (d : Bool) → cond d (Some (Some p.kind)) (first_kind c name ps) ≡ Some (Some u)
          → cond d (Some x) (find name (locals_of (names_of ps) xs)) ≡ Some (v.Rev (Some q))
          → (first_kind c name ps ≡ Some (Some u) → find name (locals_of (names_of ps) xs) ≡ Some (v.Rev (Some q))
          → u ≡ k.Rev)
          → u ≡ k.Rev
      by true i j rest = let value : x ≡ v.Rev (Some q) = cc in let kinds : p.kind ≡ u = cc in sym kinds ∙ fit.0 q value
      by false i j rest = rest i j

  params_locals : (ps : List Parameter) (xs : List Value) → ParamsNew c [] ps → Fit ps xs
      → LocalsRev c (with_params [] ps) None (locals_of (names_of ps) xs)
  params_locals ps xs new fit = record {
    rev = λ name u q differ h g. param_rev ps xs name u q fit (sym (find-params c [] ps name) ∙ h) g;
    apart = apart_params c ps xs new;
  }

  -- ---- procedures

  pub record ProcOnce (q : Callee) (d : Procedure) : Type 0 where
    pub params : d.params ≡ names_of q.params
    pub new : ParamsNew c [] q.params
    pub body : StatementsOnce c q.result (with_params [] q.params) d.body (λ n. false)

  pub proc_once : (inner : Names) (before : List Declaration) (d : ℕ) (es : List Declaration) (name : Name) (q : Callee)
      → DeclarationsTyped c inner before es → DeclarationsOnce c es → proc_named es name ≡ Some q
      → ProcOnce q (procedure_named (procedures_from d es) name)
  proc_once inner before d [] name q typed once e = cc
  proc_once inner before d (fun w ps r body ∷ es) name q typed once e =
      proc_once inner (fun w ps r body ∷ before) (d + 1) es name q typed.1 once e
  proc_once inner before d (merge w m j r body ∷ es) name q typed once e =
      proc_once inner (merge w m j r body ∷ before) (d + 1) es name q typed.1 once e
  proc_once inner before d (shared x ∷ es) name q typed once e =
      proc_once inner (shared x ∷ before) (d + 1) es name q typed.1 once e
  proc_once inner before d (proc w ps r body ∷ es) name q typed once e =
      by (same name w.text) e (proc_once inner (proc w ps r body ∷ before) (d + 1) es name q typed.1 once.1)
    where
      here : ProcOnce (record { params = ps; result = r })
          (record { decl = d; name = w.text; params = names_of ps; body = body })
      here = record { params = refl; new = typed.0.params; body = once.0 }

      by : (is_named : Bool) → cond is_named (Some (record { params = ps; result = r })) (proc_named es name) ≡ Some q
          → (proc_named es name ≡ Some q → ProcOnce q (procedure_named (procedures_from (d + 1) es) name))
          → ProcOnce q (cond is_named (record { decl = d; name = w.text; params = names_of ps; body = body })
          (procedure_named (procedures_from (d + 1) es) name))
      by true h rest =
          subst (λ y. ProcOnce y (record { decl = d; name = w.text; params = names_of ps; body = body }))
          (let is : record { params = ps; result = r } ≡ q = cc in is) here
      by false h rest = rest h

  -- the frame of a call
  pub call_frame : (q : Callee) (d : Procedure) (args : List Value) (left : Option Name) → ProcOnce q d
      → Fit q.params args → FrameOwn c q.result (with_params [] q.params) None (frame_of d args left)
  call_frame q d args left is fit = record {
    locals = subst (λ ps. LocalsRev c (with_params [] q.params) None (locals_of ps args)) (sym is.params)
        (params_locals q.params args is.new fit);
    rest = whole_once c q.result (with_params [] q.params) d.body is.body;
  }

  -- the parameters of a fun are no handles
  pub fun_plain : (inner : Names) (before es : List Declaration) (name : Name) (f : Callee)
      → DeclarationsTyped c inner before es → fun_named es name ≡ Some f → PlainParams f.params
  fun_plain inner before [] name f typed e = cc
  fun_plain inner before (merge w m j r body ∷ es) name f typed e =
      fun_plain inner (merge w m j r body ∷ before) es name f typed.1 e
  fun_plain inner before (shared x ∷ es) name f typed e = fun_plain inner (shared x ∷ before) es name f typed.1 e
  fun_plain inner before (proc w ps r body ∷ es) name f typed e =
      fun_plain inner (proc w ps r body ∷ before) es name f typed.1 e
  fun_plain inner before (fun w ps r body ∷ es) name f typed e =
      by (same name w.text) e (fun_plain inner (fun w ps r body ∷ before) es name f typed.1)
    where
      all : (xs : List Parameter) → ((p : Parameter) → Among xs p → p.kind ≢ k.Rev) → PlainParams xs
      all [] h = tt
      all (x ∷ xs) h = (h x (inl refl), all xs (λ p i. h p (inr i)))

      by : (d : Bool) → cond d (Some (record { params = ps; result = Some r })) (fun_named es name) ≡ Some f
          → (fun_named es name ≡ Some f → PlainParams f.params) → PlainParams f.params
      by true h rest =
          subst (λ (y : Callee). PlainParams y.params) (let is : record { params = ps; result = Some r } ≡ f = cc in is)
          (all ps typed.0.kinds)
      by false h rest = rest h

  -- ---- frames

  pub none_waits : (given other : Option ValueKind) (fs : List Frame) → FramesOwn c None given fs
      → FramesOwn c None other fs
  none_waits given other [] are = are
  none_waits given other (f ∷ fs) are = are
