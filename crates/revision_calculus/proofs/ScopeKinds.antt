-- The names in scope and the locals: what a `let`, a block, a call and an assignment do to them.
use Rattle.std.proofs.Common.{◌≡◌, ◌+◌, ℕ, ◌∙◌, ◌≢◌, Bool, true, false, cond, ◌&&◌, IsTrue, List, [], ◌∷◌, Option, Some, None, refl, sym, ap, subst, true≢false}
use Rattle.std.specs.Prelude.{if◌then◌else◌}
use Rattle.std.specs.List.{list_all}
use Rattle.std.specs.Cmp.Lexicographic.{other_text}
use Rattle.rev_num.specs.declared.value.Value.{Value}
use Rattle.rev_num.specs.declared.value.ValueKind.{ValueKind}
use Rattle.rev_syntax.specs.Trees.{PlacedName, Parameter, Statement, statement, bind, assign, assign_cell, choose, choose_or, repeat, call, return, fork, join, print, assert, Statements, no_statements, statements, Declaration, fun, merge, shared, proc}
use Rattle.rev_syntax.specs.Small.{name_formed, parameter_formed, statement_small, statements_small, declaration_small}
use Rattle.rev_syntax.proofs.Lists.{same-self}
use Rattle.name_tables.specs.Names.{Name, same}
use Rattle.name_tables.specs.Table.{Table, find, added}
use Rattle.typed_programs.specs.Definitions.{names_of}
use Rattle.name_tables.proofs.Tables.{same_equal, or_else, or_else-none, or_else-step, find-added}
use Rattle.typed_programs.specs.declared.names.Holder.{Holder}
use Rattle.typed_programs.specs.Kinds.{Callee, Names, Locals}
use Rattle.typed_programs.specs.Typing.{ScalarHas}
use Rattle.typed_programs.proofs.Lists.{and_parts}
use Rattle.typed_programs.specs.Scopes.{proc_named, with_params}
use Rattle.typed_programs.specs.Statements.{statement_returns, statements_return}
use Rattle.typed_programs.specs.Judgement.{IsNew, ParamsNew, StatementTyped, StatementsTyped, Returns, DeclarationsTyped}
use Rattle.typed_programs.specs.Layout.{Procedure, procedures_from}
use Rattle.revision_calculus.specs.Program.{procedure_named}
use Rattle.revision_calculus.specs.State.{Frame}
use Rattle.revision_calculus.specs.Evaluation.{with_local}
use Rattle.revision_calculus.specs.Step.{append, locals_of, frame_of}
use Rattle.revision_calculus.specs.Kinded.{IsOf, IsSomeOf, LocalsAre, IsWithin, RestTyped, FrameIs, Takes, FramesAre, FramesTrapped}
use Rattle.revision_calculus.proofs.ValueKinds.{and_both, ArgsAre}
use Rattle.typed_programs.proofs.Returning.{ends_return, returns_end}

-- ---- names

over_by : {A : Type 0} (d : Bool) (x y : A) (r : Option A) → cond d (Some x) r ≡ cond d (Some x) (cond d (Some y) r)
over_by true x y r = refl
over_by false x y r = refl

swap_by : {A : Type 0} (d e : Bool) (x y : A) (r : Option A) → (d ≡ true → e ≡ true → ⊥)
    → cond d (Some y) (cond e (Some x) r) ≡ cond e (Some x) (cond d (Some y) r)
swap_by true true x y r differ = absurd (differ refl refl)
swap_by true false x y r differ = refl
swap_by false e x y r differ = refl

-- what a name finds among the locals after an assignment
pub find-with_local : (es : Table Value) (w : Name) (x : Value) (name : Name)
    → find name (with_local es w x) ≡ cond (same name w) (Some x) (find name es)
find-with_local [] w x name = refl
find-with_local (e ∷ es) w x name = by (same w e.0) refl (find-with_local es w x name)
  where
    by : (d : Bool) → same w e.0 ≡ d → find name (with_local es w x) ≡ cond (same name w) (Some x) (find name es)
        → find name (cond d ((e.0, x) ∷ es) (e ∷ with_local es w x))
        ≡ cond (same name w) (Some x) (cond (same name e.0) (Some e.1) (find name es))
    by true q rest =
        over_by (same name e.0) x e.1 (find name es)
        ∙ ap (λ n. cond (same name n) (Some x) (cond (same name e.0) (Some e.1) (find name es)))
        (sym (same_equal w e.0 q))
    by false q rest =
        ap (λ o. cond (same name e.0) (Some e.1) o) rest
        ∙ swap_by (same name e.0) (same name w) x e.1 (find name es)
        (λ i j. other_text w e.0 (sym q) (sym (same_equal name w j) ∙ same_equal name e.0 i))

-- ---- scopes

pub within_self : (l : Locals) → IsWithin l l
within_self l name t h = h

pub within_trans : (l m n : Locals) → IsWithin l m → IsWithin m n → IsWithin l n
within_trans l m n p q name t h = q name t (p name t h)

within_added : (l : Locals) (w : Name) (t : Option ValueKind) → IsWithin l (added l w t)
within_added l w t name u h = find-added name w t l ∙ ap (λ o. or_else o (if same name w then Some t else None)) h

within_path : (l m : Locals) → m ≡ l → IsWithin l m
within_path l m e = subst (λ n. IsWithin l n) (sym e) (within_self l)

-- a statement forgets no name
pub statement_within : (c : Names) (result : Option ValueKind) (l : Locals) (x : Statement) (l' : Locals)
    → StatementTyped c result l x l' → IsWithin l l'
statement_within c result l (statement at line (bind w r)) l' typed =
    subst (λ n. IsWithin l n) (sym typed.1.2) (within_added l w.text (Some typed.1.0))
statement_within c result l (statement at line (assign w r)) l' typed = within_path l l' typed.1
statement_within c result l (statement at line (assign_cell w i e)) l' typed = within_path l l' typed.1
statement_within c result l (statement at line (choose arms)) l' typed = within_path l l' typed.1
statement_within c result l (statement at line (choose_or arms last)) l' typed = within_path l l' typed.1
statement_within c result l (statement at line (repeat test body)) l' typed = within_path l l' typed.1
statement_within c result l (statement at line (call w args)) l' typed = within_path l l' typed.1
statement_within c result l (statement at line (return e)) l' typed = within_path l l' typed.1
statement_within c result l (statement at line (fork w args)) l' typed = within_path l l' typed.1
statement_within c result l (statement at line (join e)) l' typed = within_path l l' typed.1
statement_within c result l (statement at line (print items)) l' typed = within_path l l' typed.1
statement_within c result l (statement at line (assert e)) l' typed = within_path l l' typed.1

rest_wider : (c : Names) (result : Option ValueKind) (l m : Locals) (rest : Statements) → IsWithin l m
    → RestTyped c result l rest → RestTyped c result m rest
rest_wider c result l m no_statements inside typed = tt
rest_wider c result l m (statements x rest) inside typed =
    (typed.0, typed.1, within_trans typed.0 l m typed.2 inside, typed.3, typed.4)

-- a block before what remains
pub block_typed : (c : Names) (result : Option ValueKind) (l m : Locals) (block rest : Statements)
    → StatementsTyped c result m block → IsWithin l m → RestTyped c result l rest
    → RestTyped c result m (append block rest)
block_typed c result l m no_statements rest typed inside later = rest_wider c result l m rest inside later
block_typed c result l m (statements x xs) rest typed inside later = (
  m,
  typed.0,
  within_self m,
  typed.1,
  block_typed c result l typed.0 xs rest typed.2
      (within_trans l m typed.0 inside (statement_within c result m x typed.0 typed.1)) later,
)

pub whole_typed : (c : Names) (result : Option ValueKind) (l : Locals) (block : Statements)
    → StatementsTyped c result l block → RestTyped c result l block
whole_typed c result l no_statements typed = tt
whole_typed c result l (statements x xs) typed =
    (l, typed.0, within_self l, typed.1, whole_typed c result typed.0 xs typed.2)

pub block_small : (block rest : Statements) → IsTrue (statements_small block) → IsTrue (statements_small rest)
    → IsTrue (statements_small (append block rest))
block_small no_statements rest p q = q
block_small (statements x xs) rest p q =
    let both = and_parts (statement_small x) (statements_small xs) p in
    and_both (statement_small x) (statements_small (append xs rest)) both.0 (block_small xs rest both.1 q)

-- ---- returns

return_later : (d : Bool) (rest : Statements) → statements_return false rest ≡ true → statements_return d rest ≡ true
return_later d no_statements h = absurd (true≢false (sym h))
return_later d (statements x rest) h = h

return_followed : (d : Bool) (block rest : Statements)
    → statements_return d (append block rest) ≡ statements_return (statements_return d block) rest
return_followed d no_statements rest = refl
return_followed d (statements x xs) rest = return_followed (statement_returns x) xs rest

return_by : (before here : Bool) (rest : Statements) → statements_return before rest ≡ true
    → (before ≡ true → here ≡ true) → statements_return here rest ≡ true
return_by true here rest h more = subst (λ d. statements_return d rest ≡ true) (sym (more refl)) h
return_by false here rest h more = return_later here rest h

-- what remains behind a statement that does not return
pub returns_behind : (result : Option ValueKind) (x : Statement) (rest : Statements) → statement_returns x ≡ false
    → Returns result (statements x rest) → Returns result rest
returns_behind None x rest e h = tt
returns_behind (Some t) x rest e h =
    returns_end rest (subst (λ d. statements_return d rest ≡ true) e (ends_return (statements x rest) h))

-- a block of a statement, where the block returns if the statement does
pub returns_block : (result : Option ValueKind) (x : Statement) (block rest : Statements)
    → (statement_returns x ≡ true → statements_return false block ≡ true) → Returns result (statements x rest)
    → Returns result (append block rest)
returns_block None x block rest more h = tt
returns_block (Some t) x block rest more h =
    returns_end (append block rest)
    (return_followed false block rest
    ∙ return_by (statement_returns x) (statements_return false block) rest (ends_return (statements x rest) h) more)

-- a block before what returns
pub returns_before : (result : Option ValueKind) (block rest : Statements) → Returns result rest
    → Returns result (append block rest)
returns_before None block rest h = tt
returns_before (Some t) block rest h =
    returns_end (append block rest)
    (return_followed false block rest ∙ return_later (statements_return false block) rest (ends_return rest h))

-- ---- locals

-- where names mean this
module _ (c : Names) where
  -- no shared variable has the name of a local
  abbrev pub Apart : Locals → Table Value → Type 0
  Apart scope values =
      (name : Name) (h : Holder) → c.shared name ≡ Some h → (find name scope ≡ None) × (find name values ≡ None)

  pub apart_new : (scope : Locals) (values : Table Value) (name : Name) (found : Option ValueKind) → Apart scope values
      → find name scope ≡ Some found → c.shared name ≡ None
  apart_new scope values name found apart h = by (c.shared name) refl
    where
      by : (o : Option Holder) → c.shared name ≡ o → c.shared name ≡ None
      by None e = e
      by (Some x) e = absurd (let clash : None ≡ Some found = sym (apart name x e).0 ∙ h in cc)

  pub apart_within : (inner outer : Locals) (values : Table Value) → IsWithin inner outer → Apart outer values
      → Apart inner values
  apart_within inner outer values inside apart name h e = (by (find name inner) refl, (apart name h e).1)
    where
      by : (o : Option (Option ValueKind)) → find name inner ≡ o → find name inner ≡ None
      by None q = q
      by (Some t) q = absurd (let clash : None ≡ Some t = sym (apart name h e).0 ∙ inside name t q in cc)

  pub apart_let : (scope : Locals) (w : PlacedName) (t : ValueKind) (values : Table Value) → IsNew c scope w
      → Apart scope values → Apart (added scope w.text (Some t)) values
  apart_let scope w t values new apart name h e =
      (find-added name w.text (Some t) scope ∙ by (same name w.text) refl, (apart name h e).1)
    where
      by : (d : Bool) → same name w.text ≡ d → or_else (find name scope) (if d then Some (Some t) else None) ≡ None
      by true q = absurd (let clash : None ≡ Some h = sym new.1 ∙ ap c.shared (sym (same_equal name w.text q)) ∙ e in
          cc)
      by false q = ap (λ o. or_else o None) (apart name h e).0

  pub apart_set : (scope : Locals) (w : Name) (t : ValueKind) (x : Value) (values : Table Value)
      → find w scope ≡ Some (Some t) → Apart scope values → Apart scope (with_local values w x)
  apart_set scope w t x values found apart name h e =
      ((apart name h e).0, find-with_local values w x name ∙ by (same name w) refl)
    where
      by : (d : Bool) → same name w ≡ d → cond d (Some x) (find name values) ≡ None
      by true q = absurd (let clash : None ≡ Some (Some t) =
          sym (apart name h e).0 ∙ ap (λ n. find n scope) (same_equal name w q) ∙ found in
          cc)
      by false q = (apart name h e).1

  pub shared_new : (scope : Locals) (waits : Option Name) (values : Table Value) (name : Name)
      (found : Option ValueKind)
      → LocalsAre c scope waits values → find name scope ≡ Some found → c.shared name ≡ None
  shared_new scope waits values name found are h = apart_new scope values name found are.apart h

  -- a name that has a value may also wait for one
  pub locals_wait : (scope : Locals) (waits : Option Name) (values : Table Value) → LocalsAre c scope None values
      → LocalsAre c scope waits values
  locals_wait scope waits values are =
      record { kinds = λ name t differ h. are.kinds name t (λ e. cc) h; apart = are.apart }

  -- fewer names in scope
  pub locals_within : (inner outer : Locals) (values : Table Value) → IsWithin inner outer
      → LocalsAre c outer None values → LocalsAre c inner None values
  locals_within inner outer values inside are = record {
    kinds = λ name t differ h. are.kinds name t differ (inside name (Some t) h);
    apart = apart_within inner outer values inside are.apart;
  }

  -- a `let` puts its name in scope, which waits for its value
  pub locals_let : (scope : Locals) (w : PlacedName) (t : ValueKind) (values : Table Value) → IsNew c scope w
      → LocalsAre c scope None values → LocalsAre c (added scope w.text (Some t)) (Some w.text) values
  locals_let scope w t values new are = record { kinds = kinds; apart = apart_let scope w t values new are.apart }
    where
      kinds : (name : Name) (u : ValueKind) → Some w.text ≢ Some name
          → find name (added scope w.text (Some t)) ≡ Some (Some u) → IsSomeOf u (find name values)
      kinds name u differ h = by (same name w.text) refl (sym (find-added name w.text (Some t) scope) ∙ h)
        where
          by : (d : Bool) → same name w.text ≡ d
              → or_else (find name scope) (if d then Some (Some t) else None) ≡ Some (Some u)
              → IsSomeOf u (find name values)
          by true e q = absurd (differ (ap Some (sym (same_equal name w.text e))))
          by false e q = are.kinds name u (λ d. cc) (sym (or_else-none (find name scope)) ∙ q)

  pub let_takes : (scope : Locals) (w : PlacedName) (t : ValueKind) → IsNew c scope w
      → Takes c (added scope w.text (Some t)) (Some w.text) (Some t)
  let_takes scope w t new =
      let found : find w.text (added scope w.text (Some t)) ≡ Some (Some t) =
      find-added w.text w.text (Some t) scope
      ∙ ap (λ o. or_else o (if same w.text w.text then Some (Some t) else None)) new.0
      ∙ ap (λ d. if d then Some (Some t) else None) (same-self w.text) in
      subst (λ o. ScalarHas o (c.shared w.text) t) (sym found) refl

  -- the name that waited has its value
  pub locals_set : (scope : Locals) (w : Name) (t : ValueKind) (x : Value) (values : Table Value)
      → LocalsAre c scope (Some w) values → find w scope ≡ Some (Some t) → IsOf t x
      → LocalsAre c scope None (with_local values w x)
  locals_set scope w t x values are found is =
      record { kinds = kinds; apart = apart_set scope w t x values found are.apart }
    where
      kinds : (name : Name) (u : ValueKind) → None ≢ Some name → find name scope ≡ Some (Some u)
          → IsSomeOf u (find name (with_local values w x))
      kinds name u differ h = subst (λ o. IsSomeOf u o) (sym (find-with_local values w x name)) (by (same name w) refl)
        where
          by : (d : Bool) → same name w ≡ d → IsSomeOf u (cond d (Some x) (find name values))
          by true e = is
              ∙ (let q : Some (Some t) ≡ Some (Some u) =
              sym found ∙ ap (λ n. find n scope) (sym (same_equal name w e)) ∙ h in
              cc)
          by false e = are.kinds name u (λ q. other_text name w (sym e) (let p : w ≡ name = cc in sym p)) h

  -- where the name that waits is that of a shared variable, all locals have their values
  pub locals_shared : (scope : Locals) (w : Name) (h : Holder) (values : Table Value)
      → LocalsAre c scope (Some w) values → c.shared w ≡ Some h → LocalsAre c scope None values
  locals_shared scope w h values are e = record { kinds = kinds; apart = are.apart }
    where
      kinds : (name : Name) (u : ValueKind) → None ≢ Some name → find name scope ≡ Some (Some u)
          → IsSomeOf u (find name values)
      kinds name u differ q =
          are.kinds name u (λ p.
          let same : w ≡ name = cc in
          let clash : None ≡ Some (Some u) = sym (are.apart w h e).0 ∙ ap (λ n. find n scope) same ∙ q in
          cc)
          q

  -- ---- parameters

  abbrev pub first_kind : Name → List Parameter → Option (Option ValueKind)
  first_kind name [] = None
  first_kind name (p ∷ ps) = if same name p.name.text then Some (Some p.kind) else first_kind name ps

  pub find-params : (scope : Locals) (ps : List Parameter) (name : Name)
      → find name (with_params scope ps) ≡ or_else (find name scope) (first_kind name ps)
  find-params scope [] name = sym (or_else-none (find name scope))
  find-params scope (p ∷ ps) name =
      find-params (added scope p.name.text (Some p.kind)) ps name
      ∙ ap (λ o. or_else o (first_kind name ps)) (find-added name p.name.text (Some p.kind) scope)
      ∙ or_else-step (find name scope) (same name p.name.text) (Some p.kind) (first_kind name ps)

  param_kinds : (ps : List Parameter) (xs : List Value) (name : Name) (u : ValueKind) → ArgsAre ps xs
      → first_kind name ps ≡ Some (Some u) → IsSomeOf u (find name (locals_of (names_of ps) xs))
  param_kinds [] xs name u are h = cc
  param_kinds (p ∷ ps) [] name u are h = absurd are
  param_kinds (p ∷ ps) (x ∷ xs) name u are h = by (same name p.name.text) h (param_kinds ps xs name u are.1)
    where
      by : (d : Bool) → cond d (Some (Some p.kind)) (first_kind name ps) ≡ Some (Some u)
          → (first_kind name ps ≡ Some (Some u) → IsSomeOf u (find name (locals_of (names_of ps) xs)))
          → IsSomeOf u (cond d (Some x) (find name (locals_of (names_of ps) xs)))
      by true q rest = are.0 ∙ cc
      by false q rest = rest q

  param_apart : (scope : Locals) (ps : List Parameter) (xs : List Value) (name : Name) (h : Holder)
      → ParamsNew c scope ps → c.shared name ≡ Some h
      → (first_kind name ps ≡ None) × (find name (locals_of (names_of ps) xs) ≡ None)
  param_apart scope [] xs name h new e = (refl, refl)
  param_apart scope (p ∷ ps) xs name h new e =
      by (λ ys. param_apart (added scope p.name.text (Some p.kind)) ps ys name h new.1 e) (same name p.name.text) refl
      xs
    where
      by : ((ys : List Value) → (first_kind name ps ≡ None) × (find name (locals_of (names_of ps) ys) ≡ None))
          → (d : Bool) → same name p.name.text ≡ d → (ys : List Value)
          → (cond d (Some (Some p.kind)) (first_kind name ps) ≡ None)
          × (find name (locals_of (p.name.text ∷ names_of ps) ys) ≡ None)
      by later true q ys =
          absurd (let clash : None ≡ Some h = sym new.0.1 ∙ ap c.shared (sym (same_equal name p.name.text q)) ∙ e in cc)
      by later false q [] = ((later []).0, refl)
      by later false q (y ∷ ys) =
          ((later ys).0, ap (λ d. cond d (Some y) (find name (locals_of (names_of ps) ys))) q ∙ (later ys).1)

  pub apart_params : (ps : List Parameter) (xs : List Value) → ParamsNew c [] ps
      → Apart (with_params [] ps) (locals_of (names_of ps) xs)
  apart_params ps xs new name h e =
      let both = param_apart [] ps xs name h new e in (find-params [] ps name ∙ both.0, both.1)

  params_locals : (ps : List Parameter) (xs : List Value) → ParamsNew c [] ps → ArgsAre ps xs
      → LocalsAre c (with_params [] ps) None (locals_of (names_of ps) xs)
  params_locals ps xs new are = record {
    kinds = λ name u differ h. param_kinds ps xs name u are (sym (find-params [] ps name) ∙ h);
    apart = apart_params ps xs new;
  }

  -- ---- procedures

  -- the procedure is what its name means
  pub record ProcIs (q : Callee) (d : Procedure) : Type 0 where
    pub params : d.params ≡ names_of q.params
    pub new : ParamsNew c [] q.params
    pub body : StatementsTyped c q.result (with_params [] q.params) d.body
    pub returns : Returns q.result d.body
    pub small : IsTrue (statements_small d.body)

  pub proc_is : (inner : Names) (before : List Declaration) (d : ℕ) (es : List Declaration) (name : Name) (q : Callee)
      → DeclarationsTyped c inner before es → IsTrue (list_all declaration_small es) → proc_named es name ≡ Some q
      → ProcIs q (procedure_named (procedures_from d es) name)
  proc_is inner before d [] name q typed small e = cc
  proc_is inner before d (fun w ps r body ∷ es) name q typed small e =
      proc_is inner (fun w ps r body ∷ before) (d + 1) es name q typed.1
      (and_parts (declaration_small (fun w ps r body)) (list_all declaration_small es) small).1 e
  proc_is inner before d (merge w m j r body ∷ es) name q typed small e =
      proc_is inner (merge w m j r body ∷ before) (d + 1) es name q typed.1
      (and_parts (declaration_small (merge w m j r body)) (list_all declaration_small es) small).1 e
  proc_is inner before d (shared x ∷ es) name q typed small e =
      proc_is inner (shared x ∷ before) (d + 1) es name q typed.1
      (and_parts (declaration_small (shared x)) (list_all declaration_small es) small).1 e
  proc_is inner before d (proc w ps r body ∷ es) name q typed small e =
      by (same name w.text) e (proc_is inner (proc w ps r body ∷ before) (d + 1) es name q typed.1 smalls.1)
    where
      smalls : IsTrue (declaration_small (proc w ps r body)) × IsTrue (list_all declaration_small es)
      smalls = and_parts (declaration_small (proc w ps r body)) (list_all declaration_small es) small

      here : ProcIs (record { params = ps; result = r })
          (record { decl = d; name = w.text; params = names_of ps; body = body })
      here = record {
        params = refl;
        new = typed.0.params;
        body = typed.0.body;
        returns = typed.0.result;
        small = (and_parts (name_formed w && list_all parameter_formed ps) (statements_small body) smalls.0).1;
      }

      by : (is_named : Bool) → cond is_named (Some (record { params = ps; result = r })) (proc_named es name) ≡ Some q
          → (proc_named es name ≡ Some q → ProcIs q (procedure_named (procedures_from (d + 1) es) name))
          → ProcIs q (cond is_named (record { decl = d; name = w.text; params = names_of ps; body = body })
          (procedure_named (procedures_from (d + 1) es) name))
      by true h rest =
          subst (λ y. ProcIs y (record { decl = d; name = w.text; params = names_of ps; body = body }))
          (let is : record { params = ps; result = r } ≡ q = cc in is) here
      by false h rest = rest h

  -- the frame of a call
  pub call_frame : (q : Callee) (d : Procedure) (args : List Value) (left : Option Name) → ProcIs q d
      → ArgsAre q.params args → FrameIs c q.result (with_params [] q.params) None (frame_of d args left)
  call_frame q d args left is are = record {
    locals = subst (λ ps. LocalsAre c (with_params [] q.params) None (locals_of ps args)) (sym is.params)
        (params_locals q.params args is.new are);
    rest = whole_typed c q.result (with_params [] q.params) d.body is.body;
    small = is.small;
  }

  -- ---- frames

  -- where no left side waits, it does not matter what is given
  pub none_waits : (given other : Option ValueKind) (fs : List Frame) → FramesAre c None given fs
      → FramesAre c None other fs
  none_waits given other [] are = are
  none_waits given other (f ∷ fs) are = are

  pub are_trapped : (waits : Option Name) (given : Option ValueKind) (fs : List Frame) → FramesAre c waits given fs
      → FramesTrapped c fs
  are_trapped waits given [] are = tt
  are_trapped waits given (f ∷ fs) are = (are.0, are.1, waits, are.3, are.5)
