-- Procedures by their names, and the locals of a call.
use Rattle.std.proofs.Common.{◌≡◌, ℕ, ◌+◌, ◌<◌, ◌≤◌, Bool, true, false, cond, List, [], ◌∷◌, ◌++◌, length, get_or, slice_get, Option, Some, None, refl, sym, ap, ◌∙◌, arith, append_assoc, length-append, subst, map}
use Rattle.rev_num.specs.declared.value.Value.{Value}
use Rattle.rev_syntax.specs.Trees.{Declaration, fun, merge, shared, proc, ProgramTree}
use Rattle.rev_syntax.specs.View.{parameter}
use Rattle.rev_syntax.specs.declared.tree.Param.{Param}
use Rattle.name_tables.specs.Table.{Table}
use Rattle.name_tables.specs.Names.{Name, same}
use Rattle.typed_programs.specs.Definitions.{names_of}
use Rattle.typed_programs.specs.Layout.{Procedure, procedures_from, procedures}
use Rattle.revision_calculus.specs.Program.{procedure_named}
use Rattle.revision_calculus.specs.Step.{locals_of}
use Rattle.revision_state.specs.Tables.{number_in, number_of, params_of, body_of, with_next}

-- ---- procedures

grows : (before : List Declaration) (x : Declaration) (d : ℕ) → d ≡ length before → d + 1 ≡ length (before ++ x ∷ [])
grows before x d e = omega (arith, length-append before (x ∷ []))

-- what was found is this procedure
pub record IsCallee (found : Option Declaration) (p : Procedure) : Type 0 where
  pub params : params_of found ≡ p.params
  pub body : body_of found ≡ p.body

-- the declaration behind these
pub at_end : (before : List Declaration) (e : Declaration) (es : List Declaration)
    → slice_get (before ++ e ∷ es) (length before) ≡ Some e
at_end [] e es = refl
at_end (b ∷ before) e es = at_end before e es

found : (before es : List Declaration) (d : ℕ) (name : Name) (n : ℕ) → d ≡ length before
    → number_in (procedures_from d es) name ≡ Some n
    → IsCallee (slice_get (before ++ es) n) (procedure_named (procedures_from d es) name)
found before [] d name n e h = cc
found before (proc w ps r body ∷ es) d name n e h =
    let x : Declaration = proc w ps r body in
    by x (record { decl = d; name = w.text; params = names_of ps; body = body }) (same name w.text) h (refl, refl) refl
    (λ k. subst
    (λ (ds : List Declaration). IsCallee (slice_get ds n) (procedure_named (procedures_from (d + 1) es) name))
    (append_assoc before (x ∷ []) es) (found (before ++ x ∷ []) es (d + 1) name n (grows before x d e) k))
  where
    by : (x : Declaration) (p : Procedure) (b : Bool)
        → cond b (Some p.decl) (number_in (procedures_from (d + 1) es) name) ≡ Some n
        → (params_of (Some x) ≡ p.params) × (body_of (Some x) ≡ p.body) → p.decl ≡ d
        → (number_in (procedures_from (d + 1) es) name ≡ Some n
        → IsCallee (slice_get (before ++ x ∷ es) n) (procedure_named (procedures_from (d + 1) es) name))
        → IsCallee (slice_get (before ++ x ∷ es) n) (cond b p (procedure_named (procedures_from (d + 1) es) name))
    by x p true h same_parts at later =
        let k : n ≡ length before = cc in
        let f : slice_get (before ++ x ∷ es) n ≡ Some x = ap (slice_get (before ++ x ∷ es)) k ∙ at_end before x es in
        record { params = ap params_of f ∙ same_parts.0; body = ap body_of f ∙ same_parts.1 }
    by x p false h same_parts at later = later h
found before (fun w ps r body ∷ es) d name n e h = let x : Declaration = fun w ps r body in
    subst (λ (ds : List Declaration). IsCallee (slice_get ds n) (procedure_named (procedures_from (d + 1) es) name))
    (append_assoc before (x ∷ []) es) (found (before ++ x ∷ []) es (d + 1) name n (grows before x d e) h)
found before (merge w m j r body ∷ es) d name n e h = let x : Declaration = merge w m j r body in
    subst (λ (ds : List Declaration). IsCallee (slice_get ds n) (procedure_named (procedures_from (d + 1) es) name))
    (append_assoc before (x ∷ []) es) (found (before ++ x ∷ []) es (d + 1) name n (grows before x d e) h)
found before (shared y ∷ es) d name n e h = let x : Declaration = shared y in
    subst (λ (ds : List Declaration). IsCallee (slice_get ds n) (procedure_named (procedures_from (d + 1) es) name))
    (append_assoc before (x ∷ []) es) (found (before ++ x ∷ []) es (d + 1) name n (grows before x d e) h)

-- the declaration of the number of a procedure is that procedure
pub callee_found : (p : ProgramTree) (name : Name) (n : ℕ) → Some n ≡ number_of p name
    → IsCallee (slice_get p.declarations n) (procedure_named (procedures p) name)
callee_found p name n h = found [] p.declarations 0 name n refl (sym h)

callee_missing : (ps : List Procedure) (name : Name) → number_in ps name ≡ None
    → IsCallee None (procedure_named ps name)
callee_missing [] name h = record { params = refl; body = refl }
callee_missing (p ∷ ps) name h = by (same name p.name) h (callee_missing ps name)
  where
    by : (b : Bool) → cond b (Some p.decl) (number_in ps name) ≡ None
        → (number_in ps name ≡ None → IsCallee None (procedure_named ps name))
        → IsCallee None (cond b p (procedure_named ps name))
    by true h later = cc
    by false h later = later h

-- where there is none, one that does nothing stands for it
pub callee_none : (p : ProgramTree) (name : Name) → None ≡ number_of p name
    → IsCallee None (procedure_named (procedures p) name)
callee_none p name h = callee_missing (procedures p) name (sym h)

-- ---- the locals of a call

-- no value yet
abbrev pub no_values : List Value
no_values = []

pub locals_none : (ps : List Name) → locals_of ps no_values ≡ []
locals_none [] = refl
locals_none (p ∷ ps) = refl

pub locals_more : (ps : List Name) (xs : List Value) (x : Value)
    → locals_of ps (xs ++ x ∷ []) ≡ with_next ps (locals_of ps xs) x
locals_more [] [] x = refl
locals_more [] (y ∷ xs) x = refl
locals_more (p ∷ ps) [] x = ap (λ t. (p, x) ∷ t) (locals_none ps)
locals_more (p ∷ ps) (y ∷ xs) x = ap (λ t. (p, y) ∷ t) (locals_more ps xs x)

-- the next parameter is this one
pub next_bound : (ps : List Param) (ls : Table Value) (x : Value) (d : Param) → length ls < length ps
    → with_next (names_of (map parameter ps)) ls x ≡ ls ++ ((get_or ps (length ls) d).name.text.items, x) ∷ []
next_bound [] ls x d lt = absurd (omega arith)
next_bound (p ∷ ps) [] x d lt = refl
next_bound (p ∷ ps) (l ∷ ls) x d lt = ap (λ t. l ∷ t) (next_bound ps ls x d (omega arith))

-- there is none
pub none_next : (ps : List Param) (ls : Table Value) (x : Value) → length ps ≤ length ls
    → with_next (names_of (map parameter ps)) ls x ≡ ls
none_next [] ls x le = refl
none_next (p ∷ ps) [] x le = absurd (omega arith)
none_next (p ∷ ps) (l ∷ ls) x le = ap (λ t. l ∷ t) (none_next ps ls x (omega arith))
