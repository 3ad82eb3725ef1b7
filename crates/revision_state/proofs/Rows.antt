-- Tables that are filled row by row find the first row of each name.
use Rattle.std.proofs.Common.{◌≡◌, ℕ, ◌+◌, Bool, true, false, cond, if◌then◌else◌, List, [], ◌∷◌, ◌++◌, length, map, slice_get, Option, Some, None, option_map, refl, sym, ap, ◌∙◌, arith, append_assoc, length-append}
use Rattle.rev_syntax.specs.Trees.{Declaration, fun, merge, shared, proc, ProgramTree}
use Rattle.name_tables.specs.Names.{Name, same}
use Rattle.name_tables.specs.Table.{Table, find}
use Rattle.name_tables.proofs.Tables.{or_else, or_else-none, find-added}
use Rattle.typed_programs.specs.Layout.{variable_behind, info_behind, variables_behind, variables, procedures_from, procedures}
use Rattle.revision_calculus.specs.Program.{variable_named}
use Rattle.revision_state.proofs.Callees.{at_end}
use Rattle.revision_state.specs.Tables.{entered, info_of, number_in, number_of, proc_at, proc_name, shared_at, shared_name, with_row}

or_else-assoc : {A : Type 0} (a b c : Option A) → or_else (or_else a b) c ≡ or_else a (or_else b c)
or_else-assoc None b c = refl
or_else-assoc (Some x) b c = refl

module _ {V : Type 0} where
  named : Option Name → V → Name → Option V
  named None x name = None
  named (Some w) x name = if same name w then Some x else None

  entered_row : (name : Name) (o : Option Name) (t : Table V) (x : V)
      → find name (with_row o t x) ≡ or_else (find name t) (named o x name)
  unfolding named
  entered_row name None t x = sym (or_else-none (find name t))
  entered_row name (Some w) t x = find-added name w x t

  module _ (at : V → Option Name) where
    pub first_row : List V → Name → Option V
    first_row [] name = None
    first_row (x ∷ xs) name = or_else (named (at x) x name) (first_row xs name)

    pub entered_finds : (name : Name) (t : Table V) (xs : List V)
        → find name (entered at t xs) ≡ or_else (find name t) (first_row xs name)
    unfolding first_row
    entered_finds name t [] = sym (or_else-none (find name t))
    entered_finds name t (x ∷ xs) =
        entered_finds name (with_row (at x) t x) xs
        ∙ ap (λ o. or_else o (first_row xs name)) (entered_row name (at x) t x)
        ∙ or_else-assoc (find name t) (named (at x) x name) (first_row xs name)

further : (ds before : List Declaration) (e : Declaration) (es : List Declaration) → ds ≡ before ++ e ∷ es
    → ds ≡ (before ++ e ∷ []) ++ es
further ds before e es h = h ∙ sym (append_assoc before (e ∷ []) es)

-- ---- shared variables

variables_first : (ds before es : List Declaration) (name : Name) → ds ≡ before ++ es
    → first_row (shared_at ds) (map (λ x. x.info) (variables_behind before es)) name
    ≡ option_map (λ x. x.info) (variable_named (variables_behind before es) name)
unfolding first_row named
variables_first ds before [] name h = refl
variables_first ds before (shared x ∷ es) name h =
    ap (λ o. or_else (named o (info_behind before x) name)
    (first_row (shared_at ds) (map (λ x. x.info) (variables_behind (before ++ shared x ∷ []) es)) name))
    (ap (λ (t : List Declaration). shared_name (slice_get t (length before))) h
    ∙ ap shared_name (at_end before (shared x) es))
    ∙ by (same name x.name.text)
    (variables_first ds (before ++ shared x ∷ []) es name (further ds before (shared x) es h))
  where
    by : (b : Bool)
        → first_row (shared_at ds) (map (λ x. x.info) (variables_behind (before ++ shared x ∷ []) es)) name
        ≡ option_map (λ x. x.info) (variable_named (variables_behind (before ++ shared x ∷ []) es) name)
        → or_else (cond b (Some (info_behind before x)) None)
        (first_row (shared_at ds) (map (λ x. x.info) (variables_behind (before ++ shared x ∷ []) es)) name)
        ≡ option_map (λ x. x.info)
        (cond b (Some (variable_behind before x)) (variable_named (variables_behind (before ++ shared x ∷ []) es) name))
    by true later = refl
    by false later = later
variables_first ds before (fun w ps r body ∷ es) name h =
    variables_first ds (before ++ fun w ps r body ∷ []) es name (further ds before (fun w ps r body) es h)
variables_first ds before (merge w m j r body ∷ es) name h =
    variables_first ds (before ++ merge w m j r body ∷ []) es name (further ds before (merge w m j r body) es h)
variables_first ds before (proc w ps r body ∷ es) name h =
    variables_first ds (before ++ proc w ps r body ∷ []) es name (further ds before (proc w ps r body) es h)

-- the table of all rows of shared variables
pub variables_entered : (p : ProgramTree) (name : Name)
    → find name (entered (shared_at p.declarations) [] (map (λ x. x.info) (variables p))) ≡ info_of p name
variables_entered p name =
    entered_finds (shared_at p.declarations) name [] (map (λ x. x.info) (variables p))
    ∙ variables_first p.declarations [] p.declarations name refl

-- ---- procedures

procedures_first : (ds before es : List Declaration) (d : ℕ) (name : Name) → ds ≡ before ++ es → d ≡ length before
    → first_row (proc_at ds) (map (λ x. x.decl) (procedures_from d es)) name ≡ number_in (procedures_from d es) name
unfolding first_row named
procedures_first ds before [] d name h e = refl
procedures_first ds before (proc w ps r body ∷ es) d name h e =
    let x : Declaration = proc w ps r body in
    ap (λ o. or_else (named o d name) (first_row (proc_at ds) (map (λ x. x.decl) (procedures_from (d + 1) es)) name))
    (ap (λ (t : List Declaration). proc_name (slice_get t d)) h ∙ ap (λ n. proc_name (slice_get (before ++ x ∷ es) n)) e
    ∙ ap proc_name (at_end before x es))
    ∙ by (same name w.text) (procedures_first ds (before ++ x ∷ []) es (d + 1) name (further ds before x es h)
    (omega (arith, length-append before (x ∷ []))))
  where
    by : (b : Bool)
        → first_row (proc_at ds) (map (λ x. x.decl) (procedures_from (d + 1) es)) name
        ≡ number_in (procedures_from (d + 1) es) name
        → or_else (cond b (Some d) None) (first_row (proc_at ds) (map (λ x. x.decl) (procedures_from (d + 1) es)) name)
        ≡ cond b (Some d) (number_in (procedures_from (d + 1) es) name)
    by true later = refl
    by false later = later
procedures_first ds before (fun w ps r body ∷ es) d name h e = let x : Declaration = fun w ps r body in
    procedures_first ds (before ++ x ∷ []) es (d + 1) name (further ds before x es h)
    (omega (arith, length-append before (x ∷ [])))
procedures_first ds before (merge w m j r body ∷ es) d name h e = let x : Declaration = merge w m j r body in
    procedures_first ds (before ++ x ∷ []) es (d + 1) name (further ds before x es h)
    (omega (arith, length-append before (x ∷ [])))
procedures_first ds before (shared y ∷ es) d name h e = let x : Declaration = shared y in
    procedures_first ds (before ++ x ∷ []) es (d + 1) name (further ds before x es h)
    (omega (arith, length-append before (x ∷ [])))

-- the table of the numbers of all procedures
pub procedures_entered : (p : ProgramTree) (name : Name)
    → find name (entered (proc_at p.declarations) [] (map (λ x. x.decl) (procedures p))) ≡ number_of p name
procedures_entered p name =
    entered_finds (proc_at p.declarations) name [] (map (λ x. x.decl) (procedures p))
    ∙ procedures_first p.declarations [] p.declarations 0 name refl refl
