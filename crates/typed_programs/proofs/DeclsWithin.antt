-- A program breaks no limit exactly where its counts are within the limits.
use Rattle.std.proofs.Common.{◌≡◌, ◌∙◌, ◌≢◌, inl, ℕ, ◌+◌, ◌-◌, ◌≤◌, ◌<◌, min, Bool, true, false, cond, nat_le, nat_lt, Some, None, List, [], ◌∷◌, ◌++◌, refl, ap, length, arith}
use Rattle.std.proofs.lemmas.Bool.Decides.{nat_tests}
use Rattle.rev_num.specs.declared.value.ValueKind.TheVariants as k
use Rattle.rev_syntax.specs.Trees.{PlacedName, Parameter, Expression, Declaration, fun, merge, shared, proc, ProgramTree}
use Rattle.name_tables.specs.Table.{Table, find, added}
use Rattle.rev_report.specs.declared.limit.Limit.TheVariants as limits
use Rattle.rev_report.specs.Limits.{first_past, most}
use Rattle.typed_programs.specs.Kinds.{Names, Locals}
use Rattle.typed_programs.specs.Rules as r
use Rattle.typed_programs.proofs.Lists.{parts, failed}
use Rattle.typed_programs.proofs.Typings.{All, one, app}
use Rattle.typed_programs.specs.Judgement.{ProgramTyped}
use Rattle.typed_programs.specs.Statements as s
use Rattle.typed_programs.specs.Scopes as scopes
use Rattle.typed_programs.specs.Program as p
use Rattle.typed_programs.specs.Weights.{expression_weight, weights_with}
use Rattle.typed_programs.specs.Limits.{statements_lets, cells, procs, funs, DeclarationWithin, DeclarationsWithin, IsWithinLimits}
use Rattle.typed_programs.proofs.DeclsFaults.{param_place, DeclarationsHold, program_faults}
use Rattle.typed_programs.proofs.StatementsFaults.{AllAre}
use Rattle.typed_programs.proofs.StatementsWithin.{Never, list_never, statements_never, statements_within, not_last, one_less, one_more}
use Rattle.typed_programs.proofs.Weights.{Caps, none_caps, added_caps, expression_caps}

-- ---- parameters

fun_params : (l : Locals) (left : ℕ) (found : All) (ps : List Parameter) → p.fun_params [] one app l left found ps ≡ []
    → (found ≡ []) × (0 < left → length ps < left)
fun_params l left found [] h = (h, λ g. g)
fun_params l left found (b ∷ ps) h =
    let rest =
    fun_params (added l b.name.text (Some b.kind)) (left - 1) (found ++ p.fun_param [] one app l left b) ps h in
    let here = parts found _ rest.0 in
    let limit = parts (p.no_rev_param [] one app b) _ (parts (p.new_param [] one app b.name l) _ here.1).1 in
    let n = not_last left _ limit.1 in (
      here.0,
      λ g. let e : length ps + 1 < left = one_more (length ps) left g (rest.1 (one_less left n g)) in omega arith,
    )

proc_params : (c : Names) (l : Locals) (left locals : ℕ) (found : All) (ps : List Parameter)
    → p.proc_params [] one app c l left locals found ps ≡ [] → (found ≡ []) × (0 < left → length ps < left)
proc_params c l left locals found [] h = (h, λ g. g)
proc_params c l left locals found (b ∷ ps) h =
    let rest =
    proc_params c (added l b.name.text (Some b.kind)) (left - 1) (locals - 1)
    (found ++ p.proc_param [] one app c l left locals b) ps h in
    let here = parts found _ rest.0 in
    let limit =
    parts (p.limit_at [] one app b.name.at limits.Parameters left) _
    (parts (s.new_local [] one app b.name (find b.name.text l) (c.shared b.name.text)) _ here.1).1 in
    let n = not_last left _ limit.0 in (
      here.0,
      λ g. let e : length ps + 1 < left = one_more (length ps) left g (rest.1 (one_less left n g)) in omega arith,
    )

pub params_left : (n : ℕ) (ps : List Parameter) → p.left_params n ps ≡ n - length ps
params_left n [] = omega arith
params_left n (b ∷ ps) =
    params_left (n - 1) ps ∙ (let e : n - 1 - length ps ≡ n - (length ps + 1) = omega arith in e ∙ (omega arith))

-- ---- weights

weight_is_within : (n m : ℕ) → m ≡ min n (first_past limits.Weight) → nat_lt (most limits.Weight) m ≡ false
    → n ≤ most limits.Weight
weight_is_within n m e h = let g : m ≤ most limits.Weight = grind (arith, nat_tests) in omega arith

weight_never : (n m : ℕ) → m ≡ min n (first_past limits.Weight) → n ≤ most limits.Weight
    → nat_lt (most limits.Weight) m ≡ true → ⊥
weight_never n m e h t = let g : most limits.Weight < m = grind (arith, nat_tests) in omega arith

weight_within : (w : PlacedName) (ws vs : Table ℕ) (e : Expression) → Caps ws vs
    → p.weight_of [] one app w (p.weight vs e) ≡ [] → expression_weight ws e ≤ most limits.Weight
weight_within w ws vs e c h =
    weight_is_within (expression_weight ws e) (p.weight vs e) (expression_caps ws vs c e)
    (failed (nat_lt (most limits.Weight) (p.weight vs e)) _ h)

-- ---- locations

located_sum : (before c n : ℕ) → before ≡ min c (first_past limits.Locations)
    → min (before + min n (first_past limits.Locations)) (first_past limits.Locations)
    ≡ min (c + n) (first_past limits.Locations)
located_sum before c n e = omega arith

located_within : (w : PlacedName) (before after : ℕ) → p.location_limit [] one app w before after ≡ []
    → before ≤ most limits.Locations → after ≤ most limits.Locations
located_within w before after h g =
    let b : nat_le before (most limits.Locations) ≡ true = grind (arith, nat_tests) in
    by (nat_le before (most limits.Locations)) b h
  where
    by : (x : Bool) → x ≡ true → cond x (p.location_limit [] one app w 0 after) [] ≡ [] → after ≤ most limits.Locations
    by true e d =
        let f : nat_lt (most limits.Locations) after ≡ false = failed (nat_lt (most limits.Locations) after) _ d in
        grind (arith, nat_tests)
    by false e d = cc

location_never : (before after c n : ℕ) → after ≡ min (c + n) (first_past limits.Locations)
    → c + n ≤ most limits.Locations → nat_lt (most limits.Locations) after ≡ true → ⊥
location_never before after c n e h t = let g : most limits.Locations < after = grind (arith, nat_tests) in omega arith

located_all : (q : p.Passed) (c : ℕ) (es : List Declaration) → q.located ≡ min c (first_past limits.Locations)
    → (p.passed_all q es).located ≡ min (c + cells es) (first_past limits.Locations)
located_all q c [] e = e ∙ ap (λ n. min n (first_past limits.Locations)) (let d : c ≡ c + 0 = omega arith in d)
located_all q c (shared x ∷ es) e =
    located_all (p.passed_with q (shared x)) (c + scopes.cells_of x.size) es
    (located_sum q.located c (scopes.cells_of x.size) e)
    ∙ ap (λ n. min n (first_past limits.Locations))
    (let d : c + scopes.cells_of x.size + cells es ≡ c + (scopes.cells_of x.size + cells es) = omega arith in d)
located_all q c (fun w ps x body ∷ es) e = located_all (p.passed_with q (fun w ps x body)) c es e
located_all q c (merge w m j x body ∷ es) e = located_all (p.passed_with q (merge w m j x body)) c es e
located_all q c (proc w ps x body ∷ es) e = located_all (p.passed_with q (proc w ps x body)) c es e

-- ---- where no limit is broken, the counts are within them

pub record Counted (q : p.Passed) (es : List Declaration) : Type 0 where
  pub procs_within : 0 < q.procs_left → procs es < q.procs_left
  pub funs_within : 0 < q.funs_left → funs es < q.funs_left
  pub located : q.located ≤ most limits.Locations → (p.passed_all q es).located ≤ most limits.Locations

-- the first past a limit is not here
one_counted : (n left : ℕ) → left ≢ 1 → (0 < left - 1 → n < left - 1) → 0 < left → 1 + n < left
one_counted n left h g e = let d : n + 1 < left = one_more n left e (g (one_less left h e)) in omega arith

counted : (outer inner : Names) (q : p.Passed) (e : Declaration) (es : List Declaration)
    → p.broken_in_declaration [] one app outer inner q e ≡ [] → Counted (p.passed_with q e) es → Counted q (e ∷ es)
counted outer inner q (fun w ps x body) es h g =
    let head = parts (p.new_name [] one app w q.names ++ p.limit_at [] one app w.at limits.Funs q.funs_left) _ h in
    let n = not_last q.funs_left _ (parts (p.new_name [] one app w q.names) _ head.0).1 in
    record {
      procs_within = g.procs_within;
      funs_within = one_counted (funs es) q.funs_left n g.funs_within;
      located = g.located;
    }
counted outer inner q (merge w m j x body) es h g =
    let head = parts (p.new_name [] one app w q.names ++ p.limit_at [] one app w.at limits.Funs q.funs_left) _ h in
    let n = not_last q.funs_left _ (parts (p.new_name [] one app w q.names) _ head.0).1 in
    record {
      procs_within = g.procs_within;
      funs_within = one_counted (funs es) q.funs_left n g.funs_within;
      located = g.located;
    }
counted outer inner q (shared x) es h g =
    let head =
    parts (p.new_name [] one app x.name q.names
    ++ p.location_limit [] one app x.name q.located (p.located_after q.located (p.cells_in x.size)))
    _ h in
    let limit = (parts (p.new_name [] one app x.name q.names) _ head.0).1 in
    record {
      procs_within = g.procs_within;
      funs_within = g.funs_within;
      located = λ e.
          g.located (located_within x.name q.located (p.located_after q.located (p.cells_in x.size)) limit e);
    }
counted outer inner q (proc w ps x body) es h g =
    let head =
    parts (p.new_name [] one app w q.names ++ p.limit_at [] one app w.at limits.Procedures q.procs_left) _ h in
    let n = not_last q.procs_left _ (parts (p.new_name [] one app w q.names) _ head.0).1 in
    record {
      procs_within = one_counted (procs es) q.procs_left n g.procs_within;
      funs_within = g.funs_within;
      located = g.located;
    }

body_within : (n left lets : ℕ) → left ≡ first_past limits.Locals - n → n < first_past limits.Parameters
    → (0 < left → lets < left) → n + lets ≤ most limits.Locals
body_within n left lets e h g = let d : lets < left = g (omega arith) in omega arith

declaration_within : (outer inner : Names) (q : p.Passed) (ws : Table ℕ) (e : Declaration) → Caps ws q.weights
    → p.broken_in_declaration [] one app outer inner q e ≡ [] → DeclarationWithin ws e
declaration_within outer inner q ws (fun w ps x body) c h =
    let head = parts (p.new_name [] one app w q.names ++ p.limit_at [] one app w.at limits.Funs q.funs_left) _ h in
    let more =
    parts (p.fun_params [] one app [] (first_past limits.Parameters) [] ps ++ p.fun_result [] one app w x) _ head.1 in
    let params =
    (fun_params [] (first_past limits.Parameters) [] ps
    (parts (p.fun_params [] one app [] (first_past limits.Parameters) [] ps) _ more.0).0).1
    (omega arith) in
    let weight = (parts (p.fun_body [] one app inner (scopes.with_params [] ps) x body) _ more.1).1 in
    (omega arith, weight_within w ws q.weights body c weight)
declaration_within outer inner q ws (merge w m j x body) c h =
    let head = parts (p.new_name [] one app w q.names ++ p.limit_at [] one app w.at limits.Funs q.funs_left) _ h in
    let more = parts (p.merge_params [] one app m j x) _ head.1 in
    let weight = (parts (r.part_by [] one app inner (scopes.merge_locals m j x) body k.Int) _ more.1).1 in
    weight_within w ws q.weights body c weight
declaration_within outer inner q ws (shared x) c h = tt
declaration_within outer inner q ws (proc w ps x body) c h =
    let head =
    parts (p.new_name [] one app w q.names ++ p.limit_at [] one app w.at limits.Procedures q.procs_left) _ h in
    let more =
    parts (p.proc_params [] one app outer [] (first_past limits.Parameters) (first_past limits.Locals) [] ps
    ++ p.return_use [] one app w x (s.returns body))
    _ head.1 in
    let params =
    (proc_params outer [] (first_past limits.Parameters) (first_past limits.Locals) [] ps
    (parts (p.proc_params [] one app outer [] (first_past limits.Parameters) (first_past limits.Locals) [] ps) _
    more.0).0).1
    (omega arith) in
    let block =
    (statements_within outer x (scopes.with_params [] ps) (p.left_params (first_past limits.Locals) ps) [] body
    more.1).1 in
    let some : 0 < p.left_params (first_past limits.Locals) ps =
    (let e = params_left (first_past limits.Locals) ps in omega arith) in (
      omega arith,
      (
        body_within (length ps) (p.left_params (first_past limits.Locals) ps) (statements_lets body)
            (params_left (first_past limits.Locals) ps) params (λ g. (block g).0),
        (block some).1,
      ),
    )

weights_cap : (q : p.Passed) (ws : Table ℕ) (e : Declaration) → Caps ws q.weights
    → Caps (weights_with ws e) (p.passed_with q e).weights
weights_cap q ws (fun w ps x body) c =
    added_caps ws q.weights w.text (expression_weight ws body) (p.weight q.weights body) c
    (expression_caps ws q.weights c body)
weights_cap q ws (merge w m j x body) c = c
weights_cap q ws (shared x) c = c
weights_cap q ws (proc w ps x body) c = c

declarations_within : (outer inner : Names) (q : p.Passed) (ws : Table ℕ) (found : All) (es : List Declaration)
    → Caps ws q.weights → p.broken_in_declarations [] one app outer inner q found es ≡ []
    → (found ≡ []) × Counted q es × DeclarationsWithin ws es
declarations_within outer inner q ws found [] c h =
    (h, record { procs_within = λ g. g; funs_within = λ g. g; located = λ g. g }, tt)
declarations_within outer inner q ws found (e ∷ es) c h =
    let rest =
    declarations_within outer inner (p.passed_with q e) (weights_with ws e)
    (found ++ p.broken_in_declaration [] one app outer inner q e) es (weights_cap q ws e c) h in
    let here = parts found _ rest.0 in
    (here.0, counted outer inner q e es here.1 rest.1, (declaration_within outer inner q ws e c here.1, rest.2))

cells_within : (n m : ℕ) → m ≡ min n (first_past limits.Locations) → m ≤ most limits.Locations
    → n ≤ most limits.Locations
cells_within n m e h = omega arith

pub program_within : (x : ProgramTree) → p.faults x ≡ [] → IsWithinLimits x
program_within x h =
    let both =
    parts (p.broken_in_declarations [] one app (scopes.outside x.declarations) (scopes.within x.declarations)
    p.nothing_passed [] x.declarations)
    _ h in
    let all =
    declarations_within (scopes.outside x.declarations) (scopes.within x.declarations) p.nothing_passed [] []
    x.declarations none_caps both.0 in
    let main =
    (statements_within (scopes.outside x.declarations) None [] (first_past limits.Locals) [] x.main both.1).1
    (omega arith) in
    let locals = main.0 in
    let some_procs = all.1.procs_within (omega arith) in
    let some_funs = all.1.funs_within (omega arith) in record {
      locations = cells_within (cells x.declarations) (p.locations x)
          (located_all p.nothing_passed 0 x.declarations refl
          ∙ ap (λ n. min n (first_past limits.Locations))
          (let e : 0 + cells x.declarations ≡ cells x.declarations = omega arith in e))
          (all.1.located (omega arith));
      procedures = omega arith;
      declared_funs = omega arith;
      declarations = all.2;
      main = (omega arith, main.1);
    }

-- ---- within the limits none is broken

record Room (q : p.Passed) (c : ℕ) (es : List Declaration) : Type 0 where
  located : q.located ≡ min c (first_past limits.Locations)
  cells_fit : c + cells es ≤ most limits.Locations
  procs_fit : procs es < q.procs_left
  funs_fit : funs es < q.funs_left

one_fewer : (n left : ℕ) → 1 + n < left → n < left - 1
one_fewer n left h = omega arith

last_never : (n left : ℕ) → 1 + n < left → left ≡ 1 → ⊥
last_never n left h e = omega arith

declarations_never : (q : p.Passed) (ws : Table ℕ) (c : ℕ) (es : List Declaration) → Caps ws q.weights → Room q c es
    → DeclarationsWithin ws es → DeclarationsHold Never q es
declarations_never q ws c [] a room h = tt
declarations_never q ws c (fun w ps x body ∷ es) a room h = (
  (
    λ e. last_never (funs es) q.funs_left room.funs_fit e,
    list_never limits.Parameters param_place (first_past limits.Parameters) ps (let g = h.0.0 in omega arith),
    λ t. weight_never (expression_weight ws body) (p.weight q.weights body) (expression_caps ws q.weights a body) h.0.1
        t,
  ),
  declarations_never (p.passed_with q (fun w ps x body)) (weights_with ws (fun w ps x body)) c es
      (weights_cap q ws (fun w ps x body) a) (record {
        located = room.located;
        cells_fit = room.cells_fit;
        procs_fit = room.procs_fit;
        funs_fit = one_fewer (funs es) q.funs_left room.funs_fit;
      }) h.1,
)
declarations_never q ws c (merge w m j x body ∷ es) a room h = (
  (
    λ e. last_never (funs es) q.funs_left room.funs_fit e,
    λ t. weight_never (expression_weight ws body) (p.weight q.weights body) (expression_caps ws q.weights a body) h.0 t,
  ),
  declarations_never (p.passed_with q (merge w m j x body)) ws c es a (record {
    located = room.located;
    cells_fit = room.cells_fit;
    procs_fit = room.procs_fit;
    funs_fit = one_fewer (funs es) q.funs_left room.funs_fit;
  }) h.1,
)
declarations_never q ws c (shared x ∷ es) a room h = (
  λ b t.
      location_never q.located (p.located_after q.located (p.cells_in x.size)) c (scopes.cells_of x.size)
      (located_sum q.located c (scopes.cells_of x.size) room.located) (let g = room.cells_fit in omega arith) t,
  declarations_never (p.passed_with q (shared x)) ws (c + scopes.cells_of x.size) es a (record {
    located = located_sum q.located c (scopes.cells_of x.size) room.located;
    cells_fit = let g = room.cells_fit in omega arith;
    procs_fit = room.procs_fit;
    funs_fit = room.funs_fit;
  }) h.1,
)
declarations_never q ws c (proc w ps x body ∷ es) a room h = (
  (
    λ e. last_never (procs es) q.procs_left room.procs_fit e,
    list_never limits.Parameters param_place (first_past limits.Parameters) ps (let g = h.0.0 in omega arith),
    list_never limits.Locals param_place (first_past limits.Locals) ps (let g = h.0.0 in omega arith),
    statements_never (p.left_params (first_past limits.Locals) ps) body
        (let g = h.0.1.0 in let e = params_left (first_past limits.Locals) ps in omega arith) h.0.1.1,
  ),
  declarations_never (p.passed_with q (proc w ps x body)) ws c es a (record {
    located = room.located;
    cells_fit = room.cells_fit;
    procs_fit = one_fewer (procs es) q.procs_left room.procs_fit;
    funs_fit = room.funs_fit;
  }) h.1,
)

none_among : (fs : All) → AllAre Never fs → fs ≡ []
none_among [] h = refl
none_among (f ∷ fs) h = absurd (h f (inl refl))

pub program_accepts : (x : ProgramTree) → ProgramTyped x → IsWithinLimits x → p.faults x ≡ []
program_accepts x t h =
    let room : Room p.nothing_passed 0 x.declarations =
    record {
      located = refl;
      cells_fit = let g = h.locations in omega arith;
      procs_fit = let g = h.procedures in omega arith;
      funs_fit = let g = h.declared_funs in omega arith;
    } in
    let main = h.main.0 in
    none_among (p.faults x)
    (program_faults Never x t (declarations_never p.nothing_passed [] 0 x.declarations none_caps room h.declarations)
    (statements_never (first_past limits.Locals) x.main (omega arith) h.main.1))

-- the locations of a program within the limits are its cells
pub program_located : (x : ProgramTree) → IsWithinLimits x → p.locations x ≡ cells x.declarations
program_located x h =
    let all = located_all p.nothing_passed 0 x.declarations refl in
    let few = h.locations in
    all
    ∙ (let e : min (0 + cells x.declarations) (first_past limits.Locations) ≡ cells x.declarations = omega arith in e)
