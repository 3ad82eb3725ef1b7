-- Related revisions have the same outcome, where they have ended.
use Rattle.std.proofs.Common.{◌≡◌, ◌∙◌, ℕ, zero, suc, ◌+◌, Bool, true, false, List, [], ◌∷◌, ◌++◌, map, Option, Some, None, refl, sym, ap, arith}
use Rattle.std.specs.Prelude.{if◌then◌else◌}
use Rattle.rev_num.specs.Path.{Path}
use Rattle.rev_num.specs.declared.value.Value.{Value}
use Rattle.rev_num.specs.declared.value.Value.TheVariants as v
use Rattle.rev_num.specs.declared.outcome.Outcome.TheVariants as o
use Rattle.rev_syntax.specs.Trees.{Declaration, fun, merge, shared, proc}
use Rattle.name_tables.specs.Names.{Name}
use Rattle.typed_programs.specs.Limits.{cells}
use Rattle.typed_programs.specs.Layout.{SharedVariable, variable_behind, variables_behind, variables}
use Rattle.revision_machine.specs.Machine.{Entry, Plain, Joined, Global, Twice, Live}
use Rattle.revision_machine.specs.Simulation.{EntryAgrees, Agrees}
use Rattle.revision_calculus.specs.Program.{Setting}
use Rattle.revision_calculus.specs.State.{Location, view, view_at, Local}
use Rattle.revision_calculus.specs.Calculus.{calculus}
use Rattle.revision_calculus.specs.Outcome as calculus_outcome
use Rattle.code_generation.specs.Generated.{var_of}
use Rattle.expression_meaning.specs.Agrees.{word}
use Rattle.expression_meaning.specs.States.{location_word, IsShared}
use Rattle.code_machine.specs.Local as code
use Rattle.code_machine.specs.Machines.{machine}
use Rattle.code_machine.specs.Outcome.{value_of, value_at, show_cells, show_variable, show_all, origin_path, end_as, main_outcome, outcome_by_paths}
use Rattle.program_meaning.specs.Related.{run_of, origin_at, IsSame, works, is_done, is_trapped}
use Rattle.program_meaning.specs.Relation.{IsRelated}

abbrev same_path : Path → Path
same_path p = p

-- ---- values

pub value_back : (x : Value) → value_of (λ p. p) (word x) ≡ x
value_back (v.Int n) = refl
value_back (v.Bool b) = refl
value_back (v.Rev None) = refl
value_back (v.Rev (Some q)) = refl

view_back : (m : Location) → value_of (λ p. p) (Rattle.rev_code.specs.State.seen (location_word m)) ≡ view m
view_back m = by m.written
  where
    by : (w : Option Value)
        → value_of (λ p. p) (Rattle.rev_code.specs.State.seen (location_word (record { base = m.base; written = w })))
        ≡ view (record { base = m.base; written = w })
    by None = value_back m.base
    by (Some x) = value_back x

value_shown : (ms : List Location) (n : ℕ) → value_at (λ p. p) (map location_word ms) n ≡ view_at ms n
value_shown [] n = refl
value_shown (m ∷ ms) zero = view_back m
value_shown (m ∷ ms) (suc n) = value_shown ms n

cells_shown : (name : Name) (ms : List Location) (base cell count : ℕ)
    → show_cells (λ p. p) name (map location_word ms) base cell count
    ≡ calculus_outcome.show_cells name ms base cell count
cells_shown name ms base cell zero = refl
cells_shown name ms base cell (suc n) =
    let a = value_shown ms (base + cell) in let b = cells_shown name ms base (suc cell) n in
    λ j. record { name = name; cell = Some cell; value = a j } ∷ b j

variable_shown : (all : List Declaration) (ms : List Location) (base : ℕ) (x : SharedVariable) → base ≡ x.info.base
    → show_variable (λ p. p) (map location_word ms) base (var_of all x)
    ≡ calculus_outcome.show_variable ms x x.info.array
variable_shown all ms base x e =
    ap (λ n. show_variable (λ p. p) (map location_word ms) n (var_of all x)) e ∙ by x.info.array
  where
    by : (d : Bool)
        → (if d then show_cells (λ p. p) x.declared.name.text (map location_word ms) x.info.base 0 x.info.cells
        else record {
          name = x.declared.name.text;
          cell = None;
          value = value_at (λ p. p) (map location_word ms) x.info.base;
        } ∷ [])
        ≡ calculus_outcome.show_variable ms x d
    by true = cells_shown x.declared.name.text ms x.info.base 0 x.info.cells
    by false = (let a = value_shown ms x.info.base in
        λ j. record { name = x.declared.name.text; cell = None; value = a j } ∷ [])

cells_behind : (before : List Declaration) (e : Declaration) → cells (before ++ e ∷ []) ≡ cells before + cells (e ∷ [])
cells_behind [] e = omega arith
cells_behind (shared x ∷ before) e = let h = cells_behind before e in omega (arith, h)
cells_behind (fun w ps r body ∷ before) e = cells_behind before e
cells_behind (merge w m j r body ∷ before) e = cells_behind before e
cells_behind (proc w ps r body ∷ before) e = cells_behind before e

all_shown : (all laid es : List Declaration) (ms : List Location) (base : ℕ) → base ≡ cells laid
    → show_all (λ p. p) (map location_word ms) base (map (var_of all) (variables_behind laid es))
    ≡ calculus_outcome.show_all (variables_behind laid es) ms
all_shown all laid [] ms base e = refl
all_shown all laid (fun w ps r body ∷ es) ms base e =
    all_shown all (laid ++ fun w ps r body ∷ []) es ms base
    (let h = cells_behind laid (fun w ps r body) in omega (arith, h, e))
all_shown all laid (merge w m j r body ∷ es) ms base e =
    all_shown all (laid ++ merge w m j r body ∷ []) es ms base
    (let h = cells_behind laid (merge w m j r body) in omega (arith, h, e))
all_shown all laid (proc w ps r body ∷ es) ms base e =
    all_shown all (laid ++ proc w ps r body ∷ []) es ms base
    (let h = cells_behind laid (proc w ps r body) in omega (arith, h, e))
all_shown all laid (shared x ∷ es) ms base e =
    let a = variable_shown all ms base (variable_behind laid x) e in
    let b = all_shown all (laid ++ shared x ∷ []) es ms (base + (variable_behind laid x).info.cells)
    (let h = cells_behind laid (shared x) in omega (arith, h, e)) in
    λ j. a j ++ b j

-- ---- outcomes

origin_shown : (x : Option Path) → origin_at [] x ≡ origin_path (λ p. p) x
origin_shown None = refl
origin_shown (Some q) = refl

module _ (s : Setting) where
  shown : (l : Local) (k : code.Local Path) → IsShared l k.state
      → show_all (λ p. p) k.state.locations 0 (run_of s).code.vars
      ≡ calculus_outcome.show_all (variables s.program) l.locations
  shown l k sh =
      ap (λ ls. show_all (λ p. p) ls 0 (run_of s).code.vars) sh.0
      ∙ all_shown s.program.declarations [] s.program.declarations l.locations 0 refl

  same_outcome : (l : Local) (k : code.Local Path) → IsSame s [] l k
      → main_outcome (λ p. p) (run_of s) k
      ≡ calculus_outcome.end_as l.text (calculus_outcome.show_all (variables s.program) l.locations) l.phase
  same_outcome l k (works e h) =
      ap (end_as (λ p. p) k.state.text (show_all (λ p. p) k.state.locations 0 (run_of s).code.vars)) e
      ∙ sym (ap (calculus_outcome.end_as l.text (calculus_outcome.show_all (variables s.program) l.locations)) h.phase)
  same_outcome l k (is_done e f sh) =
      let values = shown l k sh in let text = sh.4 in
      ap (end_as (λ p. p) k.state.text (show_all (λ p. p) k.state.locations 0 (run_of s).code.vars)) e
      ∙ (λ j. Some (o.Done (text j) (values j)))
      ∙ sym (ap (calculus_outcome.end_as l.text (calculus_outcome.show_all (variables s.program) l.locations)) f)
  same_outcome l k (is_trapped t u e f is sh) =
      let values = shown l k sh in let text = sh.4 in
      let cause = is.cause in let line = is.line in let origin = is.origin ∙ origin_shown u.origin in
      ap (end_as (λ p. p) k.state.text (show_all (λ p. p) k.state.locations 0 (run_of s).code.vars)) e
      ∙ (λ j. Some
      (o.Trapped (text j) (values j) (record { cause = sym cause j; line = sym line j; origin = sym origin j })))
      ∙ sym (ap (calculus_outcome.end_as l.text (calculus_outcome.show_all (variables s.program) l.locations)) f)

  entry_outcome : (x : Option (Entry Local)) (y : Option (Entry (code.Local Path)))
      → EntryAgrees (calculus s) (machine (run_of s)) (IsRelated s) [] x y
      → Rattle.code_machine.specs.Outcome.outcome_in (run_of s) y ≡ calculus_outcome.main_outcome s x
  entry_outcome None None h = refl
  entry_outcome None (Some f) h = absurd h
  entry_outcome (Some e) None h = absurd h
  entry_outcome (Some (Plain l)) (Some (Plain k)) h = same_outcome l k h.0
  entry_outcome (Some (Joined l)) (Some (Joined k)) h = same_outcome l k h.0
  entry_outcome (Some (Plain l)) (Some (Joined k)) h = absurd h
  entry_outcome (Some (Joined l)) (Some (Plain k)) h = absurd h

  pub outcomes_same : (g : Global Local) (w : Global (code.Local Path))
      → Agrees (calculus s) (machine (run_of s)) (IsRelated s) g w
      → outcome_by_paths (run_of s) w ≡ calculus_outcome.outcome s g
  outcomes_same Twice Twice h = refl
  outcomes_same Twice (Live w) h = absurd h
  outcomes_same (Live g) Twice h = absurd h
  outcomes_same (Live g) (Live w) h = entry_outcome (g []) (w []) (h [])
