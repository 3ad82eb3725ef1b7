-- The values of a view, row by row.
use Rattle.std.proofs.Common.{◌≡◌, ℕ, zero, suc, ◌+◌, ◌-◌, ◌<◌, Bool, true, false, List, [], ◌∷◌, ◌++◌, length, map, drop, get_or, slice_get, Option, Some, None, option_map, refl, sym, ap, ◌∙◌, subst, arith, append_assoc, true≢false}
use Rattle.std.proofs.lemmas.Option.{slice_get-map, slice_get-get_or, slice_get_within}
use Rattle.std.proofs.lemmas.List.{length-map}
use Rattle.rev_num.specs.declared.outcome.Shown.{Shown}
use Rattle.rev_num.specs.declared.value.ValueKind.{ValueKind}
use Rattle.rev_syntax.specs.declared.tree.Name as declared
use Rattle.rev_syntax.specs.declared.tree.Size.{Size}
use Rattle.rev_syntax.specs.declared.tree.Const.{Const}
use Rattle.rev_syntax.specs.declared.tree.Decl.{Decl}
use Rattle.rev_syntax.specs.declared.tree.Decl.TheVariants as decl
use Rattle.rev_syntax.specs.View.{placed_name, array_size, constant, declaration}
use Rattle.rev_syntax.specs.Trees.{SharedDeclaration, Declaration, fun, merge, shared, proc, ProgramTree}
use Rattle.name_tables.specs.Names.{Name}
use Rattle.typed_programs.specs.declared.shared_info.SharedInfo.{SharedInfo}
use Rattle.typed_programs.specs.Layout.{SharedVariable, variable_behind, variables_behind, variables, shared_rows}
use Rattle.revision_calculus.specs.State.{Location, view_at}
use Rattle.revision_calculus.specs.Outcome.{show_cells, show_variable, show_all}
use Rattle.revision_data.specs.Shows.{shown_by, shown_of}

-- ---- the cells of an array

module _ (name : Name) (locations : List Location) (base : ℕ) where
  next_cell : (cell count : ℕ) (n : ℕ) → n ≡ suc count
      → show_cells name locations base cell n
      ≡ record { name = name; cell = Some cell; value = view_at locations (base + cell) }
      ∷ show_cells name locations base (suc cell) count
  next_cell cell count n e = ap (show_cells name locations base cell) e

  pub cells_more : (cells cell : ℕ) (whole out new : List Shown) (x : Shown) → cell < cells
      → x ≡ record { name = name; cell = Some cell; value = view_at locations (base + cell) } → new ≡ out ++ x ∷ []
      → out ++ show_cells name locations base cell (cells - cell) ≡ whole
      → new ++ show_cells name locations base (cell + 1) (cells - (cell + 1)) ≡ whole
  cells_more cells cell whole out new x lt is pushed so_far =
      let rest : cells - cell ≡ suc (cells - (cell + 1)) = omega arith in
      let one : cell + 1 ≡ suc cell = omega arith in
      ap (λ l. l ++ show_cells name locations base (cell + 1) (cells - (cell + 1))) pushed
      ∙ append_assoc out (x ∷ []) (show_cells name locations base (cell + 1) (cells - (cell + 1)))
      ∙ ap (λ v. out ++ v ∷ show_cells name locations base (cell + 1) (cells - (cell + 1))) is
      ∙ ap (λ n.
      out ++ record { name = name; cell = Some cell; value = view_at locations (base + cell) }
      ∷ show_cells name locations base n (cells - (cell + 1)))
      one
      ∙ ap (λ l. out ++ l) (sym (next_cell cell (cells - (cell + 1)) (cells - cell) rest))
      ∙ so_far

-- ---- where a variable is declared

slice_get-mid : {A : Type 0} (before : List A) (y : A) (es : List A)
    → slice_get (before ++ y ∷ es) (length before) ≡ Some y
slice_get-mid [] y es = refl
slice_get-mid (x ∷ before) y es = slice_get-mid before y es

behind : {A : Type 0} (before es : List A) (y : A) (n : ℕ) (z : A) → slice_get ((before ++ y ∷ []) ++ es) n ≡ Some z
    → slice_get (before ++ y ∷ es) n ≡ Some z
behind before es y n z e = ap (λ l. slice_get l n) (sym (append_assoc before (y ∷ []) es)) ∙ e

pub variable_place : (before es : List Declaration) (k : ℕ) (x : SharedVariable)
    → slice_get (variables_behind before es) k ≡ Some x
    → slice_get (before ++ es) x.info.decl ≡ Some (shared x.declared)
variable_place before [] k x e = absurd cc
variable_place before (shared y ∷ es) zero x e =
    let is : variable_behind before y ≡ x = (let f : Some (variable_behind before y) ≡ Some x = e in cc) in
    subst (λ v. slice_get (before ++ shared y ∷ es) v.info.decl ≡ Some (shared v.declared)) is
    (slice_get-mid before (shared y) es)
variable_place before (shared y ∷ es) (suc k) x e =
    behind before es (shared y) x.info.decl (shared x.declared) (variable_place (before ++ shared y ∷ []) es k x e)
variable_place before (fun w ps r body ∷ es) k x e =
    behind before es (fun w ps r body) x.info.decl (shared x.declared)
    (variable_place (before ++ fun w ps r body ∷ []) es k x e)
variable_place before (merge w m j r body ∷ es) k x e =
    behind before es (merge w m j r body) x.info.decl (shared x.declared)
    (variable_place (before ++ merge w m j r body ∷ []) es k x e)
variable_place before (proc w ps r body ∷ es) k x e =
    behind before es (proc w ps r body) x.info.decl (shared x.declared)
    (variable_place (before ++ proc w ps r body ∷ []) es k x e)

-- the variable of a row of the table
pub record OfRow (p : ProgramTree) (i : ℕ) (row : SharedInfo) : Type 0 where
  pub variable : SharedVariable
  pub stands : slice_get (variables p) i ≡ Some variable
  pub info : variable.info ≡ row
  pub place : slice_get p.declarations row.decl ≡ Some (shared variable.declared)

pub of_row : (p : ProgramTree) (i : ℕ) (row : SharedInfo)
    → slice_get (map (λ (x : SharedVariable). x.info) (variables p)) i ≡ Some row → OfRow p i row
of_row p i row e =
    go (slice_get (variables p) i) refl (sym (slice_get-map (λ (x : SharedVariable). x.info) (variables p) i) ∙ e)
  where
    go : (o : Option SharedVariable) → slice_get (variables p) i ≡ o
        → option_map (λ (x : SharedVariable). x.info) o ≡ Some row → OfRow p i row
    go None f g = absurd cc
    go (Some x) f g =
        let is : x.info ≡ row = (let h : Some x.info ≡ Some row = g in cc) in
        record {
          variable = x;
          stands = f;
          info = is;
          place = subst (λ r. slice_get p.declarations r.decl ≡ Some (shared x.declared)) is
              (variable_place [] p.declarations i x f);
        }

-- what a row has before it is read
abbrev pub no_row : SharedInfo
no_row = record { decl = 0; base = 0; cells = 0; array = false; merge = None }

-- the variable of the row at a place of the table
pub row_at : (p : ProgramTree) (rows : List SharedInfo) (i : ℕ) → rows ≡ shared_rows p → i < length rows
    → OfRow p i (get_or rows i no_row)
row_at p rows i e lt =
    of_row p i (get_or rows i no_row) (ap (λ l. slice_get l i) (sym e) ∙ slice_get-get_or rows i no_row lt)

module _ (ds : List Decl) (k : ℕ) (x : SharedDeclaration)
    (place : slice_get (map declaration ds) k ≡ Some (shared x)) where
  pub decl_within : k < length ds
  decl_within =
      let w = slice_get_within (map declaration ds) k (shared x) place in
      let n = length-map ds declaration in
      omega arith

  -- what is declared there
  pub declared_at : (y d : Decl) → y ≡ get_or ds k d → declaration y ≡ shared x
  declared_at y d e =
      let f : Some (declaration (get_or ds k d)) ≡ Some (shared x) =
      ap (option_map declaration) (sym (slice_get-get_or ds k d decl_within)) ∙ sym (slice_get-map declaration ds k)
      ∙ place in
      ap declaration e ∙ (let g = f in cc)

abbrev pub is_shared : Declaration → Bool
is_shared (shared x) = true
is_shared (fun w ps r body) = false
is_shared (merge w m j r body) = false
is_shared (proc w ps r body) = false

-- it is no other declaration
pub no_other : (x : SharedDeclaration) (y z : Decl) → declaration y ≡ shared x → y ≡ z
    → is_shared (declaration z) ≡ false → ⊥
no_other x y z e is other = true≢false (sym (ap is_shared (sym (ap declaration is) ∙ e)) ∙ other)

pub shared_name : (x : SharedDeclaration) (y : Decl) (name : declared.Name) (by : Option declared.Name) (at : ℕ)
    (holds : ValueKind) (size : Option Size) (first : Option Const)
    → declaration y ≡ shared x → y ≡ decl.Shared name by at holds size first → x.name.text ≡ name.text.items
shared_name x y name by at holds size first e is =
    let f : shared (record {
      name = placed_name name;
      by = option_map placed_name by;
      kind_at = at;
      holds = holds;
      size = option_map array_size size;
      first = option_map constant first;
    }) ≡ shared x = sym (ap declaration is) ∙ e in
    sym (ap (λ v. text_in v) f)
  where
    text_in : Declaration → Name
    text_in (shared v) = v.name.text
    text_in (fun w ps r body) = []
    text_in (merge w m j r body) = []
    text_in (proc w ps r body) = []

-- ---- one variable more

drop_get : {A : Type 0} (xs : List A) (i : ℕ) (x : A) → slice_get xs i ≡ Some x → drop i xs ≡ x ∷ drop (suc i) xs
drop_get [] i x e = absurd cc
drop_get (y ∷ xs) zero x e = ap (λ v. v ∷ xs) (let f : Some y ≡ Some x = e in cc)
drop_get (y ∷ xs) (suc i) x e = drop_get xs i x e

shown_is : (x : SharedVariable) (locations : List Location) (b : Bool)
    → show_variable locations x b ≡ shown_by b x.declared.name.text x.info locations
shown_is x locations true = refl
shown_is x locations false = refl

pub values_more : (p : ProgramTree) (locations : List Location) (i : ℕ) (row : SharedInfo) (name : Name)
    (out new : List Shown) (r : OfRow p i row)
    → r.variable.declared.name.text ≡ name
    → new ≡ out ++ shown_of name row locations
    → out ++ show_all (drop i (variables p)) locations ≡ show_all (variables p) locations
    → new ++ show_all (drop (i + 1) (variables p)) locations ≡ show_all (variables p) locations
values_more p locations i row name out new r named pushed so_far =
    let x : SharedVariable = r.variable in
    let one : i + 1 ≡ suc i = omega arith in
    let later : List Shown = show_all (drop (suc i) (variables p)) locations in
    let shown : shown_of name row locations ≡ show_variable locations x x.info.array =
    ap (λ n. shown_of n row locations) (sym named) ∙ ap (λ v. shown_of x.declared.name.text v locations) (sym r.info)
    ∙ sym (shown_is x locations x.info.array) in
    ap (λ n. new ++ show_all (drop n (variables p)) locations) one
    ∙ ap (λ l. l ++ later) pushed ∙ append_assoc out (shown_of name row locations) later
    ∙ ap (λ l. out ++ (l ++ later)) shown
    ∙ ap (λ l. out ++ show_all l locations) (sym (drop_get (variables p) i x r.stands))
    ∙ so_far
