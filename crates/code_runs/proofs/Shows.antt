-- What is shown of words is what is shown of the locations for which they stand.
use Rattle.std.proofs.Common.{◌≡◌, ◌∙◌, ℕ, zero, suc, ◌+◌, ◌<◌, ◌≤◌, Bool, true, false, List, [], ◌∷◌, ◌++◌, length, take, drop, get_or, replicate, Option, Some, None, refl, sym, ap, subst, arith}
use Rattle.std.specs.Prelude.{slice_get, if◌then◌else◌}
use Rattle.std.proofs.lemmas.Bool.Decides.{nat_tests}
use Rattle.std.proofs.lemmas.List.{append-nil, drop_more, drop_all, get_or-drop}
use Rattle.rev_num.specs.Path.{Path}
use Rattle.rev_num.specs.declared.value.ValueKind.{ValueKind}
use Rattle.rev_num.specs.declared.outcome.Shown.{Shown}
use Rattle.rev_code.specs.declared.code.CodeVar.{CodeVar}
use Rattle.rev_code.specs.State.{Location, seen_at}
use Rattle.code_rules.specs.Tables as rules
use Rattle.code_soundness.specs.Typed.{location_kinds}
use Rattle.block_run.specs.Area.{count}
use Rattle.code_machine.specs.Joining.{main_at}
use Rattle.code_machine.specs.Outcome.{value_of, value_at, show_cells, show_variable, show_all}
use Rattle.leg_run.specs.Standing.{word_as}
use Rattle.code_runs.specs.Words.{cell_shown, cells_shown, variables_shown}
use Rattle.code_runs.proofs.Starting.{IsGood, AreGood}
use Rattle.rev_vm.proofs.Leaving.{append_three}

-- ---- one after another

module _ (path : ℕ → Path) where
  pub cell_more : (x : CodeVar) (ws : List ℕ) (cell : ℕ) (out new : List Shown) (one : Shown) (whole : List Shown)
      → cell < length ws → one ≡ cell_shown path x cell (get_or ws cell 0) → new ≡ out ++ one ∷ []
      → out ++ cells_shown path x cell (drop cell ws) ≡ whole
      → new ++ cells_shown path x (cell + 1) (drop (cell + 1) ws) ≡ whole
  cell_more x ws cell out new one whole less made pushed so_far =
      let rest : List Shown = cells_shown path x (cell + 1) (drop (cell + 1) ws) in
      let next : suc cell ≡ cell + 1 = omega arith in
      let split : cells_shown path x cell (drop cell ws) ≡ one ∷ rest =
      ap (cells_shown path x cell) (drop_more ws cell 0 less)
      ∙ (λ i. sym made i ∷ cells_shown path x (next i) (drop (cell + 1) ws)) in
      ap (λ l. l ++ rest) pushed ∙ append_three out (one ∷ []) rest ∙ ap (λ l. out ++ l) (sym split) ∙ so_far

  pub cells_all : (x : CodeVar) (ws : List ℕ) (cell : ℕ) (out whole : List Shown) → length ws ≤ cell
      → out ++ cells_shown path x cell (drop cell ws) ≡ whole → out ≡ whole
  cells_all x ws cell out whole few so_far =
      sym (append-nil out) ∙ ap (λ l. out ++ l) (sym (ap (cells_shown path x cell) (drop_all cell ws few))) ∙ so_far

front : (vs : List CodeVar) (n : ℕ) (v : CodeVar) → n < length vs → v ≡ get_or vs n v → drop n vs ≡ v ∷ drop (n + 1) vs
front vs n v less is = drop_more vs n v less ∙ ap (λ u. u ∷ drop (n + 1) vs) (sym is)

pub count_more : (vs : List CodeVar) (n : ℕ) (v : CodeVar) → n < length vs → v ≡ get_or vs n v
    → count (drop n vs) ≡ v.cells + count (drop (n + 1) vs)
count_more vs n v less is = ap count (front vs n v less is)

module _ (path : ℕ → Path) where
  pub variable_more : (vs : List CodeVar) (n : ℕ) (v : CodeVar) (rest own behind : List ℕ) (out new whole : List Shown)
      → n < length vs → v ≡ get_or vs n v → own ≡ take v.cells rest → behind ≡ drop v.cells rest
      → new ≡ out ++ cells_shown path v 0 own → out ++ variables_shown path (drop n vs) rest ≡ whole
      → new ++ variables_shown path (drop (n + 1) vs) behind ≡ whole
  variable_more vs n v rest own behind out new whole less is first last pushed so_far =
      let later : List Shown = variables_shown path (drop (n + 1) vs) behind in
      let split : variables_shown path (drop n vs) rest ≡ cells_shown path v 0 own ++ later =
      ap (λ l. variables_shown path l rest) (front vs n v less is)
      ∙ (λ i. cells_shown path v 0 (sym first i) ++ variables_shown path (drop (n + 1) vs) (sym last i)) in
      ap (λ l. l ++ later) pushed ∙ append_three out (cells_shown path v 0 own) later ∙ ap (λ l. out ++ l) (sym split)
      ∙ so_far

  pub variables_all : (vs : List CodeVar) (rest : List ℕ) (n : ℕ) (out whole : List Shown) → length vs ≤ n
      → out ++ variables_shown path (drop n vs) rest ≡ whole → out ≡ whole
  variables_all vs rest n out whole few so_far =
      sym (append-nil out) ∙ ap (λ l. out ++ l) (sym (ap (λ l. variables_shown path l rest) (drop_all n vs few)))
      ∙ so_far

-- ---- of locations

one_cell : (v : CodeVar) → rules.has_cells v.array v.cells ≡ true → v.array ≡ false → v.cells ≡ 1
one_cell v h is =
    let z : rules.has_cells false v.cells ≡ true = subst (λ b. rules.has_cells b v.cells ≡ true) is h in
    grind (arith, nat_tests, z)

own_kind : (n j : ℕ) (x : ValueKind) (kinds : List ValueKind) → j < n → slice_get (replicate n x ++ kinds) j ≡ Some x
own_kind zero j x kinds less = absurd (omega (arith, less))
own_kind (suc n) zero x kinds less = refl
own_kind (suc n) (suc j) x kinds less = own_kind n j x kinds (omega (arith, less))

later_kind : (n j m : ℕ) (x : ValueKind) (kinds : List ValueKind) → m ≡ n + j
    → slice_get (replicate n x ++ kinds) m ≡ slice_get kinds j
later_kind zero j m x kinds is = ap (slice_get kinds) (let e : m ≡ j = omega (arith, is) in e)
later_kind (suc n) j zero x kinds is = absurd (omega (arith, is))
later_kind (suc n) j (suc m) x kinds is = later_kind n j m x kinds (omega (arith, is))

get_front : (n j : ℕ) (ws : List ℕ) → j < n → get_or (take n ws) j 0 ≡ get_or ws j 0
get_front zero j ws less = absurd (omega (arith, less))
get_front (suc n) j [] less = refl
get_front (suc n) zero (w ∷ ws) less = refl
get_front (suc n) (suc j) (w ∷ ws) less = get_front n j ws (omega (arith, less))

module _ (path : ℕ → Path) (ls : List (Location ℕ)) where
  -- these words stand at the locations from this one on
  abbrev Stand : List ValueKind → ℕ → List ℕ → Type 0
  Stand kinds base ws =
      (j : ℕ) (kind : ValueKind) → slice_get kinds j ≡ Some kind
      → main_at (seen_at ls (base + j)) ≡ word_as kind (get_or ws j 0)

  cells_same : (x : CodeVar) → x.array ≡ true → (base cell n : ℕ) (ws : List ℕ) → n ≤ length ws
      → ((j : ℕ) → j < n → main_at (seen_at ls (base + (cell + j))) ≡ word_as x.kind (get_or ws j 0))
      → show_cells path x.name ls base cell n ≡ cells_shown path x cell (take n ws)
  cells_same x is base cell zero ws few h = refl
  cells_same x is base cell (suc n) [] few h = absurd (omega (arith, few))
  cells_same x is base cell (suc n) (w ∷ ws) few h =
      let value : value_at path ls (base + cell) ≡ value_of path (word_as x.kind w) =
      ap (λ m. value_at path ls m) (let e : base + cell ≡ base + (cell + 0) = omega arith in e)
      ∙ ap (value_of path) (h 0 (omega arith)) in
      let number : Some cell ≡ (if x.array then Some cell else None) =
      ap (λ b. if b then Some cell else None) (sym is) in
      let rest = cells_same x is base (suc cell) n ws (omega (arith, few))
      (λ j less.
      ap (λ m. main_at (seen_at ls m)) (let e : base + (suc cell + j) ≡ base + (cell + suc j) = omega arith in e)
      ∙ h (suc j) (omega (arith, less))) in
      λ i. record { name = x.name; cell = number i; value = value i } ∷ rest i

  scalar_same : (x : CodeVar) → x.array ≡ false → x.cells ≡ 1 → (base : ℕ) (ws : List ℕ) → x.cells ≤ length ws
      → ((j : ℕ) → j < x.cells → main_at (seen_at ls (base + j)) ≡ word_as x.kind (get_or ws j 0))
      → record { name = x.name; cell = None; value = value_at path ls base } ∷ []
      ≡ cells_shown path x 0 (take x.cells ws)
  scalar_same x is one base [] few h = absurd (omega (arith, few, one))
  scalar_same x is one base (w ∷ ws) few h =
      let value : value_at path ls base ≡ value_of path (word_as x.kind w) =
      ap (λ m. value_at path ls m) (let e : base ≡ base + 0 = omega arith in e)
      ∙ ap (value_of path) (h 0 (omega (arith, one))) in
      let number : ◌≡◌ {A = Option ℕ} None (if x.array then Some 0 else None) =
      ap (λ b. if b then Some 0 else None) (sym is) in
      let shown :
      record { name = x.name; cell = None; value = value_at path ls base } ∷ [] ≡ cells_shown path x 0 (w ∷ []) =
      λ i. record { name = x.name; cell = number i; value = value i } ∷ [] in
      shown ∙ ap (λ n. cells_shown path x 0 (take n (w ∷ ws))) (sym one)

  variable_same : (x : CodeVar) → IsGood x → (base : ℕ) (ws : List ℕ) → x.cells ≤ length ws
      → ((j : ℕ) → j < x.cells → main_at (seen_at ls (base + j)) ≡ word_as x.kind (get_or ws j 0))
      → show_variable path ls base x ≡ cells_shown path x 0 (take x.cells ws)
  variable_same x good base ws few h = by x.array refl
    where
      by : (b : Bool) → x.array ≡ b
          → (if b then show_cells path x.name ls base 0 x.cells
          else record { name = x.name; cell = None; value = value_at path ls base } ∷ [])
          ≡ cells_shown path x 0 (take x.cells ws)
      by true is =
          cells_same x is base 0 x.cells ws few
          (λ j less. ap (λ m. main_at (seen_at ls m)) (let e : base + (0 + j) ≡ base + j = omega arith in e) ∙ h j less)
      by false is = scalar_same x is (one_cell x good.cells is) base ws few h

  pub all_same : (xs : List CodeVar) → AreGood xs → (base : ℕ) (ws : List ℕ) → length ws ≡ count xs
      → Stand (location_kinds xs) base ws → show_all path ls base xs ≡ variables_shown path xs ws
  all_same [] good base ws many h = refl
  all_same (x ∷ xs) good base ws many h =
      let own =
      variable_same x good.0 base ws (omega (arith, many))
      (λ j less. h j x.kind (own_kind x.cells j x.kind (location_kinds xs) less)) in
      let rest = all_same xs good.1 (base + x.cells) (drop x.cells ws) (behind x.cells ws many)
      (λ j kind at.
      ap (λ m. main_at (seen_at ls m)) (let e : base + x.cells + j ≡ base + (x.cells + j) = omega arith in e)
      ∙ h (x.cells + j) kind (later_kind x.cells j (x.cells + j) x.kind (location_kinds xs) refl ∙ at)
      ∙ ap (word_as kind) (sym (get_or-drop x.cells ws j 0))) in
      λ i. own i ++ rest i
    where
      behind : (n : ℕ) (us : List ℕ) → length us ≡ n + count xs → length (drop n us) ≡ count xs
      behind zero us e = (let z : length us ≡ count xs = omega (arith, e) in z)
      behind (suc n) [] e = absurd (omega (arith, e))
      behind (suc n) (u ∷ us) e = behind n us (omega (arith, e))
