-- No two locations of a well-typed program have one place.
use Rattle.std.proofs.Common.{◌≡◌, ◌≢◌, ◌⊎◌, inl, inr, ℕ, ℤ, pos, negsuc, zero, suc, ◌+◌, ◌<◌, ◌≤◌, Bool, true, false, cond, ◌&&◌, List, [], ◌∷◌, ◌++◌, map, Option, Some, None, refl, sym, ap, ◌∙◌, subst, arith}
use Rattle.std.specs.Prelude.{◌^◌, codes, is_some, not}
use Rattle.std.specs.List.{list_all}
use Rattle.std.specs.Fmt.{decimal}
use Rattle.std.proofs.lemmas.Fmt.{decimal_injective}
use Rattle.std.proofs.lemmas.List.{append_cancel_right}
use Rattle.std.proofs.lemmas.Bool.{and_parts, or_left, true≢false, leb-true}
use Rattle.rev_num.specs.declared.outcome.Shown.{Shown}
use Rattle.rev_syntax.specs.Bytes.{is_digit, is_letter, is_name_byte, is_word}
use Rattle.rev_syntax.specs.Words.{is_name, is_reserved}
use Rattle.rev_syntax.specs.Trees.{ArraySize, SharedDeclaration, Declaration, fun, merge, shared, proc}
use Rattle.rev_syntax.specs.Small.{name_formed, by_formed, size_formed, first_formed, parameter_formed, expression_small, statements_small, declaration_small}
use Rattle.name_tables.specs.Names.{Name}
use Rattle.typed_programs.specs.Least.{Among}
use Rattle.typed_programs.proofs.Firsts.{among_split}
use Rattle.typed_programs.specs.Kinds.{Names}
use Rattle.typed_programs.specs.Scopes.{cells_of, outside, within}
use Rattle.typed_programs.specs.Layout.{SharedVariable, variable_behind, variables_behind, variables}
use Rattle.typed_programs.specs.Judgement.{name_of, DeclarationTyped, DeclarationsTyped}
use Rattle.revision_machine.proofs.Paths.{apart-same}
use Rattle.revision_calculus.specs.Program.{Setting}
use Rattle.revision_calculus.specs.State.{Location}
use Rattle.revision_calculus.specs.Outcome.{show_cells, show_variable, show_all}
use Rattle.rev_report.specs.Outcome.{place_of}
use Rattle.revision_calculus.specs.Kinded.{IsAccepted}
use Rattle.revision_calculus.proofs.FunKinds.{rules_kept}
use Rattle.audit_rules.specs.Parts.{places, is_known, IsApart}

-- ---- names have no bracket

abbrev Free : List ℕ → Type 0
Free [] = Unit {0}
Free (b ∷ bs) = (b ≢ 91) × Free bs

no_bracket : (b : ℕ) → is_name_byte b ≡ true → b ≢ 91
no_bracket b h e = let k : is_name_byte 91 ≡ true = subst (λ x. is_name_byte x ≡ true) e h in true≢false (sym k)

free_all : (bs : List ℕ) → list_all is_name_byte bs ≡ true → Free bs
free_all [] h = tt
free_all (b ∷ bs) h =
    let both = and_parts (is_name_byte b) (list_all is_name_byte bs) h in (no_bracket b both.0, free_all bs both.1)

free_name : (bs : List ℕ) → is_name bs ≡ true → Free bs
free_name bs h = go bs (and_parts (is_word bs) (not (is_reserved bs)) h).0
  where
    go : (bs : List ℕ) → is_word bs ≡ true → Free bs
    go [] e = tt
    go (b ∷ bs) e =
        let both = and_parts (is_letter b) (list_all is_name_byte bs) e in
        (no_bracket b (or_left (is_letter b) (is_digit b) both.0), free_all bs both.1)

heads : {a b : ℕ} {s t : List ℕ} → a ∷ s ≡ b ∷ t → (a ≡ b) × (s ≡ t)
heads e = (cc, cc)

split : (n m s t : List ℕ) → Free n → Free m → n ++ 91 ∷ s ≡ m ++ 91 ∷ t → (n ≡ m) × (s ≡ t)
split [] [] s t f g e = (refl, (heads e).1)
split [] (b ∷ m) s t f g e = absurd (g.0 (sym (heads e).0))
split (a ∷ n) [] s t f g e = absurd (f.0 (heads e).0)
split (a ∷ n) (b ∷ m) s t f g e =
    let h = heads e in
    let rest = split n m s t f.1 g.1 h.1 in
    let hd : a ≡ b = h.0 in
    let tl : n ≡ m = rest.0 in
    (λ i. hd i ∷ tl i, rest.1)

no_split : (n m t : List ℕ) → Free n → n ≢ m ++ 91 ∷ t
no_split [] [] t f e = cc
no_split [] (b ∷ m) t f e = cc
no_split (a ∷ n) [] t f e = f.0 (heads e).0
no_split (a ∷ n) (b ∷ m) t f e = no_split n m t f.1 (heads e).1

-- ---- places

-- the names are equal, and the cells too
abbrev SameCell : Option ℕ → Option ℕ → Type 0
SameCell None None = Unit {0}
SameCell None (Some j) = ⊥
SameCell (Some i) None = ⊥
SameCell (Some i) (Some j) = decimal i ≡ decimal j

place_is : (m : Name) (j : ℕ) → place_of m (Some j) ≡ m ++ 91 ∷ (decimal j ++ codes "]")
place_is m j = refl

place_same : (n m : Name) (c d : Option ℕ) → Free n → Free m → place_of n c ≡ place_of m d → (n ≡ m) × SameCell c d
place_same n m None None f g e = (e, tt)
place_same n m None (Some j) f g e = absurd (no_split n m (decimal j ++ codes "]") f (e ∙ place_is m j))
place_same n m (Some i) None f g e = absurd (no_split m n (decimal i ++ codes "]") g (sym e ∙ place_is n i))
place_same n m (Some i) (Some j) f g e =
    let both =
    split n m (decimal i ++ codes "]") (decimal j ++ codes "]") f g (sym (place_is n i) ∙ e ∙ place_is m j) in
    (both.0, append_cancel_right (decimal i) (decimal j) (codes "]") both.1)

abbrev pub place : Shown → List ℕ
place x = place_of x.name x.cell

-- each differs in its place from those behind it
abbrev Differ : List Shown → Type 0
Differ [] = Unit {0}
Differ (x ∷ xs) = ((y : Shown) → Among xs y → place y ≢ place x) × Differ xs

unknown : (xs : List Shown) (p : List ℕ) → ((y : Shown) → Among xs y → place y ≢ p) → is_known (map place xs) p ≡ false
unknown [] p h = refl
unknown (x ∷ xs) p h =
    ap (λ b. cond b true (is_known (map place xs) p)) (apart-same (place x) p (h x (inl refl)))
    ∙ unknown xs p (λ y i. h y (inr i))

apart_of : (xs : List Shown) → Differ xs → IsApart (map place xs)
apart_of [] d = tt
apart_of (x ∷ xs) d = (unknown xs (place x) d.0, apart_of xs d.1)

differ_append : (xs ys : List Shown) → Differ xs → Differ ys
    → ((x y : Shown) → Among xs x → Among ys y → place y ≢ place x) → Differ (xs ++ ys)
differ_append [] ys d e h = e
differ_append (x ∷ xs) ys d e h =
    (λ y i. first y (among_split xs ys y i), differ_append xs ys d.1 e (λ a b i j. h a b (inr i) j))
  where
    first : (y : Shown) → Among xs y ⊎ Among ys y → place y ≢ place x
    first y (inl i) = d.0 y i
    first y (inr j) = h x y (inl refl) j

-- ---- cells

record IsCell (name : Name) (low high : ℕ) (y : Shown) : Type 0 where
  named : y.name ≡ name
  at : ℕ
  cell : y.cell ≡ Some at
  above : low ≤ at
  below : at < high

cells_among : (name : Name) (locations : List Location) (base cell n : ℕ) (y : Shown)
    → Among (show_cells name locations base cell n) y → IsCell name cell (cell + n) y
cells_among name locations base cell zero y i = absurd i
cells_among name locations base cell (suc n) y (inl e) = record {
  named = ap (λ v. v.name) (sym e);
  at = cell;
  cell = ap (λ v. v.cell) (sym e);
  above = omega arith;
  below = omega arith;
}
cells_among name locations base cell (suc n) y (inr i) =
    let h = cells_among name locations base (suc cell) n y i in
    let a = h.above in
    let b = h.below in
    record { named = h.named; at = h.at; cell = h.cell; above = omega arith; below = omega arith }

cells_differ : (name : Name) (locations : List Location) (base cell n : ℕ) → Free name → cell + n < 2 ^ 64
    → Differ (show_cells name locations base cell n)
cells_differ name locations base cell zero free few = tt
cells_differ name locations base cell (suc n) free few =
    (apart, cells_differ name locations base (suc cell) n free (omega arith))
  where
    apart : (y : Shown) → Among (show_cells name locations base (suc cell) n) y → place y ≢ place_of name (Some cell)
    apart y i e =
        let h = cells_among name locations base (suc cell) n y i in
        let here : place_of name (Some h.at) ≡ place_of name (Some cell) =
        sym (λ k. place_of (h.named k) (h.cell k)) ∙ e in
        let digits : decimal h.at ≡ decimal cell = (place_same name name (Some h.at) (Some cell) free free here).1 in
        let a = h.above in
        let b = h.below in
        let same : h.at ≡ cell = decimal_injective h.at cell (omega arith) (omega arith) digits in
        omega arith

variable_differ : (locations : List Location) (x : SharedVariable) (b : Bool) → Free x.declared.name.text
    → x.info.cells < 2 ^ 64 → Differ (show_variable locations x b)
variable_differ locations x true free few =
    cells_differ x.declared.name.text locations x.info.base 0 x.info.cells free (omega arith)
variable_differ locations x false free few = (λ y i. absurd i, tt)

variable_named : (locations : List Location) (x : SharedVariable) (b : Bool) (y : Shown)
    → Among (show_variable locations x b) y → y.name ≡ x.declared.name.text
variable_named locations x true y i = (cells_among x.declared.name.text locations x.info.base 0 x.info.cells y i).named
variable_named locations x false y (inl e) = ap (λ v. v.name) (sym e)
variable_named locations x false y (inr i) = absurd i

-- ---- declarations

sized_parts : (x : SharedDeclaration) → declaration_small (shared x) ≡ true
    → ((name_formed x.name && by_formed x.by) ≡ true) × (size_formed x.size ≡ true)
sized_parts x h =
    and_parts (name_formed x.name && by_formed x.by) (size_formed x.size)
    (and_parts (name_formed x.name && by_formed x.by && size_formed x.size) (first_formed x.first) h).0

entry_free : (e : Declaration) → declaration_small e ≡ true → Free (name_of e)
entry_free (fun w ps r body) h =
    free_name w.text (and_parts (name_formed w) (list_all parameter_formed ps)
    (and_parts (name_formed w && list_all parameter_formed ps) (expression_small body) h).0).0
entry_free (merge w m j r body) h =
    free_name w.text (and_parts (name_formed w) (name_formed m)
    (and_parts (name_formed w && name_formed m) (name_formed j)
    (and_parts (name_formed w && name_formed m && name_formed j) (name_formed r)
    (and_parts (name_formed w && name_formed m && name_formed j && name_formed r) (expression_small body) h).0).0).0).0
entry_free (shared x) h = free_name x.name.text (and_parts (name_formed x.name) (by_formed x.by) (sized_parts x h).0).0
entry_free (proc w ps r body) h =
    free_name w.text (and_parts (name_formed w) (list_all parameter_formed ps)
    (and_parts (name_formed w && list_all parameter_formed ps) (statements_small body) h).0).0

among_free : (es : List Declaration) → list_all declaration_small es ≡ true → (e : Declaration) → Among es e
    → Free (name_of e)
among_free [] h e i = absurd i
among_free (d ∷ es) h e (inl is) =
    subst (λ v. Free (name_of v)) is
    (entry_free d (and_parts (declaration_small d) (list_all declaration_small es) h).0)
among_free (d ∷ es) h e (inr i) =
    among_free es (and_parts (declaration_small d) (list_all declaration_small es) h).1 e i

typed_new : (outer inner : Names) (before : List Declaration) (e : Declaration) → DeclarationTyped outer inner before e
    → (d : Declaration) → Among before d → name_of d ≢ name_of e
typed_new outer inner before (fun w ps r body) t = t.name
typed_new outer inner before (merge w m j r body) t = t.name
typed_new outer inner before (shared x) t = t.name
typed_new outer inner before (proc w ps r body) t = t.name

later_new : (outer inner : Names) (before es : List Declaration) → DeclarationsTyped outer inner before es
    → (d e : Declaration) → Among before d → Among es e → name_of d ≢ name_of e
later_new outer inner before [] t d e i j = absurd j
later_new outer inner before (x ∷ es) t d e i (inl is) =
    subst (λ v. name_of d ≢ name_of v) is (typed_new outer inner before x t.0 d i)
later_new outer inner before (x ∷ es) t d e i (inr j) = later_new outer inner (x ∷ before) es t.1 d e (inr i) j

shown_named : (laid es : List Declaration) (locations : List Location) (y : Shown)
    → Among (show_all (variables_behind laid es) locations) y → (e : Declaration) × Among es e × (y.name ≡ name_of e)
shown_named laid [] locations y i = absurd i
shown_named laid (fun w ps r body ∷ es) locations y i =
    let h = shown_named (laid ++ fun w ps r body ∷ []) es locations y i in (h.0, inr h.1, h.2)
shown_named laid (merge w m j r body ∷ es) locations y i =
    let h = shown_named (laid ++ merge w m j r body ∷ []) es locations y i in (h.0, inr h.1, h.2)
shown_named laid (proc w ps r body ∷ es) locations y i =
    let h = shown_named (laid ++ proc w ps r body ∷ []) es locations y i in (h.0, inr h.1, h.2)
shown_named laid (shared x ∷ es) locations y i =
    go (λ j. shown_named (laid ++ shared x ∷ []) es locations y j)
    (among_split (show_variable locations (variable_behind laid x) (is_some x.size))
    (show_all (variables_behind (laid ++ shared x ∷ []) es) locations) y i)
  where
    go : (Among (show_all (variables_behind (laid ++ shared x ∷ []) es) locations) y
        → (e : Declaration) × Among es e × (y.name ≡ name_of e))
        → Among (show_variable locations (variable_behind laid x) (is_some x.size)) y
        ⊎ Among (show_all (variables_behind (laid ++ shared x ∷ []) es) locations) y
        → (e : Declaration) × Among (shared x ∷ es) e × (y.name ≡ name_of e)
    go later (inl j) = (shared x, inl refl, variable_named locations (variable_behind laid x) (is_some x.size) y j)
    go later (inr j) = let h = later j in (h.0, inr h.1, h.2)

few_cells : (o : Option ArraySize) → size_formed o ≡ true → cells_of o < 2 ^ 64
few_cells None h = omega arith
few_cells (Some x) h = go x.cells h
  where
    go : (z : ℤ) → size_formed (Some (record x { cells = z })) ≡ true
        → cells_of (Some (record x { cells = z })) < 2 ^ 64
    go (pos n) h = let k = leb-true n _ h in omega arith
    go (negsuc n) h = omega arith

shown_differ : (outer inner : Names) (before laid : List Declaration) (es : List Declaration)
    (locations : List Location)
    → DeclarationsTyped outer inner before es → list_all declaration_small es ≡ true
    → Differ (show_all (variables_behind laid es) locations)
shown_differ outer inner before laid [] locations t h = tt
shown_differ outer inner before laid (fun w ps r body ∷ es) locations t h =
    shown_differ outer inner (fun w ps r body ∷ before) (laid ++ fun w ps r body ∷ []) es locations t.1
    (and_parts (declaration_small (fun w ps r body)) (list_all declaration_small es) h).1
shown_differ outer inner before laid (merge w m j r body ∷ es) locations t h =
    shown_differ outer inner (merge w m j r body ∷ before) (laid ++ merge w m j r body ∷ []) es locations t.1
    (and_parts (declaration_small (merge w m j r body)) (list_all declaration_small es) h).1
shown_differ outer inner before laid (proc w ps r body ∷ es) locations t h =
    shown_differ outer inner (proc w ps r body ∷ before) (laid ++ proc w ps r body ∷ []) es locations t.1
    (and_parts (declaration_small (proc w ps r body)) (list_all declaration_small es) h).1
shown_differ outer inner before laid (shared x ∷ es) locations t h =
    differ_append (show_variable locations y (is_some x.size))
    (show_all (variables_behind (laid ++ shared x ∷ []) es) locations)
    (variable_differ locations y (is_some x.size) free (few_cells x.size sized))
    (shown_differ outer inner (shared x ∷ before) (laid ++ shared x ∷ []) es locations t.1 small.1) apart
  where
    y : SharedVariable
    y = variable_behind laid x

    small : (declaration_small (shared x) ≡ true) × (list_all declaration_small es ≡ true)
    small = and_parts (declaration_small (shared x)) (list_all declaration_small es) h

    free : Free x.name.text
    free = entry_free (shared x) small.0

    sized : size_formed x.size ≡ true
    sized = (sized_parts x small.0).1

    apart : (a b : Shown) → Among (show_variable locations (variable_behind laid x) (is_some x.size)) a
        → Among (show_all (variables_behind (laid ++ shared x ∷ []) es) locations) b → place b ≢ place a
    apart a b i j e =
        let h = shown_named (laid ++ shared x ∷ []) es locations b j in
        let named : a.name ≡ x.name.text = variable_named locations (variable_behind laid x) (is_some x.size) a i in
        let free_b : Free b.name = subst Free (sym h.2) (among_free es small.1 h.0 h.1) in
        let free_a : Free a.name = subst Free (sym named) free in
        let names : b.name ≡ a.name = (place_same b.name a.name b.cell a.cell free_b free_a e).0 in
        later_new outer inner (shared x ∷ before) es t.1 (shared x) h.0 (inl refl) h.1 (sym named ∙ sym names ∙ h.2)

pub places_apart : (s : Setting) → IsAccepted s.program → IsApart (places s)
places_apart s well =
    apart_of (show_all (variables s.program) [])
    (shown_differ (outside s.program.declarations) (within s.program.declarations) [] [] s.program.declarations []
    (rules_kept s.program well).declarations well.small.declarations)
