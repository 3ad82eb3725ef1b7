-- Declarations in order: what the first adds, and those behind it.
use Rattle.std.proofs.Common.{◌≡◌, ◌∙◌, ◌<◌, ◌^◌, ℕ, ◌+◌, List, [], ◌∷◌, ◌++◌, length, refl, ap, sym, arith, append_assoc, length-append}
use Rattle.rev_syntax.specs.Trees.{Statements, Declaration, fun, merge, shared, proc}
use Rattle.typed_programs.specs.Kinds.{Names}
use Rattle.typed_programs.specs.Scopes as scopes
use Rattle.rev_code.specs.declared.code.LayoutItem.{LayoutItem}
use Rattle.rev_code.specs.declared.code.CodeBlock.{CodeBlock}
use Rattle.code_generation.specs.Numbers.{Numbers}
use Rattle.code_generation.specs.Sizes.{statements_prints}
use Rattle.code_generation.specs.Prints.{statements_texts, statements_layouts}
use Rattle.code_generation.specs.Generated.{value_blocks, body_blocks, texts_of, layouts_of}
use Rattle.code_generation.proofs.Lengths.{statements_prints_length}
use Rattle.emit_program.specs.Parts.{value_block_of, body_block_of, prints_of, texts_in, layouts_in}

pub value_first : (n : Numbers) (e : Declaration) (es : List Declaration)
    → value_blocks n (e ∷ es) ≡ value_block_of n e ++ value_blocks n es
value_first n (fun w ps r body) es = refl
value_first n (merge w m j r body) es = refl
value_first n (shared x) es = refl
value_first n (proc w ps r body) es = refl

-- one more fun or merge
pub values_behind : (n : Numbers) (e : Declaration) (es : List Declaration) (b0 b1 : List CodeBlock)
    → b1 ≡ b0 ++ value_block_of n e
    → b1 ++ value_blocks n es ≡ b0 ++ value_blocks n (e ∷ es)
values_behind n e es b0 b1 h =
    ap (λ x. x ++ value_blocks n es) h
    ∙ append_assoc b0 (value_block_of n e) (value_blocks n es)
    ∙ ap (λ x. b0 ++ x) (sym (value_first n e es))

no_more : (k : ℕ) → k ≡ k + 0
no_more k = omega arith

module _ (n : Numbers) (c : Names) (main : Statements) where
  body_first : (e : Declaration) (es : List Declaration) (layout : ℕ)
      → body_blocks n c (e ∷ es) main layout
      ≡ body_block_of n c layout e ++ body_blocks n c es main (layout + prints_of e)
  body_first (proc w ps r body) es layout = refl
  body_first (fun w ps r body) es layout = ap (λ k. body_blocks n c es main k) (no_more layout)
  body_first (merge w m j r body) es layout = ap (λ k. body_blocks n c es main k) (no_more layout)
  body_first (shared x) es layout = ap (λ k. body_blocks n c es main k) (no_more layout)

  -- one more procedure
  pub bodies_behind : (e : Declaration) (es : List Declaration) (b0 b1 : List CodeBlock) (y0 y1 : ℕ)
      → b1 ≡ b0 ++ body_block_of n c y0 e → y1 ≡ y0 + prints_of e
      → b1 ++ body_blocks n c es main y1 ≡ b0 ++ body_blocks n c (e ∷ es) main y0
  bodies_behind e es b0 b1 y0 y1 h k =
      (λ j. h j ++ body_blocks n c es main (k j))
      ∙ append_assoc b0 (body_block_of n c y0 e) (body_blocks n c es main (y0 + prints_of e))
      ∙ ap (λ x. b0 ++ x) (sym (body_first e es y0))

module _ (c : Names) (main : Statements) where
  texts_first : (e : Declaration) (es : List Declaration) → texts_of (e ∷ es) main ≡ texts_in e ++ texts_of es main
  texts_first (proc w ps r body) es = refl
  texts_first (fun w ps r body) es = refl
  texts_first (merge w m j r body) es = refl
  texts_first (shared x) es = refl

  layouts_first : (e : Declaration) (es : List Declaration) (t : ℕ)
      → layouts_of c t (e ∷ es) main ≡ layouts_in c t e ++ layouts_of c (t + length (texts_in e)) es main
  layouts_first (proc w ps r body) es t = refl
  layouts_first (fun w ps r body) es t = ap (λ k. layouts_of c k es main) (no_more t)
  layouts_first (merge w m j r body) es t = ap (λ k. layouts_of c k es main) (no_more t)
  layouts_first (shared x) es t = ap (λ k. layouts_of c k es main) (no_more t)

  layouts_long : (e : Declaration) (t : ℕ) → length (layouts_in c t e) ≡ prints_of e
  layouts_long (proc w ps r body) t = statements_prints_length c (scopes.with_params [] ps) t body
  layouts_long (fun w ps r body) t = refl
  layouts_long (merge w m j r body) t = refl
  layouts_long (shared x) t = refl

  -- so many more layouts
  pub layouts_grown : (e : Declaration) (t : ℕ) (y0 y1 : List (List LayoutItem)) → y1 ≡ y0 ++ layouts_in c t e
      → length y1 ≡ length y0 + prints_of e
  layouts_grown e t y0 y1 h =
      let a = ap length h in
      let b = length-append y0 (layouts_in c t e) in
      let l = layouts_long e t in
      omega (arith, a, b, l)

  texts_grown : (e : Declaration) (t0 t1 : List (List ℕ)) → t1 ≡ t0 ++ texts_in e
      → length t1 ≡ length t0 + length (texts_in e)
  texts_grown e t0 t1 h = let a = ap length h in let b = length-append t0 (texts_in e) in omega (arith, a, b)

  pub texts_behind : (e : Declaration) (es : List Declaration) (t0 t1 : List (List ℕ)) → t1 ≡ t0 ++ texts_in e
      → t1 ++ texts_of es main ≡ t0 ++ texts_of (e ∷ es) main
  texts_behind e es t0 t1 h =
      ap (λ x. x ++ texts_of es main) h
      ∙ append_assoc t0 (texts_in e) (texts_of es main)
      ∙ ap (λ x. t0 ++ x) (sym (texts_first e es))

  pub layouts_behind : (e : Declaration) (es : List Declaration) (t0 t1 : List (List ℕ))
      (y0 y1 : List (List LayoutItem))
      → t1 ≡ t0 ++ texts_in e → y1 ≡ y0 ++ layouts_in c (length t0) e
      → y1 ++ layouts_of c (length t1) es main ≡ y0 ++ layouts_of c (length t0) (e ∷ es) main
  layouts_behind e es t0 t1 y0 y1 h k =
      (λ j. k j ++ layouts_of c (texts_grown e t0 t1 h j) es main)
      ∙ append_assoc y0 (layouts_in c (length t0) e) (layouts_of c (length t0 + length (texts_in e)) es main)
      ∙ ap (λ x. y0 ++ x) (sym (layouts_first e es (length t0)))

  -- ---- room

  pub texts_room : (e : Declaration) (es : List Declaration) (t all : List (List ℕ)) → t ++ texts_of (e ∷ es) main ≡ all
      → length all < 2 ^ 32 → length t + length (texts_in e) < 2 ^ 32
  texts_room e es t all h few =
      let a = ap length h in
      let b = length-append t (texts_of (e ∷ es) main) in
      let d = ap length (texts_first e es) in
      let f = length-append (texts_in e) (texts_of es main) in
      omega (arith, a, b, d, f, few)

  pub layouts_room : (e : Declaration) (es : List Declaration) (t : ℕ) (y all : List (List LayoutItem))
      → y ++ layouts_of c t (e ∷ es) main ≡ all → length all < 2 ^ 32 → length y + prints_of e < 2 ^ 32
  layouts_room e es t y all h few =
      let a = ap length h in
      let b = length-append y (layouts_of c t (e ∷ es) main) in
      let d = ap length (layouts_first e es t) in
      let f = length-append (layouts_in c t e) (layouts_of c (t + length (texts_in e)) es main) in
      let l = layouts_long e t in
      omega (arith, a, b, d, f, l, few)

  pub main_texts_room : (t all : List (List ℕ)) → t ++ texts_of [] main ≡ all → length all < 2 ^ 32
      → length t + length (statements_texts main) < 2 ^ 32
  main_texts_room t all h few =
      let a = ap length h in let b = length-append t (statements_texts main) in omega (arith, a, b, few)

  pub main_layouts_room : (t : ℕ) (y all : List (List LayoutItem)) → y ++ layouts_of c t [] main ≡ all
      → length all < 2 ^ 32 → length y + statements_prints main < 2 ^ 32
  main_layouts_room t y all h few =
      let a = ap length h in
      let b = length-append y (statements_layouts c [] t main) in
      let l = statements_prints_length c [] t main in
      omega (arith, a, b, l, few)
