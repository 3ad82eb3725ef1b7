-- What comes of the tasks of an expression's form is its code.
--
--   whole-code, arguments-code, linked-code   what a task gives
--   pick_whole, links_worked, links_decided   the forms with jumps
--   otherwise_written, decided_written        what is written for these, with its targets
use Rattle.std.proofs.Common.{◌≡◌, ℕ, ◌+◌, Bool, List, [], ◌∷◌, ◌++◌, length, refl, sym, ap, ◌∙◌, arith, append_assoc, append-nil, length-append}
use Rattle.std.specs.Prelude.{slice_set}
use Rattle.std.proofs.Math.Seq.{set-append_seam}
use Rattle.rev_syntax.specs.Trees.{Expression, Expressions, Links, pick, chain, expression, no_links, link}
use Rattle.rev_syntax.specs.declared.tree.BinaryOp.{BinaryOp}
use Rattle.rev_syntax.specs.declared.tree.BinaryOp.TheVariants as b
use Rattle.rev_code.specs.declared.code.Instr.{Instr}
use Rattle.rev_code.specs.declared.code.Instr.TheVariants as i
use Rattle.code_generation.specs.Numbers.{Numbers, Scope}
use Rattle.code_generation.specs.Expressions.{expression_size, expressions_size, link_size, link_code, expression_code, form_code, expressions_code, links_code, pick_yes, pick_no, pick_end}
use Rattle.code_generation.proofs.Lengths.{expression_length, expressions_length, link_length}
use Rattle.emit_code.specs.declared.operators.Way.{Way}
use Rattle.emit_code.specs.declared.operators.Way.TheVariants as way
use Rattle.emit_code.specs.Work.{way_of, deciding, whole, arguments, linked, otherwise, decided}

-- ---- lists

one_more : (c a : List Instr) (x : Instr) → (c ++ a) ++ x ∷ [] ≡ c ++ (a ++ x ∷ [])
one_more c a x = append_assoc c a (x ∷ [])

picked : (c a e f : List Instr) (x y m j : Instr)
    → slice_set (slice_set ((((c ++ a) ++ x ∷ []) ++ e) ++ y ∷ []) (length (c ++ a)) m ++ f)
    (length (((c ++ a) ++ x ∷ []) ++ e)) j
    ≡ c ++ ((a ++ m ∷ e) ++ j ∷ f)
picked c a e f x y m j =
    let c1 = c ++ a in
    let flat : ((c1 ++ x ∷ []) ++ e) ++ y ∷ [] ≡ c1 ++ x ∷ (e ++ y ∷ []) = simp append_assoc in
    let one : slice_set (((c1 ++ x ∷ []) ++ e) ++ y ∷ []) (length c1) m ≡ c1 ++ m ∷ (e ++ y ∷ []) =
    ap (λ l. slice_set l (length c1) m) flat ∙ set-append_seam c1 x (e ++ y ∷ []) m in
    let moved : (c1 ++ m ∷ (e ++ y ∷ [])) ++ f ≡ (c1 ++ m ∷ e) ++ y ∷ f = simp append_assoc in
    let l1 = length-append (c1 ++ x ∷ []) e in
    let l2 = length-append c1 (x ∷ []) in
    let l3 = length-append c1 (m ∷ e) in
    let at : length ((c1 ++ x ∷ []) ++ e) ≡ length (c1 ++ m ∷ e) = omega (arith, l1, l2, l3) in
    ap (λ l. slice_set (l ++ f) (length ((c1 ++ x ∷ []) ++ e)) j) one
    ∙ ap (λ l. slice_set l (length ((c1 ++ x ∷ []) ++ e)) j) moved
    ∙ ap (λ k. slice_set ((c1 ++ m ∷ e) ++ y ∷ f) k j) at
    ∙ set-append_seam (c1 ++ m ∷ e) y f j
    ∙ (let last : ((c ++ a) ++ m ∷ e) ++ j ∷ f ≡ c ++ ((a ++ m ∷ e) ++ j ∷ f) = simp append_assoc in last)

pub skipped : (c e f : List Instr) (x m : Instr)
    → slice_set (((c ++ x ∷ []) ++ e) ++ f) (length c) m ≡ c ++ m ∷ (e ++ f)
skipped c e f x m =
    let flat : ((c ++ x ∷ []) ++ e) ++ f ≡ c ++ x ∷ (e ++ f) = simp append_assoc in
    ap (λ l. slice_set l (length c) m) flat ∙ set-append_seam c x (e ++ f) m

-- ---- operators

-- the code behind a left operand, by the way of the operator
abbrev by_way : Way → (size : ℕ) → (code : ℕ → List Instr) → (at : ℕ) → List Instr
by_way (way.Works x) size code at = code at ++ x ∷ []
by_way (way.Decided by) size code at =
    deciding by (at + 1 + size + 1) ∷ code (at + 1) ++ i.Jump (at + size + 3) ∷ i.PushBool by ∷ []

link_by_way : (op : BinaryOp) (size : ℕ) (code : ℕ → List Instr) (at : ℕ)
    → link_code op size code at ≡ by_way (way_of op) size code at
link_by_way b.And size code at = refl
link_by_way b.Or size code at = refl
link_by_way b.Add size code at = refl
link_by_way b.Sub size code at = refl
link_by_way b.Mul size code at = refl
link_by_way b.Div size code at = refl
link_by_way b.Rem size code at = refl
link_by_way b.Eq size code at = refl
link_by_way b.Ne size code at = refl
link_by_way b.Lt size code at = refl
link_by_way b.Le size code at = refl
link_by_way b.Gt size code at = refl
link_by_way b.Ge size code at = refl

module _ (n : Numbers) (scope : Scope) where
  -- ---- what a task gives

  pub whole-code : (e : Expression) (code : List Instr)
      → whole n scope e code ≡ code ++ expression_code n scope e (length code)
  unfolding whole
  whole-code e code = refl

  pub arguments-code : (es : Expressions) (code : List Instr)
      → arguments n scope es code ≡ code ++ expressions_code n scope es (length code)
  unfolding arguments
  arguments-code es code = refl

  pub linked-code : (ls : Links) (code : List Instr)
      → linked n scope ls code ≡ code ++ links_code n scope ls (length code)
  unfolding linked
  linked-code ls code = refl

  pub whole-length : (e : Expression) (code : List Instr)
      → length (whole n scope e code) ≡ length code + expression_size e
  unfolding whole
  whole-length e code =
      let r = length-append code (expression_code n scope e (length code)) in
      let s = expression_length n scope e (length code) in
      omega (arith, r, s)

  pub arguments-length : (es : Expressions) (code : List Instr)
      → length (arguments n scope es code) ≡ length code + expressions_size es
  unfolding arguments
  arguments-length es code =
      let r = length-append code (expressions_code n scope es (length code)) in
      let s = expressions_length n scope es (length code) in
      omega (arith, r, s)

  -- ---- forms without jumps

  pub whole_then : (e : Expression) (x : Instr) (code : List Instr)
      → whole n scope e code ++ x ∷ [] ≡ code ++ (expression_code n scope e (length code) ++ x ∷ [])
  unfolding whole
  whole_then e x code = one_more code (expression_code n scope e (length code)) x

  pub arguments_then : (es : Expressions) (x : Instr) (code : List Instr)
      → arguments n scope es code ++ x ∷ [] ≡ code ++ (expressions_code n scope es (length code) ++ x ∷ [])
  unfolding arguments
  arguments_then es x code = one_more code (expressions_code n scope es (length code)) x

  pub chain_whole : (first : Expression) (rest : Links) (code : List Instr)
      → linked n scope rest (whole n scope first code) ≡ code ++ form_code n scope (chain first rest) (length code)
  unfolding linked
  chain_whole first rest code =
      let a = expression_code n scope first (length code) in
      ap (λ k. whole n scope first code ++ links_code n scope rest k) (whole-length first code)
      ∙ ap (λ l. l ++ links_code n scope rest (length code + expression_size first)) (whole-code first code)
      ∙ append_assoc code a (links_code n scope rest (length code + expression_size first))

  pub more_arguments : (e : Expression) (rest : Expressions) (code : List Instr)
      → arguments n scope rest (whole n scope e code)
      ≡ code ++ expressions_code n scope (expression e rest) (length code)
  unfolding arguments
  more_arguments e rest code =
      let a = expression_code n scope e (length code) in
      ap (λ k. whole n scope e code ++ expressions_code n scope rest k) (whole-length e code)
      ∙ ap (λ l. l ++ expressions_code n scope rest (length code + expression_size e)) (whole-code e code)
      ∙ append_assoc code a (expressions_code n scope rest (length code + expression_size e))

  -- ---- `pick`

  pub pick_whole : (test x y : Expression) (code : List Instr)
      → otherwise n scope (length (whole n scope test code)) y
      (whole n scope x (whole n scope test code ++ i.JumpIfFalse 0 ∷ []))
      ≡ code ++ form_code n scope (pick test x y) (length code)
  unfolding whole otherwise
  pick_whole test x y code =
      let at = length code in
      let a = expression_code n scope test at in
      let c1 = code ++ a in
      let c2 = c1 ++ i.JumpIfFalse 0 ∷ [] in
      let e = expression_code n scope x (length c2) in
      let c3 = c2 ++ e in
      let m = i.JumpIfFalse (length c3 + 1) in
      let set = slice_set (c3 ++ i.Jump 0 ∷ []) (length c1) m in
      let f = expression_code n scope y (length set) in
      let all = set ++ f in
      let sa = expression_length n scope test at in
      let se = expression_length n scope x (length c2) in
      let sf = expression_length n scope y (length set) in
      let l1 = length-append code a in
      let l2 = length-append c1 (i.JumpIfFalse 0 ∷ []) in
      let l3 = length-append c2 e in
      let set_is : set ≡ c1 ++ m ∷ (e ++ i.Jump 0 ∷ []) = skipped c1 e (i.Jump 0 ∷ []) (i.JumpIfFalse 0) m in
      let l4 = ap length set_is in
      let l5 = length-append c1 (m ∷ (e ++ i.Jump 0 ∷ [])) in
      let l6 = length-append e (i.Jump 0 ∷ []) in
      let l7 = length-append set f in
      let yes_is : length c2 ≡ pick_yes at test = omega (arith, sa, l1, l2) in
      let no_is : length c3 + 1 ≡ pick_no at test x = omega (arith, sa, se, l1, l2, l3) in
      let set_at : length set ≡ pick_no at test x = omega (arith, sa, se, l1, l2, l3, l4, l5, l6) in
      let end_is : length all ≡ pick_end at test x y = omega (arith, sf, l7, set_at) in
      picked code a e f (i.JumpIfFalse 0) (i.Jump 0) m (i.Jump (length all))
      ∙ ap (λ k. code ++ ((a ++ i.JumpIfFalse k ∷ e) ++ i.Jump (length all) ∷ f)) no_is
      ∙ ap (λ k. code ++ ((a ++ i.JumpIfFalse (pick_no at test x) ∷ e) ++ i.Jump k ∷ f)) end_is
      ∙ ap (λ k.
      code
      ++ ((a ++ i.JumpIfFalse (pick_no at test x) ∷ expression_code n scope x k) ++ i.Jump (pick_end at test x y) ∷ f))
      yes_is
      ∙ ap (λ k.
      code
      ++ ((a ++ i.JumpIfFalse (pick_no at test x) ∷ expression_code n scope x (pick_yes at test))
      ++ i.Jump (pick_end at test x y)
      ∷ expression_code n scope y k))
      set_at

  -- ---- links

  pub no_more_links : (code : List Instr) → code ≡ code ++ links_code n scope no_links (length code)
  no_more_links code = sym (append-nil code)

  -- behind the code of a link come the links behind it
  link_then : (op : BinaryOp) (e : Expression) (rest : Links) (code : List Instr)
      → linked n scope rest
      (code ++ link_code op (expression_size e) (λ place. expression_code n scope e place) (length code))
      ≡ code ++ links_code n scope (link op e rest) (length code)
  unfolding linked
  link_then op e rest code =
      let l = link_code op (expression_size e) (λ place. expression_code n scope e place) (length code) in
      let r = length-append code l in
      let s = link_length op (expression_size e) (λ place. expression_code n scope e place) (length code)
      (λ p. expression_length n scope e p) in
      let at : length (code ++ l) ≡ length code + link_size op (expression_size e) = omega (arith, r, s) in
      ap (λ k. (code ++ l) ++ links_code n scope rest k) at
      ∙ append_assoc code l (links_code n scope rest (length code + link_size op (expression_size e)))

  pub links_worked : (op : BinaryOp) (e : Expression) (rest : Links) (x : Instr) (code : List Instr)
      → way.Works x ≡ way_of op
      → linked n scope rest (whole n scope e code ++ x ∷ []) ≡ code ++ links_code n scope (link op e rest) (length code)
  links_worked op e rest x code h =
      let gen : ℕ → List Instr = λ place. expression_code n scope e place in
      let same :
      by_way (way.Works x) (expression_size e) gen (length code) ≡ link_code op (expression_size e) gen (length code) =
      ap (λ w. by_way w (expression_size e) gen (length code)) h
      ∙ sym (link_by_way op (expression_size e) gen (length code)) in
      ap (λ l. linked n scope rest l) (whole_then e x code ∙ ap (λ l. code ++ l) same)
      ∙ link_then op e rest code

  decided_is : (e : Expression) (by : Bool) (code : List Instr)
      → decided n scope (length code) by (whole n scope e (code ++ deciding by 0 ∷ []))
      ≡ code ++ by_way (way.Decided by) (expression_size e) (λ place. expression_code n scope e place) (length code)
  unfolding whole decided
  decided_is e by code =
      let at = length code in
      let c1 = code ++ deciding by 0 ∷ [] in
      let a = expression_code n scope e (length c1) in
      let c2 = c1 ++ a in
      let m = deciding by (length c2 + 1) in
      let l1 = length-append code (deciding by 0 ∷ []) in
      let l2 = length-append c1 a in
      let sa = expression_length n scope e (length c1) in
      let first : length c1 ≡ at + 1 = l1 in
      let over : length c2 + 1 ≡ at + 1 + expression_size e + 1 = omega (arith, l1, l2, sa) in
      let end : length c2 + 2 ≡ at + expression_size e + 3 = omega (arith, l1, l2, sa) in
      skipped code a (i.Jump (length c2 + 2) ∷ i.PushBool by ∷ []) (deciding by 0) m
      ∙ ap (λ k. code ++ deciding by k ∷ (a ++ i.Jump (length c2 + 2) ∷ i.PushBool by ∷ [])) over
      ∙ ap (λ k. code ++ deciding by (at + 1 + expression_size e + 1) ∷ (a ++ i.Jump k ∷ i.PushBool by ∷ [])) end
      ∙ ap (λ k.
      code ++ deciding by (at + 1 + expression_size e + 1)
      ∷ (expression_code n scope e k ++ i.Jump (at + expression_size e + 3) ∷ i.PushBool by ∷ []))
      first

  pub links_decided : (op : BinaryOp) (e : Expression) (rest : Links) (by : Bool) (code : List Instr)
      → way.Decided by ≡ way_of op
      → linked n scope rest (decided n scope (length code) by (whole n scope e (code ++ deciding by 0 ∷ [])))
      ≡ code ++ links_code n scope (link op e rest) (length code)
  links_decided op e rest by code h =
      let gen : ℕ → List Instr = λ place. expression_code n scope e place in
      let same : by_way (way.Decided by) (expression_size e) gen (length code)
      ≡ link_code op (expression_size e) gen (length code) =
      ap (λ w. by_way w (expression_size e) gen (length code)) h
      ∙ sym (link_by_way op (expression_size e) gen (length code)) in
      ap (λ l. linked n scope rest l) (decided_is e by code ∙ ap (λ l. code ++ l) same)
      ∙ link_then op e rest code

  -- ---- what is written

  pub otherwise_written : (test : ℕ) (y : Expression) (code c1 c2 : List Instr) (end to : ℕ)
      → end ≡ length code → c1 ≡ code ++ i.Jump 0 ∷ [] → to ≡ length c1 → c2 ≡ slice_set c1 test (i.JumpIfFalse to)
      → slice_set (whole n scope y c2) end (i.Jump (length (whole n scope y c2))) ≡ otherwise n scope test y code
  unfolding otherwise
  otherwise_written test y code c1 c2 end to ee e1 et e2 =
      let l = length-append code (i.Jump 0 ∷ []) in
      let k = ap length e1 in
      let t : to ≡ length code + 1 = omega (arith, l, k, et) in
      let c : c2 ≡ slice_set (code ++ i.Jump 0 ∷ []) test (i.JumpIfFalse (length code + 1)) =
      e2 ∙ ap (λ a. slice_set a test (i.JumpIfFalse to)) e1
      ∙ ap (λ m. slice_set (code ++ i.Jump 0 ∷ []) test (i.JumpIfFalse m)) t in
      ap (λ a. slice_set (whole n scope y a) end (i.Jump (length (whole n scope y a)))) c
      ∙ ap (λ m.
      slice_set (whole n scope y (slice_set (code ++ i.Jump 0 ∷ []) test (i.JumpIfFalse (length code + 1)))) m
      (i.Jump (length (whole n scope y (slice_set (code ++ i.Jump 0 ∷ []) test (i.JumpIfFalse (length code + 1)))))))
      ee

  pub decided_written : (test : ℕ) (by : Bool) (code c1 c2 c3 : List Instr) (end to : ℕ) (x : Instr)
      → end ≡ length code → c1 ≡ code ++ i.Jump (end + 2) ∷ [] → to ≡ length c1 → c2 ≡ c1 ++ i.PushBool by ∷ []
      → x ≡ deciding by to → c3 ≡ slice_set c2 test x
      → c3 ≡ decided n scope test by code
  unfolding decided
  decided_written test by code c1 c2 c3 end to x ee e1 et e2 ex e3 =
      let l = length-append code (i.Jump (end + 2) ∷ []) in
      let k = ap length e1 in
      let t : to ≡ length code + 1 = omega (arith, l, k, et) in
      let first : c1 ≡ code ++ i.Jump (length code + 2) ∷ [] = e1 ∙ ap (λ m. code ++ i.Jump (m + 2) ∷ []) ee in
      let both : c2 ≡ code ++ i.Jump (length code + 2) ∷ i.PushBool by ∷ [] =
      e2 ∙ ap (λ a. a ++ i.PushBool by ∷ []) first
      ∙ append_assoc code (i.Jump (length code + 2) ∷ []) (i.PushBool by ∷ []) in
      let jump : x ≡ deciding by (length code + 1) = ex ∙ ap (λ m. deciding by m) t in
      e3 ∙ ap (λ a. slice_set a test x) both
      ∙ ap (λ m. slice_set (code ++ i.Jump (length code + 2) ∷ i.PushBool by ∷ []) test m) jump
