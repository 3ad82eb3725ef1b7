-- Tasks, one behind another: what comes of them, how long the code grows, and how much is left.
use Rattle.std.proofs.Common.{◌≡◌, ◌≤◌, ℕ, ◌+◌, Bool, List, [], ◌∷◌, ◌++◌, length, refl, ap, ◌∙◌, arith, length-append}
use Rattle.std.proofs.lemmas.List.{length-set}
use Rattle.std.specs.Prelude.{slice_set}
use Rattle.rev_syntax.specs.Trees.{Expression, Links}
use Rattle.rev_syntax.specs.View as view
use Rattle.rev_code.specs.declared.code.Instr.{Instr}
use Rattle.rev_code.specs.declared.code.Instr.TheVariants as i
use Rattle.code_generation.specs.Numbers.{Numbers, Scope}
use Rattle.code_generation.specs.Expressions.{expression_size, links_size, links_code}
use Rattle.code_generation.proofs.Lengths.{links_length}
use Rattle.emit_code.specs.declared.task.Task.{Task}
use Rattle.emit_code.specs.declared.task.Task.TheVariants as t
use Rattle.emit_code.specs.declared.task.Steps.{Steps}
use Rattle.emit_code.specs.declared.task.Steps.TheVariants as steps
use Rattle.emit_code.specs.Work.{deciding, whole, linked, otherwise, decided, done, done_all, behind, with_steps, task_size, steps_size, left}
use Rattle.emit_code.proofs.Forms.{whole-length, arguments-length}

module _ (n : Numbers) (scope : Scope) where
  linked-length : (ls : Links) (code : List Instr) → length (linked n scope ls code) ≡ length code + links_size ls
  unfolding linked
  linked-length ls code =
      let r = length-append code (links_code n scope ls (length code)) in
      let s = links_length n scope ls (length code) in
      omega (arith, r, s)

  pub otherwise-length : (test : ℕ) (y : Expression) (code : List Instr)
      → length (otherwise n scope test y code) ≡ length code + 1 + expression_size y
  unfolding otherwise
  otherwise-length test y code =
      let set = slice_set (code ++ i.Jump 0 ∷ []) test (i.JumpIfFalse (length code + 1)) in
      let all = whole n scope y set in
      let a = length-set all (length code) (i.Jump (length all)) in
      let b = whole-length n scope y set in
      let c = length-set (code ++ i.Jump 0 ∷ []) test (i.JumpIfFalse (length code + 1)) in
      let d = length-append code (i.Jump 0 ∷ []) in
      omega (arith, a, b, c, d)

  pub decided-length : (test : ℕ) (by : Bool) (code : List Instr)
      → length (decided n scope test by code) ≡ length code + 2
  unfolding decided
  decided-length test by code =
      let rest = i.Jump (length code + 2) ∷ i.PushBool by ∷ [] in
      let a = length-set (code ++ rest) test (deciding by (length code + 1)) in
      let b = length-append code rest in
      omega (arith, a, b)

  pub decided_then : (test : ℕ) (by : Bool) (ls : Links) (code : List Instr)
      → length (linked n scope ls (decided n scope test by code)) ≡ length code + 2 + links_size ls
  decided_then test by ls code =
      let a = linked-length ls (decided n scope test by code) in
      let b = decided-length test by code in
      omega (arith, a, b)

  grows : (task : Task) (code : List Instr) → length code ≤ length (done n scope task code)
  grows (t.Whole e) code = let a = whole-length n scope (view.expression e.now) code in omega (arith, a)
  grows (t.Arguments es) code = let a = arguments-length n scope (view.expressions es.now) code in omega (arith, a)
  grows (t.Links ls) code = let a = linked-length (view.links ls.now) code in omega (arith, a)
  grows (t.Put x) code = let a = length-append code (x ∷ []) in omega (arith, a)
  grows (t.Operate by rest) code =
      let a = linked-length (view.links rest.now) (code ++ by ∷ []) in
      let b = length-append code (by ∷ []) in
      omega (arith, a, b)
  grows (t.Choose x y) code =
      let begun = code ++ i.JumpIfFalse 0 ∷ [] in
      let a = otherwise-length (length code) (view.expression y.now) (whole n scope (view.expression x.now) begun) in
      let b = whole-length n scope (view.expression x.now) begun in
      let c = length-append code (i.JumpIfFalse 0 ∷ []) in
      omega (arith, a, b, c)
  grows (t.Otherwise test y) code = let a = otherwise-length test (view.expression y.now) code in omega (arith, a)
  grows (t.Decided test by rest) code = let a = decided_then test by (view.links rest.now) code in omega (arith, a)
  grows (t.Land at) code = let a = length-set code at (i.Jump (length code)) in omega (arith, a)

  -- ---- tasks behind one another

  behind-append : (ts us : List Task) (code : List Instr)
      → behind n scope (ts ++ us) code ≡ behind n scope ts (behind n scope us code)
  unfolding behind
  behind-append [] us code = refl
  behind-append (x ∷ ts) us code = ap (λ c. done n scope x c) (behind-append ts us code)

  pub behind-none : (code : List Instr) → behind n scope [] code ≡ code
  unfolding behind
  behind-none code = refl

  pub behind-only : (x : Task) (code : List Instr) → behind n scope (x ∷ []) code ≡ done n scope x code
  unfolding behind
  behind-only x code = refl

  pub behind-last : (ts : List Task) (x : Task) (code : List Instr)
      → behind n scope (ts ++ x ∷ []) code ≡ behind n scope ts (done n scope x code)
  behind-last ts x code = behind-append ts (x ∷ []) code ∙ ap (λ c. behind n scope ts c) (behind-only x code)

  pub behind-steps : (ts : List Task) (s : Steps) (code : List Instr)
      → behind n scope (with_steps ts s) code ≡ behind n scope ts (done_all n scope s code)
  behind-steps ts steps.Nothing code = refl
  behind-steps ts (steps.One x) code = behind-last ts x code
  behind-steps ts (steps.Two x y) code = behind-last (ts ++ y ∷ []) x code ∙ behind-last ts y (done n scope x code)

  pub behind-grows : (ts : List Task) (code : List Instr) → length code ≤ length (behind n scope ts code)
  unfolding behind
  behind-grows [] code = let z : length code ≤ length code = omega arith in z
  behind-grows (x ∷ ts) code =
      let a = behind-grows ts code in let b = grows x (behind n scope ts code) in omega (arith, a, b)

left-append : (ts us : List Task) → left (ts ++ us) ≡ left ts + left us
unfolding left
left-append [] us = let z : left us ≡ 0 + left us = omega arith in z
left-append (x ∷ ts) us = let a = left-append ts us in omega (arith, a)

pub left-last : (ts : List Task) (x : Task) → left (ts ++ x ∷ []) ≡ left ts + task_size x
unfolding left
left-last ts x = let a = left-append ts (x ∷ []) in omega (arith, a)

pub left-steps : (ts : List Task) (s : Steps) → left (with_steps ts s) ≡ left ts + steps_size s
left-steps ts steps.Nothing = omega arith
left-steps ts (steps.One x) = left-last ts x
left-steps ts (steps.Two x y) = let a = left-last (ts ++ y ∷ []) x in let b = left-last ts y in omega (arith, a, b)
