-- What a fun costs, by the weight of its body.
use Rattle.std.proofs.Common.{◌≡◌, ◌≤◌, ◌<◌, ℕ, suc, ◌+◌, ◌*◌, max, true, false, List, [], ◌∷◌, ◌++◌, length, Option, Some, None, refl, ap, arith}
use Rattle.rev_syntax.specs.Trees.{Parameter, Expression, placed, ExpressionForm, Expressions, Links, int, bool, no_rev, var, cell, apply, input, inputs, pick, unary, chain, no_expressions, expression, no_links, link}
use Rattle.rev_syntax.specs.declared.tree.UnaryOp.{UnaryOp}
use Rattle.rev_syntax.specs.declared.tree.UnaryOp.TheVariants as u
use Rattle.rev_syntax.specs.declared.tree.BinaryOp.{BinaryOp}
use Rattle.rev_syntax.specs.declared.tree.BinaryOp.TheVariants as b
use Rattle.name_tables.specs.Names.{Name}
use Rattle.name_tables.specs.Table.{Table, find}
use Rattle.typed_programs.specs.Weights.{known_weight, expression_weight, expression_form_weight, expressions_weight, links_weight}
use Rattle.rev_num.specs.declared.value.ValueKind.{ValueKind}
use Rattle.typed_programs.specs.Kinds.{Callee, Names, Locals, given_kind}
use Rattle.rev_code.specs.declared.code.Instr.{Instr}
use Rattle.rev_code.specs.declared.code.Instr.TheVariants as i
use Rattle.code_rules.specs.declared.Cost.{Cost}
use Rattle.code_rules.specs.Pass.{cost_at, applied}
use Rattle.code_ways.specs.Breaks.{need_of_applied, total_count}
use Rattle.code_generation.specs.Numbers.{Numbers, Scope}
use Rattle.code_generation.specs.Expressions.{expression_size, link_size, load, unary_code, link_code, pick_yes, pick_no, pick_end, expression_code, form_code, expressions_code, links_code}
use Rattle.expression_meaning.proofs.Typed.{Typed, FormTyped, ArgsTyped, LinksTyped}
use Rattle.generated_certificates.specs.Expressions.{expression_depth, form_depth, expressions_depth, links_depth}

-- ---- the own parts of an expression

abbrev own : Expression → ℕ
own e = expression_weight [] e

own_some : (e : Expression) → 1 ≤ expression_weight [] e
own_some (placed p (int z)) = omega arith
own_some (placed p (bool z)) = omega arith
own_some (placed p no_rev) = omega arith
own_some (placed p (var w)) = omega arith
own_some (placed p (cell w index)) = omega arith
own_some (placed p (apply w args)) = omega arith
own_some (placed p (input q index)) = omega arith
own_some (placed p (inputs q)) = omega arith
own_some (placed p (pick test x y)) = omega arith
own_some (placed p (unary op e)) = omega arith
own_some (placed p (chain first rest)) = let h = own_some first in omega (arith, h)

module _ (c : Names) (l : Locals) (Can : Name → Callee → Type 0)
    (few : (name : Name) (f : Callee) → Can name f → length f.params ≤ 8) where
  mutual
    -- the depth is at most seven eighths of the parts, and one more
    pub depth_within : (e : Expression) (t : ValueKind) → Typed c l Can e t
        → 8 * expression_depth e ≤ 7 * expression_weight [] e + 8
    depth_within (placed p form) t h = form_within form t h

    form_within : (form : ExpressionForm) (t : ValueKind) → FormTyped c l Can form t
        → 8 * form_depth form ≤ 7 * expression_form_weight [] form + 8
    form_within (int z) t h = omega arith
    form_within (bool z) t h = omega arith
    form_within no_rev t h = omega arith
    form_within (var w) t h = omega arith
    form_within (inputs p) t h = omega arith
    form_within (cell w index) t h = let r = depth_within index _ h.1 in omega (arith, r)
    form_within (apply w args) t h =
        let less = few w.text h.0 h.3 in
        let r = args_within h.0.params args 0 h.4 (omega (arith, less)) in
        omega (arith, r)
    form_within (input p index) t h = let r = depth_within index _ h.2 in omega (arith, r)
    form_within (pick test x y) t h =
        let r = depth_within test _ h.0 in
        let s = depth_within x _ h.1 in
        let q = depth_within y _ h.2 in
        omega (arith, r, s, q)
    form_within (unary op e) t h = let r = depth_within e _ h.1 in omega (arith, r)
    form_within (chain first rest) t h =
        let r = depth_within first _ h.1 in
        let s = links_within rest h.0 t h.2 in
        let o = own_some first in
        omega (arith, r, s, o)

    -- behind as many arguments, each of which has a part
    args_within : (ps : List Parameter) (args : Expressions) (before : ℕ) → ArgsTyped c l Can ps args
        → before + length ps ≤ 8
        → 8 * (before + expressions_depth args) ≤ 7 * (1 + before + expressions_weight [] args) + 8
    args_within [] no_expressions before h few' = omega (arith, few')
    args_within [] (expression e rest) before h few' = absurd h
    args_within (p ∷ ps) no_expressions before h few' = absurd h
    args_within (p ∷ ps) (expression e rest) before h few' =
        let r = depth_within e _ h.0 in
        let s = args_within ps rest (suc before) h.1 (omega (arith, few')) in
        let o = own_some e in
        omega (arith, r, s, o, few')

    -- above a left operand, which has a part
    links_within : (rest : Links) (left t : ValueKind) → LinksTyped c l Can left rest t
        → 8 * links_depth rest ≤ 7 * (1 + links_weight [] rest) + 8
    links_within no_links left t h = omega arith
    links_within (link op e rest) left t h =
        let r = depth_within e _ h.1 in let s = links_within rest (given_kind op) t h.4 in omega (arith, r, s)

-- ---- what is applied

module _ (costs : List Cost) where
  pub count_both : (xs ys : List Instr) → total_count costs (xs ++ ys) ≡ total_count costs xs + total_count costs ys
  count_both [] ys = omega arith
  count_both (x ∷ xs) ys = let r = count_both xs ys in omega (arith, r)

  pub need_both : (xs ys : List Instr)
      → need_of_applied costs (xs ++ ys) ≡ max (need_of_applied costs xs) (need_of_applied costs ys)
  need_both [] ys = omega arith
  need_both (x ∷ xs) ys = let r = need_both xs ys in omega (arith, r)

-- a fun costs what its weight says, where this many blocks stand before
pub record IsPaid (ws : Table ℕ) (costs : List Cost) (at : ℕ) (n : Numbers) (name : Name) (f : Callee) : Type 0 where
  pub weight : ℕ
  pub found : find name ws ≡ Some weight
  pub earlier : n.fun name < at
  pub count : (cost_at costs (n.fun name)).count ≤ 4 * weight
  pub need : 8 * (cost_at costs (n.fun name)).need ≤ 7 * weight + 72 * at

module _ (ws : Table ℕ) (costs : List Cost) (at_block : ℕ) (n : Numbers) (scope : Scope) (c : Names) (l : Locals) where
  abbrev Can : Name → Callee → Type 0
  Can name f = IsPaid ws costs at_block n name f

  -- an instruction that applies nothing
  Free : Instr → Type 0
  Free x = (applied costs x).count + (applied costs x).need ≡ 0

  load_free : (w : _) (o : Option ℕ) → Free (load n w o)
  unfolding Free
  load_free w (Some j) = refl
  load_free w None = refl

  unary_free : (op : UnaryOp) → Free (unary_code op)
  unfolding Free
  unary_free u.Neg = refl
  unary_free u.Not = refl

  -- Each instruction and each applied fun has its weight: four for each part. The need of an applied fun is paid by
  -- what its weight adds to the own parts.
  pub record Bounds (xs : List Instr) (own weight spare : ℕ) : Type 0 where
    pub count : total_count costs xs + spare ≤ 4 * weight
    pub need : 7 * own + 8 * need_of_applied costs xs ≤ 7 * weight + 72 * at_block
    pub light : own ≤ weight

  one_more : (xs : List Instr) (x : Instr) (o w : ℕ) → Free x → Bounds xs o w 1
      → Bounds (xs ++ x ∷ []) (1 + o) (1 + w) 1
  unfolding Free
  one_more xs x o w f r =
      let a = count_both costs xs (x ∷ []) in
      let e = need_both costs xs (x ∷ []) in
      let r1 = r.count in
      let r2 = r.need in
      let r3 = r.light in
      record { count = omega (arith, a, f, r1); need = omega (arith, e, f, r2, r3); light = omega (arith, r3) }

  -- what a link has beside its operand
  by_operand : (xs ys : List Instr) (o w : ℕ) → total_count costs ys ≤ total_count costs xs + 3
      → need_of_applied costs ys ≡ need_of_applied costs xs → Bounds xs o w 1
      → (total_count costs ys ≤ 4 * w + 2) × (7 * o + 8 * need_of_applied costs ys ≤ 7 * w + 72 * at_block)
  by_operand xs ys o w p q r =
      let r1 = r.count in
      let r2 = r.need in
      (omega (arith, p, r1), omega (arith, q, r2))

  short : (first : Instr) (xs : List Instr) (y z : Instr) (o w : ℕ) → Free first → Free y → Free z → Bounds xs o w 1
      → (total_count costs (first ∷ xs ++ y ∷ z ∷ []) ≤ 4 * w + 2)
      × (7 * o + 8 * need_of_applied costs (first ∷ xs ++ y ∷ z ∷ []) ≤ 7 * w + 72 * at_block)
  unfolding Free
  short first xs y z o w f g h r =
      let a = count_both costs xs (y ∷ z ∷ []) in
      let e = need_both costs xs (y ∷ z ∷ []) in
      by_operand xs (first ∷ xs ++ y ∷ z ∷ []) o w (omega (arith, a, f, g, h)) (omega (arith, e, f, g, h)) r

  long : (x : Instr) (xs : List Instr) (o w : ℕ) → Free x → Bounds xs o w 1
      → (total_count costs (xs ++ x ∷ []) ≤ 4 * w + 2)
      × (7 * o + 8 * need_of_applied costs (xs ++ x ∷ []) ≤ 7 * w + 72 * at_block)
  unfolding Free
  long x xs o w f r =
      let a = count_both costs xs (x ∷ []) in
      let e = need_both costs xs (x ∷ []) in
      by_operand xs (xs ++ x ∷ []) o w (omega (arith, a, f)) (omega (arith, e, f)) r

  links_one : (op : BinaryOp) (size at o w : ℕ) (xs : ℕ → List Instr) → ((p : ℕ) → Bounds (xs p) o w 1)
      → (total_count costs (link_code op size xs at) ≤ 4 * w + 2)
      × (7 * o + 8 * need_of_applied costs (link_code op size xs at) ≤ 7 * w + 72 * at_block)
  unfolding Free
  links_one b.And size at o w xs h =
      short (i.JumpIfFalse (at + 1 + size + 1)) (xs (at + 1)) (i.Jump (at + size + 3)) (i.PushBool false) o w refl refl
      refl (h (at + 1))
  links_one b.Or size at o w xs h =
      short (i.JumpIfTrue (at + 1 + size + 1)) (xs (at + 1)) (i.Jump (at + size + 3)) (i.PushBool true) o w refl refl
      refl (h (at + 1))
  links_one b.Add size at o w xs h = long i.Add (xs at) o w refl (h at)
  links_one b.Sub size at o w xs h = long i.Sub (xs at) o w refl (h at)
  links_one b.Mul size at o w xs h = long i.Mul (xs at) o w refl (h at)
  links_one b.Div size at o w xs h = long i.Div (xs at) o w refl (h at)
  links_one b.Rem size at o w xs h = long i.Rem (xs at) o w refl (h at)
  links_one b.Eq size at o w xs h = long i.Eq (xs at) o w refl (h at)
  links_one b.Ne size at o w xs h = long i.Ne (xs at) o w refl (h at)
  links_one b.Lt size at o w xs h = long i.Lt (xs at) o w refl (h at)
  links_one b.Le size at o w xs h = long i.Le (xs at) o w refl (h at)
  links_one b.Gt size at o w xs h = long i.Gt (xs at) o w refl (h at)
  links_one b.Ge size at o w xs h = long i.Ge (xs at) o w refl (h at)

  mutual
    unfolding Free

    pub costs_within : (e : Expression) (t : ValueKind) (at : ℕ) → Typed c l Can e t
        → Bounds (expression_code n scope e at) (expression_weight [] e) (expression_weight ws e) 1
    costs_within (placed p form) t at h = form_costs form t at h

    form_costs : (form : ExpressionForm) (t : ValueKind) (at : ℕ) → FormTyped c l Can form t
        → Bounds (form_code n scope form at) (expression_form_weight [] form) (expression_form_weight ws form) 1
    form_costs (int z) t at h = record { count = omega arith; need = omega arith; light = omega arith }
    form_costs (bool z) t at h = record { count = omega arith; need = omega arith; light = omega arith }
    form_costs no_rev t at h = record { count = omega arith; need = omega arith; light = omega arith }
    form_costs (var w) t at h =
        let f = load_free w (find w.text scope) in
        record { count = omega (arith, f); need = omega (arith, f); light = omega arith }
    form_costs (inputs p) t at h = record { count = omega arith; need = omega arith; light = omega arith }
    form_costs (cell w index) t at h =
        one_more (expression_code n scope index at) (i.LoadCell (n.var w.text)) (expression_weight [] index)
        (expression_weight ws index) refl (costs_within index _ at h.1)
    form_costs (apply w args) t at h =
        let r = args_costs h.0.params args at h.4 in
        let f : IsPaid ws costs at_block n w.text h.0 = h.3 in
        let a = count_both costs (expressions_code n scope args at) (i.Apply (n.fun w.text) ∷ []) in
        let e = need_both costs (expressions_code n scope args at) (i.Apply (n.fun w.text) ∷ []) in
        let k : known_weight (find w.text ws) ≡ f.weight = ap known_weight f.found in
        let r1 = r.count in
        let r2 = r.need in
        let r3 = r.light in
        let f1 = f.count in
        let f2 = f.need in
        record {
          count = omega (arith, a, k, r1, f1);
          need = omega (arith, e, k, r2, r3, f2);
          light = omega (arith, k, r3);
        }
    form_costs (input p index) t at h =
        one_more (expression_code n scope index at) i.LoadInput (expression_weight [] index)
        (expression_weight ws index) refl (costs_within index _ at h.2)
    form_costs (pick test x y) t at h =
        let cx : List Instr = expression_code n scope x (pick_yes at test) in
        let cy : List Instr = expression_code n scope y (pick_no at test x) in
        let ct : List Instr = expression_code n scope test at in
        let r = costs_within test _ at h.0 in
        let s = costs_within x _ (pick_yes at test) h.1 in
        let q = costs_within y _ (pick_no at test x) h.2 in
        let a1 = count_both costs ct (i.JumpIfFalse (pick_no at test x) ∷ cx) in
        let a2 = count_both costs (ct ++ i.JumpIfFalse (pick_no at test x) ∷ cx) (i.Jump (pick_end at test x y) ∷ cy) in
        let e1 = need_both costs ct (i.JumpIfFalse (pick_no at test x) ∷ cx) in
        let e2 = need_both costs (ct ++ i.JumpIfFalse (pick_no at test x) ∷ cx) (i.Jump (pick_end at test x y) ∷ cy) in
        let r1 = r.count in
        let r2 = r.need in
        let r3 = r.light in
        let s1 = s.count in
        let s2 = s.need in
        let s3 = s.light in
        let q1 = q.count in
        let q2 = q.need in
        let q3 = q.light in
        record {
          count = omega (arith, a1, a2, r1, s1, q1);
          need = omega (arith, e1, e2, r2, s2, q2, r3, s3, q3);
          light = omega (arith, r3, s3, q3);
        }
    form_costs (unary op e) t at h =
        one_more (expression_code n scope e at) (unary_code op) (expression_weight [] e) (expression_weight ws e)
        (unary_free op) (costs_within e _ at h.1)
    form_costs (chain first rest) t at h =
        let cf : List Instr = expression_code n scope first at in
        let cr : List Instr = links_code n scope rest (at + expression_size first) in
        let r = costs_within first _ at h.1 in
        let s = links_costs rest h.0 t (at + expression_size first) h.2 in
        let a = count_both costs cf cr in
        let e = need_both costs cf cr in
        let r1 = r.count in
        let r2 = r.need in
        let r3 = r.light in
        let s1 = s.count in
        let s2 = s.need in
        let s3 = s.light in
        record {
          count = omega (arith, a, r1, s1);
          need = omega (arith, e, r2, s2, r3, s3);
          light = omega (arith, r3, s3);
        }

    args_costs : (ps : List Parameter) (args : Expressions) (at : ℕ) → ArgsTyped c l Can ps args
        → Bounds (expressions_code n scope args at) (expressions_weight [] args) (expressions_weight ws args) 0
    args_costs [] no_expressions at h = record { count = omega arith; need = omega arith; light = omega arith }
    args_costs [] (expression e rest) at h = absurd h
    args_costs (p ∷ ps) no_expressions at h = absurd h
    args_costs (p ∷ ps) (expression x rest) at h =
        let cf : List Instr = expression_code n scope x at in
        let cr : List Instr = expressions_code n scope rest (at + expression_size x) in
        let r = costs_within x _ at h.0 in
        let s = args_costs ps rest (at + expression_size x) h.1 in
        let a = count_both costs cf cr in
        let e = need_both costs cf cr in
        let r1 = r.count in
        let r2 = r.need in
        let r3 = r.light in
        let s1 = s.count in
        let s2 = s.need in
        let s3 = s.light in
        record {
          count = omega (arith, a, r1, s1);
          need = omega (arith, e, r2, s2, r3, s3);
          light = omega (arith, r3, s3);
        }

    links_costs : (rest : Links) (left t : ValueKind) (at : ℕ) → LinksTyped c l Can left rest t
        → Bounds (links_code n scope rest at) (links_weight [] rest) (links_weight ws rest) 0
    links_costs no_links left t at h = record { count = omega arith; need = omega arith; light = omega arith }
    links_costs (link op x rest) left t at h =
        let size : ℕ = expression_size x in
        let xs : ℕ → List Instr = λ p. expression_code n scope x p in
        let o : ℕ = expression_weight [] x in
        let w : ℕ = expression_weight ws x in
        let one = links_one op size at o w xs (λ p. costs_within x _ p h.1) in
        let s = links_costs rest (given_kind op) t (at + link_size op size) h.4 in
        let a = count_both costs (link_code op size xs at) (links_code n scope rest (at + link_size op size)) in
        let e = need_both costs (link_code op size xs at) (links_code n scope rest (at + link_size op size)) in
        let r1 = one.0 in
        let r2 = one.1 in
        let r3 = (costs_within x _ at h.1).light in
        let s1 = s.count in
        let s2 = s.need in
        let s3 = s.light in
        record {
          count = omega (arith, a, r1, s1);
          need = omega (arith, e, r2, s2, r3, s3);
          light = omega (arith, r3, s3);
        }
