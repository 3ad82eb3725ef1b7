-- Answers of statements: the code, the size and the jumps to the end grow by each statement's or arm's own.
use Rattle.std.proofs.Common.{rules, ◌≡◌, ◌∙◌, ◌<◌, ◌+◌, ◌-◌, ◌^◌, ◌++◌, ◌∷◌, ◌||◌, nat_lt, drop, length, ap, sym, subst, arith}
use Rattle.std.proofs.lemmas.Grind.{common_steps}
use denote.Param.Weighed.{at_most}
use Rattle.rev_syntax.proofs.tree.Arm.TheLaws.{the_size}
use Rattle.std.proofs.lemmas.List.{drop_more, length-drop}
use Rattle.std.proofs.lemmas.Result.{on_ok_weaker}
use Rattle.rev_syntax.specs.Trees as tree
use Rattle.rev_syntax.specs.View.{arm as pair, arms, block, expression, statement_form}
use Rattle.rev_syntax.specs.declared.tree.Arm.{out-Arm}
use Rattle.typed_programs.specs.Limits.{statements_lets, arms_lets}
use Rattle.code_generation.specs.Expressions.{expression_size, expression_code}
use Rattle.code_generation.specs.Sizes.{statements_size, statements_prints, arms_size, arms_prints}
use Rattle.code_generation.specs.Statements.{statement_form_code, statements_code, arms_code}
use Rattle.emit_code.specs.Naming.{numbers_of}
use Rattle.emit_code.specs.Bodies.{arm_code, arm_size, landed, leaps_at, more_behind, place_or, spot_of}
use Rattle.emit_code.proofs.Arms.{more_is, arm_fits, rest_long, leaps_behind, arm_behind, if_written, if_else_written}
use Rattle.emit_code.proofs.BlockForms.{if_else_is, pair_is, statement_long}
use Rattle.emit_code.proofs.Loops.{tested_long, loop_written, arm_written, arm_long}
use Rattle.emit_code.proofs.blocks.+statements.Goals as goal

pub emit_statement-returns-clause-long : goal.emit_statement-returns-clause-long
emit_statement-returns-clause-long t c =
    on_ok_weaker c.emit_form.result
    (statement_long (numbers_of c.args.numbers.now) c.args.body.now.scope c.args.s.now c.here-head.result
    c.args.body.now.local c.args.body.now.layout c.args.body.now.code.items c.put.new.code.items
    c.emit_form.new.body.code.items
    c.in_ok-put.ensures c.here-head.ensures)
    c.emit_form.ensures.code

-- ---- a loop

pub emit_loop-emit_block-requires : goal.emit_loop-emit_block-requires
emit_loop-emit_block-requires t c =
    let n = numbers_of c.args.numbers.now in let s = c.args.body.now.scope in
    let test = expression c.args.test.now in
    let long =
    tested_long n s test 0 0 c.args.body.now.code.items c.emit_expression.new.code.items c.put.new.code.items
    c.in_ok-emit_expression.ensures.long c.in_ok-put.ensures in
    let room : length c.args.body.now.code.items
    + (expression_size test + 1 + statements_size n (block c.args.inner.now) + 1)
    < 2 ^ 32 = c.requires.0 in
    (grind (arith, common_steps), (omega (arith, long, room), c.requires.1, c.requires.2))

pub emit_loop-returns-clause-code : goal.emit_loop-returns-clause-code
emit_loop-returns-clause-code t c =
    let n = numbers_of c.args.numbers.now in let s = c.args.body.now.scope in
    let test = expression c.args.test.now in let c0 = c.args.body.now.code.items in
    let c1 = c.emit_expression.new.code.items in
    let e1 : c1 ≡ c0 ++ expression_code n s test (length c0) = search rules in
    let at : c.len-at.result ≡ length c1 = search rules in
    on_ok_weaker c.close.result
    (loop_written n s test c.args.body.now.local c.args.body.now.layout (block c.args.inner.now) c.args.head
    c.len-at.result c0 c1 c.put.new.code.items c.emit_block.new.body.code.items c.close.new.code.items
    e1 c.in_ok-emit_expression.ensures.long at c.in_ok-put.ensures c.in_ok-emit_block.ensures.code)
    c.close.ensures

-- ---- an arm

pub emit_arm-returns-clause-code : goal.emit_arm-returns-clause-code
emit_arm-returns-clause-code t c =
    let n = numbers_of c.args.numbers.now in let s = c.args.body.now.scope in
    let test = expression (out-Arm c.args.a.now).test in
    let body = block (out-Arm c.args.a.now).body in
    let c0 = c.args.body.now.code.items in
    let c1 = c.emit_expression.new.code.items in
    let h = c.in_ok-emit_expression.ensures.code in
    let e1 : c1 ≡ c0 ++ expression_code n s test (length c0) = search (rules, h) in
    let at : c.len-test.result ≡ length c1 = search rules in
    subst (λ q. c.patch.new.code.items ≡ c0 ++ arm_code n s c.args.more q.0 q.1 (spot_of c.args.body.now))
    (sym (pair_is c.args.a.now))
    (arm_written n s test c.args.body.now.local c.args.body.now.layout body c.args.more c.len-test.result
    c.here-next.result c0 c1 c.put.new.code.items c.emit_block.new.body.code.items c.emit_leap.new.code.items
    c.patch.new.code.items
    e1 c.in_ok-emit_expression.ensures.long at c.in_ok-put.ensures c.in_ok-emit_block.ensures.code
    c.in_ok-emit_leap.ensures.code c.here-next.ensures c.patch.ensures)

pub emit_arm-returns-clause-long : goal.emit_arm-returns-clause-long
emit_arm-returns-clause-long t c =
    arm_long (numbers_of c.args.numbers.now) c.args.body.now.scope (pair c.args.a.now).0 0 0 (pair c.args.a.now).1
    c.args.more (spot_of c.args.body.now) c.args.body.now.code.items c.patch.new.code.items
    (emit_arm-returns-clause-code t c)

pub emit_arm-returns-clause-ends : goal.emit_arm-returns-clause-ends
emit_arm-returns-clause-ends t c =
    let n = numbers_of c.args.numbers.now in let s = c.args.body.now.scope in
    let test = expression (out-Arm c.args.a.now).test in
    let body = block (out-Arm c.args.a.now).body in
    let c0 = c.args.body.now.code.items in
    let c1 = c.emit_expression.new.code.items in
    let c2 = c.put.new.code.items in
    let c3 = c.emit_block.new.body.code.items in
    let l2 = tested_long n s test 0 0 c0 c1 c2 c.in_ok-emit_expression.ensures.long c.in_ok-put.ensures in
    let l3 : length c3 ≡ length c2 + statements_size n body = c.in_ok-emit_block.ensures.long in
    let place : length c3 ≡ length c0 + (expression_size test + 1) + statements_size n body = omega (arith, l2, l3) in
    subst (λ q.
    c.emit_leap.new.ends.items
    ≡ c.args.ends.now.items ++ place_or c.args.more (length c0 + (expression_size q.0 + 1) + statements_size n q.1))
    (sym (pair_is c.args.a.now))
    (c.in_ok-emit_leap.ensures.ends ∙ ap (λ k. c.args.ends.now.items ++ place_or c.args.more k) place)

-- ---- arms

pub emit_arms-emit_arm-requires : goal.emit_arms-emit_arm-requires
emit_arms-emit_arm-requires t c =
    let n = numbers_of c.args.numbers.now in let last = c.args.has_last in
    let at = c.loop-a.a-index in let x = c.a-item.result in let rest = drop (at + 1) c.args.all.now in
    let test = (pair x).0 in let body = (pair x).1 in
    let here : drop at c.args.all.now ≡ x ∷ rest =
    drop_more c.args.all.now at x (omega arith) ∙ ap (λ y. y ∷ rest) (sym c.a-item.is) in
    let few = length-drop (at + 1) c.args.all.now in
    let inv = c.loop-a.invariant in
    let count = inv.left in
    let behind : length rest ≡ c.loop-a.left - 1 = omega (arith, few, count) in
    let more : more_behind last (arms rest) ≡ c.is_more-more.result =
    more_is last rest ∙ ap (λ k. last || nat_lt 0 k) behind ∙ sym c.is_more-more.ensures in
    let long : length c.loop-a.body.code.items + arms_size n last (tree.arm test body (arms rest))
    ≡ length c.args.body.now.code.items + arms_size n last (arms c.args.all.now) =
    ap (λ l. length c.loop-a.body.code.items + arms_size n last (arms l)) (sym here) ∙ inv.long in
    let locals : c.loop-a.body.local + (statements_lets body + arms_lets (arms rest))
    ≡ c.args.body.now.local + arms_lets (arms c.args.all.now) =
    ap (λ l. c.loop-a.body.local + arms_lets (arms l)) (sym here) ∙ inv.local in
    let layouts : c.loop-a.body.layout + (statements_prints body + arms_prints (arms rest))
    ≡ c.args.body.now.layout + arms_prints (arms c.args.all.now) =
    ap (λ l. c.loop-a.body.layout + arms_prints (arms l)) (sym here) ∙ inv.layout in
    let r0 = c.requires.0 in let r1 = c.requires.1 in let r2 = c.requires.2 in
    let room =
    arm_fits n last test body (arms rest) (length c.loop-a.body.code.items)
    (length c.args.body.now.code.items + arms_size n last (arms c.args.all.now)) long r0 in
    let d = c.decreases in
    let deep = at_most (λ y. the_size y) c.args.all.now at x c.loop-a-test.true in
    let is = ap (λ y. the_size y) c.a-item.is in (
      omega (arith, d, deep, is),
      (
        subst (λ m. length c.loop-a.body.code.items + arm_size n m test body < 2 ^ 32) more room,
        omega (arith, locals, r1),
        omega (arith, layouts, r2),
      ),
    )

pub emit_arms-loop-a-preserved : goal.emit_arms-loop-a-preserved
emit_arms-loop-a-preserved t c =
    let n = numbers_of c.args.numbers.now in let last = c.args.has_last in
    let at = c.loop-a.a-index in let x = c.a-item.result in let rest = drop (at + 1) c.args.all.now in
    let test = (pair x).0 in let body = (pair x).1 in
    let here : drop at c.args.all.now ≡ x ∷ rest =
    drop_more c.args.all.now at x (omega arith) ∙ ap (λ y. y ∷ rest) (sym c.a-item.is) in
    let few = length-drop (at + 1) c.args.all.now in
    let inv = c.loop-a.invariant in
    let count = inv.left in
    let behind : length rest ≡ c.loop-a.left - 1 = omega (arith, few, count) in
    let more : c.is_more-more.result ≡ more_behind last (arms rest) =
    c.is_more-more.ensures ∙ ap (λ k. last || nat_lt 0 k) (sym behind) ∙ sym (more_is last rest) in
    let b0 = c.loop-a.body in let b1 = c.emit_arm.new.body in let e = c.in_ok-emit_arm.ensures in
    let s = b0.scope in
    let long : length b1.code.items ≡ length b0.code.items + arm_size n (more_behind last (arms rest)) test body =
    e.long ∙ ap (λ m. length b0.code.items + arm_size n m test body) more in
    let code : b1.code.items ≡ b0.code.items ++ arm_code n s (more_behind last (arms rest)) test body (spot_of b0) =
    e.code ∙ ap (λ m. b0.code.items ++ arm_code n s m test body (spot_of b0)) more in
    let ends : c.emit_arm.new.ends.items
    ≡ c.loop-a.ends.items
    ++ place_or (more_behind last (arms rest))
    (length b0.code.items + (expression_size test + 1) + statements_size n body) =
    e.ends
    ∙ ap (λ m.
    c.loop-a.ends.items ++ place_or m (length b0.code.items + (expression_size test + 1) + statements_size n body))
    more in
    let lets :
    b0.local + arms_lets (arms (drop at c.args.all.now)) ≡ b0.local + (statements_lets body + arms_lets (arms rest)) =
    ap (λ l. b0.local + arms_lets (arms l)) here in
    let prints : b0.layout + arms_prints (arms (drop at c.args.all.now))
    ≡ b0.layout + (statements_prints body + arms_prints (arms rest)) =
    ap (λ l. b0.layout + arms_prints (arms l)) here in
    let el = e.local in let ey = e.layout in let il = inv.local in let iy = inv.layout in
    record {
      left = omega (arith, count);
      scope = e.scope ∙ inv.scope;
      code =
          ap (λ z. b1.code.items ++ arms_code n z last (arms rest) 0 (spot_of b1)) e.scope
          ∙ arm_behind n s last test body (arms rest) b0.code.items b1.code.items b0.local b1.local b0.layout b1.layout
          long e.local e.layout code
          ∙ ap (λ l. b0.code.items ++ arms_code n s last (arms l) 0 (spot_of b0)) (sym here)
          ∙ inv.code;
      long =
          rest_long n last test body (arms rest) b0.code.items b1.code.items long
          ∙ ap (λ l. length b0.code.items + arms_size n last (arms l)) (sym here)
          ∙ inv.long;
      ends =
          leaps_behind n last test body (arms rest) b0.code.items b1.code.items c.loop-a.ends.items
          c.emit_arm.new.ends.items long ends
          ∙ ap (λ l. c.loop-a.ends.items ++ leaps_at n last (arms l) (length b0.code.items)) (sym here)
          ∙ inv.ends;
      local = omega (arith, lets, el, il);
      layout = omega (arith, prints, ey, iy);
    }

-- ---- an `if`

pub emit_if-returns-clause-code : goal.emit_if-returns-clause-code
emit_if-returns-clause-code t c =
    let n = numbers_of c.args.numbers.now in let s = c.args.body.now.scope in let all = arms c.args.all.now in
    let c0 = c.args.body.now.code.items in let c1 = c.emit_arms.new.body.code.items in
    let e2 : c.land.new.code.items ≡ landed c.in_ok-ends.ends.items (length c1) c1 = search rules in
    if_written n s all c0 c1 c.land.new.code.items c.in_ok-ends.ends.items c.args.body.now.local c.args.body.now.layout
    c.in_ok-ends.ensures.code c.in_ok-ends.ensures.long c.in_ok-ends.ensures.ends e2

pub emit_form-returns-in_ok-emit_block-in-Some-clause-code : goal.emit_form-returns-in_ok-emit_block-in-Some-clause-code
emit_form-returns-in_ok-emit_block-in-Some-clause-code t c =
    let n = numbers_of c.args.numbers.now in let s = c.args.body.now.scope in
    let all = arms c.deref-in-Some.result.now in let last = block c.in-Some.last in
    let c0 = c.args.body.now.code.items in let b1 = c.emit_arms.new.body in let c2 = c.emit_block.new.body.code.items in
    let a = c.in_ok-ends-in-Some.ensures in let b = c.in_ok-emit_block-in-Some.ensures in
    let ends = c.in_ok-ends-in-Some.ends.items in
    let code : c2 ≡ b1.code.items ++ statements_code n s last (spot_of b1) =
    b.code ∙ ap (λ z. b1.code.items ++ statements_code n z last (spot_of b1)) a.scope in
    let landing : c.land.new.code.items ≡ landed ends (length c2) c2 =
    c.land.ensures ∙ ap (λ e. landed e (length c2) c2) c.deref-in-Some-2.ensures.value in
    let form : statement_form c.args.form.now ≡ tree.choose_or all last =
    if_else_is c.args.form.now c.in-If.all c.in-If.last c.in-Some.last c.in-If.is c.in-Some.is
    ∙ ap (λ xs. tree.choose_or (arms xs) last) (sym c.deref-in-Some.ensures.value) in
    if_else_written n s all last c0 b1.code.items c2 c.land.new.code.items ends c.args.body.now.local b1.local
    c.args.body.now.layout b1.layout
    a.code a.long a.ends a.local a.layout code b.long landing
    ∙ ap (λ f. c0 ++ statement_form_code n s f c.args.head (spot_of c.args.body.now)) (sym form)
