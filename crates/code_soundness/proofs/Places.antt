-- What a certificate says of the instruction at which a state stands, and that the places to which it leads are typed.
use Rattle.std.proofs.Common.{◌≡◌, ◌∙◌, ℕ, suc, ◌<◌, ◌≤◌, Bool, true, false, not, ◌&&◌, ◌||◌, List, [], ◌∷◌, length, Option, Some, None, refl, sym, ap, subst, arith, true≢false}
use Rattle.std.specs.Prelude.{slice_get, nat_lt, nat_eq}
use Rattle.std.proofs.lemmas.Bool.Decides.{nat_tests}
use Rattle.rev_code.specs.declared.code.Code.{Code}
use Rattle.rev_code.specs.declared.code.CodeBlock.{CodeBlock}
use Rattle.rev_code.specs.declared.code.Instr.{Instr}
use Rattle.rev_code.specs.declared.code.Instr.TheVariants as i
use Rattle.rev_code.specs.Words.{Word}
use Rattle.rev_code.specs.State.{Listed, Location, Setting, State}
use Rattle.code_rules.specs.Shapes.{takes, begins, shape_after}
use Rattle.code_rules.specs.Pass.{Note, target, falls, is_bare, is_charge, is_pure, is_value_class, names, bad_jump, bad_operand, most_words}
use Rattle.code_soundness.specs.Certificate.{IsNoted}
use Rattle.code_soundness.specs.Typed.{kinds_of, AreLocations, location_kinds, IsOfProgram}
use Rattle.code_soundness.specs.AcceptedCode.{IsAccepted}
use Rattle.code_soundness.proofs.Lists.{and_false, some_eq, some_within, or_parts, not_false, kinds_length}
use Rattle.code_soundness.proofs.Well.{Stands, GoesWell}

charge_is : (o : Option Instr) → is_charge o ≡ true → (line : ℕ) × (o ≡ Some (i.Charge line))
charge_is (Some (i.Charge line)) h = (line, refl)
charge_is None h = absurd (true≢false (sym h))
charge_is (Some _) h = absurd (true≢false (sym h))

none_left : {A : Type 0} (xs : List A) → length xs ≡ 0 → xs ≡ []
none_left [] h = refl
none_left (x ∷ xs) h = absurd (omega (arith, h))

-- it names something of the right sort, and if it has no place in a fun, this is none
pub operand_good : (code : Code) (n : ℕ) (b : CodeBlock) (x : Instr) → bad_operand code n b x ≡ false
    → (names code n x ≡ true) × (is_pure x ≡ false → is_value_class b.class ≡ false)
operand_good code n b x h =
    let ps = or_parts (not (names code n x)) (is_value_class b.class && not (is_pure x)) h in (
      not_false (names code n x) ps.0,
      λ e. by (is_value_class b.class) (sym (ap (λ d. is_value_class b.class && not d) e) ∙ ps.1),
    )
  where
    by : (d : Bool) → d && true ≡ false → d ≡ false
    by false p = refl
    by true p = absurd (true≢false p)

module _ {H : Type 0} (s : Setting H) (notes : ℕ → ℕ → Note) (ok : IsAccepted s.code notes) (c : State H)
    (b : CodeBlock) (x : Instr) (a : Stands s notes c b x) where
  noted : IsNoted s.code c.block b (notes c.block) c.at x
  noted = (ok.certified c.block b a.is).each c.at x a.here

  pub found : begins (takes s.code b (kinds_of c.stack) x) (kinds_of c.stack) ≡ true
  found = subst (λ sh. begins (takes s.code b sh x) sh ≡ true) (sym a.stack) noted.found

  pub bare : is_bare x ≡ true → length (kinds_of c.stack) ≡ length (takes s.code b (kinds_of c.stack) x)
  bare e = subst (λ sh. length sh ≡ length (takes s.code b sh x)) (sym a.stack) (noted.bare e)

  pub named : names s.code c.block x ≡ true
  named = (operand_good s.code c.block b x noted.operand).0

  -- it has no place in a fun
  pub impure : is_pure x ≡ false → is_value_class b.class ≡ false
  impure e = (operand_good s.code c.block b x noted.operand).1 e

  pub of_program : is_value_class b.class ≡ false → IsOfProgram s.code c.block
  of_program p b' e = ap (λ y. is_value_class y.class) (some_eq (sym e ∙ a.is)) ∙ p

  -- what it leaves is not too deep
  pub shallow : is_value_class b.class ≡ false → (stack : List (Word H))
      → kinds_of stack ≡ shape_after s.code b (kinds_of c.stack) x → length stack ≤ most_words
  shallow p stack e =
      let l = sym (kinds_length stack) ∙ ap length (e ∙ ap (λ sh. shape_after s.code b sh x) a.stack) in
      let m = noted.small p in
      omega (arith, l, m)

  -- a place of the same frame
  pub moved : (at : ℕ) (locals stack : List (Word H)) (ls : List (Location H)) (fuel forks : ℕ)
      (listed : List (Listed H)) (text : List ℕ) (line : ℕ)
      → at < length b.instrs → (is_value_class b.class ≡ true → c.at < at) → kinds_of locals ≡ b.locals
      → kinds_of stack ≡ (notes c.block at).shape
      → (is_value_class b.class ≡ false → AreLocations (location_kinds s.code.vars) ls)
      → (is_value_class b.class ≡ false → length stack ≤ most_words)
      → GoesWell s notes c b (record c {
        at = at;
        locals = locals;
        stack = stack;
        locations = ls;
        fuel = fuel;
        forks = forks;
        listed = listed;
        text = text;
        line = line;
      })
  moved at locals stack ls fuel forks listed text line inside later kinds shape located low = record {
    typed = record {
      frame = record { body = b; is = a.is; inside = inside; kinds = kinds };
      stack = shape;
      below = a.below;
    };
    ahead = λ p. record { block = refl; later = later p; below = refl };
    revision = λ p. record {
      typed = record {
        frame = record { body = b; is = a.is; inside = inside; kinds = kinds };
        stack = shape;
        below = a.below;
      };
      program = of_program p;
      locations = located p;
      shallow = low p;
      few = (a.program p).few;
    };
  }

  pub next_inside : falls x ≡ true → suc c.at < length b.instrs
  next_inside f =
      let w = some_within b.instrs c.at x a.here in
      let e = and_false (falls x) (nat_eq (suc c.at) (length b.instrs)) noted.inside f in
      grind (arith, nat_tests, w, e)

  pub next_shape : falls x ≡ true → shape_after s.code b (kinds_of c.stack) x ≡ (notes c.block (suc c.at)).shape
  next_shape f = ap (λ sh. shape_after s.code b sh x) a.stack ∙ (noted.on f).shape

  -- the next place, with these locals, words and locations
  pub onto : falls x ≡ true
      → (locals stack : List (Word H)) (ls : List (Location H)) (fuel forks : ℕ) (listed : List (Listed H))
      (text : List ℕ) (line : ℕ)
      → kinds_of locals ≡ b.locals → kinds_of stack ≡ shape_after s.code b (kinds_of c.stack) x
      → (is_value_class b.class ≡ false → AreLocations (location_kinds s.code.vars) ls)
      → GoesWell s notes c b (record c {
        at = suc c.at;
        locals = locals;
        stack = stack;
        locations = ls;
        fuel = fuel;
        forks = forks;
        listed = listed;
        text = text;
        line = line;
      })
  onto f locals stack ls fuel forks listed text line kinds e located =
      moved (suc c.at) locals stack ls fuel forks listed text line (next_inside f) (λ p. omega arith) kinds
      (e ∙ next_shape f) located (λ p. shallow p stack e)

  pub next : falls x ≡ true → (stack : List (Word H)) → kinds_of stack ≡ shape_after s.code b (kinds_of c.stack) x
      → GoesWell s notes c b (record c { at = suc c.at; stack = stack })
  next f stack e =
      onto f c.locals stack c.locations c.fuel c.forks c.listed c.text c.line a.locals e (λ p. (a.program p).locations)

  -- the target of a jump
  pub leap : (to : ℕ) → target x ≡ Some to → (stack : List (Word H))
      → kinds_of stack ≡ shape_after s.code b (kinds_of c.stack) x
      → GoesWell s notes c b (record c { at = to; stack = stack })
  leap to tg stack e = by (nat_lt c.at to) refl
    where
      ps : (not (nat_lt to (length b.instrs)) ≡ false)
          × ((not (nat_lt c.at to) && (is_value_class b.class || not (is_charge (slice_get b.instrs to)))) ≡ false)
      ps = or_parts (not (nat_lt to (length b.instrs)))
          (not (nat_lt c.at to) && (is_value_class b.class || not (is_charge (slice_get b.instrs to))))
          (ap (bad_jump b c.at) (sym tg) ∙ noted.target)

      inside : to < length b.instrs
      inside = let h = not_false (nat_lt to (length b.instrs)) ps.0 in grind (arith, nat_tests, h)

      left : kinds_of stack ≡ shape_after s.code b (notes c.block c.at).shape x
      left = e ∙ ap (λ sh. shape_after s.code b sh x) a.stack

      there : (is_value_class b.class ≡ true → c.at < to) → kinds_of stack ≡ (notes c.block to).shape
          → GoesWell s notes c b (record c { at = to; stack = stack })
      there later shape =
          moved to c.locals stack c.locations c.fuel c.forks c.listed c.text c.line inside later a.locals shape
          (λ p. (a.program p).locations) (λ p. shallow p stack e)

      by : (d : Bool) → nat_lt c.at to ≡ d → GoesWell s notes c b (record c { at = to; stack = stack })
      by true q =
          let less : c.at < to = grind (arith, nat_tests, q) in
          there (λ p. less) (left ∙ (noted.jump to tg less).shape)
      by false q =
          let le : to ≤ c.at = grind (arith, nat_tests, q) in
          let z = or_parts (is_value_class b.class) (not (is_charge (slice_get b.instrs to)))
          (and_false (not (nat_lt c.at to)) (is_value_class b.class || not (is_charge (slice_get b.instrs to))) ps.1
          (ap not q)) in
          let ch = charge_is (slice_get b.instrs to) (not_false (is_charge (slice_get b.instrs to)) z.1) in
          let empty =
          none_left (notes c.block to).shape (((ok.certified c.block b a.is).each to (i.Charge ch.0) ch.1).bare refl) in
          there (λ p. absurd (true≢false (sym p ∙ z.0))) (left ∙ noted.back to tg le ∙ sym empty)
