-- No jump of a block leads out of it, and none back but to a Charge.
use Rattle.std.proofs.Common.{◌≡◌, ◌<◌, ◌≤◌, inl, inr, ℕ, zero, suc, ◌+◌, Bool, true, false, not, ◌&&◌, ◌||◌, Option, Some, None, List, [], ◌∷◌, ◌++◌, length, length-append, refl, sym, ap, subst, arith}
use Rattle.std.specs.Prelude.{slice_get, nat_lt, if◌then◌else◌}
use Rattle.std.proofs.lemmas.Bool.Decides.{nat_tests}
use Rattle.rev_num.specs.declared.value.ValueKind.{ValueKind}
use Rattle.rev_num.specs.declared.value.ValueKind.TheVariants as k
use Rattle.rev_syntax.specs.Trees.{PlacedName, Parameter, Expression, statement, Statements, no_statements, statements, Declaration, fun, merge, shared, proc, ProgramTree}
use Rattle.typed_programs.specs.Kinds.{Names}
use Rattle.typed_programs.specs.Scopes.{outside}
use Rattle.rev_code.specs.declared.code.Instr.{Instr}
use Rattle.rev_code.specs.declared.code.Instr.TheVariants as i
use Rattle.rev_code.specs.declared.code.CodeBlock.{CodeBlock}
use Rattle.code_rules.specs.Pass.{target, is_charge, is_value_class, bad_jump}
use Rattle.code_generation.specs.Numbers.{Numbers, numbers, Scope, with_params}
use Rattle.code_generation.specs.Expressions.{expression_size, expression_code}
use Rattle.code_generation.specs.Sizes.{statement_form_size, statements_size, statements_prints}
use Rattle.code_generation.specs.Statements.{Spot, statements_code}
use Rattle.code_generation.specs.Generated.{zero_code, ends_in_return, end_code, fun_block, merge_scope, merge_block, proc_block, main_block, value_blocks, body_blocks, code_of}
use Rattle.code_generation.specs.Stands.{HasAt, ChargeAt, Leads, AllLead}
use Rattle.code_generation.proofs.Standing.{parts_stand, whole_stands, parts_lead, one_leads, each_leads}
use Rattle.code_generation.proofs.Lengths.{and_one, expression_length, statements_length}
use Rattle.code_generation.proofs.Jumps.{expression_leads, statements_lead, returning_leads}

nothing : Unit {0}
nothing = tt

-- ---- the test of a jump

onward_fine : (p q r : Bool) → p ≡ true → q ≡ true → (not p || (not q && r)) ≡ false
onward_fine true true r h k = refl
onward_fine true false r h k = absurd (let z : false ≡ true = k in cc)
onward_fine false q r h k = absurd (let z : false ≡ true = h in cc)

backward_fine : (p q v c : Bool) → p ≡ true → v ≡ false → c ≡ true → (not p || (not q && (v || not c))) ≡ false
backward_fine true true v c h k e = refl
backward_fine true false false true h k e = refl
backward_fine true false true c h k e = absurd (let z : true ≡ false = k in cc)
backward_fine true false false false h k e = absurd (let z : false ≡ true = e in cc)
backward_fine false q v c h k e = absurd (let z : false ≡ true = h in cc)

charge_inside : (xs : List Instr) (n : ℕ) → ChargeAt xs n → n < length xs
charge_inside [] n h = absurd (let z : false ≡ true = h in cc)
charge_inside (x ∷ xs) zero h = omega arith
charge_inside (x ∷ xs) (suc n) h = let r = charge_inside xs n h in omega (arith, r)

abbrev Fine : CodeBlock → Type 0
Fine b = (at : ℕ) (x : Instr) → slice_get b.instrs at ≡ Some x → bad_jump b at (target x) ≡ false

-- a block with forward jumps alone
abbrev no_back : ℕ → Type 0
no_back to = ⊥

test_on : (b : CodeBlock) (last at : ℕ) (t : Option ℕ) → last < length b.instrs → Leads no_back last at t
    → bad_jump b at t ≡ false
test_on b last at None h j = refl
test_on b last at (Some to) h (inl j) =
    onward_fine (nat_lt to (length b.instrs)) (nat_lt at to)
    (is_value_class b.class || not (is_charge (slice_get b.instrs to)))
    (let p : to ≤ last = j.1 in grind (arith, nat_tests, h, p))
    (let q : at < to = j.0 in grind (arith, nat_tests, q))
test_on b last at (Some to) h (inr j) = absurd j

test_back : (b : CodeBlock) (last at : ℕ) (t : Option ℕ) → is_value_class b.class ≡ false → last < length b.instrs
    → Leads (ChargeAt b.instrs) last at t → bad_jump b at t ≡ false
test_back b last at None v h j = refl
test_back b last at (Some to) v h (inl j) =
    onward_fine (nat_lt to (length b.instrs)) (nat_lt at to)
    (is_value_class b.class || not (is_charge (slice_get b.instrs to)))
    (let p : to ≤ last = j.1 in grind (arith, nat_tests, h, p))
    (let q : at < to = j.0 in grind (arith, nat_tests, q))
test_back b last at (Some to) v h (inr j) =
    let p : to < length b.instrs = charge_inside b.instrs to j in
    backward_fine (nat_lt to (length b.instrs)) (nat_lt at to) (is_value_class b.class)
    (is_charge (slice_get b.instrs to)) (grind (arith, nat_tests, p)) v j

-- all jumps of all instructions
fine_on : (b : CodeBlock) (last : ℕ) → last < length b.instrs → AllLead no_back last 0 b.instrs → Fine b
fine_on b last h j at x e =
    test_on b last at (target x) h
    (subst (λ p. Leads no_back last p (target x)) (let z : 0 + at ≡ at = omega arith in z)
    (each_leads no_back last b.instrs 0 at x j e))

fine_back : (b : CodeBlock) (last : ℕ) → is_value_class b.class ≡ false → last < length b.instrs
    → AllLead (ChargeAt b.instrs) last 0 b.instrs → Fine b
fine_back b last v h j at x e =
    test_back b last at (target x) v h
    (subst (λ p. Leads (ChargeAt b.instrs) last p (target x)) (let z : 0 + at ≡ at = omega arith in z)
    (each_leads (ChargeAt b.instrs) last b.instrs 0 at x j e))

-- ---- funs and merges

value_size : (n : Numbers) (scope : Scope) (e : Expression)
    → length (expression_code n scope e 0 ++ i.Return ∷ []) ≡ expression_size e + 1
value_size n scope e =
    and_one (expression_code n scope e 0) i.Return (expression_size e) (expression_length n scope e 0)

value_leads : (n : Numbers) (scope : Scope) (e : Expression)
    → AllLead no_back (expression_size e) 0 (expression_code n scope e 0 ++ i.Return ∷ [])
value_leads n scope e =
    one_leads no_back (expression_size e) (expression_code n scope e 0) i.Return 0 (expression_size e)
    (expression_length n scope e 0) refl (expression_leads no_back (expression_size e) n scope e 0 (omega arith))

fun_fine : (n : Numbers) (ps : List Parameter) (r : ValueKind) (e : Expression) → Fine (fun_block n ps r e)
fun_fine n ps r e =
    fine_on (fun_block n ps r e) (expression_size e) (let z = value_size n (with_params [] 0 ps) e in omega (arith, z))
    (value_leads n (with_params [] 0 ps) e)

-- ---- procedures and `main`

zero_target : (kind : ValueKind) → target (zero_code kind) ≡ None
zero_target k.Int = refl
zero_target k.Bool = refl
zero_target k.Rev = refl

-- a zero value and a Return
zero_leads : (back : ℕ → Type 0) (last at : ℕ) (kind : ValueKind)
    → AllLead back last at (zero_code kind ∷ i.Return ∷ [])
zero_leads back last at kind = (subst (λ t. Leads back last at t) (sym (zero_target kind)) nothing, (nothing, nothing))

module _ (n : Numbers) (ps : List Parameter) (body : Statements) (layout : ℕ) where
  abbrev scope : Scope
  scope = with_params [] 0 ps

  abbrev first : Spot
  first = record { at = 0; local = length ps; layout = layout }

  abbrev code : List Instr
  code = statements_code n scope body first

  size : length code ≡ statements_size n body
  size = statements_length n scope body first

  -- with something behind, to which jumps may lead
  ended : (ends : List Instr) (b : CodeBlock) → is_value_class b.class ≡ false → b.instrs ≡ code ++ ends
      → 0 < length ends → ((back : ℕ → Type 0) (last at : ℕ) → AllLead back last at ends) → Fine b
  ended ends b v e h f =
      let here : HasAt b.instrs 0 b.instrs = whole_stands b.instrs in
      let there =
      parts_stand b.instrs code ends 0 (statements_size n body) size (subst (λ xs. HasAt b.instrs 0 xs) e here) in
      let long = length-append code ends in
      let z = ap length e in
      let count = size in
      fine_back b (statements_size n body) v (omega (arith, long, z, h, count))
      (subst (λ xs. AllLead (ChargeAt b.instrs) (statements_size n body) 0 xs) (sym e)
      (parts_lead (ChargeAt b.instrs) (statements_size n body) code ends 0 (statements_size n body) size
      (statements_lead b.instrs (statements_size n body) n scope body first there.0 (omega arith))
      (f (ChargeAt b.instrs) (statements_size n body) (0 + statements_size n body))))

  -- with nothing behind a last `return`
  returned : (last : ℕ) (b : CodeBlock) → is_value_class b.class ≡ false → b.instrs ≡ code ++ []
      → statements_size n body ≡ suc last → ends_in_return body ≡ true → Fine b
  returned last b v e h r =
      let here : HasAt b.instrs 0 b.instrs = whole_stands b.instrs in
      let there =
      parts_stand b.instrs code [] 0 (statements_size n body) size (subst (λ xs. HasAt b.instrs 0 xs) e here) in
      let long = length-append code [] in
      let z = ap length e in
      let count = size in
      fine_back b last v (omega (arith, long, z, h, count))
      (subst (λ xs. AllLead (ChargeAt b.instrs) last 0 xs) (sym e)
      (parts_lead (ChargeAt b.instrs) last code [] 0 (statements_size n body) size
      (returning_leads b.instrs last n scope body first r there.0 (omega (arith, h)))
      nothing))

  some_instruction : (xs : Statements) → ends_in_return xs ≡ true → (m : ℕ) × (statements_size n xs ≡ suc m)
  some_instruction no_statements r = absurd (let z : false ≡ true = r in cc)
  some_instruction (statements (statement p line form) rest) r =
      (statement_form_size n form + statements_size n rest, omega arith)

  body_fine : (r : Option ValueKind) (b : CodeBlock) → is_value_class b.class ≡ false
      → b.instrs ≡ code ++ end_code r body → Fine b
  body_fine None b v e = ended (i.Return ∷ []) b v e (omega arith) (λ back last at. (nothing, nothing))
  body_fine (Some kind) b v e = by (ends_in_return body) refl e
    where
      by : (d : Bool) → ends_in_return body ≡ d → b.instrs ≡ code ++ (if d then [] else zero_code kind ∷ i.Return ∷ [])
          → Fine b
      by true r q = let m = some_instruction body r in returned m.0 b v q m.1 r
      by false r q =
          ended (zero_code kind ∷ i.Return ∷ []) b v q (omega arith) (λ back last at. zero_leads back last at kind)

proc_fine : (n : Numbers) (c : Names) (ps : List Parameter) (r : Option ValueKind) (body : Statements) (layout : ℕ)
    → Fine (proc_block n c ps r body layout)
proc_fine n c ps r body layout = body_fine n ps body layout r (proc_block n c ps r body layout) refl refl

main_fine : (n : Numbers) (c : Names) (body : Statements) (layout : ℕ) → Fine (main_block n c body layout)
main_fine n c body layout = body_fine n [] body layout None (main_block n c body layout) refl refl

merge_fine : (n : Numbers) (m j r : PlacedName) (e : Expression) → Fine (merge_block n m j r e)
merge_fine n m j r e =
    fine_on (merge_block n m j r e) (expression_size e) (let z = value_size n (merge_scope m j r) e in omega (arith, z))
    (value_leads n (merge_scope m j r) e)

-- ---- all blocks

AllFine : List CodeBlock → Type 0
AllFine bs = (k : ℕ) (b : CodeBlock) → slice_get bs k ≡ Some b → Fine b

none_fine : AllFine []
unfolding AllFine
none_fine k b h = absurd (let z : None ≡ Some b = h in cc)

one_more : (b : CodeBlock) (bs : List CodeBlock) → Fine b → AllFine bs → AllFine (b ∷ bs)
unfolding AllFine
one_more b bs f g zero c h = subst Fine (let z : b ≡ c = cc in z) f
one_more b bs f g (suc k) c h = g k c h

both_fine : (bs cs : List CodeBlock) → AllFine bs → AllFine cs → AllFine (bs ++ cs)
unfolding AllFine
both_fine [] cs f g k b h = g k b h
both_fine (x ∷ bs) cs f g zero b h = f zero b h
both_fine (x ∷ bs) cs f g (suc k) b h = both_fine bs cs (λ j c e. f (suc j) c e) g k b h

values_fine : (n : Numbers) (es : List Declaration) → AllFine (value_blocks n es)
values_fine n [] = none_fine
values_fine n (fun w ps r body ∷ es) =
    one_more (fun_block n ps r body) (value_blocks n es) (fun_fine n ps r body) (values_fine n es)
values_fine n (merge w m j r body ∷ es) =
    one_more (merge_block n m j r body) (value_blocks n es) (merge_fine n m j r body) (values_fine n es)
values_fine n (shared x ∷ es) = values_fine n es
values_fine n (proc w ps r body ∷ es) = values_fine n es

bodies_fine : (n : Numbers) (c : Names) (es : List Declaration) (main : Statements) (layout : ℕ)
    → AllFine (body_blocks n c es main layout)
bodies_fine n c [] main layout = one_more (main_block n c main layout) [] (main_fine n c main layout) none_fine
bodies_fine n c (proc w ps r body ∷ es) main layout =
    one_more (proc_block n c ps r body layout) (body_blocks n c es main (layout + statements_prints body))
    (proc_fine n c ps r body layout) (bodies_fine n c es main (layout + statements_prints body))
bodies_fine n c (fun w ps r body ∷ es) main layout = bodies_fine n c es main layout
bodies_fine n c (merge w m j r body ∷ es) main layout = bodies_fine n c es main layout
bodies_fine n c (shared x ∷ es) main layout = bodies_fine n c es main layout

pub jumps_stay : (p : ProgramTree) (k : ℕ) (b : CodeBlock) (at : ℕ) (x : Instr)
    → slice_get (code_of p).blocks k ≡ Some b → slice_get b.instrs at ≡ Some x → bad_jump b at (target x) ≡ false
unfolding AllFine
jumps_stay p k b at x h e =
    both_fine (value_blocks (numbers p) p.declarations)
    (body_blocks (numbers p) (outside p.declarations) p.declarations p.main 0)
    (values_fine (numbers p) p.declarations)
    (bodies_fine (numbers p) (outside p.declarations) p.declarations p.main 0)
    k b h at x e
