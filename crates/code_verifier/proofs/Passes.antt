-- One instruction of the pass.
use Rattle.std.proofs.Common.{◌≡◌, ◌∙◌, ℕ, zero, suc, ◌+◌, ◌^◌, ◌<◌, ◌≤◌, max, Bool, true, false, not, ◌&&◌, ◌||◌, List, [], ◌∷◌, length, Option, Some, None, refl, sym, ap, subst, arith, true≢false, drop, get_or}
use Rattle.std.specs.Prelude.{slice_get, nat_lt, is_some, if◌then◌else◌}
use Rattle.std.proofs.lemmas.Bool.Decides.{nat_tests}
use Rattle.rev_code.specs.declared.code.Code.{Code}
use Rattle.rev_code.specs.declared.code.CodeBlock.{CodeBlock}
use Rattle.rev_code.specs.declared.code.Instr.{Instr}
use Rattle.rev_code.specs.declared.code.Instr.TheVariants as i
use Rattle.code_rules.specs.declared.Cost.{Cost}
use Rattle.code_rules.specs.declared.Rule.{Rule}
use Rattle.code_rules.specs.declared.Rule.TheVariants as rule
use Rattle.code_rules.specs.Shapes.{Shape, takes, begins, shape_after}
use Rattle.code_rules.specs.Pass as pass
use Rattle.code_rules.specs.Pass.{Note, Passed, after, arrival, known, passed, before, clashes, target, falls, paid_after, bad_jump, bad_operand, is_bare, is_paid_for, bad_local, falls_off, over_limit, broken, broken_with, scan, or_fault, bad_shape, wrong_kind, greatest_depth, greatest_need, count_of, cost_of, costs_too_much, applied, cost_at, is_value_class, most_need, most_count, most_words}
use Rattle.code_verifier.specs.declared.mark.Mark.{Mark}
use Rattle.code_verifier.specs.declared.spent.Spent.{Spent}
use Rattle.code_verifier.specs.declared.stack.Effect.{Effect}
use Rattle.code_verifier.specs.declared.pass.Scope.{Scope}
use Rattle.code_verifier.specs.declared.pass.Known.{Known}
use Rattle.code_verifier.specs.ShapesByNumber.{shape_at}
use Rattle.code_verifier.specs.Effects.{IsEffect}
use Rattle.code_verifier.specs.Marking.{met, clashes_at, leap, IsMark, Marks, Stands}
use Rattle.code_verifier.specs.Spending.{spend, is_over, AllCheap, IsCheap, IsSpent}
use Rattle.code_verifier.specs.Passing.{rule_of, shape_faulty, IsReady, Arrived, IsStep}
use Rattle.code_verifier.proofs.Tries.{get_or_some}
use Rattle.code_verifier.proofs.Bridge.{meets, clash_is, stands_next, stands_more}
use Rattle.code_soundness.proofs.Basics.{before_next, some_within}
use Rattle.code_verifier.proofs.Blocks.{drop_suc}

-- ---- the instructions before a place

pub none_or_some : {A : Type 0} (d : Bool) (r : A) (o : Option A) → (if d then Some r else o) ≡ None
    → (d ≡ false) × (o ≡ None)
none_or_some true r o h = absurd (let z : Some r ≡ None = h in cc)
none_or_some false r o h = (refl, h)

-- the last rule is not broken where none is
no_limit : (a b c d e : Bool) → rule_of a b c d e ≡ None → e ≡ false
no_limit a b c d e h =
    let p = none_or_some a rule.StackShape _ h in
    let q = none_or_some b rule.WrongKind _ p.1 in
    let r = none_or_some c rule.BadLocal _ q.1 in
    let s = none_or_some d rule.FallsOff _ r.1 in
    (none_or_some e rule.LimitOf None s.1).0

pub target_inside : (b : CodeBlock) (at : ℕ) (to : Option ℕ) → bad_jump b at to ≡ false → (t : ℕ) → to ≡ Some t
    → t < length b.instrs
target_inside b at None h t e = absurd (let z : None ≡ Some t = e in cc)
target_inside b at (Some u) h t e = by (nat_lt u (length b.instrs)) refl h
  where
    by : (d : Bool) → nat_lt u (length b.instrs) ≡ d
        → (not d || (not (nat_lt at u) && (is_value_class b.class || not (pass.is_charge (slice_get b.instrs u)))))
        ≡ false
        → t < length b.instrs
    by true q g = (let ut : u ≡ t = cc in grind (arith, nat_tests, q, ut))
    by false q g = absurd (true≢false g)

applied_cheap : (costs : List Cost) → AllCheap costs → (x : Instr) → IsCheap (applied costs x)
applied_cheap costs h (i.Apply f) = by (slice_get costs f) refl
  where
    by : (o : Option Cost) → slice_get costs f ≡ o → IsCheap (cost_at costs f)
    by None e = subst (λ o. IsCheap (elim o as (λ _. Cost) [ None ↦ pass.no_cost | Some c ↦ c ])) (sym e)
        (omega arith, omega arith)
    by (Some c) e = subst (λ o. IsCheap (elim o as (λ _. Cost) [ None ↦ pass.no_cost | Some c ↦ c ])) (sym e) (h f c e)
applied_cheap costs h x = (omega arith, omega arith)

pub cheap_need : (costs : List Cost) → AllCheap costs → (x : Instr) → (applied costs x).need ≤ 65536
cheap_need costs h x = (applied_cheap costs h x).0

pub cheap_count : (costs : List Cost) → AllCheap costs → (x : Instr) → (applied costs x).count ≤ 262144
cheap_count costs h x = (applied_cheap costs h x).1

record Noted (shapes : List Shape) (m : Mark) (o : Option Note) : Type 0 where
  note : Note
  is : o ≡ Some note
  mark : IsMark shapes m note

noted : (shapes : List Shape) (m : Mark) (o : Option Note) → Marks shapes (Some m) o → Noted shapes m o
noted shapes m None h = absurd h
noted shapes m (Some n) h = record { note = n; is = refl; mark = h }

module _ (s : Scope) (at : ℕ) (x : Instr) (k : Known) (ready : IsReady s at k)
    (here : slice_get s.block.now.instrs at ≡ Some x) where
  code : Code
  code = s.code.now

  abbrev done : List Passed
  done = before s.code.now s.block.now at

  inside : at < length s.block.now.instrs
  inside = some_within s.block.now.instrs at x here

  pub ahead_at : (o : Option Mark) → o ≡ get_or k.ahead.items at o → slice_get k.ahead.items at ≡ Some o
  ahead_at o e = get_or_some k.ahead.items at o (let l = ready.stands.long in let w = inside in omega (arith, l, w)) e

  -- what ways give together
  pub arrives : (o : Option Mark) → slice_get k.ahead.items at ≡ Some o
      → Marks k.shapes (met k.shapes k.last o) (arrival s.code.now s.block.now (before s.code.now s.block.now at))
  arrives o e =
      let c = ready.count in
      let st = ready.stands in
      meets k.shapes st.some st.empty k.last o (pass.fallen s.code.now s.block.now (before s.code.now s.block.now at))
      (pass.jumped s.code.now s.block.now (length (before s.code.now s.block.now at))
      (before s.code.now s.block.now at))
      st.fallen
      (st.marks (length (before s.code.now s.block.now at)) o (omega arith) (ap (slice_get k.ahead.items) c ∙ e))

  past_jump : bad_jump s.block.now at (target x) ≡ false
      → broken s.code.now s.costs.now s.number s.block.now (before s.code.now s.block.now at) x
      (arrival s.code.now s.block.now (before s.code.now s.block.now at))
      ≡ (if bad_operand s.code.now s.number s.block.now x then Some rule.BadOperand
      else broken_with s.code.now s.costs.now s.block.now (before s.code.now s.block.now at) x
      (arrival s.code.now s.block.now (before s.code.now s.block.now at)))
  past_jump h =
      ap (λ d. if d then Some rule.BadJump
      else (if bad_operand s.code.now s.number s.block.now x then Some rule.BadOperand
      else broken_with s.code.now s.costs.now s.block.now (before s.code.now s.block.now at) x
      (arrival s.code.now s.block.now (before s.code.now s.block.now at))))
      (ap (λ y. bad_jump s.block.now y (target x)) ready.count ∙ h)

  past_operand : bad_jump s.block.now at (target x) ≡ false → bad_operand s.code.now s.number s.block.now x ≡ false
      → broken s.code.now s.costs.now s.number s.block.now (before s.code.now s.block.now at) x
      (arrival s.code.now s.block.now (before s.code.now s.block.now at))
      ≡ broken_with s.code.now s.costs.now s.block.now (before s.code.now s.block.now at) x
      (arrival s.code.now s.block.now (before s.code.now s.block.now at))
  past_operand h g =
      past_jump h
      ∙ ap (λ d.
      if d then Some rule.BadOperand
      else broken_with s.code.now s.costs.now s.block.now (before s.code.now s.block.now at) x
      (arrival s.code.now s.block.now (before s.code.now s.block.now at)))
      g

  pub shapes_differ : bad_jump s.block.now at (target x) ≡ false → bad_operand s.code.now s.number s.block.now x ≡ false
      → (o : Option Mark) → slice_get k.ahead.items at ≡ Some o → met k.shapes k.last o ≡ None
      → broken s.code.now s.costs.now s.number s.block.now (before s.code.now s.block.now at) x
      (arrival s.code.now s.block.now (before s.code.now s.block.now at))
      ≡ Some rule.StackShape
  shapes_differ h g o e z =
      past_operand h g
      ∙ by (arrival s.code.now s.block.now (before s.code.now s.block.now at))
      (subst (λ y. Marks k.shapes y (arrival s.code.now s.block.now (before s.code.now s.block.now at))) z
      (arrives o e))
    where
      by : (u : Option Note) → Marks k.shapes None u
          → broken_with s.code.now s.costs.now s.block.now (before s.code.now s.block.now at) x u ≡ Some rule.StackShape
      by None q = refl
      by (Some n) q = absurd q

  module _ (m : Mark) (arr : Arrived s at x k m) (shapes' : List Shape) (e : Effect)
      (eff : IsEffect s.code.now s.block.now k.shapes m.shape x shapes' e)
      (clash : Bool) (clash_at : clash ≡ clashes_at shapes' k.ahead.items at e.after (target x))
      (depth : ℕ) (depth_is : depth ≡ length (shape_at shapes' e.after)) (depth_small : depth < 2 ^ 63)
      (spent' : Spent) (spent_is : spent' ≡ spend k.spent depth (applied s.costs.now x))
      (limit : Bool) (limit_is : limit ≡ is_over s.block.now spent' depth) where
    nn : Noted k.shapes m (arrival s.code.now s.block.now (before s.code.now s.block.now at))
    nn = noted k.shapes m (arrival s.code.now s.block.now (before s.code.now s.block.now at)) arr.mark

    p : Passed
    p = record { instr = x; note = nn.note }

    shape_is : shape_at k.shapes m.shape ≡ nn.note.shape
    shape_is = nn.mark.shape

    after_is : shape_at shapes' e.after ≡ shape_after s.code.now s.block.now nn.note.shape x
    after_is = eff.after ∙ ap (λ y. shape_after s.code.now s.block.now y x) shape_is

    stands' : Stands s.code.now s.block.now (before s.code.now s.block.now at) shapes' k.ahead.items k.last
    stands' = stands_more s.code.now s.block.now (before s.code.now s.block.now at) k.shapes shapes' k.ahead.items
        k.last eff.extends ready.stands

    clash_ok : clash
        ≡ clashes s.code.now s.block.now (before s.code.now s.block.now at)
        (shape_after s.code.now s.block.now nn.note.shape x) (target x)
    clash_ok =
        clash_at
        ∙ clash_is s.code.now s.block.now (before s.code.now s.block.now at) shapes' k.ahead.items k.last stands'
        e.after (shape_after s.code.now s.block.now nn.note.shape x) after_is at ready.count (target x)
        (target_inside s.block.now at (target x) arr.jump)

    depth_ok : depth ≡ length (shape_after s.code.now s.block.now nn.note.shape x)
    depth_ok = depth_is ∙ ap length after_is

    spent_depth : spent'.depth
        ≡ greatest_depth s.code.now s.block.now
        (record { instr = x; note = nn.note } ∷ before s.code.now s.block.now at)
    spent_depth = ap (λ y. y.depth) spent_is ∙ (λ j. max (depth_ok j) (ready.spent.depth j))

    spent_need : spent'.need
        ≡ greatest_need s.costs.now (record { instr = x; note = nn.note } ∷ before s.code.now s.block.now at)
    spent_need = ap (λ y. y.need) spent_is ∙ ap (λ y. max (applied s.costs.now x).need y) ready.spent.need

    spent_count :
        spent'.count ≡ count_of s.costs.now (record { instr = x; note = nn.note } ∷ before s.code.now s.block.now at)
    spent_count = ap (λ y. y.count) spent_is ∙ ap (λ y. 1 + (applied s.costs.now x).count + y) ready.spent.count

    limit_ok : limit ≡ over_limit s.code.now s.costs.now s.block.now (before s.code.now s.block.now at)
        (record { instr = x; note = nn.note })
    limit_ok = limit_is
        ∙ (λ j. if is_value_class s.block.now.class
        then (nat_lt most_need (length s.block.now.locals + spent_depth j + spent_need j)
        || nat_lt most_count (spent_count j))
        else nat_lt most_words (depth_ok j))

    shape_ok : shape_faulty e.words e.wanted m.paid clash x
        ≡ bad_shape s.code.now s.block.now (before s.code.now s.block.now at) (record { instr = x; note = nn.note })
    shape_ok =
        let w : e.words ≡ length nn.note.shape = eff.words ∙ ap length shape_is in
        let t : e.wanted ≡ length (takes s.code.now s.block.now nn.note.shape x) =
        eff.wanted ∙ ap (λ y. length (takes s.code.now s.block.now y x)) shape_is in
        (λ j. nat_lt (w j) (t j) || (is_bare x && nat_lt (t j) (w j)) || (is_paid_for x && not (nn.mark.paid j))
        || clash_ok j)

    kind_ok : not e.found ≡ wrong_kind s.code.now s.block.now (record { instr = x; note = nn.note })
    kind_ok = ap not (eff.found ∙ ap (λ y. begins (takes s.code.now s.block.now y x) y) shape_is)

    pub pass_rule : broken s.code.now s.costs.now s.number s.block.now (before s.code.now s.block.now at) x
        (arrival s.code.now s.block.now (before s.code.now s.block.now at))
        ≡ rule_of (shape_faulty e.words e.wanted m.paid clash x) (not e.found) (bad_local s.block.now x)
        (falls_off s.block.now at x) limit
    pass_rule =
        past_operand arr.jump arr.operand
        ∙ ap (broken_with s.code.now s.costs.now s.block.now (before s.code.now s.block.now at) x) nn.is
        ∙ (λ j. rule_of (sym shape_ok j) (sym kind_ok j) (bad_local s.block.now x)
        (falls_off s.block.now (ready.count j) x) (sym limit_ok j))

    cheap_now : limit ≡ false → is_value_class s.block.now.class ≡ true
        → costs_too_much (cost_of s.code.now s.costs.now s.block.now
        (record { instr = x; note = nn.note } ∷ before s.code.now s.block.now at))
        ≡ false
    cheap_now l v =
        sym (ap (λ d.
        if d
        then costs_too_much (cost_of s.code.now s.costs.now s.block.now
        (record { instr = x; note = nn.note } ∷ before s.code.now s.block.now at))
        else nat_lt most_words (length (after s.code.now s.block.now (record { instr = x; note = nn.note })).shape))
        v)
        ∙ sym limit_ok ∙ l

    spent_next : limit ≡ false
        → IsSpent s.code.now s.costs.now s.block.now
        (record { instr = x; note = nn.note } ∷ before s.code.now s.block.now at) spent'
    spent_next l =
        let sp = ready.spent in
        let cn = cheap_need s.costs.now ready.cheap x in
        let cc' = cheap_count s.costs.now ready.cheap x in
        let d0 = sp.small_depth in
        let n0 = sp.small_need in
        let c0 = sp.small_count in
        let ed : spent'.depth ≡ max depth k.spent.depth = ap (λ y. y.depth) spent_is in
        let en : spent'.need ≡ max (applied s.costs.now x).need k.spent.need = ap (λ y. y.need) spent_is in
        let ec : spent'.count ≡ 1 + (applied s.costs.now x).count + k.spent.count = ap (λ y. y.count) spent_is in
        record {
          depth = spent_depth;
          need = spent_need;
          count = spent_count;
          small_depth = max_below depth k.spent.depth (2 ^ 63) spent'.depth ed depth_small d0;
          small_need = max_within (applied s.costs.now x).need k.spent.need 65536 spent'.need en cn n0;
          small_count = omega (arith, ec, cc', c0);
          cheap = cheap_now l;
        }
      where
        max_within : (a b n c : ℕ) → c ≡ max a b → a ≤ n → b ≤ n → c ≤ n
        max_within a b n c e h g = omega (arith, e, h, g)

        max_below : (a b n c : ℕ) → c ≡ max a b → a < n → b < n → c < n
        max_below a b n c e h g = omega (arith, e, h, g)

    pub pass_ready : rule_of (shape_faulty e.words e.wanted m.paid clash x) (not e.found) (bad_local s.block.now x)
        (falls_off s.block.now at x) limit
        ≡ None
        → (k' : Known) → k'.shapes ≡ shapes'
        → k'.ahead.items ≡ leap k.ahead.items at (record { shape = e.after; paid = paid_after m.paid x }) (target x)
        → k'.last ≡ (if falls x then Some (record { shape = e.after; paid = paid_after m.paid x }) else None)
        → k'.spent ≡ spent' → IsReady s (suc at) k'
    pass_ready none k' e1 e2 e3 e4 =
        let l = no_limit _ _ _ _ limit none in
        let nx = stands_next s.code.now s.block.now (before s.code.now s.block.now at) shapes' k.ahead.items k.last
        stands' (record { instr = x; note = nn.note }) (record { shape = e.after; paid = paid_after m.paid x })
        (record { within = eff.within; shape = after_is; paid = ap (λ y. paid_after y x) nn.mark.paid }) at ready.count
        (target_inside s.block.now at (target x) arr.jump) in
        let st : Stands s.code.now s.block.now (record { instr = x; note = nn.note } ∷ before s.code.now s.block.now at)
        k'.shapes k'.ahead.items k'.last =
        subst (λ y.
        Stands s.code.now s.block.now (record { instr = x; note = nn.note } ∷ before s.code.now s.block.now at) y
        k'.ahead.items k'.last)
        (sym e1)
        (subst (λ y.
        Stands s.code.now s.block.now (record { instr = x; note = nn.note } ∷ before s.code.now s.block.now at) shapes'
        y k'.last)
        (sym e2)
        (subst (λ y.
        Stands s.code.now s.block.now (record { instr = x; note = nn.note } ∷ before s.code.now s.block.now at) shapes'
        (leap k.ahead.items at (record { shape = e.after; paid = paid_after m.paid x }) (target x)) y)
        (sym e3) nx)) in
        let sp = subst (λ y.
        IsSpent s.code.now s.costs.now s.block.now
        (record { instr = x; note = nn.note } ∷ before s.code.now s.block.now at) y)
        (sym e4) (spent_next l) in
        let bf : record { instr = x; note = nn.note } ∷ before s.code.now s.block.now at
        ≡ before s.code.now s.block.now (suc at) =
        ap (λ o. record { instr = x; note = known o } ∷ before s.code.now s.block.now at) (sym nn.is)
        ∙ sym (before_next s.code.now s.block.now at x here) in
        record {
          count = ap length (sym bf) ∙ ap suc ready.count;
          stands = subst (λ y. Stands s.code.now s.block.now y k'.shapes k'.ahead.items k'.last) bf st;
          spent = subst (λ y. IsSpent s.code.now s.costs.now s.block.now y k'.spent) bf sp;
          cheap = ready.cheap;
          locals = ready.locals;
          instrs = ready.instrs;
        }

pub step_done : (s : Scope) (at : ℕ) (x : Instr) (k' : Known) (r : Option Rule)
    → broken s.code.now s.costs.now s.number s.block.now (before s.code.now s.block.now at) x
    (arrival s.code.now s.block.now (before s.code.now s.block.now at))
    ≡ r
    → (r ≡ None → IsReady s (suc at) k') → IsStep s at x k' r
step_done s at x k' None b h = (b, h refl)
step_done s at x k' (Some r) b h = b

pub not_none : {A : Type 0} (r : Option A) (d : Bool) → is_some r ≡ not d → d ≡ false → r ≡ None → ⊥
not_none r d e f g = true≢false (sym (e ∙ ap not f) ∙ ap is_some g)

-- ---- the whole pass

drop_some : {A : Type 0} (xs : List A) (n : ℕ) (x : A) → slice_get xs n ≡ Some x → drop n xs ≡ x ∷ drop (n + 1) xs
drop_some xs n x h = drop_suc xs n x h ∙ ap (λ y. x ∷ drop y xs) (let z : suc n ≡ n + 1 = omega arith in z)

plus_one : (n : ℕ) → suc n ≡ n + 1
plus_one n = omega arith

pub scan_next : (s : Scope) (at : ℕ) (x : Instr) (k' : Known) (r : Option Rule)
    → slice_get s.block.now.instrs at ≡ Some x → IsStep s at x k' r → r ≡ None
    → scan s.code.now s.costs.now s.number s.block.now (before s.code.now s.block.now at) (drop at s.block.now.instrs)
    ≡ scan s.code.now s.costs.now s.number s.block.now (before s.code.now s.block.now (at + 1))
    (drop (at + 1) s.block.now.instrs)
scan_next s at x k' r here step none =
    let st : IsStep s at x k' None = subst (IsStep s at x k') none step in
    ap (scan s.code.now s.costs.now s.number s.block.now (before s.code.now s.block.now at))
    (drop_some s.block.now.instrs at x here)
    ∙ ap (λ o.
    or_fault (length (before s.code.now s.block.now at)) o
    (scan s.code.now s.costs.now s.number s.block.now
    (passed s.code.now s.block.now (before s.code.now s.block.now at) x ∷ before s.code.now s.block.now at)
    (drop (at + 1) s.block.now.instrs)))
    st.0
    ∙ ap (λ d. scan s.code.now s.costs.now s.number s.block.now d (drop (at + 1) s.block.now.instrs))
    (sym (before_next s.code.now s.block.now at x here))
    ∙ ap (λ n.
    scan s.code.now s.costs.now s.number s.block.now (before s.code.now s.block.now n)
    (drop (at + 1) s.block.now.instrs))
    (plus_one at)

pub ready_next : (s : Scope) (at : ℕ) (x : Instr) (k' : Known) (r : Option Rule) → IsStep s at x k' r → r ≡ None
    → IsReady s (at + 1) k'
ready_next s at x k' r step none =
    let st : IsStep s at x k' None = subst (IsStep s at x k') none step in
    subst (λ n. IsReady s n k') (plus_one at) st.1

-- what `as_slice` lends
any_default : (xs : List Instr) (n : ℕ) (d e : Instr) → n < length xs → get_or xs n d ≡ get_or xs n e
any_default [] n d e h = absurd (omega (arith, h))
any_default (x ∷ xs) zero d e h = refl
any_default (x ∷ xs) (suc n) d e h = any_default xs n d e (omega (arith, h))

pub slice_some : (xs ys : List Instr) (n : ℕ) (d : Instr) → xs ≡ ys → n < length xs
    → slice_get ys n ≡ Some (get_or xs n d)
slice_some xs ys n d e h =
    ap (λ z. slice_get z n) (sym e) ∙ get_or_some xs n (get_or xs n d) h (any_default xs n d (get_or xs n d) h)
