-- One instruction keeps the rules at its place.
use Rattle.std.proofs.Common.{◌≡◌, ◌∙◌, ◌⊎◌, inl, ◌<◌, ◌≤◌, ℕ, suc, Bool, true, false, not, ◌&&◌, ◌||◌, List, [], ◌∷◌, ◌++◌, length, length-append, append_assoc, reverse, drop, Option, Some, None, refl, sym, ap, subst, arith, true≢false}
use Rattle.std.proofs.Math.Bool.{and-false}
use Rattle.std.proofs.Math.Seq.{drop-append_seam, drop-length}
use Rattle.std.specs.Prelude.{slice_get}
use Rattle.std.proofs.lemmas.List.{reverse-append}
use Rattle.rev_num.specs.declared.value.ValueKind.{ValueKind}
use Rattle.rev_num.specs.declared.value.ValueKind.TheVariants as kind
use Rattle.rev_num.proofs.SameKinds.{same_kind_self}
use Rattle.rev_code.specs.declared.code.Code.{Code}
use Rattle.rev_code.specs.declared.code.CodeBlock.{CodeBlock}
use Rattle.rev_code.specs.declared.code.Instr.{Instr}
use Rattle.rev_code.specs.declared.code.Instr.TheVariants as i
use Rattle.code_rules.specs.Shapes.{Shape, one_or_none, takes, gives, begins, shape_after}
use Rattle.code_rules.specs.Pass.{Note, entry, target, falls, names, is_pure, is_bare, is_paid_for, paid_after, bad_operand, bad_local, is_value_class}
use Rattle.code_soundness.specs.Certificate.{Fits, IsJumped, leaves}
use Rattle.generated_certificates.specs.Items.{noted, push}
use Rattle.generated_certificates.specs.RulesKept.{IsWithin, IsKept}
pub use Rattle.rev_num.proofs.Lists.{false_no as no}

pub begins_one : (t : ValueKind) (s : Shape) → begins (t ∷ []) (t ∷ s) ≡ true
begins_one t s = ap (λ d. d && true) (same_kind_self t)

pub begins_two : (t u : ValueKind) (s : Shape) → begins (t ∷ u ∷ []) (t ∷ u ∷ s) ≡ true
begins_two t u s = λ j. same_kind_self t j && (same_kind_self u j && true)

pub none_some : {A : Type 0} (to : ℕ) (o : Option ℕ) → o ≡ None → o ≡ Some to → A
none_some to o h e = absurd (let z : None ≡ Some to = sym h ∙ e in cc)

-- ---- kinds in order, of which the last is on top

pub turned : (t : ValueKind) (ts s : Shape) → reverse ts ++ t ∷ s ≡ reverse (t ∷ ts) ++ s
turned t ts s = sym (append_assoc (reverse ts) (t ∷ []) s) ∙ ap (λ z. z ++ s) (sym (reverse-append (t ∷ []) ts))

begins_all : (xs s : Shape) → begins xs (xs ++ s) ≡ true
begins_all [] s = refl
begins_all (x ∷ xs) s = λ j. same_kind_self x j && begins_all xs s j

none_below : (xs s : Shape) → s ≡ [] → length (xs ++ s) ≡ length xs
none_below xs s e = length-append xs s ∙ (let z : length s ≡ 0 = ap length e in omega (arith, z))

begins_self : (o : Option ValueKind) → begins (one_or_none o) (one_or_none o) ≡ true
begins_self None = refl
begins_self (Some t) = begins_one t []

module _ (code : Code) (k : ℕ) (b : CodeBlock) where
  -- what an instruction finds and leaves
  abbrev pub Finds : Note → Instr → Note → Type 0
  Finds n x m =
      (begins (takes code b n.shape x) n.shape ≡ true)
      × (is_bare x ≡ true → length n.shape ≡ length (takes code b n.shape x)) × (is_paid_for x ≡ true → n.paid ≡ true)
      × (leaves code b n x ≡ m)

  pub pure_fine : (x : Instr) → names code k x ≡ true → is_pure x ≡ true → bad_operand code k b x ≡ false
  pure_fine x h p = (λ j. not (h j) || (is_value_class b.class && not (p j))) ∙ and-false (is_value_class b.class)

  pub outside_fine : (x : Instr) → names code k x ≡ true → is_value_class b.class ≡ false
      → bad_operand code k b x ≡ false
  outside_fine x h v = λ j. not (h j) || (v j && not (is_pure x))

  -- an instruction that takes all these kinds
  pub finds_all : (ks gs : List ValueKind) (s : Shape) (paid : Bool) (x : Instr)
      → takes code b (reverse ks ++ s) x ≡ reverse ks → gives code b x ≡ gs → (is_bare x ≡ true → s ≡ [])
      → (is_paid_for x ≡ true → paid ≡ true)
      → Finds (record { shape = reverse ks ++ s; paid = paid }) x (record { shape = gs ++ s; paid = paid_after paid x })
  finds_all ks gs s paid x ta gi ba pa = (
    ap (λ z. begins z (reverse ks ++ s)) ta ∙ begins_all (reverse ks) s,
    λ q. none_below (reverse ks) s (ba q) ∙ sym (ap length ta),
    pa,
    ap (λ z. record { shape = gives code b x ++ drop (length z) (reverse ks ++ s); paid = paid_after paid x }) ta
        ∙ (λ j. record { shape = gi j ++ drop-append_seam (reverse ks) s j; paid = paid_after paid x }),
  )

  module _ (deepest : ℕ) (w : IsWithin b deepest) (ns : List Note) where
    pub kept : (at : ℕ) (n m : Note) (x : Instr) → slice_get b.instrs at ≡ Some x → noted ns at ≡ n
        → bad_operand code k b x ≡ false → bad_local b x ≡ false → Finds n x m → length m.shape ≤ deepest
        → (falls x ≡ true → Fits m (noted ns (suc at)))
        → ((to : ℕ) → target x ≡ Some to → at < to → Fits m (noted ns to))
        → ((to : ℕ) → target x ≡ Some to → to ≤ at → m.shape ≡ [])
        → (falls x ≡ false → Fits entry (noted ns (suc at)) ⊎ IsJumped b (suc at))
        → IsKept code k b (noted ns) deepest at x
    kept at n m x here note op lo ready low on jump back anew =
        let r = subst (λ z. Finds z x m) (sym note) ready in
        let sh : shape_after code b (noted ns at).shape x ≡ m.shape = ap (λ z. z.shape) r.3 in
        let few : length (shape_after code b (noted ns at).shape x) ≤ deepest =
        subst (λ z. length z ≤ deepest) (sym sh) low in
        record {
          noted = record {
            target = w.jumps at x here;
            operand = op;
            found = r.0;
            bare = r.1;
            paid = r.2;
            local = lo;
            inside = w.ends at x here;
            small = λ v. (let q = w.small v in omega (arith, few, q));
            on = λ f. subst (λ z. Fits z (noted ns (suc at))) (sym r.3) (on f);
            jump = λ to e l. subst (λ z. Fits z (noted ns to)) (sym r.3) (jump to e l);
            back = λ to e l. sh ∙ back to e l;
          };
          anew = anew;
          low = few;
        }

    -- an instruction that goes on to the next
    pub passes_on : (at : ℕ) (n m : Note) (x : Instr) → slice_get b.instrs at ≡ Some x → noted ns at ≡ n
        → target x ≡ None → falls x ≡ true → bad_operand code k b x ≡ false → bad_local b x ≡ false → Finds n x m
        → length m.shape ≤ deepest → Fits m (noted ns (suc at)) → IsKept code k b (noted ns) deepest at x
    passes_on at n m x here note tg fa op lo ready low fits =
        kept at n m x here note op lo ready low (λ f. fits) (λ to e l. none_some to (target x) tg e)
        (λ to e l. none_some to (target x) tg e) (λ f. absurd (true≢false (sym fa ∙ f)))

    -- one that pushes a word
    pub pushes : (at : ℕ) (n : Note) (t : ValueKind) (x : Instr) → slice_get b.instrs at ≡ Some x → noted ns at ≡ n
        → target x ≡ None → falls x ≡ true → bad_operand code k b x ≡ false → bad_local b x ≡ false
        → takes code b n.shape x ≡ [] → is_bare x ≡ false → is_paid_for x ≡ false → leaves code b n x ≡ push t n
        → suc (length n.shape) ≤ deepest → Fits (push t n) (noted ns (suc at)) → IsKept code k b (noted ns) deepest at x
    pushes at n t x here note tg fa op lo ta ba pa le low fits =
        passes_on at n (push t n) x here note tg fa op lo (
          ap (λ z. begins z n.shape) ta,
          λ q. absurd (true≢false (sym q ∙ ba)),
          λ q. absurd (true≢false (sym q ∙ pa)),
          le,
        ) low fits

    -- a test that may jump forward
    pub tests : (at to : ℕ) (n : Note) (x : Instr) → slice_get b.instrs at ≡ Some x → noted ns at ≡ push kind.Bool n
        → target x ≡ Some to → falls x ≡ true → at < to → bad_operand code k b x ≡ false → bad_local b x ≡ false
        → Finds (push kind.Bool n) x n → length n.shape ≤ deepest
        → Fits n (noted ns (suc at)) → Fits n (noted ns to) → IsKept code k b (noted ns) deepest at x
    tests at to n x here note tg fa less op lo ready low fits goes =
        kept at (push kind.Bool n) n x here note op lo ready low (λ f. fits)
        (λ u e l.
        (let z : to ≡ u = (let q : Some to ≡ Some u = sym tg ∙ e in cc) in subst (λ p. Fits n (noted ns p)) z goes))
        (λ u e l.
        (let z : to ≡ u = (let q : Some to ≡ Some u = sym tg ∙ e in cc) in absurd (omega (arith, less, l, z))))
        (λ f. absurd (true≢false (sym fa ∙ f)))

    pub if_false : (at to : ℕ) (n : Note) → slice_get b.instrs at ≡ Some (i.JumpIfFalse to)
        → noted ns at ≡ push kind.Bool n → at < to → length n.shape ≤ deepest → Fits n (noted ns (suc at))
        → Fits n (noted ns to) → IsKept code k b (noted ns) deepest at (i.JumpIfFalse to)
    if_false at to n here note less low fits goes =
        tests at to n (i.JumpIfFalse to) here note refl refl less (pure_fine (i.JumpIfFalse to) refl refl) refl
        (refl, λ q. no q, λ q. no q, refl) low fits goes

    pub if_true : (at to : ℕ) (n : Note) → slice_get b.instrs at ≡ Some (i.JumpIfTrue to)
        → noted ns at ≡ push kind.Bool n → at < to → length n.shape ≤ deepest → Fits n (noted ns (suc at))
        → Fits n (noted ns to) → IsKept code k b (noted ns) deepest at (i.JumpIfTrue to)
    if_true at to n here note less low fits goes =
        tests at to n (i.JumpIfTrue to) here note refl refl less (pure_fine (i.JumpIfTrue to) refl refl) refl
        (refl, λ q. no q, λ q. no q, refl) low fits goes

    -- a jump forward, with what may begin behind it
    pub jumps_on : (at to : ℕ) (n : Note) → slice_get b.instrs at ≡ Some (i.Jump to) → noted ns at ≡ n → at < to
        → length n.shape ≤ deepest → Fits n (noted ns to) → (Fits entry (noted ns (suc at)) ⊎ IsJumped b (suc at))
        → IsKept code k b (noted ns) deepest at (i.Jump to)
    jumps_on at to n here note less low goes anew =
        kept at n n (i.Jump to) here note (pure_fine (i.Jump to) refl refl) refl (refl, λ q. no q, λ q. no q, refl) low
        (λ q. no q)
        (λ u e l. (let z : to ≡ u = (let q : Some to ≡ Some u = e in cc) in subst (λ p. Fits n (noted ns p)) z goes))
        (λ u e l. (let z : to ≡ u = (let q : Some to ≡ Some u = e in cc) in absurd (omega (arith, less, l, z))))
        (λ f. anew)

    -- a jump back, where nothing is on the stack
    pub jumps_back : (at to : ℕ) (n : Note) → slice_get b.instrs at ≡ Some (i.Jump to) → noted ns at ≡ n → to ≤ at
        → n.shape ≡ [] → Fits entry (noted ns (suc at)) → IsKept code k b (noted ns) deepest at (i.Jump to)
    jumps_back at to n here note less empty anew =
        kept at n n (i.Jump to) here note (pure_fine (i.Jump to) refl refl) refl (refl, λ q. no q, λ q. no q, refl)
        (subst (λ z. length z ≤ deepest) (sym empty) (omega arith)) (λ q. no q)
        (λ u e l. (let z : to ≡ u = (let q : Some to ≡ Some u = e in cc) in absurd (omega (arith, less, l, z))))
        (λ u e l. empty)
        (λ f. inl anew)

    -- an instruction that takes one word in a fun or merge too
    pub turns : (at : ℕ) (n : Note) (t u : ValueKind) (x : Instr) → slice_get b.instrs at ≡ Some x
        → noted ns at ≡ push t n → target x ≡ None → falls x ≡ true → bad_operand code k b x ≡ false
        → bad_local b x ≡ false → takes code b (t ∷ n.shape) x ≡ t ∷ [] → is_bare x ≡ false → is_paid_for x ≡ false
        → leaves code b (push t n) x ≡ push u n
        → suc (length n.shape) ≤ deepest → Fits (push u n) (noted ns (suc at)) → IsKept code k b (noted ns) deepest at x
    turns at n t u x here note tg fa op lo ta ba pa le low fits =
        passes_on at (push t n) (push u n) x here note tg fa op lo (
          ap (λ z. begins z (t ∷ n.shape)) ta ∙ begins_one t n.shape,
          λ q. absurd (true≢false (sym q ∙ ba)),
          λ q. absurd (true≢false (sym q ∙ pa)),
          le,
        ) low fits

    -- an operator on two words
    pub operates : (at : ℕ) (n : Note) (t u g : ValueKind) (x : Instr) → slice_get b.instrs at ≡ Some x
        → noted ns at ≡ push u (push t n) → target x ≡ None → falls x ≡ true → names code k x ≡ true → is_pure x ≡ true
        → bad_local b x ≡ false → is_bare x ≡ false → is_paid_for x ≡ false
        → takes code b (u ∷ t ∷ n.shape) x ≡ u ∷ t ∷ [] → leaves code b (push u (push t n)) x ≡ push g n
        → suc (length n.shape) ≤ deepest → Fits (push g n) (noted ns (suc at)) → IsKept code k b (noted ns) deepest at x
    operates at n t u g x here note tg fa na pu lo ba pa ta le low fits =
        passes_on at (push u (push t n)) (push g n) x here note tg fa (pure_fine x na pu) lo (
          ap (λ z. begins z (u ∷ t ∷ n.shape)) ta ∙ begins_two u t n.shape,
          λ q. absurd (true≢false (sym q ∙ ba)),
          λ q. absurd (true≢false (sym q ∙ pa)),
          le,
        ) low fits

    -- the end of a block, with its result alone on the stack
    pub gives_back : (at : ℕ) (paid : Bool) → slice_get b.instrs at ≡ Some i.Return
        → noted ns at ≡ record { shape = one_or_none b.result; paid = paid } → Fits entry (noted ns (suc at))
        → IsKept code k b (noted ns) deepest at i.Return
    gives_back at paid here note next =
        kept at (record { shape = one_or_none b.result; paid = paid }) (record { shape = []; paid = paid }) i.Return
        here note (pure_fine i.Return refl refl) refl (
          begins_self b.result,
          λ q. refl,
          λ q. no q,
          ap (λ z. record { shape = z; paid = paid }) (drop-length (one_or_none b.result)),
        )
        (omega arith) (λ q. no q) (λ to e l. absurd (let z : None ≡ Some to = e in cc)) (λ to e l. refl) (λ f. inl next)
