-- What the pass takes for the cost of a fun up to a place is what the words of the rule say.
use Rattle.std.proofs.Common.{◌≡◌, ◌∙◌, ◌⊎◌, inl, inr, ℕ, zero, suc, ◌+◌, ◌<◌, ◌≤◌, max, Bool, true, false, List, [], ◌∷◌, ◌++◌, length, take, Some, refl, sym, ap, subst, arith}
use Rattle.std.specs.Prelude.{slice_get, nat_lt}
use Rattle.std.proofs.lemmas.Bool.Decides.{nat_tests}
use Rattle.rev_code.specs.declared.code.Code.{Code}
use Rattle.rev_code.specs.declared.code.CodeBlock.{CodeBlock}
use Rattle.rev_code.specs.declared.code.Instr.{Instr}
use Rattle.code_rules.specs.declared.Cost.{Cost}
use Rattle.code_rules.specs.Shapes.{Shape, shape_after}
use Rattle.code_rules.specs.Pass.{applied, before, count_of, cost_of, greatest_depth, greatest_need}
use Rattle.code_soundness.specs.Certificate.{note_at}
use Rattle.code_soundness.proofs.Basics.{some_eq, within_some, take_some, before_next}
use Rattle.code_ways.specs.Ways.{Arrives}
use Rattle.code_ways.specs.Breaks.{IsDepth, IsDeepest, need_of_applied, total_count, cost_upto}
use Rattle.code_ways.proofs.Knowing.{Known, AllKnown}

-- ---- funs that are applied

need_snoc : (costs : List Cost) (xs : List Instr) (y : Instr)
    → need_of_applied costs (xs ++ y ∷ []) ≡ max (applied costs y).need (need_of_applied costs xs)
need_snoc costs [] y = refl
need_snoc costs (x ∷ xs) y = let r = need_snoc costs xs y in omega (arith, r)

count_snoc : (costs : List Cost) (xs : List Instr) (y : Instr)
    → total_count costs (xs ++ y ∷ []) ≡ 1 + (applied costs y).count + total_count costs xs
count_snoc costs [] y = refl
count_snoc costs (x ∷ xs) y = let r = count_snoc costs xs y in omega (arith, r)

module _ (code : Code) (costs : List Cost) (b : CodeBlock) where
  need_before : (m : ℕ) → m ≤ length b.instrs
      → greatest_need costs (before code b m) ≡ need_of_applied costs (take m b.instrs)
  need_before zero le = refl
  need_before (suc m) le =
      let y = within_some b.instrs m (omega (arith, le)) in
      let r = need_before m (omega (arith, le)) in
      ap (greatest_need costs) (before_next code b m y.0 y.1) ∙ ap (max (applied costs y.0).need) r
      ∙ sym (need_snoc costs (take m b.instrs) y.0) ∙ ap (need_of_applied costs) (sym (take_some b.instrs m y.0 y.1))

  count_before : (m : ℕ) → m ≤ length b.instrs → count_of costs (before code b m) ≡ total_count costs (take m b.instrs)
  count_before zero le = refl
  count_before (suc m) le =
      let y = within_some b.instrs m (omega (arith, le)) in
      let r = count_before m (omega (arith, le)) in
      ap (count_of costs) (before_next code b m y.0 y.1) ∙ ap (λ z. 1 + (applied costs y.0).count + z) r
      ∙ sym (count_snoc costs (take m b.instrs) y.0) ∙ ap (total_count costs) (sym (take_some b.instrs m y.0 y.1))

  pub cost_before : (at : ℕ) → suc at ≤ length b.instrs
      → cost_of code costs b (before code b (suc at))
      ≡ cost_upto costs b at (greatest_depth code b (before code b (suc at)))
  cost_before at le =
      let m = need_before (suc at) le in
      let c = count_before (suc at) le in
      λ j. record { need = length b.locals + greatest_depth code b (before code b (suc at)) + m j; count = c j }

-- ---- depths

module _ (code : Code) (costs : List Cost) (n : ℕ) (b : CodeBlock) where
  -- the depths behind the instructions before a place
  record Deep (m greatest : ℕ) : Type 0 where
    most : (j : ℕ) (x : Instr) (s : Shape) → j < m → slice_get b.instrs j ≡ Some x → Arrives code b j s
        → length (shape_after code b s x) ≤ greatest
    some : (greatest ≡ 0)
        ⊎ ((j : ℕ) × (j < m)
        × ((x : Instr) × (slice_get b.instrs j ≡ Some x)
        × ((s : Shape) × Arrives code b j s × (greatest ≡ length (shape_after code b s x)))))

  deep : (m : ℕ) → m ≤ length b.instrs → AllKnown code costs n b m → Deep m (greatest_depth code b (before code b m))
  deep zero le known = record { most = λ j x s less here ar. absurd (omega (arith, less)); some = inl refl }
  deep (suc m) le known =
      subst (Deep (suc m)) (sym (ap (greatest_depth code b) (before_next code b m y.0 y.1)))
      (by (deep m (omega (arith, le)) (λ j less. known j (omega (arith, less)))))
    where
      y : (x : Instr) × (slice_get b.instrs m ≡ Some x)
      y = within_some b.instrs m (omega (arith, le))

      k : Known code costs n b m
      k = known m (omega arith)

      own : ℕ
      own = length (shape_after code b (note_at code b m).shape y.0)

      by : Deep m (greatest_depth code b (before code b m))
          → Deep (suc m)
          (max (length (shape_after code b (note_at code b m).shape y.0)) (greatest_depth code b (before code b m)))
      by r = record {
        most = λ j x s less here ar. upto j x s less here ar (nat_lt j m) refl;
        some = attained (nat_lt (greatest_depth code b (before code b m))
            (length (shape_after code b (note_at code b m).shape y.0)))
            refl;
      }
        where
          upto : (j : ℕ) (x : Instr) (s : Shape) → j < suc m → slice_get b.instrs j ≡ Some x → Arrives code b j s
              → (d : Bool) → nat_lt j m ≡ d
              → length (shape_after code b s x)
              ≤ max (length (shape_after code b (note_at code b m).shape y.0)) (greatest_depth code b (before code b m))
          upto j x s less here ar true e =
              let l = r.most j x s (grind (arith, nat_tests, e)) here ar in omega (arith, l)
          upto j x s less here ar false e =
              let z : j ≡ m = grind (arith, nat_tests, e, less) in
              let w : x ≡ y.0 = some_eq (sym here ∙ ap (slice_get b.instrs) z ∙ y.1) in
              let t : s ≡ (note_at code b m).shape = k.shapes s (subst (λ u. Arrives code b u s) z ar) in
              let q : length (shape_after code b s x) ≡ length (shape_after code b (note_at code b m).shape y.0) =
              (λ i. length (shape_after code b (t i) (w i))) in
              omega (arith, q)

          attained : (d : Bool)
              → nat_lt (greatest_depth code b (before code b m))
              (length (shape_after code b (note_at code b m).shape y.0))
              ≡ d
              → (max (length (shape_after code b (note_at code b m).shape y.0))
              (greatest_depth code b (before code b m))
              ≡ 0)
              ⊎ ((j : ℕ) × (j < suc m)
              × ((x : Instr) × (slice_get b.instrs j ≡ Some x)
              × ((s : Shape) × Arrives code b j s
              × (max (length (shape_after code b (note_at code b m).shape y.0))
              (greatest_depth code b (before code b m))
              ≡ length (shape_after code b s x)))))
          attained true e =
              let l :
              greatest_depth code b (before code b m) < length (shape_after code b (note_at code b m).shape y.0) =
              grind (arith, nat_tests, e) in
              inr (m, omega arith, (y.0, y.1, ((note_at code b m).shape, k.arrives, omega (arith, l))))
          attained false e = go r.some
            where
              l : length (shape_after code b (note_at code b m).shape y.0) ≤ greatest_depth code b (before code b m)
              l = grind (arith, nat_tests, e)

              go : (greatest_depth code b (before code b m) ≡ 0)
                  ⊎ ((j : ℕ) × (j < m)
                  × ((x : Instr) × (slice_get b.instrs j ≡ Some x)
                  × ((s : Shape) × Arrives code b j s
                  × (greatest_depth code b (before code b m) ≡ length (shape_after code b s x)))))
                  → (max (length (shape_after code b (note_at code b m).shape y.0))
                  (greatest_depth code b (before code b m))
                  ≡ 0)
                  ⊎ ((j : ℕ) × (j < suc m)
                  × ((x : Instr) × (slice_get b.instrs j ≡ Some x)
                  × ((s : Shape) × Arrives code b j s
                  × (max (length (shape_after code b (note_at code b m).shape y.0))
                  (greatest_depth code b (before code b m))
                  ≡ length (shape_after code b s x)))))
              go (inl z) = inl (let h = l in omega (arith, h, z))
              go (inr q) = inr (
                q.0,
                (let h = q.1 in omega (arith, h)),
                (q.2.0, q.2.1, (q.2.2.0, q.2.2.1, (let h = l in let z = q.2.2.2 in omega (arith, h, z)))),
              )

  pub deepest : (at : ℕ) (x : Instr) → slice_get b.instrs at ≡ Some x → suc at ≤ length b.instrs
      → AllKnown code costs n b (suc at) → IsDeepest code b at (greatest_depth code b (before code b (suc at)))
  deepest at x here le known = record { some = by r.some; most = λ d p. most d p }
    where
      r : Deep (suc at) (greatest_depth code b (before code b (suc at)))
      r = deep (suc at) le known

      k : Known code costs n b at
      k = known at (omega arith)

      most : (d : ℕ) → IsDepth code b at d → d ≤ greatest_depth code b (before code b (suc at))
      most d p =
          let l = r.most p.at p.instr p.shape (let w = p.within in omega (arith, w)) p.is p.arrives in
          let z = p.words in
          omega (arith, l, z)

      by : (greatest_depth code b (before code b (suc at)) ≡ 0)
          ⊎ ((j : ℕ) × (j < suc at)
          × ((y : Instr) × (slice_get b.instrs j ≡ Some y)
          × ((s : Shape) × Arrives code b j s
          × (greatest_depth code b (before code b (suc at)) ≡ length (shape_after code b s y)))))
          → IsDepth code b at (greatest_depth code b (before code b (suc at)))
      by (inl z) =
          let l = r.most at x (note_at code b at).shape (omega arith) here k.arrives in
          record {
            at = at;
            within = omega arith;
            instr = x;
            is = here;
            shape = (note_at code b at).shape;
            arrives = k.arrives;
            words = omega (arith, l, z);
          }
      by (inr q) = record {
        at = q.0;
        within = (let h = q.1 in omega (arith, h));
        instr = q.2.0;
        is = q.2.1;
        shape = q.2.2.0;
        arrives = q.2.2.1;
        words = q.2.2.2;
      }
