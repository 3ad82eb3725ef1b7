-- Kept code is certified, and the pass accepts it.
use Rattle.std.proofs.Common.{◌≡◌, ◌∙◌, ◌<◌, ◌≤◌, ℕ, zero, suc, ◌+◌, ◌-◌, Bool, true, false, ◌&&◌, List, [], ◌∷◌, ◌++◌, length, length-append, take, Some, refl, sym, ap, subst, arith, true≢false}
use Rattle.std.proofs.Math.Bool.{and-false}
use Rattle.std.specs.Prelude.{slice_get, nat_eq, Ok}
use Rattle.std.proofs.lemmas.Bool.Decides.{nat_tests}
use Rattle.rev_code.specs.declared.code.Code.{Code}
use Rattle.rev_code.specs.declared.code.CodeBlock.{CodeBlock}
use Rattle.rev_code.specs.declared.code.Instr.{Instr}
use Rattle.rev_code.specs.declared.code.Instr.TheVariants as i
use Rattle.code_rules.specs.declared.Cost.{Cost}
use Rattle.code_rules.specs.Shapes.{shape_after}
use Rattle.code_rules.specs.Pass.{Note, entry, falls, falls_off, is_value_class, block_fault, costs_too_much}
use Rattle.code_soundness.specs.Certificate.{Fits, IsCertified}
use Rattle.code_ways.specs.Breaks.{need_of_applied, total_count}
use Rattle.code_ways.specs.OfCode.{IsCost}
use Rattle.code_ways.specs.Certified.{BeginsAnew, IsCheap, cost_at_depth}
use Rattle.code_ways.proofs.Certified.{shapes, certified_accepted, need_take, count_take}
use Rattle.code_ways.proofs.OfCode.{block_fine}
use Rattle.generated_certificates.specs.Items.{noted}
use Rattle.generated_certificates.specs.RulesKept.{IsKept, AllKept}
use Rattle.generated_certificates.proofs.Parts.{each_kept}

-- ---- ends of lists

pub last_is : {A : Type 0} (xs : List A) (y x : A) (at : ℕ) → slice_get (xs ++ y ∷ []) at ≡ Some x
    → suc at ≡ length (xs ++ y ∷ []) → x ≡ y
last_is [] y x zero h e = (let z : Some y ≡ Some x = h in let q : y ≡ x = cc in sym q)
last_is [] y x (suc at) h e = absurd (omega (arith, e))
last_is (z ∷ xs) y x zero h e = absurd (let q = length-append xs (y ∷ []) in omega (arith, e, q))
last_is (z ∷ xs) y x (suc at) h e = last_is xs y x at h (omega (arith, e))

-- a block whose last instruction is Return does not fall off its end
pub returns_at_end : (b : CodeBlock) (xs : List Instr) → b.instrs ≡ xs ++ i.Return ∷ [] → (at : ℕ) (x : Instr)
    → slice_get b.instrs at ≡ Some x → falls_off b at x ≡ false
returns_at_end b xs e at x here = by (nat_eq (suc at) (length b.instrs)) refl
  where
    by : (d : Bool) → nat_eq (suc at) (length b.instrs) ≡ d → falls x && nat_eq (suc at) (length b.instrs) ≡ false
    by false q = ap (λ z. falls x && z) q ∙ and-false (falls x)
    by true q =
        let z : suc at ≡ length b.instrs = grind (arith, nat_tests, q) in
        let r : x ≡ i.Return = last_is xs i.Return x at (sym (ap (λ l. slice_get l at) e) ∙ here) (z ∙ ap length e) in
        ap (λ y. falls y && nat_eq (suc at) (length b.instrs)) r

-- ---- certificates

module _ (code : Code) (k : ℕ) (b : CodeBlock) (ns : List Note) (deepest : ℕ)
    (kept : AllKept code k b (noted ns) deepest 0 b.instrs) (some : 0 < length b.instrs)
    (start : Fits entry (noted ns 0)) where
  at_place : (at : ℕ) (x : Instr) → slice_get b.instrs at ≡ Some x → IsKept code k b (noted ns) deepest at x
  at_place at x h =
      subst (λ p. IsKept code k b (noted ns) deepest p x) (let z : 0 + at ≡ at = omega arith in z)
      (each_kept code k b (noted ns) deepest b.instrs 0 at x kept h)

  pub certified : IsCertified code k b (noted ns)
  certified = record { some = some; start = start; each = λ at x h. (at_place at x h).noted }

  pub anew : BeginsAnew b (noted ns)
  anew at x h f = (at_place at x h).anew f

  cheap : (costs : List Cost) → costs_too_much (cost_at_depth costs b deepest) ≡ false → IsCheap code costs b (noted ns)
  cheap costs h = record { depth = deepest; low = λ at x e. (at_place at x e).low; cheap = h }

  pub accepts : (costs : List Cost)
      → (is_value_class b.class ≡ true → costs_too_much (cost_at_depth costs b deepest) ≡ false)
      → (cost : Cost) × (block_fault code costs k b ≡ Ok cost)
  accepts costs h = certified_accepted code costs k b (noted ns) certified anew (λ v. cheap costs (h v))

  -- a fun costs at most what its depth says
  pub record CostsAtMost (costs : List Cost) (c : Cost) : Type 0 where
    pub need : c.need ≤ length b.locals + deepest + need_of_applied costs b.instrs
    pub count : c.count ≤ total_count costs b.instrs

  pub at_most : (costs : List Cost) (c : Cost) → is_value_class b.class ≡ true → block_fault code costs k b ≡ Ok c
      → CostsAtMost costs c
  at_most costs c v h = by (is_value_class b.class) v (block_fine code costs k b c h).cost
    where
      by : (d : Bool) → d ≡ true → IsCost d code costs b c → CostsAtMost costs c
      by false q e = absurd (true≢false (sym q))
      by true q e =
          let d = e.1.some in
          let l = (at_place d.at d.instr d.is).low in
          let z :
          length (shape_after code b d.shape d.instr) ≡ length (shape_after code b (noted ns d.at).shape d.instr) =
          ap (λ y. length (shape_after code b y d.instr))
          (shapes code costs k b (noted ns) certified anew d.at d.shape d.arrives) in
          let w = d.words in
          let m : ℕ = length b.instrs - 1 in
          let r = need_take costs (suc m) b.instrs in
          let s = count_take costs (suc m) b.instrs in
          let n1 : c.need ≡ length b.locals + e.0 + need_of_applied costs (take (suc m) b.instrs) =
          ap (λ y. y.need) e.2 in
          let n2 : c.count ≡ total_count costs (take (suc m) b.instrs) = ap (λ y. y.count) e.2 in
          record { need = omega (arith, l, z, w, r, n1); count = omega (arith, s, n2) }
