-- Two steps in both orders.
use Rattle.std.proofs.Common.{◌≡◌, ◌≢◌, inl, inr, true, false, Option, Some, None, refl, sym, ap, ◌∙◌, subst}
use Rattle.rev_num.specs.Path.{Path, same}
use Rattle.revision_machine.specs.Machine.{Machine, Global, Twice, step, Reached}
use Rattle.revision_machine.specs.Conditions.{Counts}
use Rattle.revision_machine.specs.Laws.{Follows, Diamond}
use Rattle.rev_num.proofs.PostOrder.{same_refl}
use Rattle.revision_machine.proofs.Ends.{diamond_law}
use Rattle.revision_machine.specs.declared.one_step.StepOutcome.{StepOutcome}
use Rattle.revision_machine.specs.declared.state.GlobalState.{GlobalState}
use Rattle.revision_machine.specs.declared.two_orders.BothOrders.{BothOrders}
use Rattle.revision_machine.specs.declared.two_orders.BothOrders.TheVariants as two
use Rattle.revision_machine.specs.States.{global_of}
use Rattle.revision_machine.specs.StepOutcomes.{Tells, IsOutcome}
use Rattle.revision_machine.specs.TwoOrders.{BothLead, IsNoPair, Orders, SteppedTo, IsBoth}
use Rattle.revision_machine.proofs.Exact.{steps_to, twice_stays}

pub not_same : (p q : Path) → same p q ≡ false → p ≢ q
not_same p q e is = let clash : true ≡ false = sym (ap (same p) (sym is) ∙ same_refl p) ∙ e in cc

module _ (M : Machine) where
  pub stepped_some : (g h : Global M.Local) (p : Path) (r : Option (GlobalState M.Local)) (s : GlobalState M.Local)
      → SteppedTo M h p r → r ≡ Some s → h ≡ g → step M g p ≡ Some (global_of s)
  stepped_some g h p r s t is e = ap (λ v. step M v p) (sym e) ∙ subst (SteppedTo M h p) is t

  follows_one : (g h k : Global M.Local) (p : Path) → Follows M g p h → Follows M g p k → h ≡ k
  follows_one g h k p (inl s) (inl t) = let e : Some h ≡ Some k = sym s ∙ t in cc
  follows_one g h k p (inl s) (inr t) = let clash : None ≡ Some h = sym (ap (λ v. step M v p) t.0) ∙ s in absurd cc
  follows_one g h k p (inr s) (inl t) = let clash : None ≡ Some k = sym (ap (λ v. step M v p) s.0) ∙ t in absurd cc
  follows_one g h k p (inr s) (inr t) = s.1 ∙ sym t.1

  follows_told : (a : StepOutcome) (p : Path) (g h k : Global M.Local) → Tells M a p g h → Follows M g p k → h ≡ k
  follows_told a p g h k t (inl s) = steps_to M a p g h k t s
  follows_told a p g h k t (inr e) = twice_stays M a p h (subst (λ v. Tells M a p v h) e.0 t) ∙ sym e.1

  module _ (main : M.Local) (counts : Counts M) (g a b : Global M.Local) (p q : Path) (reached : Reached M main g)
      (apart : p ≢ q) (one : step M g p ≡ Some a) (other : step M g q ≡ Some b) (x y : StepOutcome)
      (left right : Global M.Local) (to_left : IsOutcome M x q a left) (to_right : IsOutcome M y p b right) where
    d : Diamond M p q a b
    d = diamond_law M main counts g a b p q reached apart one other

    left_is : left ≡ d.end
    left_is = follows_told x q a left d.end to_left.tells d.first

    right_is : right ≡ d.end
    right_is = follows_told y p b right d.end to_right.tells d.second

    pub same_end : left ≡ right
    same_end = left_is ∙ sym right_is

    both_to : (h : Global M.Local) → h ≡ left → BothLead M g p q h
    both_to h e =
        let is : h ≡ d.end = e ∙ left_is in
        record {
          apart = apart;
          one = record { middle = a; first = one; second = subst (Follows M a q) (sym is) d.first };
          other = record { middle = b; first = other; second = subst (Follows M b p) (sym is) d.second };
        }

    -- any state that both orders lead to is this one
    only_end : (h : Global M.Local) → BothLead M g p q h → h ≡ left
    only_end h both =
        let same_middle : both.one.middle ≡ a =
        (let e : Some both.one.middle ≡ Some a = sym both.one.first ∙ one in cc) in
        follows_one a h d.end q (subst (λ v. Follows M v q h) same_middle both.one.second) d.first ∙ sym left_is

    steps_both : IsNoPair M g p q → ⊥
    steps_both (inl e) = apart e
    steps_both (inr (inl e)) = let clash : None ≡ Some a = sym e ∙ one in cc
    steps_both (inr (inr e)) = let clash : None ≡ Some b = sym e ∙ other in cc

    pub orders : (answer : BothOrders M.Local) → IsBoth answer left → Orders M answer g p q
    orders (two.Same l r) is = record {
      tells = (both_to (global_of l) is.0, (λ e. is.2 (sym is.0 ∙ e)), is.0 ∙ sym is.1);
      twice = λ both. absurd (is.2 (sym (only_end Twice both)));
      no_pair = λ none. absurd (steps_both none);
    }
    orders two.Twice is =
        record { tells = both_to Twice (sym is); twice = λ both. refl; no_pair = λ none. absurd (steps_both none) }
    orders two.NoPair is = absurd is
