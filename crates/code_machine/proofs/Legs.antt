-- Each leg of verified code exists and is what its instructions lead to.
use Rattle.std.proofs.Common.{◌≡◌, ◌∙◌, ℕ, zero, suc, ◌+◌, ◌<◌, ◌≤◌, List, [], ◌∷◌, length, Some, None, refl, sym, ap, subst, arith, le_refl}
use Rattle.std.specs.Prelude.{slice_get, max}
use Rattle.rev_code.specs.declared.code.CodeBlock.{CodeBlock}
use Rattle.rev_code.specs.State.{State}
use Rattle.rev_code.specs.Step as code
use Rattle.rev_code.specs.Step.{Comes, goes, traps, forks, joins, ends, stuck, step, Steps, onward, reach}
use Rattle.code_soundness.specs.Prices.{leg_prices}
use Rattle.code_soundness.specs.Paid.{UsesUp}
use Rattle.code_soundness.proofs.Stepping.{uses}
use Rattle.code_soundness.proofs.Priced.{leg_bears}
use Rattle.code_soundness.specs.AcceptedCode.{IsAccepted, notes_of}
use Rattle.code_soundness.specs.Typed.{IsRevision}
pub use Rattle.code_soundness.proofs.Accepting.{no_fault_accepted}
use Rattle.code_soundness.proofs.Reaching.{has_step, is_safe}
use Rattle.code_machine.specs.Local.{CodeRun, IsVerified, under}
use Rattle.code_machine.specs.Leg.{IsEvent, IsLeg, longest, clock, leg, HasLeg}

pub no_longer : (bs : List CodeBlock) (n : ℕ) (b : CodeBlock) → slice_get bs n ≡ Some b → length b.instrs ≤ longest bs
no_longer [] n b e = absurd (let clash : None ≡ Some b = e in cc)
no_longer (x ∷ bs) zero b e =
    let z : x ≡ b = (let k : Some x ≡ Some b = e in cc) in
    subst (λ y. length y.instrs ≤ max (length x.instrs) (longest bs)) z (omega arith)
no_longer (x ∷ bs) (suc n) b e = let h = no_longer bs n b e in omega (arith, h)

module _ (g : CodeRun) (ok : IsVerified g) where
  pub accepted : IsAccepted g.code (notes_of g.code)
  accepted = no_fault_accepted g.code ok

  module _ {H : Type 0} where
    bounded : (c c' : State H) → step (under g) c ≡ goes c' → clock g c' < clock g c
    bounded c c' e =
        let most = longest g.code.blocks in
        let h : clock g c' + 1 ≤ clock g c =
        subst (UsesUp g.code (notes_of g.code) (leg_prices most) c) e
        (uses (under g) (notes_of g.code) accepted.certified (leg_prices most) most (leg_bears most)
        (λ n b. no_longer g.code.blocks n b) c) in
        omega (arith, h)

    event_on : (k : ℕ) (o : Comes H) → IsEvent o → onward (λ c. reach (under g) k c) o ≡ o
    event_on k (goes c) i = absurd i
    event_on k (traps c e) i = refl
    event_on k (forks c n args) i = refl
    event_on k (joins c try h) i = refl
    event_on k (ends c w) i = refl
    event_on k stuck i = absurd i

    at_event : (k : ℕ) (c : State H) (o : Comes H) → IsEvent o → step (under g) c ≡ o → reach (under g) k c ≡ o
    at_event zero c o i e = e
    at_event (suc k) c o i e = ap (onward (λ d. reach (under g) k d)) e ∙ event_on k o i

    reaches : (k : ℕ) (a c : State H) (o : Comes H) → clock g a ≤ k → Steps (under g) a c → IsEvent o
        → step (under g) c ≡ o → reach (under g) k a ≡ o
    reaches k a c o small code.none i e = at_event k c o i e
    reaches zero a c o small (code.more {c' = m} h t) i e = absurd (let d = bounded a m h in omega (arith, d, small))
    reaches (suc k) a c o small (code.more {c' = m} h t) i e =
        let d = bounded a m h in
        ap (onward (λ x. reach (under g) k x)) h ∙ reaches k m c o (omega (arith, d, small)) t i e

    pub leg_is : (c : State H) (o : Comes H) → IsLeg (under g) c o → leg g c ≡ o
    leg_is c o l = reaches (clock g c) c l.last o (le_refl (clock g c)) l.steps l.is l.comes

    -- some event, of a state of a revision
    record Leads (c : State H) : Type 0 where
      event : Comes H
      is : IsLeg (under g) c event
      revision : IsRevision g.code (notes_of g.code) is.last

    here : (c : State H) (o : Comes H) → IsRevision g.code (notes_of g.code) c → step (under g) c ≡ o → IsEvent o
        → Leads c
    here c o t e i = record { event = o; is = record { last = c; steps = code.none; comes = e; is = i }; revision = t }

    from_step : (k : ℕ) (c : State H) → clock g c ≤ k → IsRevision g.code (notes_of g.code) c → (o : Comes H)
        → step (under g) c ≡ o → ((c' : State H) → step (under g) c ≡ goes c' → clock g c' < clock g c → Leads c')
        → Leads c
    from_step k c small t (goes c') e rec =
        let l = rec c' e (bounded c c' e) in
        record {
          event = l.event;
          is = record { last = l.is.last; steps = code.more e l.is.steps; comes = l.is.comes; is = l.is.is };
          revision = l.revision;
        }
    from_step k c small t (traps c' x) e rec = here c (traps c' x) t e tt
    from_step k c small t (forks c' n args) e rec = here c (forks c' n args) t e tt
    from_step k c small t (joins c' try h) e rec = here c (joins c' try h) t e tt
    from_step k c small t (ends c' w) e rec = here c (ends c' w) t e tt
    from_step k c small t stuck e rec =
        absurd ((has_step H g.code (notes_of g.code) accepted g.inputs g.share c t).event e)

    after : (c c' : State H) → IsRevision g.code (notes_of g.code) c → step (under g) c ≡ goes c'
        → IsRevision g.code (notes_of g.code) c'
    after c c' t e = (is_safe H g.code (notes_of g.code) accepted g.inputs g.share c t).goes c' e

    from : (k : ℕ) (c : State H) → clock g c ≤ k → IsRevision g.code (notes_of g.code) c → Leads c
    from zero c small t =
        from_step zero c small t (step (under g) c) refl (λ c' e less. absurd (omega (arith, less, small)))
    from (suc k) c small t =
        from_step (suc k) c small t (step (under g) c) refl
        (λ c' e less. from k c' (omega (arith, less, small)) (after c c' t e))

    pub has_leg : (c : State H) → IsRevision g.code (notes_of g.code) c → HasLeg g c
    has_leg c t =
        let l = from (clock g c) c (le_refl (clock g c)) t in
        let e : leg g c ≡ l.event = leg_is c l.event l.is in
        record {
          is = record {
            last = l.is.last;
            steps = l.is.steps;
            comes = l.is.comes ∙ sym e;
            is = subst IsEvent (sym e) l.is.is;
          };
          revision = l.revision;
        }
