-- What a leg reads is what its steps read.
use Rattle.std.proofs.Common.{◌≡◌, ◌∙◌, ℕ, zero, suc, ◌+◌, ◌<◌, ◌≤◌, List, [], ◌++◌, refl, sym, ap, subst, arith, le_refl}
use Rattle.std.proofs.lemmas.List.{append-nil, append_assoc}
use Rattle.rev_code.specs.State.{State}
use Rattle.rev_code.specs.Step as code
use Rattle.rev_code.specs.Step.{Comes, goes, traps, forks, joins, ends, stuck, step, Steps}
use Rattle.code_soundness.specs.Prices.{leg_prices}
use Rattle.code_soundness.specs.Paid.{UsesUp}
use Rattle.code_soundness.proofs.Stepping.{uses}
use Rattle.code_soundness.proofs.Priced.{leg_bears}
use Rattle.code_soundness.specs.AcceptedCode.{notes_of}
use Rattle.code_machine_laws.specs.Instance.{CodeRun, IsVerified}
use Rattle.code_machine_laws.proofs.Keeping.{under}
use Rattle.code_machine_laws.specs.Laws.{IsEvent, longest}
use Rattle.code_machine_laws.proofs.Keeping.{clock}
use Rattle.code_machine_laws.proofs.Keeping.{accepted, no_longer}
use Rattle.code_machine_laws.specs.Reads.{Read, step_reads, then_reads, reach_reads, reads_of}
use Rattle.code_machine_laws.specs.LegReads.{LegReadsOfSteps}

module _ (g : CodeRun) (ok : IsVerified g) {H : Type 0} where
  bounded : (c c' : State H) → step (under g) c ≡ goes c' → clock g c' < clock g c
  bounded c c' e =
      let most = longest g.code.blocks in
      let h : clock g c' + 1 ≤ clock g c =
      subst (UsesUp g.code (notes_of g.code) (leg_prices most) c) e
      (uses (under g) (notes_of g.code) (accepted g ok).certified (leg_prices most) most (leg_bears most)
      (λ n b. no_longer g.code.blocks n b) c) in
      omega (arith, h)

  none_after : (f : State H → List (Read H)) (o : Comes H) → IsEvent o → then_reads f o ≡ []
  none_after f (goes c) i = absurd i
  none_after f (traps c e) i = refl
  none_after f (forks c n args) i = refl
  none_after f (joins c try h) i = refl
  none_after f (ends c w) i = refl
  none_after f stuck i = absurd i

  at_event : (k : ℕ) (c : State H) (o : Comes H) → IsEvent o → step (under g) c ≡ o
      → reach_reads (under g) k c ≡ step_reads (under g) c
  at_event zero c o i e = refl
  at_event (suc k) c o i e =
      ap (λ rs. step_reads (under g) c ++ rs)
      (ap (then_reads (λ d. reach_reads (under g) k d)) e ∙ none_after (λ d. reach_reads (under g) k d) o i)
      ∙ append-nil (step_reads (under g) c)

  reads : (k : ℕ) (a c : State H) (o : Comes H) → clock g a ≤ k → (steps : Steps (under g) a c) → IsEvent o
      → step (under g) c ≡ o → reach_reads (under g) k a ≡ reads_of steps ++ step_reads (under g) c
  reads k a c o small code.none i e = at_event k c o i e
  reads zero a c o small (code.more {c' = m} h t) i e = absurd (let d = bounded a m h in omega (arith, d, small))
  reads (suc k) a c o small (code.more {c' = m} h t) i e =
      let d = bounded a m h in
      ap (λ x. step_reads (under g) a ++ then_reads (λ y. reach_reads (under g) k y) x) h
      ∙ ap (λ rs. step_reads (under g) a ++ rs) (reads k m c o (omega (arith, d, small)) t i e)
      ∙ sym (append_assoc (step_reads (under g) a) (reads_of t) (step_reads (under g) c))

pub leg_reads_of_steps : {H : Type 0} → LegReadsOfSteps H
leg_reads_of_steps g ok c event l = reads g ok (clock g c) c l.last event (le_refl (clock g c)) l.steps l.is l.comes
