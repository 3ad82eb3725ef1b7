-- The laws of all machines of revisions, for verified code from its start.
use Rattle.std.proofs.Common.{ℕ, ◌+◌, ◌*◌, ◌≤◌, length, arith}
use Rattle.rev_num.specs.Path.{Path}
use Rattle.code_soundness.specs.Prices as prices
use Rattle.code_soundness.specs.Prices.{Prices, entry_prices, place}
use Rattle.code_soundness.proofs.Costing.{begun}
use Rattle.code_soundness.proofs.Priced.{entry_bears}
use Rattle.code_soundness.specs.AcceptedCode.{notes_of}
use Rattle.revision_machine.specs.Laws.{BoundLaw, CountLaw}
use Rattle.revision_machine.specs.Numbered.{World, Both, Listing, ScheduleBound, WorldCount, CountsAtMost}
use Rattle.revision_machine.proofs.Census.{bound_law, count_law, count_up}
use Rattle.revision_machine.proofs.Schedules.{schedule_bound}
use Rattle.revision_machine.proofs.ByNumber.{world_count}
use Rattle.code_machine.specs.Local.{CodeRun, IsVerified, Local}
use Rattle.code_machine.specs.Leg.{longest}
use Rattle.code_machine.specs.Machines.{machine, numbered, IsMain, start_in}
use Rattle.code_machine.specs.Weights.{weight, pay, fork_prices}
use Rattle.code_machine.proofs.Legs.{accepted, no_longer}
use Rattle.code_machine.proofs.Paying.{fork_bears}
use Rattle.code_machine.proofs.MachineConditions.{counts, spends, pays, named_counts, named_spends, named_pays}

module _ (g : CodeRun) (ok : IsVerified g) (n : ℕ) (m : IsMain g n) (fuel : ℕ) where
  starts_free : (p : Prices) → prices.Bears p (longest g.code.blocks)
      → place g.code (notes_of g.code) p n 0 ≤ p.left (length m.body.instrs) 0 + p.other
  starts_free p bears =
      begun g.code (notes_of g.code) (accepted g ok).certified p (longest g.code.blocks) bears
      (λ k b. no_longer g.code.blocks k b) n m.body m.is

  pub first_weight : (H : Type 0) → weight g (start_in {H = H} g n m.body fuel) ≤ 3 * fuel + 2
  first_weight H = let a = starts_free entry_prices (entry_bears (longest g.code.blocks)) in omega (arith, a)

  pub first_pay : (H : Type 0) → pay g (start_in {H = H} g n m.body fuel) ≤ fuel
  first_pay H = let a = starts_free fork_prices (fork_bears (longest g.code.blocks)) in omega (arith, a)

  pub run_bound : BoundLaw (machine g) (start_in g n m.body fuel) (3 * fuel + 2)
  run_bound h rs runs =
      let a = bound_law (machine g) (start_in g n m.body fuel) (λ l. weight g l) (counts g ok) (spends g ok) h rs
      runs in
      let b = first_weight Path in
      omega (arith, a, b)

  pub run_count : CountLaw (machine g) (start_in g n m.body fuel) (1 + fuel)
  run_count =
      let b = first_pay Path in
      count_up (machine g) (start_in g n m.body fuel) (1 + pay g (start_in {H = Path} g n m.body fuel)) (1 + fuel)
      (omega (arith, b)) (count_law (machine g) (start_in g n m.body fuel) (λ l. pay g l) (counts g ok) (pays g ok))

  pub entry_bound : ScheduleBound (numbered g) (start_in g n m.body fuel) (3 * fuel + 2)
  entry_bound ns w h =
      let a = schedule_bound (numbered g) (start_in g n m.body fuel) (named_counts g ok) (λ l. weight g l)
      (named_spends g ok) ns w h in
      let b = first_weight ℕ in
      omega (arith, a, b)

  pub revision_count : WorldCount (numbered g) (start_in g n m.body fuel) (1 + fuel)
  revision_count ns w h =
      by w
      (world_count (numbered g) (start_in g n m.body fuel) (named_counts g ok) (λ l. pay g l) (named_pays g ok) ns w h)
    where
      by : (w : World (Local ℕ))
          → CountsAtMost (numbered g) (start_in g n m.body fuel) (1 + pay g (start_in {H = ℕ} g n m.body fuel)) w
          → CountsAtMost (numbered g) (start_in g n m.body fuel) (1 + fuel) w
      by Both h = tt
      by (Listing v) h = let b = first_pay ℕ in omega (arith, h, b)
