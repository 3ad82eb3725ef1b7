-- Every step of certified code uses up what it costs, in every state.
use Rattle.std.proofs.Common.{◌≡◌, ℕ, suc, ◌+◌, ◌*◌, ◌≤◌, Bool, false, cond, List, ◌∷◌, length, Some, refl, ap, arith, true≢false}
use Rattle.std.specs.Prelude.{slice_get}
use Rattle.rev_code.specs.declared.code.CodeBlock.{CodeBlock}
use Rattle.rev_code.specs.declared.code.Instr.{Instr}
use Rattle.rev_code.specs.declared.code.Instr.TheVariants as i
use Rattle.rev_code.specs.State.{State, Frame, Setting}
use Rattle.rev_code.specs.Step.{Comes, goes, traps, forks, joins, ends, stuck, step}
use Rattle.code_rules.specs.Pass.{Note, is_charge}
use Rattle.code_soundness.specs.Prices.{AllCertified, Prices, Bears, place_price, place, below, total}
use Rattle.code_soundness.specs.Paid.{UsesUp}
use Rattle.code_soundness.proofs.Costing.{Plain, on, leap, charged, spent, begun, some_left}
use Rattle.code_soundness.proofs.Ways as w
use Rattle.code_soundness.proofs.Ways.{IsPlain, Way, Ways, ways}

plain_price : (p : Prices) (x : Instr) → is_charge (Some x) ≡ false → (d : Bool)
    → place_price p (Some x) d ≡ p.other + cond d p.paid 0
plain_price p (i.Charge line) h d = absurd (true≢false h)
plain_price p i.Return h d = refl
plain_price p _ h d = refl

module _ {H : Type 0} (s : Setting H) (notes : ℕ → ℕ → Note) (certified : AllCertified s.code notes) (p : Prices)
    (most : ℕ) (bears : Bears p most)
    (short : (n : ℕ) (b : CodeBlock) → slice_get s.code.blocks n ≡ Some b → length b.instrs ≤ most) where
  -- what a frame costs at a place, with what lies below
  abbrev cost : ℕ → ℕ → List (Frame H) → ℕ → ℕ
  cost n at fs fuel = p.fuel * fuel + place s.code notes p n at + below s.code notes p fs

  plain : (x : Instr) → IsPlain x → (c : State H) (b : CodeBlock) (is : slice_get s.code.blocks c.block ≡ Some b)
      → Plain s.code notes certified p most bears short c.block b is x
  plain x pl c b is = (pl.0, plain_price p x pl.1)

  uses_way : (c : State H) (block at : ℕ) (fs : List (Frame H)) (fuel : ℕ) → Way s c block at fs fuel
      → cost block at fs fuel + p.each ≤ total s.code notes p c
  uses_way c block at fs fuel (w.ahead b x is here pl f e1 e2 e3 e4) =
      let a = on s.code notes certified p most bears short c.block b is c.at x here (plain x pl c b is) f in
      let q : cost block at fs fuel ≡ cost c.block (suc c.at) c.below c.fuel =
      (λ j. cost (e1 j) (e2 j) (e3 j) (e4 j)) in
      omega (arith, a, q)
  uses_way c block at fs fuel (w.leapt b x is here pl tg e1 e3 e4) =
      let a = leap s.code notes certified p most bears short c.block b is c.at at x here (plain x pl c b is) tg in
      let q : cost block at fs fuel ≡ cost c.block at c.below c.fuel = (λ j. cost (e1 j) at (e3 j) (e4 j)) in
      omega (arith, a, q)
  uses_way c block at fs fuel (w.charged b line is here e1 e2 e3 e4) =
      let a = charged s.code notes certified p most bears short c.block b is c.at line here in
      let q : cost block at fs fuel ≡ cost c.block (suc c.at) c.below fuel = (λ j. cost (e1 j) (e2 j) (e3 j) fuel) in
      let f : p.fuel * c.fuel ≡ p.fuel * suc fuel = ap (λ z. p.fuel * z) e4 in
      let g : p.fuel * suc fuel ≡ p.fuel + p.fuel * fuel = grind (arith) in
      omega (arith, a, q, f, g)
  uses_way c block at fs fuel (w.called b n y locals is here other e1 e2 e3 e4) =
      let a = spent s.code notes certified p most bears short c.block b is c.at (i.Call n) here refl refl (λ d. refl)
      (λ d. refl) in
      let v = begun s.code notes certified p most bears short n y other in
      let u = bears.call (length y.instrs) (short n y other) in
      let q :
      cost block at fs fuel ≡ cost n 0 (record { block = c.block; at = suc c.at; locals = locals } ∷ c.below) c.fuel =
      (λ j. cost (e1 j) (e2 j) (e3 j) (e4 j)) in
      omega (arith, a, v, u, q)
  uses_way c block at fs fuel (w.returned b x f is here e e1 e2 e4) =
      let a = some_left s.code notes certified p most bears short c.block b is c.at x here in
      let q : below s.code notes p c.below ≡ place s.code notes p f.block f.at + below s.code notes p fs =
      ap (below s.code notes p) e in
      let r : cost block at fs fuel ≡ cost f.block f.at fs c.fuel = (λ j. cost (e1 j) (e2 j) fs (e4 j)) in
      omega (arith, a, q, r)

  uses_ways : (c : State H) (o : Comes H) → Ways s c o → UsesUp s.code notes p c o
  uses_ways c (goes c') h = uses_way c c'.block c'.at c'.below c'.fuel h
  uses_ways c (forks c' n args) (b, y, is, here, other) = (
    spent s.code notes certified p most bears short c.block b is c.at (i.Fork n) here refl refl (λ d. refl)
        (λ d. refl),
    (length y.instrs, begun s.code notes certified p most bears short n y other),
  )
  uses_ways c (joins c' try h) (b, x, is, here, pl, f) =
      on s.code notes certified p most bears short c.block b is c.at x here (plain x pl c b is) f
  uses_ways c (traps c' e) h = tt
  uses_ways c (ends c' v) h = tt
  uses_ways c stuck h = tt

  pub uses : (c : State H) → UsesUp s.code notes p c (step s c)
  uses c = uses_ways c (step s c) (ways s c)
