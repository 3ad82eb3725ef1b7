-- What two steps in both orders tell.
use Rattle.std.specs.Prelude.{◌≡◌, ◌≢◌, ◌⊎◌, Option, Some, None, MatchOption}
use Rattle.rev_num.specs.Path.{Path}
use Rattle.revision_machine.specs.Machine.{Machine, Global, Twice, step}
use Rattle.revision_machine.specs.Laws.{Follows}
use Rattle.revision_machine.specs.declared.two_orders.BothOrders.{BothOrders}
use Rattle.revision_machine.specs.declared.two_orders.BothOrders.TheVariants as two
use Rattle.revision_machine.specs.declared.state.GlobalState.{GlobalState}
use Rattle.revision_machine.specs.States.{global_of}
use Rattle.revision_machine.specs.Rules.{Rules, machine_of, IsWithin}

module _ (M : Machine) where
  -- p and then q lead from g to h
  pub record After (g : Global M.Local) (p q : Path) (h : Global M.Local) : Type 0 where
    pub middle : Global M.Local
    pub first : step M g p ≡ Some middle
    pub second : Follows M middle q h

  -- both orders of p and q lead from g to h
  pub record BothLead (g : Global M.Local) (p q : Path) (h : Global M.Local) : Type 0 where
    pub apart : p ≢ q
    pub one : After g p q h
    pub other : After g q p h

  -- the paths are equal, or one of them cannot step
  abbrev pub IsNoPair : Global M.Local → Path → Path → Type 0
  IsNoPair g p q = (p ≡ q) ⊎ ((step M g p ≡ None) ⊎ (step M g q ≡ None))

  abbrev pub TellsOrders : BothOrders M.Local → Global M.Local → Path → Path → Type 0
  TellsOrders (two.Same left right) g p q =
      BothLead g p q (global_of left) × (global_of left ≢ Twice) × (global_of left ≡ global_of right)
  TellsOrders two.Twice g p q = BothLead g p q Twice
  TellsOrders two.NoPair g p q = IsNoPair g p q

  -- the answer tells this, and it comes wherever this holds
  pub record Orders (answer : BothOrders M.Local) (g : Global M.Local) (p q : Path) : Type 0 where
    pub tells : TellsOrders answer g p q
    pub twice : BothLead g p q Twice → answer ≡ two.Twice
    pub no_pair : IsNoPair g p q → answer ≡ two.NoPair

  -- the state after a step of p, or none where p cannot step
  abbrev pub SteppedTo : Global M.Local → Path → Option (GlobalState M.Local) → Type 0
  SteppedTo g p None = step M g p ≡ None
  SteppedTo g p (Some s) = step M g p ≡ Some (global_of s)

-- both ends are this state
abbrev pub IsBoth : {L : Type 0} → BothOrders L → Global L → Type 0
IsBoth (two.Same left right) g = (global_of left ≡ g) × (global_of right ≡ g) × (g ≢ Twice)
IsBoth two.Twice g = g ≡ Twice
IsBoth two.NoPair g = ⊥

module _ {L : Type 0} (rules : Rules L) where
  abbrev pub StepsTo : GlobalState L → Path → Option (GlobalState L) → Type 0
  StepsTo s p r = SteppedTo (machine_of rules) (global_of s) p r

  -- the state after the step is reached too
  abbrev pub StaysWithin : GlobalState L → Path → Option (GlobalState L) → Type 0
  StaysWithin s p r =
      MatchOption r (step (machine_of rules) (global_of s) p ≡ None) (λ t. IsWithin rules (global_of t))

  -- what the answer tells of the states after steps of p and q in both orders
  abbrev pub IsDiamond : GlobalState L → Path → Path → BothOrders L → Type 0
  IsDiamond s p q d = Orders (machine_of rules) d (global_of s) p q
