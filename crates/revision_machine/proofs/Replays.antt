-- What holds along a replay by numbers.
use Rattle.std.proofs.Common.{◌≡◌, ℕ, List, [], ◌∷◌, ◌++◌, Some, sym, subst}
use Rattle.revision_machine.specs.Numbered.{Numbered, Entries, World, Both, Listing, leg, Replays}
use Rattle.revision_machine.proofs.Lists.{none_some}

module _ (N : Numbered) where
  -- one schedule after another
  pub replays_on : (ns ms : List ℕ) (u v w : World N.Local) → Replays N u ns v → Replays N v ms w
      → Replays N u (ns ++ ms) w
  replays_on [] ms u v w one two = subst (λ x. Replays N x ms w) (sym one) two
  replays_on (n ∷ ns) ms u v w one two = (one.0, one.1, replays_on ns ms one.0 v w one.2 two)

  -- what each leg keeps, a replay keeps
  module _ (P : World N.Local → Type 0)
      (each : (w : Entries N.Local) (n : ℕ) (u : World N.Local) → P (Listing w) → leg N (Listing w) n ≡ Some u
      → P u) where
    pub replays_keep : (ns : List ℕ) (v w : World N.Local) → P v → Replays N v ns w → P w
    replays_keep [] v w p h = subst P h p
    replays_keep (n ∷ ns) Both w p h = none_some h.1
    replays_keep (n ∷ ns) (Listing v) w p h = replays_keep ns h.0 w (each v n h.0 p h.1) h.2
