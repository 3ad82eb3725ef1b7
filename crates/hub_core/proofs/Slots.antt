-- Where all is over, each revision has ended.
use Rattle.std.proofs.Common.{◌≡◌, ℕ, zero, suc, true, false, List, [], ◌∷◌, Some, subst}
use Rattle.revision_machine.specs.Numbered.{at_number}
use Rattle.revision_machine.proofs.Paths.{some_inj}
use Rattle.revision_machine.proofs.Numbers.{none_some}
use Rattle.hub_core.specs.declared.status.Status.{Status}
use Rattle.hub_core.specs.declared.status.Status.TheVariants.{Ready, Out, Waiting, Over, Gone}
use Rattle.hub_core.specs.Found.{all_over}

pub no_more : {P : Type 0} → false ≡ true → P
no_more e = absurd cc

module _ {R A E : Type 0} where
  -- where all is over, each status is
  abbrev pub IsEnded : Status R A E → Type 0
  IsEnded (Ready r) = ⊥
  IsEnded Out = ⊥
  IsEnded (Waiting a) = ⊥
  IsEnded (Over e) = Unit {0}
  IsEnded Gone = Unit {0}

  pub all_ended : (slots : List (Status R A E)) (n : ℕ) (s : Status R A E) → all_over slots ≡ true
      → at_number slots n ≡ Some s → IsEnded s
  all_ended [] n s o e = none_some e
  all_ended (Ready r ∷ slots) n s o e = no_more o
  all_ended (Out ∷ slots) n s o e = no_more o
  all_ended (Waiting a ∷ slots) n s o e = no_more o
  all_ended (Over i ∷ slots) zero s o e = subst IsEnded (some_inj e) tt
  all_ended (Over i ∷ slots) (suc n) s o e = all_ended slots n s o e
  all_ended (Gone ∷ slots) zero s o e = subst IsEnded (some_inj e) tt
  all_ended (Gone ∷ slots) (suc n) s o e = all_ended slots n s o e
