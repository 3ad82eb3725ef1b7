-- Answers of TurnHub::take_out_desk: the slot has the value, which the exchange gives.
use Rattle.std.proofs.Common.{true, ◌≡◌, [], ◌∷◌, refl, ap, ◌∙◌, subst}
use Rattle.hub_core.specs.declared.desk.DeskSlot.TheVariants.{Home}
use Rattle.hub_core.specs.TallySteps.{has_desk}
use Rattle.hub_core.proofs.Outs.{head_out, same_out, put_in}
use Rattle.turn_hub.proofs.hub.TurnHub.take_out_desk.Goals as goal

pub exchange-requires : goal.exchange-requires
exchange-requires g c =
    let home = c.requires.home in (c.requires.own, (Home home.0, head_out _ _ home.1))

pub into_home-requires : goal.into_home-requires
into_home-requires g c =
    subst (λ s. has_desk s ≡ true) (same_out _ _ _ c.requires.home.1 c.exchange.ensures.2) refl

pub returns-clause-own : goal.returns-clause-own
returns-clause-own g c = (c.exchange.ensures.0, put_in c.exchange.ensures.3 c.requires.home.1)

pub returns-clause-view : goal.returns-clause-view
returns-clause-view g c = ap (λ m. m.0) c.exchange.ensures.3

pub returns-clause-slot : goal.returns-clause-slot
returns-clause-slot g c =
    c.requires.home.1
    ∙ ap (λ s. (0, s) ∷ []) (same_out _ _ _ c.requires.home.1 c.exchange.ensures.2 ∙ c.into_home.ensures)
