-- The value with which a hub opens.
use Rattle.std.specs.Prelude.{◌≡◌, ◌<◌, false, [], ◌∷◌, Some}
use Rattle.hub_core.specs.declared.status.Status.TheVariants.{Ready}
use Rattle.hub_core.specs.declared.state.HubState.TheVariants.{All}
use Rattle.hub_core.specs.declared.desk.Desk.{Desk}
use Rattle.hub_core.specs.Chains.{HasOne}

module _ {R A E : Type 0} where
  -- it has its first revision alone, which is ready
  pub record IsFirstDesk (desk : Desk R A E) (first : R) : Type 0 where
    pub entries : desk.journal.entries.items ≡ []
    pub state : desk.state ≡ All
    pub room : 0 < desk.journal.limit
    pub lent : desk.lent ≡ 0
    pub strays : desk.strays ≡ false
    pub records : desk.records.list.items ≡ Some (Ready first) ∷ []
    pub queue : HasOne desk.records.queue
