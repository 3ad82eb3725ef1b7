-- Where nothing is ready: whether something is unfinished.
use Rattle.std.specs.Prelude.{◌≡◌, ◌≢◌, ℕ}
use Rattle.hub_core.specs.HubMachine.{HubMachine}
use Rattle.hub_core.specs.declared.sight.Sight.{Sight}
use Rattle.turn_hub.specs.Answers.{IsIdleNow, IsFinished}

abbrev pub NoneSays :
    {L R A E : Type 0} → HubMachine L R A E → (E → L → Type 0) → Sight L → Sight L → ℕ → Type 0
NoneSays d ends v w unfinished =
    (unfinished ≢ 0 → IsIdleNow d ends v.seat w.seat) × (unfinished ≡ 0 → IsFinished d ends v.seat w.seat)
