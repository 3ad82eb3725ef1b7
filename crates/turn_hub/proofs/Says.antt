-- What a view says is what the value was.
use Rattle.std.proofs.Common.{◌≡◌, ℕ, zero, suc, Bool, true, false, cond, List, [], ◌∷◌, refl, sym, ap, ◌∙◌, Some}
use Rattle.revision_machine.specs.Numbered.{at_number, put_number}
use Rattle.revision_machine.proofs.Paths.{some_inj}
use Rattle.revision_machine.proofs.Numbers.{none_some}
use Rattle.hub_core.specs.declared.status.Status.{Status}
use Rattle.hub_core.specs.declared.status.Status.TheVariants.{Ready, Out, Waiting, Over, Gone}
use Rattle.hub_core.specs.HubMachine.{HubMachine}
use Rattle.hub_core.specs.Found.{ended_here, is_ready, all_over}
use Rattle.hub_core.specs.declared.view.View.{View}
use Rattle.turn_hub.specs.declared.answers.JoinAnswer.{JoinAnswer}
use Rattle.turn_hub.specs.declared.answers.JoinAnswer.TheVariants as join
use Rattle.hub_core.specs.declared.view.Said.{Said}
use Rattle.hub_core.specs.declared.view.Said.TheVariants as mark
use Rattle.hub_core.specs.Views.{ended_said, ready_said, all_said}
use Rattle.hub_core.specs.Rule.{said_of, says}
use Rattle.turn_hub.specs.Answers.{HasCome, TookIn, HasMet, JoinSays, TakesIn}

module _ {L R A E : Type 0} (d : HubMachine L R A E) (ends : E → L → Type 0) where
  pub says_some : (slots : List (Status R A E)) (k : ℕ) (s : Status R A E) → at_number slots k ≡ Some s
      → at_number (says d ends slots) k ≡ Some (said_of d ends s)
  says_some [] k s e = none_some e
  says_some (x ∷ slots) zero s e = ap (λ o. Some (said_of d ends o)) (some_inj e)
  says_some (x ∷ slots) (suc k) s e = says_some slots k s e

  ended_by : (b : Bool) → ended_said (Some (cond b mark.Trapped mark.Done)) ≡ true
  ended_by true = refl
  ended_by false = refl

  pub says_ended : (slots : List (Status R A E)) (k : ℕ)
      → ended_said (at_number (says d ends slots) k) ≡ ended_here (at_number slots k)
  says_ended [] k = refl
  says_ended (Ready r ∷ slots) zero = refl
  says_ended (Out ∷ slots) zero = refl
  says_ended (Waiting a ∷ slots) zero = refl
  says_ended (Over e ∷ slots) zero = ended_by (d.trapped e)
  says_ended (Gone ∷ slots) zero = refl
  says_ended (x ∷ slots) (suc k) = says_ended slots k

  over_ready : (said : List Said) (b : Bool) → ready_said said (Some (cond b mark.Trapped mark.Done)) ≡ false
  over_ready said true = refl
  over_ready said false = refl

  ready_of : (all slots : List (Status R A E)) (k : ℕ)
      → ready_said (says d ends all) (at_number (says d ends slots) k) ≡ is_ready d all (at_number slots k)
  ready_of all [] k = refl
  ready_of all (Ready r ∷ slots) zero = refl
  ready_of all (Out ∷ slots) zero = refl
  ready_of all (Waiting a ∷ slots) zero = says_ended all (d.on a)
  ready_of all (Over e ∷ slots) zero = over_ready (says d ends all) (d.trapped e)
  ready_of all (Gone ∷ slots) zero = refl
  ready_of all (x ∷ slots) (suc k) = ready_of all slots k

  pub says_ready : (slots : List (Status R A E)) (k : ℕ)
      → ready_said (says d ends slots) (at_number (says d ends slots) k) ≡ is_ready d slots (at_number slots k)
  says_ready slots k = ready_of slots slots k

  all_by : (b : Bool) (said : List Said) → all_said (cond b mark.Trapped mark.Done ∷ said) ≡ all_said said
  all_by true said = refl
  all_by false said = refl

  pub says_all : (slots : List (Status R A E)) → all_said (says d ends slots) ≡ all_over slots
  says_all [] = refl
  says_all (Ready r ∷ slots) = refl
  says_all (Out ∷ slots) = refl
  says_all (Waiting a ∷ slots) = refl
  says_all (Over e ∷ slots) = all_by (d.trapped e) (says d ends slots) ∙ says_all slots
  says_all (Gone ∷ slots) = says_all slots

  pub where_retry : (said : List Said) (slots : List (Status R A E)) (n : ℕ) (a : A) → said ≡ says d ends slots
      → at_number slots n ≡ Some (Waiting a) → is_ready d slots (at_number slots n) ≡ true
      → (at_number said n ≡ Some (mark.Waits (d.on a))) × (ended_said (at_number said (d.on a)) ≡ true)
  where_retry said slots n a e is ready = (
    ap (λ z. at_number z n) e ∙ says_some slots n (Waiting a) is,
    ap (λ z. ended_said (at_number z (d.on a))) e ∙ says_ended slots (d.on a)
        ∙ (sym (ap (is_ready d slots) is) ∙ ready),
  )

  pub where_run : (said : List Said) (slots : List (Status R A E)) (n : ℕ) (s : Status R A E) → said ≡ says d ends slots
      → at_number slots n ≡ Some s → at_number said n ≡ Some (said_of d ends s)
  where_run said slots n s e is = ap (λ z. at_number z n) e ∙ says_some slots n s is

  pub where_waits : (said : List Said) (slots : List (Status R A E)) (m : ℕ) → said ≡ says d ends slots
      → ended_here (at_number slots m) ≡ false → ended_said (at_number said m) ≡ false
  where_waits said slots m e h = ap (λ z. ended_said (at_number z m)) e ∙ says_ended slots m ∙ h

  abbrev V : Type 0
  V = View L

  pub says_put : (slots : List (Status R A E)) (k : ℕ) (x : Status R A E)
      → says d ends (put_number slots k x) ≡ put_number (says d ends slots) k (said_of d ends x)
  says_put [] k x = refl
  says_put (y ∷ slots) zero x = refl
  says_put (y ∷ slots) (suc k) x = ap (λ z. said_of d ends y ∷ z) (says_put slots k x)

  module _ {C S : Type 0} (claimed : C → A → E → Type 0) (stopped : S → A → E → Type 0) (group : C → List ℕ)
      (halted : S → List ℕ) where
    pub takes_says : (v x : V) (slots : List (Status R A E)) (k : ℕ) (a : A) (e : E) (r : JoinAnswer A C S)
        → TakesIn d ends claimed stopped group halted a e r → TookIn d ends v x k (d.joined a e)
        → HasMet d ends x k a e → d.joiner_group a ≡ x.group → x.said ≡ says d ends slots
        → at_number slots (d.on a) ≡ Some (Over e) → JoinSays d ends claimed stopped group halted v x k a r
    takes_says v x slots k a e (join.Claimed c) h s met g m is = (
      where_run x.said slots (d.on a) (Over e) m is ∙ ap (λ b. Some (cond b mark.Trapped mark.Done)) h.1,
      h.2 ∙ g,
      (e, h.0, h.1, met, s),
    )
    takes_says v x slots k a e join.Waits h s met g m is = absurd h
    takes_says v x slots k a e (join.Twice b) h s met g m is = absurd h
    takes_says v x slots k a e (join.Trapped c) h s met g m is = (
      where_run x.said slots (d.on a) (Over e) m is ∙ ap (λ b. Some (cond b mark.Trapped mark.Done)) h.1,
      h.2,
      h.3 ∙ g,
      (e, h.0, h.1, met, s),
    )
    takes_says v x slots k a e (join.Dropped b) h s met g m is = (
      h.0,
      where_run x.said slots (d.on a) (Over e) m is ∙ ap (λ c. Some (cond c mark.Trapped mark.Done)) h.1,
      h.2,
      (e, h.1, met, s),
    )
    takes_says v x slots k a e (join.OutOfMemory b) h s met g m is = absurd h

    pub come_says : (a : A) (e : E) (r : JoinAnswer A C S) → TakesIn d ends claimed stopped group halted a e r
        → HasCome d ends claimed stopped group halted r
    come_says a e (join.Claimed c) h = tt
    come_says a e join.Waits h = h
    come_says a e (join.Twice b) h = tt
    come_says a e (join.Trapped c) h = tt
    come_says a e (join.Dropped b) h = tt
    come_says a e (join.OutOfMemory b) h = tt
