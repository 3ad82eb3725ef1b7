-- A hub at its opening keeps the rule of the tally.
use Rattle.std.proofs.Common.{◌≡◌, ℕ, zero, suc, ◌<◌, ◌⊎◌, inr, true, false, List, [], ◌∷◌, length, sym, refl, ap, ◌∙◌, subst, arith, Option, Some, None}
use mathlib.Core.Option as opt
use lib.ListN.{get_elem?}
use Rattle.atomic_table.specs.Table.{opening}
use Rattle.hub_core.specs.declared.status.Status.{Status}
use Rattle.hub_core.specs.declared.status.Status.TheVariants.{Ready}
use Rattle.hub_core.specs.declared.state.HubState.TheVariants.{All}
use Rattle.hub_core.specs.HubMachine.{HubMachine, numbered, values}
use Rattle.hub_core.specs.Counts.{times}
use Rattle.hub_core.specs.Chains.{HasOne}
use Rattle.hub_core.specs.Queued.{Queued}
use Rattle.hub_core.specs.Views.{opens}
use Rattle.hub_core.specs.Rule.{IsOfGroup}
use Rattle.std.specs.Global.{Box}
use Rattle.hub_core.specs.declared.desk.Desk.{Desk}
use Rattle.hub_core.specs.declared.desk.DeskSlot.TheVariants.{Home}
use Rattle.hub_core.specs.declared.sight.Sight.{Sight}
use Rattle.hub_core.specs.Tally.{pairs, records_of, queue_of, sight, record_at, IsLone, Shadows, IsQueued, AreTracked, SeatKnows, Tallied}
use Rattle.revision_machine.specs.Numbered.{at_number}
use Rattle.revision_machine.proofs.Paths.{some_inj}
use Rattle.revision_machine.proofs.Numbers.{none_some}
use Rattle.hub_core.proofs.Hub as hub
use Rattle.hub_core.proofs.Begins.{one_ready, queue_one}

module _ {L R A E : Type 0} (d : HubMachine L R A E) (ends : E → L → Type 0) where
  abbrev V : Type 0
  V = Sight L

  abbrev first_of : ℕ → R → V
  first_of seats c = sight (opens seats (Some (d.runs c)) (d.runner_group c)) [] [] 0

  one_view : (v w : V) (i : ℕ) → get_elem? (v ∷ []) i ≡ opt.some w → v ≡ w
  one_view v w zero e = opt.some-injective v w e
  one_view v w (suc i) e = absurd (opt.some-ne-none w (sym e))

  abbrev one_of : R → List (Status R A E)
  one_of c = Ready c ∷ []

  abbrev record_of : R → List (Option (Status R A E))
  record_of c = Some (Ready c) ∷ []

  one_record : (c : R) → Shadows (record_of c) (one_of c) []
  one_record c = record { recorded = there; others = none }
    where
      there : (j : ℕ) (x : Status R A E) → record_at (record_of c) j ≡ Some x
          → (at_number (one_of c) j ≡ Some x) × (times j [] ≡ 0)
      there zero x e = (e, refl)
      there (suc j) x e = none_some e

      none : (j : ℕ) → record_at (record_of c) j ≡ None
          → IsLone (one_of c) [] j
          ⊎ ((at_number (one_of c) j ≡ None) × (times j [] ≡ 0))
      none zero e = none_some (sym e)
      none (suc j) e = inr (refl, refl)

  queued : (c : R) (records : List (Option (Status R A E))) (slots : List (Status R A E)) (desk : Desk R A E)
      → length records ≡ length slots → Queued d slots (queue_of desk) → IsQueued d records slots (queue_of desk)
  queued c records slots desk long h = record {
    ready = h.ready;
    waits = h.waits;
    lists = h.lists;
    ready_are = h.ready_are;
    waits_are = h.waits_are;
    links = h.links ∙ sym long;
    reach = let r = h.reach in omega arith;
    count = h.count;
  }

  -- the words of the table at the opening: nobody has the turn, and there is one revision
  abbrev pub first_words : List ℕ
  first_words = 0 ∷ 0 ∷ 0 ∷ 0 ∷ 0 ∷ 0 ∷ 0 ∷ 0 ∷ 0 ∷ 0 ∷ 0 ∷ 0 ∷ 0 ∷ 0 ∷ 0 ∷ 0 ∷ 2 ∷ []

  pub opened : (c : R) (seats : ℕ) (box : Box (Desk R A E)) → 0 < seats → box.value.journal.entries.items ≡ []
      → box.value.state ≡ All → 0 < box.value.journal.limit → box.value.lent ≡ 0 → box.value.strays ≡ false
      → records_of box.value ≡ Some (Ready c) ∷ [] → HasOne (queue_of box.value)
      → Tallied d ends (first_of seats c) (opening first_words (Home box ∷ []) (first_of seats c))
  opened c seats box some_seat entries free room lent strays records one = record {
    items = [];
    log = [];
    forkers = 0 ∷ [];
    slots = Ready c ∷ [];
    out = [];
    lone = [];
    over = 0;
    state = All;
    limit = box.value.journal.limit;
    log_is = refl;
    forkers_are = refl;
    sound = hub.opens (numbered d) (values d ends) (d.runs c) c refl;
    outs = one_ready d ends c;
    wide = refl;
    long = refl;
    word = omega arith;
    small = omega arith;
    tally = omega arith;
    roomy = omega arith;
    all = omega arith;
    home = λ _. (
      box,
      refl,
      record {
        entries = ap pairs entries;
        limit_is = refl;
        lent_is = lent;
        shadows = subst (λ rs. Shadows rs (Ready c ∷ []) []) (sym records) (one_record c);
        queued = queued c (records_of box.value) (Ready c ∷ []) box.value (ap length records)
            (queue_one d c (queue_of box.value) one);
        tracked = λ _. tracked;
        strayed = λ e. let clash : true ≡ false = sym e ∙ strays in absurd cc;
        grouped = λ j x e. grouped j x (subst (λ rs. record_at rs j ≡ Some x) records e);
      },
      free,
    );
    over_is = λ o. absurd (omega arith);
    seats = λ i v e. subst
        (SeatKnows d ends (Some (d.runs c)) (d.runner_group c) [] [] (0 ∷ []) [] [] 0 box.value.journal.limit All)
        (one_view (first_of seats c) v i e)
        record {
          begun = λ _. (refl, refl);
          idle = λ p. absurd (omega arith);
          holds = λ o. absurd (omega arith);
          fresh = λ k at p. absurd p;
          behind = tt;
          saw = λ o. absurd (omega arith);
          halted = λ n. absurd (n refl);
          kept = λ n. omega arith;
          made = λ n i k h. absurd h;
          within = omega arith;
        };
    once = λ n. omega arith;
    single = λ n. omega arith;
    kept_once = λ n. omega arith;
    kept_out = λ n. omega arith;
    made_once = λ n. omega arith;
    known = λ n. absurd (n refl);
  }
    where
      tracked : AreTracked d (records_of box.value) (Ready c ∷ [])
      tracked zero a e = absurd cc
      tracked (suc j) a e = none_some e

      grouped : (j : ℕ) (x : Status R A E) → record_at (Some (Ready c) ∷ []) j ≡ Some x
          → IsOfGroup d ends (d.runner_group c) x
      grouped zero x e = subst (IsOfGroup d ends (d.runner_group c)) (some_inj e) refl
      grouped (suc j) x e = none_some e
