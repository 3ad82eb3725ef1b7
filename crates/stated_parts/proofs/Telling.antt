-- The changes of a part, one after another from the last, and the end that the part tells.
use Rattle.std.proofs.Common.{◌≡◌, ℕ, zero, suc, ◌+◌, ◌<◌, ◌≤◌, Bool, true, false, ◌&&◌, List, [], ◌∷◌, ◌++◌, length, set, replicate, drop, get_or, Option, Some, None, option_map, is_some, sym, ap, ◌∙◌, arith}
use Rattle.std.proofs.lemmas.Bool.{true≢false}
use Rattle.std.proofs.lemmas.List.{append-nil, drop_all, drop_more}
use Rattle.std.specs.List.{slice_get}
use Rattle.rev_num.specs.Value.{kind_of, same_kind}
use Rattle.revision_calculus.specs.Program.{Setting}
use Rattle.revision_calculus.specs.State.{Location}
use Rattle.revision_calculus.specs.Kinded.{IsAccepted, LocationsAre, location_kinds}
use Rattle.stated_parts.specs.declared.ends.AloneWrite.{AloneWrite}
use Rattle.stated_parts.specs.declared.ends.AloneEnd.{AloneEnd}
use Rattle.stated_parts.specs.Ends.{writes_from}
use Rattle.revision_state.specs.Ends.{phase_of}
use Rattle.revision_machine.proofs.Paths.{some_inj}
use Rattle.trace_diagram.specs.declared.diagram.Change.{Change}
use Rattle.trace_diagram.specs.declared.diagram.Part.{Part}
use Rattle.audit_rules.specs.Parts.{change_at, changes_fit, is_changed, kind_fits, number_of, places, told_locations, told_phase}
use Rattle.audit_rules.proofs.PlacesApart.{places_apart}
use Rattle.audit_rules.proofs.OwnRuns.{are_length, same_length}
use Rattle.stated_parts.specs.Told.{AreSlots, Enters, TellsEnd, slots_from, write_to, written_in}
use Rattle.stated_parts.proofs.Slots.{fits_at, fits_more, free_slot, kind_at, no_changes, no_fit, number_within, set_slot, slot_at, slots_length, unfit_kind, unfit_twice, unfit_whole, used_slot, written_told}

module _ (s : Setting) (well : IsAccepted s.program) where
  kinds_length : length (places s) ≡ length (location_kinds s)
  kinds_length = same_length s well 0

  pub location_within : (ms : List Location) (p : List ℕ) (k : ℕ) → LocationsAre (location_kinds s) ms
      → Some k ≡ number_of (places s) p → k < length ms
  location_within ms p k h n =
      let within = number_within (places s) p k (sym n) in
      let count = are_length (location_kinds s) ms h in
      let same = kinds_length in
      omega arith

  pub slot_within : (slots : List (Option AloneWrite)) (cs : List Change) (p : List ℕ) (k : ℕ)
      → slots ≡ slots_from 0 (places s) cs → Some k ≡ number_of (places s) p → k < length slots
  slot_within slots cs p k is n =
      let within = number_within (places s) p k (sym n) in
      let count : length slots ≡ length (places s) = ap length is ∙ slots_length 0 (places s) cs in
      omega arith

  -- at first no change is entered
  pub none_entered : (ms : List Location) (cs : List Change) (slots : List (Option AloneWrite)) (count j : ℕ)
      → LocationsAre (location_kinds s) ms → count ≡ length ms → length cs ≤ j → slots ≡ replicate count None
      → (changes_fit (places s) (location_kinds s) (drop j cs) ≡ true) × (slots ≡ slots_from 0 (places s) (drop j cs))
  none_entered ms cs slots count j h all few is =
      let gone : drop j cs ≡ [] = drop_all j cs few in
      let many : count ≡ length (places s) = all ∙ are_length (location_kinds s) ms h ∙ sym kinds_length in (
        ap (changes_fit (places s) (location_kinds s)) gone,
        is ∙ ap (λ (n : ℕ). replicate {A = Option AloneWrite} n None) many ∙ sym (no_changes 0 (places s))
            ∙ ap (slots_from 0 (places s)) (sym gone),
      )

  module _ (cs : List Change) (j : ℕ) (c : Change) (less : j < length cs) (is : c ≡ get_or cs j c) where
    -- the changes from the number `j` on begin with that one
    front : drop j cs ≡ c ∷ drop (j + 1) cs
    front = drop_more cs j c less ∙ ap (λ v. v ∷ drop (j + 1) cs) (sym is)

    kind_is : (ms : List Location) (k : ℕ) (m : Location) (b : Bool) → LocationsAre (location_kinds s) ms
        → Some k ≡ number_of (places s) c.place → slice_get ms k ≡ Some m
        → b ≡ (same_kind (kind_of c.value) (kind_of m.base) && same_kind (kind_of c.root) (kind_of m.base))
        → kind_fits (places s) (location_kinds s) c ≡ b
    kind_is ms k m b h n at e =
        fits_at (places s) (location_kinds s) c k (kind_of m.base) (sym n) (kind_at (location_kinds s) ms k m h at)
        ∙ sym e

    -- a change of no place
    pub enters_unknown : (slots : List (Option AloneWrite)) → None ≡ number_of (places s) c.place
        → Enters s cs j slots false
    enters_unknown slots none =
        ap (changes_fit (places s) (location_kinds s)) front
        ∙ unfit_kind (places s) (location_kinds s) c (drop (j + 1) cs)
        (no_fit (places s) (location_kinds s) c (sym none))

    -- of another kind
    pub enters_other : (slots : List (Option AloneWrite)) (ms : List Location) (k : ℕ) (m : Location)
        → LocationsAre (location_kinds s) ms → Some k ≡ number_of (places s) c.place → slice_get ms k ≡ Some m
        → false ≡ (same_kind (kind_of c.value) (kind_of m.base) && same_kind (kind_of c.root) (kind_of m.base))
        → Enters s cs j slots false
    enters_other slots ms k m h n at e =
        ap (changes_fit (places s) (location_kinds s)) front
        ∙ unfit_kind (places s) (location_kinds s) c (drop (j + 1) cs) (kind_is ms k m false h n at e)

    slot_is : (slots : List (Option AloneWrite)) (k : ℕ) (o : Option AloneWrite)
        → slots ≡ slots_from 0 (places s) (drop (j + 1) cs) → Some k ≡ number_of (places s) c.place
        → slice_get slots k ≡ Some o
        → option_map (write_to (0 + k)) (change_at (drop (j + 1) cs) c.place) ≡ o
    slot_is slots k o so n e =
        some_inj (sym (slot_at 0 (places s) (drop (j + 1) cs) c.place k (sym n)) ∙ ap (λ l. slice_get l k) (sym so) ∙ e)

    -- of a place that another change has
    pub enters_twice : (slots new : List (Option AloneWrite)) (k : ℕ) (o : Option AloneWrite)
        → slots ≡ slots_from 0 (places s) (drop (j + 1) cs) → Some k ≡ number_of (places s) c.place
        → slice_get slots k ≡ Some o → is_some o ≡ true → Enters s cs j new false
    enters_twice slots new k None so n e taken = absurd (true≢false (sym taken))
    enters_twice slots new k (Some w) so n e taken =
        ap (changes_fit (places s) (location_kinds s)) front
        ∙ unfit_twice (places s) (location_kinds s) c (drop (j + 1) cs)
        (used_slot (0 + k) (drop (j + 1) cs) c.place w (slot_is slots k (Some w) so n e))

    -- one that fits
    pub enters_free : (slots new : List (Option AloneWrite)) (ms : List Location) (k : ℕ) (m : Location)
        (o : Option AloneWrite) (w : AloneWrite)
        → slots ≡ slots_from 0 (places s) (drop (j + 1) cs) → LocationsAre (location_kinds s) ms
        → Some k ≡ number_of (places s) c.place → slice_get ms k ≡ Some m
        → true ≡ (same_kind (kind_of c.value) (kind_of m.base) && same_kind (kind_of c.root) (kind_of m.base))
        → slice_get slots k ≡ Some o → is_some o ≡ false → w ≡ write_to k c → new ≡ set slots k (Some w)
        → Enters s cs j new true
    enters_free slots new ms k m (Some x) w so h n at e stands free made pushed = absurd (true≢false free)
    enters_free slots new ms k m None w so h n at e stands free made pushed =
        let rest : List Change = drop (j + 1) cs in
        let kind : kind_fits (places s) (location_kinds s) c ≡ true = kind_is ms k m true h n at e in
        let alone : is_changed rest c.place ≡ false =
        free_slot (0 + k) rest c.place (slot_is slots k None so n stands) in
        let same : k ≡ 0 + k = omega arith in
        let write : w ≡ write_to (0 + k) c = made ∙ ap (λ i. write_to i c) same in
        let put : set slots k (Some w) ≡ set (slots_from 0 (places s) rest) k (Some (write_to (0 + k) c)) =
        λ i. set (so i) k (Some (write i)) in (
          ap (changes_fit (places s) (location_kinds s)) front
              ∙ fits_more (places s) (location_kinds s) c rest kind alone,
          pushed ∙ put ∙ sym (set_slot 0 (places s) c rest k (places_apart s well) (sym n))
              ∙ ap (slots_from 0 (places s)) (sym front),
        )

-- ---- the end that a part tells

pub tells_end : (s : Setting) → IsAccepted s.program
    → (p : Part) (e : AloneEnd) (cs : List Change) (slots : List (Option AloneWrite)) → cs ≡ p.written
    → AreSlots s cs (Some slots) → e.written.items ≡ written_in slots → e.text.items ≡ p.text → e.fuel ≡ p.fuel
    → told_phase (places s) p.end ≡ Some (phase_of e.trap) → TellsEnd s p e
tells_end s well p e cs slots same are ws text fuel phase = record {
  written = ws ∙ ap written_in are.1 ∙ written_told 0 (places s) (location_kinds s) cs (kinds_length s well)
      ∙ ap (λ l. writes_from 0 (told_locations (places s) (location_kinds s) l)) same;
  text = text;
  fuel = fuel;
  phase = phase;
  fits = ap (changes_fit (places s) (location_kinds s)) (sym same) ∙ are.0;
}

-- ---- the writes in the slots

pub written_all : (slots : List (Option AloneWrite)) (n : ℕ) (out whole : List AloneWrite) → length slots ≤ n
    → out ++ written_in (drop n slots) ≡ whole → out ≡ whole
written_all slots n out whole few so_far =
    sym (append-nil out) ∙ ap (λ l. out ++ written_in l) (sym (drop_all n slots few)) ∙ so_far

-- ---- all changes, from the last to the first

-- those behind a change of which it is known
pub behind_it : (s : Setting) (slots : List (Option AloneWrite)) (cs : List Change) (i j : ℕ) → i ≡ j + 1
    → slots ≡ slots_from 0 (places s) (drop i cs) → slots ≡ slots_from 0 (places s) (drop (j + 1) cs)
behind_it s slots cs i j is e = e ∙ ap (λ n. slots_from 0 (places s) (drop n cs)) is

pub fit_so_far : (s : Setting) (cs : List Change) (i j : ℕ) → i ≡ j + 1
    → changes_fit (places s) (location_kinds s) (drop j cs)
    ≡ changes_fit (places s) (location_kinds s) (drop (j + 1) cs)
    → changes_fit (places s) (location_kinds s) (drop i cs) ≡ true
    → changes_fit (places s) (location_kinds s) (drop j cs) ≡ true
fit_so_far s cs i j is same fit = same ∙ ap (λ n. changes_fit (places s) (location_kinds s) (drop n cs)) (sym is) ∙ fit

pub all_entered : (s : Setting) (cs : List Change) (slots : List (Option AloneWrite)) (j : ℕ) → j ≤ 0
    → changes_fit (places s) (location_kinds s) (drop j cs) ≡ true → slots ≡ slots_from 0 (places s) (drop j cs)
    → AreSlots s cs (Some slots)
all_entered s cs slots zero none fit is = (fit, is)
all_entered s cs slots (suc j) none fit is = absurd (omega arith)

pub one_unfit : (s : Setting) (cs : List Change) (j : ℕ) → changes_fit (places s) (location_kinds s) (drop j cs) ≡ false
    → AreSlots s cs None
one_unfit s cs j unfit = unfit_whole (places s) (location_kinds s) cs j unfit
