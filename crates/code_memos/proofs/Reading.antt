-- What a leg reads is the same whatever a handle is, and so is what is left at its end.
use Rattle.std.proofs.Common.{◌≡◌, ◌∙◌, ℕ, zero, suc, ℤ, pos, negsuc, List, [], ◌∷◌, ◌++◌, map, Option, Some, None, refl, sym, ap}
use Rattle.std.proofs.lemmas.List.{map-append}
use Rattle.std.specs.Prelude.{slice_get}
use Rattle.rev_code.specs.declared.code.Code.{Code}
use Rattle.rev_code.specs.declared.code.CodeBlock.{CodeBlock}
use Rattle.rev_code.specs.declared.code.Instr.{Instr}
use Rattle.rev_code.specs.declared.code.Instr.TheVariants as i
use Rattle.rev_code.specs.Words.{Word, int}
use Rattle.rev_code.specs.State.{Location, State, Setting}
use Rattle.rev_code.specs.Variables.{Place, scalar, array, cell_at}
use Rattle.rev_code.specs.Step.{Comes, goes, traps, forks, joins, ends, stuck, step, reach}
use Rattle.rev_code.specs.Funs.{setting, values}
use Rattle.code_machine_laws.specs.Reads.{Read, if_unwritten, of_location, of_place, of_scalar, of_cell, of_position, of_index, of_input, act_reads, reads_at, reads_in, step_reads, then_reads, reach_reads}
use Rattle.code_machine.specs.Local.{Local, with_entry, written_from, end_of}
use Rattle.code_machine.specs.Renamed.{renamed_word, renamed_written, renamed_location, renamed_as, renamed_phase}
use Rattle.code_memos.specs.Renaming.{renamed_read, renamed_entry, renamed_end, renamed_event}
use Rattle.code_memos.specs.Leaf.{ended_by}
use Rattle.code_memos.specs.Laws.{LegsAreRenamed, EndsAreRenamed}
use Rattle.code_machine.proofs.Renaming.{renamed_comes, step_same, reach_same, values_same}

module _ {H K : Type 0} (f : H → K) where
  abbrev named : List (Read H) → List (Read K)
  named rs = map (renamed_read f) rs

  -- ---- reads of a state

  at_location : (m : ℕ) (ls : List (Location H)) (n : ℕ)
      → of_location m (slice_get (map (renamed_location f) ls) n) ≡ named (of_location m (slice_get ls n))
  at_location m [] n = refl
  at_location m (l ∷ ls) zero = by l.written
    where
      by : (o : Option (Word H))
          → if_unwritten m (renamed_word f l.snapshot) (renamed_written f o) ≡ named (if_unwritten m l.snapshot o)
      by None = refl
      by (Some w) = refl
  at_location m (l ∷ ls) (suc n) = at_location m ls n

  at_place : (ls : List (Location H)) (o : Option ℕ) → of_place (map (renamed_location f) ls) o ≡ named (of_place ls o)
  at_place ls None = refl
  at_place ls (Some n) = at_location n ls n

  at_scalar : (ls : List (Location H)) (o : Option Place)
      → of_scalar (map (renamed_location f) ls) o ≡ named (of_scalar ls o)
  at_scalar ls None = refl
  at_scalar ls (Some p) = at_place ls (Some p.first)

  at_cell : (ls : List (Location H)) (o : Option Place) (ws : List (Word H))
      → of_cell (map (renamed_location f) ls) o (map (renamed_word f) ws) ≡ named (of_cell ls o ws)
  at_cell ls (Some p) (int n ∷ rest) = at_place ls (cell_at p n)
  at_cell ls _ _ = refl

  at_position : (inputs : List ℤ) (n : ℕ) (o : Option ℤ)
      → of_position {H = K} inputs n o ≡ named (of_position inputs n o)
  at_position inputs n None = refl
  at_position inputs n (Some z) = refl

  at_index : (inputs : List ℤ) (z : ℤ) → of_index {H = K} inputs z ≡ named (of_index inputs z)
  at_index inputs (pos n) = at_position inputs n (slice_get inputs n)
  at_index inputs (negsuc n) = refl

  at_input : (inputs : List ℤ) (ws : List (Word H))
      → of_input inputs (map (renamed_word f) ws) ≡ named (of_input inputs ws)
  at_input inputs (int n ∷ rest) = at_index inputs n
  at_input inputs _ = refl

  module _ (code : Code) (inputs : List ℤ) (share m : ℕ) where
    abbrev sh : Setting H
    sh = setting code inputs share

    abbrev sk : Setting K
    sk = setting code inputs share

    act_named : (c : State H) (x : Instr) → act_reads sk (renamed_as f m c) x ≡ named (act_reads sh c x)
    act_named c (i.LoadShared v) = at_scalar c.locations (scalar code.vars v)
    act_named c (i.LoadCell v) = at_cell c.locations (array code.vars v) c.stack
    act_named c i.LoadInput = at_input inputs c.stack
    act_named c i.CountInput = refl
    act_named c _ = refl

    at_named : (c : State H) (o : Option Instr) → reads_at sk (renamed_as f m c) o ≡ named (reads_at sh c o)
    at_named c None = refl
    at_named c (Some x) = act_named c x

    in_named : (c : State H) (o : Option CodeBlock) → reads_in sk (renamed_as f m c) o ≡ named (reads_in sh c o)
    in_named c None = refl
    in_named c (Some b) = at_named c (slice_get b.instrs c.at)

    step_named : (c : State H) → step_reads sk (renamed_as f m c) ≡ named (step_reads sh c)
    step_named c = in_named c (slice_get code.blocks c.block)

    steps_to : (c : State H) → step sk (renamed_as f m c) ≡ renamed_comes f m (step sh c)
    steps_to c = step_same f code inputs share (values code) (values code) (values_same f code) m c

    then_named : (k : ℕ) → ((d : State H) → reach_reads sk k (renamed_as f m d) ≡ named (reach_reads sh k d))
        → (o : Comes H)
        → then_reads (λ d. reach_reads sk k d) (renamed_comes f m o) ≡ named (then_reads (λ d. reach_reads sh k d) o)
    then_named k rec (goes c) = rec c
    then_named k rec (traps c e) = refl
    then_named k rec (forks c n args) = refl
    then_named k rec (joins c try h) = refl
    then_named k rec (ends c w) = refl
    then_named k rec stuck = refl

    reach_named : (k : ℕ) (c : State H) → reach_reads sk k (renamed_as f m c) ≡ named (reach_reads sh k c)
    reach_named zero c = step_named c
    reach_named (suc k) c =
        (let a = step_named c in let b = steps_to c in λ j. a j ++ then_reads (λ d. reach_reads sk k d) (b j))
        ∙ ap (λ z. named (step_reads sh c) ++ z) (then_named k (λ d. reach_named k d) (step sh c))
        ∙ sym (map-append (renamed_read f) (step_reads sh c) (then_reads (λ d. reach_reads sh k d) (step sh c)))

    pub event_same : (o : Comes H) → renamed_comes f m o ≡ renamed_event f m o
    event_same (goes c) = refl
    event_same (traps c e) = refl
    event_same (forks c n args) = refl
    event_same (joins c try h) = refl
    event_same (ends c w) = refl
    event_same stuck = refl

    reaches_to : (k : ℕ) (c : State H) → reach sk k (renamed_as f m c) ≡ renamed_event f m (reach sh k c)
    reaches_to k c =
        reach_same f code inputs share (values code) (values code) (values_same f code) m k c
        ∙ event_same (reach sh k c)

  -- ---- ends

  written_named : (n : ℕ) (ls : List (Location H))
      → written_from n (map (renamed_location f) ls) ≡ map (renamed_entry f) (written_from n ls)
  written_named n [] = refl
  written_named n (l ∷ ls) =
      ap (with_entry n (renamed_written f l.written) (renamed_word f l.snapshot)) (written_named (suc n) ls)
      ∙ by l.written
    where
      by : (o : Option (Word H))
          → with_entry n (renamed_written f o) (renamed_word f l.snapshot)
          (map (renamed_entry f) (written_from (suc n) ls))
          ≡ map (renamed_entry f) (with_entry n o l.snapshot (written_from (suc n) ls))
      by None = refl
      by (Some w) = refl

  abbrev pub named_local : ℕ → Local H → Local K
  named_local m l = record { state = renamed_as f m l.state; phase = renamed_phase f l.phase }

  pub end_named : (m : ℕ) (l : Local H) → end_of (named_local m l) ≡ renamed_end f (end_of l)
  end_named m l =
      let e = written_named 0 l.state.locations in
      λ j. record { written = e j; text = l.state.text; fuel = l.state.fuel; phase = renamed_phase f l.phase }

  abbrev pub named_option : ℕ → Option (Local H) → Option (Local K)
  named_option m None = None
  named_option m (Some l) = Some (named_local m l)

  pub ended_named : (m : ℕ) (o : Comes H) → ended_by (renamed_event f m o) ≡ named_option m (ended_by o)
  ended_named m (goes c) = refl
  ended_named m (traps c e) = refl
  ended_named m (forks c n args) = refl
  ended_named m (joins c try h) = refl
  ended_named m (ends c w) = refl
  ended_named m stuck = refl

pub legs_are_renamed : {H K : Type 0} → LegsAreRenamed H K
legs_are_renamed f code inputs share k m c = record {
  event = reaches_to f code inputs share m k c;
  reads = reach_named f code inputs share m k c;
}

pub ends_are_renamed : {H K : Type 0} → EndsAreRenamed H K
ends_are_renamed f code inputs share k m c l e = (
  named_local f m l,
  ap ended_by (reaches_to f code inputs share m k c) ∙ ended_named f m (reach (setting code inputs share) k c)
      ∙ ap (named_option f m) e,
  end_named f m l,
)
