-- What an instruction reads, and what is noted of it on words without a kind.
use Rattle.std.proofs.Common.{◌≡◌, ◌≢◌, ◌∙◌, ℕ, zero, suc, ℤ, pos, negsuc, List, [], ◌∷◌, Option, Some, None, refl, ap}
use Rattle.std.specs.Prelude.{slice_get}
use Rattle.rev_code.specs.declared.code.CodeBlock.{CodeBlock}
use Rattle.rev_code.specs.declared.code.Instr.{Instr}
use Rattle.rev_code.specs.declared.code.Instr.TheVariants as i
use Rattle.rev_code.specs.Words.{Word, int, bool, rev}
use Rattle.rev_code.specs.State.{Location, Setting, State, seen_at}
use Rattle.rev_code.specs.Variables.{Place, scalar, array, cell_at}
use Rattle.rev_code.specs.Step as r
use Rattle.rev_code.specs.Step.{stuck, act}
use Rattle.block_run.specs.Plain.{Run}
use Rattle.block_run.specs.Agreement.{AreWords, IsRun}
use Rattle.block_run.specs.Standing.{IsSeen, AreSeen}
use Rattle.code_machine_laws.specs.Reads.{if_unwritten, of_location, of_place, of_scalar, of_cell, of_position, of_index, of_input, act_reads}
use Rattle.block_run.specs.Marks.{if_first, place_marks, scalar_marks, cell_marks, position_marks, index_marks, input_marks, plain_marks}
use Rattle.leg_run.specs.Marks.{marks_of}

module _ (s : Setting ℕ) (c : State ℕ) (q : Run) (sees : ℕ → ℕ) (root : ℕ → Option ℕ) (run : IsRun c q)
    (locations : AreSeen c.locations sees root) where
  by_written : (n : ℕ) (l : Location ℕ) (w : ℕ) (o : Option ℕ) → IsSeen l w o
      → marks_of (if_unwritten n l.snapshot l.written) ≡ if_first n o
  by_written n l w None h = ap (λ x. marks_of (if_unwritten n l.snapshot x)) h.0
  by_written n l w (Some v) h = ap (λ x. marks_of (if_unwritten n l.snapshot x)) h.1

  at_location : (n : ℕ) (rest : List (Word ℕ)) → r.pushes c rest (seen_at c.locations n) ≢ stuck
      → marks_of (of_location n (slice_get c.locations n)) ≡ if_first n (root n)
  at_location n rest has = by c.locations n refl (slice_get c.locations n) refl
    where
      none_seen : (ls : List (Location ℕ)) (n : ℕ) → slice_get ls n ≡ None → seen_at ls n ≡ None
      none_seen [] n e = refl
      none_seen (l ∷ ls) zero e = (let z : Some l ≡ None = e in absurd cc)
      none_seen (l ∷ ls) (suc n) e = none_seen ls n e

      by : (ls : List (Location ℕ)) (m : ℕ) → c.locations ≡ ls → (o : Option (Location ℕ)) → slice_get c.locations n ≡ o
          → marks_of (of_location n o) ≡ if_first n (root n)
      by ls m same None e = absurd (has (ap (r.pushes c rest) (none_seen c.locations n e)))
      by ls m same (Some l) e = by_written n l (sees n) (root n) (locations n l e)

  at_scalar : (o : Option Place) → r.from_scalar c o ≢ stuck → marks_of (of_scalar c.locations o) ≡ scalar_marks root o
  at_scalar None has = refl
  at_scalar (Some p) has = at_location p.first c.stack has

  at_cell_of : (rest : List (Word ℕ)) (o : Option ℕ) → r.read_cell c rest o ≢ stuck
      → marks_of (of_place c.locations o) ≡ place_marks root o
  at_cell_of rest None has = refl
  at_cell_of rest (Some n) has = at_location n rest has

  at_cell : (o : Option Place) (ws : List (Word ℕ)) (vs : List ℕ) → AreWords ws vs → r.from_cell c o ws ≢ stuck
      → marks_of (of_cell c.locations o ws) ≡ cell_marks root o vs
  at_cell (Some p) (int z ∷ rest) (w ∷ vs) h has =
      at_cell_of rest (cell_at p z) has ∙ ap (λ n. place_marks root (cell_at p n)) h.0.1
  at_cell (Some p) (int z ∷ rest) [] h has = absurd h
  at_cell (Some p) (bool b ∷ rest) vs h has = absurd (has refl)
  at_cell (Some p) (rev m ∷ rest) vs h has = absurd (has refl)
  at_cell (Some p) [] vs h has = absurd (has refl)
  at_cell None ws vs h has = absurd (has refl)

  at_position : (inputs : List ℤ) (n : ℕ) (o : Option ℤ)
      → marks_of (of_position {H = ℕ} inputs n o) ≡ position_marks n o
  at_position inputs n None = refl
  at_position inputs n (Some z) = refl

  at_index : (inputs : List ℤ) (z : ℤ) → marks_of (of_index {H = ℕ} inputs z) ≡ index_marks inputs z
  at_index inputs (pos n) = at_position inputs n (slice_get inputs n)
  at_index inputs (negsuc n) = refl

  at_input : (inputs : List ℤ) (ws : List (Word ℕ)) (vs : List ℕ) → AreWords ws vs → r.from_input inputs c ws ≢ stuck
      → marks_of (of_input inputs ws) ≡ input_marks inputs vs
  at_input inputs (int z ∷ rest) (w ∷ vs) h has = at_index inputs z ∙ ap (index_marks inputs) h.0.1
  at_input inputs (int z ∷ rest) [] h has = absurd h
  at_input inputs (bool b ∷ rest) vs h has = absurd (has refl)
  at_input inputs (rev m ∷ rest) vs h has = absurd (has refl)
  at_input inputs [] vs h has = absurd (has refl)

  pub marks_agree : (b : CodeBlock) (x : Instr) → act s b c x ≢ stuck
      → marks_of (act_reads s c x) ≡ plain_marks s.code.vars s.inputs root q x
  marks_agree b (i.LoadShared v) has = at_scalar (scalar s.code.vars v) has
  marks_agree b (i.LoadCell v) has = at_cell (array s.code.vars v) c.stack q.stack run.stack has
  marks_agree b i.LoadInput has = at_input s.inputs c.stack q.stack run.stack has
  marks_agree b i.CountInput has = refl
  marks_agree b _ has = refl
