-- What a revision read is what its own snapshot and input have.
use Rattle.std.proofs.Common.{◌≡◌, ℕ, zero, suc, ℤ, pos, negsuc, List, [], ◌∷◌, ◌++◌, Option, Some, None, refl, ap, subst}
use Rattle.std.specs.Prelude.{slice_get}
use Rattle.rev_num.proofs.Options.{none_some, some_eq}
use Rattle.rev_code.specs.declared.code.CodeBlock.{CodeBlock}
use Rattle.rev_code.specs.declared.code.Instr.{Instr}
use Rattle.rev_code.specs.declared.code.Instr.TheVariants as i
use Rattle.rev_code.specs.Words.{Word, int}
use Rattle.rev_code.specs.State.{Location, Setting, State, written_at}
use Rattle.rev_code.specs.Variables.{Place, scalar, array, cell_at}
use Rattle.rev_code.specs.Step.{Comes, goes, traps, forks, joins, ends, stuck, step}
use Rattle.code_machine_laws.specs.Forms.{ComesTo, to_next, to_write, to_payment, to_trap, to_fork, to_join, to_end, to_nothing}
use Rattle.code_machine_laws.proofs.Forms.{step_form}
use Rattle.code_machine_laws.specs.Reached.{snapshots}
use Rattle.code_machine_laws.specs.Reads.{Read, if_unwritten, of_location, of_place, of_scalar, of_cell, of_position, of_index, of_input, act_reads, reads_at, reads_in, step_reads, then_reads, reach_reads}
use Rattle.code_machine_laws.specs.Moved.{AllAgree}
use Rattle.code_machine_laws.specs.ReadLaws.{OwnReadsAgree}

module _ {H : Type 0} where
  pub snapshots_stay : (ls : List (Location H)) (n : ℕ) (w : Word H) → snapshots (written_at ls n w) ≡ snapshots ls
  snapshots_stay [] n w = refl
  snapshots_stay (l ∷ ls) zero w = refl
  snapshots_stay (l ∷ ls) (suc n) w = ap (λ z. l.snapshot ∷ z) (snapshots_stay ls n w)

  snapshot_at : (ls : List (Location H)) (n : ℕ) (l : Location H) → slice_get ls n ≡ Some l
      → slice_get (snapshots ls) n ≡ Some l.snapshot
  snapshot_at [] n l e = none_some e
  snapshot_at (x ∷ ls) zero l e = ap (λ z. Some z.snapshot) (some_eq e)
  snapshot_at (x ∷ ls) (suc n) l e = snapshot_at ls n l e

  append_agree : (xs : List (Word H)) (inputs : List ℤ) (rs qs : List (Read H)) → AllAgree xs inputs rs
      → AllAgree xs inputs qs → AllAgree xs inputs (rs ++ qs)
  append_agree xs inputs [] qs h k = k
  append_agree xs inputs (r ∷ rs) qs h k = (h.0, append_agree xs inputs rs qs h.1 k)

  module _ (ls : List (Location H)) (inputs : List ℤ) where
    abbrev Own : List (Read H) → Type 0
    Own rs = AllAgree (snapshots ls) inputs rs

    own_written : (n : ℕ) (l : Location H) → slice_get ls n ≡ Some l → (o : Option (Word H))
        → Own (if_unwritten n l.snapshot o)
    own_written n l e None = (snapshot_at ls n l e, tt)
    own_written n l e (Some w) = tt

    own_location : (n : ℕ) (o : Option (Location H)) → slice_get ls n ≡ o → Own (of_location n o)
    own_location n None e = tt
    own_location n (Some l) e = own_written n l e l.written

    own_place : (o : Option ℕ) → Own (of_place ls o)
    own_place None = tt
    own_place (Some n) = own_location n (slice_get ls n) refl

    own_scalar : (o : Option Place) → Own (of_scalar ls o)
    own_scalar None = tt
    own_scalar (Some p) = own_place (Some p.first)

    own_cell : (o : Option Place) (ws : List (Word H)) → Own (of_cell ls o ws)
    own_cell (Some p) (int n ∷ rest) = own_place (cell_at p n)
    own_cell _ _ = tt

    own_position : (n : ℕ) (o : Option ℤ) → slice_get inputs n ≡ o → Own (of_position inputs n o)
    own_position n (Some z) e = (e, tt)
    own_position n None e = (refl, tt)

    own_index : (z : ℤ) → Own (of_index inputs z)
    own_index (pos n) = own_position n (slice_get inputs n) refl
    own_index (negsuc n) = (refl, tt)

    own_input : (ws : List (Word H)) → Own (of_input inputs ws)
    own_input (int n ∷ rest) = own_index n
    own_input _ = tt

  module _ (s : Setting H) where
    own_act : (c : State H) (x : Instr) → AllAgree (snapshots c.locations) s.inputs (act_reads s c x)
    own_act c (i.LoadShared v) = own_scalar c.locations s.inputs (scalar s.code.vars v)
    own_act c (i.LoadCell v) = own_cell c.locations s.inputs (array s.code.vars v) c.stack
    own_act c i.LoadInput = own_input c.locations s.inputs c.stack
    own_act c i.CountInput = (refl, tt)
    own_act c _ = tt

    own_at : (c : State H) (o : Option Instr) → AllAgree (snapshots c.locations) s.inputs (reads_at s c o)
    own_at c None = tt
    own_at c (Some x) = own_act c x

    own_in : (c : State H) (o : Option CodeBlock) → AllAgree (snapshots c.locations) s.inputs (reads_in s c o)
    own_in c None = tt
    own_in c (Some b) = own_at c (slice_get b.instrs c.at)

    own_step : (c : State H) → AllAgree (snapshots c.locations) s.inputs (step_reads s c)
    own_step c = own_in c (slice_get s.code.blocks c.block)

    abbrev IfGoes : State H → Comes H → Type 0
    IfGoes c (goes d) = snapshots d.locations ≡ snapshots c.locations
    IfGoes c _ = Unit {0}

    form_keeps : (c : State H) (o : Comes H) → ComesTo s c o → IfGoes c o
    form_keeps c o (to_next block at locals stack below text more) = refl
    form_keeps c o (to_write rest l w) = snapshots_stay c.locations l w
    form_keeps c o (to_payment line fuel e) = refl
    form_keeps c o (to_trap line e) = tt
    form_keeps c o (to_fork n body args is e) = tt
    form_keeps c o (to_join try h rest e) = tt
    form_keeps c o (to_end w) = tt
    form_keeps c o to_nothing = tt

    then_own : (k : ℕ) (c : State H) → ((d : State H) → AllAgree (snapshots d.locations) s.inputs (reach_reads s k d))
        → (o : Comes H) → IfGoes c o → AllAgree (snapshots c.locations) s.inputs (then_reads (λ d. reach_reads s k d) o)
    then_own k c rec (goes d) e = subst (λ xs. AllAgree xs s.inputs (reach_reads s k d)) e (rec d)
    then_own k c rec (traps d x) e = tt
    then_own k c rec (forks d n args) e = tt
    then_own k c rec (joins d try h) e = tt
    then_own k c rec (ends d w) e = tt
    then_own k c rec stuck e = tt

    pub own_reach : (k : ℕ) (c : State H) → AllAgree (snapshots c.locations) s.inputs (reach_reads s k c)
    own_reach zero c = own_step c
    own_reach (suc k) c =
        append_agree (snapshots c.locations) s.inputs (step_reads s c) (then_reads (λ d. reach_reads s k d) (step s c))
        (own_step c)
        (then_own k c (λ d. own_reach k d) (step s c) (form_keeps c (step s c) (step_form s c)))

pub own_reads_agree : {H : Type 0} → OwnReadsAgree H
own_reads_agree s k c = own_reach s k c
