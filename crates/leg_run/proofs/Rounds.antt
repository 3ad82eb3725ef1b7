-- One round of the loop, with notes.
use Rattle.std.proofs.Common.{◌≡◌, ◌≢◌, ◌∙◌, ℕ, ◌≤◌, Bool, true, false, ℤ, List, [], ◌++◌, length, Option, Some, refl, sym, ap, subst}
use Rattle.std.proofs.lemmas.List.{append-nil, append_assoc}
use Rattle.std.specs.Prelude.{slice_get}
use Rattle.rev_num.specs.declared.outcome.Cause.{Cause}
use Rattle.rev_code.specs.declared.code.Code.{Code}
use Rattle.rev_code.specs.declared.code.CodeBlock.{CodeBlock}
use Rattle.rev_code.specs.declared.code.Instr.{Instr}
use Rattle.rev_code.specs.declared.code.Instr.TheVariants as i
use Rattle.rev_code.specs.State.{Setting, State}
use Rattle.rev_code.specs.Step as s
use Rattle.rev_code.specs.Step.{goes, stuck, act, act_in, act_at, step, Steps}
use Rattle.code_soundness.specs.AcceptedCode.{IsAccepted, notes_of}
use Rattle.block_run.specs.Plain.{Run, plain}
use Rattle.block_run.specs.Agreement.{Agrees, AreInputs, PushesInt}
use Rattle.block_run.proofs.Rows.{rows}
use Rattle.code_machine_laws.specs.Reads.{act_reads, reads_at, reads_in, step_reads, reads_of}
use Rattle.block_run.specs.declared.registers.Registers.{Registers}
use Rattle.block_run.specs.declared.registers.Stop.{Stop}
use Rattle.block_run.specs.declared.registers.Stop.TheVariants as stop
use Rattle.block_run.specs.Area.{run_of, StaysIn, Does}
use Rattle.block_run.specs.Remembering.{Kept, Wrote}
use Rattle.block_run.specs.Standing.{Mode, setting_in, Here, SameElse, AreSeen, leaves_block}
use Rattle.block_run.proofs.Onward.{reads_seen, kept_seen, halted}
use Rattle.block_run.proofs.Turning.{good_event, code_in, same_still, went, here_next, leaving, still_here}
use Rattle.block_run.specs.declared.notes.Notes.{Notes}
use Rattle.block_run.specs.Marks.{plain_marks}
use Rattle.leg_run.specs.Marks.{marks_of}
use Rattle.block_run.specs.WhereOn.{HasNoted}
use Rattle.leg_run.specs.Runs.{AheadNoting, EndsNoting}
use Rattle.leg_run.proofs.Adding.{marks_more}
use Rattle.leg_run.proofs.Agreeing.{marks_agree}
use Rattle.leg_run.proofs.IfOn.{more_noted}

pub one_more : (t : Setting ℕ) (c c' c'' : State ℕ) → Steps t c c' → step t c' ≡ goes c'' → Steps t c c''
one_more t c c' c'' s.none e = s.more e s.none
one_more t c c' c'' (s.more f rest) e = s.more f (one_more t _ c' c'' rest e)

pub reads_one_more : (t : Setting ℕ) (c c' c'' : State ℕ) (steps : Steps t c c') (e : step t c' ≡ goes c'')
    → reads_of (one_more t c c' c'' steps e) ≡ reads_of steps ++ step_reads t c'
unfolding one_more
reads_one_more t c c' c'' s.none e = append-nil (step_reads t c')
reads_one_more t c c' c'' (s.more f rest) e =
    ap (λ v. step_reads t c ++ v) (reads_one_more t _ c' c'' rest e)
    ∙ sym (append_assoc (step_reads t c) (reads_of rest) (step_reads t c'))

leaving_reads : (t : Setting ℕ) (c : State ℕ) (y : Instr) → leaves_block y ≡ true → act_reads t c y ≡ []
leaving_reads t c (i.LoadShared v) e = absurd (let z : false ≡ true = e in cc)
leaving_reads t c (i.LoadCell v) e = absurd (let z : false ≡ true = e in cc)
leaving_reads t c i.LoadInput e = absurd (let z : false ≡ true = e in cc)
leaving_reads t c i.CountInput e = absurd (let z : false ≡ true = e in cc)
leaving_reads t c _ e = refl

module _ (code : Code) (ok : IsAccepted code (notes_of code)) (inputs : List ℤ) (fits : AreInputs inputs) (m : Mode)
    (b : CodeBlock) (c : State ℕ)
    (ws : List ℕ) (r : Registers) (sees : ℕ → ℕ) (root : ℕ → Option ℕ) (here : Here code inputs m b c ws r sees root)
    (is : slice_get code.blocks r.block ≡ Some b)
    (x : Instr) (there : slice_get b.instrs r.at ≡ Some x) where
  abbrev t : Setting ℕ
  t = setting_in code inputs m

  block_is : slice_get code.blocks c.block ≡ Some b
  block_is = ap (slice_get code.blocks) here.block ∙ is

  instr_is : slice_get b.instrs c.at ≡ Some x
  instr_is = ap (slice_get b.instrs) (sym here.run.at) ∙ there

  step_is : step t c ≡ act t b c x
  step_is = ap (λ (k : Code). act_in t c (slice_get k.blocks c.block)) (code_in code ok inputs m)
      ∙ ap (act_in t c) block_is ∙ ap (act_at t b c) instr_is

  reads_are : step_reads t c ≡ act_reads t c x
  reads_are = ap (λ (k : Code). reads_in t c (slice_get k.blocks c.block)) (code_in code ok inputs m)
      ∙ ap (reads_in t c) block_is ∙ ap (reads_at t c) instr_is

  -- an instruction that leaves the block reads nothing
  pub reads_nothing : leaves_block x ≡ true → step_reads t c ≡ []
  reads_nothing e = reads_are ∙ leaving_reads t c x e

  has : act t b c x ≢ stuck
  has e = good_event code ok inputs m c here.good (step_is ∙ e)

  agrees : PushesInt x → Agrees c (act t b c x) (plain code.vars inputs sees (run_of b ws r) x)
  agrees small =
      subst (λ k. Agrees c (act t b c x) (plain code.vars k sees (run_of b ws r) x)) here.inputs_are
      (subst (λ (k : Code). Agrees c (act t b c x) (plain k.vars t.inputs sees (run_of b ws r) x))
      (code_in code ok inputs m)
      (rows c (run_of b ws r) sees
      (record { run = here.run; locations = reads_seen c.locations sees root here.locations }) t b
      (subst AreInputs (sym here.inputs_are) fits) x small))

  -- what the next instruction reads is what is noted of it
  marks_here : marks_of (step_reads t c) ≡ plain_marks code.vars inputs root (run_of b ws r) x
  marks_here =
      ap marks_of reads_are ∙ marks_agree t c (run_of b ws r) sees root here.run here.locations b x has
      ∙ ap (λ (k : Code). plain_marks k.vars t.inputs root (run_of b ws r) x) (code_in code ok inputs m)
      ∙ ap (λ k. plain_marks code.vars k root (run_of b ws r) x) here.inputs_are

  module _ (noting : Bool) (old before after : Notes) (c0 : State ℕ) (steps : Steps t c0 c)
      (noted : HasNoted noting old before (marks_of (reads_of steps)))
      (marked : HasNoted noting before after (plain_marks code.vars inputs root (run_of b ws r) x)) where
    both : HasNoted noting old after (marks_of (reads_of steps ++ step_reads t c))
    both = subst (HasNoted noting old after) (sym (marks_more (reads_of steps) (step_reads t c)))
        (more_noted noting old before after (marks_of (reads_of steps)) (marks_of (step_reads t c)) noted
        (subst (HasNoted noting before after) (sym marks_here) marked))

    module _ (ws' : List ℕ) (r' : Registers) (sees' : ℕ → ℕ) (root' : ℕ → Option ℕ) (size : ℕ)
        (sized : length c.locations ≤ size) (small : PushesInt x) (same : SameElse c0 c) where
      abbrev D : Stop → Type 0
      D v = Does (plain code.vars inputs sees (run_of b ws r) x) (run_of b ws r) (run_of b ws' r') v
          (Kept size sees sees' root root') (Wrote size sees sees' root root')

      pub onward_noting : D stop.Goes → StaysIn b ws ws' r r'
          → AheadNoting noting code inputs m b c0 ws' r' sees' root' old after
      onward_noting d stays =
          let g = went code ok inputs fits m b c ws r sees root here is x there ws' r' sees' root' size sized small d
          stays in
          let e : step t c ≡ goes g.next = step_is ∙ g.is in
          record {
            ahead = record {
              now = g.next;
              steps = one_more t c0 c g.next steps e;
              here = here_next code ok inputs fits m b c ws r sees root here is x there ws' r' sees' root' size sized
                  small d stays;
              same = same_still c0 c g.next same g.same;
            };
            noted = subst (λ rs. HasNoted noting old after (marks_of rs)) (sym (reads_one_more t c0 c g.next steps e))
                both;
          }

      trapped_noting : (e : Cause) → D (stop.Traps e)
          → EndsNoting noting code inputs m b c0 (stop.Traps e) ws' r' sees' root' old after
      trapped_noting e d =
          let a = subst (Agrees c (act t b c x)) d.0 (agrees small) in
          let h = halted c (act t b c x) has (run_of b ws' r') e a in (
            record {
              before = c;
              steps = steps;
              trapped = h.next;
              trap = step_is ∙ h.is;
              run = h.run;
              locations = subst (λ ls. AreSeen ls sees' root') (sym h.locations)
                  (kept_seen c.locations sees sees' root root' here.locations size sized d.1);
              same = same_still c0 c h.next same h.same;
            },
            both,
          )

      quiet_end : leaves_block x ≡ true → reads_of steps ++ step_reads t c ≡ reads_of steps
      quiet_end e = ap (λ rs. reads_of steps ++ rs) (reads_nothing e) ∙ append-nil (reads_of steps)

      pub ended_noting : (v : Stop) → D v → StaysIn b ws ws' r r' → v ≢ stop.Goes
          → EndsNoting noting code inputs m b c0 v ws' r' sees' root' old after
      ended_noting stop.Goes d stays other = absurd (other refl)
      ended_noting (stop.Traps e) d stays other = trapped_noting e d
      ended_noting stop.Leaves d stays other = (
        record {
          ahead = record {
            now = c;
            steps = steps;
            here = still_here code ok inputs fits m b c ws r sees root here is x there ws' r' sees' root' size sized
                small d.1 stays d.2;
            same = same;
          };
          instr = x;
          at = ap (λ (q : Run). slice_get b.instrs q.at) d.1 ∙ there;
          leaves = leaving code ok inputs fits m b c ws r sees root here is x there ws' r' sees' root' size sized small
              d;
        },
        subst (λ rs. HasNoted noting old after (marks_of rs))
            (quiet_end
            (leaving code ok inputs fits m b c ws r sees root here is x there ws' r' sees' root' size sized small d))
            both,
      )
