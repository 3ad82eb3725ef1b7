-- The laws of states that a revision can reach.
use Rattle.std.proofs.Common.{◌≡◌, ◌∙◌, ℕ, Bool, true, false, ℤ, List, [], length, take, Some, None, refl, sym, ap, subst, true≢false, arith}
use Rattle.std.specs.Prelude.{slice_get, nat_eq, nat_le}
use Rattle.std.proofs.lemmas.Bool.Decides.{nat_tests}
use Rattle.rev_code.specs.declared.code.BlockClass.{BlockClass}
use Rattle.rev_code.specs.declared.code.BlockClass.TheVariants as class
use Rattle.rev_code.specs.declared.code.Code.{Code}
use Rattle.rev_code.specs.declared.code.CodeBlock.{CodeBlock}
use Rattle.rev_code.specs.declared.code.Instr.{Instr}
use Rattle.rev_code.specs.Words.{Word}
use Rattle.rev_code.specs.State.{Location, State}
use Rattle.rev_code.specs.Variables.{start_locations}
use Rattle.rev_code.specs.Step.{step, params}
use Rattle.rev_code.specs.Funs.{setting}
use Rattle.rev_code.specs.Events.{start}
use Rattle.code_rules.specs.Pass.{Note, is_value_class}
use Rattle.code_rules.specs.Tables.{is_main, fits_class, has_result}
use Rattle.code_soundness.specs.Typed.{kinds_of, AreLocations, location_kinds, IsOfProgram, IsRevision}
use Rattle.code_rules.specs.Verdict.{first_fault}
use Rattle.code_soundness.specs.AcceptedCode.{IsAccepted, notes_of}
use Rattle.code_soundness.proofs.Accepting.{no_fault_accepted}
use Rattle.code_soundness.specs.Safe as safe
use Rattle.code_soundness.specs.Safe.{HasStep, IsSafe, IsReached, NeverFails}
use Rattle.code_soundness.proofs.Lists.{and_parts, some_eq, within_some}
use Rattle.code_soundness.proofs.Variables.{start_kinds}
use Rattle.code_soundness.proofs.Well.{Stands, Well}
use Rattle.code_soundness.proofs.Acting.{step_well}
use Rattle.code_soundness.proofs.Cases.{procedure_runs}
use Rattle.code_soundness.proofs.Places.{found}
use Rattle.code_soundness.proofs.Frames.{started}
use Rattle.code_soundness.proofs.Evaluating.{block_well, values_known}

pub main_runs : (x : BlockClass) → is_main x ≡ true → is_value_class x ≡ false
main_runs class.Main h = refl
main_runs class.Fun h = absurd (true≢false (sym h))
main_runs class.Merge h = absurd (true≢false (sym h))
main_runs class.Proc h = absurd (true≢false (sym h))

-- a block of a class that evaluates nothing is one of the program
of_program : (code : Code) (n : ℕ) (b : CodeBlock) → slice_get code.blocks n ≡ Some b → is_value_class b.class ≡ false
    → IsOfProgram code n
of_program code n b is h = λ y is'. ap (λ u. is_value_class u.class) (some_eq (sym is' ∙ is)) ∙ h

pub main_bare : (x : BlockClass) (n : ℕ) (has : Bool) → is_main x ≡ true → fits_class x n has ≡ true → nat_eq n 0 ≡ true
main_bare class.Main n has p h = (and_parts (nat_eq n 0) (Rattle.std.specs.Prelude.not has) h).0
main_bare class.Fun n has p h = absurd (true≢false (sym p))
main_bare class.Merge n has p h = absurd (true≢false (sym p))
main_bare class.Proc n has p h = absurd (true≢false (sym p))

module _ (H : Type 0) (code : Code) (notes : ℕ → ℕ → Note) (ok : IsAccepted code notes) where
  pub main_starts : (n : ℕ) (b : CodeBlock) → slice_get code.blocks n ≡ Some b → is_main b.class ≡ true → (fuel : ℕ)
      → IsRevision {H = H} code notes (start n b [] (start_locations code.vars) fuel)
  main_starts n b is m fuel =
      let h = (and_parts (fits_class b.class b.params (has_result b)) (nat_le b.params (length b.locals))
      (block_well code ok.named n b is)).0 in
      let e = main_bare b.class b.params (has_result b) m h in
      let z : b.params ≡ 0 = grind (arith, nat_tests, e) in
      started code notes ok n b is (of_program code n b is (main_runs b.class m)) [] (sym (ap (λ u. take u b.locals) z))
      (start_locations code.vars) (start_kinds H code.vars) fuel

  pub procedures_start : (n : ℕ) (b : CodeBlock) → slice_get code.blocks n ≡ Some b → IsOfProgram code n
      → (args : List (Word H)) → kinds_of args ≡ params b
      → (ls : List (Location H)) → AreLocations (location_kinds code.vars) ls → (fuel : ℕ)
      → IsRevision code notes (start n b args ls fuel)
  procedures_start n b is program args e ls located fuel = started code notes ok n b is program args e ls located fuel

  module _ (inputs : List ℤ) (share : ℕ) where
    -- ---- one state

    module _ (c : State H) (t : IsRevision code notes c) where
      body : CodeBlock
      body = t.typed.frame.body

      no_value : is_value_class t.typed.frame.body.class ≡ false
      no_value = t.program t.typed.frame.body t.typed.frame.is

      instr : (x : Instr) × (slice_get t.typed.frame.body.instrs c.at ≡ Some x)
      instr = within_some t.typed.frame.body.instrs c.at t.typed.frame.inside

      stands : (x : Instr) → slice_get t.typed.frame.body.instrs c.at ≡ Some x
          → Stands (setting code inputs share) notes c t.typed.frame.body x
      stands x here = record {
        is = t.typed.frame.is;
        here = here;
        locals = t.typed.frame.kinds;
        stack = t.typed.stack;
        below = t.typed.below;
        program = λ p. record { locations = t.locations; shallow = t.shallow; few = t.few };
      }

      well : Well (setting code inputs share) notes c t.typed.frame.body (step (setting code inputs share) c)
      well =
          let x = instr in
          step_well (setting code inputs share) notes ok c t.typed.frame.body (values_known code notes ok c.block) x.0
          (stands x.0 x.1)

      pub has_step : HasStep code inputs share c
      has_step =
          let x = instr in
          record {
            body = t.typed.frame.body;
            is = t.typed.frame.is;
            instr = x.0;
            here = x.1;
            found = found (setting code inputs share) notes ok c t.typed.frame.body x.0 (stands x.0 x.1);
            event = λ e. subst (Well (setting code inputs share) notes c t.typed.frame.body) e well;
          }

      pub is_safe : IsSafe code notes inputs share c
      is_safe = record {
        goes = λ c' e.
            (let w = subst (Well (setting code inputs share) notes c t.typed.frame.body) e well in w.revision no_value);
        forks = λ c' n args e.
            (let w = subst (Well (setting code inputs share) notes c t.typed.frame.body) e well in
            (w.forked, w.forker, w.forked_child));
        joins = λ c' try h e.
            (let w = subst (Well (setting code inputs share) notes c t.typed.frame.body) e well in w.joined);
        ends = λ c' v e b is.
            (let w = subst (Well (setting code inputs share) notes c t.typed.frame.body) e well in
            w ∙ ap (λ y. y.result) (some_eq (sym t.typed.frame.is ∙ is)));
      }

    -- ---- all states

    pub reached : (c : State H) → IsReached code inputs share c → IsRevision code notes c
    reached _ (safe.main n b is m fuel) = main_starts n b is m fuel
    reached _ (safe.procedure n b is h args e ls located fuel) =
        procedures_start n b is (of_program code n b is (procedure_runs b.class h)) args e ls located fuel
    reached _ (safe.goes_on c c' r e) = (is_safe c (reached c r)).goes c' e
    reached _ (safe.forker c c' n args h r e) = ((is_safe c (reached c r)).forks c' n args e).1 h
    reached _ (safe.forked c c' n args b r e is) =
        let q = (is_safe c (reached c r)).forks c' n args e in
        let z : q.0.body ≡ b = some_eq (sym q.0.is ∙ is) in
        subst (λ y. IsRevision code notes (Rattle.rev_code.specs.Events.child share c' n y args)) z q.2
    reached _ (safe.joined c c' try done h ls fuel text r e located) =
        (is_safe c (reached c r)).joins c' try h e done ls located fuel text

pub never_fails : (H : Type 0) (code : Code) → first_fault code ≡ None → (inputs : List ℤ) (share : ℕ) (c : State H)
    → IsReached code inputs share c → NeverFails code inputs share c
never_fails H code h inputs share c r =
    let ok = no_fault_accepted code h in
    let t = reached H code (notes_of code) ok inputs share c r in
    record { step = has_step H code (notes_of code) ok inputs share c t; shallow = t.shallow; few = t.few }
