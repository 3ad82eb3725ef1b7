-- Calls.
use Rattle.std.proofs.Common.{◌≡◌, ◌∙◌, ℕ, suc, ◌+◌, ◌-◌, ◌<◌, ◌≤◌, true, false, ℤ, List, [], ◌∷◌, length, map, reverse, take, drop, Option, Some, None, refl, sym, ap, subst, arith}
use Rattle.std.specs.Prelude.{slice_get, if◌then◌else◌, nat_lt}
use Rattle.std.proofs.lemmas.Bool.Decides.{nat_tests}
use Rattle.std.proofs.lemmas.List.{length-drop, reverse-append}
use Rattle.rev_num.specs.declared.outcome.Cause.TheVariants as cause
use Rattle.rev_code.specs.declared.code.Code.{Code}
use Rattle.rev_code.specs.declared.code.CodeBlock.{CodeBlock}
use Rattle.rev_code.specs.declared.code.Instr.TheVariants as i
use Rattle.rev_code.specs.Words.{Word, zero_word}
use Rattle.rev_code.specs.State.{State}
use Rattle.rev_code.specs.Step as s
use Rattle.rev_code.specs.Step.{call_with, enter, first_locals, goes, is_procedure, most_frames, only, params, step, traps}
use Rattle.rev_code.specs.Funs.{setting}
use Rattle.code_rules.specs.Shapes.{begins, param_kinds}
use Rattle.code_rules.specs.Pass.{has_class}
use Rattle.code_rules.specs.Verdict.{first_fault}
use Rattle.code_soundness.specs.Typed.{kinds_of}
use Rattle.code_soundness.proofs.Lists.{drop_whole, kinds_length, reverse_length, taken}
use Rattle.block_run.specs.Agreement.{AreWords}
use Rattle.block_run.specs.Area.{low, run_of, stack_of}
use Rattle.block_run.specs.Standing.{program, Here, IsRoomy}
use Rattle.block_run.specs.declared.registers.Registers.{Registers}
use Rattle.fun_run.proofs.Slices.{stack_slice, words_append, words_reverse, words_take, zeros}
use Rattle.fun_run.proofs.Running.{zero_words}
use Rattle.leg_run.specs.declared.revision.Run.{Run}
use Rattle.leg_run.specs.declared.revision.Waiting.{Waiting}
use Rattle.fun_run.specs.Rooms.{IsRoom}
use Rattle.leg_run.specs.Changes.{Entered}
use Rattle.leg_run.specs.Ends.{GoesOn}
use Rattle.leg_run.specs.Standing.{AreBelow, Stands, listed_as}
use Rattle.leg_run.proofs.Frames as f
use Rattle.leg_run.proofs.Frames.{arguments_are, frames_still, part_same}

module _ (code : Code) (ok : first_fault code ≡ None) (inputs : List ℤ) (share : ℕ) (run : Run) (seen : ℕ → ℕ)
    (root : ℕ → Option ℕ) (c : State ℕ)
    (st : Stands code inputs share run seen root c) (b : CodeBlock)
    (is : slice_get code.blocks run.registers.block ≡ Some b)
    (n : ℕ) (at : slice_get b.instrs run.registers.at ≡ Some (i.Call n)) where
  -- the words on the stack are the arguments
  pub record Calls (called : CodeBlock) : Type 0 where
    pub args : List (Word ℕ)
    pub kinds : kinds_of args ≡ params called
    pub all : drop (length args) c.stack ≡ []
    pub many : length c.stack ≡ length (params called)
    pub are : args ≡ reverse (take (length (params called)) c.stack)
    pub comes : step (setting code inputs share) c
        ≡ (if nat_lt (suc (length c.below)) most_frames then goes (enter c n called args) else traps c cause.CallDepth)

  some_class : (o : Option CodeBlock) → has_class is_procedure o ≡ true
      → (y : CodeBlock) × (o ≡ Some y) × (is_procedure y.class ≡ true)
  some_class None h = absurd (false_no h)
    where
      false_no : false ≡ true → ⊥
      false_no h = cc
  some_class (Some y) h = (y, refl, h)

  pub called_block : (y : CodeBlock) × (slice_get code.blocks n ≡ Some y) × (is_procedure y.class ≡ true)
  called_block =
      some_class (slice_get code.blocks n) (f.named code ok inputs share run seen root c st b is (i.Call n) at)

  module _ (called : CodeBlock) (named : slice_get code.blocks n ≡ Some called) where
    class : is_procedure called.class ≡ true
    class = subst (λ o. has_class is_procedure o ≡ true) named
        (f.named code ok inputs share run seen root c st b is (i.Call n) at)

    pub calls : Calls called
    calls =
        let found =
        subst (λ o. begins (reverse (param_kinds o)) (kinds_of c.stack) ≡ true) named
        (f.found code ok inputs share run seen root c st b is (i.Call n) at) in
        let bare = f.bare code ok inputs share run seen root c st b is (i.Call n) at refl
        ∙ ap (λ o. length (reverse (param_kinds o))) named ∙ reverse_length (params called) in
        let t = taken (params called) c.stack found in
        let many : length t.args ≡ length (params called) = sym (kinds_length t.args) ∙ ap length t.same in
        record {
          args = t.args;
          kinds = t.same;
          all = drop_whole (length t.args) c.stack (bare ∙ sym many);
          many = bare;
          are = arguments_are (params called) c.stack t.args t.is;
          comes = f.step_is code ok inputs share run seen root c st b is (i.Call n) at
              ∙ ap (λ o. s.call c n (only is_procedure o)) named
              ∙ ap (λ d. s.call c n (if d then Some called else None)) class
              ∙ ap (call_with c n called) t.is;
        }

    pub too_deep : 1000 ≤ length run.below.items + 1 → step (setting code inputs share) c ≡ traps c cause.CallDepth
    too_deep h =
        let q = calls in
        let k = f.frames_many code ok inputs share run seen root c st b is in
        let e : nat_lt (suc (length c.below)) most_frames ≡ false = grind (arith, nat_tests, h, k) in
        q.comes ∙ ap (λ d. if d then goes (enter c n called q.args) else traps c cause.CallDepth) e

    pub goes_in : length run.below.items + 1 < 1000
        → step (setting code inputs share) c ≡ goes (enter c n called calls.args)
    goes_in h =
        let q = calls in
        let k = f.frames_many code ok inputs share run seen root c st b is in
        let e : nat_lt (suc (length c.below)) most_frames ≡ true = grind (arith, nat_tests, h, k) in
        q.comes ∙ ap (λ d. if d then goes (enter c n called q.args) else traps c cause.CallDepth) e

    module _ (run' : Run) (room : ℕ) (e : Entered b n called room run run') (enough : IsRoom code n called room)
        (few : length run.below.items + 1 < 1000) where
      abbrev entered : Registers
      entered = record {
        block = n;
        at = 0;
        base = low b run.registers;
        top = low b run.registers + length called.locals;
        fuel = run.registers.fuel;
        line = run.registers.line;
      }

      abbrev next : State ℕ
      next = enter c n called calls.args

      -- the arguments lie where the frame begins
      args_there : AreWords calls.args (take (length (params called)) (drop (low b run.registers) run.words.items))
      args_there =
          let q = calls in
          let hd = f.here code ok inputs share run seen root c st b is in
          let h = f.height code ok inputs share run seen root c st b is in
          let t = hd.top in
          let u = f.top_inside code ok inputs share run seen root c st b is in
          let m = q.many in
          let p : length (params called) ≡ run.registers.top - low b run.registers = sym m ∙ h in
          let w = words_reverse (take (length (params called)) c.stack)
          (take (length (params called)) (run_of b run.words.items run.registers).stack)
          (words_take (length (params called)) c.stack (run_of b run.words.items run.registers).stack hd.run.stack) in
          let g = stack_slice run.words.items (low b run.registers) (run.registers.top - low b run.registers)
          (length (params called)) (omega (arith, p)) (omega (arith, t, u)) in
          let v : low b run.registers + (run.registers.top - low b run.registers) - length (params called)
          ≡ low b run.registers = omega (arith, p) in
          subst (λ xs. AreWords xs (take (length (params called)) (drop (low b run.registers) run.words.items)))
          (sym q.are)
          (subst (λ m.
          AreWords (reverse (take (length (params called)) c.stack))
          (take (length (params called)) (drop m run.words.items)))
          v
          (subst (AreWords (reverse (take (length (params called)) c.stack))) g w))

      locals_there : AreWords (first_locals called calls.args)
          (take (length called.locals) (drop (low b run.registers) run'.words.items))
      locals_there =
          let q = calls in
          let many : length q.args ≡ length (params called) = sym (kinds_length q.args) ∙ ap length q.kinds in
          subst (AreWords (first_locals called q.args)) (sym e.locals)
          (words_append q.args (map zero_word (drop (length q.args) called.locals))
          (take (length (params called)) (drop (low b run.registers) run.words.items))
          (zeros (length called.locals - length (params called)))
          args_there
          (subst (λ m. AreWords (map zero_word (drop (length q.args) called.locals)) (zeros m))
          (length-drop (length q.args) called.locals ∙ ap (λ m. length called.locals - m) many)
          (zero_words (drop (length q.args) called.locals))))

      here_next : Here code inputs (program share) called next run'.words.items entered seen root
      here_next =
          let hd = f.here code ok inputs share run seen root c st b is in
          let z : low b run.registers + length called.locals - (low b run.registers + length called.locals) ≡ 0 =
          omega arith in
          record {
            good = f.next_good code ok inputs share run seen root c st b is next (goes_in few);
            inputs_are = refl;
            block = refl;
            run = record {
              at = refl;
              locals = locals_there;
              stack = subst (λ xs.
                  AreWords xs (stack_of run'.words.items (low called entered) (entered.top - low called entered)))
                  (sym calls.all)
                  (subst (λ m. AreWords [] (stack_of run'.words.items (low b run.registers + length called.locals) m))
                  (sym z) tt);
              fuel = hd.run.fuel;
              line = hd.run.line;
            };
            top = omega arith;
            locations = hd.locations;
            many = hd.many;
          }

      below_next : AreBelow code run'.words.items (low b run.registers) next.below (reverse run'.below.items)
      below_next =
          let hd = f.here code ok inputs share run seen root c st b is in
          let w : Waiting =
          record { block = run.registers.block; at = suc run.registers.at; base = run.registers.base } in
          let r : reverse run'.below.items ≡ w ∷ reverse run.below.items =
          ap reverse e.below ∙ reverse-append run.below.items (w ∷ []) in
          let long = e.long in
          subst (AreBelow code run'.words.items (low b run.registers) next.below) (sym r) (
            record {
              body = b;
              is = is;
              block = hd.block;
              at = ap suc (sym hd.run.at);
              locals = subst (AreWords c.locals)
                  (sym (part_same run.words.items run'.words.items (low b run.registers) run.registers.base
                  (length b.locals) e.beneath (omega arith)))
                  hd.run.locals;
              behind = refl;
              room = λ at k.
                  (let m = f.roomy code ok inputs share run seen root c st b is at k in omega (arith, m, long));
            },
            frames_still code run.words.items run'.words.items run.registers.base c.below (reverse run.below.items)
                (Rattle.fun_run.proofs.Slices.take_shorter run'.words.items run.words.items (low b run.registers)
                run.registers.base (omega arith) e.beneath)
                long st.below,
          )

      roomy_next : IsRoomy code called entered (length run'.words.items)
      roomy_next at k = let d = enough.deep at k in let g = e.enough in omega (arith, d, g)

      pub stands_next : Stands code inputs share run' seen root (enter c n called calls.args)
      stands_next = record {
        body = called;
        is = ap (λ (r : Registers). slice_get code.blocks r.block) e.registers ∙ named;
        here = subst (λ r. Here code inputs (program share) called next run'.words.items r seen root) (sym e.registers)
            here_next;
        below = subst (λ (r : Registers). AreBelow code run'.words.items r.base next.below (reverse run'.below.items))
            (sym e.registers) below_next;
        room = subst (λ r. IsRoomy code called r (length run'.words.items)) (sym e.registers) roomy_next;
        forks = st.forks ∙ sym e.rest.forks;
        listed = st.listed ∙ ap (map listed_as) (sym e.rest.meetings);
        text = st.text ∙ sym e.rest.text;
        few = (let a = st.few in let b = e.rest.forks in let d = ap length e.rest.meetings in omega (arith, a, b, d));
      }

      pub enters : GoesOn code inputs share c run' seen root
      enters = record { next = enter c n called calls.args; goes = goes_in few; stands = stands_next }
