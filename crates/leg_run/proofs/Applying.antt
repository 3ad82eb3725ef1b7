-- Applications of funs.
use Rattle.std.proofs.Common.{◌≡◌, ◌∙◌, ℕ, suc, ◌+◌, ◌-◌, ◌<◌, ◌≤◌, true, ℤ, List, ◌∷◌, length, map, reverse, take, drop, set, get_or, Option, Some, None, refl, sym, ap, subst, arith, get_or-set_same}
use Rattle.std.specs.Prelude.{slice_get, if◌then◌else◌, nat_lt, Ok, Err}
use Rattle.std.proofs.lemmas.List.{length-drop, take-set-le, length-set}
use Rattle.rev_num.specs.declared.value.NumFault.{NumFault}
use Rattle.rev_num.proofs.Lists.{false_no}
use Rattle.rev_code.specs.declared.code.Code.{Code}
use Rattle.rev_code.specs.declared.code.CodeBlock.{CodeBlock}
use Rattle.rev_code.specs.declared.code.Instr.TheVariants as i
use Rattle.rev_code.specs.Words.{Word}
use Rattle.rev_code.specs.State.{State}
use Rattle.rev_code.specs.Step as s
use Rattle.rev_code.specs.Step.{apply_to, cause_of, goes, is_fun, only, params, step, traps, value_at, value_or_trap}
use Rattle.rev_code.specs.Funs.{setting, values}
use Rattle.code_rules.specs.Shapes.{begins, param_kinds}
use Rattle.code_rules.specs.Pass.{has_class}
use Rattle.code_rules.specs.Verdict.{first_fault}
use Rattle.code_soundness.proofs.Basics.{and_parts, some_eq}
use Rattle.code_soundness.specs.Typed.{kinds_of}
use Rattle.code_soundness.specs.AcceptedCode.{notes_of}
use Rattle.code_soundness.proofs.Accepting.{no_fault_costs}
use Rattle.code_soundness.proofs.Cases.{fun_evaluates}
use Rattle.code_soundness.proofs.Lists.{kinds_length, reverse_length, taken}
use Rattle.block_run.specs.Agreement.{AreWords, IsWord}
use Rattle.block_run.specs.Area.{count, low, run_of, stack_of}
use Rattle.block_run.specs.Remembering.{Kept}
use Rattle.block_run.specs.Standing.{program, AreSeen, Here, IsOfValue, IsRoomy}
use Rattle.block_run.specs.declared.registers.Registers.{Registers}
use Rattle.block_run.proofs.Onward.{kept_seen}
use Rattle.fun_run.specs.Values.{HasRoom, IsArgs, IsValue}
use Rattle.fun_run.proofs.Calls.{taken_enough}
use Rattle.fun_run.proofs.Running.{fault_is, stack_dropped, stack_same, word_is}
use Rattle.fun_run.proofs.Slices.{stack_slice, take_shorter, words_drop, words_reverse, words_take}
use Rattle.leg_run.specs.declared.revision.Run.{Run}
use Rattle.fun_run.specs.Rooms.{IsRoom}
use Rattle.leg_run.specs.Changes.{SameRest}
use Rattle.leg_run.specs.Ends.{GoesOn, Leaves}
use Rattle.leg_run.specs.Standing.{AreBelow, Stands, listed_as}
use Rattle.leg_run.proofs.Frames as f
use Rattle.leg_run.proofs.Frames.{arguments_are, frames_still, part_same, take_whole}

module _ (code : Code) (ok : first_fault code ≡ None) (inputs : List ℤ) (share : ℕ) (run : Run) (seen : ℕ → ℕ)
    (root : ℕ → Option ℕ) (c : State ℕ)
    (st : Stands code inputs share run seen root c) (b : CodeBlock)
    (is : slice_get code.blocks run.registers.block ≡ Some b)
    (n : ℕ) (at : slice_get b.instrs run.registers.at ≡ Some (i.Apply n)) where
  pub record Applies (y : CodeBlock) : Type 0 where
    pub args : List (Word ℕ)
    pub kinds : kinds_of args ≡ params y
    pub many : length args ≡ length (params y)
    pub are : args ≡ reverse (take (length (params y)) c.stack)
    pub enough : length (params y) ≤ length c.stack
    pub comes : step (setting code inputs share) c
        ≡ value_or_trap c (drop (length args) c.stack) (value_at (slice_get (values code) n) args)

  class_of : has_class is_fun (slice_get code.blocks n) ≡ true
  class_of = (and_parts (nat_lt n c.block) (has_class is_fun (slice_get code.blocks n))
      (f.named code ok inputs share run seen root c st b is (i.Apply n) at)).1

  some_class : (o : Option CodeBlock) → has_class is_fun o ≡ true
      → (y : CodeBlock) × (o ≡ Some y) × (is_fun y.class ≡ true)
  some_class None h = false_no h
  some_class (Some y) h = (y, refl, h)

  pub applied_block : (y : CodeBlock) × (slice_get code.blocks n ≡ Some y) × (is_fun y.class ≡ true)
  applied_block = some_class (slice_get code.blocks n) class_of

  module _ (y : CodeBlock) (named : slice_get code.blocks n ≡ Some y) where
    class : is_fun y.class ≡ true
    class = subst (λ o. has_class is_fun o ≡ true) named class_of

    pub of_value : IsOfValue code n
    of_value = (y, named, fun_evaluates y.class class)

    pub applies : Applies y
    applies =
        let found =
        subst (λ o. begins (reverse (param_kinds o)) (kinds_of c.stack) ≡ true) named
        (f.found code ok inputs share run seen root c st b is (i.Apply n) at) in
        let t = taken (params y) c.stack found in
        let many : length t.args ≡ length (params y) = sym (kinds_length t.args) ∙ ap length t.same in
        let are = arguments_are (params y) c.stack t.args t.is in
        record {
          args = t.args;
          kinds = t.same;
          many = many;
          are = are;
          enough = taken_enough (length (params y)) c.stack
              (sym (reverse_length (take (length (params y)) c.stack)) ∙ sym (ap length are) ∙ many);
          comes = f.step_is code ok inputs share run seen root c st b is (i.Apply n) at
              ∙ ap (λ o. s.apply c (only is_fun o) (slice_get (values code) n)) named
              ∙ ap (λ d. s.apply c (if d then Some y else None) (slice_get (values code) n)) class
              ∙ ap (apply_to c (slice_get (values code) n)) t.is;
        }

    pub above : low b run.registers + length (params y) ≤ run.registers.top
    above =
        let h = f.height code ok inputs share run seen root c st b is in
        let o = (f.here code ok inputs share run seen root c st b is).top in
        let m = applies.enough in omega (arith, h, o, m)

    module _ (ws' : List ℕ) (grown : take (length run.words.items) ws' ≡ run.words.items)
        (long : length run.words.items ≤ length ws') where
      same_below : take (length run.words.items) ws' ≡ take (length run.words.items) run.words.items
      same_below = grown ∙ sym (take_whole run.words.items)

      pub given : IsArgs code n applies.args ws' (run.registers.top - length (params y))
      given = record {
        body = y;
        is = named;
        kinds = applies.kinds;
        words = (let q = applies in
            let hd = f.here code ok inputs share run seen root c st b is in
            let t = hd.top in
            let u = f.top_inside code ok inputs share run seen root c st b is in
            let a = above in
            let p : length (params y) ≤ run.registers.top - low b run.registers = omega (arith, a) in
            let v : low b run.registers + (run.registers.top - low b run.registers) - length (params y)
            ≡ run.registers.top - length (params y) = omega (arith, t) in
            let g = stack_slice run.words.items (low b run.registers) (run.registers.top - low b run.registers)
            (length (params y)) p (omega (arith, t, u)) in
            let w = words_reverse (take (length (params y)) c.stack)
            (take (length (params y)) (run_of b run.words.items run.registers).stack)
            (words_take (length (params y)) c.stack (run_of b run.words.items run.registers).stack hd.run.stack) in
            let there =
            subst (λ m.
            AreWords (reverse (take (length (params y)) c.stack)) (take (length (params y)) (drop m run.words.items)))
            v
            (subst (AreWords (reverse (take (length (params y)) c.stack))) g w) in
            let grew =
            subst (AreWords (reverse (take (length (params y)) c.stack)))
            (sym (part_same run.words.items ws' (length run.words.items) (run.registers.top - length (params y))
            (length (params y)) same_below (omega (arith, a, u))))
            there in
            subst (λ m. AreWords q.args (take m (drop (run.registers.top - length (params y)) ws'))) (sym q.many)
            (subst (λ xs. AreWords xs (take (length (params y)) (drop (run.registers.top - length (params y)) ws')))
            (sym q.are) grew));
      }

      pub room_there : (room : ℕ) → IsRoom code n y room → run.registers.top - length (params y) + room ≤ length ws'
          → HasRoom code n (run.registers.top - length (params y)) (length ws')
      room_there room r h =
          let k = no_fault_costs code ok in
          let e = k.1.each n y named in
          let d = r.need (fun_evaluates y.class class) k.0 k.1 _ e in
          record { costs = k.0; are = k.1; cost = _; is = e; room = omega (arith, d, h) }

      -- by how many arguments the code counts, and the area as it is handed on
      module _ (m : ℕ) (em : m ≡ length (params y)) (wsm : List ℕ) (ew : wsm ≡ ws') where
        pub given_here : IsArgs code n applies.args wsm (run.registers.top - m)
        given_here = subst (λ ws. IsArgs code n applies.args ws (run.registers.top - m)) (sym ew)
            (subst (λ j. IsArgs code n applies.args ws' (run.registers.top - j)) (sym em) given)

        pub room_here : (room : ℕ) → IsRoom code n y room → run.registers.top - m + room ≤ length ws'
            → HasRoom code n (run.registers.top - m) (length wsm)
        room_here room r h =
            subst (λ (ws : List ℕ). HasRoom code n (run.registers.top - m) (length ws)) (sym ew)
            (subst (λ j. HasRoom code n (run.registers.top - j) (length ws')) (sym em)
            (room_there room r (omega (arith, h, em))))

      module _ (seen' : ℕ → ℕ) (root' : ℕ → Option ℕ) (size : ℕ) (sized : size ≡ count code.vars)
          (kept : Kept size seen seen' root root') where
        seen_still : AreSeen c.locations seen' root'
        seen_still =
            let hd = f.here code ok inputs share run seen root c st b is in let k = hd.many in
            kept_seen c.locations seen seen' root root' hd.locations size (omega (arith, k, sized)) kept

        -- ---- a fault

        pub faults : (e : NumFault) → IsValue (value_at (slice_get (values code) n) applies.args) (Err e)
            → step (setting code inputs share) c ≡ traps c (cause_of e)
        faults e h =
            let x = fault_is (value_at (slice_get (values code) n) applies.args) e h in
            applies.comes ∙ ap (value_or_trap c (drop (length applies.args) c.stack)) x.1 ∙ ap (traps c) x.2

        pub leaves_there : (run' : Run) → run'.registers ≡ run.registers → SameRest run run'
            → Leaves code run' seen' root' c
        leaves_there run' e r =
            let l = f.leaves_it code ok inputs share run seen root c st b is in
            record {
              locations = seen_still;
              kinds = l.kinds;
              fuel = l.fuel ∙ ap (λ (z : Registers). z.fuel) (sym e);
              line = l.line ∙ ap (λ (z : Registers). z.line) (sym e);
              forks = l.forks ∙ sym r.forks;
              listed = l.listed ∙ ap (map listed_as) (sym r.meetings);
              text = l.text ∙ sym r.text;
            }

        -- ---- a value

        module _ (v : ℕ) (h : IsValue (value_at (slice_get (values code) n) applies.args) (Ok v)) where
          got : (x : Word ℕ) × (value_at (slice_get (values code) n) applies.args ≡ Some (Ok x)) × IsWord x v
          got = word_is (value_at (slice_get (values code) n) applies.args) v h

          abbrev rest : List (Word ℕ)
          rest = drop (length applies.args) c.stack

          abbrev next : State ℕ
          next = record c { at = suc c.at; stack = got.0 ∷ rest }

          goes_on : step (setting code inputs share) c
              ≡ goes (record c { at = suc c.at; stack = got.0 ∷ drop (length applies.args) c.stack })
          goes_on = applies.comes ∙ ap (value_or_trap c (drop (length applies.args) c.stack)) got.1

          pub fits : run.registers.top - length (params y) < length run.words.items
          fits =
              let g = f.next_good code ok inputs share run seen root c st b is next goes_on in
              let t = g.typed in
              let e : t.frame.body ≡ b =
              some_eq (sym t.frame.is ∙ f.block_is code ok inputs share run seen root c st b is) in
              let inside : suc c.at < length b.instrs =
              subst (λ (z : CodeBlock). suc c.at < length z.instrs) e t.frame.inside in
              let d = f.roomy code ok inputs share run seen root c st b is (suc c.at) inside in
              let k : length (got.0 ∷ rest) ≡ length (notes_of code run.registers.block (suc c.at)).shape =
              sym (kinds_length (got.0 ∷ rest)) ∙ ap length t.stack
              ∙ ap (λ m. length (notes_of code m (suc c.at)).shape)
              (f.here code ok inputs share run seen root c st b is).block in
              let l : length rest ≡ length c.stack - length (params y) =
              length-drop (length applies.args) c.stack ∙ ap (λ m. length c.stack - m) applies.many in
              let m : length (got.0 ∷ rest) ≡ suc (length rest) = refl in
              let u = f.height code ok inputs share run seen root c st b is in
              let o = (f.here code ok inputs share run seen root c st b is).top in
              let w = applies.enough in omega (arith, d, k, l, m, u, o, w)

          module _ (ws1 : List ℕ) (same :
              take (run.registers.top - length (params y)) ws1 ≡ take (run.registers.top - length (params y)) ws')
              (long1 : length ws1 ≡ length ws') where
            abbrev base : ℕ
            base = run.registers.top - length (params y)

            abbrev there : Registers
            there = record run.registers { at = run.registers.at + 1; top = run.registers.top - length (params y) + 1 }

            abbrev ws2 : List ℕ
            ws2 = set ws1 (run.registers.top - length (params y)) v

            beneath : take (run.registers.top - length (params y)) (set ws1 (run.registers.top - length (params y)) v)
                ≡ take (run.registers.top - length (params y)) run.words.items
            beneath =
                let z = fits in
                take-set-le base ws1 base v (omega arith) ∙ same
                ∙ take_shorter ws' run.words.items (length run.words.items) base (omega (arith, z)) same_below

            longer : length run.words.items ≤ length (set ws1 (run.registers.top - length (params y)) v)
            longer = let e = length-set ws1 base v in omega (arith, e, long, long1)

            stack_there : AreWords (got.0 ∷ rest)
                (stack_of (set ws1 (run.registers.top - length (params y)) v) (low b run.registers)
                (run.registers.top - length (params y) + 1 - low b run.registers))
            stack_there =
                let up = above in
                let z = fits in
                let one : base + 1 - low b run.registers ≡ suc (base - low b run.registers) = omega (arith, up) in
                let under : low b run.registers + (base - low b run.registers) ≡ base = omega (arith, up) in
                let split : run.registers.top - low b run.registers ≡ length (params y) + (base - low b run.registers) =
                omega (arith, up) in
                let remains : stack_of ws2 (low b run.registers) (base - low b run.registers)
                ≡ drop (length (params y))
                (stack_of run.words.items (low b run.registers) (run.registers.top - low b run.registers)) =
                stack_same ws2 run.words.items (low b run.registers) (base - low b run.registers) base beneath
                (omega (arith, under))
                ∙ sym (stack_dropped run.words.items (low b run.registers) (run.registers.top - low b run.registers)
                (length (params y)) (base - low b run.registers) split) in
                let top : get_or ws2 (low b run.registers + (base - low b run.registers)) 0 ≡ v =
                ap (λ m. get_or ws2 m 0) under ∙ get_or-set_same ws1 base v 0 (omega (arith, z, long, long1)) in
                subst (λ m. AreWords (got.0 ∷ rest) (stack_of ws2 (low b run.registers) m)) (sym one) (
                  subst (IsWord got.0) (sym top) got.2,
                  subst (λ m. AreWords (drop m c.stack)
                      (stack_of ws2 (low b run.registers) (base - low b run.registers)))
                      (sym applies.many)
                      (subst (AreWords (drop (length (params y)) c.stack)) (sym remains)
                      (words_drop (length (params y)) c.stack (run_of b run.words.items run.registers).stack
                      (f.here code ok inputs share run seen root c st b is).run.stack)),
                )

            here_next : Here code inputs (program share) b next (set ws1 (run.registers.top - length (params y)) v)
                there seen' root'
            here_next =
                let hd = f.here code ok inputs share run seen root c st b is in
                let up = above in
                record {
                  good = f.next_good code ok inputs share run seen root c st b is next goes_on;
                  inputs_are = refl;
                  block = hd.block;
                  run = record {
                    at = (let k = hd.run.at in omega (arith, k));
                    locals = subst (AreWords c.locals)
                        (sym (part_same run.words.items ws2 base run.registers.base (length b.locals) beneath
                        (omega (arith, up))))
                        hd.run.locals;
                    stack = stack_there;
                    fuel = hd.run.fuel;
                    line = hd.run.line;
                  };
                  top = omega (arith, up);
                  locations = seen_still;
                  many = hd.many;
                }

            pub value_goes : (run' : Run) → run'.words.items ≡ set ws1 (run.registers.top - length (params y)) v
                → run'.registers
                ≡ record run.registers { at = run.registers.at + 1; top = run.registers.top - length (params y) + 1 }
                → run'.below.items ≡ run.below.items → SameRest run run' → GoesOn code inputs share c run' seen' root'
            value_goes run' words registers below r = record {
              next = next;
              goes = goes_on;
              stands = record {
                body = b;
                is = ap (λ (z : Registers). slice_get code.blocks z.block) registers ∙ is;
                here = subst (λ z. Here code inputs (program share) b next run'.words.items z seen' root')
                    (sym registers)
                    (subst (λ ws. Here code inputs (program share) b next ws there seen' root') (sym words) here_next);
                below = subst
                    (λ (z : Registers). AreBelow code run'.words.items z.base c.below (reverse run'.below.items))
                    (sym registers)
                    (subst (λ ws. AreBelow code ws run.registers.base c.below (reverse run'.below.items)) (sym words)
                    (subst (λ xs. AreBelow code ws2 run.registers.base c.below (reverse xs)) (sym below)
                    (frames_still code run.words.items ws2 run.registers.base c.below (reverse run.below.items)
                    (let up = above in
                    take_shorter ws2 run.words.items base run.registers.base (omega (arith, up)) beneath)
                    longer st.below)));
                room = subst (λ z. IsRoomy code b z (length run'.words.items)) (sym registers)
                    (subst (λ (ws : List ℕ). IsRoomy code b there (length ws)) (sym words)
                    (λ at k. (let m = f.roomy code ok inputs share run seen root c st b is at k in
                    let l = longer in
                    omega (arith, m, l))));
                forks = st.forks ∙ sym r.forks;
                listed = st.listed ∙ ap (map listed_as) (sym r.meetings);
                text = st.text ∙ sym r.text;
                few = (let a = st.few in let e = r.forks in let d = ap length r.meetings in omega (arith, a, e, d));
              };
            }

            -- the same, by how many arguments the code counts
            pub value_here : (m : ℕ) → m ≡ length (params y) → (run' : Run)
                → run'.words.items ≡ set ws1 (run.registers.top - m) v
                → run'.registers ≡ record run.registers { at = run.registers.at + 1; top = run.registers.top - m + 1 }
                → run'.below.items ≡ run.below.items → SameRest run run' → GoesOn code inputs share c run' seen' root'
            value_here m em run' words registers below r =
                value_goes run' (words ∙ ap (λ j. set ws1 (run.registers.top - j) v) em)
                (registers
                ∙ ap (λ (j : ℕ). record run.registers { at = run.registers.at + 1; top = run.registers.top - j + 1 })
                em)
                below r
