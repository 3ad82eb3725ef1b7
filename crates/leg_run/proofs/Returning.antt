-- Returns.
use Rattle.std.proofs.Common.{◌≡◌, ◌∙◌, ℕ, ◌+◌, ◌-◌, ◌<◌, ◌≤◌, Bool, true, false, ℤ, List, [], ◌∷◌, length, map, reverse, take, set, get_or, Option, Some, None, refl, sym, ap, subst, arith, get_or-set_same}
use Rattle.std.specs.Prelude.{slice_get, if◌then◌else◌}
use Rattle.std.proofs.lemmas.List.{reverse-append, take-set-le, length-set}
use Rattle.rev_num.specs.declared.value.ValueKind.{ValueKind}
use Rattle.rev_num.specs.Value.{same_kind}
use Rattle.rev_code.specs.declared.code.Code.{Code}
use Rattle.rev_code.specs.declared.code.CodeBlock.{CodeBlock}
use Rattle.rev_code.specs.declared.code.Instr.TheVariants as i
use Rattle.rev_code.specs.Words.{Word, kind_of}
use Rattle.rev_code.specs.State.{Frame, State}
use Rattle.rev_code.specs.Step as s
use Rattle.rev_code.specs.Step.{Comes, ends, goes, leave, step, stuck}
use Rattle.rev_code.specs.Funs.{setting}
use Rattle.code_rules.specs.Shapes.{begins, one_or_none}
use Rattle.code_rules.specs.Verdict.{first_fault}
use Rattle.code_soundness.proofs.Basics.{and_parts}
use Rattle.code_soundness.specs.Typed.{kinds_of}
use Rattle.block_run.specs.Agreement.{AreWords, IsWord}
use Rattle.block_run.specs.Area.{low, stack_of}
use Rattle.block_run.specs.Standing.{program, Here, IsRoomy}
use Rattle.block_run.specs.declared.registers.Registers.{Registers}
use Rattle.fun_run.proofs.Slices.{take_shorter}
use Rattle.leg_run.specs.declared.revision.Run.{Run}
use Rattle.leg_run.specs.declared.revision.Waiting.{Waiting}
use Rattle.leg_run.specs.Changes.{Left, results, returned}
use Rattle.leg_run.specs.Ends.{GoesOn}
use Rattle.leg_run.specs.Standing.{AreBelow, IsFrameOf, Stands, listed_as}
use Rattle.leg_run.proofs.Frames as f
use Rattle.leg_run.proofs.Frames.{frames_still, part_same}

-- the result lies where the frame began
one_there : (ws : List ℕ) (base top : ℕ) (x : Word ℕ) → AreWords (x ∷ []) (stack_of ws (top - 1) 1) → base < length ws
    → AreWords (x ∷ []) (stack_of (set ws base (get_or ws (top - 1) 0)) base 1)
one_there ws base top x h k =
    let a : top - 1 + 0 ≡ top - 1 = omega arith in
    let b : base + 0 ≡ base = omega arith in
    let w : IsWord x (get_or ws (top - 1) 0) = subst (λ n. IsWord x (get_or ws n 0)) a h.0 in
    let e : get_or (set ws base (get_or ws (top - 1) 0)) (base + 0) 0 ≡ get_or ws (top - 1) 0 =
    ap (λ n. get_or (set ws base (get_or ws (top - 1) 0)) n 0) b
    ∙ get_or-set_same ws base (get_or ws (top - 1) 0) 0 k in
    (subst (IsWord x) (sym e) w, tt)

module _ (code : Code) (ok : first_fault code ≡ None) (inputs : List ℤ) (share : ℕ) (run : Run) (seen : ℕ → ℕ)
    (root : ℕ → Option ℕ) (c : State ℕ)
    (st : Stands code inputs share run seen root c) (b : CodeBlock)
    (is : slice_get code.blocks run.registers.block ≡ Some b)
    (at : slice_get b.instrs run.registers.at ≡ Some i.Return) where
  abbrev Leaves : Comes ℕ → Type 0
  Leaves o = (result : Option (Word ℕ)) × (o ≡ leave c c.below result)

  leaves_if : (d : Bool) (w : Word ℕ) → d ≡ true → Leaves (if d then leave c c.below (Some w) else stuck)
  leaves_if true w e = (Some w, refl)
  leaves_if false w e = absurd (false_no e)
    where
      false_no : false ≡ true → ⊥
      false_no h = cc

  leaves : (o : Option ValueKind) (stack : List (Word ℕ)) → begins (one_or_none o) (kinds_of stack) ≡ true
      → Leaves (s.return c o stack)
  leaves None stack h = (None, refl)
  leaves (Some k) [] h = absurd (false_no h)
    where
      false_no : false ≡ true → ⊥
      false_no h = cc
  leaves (Some k) (w ∷ rest) h = leaves_if (same_kind k (kind_of w)) w (and_parts (same_kind k (kind_of w)) true h).0

  left : Leaves (step (setting code inputs share) c)
  left =
      let l = leaves b.result c.stack (f.found code ok inputs share run seen root c st b is i.Return at) in
      (l.0, f.step_is code ok inputs share run seen root c st b is i.Return at ∙ l.1)

  one_result : (o : Option ValueKind) → length (one_or_none o) ≡ results o
  one_result None = refl
  one_result (Some k) = refl

  pub height : run.registers.top ≡ low b run.registers + results b.result
  height =
      let h = f.height code ok inputs share run seen root c st b is in
      let o = (f.here code ok inputs share run seen root c st b is).top in
      let r = f.bare code ok inputs share run seen root c st b is i.Return at refl ∙ one_result b.result in
      omega (arith, h, o, r)

  pub over : run.registers.base + results b.result ≤ run.registers.top
  over = let h = height in omega (arith, h)

  -- ---- in the first frame

  first_ends : (fs : List (Frame ℕ)) (result : Option (Word ℕ)) → length fs ≡ 0 → leave c fs result ≡ ends c result
  first_ends [] result h = refl
  first_ends (g ∷ fs) result h = absurd (omega (arith, h))

  pub last : length run.below.items ≡ 0 → (w : Option (Word ℕ)) × (step (setting code inputs share) c ≡ ends c w)
  last h =
      let l = left in
      let k = f.frames_many code ok inputs share run seen root c st b is in
      (l.0, l.1 ∙ first_ends c.below l.0 (k ∙ h))

  -- ---- in another

  module _ (w : Waiting) (run' : Run) (l : Left b w run run') where
    reversed : reverse run.below.items ≡ w ∷ reverse run'.below.items
    reversed = ap reverse l.below ∙ reverse-append run'.below.items (w ∷ [])

    abbrev IsBack : List (Frame ℕ) → Type 0
    IsBack fs = (g : Frame ℕ) × (rest : List (Frame ℕ)) × (fs ≡ g ∷ rest)
        × IsFrameOf code run.words.items run.registers.base g w
        × AreBelow code run.words.items w.base rest (reverse run'.below.items)

    back : (fs : List (Frame ℕ)) → AreBelow code run.words.items run.registers.base fs (w ∷ reverse run'.below.items)
        → IsBack fs
    back [] h = absurd h
    back (g ∷ rest) h = (g, rest, refl, h.0, h.1)

    frame : IsBack c.below
    frame = back c.below (subst (AreBelow code run.words.items run.registers.base c.below) reversed st.below)

    abbrev next : State ℕ
    next = record c { block = frame.0.block; at = frame.0.at; locals = frame.0.locals; below = frame.1 }

    goes_back : step (setting code inputs share) c ≡ goes next
    goes_back = left.1 ∙ ap (λ fs. leave c fs left.0) frame.2

    abbrev gone : Registers
    gone = record {
      block = w.block;
      at = w.at;
      base = w.base;
      top = run.registers.base + results b.result;
      fuel = run.registers.fuel;
      line = run.registers.line;
    }

    abbrev ws' : List ℕ
    ws' = returned b.result run.registers run.words.items

    kept_by : (o : Option ValueKind)
        → take run.registers.base (returned o run.registers run.words.items) ≡ take run.registers.base run.words.items
    kept_by None = refl
    kept_by (Some k) =
        take-set-le run.registers.base run.words.items run.registers.base
        (get_or run.words.items (run.registers.top - 1) 0) (omega arith)

    long_by : (o : Option ValueKind) → length (returned o run.registers run.words.items) ≡ length run.words.items
    long_by None = refl
    long_by (Some k) = length-set run.words.items run.registers.base (get_or run.words.items (run.registers.top - 1) 0)

    stack_by : (o : Option ValueKind) (stack : List (Word ℕ)) (low' : ℕ) → low' ≡ run.registers.base
        → length stack ≡ results o → run.registers.top ≡ low b run.registers + results o
        → AreWords stack (stack_of run.words.items (low b run.registers) (run.registers.top - low b run.registers))
        → run.registers.top ≤ length run.words.items
        → AreWords stack
        (stack_of (returned o run.registers run.words.items) low' (run.registers.base + results o - low'))
    stack_by None [] low' e many top h u =
        let z : run.registers.base + 0 - low' ≡ 0 = omega (arith, e) in
        subst (λ m. AreWords [] (stack_of run.words.items low' m)) (sym z) tt
    stack_by None (x ∷ xs) low' e many top h u = absurd (omega (arith, many))
    stack_by (Some k) [] low' e many top h u = absurd (omega (arith, many))
    stack_by (Some k) (x ∷ y ∷ xs) low' e many top h u = absurd (omega (arith, many))
    stack_by (Some k) (x ∷ []) low' e many top h u =
        let z : run.registers.base + 1 - low' ≡ 1 = omega (arith, e) in
        let one : run.registers.top - low b run.registers ≡ 1 = omega (arith, top) in
        let there : low b run.registers ≡ run.registers.top - 1 = omega (arith, top) in
        let a = subst (λ m. AreWords (x ∷ []) (stack_of run.words.items m 1)) there
        (subst (λ m. AreWords (x ∷ []) (stack_of run.words.items (low b run.registers) m)) one h) in
        let g = one_there run.words.items run.registers.base run.registers.top x a (omega (arith, top, u)) in
        subst (λ m. AreWords (x ∷ []) (stack_of (returned (Some k) run.registers run.words.items) low' m)) (sym z)
        (subst (λ m. AreWords (x ∷ []) (stack_of (returned (Some k) run.registers run.words.items) m 1)) (sym e) g)

    here_next : Here code inputs (program share) frame.3.body next (returned b.result run.registers run.words.items)
        gone seen root
    here_next =
        let hd = f.here code ok inputs share run seen root c st b is in
        let g = frame.3 in
        let behind = g.behind in
        let r = f.bare code ok inputs share run seen root c st b is i.Return at refl ∙ one_result b.result in
        record {
          good = f.next_good code ok inputs share run seen root c st b is next goes_back;
          inputs_are = refl;
          block = g.block;
          run = record {
            at = sym g.at;
            locals = subst (AreWords frame.0.locals)
                (sym (part_same run.words.items (returned b.result run.registers run.words.items) run.registers.base
                w.base (length g.body.locals) (kept_by b.result) (omega (arith, behind))))
                g.locals;
            stack = stack_by b.result c.stack (w.base + length g.body.locals) behind r height hd.run.stack
                (f.top_inside code ok inputs share run seen root c st b is);
            fuel = hd.run.fuel;
            line = hd.run.line;
          };
          top = omega (arith, behind);
          locations = hd.locations;
          many = hd.many;
        }

    below_next :
        AreBelow code (returned b.result run.registers run.words.items) w.base frame.1 (reverse run'.below.items)
    below_next =
        let g = frame.3 in let behind = g.behind in let long = long_by b.result in
        frames_still code run.words.items (returned b.result run.registers run.words.items) w.base frame.1
        (reverse run'.below.items)
        (take_shorter (returned b.result run.registers run.words.items) run.words.items run.registers.base w.base
        (omega (arith, behind)) (kept_by b.result))
        (omega (arith, long)) frame.4

    roomy_next : IsRoomy code frame.3.body gone (length (returned b.result run.registers run.words.items))
    roomy_next at k =
        let g = frame.3 in
        let d = g.room at k in
        let behind = g.behind in
        let long = long_by b.result in
        omega (arith, d, behind, long)

    stands_next : Stands code inputs share run' seen root next
    stands_next = record {
      body = frame.3.body;
      is = ap (λ (r : Registers). slice_get code.blocks r.block) l.registers ∙ frame.3.is;
      here = subst (λ r. Here code inputs (program share) frame.3.body next run'.words.items r seen root)
          (sym l.registers)
          (subst (λ ws. Here code inputs (program share) frame.3.body next ws gone seen root) (sym l.words) here_next);
      below = subst (λ (r : Registers). AreBelow code run'.words.items r.base frame.1 (reverse run'.below.items))
          (sym l.registers)
          (subst (λ ws. AreBelow code ws w.base frame.1 (reverse run'.below.items)) (sym l.words) below_next);
      room = subst (λ r. IsRoomy code frame.3.body r (length run'.words.items)) (sym l.registers)
          (subst (λ (ws : List ℕ). IsRoomy code frame.3.body gone (length ws)) (sym l.words) roomy_next);
      forks = st.forks ∙ sym l.rest.forks;
      listed = st.listed ∙ ap (map listed_as) (sym l.rest.meetings);
      text = st.text ∙ sym l.rest.text;
      few = (let a = st.few in let e = l.rest.forks in let d = ap length l.rest.meetings in omega (arith, a, e, d));
    }

    pub returns_to : GoesOn code inputs share c run' seen root
    returns_to = record { next = next; goes = goes_back; stands = stands_next }
