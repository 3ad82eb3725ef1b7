-- What is known of a revision that stands at an instruction which leaves its block.
use Rattle.std.proofs.Common.{◌≡◌, ◌≢◌, ◌∙◌, ℕ, suc, ◌+◌, ◌-◌, ◌<◌, ◌≤◌, Bool, true, false, ℤ, List, [], ◌∷◌, ◌++◌, length, reverse, take, drop, Option, Some, None, refl, sym, ap, subst, arith}
use Rattle.std.specs.Prelude.{slice_get, if◌then◌else◌}
use Rattle.std.proofs.lemmas.List.{drop-take}
use Rattle.rev_num.specs.declared.value.ValueKind.{ValueKind}
use Rattle.rev_code.specs.declared.code.Code.{Code}
use Rattle.rev_code.specs.declared.code.CodeBlock.{CodeBlock}
use Rattle.rev_code.specs.declared.code.Instr.{Instr}
use Rattle.rev_code.specs.Words.{Word, fits}
use Rattle.rev_code.specs.State.{Frame, State}
use Rattle.rev_code.specs.Step.{act, act_at, act_in, arguments, goes, stuck, step}
use Rattle.rev_code.specs.Funs.{setting}
use Rattle.code_rules.specs.Shapes.{begins, takes}
use Rattle.code_rules.specs.Pass.{is_bare, names}
use Rattle.code_rules.specs.Verdict.{first_fault}
use Rattle.code_soundness.specs.Certificate.{IsNoted}
use Rattle.code_soundness.proofs.Basics.{some_eq}
use Rattle.code_soundness.specs.Typed.{kinds_of, IsRevision}
use Rattle.code_soundness.specs.AcceptedCode.{IsAccepted, notes_of}
use Rattle.code_soundness.proofs.Accepting.{no_fault_accepted}
use Rattle.code_soundness.proofs.Lists.{kinds_length, reverse_length, take_append}
use Rattle.code_soundness.proofs.Places.{operand_good}
use Rattle.code_soundness.proofs.Reaching.{has_step, is_safe}
use Rattle.block_run.specs.Agreement.{AreWords}
use Rattle.block_run.specs.Area.{low, stack_of}
use Rattle.block_run.specs.Standing.{program, Here, IsRoomy}
use Rattle.block_run.proofs.Onward.{stack_length, words_length}
use Rattle.fun_run.proofs.Slices.{take_shorter}
use Rattle.leg_run.specs.declared.revision.Run.{Run}
use Rattle.leg_run.specs.declared.revision.Waiting.{Waiting}
use Rattle.leg_run.specs.Ends.{Leaves}
use Rattle.leg_run.specs.Standing.{AreBelow, Stands}

-- ---- the area

pub part_same : (ws ws' : List ℕ) (above base n : ℕ) → take above ws' ≡ take above ws → base + n ≤ above
    → take n (drop base ws') ≡ take n (drop base ws)
part_same ws ws' above base n e h =
    sym (drop-take base n ws') ∙ ap (drop base) (take_shorter ws' ws above (base + n) h e) ∙ drop-take base n ws

pub take_whole : (ws : List ℕ) → take (length ws) ws ≡ ws
take_whole [] = refl
take_whole (w ∷ ws) = ap (λ xs. w ∷ xs) (take_whole ws)

-- words put back into an area of as many
pub refilled : (ws old : List ℕ) (n : ℕ) → n ≡ length ws → take n (ws ++ drop (length ws) old) ≡ ws
refilled ws old n e = ap (λ m. take m (ws ++ drop (length ws) old)) e ∙ take_append ws (drop (length ws) old)

pub below_length : (code : Code) (ws : List ℕ) (above : ℕ) (fs : List (Frame ℕ)) (waits : List Waiting)
    → AreBelow code ws above fs waits → length fs ≡ length waits
below_length code ws above [] [] h = refl
below_length code ws above [] (w ∷ waits) h = absurd h
below_length code ws above (f ∷ fs) [] h = absurd h
below_length code ws above (f ∷ fs) (w ∷ waits) h = ap suc (below_length code ws w.base fs waits h.1)

-- frames lie below the place above them
pub frames_still : (code : Code) (ws ws' : List ℕ) (above : ℕ) (fs : List (Frame ℕ)) (waits : List Waiting)
    → take above ws' ≡ take above ws → length ws ≤ length ws'
    → AreBelow code ws above fs waits → AreBelow code ws' above fs waits
frames_still code ws ws' above [] [] e l h = tt
frames_still code ws ws' above [] (w ∷ waits) e l h = absurd h
frames_still code ws ws' above (f ∷ fs) [] e l h = absurd h
frames_still code ws ws' above (f ∷ fs) (w ∷ waits) e l h =
    let a = h.0 in
    let behind = a.behind in (
      record {
        body = a.body;
        is = a.is;
        block = a.block;
        at = a.at;
        locals = subst (AreWords f.locals)
            (sym (part_same ws ws' above w.base (length a.body.locals) e (omega (arith, behind)))) a.locals;
        behind = behind;
        room = λ at k. (let r = a.room at k in omega (arith, r, l));
      },
      frames_still code ws ws' w.base fs waits (take_shorter ws' ws above w.base (omega (arith, behind)) e) l h.1,
    )

-- ---- arguments

pub arguments_are : (kinds : List ValueKind) (stack args : List (Word ℕ)) → arguments kinds stack ≡ Some args
    → args ≡ reverse (take (length kinds) stack)
arguments_are kinds stack args e = by (fits kinds (reverse (take (length kinds) stack))) e
  where
    by : (d : Bool) → (if d then Some (reverse (take (length kinds) stack)) else None) ≡ Some args
        → args ≡ reverse (take (length kinds) stack)
    by true e = sym (some_eq e)
    by false e = absurd (none_no e)
      where
        none_no : None ≡ Some args → ⊥
        none_no h = cc

-- ---- an instruction

module _ (code : Code) (ok : first_fault code ≡ None) (inputs : List ℤ) (share : ℕ) (run : Run) (seen : ℕ → ℕ)
    (root : ℕ → Option ℕ) (c : State ℕ)
    (st : Stands code inputs share run seen root c) (b : CodeBlock)
    (is : slice_get code.blocks run.registers.block ≡ Some b) where
  pub accepted : IsAccepted code (notes_of code)
  accepted = no_fault_accepted code ok

  pub body_is : st.body ≡ b
  body_is = some_eq (sym st.is ∙ is)

  pub here : Here code inputs (program share) b c run.words.items run.registers seen root
  here = subst (λ y. Here code inputs (program share) y c run.words.items run.registers seen root) body_is st.here

  pub roomy : IsRoomy code b run.registers (length run.words.items)
  roomy = subst (λ y. IsRoomy code y run.registers (length run.words.items)) body_is st.room

  pub good : IsRevision code (notes_of code) c
  good = here.good

  pub block_is : slice_get code.blocks c.block ≡ Some b
  block_is = ap (slice_get code.blocks) here.block ∙ is

  pub height : length c.stack ≡ run.registers.top - low b run.registers
  height = words_length c.stack
      (stack_of run.words.items (low b run.registers) (run.registers.top - low b run.registers)) here.run.stack
      ∙ stack_length run.words.items (low b run.registers) (run.registers.top - low b run.registers)

  pub stands_inside : c.at < length b.instrs
  stands_inside =
      let f = good.typed.frame in
      let e : f.body ≡ b = some_eq (sym f.is ∙ block_is) in
      subst (λ (y : CodeBlock). c.at < length y.instrs) e f.inside

  pub top_inside : run.registers.top ≤ length run.words.items
  top_inside =
      let h = height in let o = here.top in let r = roomy c.at stands_inside in
      let d : length c.stack ≡ length (notes_of code run.registers.block c.at).shape =
      sym (kinds_length c.stack) ∙ ap length good.typed.stack
      ∙ ap (λ n. length (notes_of code n c.at).shape) here.block in
      omega (arith, h, o, r, d)

  pub frames_many : length c.below ≡ length run.below.items
  frames_many =
      below_length code run.words.items run.registers.base c.below (reverse run.below.items) st.below
      ∙ reverse_length run.below.items

  pub leaves_it : Leaves code run seen root c
  leaves_it = record {
    locations = here.locations;
    kinds = good.locations;
    fuel = sym here.run.fuel;
    line = sym here.run.line;
    forks = st.forks;
    listed = st.listed;
    text = st.text;
  }

  pub next_good : (c' : State ℕ) → step (setting code inputs share) c ≡ goes c' → IsRevision code (notes_of code) c'
  next_good c' e = (is_safe ℕ code (notes_of code) accepted inputs share c good).goes c' e

  module _ (x : Instr) (at : slice_get b.instrs run.registers.at ≡ Some x) where
    pub instr_is : slice_get b.instrs c.at ≡ Some x
    instr_is = ap (slice_get b.instrs) (sym here.run.at) ∙ at

    pub step_is : step (setting code inputs share) c ≡ act (setting code inputs share) b c x
    step_is = ap (act_in (setting code inputs share) c) block_is ∙ ap (act_at (setting code inputs share) b c) instr_is

    pub has : act (setting code inputs share) b c x ≢ stuck
    has e = (has_step ℕ code (notes_of code) accepted inputs share c good).event (step_is ∙ e)

    noted : IsNoted code c.block b (notes_of code c.block) c.at x
    noted = (accepted.certified c.block b block_is).each c.at x instr_is

    pub found : begins (takes code b (kinds_of c.stack) x) (kinds_of c.stack) ≡ true
    found = subst (λ s. begins (takes code b s x) s ≡ true) (sym good.typed.stack) noted.found

    pub bare : is_bare x ≡ true → length c.stack ≡ length (takes code b (kinds_of c.stack) x)
    bare h = sym (kinds_length c.stack)
        ∙ subst (λ s. length s ≡ length (takes code b s x)) (sym good.typed.stack) (noted.bare h)

    pub named : names code c.block x ≡ true
    named = (operand_good code c.block b x noted.operand).0
