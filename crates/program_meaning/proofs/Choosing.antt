-- Blocks, `if` and `while`.
use Rattle.std.proofs.Common.{◌≡◌, ℕ, suc, ◌+◌, Bool, true, false, cond, List, [], ◌∷◌, ◌++◌, length, Some, refl, sym, ap, subst, arith, true≢false}
use Rattle.std.specs.Prelude.{slice_get, if◌then◌else◌, Result, Ok}
use Rattle.rev_num.specs.Path.{Path}
use Rattle.rev_num.specs.declared.value.Value.{Value}
use Rattle.rev_num.specs.declared.value.Value.TheVariants as v
use Rattle.rev_num.specs.declared.value.ValueKind.TheVariants as k
use Rattle.rev_num.specs.Value.{kind_of}
use Rattle.rev_num.specs.declared.outcome.Cause.{Cause}
use Rattle.rev_syntax.specs.Trees.{Expression, Statement, statement, repeat, Statements, no_statements, statements, Arms, no_arms, arm}
use Rattle.rev_syntax.specs.Small.{expression_small, statements_small}
use Rattle.typed_programs.specs.Value.{truth_of}
use Rattle.typed_programs.specs.Kinds.{Locals}
use Rattle.typed_programs.proofs.Lists.{and_parts}
use Rattle.typed_programs.specs.Judgement.{Returns}
use Rattle.typed_programs.proofs.Applying.{small_formed}
use Rattle.revision_machine.specs.Machine.{Event, Moves}
use Rattle.revision_calculus.specs.Program.{Setting}
use Rattle.revision_calculus.specs.State.{Frame, Local}
use Rattle.rev_code.specs.declared.code.Instr.{Instr}
use Rattle.rev_code.specs.declared.code.Instr.TheVariants as i
use Rattle.rev_code.specs.declared.code.CodeBlock.{CodeBlock}
use Rattle.rev_code.specs.Words as words
use Rattle.rev_code.specs.State.{State}
use Rattle.rev_code.specs.Step as r
use Rattle.rev_code.specs.Step.{goes, Steps}
use Rattle.code_generation.specs.Numbers.{Scope}
use Rattle.code_generation.specs.Expressions.{expression_size, expression_code}
use Rattle.code_generation.specs.Stands.{HasAt}
use Rattle.code_generation.proofs.Standing.{around_stands}
use Rattle.expression_meaning.specs.Agrees.{word, at_with}
use Rattle.expression_meaning.specs.Places.{Tables, StatementStands, BlockStands, LeadsTo, Follows}
use Rattle.program_meaning.proofs.Linked.{IsLinked}
use Rattle.program_meaning.proofs.Reading.{Ready, evaluates}
use Rattle.program_meaning.proofs.Resume.{one, stands}
use Rattle.typed_programs.specs.Statements.{statement_returns, statements_return, arms_return}
use Rattle.revision_calculus.specs.Evaluation.{eval, on_top}
use Rattle.revision_calculus.specs.Step.{with_answer, append, enter, select, does}
use Rattle.revision_calculus.proofs.ScopeKinds.{returns_behind, returns_block, returns_before}
use Rattle.code_generation.specs.Sizes.{statements_size, arms_size, leap_size}
use Rattle.code_generation.specs.Statements.{Spot, ahead, in_arm, next_arm, leap, statements_code}
use Rattle.code_generation.specs.Prints.{statements_texts}
use Rattle.code_generation.proofs.Lengths.{around, expression_length, statements_length}
use Rattle.expression_meaning.proofs.Parts.{within_self}
use Rattle.expression_meaning.proofs.BlockPlaces.{follows_before, block_follows, ArmsStand, first_arm}
use Rattle.program_meaning.proofs.Calls.{Comes_to, moved, did_on, after_value, after_then}

-- where the other arms return too, so did what stands before them
arm_before : (d : Bool) (rest : Arms) → arms_return d rest ≡ true → d ≡ true
arm_before d no_arms h = h
arm_before d (arm test body rest) h = by d (arm_before (if d then statements_return false body else false) rest h)
  where
    by : (c : Bool) → (if c then statements_return false body else false) ≡ true → c ≡ true
    by true e = refl
    by false e = e

pub both_parts : (d e : Bool) → (if d then e else false) ≡ true → (d ≡ true) × (e ≡ true)
both_parts true e h = (refl, h)
both_parts false e h = absurd (true≢false (sym h))

module _ (s : Setting) (g : Tables) (lk : IsLinked s g) (p : Path) where
  module _ (b : CodeBlock) (scope : Scope) (l : Local) (f : Frame) (fs : List Frame) (c : State Path)
      (rd : Ready s g b scope l f fs c) where
    -- ---- blocks

    pub stands_at : (at : ℕ) → Follows s g b scope f.rest at → Returns b.result f.rest
        → Comes_to s g p (at_with c at []) (Moves l)
    stands_at at fo re =
        moved s g p (at_with c at []) (at_with c at []) l rd.phase r.none
        (stands s g l f fs c b scope at rd.shared rd.frames rd.is rd.locals fo re rd.below)

    pub ready_block : (block : Statements)
        → Ready s g b scope (enter block l) (record f { rest = append block f.rest }) fs c
    ready_block block = record {
      shared = rd.shared;
      frames = ap (on_top (λ h. record h { rest = append block h.rest })) rd.frames;
      is = rd.is;
      locals = rd.locals;
      kinded = rd.kinded;
      apart = rd.apart;
      phase = rd.phase;
      below = rd.below;
    }

  pub enters : (b : CodeBlock) (scope : Scope) (l : Local) (f : Frame) (fs : List Frame) (c : State Path) (at : ℕ)
      (block : Statements)
      → Ready s g b scope l f fs c → Follows s g b scope (append block f.rest) at
      → Returns b.result (append block f.rest)
      → Comes_to s g p (at_with c at []) (Moves (enter block l))
  enters b scope l f fs c at block rd fo re =
      stands_at b scope (enter block l) (record f { rest = append block f.rest }) fs c
      (ready_block b scope l f fs c rd block) at fo re

  -- a test, and then one of two places
  tested : (b : CodeBlock) (c : State Path) (m next : ℕ) (x : Value) → slice_get g.setting.code.blocks c.block ≡ Some b
      → slice_get b.instrs m ≡ Some (i.JumpIfFalse next) → kind_of x ≡ k.Bool
      → Steps g.setting (at_with c m (word x ∷ [])) (at_with c (cond (truth_of x) (suc m) next) [])
  tested b c m next (v.Bool d) is h kx =
      r.more (one s g b (at_with c m (words.bool d ∷ [])) (i.JumpIfFalse next)
      (goes (at_with c (cond d (suc m) next) [])) is h refl)
      r.none
  tested b c m next (v.Int z) is h kx = absurd (let q : k.Int ≡ k.Bool = kx in cc)
  tested b c m next (v.Rev z) is h kx = absurd (let q : k.Rev ≡ k.Bool = kx in cc)

  module _ (b : CodeBlock) (scope : Scope) (l : Local) (f : Frame) (fs : List Frame) (c : State Path)
      (rd : Ready s g b scope l f fs c) (ls : Locals) where
    -- ---- if

    -- behind the block of an arm the code leads to the end
    leap_leads : (has_last : Bool) (rest : Arms) (place end : ℕ) → HasAt b.instrs place (leap has_last rest end)
        → (has_last ≡ false → rest ≡ no_arms → place ≡ end) → LeadsTo s g b place end
    leap_leads false no_arms place end h e = (0, e refl refl)
    leap_leads true no_arms place end h e = (1, (end, h.0, refl))
    leap_leads false (arm test body rest) place end h e = (1, (end, h.0, refl))
    leap_leads true (arm test body rest) place end h e = (1, (end, h.0, refl))

    module _ (x : Statement) (last : Statements) (last_spot : Spot) (last_text end : ℕ)
        (last_stands : BlockStands s g b scope ls last_spot last_text last) (has_last : Bool)
        (none : has_last ≡ false → last_spot.at ≡ end)
        (fo : Follows s g b scope f.rest end) (ends : last_spot.at + statements_size g.numbers last ≡ end)
        (re : Returns b.result (statements x f.rest)) where
      abbrev entered : Statements → Event Local
      entered block = Moves (enter block l)

      pub arms_run : (arms : Arms) (sp : Spot) (text : ℕ) (d : Bool)
          → ArmsStand s g b scope ls sp text has_last arms end
          → last_spot.at ≡ sp.at + arms_size g.numbers has_last arms
          → (statement_returns x ≡ true → (arms_return d arms ≡ true) × (statements_return false last ≡ true))
          → Comes_to s g p (at_with c sp.at []) (with_answer p l (select s l arms last) entered)
      arms_run no_arms sp text d st place ret =
          let follows =
          block_follows s g b scope scope ls last_spot last_text last f.rest last_stands (within_self scope)
          (subst (λ q. Follows s g b scope f.rest q) (sym ends) fo) in
          let here : last_spot.at ≡ sp.at = omega (arith, place) in
          enters b scope l f fs c sp.at last rd (subst (λ q. Follows s g b scope (append last f.rest) q) here follows)
          (returns_block b.result x last f.rest (λ e. (ret e).1) re)
      arms_run (arm test body rest) sp text d st place ret =
          let a = first_arm s g b scope ls sp text has_last test body rest end st in
          let m : ℕ = sp.at + expression_size test in
          let next : Spot = next_arm g.numbers sp has_last test body rest in
          let inside : Spot = in_arm sp test in
          let later =
          arms_run rest next (text + length (statements_texts body)) (if d then statements_return false body else false)
          a.others
          (let z : last_spot.at
          ≡ sp.at + (expression_size test + 1) + statements_size g.numbers body + leap_size has_last rest
          + arms_size g.numbers has_last rest = omega (arith, place) in
          z)
          ret in
          let inner : statement_returns x ≡ true → (d ≡ true) × (statements_return false body ≡ true) =
          λ e. both_parts d (statements_return false body)
          (arm_before (if d then statements_return false body else false) rest (ret e).0) in
          let behind : ℕ = sp.at + expression_size test + 1 + statements_size g.numbers body in
          let to_end : LeadsTo s g b behind end =
          leap_leads has_last rest behind end a.leap
          (λ last_none gone. arm_end has_last refl rest sp test body place last_none gone) in
          let at_end : Follows s g b scope f.rest (inside.at + statements_size g.numbers body) =
          subst (λ q. Follows s g b scope f.rest q)
          (let z : behind ≡ sp.at + (expression_size test + 1) + statements_size g.numbers body = omega arith in z)
          (follows_before s g b scope f.rest to_end.0 behind end to_end.1 fo) in
          let follows = block_follows s g b scope scope ls inside text body f.rest a.block (within_self scope) at_end in
          let entering : Comes_to s g p (at_with c (suc m) []) (entered body) =
          enters b scope l f fs c (suc m) body rd
          (subst (λ q. Follows s g b scope (append body f.rest) q)
          (let z : sp.at + (expression_size test + 1) ≡ suc m = omega arith in z) follows)
          (returns_block b.result x body f.rest (λ e. (inner e).1) re) in
          after_then s g p c l sp.at m k.Bool (eval s l test)
          (λ y. if truth_of y then Ok body else select s l rest last) entered rd.shared
          (evaluates s g lk b scope ls sp.local l f fs c rd st.known test k.Bool sp.at [] a.kind
          (small_formed test a.small) a.code)
          (λ y ky. did_on s g p (at_with c m (word y ∷ [])) (at_with c (cond (truth_of y) (suc m) next.at) [])
          (with_answer p l (if truth_of y then Ok body else select s l rest last) entered)
          (tested b c m next.at y rd.is a.jump ky)
          (by m next.at body (select s l rest last) entering later (truth_of y)))
        where
          by : (m to : ℕ) (block : Statements) (o : Result Statements Cause)
              → Comes_to s g p (at_with c (suc m) []) (entered block)
              → Comes_to s g p (at_with c to []) (with_answer p l o entered)
              → (z : Bool)
              → Comes_to s g p (at_with c (cond z (suc m) to) []) (with_answer p l (if z then Ok block else o) entered)
          by m to block o yes_so no_so true = yes_so
          by m to block o yes_so no_so false = no_so

          -- where no last block and no arm is behind, the block of the arm ends at the end
          arm_end : (has : Bool) → has_last ≡ has → (rest : Arms) (sp : Spot) (test : Expression) (body : Statements)
              → last_spot.at
              ≡ sp.at
              + (expression_size test + 1 + statements_size g.numbers body + leap_size has rest
              + arms_size g.numbers has rest)
              → has ≡ false → rest ≡ no_arms → sp.at + expression_size test + 1 + statements_size g.numbers body ≡ end
          arm_end false is no_arms sp test body place last_none gone = let z = none is in omega (arith, place, z)
          arm_end true is no_arms sp test body place last_none gone = absurd (true≢false last_none)
          arm_end has is (arm t2 b2 r2) sp test body place last_none gone =
              absurd (let z : arm t2 b2 r2 ≡ no_arms = gone in cc)

    -- ---- while

    pub while_runs : (sp : Spot) (text pl line : ℕ) (after : Locals) (test : Expression) (body : Statements)
        → StatementStands s g b scope ls sp text (statement pl line (repeat test body)) after
        → Follows s g b scope f.rest (sp.at + (1 + (expression_size test + 1 + statements_size g.numbers body + 1)))
        → Returns b.result (statements (statement pl line (repeat test body)) f.rest)
        → Comes_to s g p (at_with c (sp.at + 1) []) (does s p l (statement pl line (repeat test body)))
    while_runs sp text pl line after test body st fo re =
        let at : ℕ = sp.at + 1 in
        let m : ℕ = at + expression_size test in
        let inside : Spot = in_arm (ahead sp 1) test in
        let out : ℕ = at + expression_size test + 1 + statements_size g.numbers body + 1 in
        let w : Statement = statement pl line (repeat test body) in
        let front : List Instr =
        expression_code g.numbers scope test at ++ i.JumpIfFalse out ∷ statements_code g.numbers scope body inside in
        let size =
        around (expression_code g.numbers scope test at) (statements_code g.numbers scope body inside)
        (i.JumpIfFalse out) (expression_size test) (statements_size g.numbers body)
        (expression_length g.numbers scope test at) (statements_length g.numbers scope body inside) in
        let code =
        subst (λ q. HasAt b.instrs q (front ++ i.Jump sp.at ∷ [])) (let z : suc sp.at ≡ at = omega arith in z)
        st.code.1 in
        let m2 : ℕ = expression_size test + 1 + statements_size g.numbers body in
        let outer = around_stands b.instrs front [] (i.Jump sp.at) at m2 (at + m2 + 1) size refl code in
        let inner =
        around_stands b.instrs (expression_code g.numbers scope test at) (statements_code g.numbers scope body inside)
        (i.JumpIfFalse out) at (expression_size test) inside.at (expression_length g.numbers scope test at)
        (omega arith) outer.0 in
        let small = and_parts (expression_small test) (statements_small body) st.small in
        let block : BlockStands s g b scope ls inside text body = record {
          known = st.known;
          typed = st.typed.0.1;
          small = small.1;
          code = inner.1.1;
          kinds = st.kinds;
          layouts = st.layouts;
          texts = st.texts;
        } in
        let again : Local = enter (statements w no_statements) l in
        let f1 : Frame = record f { rest = statements w f.rest } in
        let jump_here : slice_get b.instrs (inside.at + statements_size g.numbers body) ≡ Some (i.Jump sp.at) =
        subst (λ q. slice_get b.instrs q ≡ Some (i.Jump sp.at))
        (let z : at + m2 ≡ at + (expression_size test + 1) + statements_size g.numbers body = omega arith in z)
        outer.1.0 in
        let loop : Follows s g b scope (statements w f.rest) (inside.at + statements_size g.numbers body) =
        (scope, ls, after, sp, text, (1, (sp.at, jump_here, refl)), within_self scope, st, fo) in
        let follows =
        block_follows s g b scope scope ls inside text body (statements w f.rest) block (within_self scope) loop in
        let entering : Comes_to s g p (at_with c (suc m) []) (Moves (enter body again)) =
        enters b scope again f1 fs c (suc m) body (ready_block b scope l f fs c rd (statements w no_statements))
        (subst (λ q. Follows s g b scope (append body (statements w f.rest)) q)
        (let z : at + (expression_size test + 1) ≡ suc m = omega arith in z) follows)
        (returns_before b.result body (statements w f.rest) re) in
        let leaving : Comes_to s g p (at_with c out []) (Moves l) =
        stands_at b scope l f fs c rd out
        (subst (λ q. Follows s g b scope f.rest q)
        (let z : sp.at + (1 + (expression_size test + 1 + statements_size g.numbers body + 1)) ≡ out = omega arith in z)
        fo)
        (returns_behind b.result w f.rest refl re) in
        after_value s g p c l at m [] [] k.Bool (eval s l test)
        (λ y. Moves (if truth_of y then enter body again else l)) rd.shared
        (evaluates s g lk b scope ls sp.local l f fs c rd st.known test k.Bool at [] st.typed.0.0
        (small_formed test small.0) inner.0)
        (λ y ky. did_on s g p (at_with c m (word y ∷ [])) (at_with c (cond (truth_of y) (suc m) out) [])
        (Moves (if truth_of y then enter body again else l)) (tested b c m out y rd.is inner.1.0 ky)
        (by m out (enter body again) entering leaving (truth_of y)))
      where
        by : (m to : ℕ) (l2 : Local) → Comes_to s g p (at_with c (suc m) []) (Moves l2)
            → Comes_to s g p (at_with c to []) (Moves l)
            → (z : Bool) → Comes_to s g p (at_with c (cond z (suc m) to) []) (Moves (if z then l2 else l))
        by m to l2 yes_so no_so true = yes_so
        by m to l2 yes_so no_so false = no_so
