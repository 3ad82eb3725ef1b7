-- The code of each statement does what the statement does.
use Rattle.std.proofs.Common.{◌≡◌, ℕ, zero, suc, ◌+◌, Bool, true, false, List, [], ◌∷◌, ◌++◌, length, Option, Some, None, refl, sym, ap, subst, arith, true≢false}
use Rattle.std.specs.Prelude.{slice_get, if◌then◌else◌, is_some}
use Rattle.rev_num.specs.Path.{Path}
use Rattle.rev_num.specs.declared.value.ValueKind.{ValueKind}
use Rattle.rev_num.specs.declared.value.ValueKind.TheVariants as k
use Rattle.rev_num.specs.declared.outcome.Cause.TheVariants as cause
use Rattle.rev_syntax.specs.Trees.{PlacedName, Expression, Expressions, statement, StatementForm, bind, assign, assign_cell, choose, choose_or, repeat, call, return, fork, join, print, assert, Statements, no_statements, statements}
use Rattle.rev_syntax.specs.Trees as tree
use Rattle.rev_syntax.specs.Small.{name_formed, expressions_small, statements_small, arms_small}
use Rattle.typed_programs.specs.Value.{truth_of}
use Rattle.typed_programs.specs.Kinds.{Locals}
use Rattle.typed_programs.specs.Typing.{HasKind}
use Rattle.typed_programs.proofs.Lists.{and_parts}
use Rattle.typed_programs.specs.Judgement.{Returns, ReturnTyped}
use Rattle.typed_programs.proofs.Applying.{small_formed}
use Rattle.revision_machine.specs.Machine.{Moves}
use Rattle.revision_calculus.specs.Program.{Setting}
use Rattle.revision_calculus.specs.State.{Frame, running, Local}
use Rattle.revision_calculus.specs.Kinded.{names, FramesAre, FramesAt, IsKinded}
use Rattle.rev_code.specs.declared.code.Instr.{Instr}
use Rattle.rev_code.specs.declared.code.Instr.TheVariants as i
use Rattle.rev_code.specs.declared.code.CodeBlock.{CodeBlock}
use Rattle.rev_code.specs.Words as words
use Rattle.rev_code.specs.State.{State}
use Rattle.rev_code.specs.Step as r
use Rattle.rev_code.specs.Step.{goes, step}
use Rattle.code_generation.specs.Numbers.{Scope, scope_after}
use Rattle.code_generation.specs.Expressions.{expression_size, expression_code, expressions_size, expressions_code}
use Rattle.code_generation.specs.Stands.{HasAt}
use Rattle.code_generation.proofs.Standing.{parts_stand, around_stands}
use Rattle.expression_meaning.specs.Agrees.{word, at_with}
use Rattle.expression_meaning.proofs.Words.{as_bool}
use Rattle.expression_meaning.specs.Places.{Tables, AreNames, StatementStands, BlockStands, EndAt, Follows}
use Rattle.expression_meaning.specs.States.{IsShared, DropAt, Behind, Stands}
use Rattle.program_meaning.proofs.Linked.{IsLinked}
use Rattle.program_meaning.proofs.Reading.{Ready, evaluates}
use Rattle.program_meaning.proofs.Resume.{one, leads, stands}
use Rattle.typed_programs.specs.Statements.{statements_return, arms_return}
use Rattle.typed_programs.proofs.Returning.{none_end}
use Rattle.typed_programs.specs.Limits.{arms_lets}
use Rattle.revision_calculus.specs.Evaluation.{eval, evals}
use Rattle.revision_calculus.specs.Step.{traps, with_answer, end_frame, calls, forks, joins, item_texts, line_of, does, begins, by_rest, by_frames, by_phase, next}
use Rattle.revision_calculus.proofs.ScopeKinds.{returns_behind}
use Rattle.code_generation.specs.Sizes.{items_size, dropped_size, statement_size, statements_size, arms_size, arms_prints}
use Rattle.code_generation.specs.Statements.{Spot, ahead, behind_arms, dropped, items_code, arms_code, statements_code}
use Rattle.code_generation.specs.Prints.{arms_kinds, statements_kinds, arms_layouts, statements_layouts, arms_texts, statements_texts}
use Rattle.code_generation.proofs.Lengths.{expression_length, items_length, arms_length, arms_locals, arms_prints_length}
use Rattle.expression_meaning.proofs.Locals.{locals_within}
use Rattle.expression_meaning.proofs.Parts.{names_later}
use Rattle.expression_meaning.proofs.BlockPlaces.{ArmsStand}
use Rattle.program_meaning.specs.Steps.{Carries, Walks, Did}
use Rattle.program_meaning.proofs.Calls.{Comes_to, moved, did_on, walked, unwalked, then_walks, trap, after_value, joined, returned}
use Rattle.program_meaning.proofs.Calls as runs
use Rattle.program_meaning.proofs.Prints.{prints}
use Rattle.program_meaning.proofs.Assigning.{arguments_then, behind_arguments, let_runs, assign_runs, cell_runs}
use Rattle.program_meaning.proofs.Choosing.{both_parts, stands_at, arms_run, while_runs}

module _ (s : Setting) (g : Tables) (lk : IsLinked s g) (p : Path) where
  module _ (b : CodeBlock) (scope : Scope) (l : Local) (f : Frame) (fs : List Frame) (c : State Path)
      (rd : Ready s g b scope l f fs c) (ls : Locals) (sp : Spot) (text pl line : ℕ) (after : Locals) where
    abbrev Here : StatementForm → Type 0
    Here form = StatementStands s g b scope ls sp text (statement pl line form) after

    -- the code behind the Charge
    behind_charge : (code : List Instr) → HasAt b.instrs (suc sp.at) code → HasAt b.instrs (sp.at + 1) code
    behind_charge code h = subst (λ q. HasAt b.instrs q code) (let z : suc sp.at ≡ sp.at + 1 = omega arith in z) h

    -- what follows without a left side
    dropping : (given : Option ValueKind) (m to : ℕ) → AreNames b.locals scope ls sp.local → DropAt s g b given m to
        → Follows s g b scope f.rest to → Returns b.result f.rest → Behind s g l None given f fs (at_with c m [])
    dropping given m to are drop fo re = record {
      shared = rd.shared;
      frames = rd.frames;
      block = b;
      waits = record {
        is = rd.is;
        scope = scope;
        locals = rd.locals;
        apart = are.apart;
        to = to;
        back = drop;
        follows = fo;
        returns = re;
      };
      below = rd.below;
    }

    -- ---- calls and forks

    drop_there : (given : Option ValueKind) (gives : Bool) (m : ℕ) → gives ≡ is_some given
        → HasAt b.instrs m (dropped gives) → DropAt s g b given m (m + dropped_size gives)
    drop_there None true m e h = absurd (let z : true ≡ false = e in cc)
    drop_there None false m e h = omega arith
    drop_there (Some t) true m e h = (h.0, omega arith)
    drop_there (Some t) false m e h = absurd (let z : false ≡ true = e in cc)

    call_runs : (w : PlacedName) (args : Expressions) → Here (call w args)
        → Follows s g b scope f.rest (sp.at + (1 + (expressions_size args + 1 + dropped_size (g.numbers.gives w.text))))
        → Returns b.result f.rest
        → Comes_to s g p (at_with c (sp.at + 1) []) (with_answer p l (evals s l args) (calls s p l None w.text))
    call_runs w args st fo re =
        let at : ℕ = sp.at + 1 in
        let m : ℕ = at + expressions_size args in
        let q = st.typed.0.0 in
        let gives : Bool = g.numbers.gives w.text in
        let y : Instr = i.Call (g.numbers.proc w.text) in
        let code = behind_charge (expressions_code g.numbers scope args at ++ y ∷ dropped gives) st.code.1 in
        let there = behind_arguments s g lk p b scope ls sp.local l f fs c rd st.known args y (dropped gives) at code in
        let drop = drop_there q.result gives (suc m) (lk.gives w.text q st.typed.0.1.0) there.1 in
        let fo' =
        subst (λ z. Follows s g b scope f.rest z)
        (let z : sp.at + (1 + (expressions_size args + 1 + dropped_size gives)) ≡ suc m + dropped_size gives =
        omega arith in
        z)
        fo in
        let bh = dropping q.result (suc m) (suc m + dropped_size gives) st.known drop fo' re in
        arguments_then s g lk p b scope ls sp.local l f fs c rd st.known args w q y (dropped gives) at
        (calls s p l None w.text) st.typed.0.1 (and_parts (name_formed w) (expressions_small args) st.small).1 code
        (λ xs is. runs.called s g p lk b scope l f fs c rd w.text q st.typed.0.1.0 m None there.0 bh xs is)

    fork_runs : (w : PlacedName) (args : Expressions) → Here (fork w args)
        → Follows s g b scope f.rest (sp.at + (1 + (expressions_size args + 2))) → Returns b.result f.rest
        → Comes_to s g p (at_with c (sp.at + 1) []) (with_answer p l (evals s l args) (forks s p l None w.text))
    fork_runs w args st fo re =
        let at : ℕ = sp.at + 1 in
        let m : ℕ = at + expressions_size args in
        let q = st.typed.0.0 in
        let y : Instr = i.Fork (g.numbers.proc w.text) in
        let code = behind_charge (expressions_code g.numbers scope args at ++ y ∷ i.Pop ∷ []) st.code.1 in
        let there = behind_arguments s g lk p b scope ls sp.local l f fs c rd st.known args y (i.Pop ∷ []) at code in
        let bh = dropping (Some k.Rev) (suc m) (sp.at + (1 + (expressions_size args + 2))) st.known
        (there.1.0, omega arith) fo re in
        arguments_then s g lk p b scope ls sp.local l f fs c rd st.known args w q y (i.Pop ∷ []) at
        (forks s p l None w.text) st.typed.0.1 (and_parts (name_formed w) (expressions_small args) st.small).1 code
        (λ xs is. runs.forked s g p lk b scope l f fs c rd w.text q st.typed.0.1.0 m None there.0 bh xs is)

    -- ---- joins

    join_runs : (e : Expression) → Here (join e) → Follows s g b scope f.rest (sp.at + (1 + (expression_size e + 1)))
        → Returns b.result f.rest
        → Comes_to s g p (at_with c (sp.at + 1) []) (with_answer p l (eval s l e) (joins p l None))
    join_runs e st fo re =
        let at : ℕ = sp.at + 1 in
        let m : ℕ = at + expression_size e in
        let parts =
        around_stands b.instrs (expression_code g.numbers scope e at) [] i.Join at (expression_size e) (m + 1)
        (expression_length g.numbers scope e at) refl
        (behind_charge (expression_code g.numbers scope e at ++ i.Join ∷ []) st.code.1) in
        let bh = dropping None (suc m) (sp.at + (1 + (expression_size e + 1))) st.known (omega arith) fo re in
        after_value s g p c l at m [] [] k.Rev (eval s l e) (joins p l None) rd.shared
        (evaluates s g lk b scope ls sp.local l f fs c rd st.known e k.Rev at [] st.typed.0 (small_formed e st.small)
        parts.0)
        (λ x kx. joined s g p lk b scope l f fs c m None rd parts.1.0 bh x kx)

    -- ---- returns

    return_runs : (o : Option Expression) → Here (return o)
        → Comes_to s g p (at_with c (sp.at + 1) []) (does s p l (statement pl line (return o)))
    return_runs None st =
        let code = behind_charge (i.Return ∷ []) st.code.1 in
        let no_result : b.result ≡ None = none_given b.result refl st.typed.0 in
        subst (λ z. Comes_to s g p (at_with c (sp.at + 1) []) (Moves (end_frame s l z None))) (sym rd.frames)
        (unwalked s g p (at_with c (sp.at + 1) []) (end_frame s l (f ∷ fs) None)
        (returned s g p lk b l f fs c (sp.at + 1) [] None rd.shared rd.phase rd.is code.0
        (subst (λ z. Carries z None []) (sym no_result) refl) rd.below))
      where
        none_given : (o : Option ValueKind) → b.result ≡ o → ReturnTyped (names s) ls b.result None → b.result ≡ None
        none_given None e h = e
        none_given (Some t) e h = absurd (subst (λ z. ReturnTyped (names s) ls z None) e h)
    return_runs (Some e) st =
        let at : ℕ = sp.at + 1 in
        let m : ℕ = at + expression_size e in
        let parts =
        around_stands b.instrs (expression_code g.numbers scope e at) [] i.Return at (expression_size e) (m + 1)
        (expression_length g.numbers scope e at) refl
        (behind_charge (expression_code g.numbers scope e at ++ i.Return ∷ []) st.code.1) in
        let t = some_given b.result refl st.typed.0 in
        after_value s g p c l at m [] [] t.0 (eval s l e) (λ x. Moves (end_frame s l l.frames (Some x))) rd.shared
        (evaluates s g lk b scope ls sp.local l f fs c rd st.known e t.0 at [] t.2 (small_formed e st.small) parts.0)
        (λ x kx. subst (λ z. Comes_to s g p (at_with c m (word x ∷ [])) (Moves (end_frame s l z (Some x))))
        (sym rd.frames)
        (unwalked s g p (at_with c m (word x ∷ [])) (end_frame s l (f ∷ fs) (Some x))
        (returned s g p lk b l f fs c m (word x ∷ []) (Some x) rd.shared rd.phase rd.is parts.1.0
        (subst (λ z. Carries z (Some x) (word x ∷ [])) (sym t.1) (refl, kx)) rd.below)))
      where
        some_given : (o : Option ValueKind) → b.result ≡ o → ReturnTyped (names s) ls b.result (Some e)
            → (t : ValueKind) × (b.result ≡ Some t) × HasKind (names s) ls e t
        some_given None q h = absurd (subst (λ z. ReturnTyped (names s) ls z (Some e)) q h)
        some_given (Some t) q h = (t, q, subst (λ z. ReturnTyped (names s) ls z (Some e)) q h)

    -- ---- asserts and prints

    assert_runs : (e : Expression) → Here (assert e)
        → Follows s g b scope f.rest (sp.at + (1 + (expression_size e + 1))) → Returns b.result f.rest
        → Comes_to s g p (at_with c (sp.at + 1) []) (does s p l (statement pl line (assert e)))
    assert_runs e st fo re =
        let at : ℕ = sp.at + 1 in
        let m : ℕ = at + expression_size e in
        let parts =
        around_stands b.instrs (expression_code g.numbers scope e at) [] i.Assert at (expression_size e) (m + 1)
        (expression_length g.numbers scope e at) refl
        (behind_charge (expression_code g.numbers scope e at ++ i.Assert ∷ []) st.code.1) in
        let fo' =
        subst (λ z. Follows s g b scope f.rest z)
        (let z : sp.at + (1 + (expression_size e + 1)) ≡ suc m = omega arith in z) fo in
        after_value s g p c l at m [] [] k.Bool (eval s l e)
        (λ x. if truth_of x then Moves l else traps p l cause.Assert) rd.shared
        (evaluates s g lk b scope ls sp.local l f fs c rd st.known e k.Bool at [] st.typed.0 (small_formed e st.small)
        parts.0)
        (λ x kx. let d = as_bool x kx in
        subst (λ z. Comes_to s g p (at_with c m (word z ∷ [])) (if truth_of z then Moves l else traps p l cause.Assert))
        (sym d.1) (by m parts.1.0 (stands_at s g lk p b scope l f fs c rd (suc m) fo' re) d.0))
      where
        by : (m : ℕ) → slice_get b.instrs m ≡ Some i.Assert → Comes_to s g p (at_with c (suc m) []) (Moves l)
            → (z : Bool)
            → Comes_to s g p (at_with c m (words.bool z ∷ [])) (if z then Moves l else traps p l cause.Assert)
        by m here goes_so true =
            did_on s g p (at_with c m (words.bool true ∷ [])) (at_with c (suc m) []) (Moves l)
            (r.more
            (one s g b (at_with c m (words.bool true ∷ [])) i.Assert (goes (at_with c (suc m) [])) rd.is here refl)
            r.none)
            goes_so
        by m here goes_so false =
            trap s g p (at_with c m (words.bool false ∷ [])) (at_with c m (words.bool false ∷ [])) l cause.Assert
            rd.shared r.none (one s g b (at_with c m (words.bool false ∷ [])) i.Assert
            (r.traps (at_with c m (words.bool false ∷ [])) cause.Assert) rd.is here refl)

    print_runs : (items : List tree.PrintItem) → Here (print items)
        → Follows s g b scope f.rest (sp.at + (1 + (items_size items + 1))) → Returns b.result f.rest
        → Comes_to s g p (at_with c (sp.at + 1) [])
        (with_answer p l (item_texts s l items) (λ xs. Moves (record l { text = l.text ++ line_of xs })))
    print_runs items st fo re =
        let at : ℕ = sp.at + 1 in
        let m : ℕ = at + items_size items in
        let parts =
        around_stands b.instrs (items_code g.numbers scope items at) [] (i.Print sp.layout) at (items_size items)
        (m + 1) (items_length g.numbers scope items at) refl
        (behind_charge (items_code g.numbers scope items at ++ i.Print sp.layout ∷ []) st.code.1) in
        let fo' =
        subst (λ z. Follows s g b scope f.rest z)
        (let z : sp.at + (1 + (items_size items + 1)) ≡ suc m = omega arith in z) fo in
        prints s g lk p b scope ls sp.local l f fs c rd st.known items at text sp.layout st.typed.0 st.small parts.0
        st.texts parts.1.0 st.layouts.0
        (λ written. let c2 : State Path = record c { at = suc m; stack = []; text = c.text ++ written } in
        let l2 : Local = record l { text = l.text ++ written } in
        let sh : IsShared l2 c2 =
        (rd.shared.0, rd.shared.1, rd.shared.2, rd.shared.3, ap (λ z. z ++ written) rd.shared.4, rd.shared.5) in
        moved s g p c2 c2 l2 rd.phase r.none
        (stands s g l2 f fs c2 b scope (suc m) sh rd.frames rd.is rd.locals fo' re rd.below))

    -- ---- every statement

    pub statement_runs : (form : StatementForm) → Here form
        → Follows s g b (scope_after scope sp.local (statement pl line form)) f.rest
        (sp.at + statement_size g.numbers (statement pl line form))
        → Returns b.result (statements (statement pl line form) f.rest)
        → Comes_to s g p (at_with c (sp.at + 1) []) (does s p l (statement pl line form))
    statement_runs (bind w x) st fo re =
        let_runs s g lk p b scope l f fs c rd ls sp text pl line after w x st fo
        (returns_behind b.result (statement pl line (bind w x)) f.rest refl re)
    statement_runs (assign w x) st fo re =
        assign_runs s g lk p b scope l f fs c rd ls sp text pl line after w x st fo
        (returns_behind b.result (statement pl line (assign w x)) f.rest refl re)
    statement_runs (assign_cell w index e) st fo re =
        cell_runs s g lk p b scope l f fs c rd ls sp text pl line after w index e st fo
        (returns_behind b.result (statement pl line (assign_cell w index e)) f.rest refl re)
    statement_runs (choose arms) st fo re =
        let at : ℕ = sp.at + 1 in
        let end : ℕ = at + arms_size g.numbers false arms in
        let last_spot : Spot = record { at = end; local = sp.local; layout = sp.layout } in
        let all : ArmsStand s g b scope ls (ahead sp 1) text false arms end = record {
          known = st.known;
          typed = st.typed.0;
          small = st.small;
          code = behind_charge (arms_code g.numbers scope false arms end (ahead sp 1)) st.code.1;
          kinds = st.kinds;
          layouts = st.layouts;
          texts = st.texts;
        } in
        let none : BlockStands s g b scope ls last_spot text no_statements =
        record { known = st.known; typed = tt; small = refl; code = tt; kinds = tt; layouts = tt; texts = tt } in
        arms_run s g lk p b scope l f fs c rd ls (statement pl line (choose arms)) no_statements last_spot text end none
        false (λ e. refl) (subst (λ z. Follows s g b scope f.rest z)
        (let z : sp.at + (1 + arms_size g.numbers false arms) ≡ end = omega arith in z) fo)
        (omega arith) re
        arms (ahead sp 1) text true all refl (λ e. absurd (true≢false (sym e)))
    statement_runs (choose_or arms last) st fo re =
        let at : ℕ = sp.at + 1 in
        let size : ℕ = arms_size g.numbers true arms in
        let end : ℕ = at + size + statements_size g.numbers last in
        let last_spot : Spot = behind_arms g.numbers (ahead sp 1) true arms in
        let code =
        behind_charge
        (arms_code g.numbers scope true arms end (ahead sp 1) ++ statements_code g.numbers scope last last_spot)
        st.code.1 in
        let parts =
        parts_stand b.instrs (arms_code g.numbers scope true arms end (ahead sp 1))
        (statements_code g.numbers scope last last_spot) at size
        (arms_length g.numbers scope true arms end (ahead sp 1)) code in
        let kinds =
        parts_stand b.locals (arms_kinds (names s) ls arms) (statements_kinds (names s) ls last) sp.local
        (arms_lets arms) (arms_locals (names s) ls arms) st.kinds in
        let layouts =
        parts_stand g.setting.code.layouts (arms_layouts (names s) ls text arms)
        (statements_layouts (names s) ls (text + length (arms_texts arms)) last) sp.layout (arms_prints arms)
        (arms_prints_length (names s) ls text arms) st.layouts in
        let texts =
        parts_stand g.setting.code.texts (arms_texts arms) (statements_texts last) text (length (arms_texts arms)) refl
        st.texts in
        let small = and_parts (arms_small arms) (statements_small last) st.small in
        let all : ArmsStand s g b scope ls (ahead sp 1) text true arms end = record {
          known = st.known;
          typed = st.typed.0.0;
          small = small.0;
          code = parts.0;
          kinds = kinds.0;
          layouts = layouts.0;
          texts = texts.0;
        } in
        let other : BlockStands s g b scope ls last_spot (text + length (arms_texts arms)) last = record {
          known = names_later b.locals scope ls sp.local (sp.local + arms_lets arms) (omega arith) st.known;
          typed = st.typed.0.1;
          small = small.1;
          code = parts.1;
          kinds = kinds.1;
          layouts = layouts.1;
          texts = texts.1;
        } in
        arms_run s g lk p b scope l f fs c rd ls (statement pl line (choose_or arms last)) last last_spot
        (text + length (arms_texts arms)) end other true (λ e. absurd (true≢false e))
        (subst (λ z. Follows s g b scope f.rest z)
        (let z : sp.at + (1 + (size + statements_size g.numbers last)) ≡ end = omega arith in z) fo)
        refl re
        arms (ahead sp 1) text true all refl (λ e. both_parts (arms_return true arms) (statements_return false last) e)
    statement_runs (repeat test body) st fo re =
        while_runs s g lk p b scope l f fs c rd ls sp text pl line after test body st fo re
    statement_runs (call w args) st fo re =
        call_runs w args st fo (returns_behind b.result (statement pl line (call w args)) f.rest refl re)
    statement_runs (return e) st fo re = return_runs e st
    statement_runs (fork w args) st fo re =
        fork_runs w args st fo (returns_behind b.result (statement pl line (fork w args)) f.rest refl re)
    statement_runs (join e) st fo re =
        join_runs e st fo (returns_behind b.result (statement pl line (join e)) f.rest refl re)
    statement_runs (print items) st fo re =
        print_runs items st fo (returns_behind b.result (statement pl line (print items)) f.rest refl re)
    statement_runs (assert e) st fo re =
        assert_runs e st fo (returns_behind b.result (statement pl line (assert e)) f.rest refl re)

  -- ---- a step of the calculus

  begins_runs : (b : CodeBlock) (scope : Scope) (l : Local) (f : Frame) (fs : List Frame) (c : State Path) (ls : Locals)
      (sp : Spot) (text pl line : ℕ) (form : StatementForm) (after : Locals) (rest : Statements) (fuel : ℕ)
      → Ready s g b scope l f fs c → StatementStands s g b scope ls sp text (statement pl line form) after
      → Follows s g b (scope_after scope sp.local (statement pl line form)) rest
      (sp.at + statement_size g.numbers (statement pl line form))
      → Returns b.result (statements (statement pl line form) rest) → c.fuel ≡ fuel
      → Did s g p (Walks g) (at_with c sp.at []) (begins s p l fuel f fs (statement pl line form) rest)
  begins_runs b scope l f fs c ls sp text pl line form after rest zero rd st fo re e =
      let a : State Path = at_with c sp.at [] in
      let last : State Path = record a { line = line } in (
        a,
        last,
        r.none,
        one s g b a (i.Charge line) (r.traps last cause.Spent) rd.is st.code.0 (ap (r.charge a line) e),
        refl,
        refl,
        (rd.shared.0, rd.shared.1, rd.shared.2, rd.shared.3, rd.shared.4, refl),
      )
  begins_runs b scope l f fs c ls sp text pl line form after rest (suc fuel) rd st fo re e =
      let a : State Path = at_with c sp.at [] in
      let c1 : State Path = record c { at = suc sp.at; stack = []; fuel = fuel; line = line } in
      let l1 : Local = record l { fuel = fuel; line = line; frames = record f { rest = rest } ∷ fs } in
      let here : step g.setting a ≡ goes c1 =
      one s g b a (i.Charge line) (goes c1) rd.is st.code.0 (ap (r.charge a line) e) in
      let rd1 : Ready s g b scope l1 (record f { rest = rest }) fs c1 = record {
        shared = (rd.shared.0, refl, rd.shared.2, rd.shared.3, rd.shared.4, refl);
        frames = refl;
        is = rd.is;
        locals = rd.locals;
        kinded = rd.kinded;
        apart = rd.apart;
        phase = rd.phase;
        below = rd.below;
      } in
      let runs_so =
      statement_runs b scope l1 (record f { rest = rest }) fs c1 rd1 ls sp text pl line after form st fo re in
      walked s g p a c1 (does s p l1 (statement pl line form)) here
      (subst (λ q. Comes_to s g p (at_with c1 q []) (does s p l1 (statement pl line form)))
      (let z : sp.at + 1 ≡ suc sp.at = omega arith in z) runs_so)

  end_runs : (b : CodeBlock) (scope : Scope) (l : Local) (f : Frame) (fs : List Frame) (c : State Path) (at : ℕ)
      (o : Option ValueKind)
      → Ready s g b scope l f fs c → b.result ≡ o → EndAt s g b o at → Returns o no_statements
      → Did s g p (Walks g) (at_with c at []) (Moves (end_frame s l (f ∷ fs) None))
  end_runs b scope l f fs c at None rd e h re =
      then_walks s g p (at_with c at []) (at_with c h.0 []) (Moves (end_frame s l (f ∷ fs) None))
      (leads s g b c h.1.0 at h.0 [] rd.is h.1.1)
      (returned s g p lk b l f fs c h.0 [] None rd.shared rd.phase rd.is h.2
      (subst (λ q. Carries q None []) (sym e) refl) rd.below)
  end_runs b scope l f fs c at (Some t) rd e h re = absurd (none_end re)

  rest_runs : (b : CodeBlock) (scope : Scope) (rest : Statements) (l : Local) (f : Frame) (fs : List Frame)
      (c : State Path) (at : ℕ)
      → Ready s g b scope l f fs c → Follows s g b scope rest at → Returns b.result rest
      → Did s g p (Walks g) (at_with c at []) (by_rest s p l f fs rest)
  rest_runs b scope no_statements l f fs c at rd fo re = end_runs b scope l f fs c at b.result rd refl fo re
  rest_runs b scope (statements (statement pl line form) rest) l f fs c at rd fo re =
      let sp : Spot = fo.3 in
      let rd1 : Ready s g b fo.0 l f fs c = record {
        shared = rd.shared;
        frames = rd.frames;
        is = rd.is;
        locals = locals_within b.locals fo.0 scope None f.locals c.locals fo.6 rd.locals;
        kinded = rd.kinded;
        apart = rd.apart;
        phase = rd.phase;
        below = rd.below;
      } in
      then_walks s g p (at_with c at []) (at_with c sp.at []) (begins s p l l.fuel f fs (statement pl line form) rest)
      (leads s g b c fo.5.0 at sp.at [] rd.is fo.5.1)
      (begins_runs b fo.0 l f fs c fo.1 sp fo.4 pl line form fo.2 rest l.fuel rd1 fo.7 fo.8 re rd.shared.1)

  pub ready : (l : Local) (f : Frame) (fs : List Frame) (c : State Path) (st : Stands s g l f fs c) → l.phase ≡ running
      → IsKinded s p l → Ready s g st.block st.top.scope l f fs c
  ready l f fs c st ph kd =
      let fr : FramesAre (names s) None None (f ∷ fs) =
      subst (λ z. FramesAre (names s) None None z) st.frames
      (subst (λ z. FramesAt (names s) z l.frames) ph kd.frames) in
      record {
        shared = st.shared;
        frames = st.frames;
        is = st.is;
        locals = st.top.locals;
        kinded = kd.locations;
        apart = λ name h e. (fr.3.locals.apart name h e).1;
        phase = ph;
        below = st.below;
      }

  pub step_runs : (l : Local) (f : Frame) (fs : List Frame) (c : State Path) → Stands s g l f fs c → l.phase ≡ running
      → IsKinded s p l → Did s g p (Walks g) c (next s p l)
  step_runs l f fs c st ph kd =
      let d = rest_runs st.block st.top.scope f.rest l f fs c c.at (ready l f fs c st ph kd) st.top.follows
      st.top.returns in
      let e1 : Did s g p (Walks g) c (by_rest s p l f fs f.rest) =
      subst (λ z. Did s g p (Walks g) (record c { stack = z }) (by_rest s p l f fs f.rest)) (sym st.stack) d in
      let e2 : Did s g p (Walks g) c (by_frames s p l l.frames) =
      subst (λ z. Did s g p (Walks g) c (by_frames s p l z)) (sym st.frames) e1 in
      subst (λ z. Did s g p (Walks g) c (by_phase s p l z)) (sym ph) e2
