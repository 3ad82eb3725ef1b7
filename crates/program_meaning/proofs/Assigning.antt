-- Right sides, and what is assigned.
use Rattle.std.proofs.Common.{◌≡◌, ◌∙◌, ◌&&◌, ℕ, suc, ◌+◌, ℤ, pos, negsuc, Bool, true, false, IsTrue, List, [], ◌∷◌, ◌++◌, map, Option, Some, None, refl, sym, ap, subst, arith}
use Rattle.std.specs.Prelude.{slice_get, if◌then◌else◌, nat_lt, Result, Ok, Err}
use Rattle.rev_num.specs.Path.{Path}
use Rattle.rev_num.specs.declared.value.Value.{Value}
use Rattle.rev_num.specs.declared.value.ValueKind.{ValueKind}
use Rattle.rev_num.specs.declared.value.ValueKind.TheVariants as k
use Rattle.rev_num.specs.Value.{kind_of, same_kind}
use Rattle.rev_num.specs.declared.outcome.Cause.{Cause}
use Rattle.rev_num.specs.declared.outcome.Cause.TheVariants as cause
use Rattle.rev_num.proofs.SameKinds.{same_kind_self}
use Rattle.rev_syntax.specs.Trees.{PlacedName, Expression, Expressions, RightSide, plain, called, tried, statement, bind, assign, assign_cell}
use Rattle.rev_syntax.specs.Trees as tree
use Rattle.rev_syntax.specs.Small.{name_formed, expression_small, expressions_small, right_side_small}
use Rattle.name_tables.specs.Names.{Name, same}
use Rattle.name_tables.specs.Table.{find, added}
use Rattle.typed_programs.specs.Value.{number_of}
use Rattle.typed_programs.specs.declared.names.Holder.{Holder}
use Rattle.typed_programs.specs.Kinds.{Callee, Locals}
use Rattle.typed_programs.specs.Typing.{ScalarHas, ArrayHas}
use Rattle.typed_programs.proofs.Lists.{and_parts}
use Rattle.typed_programs.specs.Layout.{SharedVariable, variables}
use Rattle.typed_programs.specs.Judgement.{CallTyped, RightSideHas, Returns}
use Rattle.typed_programs.proofs.Applying.{small_formed}
use Rattle.typed_programs.proofs.Scopes.{right_side_is}
use Rattle.rev_syntax.proofs.Lists.{same-self}
use Rattle.name_tables.proofs.Tables.{or_else, find-added}
use Rattle.revision_machine.specs.Machine.{Event, Moves}
use Rattle.revision_calculus.specs.Program.{variable_named, Setting}
use Rattle.revision_calculus.specs.State.{Frame, Local, write_at}
use Rattle.revision_calculus.specs.Kinded.{names}
use Rattle.rev_code.specs.declared.code.Instr.{Instr}
use Rattle.rev_code.specs.declared.code.Instr.TheVariants as i
use Rattle.rev_code.specs.declared.code.CodeBlock.{CodeBlock}
use Rattle.rev_code.specs.Words as words
use Rattle.rev_code.specs.State.{State, written_at}
use Rattle.rev_code.specs.Step as r
use Rattle.rev_code.specs.Step.{goes, step}
use Rattle.code_rules.specs.Shapes.{kind_or_int}
use Rattle.code_generation.specs.Numbers.{Scope}
use Rattle.code_generation.specs.Expressions.{expression_size, expression_code, expressions_size, expressions_code}
use Rattle.code_generation.specs.Stands.{HasAt}
use Rattle.code_generation.proofs.Standing.{around_stands}
use Rattle.expression_meaning.specs.Agrees.{word, ArgsAre, at_with, pushed}
use Rattle.expression_meaning.proofs.Words.{as_int, word_kind}
use Rattle.expression_meaning.specs.Places.{Tables, AreNames, StatementStands, Follows}
use Rattle.expression_meaning.specs.States.{location_word, IsSame, AreLocals, LeftBy, Behind}
use Rattle.program_meaning.proofs.Linked.{IsLinked}
use Rattle.program_meaning.proofs.Reading.{variable, no_variable, Ready, evaluates, evaluates_all, array_there}
use Rattle.program_meaning.proofs.Resume.{one, stands}
use Rattle.revision_calculus.specs.Evaluation.{eval, evals, set, cell_location, location_of, location_in}
use Rattle.revision_calculus.specs.Step.{with_answer, calls, forks, joins, by_right, does}
use Rattle.revision_calculus.proofs.ValueKinds.{expressions_small_formed}
use Rattle.rev_code.specs.Variables.{Place, cell_at}
use Rattle.code_generation.specs.Sizes.{right_side_size}
use Rattle.code_generation.specs.Statements.{Spot, right_side_code, store}
use Rattle.code_generation.specs.Generated.{var_of}
use Rattle.code_generation.proofs.Lengths.{around, expression_length, expressions_length, right_side_length}
use Rattle.expression_meaning.proofs.Locals.{locals_let, locals_wait, written_there}
use Rattle.expression_meaning.proofs.Parts.{names_none, names_after}
use Rattle.program_meaning.proofs.Calls.{Comes_to, moved, did_on, trap, after_value, after_then, after_all, gave, joined}
use Rattle.program_meaning.proofs.Calls as runs

-- a new name has its number
found_new : (scope : Scope) (w : Name) (m : ℕ) → find w scope ≡ None → find w (added scope w m) ≡ Some m
found_new scope w m new =
    find-added w w m scope ∙ ap (λ o. or_else o (if same w w then Some m else None)) new
    ∙ ap (λ d. if d then Some m else None) (same-self w)

-- the location of a cell
abbrev located_of : Option ℕ → Result ℕ Cause
located_of None = Err cause.Index
located_of (Some n) = Ok n

cell_same : (y : SharedVariable) (p : Place) → p.var.cells ≡ y.info.cells → p.first ≡ y.info.base → (z : ℤ)
    → location_in y z ≡ located_of (cell_at p z)
cell_same y p cells first (negsuc n) = refl
cell_same y p cells first (pos n) =
    (λ j. if nat_lt n (sym cells j) then Ok (sym first j + n) else Err cause.Index) ∙ by (nat_lt n p.var.cells)
  where
    by : (d : Bool)
        → (if d then Ok (p.first + n) else Err cause.Index) ≡ located_of (if d then Some (p.first + n) else None)
    by true = refl
    by false = refl

module _ (s : Setting) (g : Tables) (lk : IsLinked s g) (p : Path) where
  -- ---- right sides

  module _ (b : CodeBlock) (scope : Scope) (ls : Locals) (next : ℕ) (l : Local) (f : Frame) (fs : List Frame)
      (c : State Path) (rd : Ready s g b scope l f fs c) (are : AreNames b.locals scope ls next) where
    -- arguments, a call or fork, and what is behind it
    pub arguments_then : (args : Expressions) (w : PlacedName) (q : Callee) (y : Instr) (ys : List Instr) (at : ℕ)
        (go : List Value → Event Local)
        → CallTyped (names s) ls w args q → IsTrue (expressions_small args)
        → HasAt b.instrs at (expressions_code g.numbers scope args at ++ y ∷ ys)
        → ((xs : List Value) → ArgsAre q.params xs
        → Comes_to s g p (at_with c (at + expressions_size args) (pushed xs [])) (go xs))
        → Comes_to s g p (at_with c at []) (with_answer p l (evals s l args) go)
    arguments_then args w q y ys at go typed small here f' =
        let m : ℕ = at + expressions_size args in
        let parts =
        around_stands b.instrs (expressions_code g.numbers scope args at) ys y at (expressions_size args) (m + 1)
        (expressions_length g.numbers scope args at) refl here in
        after_all s g p c l at m [] [] q.params (evals s l args) go rd.shared
        (evaluates_all s g lk b scope ls next l f fs c rd are q args at [] typed.1 typed.2
        (expressions_small_formed args small) parts.0)
        f'

    -- the instruction behind arguments, and those behind it
    pub behind_arguments : (args : Expressions) (y : Instr) (ys : List Instr) (at : ℕ)
        → HasAt b.instrs at (expressions_code g.numbers scope args at ++ y ∷ ys)
        → (slice_get b.instrs (at + expressions_size args) ≡ Some y)
        × HasAt b.instrs (suc (at + expressions_size args)) ys
    behind_arguments args y ys at here =
        let m : ℕ = at + expressions_size args in
        (around_stands b.instrs (expressions_code g.numbers scope args at) ys y at (expressions_size args) (suc m)
        (expressions_length g.numbers scope args at) (omega arith) here).1

    right_runs : (w : Name) (x : RightSide) (t : ValueKind) (at : ℕ) → RightSideHas (names s) ls x t
        → IsTrue (right_side_small x) → HasAt b.instrs at (right_side_code g.numbers scope x at)
        → Behind s g l (Some w) (Some t) f fs (at_with c (at + right_side_size x) [])
        → Comes_to s g p (at_with c at []) (by_right s p l w x)
    right_runs w (plain e) t at has small here bh =
        after_value s g p c l at (at + expression_size e) [] [] t (eval s l e) (λ x. Moves (set s l w x)) rd.shared
        (evaluates s g lk b scope ls next l f fs c rd are e t at [] has (small_formed e small) here)
        (λ x kx. gave s g p lk l (Some w) (Some t) (Some x) f fs (at_with c (at + expression_size e) []) (word x ∷ [])
        rd.phase bh (refl, kx))
    right_runs w (called at' name args) t at has small here bh =
        let m : ℕ = at + expressions_size args in
        let q = has.0 in
        let smalls = and_parts (name_formed name) (expressions_small args) small in
        let there = behind_arguments args (i.Call (g.numbers.proc name.text)) [] at here in
        let place : at + (expressions_size args + 1) ≡ suc m = omega arith in
        let bh' : Behind s g l (Some w) q.result f fs (at_with c (suc m) []) =
        subst (λ z. Behind s g l (Some w) z f fs (at_with c (suc m) [])) (sym has.2)
        (subst (λ z. Behind s g l (Some w) (Some t) f fs (at_with c z [])) place bh) in
        arguments_then args name q (i.Call (g.numbers.proc name.text)) [] at (calls s p l (Some w) name.text) has.1
        smalls.1 here
        (λ xs is. runs.called s g p lk b scope l f fs c rd name.text q has.1.0 m (Some w) there.0 bh' xs is)
    right_runs w (tree.forked at' name args) t at has small here bh =
        let m : ℕ = at + expressions_size args in
        let q = has.1.0 in
        let smalls = and_parts (name_formed name) (expressions_small args) small in
        let there = behind_arguments args (i.Fork (g.numbers.proc name.text)) [] at here in
        let place : at + (expressions_size args + 1) ≡ suc m = omega arith in
        let bh' : Behind s g l (Some w) (Some k.Rev) f fs (at_with c (suc m) []) =
        subst (λ z. Behind s g l (Some w) (Some z) f fs (at_with c (suc m) [])) has.0
        (subst (λ z. Behind s g l (Some w) (Some t) f fs (at_with c z [])) place bh) in
        arguments_then args name q (i.Fork (g.numbers.proc name.text)) [] at (forks s p l (Some w) name.text) has.1.1
        smalls.1 here
        (λ xs is. runs.forked s g p lk b scope l f fs c rd name.text q has.1.1.0 m (Some w) there.0 bh' xs is)
    right_runs w (tried at' e) t at has small here bh =
        let m : ℕ = at + expression_size e in
        let parts =
        around_stands b.instrs (expression_code g.numbers scope e at) [] i.TryJoin at (expression_size e) (m + 1)
        (expression_length g.numbers scope e at) refl here in
        let place : at + (expression_size e + 1) ≡ suc m = omega arith in
        let bh' : Behind s g l (Some w) (Some k.Bool) f fs (at_with c (suc m) []) =
        subst (λ z. Behind s g l (Some w) (Some z) f fs (at_with c (suc m) [])) has.0
        (subst (λ z. Behind s g l (Some w) (Some t) f fs (at_with c z [])) place bh) in
        after_value s g p c l at m [] [] k.Rev (eval s l e) (joins p l (Some w)) rd.shared
        (evaluates s g lk b scope ls next l f fs c rd are e k.Rev at [] has.1 (small_formed e small) parts.0)
        (λ x kx. joined s g p lk b scope l f fs c m (Some w) rd parts.1.0 bh' x kx)

    -- a name in scope is none of a shared variable
    local_apart : (w : Name) (m : ℕ) → find w scope ≡ Some m → variable_named (variables s.program) w ≡ None
    local_apart w m e = no_variable s w (by ((names s).shared w) refl)
      where
        by : (h : Option Holder) → (names s).shared w ≡ h → (names s).shared w ≡ None
        by None q = q
        by (Some h) q =
            absurd (subst (λ o. IsSame o (slice_get c.locals m)) (rd.apart w h q) (rd.locals.same w m (λ z. cc) e))

  -- ---- the statements

  module _ (b : CodeBlock) (scope : Scope) (l : Local) (f : Frame) (fs : List Frame) (c : State Path)
      (rd : Ready s g b scope l f fs c) (ls : Locals) (sp : Spot) (text pl line : ℕ) (after : Locals) where
    -- the left side waits for its value
    waiting : (known : Scope) (w : Name) (t : ValueKind) (m to : ℕ)
        → AreLocals b.locals known (Some w) f.locals c.locals
        → ((name other : Name) (n : ℕ) → find name known ≡ Some n → find other known ≡ Some n → name ≡ other)
        → LeftBy s g b (find w known) w t m → to ≡ suc m → Follows s g b known f.rest to → Returns b.result f.rest
        → Behind s g l (Some w) (Some t) f fs (at_with c m [])
    waiting known w t m to locals apart left e fo re = record {
      shared = rd.shared;
      frames = rd.frames;
      block = b;
      waits = record {
        is = rd.is;
        scope = known;
        locals = locals;
        apart = apart;
        to = to;
        back = (left, e);
        follows = fo;
        returns = re;
      };
      below = rd.below;
    }

    pub let_runs : (w : PlacedName) (x : RightSide)
        → StatementStands s g b scope ls sp text (statement pl line (bind w x)) after
        → Follows s g b (added scope w.text sp.local) f.rest (sp.at + (1 + (right_side_size x + 1)))
        → Returns b.result f.rest → Comes_to s g p (at_with c (sp.at + 1) []) (by_right s p l w.text x)
    let_runs w x st fo re =
        let at : ℕ = sp.at + 1 in
        let m : ℕ = at + right_side_size x in
        let t : ValueKind = st.typed.1.0 in
        let code =
        subst (λ q. HasAt b.instrs q (right_side_code g.numbers scope x at ++ i.StoreLocal sp.local ∷ []))
        (let z : suc sp.at ≡ at = omega arith in z) st.code.1 in
        let parts =
        around_stands b.instrs (right_side_code g.numbers scope x at) [] (i.StoreLocal sp.local) at (right_side_size x)
        (m + 1) (right_side_length g.numbers scope x at) refl code in
        let known : Scope = added scope w.text sp.local in
        let names' =
        names_after b.locals (names s) b.result scope ls sp.local (statement pl line (bind w x)) after st.known st.typed
        st.kinds in
        let number : find w.text known ≡ Some sp.local =
        found_new scope w.text sp.local (names_none b.locals scope ls sp.local w.text st.known st.typed.0.0) in
        let kind : slice_get b.locals sp.local ≡ Some t =
        st.kinds.0 ∙ ap (λ o. Some (kind_or_int o)) (right_side_is (names s) ls x t st.typed.1.1) in
        let left : LeftBy s g b (find w.text known) w.text t m =
        subst (λ o. LeftBy s g b o w.text t m) (sym number) (parts.1.0, kind, no_variable s w.text st.typed.0.1) in
        let bh = waiting known w.text t m (sp.at + (1 + (right_side_size x + 1)))
        (locals_let b.locals scope w.text sp.local f.locals c.locals rd.locals) names'.apart left (omega arith) fo re in
        right_runs b scope ls sp.local l f fs c rd st.known w.text x t at st.typed.1.1
        (and_parts (name_formed w) (right_side_small x) st.small).1 parts.0 bh

    -- the store of a name that is known
    stored : (w : PlacedName) (t : ValueKind) (m : ℕ) → AreNames b.locals scope ls sp.local
        → ScalarHas (find w.text ls) ((names s).shared w.text) t
        → slice_get b.instrs m ≡ Some (store g.numbers w (find w.text scope))
        → LeftBy s g b (find w.text scope) w.text t m
    stored w t m are has here = by (find w.text scope) refl here
      where
        shared_left : (o : Option (Option ValueKind)) (h : Option Holder) → find w.text ls ≡ o
            → (names s).shared w.text ≡ h → find w.text scope ≡ None → ScalarHas o h t
            → slice_get b.instrs m ≡ Some (i.StoreShared (g.numbers.var w.text)) → LeftBy s g b None w.text t m
        shared_left (Some u) h e q gone has here =
            absurd (let d = are.local w.text u e in let z : None ≡ Some d.0 = sym gone ∙ d.1 in cc)
        shared_left None None e q gone has here = absurd has
        shared_left None (Some h) e q gone has here =
            let x = variable s w.text h q in (x.y, here, x.named, x.array ∙ has.0, x.holds ∙ has.1)

        by : (o : Option ℕ) → find w.text scope ≡ o → slice_get b.instrs m ≡ Some (store g.numbers w o)
            → LeftBy s g b o w.text t m
        by None e here = shared_left (find w.text ls) ((names s).shared w.text) refl refl e has here
        by (Some n) e here =
            let d = are.kind w.text n e in
            let has' : ScalarHas (Some (Some d.0)) ((names s).shared w.text) t =
            subst (λ o. ScalarHas o ((names s).shared w.text) t) d.1 has in
            let same : d.0 ≡ t = (let z : Some d.0 ≡ Some t = has' in cc) in
            (here, d.2 ∙ ap Some same, local_apart b scope ls sp.local l f fs c rd are w.text n e)

    pub assign_runs : (w : PlacedName) (x : RightSide)
        → StatementStands s g b scope ls sp text (statement pl line (assign w x)) after
        → Follows s g b scope f.rest (sp.at + (1 + (right_side_size x + 1))) → Returns b.result f.rest
        → Comes_to s g p (at_with c (sp.at + 1) []) (by_right s p l w.text x)
    assign_runs w x st fo re =
        let at : ℕ = sp.at + 1 in
        let m : ℕ = at + right_side_size x in
        let t : ValueKind = st.typed.0.0 in
        let y : Instr = store g.numbers w (find w.text scope) in
        let code =
        subst (λ q. HasAt b.instrs q (right_side_code g.numbers scope x at ++ y ∷ []))
        (let z : suc sp.at ≡ at = omega arith in z) st.code.1 in
        let parts =
        around_stands b.instrs (right_side_code g.numbers scope x at) [] y at (right_side_size x) (m + 1)
        (right_side_length g.numbers scope x at) refl code in
        let left = stored w t m st.known st.typed.0.1 parts.1.0 in
        let bh = waiting scope w.text t m (sp.at + (1 + (right_side_size x + 1)))
        (locals_wait b.locals scope (Some w.text) f.locals c.locals rd.locals) st.known.apart left (omega arith) fo
        re in
        right_runs b scope ls sp.local l f fs c rd st.known w.text x t at st.typed.0.2
        (and_parts (name_formed w) (right_side_small x) st.small).1 parts.0 bh

    -- ---- cells

    -- the cell takes the value
    cell_stored : (w : Name) (y : SharedVariable) (z : ℤ) (n m to : ℕ) (x : Value)
        → variable_named (variables s.program) w ≡ Some y → y.info.array ≡ true → kind_of x ≡ y.declared.holds
        → cell_at (record { var = var_of s.program.declarations y; first = y.info.base }) z ≡ Some n
        → slice_get b.instrs m ≡ Some (i.StoreCell (g.numbers.var w)) → to ≡ suc m → Follows s g b scope f.rest to
        → Returns b.result f.rest
        → Comes_to s g p (at_with c m (word x ∷ words.int z ∷ []))
        (Moves (record l { locations = write_at l.locations n x }))
    cell_stored w y z n m to x named whole kx inside here e fo re =
        let pl' : Place = record { var = var_of s.program.declarations y; first = y.info.base } in
        let a : State Path = at_with c m (word x ∷ words.int z ∷ []) in
        let c2 : State Path = record c { at = suc m; stack = []; locations = written_at c.locations n (word x) } in
        let l2 : Local = record l { locations = write_at l.locations n x } in
        let kind : same_kind y.declared.holds (words.kind_of (word x)) ≡ true =
        ap (same_kind y.declared.holds) (word_kind x ∙ kx) ∙ same_kind_self y.declared.holds in
        let goes_so : step g.setting a ≡ goes c2 =
        one s g b a (i.StoreCell (g.numbers.var w)) (goes c2) rd.is here
        (ap (λ o. r.into_cell a o (word x ∷ words.int z ∷ [])) (array_there s g lk w y named whole)
        ∙ ap (λ d. if d then r.write_cell a [] (word x) (cell_at pl' z) else r.stuck) kind
        ∙ ap (r.write_cell a [] (word x)) inside) in
        let same : c2.locations ≡ map location_word l2.locations =
        ap (λ q. written_at q n (word x)) rd.shared.0 ∙ written_there l.locations n x in
        moved s g p a c2 l2 rd.phase (r.more goes_so r.none)
        (stands s g l2 f fs c2 b scope (suc m) (same, rd.shared.1, rd.shared.2, rd.shared.3, rd.shared.4, rd.shared.5)
        rd.frames rd.is rd.locals (subst (λ q. Follows s g b scope f.rest q) e fo) re rd.below)

    -- the index is tested, and then what follows
    cell_tested : (w : Name) (y : SharedVariable) (z : ℤ) (m : ℕ) (go : ℕ → Event Local)
        → variable_named (variables s.program) w ≡ Some y → y.info.array ≡ true
        → slice_get b.instrs m ≡ Some (i.CheckCell (g.numbers.var w))
        → ((n : ℕ) → cell_at (record { var = var_of s.program.declarations y; first = y.info.base }) z ≡ Some n
        → Comes_to s g p (at_with c (suc m) (words.int z ∷ [])) (go n))
        → Comes_to s g p (at_with c m (words.int z ∷ [])) (with_answer p l (cell_location s w z) go)
    cell_tested w y z m go named whole here follows =
        subst (λ o. Comes_to s g p a (with_answer p l o go))
        (sym (ap (λ o. location_of o z) named ∙ cell_same y pl' refl refl z)) (by (cell_at pl' z) refl)
      where
        pl' : Place
        pl' = record { var = var_of s.program.declarations y; first = y.info.base }

        a : State Path
        a = at_with c m (words.int z ∷ [])

        tested : step g.setting (at_with c m (words.int z ∷ []))
            ≡ r.test_cell (at_with c m (words.int z ∷ []))
            (cell_at (record { var = var_of s.program.declarations y; first = y.info.base }) z)
        tested =
            one s g b (at_with c m (words.int z ∷ [])) (i.CheckCell (g.numbers.var w))
            (r.test_cell (at_with c m (words.int z ∷ []))
            (cell_at (record { var = var_of s.program.declarations y; first = y.info.base }) z))
            rd.is here
            (ap (λ o. r.over_cell (at_with c m (words.int z ∷ [])) o (words.int z ∷ []))
            (array_there s g lk w y named whole))

        by : (o : Option ℕ) → cell_at (record { var = var_of s.program.declarations y; first = y.info.base }) z ≡ o
            → Comes_to s g p (at_with c m (words.int z ∷ [])) (with_answer p l (located_of o) go)
        by None e = trap s g p (at_with c m (words.int z ∷ [])) (at_with c m (words.int z ∷ [])) l cause.Index rd.shared
            r.none (tested ∙ ap (r.test_cell (at_with c m (words.int z ∷ []))) e)
        by (Some n) e =
            did_on s g p (at_with c m (words.int z ∷ [])) (at_with c (suc m) (words.int z ∷ [])) (go n)
            (r.more (tested ∙ ap (r.test_cell (at_with c m (words.int z ∷ []))) e) r.none) (follows n e)

    -- the variable of a cell
    array_of : (w : Name) (t : ValueKind) → ArrayHas (find w ls) ((names s).shared w) t
        → (h : Holder) × ((names s).shared w ≡ Some h) × (h.array ≡ true) × (h.kind ≡ t)
    array_of w t has = by (find w ls) ((names s).shared w) refl has
      where
        by : (o : Option (Option ValueKind)) (h : Option Holder) → (names s).shared w ≡ h → ArrayHas o h t
            → (q : Holder) × ((names s).shared w ≡ Some q) × (q.array ≡ true) × (q.kind ≡ t)
        by (Some u) h e has = absurd has
        by None None e has = absurd has
        by None (Some h) e has = (h, e, has.0, has.1)

    pub cell_runs : (w : PlacedName) (index e : Expression)
        → StatementStands s g b scope ls sp text (statement pl line (assign_cell w index e)) after
        → Follows s g b scope f.rest (sp.at + (1 + (expression_size index + 1 + expression_size e + 1)))
        → Returns b.result f.rest
        → Comes_to s g p (at_with c (sp.at + 1) []) (does s p l (statement pl line (assign_cell w index e)))
    cell_runs w index e st fo re =
        let at : ℕ = sp.at + 1 in
        let m : ℕ = at + expression_size index in
        let m2 : ℕ = m + 1 in
        let n : ℕ = g.numbers.var w.text in
        let t : ValueKind = st.typed.0.0 in
        let front : List Instr =
        expression_code g.numbers scope index at ++ i.CheckCell n ∷ expression_code g.numbers scope e m2 in
        let size =
        around (expression_code g.numbers scope index at) (expression_code g.numbers scope e m2) (i.CheckCell n)
        (expression_size index) (expression_size e) (expression_length g.numbers scope index at)
        (expression_length g.numbers scope e m2) in
        let code =
        subst (λ q. HasAt b.instrs q (front ++ i.StoreCell n ∷ [])) (let z : suc sp.at ≡ at = omega arith in z)
        st.code.1 in
        let outer =
        around_stands b.instrs front [] (i.StoreCell n) at (expression_size index + 1 + expression_size e)
        (at + (expression_size index + 1 + expression_size e) + 1) size refl code in
        let inner =
        around_stands b.instrs (expression_code g.numbers scope index at) (expression_code g.numbers scope e m2)
        (i.CheckCell n) at (expression_size index) m2 (expression_length g.numbers scope index at) refl outer.0 in
        let small = and_parts (name_formed w && expression_small index) (expression_small e) st.small in
        let smalls = and_parts (name_formed w) (expression_small index) small.0 in
        let h = array_of w.text t st.typed.0.1 in
        let x = variable s w.text h.0 h.1 in
        let y = x.y in
        let store_here : slice_get b.instrs (m2 + expression_size e) ≡ Some (i.StoreCell n) =
        subst (λ q. slice_get b.instrs q ≡ Some (i.StoreCell n))
        (let z : at + (expression_size index + 1 + expression_size e) ≡ m2 + expression_size e = omega arith in z)
        outer.1.0 in
        let then_value : ℕ → Event Local =
        λ j. with_answer p l (eval s l e) (λ u. Moves (record l { locations = write_at l.locations j u })) in
        let place : suc m ≡ m2 = omega arith in
        after_then s g p c l at m k.Int (eval s l index) (λ u. cell_location s w.text (number_of u)) then_value
        rd.shared (evaluates s g lk b scope ls sp.local l f fs c rd st.known index k.Int at [] st.typed.0.2
        (small_formed index smalls.1) inner.0)
        (λ u ku. let d = as_int u ku in
        subst (λ q.
        Comes_to s g p (at_with c m (word q ∷ [])) (with_answer p l (cell_location s w.text (number_of q)) then_value))
        (sym d.1)
        (cell_tested w.text y d.0 m then_value x.named (x.array ∙ h.2) inner.1.0
        (λ j inside. subst (λ q. Comes_to s g p (at_with c q (words.int d.0 ∷ [])) (then_value j)) (sym place)
        (after_value s g p c l m2 (m2 + expression_size e) (words.int d.0 ∷ []) (words.int d.0 ∷ []) t (eval s l e)
        (λ u. Moves (record l { locations = write_at l.locations j u })) rd.shared
        (evaluates s g lk b scope ls sp.local l f fs c rd st.known e t m2 (words.int d.0 ∷ []) st.typed.0.3
        (small_formed e small.1) inner.1.1)
        (λ u ku'.
        cell_stored w.text y d.0 j (m2 + expression_size e)
        (sp.at + (1 + (expression_size index + 1 + expression_size e + 1))) u x.named (x.array ∙ h.2)
        (ku' ∙ sym h.3 ∙ sym x.holds) inside store_here (omega arith) fo re)))))
