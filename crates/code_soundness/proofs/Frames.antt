-- Calls, forks, joins and returns at typed states, and the states with which blocks begin.
use Rattle.std.proofs.Common.{◌≡◌, ◌∙◌, ℕ, suc, ◌-◌, ◌<◌, Bool, true, false, List, [], ◌∷◌, ◌++◌, length, drop, reverse, Option, Some, None, refl, sym, ap, subst, arith, true≢false}
use Rattle.std.specs.Prelude.{slice_get, nat_lt, if◌then◌else◌}
use Rattle.std.proofs.lemmas.Bool.Decides.{nat_tests}
use Rattle.std.proofs.lemmas.List.{append-nil}
use Rattle.rev_num.specs.declared.value.ValueKind.{ValueKind}
use Rattle.rev_num.specs.declared.value.ValueKind.TheVariants as k
use Rattle.rev_num.specs.declared.outcome.Cause.TheVariants as cause
use Rattle.rev_num.specs.Value.{same_kind}
use Rattle.rev_num.proofs.SameKinds.{same_kind_self}
use Rattle.rev_code.specs.declared.code.Code.{Code}
use Rattle.rev_code.specs.declared.code.CodeBlock.{CodeBlock}
use Rattle.rev_code.specs.declared.code.Instr.{Instr}
use Rattle.rev_code.specs.declared.code.Instr.TheVariants as i
use Rattle.rev_code.specs.Words.{Word, int, bool, rev, kind_of}
use Rattle.rev_code.specs.State.{Frame, Location, Setting, State, forked, joined}
use Rattle.rev_code.specs.Step as r
use Rattle.rev_code.specs.Step.{goes, traps, stuck, only, is_procedure, params, first_locals, most_frames}
use Rattle.rev_code.specs.Events.{start, part}
use Rattle.code_rules.specs.Shapes.{begins, param_kinds, result_kinds, one_or_none}
use Rattle.code_rules.specs.Pass.{Note, has_class, is_value_class}
use Rattle.code_soundness.specs.Typed.{kinds_of, IsFrame, IsWaiting, AllWaiting, AreLocations, location_kinds, IsOfProgram, IsRevision}
use Rattle.code_soundness.specs.AcceptedCode.{IsAccepted}
use Rattle.code_soundness.specs.Funs.{kind_of_result}
use Rattle.code_soundness.proofs.Lists.{some_eq, drop_whole, begins_all, kinds_drop, kinds_length, first_kinds, Taken, taken}
use Rattle.code_soundness.proofs.Variables.{view_kinds}
use Rattle.code_soundness.proofs.Well.{Stands, Well, GoesWell, JoinsWell}
use Rattle.code_soundness.proofs.Cases.{procedure_runs, no_fun, if_true}
use Rattle.code_soundness.proofs.Places.{operand_good, found, bare, named, impure, next_inside, next_shape, onto}

-- ---- the begin of a block

-- with nothing on the stack
pub begins_empty : (code : Code) (notes : ℕ → ℕ → Note) → IsAccepted code notes → (n : ℕ) (b : CodeBlock)
    → slice_get code.blocks n ≡ Some b → [] ≡ (notes n 0).shape
begins_empty code notes ok n b is = (ok.certified n b is).start.shape

module _ {H : Type 0} (code : Code) (notes : ℕ → ℕ → Note) (ok : IsAccepted code notes) (n : ℕ) (b : CodeBlock)
    (is : slice_get code.blocks n ≡ Some b) where
  pub begun : (args : List (Word H)) → kinds_of args ≡ params b → IsFrame code n 0 (first_locals b args)
  begun args e =
      record { body = b; is = is; inside = (ok.certified n b is).some; kinds = first_kinds b.params b.locals args e }

  pub started : IsOfProgram code n → (args : List (Word H)) → kinds_of args ≡ params b → (ls : List (Location H))
      → AreLocations (location_kinds code.vars) ls
      → (fuel : ℕ) → IsRevision code notes (start n b args ls fuel)
  started program args e ls located fuel = record {
    typed = record { frame = begun args e; stack = begins_empty code notes ok n b is; below = tt };
    program = program;
    locations = located;
    shallow = omega arith;
    few = omega arith;
  }

-- a procedure is of the program
procedure_program : (code : Code) (n : ℕ) (y : CodeBlock) → slice_get code.blocks n ≡ Some y
    → is_procedure y.class ≡ true → IsOfProgram code n
procedure_program code n y e h y' e' =
    ap (λ z. is_value_class z.class) (some_eq (sym e' ∙ e)) ∙ procedure_runs y.class h

module _ {H : Type 0} (s : Setting H) (notes : ℕ → ℕ → Note) (ok : IsAccepted s.code notes) (c : State H)
    (b : CodeBlock) where
  -- ---- Call

  module _ (n : ℕ) (a : Stands s notes c b (i.Call n)) where
    waiting : (y : CodeBlock) → slice_get s.code.blocks n ≡ Some y
        → IsWaiting s.code notes (record { block = c.block; at = suc c.at; locals = c.locals }) n
    waiting y e = record {
      frame = record { body = b; is = a.is; inside = next_inside s notes ok c b (i.Call n) a refl; kinds = a.locals };
      call_at = c.at;
      behind = refl;
      call = a.here;
      waits =
          sym (next_shape s notes ok c b (i.Call n) a refl)
          ∙ ap (λ z. result_kinds (slice_get s.code.blocks n) ++ z)
          (drop_whole (length (reverse (param_kinds (slice_get s.code.blocks n)))) (kinds_of c.stack)
          (bare s notes ok c b (i.Call n) a refl))
          ∙ append-nil (result_kinds (slice_get s.code.blocks n));
    }

    pub call_case : Well s notes c b (r.call c n (only is_procedure (slice_get s.code.blocks n)))
    call_case = by (slice_get s.code.blocks n) refl (named s notes ok c b (i.Call n) a)
        (found s notes ok c b (i.Call n) a) (bare s notes ok c b (i.Call n) a refl)
      where
        no_value : is_value_class b.class ≡ false
        no_value = impure s notes ok c b (i.Call n) a refl

        entered : (y : CodeBlock) → slice_get s.code.blocks n ≡ Some y → is_procedure y.class ≡ true
            → (t : Taken (params y) c.stack) → length (kinds_of c.stack) ≡ length (reverse (params y))
            → suc (length c.below) < most_frames → GoesWell s notes c b (r.enter c n y t.args)
        entered y e h t len few =
            let left : kinds_of (drop (length t.args) c.stack) ≡ [] =
            t.left ∙ drop_whole (length (reverse (params y))) (kinds_of c.stack) len in
            record {
              typed = record {
                frame = begun s.code notes ok n y e t.args t.same;
                stack = left ∙ begins_empty s.code notes ok n y e;
                below = (waiting y e, a.below);
              };
              ahead = λ p. absurd (true≢false (sym p ∙ no_value));
              revision = λ p. record {
                typed = record {
                  frame = begun s.code notes ok n y e t.args t.same;
                  stack = left ∙ begins_empty s.code notes ok n y e;
                  below = (waiting y e, a.below);
                };
                program = procedure_program s.code n y e h;
                locations = (a.program p).locations;
                shallow = (let l = sym (kinds_length (drop (length t.args) c.stack)) ∙ ap length left in
                    omega (arith, l));
                few = omega (arith, few);
              };
            }

        deep : (y : CodeBlock) → slice_get s.code.blocks n ≡ Some y → is_procedure y.class ≡ true
            → (t : Taken (params y) c.stack) → length (kinds_of c.stack) ≡ length (reverse (params y))
            → (d : Bool) → nat_lt (suc (length c.below)) most_frames ≡ d
            → Well s notes c b (if d then goes (r.enter c n y t.args) else traps c cause.CallDepth)
        deep y e h t len true q = entered y e h t len (grind (arith, nat_tests, q))
        deep y e h t len false q = no_fun s notes c b no_value c cause.CallDepth

        by : (o : Option CodeBlock) → slice_get s.code.blocks n ≡ o → has_class is_procedure o ≡ true
            → begins (reverse (param_kinds o)) (kinds_of c.stack) ≡ true
            → length (kinds_of c.stack) ≡ length (reverse (param_kinds o))
            → Well s notes c b (r.call c n (only is_procedure o))
        by None e h g len = absurd (true≢false (sym h))
        by (Some y) e h g len =
            let t = taken (params y) c.stack g in
            subst (λ d. Well s notes c b (r.call c n (if d then Some y else None))) (sym h)
            (subst (λ z. Well s notes c b (r.call_with c n y z)) (sym t.is)
            (deep y e h t len (nat_lt (suc (length c.below)) most_frames) refl))

  -- ---- Fork

  module _ (n : ℕ) (a : Stands s notes c b (i.Fork n)) where
    pub fork_case : Well s notes c b (r.fork c n (only is_procedure (slice_get s.code.blocks n)))
    fork_case = by (slice_get s.code.blocks n) refl (named s notes ok c b (i.Fork n) a)
        (found s notes ok c b (i.Fork n) a)
      where
        no_value : is_value_class b.class ≡ false
        no_value = impure s notes ok c b (i.Fork n) a refl

        by : (o : Option CodeBlock) → slice_get s.code.blocks n ≡ o → has_class is_procedure o ≡ true
            → begins (reverse (param_kinds o)) (kinds_of c.stack) ≡ true
            → Well s notes c b (r.fork c n (only is_procedure o))
        by None e h g = absurd (true≢false (sym h))
        by (Some y) e h g =
            let t = taken (params y) c.stack g in
            let program = procedure_program s.code n y e h in
            subst (λ d. Well s notes c b (r.fork c n (if d then Some y else None))) (sym h)
            (subst (λ z. Well s notes c b (r.fork_with c n z)) (sym t.is)
            (record {
              class = no_value;
              forked = record { body = y; is = e; program = program; kinds = t.same };
              forker = λ handle.
                  (onto s notes ok c b (i.Fork n) a refl c.locals (rev (Some handle) ∷ drop (length t.args) c.stack)
                  c.locations (c.fuel - part s.share c.fuel) (suc c.forks) (c.listed ++ forked handle c.line ∷ [])
                  c.text c.line
                  a.locals ((λ j. k.Rev ∷ t.left j)
                  ∙ ap (λ z. k.Rev ∷ drop (length (reverse (param_kinds z))) (kinds_of c.stack)) (sym e))
                  (λ p. (a.program p).locations)).revision
                  no_value;
              forked_child =
                  started s.code notes ok n y e program t.args t.same _
                  (view_kinds (location_kinds s.code.vars) c.locations (a.program no_value).locations)
                  (part s.share c.fuel);
            }))

  -- ---- Join and TryJoin

  abbrev pub join_of : Bool → Instr
  join_of true = i.TryJoin
  join_of false = i.Join

  pub join_case : is_value_class b.class ≡ false → (try : Bool) (ws : List (Word H))
      → begins (k.Rev ∷ []) (kinds_of ws) ≡ true → ((h : H) → JoinsWell s notes c b c try h)
      → Well s notes c b (r.join c try ws)
  join_case p try (rev (Some h) ∷ rest) g next = next h
  join_case p try (rev None ∷ rest) g next = no_fun s notes c b p c cause.JoinNone
  join_case p try [] g next = absurd (true≢false (sym g))
  join_case p try (int n ∷ rest) g next = absurd (true≢false (sym g))
  join_case p try (bool n ∷ rest) g next = absurd (true≢false (sym g))

  pub joins_plain : (a : Stands s notes c b i.Join) (h : H) → JoinsWell s notes c b c false h
  joins_plain a h =
      let p = impure s notes ok c b i.Join a refl in
      record {
        class = p;
        joined = λ done ls located fuel text.
            (onto s notes ok c b i.Join a refl c.locals (drop 1 c.stack) ls fuel c.forks
            (c.listed ++ joined h c.line ∷ []) text c.line a.locals (kinds_drop 1 c.stack) (λ q. located)).revision
            p;
      }

  pub joins_try : (a : Stands s notes c b i.TryJoin) (h : H) → JoinsWell s notes c b c true h
  joins_try a h =
      let p = impure s notes ok c b i.TryJoin a refl in
      record {
        class = p;
        joined = λ done ls located fuel text.
            (onto s notes ok c b i.TryJoin a refl c.locals (bool done ∷ drop 1 c.stack) ls fuel c.forks
            (c.listed ++ joined h c.line ∷ []) text c.line a.locals (ap (λ z. k.Bool ∷ z) (kinds_drop 1 c.stack))
            (λ q. located)).revision
            p;
      }

  -- ---- Return

  module _ (a : Stands s notes c b i.Return) where
    result_shape : kinds_of c.stack ≡ one_or_none b.result
    result_shape =
        begins_all (one_or_none b.result) (kinds_of c.stack) (found s notes ok c b i.Return a)
        (bare s notes ok c b i.Return a refl)

    leave_case : (fs : List (Frame H)) (w : Option (Word H)) → c.below ≡ fs → kind_of_result w ≡ b.result
        → Well s notes c b (r.leave c fs w)
    leave_case [] w e h = h
    leave_case (f ∷ fs) w e h = back (subst (λ z. AllWaiting s.code notes z c.block) e a.below)
      where
        back : AllWaiting s.code notes (f ∷ fs) c.block
            → GoesWell s notes c b (record c { block = f.block; at = f.at; locals = f.locals; below = fs })
        back v =
            let q = operand_good s.code f.block v.0.frame.body (i.Call c.block)
            ((ok.certified f.block v.0.frame.body v.0.frame.is).each v.0.call_at (i.Call c.block) v.0.call).operand in
            let no_value : is_value_class b.class ≡ false =
            procedure_runs b.class (ap (has_class is_procedure) (sym a.is) ∙ q.0) in
            let shape : kinds_of c.stack ≡ (notes f.block f.at).shape =
            result_shape ∙ ap result_kinds (sym a.is) ∙ sym v.0.waits in
            record {
              typed = record { frame = v.0.frame; stack = shape; below = v.1 };
              ahead = λ p. absurd (true≢false (sym p ∙ no_value));
              revision = λ p. record {
                typed = record { frame = v.0.frame; stack = shape; below = v.1 };
                program = λ y is. ap (λ z. is_value_class z.class) (some_eq (sym is ∙ v.0.frame.is)) ∙ q.1 refl;
                locations = (a.program p).locations;
                shallow = (a.program p).shallow;
                few = (let l = ap length e in let m = (a.program p).few in omega (arith, l, m));
              };
            }

    pub return_case : Well s notes c b (r.return c b.result c.stack)
    return_case = by b.result c.stack refl result_shape
      where
        by : (o : Option ValueKind) (ws : List (Word H)) → b.result ≡ o → kinds_of ws ≡ one_or_none o
            → Well s notes c b (r.return c o ws)
        by None ws e h = leave_case c.below None refl (sym e)
        by (Some x) [] e h = absurd (let z : [] ≡ x ∷ [] = h in cc)
        by (Some x) (w ∷ rest) e h =
            let z : kind_of w ≡ x = cc in
            if_true s notes c b (same_kind x (kind_of w)) (r.leave c c.below (Some w)) stuck
            (ap (same_kind x) z ∙ same_kind_self x) (leave_case c.below (Some w) refl (ap Some z ∙ sym e))
