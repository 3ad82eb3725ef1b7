-- Forks and joins.
use Rattle.std.proofs.Common.{◌≡◌, ◌∙◌, ℕ, ◌+◌, ◌-◌, ◌≤◌, Bool, true, false, ℤ, List, [], ◌∷◌, length, get_or, Option, Some, None, refl, sym, ap, subst, arith}
use Rattle.std.specs.Prelude.{slice_get, if◌then◌else◌}
use Rattle.rev_num.specs.declared.value.ValueKind.TheVariants as k
use Rattle.rev_num.proofs.Lists.{false_no}
use Rattle.rev_code.specs.declared.code.Code.{Code}
use Rattle.rev_code.specs.declared.code.CodeBlock.{CodeBlock}
use Rattle.rev_code.specs.declared.code.Instr.TheVariants as i
use Rattle.rev_code.specs.Words.{Word, int, bool, rev}
use Rattle.rev_code.specs.State.{State}
use Rattle.rev_code.specs.Step as s
use Rattle.rev_code.specs.Step.{fork_with, forks, is_procedure, only, params, step}
use Rattle.rev_code.specs.Funs.{setting}
use Rattle.code_rules.specs.Shapes.{begins, param_kinds}
use Rattle.code_rules.specs.Pass.{has_class}
use Rattle.code_rules.specs.Verdict.{first_fault}
use Rattle.code_soundness.specs.Typed.{kinds_of}
use Rattle.code_soundness.proofs.Lists.{taken}
use Rattle.block_run.specs.Agreement.{AreWords, IsWord, handle}
use Rattle.block_run.specs.Area.{low, run_of}
use Rattle.block_run.proofs.Stacks.{upper}
use Rattle.leg_run.specs.declared.revision.LegEnd.TheVariants as end
use Rattle.leg_run.specs.declared.revision.Run.{Run}
use Rattle.leg_run.specs.Ends.{EndsAt, join_instr, join_of}
use Rattle.leg_run.specs.Standing.{Stands}
use Rattle.leg_run.proofs.Frames as f

module _ (code : Code) (ok : first_fault code ≡ None) (inputs : List ℤ) (share : ℕ) (run : Run) (seen : ℕ → ℕ)
    (root : ℕ → Option ℕ) (c : State ℕ)
    (st : Stands code inputs share run seen root c) (b : CodeBlock)
    (is : slice_get code.blocks run.registers.block ≡ Some b) where
  -- ---- Fork

  module _ (n : ℕ) (at : slice_get b.instrs run.registers.at ≡ Some (i.Fork n)) where
    abbrev Forks : Option CodeBlock → Type 0
    Forks o = (args : List (Word ℕ)) × (s.fork c n (only is_procedure o) ≡ forks c n args)

    forks_if : (y : CodeBlock) (d : Bool) → d ≡ true
        → begins (Rattle.std.specs.Prelude.reverse (params y)) (kinds_of c.stack) ≡ true
        → (args : List (Word ℕ)) × (s.fork c n (if d then Some y else None) ≡ forks c n args)
    forks_if y true e h = let t = taken (params y) c.stack h in (t.args, ap (fork_with c n) t.is)
    forks_if y false e h = false_no e

    forked : (o : Option CodeBlock) → has_class is_procedure o ≡ true
        → begins (Rattle.std.specs.Prelude.reverse (param_kinds o)) (kinds_of c.stack) ≡ true → Forks o
    forked None e h = false_no e
    forked (Some y) e h = forks_if y (is_procedure y.class) e h

    pub fork_ends : EndsAt (setting code inputs share) c (end.Fork n)
    fork_ends =
        let q = forked (slice_get code.blocks n) (f.named code ok inputs share run seen root c st b is (i.Fork n) at)
        (f.found code ok inputs share run seen root c st b is (i.Fork n) at) in
        (q.0, f.step_is code ok inputs share run seen root c st b is (i.Fork n) at ∙ q.1)

  -- ---- Join and TryJoin

  pub record Handle : Type 0 where
    pub word : Option ℕ
    pub rest : List (Word ℕ)
    pub found : c.stack ≡ rev word ∷ rest

  top_handle : (stack : List (Word ℕ)) → c.stack ≡ stack → begins (k.Rev ∷ []) (kinds_of stack) ≡ true → Handle
  top_handle [] e h = false_no h
  top_handle (int z ∷ rest) e h = false_no h
  top_handle (bool z ∷ rest) e h = false_no h
  top_handle (rev w ∷ rest) e h = record { word = w; rest = rest; found = e }

  module _ (try : Bool) (at : slice_get b.instrs run.registers.at ≡ Some (join_instr try)) where
    on_top : Handle
    on_top = by try at
      where
        by : (d : Bool) → slice_get b.instrs run.registers.at ≡ Some (join_instr d) → Handle
        by true at = top_handle c.stack refl (f.found code ok inputs share run seen root c st b is i.TryJoin at)
        by false at = top_handle c.stack refl (f.found code ok inputs share run seen root c st b is i.Join at)

    joins_by : (d : Bool) → slice_get b.instrs run.registers.at ≡ Some (join_instr d)
        → step (setting code inputs share) c ≡ s.join c d c.stack
    joins_by true at = f.step_is code ok inputs share run seen root c st b is i.TryJoin at
    joins_by false at = f.step_is code ok inputs share run seen root c st b is i.Join at

    pub some : low b run.registers + 1 ≤ run.registers.top
    some =
        let h = f.height code ok inputs share run seen root c st b is in
        let o = (f.here code ok inputs share run seen root c st b is).top in
        let l = ap length on_top.found in
        omega (arith, h, o, l)

    word_on_top : IsWord (rev on_top.word) (get_or run.words.items (run.registers.top - 1) 0)
    word_on_top =
        let a = subst (λ xs. AreWords xs (run_of b run.words.items run.registers).stack) on_top.found
        (f.here code ok inputs share run seen root c st b is).run.stack in
        (subst (AreWords (rev on_top.word ∷ on_top.rest)) (upper b run.words.items run.registers some) a).0

    ends_by : (o : Option ℕ) (rest : List (Word ℕ)) (w : ℕ) → w ≡ handle o
        → step (setting code inputs share) c ≡ s.join c try (rev o ∷ rest)
        → EndsAt (setting code inputs share) c (join_of try w)
    ends_by None rest w e h = subst (λ v. EndsAt (setting code inputs share) c (join_of try v)) (sym e) h
    ends_by (Some n) rest w e h = subst (λ v. EndsAt (setting code inputs share) c (join_of try v)) (sym e) h

    pub join_ends :
        EndsAt (setting code inputs share) c (join_of try (get_or run.words.items (run.registers.top - 1) 0))
    join_ends = ends_by on_top.word on_top.rest (get_or run.words.items (run.registers.top - 1) 0) word_on_top
        (joins_by try at ∙ ap (s.join c try) on_top.found)
