-- Forkers that are told, and children.
use Rattle.std.proofs.Common.{◌≡◌, ◌∙◌, ℕ, suc, ◌+◌, ◌-◌, ◌≤◌, List, [], ◌∷◌, ◌++◌, length, map, set, Option, refl, sym, ap, subst, arith}
use Rattle.std.proofs.lemmas.List.{length-set}
use Rattle.rev_code.specs.Words.{Word}
use Rattle.rev_code.specs.State.{Listed, State, forked}
use Rattle.rev_code.specs.Events as events
use Rattle.code_soundness.specs.Typed.{IsRevision}
use Rattle.code_soundness.specs.AcceptedCode.{notes_of}
use Rattle.block_run.specs.Agreement.{AreWords}
use Rattle.block_run.specs.declared.registers.Registers.{Registers}
use Rattle.block_run.specs.Area.{low, stack_of}
use Rattle.block_run.proofs.Onward.{words_length, stack_length}
use Rattle.block_run.proofs.Stacks.{stack_push, stack_top}
use Rattle.code_machine.specs.Local.{CodeRun}
use Rattle.leg_run.specs.declared.revision.Meeting.{Meeting}
use Rattle.leg_run.specs.declared.revision.Meeting.TheVariants as meeting
use Rattle.leg_run.specs.declared.revision.Run.{Run}
use Rattle.leg_run.specs.Standing.{listed_as, Stands}
use Rattle.rev_vm.specs.Starts.{IsWaiting, IsNamed}
use Rattle.rev_vm.proofs.Frames.{IsAbove, one_set, OnStack, stays}

-- the last entry of a list is another one
last_listed : (xs : List (Listed ℕ)) (x y : Listed ℕ) (ms : List Meeting) (m : Meeting) → y ≡ listed_as m
    → xs ++ x ∷ [] ≡ map listed_as ms → xs ++ y ∷ [] ≡ map listed_as (set ms (length ms - 1) m)
last_listed [] x y [] m e h = absurd cc
last_listed [] x y (a ∷ []) m e h = ap (λ z. z ∷ []) e
last_listed [] x y (a ∷ b ∷ ms) m e h = absurd cc
last_listed (z ∷ xs) x y [] m e h = absurd cc
last_listed (z ∷ xs) x y (a ∷ ms) m e h =
    let p : z ≡ listed_as a = cc in
    let q : xs ++ x ∷ [] ≡ map listed_as ms = cc in
    let some : 1 ≤ length ms = longer xs ms q in
    let i : suc (length ms - 1) ≡ suc (length ms) - 1 = omega (arith, some) in
    (λ j. p j ∷ last_listed xs x y ms m e q j) ∙ ap (λ n. map listed_as (set (a ∷ ms) n m)) i
  where
    longer : (xs : List (Listed ℕ)) (ms : List Meeting) → xs ++ x ∷ [] ≡ map listed_as ms → 1 ≤ length ms
    longer xs (b ∷ ms) h = omega arith
    longer [] [] h = absurd cc
    longer (w ∷ xs) [] h = absurd cc

module _ (g : CodeRun) (run run' : Run) (seen : ℕ → ℕ) (root : ℕ → Option ℕ) (c : State ℕ) (args : List (Word ℕ))
    (number : ℕ) (waits : IsWaiting run) (k : IsNamed number run run')
    (s : Stands g.code g.inputs g.share run seen root (events.parent g.share c args 0)) where
  found : low s.body run.registers + 1 ≤ run.registers.top
  found =
      let n = words_length (events.parent g.share c args 0).stack
      (stack_of run.words.items (low s.body run.registers) (run.registers.top - low s.body run.registers))
      s.here.run.stack in
      let m = stack_length run.words.items (low s.body run.registers) (run.registers.top - low s.body run.registers) in
      let t = s.here.top in omega (arith, n, m, t)

  on_named : IsRevision g.code (notes_of g.code) (events.parent g.share c args number)
      → OnStack g s.body run run' (events.parent g.share c args 0) (events.parent g.share c args number)
  on_named good =
      let l = low s.body run.registers in
      let f = found in
      let w = waits.within in
      let rows = k.registers in
      let height : run.registers.top - l ≡ suc (run.registers.top - 1 - l) = omega (arith, f) in
      let place : run.registers.top - 1 ≡ l + (run.registers.top - 1 - l) = omega (arith, f) in
      let top : run'.registers.top ≡ run.registers.top = ap (λ (z : Registers). z.top) rows in
      let push =
      stack_push run.words.items l (run.registers.top - 1 - l) (run.registers.top - 1) (run.registers.top - l)
      (suc number) place height (omega (arith, f, w)) in
      let old =
      stack_top run.words.items l (run.registers.top - l) (run.registers.top - 1 - l) (run.registers.top - 1) height
      place in
      let rest = subst (AreWords (events.parent g.share c args 0).stack) old s.here.run.stack in
      record {
        revision = good;
        block = refl;
        locals = refl;
        below = refl;
        same_block = ap (λ (z : Registers). z.block) rows;
        same_base = ap (λ (z : Registers). z.base) rows;
        waits = k.below;
        at = ap (λ (z : Registers). z.at) rows ∙ s.here.run.at;
        fuel = ap (λ (z : Registers). z.fuel) rows ∙ s.here.run.fuel;
        line = ap (λ (z : Registers). z.line) rows ∙ s.here.run.line;
        words = subst (IsAbove l run.words.items) (sym k.words)
            (one_set l (run.registers.top - 1) (suc number) run.words.items (omega (arith, f)));
        top = omega (arith, f, top);
        stack = subst (λ m. AreWords (events.parent g.share c args number).stack (stack_of run'.words.items l (m - l)))
            (sym top)
            (subst (λ ws. AreWords (events.parent g.share c args number).stack (stack_of ws l (run.registers.top - l)))
            (sym k.words)
            (subst (AreWords (events.parent g.share c args number).stack) (sym push) (refl, rest.1)));
        forks = s.forks ∙ sym k.forks;
        listed = last_listed c.listed (forked 0 c.line) (forked number c.line) run.meetings.items
            (meeting.Forked number run.registers.line) (ap (λ l. forked number l) (sym s.here.run.line)) s.listed
            ∙ ap (λ ms. map listed_as ms) (sym k.meetings);
        text = s.text ∙ sym (ap (λ v. v.items) k.text);
        few = (let i = k.forks in
            let j = ap length k.meetings
            ∙ length-set run.meetings.items (length run.meetings.items - 1)
            (meeting.Forked number run.registers.line) in
            let m = s.few in
            omega (arith, i, j, m));
      }

  -- handles do not change the kinds
  good_named : IsRevision g.code (notes_of g.code) (events.parent g.share c args number)
  good_named = let r : IsRevision g.code (notes_of g.code) (events.parent g.share c args 0) = s.here.good in
      record {
        typed = record { frame = r.typed.frame; stack = r.typed.stack; below = r.typed.below };
        program = r.program;
        locations = r.locations;
        shallow = r.shallow;
        few = r.few;
      }

  pub named : Stands g.code g.inputs g.share run' seen root (events.parent g.share c args number)
  named = stays g run run' seen seen root root (events.parent g.share c args 0) (events.parent g.share c args number) s
      (on_named good_named) s.here.locations s.here.many
