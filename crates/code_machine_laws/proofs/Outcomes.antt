-- Each verified code has one outcome.
use Rattle.std.proofs.Common.{◌≡◌, ◌∙◌, refl, sym, subst, ap, ℕ, ◌+◌, ◌*◌, List, []}
use Rattle.std.specs.Prelude.{Option, Some, slice_get}
use Rattle.rev_num.specs.declared.outcome.Outcome.{Outcome}
use Rattle.rev_code.specs.declared.code.CodeBlock.{CodeBlock}
use Rattle.revision_machine.specs.Numbered.{World, begin, Replays, IsOver}
use Rattle.revision_machine.proofs.ByNumber.{schedule_completes}
use Rattle.code_machine.specs.Local.{CodeRun, IsVerified, Local}
use Rattle.code_machine.specs.Machines.{IsMain, numbered, start_in}
use Rattle.code_machine.proofs.Outcomes.{one_outcome}
use Rattle.code_machine.proofs.Starting.{entry_bound}
use Rattle.code_machine_laws.specs.Outcomes.{EachHasOne, HasOne, IsCompleteRun}
use Rattle.code_machine_laws.proofs.Mains.{has_main, main_is_one}

module _ (g : CodeRun) (ok : IsVerified g) (fuel : ℕ) where
  same_body : (o : Option CodeBlock) (b c : CodeBlock) → o ≡ Some b → o ≡ Some c → b ≡ c
  same_body o b c h k = let e : Some b ≡ Some c = sym h ∙ k in cc

  -- by this main block
  module _ (n : ℕ) (m : IsMain g n) where
    pub record IsBy (ns : List ℕ) (w : World (Local ℕ)) : Type 0 where
      pub legal : Replays (numbered g) (begin (numbered g) (start_in g n m.body fuel)) ns w
      pub over : IsOver (numbered g) (start_in g n m.body fuel) w

    pub by_main : (ns : List ℕ) (w : World (Local ℕ)) → IsCompleteRun g fuel ns w → IsBy ns w
    by_main ns w h = go h.block (main_is_one g ok h.block n h.main m) h.main h.legal h.over
      where
        moved : (b : CodeBlock) → b ≡ m.body
            → Replays (numbered g) (begin (numbered g) (start_in g n b fuel)) ns w
            → IsOver (numbered g) (start_in g n b fuel) w → IsBy ns w
        moved b e legal over =
            record {
              legal = subst (λ (x : CodeBlock). Replays (numbered g) (begin (numbered g) (start_in g n x fuel)) ns w) e
                  legal;
              over = subst (λ (x : CodeBlock). IsOver (numbered g) (start_in g n x fuel) w) e over;
            }

        at_block : (k : ℕ) → k ≡ n → (b : CodeBlock) → slice_get g.code.blocks k ≡ Some b
            → Replays (numbered g) (begin (numbered g) (start_in g k b fuel)) ns w
            → IsOver (numbered g) (start_in g k b fuel) w → IsBy ns w
        at_block k e b is legal over =
            moved b (same_body (slice_get g.code.blocks n) b m.body
            (subst (λ (x : ℕ). slice_get g.code.blocks x ≡ Some b) e is) m.is)
            (subst (λ (x : ℕ). Replays (numbered g) (begin (numbered g) (start_in g x b fuel)) ns w) e legal)
            (subst (λ (x : ℕ). IsOver (numbered g) (start_in g x b fuel) w) e over)

        go : (k : ℕ) → k ≡ n → (l : IsMain g k)
            → Replays (numbered g) (begin (numbered g) (start_in g k l.body fuel)) ns w
            → IsOver (numbered g) (start_in g k l.body fuel) w → IsBy ns w
        go k e l legal over = at_block k e l.body l.is legal over

    some_run : (ns : List ℕ) × (w : World (Local ℕ)) × IsCompleteRun g fuel ns w
    some_run =
        let all =
        schedule_completes (numbered g) (start_in g n m.body fuel) (3 * fuel + 2) (entry_bound g ok n m fuel) []
        (begin (numbered g) (start_in g n m.body fuel)) refl in
        (all.0, all.1, record { block = n; main = m; legal = all.2.replays; over = all.2.over })

    has_one : HasOne g fuel
    has_one =
        let run = some_run in
        let by = by_main run.0 run.1 run.2 in
        let own = one_outcome g ok n m fuel run.0 run.0 run.1 run.1 by.legal by.over by.legal by.over in
        record {
          is = own.0;
          has = record {
            schedule = run.0;
            world = run.1;
            complete = run.2;
            each = λ ns w h.
                let k = by_main ns w h in
                let both = one_outcome g ok n m fuel run.0 ns run.1 w by.legal by.over k.legal k.over in
                let e : Some own.0 ≡ Some both.0 = sym own.1 ∙ both.1 in
                let same : own.0 ≡ both.0 = cc in
                both.2 ∙ ap (λ (x : Outcome). Some x) (sym same);
          };
          only = λ o h. let e : Some o ≡ Some own.0 = sym (h.each run.0 run.1 run.2) ∙ own.1 in cc;
        }

pub each_has_one : EachHasOne
each_has_one g ok fuel = let m = has_main g ok in has_one g ok fuel m.0 m.1
