-- A record at a number, and a record that is put there, as reads and writes of the list.
use Rattle.std.proofs.Common.{◌≡◌, ℕ, zero, suc, List, [], ◌∷◌, ◌++◌, refl, sym, ap, ◌∙◌, arith, true, Option, Some, None}
use Rattle.revision_machine.specs.Numbered.{at_number, put_number}
use Rattle.revision_machine.proofs.Paths.{some_inj}
use Rattle.revision_machine.proofs.Numbers.{none_some}
use Rattle.hub_core.specs.declared.status.Status.{Status}
use Rattle.hub_core.specs.Found.{ended_here}
use Rattle.hub_core.specs.Tally.{record_at}
use Rattle.hub_core.specs.declared.run_queue.RunQueue.{RunQueue}
use Rattle.hub_core.specs.Recorded.{put_record, IsLonger}
use Rattle.hub_core.proofs.Slots.{no_more}

module _ {R A E : Type 0} where
  pub record_is : (rs : List (Option (Status R A E))) (n : ℕ) (o : Option (Status R A E)) → at_number rs n ≡ Some o
      → record_at rs n ≡ o
  record_is [] n o e = none_some e
  record_is (y ∷ rs) zero o e = some_inj e
  record_is (y ∷ rs) (suc n) o e = record_is rs n o e

  pub put_is : (rs : List (Option (Status R A E))) (n : ℕ) (x : Status R A E)
      → put_number rs n (Some x) ≡ put_record rs n x
  put_is [] n x = refl
  put_is (y ∷ rs) zero x = refl
  put_is (y ∷ rs) (suc n) x = ap (λ l. y ∷ l) (put_is rs n x)

  -- a place without a record at the end
  pub record_more : (rs : List (Option (Status R A E))) (j : ℕ) → record_at (rs ++ None ∷ []) j ≡ record_at rs j
  record_more [] zero = refl
  record_more [] (suc j) = refl
  record_more (y ∷ rs) zero = refl
  record_more (y ∷ rs) (suc j) = record_more rs j

  pub longer_next : {q q' q'' : RunQueue} {rs rs' rs'' : List (Option (Status R A E))} → IsLonger q q' rs rs'
      → IsLonger q' q'' rs' rs'' → IsLonger q q'' rs rs''
  longer_next a b = record {
    same = λ j. b.same j ∙ a.same j;
    long = let x = a.long in let y = b.long in omega arith;
    lists = λ ready waits h. b.lists ready waits (a.lists ready waits h);
    unfinished = b.unfinished ∙ a.unfinished;
    links = b.links;
    reach = b.reach;
  }

  -- what has ended has a record
  pub ended_record : (o : Option (Status R A E)) → ended_here o ≡ true → (x : Status R A E) × (o ≡ Some x)
  ended_record None e = no_more e
  ended_record (Some x) e = (x, refl)

  -- the record that was there
  pub put_record_same : (rs : List (Option (Status R A E))) (n : ℕ) (x : Status R A E) → record_at rs n ≡ Some x
      → put_record rs n x ≡ rs
  put_record_same [] n x e = refl
  put_record_same (y ∷ rs) zero x e = ap (λ z. z ∷ rs) (sym e)
  put_record_same (y ∷ rs) (suc n) x e = ap (λ l. y ∷ l) (put_record_same rs n x e)
