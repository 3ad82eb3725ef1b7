-- Each run of verified code has a memo, and whatever the entries are, so many of its leaf revisions have a valid one.
--   MemoIn          these entries are the memo of the runs of this code with this fuel
--   ReusedIn        so many of their leaf revisions have a valid entry of these
--   EachHasMemo     there are such entries
--   EachIsReused    and there is such a number
--   OneReused       which is the same by each memo of a run before
use Rattle.std.specs.Prelude.{◌≡◌, ◌≤◌, ℕ, List}
use Rattle.rev_num.specs.Limits.{most_fuel}
use Rattle.code_machine.specs.Local.{CodeRun, IsVerified}
use Rattle.code_machine.specs.Machines.{IsMain}
use Rattle.code_memos.specs.Leaf.{Known}
use Rattle.code_memos.specs.ByNumber.{HasMemo, HasReused}

pub record MemoIn (g : CodeRun) (fuel : ℕ) (es : List Known) : Type 0 where
  pub number : ℕ
  pub main : IsMain g number
  pub memo : HasMemo g number main fuel es

pub record ReusedIn (g : CodeRun) (fuel : ℕ) (es : List Known) (count : ℕ) : Type 0 where
  pub number : ℕ
  pub main : IsMain g number
  pub reused : HasReused g number main fuel es count

abbrev pub EachHasMemo : Type 0
EachHasMemo = (g : CodeRun) → IsVerified g → (fuel : ℕ) → fuel ≤ most_fuel → (es : List Known) × MemoIn g fuel es

abbrev pub EachIsReused : Type 0
EachIsReused =
    (g : CodeRun) → IsVerified g → (fuel : ℕ) → fuel ≤ most_fuel → (es : List Known)
    → (count : ℕ) × ReusedIn g fuel es count

abbrev pub OneReused : Type 0
OneReused =
    (before now : CodeRun) → IsVerified before → IsVerified now → (fuel fuel' : ℕ) (es es' : List Known)
    → MemoIn before fuel es → MemoIn before fuel es' → (n k : ℕ) → ReusedIn now fuel' es n → ReusedIn now fuel' es' k
    → n ≡ k
