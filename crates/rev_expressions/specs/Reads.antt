-- What a parsing function ensures of its result, and of the tokens that it leaves.
use Rattle.std.specs.Prelude.{◌≡◌, ◌≢◌, ℕ, suc, List, Result, Ok, Err}
use Rattle.rev_syntax.specs.declared.token.Token.{Token}
use Rattle.rev_expressions.specs.Outcome.{Stop, Unexpected, TooDeep, Outcome, Read, Failed}
use Rattle.rev_expressions.specs.declared.cursor.TreeFault.{TreeFault}
use Rattle.rev_expressions.specs.declared.cursor.TreeFault.TheVariants as f

-- where the fault is in the text; want of memory is nothing of the text
abbrev pub stop_of : TreeFault → Stop
stop_of f.TooDeep = TooDeep
stop_of _ = Unexpected

abbrev pub Reads : {R A : Type 0} → Outcome Token A → (R → A) → Result R TreeFault → List Token → Type 0
Reads o view (Ok r) rest = o ≡ Read (view r) rest
Reads o view (Err e) rest = e ≢ f.OutOfMemory → o ≡ Failed (stop_of e) rest

-- the levels that are left after one more, if one may be opened
abbrev pub IsWithin : ℕ → Result ℕ TreeFault → Type 0
IsWithin n (Ok m) = n ≡ suc m
IsWithin n (Err f.TooDeep) = n ≡ 0
IsWithin n (Err _) = ⊥

abbrev pub same : {A : Type 0} → A → A
same a = a
