-- What a frame still has to do, as blocks of the tree that lie on one another.
--
-- `remaining` is the statements of the blocks, the last block first; `topmost` lists frames, the last one first.
use Rattle.std.specs.Prelude.{List, [], ◌∷◌, Option, Some, None, Result, Ok, Err}
use Rattle.std.specs.Borrow.{Bor}
use Rattle.rev_num.specs.declared.outcome.Cause.{Cause}
use Rattle.rev_syntax.specs.Trees.{Statement, Statements, no_statements, statements}
use Rattle.rev_syntax.specs.View.{stmts}
use Rattle.rev_syntax.specs.declared.tree.Stmt.{Stmt}
use Rattle.revision_calculus.specs.State.{Frame}
use Rattle.revision_calculus.specs.Step.{append}
use Rattle.revision_calculus.specs.Evaluation.{on_top}

-- the statements of these blocks, the last block first, and then these
abbrev pub on_these : Statements → List (Bor (List Stmt)) → Statements
on_these below [] = below
on_these below (b ∷ bs) = on_these (append (stmts b.now) below) bs

-- the statements of these blocks, the last block first
abbrev pub remaining : List (Bor (List Stmt)) → Statements
remaining blocks = on_these no_statements blocks

-- the last first
abbrev pub turned : {A : Type 0} → List A → List A → List A
turned below [] = below
turned below (x ∷ xs) = turned (x ∷ below) xs

abbrev pub topmost : {A : Type 0} → List A → List A
topmost xs = turned [] xs

-- the statement that was taken, if one was, comes before these
abbrev pub before : Option Statement → Statements → Statements
before None rest = no_statements
before (Some x) rest = statements x rest

-- these frames, where the one on top had that statement, if one was taken, before the others
abbrev pub with_next : Option Statement → List Frame → List Frame
with_next found frames = on_top (λ f. record f { rest = before found f.rest }) frames

-- a block that was found, or why there is none
abbrev pub block_of : Result (Bor (List Stmt)) Cause → Result Statements Cause
block_of (Ok b) = Ok (stmts b.now)
block_of (Err c) = Err c
