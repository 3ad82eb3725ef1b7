-- Blocks that lie on one another, and frames that do.
use Rattle.std.proofs.Common.{◌≡◌, ◌+◌, List, [], ◌∷◌, ◌++◌, length, refl, sym, ap, ◌∙◌, arith}
use Rattle.std.specs.Borrow.{Bor}
use Rattle.rev_syntax.specs.Trees.{Statements, no_statements, statements}
use Rattle.rev_syntax.specs.View.{stmts, stmt}
use Rattle.rev_syntax.specs.declared.tree.Stmt.{Stmt}
use Rattle.revision_calculus.specs.Step.{append}
use Rattle.revision_state.specs.Remaining.{on_these, remaining, turned, topmost}

append_none : (xs : Statements) → append xs no_statements ≡ xs
append_none no_statements = refl
append_none (statements x xs) = ap (statements x) (append_none xs)

on_these_push : (below : Statements) (bs : List (Bor (List Stmt))) (b : Bor (List Stmt))
    → on_these below (bs ++ b ∷ []) ≡ append (stmts b.now) (on_these below bs)
on_these_push below [] b = refl
on_these_push below (c ∷ bs) b = on_these_push (append (stmts c.now) below) bs b

pub remaining_push : (bs : List (Bor (List Stmt))) (b : Bor (List Stmt))
    → remaining (bs ++ b ∷ []) ≡ append (stmts b.now) (remaining bs)
remaining_push bs b = on_these_push no_statements bs b

pub remaining_one : (b : Bor (List Stmt)) → remaining (b ∷ []) ≡ stmts b.now
remaining_one b = append_none (stmts b.now)

pub stmts_none : (xs : List Stmt) → length xs ≡ 0 → stmts xs ≡ no_statements
stmts_none [] e = refl
stmts_none (x ∷ xs) e = absurd (omega arith)

turned_push : {A : Type 0} (below xs : List A) (x : A) → turned below (xs ++ x ∷ []) ≡ x ∷ turned below xs
turned_push below [] x = refl
turned_push below (y ∷ xs) x = turned_push (y ∷ below) xs x

pub topmost_push : {A : Type 0} (xs : List A) (x : A) → topmost (xs ++ x ∷ []) ≡ x ∷ topmost xs
topmost_push xs x = turned_push [] xs x

-- a block that ended
pub append_ended : (xs : List Stmt) (rest : Statements) → length xs ≡ 0 → append (stmts xs) rest ≡ rest
append_ended xs rest e = ap (λ b. append b rest) (stmts_none xs e)

-- the next statement of the last block is taken
pub taken : (blocks popped : List (Bor (List Stmt))) (b : Bor (List Stmt)) (x : Stmt) (others : List Stmt)
    (after : Statements)
    → blocks ≡ popped ++ b ∷ [] → b.now ≡ x ∷ others → after ≡ append (stmts others) (remaining popped)
    → remaining blocks ≡ statements (stmt x) after
taken blocks popped b x others after e first kept =
    ap remaining e ∙ remaining_push popped b ∙ ap (λ xs. append (stmts xs) (remaining popped)) first
    ∙ ap (statements (stmt x)) (sym kept)

-- the last block has ended
pub ended : (blocks popped : List (Bor (List Stmt))) (b : Bor (List Stmt)) → blocks ≡ popped ++ b ∷ []
    → length b.now ≡ 0 → remaining popped ≡ remaining blocks
ended blocks popped b e none =
    sym (ap remaining e ∙ remaining_push popped b ∙ append_ended b.now (remaining popped) none)

length_turned : {A : Type 0} (below xs : List A) → length (turned below xs) ≡ length xs + length below
length_turned below [] = omega arith
length_turned below (x ∷ xs) = let e = length_turned (x ∷ below) xs in omega arith

pub length_topmost : {A : Type 0} (xs : List A) → length (topmost xs) ≡ length xs
length_topmost xs = let e = length_turned [] xs in omega arith
