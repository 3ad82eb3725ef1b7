-- How large expressions are, with the bodies of the funs that they may apply.
use Rattle.std.proofs.Common.{◌≡◌, ℕ, ◌+◌, ◌*◌, ◌<◌, ◌≤◌, zero, suc, List, [], ◌∷◌, take, Option, Some, None, slice_get, option_and_then, IfSome, arith}
use Rattle.rev_syntax.specs.Trees.{Expression, placed, Declaration, fun, merge, shared, proc}
use Rattle.rev_syntax.specs.Small.{expression_count}
use Rattle.typed_programs.specs.Evaluation.{fun_body, body_at}

-- the bodies of the funs among declarations
abbrev pub bodies : List Declaration → ℕ
bodies [] = 0
bodies (fun w params result body ∷ es) = 8 * expression_count body + bodies es
bodies (merge w m j r body ∷ es) = bodies es
bodies (shared x ∷ es) = bodies es
bodies (proc w params result body ∷ es) = bodies es

-- the bodies of the funs among the first n declarations
unfoldable pub bodies_before : List Declaration → ℕ → ℕ
bodies_before es n = bodies (take n es)

abbrev pub bodies_to : List Declaration → Option ℕ → ℕ
bodies_to es None = 0
bodies_to es (Some d) = bodies_before es (suc d)

pub expression_count-positive : (t : Expression) → 0 < expression_count t
expression_count-positive (placed at s) = omega arith

-- fewer declarations have no more bodies
fewer : (es : List Declaration) (m n : ℕ) → m ≤ n → bodies (take m es) ≤ bodies (take n es)
fewer es zero n h = omega arith
fewer es (suc m) zero h = absurd (omega arith)
fewer [] (suc m) (suc n) h = omega arith
fewer (fun w params result body ∷ es) (suc m) (suc n) h = let rest = fewer es m n (omega arith) in omega arith
fewer (merge w m' j r body ∷ es) (suc m) (suc n) h = fewer es m n (omega arith)
fewer (shared x ∷ es) (suc m) (suc n) h = fewer es m n (omega arith)
fewer (proc w params result body ∷ es) (suc m) (suc n) h = fewer es m n (omega arith)

pub bodies_before-le : (es : List Declaration) (m n : ℕ) → m ≤ n → bodies_before es m ≤ bodies_before es n
unfolding bodies_before
bodies_before-le es m n h = fewer es m n h

with_body : (es : List Declaration) (d : ℕ) (body : Expression) → option_and_then fun_body (slice_get es d) ≡ Some body
    → bodies (take d es) + 8 * expression_count body ≤ bodies (take (suc d) es)
with_body [] d body h = cc
with_body (fun w params result b ∷ es) zero body h = let e : b ≡ body = cc in rw e (omega arith)
with_body (merge w m j r b ∷ es) zero body h = cc
with_body (shared x ∷ es) zero body h = cc
with_body (proc w params result b ∷ es) zero body h = cc
with_body (fun w params result b ∷ es) (suc d) body h = let rest = with_body es d body h in omega arith
with_body (merge w m j r b ∷ es) (suc d) body h = with_body es d body h
with_body (shared x ∷ es) (suc d) body h = with_body es d body h
with_body (proc w params result b ∷ es) (suc d) body h = with_body es d body h

-- a fun's body with those before it
pub bodies_to-body : (es : List Declaration) (d : ℕ) (body : Expression) → body_at es d ≡ Some body
    → bodies_before es d + 8 * expression_count body ≤ bodies_to es (Some d)
unfolding bodies_before body_at
bodies_to-body es d body h = with_body es d body h

-- the bodies up to a fun are among those before a number above it
pub bodies_to-before : (es : List Declaration) (f : Option ℕ) (n : ℕ) → IfSome f (λ d. d < n)
    → bodies_to es f ≤ bodies_before es n
bodies_to-before es None n h = omega arith
bodies_to-before es (Some d) n h = bodies_before-le es (suc d) n (omega arith)
