-- The text of a generated program, statement by statement, and its length.
use Rattle.std.proofs.Common.{◌≡◌, ◌≤◌, ◌<◌, ◌^◌, ◌==◌, ◌∙◌, sym, ap, refl, ℕ, zero, suc, ◌+◌, ◌*◌, ◌/◌, ◌%◌, List, [], ◌∷◌, ◌++◌, length, map, arith, append_assoc, append-nil, length-append}
use Rattle.std.proofs.Math.Nat.{mod-lt}
use Rattle.std.proofs.lemmas.Bool.{cond_both}
use Rattle.std.proofs.lemmas.Fmt.{length-decimal-le}
use Rattle.std.proofs.lemmas.Grind.{flat_map-append}
use Rattle.std.proofs.lemmas.List.{map-append}
use Rattle.std.proofs.lemmas.List.FromFn.{map-range_with_len_more}
use Rattle.std.specs.Fmt.{decimal}
use Rattle.std.specs.List.{range_with_len}
use Rattle.rev_words.specs.Load.{declarations, draw, lines, load_text, next, prints, procedures, start, state, statement_at, statement_of, statement_text, statements_from}
use Rattle.rev_words.specs.declared.load.Statement.{Statement}
use Rattle.rev_words.specs.declared.load.Statement.TheVariants as statements

-- ---- one statement more

-- draws after draws
state-add : (seed m n k : ℕ) → k ≡ m + n → state (state seed m) n ≡ state seed k
state-add seed zero n k is = let e : n ≡ k = omega (arith, is) in ap (state seed) e
state-add seed (suc m) n zero is = absurd (omega (arith, is))
state-add seed (suc m) n (suc k) is = state-add (next seed) m n k (omega (arith, is))

pub state-more : (seed i : ℕ) → state (state seed (3 * i)) 3 ≡ state seed (3 * (i + 1))
state-more seed i = state-add seed (3 * i) 3 (3 * (i + 1)) (omega arith)

draw-add : (seed m n : ℕ) → draw (state seed m) n ≡ draw seed (m + n)
draw-add seed m n = ap (λ s. s / 65536) (state-add seed m n (m + n) refl)

-- the next three draws give the next statement
pub at-state : (seed i : ℕ) → statement_at (state seed (3 * i)) 0 ≡ statement_at seed i
at-state seed i =
    ap (λ n. statement_of n (draw (state seed (3 * i)) 2) (draw (state seed (3 * i)) 3)) (draw-add seed (3 * i) 1)
    ∙ ap (λ n. statement_of (draw seed (3 * i + 1)) n (draw (state seed (3 * i)) 3)) (draw-add seed (3 * i) 2)
    ∙ ap (λ n. statement_of (draw seed (3 * i + 1)) (draw seed (3 * i + 2)) n) (draw-add seed (3 * i) 3)

one-line : (l : List ℕ) → lines (l ∷ []) ≡ l ++ 10 ∷ []
one-line l = append-nil (l ++ 10 ∷ [])

pub lines-none : (seed : ℕ) → lines (map statement_text (statements_from seed 0)) ≡ []
unfolding statements_from
lines-none seed = refl

pub lines-more : (seed i : ℕ) → lines (map statement_text (statements_from seed (i + 1)))
    ≡ lines (map statement_text (statements_from seed i)) ++ (statement_text (statement_at seed i) ++ 10 ∷ [])
unfolding statements_from
lines-more seed i =
    ap (λ ss. lines (map statement_text ss)) (map-range_with_len_more (statement_at seed) 0 i i (omega arith))
    ∙ ap lines (map-append statement_text (map (statement_at seed) (range_with_len 0 i)) (statement_at seed i ∷ []))
    ∙ flat_map-append (λ l. l ++ 10 ∷ []) (map statement_text (map (statement_at seed) (range_with_len 0 i)))
    (statement_text (statement_at seed i) ∷ [])
    ∙ ap (λ t. lines (map statement_text (map (statement_at seed) (range_with_len 0 i))) ++ t)
    (one-line (statement_text (statement_at seed i)))

-- a statement more in a text
pub text-more : (seed i s : ℕ) (before now after : List ℕ) (made : Statement) → s ≡ state seed (3 * i)
    → made ≡ statement_at s 0
    → now ≡ before ++ lines (map statement_text (statements_from seed i))
    → after ≡ now ++ (statement_text made ++ 10 ∷ [])
    → after ≡ before ++ lines (map statement_text (statements_from seed (i + 1)))
text-more seed i s before now after made at is so_far added =
    added
    ∙ ap (λ t. t ++ (statement_text made ++ 10 ∷ [])) so_far
    ∙ append_assoc before (lines (map statement_text (statements_from seed i))) (statement_text made ++ 10 ∷ [])
    ∙ ap (λ m. before ++ (lines (map statement_text (statements_from seed i)) ++ (statement_text m ++ 10 ∷ [])))
    (is ∙ ap (λ n. statement_at n 0) at ∙ at-state seed i)
    ∙ ap (λ t. before ++ t) (sym (lines-more seed i))

-- ---- the parts of the text

pub load_text-parts : (seed size : ℕ) → load_text seed size
    ≡ lines declarations
    ++ (lines (map statement_text (statements_from seed 32))
    ++ (lines procedures ++ ((start size ++ 10 ∷ []) ++ lines prints)))
unfolding load_text
load_text-parts seed size =
    flat_map-append (λ l. l ++ 10 ∷ []) declarations
    (map statement_text (statements_from seed 32) ++ (procedures ++ (start size ∷ prints)))
    ∙ ap (λ t. lines declarations ++ t)
    (flat_map-append (λ l. l ++ 10 ∷ []) (map statement_text (statements_from seed 32))
    (procedures ++ (start size ∷ prints))
    ∙ ap (λ t. lines (map statement_text (statements_from seed 32)) ++ t)
    (flat_map-append (λ l. l ++ 10 ∷ []) procedures (start size ∷ prints)))

-- five texts, one behind another
joined : (d s p l r a b c e f : List ℕ) → a ≡ d → b ≡ a ++ s → c ≡ b ++ p → e ≡ c ++ l → f ≡ e ++ r
    → f ≡ d ++ (s ++ (p ++ (l ++ r)))
joined d s p l r a b c e f da sb pc le rf =
    rf ∙ ap (λ t. t ++ r) (le ∙ ap (λ t. t ++ l) (pc ∙ ap (λ t. t ++ p) (sb ∙ ap (λ t. t ++ s) da)))
    ∙ append_assoc ((d ++ s) ++ p) l r ∙ append_assoc (d ++ s) p (l ++ r) ∙ append_assoc d s (p ++ (l ++ r))

pub whole-text : (seed size : ℕ) {a b c e f : List ℕ} → a ≡ lines declarations
    → b ≡ a ++ lines (map statement_text (statements_from seed 32)) → c ≡ b ++ lines procedures
    → e ≡ c ++ (start size ++ 10 ∷ []) → f ≡ e ++ lines prints → f ≡ load_text seed size
whole-text seed size {a} {b} {c} {e} {f} da sb pc le rf =
    joined (lines declarations) (lines (map statement_text (statements_from seed 32))) (lines procedures)
    (start size ++ 10 ∷ []) (lines prints)
    a b c e f da sb pc le rf
    ∙ sym (load_text-parts seed size)

-- ---- its length

add_remainder-short : (cell constant : ℕ) → cell < 16 → constant < 100
    → length (statement_text (statements.AddRemainder cell constant)) ≤ 40
add_remainder-short cell constant c k =
    let x : length (decimal cell) ≤ 2 = length-decimal-le 2 cell (omega arith) (omega arith) (omega arith) in
    let y : length (decimal constant) ≤ 2 = length-decimal-le 2 constant (omega arith) (omega arith) (omega arith) in
    grind (arith, length-append)

add_constant-short : (cell constant : ℕ) → cell < 16 → constant < 100
    → length (statement_text (statements.AddConstant cell constant)) ≤ 40
add_constant-short cell constant c k =
    let x : length (decimal cell) ≤ 2 = length-decimal-le 2 cell (omega arith) (omega arith) (omega arith) in
    let y : length (decimal constant) ≤ 2 = length-decimal-le 2 constant (omega arith) (omega arith) (omega arith) in
    grind (arith, length-append)

set_product-short : (cell constant : ℕ) → cell < 16 → constant < 100
    → length (statement_text (statements.SetProduct cell constant)) ≤ 40
set_product-short cell constant c k =
    let x : length (decimal cell) ≤ 2 = length-decimal-le 2 cell (omega arith) (omega arith) (omega arith) in
    let y : length (decimal constant) ≤ 2 = length-decimal-le 2 constant (omega arith) (omega arith) (omega arith) in
    grind (arith, length-append)

statement-short : (first second third : ℕ) → length (statement_text (statement_of first second third)) ≤ 40
statement-short first second third =
    let c : second % 16 < 16 = mod-lt second (omega arith) in
    let k : third % 100 < 100 = mod-lt third (omega arith) in
    cond_both (first % 3 == 0) _ _ (λ s. length (statement_text s) ≤ 40)
    (λ _. add_remainder-short _ _ c k)
    (λ _. cond_both (first % 3 == 1) _ _ (λ s. length (statement_text s) ≤ 40)
    (λ _. add_constant-short _ _ c k)
    (λ _. set_product-short _ _ c k))

lines-short : (f : ℕ → Statement) → ((i : ℕ) → length (statement_text (f i)) ≤ 40) → (a n : ℕ)
    → length (lines (map statement_text (map f (range_with_len a n)))) ≤ 41 * n
lines-short f short a zero = omega arith
lines-short f short a (suc n) =
    omega (
      arith,
      short a,
      lines-short f short (a + 1) n,
      length-append (statement_text (f a)) (10 ∷ []),
      length-append (statement_text (f a) ++ 10 ∷ []) (lines (map statement_text (map f (range_with_len (a + 1) n)))),
    )

statements-short : (seed : ℕ) → length (lines (map statement_text (statements_from seed 32))) ≤ 1312
unfolding statements_from
statements-short seed =
    lines-short (statement_at seed)
    (λ i. statement-short (draw seed (3 * i + 1)) (draw seed (3 * i + 2)) (draw seed (3 * i + 3))) 0 32

declarations-length : length (lines declarations) ≡ 205
unfolding declarations
declarations-length = refl

procedures-length : length (lines procedures) ≡ 103
unfolding procedures
procedures-length = refl

prints-length : length (lines prints) ≡ 344
unfolding prints
prints-length = refl

start-short : (size : ℕ) → size < 2 ^ 32 → length (start size ++ 10 ∷ []) ≤ 21
start-short size small =
    let x : length (decimal size) ≤ 10 = length-decimal-le 10 size (omega arith) (omega arith) (omega arith) in
    grind (arith, length-append)

pub load_text-short : (seed size : ℕ) → size < 2 ^ 32 → length (load_text seed size) ≤ 1048576
load_text-short seed size small =
    rw (load_text-parts seed size)
    (rw (length-append, length-append, length-append, length-append)
    (omega (
      arith,
      declarations-length,
      statements-short seed,
      procedures-length,
      start-short size small,
      prints-length,
    )))
