-- The program that `load` runs: a text made from a seed and a size. `docs/formats.md` has the same
-- rules in words.
--
-- next, draw: the numbers drawn from a seed
-- statement_of, statement_at: the statement that three of them give
-- statement_text: its text
-- declarations, procedures, start, prints, program: the lines of the text
-- load_text: the text
use Rattle.std.specs.Prelude.{◌==◌, ℕ, ◌+◌, ◌*◌, ◌/◌, ◌%◌, List, [], ◌∷◌, ◌++◌, codes, if◌then◌else◌, map}
use Rattle.std.specs.Fmt.{decimal}
use Rattle.std.specs.Fn.{iterate}
use Rattle.std.specs.List.{flat_map, range_with_len}
use Rattle.rev_words.specs.declared.load.Statement.{Statement}
use Rattle.rev_words.specs.declared.load.Statement.TheVariants as statements

-- ---- the numbers drawn

-- a linear congruence: the state after a state
abbrev pub next : ℕ → ℕ
next s = (s * 1103515245 + 12345) % 2147483648

-- the state after so many draws
abbrev pub state : ℕ → ℕ → ℕ
state seed n = iterate next n seed

-- the n-th number drawn, from 1 on: the upper bits of the state after so many draws
abbrev pub draw : ℕ → ℕ → ℕ
draw seed n = state seed n / 65536

-- ---- the statements

-- the statement that three numbers give: the first for its kind, the second for its cell, the third
-- for its constant
abbrev pub statement_of : ℕ → ℕ → ℕ → Statement
statement_of first second third =
    if first % 3 == 0 then statements.AddRemainder (second % 16) (third % 100)
    else if first % 3 == 1 then statements.AddConstant (second % 16) (third % 100)
    else statements.SetProduct (second % 16) (third % 100)

-- the i-th statement, from 0 on, has three draws of its own
abbrev pub statement_at : ℕ → ℕ → Statement
statement_at seed i = statement_of (draw seed (3 * i + 1)) (draw seed (3 * i + 2)) (draw seed (3 * i + 3))

-- the first n statements
unfoldable pub statements_from : ℕ → ℕ → List Statement
statements_from seed n = map (statement_at seed) (range_with_len 0 n)

abbrev pub statement_text : Statement → List ℕ
statement_text (statements.AddRemainder cell constant) =
    codes "a[" ++ (decimal cell ++ (codes "] = a[" ++ (decimal cell
    ++ (codes "] + k % (" ++ (decimal constant ++ codes " + 1);")))))
statement_text (statements.AddConstant cell constant) =
    codes "b[" ++ (decimal cell ++ (codes "] = b[" ++ (decimal cell
    ++ (codes "] + " ++ (decimal constant ++ codes ";")))))
statement_text (statements.SetProduct cell constant) =
    codes "v[" ++ (decimal cell ++ (codes "] = k * " ++ (decimal constant ++ codes ";")))

-- ---- the text

-- the lines of a text, each ended by a line feed
abbrev pub lines : List (List ℕ) → List ℕ
lines ls = flat_map (λ l. l ++ 10 ∷ []) ls

-- the lines before the statements
unfoldable pub declarations : List (List ℕ)
declarations =
    codes "merge sum(m, j, r) = m + j - r;"
    ∷ codes "merge most(m, j, r) = pick(j > m, j, m);"
    ∷ codes "cumulative a : int[16] by sum;"
    ∷ codes "cumulative b : int[16] by most;"
    ∷ codes "versioned v : int[16];"
    ∷ codes "proc work(k: int) {"
    ∷ codes "let t = 0;"
    ∷ codes "while t < 50 {"
    ∷ []

-- the lines between the statements and the one that has the size
unfoldable pub procedures : List (List ℕ)
procedures =
    codes "t = t + 1;"
    ∷ codes "}"
    ∷ codes "}"
    ∷ codes "proc go(n: int) {"
    ∷ codes "if n > 0 {"
    ∷ codes "let h = rfork work(n);"
    ∷ codes "call go(n - 1);"
    ∷ codes "rjoin h;"
    ∷ codes "}"
    ∷ codes "}"
    ∷ codes "main {"
    ∷ []

-- the line that starts as many tasks as the size says
abbrev pub start : ℕ → List ℕ
start size = codes "call go(" ++ (decimal size ++ codes ");")

-- the lines behind it
unfoldable pub prints : List (List ℕ)
prints =
    codes "print a[0], a[1], a[2], a[3], a[4], a[5], a[6], a[7];"
    ∷ codes "print a[8], a[9], a[10], a[11], a[12], a[13], a[14], a[15];"
    ∷ codes "print b[0], b[1], b[2], b[3], b[4], b[5], b[6], b[7];"
    ∷ codes "print b[8], b[9], b[10], b[11], b[12], b[13], b[14], b[15];"
    ∷ codes "print v[0], v[1], v[2], v[3], v[4], v[5], v[6], v[7];"
    ∷ codes "print v[8], v[9], v[10], v[11], v[12], v[13], v[14], v[15];"
    ∷ codes "}"
    ∷ []

-- the lines of the program
abbrev pub program : ℕ → ℕ → List (List ℕ)
program seed size =
    declarations ++ (map statement_text (statements_from seed 32) ++ (procedures ++ (start size ∷ prints)))

-- the text of the program
unfoldable pub load_text : ℕ → ℕ → List ℕ
load_text seed size = lines (program seed size)
