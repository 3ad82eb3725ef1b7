-- Worked programs, each after its text. A statement's line is its line in that text.
--
-- `usual`, `sharing` and `given` are settings; `Prints`, `Traps` and `JoinsTwice` say what every complete run writes.
use Rattle.std.specs.Prelude.{ℕ, ℤ, true, false, codes, List, [], ◌∷◌}
use Prim.Native.String.{String}
use Rattle.rev_num.specs.Path.{Path}
use Rattle.rev_num.specs.declared.value.ValueKind.TheVariants as kind
use Rattle.rev_syntax.specs.declared.tree.BinaryOp.TheVariants as b
use Rattle.rev_syntax.specs.Trees.{Expression, Statement, ProgramTree}
use Rattle.rev_report.specs.Report.{Output, done}
use Rattle.rev_report.specs.Outcome.{trap_report, twice_report}
use Rattle.revision_calculus.specs.Program.{Setting}
use Rattle.revision_calculus.specs.Complete.{Reports}
use Rattle.revision_calculus.specs.Words.{int, bool, none, var, cell, input, inputs, neg, not, pick, apply, op, value, call_of, rfork, tryjoin, let_, assign, assign_cell, if_, if_else, while, call, return, fork, rjoin, print, item, quoted, assert, param, proc, proc_giving, fun, versioned, versioned_array, cumulative, cumulative_array, sum, program}

-- ---- settings and reports

-- without inputs, with the usual share
abbrev pub usual : ProgramTree → Setting
usual p = record { program = p; inputs = []; share = 1000000 }

-- where a fork gives at most this much fuel
abbrev pub sharing : ℕ → ProgramTree → Setting
sharing share p = record { program = p; inputs = []; share = share }

abbrev pub usual_fuel : ℕ
usual_fuel = 1000000000

-- a run that printed this
abbrev pub prints : String → Output
prints out = done (codes out)

-- a run that printed this and in which `main` trapped, with this message
abbrev pub traps : String → String → Output
traps out message = trap_report (codes out) (codes message)

abbrev pub joins_twice : Output
joins_twice = twice_report

-- every complete run of the program, without inputs and with the usual fuel and share, prints this
abbrev pub Prints : ProgramTree → String → Type 0
Prints p out = Reports (usual p) usual_fuel false (prints out)

-- prints this, and `main` traps with this message
abbrev pub Traps : ProgramTree → String → String → Type 0
Traps p out message = Reports (usual p) usual_fuel false (traps out message)

-- joins a revision twice
abbrev pub JoinsTwice : ProgramTree → Type 0
JoinsTwice p = Reports (usual p) usual_fuel false joins_twice

-- ---- joins

-- versioned x : int;
-- proc child() { .. }
-- main { let h = rfork child(); x = 2; rjoin h; print x; }
abbrev pub two_writers : List Statement → ProgramTree
two_writers body = program
    (versioned "x" kind.Int ∷ proc "child" [] body ∷ [])
    (let_ 3 "h" (rfork "child" [])
    ∷ assign 3 "x" (value (int 2))
    ∷ rjoin 3 (var "h")
    ∷ print 3 (item (var "x") ∷ [])
    ∷ [])

-- .. { x = 1; }
abbrev pub joinee_wins : ProgramTree
joinee_wins = two_writers (assign 2 "x" (value (int 1)) ∷ [])

-- .. { }
abbrev pub no_write : ProgramTree
no_write = two_writers []

-- .. { x = 0; }
abbrev pub write_of_old_value : ProgramTree
write_of_old_value = two_writers (assign 2 "x" (value (int 0)) ∷ [])

-- versioned x : int;
-- versioned y : int;
-- proc child() { if x == 0 { y = y + 1; } }
-- main { let h = rfork child(); if y == 0 { x = x + 1; } rjoin h; print x, y; }
abbrev pub both_count : ProgramTree
both_count = program
    (versioned "x" kind.Int
    ∷ versioned "y" kind.Int
    ∷ proc "child" [] (if_ 3 (op (var "x") b.Eq (int 0)) (assign 3 "y" (value (op (var "y") b.Add (int 1))) ∷ []) ∷ [])
    ∷ [])
    (let_ 4 "h" (rfork "child" [])
    ∷ if_ 4 (op (var "y") b.Eq (int 0)) (assign 4 "x" (value (op (var "x") b.Add (int 1))) ∷ [])
    ∷ rjoin 4 (var "h")
    ∷ print 4 (item (var "x") ∷ item (var "y") ∷ [])
    ∷ [])

-- merge sum(m, j, r) = m + j - r;
-- cumulative x : int by sum;
-- proc child() { x = x + 1; }
-- main {
--   x = 5;
--   let h = rfork child();
--   x = x + 10;
--   rjoin h;
--   print x;
-- }
abbrev pub sums : ProgramTree
sums = program
    (sum
    ∷ cumulative "x" "sum"
    ∷ proc "child" [] (assign 3 "x" (value (op (var "x") b.Add (int 1))) ∷ [])
    ∷ [])
    (assign 5 "x" (value (int 5))
    ∷ let_ 6 "h" (rfork "child" [])
    ∷ assign 7 "x" (value (op (var "x") b.Add (int 10)))
    ∷ rjoin 8 (var "h")
    ∷ print 9 (item (var "x") ∷ [])
    ∷ [])

-- versioned hb : rev;
-- versioned n : int;
-- proc b() { n = 9; }
-- proc a() { hb = rfork b(); }
-- main { let h = rfork a(); rjoin h; rjoin hb; print n; }
abbrev pub handle_travels : ProgramTree
handle_travels = program
    (versioned "hb" kind.Rev
    ∷ versioned "n" kind.Int
    ∷ proc "b" [] (assign 3 "n" (value (int 9)) ∷ [])
    ∷ proc "a" [] (assign 4 "hb" (rfork "b" []) ∷ [])
    ∷ [])
    (let_ 5 "h" (rfork "a" [])
    ∷ rjoin 5 (var "h")
    ∷ rjoin 5 (var "hb")
    ∷ print 5 (item (var "n") ∷ [])
    ∷ [])

-- versioned n : int;
-- proc b() { n = 4; }
-- proc c(h: rev) { rjoin h; n = n + 1; }
-- main { let hb = rfork b(); let hc = rfork c(hb); rjoin hc; print n; }
abbrev pub sibling_joins : ProgramTree
sibling_joins = program
    (versioned "n" kind.Int
    ∷ proc "b" [] (assign 2 "n" (value (int 4)) ∷ [])
    ∷ proc "c" (param "h" kind.Rev ∷ []) (rjoin 3 (var "h") ∷ assign 3 "n" (value (op (var "n") b.Add (int 1))) ∷ [])
    ∷ [])
    (let_ 4 "hb" (rfork "b" [])
    ∷ let_ 4 "hc" (rfork "c" (var "hb" ∷ []))
    ∷ rjoin 4 (var "hc")
    ∷ print 4 (item (var "n") ∷ [])
    ∷ [])

-- proc child() { print "child"; }
-- main { let h = rfork child(); print "one"; rjoin h; print "two"; }
abbrev pub texts_in_order : ProgramTree
texts_in_order = program
    (proc "child" [] (print 1 (quoted "child" ∷ []) ∷ []) ∷ [])
    (let_ 2 "h" (rfork "child" [])
    ∷ print 2 (quoted "one" ∷ [])
    ∷ rjoin 2 (var "h")
    ∷ print 2 (quoted "two" ∷ [])
    ∷ [])

-- proc b() { } main { print 1; let h = rfork b(); rjoin h; rjoin h; }
abbrev pub double_join : ProgramTree
double_join = program
    (proc "b" [] [] ∷ [])
    (print 1 (item (int 1) ∷ [])
    ∷ let_ 1 "h" (rfork "b" [])
    ∷ rjoin 1 (var "h")
    ∷ rjoin 1 (var "h")
    ∷ [])

-- proc b() { }
-- proc c(h: rev) { rjoin h; }
-- main { let h = rfork b(); let c1 = rfork c(h); let d1 = rfork c(h); rjoin c1; print 1; }
abbrev pub two_joiners : ProgramTree
two_joiners = program
    (proc "b" [] [] ∷ proc "c" (param "h" kind.Rev ∷ []) (rjoin 2 (var "h") ∷ []) ∷ [])
    (let_ 3 "h" (rfork "b" [])
    ∷ let_ 3 "c1" (rfork "c" (var "h" ∷ []))
    ∷ let_ 3 "d1" (rfork "c" (var "h" ∷ []))
    ∷ rjoin 3 (var "c1")
    ∷ print 3 (item (int 1) ∷ [])
    ∷ [])

-- `main` forks all three, the first ends, and the two others come to its join, this one or that one first
abbrev pub first_joiner_first : List Path
first_joiner_first = [] ∷ [] ∷ [] ∷ (0 ∷ []) ∷ (1 ∷ []) ∷ (1 ∷ []) ∷ (2 ∷ []) ∷ (2 ∷ []) ∷ []

abbrev pub second_joiner_first : List Path
second_joiner_first = [] ∷ [] ∷ [] ∷ (0 ∷ []) ∷ (2 ∷ []) ∷ (2 ∷ []) ∷ (1 ∷ []) ∷ (1 ∷ []) ∷ []

-- main {
--   print 1;
--   rjoin none;
-- }
abbrev pub join_of_none : ProgramTree
join_of_none = program [] (print 2 (item (int 1) ∷ []) ∷ rjoin 3 none ∷ [])

-- ---- traps

-- versioned x : int;
-- proc child() {
--   x = 1 / x;
-- }
-- main { let h = rfork child(); .. }
abbrev pub divides_by_zero : List Statement → ProgramTree
divides_by_zero rest = program
    (versioned "x" kind.Int
    ∷ proc "child" [] (assign 3 "x" (value (op (int 1) b.Div (var "x"))) ∷ [])
    ∷ [])
    (let_ 5 "h" (rfork "child" []) ∷ rest)

-- .. rjoin h;
abbrev pub joins_a_trapped_child : ProgramTree
joins_a_trapped_child = divides_by_zero (rjoin 5 (var "h") ∷ [])

abbrev pub leaves_a_trapped_child : ProgramTree
leaves_a_trapped_child = divides_by_zero []

-- proc spin() { while true { } } main { rfork spin(); print 1; }
abbrev pub spins : ProgramTree
spins = program
    (proc "spin" [] (while 1 (bool true) [] ∷ []) ∷ [])
    (fork 1 "spin" [] ∷ print 1 (item (int 1) ∷ []) ∷ [])

-- main { print 7; }
abbrev pub prints_seven : ProgramTree
prints_seven = program [] (print 1 (item (int 7) ∷ []) ∷ [])

-- main { print 7;
-- print 8; }
abbrev pub prints_twice : ProgramTree
prints_twice = program [] (print 1 (item (int 7) ∷ []) ∷ print 2 (item (int 8) ∷ []) ∷ [])

-- merge sum(m, j, r) = m + j - r;
-- cumulative a : int[2] by sum;
-- proc child() { a[1] = 9223372036854775807; a[0] = 9223372036854775807; }
-- main {
--   let h = rfork child();
--   a[0] = 1; a[1] = 1;
--   ..
-- }
abbrev pub overflows_at_join : Statement → ProgramTree
overflows_at_join join = program
    (sum
    ∷ cumulative_array "a" 2 "sum"
    ∷ proc "child" [] (assign_cell 3 "a" (int 1) (int 9223372036854775807) ∷ assign_cell 3 "a" (int 0)
    (int 9223372036854775807) ∷ [])
    ∷ [])
    (let_ 5 "h" (rfork "child" [])
    ∷ assign_cell 6 "a" (int 0) (int 1)
    ∷ assign_cell 6 "a" (int 1) (int 1)
    ∷ join
    ∷ [])

-- .. rjoin h; ..
abbrev pub merges_fault : ProgramTree
merges_fault = overflows_at_join (rjoin 7 (var "h"))

-- .. let ok = tryjoin h; ..
abbrev pub tries_what_faults : ProgramTree
tries_what_faults = overflows_at_join (let_ 7 "ok" (tryjoin (var "h")))

-- versioned a : int[2];
-- main {
--   a[1] = 5; print a[1];
--   ..
-- }
abbrev pub with_two_cells : Statement → ProgramTree
with_two_cells last = program
    (versioned_array "a" kind.Int 2 ∷ [])
    (assign_cell 3 "a" (int 1) (int 5) ∷ print 3 (item (cell "a" (int 1)) ∷ []) ∷ last ∷ [])

-- .. print a[2]; ..
abbrev pub reads_past_the_end : ProgramTree
reads_past_the_end = with_two_cells (print 4 (item (cell "a" (int 2)) ∷ []))

-- .. a[2] = 1; ..
abbrev pub writes_past_the_end : ProgramTree
writes_past_the_end = with_two_cells (assign_cell 4 "a" (int 2) (int 1))

-- .. a[-1] = 1 / 0; ..
abbrev pub writes_before_the_start : ProgramTree
writes_before_the_start = with_two_cells (assign_cell 4 "a" (neg (int 1)) (op (int 1) b.Div (int 0)))

-- ---- expressions

-- main { print (-9223372036854775807 - 1) / -1; }
abbrev pub divides_the_least : ProgramTree
divides_the_least = program []
    (print 1 (item (op (op (neg (int 9223372036854775807)) b.Sub (int 1)) b.Div (neg (int 1))) ∷ []) ∷ [])

-- main { print -7 / 2, -7 % 2; }
abbrev pub divides_toward_zero : ProgramTree
divides_toward_zero = program []
    (print 1 (item (op (neg (int 7)) b.Div (int 2)) ∷ item (op (neg (int 7)) b.Rem (int 2)) ∷ []) ∷ [])

-- main { print (1 / 0) + (9223372036854775807 + 1); }
abbrev pub faults_from_the_left : ProgramTree
faults_from_the_left = program []
    (print 1 (item (op (op (int 1) b.Div (int 0)) b.Add (op (int 9223372036854775807) b.Add (int 1))) ∷ []) ∷ [])

-- fun larger(a: int, b: int): int = pick(a > b, a, b);
-- main { print larger(3, 5), pick(true, 1, 1 / 0), !(1 > 2); }
abbrev pub picks : ProgramTree
picks = program
    (fun "larger" (param "a" kind.Int ∷ param "b" kind.Int ∷ []) kind.Int
    (pick (op (var "a") b.Gt (var "b")) (var "a") (var "b")) ∷ [])
    (print 2 (item (apply "larger" (int 3 ∷ int 5 ∷ [])) ∷ item (pick (bool true) (int 1) (op (int 1) b.Div (int 0)))
    ∷ item (not (op (int 1) b.Gt (int 2))) ∷ []) ∷ [])

-- 1 / 0 == 1
abbrev zero_divides : Expression
zero_divides = op (op (int 1) b.Div (int 0)) b.Eq (int 1)

-- main { print false && 1 / 0 == 1, true || 1 / 0 == 1, true && false, false || true; }
abbrev pub decides_from_the_left : ProgramTree
decides_from_the_left = program []
    (print 1 (item (op (bool false) b.And zero_divides) ∷ item (op (bool true) b.Or zero_divides) ∷ item
    (op (bool true) b.And (bool false)) ∷ item (op (bool false) b.Or (bool true)) ∷ []) ∷ [])

-- main { print true && 1 / 0 == 1; }
abbrev pub needs_the_right : ProgramTree
needs_the_right = program [] (print 1 (item (op (bool true) b.And zero_divides) ∷ []) ∷ [])

-- ---- blocks and procedures

-- main { if 1 > 2 { print 1; } else { print 2; } print 3; }
abbrev pub goes_to_the_else : ProgramTree
goes_to_the_else = program []
    (if_else 1 (op (int 1) b.Gt (int 2)) (print 1 (item (int 1) ∷ []) ∷ []) (print 1 (item (int 2) ∷ []) ∷ []) ∷ print 1
    (item (int 3) ∷ []) ∷ [])

-- versioned x : int;
-- proc sign(n: int): int { if n < 0 { return -1; } print n; return 1; }
-- main { let a = call sign(5); x = call sign(-5); print a, x; }
abbrev pub returns : ProgramTree
returns = program
    (versioned "x" kind.Int
    ∷ proc_giving kind.Int "sign" (param "n" kind.Int ∷ [])
    (if_ 2 (op (var "n") b.Lt (int 0)) (return 2 (neg (int 1)) ∷ []) ∷ print 2 (item (var "n") ∷ []) ∷ return 2
    (int 1) ∷ [])
    ∷ [])
    (let_ 3 "a" (call_of "sign" (int 5 ∷ []))
    ∷ assign 3 "x" (call_of "sign" (neg (int 5) ∷ []))
    ∷ print 3 (item (var "a") ∷ item (var "x") ∷ [])
    ∷ [])

-- main { assert 1 > 2; }
abbrev pub asserts_what_is_false : ProgramTree
asserts_what_is_false = program [] (assert 1 (op (int 1) b.Gt (int 2)) ∷ [])

-- proc f(n: int) { if n > 1 { call f(n - 1); } } main { call f(..); print 1; }
abbrev pub calls_deep : ℕ → ProgramTree
calls_deep n = program
    (proc "f" (param "n" kind.Int ∷ [])
    (if_ 1 (op (var "n") b.Gt (int 1)) (call 1 "f" (op (var "n") b.Sub (int 1) ∷ []) ∷ []) ∷ []) ∷ [])
    (call 1 "f" (int n ∷ []) ∷ print 1 (item (int 1) ∷ []) ∷ [])

-- ---- inputs

-- main { print input[0] + input[1], inputs; }
abbrev pub adds_inputs : ProgramTree
adds_inputs = program [] (print 1 (item (op (input (int 0)) b.Add (input (int 1))) ∷ item inputs ∷ []) ∷ [])

-- main { print input[0]; }
abbrev pub prints_an_input : ProgramTree
prints_an_input = program [] (print 1 (item (input (int 0)) ∷ []) ∷ [])

abbrev pub given : ProgramTree → List ℤ → Setting
given p inputs = record { program = p; inputs = inputs; share = 1000000 }

-- ---- tryjoin

-- versioned x : int;
-- proc child(d: int) { x = 1; print "child"; x = 7 / d; }
-- main {
--   let h = rfork child(0);
--   let ok = tryjoin h;
--   print ok, x;
--   let g = rfork child(2);
--   ok = tryjoin g;
--   print ok, x;
-- }
abbrev pub tries : ProgramTree
tries = program
    (versioned "x" kind.Int
    ∷ proc "child" (param "d" kind.Int ∷ [])
    (assign 2 "x" (value (int 1)) ∷ print 2 (quoted "child" ∷ []) ∷ assign 2 "x" (value (op (int 7) b.Div (var "d")))
    ∷ [])
    ∷ [])
    (let_ 4 "h" (rfork "child" (int 0 ∷ []))
    ∷ let_ 5 "ok" (tryjoin (var "h"))
    ∷ print 6 (item (var "ok") ∷ item (var "x") ∷ [])
    ∷ let_ 7 "g" (rfork "child" (int 2 ∷ []))
    ∷ assign 8 "ok" (tryjoin (var "g"))
    ∷ print 9 (item (var "ok") ∷ item (var "x") ∷ [])
    ∷ [])

-- proc p() { } main { let h = rfork p(); let a = tryjoin h; a = tryjoin h; }
abbrev pub tries_twice : ProgramTree
tries_twice = program
    (proc "p" [] [] ∷ [])
    (let_ 1 "h" (rfork "p" [])
    ∷ let_ 1 "a" (tryjoin (var "h"))
    ∷ assign 1 "a" (tryjoin (var "h"))
    ∷ [])

-- main { let ok = tryjoin none; }
abbrev pub tries_none : ProgramTree
tries_none = program [] (let_ 1 "ok" (tryjoin none) ∷ [])

-- versioned ok : bool;
-- proc child() { print ok; ok = false; }
-- main { ok = true; let h = rfork child(); ok = tryjoin h; print ok; }
abbrev pub tries_into_what_was_written : ProgramTree
tries_into_what_was_written = program
    (versioned "ok" kind.Bool
    ∷ proc "child" [] (print 2 (item (var "ok") ∷ []) ∷ assign 2 "ok" (value (bool false)) ∷ [])
    ∷ [])
    (assign 3 "ok" (value (bool true))
    ∷ let_ 3 "h" (rfork "child" [])
    ∷ assign 3 "ok" (tryjoin (var "h"))
    ∷ print 3 (item (var "ok") ∷ [])
    ∷ [])
