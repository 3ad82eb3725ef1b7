-- Programs that keep or break the affine rule, each under its text. A place is an offset in that text where it
-- matters, and else 0.
use Rattle.std.specs.Prelude.{codes, ℕ, true, [], ◌∷◌}
use Rattle.rev_num.specs.declared.value.ValueKind.TheVariants as k
use Rattle.rev_syntax.specs.Trees as t
use Rattle.rev_syntax.specs.Trees.{Expression, ProgramTree}
use Rattle.revision_calculus.specs.Words.{program, proc, proc_giving, param, versioned, let_, rfork, rjoin, tryjoin, value, while, if_, if_else, bool, int, none, pick, call, return, assign}

-- the local h, at this place
abbrev pub h_at : ℕ → Expression
h_at at = t.placed at (t.var (record { at = at; text = codes "h" }))

-- proc p() { } main { let h = rfork p(); rjoin h; }
abbrev pub joins_once : ProgramTree
joins_once = program (proc "p" [] [] ∷ []) (let_ 1 "h" (rfork "p" []) ∷ rjoin 1 (h_at 45) ∷ [])

-- proc p() { } main { let h = rfork p(); rjoin h; rjoin h; }
abbrev pub joins_twice : ProgramTree
joins_twice = program (proc "p" [] [] ∷ []) (let_ 1 "h" (rfork "p" []) ∷ rjoin 1 (h_at 45) ∷ rjoin 1 (h_at 54) ∷ [])

-- proc p() { } main { let h = rfork p(); let g = h; }
abbrev pub copies : ProgramTree
copies = program (proc "p" [] [] ∷ []) (let_ 1 "h" (rfork "p" []) ∷ let_ 1 "g" (value (h_at 47)) ∷ [])

-- proc p() { } main { let h = rfork p(); while true { rjoin h; } }
abbrev pub joins_in_loop : ProgramTree
joins_in_loop = program (proc "p" [] [] ∷ [])
    (let_ 1 "h" (rfork "p" []) ∷ while 1 (bool true) (rjoin 1 (h_at 58) ∷ []) ∷ [])

-- proc p() { } main { let h = rfork p(); while true { rjoin h; h = rfork p(); } }
abbrev pub renews_in_loop : ProgramTree
renews_in_loop = program (proc "p" [] [] ∷ [])
    (let_ 1 "h" (rfork "p" []) ∷ while 1 (bool true) (rjoin 1 (h_at 58) ∷ assign 1 "h" (rfork "p" []) ∷ []) ∷ [])

-- proc p() { } main { let h = rfork p(); if true { rjoin h; } else { rjoin h; } }
abbrev pub joins_in_either : ProgramTree
joins_in_either = program (proc "p" [] [] ∷ [])
    (let_ 1 "h" (rfork "p" []) ∷ if_else 1 (bool true) (rjoin 1 (h_at 55) ∷ []) (rjoin 1 (h_at 73) ∷ []) ∷ [])

-- proc p() { } proc q(h: rev): int { if true { rjoin h; return 1; } rjoin h; return 2; } main { }
abbrev pub returns_after_join : ProgramTree
returns_after_join = program
    (proc "p" [] [] ∷ proc_giving k.Int "q" (param "h" k.Rev ∷ [])
    (if_ 1 (bool true) (rjoin 1 (h_at 51) ∷ return 1 (int 1) ∷ []) ∷ rjoin 1 (h_at 72) ∷ return 1 (int 2) ∷ []) ∷ []) []

-- proc p() { } main { let h = rfork p(); rjoin h; h = rfork p(); rjoin h; }
abbrev pub joins_anew : ProgramTree
joins_anew = program (proc "p" [] [] ∷ [])
    (let_ 1 "h" (rfork "p" []) ∷ rjoin 1 (h_at 45) ∷ assign 1 "h" (rfork "p" []) ∷ rjoin 1 (h_at 69) ∷ [])

-- proc p() { } main { let h = rfork p(); let a = tryjoin h; let b = tryjoin h; }
abbrev pub tries_twice : ProgramTree
tries_twice = program (proc "p" [] [] ∷ [])
    (let_ 1 "h" (rfork "p" []) ∷ let_ 1 "a" (tryjoin (h_at 55)) ∷ let_ 1 "b" (tryjoin (h_at 74)) ∷ [])

-- proc p() { } proc q(h: rev) { rjoin h; } main { let h = rfork p(); call q(h); rjoin h; }
abbrev pub passes_and_joins : ProgramTree
passes_and_joins = program (proc "p" [] [] ∷ proc "q" (param "h" k.Rev ∷ []) (rjoin 1 (h_at 36) ∷ []) ∷ [])
    (let_ 1 "h" (rfork "p" []) ∷ call 1 "q" (h_at 74 ∷ []) ∷ rjoin 1 (h_at 84) ∷ [])

-- proc p() { } main { let h = rfork p(); let g = pick(true, h, none); }
abbrev pub picks : ProgramTree
picks = program (proc "p" [] [] ∷ [])
    (let_ 1 "h" (rfork "p" []) ∷ let_ 1 "g" (value (pick (bool true) (h_at 58) none)) ∷ [])

-- versioned s: rev; proc p() { } main { s = rfork p(); }
abbrev pub stores : ProgramTree
stores = program (versioned "s" k.Rev ∷ proc "p" [] [] ∷ [])
    (t.statement 0 1 (t.assign (record { at = 38; text = codes "s" }) (rfork "p" [])) ∷ [])
