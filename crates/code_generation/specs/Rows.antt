-- Worked programs, each after its text, with their code.
use Rattle.std.specs.Prelude.{ℕ, pos, true, false, codes, Some, None, List, [], ◌∷◌}
use Rattle.rev_num.specs.declared.value.Value.TheVariants as v
use Rattle.rev_num.specs.declared.value.ValueKind.{ValueKind}
use Rattle.rev_num.specs.declared.value.ValueKind.TheVariants as kind
use Rattle.rev_syntax.specs.Trees as t
use Rattle.rev_syntax.specs.Trees.{Declaration, Statement, ProgramTree}
use Rattle.rev_syntax.specs.View.{statements_of, arms_of}
use Rattle.rev_syntax.specs.declared.tree.BinaryOp.TheVariants as b
use Rattle.revision_calculus.specs.Words.{placed_name, int, bool, none, var, cell, input, inputs, neg, not, pick, apply, op, value, call_of, rfork, tryjoin, let_, assign, assign_cell, if_, if_else, while, call, return, fork, rjoin, print, item, quoted, assert, param, proc_giving, fun, versioned_array, cumulative, program}
use Rattle.rev_code.specs.declared.code.Instr.{Instr}
use Rattle.rev_code.specs.declared.code.Instr.TheVariants as i
use Rattle.rev_code.specs.declared.code.LayoutItem.TheVariants as show
use Rattle.rev_code.specs.declared.code.BlockClass.TheVariants as class
use Rattle.rev_code.specs.declared.code.CodeBlock.{CodeBlock}
use Rattle.rev_code.specs.declared.code.Code.{Code}

abbrev pub push : ℕ → Instr
push n = i.PushInt (pos n)

abbrev pub main_of : List ValueKind → List Instr → CodeBlock
main_of locals instrs = record { class = class.Main; params = 0; result = None; locals = locals; instrs = instrs }

-- ---- a print

-- main { print 7; }, which is a worked program of revision_calculus
abbrev pub prints_seven_code : Code
prints_seven_code = record {
  vars = [];
  texts = [];
  layouts = (show.Int ∷ []) ∷ [];
  blocks = main_of [] (i.Charge 1 ∷ push 7 ∷ i.Print 0 ∷ i.Return ∷ []) ∷ [];
}

-- ---- an array

-- versioned a : int[65]; main { }
abbrev pub has_an_array : ProgramTree
has_an_array = program (versioned_array "a" kind.Int 65 ∷ []) []

abbrev pub has_an_array_code : Code
has_an_array_code = record {
  vars = record {
    name = codes "a";
    cumulative = false;
    kind = kind.Int;
    array = true;
    cells = 65;
    start = 0;
    merge = 65535;
  } ∷ [];
  texts = [];
  layouts = [];
  blocks = main_of [] (i.Return ∷ []) ∷ [];
}

-- ---- all forms

-- fun up(a : int) : int = a + 1;
abbrev pub up : Declaration
up = fun "up" (param "a" kind.Int ∷ []) kind.Int (op (var "a") b.Add (int 1))

-- merge least(m, j, r) = pick(j < m, j, m);
abbrev pub least : Declaration
least = t.merge (placed_name "least") (placed_name "m") (placed_name "j") (placed_name "r")
    (pick (op (var "j") b.Lt (var "m")) (var "j") (var "m"))

-- versioned cells : bool[2] = true;
abbrev pub cells : Declaration
cells = t.shared (record {
  name = placed_name "cells";
  by = None;
  kind_at = 0;
  holds = kind.Bool;
  size = Some (record { at = 0; cells = pos 2 });
  first = Some (record { at = 0; value = v.Bool true });
})

-- proc leaf(n : int) : rev { let h = rfork leaf(up(n)); return h; }
abbrev pub leaf : Declaration
leaf = proc_giving kind.Rev "leaf" (param "n" kind.Int ∷ [])
    (let_ 5 "h" (rfork "leaf" (apply "up" (var "n" ∷ []) ∷ [])) ∷ return 5 (var "h") ∷ [])

-- proc even(n : int) : bool { if n % 2 == 0 { return true; } else { print "odd"; return false; } }
abbrev pub even : Declaration
even = proc_giving kind.Bool "even" (param "n" kind.Int ∷ [])
    (if_else 6 (op (op (var "n") b.Rem (int 2)) b.Eq (int 0))
    (return 6 (bool true) ∷ [])
    (print 6 (quoted "odd" ∷ []) ∷ return 6 (bool false) ∷ [])
    ∷ [])

-- let i = 0;
-- while i < inputs && true { let t = input[i]; low = t; print "at", t; }
-- if low > 1 { let t = none; rjoin t; } else if !cells[0] || false { call even(i); } else { rfork leaf(1); }
abbrev pub turns : List Statement
turns =
    let_ 8 "i" (value (int 0))
    ∷ while 9 (op (op (var "i") b.Lt inputs) b.And (bool true))
    (let_ 9 "t" (value (input (var "i"))) ∷ assign 9 "low" (value (var "t")) ∷ print 9
    (quoted "at" ∷ item (var "t") ∷ []) ∷ [])
    ∷ t.statement 0 10 (t.choose_or
    (arms_of
    ((op (var "low") b.Gt (int 1), statements_of (let_ 10 "t" (value none) ∷ rjoin 10 (var "t") ∷ []))
    ∷ (op (not (cell "cells" (int 0))) b.Or (bool false), statements_of (call 10 "even" (var "i" ∷ []) ∷ []))
    ∷ []))
    (statements_of (fork 10 "leaf" (int 1 ∷ []) ∷ [])))
    ∷ []

-- let t = call even(i);
-- cells[i] = t;
-- let ok = tryjoin none;
-- assert ok;
-- print ok, "is", - i;
-- if ok { return; }
abbrev pub last : List Statement
last =
    let_ 11 "t" (call_of "even" (var "i" ∷ []))
    ∷ assign_cell 12 "cells" (var "i") (var "t")
    ∷ let_ 13 "ok" (tryjoin none)
    ∷ assert 14 (var "ok")
    ∷ print 15 (item (var "ok") ∷ quoted "is" ∷ item (neg (var "i")) ∷ [])
    ∷ if_ 16 (var "ok") (t.statement 0 16 (t.return None) ∷ [])
    ∷ []

abbrev pub joined : List Statement → List Statement → List Statement
joined [] ys = ys
joined (x ∷ xs) ys = x ∷ joined xs ys

-- the declarations `up` and `least`, then `cumulative low : int by least;`, then the others, and `main`
abbrev pub all_forms : ProgramTree
all_forms = program (up ∷ least ∷ cumulative "low" "least" ∷ cells ∷ leaf ∷ even ∷ []) (joined turns last)

abbrev pub up_code : CodeBlock
up_code = record {
  class = class.Fun;
  params = 1;
  result = Some kind.Int;
  locals = kind.Int ∷ [];
  instrs = i.LoadLocal 0 ∷ push 1 ∷ i.Add ∷ i.Return ∷ [];
}

abbrev pub least_code : CodeBlock
least_code = record {
  class = class.Merge;
  params = 3;
  result = Some kind.Int;
  locals = kind.Int ∷ kind.Int ∷ kind.Int ∷ [];
  instrs = i.LoadLocal 1 ∷ i.LoadLocal 0 ∷ i.Lt ∷ i.JumpIfFalse 6 ∷ i.LoadLocal 1 ∷ i.Jump 7 ∷ i.LoadLocal 0 ∷ i.Return
      ∷ [];
}

abbrev pub leaf_code : CodeBlock
leaf_code = record {
  class = class.Proc;
  params = 1;
  result = Some kind.Rev;
  locals = kind.Int ∷ kind.Rev ∷ [];
  instrs = i.Charge 5 ∷ i.LoadLocal 0 ∷ i.Apply 0 ∷ i.Fork 2 ∷ i.StoreLocal 1 ∷ i.Charge 5 ∷ i.LoadLocal 1 ∷ i.Return
      ∷ [];
}

-- The jump at 10 leads behind the last `return`, so the zero value stands there.
abbrev pub even_code : CodeBlock
even_code = record {
  class = class.Proc;
  params = 1;
  result = Some kind.Bool;
  locals = kind.Int ∷ [];
  instrs =
      i.Charge 6 ∷ i.LoadLocal 0 ∷ push 2 ∷ i.Rem ∷ push 0 ∷ i.Eq ∷ i.JumpIfFalse 11
      ∷ i.Charge 6 ∷ i.PushBool true ∷ i.Return ∷ i.Jump 16
      ∷ i.Charge 6 ∷ i.Print 0
      ∷ i.Charge 6 ∷ i.PushBool false ∷ i.Return
      ∷ i.PushBool false ∷ i.Return ∷ [];
}

-- a line for each statement, and for each part of the `if` and the `while`
abbrev pub all_forms_main : CodeBlock
all_forms_main = main_of (kind.Int ∷ kind.Int ∷ kind.Rev ∷ kind.Bool ∷ kind.Bool ∷ [])
    (i.Charge 8 ∷ push 0 ∷ i.StoreLocal 0
    ∷ i.Charge 9 ∷ i.LoadLocal 0 ∷ i.CountInput ∷ i.Lt ∷ i.JumpIfFalse 10 ∷ i.PushBool true ∷ i.Jump 11 ∷ i.PushBool
    false ∷ i.JumpIfFalse 23
    ∷ i.Charge 9 ∷ i.LoadLocal 0 ∷ i.LoadInput ∷ i.StoreLocal 1
    ∷ i.Charge 9 ∷ i.LoadLocal 1 ∷ i.StoreShared 0
    ∷ i.Charge 9 ∷ i.LoadLocal 1 ∷ i.Print 1
    ∷ i.Jump 3
    ∷ i.Charge 10 ∷ i.LoadShared 0 ∷ push 1 ∷ i.Gt ∷ i.JumpIfFalse 35
    ∷ i.Charge 10 ∷ i.PushNone ∷ i.StoreLocal 2
    ∷ i.Charge 10 ∷ i.LoadLocal 2 ∷ i.Join
    ∷ i.Jump 52
    ∷ push 0 ∷ i.LoadCell 1 ∷ i.Not ∷ i.JumpIfTrue 41 ∷ i.PushBool false ∷ i.Jump 42 ∷ i.PushBool true ∷ i.JumpIfFalse
    48
    ∷ i.Charge 10 ∷ i.LoadLocal 0 ∷ i.Call 3 ∷ i.Pop
    ∷ i.Jump 52
    ∷ i.Charge 10 ∷ push 1 ∷ i.Fork 2 ∷ i.Pop
    ∷ i.Charge 11 ∷ i.LoadLocal 0 ∷ i.Call 3 ∷ i.StoreLocal 3
    ∷ i.Charge 12 ∷ i.LoadLocal 0 ∷ i.CheckCell 1 ∷ i.LoadLocal 3 ∷ i.StoreCell 1
    ∷ i.Charge 13 ∷ i.PushNone ∷ i.TryJoin ∷ i.StoreLocal 4
    ∷ i.Charge 14 ∷ i.LoadLocal 4 ∷ i.Assert
    ∷ i.Charge 15 ∷ i.LoadLocal 4 ∷ i.LoadLocal 0 ∷ i.Neg ∷ i.Print 2
    ∷ i.Charge 16 ∷ i.LoadLocal 4 ∷ i.JumpIfFalse 78
    ∷ i.Charge 16 ∷ i.Return
    ∷ i.Return ∷ [])

abbrev pub all_forms_code : Code
all_forms_code = record {
  vars =
      record { name = codes "low"; cumulative = true; kind = kind.Int; array = false; cells = 1; start = 0; merge = 1 }
      ∷ record {
        name = codes "cells";
        cumulative = false;
        kind = kind.Bool;
        array = true;
        cells = 2;
        start = 1;
        merge = 65535;
      }
      ∷ [];
  texts = codes "odd" ∷ codes "at" ∷ codes "is" ∷ [];
  layouts = (show.Text 0 ∷ []) ∷ (show.Text 1 ∷ show.Int ∷ []) ∷ (show.Bool ∷ show.Text 2 ∷ show.Int ∷ []) ∷ [];
  blocks = up_code ∷ least_code ∷ leaf_code ∷ even_code ∷ all_forms_main ∷ [];
}
