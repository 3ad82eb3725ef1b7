-- The code of a program: its variables, texts, layouts and blocks.
use Rattle.std.specs.Prelude.{ℕ, ◌+◌, pos, Bool, true, false, if◌then◌else◌, Option, Some, None, is_some, List, [], ◌∷◌, ◌++◌, length, map}
use Rattle.rev_num.specs.declared.value.Value.{Value}
use Rattle.rev_num.specs.declared.value.Value.TheVariants as v
use Rattle.rev_num.specs.declared.value.ValueKind.{ValueKind}
use Rattle.rev_num.specs.declared.value.ValueKind.TheVariants as k
use Rattle.rev_num.specs.Words.{word_of}
use Rattle.rev_syntax.specs.Trees.{PlacedName, Parameter, Expression, statement, StatementForm, bind, assign, assign_cell, choose, choose_or, repeat, call, return, fork, join, print, assert, Statements, no_statements, statements, Declaration, fun, merge, shared, proc, ProgramTree}
use Rattle.name_tables.specs.Table.{added}
use Rattle.typed_programs.specs.Kinds.{Names}
use Rattle.typed_programs.specs.Layout.{SharedVariable, variables}
use Rattle.typed_programs.specs.Scopes as scopes
use Rattle.typed_programs.specs.Scopes.{outside}
use Rattle.revision_calculus.specs.Program.{first_of}
use Rattle.rev_code.specs.declared.code.Instr.{Instr}
use Rattle.rev_code.specs.declared.code.Instr.TheVariants as i
use Rattle.rev_code.specs.declared.code.LayoutItem.{LayoutItem}
use Rattle.rev_code.specs.declared.code.BlockClass.TheVariants as class
use Rattle.rev_code.specs.declared.code.CodeVar.{CodeVar}
use Rattle.rev_code.specs.declared.code.CodeBlock.{CodeBlock}
use Rattle.rev_code.specs.declared.code.Code.{Code}
use Rattle.code_generation.specs.Numbers.{Numbers, numbers, merge_number, Scope, with_params}
use Rattle.code_generation.specs.Expressions.{expression_code}
use Rattle.code_generation.specs.Sizes.{statements_prints}
use Rattle.code_generation.specs.Statements.{statements_code}
use Rattle.code_generation.specs.Prints.{statements_kinds, statements_texts, statements_layouts}

-- ---- variables

-- the word of a start value
abbrev pub value_word : Value → ℕ
value_word (v.Int n) = word_of n
value_word (v.Bool true) = 1
value_word (v.Bool false) = 0
value_word (v.Rev h) = 0

-- the merge entry of a variable, of whose merge so many merges are declared before; of a versioned one 65,535
abbrev pub merge_entry : List Declaration → Option ℕ → ℕ
merge_entry es None = 65535
merge_entry es (Some n) = merge_number n es

abbrev pub var_of : List Declaration → SharedVariable → CodeVar
var_of es x = record {
  name = x.declared.name.text;
  cumulative = is_some x.declared.by;
  kind = x.declared.holds;
  array = x.info.array;
  cells = x.info.cells;
  start = value_word (first_of x);
  merge = merge_entry es x.info.merge;
}

-- ---- ends of blocks

-- whether the last statement is a `return`
abbrev pub is_return : StatementForm → Bool
is_return (return e) = true
is_return (bind w r) = false
is_return (assign w r) = false
is_return (assign_cell w index e) = false
is_return (choose arms) = false
is_return (choose_or arms last) = false
is_return (repeat test body) = false
is_return (call w args) = false
is_return (fork w args) = false
is_return (join e) = false
is_return (print items) = false
is_return (assert e) = false

abbrev pub ends_in_return : Statements → Bool
ends_in_return no_statements = false
ends_in_return (statements (statement p line form) no_statements) = is_return form
ends_in_return (statements s (statements x rest)) = ends_in_return (statements x rest)

-- 0, `false` or `none`
abbrev pub zero_code : ValueKind → Instr
zero_code k.Int = i.PushInt (pos 0)
zero_code k.Bool = i.PushBool false
zero_code k.Rev = i.PushNone

-- At the end of a block without a result is a Return. A block with one returns on all ways, so nothing follows a last
-- `return`; behind any other last statement, to whose end a jump may lead, the zero value is returned.
abbrev pub end_code : Option ValueKind → Statements → List Instr
end_code None body = i.Return ∷ []
end_code (Some kind) body = if ends_in_return body then [] else zero_code kind ∷ i.Return ∷ []

-- ---- blocks

abbrev pub kinds_of : List Parameter → List ValueKind
kinds_of ps = map (λ p. p.kind) ps

abbrev pub fun_block : Numbers → List Parameter → ValueKind → Expression → CodeBlock
fun_block n ps result body = record {
  class = class.Fun;
  params = length ps;
  result = Some result;
  locals = kinds_of ps;
  instrs = expression_code n (with_params [] 0 ps) body 0 ++ i.Return ∷ [];
}

abbrev pub merge_scope : PlacedName → PlacedName → PlacedName → Scope
merge_scope m j r = added (added (added [] m.text 0) j.text 1) r.text 2

abbrev pub merge_block : Numbers → PlacedName → PlacedName → PlacedName → Expression → CodeBlock
merge_block n m j r body = record {
  class = class.Merge;
  params = 3;
  result = Some k.Int;
  locals = k.Int ∷ k.Int ∷ k.Int ∷ [];
  instrs = expression_code n (merge_scope m j r) body 0 ++ i.Return ∷ [];
}

-- the code of a body with these parameters and this result, whose first layout has this number
abbrev pub body_code : Numbers → List Parameter → Option ValueKind → Statements → (layout : ℕ) → List Instr
body_code n ps result body layout =
    statements_code n (with_params [] 0 ps) body (record { at = 0; local = length ps; layout = layout }) ++ end_code
    result body

abbrev pub body_locals : Names → List Parameter → Statements → List ValueKind
body_locals c ps body = kinds_of ps ++ statements_kinds c (scopes.with_params [] ps) body

abbrev pub proc_block : Numbers → Names → List Parameter → Option ValueKind → Statements → (layout : ℕ) → CodeBlock
proc_block n c ps result body layout = record {
  class = class.Proc;
  params = length ps;
  result = result;
  locals = body_locals c ps body;
  instrs = body_code n ps result body layout;
}

abbrev pub main_block : Numbers → Names → Statements → (layout : ℕ) → CodeBlock
main_block n c body layout = record {
  class = class.Main;
  params = 0;
  result = None;
  locals = body_locals c [] body;
  instrs = body_code n [] None body layout;
}

-- the funs and merges in order
abbrev pub value_blocks : Numbers → List Declaration → List CodeBlock
value_blocks n [] = []
value_blocks n (fun w ps r body ∷ es) = fun_block n ps r body ∷ value_blocks n es
value_blocks n (merge w m j r body ∷ es) = merge_block n m j r body ∷ value_blocks n es
value_blocks n (shared x ∷ es) = value_blocks n es
value_blocks n (proc w ps r body ∷ es) = value_blocks n es

-- the procedures in order and `main`, of which the first layout has this number
abbrev pub body_blocks : Numbers → Names → List Declaration → (main : Statements) → (layout : ℕ) → List CodeBlock
body_blocks n c [] main layout = main_block n c main layout ∷ []
body_blocks n c (proc w ps r body ∷ es) main layout =
    proc_block n c ps r body layout ∷ body_blocks n c es main (layout + statements_prints body)
body_blocks n c (fun w ps r body ∷ es) main layout = body_blocks n c es main layout
body_blocks n c (merge w m j r body ∷ es) main layout = body_blocks n c es main layout
body_blocks n c (shared x ∷ es) main layout = body_blocks n c es main layout

-- ---- texts and layouts, in the order of blocks

abbrev pub texts_of : List Declaration → (main : Statements) → List (List ℕ)
texts_of [] main = statements_texts main
texts_of (proc w ps r body ∷ es) main = statements_texts body ++ texts_of es main
texts_of (fun w ps r body ∷ es) main = texts_of es main
texts_of (merge w m j r body ∷ es) main = texts_of es main
texts_of (shared x ∷ es) main = texts_of es main

-- of which the first text has this number
abbrev pub layouts_of : Names → (texts : ℕ) → List Declaration → (main : Statements) → List (List LayoutItem)
layouts_of c texts [] main = statements_layouts c [] texts main
layouts_of c texts (proc w ps r body ∷ es) main =
    statements_layouts c (scopes.with_params [] ps) texts body
    ++ layouts_of c (texts + length (statements_texts body)) es main
layouts_of c texts (fun w ps r body ∷ es) main = layouts_of c texts es main
layouts_of c texts (merge w m j r body ∷ es) main = layouts_of c texts es main
layouts_of c texts (shared x ∷ es) main = layouts_of c texts es main

-- ---- the code

abbrev pub code_of : ProgramTree → Code
code_of p = record {
  vars = map (var_of p.declarations) (variables p);
  texts = texts_of p.declarations p.main;
  layouts = layouts_of (outside p.declarations) 0 p.declarations p.main;
  blocks = value_blocks (numbers p) p.declarations
      ++ body_blocks (numbers p) (outside p.declarations) p.declarations p.main 0;
}
