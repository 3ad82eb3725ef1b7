-- What one declaration adds to the code.
use Rattle.std.specs.Prelude.{ℕ, Bool, List, [], ◌∷◌}
use Rattle.rev_syntax.specs.Trees.{statement, Statements, no_statements, statements, Declaration, fun, merge, shared, proc}
use Rattle.typed_programs.specs.Kinds.{Names}
use Rattle.typed_programs.specs.Scopes as scopes
use Rattle.rev_code.specs.declared.code.LayoutItem.{LayoutItem}
use Rattle.rev_code.specs.declared.code.CodeBlock.{CodeBlock}
use Rattle.code_generation.specs.Numbers.{Numbers}
use Rattle.code_generation.specs.Sizes.{statements_prints}
use Rattle.code_generation.specs.Prints.{statements_texts, statements_layouts}
use Rattle.code_generation.specs.Generated.{is_return, fun_block, merge_block, proc_block}

-- whether statements end in a `return`, where this says it of those before
abbrev pub ends_behind : (before : Bool) → Statements → Bool
ends_behind before no_statements = before
ends_behind before (statements (statement p line form) rest) = ends_behind (is_return form) rest

-- the block of a fun or merge
abbrev pub value_block_of : Numbers → Declaration → List CodeBlock
value_block_of n (fun w ps r body) = fun_block n ps r body ∷ []
value_block_of n (merge w m j r body) = merge_block n m j r body ∷ []
value_block_of n (shared x) = []
value_block_of n (proc w ps r body) = []

-- the block of a procedure, of which the first layout has this number
abbrev pub body_block_of : Numbers → Names → (layout : ℕ) → Declaration → List CodeBlock
body_block_of n c layout (proc w ps r body) = proc_block n c ps r body layout ∷ []
body_block_of n c layout (fun w ps r body) = []
body_block_of n c layout (merge w m j r body) = []
body_block_of n c layout (shared x) = []

-- how many prints
abbrev pub prints_of : Declaration → ℕ
prints_of (proc w ps r body) = statements_prints body
prints_of (fun w ps r body) = 0
prints_of (merge w m j r body) = 0
prints_of (shared x) = 0

abbrev pub texts_in : Declaration → List (List ℕ)
texts_in (proc w ps r body) = statements_texts body
texts_in (fun w ps r body) = []
texts_in (merge w m j r body) = []
texts_in (shared x) = []

-- the layouts, of which the first text has this number
abbrev pub layouts_in : Names → (texts : ℕ) → Declaration → List (List LayoutItem)
layouts_in c texts (proc w ps r body) = statements_layouts c (scopes.with_params [] ps) texts body
layouts_in c texts (fun w ps r body) = []
layouts_in c texts (merge w m j r body) = []
layouts_in c texts (shared x) = []
