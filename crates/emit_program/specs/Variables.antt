-- The shared variables of code, by the rows of the checker's table.
use Rattle.std.specs.Prelude.{ℕ, Option, Some, None, is_some, List, [], ◌∷◌, ◌++◌, slice_get}
use Rattle.rev_syntax.specs.Trees.{Declaration, fun, merge, shared, proc}
use Rattle.typed_programs.specs.declared.shared_info.SharedInfo.{SharedInfo}
use Rattle.revision_calculus.specs.Program.{first_value}
use Rattle.rev_code.specs.declared.code.CodeVar.{CodeVar}
use Rattle.code_generation.specs.Generated.{value_word}
use Rattle.emit_code.specs.Naming.{or_next}

-- the merge entry of a variable, where the merges have these blocks and the next fun or merge would have this one; of a
-- versioned variable 65,535
abbrev pub entry_in : (merges : List ℕ) → (next : ℕ) → Option ℕ → ℕ
entry_in merges next None = 65535
entry_in merges next (Some n) = or_next next (slice_get merges n)

-- the variable of a row whose declaration this is
abbrev pub var_in : (merges : List ℕ) → (next : ℕ) → SharedInfo → Option Declaration → List CodeVar
var_in merges next info None = []
var_in merges next info (Some (shared x)) =
    record {
      name = x.name.text;
      cumulative = is_some x.by;
      kind = x.holds;
      array = info.array;
      cells = info.cells;
      start = value_word (first_value x.holds x.first);
      merge = entry_in merges next info.merge;
    }
    ∷ []
var_in merges next info (Some (fun w ps r body)) = []
var_in merges next info (Some (merge w m j r body)) = []
var_in merges next info (Some (proc w ps r body)) = []

-- the variables of rows
abbrev pub vars_in : (merges : List ℕ) → (next : ℕ) → List Declaration → List SharedInfo → List CodeVar
vars_in merges next es [] = []
vars_in merges next es (info ∷ infos) = var_in merges next info (slice_get es info.decl) ++ vars_in merges next es infos
