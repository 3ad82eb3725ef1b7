-- When the names of a body mean in code what they mean in the program.
--   FunMeans     a fun that may be applied in this block
--   NamesMean    locals, shared variables and input
use Rattle.std.specs.Prelude.{◌≡◌, ◌<◌, ℕ, false, Some, None, slice_get}
use Rattle.rev_num.specs.declared.value.ValueKind.{ValueKind}
use Rattle.name_tables.specs.Names.{Name}
use Rattle.name_tables.specs.Table.{find}
use Rattle.typed_programs.specs.declared.names.Holder.{Holder}
use Rattle.typed_programs.specs.Kinds.{Callee, Names, Locals}
use Rattle.rev_code.specs.declared.code.BlockClass.TheVariants as class
use Rattle.rev_code.specs.declared.code.Code.{Code}
use Rattle.rev_code.specs.declared.code.CodeBlock.{CodeBlock}
use Rattle.rev_code.specs.declared.code.CodeVar.{CodeVar}
use Rattle.rev_code.specs.Step.{params}
use Rattle.code_rules.specs.Pass.{is_value_class}
use Rattle.code_generation.specs.Numbers.{Numbers, Scope}
use Rattle.code_generation.specs.Generated.{kinds_of}

-- the block of the fun stands before block `at`
pub record FunMeans (code : Code) (at : ℕ) (n : Numbers) (name : Name) (f : Callee) : Type 0 where
  pub earlier : n.fun name < at
  pub block : CodeBlock
  pub is : slice_get code.blocks (n.fun name) ≡ Some block
  pub class : block.class ≡ class.Fun
  pub params : params block ≡ kinds_of f.params
  pub result : block.result ≡ f.result

-- a shared variable, which no fun or merge knows
pub record SharedMeans (code : Code) (b : CodeBlock) (n : Numbers) (name : Name) (h : Holder)
    : Type 0 where
  pub var : CodeVar
  pub is : slice_get code.vars (n.var name) ≡ Some var
  pub kind : var.kind ≡ h.kind
  pub array : var.array ≡ h.array
  pub outside : is_value_class b.class ≡ false

pub record NamesMean (code : Code) (b : CodeBlock) (n : Numbers) (c : Names) (l : Locals)
    (scope : Scope) : Type 0 where
  pub locals : (name : Name) (t : ValueKind) → find name l ≡ Some (Some t)
      → (i : ℕ) × (find name scope ≡ Some i) × (slice_get b.locals i ≡ Some t)
  pub free : (name : Name) → find name l ≡ None → find name scope ≡ None
  pub shared : (name : Name) (h : Holder) → c.shared name ≡ Some h → SharedMeans code b n name h
  pub inputs : c.inside ≡ false → is_value_class b.class ≡ false
