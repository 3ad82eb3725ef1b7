-- What each instruction takes from the stack and leaves there, by kinds, the top first.
--   takes         the kinds that it takes; where any kind would do, that which it finds
--   gives         the kinds that it leaves in their place
--   shape_after   the shape of the stack behind it
--   kind_or_int   the kind that is found, or that of ints
--   kind_or_any   the kind that is found, or that of any word
use Rattle.std.specs.Prelude.{Bool, true, false, ◌&&◌, List, [], ◌∷◌, ◌++◌, length, drop, reverse, Option, Some, None, slice_get}
use Rattle.rev_num.specs.declared.value.ValueKind.{ValueKind}
use Rattle.rev_num.specs.declared.value.ValueKind.TheVariants as k
use Rattle.rev_num.specs.Value.{same_kind}
use Rattle.rev_code.specs.declared.code.Code.{Code}
use Rattle.rev_code.specs.declared.code.CodeBlock.{CodeBlock}
use Rattle.rev_code.specs.declared.code.CodeVar.{CodeVar}
use Rattle.rev_code.specs.declared.code.LayoutItem.{LayoutItem}
use Rattle.rev_code.specs.declared.code.Instr.{Instr}
use Rattle.rev_code.specs.declared.code.Instr.TheVariants as i
use Rattle.rev_code.specs.Printing.{printed_kinds}
use Rattle.rev_code.specs.Step.{params}

-- the kinds of the words on a stack
abbrev pub Shape : Type 0
Shape = List ValueKind

abbrev pub same_shape : Shape → Shape → Bool
same_shape [] [] = true
same_shape [] (y ∷ ys) = false
same_shape (x ∷ xs) [] = false
same_shape (x ∷ xs) (y ∷ ys) = same_kind x y && same_shape xs ys

-- whether the stack begins with these kinds
abbrev pub begins : Shape → Shape → Bool
begins [] shape = true
begins (x ∷ xs) [] = false
begins (x ∷ xs) (y ∷ ys) = same_kind x y && begins xs ys

-- ---- what operands name; where they name nothing, an int or nothing stands for it: that is a fault which comes before
-- those of kinds, but for a local (kind_or_any)

abbrev pub kind_or_int : Option ValueKind → ValueKind
kind_or_int None = k.Int
kind_or_int (Some x) = x

abbrev pub var_kind : Option CodeVar → ValueKind
var_kind None = k.Int
var_kind (Some v) = v.kind

abbrev pub param_kinds : Option CodeBlock → List ValueKind
param_kinds None = []
param_kinds (Some b) = params b

abbrev pub one_or_none : Option ValueKind → List ValueKind
one_or_none None = []
one_or_none (Some x) = x ∷ []

abbrev pub result_kinds : Option CodeBlock → List ValueKind
result_kinds None = []
result_kinds (Some b) = one_or_none b.result

abbrev pub layout_kinds : Option (List LayoutItem) → List ValueKind
layout_kinds None = []
layout_kinds (Some items) = printed_kinds items

-- ---- instructions that take words of more than one kind

-- Eq and Ne compare two ints or two bools
abbrev pub compared : Shape → ValueKind
compared [] = k.Int
compared (k.Int ∷ shape) = k.Int
compared (k.Bool ∷ shape) = k.Bool
compared (k.Rev ∷ shape) = k.Int

-- Pop takes any word
abbrev pub any_kind : Shape → ValueKind
any_kind [] = k.Int
any_kind (x ∷ shape) = x

-- StoreLocal takes a word of its local's kind, and any word where there is no such local: then the local is the fault
abbrev pub kind_or_any : Option ValueKind → Shape → ValueKind
kind_or_any None shape = any_kind shape
kind_or_any (Some x) shape = x

-- ---- the table

abbrev pub takes : Code → CodeBlock → Shape → Instr → List ValueKind
takes code b shape (i.PushInt n) = []
takes code b shape (i.PushBool v) = []
takes code b shape i.PushNone = []
takes code b shape (i.LoadLocal n) = []
takes code b shape (i.StoreLocal n) = kind_or_any (slice_get b.locals n) shape ∷ []
takes code b shape (i.LoadShared v) = []
takes code b shape (i.StoreShared v) = var_kind (slice_get code.vars v) ∷ []
takes code b shape (i.LoadCell v) = k.Int ∷ []
takes code b shape (i.StoreCell v) = var_kind (slice_get code.vars v) ∷ k.Int ∷ []
takes code b shape (i.CheckCell v) = k.Int ∷ []
takes code b shape i.LoadInput = k.Int ∷ []
takes code b shape i.CountInput = []
takes code b shape i.Add = k.Int ∷ k.Int ∷ []
takes code b shape i.Sub = k.Int ∷ k.Int ∷ []
takes code b shape i.Mul = k.Int ∷ k.Int ∷ []
takes code b shape i.Div = k.Int ∷ k.Int ∷ []
takes code b shape i.Rem = k.Int ∷ k.Int ∷ []
takes code b shape i.Neg = k.Int ∷ []
takes code b shape i.Not = k.Bool ∷ []
takes code b shape i.Eq = compared shape ∷ compared shape ∷ []
takes code b shape i.Ne = compared shape ∷ compared shape ∷ []
takes code b shape i.Lt = k.Int ∷ k.Int ∷ []
takes code b shape i.Le = k.Int ∷ k.Int ∷ []
takes code b shape i.Gt = k.Int ∷ k.Int ∷ []
takes code b shape i.Ge = k.Int ∷ k.Int ∷ []
takes code b shape (i.Jump to) = []
takes code b shape (i.JumpIfFalse to) = k.Bool ∷ []
takes code b shape (i.JumpIfTrue to) = k.Bool ∷ []
takes code b shape (i.Apply n) = reverse (param_kinds (slice_get code.blocks n))
takes code b shape (i.Charge line) = []
takes code b shape (i.Call n) = reverse (param_kinds (slice_get code.blocks n))
takes code b shape (i.Fork n) = reverse (param_kinds (slice_get code.blocks n))
takes code b shape i.Join = k.Rev ∷ []
takes code b shape (i.Print n) = reverse (layout_kinds (slice_get code.layouts n))
takes code b shape i.Assert = k.Bool ∷ []
takes code b shape i.Return = one_or_none b.result
takes code b shape i.Pop = any_kind shape ∷ []
takes code b shape i.TryJoin = k.Rev ∷ []

abbrev pub gives : Code → CodeBlock → Instr → List ValueKind
gives code b (i.PushInt n) = k.Int ∷ []
gives code b (i.PushBool v) = k.Bool ∷ []
gives code b i.PushNone = k.Rev ∷ []
gives code b (i.LoadLocal n) = kind_or_int (slice_get b.locals n) ∷ []
gives code b (i.StoreLocal n) = []
gives code b (i.LoadShared v) = var_kind (slice_get code.vars v) ∷ []
gives code b (i.StoreShared v) = []
gives code b (i.LoadCell v) = var_kind (slice_get code.vars v) ∷ []
gives code b (i.StoreCell v) = []
gives code b (i.CheckCell v) = k.Int ∷ []
gives code b i.LoadInput = k.Int ∷ []
gives code b i.CountInput = k.Int ∷ []
gives code b i.Add = k.Int ∷ []
gives code b i.Sub = k.Int ∷ []
gives code b i.Mul = k.Int ∷ []
gives code b i.Div = k.Int ∷ []
gives code b i.Rem = k.Int ∷ []
gives code b i.Neg = k.Int ∷ []
gives code b i.Not = k.Bool ∷ []
gives code b i.Eq = k.Bool ∷ []
gives code b i.Ne = k.Bool ∷ []
gives code b i.Lt = k.Bool ∷ []
gives code b i.Le = k.Bool ∷ []
gives code b i.Gt = k.Bool ∷ []
gives code b i.Ge = k.Bool ∷ []
gives code b (i.Jump to) = []
gives code b (i.JumpIfFalse to) = []
gives code b (i.JumpIfTrue to) = []
gives code b (i.Apply n) = result_kinds (slice_get code.blocks n)
gives code b (i.Charge line) = []
gives code b (i.Call n) = result_kinds (slice_get code.blocks n)
gives code b (i.Fork n) = k.Rev ∷ []
gives code b i.Join = []
gives code b (i.Print n) = []
gives code b i.Assert = []
gives code b i.Return = []
gives code b i.Pop = []
gives code b i.TryJoin = k.Bool ∷ []

abbrev pub shape_after : Code → CodeBlock → Shape → Instr → Shape
shape_after code b shape x = gives code b x ++ drop (length (takes code b shape x)) shape
