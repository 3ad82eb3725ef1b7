-- The grammar of declarations and programs.
use Rattle.std.specs.Prelude.{ℕ, neg_ℤ, true, false, List, Option, Some, None}
use Rattle.rev_num.specs.declared.value.ValueKind.{ValueKind}
use Rattle.rev_num.specs.declared.value.ValueKind.TheVariants as kinds
use Rattle.rev_num.specs.declared.value.Value.{Value}
use Rattle.rev_num.specs.declared.value.Value.TheVariants as v
use Rattle.rev_syntax.specs.Trees as t
use Rattle.rev_syntax.specs.Trees.{PlacedName, Expression, Statements, Parameter, ArraySize, Constant, Declaration, ProgramTree}
use Rattle.rev_expressions.specs.Form.{Rules, nothing, token, level, both, either}
use Rattle.rev_syntax.specs.declared.token.Fixed.TheVariants as s
use Rattle.rev_syntax.specs.declared.token.Fixed.{Fixed}
use Rattle.rev_expressions.specs.Source.{int_of}
use Rattle.rev_expressions.specs.Grammar.{alphabet, Rule, Operand, Parens, Index, Arguments, Parts, Body, Params, Names, Cells, sign, place, behind, before, all, listing, name, expr, unary, parens, index, arguments, parts}
use Rattle.rev_expressions.specs.Statements.{block, body}
use Rattle.rev_expressions.specs.Classes as class

-- a kind word, with its place
abbrev pub KindAt : Type 0
KindAt = ℕ × ValueKind

abbrev pub kind_word : Fixed → ValueKind → Rule KindAt
kind_word s k = token (class.fixed s) (λ x. (x.start, k))

-- "int" | "bool" | "rev"
unfoldable pub kind : Rule KindAt
kind = either (kind_word s.KindInt kinds.Int) (either (kind_word s.KindBool kinds.Bool) (kind_word s.KindRev kinds.Rev))

abbrev pub constant_word : Fixed → Value → Rule Constant
constant_word s x = token (class.fixed s) (λ y. record { at = y.start; value = x })

-- [ "-" ] INT | "true" | "false" | "none"
unfoldable pub constant : Rule Constant
constant =
    either (both (λ at n. record { at = at; value = v.Int (neg_ℤ n) }) (place s.Minus)
    (token class.number (λ x. int_of x.kind)))
    (either (token class.number (λ x. record { at = x.start; value = v.Int (int_of x.kind) }))
    (either (constant_word s.True (v.Bool true))
    (either (constant_word s.False (v.Bool false))
    (constant_word s.NoRev (v.Rev None)))))

-- a rule, or nothing
abbrev pub optional : {A : Type 0} → Rule A → Rule (Option A)
optional F = either (both (λ a x. Some a) F (nothing {A = Unit {0}} tt)) (nothing None)

-- INT "]"
unfoldable pub cells : Rule ArraySize
cells = before (token class.number (λ x. record { at = x.start; cells = int_of x.kind })) s.CloseBracket

-- [ "[" INT "]" ]
unfoldable pub size : Rule (Option ArraySize)
size = optional (level (class.fixed s.OpenBracket) Cells (λ x c. c))

-- [ "=" const ]
unfoldable pub first_value : Rule (Option Constant)
first_value = optional (behind s.Assign constant)

module _ (bytes : List ℕ) where
  -- NAME ":" kind
  unfoldable pub param : Rule Parameter
  param = both {B = KindAt} (λ w k. record { name = w; kind_at = k.0; kind = k.1 }) (name bytes) (behind s.Colon kind)

  -- [ params ] ")"
  unfoldable pub params : Rule (List Parameter)
  params = before (listing param) s.CloseParen

  -- NAME "," NAME "," NAME ")"
  unfoldable pub names : Rule (PlacedName × PlacedName × PlacedName)
  names =
      before (both {B = PlacedName × PlacedName} (λ m jr. (m, jr.0, jr.1)) (before (name bytes) s.Comma)
      (both (λ j r. (j, r)) (before (name bytes) s.Comma) (name bytes))) s.CloseParen

  unfoldable pub formal : Rule (List Parameter)
  formal = level (class.fixed s.OpenParen) Params (λ x ps. ps)

  -- NAME "(" [ params ] ")"
  unfoldable pub head : Rule (PlacedName × List Parameter)
  head = both (λ w ps. (w, ps)) (name bytes) formal

  -- "=" expr ";"
  unfoldable pub meaning : Rule Expression
  meaning = behind s.Assign (before (expr bytes) s.Semicolon)

  -- head ":" kind "=" expr ";"
  unfoldable pub fun_form : Rule Declaration
  fun_form =
      both {A = PlacedName × List Parameter} {B = ValueKind × Expression} (λ h r. t.fun h.0 h.1 r.0 r.1) head
      (both {A = KindAt} (λ k e. (k.1, e)) (behind s.Colon kind) meaning)

  -- NAME "(" NAME "," NAME "," NAME ")" "=" expr ";"
  unfoldable pub merge_form : Rule Declaration
  merge_form =
      both {B = (PlacedName × PlacedName × PlacedName) × Expression} (λ w r. t.merge w r.0.0 r.0.1 r.0.2 r.1)
      (name bytes)
      (both (λ ns e. (ns, e)) (level (class.fixed s.OpenParen) Names (λ x ns. ns)) meaning)

  -- NAME ":" kind [ "[" INT "]" ]
  unfoldable pub variable : Rule (PlacedName × KindAt × Option ArraySize)
  variable =
      both {B = KindAt × Option ArraySize} (λ w r. (w, r.0, r.1)) (name bytes)
      (both (λ k c. (k, c)) (behind s.Colon kind) size)

  abbrev pub shared_of : PlacedName × KindAt × Option ArraySize → Option PlacedName → Option Constant → Declaration
  shared_of x by c =
      t.shared (record { name = x.0; by = by; kind_at = x.1.0; holds = x.1.1; size = x.2; first = c })

  -- variable [ "=" const ] ";"
  unfoldable pub versioned_form : Rule Declaration
  versioned_form = both (λ x c. shared_of x None c) variable (before first_value s.Semicolon)

  -- variable "by" NAME [ "=" const ] ";"
  unfoldable pub cumulative_form : Rule Declaration
  cumulative_form =
      both {B = PlacedName × Option Constant} (λ x r. shared_of x (Some r.0) r.1) variable
      (both (λ w c. (w, c)) (behind s.By (name bytes)) (before first_value s.Semicolon))

  -- head [ ":" kind ] block
  unfoldable pub proc_form : Rule Declaration
  proc_form =
      both {A = PlacedName × List Parameter} {B = Option ValueKind × Statements} (λ h r. t.proc h.0 h.1 r.0 r.1) head
      (both (λ k b. (k, b)) (optional (both {B = KindAt} (λ x k. k.1) (sign s.Colon) kind)) block)

  unfoldable pub declaration : Rule Declaration
  declaration =
      either (behind s.Fun fun_form)
      (either (behind s.Merge merge_form)
      (either (behind s.Versioned versioned_form)
      (either (behind s.Cumulative cumulative_form)
      (behind s.Proc proc_form))))

  -- { decl }
  unfoldable pub declarations : Rule (List Declaration)
  declarations = all declaration

  -- { decl } "main" block
  unfoldable pub program : Rule ProgramTree
  program =
      both {B = ℕ × Statements} (λ ds m. record { declarations = ds; main_at = m.0; main = m.1 }) declarations
      (both (λ at b. (at, b)) (place s.Main) block)

  -- what stands behind a token that opens a level
  unfoldable pub inner : Rules alphabet
  inner Operand = unary bytes
  inner Parens = parens bytes
  inner Index = index bytes
  inner Arguments = arguments bytes
  inner Parts = parts bytes
  inner Body = body bytes
  inner Params = params
  inner Names = names
  inner Cells = cells
