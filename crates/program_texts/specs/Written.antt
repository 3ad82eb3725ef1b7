-- When a tree is one that a text can write: each number fits 64 bits, each line of a statement 32,
-- and the texts of prints are printable.
use Rattle.std.specs.Prelude.{◌<◌, ◌^◌, Option, Some, None, IsTrue}
use Rattle.std.specs.List.{list_all, AllByRecursion}
use Rattle.rev_num.specs.Arith.{fits_i64}
use Rattle.rev_syntax.specs.Bytes.{is_text_byte}
use Rattle.rev_syntax.specs.Trees.{Expression, placed, ExpressionForm, int, bool, no_rev, var, cell, apply, input, inputs, pick, unary, chain, Expressions, no_expressions, expression, Links, no_links, link, RightSide, plain, called, forked, tried, PrintItem, text, shown, Statement, statement, StatementForm, bind, assign, assign_cell, choose, choose_or, repeat, call, return, fork, join, print, assert, Statements, no_statements, statements, Arms, no_arms, arm, Declaration, fun, merge, shared, proc, ProgramTree}

-- ---- expressions

abbrev mutual
  pub ExpressionWritten : Expression → Type 0
  ExpressionWritten (placed at s) = FormWritten s

  pub FormWritten : ExpressionForm → Type 0
  FormWritten (int n) = IsTrue (fits_i64 n)
  FormWritten (bool b) = Unit {0}
  FormWritten no_rev = Unit {0}
  FormWritten (var w) = Unit {0}
  FormWritten (cell w index) = ExpressionWritten index
  FormWritten (apply w args) = ExpressionsWritten args
  FormWritten (input at index) = ExpressionWritten index
  FormWritten (inputs at) = Unit {0}
  FormWritten (pick test a b) = ExpressionWritten test × ExpressionWritten a × ExpressionWritten b
  FormWritten (unary op part) = ExpressionWritten part
  FormWritten (chain first rest) = ExpressionWritten first × LinksWritten rest

  pub ExpressionsWritten : Expressions → Type 0
  ExpressionsWritten no_expressions = Unit {0}
  ExpressionsWritten (expression x rest) = ExpressionWritten x × ExpressionsWritten rest

  pub LinksWritten : Links → Type 0
  LinksWritten no_links = Unit {0}
  LinksWritten (link op part rest) = ExpressionWritten part × LinksWritten rest

-- ---- statements

abbrev pub RightSideWritten : RightSide → Type 0
RightSideWritten (plain e) = ExpressionWritten e
RightSideWritten (called at w args) = ExpressionsWritten args
RightSideWritten (forked at w args) = ExpressionsWritten args
RightSideWritten (tried at handle) = ExpressionWritten handle

abbrev pub ItemWritten : PrintItem → Type 0
ItemWritten (text at bytes) = IsTrue (list_all is_text_byte bytes)
ItemWritten (shown e) = ExpressionWritten e

abbrev pub ReturnWritten : Option Expression → Type 0
ReturnWritten None = Unit {0}
ReturnWritten (Some e) = ExpressionWritten e

abbrev mutual
  pub StatementWritten : Statement → Type 0
  StatementWritten (statement at line form) = (line < 2 ^ 32) × StatementFormWritten form

  pub StatementFormWritten : StatementForm → Type 0
  StatementFormWritten (bind w right) = RightSideWritten right
  StatementFormWritten (assign w right) = RightSideWritten right
  StatementFormWritten (assign_cell w index value) = ExpressionWritten index × ExpressionWritten value
  StatementFormWritten (choose arms) = ArmsWritten arms
  StatementFormWritten (choose_or arms last) = ArmsWritten arms × StatementsWritten last
  StatementFormWritten (repeat test body) = ExpressionWritten test × StatementsWritten body
  StatementFormWritten (call w args) = ExpressionsWritten args
  StatementFormWritten (return value) = ReturnWritten value
  StatementFormWritten (fork w args) = ExpressionsWritten args
  StatementFormWritten (join handle) = ExpressionWritten handle
  StatementFormWritten (print items) = AllByRecursion ItemWritten items
  StatementFormWritten (assert test) = ExpressionWritten test

  pub StatementsWritten : Statements → Type 0
  StatementsWritten no_statements = Unit {0}
  StatementsWritten (statements x rest) = StatementWritten x × StatementsWritten rest

  pub ArmsWritten : Arms → Type 0
  ArmsWritten no_arms = Unit {0}
  ArmsWritten (arm test body rest) = ExpressionWritten test × StatementsWritten body × ArmsWritten rest

-- ---- programs

-- of shared variables, whose names and constants have their forms in a small tree, nothing more is asked
abbrev pub DeclarationWritten : Declaration → Type 0
DeclarationWritten (fun w params result body) = ExpressionWritten body
DeclarationWritten (merge w m j r body) = ExpressionWritten body
DeclarationWritten (shared x) = Unit {0}
DeclarationWritten (proc w params result body) = StatementsWritten body

pub record IsWritten (p : ProgramTree) : Type 0 where
  pub declarations : AllByRecursion DeclarationWritten p.declarations
  pub main : StatementsWritten p.main
