-- Answers of part_cost: each form of node costs what its form of expression does.
use Rattle.std.proofs.Common.{◌∙◌, ap, sym}
use Rattle.rev_syntax.specs.View.{expression_form}
use Rattle.rev_evaluator.specs.Work.{part_cost}
use Rattle.typed_programs.proofs.Shapes.{expression_form-Chain, expression_form-Pick, expression_form-Apply, expression_form-Unary, expression_form-Cell, expression_form-Input, expression_form-Int, expression_form-Bool, expression_form-NoRev, expression_form-Var, expression_form-Inputs}
use Rattle.rev_evaluator.proofs.work.part_cost.Goals as goal

pub returns-in-Chain : goal.returns-in-Chain
returns-in-Chain c = ap part_cost (sym (ap expression_form c.in-Chain.is ∙ expression_form-Chain _ _))

pub returns-in-Int : goal.returns-in-Int
returns-in-Int c = ap part_cost (sym (ap expression_form c.in-Int.is ∙ expression_form-Int _))

pub returns-in-Bool : goal.returns-in-Bool
returns-in-Bool c = ap part_cost (sym (ap expression_form c.in-Bool.is ∙ expression_form-Bool _))

pub returns-in-NoRev : goal.returns-in-NoRev
returns-in-NoRev c = ap part_cost (sym (ap expression_form c.in-NoRev.is ∙ expression_form-NoRev))

pub returns-in-Var : goal.returns-in-Var
returns-in-Var c = ap part_cost (sym (ap expression_form c.in-Var.is ∙ expression_form-Var _))

pub returns-in-Cell : goal.returns-in-Cell
returns-in-Cell c = ap part_cost (sym (ap expression_form c.in-Cell.is ∙ expression_form-Cell _ _))

pub returns-in-Apply : goal.returns-in-Apply
returns-in-Apply c = ap part_cost (sym (ap expression_form c.in-Apply.is ∙ expression_form-Apply _ _))

pub returns-in-Input : goal.returns-in-Input
returns-in-Input c = ap part_cost (sym (ap expression_form c.in-Input.is ∙ expression_form-Input _ _))

pub returns-in-Inputs : goal.returns-in-Inputs
returns-in-Inputs c = ap part_cost (sym (ap expression_form c.in-Inputs.is ∙ expression_form-Inputs _))

pub returns-in-Pick : goal.returns-in-Pick
returns-in-Pick c = ap part_cost (sym (ap expression_form c.in-Pick.is ∙ expression_form-Pick _ _ _))

pub returns-in-Unary : goal.returns-in-Unary
returns-in-Unary c = ap part_cost (sym (ap expression_form c.in-Unary.is ∙ expression_form-Unary _ _))
