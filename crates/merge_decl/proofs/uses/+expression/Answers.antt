-- Answers of expression: a chain, a pick and an apply have the uses of their parts in order, one behind the other.
use Rattle.std.proofs.Common.{◌∙◌, ap, sym}
use Rattle.rev_syntax.specs.View.{expression_form, expression, expressions, links}
use Rattle.merge_decl.specs.Uses.{uses_of}
use Rattle.merge_decl.proofs.UsesAdded.{chain_added, pick_added, apply_added, uses_of-push}
use Rattle.typed_programs.proofs.Appends.{count_expressions}
use Rattle.typed_programs.proofs.Shapes.{expression_form-Chain, expression_form-Pick, expression_form-Apply}
use Rattle.merge_decl.proofs.uses.+expression.Goals as goal

pub add_node-returns-in_ok-add_links-in-Chain : goal.add_node-returns-in_ok-add_links-in-Chain
add_node-returns-in_ok-add_links-in-Chain t c =
    chain_added c.args.within _
    (ap expression_form c.in-Chain.is ∙ expression_form-Chain c.in-Chain.first c.in-Chain.rest)
    (ap expression c.deref-in-Chain.ensures) (ap links c.deref-in-Chain-2.ensures.value)
    c.in_ok-add_expression-in-Chain.ensures c.in_ok-add_links-in-Chain.ensures

pub add_node-returns-in_ok-add_expression-in-Pick-3 : goal.add_node-returns-in_ok-add_expression-in-Pick-3
add_node-returns-in_ok-add_expression-in-Pick-3 t c =
    pick_added c.args.within _
    (ap expression_form c.in-Pick.is ∙ expression_form-Pick c.in-Pick.test c.in-Pick.yes c.in-Pick.no)
    (ap expression c.deref-in-Pick.ensures) (ap expression c.deref-in-Pick-2.ensures)
    (ap expression c.deref-in-Pick-3.ensures)
    c.in_ok-add_expression-in-Pick.ensures c.in_ok-add_expression-in-Pick-2.ensures
    c.in_ok-add_expression-in-Pick-3.ensures

pub add_node-returns-in_ok-add_expressions-in-Apply : goal.add_node-returns-in_ok-add_expressions-in-Apply
add_node-returns-in_ok-add_expressions-in-Apply t c =
    apply_added c.args.within _
    (ap expression_form c.in-Apply.is ∙ expression_form-Apply c.in-Apply.name c.in-Apply.args)
    (ap expressions c.deref-in-Apply.ensures.value)
    (c.len.ensures ∙ c.in-Apply.args.ok.0 ∙ sym (count_expressions c.in-Apply.args.items))
    (ap uses_of c.in_ok-push-in-Apply.ensures.items ∙ uses_of-push c.args.uses.now.items _)
    c.in_ok-add_expressions-in-Apply.ensures
