-- Answers of values_of: the kinds of the items up to the next are those so far and what the next item adds.
use Rattle.std.proofs.Common.{◌∙◌, ◌++◌, ◌∷◌, [], ap, sym, get_or}
use Rattle.rev_code.specs.declared.code.LayoutItem.TheVariants as item
use Rattle.rev_code.specs.Printing.{printed_kinds}
use Rattle.code_verifier.proofs.Stacks.{kinds_more}
use Rattle.code_verifier.proofs.operands.values_of.Goals as goal

pub loop-item-preserved : goal.loop-item-preserved
loop-item-preserved c =
    c.in_ok-add_value.ensures
    ∙ ap (λ y. y ++ printed_kinds (get_or c.args.items.now c.loop-item.item-index item.Int ∷ [])) c.loop-item.invariant
    ∙ sym (kinds_more c.args.items.now c.loop-item.item-index item.Int c.loop-item-test.true)
