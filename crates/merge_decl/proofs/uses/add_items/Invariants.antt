-- Loops of add_items: the uses so far, with those of the items left, are the old ones and all of the items'.
use Rattle.std.proofs.Common.{◌≡◌, ◌++◌, drop, map}
use Rattle.rev_syntax.specs.View.{print_item}
use Rattle.typed_programs.specs.FunRules as rule
use Rattle.merge_decl.specs.Uses.{uses_of}
use Rattle.merge_decl.proofs.uses.add_items.Given as goal

abbrev pub invariant-loop-it : goal.invariant-loop-it
invariant-loop-it l =
    uses_of l.uses.items ++ rule.items_uses l.within (map print_item (drop l.it-index l.items))
    ≡ uses_of l.initial.uses.items ++ rule.items_uses l.within (map print_item l.items)
