-- Answers of append_copies: one copy more goes behind the words, and it has 64 bits as they have.
use Rattle.std.proofs.Common.{◌∙◌, ◌++◌, ◌∷◌, [], sym, ap, subst}
use Rattle.rev_vm.specs.Opening.{AreShort}
use Rattle.rev_vm.proofs.Mains.{more_copies, short_more}
use Rattle.rev_vm.proofs.opening.append_copies.Goals as goal
use Rattle.rev_vm.proofs.Leaving.{append_none}

pub loop-done-init : goal.loop-done-init
loop-done-init c = record { words = sym (append_none c.args.words.now.items); short = c.requires }

pub loop-done-preserved : goal.loop-done-preserved
loop-done-preserved c =
    let v = c.loop-done.invariant in
    let e = c.in_ok-push.ensures.items in
    record {
      words = e ∙ ap (λ ws. ws ++ c.args.word ∷ []) v.words
          ∙ more_copies c.args.words.now.items c.loop-done.done c.args.word;
      short = subst AreShort (sym e) (short_more c.loop-done.words.items c.args.word v.short c.ranges.word.fits);
    }
