-- Answers of append_items: the item's bytes and the gap before it are the first of those left to print.
use Rattle.std.proofs.Common.{◌∙◌, ◌+◌, ◌++◌, ℕ, drop, ap, arith}
use Rattle.leg_run.specs.Printed.{bytes_from, gap_at, item_bytes}
use Rattle.leg_run.proofs.Printing.{one_more}
use Rattle.leg_run.proofs.prints.append_items.Goals as goal

pub loop-n-preserved : goal.loop-n-preserved
loop-n-preserved c =
    let inv = c.loop-n.invariant in
    let b = inv.few in
    let w = c.width-at.ensures.value in let few = c.width-at.ensures.few in
    let more =
    one_more c.args.texts.now c.args.items.now c.args.words.now c.loop-n.n c.loop-n.at c.item_at-item.result
    c.item_at-item.ensures
    c.loop-n.text.items c.append_gap.new.text.items c.append_item.new.text.items c.in_ok-append_gap.ensures
    (c.in_ok-append_item.ensures
    ∙ ap (λ (v : ℕ). c.append_gap.new.text.items ++ item_bytes c.args.texts.now c.item_at-item.result v)
    c.word_at.ensures) in
    record {
      text = ap (λ (m : ℕ).
          c.append_item.new.text.items
          ++ bytes_from (gap_at (c.loop-n.n + 1)) c.args.texts.now (drop (c.loop-n.n + 1) c.args.items.now)
          c.args.words.now (c.loop-n.at + m))
          w
          ∙ more ∙ inv.text;
      few = omega (arith, b, few);
    }
