-- Answers of joiners_of: parts are entered from the last to the first, so an earlier one replaces a later one.
use Rattle.std.proofs.Common.{◌≡◌, ◌∙◌, Some, ap, arith, cond, subst, sym, ◌-◌}
use Rattle.revision_machine.specs.PathIndex.{place_by}
use Rattle.stated_parts.specs.Tables.{lists}
use Rattle.stated_parts.proofs.Finding.{joiner_first, joiner_more, no_joiners, nothing_in}
use Rattle.stated_parts.proofs.tables.joiners_of.Goals as goal

pub loop-i-init : goal.loop-i-init
loop-i-init c = record {
  within = omega arith;
  so_far = λ q.
      no_joiners c.args.parts.now _ q _ (omega arith) (nothing_in c.new-table.result.map c.new-table.ensures q);
}

pub loop-i-preserved : goal.loop-i-preserved
loop-i-preserved c =
    let within = c.loop-i.invariant.within in
    record {
      within = omega arith;
      so_far = λ q.
          joiner_more c.args.parts.now c.loop-i.i (c.loop-i.i - 1) c.index-parts-i.result q
          (place_by c.loop-i.table.map q) (place_by c.enter_joins.new.table.map q) (omega arith) (omega arith)
          c.index-parts-i.is (c.loop-i.invariant.so_far q)
          (subst (λ es.
          place_by c.enter_joins.new.table.map q
          ≡ cond (lists es q) (Some (c.loop-i.i - 1)) (place_by c.loop-i.table.map q))
          (c.as_slice.ensures ∙ ap (λ v. v.events) (sym c.index-parts-i.is)) (c.in_ok-enter_joins.ensures q));
    }

pub returns : goal.returns
returns c = λ q. joiner_first c.args.parts.now c.loop-i.i q _ (omega arith) (c.loop-i.invariant.so_far q)
