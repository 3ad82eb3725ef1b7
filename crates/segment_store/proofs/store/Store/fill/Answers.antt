-- Answers of Store::fill: the parent, then the mask, and then the values of all locations are laid down.
use Rattle.std.proofs.Common.{arith, List, refl, subst}
use Rattle.segment_store.specs.Places.{view}
use Rattle.segment_store.specs.Entry.{Put}
use Rattle.segment_store.specs.Filling.{Filling}
use Rattle.segment_store.proofs.Fills.{fills_more, filling_starts, puts_more}
use Rattle.segment_store.proofs.store.Store.fill.Goals as goal

pub returns-clause-view : goal.returns-clause-view
returns-clause-view c =
    let now = c.args.seat.now in
    let p = puts_more now now c.put.new.seat _ _ (refl, refl, refl) c.put.ensures.view in
    fills_more now c.lay_mask.new.seat c.lay_values.new.seat
    (fills_more now c.put.new.seat c.lay_mask.new.seat p.0 c.lay_mask.ensures.view) c.lay_values.ensures.view

pub returns-clause-laid : goal.returns-clause-laid
returns-clause-laid c =
    let now = c.args.seat.now in let s = c.args.self.now in let d = c.args.delta.now in
    let p = puts_more now now c.put.new.seat _ _ (refl, refl, refl) c.put.ensures.view in
    let f = c.lay_values.ensures.laid c.args.parent
    (c.lay_mask.ensures.laid c.args.parent
    (subst (λ (ps : List Put). Filling c.args.segment c.args.parent s.masks d 0 0 ps) p.1
    (filling_starts c.args.segment c.args.parent s.masks d (view now).made c.requires.built.3))) in
    let wide = s.wide.0 in let many = c.requires.own.1 in
    record {
      parent_is = f.parent_is;
      mask_is = f.mask_is;
      value_is = λ l w lt e. f.value_is l w (omega (arith, lt, wide, many)) e;
      none_is = λ l lt e. f.none_is l (λ less. e);
    }
