-- Answers of Store::absorb_row: the row is taken in at once or by its locations, and one with no bit takes nothing in.
use Rattle.std.proofs.Common.{subst, sym}
use Rattle.segment_store.specs.declared.board.SegmentView.{SegmentView}
use Rattle.segment_store.specs.Store.{Has}
use Rattle.segment_store.proofs.store.Store.absorb_row.Goals as goal

pub returns-then-is_whole-clause-values : goal.returns-then-is_whole-clause-values
returns-then-is_whole-clause-values c = λ l lo hi lt e has.
    c.absorb_whole.ensures.values l lo hi e
    (subst (λ (m : SegmentView). Has e m.chain) (sym c.word-bits.ensures.same.2) has)

pub returns-else-is_whole-clause-values : goal.returns-else-is_whole-clause-values
returns-else-is_whole-clause-values c = λ l lo hi lt e has.
    c.absorb_cells.ensures.values l lo hi lt e
    (subst (λ (m : SegmentView). Has e m.chain) (sym c.word-bits.ensures.same.2) has)

pub absorb_whole-requires-clause-all : goal.absorb_whole-requires-clause-all
absorb_whole-requires-clause-all c = (
  c.word-bits.result,
  λ e w has. c.word-bits.ensures.word e w
      (subst (λ (m : SegmentView). Has e m.chain) c.word-bits.ensures.same.2 has),
  c.if-is_whole.ensures,
)
