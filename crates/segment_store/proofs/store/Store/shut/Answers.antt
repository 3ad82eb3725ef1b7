-- Answers of Store::shut: the words at the close are those of a state that meets the rule and has the seat's view.
use Rattle.std.proofs.Common.{◌≡◌, ℕ, subst}
use mathlib.Core.Option.{some}
use lib.ListN.{get_elem?}
use Rattle.segment_store.specs.declared.board.SegmentView.{SegmentView}
use Rattle.segment_store.specs.Rule.{Rule}
use Rattle.segment_store.proofs.store.Store.shut.Goals as goal

pub returns-clause-words : goal.returns-clause-words
returns-clause-words c = let z = c.args.self.sized in
    let f = c.close_with-ended.ensures.last in let s = f.0 in let seen = f.1 in
    let same = c.witness-witness.ensures.kept in (
      s,
      record {
        rule = subst (λ (y : ℕ × ℕ × ℕ). Rule y.0 y.1 y.2 s)
            (λ i. (z.1 i, z.2 i, c.args.self.masked i)) seen.0;
        seat = subst (λ (y : ℕ × SegmentView). get_elem? s.views y.0 ≡ some y.1)
            (λ i. (same.1 i, same.2 i)) seen.1;
      },
      f.2,
    )
