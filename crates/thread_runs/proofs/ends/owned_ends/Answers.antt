-- Answers of owned_ends: where no end is left, the owned ones so far are those of all.
use Rattle.std.proofs.Common.{◌≡◌, ◌∙◌, List, [], Option, sym, subst}
use Rattle.std.proofs.lemmas.List.{append-nil, nil_from_length}
use Rattle.std.specs.Global.{Box}
use Rattle.std.specs.Vec.Iter.{into_iter_items}
use Rattle.run_revision.specs.CodeValues.{LeftValue}
use Rattle.version_map.specs.declared.end.EndValue.{EndValue}
use Rattle.thread_runs.specs.Ends.{AreOwned}
use Rattle.thread_runs.proofs.ends.owned_ends.Goals as goal

pub returns : goal.returns
returns c =
    let over : into_iter_items c.loop-end.rest ≡ [] =
    nil_from_length (into_iter_items c.loop-end.rest) (sym c.loop-end.invariant.0 ∙ c.in_default.ensures.cases.0) in
    subst (λ (vs : List (Option (Box EndValue))). AreOwned c.args.ends.items vs) (append-nil c.loop-end.owned.items)
    (c.loop-end.invariant.1 [] (subst (λ (es : List (Option LeftValue)). AreOwned es []) (sym over) tt))
