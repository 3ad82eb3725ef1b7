-- Answers of told_locations: the location of this number goes behind the others, and later writes tell the rest.
use Rattle.std.proofs.Common.{◌+◌, ◌-◌, ◌++◌, ◌∷◌, [], sym, ap, ◌∙◌, arith, append_assoc}
use Rattle.stated_parts.specs.Ends.{behind, told_from}
use Rattle.stated_parts.proofs.ToldLocations.{told_more}
use Rattle.stated_parts.proofs.ends.told_locations.Goals as goal

pub loop-number-preserved : goal.loop-number-preserved
loop-number-preserved c =
    let n = c.loop-number.number in
    let k = c.args.count - (n + 1) in
    let before = c.loop-number.locations.items in
    let ws = c.loop-number.others.now in
    ap (λ t. t ++ told_from (n + 1) k c.behind-others.result.now) c.in_ok-push.ensures.items
    ∙ ap (λ t. (before ++ c.in_ok-told_at.field-0 ∷ []) ++ told_from (n + 1) k t) c.behind-others.ensures
    ∙ append_assoc before (c.in_ok-told_at.field-0 ∷ []) (told_from (n + 1) k (behind n ws))
    ∙ ap (λ m. before ++ m ∷ told_from (n + 1) k (behind n ws)) c.in_ok-told_at.ensures
    ∙ ap (λ t. before ++ t) (sym (told_more n c.args.count ws (omega (arith, c.loop-number-test.true))))
    ∙ c.loop-number.invariant
