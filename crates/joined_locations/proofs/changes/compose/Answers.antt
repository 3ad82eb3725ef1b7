-- Answers of compose: one change more goes in front of what the rest composes to, or its fault is the first.
use Rattle.std.proofs.Common.{ℕ, [], ◌∷◌, Option, None, ◌<◌, ◌+◌, length, take, drop, get_or, sym, ap, ◌∙◌, arith, length-append}
use Rattle.std.proofs.lemmas.List.{get_or_default}
use Rattle.rev_syntax.specs.View.{program as whole}
use Rattle.revision_calculus.specs.Join as join
use Rattle.joined_locations.specs.Changes.{put, in_front, change_of}
use Rattle.joined_locations.proofs.Compositions.{composed_more, composed_all}
use Rattle.joined_locations.proofs.changes.compose.Goals as goal

pub loop-n-preserved : goal.loop-n-preserved
loop-n-preserved c =
    let p = whole c.args.typed.now.expanded.program in
    let ks = c.args.merges.now in
    let ms = c.args.joiner.now in
    let js = c.args.joinee.now in
    let n = c.loop-n.n in
    let first = c.min.ensures in
    let second = c.min-n-end.ensures in
    let test = c.loop-n-test.true in
    let long = ap length c.in_ok-push-in-Ok.ensures.items in
    let kn : n < length ks = omega arith in
    let k : Option ℕ = get_or ks n None in
    record {
      count = omega (arith, long, length-append c.loop-n.changes.items (c.in-Ok.change ∷ []), c.loop-n.invariant.count);
      composed =
          ap (λ t. in_front (put (take (n + 1) ms) t)
          (join.compose p (n + 1) (drop (n + 1) ks) (drop (n + 1) ms) (drop (n + 1) js)))
          c.in_ok-push-in-Ok.ensures.items
          ∙ composed_more p ks ms js n c.loop-n.changes.items c.in-Ok.change k c.index-joiner-n.result
          c.index-joinee-n.result kn (omega arith) (omega arith)
          (get_or_default ks n None k kn) c.index-joiner-n.is c.index-joinee-n.is c.loop-n.invariant.count
          (sym (ap (change_of c.index-joiner-n.result) c.in-Ok.is) ∙ c.in_ok-change.ensures)
          ∙ c.loop-n.invariant.composed;
    }

pub returns : goal.returns
returns c =
    let p = whole c.args.typed.now.expanded.program in
    let first = c.min.ensures in
    let second = c.min-n-end.ensures in
    let test = c.loop-n-test.false in
    sym (composed_all p c.args.merges.now c.args.joiner.now c.args.joinee.now c.loop-n.n c.loop-n.changes.items
    (omega arith) c.loop-n.invariant.count)
    ∙ c.loop-n.invariant.composed
