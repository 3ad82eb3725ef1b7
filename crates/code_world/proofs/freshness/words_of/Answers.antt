-- `words_of`: a fresh runner sees the words of its snapshot, and what lies over them where it has begun.
use Rattle.std.proofs.Common.{◌∙◌, ap}
use Rattle.version_map.specs.declared.whole.Whole.{Whole}
use Rattle.code_world.proofs.Begun.{base_of, seen_alone, seen_over}
use Rattle.code_world.proofs.freshness.words_of.Goals as goal

pub words_seen-requires : goal.words_seen-requires
words_seen-requires c =
    base_of c.args.runner.now c.in-Some.delta.now c.words-words.result.now c.in-Some.ensures
    (c.words-words.ensures ∙ ap (λ (w : Whole). w.words.items) c.snapshot.ensures)

pub returns-in_ok-seen-in-Some : goal.returns-in_ok-seen-in-Some
returns-in_ok-seen-in-Some c = λ g s f runs fresh.
    seen_over g c.args.runner.now s runs f fresh c.in_ok-seen-in-Some.seen.items c.in-Some.delta.now
    c.words-words.result.now c.in-Some.ensures
    (c.words-words.ensures ∙ ap (λ (w : Whole). w.words.items) c.snapshot.ensures)
    c.in_ok-seen-in-Some.ensures.many c.in_ok-seen-in-Some.ensures.words

pub returns-in_ok-seen-in-None : goal.returns-in_ok-seen-in-None
returns-in_ok-seen-in-None c = λ g s f runs fresh.
    seen_alone g c.args.runner.now s runs f fresh c.in_ok-seen-in-None.seen.items c.in-None.ensures
    (c.in_ok-seen-in-None.ensures.items ∙ c.words-words.ensures
    ∙ ap (λ (w : Whole). w.words.items) c.snapshot.ensures)
