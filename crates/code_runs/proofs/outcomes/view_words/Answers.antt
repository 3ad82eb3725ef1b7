-- Answers of view_words: each write lies inside of the locations, so it sets a word and the later writes follow.
use Rattle.std.proofs.Common.{◌∙◌, length, get_or, ap, refl, arith}
use Rattle.std.proofs.lemmas.List.{length-set}
use Rattle.version_map.specs.declared.end.Written.{Written}
use Rattle.code_runs.specs.Words.{written_over}
use Rattle.code_runs.proofs.Overlays.{inside_at, over_more, over_all}
use Rattle.code_runs.proofs.outcomes.view_words.Goals as goal

abbrev no_write : Written
no_write = record { location = 0; value = 0; root = 0 }

pub loop-one-init : goal.loop-one-init
loop-one-init c = (refl, refl)

pub index_mut-requires : goal.index_mut-requires
index_mut-requires c =
    let less = inside_at _ c.args.written.now c.requires c.loop-one.one-index no_write c.loop-one-test.true in
    let same = c.loop-one.invariant.1 ∙ ap (λ ws. length ws) (c.in_ok-words.ensures).words in
    let ok = c.loop-one.words.ok.0 in
    omega (arith, less, same, ok)

pub loop-one-preserved : goal.loop-one-preserved
loop-one-preserved c =
    let w = get_or c.args.written.now c.loop-one.one-index no_write in (
      over_more c.loop-one.words.items c.args.written.now c.loop-one.one-index no_write c.loop-one-test.true
          ∙ c.loop-one.invariant.0,
      length-set c.loop-one.words.items w.location w.value ∙ c.loop-one.invariant.1,
    )

pub returns : goal.returns
returns c =
    over_all c.loop-one.words.items c.args.written.now c.loop-one.one-index c.loop-one-test.false
    ∙ c.loop-one.invariant.0
    ∙ ap (λ ws. written_over ws c.args.written.now) (c.in_ok-words.ensures).words
