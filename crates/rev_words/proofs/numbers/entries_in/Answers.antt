-- Answers of entries_in: a text that spells an entry puts it behind the others, in front of those of the texts left.
use Rattle.std.proofs.Common.{◌≡◌, ◌∙◌, Bor, ap, sym, rules, ◌+◌, [], ◌∷◌, ◌++◌, get_or, map, drop}
use Rattle.std.specs.Prelude.{Some}
use Rattle.clap.specs.Words.{Text}
use Rattle.rev_words.specs.Schedule.{entry_in}
use Rattle.rev_words.specs.Each.{each_said}
use Rattle.rev_words.proofs.Each.{one_more_text, with_front}
use Rattle.rev_words.proofs.numbers.entries_in.Goals as goal

pub loop-text-preserved : goal.loop-text-preserved
loop-text-preserved c =
    let texts = c.args.texts.now in
    let i = c.loop-text.text-index in
    let nothing : Bor Text = record { ref_ptr = (0, 0); now = [] } in
    let is : entry_in ((get_or texts i nothing).now) ≡ Some c.in_ok-ok_or.field-0 = search rules in
    let pushed : c.push.new.self.items ≡ c.loop-text.entries.items ++ c.in_ok-ok_or.field-0 ∷ [] = search rules in
    c.loop-text.invariant
    ∙ one_more_text entry_in c.loop-text.entries.items texts i nothing c.in_ok-ok_or.field-0 c.loop-text-test.true is
    ∙ ap (λ ns. with_front ns (each_said entry_in (map (λ s. s.now) (drop (i + 1) texts)))) (sym pushed)
