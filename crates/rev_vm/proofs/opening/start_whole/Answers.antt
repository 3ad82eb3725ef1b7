-- Answers of start_whole: the words at the start are as many as the locations, and each is that of its location.
use Rattle.std.proofs.Common.{◌∙◌, length, ap}
use Rattle.rev_vm.proofs.Mains.{start_many, starts_with}
use Rattle.rev_vm.proofs.opening.start_whole.Goals as goal

pub returns-clause-size : goal.returns-clause-size
returns-clause-size c =
    c.new.result.words.ok.0 ∙ ap (λ v. length v.items) c.new.ensures ∙ ap length c.in_ok-words.ensures.words
    ∙ start_many c.args.code.now.vars

pub returns-clause-base : goal.returns-clause-base
returns-clause-base c = λ l w is.
    let e = ap (λ v. v.items) c.new.ensures in
    let q = starts_with c.args.code.now.vars c.in_ok-words.words.items c.in_ok-words.ensures.words
    c.in_ok-words.ensures.short l w is in
    (ap (λ ws. Rattle.std.specs.Prelude.slice_index ws l) e ∙ q.0, q.1)
