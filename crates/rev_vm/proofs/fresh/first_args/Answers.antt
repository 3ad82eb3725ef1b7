-- `first_args`: the first words of the locals.
use Rattle.std.proofs.Common.{◌∙◌, length, take, drop, sym, ap}
use Rattle.rev_num.proofs.Options.{some_eq}
use Rattle.rev_code.specs.Step.{params}
use Rattle.rev_vm.proofs.Beginnings.{inside_of}
use Rattle.rev_vm.proofs.fresh.first_args.Goals as goal

pub first_words-requires : goal.first_words-requires
first_words-requires c =
    let q = c.requires.block in
    inside_of c.args.run.now.registers.base (length c.args.run.now.words.items) q.0 c.block-block.result.now
    c.params_of.result
    (some_eq (sym q.1 ∙ c.block-block.ensures)) c.params_of.ensures (c.requires.inside q.0 q.1)

pub returns : goal.returns
returns c = λ b is.
    c.first_words.ensures
    ∙ ap (λ n. take n (drop c.args.run.now.registers.base c.args.run.now.words.items))
    (c.params_of.ensures ∙ ap (λ x. length (params x)) (some_eq (sym c.block-block.ensures ∙ is)))
