-- Answers of say: in the modes run, load and order the answer is what their own function says for that mode.
use Rattle.std.proofs.Common.{map}
use Rattle.merge_kernels.specs.Terms.{definition}
use Rattle.rev_words.specs.declared.Mode.TheVariants as modes
use Rattle.rev_top.proofs.Kernels.{in_mode, without}
use Rattle.rev_top.proofs.Rans.{load_in, order_in, run_in}
use Rattle.rev_top.proofs.answer.say.Goals as goal

pub returns-in-Run-clause-says : goal.returns-in-Run-clause-says
returns-in-Run-clause-says g c =
    run_in c.args.words.now c.args.bytes.now c.run.result c.args.words.now.mode c.in-Run.is c.run.ensures.made

pub returns-in-Load-clause-says : goal.returns-in-Load-clause-says
returns-in-Load-clause-says g c =
    load_in c.args.words.now c.args.bytes.now c.load.result c.args.words.now.mode c.in-Load.is c.load.ensures.made

pub returns-in-Order-clause-says : goal.returns-in-Order-clause-says
returns-in-Order-clause-says g c =
    order_in c.args.words.now c.args.bytes.now c.order.result c.args.words.now.mode c.in-Order.is c.order.ensures.made

pub returns-in-Run-clause-kernels : goal.returns-in-Run-clause-kernels
returns-in-Run-clause-kernels g c =
    in_mode c.args.words.now c.args.bytes.now (map (λ k. definition k.def) c.args.kernels.now) c.run.result
    c.args.words.now.mode modes.Run c.in-Run.is c.run.ensures.kernels

pub returns-in-Load-clause-kernels : goal.returns-in-Load-clause-kernels
returns-in-Load-clause-kernels g c =
    in_mode c.args.words.now c.args.bytes.now (map (λ k. definition k.def) c.args.kernels.now) c.load.result
    c.args.words.now.mode modes.Load c.in-Load.is c.load.ensures.kernels

pub returns-in-Order-clause-kernels : goal.returns-in-Order-clause-kernels
returns-in-Order-clause-kernels g c =
    in_mode c.args.words.now c.args.bytes.now (map (λ k. definition k.def) c.args.kernels.now) c.order.result
    c.args.words.now.mode modes.Order c.in-Order.is c.order.ensures.kernels
