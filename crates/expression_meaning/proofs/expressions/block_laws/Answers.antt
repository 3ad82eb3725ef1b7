-- Answers of block_laws: the body's code runs to its value, and the Return behind it gives that of the block.
use Rattle.expression_meaning.proofs.Blocks.{fun_gives, merge_gives}
use Rattle.expression_meaning.proofs.expressions.block_laws.Goals as goal

pub returns : goal.returns
returns c = record {
  funs = λ code before at n names fs ps t body is here. fun_gives code before at n names fs ps t body is here;
  merges = λ code before at n names fs m j root body is here.
      merge_gives code before at n names fs m j root body is here;
}
