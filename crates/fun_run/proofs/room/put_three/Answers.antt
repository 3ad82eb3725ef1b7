-- Answers of put_three: three writes at the front of words that are three at least make the first three words.
use Rattle.fun_run.proofs.Blocks.{put_three_is}
use Rattle.fun_run.proofs.room.put_three.Goals as goal

pub returns : goal.returns
returns c = put_three_is c.args.words.now c.args.main c.args.join c.args.root c.requires
