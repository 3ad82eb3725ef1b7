-- Answers of block_law: by recursion each statement's code stands before that of the rest, and then what follows.
use Rattle.expression_meaning.proofs.BlockPlaces.{block_follows}
use Rattle.expression_meaning.proofs.places.block_law.Goals as goal

pub returns : goal.returns
returns c = λ s g b outer scope l sp text xs rest stands inside follows.
    block_follows s g b outer scope l sp text xs rest stands inside follows
