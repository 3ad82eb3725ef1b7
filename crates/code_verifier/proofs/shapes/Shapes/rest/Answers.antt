-- Answers of Shapes::rest: the number that a node keeps for what is below is that of its shape without the top.
use Rattle.code_verifier.proofs.Tries.{len_within, below_within, below_shape}
use Rattle.code_verifier.proofs.shapes.Shapes.rest.Goals as goal

pub index-requires : goal.index-requires
index-requires c =
    len_within c.self.inside.nodes.items c.args.self.now c.args.id c.self.inside.nodes.len c.self.inside.nodes.ok.0
    c.self.view_is c.requires

pub returns-clause-within : goal.returns-clause-within
returns-clause-within c =
    below_within c.self.inside.nodes.items c.self.invariant c.args.self.now c.self.view_is c.args.id c.requires
    c.index.result.now c.index.ensures

pub returns-clause-shape : goal.returns-clause-shape
returns-clause-shape c =
    below_shape c.self.inside.nodes.items c.self.invariant c.args.self.now c.self.view_is c.args.id c.requires
    c.index.result.now c.index.ensures
