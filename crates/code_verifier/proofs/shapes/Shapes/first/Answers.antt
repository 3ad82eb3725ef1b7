-- Answers of Shapes::first: a node of depth zero is the empty shape, and any other keeps the kind on top.
use Rattle.code_verifier.proofs.Tries.{len_within, no_first, some_first}
use Rattle.code_verifier.proofs.shapes.Shapes.first.Goals as goal

pub index-node-requires : goal.index-node-requires
index-node-requires c =
    len_within c.self.inside.nodes.items c.args.self.now c.args.id c.self.inside.nodes.len c.self.inside.nodes.ok.0
    c.self.view_is c.requires

pub returns-then-node-eq0 : goal.returns-then-node-eq0
returns-then-node-eq0 c =
    no_first c.self.inside.nodes.items c.self.invariant c.args.self.now c.self.view_is c.args.id c.requires
    c.index-node.result.now c.index-node.ensures c.if-node-eq0.true

pub returns-else-node-eq0 : goal.returns-else-node-eq0
returns-else-node-eq0 c =
    some_first c.self.inside.nodes.items c.self.invariant c.args.self.now c.self.view_is c.args.id c.requires
    c.index-node.result.now c.index-node.ensures c.if-node-eq0.false
