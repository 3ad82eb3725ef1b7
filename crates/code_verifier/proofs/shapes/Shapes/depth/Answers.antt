-- Answers of Shapes::depth: a node keeps the length of its shape, and there are too few nodes for a great one.
use Rattle.std.proofs.Common.{arith}
use Rattle.code_verifier.proofs.Tries.{len_within, node_fits, node_depth}
use Rattle.code_verifier.proofs.shapes.Shapes.depth.Goals as goal

pub index-requires : goal.index-requires
index-requires c =
    len_within c.self.inside.nodes.items c.args.self.now c.args.id c.self.inside.nodes.len c.self.inside.nodes.ok.0
    c.self.view_is c.requires

pub returns-clause-depth : goal.returns-clause-depth
returns-clause-depth c =
    node_depth c.self.inside.nodes.items c.self.invariant c.args.self.now c.self.view_is c.args.id c.requires
    c.index.result.now c.index.ensures

pub returns-clause-small : goal.returns-clause-small
returns-clause-small c =
    let f = node_fits c.self.inside.nodes.items c.self.invariant c.args.self.now c.self.view_is c.args.id c.requires
    c.index.result.now c.index.ensures in
    let i = len_within c.self.inside.nodes.items c.args.self.now c.args.id c.self.inside.nodes.len
    c.self.inside.nodes.ok.0 c.self.view_is c.requires in
    let o = c.self.inside.nodes.ok.1 in
    let m = c.self.inside.nodes.small in
    omega (arith, f, i, o, m)
