-- Answers of Shapes::push: the node above is known or is a new one behind all, so that each shape has one number.
use Rattle.std.proofs.Common.{◌∙◌, sym, refl, arith}
use Rattle.code_verifier.proofs.Tries.{len_within, view_within, get_or_some, node_fits}
use Rattle.code_verifier.proofs.Growing.{still_trie, is_pushed, is_found}
use Rattle.code_verifier.proofs.shapes.Shapes.push.Goals as goal

pub index-requires : goal.index-requires
index-requires c =
    len_within c.self.inside.nodes.items c.args.self.now c.args.id c.self.inside.nodes.len c.self.inside.nodes.ok.0
    c.self.view_is c.requires

pub returns-then-known-ne0 : goal.returns-then-known-ne0
returns-then-known-ne0 c =
    is_found c.self.inside.nodes.items c.self.invariant c.args.self.now c.self.view_is c.args.id c.args.kind
    c.index.result.now
    (get_or_some c.self.inside.nodes.items c.args.id c.index.result.now
    (view_within c.self.inside.nodes.items c.args.self.now c.args.id c.self.view_is c.requires) c.index.ensures)
    c.above-known.result c.above-known.ensures c.if-known-ne0.true

pub overflow_add-node : goal.overflow_add-node
overflow_add-node c =
    let f = node_fits c.self.inside.nodes.items c.self.invariant c.args.self.now c.self.view_is c.args.id c.requires
    c.index.result.now c.index.ensures in
    let i = len_within c.self.inside.nodes.items c.args.self.now c.args.id c.self.inside.nodes.len
    c.self.inside.nodes.ok.0 c.self.view_is c.requires in
    let o = c.self.inside.nodes.ok.1 in
    let s = c.self.inside.nodes.small in
    omega (arith, f, i, o, s)

pub index_mut-requires : goal.index_mut-requires
index_mut-requires c =
    let i = len_within c.self.inside.nodes.items c.args.self.now c.args.id c.self.inside.nodes.len
    c.self.inside.nodes.ok.0 c.self.view_is c.requires in
    let l = c.in_ok-push.ensures.len in
    omega (arith, i, l)

pub invariant_of-self-2 : goal.invariant_of-self-2
invariant_of-self-2 c =
    still_trie c.self.inside.nodes.items c.self.invariant c.args.self.now c.self.view_is c.args.id c.args.kind
    c.index.result.now (get_or_some c.self.inside.nodes.items c.args.id c.index.result.now
    (view_within c.self.inside.nodes.items c.args.self.now c.args.id c.self.view_is c.requires) c.index.ensures)
    (sym c.above-known.ensures ∙ c.if-known-ne0.false)
    c.push.new.self.items c.new.result c.with_above.result c.len-to.result c.in_ok-push.ensures.items c.new.ensures
    (c.len-to.ensures ∙ c.self.inside.nodes.ok.0) c.with_above.ensures

pub returns : goal.returns
returns c =
    is_pushed c.self.inside.nodes.items c.self.invariant c.args.self.now c.self.view_is c.args.id c.args.kind
    c.index.result.now (get_or_some c.self.inside.nodes.items c.args.id c.index.result.now
    (view_within c.self.inside.nodes.items c.args.self.now c.args.id c.self.view_is c.requires) c.index.ensures)
    (sym c.above-known.ensures ∙ c.if-known-ne0.false)
    c.push.new.self.items c.new.result c.with_above.result c.len-to.result c.in_ok-push.ensures.items c.new.ensures
    (c.len-to.ensures ∙ c.self.inside.nodes.ok.0) c.with_above.ensures
    _ refl
