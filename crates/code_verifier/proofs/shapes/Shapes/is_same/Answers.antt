-- Answers of Shapes::is_same: no two nodes have one shape, so two shapes are equal where their numbers are.
use Rattle.std.proofs.Common.{◌∙◌, ap}
use Rattle.code_rules.specs.Shapes.{same_shape}
use Rattle.code_verifier.specs.ShapesByNumber.{shape_at}
use Rattle.code_verifier.proofs.Tries.{same_number, view_within}
use Rattle.code_verifier.proofs.shapes.Shapes.is_same.Goals as goal

pub returns : goal.returns
returns c =
    same_number c.self.inside.nodes.items c.self.invariant c.args.a c.args.b
    (view_within c.self.inside.nodes.items c.args.self.now c.args.a c.self.view_is c.requires.first)
    (view_within c.self.inside.nodes.items c.args.self.now c.args.b c.self.view_is c.requires.second)
    ∙ ap (λ y. same_shape (shape_at y c.args.a) (shape_at y c.args.b)) c.self.view_is
