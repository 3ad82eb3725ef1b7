-- What the verifier knows of an instruction when it looks at the stack.
use Rattle.std.specs.Prelude.{◌≡◌, ℕ, ◌<◌, List, length}
use Rattle.rev_code.specs.declared.code.Code.{Code}
use Rattle.rev_code.specs.declared.code.CodeBlock.{CodeBlock}
use Rattle.rev_code.specs.declared.code.Instr.{Instr}
use Rattle.code_rules.specs.Shapes.{Shape, takes, begins, shape_after}
use Rattle.code_verifier.specs.declared.stack.Effect.{Effect}
use Rattle.code_verifier.specs.ShapesByNumber.{Extends, shape_at}

-- of an instruction at the shape of this number, where these are the shapes before and behind
pub record IsEffect (code : Code) (b : CodeBlock) (old : List Shape) (id : ℕ) (x : Instr) (new : List Shape)
    (effect : Effect) : Type 0 where
  pub extends : Extends old new
  pub words : effect.words ≡ length (shape_at old id)
  pub wanted : effect.wanted ≡ length (takes code b (shape_at old id) x)
  pub found : effect.found ≡ begins (takes code b (shape_at old id) x) (shape_at old id)
  pub within : effect.after < length new
  pub after : shape_at new effect.after ≡ shape_after code b (shape_at old id) x
