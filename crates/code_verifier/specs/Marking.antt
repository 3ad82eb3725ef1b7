-- What is known on arrival, by numbers of shapes.
use Rattle.std.specs.Prelude.{◌≡◌, ℕ, ◌<◌, ◌≤◌, Bool, false, ◌&&◌, not, if◌then◌else◌, List, [], length, Option, Some, None, slice_get, slice_set, nat_lt}
use Rattle.rev_code.specs.declared.code.Code.{Code}
use Rattle.rev_code.specs.declared.code.CodeBlock.{CodeBlock}
use Rattle.code_rules.specs.Shapes.{Shape, same_shape}
use Rattle.code_rules.specs.Pass as pass
use Rattle.code_rules.specs.Pass.{Note, Passed, jumped}
use Rattle.code_verifier.specs.declared.mark.Mark.{Mark}
use Rattle.code_verifier.specs.ShapesByNumber.{shape_at}

abbrev pub InRange : List Shape → Option Mark → Type 0
InRange shapes o = (m : Mark) → o ≡ Some m → m.shape < length shapes

abbrev pub AllInRange : List Shape → List (Option Mark) → Type 0
AllInRange shapes ahead = (to : ℕ) (m : Mark) → slice_get ahead to ≡ Some (Some m) → m.shape < length shapes

abbrev pub met : List Shape → Option Mark → Option Mark → Option Mark
met shapes None None = Some (record { shape = 0; paid = false })
met shapes None (Some n) = Some n
met shapes (Some m) None = Some m
met shapes (Some m) (Some n) =
    if same_shape (shape_at shapes m.shape) (shape_at shapes n.shape)
    then Some (record { shape = m.shape; paid = m.paid && n.paid }) else None

abbrev pub other_at : List Shape → ℕ → Option (Option Mark) → Bool
other_at shapes after (Some (Some m)) = not (same_shape (shape_at shapes after) (shape_at shapes m.shape))
other_at shapes after (Some None) = false
other_at shapes after None = false

abbrev pub clashes_at : List Shape → List (Option Mark) → ℕ → ℕ → Option ℕ → Bool
clashes_at shapes ahead at after None = false
clashes_at shapes ahead at after (Some to) =
    if nat_lt at to then other_at shapes after (slice_get ahead to) else nat_lt 0 (length (shape_at shapes after))

abbrev pub joined_mark : Option Mark → Mark → Mark
joined_mark None n = n
joined_mark (Some m) n = record { shape = n.shape; paid = m.paid && n.paid }

abbrev pub kept : Option (Option Mark) → Option Mark
kept None = None
kept (Some o) = o

abbrev pub leap : List (Option Mark) → ℕ → Mark → Option ℕ → List (Option Mark)
leap ahead at n None = ahead
leap ahead at n (Some to) =
    if nat_lt at to then slice_set ahead to (Some (joined_mark (kept (slice_get ahead to)) n)) else ahead

-- ---- what marks stand for

pub record IsMark (shapes : List Shape) (m : Mark) (n : Note) : Type 0 where
  pub within : m.shape < length shapes
  pub shape : shape_at shapes m.shape ≡ n.shape
  pub paid : m.paid ≡ n.paid

abbrev pub Marks : List Shape → Option Mark → Option Note → Type 0
Marks shapes None None = Unit {0}
Marks shapes None (Some n) = ⊥
Marks shapes (Some m) None = ⊥
Marks shapes (Some m) (Some n) = IsMark shapes m n

-- behind these instructions
pub record Stands (code : Code) (b : CodeBlock) (done : List Passed) (shapes : List Shape) (ahead : List (Option Mark))
    (last : Option Mark) : Type 0 where
  pub some : 0 < length shapes
  pub empty : shape_at shapes 0 ≡ []
  pub range : AllInRange shapes ahead
  pub long : length ahead ≡ length b.instrs
  pub fallen : Marks shapes last (pass.fallen code b done)
  pub marks : (to : ℕ) (o : Option Mark) → length done ≤ to → slice_get ahead to ≡ Some o
      → Marks shapes o (jumped code b to done)
