-- What the numbers of shapes stand for.
use Rattle.std.specs.Prelude.{◌≡◌, ◌≢◌, ℕ, ◌<◌, ◌≤◌, List, [], ◌∷◌, ◌++◌, length, Some, None, slice_get}
use Rattle.rev_num.specs.declared.value.ValueKind.{ValueKind}
use Rattle.rev_num.specs.declared.value.ValueKind.TheVariants as k
use Rattle.code_rules.specs.Shapes.{Shape}
use Rattle.code_verifier.specs.declared.node.Node.{Node}
use Rattle.code_verifier.specs.ShapesByNumber.{shape_at}

-- the shape of a node, behind these: the first is empty
abbrev pub shape_on : List Shape → Node → Shape
shape_on [] n = []
shape_on (s ∷ ss) n = n.kind ∷ shape_at (s ∷ ss) n.below

abbrev pub grown : List Shape → List Node → List Shape
grown done [] = done
grown done (n ∷ ns) = grown (done ++ shape_on done n ∷ []) ns

abbrev pub shapes_of : List Node → List Shape
shapes_of ns = grown [] ns

abbrev pub above : ValueKind → Node → ℕ
above k.Int n = n.above_int
above k.Bool n = n.above_bool
above k.Rev n = n.above_rev

abbrev pub above_at : ValueKind → List Node → ℕ → ℕ
above_at kind ns id = elim (slice_get ns id) [ None ↦ 0 | Some n ↦ above kind n ]

pub record IsNode (ns : List Node) (id : ℕ) (n : Node) : Type 0 where
  pub below : n.below < id
  pub shape : shape_at (shapes_of ns) id ≡ n.kind ∷ shape_at (shapes_of ns) n.below
  -- it is found from below
  pub found : above_at n.kind ns n.below ≡ id

pub record IsTrie (ns : List Node) : Type 0 where
  pub some : 0 < length ns
  pub root : shape_at (shapes_of ns) 0 ≡ []
  pub bottom : (n : Node) → slice_get ns 0 ≡ Some n → n.below ≡ 0
  pub each : (id : ℕ) (n : Node) → slice_get ns id ≡ Some n → 0 < id → IsNode ns id n
  -- what is found has one kind more
  pub more : (kind : ValueKind) (id : ℕ) → above_at kind ns id ≢ 0 → (above_at kind ns id < length ns)
      × (shape_at (shapes_of ns) (above_at kind ns id) ≡ kind ∷ shape_at (shapes_of ns) id)
  pub depth : (id : ℕ) (n : Node) → slice_get ns id ≡ Some n → (n.depth ≡ length (shape_at (shapes_of ns) id))
      × (n.depth ≤ id)

-- ---- changes of a node

abbrev pub new_node : ValueKind → ℕ → ℕ → Node
new_node kind below depth =
    record { kind = kind; below = below; depth = depth; above_int = 0; above_bool = 0; above_rev = 0 }

abbrev pub with_above : ValueKind → ℕ → Node → Node
with_above k.Int to n = record n { above_int = to }
with_above k.Bool to n = record n { above_bool = to }
with_above k.Rev to n = record n { above_rev = to }
