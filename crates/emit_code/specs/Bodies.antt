-- A body while its code is written: where it stands, and how much more can be numbered.
use Rattle.std.specs.Prelude.{◌<◌, ◌+◌, ◌^◌, ℕ, Bool, true, false, List, [], ◌∷◌, ◌++◌, length, slice_set}
use Rattle.rev_syntax.specs.Trees.{Expression, Statement, StatementForm, Statements, Arms, no_arms, arm}
use Rattle.typed_programs.specs.Limits.{statement_form_lets, statement_lets, statements_lets, arms_lets}
use Rattle.rev_code.specs.declared.code.Instr.{Instr}
use Rattle.rev_code.specs.declared.code.Instr.TheVariants as i
use Rattle.code_generation.specs.Numbers.{Numbers, Scope}
use Rattle.code_generation.specs.Expressions.{expression_size, expression_code}
use Rattle.code_generation.specs.Sizes.{statement_form_size, statement_size, statements_size, arms_size, leap_size, statement_form_prints, statement_prints, statements_prints, arms_prints}
use Rattle.code_generation.specs.Statements.{Spot, in_arm, behind_block, statements_code}
use Rattle.emit_code.specs.declared.body.Body.{Body}

abbrev pub spot_of : Body → Spot
spot_of b = record { at = length b.code.items; local = b.local; layout = b.layout }

-- ---- room

-- so many more instructions, `let`s and prints can be numbered
abbrev pub HasRoom : Body → (size lets prints : ℕ) → Type 0
HasRoom b size lets prints =
    (length b.code.items + size < 2 ^ 32) × (b.local + lets < 2 ^ 8) × (b.layout + prints < 2 ^ 32)

abbrev pub FormFits : Numbers → Body → StatementForm → Type 0
FormFits n b form = HasRoom b (statement_form_size n form) (statement_form_lets form) (statement_form_prints form)

abbrev pub StatementFits : Numbers → Body → Statement → Type 0
StatementFits n b x = HasRoom b (statement_size n x) (statement_lets x) (statement_prints x)

abbrev pub BlockFits : Numbers → Body → Statements → Type 0
BlockFits n b xs = HasRoom b (statements_size n xs) (statements_lets xs) (statements_prints xs)

abbrev pub ArmsFit : Numbers → Body → (has_last : Bool) → Arms → Type 0
ArmsFit n b has_last arms = HasRoom b (arms_size n has_last arms) (arms_lets arms) (arms_prints arms)

-- ---- loops

-- the code behind the loop's body: a jump back to its Charge, and the target of the jump at its test
abbrev pub closed : (test head : ℕ) → List Instr → List Instr
closed test head code = slice_set (code ++ i.Jump head ∷ []) test (i.JumpIfFalse (length code + 1))

-- ---- arms

-- a jump to the end, which has no target yet, where something is behind
abbrev pub leap_or : Bool → List Instr
leap_or true = i.Jump 0 ∷ []
leap_or false = []

abbrev pub place_or : Bool → ℕ → List ℕ
place_or true at = at ∷ []
place_or false at = []

abbrev pub leap_long : Bool → ℕ
leap_long true = 1
leap_long false = 0

-- jumps to one place are written at these places
abbrev pub landed : (ends : List ℕ) → (to : ℕ) → List Instr → List Instr
landed [] to code = code
landed (at ∷ ends) to code = landed ends to (slice_set code at (i.Jump to))

-- an arm, whose jump to the end has no target yet
abbrev pub arm_size : Numbers → (more : Bool) → Expression → Statements → ℕ
arm_size n more test body = expression_size test + 1 + statements_size n body + leap_long more

abbrev pub ArmFits : Numbers → Body → (more : Bool) → Expression → Statements → Type 0
ArmFits n b more test body = HasRoom b (arm_size n more test body) (statements_lets body) (statements_prints body)

abbrev pub arm_code : Numbers → Scope → (more : Bool) → Expression → Statements → Spot → List Instr
arm_code n scope more test body s =
    expression_code n scope test s.at
    ++ i.JumpIfFalse ((behind_block n (in_arm s test) body).at + leap_long more)
    ∷ statements_code n scope body (in_arm s test)
    ++ leap_or more

-- whether something stands behind an arm
abbrev pub more_behind : (has_last : Bool) → (rest : Arms) → Bool
more_behind has_last no_arms = has_last
more_behind has_last (arm test body rest) = true

-- the places of the jumps behind arms to the end
abbrev pub leaps_at : Numbers → (has_last : Bool) → Arms → (at : ℕ) → List ℕ
leaps_at n has_last no_arms at = []
leaps_at n has_last (arm test body rest) at =
    place_or (more_behind has_last rest) (at + (expression_size test + 1) + statements_size n body)
    ++ leaps_at n has_last rest (at + (expression_size test + 1) + statements_size n body + leap_size has_last rest)
