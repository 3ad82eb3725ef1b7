-- When a revision of the machine of code is one of the calculus, between two legs. Handles are
-- paths.
--   run_of       what the machine runs: the code of a program, with its input and share
--   IsTrap       the same trap
--   IsGiven      the place behind a Fork or TryJoin, which gives a word
--   IsAtWork     the code stands as a running revision does, up to the one instruction that takes
--                what a Fork or TryJoin gave
--   IsSame       both at work; both done, or both trapped alike, with the same locations, fuel,
--                forks, list, text and line
use Rattle.std.specs.Prelude.{◌≡◌, ◌⊎◌, ℕ, suc, Bool, true, false, Option, Some, None, slice_get}
use Rattle.rev_num.specs.Path.{Path}
use Rattle.rev_num.specs.declared.outcome.Trap.{Trap}
use Rattle.revision_calculus.specs.Program.{Setting}
use Rattle.revision_calculus.specs.State as source
use Rattle.revision_calculus.specs.State.{Local}
use Rattle.rev_code.specs.declared.code.Instr.{Instr}
use Rattle.rev_code.specs.declared.code.Instr.TheVariants as i
use Rattle.rev_code.specs.declared.code.CodeBlock.{CodeBlock}
use Rattle.rev_code.specs.State.{State}
use Rattle.rev_code.specs.Step.{Steps}
use Rattle.code_generation.specs.Generated.{code_of}
use Rattle.expression_meaning.specs.States.{IsShared, StandsAt}
use Rattle.program_meaning.specs.Steps.{Few}
use Rattle.program_meaning.specs.StatementLaws.{tables}
use Rattle.code_machine.specs.Local as code
use Rattle.code_machine.specs.Local.{CodeRun, running, done, trapped}

abbrev pub run_of : Setting → CodeRun
run_of s = record { code = code_of s.program; inputs = s.inputs; share = s.share }

-- a revision without an origin trapped itself
abbrev pub origin_at : Path → Option Path → Path
origin_at r None = r
origin_at r (Some q) = q

-- of the revision at r
pub record IsTrap (r : Path) (t : Trap) (u : code.Trap Path) : Type 0 where
  pub cause : t.cause ≡ u.cause
  pub line : t.line ≡ u.line
  pub origin : t.origin ≡ origin_at r u.origin

-- a Fork or TryJoin gives a word that the next instruction takes
abbrev pub is_giver : Instr → Bool
is_giver (i.Fork n) = true
is_giver i.TryJoin = true
is_giver _ = false

pub record IsGiven (s : Setting) (c : State Path) : Type 0 where
  pub block : CodeBlock
  pub is : slice_get (code_of s.program).blocks c.block ≡ Some block
  pub giver : Instr
  pub at : ℕ
  pub behind : c.at ≡ suc at
  pub there : slice_get block.instrs at ≡ Some giver
  pub gives : is_giver giver ≡ true

module _ (s : Setting) where
  pub record IsAtWork (l : Local) (c : State Path) : Type 0 where
    pub phase : l.phase ≡ source.running
    pub on : State Path
    pub steps : Steps (tables s).setting c on
    pub few : Few (tables s) c on
    pub given : (c ≡ on) ⊎ IsGiven s c
    pub stands : StandsAt s (tables s) l on

  pub data IsSame (r : Path) (l : Local) (k : code.Local Path) : Type 0 where
    works : k.phase ≡ running → IsAtWork l k.state → IsSame r l k
    is_done : k.phase ≡ done → l.phase ≡ source.done → IsShared l k.state → IsSame r l k
    is_trapped : (t : Trap) (u : code.Trap Path) → k.phase ≡ trapped u
        → l.phase ≡ source.trapped t → IsTrap r t u → IsShared l k.state → IsSame r l k
