-- What is written of a trace has the form of a trace text.
--
-- `TracesHaveForm`: of each program that the checker accepts, where its numbers and the inputs have
-- 64 bits, with any fuel that a run can be given; `TextsAreWritten`: and so it is of each program
-- of a text.
use Rattle.std.specs.Prelude.{◌≤◌, ℕ, List, length}
use Rattle.rev_num.specs.Path.{Path}
use Rattle.rev_num.specs.Limits.{most_fuel}
use Rattle.rev_syntax.specs.Tokens.{IsTokens}
use Rattle.rev_syntax.specs.Trees.{ProgramTree}
use Rattle.rev_syntax.specs.declared.token.Token.{Token}
use Rattle.rev_parse.specs.SmallTree.{most_bytes}
use Rattle.rev_parse.specs.Verdicts.{IsProgram}
use Rattle.block_run.specs.Agreement.{AreInputs}
use Rattle.revision_machine.specs.Machine.{Global, Complete}
use Rattle.revision_calculus.specs.Program.{Setting}
use Rattle.revision_calculus.specs.State.{Local}
use Rattle.revision_calculus.specs.Calculus.{calculus}
use Rattle.revision_calculus.specs.Complete.{start_of}
use Rattle.revision_calculus.specs.Kinded.{IsAccepted}
use Rattle.trace_diagram.specs.Traces as form
use Rattle.trace_diagram.specs.declared.diagram.Trace.{Trace}
use Rattle.audit_rules.specs.Traces.{IsTrace}
use Rattle.program_texts.specs.Written.{IsWritten}

-- the trace of the end of every complete run has the form of a trace text
abbrev pub TracesHaveForm : Type 0
TracesHaveForm =
    (s : Setting) (fuel : ℕ) → IsAccepted s.program → IsWritten s.program → AreInputs s.inputs → fuel ≤ most_fuel
    → (rs : List Path) (g : Global Local) (t : Trace) → Complete (calculus s) (start_of s fuel) rs g
    → IsTrace s g t.parts
    → form.IsTrace t

-- a program of a text that is not too long is written so
abbrev pub TextsAreWritten : Type 0
TextsAreWritten =
    (text : List ℕ) (ts : List Token) (p : ProgramTree) → IsTokens text ts → length text ≤ most_bytes
    → IsProgram text ts p
    → IsWritten p
