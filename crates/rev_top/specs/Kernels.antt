-- By which kernels the run was planned that a call hands out.
--
-- `HasChosen`: for the locations of a program; `HasChosenIn`: of the program that a text is;
-- `KernelsOf`: of the program
-- of the call. Nobody has to believe this for what is written: whatever the kernels, that is the same.
use Rattle.std.specs.Prelude.{ℕ, List, ◌≡◌, Option, Some, None, Ok}
use Rattle.rev_io.specs.Stream.{Stream}
use Rattle.rev_words.specs.Load.{load_text}
use Rattle.rev_words.specs.declared.Mode.{Mode}
use Rattle.rev_words.specs.declared.Mode.TheVariants as modes
use Rattle.rev_words.specs.declared.Words.{Words}
use Rattle.rev_syntax.specs.Trees.{Expression, ProgramTree}
use Rattle.typed_programs.specs.Layout.{variables}
use Rattle.revision_calculus.specs.Join.{merges_of}
use Rattle.kernel_choices.specs.Choices.{AreChoices}
use Rattle.thread_runs.specs.declared.ran.Ran.{Ran}
use Rattle.mode_reports.specs.Answer.{Given, reads_of}
use Rattle.mode_reports.specs.Texts.{Checks}

-- for each location of the program the run was given the least place of a kernel with the definition of its merge
abbrev pub HasChosen : ProgramTree → List Expression → Option Ran → Type 0
HasChosen p kernels None = Unit {0}
HasChosen p kernels (Some r) = AreChoices p kernels (merges_of (variables p)) r.choices.items

-- the same of the program that the text is, which keeps all rules
pub record IsChosenIn (text : List ℕ) (kernels : List Expression) (r : Ran) : Type 0 where
  pub program : ProgramTree
  pub checked : Checks text (Ok program)
  pub chosen : AreChoices program kernels (merges_of (variables program)) r.choices.items

abbrev pub HasChosenIn : List ℕ → List Expression → Option Ran → Type 0
HasChosenIn text kernels None = Unit {0}
HasChosenIn text kernels (Some r) = IsChosenIn text kernels r

-- the text that is run: the one that `load` makes, and else what was read
abbrev pub text_of : Mode → Words → List ℕ → List ℕ
text_of modes.Load w read = load_text w.seed w.size
text_of m w read = read

-- the words have a reading, the source gave such a text, and the run was planned by the kernels that have the
-- definitions of its merges
pub record IsPlannedByCall (words : Option Words) (old new : Stream) (kernels : List Expression) (r : Ran)
    : Type 0 where
  pub word : Words
  pub said_by : words ≡ Some word
  pub read : List ℕ
  pub given : Given (reads_of word.mode) old new (Ok read)
  pub planned : IsChosenIn (text_of word.mode word read) kernels r

-- of what a call hands out
abbrev pub KernelsOf : Option Words → Stream → Stream → List Expression → Option Ran → Type 0
KernelsOf words old new kernels None = Unit {0}
KernelsOf words old new kernels (Some r) = IsPlannedByCall words old new kernels r
