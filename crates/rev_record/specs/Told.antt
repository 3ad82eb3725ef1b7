-- What a machine tells of a leaf revision that has just ended.
--   IsBlank    nothing is noted
--   HasNoted   these marks are noted, and no others
--   IsAlone    a revision ended by itself: no joined one had trapped
--   IsTold     the notes of its reads and its end value are those of this entry
use Rattle.std.specs.Prelude.{◌≡◌, ℕ, is_some, List, [], ◌∷◌, ◌++◌, None}
use Rattle.rev_num.specs.Path.{Path}
use Rattle.rev_code.specs.Words.{Word}
use Rattle.revision_machine.specs.Laws.{IsIn}
use Rattle.revision_machine.specs.Numbered.{number_of}
use Rattle.version_map.specs.Composing.{Entry}
use Rattle.version_map.specs.Deltas.{at}
use Rattle.version_map.specs.declared.end.EndValue.{EndValue}
use Rattle.block_run.specs.declared.notes.ReadMarks.{ReadMarks}
use Rattle.leg_run.specs.Marks.{Mark, marks_of, has_location, has_input, has_count}
use Rattle.code_machine.specs.Local.{CodeRun, Phase, running, done, trapped, of_word}
use Rattle.code_memos.specs.Renaming.{renamed_end}
use Rattle.code_memos.specs.Leaf.{Fresh, Known, IsValid}
use Rattle.rev_vm.specs.Meaning.{IsEnd}

pub record HasNoted (noted : ReadMarks) (ms : List Mark) : Type 0 where
  pub locations_are : (n : ℕ) → is_some (at noted.locations n) ≡ has_location ms n
  pub inputs_are : (n : ℕ) → is_some (at noted.inputs n) ≡ has_input ms n
  pub count_is : noted.count ≡ has_count ms

abbrev pub IsBlank : ReadMarks → Type 0
IsBlank noted = HasNoted noted []

abbrev pub IsAlone : Phase Path → Type 0
IsAlone running = ⊥
IsAlone done = Unit {0}
IsAlone (trapped t) = t.origin ≡ None

-- the handles of what was written
abbrev pub of_values : List (Entry (Word Path)) → List Path
of_values [] = []
of_values (x ∷ xs) = of_word x.value ++ of_values xs

-- the entry is that of a revision that began so
pub record IsTold (g : CodeRun) (t : List Path) (f : Fresh Path) (noted : ReadMarks) (v : EndValue) (e : Known) : Type
    0 where
  pub own : IsValid e e.path f g.inputs
  pub noted_are : HasNoted noted (marks_of e.reads)
  pub end : IsEnd g (renamed_end (number_of t) e.end) v
  pub named : (q : Path) → IsIn q (of_values e.end.written) → IsIn q t
  pub alone : IsAlone e.end.phase
