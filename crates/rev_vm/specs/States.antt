-- The states and ends for which values stand, as functions of the values.
--   state_at      the state of a running revision
--   start_state   the state of a revision before its first leg
--   before_join   the state of a joiner, whose list has its join already
--   end_for       the end of a revision that left this end value
--   joined_at     what becomes of a joiner of a revision that left this end value
--   is_by_join    a join made the trap with which a revision ended
use Rattle.std.specs.Prelude.{ℕ, Bool, false, List, [], ◌∷◌, map, Option, Some, None, slice_get}
use Rattle.rev_num.specs.declared.value.ValueKind.{ValueKind}
use Rattle.rev_code.specs.declared.code.CodeBlock.{CodeBlock}
use Rattle.rev_code.specs.Words.{Word}
use Rattle.rev_code.specs.State.{State}
use Rattle.rev_code.specs.Step.{first_locals, params}
use Rattle.code_rules.specs.Shapes.{kind_or_int}
use Rattle.code_soundness.specs.Typed.{location_kinds}
use Rattle.version_map.specs.declared.delta.Delta.{Delta}
use Rattle.version_map.specs.declared.end.EndValue.{EndValue}
use Rattle.version_map.specs.declared.end.Finish.{Finish}
use Rattle.version_map.specs.declared.end.Finish.TheVariants as finish
use Rattle.version_map.specs.declared.end.Written.{Written}
use Rattle.version_map.specs.Composing.{Entry}
use Rattle.version_map.specs.Deltas.{at}
use Rattle.version_map.specs.Endings.{of_join}
use Rattle.version_map.specs.Overlay as overlay
use Rattle.code_machine.specs.Local.{CodeRun, Local, Phase, done, trapped, End}
use Rattle.code_machine.specs.Joining.{join_in}
use Rattle.leg_run.specs.declared.revision.Run.{Run}
use Rattle.leg_run.specs.Standing.{locations_from, state_of, word_as, words_as}

-- ---- states

abbrev pub state_at :
    CodeRun → Run → (delta : Delta) → (base : ℕ → ℕ) → (first : Delta) → State ℕ
state_at g run delta base first =
    state_of g.code run (overlay.under delta base) (at first)

-- the locals of a first frame, whose arguments have these words
abbrev pub locals_from : Option CodeBlock → List ℕ → List (Word ℕ)
locals_from None words = []
locals_from (Some b) words = first_locals b (words_as (params b) words)

abbrev pub start_state : CodeRun → (block : ℕ) → (words : List ℕ) → (base : ℕ → ℕ) → (fuel : ℕ) → State ℕ
start_state g n words base fuel = record {
  block = n;
  at = 0;
  locals = locals_from (slice_get g.code.blocks n) words;
  stack = [];
  below = [];
  locations = locations_from 0 (location_kinds g.code.vars) base (λ l. None);
  fuel = fuel;
  forks = 0;
  listed = [];
  text = [];
  line = 0;
}

abbrev pub all_but_last : {A : Type 0} → List A → List A
all_but_last [] = []
all_but_last (x ∷ []) = []
all_but_last (x ∷ y ∷ ys) = x ∷ all_but_last (y ∷ ys)

abbrev pub before_join :
    CodeRun → Run → (delta : Delta) → (base : ℕ → ℕ) → (first : Delta) → State ℕ
before_join g run delta base first =
    let c = state_at g run delta base first in record c { listed = all_but_last c.listed }

-- ---- ends

-- a location beyond the last has no kind, and that of ints stands for it
abbrev pub entry_as : List ValueKind → Written → Entry (Word ℕ)
entry_as kinds w =
    let kind = kind_or_int (slice_get kinds w.location) in
    record { location = w.location; value = word_as kind w.value; root = word_as kind w.root }

abbrev pub phase_as : Finish → Phase ℕ
phase_as finish.Done = done
phase_as (finish.Trapped u) =
    trapped (record { cause = u.cause; line = u.line; origin = u.origin })

abbrev pub end_for : CodeRun → EndValue → End ℕ
end_for g v = record {
  written = map (entry_as (location_kinds g.code.vars)) v.written;
  text = v.text;
  fuel = v.fuel;
  phase = phase_as v.finish;
}

abbrev pub joined_at : CodeRun → State ℕ → (try : Bool) → (on : ℕ) → EndValue → Local ℕ
joined_at g c try on v = join_in g c try on (end_for g v) (end_for g v).phase

abbrev pub is_by_join : Finish → Bool
is_by_join finish.Done = false
is_by_join (finish.Trapped u) = of_join u
