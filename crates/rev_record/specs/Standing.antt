-- For what an entry stands: handles are paths in both.
--   Has          a list has this element
--   value        the value of a word
--   kept, given  a location with a word's value, and a position of the input with a number
--   HasReads     an entry has what was read, each with what was there, and nothing else
--   IsLeafEnd    how a revision ended, by itself
--   StandsFor    an entry stands for what is kept of a leaf revision; the roots of its writes are not kept
--   EndFits      what was written stands in order, and has the kinds of the variables
use Rattle.std.specs.Prelude.{◌≡◌, ℕ, ℤ, List, map, Some, None, slice_get}
use Rattle.rev_num.specs.Path.{Path}
use Rattle.rev_num.specs.declared.value.Value.{Value}
use Rattle.rev_code.specs.declared.code.Code.{Code}
use Rattle.rev_code.specs.Words.{Word}
use Rattle.code_soundness.specs.Typed.{location_kinds}
use Rattle.version_map.specs.Composing.{Entry}
use Rattle.code_machine_laws.specs.Reads as reads
use Rattle.code_machine_laws.specs.Reads.{Read}
use Rattle.code_machine.specs.Ends.{AreEntries, Ascend}
use Rattle.code_machine.specs.Local.{Phase, running, done, trapped, End}
use Rattle.code_machine.specs.Outcome.{value_of}
use Rattle.code_memos.specs.Leaf.{Known}
use Rattle.rev_record.specs.declared.entry.Given.{Given}
use Rattle.rev_record.specs.declared.entry.KeptValue.{KeptValue}
use Rattle.rev_record.specs.declared.entry.LeafEnd.{LeafEnd}
use Rattle.rev_record.specs.declared.entry.LeafEnd.TheVariants as leaf
use Rattle.rev_record.specs.declared.entry.LeafEntry.{LeafEntry}

abbrev pub Has : {A : Type 0} → List A → A → Type 0
Has xs x = (i : ℕ) × (slice_get xs i ≡ Some x)

abbrev pub value : Word Path → Value
value w = value_of (λ p. p) w

abbrev pub kept : ℕ → Word Path → KeptValue
kept n w = record { location = n; value = value w }

abbrev pub given : ℕ → ℤ → Given
given n z = record { position = n; number = z }

pub record HasReads (k : LeafEntry) (rs : List (Read Path)) : Type 0 where
  pub locations : (n : ℕ) (w : Word Path) → Has rs (reads.location n w) → Has k.locations (kept n w)
  pub no_location : (x : KeptValue) → Has k.locations x
      → (w : Word Path) × (x.value ≡ value w) × Has rs (reads.location x.location w)
  pub positions : (n : ℕ) (z : ℤ) → Has rs (reads.input n z) → Has k.inputs (given n z)
  pub no_position : (x : Given) → Has k.inputs x → Has rs (reads.input x.position x.number)
  pub counts : (n : ℕ) → Has rs (reads.count n) → k.count ≡ Some n
  pub no_count : (n : ℕ) → k.count ≡ Some n → Has rs (reads.count n)

abbrev pub IsLeafEnd : Phase Path → LeafEnd → Type 0
IsLeafEnd done leaf.Done = Unit {0}
IsLeafEnd (trapped t) (leaf.Trapped cause line) = (t.cause ≡ cause) × (t.line ≡ line) × (t.origin ≡ None)
IsLeafEnd done (leaf.Trapped cause line) = ⊥
IsLeafEnd (trapped t) leaf.Done = ⊥
IsLeafEnd running e = ⊥

abbrev pub kept_write : Entry (Word Path) → KeptValue
kept_write x = kept x.location x.value

pub record StandsFor (k : LeafEntry) (e : Known) : Type 0 where
  pub path : k.path ≡ e.path
  pub block : k.block ≡ e.block
  pub args : k.args ≡ map value e.args
  pub fuel : k.fuel ≡ e.fuel
  pub reads : HasReads k e.reads
  pub written : k.written ≡ map kept_write e.end.written
  pub text : k.text ≡ e.end.text
  pub rest : k.rest ≡ e.end.fuel
  pub end : IsLeafEnd e.end.phase k.end

pub record EndFits (code : Code) (e : End Path) : Type 0 where
  pub fit : AreEntries (location_kinds code.vars) e.written
  pub ascend : Ascend 0 e.written
