-- The parts of a source that holds the text of a program and a trace behind it.
--   BeginsTrace        the first line of the bytes is `revisions trace 1`
--   IsCutAt            such a line stands behind whole lines
--   Divides            the text before the first such line, and the trace from it on
--   SourcesDivideOnce  each source has one text and one trace
use Rattle.std.specs.Prelude.{◌≡◌, ◌⊎◌, ◌≤◌, ℕ, List, [], ◌++◌, length}
use Rattle.trace_diagram.specs.Traces.{IsWholeLines, ended, first_line}

-- the last line of all may have no line feed
abbrev pub BeginsTrace : List ℕ → Type 0
BeginsTrace bytes = (bytes ≡ first_line) ⊎ ((rest : List ℕ) × (bytes ≡ ended first_line ++ rest))

pub record IsCutAt (all front back : List ℕ) : Type 0 where
  pub is : all ≡ front ++ back
  pub whole : IsWholeLines front
  pub begins : BeginsTrace back

-- all is text where no line begins a trace
pub data Divides (all text trace : List ℕ) : Type 0 where
  with_trace : IsCutAt all text trace
      → ((front back : List ℕ) → IsCutAt all front back → length text ≤ length front)
      → Divides all text trace
  without_trace : ((front back : List ℕ) → IsCutAt all front back → ⊥)
      → text ≡ all → trace ≡ [] → Divides all text trace

pub record DividesOnce (all : List ℕ) : Type 0 where
  pub text : List ℕ
  pub trace : List ℕ
  pub divides : Divides all text trace
  pub only : (t u : List ℕ) → Divides all t u → (t ≡ text) × (u ≡ trace)

abbrev pub SourcesDivideOnce : Type 0
SourcesDivideOnce = (all : List ℕ) → DividesOnce all
