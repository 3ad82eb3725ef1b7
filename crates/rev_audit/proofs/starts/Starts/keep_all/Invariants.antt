-- Loops of Starts::keep_all: each child is still to be kept or is held, each begins there, and the starts only grow.
use Rattle.std.proofs.Common.{◌⊎◌, length}
use Rattle.typed_programs.specs.Least.{Among}
use Rattle.revision_state.specs.Views.{given}
use Rattle.rev_audit.specs.Own.{BeginsAt}
use Rattle.rev_audit.specs.Sweep.{Grows, Holds, IsStarts}
use Rattle.rev_audit.proofs.starts.Starts.keep_all.Given as goal

abbrev pub invariant-loop-child : goal.invariant-loop-child
invariant-loop-child l = record {
  kept : IsStarts (given l.stated.setting) l.stated.fuel l.stated.parts.now l.self.starts.items l.self.unstated;
  grows : Grows l.initial.self.starts.items l.self.starts.items l.initial.self.unstated l.self.unstated;
  begin : (x : _) → Among l.children.items x
      → BeginsAt (given l.stated.setting) l.stated.fuel l.stated.parts.now x.path x.local;
  hold : (x : _) → Among l.initial.children.items x
      → Among l.children.items x
      ⊎ Holds (given l.stated.setting) l.stated.fuel l.stated.parts.now (length l.stated.parts.now) l.self.starts.items
      l.self.unstated x;
}

abbrev pub decreases-loop-child : goal.decreases-loop-child
decreases-loop-child l = length l.children.items
