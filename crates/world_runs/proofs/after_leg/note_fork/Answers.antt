-- Answers of note_fork: the queue grows by one, takes forker and child in, and keeps what was ready or waited.
use Rattle.world_runs.proofs.after_leg.note_fork.Goals as goal

pub returns-clause-kept : goal.returns-clause-kept
returns-clause-kept c = record {
  ready = λ n h.
      c.in_ok-enter-2.ensures.kept.ready n (c.in_ok-enter.ensures.kept.ready n (c.in_ok-grow.ensures.kept.ready n h));
  waits = λ on n h.
      c.in_ok-enter-2.ensures.kept.waits on n
      (c.in_ok-enter.ensures.kept.waits on n (c.in_ok-grow.ensures.kept.waits on n h));
}
