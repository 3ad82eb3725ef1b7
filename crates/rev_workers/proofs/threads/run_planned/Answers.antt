-- Answers of run_planned: merges by kernels may be sent to threads and shared by them, as both of their parts may be.
use denote.Param.Send.{sendable}
use denote.Param.Object.{Vt, ghosts_of}
use Rattle.fun_run.proofs.merges.BlockMerges.TheSendSync as blocks
use Rattle.rev_workers.specs.contracts.threads.run_planned.dyn-1 as one
use Rattle.rev_workers.specs.contracts.threads.run_planned.dyn-2 as two
use Rattle.rev_workers.proofs.SharedMerges.{merges_send, merges_sync}
use Rattle.rev_workers.proofs.threads.run_planned.Goals as goal

pub run_over-requires-send-M : goal.run_over-requires-send-M
run_over-requires-send-M g c κs within =
    let all = merges_send (Vt (one.slots g.row.G g.row.R) g.dyn-1.0) (Vt (two.slots g.row.G g.row.R) g.dyn-2.0)
    (ghosts_of (one.slots g.row.G g.row.R) g.dyn-1.0 g.dyn-1.1)
    (ghosts_of (two.slots g.row.G g.row.R) g.dyn-2.0 g.dyn-2.1)
    g.dyn-1.3 g.dyn-2.3 (search sendable) (search sendable) in
    let send = blocks.the_send in
    search (sendable, all, send) depth 5

pub run_over-requires-sync-M : goal.run_over-requires-sync-M
run_over-requires-sync-M g c κs within =
    let all = merges_sync (Vt (one.slots g.row.G g.row.R) g.dyn-1.0) (Vt (two.slots g.row.G g.row.R) g.dyn-2.0)
    (ghosts_of (one.slots g.row.G g.row.R) g.dyn-1.0 g.dyn-1.1)
    (ghosts_of (two.slots g.row.G g.row.R) g.dyn-2.0 g.dyn-2.1)
    g.dyn-1.3 g.dyn-2.3 (search sendable) (search sendable) in
    let sync = blocks.the_sync in
    search (sendable, all, sync) depth 5
