-- The closures of kernels may be shared by threads, and so may kernels and plans.
--   plan_sync   a plan may be shared, where the closures of its kernels may
use denote.RattleType.{RattleType}
use denote.Ref.{NamedLft}
use denote.Param.Object.{Ghosts, table_of}
use denote.Param.Members.{Mut}
use denote.Param.Sent.{Syncs}
use denote.Param.Send.{IsSync, sendable}
use denote.Struct.Field as field
use Rattle.std.specs.Prelude.{List, Option, Result}
use Rattle.std.proofs.Crossing.{crosses, Box-sync, Vec-sync, dyn_box_sync}
use Rattle.std.specs.contracts.dyn_box.DynBox as Dyn
use Rattle.std.specs.contracts.vec.Vec as Vec
use Rattle.std.specs.contracts.option.Option as choice
use denote.Array.{Array}
use denote.Builtin.{u32}
use Rattle.std.specs.contracts.alloc.Global as Heap
use Rattle.std.specs.contracts.impls.GlobalAllocator.TheImpl.{ghosts}
use Rattle.rev_num.specs.declared.value.NumFault.{NumFault}
use Rattle.rev_syntax.proofs.tree.BinaryOp.TheSendSync as op
use Rattle.merge_kernels.proofs.term.Term.TheLaws.TheKnot as knot
use Rattle.merge_kernels.specs.contracts.term.Term as Term
use Rattle.merge_kernels.specs.contracts.term.MergeDef as Def
use Rattle.merge_kernels.specs.contracts.kernel.RowKernel as RowKernel
use Rattle.merge_kernels.specs.contracts.kernel.Kernel as Kernel
use Rattle.merge_kernels.specs.contracts.plan.KernelPlan as Plan

term_sync : IsSync (Term.the_field).row
term_sync = knot.sync-Term (search sendable) (search sendable) Box-sync Vec-sync op.the_field_sync

def_sync : IsSync (Def.the_field).row
def_sync = search (sendable, term_sync) depth 9

abbrev pub Number : Type 0
Number = (field.i64-field).Value

-- what is kept of the calls of a closure of three
abbrev pub Calls : (T : RattleType) → Ghosts T.Denot → Type 0 → Type 0 → Type 1
Calls T g X R = Mut ((x : T.Denot) × (g.1.0 x).0.Denot) (X × (X × (X × Unit {0}))) R

module _ (T U : RattleType) (g : Ghosts T.Denot) (h : Ghosts U.Denot) (s : Syncs (table_of T.Denot g))
    (t : Syncs (table_of U.Denot h)) (a : IsSync T) (b : IsSync U)
    (m : Calls T g Number (Result Number NumFault)) (n : Calls U h (List Number) (Option (List Number))) where
  row_field_sync : IsSync (RowKernel.the_field U h n).row
  row_field_sync =
      let box : IsSync (Dyn.the_field U Heap.the_row h ghosts).row = dyn_box_sync U h t b in
      search (sendable, def_sync, box) depth 12

  row_sync : IsSync (RowKernel.the_row U h n)
  row_sync = let one = row_field_sync in search (sendable, one) depth 12

  kernel_field_sync : IsSync (Kernel.the_field T U g h m n).row
  kernel_field_sync =
      let box : IsSync (Dyn.the_field T Heap.the_row g ghosts).row = dyn_box_sync T g s a in
      let row = row_sync in search (sendable, crosses, def_sync, box, row) depth 12

  kernel_sync : IsSync (Kernel.the_row T U g h m n)
  kernel_sync = let one = kernel_field_sync in search (sendable, one) depth 12

  plan_field_sync : (l : NamedLft) → IsSync (Plan.the_field l T U g h m n).row
  plan_field_sync l =
      let list : IsSync (Vec.the_field (choice.the_row u32) Heap.the_row ghosts).row =
      Vec-sync (choice.the_row u32) (search (sendable, crosses) depth 9) in
      let level : IsSync (Array u32 64) = search sendable in
      let one = kernel_sync in search (sendable, crosses, list, level, one) depth 14

  pub plan_sync : (l : NamedLft) → IsSync (Plan.the_row l T U g h m n)
  plan_sync l = let one = plan_field_sync l in search (sendable, one) depth 12
