-- Merges by kernels may cross threads, since plans may be shared.
use denote.RattleType.{RattleType}
use denote.Ref.{NamedLft}
use denote.Param.Object.{Ghosts, table_of}
use denote.Param.Sent.{Syncs}
use denote.Param.Send.{IsSend, IsSync, sendable}
use Rattle.std.specs.Prelude.{List, Option, Result}
use Rattle.rev_num.specs.declared.value.NumFault.{NumFault}
use Rattle.merge_kernels.proofs.SharedKernels.{Calls, Number, plan_sync}
use Rattle.rev_workers.specs.contracts.merges.KernelMerges as Merges

module _ (T U : RattleType) (g : Ghosts T.Denot) (h : Ghosts U.Denot) (s : Syncs (table_of T.Denot g))
    (t : Syncs (table_of U.Denot h)) (a : IsSync T) (b : IsSync U)
    (m : Calls T g Number (Result Number NumFault)) (n : Calls U h (List Number) (Option (List Number))) (l : NamedLft)
    (B : RattleType) where
  merges_field_send : IsSend B → IsSend (Merges.the_field l B T U g h m n).row
  merges_field_send x = let plan = plan_sync T U g h s t a b m n l in search (sendable, plan, x) depth 12

  pub merges_send : IsSend B → IsSend (Merges.the_row l B T U g h m n)
  merges_send x = let one = merges_field_send x in search (sendable, one) depth 12

  merges_field_sync : IsSync B → IsSync (Merges.the_field l B T U g h m n).row
  merges_field_sync x = let plan = plan_sync T U g h s t a b m n l in search (sendable, plan, x) depth 12

  pub merges_sync : IsSync B → IsSync (Merges.the_row l B T U g h m n)
  merges_sync x = let one = merges_field_sync x in search (sendable, one) depth 12
