-- What a joiner that was given an end keeps.
--   end_within, claimed_within   the locations that the joinee wrote are those of the joiner's memory
use Rattle.std.proofs.Common.{◌≡◌, ℕ, ◌<◌, Bool, length, get_or, arith}
use Rattle.std.proofs.Math.Logic.{∥∥₁_elim}
use Rattle.std.specs.Coded.{le_prop}
use Rattle.rev_code.specs.State.{State}
use Rattle.code_soundness.specs.Typed.{location_kinds}
use Rattle.version_map.specs.declared.delta.Delta.{Delta}
use Rattle.version_map.specs.declared.end.EndValue.{EndValue}
use Rattle.version_map.specs.declared.end.Written.{Written}
use Rattle.version_map.specs.declared.snapshot.Snapshot.{Ghosts}
use Rattle.version_map.specs.Deltas.{locations}
use Rattle.code_machine.specs.Local.{CodeRun, End}
use Rattle.leg_run.specs.declared.revision.Run.{Run}
use Rattle.rev_vm.specs.declared.join.Claimed.{Claimed}
use Rattle.rev_vm.specs.Meaning.{IsClaimed}
use Rattle.rev_vm.proofs.Firsts.{kinds_many}
use Rattle.rev_vm.proofs.Joins.{within_all}

pub end_within : (g : CodeRun) (run : Run) (delta : Delta) (base : ℕ → ℕ) (first : Delta)
    (try : Bool) (on : ℕ) (v : EndValue) (c : State ℕ) (j : End ℕ)
    → IsClaimed g run delta base first try on v c j → (size : ℕ) → locations delta ≡ size
    → (i : ℕ) (d : Written) → i < length v.written → (get_or v.written i d).location < size
end_within g run delta base first try on v c j h size sized i d less =
    let w = within_all (location_kinds g.code.vars) j.written v.written h.joinee.written i d less in
    let m = kinds_many g.code.vars in
    let b = h.joiner.stands.size in omega (arith, w, m, b, sized)

module _ {P S : Type 0} {m : Ghosts P S} where
  pub claimed_within : (k : Claimed P S m) (i : ℕ) (d : Written) → i < length k.end.written
      → (get_or k.end.written i d).location < m.size k.at.revision.value.memory.snapshot
  claimed_within k i d less =
      ∥∥₁_elim k.of le_prop (λ q.
      end_within q.0 k.at.revision.value.run k.at.revision.value.memory.delta
      (m.base k.at.revision.value.memory.snapshot) k.at.revision.value.memory.first.roots
      k.at.is_try k.at.on k.end q.1 q.2 q.3 (m.size k.at.revision.value.memory.snapshot)
      k.at.revision.value.memory.written i d less)
