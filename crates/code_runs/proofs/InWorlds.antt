-- Paths and numbers of the revisions of a world.
use Rattle.std.proofs.Common.{◌≡◌, ℕ, ◌≤◌, ◌^◌, List, length, None, refl, sym, ap, subst, arith}
use Rattle.rev_num.specs.Path.{Path}
use Rattle.revision_machine.specs.Numbered.{Entries, World, Listing, paths_of}
use Rattle.revision_machine.proofs.Numbers.{length-paths}
use Rattle.code_machine.specs.Local.{CodeRun, IsVerified, Local}
use Rattle.code_machine_laws.specs.Reached.{IsReached}
use Rattle.code_machine_laws.proofs.Reaching.{small}
use Rattle.code_world.specs.declared.table.Birth.{Birth}
use Rattle.code_world.specs.declared.table.Table.{Table}
use Rattle.code_world.specs.declared.world.World as rust
use Rattle.code_world.specs.declared.world.World.TheVariants as world
use Rattle.code_world.specs.Endings.{Names}
use Rattle.code_world.specs.Tables.{IsWorld}
use Rattle.code_world.proofs.Worlds.{world_live, world_twice}
use Rattle.code_runs.specs.Revisions.{IsNumberIn, path_at}

-- the revisions of a world, and that these births name their paths
pub record Named (w : World (Local ℕ)) (births : List Birth) : Type 0 where
  pub entries : Entries (Local ℕ)
  pub is : w ≡ Listing entries
  pub names : Names births (paths_of entries)

pub named : (g : CodeRun) (v : rust.World) (w : World (Local ℕ)) (t : Table) → v ≡ world.Live t → IsWorld g v w
    → (births : List Birth)
    → ((g : CodeRun) (x : Entries (Local ℕ)) → IsWorld g v (Listing x) → Names births (paths_of x)) → Named w births
named g v w t e is births all =
    let k = world_live g v w t e is in
    record { entries = k.0; is = k.1; names = all g k.0 (subst (IsWorld g v) k.1 is) }

pub few_births : (g : CodeRun) → IsVerified g → (w : World (Local ℕ)) → IsReached g w → (births : List Birth)
    → Named w births → length births ≤ 2 ^ 32
few_births g ok w reached births k =
    let many = k.names.all in
    let paths = length-paths k.entries in
    let few = small g ok k.entries (subst (IsReached g) k.is reached) in
    omega (arith, many, paths, few)

pub path_twice : (g : CodeRun) (v : rust.World) (w : World (Local ℕ)) → v ≡ world.Twice → IsWorld g v w → (n : ℕ)
    → None ≡ path_at w n
path_twice g v w e is n = sym (ap (λ z. path_at z n) (world_twice g v w e is))

pub number_twice : (g : CodeRun) (v : rust.World) (w : World (Local ℕ)) → v ≡ world.Twice → IsWorld g v w → (p : Path)
    → IsNumberIn w p None
number_twice g v w e is p = subst (λ z. IsNumberIn z p None) (sym (world_twice g v w e is)) refl
