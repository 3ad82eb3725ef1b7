-- The forkers of a world's revisions, by number.
--   IsForkedBy paths n f   the revision n was forked by f
--   ForkersAre paths fs    fs has of each revision the number that forked it, 0 for the first
use Rattle.std.specs.Prelude.{Some, ◌≡◌, ◌<◌, ℕ, suc, List, length}
use Rattle.rev_num.specs.Path.{Path, child}
use Rattle.revision_machine.specs.Numbered.{at_number}

-- its path is a child of that one's path
pub record IsForkedBy (paths : List Path) (n f : ℕ) : Type 0 where
  pub path : Path
  pub fork : ℕ
  pub forker : at_number paths f ≡ Some path
  pub forked : at_number paths n ≡ Some (child path fork)

pub record ForkersAre (paths : List Path) (forkers : List ℕ) : Type 0 where
  pub long : length forkers ≡ length paths
  pub first : at_number forkers 0 ≡ Some 0
  pub each :
      (n : ℕ) → suc n < length paths
      → (f : ℕ) × (at_number forkers (suc n) ≡ Some f) × IsForkedBy paths (suc n) f
