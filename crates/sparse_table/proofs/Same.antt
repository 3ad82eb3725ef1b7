-- A closed table with the same words at the same place is the same.
use Rattle.std.proofs.Common.{◌≡◌, ◌%◌, ◌^◌, ◌<◌, ◌≤◌, length}
use Rattle.std.proofs.Props.{props}
use mathlib.Core.HLevel.{is_prop→PathP}
use Rattle.sparse_table.specs.declared.closed.Closed.{Closed}
use Rattle.sparse_table.specs.Parts.{total_of}
use Rattle.sparse_table.specs.Ended.{Ending}

pub same_closed : (a b : Closed) → a.span ≡ b.span → a.right ≡ b.right → a.total ≡ b.total → a.len ≡ b.len
    → a.width ≡ b.width → a.shift ≡ b.shift → a.alloc ≡ b.alloc → a ≡ b
same_closed a b sp ri to le wi sh al = λ i. record {
  span = sp i;
  right = ri i;
  total = to i;
  len = le i;
  width = wi i;
  shift = sh i;
  alloc = al i;
  owed = is_prop→PathP (λ j. ((ri j).heap ≡ al j) × ((ri j).at ≡ (sp j).ptr) × ((ri j).len ≡ to j)
      × (length (sp j).items ≡ to j)) (λ j. hlevel props) a.owed b.owed i;
  sized = is_prop→PathP (λ j. (0 < le j) × (le j ≤ 2 ^ 40) × (le j % wi j ≡ 0) × (1 < wi j) × (2 ^ sh j ≤ wi j)
      × (sh j < 64) × (to j ≡ total_of (le j) (sh j))) (λ j. hlevel props) a.sized b.sized i;
  ended = is_prop→PathP (λ j. Ending (le j) (wi j) (sh j) (to j) (sp j).items) (λ j. hlevel props) a.ended b.ended i;
}
