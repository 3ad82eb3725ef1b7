-- The group of a store names its table.
use Rattle.std.proofs.Common.{◌≡◌, ℕ, List, get_or, ap}
use Rattle.segment_store.specs.declared.store.Store.{Store}
use Rattle.segment_store.specs.Group.{store_group, IsOneTable}

pub same_group : (s t : Store) → store_group s ≡ store_group t → IsOneTable s t
same_group s t e = (
  (λ i. record {
    words = get_or (e i) 3 0;
    views_name = get_or (e i) 4 0;
    atom = get_or (e i) 5 0;
  }),
  ap (λ (ns : List ℕ). get_or ns 0 0) e,
  ap (λ (ns : List ℕ). get_or ns 1 0) e,
  ap (λ (ns : List ℕ). get_or ns 2 0) e,
)
