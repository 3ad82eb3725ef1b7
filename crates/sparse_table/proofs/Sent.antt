-- The words may be shared, and a seat may go to another thread.
use Rattle.std.proofs.Common.{ℕ, ◌+◌, Bool, true, false, List, [], ◌∷◌}
use Rattle.std.specs.Prelude.{◌==◌}
use base.Stored.{Gv}
use base.Fml.{Lft}
use base.Shift.{Keyless}
use lib.Dec.{ltb}
use denote.RawPtr.{Ptr}
use types.Keyed.{entry_keyless}
use Rattle.atomic_table.specs.Seated.{halved}
use Rattle.atomic_table.proofs.Sent.{roster_keyless}
use Rattle.sparse_table.specs.Words.{State, blank}
use Rattle.sparse_table.specs.Owned.{spot_of, spot, row, span, WordsId, inner, mine, words_own, words_share}

spot_keyless : (x y : Bool) (b o n : ℕ) → Keyless (spot_of x y b o n)
spot_keyless true y b o n = tt
spot_keyless false true b o n = tt
spot_keyless false false b o n = tt

row_keyless : (b o : ℕ) (ns : List ℕ) → Keyless (row b o ns)
row_keyless b o [] = tt
row_keyless b o (n ∷ ns) = (spot_keyless (ltb n blank) (n == blank) b o n, row_keyless b (o + 8) ns)

pub span_keyless : (p : Ptr) (ns : List ℕ) → Keyless (span p ns)
span_keyless p ns = ((λ _. tt), row_keyless _ _ ns)

module _ {V : Type 0} (c : V → Gv) (z : WordsId) where
  pub seat_keyless : (id : ℕ) (v : V) → Keyless (mine c z id v)
  seat_keyless id v = entry_keyless halved z.views_name id _

  module _ (holds : State V → Type 0) (p : Ptr) where
    inner_keyless : Keyless (inner c holds p z)
    inner_keyless = λ t. (row_keyless _ _ t.words, (roster_keyless c z.views_name 0 t.views, λ _. tt))

    pub owns_keyless : Keyless (words_own c holds p z)
    unfolding Rattle.sparse_table.specs.Owned.seal
    owns_keyless = (tt, (((λ _. tt), inner_keyless), inner_keyless))

    pub shares_keyless : (ν : Lft) → Keyless (words_share c holds p z ν)
    unfolding Rattle.sparse_table.specs.Owned.seal
    shares_keyless ν = ((λ _. tt), ((λ _. tt), inner_keyless))
