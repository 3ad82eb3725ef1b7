-- What post-order is, and its laws.
use Rattle.std.specs.Prelude.{◌≡◌, ◌≢◌, ℕ, ◌<◌, ◌⊎◌, ◌↔◌, IsTrue, ◌∷◌, ◌++◌}
use Rattle.rev_num.specs.Path.{Path, before, child, same}

-- q is r and one or more numbers behind it
pub record Extends (q r : Path) : Type 0 where
  pub first : ℕ
  pub rest : Path
  pub is : q ≡ r ++ first ∷ rest

-- q and r part behind a common front, where q has the lesser number
pub record IsLessAtFirstDifference (q r : Path) : Type 0 where
  pub front : Path
  pub lesser : ℕ
  pub greater : ℕ
  pub less : lesser < greater
  pub rest_of_q : Path
  pub rest_of_r : Path
  pub q_is : q ≡ front ++ lesser ∷ rest_of_q
  pub r_is : r ≡ front ++ greater ∷ rest_of_r

-- q comes before r in post-order
abbrev pub ComesBefore : Path → Path → Type 0
ComesBefore q r = Extends q r ⊎ IsLessAtFirstDifference q r

-- the tests are exact
abbrev pub TestsAreExact : Type 0
TestsAreExact = (p q : Path) → (IsTrue (same p q) ↔ (p ≡ q)) × (IsTrue (before p q) ↔ ComesBefore p q)

pub record IsStrictTotalOrder (Before : Path → Path → Type 0) : Type 0 where
  pub irreflexive : (p : Path) → Before p p → ⊥
  pub transitive : (p q r : Path) → Before p q → Before q r → Before p r
  pub total : (p q : Path) → p ≢ q → Before p q ⊎ Before q p

-- a child comes before its forker
abbrev pub ChildrenComeFirst : Type 0
ChildrenComeFirst = (r : Path) (k : ℕ) → IsTrue (before (child r k) r)

-- an earlier child, and each revision below it, comes before a later child
abbrev pub ChildrenComeInOrder : Type 0
ChildrenComeInOrder = (r : Path) (j k : ℕ) (below : Path) → j < k → IsTrue (before (child r j ++ below) (child r k))
