-- What a machine of revisions has to keep for the laws: conditions on its local states alone.
use Rattle.std.specs.Prelude.{◌≡◌, ◌⊎◌, ℕ, suc, ◌+◌, ◌≤◌}
use Rattle.rev_num.specs.Path.{Path, child}
use Rattle.revision_machine.specs.Machine.{Moves, Forks, Joins, Ended, Machine}

module _ (M : Machine) where
  -- each fork is counted once, and a child has made none
  pub record Counts : Type 0 where
    pub moves : (r : Path) (l l' : M.Local) → M.next r l ≡ Moves l' → M.forks l' ≡ M.forks l
    pub forker : (r : Path) (l l' c : M.Local) → M.next r l ≡ Forks l' c → M.forks l' ≡ suc (M.forks l)
    pub forked : (r : Path) (l l' c : M.Local) → M.next r l ≡ Forks l' c → M.forks c ≡ 0
    pub joins : (r q : Path) (l lq : M.Local) → M.next r l ≡ Joins q → M.forks (M.join r l q lq) ≡ M.forks l

module _ (M : Machine) (holds : M.Local → Path → Type 0) where
  -- the handles that a local state holds come from what it held, from its forker, from a fork or from a joined
  -- revision; and what it joins it holds
  pub record Handles : Type 0 where
    pub moves : (r q : Path) (l l' : M.Local) → M.next r l ≡ Moves l' → holds l' q → holds l q
    pub forker : (r q : Path) (l l' c : M.Local) → M.next r l ≡ Forks l' c → holds l' q → holds l q
        ⊎ (q ≡ child r (M.forks l))
    pub forked : (r q : Path) (l l' c : M.Local) → M.next r l ≡ Forks l' c → holds c q → holds l q
    pub wants : (r q : Path) (l : M.Local) → M.next r l ≡ Joins q → holds l q
    pub joins : (r t q : Path) (l lt : M.Local) → M.next r l ≡ Joins t → M.next t lt ≡ Ended → holds (M.join r l t lt) q
        → holds l q ⊎ holds lt q

  abbrev pub HoldsNone : M.Local → Type 0
  HoldsNone l = (q : Path) → holds l q → ⊥

module _ (M : Machine) where
  -- an amount of which each step of a revision uses up this much, a number of every local state
  pub record Spends (cost : ℕ) (of : M.Local → ℕ) : Type 0 where
    pub moves : (r : Path) (l l' : M.Local) → M.next r l ≡ Moves l' → of l' + cost ≤ of l
    pub forks : (r : Path) (l l' c : M.Local) → M.next r l ≡ Forks l' c → of l' + of c + cost ≤ of l
    pub wants : (r q : Path) (l : M.Local) → M.next r l ≡ Joins q → cost ≤ of l
    pub joins : (r q : Path) (l lq : M.Local) → M.next r l ≡ Joins q → M.next q lq ≡ Ended
        → of (M.join r l q lq) + cost ≤ of l + of lq

  -- an amount of which each fork uses up 1, and that no event adds to
  pub record PaysForks (of : M.Local → ℕ) : Type 0 where
    pub moves : (r : Path) (l l' : M.Local) → M.next r l ≡ Moves l' → of l' ≤ of l
    pub forks : (r : Path) (l l' c : M.Local) → M.next r l ≡ Forks l' c → of l' + of c + 1 ≤ of l
    pub joins : (r q : Path) (l lq : M.Local) → M.next r l ≡ Joins q → M.next q lq ≡ Ended
        → of (M.join r l q lq) ≤ of l + of lq

  -- a fact on a path and its local state that every event keeps
  pub record IsKept (P : Path → M.Local → Type 0) : Type 0 where
    pub moves : (r : Path) (l l' : M.Local) → P r l → M.next r l ≡ Moves l' → P r l'
    pub forker : (r : Path) (l l' c : M.Local) → P r l → M.next r l ≡ Forks l' c → P r l'
    pub forked : (r : Path) (l l' c : M.Local) → P r l → M.next r l ≡ Forks l' c → P (child r (M.forks l)) c
    pub joins : (r q : Path) (l lq : M.Local) → P r l → P q lq → M.next r l ≡ Joins q → M.next q lq ≡ Ended
        → P r (M.join r l q lq)
