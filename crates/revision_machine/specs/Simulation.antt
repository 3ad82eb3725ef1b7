-- One machine does what another does: each step of the second is some steps of the same revision in the first.
use Rattle.std.specs.Prelude.{Option, Some, None, ◌≡◌, ℕ, List, replicate}
use Rattle.rev_num.specs.Path.{Path, child}
use Rattle.revision_machine.specs.Machine.{Moves, Forks, Joins, Ended, Machine, Entry, Plain, Joined, Global, Twice, Live, start, step, Runs, Final, Complete}
use Rattle.revision_machine.specs.Laws.{AllEnded}
use Rattle.revision_machine.specs.Births.{offspring, RunsBearing, AllKnown}

module _ (M : Machine) where
  -- l goes to l' by local steps
  pub data Quiet (r : Path) : M.Local → M.Local → Type 0 where
    stay : {l : M.Local} → Quiet r l l
    more : {l l' l'' : M.Local} → M.next r l ≡ Moves l' → Quiet r l' l'' → Quiet r l l''

module _ (A B : Machine) (R : Path → A.Local → B.Local → Type 0) where
  pub record DoesMove (r : Path) (a : A.Local) (b' : B.Local) : Type 0 where
    pub after : A.Local
    pub quiet : Quiet A r a after
    pub related : R r after b'

  pub record DoesFork (r : Path) (a : A.Local) (b b' c : B.Local) : Type 0 where
    pub before : A.Local
    pub quiet : Quiet A r a before
    pub after : A.Local
    pub child_state : A.Local
    pub forks : A.next r before ≡ Forks after child_state
    pub number : A.forks before ≡ B.forks b
    pub related : R r after b'
    pub related_child : R (child r (B.forks b)) child_state c

  pub record DoesJoin (r q : Path) (a : A.Local) (b : B.Local) : Type 0 where
    pub before : A.Local
    pub quiet : Quiet A r a before
    pub joins : A.next r before ≡ Joins q
    pub related : (x : A.Local) (y : B.Local) → R q x y → B.next q y ≡ Ended
        → R r (A.join r before q x) (B.join r b q y)

  -- whatever a state of B does next, a related state of A does, after some local steps; a fork,
  -- where its child is known
  pub record Simulates (Known : Path → Type 0) : Type 0 where
    pub moves : (r : Path) (a : A.Local) (b b' : B.Local) → R r a b → B.next r b ≡ Moves b' → DoesMove r a b'
    pub forks : (r : Path) (a : A.Local) (b b' c : B.Local) → R r a b → B.next r b ≡ Forks b' c
        → Known (child r (B.forks b)) → DoesFork r a b b' c
    pub joins : (r q : Path) (a : A.Local) (b : B.Local) → R r a b → B.next r b ≡ Joins q → DoesJoin r q a b
    pub ends : (r : Path) (a : A.Local) (b : B.Local) → R r a b → B.next r b ≡ Ended → A.next r a ≡ Ended

  -- the same revisions with the same marks, and related states
  abbrev pub EntryAgrees : Path → Option (Entry A.Local) → Option (Entry B.Local) → Type 0
  EntryAgrees p None None = Unit {0}
  EntryAgrees p None (Some f) = ⊥
  EntryAgrees p (Some e) None = ⊥
  EntryAgrees p (Some (Plain a)) (Some (Plain b)) = R p a b
  EntryAgrees p (Some (Plain a)) (Some (Joined b)) = ⊥
  EntryAgrees p (Some (Joined a)) (Some (Plain b)) = ⊥
  EntryAgrees p (Some (Joined a)) (Some (Joined b)) = R p a b

  abbrev pub Agrees : Global A.Local → Global B.Local → Type 0
  Agrees Twice Twice = Unit {0}
  Agrees Twice (Live v) = ⊥
  Agrees (Live u) Twice = ⊥
  Agrees (Live u) (Live v) = (p : Path) → EntryAgrees p (u p) (v p)

  pub record StepsTo (r : Path) (g : Global A.Local) (w' : Global B.Local) : Type 0 where
    pub times : ℕ
    pub end : Global A.Local
    pub runs : Runs A g (replicate times r) end
    pub agrees : Agrees end w'

  -- each step of B, whose child is known if it forks one, is some number of steps of the same revision in A
  abbrev pub StepLaw : (Path → Type 0) → Type 0
  StepLaw Known =
      (g : Global A.Local) (w w' : Global B.Local) (r : Path) → Agrees g w → step B w r ≡ Some w'
      → AllKnown Known (offspring B w r) → StepsTo r g w'

module _ (A B : Machine) (R : Path → A.Local → B.Local → Type 0) (Known : Path → Type 0) (a : A.Local)
    (b : B.Local) where
  -- each run of B whose children are known agrees with a run of A
  abbrev pub RunLaw : Type 0
  RunLaw =
      (ws cs : List Path) (w : Global B.Local) → RunsBearing B (start B b) ws w cs
      → AllKnown Known cs → (rs : List Path) × (g : Global A.Local) × Runs A (start A a) rs g
      × Agrees A B R g w

  -- at its end every revision has ended, if it is not Twice
  abbrev pub UnblockedLaw : Type 0
  UnblockedLaw =
      (ws cs : List Path) (w : Global B.Local) → RunsBearing B (start B b) ws w cs
      → AllKnown Known cs → Final B w → AllEnded B w

  -- each complete run of B whose children are known agrees with a complete run of A
  abbrev pub CompleteLaw : Type 0
  CompleteLaw =
      (ws cs : List Path) (w : Global B.Local) → RunsBearing B (start B b) ws w cs
      → AllKnown Known cs → Final B w → (rs : List Path) × (g : Global A.Local)
      × Complete A (start A a) rs g × Agrees A B R g w

  -- a complete run of A and one of B whose children are known end in states that agree
  abbrev pub SameEnd : Type 0
  SameEnd =
      (rs ws cs : List Path) (g : Global A.Local) (w : Global B.Local) → Complete A (start A a) rs g
      → RunsBearing B (start B b) ws w cs → AllKnown Known cs → Final B w → Agrees A B R g w
