-- The laws of every machine of revisions that keeps the conditions: what holds of each state that a run reaches.
use Rattle.std.specs.Prelude.{Option, Some, None, ◌≡◌, ◌≢◌, ◌⊎◌, ℕ, ◌+◌, ◌<◌, ◌≤◌, ◌*◌, List, [], ◌∷◌, length, IsTrue}
use Rattle.rev_num.specs.Path.{Path, child, before}
use Rattle.revision_machine.specs.PathMap.{PathMap}
use Rattle.revision_machine.specs.Machine.{Ended, Machine, Entry, Plain, Joined, Global, Twice, Live, Revisions, start, step, Runs, Final, Complete, Reached}

-- the state of a revision, with or without the mark
abbrev pub local_of : {L : Type 0} → Entry L → L
local_of (Plain l) = l
local_of (Joined l) = l

module _ (M : Machine) where
  -- r steps g to h, or g was Twice and is so still
  abbrev pub Follows : Global M.Local → Path → Global M.Local → Type 0
  Follows g r h = (step M g r ≡ Some h) ⊎ ((g ≡ Twice) × (h ≡ Twice))

  -- p leads to a and q to b, and both orders of the two lead to one state
  pub record Diamond (p q : Path) (a b : Global M.Local) : Type 0 where
    pub end : Global M.Local
    pub first : Follows a q end
    pub second : Follows b p end

  -- r's forker stands in the state, and has counted it
  pub record HasForker (revs : Revisions M) (r : Path) (k : ℕ) : Type 0 where
    pub forker : Entry M.Local
    pub stands : revs r ≡ Some forker
    pub counted : k < M.forks (local_of forker)

  abbrev pub IsForked : Revisions M → Type 0
  IsForked revs =
      (r : Path) (k : ℕ) (e : Entry M.Local) → revs (child r k) ≡ Some e → HasForker revs r k

  abbrev pub WellForked : Global M.Local → Type 0
  WellForked Twice = Unit {0}
  WellForked (Live revs) = IsForked revs

  -- q stands in the state, and comes before r in post-order
  pub record IsBelow (revs : Revisions M) (r q : Path) : Type 0 where
    pub entry : Entry M.Local
    pub stands : revs q ≡ Some entry
    pub earlier : IsTrue (before q r)

  -- `main` stands in the state
  abbrev pub HasMain : Revisions M → Type 0
  HasMain revs = (e : Entry M.Local) × (revs [] ≡ Some e)

  -- `main` stands in the state, and what is marked has ended
  pub record IsStanding (revs : Revisions M) : Type 0 where
    pub main : HasMain revs
    pub marked : (r : Path) (l : M.Local) → revs r ≡ Some (Joined l) → M.next r l ≡ Ended

  abbrev pub Stands : Global M.Local → Type 0
  Stands Twice = Unit {0}
  Stands (Live revs) = IsStanding revs

  -- `main` stands in the state, and each revision has ended, with or without the mark
  pub record IsEnded (revs : Revisions M) : Type 0 where
    pub main : HasMain revs
    pub each : (r : Path) (e : Entry M.Local) → revs r ≡ Some e → M.next r (local_of e) ≡ Ended

  abbrev pub AllEnded : Global M.Local → Type 0
  AllEnded Twice = Unit {0}
  AllEnded (Live revs) = IsEnded revs

module _ (M : Machine) (holds : M.Local → Path → Type 0) where
  -- each handle names a revision of the state, which precedes its holder
  abbrev pub IsOrdered : Revisions M → Type 0
  IsOrdered revs =
      (r q : Path) (e : Entry M.Local) → revs r ≡ Some e → holds (local_of e) q → IsBelow M revs r q

  abbrev pub HandlesPrecede : Global M.Local → Type 0
  HandlesPrecede Twice = Unit {0}
  HandlesPrecede (Live revs) = IsOrdered revs

-- p is one of these
abbrev pub IsIn : Path → List Path → Type 0
IsIn p [] = ⊥
IsIn p (q ∷ qs) = (p ≡ q) ⊎ IsIn p qs

-- none stands twice
abbrev pub IsDistinct : List Path → Type 0
IsDistinct [] = Unit {0}
IsDistinct (p ∷ ps) = (IsIn p ps → ⊥) × IsDistinct ps

-- what an unmarked revision has
abbrev pub amount : {L : Type 0} → (L → ℕ) → Option (Entry L) → ℕ
amount of None = 0
amount of (Some (Joined l)) = 0
amount of (Some (Plain l)) = of l

abbrev pub total : {L : Type 0} → (L → ℕ) → PathMap (Entry L) → List Path → ℕ
total of revs [] = 0
total of revs (p ∷ ps) = amount of (revs p) + total of revs ps

-- the revisions of a state are these, each once
pub record Census {A : Type 0} (revs : PathMap A) (paths : List Path) : Type 0 where
  pub each : (p : Path) → IsIn p paths → (e : A) × (revs p ≡ Some e)
  pub all : (p : Path) (e : A) → revs p ≡ Some e → IsIn p paths
  pub distinct : IsDistinct paths

module _ (M : Machine) where
  -- the amounts of all unmarked revisions are n together
  abbrev pub Amounts : (M.Local → ℕ) → Global M.Local → ℕ → Type 0
  Amounts of Twice n = n ≡ 0
  Amounts of (Live revs) n = (paths : List Path) × Census revs paths × (total of revs paths ≡ n)

  -- the revisions are at most so many, with and without the mark
  abbrev pub HasAtMost : ℕ → Global M.Local → Type 0
  HasAtMost most Twice = Unit {0}
  HasAtMost most (Live revs) = (paths : List Path) × Census revs paths × (length paths ≤ most)

  abbrev pub Everywhere : (Path → M.Local → Type 0) → Global M.Local → Type 0
  Everywhere P Twice = Unit {0}
  Everywhere P (Live revs) = (r : Path) (e : Entry M.Local) → revs r ≡ Some e → P r (local_of e)

  -- in Twice nothing steps
  abbrev pub TwiceIsFinal : Type 0
  TwiceIsFinal = Final M Twice

module _ (M : Machine) (main : M.Local) where
  -- two steps of different revisions can be made in either order
  abbrev pub DiamondLaw : Type 0
  DiamondLaw =
      (g a b : Global M.Local) (p q : Path) → Reached M main g → p ≢ q → step M g p ≡ Some a
      → step M g q ≡ Some b → Diamond M p q a b

  -- any two complete runs from one state end in equal states
  abbrev pub UniqueEnd : Type 0
  UniqueEnd =
      (g h i : Global M.Local) (ps qs : List Path) → Reached M main g → Complete M g ps h
      → Complete M g qs i → h ≡ i

  -- where one run reaches Twice, every complete run does
  abbrev pub TwiceInAll : Type 0
  TwiceInAll =
      (h : Global M.Local) (ps qs : List Path) → Runs M (start M main) ps Twice
      → Complete M (start M main) qs h → h ≡ Twice

  -- each revision but `main` has its forker
  abbrev pub ForkerLaw : Type 0
  ForkerLaw = (g : Global M.Local) → Reached M main g → WellForked M g

  -- `main` stands in every state but Twice, and whatever is marked has ended
  abbrev pub StandingLaw : Type 0
  StandingLaw = (g : Global M.Local) → Reached M main g → Stands M g

  abbrev pub HandleLaw : (M.Local → Path → Type 0) → Type 0
  HandleLaw holds = (g : Global M.Local) → Reached M main g → HandlesPrecede M holds g

  -- where nothing steps, and it is not Twice, every revision has ended
  abbrev pub NoBlockedEnd : Type 0
  NoBlockedEnd = (g : Global M.Local) → Reached M main g → Final M g → AllEnded M g

  -- after any run, what is left and what the steps used up is at most what there was
  abbrev pub SpendingLaw : ℕ → (M.Local → ℕ) → Type 0
  SpendingLaw cost of =
      (g : Global M.Local) (rs : List Path) → Runs M (start M main) rs g → (n : ℕ)
      × Amounts M of g n × (n + length rs * cost ≤ of main)

  -- a reached state has at most so many revisions
  abbrev pub CountLaw : ℕ → Type 0
  CountLaw most = (g : Global M.Local) → Reached M main g → HasAtMost M most g

  -- no run has more steps than this
  abbrev pub BoundLaw : ℕ → Type 0
  BoundLaw most =
      (g : Global M.Local) (rs : List Path) → Runs M (start M main) rs g → length rs ≤ most

  -- it holds of each revision of each reached state
  abbrev pub KeptLaw : (Path → M.Local → Type 0) → Type 0
  KeptLaw P = (g : Global M.Local) → Reached M main g → Everywhere M P g

  -- every run can be completed
  abbrev pub CompletionLaw : Type 0
  CompletionLaw =
      (g : Global M.Local) → Reached M main g → (rs : List Path) × (h : Global M.Local)
      × Complete M g rs h
