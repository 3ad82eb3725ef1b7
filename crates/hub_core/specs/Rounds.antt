-- Rounds of a fork, a child and its join that take no turn, and the schedule that the lists of all seats make up.
--   Item                  what enters the schedule: an entry of a turn, a fork in a turn, or a round
--   flat, born            the schedule of items, and the forkers of the children that they bear
--   turn_part             what the turns entered, each with the number that the next child had then
--   Round, round_part     the rounds: the child, the joinee and the forker
--   IsRound, children     a round of a list, and the children of its rounds
--   ones, stamped         entries of one turn as items, and as the turn's part of them
--   add_last, add_birth   a fork behind them, where there is one
--   weave                 the schedule that a close puts together: for each count what the turns entered, and the round
--   weave_forkers         the forkers that it puts together, but for that of the first
use Rattle.std.specs.Prelude.{◌≡◌, ◌⊎◌, ◌≤◌, ◌==◌, ℕ, zero, suc, cond, List, [], ◌∷◌, ◌++◌, Option, Some, None}

-- a round is the end of the first, its join by the second, and the next fork of that one
pub data Item : Type 0 where
  One : ℕ → Item
  Born : ℕ → Item
  Loop : ℕ → ℕ → Item

abbrev pub Round : Type 0
Round = ℕ × ℕ × ℕ

abbrev pub flat : List Item → List ℕ
flat [] = []
flat (One k ∷ is) = k ∷ flat is
flat (Born k ∷ is) = k ∷ flat is
flat (Loop m k ∷ is) = m ∷ k ∷ k ∷ flat is

abbrev pub born : List Item → List ℕ
born [] = []
born (One k ∷ is) = born is
born (Born k ∷ is) = k ∷ born is
born (Loop m k ∷ is) = k ∷ born is

abbrev pub turn_part : ℕ → List Item → List (ℕ × ℕ)
turn_part n [] = []
turn_part n (One k ∷ is) = (n, k) ∷ turn_part n is
turn_part n (Born k ∷ is) = (n, k) ∷ turn_part (suc n) is
turn_part n (Loop m k ∷ is) = turn_part (suc n) is

abbrev pub round_part : ℕ → List Item → List Round
round_part n [] = []
round_part n (One k ∷ is) = round_part n is
round_part n (Born k ∷ is) = round_part (suc n) is
round_part n (Loop m k ∷ is) = (n, m, k) ∷ round_part (suc n) is

abbrev pub IsRound : List Round → ℕ → ℕ → ℕ → Type 0
IsRound [] n m k = ⊥
IsRound (r ∷ rs) n m k = ((r.0 ≡ n) × (r.1 ≡ m) × (r.2 ≡ k)) ⊎ IsRound rs n m k

abbrev pub children : List Round → List ℕ
children [] = []
children (r ∷ rs) = r.0 ∷ children rs

abbrev pub ones : List ℕ → List Item
ones [] = []
ones (k ∷ ks) = One k ∷ ones ks

abbrev pub stamped : ℕ → List ℕ → List (ℕ × ℕ)
stamped n [] = []
stamped n (k ∷ ks) = (n, k) ∷ stamped n ks

abbrev pub add_last : Option ℕ → List ℕ → List ℕ
add_last None ks = ks
add_last (Some k) ks = ks ++ k ∷ []

abbrev pub add_birth : Option ℕ → List Item → List Item
add_birth None is = is
add_birth (Some k) is = is ++ Born k ∷ []

abbrev pub births : Option ℕ → ℕ
births None = 0
births (Some k) = 1

-- what was entered at this count, and what behind it
abbrev pub first_at : ℕ → List (ℕ × ℕ) → List ℕ
first_at n [] = []
first_at n (x ∷ xs) = cond (x.0 == n) (x.1 ∷ first_at n xs) []

abbrev pub behind_at : ℕ → List (ℕ × ℕ) → List (ℕ × ℕ)
behind_at n [] = []
behind_at n (x ∷ xs) = cond (x.0 == n) (behind_at n xs) (x ∷ xs)

abbrev pub entries_of : List (ℕ × ℕ) → List ℕ
entries_of [] = []
entries_of (x ∷ xs) = x.1 ∷ entries_of xs

-- the round of a number: joinee and forker
abbrev pub looped_by : Option (ℕ × ℕ) → List ℕ
looped_by None = []
looped_by (Some x) = x.0 ∷ x.1 ∷ x.1 ∷ []

-- so many numbers from this on
abbrev pub weave : ℕ → ℕ → List (ℕ × ℕ) → (ℕ → Option (ℕ × ℕ)) → List ℕ
weave zero n es look = entries_of es
weave (suc c) n es look =
    (first_at n es ++ looped_by (look n)) ++ weave c (suc n) (behind_at n es) look

-- the forker of each number: that of its round, or what entered last before it
abbrev pub last_or : ℕ → List ℕ → ℕ
last_or x [] = x
last_or x (k ∷ ks) = last_or k ks

abbrev pub forker_of : ℕ → List (ℕ × ℕ) → Option (ℕ × ℕ) → ℕ
forker_of n es None = last_or 0 (first_at n es)
forker_of n es (Some x) = x.1

abbrev pub weave_forkers : ℕ → ℕ → List (ℕ × ℕ) → (ℕ → Option (ℕ × ℕ)) → List ℕ
weave_forkers zero n es look = []
weave_forkers (suc c) n es look = forker_of n es (look n) ∷ weave_forkers c (suc n) (behind_at n es) look

-- the rounds by number are those of these items
pub record AreRounds (n : ℕ) (is : List Item) (look : ℕ → Option (ℕ × ℕ)) : Type 0 where
  pub there : (i m k : ℕ) → IsRound (round_part n is) i m k → look i ≡ Some (m, k)
  pub only :
      (i : ℕ) (x : ℕ × ℕ) → n ≤ i → look i ≡ Some x
      → (m : ℕ) × (k : ℕ) × IsRound (round_part n is) i m k
