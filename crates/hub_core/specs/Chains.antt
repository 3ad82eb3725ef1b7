-- Lists of numbers through links, and what a call makes of the lists of a run queue.
--   IsChain, IsList             a list of numbers, by its first, its last and the links
--   IsKept                      the lists without a number stay
--   is_first                    a number is the first of a list
--   HasLists                    the list of what is ready, and of each number those that wait for it
--   IsNowhere, IsOnce           a number stands in no list; each stands at most once in all of them
--   KeepsLists                  a call that changes none
--   Adds, Takes, Waits, Wakes   what a call makes of the lists
--   AddsOne, DelaysOne, EndsOne, ReadiesOne what it makes of the whole queue
use Rattle.std.specs.Prelude.{◌≡◌, ◌≢◌, ◌<◌, ◌≤◌, ◌+◌, ℕ, zero, suc, Bool, false, List, [], ◌∷◌, ◌++◌, length, cond, ◌==◌, Option, Some, None}
use Rattle.revision_machine.specs.Numbered.{at_number}
use Rattle.hub_core.specs.declared.run_queue.Chain.{Chain}
use Rattle.hub_core.specs.declared.run_queue.RunQueue.{RunQueue}
use Rattle.hub_core.specs.Counts.{times}

-- from the first the links lead along these numbers to the last
abbrev pub IsWay : List ℕ → ℕ → List ℕ → ℕ → Type 0
IsWay links first [] last = first ≡ last
IsWay links first (n ∷ ns) last =
    (next : ℕ) × (first ≡ n) × (at_number links n ≡ Some next) × IsWay links next ns last

pub record IsChain (links : List ℕ) (chain : Chain) (ns : List ℕ) : Type 0 where
  pub front : List ℕ
  pub is : ns ≡ front ++ chain.last ∷ []
  pub way : IsWay links chain.first front chain.last

abbrev pub IsList : List ℕ → Option Chain → List ℕ → Type 0
IsList links None ns = ns ≡ []
IsList links (Some chain) ns = IsChain links chain ns

abbrev pub IsKept : List ℕ → List ℕ → ℕ → Type 0
IsKept links links' k =
    (list : Option Chain) (ns : List ℕ) → times k ns ≡ 0 → IsList links list ns
    → IsList links' list ns

-- the number is the first of a list
abbrev pub is_first : Option Chain → ℕ → Bool
is_first None n = false
is_first (Some chain) n = chain.first == n

-- those that wait for a number
abbrev pub chain_at : List (Option Chain) → ℕ → Option Chain
chain_at [] m = None
chain_at (c ∷ cs) zero = c
chain_at (c ∷ cs) (suc m) = chain_at cs m

abbrev pub IsWithin : Option Chain → ℕ → Type 0
IsWithin None many = Unit {0}
IsWithin (Some chain) many = (chain.first < many) × (chain.last < many)

pub record HasLists (q : RunQueue) (ready : List ℕ) (waits : ℕ → List ℕ) : Type 0 where
  pub ready_is : IsList q.links.items q.ready ready
  pub waits_are : (m : ℕ) → IsList q.links.items (chain_at q.waiters.items m) (waits m)

pub record IsNowhere (k : ℕ) (ready : List ℕ) (waits : ℕ → List ℕ) : Type 0 where
  pub in_ready : times k ready ≡ 0
  pub in_waits : (m : ℕ) → times k (waits m) ≡ 0

pub record IsOnce (ready : List ℕ) (waits : ℕ → List ℕ) : Type 0 where
  pub in_ready : (m n : ℕ) → times n (waits m) + times n ready ≤ 1
  pub in_waits : (m k n : ℕ) → m ≢ k → times n (waits m) + times n (waits k) ≤ 1

abbrev pub with_waiter : (ℕ → List ℕ) → ℕ → ℕ → ℕ → List ℕ
with_waiter waits on k m = cond (m == on) (k ∷ waits m) (waits m)

abbrev pub without_waiters : (ℕ → List ℕ) → ℕ → ℕ → List ℕ
without_waiters waits k m = cond (m == k) [] (waits m)

-- no number less
abbrev pub IsAsLong : RunQueue → RunQueue → Type 0
IsAsLong q q' =
    (length q'.links.items ≡ length q.links.items)
    × (length q.waiters.items ≤ length q'.waiters.items)

abbrev pub KeepsLists : RunQueue → RunQueue → Type 0
KeepsLists q q' =
    ((ready : List ℕ) (waits : ℕ → List ℕ) → HasLists q ready waits → HasLists q' ready waits)
    × (q'.unfinished ≡ q.unfinished) × IsAsLong q q'

-- the number is ready, before all others
abbrev pub Adds : RunQueue → RunQueue → ℕ → Type 0
Adds q q' k =
    (ready : List ℕ) (waits : ℕ → List ℕ) → HasLists q ready waits → IsNowhere k ready waits
    → HasLists q' (k ∷ ready) waits

-- the first that is ready, or none where none is
abbrev pub Takes : RunQueue → RunQueue → Option ℕ → Type 0
Takes q q' None =
    (ready : List ℕ) (waits : ℕ → List ℕ) → HasLists q ready waits
    → (ready ≡ []) × HasLists q' ready waits
Takes q q' (Some n) =
    (ready : List ℕ) (waits : ℕ → List ℕ) → HasLists q ready waits → IsOnce ready waits
    → (rest : List ℕ) × (ready ≡ n ∷ rest) × HasLists q' rest waits

-- the number waits for that one
abbrev pub Waits : RunQueue → RunQueue → ℕ → ℕ → Type 0
Waits q q' k on =
    (ready : List ℕ) (waits : ℕ → List ℕ) → HasLists q ready waits → IsNowhere k ready waits
    → HasLists q' ready (with_waiter waits on k)

-- what waited for the number is ready
abbrev pub Wakes : RunQueue → RunQueue → ℕ → Type 0
Wakes q q' k =
    (ready : List ℕ) (waits : ℕ → List ℕ) → HasLists q ready waits → IsOnce ready waits
    → HasLists q' (waits k ++ ready) (without_waiters waits k)

-- the same of the whole queue: one number more, one that waits, one that has ended, and one that is ready again
abbrev pub AddsOne : RunQueue → RunQueue → ℕ → Type 0
AddsOne q q' k =
    Adds q q' k × (q'.unfinished ≡ q.unfinished + 1)
    × (length q'.links.items ≡ length q.links.items + 1)
    × (length q'.links.items ≤ length q'.waiters.items)

abbrev pub DelaysOne : RunQueue → RunQueue → ℕ → ℕ → Type 0
DelaysOne q q' k on = Waits q q' k on × (q'.unfinished ≡ q.unfinished) × IsAsLong q q'

abbrev pub ReadiesOne : RunQueue → RunQueue → ℕ → Type 0
ReadiesOne q q' k = Adds q q' k × (q'.unfinished ≡ q.unfinished) × IsAsLong q q'

abbrev pub EndsOne : RunQueue → RunQueue → ℕ → Type 0
EndsOne q q' k = Wakes q q' k × (q'.unfinished + 1 ≡ q.unfinished) × IsAsLong q q'

-- one number, which is ready
abbrev pub HasOne : RunQueue → Type 0
HasOne q =
    HasLists q (0 ∷ []) (λ m. []) × (q.unfinished ≡ 1) × (length q.links.items ≡ 1)
    × (1 ≤ length q.waiters.items)
