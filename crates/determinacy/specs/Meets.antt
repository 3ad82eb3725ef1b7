-- The calculus keeps the conditions of the rules of a runner.
use Rattle.std.proofs.Common.{◌≡◌, ◌≢◌, ℕ, ◌+◌, ◌*◌, ◌≤◌, List, Option, refl, sym, ap, ◌∙◌, arith}
use Rattle.rev_num.specs.Path.{Path}
use Rattle.name_tables.specs.Names.{Name}
use Rattle.revision_machine.specs.Machine.{Moves, Forks, Joins, Ended}
use Rattle.revision_machine.specs.Conditions.{Spends}
use Rattle.revision_machine.specs.Rules.{Keeps, IsFirst, IsRoomy}
use Rattle.revision_calculus.specs.Program.{Setting}
use Rattle.revision_calculus.specs.State.{Frame, Phase, running, joining, done, trapped, Local}
use Rattle.revision_calculus.specs.Step.{next, by_phase}
use Rattle.revision_calculus.specs.Join.{join}
use Rattle.revision_calculus.specs.Calculus.{main, calculus}
use Rattle.revision_calculus.specs.HandlesHeld as held
use Rattle.revision_calculus.proofs.Moves.{Moved}
use Rattle.revision_calculus.proofs.Events.{ForkOk, WantOk, ended_phase}
use Rattle.revision_calculus.proofs.Joining.{JoinOk}
use Rattle.revision_calculus.proofs.Meets.{event, joins_ok, counts, handles, main_holds_none}
use Rattle.determinacy.specs.Rules.{ends, weight, most_fuel, rules_of, IsSmall}

-- the weight of the calculus' own bound on steps, with 29 for each unit of fuel and 28 for each fork
abbrev inner : Local → ℕ
inner l = 29 * l.fuel + 28 * l.forks + held.weight l

-- it does not wait at a join
abbrev IsFree : Phase → Type 0
IsFree p = (q : Path) (left : Option Name) → p ≢ joining q left

-- the weight is the inner one, or 1 more
module _ (fs : List Frame) (fuel forks : ℕ) where
  least_at : (p : Phase)
      → 29 * fuel + 28 * forks + held.weight_at p fs fuel ≤ 31 * fuel + 28 * forks + ends p fs
  least_at running = omega arith
  least_at (joining q left) = omega arith
  least_at done = omega arith
  least_at (trapped t) = omega arith

  most_at : (p : Phase)
      → 31 * fuel + 28 * forks + ends p fs ≤ 29 * fuel + 28 * forks + held.weight_at p fs fuel + 1
  most_at running = omega arith
  most_at (joining q left) = omega arith
  most_at done = omega arith
  most_at (trapped t) = omega arith

  -- all but one that waits have the 1 more
  full_at : (p : Phase) → IsFree p
      → 29 * fuel + 28 * forks + held.weight_at p fs fuel + 1 ≤ 31 * fuel + 28 * forks + ends p fs
  full_at running free = omega arith
  full_at (joining q left) free = absurd (free q left refl)
  full_at done free = omega arith
  full_at (trapped t) free = omega arith

least : (l : Local) → inner l ≤ weight l
least l = least_at l.frames l.fuel l.forks l.phase

most : (l : Local) → weight l ≤ inner l + 1
most l = most_at l.frames l.fuel l.forks l.phase

full : (l : Local) → IsFree l.phase → inner l + 1 ≤ weight l
full l free = full_at l.frames l.fuel l.forks l.phase free

module _ (s : Setting) where
  moves_free : (r : Path) (l l' : Local) → next s r l ≡ Moves l' → IsFree l.phase
  moves_free r l l' e q left is =
      let f : Joins q ≡ Moves l' = sym (ap (by_phase s r l) is) ∙ e in cc

  forks_free : (r : Path) (l l' c : Local) → next s r l ≡ Forks l' c → IsFree l.phase
  forks_free r l l' c e q left is =
      let f : Joins q ≡ Forks l' c = sym (ap (by_phase s r l) is) ∙ e in cc

  ended_free : (q : Path) (j : Local) → next s q j ≡ Ended → IsFree j.phase
  ended_free q j e k to = (ended_phase s q j e k to).1

  move_spends : (r : Path) (l l' : Local) → next s r l ≡ Moves l' → weight l' + 1 ≤ weight l
  move_spends r l l' e =
      let h : Moved l l' = event s r l e in
      let k = h.fuel in let n = h.forks in let w = h.weight in
      let f = full l (moves_free r l l' e) in let b = most l' in omega arith

  fork_spends : (r : Path) (l l' c : Local) → next s r l ≡ Forks l' c
      → weight l' + weight c + 1 ≤ weight l
  fork_spends r l l' c e =
      let h : ForkOk r l l' c = event s r l e in
      let k = h.fuel in let n = h.forks in let z = h.none in let w = h.weight in
      let f = full l (forks_free r l l' c e) in let b = most l' in let d = most c in omega arith

  want_spends : (r q : Path) (l : Local) → next s r l ≡ Joins q → 1 ≤ weight l
  want_spends r q l e =
      let h : WantOk l q = event s r l e in let w = h.weight in let b = least l in omega arith

  join_spends : (r q : Path) (l j : Local) → next s r l ≡ Joins q → next s q j ≡ Ended
      → weight (join s r l q j) + 1 ≤ weight l + weight j
  join_spends r q l j e f =
      let h : JoinOk l j (join s r l q j) = joins_ok s r q l j e f in
      let k = h.fuel in let n = h.forks in let w = h.weight in
      let g = full j (ended_free q j f) in let b = least l in let d = most (join s r l q j) in
      omega arith

  pub spends : Spends (calculus s) 1 weight
  spends = record {
    moves = move_spends;
    forks = fork_spends;
    wants = want_spends;
    joins = join_spends;
  }

  pub keeps : Keeps (rules_of s)
  keeps = record { counts = counts s; handles = handles s; spends = spends }

  pub is_first : (fuel : ℕ) → fuel ≤ most_fuel → IsFirst (rules_of s) (main s fuel)
  is_first fuel bound = record { none = main_holds_none s fuel; room = omega arith }

  pub is_small : (l : Local) → IsRoomy (rules_of s) l → IsSmall l
  is_small l room = record { forks = omega arith; fuel = omega arith }
