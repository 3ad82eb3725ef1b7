-- What a join keeps and uses up.
use Rattle.std.proofs.Common.{◌≡◌, ◌≢◌, ◌⊎◌, inl, inr, ℕ, suc, ℤ, ◌+◌, ◌*◌, ◌≤◌, Bool, true, false, List, [], ◌∷◌, ◌++◌, Option, Some, None, Result, Ok, Err, refl, sym, ap, ◌∙◌, subst, arith, le_refl}
use Rattle.rev_num.specs.Path.{Path}
use Rattle.rev_num.specs.declared.value.Value.{Value}
use Rattle.rev_num.specs.declared.value.Value.TheVariants as v
use Rattle.rev_num.specs.declared.value.NumFault.{NumFault}
use Rattle.rev_num.specs.declared.outcome.Cause.TheVariants as cause
use Rattle.rev_num.specs.declared.outcome.Trap.{Trap}
use Rattle.rev_syntax.specs.Trees.{ProgramTree}
use Rattle.name_tables.specs.Names.{Name}
use Rattle.typed_programs.specs.Value.{number_of}
use Rattle.typed_programs.specs.Layout.{variables}
use Rattle.revision_calculus.specs.Program.{Setting}
use Rattle.revision_calculus.specs.State.{Location, view, Phase, running, joining, done, trapped, Local}
use Rattle.revision_calculus.specs.Evaluation.{give}
use Rattle.revision_calculus.specs.Join.{merges_of, merge_of_numbers, number_value, new_value, overwrite, join_location, Composition, merged, faults, and_later, compose, absorb, inherit, join_in, left_side, note, join}
use Rattle.revision_calculus.specs.HandlesHeld.{IsHandle, LocationsHold, Holds, in_locations, in_frames, in_phase, beyond_first, weight_at, weight}
use Rattle.revision_calculus.proofs.Values.{OfOk}
use Rattle.revision_calculus.proofs.Moves.{same_held, Assigned, assigned_weight, give_assigned}

-- ---- compose

-- the handle of q stands in the locations of the joiner or of the joinee
abbrev Either : List Location → List Location → Path → Type 0
Either ms js q = LocationsHold ms q ⊎ LocationsHold js q

-- what is said of a value that comes from the location of the joiner or of the joinee
abbrev From : Location → Location → Value → Type 0
From m j x = (q : Path) → IsHandle x q → Either (m ∷ []) (j ∷ []) q

new_value_held : (p : ProgramTree) (k : Option ℕ) (m j : Location) (x : Value) → j.written ≡ Some x
    → OfOk (From m j) (new_value p k m j x)
new_value_held p None m j x w = λ q e. inr (inl (inr (w ∙ ap Some e)))
new_value_held p (Some k) m j x w = by (merge_of_numbers p k (number_of (view m)) (number_of x) (number_of j.base))
  where
    by : (a : Result ℤ NumFault) → OfOk (From m j) (number_value a)
    by (Ok z) = λ q e. absurd cc
    by (Err f) = tt

overwrite_held : (m j : Location) (a : Result Value NumFault) (c : Location) (q : Path) → OfOk (From m j) a
    → overwrite m a ≡ Ok c → LocationsHold (c ∷ []) q → Either (m ∷ []) (j ∷ []) q
overwrite_held m j (Err f) c q k e h = absurd cc
overwrite_held m j (Ok x) c q k e h = go (subst (λ n. LocationsHold (n ∷ []) q) (sym is) h)
  where
    is : record { base = m.base; written = Some x } ≡ c
    is = cc

    go : LocationsHold (record { base = m.base; written = Some x } ∷ []) q → Either (m ∷ []) (j ∷ []) q
    go (inl (inl i)) = inl (inl (inl i))
    go (inl (inr i)) = k q (let f : Some x ≡ Some (v.Rev (Some q)) = i in cc)
    go (inr none) = absurd none

join_location_held : (p : ProgramTree) (k : Option ℕ) (m j : Location) (w : Option Value) (c : Location) (q : Path)
    → j.written ≡ w → join_location p k m j w ≡ Ok c → LocationsHold (c ∷ []) q → Either (m ∷ []) (j ∷ []) q
join_location_held p k m j None c q f e h =
    inl (subst (λ n. LocationsHold (n ∷ []) q) (let is : m ≡ c = cc in sym is) h)
join_location_held p k m j (Some x) c q f e h =
    overwrite_held m j (new_value p k m j x) c q (new_value_held p k m j x f) e h

pub compose_held : (p : ProgramTree) (n : ℕ) (ks : List (Option ℕ)) (ms js cs : List Location) (q : Path)
    → compose p n ks ms js ≡ merged cs → LocationsHold cs q → Either ms js q
compose_held p n [] ms js cs q e h = inl (subst (λ x. LocationsHold x q) (let is : ms ≡ cs = cc in sym is) h)
compose_held p n (k ∷ ks) [] js cs q e h = inl (subst (λ x. LocationsHold x q) (let is : [] ≡ cs = cc in sym is) h)
compose_held p n (k ∷ ks) (m ∷ ms) [] cs q e h =
    inl (subst (λ x. LocationsHold x q) (let is : m ∷ ms ≡ cs = cc in sym is) h)
compose_held p n (k ∷ ks) (m ∷ ms) (j ∷ js) cs q e h =
    go (λ ds f i. compose_held p (suc n) ks ms js ds q f i) (join_location p k m j j.written) refl
    (compose p (suc n) ks ms js) refl e
  where
    one : Either (m ∷ []) (j ∷ []) q → Either (m ∷ ms) (j ∷ js) q
    one (inl (inl i)) = inl (inl i)
    one (inl (inr none)) = absurd none
    one (inr (inl i)) = inr (inl i)
    one (inr (inr none)) = absurd none

    more : Either ms js q → Either (m ∷ ms) (j ∷ js) q
    more (inl i) = inl (inr i)
    more (inr i) = inr (inr i)

    go : ((ds : List Location) → compose p (suc n) ks ms js ≡ merged ds → LocationsHold ds q → Either ms js q)
        → (a : Result Location NumFault) → join_location p k m j j.written ≡ a → (later : Composition)
        → compose p (suc n) ks ms js ≡ later → and_later n a later ≡ merged cs → Either (m ∷ ms) (j ∷ js) q
    go rec (Err f) g later u e = absurd cc
    go rec (Ok c) g (faults i f) u e = absurd cc
    go rec (Ok c) g (merged ds) u e = by (subst (λ x. LocationsHold x q) (let is : c ∷ ds ≡ cs = cc in sym is) h)
      where
        by : LocationsHold (c ∷ ds) q → Either (m ∷ ms) (j ∷ js) q
        by (inl i) = one (join_location_held p k m j j.written c q refl g (inl i))
        by (inr i) = more (rec ds u i)

-- ---- joins

-- the joiner l after its join of the ended j
pub record JoinOk (l j l' : Local) : Type 0 where
  pub forks : l'.forks ≡ l.forks
  pub held : (q : Path) → Holds l' q → Holds l q ⊎ Holds j q
  pub fuel : l'.fuel ≤ l.fuel + j.fuel
  pub weight : weight l' + 1 ≤ weight l + weight j

module _ (s : Setting) (r : Path) (l : Local) (q : Path) (left : Option Name) (is : l.phase ≡ joining q left)
    (j : Local) where
  l₁ : Local
  l₁ = note q l

  before : weight l ≡ 2 * l.fuel + 2 + beyond_first l.frames
  before = ap (λ p. weight_at p l.frames l.fuel) is

  -- a trap of the joiner
  trap_ok : (t : Trap) → 2 * j.fuel ≤ weight j → JoinOk l j (record (note q l) { phase = trapped t })
  trap_ok t some = record { forks = refl; held = held; fuel = omega arith; weight = less }
    where
      held : (p : Path) → Holds (record (note q l) { phase = trapped t }) p → Holds l p ⊎ Holds j p
      held p h = inl (same_held l (record (note q l) { phase = trapped t }) p refl refl
          (λ left e. absurd (let clash : trapped t ≡ joining p left = e in cc)) h)

      less : weight (record (note q l) { phase = trapped t }) + 1 ≤ weight l + weight j
      less = let b = before in omega arith

  -- the joiner runs on with these locations, text and fuel, and its left side has a truth value
  goes_on : (to : Option Name) (locations : List Location) (text : List ℕ) (fuel : ℕ) (b : Bool)
      → ((p : Path) → LocationsHold locations p → Holds l p ⊎ Holds j p) → fuel ≤ l.fuel + j.fuel
      → 2 * j.fuel ≤ weight j →
      JoinOk l j (give s (record (note q l) { locations = locations; text = text; fuel = fuel; phase = running }) to
      (Some (v.Bool b)))
  goes_on to locations text fuel b from most some = record { forks = a.forks; held = held; fuel = least; weight = less }
    where
      mid : Local
      mid = record (note q l) { locations = locations; text = text; fuel = fuel; phase = running }

      l' : Local
      l' = give s mid to (Some (v.Bool b))

      a : Assigned mid l' (v.Bool b)
      a = give_assigned s mid to (v.Bool b)

      mid_held : (p : Path) → Holds mid p → Holds l p ⊎ Holds j p
      mid_held p (in_locations h) = from p h
      mid_held p (in_frames h) = inl (in_frames h)
      mid_held p (in_phase to' e) = absurd (let clash : running ≡ joining p to' = e in cc)

      by : (p : Path) → Holds mid p ⊎ IsHandle (v.Bool b) p → Holds l p ⊎ Holds j p
      by p (inl h) = mid_held p h
      by p (inr e) = absurd cc

      held : (p : Path) → Holds l' p → Holds l p ⊎ Holds j p
      held p h = by p (a.held p h)

      least : l'.fuel ≤ l.fuel + j.fuel
      least = let f : l'.fuel ≡ fuel = a.fuel in omega (arith, most)

      less : weight l' + 1 ≤ weight l + weight j
      less =
          let w : weight l' ≡ weight mid = assigned_weight a in
          let u : weight mid ≡ 2 * fuel + 1 + beyond_first l.frames = refl in
          let b = before in
          omega (arith, most, some)

  inherit_ok : (to : Option Name) (t : Trap) → 2 * j.fuel ≤ weight j → JoinOk l j (inherit s (note q l) to (trapped t))
  inherit_ok None t some = trap_ok t some
  inherit_ok (Some name) t some =
      goes_on (Some name) l.locations l.text l.fuel false (λ p h. inl (in_locations h)) (omega arith) some

  absorb_ok : (to : Option Name) (o : Composition)
      → compose s.program 0 (merges_of (variables s.program)) l.locations j.locations ≡ o → 2 * j.fuel ≤ weight j
      → JoinOk l j (absorb s r (note q l) to j o)
  absorb_ok to (faults n f) e some = trap_ok (record { cause = cause.Merge n f; line = l.line; origin = r }) some
  absorb_ok to (merged locations) e some =
      goes_on to locations (l.text ++ j.text) (l.fuel + j.fuel) true from (le_refl (l.fuel + j.fuel)) some
    where
      from : (p : Path) → LocationsHold locations p → Holds l p ⊎ Holds j p
      from p h = by (compose_held s.program 0 (merges_of (variables s.program)) l.locations j.locations locations p e h)
        where
          by : LocationsHold l.locations p ⊎ LocationsHold j.locations p → Holds l p ⊎ Holds j p
          by (inl i) = inl (in_locations i)
          by (inr i) = inr (in_locations i)

  pub join_ok : j.phase ≢ running → ((k : Path) (to : Option Name) → j.phase ≢ joining k to)
      → JoinOk l j (join s r l q j)
  join_ok not_running not_joining = go j.phase refl
    where
      go : (p : Phase) → j.phase ≡ p → JoinOk l j (join_in s r (note q l) (left_side l.phase) j p)
      go running f = absurd (not_running f)
      go (joining k to) f = absurd (not_joining k to f)
      go done f = absorb_ok (left_side l.phase)
          (compose s.program 0 (merges_of (variables s.program)) l.locations j.locations) refl some
        where
          some : 2 * j.fuel ≤ weight j
          some = let w : weight j ≡ 2 * j.fuel = ap (λ p. weight_at p j.frames j.fuel) f in omega arith
      go (trapped t) f = inherit_ok (left_side l.phase) t some
        where
          some : 2 * j.fuel ≤ weight j
          some = let w : weight j ≡ 2 * j.fuel = ap (λ p. weight_at p j.frames j.fuel) f in omega arith

-- the count of forks, for every join
pub join_forks : (s : Setting) (r : Path) (l : Local) (q : Path) (j : Local) → (join s r l q j).forks ≡ l.forks
join_forks s r l q j = go j.phase
  where
    given : (m : Local) (to : Option Name) (x : Value) → m.forks ≡ l.forks → (give s m to (Some x)).forks ≡ l.forks
    given m to x e = let a = give_assigned s m to x in a.forks ∙ e

    of_composition : (to : Option Name) (o : Composition) → (absorb s r (note q l) to j o).forks ≡ l.forks
    of_composition to (faults n f) = refl
    of_composition to (merged locations) =
        given
        (record (note q l) { locations = locations; text = l.text ++ j.text; fuel = l.fuel + j.fuel; phase = running })
        to (v.Bool true) refl

    of_trap : (to : Option Name) (t : Trap) → (inherit s (note q l) to (trapped t)).forks ≡ l.forks
    of_trap None t = refl
    of_trap (Some name) t = given (record (note q l) { phase = running }) (Some name) (v.Bool false) refl

    go : (p : Phase) → (join_in s r (note q l) (left_side l.phase) j p).forks ≡ l.forks
    go running = refl
    go (joining k to) = refl
    go done = of_composition (left_side l.phase)
        (compose s.program 0 (merges_of (variables s.program)) l.locations j.locations)
    go (trapped t) = of_trap (left_side l.phase) t
