-- What each step of a revision keeps and uses up.
use Rattle.std.proofs.Common.{◌≡◌, ◌⊎◌, inl, inr, ℕ, suc, ◌+◌, ◌*◌, ◌≤◌, List, [], ◌∷◌, length, Option, Some, None, refl, sym, ap, ◌∙◌, subst, arith, le_refl}
use Rattle.rev_num.specs.Path.{Path, child}
use Rattle.rev_num.specs.declared.value.Value.{Value}
use Rattle.rev_num.specs.declared.outcome.Trap.{Trap}
use Rattle.rev_syntax.specs.Trees.{Statements}
use Rattle.revision_machine.specs.Machine.{Event, Moves, Forks, Joins, Ended}
use Rattle.name_tables.specs.Names.{Name}
use Rattle.typed_programs.specs.Layout.{SharedVariable, variables, Procedure}
use Rattle.revision_calculus.specs.Program.{variable_named, Setting}
use Rattle.revision_calculus.specs.State.{write_at, Frame, Phase, running, joining, done, trapped, Local}
use Rattle.revision_calculus.specs.Evaluation.{on_top, set_local, set_named, set, give}
use Rattle.revision_calculus.specs.Step.{enter, append, frame_of, finish, end_frame}
use Rattle.revision_calculus.specs.HandlesHeld.{IsHandle, LocationsHold, LocalsHold, FramesHold, Holds, in_locations, in_frames, in_phase, beyond_first, weight_at, weight}
use Rattle.revision_calculus.proofs.Values.{OfEach}
use Rattle.revision_calculus.proofs.Handles.{write_held, with_local_held, Held, not_held, locals_of_held}

-- ---- weights

pub weight_same : (p : Phase) (fs gs : List Frame) (f : ℕ) → beyond_first fs ≡ beyond_first gs
    → weight_at p fs f ≡ weight_at p gs f
weight_same running fs gs f e = ap (λ n. 2 * f + 1 + n) e
weight_same (joining q left) fs gs f e = ap (λ n. 2 * f + 2 + n) e
weight_same done fs gs f e = refl
weight_same (trapped t) fs gs f e = refl

pub weight_running : (l : Local) → l.phase ≡ running → weight l ≡ 2 * l.fuel + 1 + beyond_first l.frames
weight_running l run = ap (λ p. weight_at p l.frames l.fuel) run

-- ---- a step of its own

-- by a statement that was paid for
pub record Stepped (l l' : Local) : Type 0 where
  pub forks : l'.forks ≡ l.forks
  pub held : (q : Path) → Holds l' q → Holds l q
  pub fuel : l'.fuel ≤ l.fuel
  pub weight : weight l' ≤ weight l + 1

-- one that costs weight by itself
pub record Moved (l l' : Local) : Type 0 where
  pub forks : l'.forks ≡ l.forks
  pub held : (q : Path) → Holds l' q → Holds l q
  pub fuel : l'.fuel ≤ l.fuel
  pub weight : weight l' + 1 ≤ weight l

pub stepped : {l l' : Local} → Moved l l' → Stepped l l'
stepped h = let w = h.weight in record { forks = h.forks; held = h.held; fuel = h.fuel; weight = omega arith }

-- a fork by a statement that was paid for
pub record Split (r : Path) (l l' c : Local) : Type 0 where
  pub forks : l'.forks ≡ suc l.forks
  pub held : (q : Path) → Holds l' q → Holds l q ⊎ (q ≡ child r l.forks)
  pub given : (q : Path) → Holds c q → Holds l q
  pub fuel : l'.fuel + c.fuel ≤ l.fuel
  pub weight : weight l' + weight c ≤ weight l + 1
  pub none : c.forks ≡ 0

-- what a paid statement does
abbrev pub Paid : Path → Local → Event Local → Type 0
Paid r l (Moves l') = Stepped l l'
Paid r l (Forks l' c) = Split r l l' c
Paid r l (Joins q) = ⊥
Paid r l Ended = ⊥

-- the same locations and frames, in a phase without a handle
pub same_held : (l l' : Local) (q : Path) → l'.locations ≡ l.locations → l'.frames ≡ l.frames
    → ((left : Option Name) → l'.phase ≡ joining q left → Holds l q) → Holds l' q → Holds l q
same_held l l' q ms fs from (in_locations h) = in_locations (subst (λ x. LocationsHold x q) ms h)
same_held l l' q ms fs from (in_frames h) = in_frames (subst (λ x. FramesHold x q) fs h)
same_held l l' q ms fs from (in_phase left e) = from left e

pub trap_held : (l : Local) (tr : Trap) (q : Path) → Holds (record l { phase = trapped tr }) q → Holds l q
trap_held l tr q =
    same_held l (record l { phase = trapped tr }) q refl refl
    (λ left e. absurd (let clash : trapped tr ≡ joining q left = e in cc))

pub trap_ok : (l : Local) (tr : Trap) → l.phase ≡ running → Moved l (record l { phase = trapped tr })
trap_ok l tr run = record { forks = refl; held = trap_held l tr; fuel = le_refl l.fuel; weight = less }
  where
    less : weight (record l { phase = trapped tr }) + 1 ≤ weight l
    less = let w = weight_running l run in omega arith

-- ---- assignment

-- a value went to a left side
pub record Assigned (l l' : Local) (x : Value) : Type 0 where
  pub forks : l'.forks ≡ l.forks
  pub fuel : l'.fuel ≡ l.fuel
  pub phase : l'.phase ≡ l.phase
  pub beyond : beyond_first l'.frames ≡ beyond_first l.frames
  pub held : (q : Path) → Holds l' q → Holds l q ⊎ IsHandle x q

pub assigned_weight : {l l' : Local} {x : Value} → Assigned l l' x → weight l' ≡ weight l
assigned_weight {l} {l'} a =
    ap (λ p. weight_at p l'.frames l'.fuel) a.phase ∙ ap (λ f. weight_at l.phase l'.frames f) a.fuel
    ∙ weight_same l.phase l'.frames l.frames l.fuel a.beyond

pub location_assigned : (l : Local) (n : ℕ) (x : Value)
    → Assigned l (record l { locations = write_at l.locations n x }) x
location_assigned l n x = record { forks = refl; fuel = refl; phase = refl; beyond = refl; held = held }
  where
    by : (q : Path) → LocationsHold l.locations q ⊎ IsHandle x q → Holds l q ⊎ IsHandle x q
    by q (inl i) = inl (in_locations i)
    by q (inr i) = inr i

    held : (q : Path) → Holds (record l { locations = write_at l.locations n x }) q → Holds l q ⊎ IsHandle x q
    held q (in_locations h) = by q (write_held l.locations n x q h)
    held q (in_frames h) = inl (in_frames h)
    held q (in_phase left e) = inl (in_phase left e)

beyond_on_top : (change : Frame → Frame) (fs : List Frame) → beyond_first (on_top change fs) ≡ beyond_first fs
beyond_on_top change [] = refl
beyond_on_top change (f ∷ fs) = refl

top_assigned : (fs : List Frame) (name : Name) (x : Value) (q : Path)
    → FramesHold (on_top (λ f. set_local f name x) fs) q → FramesHold fs q ⊎ IsHandle x q
top_assigned [] name x q none = absurd none
top_assigned (f ∷ fs) name x q (inr h) = inl (inr h)
top_assigned (f ∷ fs) name x q (inl h) = go (with_local_held f.locals name x q h)
  where
    go : LocalsHold f.locals q ⊎ IsHandle x q → FramesHold (f ∷ fs) q ⊎ IsHandle x q
    go (inl i) = inl (inl i)
    go (inr i) = inr i

local_assigned : (l : Local) (name : Name) (x : Value)
    → Assigned l (record l { frames = on_top (λ f. set_local f name x) l.frames }) x
local_assigned l name x =
    record { forks = refl; fuel = refl; phase = refl; beyond = beyond_on_top _ l.frames; held = held }
  where
    by : (q : Path) → FramesHold l.frames q ⊎ IsHandle x q → Holds l q ⊎ IsHandle x q
    by q (inl i) = inl (in_frames i)
    by q (inr i) = inr i

    held : (q : Path) → Holds (record l { frames = on_top (λ f. set_local f name x) l.frames }) q
        → Holds l q ⊎ IsHandle x q
    held q (in_locations h) = inl (in_locations h)
    held q (in_frames h) = by q (top_assigned l.frames name x q h)
    held q (in_phase left e) = inl (in_phase left e)

pub set_assigned : (s : Setting) (l : Local) (name : Name) (x : Value) → Assigned l (set s l name x) x
set_assigned s l name x = go (variable_named (variables s.program) name)
  where
    go : (o : Option SharedVariable) → Assigned l (set_named o l name x) x
    go (Some y) = location_assigned l y.info.base x
    go None = local_assigned l name x

pub give_assigned : (s : Setting) (l : Local) (left : Option Name) (x : Value) → Assigned l (give s l left (Some x)) x
give_assigned s l (Some name) x = set_assigned s l name x
give_assigned s l None x = record { forks = refl; fuel = refl; phase = refl; beyond = refl; held = λ q h. inl h }

-- a held value went to a left side
pub assigned_ok : {l l' : Local} {x : Value} → Assigned l l' x → Held l x → Stepped l l'
assigned_ok {l} {l'} {x} a k = record { forks = a.forks; held = λ q h. by q (a.held q h); fuel = least; weight = less }
  where
    by : (q : Path) → Holds l q ⊎ IsHandle x q → Holds l q
    by q (inl i) = i
    by q (inr e) = k q e

    least : l'.fuel ≤ l.fuel
    least = let f = a.fuel in omega arith

    less : weight l' ≤ weight l + 1
    less = let w = assigned_weight a in omega arith

-- ---- frames

pub enter_ok : (block : Statements) (l : Local) → Stepped l (enter block l)
enter_ok block l = record { forks = refl; held = held; fuel = le_refl l.fuel; weight = less }
  where
    top : (fs : List Frame) (q : Path) → FramesHold (on_top (λ f. record f { rest = append block f.rest }) fs) q
        → FramesHold fs q
    top [] q none = none
    top (f ∷ fs) q h = h

    held : (q : Path) → Holds (enter block l) q → Holds l q
    held q (in_locations h) = in_locations h
    held q (in_frames h) = in_frames (top l.frames q h)
    held q (in_phase left e) = in_phase left e

    less : weight (enter block l) ≤ weight l + 1
    less =
        let w : weight (enter block l) ≡ weight l =
        weight_same l.phase (enter block l).frames l.frames l.fuel (beyond_on_top _ l.frames) in
        omega arith

pub enter_twice : (first second : Statements) (l : Local) → Stepped l (enter first (enter second l))
enter_twice first second l =
    let one = enter_ok first (enter second l) in
    let two = enter_ok second l in
    record { forks = refl; held = λ q h. two.held q (one.held q h); fuel = le_refl l.fuel; weight = less }
  where
    less : weight (enter first (enter second l)) ≤ weight l + 1
    less =
        let w : weight (enter first (enter second l)) ≡ weight (enter second l) =
        weight_same l.phase (enter first (enter second l)).frames (enter second l).frames l.fuel
        (beyond_on_top _ (enter second l).frames) in
        let u : weight (enter second l) ≡ weight l =
        weight_same l.phase (enter second l).frames l.frames l.fuel (beyond_on_top _ l.frames) in
        omega arith

pub call_ok : (l : Local) (p : Procedure) (args : List Value) (left : Option Name) → l.phase ≡ running
    → OfEach (Held l) (not_held l) args → Stepped l (record l { frames = frame_of p args left ∷ l.frames })
call_ok l p args left run k = record { forks = refl; held = held; fuel = le_refl l.fuel; weight = less l.frames refl }
  where
    l' : Local
    l' = record l { frames = frame_of p args left ∷ l.frames }

    held : (q : Path) → Holds l' q → Holds l q
    held q (in_locations h) = in_locations h
    held q (in_frames (inl h)) = locals_of_held l p.params args q k h
    held q (in_frames (inr h)) = in_frames h
    held q (in_phase left' e) = in_phase left' e

    less : (fs : List Frame) → l.frames ≡ fs → weight l' ≤ weight l + 1
    less [] e =
        let before : weight l ≡ 2 * l.fuel + 1 + 0 =
        weight_running l run ∙ ap (λ x. 2 * l.fuel + 1 + beyond_first x) e in
        let after : weight l' ≡ 2 * l.fuel + 1 + 0 = weight_running l' run ∙ ap (λ x. 2 * l.fuel + 1 + length x) e in
        omega arith
    less (f ∷ fs) e =
        let before : weight l ≡ 2 * l.fuel + 1 + length fs =
        weight_running l run ∙ ap (λ x. 2 * l.fuel + 1 + beyond_first x) e in
        let after : weight l' ≡ 2 * l.fuel + 1 + suc (length fs) =
        weight_running l' run ∙ ap (λ x. 2 * l.fuel + 1 + length x) e in
        omega arith

pub finish_ok : (l : Local) → l.phase ≡ running → Moved l (finish l)
finish_ok l run = record { forks = refl; held = held; fuel = le_refl l.fuel; weight = less }
  where
    held : (q : Path) → Holds (finish l) q → Holds l q
    held q (in_locations h) = in_locations h
    held q (in_frames none) = absurd none
    held q (in_phase left e) = absurd (let clash : done ≡ joining q left = e in cc)

    less : weight (finish l) + 1 ≤ weight l
    less = let w = weight_running l run in omega arith

pub return_ok : (s : Setting) (l : Local) (fs : List Frame) (x : Option Value) → l.phase ≡ running → l.frames ≡ fs
    → ((y : Value) → x ≡ Some y → Held l y) → Moved l (end_frame s l fs x)
return_ok s l [] x run is from = finish_ok l run
return_ok s l (f ∷ []) x run is from = finish_ok l run
return_ok s l (f ∷ g ∷ fs) x run is from = go f.left x from
  where
    l₁ : Local
    l₁ = record l { frames = g ∷ fs }

    popped : (q : Path) → Holds l₁ q → Holds l q
    popped q (in_locations h) = in_locations h
    popped q (in_frames h) = in_frames (subst (λ v. FramesHold v q) (sym is) (inr h))
    popped q (in_phase left e) = in_phase left e

    less : weight l₁ + 1 ≤ weight l
    less =
        let before : weight l ≡ 2 * l.fuel + 1 + suc (length fs) =
        weight_running l run ∙ ap (λ v. 2 * l.fuel + 1 + beyond_first v) is in
        let after : weight l₁ ≡ 2 * l.fuel + 1 + length fs = weight_running l₁ run in
        omega arith

    without : Moved l l₁
    without = record { forks = refl; held = popped; fuel = le_refl l.fuel; weight = less }

    with_value : (left : Option Name) (y : Value) → Held l y → Moved l (give s l₁ left (Some y))
    with_value left y k = record { forks = a.forks; held = λ q h. by q (a.held q h); fuel = least; weight = after }
      where
        a : Assigned l₁ (give s l₁ left (Some y)) y
        a = give_assigned s l₁ left y

        by : (q : Path) → Holds l₁ q ⊎ IsHandle y q → Holds l q
        by q (inl i) = popped q i
        by q (inr e) = k q e

        least : (give s l₁ left (Some y)).fuel ≤ l.fuel
        least = let f : (give s l₁ left (Some y)).fuel ≡ l.fuel = a.fuel in omega arith

        after : weight (give s l₁ left (Some y)) + 1 ≤ weight l
        after = let w = assigned_weight a in let u = less in omega arith

    go : (left : Option Name) (x : Option Value) → ((y : Value) → x ≡ Some y → Held l y) → Moved l (give s l₁ left x)
    go (Some name) (Some y) from = with_value (Some name) y (from y refl)
    go (Some name) None from = without
    go None x from = without
