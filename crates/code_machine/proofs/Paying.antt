-- What events and joins use up of a revision's weight and of what it pays for forks with.
use Rattle.std.proofs.Common.{◌≡◌, ◌∙◌, ℕ, zero, suc, ◌+◌, ◌-◌, ◌*◌, ◌≤◌, Bool, true, false, List, Option, Some, None, Ok, Err, refl, sym, ap, subst, arith}
use Rattle.std.specs.Prelude.{slice_get, min, ◌/◌}
use Rattle.rev_code.specs.declared.code.CodeBlock.{CodeBlock}
use Rattle.rev_code.specs.Words.{Word}
use Rattle.rev_code.specs.State.{State}
use Rattle.rev_code.specs.Step.{Comes, goes, traps, forks, joins, ends, stuck, step, onward, reach}
use Rattle.rev_code.specs.Events as events
use Rattle.code_soundness.specs.Prices as prices
use Rattle.code_soundness.specs.Prices.{Prices, entry_prices, place, below, total}
use Rattle.code_soundness.specs.Paid.{UsesUp}
use Rattle.code_soundness.proofs.Stepping.{uses}
use Rattle.code_soundness.proofs.Priced.{entry_bears}
use Rattle.code_soundness.specs.AcceptedCode.{notes_of}
use Rattle.version_map.specs.Composing.{Composition, composed}
use Rattle.code_machine.specs.Local.{CodeRun, IsVerified, under, Trap, Phase, running, done, trapped, Local, at_work, End, end_of}
use Rattle.code_machine.specs.Leg.{longest, clock, leg}
use Rattle.code_machine.specs.Joining.{merges, mains, absorb, inherit, join_in, join_end, join}
use Rattle.code_machine.specs.Machines.{Act, Goes, Bears, Wants, Stops, fork, act_of, act_in, act}
use Rattle.code_machine.specs.Weights.{weight_in, weight, fork_prices, pay_in, pay}
use Rattle.code_machine.proofs.Legs.{accepted, no_longer}
use Rattle.code_machine.proofs.Acts.{HasForks, leg_keeps_forks}
use Rattle.code_machine.proofs.Events.{IsAt, stands}

pub fork_bears : (most : ℕ) → prices.Bears fork_prices most
fork_bears most = record {
  on = λ len at to less inside short. omega arith;
  back = λ len at to less short. omega arith;
  charge = omega arith;
  call = λ len short. omega arith;
}

first_of : (a b c : ℕ) → a ≤ a + b + c
first_of a b c = omega arith

-- ---- legs, at any prices

abbrev place_in : CodeRun → Prices → ℕ → ℕ → ℕ
place_in g p n at = place g.code (notes_of g.code) p n at

module _ (g : CodeRun) (ok : IsVerified g) {H : Type 0} (p : Prices)
    (bears : prices.Bears p (longest g.code.blocks)) where
  abbrev price : State H → ℕ
  price c = total g.code (notes_of g.code) p c

  -- what is left at an event, where there was so much
  abbrev pub Leaves : ℕ → Comes H → Type 0
  Leaves most (goes c) = Unit {0}
  Leaves most (traps c e) = p.fuel * c.fuel ≤ most
  Leaves most (forks c n args) =
      (price c ≤ most) × (place_in g p c.block (suc c.at) + p.paid + p.each ≤ place_in g p c.block c.at)
      × ((len : ℕ) × (place_in g p n 0 ≤ p.left len 0 + p.other))
  Leaves most (joins c try h) =
      (price c ≤ most) × (place_in g p c.block (suc c.at) + p.each ≤ place_in g p c.block c.at)
  Leaves most (ends c w) = p.fuel * c.fuel ≤ most
  Leaves most stuck = Unit {0}

  more_left : (m n : ℕ) → m ≤ n → (o : Comes H) → Leaves m o → Leaves n o
  more_left m n le (goes c) h = tt
  more_left m n le (traps c e) h = omega (arith, le, h)
  more_left m n le (forks c k args) h = (let a = h.0 in omega (arith, le, a), h.1, h.2)
  more_left m n le (joins c try k) h = (let a = h.0 in omega (arith, le, a), h.1)
  more_left m n le (ends c w) h = omega (arith, le, h)
  more_left m n le stuck h = tt

  same_price : (c c' : State H) → c' ≡ c → price c' ≤ price c
  same_price c c' e = (let z : price c' ≡ price c = ap price e in omega (arith, z))

  fuel_in : (c : State H) → p.fuel * c.fuel ≤ price c
  fuel_in c = first_of (p.fuel * c.fuel) (place_in g p c.block c.at) (below g.code (notes_of g.code) p c.below)

  at_event : (c : State H) (o : Comes H) → IsAt c o → UsesUp g.code (notes_of g.code) p c o → Leaves (price c) o
  at_event c (goes c') a u = tt
  at_event c (traps c' e) a u = subst (λ n. p.fuel * n ≤ price c) (sym (ap (λ z. z.fuel) a.0)) (fuel_in c)
  at_event c (forks c' n args) a u = (
    same_price c c' a,
    subst (λ z. place_in g p z.block (suc z.at) + p.paid + p.each ≤ place_in g p z.block z.at) (sym a) u.0,
    u.1,
  )
  at_event c (joins c' try h) a u =
      (same_price c c' a, subst (λ z. place_in g p z.block (suc z.at) + p.each ≤ place_in g p z.block z.at) (sym a) u)
  at_event c (ends c' w) a u = subst (λ n. p.fuel * n ≤ price c) (sym (ap (λ z. z.fuel) a)) (fuel_in c)
  at_event c stuck a u = tt

  uses_up : (c : State H) → UsesUp g.code (notes_of g.code) p c (step (under g) c)
  uses_up c = uses (under g) (notes_of g.code) (accepted g ok).certified p (longest g.code.blocks) bears
      (λ n b. no_longer g.code.blocks n b) c

  reach_leaves : (k : ℕ) (c : State H) → Leaves (price c) (reach (under g) k c)
  reach_leaves zero c = at_event c (step (under g) c) (stands g c) (uses_up c)
  reach_leaves (suc k) c = by (step (under g) c) (stands g c) (uses_up c) (λ d. reach_leaves k d)
    where
      by : (o : Comes H) → IsAt c o → UsesUp g.code (notes_of g.code) p c o
          → ((d : State H) → Leaves (price d) (reach (under g) k d))
          → Leaves (price c) (onward (λ d. reach (under g) k d) o)
      by (goes d) a u rec = more_left (price d) (price c) (omega (arith, u)) (reach (under g) k d) (rec d)
      by (traps d e) a u rec = at_event c (traps d e) a u
      by (forks d n args) a u rec = at_event c (forks d n args) a u
      by (joins d try h) a u rec = at_event c (joins d try h) a u
      by (ends d w) a u rec = at_event c (ends d w) a u
      by stuck a u rec = tt

  pub leg_leaves : (c : State H) → Leaves (price c) (leg g c)
  leg_leaves c = reach_leaves (clock g c) c

half_less : (n : ℕ) → n / 2 ≤ n
half_less n = omega arith

min_less : (a b : ℕ) → min a b ≤ b
min_less a b = omega arith

pub part_less : (share fuel : ℕ) → events.part share fuel ≤ fuel
part_less share fuel = let a = min_less share (fuel / 2) in let b = half_less fuel in omega (arith, a, b)

-- by the prices of entries, and by those of forks
fork_entries : (f q x y z b k : ℕ) → q ≤ f → x + 3 + 0 ≤ y → z ≤ 0 + 0 → 3 * f + y + b ≤ k
    → (3 * (f - q) + x + b + 2) + (3 * q + z + 0 + 2) + 1 ≤ k + 2
fork_entries f q x y z b k h u v a = omega (arith, h, u, v, a)

fork_pays : (f q x y z b k : ℕ) → q ≤ f → x + 1 + 0 ≤ y → z ≤ 0 + 0 → 1 * f + y + b ≤ k
    → (1 * (f - q) + x + b) + (1 * q + z + 0) + 1 ≤ k
fork_pays f q x y z b k h u v a = omega (arith, h, u, v, a)

behind : (f n x y b k : ℕ) → x + 0 ≤ y → 3 * f + y + b ≤ k → (m : ℕ) → m ≤ n
    → 3 * (f + m) + x + b + 2 + 1 ≤ k + 2 + (3 * n + 1)
behind f n x y b k u a m le = omega (arith, u, a, le)

behind_pay : (f n x y b k : ℕ) → x + 0 ≤ y → 1 * f + y + b ≤ k → (m : ℕ) → m ≤ n → 1 * (f + m) + x + b ≤ k + n
behind_pay f n x y b k u a m le = omega (arith, u, a, le)

-- ---- acts

module _ (g : CodeRun) {H : Type 0} where
  pub record MoveOk (l l' : Local H) : Type 0 where
    pub forks : l'.state.forks ≡ l.state.forks
    pub weight : weight g l' + 1 ≤ weight g l
    pub pay : pay g l' ≤ pay g l

  pub record BearOk (l : Local H) (u : H → Local H) (c : Local H) : Type 0 where
    pub forks : (h : H) → (u h).state.forks ≡ suc l.state.forks
    pub none : c.state.forks ≡ 0
    pub weight : (h : H) → weight g (u h) + weight g c + 1 ≤ weight g l
    pub pay : (h : H) → pay g (u h) + pay g c + 1 ≤ pay g l

  pub record WantOk (l : Local H) : Type 0 where
    pub works : l ≡ at_work l.state
    pub weight : 1 ≤ weight g l

  abbrev pub ActOk : Local H → Act H → Type 0
  ActOk l (Goes l') = MoveOk l l'
  ActOk l (Bears u c) = BearOk l u c
  ActOk l (Wants q) = WantOk l
  ActOk l Stops = Unit {0}

module _ (g : CodeRun) (ok : IsVerified g) {H : Type 0} where
  abbrev entry_price : State H → ℕ
  entry_price c = total g.code (notes_of g.code) entry_prices c

  abbrev fork_price : State H → ℕ
  fork_price c = total g.code (notes_of g.code) fork_prices c

  abbrev EntryLeaves : ℕ → Comes H → Type 0
  EntryLeaves n o = Leaves g ok entry_prices (entry_bears (longest g.code.blocks)) n o

  abbrev ForkLeaves : ℕ → Comes H → Type 0
  ForkLeaves n o = Leaves g ok fork_prices (fork_bears (longest g.code.blocks)) n o

  entry_leaves : (c : State H) → EntryLeaves (entry_price c) (leg g c)
  entry_leaves c = leg_leaves g ok entry_prices (entry_bears (longest g.code.blocks)) c

  fork_leaves : (c : State H) → ForkLeaves (fork_price c) (leg g c)
  fork_leaves c = leg_leaves g ok fork_prices (fork_bears (longest g.code.blocks)) c

  ended_ok : (c d : State H) (ph : Phase H) → weight_in g d ph ≡ 3 * d.fuel + 1 → pay_in g d ph ≡ d.fuel
      → d.forks ≡ c.forks → 3 * d.fuel ≤ entry_price c → 1 * d.fuel ≤ fork_price c
      → MoveOk g (at_work c) (record { state = d; phase = ph })
  ended_ok c d ph w y e a b = record { forks = e; weight = omega (arith, w, a); pay = omega (arith, y, b) }

  fork_ok : (c d : State H) (n : ℕ) (args : List (Word H)) (o : Option CodeBlock) → d.forks ≡ c.forks
      → EntryLeaves (entry_price c) (forks d n args) → ForkLeaves (fork_price c) (forks d n args)
      → ActOk g (at_work c) (fork g d n args o)
  fork_ok c d n args None e a b = tt
  fork_ok c d n args (Some body) e a b = record {
    forks = λ h. ap suc e;
    none = refl;
    weight = λ h.
        fork_entries d.fuel (events.part g.share d.fuel) _ _ _ (below g.code (notes_of g.code) entry_prices d.below)
        (entry_price c) (part_less g.share d.fuel) a.1 a.2.1 a.0;
    pay = λ h. fork_pays d.fuel (events.part g.share d.fuel) _ _ _ (below g.code (notes_of g.code) fork_prices d.below)
        (fork_price c) (part_less g.share d.fuel) b.1 b.2.1 b.0;
  }

  by_event : (c : State H) (o : Comes H) → HasForks c.forks o → EntryLeaves (entry_price c) o
      → ForkLeaves (fork_price c) o → ActOk g (at_work c) (act_of g o)
  by_event c (goes d) e a b = tt
  by_event c (traps d x) e a b =
      ended_ok c d (trapped (record { cause = x; line = d.line; origin = None })) refl refl e a b
  by_event c (forks d n args) e a b = fork_ok c d n args (slice_get g.code.blocks n) e a b
  by_event c (joins d try h) e a b = record { works = refl; weight = omega arith }
  by_event c (ends d w) e a b = ended_ok c d done refl refl e a b
  by_event c stuck e a b = tt

  pub act_ok : (l : Local H) → ActOk g l (act g l)
  act_ok l = by l.phase
    where
      by : (ph : Phase H) → ActOk g (record { state = l.state; phase = ph }) (act_in g l.state ph)
      by running = by_event l.state (leg g l.state) (leg_keeps_forks g l.state) (entry_leaves l.state)
          (fork_leaves l.state)
      by done = tt
      by (trapped t) = tt

  -- ---- joins

  some_weight : (j : Local H) → 3 * j.state.fuel + 1 ≤ weight g j
  some_weight j = by j.phase
    where
      by : (ph : Phase H) → 3 * j.state.fuel + 1 ≤ weight_in g j.state ph
      by running =
          let a = first_of (3 * j.state.fuel) (place g.code (notes_of g.code) entry_prices j.state.block j.state.at)
          (below g.code (notes_of g.code) entry_prices j.state.below) in
          omega (arith, a)
      by done = omega arith
      by (trapped t) = omega arith

  pub some_pay : (j : Local H) → j.state.fuel ≤ pay g j
  some_pay j = by j.phase
    where
      by : (ph : Phase H) → j.state.fuel ≤ pay_in g j.state ph
      by running =
          let a = first_of (1 * j.state.fuel) (place g.code (notes_of g.code) fork_prices j.state.block j.state.at)
          (below g.code (notes_of g.code) fork_prices j.state.below) in
          omega (arith, a)
      by done = omega arith
      by (trapped t) = omega arith

  -- of a joiner at work in c, after it joined a revision with this fuel
  record Joins (c : State H) (fuel : ℕ) (l' : Local H) : Type 0 where
    forks : l'.state.forks ≡ c.forks
    weight : weight g l' + 1 ≤ entry_price c + 2 + (3 * fuel + 1)
    pay : pay g l' ≤ fork_price c + fuel

  trap_joins : (c d : State H) (fuel : ℕ) (l' : Local H) → l'.state.forks ≡ d.forks → d.forks ≡ c.forks
      → weight g l' ≡ 3 * d.fuel + 1 → pay g l' ≡ d.fuel → entry_price d ≤ entry_price c → fork_price d ≤ fork_price c
      → Joins c fuel l'
  trap_joins c d fuel l' q e w y a b =
      let u = first_of (3 * d.fuel) (place g.code (notes_of g.code) entry_prices d.block d.at)
      (below g.code (notes_of g.code) entry_prices d.below) in
      let v = first_of (1 * d.fuel) (place g.code (notes_of g.code) fork_prices d.block d.at)
      (below g.code (notes_of g.code) fork_prices d.below) in
      record { forks = q ∙ e; weight = omega (arith, w, a, u); pay = omega (arith, y, b, v) }

  absorb_joins : (c d : State H) (try : Bool) (h : H) (j : End H) (o : Composition (Word H)) → d.forks ≡ c.forks
      → EntryLeaves (entry_price c) (joins d try h) → ForkLeaves (fork_price c) (joins d try h)
      → Joins c j.fuel (absorb d try h j o)
  absorb_joins c d try h j (Ok ws) e a b = record {
    forks = e;
    weight = behind d.fuel j.fuel _ _ (below g.code (notes_of g.code) entry_prices d.below) (entry_price c) a.1 a.0
        j.fuel (omega arith);
    pay = behind_pay d.fuel j.fuel _ _ (below g.code (notes_of g.code) fork_prices d.below) (fork_price c) b.1 b.0
        j.fuel (omega arith);
  }
  absorb_joins c d try h j (Err f) e a b = trap_joins c d j.fuel (absorb d try h j (Err f)) refl e refl refl a.0 b.0

  inherit_joins : (c d : State H) (try : Bool) (h : H) (fuel : ℕ) (t : Trap H) → d.forks ≡ c.forks
      → EntryLeaves (entry_price c) (joins d try h) → ForkLeaves (fork_price c) (joins d try h)
      → Joins c fuel (inherit d try h t)
  inherit_joins c d true h fuel t e a b =
      let u = behind d.fuel fuel _ _ (below g.code (notes_of g.code) entry_prices d.below) (entry_price c) a.1 a.0 0
      (omega arith) in
      let v = behind_pay d.fuel fuel _ _ (below g.code (notes_of g.code) fork_prices d.below) (fork_price c) b.1 b.0 0
      (omega arith) in
      record { forks = e; weight = omega (arith, u); pay = omega (arith, v) }
  inherit_joins c d false h fuel t e a b = trap_joins c d fuel (inherit d false h t) refl e refl refl a.0 b.0

  in_joins : (c d : State H) (try : Bool) (h : H) (j : End H) (ph : Phase H) → d.forks ≡ c.forks
      → EntryLeaves (entry_price c) (joins d try h) → ForkLeaves (fork_price c) (joins d try h)
      → Joins c j.fuel (join_in g d try h j ph)
  in_joins c d try h j done e a b =
      absorb_joins c d try h j (composed (merges g) (mains d.locations j.written) j.written) e a b
  in_joins c d try h j (trapped t) e a b = inherit_joins c d try h j.fuel t e a b
  in_joins c d try h j running e a b =
      let u = a.0 in let v = b.0 in record { forks = e; weight = omega (arith, u); pay = omega (arith, v) }

  no_join : (c : State H) (fuel : ℕ) → Joins c fuel (at_work c)
  no_join c fuel = record { forks = refl; weight = omega arith; pay = omega arith }

  end_joins : (c : State H) (o : Comes H) (j : End H) → HasForks c.forks o → EntryLeaves (entry_price c) o
      → ForkLeaves (fork_price c) o → Joins c j.fuel (join_end g (at_work c) o j)
  end_joins c (joins d try h) j e a b = in_joins c d try h j j.phase e a b
  end_joins c (goes d) j e a b = no_join c j.fuel
  end_joins c (traps d x) j e a b = no_join c j.fuel
  end_joins c (forks d n args) j e a b = no_join c j.fuel
  end_joins c (ends d w) j e a b = no_join c j.fuel
  end_joins c stuck j e a b = no_join c j.fuel

  pub record JoinOk (l j l' : Local H) : Type 0 where
    pub weight : weight g l' + 1 ≤ weight g l + weight g j
    pub pay : pay g l' ≤ pay g l + pay g j

  pub join_ok : (l j : Local H) → l ≡ at_work l.state → JoinOk l j (join g l j)
  join_ok l j e = subst (λ z. JoinOk z j (join g z j)) (sym e) at_it
    where
      at_it : JoinOk (at_work l.state) j (join g (at_work l.state) j)
      at_it =
          let k = end_joins l.state (leg g l.state) (end_of j) (leg_keeps_forks g l.state) (entry_leaves l.state)
          (fork_leaves l.state) in
          let w = k.weight in
          let y = k.pay in
          let u = some_weight j in
          let v = some_pay j in
          record { weight = omega (arith, w, u); pay = omega (arith, y, v) }

-- the joiner's forks, of any revision
forks_in : {H : Type 0} (g : CodeRun) (c : State H) (try : Bool) (h : H) (j : End H) (ph : Phase H)
    → (join_in g c try h j ph).state.forks ≡ c.forks
forks_in g c try h j done = by (composed (merges g) (mains c.locations j.written) j.written)
  where
    by : (o : Composition (Word _)) → (absorb c try h j o).state.forks ≡ c.forks
    by (Ok ws) = refl
    by (Err e) = refl
forks_in g c true h j (trapped t) = refl
forks_in g c false h j (trapped t) = refl
forks_in g c try h j running = refl

pub join_keeps_forks : {H : Type 0} (g : CodeRun) (l j : Local H) → (join g l j).state.forks ≡ l.state.forks
join_keeps_forks g l j = by (leg g l.state) (leg_keeps_forks g l.state)
  where
    by : (o : Comes _) → HasForks l.state.forks o → (join_end g l o (end_of j)).state.forks ≡ l.state.forks
    by (joins c try h) e = forks_in g c try h (end_of j) j.phase ∙ e
    by (goes c) e = refl
    by (traps c x) e = refl
    by (forks c n args) e = refl
    by (ends c w) e = refl
    by stuck e = refl
