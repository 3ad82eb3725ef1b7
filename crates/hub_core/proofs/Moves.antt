-- Rounds of others change nothing of what there are records of,
-- so records and the run queue stand to the statuses as before.
use Rattle.std.proofs.Common.{◌≡◌, ◌≢◌, ◌⊎◌, inl, inr, ℕ, zero, suc, ◌+◌, ◌<◌, ◌≤◌, Bool, true, false, cond, ◌==◌, List, [], ◌∷◌, ◌++◌, length, sym, refl, ap, ◌∙◌, subst, arith, eq-eqb, ne_eqb, Option, Some, None}
use mathlib.Core.Logic.{dite}
use native.Mathlib.Decide.{ℕ_discrete}
use Rattle.revision_machine.specs.Numbered.{at_number, put_number}
use Rattle.revision_machine.proofs.Paths.{some_inj}
use Rattle.revision_machine.proofs.Numbers.{none_some}
use Rattle.revision_machine.proofs.Lists.{put_other, put_here, put_length, at_length, at_none, at_below}
use Rattle.hub_core.specs.declared.status.Status.{Status}
use Rattle.hub_core.specs.declared.status.Status.TheVariants.{Ready, Out, Waiting, Over, Gone}
use Rattle.hub_core.specs.HubMachine.{HubMachine}
use Rattle.hub_core.specs.declared.run_queue.RunQueue.{RunQueue}
use Rattle.hub_core.specs.Counts.{is_at, times, flag}
use Rattle.hub_core.specs.Found.{ended_here, is_ready, all_over}
use Rattle.hub_core.specs.Queued.{is_open, unfinished, waits_for}
use Rattle.hub_core.specs.Passes.{without}
use Rattle.hub_core.specs.Rule.{is_out, OutsAre}
use Rattle.hub_core.specs.Tally.{record_at, IsLone, WasLone, IsSteady, Turns, Moves, Shadows, IsQueued, AreTracked}
use Rattle.hub_core.proofs.Lists.{total_snoc, is_at_same, is_at_other, many_more}
use Rattle.hub_core.proofs.Passes.{count_gone, count_other}
use Rattle.hub_core.proofs.Slots.{no_more}

-- a list with one more
pub at_before : {B : Type 0} → (xs : List B) (y : B) (n : ℕ) → n ≢ length xs
    → at_number (xs ++ y ∷ []) n ≡ at_number xs n
at_before [] y zero apart = absurd (apart refl)
at_before [] y (suc n) apart = refl
at_before (x ∷ xs) y zero apart = refl
at_before (x ∷ xs) y (suc n) apart = at_before xs y n (λ e. apart (ap suc e))

pub put_last : {B : Type 0} → (xs : List B) (x y : B) → put_number (xs ++ x ∷ []) (length xs) y ≡ xs ++ y ∷ []
put_last [] x y = refl
put_last (z ∷ xs) x y = ap (λ l. z ∷ l) (put_last xs x y)

-- the numbers that seats have, or keep, after a round
abbrev pub turned_out : List ℕ → ℕ → ℕ → List ℕ
turned_out out m n = n ∷ without m out

-- how many are left without a number
pub less_length : (k : ℕ) (xs : List ℕ) → length (without k xs) + times k xs ≡ length xs
less_length k [] = omega arith
less_length k (x ∷ xs) = let r = less_length k xs in dite (ℕ_discrete x k)
    (λ is.
    let a : length (without k (x ∷ xs)) ≡ length (without k xs) =
    ap (λ (b : Bool). length (cond b (without k xs) (x ∷ without k xs))) (eq-eqb x k is) in
    let b : is_at k x ≡ 1 = ap (is_at k) is ∙ is_at_same k in
    omega arith)
    (λ ne.
    let a : length (without k (x ∷ xs)) ≡ suc (length (without k xs)) =
    ap (λ (b : Bool). length (cond b (without k xs) (x ∷ without k xs))) (ne_eqb x k ne) in
    let b = is_at_other k x ne in
    omega arith)

pub times_joined : (out : List ℕ) (m n : ℕ) → m ≢ n → times m (turned_out out m n) ≡ 0
times_joined out m n apart =
    let a = count_gone (λ (x : ℕ). x) m out in let b = is_at_other m n (λ e. apart (sym e)) in omega arith

pub times_born : (out : List ℕ) (m n : ℕ) → m ≢ n → times n out ≡ 0 → times n (turned_out out m n) ≡ 1
times_born out m n apart none =
    let a = count_other (λ (x : ℕ). x) m n out (λ e. apart (sym e)) in let b = is_at_same n in omega arith

pub times_others : (out : List ℕ) (m n j : ℕ) → j ≢ m → j ≢ n → times j (turned_out out m n) ≡ times j out
times_others out m n j apart below =
    let a = count_other (λ (x : ℕ). x) m j out apart in let b = is_at_other j n (λ e. below (sym e)) in omega arith

module _ {R A E : Type 0} where
  pub is_out_one : (o : Option (Status R A E)) → 0 < is_out o → o ≡ Some Out
  is_out_one None h = absurd (omega arith)
  is_out_one (Some (Ready r)) h = absurd (omega arith)
  is_out_one (Some Out) h = refl
  is_out_one (Some (Waiting a)) h = absurd (omega arith)
  is_out_one (Some (Over e)) h = absurd (omega arith)
  is_out_one (Some Gone) h = absurd (omega arith)

  -- a revision that seats have is out
  pub here_out : (slots : List (Status R A E)) (out : List ℕ) (k : ℕ) → OutsAre slots out → 0 < times k out
      → at_number slots k ≡ Some Out
  here_out slots out k outs h = let o = outs k in is_out_one (at_number slots k) (omega arith)

  -- no seat has what is not there
  pub none_out : (slots : List (Status R A E)) (out : List ℕ) (k : ℕ) → OutsAre slots out → length slots ≤ k
      → times k out ≡ 0
  none_out slots out k outs h = outs k ∙ ap is_out (at_none slots k h)

  pub unfinished_put : (slots : List (Status R A E)) (n : ℕ) (x s : Status R A E) → at_number slots n ≡ Some x
      → unfinished (put_number slots n s) + is_open x ≡ unfinished slots + is_open s
  unfinished_put [] n x s e = none_some e
  unfinished_put (y ∷ slots) zero x s e = let q : is_open y ≡ is_open x = ap is_open (some_inj e) in omega arith
  unfinished_put (y ∷ slots) (suc n) x s e = let r = unfinished_put slots n x s e in omega arith

  pub over_none : (slots : List (Status R A E)) → all_over slots ≡ true → unfinished slots ≡ 0
  over_none [] o = refl
  over_none (Ready r ∷ slots) o = no_more o
  over_none (Out ∷ slots) o = no_more o
  over_none (Waiting a ∷ slots) o = no_more o
  over_none (Over e ∷ slots) o = let r = over_none slots o in omega arith
  over_none (Gone ∷ slots) o = let r = over_none slots o in omega arith

  pub none_over : (slots : List (Status R A E)) → unfinished slots ≡ 0 → all_over slots ≡ true
  none_over [] z = refl
  none_over (Ready r ∷ slots) z = absurd (omega arith)
  none_over (Out ∷ slots) z = absurd (omega arith)
  none_over (Waiting a ∷ slots) z = absurd (omega arith)
  none_over (Over e ∷ slots) z = none_over slots (omega (arith, z))
  none_over (Gone ∷ slots) z = none_over slots (omega (arith, z))

  -- after a round: the joinee was joined, and the child is out
  abbrev pub looped : List (Status R A E) → ℕ → List (Status R A E)
  looped slots m = put_number slots m Gone ++ Out ∷ []

  pub looped_length : (slots : List (Status R A E)) (m : ℕ) → length (looped slots m) ≡ length slots + 1
  looped_length slots m =
      let a = many_more (put_number slots m Gone) Out in let b = put_length slots m Gone in omega arith

  pub looped_last : (slots : List (Status R A E)) (m : ℕ) → at_number (looped slots m) (length slots) ≡ Some Out
  looped_last slots m =
      ap (at_number (looped slots m)) (sym (put_length slots m Gone)) ∙ at_length (put_number slots m Gone) Out []

  pub looped_other : (slots : List (Status R A E)) (m j : ℕ) → j ≢ m → j ≢ length slots
      → at_number (looped slots m) j ≡ at_number slots j
  looped_other slots m j apart below =
      at_before (put_number slots m Gone) Out j (λ e. below (e ∙ put_length slots m Gone))
      ∙ put_other slots m j Gone apart

  pub looped_joined : (slots : List (Status R A E)) (m : ℕ) → at_number slots m ≡ Some Out
      → at_number (looped slots m) m ≡ Some Gone
  looped_joined slots m e =
      let b = at_below slots m Out e in
      let l = put_length slots m Gone in
      at_before (put_number slots m Gone) Out m (λ q. omega arith) ∙ put_here slots m Out Gone e

  pub looped_outs : (slots : List (Status R A E)) (out : List ℕ) (m : ℕ) → OutsAre slots out
      → at_number slots m ≡ Some Out
      → OutsAre (looped slots m) (turned_out out m (length slots))
  looped_outs slots out m outs e j =
      let b = at_below slots m Out e in
      let ne : m ≢ length slots = λ q. omega arith in
      dite (ℕ_discrete j m)
      (λ is.
      ap (λ i. times i (turned_out out m (length slots))) is
      ∙ (times_joined out m (length slots) ne
      ∙ sym (ap (λ i. is_out (at_number (looped slots m) i)) is ∙ ap is_out (looped_joined slots m e))))
      (λ apart. dite (ℕ_discrete j (length slots))
      (λ is.
      ap (λ i. times i (turned_out out m (length slots))) is
      ∙ (times_born out m (length slots) ne (none_out slots out (length slots) outs (omega arith))
      ∙ sym (ap (λ i. is_out (at_number (looped slots m) i)) is ∙ ap is_out (looped_last slots m))))
      (λ below.
      times_others out m (length slots) j apart below
      ∙ (outs j ∙ sym (ap is_out (looped_other slots m j apart below)))))

  pub looped_moves : (slots : List (Status R A E)) (out lone : List ℕ) (m : ℕ) → OutsAre slots out
      → ((j : ℕ) → times j lone ≤ times j out) → ((j : ℕ) → times j out ≤ 1) → 0 < times m lone
      → Moves slots lone (looped slots m) (turned_out lone m (length slots))
  looped_moves slots out lone m outs few single kept = record {
    each = λ j. dite (ℕ_discrete j m)
        (λ is. subst
        (λ i. IsSteady slots lone (looped slots m) (turned_out lone m n) i
        ⊎ Turns slots lone (looped slots m) (turned_out lone m n) i)
        (sym is)
        (inr (inl (here, kept), inr (looped_joined slots m here, times_joined lone m n ne))))
        (λ apart. dite (ℕ_discrete j n)
        (λ is. subst
        (λ i. IsSteady slots lone (looped slots m) (turned_out lone m n) i
        ⊎ Turns slots lone (looped slots m) (turned_out lone m n) i)
        (sym is)
        (inr (
          inr (at_none slots n (omega arith), none),
          inl (looped_last slots m, (let b = times_born lone m n ne none in omega arith)),
        )))
        (λ below. rest j apart below (ℕ_discrete (times j lone) 0)));
    count =
        let a = unfinished_put slots m Out Gone here in
        let b = total_snoc is_open (put_number slots m Gone) Out in
        omega arith;
    as_many =
        let a = less_length m lone in let f = few m in let g = single m in let k = kept in omega arith;
  }
    where
      n : ℕ
      n = length slots

      here : at_number slots m ≡ Some Out
      here = here_out slots out m outs (let f = few m in omega arith)

      ne : m ≢ n
      ne e = let b = at_below slots m Out here in omega arith

      none : times n lone ≡ 0
      none = let f = few n in let o = none_out slots out n outs (omega arith) in omega arith

      rest : (j : ℕ) → j ≢ m → j ≢ n → Dec (times j lone ≡ 0)
          → IsSteady slots lone (looped slots m) (turned_out lone m n) j
          ⊎ Turns slots lone (looped slots m) (turned_out lone m n) j
      rest j apart below (yes z) =
          inl (looped_other slots m j apart below, z, times_others lone m n j apart below ∙ z)
      rest j apart below (no z) =
          let pos : 0 < times j lone = omega (arith, z) in
          let f = few j in
          let there = here_out slots out j outs (omega arith) in
          let same = times_others lone m n j apart below in
          inr (inl (there, pos), inl (looped_other slots m j apart below ∙ there, omega arith))

  -- ---- moves of moves

  lone_not : (slots : List (Status R A E)) (lone : List ℕ) (j : ℕ) (P : Type 0) → times j lone ≡ 0
      → (at_number slots j ≡ Some Out) × (0 < times j lone) → P
  lone_not slots lone j P z h = let q = h.1 in absurd (omega arith)

  pub moves_refl : (slots : List (Status R A E)) (out lone : List ℕ) → OutsAre slots out
      → ((j : ℕ) → times j lone ≤ times j out)
      → Moves slots lone slots lone
  moves_refl slots out lone outs few =
      record { each = λ j. by j (ℕ_discrete (times j lone) 0); count = refl; as_many = refl }
    where
      by : (j : ℕ) → Dec (times j lone ≡ 0) → IsSteady slots lone slots lone j ⊎ Turns slots lone slots lone j
      by j (yes z) = inl (refl, z, z)
      by j (no z) =
          let pos : 0 < times j lone = omega (arith, z) in
          let f = few j in
          let there = here_out slots out j outs (omega arith) in
          inr (inl (there, pos), inl (there, pos))

  pub moves_moves : (s0 : List (Status R A E)) (l0 : List ℕ) (s1 : List (Status R A E)) (l1 : List ℕ)
      (s2 : List (Status R A E)) (l2 : List ℕ)
      → Moves s0 l0 s1 l1 → Moves s1 l1 s2 l2 → Moves s0 l0 s2 l2
  moves_moves s0 l0 s1 l1 s2 l2 a b = record {
    each = λ j. by j (a.each j) (b.each j);
    count = b.count ∙ a.count;
    as_many = b.as_many ∙ a.as_many;
  }
    where
      last : (j : ℕ) → IsLone s1 l1 j → IsSteady s1 l1 s2 l2 j → IsLone s2 l2 j
      last j (inl h) t = lone_not s1 l1 j (IsLone s2 l2 j) t.1 h
      last j (inr h) t = inr (t.0 ∙ h.0, t.2)

      begun : (j : ℕ) → IsSteady s0 l0 s1 l1 j → WasLone s1 l1 j → WasLone s0 l0 j
      begun j t (inl h) = lone_not s1 l1 j (WasLone s0 l0 j) t.2 h
      begun j t (inr h) = inr (sym t.0 ∙ h.0, t.1)

      by : (j : ℕ) → IsSteady s0 l0 s1 l1 j ⊎ Turns s0 l0 s1 l1 j → IsSteady s1 l1 s2 l2 j ⊎ Turns s1 l1 s2 l2 j
          → IsSteady s0 l0 s2 l2 j ⊎ Turns s0 l0 s2 l2 j
      by j (inl t) (inl u) = inl (u.0 ∙ t.0, t.1, u.2)
      by j (inl t) (inr u) = inr (begun j t u.0, u.1)
      by j (inr t) (inl u) = inr (t.0, last j t.1 u)
      by j (inr t) (inr u) = inr (t.0, u.1)

  -- what there is a record of
  pub record_kept : (records : List (Option (Status R A E))) (s0 : List (Status R A E)) (l0 : List ℕ)
      (s1 : List (Status R A E)) (l1 : List ℕ)
      → Shadows records s0 l0 → Moves s0 l0 s1 l1 → (j : ℕ) (x : Status R A E) → record_at records j ≡ Some x
      → (at_number s1 j ≡ at_number s0 j) × (at_number s0 j ≡ Some x) × (times j l1 ≡ 0)
  record_kept records s0 l0 s1 l1 sh mv j x e = by (mv.each j)
    where
      was : (at_number s0 j ≡ Some x) × (times j l0 ≡ 0)
      was = sh.recorded j x e

      not_was : WasLone s0 l0 j → (at_number s1 j ≡ at_number s0 j) × (at_number s0 j ≡ Some x) × (times j l1 ≡ 0)
      not_was (inl h) =
          lone_not s0 l0 j ((at_number s1 j ≡ at_number s0 j) × (at_number s0 j ≡ Some x) × (times j l1 ≡ 0)) was.1 h
      not_was (inr h) = none_some (sym h.0 ∙ was.0)

      by : IsSteady s0 l0 s1 l1 j ⊎ Turns s0 l0 s1 l1 j
          → (at_number s1 j ≡ at_number s0 j) × (at_number s0 j ≡ Some x) × (times j l1 ≡ 0)
      by (inl t) = (t.0, was.0, t.2)
      by (inr t) = not_was t.0

  pub shadows_moves : (records : List (Option (Status R A E))) (s0 : List (Status R A E)) (l0 : List ℕ)
      (s1 : List (Status R A E)) (l1 : List ℕ)
      → Shadows records s0 l0 → Moves s0 l0 s1 l1 → Shadows records s1 l1
  shadows_moves records s0 l0 s1 l1 sh mv = record {
    recorded = λ j x e. let k = record_kept records s0 l0 s1 l1 sh mv j x e in (k.0 ∙ k.1, k.2);
    others = λ j e. by j (sh.others j e) (mv.each j);
  }
    where
      steady : (j : ℕ) → IsLone s0 l0 j ⊎ ((at_number s0 j ≡ None) × (times j l0 ≡ 0)) → IsSteady s0 l0 s1 l1 j
          → IsLone s1 l1 j ⊎ ((at_number s1 j ≡ None) × (times j l1 ≡ 0))
      steady j (inl (inl h)) t =
          lone_not s0 l0 j (IsLone s1 l1 j ⊎ ((at_number s1 j ≡ None) × (times j l1 ≡ 0))) t.1 h
      steady j (inl (inr h)) t = inl (inr (t.0 ∙ h.0, t.2))
      steady j (inr h) t = inr (t.0 ∙ h.0, t.2)

      by : (j : ℕ) → IsLone s0 l0 j ⊎ ((at_number s0 j ≡ None) × (times j l0 ≡ 0))
          → IsSteady s0 l0 s1 l1 j ⊎ Turns s0 l0 s1 l1 j → IsLone s1 l1 j ⊎ ((at_number s1 j ≡ None) × (times j l1 ≡ 0))
      by j h (inl t) = steady j h t
      by j h (inr t) = inl t.1

  -- a joiner that waits waited before
  pub waited : (s0 : List (Status R A E)) (l0 : List ℕ) (s1 : List (Status R A E)) (l1 : List ℕ) → Moves s0 l0 s1 l1
      → (j : ℕ) (a : A) → at_number s1 j ≡ Some (Waiting a) → at_number s0 j ≡ Some (Waiting a)
  waited s0 l0 s1 l1 mv j a e = by (mv.each j)
    where
      not_lone : IsLone s1 l1 j → at_number s0 j ≡ Some (Waiting a)
      not_lone (inl h) = let clash : Some Out ≡ Some (Waiting a) = sym h.0 ∙ e in absurd cc
      not_lone (inr h) = let clash : Some Gone ≡ Some (Waiting a) = sym h.0 ∙ e in absurd cc

      by : IsSteady s0 l0 s1 l1 j ⊎ Turns s0 l0 s1 l1 j → at_number s0 j ≡ Some (Waiting a)
      by (inl t) = sym t.0 ∙ e
      by (inr t) = not_lone t.1

module _ {L R A E : Type 0} (d : HubMachine L R A E) where
  abbrev Statuses : Type 0
  Statuses = List (Status R A E)

  -- whether a revision is ready, or waits for another
  abbrev Same : Statuses → Statuses → Option (Status R A E) → Option (Status R A E) → Type 0
  Same s0 s1 o0 o1 =
      (is_ready d s1 o1 ≡ is_ready d s0 o0) × ((i : ℕ) → waits_for d s1 i o1 ≡ waits_for d s0 i o0)

  same_lone : (s0 s1 : Statuses) (l0 l1 : List ℕ) (j : ℕ) → Turns s0 l0 s1 l1 j
      → Same s0 s1 (at_number s0 j) (at_number s1 j)
  same_lone s0 s1 l0 l1 j t = by t.0 t.1
    where
      Goal : Type 0
      Goal = Same s0 s1 (at_number s0 j) (at_number s1 j)

      at : (o0 o1 : Option (Status R A E)) → at_number s0 j ≡ o0 → at_number s1 j ≡ o1 → Same s0 s1 o0 o1
          → Same s0 s1 (at_number s0 j) (at_number s1 j)
      at o0 o1 e0 e1 h =
          subst (λ (z : Option (Status R A E) × Option (Status R A E)). Same s0 s1 z.0 z.1) (λ x. (sym e0 x, sym e1 x))
          h

      by : WasLone s0 l0 j → IsLone s1 l1 j → Same s0 s1 (at_number s0 j) (at_number s1 j)
      by (inl h) (inl g) = at (Some Out) (Some Out) h.0 g.0 (refl, λ i. refl)
      by (inl h) (inr g) = at (Some Out) (Some Gone) h.0 g.0 (refl, λ i. refl)
      by (inr h) (inl g) = at None (Some Out) h.0 g.0 (refl, λ i. refl)
      by (inr h) (inr g) = at None (Some Gone) h.0 g.0 (refl, λ i. refl)

  -- a joiner waits for a revision of which there is a record
  same_status : (records : List (Option (Status R A E))) (s0 : Statuses) (l0 : List ℕ) (s1 : Statuses) (l1 : List ℕ)
      → Shadows records s0 l0 → AreTracked d records s0 → Moves s0 l0 s1 l1
      → (j : ℕ) (o : Option (Status R A E)) → at_number s0 j ≡ o → Same s0 s1 o o
  same_status records s0 l0 s1 l1 sh tr mv j None e = (refl, λ i. refl)
  same_status records s0 l0 s1 l1 sh tr mv j (Some (Ready r)) e = (refl, λ i. refl)
  same_status records s0 l0 s1 l1 sh tr mv j (Some Out) e = (refl, λ i. refl)
  same_status records s0 l0 s1 l1 sh tr mv j (Some (Waiting a)) e =
      let t = tr j a e in
      let k = record_kept records s0 l0 s1 l1 sh mv (d.on a) t.0 t.1 in (
        ap ended_here k.0,
        λ i. dite (ℕ_discrete (d.on a) i)
            (λ is. ap (λ (o : Option (Status R A E)). cond (ended_here o) false (d.on a == i))
            (ap (at_number s1) (sym is) ∙ (k.0 ∙ ap (at_number s0) is)))
            (λ ne. never (ended_here (at_number s1 i)) (d.on a == i) (ne_eqb (d.on a) i ne)
            ∙ sym (never (ended_here (at_number s0 i)) (d.on a == i) (ne_eqb (d.on a) i ne))),
      )
    where
      never : (b c : Bool) → c ≡ false → cond b false c ≡ false
      never true c e = refl
      never false c e = e
  same_status records s0 l0 s1 l1 sh tr mv j (Some (Over i)) e = (refl, λ i. refl)
  same_status records s0 l0 s1 l1 sh tr mv j (Some Gone) e = (refl, λ i. refl)

  same_at : (records : List (Option (Status R A E))) (s0 : Statuses) (l0 : List ℕ) (s1 : Statuses) (l1 : List ℕ)
      → Shadows records s0 l0 → AreTracked d records s0 → Moves s0 l0 s1 l1
      → (j : ℕ) → Same s0 s1 (at_number s0 j) (at_number s1 j)
  same_at records s0 l0 s1 l1 sh tr mv j = by (mv.each j)
    where
      by : IsSteady s0 l0 s1 l1 j ⊎ Turns s0 l0 s1 l1 j → Same s0 s1 (at_number s0 j) (at_number s1 j)
      by (inl t) =
          subst (λ (o : Option (Status R A E)). Same s0 s1 (at_number s0 j) o) (sym t.0)
          (same_status records s0 l0 s1 l1 sh tr mv j (at_number s0 j) refl)
      by (inr t) = same_lone s0 s1 l0 l1 j t

  pub queued_moves : (records : List (Option (Status R A E))) (s0 : Statuses) (l0 : List ℕ) (s1 : Statuses)
      (l1 : List ℕ) (q : RunQueue)
      → Shadows records s0 l0 → AreTracked d records s0 → Moves s0 l0 s1 l1 → IsQueued d records s0 q
      → IsQueued d records s1 q
  queued_moves records s0 l0 s1 l1 q sh tr mv h = record {
    ready = h.ready;
    waits = h.waits;
    lists = h.lists;
    ready_are = λ n. h.ready_are n ∙ ap flag (sym (same_at records s0 l0 s1 l1 sh tr mv n).0);
    waits_are = λ i n. h.waits_are i n ∙ ap flag (sym ((same_at records s0 l0 s1 l1 sh tr mv n).1 i));
    links = h.links;
    reach = h.reach;
    count = h.count ∙ sym mv.count;
  }

  pub tracked_moves : (records : List (Option (Status R A E))) (s0 : Statuses) (l0 : List ℕ) (s1 : Statuses)
      (l1 : List ℕ)
      → Moves s0 l0 s1 l1 → AreTracked d records s0 → AreTracked d records s1
  tracked_moves records s0 l0 s1 l1 mv tr j a e = tr j a (waited s0 l0 s1 l1 mv j a e)
