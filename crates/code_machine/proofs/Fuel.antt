-- The fuel of all unmarked revisions is at most that of the start, since what pays for forks covers it.
use Rattle.std.proofs.Common.{◌≡◌, ◌≢◌, ℕ, zero, suc, ◌+◌, ◌*◌, ◌≤◌, List, [], ◌∷◌, ◌++◌, length, Option, Some, None, refl, sym, ap, subst, arith}
use Rattle.rev_num.specs.Path.{Path, child}
use Rattle.revision_machine.specs.PathMap.{PathMap}
use Rattle.revision_machine.specs.Machine.{Entry, Plain, Joined, Global, Twice, Live}
use Rattle.revision_machine.specs.Conditions.{Spends}
use Rattle.revision_machine.specs.Laws.{amount, total, Amounts, SpendingLaw}
use Rattle.revision_machine.specs.Numbered.{Entries, World, Both, Listing, at_number, put_number, begin, Replays}
use Rattle.revision_machine.proofs.Census.{spending_law}
use Rattle.code_machine.specs.Local.{CodeRun, IsVerified, Local}
use Rattle.code_machine.specs.Joining.{join}
use Rattle.code_machine.specs.Machines.{act, machine, numbered, IsMain, start_in}
use Rattle.code_machine.specs.Weights.{pay}
use Rattle.code_machine.specs.Worlds.{fuels, FuelIsOfTheStart}
use Rattle.code_machine.proofs.Paying.{MoveOk, BearOk, WantOk, ActOk, act_ok, join_ok, some_pay}
use Rattle.code_machine.proofs.MachineConditions.{counts, pays}
use Rattle.code_machine.proofs.Starting.{first_pay}
use Rattle.code_machine.proofs.Changes.{LegOf, went, bore, took, twice, leg_ways, joinee_stays}
use Rattle.revision_machine.proofs.Replays.{replays_keep}
use Rattle.revision_machine.proofs.Lists.{none_some}
use Rattle.revision_machine.proofs.Paths.{some_inj}
use Rattle.code_machine.proofs.Typing.{goes_act, bears_act, wants_act}

-- ---- two revisions of one world have no more fuel than all

one_fuel : (w : Entries (Local ℕ)) (n : ℕ) (r : Path) (l : Local ℕ) → at_number w n ≡ Some (r, Plain l)
    → l.state.fuel ≤ fuels w
one_fuel [] n r l e = none_some e
one_fuel ((q, Plain k) ∷ w) zero r l e =
    let same : k ≡ l =
    (let x : ◌≡◌ {A = Path × Entry (Local ℕ)} (q, Plain k) (r, Plain l) = some_inj e in
    let y : ◌≡◌ {A = Entry (Local ℕ)} (Plain k) (Plain l) = ap (λ z. z.1) x in
    cc) in
    let f = ap (λ z. z.state.fuel) same in omega (arith, f)
one_fuel ((q, Joined k) ∷ w) zero r l e =
    absurd (let x : ◌≡◌ {A = Path × Entry (Local ℕ)} (q, Joined k) (r, Plain l) = some_inj e in
    let y : ◌≡◌ {A = Entry (Local ℕ)} (Joined k) (Plain l) = ap (λ z. z.1) x in
    cc)
one_fuel ((q, Plain k) ∷ w) (suc n) r l e = let f = one_fuel w n r l e in omega (arith, f)
one_fuel ((q, Joined k) ∷ w) (suc n) r l e = one_fuel w n r l e

plain_here : (q r : Path) (x : Entry (Local ℕ)) (l : Local ℕ) (w : Entries (Local ℕ))
    → ◌≡◌ {A = Option (Path × Entry (Local ℕ))} (Some (q, x)) (Some (r, Plain l))
    → fuels ((q, x) ∷ w) ≡ l.state.fuel + fuels w
plain_here q r x l w e =
    let y : x ≡ Plain l = ap (λ z. z.1) (some_inj e) in
    ap (λ z. fuels ((q, z) ∷ w)) y

pub two_fuels : (w : Entries (Local ℕ)) (n m : ℕ) (r q : Path) (l k : Local ℕ) → n ≢ m
    → at_number w n ≡ Some (r, Plain l) → at_number w m ≡ Some (q, Plain k)
    → l.state.fuel + k.state.fuel ≤ fuels w
two_fuels [] n m r q l k apart a b = none_some a
two_fuels ((p, x) ∷ w) zero zero r q l k apart a b = absurd (apart refl)
two_fuels ((p, x) ∷ w) zero (suc m) r q l k apart a b =
    let f = plain_here p r x l w a in let h = one_fuel w m q k b in omega (arith, f, h)
two_fuels ((p, x) ∷ w) (suc n) zero r q l k apart a b =
    let f = plain_here p q x k w b in let h = one_fuel w n r l a in omega (arith, f, h)
two_fuels ((p, Plain x) ∷ w) (suc n) (suc m) r q l k apart a b =
    let h = two_fuels w n m r q l k (λ e. apart (ap suc e)) a b in omega (arith, h)
two_fuels ((p, Joined x) ∷ w) (suc n) (suc m) r q l k apart a b = two_fuels w n m r q l k (λ e. apart (ap suc e)) a b

-- ---- by paths

module _ (g : CodeRun) (ok : IsVerified g) where
  pays_nothing : Spends (machine g) 0 (λ l. pay g l)
  pays_nothing = record {
    moves = λ r l l' e. (let a = (pays g ok).moves r l l' e in omega (arith, a));
    forks = λ r l l' c e. (let a = (pays g ok).forks r l l' c e in omega (arith, a));
    wants = λ r q l e. omega arith;
    joins = λ r q l lq e f. (let a = (pays g ok).joins r q l lq e f in omega (arith, a));
  }

  amount_less : (e : Option (Entry (Local Path))) → amount (λ l. l.state.fuel) e ≤ amount (λ l. pay g l) e
  amount_less None = omega arith
  amount_less (Some (Joined l)) = omega arith
  amount_less (Some (Plain l)) = some_pay g ok l

  total_less : (revs : PathMap (Entry (Local Path))) (ps : List Path)
      → total (λ l. l.state.fuel) revs ps ≤ total (λ l. pay g l) revs ps
  total_less revs [] = omega arith
  total_less revs (p ∷ ps) = let a = amount_less (revs p) in let b = total_less revs ps in omega (arith, a, b)

  pub fuel_spent : (n : ℕ) (m : IsMain g n) (fuel : ℕ)
      → SpendingLaw (machine g) (start_in g n m.body fuel) 0 (λ l. l.state.fuel)
  fuel_spent n m fuel h rs runs =
      let s = spending_law (machine g) (start_in g n m.body fuel) 0 (λ l. pay g l) (counts g ok) pays_nothing h rs
      runs in
      let b = first_pay g ok n m fuel Path in
      by h s.0 s.1 s.2 b
    where
      by : (h : Global (Local Path)) (k : ℕ) → Amounts (machine g) (λ l. pay g l) h k
          → k + length rs * 0 ≤ pay g (start_in {H = Path} g n m.body fuel)
          → pay g (start_in {H = Path} g n m.body fuel) ≤ fuel
          → (j : ℕ) × Amounts (machine g) (λ l. l.state.fuel) h j × (j + length rs * 0 ≤ fuel)
      by Twice k e a b = (0, refl, omega (arith, a, b))
      by (Live revs) k (ps, census, e) a b =
          let t = total_less revs ps in
          (total (λ l. l.state.fuel) revs ps, (ps, census, refl), omega (arith, t, e, a, b))

-- ---- by numbers

module _ (g : CodeRun) (ok : IsVerified g) where
  all : Entries (Local ℕ) → ℕ
  all [] = 0
  all ((r, Plain l) ∷ w) = pay g l + all w
  all ((r, Joined l) ∷ w) = all w

  covers : (w : Entries (Local ℕ)) → fuels w ≤ all w
  unfolding all
  covers [] = omega arith
  covers ((r, Plain l) ∷ w) = let a = some_pay g ok l in let b = covers w in omega (arith, a, b)
  covers ((r, Joined l) ∷ w) = covers w

  put_plain : (w : Entries (Local ℕ)) (n : ℕ) (r q : Path) (l k : Local ℕ) → at_number w n ≡ Some (r, Plain l)
      → all (put_number w n (q, Plain k)) + pay g l ≡ all w + pay g k
  unfolding all
  put_plain [] n r q l k e =
      absurd (let z : ◌≡◌ {A = Option (Path × Entry (Local ℕ))} None (Some (r, Plain l)) = e in cc)
  put_plain ((p, x) ∷ w) zero r q l k e =
      subst (λ y. pay g k + all w + pay g l ≡ all ((y.0, y.1) ∷ w) + pay g k)
      (let z : ◌≡◌ {A = Path × Entry (Local ℕ)} (p, x) (r, Plain l) = cc in sym z)
      (let h : pay g k + all w + pay g l ≡ pay g l + all w + pay g k = omega arith in h)
  put_plain ((p, Plain x) ∷ w) (suc n) r q l k e = let h = put_plain w n r q l k e in omega (arith, h)
  put_plain ((p, Joined x) ∷ w) (suc n) r q l k e = put_plain w n r q l k e

  put_joined : (w : Entries (Local ℕ)) (n : ℕ) (r q : Path) (l k : Local ℕ) → at_number w n ≡ Some (r, Plain l)
      → all (put_number w n (q, Joined k)) + pay g l ≡ all w
  unfolding all
  put_joined [] n r q l k e =
      absurd (let z : ◌≡◌ {A = Option (Path × Entry (Local ℕ))} None (Some (r, Plain l)) = e in cc)
  put_joined ((p, x) ∷ w) zero r q l k e =
      subst (λ y. all w + pay g l ≡ all ((y.0, y.1) ∷ w))
      (let z : ◌≡◌ {A = Path × Entry (Local ℕ)} (p, x) (r, Plain l) = cc in sym z)
      (let h : all w + pay g l ≡ pay g l + all w = omega arith in h)
  put_joined ((p, Plain x) ∷ w) (suc n) r q l k e = let h = put_joined w n r q l k e in omega (arith, h)
  put_joined ((p, Joined x) ∷ w) (suc n) r q l k e = put_joined w n r q l k e

  more_all : (w : Entries (Local ℕ)) (r : Path) (k : Local ℕ) → all (w ++ (r, Plain k) ∷ []) ≡ all w + pay g k
  unfolding all
  more_all [] r k = omega arith
  more_all ((p, Plain x) ∷ w) r k = let h = more_all w r k in omega (arith, h)
  more_all ((p, Joined x) ∷ w) r k = more_all w r k

  within : ℕ → World (Local ℕ) → Type 0
  within most Both = Unit {0}
  within most (Listing w) = all w ≤ most

  step_within : (most : ℕ) (w : Entries (Local ℕ)) (n : ℕ) (u : World (Local ℕ)) → all w ≤ most
      → LegOf (numbered g) w n u → within most u
  unfolding within
  step_within most w n u h (went r l l' at is z) =
      let a : MoveOk g l l' = subst (ActOk g l) (goes_act g ok (act g l) l' is) (act_ok g ok l) in
      let b = a.pay in
      let s = put_plain w n r r l l' at in
      subst (within most) (sym z) (omega (arith, b, s, h))
  step_within most w n u h (bore r l f c at is z) =
      let a : BearOk g l f c = subst (ActOk g l) (bears_act g ok (act g l) f c is) (act_ok g ok l) in
      let b = a.pay (length w) in
      let s = put_plain w n r r l (f (length w)) at in
      let t = more_all (put_number w n (r, Plain (f (length w)))) (child r l.state.forks) c in
      subst (within most) (sym z) (omega (arith, b, s, t, h))
  step_within most w n u h (took r l m q lq at is there stops z) =
      let a : WantOk g l = subst (ActOk g l) (wants_act g ok (act g l) m is) (act_ok g ok l) in
      let b = (join_ok g ok l lq a.works).pay in
      let s = put_plain w n r r l (join g l lq) at in
      let t = put_joined (put_number w n (r, Plain (join g l lq))) m q q lq lq
      (joinee_stays (numbered g) w n m r q l lq (Plain (join g l lq)) at is there stops) in
      subst (within most) (sym z) (omega (arith, b, s, t, h))
  step_within most w n u h (twice r l m at is z) = subst (within most) (sym z) tt

  kept_within : (most : ℕ) (ns : List ℕ) (v w : World (Local ℕ)) → within most v → Replays (numbered g) v ns w
      → within most w
  unfolding within
  kept_within most =
      replays_keep (numbered g) (within most) (λ x n u h e. step_within most x n u h (leg_ways (numbered g) x n u e))

  pub fuel_of : (n : ℕ) (m : IsMain g n) (fuel : ℕ) (ns : List ℕ) (w : Entries (Local ℕ))
      → Replays (numbered g) (begin (numbered g) (start_in g n m.body fuel)) ns (Listing w) → fuels w ≤ fuel
  unfolding within all
  fuel_of n m fuel ns w h =
      let a = first_pay g ok n m fuel ℕ in
      let start : within fuel (begin (numbered g) (start_in g n m.body fuel)) = omega (arith, a) in
      let e : all w ≤ fuel = kept_within fuel ns (begin (numbered g) (start_in g n m.body fuel)) (Listing w) start h in
      let b = covers w in
      omega (arith, e, b)

pub fuel_of_start : FuelIsOfTheStart
fuel_of_start g ok n m fuel ns w h = fuel_of g ok n m fuel ns w h
