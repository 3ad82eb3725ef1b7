-- What is recorded at the end of a complete run is the memo.
use Rattle.std.proofs.Common.{◌≡◌, ◌∙◌, ◌⊎◌, inl, inr, ℕ, suc, ◌≤◌, Bool, true, false, cond, List, [], ◌∷◌, length, Option, Some, None, refl, sym, ap, subst, arith}
use Rattle.std.proofs.lemmas.Bool.{true≢false}
use Rattle.rev_num.specs.Path.{Path, same}
use Rattle.rev_num.proofs.PostOrder.{same_refl, same-eq}
use Rattle.rev_code.specs.State.{State, Setting}
use Rattle.rev_code.specs.Step.{Comes, goes, traps, forks, joins, ends, stuck}
use Rattle.code_machine_laws.specs.Forms.{ComesTo, to_next, to_write, to_payment, to_trap, to_fork, to_join, to_end, to_nothing}
use Rattle.code_machine_laws.proofs.Forms.{holds_of_reach}
use Rattle.revision_machine.specs.Machine.{Moves, Ended, Entry, Live, Revisions, start, Complete}
use Rattle.revision_machine.specs.Laws.{local_of, IsIn, IsDistinct}
use Rattle.code_machine.specs.Local.{CodeRun, IsVerified, under, Local, at_work}
use Rattle.code_machine.specs.Leg.{leg, clock}
use Rattle.code_machine.specs.Machines.{Act, Stops, act, machine, event_of, IsMain}
use Rattle.code_machine.proofs.MachineConditions.{counts}
use Rattle.code_memos.proofs.Leaves.{leaves_end}
use Rattle.code_memos.specs.Leaf.{Fresh, ended_by}
use Rattle.code_memos.specs.Memo.{first, IsLeaf, HasValid}
use Rattle.code_memos.proofs.Adopting.{goes_ended}
use Rattle.code_memos.proofs.Leaving.{no}
use Rattle.code_memos.specs.Recording.{HasNone, RecordedIsMemo, CountedIsReused, ReusedIsOne}

module _ {H : Type 0} where
  -- a leg lists nothing by itself
  abbrev Lists : State H → Comes H → Type 0
  Lists c (goes d) = d.listed ≡ c.listed
  Lists c (traps d e) = d.listed ≡ c.listed
  Lists c (forks d n args) = d.listed ≡ c.listed
  Lists c (joins d try h) = d.listed ≡ c.listed
  Lists c (ends d w) = d.listed ≡ c.listed
  Lists c stuck = Unit {0}

  form_lists : (s : Setting H) (c : State H) (o : Comes H) → ComesTo s c o → Lists c o
  form_lists s c o (to_next block at locals stack below text more) = refl
  form_lists s c o (to_write rest l w) = refl
  form_lists s c o (to_payment line fuel e) = refl
  form_lists s c o (to_trap line e) = refl
  form_lists s c o (to_fork n body args is e) = refl
  form_lists s c o (to_join try h rest e) = refl
  form_lists s c o (to_end w) = refl
  form_lists s c o to_nothing = tt

  then_lists : (c d : State H) (o : Comes H) → d.listed ≡ c.listed → Lists d o → Lists c o
  then_lists c d (goes e) h k = k ∙ h
  then_lists c d (traps e x) h k = k ∙ h
  then_lists c d (forks e n args) h k = k ∙ h
  then_lists c d (joins e try m) h k = k ∙ h
  then_lists c d (ends e w) h k = k ∙ h
  then_lists c d stuck h k = tt

  leg_lists : (g : CodeRun) (c : State H) → Lists c (leg g c)
  leg_lists g c = holds_of_reach (under g) Lists (form_lists (under g)) then_lists (clock g c) c

  abbrev listed_in : State H → Option (Local H) → List (Rattle.rev_code.specs.State.Listed H)
  listed_in c None = c.listed
  listed_in c (Some l) = l.state.listed

  ended_lists : (c : State H) (o : Comes H) (l : Local H) → ended_by o ≡ Some l → Lists c o → l.state.listed ≡ c.listed
  ended_lists c (traps d e) l h k = ap (listed_in c) (sym h) ∙ k
  ended_lists c (ends d w) l h k = ap (listed_in c) (sym h) ∙ k
  ended_lists c (goes d) l h k = absurd (no l h)
  ended_lists c (forks d n args) l h k = absurd (no l h)
  ended_lists c (joins d try m) l h k = absurd (no l h)
  ended_lists c stuck l h k = absurd (no l h)

  abbrev act_or : CodeRun → Option (Local H) → Act H
  act_or g None = Stops
  act_or g (Some l) = act g l

  ended_stops : (g : CodeRun) (o : Comes H) (l : Local H) → ended_by o ≡ Some l → act g l ≡ Stops
  ended_stops g (traps d e) l h = sym (ap (act_or g) h)
  ended_stops g (ends d w) l h = sym (ap (act_or g) h)
  ended_stops g (goes d) l h = absurd (no l h)
  ended_stops g (forks d n args) l h = absurd (no l h)
  ended_stops g (joins d try m) l h = absurd (no l h)
  ended_stops g stuck l h = absurd (no l h)

-- a leaf revision has listed nothing at the end of a complete run
record Ends (g : CodeRun) (h : Revisions (machine g)) (r : Path) : Type 0 where
  entry : Entry (Local Path)
  stands : h r ≡ Some entry
  listed : (local_of entry).state.listed ≡ []

leaf_ends : (g : CodeRun) → IsVerified g
    → (number : ℕ) (main : IsMain g number) (fuel : ℕ) (rs : List Path) (h : Revisions (machine g))
    → Complete (machine g) (start (machine g) (first g number main fuel)) rs (Live h)
    → (r : Path) (f : Fresh Path) → IsLeaf g number main fuel r f → Ends g h r
leaf_ends g ok number main fuel rs h complete r f leaf =
    let s = leaf.state in
    let first' : (machine g).next r (at_work s) ≡ Moves leaf.after =
    ap (event_of r s.forks) (goes_ended g (leg g s) leaf.after leaf.ends) in
    let last : (machine g).next r leaf.after ≡ Ended =
    ap (event_of r leaf.after.state.forks) (ended_stops g (leg g s) leaf.after leaf.ends) in
    let there =
    leaves_end (machine g) (first g number main fuel) (counts g ok) rs h complete r (at_work s) leaf.after leaf.born
    first' last in
    let none : leaf.after.state.listed ≡ [] =
    ended_lists s (leg g s) leaf.after leaf.ends (leg_lists g s) ∙ ap (λ z. z.listed) leaf.fresh.state in
    record { entry = there.0; stands = there.1; listed = ap (λ l. l.state.listed) there.2 ∙ none }

pub recorded_is_memo : RecordedIsMemo
recorded_is_memo g ok number main fuel rs h complete es rec = record {
  each = rec.each;
  all = λ r f leaf.
      let e = leaf_ends g ok number main fuel rs h complete r f leaf in
      rec.found r e.entry e.stands e.listed;
  once = rec.once;
}

pub counted_is_reused : CountedIsReused
counted_is_reused g ok number main fuel rs h complete es paths counted = record {
  paths = paths;
  distinct = counted.once;
  are = λ r. (counted.each r, back r);
  count = refl;
}
  where
    sort_out : (r : Path) → HasValid g number main fuel es r → IsIn r paths ⊎ HasNone g number main fuel es r
        → IsIn r paths
    sort_out r v (inl i) = i
    sort_out r v (inr n) = absurd (n v)

    back : (r : Path) → HasValid g number main fuel es r → IsIn r paths
    back r v =
        let e = leaf_ends g ok number main fuel rs h complete r v.0 v.1 in
        sort_out r v (counted.found r e.entry e.stands e.listed)

-- ---- lists without repetitions that have the same members are as long

without : Path → List Path → List Path
without p [] = []
without p (q ∷ qs) = cond (same p q) qs (q ∷ without p qs)

module _ (p : Path) where
  by_cases : (q : Path) (P : Bool → Type 0) → (p ≡ q → P true) → ((p ≡ q → ⊥) → P false) → P (same p q)
  by_cases q P here other = go (same p q) refl
    where
      go : (b : Bool) → same p q ≡ b → P b
      go true e = here (same-eq p q e)
      go false e = other (λ pq. true≢false (sym (subst (λ z. same p z ≡ true) pq (same_refl p)) ∙ e))

  shorter : (qs : List Path) → IsIn p qs → suc (length (without p qs)) ≡ length qs
  unfolding without
  shorter [] i = absurd i
  shorter (q ∷ qs) i =
      by_cases q (λ b. suc (length (cond b qs (q ∷ without p qs))) ≡ length (q ∷ qs)) (λ e. refl)
      (λ other. ap suc (shorter qs (rest other i)))
    where
      rest : (p ≡ q → ⊥) → (p ≡ q) ⊎ IsIn p qs → IsIn p qs
      rest other (inl e) = absurd (other e)
      rest other (inr j) = j

  still_in : (qs : List Path) (r : Path) → (r ≡ p → ⊥) → IsIn r qs → IsIn r (without p qs)
  unfolding without
  still_in [] r apart i = i
  still_in (q ∷ qs) r apart i =
      by_cases q (λ b. IsIn r (cond b qs (q ∷ without p qs))) (λ e. at i e) (λ other. beside (still_in qs r apart) i)
    where
      at : (r ≡ q) ⊎ IsIn r qs → p ≡ q → IsIn r qs
      at (inl e) pq = absurd (apart (e ∙ sym pq))
      at (inr j) pq = j

      beside : (IsIn r qs → IsIn r (without p qs)) → (r ≡ q) ⊎ IsIn r qs → (r ≡ q) ⊎ IsIn r (without p qs)
      beside rec (inl e) = inl e
      beside rec (inr j) = inr (rec j)

no_longer : (ps qs : List Path) → IsDistinct ps → ((r : Path) → IsIn r ps → IsIn r qs) → length ps ≤ length qs
no_longer [] qs d sub = omega arith
no_longer (p ∷ ps) qs d sub =
    let i = sub p (inl refl) in
    let h = no_longer ps (without p qs) d.1
    (λ r j. still_in p qs r (λ e. d.0 (subst (λ z. IsIn z ps) e j)) (sub r (inr j))) in
    let e = shorter p qs i in omega (arith, h, e)

pub reused_is_one : ReusedIsOne
reused_is_one g number main fuel es n k a b =
    let h = no_longer a.paths b.paths a.distinct (λ r i. (b.are r).1 ((a.are r).0 i)) in
    let l = no_longer b.paths a.paths b.distinct (λ r i. (a.are r).1 ((b.are r).0 i)) in
    let x = a.count in let y = b.count in omega (arith, h, l, x, y)
