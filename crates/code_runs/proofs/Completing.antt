-- The outcome of the code, from the world after one complete schedule.
use Rattle.std.proofs.Common.{◌≡◌, ◌∙◌, ℕ, ◌≤◌, List, [], Option, Some, None, refl, sym, ap, subst}
use Rattle.rev_num.specs.declared.outcome.Outcome.{Outcome}
use Rattle.rev_num.specs.declared.outcome.Outcome.TheVariants as o
use Rattle.revision_machine.specs.Machine.{Plain}
use Rattle.revision_machine.specs.Numbered.{Entries, World, Both, Listing, at_number, paths_of}
use Rattle.code_machine.specs.Local.{CodeRun, IsVerified, Local}
use Rattle.code_machine.specs.Outcome.{outcome}
use Rattle.code_machine.proofs.Ending.{none_blocked}
use Rattle.code_machine_laws.specs.Outcomes.{HasOutcome, IsCompleteRun}
use Rattle.code_machine_laws.proofs.Outcomes.{each_has_one}
use Rattle.code_world.specs.declared.ending.MainEnd.{MainEnd}
use Rattle.code_world.specs.declared.world.World as rust
use Rattle.code_world.specs.Endings.{HasLeft, MainIsOver, Names}
use Rattle.code_world.proofs.Ended.{plain_same}
use Rattle.code_machine_laws.specs.Reached.{IsReached, most_fuel}
use Rattle.code_machine_laws.proofs.Reaching.{main_stands}
use Rattle.code_runs.specs.Ends.{IsEndOfMain}
use Rattle.code_runs.specs.Completed.{IsAfter}

module _ (g : CodeRun) (ok : IsVerified g) (fuel : ℕ) where
  -- the world after one complete schedule shows it
  pub shown_by : (ns : List ℕ) (w : World (Local ℕ)) → IsCompleteRun g fuel ns w → (x : Outcome) → outcome g w ≡ Some x
      → HasOutcome g fuel x
  shown_by ns w h x is =
      let one = each_has_one g ok fuel in
      let same : one.is ≡ x = (let z : Some one.is ≡ Some x = sym (one.has.each ns w h) ∙ is in cc) in
      subst (HasOutcome g fuel) same one.has

  reached : fuel ≤ most_fuel → (ns : List ℕ) (w : World (Local ℕ)) → IsCompleteRun g fuel ns w → IsReached g w
  reached few ns w h =
      record { number = h.block; main = h.main; fuel = fuel; few = few; schedule = ns; replays = h.legal }

  main_over : fuel ≤ most_fuel → (ns : List ℕ) (w : World (Local ℕ)) → IsCompleteRun g fuel ns w → MainIsOver w
  main_over few ns Both h = tt
  main_over few ns (Listing w) h =
      let m = main_stands g ok w (reached few ns (Listing w) h) in
      (m.0, m.1, none_blocked g ok h.block h.main fuel ns (Listing w) h.legal h.over 0 [] (Plain m.0) m.1)

  module _ (v : rust.World) (a : IsAfter g fuel v) where
    pub over : MainIsOver a.world
    over = main_over a.few a.schedule a.world a.complete

    pub twice : (left : Option MainEnd) → HasLeft g a.world left → left ≡ None → HasOutcome g fuel o.Twice
    twice left h e = shown_by a.schedule a.world a.complete o.Twice (by a.world (subst (HasLeft g a.world) e h))
      where
        by : (w : World (Local ℕ)) → HasLeft g w None → outcome g w ≡ Some o.Twice
        by Both h = refl
        by (Listing w) h = absurd h

-- the end of `main`, in a world with these paths
pub record LeftBy (g : CodeRun) (w : Entries (Local ℕ)) (m : MainEnd) : Type 0 where
  pub local : Local ℕ
  pub there : at_number w 0 ≡ Some ([], Plain local)
  pub end : IsEndOfMain g local m.end
  pub names : Names m.births.items (paths_of w)

module _ (g : CodeRun) (ok : IsVerified g) (fuel : ℕ) (v : rust.World) (a : IsAfter g fuel v) (left : Option MainEnd)
    (h : HasLeft g a.world left) (m : MainEnd) (e : left ≡ Some m) where
  pub left_by : (w : Entries (Local ℕ)) × (a.world ≡ Listing w) × LeftBy g w m
  left_by = by a.world refl (subst (HasLeft g a.world) e h)
    where
      by : (u : World (Local ℕ)) → a.world ≡ u → HasLeft g u (Some m)
          → (w : Entries (Local ℕ)) × (a.world ≡ Listing w) × LeftBy g w m
      by Both is k = absurd k
      by (Listing w) is (l, at, end, names) =
          let r = subst (IsReached g) is (reached g ok fuel a.few a.schedule a.world a.complete) in
          let s = main_stands g ok w r in
          let same : l ≡ s.0 = plain_same (at_number w 0) [] [] s.0 l s.1 at in (
            w,
            is,
            record {
              local = l;
              there = at;
              end = record {
                end = end;
                starts = ap (λ (k : Local ℕ). Rattle.code_machine_laws.specs.Reached.snapshots k.state.locations) same
                    ∙ s.2;
              };
              names = names;
            },
          )

  pub main_shows : (x : Outcome) → ((w : Entries (Local ℕ)) → LeftBy g w m → outcome g (Listing w) ≡ Some x)
      → HasOutcome g fuel x
  main_shows x all =
      let k = left_by in
      shown_by g ok fuel a.schedule a.world a.complete x (ap (outcome g) k.1 ∙ all k.0 k.2)
