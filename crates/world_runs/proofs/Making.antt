-- A leg of a world, or none, by how it came out.
use Rattle.std.proofs.Common.{◌≡◌, ◌∙◌, ℕ, zero, suc, ◌+◌, ◌≤◌, List, [], ◌∷◌, ◌++◌, length, take, Option, Some, None, refl, sym, ap, subst, arith}
use Rattle.std.specs.Prelude.{slice_get}
use Rattle.revision_machine.specs.Machine.{Entry, Plain, Joined}
use Rattle.revision_machine.specs.Laws.{local_of}
use Rattle.revision_machine.specs.Numbered as numbers
use Rattle.revision_machine.specs.Numbered.{Stops, Entries, World, Both, Listing, at_number, leg_of, leg_at, begin}
use Rattle.code_machine.specs.Local.{CodeRun, Local}
use Rattle.code_machine.specs.Machines.{numbered, start_in}
use Rattle.code_machine.specs.Worlds.{replay, after}
use Rattle.version_map.specs.Composing.{Merges}
use Rattle.fun_run.specs.Merging.{AreMergesOf}
use Rattle.code_machine.proofs.Changes.{waiting_has_none, one_entry}
use Rattle.code_world.specs.declared.answer.LegAnswer.{LegAnswer}
use Rattle.code_world.specs.declared.answer.LegAnswer.TheVariants as answer
use Rattle.code_world.specs.declared.world.World as rust
use Rattle.code_world.specs.declared.world.World.TheVariants as world
use Rattle.code_world.specs.Answers.{HasStopped, Leaves, LegAnswers}
use Rattle.code_world.specs.Tables.{IsTable, IsWorld}
use Rattle.code_world.proofs.Worlds.{world_live, world_twice}
use Rattle.code_world.specs.declared.table.Table.{Table}
use Rattle.code_machine_laws.specs.Reached.{IsReached}
use Rattle.code_machine_laws.proofs.Reaching.{legs_reached}
use Rattle.world_runs.specs.declared.made.Made.{Made}
use Rattle.world_runs.specs.declared.made.Made.TheVariants as made
use Rattle.world_runs.specs.LegOrNone.{made_of, HasMade}
use Rattle.world_runs.specs.Replay.{Replayed}

module _ (g : CodeRun) (w : Entries (Local ℕ)) (n : ℕ) where
  pub none_there : at_number w n ≡ None → numbers.leg (numbered g) (Listing w) n ≡ None
  none_there e = ap (leg_at (numbered g) w n) e

  pub none_over : HasStopped g w n → numbers.leg (numbered g) (Listing w) n ≡ None
  none_over (r, e, at, stops) = by e at stops
    where
      by : (e : Entry (Local ℕ)) → at_number w n ≡ Some (r, e) → (numbered g).next (local_of e) ≡ Stops
          → numbers.leg (numbered g) (Listing w) n ≡ None
      by (Plain l) at stops = ap (leg_at (numbered g) w n) at ∙ ap (leg_of (numbered g) w n r l) stops
      by (Joined l) at stops = ap (leg_at (numbered g) w n) at

  module _ (h : IsReached g (Listing w)) where
    leaves : (u : Entries (Local ℕ)) (t : Table) (v : rust.World) → v ≡ world.Live t → Leaves g w n t u
        → (x : World (Local ℕ)) × (numbers.leg (numbered g) (Listing w) n ≡ Some x) × IsReached g x × IsWorld g v x
    leaves u t v is l = (
      Listing u,
      l.leg,
      legs_reached g (Listing w) (Listing u) n h l.leg,
      subst (λ z. IsWorld g z (Listing u)) (sym is) l.table,
    )

    stays : (t : Table) (v : rust.World) → v ≡ world.Live t → IsTable g t w → IsWorld g v (Listing w)
    stays t v is table = subst (λ z. IsWorld g z (Listing w)) (sym is) table

    pub makes : (a : LegAnswer) (v : rust.World) → LegAnswers g (Listing w) n a v
        → HasMade g (Listing w) n (made_of v a)
    makes answer.Twice v (leg, is) =
        (Both, leg, legs_reached g (Listing w) Both n h leg, subst (λ z. IsWorld g z Both) (sym is) tt)
    makes (answer.Forked m) v (t, is, k) = leaves k.0 t v is k.1
    makes (answer.Joined m) v (t, is, k) = leaves k.0 t v is k.1
    makes answer.Ended v (t, is, k) = leaves k.0 t v is k.1
    makes answer.Trapped v (t, is, k) = leaves k.0 t v is k.1
    makes (answer.Waits m) v (t, is, k) = (waiting_has_none g w n m k.0, stays t v is k.1)
    makes answer.NoSuch v (t, is, k) = (none_there k.0, stays t v is k.1)
    makes answer.Over v (t, is, k) = (none_over k.0, stays t v is k.1)

pub made_live : (g : CodeRun) (v : rust.World) (w : World (Local ℕ)) (t : Table) → v ≡ world.Live t → IsReached g w
    → IsWorld g v w → (n : ℕ) (a : LegAnswer) (v' : rust.World)
    → LegAnswers g w n a v' → (k : Made) → k ≡ made_of v' a → HasMade g w n k
made_live g v w t e h is n a v' l k made =
    let x = world_live g v w t e is in
    subst (HasMade g w n) (sym made)
    (subst (λ z. HasMade g z n (made_of v' a)) (sym x.1)
    (makes g x.0 n (subst (IsReached g) x.1 h) a v' (subst (λ z. LegAnswers g z n a v') x.1 l)))

pub made_twice : (g : CodeRun) (v : rust.World) (w : World (Local ℕ)) → v ≡ world.Twice → IsWorld g v w → (n : ℕ)
    → HasMade g w n (made.None world.Twice)
made_twice g v w e is n = subst (λ z. HasMade g z n (made.None world.Twice)) (sym (world_twice g v w e is)) (refl, tt)

-- ---- replays

take_one : {A : Type 0} (xs : List A) (n : ℕ) (x : A) → slice_get xs n ≡ Some x → take (n + 1) xs ≡ take n xs ++ x ∷ []
take_one {A} xs n x e = let z : n + 1 ≡ suc n = omega arith in ap (λ k. take k xs) z ∙ by xs n e
  where
    by : (xs : List A) (n : ℕ) → slice_get xs n ≡ Some x → take (suc n) xs ≡ take n xs ++ x ∷ []
    by [] n e = absurd (let z : ◌≡◌ {A = Option A} None (Some x) = e in cc)
    by (y ∷ xs) zero e = (let z : y ≡ x = cc in ap (λ k. k ∷ []) z)
    by (y ∷ xs) (suc n) e = ap (λ k. y ∷ k) (by xs n e)

pub replay_begins : (g : CodeRun) (fuel n : ℕ) (m : Rattle.code_machine.specs.Machines.IsMain g n) → (ns : List ℕ)
    → ns ≡ [] → Replayed g fuel ns (begin (numbered g) (start_in g n m.body fuel))
replay_begins g fuel n m ns e =
    record { number = n; main = m; world = ap (replay (numbered g) (begin (numbered g) (start_in g n m.body fuel))) e }

pub replay_goes : (g : CodeRun) (fuel : ℕ) (ns : List ℕ) (at : ℕ) (w u : World (Local ℕ))
    → Replayed g fuel (take at ns) w → (n : ℕ) → slice_get ns at ≡ Some n
    → numbers.leg (numbered g) w n ≡ Some u → Replayed g fuel (take (at + 1) ns) u
replay_goes g fuel ns at w u r n e leg = record {
  number = r.number;
  main = r.main;
  world = ap (replay (numbered g) (begin (numbered g) (start_in g r.number r.main.body fuel))) (take_one ns at n e)
      ∙ one_entry g (begin (numbered g) (start_in g r.number r.main.body fuel)) (take at ns) n
      ∙ ap (λ o. after (numbered g) o (λ x. numbers.leg (numbered g) x n)) r.world ∙ leg;
}

take_all : {A : Type 0} (xs : List A) (n : ℕ) → length xs ≤ n → take n xs ≡ xs
take_all [] zero h = refl
take_all [] (suc n) h = refl
take_all (x ∷ xs) zero h = absurd (omega (arith, h))
take_all (x ∷ xs) (suc n) h = ap (λ k. x ∷ k) (take_all xs n (omega (arith, h)))

pub replay_ends : (g : CodeRun) (fuel : ℕ) (ns : List ℕ) (at : ℕ) (w : World (Local ℕ)) → Replayed g fuel (take at ns) w
    → length ns ≤ at → Replayed g fuel ns w
replay_ends g fuel ns at w r h = subst (λ ms. Replayed g fuel ms w) (take_all ns at h) r

pub merges_still : (g : CodeRun) (m m' : Merges ℕ) → m' ≡ m → AreMergesOf g m → AreMergesOf g m'
merges_still g m m' e h = subst (AreMergesOf g) (sym e) h
