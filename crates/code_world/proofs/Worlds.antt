-- Worlds that stand for those of the definition.
use Rattle.std.proofs.Common.{◌≡◌, ℕ, refl, sym, subst}
use Rattle.revision_machine.specs.Numbered.{Entries, World, Both, Listing}
use Rattle.code_machine.specs.Local.{CodeRun, IsVerified, Local}
use Rattle.code_machine_laws.specs.Reached.{IsReached}
use Rattle.code_world.specs.declared.answer.LegAnswer.{LegAnswer}
use Rattle.code_world.specs.declared.answer.LegAnswer.TheVariants as answer
use Rattle.code_world.specs.declared.table.Table.{Table}
use Rattle.code_world.specs.declared.world.World as rust
use Rattle.code_world.specs.declared.world.World.TheVariants as world
use Rattle.code_world.specs.Answers.{Answers, world_after, LegAnswers}
use Rattle.code_world.specs.Tables.{IsTable, IsWorld}
use Rattle.code_world.specs.Turns.{IsGood}

module _ (g : CodeRun) where
  pub world_twice : (v : rust.World) (w : World (Local ℕ)) → v ≡ world.Twice → IsWorld g v w → w ≡ Both
  world_twice v w e h = by w (subst (λ z. IsWorld g z w) e h)
    where
      by : (w : World (Local ℕ)) → IsWorld g world.Twice w → w ≡ Both
      by Both h = refl
      by (Listing x) h = absurd h

  pub world_live : (v : rust.World) (w : World (Local ℕ)) (t : Table) → v ≡ world.Live t → IsWorld g v w
      → (x : Entries (Local ℕ)) × (w ≡ Listing x) × IsTable g t x
  world_live v w t e h = by w (subst (λ z. IsWorld g z w) e h)
    where
      by : (w : World (Local ℕ)) → IsWorld g (world.Live t) w
          → (x : Entries (Local ℕ)) × (w ≡ Listing x) × IsTable g t x
      by (Listing x) h = (x, refl, h)
      by Both h = absurd h

  pub good_table : IsVerified g → (v : rust.World) (w : World (Local ℕ)) (t : Table) → v ≡ world.Live t → IsReached g w
      → IsWorld g v w → (x : Entries (Local ℕ)) × IsGood g t x
  good_table ok v w t e r h =
      let k = world_live v w t e h in
      (k.0, record { verified = ok; reached = subst (IsReached g) k.1 r; table = k.2 })

  pub good_listing : IsVerified g → (v : rust.World) (w : Entries (Local ℕ)) (t : Table) → v ≡ world.Live t
      → IsReached g (Listing w) → IsWorld g v (Listing w) → IsGood g t w
  good_listing ok v w t e r h = record { verified = ok; reached = r; table = subst (λ z. IsWorld g z (Listing w)) e h }

  pub in_world : (x : Entries (Local ℕ)) (n : ℕ) (a : LegAnswer) (t : Table) → Answers g x n a t
      → LegAnswers g (Listing x) n a (world_after t a)
  in_world x n answer.Twice t k = (k, refl)
  in_world x n (answer.Forked m) t k = (t, refl, k)
  in_world x n (answer.Joined m) t k = (t, refl, k)
  in_world x n answer.Ended t k = (t, refl, k)
  in_world x n answer.Trapped t k = (t, refl, k)
  in_world x n (answer.Waits m) t k = (t, refl, k)
  in_world x n answer.NoSuch t k = (t, refl, k)
  in_world x n answer.Over t k = (t, refl, k)

  pub answers_in : IsVerified g → (v : rust.World) (w : World (Local ℕ)) (t : Table) → v ≡ world.Live t → IsReached g w
      → IsWorld g v w → (n : ℕ) (a : LegAnswer) (t' : Table)
      → ((x : Entries (Local ℕ)) → IsGood g t x → Answers g x n a t') → (v' : rust.World) → v' ≡ world_after t' a
      → LegAnswers g w n a v'
  answers_in ok v w t e r h n a t' all v' is =
      let k = world_live v w t e h in
      subst (λ z. LegAnswers g z n a v') (sym k.1)
      (subst (LegAnswers g (Listing k.0) n a) (sym is)
      (in_world k.0 n a t' (all k.0 (record { verified = ok; reached = subst (IsReached g) k.1 r; table = k.2 }))))

  pub twice_in : (v : rust.World) (w : World (Local ℕ)) → v ≡ world.Twice → IsWorld g v w → (n : ℕ)
      → LegAnswers g w n answer.Twice world.Twice
  twice_in v w e h n = subst (λ z. LegAnswers g z n answer.Twice world.Twice) (sym (world_twice v w e h)) (refl, refl)
