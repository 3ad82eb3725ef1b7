-- What legs keep: of one leg, and of one leg after another.
--   keeps_so        what follows from what is kept is kept too
--   on_way          a schedule leads to the world after the leg
--   kept_nothing    where nothing is kept, that holds on
--   kept_so         it is kept of the world that was made
--   led_to          the world where a leg has led to, or the same where there was none
--   handed          an error that `?` hands on
use Rattle.std.proofs.Common.{◌≡◌, ℕ, ◌+◌, List, [], ◌∷◌, Ok, Err, refl, sym, subst}
use Rattle.std.specs.Prelude.{Result, IfErr, IsErrAnd}
use Rattle.revision_machine.specs.Numbered.{World, Replays}
use Rattle.code_machine.specs.Local.{CodeRun, Local}
use Rattle.code_machine.specs.Machines.{numbered}
use Rattle.code_world.specs.declared.answer.LegAnswer.{LegAnswer}
use Rattle.code_world.specs.declared.answer.LegAnswer.TheVariants as answer
use Rattle.code_world.specs.declared.table.Table.{Table}
use Rattle.code_world.specs.declared.world.World as rust
use Rattle.code_world.specs.declared.world.World.TheVariants as world
use Rattle.code_world.specs.Answers.{LegAnswers}
use Rattle.code_world.specs.Tables.{IsWorld}
use Rattle.code_machine_laws.specs.Reached.{IsReached}
use Rattle.world_runs.specs.declared.queue.ReadyQueue.{ReadyQueue}
use Rattle.world_runs.specs.declared.made.Made.{Made}
use Rattle.world_runs.specs.declared.made.Made.TheVariants as made
use Rattle.world_runs.specs.Covers.{CoversWorld}
use Rattle.world_runs.specs.LegOrNone.{made_of, HasMade}
use Rattle.world_runs.specs.KeptByLegs.{Kept, KeepsOn, MadeKept, HasLeastKeeping, HasFinishedKeeping}
use Rattle.world_runs.proofs.LeastLegs.{Came, came_none, came_more, came_last}
use Rattle.world_runs.proofs.Making.{made_live}

-- ---- one leg

module _ (g : CodeRun) (w : World (Local ℕ)) (n : ℕ) where
  module _ (K K' : World (Local ℕ) → Type 0) (so : (u : World (Local ℕ)) → K u → K' u) where
    pub keeps_so : (a : LegAnswer) → KeepsOn K g w n a → KeepsOn K' g w n a
    keeps_so (answer.Forked k) x = λ u leg. so u (x u leg)
    keeps_so (answer.Joined k) x = λ u leg. so u (x u leg)
    keeps_so answer.Ended x = λ u leg. so u (x u leg)
    keeps_so answer.Trapped x = λ u leg. so u (x u leg)
    keeps_so answer.Twice x = λ u leg. so u (x u leg)
    keeps_so (answer.Waits k) x = so w x
    keeps_so answer.NoSuch x = so w x
    keeps_so answer.Over x = so w x

  -- a way to the world after the leg
  pub on_way : (a : LegAnswer) → KeepsOn (λ u. (ns : List ℕ) × Replays (numbered g) w ns u) g w n a
  on_way (answer.Forked k) = λ u leg. (n ∷ [], (u, leg, refl))
  on_way (answer.Joined k) = λ u leg. (n ∷ [], (u, leg, refl))
  on_way answer.Ended = λ u leg. (n ∷ [], (u, leg, refl))
  on_way answer.Trapped = λ u leg. (n ∷ [], (u, leg, refl))
  on_way answer.Twice = λ u leg. (n ∷ [], (u, leg, refl))
  on_way (answer.Waits k) = ([], refl)
  on_way answer.NoSuch = ([], refl)
  on_way answer.Over = ([], refl)

  pub kept_nothing : (a : LegAnswer) → KeepsOn (λ u. Unit {0}) g w n a
  kept_nothing a = keeps_so (λ u. (ns : List ℕ) × Replays (numbered g) w ns u) (λ u. Unit {0}) (λ u x. tt) a (on_way a)

  module _ (K : Kept) where
    made_kept : (v : rust.World) (a : LegAnswer) → KeepsOn (λ u. K u v) g w n a → MadeKept K g w n (made_of v a)
    made_kept v (answer.Forked k) x = x
    made_kept v (answer.Joined k) x = x
    made_kept v answer.Ended x = x
    made_kept v answer.Trapped x = x
    made_kept v answer.Twice x = x
    made_kept v (answer.Waits k) x = x
    made_kept v answer.NoSuch x = x
    made_kept v answer.Over x = x

    pub kept_so : (v : rust.World) (a : LegAnswer) → KeepsOn (λ u. K u v) g w n a → (k : Made) → k ≡ made_of v a
        → MadeKept K g w n k
    kept_so v a x k from = subst (MadeKept K g w n) (sym from) (made_kept v a x)

  module _ (K : World (Local ℕ) → Type 0) (h : IsReached g w) (v : rust.World) where
    abbrev Led : Type 0
    Led = (u : World (Local ℕ)) × IsReached g u × IsWorld g v u × K u

    led : (a : LegAnswer) → HasMade g w n (made_of v a) → KeepsOn K g w n a → Led
    led (answer.Forked k) (u, leg, r, is) x = (u, r, is, x u leg)
    led (answer.Joined k) (u, leg, r, is) x = (u, r, is, x u leg)
    led answer.Ended (u, leg, r, is) x = (u, r, is, x u leg)
    led answer.Trapped (u, leg, r, is) x = (u, r, is, x u leg)
    led answer.Twice (u, leg, r, is) x = (u, r, is, x u leg)
    led (answer.Waits k) (none, is) x = (w, h, is, x)
    led answer.NoSuch (none, is) x = (w, h, is, x)
    led answer.Over (none, is) x = (w, h, is, x)

    pub led_to : (before : rust.World) (t : Table) → before ≡ world.Live t → IsWorld g before w → (a : LegAnswer)
        → LegAnswers g w n a v → KeepsOn K g w n a → Led
    led_to before t live is a l x = led a (made_live g before w t live h is n a v l (made_of v a) refl) x

-- an error that `?` hands on
pub handed : {A F : Type 0} (P : F → Type 0) (r : Result A F) (f : F) → IsErrAnd r (λ x. x ≡ f) → P f → IfErr r P
handed P (Ok x) f never p = absurd never
handed P (Err x) f same p = subst P (sym same) p

-- ---- one leg after another

module _ (K : Kept) (g : CodeRun) where
  pub record CameKeeping (w : World (Local ℕ)) (turns : ℕ) (v : rust.World) (q : ReadyQueue) : Type 0 where
    pub came : Came g w turns v q
    pub kept : K came.last v

  pub came_first : (w : World (Local ℕ)) (v : rust.World) (q : ReadyQueue) → IsReached g w → IsWorld g v w
      → CoversWorld g w q → K w v → CameKeeping w 0 v q
  unfolding came_none
  came_first w v q h is c kept = record { came = came_none g w v q h is c; kept = kept }

-- what is kept may change from leg to leg
module _ (K K' : Kept) (g : CodeRun) where
  pub came_on : (w : World (Local ℕ)) (turns : ℕ) (v : rust.World) (q : ReadyQueue) (c : CameKeeping K g w turns v q)
      → (v' : rust.World) (q' : ReadyQueue)
      → HasLeastKeeping K' g c.came.last (made.Leg v') q' → CameKeeping K' g w (turns + 1) v' q'
  unfolding came_more
  came_on w turns v q c v' q' k = record { came = came_more g w turns v q c.came v' q' k.0; kept = k.1 }

  pub came_to_end : (w : World (Local ℕ)) (turns : ℕ) (v : rust.World) (q : ReadyQueue)
      (c : CameKeeping K g w turns v q)
      → (v' : rust.World) (q' : ReadyQueue)
      → HasLeastKeeping K' g c.came.last (made.None v') q' → HasFinishedKeeping K' g w v'
  unfolding came_last
  came_to_end w turns v q c v' q' k = record { finished = came_last g w turns v q c.came v' q' k.0; kept = k.1 }
