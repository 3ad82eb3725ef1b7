-- What was put on the way is a first part of the text of the outcome.
use Rattle.std.proofs.Common.{◌≡◌, ◌≢◌, ◌∙◌, ℕ, ◌≤◌, List, [], ◌++◌, Ok, Err, refl, sym, ap, subst}
use Rattle.std.specs.Prelude.{Result, IsErrAnd}
use Rattle.rev_io.specs.Stream.{Stream, Took}
use Rattle.rev_num.specs.declared.outcome.Outcome.{Outcome}
use Rattle.rev_num.specs.declared.outcome.Outcome.TheVariants as o
use Rattle.revision_machine.specs.Numbered as numbers
use Rattle.revision_machine.specs.Numbered.{Entries, World, Both, Listing, begin, Replays}
use Rattle.code_machine.specs.Local.{CodeRun, IsVerified, Local}
use Rattle.code_machine.specs.Machines.{numbered, IsMain, start_in}
use Rattle.code_machine_laws.specs.Outcomes.{HasOutcome}
use Rattle.code_world.specs.declared.world.World as rust
use Rattle.code_world.specs.Said.{main_text}
use Rattle.code_world.specs.Tables.{IsWorld}
use Rattle.code_machine_laws.specs.Reached.{IsReached, most_fuel}
use Rattle.code_machine_laws.proofs.Reaching.{main_stands}
use Rattle.world_runs.specs.Finish.{HasFinished}
use Rattle.code_runs.specs.Completed.{IsAfter}
use Rattle.code_machine_laws.specs.Forms.{Grows}
use Rattle.code_machine_laws.specs.Texts.{MainSays, NeverJoinsTwice, said}
use Rattle.code_machine_laws.proofs.Ending.{first_parts, over_is_all, twice_is_told}
use Rattle.world_streams.specs.declared.fault.StreamFault.{StreamFault}
use Rattle.world_streams.specs.declared.fault.StreamFault.TheVariants as fault
use Rattle.world_streams.specs.Streamed.{PutsPart, Streamed}
use Rattle.world_streams.specs.Runs.{NeverTwiceFrom, PutsAll, PutsOn, StreamsTo}
use Rattle.world_streams.proofs.Gaining.{world_says}
use Rattle.world_streams.proofs.Putting.{some_all, some_longer, some_none}

module _ (g : CodeRun) (ok : IsVerified g) (n : ℕ) (m : IsMain g n) (fuel : ℕ) (few : fuel ≤ most_fuel)
    (never : NeverJoinsTwice g fuel) where
  abbrev first : World (Local ℕ)
  first = begin (numbered g) (start_in g n m.body fuel)

  pub never_from : NeverTwiceFrom g first
  never_from ns u r = never n m ns u r

  reached : (ns : List ℕ) (w : World (Local ℕ)) → Replays (numbered g) first ns w → IsReached g w
  reached ns w h = record { number = n; main = m; fuel = fuel; few = few; schedule = ns; replays = h }

  pub first_reached : IsReached g first
  first_reached = reached [] first refl

  says : (ns : List ℕ) (x : Entries (Local ℕ)) → Replays (numbered g) first ns (Listing x) → (v : rust.World)
      → IsWorld g v (Listing x) → MainSays g x (main_text v)
  says ns x h v is = let k = main_stands g ok x (reached ns (Listing x) h) in world_says g v x is k.0 k.1

  not_twice : (end : Outcome) → HasOutcome g fuel end → end ≢ o.Twice
  not_twice end has = (twice_is_told g fuel end has).0 never

  part_of : (ns : List ℕ) (w : World (Local ℕ)) → Replays (numbered g) first ns w → (v : rust.World) → IsWorld g v w
      → (end : Outcome) → HasOutcome g fuel end → Grows (main_text v) (said end)
  part_of ns Both h v is end has = absurd (never n m ns Both h refl)
  part_of ns (Listing x) h v is end has =
      first_parts g ok n m fuel few ns (Listing x) h x refl (main_text v) (says ns x h v is) end has (not_twice end has)

  all_of : (ns : List ℕ) (w : World (Local ℕ)) → Replays (numbered g) first ns w
      → ((k : ℕ) → numbers.leg (numbered g) w k ≡ Rattle.std.proofs.Common.None) → (v : rust.World) → IsWorld g v w
      → (end : Outcome) → HasOutcome g fuel end → main_text v ≡ said end
  all_of ns Both h over v is end has = absurd (never n m ns Both h refl)
  all_of ns (Listing x) h over v is end has =
      over_is_all g ok n m fuel few ns (Listing x) h x refl over (main_text v) (says ns x h v is) end has

  module _ (v : rust.World) (silent : main_text v ≡ []) (old new : Stream) where
    pub puts_part : PutsOn g first v old new → PutsPart g fuel old new
    puts_part p end has =
        some_longer old new p.gain (said end)
        (subst (λ z. Grows z (said end)) (p.gains ∙ ap (λ z. z ++ p.gain) silent)
        (part_of p.schedule p.end p.replays p.after p.stands end has))
        p.part

    pub faults : (e : StreamFault) → StreamsTo g first v old new (Err e) → Streamed g fuel old new (Err e)
    faults fault.Sink p = (p.0, puts_part p.1)
    faults fault.OutOfMemory p = (p.0, puts_part p.1)

    module _ (v' : rust.World) (p : PutsAll v v' old new) (f : HasFinished g first v') where
      whole : (end : Outcome) → HasOutcome g fuel end → p.gain ≡ said end
      whole end has =
          let c = f.complete (start_in g n m.body fuel) in
          sym (p.gains ∙ ap (λ z. z ++ p.gain) silent) ∙ all_of f.schedule f.end c.replays c.over v' f.world end has

      pub ended : (end : Outcome) → HasOutcome g fuel end → Streamed g fuel old new (Ok end)
      ended end has = (has, subst (λ z. Took old z new) (whole end has) p.took)

      -- memory ran out behind the last leg
      pub cut : Streamed g fuel old new (Err fault.OutOfMemory)
      cut = (p.took.calm, λ end has. some_all old new (said end) (subst (λ z. Took old z new) (whole end has) p.took))

-- before the first leg
pub untouched : (g : CodeRun) (fuel : ℕ) (old : Stream) → Streamed g fuel old old (Err fault.OutOfMemory)
untouched g fuel old = (refl, λ end has. some_none old old (said end) refl)

-- the world at the end is one behind a complete schedule
pub after_run : (g : CodeRun) (n : ℕ) (m : IsMain g n) (fuel : ℕ) → fuel ≤ most_fuel → (v : rust.World)
    → HasFinished g (begin (numbered g) (start_in g n m.body fuel)) v → IsAfter g fuel v
after_run g n m fuel few v f =
    let c = f.complete (start_in g n m.body fuel) in
    record {
      few = few;
      schedule = f.schedule;
      world = f.end;
      complete = record { block = n; main = m; legal = c.replays; over = c.over };
      stands = f.world;
    }

-- an error that `?` hands on
pub handed_on : (g : CodeRun) (fuel : ℕ) (old new : Stream) (r : Result Outcome StreamFault) (e : StreamFault)
    → IsErrAnd r (λ x. x ≡ e) → Streamed g fuel old new (Err e) → Streamed g fuel old new r
handed_on g fuel old new (Ok x) e never h = absurd never
handed_on g fuel old new (Err x) e same h = subst (λ (y : StreamFault). Streamed g fuel old new (Err y)) (sym same) h
