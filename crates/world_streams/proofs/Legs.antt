-- Legs and runs whose text goes to a sink, put together.
--   never_by         a leg that does not lead to Twice
--   since_none       of a run that begins
--   since_leg        what the sink took since a run began, behind a leg
--   stops_leg        where a leg came to no end
--   stops_whole      where memory ran out between two legs
--   ends, stops      from the reference that the sink stands behind to the sink
use Rattle.std.proofs.Common.{◌≡◌, ◌≢◌, ◌⊎◌, inl, inr, ◌∙◌, ℕ, List, [], ◌∷◌, ◌++◌, Ok, Err, refl, sym, ap, subst, append-nil, append_assoc}
use Rattle.std.specs.Borrow.{MutBor}
use Rattle.std.specs.Prelude.{Result, IsErrAnd}
use Rattle.rev_io.specs.Stream.{Stream}
use Rattle.rev_io.proofs.Streams.{took_more}
use Rattle.revision_machine.specs.Numbered.{World, Both, Listing, Replays}
use Rattle.revision_machine.proofs.Replays.{replays_on}
use Rattle.code_machine.specs.Local.{CodeRun, Local}
use Rattle.code_machine.specs.Machines.{numbered}
use Rattle.code_world.specs.declared.answer.LegAnswer.{LegAnswer}
use Rattle.code_world.specs.declared.table.Table.{Table}
use Rattle.code_world.specs.declared.world.World as rust
use Rattle.code_world.specs.declared.world.World.TheVariants as world
use Rattle.code_world.specs.Said.{main_text}
use Rattle.code_world.specs.Tables.{IsWorld}
use Rattle.code_machine_laws.specs.Reached.{IsReached}
use Rattle.world_runs.specs.KeptByLegs.{KeepsOn}
use Rattle.world_runs.proofs.Keeping.{keeps_so, led_to, on_way}
use Rattle.world_streams.specs.declared.fault.StreamFault.{StreamFault}
use Rattle.world_streams.specs.declared.fault.StreamFault.TheVariants as fault
use Rattle.world_streams.specs.Legs.{NeverTwiceBy, PutsSome, StreamsLeg}
use Rattle.world_streams.specs.Runs.{NeverTwiceFrom, PutsAll, PutsOn, StreamsTo, Begun, PutsSince, StopsSince}
use Rattle.world_streams.proofs.Putting.{rose_behind, some_all, some_behind, some_none, took_none}

-- ---- what never leads to Twice

pub never_by : (g : CodeRun) (w : World (Local ℕ)) (n : ℕ) → NeverTwiceFrom g w → NeverTwiceBy g w n
never_by g w n never = record {
  now = never [] w refl;
  after = λ leg. never (n ∷ []) Both (Both, leg, refl) refl;
}

never_on : (g : CodeRun) (w u : World (Local ℕ)) (ns : List ℕ) → NeverTwiceFrom g w → Replays (numbered g) w ns u
    → NeverTwiceFrom g u
never_on g w u ns never way ms x r = never (ns ++ ms) x (replays_on (numbered g) ns ms w u x way r)

-- ---- one leg

live_world : (g : CodeRun) (v : rust.World) (w : World (Local ℕ)) → IsWorld g v w → w ≢ Both
    → (t : Table) × (v ≡ world.Live t)
live_world g world.Twice Both is live = absurd (live refl)
live_world g (world.Live t) w is live = (t, refl)
live_world g world.Twice (Listing w) is live = absurd is

-- nothing more
puts_nothing : (g : CodeRun) (w : World (Local ℕ)) (v : rust.World) → IsWorld g v w → (old new : Stream) → new ≡ old
    → PutsOn g w v old new
puts_nothing g w v is old new e = record {
  schedule = [];
  end = w;
  replays = refl;
  after = v;
  stands = is;
  gain = [];
  gains = sym (append-nil (main_text v));
  part = some_none old new [] e;
}

module _ (g : CodeRun) (w : World (Local ℕ)) (v : rust.World) (h : IsReached g w) (live : w ≢ Both) (is : IsWorld g v w)
    (n : ℕ) (old new : Stream) where
  puts_leg : PutsSome g w n v old new → PutsOn g w v old new
  puts_leg p =
      let t = live_world g v w is live in
      let (u, reached, stands, (ns, way)) =
      led_to g w n (λ u. (ns : List ℕ) × Replays (numbered g) w ns u) h p.after v t.0 t.1 is p.answer p.answers
      (on_way g w n p.answer) in
      record {
        schedule = ns;
        end = u;
        replays = way;
        after = p.after;
        stands = stands;
        gain = p.gain;
        gains = p.gains;
        part = p.part;
      }

  leg_streams : (e : StreamFault) → StreamsLeg g w n v old new (Err e) → StreamsTo g w v old new (Err e)
  leg_streams fault.Sink p = (p.0, puts_leg p.1)
  leg_streams fault.OutOfMemory p = (p.0, by p.1)
    where
      by : PutsSome g w n v old new ⊎ (new ≡ old) → PutsOn g w v old new
      by (inl q) = puts_leg q
      by (inr q) = puts_nothing g w v is old new q

-- ---- one after another

all_on : (a b c : rust.World) (old mid new : Stream) → PutsAll a b old mid → PutsAll b c mid new → PutsAll a c old new
all_on a b c old mid new p q = record {
  gain = p.gain ++ q.gain;
  gains = q.gains ∙ ap (λ x. x ++ q.gain) p.gains ∙ append_assoc (main_text a) p.gain q.gain;
  took = took_more p.took q.took refl;
}

all_none : (a : rust.World) (old : Stream) → PutsAll a a old old
all_none a old = record { gain = []; gains = sym (append-nil (main_text a)); took = took_none old }

module _ (g : CodeRun) (w u : World (Local ℕ)) (a b : rust.World) (old mid new : Stream) (ns : List ℕ)
    (way : Replays (numbered g) w ns u) (first : PutsAll a b old mid) where
  puts_behind : PutsOn g u b mid new → PutsOn g w a old new
  puts_behind p = record {
    schedule = ns ++ p.schedule;
    end = p.end;
    replays = replays_on (numbered g) ns p.schedule w u p.end way p.replays;
    after = p.after;
    stands = p.stands;
    gain = first.gain ++ p.gain;
    gains = p.gains ∙ ap (λ x. x ++ p.gain) first.gains ∙ append_assoc (main_text a) first.gain p.gain;
    part = some_behind old mid new first.gain p.gain (first.gain ++ p.gain) first.took p.part refl;
  }

  -- what comes behind what was put
  then_streams : (r : Result rust.World StreamFault) → StreamsTo g u b mid new r → StreamsTo g w a old new r
  then_streams (Ok v) p = all_on a b v old mid new first p
  then_streams (Err fault.Sink) p = (rose_behind old mid new first.gain first.took p.0, puts_behind p.1)
  then_streams (Err fault.OutOfMemory) p = (p.0 ∙ first.took.calm, puts_behind p.1)

-- ---- since a run began

module _ {O : Type 0} (stream : O → Stream) (g : CodeRun) where
  pub since_none : (w : World (Local ℕ)) (v : rust.World) (out : MutBor O) → NeverTwiceFrom g w
      → PutsSince stream (record { first = w; stood = v; out = out }) g w v out
  since_none w v out never =
      record { same = refl; never = never; schedule = []; way = refl; puts = all_none v (stream out.now) }

  module _ (b : Begun O) (w : World (Local ℕ)) (v : rust.World) (out : MutBor O)
      (p : PutsSince stream b g w v out) where
    pub since_leg : (n : ℕ) (a : LegAnswer) (v' : rust.World) (out' : MutBor O) → out'.ghost_name ≡ out.ghost_name
        → PutsAll v v' (stream out.now) (stream out'.now)
        → KeepsOn (λ u. PutsSince stream b g u v' out') g w n a
    since_leg n a v' out' same q =
        keeps_so g w n (λ u. (ns : List ℕ) × Replays (numbered g) w ns u) (λ u. PutsSince stream b g u v' out') on a
        (on_way g w n a)
      where
        on : (u : World (Local ℕ)) → (ns : List ℕ) × Replays (numbered g) w ns u → PutsSince stream b g u v' out'
        on u (ns, way) = record {
          same = same ∙ p.same;
          never = never_on g w u ns p.never way;
          schedule = p.schedule ++ ns;
          way = replays_on (numbered g) p.schedule ns b.first w u p.way way;
          puts = all_on b.stood v v' (stream b.out.now) (stream out.now) (stream out'.now) p.puts q;
        }

    module _ (is : IsWorld g v w) where
      pub stops_leg : IsReached g w → (n : ℕ) (out' : MutBor O) → out'.ghost_name ≡ out.ghost_name → (f : StreamFault)
          → StreamsLeg g w n v (stream out.now) (stream out'.now) (Err f) → StopsSince stream b g out' f
      stops_leg h n out' same f q = record {
        same = same ∙ p.same;
        put = then_streams g b.first w b.stood v (stream b.out.now) (stream out.now) (stream out'.now) p.schedule p.way
            p.puts (Err f)
            (leg_streams g w v h (p.never [] w refl) is n (stream out.now) (stream out'.now) f q);
      }

      pub stops_whole : StopsSince stream b g out fault.OutOfMemory
      stops_whole = record {
        same = p.same;
        put = (
          p.puts.took.calm,
          record {
            schedule = p.schedule;
            end = w;
            replays = p.way;
            after = v;
            stands = is;
            gain = p.puts.gain;
            gains = p.puts.gains;
            part = some_all (stream b.out.now) (stream out.now) p.puts.gain p.puts.took;
          },
        );
      }

  -- ---- the sink itself

  pub ends : (b : Begun O) (w : World (Local ℕ)) (v : rust.World) (out : MutBor O) → PutsSince stream b g w v out
      → (old new : Stream) → stream b.out.now ≡ old → new ≡ stream out.now → PutsAll b.stood v old new
  ends b w v out p old new from to =
      subst (λ x. PutsAll b.stood v x new) from (subst (PutsAll b.stood v (stream b.out.now)) (sym to) p.puts)

  pub stops : (b : Begun O) (out : MutBor O) (f : StreamFault) → StopsSince stream b g out f → (old new : Stream)
      → stream b.out.now ≡ old → new ≡ stream out.now → (r : Result rust.World StreamFault) → IsErrAnd r (λ x. x ≡ f)
      → StreamsTo g b.first b.stood old new r
  stops b out f p old new from to (Ok v) never = absurd never
  stops b out f p old new from to (Err e) same =
      subst (λ (x : StreamFault). StreamsTo g b.first b.stood old new (Err x)) (sym same)
      (subst (λ x. StreamsTo g b.first b.stood x new (Err f)) from
      (subst (λ x. StreamsTo g b.first b.stood (stream b.out.now) x (Err f)) (sym to) p.put))
