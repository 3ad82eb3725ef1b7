-- The end of a run that was recorded, and of one that was repeated.
use Rattle.std.proofs.Common.{◌≡◌, ◌∙◌, ℕ, ◌≤◌, ◌<◌, ◌^◌, List, [], length, refl, sym, subst}
use Rattle.rev_num.specs.Limits.{most_fuel}
use Rattle.revision_machine.specs.Laws.{IsDistinct}
use Rattle.revision_machine.specs.Numbered as numbers
use Rattle.revision_machine.specs.Numbered.{World, Both, Listing, begin}
use Rattle.code_machine.specs.Local.{CodeRun, IsVerified, Local}
use Rattle.code_machine.specs.Machines.{numbered, IsMain, start_in}
use Rattle.code_memos.specs.Leaf.{Known}
use Rattle.code_world.specs.declared.world.World as rust
use Rattle.code_world.specs.declared.world.World.TheVariants as world
use Rattle.code_world.specs.Tables.{IsWorld}
use Rattle.code_runs.specs.Completed.{IsAfter}
use Rattle.world_runs.specs.Finish.{HasFinished}
use Rattle.rev_record.specs.SoFar.{none_in_twice}
use Rattle.rev_record.proofs.Keeping.{recorded_at_start, recorded_at_end, counted_at_start, counted_at_end}
use Rattle.rev_record.specs.declared.entry.LeafEntry.{LeafEntry}
use Rattle.rev_record.specs.Entries.{paths, AreKnown}
use Rattle.rev_record.specs.declared.memo.Memo.{Memo}
use Rattle.rev_record.specs.Memos.{IsMemoOf, Reuses, kept_in, counted_in}
use Rattle.rev_record.specs.Legs.{IsFrom, IsRecorded, IsRepeated}
use Rattle.rev_record.proofs.Known.{known_paths}

module _ (g : CodeRun) (fuel : ℕ) (few : fuel ≤ most_fuel) (n : ℕ) (m : IsMain g n) where
  abbrev pub first_world : World (Local ℕ)
  first_world = begin (numbered g) (start_in g n m.body fuel)

  unfoldable pub from_start : IsFrom g fuel first_world
  from_start = record { few = few; number = n; main = m; schedule = []; replays = refl }

  pub recorded_first : length g.inputs < 2 ^ 32 → (ks : List LeafEntry) → ks ≡ [] → IsRecorded g fuel first_world ks
  unfolding from_start
  recorded_first inputs ks none = record {
    from = from_start;
    inputs = inputs;
    known = [];
    stand = subst (λ z. AreKnown g.code z []) (sym none) tt;
    so_far = recorded_at_start g n m fuel;
  }

  pub repeated_first : (es : List Known) (ks : List LeafEntry) → AreKnown g.code ks es
      → IsRepeated g fuel es first_world ks 0
  unfolding from_start
  repeated_first es ks stand = record {
    from = from_start;
    stand = stand;
    taken = [];
    many = refl;
    few = omega Rattle.std.proofs.Common.arith;
    so_far = counted_at_start g n m fuel es;
  }

  -- a run that has finished is after a complete schedule
  pub after_it : (start v : rust.World) → IsWorld g start first_world → HasFinished g first_world v → IsAfter g fuel v
  after_it start v is f = record {
    few = few;
    schedule = f.schedule;
    world = f.end;
    complete = (let done = f.complete (start_in g n m.body fuel) in
        record { block = n; main = m; legal = done.replays; over = done.over });
    stands = f.world;
  }

-- ---- the end

module _ (g : CodeRun) (ok : IsVerified g) (fuel : ℕ) (v : rust.World) (w : World (Local ℕ)) (is : IsWorld g v w)
    (over : (main : Local ℕ) → numbers.IsOver (numbered g) main w) where
  module _ (ks : List LeafEntry) (rec : IsRecorded g fuel w ks) where
    pub kept_distinct : IsDistinct (paths (kept_in v ks))
    kept_distinct = by v w is rec
      where
        by : (v : rust.World) (w : World (Local ℕ)) → IsWorld g v w → (rec : IsRecorded g fuel w ks)
            → IsDistinct (paths (kept_in v ks))
        by world.Twice w is rec = tt
        by (world.Live t) Both is rec = absurd is
        by (world.Live t) (Listing w) is rec =
            subst IsDistinct (sym (known_paths g rec.from.number rec.from.main fuel g.code ks rec.known rec.stand))
            rec.so_far.once

    kept_known : AreKnown g.code (kept_in v ks) (none_in_twice w rec.known)
    kept_known = by v w is rec.known rec.stand
      where
        by : (v : rust.World) (w : World (Local ℕ)) → IsWorld g v w → (es : List Known) → AreKnown g.code ks es
            → AreKnown g.code (kept_in v ks) (none_in_twice w es)
        by world.Twice Both is es stand = tt
        by world.Twice (Listing w) is es stand = absurd is
        by (world.Live t) Both is es stand = absurd is
        by (world.Live t) (Listing w) is es stand = stand

    pub memo_of_run : (m : Memo) → m.entries.items ≡ kept_in v ks → IsMemoOf g fuel m
    memo_of_run m same = record {
      number = rec.from.number;
      main = rec.from.main;
      known = none_in_twice w rec.known;
      entries = subst (λ z. AreKnown g.code z (none_in_twice w rec.known)) (sym same) kept_known;
      memo = recorded_at_end g ok rec.from.number rec.from.main fuel rec.from.schedule w rec.from.replays
          (over (start_in g rec.from.number rec.from.main.body fuel)) rec.known rec.so_far;
    }

  module _ (es : List Known) (ks : List LeafEntry) (count : ℕ) (rep : IsRepeated g fuel es w ks count) where
    counted_so : counted_in v count ≡ length (none_in_twice w rep.taken)
    counted_so = by v w is rep.taken rep.many
      where
        by : (v : rust.World) (w : World (Local ℕ)) → IsWorld g v w → (taken : List Rattle.rev_num.specs.Path.Path)
            → length taken ≡ count → counted_in v count ≡ length (none_in_twice w taken)
        by world.Twice Both is taken many = refl
        by world.Twice (Listing w) is taken many = absurd is
        by (world.Live t) Both is taken many = absurd is
        by (world.Live t) (Listing w) is taken many = sym many

    pub reuses : (k : ℕ) → k ≡ counted_in v count → Reuses g fuel es k
    reuses k same = record {
      number = rep.from.number;
      main = rep.from.main;
      reused = subst (λ z. Rattle.code_memos.specs.ByNumber.HasReused g rep.from.number rep.from.main fuel es z)
          (sym (same ∙ counted_so))
          (counted_at_end g ok rep.from.number rep.from.main fuel rep.from.schedule w rep.from.replays
          (over (start_in g rep.from.number rep.from.main.body fuel)) es rep.taken rep.so_far);
    }
