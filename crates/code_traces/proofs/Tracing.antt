-- The trace of the world after one complete schedule is that after all, and for a program's code it is the trace of the
-- program.
use Rattle.std.proofs.Common.{◌≡◌, ℕ, ◌≤◌, List, Option, Some, None, refl, sym, subst}
use Rattle.trace_diagram.specs.declared.diagram.Trace.{Trace}
use Rattle.revision_machine.specs.Machine.{Global, Twice, Live}
use Rattle.revision_machine.specs.Laws.{IsDistinct}
use Rattle.revision_machine.specs.Numbered.{Entries, World, Both, Listing, begin, paths_of}
use Rattle.revision_calculus.specs.Program.{Setting}
use Rattle.revision_calculus.specs.State as source
use Rattle.revision_calculus.proofs.Outcomes as calculus_outcomes
use Rattle.audit_rules.specs.Traces.{IsTrace}
use Rattle.audit_rules.specs.Traced as program
use Rattle.code_machine.specs.Local.{CodeRun, IsVerified, Local}
use Rattle.code_machine.specs.Machines.{IsMain, numbered, start_in}
use Rattle.code_machine.proofs.Ending.{none_blocked}
use Rattle.code_machine.proofs.Outcomes.{ended}
use Rattle.code_machine_laws.specs.Outcomes.{IsCompleteRun}
use Rattle.code_machine_laws.proofs.Outcomes.{by_main}
use Rattle.code_runs.proofs.Least.{is_after}
use Rattle.code_machine_laws.specs.Reached.{IsReached, most_fuel}
use Rattle.world_runs.specs.NotedRuns.{HasFinishedNoting}
use Rattle.code_world.specs.declared.ending.MainEnd.{MainEnd}
use Rattle.code_world.specs.declared.world.World as rust
use Rattle.code_world.specs.declared.world.World.TheVariants as world
use Rattle.code_world.specs.declared.table.Table.{Table}
use Rattle.code_world.specs.Endings.{HasLeft, HasNoLeg}
use Rattle.code_world.specs.Tables.{IsTable, IsWorld}
use Rattle.code_world.proofs.Worlds.{world_live, world_twice}
use Rattle.generated_blocks.proofs.Accepted.{code_accepted}
use Rattle.code_traces.specs.Traces.{run_of}
use Rattle.world_runs.specs.declared.noted.Noted.{Noted}
use Rattle.world_runs.specs.Notes.{AreNoted, NotesOf}
use Rattle.code_traces.specs.Traces.{AgreeOnTrace, HaveOneTrace, IsListing, IsTraceOf}
use Rattle.code_traces.proofs.Worlds.{one_trace, traces_agree}
use Rattle.code_traces.specs.NotedParts.{AreOver, HaveEnded}
use Rattle.code_traces.specs.Traced.{HasTrace, IsNotedAfter, IsTraceIn, TracesAreOfPrograms}

module _ (g : CodeRun) (ok : IsVerified g) (fuel : ℕ) where
  -- ---- all complete schedules

  carried : (t : Option Trace) (w u : World (Local ℕ)) → HaveOneTrace g w u → IsTraceIn g w t → IsTraceIn g u t
  carried None Both Both h is = tt
  carried None Both (Listing u) h is = absurd h
  carried (Some t) Both u h is = absurd is
  carried None (Listing w) u h is = absurd is
  carried (Some t) (Listing w) Both h is = absurd h
  carried (Some t) (Listing w) (Listing u) (trace, of, also) is =
      subst (IsTraceOf g (Listing u)) (sym (of.only t.parts is)) also.is

  pub traced_by : (ns : List ℕ) (w : World (Local ℕ)) → IsCompleteRun g fuel ns w → (t : Option Trace) → IsTraceIn g w t
      → HasTrace g fuel t
  traced_by ns w h t is = record {
    schedule = ns;
    world = w;
    complete = h;
    each = λ ks u k.
        let other = by_main g ok fuel h.block h.main ks u k in
        carried t w u (one_trace g ok h.block h.main fuel ns ks w u h.legal h.over other.legal other.over) is;
  }

  -- ---- a world after a complete schedule

  all_over : (ns : List ℕ) (w : Entries (Local ℕ)) → IsCompleteRun g fuel ns (Listing w) → AreOver w
  all_over ns w h = none_blocked g ok h.block h.main fuel ns (Listing w) h.legal h.over

  own_paths : (ns : List ℕ) (w : Entries (Local ℕ)) → IsCompleteRun g fuel ns (Listing w) → IsDistinct (paths_of w)
  own_paths ns w h =
      let e = ended g ok h.block h.main fuel ns (Listing w) h.legal h.over in
      let own : e.matches.table ≡ paths_of w = e.matches.own in
      subst IsDistinct own e.matches.distinct

  notes_ended : (w : Entries (Local ℕ)) (ns : List Noted) → AreNoted g w ns → AreOver w → HaveEnded ns
  notes_ended w ns noted over n x there =
      let few = Rattle.revision_machine.proofs.Lists.at_below ns n x there in
      let many = noted.count in
      let b = Rattle.revision_machine.proofs.Lists.below_at w n (omega (Rattle.std.proofs.Common.arith, few, many)) in
      let k = (noted.each n b.0.0 b.0.1 x b.1 there).left (over n b.0.0 b.0.1 b.1) in
      (k.0, k.1)

  module _ (v : rust.World) (notes : List Noted) (a : IsNotedAfter g fuel v notes) where
    pub none_traced : (left : Option MainEnd) → HasLeft g a.after.world left → left ≡ None → HasTrace g fuel None
    none_traced left h e =
        traced_by a.after.schedule a.after.world a.after.complete None
        (by a.after.world (subst (HasLeft g a.after.world) e h))
      where
        by : (w : World (Local ℕ)) → HasLeft g w None → IsTraceIn g w None
        by Both k = tt
        by (Listing w) k = absurd k

    module _ (w : Entries (Local ℕ)) (is : a.after.world ≡ Listing w) where
      complete_here : IsCompleteRun g fuel a.after.schedule (Listing w)
      complete_here = subst (IsCompleteRun g fuel a.after.schedule) is a.after.complete

      pub noted_here : AreNoted g w notes
      noted_here = subst (λ u. NotesOf g u notes) is a.noted

      pub over_here : AreOver w
      over_here = all_over a.after.schedule w complete_here

      pub distinct_here : IsDistinct (paths_of w)
      distinct_here = own_paths a.after.schedule w complete_here

      pub ended_here : HaveEnded notes
      ended_here = notes_ended w notes noted_here over_here

      pub some_traced : (t : Trace) → IsListing g w t.parts → HasTrace g fuel (Some t)
      some_traced t listing = traced_by a.after.schedule (Listing w) complete_here (Some t) listing

-- ---- a world without a leg

module _ (g : CodeRun) (ok : IsVerified g) (v : rust.World) (t : Table) (live : v ≡ world.Live t) (w : World (Local ℕ))
    (h : IsReached g w) (is : IsWorld g v w) (over : HasNoLeg g w)
    (ns : List Noted) (noted : NotesOf g w ns) where
  pub there : (x : Entries (Local ℕ)) × (w ≡ Listing x) × IsTable g t x
  there = world_live g v w t live is

  complete : IsCompleteRun g h.fuel h.schedule (Listing there.0)
  complete = subst (IsCompleteRun g h.fuel h.schedule) there.1
      (record { block = h.number; main = h.main; legal = h.replays; over = over })

  pub stands_in : IsWorld g v (Listing there.0)
  stands_in = subst (λ z. IsWorld g v z) there.1 is

  pub noted_in : AreNoted g there.0 ns
  noted_in = subst (λ z. NotesOf g z ns) there.1 noted

  pub over_in : AreOver there.0
  over_in = all_over g ok h.fuel h.schedule there.0 complete

  pub distinct_in : IsDistinct (paths_of there.0)
  distinct_in = own_paths g ok h.fuel h.schedule there.0 complete

  pub ended_in : HaveEnded ns
  ended_in = notes_ended g ok h.fuel there.0 ns noted_in over_in

  pub trace_in : (trace : Trace) → IsListing g there.0 trace.parts → IsTraceIn g w (Some trace)
  trace_in trace listing = subst (λ z. IsTraceIn g z (Some trace)) (sym there.1) listing

pub none_in : (g : CodeRun) (v : rust.World) (w : World (Local ℕ)) → v ≡ world.Twice → IsWorld g v w
    → IsTraceIn g w None
none_in g v w e is = subst (λ z. IsTraceIn g z None) (sym (world_twice g v w e is)) tt

-- ---- programs

agree_on : (s : Setting) (t : Option Trace) (w : World (Local ℕ)) (h : Global source.Local) → AgreeOnTrace s w h
    → IsTraceIn (run_of s) w t → program.IsTraceAt s t h
agree_on s None Both Twice a is = refl
agree_on s None Both (Live revs) a is = absurd a
agree_on s (Some t) Both h a is = absurd is
agree_on s None (Listing w) h a is = absurd is
agree_on s (Some t) (Listing w) Twice a is = absurd a
agree_on s (Some t) (Listing w) (Live revs) (trace, of, also) is =
    subst (IsTrace s (Live revs)) (sym (of.only t.parts is)) also.is

pub of_program : TracesAreOfPrograms
of_program s well fuel t h =
    let one = (calculus_outcomes.one_outcome s fuel).has in
    let run = h.complete in
    record {
      by = one.by;
      end = one.end;
      complete = one.complete;
      each = λ rs x c.
          agree_on s t h.world x
          (traces_agree s well (code_accepted s.program well) run.block run.main fuel h.schedule h.world run.legal
          run.over rs x c)
          (h.each h.schedule h.world run);
    }

-- ---- the same code, with the same inputs and share

pub trace_of_run : (g h : CodeRun) (fuel : ℕ) (t : Option Trace) → g ≡ h → HasTrace g fuel t → HasTrace h fuel t
trace_of_run g h fuel t e x = subst (λ (r : CodeRun). HasTrace r fuel t) e x

-- ---- a run to the end

pub noted_after : (g : CodeRun) (fuel n : ℕ) (m : IsMain g n) → fuel ≤ most_fuel → (v : rust.World) (ns : List Noted)
    → HasFinishedNoting g (begin (numbered g) (start_in g n m.body fuel)) v ns → IsNotedAfter g fuel v ns
unfolding is_after
noted_after g fuel n m few v ns f = record {
  after = is_after g fuel n m few v f.finished.schedule f.finished.end (f.finished.least (start_in g n m.body fuel))
      f.finished.world;
  noted = f.noted;
}
