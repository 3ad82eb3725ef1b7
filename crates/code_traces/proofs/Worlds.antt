-- Worlds after complete schedules have one trace.
use Rattle.std.proofs.Common.{◌≡◌, ◌≢◌, inl, inr, ◌∙◌, ℕ, ◌≤◌, List, [], length, Some, refl, sym, ap, subst, arith}
use Rattle.rev_num.specs.Path.{Path}
use Rattle.trace_diagram.specs.declared.diagram.Part.{Part}
use Rattle.revision_machine.specs.Machine.{Entry, Global, Twice, Live, start, Complete}
use Rattle.revision_machine.specs.Laws.{local_of, IsDistinct, Everywhere}
use Rattle.revision_machine.specs.Simulation.{EntryAgrees, Agrees}
use Rattle.revision_machine.specs.Numbered.{Entries, World, Both, Listing, at_number, paths_of, globe_of, shows, machine_by, begin, Replays, HasPaths}
use Rattle.revision_machine.specs.Numbered as numbers
use Rattle.revision_machine.proofs.Ends.{unique_end}
use Rattle.revision_machine.proofs.KeptByEvents.{kept_law}
use Rattle.revision_calculus.specs.Program.{Setting}
use Rattle.revision_calculus.specs.State as source
use Rattle.revision_calculus.specs.Calculus.{main, calculus}
use Rattle.revision_calculus.specs.KeptBySteps.{IsShaped}
use Rattle.revision_calculus.specs.Kinded.{IsAccepted}
use Rattle.revision_calculus.proofs.Meets as calculus_meets
use Rattle.revision_calculus.proofs.Shapes.{shape_kept, main_shaped}
use Rattle.audit_rules.specs.Parts as calculus_parts
use Rattle.audit_rules.specs.Parts.{part_of}
use Rattle.audit_rules.proofs.CalculusMeets.{places_length}
use Rattle.code_machine.specs.Local.{CodeRun, IsVerified, running, done, trapped, Local}
use Rattle.code_machine.specs.Machines.{machine, numbered, IsMain, start_in}
use Rattle.code_machine.specs.Proper.{EachEntry, IsOver}
use Rattle.code_machine.specs.Renamed.{renamed_phase, IsNumbered}
use Rattle.code_machine.proofs.MachineConditions.{counts}
use Rattle.code_machine.proofs.Ending.{none_blocked}
use Rattle.code_machine.proofs.Outcomes.{ended}
use Rattle.program_meaning.specs.Related.{run_of}
use Rattle.program_meaning.specs.Agreement.{read, AgreesBy}
use Rattle.program_meaning.proofs.Schedules.{ends_agree}
use Rattle.code_traces.specs.Parts.{part_by, part_in}
use Rattle.code_traces.specs.Traces.{IsTheOnly, IsTraceOf, HaveOneTrace, AgreeOnTrace}
use Rattle.code_traces.proofs.Readings.{numbered_part}
use Rattle.code_traces.proofs.Alike.{same_part}
use Rattle.code_traces.proofs.Listings.{Lists, one_listing, listing, listed, the_listing, world_lists, the_trace}

-- ---- verified code

module _ (g : CodeRun) where
  -- the listing of a world is that of a state by paths that agrees with it
  listing_shown : (t : List Path) (w : Entries (Local ℕ))
      (revs : Path → Rattle.std.specs.Prelude.Option (Entry (Local Path)))
      → t ≡ paths_of w → IsDistinct t
      → ((p : Path) → EntryAgrees (machine g) (machine_by (numbered g) t) (IsNumbered t) p (revs p) (globe_of w p))
      → Lists (part_by (λ p. p) g) revs (listing g w)
  listing_shown t w revs own d agrees =
      let distinct : IsDistinct (paths_of w) = subst IsDistinct own d in
      world_lists (machine g) (part_by (λ p. p) g) (IsNumbered t) g t w revs distinct agrees
      (λ n r e f at stands rel.
      subst (λ v. part_in g v r (local_of e) ≡ part_by (λ p. p) g r (local_of f)) own
      (numbered_part t g r (local_of f) (local_of e) rel))
      (listing g w) (listed g w distinct)

  one_trace_in : (t o : List Path) (w u : World (Local ℕ)) (s : Global (Local Path)) (main : Local ℕ)
      → HasPaths (numbered g) main w t → IsDistinct t
      → Agrees (machine g) (machine_by (numbered g) t) (IsNumbered t) s (shows w)
      → HasPaths (numbered g) main u o → IsDistinct o
      → Agrees (machine g) (machine_by (numbered g) o) (IsNumbered o) s (shows u)
      → HaveOneTrace g w u
  one_trace_in t o Both Both s main a d f b e h = tt
  one_trace_in t o Both (Listing u) Twice main a d f b e h = absurd h
  one_trace_in t o Both (Listing u) (Live revs) main a d f b e h = absurd f
  one_trace_in t o (Listing w) Both Twice main a d f b e h = absurd f
  one_trace_in t o (Listing w) Both (Live revs) main a d f b e h = absurd h
  one_trace_in t o (Listing w) (Listing u) Twice main a d f b e h = absurd f
  one_trace_in t o (Listing w) (Listing u) (Live revs) main a d f b e h =
      let same : listing g u ≡ listing g w =
      one_listing (part_by (λ p. p) g) revs (listing g u) (listing g w) (listing_shown o u revs b e h)
      (listing_shown t w revs a d f) in (
        listing g w,
        the_listing g w (subst IsDistinct a d),
        subst (IsTheOnly (IsTraceOf g (Listing u))) same (the_listing g u (subst IsDistinct b e)),
      )

module _ (g : CodeRun) (ok : IsVerified g) (n : ℕ) (m : IsMain g n) (fuel : ℕ) where
  pub one_trace : (ns ks : List ℕ) (w u : World (Local ℕ))
      → Replays (numbered g) (begin (numbered g) (start_in g n m.body fuel)) ns w
      → numbers.IsOver (numbered g) (start_in g n m.body fuel) w
      → Replays (numbered g) (begin (numbered g) (start_in g n m.body fuel)) ks u
      → numbers.IsOver (numbered g) (start_in g n m.body fuel) u → HaveOneTrace g w u
  one_trace ns ks w u h over k over' =
      let a = ended g ok n m fuel ns w h over in
      let b = ended g ok n m fuel ks u k over' in
      let same : b.matches.state ≡ a.matches.state =
      unique_end (machine g) (start_in g n m.body fuel) (counts g ok) (start (machine g) (start_in g n m.body fuel))
      b.matches.state a.matches.state b.matches.by a.matches.by
      (record { by = []; runs = refl }) (record { runs = b.matches.runs; final = b.final })
      (record { runs = a.matches.runs; final = a.final }) in
      one_trace_in g a.matches.table b.matches.table w u a.matches.state (start_in g n m.body fuel) a.matches.own
      a.matches.distinct a.matches.agrees b.matches.own b.matches.distinct
      (subst
      (λ v. Agrees (machine g) (machine_by (numbered g) b.matches.table) (IsNumbered b.matches.table) v (shows u)) same
      b.matches.agrees)

  pub has_trace : (ns : List ℕ) (w : Entries (Local ℕ))
      → Replays (numbered g) (begin (numbered g) (start_in g n m.body fuel)) ns (Listing w)
      → numbers.IsOver (numbered g) (start_in g n m.body fuel) (Listing w)
      → (trace : List Part) × IsTheOnly (IsTraceOf g (Listing w)) trace
  has_trace ns w h over = let both = one_trace ns ns (Listing w) (Listing w) h over h over in (both.0, both.1)

-- ---- a program's code

module _ (s : Setting) where
  -- a revision that is over counts as one when its numbers are read as paths
  over_read : (t : List Path) (k : Local ℕ) → IsOver k → (read t k).phase ≢ running
  over_read t k (inl e) f =
      (let z : done ≡ running = sym (ap (renamed_phase (λ n. numbers.or_path (at_number t n) [])) e) ∙ f in cc)
  over_read t k (inr (u, e)) f =
      (let z : renamed_phase (λ n. numbers.or_path (at_number t n) []) (trapped u) ≡ running =
      sym (ap (renamed_phase (λ n. numbers.or_path (at_number t n) [])) e) ∙ f in
      cc)

  agree_in : (t : List Path) (w : World (Local ℕ)) (h : Global source.Local) (first : Local ℕ)
      → HasPaths (numbered (run_of s)) first w t → IsDistinct t
      → Agrees (calculus s) (machine_by (numbered (run_of s)) t) (AgreesBy s t) h (shows w)
      → Everywhere (calculus s) (IsShaped s) h → EachEntry (λ k. IsOver k) w → AgreeOnTrace s w h
  agree_in t Both Twice first own d a shaped over = tt
  agree_in t Both (Live revs) first own d a shaped over = absurd a
  agree_in t (Listing w) Twice first own d a shaped over = absurd a
  agree_in t (Listing w) (Live revs) first own d a shaped over =
      (listing (run_of s) w, the_listing (run_of s) w distinct, the_trace s revs (listing (run_of s) w) lists)
    where
      distinct : IsDistinct (paths_of w)
      distinct = subst IsDistinct own d

      few : (r : Path) (f : Entry source.Local) → revs r ≡ Some f
          → length (local_of f).locations ≤ length (calculus_parts.places s)
      few r f stands = let many = (shaped r f stands).locations in let all = places_length s in omega (arith, many, all)

      lists : Lists (part_of s) revs (listing (run_of s) w)
      lists =
          world_lists (calculus s) (part_of s) (AgreesBy s t) (run_of s) t w revs distinct a
          (λ k r e f at stands rel.
          subst (λ v. part_in (run_of s) v r (local_of e) ≡ part_of s r (local_of f)) own
          (same_part s r (local_of f) (few r f stands) t (local_of e) rel (over_read t (local_of e) (over k r e at))))
          (listing (run_of s) w) (listed (run_of s) w distinct)

module _ (s : Setting) (well : IsAccepted s.program) (ok : IsVerified (run_of s)) (n : ℕ) (m : IsMain (run_of s) n)
    (fuel : ℕ) where
  pub traces_agree : (ns : List ℕ) (w : World (Local ℕ))
      → Replays (numbered (run_of s)) (begin (numbered (run_of s)) (start_in (run_of s) n m.body fuel)) ns w
      → numbers.IsOver (numbered (run_of s)) (start_in (run_of s) n m.body fuel) w
      → (rs : List Path) (h : Global source.Local) → Complete (calculus s) (start (calculus s) (main s fuel)) rs h
      → AgreeOnTrace s w h
  traces_agree ns w replays over rs h complete =
      let e = ends_agree s well ok n m fuel ns w replays over in
      let same : e.matches.state ≡ h =
      unique_end (calculus s) (main s fuel) (calculus_meets.counts s) (start (calculus s) (main s fuel)) e.matches.state
      h e.matches.by rs
      (record { by = []; runs = refl }) (record { runs = e.matches.runs; final = e.final }) complete in
      let shaped =
      kept_law (calculus s) (main s fuel) (IsShaped s) (shape_kept s) (main_shaped s fuel) e.matches.state
      (record { by = e.matches.by; runs = e.matches.runs }) in
      subst (AgreeOnTrace s w) same
      (agree_in s e.matches.table w e.matches.state (start_in (run_of s) n m.body fuel) e.matches.own e.matches.distinct
      e.matches.agrees shaped (none_blocked (run_of s) ok n m fuel ns w replays over))
