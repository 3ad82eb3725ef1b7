-- What a run by number tells of leaf revisions, of the memo and of the revisions that are reused.
use Rattle.std.proofs.Common.{◌≡◌, ◌∙◌, ◌⊎◌, inl, inr, ℕ, suc, List, [], ◌∷◌, ◌++◌, length, map, take, Option, Some, None, refl, sym, ap, subst}
use Rattle.std.proofs.lemmas.List.{take-map}
use Rattle.std.specs.Prelude.{slice_get}
use Rattle.rev_num.specs.Path.{Path, child}
use Rattle.rev_num.specs.declared.value.ValueKind.{ValueKind}
use Rattle.rev_num.proofs.Options.{none_some, some_eq}
use Rattle.rev_code.specs.declared.code.Code.{Code}
use Rattle.rev_code.specs.Words.{Word}
use Rattle.rev_code.specs.State.{Location, State}
use Rattle.rev_code.specs.Step.{params}
use Rattle.code_soundness.specs.Typed.{AreLocations, location_kinds}
use Rattle.revision_machine.specs.PathMap.{with_at}
use Rattle.revision_machine.specs.Machine.{Entry, Plain, Joined, Global, Twice, Live, Revisions, start, step, step_at, happens, Complete}
use Rattle.revision_machine.specs.Laws.{local_of, IsIn}
use Rattle.revision_machine.specs.Numbered as numbers
use Rattle.revision_machine.specs.Numbered.{Entries, World, Both, Listing, at_number, number_of, paths_of, globe_of, machine_by, begin, Replays}
use Rattle.revision_machine.specs.Simulation.{Agrees, EntryAgrees}
use Rattle.revision_machine.proofs.Paths.{at_here}
use Rattle.revision_machine.proofs.Schedules.{complete_schedule_agrees}
use Rattle.revision_machine.proofs.Schedules as schedules
use Rattle.code_memos.specs.Births as births
use Rattle.code_memos.specs.Births.{Born}
use Rattle.code_memos.proofs.Births.{one_birth, runs_then}
use Rattle.code_machine_laws.specs.Reads.{reach_reads}
use Rattle.code_machine_laws.specs.LegReads.{leg_reads}
use Rattle.code_machine.specs.Local.{CodeRun, IsVerified, under, Local, at_work, end_of}
use Rattle.code_machine.specs.Leg.{leg, clock}
use Rattle.code_machine.specs.Machines.{machine, numbered, Holds, IsMain, start_in}
use Rattle.code_machine.specs.Proper.{IsProper}
use Rattle.code_machine.specs.Renamed.{renamed_as, renamed_one, renamed_word, IsNumbered}
use Rattle.code_machine.proofs.Acts.{leg_same}
use Rattle.code_machine.proofs.Holding.{holding}
use Rattle.code_machine.proofs.MachineConditions.{counts, named_counts}
use Rattle.code_machine.proofs.Numbering.{simulates, first_none, first_numbered}
use Rattle.code_machine.proofs.Typing.{first_proper, states_proper}
use Rattle.code_memos.specs.Renaming.{renamed_read, renamed_end}
use Rattle.code_memos.specs.Leaf.{Fresh, IsFresh, unwritten, ended_by, Known, IsValid, rerooted}
use Rattle.code_memos.specs.Memo.{first, IsEntry}
use Rattle.code_memos.specs.Recording.{HasNone}
use Rattle.code_memos.specs.Worlds.{other, Adopts}
use Rattle.code_memos.specs.ByNumber.{IsRecordedIn, HasMemo, Refused, IsCountedIn, HasReused, LeafHasEntry, RecordedByNumber, CountedByNumber, IsAdopted, AdoptByNumber}
use Rattle.code_memos.proofs.Adopting.{valid_ends, valid_is_the_leg}
use Rattle.code_memos.proofs.Entries.{args_are, one_args}
use Rattle.code_memos.proofs.Leaving.{one_body}
use Rattle.code_memos.proofs.Numbers.{unlisted_by_number}
use Rattle.code_memos.proofs.Reading.{event_same, legs_are_renamed, named_local, named_option, ended_named, end_named}
use Rattle.code_memos.proofs.Recorded.{recorded_is_memo, counted_is_reused}

-- ---- leaves

module _ {H K : Type 0} (f : H → K) where
  -- a renamed end is of an end
  of_named : (m : ℕ) (o : Option (Local H)) (l : Local K) → named_option f m o ≡ Some l
      → (l' : Local H) × (o ≡ Some l') × (l ≡ named_local f m l')
  of_named m None l e = none_some e
  of_named m (Some l') l e = (l', refl, sym (some_eq e))

  -- the clock of a fresh state is the same whatever a handle is
  clock_named : (g : CodeRun) (x : Fresh H) (c : State H) → IsFresh g.code x c
      → clock g (renamed_as f c.forks c) ≡ clock g c
  clock_named g x c fresh = subst (λ z. clock g (renamed_as f z.forks z) ≡ clock g z) (sym fresh.state) refl

  args_named : (code : Code) (x : Fresh H) (c : State H) → IsFresh code x c → (y : Fresh K) (d : State K)
      → IsFresh code y d → d ≡ renamed_as f c.forks c → y.args ≡ map (renamed_word f) x.args
  args_named code x c a y d b same =
      let block : y.block ≡ x.block =
      sym (ap (λ (z : State K). z.block) b.state) ∙ ap (λ (z : State K). z.block) same
      ∙ ap (λ (z : State H). z.block) a.state in
      let body =
      one_body (slice_get code.blocks y.block) b.body a.body b.is (ap (slice_get code.blocks) block ∙ a.is) in
      sym (args_are code y d b)
      ∙ (λ j. take (length (params (body j))) (same j).locals)
      ∙ take-map (renamed_word f) (length (params a.body)) c.locals
      ∙ ap (map (renamed_word f)) (args_are code x c a)

pub leaf_has_entry : LeafHasEntry
leaf_has_entry g ok n m fuel ns w replays k r c l there none ends =
    let t = paths_of w in
    let number = number_of t in
    let x = unlisted_by_number g ok n m fuel ns w replays k r (at_work c) there (refl, none) in
    let d = x.state in
    let f = x.begins.begins in
    let same : c ≡ renamed_as number d.forks d = ap (λ (z : Local ℕ). z.state) x.numbered.is in
    let comes =
    ap (leg g) same ∙ leg_same number g d.forks d ∙ event_same number g.code g.inputs g.share d.forks (leg g d) in
    let named = sym (ended_named number d.forks (leg g d)) ∙ ap ended_by (sym comes) ∙ ends in
    let e = of_named number d.forks (ended_by (leg g d)) l named in
    let reads : leg_reads g c ≡ map (renamed_read number) (leg_reads g d) =
    ap (leg_reads g) same
    ∙ ap (λ j. reach_reads (under g) j (renamed_as number d.forks d)) (clock_named number g f d x.begins.fresh)
    ∙ (legs_are_renamed number g.code g.inputs g.share (clock g d) d.forks d).reads in (
      record { path = r; block = f.block; args = f.args; fuel = f.fuel; reads = leg_reads g d; end = end_of e.0 },
      record {
        entry = record {
          state = d;
          born = x.begins.born;
          known = record {
            begins = f;
            fresh = x.begins.fresh;
            after = e.0;
            ended = e.1;
            path_is = refl;
            block_is = refl;
            args_are = refl;
            fuel_is = refl;
            reads_are = refl;
            end_is = refl;
          };
        };
        path_is = refl;
        block_is = ap (λ (z : State ℕ). z.block) same ∙ ap (λ (z : State Path). z.block) x.begins.fresh.state;
        args_are = λ y fresh. args_named number g.code f d x.begins.fresh y c fresh same;
        fuel_is = ap (λ (z : State ℕ). z.fuel) same ∙ ap (λ (z : State Path). z.fuel) x.begins.fresh.state;
        reads_are = reads;
        end_is = ap end_of e.2 ∙ end_named number d.forks e.0;
      },
    )

-- ---- the end of a complete schedule

module _ (g : CodeRun) (ok : IsVerified g) (n : ℕ) (m : IsMain g n) (fuel : ℕ) where
  -- the state by paths with which a world over agrees
  record HasFinal (w : World (Local ℕ)) : Type 0 where
    table : List Path
    by : List Path
    state : Global (Local Path)
    complete : Complete (machine g) (start (machine g) (first g n m fuel)) by state
    agrees : Agrees (machine g) (machine_by (numbered g) table) (IsNumbered table) state (numbers.shows w)

  has_final : (ns : List ℕ) (w : World (Local ℕ))
      → Replays (numbered g) (begin (numbered g) (start_in g n m.body fuel)) ns w
      → numbers.IsOver (numbered g) (start_in g n m.body fuel) w → HasFinal w
  has_final ns w replays over =
      let x = complete_schedule_agrees (machine g) (numbered g) IsNumbered (start_in g n m.body fuel)
      (start_in g n m.body fuel) (named_counts g ok) (simulates g ok) (λ t i. first_numbered g n m.body fuel t) Holds
      (counts g ok) (holding g) (first_none g n m.body fuel) ns w replays over in
      record {
        table = x.matches.table;
        by = x.matches.by;
        state = x.matches.state;
        complete = record { runs = x.matches.runs; final = x.final };
        agrees = x.matches.agrees;
      }

  -- a revision of that state that has listed nothing is one of the world
  record IsThere (w : Entries (Local ℕ)) (r : Path) : Type 0 where
    number : ℕ
    entry : Entry (Local ℕ)
    there : at_number w number ≡ Some (r, entry)
    unlisted : (local_of entry).state.listed ≡ []

  module _ (w : Entries (Local ℕ)) (t : List Path) (h : Revisions (machine g))
      (agrees : (p : Path)
      → EntryAgrees (machine g) (machine_by (numbered g) t) (IsNumbered t) p (h p) (globe_of w p)) where
    unlisted_there : (r : Path) (x : Entry (Local Path)) → h r ≡ Some x → (local_of x).state.listed ≡ [] → IsThere w r
    unlisted_there r x is none =
        by x none (globe_of w r) refl
        (subst (λ o. EntryAgrees (machine g) (machine_by (numbered g) t) (IsNumbered t) r o (globe_of w r)) is
        (agrees r))
      where
        of : (y : Entry (Local ℕ)) → globe_of w r ≡ Some y → (a : Local Path) → a.state.listed ≡ []
            → IsNumbered t r a (local_of y) → IsThere w r
        of y there a none rel =
            let k = schedules.numbered w r y there in
            record {
              number = k.0;
              entry = y;
              there = k.1;
              unlisted = ap (λ (l : Local ℕ). l.state.listed) rel.is ∙ ap (map (renamed_one (number_of t))) none;
            }

        by : (x : Entry (Local Path)) → (local_of x).state.listed ≡ [] → (o : Option (Entry (Local ℕ)))
            → globe_of w r ≡ o
            → EntryAgrees (machine g) (machine_by (numbered g) t) (IsNumbered t) r (Some x) o → IsThere w r
        by x none None there a = absurd (nothing x a)
          where
            nothing : (x : Entry (Local Path))
                → EntryAgrees (machine g) (machine_by (numbered g) t) (IsNumbered t) r (Some x) None → ⊥
            nothing (Plain l) a = a
            nothing (Joined l) a = a
        by (Plain l) none (Some (Plain y)) there a = of (Plain y) there l none a
        by (Plain l) none (Some (Joined y)) there a = absurd a
        by (Joined l) none (Some (Plain y)) there a = absurd a
        by (Joined l) none (Some (Joined y)) there a = of (Joined y) there l none a

pub recorded_by_number : RecordedByNumber
recorded_by_number g ok n m fuel ns w replays over es rec = at_end w (has_final g ok n m fuel ns w replays over) rec
  where
    at_end : (w : World (Local ℕ)) → HasFinal g ok n m fuel w → IsRecordedIn g n m fuel w es → HasMemo g n m fuel es
    at_end Both x none = by x.state x.complete x.agrees
      where
        by : (s : Global (Local Path)) → Complete (machine g) (start (machine g) (first g n m fuel)) x.by s
            → Agrees (machine g) (machine_by (numbered g) x.table) (IsNumbered x.table) s Twice → HasMemo g n m fuel es
        by Twice complete agrees = (x.by, Twice, complete, none)
        by (Live h) complete agrees = absurd agrees
    at_end (Listing w) x rec = by x.state x.complete x.agrees
      where
        by : (s : Global (Local Path)) → Complete (machine g) (start (machine g) (first g n m fuel)) x.by s
            → Agrees (machine g) (machine_by (numbered g) x.table) (IsNumbered x.table) s (Live (globe_of w))
            → HasMemo g n m fuel es
        by Twice complete agrees = absurd agrees
        by (Live h) complete agrees = (
          x.by,
          Live h,
          complete,
          recorded_is_memo g ok n m fuel x.by h complete es (record {
            each = rec.0;
            found = λ r y there none.
                (let k = unlisted_there g ok n m fuel w x.table h agrees r y there none in
                rec.1 k.number r k.entry k.there k.unlisted);
            once = rec.2;
          }),
        )

-- ---- counting

snapshots_of : {H : Type 0} (xs : List (Word H)) → map (λ (l : Location H). l.snapshot) (unwritten xs) ≡ xs
snapshots_of [] = refl
snapshots_of (x ∷ xs) = ap (λ z. x ∷ z) (snapshots_of xs)

-- a state is fresh in one way
one_fresh : {H : Type 0} (code : Code) (f f' : Fresh H) (c : State H) → IsFresh code f c → IsFresh code f' c → f ≡ f'
one_fresh {H} code f f' c a b =
    let block : f.block ≡ f'.block =
    sym (ap (λ (z : State H). z.block) a.state) ∙ ap (λ (z : State H). z.block) b.state in
    let args = one_args code f f' c a b in
    let fuel : f.fuel ≡ f'.fuel = sym (ap (λ (z : State H). z.fuel) a.state) ∙ ap (λ (z : State H). z.fuel) b.state in
    let locations = sym (ap (λ (z : State H). z.locations) a.state) ∙ ap (λ (z : State H). z.locations) b.state in
    let snapshot : f.snapshot ≡ f'.snapshot =
    sym (snapshots_of f.snapshot) ∙ ap (map (λ (l : Location H). l.snapshot)) locations ∙ snapshots_of f'.snapshot in
    λ j. record { block = block j; args = args j; snapshot = snapshot j; fuel = fuel j }

-- a revision that is refused where it begins has no valid entry in any run
none_of_refused : (g : CodeRun) → IsVerified g
    → (n : ℕ) (m : IsMain g n) (fuel : ℕ) (rs : List Path) (h : Revisions (machine g))
    → Complete (machine g) (start (machine g) (first g n m fuel)) rs (Live h) → (es : List Known) (r : Path)
    → Refused g n m fuel es r → HasNone g n m fuel es r
none_of_refused g ok n m fuel rs h complete es r x v =
    let leaf = v.1 in
    let same : at_work leaf.state ≡ at_work x.state =
    one_birth (machine g) (first g n m fuel) (counts g ok) rs h complete r (at_work leaf.state) (at_work x.state)
    leaf.born x.born in
    let state : leaf.state ≡ x.state = ap (λ (l : Local Path). l.state) same in
    let f : v.0 ≡ x.begins =
    one_fresh g.code v.0 x.begins x.state (subst (IsFresh g.code v.0) state leaf.fresh) x.fresh in
    x.none v.2 v.3 (subst (λ y. IsValid v.2 r y g.inputs) f v.4)

pub counted_by_number : CountedByNumber
counted_by_number g ok n m fuel ns w replays over es paths counted =
    at_end w (has_final g ok n m fuel ns w replays over) counted
  where
    at_end : (w : World (Local ℕ)) → HasFinal g ok n m fuel w → IsCountedIn g n m fuel es w paths
        → HasReused g n m fuel es (length paths)
    at_end Both x none = by x.state x.complete x.agrees
      where
        by : (s : Global (Local Path)) → Complete (machine g) (start (machine g) (first g n m fuel)) x.by s
            → Agrees (machine g) (machine_by (numbered g) x.table) (IsNumbered x.table) s Twice
            → HasReused g n m fuel es (length paths)
        by Twice complete agrees = (x.by, Twice, complete, ap length none)
        by (Live h) complete agrees = absurd agrees
    at_end (Listing w) x c = by x.state x.complete x.agrees
      where
        by : (s : Global (Local Path)) → Complete (machine g) (start (machine g) (first g n m fuel)) x.by s
            → Agrees (machine g) (machine_by (numbered g) x.table) (IsNumbered x.table) s (Live (globe_of w))
            → HasReused g n m fuel es (length paths)
        by Twice complete agrees = absurd agrees
        by (Live h) complete agrees = (
          x.by,
          Live h,
          complete,
          counted_is_reused g ok n m fuel x.by h complete es paths (record {
            each = c.0;
            found = λ r y there none.
                let k = unlisted_there g ok n m fuel w x.table h agrees r y there none in
                kept r (c.1 k.number r k.entry k.there k.unlisted);
            once = c.2;
          }),
        )
          where
            kept : (r : Path) → IsIn r paths ⊎ Refused g n m fuel es r → IsIn r paths ⊎ HasNone g n m fuel es r
            kept r (inl i) = inl i
            kept r (inr z) = inr (none_of_refused g ok n m fuel x.by h complete es r z)

-- ---- adopting

located_many : {H : Type 0} (kinds : List ValueKind) (ls : List (Location H)) → AreLocations kinds ls
    → length ls ≡ length kinds
located_many [] [] h = refl
located_many (x ∷ kinds) (l ∷ ls) h = ap suc (located_many kinds ls h.1)
located_many [] (l ∷ ls) h = absurd h
located_many (x ∷ kinds) [] h = absurd h

unwritten_many : {H : Type 0} (xs : List (Word H)) → length (unwritten xs) ≡ length xs
unwritten_many [] = refl
unwritten_many (x ∷ xs) = ap suc (unwritten_many xs)

module _ (g : CodeRun) (ok : IsVerified g) (n : ℕ) (m : IsMain g n) (fuel : ℕ) where
  born_proper : (r : Path) (l : Local Path) → Born (machine g) (first g n m fuel) r l → IsProper g l
  born_proper r l (births.first is same) = subst (IsProper g) (sym same) (first_proper g ok n m fuel)
  born_proper r l (births.forked f) =
      let M = machine g in
      let kid = child f.forker f.before.state.forks in
      let revs = with_at f.revs f.forker (Plain f.after) in
      let next : Global (Local Path) = Live (with_at revs kid (Plain l)) in
      let s : step M (Live f.revs) f.forker ≡ Some next =
      ap (step_at M f.revs f.forker) f.there ∙ ap (happens M f.revs f.forker f.before) f.forks in
      let runs = runs_then M f.reached.by (start M (first g n m fuel)) (Live f.revs) next f.forker f.reached.runs s in
      states_proper g ok n m fuel next (record { by = f.reached.by ++ f.forker ∷ []; runs = runs }) r (Plain l)
      (ap (with_at revs kid (Plain l)) f.is ∙ at_here revs kid (Plain l))

  -- a snapshot has a word for each location
  born_many : (r : Path) (d : State Path) → Born (machine g) (first g n m fuel) r (at_work d) → (f : Fresh Path)
      → IsFresh g.code f d → length f.snapshot ≡ length (location_kinds g.code.vars)
  born_many r d born f fresh =
      sym (unwritten_many f.snapshot) ∙ ap length (sym (ap (λ (z : State Path). z.locations) fresh.state))
      ∙ located_many (location_kinds g.code.vars) d.locations (born_proper r (at_work d) born).locations

pub adopt_by_number : AdoptByNumber
adopt_by_number g ok n m fuel ns w replays k r c there none x es e known valid =
    by known.0 known.1 known.2 known.3 known.4 known.5 known.6
  where
    f : Fresh Path
    f = x.begins.begins

    by : (g' : CodeRun) → g'.code ≡ g.code → IsVerified g' → (n' : ℕ) (m' : IsMain g' n') (fuel' : ℕ)
        → IsEntry g' n' m' fuel' e → IsAdopted g n m fuel w k r f es e
    by g' code ok' n' m' fuel' entry =
        let many : length f.snapshot ≡ length entry.known.begins.snapshot =
        born_many g ok n m fuel r x.state x.begins.born f x.begins.fresh
        ∙ ap (λ (z : Code). length (location_kinds z.vars)) (sym code)
        ∙ sym (born_many g' ok' n' m' fuel' e.path entry.state entry.born entry.known.begins entry.known.fresh) in
        let fresh = subst (λ z. IsFresh z f x.state) (sym code) x.begins.fresh in
        let same : other g' g.inputs g.share ≡ g =
        ap (λ z. record { code = z; inputs = g.inputs; share = g.share }) code in
        let ends = valid_ends g' e.path entry.state e entry.known g.inputs g.share r f x.state fresh many valid in
        record {
          adopts = subst (λ z. Adopts z w k r (renamed_end (number_of (paths_of w)) (rerooted f.snapshot e.end))) same
              (valid_is_the_leg g' e.path entry.state e entry.known g.inputs g.share w k r (paths_of w)
              (at_work x.state) (at_work c) there x.numbered f x.state refl fresh many valid);
          valid = λ among. (
            f,
            record {
              state = x.state;
              born = x.begins.born;
              fresh = x.begins.fresh;
              after = ends.after;
              ends = subst (λ z. ended_by (leg z x.state) ≡ Some ends.after) same ends.ended;
            },
            e,
            among,
            valid,
          );
        }
