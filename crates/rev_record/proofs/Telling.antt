-- What a machine tells of a leaf revision.
use Rattle.std.proofs.Common.{◌≡◌, ◌∙◌, ◌⊎◌, inl, inr, ℕ, suc, Bool, true, false, List, [], ◌∷◌, ◌++◌, map, Option, Some, None, refl, sym, ap, subst}
use Rattle.std.specs.Prelude.{◌||◌}
use Rattle.rev_num.specs.Path.{Path}
use Rattle.rev_num.proofs.Options.{none_some, some_eq}
use Rattle.rev_code.specs.Words.{Word}
use Rattle.rev_code.specs.State.{Location, State}
use Rattle.rev_code.specs.Step.{Comes, goes, traps, forks, joins, ends, stuck}
use Rattle.revision_machine.specs.Laws.{IsIn}
use Rattle.revision_machine.specs.Numbered.{number_of, paths_of}
use Rattle.revision_machine.proofs.Bearing.{in_front, in_back}
use Rattle.code_machine_laws.specs.Reads as reads
use Rattle.code_machine_laws.specs.Reads.{Read, reach_reads}
use Rattle.code_machine_laws.specs.LegReads.{leg_reads}
use Rattle.code_machine_laws.specs.Moved.{AllAgree}
use Rattle.code_machine_laws.proofs.OwnReads.{own_reads_agree}
use Rattle.block_run.specs.declared.notes.ReadMarks.{ReadMarks}
use Rattle.leg_run.specs.Marks.{Mark, mark_of, marks_of, has_location, has_input, has_count, HasMarked}
use Rattle.code_machine.specs.Local.{CodeRun, under, Local, at_work, of_word, of_written, of_locations, of_phase, of_state, with_entry, written_from, end_of}
use Rattle.code_machine.specs.Leg.{leg, clock}
use Rattle.code_machine.specs.Machines.{Holds}
use Rattle.code_machine.specs.Renamed.{renamed_as}
use Rattle.code_machine.proofs.Acts.{leg_same}
use Rattle.code_machine.proofs.Holding.{goes_held}
use Rattle.code_memos.specs.Leaf.{Fresh, IsFresh, ended_by, Known}
use Rattle.code_memos.specs.Renaming.{renamed_read}
use Rattle.code_memos.proofs.Adopting.{goes_ended}
use Rattle.code_memos.proofs.Leaving.{no}
use Rattle.code_memos.proofs.Numbers.{unlisted_by_number}
use Rattle.code_memos.proofs.Reading.{event_same, legs_are_renamed, named_local, named_option, ended_named, end_named}
use Rattle.rev_vm.specs.Meaning.{IsEnd}
use Rattle.rev_record.specs.EntryLaws.{LeafIsTold}
use Rattle.rev_record.specs.Told.{HasNoted, IsAlone, IsBlank, of_values}
use Rattle.rev_record.proofs.Beginning.{begins_at, in_locations, snapshot_is}
use Rattle.rev_record.proofs.Lists.{either}

-- ---- other handles

module _ {H K : Type 0} (f : H → K) where
  -- a renamed end is of an end
  of_named : (m : ℕ) (o : Option (Local H)) (l : Local K) → named_option f m o ≡ Some l
      → (l' : Local H) × (o ≡ Some l') × (l ≡ named_local f m l')
  of_named m None l e = none_some e
  of_named m (Some l') l e = (l', refl, sym (some_eq e))

  -- the clock of a fresh state is the same whatever a handle is
  clock_named : (g : CodeRun) (x : Fresh H) (c : State H) → IsFresh g.code x c
      → clock g (renamed_as f c.forks c) ≡ clock g c
  clock_named g x c fresh = subst (λ z. clock g (renamed_as f z.forks z) ≡ clock g z) (sym fresh.state) refl

  mark_named : (r : Read H) → mark_of (renamed_read f r) ≡ mark_of r
  mark_named (reads.location n w) = refl
  mark_named (reads.input n z) = refl
  mark_named (reads.count k) = refl

  marks_named : (rs : List (Read H)) → marks_of (map (renamed_read f) rs) ≡ marks_of rs
  marks_named [] = refl
  marks_named (r ∷ rs) = let a = mark_named r in let b = marks_named rs in λ j. a j ∷ b j

-- ---- notes

or_false : (b : Bool) → (b || false) ≡ b
or_false true = refl
or_false false = refl

noted_of : (blank noted : ReadMarks) (ms : List Mark) → IsBlank blank → HasMarked blank noted ms → HasNoted noted ms
noted_of blank noted ms b h = record {
  locations_are =
      λ n. h.locations_are n ∙ ap (λ z. has_location ms n || z) (b.locations_are n) ∙ or_false (has_location ms n);
  inputs_are = λ n. h.inputs_are n ∙ ap (λ z. has_input ms n || z) (b.inputs_are n) ∙ or_false (has_input ms n);
  count_is = h.count_is ∙ ap (λ z. has_count ms || z) b.count_is ∙ or_false (has_count ms);
}

-- ---- ends

alone_ended : (o : Comes Path) (l : Local Path) → ended_by o ≡ Some l → IsAlone l.phase
alone_ended (traps c e) l h = subst (λ (z : Local Path). IsAlone z.phase) (some_eq h) refl
alone_ended (ends c w) l h = subst (λ (z : Local Path). IsAlone z.phase) (some_eq h) tt
alone_ended (goes c) l h = absurd (no l h)
alone_ended (forks c n args) l h = absurd (no l h)
alone_ended (joins c try m) l h = absurd (no l h)
alone_ended stuck l h = absurd (no l h)

values_in : (n : ℕ) (ls : List (Location Path)) (q : Path) → IsIn q (of_values (written_from n ls))
    → IsIn q (of_locations ls)
values_in n [] q i = absurd i
values_in n (l ∷ ls) q i = by (λ j. values_in (suc n) ls q j) l.written i
  where
    one : (IsIn q (of_values (written_from (suc n) ls)) → IsIn q (of_locations ls)) → (w : Word Path)
        → IsIn q (of_word w) ⊎ IsIn q (of_values (written_from (suc n) ls))
        → IsIn q ((of_word l.snapshot ++ of_word w) ++ of_locations ls)
    one later w (inl k) =
        in_front (of_word l.snapshot ++ of_word w) (of_locations ls) q (in_back (of_word l.snapshot) (of_word w) q k)
    one later w (inr k) = in_back (of_word l.snapshot ++ of_word w) (of_locations ls) q (later k)

    by : (IsIn q (of_values (written_from (suc n) ls)) → IsIn q (of_locations ls)) → (o : Option (Word Path))
        → IsIn q (of_values (with_entry n o l.snapshot (written_from (suc n) ls)))
        → IsIn q ((of_word l.snapshot ++ of_written o) ++ of_locations ls)
    by later None j = in_back (of_word l.snapshot ++ []) (of_locations ls) q (later j)
    by later (Some w) j = one later w (either (of_word w) (of_values (written_from (suc n) ls)) q j)

-- what a leg has written held the handles of its revision
end_held : (g : CodeRun) (d : State Path) (l : Local Path) → ended_by (leg g d) ≡ Some l → (q : Path)
    → IsIn q (of_values (end_of l).written) → Holds (at_work d) q
end_held g d l e q i =
    goes_held q g (at_work d) l (goes_ended g (leg g d) l e)
    (in_front (of_state l.state) (of_phase l.phase) q (in_locations l.state q (values_in 0 l.state.locations q i)))

pub leaf_is_told : LeafIsTold
leaf_is_told g ok n m fuel ns w replays k r c there none l is_ended here fresh x begun blank noted nothing marked v is =
    let t = paths_of w in
    let number = number_of t in
    let y = unlisted_by_number g ok n m fuel ns w replays k r (at_work c) there (refl, none) in
    let d = y.state in
    let f = y.begins.begins in
    let same : c ≡ renamed_as number d.forks d = ap (λ (z : Local ℕ). z.state) y.numbered.is in
    let comes =
    ap (leg g) same ∙ leg_same number g d.forks d ∙ event_same number g.code g.inputs g.share d.forks (leg g d) in
    let named = sym (ended_named number d.forks (leg g d)) ∙ ap ended_by (sym comes) ∙ is_ended in
    let e = of_named number d.forks (ended_by (leg g d)) l named in
    let read : leg_reads g c ≡ map (renamed_read number) (leg_reads g d) =
    ap (leg_reads g) same
    ∙ ap (λ j. reach_reads (under g) j (renamed_as number d.forks d)) (clock_named number g f d y.begins.fresh)
    ∙ (legs_are_renamed number g.code g.inputs g.share (clock g d) d.forks d).reads in
    let marks : marks_of (leg_reads g c) ≡ marks_of (leg_reads g d) =
    ap marks_of read ∙ marks_named number (leg_reads g d) in
    let known : Known =
    record { path = r; block = f.block; args = f.args; fuel = f.fuel; reads = leg_reads g d; end = end_of e.0 } in
    record {
      known = known;
      entry = record {
        state = d;
        born = y.begins.born;
        known = record {
          begins = f;
          fresh = y.begins.fresh;
          after = e.0;
          ended = e.1;
          path_is = refl;
          block_is = refl;
          args_are = refl;
          fuel_is = refl;
          reads_are = refl;
          end_is = refl;
        };
      };
      path = refl;
      fresh = f;
      begins = begins_at g ok n m fuel ns w replays k r c there y here fresh x begun;
      told = record {
        own = record {
          path_is = refl;
          block_is = refl;
          args_are = refl;
          fuel_is = refl;
          reads_agree =
              subst (λ s. AllAgree s g.inputs (leg_reads g d)) (snapshot_is g.code f d y.begins.fresh)
              (own_reads_agree (under g) (clock g d) d);
        };
        noted_are = noted_of blank noted (marks_of (leg_reads g d)) nothing
            (subst (HasMarked blank noted) marks marked);
        end = subst (λ z. IsEnd g z v) (ap end_of e.2 ∙ end_named number d.forks e.0) is;
        named = λ q i. y.numbered.known q (end_held g d e.0 e.1 q i);
        alone = alone_ended (leg g d) e.0 e.1;
      };
    }
