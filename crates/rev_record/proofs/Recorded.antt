-- Legs that are recorded.
use Rattle.std.proofs.Common.{◌≡◌, ◌∙◌, ℕ, true, false, List, [], ◌∷◌, ◌++◌, length, Option, Some, None, refl, sym, ap, subst}
use Rattle.rev_num.specs.Path.{Path}
use Rattle.rev_num.proofs.Options.{none_some, some_eq}
use Rattle.rev_code.specs.State.{State}
use Rattle.rev_code.specs.Step.{Comes, goes, traps, forks, joins, ends, stuck}
use Rattle.leg_run.specs.declared.revision.Meeting.{Meeting}
use Rattle.version_map.specs.declared.end.EndValue.{EndValue}
use Rattle.rev_vm.specs.Meaning.{IsEnd}
use Rattle.revision_machine.specs.Machine.{Entry, Plain}
use Rattle.revision_machine.specs.Laws.{local_of}
use Rattle.revision_machine.specs.Numbered as numbers
use Rattle.revision_machine.specs.Numbered.{Entries, World, Both, Listing, at_number, put_number, paths_of}
use Rattle.revision_machine.proofs.Numbers.{paths_put, path_at}
use Rattle.code_machine.specs.Local.{CodeRun, IsVerified, Local, at_work, end_of}
use Rattle.code_machine.specs.Leg.{leg}
use Rattle.code_machine.specs.Machines.{numbered}
use Rattle.code_memos.specs.Leaf.{ended_by}
use Rattle.code_world.specs.declared.answer.LegAnswer.{LegAnswer}
use Rattle.code_world.specs.declared.answer.LegAnswer.TheVariants as answer
use Rattle.code_world.specs.declared.freshness.FreshStart.{FreshStart}
use Rattle.code_world.specs.declared.noted.NotedLeg.{NotedLeg}
use Rattle.code_world.specs.declared.world.World as rust_world
use Rattle.code_world.specs.declared.world.World.TheVariants as world
use Rattle.code_world.specs.Answers.{LegAnswers}
use Rattle.code_world.specs.Beginnings.{FreshAt}
use Rattle.code_world.specs.Endings.{Names, IsEndAt}
use Rattle.code_world.specs.Meetings.{HasMeeting, MeetingOf, HasNoted}
use Rattle.code_world.specs.Tables.{IsWorld}
use Rattle.block_run.specs.declared.notes.ReadMarks.{ReadMarks}
use Rattle.leg_run.specs.Marks.{marks_of, HasMarked}
use Rattle.code_machine_laws.specs.LegReads.{leg_reads}
use Rattle.version_map.specs.Deltas.{locations}
use Rattle.code_world.specs.Between.{HasReadOf, HasReadIn}
use Rattle.rev_record.specs.Told.{IsBlank}
use Rattle.world_runs.specs.KeptByLegs.{KeepsOn}
use Rattle.rev_record.proofs.Keeping.{not_over}
use Rattle.rev_record.specs.SoFar.{LeafLeg}
use Rattle.rev_record.proofs.Leaves.{one_row, leaf_there, ended_over, ended_goes, leaf_leg}
use Rattle.rev_record.proofs.Keeping.{recorded_without, recorded_with}
use Rattle.rev_record.specs.declared.entry.LeafEntry.{LeafEntry}
use Rattle.rev_record.specs.EntryLaws.{HasLeafEntry}
use Rattle.rev_record.proofs.Telling.{leaf_is_told}
use Rattle.rev_record.specs.Entries.{AreKnown}
use Rattle.rev_record.specs.Legs.{IsFrom, IsRecorded, WasNoted, is_leaf, HasKept}
use Rattle.rev_record.proofs.Known.{known_push}
use Rattle.rev_record.proofs.Legs.{from_on, keeps_on, no_leg_in_twice, start_unlisted, leaf_not}

-- ---- where nothing is added

module _ (g : CodeRun) (ok : IsVerified g) (fuel : ℕ) (ks : List LeafEntry) where
  -- a leg that is not a leaf's
  pub recorded_on : (w : Entries (Local ℕ)) (n : ℕ) → ((r : Path) (l : Local ℕ) → LeafLeg g w n r l → ⊥)
      → IsRecorded g fuel (Listing w) ks → (a : LegAnswer) → KeepsOn (λ u. IsRecorded g fuel u ks) g (Listing w) n a
  unfolding from_on
  recorded_on w n none rec a = keeps_on (λ u. IsRecorded g fuel u ks) g (Listing w) n a rec (λ u e. next u e)
    where
      next : (u : World (Local ℕ)) → numbers.leg (numbered g) (Listing w) n ≡ Some u → IsRecorded g fuel u ks
      next u e = record {
        from = from_on g fuel (Listing w) u n rec.from e;
        inputs = rec.inputs;
        known = rec.known;
        stand = rec.stand;
        so_far = recorded_without g ok rec.from.number rec.from.main fuel rec.from.few rec.from.schedule w
            rec.from.replays n u e none rec.known rec.so_far;
      }

  -- of one that is not fresh
  pub recorded_old : (v : rust_world.World) (w : World (Local ℕ)) (n : ℕ) → IsWorld g v w → FreshAt g v w n None
      → IsRecorded g fuel w ks → (a : LegAnswer) → KeepsOn (λ u. IsRecorded g fuel u ks) g w n a
  recorded_old v Both n is none rec a =
      keeps_on (λ u. IsRecorded g fuel u ks) g Both n a rec (λ u e. no_leg_in_twice g n u e)
  recorded_old v (Listing w) n is none rec a = recorded_on w n (leaf_not g ok fuel v w rec.from is n none) rec a

-- ---- where an entry is added

-- a leg that ended its revision by itself is one
pub keeps_leaf : (K : World (Local ℕ) → Type 0) (g : CodeRun) (w : World (Local ℕ)) (n : ℕ) (a : LegAnswer)
    (m : Option Meeting)
    → is_leaf a m ≡ true → ((u : World (Local ℕ)) → numbers.leg (numbered g) w n ≡ Some u → K u) → KeepsOn K g w n a
keeps_leaf K g w n answer.Ended m e after = after
keeps_leaf K g w n answer.Trapped m e after = after
keeps_leaf K g w n (answer.Forked k) m e after = after
keeps_leaf K g w n (answer.Joined k) m e after = after
keeps_leaf K g w n answer.Twice m e after = after
keeps_leaf K g w n (answer.Waits on) m e after = absurd (let z : false ≡ true = e in cc)
keeps_leaf K g w n answer.NoSuch m e after = absurd (let z : false ≡ true = e in cc)
keeps_leaf K g w n answer.Over m e after = absurd (let z : false ≡ true = e in cc)

pub recorded_more : (g : CodeRun) → IsVerified g
    → (fuel : ℕ) (w : Entries (Local ℕ)) (n : ℕ) (ks ks' : List LeafEntry) (rec : IsRecorded g fuel (Listing w) ks)
    → HasKept g fuel w n ks ks' rec.from
    → (u : World (Local ℕ)) → numbers.leg (numbered g) (Listing w) n ≡ Some u → IsRecorded g fuel u ks'
unfolding from_on
recorded_more g ok fuel w n ks ks' rec k u e = record {
  from = from_on g fuel (Listing w) u n rec.from e;
  inputs = rec.inputs;
  known = rec.known ++ k.known ∷ [];
  stand = subst (λ z. AreKnown g.code z (rec.known ++ k.known ∷ [])) (sym k.more)
      (known_push g.code ks rec.known rec.stand k.kept k.known k.stands
      (g, refl, ok, rec.from.number, rec.from.main, fuel, k.entry));
  so_far = recorded_with g ok rec.from.number rec.from.main fuel rec.from.few rec.from.schedule w rec.from.replays n u e
      k.path k.local k.leaf k.known k.entry k.path_is rec.known rec.so_far;
}

-- ---- the leg of a leaf

-- it comes to an end
ended_there : (child : ℕ) (o : Comes ℕ) → HasMeeting child o None → (k : Local ℕ) × (ended_by o ≡ Some k)
ended_there child (traps c x) h = (_, refl)
ended_there child (ends c x) h = (_, refl)
ended_there child (forks c b args) h = none_some h
ended_there child (joins c try on) h = none_some h
ended_there child (goes c) h = absurd h
ended_there child stuck h = absurd h

leaf_meets : (g : CodeRun) (w : Entries (Local ℕ)) (n : ℕ) (a : LegAnswer) (m : Option Meeting) → is_leaf a m ≡ true
    → HasNoted g w n a m → MeetingOf g w n None
leaf_meets g w n answer.Ended None e h = h
leaf_meets g w n answer.Trapped None e h = h
leaf_meets g w n answer.Ended (Some m) e h = absurd (let z : false ≡ true = e in cc)
leaf_meets g w n answer.Trapped (Some m) e h = absurd (let z : false ≡ true = e in cc)
leaf_meets g w n (answer.Forked k) m e h = absurd (let z : false ≡ true = e in cc)
leaf_meets g w n (answer.Joined k) m e h = absurd (let z : false ≡ true = e in cc)
leaf_meets g w n (answer.Waits k) m e h = absurd (let z : false ≡ true = e in cc)
leaf_meets g w n answer.Twice m e h = absurd (let z : false ≡ true = e in cc)
leaf_meets g w n answer.NoSuch m e h = absurd (let z : false ≡ true = e in cc)
leaf_meets g w n answer.Over m e h = absurd (let z : false ≡ true = e in cc)

-- a leg that came out otherwise is not a leaf's
module _ (g : CodeRun) (w : Entries (Local ℕ)) (n : ℕ) (r : Path) (l : Local ℕ) (leaf : LeafLeg g w n r l) where
  goes_there : (q : Path) (k : Local ℕ) → at_number w n ≡ Some (q, Plain k) → (numbered g).next k ≡ numbers.Goes l
  goes_there q k there =
      let row = one_row (at_number w n) q r (Plain k) (Plain (at_work leaf.state)) there leaf.there in
      ap (λ (z : Entry (Local ℕ)). (numbered g).next (local_of z)) row.1 ∙ ended_goes g (leg g leaf.state) l leaf.ends

  no_meeting : (m : Meeting) → MeetingOf g w n (Some m) → ⊥
  no_meeting m (q, k, there, meets) =
      let row = one_row (at_number w n) q r (Plain k) (Plain (at_work leaf.state)) there leaf.there in
      let same : k.state ≡ leaf.state = ap (λ (z : Entry (Local ℕ)). (local_of z).state) row.1 in
      by (leg g leaf.state) leaf.ends (subst (λ (z : State ℕ). HasMeeting (length w) (leg g z) (Some m)) same meets)
    where
      by : (o : Comes ℕ) → ended_by o ≡ Some l → HasMeeting (length w) o (Some m) → ⊥
      by (traps c x) e h = none_some (sym h)
      by (ends c x) e h = none_some (sym h)
      by (forks c b args) e h = none_some e
      by (joins c try on) e h = none_some e
      by (goes c) e h = none_some e
      by stuck e h = none_some e

  abbrev Wish : Type 0
  Wish = numbers.Wish (Local ℕ)

  pub came_out : (a : LegAnswer) (m : Option Meeting) (v : rust_world.World) → is_leaf a m ≡ false
      → LegAnswers g (Listing w) n a v → HasNoted g w n a m → ⊥
  came_out answer.Ended None v e h met = (let z : true ≡ false = e in cc)
  came_out answer.Trapped None v e h met = (let z : true ≡ false = e in cc)
  came_out answer.Ended (Some m) v e h met = no_meeting m met
  came_out answer.Trapped (Some m) v e h met = no_meeting m met
  came_out (answer.Forked k) m v e (t, is, (u, leaves, (q, j, f, kid, there, bears), next, phase, many)) met =
      (let z : ◌≡◌ {A = Wish} (numbers.Bears f kid) (numbers.Goes l) = sym bears ∙ goes_there q j there in cc)
  came_out (answer.Joined k) m v e (t, is, (u, leaves, (q, j, there, wants), phase, many)) met =
      (let z : ◌≡◌ {A = Wish} (numbers.Wants k) (numbers.Goes l) = sym wants ∙ goes_there q j there in cc)
  came_out (answer.Waits k) m v e (t, is, (waits, table, stands)) met =
      (let z : ◌≡◌ {A = Wish} (numbers.Wants k) (numbers.Goes l) =
      sym waits.wants ∙ goes_there waits.path waits.joiner waits.there in
      cc)
  came_out answer.Twice m v e (made, is) met =
      (let z : ◌≡◌ {A = World (Local ℕ)} Both (Listing (put_number w n (r, Plain l))) =
      some_eq (sym made ∙ leaf_leg g w n r l leaf) in
      cc)
  came_out answer.NoSuch m v e (t, is, (none, rest)) met = none_some (sym none ∙ leaf.there)
  came_out answer.Over m v e (t, is, ((q, f, there, stops), rest)) met =
      let row = one_row (at_number w n) q r f (Plain (at_work leaf.state)) there leaf.there in
      (let z : ◌≡◌ {A = Wish} numbers.Stops (numbers.Goes l) =
      sym stops ∙ ap (λ (z : Entry (Local ℕ)). (numbered g).next (local_of z)) row.1
      ∙ ended_goes g (leg g leaf.state) l leaf.ends in
      cc)

  -- its leg is one
  pub keeps_made : (K : World (Local ℕ) → Type 0) (a : LegAnswer) (v : rust_world.World)
      → LegAnswers g (Listing w) n a v → ((u : World (Local ℕ)) → numbers.leg (numbered g) (Listing w) n ≡ Some u → K u)
      → KeepsOn K g (Listing w) n a
  keeps_made K answer.Ended v l after = after
  keeps_made K answer.Trapped v l after = after
  keeps_made K (answer.Forked k) v l after = after
  keeps_made K (answer.Joined k) v l after = after
  keeps_made K answer.Twice v l after = after
  keeps_made K (answer.Waits on) v l after = absurd (came_out (answer.Waits on) None v refl l refl)
  keeps_made K answer.NoSuch v l after = absurd (came_out answer.NoSuch None v refl l refl)
  keeps_made K answer.Over v l after = absurd (came_out answer.Over None v refl l refl)

-- the world behind it
pub record LeafWorld (g : CodeRun) (w : Entries (Local ℕ)) (n : ℕ) (v : rust_world.World) : Type 0 where
  pub entries : Entries (Local ℕ)
  pub leg : numbers.leg (numbered g) (Listing w) n ≡ Some (Listing entries)
  pub stands : IsWorld g v (Listing entries)

leaf_world : (g : CodeRun) (w : Entries (Local ℕ)) (n : ℕ) (a : LegAnswer) (m : Option Meeting) (v : rust_world.World)
    → is_leaf a m ≡ true → LegAnswers g (Listing w) n a v → LeafWorld g w n v
leaf_world g w n answer.Ended m v e (t, is, (u, leaves, phase, many)) =
    record { entries = u; leg = leaves.leg; stands = subst (λ z. IsWorld g z (Listing u)) (sym is) leaves.table }
leaf_world g w n answer.Trapped m v e (t, is, (u, leaves, cause, phase, many)) =
    record { entries = u; leg = leaves.leg; stands = subst (λ z. IsWorld g z (Listing u)) (sym is) leaves.table }
leaf_world g w n (answer.Forked k) m v e h = absurd (let z : false ≡ true = e in cc)
leaf_world g w n (answer.Joined k) m v e h = absurd (let z : false ≡ true = e in cc)
leaf_world g w n (answer.Waits k) m v e h = absurd (let z : false ≡ true = e in cc)
leaf_world g w n answer.Twice m v e h = absurd (let z : false ≡ true = e in cc)
leaf_world g w n answer.NoSuch m v e h = absurd (let z : false ≡ true = e in cc)
leaf_world g w n answer.Over m v e h = absurd (let z : false ≡ true = e in cc)

module _ (g : CodeRun) (ok : IsVerified g) (fuel : ℕ) (w : Entries (Local ℕ)) (from : IsFrom g fuel (Listing w)) (n : ℕ)
    (x : FreshStart) (made : NotedLeg) (noted : ReadMarks) (v : rust_world.World)
    (h : WasNoted g w n x made noted v) (is : is_leaf made.answer made.meeting ≡ true) where
  abbrev pub path : Path
  path = h.start.path

  pub ending : (k : Local ℕ) × (ended_by (leg g h.start.state) ≡ Some k)
  ending =
      let m = leaf_meets g w n made.answer made.meeting is h.meeting in
      let row = one_row (at_number w n) m.0 path (Plain m.1) (Plain (at_work h.start.state)) m.2 h.start.there in
      let same : m.1.state ≡ h.start.state = ap (λ (z : Entry (Local ℕ)). (local_of z).state) row.1 in
      ended_there (length w) (leg g h.start.state)
      (subst (λ (z : State ℕ). HasMeeting (length w) (leg g z) None) same m.3)

  abbrev pub local : Local ℕ
  local = ending.0

  unlisted : h.start.state.listed ≡ []
  unlisted = start_unlisted g ok fuel w from n x h.start

  pub leaf : LeafLeg g w n path local
  leaf = record { state = h.start.state; there = h.start.there; unlisted = unlisted; ends = ending.1 }

  pub behind : LeafWorld g w n v
  behind = leaf_world g w n made.answer made.meeting v is h.answers

  there : at_number behind.entries n ≡ Some (path, Plain local)
  there = leaf_there g w n path local leaf behind.entries behind.leg

  world_same : (a b : Entries (Local ℕ)) → ◌≡◌ {A = Option (World (Local ℕ))} (Some (Listing a)) (Some (Listing b))
      → b ≡ a
  world_same a b e =
      (let z : ◌≡◌ {A = World (Local ℕ)} (Listing a) (Listing b) = some_eq e in let y : a ≡ b = cc in sym y)

  -- no path is new
  pub same_paths : paths_of behind.entries ≡ paths_of w
  same_paths =
      ap paths_of (world_same (put_number w n (path, Plain local)) behind.entries
      (sym (leaf_leg g w n path local leaf) ∙ behind.leg))
      ∙ paths_put w n path (Plain (at_work h.start.state)) (Plain local) h.start.there

  -- it has left something
  pub left : (o : Option EndValue) → IsEndAt g (Listing behind.entries) n o → (end : EndValue) → o ≡ Some end
      → IsEnd g (end_of local) end
  left o at end is_end = by (subst (IsEndAt g (Listing behind.entries) n) is_end at)
    where
      by : IsEndAt g (Listing behind.entries) n (Some end) → IsEnd g (end_of local) end
      by (q, e, stood, is_so) =
          let row = one_row (at_number behind.entries n) q path e (Plain local) stood there in
          subst (λ (z : Entry (Local ℕ)). IsEnd g (end_of (local_of z)) end) row.1 is_so

  pub not_none : (o : Option EndValue) → IsEndAt g (Listing behind.entries) n o → o ≡ None → ⊥
  not_none o at none =
      let runs = subst (IsEndAt g (Listing behind.entries) n) none at path (Plain local) there in
      not_over local runs (ended_over (leg g h.start.state) local ending.1)

  -- what the machine tells of it
  pub told : (end : EndValue) → IsEnd g (end_of local) end
      → HasLeafEntry g from.number from.main fuel (paths_of w) path x noted end
  told end is_so =
      leaf_is_told g ok from.number from.main fuel from.schedule w from.replays n path h.start.state h.start.there
      unlisted local ending.1 h.start.here h.start.fresh x h.start.begun h.blank noted h.is_blank h.read end is_so

  pub named : (births : List Rattle.code_world.specs.declared.table.Birth.Birth)
      → Names births (paths_of behind.entries) → Names births (paths_of w)
  named births names = subst (Names births) same_paths names

  pub path_there : at_number (paths_of w) n ≡ Some path
  path_there = path_at w n path (Plain (at_work h.start.state)) h.start.there

-- ---- what is known behind the leg

pub record KnownLeg (g : CodeRun) (w : World (Local ℕ)) (n : ℕ) (x : FreshStart) (made : NotedLeg) (noted : ReadMarks)
    (v : rust_world.World) : Type 0 where
  pub entries : Entries (Local ℕ)
  pub is : w ≡ Listing entries
  pub was : WasNoted g entries n x made noted v

pub known_leg : (g : CodeRun) (v : rust_world.World) (w : World (Local ℕ)) (n : ℕ) (x : FreshStart) (made : NotedLeg)
    (blank noted : ReadMarks) (v' : rust_world.World)
    → FreshAt g v w n (Some x) → IsBlank blank
    → HasReadIn g v w n blank noted → LegAnswers g w n made.answer v'
    → ((u : Entries (Local ℕ)) → w ≡ Listing u → HasNoted g u n made.answer made.meeting)
    → locations blank.locations ≡ length x.base.items → locations blank.inputs ≡ length g.inputs
    → KnownLeg g w n x made noted v'
known_leg g (world.Live t) (Listing w) n x made blank noted v' h is_blank read answers meeting rooms positions =
    let marked : HasMarked blank noted (marks_of (leg_reads g h.1)) =
    (subst (λ o. HasReadOf g o w n blank noted) h.6.1 read) h.0 h.1 h.3 in
    record {
      entries = w;
      is = refl;
      was = record {
        start = record { path = h.0; state = h.1; here = h.2; there = h.3; fresh = h.4; begun = h.5 };
        rooms = marked.size ∙ rooms;
        positions = marked.positions ∙ positions;
        blank = blank;
        is_blank = is_blank;
        read = marked;
        answers = answers;
        meeting = meeting w refl;
      };
    }
known_leg g (world.Live t) Both n x made blank noted v' h is_blank read answers meeting rooms positions =
    none_some (sym h)
known_leg g world.Twice (Listing w) n x made blank noted v' h is_blank read answers meeting rooms positions =
    none_some (sym h)
known_leg g world.Twice Both n x made blank noted v' h is_blank read answers meeting rooms positions = none_some (sym h)
