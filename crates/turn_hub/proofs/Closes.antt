-- What is known at the close: of the slot, of the schedule that is put together, and of what the hub leaves.
use Rattle.std.proofs.Common.{◌≡◌, ◌⊎◌, inl, inr, ℕ, zero, suc, ◌+◌, ◌-◌, ◌*◌, ◌/◌, ◌<◌, ◌≤◌, true, List, [], ◌∷◌, map, length, Option, Some, None, sym, ap, ◌∙◌, refl, subst, arith}
use Rattle.atomic_table.specs.Table.{State}
use Rattle.revision_machine.specs.Numbered.{Wish, Entries, at_number}
use Rattle.revision_machine.proofs.Paths.{some_inj}
use Rattle.revision_machine.proofs.Numbers.{none_some}
use Rattle.hub_core.specs.declared.status.Status.{Status}
use Rattle.hub_core.specs.declared.status.Status.TheVariants.{Ready, Out, Waiting, Over, Gone}
use Rattle.hub_core.specs.Hub as pure
use Rattle.hub_core.specs.Hub.{EndsAre, end_of}
use Rattle.hub_core.specs.HubMachine.{HubMachine, numbered, values}
use Rattle.hub_core.proofs.Hub as hub
use Rattle.hub_core.specs.declared.kept.Kept.{Kept}
use Rattle.hub_core.specs.declared.kept.Kept.TheVariants as left
use Rattle.hub_core.specs.declared.state.HubState.{HubState}
use Rattle.hub_core.specs.declared.state.HubState.TheVariants.{All, Twice, NoMemory}
use Rattle.hub_core.specs.declared.desk.Desk.{Desk}
use Rattle.hub_core.specs.declared.desk.DeskSlot.{DeskSlot}
use Rattle.hub_core.specs.declared.sight.Sight.{Sight}
use Rattle.hub_core.specs.Left.{kept_of}
use Rattle.hub_core.specs.Found.{all_over}
use Rattle.hub_core.proofs.Slots.{no_more}
use Rattle.hub_core.specs.declared.view.View.{View}
use Rattle.hub_core.specs.Passes.{named}
use Rattle.hub_core.specs.Views.{halt_count}
use Rattle.hub_core.specs.Counts.{times}
use Rattle.hub_core.specs.Rule.{is_out, done, Sound, SoundFrom, IsOfGroup, AreOfGroup}
use Rattle.hub_core.specs.Rounds.{Item, One, Born, Loop, Round, flat, born, round_part, IsRound, children, weave, weave_forkers, AreRounds}
use Rattle.hub_core.specs.Tally.{pairs, records_of, record_at, Shadows, IsLone}
use Rattle.hub_core.specs.Ordered.{AreBelow, look_of, ends_of, kept_in}
use Rattle.hub_core.proofs.Weaving.{weave_is}
use Rattle.hub_core.proofs.Bearers.{forkers_are}
use Rattle.hub_core.proofs.Gathered.{child_once, rounds_of_all}
use Rattle.hub_core.proofs.Loops.{forkers_long}
use Rattle.hub_core.proofs.Looking.{looked_there, looked_only, below_all}
use Rattle.hub_core.proofs.Seating.{AtEnd}
use Rattle.hub_core.proofs.Rests.{some_start}
use Rattle.turn_hub.specs.Closing.{ClosedDesk, ClosedHub, AreKeptOf, IsClosed, EndsFit, OthersJoined, KeptRun}
use Rattle.turn_hub.specs.Closing.{IsKeptRun, IsSameMachine, HaveSameEnds}

-- a round of a number that was born
round_within : (n : ℕ) (is : List Item) (i m k : ℕ) → IsRound (round_part n is) i m k → i < n + length (born is)
round_within n [] i m k h = absurd h
round_within n (One j ∷ is) i m k h = round_within n is i m k h
round_within n (Born j ∷ is) i m k h = let a = round_within (suc n) is i m k h in omega arith
round_within n (Loop x y ∷ is) i m k (inl h) = let a = h.0 in omega arith
round_within n (Loop x y ∷ is) i m k (inr h) = let a = round_within (suc n) is i m k h in omega arith

pub half_of : (n : ℕ) (h : HubState) → (2 * n + halt_count h) / 2 ≡ n
half_of n All = omega arith
half_of n Twice = omega arith
half_of n NoMemory = omega arith

module _ {R A E : Type 0} where
  number_within : (slots : List (Status R A E)) (n : ℕ) (x : Status R A E) → at_number slots n ≡ Some x
      → n < length slots
  number_within [] n x e = none_some e
  number_within (y ∷ slots) zero x e = omega arith
  number_within (y ∷ slots) (suc n) x e = let a = number_within slots n x e in omega arith

  -- a record is its revision's status, and one without a record is out, or was joined, or is not born
  pub record Marks (records : List (Option (Status R A E))) (slots : List (Status R A E)) : Type 0 where
    pub there : (j : ℕ) (x : Status R A E) → record_at records j ≡ Some x → at_number slots j ≡ Some x
    pub others :
        (j : ℕ) → record_at records j ≡ None
        → (at_number slots j ≡ Some Out) ⊎ ((at_number slots j ≡ Some Gone) ⊎ (at_number slots j ≡ None))

  marks : (records : List (Option (Status R A E))) (slots : List (Status R A E)) (lone : List ℕ)
      → Shadows records slots lone → Marks records slots
  marks records slots lone h = record { there = λ j x e. (h.recorded j x e).0; others = λ j e. by j (h.others j e) }
    where
      by : (j : ℕ) → IsLone slots lone j ⊎ ((at_number slots j ≡ None) × (times j lone ≡ 0))
          → (at_number slots j ≡ Some Out) ⊎ ((at_number slots j ≡ Some Gone) ⊎ (at_number slots j ≡ None))
      by j (inl (inl q)) = inl q.0
      by j (inl (inr q)) = inr (inl q.0)
      by j (inr q) = inr (inr q.0)

  next_marks : (r : Option (Status R A E)) (rs : List (Option (Status R A E))) (s : Status R A E)
      (slots : List (Status R A E)) → Marks (r ∷ rs) (s ∷ slots) → Marks rs slots
  next_marks r rs s slots h = record { there = λ j. h.there (suc j); others = λ j. h.others (suc j) }

  no_marks : (s : Status R A E) (slots : List (Status R A E)) → Marks [] (s ∷ slots) → Marks [] slots
  no_marks s slots h = record { there = λ j x e. none_some e; others = λ j e. h.others (suc j) e }

  bare_end : (s : Status R A E) → (Some s ≡ Some Out) ⊎ ((Some s ≡ Some Gone) ⊎ (Some s ≡ None)) → None ≡ end_of s
  bare_end s (inl e) = ap end_of (sym (some_inj e))
  bare_end s (inr (inl e)) = ap end_of (sym (some_inj e))
  bare_end s (inr (inr e)) = none_some (sym e)

  pub ends_left : (records : List (Option (Status R A E))) (slots : List (Status R A E)) → Marks records slots
      → ends_of (length slots) records ≡ map end_of slots
  ends_left [] [] h = refl
  ends_left (r ∷ rs) [] h = refl
  ends_left [] (s ∷ slots) h =
      ap (λ (z : Option E × List (Option E)). z.0 ∷ z.1)
      (λ i. (bare_end s (h.others 0 refl) i, ends_left [] slots (no_marks s slots h) i))
  ends_left (None ∷ rs) (s ∷ slots) h =
      ap (λ (z : Option E × List (Option E)). z.0 ∷ z.1)
      (λ i. (bare_end s (h.others 0 refl) i, ends_left rs slots (next_marks None rs s slots h) i))
  ends_left (Some x ∷ rs) (s ∷ slots) h =
      ap (λ (z : Option E × List (Option E)). z.0 ∷ z.1)
      (λ i. (
        end_of (sym (some_inj (h.there 0 x refl)) i),
        ends_left rs slots (next_marks (Some x) rs s slots h) i,
      ))

  bare_kept : (s : Status R A E) (slots : List (Status R A E))
      → (Some s ≡ Some Out) ⊎ ((Some s ≡ Some Gone) ⊎ (Some s ≡ None)) → kept_of slots ≡ kept_of (s ∷ slots)
  bare_kept s slots (inl e) = ap (λ x. kept_of (x ∷ slots)) (sym (some_inj e))
  bare_kept s slots (inr (inl e)) = ap (λ x. kept_of (x ∷ slots)) (sym (some_inj e))
  bare_kept s slots (inr (inr e)) = none_some (sym e)

  one_kept : (x : Status R A E) (rs : List (Option (Status R A E))) (slots : List (Status R A E))
      → kept_in rs ≡ kept_of slots → kept_in (Some x ∷ rs) ≡ kept_of (x ∷ slots)
  one_kept (Ready r) rs slots e = ap (λ l. left.Run r ∷ l) e
  one_kept Out rs slots e = e
  one_kept (Waiting a) rs slots e = ap (λ l. left.Join a ∷ l) e
  one_kept (Over x) rs slots e = e
  one_kept Gone rs slots e = e

  pub kept_left : (records : List (Option (Status R A E))) (slots : List (Status R A E)) → Marks records slots
      → kept_in records ≡ kept_of slots
  kept_left [] [] h = refl
  kept_left (None ∷ rs) [] h =
      kept_left rs [] record { there = λ j. h.there (suc j); others = λ j e. inr (inr refl) }
  kept_left (Some x ∷ rs) [] h = none_some (h.there 0 x refl)
  kept_left [] (s ∷ slots) h =
      kept_left [] slots (no_marks s slots h) ∙ bare_kept s slots (h.others 0 refl)
  kept_left (None ∷ rs) (s ∷ slots) h =
      kept_left rs slots (next_marks None rs s slots h) ∙ bare_kept s slots (h.others 0 refl)
  kept_left (Some x ∷ rs) (s ∷ slots) h =
      one_kept x rs slots (kept_left rs slots (next_marks (Some x) rs s slots h))
      ∙ ap (λ y. kept_of (y ∷ slots)) (sym (some_inj (h.there 0 x refl)))

module _ {L R A E : Type 0} (d : HubMachine L R A E) (ends : E → L → Type 0) where
  group_of : (group : List ℕ) (records : List (Option (Status R A E))) (slots : List (Status R A E))
      → Marks records slots
      → ((j : ℕ) (x : Status R A E) → record_at records j ≡ Some x → IsOfGroup d ends group x)
      → AreOfGroup d ends group slots
  group_of group records [] h all = tt
  group_of group [] (s ∷ slots) h all =
      (bare (h.others 0 refl), group_of group [] slots (no_marks s slots h) (λ j x e. none_some e))
    where
      bare : (Some s ≡ Some Out) ⊎ ((Some s ≡ Some Gone) ⊎ (Some s ≡ None)) → IsOfGroup d ends group s
      bare (inl e) = subst (IsOfGroup d ends group) (sym (some_inj e)) tt
      bare (inr (inl e)) = subst (IsOfGroup d ends group) (sym (some_inj e)) tt
      bare (inr (inr e)) = none_some (sym e)
  group_of group (None ∷ rs) (s ∷ slots) h all =
      (bare (h.others 0 refl), group_of group rs slots (next_marks None rs s slots h) (λ j. all (suc j)))
    where
      bare : (Some s ≡ Some Out) ⊎ ((Some s ≡ Some Gone) ⊎ (Some s ≡ None)) → IsOfGroup d ends group s
      bare (inl e) = subst (IsOfGroup d ends group) (sym (some_inj e)) tt
      bare (inr (inl e)) = subst (IsOfGroup d ends group) (sym (some_inj e)) tt
      bare (inr (inr e)) = none_some (sym e)
  group_of group (Some x ∷ rs) (s ∷ slots) h all = (
    subst (IsOfGroup d ends group) (sym (some_inj (h.there 0 x refl))) (all 0 x refl),
    group_of group rs slots (next_marks (Some x) rs s slots h) (λ j. all (suc j)),
  )

  sound_long : (start : L) (h : HubState) (log : List ℕ) (slots : List (Status R A E)) (fs : List ℕ)
      → Sound d ends start h log slots fs → length slots ≡ length fs
  sound_long start All log slots fs tie = sym (forkers_long (numbered d) (values d ends) start log slots fs tie)
  sound_long start NoMemory log slots fs tie = sym (forkers_long (numbered d) (values d ends) start log slots fs tie)
  sound_long start Twice log slots fs entered =
      sym (forkers_long (numbered d) (values d ends) start entered.before slots fs entered.tied)

  pub closes : {first v : Sight L} {s : State (DeskSlot R A E) (Sight L)} (a : AtEnd d ends first s v)
      → v.seat.saw ≡ 1 → ClosedDesk d ends first.seat v a.box.value (length a.slots)
  closes {first} a saw =
      let desk = a.box.value in
      let start =
      some_start d ends first.seat.start desk.state (flat a.items) a.slots (0 ∷ born a.items) a.sound in
      let sound : Sound d ends start.0 desk.state (flat a.items) a.slots (0 ∷ born a.items) =
      subst (λ o. SoundFrom d ends o desk.state (flat a.items) a.slots (0 ∷ born a.items)) start.1 a.sound in
      record {
        items = a.items;
        slots = a.slots;
        lone = a.lone;
        start = start.0;
        begun = start.1;
        sound = sound;
        grouped = group_of first.seat.group (records_of desk) a.slots
            (marks (records_of desk) a.slots a.lone a.lays.shadows) a.lays.grouped;
        outs = λ n. sym (a.outs n) ∙ a.passes n;
        state = a.state;
        over = a.over saw;
        same = a.same;
        behind = a.behind;
        counted = refl;
        forked = sound_long start.0 desk.state (flat a.items) a.slots (0 ∷ born a.items) sound;
        roomy = let x = a.roomy in let y = a.lays.limit_is in omega arith;
        entries = a.lays.entries;
        shadows = a.lays.shadows;
        each = a.each;
        made = a.made;
      }

  over_from : (slots : List (Status R A E)) → all_over slots ≡ true → pure.all_ended (numbered d) (values d ends) slots
  over_from [] e = tt
  over_from (Ready r ∷ slots) e = no_more e
  over_from (Out ∷ slots) e = no_more e
  over_from (Waiting a ∷ slots) e = no_more e
  over_from (Over i ∷ slots) e = over_from slots e
  over_from (Gone ∷ slots) e = over_from slots e

  none_kept : (slots : List (Status R A E)) → all_over slots ≡ true → kept_of slots ≡ []
  none_kept [] e = refl
  none_kept (Ready r ∷ slots) e = no_more e
  none_kept (Out ∷ slots) e = no_more e
  none_kept (Waiting a ∷ slots) e = no_more e
  none_kept (Over i ∷ slots) e = none_kept slots e
  none_kept (Gone ∷ slots) e = none_kept slots e

  kept_grouped : (g : List ℕ) (slots : List (Status R A E)) → AreOfGroup d ends g slots
      → AreKeptOf d ends g (kept_of slots)
  kept_grouped g [] all = tt
  kept_grouped g (Ready r ∷ slots) all = (all.0, kept_grouped g slots all.1)
  kept_grouped g (Out ∷ slots) all = kept_grouped g slots all.1
  kept_grouped g (Waiting a ∷ slots) all = (all.0, kept_grouped g slots all.1)
  kept_grouped g (Over i ∷ slots) all = kept_grouped g slots all.1
  kept_grouped g (Gone ∷ slots) all = kept_grouped g slots all.1

  module _ (start : L) (group log fs : List ℕ) (slots : List (Status R A E)) (ended : List (Option E))
      (kept : List (Kept R A)) (taken : ℕ → ℕ)
      (outs : (n : ℕ) → is_out (at_number slots n) ≡ taken n) (ends_are : ended ≡ map end_of slots)
      (kept_are : kept ≡ kept_of slots) (grouped : AreOfGroup d ends group slots) where
    leaves_by : (h : HubState) → Sound d ends start h log slots fs → done h slots ≡ true
        → ClosedHub d ends start group h log fs ended kept taken
    leaves_by All tie over = record {
      world = tie.world;
      legal = tie.replays;
      forked = tie.forked;
      complete = λ _. (
        hub.complete (numbered d) (values d ends) start log slots fs tie (over_from slots over),
        subst (λ l. EndsAre (numbered d) (values d ends) l tie.world) (sym ends_are)
            (hub.ends_are (numbered d) (values d ends) start slots tie.world tie.fits (over_from slots over)),
        kept_are ∙ none_kept slots over,
      );
      slots = slots;
      fits = tie.fits;
      taken_are = outs;
      ends_are = ends_are;
      kept_are = kept_are;
      grouped = subst (AreKeptOf d ends group) (sym kept_are) (kept_grouped group slots grouped);
    }
    leaves_by NoMemory tie over = record {
      world = tie.world;
      legal = tie.replays;
      forked = tie.forked;
      complete = λ e. absurd cc;
      slots = slots;
      fits = tie.fits;
      taken_are = outs;
      ends_are = ends_are;
      kept_are = kept_are;
      grouped = subst (AreKeptOf d ends group) (sym kept_are) (kept_grouped group slots grouped);
    }
    leaves_by Twice entered over = record {
      world = entered.tied.world;
      legal = (entered.before, entered.last, entered.is, entered.tied.replays, entered.twice);
      forked = entered.tied.forked;
      complete = λ e. absurd cc;
      slots = slots;
      fits = entered.tied.fits;
      taken_are = outs;
      ends_are = ends_are;
      kept_are = kept_are;
      grouped = subst (AreKeptOf d ends group) (sym kept_are) (kept_grouped group slots grouped);
    }

  -- the lists of all seats have these rounds
  module _ (first : View L) (v : Sight L) (desk : Desk R A E) (count : ℕ) (c : ClosedDesk d ends first v desk count)
      (rs : List Round) (is : rs ≡ v.rounds) where
    made_in : (n m k : ℕ) → IsRound rs n m k → IsRound (round_part 1 c.items) n m k
    made_in n m k h = c.made n m k (subst (λ l. IsRound l n m k) is h)

    each_in : (n : ℕ) → times n (children rs) ≡ times n (children (round_part 1 c.items))
    each_in n = ap (λ l. times n (children l)) is ∙ c.each n

    pub all_below : AreBelow count rs
    all_below = below_all count rs (λ n m k h.
        let a = round_within 1 c.items n m k (made_in n m k h) in
        let b = c.counted in
        let f = c.forked in
        omega arith)

    rounds_are : AreRounds 1 c.items (look_of rs)
    rounds_are =
        rounds_of_all c.items rs (look_of rs) each_in made_in
        (looked_there rs (λ n. let a = each_in n in let b = child_once 1 c.items n in omega arith))
        (looked_only rs)

    less : count - 1 ≡ length (born c.items)
    less = let a = c.counted in let b = c.forked in omega arith

    pub schedule_is : weave (count - 1) 1 (pairs desk.journal.entries.items) (look_of rs) ≡ flat c.items
    schedule_is =
        ap (λ (z : ℕ × List (ℕ × ℕ)). weave z.0 1 z.1 (look_of rs)) (λ i. (less i, c.entries i))
        ∙ weave_is 1 c.items (look_of rs) rounds_are

    pub forkers_is : 0 ∷ weave_forkers (count - 1) 1 (pairs desk.journal.entries.items) (look_of rs) ≡ 0 ∷ born c.items
    forkers_is =
        ap (λ (z : ℕ × List (ℕ × ℕ)). 0 ∷ weave_forkers z.0 1 z.1 (look_of rs)) (λ i. (less i, c.entries i))
        ∙ ap (λ l. 0 ∷ l) (forkers_are 1 c.items (look_of rs) rounds_are)

    pub none_behind : (j : ℕ) → count ≤ j → record_at (records_of desk) j ≡ None
    none_behind j far = by (record_at (records_of desk) j) refl
      where
        by : (o : Option (Status R A E)) → record_at (records_of desk) j ≡ o → record_at (records_of desk) j ≡ None
        by None e = e
        by (Some x) e =
            let a = number_within c.slots j x (c.shadows.recorded j x e).0 in
            let b = c.counted in
            absurd (omega arith)

    pub leaves : {schedule forkers : List ℕ} {ended : List (Option E)} {kept : List (Kept R A)} {taken : ℕ → ℕ}
        → schedule ≡ weave (count - 1) 1 (pairs desk.journal.entries.items) (look_of rs)
        → forkers ≡ 0 ∷ weave_forkers (count - 1) 1 (pairs desk.journal.entries.items) (look_of rs)
        → ended ≡ ends_of count (records_of desk) → kept ≡ kept_in (records_of desk)
        → ((n : ℕ) → named n v.seat.passes ≡ taken n)
        → IsClosed d ends first desk.state schedule forkers ended kept taken
    leaves {schedule} {forkers} {ended} {kept} {taken} log_are forks_are ends_are kept_are same =
        let shown = marks (records_of desk) c.slots c.lone c.shadows in (
          c.start,
          c.begun,
          leaves_by c.start first.group schedule forkers c.slots ended kept taken (λ n. c.outs n ∙ same n)
              (ends_are ∙ (ap (λ n. ends_of n (records_of desk)) c.counted ∙ ends_left (records_of desk) c.slots shown))
              (kept_are ∙ kept_left (records_of desk) c.slots shown) c.grouped desk.state
              (subst (λ (z : List ℕ × List ℕ). Sound d ends c.start desk.state z.0 c.slots z.1)
              (λ i. (sym (log_are ∙ schedule_is) i, sym (forks_are ∙ forkers_is) i)) c.sound) c.over,
        )

  ends_fit : (slots : List (Status R A E)) (w : Entries L) → pure.AllFit (numbered d) (values d ends) slots w
      → EndsFit (numbered d) ends (map end_of slots) w
  ends_fit [] [] h = tt
  ends_fit [] (x ∷ w) h = absurd h
  ends_fit (s ∷ slots) [] h = absurd h
  ends_fit (Ready r ∷ slots) (x ∷ w) h = ends_fit slots w h.1
  ends_fit (Out ∷ slots) (x ∷ w) h = ends_fit slots w h.1
  ends_fit (Waiting a ∷ slots) (x ∷ w) h = ends_fit slots w h.1
  ends_fit (Over e ∷ slots) (x ∷ w) h = (h.0, ends_fit slots w h.1)
  ends_fit (Gone ∷ slots) (x ∷ w) h = ends_fit slots w h.1

  others_joined : (ended : List (Option E)) (w : Entries L) → EndsAre (numbered d) (values d ends) ended w
      → OthersJoined (numbered d) ended w
  others_joined [] [] h = tt
  others_joined [] (x ∷ w) h = absurd h
  others_joined (e ∷ es) [] h = absurd h
  others_joined (None ∷ es) (x ∷ w) h = (h.0, others_joined es w h.1)
  others_joined (Some e ∷ es) (x ∷ w) h = others_joined es w h.1

  -- the run of what a hub leaves
  pub run_of : (start : L) (group : List ℕ) (state : HubState) (schedule forkers : List ℕ) (ended : List (Option E))
      (kept : List (Kept R A)) (taken : ℕ → ℕ)
      → ClosedHub d ends start group state schedule forkers ended kept taken
      → KeptRun (numbered d) ends start state schedule forkers ended
  run_of start group state schedule forkers ended kept taken h = record {
    world = h.world;
    legal = h.legal;
    forked = h.forked;
    fits = subst (λ l. EndsFit (numbered d) ends l h.world) (sym h.ends_are) (ends_fit h.slots h.world h.fits);
    complete = λ e. let c = h.complete e in (c.0, others_joined ended h.world c.1);
  }

  pub run_from : (first : View L) (begun : Option L) (state : HubState) (schedule forkers : List ℕ)
      (ended : List (Option E)) (kept : List (Kept R A)) (taken : ℕ → ℕ)
      → IsClosed d ends first state schedule forkers ended kept taken
      → begun ≡ first.start → IsKeptRun (numbered d) ends begun state schedule forkers ended
  run_from first begun state schedule forkers ended kept taken h e =
      (h.0, e ∙ h.1, run_of h.0 first.group state schedule forkers ended kept taken h.2)

-- a run of one machine is one of another that does the same
module _ {L R A Q B E : Type 0} (d : HubMachine L R A E) (e : HubMachine L Q B E) (same : IsSameMachine d e)
    (ends other : E → L → Type 0) (have : HaveSameEnds ends other) where
  fits_other : (ended : List (Option E)) (w : Entries L) → EndsFit (numbered d) ends ended w
      → EndsFit (numbered d) other ended w
  fits_other [] [] h = tt
  fits_other [] (x ∷ w) h = absurd h
  fits_other (o ∷ es) [] h = absurd h
  fits_other (None ∷ es) (x ∷ w) h = fits_other es w h
  fits_other (Some o ∷ es) (x ∷ w) h = ((h.0.0, h.0.1, (h.0.2.0, (have o h.0.0).0 h.0.2.1)), fits_other es w h.1)

  pub retyped : (begun : Option L) (state : HubState) (schedule forkers : List ℕ) (ended : List (Option E))
      → IsKeptRun (numbered d) ends begun state schedule forkers ended
      → IsKeptRun (numbered e) other begun state schedule forkers ended
  retyped begun state schedule forkers ended h = (
    h.0,
    h.1,
    subst (λ (z : (L → Wish L) × (L → ℕ) × (L → ℕ → L → L)).
        KeptRun (record { Local = L; next = z.0; forks = z.1; join = z.2 }) other h.0 state schedule forkers ended)
        (λ i. (sym same.0 i, sym same.1 i, sym same.2 i)) record {
          world = h.2.world;
          legal = h.2.legal;
          forked = h.2.forked;
          fits = fits_other ended h.2.world h.2.fits;
          complete = h.2.complete;
        },
  )
