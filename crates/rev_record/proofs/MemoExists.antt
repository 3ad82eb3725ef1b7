-- Each run has a memo, and each list of entries a number: leg by leg along a complete schedule.
use Rattle.std.proofs.Common.{◌≡◌, ◌∙◌, ◌⊎◌, inl, inr, refl, sym, ap, subst, ◌≤◌, ◌+◌, ◌*◌, ℕ, List, [], ◌∷◌, ◌++◌, length}
use Rattle.std.specs.Prelude.{Option, Some, None}
use Rattle.rev_num.specs.Path.{Path}
use Rattle.rev_num.specs.Limits.{most_fuel}
use Rattle.rev_num.proofs.Options.{none_some}
use Rattle.rev_code.specs.State.{State, Listed}
use Rattle.code_memos.specs.Births.{Born}
use Rattle.revision_machine.specs.Machine.{Entry, Plain, Joined}
use Rattle.revision_machine.specs.Laws.{local_of}
use Rattle.revision_machine.specs.Numbered as numbers
use Rattle.revision_machine.specs.Numbered.{Entries, World, Both, Listing, at_number, begin, Replays}
use Rattle.revision_machine.proofs.ByNumber.{schedule_completes}
use Rattle.revision_machine.proofs.Replays.{replays_on}
use Rattle.code_machine.specs.Local.{CodeRun, IsVerified, Phase, running, done, trapped, Trap, Local, at_work}
use Rattle.code_machine.specs.Leg.{leg}
use Rattle.code_machine.specs.Machines.{machine, numbered, IsMain, start_in}
use Rattle.code_machine.proofs.Starting.{entry_bound}
use Rattle.code_machine_laws.proofs.Mains.{has_main}
use Rattle.code_memos.specs.Leaf.{ended_by, Known}
use Rattle.code_memos.specs.Memo.{first, IsLeaf, IsEntry, HasValid}
use Rattle.code_memos.specs.ByNumber.{IsEntryOf, Refused}
use Rattle.code_memos.proofs.ByNumber.{leaf_has_entry}
use Rattle.rev_record.specs.SoFar.{LeafLeg, RecordedSoFar, IsRecordedSoFar, CountedSoFar, IsCountedSoFar, none_in_twice}
use Rattle.rev_record.proofs.Keeping.{recorded_at_start, recorded_without, recorded_with, recorded_at_end, counted_at_start, counted_without, counted_with, counted_at_end}
use Rattle.rev_record.proofs.Leaves.{one_row}
use Rattle.rev_record.specs.MemoLaws.{EachHasMemo, EachIsReused}
use Rattle.rev_record.proofs.Deciding.{OneIsValid, NoneIsValid, one_told}

-- ---- the leg of a leaf, or of none

not_plain : (x y : Local ℕ) → ◌≡◌ {A = Entry (Local ℕ)} (Joined x) (Plain y) → ⊥
not_plain x y e = cc

not_empty : (x : Listed ℕ) (xs : List (Listed ℕ)) → x ∷ xs ≡ [] → ⊥
not_empty x xs e = cc

not_done : ◌≡◌ {A = Phase ℕ} done running → ⊥
not_done e = cc

not_trapped : (t : Trap ℕ) → ◌≡◌ {A = Phase ℕ} (trapped t) running → ⊥
not_trapped t e = cc

module _ (g : CodeRun) (w : Entries (Local ℕ)) (n : ℕ) where
  abbrev HasLeaf : Type 0
  HasLeaf = (r : Path) × (l : Local ℕ) × LeafLeg g w n r l

  abbrev HasNone : Type 0
  HasNone = (r : Path) (l : Local ℕ) → LeafLeg g w n r l → ⊥

  leaf_told : HasLeaf ⊎ HasNone
  leaf_told = at_row (at_number w n) refl
    where
      -- a leaf here stands in the same row
      same_row : (r q : Path) (x : Entry (Local ℕ)) (l : Local ℕ) → at_number w n ≡ Some (r, x)
          → (f : LeafLeg g w n q l) → x ≡ Plain (at_work f.state)
      same_row r q x l there f = (one_row (at_number w n) r q x (Plain (at_work f.state)) there f.there).1

      at_end : (r : Path) (c : State ℕ) → at_number w n ≡ Some (r, Plain (at_work c)) → c.listed ≡ []
          → (o : Option (Local ℕ)) → ended_by (leg g c) ≡ o → HasLeaf ⊎ HasNone
      at_end r c there empty (Some l) ends =
          inl (r, l, record { state = c; there = there; unlisted = empty; ends = ends })
      at_end r c there empty None ends =
          inr (λ q l f.
          let same : c ≡ f.state =
          ap (λ (z : Entry (Local ℕ)). (local_of z).state) (same_row r q (Plain (at_work c)) l there f) in
          none_some (sym ends ∙ ap (λ s. ended_by (leg g s)) same ∙ f.ends))

      at_list : (r : Path) (c : State ℕ) → at_number w n ≡ Some (r, Plain (at_work c)) → (ls : List (Listed ℕ))
          → c.listed ≡ ls → HasLeaf ⊎ HasNone
      at_list r c there [] empty = at_end r c there empty (ended_by (leg g c)) refl
      at_list r c there (x ∷ ls) some =
          inr (λ q l f.
          let same : c ≡ f.state =
          ap (λ (z : Entry (Local ℕ)). (local_of z).state) (same_row r q (Plain (at_work c)) l there f) in
          not_empty x ls (sym some ∙ ap (λ (s : State ℕ). s.listed) same ∙ f.unlisted))

      at_phase : (r : Path) (x : Local ℕ) → at_number w n ≡ Some (r, Plain x) → (p : Phase ℕ) → x.phase ≡ p
          → HasLeaf ⊎ HasNone
      at_phase r x there running is =
          let same : x ≡ at_work x.state = ap (λ (p : Phase ℕ). record { state = x.state; phase = p }) is in
          at_list r x.state (there ∙ ap (λ (z : Local ℕ). Some (r, Plain z)) same) x.state.listed refl
      at_phase r x there done is =
          inr (λ q l f.
          not_done (sym is ∙ ap (λ (z : Entry (Local ℕ)). (local_of z).phase) (same_row r q (Plain x) l there f)))
      at_phase r x there (trapped t) is =
          inr (λ q l f.
          not_trapped t (sym is ∙ ap (λ (z : Entry (Local ℕ)). (local_of z).phase) (same_row r q (Plain x) l there f)))

      at_row : (o : Option (Path × Entry (Local ℕ))) → at_number w n ≡ o → HasLeaf ⊎ HasNone
      at_row None is = inr (λ q l f. none_some (sym is ∙ f.there))
      at_row (Some (r, Plain x)) is = at_phase r x is x.phase refl
      at_row (Some (r, Joined x)) is = inr (λ q l f. not_plain x (at_work f.state) (same_row r q (Joined x) l is f))

module _ (g : CodeRun) (ok : IsVerified g) (number : ℕ) (main : IsMain g number) (fuel : ℕ)
    (few : fuel ≤ most_fuel) where
  abbrev at_start : World (Local ℕ)
  at_start = begin (numbered g) (start_in g number main.body fuel)

  abbrev From : List ℕ → World (Local ℕ) → Type 0
  From ns w = Replays (numbered g) at_start ns w

  module _ (ns : List ℕ) (v : Entries (Local ℕ)) (from : From ns (Listing v)) (n : ℕ) (u : World (Local ℕ))
      (leg_is : numbers.leg (numbered g) (Listing v) n ≡ Some u) where
    one_more : From (ns ++ n ∷ []) u
    one_more = replays_on (numbered g) ns (n ∷ []) at_start (Listing v) u from (u, leg_is, refl)

    entry_of : (r : Path) (l : Local ℕ) (f : LeafLeg g v n r l)
        → (e : Known) × IsEntryOf g number main fuel (numbers.paths_of v) r f.state l e
    entry_of r l f = leaf_has_entry g ok number main fuel ns v from n r f.state l f.there f.unlisted f.ends

    -- ---- recording

    recorded_more : (es : List Known) → RecordedSoFar g number main fuel v es
        → (more : List Known) × IsRecordedSoFar g number main fuel u more
    recorded_more es so = by (leaf_told g v n)
      where
        by : HasLeaf g v n ⊎ HasNone g v n → (more : List Known) × IsRecordedSoFar g number main fuel u more
        by (inr none) = (es, recorded_without g ok number main fuel few ns v from n u leg_is none es so)
        by (inl (r, l, f)) =
            let e = entry_of r l f in (
              es ++ e.0 ∷ [],
              recorded_with g ok number main fuel few ns v from n u leg_is r l f e.0 e.1.entry e.1.path_is es so,
            )

    -- ---- counting

    module _ (es : List Known) where
      valid_told : (r : Path) (l : Local ℕ) → LeafLeg g v n r l
          → HasValid g number main fuel es r ⊎ Refused g number main fuel es r
      valid_told r l f = by (one_told g number main fuel r x.known.begins g.inputs es)
        where
          e : (e : Known) × IsEntryOf g number main fuel (numbers.paths_of v) r f.state l e
          e = entry_of r l f

          x : IsEntry g number main fuel e.0
          x = e.1.entry

          born : Born (machine g) (first g number main fuel) r (at_work x.state)
          born = subst (λ p. Born (machine g) (first g number main fuel) p (at_work x.state)) e.1.path_is x.born

          leaf : IsLeaf g number main fuel r x.known.begins
          leaf = record {
            state = x.state;
            born = born;
            fresh = x.known.fresh;
            after = x.known.after;
            ends = x.known.ended;
          }

          by : OneIsValid g number main fuel r x.known.begins g.inputs es
              ⊎ NoneIsValid g number main fuel r x.known.begins g.inputs es
              → HasValid g number main fuel es r ⊎ Refused g number main fuel es r
          by (inl one) = inl (x.known.begins, leaf, one.0, one.1, one.2)
          by (inr none) =
              inr (record { state = x.state; born = born; begins = x.known.begins; fresh = x.known.fresh; none = none })

      counted_more : (paths : List Path) → CountedSoFar g number main fuel es v paths
          → (more : List Path) × IsCountedSoFar g number main fuel es u more
      counted_more paths so = by (leaf_told g v n)
        where
          of_valid : (r : Path) (l : Local ℕ) → LeafLeg g v n r l
              → HasValid g number main fuel es r ⊎ Refused g number main fuel es r
              → (more : List Path) × IsCountedSoFar g number main fuel es u more
          of_valid r l f (inl valid) =
              (paths ++ r ∷ [], counted_with g ok number main fuel few ns v from n u leg_is r l f es valid paths so)
          of_valid r l f (inr refused) = (
            paths,
            counted_without g ok number main fuel few ns v from n u leg_is es
                (λ q m h.
                let row =
                one_row (at_number v n) r q (Plain (at_work f.state)) (Plain (at_work h.state)) f.there h.there in
                subst (Refused g number main fuel es) row.0 refused)
                paths so,
          )

          by : HasLeaf g v n ⊎ HasNone g v n → (more : List Path) × IsCountedSoFar g number main fuel es u more
          by (inr none) = (
            paths,
            counted_without g ok number main fuel few ns v from n u leg_is es (λ r l f. absurd (none r l f)) paths so,
          )
          by (inl (r, l, f)) = of_valid r l f (valid_told r l f)

  -- ---- along a schedule

  recorded : (ms : List ℕ) (v w : World (Local ℕ)) (ns : List ℕ) → From ns v → (es : List Known)
      → IsRecordedSoFar g number main fuel v es
      → Replays (numbered g) v ms w → (all : List Known) × IsRecordedSoFar g number main fuel w all
  recorded [] v w ns from es so is = (es, subst (λ x. IsRecordedSoFar g number main fuel x es) is so)
  recorded (m ∷ ms) Both w ns from es so on = none_some on.1
  recorded (m ∷ ms) (Listing v) w ns from es so on =
      let next = recorded_more ns v from m on.0 on.1 es so in
      recorded ms on.0 w (ns ++ m ∷ []) (one_more ns v from m on.0 on.1) next.0 next.1 on.2

  counted : (es : List Known) (ms : List ℕ) (v w : World (Local ℕ)) (ns : List ℕ) → From ns v → (paths : List Path)
      → IsCountedSoFar g number main fuel es v paths
      → Replays (numbered g) v ms w → (all : List Path) × IsCountedSoFar g number main fuel es w all
  counted es [] v w ns from paths so is = (paths, subst (λ x. IsCountedSoFar g number main fuel es x paths) is so)
  counted es (m ∷ ms) Both w ns from paths so on = none_some on.1
  counted es (m ∷ ms) (Listing v) w ns from paths so on =
      let next = counted_more ns v from m on.0 on.1 es paths so in
      counted es ms on.0 w (ns ++ m ∷ []) (one_more ns v from m on.0 on.1) next.0 next.1 on.2

pub each_has_memo : EachHasMemo
each_has_memo g ok fuel few =
    let m = has_main g ok in
    let start = begin (numbered g) (start_in g m.0 m.1.body fuel) in
    let all =
    schedule_completes (numbered g) (start_in g m.0 m.1.body fuel) (3 * fuel + 2) (entry_bound g ok m.0 m.1 fuel) []
    start refl in
    let kept =
    recorded g ok m.0 m.1 fuel few all.0 start all.1 [] refl [] (recorded_at_start g m.0 m.1 fuel) all.2.replays in (
      none_in_twice all.1 kept.0,
      record {
        number = m.0;
        main = m.1;
        memo = recorded_at_end g ok m.0 m.1 fuel all.0 all.1 all.2.replays all.2.over kept.0 kept.1;
      },
    )

pub each_is_reused : EachIsReused
each_is_reused g ok fuel few es =
    let m = has_main g ok in
    let start = begin (numbered g) (start_in g m.0 m.1.body fuel) in
    let all =
    schedule_completes (numbered g) (start_in g m.0 m.1.body fuel) (3 * fuel + 2) (entry_bound g ok m.0 m.1 fuel) []
    start refl in
    let kept =
    counted g ok m.0 m.1 fuel few es all.0 start all.1 [] refl [] (counted_at_start g m.0 m.1 fuel es)
    all.2.replays in (
      length (none_in_twice all.1 kept.0),
      record {
        number = m.0;
        main = m.1;
        reused = counted_at_end g ok m.0 m.1 fuel all.0 all.1 all.2.replays all.2.over es kept.0 kept.1;
      },
    )
