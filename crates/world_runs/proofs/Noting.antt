-- The notes after a leg are those of the world after it.
use Rattle.std.proofs.Common.{◌≡◌, ◌≢◌, ◌⊎◌, inl, inr, ◌∙◌, ℕ, suc, List, [], ◌∷◌, ◌++◌, length, map, Option, Some, None, refl, sym, ap, subst, arith}
use Rattle.std.proofs.lemmas.List.{map-append}
use Rattle.rev_num.specs.Path.{Path}
use Rattle.rev_code.specs.State.{Listed}
use Rattle.rev_code.specs.Step.{Comes, goes, traps, forks, joins, ends, stuck}
use Rattle.version_map.specs.declared.end.EndValue.{EndValue}
use Rattle.leg_run.specs.declared.revision.Meeting.{Meeting}
use Rattle.leg_run.specs.Standing.{listed_as}
use Rattle.revision_machine.specs.Machine.{Entry, Plain, Joined}
use Rattle.revision_machine.specs.Laws.{local_of}
use Rattle.revision_machine.specs.Numbered as numbers
use Rattle.revision_machine.specs.Numbered.{Entries, World, Listing, at_number, put_number}
use Rattle.rev_vm.specs.Meaning.{IsEnd}
use Rattle.code_machine.specs.Leg.{leg}
use Rattle.code_machine.specs.Local.{CodeRun, IsVerified, Phase, running, done, trapped, Local, end_of}
use Rattle.code_machine.specs.Machines.{numbered}
use Rattle.code_machine.specs.Proper.{IsOver}
use Rattle.code_machine.proofs.Changes.{decide}
use Rattle.revision_machine.proofs.Lists.{put_other, put_here, put_length, at_more, at_below, at_front}
use Rattle.code_world.specs.declared.answer.LegAnswer.{LegAnswer}
use Rattle.code_world.specs.declared.answer.LegAnswer.TheVariants as answer
use Rattle.code_world.specs.declared.world.World as rust
use Rattle.code_world.specs.Answers.{IsInPhase, LegAnswers}
use Rattle.code_world.specs.Endings.{IsEndAt}
use Rattle.code_world.specs.Meetings as told
use Rattle.code_world.specs.Meetings.{HasMeeting, MeetingOf}
use Rattle.code_world.proofs.Rows.{some_same, more_length}
use Rattle.code_machine_laws.specs.Reached.{IsReached}
use Rattle.world_runs.specs.KeptByLegs.{KeepsOn}
use Rattle.world_runs.specs.declared.noted.Noted.{Noted}
use Rattle.world_runs.specs.Changes.{IsChanged, entries_of, HasAdded, IsBorn, IsOverNow, HasNoted, listed_by}
use Rattle.world_runs.specs.Notes.{IsNoted, AreNoted, NotesOf}
use Rattle.world_runs.proofs.Adding.{Went, moved, bore, met, went}

-- ---- entries

-- the entry that was noted is that of the definition
same_entries : (child : ℕ) (o : Comes ℕ) (m : Option Meeting) → HasMeeting child o m
    → map listed_as (entries_of m) ≡ listed_by child o
same_entries child (forks c block args) m h = ap (λ x. map listed_as (entries_of x)) h
same_entries child (joins c try on) m h = ap (λ x. map listed_as (entries_of x)) h
same_entries child (traps c x) m h = ap (λ y. map listed_as (entries_of y)) h
same_entries child (ends c x) m h = ap (λ y. map listed_as (entries_of y)) h
same_entries child (goes c) m h = absurd h
same_entries child stuck m h = absurd h

more_listed : (ls : List (Listed ℕ)) (xs ys : List Meeting) (m : Option Meeting) (more : List (Listed ℕ))
    → ls ≡ map listed_as xs → map listed_as (entries_of m) ≡ more → ys ≡ xs ++ entries_of m
    → ls ++ more ≡ map listed_as ys
more_listed ls xs ys m more is adds pushed =
    (λ i. is i ++ (sym adds) i) ∙ sym (map-append listed_as xs (entries_of m)) ∙ ap (map listed_as) (sym pushed)

-- ---- one that is at work is not over

pub not_over : (l : Local ℕ) → l.phase ≡ running → IsOver l → ⊥
not_over l is (inl e) = (let z : ◌≡◌ {A = Phase ℕ} running done = sym is ∙ e in cc)
not_over l is (inr (t, e)) = (let z : ◌≡◌ {A = Phase ℕ} running (trapped t) = sym is ∙ e in cc)

entry_same : (o : Option (Path × Entry (Local ℕ))) (p q : Path) (e f : Entry (Local ℕ)) → o ≡ Some (p, e)
    → o ≡ Some (q, f) → f ≡ e
entry_same o p q e f a b =
    let s : ◌≡◌ {A = Option (Path × Entry (Local ℕ))} (Some (q, f)) (Some (p, e)) = sym b ∙ a in
    let z : ◌≡◌ {A = Path × Entry (Local ℕ)} (q, f) (p, e) = some_same s in
    ap (λ (x : Path × Entry (Local ℕ)). x.1) z

-- ---- the world after a leg

module _ (w u : Entries (Local ℕ)) (n : ℕ) (r : Path) (l : Local ℕ) (at : at_number w n ≡ Some (r, Plain l))
    (ls : List (Listed ℕ)) (h : Went w u n r ls) where
  -- the revision that made it
  pub own_after : (k : Local ℕ) × (at_number u n ≡ Some (r, Plain k)) × (k.state.listed ≡ ls)
  own_after = by h
    where
      by : Went w u n r ls → (k : Local ℕ) × (at_number u n ≡ Some (r, Plain k)) × (k.state.listed ≡ ls)
      by (moved k is list) = (k, ap (λ z. at_number z n) is ∙ put_here w n (r, Plain l) (r, Plain k) at, list)
      by (bore k kid q is list kids phase) = (
        k,
        ap (λ z. at_number z n) is
            ∙ at_front (put_number w n (r, Plain k)) ((q, Plain kid) ∷ []) n (r, Plain k)
            (put_here w n (r, Plain l) (r, Plain k) at),
        list,
      )
      by (met k m q lq apart there is list) = (
        k,
        ap (λ z. at_number z n) is ∙ put_other (put_number w n (r, Plain k)) m n (q, Joined lq) apart
            ∙ put_here w n (r, Plain l) (r, Plain k) at,
        list,
      )

  -- another one is as it was, but for a mark, or is a child
  pub data OtherAfter (m : ℕ) (e : Entry (Local ℕ)) : Type 0 where
    as_before : (p : Path) (f : Entry (Local ℕ)) → at_number w m ≡ Some (p, f) → local_of f ≡ local_of e
        → OtherAfter m e
    is_child : m ≡ length w → (local_of e).state.listed ≡ [] → (local_of e).phase ≡ running → OtherAfter m e

  pub other_after : (m : ℕ) → m ≢ n → (p : Path) (e : Entry (Local ℕ)) → at_number u m ≡ Some (p, e) → OtherAfter m e
  other_after m other p e there = by h
    where
      by : Went w u n r ls → OtherAfter m e
      by (moved k is list) =
          as_before p e (sym (put_other w n m (r, Plain k) other) ∙ ap (λ z. at_number z m) (sym is) ∙ there) refl
      by (bore k kid q is list kids phase) =
          last
          (at_more (put_number w n (r, Plain k)) (q, Plain kid) m (p, e) (ap (λ z. at_number z m) (sym is) ∙ there))
        where
          last : (at_number (put_number w n (r, Plain k)) m ≡ Some (p, e))
              ⊎ ((m ≡ length (put_number w n (r, Plain k))) × (◌≡◌ {A = Path × Entry (Local ℕ)} (p, e) (q, Plain kid)))
              → OtherAfter m e
          last (inl before) = as_before p e (sym (put_other w n m (r, Plain k) other) ∙ before) refl
          last (inr (end, same)) =
              let it : e ≡ Plain kid = ap (λ (x : Path × Entry (Local ℕ)). x.1) same in
              is_child (end ∙ put_length w n (r, Plain k))
              (ap (λ (x : Entry (Local ℕ)). (local_of x).state.listed) it ∙ kids)
              (ap (λ (x : Entry (Local ℕ)). (local_of x).phase) it ∙ phase)
      by (met k j q lq apart before is list) = pick (decide m j)
        where
          now : at_number (put_number (put_number w n (r, Plain k)) j (q, Joined lq)) m ≡ Some (p, e)
          now = ap (λ z. at_number z m) (sym is) ∙ there

          pick : (m ≡ j) ⊎ (m ≢ j) → OtherAfter m e
          pick (inl same) =
              let stood : at_number (put_number w n (r, Plain k)) m ≡ Some (q, Plain lq) =
              put_other w n m (r, Plain k) other ∙ ap (at_number w) same ∙ before in
              let here : at_number (put_number (put_number w n (r, Plain k)) j (q, Joined lq)) m ≡ Some (q, Joined lq) =
              ap (λ z. at_number (put_number (put_number w n (r, Plain k)) z (q, Joined lq)) m) (sym same)
              ∙ put_here (put_number w n (r, Plain k)) m (q, Plain lq) (q, Joined lq) stood in
              let it : e ≡ Joined lq =
              entry_same (at_number (put_number (put_number w n (r, Plain k)) j (q, Joined lq)) m) q p (Joined lq) e
              here now in
              as_before q (Plain lq) (ap (at_number w) same ∙ before)
              (ap (λ (x : Entry (Local ℕ)). local_of x) (sym it))
          pick (inr different) =
              as_before p e (sym (put_other (put_number w n (r, Plain k)) j m (q, Joined lq) different
              ∙ put_other w n m (r, Plain k) other)
              ∙ now)
              refl

-- ---- notes

module _ (g : CodeRun) (ok : IsVerified g) (w u : Entries (Local ℕ)) (h : IsReached g (Listing w)) (n : ℕ)
    (made : numbers.leg (numbered g) (Listing w) n ≡ Some (Listing u)) (m : Option Meeting) (of : MeetingOf g w n m)
    (old new : List Noted) (noted : AreNoted g w old) where
  abbrev path : Path
  path = of.0

  went_so : Went w u n path (of.1.state.listed ++ listed_by (length w) (leg g of.1.state))
  went_so = went g ok w u h n path of.1 of.2 made

  -- the note of the revision that made the leg
  own_listed : (x y : Noted) → at_number old n ≡ Some x → y.meetings.items ≡ x.meetings.items ++ entries_of m
      → (p : Path) (e : Entry (Local ℕ)) → at_number u n ≡ Some (p, e)
      → (local_of e).state.listed ≡ map listed_as y.meetings.items
  own_listed x y there pushed p e at =
      let now = own_after w u n path of.1 of.2 (of.1.state.listed ++ listed_by (length w) (leg g of.1.state)) went_so in
      let it : e ≡ Plain now.0 = entry_same (at_number u n) path p (Plain now.0) e now.1 at in
      ap (λ (z : Entry (Local ℕ)). (local_of z).state.listed) it ∙ now.2
      ∙ more_listed of.1.state.listed x.meetings.items y.meetings.items m (listed_by (length w) (leg g of.1.state))
      (noted.each n path (Plain of.1) x of.2 there).listed (same_entries (length w) (leg g of.1.state) m of.3) pushed

  -- of another one, whose note is as it was
  other_noted : (k : ℕ) → k ≢ n → (p : Path) (e : Entry (Local ℕ)) → at_number u k ≡ Some (p, e) → (x : Noted)
      → at_number old k ≡ Some x → IsNoted g (local_of e) x
  other_noted k other p e at x there =
      by (other_after w u n path of.1 of.2 (of.1.state.listed ++ listed_by (length w) (leg g of.1.state)) went_so k
      other p e at)
    where
      by : OtherAfter w u n path of.1 of.2 (of.1.state.listed ++ listed_by (length w) (leg g of.1.state)) went_so k e
          → IsNoted g (local_of e) x
      by (as_before q f before same) = subst (λ z. IsNoted g z x) same (noted.each k q f x before there)
      by (is_child end list phase) =
          absurd (let a = at_below old k x there in let b = noted.count in omega (arith, a, b, end))

  -- the revision goes on
  goes_on : (p : Path) (l : Local ℕ) → at_number u n ≡ Some (p, Plain l) → l.phase ≡ running
      → (k : ℕ) (q : Path) (e : Entry (Local ℕ)) → k ≡ n → at_number u k ≡ Some (q, e) → IsOver (local_of e) → ⊥
  goes_on p l at is k q e same there over =
      let it : e ≡ Plain l = entry_same (at_number u n) p q (Plain l) e at (ap (at_number u) (sym same) ∙ there) in
      not_over (local_of e) (ap (λ (z : Entry (Local ℕ)). (local_of z).phase) it ∙ is) over

  pub after_join : length u ≡ length w → IsInPhase u n running → IsChanged n (HasAdded m) old new → AreNoted g u new
  after_join many (p, l, at, is) c = record {
    count = c.count ∙ noted.count ∙ sym many;
    each = λ k q e x there here. pick k q e x there here (decide k n);
  }
    where
      pick : (k : ℕ) (q : Path) (e : Entry (Local ℕ)) (x : Noted) → at_number u k ≡ Some (q, e)
          → at_number new k ≡ Some x → (k ≡ n) ⊎ (k ≢ n) → IsNoted g (local_of e) x
      pick k q e x there here (inl same) =
          let o = c.own x (ap (at_number new) (sym same) ∙ here) in
          record {
            listed = own_listed o.0 x o.1 o.2.meetings q e (ap (at_number u) (sym same) ∙ there);
            left = λ over. absurd (goes_on p l at is k q e same there over);
          }
      pick k q e x there here (inr other) = other_noted k other q e there x (sym (c.others k other) ∙ here)

  pub after_fork : length u ≡ suc (length w) → IsInPhase u n running → IsBorn n m old new → AreNoted g u new
  after_fork many (p, l, at, is) (between, child, c, more, none) = record {
    count = ap length more ∙ more_length between child ∙ ap suc (c.count ∙ noted.count) ∙ sym many;
    each = λ k q e x there here.
        pick k q e x there (at_more between child k x (ap (λ z. at_number z k) (sym more) ∙ here)) (decide k n);
  }
    where
      last : (k : ℕ) (q : Path) (e : Entry (Local ℕ)) (x : Noted) → at_number u k ≡ Some (q, e) → k ≢ n
          → k ≡ length between → x ≡ child → IsNoted g (local_of e) x
      last k q e x there other end same =
          by (other_after w u n path of.1 of.2 (of.1.state.listed ++ listed_by (length w) (leg g of.1.state)) went_so k
          other q e there)
        where
          by : OtherAfter w u n path of.1 of.2 (of.1.state.listed ++ listed_by (length w) (leg g of.1.state)) went_so k
              e
              → IsNoted g (local_of e) x
          by (as_before s f before is') =
              absurd (let a = at_below w k (s, f) before in
              let b = noted.count in
              let d = c.count in
              omega (arith, a, b, d, end))
          by (is_child at_last list phase) = record {
            listed = list ∙ ap (map listed_as) (sym none)
                ∙ ap (λ (z : Noted). map listed_as z.meetings.items) (sym same);
            left = λ over. absurd (not_over (local_of e) phase over);
          }

      pick : (k : ℕ) (q : Path) (e : Entry (Local ℕ)) (x : Noted) → at_number u k ≡ Some (q, e)
          → (at_number between k ≡ Some x) ⊎ ((k ≡ length between) × (x ≡ child)) → (k ≡ n) ⊎ (k ≢ n)
          → IsNoted g (local_of e) x
      pick k q e x there (inl here) (inl same) =
          let o = c.own x (ap (at_number between) (sym same) ∙ here) in
          record {
            listed = own_listed o.0 x o.1 o.2.meetings q e (ap (at_number u) (sym same) ∙ there);
            left = λ over. absurd (goes_on p l at is k q e same there over);
          }
      pick k q e x there (inl here) (inr other) = other_noted k other q e there x (sym (c.others k other) ∙ here)
      pick k q e x there (inr (end, same)) (inl is') =
          absurd (let a = at_below w n (path, Plain of.1) of.2 in
          let b = noted.count in
          let d = c.count in
          omega (arith, a, b, d, end, is'))
      pick k q e x there (inr (end, same)) (inr other) = last k q e x there other end same

  pub after_end : length u ≡ length w → (v : rust.World) → Rattle.code_world.specs.Tables.IsWorld g v (Listing u)
      → IsOverNow v n m old new → AreNoted g u new
  after_end many v stands (between, c, d) = record {
    count = d.count ∙ c.count ∙ noted.count ∙ sym many;
    each = λ k q e x there here. pick k q e x there here (decide k n);
  }
    where
      ended : (q : Path) (e : Entry (Local ℕ)) (x : Noted) → at_number u n ≡ Some (q, e) → (o : Option EndValue)
          → IsEndAt g (Listing u) n o → x.end ≡ o → IsOver (local_of e)
          → (y : EndValue) × (x.end ≡ Some y) × IsEnd g (end_of (local_of e)) y
      ended q e x there (Some y) (s, k, at, end) is over =
          let it : e ≡ k = entry_same (at_number u n) s q k e at there in
          (y, is, subst (λ (z : Entry (Local ℕ)). IsEnd g (end_of (local_of z)) y) (sym it) end)
      ended q e x there None none is over =
          let now =
          own_after w u n path of.1 of.2 (of.1.state.listed ++ listed_by (length w) (leg g of.1.state)) went_so in
          let it : e ≡ Plain now.0 = entry_same (at_number u n) path q (Plain now.0) e now.1 there in
          absurd (not_over (local_of e)
          (ap (λ (z : Entry (Local ℕ)). (local_of z).phase) it ∙ none path (Plain now.0) now.1) over)

      pick : (k : ℕ) (q : Path) (e : Entry (Local ℕ)) (x : Noted) → at_number u k ≡ Some (q, e)
          → at_number new k ≡ Some x → (k ≡ n) ⊎ (k ≢ n) → IsNoted g (local_of e) x
      pick k q e x there here (inl same) =
          let f = d.own x (ap (at_number new) (sym same) ∙ here) in
          let o = c.own f.0 f.1 in
          let at = ap (at_number u) (sym same) ∙ there in
          record {
            listed = own_listed o.0 f.0 o.1 o.2.meetings q e at
                ∙ ap (λ (z : _). map listed_as z.items) (sym f.2.meetings);
            left = ended q e x at x.end (f.2.end g (Listing u) stands) refl;
          }
      pick k q e x there here (inr other) =
          other_noted k other q e there x (sym (c.others k other) ∙ sym (d.others k other) ∙ here)

-- ---- by the answer

module _ (g : CodeRun) (ok : IsVerified g) (w : Entries (Local ℕ)) (h : IsReached g (Listing w)) (n : ℕ)
    (m : Option Meeting) (v : rust.World) (old new : List Noted) (noted : AreNoted g w old) where
  same_world : (x : Entries (Local ℕ)) (u : World (Local ℕ)) → numbers.leg (numbered g) (Listing w) n ≡ Some (Listing x)
      → numbers.leg (numbered g) (Listing w) n ≡ Some u → u ≡ Listing x
  same_world x u a b = some_same (sym b ∙ a)

  pub notes_after : (a : LegAnswer) → LegAnswers g (Listing w) n a v → told.HasNoted g w n a m
      → HasNoted v n a m old new → KeepsOn (λ u. NotesOf g u new) g (Listing w) n a
  notes_after (answer.Forked k) (t, is, (x, leaves, fork_is, number, phase, many)) of c = λ u leg.
      subst (λ z. NotesOf g z new) (sym (same_world x u leaves.leg leg))
      (after_fork g ok w x h n leaves.leg m of old new noted many phase c)
  notes_after (answer.Joined on) (t, is, (x, leaves, join_is, phase, many)) of c = λ u leg.
      subst (λ z. NotesOf g z new) (sym (same_world x u leaves.leg leg))
      (after_join g ok w x h n leaves.leg m of old new noted many phase c)
  notes_after answer.Ended (t, is, (x, leaves, phase, many)) of c = λ u leg.
      subst (λ z. NotesOf g z new) (sym (same_world x u leaves.leg leg))
      (after_end g ok w x h n leaves.leg m of old new noted many v
      (subst (λ z. Rattle.code_world.specs.Tables.IsWorld g z (Listing x)) (sym is) leaves.table) c)
  notes_after answer.Trapped (t, is, (x, leaves, e, phase, many)) of c = λ u leg.
      subst (λ z. NotesOf g z new) (sym (same_world x u leaves.leg leg))
      (after_end g ok w x h n leaves.leg m of old new noted many v
      (subst (λ z. Rattle.code_world.specs.Tables.IsWorld g z (Listing x)) (sym is) leaves.table) c)
  notes_after answer.Twice l of c = λ u leg. subst (λ z. NotesOf g z new) (some_same (sym l.0 ∙ leg)) tt
  notes_after (answer.Waits on) l of c = subst (AreNoted g w) (sym c) noted
  notes_after answer.NoSuch l of c = subst (AreNoted g w) (sym c) noted
  notes_after answer.Over l of c = subst (AreNoted g w) (sym c) noted
