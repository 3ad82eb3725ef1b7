-- What a leg adds to its revision's list of forks and joins.
use Rattle.std.proofs.Common.{◌≡◌, ◌≢◌, ◌⊎◌, inl, inr, ◌∙◌, ℕ, Bool, true, false, List, [], ◌∷◌, ◌++◌, length, Option, Some, None, Ok, Err, refl, sym, ap, append-nil}
use Rattle.std.specs.Prelude.{slice_get}
use Rattle.rev_num.specs.Path.{Path, child}
use Rattle.rev_code.specs.declared.code.CodeBlock.{CodeBlock}
use Rattle.rev_code.specs.Events as events
use Rattle.rev_code.specs.State.{State, Listed, forked, joined}
use Rattle.rev_code.specs.Step.{Comes, goes, traps, forks, joins, ends, stuck}
use Rattle.rev_code.specs.Words.{Word}
use Rattle.version_map.specs.Composing.{Composition, composed}
use Rattle.revision_machine.specs.Machine.{Entry, Plain, Joined}
use Rattle.revision_machine.specs.Numbered as numbers
use Rattle.revision_machine.specs.Numbered.{Wish, Goes, Bears, Wants, Stops, Entries, World, Both, Listing, at_number, put_number, leg_at, leg_of, join_number, join_stopped}
use Rattle.code_machine.specs.Joining.{merges, mains, absorb, join_in, join_end, join}
use Rattle.code_machine.specs.Leg.{leg}
use Rattle.code_machine.specs.Local.{CodeRun, IsVerified, Phase, running, done, trapped, Trap, Local, at_work, has_ended, End, end_of}
use Rattle.code_machine.specs.Machines.{fork, act_of, act_in, wish_of, numbered}
use Rattle.code_machine.specs.Proper.{IsOver}
use Rattle.code_machine.proofs.Typing.{worlds_proper, stops_over}
use Rattle.code_world.proofs.Ended.{plain_same}
use Rattle.code_machine_laws.specs.Reached.{IsReached}
use Rattle.world_runs.specs.Changes.{listed_by}
use Rattle.world_runs.proofs.MeetingsKept.{list_behind, leg_keeps}

-- ---- joins

absorb_list : (c : State ℕ) (try : Bool) (m : ℕ) (j : End ℕ) (o : Composition (Word ℕ))
    → (absorb c try m j o).state.listed ≡ c.listed ++ joined m c.line ∷ []
absorb_list c try m j (Ok ws) = refl
absorb_list c try m j (Err f) = refl

join_list : (g : CodeRun) (c : State ℕ) (try : Bool) (m : ℕ) (j : End ℕ) (p : Phase ℕ)
    → (p ≡ done) ⊎ ((t : Trap ℕ) × (p ≡ trapped t))
    → (join_in g c try m j p).state.listed ≡ c.listed ++ joined m c.line ∷ []
join_list g c try m j done o = absorb_list c try m j (composed (merges g) (mains c.locations j.written) j.written)
join_list g c true m j (trapped t) o = refl
join_list g c false m j (trapped t) o = refl
join_list g c try m j running (inl e) = absurd (let z : ◌≡◌ {A = Phase ℕ} running done = e in cc)
join_list g c try m j running (inr (t, e)) = absurd (let z : ◌≡◌ {A = Phase ℕ} running (trapped t) = e in cc)

-- ---- legs

none_listing : {A : Type 0} (u : Entries (Local ℕ)) → ◌≡◌ {A = Option (World (Local ℕ))} None (Some (Listing u)) → A
none_listing u e = absurd cc

both_listing : {A : Type 0} (u : Entries (Local ℕ)) → ◌≡◌ {A = Option (World (Local ℕ))} (Some Both) (Some (Listing u))
    → A
both_listing u e = absurd cc

listing_same : (v u : Entries (Local ℕ)) → ◌≡◌ {A = Option (World (Local ℕ))} (Some (Listing v)) (Some (Listing u))
    → u ≡ v
listing_same v u e = (let z : ◌≡◌ {A = World (Local ℕ)} (Listing v) (Listing u) = cc in let y : v ≡ u = cc in sym y)

-- the world after a leg of the revision n, whose list is known
pub data Went (w u : Entries (Local ℕ)) (n : ℕ) (r : Path) (listed : List (Listed ℕ)) : Type 0 where
  moved : (k : Local ℕ) → u ≡ put_number w n (r, Plain k) → k.state.listed ≡ listed → Went w u n r listed
  bore : (k kid : Local ℕ) (q : Path) → u ≡ put_number w n (r, Plain k) ++ (q, Plain kid) ∷ [] → k.state.listed ≡ listed
      → kid.state.listed ≡ [] → kid.phase ≡ running → Went w u n r listed
  met : (k : Local ℕ) (m : ℕ) (q : Path) (lq : Local ℕ) → n ≢ m → at_number w m ≡ Some (q, Plain lq)
      → u ≡ put_number (put_number w n (r, Plain k)) m (q, Joined lq) → k.state.listed ≡ listed → Went w u n r listed

module _ (g : CodeRun) (ok : IsVerified g) (w u : Entries (Local ℕ)) (h : IsReached g (Listing w)) (n : ℕ) (r : Path)
    (l : Local ℕ) (at : at_number w n ≡ Some (r, Plain l)) where
  abbrev Gone : Comes ℕ → Type 0
  Gone o = Went w u n r (l.state.listed ++ listed_by (length w) o)

  abbrev Kept : Comes ℕ → Type 0
  Kept o = list_behind l.state o ≡ l.state.listed

  go_fork : (c : State ℕ) (block : ℕ) (args : List (Word ℕ)) (o : Option CodeBlock) → Kept (forks c block args)
      → leg_of (numbered g) w n r l (wish_of (fork g c block args o)) ≡ Some (Listing u) → Gone (forks c block args)
  go_fork c block args None kept e = none_listing u e
  go_fork c block args (Some b) kept e =
      bore (at_work (events.parent g.share c args (length w))) (at_work (events.child g.share c block b args))
      (child r l.state.forks) (listing_same _ u e)
      (ap (λ ls. ls ++ forked (length w) c.line ∷ []) kept) refl refl

  over : (m : ℕ) (q : Path) (lq : Local ℕ) → at_number w m ≡ Some (q, Plain lq) → (numbered g).next lq ≡ Stops
      → IsOver lq
  over m q lq there stops =
      stops_over g ok lq
      (worlds_proper g ok h.number h.main h.fuel h.schedule (Listing w) h.replays m q (Plain lq) there) stops

  go_stopped : (c : State ℕ) (try : Bool) (m : ℕ) → leg g l.state ≡ joins c try m → (numbered g).next l ≡ Wants m
      → Kept (joins c try m) → (q : Path) (lq : Local ℕ) → at_number w m ≡ Some (q, Plain lq)
      → (x : Wish (Local ℕ)) → (numbered g).next lq ≡ x → join_stopped (numbered g) w n r l m q lq x ≡ Some (Listing u)
      → Gone (joins c try m)
  go_stopped c try m is wants kept q lq there Stops stops e =
      met (join g l lq) m q lq apart there (listing_same _ u e)
      (ap (λ o. (join_end g l o (end_of lq)).state.listed) is
      ∙ join_list g c try m (end_of lq) lq.phase (over m q lq there stops) ∙ ap (λ ls. ls ++ joined m c.line ∷ []) kept)
    where
      apart : n ≢ m
      apart same =
          let one : lq ≡ l = plain_same (at_number w n) r q l lq at (ap (at_number w) same ∙ there) in
          let z : Wants m ≡ Stops = sym wants ∙ ap (λ k. (numbered g).next k) (sym one) ∙ stops in
          cc
  go_stopped c try m is wants kept q lq there (Goes x) next e = none_listing u e
  go_stopped c try m is wants kept q lq there (Bears x y) next e = none_listing u e
  go_stopped c try m is wants kept q lq there (Wants x) next e = none_listing u e

  go_join : (c : State ℕ) (try : Bool) (m : ℕ) → leg g l.state ≡ joins c try m → (numbered g).next l ≡ Wants m
      → Kept (joins c try m) → (o : Option (Path × Entry (Local ℕ))) → at_number w m ≡ o
      → join_number (numbered g) w n r l m o ≡ Some (Listing u) → Gone (joins c try m)
  go_join c try m is wants kept None there e = none_listing u e
  go_join c try m is wants kept (Some (q, Joined lq)) there e = both_listing u e
  go_join c try m is wants kept (Some (q, Plain lq)) there e =
      go_stopped c try m is wants kept q lq there ((numbered g).next lq) refl e

  go_comes : (o : Comes ℕ) → leg g l.state ≡ o → ((numbered g).next l ≡ wish_of (act_of g o)) → Kept o
      → leg_of (numbered g) w n r l (wish_of (act_of g o)) ≡ Some (Listing u) → Gone o
  go_comes (goes c) is next kept e = none_listing u e
  go_comes (traps c x) is next kept e =
      moved (has_ended c _) (listing_same _ u e) (kept ∙ sym (append-nil l.state.listed))
  go_comes (ends c x) is next kept e =
      moved (has_ended c done) (listing_same _ u e) (kept ∙ sym (append-nil l.state.listed))
  go_comes (forks c block args) is next kept e = go_fork c block args (slice_get g.code.blocks block) kept e
  go_comes (joins c try m) is next kept e = go_join c try m is next kept (at_number w m) refl e
  go_comes stuck is next kept e = none_listing u e

  pub went : numbers.leg (numbered g) (Listing w) n ≡ Some (Listing u)
      → Went w u n r (l.state.listed ++ listed_by (length w) (leg g l.state))
  went e = by l.phase refl
    where
      here : leg_of (numbered g) w n r l ((numbered g).next l) ≡ Some (Listing u)
      here = ap (leg_at (numbered g) w n) (sym at) ∙ e

      none : (p : Phase ℕ) → l.phase ≡ p → wish_of (act_in g l.state p) ≡ Stops → Gone (leg g l.state)
      none p is stops =
          none_listing u
          (ap (leg_of (numbered g) w n r l) (sym (ap (λ x. wish_of (act_in g l.state x)) is ∙ stops)) ∙ here)

      by : (p : Phase ℕ) → l.phase ≡ p → Gone (leg g l.state)
      by running is =
          let next : (numbered g).next l ≡ wish_of (act_of g (leg g l.state)) =
          ap (λ x. wish_of (act_in g l.state x)) is in
          go_comes (leg g l.state) refl next (leg_keeps g l.state) (ap (leg_of (numbered g) w n r l) (sym next) ∙ here)
      by done is = none done is refl
      by (trapped t) is = none (trapped t) is refl
