-- Leaves among the legs of a world: a revision behind its leg that has listed nothing, and one whose end is taken over.
use Rattle.std.proofs.Common.{◌≡◌, ◌≢◌, ◌⊎◌, inl, inr, ◌∙◌, ℕ, List, [], ◌∷◌, ◌++◌, length, Option, Some, None, refl, sym, ap, subst, arith, length-append}
use Rattle.std.specs.Prelude.{slice_get}
use Rattle.rev_num.specs.Path.{Path, child}
use Rattle.rev_num.proofs.Options.{none_some, some_eq}
use Rattle.rev_code.specs.declared.code.CodeBlock.{CodeBlock}
use Rattle.rev_code.specs.Events as events
use Rattle.rev_code.specs.State.{Listed, forked, joined}
use Rattle.rev_code.specs.Step.{Comes, goes, traps, forks, joins, ends, stuck}
use Rattle.revision_machine.specs.Machine.{Entry, Plain, Joined}
use Rattle.revision_machine.specs.Laws.{local_of}
use Rattle.revision_machine.specs.Numbered as numbers
use Rattle.revision_machine.specs.Numbered.{Goes, Bears, Wants, Stops, Entries, World, Both, Listing, at_number, put_number, leg_at, leg_of}
use Rattle.revision_machine.proofs.Lists.{put_other, put_here, put_length}
use Rattle.code_machine.specs.Local.{CodeRun, IsVerified, Phase, running, done, trapped, Local, at_work}
use Rattle.code_machine.specs.Leg.{leg}
use Rattle.code_machine.specs.Machines.{fork, act_of, act_in, wish_of, numbered}
use Rattle.code_machine.specs.Proper.{IsOver}
use Rattle.code_machine.proofs.Changes.{decide, LegOf, leg_ways, legs_change}
use Rattle.code_machine.proofs.Changes as changes
use Rattle.code_memos.specs.Leaf.{ended_by}
use Rattle.code_machine_laws.specs.Reached.{IsReached}
use Rattle.world_runs.specs.Changes.{listed_by}
use Rattle.world_runs.proofs.Adding.{went}
use Rattle.world_runs.proofs.Noting.{not_over, own_after, OtherAfter, as_before, is_child, other_after}
use Rattle.rev_record.specs.SoFar.{LeafLeg, IsOverAt}
use Rattle.rev_record.specs.RunLaws.{Unlisted, LeavesAreFound, AdoptedIsLeaf}

-- ---- what stands at a number

abbrev Row : Type 0
Row = Path × Entry (Local ℕ)

-- two rows at one number
pub one_row : (o : Option Row) (p q : Path) (x y : Entry (Local ℕ)) → o ≡ Some (p, x) → o ≡ Some (q, y)
    → (p ≡ q) × (x ≡ y)
one_row o p q x y a b =
    let e : ◌≡◌ {A = Row} (p, x) (q, y) = some_eq (sym a ∙ b) in
    (ap (λ (z : Row). z.0) e, ap (λ (z : Row). z.1) e)

listing_same : (v u : Entries (Local ℕ)) → ◌≡◌ {A = Option (World (Local ℕ))} (Some (Listing v)) (Some (Listing u))
    → u ≡ v
listing_same v u e =
    (let z : ◌≡◌ {A = World (Local ℕ)} (Listing v) (Listing u) = some_eq e in let y : v ≡ u = cc in sym y)

no_leg : {A : Type 0} (u : Entries (Local ℕ)) → ◌≡◌ {A = Option (World (Local ℕ))} None (Some (Listing u)) → A
no_leg u e = none_some e

not_longer : {A : Type 0} (xs : List A) (y : A) → xs ++ y ∷ [] ≡ [] → ⊥
not_longer [] y e = cc
not_longer (x ∷ xs) y e = cc

-- ---- ends

-- what is over does nothing more
over_stops : (g : CodeRun) (l : Local ℕ) → IsOver l → (numbered g).next l ≡ Stops
over_stops g l (inl e) = ap (λ p. wish_of (act_in g l.state p)) e
over_stops g l (inr (t, e)) = ap (λ p. wish_of (act_in g l.state p)) e

-- the end of a leg is over
pub ended_over : (o : Comes ℕ) (l : Local ℕ) → ended_by o ≡ Some l → IsOver l
ended_over (traps c x) l e =
    inr (record { cause = x; line = c.line; origin = None }, ap (λ (z : Local ℕ). z.phase) (sym (some_eq e)))
ended_over (ends c x) l e = inl (ap (λ (z : Local ℕ). z.phase) (sym (some_eq e)))
ended_over (goes c) l e = none_some e
ended_over (forks c b args) l e = none_some e
ended_over (joins c try m) l e = none_some e
ended_over stuck l e = none_some e

-- the revision goes on to its end
pub ended_goes : (g : CodeRun) (o : Comes ℕ) (l : Local ℕ) → ended_by o ≡ Some l → wish_of (act_of g o) ≡ Goes l
ended_goes g (traps c x) l e = ap Goes (some_eq e)
ended_goes g (ends c x) l e = ap Goes (some_eq e)
ended_goes g (goes c) l e = none_some e
ended_goes g (forks c b args) l e = none_some e
ended_goes g (joins c try m) l e = none_some e
ended_goes g stuck l e = none_some e

goes_same : (k l : Local ℕ) → ◌≡◌ {A = numbers.Wish (Local ℕ)} (Goes k) (Goes l) → k ≡ l
goes_same k l e = (let z : k ≡ l = cc in z)

goes_ended : (g : CodeRun) (o : Comes ℕ) (l : Local ℕ) → wish_of (act_of g o) ≡ Goes l → ended_by o ≡ Some l
goes_ended g (traps c x) l e = ap Some (goes_same _ l e)
goes_ended g (ends c x) l e = ap Some (goes_same _ l e)
goes_ended g (goes c) l e = absurd (let z : ◌≡◌ {A = numbers.Wish (Local ℕ)} Stops (Goes l) = e in cc)
goes_ended g (joins c try m) l e = absurd (let z : ◌≡◌ {A = numbers.Wish (Local ℕ)} (Wants m) (Goes l) = e in cc)
goes_ended g stuck l e = absurd (let z : ◌≡◌ {A = numbers.Wish (Local ℕ)} Stops (Goes l) = e in cc)
goes_ended g (forks c b args) l e = by (slice_get g.code.blocks b) e
  where
    by : (o : Option CodeBlock) → wish_of (fork g c b args o) ≡ Goes l → ended_by (forks c b args) ≡ Some l
    by None e = absurd (let z : ◌≡◌ {A = numbers.Wish (Local ℕ)} Stops (Goes l) = e in cc)
    by (Some k) e =
        absurd (let z : ◌≡◌ {A = numbers.Wish (Local ℕ)}
        (Bears (λ h. at_work (events.parent g.share c args h)) (at_work (events.child g.share c b k args))) (Goes l) =
        e in
        cc)

-- ---- the leg of a leaf

module _ (g : CodeRun) (w : Entries (Local ℕ)) (n : ℕ) (r : Path) (l : Local ℕ) (leaf : LeafLeg g w n r l) where
  pub leaf_leg : numbers.leg (numbered g) (Listing w) n ≡ Some (Listing (put_number w n (r, Plain l)))
  leaf_leg = ap (leg_at (numbered g) w n) leaf.there
      ∙ ap (leg_of (numbered g) w n r (at_work leaf.state)) (ended_goes g (leg g leaf.state) l leaf.ends)

  module _ (u : Entries (Local ℕ)) (e : numbers.leg (numbered g) (Listing w) n ≡ Some (Listing u)) where
    pub leaf_there : at_number u n ≡ Some (r, Plain l)
    leaf_there =
        let same : u ≡ put_number w n (r, Plain l) = listing_same (put_number w n (r, Plain l)) u (sym leaf_leg ∙ e) in
        ap (λ z. at_number z n) same ∙ put_here w n (r, Plain (at_work leaf.state)) (r, Plain l) leaf.there

    pub leaf_over : IsOverAt u r
    leaf_over = record {
      number = n;
      entry = Plain l;
      there = leaf_there;
      over = ended_over (leg g leaf.state) l leaf.ends;
    }

-- ---- the world after a leg

module _ (g : CodeRun) (w u : Entries (Local ℕ)) (n : ℕ)
    (e : numbers.leg (numbered g) (Listing w) n ≡ Some (Listing u)) where
  -- what has ended has still ended
  pub still_over : (r : Path) → IsOverAt w r → IsOverAt u r
  still_over r x = by (decide x.number n)
    where
      none : (f : Entry (Local ℕ)) → at_number w n ≡ Some (r, f) → IsOver (local_of f) → IsOverAt u r
      none (Plain l) there over =
          no_leg u
          (sym (ap (leg_at (numbered g) w n) there ∙ ap (leg_of (numbered g) w n r l) (over_stops g l over)) ∙ e)
      none (Joined l) there over = no_leg u (sym (ap (leg_at (numbered g) w n) there) ∙ e)

      kept : (at_number u x.number ≡ Some (r, x.entry))
          ⊎ (Rattle.code_machine.specs.Worlds.Joins (numbered g) w n x.number
          × ((l : Local ℕ) × (x.entry ≡ Plain l) × ((numbered g).next l ≡ Stops)
          × (at_number u x.number ≡ Some (r, Joined l))))
          → IsOverAt u r
      kept (inl there) = record { number = x.number; entry = x.entry; there = there; over = x.over }
      kept (inr (j, (l, plain, stops, there))) = record {
        number = x.number;
        entry = Joined l;
        there = there;
        over = subst (λ (z : Entry (Local ℕ)). IsOver (local_of z)) plain x.over;
      }

      by : (x.number ≡ n) ⊎ (x.number ≢ n) → IsOverAt u r
      by (inl same) = none x.entry (ap (at_number w) (sym same) ∙ x.there) x.over
      by (inr other) = kept (legs_change g w u n e x.number r x.entry other x.there)

module _ (g : CodeRun) (ok : IsVerified g) (w u : Entries (Local ℕ)) (h : IsReached g (Listing w)) (n : ℕ)
    (e : numbers.leg (numbered g) (Listing w) n ≡ Some (Listing u)) where
  -- the revision that made it
  record Maker : Type 0 where
    path : Path
    local : Local ℕ
    there : at_number w n ≡ Some (path, Plain local)

  maker : Maker
  maker = by (leg_ways (numbered g) w n (Listing u) e)
    where
      by : LegOf (numbered g) w n (Listing u) → Maker
      by (changes.went r l l' at is z) = record { path = r; local = l; there = at }
      by (changes.bore r l f c at is z) = record { path = r; local = l; there = at }
      by (changes.took r l m q lq at is there stops z) = record { path = r; local = l; there = at }
      by (changes.twice r l m at is z) = record { path = r; local = l; there = at }

  -- it has listed nothing behind its leg only where it is a leaf
  module _ (m : Maker) where
    ended : (o : Comes ℕ) → leg g m.local.state ≡ o → listed_by (length w) o ≡ []
        → leg_of (numbered g) w n m.path m.local (wish_of (act_of g o)) ≡ Some (Listing u)
        → (k : Local ℕ) × (ended_by o ≡ Some k) × (u ≡ put_number w n (m.path, Plain k))
    ended (traps c x) is none f = (_, refl, listing_same _ u f)
    ended (ends c x) is none f = (_, refl, listing_same _ u f)
    ended (goes c) is none f = no_leg u f
    ended stuck is none f = no_leg u f
    ended (forks c b args) is none f = absurd (not_longer [] (forked (length w) c.line) none)
    ended (joins c try k) is none f = absurd (not_longer [] (joined k c.line) none)

    here : leg_of (numbered g) w n m.path m.local ((numbered g).next m.local) ≡ Some (Listing u)
    here = ap (leg_at (numbered g) w n) (sym m.there) ∙ e

    works : m.local.phase ≡ running
    works = by m.local.phase refl
      where
        stopped : (p : Phase ℕ) → m.local.phase ≡ p → wish_of (act_in g m.local.state p) ≡ Stops
            → m.local.phase ≡ running
        stopped p is stops =
            no_leg u (ap (leg_of (numbered g) w n m.path m.local)
            (sym (ap (λ x. wish_of (act_in g m.local.state x)) is ∙ stops))
            ∙ here)

        by : (p : Phase ℕ) → m.local.phase ≡ p → m.local.phase ≡ running
        by running is = is
        by done is = stopped done is refl
        by (trapped t) is = stopped (trapped t) is refl

    empty : (xs ys : List (Listed ℕ)) → xs ++ ys ≡ [] → (xs ≡ []) × (ys ≡ [])
    empty [] ys e = (refl, e)
    empty (x ∷ xs) ys e = absurd (let z : x ∷ (xs ++ ys) ≡ [] = e in cc)

    own_leaf : (r : Path) (x : Entry (Local ℕ)) → at_number u n ≡ Some (r, x) → (local_of x).state.listed ≡ []
        → LeafLeg g w n r (local_of x)
    own_leaf r x there none =
        let o = own_after w u n m.path m.local m.there _ (went g ok w u h n m.path m.local m.there e) in
        let row = one_row (at_number u n) m.path r (Plain o.0) x o.1 there in
        let list : m.local.state.listed ++ listed_by (length w) (leg g m.local.state) ≡ [] =
        sym o.2 ∙ ap (λ (z : Entry (Local ℕ)). (local_of z).state.listed) row.1 ∙ none in
        let parts = empty m.local.state.listed (listed_by (length w) (leg g m.local.state)) list in
        let next : (numbered g).next m.local ≡ wish_of (act_of g (leg g m.local.state)) =
        ap (λ p. wish_of (act_in g m.local.state p)) works in
        let k = ended (leg g m.local.state) refl parts.1
        (ap (leg_of (numbered g) w n m.path m.local) (sym next) ∙ here) in
        let now : at_number u n ≡ Some (m.path, Plain k.0) =
        ap (λ z. at_number z n) k.2 ∙ put_here w n (m.path, Plain m.local) (m.path, Plain k.0) m.there in
        let same = one_row (at_number u n) m.path r (Plain k.0) x now there in
        let work : m.local ≡ at_work m.local.state = ap (λ p. record { state = m.local.state; phase = p }) works in
        record {
          state = m.local.state;
          there = m.there ∙ (λ i. Some (same.0 i, Plain (work i)));
          unlisted = parts.0;
          ends = k.1 ∙ ap (λ (z : Entry (Local ℕ)). Some (local_of z)) same.1;
        }

  -- another one that has ended had ended before
  pub before_leg : (m : ℕ) → m ≢ n → (r : Path) (x : Entry (Local ℕ)) → at_number u m ≡ Some (r, x)
      → IsOver (local_of x) → (y : Entry (Local ℕ)) × (at_number w m ≡ Some (r, y)) × (local_of y ≡ local_of x)
  before_leg m other r x there over =
      by (other_after w u n maker.path maker.local maker.there _
      (went g ok w u h n maker.path maker.local maker.there e) m other r x there)
    where
      with_path : (p : Path) (f : Entry (Local ℕ)) → at_number w m ≡ Some (p, f) → local_of f ≡ local_of x
          → (z : Entry (Local ℕ)) → at_number u m ≡ Some (p, z)
          → (y : Entry (Local ℕ)) × (at_number w m ≡ Some (r, y)) × (local_of y ≡ local_of x)
      with_path p f before same z now =
          (f, before ∙ ap (λ q. Some (q, f)) (one_row (at_number u m) p r z x now there).0, same)

      kept : (p : Path) (f : Entry (Local ℕ)) → at_number w m ≡ Some (p, f) → local_of f ≡ local_of x
          → (at_number u m ≡ Some (p, f))
          ⊎ (Rattle.code_machine.specs.Worlds.Joins (numbered g) w n m
          × ((l : Local ℕ) × (f ≡ Plain l) × ((numbered g).next l ≡ Stops) × (at_number u m ≡ Some (p, Joined l))))
          → (y : Entry (Local ℕ)) × (at_number w m ≡ Some (r, y)) × (local_of y ≡ local_of x)
      kept p f before same (inl now) = with_path p f before same f now
      kept p f before same (inr (j, (l, plain, stops, now))) = with_path p f before same (Joined l) now

      by : OtherAfter w u n maker.path maker.local maker.there _
          (went g ok w u h n maker.path maker.local maker.there e) m x
          → (y : Entry (Local ℕ)) × (at_number w m ≡ Some (r, y)) × (local_of y ≡ local_of x)
      by (as_before p f before same) = kept p f before same (legs_change g w u n e m p f other before)
      by (is_child end list phase) = absurd (not_over (local_of x) phase over)

  -- one that has ended and has listed nothing had so before, or is a leaf whose leg this was
  pub data UnlistedOver (m : ℕ) (r : Path) (x : Entry (Local ℕ)) : Type 0 where
    had_ended : (y : Entry (Local ℕ)) → at_number w m ≡ Some (r, y) → local_of y ≡ local_of x → UnlistedOver m r x
    is_leaf : LeafLeg g w n r (local_of x) → UnlistedOver m r x

  pub unlisted_over : (m : ℕ) (r : Path) (x : Entry (Local ℕ)) → at_number u m ≡ Some (r, x) → IsOver (local_of x)
      → (local_of x).state.listed ≡ [] → UnlistedOver m r x
  unlisted_over m r x there over none = by (decide m n)
    where
      by : (m ≡ n) ⊎ (m ≢ n) → UnlistedOver m r x
      by (inl same) = is_leaf (own_leaf maker r x (ap (at_number u) (sym same) ∙ there) none)
      by (inr other) = let y = before_leg m other r x there over in had_ended y.0 y.1 y.2

  pub leaf_behind : (r : Path) (x : Entry (Local ℕ)) → at_number u n ≡ Some (r, x) → (local_of x).state.listed ≡ []
      → LeafLeg g w n r (local_of x)
  leaf_behind r x there none = own_leaf maker r x there none

pub leaves_found : LeavesAreFound
leaves_found g ok number main fuel few ns w replays n u e r x found = by u e found
  where
    by : (u : World (Local ℕ)) → numbers.leg (numbered g) (Listing w) n ≡ Some u → Unlisted n u r x
        → LeafLeg g w n r (local_of x)
    by Both e found = absurd found
    by (Listing u) e found =
        leaf_behind g ok w u
        (record { number = number; main = main; fuel = fuel; few = few; schedule = ns; replays = replays }) n e r x
        found.0 found.1

-- ---- an end that is taken over

pub adopted_is_leaf : AdoptedIsLeaf
adopted_is_leaf g w n r c end there none a =
    let goes_on = next (leg_ways (numbered g) w n (Listing after_it) a.leg) in
    (record { state = c; there = there; unlisted = none; ends = goes_ended g (leg g c) a.after goes_on }, goes_on)
  where
    after_it : Entries (Local ℕ)
    after_it = put_number w n (r, Plain a.after)

    here : at_number after_it n ≡ Some (r, Plain a.after)
    here = put_here w n (r, Plain (at_work c)) (r, Plain a.after) there

    is_plain : (k l : Local ℕ) → ◌≡◌ {A = Entry (Local ℕ)} (Plain k) (Plain l) → k ≡ l
    is_plain k l e = (let z : k ≡ l = cc in z)

    listed_so : (v : Entries (Local ℕ)) → Listing after_it ≡ Listing v → after_it ≡ v
    listed_so v e = (let z : after_it ≡ v = cc in z)

    next : LegOf (numbered g) w n (Listing after_it) → (numbered g).next (at_work c) ≡ Goes a.after
    next (changes.went q l l' at is z) =
        let one = one_row (at_number w n) r q (Plain (at_work c)) (Plain l) there at in
        let work : at_work c ≡ l = is_plain (at_work c) l one.1 in
        let then : at_number after_it n ≡ Some (q, Plain l') =
        ap (λ v. at_number v n) (listed_so _ z) ∙ put_here w n (q, Plain l) (q, Plain l') at in
        let last = one_row (at_number after_it n) q r (Plain l') (Plain a.after) then here in
        ap (λ (v : Local ℕ). (numbered g).next v) work ∙ is ∙ ap Goes (is_plain l' a.after last.1)
    next (changes.bore q l f k at is z) =
        let many = ap length (listed_so _ z) in
        let old = put_length w n (r, Plain a.after) in
        let new = put_length w n (q, Plain (f (length w))) in
        let more = length-append (put_number w n (q, Plain (f (length w)))) ((child q l.state.forks, Plain k) ∷ []) in
        absurd (omega (arith, many, old, new, more))
    next (changes.took q l m p lq at is stood stops z) =
        let apart : m ≢ n = λ same.
        (let one = one_row (at_number w n) q p (Plain l) (Plain lq) at (ap (at_number w) (sym same) ∙ stood) in
        let clash : Wants m ≡ Stops =
        sym is ∙ ap (λ (v : Local ℕ). (numbered g).next v) (is_plain l lq one.1) ∙ stops in
        cc) in
        let met : at_number after_it m ≡ Some (p, Joined lq) =
        ap (λ v. at_number v m) (listed_so _ z)
        ∙ put_here (put_number w n (q, Plain ((numbered g).join l m lq))) m (p, Plain lq) (p, Joined lq)
        (put_other w n m (q, Plain ((numbered g).join l m lq)) apart ∙ stood) in
        let not_met : at_number after_it m ≡ Some (p, Plain lq) = put_other w n m (r, Plain a.after) apart ∙ stood in
        let two = one_row (at_number after_it m) p p (Joined lq) (Plain lq) met not_met in
        absurd (let clash : ◌≡◌ {A = Entry (Local ℕ)} (Joined lq) (Plain lq) = two.1 in cc)
    next (changes.twice q l m at is z) =
        absurd (let clash : ◌≡◌ {A = World (Local ℕ)} (Listing after_it) Both = z in cc)
