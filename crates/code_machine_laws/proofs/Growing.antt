-- What `main` has said grows along legs.
use Rattle.std.proofs.Common.{◌≡◌, ◌≢◌, ◌⊎◌, inl, inr, ◌∙◌, ℕ, Bool, true, false, List, [], ◌++◌, length, Option, Some, None, Ok, Err, refl, sym, ap, subst}
use Rattle.rev_num.specs.Path.{Path}
use Rattle.rev_code.specs.declared.code.CodeBlock.{CodeBlock}
use Rattle.rev_code.specs.State.{State}
use Rattle.rev_code.specs.Step.{Comes, goes, traps, forks, joins, ends, stuck}
use Rattle.rev_code.specs.Words.{Word}
use Rattle.rev_code.specs.Events as events
use Rattle.version_map.specs.Composing.{Composition, composed}
use Rattle.revision_machine.specs.Machine.{Entry, Plain, Joined}
use Rattle.revision_machine.specs.Numbered as numbers
use Rattle.revision_machine.specs.Numbered.{Entries, Both, Listing, at_number, put_number}
use Rattle.revision_machine.proofs.Lists.{at_front, put_other, put_here}
use Rattle.code_machine.specs.Local.{CodeRun, IsVerified, under, Phase, running, done, trapped, Trap, Local, End, end_of, at_work, has_ended}
use Rattle.code_machine.specs.Leg.{leg, clock}
use Rattle.code_machine.specs.Joining.{merges, mains, absorb, inherit, join_in, join_end, join}
use Rattle.code_machine.specs.Machines.{Goes, Bears, Wants, Stops, fork, act_of, act_in, act, wish_of, numbered}
use Rattle.code_machine.specs.Worlds.{Joins}
use Rattle.code_machine.proofs.Changes.{LegOf, went, bore, took, twice, leg_ways, legs_change}
use Rattle.code_machine.proofs.Typing.{goes_act, bears_act, wants_act}
use Rattle.code_machine_laws.specs.Reached.{IsReached}
use Rattle.code_machine_laws.proofs.Reaching.{joinees, forked_goes}
use Rattle.code_machine_laws.specs.Forms.{Grows, Says}
use Rattle.code_machine_laws.proofs.StepTexts.{grows_on, grows_same, reach_says}
use Rattle.code_machine_laws.specs.Texts.{HasSaid, as_it_is, at_join, LegsSay}

pub plain_same : {L : Type 0} (o : Option (Path × Entry L)) (r q : Path) (l k : L) → o ≡ Some (r, Plain l)
    → o ≡ Some (q, Plain k) → (r ≡ q) × (l ≡ k)
plain_same {L} o r q l k a b =
    let e : ◌≡◌ {A = Option (Path × Entry L)} (Some (r, Plain l)) (Some (q, Plain k)) = sym a ∙ b in
    let p : ◌≡◌ {A = Path × Entry L} (r, Plain l) (q, Plain k) = cc in
    (ap (λ x. x.0) p, (let z : Plain l ≡ Plain k = ap (λ x. x.1) p in cc))

-- ---- events

module _ (g : CodeRun) (t : List ℕ) where
  ended_says : (d : State ℕ) (p : Phase ℕ) (l' : Local ℕ) → Grows t d.text → Goes (has_ended d p) ≡ Goes l'
      → Grows t l'.state.text
  ended_says d p l' k e = let z : has_ended d p ≡ l' = cc in subst (λ (x : Local ℕ). Grows t x.state.text) z k

  forked_says : (d : State ℕ) (n : ℕ) (args : List (Word ℕ)) (o : Option CodeBlock) → Grows t d.text
      → (f : ℕ → Local ℕ) (k : Local ℕ) → fork g d n args o ≡ Bears f k → (m : ℕ) → Grows t (f m).state.text
  forked_says d n args None grows f k is m = absurd (let z : Stops ≡ Bears f k = is in cc)
  forked_says d n args (Some b) grows f k is m =
      let z : (λ h. at_work (events.parent g.share d args h)) ≡ f =
      (let y :
      Bears (λ h. at_work (events.parent g.share d args h)) (at_work (events.child g.share d n b args)) ≡ Bears f k =
      is in
      cc) in
      subst (λ (u : ℕ → Local ℕ). Grows t (u m).state.text) z grows

  forked_wants : (d : State ℕ) (n : ℕ) (args : List (Word ℕ)) (o : Option CodeBlock) (m : ℕ)
      → fork g d n args o ≡ Wants m → ⊥
  forked_wants d n args None m is = (let z : Stops ≡ Wants m = is in cc)
  forked_wants d n args (Some b) m is =
      (let z :
      Bears (λ h. at_work (events.parent g.share d args h)) (at_work (events.child g.share d n b args)) ≡ Wants m =
      is in
      cc)

  event_goes : (o : Comes ℕ) → Says t o → (l' : Local ℕ) → act_of g o ≡ Goes l' → Grows t l'.state.text
  event_goes (traps d x) k l' e = ended_says d (trapped (record { cause = x; line = d.line; origin = None })) l' k e
  event_goes (ends d v) k l' e = ended_says d done l' k e
  event_goes (forks d n args) k l' e = absurd (forked_goes g d n args _ l' e)
  event_goes (joins d try m) k l' e = absurd (let z : Wants m ≡ Goes l' = e in cc)
  event_goes (goes d) k l' e = absurd (let z : Stops ≡ Goes l' = e in cc)
  event_goes stuck k l' e = absurd (let z : Stops ≡ Goes l' = e in cc)

  event_bears : (o : Comes ℕ) → Says t o → (f : ℕ → Local ℕ) (u : Local ℕ) → act_of g o ≡ Bears f u → (m : ℕ)
      → Grows t (f m).state.text
  event_bears (forks d n args) k f u e m = forked_says d n args _ k f u e m
  event_bears (traps d x) k f u e m =
      absurd (let z : Goes (has_ended d (trapped (record { cause = x; line = d.line; origin = None }))) ≡ Bears f u =
      e in
      cc)
  event_bears (ends d v) k f u e m = absurd (let z : Goes (has_ended d done) ≡ Bears f u = e in cc)
  event_bears (joins d try q) k f u e m = absurd (let z : Wants q ≡ Bears f u = e in cc)
  event_bears (goes d) k f u e m = absurd (let z : Stops ≡ Bears f u = e in cc)
  event_bears stuck k f u e m = absurd (let z : Stops ≡ Bears f u = e in cc)

  absorb_says : (c : State ℕ) (try : Bool) (h : ℕ) (j : End ℕ) (o : Composition (Word ℕ)) → Grows t c.text
      → Grows t (absorb c try h j o).state.text
  absorb_says c try h j (Ok ws) k = grows_on t c.text (c.text ++ j.text) k (j.text, refl)
  absorb_says c try h j (Err f) k = k

  inherit_says : (c : State ℕ) (try : Bool) (h : ℕ) (x : Trap ℕ) → Grows t c.text
      → Grows t (inherit c try h x).state.text
  inherit_says c true h x k = k
  inherit_says c false h x k = k

  in_says : (c : State ℕ) (try : Bool) (h : ℕ) (j : End ℕ) (p : Phase ℕ) → Grows t c.text
      → Grows t (join_in g c try h j p).state.text
  in_says c try h j done k = absorb_says c try h j (composed (merges g) (mains c.locations j.written) j.written) k
  in_says c try h j (trapped x) k = inherit_says c try h x k
  in_says c try h j running k = k

  event_joins : (l : Local ℕ) (o : Comes ℕ) → Says t o → (m : ℕ) → act_of g o ≡ Wants m → (j : End ℕ)
      → Grows t (join_end g l o j).state.text
  event_joins l (joins c try h) k m e j = in_says c try h j j.phase k
  event_joins l (traps d x) k m e j =
      absurd (let z : Goes (has_ended d (trapped (record { cause = x; line = d.line; origin = None }))) ≡ Wants m = e in
      cc)
  event_joins l (ends d v) k m e j = absurd (let z : Goes (has_ended d done) ≡ Wants m = e in cc)
  event_joins l (forks d n args) k m e j = absurd (forked_wants d n args _ m e)
  event_joins l (goes d) k m e j = absurd (let z : Stops ≡ Wants m = e in cc)
  event_joins l stuck k m e j = absurd (let z : Stops ≡ Wants m = e in cc)

-- ---- what a revision has said

module _ (g : CodeRun) where
  leg_says : (c : State ℕ) → Says c.text (leg g c)
  leg_says c = reach_says (under g) (clock g c) c

  pub said_running : (l : Local ℕ) (t : List ℕ) → HasSaid g l t → l.phase ≡ running → Says t (leg g l.state)
  said_running l t (as_it_is e) run = subst (λ x. Says x (leg g l.state)) (sym e) (leg_says l.state)
  said_running l t (at_join c try m run' is e) run = subst (λ o. Says t o) (sym is) (grows_same t c.text e)

  pub said_more : (l : Local ℕ) (t : List ℕ) → HasSaid g l t → Grows l.state.text t
  said_more l t (as_it_is e) = grows_same l.state.text t (sym e)
  said_more l t (at_join c try m run is e) =
      let k : Grows l.state.text c.text = subst (λ o. Says l.state.text o) is (leg_says l.state) in
      subst (λ x. Grows l.state.text x) (sym e) k

  pub joins_wants : (l : Local ℕ) (c : State ℕ) (try : Bool) (m : ℕ) → l.phase ≡ running → leg g l.state ≡ joins c try m
      → (numbered g).next l ≡ numbers.Wants m
  joins_wants l c try m run is = ap (λ p. wish_of (act_in g l.state p)) run ∙ ap (λ o. wish_of (act_of g o)) is

  pub said_stopped : (l : Local ℕ) (t : List ℕ) → HasSaid g l t → (numbered g).next l ≡ numbers.Stops → t ≡ l.state.text
  said_stopped l t (as_it_is e) stops = e
  said_stopped l t (at_join c try m run is e) stops =
      absurd (let z : ◌≡◌ {A = numbers.Wish (Local ℕ)} (numbers.Wants m) numbers.Stops =
      sym (joins_wants l c try m run is) ∙ stops in
      cc)

  own_goes : (l l' : Local ℕ) (t : List ℕ) → HasSaid g l t → act g l ≡ Goes l' → Grows t l'.state.text
  own_goes l l' t h is = by l.phase refl is
    where
      by : (p : Phase ℕ) → l.phase ≡ p → act_in g l.state p ≡ Goes l' → Grows t l'.state.text
      by running run e = event_goes g t (leg g l.state) (said_running l t h run) l' e
      by done run e = absurd (let z : Stops ≡ Goes l' = e in cc)
      by (trapped x) run e = absurd (let z : Stops ≡ Goes l' = e in cc)

  own_bears : (l : Local ℕ) (f : ℕ → Local ℕ) (u : Local ℕ) (t : List ℕ) → HasSaid g l t → act g l ≡ Bears f u → (m : ℕ)
      → Grows t (f m).state.text
  own_bears l f u t h is m = by l.phase refl is
    where
      by : (p : Phase ℕ) → l.phase ≡ p → act_in g l.state p ≡ Bears f u → Grows t (f m).state.text
      by running run e = event_bears g t (leg g l.state) (said_running l t h run) f u e m
      by done run e = absurd (let z : Stops ≡ Bears f u = e in cc)
      by (trapped x) run e = absurd (let z : Stops ≡ Bears f u = e in cc)

  own_joins : (l lq : Local ℕ) (m : ℕ) (t : List ℕ) → HasSaid g l t → act g l ≡ Wants m
      → Grows t (join g l lq).state.text
  own_joins l lq m t h is = by l.phase refl is
    where
      by : (p : Phase ℕ) → l.phase ≡ p → act_in g l.state p ≡ Wants m → Grows t (join g l lq).state.text
      by running run e = event_joins g t l (leg g l.state) (said_running l t h run) m e (end_of lq)
      by done run e = absurd (let z : Stops ≡ Wants m = e in cc)
      by (trapped x) run e = absurd (let z : Stops ≡ Wants m = e in cc)

-- ---- legs of a world

pub listing_same : {L : Type 0} (u v : Entries L) → Listing u ≡ Listing v → u ≡ v
listing_same u v e = cc

module _ (g : CodeRun) (ok : IsVerified g) (w u : Entries (Local ℕ)) (h : IsReached g (Listing w)) where
  abbrev Own : List ℕ → Type 0
  Own t = (l : Local ℕ) × (at_number u 0 ≡ Some ([], Plain l)) × Grows t l.state.text

  own_leg : LegOf (numbered g) w 0 (Listing u) → (l : Local ℕ) → at_number w 0 ≡ Some ([], Plain l) → (t : List ℕ)
      → HasSaid g l t → Own t
  own_leg (went r k k' at is z) l there t said =
      let p = plain_same (at_number w 0) r [] k l at there in
      let e = listing_same u (put_number w 0 (r, Plain k')) z in (
        k',
        ap (λ (x : Entries (Local ℕ)). at_number x 0) e ∙ put_here w 0 (r, Plain k) (r, Plain k') at
            ∙ ap (λ q. Some (q, Plain k')) p.0,
        own_goes g k k' t (subst (λ x. HasSaid g x t) (sym p.1) said) (goes_act g ok (act g k) k' is),
      )
  own_leg (bore r k f c at is z) l there t said =
      let p = plain_same (at_number w 0) r [] k l at there in
      let e = listing_same u _ z in (
        f (length w),
        ap (λ (x : Entries (Local ℕ)). at_number x 0) e
            ∙ at_front (put_number w 0 (r, Plain (f (length w)))) _ 0 (r, Plain (f (length w)))
            (put_here w 0 (r, Plain k) (r, Plain (f (length w))) at)
            ∙ ap (λ q. Some (q, Plain (f (length w)))) p.0,
        own_bears g k f c t (subst (λ x. HasSaid g x t) (sym p.1) said) (bears_act g ok (act g k) f c is) (length w),
      )
  own_leg (took r k m q lq at is found stops z) l there t said =
      let p = plain_same (at_number w 0) r [] k l at there in
      let e = listing_same u (put_number (put_number w 0 (r, Plain (join g k lq))) m (q, Joined lq)) z in
      let apart = (joinees g ok w h 0 r k at m is).1 in (
        join g k lq,
        ap (λ (x : Entries (Local ℕ)). at_number x 0) e
            ∙ put_other (put_number w 0 (r, Plain (join g k lq))) m 0 (q, Joined lq) (λ i. apart (sym i))
            ∙ put_here w 0 (r, Plain k) (r, Plain (join g k lq)) at ∙ ap (λ y. Some (y, Plain (join g k lq))) p.0,
        own_joins g k lq m t (subst (λ x. HasSaid g x t) (sym p.1) said) (wants_act g ok (act g k) m is),
      )
  own_leg (twice r k m at is z) l there t said = absurd (let y : Listing u ≡ Both = z in cc)

  pub own_said : numbers.leg (numbered g) (Listing w) 0 ≡ Some (Listing u) → (l : Local ℕ)
      → at_number w 0 ≡ Some ([], Plain l) → (t : List ℕ) → HasSaid g l t → Own t
  own_said e = own_leg (leg_ways (numbered g) w 0 (Listing u) e)

  pub other_said : (n : ℕ) → n ≢ 0 → numbers.leg (numbered g) (Listing w) n ≡ Some (Listing u) → (l : Local ℕ)
      → at_number w 0 ≡ Some ([], Plain l) → at_number u 0 ≡ Some ([], Plain l)
  other_said n apart e l there = by (legs_change g w u n e 0 [] (Plain l) (λ i. apart (sym i)) there)
    where
      by : (at_number u 0 ≡ Some ([], Plain l))
          ⊎ (Joins (numbered g) w n 0
          × ((k : Local ℕ) × (Plain l ≡ Plain k) × ((numbered g).next k ≡ numbers.Stops)
          × (at_number u 0 ≡ Some ([], Joined k))))
          → at_number u 0 ≡ Some ([], Plain l)
      by (inl z) = z
      by (inr (j, more)) = absurd ((joinees g ok w h n j.0 j.1 j.2 0 j.3).1 refl)

pub legs_say : LegsSay
legs_say g ok w u n h e old (l, there, said) = (
  λ apart. (l, other_said g ok w u h n apart e l there, said),
  λ same new (k, found, says).
      let own =
      own_said g ok w u h (subst (λ i. numbers.leg (numbered g) (Listing w) i ≡ Some (Listing u)) same e) l there old
      said in
      let p = plain_same (at_number u 0) [] [] own.0 k own.1 found in
      grows_on old k.state.text new (subst (λ (x : Local ℕ). Grows old x.state.text) p.1 own.2)
      (said_more g k new says),
)
