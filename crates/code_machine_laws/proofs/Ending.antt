-- What `main` has said is a first part of the text of the outcome, and all of it at the end.
use Rattle.std.proofs.Common.{◌≡◌, ◌≢◌, ◌⊎◌, inl, inr, ◌∙◌, ℕ, ◌+◌, ◌*◌, ◌≤◌, List, [], ◌∷◌, ◌++◌, Option, Some, None, refl, sym, ap, subst}
use Rattle.rev_num.specs.Path.{Path}
use Rattle.rev_num.specs.declared.outcome.Outcome.{Outcome}
use Rattle.rev_num.specs.declared.outcome.Outcome.TheVariants as o
use Rattle.rev_num.specs.declared.outcome.Shown.{Shown}
use Rattle.rev_num.specs.declared.outcome.Trap.{Trap}
use Rattle.revision_machine.specs.Machine.{Entry, Plain}
use Rattle.revision_machine.specs.Laws.{local_of}
use Rattle.revision_machine.specs.Numbered as numbers
use Rattle.revision_machine.specs.Numbered.{Entries, World, Both, Listing, at_number, or_path, paths_of, begin, Replays}
use Rattle.revision_machine.proofs.ByNumber.{schedule_completes}
use Rattle.revision_machine.proofs.Replays.{replays_on}
use Rattle.code_machine.specs.Local.{CodeRun, IsVerified, Phase, running, done, trapped, Local}
use Rattle.code_machine.specs.Machines.{act_in, wish_of, numbered, IsMain, start_in}
use Rattle.code_machine.specs.Outcome.{end_as, outcome, outcome_with, show_all}
use Rattle.code_machine.specs.Proper.{IsOver}
use Rattle.code_machine.proofs.Changes.{decide}
use Rattle.code_machine.proofs.Ending.{none_blocked}
use Rattle.code_machine.proofs.Starting.{entry_bound}
use Rattle.code_machine_laws.specs.Outcomes.{HasOutcome, IsCompleteRun}
use Rattle.code_machine_laws.specs.Reached.{IsReached, most_fuel}
use Rattle.code_machine_laws.proofs.Reaching.{legs_reached, main_stands}
use Rattle.code_machine_laws.specs.Forms.{Grows}
use Rattle.code_machine_laws.proofs.StepTexts.{grows_on, grows_same}
use Rattle.code_machine_laws.specs.Texts.{said, HasSaid, as_it_is, FirstParts, OverIsAll, TwiceIsTold}
use Rattle.code_machine_laws.proofs.Growing.{listing_same, other_said, own_said, plain_same, said_stopped}

-- ---- from a world to the end

none_after : (g : CodeRun) (ks : List ℕ) (u : Entries (Local ℕ)) → Replays (numbered g) Both ks (Listing u) → ⊥
none_after g [] u z = (let y : ◌≡◌ {A = World (Local ℕ)} Both (Listing u) = z in cc)
none_after g (k ∷ ks) u (v, z, more) = (let y : ◌≡◌ {A = Option (World (Local ℕ))} None (Some v) = z in cc)

module _ (g : CodeRun) (ok : IsVerified g) (e : Entries (Local ℕ)) (k : Local ℕ)
    (there : at_number e 0 ≡ Some ([], Plain k)) (stops : (numbered g).next k ≡ numbers.Stops) where
  -- whatever `main` has said in this world comes at the front of what it says at the end
  abbrev Comes : Entries (Local ℕ) → Type 0
  Comes w = (l : Local ℕ) → at_number w 0 ≡ Some ([], Plain l) → (t : List ℕ) → HasSaid g l t → Grows t k.state.text

  pub comes : (ns : List ℕ) (w : Entries (Local ℕ)) → IsReached g (Listing w)
      → Replays (numbered g) (Listing w) ns (Listing e) → Comes w
  comes [] w h r l at t says =
      let same = listing_same w e r in
      let p = plain_same (at_number e 0) [] [] l k (ap (λ (x : Entries (Local ℕ)). at_number x 0) (sym same) ∙ at)
      there in
      grows_same t k.state.text (said_stopped g k t (subst (λ x. HasSaid g x t) p.1 says) stops)
  comes (n ∷ ns) w h (v, one, rest) l at t says = by v one rest (λ u. comes ns u)
    where
      by : (v : World (Local ℕ)) → numbers.leg (numbered g) (Listing w) n ≡ Some v
          → Replays (numbered g) v ns (Listing e)
          → ((u : Entries (Local ℕ)) → IsReached g (Listing u) → Replays (numbered g) (Listing u) ns (Listing e)
          → Comes u)
          → Grows t k.state.text
      by Both one rest more = absurd (none_after g ns e rest)
      by (Listing u) one rest more = go (decide n 0)
        where
          later : Comes u
          later = more u (legs_reached g (Listing w) (Listing u) n h one) rest

          go : (n ≡ 0) ⊎ (n ≢ 0) → Grows t k.state.text
          go (inl z) =
              let own =
              own_said g ok w u h (subst (λ i. numbers.leg (numbered g) (Listing w) i ≡ Some (Listing u)) z one) l at t
              says in
              grows_on t own.0.state.text k.state.text own.2 (later own.0 own.1 own.0.state.text (as_it_is refl))
          go (inr apart) = later l (other_said g ok w u h n apart one l at) t says

-- ---- the text of an outcome

trapped_said : (text : List ℕ) (values : List Shown) (t : Trap) (end : Outcome)
    → Some (o.Trapped text values t) ≡ Some end → said end ≡ text
trapped_said text values t end e = let z : o.Trapped text values t ≡ end = cc in ap said (sym z)

said_of : (path : ℕ → Path) (text : List ℕ) (values : List Shown) (p : Phase ℕ) (end : Outcome)
    → end_as path text values p ≡ Some end → said end ≡ text
said_of path text values done end e = let z : o.Done text values ≡ end = cc in ap said (sym z)
said_of path text values (trapped t) end e = trapped_said text values _ end e
said_of path text values running end e = absurd (let z : ◌≡◌ {A = Option Outcome} None (Some end) = e in cc)

module _ (g : CodeRun) (x : Entries (Local ℕ)) (l : Local ℕ) (there : at_number x 0 ≡ Some ([], Plain l)) where
  pub text_of : (end : Outcome) → outcome g (Listing x) ≡ Some end → said end ≡ l.state.text
  text_of end e =
      let path : ℕ → Path = λ n. or_path (at_number (paths_of x) n) [] in
      said_of path l.state.text (show_all path l.state.locations 0 g.code.vars) l.phase end
      (sym (ap (outcome_with g (paths_of x)) there) ∙ e)

over_stops : (g : CodeRun) (l : Local ℕ) → IsOver l → (numbered g).next l ≡ numbers.Stops
over_stops g l (inl e) = ap (λ p. wish_of (act_in g l.state p)) e
over_stops g l (inr (t, e)) = ap (λ p. wish_of (act_in g l.state p)) e

-- ---- after a schedule

module _ (g : CodeRun) (ok : IsVerified g) (n : ℕ) (m : IsMain g n) (fuel : ℕ) (few : fuel ≤ most_fuel) where
  abbrev Legal : List ℕ → World (Local ℕ) → Type 0
  Legal ns w = Replays (numbered g) (begin (numbered g) (start_in g n m.body fuel)) ns w

  reached : (ns : List ℕ) (w : World (Local ℕ)) → Legal ns w → IsReached g w
  reached ns w h = record { number = n; main = m; fuel = fuel; few = few; schedule = ns; replays = h }

  complete : (ns : List ℕ) (w : World (Local ℕ)) → Legal ns w → ((k : ℕ) → numbers.leg (numbered g) w k ≡ None)
      → IsCompleteRun g fuel ns w
  complete ns w h over = record { block = n; main = m; legal = h; over = over }

  twice_only : (ns : List ℕ) → Legal ns Both → (end : Outcome) → HasOutcome g fuel end → end ≡ o.Twice
  twice_only ns h end has = (let z : Some o.Twice ≡ Some end = has.each ns Both (complete ns Both h (λ k. refl)) in cc)

  module _ (ns : List ℕ) (x : Entries (Local ℕ)) (legal : Legal ns (Listing x)) (end : Outcome)
      (has : HasOutcome g fuel end) where
    module _ (over : (k : ℕ) → numbers.leg (numbered g) (Listing x) k ≡ None) (l : Local ℕ)
        (there : at_number x 0 ≡ Some ([], Plain l)) where
      stopped : (numbered g).next l ≡ numbers.Stops
      stopped = over_stops g l (none_blocked g ok n m fuel ns (Listing x) legal over 0 [] (Plain l) there)

      ends_so : said end ≡ l.state.text
      ends_so = text_of g x l there end (has.each ns (Listing x) (complete ns (Listing x) legal over))

      all_of : (text : List ℕ) → HasSaid g l text → text ≡ said end
      all_of text says = said_stopped g l text says stopped ∙ sym ends_so

  first_of : (ns : List ℕ) (x : Entries (Local ℕ)) → Legal ns (Listing x) → (l : Local ℕ)
      → at_number x 0 ≡ Some ([], Plain l) → (text : List ℕ) → HasSaid g l text
      → (end : Outcome) → HasOutcome g fuel end → end ≢ o.Twice → Grows text (said end)
  first_of ns x legal l there text says end has not =
      let all =
      schedule_completes (numbered g) (start_in g n m.body fuel) (3 * fuel + 2) (entry_bound g ok n m fuel) ns
      (Listing x) legal in
      by all.0 all.1 all.2.replays all.2.over
    where
      by : (ms : List ℕ) (y : World (Local ℕ)) → Replays (numbered g) (Listing x) ms y
          → ((k : ℕ) → numbers.leg (numbered g) y k ≡ None) → Grows text (said end)
      by ms Both r over =
          absurd (not (twice_only (ns ++ ms) (replays_on (numbered g) ns ms _ (Listing x) Both legal r) end has))
      by ms (Listing e) r over =
          let whole : Legal (ns ++ ms) (Listing e) =
          replays_on (numbered g) ns ms (begin (numbered g) (start_in g n m.body fuel)) (Listing x) (Listing e) legal
          r in
          let main = main_stands g ok e (reached (ns ++ ms) (Listing e) whole) in
          let grows =
          comes g ok e main.0 main.1 (stopped (ns ++ ms) e whole end has over main.0 main.1) ms x
          (reached ns (Listing x) legal) r l there text says in
          subst (λ z. Grows text z) (sym (ends_so (ns ++ ms) e whole end has over main.0 main.1)) grows

pub first_parts : FirstParts
first_parts g ok n m fuel few ns w legal x is text says end has not =
    first_of g ok n m fuel few ns x
    (subst (λ z. Replays (numbered g) (begin (numbered g) (start_in g n m.body fuel)) ns z) is legal) says.0 says.1 text
    says.2 end has not

pub over_is_all : OverIsAll
over_is_all g ok n m fuel few ns w legal x is over text says end has =
    all_of g ok n m fuel few ns x
    (subst (λ z. Replays (numbered g) (begin (numbered g) (start_in g n m.body fuel)) ns z) is legal) end has
    (λ k. subst (λ z. numbers.leg (numbered g) z k ≡ None) is (over k)) says.0 says.1 text says.2

-- ---- Twice

never_trapped : (text : List ℕ) (values : List Shown) (t : Trap) → Some (o.Trapped text values t) ≡ Some o.Twice → ⊥
never_trapped text values t e = (let z : o.Trapped text values t ≡ o.Twice = cc in cc)

never_twice : (path : ℕ → Path) (text : List ℕ) (values : List Shown) (p : Phase ℕ)
    → end_as path text values p ≡ Some o.Twice → ⊥
never_twice path text values done e = (let z : o.Done text values ≡ o.Twice = cc in cc)
never_twice path text values (trapped t) e = never_trapped text values _ e
never_twice path text values running e = (let z : ◌≡◌ {A = Option Outcome} None (Some o.Twice) = e in cc)

listing_tells : (g : CodeRun) (x : Entries (Local ℕ)) (y : Option (Path × Entry (Local ℕ)))
    → outcome_with g (paths_of x) y ≡ Some o.Twice → ⊥
listing_tells g x None e = (let z : ◌≡◌ {A = Option Outcome} None (Some o.Twice) = e in cc)
listing_tells g x (Some (p, e)) is =
    let path : ℕ → Path = λ n. or_path (at_number (paths_of x) n) [] in
    let l = local_of e in
    never_twice path l.state.text (show_all path l.state.locations 0 g.code.vars) l.phase is

twice_is_both : (g : CodeRun) (w : World (Local ℕ)) → outcome g w ≡ Some o.Twice → w ≡ Both
twice_is_both g Both e = refl
twice_is_both g (Listing x) e = absurd (listing_tells g x (at_number x 0) e)

pub twice_is_told : TwiceIsTold
twice_is_told g fuel end has = (
  λ never is.
      let run = has.complete in
      never run.block run.main has.schedule has.world run.legal
      (twice_is_both g has.world (has.each has.schedule has.world run ∙ ap Some is)),
  λ not n m ns w legal both.
      let h = subst (λ z. Replays (numbered g) (begin (numbered g) (start_in g n m.body fuel)) ns z) both legal in
      let z : Some o.Twice ≡ Some end =
      has.each ns Both (record { block = n; main = m; legal = h; over = λ k. refl }) in
      not (let y : end ≡ o.Twice = cc in y),
)
