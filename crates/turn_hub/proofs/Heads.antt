-- What comes first at a moment of a turn, and what the seat does with it.
use Rattle.std.proofs.Common.{◌≡◌, ◌≢◌, inl, inr, ℕ, ◌+◌, Bool, true, false, cond, List, [], ◌∷◌, ◌++◌, refl, sym, ap, ◌∙◌, subst, arith, Option, Some, None}
use Rattle.revision_machine.specs.Numbered.{at_number, put_number}
use Rattle.revision_machine.proofs.Numbers.{none_some}
use Rattle.revision_machine.proofs.Lists.{put_other}
use Rattle.hub_core.specs.declared.status.Status.{Status}
use Rattle.hub_core.specs.declared.status.Status.TheVariants.{Ready, Out, Waiting, Over, Gone}
use Rattle.hub_core.specs.declared.deed.Deed.{Deed}
use Rattle.hub_core.specs.declared.deed.Deed.TheVariants.{Commits, HandsIn, Draws}
use Rattle.hub_core.specs.declared.run_queue.Chain.{Chain}
use Rattle.hub_core.specs.declared.state.HubState.TheVariants.{All}
use Rattle.hub_core.specs.declared.view.View.{View}
use Rattle.hub_core.specs.declared.journal.Journal.{Journal}
use Rattle.hub_core.specs.Journaled.{HasRoomFor}
use Rattle.hub_core.specs.HubMachine.{HubMachine}
use Rattle.hub_core.specs.Chains.{IsWay, IsList}
use Rattle.hub_core.specs.Counts.{times}
use Rattle.hub_core.specs.Found.{is_ready, ended_here}
use Rattle.hub_core.specs.Marks.{first_in}
use Rattle.hub_core.specs.Rule.{is_out, says}
use Rattle.hub_core.specs.Rounds.{stamped}
use Rattle.hub_core.specs.Tally.{entered, do_all, CanDo}
use Rattle.hub_core.specs.Views.{commits, hands_in, draws, rests}
use Rattle.hub_core.proofs.Lists.{is_at_same}
use Rattle.hub_core.proofs.Passes.{pass_behind}
use Rattle.hub_core.proofs.Slots.{no_more}
use Rattle.hub_core.proofs.Moments.{Moment, draw_moment, retry_moment, join_moment}
use Rattle.turn_hub.specs.Answers.{Ran, Retried, IsNoneReady}
use Rattle.turn_hub.proofs.Says.{says_some, says_ended, says_ready}
use Rattle.turn_hub.specs.declared.coming.Coming.{Coming}
use Rattle.turn_hub.specs.declared.coming.Coming.TheVariants as coming
use Rattle.turn_hub.specs.Comings.{head_of, first_or, coming_deeds, coming_slots}
use Rattle.turn_hub.proofs.Draws.{CanDraw}

-- ---- lists of numbers

-- the first of a list through links
pub list_head : (links : List ℕ) (o : Option Chain) (ns : List ℕ) → IsList links o ns → first_in o ≡ head_of ns
list_head links None ns l = ap head_of (sym l)
list_head links (Some chain) ns l = by l.front l.way ∙ ap head_of (sym l.is)
  where
    by : (front : List ℕ) → IsWay links chain.first front chain.last
        → Some chain.first ≡ head_of (front ++ chain.last ∷ [])
    by [] way = ap Some way
    by (x ∷ front) way = ap Some way.1

pub head_append : (xs ys : List ℕ) → head_of (xs ++ ys) ≡ first_or (head_of xs) (head_of ys)
head_append [] ys = refl
head_append (x ∷ xs) ys = refl

pub head_none : (ns : List ℕ) → head_of ns ≡ None → ns ≡ []
head_none [] e = refl
head_none (m ∷ ns) e = none_some (sym e)

-- ---- deeds one after another

module _ {L : Type 0} where
  pub do_append : (ds es : List Deed) (u : View L) → do_all (ds ++ es) u ≡ do_all es (do_all ds u)
  do_append [] es u = refl
  do_append (Commits k ∷ ds) es u = do_append ds es (commits k u)
  do_append (HandsIn k ∷ ds) es u = do_append ds es (hands_in k u)
  do_append (Draws k ∷ ds) es u = do_append ds es (draws k u)

  pub can_append : (ds es : List Deed) (u : View L) → CanDo ds u → CanDo es (do_all ds u) → CanDo (ds ++ es) u
  can_append [] es u can later = later
  can_append (Commits k ∷ ds) es u can later = (can.0, can_append ds es (commits k u) can.1 later)
  can_append (HandsIn k ∷ ds) es u can later = (can.0, can_append ds es (hands_in k u) can.1 later)
  can_append (Draws k ∷ ds) es u can later = (can.0, can_append ds es (draws k u) can.1 later)

pub entered_append : (ds es : List Deed) → entered (ds ++ es) ≡ entered ds ++ entered es
entered_append [] es = refl
entered_append (Commits k ∷ ds) es = ap (λ l. k ∷ l) (entered_append ds es)
entered_append (HandsIn k ∷ ds) es = entered_append ds es
entered_append (Draws k ∷ ds) es = entered_append ds es

pub stamped_append : (n : ℕ) (xs ys : List ℕ) → stamped n (xs ++ ys) ≡ stamped n xs ++ stamped n ys
stamped_append n [] ys = refl
stamped_append n (x ∷ xs) ys = ap (λ l. (n, x) ∷ l) (stamped_append n xs ys)

-- room for two entries is room for one behind the end of a revision
pub room_one : {E : Type 0} (b : Bool) (j : Journal E) → HasRoomFor 2 j → HasRoomFor (1 + cond b 0 1) j
room_one true j h = let a = h.0 in let b = h.1 in (omega arith, omega arith)
room_one false j h = h

module _ {L R A E : Type 0} (d : HubMachine L R A E) (ends : E → L → Type 0) where
  abbrev Slots : Type 0
  Slots = List (Status R A E)

  -- ---- what was ready is so still, where a revision that seats have is handed in

  ended_on : (slots : Slots) (k : ℕ) (x : Status R A E) (m : ℕ) → at_number slots k ≡ Some Out
      → ended_here (at_number slots m) ≡ true → ended_here (at_number (put_number slots k x) m) ≡ true
  ended_on slots k x m out e = ap ended_here (put_other slots k m x apart) ∙ e
    where
      apart : m ≢ k
      apart is = no_more (sym (ap ended_here (ap (at_number slots) is ∙ out)) ∙ e)

  pub ready_on : (slots : Slots) (k : ℕ) (x : Status R A E) (n : ℕ) → at_number slots k ≡ Some Out
      → is_ready d slots (at_number slots n) ≡ true
      → is_ready d (put_number slots k x) (at_number (put_number slots k x) n) ≡ true
  ready_on slots k x n out e =
      ap (is_ready d (put_number slots k x)) (put_other slots k n x apart) ∙ by (at_number slots n) e
    where
      apart : n ≢ k
      apart is = no_more (sym (ap (is_ready d slots) (ap (at_number slots) is ∙ out)) ∙ e)

      by : (o : Option (Status R A E)) → is_ready d slots o ≡ true → is_ready d (put_number slots k x) o ≡ true
      by None h = no_more h
      by (Some (Ready r)) h = refl
      by (Some Out) h = no_more h
      by (Some (Waiting a)) h = ended_on slots k x (d.on a) out h
      by (Some (Over i)) h = no_more h
      by (Some Gone) h = no_more h

  -- ---- what comes is taken

  abbrev pub ComesAt : Slots → Coming → Type 0
  ComesAt slots coming.Nobody = Unit {0}
  ComesAt slots (coming.Takes n) = (y : Status R A E) × (at_number slots n ≡ Some y) × CanDraw d ends slots y
  ComesAt slots (coming.Claims n j) =
      (a : A) × (at_number slots n ≡ Some (Waiting a)) × (d.on a ≡ j)
      × ((e : E) × (at_number slots j ≡ Some (Over e)))
  ComesAt slots (coming.Stops n) = ⊥

  -- a joiner is none that it joins
  pub still_over : (slots : Slots) (n : ℕ) (a : A) (x : Status R A E) → at_number slots n ≡ Some (Waiting a)
      → ended_here (Some x) ≡ true → at_number slots (d.on a) ≡ Some x
      → at_number (put_number slots n Out) (d.on a) ≡ Some x
  still_over slots n a x waits ended over = put_other slots n (d.on a) Out apart ∙ over
    where
      apart : d.on a ≢ n
      apart is =
          no_more (ap ended_here (sym waits ∙ (ap (at_number slots) (sym is) ∙ over)) ∙ ended)

  module _ (start : L) (u : View L) (slots : Slots) (fs lone mine : List ℕ) (m : Moment d ends start u slots fs lone
      mine) where
    pub draw_free : (n : ℕ) (y : Status R A E) → at_number slots n ≡ Some y → CanDraw d ends slots y
        → times n u.out ≡ 0
    draw_free n (Ready r) e h = m.outs n ∙ ap is_out e
    draw_free n Out e h = absurd h
    draw_free n (Waiting a) e h = m.outs n ∙ ap is_out e
    draw_free n (Over i) e h = absurd h
    draw_free n Gone e h = absurd h

    pub drawn_moment : (n : ℕ) (y : Status R A E) → at_number slots n ≡ Some y → CanDraw d ends slots y
        → Moment d ends start (draws n u) (put_number slots n Out) fs lone mine
    drawn_moment n (Ready r) e h =
        (draw_moment d ends start u slots fs lone mine m n r lone mine e (λ j. omega arith) (λ j. omega arith)).0
    drawn_moment n Out e h = absurd h
    drawn_moment n (Waiting a) e h = (retry_moment d ends start u slots fs lone mine m n a e).0
    drawn_moment n (Over i) e h = absurd h
    drawn_moment n Gone e h = absurd h

    pub comes_moment : (c : Coming) → ComesAt slots c
        → CanDo (coming_deeds c) u × Moment d ends start (do_all (coming_deeds c) u) (coming_slots c slots) fs lone mine
    comes_moment coming.Nobody h = (tt, m)
    comes_moment (coming.Takes n) h = ((draw_free n h.0 h.1 h.2, tt), drawn_moment n h.0 h.1 h.2)
    comes_moment (coming.Claims n j) h =
        let a = h.0 in
        let over : at_number slots (d.on a) ≡ Some (Over h.3.0) = ap (at_number slots) h.2 ∙ h.3.1 in
        let got = retry_moment d ends start u slots fs lone mine m n a h.1 in
        let one = is_at_same n in
        let both =
        join_moment d ends start (draws n u) (put_number slots n Out) fs lone mine got.0 n a h.3.0 (omega arith) got.1
        (still_over slots n a (Over h.3.0) h.1 refl over) in (
          (m.outs n ∙ ap is_out h.1, (omega arith, tt)),
          subst
              (λ i. Moment d ends start (commits n (draws n u)) (put_number
              (put_number slots n Out) i Gone) fs lone mine)
              h.2 both.0,
        )
    comes_moment (coming.Stops n) h = absurd h

    -- ---- what is told of it

    module _ (free : u.entered ≡ All) (begun : u.start ≡ Some start) where
      pub first_ran : (n : ℕ) (r : R) → at_number slots n ≡ Some (Ready r) → d.runner_group r ≡ u.group
          → Ran d ends (says d ends slots) (rests u) (rests (draws n u)) n r
      first_ran n r e group =
          let got =
          draw_moment d ends start u slots fs lone mine m n r lone mine e (λ j. omega arith) (λ j. omega arith) in
          record {
            free = free;
            keeps = (
              (refl, refl, refl),
              λ j at ne p. inr p,
              λ j at ne p. pass_behind (n, u.log) u.passes j at p ne,
              λ q. refl,
            );
            was = says_some d ends slots n (Ready r) e;
            state = (start, u.log, begun, inl (refl, refl), got.1);
            group = group;
          }

      pub first_retried : (n : ℕ) (a : A) → at_number slots n ≡ Some (Waiting a)
          → ended_here (at_number slots (d.on a)) ≡ true → d.joiner_group a ≡ u.group
          → Retried d ends (says d ends slots) (rests u) (rests (draws n u)) n a
      first_retried n a e ended group =
          let got = retry_moment d ends start u slots fs lone mine m n a e in
          record {
            free = free;
            keeps = (
              (refl, refl, refl),
              λ j at ne p. inr p,
              λ j at ne p. pass_behind (n, u.log) u.passes j at p ne,
              λ q. refl,
            );
            was = says_some d ends slots n (Waiting a) e;
            ended = says_ended d ends slots (d.on a) ∙ ended;
            event = (start, u.log, begun, inl (refl, refl), got.1);
            group = group;
          }

      pub first_none : ((j : ℕ) → is_ready d slots (at_number slots j) ≡ false)
          → IsNoneReady d ends (says d ends slots) (rests u) (rests u)
      first_none none = record {
        free = free;
        keeps = ((refl, refl, refl), refl, λ q. refl);
        none_ready = λ j. says_ready d ends slots j ∙ none j;
      }
