-- Legs and joins are the same whatever a handle is, and a leg keeps the number of forks.
use Rattle.std.proofs.Common.{◌≡◌, ◌∙◌, ℕ, suc, ◌+◌, ◌-◌, ◌*◌, List, [], ◌∷◌, ◌++◌, map, Bool, true, false, Option, Some, None, Result, Ok, Err, refl, sym, ap, subst}
use Rattle.std.proofs.lemmas.List.{map-append}
use Rattle.std.specs.Prelude.{slice_get}
use Rattle.rev_num.specs.declared.value.NumFault.{NumFault}
use Rattle.rev_num.specs.declared.outcome.Cause.{Cause}
use Rattle.rev_num.specs.declared.outcome.Cause.TheVariants as cause
use Rattle.rev_code.specs.declared.code.CodeBlock.{CodeBlock}
use Rattle.rev_code.specs.Words.{Word, rev}
use Rattle.rev_code.specs.State.{Location, Frame, State, forked, joined, seen_at, written_at}
use Rattle.rev_code.specs.Step.{Comes, goes, traps, forks, joins, ends, stuck, reach, value_at}
use Rattle.rev_code.specs.Funs.{values}
use Rattle.rev_code.specs.Events as events
pub use Rattle.code_soundness.proofs.Basics.{and_parts}
use Rattle.code_soundness.specs.Prices.{place, below, leg_prices}
use Rattle.code_soundness.specs.AcceptedCode.{notes_of}
use Rattle.version_map.specs.Composing.{Entry, Composition, composed, and_later, before_later}
use Rattle.code_machine.specs.Local.{CodeRun, under, Trap, Phase, running, done, trapped, Local, at_work, has_ended, End, end_of, written_from, with_entry, of_state}
use Rattle.code_machine.specs.Leg.{longest, clock, leg}
use Rattle.code_machine.specs.Joining.{merges, merges_of, merged_by, merged_there, word_or_fault, main_at, mains, written_all, absorb, origin_of, inherit, join_in, join_end, join}
use Rattle.code_machine.specs.Machines.{Act, Goes, Bears, Wants, Stops, fork, act_of, act_in, act}
use Rattle.code_machine.specs.Renamed.{renamed_handle, renamed_word, renamed_written, renamed_location, renamed_frame, renamed_one, renamed_as, renamed_phase, renamed}
use Rattle.code_machine.proofs.Renaming.{renamed_comes, renamed_answer, reach_same, values_same, seen_same, seen_at_same, written_at_same, first_locals_same, rest_same}
use Rattle.code_machine.proofs.Naming.{state_fixed, all_fixed}

-- ---- legs

module _ {H K : Type 0} (f : H → K) (g : CodeRun) where
  abbrev price_below : {J : Type 0} → List (Frame J) → ℕ
  price_below fs = below g.code (notes_of g.code) (leg_prices (longest g.code.blocks)) fs

  below_same : (fs : List (Frame H)) → price_below (map (renamed_frame f) fs) ≡ price_below fs
  below_same [] = refl
  below_same (x ∷ fs) =
      ap (λ z. place g.code (notes_of g.code) (leg_prices (longest g.code.blocks)) x.block x.at + z) (below_same fs)

  clock_same : (m : ℕ) (c : State H) → clock g (renamed_as f m c) ≡ clock g c
  clock_same m c =
      ap (λ z. 3 * suc (longest g.code.blocks) * c.fuel
      + place g.code (notes_of g.code) (leg_prices (longest g.code.blocks)) c.block c.at + z)
      (below_same c.below)

  pub leg_same : (m : ℕ) (c : State H) → leg g (renamed_as f m c) ≡ renamed_comes f m (leg g c)
  leg_same m c =
      ap (λ k. reach (under g) k (renamed_as f m c)) (clock_same m c)
      ∙ reach_same f g.code g.inputs g.share (values g.code) (values g.code) (values_same f g.code) m (clock g c) c

-- the state of an event has so many forks
abbrev pub HasForks : {H : Type 0} → ℕ → Comes H → Type 0
HasForks n (goes c) = c.forks ≡ n
HasForks n (traps c e) = c.forks ≡ n
HasForks n (forks c k args) = c.forks ≡ n
HasForks n (joins c try h) = c.forks ≡ n
HasForks n (ends c w) = c.forks ≡ n
HasForks n stuck = Unit {0}

pub leg_keeps_forks : {H : Type 0} (g : CodeRun) (c : State H) → HasForks c.forks (leg g c)
leg_keeps_forks {H} g c = by (leg g c) same
  where
    same : renamed_comes (λ h. h) c.forks (leg g c) ≡ leg g c
    same = sym (leg_same (λ h. h) g c.forks c) ∙ ap (leg g) (state_fixed (λ h. h) c (all_fixed (of_state c)))

    by : (o : Comes H) → renamed_comes (λ h. h) c.forks o ≡ o → HasForks c.forks o
    by (goes d) e = (let z : renamed_as (λ h. h) c.forks d ≡ d = cc in sym (ap (λ y. y.forks) z))
    by (traps d x) e = (let z : renamed_as (λ h. h) c.forks d ≡ d = cc in sym (ap (λ y. y.forks) z))
    by (forks d n args) e = (let z : renamed_as (λ h. h) c.forks d ≡ d = cc in sym (ap (λ y. y.forks) z))
    by (joins d try h) e = (let z : renamed_as (λ h. h) c.forks d ≡ d = cc in sym (ap (λ y. y.forks) z))
    by (ends d w) e = (let z : renamed_as (λ h. h) c.forks d ≡ d = cc in sym (ap (λ y. y.forks) z))
    by stuck e = tt

module _ {H K : Type 0} (f : H → K) where
  -- the same act, of the state with other handles
  pub data SameAct : Act H → Act K → Type 0 where
    both_go : (l : Local H) → SameAct (Goes l) (Goes (renamed f l))
    both_bear : (x : H → Local H) (y : K → Local K) (c : Local H) → ((h : H) → y (f h) ≡ renamed f (x h))
        → SameAct (Bears x c) (Bears y (renamed f c))
    both_want : (q : H) → SameAct (Wants q) (Wants (f q))
    both_stop : SameAct Stops Stops

  module _ (g : CodeRun) where
    view_same : (ls : List (Location H))
        → events.view (map (renamed_location f) ls) ≡ map (renamed_location f) (events.view ls)
    view_same [] = refl
    view_same (l ∷ ls) =
        let a = seen_same f l in let b = view_same ls in λ j. record { snapshot = a j; written = None } ∷ b j

    child_same : (m : ℕ) (c : State H) (n : ℕ) (b : CodeBlock) (args : List (Word H))
        → at_work (events.child g.share (renamed_as f m c) n b (map (renamed_word f) args))
        ≡ renamed f (at_work (events.child g.share c n b args))
    child_same m c n b args =
        let locals = first_locals_same f b args in
        let locations = view_same c.locations in
        λ j. at_work (record {
          block = n;
          at = 0;
          locals = locals j;
          stack = [];
          below = [];
          locations = locations j;
          fuel = events.part g.share c.fuel;
          forks = 0;
          listed = [];
          text = [];
          line = 0;
        })

    parent_same : (c : State H) (args : List (Word H)) (h : H)
        → at_work (events.parent g.share (renamed_as f c.forks c) (map (renamed_word f) args) (f h))
        ≡ renamed f (at_work (events.parent g.share c args h))
    parent_same c args h =
        let stack = rest_same f args c.stack in
        let listed = sym (map-append (renamed_one f) c.listed (forked h c.line ∷ [])) in
        λ j. at_work (record (renamed_as f c.forks c) {
          at = suc c.at;
          stack = rev (Some (f h)) ∷ stack j;
          fuel = c.fuel - events.part g.share c.fuel;
          forks = suc c.forks;
          listed = listed j;
        })

    fork_same : (c : State H) (n : ℕ) (args : List (Word H)) (o : Option CodeBlock)
        → SameAct (fork g c n args o) (fork g (renamed_as f c.forks c) n (map (renamed_word f) args) o)
    fork_same c n args None = both_stop
    fork_same c n args (Some b) =
        subst (λ z.
        SameAct (fork g c n args (Some b))
        (Bears (λ k. at_work (events.parent g.share (renamed_as f c.forks c) (map (renamed_word f) args) k)) z))
        (sym (child_same c.forks c n b args))
        (both_bear (λ h. at_work (events.parent g.share c args h))
        (λ k. at_work (events.parent g.share (renamed_as f c.forks c) (map (renamed_word f) args) k))
        (at_work (events.child g.share c n b args)) (parent_same c args))

    -- of an event whose state has these forks
    act_of_same : (m : ℕ) (o : Comes H) → HasForks m o → SameAct (act_of g o) (act_of g (renamed_comes f m o))
    act_of_same m (goes c) e = both_stop
    act_of_same m (traps c x) e =
        subst (λ k. SameAct (act_of g (traps c x)) (act_of g (renamed_comes f k (traps c x)))) e
        (both_go (has_ended c (trapped (record { cause = x; line = c.line; origin = None }))))
    act_of_same m (forks c n args) e =
        subst (λ k. SameAct (act_of g (forks c n args)) (act_of g (renamed_comes f k (forks c n args)))) e
        (fork_same c n args (slice_get g.code.blocks n))
    act_of_same m (joins c try h) e = both_want h
    act_of_same m (ends c w) e =
        subst (λ k. SameAct (act_of g (ends c w)) (act_of g (renamed_comes f k (ends c w)))) e
        (both_go (has_ended c done))
    act_of_same m stuck e = both_stop

    pub act_same : (l : Local H) → SameAct (act g l) (act g (renamed f l))
    act_same l = by l.phase
      where
        by : (p : Phase H)
            → SameAct (act_in g l.state p) (act_in g (renamed_as f l.state.forks l.state) (renamed_phase f p))
        by running = subst (λ z. SameAct (act_of g (leg g l.state)) (act_of g z))
            (sym (leg_same f g l.state.forks l.state))
            (act_of_same l.state.forks (leg g l.state) (leg_keeps_forks g l.state))
        by done = both_stop
        by (trapped t) = both_stop

-- ---- joins

module _ {H K : Type 0} (f : H → K) where
  abbrev renamed_entry : Entry (Word H) → Entry (Word K)
  renamed_entry e = record { location = e.location; value = renamed_word f e.value; root = renamed_word f e.root }

  abbrev renamed_fault : Result (Word H) NumFault → Result (Word K) NumFault
  renamed_fault (Ok w) = Ok (renamed_word f w)
  renamed_fault (Err e) = Err e

  abbrev renamed_composition : Composition (Word H) → Composition (Word K)
  renamed_composition (Ok ws) = Ok (map (renamed_word f) ws)
  renamed_composition (Err e) = Err e

  written_from_same : (n : ℕ) (ls : List (Location H))
      → written_from n (map (renamed_location f) ls) ≡ map renamed_entry (written_from n ls)
  written_from_same n [] = refl
  written_from_same n (l ∷ ls) =
      ap (with_entry n (renamed_written f l.written) (renamed_word f l.snapshot)) (written_from_same (suc n) ls)
      ∙ by l.written
    where
      by : (o : Option (Word H))
          → with_entry n (renamed_written f o) (renamed_word f l.snapshot) (map renamed_entry (written_from (suc n) ls))
          ≡ map renamed_entry (with_entry n o l.snapshot (written_from (suc n) ls))
      by None = refl
      by (Some w) = refl

  main_same : (o : Option (Word H)) → main_at (renamed_written f o) ≡ renamed_word f (main_at o)
  main_same None = refl
  main_same (Some w) = refl

  mains_same : (ls : List (Location H)) (es : List (Entry (Word H)))
      → mains (map (renamed_location f) ls) (map renamed_entry es) ≡ map (renamed_word f) (mains ls es)
  mains_same ls [] = refl
  mains_same ls (e ∷ es) =
      let a = ap main_at (seen_at_same f ls e.location) ∙ main_same (seen_at ls e.location) in
      let b = mains_same ls es in λ j. a j ∷ b j

  written_all_same : (ls : List (Location H)) (es : List (Entry (Word H))) (ws : List (Word H))
      → written_all (map (renamed_location f) ls) (map renamed_entry es) (map (renamed_word f) ws)
      ≡ map (renamed_location f) (written_all ls es ws)
  written_all_same ls [] ws = refl
  written_all_same ls (e ∷ es) [] = refl
  written_all_same ls (e ∷ es) (w ∷ ws) =
      ap (λ z. written_all z (map renamed_entry es) (map (renamed_word f) ws)) (written_at_same f ls e.location w)
      ∙ written_all_same (written_at ls e.location w) es ws

  module _ (g : CodeRun) where
    fault_same : (o : Option (Result (Word H) Cause))
        → word_or_fault (renamed_answer f o) ≡ renamed_fault (word_or_fault o)
    fault_same None = refl
    fault_same (Some (Ok w)) = refl
    fault_same (Some (Err e)) = refl

    merged_by_same : (o : Option ℕ) (x y z : Word H)
        → merged_by (values g.code) o (renamed_word f x) (renamed_word f y) (renamed_word f z)
        ≡ renamed_fault (merged_by (values g.code) o x y z)
    merged_by_same None x y z = refl
    merged_by_same (Some n) x y z =
        ap word_or_fault (values_same f g.code n (x ∷ y ∷ z ∷ []))
        ∙ fault_same (value_at (slice_get (values g.code) n) (x ∷ y ∷ z ∷ []))

    merged_there_same : (o : Option (Option ℕ)) (x y z : Word H)
        → merged_there (values g.code) o (renamed_word f x) (renamed_word f y) (renamed_word f z)
        ≡ renamed_fault (merged_there (values g.code) o x y z)
    merged_there_same None x y z = refl
    merged_there_same (Some o) x y z = merged_by_same o x y z

    before_same : (x : Word H) (c : Composition (Word H))
        → before_later (renamed_word f x) (renamed_composition c) ≡ renamed_composition (before_later x c)
    before_same x (Ok ws) = refl
    before_same x (Err e) = refl

    later_same : (n : ℕ) (r : Result (Word H) NumFault) (c : Composition (Word H))
        → and_later n (renamed_fault r) (renamed_composition c) ≡ renamed_composition (and_later n r c)
    later_same n (Ok x) c = before_same x c
    later_same n (Err e) c = refl

    composed_same : (ms : List (Word H)) (es : List (Entry (Word H)))
        → composed (merges g) (map (renamed_word f) ms) (map renamed_entry es)
        ≡ renamed_composition (composed (merges g) ms es)
    composed_same [] es = refl
    composed_same (m ∷ ms) [] = refl
    composed_same (m ∷ ms) (e ∷ es) =
        let a = merged_there_same (slice_get (merges_of g.code.vars) e.location) m e.value e.root in
        let b = composed_same ms es in
        (λ j. and_later e.location (a j) (b j))
        ∙ later_same e.location (merges g e.location m e.value e.root) (composed (merges g) ms es)

    abbrev renamed_end : End H → End K
    renamed_end e =
        record { written = map renamed_entry e.written; text = e.text; fuel = e.fuel; phase = renamed_phase f e.phase }

    told_same : (try done' : Bool) (ws : List (Word H))
        → events.told try done' (Rattle.std.specs.Prelude.drop 1 (map (renamed_word f) ws))
        ≡ map (renamed_word f) (events.told try done' (Rattle.std.specs.Prelude.drop 1 ws))
    told_same true d [] = refl
    told_same true d (w ∷ ws) = refl
    told_same false d [] = refl
    told_same false d (w ∷ ws) = refl

    noted_same : (c : State H) (h : H)
        → map (renamed_one f) c.listed ++ joined (f h) c.line ∷ []
        ≡ map (renamed_one f) (c.listed ++ joined h c.line ∷ [])
    noted_same c h = sym (map-append (renamed_one f) c.listed (joined h c.line ∷ []))

    absorb_same : (c : State H) (try : Bool) (h : H) (j : End H) (o : Composition (Word H))
        → absorb (renamed_as f c.forks c) try (f h) (renamed_end j) (renamed_composition o)
        ≡ renamed f (absorb c try h j o)
    absorb_same c try h j (Ok ws) =
        let stack = told_same try true c.stack in
        let listed = noted_same c h in
        let locations = written_all_same c.locations j.written ws in
        λ i. at_work (record (renamed_as f c.forks c) {
          at = suc c.at;
          stack = stack i;
          listed = listed i;
          locations = locations i;
          fuel = c.fuel + j.fuel;
          text = c.text ++ j.text;
        })
    absorb_same c try h j (Err e) =
        let listed = noted_same c h in
        λ i. has_ended (record (renamed_as f c.forks c) { listed = listed i })
        (trapped (record { cause = cause.Merge e.0 e.1; line = c.line; origin = None }))

    origin_same : (h : H) (o : Option H) → origin_of (f h) (renamed_handle f o) ≡ f (origin_of h o)
    origin_same h None = refl
    origin_same h (Some x) = refl

    inherit_same : (c : State H) (try : Bool) (h : H) (t : Trap H)
        → inherit (renamed_as f c.forks c) try (f h)
        (record { cause = t.cause; line = t.line; origin = renamed_handle f t.origin })
        ≡ renamed f (inherit c try h t)
    inherit_same c true h t =
        let stack = told_same true false c.stack in
        let listed = noted_same c h in
        λ i. at_work (record (renamed_as f c.forks c) { at = suc c.at; stack = stack i; listed = listed i })
    inherit_same c false h t =
        let listed = noted_same c h in
        let origin = origin_same h t.origin in
        λ i. has_ended (record (renamed_as f c.forks c) { listed = listed i })
        (trapped (record { cause = t.cause; line = t.line; origin = Some (origin i) }))

    join_in_same : (c : State H) (try : Bool) (h : H) (j : End H) (p : Phase H)
        → join_in g (renamed_as f c.forks c) try (f h) (renamed_end j) (renamed_phase f p)
        ≡ renamed f (join_in g c try h j p)
    join_in_same c try h j done =
        ap (λ ms.
        absorb (renamed_as f c.forks c) try (f h) (renamed_end j)
        (composed (merges g) ms (map renamed_entry j.written)))
        (mains_same c.locations j.written)
        ∙ ap (absorb (renamed_as f c.forks c) try (f h) (renamed_end j))
        (composed_same (mains c.locations j.written) j.written)
        ∙ absorb_same c try h j (composed (merges g) (mains c.locations j.written) j.written)
    join_in_same c try h j (trapped t) = inherit_same c try h t
    join_in_same c try h j running = refl

    join_end_same : (l : Local H) (o : Comes H) → HasForks l.state.forks o → (j : End H)
        → join_end g (renamed f l) (renamed_comes f l.state.forks o) (renamed_end j) ≡ renamed f (join_end g l o j)
    join_end_same l (joins c try h) e j =
        subst (λ m.
        join_in g (renamed_as f m c) try (f h) (renamed_end j) (renamed_phase f j.phase)
        ≡ renamed f (join_in g c try h j j.phase))
        e (join_in_same c try h j j.phase)
    join_end_same l (goes c) e j = refl
    join_end_same l (traps c x) e j = refl
    join_end_same l (forks c n args) e j = refl
    join_end_same l (ends c w) e j = refl
    join_end_same l stuck e j = refl

    pub join_same : (l j : Local H) → join g (renamed f l) (renamed f j) ≡ renamed f (join g l j)
    join_same l j =
        let e = leg_same f g l.state.forks l.state in
        let w = written_from_same 0 j.state.locations in
        (λ i. join_end g (renamed f l) (e i)
        (record { written = w i; text = j.state.text; fuel = j.state.fuel; phase = renamed_phase f j.phase }))
        ∙ join_end_same l (leg g l.state) (leg_keeps_forks g l.state) (end_of j)
