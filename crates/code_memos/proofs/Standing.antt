-- What has listed nothing stands before its first instruction, in the state with which it began.
use Rattle.std.proofs.Common.{◌≡◌, ◌∙◌, ◌⊎◌, inl, inr, ℕ, zero, suc, Bool, true, false, List, [], ◌∷◌, ◌++◌, length, take, reverse, replicate, map, Option, Some, None, Ok, Err, refl, sym, ap, subst, arith}
use Rattle.std.proofs.lemmas.Bool.Decides.{nat_tests}
use Rattle.std.proofs.lemmas.List.{map-append}
use Rattle.std.specs.Prelude.{slice_get, nat_le, if◌then◌else◌}
use Rattle.rev_num.specs.Path.{Path, child}
use Rattle.rev_num.specs.declared.value.ValueKind.{ValueKind}
use Rattle.rev_num.proofs.Options.{none_some, some_eq}
use Rattle.rev_code.specs.declared.code.CodeBlock.{CodeBlock}
use Rattle.rev_code.specs.declared.code.CodeVar.{CodeVar}
use Rattle.rev_code.specs.Words.{Word, fits, start_word}
use Rattle.rev_code.specs.State.{Location, State, seen}
use Rattle.rev_code.specs.Variables.{start_locations}
use Rattle.rev_code.specs.Step.{Comes, goes, traps, forks, joins, ends, stuck, only, is_procedure, arguments, params}
use Rattle.rev_code.specs.Events as events
use Rattle.code_rules.specs.Tables.{fits_class, has_result}
use Rattle.code_soundness.proofs.Accepting.{no_fault_accepted}
use Rattle.code_soundness.proofs.Evaluating.{block_well}
use Rattle.code_soundness.proofs.Lists.{and_parts}
use Rattle.code_soundness.proofs.Reaching.{main_bare}
use Rattle.code_machine_laws.specs.Forms.{ComesTo, to_next, to_write, to_payment, to_trap, to_fork, to_join, to_end, to_nothing}
use Rattle.code_machine_laws.proofs.Forms.{holds_of_reach}
use Rattle.version_map.specs.Composing.{Composition, composed}
use Rattle.revision_machine.specs.Machine.{Moves, Forks, Joins, Ended}
use Rattle.revision_machine.specs.Laws.{local_of}
use Rattle.code_memos.specs.Births as births
use Rattle.code_memos.specs.Births.{Born}
use Rattle.code_memos.proofs.News.{IsNew, new_born}
use Rattle.code_machine.specs.Local.{CodeRun, IsVerified, under, Trap, Phase, running, done, trapped, Local, at_work, has_ended, End, end_of}
use Rattle.code_machine.specs.Leg.{leg, clock}
use Rattle.code_machine.specs.Joining.{merges, mains, absorb, inherit, join_in, join_end}
use Rattle.code_machine.specs.Machines.{Act, Goes, Bears, Wants, Stops, fork, act_of, act_in, act, event_of, machine, IsMain, start_in}
use Rattle.code_machine.specs.Proper.{IsProper}
use Rattle.code_machine.proofs.Holding.{of_moves, of_forks, of_joins}
use Rattle.code_machine.proofs.Typing.{over, states_proper}
use Rattle.code_memos.specs.Leaf.{Fresh, IsFresh, unwritten}
use Rattle.code_memos.specs.Memo.{first}
use Rattle.code_memos.specs.Freshness.{IsUnlisted, UnlistedBegins}

not_empty : {A : Type 0} (xs : List A) (y : A) → xs ++ y ∷ [] ≡ [] → ⊥
not_empty [] y e = cc
not_empty (x ∷ xs) y e = cc

only_is : (o : Option CodeBlock) (b c : CodeBlock) → only is_procedure o ≡ Some b → o ≡ Some c → c ≡ b
only_is o b c e f = by (is_procedure c.class) (sym (ap (only is_procedure) f) ∙ e)
  where
    by : (d : Bool) → (if d then Some c else None) ≡ Some b → c ≡ b
    by true e = some_eq e
    by false e = none_some e

module _ (g : CodeRun) {H : Type 0} where
  abbrev Has : State H → Comes H → Type 0
  Has c (forks d n args) =
      (b : CodeBlock) × (only is_procedure (slice_get g.code.blocks n) ≡ Some b)
      × (arguments (params b) d.stack ≡ Some args)
  Has c _ = Unit {0}

  of_form : (c : State H) (o : Comes H) → ComesTo (under g) c o → Has c o
  of_form c o (to_next block at locals stack below text more) = tt
  of_form c o (to_write rest l w) = tt
  of_form c o (to_payment line fuel e) = tt
  of_form c o (to_trap line e) = tt
  of_form c o (to_fork n body args is e) = (body, is, e)
  of_form c o (to_join try h rest e) = tt
  of_form c o (to_end w) = tt
  of_form c o to_nothing = tt

  then_on : (c d : State H) (o : Comes H) → Has c (goes d) → Has d o → Has c o
  then_on c d (forks e n args) x y = y
  then_on c d (joins e try h) x y = tt
  then_on c d (goes e) x y = tt
  then_on c d (traps e z) x y = tt
  then_on c d (ends e w) x y = tt
  then_on c d stuck x y = tt

  leg_has : (c : State H) → Has c (leg g c)
  leg_has c = holds_of_reach (under g) Has of_form then_on (clock g c) c

  -- ---- a child

  fits_if : (kinds : List ValueKind) (xs args : List (Word H)) → (if fits kinds xs then Some xs else None) ≡ Some args
      → fits kinds args ≡ true
  fits_if kinds xs args e = by (fits kinds xs) refl e
    where
      by : (d : Bool) → fits kinds xs ≡ d → (if d then Some xs else None) ≡ Some args → fits kinds args ≡ true
      by true f e = subst (λ z. fits kinds z ≡ true) (some_eq e) f
      by false f e = none_some e

  view_is : (ls : List (Location H)) → events.view ls ≡ unwritten (map seen ls)
  view_is [] = refl
  view_is (l ∷ ls) = ap (λ z. record { snapshot = seen l; written = None } ∷ z) (view_is ls)

  child_fresh : (d : State H) (n : ℕ) (args : List (Word H)) → Has d (forks d n args) → (b : CodeBlock)
      → slice_get g.code.blocks n ≡ Some b → (f : Fresh H) × IsFresh g.code f (events.child g.share d n b args)
  child_fresh d n args has b is =
      let same = only_is (slice_get g.code.blocks n) has.0 b has.1 is in
      let fit = fits_if (params has.0) (reverse (take (length (params has.0)) d.stack)) args has.2 in (
        record { block = n; args = args; snapshot = map seen d.locations; fuel = events.part g.share d.fuel },
        record {
          body = b;
          is = is;
          fits = subst (λ z. fits (params z) args ≡ true) (sym same) fit;
          state = ap (λ ls. events.start n b args ls (events.part g.share d.fuel)) (view_is d.locations);
        },
      )

  -- ---- what a leg leads to

  goes_ends : (o : Comes H) (l : Local H) → act_of g o ≡ Goes l → l.phase ≡ running → ⊥
  goes_ends (traps c e) l h p =
      (let z : Goes (has_ended c (trapped (record { cause = e; line = c.line; origin = None }))) ≡ Goes l = h in
      let w : has_ended c (trapped (record { cause = e; line = c.line; origin = None })) ≡ l = cc in
      let q : trapped (record { cause = e; line = c.line; origin = None }) ≡ running = ap (λ x. x.phase) w ∙ p in
      cc)
  goes_ends (ends c w) l h p =
      (let z : Goes (has_ended c done) ≡ Goes l = h in
      let v : has_ended c done ≡ l = cc in
      let q : done ≡ running = ap (λ x. x.phase) v ∙ p in
      cc)
  goes_ends (goes c) l h p = (let z : Stops ≡ Goes l = h in cc)
  goes_ends stuck l h p = (let z : Stops ≡ Goes l = h in cc)
  goes_ends (joins c try m) l h p = (let z : Wants m ≡ Goes l = h in cc)
  goes_ends (forks c n args) l h p = by (slice_get g.code.blocks n) h
    where
      by : (o : Option CodeBlock) → fork g c n args o ≡ Goes l → ⊥
      by None e = (let z : Stops ≡ Goes l = e in cc)
      by (Some b) e =
          (let z :
          Bears (λ h. at_work (events.parent g.share c args h)) (at_work (events.child g.share c n b args)) ≡ Goes l =
          e in
          cc)

  in_ends : (c : State H) (p : Phase H) (l : Local H) → act_in g c p ≡ Goes l → l.phase ≡ running → ⊥
  in_ends c running l h p = goes_ends (leg g c) l h p
  in_ends c done l h p = (let z : Stops ≡ Goes l = h in cc)
  in_ends c (trapped t) l h p = (let z : Stops ≡ Goes l = h in cc)

  pub record Borne (u : H → Local H) (c : Local H) : Type 0 where
    pub listed : (h : H) → (u h).state.listed ≡ [] → ⊥
    pub fresh : (f : Fresh H) × IsFresh g.code f c.state

  bears_of : (c0 : State H) (o : Comes H) → Has c0 o → (u : H → Local H) (c : Local H) → act_of g o ≡ Bears u c
      → Borne u c
  bears_of c0 (forks d n args) has u c h = by (slice_get g.code.blocks n) refl h
    where
      by : (o : Option CodeBlock) → slice_get g.code.blocks n ≡ o → fork g d n args o ≡ Bears u c → Borne u c
      by None is e = absurd (let z : Stops ≡ Bears u c = e in cc)
      by (Some b) is e =
          let z : Bears (λ k. at_work (events.parent g.share d args k)) (at_work (events.child g.share d n b args))
          ≡ Bears u c = e in
          let v : (λ k. at_work (events.parent g.share d args k)) ≡ u = cc in
          let w : at_work (events.child g.share d n b args) ≡ c = cc in
          record {
            listed = λ k q. not_empty d.listed _ (ap (λ f. (f k).state.listed) v ∙ q);
            fresh = subst (λ x. (f : Fresh H) × IsFresh g.code f x.state) w (child_fresh d n args has b is);
          }
  bears_of c0 (traps d e) has u c h =
      absurd (let z : Goes (has_ended d (trapped (record { cause = e; line = d.line; origin = None }))) ≡ Bears u c =
      h in
      cc)
  bears_of c0 (ends d w) has u c h = absurd (let z : Goes (has_ended d done) ≡ Bears u c = h in cc)
  bears_of c0 (goes d) has u c h = absurd (let z : Stops ≡ Bears u c = h in cc)
  bears_of c0 stuck has u c h = absurd (let z : Stops ≡ Bears u c = h in cc)
  bears_of c0 (joins d try m) has u c h = absurd (let z : Wants m ≡ Bears u c = h in cc)

  bears_in : (c0 : State H) (p : Phase H) (u : H → Local H) (c : Local H) → act_in g c0 p ≡ Bears u c → Borne u c
  bears_in c0 running u c h = bears_of c0 (leg g c0) (leg_has c0) u c h
  bears_in c0 done u c h = absurd (let z : Stops ≡ Bears u c = h in cc)
  bears_in c0 (trapped t) u c h = absurd (let z : Stops ≡ Bears u c = h in cc)

  -- ---- joins

  -- a joiner behind a join of a revision that has ended has listed it
  abbrev Lists : Local H → Type 0
  Lists l = l.state.listed ≡ [] → ⊥

  absorbed : (c : State H) (try : Bool) (h : H) (j : End H) (o : Composition (Word H)) → Lists (absorb c try h j o)
  absorbed c try h j (Ok ws) e = not_empty c.listed _ e
  absorbed c try h j (Err f) e = not_empty c.listed _ e

  inherited : (c : State H) (try : Bool) (h : H) (t : Trap H) → Lists (inherit c try h t)
  inherited c true h t e = not_empty c.listed _ e
  inherited c false h t e = not_empty c.listed _ e

  -- it is not running
  abbrev Ends : Phase H → Type 0
  Ends running = ⊥
  Ends done = Unit {0}
  Ends (trapped t) = Unit {0}

  joined_in : (c : State H) (try : Bool) (h : H) (j : End H) (p : Phase H) → Ends p → Lists (join_in g c try h j p)
  joined_in c try h j done i = absorbed c try h j (composed (merges g) (mains c.locations j.written) j.written)
  joined_in c try h j (trapped t) i = inherited c try h t
  joined_in c try h j running i = absurd i

  joined_end : (l : Local H) (o : Comes H) (q : H) → act_of g o ≡ Wants q → (j : End H) → Ends j.phase
      → Lists (join_end g l o j)
  joined_end l (joins c try h) q a j i = joined_in c try h j j.phase i
  joined_end l (goes c) q a j i = absurd (let z : Stops ≡ Wants q = a in cc)
  joined_end l (traps c e) q a j i =
      absurd (let z : Goes (has_ended c (trapped (record { cause = e; line = c.line; origin = None }))) ≡ Wants q = a in
      cc)
  joined_end l (forks c n args) q a j i = by (slice_get g.code.blocks n) a
    where
      by : (o : Option CodeBlock) → fork g c n args o ≡ Wants q → Lists l
      by None e = absurd (let z : Stops ≡ Wants q = e in cc)
      by (Some b) e =
          absurd (let z :
          Bears (λ h. at_work (events.parent g.share c args h)) (at_work (events.child g.share c n b args)) ≡ Wants q =
          e in
          cc)
  joined_end l (ends c w) q a j i = absurd (let z : Goes (has_ended c done) ≡ Wants q = a in cc)
  joined_end l stuck q a j i = absurd (let z : Stops ≡ Wants q = a in cc)

  wants_leg : (c : State H) (p : Phase H) (q : H) → act_in g c p ≡ Wants q → act_of g (leg g c) ≡ Wants q
  wants_leg c running q e = e
  wants_leg c done q e = absurd (let z : Stops ≡ Wants q = e in cc)
  wants_leg c (trapped t) q e = absurd (let z : Stops ≡ Wants q = e in cc)

  over_ends : (p : Phase H) → (p ≡ done) ⊎ ((t : Trap H) × (p ≡ trapped t)) → Ends p
  over_ends p (inl e) = subst Ends (sym e) tt
  over_ends p (inr e) = subst Ends (sym e.1) tt

-- ---- the start

main_takes_none : (g : CodeRun) → IsVerified g → (n : ℕ) (m : IsMain g n) → params m.body ≡ []
main_takes_none g ok n m =
    let b = m.body in
    let h = (and_parts (fits_class b.class b.params (has_result b)) (nat_le b.params (length b.locals))
    (block_well g.code (no_fault_accepted g.code ok).named n b m.is)).0 in
    let e = main_bare b.class b.params (has_result b) m.class h in
    let z : b.params ≡ 0 = grind (arith, nat_tests, e) in
    ap (λ u. take u b.locals) z

module _ {H : Type 0} where
  abbrev start_words : List CodeVar → List (Word H)
  start_words [] = []
  start_words (v ∷ vs) = replicate v.cells (start_word v.kind v.start) ++ start_words vs

  abbrev plain_location : Word H → Location H
  plain_location w = record { snapshot = w; written = None }

  map_replicate : (n : ℕ) (w : Word H) → map plain_location (replicate n w) ≡ replicate n (plain_location w)
  map_replicate zero w = refl
  map_replicate (suc n) w = ap (λ z. plain_location w ∷ z) (map_replicate n w)

  starts : (vs : List CodeVar) → start_locations vs ≡ unwritten (start_words vs)
  starts [] = refl
  starts (v ∷ vs) =
      (λ j. sym (map_replicate v.cells (start_word v.kind v.start)) j ++ starts vs j)
      ∙ sym (map-append plain_location (replicate v.cells (start_word v.kind v.start)) (start_words vs))

  first_fresh : (g : CodeRun) → IsVerified g → (n : ℕ) (m : IsMain g n) (fuel : ℕ)
      → (f : Fresh H) × IsFresh g.code f (start_in g n m.body fuel).state
  first_fresh g ok n m fuel = (
    record { block = n; args = []; snapshot = start_words g.code.vars; fuel = fuel },
    record {
      body = m.body;
      is = m.is;
      fits = ap (λ ks. fits {H = H} ks []) (main_takes_none g ok n m);
      state = ap (λ ls. events.start n m.body [] ls fuel) (starts g.code.vars);
    },
  )

-- ---- by paths

ended_act : (r : Path) (k : ℕ) (a : Act Path) → event_of r k a ≡ Ended → a ≡ Stops
ended_act r k (Goes l) e = absurd (let z : Moves l ≡ Ended = e in cc)
ended_act r k (Bears u c) e = absurd (let z : Forks (u (child r k)) c ≡ Ended = e in cc)
ended_act r k (Wants q) e = absurd (let z : Joins q ≡ Ended = e in cc)
ended_act r k Stops e = refl

module _ (g : CodeRun) (ok : IsVerified g) where
  -- no event leads to an unlisted revision, where each is proper
  news : IsNew (machine g) (λ r l. IsProper g l) (λ l. IsUnlisted l)
  news = record {
    moves = λ r l l' p does u. in_ends g l.state l.phase l' (of_moves r l.state.forks (act g l) l' does) u.0;
    forker = λ r l l' c p does u.
        let b = of_forks r l.state.forks (act g l) l' c does in
        (bears_in g l.state l.phase b.0 c b.1).listed (child r l.state.forks) (ap (λ z. z.state.listed) b.2 ∙ u.1);
    joins = λ r q l lq p o does ends u.
        joined_end g l (leg g l.state) q (wants_leg g l.state l.phase q (of_joins r l.state.forks (act g l) q does))
        (end_of lq)
        (over_ends g lq.phase (over g ok lq o (ended_act q lq.state.forks (act g lq) ends))) u.1;
  }

  module _ (n : ℕ) (m : IsMain g n) (fuel : ℕ) where
    born_fresh : (r : Path) (l : Local Path) → Born (machine g) (first g n m fuel) r l
        → (f : Fresh Path) × IsFresh g.code f l.state
    born_fresh r l (births.first is same) =
        subst (λ x. (f : Fresh Path) × IsFresh g.code f x.state) (sym same) (first_fresh g ok n m fuel)
    born_fresh r l (births.forked f) =
        let b = of_forks f.forker f.before.state.forks (act g f.before) f.after l f.forks in
        (bears_in g f.before.state f.before.phase b.0 l b.1).fresh

pub unlisted_begins : UnlistedBegins
unlisted_begins g ok n m fuel revs reached r e there u =
    let born =
    new_born (machine g) (first g n m fuel) (λ r l. IsProper g l) (states_proper g ok n m fuel) (λ l. IsUnlisted l)
    (news g ok) revs reached r e there u in
    let f = born_fresh g ok n m fuel r (local_of e) born in
    record { born = born; begins = f.0; fresh = f.1 }
