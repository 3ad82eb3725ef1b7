-- Each revision of a world of verified code is proper: legs keep it, and so do joins.
use Rattle.std.proofs.Common.{◌≡◌, ◌⊎◌, inl, inr, ◌∙◌, ℕ, zero, suc, ◌+◌, ℤ, Bool, true, false, List, [], ◌∷◌, ◌++◌, length, replicate, Option, Some, None, Result, Ok, Err, refl, sym, ap, subst, arith}
use Rattle.std.specs.Prelude.{slice_get, if◌then◌else◌}
use Rattle.rev_num.specs.Path.{Path, child}
use Rattle.rev_num.specs.declared.value.ValueKind.{ValueKind}
use Rattle.rev_num.specs.declared.value.ValueKind.TheVariants as k
use Rattle.rev_num.specs.declared.value.NumFault.{NumFault}
use Rattle.rev_num.specs.declared.outcome.Cause.{Cause}
use Rattle.rev_num.proofs.Options.{none_some, some_eq}
use Rattle.rev_code.specs.declared.code.CodeBlock.{CodeBlock}
use Rattle.rev_code.specs.declared.code.CodeVar.{CodeVar}
use Rattle.rev_code.specs.Words.{Word, int, bool, rev, kind_of}
use Rattle.rev_code.specs.State.{Location, State, seen_at, written_at}
use Rattle.rev_code.specs.Step.{Comes, goes, traps, forks, joins, ends, stuck, step, value_at}
use Rattle.rev_code.specs.Funs.{values}
use Rattle.rev_code.specs.Events as events
use Rattle.code_soundness.specs.AcceptedCode.{notes_of}
use Rattle.code_soundness.specs.Typed.{AreLocations, location_kinds, IsRevision}
use Rattle.code_soundness.specs.Funs.{HasValue}
use Rattle.code_soundness.specs.Safe.{IsForked}
use Rattle.code_soundness.proofs.Evaluating.{merge_kind, merge_value}
use Rattle.code_soundness.proofs.Reaching.{main_starts, is_safe}
use Rattle.code_soundness.proofs.Variables.{seen_there, written_there}
use Rattle.revision_machine.specs.Machine.{Entry, Plain, Joined}
use Rattle.revision_machine.specs.Conditions.{IsKept}
use Rattle.revision_machine.specs.Laws.{local_of}
use Rattle.revision_machine.specs.Numbered as numbers
use Rattle.revision_machine.specs.Numbered.{Entries, World, Listing, at_number, put_number, begin, Replays}
use Rattle.revision_machine.proofs.KeptByEvents.{kept_law}
use Rattle.version_map.specs.Composing.{Entry as Changed, Composition, composed, and_later}
use Rattle.code_machine.specs.Local.{CodeRun, IsVerified, under, Trap, Phase, running, done, trapped, Local, at_work, has_ended, end_of, written_from, with_entry}
use Rattle.code_machine.specs.Leg.{leg, HasLeg}
use Rattle.code_machine.specs.Joining.{merge_in, merges_of, merges, merged_there, word_or_fault, main_at, mains, written_all, absorb, join_in, join_end, join}
use Rattle.code_machine.specs.Machines.{Act, Goes, Bears, Wants, Stops, fork, act_of, act_in, act, wish_of, machine, numbered, IsMain, start_in}
use Rattle.code_machine.specs.Ends.{IsEntry, AreEntries}
use Rattle.code_machine.specs.Proper.{IsProper, EachEntry, IsOver, StatesAreProper, WorldsAreProper, StopsWhereOver}
use Rattle.code_machine.proofs.Legs.{accepted, has_leg}
use Rattle.code_machine.proofs.Events.{IsAt, stands}
use Rattle.code_machine.proofs.Holding.{of_moves, of_forks, of_joins}
use Rattle.code_machine.proofs.Changes.{LegOf, went, bore, took, twice, leg_ways}
use Rattle.revision_machine.proofs.Lists.{at_put, at_more}
use Rattle.revision_machine.proofs.Replays.{replays_keep}

-- ---- the merge of a location

record IsMerged (vs : List CodeVar) (block : ℕ) (kind : ValueKind) : Type 0 where
  number : ℕ
  var : CodeVar
  is : slice_get vs number ≡ Some var
  cumulative : var.cumulative ≡ true
  merge : var.merge ≡ block
  same : var.kind ≡ kind

pub merged_var : (v : CodeVar) (block : ℕ) → merge_in v ≡ Some block → (v.cumulative ≡ true) × (v.merge ≡ block)
merged_var v block e = by v.cumulative refl e
  where
    by : (d : Bool) → v.cumulative ≡ d → (if d then Some v.merge else None) ≡ Some block
        → (v.cumulative ≡ true) × (v.merge ≡ block)
    by true is e = (is, some_eq e)
    by false is e = none_some e

merge_there : (vs : List CodeVar) (n block : ℕ) (kind : ValueKind) → slice_get (merges_of vs) n ≡ Some (Some block)
    → slice_get (location_kinds vs) n ≡ Some kind → IsMerged vs block kind
merge_there [] n block kind e h = none_some e
merge_there (v ∷ vs) n block kind e h = by v.cells n (λ m a b. merge_there vs m block kind a b) e h
  where
    by : (cells m : ℕ)
        → ((m : ℕ) → slice_get (merges_of vs) m ≡ Some (Some block) → slice_get (location_kinds vs) m ≡ Some kind
        → IsMerged vs block kind)
        → slice_get (replicate cells (merge_in v) ++ merges_of vs) m ≡ Some (Some block)
        → slice_get (replicate cells v.kind ++ location_kinds vs) m ≡ Some kind → IsMerged (v ∷ vs) block kind
    by zero m rec e h =
        let r = rec m e h in record {
          number = suc r.number;
          var = r.var;
          is = r.is;
          cumulative = r.cumulative;
          merge = r.merge;
          same = r.same;
        }
    by (suc cells) zero rec e h =
        let p = merged_var v block (some_eq e) in
        record { number = zero; var = v; is = refl; cumulative = p.0; merge = p.1; same = some_eq h }
    by (suc cells) (suc m) rec e h = by cells m rec e h

module _ {H : Type 0} where
  an_int : (w : Word H) → kind_of w ≡ k.Int → (z : ℤ) × (w ≡ int z)
  an_int (int z) e = (z, refl)
  an_int (bool b) e = absurd (let c : k.Bool ≡ k.Int = e in cc)
  an_int (rev h) e = absurd (let c : k.Rev ≡ k.Int = e in cc)

  value_kind : (o : Option (Result (Word H) Cause)) (w : Word H) → HasValue (Some k.Int) o → word_or_fault o ≡ Ok w
      → kind_of w ≡ k.Int
  value_kind (Some (Ok x)) w h e =
      (let z : x ≡ w = (let c : Ok x ≡ Ok w = e in cc) in ap kind_of (sym z) ∙ sym (some_eq h))
  value_kind (Some (Err x)) w h e = absurd (let c : Err (Rattle.code_machine.specs.Joining.fault_of x) ≡ Ok w = e in cc)
  value_kind None w h e = absurd h

module _ (g : CodeRun) (ok : IsVerified g) {H : Type 0} where
  pub merge_defined : (n block : ℕ) (kind : ValueKind) → slice_get (merges_of g.code.vars) n ≡ Some (Some block)
      → slice_get (location_kinds g.code.vars) n ≡ Some kind
      → (x y z : Word H) → kind_of x ≡ kind → kind_of y ≡ kind → kind_of z ≡ kind
      → HasValue (Some k.Int) (value_at (slice_get (values g.code) block) (x ∷ y ∷ z ∷ []))
  merge_defined n block kind is at x y z a b c =
      let m = merge_there g.code.vars n block kind is at in
      let to : kind ≡ k.Int =
      sym m.same ∙ merge_kind g.code (notes_of g.code) (accepted g ok) m.number m.var m.is m.cumulative in
      let p = an_int x (a ∙ to) in
      let q = an_int y (b ∙ to) in
      let r = an_int z (c ∙ to) in
      let v = merge_value g.code (notes_of g.code) (accepted g ok) m.number m.var m.is m.cumulative H p.0 q.0 r.0 in
      let s = p.1 in
      let t = q.1 in
      let u = r.1 in
      let d = m.merge in
      subst (HasValue (Some k.Int)) (λ i. value_at (slice_get (values g.code) (d i)) (sym s i ∷ sym t i ∷ sym u i ∷ []))
      v

  -- what a merge gives has its location's kind
  pub new_kind : (n : ℕ) (kind : ValueKind) (x y z w : Word H) → slice_get (location_kinds g.code.vars) n ≡ Some kind
      → kind_of x ≡ kind → kind_of y ≡ kind → kind_of z ≡ kind → merges g n x y z ≡ Ok w → kind_of w ≡ kind
  new_kind n kind x y z w at a b c e = by (slice_get (merges_of g.code.vars) n) refl e
    where
      joined : ◌≡◌ {A = Result (Word H) NumFault} (Ok y) (Ok w) → kind_of w ≡ kind
      joined e = (let s : y ≡ w = cc in ap kind_of (sym s) ∙ b)

      by : (o : Option (Option ℕ)) → slice_get (merges_of g.code.vars) n ≡ o
          → merged_there (values g.code) o x y z ≡ Ok w → kind_of w ≡ kind
      by None is e = joined e
      by (Some None) is e = joined e
      by (Some (Some block)) is e =
          let m = merge_there g.code.vars n block kind is at in
          let an : kind ≡ k.Int =
          sym m.same ∙ merge_kind g.code (notes_of g.code) (accepted g ok) m.number m.var m.is m.cumulative in
          value_kind (value_at (slice_get (values g.code) block) (x ∷ y ∷ z ∷ [])) w
          (merge_defined n block kind is at x y z a b c) e
          ∙ sym an

  -- ---- entries

  abbrev Fits : Changed (Word H) → Type 0
  Fits e = IsEntry (location_kinds g.code.vars) e

  abbrev AllFit : List (Changed (Word H)) → Type 0
  AllFit es = AreEntries (location_kinds g.code.vars) es

  pub written_fit : (n : ℕ) (ks : List ValueKind) (ls : List (Location H))
      → ((i : ℕ) → slice_get (location_kinds g.code.vars) (n + i) ≡ slice_get ks i) → AreLocations ks ls
      → AllFit (written_from n ls)
  written_fit n [] [] at h = tt
  written_fit n [] (l ∷ ls) at h = absurd h
  written_fit n (x ∷ ks) [] at h = absurd h
  written_fit n (x ∷ ks) (l ∷ ls) at h = by l.written refl (written_fit (suc n) ks ls later h.1)
    where
      later : (i : ℕ) → slice_get (location_kinds g.code.vars) (suc n + i) ≡ slice_get ks i
      later i = ap (slice_get (location_kinds g.code.vars)) (let z : suc n + i ≡ n + suc i = omega arith in z)
          ∙ at (suc i)

      here : slice_get (location_kinds g.code.vars) n ≡ Some x
      here = ap (slice_get (location_kinds g.code.vars)) (let z : n ≡ n + 0 = omega arith in z) ∙ at zero

      by : (o : Option (Word H)) → l.written ≡ o → AllFit (written_from (suc n) ls)
          → AllFit (with_entry n o l.snapshot (written_from (suc n) ls))
      by None e rest = rest
      by (Some w) e rest = (record { kind = x; there = here; value = h.0.written w e; root = h.0.snapshot }, rest)

  later_ok : (n : ℕ) (r : Result (Word H) NumFault) (c : Composition (Word H)) (ws : List (Word H))
      → and_later n r c ≡ Ok ws → (w : Word H) × (us : List (Word H)) × (r ≡ Ok w) × (c ≡ Ok us) × (ws ≡ w ∷ us)
  later_ok n (Ok w) (Ok us) ws e =
      (w, us, refl, refl, (let z : Ok (w ∷ us) ≡ Ok ws = e in let y : w ∷ us ≡ ws = cc in sym y))
  later_ok n (Ok w) (Err f) ws e = absurd (let z : Err f ≡ Ok ws = e in cc)
  later_ok n (Err f) c ws e = absurd (let z : Err (n, f) ≡ Ok ws = e in cc)

  -- the joiner's words there have the kinds, since its locations have them
  main_kind : (ls : List (Location H)) → AreLocations (location_kinds g.code.vars) ls
      → (e : Changed (Word H)) (f : Fits e) → kind_of (main_at (seen_at ls e.location)) ≡ f.kind
  main_kind ls h e f =
      let s = seen_there (location_kinds g.code.vars) ls e.location f.kind h f.there in
      ap (λ o. kind_of (main_at o)) s.1 ∙ s.2

  written_kinds : (es : List (Changed (Word H))) (base ls : List (Location H)) (ws : List (Word H)) → AllFit es
      → AreLocations (location_kinds g.code.vars) base → AreLocations (location_kinds g.code.vars) ls
      → composed (merges g) (mains base es) es ≡ Ok ws
      → AreLocations (location_kinds g.code.vars) (written_all ls es ws)
  written_kinds [] base ls ws f b h e = h
  written_kinds (x ∷ es) base ls ws f b h e =
      let o = later_ok x.location (merges g x.location (main_at (seen_at base x.location)) x.value x.root)
      (composed (merges g) (mains base es) es) ws e in
      let kind =
      new_kind x.location f.0.kind (main_at (seen_at base x.location)) x.value x.root o.0 f.0.there
      (main_kind base b x f.0) f.0.value f.0.root o.2 in
      let h' = written_there (location_kinds g.code.vars) ls x.location o.0 h (f.0.there ∙ ap Some (sym kind)) in
      subst (λ z. AreLocations (location_kinds g.code.vars) (written_all ls (x ∷ es) z)) (sym o.4)
      (written_kinds es base (written_at ls x.location o.0) o.1 f.1 b h' o.3)

  -- ---- events

  of_revision : (c : State H) → IsRevision g.code (notes_of g.code) c → IsProper g (at_work c)
  of_revision c t = record { revision = λ e. t; locations = t.locations }

  of_done : (c : State H) → AreLocations (location_kinds g.code.vars) c.locations → IsProper g (has_ended c done)
  of_done c h = record { revision = λ e. absurd (let z : done ≡ running = e in cc); locations = h }

  of_trapped : (c : State H) (t : Trap H) → AreLocations (location_kinds g.code.vars) c.locations
      → IsProper g (has_ended c (trapped t))
  of_trapped c t h = record { revision = λ e. absurd (let z : trapped t ≡ running = e in cc); locations = h }

  abbrev ProperAct : Act H → Type 0
  ProperAct (Goes l) = IsProper g l
  ProperAct (Bears u c) = ((h : H) → IsProper g (u h)) × IsProper g c
  ProperAct (Wants q) = Unit {0}
  ProperAct Stops = Unit {0}

  module _ (c : State H) (t : IsRevision g.code (notes_of g.code) c) where
    located : (d : State H) → d.locations ≡ c.locations → AreLocations (location_kinds g.code.vars) d.locations
    located d e = subst (AreLocations (location_kinds g.code.vars)) (sym e) t.locations

    -- of the event of c's own instruction
    event_proper : (o : Comes H) → step (under g) c ≡ o → IsAt c o → ProperAct (act_of g o)
    event_proper (goes d) e at = tt
    event_proper (traps d x) e at = of_trapped d _ (located d (ap (λ z. z.locations) at.0))
    event_proper (forks d n args) e at = by (slice_get g.code.blocks n) refl
      where
        by : (o : Option CodeBlock) → slice_get g.code.blocks n ≡ o → ProperAct (fork g d n args o)
        by None is = tt
        by (Some b) is =
            let s = (is_safe H g.code (notes_of g.code) (accepted g ok) g.inputs g.share c t).forks d n args e in
            let same : s.0.body ≡ b = some_eq (sym s.0.is ∙ is) in (
              λ h. of_revision (events.parent g.share d args h) (s.1 h),
              of_revision (events.child g.share d n b args)
                  (subst (λ y. IsRevision g.code (notes_of g.code) (events.child g.share d n y args)) same s.2),
            )
    event_proper (joins d try h) e at = tt
    event_proper (ends d w) e at = of_done d (located d (ap (λ z. z.locations) at))
    event_proper stuck e at = tt

    join_proper_in : (d : State H) (try : Bool) (h : H) → step (under g) c ≡ joins d try h → d ≡ c → (j : Local H)
        → IsProper g j → (ph : Phase H) → IsProper g (join_in g d try h (end_of j) ph)
    join_proper_in d try h e at j p done =
        by (composed (merges g) (mains d.locations (written_from 0 j.state.locations))
        (written_from 0 j.state.locations))
        refl
      where
        ls : AreLocations (location_kinds g.code.vars) d.locations
        ls = located d (ap (λ z. z.locations) at)

        by : (o : Composition (Word H))
            → composed (merges g) (mains d.locations (written_from 0 j.state.locations))
            (written_from 0 j.state.locations)
            ≡ o
            → IsProper g (absorb d try h (end_of j) o)
        by (Ok ws) is =
            let f = written_fit 0 (location_kinds g.code.vars) j.state.locations
            (λ i. ap (slice_get (location_kinds g.code.vars)) (let z : 0 + i ≡ i = omega arith in z)) p.locations in
            let n = written_kinds (written_from 0 j.state.locations) d.locations d.locations ws f
            (located d (ap (λ z. z.locations) at)) (located d (ap (λ z. z.locations) at)) is in
            of_revision _ ((is_safe H g.code (notes_of g.code) (accepted g ok) g.inputs g.share c t).joins d try h e
            true (written_all d.locations (written_from 0 j.state.locations) ws) n (d.fuel + j.state.fuel)
            (d.text ++ j.state.text))
        by (Err x) is = of_trapped _ _ (located d (ap (λ z. z.locations) at))
    join_proper_in d true h e at j p (trapped x) =
        of_revision _ ((is_safe H g.code (notes_of g.code) (accepted g ok) g.inputs g.share c t).joins d true h e false
        d.locations (located d (ap (λ z. z.locations) at)) d.fuel d.text)
    join_proper_in d false h e at j p (trapped x) = of_trapped _ _ (located d (ap (λ z. z.locations) at))
    join_proper_in d try h e at j p running = of_revision d (subst (IsRevision g.code (notes_of g.code)) (sym at) t)

  pub act_proper : (l : Local H) → IsProper g l → ProperAct (act g l)
  act_proper l p = by l.phase refl
    where
      by : (ph : Phase H) → l.phase ≡ ph → ProperAct (act_in g l.state ph)
      by running e =
          let h = has_leg g ok l.state (p.revision e) in
          event_proper h.is.last h.revision (leg g l.state) h.is.comes
          (subst (IsAt h.is.last) h.is.comes (stands g h.is.last))
      by done e = tt
      by (trapped t) e = tt

  pub join_proper : (l j : Local H) → IsProper g l → IsProper g j → l.phase ≡ running → IsProper g (join g l j)
  join_proper l j p q e = by (leg g l.state) h.is.comes (subst (IsAt h.is.last) h.is.comes (stands g h.is.last))
    where
      h : HasLeg g l.state
      h = has_leg g ok l.state (p.revision e)

      by : (o : Comes H) → step (under g) (has_leg g ok l.state (p.revision e)).is.last ≡ o
          → IsAt (has_leg g ok l.state (p.revision e)).is.last o → IsProper g (join_end g l o (end_of j))
      by (joins d try x) is at =
          join_proper_in (has_leg g ok l.state (p.revision e)).is.last (has_leg g ok l.state (p.revision e)).revision d
          try x is at j q j.phase
      by (goes d) is at = p
      by (traps d x) is at = p
      by (forks d n args) is at = p
      by (ends d w) is at = p
      by stuck is at = p

  wants_runs : (l : Local H) (q : H) → act g l ≡ Wants q → l.phase ≡ running
  wants_runs l q e = by l.phase e
    where
      by : (ph : Phase H) → act_in g l.state ph ≡ Wants q → ph ≡ running
      by running e = refl
      by done e = absurd (let z : Stops ≡ Wants q = e in cc)
      by (trapped t) e = absurd (let z : Stops ≡ Wants q = e in cc)

  pub first_proper : (n : ℕ) (m : IsMain g n) (fuel : ℕ) → IsProper g (start_in {H = H} g n m.body fuel)
  first_proper n m fuel =
      of_revision _ (main_starts H g.code (notes_of g.code) (accepted g ok) n m.body m.is m.class fuel)

  not_stuck : (c : State H) → IsRevision g.code (notes_of g.code) c → act_of g (leg g c) ≡ Stops → ⊥
  not_stuck c t e = let h = has_leg g ok c t in by (leg g c) h.is.is e h.is.last h.revision h.is.comes
    where
      by : (o : Comes H) → Rattle.code_machine.specs.Leg.IsEvent o → act_of g o ≡ Stops → (d : State H)
          → IsRevision g.code (notes_of g.code) d → step (under g) d ≡ o → ⊥
      by (goes d) i e x u s = i
      by (traps d x) i e y u s =
          (let z : Goes (has_ended d (trapped (record { cause = x; line = d.line; origin = None }))) ≡ Stops = e in cc)
      by (forks d n args) i e y u s = block (slice_get g.code.blocks n) refl e
        where
          f : IsForked g.code n args
          f = ((is_safe H g.code (notes_of g.code) (accepted g ok) g.inputs g.share y u).forks d n args s).0

          block : (o : Option CodeBlock) → slice_get g.code.blocks n ≡ o → fork g d n args o ≡ Stops → ⊥
          block None is e =
              none_some (sym is
              ∙ ((is_safe H g.code (notes_of g.code) (accepted g ok) g.inputs g.share y u).forks d n args s).0.is)
          block (Some b) is e =
              (let z : Bears (λ h. at_work (events.parent g.share d args h)) (at_work (events.child g.share d n b args))
              ≡ Stops = e in
              cc)
      by (joins d try h) i e y u s = (let z : Wants h ≡ Stops = e in cc)
      by (ends d w) i e y u s = (let z : Goes (has_ended d done) ≡ Stops = e in cc)
      by stuck i e y u s = i

  pub over : (l : Local H) → IsProper g l → act g l ≡ Stops → IsOver l
  over l p e = by l.phase refl e
    where
      by : (ph : Phase H) → l.phase ≡ ph → act_in g l.state ph ≡ Stops → IsOver l
      by running is e = absurd (not_stuck l.state (p.revision is) e)
      by done is e = inl is
      by (trapped t) is e = inr (t, is)

-- ---- by paths

pub states_proper : StatesAreProper
states_proper g ok n m fuel =
    kept_law (machine g) (start_in g n m.body fuel) (λ r l. IsProper g l) kept (first_proper g ok n m fuel)
  where
    born : (l : Local Path) (u : Path → Local Path) (c : Local Path) → IsProper g l → act g l ≡ Bears u c
        → ((h : Path) → IsProper g (u h)) × IsProper g c
    born l u c p e = subst (ProperAct g ok) e (act_proper g ok l p)

    kept : IsKept (machine g) (λ r l. IsProper g l)
    kept = record {
      moves = λ r l l' p e. subst (ProperAct g ok) (of_moves r l.state.forks (act g l) l' e) (act_proper g ok l p);
      forker = λ r l l' c p e.
          (let b = of_forks r l.state.forks (act g l) l' c e in
          subst (IsProper g) b.2 ((born l b.0 c p b.1).0 (child r l.state.forks)));
      forked = λ r l l' c p e. (let b = of_forks r l.state.forks (act g l) l' c e in (born l b.0 c p b.1).1);
      joins = λ r q l lq p o e f.
          join_proper g ok l lq p o (wants_runs g ok l q (of_joins r l.state.forks (act g l) q e));
    }

-- ---- by numbers

module _ (g : CodeRun) (ok : IsVerified g) where
  abbrev Proper : World (Local ℕ) → Type 0
  Proper w = EachEntry (λ l. IsProper g l) w

  pub goes_act : (a : Act ℕ) (l : Local ℕ) → wish_of a ≡ numbers.Goes l → a ≡ Goes l
  goes_act (Goes x) l e = (let z : x ≡ l = (let y : numbers.Goes x ≡ numbers.Goes l = e in cc) in ap Goes z)
  goes_act (Bears u c) l e = absurd (let y : numbers.Bears u c ≡ numbers.Goes l = e in cc)
  goes_act (Wants q) l e = absurd (let y : numbers.Wants q ≡ numbers.Goes l = e in cc)
  goes_act Stops l e = absurd (let y : numbers.Stops ≡ numbers.Goes l = e in cc)

  pub bears_act : (a : Act ℕ) (f : ℕ → Local ℕ) (c : Local ℕ) → wish_of a ≡ numbers.Bears f c → a ≡ Bears f c
  bears_act (Bears u d) f c e =
      let x : u ≡ f = (let y : numbers.Bears u d ≡ numbers.Bears f c = e in cc) in
      let z : d ≡ c = (let y : numbers.Bears u d ≡ numbers.Bears f c = e in cc) in
      λ i. Bears (x i) (z i)
  bears_act (Goes x) f c e = absurd (let y : numbers.Goes x ≡ numbers.Bears f c = e in cc)
  bears_act (Wants q) f c e = absurd (let y : numbers.Wants q ≡ numbers.Bears f c = e in cc)
  bears_act Stops f c e = absurd (let y : numbers.Stops ≡ numbers.Bears f c = e in cc)

  pub wants_act : (a : Act ℕ) (q : ℕ) → wish_of a ≡ numbers.Wants q → a ≡ Wants q
  wants_act (Wants p) q e = (let z : p ≡ q = (let y : numbers.Wants p ≡ numbers.Wants q = e in cc) in ap Wants z)
  wants_act (Goes x) q e = absurd (let y : numbers.Goes x ≡ numbers.Wants q = e in cc)
  wants_act (Bears u c) q e = absurd (let y : numbers.Bears u c ≡ numbers.Wants q = e in cc)
  wants_act Stops q e = absurd (let y : numbers.Stops ≡ numbers.Wants q = e in cc)

  stops_act : (a : Act ℕ) → wish_of a ≡ numbers.Stops → a ≡ Stops
  stops_act Stops e = refl
  stops_act (Goes x) e = absurd (let y : numbers.Goes x ≡ numbers.Stops = e in cc)
  stops_act (Bears u c) e = absurd (let y : numbers.Bears u c ≡ numbers.Stops = e in cc)
  stops_act (Wants q) e = absurd (let y : numbers.Wants q ≡ numbers.Stops = e in cc)

  put_proper : (w : Entries (Local ℕ)) (n : ℕ) (r : Path) (e : Entry (Local ℕ)) → Proper (Listing w)
      → IsProper g (local_of e) → Proper (Listing (put_number w n (r, e)))
  put_proper w n r e all p m q f there = by (at_put w n (r, e) m (q, f) there)
    where
      by : (at_number w m ≡ Some (q, f)) ⊎ ((m ≡ n) × ◌≡◌ {A = Path × Entry (Local ℕ)} (q, f) (r, e))
          → IsProper g (local_of f)
      by (inl z) = all m q f z
      by (inr z) = subst (λ y. IsProper g (local_of y)) (sym (ap (λ y. y.1) z.1)) p

  more_proper : (w : Entries (Local ℕ)) (r : Path) (e : Entry (Local ℕ)) → Proper (Listing w) → IsProper g (local_of e)
      → Proper (Listing (w ++ (r, e) ∷ []))
  more_proper w r e all p m q f there = by (at_more w (r, e) m (q, f) there)
    where
      by : (at_number w m ≡ Some (q, f)) ⊎ ((m ≡ length w) × ◌≡◌ {A = Path × Entry (Local ℕ)} (q, f) (r, e))
          → IsProper g (local_of f)
      by (inl z) = all m q f z
      by (inr z) = subst (λ y. IsProper g (local_of y)) (sym (ap (λ y. y.1) z.1)) p

  leg_proper : (w : Entries (Local ℕ)) (n : ℕ) (u : World (Local ℕ)) → Proper (Listing w) → LegOf (numbered g) w n u
      → Proper u
  leg_proper w n u all (went r l l' at is z) =
      let p : IsProper g l' =
      subst (ProperAct g ok) (goes_act (act g l) l' is) (act_proper g ok l (all n r (Plain l) at)) in
      subst Proper (sym z) (put_proper w n r (Plain l') all p)
  leg_proper w n u all (bore r l f c at is z) =
      let p : ((h : ℕ) → IsProper g (f h)) × IsProper g c =
      subst (ProperAct g ok) (bears_act (act g l) f c is) (act_proper g ok l (all n r (Plain l) at)) in
      subst Proper (sym z) (more_proper (put_number w n (r, Plain (f (length w)))) (child r l.state.forks) (Plain c)
      (put_proper w n r (Plain (f (length w))) all (p.0 (length w))) p.1)
  leg_proper w n u all (took r l m q lq at is there stops z) =
      let o = all m q (Plain lq) there in
      let p = join_proper g ok l lq (all n r (Plain l) at) o (wants_runs g ok l m (wants_act (act g l) m is)) in
      subst Proper (sym z) (put_proper (put_number w n (r, Plain (join g l lq))) m q (Joined lq)
      (put_proper w n r (Plain (join g l lq)) all p) o)
  leg_proper w n u all (twice r l m at is z) = subst Proper (sym z) tt

  replays_proper : (ns : List ℕ) (v w : World (Local ℕ)) → Proper v → Replays (numbered g) v ns w → Proper w
  replays_proper = replays_keep (numbered g) Proper (λ x n u p h. leg_proper x n u p (leg_ways (numbered g) x n u h))

  begin_proper : (l : Local ℕ) → IsProper g l → Proper (begin (numbered g) l)
  begin_proper l p zero r e there =
      (let z : ◌≡◌ {A = Path × Entry (Local ℕ)} ([], Plain l) (r, e) = some_eq there in
      subst (λ y. IsProper g (local_of y)) (ap (λ y. y.1) z) p)
  begin_proper l p (suc m) r e there = none_some there

pub worlds_proper : WorldsAreProper
worlds_proper g ok n m fuel ns w h =
    replays_proper g ok ns (begin (numbered g) (start_in g n m.body fuel)) w
    (begin_proper g ok (start_in g n m.body fuel) (first_proper g ok n m fuel)) h

pub stops_over : StopsWhereOver
stops_over g ok l p e = over g ok l p (stops_act g ok (act g l) e)
