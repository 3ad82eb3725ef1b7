-- Each atomic step of a seat is the step of the core that the seat notes.
--   step_traces      a step of one seat that is a step of the core
--   quiet_traces     a step of one seat that is none
--   lifts            what a step keeps of the rule, from what it keeps of the words and of the
--   trace
use Rattle.std.proofs.Common.{◌≡◌, ◌≢◌, ℕ, ◌+◌, ◌-◌, Bool, cond, List, [], ◌∷◌, ◌++◌, length}
use Rattle.std.proofs.Common.{get_or, set, sym, refl, ap, ◌∙◌, subst, arith, ⊎_elim, length-set}
use Rattle.std.proofs.Common.{eq-eqb, ne_eqb}
use mathlib.Core.Option as m
use lib.ListN.{get_elem?}
use lib.Seq.{set-get_or}
use Rattle.atomic_table.specs.Table.{Me, Allows, carried_after}
use Rattle.atomic_table.proofs.Lists.{at_set}
use Rattle.seg_core.specs.Core.{Core, Has}
use Rattle.seg_core.specs.Steps as core
use Rattle.seg_core.proofs.Bases.{bases_keep}
use Rattle.seg_core.proofs.Frees.{empty_counted}
use Rattle.seg_core.proofs.Reaches.{runs_counted}
use Rattle.segment_store.specs.declared.board.SegmentView.{SegmentView}
use Rattle.segment_store.specs.Act.{Act, acts, acts_of}
use Rattle.segment_store.specs.Store as st
use Rattle.segment_store.specs.Shown.{list_of, Shown, Shows}
use Rattle.segment_store.specs.Rule.{St, Traced, Rule, Reaches}
use Rattle.segment_store.proofs.Ties.{inside_at, quiet_ties}

abbrev pub M : Type 0
M = Me (Unit {0}) SegmentView

pub mine : (s : core.CoreStep) (i : ℕ) (ss : List core.CoreStep) → core.holder s ≡ i
    → acts_of i (s ∷ ss) ≡ acts s ++ acts_of i ss
mine s i ss e = ap (λ (b : Bool). cond b (acts s ++ acts_of i ss) (acts_of i ss))
    (eq-eqb (core.holder s) i e)

pub other : (s : core.CoreStep) (i : ℕ) (ss : List core.CoreStep) → core.holder s ≢ i
    → acts_of i (s ∷ ss) ≡ acts_of i ss
other s i ss n = ap (λ (b : Bool). cond b (acts s ++ acts_of i ss) (acts_of i ss))
    (ne_eqb (core.holder s) i n)

pub reaches : (words stride masks : ℕ) → Reaches words stride masks
reaches words stride masks s r = let n : ℕ = length s.views in
    let l = r.traced.led n (omega arith) in
    (l.0, (words, n, stride - (2 + masks), r.traced.steps, l.1), l.2)

module _ (words stride masks : ℕ) where
  abbrev Tr : List ℕ → List SegmentView → Type 0
  Tr = Traced words stride masks

  -- the holders that are no seat yet keep their empty lists
  pub still_none : (holders : ℕ) (steps : List core.CoreStep) (k k' : Core) (s : core.CoreStep)
      (h : ℕ) → core.Runs (core.empty words holders (stride - (2 + masks))) steps k
      → core.Steps k s k'
      → core.holder s ≢ h → ¬ (core.GivesTo s h) → Has k h [] → Has k' h []
  still_none holders steps k k' s h ran t ne not has =
      (bases_keep k k' s h (runs_counted steps (core.empty words holders (stride - (2 + masks))) k
      (empty_counted words holders (stride - (2 + masks))) ran) t ne not).0 [] has

  pub step_traces : (s : St) → Tr s.words s.views → (id : ℕ) (v w : SegmentView) (ws' : List ℕ)
      → get_elem? s.views id ≡ m.some v → (step : core.CoreStep) → core.holder step ≡ id
      → ((g : ℕ) → ¬ (core.GivesTo step g))
      → w.holds ≡ v.holds → w.did ≡ acts step ++ v.did
      → ((k : Core) → Shows words stride masks s k → (k' : Core) × core.Steps k step k'
      × Shown words stride masks ws' (set s.views id w) k')
      → Tr ws' (set s.views id w)
  step_traces s t id v w ws' at step by none holds did tie = let inside =
      inside_at s.views id v at in
      let len : length (set s.views id w) ≡ length s.views = length-set s.views id w in record {
        steps = step ∷ t.steps;
        led = λ holders enough. let l = t.led holders (omega arith) in let n = tie l.0 l.2 in (
          n.0,
          (l.0, l.1, n.1),
          n.2,
          λ h past below. still_none holders t.steps l.0 n.0 step h l.1 n.1 (λ e. omega arith)
              (none h) (l.3 h (omega arith) below),
        );
        own = λ i u is some_holds. ⊎_elim
            (λ (q : (i ≡ id) × (w ≡ u)). let same : w.holds ≡ u.holds =
            ap (λ (z : SegmentView). z.holds) q.1 in
            subst (λ (z : ℕ). acts_of z (step ∷ t.steps) ≡ u.did) (sym q.0) (mine step id t.steps by
            ∙ (ap (λ (z : List Act). acts step ++ z) (t.own id v at (omega arith))
            ∙ (sym did ∙ ap (λ (z : SegmentView). z.did) q.1))))
            (λ (q : (i ≢ id) × (get_elem? s.views i ≡ m.some u)). other step i t.steps
            (λ e. q.0 (sym e ∙ by)) ∙ t.own i u q.1 some_holds)
            (at_set s.views id i w u is);
        fresh = λ i past. other step i t.steps (λ e. omega arith) ∙ t.fresh i (omega arith);
      }

  pub quiet_traces : (s : St) → Tr s.words s.views → (id : ℕ) (v w : SegmentView) (ws' : List ℕ)
      → get_elem? s.views id ≡ m.some v → w.holds ≡ v.holds → w.did ≡ v.did
      → ((k : Core) → Shows words stride masks s k
      → Shown words stride masks ws' (set s.views id w) k)
      → Tr ws' (set s.views id w)
  quiet_traces s t id v w ws' at holds did tie =
      let len : length (set s.views id w) ≡ length s.views = length-set s.views id w in record {
        steps = t.steps;
        led = λ holders enough. let l = t.led holders (omega arith) in
            (l.0, l.1, tie l.0 l.2, λ h past below. l.3 h (omega arith) below);
        own = λ i u is some_holds. ⊎_elim
            (λ (q : (i ≡ id) × (w ≡ u)). let same : w.holds ≡ u.holds =
            ap (λ (z : SegmentView). z.holds) q.1 in
            subst (λ (z : ℕ). acts_of z t.steps ≡ u.did) (sym q.0) (t.own id v at (omega arith)
            ∙ (sym did ∙ ap (λ (z : SegmentView). z.did) q.1)))
            (λ (q : (i ≢ id) × (get_elem? s.views i ≡ m.some u)). t.own i u q.1 some_holds)
            (at_set s.views id i w u is);
        fresh = λ i past. t.fresh i (omega arith);
      }

  pub lifts : (slots id : ℕ) (me : M) (i : ℕ) (f : ℕ → ℕ) (then_ : ℕ → M → Type 0)
      → Allows (st.Kept words stride) slots id me i f then_
      → ((s : St) → Rule words stride masks s → get_elem? s.views id ≡ m.some me.0 → (m' : M)
      → then_ (get_or s.words i 0) m'
      → Tr (set s.words i (f (get_or s.words i 0))) (set s.views id m'.0))
      → Allows (Rule words stride masks) slots id me i f then_
  lifts slots id me i f then_ allowed traces s r long at small = let q =
      allowed s r.kept long at small in (
        q.0,
        q.1,
        q.2,
        record {
          kept = q.3;
          fit = r.fit;
          traced = traces s r at (q.0, carried_after me.1 q.1) q.4;
        },
        q.4,
      )

  -- a load that changes no view of the core
  pub load_traces : (s : St) → Rule words stride masks s → (i id : ℕ) (v w : SegmentView)
      → get_elem? s.views id ≡ m.some v → list_of w ≡ list_of v → w.build ≡ v.build
      → w.made ≡ v.made → w.holds ≡ v.holds → w.did ≡ v.did
      → Tr (set s.words i (get_or s.words i 0)) (set s.views id w)
  load_traces s r i id v w at list build made holds did =
      subst (λ (ws : List ℕ). Tr ws (set s.views id w)) (sym (set-get_or s.words i 0))
      (quiet_traces s r.traced id v w s.words at holds did
      (λ k sh. quiet_ties words stride masks r.fit.0 r.fit.1 s k sh s.words
      (λ d bd j lo hi. refl) id v w at list build made))
