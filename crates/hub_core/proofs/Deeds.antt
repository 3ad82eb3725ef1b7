-- What the deeds of one moment make of a seat's passes.
use Rattle.std.proofs.Common.{◌≡◌, ◌≢◌, ℕ, ◌+◌, ◌<◌, ◌≤◌, List, [], ◌∷◌, ◌++◌, sym, refl, ap, ◌∙◌, arith, append_assoc, append-nil}
use mathlib.Core.Logic.{dite}
use native.Mathlib.Decide.{ℕ_discrete}
use Rattle.hub_core.specs.declared.view.View.{View}
use Rattle.hub_core.specs.Counts.{is_at, times}
use Rattle.hub_core.specs.Passes.{Pass, named, left, without, Fresh}
use Rattle.hub_core.specs.Views.{commits, hands_in, draws}
use Rattle.hub_core.specs.Seats.{HasCurrent}
use Rattle.hub_core.specs.declared.deed.Deed.{Deed}
use Rattle.hub_core.specs.declared.deed.Deed.TheVariants.{Commits, HandsIn, Draws}
use Rattle.hub_core.specs.Tally.{entered, do_all, CanDo}
use Rattle.hub_core.proofs.Lists.{is_at_same, is_at_other}
use Rattle.hub_core.proofs.Passes.{count_gone, count_other, pass_named, since_more}
use Rattle.hub_core.proofs.Worlds.{current_in, current_commit, current_draw}

module _ {L : Type 0} where
  -- each number is in at most one pass of it, and no other seat has it
  abbrev pub AreApart : View L → List Pass → Type 0
  AreApart v ps = (j : ℕ) → named j v.passes + named j ps ≤ times j v.out

  -- the passes after an entry of a revision that the seat has
  pub named_commit : (k : ℕ) (v : View L) → named k v.passes ≡ 1 → (j : ℕ)
      → named j (commits k v).passes ≡ named j v.passes
  named_commit k v one j = dite (ℕ_discrete j k)
      (λ e.
      let a : named j (left k v.passes) ≡ 0 =
      ap (λ i. named i (left k v.passes)) e ∙ count_gone (λ (p : Pass). p.0) k v.passes in
      let b : is_at j k ≡ 1 = ap (λ i. is_at i k) e ∙ is_at_same k in
      let c : named j v.passes ≡ named k v.passes = ap (λ i. named i v.passes) e in
      omega arith)
      (λ ne.
      let a = count_other (λ (p : Pass). p.0) k j v.passes ne in
      let b = is_at_other j k (λ e. ne (sym e)) in
      omega arith)

  pub named_in : (k : ℕ) (v : View L) (j : ℕ) → j ≢ k → named j (hands_in k v).passes ≡ named j v.passes
  named_in k v j ne = count_other (λ (p : Pass). p.0) k j v.passes ne

  pub named_gone : (k : ℕ) (v : View L) → named k (hands_in k v).passes ≡ 0
  named_gone k v = count_gone (λ (p : Pass). p.0) k v.passes

  -- what deeds keep
  pub record AreDone (v w : View L) (es : List ℕ) : Type 0 where
    pub same :
        (w.has ≡ v.has) × (w.parts ≡ v.parts) × (w.start ≡ v.start) × (w.group ≡ v.group) × (w.saw ≡ v.saw)
        × (w.halt ≡ v.halt) × (w.turns ≡ v.turns)
    pub log : w.log ≡ v.log ++ es
    pub current : HasCurrent w
    pub single : (j : ℕ) → times j w.out ≤ 1
    pub counts : (j : ℕ) → times j w.out + named j v.passes ≡ times j v.out + named j w.passes
    pub others : (ps : List Pass) → AreApart v ps → Fresh v.log ps → Fresh w.log ps

  abbrev IsFine : View L → Type 0
  IsFine v = HasCurrent v × ((j : ℕ) → times j v.out ≤ 1)

  one_pass : (k : ℕ) (v : View L) → IsFine v → 0 < named k v.passes → (named k v.passes ≡ 1) × (times k v.out ≡ 1)
  one_pass k v fine pos = let a = fine.0.1 k in let b = fine.1 k in (omega arith, omega arith)

  commit_fine : (k : ℕ) (v : View L) → 0 < named k v.passes → IsFine v → IsFine (commits k v)
  commit_fine k v pos fine = (current_commit k v pos fine.0, fine.1)

  in_fine : (k : ℕ) (v : View L) → IsFine v → IsFine (hands_in k v)
  in_fine k v fine = (
    current_in k v fine.0,
    λ j. let b = fine.1 j in dite (ℕ_discrete j k)
        (λ e.
        let a : times j (without k v.out) ≡ 0 =
        ap (λ i. times i (without k v.out)) e ∙ count_gone (λ (x : ℕ). x) k v.out in
        omega arith)
        (λ ne. let a = count_other (λ (x : ℕ). x) k j v.out ne in omega arith),
  )

  draw_fine : (k : ℕ) (v : View L) → times k v.out ≡ 0 → IsFine v → IsFine (draws k v)
  draw_fine k v none fine = (
    current_draw k v fine.0,
    λ j. let b = fine.1 j in dite (ℕ_discrete j k)
        (λ e.
        let a : is_at j k ≡ 1 = ap (λ i. is_at i k) e ∙ is_at_same k in
        let c : times j v.out ≡ times k v.out = ap (λ i. times i v.out) e in
        omega arith)
        (λ ne. let a = is_at_other j k (λ e. ne (sym e)) in omega arith),
  )

  commit_apart : (k : ℕ) (v : View L) (ps : List Pass) → 0 < named k v.passes → IsFine v → AreApart v ps
      → AreApart (commits k v) ps
  commit_apart k v ps pos fine apart j =
      let a = named_commit k v (one_pass k v fine pos).0 j in let b = apart j in omega arith

  in_apart : (k : ℕ) (v : View L) (ps : List Pass) → 0 < named k v.passes → IsFine v → AreApart v ps
      → AreApart (hands_in k v) ps
  in_apart k v ps pos fine apart j = dite (ℕ_discrete j k)
      (λ e.
      let a : named j (left k v.passes) ≡ 0 =
      ap (λ i. named i (left k v.passes)) e ∙ count_gone (λ (p : Pass). p.0) k v.passes in
      let b = apart k in
      let c = one_pass k v fine pos in
      let c0 = c.0 in
      let c1 = c.1 in
      let q : named j ps ≡ named k ps = ap (λ i. named i ps) e in
      omega arith)
      (λ ne.
      let a = count_other (λ (p : Pass). p.0) k j v.passes ne in
      let b = count_other (λ (x : ℕ). x) k j v.out ne in
      let c = apart j in
      omega arith)

  draw_apart : (k : ℕ) (v : View L) (ps : List Pass) → times k v.out ≡ 0 → AreApart v ps → AreApart (draws k v) ps
  draw_apart k v ps none apart j = let c = apart j in omega arith

  commit_others : (k : ℕ) (v : View L) (ps : List Pass) → 0 < named k v.passes → IsFine v → AreApart v ps
      → Fresh v.log ps → Fresh (v.log ++ k ∷ []) ps
  commit_others k v ps pos fine apart fresh j before p =
      let y = pass_named ps j before p in
      let a = apart k in
      let o = one_pass k v fine pos in
      let o0 = o.0 in
      let o1 = o.1 in
      since_more v.log j k before
      (λ e. let q : named j ps ≡ named k ps = ap (λ i. named i ps) (sym e) in absurd (omega arith))
      (fresh j before p)

  in_counts : (k : ℕ) (v : View L) → 0 < named k v.passes → IsFine v → (j : ℕ)
      → times j (hands_in k v).out + named j v.passes ≡ times j v.out + named j (hands_in k v).passes
  in_counts k v pos fine j = dite (ℕ_discrete j k)
      (λ e.
      let a : named j (left k v.passes) ≡ 0 =
      ap (λ i. named i (left k v.passes)) e ∙ count_gone (λ (p : Pass). p.0) k v.passes in
      let b : times j (without k v.out) ≡ 0 =
      ap (λ i. times i (without k v.out)) e ∙ count_gone (λ (x : ℕ). x) k v.out in
      let c : named j v.passes ≡ named k v.passes = ap (λ i. named i v.passes) e in
      let g : times j v.out ≡ times k v.out = ap (λ i. times i v.out) e in
      let o = one_pass k v fine pos in
      let o0 = o.0 in
      let o1 = o.1 in
      omega arith)
      (λ ne.
      let a = count_other (λ (p : Pass). p.0) k j v.passes ne in
      let b = count_other (λ (x : ℕ). x) k j v.out ne in
      omega arith)

  pub all_done : (ds : List Deed) (v : View L) → HasCurrent v → ((j : ℕ) → times j v.out ≤ 1) → CanDo ds v
      → AreDone v (do_all ds v) (entered ds)
  all_done [] v current single can = record {
    same = (refl, refl, refl, refl, refl, refl, refl);
    log = sym (append-nil v.log);
    current = current;
    single = single;
    counts = λ j. refl;
    others = λ ps apart fresh. fresh;
  }
  all_done (Commits k ∷ ds) v current single can =
      let fine = commit_fine k v can.0 (current, single) in
      let r = all_done ds (commits k v) fine.0 fine.1 can.1 in
      record {
        same = r.same;
        log = r.log ∙ append_assoc v.log (k ∷ []) (entered ds);
        current = r.current;
        single = r.single;
        counts = λ j.
            let a = r.counts j in
            let b = named_commit k v (one_pass k v (current, single) can.0).0 j in
            omega arith;
        others = λ ps apart fresh.
            r.others ps (commit_apart k v ps can.0 (current, single) apart)
            (commit_others k v ps can.0 (current, single) apart fresh);
      }
  all_done (HandsIn k ∷ ds) v current single can =
      let fine = in_fine k v (current, single) in
      let r = all_done ds (hands_in k v) fine.0 fine.1 can.1 in
      record {
        same = r.same;
        log = r.log;
        current = r.current;
        single = r.single;
        counts = λ j. let a = r.counts j in let b = in_counts k v can.0 (current, single) j in omega arith;
        others = λ ps apart fresh. r.others ps (in_apart k v ps can.0 (current, single) apart) fresh;
      }
  all_done (Draws k ∷ ds) v current single can =
      let fine = draw_fine k v can.0 (current, single) in
      let r = all_done ds (draws k v) fine.0 fine.1 can.1 in
      record {
        same = r.same;
        log = r.log;
        current = r.current;
        single = r.single;
        counts = λ j. let a = r.counts j in omega arith;
        others = λ ps apart fresh. r.others ps (draw_apart k v ps can.0 apart) fresh;
      }
