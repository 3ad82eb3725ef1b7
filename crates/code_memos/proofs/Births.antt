-- With what local state each revision begins, whatever the schedule.
use Rattle.std.proofs.Common.{◌≡◌, ◌∙◌, ◌⊎◌, inl, inr, ◌≢◌, List, [], ◌∷◌, ◌++◌, Option, Some, None, refl, sym, ap, subst}
use Rattle.rev_num.specs.Path.{Path, child}
use Rattle.rev_num.proofs.Options.{none_some, some_eq}
use Rattle.revision_machine.specs.PathMap.{with_at}
use Rattle.revision_machine.specs.Machine.{Event, Moves, Forks, Joins, Ended, Machine, Entry, Plain, Joined, Global, Twice, Live, Revisions, nowhere, start, step, step_at, happens, Runs, Final, Complete}
use Rattle.revision_machine.specs.Conditions.{Counts}
use Rattle.revision_machine.specs.Laws.{local_of, WellForked}
use Rattle.revision_machine.proofs.Paths.{decide_same, at_here}
use Rattle.revision_machine.proofs.Way.{put_two, Role, Way, writes, twice, way, Place, own, new, marks, place}
use Rattle.revision_machine.proofs.Diamond.{two_here, two_there, two_other}
use Rattle.revision_machine.proofs.Forker.{fresh_of, keeps_forked, start_forked}
use Rattle.revision_machine.proofs.Ends.{along, strip}
use Rattle.code_memos.specs.Births.{IsForkedIn, Born, first, forked, OneBirth, BornStand}
use Rattle.code_memos.proofs.Witness.{with_birth, Both, W, plain_entry, plain_option, plain_map, plain, lift, start_same, final_same, counts_same}

-- ---- one more step

pub runs_then : (M : Machine) (rs : List Path) (g h i : Global M.Local) (r : Path) → Runs M g rs h → step M h r ≡ Some i
    → Runs M g (rs ++ r ∷ []) i
runs_then M [] g h i r runs s = (i, ap (λ m. step M m r) runs ∙ s, refl)
runs_then M (q ∷ rs) g h i r runs s = (runs.0, runs.1, runs_then M rs runs.0 h i r runs.2 s)

-- ---- from each reached state a complete run's end can be reached

module _ (M : Machine) (counts : Counts M) where
  pub to_end : (rs : List Path) (g a h : Global M.Local) (ps : List Path) → WellForked M g → Runs M g rs a
      → Runs M g ps h → Final M h
      → (qs : List Path) × Runs M a qs h
  to_end [] g a h ps good one two final = (ps, subst (λ m. Runs M m ps h) one two)
  to_end (r ∷ rs) g a h ps good one two final =
      let next = strip M counts ps g one.0 h r good two final one.1 in
      to_end rs one.0 a h next.0 (keeps_forked M counts g one.0 r good one.1) one.2 next.1 final

-- ---- a revision keeps the state with which it began

module _ (M : Machine) (counts : Counts M) (r : Path) (b : M.Local) where
  abbrev birth : Entry (Both M) → M.Local
  birth e = (local_of e).1

  abbrev HasBirth : Revisions (W M) → Type 0
  HasBirth revs = (e : Entry (Both M)) × (revs r ≡ Some e) × (birth e ≡ b)

  abbrev Has : Global (Both M) → Type 0
  Has Twice = Unit {0}
  Has (Live revs) = HasBirth revs

  abbrev Good : Global (Both M) → Type 0
  Good g = WellForked (W M) g × Has g

  kept_by : (revs : Revisions (W M)) → WellForked (W M) (Live revs) → HasBirth revs
      → (s : Path) (l l' : Both M) (o : Path) (e : Entry (Both M)) → revs s ≡ Some (Plain l)
      → Role (W M) revs s l l' o e → HasBirth (put_two revs s (Plain l') o e)
  kept_by revs good has s l l' o e here x = go (decide_same s r) (decide_same o r) (place (W M) x)
    where
      after : Revisions (W M)
      after = put_two revs s (Plain l') o e

      -- what stood at s
      was : s ≡ r → l.1 ≡ b
      was sr = let same : Plain l ≡ has.0 = some_eq (sym here ∙ ap revs sr ∙ has.1) in ap birth same ∙ has.2

      at_s : s ≡ r → l'.1 ≡ l.1 → HasBirth after
      at_s sr same = (Plain l', ap after (sym sr) ∙ two_here revs s o (Plain l') e, same ∙ was sr)

      moved_birth : (k : Both M) (v : Event M.Local) → with_birth l.1 v ≡ Moves k → k.1 ≡ l.1
      moved_birth k (Moves j) f =
          let z : Moves (j, l.1) ≡ Moves k = f in let w : (j, l.1) ≡ k = cc in sym (ap (λ u. u.1) w)
      moved_birth k (Forks j c) f = absurd (let z : Forks (j, l.1) (c, c) ≡ Moves k = f in cc)
      moved_birth k (Joins q) f = absurd (let z : Joins q ≡ Moves k = f in cc)
      moved_birth k Ended f = absurd (let z : Ended ≡ Moves k = f in cc)

      forked_birth : (k c : Both M) (v : Event M.Local) → with_birth l.1 v ≡ Forks k c → k.1 ≡ l.1
      forked_birth k c (Forks j d) f =
          let z : Forks (j, l.1) (d, d) ≡ Forks k c = f in let w : (j, l.1) ≡ k = cc in sym (ap (λ u. u.1) w)
      forked_birth k c (Moves j) f = absurd (let z : Moves (j, l.1) ≡ Forks k c = f in cc)
      forked_birth k c (Joins q) f = absurd (let z : Joins q ≡ Forks k c = f in cc)
      forked_birth k c Ended f = absurd (let z : Ended ≡ Forks k c = f in cc)

      go : (s ≡ r) ⊎ (s ≢ r) → (o ≡ r) ⊎ (o ≢ r) → Place (W M) revs s l l' o e → HasBirth after
      go (inl sr) z (own does _ _) = at_s sr (moved_birth l' (M.next s l.0) does)
      go (inl sr) z (new c does _ _) = at_s sr (forked_birth l' c (M.next s l.0) does)
      go (inl sr) z (marks lq does _ _ is _) = at_s sr (ap (λ u. u.1) is)
      go (inr sr) (inr or) p = (has.0, two_other revs s o (Plain l') e r sr or ∙ has.1, has.2)
      go (inr sr) (inl or) (own _ a _) = absurd (sr (sym a ∙ or))
      go (inr sr) (inl or) (new c _ a _) =
          none_some (sym (fresh_of (W M) revs good s l here) ∙ ap revs (sym a ∙ or) ∙ has.1)
      go (inr sr) (inl or) (marks lq _ there _ _ ee) =
          let same : Plain lq ≡ has.0 = some_eq (sym there ∙ ap revs or ∙ has.1) in (
            Joined lq,
            ap after (sym or) ∙ two_there revs s o (Plain l') e (λ v. sr (v ∙ or)) ∙ ap Some ee,
            ap birth same ∙ has.2,
          )

  keeps : (g h : Global (Both M)) (s : Path) → Good g → step (W M) g s ≡ Some h → Good h
  keeps Twice h s good e = none_some e
  keeps (Live revs) h s good e =
      (keeps_forked (W M) (counts_same M counts) (Live revs) h s good.0 e, by h (way (W M) revs s h e))
    where
      by : (h : Global (Both M)) → Way (W M) revs s h → Has h
      by h (writes l l' o f here x) = kept_by revs good.0 good.1 s l l' o f here x
      by h (twice l q lq here does there) = tt

  pub kept_along : (rs : List Path) (g h : Global (Both M)) → WellForked (W M) g → Has g → Runs (W M) g rs h → Has h
  kept_along rs g h good has runs = (along (W M) Good keeps rs g h (good, has) runs).1

-- ---- the one state of a birth

module _ (M : Machine) (main : M.Local) (counts : Counts M) where
  abbrev begins : Global (Both M)
  begins = start (W M) (main, main)

  counts' : Counts (W M)
  counts' = counts_same M counts

  first_good : WellForked (W M) begins
  first_good = start_forked (W M) (main, main)

  -- a state reached with a birth, which is there in a complete run's end
  module _ (rs : List Path) (h : Global (Both M)) (complete : Complete (W M) begins rs h) (r : Path) (b : M.Local) where
    from : (ps : List Path) (g : Global (Both M)) → Runs (W M) begins ps g → Has M counts r b g → Has M counts r b h
    from ps g runs has =
        let good = along (W M) (WellForked (W M)) (keeps_forked (W M) counts') ps begins g first_good runs in
        let rest = to_end (W M) counts' ps begins g h rs first_good runs complete.runs complete.final in
        kept_along M counts r b rest.0 g h good has rest.1

    at_start : r ≡ [] → b ≡ main → Has M counts r b begins
    at_start is same = (
      Plain (main, main),
      ap (with_at nowhere [] (Plain (main, main))) is ∙ at_here nowhere [] (Plain (main, main)),
      sym same,
    )

    by_fork : IsForkedIn M main r b → Has M counts r b h
    by_fork f =
        let run =
        lift M f.reached.by begins (Live f.revs)
        (subst (λ m. Runs M m f.reached.by (Live f.revs)) (sym (start_same M main)) f.reached.runs) in
        in_state run.end run.runs run.is
      where
        in_map : (ps : List Path) (us : Revisions (W M)) → Runs (W M) begins ps (Live us)
            → (o : Option (Entry (Both M))) → us f.forker ≡ o → plain_option M o ≡ Some (Plain f.before)
            → Has M counts r b h
        in_map ps us runs None here e = none_some e
        in_map ps us runs (Some (Joined l)) here e =
            absurd (let z : Some (Joined l.0) ≡ Some (Plain f.before) = e in cc)
        in_map ps us runs (Some (Plain l)) here e =
            let same : l.0 ≡ f.before = (let z : Some (Plain l.0) ≡ Some (Plain f.before) = e in cc) in
            let does : with_birth l.1 (M.next f.forker l.0) ≡ Forks (f.after, l.1) (b, b) =
            ap (with_birth l.1) (ap (M.next f.forker) same ∙ f.forks) in
            in_fork l here same does
          where
            in_fork : (l : Both M) → us f.forker ≡ Some (Plain l) → l.0 ≡ f.before
                → (W M).next f.forker l ≡ Forks (f.after, l.1) (b, b) → Has M counts r b h
            in_fork l here same does =
                let kid = child f.forker (M.forks l.0) in
                let next : Global (Both M) =
                Live (with_at (with_at us f.forker (Plain (f.after, l.1))) kid (Plain (b, b))) in
                let s : step (W M) (Live us) f.forker ≡ Some next =
                ap (step_at (W M) us f.forker) here ∙ ap (happens (W M) us f.forker l) does in
                let there : r ≡ kid = f.is ∙ ap (λ v. child f.forker (M.forks v)) (sym same) in
                from (ps ++ f.forker ∷ []) next (runs_then (W M) ps begins (Live us) next f.forker runs s) (
                  Plain (b, b),
                  ap (with_at (with_at us f.forker (Plain (f.after, l.1))) kid (Plain (b, b))) there
                      ∙ at_here (with_at us f.forker (Plain (f.after, l.1))) kid (Plain (b, b)),
                  refl,
                )

        in_state : (g : Global (Both M)) → Runs (W M) begins f.reached.by g → plain M g ≡ Live f.revs
            → Has M counts r b h
        in_state Twice runs e = absurd (let z : Twice ≡ Live f.revs = e in cc)
        in_state (Live us) runs e =
            let same : plain_map M us ≡ f.revs = (let z : Live (plain_map M us) ≡ Live f.revs = e in cc) in
            in_map f.reached.by us runs (us f.forker) refl (ap (λ m. m f.forker) same ∙ f.there)

    pub of_born : Born M main r b → Has M counts r b h
    of_born (first is same) = from [] begins refl (at_start is same)
    of_born (forked f) = by_fork f

  pub one_birth : OneBirth M main
  one_birth rs h complete r b b' one two =
      let run = lift M rs begins (Live h) (subst (λ m. Runs M m rs (Live h)) (sym (start_same M main)) complete.runs) in
      in_end run.end run.runs run.is
    where
      in_end : (e : Global (Both M)) → Runs (W M) begins rs e → plain M e ≡ Live h → b ≡ b'
      in_end Twice runs is = absurd (let z : Twice ≡ Live h = is in cc)
      in_end (Live us) runs is =
          let whole : Complete (W M) begins rs (Live us) =
          record { runs = runs; final = final_same M (Live us) (subst (Final M) (sym is) complete.final) } in
          let x = of_born rs (Live us) whole r b one in
          let y = of_born rs (Live us) whole r b' two in
          let same : x.0 ≡ y.0 = some_eq (sym x.1 ∙ y.1) in
          sym x.2 ∙ ap (birth M counts r b) same ∙ y.2

  pub born_stand : BornStand M main
  born_stand rs h complete r b one =
      let run = lift M rs begins (Live h) (subst (λ m. Runs M m rs (Live h)) (sym (start_same M main)) complete.runs) in
      in_end run.end run.runs run.is
    where
      in_end : (e : Global (Both M)) → Runs (W M) begins rs e → plain M e ≡ Live h
          → (f : Entry M.Local) × (h r ≡ Some f)
      in_end Twice runs is = absurd (let z : Twice ≡ Live h = is in cc)
      in_end (Live us) runs is =
          let whole : Complete (W M) begins rs (Live us) =
          record { runs = runs; final = final_same M (Live us) (subst (Final M) (sym is) complete.final) } in
          let x = of_born rs (Live us) whole r b one in
          let same : plain_map M us ≡ h = (let z : Live (plain_map M us) ≡ Live h = is in cc) in
          (plain_entry M x.0, ap (λ m. m r) (sym same) ∙ ap (plain_option M) x.1)
