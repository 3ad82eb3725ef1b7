-- Each step other than one to Twice writes the stepper's entry and one other.
use Rattle.std.proofs.Common.{◌≡◌, ◌≢◌, Option, Some, None, refl, sym, ap, ◌∙◌, subst}
use Rattle.rev_num.specs.Path.{Path, child}
use Rattle.rev_num.proofs.Options.{none_some as no_none}
use Rattle.revision_machine.specs.PathMap.{PathMap, with_at}
use Rattle.revision_machine.specs.Machine.{Event, Moves, Forks, Joins, Ended, Machine, Entry, Plain, Joined, Global, Twice, Live, Revisions, step, step_at, happens, join_at, join_ended}
use Rattle.revision_machine.proofs.Paths.{overwrite, swap, some_inj, child-apart}

-- a at r, and b at o unless that is r
abbrev pub put_two : {A : Type 0} → PathMap A → Path → A → Path → A → PathMap A
put_two m r a o b = with_at (with_at m o b) r a

module _ (M : Machine) where
  -- what r, at l, becomes, and what is written at which other path
  pub data Role (revs : Revisions M) (r : Path) (l : M.Local) : M.Local → Path → Entry M.Local → Type 0 where
    itself : (l' : M.Local) → M.next r l ≡ Moves l' → Role revs r l l' r (Plain l')
    forked : (l' c : M.Local) → M.next r l ≡ Forks l' c → Role revs r l l' (child r (M.forks l)) (Plain c)
    met : (q : Path) (lq : M.Local) → M.next r l ≡ Joins q → revs q ≡ Some (Plain lq) → M.next q lq ≡ Ended
        → Role revs r l (M.join r l q lq) q (Joined lq)

  pub data Way (revs : Revisions M) (r : Path) : Global M.Local → Type 0 where
    writes : (l l' : M.Local) (o : Path) (e : Entry M.Local) → revs r ≡ Some (Plain l) → Role revs r l l' o e
        → Way revs r (Live (put_two revs r (Plain l') o e))
    twice : (l : M.Local) (q : Path) (lq : M.Local) → revs r ≡ Some (Plain l) → M.next r l ≡ Joins q
        → revs q ≡ Some (Joined lq) → Way revs r Twice

  pub plain_inj : {a b : M.Local} → Some (Plain a) ≡ Some (Plain b) → a ≡ b
  plain_inj e = cc

  plain_joined : {P : Type 0} {a b : M.Local} → Some (Plain a) ≡ Some (Joined b) → P
  plain_joined e = absurd cc

  -- one that can go on is not one that has ended
  pub ended_apart : (revs : Revisions M) (r q : Path) (l lq : M.Local) → revs r ≡ Some (Plain l) → M.next r l ≢ Ended
      → revs q ≡ Some (Plain lq) → M.next q lq ≡ Ended → r ≢ q
  ended_apart revs r q l lq here going there f e =
      let same_l : l ≡ lq = plain_inj (sym here ∙ ap revs e ∙ there) in
      going ((λ i. M.next (e i) (same_l i)) ∙ f)

  pub going : {revs : Revisions M} {r : Path} {l l' : M.Local} {o : Path} {e : Entry M.Local} → Role revs r l l' o e
      → M.next r l ≢ Ended
  going (itself l' does) f = let clash : Moves l' ≡ Ended = sym does ∙ f in cc
  going (forked l' c does) f = let clash : Forks l' c ≡ Ended = sym does ∙ f in cc
  going (met q lq does there e) f = let clash : Joins q ≡ Ended = sym does ∙ f in cc

  pub way : (revs : Revisions M) (r : Path) (h : Global M.Local) → step M (Live revs) r ≡ Some h → Way revs r h
  way revs r h s = of_entry (revs r) refl s
    where
      of_join : (l : M.Local) (q : Path) (lq : M.Local) → revs r ≡ Some (Plain l) → M.next r l ≡ Joins q
          → revs q ≡ Some (Plain lq) → (v : Event M.Local) → M.next q lq ≡ v → join_ended M revs r l q lq v ≡ Some h
          → Way revs r h
      of_join l q lq here does there Ended f s =
          let apart : r ≢ q =
          ended_apart revs r q l lq here (λ e. let clash : Joins q ≡ Ended = sym does ∙ e in cc) there f in
          subst (Way revs r) (sym (ap Live (swap revs r q (Plain (M.join r l q lq)) (Joined lq) apart)) ∙ some_inj s)
          (writes l _ q (Joined lq) here (met q lq does there f))
      of_join l q lq here does there (Moves _) f s = no_none s
      of_join l q lq here does there (Forks _ _) f s = no_none s
      of_join l q lq here does there (Joins _) f s = no_none s

      of_target : (l : M.Local) (q : Path) → revs r ≡ Some (Plain l) → M.next r l ≡ Joins q
          → (e : Option (Entry M.Local)) → revs q ≡ e → join_at M revs r l q e ≡ Some h → Way revs r h
      of_target l q here does None there s = no_none s
      of_target l q here does (Some (Joined lq)) there s =
          subst (Way revs r) (some_inj s) (twice l q lq here does there)
      of_target l q here does (Some (Plain lq)) there s = of_join l q lq here does there (M.next q lq) refl s

      of_event : (l : M.Local) → revs r ≡ Some (Plain l) → (v : Event M.Local) → M.next r l ≡ v
          → happens M revs r l v ≡ Some h → Way revs r h
      of_event l here (Moves l') does s =
          subst (Way revs r) (ap Live (overwrite revs r (Plain l') (Plain l')) ∙ some_inj s)
          (writes l l' r (Plain l') here (itself l' does))
      of_event l here (Forks l' c) does s =
          subst (Way revs r)
          (sym (ap Live (swap revs r _ (Plain l') (Plain c) (child-apart r (M.forks l)))) ∙ some_inj s)
          (writes l l' _ (Plain c) here (forked l' c does))
      of_event l here (Joins q) does s = of_target l q here does (revs q) refl s
      of_event l here Ended does s = no_none s

      of_entry : (e : Option (Entry M.Local)) → revs r ≡ e → step_at M revs r e ≡ Some h → Way revs r h
      of_entry None here s = no_none s
      of_entry (Some (Joined l)) here s = no_none s
      of_entry (Some (Plain l)) here s = of_event l here (M.next r l) refl s

  -- the same step in any state with the same two entries
  pub again : (revs other : Revisions M) (r : Path) (l l' : M.Local) (o : Path) (e : Entry M.Local)
      → Role revs r l l' o e → other r ≡ Some (Plain l) → other o ≡ revs o
      → step M (Live other) r ≡ Some (Live (put_two other r (Plain l') o e))
  again revs other r l l' o e (itself _ does) here there =
      ap (step_at M other r) here ∙ ap (happens M other r l) does
      ∙ ap (λ m. Some (Live m)) (sym (overwrite other r (Plain l') (Plain l')))
  again revs other r l l' o e (forked _ c does) here there =
      ap (step_at M other r) here ∙ ap (happens M other r l) does
      ∙ ap (λ m. Some (Live m)) (swap other r _ (Plain l') (Plain c) (child-apart r (M.forks l)))
  again revs other r l l' o e (met q lq does was f) here there =
      let apart : r ≢ q =
      ended_apart other r q l lq here (λ e. let clash : Joins q ≡ Ended = sym does ∙ e in cc) (there ∙ was) f in
      ap (step_at M other r) here ∙ ap (happens M other r l) does ∙ ap (join_at M other r l q) (there ∙ was)
      ∙ ap (join_ended M other r l q lq) f
      ∙ ap (λ m. Some (Live m)) (swap other r q (Plain (M.join r l q lq)) (Joined lq) apart)

  -- a join of a marked revision
  pub meets_marked : (other : Revisions M) (r : Path) (l : M.Local) (q : Path) (lq : M.Local) → M.next r l ≡ Joins q
      → other r ≡ Some (Plain l) → other q ≡ Some (Joined lq) → step M (Live other) r ≡ Some Twice
  meets_marked other r l q lq does here there =
      ap (step_at M other r) here ∙ ap (happens M other r l) does ∙ ap (join_at M other r l q) there

  -- a role, by equations
  pub data Place (revs : Revisions M) (r : Path) (l l' : M.Local) (o : Path) (e : Entry M.Local) : Type 0 where
    own : M.next r l ≡ Moves l' → o ≡ r → e ≡ Plain l' → Place revs r l l' o e
    new : (c : M.Local) → M.next r l ≡ Forks l' c → o ≡ child r (M.forks l) → e ≡ Plain c → Place revs r l l' o e
    marks : (lq : M.Local) → M.next r l ≡ Joins o → revs o ≡ Some (Plain lq) → M.next o lq ≡ Ended
        → l' ≡ M.join r l o lq → e ≡ Joined lq → Place revs r l l' o e

  pub place : {revs : Revisions M} {r : Path} {l l' : M.Local} {o : Path} {e : Entry M.Local} → Role revs r l l' o e
      → Place revs r l l' o e
  place (itself _ does) = own does refl refl
  place (forked _ c does) = new c does refl refl
  place (met q lq does was ended) = marks lq does was ended refl refl
