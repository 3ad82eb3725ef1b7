-- A run by a list of steps that is computed, and that its end is final.
use Rattle.std.proofs.Common.{◌≡◌, ◌≢◌, ◌⊎◌, inl, inr, ℕ, zero, suc, Bool, true, false, ◌&&◌, List, [], ◌∷◌, Option, Some, None, is_none, refl, sym, ap, ◌∙◌, subst}
use Rattle.std.proofs.lemmas.Bool.{and_parts}
use Rattle.rev_num.specs.Path.{Path, child}
use Rattle.rev_num.proofs.Options.{none_some as no_none}
use Rattle.revision_machine.specs.Machine.{Machine, Event, Moves, Forks, Joins, Ended, Entry, Plain, Joined, Global, Twice, Live, nowhere, Revisions, start, step, step_at, Runs, Final, Complete}
use Rattle.revision_machine.specs.Laws.{IsIn}
use Rattle.revision_machine.proofs.Paths.{decide_same, some_inj, at_other}
use Rattle.revision_machine.proofs.Way.{put_two, Way, writes, twice, way, Place, own, new, marks, place}
use Rattle.revision_machine.proofs.Diamond.{two_other}

module _ (M : Machine) where
  -- the child of a fork comes to the paths
  abbrev pub with_child : Path → M.Local → Event M.Local → List Path → List Path
  with_child r l (Forks l' c) ps = child r (M.forks l) ∷ ps
  with_child r l (Moves l') ps = ps
  with_child r l (Joins q) ps = ps
  with_child r l Ended ps = ps

  abbrev pub with_entry : Path → Option (Entry M.Local) → List Path → List Path
  with_entry r (Some (Plain l)) ps = with_child r l (M.next r l) ps
  with_entry r (Some (Joined l)) ps = ps
  with_entry r None ps = ps

  -- the paths of a state after a step of r
  abbrev pub grown : Global M.Local → Path → List Path → List Path
  grown Twice r ps = ps
  grown (Live revs) r ps = with_entry r (revs r) ps

  -- the state after these steps, where each can be made, and its paths
  abbrev pub played : Global M.Local → List Path → List Path → Option (Global M.Local × List Path)
  played g ps [] = Some (g, ps)
  played g ps (r ∷ rs) = elim (step M g r) [ None ↦ None | Some h ↦ played h (grown g r ps) rs ]

  -- none of these can step
  abbrev pub stuck : Global M.Local → List Path → Bool
  stuck g [] = true
  stuck g (p ∷ ps) = is_none (step M g p) && stuck g ps

  -- what f tells of the end of these steps, where each can be made and nothing steps after them
  abbrev pub told_by : {X : Type 0} → (Global M.Local → Option X) → Option (Global M.Local × List Path) → Option X
  told_by f None = None
  told_by f (Some t) = elim (stuck t.0 t.1) [ true ↦ f t.0 | false ↦ None ]

  abbrev pub told : {X : Type 0} → (Global M.Local → Option X) → M.Local → List Path → Option X
  told f main rs = told_by f (played (start M main) ([] ∷ []) rs)

  -- the revisions stand at these paths
  Within : Global M.Local → List Path → Type 0
  Within Twice ps = Unit {0}
  Within (Live revs) ps = (p : Path) (e : Entry M.Local) → revs p ≡ Some e → IsIn p ps

  grown_keeps : (revs : Revisions M) (r : Path) (ps : List Path) (p : Path) → IsIn p ps
      → IsIn p (grown (Live revs) r ps)
  grown_keeps revs r ps p i = of_entry (revs r)
    where
      of_event : (l : M.Local) (v : Event M.Local) → IsIn p (with_child r l v ps)
      of_event l (Moves l') = i
      of_event l (Forks l' c) = inr i
      of_event l (Joins q) = i
      of_event l Ended = i

      of_entry : (e : Option (Entry M.Local)) → IsIn p (with_entry r e ps)
      of_entry None = i
      of_entry (Some (Plain l)) = of_event l (M.next r l)
      of_entry (Some (Joined l)) = i

  grown_has : (revs : Revisions M) (r : Path) (ps : List Path) (l l' c : M.Local) → revs r ≡ Some (Plain l)
      → M.next r l ≡ Forks l' c → IsIn (child r (M.forks l)) (grown (Live revs) r ps)
  grown_has revs r ps l l' c here does =
      subst (λ e. IsIn (child r (M.forks l)) (with_entry r e ps)) (sym here)
      (subst (λ v. IsIn (child r (M.forks l)) (with_child r l v ps)) (sym does) (inl refl))

  within_step : (g h : Global M.Local) (r : Path) (ps : List Path) → Within g ps → step M g r ≡ Some h
      → Within h (grown g r ps)
  unfolding Within
  within_step Twice h r ps w s = no_none s
  within_step (Live revs) h r ps w s = by h (way M revs r h s)
    where
      Goal : Global M.Local → Type 0
      Goal h = Within h (grown (Live revs) r ps)

      by : (h : Global M.Local) → Way M revs r h → Within h (grown (Live revs) r ps)
      by h (twice l q lq here does there) = tt
      by h (writes l l' o e here role) = λ p v there. go p (decide_same r p) (decide_same o p) v there (place M role)
        where
          go : (p : Path) → (r ≡ p) ⊎ (r ≢ p) → (o ≡ p) ⊎ (o ≢ p) → (v : Entry M.Local)
              → put_two revs r (Plain l') o e p ≡ Some v → Place M revs r l l' o e → IsIn p (grown (Live revs) r ps)
          go p (inl same) o? v there x = grown_keeps revs r ps p (w p (Plain l) (ap revs (sym same) ∙ here))
          go p (inr apart) (inr other) v there x =
              grown_keeps revs r ps p (w p v (sym (two_other revs r o (Plain l') e p apart other) ∙ there))
          go p (inr apart) (inl same) v there (own does is ee) = absurd (apart (sym is ∙ same))
          go p (inr apart) (inl same) v there (new c does is ee) =
              subst (λ q. IsIn q (grown (Live revs) r ps)) (sym is ∙ same) (grown_has revs r ps l l' c here does)
          go p (inr apart) (inl same) v there (marks lq does at ended jl ee) =
              grown_keeps revs r ps p (w p (Plain lq) (ap revs (sym same) ∙ at))

  within_start : (main : M.Local) → Within (start M main) ([] ∷ [])
  unfolding Within
  within_start main p e there = go (decide_same [] p)
    where
      go : ([] ≡ p) ⊎ ([] ≢ p) → IsIn p ([] ∷ [])
      go (inl same) = inl (sym same)
      go (inr apart) = no_none (sym (at_other nowhere [] (Plain main) p apart) ∙ there)

  runs_of : (rs : List Path) (g : Global M.Local) (ps : List Path) (t : Global M.Local × List Path) → Within g ps
      → played g ps rs ≡ Some t → Runs M g rs t.0 × Within t.0 t.1
  runs_of [] g ps t w e = let is : (g, ps) ≡ t = some_inj e in (ap (λ v. v.0) is, subst (λ v. Within v.0 v.1) is w)
  runs_of (r ∷ rs) g ps t w e =
      go (λ h s f. runs_of rs h (grown g r ps) t (within_step g h r ps w s) f) (step M g r) refl e
    where
      go : ((h : Global M.Local) → step M g r ≡ Some h → played h (grown g r ps) rs ≡ Some t
          → Runs M h rs t.0 × Within t.0 t.1)
          → (o : Option (Global M.Local)) → step M g r ≡ o
          → elim o [ None ↦ None | Some h ↦ played h (grown g r ps) rs ] ≡ Some t
          → Runs M g (r ∷ rs) t.0 × Within t.0 t.1
      go later None s e = no_none e
      go later (Some h) s e = let rest = later h s e in ((h, s, rest.0), rest.1)

  is_stuck : (g : Global M.Local) (ps : List Path) (p : Path) → stuck g ps ≡ true → IsIn p ps → step M g p ≡ None
  is_stuck g [] p e none = absurd none
  is_stuck g (q ∷ ps) p e (inl same) = go (step M g q) refl (and_parts _ _ e).0
    where
      go : (o : Option (Global M.Local)) → step M g q ≡ o → is_none o ≡ true → step M g p ≡ None
      go None s f = ap (step M g) same ∙ s
      go (Some h) s f = absurd cc
  is_stuck g (q ∷ ps) p e (inr i) = is_stuck g ps p (and_parts _ _ e).1 i

  final_of : (g : Global M.Local) (ps : List Path) → Within g ps → stuck g ps ≡ true → Final M g
  unfolding Within
  final_of Twice ps w e r = refl
  final_of (Live revs) ps w e r = go (revs r) refl
    where
      go : (o : Option (Entry M.Local)) → revs r ≡ o → step M (Live revs) r ≡ None
      go None there = ap (step_at M revs r) there
      go (Some v) there = is_stuck (Live revs) ps r e (w r v there)

  -- these steps are a complete run, to a state of which f tells x
  pub record Told {X : Type 0} (f : Global M.Local → Option X) (main : M.Local) (rs : List Path) (x : X) : Type 0 where
    pub end : Global M.Local
    pub complete : Complete M (start M main) rs end
    pub tells : f end ≡ Some x

  pub complete_of : {X : Type 0} (f : Global M.Local → Option X) (main : M.Local) (rs : List Path) (x : X)
      → told f main rs ≡ Some x → Told f main rs x
  complete_of {X} f main rs x e = go (played (start M main) ([] ∷ []) rs) refl e
    where
      go : (o : Option (Global M.Local × List Path)) → played (start M main) ([] ∷ []) rs ≡ o → told_by f o ≡ Some x
          → Told f main rs x
      go None p e = no_none e
      go (Some t) p e = by (stuck t.0 t.1) refl e
        where
          by : (b : Bool) → stuck t.0 t.1 ≡ b → elim b [ true ↦ f t.0 | false ↦ None ] ≡ Some x → Told f main rs x
          by false s e = no_none e
          by true s e =
              let run = runs_of rs (start M main) ([] ∷ []) t (within_start main) p in
              record { end = t.0; complete = record { runs = run.0; final = final_of t.0 t.1 run.1 s }; tells = e }

  -- the first of these that can step, and the state after its step
  abbrev first_able : Global M.Local → List Path → Option (Path × Global M.Local)
  first_able g [] = None
  first_able g (p ∷ ps) = elim (step M g p) [ None ↦ first_able g ps | Some h ↦ Some (p, h) ]

  -- a list of at most so many steps, of which each is that of the latest revision that can step
  abbrev latest_from : ℕ → Global M.Local → List Path → List Path
  latest_from zero g ps = []
  latest_from (suc n) g ps = elim (first_able g ps) [ None ↦ [] | Some x ↦ x.0 ∷ latest_from n x.1 (grown g x.0 ps) ]

  abbrev pub latest : ℕ → M.Local → List Path
  latest n main = latest_from n (start M main) ([] ∷ [])
