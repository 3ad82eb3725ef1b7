-- What each event keeps holds of each revision.
use Rattle.std.proofs.Common.{◌≡◌, ◌≢◌, ◌⊎◌, inl, inr, [], ◌∷◌, Some, sym, ap, ◌∙◌, subst}
use Rattle.rev_num.specs.Path.{Path}
use Rattle.rev_num.proofs.Options.{none_some}
use Rattle.revision_machine.specs.Machine.{Machine, Entry, Plain, Joined, Global, Twice, Live, Revisions, start, step}
use Rattle.revision_machine.specs.Conditions.{IsKept}
use Rattle.revision_machine.specs.Laws.{local_of, Everywhere, KeptLaw}
use Rattle.revision_machine.proofs.Paths.{some_inj, decide_same}
use Rattle.revision_machine.proofs.Way.{put_two, Role, Way, writes, twice, way, Place, own, new, marks, place}
use Rattle.revision_machine.proofs.Diamond.{two_here, two_there, two_other}
use Rattle.revision_machine.proofs.Ends.{along}

module _ (M : Machine) (main : M.Local) (P : Path → M.Local → Type 0) (kept : IsKept M P) (first : P [] main) where
  kept_step : (revs : Revisions M) → Everywhere M P (Live revs)
      → (s : Path) (l l' : M.Local) (o : Path) (e : Entry M.Local) → revs s ≡ Some (Plain l) → Role M revs s l l' o e
      → Everywhere M P (Live (put_two revs s (Plain l') o e))
  kept_step revs all s l l' o e here x r f there = go (decide_same s r) (decide_same o r) (place M x)
    where
      here' : P s l
      here' = all s (Plain l) here

      -- what stands at a path has the fact where what was written there has
      at : (p : Path) (g : Entry M.Local) → p ≡ r → put_two revs s (Plain l') o e p ≡ Some g → P p (local_of g)
          → P r (local_of f)
      at p g pr is h =
          let same : g ≡ f = some_inj (sym is ∙ ap (put_two revs s (Plain l') o e) pr ∙ there) in
          subst (λ v. P r (local_of v)) same (subst (λ v. P v (local_of g)) pr h)

      go : (s ≡ r) ⊎ (s ≢ r) → (o ≡ r) ⊎ (o ≢ r) → Place M revs s l l' o e → P r (local_of f)
      go (inl sr) z (own does _ _) = at s (Plain l') sr (two_here revs s o (Plain l') e) (kept.moves s l l' here' does)
      go (inl sr) z (new c does _ _) =
          at s (Plain l') sr (two_here revs s o (Plain l') e) (kept.forker s l l' c here' does)
      go (inl sr) z (marks lq does was ended jl _) =
          at s (Plain l') sr (two_here revs s o (Plain l') e)
          (subst (P s) (sym jl) (kept.joins s o l lq here' (all o (Plain lq) was) does ended))
      go (inr sr) (inr or) p = all r f (sym (two_other revs s o (Plain l') e r sr or) ∙ there)
      go (inr sr) (inl or) (own _ a _) = absurd (sr (sym a ∙ or))
      go (inr sr) (inl or) (new c does a ee) =
          at o (Plain c) or (two_there revs s o (Plain l') e (λ v. sr (v ∙ or)) ∙ ap Some ee)
          (subst (λ v. P v c) (sym a) (kept.forked s l l' c here' does))
      go (inr sr) (inl or) (marks lq does was ended jl ee) =
          at o (Joined lq) or (two_there revs s o (Plain l') e (λ v. sr (v ∙ or)) ∙ ap Some ee) (all o (Plain lq) was)

  keeps : (g h : Global M.Local) (r : Path) → Everywhere M P g → step M g r ≡ Some h → Everywhere M P h
  keeps Twice h r all s = none_some s
  keeps (Live revs) h r all s = by h (way M revs r h s)
    where
      by : (h : Global M.Local) → Way M revs r h → Everywhere M P h
      by h (writes l l' o e here x) = kept_step revs all r l l' o e here x
      by h (twice l q lq here does there) = tt

  begins : Everywhere M P (start M main)
  begins [] e there = subst (λ v. P [] (local_of v)) (some_inj there) first
  begins (x ∷ r) e there = none_some there

  pub kept_law : KeptLaw M main P
  kept_law g reached = along M (Everywhere M P) keeps reached.by (start M main) g begins reached.runs
