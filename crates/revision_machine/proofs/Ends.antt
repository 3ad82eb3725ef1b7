-- The diamond from any reached state, and the one end of all complete runs.
use Rattle.std.proofs.Common.{◌≡◌, ◌≢◌, ◌⊎◌, inl, inr, List, [], ◌∷◌, Some, refl, sym, ap, ◌∙◌, subst}
use Rattle.rev_num.specs.Path.{Path}
use Rattle.rev_num.proofs.Options.{none_some}
use Rattle.revision_machine.specs.Machine.{Machine, Global, Twice, Live, start, step, Runs, Final}
use Rattle.revision_machine.specs.Conditions.{Counts}
use Rattle.revision_machine.specs.Laws.{WellForked, Follows, Diamond, DiamondLaw, UniqueEnd, ForkerLaw, TwiceIsFinal, TwiceInAll}
use Rattle.revision_machine.proofs.Paths.{some_inj, decide_same}
use Rattle.revision_machine.proofs.Diamond.{diamond_live}
use Rattle.revision_machine.proofs.Forker.{fresh_of, keeps_forked, start_forked}

module _ (M : Machine) where
  -- what holds at a start and is kept by each step holds in each reached state
  pub along : (P : Global M.Local → Type 0) → ((g h : Global M.Local) (r : Path) → P g → step M g r ≡ Some h → P h)
      → (rs : List Path) (g h : Global M.Local) → P g → Runs M g rs h → P h
  along P keeps [] g h p runs = subst P runs p
  along P keeps (r ∷ rs) g h p runs = along P keeps rs runs.0 h (keeps g runs.0 r p runs.1) runs.2

  pub reached_forked : (main : M.Local) → Counts M → ForkerLaw M main
  reached_forked main counts g reached =
      along (WellForked M) (keeps_forked M counts) reached.by (start M main) g (start_forked M main) reached.runs

  pub diamond : Counts M → (g a b : Global M.Local) (p q : Path) → WellForked M g → p ≢ q → step M g p ≡ Some a
      → step M g q ≡ Some b → Diamond M p q a b
  diamond counts Twice a b p q good apart s t = none_some s
  diamond counts (Live revs) a b p q good apart s t = diamond_live M revs (fresh_of M revs good) a b p q apart s t

  pub diamond_law : (main : M.Local) → Counts M → DiamondLaw M main
  diamond_law main counts g a b p q reached = diamond counts g a b p q (reached_forked main counts g reached)

  -- Twice is the end of its runs
  from_twice : (rs : List Path) (h : Global M.Local) → Runs M Twice rs h → Twice ≡ h
  from_twice [] h runs = runs
  from_twice (r ∷ rs) h runs = none_some runs.1

  -- after any step the same end can still be reached
  pub strip : Counts M → (rs : List Path) (g b h : Global M.Local) (q : Path) → WellForked M g → Runs M g rs h
      → Final M h → step M g q ≡ Some b → (qs : List Path) × Runs M b qs h
  strip counts [] g b h q good runs final s = none_some (sym (final q) ∙ ap (λ v. step M v q) (sym runs) ∙ s)
  strip counts (p ∷ rs) g b h q good runs final s =
      by (λ e t. strip counts rs runs.0 e h q (keeps_forked M counts g runs.0 p good runs.1) runs.2 final t)
      (decide_same p q)
    where
      a : Global M.Local
      a = runs.0

      Later : Type 0
      Later = (e : Global M.Local) → step M a q ≡ Some e → (qs : List Path) × Runs M e qs h

      same_end : Later → (d : Diamond M p q a b) → Follows M a q d.end → Follows M b p d.end
          → (qs : List Path) × Runs M b qs h
      same_end later d (inl t) (inl u) = let rest = later d.end t in (p ∷ rest.0, (d.end, u, rest.1))
      same_end later d (inl t) (inr u) =
          let rest = later d.end t in (rest.0, subst (λ v. Runs M v rest.0 h) (u.1 ∙ sym u.0) rest.1)
      same_end later d (inr t) (inl u) =
          (p ∷ [], (d.end, u, t.1 ∙ from_twice rs h (subst (λ v. Runs M v rs h) t.0 runs.2)))
      same_end later d (inr t) (inr u) = ([], u.0 ∙ from_twice rs h (subst (λ v. Runs M v rs h) t.0 runs.2))

      by : Later → (p ≡ q) ⊎ (p ≢ q) → (qs : List Path) × Runs M b qs h
      by later (inl e) =
          let is : a ≡ b = some_inj (sym runs.1 ∙ ap (step M g) e ∙ s) in
          (rs, subst (λ v. Runs M v rs h) is runs.2)
      by later (inr apart) = let d = diamond counts g a b p q good apart runs.1 s in same_end later d d.first d.second

  pub unique_from : Counts M → (qs ps : List Path) (g h i : Global M.Local) → WellForked M g → Runs M g ps h → Final M h
      → Runs M g qs i → Final M i → h ≡ i
  unique_from counts [] [] g h i good one f two f' = sym one ∙ two
  unique_from counts [] (p ∷ ps) g h i good one f two f' =
      none_some (sym (f' p) ∙ ap (λ v. step M v p) (sym two) ∙ one.1)
  unique_from counts (q ∷ qs) ps g h i good one f two f' =
      let rest = strip counts ps g two.0 h q good one f two.1 in
      unique_from counts qs rest.0 two.0 h i (keeps_forked M counts g two.0 q good two.1) rest.1 f two.2 f'

  pub unique_end : (main : M.Local) → Counts M → UniqueEnd M main
  unique_end main counts g h i ps qs reached one two =
      unique_from counts qs ps g h i (reached_forked main counts g reached) one.runs one.final two.runs two.final

  pub twice_final : TwiceIsFinal M
  twice_final r = refl

  -- a run to Twice is complete
  pub twice_in_all : (main : M.Local) → Counts M → TwiceInAll M main
  twice_in_all main counts h ps qs one two =
      sym (unique_from counts qs ps (start M main) Twice h (start_forked M main) one twice_final two.runs two.final)
