-- A revision's own run, step by step: what it comes to is its computed part, and the children are those that it forks.
use Rattle.std.proofs.Common.{◌≡◌, ◌⊎◌, inl, inr, ℕ, List, [], ◌∷◌, ◌++◌, Some, refl, sym, ap, ◌∙◌, subst}
use Rattle.rev_num.specs.Path.{Path, child}
use Rattle.typed_programs.specs.Least.{Among}
use Rattle.typed_programs.proofs.Firsts.{left_among, right_among, last_among}
use Rattle.revision_machine.specs.Machine.{Forks}
use Rattle.revision_calculus.specs.Program.{Setting}
use Rattle.revision_calculus.specs.State.{Local}
use Rattle.revision_calculus.specs.Step.{next}
use Rattle.revision_calculus.specs.Calculus.{calculus}
use Rattle.rev_audit.specs.declared.alone.LocalState.{LocalState}
use Rattle.trace_diagram.specs.declared.diagram.Part.{Part}
use Rattle.audit_rules.specs.Audited.{Computed, Alone, by_move, by_fork, by_join, Passes, at_first, then_by, Computes, ends, at_twice, at_missing, of_fork}
use Rattle.audit_rules.specs.Parts.{calculus_parts}
use Rattle.audit_rules.specs.Traces.{part_at}
use Rattle.audit_rules.proofs.OneOwnRun.{none_some, move_fork, fork_join, fork_end, same_fork, one_step, step_goes, step_takes, Headed, stands, steps, headed, computes_since}
use Rattle.rev_audit.specs.Own as own
use Rattle.rev_audit.specs.Own.{BeginsAt, Goes, Stops, ComesTo}

module _ (s : Setting) (fuel : ℕ) (parts : List Part) (r : Path) (a : Local) where
  abbrev pub Step : Local → Local → Type 0
  Step = Alone (calculus s) (calculus_parts s fuel) (part_at parts) r

  abbrev pub Way : Local → Local → Type 0
  Way = Passes (calculus s) (calculus_parts s fuel) (part_at parts) r

  abbrev pub Going : Local → List LocalState → Type 0
  Going = Goes s fuel parts r a

  -- the states that it passes
  pub passes : (l : Local) (ks : List LocalState) → Going l ks → Way a l
  passes l ks own.at_first = at_first
  passes l ks (own.moved k _ _ g e) = then_by k l (passes k ks g) (by_move e)
  passes l ks (own.forked k _ c js g e at) = then_by k l (passes k js g) (by_fork c.local e)
  passes l ks (own.joined k _ q _ g e once is) = then_by k l (passes k ks g) (by_join q e once is)

  -- a state that it passes is before this one with its forks among the children, or comes after it
  abbrev pub ForkedOr : List LocalState → (l m : Local) (c : Local) → Type 0
  ForkedOr ks l m c = ((x : LocalState) × Among ks x × (x.path ≡ child r m.forks) × (x.local ≡ c)) ⊎ Way l m

  -- the same after a step that is no fork
  after : (l l' m m' c : Local) (ks : List LocalState) → Step l l' → ((m'' d : Local) → next s r l ≡ Forks m'' d → ⊥)
      → next s r m ≡ Forks m' c → ForkedOr ks l m c → ForkedOr ks l' m c
  after l l' m m' c ks step no_fork does (inl h) = inl h
  after l l' m m' c ks step no_fork does (inr w) =
      go (headed (calculus s) (calculus_parts s fuel) (part_at parts) r l m w)
    where
      go : Headed (calculus s) (calculus_parts s fuel) (part_at parts) r l m → ForkedOr ks l' m c
      go (stands is) = absurd (no_fork m' c (ap (next s r) is ∙ does))
      go (steps b t v) =
          inr (subst (λ x. Way x m) (one_step (calculus s) (calculus_parts s fuel) (part_at parts) r l b l' t step) v)

  pub forks_listed : (l : Local) (ks : List LocalState) → Going l ks → (m m' c : Local) → Way a m
      → next s r m ≡ Forks m' c → ForkedOr ks l m c
  forks_listed l ks own.at_first m m' c w does = inr w
  forks_listed l ks (own.moved k _ _ g e) m m' c w does =
      after k l m m' c ks (by_move e) (λ x d f. move_fork (calculus s) e f) does (forks_listed k ks g m m' c w does)
  forks_listed l ks (own.joined k _ q _ g e once is) m m' c w does =
      after k l m m' c ks (by_join q e once is) (λ x d f. fork_join (calculus s) f e) does
      (forks_listed k ks g m m' c w does)
  forks_listed l ks (own.forked k _ d js g e at) m m' c w does = go (forks_listed k js g m m' c w does)
    where
      go : ForkedOr js k m c → ForkedOr (js ++ d ∷ []) l m c
      go (inl h) = inl (h.0, left_among js (d ∷ []) h.0 h.1, h.2, h.3)
      go (inr v) = by (headed (calculus s) (calculus_parts s fuel) (part_at parts) r k m v)
        where
          by : Headed (calculus s) (calculus_parts s fuel) (part_at parts) r k m → ForkedOr (js ++ d ∷ []) l m c
          by (stands is) =
              let both = same_fork (calculus s) e (ap (next s r) is ∙ does) in
              inl (d, right_among js (d ∷ []) d (inl refl), at ∙ ap (λ x. child r x.forks) is, both.1)
          by (steps b t u) =
              inr (subst (λ x. Way x m)
              (one_step (calculus s) (calculus_parts s fuel) (part_at parts) r k b l t (by_fork d.local e)) u)

  -- ---- what it comes to

  pub comes_to : (c : Computed Part) (ks : List LocalState) → ComesTo s fuel parts r a c ks
      → Computes (calculus s) (calculus_parts s fuel) (part_at parts) r a c
  comes_to c ks h =
      computes_since (calculus s) (calculus_parts s fuel) (part_at parts) r a h.last c (passes h.last ks h.goes)
      (go h.last c h.stops)
    where
      go : (l : Local) (c : Computed Part) → Stops s fuel parts r l c
          → Computes (calculus s) (calculus_parts s fuel) (part_at parts) r l c
      go l _ (own.ended e) = ends l e
      go l _ (own.twice q e t) = at_twice l q e t
      go l _ (own.wants q e once none) = at_missing l q e once none

  -- it does nothing more
  stops_here : (l : Local) (c : Computed Part) → Stops s fuel parts r l c → (l' : Local) → Step l l' → ⊥
  stops_here l _ (own.ended e) l' t = step_goes (calculus s) (calculus_parts s fuel) (part_at parts) r l l' t e
  stops_here l _ (own.twice q e w) l' t =
      (step_takes (calculus s) (calculus_parts s fuel) (part_at parts) r l l' q t e).once w
  stops_here l _ (own.wants q e once none) l' t =
      none_some (sym none ∙ (step_takes (calculus s) (calculus_parts s fuel) (part_at parts) r l l' q t e).is)

  no_fork_here : (l : Local) (c : Computed Part) → Stops s fuel parts r l c → (l' d : Local) → next s r l ≡ Forks l' d
      → ⊥
  no_fork_here l _ (own.ended e) l' d f = fork_end (calculus s) f e
  no_fork_here l _ (own.twice q e w) l' d f = fork_join (calculus s) f e
  no_fork_here l _ (own.wants q e once none) l' d f = fork_join (calculus s) f e

  -- all that it forks is among the children
  pub all_children : (c : Computed Part) (ks : List LocalState) → ComesTo s fuel parts r a c ks → (m m' d : Local)
      → Way a m → next s r m ≡ Forks m' d → (x : LocalState) × Among ks x × (x.path ≡ child r m.forks) × (x.local ≡ d)
  all_children c ks h m m' d w does = go (forks_listed h.last ks h.goes m m' d w does)
    where
      go : ForkedOr ks h.last m d → (x : LocalState) × Among ks x × (x.path ≡ child r m.forks) × (x.local ≡ d)
      go (inl x) = x
      go (inr v) = by (headed (calculus s) (calculus_parts s fuel) (part_at parts) r h.last m v)
        where
          by : Headed (calculus s) (calculus_parts s fuel) (part_at parts) r h.last m
              → (x : LocalState) × Among ks x × (x.path ≡ child r m.forks) × (x.local ≡ d)
          by (stands is) = absurd (no_fork_here h.last c h.stops m' d (ap (next s r) is ∙ does))
          by (steps b t u) = absurd (stops_here h.last c h.stops b t)

  -- each child begins, where the revision has a stated part
  pub child_begins : (p : Part) → part_at parts r ≡ Some p → BeginsAt s fuel parts r a
      → (l : Local) (ks : List LocalState) → Going l ks → (x : LocalState) → Among ks x
      → BeginsAt s fuel parts x.path x.local
  child_begins p so begins l ks own.at_first x i = absurd i
  child_begins p so begins l ks (own.moved k _ _ g e) x i = child_begins p so begins k ks g x i
  child_begins p so begins l ks (own.joined k _ q _ g e once is) x i = child_begins p so begins k ks g x i
  child_begins p so begins l ks (own.forked k _ d js g e at) x i =
      go (last_among js d x i) (child_begins p so begins k js g x)
    where
      go : Among js x ⊎ (d ≡ x) → (Among js x → BeginsAt s fuel parts x.path x.local)
          → BeginsAt s fuel parts x.path x.local
      go (inl j) earlier = earlier j
      go (inr is) earlier =
          subst (λ v. BeginsAt s fuel parts v.path v.local) is
          (of_fork d.path d.local r a k l p begins so (passes k js g) e at)
