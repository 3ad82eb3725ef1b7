-- A revision's own run has one way, and begins at one state.
use Rattle.std.proofs.Common.{◌≡◌, ◌≢◌, ◌⊎◌, inl, inr, ℕ, ◌<◌, ◌≤◌, List, [], ◌∷◌, ◌++◌, Option, Some, None, refl, sym, ap, ◌∙◌, subst, arith}
use Rattle.rev_num.specs.Path.{Path, child}
use Rattle.revision_machine.specs.PathMap.{PathMap}
use Rattle.revision_machine.specs.Machine.{Event, Moves, Forks, Joins, Ended, Machine}
use Rattle.revision_machine.specs.Conditions.{Counts}
use Rattle.revision_machine.specs.Laws.{IsIn}
use Rattle.revision_machine.proofs.Paths.{some_inj, child-same}
use Rattle.audit_rules.specs.Audited.{Telling, Computed, made, JoinedEarlier, IsTwice, taken, Alone, by_move, by_fork, by_join, Passes, at_first, then_by, Computes, ends, at_twice, at_missing, goes, Begins, of_main, of_fork, Tells}
pub use Rattle.rev_num.proofs.Options.{none_some}

pub in_front : (t : Path) (ps qs : List Path) → IsIn t ps → IsIn t (ps ++ qs)
in_front t [] qs i = absurd i
in_front t (p ∷ ps) qs (inl e) = inl e
in_front t (p ∷ ps) qs (inr i) = inr (in_front t ps qs i)

pub in_last : (q : Path) (ps : List Path) → IsIn q (ps ++ q ∷ [])
in_last q [] = inl refl
in_last q (p ∷ ps) = inr (in_last q ps)

pub in_one_more : (t q : Path) (ps : List Path) → IsIn t (ps ++ q ∷ []) → IsIn t ps ⊎ (t ≡ q)
in_one_more t q [] (inl e) = inr e
in_one_more t q [] (inr i) = absurd i
in_one_more t q (p ∷ ps) (inl e) = inl (inl e)
in_one_more t q (p ∷ ps) (inr i) = go (in_one_more t q ps i)
  where
    go : IsIn t ps ⊎ (t ≡ q) → IsIn t (p ∷ ps) ⊎ (t ≡ q)
    go (inl j) = inl (inr j)
    go (inr e) = inr e

not_root : (r : Path) (k : ℕ) → [] ≢ child r k
not_root [] k e = cc
not_root (x ∷ r) k e = cc

module _ (M : Machine) where
  -- a revision has one next event
  pub same_move : {v : Event M.Local} {a b : M.Local} → v ≡ Moves a → v ≡ Moves b → a ≡ b
  same_move e f = cc

  pub same_fork : {v : Event M.Local} {a b c d : M.Local} → v ≡ Forks a c → v ≡ Forks b d → (a ≡ b) × (c ≡ d)
  same_fork e f = (cc, cc)

  pub same_join : {v : Event M.Local} {p q : Path} → v ≡ Joins p → v ≡ Joins q → p ≡ q
  same_join e f = cc

  pub move_fork : {Q : Type 0} {v : Event M.Local} {a b c : M.Local} → v ≡ Moves a → v ≡ Forks b c → Q
  move_fork e f = absurd cc

  pub move_join : {Q : Type 0} {v : Event M.Local} {a : M.Local} {q : Path} → v ≡ Moves a → v ≡ Joins q → Q
  move_join e f = absurd cc

  pub fork_join : {Q : Type 0} {v : Event M.Local} {a c : M.Local} {q : Path} → v ≡ Forks a c → v ≡ Joins q → Q
  fork_join e f = absurd cc

  pub move_end : {Q : Type 0} {v : Event M.Local} {a : M.Local} → v ≡ Moves a → v ≡ Ended → Q
  move_end e f = absurd cc

  pub fork_end : {Q : Type 0} {v : Event M.Local} {a c : M.Local} → v ≡ Forks a c → v ≡ Ended → Q
  fork_end e f = absurd cc

  pub join_end : {Q : Type 0} {v : Event M.Local} {q : Path} → v ≡ Joins q → v ≡ Ended → Q
  join_end e f = absurd cc

module _ (M : Machine) (T : Telling M) (stated : PathMap T.Part) where
  pub one_step : (r : Path) (l a b : M.Local) → Alone M T stated r l a → Alone M T stated r l b → a ≡ b
  one_step r l a b (by_move e) (by_move f) = same_move M e f
  one_step r l a b (by_move e) (by_fork c f) = move_fork M e f
  one_step r l a b (by_move e) (by_join q f n t) = move_join M e f
  one_step r l a b (by_fork c e) (by_move f) = move_fork M f e
  one_step r l a b (by_fork c e) (by_fork d f) = (same_fork M e f).0
  one_step r l a b (by_fork c e) (by_join q f n t) = fork_join M e f
  one_step r l a b (by_join q e n t) (by_move f) = move_join M f e
  one_step r l a b (by_join q e n t) (by_fork c f) = fork_join M f e
  one_step r l a b (by_join q e n t) (by_join q' e' n' t') =
      some_inj (sym t ∙ ap (λ v. taken M T stated r l v (stated v)) (same_join M e e') ∙ t')

  pub step_goes : (r : Path) (l a : M.Local) → Alone M T stated r l a → M.next r l ≡ Ended → ⊥
  step_goes r l a (by_move e) f = move_end M e f
  step_goes r l a (by_fork c e) f = fork_end M e f
  step_goes r l a (by_join q e n t) f = join_end M e f

  -- where r comes to a join, its own step takes the stated part
  pub record Takes (r : Path) (l : M.Local) (q : Path) (l' : M.Local) : Type 0 where
    pub once : IsTwice M T stated r l q → ⊥
    pub is : taken M T stated r l q (stated q) ≡ Some l'

  pub step_takes : (r : Path) (l a : M.Local) (q : Path) → Alone M T stated r l a → M.next r l ≡ Joins q → Takes r l q a
  step_takes r l a q (by_move e) f = move_join M e f
  step_takes r l a q (by_fork c e) f = fork_join M e f
  step_takes r l a q (by_join p e n t) f =
      let pq : p ≡ q = same_join M e f in
      record {
        once = subst (λ v. IsTwice M T stated r l v → ⊥) pq n;
        is = subst (λ v. taken M T stated r l v (stated v) ≡ Some a) pq t;
      }

  pub computes_on : (r : Path) (l a : M.Local) (c : Computed T.Part) → Alone M T stated r l a
      → Computes M T stated r l c → Computes M T stated r a c
  computes_on r l a c s (ends _ e) = absurd (step_goes r l a s e)
  computes_on r l a c s (at_twice _ q e t) = absurd ((step_takes r l a q s e).once t)
  computes_on r l a c s (at_missing _ q e n t) = none_some (sym t ∙ (step_takes r l a q s e).is)
  computes_on r l a c s (goes _ b _ s' rest) = subst (λ v. Computes M T stated r v c) (one_step r l b a s' s) rest

  pub passes_computes : (r : Path) (a l : M.Local) (c : Computed T.Part) → Passes M T stated r a l
      → Computes M T stated r a c → Computes M T stated r l c
  passes_computes r a l c at_first x = x
  passes_computes r a l c (then_by k _ p s) x = computes_on r k l c s (passes_computes r a k c p x)

  pub computes_since : (r : Path) (a l : M.Local) (c : Computed T.Part) → Passes M T stated r a l
      → Computes M T stated r l c → Computes M T stated r a c
  computes_since r a l c at_first x = x
  computes_since r a l c (then_by k _ p s) x = computes_since r a k c p (goes k l c s x)

  -- what comes of a run that has ended
  pub computes_end : (r : Path) (l : M.Local) (c : Computed T.Part) → M.next r l ≡ Ended → Computes M T stated r l c
      → c ≡ made (T.part r l)
  computes_end r l c f (ends _ e) = refl
  computes_end r l c f (at_twice _ q e t) = join_end M e f
  computes_end r l c f (at_missing _ q e n t) = join_end M e f
  computes_end r l c f (goes _ b _ s rest) = absurd (step_goes r l b s f)

  pub one_result : (r : Path) (l : M.Local) (c d : Computed T.Part) → Computes M T stated r l c
      → Computes M T stated r l d → c ≡ d
  one_result r l c d (ends _ e) y = sym (computes_end r l d e y)
  one_result r l c d (at_twice _ q e t) (ends _ f) = join_end M e f
  one_result r l c d (at_twice _ q e t) (at_twice _ p f u) = refl
  one_result r l c d (at_twice _ q e t) (at_missing _ p f n u) =
      absurd (n (subst (IsTwice M T stated r l) (same_join M e f) t))
  one_result r l c d (at_twice _ q e t) (goes _ b _ s rest) = absurd ((step_takes r l b q s e).once t)
  one_result r l c d (at_missing _ q e n t) (ends _ f) = join_end M e f
  one_result r l c d (at_missing _ q e n t) (at_twice _ p f u) =
      absurd (n (subst (IsTwice M T stated r l) (same_join M f e) u))
  one_result r l c d (at_missing _ q e n t) (at_missing _ p f m u) = refl
  one_result r l c d (at_missing _ q e n t) (goes _ b _ s rest) = none_some (sym t ∙ (step_takes r l b q s e).is)
  one_result r l c d (goes _ a _ s rest) y = one_result r a c d rest (computes_on r l a d s y)

  -- a computed part goes through each join
  pub record Goes (r : Path) (l : M.Local) (q : Path) (c : Computed T.Part) : Type 0 where
    pub after : M.Local
    pub step : Alone M T stated r l after
    pub takes : Takes r l q after
    pub rest : Computes M T stated r after c

  pub made_goes : (r : Path) (l : M.Local) (q : Path) (c : T.Part) → M.next r l ≡ Joins q
      → Computes M T stated r l (made c) → Goes r l q (made c)
  made_goes r l q c f x = by (made c) refl x
    where
      by : (d : Computed T.Part) → d ≡ made c → Computes M T stated r l d → Goes r l q d
      by d e (ends _ g) = join_end M f g
      by d e (at_twice _ p g t) = absurd cc
      by d e (at_missing _ p g n t) = absurd cc
      by d e (goes _ b _ s rest) = record { after = b; step = s; takes = step_takes r l b q s f; rest = rest }

  -- the first step of a way
  pub data Headed (r : Path) (a l : M.Local) : Type 0 where
    stands : a ≡ l → Headed r a l
    steps : (b : M.Local) → Alone M T stated r a b → Passes M T stated r b l → Headed r a l

  pub headed : (r : Path) (a l : M.Local) → Passes M T stated r a l → Headed r a l
  headed r a l at_first = stands refl
  headed r a l (then_by k _ p s) = go (headed r a k p)
    where
      go : Headed r a k → Headed r a l
      go (stands e) = steps l (subst (λ v. Alone M T stated r v l) (sym e) s) at_first
      go (steps b t q) = steps b t (then_by k l q s)

  -- of two states on one way, one leads to the other
  pub either_way : (r : Path) (a l m : M.Local) → Passes M T stated r a l → Passes M T stated r a m
      → Passes M T stated r l m ⊎ Passes M T stated r m l
  either_way r a l m p at_first = inr p
  either_way r a l m p (then_by k _ q s) = go (either_way r a l k p q)
    where
      go : Passes M T stated r l k ⊎ Passes M T stated r k l → Passes M T stated r l m ⊎ Passes M T stated r m l
      go (inl w) = inl (then_by k m w s)
      go (inr w) = by (headed r k l w)
        where
          by : Headed r k l → Passes M T stated r l m ⊎ Passes M T stated r m l
          by (stands e) = inl (then_by l m at_first (subst (λ v. Alone M T stated r v m) e s))
          by (steps b t w') = inr (subst (λ v. Passes M T stated r v l) (one_step r k b m t s) w')

module _ (M : Machine) (T : Telling M) (P : Path → M.Local → Type 0) (of : M.Local → ℕ) (most : ℕ) (counts : Counts M)
    (tells : Tells M T P of most) (stated : PathMap T.Part) where
  pub step_forks : (r : Path) (l a : M.Local) → Alone M T stated r l a → M.forks l ≤ M.forks a
  step_forks r l a (by_move e) = let h = counts.moves r l a e in omega arith
  step_forks r l a (by_fork c e) = let h = counts.forker r l a c e in omega arith
  step_forks r l a (by_join q e n t) = by (stated q) t
    where
      by : (o : Option T.Part) → taken M T stated r l q o ≡ Some a → M.forks l ≤ M.forks a
      by None t = none_some t
      by (Some p) t = let h = tells.takes-forks r q l a p e t in omega arith

  pub passes_forks : (r : Path) (a l : M.Local) → Passes M T stated r a l → M.forks a ≤ M.forks l
  passes_forks r a l at_first = omega arith
  passes_forks r a l (then_by k _ p s) = let h = passes_forks r a k p in let g = step_forks r k l s in omega arith

  -- what was forked was counted
  pub forked_since : (r : Path) (l l' c m : M.Local) → M.next r l ≡ Forks l' c → Passes M T stated r l m
      → (l ≡ m) ⊎ (M.forks l < M.forks m)
  forked_since r l l' c m e p = go (headed M T stated r l m p)
    where
      go : Headed M T stated r l m → (l ≡ m) ⊎ (M.forks l < M.forks m)
      go (stands f) = inl f
      go (steps b s q) =
          let lb : b ≡ l' = one_step M T stated r l b l' s (by_fork c e) in
          let h = counts.forker r l l' c e in
          let k : M.forks b ≡ M.forks l' = ap M.forks lb in
          let g = passes_forks r b m q in
          inr (omega arith)

  step_lists : (r : Path) (l a : M.Local) (t : Path) → Alone M T stated r l a → IsIn t (T.joined l)
      → IsIn t (T.joined a)
  step_lists r l a t (by_move e) i = subst (IsIn t) (sym (tells.moves r l a e)) i
  step_lists r l a t (by_fork c e) i = subst (IsIn t) (sym (tells.forker r l a c e)) i
  step_lists r l a t (by_join q e n x) i = by (stated q) x
    where
      by : (o : Option T.Part) → taken M T stated r l q o ≡ Some a → IsIn t (T.joined a)
      by None x = none_some x
      by (Some p) x = subst (IsIn t) (sym (tells.takes-lists r q l a p e x)) (in_front t (T.joined l) (q ∷ []) i)

  -- a join is listed
  pub takes_lists : (r : Path) (l a : M.Local) (q : Path) → M.next r l ≡ Joins q → Takes M T stated r l q a
      → IsIn q (T.joined a)
  takes_lists r l a q e x = by (stated q) x.is
    where
      by : (o : Option T.Part) → taken M T stated r l q o ≡ Some a → IsIn q (T.joined a)
      by None y = none_some y
      by (Some p) y = subst (IsIn q) (sym (tells.takes-lists r q l a p e y)) (in_last q (T.joined l))

  -- what is listed stays so up to the computed part
  pub computed_lists : (r : Path) (l : M.Local) (c : Computed T.Part) (d : T.Part) (t : Path) → c ≡ made d
      → Computes M T stated r l c → IsIn t (T.joined l) → IsIn t (T.joins d)
  computed_lists r l c d t e (ends _ f) i =
      let is : T.part r l ≡ d = cc in
      subst (λ v. IsIn t (T.joins v)) is (subst (IsIn t) (sym (tells.part-joins r l)) i)
  computed_lists r l c d t e (at_twice _ q f x) i = absurd cc
  computed_lists r l c d t e (at_missing _ q f n x) i = absurd cc
  computed_lists r l c d t e (goes _ b _ s rest) i = computed_lists r b c d t e rest (step_lists r l b t s i)

  -- what a run has listed, no stated part of an earlier revision lists
  pub passes_once : (r : Path) (a l : M.Local) (q : Path) → T.joined a ≡ [] → Passes M T stated r a l
      → IsIn q (T.joined l) → JoinedEarlier M T stated r q → ⊥
  passes_once r a l q none at_first i j = subst (IsIn q) none i
  passes_once r a l q none (then_by k _ p s) i j = by (λ h. passes_once r a k q none p h j) s
    where
      by : (IsIn q (T.joined k) → ⊥) → Alone M T stated r k l → ⊥
      by back (by_move e) = back (subst (IsIn q) (tells.moves r k l e) i)
      by back (by_fork c e) = back (subst (IsIn q) (tells.forker r k l c e) i)
      by back (by_join t e n x) = from (stated t) x
        where
          from : (o : Option T.Part) → taken M T stated r k t o ≡ Some l → ⊥
          from None y = none_some y
          from (Some p') y = go (in_one_more q t (T.joined k) (subst (IsIn q) (tells.takes-lists r t k l p' e y) i))
            where
              go : IsIn q (T.joined k) ⊎ (q ≡ t) → ⊥
              go (inl h) = back h
              go (inr h) = n (inr (subst (JoinedEarlier M T stated r) h j))

  module _ (main : M.Local) where
    pub begins_one : (r : Path) (a b : M.Local) → Begins M T main stated r a → Begins M T main stated r b → a ≡ b
    begins_one r a b (of_main _ _ e f) (of_main _ _ e' f') = f ∙ sym f'
    begins_one r a b (of_main _ _ e f) (of_fork _ _ g first l l' p bg sg pg fg at) =
        absurd (not_root g (M.forks l) (sym e ∙ at))
    begins_one r a b (of_fork _ _ g first l l' p bg sg pg fg at) (of_main _ _ e f) =
        absurd (not_root g (M.forks l) (sym e ∙ at))
    begins_one r a b (of_fork _ _ g first l l' p bg sg pg fg at) (of_fork _ _ h first' m m' p' bh sh ph fh at') =
        go (λ x. begins_one g first first' bg x) (child-same g h (M.forks l) (M.forks m) (sym at ∙ at'))
      where
        go : (Begins M T main stated g first' → first ≡ first') → (g ≡ h) × (M.forks l ≡ M.forks m) → a ≡ b
        go later both =
            let firsts : first ≡ first' = later (subst (λ v. Begins M T main stated v first') (sym both.0) bh) in
            let pm : Passes M T stated g first m =
            subst (λ v. Passes M T stated g v m) (sym firsts)
            (subst (λ v. Passes M T stated v first' m) (sym both.0) ph) in
            let fm : M.next g m ≡ Forks m' b = subst (λ v. M.next v m ≡ Forks m' b) (sym both.0) fh in
            by fm both.1 (either_way M T stated g first l m pg pm)
          where
            same : M.next g m ≡ Forks m' b → l ≡ m → a ≡ b
            same fm e = (same_fork M fg (ap (M.next g) e ∙ fm)).1

            by : M.next g m ≡ Forks m' b → M.forks l ≡ M.forks m → Passes M T stated g l m ⊎ Passes M T stated g m l
                → a ≡ b
            by fm k (inl w) = from (forked_since g l l' a m fg w)
              where
                from : (l ≡ m) ⊎ (M.forks l < M.forks m) → a ≡ b
                from (inl e) = same fm e
                from (inr less) = absurd (omega arith)
            by fm k (inr w) = from (forked_since g m m' b l fm w)
              where
                from : (m ≡ l) ⊎ (M.forks m < M.forks l) → a ≡ b
                from (inl e) = same fm (sym e)
                from (inr less) = absurd (omega arith)

    -- a revision that begins lists no join yet
    pub begins_none : T.joined main ≡ [] → (r : Path) (a : M.Local) → Begins M T main stated r a → T.joined a ≡ []
    begins_none none r a (of_main _ _ e f) = ap T.joined f ∙ none
    begins_none none r a (of_fork _ _ g first l l' p bg sg pg fg at) = tells.forked g l l' a fg
