-- There is a verdict: finitely many revisions can differ, and of those that do one is the first.
use Rattle.std.proofs.Common.{◌≡◌, ◌≢◌, ◌⊎◌, inl, inr, ℕ, zero, suc, ◌<◌, ◌≤◌, true, false, List, [], ◌∷◌, ◌++◌, Option, Some, None, refl, sym, ap, ◌∙◌, subst, arith}
use Rattle.std.proofs.lemmas.Bool.{cases_Bool, true≢false, cases_lt}
use Rattle.rev_num.specs.Path.{Path, child, before}
use Rattle.revision_machine.specs.PathMap.{PathMap}
use Rattle.revision_machine.specs.Machine.{Forks, Machine}
use Rattle.revision_machine.specs.Conditions.{Counts, Spends}
use Rattle.revision_machine.specs.Laws.{IsIn}
use Rattle.rev_num.proofs.PostOrder.{before_trans, before_irrefl}
use Rattle.audit_rules.specs.Audited.{Telling, Computed, absent, made, joined_twice, missing, Alone, Passes, at_first, Computes, ends, at_twice, at_missing, goes, Begins, of_main, of_fork, IsComputed, of_none, of_run, IsSame, Justified, IsYes, IsNo, Tells}
use Rattle.audit_rules.proofs.OneOwnRun.{none_some, in_front, step_goes, step_takes, Headed, stands, steps, headed, either_way, passes_forks, begins_one}
use Rattle.audit_rules.proofs.PartsExist.{Ends, own_run_ends, passes_from, Begun, begun, computed}

in_back : (t : Path) (ps qs : List Path) → IsIn t qs → IsIn t (ps ++ qs)
in_back t [] qs i = i
in_back t (p ∷ ps) qs i = inr (in_back t ps qs i)

children_below : Path → ℕ → List Path
children_below f zero = []
children_below f (suc n) = child f n ∷ children_below f n

child_in : (f : Path) (n k : ℕ) → k < n → IsIn (child f k) (children_below f n)
unfolding children_below
child_in f zero k h = absurd (omega arith)
child_in f (suc n) k h = go (child_in f n k) (cases_lt k n)
  where
    go : (k < n → IsIn (child f k) (children_below f n)) → (k < n) ⊎ (n ≤ k)
        → IsIn (child f k) (child f n ∷ children_below f n)
    go later (inl less) = inr (later less)
    go later (inr more) = let is : k ≡ n = omega arith in inl (ap (child f) is)

module _ (M : Machine) (T : Telling M) (P : Path → M.Local → Type 0) (of : M.Local → ℕ) (most : ℕ) (counts : Counts M)
    (tells : Tells M T P of most) (weight : M.Local → ℕ) (spends : Spends M 1 weight) (main : M.Local)
    (stated : PathMap T.Part) (all : List Path) (covers : (q : Path) (p : T.Part) → stated q ≡ Some p → IsIn q all)
    (same_text : (x y : T.Text) → (x ≡ y) ⊎ (x ≢ y)) where
  abbrev Fine : Path → Type 0
  Fine r = Justified M T main stated r

  part_of_run : (r : Path) → (c : Computed T.Part) × IsComputed M T main stated r c
  part_of_run = computed M T P of most counts tells weight spends main stated all covers

  what_begins : (r : Path) → Begun M T P of most counts tells weight spends main stated all covers r
  what_begins = begun M T P of most counts tells weight spends main stated all covers

  decide_same : (o : Option T.Part) (c : Computed T.Part)
      → IsSame M T main stated o c ⊎ (IsSame M T main stated o c → ⊥)
  decide_same None absent = inl tt
  decide_same None (made c) = inr (λ h. h)
  decide_same None joined_twice = inr (λ h. h)
  decide_same None missing = inr (λ h. h)
  decide_same (Some p) absent = inr (λ h. h)
  decide_same (Some p) (made c) = same_text (T.text p) (T.text c)
  decide_same (Some p) joined_twice = inr (λ h. h)
  decide_same (Some p) missing = inr (λ h. h)

  -- it is as stated, or its computed part differs
  record Differs (r : Path) : Type 0 where
    part : Computed T.Part
    is : IsComputed M T main stated r part
    differs : IsSame M T main stated (stated r) part → ⊥

  decide : (r : Path) → Fine r ⊎ Differs r
  decide r = let h = part_of_run r in go h.0 h.1 (decide_same (stated r) h.0)
    where
      go : (c : Computed T.Part) → IsComputed M T main stated r c
          → IsSame M T main stated (stated r) c ⊎ (IsSame M T main stated (stated r) c → ⊥) → Fine r ⊎ Differs r
      go c h (inl same) = inl (record { computed = c; is = h; same = same })
      go c h (inr not_same) = inr (record { part = c; is = h; differs = not_same })

  -- ---- which revisions can differ

  -- the last state of an own run
  record Last (r : Path) (a : M.Local) : Type 0 where
    state : M.Local
    passes : Passes M T stated r a state
    stops : (l' : M.Local) → Alone M T stated r state l' → ⊥

  last : (r : Path) (a : M.Local) (c : Computed T.Part) → Computes M T stated r a c → Last r a
  last r a c (ends _ e) = record { state = a; passes = at_first; stops = λ l' s. step_goes M T stated r a l' s e }
  last r a c (at_twice _ q e t) =
      record { state = a; passes = at_first; stops = λ l' s. (step_takes M T stated r a l' q s e).once t }
  last r a c (at_missing _ q e n t) = record {
    state = a;
    passes = at_first;
    stops = λ l' s. none_some (sym t ∙ (step_takes M T stated r a l' q s e).is);
  }
  last r a c (goes _ b _ s rest) =
      let h = last r b c rest in
      record {
        state = h.state;
        passes = passes_from M T P of most counts tells weight spends main stated all covers r a b h.state s h.passes;
        stops = h.stops;
      }

  forks_of : (f : Path) → Begun M T P of most counts tells weight spends main stated all covers f → List Path
  forks_of f (inr none) = []
  forks_of f (inl b) =
      let run = own_run_ends M T P of most counts tells weight spends main stated all covers f b.0 in
      children_below f (suc (M.forks (last f b.0 run.0 run.1).state))

  all_forks : List Path → List Path
  all_forks [] = []
  all_forks (f ∷ fs) = forks_of f (what_begins f) ++ all_forks fs

  -- `main`, what is stated, and what the own runs of what is stated fork
  candidates : List Path
  candidates = [] ∷ all ++ all_forks all

  forked_in : (f : Path) (fs : List Path) (r : Path) → IsIn f fs → IsIn r (forks_of f (what_begins f))
      → IsIn r (all_forks fs)
  unfolding all_forks
  forked_in f [] r i j = absurd i
  forked_in f (g ∷ fs) r (inl is) j =
      in_front r (forks_of g (what_begins g)) (all_forks fs) (subst (λ v. IsIn r (forks_of v (what_begins v))) is j)
  forked_in f (g ∷ fs) r (inr i) j = in_back r (forks_of g (what_begins g)) (all_forks fs) (forked_in f fs r i j)

  fork_known : (f : Path) (first l l' a : M.Local) → Begins M T main stated f first → Passes M T stated f first l
      → M.next f l ≡ Forks l' a → (b : Begun M T P of most counts tells weight spends main stated all covers f)
      → IsIn (child f (M.forks l)) (forks_of f b)
  unfolding forks_of
  fork_known f first l l' a bg pg does (inr none) = absurd (none first bg)
  fork_known f first l l' a bg pg does (inl b) = child_in f (suc (M.forks end.state)) (M.forks l) few
    where
      run : Ends M T P of most counts tells weight spends main stated all covers f b.0
      run = own_run_ends M T P of most counts tells weight spends main stated all covers f b.0

      end : Last f b.0
      end = last f b.0 run.0 run.1

      passes : Passes M T stated f b.0 l
      passes = subst (λ v. Passes M T stated f v l)
          (begins_one M T P of most counts tells stated main f first b.0 bg b.1) pg

      few : M.forks l < suc (M.forks end.state)
      few = go (either_way M T stated f b.0 l end.state passes end.passes)
        where
          go : Passes M T stated f l end.state ⊎ Passes M T stated f end.state l → M.forks l < suc (M.forks end.state)
          go (inl w) = let h = passes_forks M T P of most counts tells stated f l end.state w in omega arith
          go (inr w) = by (headed M T stated f end.state l w)
            where
              by : Headed M T stated f end.state l → M.forks l < suc (M.forks end.state)
              by (stands is) = let h : M.forks end.state ≡ M.forks l = ap M.forks is in omega arith
              by (steps d s rest) = absurd (end.stops d s)

  begun_in : (r : Path) (a : M.Local) → Begins M T main stated r a → IsIn r candidates
  unfolding candidates
  begun_in r a (of_main _ _ e is) = inl e
  begun_in r a (of_fork _ _ f first l l' p bg so pg does at) =
      let here : IsIn (child f (M.forks l)) (forks_of f (what_begins f)) =
      fork_known f first l l' a bg pg does (what_begins f) in
      let there : IsIn r (forks_of f (what_begins f)) =
      subst (λ v. IsIn v (forks_of f (what_begins f))) (sym at) here in
      inr (in_back r all (all_forks all) (forked_in f all r (covers f p so) there))

  differs_in : (r : Path) → Differs r → IsIn r candidates
  unfolding candidates
  differs_in r d = go (stated r) refl d.part d.is d.differs
    where
      at : (c : Computed T.Part) → stated r ≡ None → IsComputed M T main stated r c
          → (IsSame M T main stated None c → ⊥) → IsIn r candidates
      at c so (of_run a b x) n = begun_in r a b
      at c so (of_none m e) n = absurd (n (subst (IsSame M T main stated None) (sym e) tt))

      go : (o : Option T.Part) → stated r ≡ o → (c : Computed T.Part) → IsComputed M T main stated r c
          → (IsSame M T main stated (stated r) c → ⊥) → IsIn r candidates
      go (Some p) so c h n = inr (in_front r all (all_forks all) (covers r p so))
      go None so c h n = at c so h (λ same. n (subst (λ v. IsSame M T main stated v c) (sym so) same))

  -- ---- the first that differs

  record First (ps : List Path) : Type 0 where
    at : Path
    differs : Differs at
    first : (q : Path) → IsIn q ps → before q at ≡ true → Fine q

  first_among : (ps : List Path) → ((q : Path) → IsIn q ps → Fine q) ⊎ First ps
  first_among [] = inl (λ q i. absurd i)
  first_among (p ∷ ps) = go (first_among ps) (decide p)
    where
      go : ((q : Path) → IsIn q ps → Fine q) ⊎ First ps → Fine p ⊎ Differs p
          → ((q : Path) → IsIn q (p ∷ ps) → Fine q) ⊎ First (p ∷ ps)
      go (inl fine) (inl ok) = inl each
        where
          each : (q : Path) → IsIn q (p ∷ ps) → Fine q
          each q (inl e) = subst Fine (sym e) ok
          each q (inr i) = fine q i
      go (inl fine) (inr d) = inr (record { at = p; differs = d; first = each })
        where
          each : (q : Path) → IsIn q (p ∷ ps) → before q p ≡ true → Fine q
          each q (inl e) b = absurd (before_irrefl p (subst (λ v. before v p ≡ true) e b))
          each q (inr i) b = fine q i
      go (inr f) (inl ok) = inr (record { at = f.at; differs = f.differs; first = each })
        where
          each : (q : Path) → IsIn q (p ∷ ps) → before q f.at ≡ true → Fine q
          each q (inl e) b = subst Fine (sym e) ok
          each q (inr i) b = f.first q i b
      go (inr f) (inr d) = by (cases_Bool (before p f.at))
        where
          by : (before p f.at ≡ true) ⊎ (before p f.at ≡ false)
              → ((q : Path) → IsIn q (p ∷ ps) → Fine q) ⊎ First (p ∷ ps)
          by (inl sooner) = inr (record { at = p; differs = d; first = each })
            where
              each : (q : Path) → IsIn q (p ∷ ps) → before q p ≡ true → Fine q
              each q (inl e) b = absurd (before_irrefl p (subst (λ v. before v p ≡ true) e b))
              each q (inr i) b = f.first q i (before_trans q p f.at b sooner)
          by (inr later) = inr (record { at = f.at; differs = f.differs; first = each })
            where
              each : (q : Path) → IsIn q (p ∷ ps) → before q f.at ≡ true → Fine q
              each q (inl e) b = absurd (true≢false (sym b ∙ ap (λ v. before v f.at) e ∙ later))
              each q (inr i) b = f.first q i b

  -- what holds of the candidates holds of all
  settled : (q : Path) → (IsIn q candidates → Fine q) → Fine q
  settled q on = go (decide q)
    where
      go : Fine q ⊎ Differs q → Fine q
      go (inl ok) = ok
      go (inr d) = on (differs_in q d)

  pub verdict : IsYes M T main stated ⊎ ((r : Path) × (c : Computed T.Part) × IsNo M T main stated r (stated r) c)
  verdict = go (first_among candidates)
    where
      go : ((q : Path) → IsIn q candidates → Fine q) ⊎ First candidates
          → IsYes M T main stated ⊎ ((r : Path) × (c : Computed T.Part) × IsNo M T main stated r (stated r) c)
      go (inl fine) = inl (λ q. settled q (fine q))
      go (inr f) = inr (
        f.at,
        f.differs.part,
        record {
          states = refl;
          is = f.differs.is;
          differs = f.differs.differs;
          first = λ q b. settled q (λ i. f.first q i b);
        },
      )
