-- Each revision has a computed part, where finitely many parts are stated: own runs end, and what begins can be found.
use Rattle.std.proofs.Common.{◌≡◌, ◌≢◌, ◌⊎◌, inl, inr, ℕ, zero, suc, ◌+◌, ◌<◌, ◌≤◌, true, false, List, [], ◌∷◌, ◌++◌, Option, Some, None, refl, sym, ap, ◌∙◌, subst, arith, append_assoc}
use Rattle.std.proofs.lemmas.Bool.{cases_Bool, true≢false, cases_order}
use Rattle.rev_num.specs.Path.{Path, child, before}
use Rattle.revision_machine.specs.PathMap.{PathMap}
use Rattle.revision_machine.specs.Machine.{Event, Moves, Forks, Joins, Ended, Machine}
use Rattle.revision_machine.specs.Conditions.{Counts, Spends}
use Rattle.revision_machine.specs.Laws.{IsIn}
use Rattle.revision_machine.proofs.Paths.{some_inj, decide_in, child-same}
use Rattle.audit_rules.specs.Audited.{Telling, Computed, absent, made, joined_twice, missing, JoinedEarlier, IsTwice, taken, Alone, by_move, by_fork, by_join, Passes, at_first, then_by, Computes, ends, at_twice, at_missing, goes, Begins, of_main, of_fork, IsComputed, of_none, of_run, Tells}
use Rattle.audit_rules.proofs.OneOwnRun.{none_some, move_fork, fork_join, fork_end, in_last, in_front, one_step, step_goes, step_takes, Headed, stands, steps, headed, begins_one}

-- ---- how many of these are not listed, by which joins of stated parts end

one_if : {A : Type 0} → A ⊎ (A → ⊥) → ℕ
one_if (inl a) = 0
one_if (inr n) = 1

pub left : List Path → List Path → ℕ
left [] js = 0
left (p ∷ ps) js = one_if (decide_in p js) + left ps js

one_less : (p t : Path) (js : List Path) → one_if (decide_in p (js ++ t ∷ [])) ≤ one_if (decide_in p js)
unfolding one_if
one_less p t js = go (decide_in p js) (decide_in p (js ++ t ∷ []))
  where
    go : (a : IsIn p js ⊎ (IsIn p js → ⊥)) (b : IsIn p (js ++ t ∷ []) ⊎ (IsIn p (js ++ t ∷ []) → ⊥))
        → one_if b ≤ one_if a
    go a (inl i) = omega arith
    go (inl i) (inr n) = absurd (n (in_front p js (t ∷ []) i))
    go (inr m) (inr n) = omega arith

one_gone : (t : Path) (js : List Path) → (IsIn t js → ⊥)
    → one_if (decide_in t (js ++ t ∷ [])) + 1 ≤ one_if (decide_in t js)
unfolding one_if
one_gone t js fresh = go (decide_in t js) (decide_in t (js ++ t ∷ []))
  where
    go : (a : IsIn t js ⊎ (IsIn t js → ⊥)) (b : IsIn t (js ++ t ∷ []) ⊎ (IsIn t (js ++ t ∷ []) → ⊥))
        → one_if b + 1 ≤ one_if a
    go (inl i) b = absurd (fresh i)
    go (inr m) (inl i) = omega arith
    go (inr m) (inr n) = absurd (n (in_last t js))

left_less : (ps : List Path) (t : Path) (js : List Path) → left ps (js ++ t ∷ []) ≤ left ps js
unfolding left
left_less [] t js = omega arith
left_less (p ∷ ps) t js = let a = one_less p t js in let b = left_less ps t js in omega arith

pub left_gone : (ps : List Path) (t : Path) (js : List Path) → IsIn t ps → (IsIn t js → ⊥)
    → left ps (js ++ t ∷ []) + 1 ≤ left ps js
unfolding left
left_gone [] t js i fresh = absurd i
left_gone (p ∷ ps) t js (inl e) fresh =
    let a = subst (λ v. one_if (decide_in v (js ++ t ∷ [])) + 1 ≤ one_if (decide_in v js)) e (one_gone t js fresh) in
    let b = left_less ps t js in
    omega arith
left_gone (p ∷ ps) t js (inr i) fresh = let a = one_less p t js in let b = left_gone ps t js i fresh in omega arith

module _ (M : Machine) (T : Telling M) (P : Path → M.Local → Type 0) (of : M.Local → ℕ) (most : ℕ) (counts : Counts M)
    (tells : Tells M T P of most) (weight : M.Local → ℕ) (spends : Spends M 1 weight) (main : M.Local)
    (stated : PathMap T.Part) (all : List Path)
    (covers : (q : Path) (p : T.Part) → stated q ≡ Some p → IsIn q all) where
  abbrev pub Ends : Path → M.Local → Type 0
  Ends r l = (c : Computed T.Part) × Computes M T stated r l c

  -- ---- whether a stated part before r joins q

  earlier_among : (r q : Path) (ps : List Path)
      → JoinedEarlier M T stated r q ⊎ ((j : JoinedEarlier M T stated r q) → IsIn j.joiner ps → ⊥)
  earlier_among r q [] = inr (λ j i. i)
  earlier_among r q (s ∷ ps) = go (earlier_among r q ps) (stated s) refl (cases_Bool (before s r))
    where
      go : JoinedEarlier M T stated r q ⊎ ((j : JoinedEarlier M T stated r q) → IsIn j.joiner ps → ⊥)
          → (o : Option T.Part) → stated s ≡ o → (before s r ≡ true) ⊎ (before s r ≡ false)
          → JoinedEarlier M T stated r q ⊎ ((j : JoinedEarlier M T stated r q) → IsIn j.joiner (s ∷ ps) → ⊥)
      go (inl j) o e b = inl j
      go (inr none) None e b = inr not_one
        where
          not_one : (j : JoinedEarlier M T stated r q) → IsIn j.joiner (s ∷ ps) → ⊥
          not_one j (inl is) = none_some (sym e ∙ ap stated (sym is) ∙ j.states)
          not_one j (inr i) = none j i
      go (inr none) (Some p) e (inr late) = inr not_one
        where
          not_one : (j : JoinedEarlier M T stated r q) → IsIn j.joiner (s ∷ ps) → ⊥
          not_one j (inl is) = true≢false (sym j.earlier ∙ ap (λ v. before v r) is ∙ late)
          not_one j (inr i) = none j i
      go (inr none) (Some p) e (inl sooner) = by (decide_in q (T.joins p))
        where
          by : IsIn q (T.joins p) ⊎ (IsIn q (T.joins p) → ⊥)
              → JoinedEarlier M T stated r q ⊎ ((j : JoinedEarlier M T stated r q) → IsIn j.joiner (s ∷ ps) → ⊥)
          by (inl i) = inl (record { joiner = s; part = p; states = e; earlier = sooner; lists = i })
          by (inr n) = inr not_one
            where
              not_one : (j : JoinedEarlier M T stated r q) → IsIn j.joiner (s ∷ ps) → ⊥
              not_one j (inl is) =
                  let same : j.part ≡ p = some_inj (sym j.states ∙ ap stated is ∙ e) in
                  n (subst (λ v. IsIn q (T.joins v)) same j.lists)
              not_one j (inr i) = none j i

  decide_twice : (r : Path) (l : M.Local) (q : Path) → IsTwice M T stated r l q ⊎ (IsTwice M T stated r l q → ⊥)
  decide_twice r l q = go (decide_in q (T.joined l)) (earlier_among r q all)
    where
      go : IsIn q (T.joined l) ⊎ (IsIn q (T.joined l) → ⊥)
          → JoinedEarlier M T stated r q ⊎ ((j : JoinedEarlier M T stated r q) → IsIn j.joiner all → ⊥)
          → IsTwice M T stated r l q ⊎ (IsTwice M T stated r l q → ⊥)
      go (inl i) e = inl (inl i)
      go (inr n) (inl j) = inl (inr j)
      go (inr n) (inr none) = inr neither
        where
          neither : IsTwice M T stated r l q → ⊥
          neither (inl i) = n i
          neither (inr j) = none j (covers j.joiner j.part j.states)

  -- ---- own runs end

  abbrev rest : M.Local → ℕ
  rest l = left all (T.joined l)

  -- an own run ends where it does after a step of less weight, and after a join
  by_next : (r : Path) (n : ℕ) → ((l : M.Local) → rest l + 1 ≤ n → Ends r l) → (l : M.Local) → rest l ≤ n
      → ((l' : M.Local) → Alone M T stated r l l' → weight l' + 1 ≤ weight l → T.joined l' ≡ T.joined l → Ends r l')
      → Ends r l
  by_next r n after l few on = go (M.next r l) refl on
    where
      On : Type 0
      On = (l' : M.Local) → Alone M T stated r l l' → weight l' + 1 ≤ weight l → T.joined l' ≡ T.joined l → Ends r l'

      go : (e : Event M.Local) → M.next r l ≡ e → On → Ends r l
      go (Moves l') e on =
          let s : Alone M T stated r l l' = by_move e in
          let h = on l' s (spends.moves r l l' e) (tells.moves r l l' e) in
          (h.0, goes l l' h.0 s h.1)
      go (Forks l' c) e on =
          let s : Alone M T stated r l l' = by_fork c e in
          let k = spends.forks r l l' c e in
          let h = on l' s (omega arith) (tells.forker r l l' c e) in
          (h.0, goes l l' h.0 s h.1)
      go Ended e on = (made (T.part r l), ends l e)
      go (Joins q) e on = at (decide_twice r l q)
        where
          at : IsTwice M T stated r l q ⊎ (IsTwice M T stated r l q → ⊥) → Ends r l
          at (inl t) = (joined_twice, at_twice l q e t)
          at (inr once) = take (stated q) refl
            where
              take : (o : Option T.Part) → stated q ≡ o → Ends r l
              take None so = (missing, at_missing l q e once (ap (taken M T stated r l q) so))
              take (Some p) so = with_it (T.takes r l q p) refl
                where
                  with_it : (o : Option M.Local) → T.takes r l q p ≡ o → Ends r l
                  with_it None f = (missing, at_missing l q e once (ap (taken M T stated r l q) so ∙ f))
                  with_it (Some l') f =
                      let s : Alone M T stated r l l' = by_join q e once (ap (taken M T stated r l q) so ∙ f) in
                      let gone = left_gone all q (T.joined l) (covers q p so) (λ i. once (inl i)) in
                      let less : rest l' + 1 ≤ rest l =
                      subst (λ js. left all js + 1 ≤ left all (T.joined l)) (sym (tells.takes-lists r q l l' p e f))
                      gone in
                      let h = after l' (omega arith) in
                      (h.0, goes l l' h.0 s h.1)

  -- up to its next join, by its weight
  to_join : (r : Path) (n : ℕ) → ((l : M.Local) → rest l + 1 ≤ n → Ends r l) → (w : ℕ) (l : M.Local) → weight l ≤ w
      → rest l ≤ n → Ends r l
  to_join r n after zero l heavy few = by_next r n after l few (λ l' s less same. absurd (omega arith))
  to_join r n after (suc v) l heavy few =
      by_next r n after l few
      (λ l' s less same. to_join r n after v l' (omega arith) (subst (λ js. left all js ≤ n) (sym same) few))

  own_ends : (r : Path) (n : ℕ) (l : M.Local) → rest l ≤ n → Ends r l
  own_ends r zero l few = to_join r zero (λ l' none. absurd (omega arith)) (weight l) l (omega arith) few
  own_ends r (suc n) l few = to_join r (suc n) (λ l' less. own_ends r n l' (omega arith)) (weight l) l (omega arith) few

  pub own_run_ends : (r : Path) (l : M.Local) → Ends r l
  own_run_ends r l = own_ends r (rest l) l (omega arith)

  -- ---- what begins

  -- r's own run from a forks its k-th child
  record ForksAt (r : Path) (a : M.Local) (k : ℕ) : Type 0 where
    at : M.Local
    after : M.Local
    child_state : M.Local
    passes : Passes M T stated r a at
    does : M.next r at ≡ Forks after child_state
    number : M.forks at ≡ k

  NeverForks : Path → M.Local → ℕ → Type 0
  NeverForks r l k = (m m' c : M.Local) → Passes M T stated r l m → M.next r m ≡ Forks m' c → M.forks m ≢ k

  pub passes_from : (r : Path) (a b l : M.Local) → Alone M T stated r a b → Passes M T stated r b l
      → Passes M T stated r a l
  passes_from r a b l s at_first = then_by a b at_first s
  passes_from r a b l s (then_by k _ p t) = then_by k l (passes_from r a b k s p) t

  -- it does nothing more
  abbrev pub Stops : Path → M.Local → Type 0
  Stops r l = ((l' : M.Local) → Alone M T stated r l l' → ⊥) × ((l' c : M.Local) → M.next r l ≡ Forks l' c → ⊥)

  stops_never : (r : Path) (l : M.Local) (k : ℕ) → Stops r l → NeverForks r l k
  unfolding NeverForks
  stops_never r l k stop m m' c p does e = go (headed M T stated r l m p)
    where
      go : Headed M T stated r l m → ⊥
      go (stands is) = stop.1 m' c (ap (M.next r) is ∙ does)
      go (steps b s w) = stop.0 b s

  find_fork : (r : Path) (l : M.Local) (c : Computed T.Part) (k : ℕ) → Computes M T stated r l c
      → ForksAt r l k ⊎ NeverForks r l k
  unfolding NeverForks
  find_fork r l c k (ends _ e) =
      inr (stops_never r l k (λ l' s. step_goes M T stated r l l' s e, λ l' d f. fork_end M f e))
  find_fork r l c k (at_twice _ q e t) =
      inr (stops_never r l k (λ l' s. (step_takes M T stated r l l' q s e).once t, λ l' d f. fork_join M f e))
  find_fork r l c k (at_missing _ q e n t) = inr (stops_never r l k
      (λ l' s. none_some (sym t ∙ (step_takes M T stated r l l' q s e).is), λ l' d f. fork_join M f e))
  find_fork r l c k (goes _ b _ s more) = go (find_fork r b c k more) (M.next r l) refl
    where
      go : ForksAt r b k ⊎ NeverForks r b k → (e : Event M.Local) → M.next r l ≡ e → ForksAt r l k ⊎ NeverForks r l k
      go (inl f) v e = inl (record {
        at = f.at;
        after = f.after;
        child_state = f.child_state;
        passes = passes_from r l b f.at s f.passes;
        does = f.does;
        number = f.number;
      })
      go (inr none) v e = here v e
        where
          later : ((m' c : M.Local) → M.next r l ≡ Forks m' c → M.forks l ≢ k) → NeverForks r l k
          later first m m' c p does is = by (headed M T stated r l m p)
            where
              by : Headed M T stated r l m → ⊥
              by (stands same) = first m' c (ap (M.next r) same ∙ does) (ap M.forks same ∙ is)
              by (steps d t w) =
                  none m m' c (subst (λ v. Passes M T stated r v m) (one_step M T stated r l d b t s) w) does is

          here : (v : Event M.Local) → M.next r l ≡ v → ForksAt r l k ⊎ NeverForks r l k
          here (Moves l') e = inr (later (λ m' c f is. move_fork M e f))
          here (Joins q) e = inr (later (λ m' c f is. fork_join M f e))
          here Ended e = inr (later (λ m' c f is. fork_end M f e))
          here (Forks l' c) e = which (cases_order (M.forks l) k)
            where
              which : (M.forks l ≡ k) ⊎ ((M.forks l < k) ⊎ (k < M.forks l)) → ForksAt r l k ⊎ NeverForks r l k
              which (inl is) =
                  inl (record { at = l; after = l'; child_state = c; passes = at_first; does = e; number = is })
              which (inr (inl less)) = inr (later (λ m' d f is. omega arith))
              which (inr (inr more)) = inr (later (λ m' d f is. omega arith))

  abbrev pub Begun : Path → Type 0
  Begun r = ((a : M.Local) × Begins M T main stated r a) ⊎ ((a : M.Local) → Begins M T main stated r a → ⊥)

  not_main : (r : Path) (k : ℕ) → child r k ≢ []
  not_main [] k e = cc
  not_main (x ∷ r) k e = cc

  -- a child, where its forker is known
  child_begun : (f : Path) (k : ℕ) → Begun f → Begun (child f k)
  unfolding NeverForks
  child_begun f k (inr none) = inr no_child
    where
      no_child : (a : M.Local) → Begins M T main stated (child f k) a → ⊥
      no_child a (of_main _ _ e is) = not_main f k e
      no_child a (of_fork _ _ g first l l' p bg sg pg does at) =
          let both = child-same f g k (M.forks l) at in
          none first (subst (λ v. Begins M T main stated v first) (sym both.0) bg)
  child_begun f k (inl b) = by (stated f) refl (find_fork f b.0 run.0 k run.1)
    where
      run : Ends f b.0
      run = own_run_ends f b.0

      by : (o : Option T.Part) → stated f ≡ o → ForksAt f b.0 k ⊎ NeverForks f b.0 k → Begun (child f k)
      by (Some p) so (inl h) = inl (
        h.child_state,
        of_fork (child f k) h.child_state f b.0 h.at h.after p b.1 so h.passes h.does (ap (child f) (sym h.number)),
      )
      by None so h = inr no_child
        where
          no_child : (a : M.Local) → Begins M T main stated (child f k) a → ⊥
          no_child a (of_main _ _ e is) = not_main f k e
          no_child a (of_fork _ _ g first l l' p bg sg pg does at) =
              let both = child-same f g k (M.forks l) at in
              none_some (sym so ∙ ap stated both.0 ∙ sg)
      by (Some p) so (inr never) = inr no_child
        where
          no_child : (a : M.Local) → Begins M T main stated (child f k) a → ⊥
          no_child a (of_main _ _ e is) = not_main f k e
          no_child a (of_fork _ _ g first l l' p' bg sg pg does at) =
              let both = child-same f g k (M.forks l) at in
              let begins : Begins M T main stated f first =
              subst (λ v. Begins M T main stated v first) (sym both.0) bg in
              let same : first ≡ b.0 = begins_one M T P of most counts tells stated main f first b.0 begins b.1 in
              let passes : Passes M T stated f b.0 l =
              subst (λ v. Passes M T stated f v l) same (subst (λ v. Passes M T stated v first l) (sym both.0) pg) in
              never l l' a passes (subst (λ v. M.next v l ≡ Forks l' a) (sym both.0) does) (sym both.1)

  walk : (f rest : Path) → Begun f → Begun (f ++ rest)
  walk f [] b = subst Begun (sym (append_nil f)) b
    where
      append_nil : (p : Path) → p ++ [] ≡ p
      append_nil [] = refl
      append_nil (x ∷ p) = ap (λ v. x ∷ v) (append_nil p)
  walk f (k ∷ rest) b = subst Begun (append_assoc f (k ∷ []) rest) (walk (child f k) rest (child_begun f k b))

  pub begun : (r : Path) → Begun r
  begun r = walk [] r (inl (main, of_main [] main refl refl))

  -- there is a computed part
  pub computed : (r : Path) → (c : Computed T.Part) × IsComputed M T main stated r c
  computed r = go (begun r)
    where
      go : Begun r → (c : Computed T.Part) × IsComputed M T main stated r c
      go (inr none) = (absent, of_none none refl)
      go (inl b) = let run = own_run_ends r b.0 in (run.0, of_run b.0 b.1 run.1)
