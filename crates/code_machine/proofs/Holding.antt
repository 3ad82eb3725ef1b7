-- The handles in a local state come from what it held, from a fork or from a joined revision: a renaming
-- that moves one handle alone, which a state does not hold, changes neither the state nor what it does.
use Rattle.std.proofs.Common.{◌≡◌, ◌≢◌, ◌⊎◌, inl, inr, ◌∙◌, ℕ, Bool, true, false, cond, List, [], ◌∷◌, map, refl, sym, ap, subst, true≢false}
use Rattle.rev_num.specs.Path.{Path, child, same}
use Rattle.revision_machine.specs.Machine as revisions
use Rattle.revision_machine.specs.Laws.{IsIn}
use Rattle.revision_machine.specs.Conditions.{Handles}
use Rattle.revision_machine.proofs.Paths.{apart-same, decide_in, decide_same, child-apart}
use Rattle.rev_num.proofs.PostOrder.{same_refl}
use Rattle.code_machine.specs.Local.{CodeRun, Local, handles}
use Rattle.code_machine.specs.Joining.{join}
use Rattle.code_machine.specs.Machines.{Act, Goes, Bears, Wants, Stops, act, event_of, machine, Holds}
use Rattle.code_machine.specs.Renamed.{renamed}
use Rattle.code_machine.proofs.Naming.{AllFixed, local_fixed, local_named}
use Rattle.code_machine.proofs.Acts.{SameAct, both_go, both_bear, both_want, both_stop, act_same, join_same}

-- ---- the same act, by its kind

module _ {H K : Type 0} (f : H → K) where
  pub as_go : (x : Act H) (y : Act K) → SameAct f x y → (l : Local H) → x ≡ Goes l → y ≡ Goes (renamed f l)
  as_go x y (both_go k) l e = (let z : k ≡ l = (let w : Goes k ≡ Goes l = e in cc) in ap (λ u. Goes (renamed f u)) z)
  as_go x y (both_bear u v c h) l e = absurd (let w : Bears u c ≡ Goes l = e in cc)
  as_go x y (both_want q) l e = absurd (let w : Wants q ≡ Goes l = e in cc)
  as_go x y both_stop l e = absurd (let w : Stops ≡ Goes l = e in cc)

  pub as_bear : (x : Act H) (y : Act K) → SameAct f x y → (u : H → Local H) (c : Local H) → x ≡ Bears u c
      → (v : K → Local K) × (y ≡ Bears v (renamed f c)) × ((h : H) → v (f h) ≡ renamed f (u h))
  as_bear x y (both_bear u' v c' k) u c e =
      let a : u' ≡ u = (let w : Bears u' c' ≡ Bears u c = e in cc) in
      let b : c' ≡ c = (let w : Bears u' c' ≡ Bears u c = e in cc) in
      (v, ap (λ z. Bears v (renamed f z)) b, λ h. k h ∙ ap (λ z. renamed f (z h)) a)
  as_bear x y (both_go k) u c e = absurd (let w : Goes k ≡ Bears u c = e in cc)
  as_bear x y (both_want q) u c e = absurd (let w : Wants q ≡ Bears u c = e in cc)
  as_bear x y both_stop u c e = absurd (let w : Stops ≡ Bears u c = e in cc)

  pub as_want : (x : Act H) (y : Act K) → SameAct f x y → (q : H) → x ≡ Wants q → y ≡ Wants (f q)
  as_want x y (both_want p) q e = (let z : p ≡ q = (let w : Wants p ≡ Wants q = e in cc) in ap (λ u. Wants (f u)) z)
  as_want x y (both_go k) q e = absurd (let w : Goes k ≡ Wants q = e in cc)
  as_want x y (both_bear u v c h) q e = absurd (let w : Bears u c ≡ Wants q = e in cc)
  as_want x y both_stop q e = absurd (let w : Stops ≡ Wants q = e in cc)

-- ---- events by paths

pub of_moves : (r : Path) (k : ℕ) (a : Act Path) (l' : Local Path) → event_of r k a ≡ revisions.Moves l' → a ≡ Goes l'
of_moves r k (Goes l) l' e = (let z : l ≡ l' = (let w : revisions.Moves l ≡ revisions.Moves l' = e in cc) in ap Goes z)
of_moves r k (Bears u c) l' e = absurd (let w : revisions.Forks (u (child r k)) c ≡ revisions.Moves l' = e in cc)
of_moves r k (Wants q) l' e = absurd (let w : revisions.Joins q ≡ revisions.Moves l' = e in cc)
of_moves r k Stops l' e = absurd (let w : revisions.Ended ≡ revisions.Moves l' = e in cc)

pub of_forks : (r : Path) (k : ℕ) (a : Act Path) (l' c : Local Path) → event_of r k a ≡ revisions.Forks l' c
    → (u : Path → Local Path) × (a ≡ Bears u c) × (u (child r k) ≡ l')
of_forks r k (Bears u d) l' c e =
    let z : d ≡ c = (let w : revisions.Forks (u (child r k)) d ≡ revisions.Forks l' c = e in cc) in
    let y : u (child r k) ≡ l' = (let w : revisions.Forks (u (child r k)) d ≡ revisions.Forks l' c = e in cc) in
    (u, ap (Bears u) z, y)
of_forks r k (Goes l) l' c e = absurd (let w : revisions.Moves l ≡ revisions.Forks l' c = e in cc)
of_forks r k (Wants q) l' c e = absurd (let w : revisions.Joins q ≡ revisions.Forks l' c = e in cc)
of_forks r k Stops l' c e = absurd (let w : revisions.Ended ≡ revisions.Forks l' c = e in cc)

pub of_joins : (r : Path) (k : ℕ) (a : Act Path) (q : Path) → event_of r k a ≡ revisions.Joins q → a ≡ Wants q
of_joins r k (Wants p) q e = (let z : p ≡ q = (let w : revisions.Joins p ≡ revisions.Joins q = e in cc) in ap Wants z)
of_joins r k (Goes l) q e = absurd (let w : revisions.Moves l ≡ revisions.Joins q = e in cc)
of_joins r k (Bears u c) q e = absurd (let w : revisions.Forks (u (child r k)) c ≡ revisions.Joins q = e in cc)
of_joins r k Stops q e = absurd (let w : revisions.Ended ≡ revisions.Joins q = e in cc)

-- ---- a renaming that moves one handle

away : Path → Path → Path
away q p = cond (same p q) (child q 0) p

module _ (q : Path) where
  moved : (p : Path) → away q p ≢ q
  unfolding away
  moved p = by (same p q) refl
    where
      by : (d : Bool) → same p q ≡ d → cond d (child q 0) p ≢ q
      by true e = λ z. child-apart q 0 (sym z)
      by false e = λ z. true≢false (sym (same_refl q) ∙ ap (λ x. same x q) (sym z) ∙ e)

  left : (p : Path) → p ≢ q → away q p ≡ p
  unfolding away
  left p apart = ap (λ d. cond d (child q 0) p) (apart-same p q apart)

  not_in_fixed : (hs : List Path) → (IsIn q hs → ⊥) → AllFixed (away q) hs
  not_in_fixed [] n = tt
  not_in_fixed (h ∷ hs) n = (left h (λ e. n (inl (sym e))), not_in_fixed hs (λ i. n (inr i)))

  not_in_moved : (hs : List Path) → IsIn q (map (away q) hs) → ⊥
  not_in_moved [] none = none
  not_in_moved (h ∷ hs) (inl e) = moved h (sym e)
  not_in_moved (h ∷ hs) (inr i) = not_in_moved hs i

  unmoved : (l : Local Path) → (Holds l q → ⊥) → renamed (away q) l ≡ l
  unmoved l n = local_fixed (away q) l (not_in_fixed (handles l) n)

  not_held : (l : Local Path) → l ≡ renamed (away q) l → Holds l q → ⊥
  not_held l e i = not_in_moved (handles l) (subst (IsIn q) (ap handles e ∙ local_named (away q) l) i)

  module _ (g : CodeRun) (l : Local Path) where
    same_again : (Holds l q → ⊥) → SameAct (away q) (act g l) (act g l)
    same_again n = subst (λ z. SameAct (away q) (act g l) (act g z)) (unmoved l n) (act_same (away q) g l)

    pub goes_held : (l' : Local Path) → act g l ≡ Goes l' → Holds l' q → Holds l q
    goes_held l' e i = by (decide_in q (handles l))
      where
        by : Holds l q ⊎ (Holds l q → ⊥) → Holds l q
        by (inl h) = h
        by (inr n) =
            let z : act g l ≡ Goes (renamed (away q) l') = as_go (away q) (act g l) (act g l) (same_again n) l' e in
            let y : l' ≡ renamed (away q) l' = (let w : Goes l' ≡ Goes (renamed (away q) l') = sym e ∙ z in cc) in
            absurd (not_held l' y i)

    pub forker_held : (u : Path → Local Path) (c : Local Path) (h : Path) → act g l ≡ Bears u c → Holds (u h) q
        → Holds l q ⊎ (q ≡ h)
    forker_held u c h e i = by (decide_in q (handles l)) (decide_same q h)
      where
        by : Holds l q ⊎ (Holds l q → ⊥) → (q ≡ h) ⊎ (q ≢ h) → Holds l q ⊎ (q ≡ h)
        by (inl k) d = inl k
        by (inr n) (inl z) = inr z
        by (inr n) (inr apart) =
            let b = as_bear (away q) (act g l) (act g l) (same_again n) u c e in
            let z : u ≡ b.0 = (let w : Bears u c ≡ Bears b.0 (renamed (away q) c) = sym e ∙ b.1 in cc) in
            let y : u h ≡ renamed (away q) (u h) =
            ap (λ v. v h) z ∙ ap b.0 (sym (left h (λ k. apart (sym k)))) ∙ b.2 h in
            absurd (not_held (u h) y i)

    pub forked_held : (u : Path → Local Path) (c : Local Path) → act g l ≡ Bears u c → Holds c q → Holds l q
    forked_held u c e i = by (decide_in q (handles l))
      where
        by : Holds l q ⊎ (Holds l q → ⊥) → Holds l q
        by (inl k) = k
        by (inr n) =
            let b = as_bear (away q) (act g l) (act g l) (same_again n) u c e in
            let y : c ≡ renamed (away q) c = (let w : Bears u c ≡ Bears b.0 (renamed (away q) c) = sym e ∙ b.1 in cc) in
            absurd (not_held c y i)

    pub want_held : act g l ≡ Wants q → Holds l q
    want_held e = by (decide_in q (handles l))
      where
        by : Holds l q ⊎ (Holds l q → ⊥) → Holds l q
        by (inl k) = k
        by (inr n) =
            let z : act g l ≡ Wants (away q q) = as_want (away q) (act g l) (act g l) (same_again n) q e in
            let y : q ≡ away q q = (let w : Wants q ≡ Wants (away q q) = sym e ∙ z in cc) in
            absurd (moved q (sym y))

    pub join_held : (j : Local Path) → Holds (join g l j) q → Holds l q ⊎ Holds j q
    join_held j i = by (decide_in q (handles l)) (decide_in q (handles j))
      where
        by : Holds l q ⊎ (Holds l q → ⊥) → Holds j q ⊎ (Holds j q → ⊥) → Holds l q ⊎ Holds j q
        by (inl k) d = inl k
        by (inr n) (inl k) = inr k
        by (inr n) (inr m) =
            let a = unmoved l n in
            let b = unmoved j m in
            let y : join g l j ≡ renamed (away q) (join g l j) =
            (λ x. join g (sym a x) (sym b x)) ∙ join_same (away q) g l j in
            absurd (not_held (join g l j) y i)

pub holding : (g : CodeRun) → Handles (machine g) Holds
holding g = record {
  moves = λ r q l l' e i. goes_held q g l l' (of_moves r l.state.forks (act g l) l' e) i;
  forker = λ r q l l' c e i.
      let b = of_forks r l.state.forks (act g l) l' c e in
      forker_held q g l b.0 c (child r l.state.forks) b.1 (subst (λ z. Holds z q) (sym b.2) i);
  forked = λ r q l l' c e i.
      let b = of_forks r l.state.forks (act g l) l' c e in
      forked_held q g l b.0 c b.1 i;
  wants = λ r q l e. want_held q g l (of_joins r l.state.forks (act g l) q e);
  joins = λ r t q l lt e f i. join_held q g l lt i;
}
