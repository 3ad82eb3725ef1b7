-- What stands where after a step, and what has stood since.
use Rattle.std.proofs.Common.{◌≡◌, ◌≢◌, ◌⊎◌, inl, inr, ℕ, ◌<◌, ◌≤◌, List, [], ◌∷◌, ◌++◌, Some, None, refl, sym, ap, ◌∙◌, subst, arith}
use Rattle.std.proofs.lemmas.Bool.{cases_lt}
use Rattle.rev_num.specs.Path.{Path, child}
use Rattle.revision_machine.specs.PathMap.{with_at}
use Rattle.revision_machine.specs.Machine.{Forks, Joins, Ended, Machine, Entry, Plain, Joined, Global, Twice, Live, Revisions, nowhere, start, step, Runs, Reached}
use Rattle.revision_machine.specs.Conditions.{Counts}
use Rattle.revision_machine.specs.Laws.{local_of, IsIn}
use Rattle.revision_machine.proofs.Paths.{some_inj, decide_same}
use Rattle.revision_machine.proofs.Way.{put_two, Way, writes, twice, way, Place, own, new, marks, place, plain_inj}
use Rattle.revision_machine.proofs.Diamond.{two_here, two_there, two_other}
use Rattle.revision_machine.proofs.Forker.{fresh_of}
use Rattle.revision_machine.proofs.Ends.{along, reached_forked}
use Rattle.revision_machine.proofs.SimulatedRuns.{runs_on}
use Rattle.audit_rules.specs.Audited.{Telling, Tells}
use Rattle.audit_rules.proofs.OneOwnRun.{in_front, in_last, in_one_more, none_some}

pub plain_joined : {Q : Type 0} {L : Type 0} {a b : L} → Some (Plain a) ≡ Some (Joined b) → Q
plain_joined e = absurd cc

module _ (M : Machine) where
  -- what stands at x after a step of r from l to l'
  pub data Later (revs : Revisions M) (r : Path) (l l' : M.Local) (x : Path) (f : Entry M.Local) : Type 0 where
    stepper : x ≡ r → f ≡ Plain l' → Later revs r l l' x f
    newborn : (c : M.Local) → M.next r l ≡ Forks l' c → x ≡ child r (M.forks l) → f ≡ Plain c → Later revs r l l' x f
    joinee : (lq : M.Local) → M.next r l ≡ Joins x → revs x ≡ Some (Plain lq) → M.next x lq ≡ Ended → f ≡ Joined lq
        → Later revs r l l' x f
    old : revs x ≡ Some f → Later revs r l l' x f

  pub later : (revs : Revisions M) (r : Path) (l l' : M.Local) (o : Path) (e : Entry M.Local) → Place M revs r l l' o e
      → (x : Path) (f : Entry M.Local) → put_two revs r (Plain l') o e x ≡ Some f → Later revs r l l' x f
  later revs r l l' o e role x f there = go (decide_same r x) (decide_same o x) role
    where
      at_r : r ≡ x → Later revs r l l' x f
      at_r rx = stepper (sym rx)
          (some_inj (sym there ∙ ap (put_two revs r (Plain l') o e) (sym rx) ∙ two_here revs r o (Plain l') e))

      go : (r ≡ x) ⊎ (r ≢ x) → (o ≡ x) ⊎ (o ≢ x) → Place M revs r l l' o e → Later revs r l l' x f
      go (inl rx) z w = at_r rx
      go (inr rx) (inr ox) w = old (sym (two_other revs r o (Plain l') e x rx ox) ∙ there)
      go (inr rx) (inl ox) w = by w
        where
          f-is : f ≡ e
          f-is = some_inj (sym there ∙ ap (put_two revs r (Plain l') o e) (sym ox)
              ∙ two_there revs r o (Plain l') e (λ v. rx (v ∙ ox)))

          by : Place M revs r l l' o e → Later revs r l l' x f
          by (own does a b) = absurd (rx (sym a ∙ ox))
          by (new c does a b) = newborn c does (sym ox ∙ a) (f-is ∙ b)
          by (marks lq does was ended is b) =
              joinee lq (subst (λ v. M.next r l ≡ Joins v) ox does) (subst (λ v. revs v ≡ Some (Plain lq)) ox was)
              (subst (λ v. M.next v lq ≡ Ended) ox ended) (f-is ∙ b)

  -- what became of what stood at x
  pub data Since (revs after : Revisions M) (r : Path) (l l' : M.Local) (x : Path) (f : Entry M.Local) : Type 0 where
    stepped : x ≡ r → f ≡ Plain l → after x ≡ Some (Plain l') → Since revs after r l l' x f
    joined : (lq : M.Local) → M.next r l ≡ Joins x → M.next x lq ≡ Ended → f ≡ Plain lq → after x ≡ Some (Joined lq)
        → Since revs after r l l' x f
    same : after x ≡ Some f → Since revs after r l l' x f

  pub since : (revs : Revisions M) (r : Path) (l l' : M.Local) (o : Path) (e : Entry M.Local) → revs r ≡ Some (Plain l)
      → revs (child r (M.forks l)) ≡ None → Place M revs r l l' o e → (x : Path) (f : Entry M.Local) → revs x ≡ Some f
      → Since revs (put_two revs r (Plain l') o e) r l l' x f
  since revs r l l' o e here fresh role x f there = go (decide_same r x) (decide_same o x) role
    where
      after : Revisions M
      after = put_two revs r (Plain l') o e

      go : (r ≡ x) ⊎ (r ≢ x) → (o ≡ x) ⊎ (o ≢ x) → Place M revs r l l' o e → Since revs after r l l' x f
      go (inl rx) z w =
          stepped (sym rx) (some_inj (sym there ∙ ap revs (sym rx) ∙ here))
          (ap after (sym rx) ∙ two_here revs r o (Plain l') e)
      go (inr rx) (inr ox) w = same (two_other revs r o (Plain l') e x rx ox ∙ there)
      go (inr rx) (inl ox) w = by w
        where
          now : after x ≡ Some e
          now = ap after (sym ox) ∙ two_there revs r o (Plain l') e (λ v. rx (v ∙ ox))

          by : Place M revs r l l' o e → Since revs after r l l' x f
          by (own does a b) = absurd (rx (sym a ∙ ox))
          by (new c does a b) = none_some (sym fresh ∙ ap revs (sym a ∙ ox) ∙ there)
          by (marks lq does was ended is b) =
              joined lq (subst (λ v. M.next r l ≡ Joins v) ox does) (subst (λ v. M.next v lq ≡ Ended) ox ended)
              (some_inj (sym there ∙ ap revs (sym ox) ∙ was)) (now ∙ ap Some b)

module _ (M : Machine) (T : Telling M) (P : Path → M.Local → Type 0) (of : M.Local → ℕ) (most : ℕ) (counts : Counts M)
    (tells : Tells M T P of most) (main : M.Local) (lists_none : T.joined main ≡ [])
    (forks_none : M.forks main ≡ 0) where
  -- q is listed by some revision
  pub record IsListed (revs : Revisions M) (q : Path) : Type 0 where
    pub by : Path
    pub entry : Entry M.Local
    pub stands : revs by ≡ Some entry
    pub lists : IsIn q (T.joined (local_of entry))

  -- what holds of the revisions of a reached state
  pub record IsListing (revs : Revisions M) : Type 0 where
    pub root : (e : Entry M.Local) × (revs [] ≡ Some e)
    pub children : (r : Path) (k : ℕ) (e : Entry M.Local) → revs r ≡ Some e → k < M.forks (local_of e)
        → (f : Entry M.Local) × (revs (child r k) ≡ Some f)
    pub ended : (q : Path) (lq : M.Local) → revs q ≡ Some (Joined lq) → M.next q lq ≡ Ended
    pub listed : (q : Path) (lq : M.Local) → revs q ≡ Some (Joined lq) → IsListed revs q
    pub marked : (r q : Path) (e : Entry M.Local) → revs r ≡ Some e → IsIn q (T.joined (local_of e))
        → (lq : M.Local) × (revs q ≡ Some (Joined lq))
    pub once : (r s q : Path) (e f : Entry M.Local) → revs r ≡ Some e → revs s ≡ Some f → IsIn q (T.joined (local_of e))
        → IsIn q (T.joined (local_of f)) → r ≡ s

  abbrev pub Listing : Global M.Local → Type 0
  Listing Twice = Unit {0}
  Listing (Live revs) = IsListing revs

  -- what the stepper lists after its step
  pub data Lists (r : Path) (l : M.Local) (q : Path) : Type 0 where
    before_it : IsIn q (T.joined l) → Lists r l q
    by_it : M.next r l ≡ Joins q → Lists r l q

  pub stepper_lists : (revs : Revisions M) (r : Path) (l l' : M.Local) (o : Path) (e : Entry M.Local)
      → Place M revs r l l' o e → (q : Path) → IsIn q (T.joined l') → Lists r l q
  stepper_lists revs r l l' o e (own does a b) q i = before_it (subst (IsIn q) (tells.moves r l l' does) i)
  stepper_lists revs r l l' o e (new c does a b) q i = before_it (subst (IsIn q) (tells.forker r l l' c does) i)
  stepper_lists revs r l l' o e (marks lq does was ended is b) q i =
      go (in_one_more q o (T.joined l) (subst (IsIn q) (ap T.joined is ∙ tells.joins r o l lq does ended) i))
    where
      go : IsIn q (T.joined l) ⊎ (q ≡ o) → Lists r l q
      go (inl j) = before_it j
      go (inr f) = by_it (does ∙ ap Joins (sym f))

  pub stepper_keeps : (revs : Revisions M) (r : Path) (l l' : M.Local) (o : Path) (e : Entry M.Local)
      → Place M revs r l l' o e → (q : Path) → IsIn q (T.joined l) → IsIn q (T.joined l')
  stepper_keeps revs r l l' o e (own does a b) q i = subst (IsIn q) (sym (tells.moves r l l' does)) i
  stepper_keeps revs r l l' o e (new c does a b) q i = subst (IsIn q) (sym (tells.forker r l l' c does)) i
  stepper_keeps revs r l l' o e (marks lq does was ended is b) q i =
      subst (IsIn q) (sym (ap T.joined is ∙ tells.joins r o l lq does ended)) (in_front q (T.joined l) (o ∷ []) i)

  listing_step : (revs : Revisions M) → IsListing revs → (r : Path) (l l' : M.Local) (o : Path) (e : Entry M.Local)
      → revs r ≡ Some (Plain l) → revs (child r (M.forks l)) ≡ None → Place M revs r l l' o e
      → IsListing (put_two revs r (Plain l') o e)
  listing_step revs has r l l' o e here fresh role =
      record { root = root; children = children; ended = ended; listed = listed; marked = marked; once = once }
    where
      after : Revisions M
      after = put_two revs r (Plain l') o e

      still : (x : Path) (f : Entry M.Local) → revs x ≡ Some f → (g : Entry M.Local) × (after x ≡ Some g)
      still x f there = go (since M revs r l l' o e here fresh role x f there)
        where
          go : Since M revs after r l l' x f → (g : Entry M.Local) × (after x ≡ Some g)
          go (stepped a b c) = (Plain l', c)
          go (joined lq a b c d) = (Joined lq, d)
          go (same a) = (f, a)

      still_marked : (x : Path) (lx : M.Local) → revs x ≡ Some (Joined lx) → after x ≡ Some (Joined lx)
      still_marked x lx there = go (since M revs r l l' o e here fresh role x (Joined lx) there)
        where
          go : Since M revs after r l l' x (Joined lx) → after x ≡ Some (Joined lx)
          go (stepped a b c) = absurd cc
          go (joined lq a b c d) = absurd cc
          go (same a) = a

      root : (g : Entry M.Local) × (after [] ≡ Some g)
      root = still [] has.root.0 has.root.1

      at_r : after r ≡ Some (Plain l')
      at_r = two_here revs r o (Plain l') e

      children : (x : Path) (k : ℕ) (f : Entry M.Local) → after x ≡ Some f → k < M.forks (local_of f)
          → (g : Entry M.Local) × (after (child x k) ≡ Some g)
      children x k f there less = go (later M revs r l l' o e role x f there)
        where
          was_of : (f' : Entry M.Local) → revs x ≡ Some f' → k < M.forks (local_of f')
              → (g : Entry M.Local) × (after (child x k) ≡ Some g)
          was_of f' th le = let h = has.children x k f' th le in still (child x k) h.0 h.1

          of_stepper : x ≡ r → f ≡ Plain l' → Place M revs r l l' o e
              → (g : Entry M.Local) × (after (child x k) ≡ Some g)
          of_stepper xr fl (own does a b) =
              let n = counts.moves r l l' does in
              let up : M.forks (local_of f) ≡ M.forks l' = ap (λ v. M.forks (local_of v)) fl in
              was_of (Plain l) (ap revs xr ∙ here) (omega arith)
          of_stepper xr fl (marks lq does was end is b) =
              let n = ap M.forks is ∙ counts.joins r o l lq does in
              let up : M.forks (local_of f) ≡ M.forks l' = ap (λ v. M.forks (local_of v)) fl in
              was_of (Plain l) (ap revs xr ∙ here) (omega arith)
          of_stepper xr fl (new c does a b) =
              by (cases_lt k (M.forks l))
            where
              by : (k < M.forks l) ⊎ (M.forks l ≤ k) → (g : Entry M.Local) × (after (child x k) ≡ Some g)
              by (inl low) = was_of (Plain l) (ap revs xr ∙ here) low
              by (inr high) =
                  let n = counts.forker r l l' c does in
                  let up : M.forks (local_of f) ≡ M.forks l' = ap (λ v. M.forks (local_of v)) fl in
                  let is : k ≡ M.forks l = omega arith in
                  let at : child x k ≡ o = (λ i. child (xr i) (is i)) ∙ sym a in
                  let apart : r ≢ o = λ v. none_some (sym fresh ∙ ap revs (sym a ∙ sym v) ∙ here) in
                  (e, ap after at ∙ two_there revs r o (Plain l') e apart)

          go : Later M revs r l l' x f → (g : Entry M.Local) × (after (child x k) ≡ Some g)
          go (stepper xr fl) = of_stepper xr fl role
          go (newborn c does a b) =
              let n = counts.forked r l l' c does in
              let up : M.forks (local_of f) ≡ M.forks c = ap (λ v. M.forks (local_of v)) b in
              absurd (omega arith)
          go (joinee lq does was end fl) = was_of (Plain lq) was (subst (λ v. k < M.forks (local_of v)) fl less)
          go (old was) = was_of f was less

      ended : (q : Path) (lq : M.Local) → after q ≡ Some (Joined lq) → M.next q lq ≡ Ended
      ended q lq there = go (later M revs r l l' o e role q (Joined lq) there)
        where
          go : Later M revs r l l' q (Joined lq) → M.next q lq ≡ Ended
          go (stepper xr fl) = absurd cc
          go (newborn c does a b) = absurd cc
          go (joinee lt does was end fl) = let is : lq ≡ lt = cc in ap (M.next q) is ∙ end
          go (old was) = has.ended q lq was

      listed : (q : Path) (lq : M.Local) → after q ≡ Some (Joined lq) → IsListed after q
      listed q lq there = go (later M revs r l l' o e role q (Joined lq) there)
        where
          by_stepper : M.next r l ≡ Joins q → Place M revs r l l' o e → IsIn q (T.joined l')
          by_stepper f (own does a b) = let w = sym does ∙ f in absurd cc
          by_stepper f (new c does a b) = let w = sym does ∙ f in absurd cc
          by_stepper f (marks lt does was end is b) =
              let oq : o ≡ q = (let w = sym does ∙ f in cc) in
              subst (λ v. IsIn v (T.joined l')) oq
              (subst (IsIn o) (sym (ap T.joined is ∙ tells.joins r o l lt does end)) (in_last o (T.joined l)))

          go : Later M revs r l l' q (Joined lq) → IsListed after q
          go (stepper xr fl) = absurd cc
          go (newborn c does a b) = absurd cc
          go (joinee lt does was end fl) =
              record { by = r; entry = Plain l'; stands = at_r; lists = by_stepper does role }
          go (old was) = from (has.listed q lq was)
            where
              from : IsListed revs q → IsListed after q
              from h = keeps (since M revs r l l' o e here fresh role h.by h.entry h.stands)
                where
                  keeps : Since M revs after r l l' h.by h.entry → IsListed after q
                  keeps (stepped a b c) = record {
                    by = h.by;
                    entry = Plain l';
                    stands = c;
                    lists = stepper_keeps revs r l l' o e role q
                        (subst (λ v. IsIn q (T.joined (local_of v))) b h.lists);
                  }
                  keeps (joined lt a b c d) = record {
                    by = h.by;
                    entry = Joined lt;
                    stands = d;
                    lists = subst (λ v. IsIn q (T.joined (local_of v))) c h.lists;
                  }
                  keeps (same a) = record { by = h.by; entry = h.entry; stands = a; lists = h.lists }

      -- who lists q now: the stepper by this step, or one that did before
      now_lists : (x q : Path) (f : Entry M.Local) → after x ≡ Some f → IsIn q (T.joined (local_of f))
          → ((x ≡ r) × (M.next r l ≡ Joins q))
          ⊎ ((g : Entry M.Local) × (revs x ≡ Some g) × IsIn q (T.joined (local_of g)))
      now_lists x q f there i = go (later M revs r l l' o e role x f there)
        where
          go : Later M revs r l l' x f
              → ((x ≡ r) × (M.next r l ≡ Joins q))
              ⊎ ((g : Entry M.Local) × (revs x ≡ Some g) × IsIn q (T.joined (local_of g)))
          go (stepper xr fl) =
              from (stepper_lists revs r l l' o e role q (subst (λ v. IsIn q (T.joined (local_of v))) fl i))
            where
              from : Lists r l q
                  → ((x ≡ r) × (M.next r l ≡ Joins q))
                  ⊎ ((g : Entry M.Local) × (revs x ≡ Some g) × IsIn q (T.joined (local_of g)))
              from (before_it j) = inr (Plain l, ap revs xr ∙ here, j)
              from (by_it does) = inl (xr, does)
          go (newborn c does a b) =
              absurd (subst (IsIn q) (tells.forked r l l' c does) (subst (λ v. IsIn q (T.joined (local_of v))) b i))
          go (joinee lq does was end fl) = inr (Plain lq, was, subst (λ v. IsIn q (T.joined (local_of v))) fl i)
          go (old was) = inr (f, was, i)

      now_joined : (q : Path) → M.next r l ≡ Joins q
          → (lq : M.Local) × (revs q ≡ Some (Plain lq)) × (after q ≡ Some (Joined lq))
      now_joined q f = by role
        where
          by : Place M revs r l l' o e → (lq : M.Local) × (revs q ≡ Some (Plain lq)) × (after q ≡ Some (Joined lq))
          by (own does a b) = let w = sym does ∙ f in absurd cc
          by (new c does a b) = let w = sym does ∙ f in absurd cc
          by (marks lt does was end is b) =
              let oq : o ≡ q = (let w = sym does ∙ f in cc) in
              let apart : r ≢ o = λ v.
              (let ll : l ≡ lt = plain_inj M (sym here ∙ ap revs v ∙ was) in
              let w : Joins o ≡ Ended = sym does ∙ (λ i. M.next (v i) (ll i)) ∙ end in
              cc) in
              (lt, ap revs (sym oq) ∙ was, ap after (sym oq) ∙ two_there revs r o (Plain l') e apart ∙ ap Some b)

      marked : (x q : Path) (f : Entry M.Local) → after x ≡ Some f → IsIn q (T.joined (local_of f))
          → (lq : M.Local) × (after q ≡ Some (Joined lq))
      marked x q f there i = go (now_lists x q f there i)
        where
          go : ((x ≡ r) × (M.next r l ≡ Joins q))
              ⊎ ((g : Entry M.Local) × (revs x ≡ Some g) × IsIn q (T.joined (local_of g)))
              → (lq : M.Local) × (after q ≡ Some (Joined lq))
          go (inl h) = let n = now_joined q h.1 in (n.0, n.2)
          go (inr h) = let n = has.marked x q h.0 h.1 h.2 in (n.0, still_marked q n.0 n.1)

      once : (x y q : Path) (f g : Entry M.Local) → after x ≡ Some f → after y ≡ Some g → IsIn q (T.joined (local_of f))
          → IsIn q (T.joined (local_of g)) → x ≡ y
      once x y q f g a b i j = go (now_lists x q f a i) (now_lists y q g b j)
        where
          Now : Path → Type 0
          Now x = (x ≡ r) × (M.next r l ≡ Joins q)

          Was : Path → Type 0
          Was x = (g : Entry M.Local) × (revs x ≡ Some g) × IsIn q (T.joined (local_of g))

          clash : (z : Path) → Now z → (w : Path) → Was w → x ≡ y
          clash z n w h =
              let now = now_joined q n.1 in
              let was = has.marked w q h.0 h.1 h.2 in
              plain_joined (sym now.1 ∙ was.1)

          go : ((x ≡ r) × (M.next r l ≡ Joins q))
              ⊎ ((g : Entry M.Local) × (revs x ≡ Some g) × IsIn q (T.joined (local_of g)))
              → ((y ≡ r) × (M.next r l ≡ Joins q))
              ⊎ ((g : Entry M.Local) × (revs y ≡ Some g) × IsIn q (T.joined (local_of g)))
              → x ≡ y
          go (inl h) (inl k) = h.0 ∙ sym k.0
          go (inl h) (inr k) = clash x h y k
          go (inr h) (inl k) = clash y k x h
          go (inr h) (inr k) = has.once x y q h.0 k.0 h.1 k.1 h.2 k.2

  -- ---- reached states

  pub on_by_one : (g h : Global M.Local) (r : Path) → Reached M main g → step M g r ≡ Some h → Reached M main h
  on_by_one g h r reached s = record {
    by = reached.by ++ r ∷ [];
    runs = runs_on M reached.by (r ∷ []) (start M main) g h reached.runs (h, s, refl);
  }

  pub fresh_at : (revs : Revisions M) → Reached M main (Live revs) → (r : Path) (l : M.Local) → revs r ≡ Some (Plain l)
      → revs (child r (M.forks l)) ≡ None
  fresh_at revs reached = fresh_of M revs (reached_forked M main counts (Live revs) reached)

  keeps : (g h : Global M.Local) (r : Path) → Reached M main g × Listing g → step M g r ≡ Some h
      → Reached M main h × Listing h
  keeps Twice h r has s = none_some s
  keeps (Live revs) h r has s = (on_by_one (Live revs) h r has.0 s, by h (way M revs r h s))
    where
      by : (h : Global M.Local) → Way M revs r h → Listing h
      by h (writes l l' o e here x) = listing_step revs has.1 r l l' o e here (fresh_at revs has.0 r l here) (place M x)
      by h (twice l q lq here does there) = tt

  -- at the start `main` stands alone
  alone : (x : Path) (f : Entry M.Local) → with_at nowhere [] (Plain main) x ≡ Some f → (x ≡ []) × (f ≡ Plain main)
  alone [] f e = (refl, some_inj (sym e))
  alone (n ∷ x) f e = none_some e

  start_listing : IsListing (with_at nowhere [] (Plain main))
  start_listing = record {
    root = (Plain main, refl);
    children = λ r k e there less. by_none k (subst (λ v. k < M.forks (local_of v)) (alone r e there).1 less);
    ended = λ q lq there. (let w = (alone q (Joined lq) there).1 in absurd cc);
    listed = λ q lq there. (let w = (alone q (Joined lq) there).1 in absurd cc);
    marked = λ r q e there i.
        absurd (subst (IsIn q) lists_none (subst (λ v. IsIn q (T.joined (local_of v))) (alone r e there).1 i));
    once = λ r s q e f there there' i j. (alone r e there).0 ∙ sym (alone s f there').0;
  }
    where
      by_none : {Q : Type 0} (k : ℕ) → k < M.forks main → Q
      by_none k less = absurd (omega (arith, forks_none))

  pub listing : (g : Global M.Local) → Reached M main g → Listing g
  listing g reached =
      (along M (λ v. Reached M main v × Listing v) keeps reached.by (start M main) g
      (record { by = []; runs = refl }, start_listing) reached.runs).1

  -- ---- what stood before

  -- what stood stands, with what it listed; a marked revision is as it was
  pub record Stays (revs later : Revisions M) : Type 0 where
    pub grows : (r : Path) (e : Entry M.Local) → revs r ≡ Some e
        → (f : Entry M.Local) × (later r ≡ Some f)
        × ((q : Path) → IsIn q (T.joined (local_of e)) → IsIn q (T.joined (local_of f)))
    pub marked : (q : Path) (lq : M.Local) → revs q ≡ Some (Joined lq) → later q ≡ Some (Joined lq)

  stays_step : (revs : Revisions M) (r : Path) (l l' : M.Local) (o : Path) (e : Entry M.Local) → revs r ≡ Some (Plain l)
      → revs (child r (M.forks l)) ≡ None → Place M revs r l l' o e → Stays revs (put_two revs r (Plain l') o e)
  stays_step revs r l l' o e here fresh role = record { grows = grows; marked = marked }
    where
      after : Revisions M
      after = put_two revs r (Plain l') o e

      grows : (x : Path) (f : Entry M.Local) → revs x ≡ Some f
          → (g : Entry M.Local) × (after x ≡ Some g)
          × ((q : Path) → IsIn q (T.joined (local_of f)) → IsIn q (T.joined (local_of g)))
      grows x f there = go (since M revs r l l' o e here fresh role x f there)
        where
          go : Since M revs after r l l' x f
              → (g : Entry M.Local) × (after x ≡ Some g)
              × ((q : Path) → IsIn q (T.joined (local_of f)) → IsIn q (T.joined (local_of g)))
          go (stepped a b c) = (
            Plain l',
            c,
            λ q i. stepper_keeps revs r l l' o e role q (subst (λ v. IsIn q (T.joined (local_of v))) b i),
          )
          go (joined lq a b c d) = (Joined lq, d, λ q i. subst (λ v. IsIn q (T.joined (local_of v))) c i)
          go (same a) = (f, a, λ q i. i)

      marked : (x : Path) (lx : M.Local) → revs x ≡ Some (Joined lx) → after x ≡ Some (Joined lx)
      marked x lx there = go (since M revs r l l' o e here fresh role x (Joined lx) there)
        where
          go : Since M revs after r l l' x (Joined lx) → after x ≡ Some (Joined lx)
          go (stepped a b c) = absurd cc
          go (joined lq a b c d) = absurd cc
          go (same a) = a

  pub from_twice : (rs : List Path) (h : Global M.Local) → Runs M Twice rs h → Twice ≡ h
  from_twice [] h runs = runs
  from_twice (r ∷ rs) h runs = none_some runs.1

  pub stays : (rs : List Path) (revs last : Revisions M) → Reached M main (Live revs)
      → Runs M (Live revs) rs (Live last) → Stays revs last
  stays [] revs last reached runs = record {
    grows = λ r e there. (e, ap (λ m. m r) (live_inj runs) ∙ there, λ q i. i);
    marked = λ q lq there. ap (λ m. m q) (live_inj runs) ∙ there;
  }
    where
      live_inj : {u v : Revisions M} → Live u ≡ Live v → v ≡ u
      live_inj e = cc
  stays (r ∷ rs) revs last reached runs = by runs.0 refl (way M revs r runs.0 runs.1) (λ m. stays rs m last)
    where
      by : (m : Global M.Local) → m ≡ runs.0 → Way M revs r m
          → ((m : Revisions M) → Reached M main (Live m) → Runs M (Live m) rs (Live last) → Stays m last)
          → Stays revs last
      by m is (twice l q lq here does there) rest =
          let w : Twice ≡ Live last =
          from_twice rs (Live last) (subst (λ v. Runs M v rs (Live last)) (sym is) runs.2) in
          absurd cc
      by m is (writes l l' o e here x) rest =
          let after : Revisions M = put_two revs r (Plain l') o e in
          let one : Stays revs after = stays_step revs r l l' o e here (fresh_at revs reached r l here) (place M x) in
          let reached' : Reached M main (Live after) =
          on_by_one (Live revs) (Live after) r reached (runs.1 ∙ ap Some (sym is)) in
          let more : Stays after last = rest after reached' (subst (λ v. Runs M v rs (Live last)) (sym is) runs.2) in
          record {
            grows = λ p f there.
                (let g = one.grows p f there in let h = more.grows p g.0 g.1 in (h.0, h.1, λ q i. h.2 q (g.2 q i)));
            marked = λ q lq there. more.marked q lq (one.marked q lq there);
          }
