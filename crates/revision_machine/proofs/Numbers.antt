-- A replay by numbers is a run by paths, for every table that goes on from the world's paths.
use Rattle.std.proofs.Common.{◌≡◌, ◌≢◌, inl, inr, ℕ, zero, suc, Bool, true, false, cond, List, [], ◌∷◌, ◌++◌, length, Option, Some, None, refl, sym, ap, ◌∙◌, subst, append_assoc, append-nil}
use Rattle.rev_num.specs.Path.{Path, child, same}
use Rattle.revision_machine.specs.PathMap.{with_at}
use Rattle.revision_machine.specs.Machine.{Joins, Ended, Entry, Plain, Joined, Twice, Live, step, step_at, happens, join_at, join_ended}
use Rattle.revision_machine.specs.Laws.{IsIn, IsDistinct}
use Rattle.revision_machine.specs.Numbered.{Wish, Goes, Bears, Wants, Stops, Numbered, Entries, World, Both, Listing, at_number, put_number, join_stopped, join_number, leg_of, leg_at, leg, number_of, or_path, event_by, machine_by, paths_of, globe_of, shows}
use Rattle.revision_machine.specs.Births.{offspring_of, offspring_at, offspring}
use Rattle.revision_machine.proofs.Paths.{some_inj, apart-same, swap, overwrite, at_here, at_other, distinct_more}
use Rattle.rev_num.proofs.PostOrder.{same_refl, same-eq}
pub use Rattle.revision_machine.proofs.Lists.{none_some}
use Rattle.revision_machine.proofs.Lists.{at_front, at_length, put_other}
use Rattle.revision_machine.proofs.Way.{ended_apart}
use Rattle.revision_machine.proofs.Bearing.{in_front}

pub distinct_front : (ps qs : List Path) → IsDistinct (ps ++ qs) → IsDistinct ps
distinct_front [] qs d = tt
distinct_front (p ∷ ps) qs d = (λ i. d.0 (in_front ps qs p i), distinct_front ps qs d.1)

pub in_at : (ps : List Path) (m : ℕ) (q : Path) → at_number ps m ≡ Some q → IsIn q ps
in_at [] m q e = none_some e
in_at (p ∷ ps) zero q e = inl (sym (some_inj e))
in_at (p ∷ ps) (suc m) q e = inr (in_at ps m q e)

pub number_at : (ps : List Path) (m : ℕ) (q : Path) → IsDistinct ps → at_number ps m ≡ Some q → number_of ps q ≡ m
number_at [] m q d e = none_some e
number_at (p ∷ ps) zero q d e =
    ap (λ b. cond b zero (suc (number_of ps q))) (ap (same p) (sym (some_inj e)) ∙ same_refl p)
number_at (p ∷ ps) (suc m) q d e =
    let apart : p ≢ q = λ f. d.0 (subst (λ v. IsIn v ps) (sym f) (in_at ps m q e)) in
    ap (λ b. cond b zero (suc (number_of ps q))) (apart-same p q apart) ∙ ap suc (number_at ps m q d.1 e)

-- a path of the table is what stands at its number
pub number_back : (t : List Path) (q : Path) → IsIn q t → at_number t (number_of t q) ≡ Some q
number_back [] q none = absurd none
number_back (p ∷ t) q i = go (λ j. number_back t q j) (same p q) refl i
  where
    go : (IsIn q t → at_number t (number_of t q) ≡ Some q) → (b : Bool) → same p q ≡ b → IsIn q (p ∷ t)
        → at_number (p ∷ t) (cond b zero (suc (number_of t q))) ≡ Some q
    go later true e i = ap Some (same-eq p q e)
    go later false e (inl is) =
        absurd (let clash : true ≡ false = sym (ap (λ v. same v q) (sym is) ∙ same_refl q) ∙ e in cc)
    go later false e (inr i) = later i

module _ {A : Type 0} where
  pub length-paths : (w : List (Path × A)) → length (paths_of w) ≡ length w
  length-paths [] = refl
  length-paths (x ∷ w) = ap suc (length-paths w)

  -- an entry's path stands at its number
  pub path_at : (w : List (Path × A)) (m : ℕ) (q : Path) (e : A) → at_number w m ≡ Some (q, e)
      → at_number (paths_of w) m ≡ Some q
  path_at [] m q e f = none_some f
  path_at (x ∷ w) zero q e f = ap (λ v. Some v.0) (some_inj f)
  path_at (x ∷ w) (suc m) q e f = path_at w m q e f

  pub at_paths : (w : List (Path × A)) (rest : List Path) (m : ℕ) (q : Path) (e : A) → at_number w m ≡ Some (q, e)
      → at_number (paths_of w ++ rest) m ≡ Some q
  at_paths w rest m q e f = at_front (paths_of w) rest m q (path_at w m q e f)

  pub in_paths : (w : List (Path × A)) (m : ℕ) (q : Path) (e : A) → at_number w m ≡ Some (q, e) → IsIn q (paths_of w)
  in_paths w m q e f = in_at (paths_of w) m q (path_at w m q e f)

  pub globe_there : (w : List (Path × A)) (m : ℕ) (q : Path) (e : A) → IsDistinct (paths_of w)
      → at_number w m ≡ Some (q, e) → globe_of w q ≡ Some e
  globe_there [] m q e d f = none_some f
  globe_there (x ∷ w) zero q e d f =
      ap (λ v. with_at (globe_of w) x.0 x.1 v.0) (sym (some_inj f)) ∙ at_here (globe_of w) x.0 x.1
      ∙ ap (λ v. Some v.1) (some_inj f)
  globe_there (x ∷ w) (suc m) q e d f =
      let apart : x.0 ≢ q = λ g. d.0 (subst (λ v. IsIn v (paths_of w)) (sym g) (in_paths w m q e f)) in
      at_other (globe_of w) x.0 x.1 q apart ∙ globe_there w m q e d.1 f

  globe_put : (w : List (Path × A)) (m : ℕ) (q : Path) (e f : A) → IsDistinct (paths_of w) → at_number w m ≡ Some (q, e)
      → globe_of (put_number w m (q, f)) ≡ with_at (globe_of w) q f
  globe_put [] m q e f d g = none_some g
  globe_put (x ∷ w) zero q e f d g =
      sym (overwrite (globe_of w) q f x.1)
      ∙ ap (λ v. with_at (with_at (globe_of w) v x.1) q f) (sym (ap (λ v. v.0) (some_inj g)))
  globe_put (x ∷ w) (suc m) q e f d g =
      let apart : q ≢ x.0 = λ h. d.0 (subst (λ v. IsIn v (paths_of w)) h (in_paths w m q e g)) in
      ap (λ v. with_at v x.0 x.1) (globe_put w m q e f d.1 g) ∙ swap (globe_of w) q x.0 f x.1 apart

  pub paths_put : (w : List (Path × A)) (m : ℕ) (q : Path) (e f : A) → at_number w m ≡ Some (q, e)
      → paths_of (put_number w m (q, f)) ≡ paths_of w
  paths_put [] m q e f g = refl
  paths_put (x ∷ w) zero q e f g = ap (λ v. v.0 ∷ paths_of w) (sym (some_inj g))
  paths_put (x ∷ w) (suc m) q e f g = ap (λ v. x.0 ∷ v) (paths_put w m q e f g)

  globe_more : (w : List (Path × A)) (c : Path) (e : A) → (IsIn c (paths_of w) → ⊥)
      → globe_of (w ++ (c, e) ∷ []) ≡ with_at (globe_of w) c e
  globe_more [] c e out = refl
  globe_more (x ∷ w) c e out =
      ap (λ v. with_at v x.0 x.1) (globe_more w c e (λ i. out (inr i)))
      ∙ swap (globe_of w) c x.0 e x.1 (λ g. out (inl g))

  pub paths_more : (w : List (Path × A)) (c : Path) (e : A) → paths_of (w ++ (c, e) ∷ []) ≡ paths_of w ++ c ∷ []
  paths_more [] c e = refl
  paths_more (x ∷ w) c e = ap (λ v. x.0 ∷ v) (paths_more w c e)

  -- the first entry has the first path
  pub first_entry : (w : List (Path × A)) (p : Path) (rest : List Path) → paths_of w ≡ p ∷ rest
      → (e : A) × (at_number w 0 ≡ Some (p, e))
  first_entry [] p rest is = absurd (let z : [] ≡ p ∷ rest = is in cc)
  first_entry (x ∷ w) p rest is =
      (x.1, (let z : x.0 ≡ p = (let y : x.0 ∷ paths_of w ≡ p ∷ rest = is in cc) in ap (λ q. Some (q, x.1)) z))

  in_globe : (w : List (Path × A)) (c : Path) → globe_of w c ≡ None → IsIn c (paths_of w) → ⊥
  in_globe [] c e none = none
  in_globe (x ∷ w) c e i = go (in_globe w c) (same x.0 c) refl i
    where
      here : (b : Bool) → same x.0 c ≡ b → cond b (Some x.1) (globe_of w c) ≡ None
      here b f = ap (λ v. cond v (Some x.1) (globe_of w c)) (sym f) ∙ e

      go : (globe_of w c ≡ None → IsIn c (paths_of w) → ⊥) → (b : Bool) → same x.0 c ≡ b → IsIn c (x.0 ∷ paths_of w) → ⊥
      go later true f i = none_some (sym (here true f))
      go later false f (inl g) = let clash : true ≡ false = sym (ap (same x.0) g ∙ same_refl x.0) ∙ f in cc
      go later false f (inr i) = later (here false f) i

module _ (N : Numbered) where
  abbrev pub paths_with : Entries N.Local → World N.Local → List Path
  paths_with w Both = paths_of w
  paths_with w (Listing w') = paths_of w'

  -- a leg of the world as a step of the machine
  pub record LegIs (w : Entries N.Local) (n : ℕ) (w' : World N.Local) : Type 0 where
    pub path : Path
    pub state : N.Local
    pub stands : at_number w n ≡ Some (path, Plain state)
    pub distinct : IsDistinct (paths_with w w')
    pub more : List Path
    pub grows : paths_with w w' ≡ paths_of w ++ more
    pub bears : (t : List Path) → offspring (machine_by N t) (Live (globe_of w)) path ≡ more
    pub steps : (t rest : List Path) → IsDistinct t → t ≡ paths_with w w' ++ rest
        → step (machine_by N t) (Live (globe_of w)) path ≡ Some (shows w')

  module _ (w : Entries N.Local) (distinct : IsDistinct (paths_of w))
      (fresh : (r : Path) (l : N.Local) → globe_of w r ≡ Some (Plain l) → globe_of w (child r (N.forks l)) ≡ None)
      (n : ℕ) where
    pub leg_is : (w' : World N.Local) → leg N (Listing w) n ≡ Some w' → LegIs w n w'
    leg_is w' s = of_entry (at_number w n) refl s
      where
        does : (r : Path) (l : N.Local) → at_number w n ≡ Some (r, Plain l) → (t : List Path) (v : Wish N.Local)
            → N.next l ≡ v
            → step (machine_by N t) (Live (globe_of w)) r
            ≡ happens (machine_by N t) (globe_of w) r l (event_by t r (N.forks l) v)
        does r l here t v e =
            ap (step_at (machine_by N t) (globe_of w) r) (globe_there w n r (Plain l) distinct here)
            ∙ ap (λ u. happens (machine_by N t) (globe_of w) r l (event_by t r (N.forks l) u)) e

        child_of : (r : Path) (l : N.Local) → at_number w n ≡ Some (r, Plain l) → (t : List Path) (v : Wish N.Local)
            → N.next l ≡ v
            → offspring (machine_by N t) (Live (globe_of w)) r
            ≡ offspring_of (machine_by N t) r l (event_by t r (N.forks l) v)
        child_of r l here t v e =
            ap (offspring_at (machine_by N t) r) (globe_there w n r (Plain l) distinct here)
            ∙ ap (λ u. offspring_of (machine_by N t) r l (event_by t r (N.forks l) u)) e

        of_stop : (r : Path) (l : N.Local) (m : ℕ) (q : Path) (lq : N.Local) → at_number w n ≡ Some (r, Plain l)
            → N.next l ≡ Wants m → at_number w m ≡ Some (q, Plain lq) → (v : Wish N.Local) → N.next lq ≡ v
            → join_stopped N w n r l m q lq v ≡ Some w' → LegIs w n w'
        of_stop r l m q lq here e there Stops f s = subst (LegIs w n) (some_inj s) (record {
          path = r;
          state = l;
          stands = here;
          distinct = distinct';
          more = [];
          grows = paths₂ ∙ sym (append-nil (paths_of w));
          bears = λ t. child_of r l here t (Wants m) e;
          steps = steps';
        })
          where
            plain_r : globe_of w r ≡ Some (Plain l)
            plain_r = globe_there w n r (Plain l) distinct here

            plain_q : globe_of w q ≡ Some (Plain lq)
            plain_q = globe_there w m q (Plain lq) distinct there

            apart : r ≢ q
            apart = ended_apart (machine_by N []) (globe_of w) r q l lq plain_r
                (λ g.
                let clash : Joins (or_path (at_number [] m) r) ≡ Ended = sym (ap (event_by [] r (N.forks l)) e) ∙ g in
                cc)
                plain_q (ap (event_by [] q (N.forks lq)) f)

            m_n : m ≢ n
            m_n g = apart (ap (λ v. v.0) (some_inj (sym here ∙ ap (at_number w) (sym g) ∙ there)))

            new_state : Entry N.Local
            new_state = Plain (N.join l m lq)

            w₁ : Entries N.Local
            w₁ = put_number w n (r, new_state)

            paths₁ : paths_of w₁ ≡ paths_of w
            paths₁ = paths_put w n r (Plain l) new_state here

            there₁ : at_number w₁ m ≡ Some (q, Plain lq)
            there₁ = put_other w n m (r, new_state) m_n ∙ there

            paths₂ : paths_of (put_number w₁ m (q, Joined lq)) ≡ paths_of w
            paths₂ = paths_put w₁ m q (Plain lq) (Joined lq) there₁ ∙ paths₁

            distinct' : IsDistinct (paths_of (put_number w₁ m (q, Joined lq)))
            distinct' = subst IsDistinct (sym paths₂) distinct

            shown_is :
                globe_of (put_number w₁ m (q, Joined lq)) ≡ with_at (with_at (globe_of w) r new_state) q (Joined lq)
            shown_is = globe_put w₁ m q (Plain lq) (Joined lq) (subst IsDistinct (sym paths₁) distinct) there₁
                ∙ ap (λ v. with_at v q (Joined lq)) (globe_put w n r (Plain l) new_state distinct here)

            steps' : (t rest : List Path) → IsDistinct t → t ≡ paths_of (put_number w₁ m (q, Joined lq)) ++ rest
                → step (machine_by N t) (Live (globe_of w)) r ≡ Some (Live (globe_of (put_number w₁ m (q, Joined lq))))
            steps' t rest d is =
                let at_m : at_number t m ≡ Some q =
                ap (λ v. at_number v m) (is ∙ ap (λ v. v ++ rest) paths₂) ∙ at_paths w rest m q (Plain lq) there in
                let back : number_of t q ≡ m = number_at t m q d at_m in
                does r l here t (Wants m) e
                ∙ ap (λ v. join_at (machine_by N t) (globe_of w) r l (or_path v r) (globe_of w (or_path v r))) at_m
                ∙ ap (join_at (machine_by N t) (globe_of w) r l q) plain_q
                ∙ ap (λ v. join_ended (machine_by N t) (globe_of w) r l q lq (event_by t q (N.forks lq) v)) f
                ∙ ap (λ v. Some (Live (with_at (with_at (globe_of w) r (Plain (N.join l v lq))) q (Joined lq)))) back
                ∙ ap (λ v. Some (Live v)) (sym shown_is)
        of_stop r l m q lq here e there (Goes _) f s = none_some s
        of_stop r l m q lq here e there (Bears _ _) f s = none_some s
        of_stop r l m q lq here e there (Wants _) f s = none_some s

        of_target : (r : Path) (l : N.Local) (m : ℕ) → at_number w n ≡ Some (r, Plain l) → N.next l ≡ Wants m
            → (o : Option (Path × Entry N.Local)) → at_number w m ≡ o → join_number N w n r l m o ≡ Some w'
            → LegIs w n w'
        of_target r l m here e None there s = none_some s
        of_target r l m here e (Some (q, Plain lq)) there s = of_stop r l m q lq here e there (N.next lq) refl s
        of_target r l m here e (Some (q, Joined lq)) there s = subst (LegIs w n) (some_inj s) (record {
          path = r;
          state = l;
          stands = here;
          distinct = distinct;
          more = [];
          grows = sym (append-nil (paths_of w));
          bears = λ t. child_of r l here t (Wants m) e;
          steps = steps';
        })
          where
            steps' : (t rest : List Path) → IsDistinct t → t ≡ paths_of w ++ rest
                → step (machine_by N t) (Live (globe_of w)) r ≡ Some Twice
            steps' t rest d is =
                let at_m : at_number t m ≡ Some q =
                ap (λ v. at_number v m) is ∙ at_paths w rest m q (Joined lq) there in
                does r l here t (Wants m) e
                ∙ ap (λ v. join_at (machine_by N t) (globe_of w) r l (or_path v r) (globe_of w (or_path v r))) at_m
                ∙ ap (join_at (machine_by N t) (globe_of w) r l q) (globe_there w m q (Joined lq) distinct there)

        of_wish : (r : Path) (l : N.Local) → at_number w n ≡ Some (r, Plain l) → (v : Wish N.Local) → N.next l ≡ v
            → leg_of N w n r l v ≡ Some w' → LegIs w n w'
        of_wish r l here Stops e s = none_some s
        of_wish r l here (Wants m) e s = of_target r l m here e (at_number w m) refl s
        of_wish r l here (Goes l') e s = subst (LegIs w n) (some_inj s) (record {
          path = r;
          state = l;
          stands = here;
          distinct = subst IsDistinct (sym (paths_put w n r (Plain l) (Plain l') here)) distinct;
          more = [];
          grows = paths_put w n r (Plain l) (Plain l') here ∙ sym (append-nil (paths_of w));
          bears = λ t. child_of r l here t (Goes l') e;
          steps = λ t rest d is.
              does r l here t (Goes l') e
              ∙ ap (λ v. Some (Live v)) (sym (globe_put w n r (Plain l) (Plain l') distinct here));
        })
        of_wish r l here (Bears f c) e s = subst (LegIs w n) (some_inj s) (record {
          path = r;
          state = l;
          stands = here;
          distinct = distinct';
          more = k ∷ [];
          grows = paths₂;
          bears = λ t. child_of r l here t (Bears f c) e;
          steps = steps';
        })
          where
            k : Path
            k = child r (N.forks l)

            out : IsIn k (paths_of w) → ⊥
            out = in_globe w k (fresh r l (globe_there w n r (Plain l) distinct here))

            new_state : Entry N.Local
            new_state = Plain (f (length w))

            w₁ : Entries N.Local
            w₁ = put_number w n (r, new_state)

            paths₁ : paths_of w₁ ≡ paths_of w
            paths₁ = paths_put w n r (Plain l) new_state here

            paths₂ : paths_of (w₁ ++ (k, Plain c) ∷ []) ≡ paths_of w ++ k ∷ []
            paths₂ = paths_more w₁ k (Plain c) ∙ ap (λ v. v ++ k ∷ []) paths₁

            distinct' : IsDistinct (paths_of (w₁ ++ (k, Plain c) ∷ []))
            distinct' = subst IsDistinct (sym paths₂) (distinct_more (paths_of w) k distinct out)

            shown_is : globe_of (w₁ ++ (k, Plain c) ∷ []) ≡ with_at (with_at (globe_of w) r new_state) k (Plain c)
            shown_is = globe_more w₁ k (Plain c) (λ v. out (subst (IsIn k) paths₁ v))
                ∙ ap (λ v. with_at v k (Plain c)) (globe_put w n r (Plain l) new_state distinct here)

            steps' : (t rest : List Path) → IsDistinct t → t ≡ paths_of (w₁ ++ (k, Plain c) ∷ []) ++ rest
                → step (machine_by N t) (Live (globe_of w)) r ≡ Some (Live (globe_of (w₁ ++ (k, Plain c) ∷ [])))
            steps' t rest d is =
                let split : t ≡ paths_of w ++ k ∷ rest =
                is ∙ ap (λ v. v ++ rest) paths₂ ∙ append_assoc (paths_of w) (k ∷ []) rest in
                let at_k : at_number t (length (paths_of w)) ≡ Some k =
                ap (λ v. at_number v (length (paths_of w))) split ∙ at_length (paths_of w) k rest in
                let number : number_of t k ≡ length w = number_at t (length (paths_of w)) k d at_k ∙ length-paths w in
                does r l here t (Bears f c) e
                ∙ ap (λ v. Some (Live (with_at (with_at (globe_of w) r (Plain (f v))) k (Plain c)))) number
                ∙ ap (λ v. Some (Live v)) (sym shown_is)

        of_entry : (o : Option (Path × Entry N.Local)) → at_number w n ≡ o → leg_at N w n o ≡ Some w' → LegIs w n w'
        of_entry None here s = none_some s
        of_entry (Some (r, Joined l)) here s = none_some s
        of_entry (Some (r, Plain l)) here s = of_wish r l here (N.next l) refl s
