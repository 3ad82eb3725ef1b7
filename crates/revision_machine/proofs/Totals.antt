-- What the revisions of a state have together, by any list of them.
use Rattle.std.proofs.Common.{◌≡◌, ◌≢◌, inl, inr, ℕ, suc, ◌+◌, ◌≤◌, Bool, true, false, cond, List, [], ◌∷◌, length, Some, refl, sym, ap, ◌∙◌, subst, arith}
use Rattle.rev_num.specs.Path.{Path, same}
use Rattle.revision_machine.specs.PathMap.{PathMap}
use Rattle.revision_machine.specs.Machine.{Machine, Entry, Plain, Live, Revisions, Runs, Reached}
use Rattle.revision_machine.specs.Conditions.{Counts, Spends}
use Rattle.revision_machine.specs.Laws.{IsIn, IsDistinct, amount, total, Census}
use Rattle.rev_num.proofs.PostOrder.{same-eq, same_refl}
use Rattle.revision_machine.proofs.Census.{at_most, spending_law, runs_spend}
use Rattle.revision_machine.proofs.Ends.{reached_forked}

-- the list with its first p taken out
without : Path → List Path → List Path
without p [] = []
without p (q ∷ qs) = cond (same q p) qs (q ∷ without p qs)

in-without : (p r : Path) (qs : List Path) → IsDistinct qs → IsIn r (without p qs) → IsIn r qs × (r ≢ p)
unfolding without
in-without p r [] d i = absurd i
in-without p r (q ∷ qs) d i = go (in-without p r qs d.1) (same q p) refl i
  where
    go : (IsIn r (without p qs) → IsIn r qs × (r ≢ p)) → (b : Bool) → same q p ≡ b
        → IsIn r (cond b qs (q ∷ without p qs)) → IsIn r (q ∷ qs) × (r ≢ p)
    go later true e i = (inr i, λ rp. d.0 (subst (λ v. IsIn v qs) (rp ∙ sym (same-eq q p e)) i))
    go later false e (inl i) =
        (inl i, λ rp. (let clash : true ≡ false = sym (ap (λ v. same v p) (sym i ∙ rp) ∙ same_refl p) ∙ e in cc))
    go later false e (inr i) = let h = later i in (inr h.0, h.1)

without-in : (p r : Path) (qs : List Path) → IsIn r qs → r ≢ p → IsIn r (without p qs)
unfolding without
without-in p r [] i rp = i
without-in p r (q ∷ qs) i rp = go (λ j. without-in p r qs j rp) (same q p) refl i
  where
    go : (IsIn r qs → IsIn r (without p qs)) → (b : Bool) → same q p ≡ b → IsIn r (q ∷ qs)
        → IsIn r (cond b qs (q ∷ without p qs))
    go later true e (inl i) = absurd (rp (i ∙ same-eq q p e))
    go later true e (inr i) = i
    go later false e (inl i) = inl i
    go later false e (inr i) = inr (later i)

distinct-without : (p : Path) (qs : List Path) → IsDistinct qs → IsDistinct (without p qs)
unfolding without
distinct-without p [] d = tt
distinct-without p (q ∷ qs) d = go (distinct-without p qs d.1) (same q p)
  where
    go : IsDistinct (without p qs) → (b : Bool) → IsDistinct (cond b qs (q ∷ without p qs))
    go later true = d.1
    go later false = (λ i. d.0 (in-without p q qs d.1 i).0, later)

module _ {L : Type 0} (of : L → ℕ) (revs : PathMap (Entry L)) where
  total-without : (p : Path) (qs : List Path) → IsIn p qs
      → total of revs qs ≡ amount of (revs p) + total of revs (without p qs)
  unfolding without
  total-without p [] i = absurd i
  total-without p (q ∷ qs) i = go (total-without p qs) (same q p) refl i
    where
      go : (IsIn p qs → total of revs qs ≡ amount of (revs p) + total of revs (without p qs)) → (b : Bool)
          → same q p ≡ b → IsIn p (q ∷ qs)
          → total of revs (q ∷ qs) ≡ amount of (revs p) + total of revs (cond b qs (q ∷ without p qs))
      go later true e i = ap (λ v. amount of (revs v) + total of revs qs) (same-eq q p e)
      go later false e (inl i) =
          absurd (let clash : true ≡ false = sym (ap (λ v. same v p) (sym i) ∙ same_refl p) ∙ e in cc)
      go later false e (inr i) = let h = later i in omega arith

  -- two lists of the same paths, each once, have one total
  total_same : (ps qs : List Path) → IsDistinct ps → IsDistinct qs → ((r : Path) → IsIn r ps → IsIn r qs)
      → ((r : Path) → IsIn r qs → IsIn r ps) → total of revs ps ≡ total of revs qs
  total_same [] [] d e to back = refl
  total_same [] (q ∷ qs) d e to back = absurd (back q (inl refl))
  total_same (p ∷ ps) qs d e to back =
      let rest = total_same ps (without p qs) d.1 (distinct-without p qs e) to' back' in
      let whole = total-without p qs (to p (inl refl)) in
      omega arith
    where
      to' : (r : Path) → IsIn r ps → IsIn r (without p qs)
      to' r i = without-in p r qs (to r (inr i)) (λ rp. d.0 (subst (λ v. IsIn v ps) rp i))

      back' : (r : Path) → IsIn r (without p qs) → IsIn r ps
      back' r i = other (in-without p r qs e i) (back r (in-without p r qs e i).0)
        where
          other : IsIn r qs × (r ≢ p) → IsIn r (p ∷ ps) → IsIn r ps
          other h (inl is) = absurd (h.1 is)
          other h (inr i) = i

  pub total_unique : (ps qs : List Path) → Census revs ps → Census revs qs → total of revs ps ≡ total of revs qs
  total_unique ps qs c d =
      total_same ps qs c.distinct d.distinct (λ r i. let e = c.each r i in d.all r e.0 e.1)
      (λ r i. let e = d.each r i in c.all r e.0 e.1)

  at_most_two : (ps : List Path) (p q : Path) → IsIn p ps → IsIn q ps → p ≢ q
      → amount of (revs p) + amount of (revs q) ≤ total of revs ps
  at_most_two [] p q i j apart = absurd i
  at_most_two (x ∷ ps) p q (inl i) (inl j) apart = absurd (apart (i ∙ sym j))
  at_most_two (x ∷ ps) p q (inl i) (inr j) apart =
      let h : amount of (revs p) ≡ amount of (revs x) = ap (λ v. amount of (revs v)) i in
      let k = at_most of revs ps q j in
      omega arith
  at_most_two (x ∷ ps) p q (inr i) (inl j) apart =
      let h : amount of (revs q) ≡ amount of (revs x) = ap (λ v. amount of (revs v)) j in
      let k = at_most of revs ps p i in
      omega arith
  at_most_two (x ∷ ps) p q (inr i) (inr j) apart = let h = at_most_two ps p q i j apart in omega arith

module _ (M : Machine) (counts : Counts M) where
  -- the steps of a run are taken from the total
  pub total_less : (main : M.Local) (of : M.Local → ℕ) → Spends M 1 of
      → (revs later : Revisions M) (rs ps qs : List Path) → Reached M main (Live revs)
      → Runs M (Live revs) rs (Live later) → Census revs ps → Census later qs
      → total of later qs + length rs ≤ total of revs ps
  total_less main of spends revs later rs ps qs reached runs c d =
      let left =
      runs_spend M 1 of counts spends rs (Live revs) (Live later) (reached_forked M main counts (Live revs) reached)
      runs (total of revs ps) (ps, c, refl) in
      let same_total = total_unique of later qs left.1.0 d left.1.1 in
      let is = left.1.2 in
      let most = left.2 in
      omega arith

  -- with each fork that a revision has made counted, nothing is gained
  pub counted_spends : (of : M.Local → ℕ) → Spends M 1 of → Spends M 0 (λ l. M.forks l + of l)
  counted_spends of spends = record {
    moves = λ r l l' e. let k = counts.moves r l l' e in let h = spends.moves r l l' e in omega arith;
    forks = λ r l l' c e.
        let k = counts.forker r l l' c e in
        let n = counts.forked r l l' c e in
        let h = spends.forks r l l' c e in
        omega arith;
    wants = λ r q l e. omega arith;
    joins = λ r q l lq e f. let k = counts.joins r q l lq e in let h = spends.joins r q l lq e f in omega arith;
  }

  module _ (main : M.Local) (of : M.Local → ℕ) (spends : Spends M 0 of) (revs : Revisions M)
      (reached : Reached M main (Live revs)) where
    pub amount_one : (p : Path) (l : M.Local) → revs p ≡ Some (Plain l) → of l ≤ of main
    amount_one p l here =
        let law = spending_law M main 0 of counts spends (Live revs) reached.by reached.runs in
        let most = at_most of revs law.1.0 p (law.1.1.all p (Plain l) here) in
        let is = law.1.2 in
        let at : amount of (revs p) ≡ of l = ap (amount of) here in
        let low = law.2 in
        omega arith

    pub amount_two : (p q : Path) (l t : M.Local) → revs p ≡ Some (Plain l) → revs q ≡ Some (Plain t) → p ≢ q
        → of l + of t ≤ of main
    amount_two p q l t here there apart =
        let law = spending_law M main 0 of counts spends (Live revs) reached.by reached.runs in
        let most =
        at_most_two of revs law.1.0 p q (law.1.1.all p (Plain l) here) (law.1.1.all q (Plain t) there) apart in
        let is = law.1.2 in
        let at : amount of (revs p) ≡ of l = ap (amount of) here in
        let at' : amount of (revs q) ≡ of t = ap (amount of) there in
        let low = law.2 in
        omega arith

length-without : (p : Path) (qs : List Path) → IsIn p qs → suc (length (without p qs)) ≡ length qs
unfolding without
length-without p [] i = absurd i
length-without p (q ∷ qs) i = go (length-without p qs) (same q p) refl i
  where
    go : (IsIn p qs → suc (length (without p qs)) ≡ length qs) → (b : Bool) → same q p ≡ b → IsIn p (q ∷ qs)
        → suc (length (cond b qs (q ∷ without p qs))) ≡ length (q ∷ qs)
    go later true e i = refl
    go later false e (inl i) =
        let clash : true ≡ false = sym (ap (λ v. same v p) (sym i) ∙ same_refl p) ∙ e in absurd cc
    go later false e (inr i) = ap suc (later i)

-- a list in which none stands twice is at most as long as one that has all of it
pub no_longer : (ps qs : List Path) → IsDistinct ps → ((p : Path) → IsIn p ps → IsIn p qs) → length ps ≤ length qs
no_longer [] qs d has = omega arith
no_longer (p ∷ ps) qs d has =
    let rest =
    no_longer ps (without p qs) d.1
    (λ r i. without-in p r qs (has r (inr i)) (λ e. d.0 (subst (λ v. IsIn v ps) e i))) in
    let one = length-without p qs (has p (inl refl)) in
    omega arith
