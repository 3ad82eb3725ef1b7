-- The finitely many revisions of a state, and what they have together.
use Rattle.std.proofs.Common.{◌≡◌, ◌≢◌, ◌⊎◌, inl, inr, ℕ, ◌+◌, ◌*◌, ◌≤◌, length, List, [], ◌∷◌, Some, refl, sym, ap, ◌∙◌, subst, arith}
use Rattle.rev_num.specs.Path.{Path}
use Rattle.rev_num.proofs.Options.{none_some}
use Rattle.revision_machine.specs.PathMap.{PathMap, with_at}
use Rattle.revision_machine.specs.Machine.{Moves, Forks, Joins, Ended, Machine, Entry, Plain, Global, Twice, Live, nowhere, Revisions, start, step, Runs}
use Rattle.revision_machine.specs.Conditions.{Counts, Spends, PaysForks}
use Rattle.revision_machine.specs.Laws.{WellForked, IsIn, IsDistinct, amount, total, Census, Amounts, HasAtMost, SpendingLaw, BoundLaw, CountLaw}
use Rattle.revision_machine.proofs.Paths.{child-apart, at_here, at_other, decide_same}
use Rattle.revision_machine.proofs.Way.{put_two, Role, Way, writes, twice, way, Place, own, new, marks, place, going, ended_apart}
use Rattle.revision_machine.proofs.Diamond.{two_here, two_there, two_other, gone, IsFresh}
use Rattle.revision_machine.proofs.Forker.{fresh_of, keeps_forked, start_forked}
use Rattle.revision_machine.proofs.Ends.{along}

module _ {L : Type 0} (of : L → ℕ) where
  total-elsewhere : (revs : PathMap (Entry L)) (r : Path) (e : Entry L) (ps : List Path) → (IsIn r ps → ⊥)
      → total of (with_at revs r e) ps ≡ total of revs ps
  total-elsewhere revs r e [] out = refl
  total-elsewhere revs r e (p ∷ ps) out =
      let h : amount of (with_at revs r e p) ≡ amount of (revs p) =
      ap (amount of) (at_other revs r e p (λ v. out (inl v))) in
      let t = total-elsewhere revs r e ps (λ v. out (inr v)) in
      omega arith

  total-at : (revs : PathMap (Entry L)) (r : Path) (e : Entry L) (ps : List Path) → IsDistinct ps → IsIn r ps
      → total of (with_at revs r e) ps + amount of (revs r) ≡ total of revs ps + amount of (Some e)
  total-at revs r e [] distinct none = absurd none
  total-at revs r e (p ∷ ps) distinct (inl is) =
      let h : amount of (with_at revs r e p) ≡ amount of (Some e) =
      ap (λ v. amount of (with_at revs r e v)) (sym is) ∙ ap (amount of) (at_here revs r e) in
      let p' : amount of (revs r) ≡ amount of (revs p) = ap (λ v. amount of (revs v)) is in
      let t = total-elsewhere revs r e ps (λ v. distinct.0 (subst (λ w. IsIn w ps) is v)) in
      omega arith
  total-at revs r e (p ∷ ps) distinct (inr is) =
      let apart : r ≢ p = λ v. distinct.0 (subst (λ w. IsIn w ps) v is) in
      let h : amount of (with_at revs r e p) ≡ amount of (revs p) = ap (amount of) (at_other revs r e p apart) in
      let t = total-at revs r e ps distinct.1 is in
      omega arith

  pub at_most : (revs : PathMap (Entry L)) (ps : List Path) (r : Path) → IsIn r ps
      → amount of (revs r) ≤ total of revs ps
  at_most revs [] r none = absurd none
  at_most revs (p ∷ ps) r (inl is) =
      let h : amount of (revs r) ≡ amount of (revs p) = ap (λ v. amount of (revs v)) is in omega arith
  at_most revs (p ∷ ps) r (inr is) = let h = at_most revs ps r is in omega arith

module _ (M : Machine) where
  census_after : {A : Type 0} (revs : PathMap A) (s o : Path) (a b : A) (ps : List Path) → Census revs ps → IsIn s ps
      → IsIn o ps → Census (put_two revs s a o b) ps
  census_after {A} revs s o a b ps c is io = record { each = each'; all = all'; distinct = c.distinct }
    where
      each' : (p : Path) → IsIn p ps → (e : A) × (put_two revs s a o b p ≡ Some e)
      each' p i = go (decide_same s p) (decide_same o p)
        where
          go : (s ≡ p) ⊎ (s ≢ p) → (o ≡ p) ⊎ (o ≢ p) → (e : A) × (put_two revs s a o b p ≡ Some e)
          go (inl u) v = (a, ap (put_two revs s a o b) (sym u) ∙ two_here revs s o a b)
          go (inr u) (inl v) = (b, ap (put_two revs s a o b) (sym v) ∙ two_there revs s o a b (λ w. u (w ∙ v)))
          go (inr u) (inr v) = let was = c.each p i in (was.0, two_other revs s o a b p u v ∙ was.1)

      all' : (p : Path) (e : A) → put_two revs s a o b p ≡ Some e → IsIn p ps
      all' p e there = go (decide_same s p) (decide_same o p)
        where
          go : (s ≡ p) ⊎ (s ≢ p) → (o ≡ p) ⊎ (o ≢ p) → IsIn p ps
          go (inl u) v = subst (λ w. IsIn w ps) u is
          go (inr u) (inl v) = subst (λ w. IsIn w ps) v io
          go (inr u) (inr v) = c.all p e (sym (two_other revs s o a b p u v) ∙ there)

  census_more : {A : Type 0} (revs : PathMap A) (s o : Path) (a b : A) (ps : List Path) → Census revs ps → IsIn s ps
      → s ≢ o → (IsIn o ps → ⊥) → Census (put_two revs s a o b) (o ∷ ps)
  census_more {A} revs s o a b ps c is apart out = record { each = each'; all = all'; distinct = (out, c.distinct) }
    where
      each' : (p : Path) → IsIn p (o ∷ ps) → (e : A) × (put_two revs s a o b p ≡ Some e)
      each' p i = go i (decide_same s p) (decide_same o p)
        where
          go : IsIn p (o ∷ ps) → (s ≡ p) ⊎ (s ≢ p) → (o ≡ p) ⊎ (o ≢ p) → (e : A) × (put_two revs s a o b p ≡ Some e)
          go i (inl u) v = (a, ap (put_two revs s a o b) (sym u) ∙ two_here revs s o a b)
          go i (inr u) (inl v) = (b, ap (put_two revs s a o b) (sym v) ∙ two_there revs s o a b apart)
          go (inl i) (inr u) (inr v) = absurd (v (sym i))
          go (inr i) (inr u) (inr v) = let was = c.each p i in (was.0, two_other revs s o a b p u v ∙ was.1)

      all' : (p : Path) (e : A) → put_two revs s a o b p ≡ Some e → IsIn p (o ∷ ps)
      all' p e there = go (decide_same s p) (decide_same o p)
        where
          go : (s ≡ p) ⊎ (s ≢ p) → (o ≡ p) ⊎ (o ≢ p) → IsIn p (o ∷ ps)
          go (inl u) v = inr (subst (λ w. IsIn w ps) u is)
          go (inr u) (inl v) = inl (sym v)
          go (inr u) (inr v) = inr (c.all p e (sym (two_other revs s o a b p u v) ∙ there))

  -- each event uses up so much, and a fork so much more
  record Uses (cost more : ℕ) (of : M.Local → ℕ) : Type 0 where
    moves : (r : Path) (l l' : M.Local) → M.next r l ≡ Moves l' → of l' + cost ≤ of l
    forks : (r : Path) (l l' c : M.Local) → M.next r l ≡ Forks l' c → of l' + of c + cost + more ≤ of l
    joins : (r q : Path) (l lq : M.Local) → M.next r l ≡ Joins q → M.next q lq ≡ Ended
        → of (M.join r l q lq) + cost ≤ of l + of lq

  spends_uses : (cost : ℕ) (of : M.Local → ℕ) → Spends M cost of → Uses cost 0 of
  spends_uses cost of spends = record {
    moves = spends.moves;
    forks = λ r l l' c e. let h = spends.forks r l l' c e in omega arith;
    joins = spends.joins;
  }

  pays_uses : (of : M.Local → ℕ) → PaysForks M of → Uses 0 1 of
  pays_uses of pays = record {
    moves = λ r l l' e. let h = pays.moves r l l' e in omega arith;
    forks = λ r l l' c e. let h = pays.forks r l l' c e in omega arith;
    joins = λ r q l lq e f. let h = pays.joins r q l lq e f in omega arith;
  }

  -- what a list of paths costs, of which each path costs so much
  abbrev CostsMore : ℕ → (List Path → ℕ) → Type 0
  CostsMore more price = (p : Path) (ps : List Path) → price (p ∷ ps) ≤ price ps + more

  -- what the revisions have, and what their list costs, after a step
  LeftAfter : ℕ → (List Path → ℕ) → (M.Local → ℕ) → Revisions M → ℕ → Type 0
  LeftAfter cost price of revs n = (qs : List Path) × Census revs qs × (total of revs qs + price qs + cost ≤ n)

  use_step : (cost more : ℕ) (price : List Path → ℕ) → CostsMore more price → (of : M.Local → ℕ) → Uses cost more of
      → (revs : Revisions M) → IsFresh M revs → (ps : List Path) → Census revs ps
      → (s : Path) (l l' : M.Local) (o : Path) (e : Entry M.Local) → revs s ≡ Some (Plain l) → Role M revs s l l' o e
      → LeftAfter cost price of (put_two revs s (Plain l') o e) (total of revs ps + price ps)
  unfolding LeftAfter
  use_step cost more price dear of uses revs fresh ps c s l l' o e here x = go (place M x)
    where
      at_s : amount of (revs s) ≡ of l
      at_s = ap (amount of) here

      is : IsIn s ps
      is = c.all s (Plain l) here

      mid : Revisions M
      mid = with_at revs o e

      go : Place M revs s l l' o e
          → LeftAfter cost price of (put_two revs s (Plain l') o e) (total of revs ps + price ps)
      go (own does a ee) =
          let io : IsIn o ps = subst (λ v. IsIn v ps) (sym a) is in
          let one = total-at of revs o e ps c.distinct io in
          let two = total-at of mid s (Plain l') ps c.distinct is in
          let amount_o : amount of (revs o) ≡ of l = ap (λ v. amount of (revs v)) a ∙ at_s in
          let amount_e : amount of (Some e) ≡ of l' = ap (λ v. amount of (Some v)) ee in
          let amount_s : amount of (mid s) ≡ of l' =
          ap (λ v. amount of (mid v)) (sym a) ∙ ap (amount of) (at_here revs o e) ∙ amount_e in
          let law = uses.moves s l l' does in
          (ps, census_after revs s o (Plain l') e ps c is io, omega arith)
      go (marks lq does there ended jl ee) =
          let io : IsIn o ps = c.all o (Plain lq) there in
          let on : M.next s l ≢ Ended = going M x in
          let apart : o ≢ s = λ v. ended_apart M revs s o l lq here on there ended (sym v) in
          let one = total-at of revs o e ps c.distinct io in
          let two = total-at of mid s (Plain l') ps c.distinct is in
          let amount_o : amount of (revs o) ≡ of lq = ap (amount of) there in
          let amount_e : amount of (Some e) ≡ 0 = ap (λ v. amount of (Some v)) ee in
          let amount_s : amount of (mid s) ≡ of l = ap (amount of) (at_other revs o e s apart) ∙ at_s in
          let law : of l' + cost ≤ of l + of lq =
          subst (λ v. of v + cost ≤ of l + of lq) (sym jl) (uses.joins s o l lq does ended) in
          (ps, census_after revs s o (Plain l') e ps c is io, omega arith)
      go (new k does a ee) =
          let apart : o ≢ s = λ v. child-apart s (M.forks l) (sym (sym a ∙ v)) in
          let out : IsIn o ps → ⊥ = λ v. let had = c.each o v in gone M revs o (ap revs a ∙ fresh s l here) had.1 in
          let one = total-elsewhere of revs o e ps out in
          let two = total-at of mid s (Plain l') ps c.distinct is in
          let amount_e : amount of (Some e) ≡ of k = ap (λ v. amount of (Some v)) ee in
          let amount_o : amount of (put_two revs s (Plain l') o e o) ≡ of k =
          ap (amount of) (two_there revs s o (Plain l') e (λ v. apart (sym v))) ∙ amount_e in
          let amount_s : amount of (mid s) ≡ of l = ap (amount of) (at_other revs o e s apart) ∙ at_s in
          let law = uses.forks s l l' k does in
          let longer = dear o ps in
          (o ∷ ps, census_more revs s o (Plain l') e ps c is (λ v. apart (sym v)) out, omega arith)

  -- what is left after a step
  Left : ℕ → (M.Local → ℕ) → Global M.Local → ℕ → Type 0
  Left cost of h n = (m : ℕ) × Amounts M of h m × (m + cost ≤ n)

  spend_step : (cost : ℕ) (of : M.Local → ℕ) → Spends M cost of → (revs : Revisions M) → IsFresh M revs → (n : ℕ)
      → Amounts M of (Live revs) n → (s : Path) (l l' : M.Local) (o : Path) (e : Entry M.Local)
      → revs s ≡ Some (Plain l) → Role M revs s l l' o e → Left cost of (Live (put_two revs s (Plain l') o e)) n
  unfolding Left LeftAfter
  spend_step cost of spends revs fresh n has s l l' o e here x =
      let left =
      use_step cost 0 (λ ps. 0) (λ p ps. omega arith) of (spends_uses cost of spends) revs fresh has.0 has.1 s l l' o e
      here x in
      let was = has.2 in
      let less = left.2 in
      (total of (put_two revs s (Plain l') o e) left.0, (left.0, left.1, refl), omega arith)

  census_of_start : (main : M.Local) → Census {A = Entry M.Local} (with_at nowhere [] (Plain main)) ([] ∷ [])
  census_of_start main = record { each = each'; all = all'; distinct = (λ v. v, tt) }
    where
      each' : (p : Path) → IsIn p ([] ∷ []) → (e : Entry M.Local) × (with_at nowhere [] (Plain main) p ≡ Some e)
      each' p (inl i) = (Plain main, ap (with_at nowhere [] (Plain main)) i)
      each' p (inr i) = absurd i

      all' : (p : Path) (e : Entry M.Local) → with_at nowhere [] (Plain main) p ≡ Some e → IsIn p ([] ∷ [])
      all' [] e there = inl refl
      all' (x ∷ p) e there = absurd cc

  spend : (cost : ℕ) (of : M.Local → ℕ) → Spends M cost of → (g h : Global M.Local) (r : Path) → WellForked M g
      → step M g r ≡ Some h → (n : ℕ) → Amounts M of g n → Left cost of h n
  unfolding Left
  spend cost of spends Twice h r good s n has = none_some s
  spend cost of spends (Live revs) h r good s n has = by h (way M revs r h s)
    where
      by : (h : Global M.Local) → Way M revs r h → Left cost of h n
      by h (writes l l' o e here x) = spend_step cost of spends revs (fresh_of M revs good) n has r l l' o e here x
      by h (twice l q lq here does there) =
          let low = at_most of revs has.0 r (has.1.all r (Plain l) here) in
          let here' : amount of (revs r) ≡ of l = ap (amount of) here in
          let law = spends.wants r q l does in
          let sum = has.2 in
          (0, refl, omega arith)

  pub runs_spend : (cost : ℕ) (of : M.Local → ℕ) → Counts M → Spends M cost of → (rs : List Path) (g h : Global M.Local)
      → WellForked M g → Runs M g rs h → (n : ℕ) → Amounts M of g n
      → (m : ℕ) × Amounts M of h m × (m + length rs * cost ≤ n)
  unfolding Left
  runs_spend cost of counts spends [] g h good runs n has = (n, subst (λ v. Amounts M of v n) runs has, omega arith)
  runs_spend cost of counts spends (r ∷ rs) g h good runs n has =
      let one = spend cost of spends g runs.0 r good runs.1 n has in
      let rest =
      runs_spend cost of counts spends rs runs.0 h (keeps_forked M counts g runs.0 r good runs.1) runs.2 one.0 one.1 in
      let used = one.2 in
      let later = rest.2 in
      (rest.0, rest.1, omega arith)

  pub spending_law : (main : M.Local) (cost : ℕ) (of : M.Local → ℕ) → Counts M → Spends M cost of
      → SpendingLaw M main cost of
  spending_law main cost of counts spends g rs runs =
      runs_spend cost of counts spends rs (start M main) g (start_forked M main) runs (of main)
      ([] ∷ [], census_of_start main, omega arith)

  -- the revisions, and what they have, are at most so many together
  Counted : (M.Local → ℕ) → ℕ → Global M.Local → Type 0
  Counted of most Twice = Unit {0}
  Counted of most (Live revs) = (ps : List Path) × Census revs ps × (length ps + total of revs ps ≤ most)

  keeps_count : (of : M.Local → ℕ) → Counts M → PaysForks M of → (most : ℕ) → (g h : Global M.Local) (r : Path)
      → WellForked M g × Counted of most g → step M g r ≡ Some h → WellForked M h × Counted of most h
  unfolding Counted LeftAfter
  keeps_count of counts pays most Twice h r good s = none_some s
  keeps_count of counts pays most (Live revs) h r good s =
      (keeps_forked M counts (Live revs) h r good.0 s, by h (way M revs r h s))
    where
      by : (h : Global M.Local) → Way M revs r h → Counted of most h
      by h (twice l q lq here does there) = tt
      by h (writes l l' o e here x) =
          let had = good.1 in
          let left =
          use_step 0 1 length (λ p ps. omega arith) of (pays_uses of pays) revs (fresh_of M revs good.0) had.0 had.1 r l
          l' o e here x in
          let was = had.2 in
          let less = left.2 in
          (left.0, left.1, omega arith)

  of_count : (of : M.Local → ℕ) (most : ℕ) (g : Global M.Local) → Counted of most g → HasAtMost M most g
  unfolding Counted
  of_count of most Twice c = tt
  of_count of most (Live revs) c = let h = c.2 in (c.0, c.1, omega arith)

  pub count_law : (main : M.Local) (of : M.Local → ℕ) → Counts M → PaysForks M of → CountLaw M main (1 + of main)
  unfolding Counted
  count_law main of counts pays g reached =
      of_count of (1 + of main) g
      (along M (λ v. WellForked M v × Counted of (1 + of main) v) (keeps_count of counts pays (1 + of main)) reached.by
      (start M main) g (start_forked M main, ([] ∷ [], census_of_start main, omega arith)) reached.runs).1

  -- the same of any greater number
  pub count_up : (main : M.Local) (most more : ℕ) → most ≤ more → CountLaw M main most → CountLaw M main more
  count_up main most more less law g reached = go g (law g reached)
    where
      go : (g : Global M.Local) → HasAtMost M most g → HasAtMost M more g
      go Twice h = tt
      go (Live revs) h = let few = h.2 in (h.0, h.1, omega arith)

  pub no_cost : Spends M 0 (λ l. 0)
  no_cost = record {
    moves = λ r l l' e. omega arith;
    forks = λ r l l' c e. omega arith;
    wants = λ r q l e. omega arith;
    joins = λ r q l lq e f. omega arith;
  }

  pub bound_law : (main : M.Local) (of : M.Local → ℕ) → Counts M → Spends M 1 of → BoundLaw M main (of main)
  bound_law main of counts spends g rs runs =
      let law = (spending_law main 1 of counts spends g rs runs).2 in omega arith
