-- One more fork: the births with the child are those of the forkers with its forker.
use Rattle.std.proofs.Common.{◌≡◌, ◌≢◌, ◌⊎◌, inl, inr, ◌∙◌, ℕ, zero, suc, ◌+◌, ◌<◌, ◌≤◌, Bool, true, false, cond, ◌==◌, List, [], ◌∷◌, ◌++◌, length, take, get_or, ◌^◌, Some, refl, sym, ap, subst, arith}
use Rattle.std.proofs.lemmas.List.{length-take-le, take-append-le, take_all, take_at, take_more}
use Rattle.revision_machine.specs.Numbered.{at_number, put_number}
use Rattle.code_machine.proofs.Changes.{decide}
use Rattle.revision_machine.proofs.Lists.{put_other, put_here, put_length, at_front, at_more, at_length, at_below, at_there}
use Rattle.hub_core.specs.Counts.{is_at, times}
use Rattle.hub_core.proofs.Lists.{total_snoc, is_at_same, is_at_other}
use Rattle.code_world.specs.declared.table.Birth.{Birth}
use Rattle.code_world.specs.Turns.{born, forked_once}
use Rattle.code_world.proofs.Rows.{none_some, some_same, more_length}
use Rattle.thread_runs.specs.Births.{forks_by, IsBirth, AreBirths, AreEarlier}

-- ---- counts

pub forks_more : (n : ℕ) (fs : List ℕ) (k : ℕ) → 0 < length fs → forks_by n (fs ++ k ∷ []) ≡ forks_by n fs + is_at n k
forks_more n [] k some = absurd (omega (arith, some))
forks_more n (f ∷ fs) k some = total_snoc (is_at n) fs k

at_most_one : (b : Bool) → cond b 1 0 ≤ 1
at_most_one true = omega arith
at_most_one false = omega arith

times_few : (n : ℕ) (fs : List ℕ) → times n fs ≤ length fs
times_few n [] = omega arith
times_few n (f ∷ fs) = let a = at_most_one (f == n) in let b = times_few n fs in omega (arith, a, b)

-- fewer than there are revisions
pub forks_few : (n : ℕ) (fs : List ℕ) → 0 < length fs → forks_by n fs + 1 ≤ length fs
forks_few n [] some = absurd (omega (arith, some))
forks_few n (f ∷ fs) some = let a = times_few n fs in omega (arith, a)

times_none : (k : ℕ) (fs : List ℕ) → ((n f : ℕ) → at_number fs n ≡ Some f → f ≢ k) → times k fs ≡ 0
times_none k [] h = refl
times_none k (f ∷ fs) h =
    let a = is_at_other k f (h 0 f refl) in let b = times_none k fs (λ n x e. h (suc n) x e) in omega (arith, a, b)

-- none was forked by one that is still to come
forks_none : (fs : List ℕ) (k : ℕ) → AreEarlier fs → length fs ≤ k → forks_by k fs ≡ 0
forks_none [] k earlier few = refl
forks_none (f ∷ fs) k earlier few =
    times_none k fs (λ n x e same. let a = earlier n x e in let b = at_below fs n x e in omega (arith, a, b, few, same))

-- ---- one more

pub earlier_more : (fs : List ℕ) (n : ℕ) → AreEarlier fs → n < length fs → AreEarlier (fs ++ n ∷ [])
earlier_more fs n earlier less m f e = by (at_more fs n (suc m) f e)
  where
    by : (at_number fs (suc m) ≡ Some f) ⊎ ((suc m ≡ length fs) × (f ≡ n)) → f ≤ m
    by (inl h) = earlier m f h
    by (inr h) = let a = h.0 in let b = h.1 in omega (arith, a, b, less)

module _ (fs : List ℕ) (bs : List Birth) (are : AreBirths fs bs) (earlier : AreEarlier fs) (n : ℕ) (b : Birth)
    (at : at_number bs n ≡ Some b) where
  below : n < length fs
  below = let a = at_below bs n b at in let e = are.all in omega (arith, a, e)

  some : 0 < length fs
  some = let a = below in omega (arith, a)

  -- another revision
  kept : (m : ℕ) (d : Birth) → m ≢ n → at_number bs m ≡ Some d → IsBirth (fs ++ n ∷ []) m d
  kept m d apart there =
      let is = are.each m d there in
      let less = at_below bs m d there in
      let same = are.all in record {
        forked = at_front fs (n ∷ []) m d.forker is.forked;
        place = is.place ∙ ap (forks_by d.forker) (sym (take-append-le m fs (n ∷ []) (omega (arith, less, same))));
        forks =
            let a = is.forks in
            let more = forks_more m fs n some in
            let none = is_at_other m n (λ e. apart (sym e)) in
            omega (arith, a, more, none);
      }

  -- the forker
  forker : IsBirth (fs ++ n ∷ []) n (forked_once b)
  forker =
      let is = are.each n b at in
      let less = below in record {
        forked = at_front fs (n ∷ []) n b.forker is.forked;
        place = is.place ∙ ap (forks_by b.forker) (sym (take-append-le n fs (n ∷ []) (omega (arith, less))));
        forks =
            let a = is.forks in
            let more = forks_more n fs n some in
            let one = is_at_same n in
            omega (arith, a, more, one);
      }

  -- the child
  child : IsBirth (fs ++ n ∷ []) (length fs) (record { forker = n; place = b.forks; forks = 0 })
  child =
      let less = below in record {
        forked = at_length fs n [];
        place = (are.each n b at).forks ∙ ap (forks_by n) (sym (take_at fs (n ∷ []) (length fs) refl));
        forks =
            let none = forks_none fs (length fs) earlier (omega arith) in
            let more = forks_more (length fs) fs n some in
            let other = is_at_other (length fs) n (λ e. omega (arith, less, e)) in omega (arith, none, more, other);
      }

  pub births_more : AreBirths (fs ++ n ∷ []) (born bs n b)
  births_more = record {
    each = λ m d e.
        by m d (at_more (put_number bs n (forked_once b)) (record { forker = n; place = b.forks; forks = 0 }) m d e);
    all =
        let a = more_length (put_number bs n (forked_once b)) (record { forker = n; place = b.forks; forks = 0 }) in
        let c = put_length bs n (forked_once b) in
        let d = more_length fs n in
        let e = are.all in omega (arith, a, c, d, e);
  }
    where
      by_place : (m : ℕ) (d : Birth) → at_number (put_number bs n (forked_once b)) m ≡ Some d → (m ≡ n) ⊎ (m ≢ n)
          → IsBirth (fs ++ n ∷ []) m d
      by_place m d e (inl is) =
          let same : forked_once b ≡ d =
          some_same (sym (put_here bs n b (forked_once b) at)
          ∙ (ap (at_number (put_number bs n (forked_once b))) (sym is) ∙ e)) in
          subst (λ x. IsBirth (fs ++ n ∷ []) m x) same
          (subst (λ x. IsBirth (fs ++ n ∷ []) x (forked_once b)) (sym is) forker)
      by_place m d e (inr apart) = kept m d apart (sym (put_other bs n m (forked_once b) apart) ∙ e)

      by : (m : ℕ) (d : Birth)
          → (at_number (put_number bs n (forked_once b)) m ≡ Some d)
          ⊎ ((m ≡ length (put_number bs n (forked_once b))) × (d ≡ record { forker = n; place = b.forks; forks = 0 }))
          → IsBirth (fs ++ n ∷ []) m d
      by m d (inl h) = by_place m d h (decide m n)
      by m d (inr h) =
          let last : length fs ≡ m = sym (h.0 ∙ (put_length bs n (forked_once b) ∙ are.all)) in
          subst (λ x. IsBirth (fs ++ n ∷ []) m x) (sym h.1)
          (subst (λ x. IsBirth (fs ++ n ∷ []) x (record { forker = n; place = b.forks; forks = 0 })) last child)

-- `main` alone
pub births_one : AreBirths (0 ∷ []) (record { forker = 0; place = 0; forks = 0 } ∷ [])
births_one = record { each = by; all = refl }
  where
    by : (n : ℕ) (b : Birth) → at_number (record { forker = 0; place = 0; forks = 0 } ∷ []) n ≡ Some b
        → IsBirth (0 ∷ []) n b
    by zero b e = subst (IsBirth (0 ∷ []) 0) (some_same e) (record { forked = refl; place = refl; forks = refl })
    by (suc n) b e = none_some e

pub earlier_one : AreEarlier (0 ∷ [])
earlier_one n f e = none_some e

-- ---- by the forkers there is one birth for each

pub one_birth : (fs : List ℕ) (n : ℕ) (b d : Birth) → IsBirth fs n b → IsBirth fs n d → b ≡ d
one_birth fs n b d is other =
    let f : b.forker ≡ d.forker = some_same (sym is.forked ∙ other.forked) in
    let p : b.place ≡ d.place = is.place ∙ (ap (λ k. forks_by k (take n fs)) f ∙ sym other.place) in
    let k : b.forks ≡ d.forks = is.forks ∙ sym other.forks in
    (λ i. record { forker = f i; place = p i; forks = k i })

-- ---- the first so many

at_take : {A : Type 0} (xs : List A) (k n : ℕ) (x : A) → at_number (take k xs) n ≡ Some x → at_number xs n ≡ Some x
at_take xs zero n x e = none_some e
at_take [] (suc k) n x e = none_some e
at_take (y ∷ xs) (suc k) zero x e = e
at_take (y ∷ xs) (suc k) (suc n) x e = at_take xs k n x e

pub first_birth : (fs : List ℕ) (bs : List Birth) → at_number fs 0 ≡ Some 0
    → bs ≡ record { forker = 0; place = 0; forks = 0 } ∷ [] → AreBirths (take 1 fs) bs
first_birth [] bs first is = none_some first
first_birth (f ∷ fs) bs first is =
    let zero_is : f ≡ 0 = some_same first in
    subst (AreBirths (f ∷ [])) (sym is)
    (subst (λ x. AreBirths (x ∷ []) (record { forker = 0; place = 0; forks = 0 } ∷ [])) (sym zero_is) births_one)

-- the forker that comes next, and the births with its child
module _ (fs : List ℕ) (earlier : AreEarlier fs) (k : ℕ) (less : k < length fs) (some_before : 1 ≤ k) (bs : List Birth)
    (are : AreBirths (take k fs) bs) where
  many : length (take k fs) ≡ k
  many = length-take-le k fs (omega (arith, less))

  before : (j : ℕ) → j ≡ k → 1 ≤ j → get_or fs k 0 < j
  before zero e some = absurd (omega (arith, some))
  before (suc j) e some =
      let a = earlier j (get_or fs k 0) (ap (at_number fs) e ∙ at_there fs k 0 less) in omega (arith, a)

  pub forker_inside : get_or fs k 0 < length bs
  forker_inside = let a = before k refl some_before in let b = many in let c = are.all in omega (arith, a, b, c)

  pub forks_inside : length fs ≤ 2 ^ 32 → (b : Birth) → at_number bs (get_or fs k 0) ≡ Some b → b.forks + 1 < 2 ^ 32
  forks_inside few b at =
      let a = (are.each (get_or fs k 0) b at).forks in
      let c = many in
      let d = forks_few (get_or fs k 0) (take k fs) (omega (arith, c, some_before)) in omega (arith, a, c, d, less, few)

  pub births_next : (next : List Birth) (b : Birth) → at_number bs (get_or fs k 0) ≡ Some b
      → next ≡ born bs (get_or fs k 0) b → AreBirths (take (k + 1) fs) next
  births_next next b at is =
      subst (AreBirths (take (k + 1) fs)) (sym is)
      (subst (λ x. AreBirths x (born bs (get_or fs k 0) b)) (sym (take_more fs k 0 less))
      (births_more (take k fs) bs are (λ n x e. earlier n x (at_take fs k (suc n) x e)) (get_or fs k 0) b at))

pub all_births : (fs : List ℕ) (k : ℕ) (bs : List Birth) → length fs ≤ k → AreBirths (take k fs) bs → AreBirths fs bs
all_births fs k bs all are = subst (λ x. AreBirths x bs) (take_all k fs all) are
