-- A well-typed program that uses each handle once never reaches Twice.
use Rattle.std.proofs.Common.{◌≡◌, ◌≢◌, ◌∙◌, ◌⊎◌, inl, inr, ℕ, zero, suc, ◌+◌, ◌<◌, ◌≤◌, Bool, true, false, cond, List, [], ◌∷◌, ◌++◌, Option, Some, None, refl, sym, ap, subst, arith, le_refl}
use Rattle.rev_num.specs.Path.{Path, child}
use Rattle.rev_num.specs.Path as path
use Rattle.rev_num.specs.declared.value.Value.{Value}
use Rattle.rev_num.specs.declared.value.Value.TheVariants as v
use Rattle.name_tables.specs.Names.{Name}
use Rattle.name_tables.specs.Table.{Table}
use Rattle.revision_machine.specs.Machine.{Moves, Forks, Joins, Machine, Entry, Plain, Joined, Global, Twice, Live, nowhere, start, step, Runs, Reached}
use Rattle.revision_machine.specs.PathMap.{with_at}
use Rattle.revision_machine.specs.Laws.{local_of, Everywhere, IsForked, IsOrdered}
use Rattle.revision_machine.proofs.Paths.{apart-same, decide_same, some_inj}
use Rattle.rev_num.proofs.PostOrder.{same_refl, same-eq}
use Rattle.rev_num.proofs.Options.{none_some}
use Rattle.revision_machine.proofs.Way.{put_two, Way, writes, twice, way, Place, own, new, marks, place}
use Rattle.revision_machine.proofs.Diamond.{two_here, two_there, two_other}
use Rattle.revision_machine.proofs.Ends.{along, reached_forked}
use Rattle.revision_machine.proofs.KeptByEvents.{kept_law}
use Rattle.revision_machine.proofs.Blocked.{handle_law}
use Rattle.typed_programs.specs.Judgement.{ProgramTyped}
use Rattle.revision_calculus.specs.Program.{Setting}
use Rattle.revision_calculus.specs.State.{Frame, Phase, running, joining, done, trapped, Local}
use Rattle.revision_calculus.specs.Step.{next}
use Rattle.revision_calculus.specs.Join.{join}
use Rattle.revision_calculus.specs.Calculus.{main, calculus}
use Rattle.revision_calculus.specs.HandlesHeld.{IsHandle, LocationsHold, LocalsHold, FramesHold, Holds, in_frames, in_phase}
use Rattle.revision_calculus.specs.Kinded.{IsAccepted}
use Rattle.revision_calculus.proofs.Events.{joins_phase}
use Rattle.revision_calculus.proofs.Meets.{counts, handles, main_holds_none}
use Rattle.revision_calculus.proofs.FunKinds.{rules_kept}
use Rattle.affine_check.specs.Live.{without}
use Rattle.affine_check.specs.Owned.{OneOwner, hit, count, live_locals, frames_count, owned, UsesHandlesOnce}
use Rattle.affine_check.proofs.Steps.{Keeps, next_keeps}
use Rattle.affine_check.proofs.JoinStep.{Own, own_kept, main_own, join_keeps}
use Rattle.affine_check.proofs.JoinStep as j

-- ---- a revision that is named is held

hit_held : (x : Value) (q : Path) → 1 ≤ hit x q → IsHandle x q
hit_held (v.Int z) q h = absurd (omega arith)
hit_held (v.Bool z) q h = absurd (omega arith)
hit_held (v.Rev None) q h = absurd (omega arith)
hit_held (v.Rev (Some p)) q h = by (path.same p q) refl h
  where
    by : (d : Bool) → path.same p q ≡ d → 1 ≤ cond d 1 0 → v.Rev (Some p) ≡ v.Rev (Some q)
    by true e i = ap (λ y. v.Rev (Some y)) (same-eq p q e)
    by false e i = absurd (omega arith)

count_held : (b : Name → Bool) (es : Table Value) (q : Path) → 1 ≤ count b es q → LocalsHold es q
count_held b [] q h = absurd (omega arith)
count_held b (e ∷ es) q h = by (b e.0) h (count_held (without b e.0) es q)
  where
    by : (d : Bool) → 1 ≤ cond d (hit e.1 q) 0 + count (without b e.0) es q
        → (1 ≤ count (without b e.0) es q → LocalsHold es q) → LocalsHold (e ∷ es) q
    by false i later = inr (later (omega arith))
    by true i later = on (hit e.1 q) refl i
      where
        on : (n : ℕ) → hit e.1 q ≡ n → 1 ≤ n + count (without b e.0) es q → LocalsHold (e ∷ es) q
        on zero p k = inr (later (omega arith))
        on (suc n) p k = inl (hit_held e.1 q (omega (arith, p)))

frames_held : (waits : Option Name) (fs : List Frame) (q : Path) → 1 ≤ frames_count waits fs q → FramesHold fs q
frames_held waits [] q h = absurd (omega arith)
frames_held waits (f ∷ fs) q h = on (count (live_locals waits f.rest) f.locals q) refl h (frames_held f.left fs q)
  where
    on : (n : ℕ) → count (live_locals waits f.rest) f.locals q ≡ n → 1 ≤ n + frames_count f.left fs q
        → (1 ≤ frames_count f.left fs q → FramesHold fs q) → FramesHold (f ∷ fs) q
    on zero p k later = inr (later (omega arith))
    on (suc n) p k later = inl (count_held (live_locals waits f.rest) f.locals q (omega (arith, p)))

owned_held : (l : Local) (q : Path) → 1 ≤ owned l q → Holds l q
owned_held l q h = by l.phase refl h
  where
    by : (p : Phase) → l.phase ≡ p → 1 ≤ owned (record l { phase = p }) q → Holds l q
    by running e i = in_frames (frames_held None l.frames q i)
    by done e i = absurd (omega arith)
    by (trapped tr) e i = absurd (omega arith)
    by (joining p left) e i = on (hit (v.Rev (Some p)) q) refl i
      where
        on : (n : ℕ) → hit (v.Rev (Some p)) q ≡ n → 1 ≤ n + frames_count left l.frames q → Holds l q
        on zero f k = in_frames (frames_held left l.frames q (omega arith))
        on (suc n) f k =
            in_phase left (e
            ∙ ap (λ y. joining y left)
            (let is : v.Rev (Some p) ≡ v.Rev (Some q) = hit_held (v.Rev (Some p)) q (omega (arith, f)) in cc))

zero_or : (n : ℕ) → (n ≡ 0) ⊎ (1 ≤ n)
zero_or zero = inl refl
zero_or (suc n) = inr (omega arith)

-- ---- states

-- the step of r from l to l', which also writes this entry at o, and makes so many new names
record Change (revs : Path → Option (Entry Local)) (l l' : Local) (r o : Path) (e : Entry Local) : Type 0 where
  extra : Path → ℕ
  less : (q : Path) → owned l' q ≤ owned l q + extra q
  both : (x : Local) (q : Path) → e ≡ Plain x → r ≢ o → owned l' q + owned x q ≤ owned l q + extra q
  most : (q : Path) → extra q ≤ 1
  fresh : (q : Path)
      → (extra q ≡ 0)
      ⊎ (((p : Path) (x : Local) → revs p ≡ Some (Plain x) → owned x q ≡ 0)
      × ((x : Local) → revs q ≡ Some (Joined x) → ⊥))
  mark : (x : Local) → e ≡ Joined x → (extra o ≡ 0) × (owned l' o + 1 ≤ owned l o)

data Where (revs : Path → Option (Entry Local)) (l' : Local) (r o : Path) (e : Entry Local) (p : Path)
    (x : Entry Local) : Type 0 where
  at_r : r ≡ p → x ≡ Plain l' → Where revs l' r o e p x
  at_o : r ≢ p → o ≡ p → x ≡ e → Where revs l' r o e p x
  old : r ≢ p → o ≢ p → revs p ≡ Some x → Where revs l' r o e p x

find_at : (revs : Path → Option (Entry Local)) (l' : Local) (r o : Path) (e : Entry Local) (p : Path) (x : Entry Local)
    → put_two revs r (Plain l') o e p ≡ Some x → Where revs l' r o e p x
find_at revs l' r o e p x there = by (decide_same r p) (decide_same o p)
  where
    by : (r ≡ p) ⊎ (r ≢ p) → (o ≡ p) ⊎ (o ≢ p) → Where revs l' r o e p x
    by (inl a) b =
        at_r a (some_inj (sym there ∙ ap (put_two revs r (Plain l') o e) (sym a) ∙ two_here revs r o (Plain l') e))
    by (inr a) (inl b) =
        at_o a b (some_inj
        (sym there ∙ ap (put_two revs r (Plain l') o e) (sym b) ∙ two_there revs r o (Plain l') e (λ c. a (c ∙ b))))
    by (inr a) (inr b) = old a b (sym (two_other revs r o (Plain l') e p a b) ∙ there)

module _ (revs : Path → Option (Entry Local)) (l l' : Local) (r o : Path) (e : Entry Local)
    (here : revs r ≡ Some (Plain l)) (owning : OneOwner revs) (change : Change revs l l' r o e) where
  plain_eq : (x y : Local) (q : Path) → Plain x ≡ Plain y → owned x q ≡ owned y q
  plain_eq x y q i = let is : x ≡ y = cc in ap (λ z. owned z q) is

  -- with another old one
  beside : (p : Path) (x : Local) (q : Path) → r ≢ p → revs p ≡ Some (Plain x)
      → owned l q + change.extra q + owned x q ≤ 1
  beside p x q apart there = by (change.fresh q)
    where
      by : (change.extra q ≡ 0)
          ⊎ (((p : Path) (x : Local) → revs p ≡ Some (Plain x) → owned x q ≡ 0)
          × ((x : Local) → revs q ≡ Some (Joined x) → ⊥))
          → owned l q + change.extra q + owned x q ≤ 1
      by (inl z) = let a = owning.two r p l x q apart here there in omega (arith, z, a)
      by (inr f) = let a = f.0 r l here in let b = f.0 p x there in let m = change.most q in omega (arith, a, b, m)

  alone : (q : Path) → owned l q + change.extra q ≤ 1
  alone q = by (change.fresh q)
    where
      by : (change.extra q ≡ 0)
          ⊎ (((p : Path) (x : Local) → revs p ≡ Some (Plain x) → owned x q ≡ 0)
          × ((x : Local) → revs q ≡ Some (Joined x) → ⊥))
          → owned l q + change.extra q ≤ 1
      by (inl z) = let a = owning.one r l q here in omega (arith, z, a)
      by (inr f) = let a = f.0 r l here in let m = change.most q in omega (arith, a, m)

  one' : (p : Path) (x : Local) (q : Path) → put_two revs r (Plain l') o e p ≡ Some (Plain x) → owned x q ≤ 1
  one' p x q there = by (find_at revs l' r o e p (Plain x) there)
    where
      by : Where revs l' r o e p (Plain x) → owned x q ≤ 1
      by (at_r a i) = let k = plain_eq x l' q i in let m = change.less q in let n = alone q in omega (arith, k, m, n)
      by (at_o a b i) = let m = change.both x q (sym i) (λ y. a (y ∙ b)) in let n = alone q in omega (arith, m, n)
      by (old a b i) = owning.one p x q i

  -- the changed one and another
  first : (p : Path) (x : Local) (q : Path) → Where revs l' r o e p (Plain x) → r ≢ p → owned l' q + owned x q ≤ 1
  first p x q (at_r a i) apart = absurd (apart a)
  first p x q (at_o a b i) apart =
      let m = change.both x q (sym i) (λ y. a (y ∙ b)) in let n = alone q in omega (arith, m, n)
  first p x q (old a b i) apart = let m = change.less q in let n = beside p x q a i in omega (arith, m, n)

  -- the new one and an old one
  second : (p : Path) (x y : Local) (q : Path) → e ≡ Plain y → r ≢ o → r ≢ p → revs p ≡ Some (Plain x)
      → owned y q + owned x q ≤ 1
  second p x y q is apart off there =
      let m = change.both y q is apart in let n = beside p x q off there in omega (arith, m, n)

  two' : (p p' : Path) (x x' : Local) (q : Path) → p ≢ p' → put_two revs r (Plain l') o e p ≡ Some (Plain x)
      → put_two revs r (Plain l') o e p' ≡ Some (Plain x') → owned x q + owned x' q ≤ 1
  two' p p' x x' q apart there there' =
      by (find_at revs l' r o e p (Plain x) there) (find_at revs l' r o e p' (Plain x') there')
    where
      by : Where revs l' r o e p (Plain x) → Where revs l' r o e p' (Plain x') → owned x q + owned x' q ≤ 1
      by (at_r a i) w =
          let k = plain_eq x l' q i in let m = first p' x' q w (λ y. apart (sym a ∙ y)) in omega (arith, k, m)
      by (at_o a b i) (at_r c j) =
          let k = plain_eq x' l' q j in let m = first p x q (at_o a b i) a in omega (arith, k, m)
      by (old a b i) (at_r c j) = let k = plain_eq x' l' q j in let m = first p x q (old a b i) a in omega (arith, k, m)
      by (at_o a b i) (at_o c d j) = absurd (apart (sym b ∙ d))
      by (at_o a b i) (old c d j) = second p' x' x q (sym i) (λ y. a (y ∙ b)) c j
      by (old a b i) (at_o c d j) = let m = second p x x' q (sym j) (λ y. c (y ∙ d)) a i in omega (arith, m)
      by (old a b i) (old c d j) = owning.two p p' x x' q apart i j

  -- one that was marked before
  old_mark : (p : Path) (x : Local) (q : Path) (y : Local) → Where revs l' r o e p (Plain x) → revs q ≡ Some (Joined y)
      → owned x q ≡ 0
  old_mark p x q y w there = by w (change.fresh q)
    where
      by : Where revs l' r o e p (Plain x)
          → (change.extra q ≡ 0)
          ⊎ (((p : Path) (x : Local) → revs p ≡ Some (Plain x) → owned x q ≡ 0)
          × ((x : Local) → revs q ≡ Some (Joined x) → ⊥))
          → owned x q ≡ 0
      by w (inr f) = absurd (f.1 y there)
      by (at_r a i) (inl z) =
          let k = plain_eq x l' q i in
          let m = change.less q in
          let n = owning.marked r l q y here there in
          omega (arith, z, k, m, n)
      by (at_o a b i) (inl z) =
          let m = change.both x q (sym i) (λ y. a (y ∙ b)) in
          let n = owning.marked r l q y here there in
          omega (arith, z, m, n)
      by (old a b i) (inl z) = owning.marked p x q y i there

  -- the one that is marked now
  new_mark : (p : Path) (x : Local) (y : Local) → Where revs l' r o e p (Plain x) → e ≡ Joined y → owned x o ≡ 0
  new_mark p x y (at_r a i) is =
      let k = plain_eq x l' o i in
      let m = (change.mark y is).1 in
      let n = owning.one r l o here in
      omega (arith, k, m, n)
  new_mark p x y (at_o a b i) is = absurd (let clash : Plain x ≡ Joined y = i ∙ is in cc)
  new_mark p x y (old a b i) is =
      let m = (change.mark y is).1 in let n = owning.two r p l x o a here i in omega (arith, m, n)

  marked' : (p : Path) (x : Local) (q : Path) (y : Local) → put_two revs r (Plain l') o e p ≡ Some (Plain x)
      → put_two revs r (Plain l') o e q ≡ Some (Joined y) → owned x q ≡ 0
  marked' p x q y there mark = by (find_at revs l' r o e q (Joined y) mark)
    where
      by : Where revs l' r o e q (Joined y) → owned x q ≡ 0
      by (at_r a i) = absurd (let clash : Joined y ≡ Plain l' = i in cc)
      by (at_o a b i) = subst (λ z. owned x z ≡ 0) b (new_mark p x y (find_at revs l' r o e p (Plain x) there) (sym i))
      by (old a b i) = old_mark p x q y (find_at revs l' r o e p (Plain x) there) i

  step_keeps : OneOwner (put_two revs r (Plain l') o e)
  step_keeps = record { one = one'; two = two'; marked = marked' }

-- ---- runs

extend : (M : Machine) (rs : List Path) (g h i : Global M.Local) (r : Path) → Runs M g rs h → step M h r ≡ Some i
    → Runs M g (rs ++ r ∷ []) i
extend M [] g h i r runs s = (i, ap (λ y. step M y r) runs ∙ s, refl)
extend M (x ∷ rs) g h i r runs s = (runs.0, runs.1, extend M rs runs.0 h i r runs.2 s)

module _ (s : Setting) (well : IsAccepted s.program) (once : UsesHandlesOnce s.program) (fuel : ℕ) where
  typed : ProgramTyped s.program
  typed = rules_kept s.program well

  abbrev HasOneOwner : Global Local → Type 0
  HasOneOwner Twice = ⊥
  HasOneOwner (Live revs) = OneOwner revs

  record Good (g : Global Local) : Type 0 where
    reached : Reached (calculus s) (main s fuel) g
    owning : HasOneOwner g

  module _ (revs : Path → Option (Entry Local)) (reached : Reached (calculus s) (main s fuel) (Live revs))
      (owning : OneOwner revs) where
    forked_all : IsForked (calculus s) revs
    forked_all = reached_forked (calculus s) (main s fuel) (counts s) (Live revs) reached

    ordered : IsOrdered (calculus s) Holds revs
    ordered = handle_law (calculus s) (main s fuel) Holds (counts s) (handles s) (main_holds_none s fuel) (Live revs)
        reached

    all_own : Everywhere (calculus s) (Own s typed once) (Live revs)
    all_own = kept_law (calculus s) (main s fuel) (Own s typed once) (own_kept s typed once well)
        (main_own s typed once well fuel) (Live revs) reached

    -- a child that is forked now was not there
    not_there : (r : Path) (l : Local) (e : Entry Local) → revs r ≡ Some (Plain l) → revs (child r l.forks) ≡ Some e → ⊥
    not_there r l e here there =
        let f = forked_all r l.forks e there in
        let is : Plain l ≡ f.forker = some_inj (sym here ∙ f.stands) in
        let less : l.forks < (local_of f.forker).forks = f.counted in
        let same : (local_of f.forker).forks ≡ l.forks = ap (λ (y : Entry Local). (local_of y).forks) (sym is) in
        omega (arith, less, same)

    not_named : (r : Path) (l : Local) → revs r ≡ Some (Plain l) → (p : Path) (x : Local) → revs p ≡ Some (Plain x)
        → owned x (child r l.forks) ≡ 0
    not_named r l here p x there = by (zero_or (owned x (child r l.forks)))
      where
        by : (owned x (child r l.forks) ≡ 0) ⊎ (1 ≤ owned x (child r l.forks)) → owned x (child r l.forks) ≡ 0
        by (inl z) = z
        by (inr h) =
            let below = ordered p (child r l.forks) (Plain x) there (owned_held x (child r l.forks) h) in
            absurd (not_there r l below.entry here below.stands)

    change_of : (r : Path) (l l' : Local) (o : Path) (e : Entry Local) → revs r ≡ Some (Plain l)
        → Place (calculus s) revs r l l' o e → Change revs l l' r o e
    change_of r l l' o e here (own does a b) = record {
      extra = λ q. 0;
      less = λ q. let k = (event.1) q in omega (arith, k);
      both = λ x q i apart. absurd (apart (sym a));
      most = λ q. omega arith;
      fresh = λ q. inl refl;
      mark = λ x i. absurd (let clash : Plain l' ≡ Joined x = sym b ∙ i in cc);
    }
      where
        event : Keeps s typed once r l.forks (owned l) (Moves l')
        event = subst (Keeps s typed once r l.forks (owned l)) does
            (let h = all_own r (Plain l) here in next_keeps s typed once r l h.0 h.1)
    change_of r l l' o e here (new c does a b) = record {
      extra = λ q. hit (v.Rev (Some (child r l.forks))) q;
      less = λ q. let k = (event.2) q in omega (arith, k);
      both = λ x q i apart.
          let k = (event.2) q in let y : owned x q ≡ owned c q = same_plain x c q (sym i ∙ b) in omega (arith, k, y);
      most = λ q. most_one q;
      fresh = λ q. by q (decide_same (child r l.forks) q);
      mark = λ x i. absurd (let clash : Plain c ≡ Joined x = sym b ∙ i in cc);
    }
      where
        event : Keeps s typed once r l.forks (owned l) (Forks l' c)
        event = subst (Keeps s typed once r l.forks (owned l)) does
            (let h = all_own r (Plain l) here in next_keeps s typed once r l h.0 h.1)

        same_plain : (x y : Local) (q : Path) → Plain x ≡ Plain y → owned x q ≡ owned y q
        same_plain x y q i = let is : x ≡ y = cc in ap (λ z. owned z q) is

        most_one : (q : Path) → hit (v.Rev (Some (child r l.forks))) q ≤ 1
        most_one q = on (path.same (child r l.forks) q)
          where
            on : (d : Bool) → cond d 1 0 ≤ 1
            on true = le_refl 1
            on false = omega arith

        by : (q : Path) → (child r l.forks ≡ q) ⊎ (child r l.forks ≢ q)
            → (hit (v.Rev (Some (child r l.forks))) q ≡ 0)
            ⊎ (((p : Path) (x : Local) → revs p ≡ Some (Plain x) → owned x q ≡ 0)
            × ((x : Local) → revs q ≡ Some (Joined x) → ⊥))
        by q (inr differ) = inl (ap (λ d. cond d 1 0) (apart-same (child r l.forks) q differ))
        by q (inl is) = inr (
          (λ p x there. subst (λ y. owned x y ≡ 0) is (not_named r l here p x there)),
          λ x there. not_there r l (Joined x) here (ap revs is ∙ there),
        )
    change_of r l l' o e here (marks lq does was ended a b) = record {
      extra = λ q. 0;
      less = λ q. let k = joined.less q in let y = same_owned q in omega (arith, k, y);
      both = λ x q i apart. absurd (let clash : Plain x ≡ Joined lq = sym i ∙ b in cc);
      most = λ q. omega arith;
      fresh = λ q. inl refl;
      mark = λ x i. (
        refl,
        let k = joined.less o in
            let y = same_owned o in
            let z : hit (v.Rev (Some o)) o ≡ 1 = ap (λ d. cond d 1 0) (same_refl o) in
            omega (arith, k, y, z),
      );
    }
      where
        joined : j.Joined s typed once o l (join s r l o lq)
        joined = join_keeps s typed once r o l lq (all_own r (Plain l) here).1 (all_own o (Plain lq) was).1 does ended

        same_owned : (q : Path) → owned l' q ≡ owned (join s r l o lq) q
        same_owned q = ap (λ z. owned z q) a

    -- a join of a marked revision is by one that it names
    no_twice : (r : Path) (l : Local) (q : Path) (lq : Local) → revs r ≡ Some (Plain l) → next s r l ≡ Joins q
        → revs q ≡ Some (Joined lq) → ⊥
    no_twice r l q lq here does there =
        let phase = joins_phase s r l q does in
        let zero_ : owned l q ≡ 0 = owning.marked r l q lq here there in
        let is : owned l q ≡ hit (v.Rev (Some q)) q + frames_count phase.0 l.frames q =
        ap (λ p. owned (record l { phase = p }) q) phase.1 in
        let self : hit (v.Rev (Some q)) q ≡ 1 = ap (λ d. cond d 1 0) (same_refl q) in
        omega (arith, zero_, is, self)

  keeps : (g h : Global Local) (r : Path) → Good g → step (calculus s) g r ≡ Some h → Good h
  keeps Twice h r good st = none_some st
  keeps (Live revs) h r good st = record {
    reached = record {
      by = good.reached.by ++ r ∷ [];
      runs = extend (calculus s) good.reached.by (start (calculus s) (main s fuel)) (Live revs) h r good.reached.runs
          st;
    };
    owning = by h (way (calculus s) revs r h st);
  }
    where
      by : (h : Global Local) → Way (calculus s) revs r h → HasOneOwner h
      by h (writes l l' o e here role) =
          step_keeps revs l l' r o e here good.owning
          (change_of revs good.reached good.owning r l l' o e here (place (calculus s) role))
      by h (twice l q lq here does there) = no_twice revs good.reached good.owning r l q lq here does there

  begins : Good (start (calculus s) (main s fuel))
  begins = record {
    reached = record { by = []; runs = refl };
    owning = record {
      one = λ r l q e. (let z = none_named r l q e in omega (arith, z));
      two = λ r r' l l' q apart e f.
          (let z = none_named r l q e in let y = none_named r' l' q f in omega (arith, z, y));
      marked = λ r l q lq e f. none_named r l q e;
    };
  }
    where
      none_named : (r : Path) (l : Local) (q : Path) → with_at nowhere [] (Plain (main s fuel)) r ≡ Some (Plain l)
          → owned l q ≡ 0
      none_named [] l q e = let is : main s fuel ≡ l = cc in ap (λ z. owned z q) (sym is)
      none_named (x ∷ r) l q e = none_some e

  -- no run reaches Twice
  pub never_twice : (g : Global Local) → Reached (calculus s) (main s fuel) g → g ≢ Twice
  never_twice g reached is =
      subst HasOneOwner is
      (along (calculus s) Good keeps reached.by (start (calculus s) (main s fuel)) g begins reached.runs).owning

  -- in each state that a run reaches, each revision has one owner at most
  pub reached_owned : (revs : Path → Option (Entry Local)) → Reached (calculus s) (main s fuel) (Live revs)
      → OneOwner revs
  reached_owned revs reached =
      (along (calculus s) Good keeps reached.by (start (calculus s) (main s fuel)) (Live revs) begins
      reached.runs).owning

  -- and no shared variable has a handle
  pub none_shared : (revs : Path → Option (Entry Local)) → Reached (calculus s) (main s fuel) (Live revs)
      → (r : Path) (e : Entry Local) → revs r ≡ Some e → (q : Path) → LocationsHold (local_of e).locations q → ⊥
  none_shared revs reached r e here q h = (all_own revs reached (reached_owned revs reached) r e here).1.locations q h
