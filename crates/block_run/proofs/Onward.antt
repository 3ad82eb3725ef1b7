-- A step within a block: what stands for the state before it stands for the state behind it.
use Rattle.std.proofs.Common.{◌≡◌, ◌≢◌, ◌∙◌, ℕ, zero, suc, ◌<◌, ◌≤◌, Bool, true, false, List, [], ◌∷◌, length, Option, Some, None, refl, sym, ap, subst, arith, ◌⊎◌, inl, inr}
use Rattle.std.specs.Prelude.{slice_get, nat_eq}
use Rattle.std.proofs.lemmas.Bool.Decides.{nat_tests}
use Rattle.rev_num.specs.declared.outcome.Cause.{Cause}
use Rattle.rev_code.specs.Words.{Word}
use Rattle.rev_code.specs.State.{Location, State, seen_at, written_at, seen}
use Rattle.rev_code.specs.Step.{Comes, goes, traps, forks, joins, ends, stuck}
use Rattle.code_soundness.proofs.Basics.{some_eq, some_within}
use Rattle.version_map.specs.Overlay.{word_or}
use Rattle.block_run.specs.Plain.{Run, Plain, moves, writes, faults, leaves, lacks}
use Rattle.block_run.specs.Agreement.{IsWord, AreWords, IsRun, IsMoved, Agrees}
use Rattle.block_run.specs.Area.{stack_of, Ran}
use Rattle.block_run.specs.Remembering.{Kept, Wrote}
use Rattle.block_run.specs.Standing.{IsSeen, AreSeen, SameElse}

-- ---- lengths

pub words_length : (xs : List (Word ℕ)) (ws : List ℕ) → AreWords xs ws → length xs ≡ length ws
words_length [] [] h = refl
words_length [] (w ∷ ws) h = absurd h
words_length (x ∷ xs) [] h = absurd h
words_length (x ∷ xs) (w ∷ ws) h = ap suc (words_length xs ws h.1)

pub stack_length : (ws : List ℕ) (l k : ℕ) → length (stack_of ws l k) ≡ k
stack_length ws l zero = refl
stack_length ws l (suc k) = ap suc (stack_length ws l k)

-- ---- locations

pub seen_is : (ls : List (Location ℕ)) (l : ℕ) (x : Word ℕ) → seen_at ls l ≡ Some x
    → (y : Location ℕ) × (slice_get ls l ≡ Some y) × (seen y ≡ x)
seen_is [] l x e = absurd (none_no e)
  where
    none_no : {x : Word ℕ} → None ≡ Some x → ⊥
    none_no h = cc
seen_is (y ∷ ls) zero x e = (y, refl, some_is e)
  where
    some_is : {y x : Word ℕ} → Some y ≡ Some x → y ≡ x
    some_is h = cc
seen_is (y ∷ ls) (suc l) x e = seen_is ls l x e

pub word_seen : (y : Location ℕ) (w : ℕ) (root : Option ℕ) → IsSeen y w root → IsWord (seen y) w
word_seen y w None h = subst (λ o. IsWord (elim o [ None ↦ y.snapshot | Some v ↦ v ]) w) (sym h.0) h.1
word_seen y w (Some v) h = subst (λ o. IsWord (elim o [ None ↦ y.snapshot | Some v ↦ v ]) w) (sym h.1) h.2

pub reads_seen : (ls : List (Location ℕ)) (sees : ℕ → ℕ) (root : ℕ → Option ℕ) → AreSeen ls sees root
    → (l : ℕ) (x : Word ℕ) → seen_at ls l ≡ Some x → IsWord x (sees l)
reads_seen ls sees root h l x e =
    let q = seen_is ls l x e in
    subst (λ z. IsWord z (sees l)) q.2 (word_seen q.0 (sees l) (root l) (h l q.0 q.1))

pub written_length : (ls : List (Location ℕ)) (l : ℕ) (x : Word ℕ) → length (written_at ls l x) ≡ length ls
written_length [] l x = refl
written_length (y ∷ ls) zero x = refl
written_length (y ∷ ls) (suc l) x = ap suc (written_length ls l x)

written_here : (ls : List (Location ℕ)) (l : ℕ) (x : Word ℕ) (y : Location ℕ) → slice_get (written_at ls l x) l ≡ Some y
    → (z : Location ℕ) × (slice_get ls l ≡ Some z) × (y ≡ record { snapshot = z.snapshot; written = Some x })
written_here [] l x y e = absurd (none_no e)
  where
    none_no : {x : Location ℕ} → None ≡ Some x → ⊥
    none_no h = cc
written_here (z ∷ ls) zero x y e = (z, refl, sym (some_eq e))
written_here (z ∷ ls) (suc l) x y e = written_here ls l x y e

written_other : (ls : List (Location ℕ)) (l k : ℕ) (x : Word ℕ) → k ≢ l
    → slice_get (written_at ls l x) k ≡ slice_get ls k
written_other [] l k x h = refl
written_other (y ∷ ls) zero zero x h = absurd (h refl)
written_other (y ∷ ls) zero (suc k) x h = refl
written_other (y ∷ ls) (suc l) zero x h = refl
written_other (y ∷ ls) (suc l) (suc k) x h = written_other ls l k x (λ e. h (ap suc e))

snapshot_word : (z : Location ℕ) (w : ℕ) (root : Option ℕ) → IsSeen z w root → IsWord z.snapshot (word_or w root)
snapshot_word z w None h = h.1
snapshot_word z w (Some v) h = h.3

module _ (ls : List (Location ℕ)) (sees sees' : ℕ → ℕ) (root root' : ℕ → Option ℕ) (h : AreSeen ls sees root) where
  within : (l size : ℕ) (x : Location ℕ) → slice_get ls l ≡ Some x → length ls ≤ size → l < size
  within l size x e h = let small = some_within ls l x e in omega (arith, small, h)

  pub kept_seen : (size : ℕ) → length ls ≤ size → Kept size sees sees' root root' → AreSeen ls sees' root'
  kept_seen size few k l x e =
      let small = within l size x e few in
      subst (λ w. IsSeen x w (root' l)) (sym (k.words l small))
      (subst (λ o. IsSeen x (sees l) o) (sym (k.roots l small)) (h l x e))

  seen_written : (size at word : ℕ) (x : Word ℕ) → IsWord x word → (z : Location ℕ) → slice_get ls at ≡ Some z
      → Wrote size sees sees' root root' at word
      → IsSeen (record { snapshot = z.snapshot; written = Some x }) (sees' at) (root' at)
  seen_written size at word x fits z e w =
      subst (λ v. IsSeen (record { snapshot = z.snapshot; written = Some x }) v (root' at)) (sym w.here)
      (subst (λ o. IsSeen (record { snapshot = z.snapshot; written = Some x }) word o) (sym w.root_here)
      (x, refl, fits, snapshot_word z (sees at) (root at) (h at z e)))

  pub wrote_seen : (size : ℕ) → length ls ≤ size → (at word : ℕ) (x : Word ℕ) → IsWord x word
      → Wrote size sees sees' root root' at word → AreSeen (written_at ls at x) sees' root'
  wrote_seen size few at word x fits w l y e = by (nat_eq l at) refl
    where
      by : (d : Bool) → nat_eq l at ≡ d → IsSeen y (sees' l) (root' l)
      by true d = (let same : l ≡ at = grind (arith, nat_tests, d) in
          let q = written_here ls at x y (subst (λ k. slice_get (written_at ls at x) k ≡ Some y) same e) in
          subst (λ k. IsSeen y (sees' k) (root' k)) (sym same)
          (subst (λ t. IsSeen t (sees' at) (root' at)) (sym q.2) (seen_written size at word x fits q.0 q.1 w)))
      by false d = (let other : l ≢ at = grind (arith, nat_tests, d) in
          let is : slice_get ls l ≡ Some y = sym (written_other ls at l x other) ∙ e in
          let small = within l size y is few in
          subst (λ v. IsSeen y v (root' l)) (sym (w.others l small other))
          (subst (λ o. IsSeen y (sees l) o) (sym (w.root_others l small other)) (h l y is)))

-- ---- what an instruction came to

-- it goes on, with the locations as they were or with one written
pub record Gone (c : State ℕ) (o : Comes ℕ) (q : Run) (kept : Type 0) (wrote : ℕ → ℕ → Type 0) : Type 0 where
  pub next : State ℕ
  pub is : o ≡ goes next
  pub run : IsRun next q
  pub same : SameElse c next
  pub locations : (kept × (next.locations ≡ c.locations))
      ⊎ ((l w : ℕ) × (x : Word ℕ) × IsWord x w × wrote l w × (next.locations ≡ written_at c.locations l x))

same_else : (c c' : State ℕ) (r : Run) (ls : List (Location ℕ)) → IsMoved c c' r ls → SameElse c c'
same_else c c' r ls m = record {
  block = ap (λ z. z.block) m.others;
  below = ap (λ z. z.below) m.others;
  forks = ap (λ z. z.forks) m.others;
  listed = ap (λ z. z.listed) m.others;
  text = ap (λ z. z.text) m.others;
}

pub gone : (c : State ℕ) (o : Comes ℕ) → o ≢ stuck → (p : Plain) → Agrees c o p
    → (q : Run) (kept : Type 0) (wrote : ℕ → ℕ → Type 0) → Ran p q kept wrote → Gone c o q kept wrote
gone c (goes c') h (moves r) a q kept wrote d = record {
  next = c';
  is = refl;
  run = subst (λ z. IsRun c' z) d.0 a.run;
  same = same_else c c' r c.locations a;
  locations = inl (d.1, ap (λ z. z.locations) a.others);
}
gone c (goes c') h (writes r l w) a q kept wrote d = record {
  next = c';
  is = refl;
  run = subst (λ z. IsRun c' z) d.0 a.2.run;
  same = same_else c c' r (written_at c.locations l a.0) a.2;
  locations = inr (l, w, a.0, a.1, d.1, ap (λ z. z.locations) a.2.others);
}
gone c o h (faults r e) a q kept wrote d = absurd d
gone c o h leaves a q kept wrote d = absurd d
gone c o h lacks a q kept wrote d = absurd d
gone c (traps c' e) h (moves r) a q kept wrote d = absurd a
gone c (traps c' e) h (writes r l w) a q kept wrote d = absurd a
gone c (forks c' n args) h (moves r) a q kept wrote d = absurd a
gone c (forks c' n args) h (writes r l w) a q kept wrote d = absurd a
gone c (joins c' try k) h (moves r) a q kept wrote d = absurd a
gone c (joins c' try k) h (writes r l w) a q kept wrote d = absurd a
gone c (ends c' v) h (moves r) a q kept wrote d = absurd a
gone c (ends c' v) h (writes r l w) a q kept wrote d = absurd a
gone c stuck h (moves r) a q kept wrote d = absurd (h refl)
gone c stuck h (writes r l w) a q kept wrote d = absurd (h refl)

pub record Halted (c : State ℕ) (o : Comes ℕ) (q : Run) (e : Cause) : Type 0 where
  pub next : State ℕ
  pub is : o ≡ traps next e
  pub run : IsRun next q
  pub same : SameElse c next
  pub locations : next.locations ≡ c.locations

pub halted : (c : State ℕ) (o : Comes ℕ) → o ≢ stuck → (q : Run) (e : Cause) → Agrees c o (faults q e) → Halted c o q e
halted c (traps c' e') h q e a = record {
  next = c';
  is = ap (λ z. traps c' z) a.0;
  run = a.1.run;
  same = same_else c c' q c.locations a.1;
  locations = ap (λ z. z.locations) a.1.others;
}
halted c (goes c') h q e a = absurd a
halted c (forks c' n args) h q e a = absurd a
halted c (joins c' try k) h q e a = absurd a
halted c (ends c' v) h q e a = absurd a
halted c stuck h q e a = absurd (h refl)
