-- Whether an entry is valid for a fresh revision can be told, and so whether one of several is.
use Rattle.std.proofs.Common.{◌≡◌, ◌⊎◌, inl, inr, refl, ap, subst, ℕ, Bool, true, false, List, [], ◌∷◌, length}
use Rattle.std.specs.Prelude.{ℤ, pos, negsuc, Option, Some, None, slice_get}
use Rattle.rev_num.specs.Path.{Path}
use Rattle.rev_code.specs.Words.{Word, int, bool, rev}
use Rattle.revision_machine.proofs.Paths.{decide_same}
use Rattle.code_machine_laws.specs.Reads.{Read, location, input, count}
use Rattle.code_machine_laws.specs.Moved.{Agrees, AllAgree}
use Rattle.code_machine.specs.Local.{CodeRun}
use Rattle.code_machine.specs.Machines.{IsMain}
use Rattle.code_machine.proofs.Changes.{decide}
use Rattle.code_memos.specs.Leaf.{Fresh, Known, IsValid}
use Rattle.code_memos.specs.Memo.{IsAmong}

abbrev pub Told : Type 0 → Type 0
Told P = P ⊎ (P → ⊥)

-- the same of what a function carries two values to, which is told back
carried : {A B : Type 0} (f : A → B) (x y : A) → (f x ≡ f y → x ≡ y) → Told (x ≡ y) → Told (f x ≡ f y)
carried f x y back (inl is) = inl (ap f is)
carried f x y back (inr other) = inr (λ e. other (back e))

-- ---- words

int_told : (x y : ℤ) → Told (x ≡ y)
int_told (pos m) (pos n) = carried pos m n (λ e. cc) (decide m n)
int_told (negsuc m) (negsuc n) = carried negsuc m n (λ e. cc) (decide m n)
int_told (pos m) (negsuc n) = inr (λ e. cc)
int_told (negsuc m) (pos n) = inr (λ e. cc)

bool_told : (x y : Bool) → Told (x ≡ y)
bool_told true true = inl refl
bool_told false false = inl refl
bool_told true false = inr (λ e. cc)
bool_told false true = inr (λ e. cc)

path_told : (x y : Option Path) → Told (x ≡ y)
path_told None None = inl refl
path_told (Some p) (Some q) = carried Some p q (λ e. cc) (decide_same p q)
path_told None (Some q) = inr (λ e. cc)
path_told (Some p) None = inr (λ e. cc)

word_told : (v w : Word Path) → Told (v ≡ w)
word_told (int x) (int y) = carried int x y (λ e. cc) (int_told x y)
word_told (bool x) (bool y) = carried bool x y (λ e. cc) (bool_told x y)
word_told (rev x) (rev y) = carried rev x y (λ e. cc) (path_told x y)
word_told (int x) (bool y) = inr (λ e. cc)
word_told (int x) (rev y) = inr (λ e. cc)
word_told (bool x) (int y) = inr (λ e. cc)
word_told (bool x) (rev y) = inr (λ e. cc)
word_told (rev x) (int y) = inr (λ e. cc)
word_told (rev x) (bool y) = inr (λ e. cc)

words_told : (vs ws : List (Word Path)) → Told (vs ≡ ws)
words_told [] [] = inl refl
words_told [] (w ∷ ws) = inr (λ e. cc)
words_told (v ∷ vs) [] = inr (λ e. cc)
words_told (v ∷ vs) (w ∷ ws) = by (word_told v w) (words_told vs ws)
  where
    by : Told (v ≡ w) → Told (vs ≡ ws) → Told (v ∷ vs ≡ w ∷ ws)
    by (inl a) (inl b) = inl (λ i. a i ∷ b i)
    by (inr other) rest = inr (λ e. other cc)
    by (inl a) (inr other) = inr (λ e. other cc)

-- ---- what was read

word_at_told : (o : Option (Word Path)) (w : Word Path) → Told (o ≡ Some w)
word_at_told None w = inr (λ e. cc)
word_at_told (Some v) w = carried Some v w (λ e. cc) (word_told v w)

int_at_told : (o : Option ℤ) (z : ℤ) → Told (o ≡ Some z)
int_at_told None z = inr (λ e. cc)
int_at_told (Some x) z = carried Some x z (λ e. cc) (int_told x z)

read_told : (snapshot : List (Word Path)) (inputs : List ℤ) (x : Read Path) → Told (Agrees snapshot inputs x)
read_told snapshot inputs (location n w) = word_at_told (slice_get snapshot n) w
read_told snapshot inputs (input n z) = int_at_told (slice_get inputs n) z
read_told snapshot inputs (count k) = decide (length inputs) k

reads_told : (snapshot : List (Word Path)) (inputs : List ℤ) (xs : List (Read Path))
    → Told (AllAgree snapshot inputs xs)
reads_told snapshot inputs [] = inl tt
reads_told snapshot inputs (x ∷ xs) = by (read_told snapshot inputs x) (reads_told snapshot inputs xs)
  where
    by : Told (Agrees snapshot inputs x) → Told (AllAgree snapshot inputs xs) → Told (AllAgree snapshot inputs (x ∷ xs))
    by (inl a) (inl b) = inl (a, b)
    by (inr other) rest = inr (λ h. other h.0)
    by (inl a) (inr other) = inr (λ h. other h.1)

-- ---- entries

pub valid_told : (e : Known) (r : Path) (f : Fresh Path) (inputs : List ℤ) → Told (IsValid e r f inputs)
valid_told e r f inputs =
    by (decide_same e.path r) (decide e.block f.block) (words_told e.args f.args) (decide e.fuel f.fuel)
    (reads_told f.snapshot inputs e.reads)
  where
    by : Told (e.path ≡ r) → Told (e.block ≡ f.block) → Told (e.args ≡ f.args) → Told (e.fuel ≡ f.fuel)
        → Told (AllAgree f.snapshot inputs e.reads)
        → Told (IsValid e r f inputs)
    by (inl a) (inl b) (inl c) (inl d) (inl x) =
        inl (record { path_is = a; block_is = b; args_are = c; fuel_is = d; reads_agree = x })
    by (inr other) b c d x = inr (λ v. other v.path_is)
    by (inl a) (inr other) c d x = inr (λ v. other v.block_is)
    by (inl a) (inl b) (inr other) d x = inr (λ v. other v.args_are)
    by (inl a) (inl b) (inl c) (inr other) x = inr (λ v. other v.fuel_is)
    by (inl a) (inl b) (inl c) (inl d) (inr other) = inr (λ v. other v.reads_agree)

module _ (g : CodeRun) (number : ℕ) (main : IsMain g number) (fuel : ℕ) (r : Path) (f : Fresh Path)
    (inputs : List ℤ) where
  abbrev pub OneIsValid : List Known → Type 0
  OneIsValid es = (e : Known) × IsAmong g number main fuel e es × IsValid e r f inputs

  abbrev pub NoneIsValid : List Known → Type 0
  NoneIsValid es = (e : Known) → IsAmong g number main fuel e es → IsValid e r f inputs → ⊥

  pub one_told : (es : List Known) → OneIsValid es ⊎ NoneIsValid es
  one_told [] = inr (λ e i v. i)
  one_told (x ∷ es) = by (valid_told x r f inputs) (one_told es)
    where
      none : (IsValid x r f inputs → ⊥) → NoneIsValid es → NoneIsValid (x ∷ es)
      none other rest e (inl is) v = other (subst (λ k. IsValid k r f inputs) is v)
      none other rest e (inr i) v = rest e i v

      by : Told (IsValid x r f inputs) → OneIsValid es ⊎ NoneIsValid es → OneIsValid (x ∷ es) ⊎ NoneIsValid (x ∷ es)
      by (inl v) rest = inl (x, inl refl, v)
      by (inr other) (inl found) = inl (found.0, inr found.1, found.2)
      by (inr other) (inr rest) = inr (none other rest)
