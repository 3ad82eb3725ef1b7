-- The merges of all locations, on words without kinds.
--   word_for       the word that stands for a word of a kind
--   word_merges    the merge of each location: the joinee's word, or what its merge block gives for
--                  the numbers that the three words stand for
--   ServesMerges   so many words serve each fun and merge, with all funs that it applies
--   IsOfKind       a word stands for a word of this kind
--   IsMerged       what a merge gives on words stands for what it gives on words of kinds
--   AreMergesOf    merges on words stand for those of the code
--   IsShort        an int has 64 bits
--   HasShortNumbers   each number in the code has 64 bits
--   AreJoined      what a joinee wrote, and a joiner's view there, on words
--   IsComposedAs   new words stand for new words of kinds, or both have one fault
use Rattle.std.specs.Prelude.{ℕ, ◌≡◌, ◌≤◌, true, List, [], ◌∷◌, Option, Some, None, Result, Ok, Err, slice_get}
use Rattle.rev_num.specs.declared.value.NumFault.{NumFault}
use Rattle.rev_num.specs.declared.value.ValueKind.{ValueKind}
use Rattle.rev_num.specs.Arith.{fits_i64}
use Rattle.rev_num.specs.Words.{int_of, word_of}
use Rattle.rev_code.specs.declared.code.Code.{Code}
use Rattle.rev_code.specs.declared.code.CodeBlock.{CodeBlock}
use Rattle.rev_code.specs.declared.code.Instr.{Instr}
use Rattle.rev_code.specs.Words.{Word, int, bool, rev, kind_of}
use Rattle.rev_code.specs.Funs.{values}
use Rattle.code_rules.specs.declared.Cost.{Cost}
use Rattle.code_soundness.specs.AcceptedCode.{AreCosts}
use Rattle.code_soundness.specs.Typed.{location_kinds}
use Rattle.block_run.specs.Plain.{flag}
use Rattle.block_run.specs.Agreement.{handle, IsWord, AreWords, PushesInt}
use Rattle.version_map.specs.Composing.{Entry, Merges, Composition, composed}
use Rattle.block_run.specs.Standing.{IsOfValue}
use Rattle.code_machine.specs.Local.{CodeRun, IsVerified}
use Rattle.code_machine.specs.Joining.{merges_of, merged_by, merges}

-- ---- the merges

abbrev pub word_for : Word ℕ → ℕ
word_for (int z) = word_of z
word_for (bool b) = flag b
word_for (rev h) = handle h

abbrev pub word_or_fault : Result (Word ℕ) NumFault → Result ℕ NumFault
word_or_fault (Ok x) = Ok (word_for x)
word_or_fault (Err f) = Err f

-- a cumulative variable is of ints
abbrev pub int_word : ℕ → Word ℕ
int_word w = int (int_of w)

abbrev pub merged_words : Code → Option (Option ℕ) → (main join root : ℕ) → Result ℕ NumFault
merged_words code None main join root = Ok join
merged_words code (Some None) main join root = Ok join
merged_words code (Some (Some n)) main join root =
    word_or_fault
    (merged_by (values code) (Some n) (int_word main) (int_word join) (int_word root))

abbrev pub word_merges : Code → Merges ℕ
word_merges code l = merged_words code (slice_get (merges_of code.vars) l)

abbrev pub ServesMerges : Code → (size : ℕ) → Type 0
ServesMerges code size =
    (n : ℕ) (costs : List Cost) (cost : Cost) → IsOfValue code n → AreCosts code costs
    → slice_get costs n ≡ Some cost → cost.need ≤ size

-- ---- what they stand for

pub record IsOfKind (kind : ValueKind) (x : Word ℕ) (w : ℕ) : Type 0 where
  pub of_kind : kind_of x ≡ kind
  pub word : IsWord x w

abbrev pub IsMerged : Result (Word ℕ) NumFault → Result ℕ NumFault → Type 0
IsMerged (Ok x) (Ok w) = IsWord x w
IsMerged (Ok x) (Err f) = ⊥
IsMerged (Err e) (Ok w) = ⊥
IsMerged (Err e) (Err f) = e ≡ f

-- of words of the location's kind
abbrev pub AreMergesOf : CodeRun → Merges ℕ → Type 0
AreMergesOf g words =
    (l : ℕ) (kind : ValueKind) → slice_get (location_kinds g.code.vars) l ≡ Some kind
    → (x y z : Word ℕ) (u v w : ℕ) → IsOfKind kind x u → IsOfKind kind y v → IsOfKind kind z w
    → IsMerged (merges g l x y z) (words l u v w)

-- an int has 64 bits
abbrev pub IsShort : Word ℕ → Type 0
IsShort (int z) = fits_i64 z ≡ true
IsShort (bool b) = Unit {0}
IsShort (rev h) = Unit {0}

-- each number in the code has 64 bits
abbrev pub HasShortNumbers : Code → Type 0
HasShortNumbers code =
    (n : ℕ) (b : CodeBlock) (at : ℕ) (x : Instr) → slice_get code.blocks n ≡ Some b
    → slice_get b.instrs at ≡ Some x → PushesInt x

abbrev pub BlocksGiveTheMerges : Type 0
BlocksGiveTheMerges =
    (g : CodeRun) → IsVerified g → HasShortNumbers g.code
    → AreMergesOf g (word_merges g.code)

-- ---- whole joins

-- a written location, and the joiner's word there
pub record IsJoined (kinds : List ValueKind)
    (e : Entry (Word ℕ)) (x : Word ℕ) (f : Entry ℕ) (u : ℕ) : Type 0 where
  pub location : f.location ≡ e.location
  pub kind : ValueKind
  pub there : slice_get kinds e.location ≡ Some kind
  pub main : IsOfKind kind x u
  pub value : IsOfKind kind e.value f.value
  pub root : IsOfKind kind e.root f.root

abbrev pub AreJoined : List ValueKind
    → List (Entry (Word ℕ)) → List (Word ℕ) → List (Entry ℕ) → List ℕ → Type 0
AreJoined kinds [] [] [] [] = Unit {0}
AreJoined kinds (e ∷ es) (x ∷ xs) (f ∷ fs) (u ∷ us) =
    IsJoined kinds e x f u × AreJoined kinds es xs fs us
AreJoined kinds _ _ _ _ = ⊥

abbrev pub IsComposedAs : Composition (Word ℕ) → Composition ℕ → Type 0
IsComposedAs (Ok xs) (Ok ws) = AreWords xs ws
IsComposedAs (Ok xs) (Err f) = ⊥
IsComposedAs (Err e) (Ok ws) = ⊥
IsComposedAs (Err e) (Err f) = e ≡ f

-- where merges stand for those of the code, so do their compositions
abbrev pub ComposesAlike : Type 0
ComposesAlike =
    (g : CodeRun) (words : Merges ℕ) → AreMergesOf g words
    → (es : List (Entry (Word ℕ))) (xs : List (Word ℕ)) (fs : List (Entry ℕ)) (us : List ℕ)
    → AreJoined (location_kinds g.code.vars) es xs fs us
    → IsComposedAs (composed (merges g) xs es) (composed words us fs)
