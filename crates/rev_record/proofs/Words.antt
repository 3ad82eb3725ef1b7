-- Values of words, where these are the paths of the revisions by number.
use Rattle.std.proofs.Common.{◌≡◌, ◌∙◌, inl, ℕ, zero, suc, ◌≤◌, List, [], ◌∷◌, length, map, take, Some, None, refl, sym, ap, subst, arith}
use Rattle.std.specs.Prelude.{slice_get}
use Rattle.rev_num.specs.Path.{Path}
use Rattle.rev_num.specs.declared.value.Value.{Value}
use Rattle.rev_num.specs.declared.value.Value.TheVariants as v
use Rattle.rev_num.specs.declared.value.ValueKind.{ValueKind}
use Rattle.rev_num.proofs.Options.{none_some, some_eq}
use Rattle.rev_code.specs.declared.code.Code.{Code}
use Rattle.rev_code.specs.declared.code.CodeBlock.{CodeBlock}
use Rattle.rev_code.specs.declared.code.CodeVar.{CodeVar}
use Rattle.rev_code.specs.Words.{Word, int, bool, rev, kind_of}
use Rattle.code_rules.specs.Shapes.{kind_or_int}
use Rattle.code_soundness.specs.Typed.{location_kinds}
use Rattle.block_run.specs.Agreement.{AreWords}
use Rattle.revision_machine.specs.Laws.{IsIn}
use Rattle.revision_machine.specs.Numbered.{number_of, or_path, path_in}
use Rattle.revision_machine.proofs.Bearing.{in_front, in_back}
use Rattle.revision_machine.proofs.Numbers.{number_back}
use Rattle.code_machine.specs.Local.{of_word, of_words}
use Rattle.code_machine.specs.Outcome.{value_of}
use Rattle.code_machine.specs.Renamed.{renamed_word}
use Rattle.leg_run.specs.Standing.{word_as}
use Rattle.leg_run.proofs.Decoding.{word_of_kind}
use Rattle.code_memos.specs.Leaf.{Fresh}
use Rattle.code_world.specs.declared.freshness.FreshStart as rust
use Rattle.rev_record.specs.Begins.{IsWordAt, AreWordsAt, BeginsAt}
use Rattle.rev_record.specs.Standing.{value}
use Rattle.rev_record.specs.Words.{args_of, value_at}
use Rattle.rev_record.proofs.Lists.{heads, tails}

-- ---- a value has one word

unvalue : Value → Word Path
unvalue (v.Int z) = int z
unvalue (v.Bool b) = bool b
unvalue (v.Rev h) = rev h

unvalued : (w : Word Path) → unvalue (value w) ≡ w
unfolding unvalue
unvalued (int z) = refl
unvalued (bool b) = refl
unvalued (rev None) = refl
unvalued (rev (Some p)) = refl

pub one_word : (a b : Word Path) → value a ≡ value b → a ≡ b
one_word a b e = sym (unvalued a) ∙ ap unvalue e ∙ unvalued b

pub one_list : (us ws : List (Word Path)) → map value us ≡ map value ws → us ≡ ws
one_list [] [] e = refl
one_list [] (w ∷ ws) e = absurd (let z : [] ≡ value w ∷ map value ws = e in cc)
one_list (u ∷ us) [] e = absurd (let z : value u ∷ map value us ≡ [] = e in cc)
one_list (u ∷ us) (w ∷ ws) e =
    let x = one_word u w (heads (value u) (value w) (map value us) (map value ws) e) in
    let xs = one_list us ws (tails (value u) (value w) (map value us) (map value ws) e) in
    λ j. x j ∷ xs j

-- ---- the value of a word of a machine

module _ (t : List Path) where
  back : (q : Path) → IsIn q t → path_in t (number_of t q) ≡ q
  back q i = ap (λ o. or_path o []) (number_back t q i)

  named_value : (w : Word Path) → ((q : Path) → IsIn q (of_word w) → IsIn q t)
      → value_of (path_in t) (renamed_word (number_of t) w) ≡ value w
  named_value (int z) named = refl
  named_value (bool b) named = refl
  named_value (rev None) named = refl
  named_value (rev (Some q)) named = ap (λ p. v.Rev (Some p)) (back q (named q (inl refl)))

  pub value_there : (kind : ValueKind) (w : Word Path) (x : ℕ) → IsWordAt t kind w x
      → value_of (path_in t) (word_as kind x) ≡ value w
  value_there kind w x h =
      ap (value_of (path_in t)) (sym (word_of_kind (renamed_word (number_of t) w) x kind h.is.word h.is.of_kind))
      ∙ named_value w h.named

  -- ---- words of kinds

  pub words_at : (kinds : List ValueKind) (ws : List (Word Path)) (xs : List ℕ)
      → map kind_of (map (renamed_word (number_of t)) ws) ≡ kinds → AreWords (map (renamed_word (number_of t)) ws) xs
      → ((q : Path) → IsIn q (of_words ws) → IsIn q t) → AreWordsAt t kinds ws xs
  words_at [] [] [] e a named = tt
  words_at [] [] (x ∷ xs) e a named = absurd a
  words_at (k ∷ kinds) [] xs e a named = absurd (let z : [] ≡ k ∷ kinds = e in cc)
  words_at [] (w ∷ ws) xs e a named =
      absurd (let z : kind_of (renamed_word (number_of t) w) ∷ map kind_of (map (renamed_word (number_of t)) ws) ≡ [] =
      e in
      cc)
  words_at (k ∷ kinds) (w ∷ ws) [] e a named = absurd a
  words_at (k ∷ kinds) (w ∷ ws) (x ∷ xs) e a named = (
    record {
      is = record {
        of_kind = heads (kind_of (renamed_word (number_of t) w)) k (map kind_of (map (renamed_word (number_of t)) ws))
            kinds e;
        word = a.0;
      };
      named = λ q i. named q (in_front (of_word w) (of_words ws) q i);
    },
    words_at kinds ws xs
        (tails (kind_of (renamed_word (number_of t) w)) k (map kind_of (map (renamed_word (number_of t)) ws)) kinds e)
        a.1 (λ q i. named q (in_back (of_word w) (of_words ws) q i)),
  )

  pub words_many : (kinds : List ValueKind) (ws : List (Word Path)) (xs : List ℕ) → AreWordsAt t kinds ws xs
      → (length xs ≡ length kinds) × (length ws ≡ length kinds)
  words_many [] [] [] a = (refl, refl)
  words_many (k ∷ kinds) (w ∷ ws) (x ∷ xs) a = let h = words_many kinds ws xs a.1 in (ap suc h.0, ap suc h.1)
  words_many [] [] (x ∷ xs) a = absurd a
  words_many [] (w ∷ ws) xs a = absurd a
  words_many (k ∷ kinds) [] xs a = absurd a
  words_many (k ∷ kinds) (w ∷ ws) [] a = absurd a

  -- values of the first locals are those of the arguments
  pub args_are : (n : ℕ) (kinds : List ValueKind) (ws : List (Word Path)) (xs : List ℕ)
      → AreWordsAt t (take n kinds) ws xs → args_of (path_in t) kinds xs ≡ map value ws
  args_are zero [] [] [] a = refl
  args_are zero (k ∷ kinds) [] [] a = refl
  args_are (suc n) [] [] [] a = refl
  args_are (suc n) (k ∷ kinds) (w ∷ ws) (x ∷ xs) a =
      let z = value_there k w x a.0 in
      let zs = args_are n kinds ws xs a.1 in
      λ j. z j ∷ zs j
  args_are zero kinds [] (x ∷ xs) a = absurd a
  args_are zero kinds (w ∷ ws) xs a = absurd a
  args_are (suc n) [] [] (x ∷ xs) a = absurd a
  args_are (suc n) [] (w ∷ ws) xs a = absurd a
  args_are (suc n) (k ∷ kinds) [] xs a = absurd a
  args_are (suc n) (k ∷ kinds) (w ∷ ws) [] a = absurd a

  pub args_few : (n : ℕ) (kinds : List ValueKind) (ws : List (Word Path)) (xs : List ℕ)
      → AreWordsAt t (take n kinds) ws xs → length xs ≤ length kinds
  args_few zero kinds [] [] a = omega arith
  args_few (suc n) [] [] [] a = omega arith
  args_few (suc n) (k ∷ kinds) (w ∷ ws) (x ∷ xs) a = let h = args_few n kinds ws xs a.1 in omega (arith, h)
  args_few zero kinds [] (x ∷ xs) a = absurd a
  args_few zero kinds (w ∷ ws) xs a = absurd a
  args_few (suc n) [] [] (x ∷ xs) a = absurd a
  args_few (suc n) [] (w ∷ ws) xs a = absurd a
  args_few (suc n) (k ∷ kinds) [] xs a = absurd a
  args_few (suc n) (k ∷ kinds) (w ∷ ws) [] a = absurd a

  -- ---- at a location

  record IsThere (kinds : List ValueKind) (ws : List (Word Path)) (xs : List ℕ) (l : ℕ) : Type 0 where
    kind : ValueKind
    kind_is : slice_get kinds l ≡ Some kind
    word : Word Path
    word_is : slice_get ws l ≡ Some word
    number : ℕ
    number_is : slice_get xs l ≡ Some number
    at : IsWordAt t kind word number

  there : (kinds : List ValueKind) (ws : List (Word Path)) (xs : List ℕ) → AreWordsAt t kinds ws xs
      → (l : ℕ) (w : Word Path) → slice_get ws l ≡ Some w → IsThere kinds ws xs l
  there [] [] [] a l w e = none_some e
  there (k ∷ kinds) (w ∷ ws) (x ∷ xs) a zero u e =
      record { kind = k; kind_is = refl; word = w; word_is = refl; number = x; number_is = refl; at = a.0 }
  there (k ∷ kinds) (w ∷ ws) (x ∷ xs) a (suc l) u e =
      let h = there kinds ws xs a.1 l u e in
      record {
        kind = h.kind;
        kind_is = h.kind_is;
        word = h.word;
        word_is = h.word_is;
        number = h.number;
        number_is = h.number_is;
        at = h.at;
      }
  there [] [] (x ∷ xs) a l w e = absurd a
  there [] (u ∷ ws) xs a l w e = absurd a
  there (k ∷ kinds) [] xs a l w e = absurd a
  there (k ∷ kinds) (u ∷ ws) [] a l w e = absurd a

  word_there : (kinds : List ValueKind) (ws : List (Word Path)) (xs : List ℕ) → AreWordsAt t kinds ws xs → (l x : ℕ)
      → slice_get xs l ≡ Some x → (w : Word Path) × (slice_get ws l ≡ Some w)
  word_there [] [] [] a l x e = none_some e
  word_there (k ∷ kinds) (w ∷ ws) (y ∷ xs) a zero x e = (w, refl)
  word_there (k ∷ kinds) (w ∷ ws) (y ∷ xs) a (suc l) x e = word_there kinds ws xs a.1 l x e
  word_there [] [] (y ∷ xs) a l x e = absurd a
  word_there [] (w ∷ ws) xs a l x e = absurd a
  word_there (k ∷ kinds) [] xs a l x e = absurd a
  word_there (k ∷ kinds) (w ∷ ws) [] a l x e = absurd a

  -- the number of a location of a snapshot stands for its word
  pub record HasNumber (kinds : List ValueKind) (xs : List ℕ) (l : ℕ) (w : Word Path) : Type 0 where
    pub kind : ValueKind
    pub kind_is : slice_get kinds l ≡ Some kind
    pub number : ℕ
    pub number_is : slice_get xs l ≡ Some number
    pub at : IsWordAt t kind w number

  pub number_there : (kinds : List ValueKind) (ws : List (Word Path)) (xs : List ℕ) → AreWordsAt t kinds ws xs
      → (l : ℕ) (w : Word Path) → slice_get ws l ≡ Some w → HasNumber kinds xs l w
  number_there kinds ws xs a l w e =
      let h = there kinds ws xs a l w e in
      let same : h.word ≡ w = some_eq (sym h.word_is ∙ e) in
      record {
        kind = h.kind;
        kind_is = h.kind_is;
        number = h.number;
        number_is = h.number_is;
        at = subst (λ z. IsWordAt t h.kind z h.number) same h.at;
      }

  pub value_in : (vars : List CodeVar) (l : ℕ) (kind : ValueKind) → slice_get (location_kinds vars) l ≡ Some kind
      → (w : Word Path) (x : ℕ) → IsWordAt t kind w x → value_at (path_in t) vars l x ≡ value w
  value_in vars l kind is w x h =
      (let k = ap kind_or_int is in λ j. value_of (path_in t) (word_as (k j) x)) ∙ value_there kind w x h

  module _ (vars : List CodeVar) (ws : List (Word Path)) (xs : List ℕ) (a : AreWordsAt t (location_kinds vars) ws xs)
      (l : ℕ) where
    pub value_here : (w : Word Path) (x : ℕ) → slice_get ws l ≡ Some w → slice_get xs l ≡ Some x
        → value_at (path_in t) vars l x ≡ value w
    value_here w x e f =
        let h = number_there (location_kinds vars) ws xs a l w e in
        let same : h.number ≡ x = some_eq (sym h.number_is ∙ f) in
        ap (value_at (path_in t) vars l) (sym same) ∙ value_in vars l h.kind h.kind_is w h.number h.at

    pub seen : (w : Word Path) → slice_get ws l ≡ Some w
        → (x : ℕ) × (slice_get xs l ≡ Some x) × (value_at (path_in t) vars l x ≡ value w)
    seen w e =
        let h = number_there (location_kinds vars) ws xs a l w e in
        (h.number, h.number_is, value_here w h.number e h.number_is)

    pub seen_back : (x : ℕ) → slice_get xs l ≡ Some x
        → (w : Word Path) × (slice_get ws l ≡ Some w) × (value_at (path_in t) vars l x ≡ value w)
    seen_back x f = let h = word_there (location_kinds vars) ws xs a l x f in (h.0, h.1, value_here h.0 x h.1 f)

-- ---- the arguments of a revision

module _ (code : Code) (t : List Path) (f : Fresh Path) (x : rust.FreshStart) (b : BeginsAt code t f x)
    (body : CodeBlock) (is : slice_get code.blocks x.block ≡ Some body) where
  body_is : b.body ≡ body
  body_is = some_eq (sym b.is ∙ ap (slice_get code.blocks) (sym b.block) ∙ is)

  pub args_room : length x.args.items ≤ length body.locals
  args_room =
      let h = args_few t b.body.params b.body.locals f.args x.args.items b.args in
      let e = ap (λ (z : CodeBlock). length z.locals) body_is in
      omega (arith, h, e)

  pub args_there : (kinds : List ValueKind) (words : List ℕ) → kinds ≡ body.locals → words ≡ x.args.items
      → args_of (path_in t) kinds words ≡ map value f.args
  args_there kinds words k w =
      (let e = k ∙ ap (λ (z : CodeBlock). z.locals) (sym body_is) in λ j. args_of (path_in t) (e j) (w j))
      ∙ args_are t b.body.params b.body.locals f.args x.args.items b.args
