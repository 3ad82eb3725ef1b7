-- A row of words by one definition.
use Rattle.std.proofs.Common.{◌≡◌, ◌∙◌, ap, refl, ℕ, suc, ◌+◌, ◌<◌, List, [], ◌∷◌, length, map, Option, Some, None, option_map, Result, Ok, Err, ℤ, arith}
use Rattle.rev_num.specs.declared.value.NumFault.{NumFault}
use Rattle.rev_num.specs.Words.{int_of, word_of}
use Rattle.rev_syntax.specs.Trees.{Expression}
use Rattle.version_map.specs.Composing.{Merges}
use Rattle.version_map.specs.Eights.{and_words, merged_row}
use Rattle.merge_kernels.specs.Terms.{answer_of}
use Rattle.merge_kernels.specs.Lanes.{and_lanes, lanes_answer}
use Rattle.merge_kernels.specs.Plans.{IsRowFor}
use Rattle.merge_kernels.specs.Words.{word_answer, merged, merged_lanes, merged_or, overlaid}

step : (a : Result ℤ NumFault) (o : Option (List ℤ))
    → and_words (word_answer a) (option_map (map word_of) o) ≡ option_map (map word_of) (and_lanes a o)
step (Ok z) (Some xs) = refl
step (Ok z) None = refl
step (Err f) o = refl

pub row_is : (e : Expression) (m : Merges ℕ) (l : ℕ) (xs ys zs : List ℕ)
    → ((k : ℕ) → k < length xs → (u v w : ℕ) → m (l + k) u v w ≡ merged e u v w)
    → merged_row m l xs ys zs ≡ merged_lanes e xs ys zs
row_is e m l [] ys zs by = refl
row_is e m l (x ∷ xs) [] zs by = refl
row_is e m l (x ∷ xs) (y ∷ ys) [] by = refl
row_is e m l (x ∷ xs) (y ∷ ys) (z ∷ zs) by =
    let here : l ≡ l + 0 = omega arith in
    let one : m l x y z ≡ merged e x y z = ap (λ k. m k x y z) here ∙ by 0 (omega arith) x y z in
    let rest : merged_row m (l + 1) xs ys zs ≡ merged_lanes e xs ys zs =
    row_is e m (l + 1) xs ys zs
    (λ k h u v w.
    let there : l + 1 + k ≡ l + suc k = omega arith in ap (λ i. m i u v w) there ∙ by (suc k) (omega arith) u v w) in
    (λ i. and_words (one i) (rest i))
    ∙ step (answer_of e (int_of x) (int_of y) (int_of z))
    (lanes_answer (answer_of e) (map int_of xs) (map int_of ys) (map int_of zs))

-- where one definition was chosen for eight locations, their merges are its values
pub chosen_row : (choices : List (Option ℕ)) (kernels : List Expression) (inner : Merges ℕ) (first : ℕ) (e : Expression)
    (xs ys zs : List ℕ)
    → length xs ≡ 8 → IsRowFor choices kernels first e
    → merged_row (overlaid choices kernels inner) first xs ys zs ≡ merged_lanes e xs ys zs
chosen_row choices kernels inner first e xs ys zs eight chosen =
    row_is e (overlaid choices kernels inner) first xs ys zs
    (λ k h u v w. ap (λ o. merged_or o (inner (first + k)) u v w) (chosen k (omega (arith, eight, h))))
