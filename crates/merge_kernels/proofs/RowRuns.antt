-- Eights of written locations, behind one another, that are merged by one definition.
--   row_put       what was put of the values of eight triples of numbers is what was put of eight locations
--   one_more      an eight more is put
--   behind        an element behind some that are dropped
--   fewer_follow  the first of locations that follow each other
--   row_values    an equal definition has the values of fewer locations
--   run_values    where one definition was chosen for a run of locations, their merges are its values
use Rattle.std.proofs.Common.{◌≡◌, ◌∙◌, ap, sym, refl, ℕ, ℤ, zero, suc, ◌+◌, ◌<◌, ◌≤◌, true, List, [], ◌∷◌, length, take, drop, map, slice_get, Option, Some, option_map, option_and_then, arith}
use Rattle.std.proofs.lemmas.List.{length-take}
use Rattle.rev_num.specs.Words.{int_of, word_of}
use Rattle.rev_syntax.specs.Trees.{Expression}
use Rattle.version_map.specs.declared.end.Written.{Written}
use Rattle.version_map.specs.Composing.{Merges}
use Rattle.version_map.specs.Following.{Follow}
use Rattle.version_map.specs.Parts.{HasPut}
use Rattle.version_map.proofs.RowParts.{eight_part, put_more}
use Rattle.merge_kernels.specs.Equal.{equal}
use Rattle.merge_kernels.specs.Lanes.{lanes_answer}
use Rattle.merge_kernels.specs.Plans.{chosen_at, AreLike}
use Rattle.merge_kernels.specs.Rows.{HasPutRow, HasPutValues, AreValues}
use Rattle.merge_kernels.specs.Terms.{answer_of}
use Rattle.merge_kernels.specs.Words.{merged, merged_or, overlaid}
use Rattle.merge_kernels.proofs.Equality.{equal_is}
use Rattle.merge_kernels.proofs.RowWords.{row_is}

pub row_put : (e : Expression) (mains : List ℕ) (ws : List Written) (at : ℕ) (old new : List ℕ) (m j r : List ℤ)
    → m ≡ map int_of (take 8 (drop at mains)) → j ≡ map int_of (map (λ w. w.value) (take 8 (drop at ws)))
    → r ≡ map int_of (map (λ w. w.root) (take 8 (drop at ws)))
    → HasPutValues (lanes_answer (answer_of e) m j r) at old new → HasPutRow e mains ws at old new
row_put e mains ws at old new m j r em ej er (ints, is, put) = (
  map word_of ints,
  (λ i. option_map (map word_of) (lanes_answer (answer_of e) (sym em i) (sym ej i) (sym er i)))
      ∙ ap (option_map (map word_of)) is,
  put,
)

pub behind : (i k : ℕ) (ws : List Written) → slice_get (drop i ws) k ≡ slice_get ws (i + k)
behind zero k ws = let e : k ≡ 0 + k = omega arith in ap (slice_get ws) e
behind (suc i) k [] = refl
behind (suc i) k (w ∷ ws) = let e : suc (i + k) ≡ suc i + k = omega arith in behind i k ws ∙ ap (slice_get (w ∷ ws)) e

later_follow : (ws : List Written) (at first n i : ℕ) → Follow (drop at ws) first n → i + 8 ≤ n
    → Follow (drop (at + i) ws) (first + i) 8
later_follow ws at first n i follow room k w low is =
    let there : at + i + k ≡ at + (i + k) = omega arith in
    let so =
    follow (i + k) w (omega (arith, room, low))
    (behind at (i + k) ws ∙ (ap (slice_get ws) (sym there) ∙ (sym (behind (at + i) k ws) ∙ is))) in
    omega (arith, so)

pub fewer_follow : (ws : List Written) (first n m : ℕ) → Follow ws first n → m ≤ n → Follow ws first m
fewer_follow ws first n m follow few k w low is = follow k w (omega (arith, few, low)) is

pub row_values : (d e : Expression) (m : Merges ℕ) (first n few : ℕ) → equal d e ≡ true → AreValues e m first n
    → few ≤ n
    → AreValues d m first few
row_values d e m first n few same values less k low u v w =
    values k (omega (arith, less, low)) u v w ∙ ap (λ x. merged x u v w) (sym (equal_is d e same))

pub one_more : (e : Expression) (m : Merges ℕ) (mains : List ℕ) (ws : List Written) (at first n i : ℕ)
    (old mid new : List ℕ)
    → length mains ≡ length ws → at + n ≤ length ws → i + 8 ≤ n
    → Follow (drop at ws) first n → AreValues e m first n
    → HasPut m mains ws at i old mid → HasPutRow e mains ws (at + i) mid new
    → HasPut m mains ws at (i + 8) old new
one_more e m mains ws at first n i old mid new same room more follow values known (words, is, (long, put)) =
    let row =
    row_is e m (first + i) (take 8 (drop (at + i) mains)) (map (λ w. w.value) (take 8 (drop (at + i) ws)))
    (map (λ w. w.root) (take 8 (drop (at + i) ws)))
    (λ k low u v w.
    let few : k < 8 = omega (arith, low, length-take 8 (drop (at + i) mains)) in
    let there : first + i + k ≡ first + (i + k) = omega arith in
    ap (λ l. m l u v w) there ∙ values (i + k) (omega (arith, few, more)) u v w) in
    let part =
    eight_part true m mains ws (at + i) (first + i) (take 8 (drop (at + i) mains))
    (map (λ w. w.value) (take 8 (drop (at + i) ws))) (map (λ w. w.root) (take 8 (drop (at + i) ws))) (Some words)
    (omega (arith, same, room, more)) (omega (arith, room, more)) (later_follow ws at first n i follow more) refl refl
    refl
    (sym (row ∙ is)) in
    put_more m mains ws at i 8 old mid new words known part.1 put

pub run_values : (choices : List (Option ℕ)) (kernels : List Expression) (inner : Merges ℕ) (first most n : ℕ)
    (e : Expression)
    → (0 < most → AreLike choices first most) → chosen_at choices kernels first ≡ Some e → n ≤ most
    → AreValues e (overlaid choices kernels inner) first n
run_values choices kernels inner first most n e alike some few k low u v w =
    let like = alike (omega (arith, few, low)) in
    let chosen : chosen_at choices kernels (first + k) ≡ Some e =
    ap (option_and_then (slice_get kernels)) (like.1 k (omega (arith, few, low))) ∙ some in
    ap (λ o. merged_or o (inner (first + k)) u v w) chosen
