-- A plan for code agrees with the merges of its merge blocks, and so its merges stand for those of the code.
use Rattle.std.proofs.Common.{◌≡◌, ◌∙◌, refl, ap, subst, ℕ, ◌<◌, ◌^◌, ℤ, List, Option, Some, None, Result, Ok, Err}
use Rattle.rev_num.specs.declared.value.NumFault.{NumFault}
use Rattle.rev_num.specs.declared.value.ValueKind.TheVariants as k
use Rattle.rev_num.specs.Words.{int_of}
use Rattle.rev_syntax.specs.Trees.{Expression}
use Rattle.rev_code.specs.declared.code.Code.{Code}
use Rattle.rev_code.specs.Words.{Word, int, bool, rev, kind_of}
use Rattle.code_soundness.specs.AcceptedCode.{IsAccepted, notes_of}
use Rattle.block_run.specs.Agreement.{IsWord}
use Rattle.block_run.proofs.Numbers.{int_fits}
use Rattle.code_machine.specs.Local.{CodeRun}
use Rattle.fun_run.specs.Merging.{AreMergesOf, IsMerged, word_merges, word_or_fault, merged_words}
use Rattle.fun_run.proofs.Blocks.{int_there}
use Rattle.merge_kernels.specs.Terms.{answer_of}
use Rattle.merge_kernels.specs.Plans.{chosen_at}
use Rattle.merge_kernels.specs.Words.{Agrees, merged, merged_or, overlaid, word_answer}
use Rattle.rev_workers.specs.Plans.{IsPlanFor, number_word}

word_is : (r : Result ℤ NumFault) → word_or_fault (number_word r) ≡ word_answer r
word_is (Ok z) = refl
word_is (Err f) = refl

pub agrees : (code : Code) (choices : List (Option ℕ)) (kernels : List Expression) → IsPlanFor code choices kernels
    → Agrees choices kernels (word_merges code)
agrees code choices kernels plan l e is u v w a b c =
    let p = plan.1 l e is in
    ap (λ o. merged_words code o u v w) p.1
    ∙ ap word_or_fault (p.2 (int_of u) (int_of v) (int_of w) (int_fits u a) (int_fits v b) (int_fits w c))
    ∙ word_is (answer_of e (int_of u) (int_of v) (int_of w))

below : (x : Word ℕ) (w : ℕ) → kind_of x ≡ k.Int → IsWord x w → w < 2 ^ 64
below (int z) w is h = h.0
below (bool b) w is h = absurd (let q : k.Bool ≡ k.Int = is in cc)
below (rev r) w is h = absurd (let q : k.Rev ≡ k.Int = is in cc)

by_choice : (o : Option Expression) (r : Result (Word ℕ) NumFault) (other : ℕ → ℕ → ℕ → Result ℕ NumFault) (u v w : ℕ)
    → IsMerged r (other u v w) → ((e : Expression) → o ≡ Some e → other u v w ≡ merged e u v w)
    → IsMerged r (merged_or o other u v w)
by_choice None r other u v w h agree = h
by_choice (Some e) r other u v w h agree = subst (λ x. IsMerged r x) (agree e refl) h

pub stands_too : (g : CodeRun) (choices : List (Option ℕ)) (kernels : List Expression)
    → IsAccepted g.code (notes_of g.code)
    → IsPlanFor g.code choices kernels → AreMergesOf g (word_merges g.code)
    → AreMergesOf g (overlaid choices kernels (word_merges g.code))
stands_too g choices kernels ok plan stands l kind at x y z u v w hx hy hz =
    by_choice (chosen_at choices kernels l) _ (word_merges g.code l) u v w (stands l kind at x y z u v w hx hy hz)
    (λ e is.
    let p = plan.1 l e is in
    let i = int_there g.code ok l p.0 kind p.1 at in
    agrees g.code choices kernels plan l e is u v w (below x u (hx.of_kind ∙ i) hx.word)
    (below y v (hy.of_kind ∙ i) hy.word) (below z w (hz.of_kind ∙ i) hz.word))
