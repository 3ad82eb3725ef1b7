-- Answers of Kernel::put_ones: a location more is put, and one with a fault leaves what was put.
-- The box that is called is the one
-- that the facts are of.
use Rattle.std.proofs.Common.{rules, ◌≡◌, ◌∙◌, ◌+◌, ap, sym, refl, subst, ℤ, true, Ok, of_z, to_z, w64, arith}
use Rattle.std.proofs.lemmas.Int.{ints}
use Rattle.std.proofs.lemmas.List.{length-set}
use Rattle.version_map.specs.declared.end.Written.{Written}
use Rattle.version_map.proofs.RowParts.{none_put}
use Rattle.rev_num.specs.Arith.{fits_i64}
use Rattle.rev_num.specs.Words.{word_of}
use Rattle.merge_kernels.specs.Terms.{answer_of, definition}
use Rattle.merge_kernels.specs.Words.{word_answer}
use Rattle.merge_kernels.proofs.OneRuns.{location_more}
use Rattle.merge_kernels.proofs.kernel.Kernel.put_ones.Goals as goal

abbrev no_entry : Written
no_entry = record { location = 0; value = 0; root = 0 }

pub loop-k-init : goal.loop-k-init
loop-k-init g c = (refl, λ m first f v. none_put m c.args.mains.now c.args.written.now c.args.at c.args.values.now)

-- a number that is passed is as it was
passed : (z : ℤ) → fits_i64 z ≡ true → to_z w64 (of_z w64 z) ≡ z
passed z fits = grind (arith, ints)

pub loop-k-preserved : goal.loop-k-preserved
loop-k-preserved g c =
    let e = definition c.args.self.now.def in
    let main : fits_i64 c.int_of_word-main.result ≡ true = search rules in
    let join : fits_i64 c.int_of_word-join.result ≡ true = search rules in
    let root : fits_i64 c.int_of_word-root.result ≡ true = search rules in
    let back : fits_i64 c.in-Ok.value ≡ true = search rules in
    let m = passed c.int_of_word-main.result main in
    let j = passed c.int_of_word-join.result join in
    let r = passed c.int_of_word-root.result root in
    let posted =
    subst (λ p.
    (g.dyn-1.0.entry p.0).1.post p.1 (
      to_z w64 (of_z w64 c.int_of_word-main.result),
      (
        to_z w64 (of_z w64 c.int_of_word-join.result),
        (to_z w64 (of_z w64 c.int_of_word-root.result), tt {0}),
      ),
    ) c.call.result)
    c.deref_box-1.ensures.1 c.call.ensures.0 in
    let is =
    c.args.self.now.answers _ _ _ (ap fits_i64 m ∙ main) (ap fits_i64 j ∙ join) (ap fits_i64 r ∙ root) c.call.result
    posted in
    let word =
    ap Ok (c.word_of_int.ensures.value ∙ ap word_of (passed c.in-Ok.value back))
    ∙ (ap word_answer (sym c.in-Ok.is ∙ is)
    ∙ (λ i. word_answer (answer_of e ((m ∙ c.int_of_word-main.ensures.value) i)
    ((j ∙ c.int_of_word-join.ensures.value) i)
    ((r ∙ c.int_of_word-root.ensures.value) i)))) in (
      length-set c.loop-k.values (c.args.at + c.loop-k.k) c.word_of_int.result ∙ c.loop-k.invariant.0,
      λ m first f v.
          location_more e m c.args.mains.now c.args.written.now c.args.at first c.args.many
          c.loop-k.k 0 c.word_of_int.result no_entry c.args.values.now c.loop-k.values
          c.requires.mains (c.loop-k.invariant.0 ∙ c.requires.values) c.requires.inside (omega arith) f v
          word (c.loop-k.invariant.1 m first f v),
    )
