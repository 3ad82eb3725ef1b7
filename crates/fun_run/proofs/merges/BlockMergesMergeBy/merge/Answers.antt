-- Answers of BlockMerges::merge: the three words are the block's arguments, so evaluate gives the location's merge.
use Rattle.std.proofs.Common.{◌∙◌, ◌<◌, [], ◌∷◌, Some, length, sym, ap, subst, arith}
use Rattle.std.specs.Prelude.{slice_get}
use Rattle.rev_code.specs.Step.{value_at}
use Rattle.rev_code.specs.Funs.{values}
use Rattle.code_verifier.proofs.Tries.{get_or_some}
use Rattle.block_run.proofs.Tables.{table_law}
use Rattle.fun_run.specs.Merging.{ServesMerges, int_word, merged_words}
use Rattle.fun_run.proofs.Blocks.{answer_is, has_room, merges_many, of_value, three_words}
use Rattle.fun_run.proofs.merges.BlockMergesMergeBy.merge.Goals as goal

pub index-requires : goal.index-requires
index-requires c =
    let few = c.requires in
    let many = merges_many c.args.self.now.code.now.vars in
    let listed = ap length c.args.self.now.listed in
    let long = c.args.self.now.blocks.ok.0 in omega (arith, few, many, listed, long)

pub evaluate-requires-clause-table : goal.evaluate-requires-clause-table
evaluate-requires-clause-table c =
    table_law c.args.self.now.code.now c.args.self.now.accepted c.as_slice.result.now
    (c.as_slice.ensures.value ∙ c.args.self.now.variables)

pub evaluate-requires-clause-value : goal.evaluate-requires-clause-value
evaluate-requires-clause-value c =
    let within : c.args.location < length c.args.self.now.blocks.items = (
    let few = c.requires in
    let many = merges_many c.args.self.now.code.now.vars in
    let listed = ap length c.args.self.now.listed in omega (arith, few, many, listed)
    ) in
    let there =
    ap (λ xs. slice_get xs c.args.location) (sym c.args.self.now.listed)
    ∙ get_or_some c.args.self.now.blocks.items c.args.location c.index.result.now within c.index.ensures
    ∙ ap Some c.in-Some.is in
    of_value c.args.self.now.code.now c.args.self.now.accepted c.args.location c.in-Some.n there

pub evaluate-requires-clause-room : goal.evaluate-requires-clause-room
evaluate-requires-clause-room c =
    let within : c.args.location < length c.args.self.now.blocks.items = (
    let few = c.requires in
    let many = merges_many c.args.self.now.code.now.vars in
    let listed = ap length c.args.self.now.listed in omega (arith, few, many, listed)
    ) in
    let there =
    ap (λ xs. slice_get xs c.args.location) (sym c.args.self.now.listed)
    ∙ get_or_some c.args.self.now.blocks.items c.args.location c.index.result.now within c.index.ensures
    ∙ ap Some c.in-Some.is in
    let value = of_value c.args.self.now.code.now c.args.self.now.accepted c.args.location c.in-Some.n there in
    let same = c.put_three.auto.words ∙ c.as_mut_slice-words.ensures.len in
    has_room c.args.self.now.code.now c.args.self.now.sound c.in-Some.n (length c.put_three.new.words) value
    (subst (ServesMerges c.args.self.now.code.now) (sym same) c.args.self.now.room)

pub evaluate-requires-clause-args : goal.evaluate-requires-clause-args
evaluate-requires-clause-args c =
    let within : c.args.location < length c.args.self.now.blocks.items = (
    let few = c.requires in
    let many = merges_many c.args.self.now.code.now.vars in
    let listed = ap length c.args.self.now.listed in omega (arith, few, many, listed)
    ) in
    let there =
    ap (λ xs. slice_get xs c.args.location) (sym c.args.self.now.listed)
    ∙ get_or_some c.args.self.now.blocks.items c.args.location c.index.result.now within c.index.ensures
    ∙ ap Some c.in-Some.is in (
      _,
      three_words c.args.self.now.code.now c.args.self.now.accepted c.args.location c.in-Some.n there c.args.main
          c.args.join c.args.root c.ranges.main.fits c.ranges.join.fits c.ranges.root.fits c.put_three.new.words
          c.put_three.ensures,
    )

pub returns-in-None-clause-value : goal.returns-in-None-clause-value
returns-in-None-clause-value c =
    let within : c.args.location < length c.args.self.now.blocks.items = (
    let few = c.requires in
    let many = merges_many c.args.self.now.code.now.vars in
    let listed = ap length c.args.self.now.listed in omega (arith, few, many, listed)
    ) in
    let there =
    ap (λ xs. slice_get xs c.args.location) (sym c.args.self.now.listed)
    ∙ get_or_some c.args.self.now.blocks.items c.args.location c.index.result.now within c.index.ensures
    ∙ ap Some c.in-None.is in
    sym (ap (λ o. merged_words c.args.self.now.code.now o c.args.main c.args.join c.args.root) there)

pub returns-in-Some-clause-value : goal.returns-in-Some-clause-value
returns-in-Some-clause-value c =
    let within : c.args.location < length c.args.self.now.blocks.items = (
    let few = c.requires in
    let many = merges_many c.args.self.now.code.now.vars in
    let listed = ap length c.args.self.now.listed in omega (arith, few, many, listed)
    ) in
    let there =
    ap (λ xs. slice_get xs c.args.location) (sym c.args.self.now.listed)
    ∙ get_or_some c.args.self.now.blocks.items c.args.location c.index.result.now within c.index.ensures
    ∙ ap Some c.in-Some.is in
    let args = int_word c.args.main ∷ int_word c.args.join ∷ int_word c.args.root ∷ [] in
    let given =
    three_words c.args.self.now.code.now c.args.self.now.accepted c.args.location c.in-Some.n there c.args.main
    c.args.join c.args.root c.ranges.main.fits c.ranges.join.fits c.ranges.root.fits c.put_three.new.words
    c.put_three.ensures in
    answer_is (value_at (slice_get (values c.args.self.now.code.now) c.in-Some.n) args) c.evaluate.result
    (c.evaluate.ensures.value args given)
    ∙ sym (ap (λ o. merged_words c.args.self.now.code.now o c.args.main c.args.join c.args.root) there)
