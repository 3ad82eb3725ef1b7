-- Answers of BlockMerges::of: code without a fault has few locations, and its tables and rooms serve all its blocks.
use Rattle.std.proofs.Common.{◌∙◌, length, ap, arith}
use Rattle.std.specs.Prelude.{slice_get}
use Rattle.code_soundness.proofs.Accepting.{no_fault_accepted}
use Rattle.block_run.proofs.Tables.{few_locations}
use Rattle.fun_run.proofs.Blocks.{given_for, merges_many, serves}
use Rattle.fun_run.proofs.merges.BlockMerges.of.Goals as goal

pub overflow_cast-len : goal.overflow_cast-len
overflow_cast-len c =
    let few = few_locations c.args.code.now (no_fault_accepted c.args.code.now c.requires) in
    let many = merges_many c.args.code.now.vars in
    let listed = ap length c.in_ok-blocks.ensures in
    let long = c.in_ok-blocks.blocks.ok.0 in
    let is = c.len.ensures in omega (arith, few, many, listed, long, is)

pub invariant_of-result : goal.invariant_of-result
invariant_of-result c = record {
  sound = c.requires;
  accepted = no_fault_accepted c.args.code.now c.requires;
  variables = c.in_ok-table.ensures.listed;
  listed = c.in_ok-blocks.ensures;
  three = (let l = c.in_ok-vec.ensures.len in let t = c.most_room-most.ensures.three in omega (arith, l, t));
  room =
      serves c.args.code.now c.in_ok-rooms.rooms.items c.in_ok-rooms.ensures _ (λ n room is.
      let l = c.in_ok-vec.ensures.len in
      let r = c.most_room-most.ensures.each n room (ap (λ xs. slice_get xs n) c.as_slice.ensures.value ∙ is) in
      omega (arith, l, r));
  locations = (
      let many = merges_many c.args.code.now.vars in
      let listed = ap length c.in_ok-blocks.ensures in
      let long = c.in_ok-blocks.blocks.ok.0 in
      let is = c.len.ensures in
      let blank = c.in_ok-memory.ensures in omega (arith, many, listed, long, is, blank)
      );
}

pub returns-clause-merges : goal.returns-clause-merges
returns-clause-merges c = λ g e. given_for c.args.code.now c.requires c.note_numbers.ensures g e
