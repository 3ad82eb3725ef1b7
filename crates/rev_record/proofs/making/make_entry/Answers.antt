-- `make_entry`: its parts are those of which the machine tells.
use Rattle.std.proofs.Common.{◌∙◌, [], ap, arith, length, refl, sym, subst}
use Rattle.revision_machine.specs.Numbered.{or_path, path_in}
use Rattle.version_map.specs.Deltas.{at}
use Rattle.rev_vm.specs.Starts.{run_under}
use Rattle.rev_record.specs.Words.{HasGiven, args_of, count_of, written_of}
use Rattle.rev_record.proofs.EntryOfLeaf.{made_stands, read_same}
use Rattle.rev_record.proofs.Words.{args_room, args_there}
use Rattle.rev_record.proofs.making.make_entry.Goals as goal

pub args_values-requires-clause-many : goal.args_values-requires-clause-many
args_values-requires-clause-many c =
    let r = c.requires.begins in
    let h = args_room c.args.setting.now.code r.0 r.1 c.args.start.now r.2 c.block.result.now c.block.ensures in
    let p = ap length c.as_slice.ensures.value in
    let q = ap length c.as_slice-kinds.ensures in
    omega (arith, h, p, q)

pub returns : goal.returns
returns c = λ t f e names there b told.
    let vars = c.as_slice-variables.ensures ∙ ap (λ z. z.vars) c.code.ensures.code in
    made_stands (run_under c.args.setting.now) t f c.args.start.now b c.args.noted.now c.args.end.now e told
    (args_of (path_in t) c.as_slice-kinds.result.now c.as_slice.result.now)
    (args_there c.args.setting.now.code t f c.args.start.now b c.block.result.now c.block.ensures
    c.as_slice-kinds.result.now c.as_slice.result.now c.as_slice-kinds.ensures c.as_slice.ensures.value)
    _ (record {
      path = c.in_ok-path.ensures t names ∙ ap (λ o. or_path o []) there;
      block = refl;
      args_are = c.from_vec.ensures ∙ c.in_ok-args.ensures t names;
      fuel = refl;
      locations = read_same (path_in t) (at c.args.noted.now.locations) c.as_slice-variables.result.now
          c.args.setting.now.code.vars c.as_slice-base.result.now c.args.start.now.base.items
          c.in_ok-locations.locations.items c.from_vec-2.result vars c.as_slice-base.ensures.value
          (sym c.from_vec-2.ensures) (c.in_ok-locations.ensures t names);
      positions = subst (λ z. HasGiven (at c.args.noted.now.inputs) z (length z) c.from_vec-3.result) c.inputs.ensures
          (subst (HasGiven (at c.args.noted.now.inputs) c.inputs.result.now (length c.inputs.result.now))
          (sym c.from_vec-3.ensures) c.in_ok-inputs.ensures);
      count = c.count_read.ensures ∙ ap (count_of c.args.noted.now.count) c.inputs-2.ensures;
      written = c.from_vec-4.ensures ∙ c.in_ok-written.ensures t names
          ∙ ap (λ z. written_of (path_in t) z c.as_slice-2.result.now) vars
          ∙ ap (written_of (path_in t) c.args.setting.now.code.vars) c.as_slice-2.ensures;
      text = c.from_vec-5.ensures ∙ (c.in_ok-text.ensures).items ∙ c.as_slice-3.ensures;
      rest = refl;
      end = c.end_so.ensures;
    })
