-- Answers of parts_of: each note popped from the end gives the part of its number, and none is left at last.
use Rattle.std.proofs.Common.{◌≡◌, ◌∙◌, ◌++◌, length, take, ap, arith, subst, sym}
use Rattle.std.proofs.lemmas.List.{take_all}
use Rattle.std.specs.List.Sorted.{IsPermutation}
use Rattle.rev_vm.specs.Starts.{run_under}
use Rattle.rev_code.specs.declared.code.Code.{Code}
use Rattle.code_soundness.specs.Typed.{location_kinds}
use Rattle.revision_machine.specs.Numbered.{paths_of}
use Rattle.code_traces.specs.Parts.{places}
use Rattle.code_traces.specs.NotedParts.{noted_part, world_parts}
use Rattle.code_traces.proofs.Making.{is_the_part, last_of, none_left, none_yet, one_more}
use Rattle.code_traces.proofs.listing.parts_of.Goals as goal
use Rattle.code_world.proofs.Rows.{more_length}

pub loop-noted-init : goal.loop-noted-init
loop-noted-init c = record {
  left = sym (take_all (length c.args.notes.items) c.args.notes.items (omega arith));
  parts = λ w names noted over.
      let many = noted.count in
      none_yet (run_under c.args.setting.now) w c.in_ok-parts.parts.items (length c.args.notes.items)
      (c.in_ok-parts.ensures).items (omega (arith, many));
}

pub part_noted-requires-clause-names : goal.part_noted-requires-clause-names
part_noted-requires-clause-names c = c.requires.names

pub part_noted-requires-clause-ended : goal.part_noted-requires-clause-ended
part_noted-requires-clause-ended c =
    let left =
    sym c.in-Some.ensures.items ∙ c.loop-noted.invariant.left
    ∙ ap (λ l. take (length l) c.args.notes.items) c.in-Some.ensures.items in
    c.requires.ended (length c.pop.new.self.items) c.in-Some.noted
    (last_of c.args.notes.items c.pop.new.self.items c.in-Some.noted left).1

pub loop-noted-preserved : goal.loop-noted-preserved
loop-noted-preserved c =
    let g = run_under c.args.setting.now in
    let left =
    sym c.in-Some.ensures.items ∙ c.loop-noted.invariant.left
    ∙ ap (λ l. take (length l) c.args.notes.items) c.in-Some.ensures.items in
    let last = last_of c.args.notes.items c.pop.new.self.items c.in-Some.noted left in
    let number : c.len-number.result ≡ length c.pop.new.self.items = c.len-number.ensures ∙ c.pop.new.self.ok.0 in
    record {
      left = last.0;
      parts = λ w names noted over.
          let ended = c.requires.ended (length c.pop.new.self.items) c.in-Some.noted last.1 in
          let k = is_the_part g w c.args.notes.items noted over (length c.pop.new.self.items) c.in-Some.noted ended.0
          last.1 ended.1 in
          let made = c.in_ok-part.ensures (paths_of w) ended.0 names ended.1
          ∙ (λ i. noted_part ((c.deref.ensures.value ∙ c.in_ok-places.ensures
          ∙ ap places (c.as_slice.ensures ∙ ap (λ (z : Code). z.vars) c.code.ensures.code))
          i)
          ((c.deref-in-Some.ensures.value ∙ c.in_ok-kinds.ensures
          ∙ ap location_kinds (c.as_slice-2.ensures ∙ ap (λ (z : Code). z.vars) c.code-2.ensures.code))
          i)
          (paths_of w) (number i) c.in-Some.noted.meetings.items ended.0)
          ∙ k.3 in
          one_more g w c.loop-noted.parts.items (length c.pop.new.self.items) k.0 k.1 c.in_ok-part.part
          c.push.new.self.items k.2 made (c.in_ok-push.ensures).items
          (subst (λ n. IsPermutation (world_parts g w) (c.loop-noted.parts.items ++ take n (world_parts g w)))
          (ap length c.in-Some.ensures.items ∙ more_length c.pop.new.self.items c.in-Some.noted)
          (c.loop-noted.invariant.parts w names noted over));
    }

pub returns : goal.returns
returns c = λ w names noted over.
    none_left (run_under c.args.setting.now) w c.loop-noted.parts.items (length c.loop-noted.rest.items)
    (sym c.loop-noted.rest.ok.0 ∙ c.in_default.ensures.cases.0) (c.loop-noted.invariant.parts w names noted over)
