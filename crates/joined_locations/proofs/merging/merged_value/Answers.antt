-- Answers of merged_value: the bodies of merges are within the limits of a typed program, so each is light.
use Rattle.rev_syntax.specs.View.{program as whole}
use Rattle.typed_programs.proofs.DeclsWithin.{program_within}
use Rattle.joined_locations.proofs.LightMerges.{light_merge}
use Rattle.joined_locations.proofs.merging.merged_value.Goals as goal

pub merge_value-requires-clause-light : goal.merge_value-requires-clause-light
merge_value-requires-clause-light c =
    light_merge (whole c.args.typed.now.expanded.program) c.args.merge
    (program_within (whole c.args.typed.now.expanded.program) c.args.typed.now.well_typed)
