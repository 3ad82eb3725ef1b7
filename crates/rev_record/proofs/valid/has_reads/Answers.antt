-- `has_reads`: of the code of the setting and the snapshot of the start.
use Rattle.std.proofs.Common.{◌∙◌, ap}
use Rattle.code_runs.specs.Births.{path_in}
use Rattle.rev_record.proofs.Validity.{here_same}
use Rattle.rev_record.proofs.valid.has_reads.Goals as goal

pub returns : goal.returns
returns c = λ paths names.
    here_same (path_in paths) c.in_ok-kept.kept c.as_slice-variables.result.now c.args.setting.now.code.vars
    c.as_slice.result.now c.args.start.now.base.items
    c.as_slice-read.result.now c.args.entry.now.locations
    (c.as_slice-variables.ensures ∙ ap (λ z. z.vars) c.code.ensures.code) c.as_slice.ensures.value
    c.as_slice-read.ensures (c.in_ok-kept.ensures paths names)
