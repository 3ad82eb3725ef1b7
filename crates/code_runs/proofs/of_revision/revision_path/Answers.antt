-- `revision_path`: the paths of a world by its births.
use Rattle.std.proofs.Common.{◌∙◌, sym, ap}
use Rattle.std.proofs.lemmas.Result.{IfOk-weaker}
use Rattle.revision_machine.specs.Numbered.{paths_of}
use Rattle.code_runs.specs.Revisions.{path_at}
use Rattle.code_runs.proofs.InWorlds.{named, path_twice}
use Rattle.code_runs.proofs.of_revision.revision_path.Goals as goal

pub path_by-requires : goal.path_by-requires
path_by-requires c =
    let q = c.requires in
    let k = named q.0 c.args.world.now q.1 c.in-Live.field-0 c.in-Live.is q.2 c.births.result.now c.births.ensures in
    (paths_of k.entries, k.names)

pub returns-in-Live : goal.returns-in-Live
returns-in-Live c = IfOk-weaker c.path_by.result _ _ (λ o h g w is.
    let k = named g c.args.world.now w c.in-Live.field-0 c.in-Live.is is c.births.result.now c.births.ensures in
    h (paths_of k.entries) k.names ∙ sym (ap (λ z. path_at z c.args.revision) k.is)) c.path_by.ensures

pub returns-in-Twice : goal.returns-in-Twice
returns-in-Twice c = λ g w is. path_twice g c.args.world.now w c.in-Twice.is is c.args.revision
