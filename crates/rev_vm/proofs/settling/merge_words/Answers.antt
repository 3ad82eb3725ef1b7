-- Answers of merge_words: reading keeps what memory shows, so the words seen are composed, by the same merges.
use Rattle.std.proofs.Common.{All, ◌<◌, List, sym, refl, subst}
use Rattle.std.proofs.lemmas.Result.{IfOk-from_err}
use Rattle.version_map.specs.declared.end.Written.{Written}
use Rattle.version_map.specs.Ascending.{IsAscending}
use Rattle.rev_vm.proofs.settling.merge_words.Goals as goal

pub read_all-requires-clause-within : goal.read_all-requires-clause-within
read_all-requires-clause-within g c = subst (λ (ws : List Written).
    All (λ (w : Written). w.location < g.P.Snapshot.size c.args.memory.now.snapshot) ws)
    (sym c.as_slice.ensures) c.requires.memory

pub read_all-requires-clause-ascending : goal.read_all-requires-clause-ascending
read_all-requires-clause-ascending g c = subst IsAscending (sym c.as_slice.ensures) c.args.end.now.ascending

pub returns-in_err-mains-clause-merged : goal.returns-in_err-mains-clause-merged
returns-in_err-mains-clause-merged g c = IfOk-from_err _ _ c.from_residual.ensures.0

pub returns-in_err-mains-clause-kept : goal.returns-in_err-mains-clause-kept
returns-in_err-mains-clause-kept g c = c.read_all.ensures.kept

pub returns-in_err-mains-clause-size : goal.returns-in_err-mains-clause-size
returns-in_err-mains-clause-size g c = c.read_all.ensures.size

pub returns-in_err-mains-clause-group : goal.returns-in_err-mains-clause-group
returns-in_err-mains-clause-group g c = c.read_all.ensures.group

pub returns-in_err-mains-clause-answered : goal.returns-in_err-mains-clause-answered
returns-in_err-mains-clause-answered g c = c.read_all.ensures.answered

pub returns-in_err-mains-clause-merges_size : goal.returns-in_err-mains-clause-merges_size
returns-in_err-mains-clause-merges_size g c = refl

pub returns-in_err-mains-clause-merges_same : goal.returns-in_err-mains-clause-merges_same
returns-in_err-mains-clause-merges_same g c = refl

pub returns-in_err-values-clause-merged : goal.returns-in_err-values-clause-merged
returns-in_err-values-clause-merged g c = IfOk-from_err _ _ c.from_residual-in_err-values.ensures.0

pub returns-in_err-values-clause-kept : goal.returns-in_err-values-clause-kept
returns-in_err-values-clause-kept g c = c.read_all.ensures.kept

pub returns-in_err-values-clause-size : goal.returns-in_err-values-clause-size
returns-in_err-values-clause-size g c = c.read_all.ensures.size

pub returns-in_err-values-clause-group : goal.returns-in_err-values-clause-group
returns-in_err-values-clause-group g c = c.read_all.ensures.group

pub returns-in_err-values-clause-answered : goal.returns-in_err-values-clause-answered
returns-in_err-values-clause-answered g c = c.read_all.ensures.answered

pub returns-in_err-values-clause-merges_size : goal.returns-in_err-values-clause-merges_size
returns-in_err-values-clause-merges_size g c = refl

pub returns-in_err-values-clause-merges_same : goal.returns-in_err-values-clause-merges_same
returns-in_err-values-clause-merges_same g c = refl

pub returns-in-Ok-clause-kept : goal.returns-in-Ok-clause-kept
returns-in-Ok-clause-kept g c = c.read_all.ensures.kept

pub returns-in-Ok-clause-size : goal.returns-in-Ok-clause-size
returns-in-Ok-clause-size g c = c.read_all.ensures.size

pub returns-in-Ok-clause-group : goal.returns-in-Ok-clause-group
returns-in-Ok-clause-group g c = c.read_all.ensures.group

pub returns-in-Ok-clause-answered : goal.returns-in-Ok-clause-answered
returns-in-Ok-clause-answered g c = c.read_all.ensures.answered

pub returns-in-Ok-clause-merges_size : goal.returns-in-Ok-clause-merges_size
returns-in-Ok-clause-merges_size g c = c.compose.ensures.size

pub returns-in-Ok-clause-merges_same : goal.returns-in-Ok-clause-merges_same
returns-in-Ok-clause-merges_same g c = c.compose.ensures.merges

pub returns-clause-kept : goal.returns-clause-kept
returns-clause-kept g c = c.read_all.ensures.kept

pub returns-clause-size : goal.returns-clause-size
returns-clause-size g c = c.read_all.ensures.size

pub returns-clause-group : goal.returns-clause-group
returns-clause-group g c = c.read_all.ensures.group

pub returns-clause-answered : goal.returns-clause-answered
returns-clause-answered g c = c.read_all.ensures.answered

pub returns-clause-merges_size : goal.returns-clause-merges_size
returns-clause-merges_size g c = c.compose.ensures.size

pub returns-clause-merges_same : goal.returns-clause-merges_same
returns-clause-merges_same g c = c.compose.ensures.merges

pub compose-requires-clause-within : goal.compose-requires-clause-within
compose-requires-clause-within g c = c.requires.merges
