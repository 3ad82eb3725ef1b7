-- Answers of take_over: the words are written, the run goes past its join, and gets the end's fuel and text.
use Rattle.std.proofs.Common.{◌∙◌, ◌++◌, ◌<◌, All, List, length, refl, sym, ap, subst}
use Rattle.version_map.specs.declared.end.Written.{Written}
use Rattle.version_map.specs.Ascending.{IsAscending}
use Rattle.version_map.specs.Deltas.{at}
use Rattle.version_map.specs.Overlay.{under}
use Rattle.rev_vm.specs.Writes.{HasWritten}
use Rattle.rev_vm.proofs.Boxes.{same_past, same_ready, same_wrote}
use Rattle.rev_vm.proofs.settling.take_over.Goals as goal

pub returns-in-Ok-clause-taken : goal.returns-in-Ok-clause-taken
returns-in-Ok-clause-taken g c = record {
  between = c.go_past.new.run;
  past = same_past c.deref_mut-inside.ensures.value c.args.is_try c.go_past.new.run c.go_past.ensures;
  registers = refl;
  words = refl;
  below = refl;
  forks = refl;
  meetings = refl;
  text = c.in-Ok.ensures ∙ ap (λ xs. c.go_past.new.run.text.items ++ xs) c.into_vec.ensures;
}

pub returns-in-Ok-clause-wrote : goal.returns-in-Ok-clause-wrote
returns-in-Ok-clause-wrote g c =
    let v = c.deref_mut-inside.result.now in
    let seen = under c.write_all.new.memory.delta (g.P.Snapshot.base c.write_all.new.memory.snapshot) in
    let root = at c.write_all.new.memory.first.roots in
    same_wrote c.deref_mut-inside.ensures.value c.args.end.written c.args.values.items seen root
    (subst (λ xs.
    HasWritten (g.P.Snapshot.size v.memory.snapshot) xs c.args.values.items
    (under v.memory.delta (g.P.Snapshot.base v.memory.snapshot)) (at v.memory.first.roots) seen root)
    c.as_slice.ensures
    (subst (λ xs.
    HasWritten (g.P.Snapshot.size v.memory.snapshot) c.as_slice.result.now xs
    (under v.memory.delta (g.P.Snapshot.base v.memory.snapshot)) (at v.memory.first.roots) seen root)
    c.as_slice-2.ensures.value c.write_all.ensures.wrote))

pub returns-in-Ok-clause-size : goal.returns-in-Ok-clause-size
returns-in-Ok-clause-size g c = c.write_all.ensures.size
    ∙ ap (λ r. g.P.Snapshot.size r.memory.snapshot) c.deref_mut-inside.ensures.value

pub returns-in-Ok-clause-group : goal.returns-in-Ok-clause-group
returns-in-Ok-clause-group g c = c.write_all.ensures.group
    ∙ ap (λ r. g.P.Snapshot.group r.memory.snapshot) c.deref_mut-inside.ensures.value

pub returns-in-Ok-clause-answered : goal.returns-in-Ok-clause-answered
returns-in-Ok-clause-answered g c = λ k a. c.write_all.ensures.answered k
    (subst (λ r. g.P.Snapshot.answered r.memory.snapshot k) (sym c.deref_mut-inside.ensures.value) a)

pub returns-clause-broken_answered : goal.returns-clause-broken_answered
returns-clause-broken_answered g c = λ k a.
    subst (λ s. g.P.Snapshot.answered s k) (sym c.break_off.ensures)
    (c.write_all.ensures.answered k
    (subst (λ r. g.P.Snapshot.answered r.memory.snapshot k) (sym c.deref_mut-inside.ensures.value) a))

pub returns-clause-broken : goal.returns-clause-broken
returns-clause-broken g c = ap g.P.Snapshot.group c.break_off.ensures
    ∙ (c.write_all.ensures.group
    ∙ ap (λ r. g.P.Snapshot.group r.memory.snapshot) c.deref_mut-inside.ensures.value)

pub write_all-requires-clause-within : goal.write_all-requires-clause-within
write_all-requires-clause-within g c = subst (λ r.
    All (λ (w : Written). w.location < g.P.Snapshot.size r.memory.snapshot) c.as_slice.result.now)
    (sym c.deref_mut-inside.ensures.value) (subst (λ (ws : List Written).
    All (λ (w : Written). w.location < g.P.Snapshot.size c.args.revision.value.memory.snapshot) ws)
    (sym c.as_slice.ensures) c.requires.within)

pub write_all-requires-clause-ascending : goal.write_all-requires-clause-ascending
write_all-requires-clause-ascending g c = subst IsAscending (sym c.as_slice.ensures) c.args.end.ascending

pub write_all-requires-clause-many : goal.write_all-requires-clause-many
write_all-requires-clause-many g c = ap length c.as_slice-2.ensures.value
    ∙ (c.requires.many ∙ sym (ap length c.as_slice.ensures))

pub go_past-requires : goal.go_past-requires
go_past-requires g c = same_ready (sym c.deref_mut-inside.ensures.value) c.requires.ready
