-- Answers of changes_of: each written location appends its change, and at the end no location is left.
use Rattle.std.proofs.Common.{◌∙◌, ◌++◌, [], ◌∷◌, ap, arith, map, refl}
use Rattle.rev_vm.specs.States.{entry_as}
use Rattle.code_traces.specs.Parts.{change_of, path_in}
use Rattle.code_traces.proofs.Loops.{read_done, all_done}
use Rattle.code_traces.proofs.parts.changes_of.Goals as goal

pub loop-one-init : goal.loop-one-init
loop-one-init c = λ paths names.
    ap (λ l. l
    ++ map (change_of (path_in paths) c.args.places.now) (map (entry_as c.args.kinds.now) c.args.written.now))
    (c.in_ok-changes.ensures).items

pub loop-one-preserved : goal.loop-one-preserved
loop-one-preserved c = λ paths names.
    read_done (λ ws. map (change_of (path_in paths) c.args.places.now) (map (entry_as c.args.kinds.now) ws))
    (λ x. change_of (path_in paths) c.args.places.now (entry_as c.args.kinds.now x) ∷ []) (λ x xs. refl)
    c.args.written.now c.loop-one.one-index _ c.loop-one.changes.items c.push.new.self.items
    (map (change_of (path_in paths) c.args.places.now) (map (entry_as c.args.kinds.now) c.args.written.now))
    c.loop-one-test.true
    ((c.in_ok-push.ensures).items ∙ ap (λ x. c.loop-one.changes.items ++ x ∷ []) (c.in_ok-change.ensures paths names))
    (c.loop-one.invariant paths names)

pub returns : goal.returns
returns c = λ paths names.
    all_done (λ ws. map (change_of (path_in paths) c.args.places.now) (map (entry_as c.args.kinds.now) ws))
    (λ x. change_of (path_in paths) c.args.places.now (entry_as c.args.kinds.now x) ∷ []) (λ x xs. refl)
    c.args.written.now c.loop-one.one-index refl c.loop-one.changes.items
    (map (change_of (path_in paths) c.args.places.now) (map (entry_as c.args.kinds.now) c.args.written.now))
    (let few = c.loop-one-test.false in omega (arith, few)) (c.loop-one.invariant paths names)
