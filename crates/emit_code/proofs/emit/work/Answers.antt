-- Answers of work: a turn keeps the code that will stand when all tasks are done.
use Rattle.std.proofs.Common.{◌≡◌, ◌∙◌, ◌++◌, ◌∷◌, [], ap, sym, refl, arith, length}
use Rattle.typed_programs.proofs.Declared.{no_elements}
use Rattle.emit_code.specs.Naming.{numbers_of}
use Rattle.emit_code.specs.Work.{behind, done, left}
use Rattle.emit_code.proofs.Tasks.{behind-none, behind-only, behind-last, behind-steps, behind-grows, left-last, left-steps}
use Rattle.emit_code.proofs.emit.work.Goals as goal

pub loop-task-init : goal.loop-task-init
loop-task-init c =
    let n = numbers_of c.args.known.now.numbers.now in let s = c.args.known.now.scope.now in
    let is : c.push.new.self.items ≡ c.args.task ∷ [] =
    c.in_ok-push.ensures.items ∙ ap (λ l. l ++ c.args.task ∷ []) c.new-tasks.ensures.items in
    let h = ap (λ ts. length (behind n s ts c.args.code.now.items)) is in
    let o = ap length (behind-only n s c.args.task c.args.code.now.items) in
    let r = c.requires in
    record { comes = refl; few = omega (arith, h, o, r) }

pub turn-requires : goal.turn-requires
turn-requires c =
    let n = numbers_of c.args.known.now.numbers.now in let s = c.args.known.now.scope.now in
    let ts = c.pop.new.self.items in let code = c.loop-task.code.items in
    let popped : c.loop-task.tasks.items ≡ ts ++ c.in-Some.task ∷ [] = c.in-Some.ensures.items in
    let h = ap (λ l. length (behind n s l code)) popped in
    let b = ap length (behind-last n s ts c.in-Some.task code) in
    let g = behind-grows n s ts (done n s c.in-Some.task code) in
    let f = c.loop-task.invariant.few in
    omega (arith, h, b, g, f)

pub loop-task-smaller : goal.loop-task-smaller
loop-task-smaller c =
    let ts = c.pop.new.self.items in
    let popped : c.loop-task.tasks.items ≡ ts ++ c.in-Some.task ∷ [] = c.in-Some.ensures.items in
    let p = ap left popped in
    let l = left-last ts c.in-Some.task in
    let e = ap left c.in_ok-enter.ensures in
    let a = left-steps ts c.in_ok-steps.steps in
    let b = c.in_ok-steps.ensures.smaller in
    omega (arith, p, l, e, a, b)

pub loop-task-preserved : goal.loop-task-preserved
loop-task-preserved c =
    let n = numbers_of c.args.known.now.numbers.now in let s = c.args.known.now.scope.now in
    let ts = c.pop.new.self.items in let code = c.loop-task.code.items in let written = c.turn.new.code.items in
    let popped : c.loop-task.tasks.items ≡ ts ++ c.in-Some.task ∷ [] = c.in-Some.ensures.items in
    let same : behind n s c.enter.new.tasks.items written ≡ behind n s c.loop-task.tasks.items code =
    ap (λ l. behind n s l written) c.in_ok-enter.ensures
    ∙ behind-steps n s ts c.in_ok-steps.steps written
    ∙ ap (λ x. behind n s ts x) c.in_ok-steps.ensures.meaning
    ∙ sym (behind-last n s ts c.in-Some.task code)
    ∙ ap (λ l. behind n s l code) (sym popped) in
    let k = ap length same in
    let f = c.loop-task.invariant.few in
    record { comes = same ∙ c.loop-task.invariant.comes; few = omega (arith, k, f) }

pub returns : goal.returns
returns c =
    let n = numbers_of c.args.known.now.numbers.now in let s = c.args.known.now.scope.now in
    let code = c.loop-task.code.items in
    let l = c.loop-task.tasks.ok.0 in
    let k = c.in_default.ensures.cases.0 in
    let empty : c.loop-task.tasks.items ≡ [] = no_elements c.loop-task.tasks.items (omega (arith, l, k)) in
    let is : c.push.new.self.items ≡ c.args.task ∷ [] =
    c.in_ok-push.ensures.items ∙ ap (λ ts. ts ++ c.args.task ∷ []) c.new-tasks.ensures.items in
    sym (ap (λ ts. behind n s ts code) empty ∙ behind-none n s code)
    ∙ c.loop-task.invariant.comes
    ∙ ap (λ ts. behind n s ts c.args.code.now.items) is
    ∙ behind-only n s c.args.task c.args.code.now.items
