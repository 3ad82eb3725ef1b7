-- Answers of Setting::callee: the table has the procedure's declaration, and else an empty one stands for it.
use Rattle.std.proofs.Common.{◌∙◌, ap}
use Rattle.rev_syntax.specs.View.{program as whole}
use Rattle.revision_state.specs.Tables.{params_of, body_of}
use Rattle.revision_state.proofs.Callees.{callee_found, callee_none}
use Rattle.revision_state.proofs.setting.Setting.callee.Goals as goal

pub returns-in-Some-clause-params : goal.returns-in-Some-clause-params
returns-in-Some-clause-params c =
    let p = whole c.args.self.now.typed.now.expanded.program in
    let at = callee_found p c.args.name.now c.in-Some.number
    (c.in-Some.ensures ∙ c.args.self.now.procedures_found c.args.name.now) in
    c.callee_of.ensures.params ∙ ap params_of c.declared.ensures ∙ at.params

pub returns-in-Some-clause-body : goal.returns-in-Some-clause-body
returns-in-Some-clause-body c =
    let p = whole c.args.self.now.typed.now.expanded.program in
    let at = callee_found p c.args.name.now c.in-Some.number
    (c.in-Some.ensures ∙ c.args.self.now.procedures_found c.args.name.now) in
    c.callee_of.ensures.body ∙ ap body_of c.declared.ensures ∙ at.body

pub returns-in-None-clause-params : goal.returns-in-None-clause-params
returns-in-None-clause-params c =
    let p = whole c.args.self.now.typed.now.expanded.program in
    let at = callee_none p c.args.name.now (c.in-None.ensures ∙ c.args.self.now.procedures_found c.args.name.now) in
    c.nothing.ensures.params ∙ at.params

pub returns-in-None-clause-body : goal.returns-in-None-clause-body
returns-in-None-clause-body c =
    let p = whole c.args.self.now.typed.now.expanded.program in
    let at = callee_none p c.args.name.now (c.in-None.ensures ∙ c.args.self.now.procedures_found c.args.name.now) in
    c.nothing.ensures.body ∙ at.body
