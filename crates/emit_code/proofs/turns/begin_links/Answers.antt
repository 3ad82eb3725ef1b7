-- Answers of begin_links: the first link works or decides, and its tasks with those of the rest are all the links.
use Rattle.std.proofs.Common.{◌≡◌, ◌∙◌, ◌++◌, ◌∷◌, [], ap, sym, length}
use Rattle.rev_syntax.specs.Trees as t
use Rattle.rev_syntax.specs.View.{expression, links}
use Rattle.typed_programs.proofs.Declared.{no_elements}
use Rattle.typed_programs.proofs.Shapes.{links-first}
use Rattle.emit_code.specs.Naming.{numbers_of}
use Rattle.emit_code.specs.Work.{deciding, whole, linked, decided}
use Rattle.emit_code.proofs.Forms.{no_more_links, linked-code, links_worked, links_decided}
use Rattle.emit_code.proofs.turns.begin_links.Goals as goal

pub returns-in_default-clause-meaning : goal.returns-in_default-clause-meaning
returns-in_default-clause-meaning c =
    let n = numbers_of c.args.known.now.numbers.now in let s = c.args.known.now.scope.now in
    no_more_links n s c.args.code.now.items ∙ sym (linked-code n s t.no_links c.args.code.now.items)
    ∙ ap (λ ls. linked n s (links ls) c.args.code.now.items)
    (sym (no_elements c.args.all.now c.in_default.ensures.cases))

pub returns-in-Works-clause-meaning : goal.returns-in-Works-clause-meaning
returns-in-Works-clause-meaning c =
    let n = numbers_of c.args.known.now.numbers.now in let s = c.args.known.now.scope.now in
    let l = c.in-Some.link.now in let r = c.in-Some.rest.now in let code = c.args.code.now.items in
    links_worked n s l.op (expression l.part) (links r) c.in-Works.by code c.in-Works.ensures
    ∙ sym (linked-code n s (t.link l.op (expression l.part) (links r)) code)
    ∙ ap (λ ls. linked n s ls code) (sym (ap links c.in-Some.ensures.cases.0 ∙ links-first l r))

pub returns-in_ok-put-in-Decided-clause-meaning : goal.returns-in_ok-put-in-Decided-clause-meaning
returns-in_ok-put-in-Decided-clause-meaning c =
    let n = numbers_of c.args.known.now.numbers.now in let s = c.args.known.now.scope.now in
    let l = c.in-Some.link.now in let r = c.in-Some.rest.now in let code = c.args.code.now.items in
    let put : c.put.new.code.items ≡ code ++ deciding c.in-Decided.by 0 ∷ [] =
    c.in_ok-put-in-Decided.ensures ∙ ap (λ x. code ++ x ∷ []) c.decides.ensures in
    ap (λ k. linked n s (links r) (decided n s k c.in-Decided.by (whole n s (expression l.part) c.put.new.code.items)))
    (c.len-test.ensures ∙ c.args.code.now.ok.0)
    ∙ ap (λ k. linked n s (links r) (decided n s (length code) c.in-Decided.by (whole n s (expression l.part) k))) put
    ∙ links_decided n s l.op (expression l.part) (links r) c.in-Decided.by code c.in-Decided.ensures
    ∙ sym (linked-code n s (t.link l.op (expression l.part) (links r)) code)
    ∙ ap (λ ls. linked n s ls code) (sym (ap links c.in-Some.ensures.cases.0 ∙ links-first l r))
