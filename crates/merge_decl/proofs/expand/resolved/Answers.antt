-- Answers of resolved: the least broken rule is the first one, and where there is no least no use breaks a rule.
use Rattle.std.proofs.Common.{◌∙◌, ap, sym}
use Rattle.rev_syntax.specs.View.{program as whole}
use Rattle.typed_programs.specs.FunRules as rule
use Rattle.typed_programs.specs.Least.{least}
use Rattle.name_tables.specs.Table.{find}
use Rattle.merge_decl.specs.Uses.{uses_of}
use Rattle.typed_programs.proofs.Leasts.{first_is, none_is}
use Rattle.merge_decl.proofs.expand.resolved.Goals as goal

pub returns-in-Some-clause-err : goal.returns-in-Some-clause-err
returns-in-Some-clause-err c =
    λ _. first_is rule.place rule.rank
    (rule.broken_in (λ name. find name c.args.table.now) (rule.uses_in (whole c.args.program.now))) c.in-Some.fault
    (ap (λ us. least rule.place rule.rank (rule.broken_in (λ name. find name c.args.table.now) us))
    (sym (ap uses_of c.deref.ensures.value ∙ c.in_ok-uses.ensures))
    ∙ sym c.in-Some.ensures)

pub returns-clause-keeps : goal.returns-clause-keeps
returns-clause-keeps c =
    none_is rule.place rule.rank
    (rule.broken_in (λ name. find name c.args.table.now) (rule.uses_in (whole c.args.program.now)))
    (ap (λ us. least rule.place rule.rank (rule.broken_in (λ name. find name c.args.table.now) us))
    (sym (ap uses_of c.deref.ensures.value ∙ c.in_ok-uses.ensures))
    ∙ sym c.in_default.ensures)
