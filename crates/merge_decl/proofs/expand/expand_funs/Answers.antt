-- Answers of expand_funs: a refusal of the applications is handed on, and the table finds each name's first fun.
use Rattle.std.proofs.Common.{◌≡◌, ◌∙◌, ap, sym, subst, Result, Ok, Err, IfErr, map}
use Rattle.std.specs.Result.{IsErrAnd}
use Rattle.rev_syntax.specs.View.{declaration, program as whole}
use Rattle.typed_programs.specs.FunRules as rule
use Rattle.typed_programs.specs.Least.{IsFirst}
use Rattle.typed_programs.specs.Expands.{Refuses}
use Rattle.typed_programs.specs.declared.fun_fault.MergeFault.{MergeFault}
use Rattle.typed_programs.specs.declared.expanded.Expanded.{Expanded}
use Rattle.merge_decl.proofs.expand.expand_funs.Goals as goal

-- a refusal that is handed on
leaves : (P : MergeFault → Type 0) (e : MergeFault) (r : Result Expanded MergeFault) → IsErrAnd r (λ f. f ≡ e) → P e
    → IfErr r P
leaves P e (Ok x) h p = tt
leaves P e (Err f) h p = subst P (sym h) p

pub returns-in_err-uses-clause-first : goal.returns-in_err-uses-clause-first
returns-in_err-uses-clause-first c =
    leaves (Refuses (whole c.args.program)) c.in_err-uses.field-0.0 c.from_residual-in_err-uses.result
    c.from_residual-in_err-uses.ensures.1
    (λ other.
    subst (λ named.
    IsFirst rule.place rule.rank (rule.broken_in named (rule.uses_in (whole c.args.program))) c.in_err-uses.field-0.0)
    (λ i name.
    (c.in_ok-table.ensures name ∙ ap (λ ds. rule.first_fun 0 0 (map declaration ds) name) c.deref.ensures.value) i)
    (c.in_err-uses.ensures.err other))
