-- What a term stands for: an expression over three parameters, and so its value.
--   term           the expression of a term
--   definition     the expression of a merge's definition
--   value_of       its value for the joiner's, the joinee's and the root's number
--   answer_of      what a merge answers for it: the number, or the fault of arithmetic
use Rattle.std.specs.Prelude.{ℤ, List, [], ◌∷◌, map, Result}
use Rattle.rev_num.specs.declared.value.Value.TheVariants as v
use Rattle.rev_num.specs.declared.value.NumFault.{NumFault}
use Rattle.rev_syntax.specs.Trees as t
use Rattle.rev_syntax.specs.Trees.{Expression}
use Rattle.rev_syntax.specs.View.{links_of}
use Rattle.rev_syntax.specs.declared.tree.BinaryOp.{BinaryOp}
use Rattle.rev_syntax.specs.declared.tree.UnaryOp.TheVariants as u
use Rattle.name_tables.specs.Names.{Name}
use Rattle.typed_programs.specs.Value.{Answer, funs_of, inside, value_by}
use Rattle.typed_programs.specs.Evaluation.{merge_answer}
use Rattle.merge_kernels.specs.declared.term.Term.{Term, fold-Term}
use Rattle.merge_kernels.specs.declared.term.Term.TheOpen.{Term-F, TermLink-F}
use Rattle.merge_kernels.specs.declared.term.TermLink.{TermLink, fold-TermLink}
use Rattle.merge_kernels.specs.declared.term.MergeDef.{MergeDef}

-- the three parameters: m, j and r
abbrev pub main_name : Name
main_name = 109 ∷ []

abbrev pub join_name : Name
join_name = 106 ∷ []

abbrev pub root_name : Name
root_name = 114 ∷ []

-- an expression with no place
abbrev pub bare : t.ExpressionForm → Expression
bare s = t.placed 0 s

abbrev pub parameter : Name → Expression
parameter name = bare (t.var (record { at = 0; text = name }))

-- one level of a term, with the expressions of its parts in their places
abbrev pub term_level : Term-F Expression (BinaryOp × Expression) → Expression
term_level Term-F.Main = parameter main_name
term_level Term-F.Join = parameter join_name
term_level Term-F.Root = parameter root_name
term_level (Term-F.Int n) = bare (t.int n)
term_level (Term-F.Bool b) = bare (t.bool b)
term_level (Term-F.Neg part) = bare (t.unary u.Neg part.value)
term_level (Term-F.Not part) = bare (t.unary u.Not part.value)
term_level (Term-F.Pick test a b) = bare (t.pick test.value a.value b.value)
term_level (Term-F.Chain first rest) = bare (t.chain first.value (links_of rest.items))

abbrev pub link_level : TermLink-F Expression (BinaryOp × Expression) → BinaryOp × Expression
link_level l = (l.op, l.part)

abbrev pub term : Term → Expression
term = fold-Term Expression (BinaryOp × Expression) term_level link_level

abbrev pub term_link : TermLink → BinaryOp × Expression
term_link = fold-TermLink Expression (BinaryOp × Expression) term_level link_level

abbrev pub term_links : List TermLink → t.Links
term_links ls = links_of (map term_link ls)

abbrev pub definition : MergeDef → Expression
definition d = term d.body

abbrev pub params : List Name
params = main_name ∷ join_name ∷ root_name ∷ []

-- the value of an expression over the three parameters, which applies no fun
unfoldable pub value_of : Expression → (main join root : ℤ) → Answer
value_of e main join root =
    value_by (funs_of []) (inside params (v.Int main ∷ v.Int join ∷ v.Int root ∷ [])) e

unfoldable pub answer_of : Expression → (main join root : ℤ) → Result ℤ NumFault
answer_of e main join root = merge_answer (value_of e main join root)
