-- What a proof unfolds to compute with the grammar of the language.
use Rattle.std.specs.Prelude.{⊤}
use Rattle.rev_expressions.specs.Grammar.{rank_sign, bracketed, choice, name, name_tail, primary, unary, product, sum, comparison, conjunction, expr, parens, index, arguments, parts}
use Rattle.rev_expressions.specs.Statements.{block, actual, application, right_side, item, assigned, assignment, arm, else_part, else_parts, let_form, if_form, while_form, call_form, return_form, fork_form, join_form, print_form, assert_form, statement, statements, body}
use Rattle.rev_expressions.specs.Declarations.{kind, constant, cells, size, first_value, param, params, names, formal, head, meaning, fun_form, merge_form, variable, versioned_form, cumulative_form, proc_form, declaration, declarations, program, inner}

unfoldable pub whole_grammar : ⊤
unfolding rank_sign bracketed choice name name_tail primary unary product sum comparison conjunction expr parens index
    arguments parts block actual application right_side item assigned assignment arm else_part else_parts let_form
    if_form while_form call_form return_form fork_form join_form print_form assert_form statement statements body kind
    constant cells size first_value param params names formal head meaning fun_form merge_form variable versioned_form
    cumulative_form proc_form declaration declarations program inner
whole_grammar = tt
