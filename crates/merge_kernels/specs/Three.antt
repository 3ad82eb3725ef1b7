-- Three merges.
--   sum_expression        m + j - r
--   greatest_expression   pick(j > m, j, m)
--   least_expression      pick(j < m, j, m)
use Rattle.rev_syntax.specs.Trees.{Expression, pick, chain, no_links, link}
use Rattle.rev_syntax.specs.declared.tree.BinaryOp.{BinaryOp}
use Rattle.rev_syntax.specs.declared.tree.BinaryOp.TheVariants as b
use Rattle.merge_kernels.specs.Terms.{bare, parameter, main_name, join_name, root_name}

abbrev pub m : Expression
m = parameter main_name

abbrev pub j : Expression
j = parameter join_name

abbrev pub r : Expression
r = parameter root_name

abbrev pub sum_expression : Expression
sum_expression = bare (chain m (link b.Add j (link b.Sub r no_links)))

abbrev pub compared_by : BinaryOp → Expression
compared_by op = bare (chain j (link op m no_links))

abbrev pub chosen_by : BinaryOp → Expression
chosen_by op = bare (pick (compared_by op) j m)

abbrev pub greatest_expression : Expression
greatest_expression = chosen_by b.Gt

abbrev pub least_expression : Expression
least_expression = chosen_by b.Lt
