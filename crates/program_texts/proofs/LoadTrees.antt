-- The tree of the text of `load`, chunk by chunk, and that the parser reads it.
--
-- A tree is given by where the pieces of its chunk begin, by the names at pieces, and by the lines.
use Rattle.std.proofs.Common.{◌≡◌, ℕ, zero, suc, ◌+◌, List, [], ◌∷◌, ◌++◌, refl, ap, ◌∙◌}
use Rattle.std.specs.Prelude.{Option, Some, None, pos}
use Rattle.rev_num.specs.declared.value.ValueKind.TheVariants as kinds
use Rattle.rev_syntax.specs.Places.{line_of}
use Rattle.rev_syntax.specs.Trees as t
use Rattle.rev_syntax.specs.Trees.{PlacedName, Expression, PrintItem, Declaration}
use Rattle.rev_syntax.specs.Tokens.{Piece, array_size, tokens_of}
use Rattle.rev_syntax.specs.declared.tree.BinaryOp.TheVariants as b
use Rattle.rev_syntax.specs.declared.token.Token.{Token}
use Rattle.rev_syntax.specs.declared.token.Fixed.TheVariants as s
use Rattle.rev_expressions.specs.Outcome.{Outcome, Read}
use Rattle.rev_expressions.specs.Reader.{read, below}
use Rattle.rev_expressions.specs.Statements.{statement}
use Rattle.rev_expressions.specs.Declarations.{declaration}
use Rattle.rev_expressions.specs.Parse.{parse}
use Rattle.program_texts.proofs.Chunks.{Chunk, place, seen, named, HasPieces, as_named}
use Rattle.program_texts.proofs.LoadChunks.{Line, add_remainder, add_constant, set_product, statement_chunk, sum_line, most_line, a_line, b_line, v_line, let_line, step_line, go_lines, start_line, a_low, a_high, b_low, b_high, v_low, v_high}
use Rattle.rev_expressions.proofs.WholeGrammar.{whole_grammar}

-- ---- trees

module _ (q : ℕ → ℕ) (W : ℕ → PlacedName) (L : ℕ → ℕ) where
  abbrev pub sum_tree : Declaration
  sum_tree = t.merge (W 2) (W 4) (W 7) (W 10)
      (t.placed (q 15) (t.chain (t.placed (q 15) (t.var (W 15)))
      (t.link b.Add (t.placed (q 19) (t.var (W 19))) (t.link b.Sub (t.placed (q 23) (t.var (W 23))) t.no_links))))

  abbrev pub most_tree : Declaration
  most_tree = t.merge (W 2) (W 4) (W 7) (W 10)
      (t.placed (q 15) (t.pick (t.placed (q 17)
      (t.chain (t.placed (q 17) (t.var (W 17))) (t.link b.Gt (t.placed (q 21) (t.var (W 21))) t.no_links)))
      (t.placed (q 24) (t.var (W 24))) (t.placed (q 27) (t.var (W 27)))))

  -- an array of 16 ints, with this merge
  abbrev pub array_tree : Option PlacedName → Declaration
  array_tree by' = t.shared (record {
    name = W 2;
    by = by';
    kind_at = q 6;
    holds = kinds.Int;
    size = Some (record { at = q 8; cells = pos 16 });
    first = None;
  })

  abbrev pub let_tree : t.Statement
  let_tree = t.statement (q 0) (L 0) (t.bind (W 2) (t.plain (t.placed (q 6) (t.int (pos 0)))))

  abbrev pub while_test : Expression
  while_test = t.placed (q 2)
      (t.chain (t.placed (q 2) (t.var (W 2))) (t.link b.Lt (t.placed (q 6) (t.int (pos 50))) t.no_links))

  abbrev pub step_tree : t.Statement
  step_tree = t.statement (q 0) (L 0)
      (t.assign (W 0) (t.plain (t.placed (q 4)
      (t.chain (t.placed (q 4) (t.var (W 4))) (t.link b.Add (t.placed (q 8) (t.int (pos 1))) t.no_links)))))

  abbrev pub go_tree : Declaration
  go_tree =
      t.proc (W 2) (record { name = (W 4); kind_at = q 7; kind = kinds.Int } ∷ []) None
      (t.statements (t.statement (q 12) (L 12)
      (t.choose (t.arm (t.placed (q 14)
      (t.chain (t.placed (q 14) (t.var (W 14))) (t.link b.Gt (t.placed (q 18) (t.int (pos 0))) t.no_links)))
      (t.statements (t.statement (q 22) (L 22)
      (t.bind (W 24) (t.forked (q 28) (W 30) (t.expression (t.placed (q 32) (t.var (W 32))) t.no_expressions))))
      (t.statements (t.statement (q 36) (L 36)
      (t.call (W 38) (t.expression
      (t.placed (q 40)
      (t.chain (t.placed (q 40) (t.var (W 40))) (t.link b.Sub (t.placed (q 44) (t.int (pos 1))) t.no_links)))
      t.no_expressions)))
      (t.statements (t.statement (q 48) (L 48) (t.join (t.placed (q 50) (t.var (W 50))))) t.no_statements)))
      t.no_arms)))
      t.no_statements)

  abbrev pub start_tree : ℕ → t.Statement
  start_tree size' =
      t.statement (q 0) (L 0) (t.call (W 2) (t.expression (t.placed (q 4) (t.int (pos size'))) t.no_expressions))

  abbrev pub statement_tree : Line → t.Statement
  statement_tree (add_remainder x c) =
      t.statement (q 0) (L 0) (t.assign_cell (W 0) (t.placed (q 2) (t.int (pos x)))
      (t.placed (q 7) (t.chain (t.placed (q 7) (t.cell (W 7) (t.placed (q 9) (t.int (pos x)))))
      (t.link b.Add (t.placed (q 14)
      (t.chain (t.placed (q 14) (t.var (W 14)))
      (t.link b.Rem (t.placed (q 18)
      (t.chain (t.placed (q 19) (t.int (pos c))) (t.link b.Add (t.placed (q 23) (t.int (pos 1))) t.no_links)))
      t.no_links)))
      t.no_links))))
  statement_tree (add_constant x c) =
      t.statement (q 0) (L 0) (t.assign_cell (W 0) (t.placed (q 2) (t.int (pos x)))
      (t.placed (q 7) (t.chain (t.placed (q 7) (t.cell (W 7) (t.placed (q 9) (t.int (pos x)))))
      (t.link b.Add (t.placed (q 14) (t.int (pos c))) t.no_links))))
  statement_tree (set_product x c) =
      t.statement (q 0) (L 0) (t.assign_cell (W 0) (t.placed (q 2) (t.int (pos x)))
      (t.placed (q 7)
      (t.chain (t.placed (q 7) (t.var (W 7))) (t.link b.Mul (t.placed (q 11) (t.int (pos c))) t.no_links))))

  -- a cell of an array at a piece
  abbrev pub cell_item : ℕ → ℕ → PrintItem
  cell_item i m = t.shown (t.placed (q i) (t.cell (W i) (t.placed (q (i + 2)) (t.int (pos m)))))

  -- so many cells, from this piece and this cell on
  abbrev pub cell_items : ℕ → ℕ → ℕ → List PrintItem
  cell_items i m zero = []
  cell_items i m (suc n) = cell_item i m ∷ cell_items (i + 6) (m + 1) n

  abbrev pub print_tree : ℕ → t.Statement
  print_tree m = t.statement (q 0) (L 0) (t.print (cell_items 2 m 8))

-- ---- a chunk at its place

abbrev pub lines_at : List ℕ → ℕ → List Piece → ℕ → ℕ
lines_at bytes at ps i = line_of bytes (place at ps i)

-- what is read of a chunk with the names that the text has there is read with those that it spells
pub as_spelled : {A : Type 0} (bytes : List ℕ) (at : ℕ) (ps : List Piece) (o : Outcome Token A)
    (tree : (ℕ → PlacedName) → A) (rest : List Token)
    → HasPieces bytes at ps → o ≡ Read (tree (seen bytes at ps)) rest → o ≡ Read (tree (named at ps)) rest
as_spelled bytes at ps o tree rest has h = h ∙ ap (λ W. Read (tree W) rest) (as_named bytes at ps has)

module _ (bytes : List ℕ) (n at : ℕ) (rest : List Token) where
  pub read_sum : parse bytes (suc (suc n)) (declaration bytes) (tokens_of at sum_line.pieces ++ rest)
      ≡ Read (sum_tree (place at sum_line.pieces) (seen bytes at sum_line.pieces) (lines_at bytes at sum_line.pieces))
      rest
  unfolding read below whole_grammar
  read_sum = refl

  pub read_most : parse bytes (suc (suc n)) (declaration bytes) (tokens_of at most_line.pieces ++ rest)
      ≡ Read
      (most_tree (place at most_line.pieces) (seen bytes at most_line.pieces) (lines_at bytes at most_line.pieces)) rest
  unfolding read below whole_grammar
  read_most = refl

  pub read_a : parse bytes (suc (suc n)) (declaration bytes) (tokens_of at a_line.pieces ++ rest)
      ≡ Read (array_tree (place at a_line.pieces) (seen bytes at a_line.pieces) (lines_at bytes at a_line.pieces)
      (Some (seen bytes at a_line.pieces 13)))
      rest
  unfolding read below whole_grammar
  read_a = refl

  pub read_b : parse bytes (suc (suc n)) (declaration bytes) (tokens_of at b_line.pieces ++ rest)
      ≡ Read (array_tree (place at b_line.pieces) (seen bytes at b_line.pieces) (lines_at bytes at b_line.pieces)
      (Some (seen bytes at b_line.pieces 13)))
      rest
  unfolding read below whole_grammar
  read_b = refl

  pub read_v : parse bytes (suc (suc n)) (declaration bytes) (tokens_of at v_line.pieces ++ rest)
      ≡ Read (array_tree (place at v_line.pieces) (seen bytes at v_line.pieces) (lines_at bytes at v_line.pieces) None)
      rest
  unfolding read below whole_grammar
  read_v = refl

  pub read_let : parse bytes (suc (suc n)) (statement bytes) (tokens_of at let_line.pieces ++ rest)
      ≡ Read (let_tree (place at let_line.pieces) (seen bytes at let_line.pieces) (lines_at bytes at let_line.pieces))
      rest
  unfolding read below whole_grammar
  read_let = refl

  pub read_step : parse bytes (suc (suc n)) (statement bytes) (tokens_of at step_line.pieces ++ rest)
      ≡ Read
      (step_tree (place at step_line.pieces) (seen bytes at step_line.pieces) (lines_at bytes at step_line.pieces)) rest
  unfolding read below whole_grammar
  read_step = refl

  pub read_go : parse bytes (suc (suc (suc (suc n)))) (declaration bytes) (tokens_of at go_lines.pieces ++ rest)
      ≡ Read (go_tree (place at go_lines.pieces) (seen bytes at go_lines.pieces) (lines_at bytes at go_lines.pieces))
      rest
  unfolding read below whole_grammar
  read_go = refl

  pub read_start : (size' : ℕ)
      → parse bytes (suc (suc n)) (statement bytes) (tokens_of at (start_line size').pieces ++ rest)
      ≡ Read (start_tree (place at (start_line size').pieces) (seen bytes at (start_line size').pieces)
      (lines_at bytes at (start_line size').pieces) size')
      rest
  unfolding read below whole_grammar
  read_start size' = refl

  pub read_statement : (x : Line)
      → parse bytes (suc (suc n)) (statement bytes) (tokens_of at (statement_chunk x).pieces ++ rest)
      ≡ Read (statement_tree (place at (statement_chunk x).pieces) (seen bytes at (statement_chunk x).pieces)
      (lines_at bytes at (statement_chunk x).pieces) x)
      rest
  unfolding read below whole_grammar
  read_statement (add_remainder x c) = refl
  read_statement (add_constant x c) = refl
  read_statement (set_product x c) = refl

  abbrev IsPrint : Chunk → ℕ → Type 0
  IsPrint c m =
      parse bytes (suc (suc n)) (statement bytes) (tokens_of at c.pieces ++ rest)
      ≡ Read (print_tree (place at c.pieces) (seen bytes at c.pieces) (lines_at bytes at c.pieces) m) rest

  pub read_a_low : IsPrint a_low 0
  unfolding read below whole_grammar
  read_a_low = refl

  pub read_a_high : IsPrint a_high 8
  unfolding read below whole_grammar
  read_a_high = refl

  pub read_b_low : IsPrint b_low 0
  unfolding read below whole_grammar
  read_b_low = refl

  pub read_b_high : IsPrint b_high 8
  unfolding read below whole_grammar
  read_b_high = refl

  pub read_v_low : IsPrint v_low 0
  unfolding read below whole_grammar
  read_v_low = refl

  pub read_v_high : IsPrint v_high 8
  unfolding read below whole_grammar
  read_v_high = refl

-- ---- the statements of the loop, at their places

abbrev pub after : ℕ → List Line → ℕ
after at [] = at
after at (x ∷ xs) = after (at + array_size (statement_chunk x).pieces) xs

abbrev pub chunk_statement : List ℕ → ℕ → Line → t.Statement
chunk_statement bytes at x =
    statement_tree (place at (statement_chunk x).pieces) (named at (statement_chunk x).pieces)
    (lines_at bytes at (statement_chunk x).pieces) x

abbrev pub statement_trees : List ℕ → ℕ → List Line → List t.Statement → List t.Statement
statement_trees bytes at [] more = more
statement_trees bytes at (x ∷ xs) more =
    chunk_statement bytes at x ∷ statement_trees bytes (at + array_size (statement_chunk x).pieces) xs more
