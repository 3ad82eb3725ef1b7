-- The parser reads the tree of the text of `load`.
use Rattle.std.proofs.Common.{◌≡◌, ℕ, suc, ◌+◌, ◌≤◌, Bool, true, false, List, [], ◌∷◌, ◌++◌, length, refl, ap, ◌∙◌, arith, length-append}
use Rattle.std.specs.Prelude.{Option, Some, None}
use Rattle.rev_num.specs.declared.value.ValueKind.{ValueKind}
use Rattle.rev_num.specs.declared.value.ValueKind.TheVariants as kinds
use Rattle.rev_syntax.specs.Trees as t
use Rattle.rev_syntax.specs.Trees.{PlacedName, Declaration, ProgramTree, Statements}
use Rattle.rev_syntax.specs.Tokens.{array_size, tokens_of}
use Rattle.rev_syntax.specs.View.{statements_of}
use Rattle.rev_syntax.specs.declared.token.Token.{Token}
use Rattle.rev_expressions.specs.Form.{both}
use Rattle.rev_expressions.specs.Outcome.{Outcome, Read, and_then}
use Rattle.rev_expressions.specs.Reader.{begins, read, below}
use Rattle.rev_syntax.specs.declared.token.Fixed.TheVariants as s
use Rattle.rev_expressions.specs.Grammar.{place as place_of}
use Rattle.rev_expressions.specs.Grammar.{alphabet, Rule, sign}
use Rattle.rev_expressions.specs.Statements.{block, statement, statements, body}
use Rattle.rev_expressions.specs.Declarations.{declaration, program}
use Rattle.rev_expressions.specs.Parse.{parse}
use Rattle.program_texts.proofs.Chunks.{Chunk, place, seen, named, HasPieces, HasIn, tokens_in}
use Rattle.program_texts.proofs.Parsing.{Rows, read_all}
use Rattle.program_texts.proofs.LoadChunks.{Line, add_remainder, add_constant, set_product, statement_chunk, statement_chunks, sum_line, most_line, a_line, b_line, v_line, work_line, let_line, while_line, step_line, end_line, main_line, go_lines, start_line, a_low, a_high, b_low, b_high, v_low, v_high, first_chunks, last_chunks}
use Rattle.program_texts.proofs.LoadTrees.{sum_tree, most_tree, array_tree, let_tree, while_test, step_tree, go_tree, start_tree, print_tree, statement_tree, lines_at, statement_trees, after, as_spelled, read_sum, read_most, read_a, read_b, read_v, read_let, read_step, read_go, read_start, read_statement, read_a_low, read_a_high, read_b_low, read_b_high, read_v_low, read_v_high}
use Rattle.program_texts.proofs.LoadRules.{Places, work_tree, main_tree, inside_tree, program_tree}
use Rattle.rev_expressions.proofs.WholeGrammar.{whole_grammar}

abbrev is_some : List Token → Bool
is_some [] = false
is_some (t ∷ ts) = true

longer : (ts us : List Token) → is_some ts ≡ true → suc (length us) ≤ length (ts ++ us)
longer [] us e = absurd cc
longer (t ∷ ts) us e = let k = length-append ts us in omega (arith, k)

abbrev without_kind : Statements → Option ValueKind × Statements
without_kind b = (None, b)

shorter : (step vs ts ws us : List Token) → length (step ++ vs) ≤ length ts → suc (length us) ≤ length vs
    → suc (length us) ≤ length (ws ++ ts)
shorter step vs ts ws us a b =
    let c = length-append step vs in
    let d = length-append ws ts in
    omega (arith, a, b, c, d)

all_shorter : (first us ts vs ws : List Token) → suc (length (first ++ us)) ≤ length ts
    → suc (length us) ≤ length (ws ++ (vs ++ ts))
all_shorter first us ts vs ws a =
    let b = length-append first us in
    let c = length-append vs ts in
    let d = length-append ws (vs ++ ts) in
    omega (arith, a, b, c, d)

module _ (bytes : List ℕ) where
  -- ---- the statements of the loop

  begins_statement : (at : ℕ) (us : List Token) (x : Line)
      → begins alphabet (statement bytes) (tokens_of at (statement_chunk x).pieces ++ us) ≡ true
  unfolding read below whole_grammar
  begins_statement at us (add_remainder x c) = refl
  begins_statement at us (add_constant x c) = refl
  begins_statement at us (set_product x c) = refl

  some_tokens : (at : ℕ) (x : Line) → is_some (tokens_of at (statement_chunk x).pieces) ≡ true
  some_tokens at (add_remainder x c) = refl
  some_tokens at (add_constant x c) = refl
  some_tokens at (set_product x c) = refl

  begins_step : (at : ℕ) (us : List Token)
      → begins alphabet (statement bytes) (tokens_of at step_line.pieces ++ us) ≡ true
  unfolding read below whole_grammar
  begins_step at us = refl

  begins_let : (at : ℕ) (us : List Token)
      → begins alphabet (statement bytes) (tokens_of at let_line.pieces ++ us) ≡ true
  unfolding read below whole_grammar
  begins_let at us = refl

  begins_while : (at : ℕ) (us : List Token)
      → begins alphabet (statement bytes) (tokens_of at while_line.pieces ++ us) ≡ true
  unfolding read below whole_grammar
  begins_while at us = refl

  stops_at_end : (at : ℕ) (us : List Token)
      → begins alphabet (statement bytes) (tokens_of at end_line.pieces ++ us) ≡ false
  unfolding read below whole_grammar
  stops_at_end at us = refl

  abbrev behind : ℕ → Chunk → ℕ
  behind at c = at + array_size c.pieces

  abbrev spelled_step : ℕ → t.Statement
  spelled_step at =
      step_tree (place at step_line.pieces) (named at step_line.pieces) (lines_at bytes at step_line.pieces)

  loop_rows : (n at : ℕ) (xs : List Line) (cs : List Chunk) (rest : List Token)
      → HasIn bytes at (statement_chunks xs (step_line ∷ cs))
      → Rows bytes (suc (suc n)) (statement bytes) (tokens_in at (statement_chunks xs (step_line ∷ cs)) rest)
      (statement_trees bytes at xs (spelled_step (after at xs) ∷ []))
      (tokens_in (behind (after at xs) step_line) cs rest)
  loop_rows n at [] cs rest has =
      let us = tokens_in (behind at step_line) cs rest in (
        us,
        begins_step at us,
        as_spelled bytes at step_line.pieces _
            (λ W. step_tree (place at step_line.pieces) W (lines_at bytes at step_line.pieces)) us has.0
            (read_step bytes n at us),
        longer (tokens_of at step_line.pieces) us refl,
        refl,
      )
  loop_rows n at (x ∷ xs) cs rest has =
      let c = statement_chunk x in
      let us = tokens_in (behind at c) (statement_chunks xs (step_line ∷ cs)) rest in (
        us,
        begins_statement at us x,
        as_spelled bytes at c.pieces _ (λ W. statement_tree (place at c.pieces) W (lines_at bytes at c.pieces) x) us
            has.0 (read_statement bytes n at us x),
        longer (tokens_of at c.pieces) us (some_tokens at x),
        loop_rows n (behind at c) xs cs rest has.1,
      )

  -- ---- the loop

  abbrev loop_at : ℕ → Statements → t.Statement
  loop_at at inside =
      t.statement (place at while_line.pieces 0) (lines_at bytes at while_line.pieces 0)
      (t.repeat
      (while_test (place at while_line.pieces) (named at while_line.pieces) (lines_at bytes at while_line.pieces))
      inside)

  read_inside : (n at : ℕ) (xs : List t.Statement) (us : List Token) → (ts : List Token)
      → Rows bytes (suc (suc n)) (statement bytes) ts xs (tokens_of at end_line.pieces ++ us)
      → parse bytes (suc (suc n)) (body bytes) ts ≡ Read (statements_of xs) us
  unfolding read body statements
  read_inside n at xs us ts rows =
      ap (λ o. and_then o (λ a rest.
      and_then (parse bytes (suc (suc n)) (sign s.CloseBrace) rest) (λ b rest2. Read (statements_of a) rest2)))
      (read_all bytes (suc (suc n)) (statement bytes) xs ts (tokens_of at end_line.pieces ++ us) rows
      (stops_at_end at us))

  read_loop_seen : (n at : ℕ) (ts us : List Token) (inside : Statements)
      → parse bytes (suc (suc n)) (body bytes) ts ≡ Read inside us
      → parse bytes (suc (suc (suc n))) (statement bytes) (tokens_of at while_line.pieces ++ ts)
      ≡ Read (t.statement (place at while_line.pieces 0) (lines_at bytes at while_line.pieces 0)
      (t.repeat
      (while_test (place at while_line.pieces) (seen bytes at while_line.pieces) (lines_at bytes at while_line.pieces))
      inside))
      us
  unfolding read below whole_grammar
  read_loop_seen n at ts us inside h =
      let test =
      while_test (place at while_line.pieces) (seen bytes at while_line.pieces) (lines_at bytes at while_line.pieces) in
      ap (λ (o : Outcome Token Statements).
      and_then (and_then (and_then o (λ y rest. Read y rest)) (λ b rest. Read (t.repeat test b) rest))
      (λ b rest. Read (t.statement (place at while_line.pieces 0) (lines_at bytes at while_line.pieces 0) b) rest)) h

  read_loop : (n at : ℕ) (ts us : List Token) (inside : Statements) → HasPieces bytes at while_line.pieces
      → parse bytes (suc (suc n)) (body bytes) ts ≡ Read inside us
      → parse bytes (suc (suc (suc n))) (statement bytes) (tokens_of at while_line.pieces ++ ts)
      ≡ Read (loop_at at inside) us
  read_loop n at ts us inside has h =
      as_spelled bytes at while_line.pieces _
      (λ W. t.statement (place at while_line.pieces 0) (lines_at bytes at while_line.pieces 0)
      (t.repeat (while_test (place at while_line.pieces) W (lines_at bytes at while_line.pieces)) inside))
      us has
      (read_loop_seen n at ts us inside h)

  -- ---- the procedure with the loop

  abbrev let_at : ℕ → t.Statement
  let_at at = let_tree (place at let_line.pieces) (named at let_line.pieces) (lines_at bytes at let_line.pieces)

  work_rows : (n at while_at : ℕ) (ts us : List Token) (inside : Statements) → HasPieces bytes at let_line.pieces
      → HasPieces bytes while_at while_line.pieces → parse bytes (suc (suc n)) (body bytes) ts ≡ Read inside us
      → suc (length us) ≤ length (tokens_of while_at while_line.pieces ++ ts)
      → Rows bytes (suc (suc (suc n))) (statement bytes)
      (tokens_of at let_line.pieces ++ (tokens_of while_at while_line.pieces ++ ts))
      (let_at at ∷ loop_at while_at inside ∷ []) us
  work_rows n at while_at ts us inside has_let has_while h few =
      let vs = tokens_of while_at while_line.pieces ++ ts in (
        vs,
        begins_let at vs,
        as_spelled bytes at let_line.pieces _
            (λ W. let_tree (place at let_line.pieces) W (lines_at bytes at let_line.pieces)) vs has_let
            (read_let bytes (suc n) at vs),
        longer (tokens_of at let_line.pieces) vs refl,
        (us, begins_while while_at ts, read_loop n while_at ts us inside has_while h, few, refl),
      )

  abbrev work_seen : (ℕ → ℕ) → (ℕ → PlacedName) → Statements → Declaration
  work_seen q W inside = t.proc (W 2) (record { name = W 4; kind_at = q 7; kind = kinds.Int } ∷ []) None inside

  read_work : (n at : ℕ) (ts us : List Token) (inside : Statements) → HasPieces bytes at work_line.pieces
      → parse bytes (suc (suc (suc n))) (body bytes) ts ≡ Read inside us
      → parse bytes (suc (suc (suc (suc n)))) (declaration bytes) (tokens_of at work_line.pieces ++ ts)
      ≡ Read (work_seen (place at work_line.pieces) (named at work_line.pieces) inside) us
  unfolding read below whole_grammar
  read_work n at ts us inside has h =
      let W = seen bytes at work_line.pieces in
      let q = place at work_line.pieces in
      let seen_so : parse bytes (suc (suc (suc (suc n)))) (declaration bytes) (tokens_of at work_line.pieces ++ ts)
      ≡ Read (work_seen q W inside) us =
      ap (λ (o : Outcome Token Statements).
      and_then (and_then (and_then (and_then o (λ y rest. Read y rest)) (λ b rest. Read (without_kind b) rest))
      (λ b rest. Read (t.proc (W 2) (record { name = W 4; kind_at = q 7; kind = kinds.Int } ∷ []) b.0 b.1) rest))
      (λ b rest. Read b rest))
      h in
      as_spelled bytes at work_line.pieces
      (parse bytes (suc (suc (suc (suc n)))) (declaration bytes) (tokens_of at work_line.pieces ++ ts))
      (λ W. work_seen (place at work_line.pieces) W inside) us has seen_so

  -- ---- what is left

  few_left : (at : ℕ) (xs : List Line) (cs : List Chunk) (rest : List Token)
      → length (tokens_in (after at xs) cs rest) ≤ length (tokens_in at (statement_chunks xs cs) rest)
  few_left at [] cs rest = omega arith
  few_left at (x ∷ xs) cs rest =
      let c = statement_chunk x in
      let more = few_left (behind at c) xs cs rest in
      let e = length-append (tokens_of at c.pieces) (tokens_in (behind at c) (statement_chunks xs cs) rest) in
      omega (arith, more, e)

  has_last : (at : ℕ) (xs : List Line) (cs : List Chunk) → HasIn bytes at (statement_chunks xs cs)
      → HasIn bytes (after at xs) cs
  has_last at [] cs h = h
  has_last at (x ∷ xs) cs h = has_last (behind at (statement_chunk x)) xs cs h.1

-- ---- the whole text

-- `main`, with its place, and the program
abbrev main_rule : Rule (ℕ × Statements)
main_rule = both (λ at b. (at, b)) (place_of s.Main) block

abbrev whole_of : List Declaration → ℕ × Statements → ProgramTree
whole_of ds m = record { declarations = ds; main_at = m.0; main = m.1 }

module _ (bytes : List ℕ) (size' : ℕ) (xs : List Line) where
  abbrev from : ℕ → Chunk → ℕ
  from at c = behind bytes at c

  abbrev pub places : Places
  places =
      let most_at' = from 0 sum_line in
      let a_at' = from most_at' most_line in
      let b_at' = from a_at' a_line in
      let v_at' = from b_at' b_line in
      let work_at' = from v_at' v_line in
      let let_at' = from work_at' work_line in
      let while_at' = from let_at' let_line in
      let statements_at' = from while_at' while_line in
      let step_at' = after statements_at' xs in
      let go_at' = from (from (from step_at' step_line) end_line) end_line in
      let main_at' = from go_at' go_lines in
      let start_at' = from main_at' main_line in
      let a_low_at' = from start_at' (start_line size') in
      let a_high_at' = from a_low_at' a_low in
      let b_low_at' = from a_high_at' a_high in
      let b_high_at' = from b_low_at' b_low in
      let v_low_at' = from b_high_at' b_high in
      let v_high_at' = from v_low_at' v_low in
      record {
        sum_at = 0;
        most_at = most_at';
        a_at = a_at';
        b_at = b_at';
        v_at = v_at';
        work_at = work_at';
        let_at = let_at';
        while_at = while_at';
        statements_at = statements_at';
        step_at = step_at';
        go_at = go_at';
        main_at = main_at';
        start_at = start_at';
        a_low_at = a_low_at';
        a_high_at = a_high_at';
        b_low_at = b_low_at';
        b_high_at = b_high_at';
        v_low_at = v_low_at';
        v_high_at = v_high_at';
      }

  abbrev chunks : List Chunk
  chunks = first_chunks (statement_chunks xs (last_chunks size'))

  abbrev loop_tree : Statements
  loop_tree = statements_of (inside_tree bytes size' places xs)

  abbrev main_tokens : List Token
  main_tokens =
      tokens_in places.start_at (start_line size' ∷ a_low ∷ a_high ∷ b_low ∷ b_high ∷ v_low ∷ v_high ∷ end_line ∷ []) []

  -- behind the procedure with the loop
  abbrev go_tokens : List Token
  go_tokens = tokens_in places.go_at (go_lines ∷ main_line ∷ []) main_tokens

  abbrev loop_tokens : List Token
  loop_tokens = tokens_in places.statements_at (statement_chunks xs (last_chunks size')) []

  abbrev last_end : ℕ
  last_end = from (from places.step_at step_line) end_line

  module _ (has : HasIn bytes 0 chunks) where
    has_loop : HasIn bytes places.statements_at (statement_chunks xs (last_chunks size'))
    has_loop = has.1.1.1.1.1.1.1.1

    has_behind : HasIn bytes places.step_at (last_chunks size')
    has_behind = has_last bytes places.statements_at xs (last_chunks size') has_loop

    read_loop_body : (n : ℕ)
        → parse bytes (suc (suc n)) (body bytes) loop_tokens
        ≡ Read loop_tree (tokens_of last_end end_line.pieces ++ go_tokens)
    read_loop_body n =
        read_inside bytes n (from places.step_at step_line) (inside_tree bytes size' places xs)
        (tokens_of last_end end_line.pieces ++ go_tokens) loop_tokens
        (loop_rows bytes n places.statements_at xs _ [] has_loop)

    few_tokens : suc (length (tokens_of last_end end_line.pieces ++ go_tokens))
        ≤ length (tokens_of places.while_at while_line.pieces ++ loop_tokens)
    few_tokens =
        let us = tokens_of last_end end_line.pieces ++ go_tokens in
        let first = tokens_of (from places.step_at step_line) end_line.pieces in
        let step = tokens_of places.step_at step_line.pieces in
        let a : length (step ++ (first ++ us)) ≤ length loop_tokens =
        few_left bytes places.statements_at xs (last_chunks size') [] in
        let b : suc (length us) ≤ length (first ++ us) = longer first us refl in
        shorter step (first ++ us) loop_tokens (tokens_of places.while_at while_line.pieces) us a b

    read_work_body : (n : ℕ)
        → parse bytes (suc (suc (suc n))) (body bytes)
        (tokens_of places.let_at let_line.pieces ++ (tokens_of places.while_at while_line.pieces ++ loop_tokens))
        ≡ Read (t.statements (let_at bytes places.let_at)
        (t.statements (loop_at bytes places.while_at loop_tree) t.no_statements))
        go_tokens
    read_work_body n =
        read_inside bytes (suc n) last_end (let_at bytes places.let_at ∷ loop_at bytes places.while_at loop_tree ∷ [])
        go_tokens _
        (work_rows bytes n places.let_at places.while_at loop_tokens (tokens_of last_end end_line.pieces ++ go_tokens)
        loop_tree has.1.1.1.1.1.1.0 has.1.1.1.1.1.1.1.0 (read_loop_body n) few_tokens)

    -- ---- the declarations

    abbrev work_tokens : List Token
    work_tokens =
        tokens_of places.work_at work_line.pieces
        ++ (tokens_of places.let_at let_line.pieces ++ (tokens_of places.while_at while_line.pieces ++ loop_tokens))

    few_go : suc (length go_tokens) ≤ length work_tokens
    few_go =
        let lines = tokens_of places.while_at while_line.pieces ++ loop_tokens in
        let first = tokens_of last_end end_line.pieces in
        let a : suc (length (first ++ go_tokens)) ≤ length lines = few_tokens in
        all_shorter first go_tokens lines (tokens_of places.let_at let_line.pieces)
        (tokens_of places.work_at work_line.pieces) a

    abbrev end_of_declarations : List Token
    end_of_declarations = tokens_of places.main_at main_line.pieces ++ main_tokens

    abbrev DeclarationRows : ℕ → List Token → List Declaration → Type 0
    DeclarationRows n ts ds = Rows bytes (suc (suc (suc (suc n)))) (declaration bytes) ts ds end_of_declarations

    go_rows : (n : ℕ)
        → DeclarationRows n go_tokens
        (go_tree (place places.go_at go_lines.pieces) (named places.go_at go_lines.pieces)
        (lines_at bytes places.go_at go_lines.pieces)
        ∷ [])
    unfolding read below whole_grammar
    go_rows n = (
      end_of_declarations,
      refl,
      as_spelled bytes places.go_at go_lines.pieces _
          (λ W. go_tree (place places.go_at go_lines.pieces) W (lines_at bytes places.go_at go_lines.pieces))
          end_of_declarations has_behind.1.1.1.0 (read_go bytes n places.go_at end_of_declarations),
      longer (tokens_of places.go_at go_lines.pieces) end_of_declarations refl,
      refl,
    )

    work_and_go : (n : ℕ)
        → DeclarationRows n work_tokens
        (work_tree bytes size' places loop_tree
        ∷ go_tree (place places.go_at go_lines.pieces) (named places.go_at go_lines.pieces)
        (lines_at bytes places.go_at go_lines.pieces)
        ∷ [])
    unfolding read below whole_grammar
    work_and_go n =
        let body_tokens =
        tokens_of places.let_at let_line.pieces ++ (tokens_of places.while_at while_line.pieces ++ loop_tokens) in
        let inside =
        t.statements (let_at bytes places.let_at)
        (t.statements (loop_at bytes places.while_at loop_tree) t.no_statements) in (
          go_tokens,
          refl,
          read_work bytes n places.work_at body_tokens go_tokens inside has.1.1.1.1.1.0 (read_work_body n),
          few_go,
          go_rows n,
        )

    abbrev shared_tokens : ℕ → List Chunk → List Token → List Token
    shared_tokens at cs rest = tokens_in at cs rest

    -- a line that declares a variable or a merge, before others
    module _ (n at : ℕ) (ds : List Declaration) (ts : List Token) where
      sum_row : HasPieces bytes at sum_line.pieces → DeclarationRows n ts ds
          → DeclarationRows n (tokens_of at sum_line.pieces ++ ts)
          (sum_tree (place at sum_line.pieces) (named at sum_line.pieces) (lines_at bytes at sum_line.pieces) ∷ ds)
      unfolding read below whole_grammar
      sum_row h more = (
        ts,
        refl,
        as_spelled bytes at sum_line.pieces _
            (λ W. sum_tree (place at sum_line.pieces) W (lines_at bytes at sum_line.pieces)) ts h
            (read_sum bytes (suc (suc n)) at ts),
        longer (tokens_of at sum_line.pieces) ts refl,
        more,
      )

      most_row : HasPieces bytes at most_line.pieces → DeclarationRows n ts ds
          → DeclarationRows n (tokens_of at most_line.pieces ++ ts)
          (most_tree (place at most_line.pieces) (named at most_line.pieces) (lines_at bytes at most_line.pieces) ∷ ds)
      unfolding read below whole_grammar
      most_row h more = (
        ts,
        refl,
        as_spelled bytes at most_line.pieces _
            (λ W. most_tree (place at most_line.pieces) W (lines_at bytes at most_line.pieces)) ts h
            (read_most bytes (suc (suc n)) at ts),
        longer (tokens_of at most_line.pieces) ts refl,
        more,
      )

      a_row : HasPieces bytes at a_line.pieces → DeclarationRows n ts ds
          → DeclarationRows n (tokens_of at a_line.pieces ++ ts)
          (array_tree (place at a_line.pieces) (named at a_line.pieces) (lines_at bytes at a_line.pieces)
          (Some (named at a_line.pieces 13))
          ∷ ds)
      unfolding read below whole_grammar
      a_row h more = (
        ts,
        refl,
        as_spelled bytes at a_line.pieces _
            (λ W. array_tree (place at a_line.pieces) W (lines_at bytes at a_line.pieces) (Some (W 13))) ts h
            (read_a bytes (suc (suc n)) at ts),
        longer (tokens_of at a_line.pieces) ts refl,
        more,
      )

      b_row : HasPieces bytes at b_line.pieces → DeclarationRows n ts ds
          → DeclarationRows n (tokens_of at b_line.pieces ++ ts)
          (array_tree (place at b_line.pieces) (named at b_line.pieces) (lines_at bytes at b_line.pieces)
          (Some (named at b_line.pieces 13))
          ∷ ds)
      unfolding read below whole_grammar
      b_row h more = (
        ts,
        refl,
        as_spelled bytes at b_line.pieces _
            (λ W. array_tree (place at b_line.pieces) W (lines_at bytes at b_line.pieces) (Some (W 13))) ts h
            (read_b bytes (suc (suc n)) at ts),
        longer (tokens_of at b_line.pieces) ts refl,
        more,
      )

      v_row : HasPieces bytes at v_line.pieces → DeclarationRows n ts ds
          → DeclarationRows n (tokens_of at v_line.pieces ++ ts)
          (array_tree (place at v_line.pieces) (named at v_line.pieces) (lines_at bytes at v_line.pieces) None ∷ ds)
      unfolding read below whole_grammar
      v_row h more = (
        ts,
        refl,
        as_spelled bytes at v_line.pieces _
            (λ W. array_tree (place at v_line.pieces) W (lines_at bytes at v_line.pieces) None) ts h
            (read_v bytes (suc (suc n)) at ts),
        longer (tokens_of at v_line.pieces) ts refl,
        more,
      )

    all_rows : (n : ℕ)
        → DeclarationRows n (tokens_in 0 chunks []) (program_tree bytes size' places loop_tree).declarations
    all_rows n =
        let d6 = work_tree bytes size' places loop_tree
        ∷ go_tree (place places.go_at go_lines.pieces) (named places.go_at go_lines.pieces)
        (lines_at bytes places.go_at go_lines.pieces)
        ∷ [] in
        let d5 = array_tree (place places.v_at v_line.pieces) (named places.v_at v_line.pieces)
        (lines_at bytes places.v_at v_line.pieces) None
        ∷ d6 in
        let d4 = array_tree (place places.b_at b_line.pieces) (named places.b_at b_line.pieces)
        (lines_at bytes places.b_at b_line.pieces) (Some (named places.b_at b_line.pieces 13))
        ∷ d5 in
        let d3 = array_tree (place places.a_at a_line.pieces) (named places.a_at a_line.pieces)
        (lines_at bytes places.a_at a_line.pieces) (Some (named places.a_at a_line.pieces 13))
        ∷ d4 in
        let d2 = most_tree (place places.most_at most_line.pieces) (named places.most_at most_line.pieces)
        (lines_at bytes places.most_at most_line.pieces)
        ∷ d3 in
        let t5 = tokens_of places.v_at v_line.pieces ++ work_tokens in
        let t4 = tokens_of places.b_at b_line.pieces ++ t5 in
        let t3 = tokens_of places.a_at a_line.pieces ++ t4 in
        let t2 = tokens_of places.most_at most_line.pieces ++ t3 in
        sum_row n 0 d2 t2 has.0
        (most_row n places.most_at d3 t3 has.1.0
        (a_row n places.a_at d4 t4 has.1.1.0
        (b_row n places.b_at d5 t5 has.1.1.1.0
        (v_row n places.v_at d6 work_tokens has.1.1.1.1.0 (work_and_go n)))))

    -- ---- `main`

    abbrev MainRows : ℕ → List Token → List t.Statement → Type 0
    MainRows n ts ss =
        Rows bytes (suc (suc n)) (statement bytes) ts ss
        (tokens_of (from places.v_high_at v_high) end_line.pieces ++ [])

    module _ (n at : ℕ) (ss : List t.Statement) (ts : List Token) where
      start_row : HasPieces bytes at (start_line size').pieces → MainRows n ts ss
          → MainRows n (tokens_of at (start_line size').pieces ++ ts)
          (start_tree (place at (start_line size').pieces) (named at (start_line size').pieces)
          (lines_at bytes at (start_line size').pieces) size'
          ∷ ss)
      unfolding read below whole_grammar
      start_row h more = (
        ts,
        refl,
        as_spelled bytes at (start_line size').pieces _
            (λ W. start_tree (place at (start_line size').pieces) W (lines_at bytes at (start_line size').pieces) size')
            ts h (read_start bytes n at ts size'),
        longer (tokens_of at (start_line size').pieces) ts refl,
        more,
      )

      print_row : (c : Chunk) (m : ℕ) → begins alphabet (statement bytes) (tokens_of at c.pieces ++ ts) ≡ true
          → is_some (tokens_of at c.pieces) ≡ true
          → parse bytes (suc (suc n)) (statement bytes) (tokens_of at c.pieces ++ ts)
          ≡ Read (print_tree (place at c.pieces) (seen bytes at c.pieces) (lines_at bytes at c.pieces) m) ts
          → HasPieces bytes at c.pieces → MainRows n ts ss
          → MainRows n (tokens_of at c.pieces ++ ts)
          (print_tree (place at c.pieces) (named at c.pieces) (lines_at bytes at c.pieces) m ∷ ss)
      print_row c m first some h has_c more = (
        ts,
        first,
        as_spelled bytes at c.pieces _ (λ W. print_tree (place at c.pieces) W (lines_at bytes at c.pieces) m) ts
            has_c h,
        longer (tokens_of at c.pieces) ts some,
        more,
      )

    main_rows : (n : ℕ) → MainRows n main_tokens (main_tree bytes size' places)
    unfolding read below whole_grammar
    main_rows n =
        let h = has_behind.1.1.1.1.1 in
        let t7 = tokens_of (from places.v_high_at v_high) end_line.pieces ++ [] in
        let t6 = tokens_of places.v_high_at v_high.pieces ++ t7 in
        let t5 = tokens_of places.v_low_at v_low.pieces ++ t6 in
        let t4 = tokens_of places.b_high_at b_high.pieces ++ t5 in
        let t3 = tokens_of places.b_low_at b_low.pieces ++ t4 in
        let t2 = tokens_of places.a_high_at a_high.pieces ++ t3 in
        let t1 = tokens_of places.a_low_at a_low.pieces ++ t2 in
        let s6 = print_tree (place places.v_high_at v_high.pieces) (named places.v_high_at v_high.pieces)
        (lines_at bytes places.v_high_at v_high.pieces) 8
        ∷ [] in
        let s5 = print_tree (place places.v_low_at v_low.pieces) (named places.v_low_at v_low.pieces)
        (lines_at bytes places.v_low_at v_low.pieces) 0
        ∷ s6 in
        let s4 = print_tree (place places.b_high_at b_high.pieces) (named places.b_high_at b_high.pieces)
        (lines_at bytes places.b_high_at b_high.pieces) 8
        ∷ s5 in
        let s3 = print_tree (place places.b_low_at b_low.pieces) (named places.b_low_at b_low.pieces)
        (lines_at bytes places.b_low_at b_low.pieces) 0
        ∷ s4 in
        let s2 = print_tree (place places.a_high_at a_high.pieces) (named places.a_high_at a_high.pieces)
        (lines_at bytes places.a_high_at a_high.pieces) 8
        ∷ s3 in
        let s1 = print_tree (place places.a_low_at a_low.pieces) (named places.a_low_at a_low.pieces)
        (lines_at bytes places.a_low_at a_low.pieces) 0
        ∷ s2 in
        start_row n places.start_at s1 t1 h.0
        (print_row n places.a_low_at s2 t2 a_low 0 refl refl (read_a_low bytes n places.a_low_at t2) h.1.0
        (print_row n places.a_high_at s3 t3 a_high 8 refl refl (read_a_high bytes n places.a_high_at t3) h.1.1.0
        (print_row n places.b_low_at s4 t4 b_low 0 refl refl (read_b_low bytes n places.b_low_at t4) h.1.1.1.0
        (print_row n places.b_high_at s5 t5 b_high 8 refl refl (read_b_high bytes n places.b_high_at t5) h.1.1.1.1.0
        (print_row n places.v_low_at s6 t6 v_low 0 refl refl (read_v_low bytes n places.v_low_at t6) h.1.1.1.1.1.0
        (print_row n places.v_high_at [] t7 v_high 8 refl refl (read_v_high bytes n places.v_high_at t7) h.1.1.1.1.1.1.0
        refl))))))

    read_main : (n : ℕ)
        → parse bytes (suc (suc n)) (body bytes) main_tokens ≡ Read (statements_of (main_tree bytes size' places)) []
    read_main n =
        read_inside bytes n (from places.v_high_at v_high) (main_tree bytes size' places) [] main_tokens (main_rows n)

    -- ---- the program

    pub read_program : (n : ℕ)
        → parse bytes (suc (suc (suc (suc n)))) (program bytes) (tokens_in 0 chunks [])
        ≡ Read (program_tree bytes size' places loop_tree) []
    unfolding read below whole_grammar
    read_program n =
        let m = suc (suc (suc (suc n))) in
        let ds = (program_tree bytes size' places loop_tree).declarations in
        ap (λ (o : Outcome Token (List Declaration)).
        and_then o (λ a rest. and_then (parse bytes m main_rule rest) (λ b rest2. Read (whole_of a b) rest2)))
        (read_all bytes m (declaration bytes) ds (tokens_in 0 chunks []) end_of_declarations (all_rows n) refl)
        ∙ ap (λ (o : Outcome Token Statements).
        and_then (and_then (and_then o (λ y rest. Read y rest)) (λ b rest. Read (places.main_at, b) rest))
        (λ b rest. Read (whole_of ds b) rest))
        (read_main (suc n))
