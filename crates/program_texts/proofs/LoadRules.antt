-- The tree of the text of `load` breaks no rule.
use Rattle.std.proofs.Common.{◌≡◌, ℕ, ◌+◌, List, [], ◌∷◌, ◌++◌, refl, ap, ◌∙◌}
use Rattle.std.specs.Prelude.{Some, None, codes}
use Rattle.rev_num.specs.declared.value.ValueKind.TheVariants as kinds
use Rattle.rev_syntax.specs.Trees as t
use Rattle.rev_syntax.specs.Trees.{PlacedName, Parameter, Declaration, ProgramTree, Statements}
use Rattle.rev_syntax.specs.Tokens.{array_size}
use Rattle.rev_syntax.specs.View.{statements_of}
use Rattle.typed_programs.specs.FunRules.{statements_uses, statement_uses, broken_in, fun_named, fun_faults}
use Rattle.typed_programs.specs.declared.fault.TypeFault.{TypeFault}
use Rattle.typed_programs.specs.Kinds.{Names, Locals}
use Rattle.typed_programs.specs.Scopes.{outside, locals_after}
use Rattle.typed_programs.specs.Statements.{broken_in_statement, broken_in_statements, left_after}
use Rattle.typed_programs.specs.Program.{faults}
use Rattle.program_texts.proofs.Chunks.{Chunk, place, named}
use Rattle.program_texts.proofs.LoadChunks.{Line, add_remainder, add_constant, set_product, statement_chunk, sum_line, most_line, a_line, b_line, v_line, work_line, let_line, while_line, step_line, go_lines, main_line, start_line, a_low, a_high, b_low, b_high, v_low, v_high}
use Rattle.program_texts.proofs.LoadTrees.{sum_tree, most_tree, array_tree, let_tree, while_test, step_tree, go_tree, start_tree, print_tree, lines_at, chunk_statement, statement_trees}

-- ---- the program

-- where the chunks begin
pub record Places : Type 0 where
  pub sum_at : ℕ
  pub most_at : ℕ
  pub a_at : ℕ
  pub b_at : ℕ
  pub v_at : ℕ
  pub work_at : ℕ
  pub let_at : ℕ
  pub while_at : ℕ
  pub statements_at : ℕ
  pub step_at : ℕ
  pub go_at : ℕ
  pub main_at : ℕ
  pub start_at : ℕ
  pub a_low_at : ℕ
  pub a_high_at : ℕ
  pub b_low_at : ℕ
  pub b_high_at : ℕ
  pub v_low_at : ℕ
  pub v_high_at : ℕ

module _ (bytes : List ℕ) (size : ℕ) (at : Places) where
  abbrev of_chunk : {A : Type 0} → ((ℕ → ℕ) → (ℕ → PlacedName) → (ℕ → ℕ) → A) → ℕ → Chunk → A
  of_chunk tree n c = tree (place n c.pieces) (named n c.pieces) (lines_at bytes n c.pieces)

  abbrev pub shared_declarations : List Declaration → List Declaration
  shared_declarations ds =
      of_chunk sum_tree at.sum_at sum_line
      ∷ of_chunk most_tree at.most_at most_line
      ∷ of_chunk array_tree at.a_at a_line (Some (named at.a_at a_line.pieces 13))
      ∷ of_chunk array_tree at.b_at b_line (Some (named at.b_at b_line.pieces 13))
      ∷ of_chunk array_tree at.v_at v_line None
      ∷ ds

  abbrev work_parameter : List Parameter
  work_parameter =
      record {
        name = named at.work_at work_line.pieces 4;
        kind_at = place at.work_at work_line.pieces 7;
        kind = kinds.Int;
      } ∷ []

  abbrev pub loop : Statements → t.Statement
  loop inside =
      t.statement (place at.while_at while_line.pieces 0) (lines_at bytes at.while_at while_line.pieces 0)
      (t.repeat (of_chunk while_test at.while_at while_line) inside)

  -- with these statements in its loop
  abbrev pub work_tree : Statements → Declaration
  work_tree inside =
      t.proc (named at.work_at work_line.pieces 2) work_parameter None
      (t.statements (of_chunk let_tree at.let_at let_line) (t.statements (loop inside) t.no_statements))

  abbrev pub main_tree : List t.Statement
  main_tree =
      of_chunk start_tree at.start_at (start_line size) size
      ∷ of_chunk print_tree at.a_low_at a_low 0
      ∷ of_chunk print_tree at.a_high_at a_high 8
      ∷ of_chunk print_tree at.b_low_at b_low 0
      ∷ of_chunk print_tree at.b_high_at b_high 8
      ∷ of_chunk print_tree at.v_low_at v_low 0
      ∷ of_chunk print_tree at.v_high_at v_high 8
      ∷ []

  abbrev pub inside_tree : List Line → List t.Statement
  inside_tree xs = statement_trees bytes at.statements_at xs (of_chunk step_tree at.step_at step_line ∷ [])

  abbrev pub program_tree : Statements → ProgramTree
  program_tree inside = record {
    declarations = shared_declarations (work_tree inside ∷ of_chunk go_tree at.go_at go_lines ∷ []);
    main_at = place at.main_at main_line.pieces 0;
    main = statements_of main_tree;
  }

  -- ---- the loop

  abbrev work_locals : Locals
  work_locals = (codes "k", Some kinds.Int) ∷ (codes "t", Some kinds.Int) ∷ []

  -- faults, as a list
  abbrev broken : Names → Locals → ℕ → t.Statement → List TypeFault
  broken c l left x = broken_in_statement [] (λ f. f ∷ []) (λ xs ys. xs ++ ys) c None l left x

  module _ (inside : Statements) where
    abbrev known : Names
    known = outside (program_tree inside).declarations

    record IsFine (left : ℕ) (x : t.Statement) : Type 0 where
      none : broken known work_locals left x ≡ []
      locals : locals_after known work_locals x ≡ work_locals
      lets : left_after left x ≡ left
      uses : (n : ℕ) → statement_uses n x ≡ []

    fine_statement : (left n : ℕ) (x : Line) → IsFine left (chunk_statement bytes n x)
    fine_statement left n (add_remainder x c) = record { none = refl; locals = refl; lets = refl; uses = λ n. refl }
    fine_statement left n (add_constant x c) = record { none = refl; locals = refl; lets = refl; uses = λ n. refl }
    fine_statement left n (set_product x c) = record { none = refl; locals = refl; lets = refl; uses = λ n. refl }

    fine_step : (left : ℕ) → IsFine left (of_chunk step_tree at.step_at step_line)
    fine_step left = record { none = refl; locals = refl; lets = refl; uses = λ n. refl }

    abbrev broken_all : Locals → ℕ → List TypeFault → Statements → List TypeFault
    broken_all l left found xs = broken_in_statements [] (λ f. f ∷ []) (λ xs ys. xs ++ ys) known None l left found xs

    one_more : (left : ℕ) (x : t.Statement) (xs : Statements) → IsFine left x → broken_all work_locals left [] xs ≡ []
        → broken_all work_locals left [] (t.statements x xs) ≡ []
    one_more left x xs h more =
        ap (λ m. broken_all (locals_after known work_locals x) (left_after left x) m xs) h.none
        ∙ ap (λ l. broken_all l (left_after left x) [] xs) h.locals
        ∙ ap (λ n. broken_all work_locals n [] xs) h.lets
        ∙ more

    none_inside : (left n : ℕ) (xs : List Line)
        → broken_all work_locals left []
        (statements_of (statement_trees bytes n xs (of_chunk step_tree at.step_at step_line ∷ [])))
        ≡ []
    none_inside left n [] =
        one_more left (of_chunk step_tree at.step_at step_line) t.no_statements (fine_step left) refl
    none_inside left n (x ∷ xs) =
        let after = n + array_size (statement_chunk x).pieces in
        one_more left (chunk_statement bytes n x)
        (statements_of (statement_trees bytes after xs (of_chunk step_tree at.step_at step_line ∷ [])))
        (fine_statement left n x) (none_inside left after xs)

    no_uses : (d n : ℕ) (xs : List Line)
        → statements_uses d (statements_of (statement_trees bytes n xs (of_chunk step_tree at.step_at step_line ∷ [])))
        ≡ []
    no_uses d n [] = refl
    no_uses d n (x ∷ xs) =
        let after = n + array_size (statement_chunk x).pieces in
        ap (λ u. u
        ++ statements_uses d
        (statements_of (statement_trees bytes after xs (of_chunk step_tree at.step_at step_line ∷ []))))
        ((fine_statement 0 n x).uses d)
        ∙ no_uses d after xs

  -- ---- the whole

  abbrev left_inside : ℕ
  left_inside = 63

  none_broken : (inside : Statements) → broken_all inside work_locals left_inside [] inside ≡ []
      → faults (program_tree inside) ≡ []
  none_broken inside h = ap (λ x. (x ++ []) ++ []) h

  none_applied : (inside : Statements) → statements_uses 7 inside ≡ [] → fun_faults (program_tree inside) ≡ []
  none_applied inside h = ap (λ u. broken_in (fun_named (program_tree inside)) (((u ++ []) ++ []) ++ [])) h

  abbrev pub tree : List Line → ProgramTree
  tree xs = program_tree (statements_of (inside_tree xs))

  pub no_faults : (xs : List Line) → faults (tree xs) ≡ []
  no_faults xs = let i = statements_of (inside_tree xs) in none_broken i (none_inside i left_inside at.statements_at xs)

  pub no_fun_faults : (xs : List Line) → fun_faults (tree xs) ≡ []
  no_fun_faults xs = let i = statements_of (inside_tree xs) in none_applied i (no_uses i 7 at.statements_at xs)
