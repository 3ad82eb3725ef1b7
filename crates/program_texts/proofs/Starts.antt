-- The state of `main` before its first statement fits.
use Rattle.std.proofs.Common.{ℕ, zero, suc, true, false, ◌&&◌, pos, negsuc, List, [], ◌∷◌, ◌++◌, replicate, Option, Some, None, refl, arith}
use Rattle.std.proofs.lemmas.Bool.{and_parts}
use Rattle.std.proofs.lemmas.Bool.Decides.{nat_tests}
use Rattle.std.specs.Prelude.{IsTrue}
use Rattle.std.specs.List.{list_all}
use Rattle.rev_num.specs.declared.value.Value.{Value}
use Rattle.rev_num.specs.declared.value.Value.TheVariants as v
use Rattle.rev_num.specs.declared.value.ValueKind.{ValueKind}
use Rattle.rev_num.specs.declared.value.ValueKind.TheVariants as kind
use Rattle.rev_syntax.specs.Small.{IsSmall, by_formed, declaration_small, first_formed, name_formed, size_formed, value_formed}
use Rattle.rev_syntax.specs.Trees.{Constant, Declaration, fun, merge, shared, proc}
use Rattle.typed_programs.specs.Scopes.{cells_of}
use Rattle.typed_programs.specs.Layout.{variables_behind, variables}
use Rattle.revision_calculus.specs.Program.{zero_value, constant_value, first_value, Setting}
use Rattle.revision_calculus.specs.Calculus.{start_values, main}
use Rattle.trace_diagram.specs.Lines.{FitsValue}
use Rattle.program_texts.specs.Written.{IsWritten}
use Rattle.program_texts.proofs.WrittenTexts.{no_lines}
use Rattle.program_texts.proofs.WrittenValues.{FitsEach}
use Rattle.program_texts.proofs.States.{StateFits, fresh_fits}

both_fit : (xs ys : List Value) → FitsEach xs → FitsEach ys → FitsEach (xs ++ ys)
both_fit [] ys p q = q
both_fit (x ∷ xs) ys p q = (p.0, both_fit xs ys p.1 q)

replicate_fits : (n : ℕ) (x : Value) → FitsValue x → FitsEach (replicate n x)
replicate_fits zero x h = tt
replicate_fits (suc n) x h = (h, replicate_fits n x h)

zero_fits : (k : ValueKind) → FitsValue (zero_value k)
zero_fits kind.Int = refl
zero_fits kind.Bool = tt
zero_fits kind.Rev = tt

constant_fits : (x : Value) → IsTrue (value_formed x) → FitsValue (constant_value x)
constant_fits (v.Int (pos n)) h = grind (arith, nat_tests, h)
constant_fits (v.Int (negsuc n)) h = grind (arith, nat_tests, h)
constant_fits (v.Bool true) h = tt
constant_fits (v.Bool false) h = tt
constant_fits (v.Rev path) h = tt

first_fits : (k : ValueKind) (c : Option Constant) → IsTrue (first_formed c) → FitsValue (first_value k c)
first_fits k None h = zero_fits k
first_fits k (Some c) h = constant_fits c.value h

start_fits : (before es : List Declaration) → IsTrue (list_all declaration_small es)
    → FitsEach (start_values (variables_behind before es))
start_fits before [] h = tt
start_fits before (fun w ps r body ∷ es) h =
    start_fits (before ++ fun w ps r body ∷ []) es
    (and_parts (declaration_small (fun w ps r body)) (list_all declaration_small es) h).1
start_fits before (merge w m j r body ∷ es) h =
    start_fits (before ++ merge w m j r body ∷ []) es
    (and_parts (declaration_small (merge w m j r body)) (list_all declaration_small es) h).1
start_fits before (proc w ps r body ∷ es) h =
    start_fits (before ++ proc w ps r body ∷ []) es
    (and_parts (declaration_small (proc w ps r body)) (list_all declaration_small es) h).1
start_fits before (shared x ∷ es) h =
    let here = and_parts (declaration_small (shared x)) (list_all declaration_small es) h in
    let first = and_parts (name_formed x.name && by_formed x.by && size_formed x.size) (first_formed x.first) here.0 in
    both_fit (replicate (cells_of x.size) (first_value x.holds x.first))
    (start_values (variables_behind (before ++ shared x ∷ []) es))
    (replicate_fits (cells_of x.size) (first_value x.holds x.first) (first_fits x.holds x.first first.1))
    (start_fits (before ++ shared x ∷ []) es here.1)

pub main_fits : (s : Setting) (fuel : ℕ) → IsSmall s.program → IsWritten s.program → StateFits [] (main s fuel)
main_fits s fuel small written = record {
  path = tt;
  locations = fresh_fits (start_values (variables s.program)) (start_fits [] s.program.declarations small.declarations);
  frames = (record { locals = tt; rest = written.main }, tt);
  noted = tt;
  text = no_lines;
  line = omega arith;
  phase = tt;
}
