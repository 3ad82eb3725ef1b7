-- The code of a program is linked to it, and the first states of `main` are related.
use Rattle.std.proofs.Common.{◌≡◌, ◌∙◌, ◌&&◌, ◌-◌, ◌^◌, ℕ, zero, suc, ℤ, pos, negsuc, true, false, IsTrue, List, [], ◌∷◌, ◌++◌, map, take, replicate, Option, Some, None, refl, sym, ap, subst, arith}
use Rattle.std.specs.Prelude.{slice_get, if◌then◌else◌, nat_lt}
use Rattle.std.specs.List.{list_all}
use Rattle.std.proofs.lemmas.Bool.Decides.{nat_tests}
use Rattle.std.proofs.Math.Seq.{take-append_seam as take_front}
use Rattle.rev_num.specs.Path.{Path}
use Rattle.rev_num.specs.declared.value.Value.{Value}
use Rattle.rev_num.specs.declared.value.Value.TheVariants as v
use Rattle.rev_num.specs.declared.value.ValueKind.{ValueKind}
use Rattle.rev_num.specs.declared.value.ValueKind.TheVariants as k
use Rattle.rev_num.specs.Value.{kind_of}
use Rattle.rev_num.specs.Words.{word_of, int_of}
use Rattle.rev_syntax.specs.Trees.{Constant, Declaration, fun, merge, shared, proc}
use Rattle.rev_syntax.specs.Small.{name_formed, by_formed, size_formed, first_formed, value_formed, declaration_small}
use Rattle.name_tables.specs.Names.{Name}
use Rattle.typed_programs.specs.Kinds.{Callee, Names}
use Rattle.typed_programs.proofs.Lists.{and_parts}
use Rattle.typed_programs.specs.Judgement.{FirstTyped, DeclarationsTyped}
use Rattle.typed_programs.specs.Scopes as scopes
use Rattle.typed_programs.specs.Scopes.{within}
use Rattle.typed_programs.specs.Limits.{funs}
use Rattle.typed_programs.specs.Layout.{variable_behind, variables_behind, Procedure, procedures}
use Rattle.revision_calculus.specs.Program.{zero_value, constant_value, first_value, procedure_named, Setting}
use Rattle.revision_calculus.specs.State.{fresh}
use Rattle.revision_calculus.specs.Step.{locals_of}
use Rattle.revision_calculus.specs.Calculus.{start_values, main}
use Rattle.revision_calculus.specs.Kinded.{IsAccepted, names}
use Rattle.revision_calculus.proofs.FunKinds.{rules_kept}
use Rattle.revision_calculus.proofs.ScopeKinds.{ProcIs, proc_is}
use Rattle.rev_code.specs.declared.code.CodeBlock.{CodeBlock}
use Rattle.rev_code.specs.Words as words
use Rattle.rev_code.specs.Words.{Word, start_word}
use Rattle.rev_code.specs.State.{Location}
use Rattle.rev_code.specs.Variables.{start_locations}
use Rattle.rev_code.specs.Step.{first_locals}
use Rattle.rev_code.specs.Events as events
use Rattle.code_rules.specs.Tables.{is_main}
use Rattle.code_generation.specs.Numbers.{proc_number, has_result}
use Rattle.code_generation.specs.Prints.{statements_kinds}
use Rattle.code_generation.specs.Generated.{value_word, var_of, kinds_of, proc_block, value_blocks, body_blocks, texts_of, layouts_of, code_of}
use Rattle.code_generation.proofs.Naming.{get_right, values_count, variable_lies}
use Rattle.code_generation.specs.Stands.{HasItems}
use Rattle.code_generation.proofs.Standing.{whole_stands}
use Rattle.expression_meaning.specs.Agrees.{word}
use Rattle.expression_meaning.proofs.Blocks.{kinds_length}
use Rattle.expression_meaning.proofs.Funs.{program_funs}
use Rattle.expression_meaning.specs.Places.{Tables}
use Rattle.expression_meaning.specs.States.{location_word, IsTop, StandsAt}
use Rattle.program_meaning.specs.StatementLaws.{tables}
use Rattle.program_meaning.proofs.Linked.{IsProc, IsLinked}
use Rattle.program_meaning.proofs.Programs.{body_begins, proc_body, main_body, main_of}

nothing : Unit {0}
nothing = tt

-- ---- start values

number_back : (z : ℤ) → value_formed (v.Int z) ≡ true → int_of (word_of z) ≡ z
number_back (pos n) h =
    let small : nat_lt n (2 ^ 63) ≡ true = grind (arith, nat_tests, h) in
    ap (λ d. if d then pos n else negsuc (2 ^ 64 - 1 - n)) small
number_back (negsuc n) h =
    let large : nat_lt (2 ^ 64 - 1 - n) (2 ^ 63) ≡ false = grind (arith, nat_tests, h) in
    let back : 2 ^ 64 - 1 - (2 ^ 64 - 1 - n) ≡ n = grind (arith, nat_tests, h) in
    ap (λ d. if d then pos (2 ^ 64 - 1 - n) else negsuc (2 ^ 64 - 1 - (2 ^ 64 - 1 - n))) large ∙ ap negsuc back

zero_start : (t : ValueKind) → start_word {H = Path} t (value_word (zero_value t)) ≡ word (zero_value t)
zero_start k.Int = refl
zero_start k.Bool = refl
zero_start k.Rev = refl

constant_start : (t : ValueKind) (x : Value) → kind_of x ≡ t → value_formed x ≡ true
    → start_word {H = Path} t (value_word (constant_value x)) ≡ word (constant_value x)
constant_start k.Int (v.Int z) e h = ap words.int (number_back z h)
constant_start k.Bool (v.Bool true) e h = refl
constant_start k.Bool (v.Bool false) e h = refl
constant_start k.Rev (v.Rev q) e h = refl
constant_start k.Int (v.Bool z) e h = absurd (let q : k.Bool ≡ k.Int = e in cc)
constant_start k.Int (v.Rev z) e h = absurd (let q : k.Rev ≡ k.Int = e in cc)
constant_start k.Bool (v.Int z) e h = absurd (let q : k.Int ≡ k.Bool = e in cc)
constant_start k.Bool (v.Rev z) e h = absurd (let q : k.Rev ≡ k.Bool = e in cc)
constant_start k.Rev (v.Int z) e h = absurd (let q : k.Int ≡ k.Rev = e in cc)
constant_start k.Rev (v.Bool z) e h = absurd (let q : k.Bool ≡ k.Rev = e in cc)

first_start : (t : ValueKind) (c : Option Constant) → FirstTyped c t → first_formed c ≡ true
    → start_word {H = Path} t (value_word (first_value t c)) ≡ word (first_value t c)
first_start t None typed h = zero_start t
first_start t (Some c) typed h = constant_start t c.value typed h

cells_start : (n : ℕ) (w : Word Path) (x : Value) (ls : List (Location Path)) (xs : List Value) → w ≡ word x
    → ls ≡ map location_word (fresh xs)
    → replicate n (record { snapshot = w; written = None }) ++ ls ≡ map location_word (fresh (replicate n x ++ xs))
cells_start zero w x ls xs e h = h
cells_start (suc n) w x ls xs e h =
    let z = cells_start n w x ls xs e h in λ j. record { snapshot = e j; written = None } ∷ z j

starts_same : (outer inner : Names) (all before laid es : List Declaration) → DeclarationsTyped outer inner before es
    → IsTrue (list_all declaration_small es)
    → start_locations (map (var_of all) (variables_behind laid es))
    ≡ map location_word (fresh (start_values (variables_behind laid es)))
starts_same outer inner all before laid [] typed small = refl
starts_same outer inner all before laid (fun w ps r body ∷ es) typed small =
    starts_same outer inner all (fun w ps r body ∷ before) (laid ++ fun w ps r body ∷ []) es typed.1
    (and_parts (declaration_small (fun w ps r body)) (list_all declaration_small es) small).1
starts_same outer inner all before laid (merge w m j r body ∷ es) typed small =
    starts_same outer inner all (merge w m j r body ∷ before) (laid ++ merge w m j r body ∷ []) es typed.1
    (and_parts (declaration_small (merge w m j r body)) (list_all declaration_small es) small).1
starts_same outer inner all before laid (proc w ps r body ∷ es) typed small =
    starts_same outer inner all (proc w ps r body ∷ before) (laid ++ proc w ps r body ∷ []) es typed.1
    (and_parts (declaration_small (proc w ps r body)) (list_all declaration_small es) small).1
starts_same outer inner all before laid (shared x ∷ es) typed small =
    let smalls = and_parts (declaration_small (shared x)) (list_all declaration_small es) small in
    let formed =
    (and_parts (name_formed x.name && by_formed x.by && size_formed x.size) (first_formed x.first) smalls.0).1 in
    cells_start (variable_behind laid x).info.cells (start_word x.holds (value_word (first_value x.holds x.first)))
    (first_value x.holds x.first) (start_locations (map (var_of all) (variables_behind (laid ++ shared x ∷ []) es)))
    (start_values (variables_behind (laid ++ shared x ∷ []) es))
    (first_start x.holds x.first typed.0.first formed)
    (starts_same outer inner all (shared x ∷ before) (laid ++ shared x ∷ []) es typed.1 smalls.1)

module _ (s : Setting) (well : IsAccepted s.program) where
  abbrev g : Tables
  g = tables s

  abbrev declared : List Declaration
  declared = s.program.declarations

  layouts_there : HasItems g.setting.code.layouts 0 (layouts_of (names s) 0 declared s.program.main)
  layouts_there = whole_stands (layouts_of (names s) 0 declared s.program.main)

  texts_there : HasItems g.setting.code.texts 0 (texts_of declared s.program.main)
  texts_there = whole_stands (texts_of declared s.program.main)

  proc_linked : (name : Name) (q : Callee) → (names s).procs name ≡ Some q → IsProc s g name q
  proc_linked name q e =
      let pr : Procedure = procedure_named (procedures s.program) name in
      let d = proc_body s g name declared s.program.main 0 0 0 q layouts_there texts_there e in
      let b : CodeBlock = proc_block g.numbers (names s) q.params q.result pr.body d.0 in
      let is : ProcIs (names s) q pr =
      proc_is (names s) (within declared) [] 0 declared name q (rules_kept s.program well).declarations
      well.small.declarations e in
      let ks : List ValueKind = statements_kinds (names s) (scopes.with_params [] q.params) pr.body in
      record {
        block = b;
        is = get_right (value_blocks g.numbers declared) (body_blocks g.numbers (names s) declared s.program.main 0)
            (funs declared) (proc_number name declared) (values_count g.numbers declared)
            ∙ d.1.0;
        class = refl;
        result = refl;
        params = ap (λ n. take n (kinds_of q.params ++ ks)) (kinds_length q.params) ∙ take_front (kinds_of q.params) ks;
        begins = λ xs left are.
            subst (λ ns.
            IsTop s g b (record { locals = locals_of ns xs; rest = pr.body; left = left }) 0
            (first_locals b (map word xs)))
            (sym is.params)
            (body_begins s g q.params q.result pr.body b d.1.1 is.new is.body is.small is.returns xs left are);
      }

  pub linked : IsLinked s g
  linked = record {
    vars = λ name x e. variable_lies s.program name x e;
    funs = λ name f e. program_funs s.program well s.inputs s.share name f e;
    procs = proc_linked;
    gives = λ name q e. ap has_result e;
    share = refl;
    inputs = refl;
  }

  pub main_stands : (n : ℕ) (b : CodeBlock) → slice_get (code_of s.program).blocks n ≡ Some b → is_main b.class ≡ true
      → (fuel : ℕ) → StandsAt s g (main s fuel) (events.start n b [] (start_locations (code_of s.program).vars) fuel)
  main_stands n b here is fuel =
      let typed = rules_kept s.program well in
      let at = main_of s g declared (body_blocks g.numbers (names s) declared s.program.main 0) n b here is in
      let body = main_body s g declared s.program.main 0 0 at.0 b layouts_there texts_there at.1 is in (
        record { locals = []; rest = s.program.main; left = None },
        [],
        record {
          shared = (
            starts_same (names s) (within declared) declared [] [] declared typed.declarations well.small.declarations,
            refl,
            refl,
            refl,
            refl,
            refl,
          );
          frames = refl;
          block = b;
          is = here;
          stack = refl;
          top = body_begins s g [] None s.program.main b body nothing typed.main well.small.main nothing [] None
              nothing;
          below = nothing;
        },
      )
