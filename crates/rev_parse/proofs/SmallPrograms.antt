-- Declarations and programs that are parsed have few parts, in their forms.
use Rattle.std.proofs.Common.{◌≡◌, ℕ, ℤ, pos, zero, suc, ◌+◌, ◌*◌, ◌≤◌, true, false, List, length, Option, Some, None, refl, sym, subst, arith}
use Rattle.std.proofs.lemmas.Bool.{and_from, le-leb, lt-ltb}
use Rattle.std.specs.Prelude.{neg_ℤ}
use Rattle.std.specs.List.{list_all}
use Rattle.rev_num.specs.declared.value.Value.{Value as Number}
use Rattle.rev_num.specs.declared.value.Value.TheVariants as v
use Rattle.rev_syntax.specs.Trees as t
use Rattle.rev_syntax.specs.Trees.{PlacedName, Expression, Parameter, ArraySize, Constant, Declaration, ProgramTree}
use Rattle.rev_syntax.specs.Small.{name_count, expression_count, parameters_count, by_count, declaration_count, declarations_count, count, name_formed, expression_small, statements_small, parameter_formed, by_formed, size_formed, value_formed, first_formed, declaration_small, greatest}
use Rattle.rev_syntax.specs.declared.token.Token.{Token}
use Rattle.rev_expressions.specs.Form.{level, Lang, Nested, AnyNested}
use Rattle.rev_syntax.specs.declared.token.Fixed.{Fixed}
use Rattle.rev_syntax.specs.declared.token.Fixed.TheVariants as s
use Rattle.rev_expressions.specs.Source.{int_of}
use Rattle.rev_expressions.specs.Grammar.{alphabet, Rule, Inner, Value, Operand, Parens, Index, Arguments, Parts, Body, Params, Names, Cells}
use Rattle.rev_expressions.specs.Declarations.{KindAt, constant_word, constant, optional, cells, size, first_value, param, params, names, formal, head, meaning, fun_form, merge_form, variable, shared_of, versioned_form, cumulative_form, proc_form, declaration, declarations, program, inner}
use Rattle.rev_parse.specs.SmallTree.{IsSmallTree}
use Rattle.rev_parse.specs.Verdicts.{most_levels, IsProgram}
use Rattle.rev_parse.proofs.TextTokens.{IsNumber, text_tokens, text_spans, proper_number, spans}
use Rattle.rev_parse.proofs.Holds.{Property, Grows, Weighs, Holds, Inside, holds_nothing, holds_token, holds_both, holds_either, holds_as, holds_any, holds_behind, holds_before, holds_all, holds_listing, holds_within}
use Rattle.rev_parse.proofs.SizeOfValues.{IsSmallName, IsSmallBlock, AreSmallParameters, AreSmallNames, IsSmallArraySize, Has}
use Rattle.rev_parse.proofs.SmallExpressions.{holds_name, holds_unary, holds_parens, holds_inner_index, holds_arguments, holds_parts}
use Rattle.rev_parse.proofs.SmallStatements.{IsShallow, holds_shallow, holds_block, holds_body}
use Rattle.rev_expressions.specs.Classes as class

-- ---- the properties

abbrev IsOfNumber : Property ℤ
IsOfNumber n w x = IsNumber x

abbrev IsSmallConstant : Property Constant
IsSmallConstant n w x = value_formed x.value ≡ true

abbrev IsSmallSize : Property (Option ArraySize)
IsSmallSize n w x = size_formed x ≡ true

abbrev IsSmallFirst : Property (Option Constant)
IsSmallFirst n w x = first_formed x ≡ true

record IsSmallParameter (n w : ℕ) (x : Parameter) : Type 0 where
  few : 1 + name_count x.name ≤ 3 * w
  formed : name_formed x.name ≡ true

record AreTwoNames (n w : ℕ) (x : PlacedName × PlacedName) : Type 0 where
  few : name_count x.0 + name_count x.1 ≤ 3 * w
  first : name_formed x.0 ≡ true
  second : name_formed x.1 ≡ true

record IsSmallHead (n w : ℕ) (x : PlacedName × List Parameter) : Type 0 where
  few : 1 + name_count x.0 + parameters_count x.1 ≤ 3 * w
  name : name_formed x.0 ≡ true
  parameters : list_all parameter_formed x.1 ≡ true

record IsSmallSharedDeclaration (n w : ℕ) (x : PlacedName × KindAt × Option ArraySize) : Type 0 where
  few : 1 + name_count x.0 ≤ 3 * w
  name : name_formed x.0 ≡ true
  size : size_formed x.2 ≡ true

record IsSmallDeclaration (n w : ℕ) (x : Declaration) : Type 0 where
  few : declaration_count x ≤ 3 * w
  small : declaration_small x ≡ true

record AreSmallDeclarations (n w : ℕ) (xs : List Declaration) : Type 0 where
  few : declarations_count xs ≤ 3 * w
  small : list_all declaration_small xs ≡ true

record IsSmallProgram (n w : ℕ) (x : ProgramTree) : Type 0 where
  few : count x ≤ 3 * w
  declarations : list_all declaration_small x.declarations ≡ true
  main : statements_small x.main ≡ true

-- ---- what the parts make

natural_formed : (z : ℤ) → IsNumber z → value_formed (v.Int z) ≡ true
natural_formed z h = subst (λ z. value_formed (v.Int z) ≡ true) (sym h.1) (le-leb h.0 greatest h.2)

negated_formed : (m : ℕ) → m ≤ greatest → value_formed (v.Int (neg_ℤ (pos m))) ≡ true
negated_formed zero h = le-leb 0 greatest h
negated_formed (suc m) h = lt-ltb m greatest h

negative_formed : (z : ℤ) → IsNumber z → value_formed (v.Int (neg_ℤ z)) ≡ true
negative_formed z h = subst (λ z. value_formed (v.Int (neg_ℤ z)) ≡ true) (sym h.1) (negated_formed h.0 h.2)

array_size_formed : (at : ℕ) (z : ℤ) → IsNumber z → size_formed (Some (record { at = at; cells = z })) ≡ true
array_size_formed at z h =
    subst (λ z. size_formed (Some (record { at = at; cells = z })) ≡ true) (sym h.1) (le-leb h.0 greatest h.2)

parameters_grow : Grows IsSmallParameter AreSmallParameters
parameters_grow n u v x xs levels one more = record { few = omega arith; formed = and_from _ _ one.formed more.formed }

declarations_grow : Grows IsSmallDeclaration AreSmallDeclarations
declarations_grow n u v x xs levels one more = record { few = omega arith; small = and_from _ _ one.small more.small }

two_names : (n u v : ℕ) (x y : PlacedName) → IsSmallName n u x → IsSmallName n v y → AreTwoNames n (u + v) (x, y)
two_names n u v x y one other = record { few = omega arith; first = one.formed; second = other.formed }

three_names : (n u v : ℕ) (x : PlacedName) (y : PlacedName × PlacedName) → IsSmallName n u x → AreTwoNames n v y
    → AreSmallNames n (u + v) (x, y.0, y.1)
three_names n u v x y one two = record { few = omega arith; first = one.formed; second = two.first; third = two.second }

-- the names of a merge and its body
record IsNamedMeaning (n w : ℕ) (x : (PlacedName × PlacedName × PlacedName) × Expression) : Type 0 where
  few : name_count x.0.0 + name_count x.0.1 + name_count x.0.2 + expression_count x.1 ≤ 3 * w
  first : name_formed x.0.0 ≡ true
  second : name_formed x.0.1 ≡ true
  third : name_formed x.0.2 ≡ true
  body : expression_small x.1 ≡ true

named_meaning : (n u v : ℕ) (x : PlacedName × PlacedName × PlacedName) (e : Expression) → n ≤ most_levels
    → AreSmallNames n u x → IsShallow n v e → IsNamedMeaning n (u + v) (x, e)
named_meaning n u v x e levels names body =
    record { few = omega arith; first = names.first; second = names.second; third = names.third; body = body.small }

merge_small : (n u v : ℕ) (x : PlacedName) (y : (PlacedName × PlacedName × PlacedName) × Expression) → n ≤ most_levels
    → IsSmallName n u x → IsNamedMeaning n v y → IsSmallDeclaration n (u + v) (t.merge x y.0.0 y.0.1 y.0.2 y.1)
merge_small n u v x y levels word h = record {
  few = omega arith;
  small = and_from _ _ (and_from _ _ (and_from _ _ (and_from _ _ word.formed h.first) h.second) h.third) h.body;
}

-- the name of a merge and the start value of a variable, if it has them
record IsSmallTailOf (n w : ℕ) (by : Option PlacedName) (c : Option Constant) : Type 0 where
  few : by_count by ≤ 3 * w
  formed : by_formed by ≡ true
  first : first_formed c ≡ true

shared_small : (bytes : List ℕ) (n u v : ℕ) (x : PlacedName × KindAt × Option ArraySize) (by : Option PlacedName)
    (c : Option Constant)
    → IsSmallSharedDeclaration n u x → IsSmallTailOf n v by c → IsSmallDeclaration n (u + v) (shared_of bytes x by c)
shared_small bytes n u v x by c h more = record {
  few = omega arith;
  small = and_from _ _ (and_from _ _ (and_from _ _ h.name more.formed) h.size) more.first;
}

-- ---- the rules in which no expression stands

module _ (bytes : List ℕ) (I : (i : Inner) → Lang alphabet (Value i)) where
  holds_constant_word : {s : Fixed} (x : Number) → value_formed x ≡ true
      → Holds bytes I IsSmallConstant (constant_word s x)
  holds_constant_word x e = holds_token bytes I (λ n w y h same weight. e)

  holds_constant : Holds bytes I IsSmallConstant constant
  unfolding constant
  holds_constant =
      holds_either bytes I (holds_both bytes I {Q = IsOfNumber} (holds_any bytes I)
      (holds_token bytes I (λ n w x h e weight. proper_number bytes x h e))
      (λ n u v at z levels none h. negative_formed z h))
      (holds_either bytes I
      (holds_token bytes I (λ n w x h e weight. natural_formed (int_of x.kind) (proper_number bytes x h e)))
      (holds_either bytes I (holds_constant_word (v.Bool true) refl)
      (holds_either bytes I (holds_constant_word (v.Bool false) refl)
      (holds_constant_word (v.Rev None) refl))))

  pub holds_cells : Holds bytes I IsSmallArraySize cells
  unfolding cells
  holds_cells =
      holds_before bytes I
      (holds_token bytes I (λ n w x h e weight. array_size_formed x.start (int_of x.kind) (proper_number bytes x h e)))

  holds_optional : {A : Type 0} {P : Property A} {Q : Property (Option A)} {F : Rule A} → Holds bytes I P F
      → ((n u : ℕ) (x : A) → P n u x → (w : ℕ) → u ≤ w → Q n w (Some x)) → ((n w : ℕ) → Q n w None)
      → Holds bytes I Q (optional F)
  holds_optional h some none =
      holds_either bytes I
      (holds_both bytes I h (holds_any bytes I) (λ n u v x y levels one nothing. some n u x one (u + v) (omega arith)))
      (holds_nothing bytes I none)

  holds_first_value : Holds bytes I IsSmallFirst first_value
  unfolding first_value
  holds_first_value = holds_optional (holds_behind bytes I holds_constant) (λ n u x h w le. h) (λ n w. refl)

  holds_param : Holds bytes I IsSmallParameter (param bytes)
  unfolding param
  holds_param = holds_both bytes I (holds_name bytes I) (holds_any bytes I)
      (λ n u v w k levels word none. record { few = let few = word.few in omega arith; formed = word.formed })

  pub holds_params : Holds bytes I AreSmallParameters (params bytes)
  unfolding params
  holds_params =
      holds_before bytes I
      (holds_listing bytes I holds_param (λ n w. record { few = omega arith; formed = refl }) parameters_grow)

  pub holds_names : Holds bytes I AreSmallNames (names bytes)
  unfolding names
  holds_names =
      holds_before bytes I (holds_both bytes I (holds_before bytes I (holds_name bytes I))
      (holds_both bytes I (holds_before bytes I (holds_name bytes I)) (holds_name bytes I)
      (λ n u v j r levels one other. two_names n u v j r one other))
      (λ n u v m jr levels one two. three_names n u v m jr one two))

  -- ---- declarations

  module _ (inside : Inside bytes Has I) where
    holds_formal : Holds bytes I AreSmallParameters (formal bytes)
    unfolding formal
    holds_formal =
        holds_as bytes I (holds_within bytes I {Has = Has} inside (class.fixed s.OpenParen) Params)
        (λ n w x levels h. record { few = h.inside.few; formed = h.inside.formed })

    holds_merge_names : Holds bytes I AreSmallNames (level (class.fixed s.OpenParen) Names (λ x ns. ns))
    holds_merge_names =
        holds_as bytes I (holds_within bytes I {Has = Has} inside (class.fixed s.OpenParen) Names)
        (λ n w x levels h.
        record { few = h.inside.few; first = h.inside.first; second = h.inside.second; third = h.inside.third })

    holds_size : Holds bytes I IsSmallSize size
    unfolding size
    holds_size = holds_optional (holds_within bytes I {Has = Has} inside (class.fixed s.OpenBracket) Cells)
        (λ n u x h w le. h.inside) (λ n w. refl)

    holds_head : Holds bytes I IsSmallHead (head bytes)
    unfolding head
    holds_head = holds_both bytes I (holds_name bytes I) holds_formal
        (λ n u v w ps levels word more. record { few = omega arith; name = word.formed; parameters = more.formed })

    holds_meaning : Holds bytes I IsShallow (meaning bytes)
    unfolding meaning
    holds_meaning = holds_behind bytes I (holds_before bytes I (holds_shallow bytes I inside))

    holds_fun : Holds bytes I IsSmallDeclaration (fun_form bytes)
    unfolding fun_form
    holds_fun =
        holds_both bytes I {Q = λ n w x. IsShallow n w x.1} holds_head
        (holds_both bytes I (holds_any bytes I) holds_meaning
        (λ n u v k e levels none h. record { few = let few = h.few in omega arith; small = h.small }))
        (λ n u v h r levels head body. record {
          few = let few = body.few in omega arith;
          small = and_from _ _ (and_from _ _ head.name head.parameters) body.small;
        })

    holds_merge : Holds bytes I IsSmallDeclaration (merge_form bytes)
    unfolding merge_form
    holds_merge =
        holds_both bytes I (holds_name bytes I) (holds_both bytes I holds_merge_names holds_meaning named_meaning)
        merge_small

    holds_variable : Holds bytes I IsSmallSharedDeclaration (variable bytes)
    unfolding variable
    holds_variable =
        holds_both bytes I {Q = λ n w x. IsSmallSize n w x.1} (holds_name bytes I)
        (holds_both bytes I (holds_any bytes I) holds_size (λ n u v k c levels none h. h))
        (λ n u v w r levels word h. record { few = let few = word.few in omega arith; name = word.formed; size = h })

    holds_versioned : Holds bytes I IsSmallDeclaration (versioned_form bytes)
    unfolding versioned_form
    holds_versioned =
        holds_both bytes I holds_variable (holds_before bytes I holds_first_value)
        (λ n u v x c levels h first.
        shared_small bytes n u v x None c h (record { few = omega arith; formed = refl; first = first }))

    holds_cumulative : Holds bytes I IsSmallDeclaration (cumulative_form bytes)
    unfolding cumulative_form
    holds_cumulative =
        holds_both bytes I {Q = λ n w r. IsSmallTailOf n w (Some r.0) r.1} holds_variable
        (holds_both bytes I (holds_behind bytes I (holds_name bytes I)) (holds_before bytes I holds_first_value)
        (λ n u v w c levels word first.
        record { few = let few = word.few in omega arith; formed = word.formed; first = first }))
        (λ n u v x r levels h more. shared_small bytes n u v x (Some r.0) r.1 h more)

    holds_proc : Holds bytes I IsSmallDeclaration (proc_form bytes)
    unfolding proc_form
    holds_proc =
        holds_both bytes I {Q = λ n w x. IsSmallBlock n w x.1} holds_head
        (holds_both bytes I (holds_any bytes I) (holds_block bytes I inside)
        (λ n u v k b levels none h. record { few = let few = h.few in omega arith; small = h.small }))
        (λ n u v h r levels head body. record {
          few = let few = body.few in omega arith;
          small = and_from _ _ (and_from _ _ head.name head.parameters) body.small;
        })

    holds_declaration : Holds bytes I IsSmallDeclaration (declaration bytes)
    unfolding declaration
    holds_declaration =
        holds_either bytes I (holds_behind bytes I holds_fun)
        (holds_either bytes I (holds_behind bytes I holds_merge)
        (holds_either bytes I (holds_behind bytes I holds_versioned)
        (holds_either bytes I (holds_behind bytes I holds_cumulative)
        (holds_behind bytes I holds_proc))))

    holds_declarations : Holds bytes I AreSmallDeclarations (declarations bytes)
    unfolding declarations
    holds_declarations =
        holds_all bytes I holds_declaration (λ n w. record { few = omega arith; small = refl }) declarations_grow

    holds_program : Holds bytes I IsSmallProgram (program bytes)
    unfolding program
    holds_program =
        holds_both bytes I {Q = λ n w x. IsSmallBlock n w x.1} holds_declarations
        (holds_both bytes I (holds_any bytes I) (holds_block bytes I inside)
        (λ n u v k b levels none h. record { few = let few = h.few in omega arith; small = h.small }))
        (λ n u v ds m levels declarations main.
        record { few = let few = main.few in omega arith; declarations = declarations.small; main = main.small })

-- ---- of any nesting

module _ (bytes : List ℕ) where
  inner_rule : (I : (i : Inner) → Lang alphabet (Value i)) → Inside bytes Has I → (i : Inner)
      → Holds bytes I (Has i) (inner bytes i)
  unfolding inner
  inner_rule I inside Operand = holds_unary bytes I inside
  inner_rule I inside Parens = holds_parens bytes I inside
  inner_rule I inside Index = holds_inner_index bytes I inside
  inner_rule I inside Arguments = holds_arguments bytes I inside
  inner_rule I inside Parts = holds_parts bytes I inside
  inner_rule I inside Body = holds_body bytes I inside
  inner_rule I inside Params = holds_params bytes I
  inner_rule I inside Names = holds_names bytes I
  inner_rule I inside Cells = holds_cells bytes I

  nested_inside : (d : ℕ) → Inside bytes Has (Nested alphabet (inner bytes) d)
  nested_inside zero i n k w ts y fits h = absurd h
  nested_inside (suc d) i n k w ts y fits h =
      (inner_rule (Nested alphabet (inner bytes) d) (nested_inside d) i).word n k w ts y fits h

  any_inside : Inside bytes Has (AnyNested alphabet (inner bytes))
  any_inside i n k w ts y fits h = nested_inside h.0 i n k w ts y fits h.1

  -- every program that the tokens of a text are is small
  pub program_small : (ts : List Token) (p : ProgramTree) → IsProgram bytes ts p → IsSmallTree bytes ts p
  program_small ts p h tokens size =
      let few_bytes = text_spans bytes ts tokens in
      let fits : Weighs bytes most_levels (length ts) (spans ts) ts = record {
        levels = omega arith;
        counted = omega arith;
        proper = text_tokens bytes ts tokens;
        weight = omega arith;
      } in
      let small =
      (holds_program bytes (AnyNested alphabet (inner bytes)) any_inside).word most_levels (length ts) (spans ts) ts p
      fits h.whole in
      record { few = let few = small.few in omega arith; declarations = small.declarations; main = small.main }
