-- A merge of a well-typed program reads no input, so that it has no other causes than those of arithmetic.
use Rattle.std.proofs.Common.{◌≡◌, ◌∙◌, ℕ, zero, suc, true, List, [], ◌∷◌, Ok, Err, refl, sym, true≢false}
use Rattle.std.specs.Prelude.{slice_get}
use Rattle.rev_num.specs.declared.value.Value.{Value}
use Rattle.rev_num.specs.declared.value.ValueKind.{ValueKind}
use Rattle.rev_num.specs.declared.value.ValueKind.TheVariants as k
use Rattle.rev_num.specs.declared.outcome.Cause.{Cause}
use Rattle.rev_num.specs.declared.outcome.Cause.TheVariants as cause
use Rattle.rev_syntax.specs.Trees.{Expression, placed, ExpressionForm, Expressions, Links, int, bool, no_rev, var, cell, apply, input, inputs, pick, unary, chain, no_expressions, expression, no_links, link, Parameter, Declaration, fun, merge, shared, proc, ProgramTree}
use Rattle.typed_programs.specs.Value.{Answer, FunDef, inside, funs_of}
use Rattle.typed_programs.specs.Definitions.{fun_def, MergeDef, merges_after, merges_in, merged_by, merge_value_of}
use Rattle.typed_programs.specs.Kinds.{Names, Locals}
use Rattle.typed_programs.specs.Typing.{HasKind, ExpressionFormHas, ArgsHave, LinksHave}
use Rattle.typed_programs.specs.Scopes.{outside, within}
use Rattle.typed_programs.specs.Judgement.{DeclarationsTyped}
use Rattle.revision_calculus.specs.Kinded.{IsAccepted, IsOf, IsNumberOrFault, MergeLaw}
use Rattle.revision_calculus.proofs.Values.{OfOk}
use Rattle.revision_calculus.proofs.Causes.{OfErr, Inputs, FormInputs, AllInputs, LinksInputs, BodiesInputs, value_err, funs_err}
use Rattle.revision_calculus.proofs.FunKinds.{rules_kept, merges_give}

-- ---- inside of funs and merges no input is read

module _ (c : Names) (l : Locals) (closed : c.inside ≡ true) where
  mutual
    pub none_read : (x : Expression) (t : ValueKind) → HasKind c l x t → Inputs ⊥ x
    none_read (placed at s) t has = form_read s t has

    form_read : (s : ExpressionForm) (t : ValueKind) → ExpressionFormHas c l s t → FormInputs ⊥ s
    form_read (int n) t has = tt
    form_read (bool x) t has = tt
    form_read no_rev t has = tt
    form_read (var w) t has = tt
    form_read (cell w index) t has = none_read index k.Int has.1
    form_read (apply w args) t has = all_read has.0.params 0 args has.4
    form_read (input at index) t has = absurd (true≢false (sym closed ∙ has.1))
    form_read (inputs at) t has = tt
    form_read (pick test x y) t has = (none_read test k.Bool has.0, none_read x t has.1, none_read y t has.2)
    form_read (unary op part) t has = none_read part _ has.1
    form_read (chain first rest) t has = (none_read first has.0 has.1, links_read has.0 rest has.3)

    all_read : (ps : List Parameter) (n : ℕ) (xs : Expressions) → ArgsHave c l ps n xs → AllInputs ⊥ xs
    all_read ps n no_expressions has = tt
    all_read ps n (expression x xs) has = (none_read x has.0.0 has.0.1, all_read ps _ xs has.1)

    links_read : (left : ValueKind) (rest : Links) → LinksHave c l left rest → LinksInputs ⊥ rest
    links_read left no_links has = tt
    links_read left (link op x rest) has = (none_read x has.0.0 has.0.1, links_read left rest has.1)

-- ---- merges

-- no body of these merges, and of the funs that they may apply, reads an input
abbrev MergesInputs : List MergeDef → Type 0
MergesInputs [] = Unit {0}
MergesInputs (d ∷ ds) = Inputs ⊥ d.body × BodiesInputs ⊥ d.funs × MergesInputs ds

merges_read : (outer inner : Names) → inner.inside ≡ true
    → (before : List Declaration) (fs : List FunDef) (es : List Declaration) → BodiesInputs ⊥ fs
    → DeclarationsTyped outer inner before es → MergesInputs (merges_after fs es)
merges_read outer inner closed before fs [] h typed = tt
merges_read outer inner closed before fs (fun w ps r body ∷ es) h typed =
    merges_read outer inner closed (fun w ps r body ∷ before) (fun_def w ps body ∷ fs) es
    (none_read inner _ closed body r typed.0.body, h) typed.1
merges_read outer inner closed before fs (merge w m j r body ∷ es) h typed = (
  none_read inner _ closed body k.Int typed.0.body,
  h,
  merges_read outer inner closed (merge w m j r body ∷ before) fs es h typed.1,
)
merges_read outer inner closed before fs (shared x ∷ es) h typed =
    merges_read outer inner closed (shared x ∷ before) fs es h typed.1
merges_read outer inner closed before fs (proc w ps r body ∷ es) h typed =
    merges_read outer inner closed (proc w ps r body ∷ before) fs es h typed.1

abbrev IsArithmetic : Cause → Type 0
IsArithmetic cause.Overflow = Unit {0}
IsArithmetic cause.ZeroDivisor = Unit {0}
IsArithmetic cause.Index = ⊥
IsArithmetic cause.Assert = ⊥
IsArithmetic cause.JoinNone = ⊥
IsArithmetic cause.CallDepth = ⊥
IsArithmetic cause.Spent = ⊥
IsArithmetic (cause.Merge n f) = ⊥

merge_err : (ds : List MergeDef) (n : ℕ) (m j r : Value) → MergesInputs ds
    → OfErr IsArithmetic (merged_by (slice_get ds n) m j r)
merge_err [] n m j r h = tt
merge_err (d ∷ ds) zero m j r h =
    value_err IsArithmetic tt tt ⊥ (λ none. absurd none) (funs_of d.funs) (inside d.params (m ∷ j ∷ r ∷ []))
    (funs_err IsArithmetic tt tt ⊥ (λ none. absurd none) d.funs h.1) (λ name z. tt) d.body h.0
merge_err (d ∷ ds) (suc n) m j r h = merge_err ds n m j r h.2

-- an int or a cause of arithmetic
both : (a : Answer) → OfOk (IsOf k.Int) a → OfErr IsArithmetic a → IsNumberOrFault a
both (Ok x) is h = is
both (Err cause.Overflow) is h = tt
both (Err cause.ZeroDivisor) is h = tt
both (Err cause.Index) is h = absurd h
both (Err cause.Assert) is h = absurd h
both (Err cause.JoinNone) is h = absurd h
both (Err cause.CallDepth) is h = absurd h
both (Err cause.Spent) is h = absurd h
both (Err (cause.Merge n f)) is h = absurd h

module _ (p : ProgramTree) (well : IsAccepted p) where
  merge_causes : (n : ℕ) (m j r : Value) → OfErr IsArithmetic (merge_value_of p n m j r)
  unfolding merge_value_of
  merge_causes n m j r =
      merge_err (merges_in p) n m j r
      (merges_read (outside p.declarations) (within p.declarations) refl [] [] p.declarations tt
      (rules_kept p well).declarations)

  pub merge_law : MergeLaw p
  merge_law n m j r km kj kr =
      both (merge_value_of p n m j r) (merges_give p well n m j r km kj kr) (merge_causes n m j r)
