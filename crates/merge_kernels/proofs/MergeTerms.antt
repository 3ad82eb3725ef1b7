-- The term of a merge, by its number and by its declaration.
use Rattle.std.proofs.Common.{◌≡◌, ◌∙◌, ap, sym, refl, subst, ℕ, zero, suc, ◌+◌, ◌<◌, ℤ, List, [], ◌∷◌, length, map, get_or, slice_get, Option, Some, None, option_map, option_and_then, arith}
use Rattle.rev_num.specs.declared.value.Value.TheVariants as v
use Rattle.rev_syntax.specs.Trees.{Expression, Declaration, fun, merge, shared, proc, ProgramTree}
use Rattle.rev_syntax.specs.View.{declaration}
use Rattle.name_tables.specs.Names.{Name}
use Rattle.typed_programs.specs.FunRules.{merge_decls}
use Rattle.typed_programs.specs.Value.{FunDef, Funs, funs_of, inside, value_by}
use Rattle.typed_programs.specs.Definitions.{MergeDef, fun_def, merges_after, merges_in, merged_by, merge_value_of}
use Rattle.typed_programs.specs.Evaluation.{merge_answer}
use Rattle.typed_programs.specs.declared.expanded.Expanded.{Expanded}
use Rattle.typed_programs.specs.declared.expanded.MergeRef.{MergeRef}
use Rattle.std.proofs.lemmas.Option.{slice_get-map, slice_get-get_or}
use Rattle.merge_kernels.specs.Terms.{answer_of, value_of}
use Rattle.merge_kernels.proofs.Renaming.{keeps_value}
use Rattle.merge_kernels.specs.Merges.{term_over, term_by, term_in, term_of, HasMergesValue}

is_some : {A : Type 0} → Option A → Type 0
is_some None = ⊥
is_some (Some x) = Unit {0}

pub none_some : {A : Type 0} {x : A} → ◌≡◌ {A = Option A} None (Some x) → ⊥
unfolding is_some
none_some e = subst is_some (sym e) tt

or_zero : Option ℕ → ℕ
or_zero None = 0
or_zero (Some n) = n

number_of : {m n : ℕ} → ◌≡◌ {A = Option ℕ} (Some m) (Some n) → m ≡ n
unfolding or_zero
number_of e = ap or_zero e

-- ---- the value

by_params : (fs : Funs) (ns : List Name) (body e : Expression) → term_over ns body ≡ Some e → (main join root : ℤ)
    → value_by fs (inside ns (v.Int main ∷ v.Int join ∷ v.Int root ∷ [])) body ≡ value_of e main join root
by_params fs (m ∷ j ∷ r ∷ []) body e is main join root =
    keeps_value fs (record { main = m; join = j; root = r }) body e is main join root
by_params fs [] body e is main join root = absurd (none_some is)
by_params fs (m ∷ []) body e is main join root = absurd (none_some is)
by_params fs (m ∷ j ∷ []) body e is main join root = absurd (none_some is)
by_params fs (m ∷ j ∷ r ∷ x ∷ xs) body e is main join root = absurd (none_some is)

by_merge : (o : Option MergeDef) (e : Expression) → option_and_then term_by o ≡ Some e → (main join root : ℤ)
    → answer_of e main join root ≡ merge_answer (merged_by o (v.Int main) (v.Int join) (v.Int root))
unfolding answer_of
by_merge (Some d) e is main join root =
    ap merge_answer (sym (by_params (funs_of d.funs) d.params d.body e is main join root))
by_merge None e is main join root = absurd (none_some is)

pub has_value : HasMergesValue
unfolding merge_value_of
has_value p k e is main join root = by_merge (slice_get (merges_in p) k) e is main join root

-- ---- the declaration

-- declaration number n, counted from d, has the term of merge number k
abbrev Found : List FunDef → List Declaration → (d k n : ℕ) → Type 0
Found fs es d k n =
    (i : ℕ) × (n ≡ d + i)
    × (option_and_then term_in (slice_get es i) ≡ option_and_then term_by (slice_get (merges_after fs es) k))

further : (fs gs : List FunDef) (e : Declaration) (es : List Declaration) (d k l n : ℕ)
    → slice_get (merges_after gs (e ∷ es)) l ≡ slice_get (merges_after fs es) k → Found fs es (d + 1) k n
    → Found gs (e ∷ es) d l n
further fs gs e es d k l n same f =
    let at : n ≡ d + suc f.0 = (let a = f.1 in omega arith) in
    (suc f.0, at, f.2 ∙ ap (option_and_then term_by) (sym same))

found : (fs : List FunDef) (es : List Declaration) (d k n : ℕ) → slice_get (merge_decls d es) k ≡ Some n
    → Found fs es d k n
found fs [] d k n is = absurd (none_some is)
found fs (fun w params result body ∷ es) d k n is =
    further (fun_def w params body ∷ fs) fs _ es d k k n refl (found (fun_def w params body ∷ fs) es (d + 1) k n is)
found fs (merge w m j r body ∷ es) d zero n is = (0, (let e : d ≡ n = number_of is in omega arith), refl)
found fs (merge w m j r body ∷ es) d (suc k) n is = further fs fs _ es d k (suc k) n refl (found fs es (d + 1) k n is)
found fs (shared x ∷ es) d k n is = further fs fs _ es d k k n refl (found fs es (d + 1) k n is)
found fs (proc w params result body ∷ es) d k n is = further fs fs _ es d k k n refl (found fs es (d + 1) k n is)

-- the declaration of a merge has its term
pub declared_term : (p : ProgramTree) (k n : ℕ) → slice_get (merge_decls 0 p.declarations) k ≡ Some n
    → option_and_then term_in (slice_get p.declarations n) ≡ term_of p k
declared_term p k n is =
    let f = found [] p.declarations 0 k n is in
    let at : n ≡ f.0 = (let a = f.1 in omega arith) in
    ap (λ i. option_and_then term_in (slice_get p.declarations i)) at ∙ f.2

merge_number : (ms : List MergeRef) (k : ℕ) (d : MergeRef) → k < length ms
    → slice_get (map (λ m. m.decl) ms) k ≡ Some ((get_or ms k d).decl)
merge_number ms k d h = slice_get-map (λ m. m.decl) ms k ∙ ap (option_map (λ m. m.decl)) (slice_get-get_or ms k d h)

pub listed : (x : Expanded) (ms : List MergeRef) (k : ℕ) → ms ≡ x.merges → k < length x.merges
    → slice_get (merge_decls 0 (map declaration x.program.decls.items)) k
    ≡ Some ((get_or {A = MergeRef} ms k (record { decl = 0 })).decl)
listed x ms k e h =
    ap (λ ds. slice_get ds k) (sym x.merges_listed) ∙ merge_number x.merges k (record { decl = 0 }) h
    ∙ ap (λ l. Some ((get_or {A = MergeRef} l k (record { decl = 0 })).decl)) (sym e)
