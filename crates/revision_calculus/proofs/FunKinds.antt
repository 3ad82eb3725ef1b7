-- The funs and the merges of a well-typed program give values of their kinds.
use Rattle.std.proofs.Common.{◌≡◌, ◌∙◌, ◌≢◌, ◌⊎◌, inl, inr, ℕ, zero, suc, ◌+◌, Bool, true, false, cond, ◌&&◌, IsTrue, List, [], ◌∷◌, length, Option, Some, None, refl, sym, ap, subst, arith}
use Rattle.std.specs.Prelude.{nat_le, if◌then◌else◌, slice_get}
use Rattle.std.specs.List.{list_all}
use Rattle.std.proofs.lemmas.Bool.{leb-false}
use Rattle.rev_num.specs.declared.value.Value.{Value}
use Rattle.rev_num.specs.declared.value.ValueKind.{ValueKind}
use Rattle.rev_num.specs.declared.value.ValueKind.TheVariants as k
use Rattle.rev_syntax.specs.Trees.{PlacedName, Parameter, Expression, Declaration, fun, merge, shared, proc, ProgramTree}
use Rattle.rev_syntax.specs.Small.{name_formed, expression_formed, expression_small, parameter_formed, declaration_small}
use Rattle.name_tables.specs.Names.{Name, same}
use Rattle.name_tables.specs.Table.{find, added}
use Rattle.typed_programs.specs.FunRules.{Use, expression_uses, statements_uses, later_here, broken_by, broken_in, declarations_uses, first_fun}
use Rattle.typed_programs.specs.FunRules as rule
use Rattle.typed_programs.specs.declared.expanded.FunHead.{FunHead}
use Rattle.std.specs.Option.{option_or}
use Rattle.typed_programs.specs.Value.{Fun, Funs, FunDef, bind, bind_all, nothing, inside, fun_value, funs_of}
use Rattle.typed_programs.specs.Definitions.{names_of, fun_def, funs_after, funs_in, MergeDef, merge_def, merges_after, merges_in, merged, merge_value_of}
use Rattle.typed_programs.specs.Definitions as definition
use Rattle.name_tables.proofs.Tables.{same_equal, or_else, or_else-none, or_else-step, find-added}
use Rattle.typed_programs.specs.Kinds.{Callee, Names, Locals}
use Rattle.typed_programs.specs.Typing.{HasKind}
use Rattle.typed_programs.proofs.Lists.{parts, failed, and_parts}
use Rattle.typed_programs.specs.Scopes.{fun_named, outside, within, with_params, merge_locals, int_param}
use Rattle.typed_programs.proofs.Uses.{OfUses, uses_fine}
use Rattle.typed_programs.specs.Judgement.{ParamsNew, DeclarationsTyped, ProgramTyped}
use Rattle.typed_programs.proofs.Applying.{broken_parts, small_formed}
use Rattle.typed_programs.proofs.DeclsSound.{program_typed}
use Rattle.revision_calculus.specs.Kinded.{IsAccepted, IsOf, IsSomeOf}
use Rattle.revision_calculus.proofs.Values.{OfOk}
use Rattle.revision_calculus.proofs.ValueKinds.{EnvIs, ArgsAre, FunIs, uses_all, CanApply, value_is}
use Rattle.typed_programs.proofs.Firsts.{first_from, known_or_later}
use Rattle.typed_programs.proofs.MergeParams.{merge_new}

-- ---- parameters

bind_is : (w : Name) (t : ValueKind) (x : Value) (scope : Locals) (local : Name → Option Value) → find w scope ≡ None
    → IsOf t x
    → ((name : Name) (u : ValueKind) → find name scope ≡ Some (Some u) → IsSomeOf u (local name))
    → (name : Name) (u : ValueKind) → find name (added scope w (Some t)) ≡ Some (Some u)
    → IsSomeOf u (bind local w x name)
bind_is w t x scope local new is known name u h = by (same name w) refl (sym (find-added name w (Some t) scope) ∙ h)
  where
    by : (d : Bool) → same name w ≡ d → or_else (find name scope) (if d then Some (Some t) else None) ≡ Some (Some u)
        → IsSomeOf u (cond d (Some x) (local name))
    by true e q =
        let none : find name scope ≡ None = ap (λ y. find y scope) (same_equal name w e) ∙ new in
        let found : Some (Some t) ≡ Some (Some u) = sym (ap (λ o. or_else o (Some (Some t))) none) ∙ q in
        is ∙ cc
    by false e q = known name u (sym (or_else-none (find name scope)) ∙ q)

params_are : (c : Names) (ps : List Parameter) (xs : List Value) (scope : Locals) (local : Name → Option Value)
    → ParamsNew c scope ps → ArgsAre ps xs
    → ((name : Name) (u : ValueKind) → find name scope ≡ Some (Some u) → IsSomeOf u (local name))
    → (name : Name) (u : ValueKind) → find name (with_params scope ps) ≡ Some (Some u)
    → IsSomeOf u (bind_all local (names_of ps) xs name)
params_are c [] [] scope local new is known name u h = known name u h
params_are c [] (x ∷ xs) scope local new is known name u h = absurd is
params_are c (p ∷ ps) [] scope local new is known name u h = absurd is
params_are c (p ∷ ps) (x ∷ xs) scope local new is known name u h =
    params_are c ps xs (added scope p.name.text (Some p.kind)) (bind local p.name.text x) new.1 is.1
    (bind_is p.name.text p.kind x scope local new.0.0 is.0 known) name u h

-- it gives an int for three ints
abbrev MergeIs : MergeDef → Type 0
MergeIs d = (m j r : Value) → IsOf k.Int m → IsOf k.Int j → IsOf k.Int r → OfOk (IsOf k.Int) (merged d m j r)

-- where names mean this inside of funs and merges
module _ (c : Names) (closed : (name : Name) → c.shared name ≡ None) where
  inside_is : (ps : List Parameter) (xs : List Value) → ParamsNew c [] ps → ArgsAre ps xs
      → EnvIs c (with_params [] ps) (inside (names_of ps) xs)
  inside_is ps xs new is = record {
    local = params_are c ps xs [] nothing new is (λ name u h. cc);
    shared = λ name h none e. absurd (let clash : None ≡ Some h = sym (closed name) ∙ e in cc);
  }

  -- ---- bodies

  fun_is : (fs : Funs) (w : PlacedName) (ps : List Parameter) (r : ValueKind) (body : Expression) (n : ℕ)
      → ParamsNew c [] ps → HasKind c (with_params [] ps) body r → IsTrue (expression_formed body)
      → OfUses (CanApply c fs n) (expression_uses n body)
      → FunIs (record { params = ps; result = Some r }) (Some (fun_value fs (fun_def w ps body)))
  fun_is fs w ps r body n new has formed us args is t e =
      let same : r ≡ t = (let q : Some r ≡ Some t = e in cc) in
      value_is c (with_params [] ps) fs (inside (names_of ps) args) (inside_is ps args new is) n body t us formed
      (subst (λ u. HasKind c (with_params [] ps) body u) same has)

  merge_is : (fs : List FunDef) (w m j r : PlacedName) (body : Expression) (n : ℕ)
      → (m.text ≢ j.text) × (m.text ≢ r.text) × (j.text ≢ r.text) → HasKind c (merge_locals m j r) body k.Int
      → IsTrue (expression_formed body)
      → OfUses (CanApply c (funs_of fs) n) (expression_uses n body)
      → MergeIs (merge_def fs w m j r body)
  merge_is fs w m j r body n differ has formed us x y z kx ky kz =
      let ps = int_param m ∷ int_param j ∷ int_param r ∷ [] in
      value_is c (merge_locals m j r) (funs_of fs) (inside (names_of ps) (x ∷ y ∷ z ∷ []))
      (inside_is ps (x ∷ y ∷ z ∷ []) new (kx, (ky, (kz, tt)))) n body k.Int us formed has
    where
      new : ParamsNew c [] (int_param m ∷ int_param j ∷ int_param r ∷ [])
      new = merge_new c closed m j r differ

-- ---- the declarations of a program, one after the other

-- a fun that is declared can be applied, and no other
abbrev Fits : Option Callee → Option Fun → Type 0
Fits None None = Unit {0}
Fits None (Some g) = ⊥
Fits (Some f) o = FunIs f o

fits_fun : (f : Callee) (o : Option Callee) (g : Option Fun) → Fits o g → o ≡ Some f → FunIs f g
fits_fun f None g is e = cc
fits_fun f (Some d) g is e = let same : d ≡ f = cc in subst (λ y. FunIs y g) same is

-- one more fun
fits_more : (known : Option Callee) (fun : Option Fun) (d : Bool) (f : Callee) (g : Fun) → Fits known fun
    → FunIs f (Some g) → Fits (or_else known (if d then Some f else None)) (option_or fun (if d then Some g else None))
fits_more None None true f g is more = more
fits_more None None false f g is more = tt
fits_more None (Some h) d f g is more = absurd is
fits_more (Some y) None d f g is more = absurd is
fits_more (Some y) (Some h) d f g is more = is

abbrev AreMerges : List MergeDef → Type 0
AreMerges [] = Unit {0}
AreMerges (d ∷ ds) = MergeIs d × AreMerges ds

module _ (p : ProgramTree) where
  abbrev inner : Names
  inner = within p.declarations

  -- the funs before these declarations: what they take, and what they give
  record Sofar (fs : List FunDef) (known : Name → Option Callee) (d n : ℕ) (rest : List Declaration) : Type 0 where
    fits : (name : Name) → Fits (known name) (funs_of fs name)
    all : (name : Name) → fun_named p.declarations name ≡ or_else (known name) (fun_named rest name)
    heads : (name : Name) (h : FunHead) → rule.fun_named p name ≡ Some h
        → ((f : Callee) × (known name ≡ Some f)) ⊎ (first_fun d n rest name ≡ Some h)

  can_use : (fs : List FunDef) (known : Name → Option Callee) (d n : ℕ) (rest : List Declaration)
      → Sofar fs known d n rest → (x : Use) → broken_by x (rule.fun_named p x.name.text) ≡ []
      → CanApply inner (funs_of fs) d x
  can_use fs known d n rest sofar x fine within f means = by (rule.fun_named p x.name.text) refl fine
    where
      before : (h : FunHead) → nat_le x.within h.decl ≡ false
          → ((g : Callee) × (known x.name.text ≡ Some g)) ⊎ (first_fun d n rest x.name.text ≡ Some h)
          → FunIs f (funs_of fs x.name.text)
      before h e (inl g) =
          let same : or_else (known x.name.text) (fun_named rest x.name.text) ≡ Some g.0 =
          ap (λ o. or_else o (fun_named rest x.name.text)) g.1 in
          fits_fun f (known x.name.text) (funs_of fs x.name.text) (sofar.fits x.name.text)
          (g.1 ∙ sym same ∙ sym (sofar.all x.name.text) ∙ means)
      before h e (inr q) =
          let from = first_from d n rest x.name.text h q in
          let less = leb-false x.within h.decl e in
          absurd (omega arith)

      by : (o : Option FunHead) → rule.fun_named p x.name.text ≡ o → broken_by x o ≡ []
          → FunIs f (funs_of fs x.name.text)
      by None e q = absurd cc
      by (Some h) e q =
          before h (failed (nat_le x.within h.decl) _ (parts (later_here x h) _ q).0) (sofar.heads x.name.text h e)

  can_apply : (fs : List FunDef) (known : Name → Option Callee) (d n : ℕ) (rest : List Declaration)
      → Sofar fs known d n rest → (xs : List Use) → broken_in (rule.fun_named p) xs ≡ []
      → OfUses (CanApply inner (funs_of fs) d) xs
  can_apply fs known d n rest sofar =
      uses_fine (CanApply inner (funs_of fs) d) (rule.fun_named p) (can_use fs known d n rest sofar)

  one_more : (fs : List FunDef) (known : Name → Option Callee) (d n : ℕ) (w : PlacedName) (ps : List Parameter)
      (r : ValueKind) (body : Expression) (es : List Declaration)
      → Sofar fs known d n (fun w ps r body ∷ es)
      → FunIs (record { params = ps; result = Some r }) (Some (fun_value (funs_of fs) (fun_def w ps body)))
      → Sofar (fun_def w ps body ∷ fs)
      (λ name. or_else (known name) (if same name w.text then Some (record { params = ps; result = Some r }) else None))
      (d + 1) (n + 1) es
  one_more fs known d n w ps r body es sofar is = record {
    fits = fits;
    all = all;
    heads = λ name h e. known_or_later (known name) f d n w ps r body es name h (sofar.heads name h e);
  }
    where
      f : Callee
      f = record { params = ps; result = Some r }

      more : Name → Option Callee
      more name = or_else (known name) (if same name w.text then Some f else None)

      fits : (name : Name)
          → Fits (or_else (known name) (if same name w.text then Some f else None))
          (funs_of (fun_def w ps body ∷ fs) name)
      fits name = fits_more (known name) (funs_of fs name) (same name w.text) f
          (fun_value (funs_of fs) (fun_def w ps body)) (sofar.fits name) is

      all : (name : Name)
          → fun_named p.declarations name
          ≡ or_else (or_else (known name) (if same name w.text then Some f else None)) (fun_named es name)
      all name = sofar.all name ∙ sym (or_else-step (known name) (same name w.text) f (fun_named es name))

  -- all funs can be applied, and all merges give ints
  record Declared (fs : List FunDef) (ds : List MergeDef) : Type 0 where
    funs : (name : Name) → Fits (fun_named p.declarations name) (funs_of fs name)
    merges : AreMerges ds

  declared : (fs : List FunDef) (known : Name → Option Callee) (d n all : ℕ) (before rest : List Declaration)
      → Sofar fs known d n rest → DeclarationsTyped (outside p.declarations) inner before rest
      → broken_in (rule.fun_named p) (declarations_uses all d rest) ≡ [] → IsTrue (list_all declaration_small rest)
      → Declared (funs_after fs rest) (merges_after fs rest)
  declared fs known d n all before [] sofar typed fine small = record {
    funs = λ name.
        subst (λ o. Fits o (funs_of fs name)) (sym (sofar.all name ∙ or_else-none (known name))) (sofar.fits name);
    merges = tt;
  }
  declared fs known d n all before (fun w ps r body ∷ es) sofar typed fine small =
      let uses = broken_parts (rule.fun_named p) (expression_uses d body) (declarations_uses all (d + 1) es) fine in
      let smalls = and_parts (declaration_small (fun w ps r body)) (list_all declaration_small es) small in
      let formed = and_parts (name_formed w && list_all parameter_formed ps) (expression_small body) smalls.0 in
      let is = fun_is inner (λ name. refl) (funs_of fs) w ps r body d typed.0.params typed.0.body
      (small_formed body formed.1)
      (can_apply fs known d n (fun w ps r body ∷ es) sofar (expression_uses d body) uses.0) in
      declared (fun_def w ps body ∷ fs) _ (d + 1) (n + 1) all (fun w ps r body ∷ before) es
      (one_more fs known d n w ps r body es sofar is) typed.1 uses.1 smalls.1
  declared fs known d n all before (merge w m j r body ∷ es) sofar typed fine small =
      let uses = broken_parts (rule.fun_named p) (expression_uses d body) (declarations_uses all (d + 1) es) fine in
      let smalls = and_parts (declaration_small (merge w m j r body)) (list_all declaration_small es) small in
      let formed =
      and_parts (name_formed w && name_formed m && name_formed j && name_formed r) (expression_small body) smalls.0 in
      let is = merge_is inner (λ name. refl) fs w m j r body d typed.0.params typed.0.body (small_formed body formed.1)
      (can_apply fs known d n (merge w m j r body ∷ es) sofar (expression_uses d body) uses.0) in
      let later =
      declared fs known (d + 1) n all (merge w m j r body ∷ before) es
      (record { fits = sofar.fits; all = sofar.all; heads = sofar.heads }) typed.1 uses.1 smalls.1 in
      record { funs = later.funs; merges = (is, later.merges) }
  declared fs known d n all before (shared x ∷ es) sofar typed fine small =
      let smalls = and_parts (declaration_small (shared x)) (list_all declaration_small es) small in
      declared fs known (d + 1) n all (shared x ∷ before) es
      (record { fits = sofar.fits; all = sofar.all; heads = sofar.heads }) typed.1 fine smalls.1
  declared fs known d n all before (proc w ps r body ∷ es) sofar typed fine small =
      let uses = broken_parts (rule.fun_named p) (statements_uses all body) (declarations_uses all (d + 1) es) fine in
      let smalls = and_parts (declaration_small (proc w ps r body)) (list_all declaration_small es) small in
      declared fs known (d + 1) n all (proc w ps r body ∷ before) es
      (record { fits = sofar.fits; all = sofar.all; heads = sofar.heads }) typed.1 uses.1 smalls.1

merge_at : (ds : List MergeDef) (n : ℕ) (m j r : Value) → AreMerges ds → IsOf k.Int m → IsOf k.Int j → IsOf k.Int r
    → OfOk (IsOf k.Int) (definition.merged_by (slice_get ds n) m j r)
merge_at [] n m j r are km kj kr = refl
merge_at (d ∷ ds) zero m j r are km kj kr = are.0 m j r km kj kr
merge_at (d ∷ ds) (suc n) m j r are km kj kr = merge_at ds n m j r are.1 km kj kr

module _ (p : ProgramTree) (well : IsAccepted p) where
  pub rules_kept : ProgramTyped p
  rules_kept = program_typed p well.small well.funs well.rules

  program_declared : Declared p (funs_in p) (merges_in p)
  program_declared =
      let uses =
      broken_parts (rule.fun_named p) (declarations_uses (length p.declarations) 0 p.declarations)
      (statements_uses (length p.declarations) p.main) well.funs in
      declared p [] (λ name. None) 0 0 (length p.declarations) [] p.declarations
      (record { fits = λ name. tt; all = λ name. refl; heads = λ name h e. inr e }) rules_kept.declarations uses.0
      well.small.declarations

  -- an expression outside of funs and merges may apply every fun
  pub funs_apply : (n : ℕ) (xs : List Use) → OfUses (CanApply (outside p.declarations) (funs_of (funs_in p)) n) xs
  funs_apply n xs =
      uses_all _
      (λ x within f means. fits_fun f _ (funs_of (funs_in p) x.name.text) (program_declared.funs x.name.text) means) xs

  -- a merge gives an int for three ints
  pub merges_give : (n : ℕ) (m j r : Value) → IsOf k.Int m → IsOf k.Int j → IsOf k.Int r
      → OfOk (IsOf k.Int) (merge_value_of p n m j r)
  unfolding merge_value_of
  merges_give n m j r = merge_at (merges_in p) n m j r program_declared.merges
