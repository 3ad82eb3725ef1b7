-- Which fun a name means among the first declarations of a program.
use Rattle.std.proofs.Common.{◌≡◌, ◌∙◌, ℕ, zero, suc, ◌+◌, ◌<◌, ◌≤◌, Bool, true, false, if◌then◌else◌, List, [], ◌∷◌, take, length, Option, Some, None, slice_get, get_or, option_and_then, option_map, Vec, Global, refl, sym, ap, arith}
use Rattle.rev_num.specs.declared.value.Value.{Value}
use Rattle.rev_syntax.specs.Trees.{PlacedName, Expression, Declaration, fun, merge, shared, proc, ProgramTree}
use Rattle.name_tables.specs.Names.{Name, same}
use Rattle.typed_programs.specs.FunRules.{first_fun, merge_decls}
use Rattle.std.specs.Option.{option_or}
use Rattle.typed_programs.specs.Value.{Fun, FunDef, funs_of, fun_value, called, bind_all, nothing, some_value}
use Rattle.typed_programs.specs.Definitions.{funs_after, fun_def, merge_def, merges_after, merged_by, merge_value_of}
use Rattle.typed_programs.specs.Evaluation.{funs_before, value_within, fun_params, fun_body, params_in, params_at, body_within, body_at, value_of_body, IsMeant, declaration_value}
use Rattle.typed_programs.specs.Expands.{decls_of_merges}
use Rattle.typed_programs.specs.declared.expanded.FunHead.{FunHead}
use Rattle.typed_programs.specs.declared.expanded.MergeRef.{MergeRef}
use Rattle.rev_syntax.specs.View.{declaration}
use Rattle.rev_num.specs.declared.value.ValueKind.{ValueKind}
use Rattle.rev_syntax.specs.declared.tree.Param.{Param}
use Rattle.rev_syntax.specs.declared.tree.Name.{Name as RName}
use Rattle.rev_syntax.specs.declared.tree.Expr.{Expr}
use Rattle.rev_syntax.specs.declared.tree.Decl.{Decl}
use Rattle.rev_syntax.specs.declared.tree.Decl.TheVariants as decl
use Rattle.std.proofs.lemmas.Option.{slice_get-map, slice_get-get_or}

-- the fun of a declaration that may apply these funs
abbrev fun_of : List FunDef → Option Declaration → Option Fun
fun_of fs (Some (fun w params result body)) = Some (fun_value (funs_of fs) (fun_def w params body))
fun_of fs _ = None

-- the first fun of a name among these declarations, behind these funs
abbrev fun_in : List FunDef → List Declaration → Name → Option Fun
fun_in fs [] name = None
fun_in fs (fun w params result body ∷ es) name =
    if same name w.text then Some (fun_value (funs_of fs) (fun_def w params body))
    else fun_in (fun_def w params body ∷ fs) es name
fun_in fs (merge w m j r body ∷ es) name = fun_in fs es name
fun_in fs (shared x ∷ es) name = fun_in fs es name
fun_in fs (proc w params result body ∷ es) name = fun_in fs es name

earlier_step : (o : Option Fun) (b : Bool) (f : Fun) (r : Option Fun)
    → option_or (option_or o (if b then Some f else None)) r ≡ option_or o (if b then Some f else r)
earlier_step None true f r = refl
earlier_step None false f r = refl
earlier_step (Some x) b f r = refl

earlier_none : (o : Option Fun) → o ≡ option_or o None
earlier_none None = refl
earlier_none (Some f) = refl

funs_split : (fs : List FunDef) (es : List Declaration) (name : Name)
    → funs_of (funs_after fs es) name ≡ option_or (funs_of fs name) (fun_in fs es name)
funs_split fs [] name = earlier_none (funs_of fs name)
funs_split fs (fun w params result body ∷ es) name =
    funs_split (fun_def w params body ∷ fs) es name
    ∙ earlier_step (funs_of fs name) (same name w.text) (fun_value (funs_of fs) (fun_def w params body))
    (fun_in (fun_def w params body ∷ fs) es name)
funs_split fs (merge w m j r body ∷ es) name = funs_split fs es name
funs_split fs (shared x ∷ es) name = funs_split fs es name
funs_split fs (proc w params result body ∷ es) name = funs_split fs es name

-- whether the first number is below the second
abbrev below : ℕ → ℕ → Bool
below i zero = false
below zero (suc n) = true
below (suc i) (suc n) = below i n

is_below : (i n : ℕ) → i < n → below i n ≡ true
is_below i zero h = absurd (omega arith)
is_below zero (suc n) h = refl
is_below (suc i) (suc n) h = is_below i n (omega arith)

not_below : (i n : ℕ) → n ≤ i → below i n ≡ false
not_below i zero h = refl
not_below zero (suc n) h = absurd (omega arith)
not_below (suc i) (suc n) h = not_below i n (omega arith)

-- the first of a name among the first n declarations, where declaration number i is the first of all
abbrev Place : List Declaration → Name → ℕ → Type 0
Place es name i =
    (fs : List FunDef) (n : ℕ)
    → fun_in fs (take n es) name ≡ (if below i n then fun_of (funs_after fs (take i es)) (slice_get es i) else None)

-- where the head says that the first of a name is
abbrev Placed : ℕ → List Declaration → Name → Option FunHead → Type 0
Placed d es name None = (fs : List FunDef) (n : ℕ) → fun_in fs (take n es) name ≡ None
Placed d es name (Some h) = (i : ℕ) × (h.decl ≡ d + i) × Place es name i

module _ (name : Name) where
  behind : (d : ℕ) (e : Declaration) (es : List Declaration) (o : Option FunHead) (grow : List FunDef → List FunDef)
      → ((fs : List FunDef) (xs : List Declaration) → fun_in fs (e ∷ xs) name ≡ fun_in (grow fs) xs name)
      → ((fs : List FunDef) (xs : List Declaration) → funs_after fs (e ∷ xs) ≡ funs_after (grow fs) xs)
      → Placed (d + 1) es name o → Placed d (e ∷ es) name o
  behind d e es None grow p q h = at
    where
      at : (fs : List FunDef) (n : ℕ) → fun_in fs (take n (e ∷ es)) name ≡ None
      at fs zero = refl
      at fs (suc n) = p fs (take n es) ∙ h (grow fs) n
  behind d e es (Some head) grow p q h = (suc h.0, (let k = h.1 in omega arith), at)
    where
      at : (fs : List FunDef) (n : ℕ)
          → fun_in fs (take n (e ∷ es)) name
          ≡ (if below (suc h.0) n then fun_of (funs_after fs (take (suc h.0) (e ∷ es))) (slice_get (e ∷ es) (suc h.0))
          else None)
      at fs zero = refl
      at fs (suc n) =
          p fs (take n es) ∙ h.2 (grow fs) n
          ∙ ap (λ gs. if below h.0 n then fun_of gs (slice_get es h.0) else None) (sym (q fs (take h.0 es)))

  -- the head of the first fun of a name is where the name means a fun
  placed : (d k : ℕ) (es : List Declaration) → Placed d es name (first_fun d k es name)
  placed d k [] = none
    where
      none : (fs : List FunDef) (n : ℕ) → fun_in fs (take n []) name ≡ None
      none fs zero = refl
      none fs (suc n) = refl
  placed d k (fun w params result body ∷ es) = by (same name w.text) refl (placed (d + 1) (k + 1) es)
    where
      here : (fs : List FunDef) (n : ℕ) → same name w.text ≡ true
          → fun_in fs (take n (fun w params result body ∷ es)) name
          ≡ (if below 0 n then fun_of (funs_after fs []) (Some (fun w params result body)) else None)
      here fs zero q = refl
      here fs (suc n) q =
          ap (λ c. if c then Some (fun_value (funs_of fs) (fun_def w params body))
          else fun_in (fun_def w params body ∷ fs) (take n es) name)
          q

      by : (c : Bool) → same name w.text ≡ c → Placed (d + 1) es name (first_fun (d + 1) (k + 1) es name)
          → Placed d (fun w params result body ∷ es) name
          (if c then Some (record { decl = d; number = k; params = length params })
          else first_fun (d + 1) (k + 1) es name)
      by true q h = (0, omega arith, λ fs n. here fs n q)
      by false q h =
          behind d (fun w params result body) es (first_fun (d + 1) (k + 1) es name) (λ fs. fun_def w params body ∷ fs)
          (λ fs xs.
          ap (λ c. if c then Some (fun_value (funs_of fs) (fun_def w params body))
          else fun_in (fun_def w params body ∷ fs) xs name)
          q)
          (λ fs xs. refl) h
  placed d k (merge w m j r body ∷ es) =
      behind d (merge w m j r body) es (first_fun (d + 1) k es name) (λ fs. fs) (λ fs xs. refl) (λ fs xs. refl)
      (placed (d + 1) k es)
  placed d k (shared x ∷ es) =
      behind d (shared x) es (first_fun (d + 1) k es name) (λ fs. fs) (λ fs xs. refl) (λ fs xs. refl)
      (placed (d + 1) k es)
  placed d k (proc w params result body ∷ es) =
      behind d (proc w params result body) es (first_fun (d + 1) k es name) (λ fs. fs) (λ fs xs. refl) (λ fs xs. refl)
      (placed (d + 1) k es)

module _ (es : List Declaration) (name : Name) (n : ℕ) where
  before : funs_before es n name ≡ fun_in [] (take n es) name
  unfolding funs_before
  before = funs_split [] (take n es) name

  before_none : (o : Option FunHead) → Placed 0 es name o → o ≡ None → funs_before es n name ≡ None
  before_none None h e = before ∙ h [] n
  before_none (Some head) h e = cc

  before_some : (o : Option FunHead) (head : FunHead) → Placed 0 es name o → o ≡ Some head
      → funs_before es n name
      ≡ (if below head.decl n then fun_of (funs_after [] (take head.decl es)) (slice_get es head.decl) else None)
  before_some None head h e = cc
  before_some (Some x) head h e =
      before ∙ h.2 [] n ∙ ap (λ i. if below i n then fun_of (funs_after [] (take i es)) (slice_get es i) else None) at
    where
      at : h.0 ≡ head.decl
      at = let k = h.1 in let q : x.decl ≡ head.decl = cc in omega arith

-- the value of a fun is that of its body
called_body : (es : List Declaration) (d : ℕ) (o : Option Declaration) (xs : List Value)
    → called (fun_of (funs_after [] (take d es)) o) xs
    ≡ body_within es d (bind_all nothing (params_in o) xs) (option_and_then fun_body o)
unfolding value_within funs_before
called_body es d (Some (fun w params result body)) xs = refl
called_body es d (Some (merge w m j r body)) xs = refl
called_body es d (Some (shared x)) xs = refl
called_body es d (Some (proc w params result body)) xs = refl
called_body es d None xs = refl

pub meant_none : (es : List Declaration) (n : ℕ) (name : Name) → first_fun 0 0 es name ≡ None → IsMeant es n name None
unfolding value_of_body
meant_none es n name h =
    λ xs. ap (λ f. called f xs) (before_none es name n (first_fun 0 0 es name) (placed name 0 0 es) h)

pub meant_later : (es : List Declaration) (n : ℕ) (name : Name) (head : FunHead) → first_fun 0 0 es name ≡ Some head
    → n ≤ head.decl → IsMeant es n name None
unfolding value_of_body
meant_later es n name head h late = λ xs.
    ap (λ f. called f xs) (before_some es name n (first_fun 0 0 es name) head (placed name 0 0 es) h
    ∙ ap (λ b. if b then fun_of (funs_after [] (take head.decl es)) (slice_get es head.decl) else None)
    (not_below head.decl n late))

pub meant_some : (es : List Declaration) (n : ℕ) (name : Name) (head : FunHead) → first_fun 0 0 es name ≡ Some head
    → head.decl < n → IsMeant es n name (Some head.decl)
unfolding value_of_body body_at params_at
meant_some es n name head h early = λ xs.
    ap (λ f. called f xs) (before_some es name n (first_fun 0 0 es name) head (placed name 0 0 es) h
    ∙ ap (λ b. if b then fun_of (funs_after [] (take head.decl es)) (slice_get es head.decl) else None)
    (is_below head.decl n early))
    ∙ called_body es head.decl (slice_get es head.decl) xs

-- ---- merges

-- a merge by the number of its declaration, counted from d, and by its number among the merges
abbrev IsMergeAt : List Declaration → ℕ → ℕ → ℕ → List FunDef → Type 0
IsMergeAt es d x k fs =
    (i : ℕ) × (x ≡ d + i) × (w : PlacedName) × (m : PlacedName) × (j : PlacedName) × (r : PlacedName)
    × (body : Expression)
    × (slice_get es i ≡ Some (merge w m j r body))
    × (slice_get (merges_after fs es) k ≡ Some (merge_def (funs_after fs (take i es)) w m j r body))

abbrev later : (es : List Declaration) (d x k : ℕ) (fs gs : List FunDef) (e : Declaration)
    → ((xs : List Declaration) → funs_after fs (e ∷ xs) ≡ funs_after gs xs)
    → ((xs : List Declaration) → merges_after fs (e ∷ xs) ≡ merges_after gs xs) → IsMergeAt es (d + 1) x k gs
    → IsMergeAt (e ∷ es) d x k fs
later es d x k fs gs e p q h = (
  suc h.0,
  (let g = h.1 in omega arith),
  h.2,
  h.3,
  h.4,
  h.5,
  h.6,
  h.7,
  ap (λ ms. slice_get ms k) (q es) ∙ h.8 ∙ ap (λ gs'. Some (merge_def gs' h.2 h.3 h.4 h.5 h.6)) (sym (p (take h.0 es))),
)

merge_at : (es : List Declaration) (d x k : ℕ) (fs : List FunDef) → slice_get (merge_decls d es) k ≡ Some x
    → IsMergeAt es d x k fs
merge_at [] d x k fs h = cc
merge_at (fun w params result body ∷ es) d x k fs h =
    later es d x k fs (fun_def w params body ∷ fs) (fun w params result body) (λ xs. refl) (λ xs. refl)
    (merge_at es (d + 1) x k (fun_def w params body ∷ fs) h)
merge_at (shared y ∷ es) d x k fs h =
    later es d x k fs fs (shared y) (λ xs. refl) (λ xs. refl) (merge_at es (d + 1) x k fs h)
merge_at (proc w params result body ∷ es) d x k fs h =
    later es d x k fs fs (proc w params result body) (λ xs. refl) (λ xs. refl) (merge_at es (d + 1) x k fs h)
merge_at (merge w m j r body ∷ es) d x zero fs h =
    (0, (let e : d ≡ x = cc in omega arith), w, m, j, r, body, refl, refl)
merge_at (merge w m j r body ∷ es) d x (suc k) fs h =
    let g = merge_at es (d + 1) x k fs h in
    (suc g.0, (let e = g.1 in omega arith), g.2, g.3, g.4, g.5, g.6, g.7, g.8)

-- what is declared at the number of a merge's declaration
pub declared_value : (p : ProgramTree) (k x : ℕ) (o : Option Declaration) (a b c : Value)
    → slice_get (merge_decls 0 p.declarations) k ≡ Some x → o ≡ slice_get p.declarations x
    → (e : Declaration) × (o ≡ Some e) × (declaration_value p.declarations x e a b c ≡ merge_value_of p k a b c)
unfolding declaration_value value_within funs_before merge_value_of
declared_value p k x o a b c h e =
    let g = merge_at p.declarations 0 x k [] h in
    let q : g.0 ≡ x = (let y = g.1 in omega arith) in (
      merge g.2 g.3 g.4 g.5 g.6,
      e ∙ ap (slice_get p.declarations) (sym q) ∙ g.7,
      ap (λ y. merged_by (Some (merge_def (funs_after [] (take y p.declarations)) g.2 g.3 g.4 g.5 g.6)) a b c) (sym q)
          ∙ ap (λ m. merged_by m a b c) (sym g.8),
    )

-- a declaration that is no fun

pub no_params : (d : Decl)
    → ((x : RName) (ps : Vec Param Global) (r : ValueKind) (body : Expr) → d ≡ decl.Fun x ps r body → ⊥)
    → [] ≡ fun_params (declaration d)
no_params (decl.Fun x ps r body) h = absurd (h x ps r body refl)
no_params (decl.Merge x m j r body) h = refl
no_params (decl.Shared x by at holds size first) h = refl
no_params (decl.Proc x ps r body) h = refl

pub no_body : (d : Decl)
    → ((x : RName) (ps : Vec Param Global) (r : ValueKind) (body : Expr) → d ≡ decl.Fun x ps r body → ⊥)
    → None ≡ fun_body (declaration d)
no_body (decl.Fun x ps r body) h = absurd (h x ps r body refl)
no_body (decl.Merge x m j r body) h = refl
no_body (decl.Shared x by at holds size first) h = refl
no_body (decl.Proc x ps r body) h = refl

-- a declaration that is no merge
pub no_merge : (es : List Declaration) (n : ℕ) (d : Decl) (a b c : Value)
    → ((x : RName) (m : RName) (j : RName) (r : RName) (body : Expr) → d ≡ decl.Merge x m j r body → ⊥)
    → some_value ≡ declaration_value es n (declaration d) a b c
unfolding declaration_value
no_merge es n (decl.Fun x ps r body) a b c h = refl
no_merge es n (decl.Merge x m j r body) a b c h = absurd (h x m j r body refl)
no_merge es n (decl.Shared x by at holds size first) a b c h = refl
no_merge es n (decl.Proc x ps r body) a b c h = refl

-- the declaration of a merge by the merge's number
pub merge_number : (ms : List MergeRef) (k : ℕ) (d : MergeRef) → k < length ms
    → slice_get (decls_of_merges ms) k ≡ Some ((get_or ms k d).decl)
merge_number ms k d h = slice_get-map (λ m. m.decl) ms k ∙ ap (option_map (λ m. m.decl)) (slice_get-get_or ms k d h)
