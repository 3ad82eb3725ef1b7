-- The loops over the applications and the funs of a program, a turn each.
use Rattle.std.proofs.Common.{◌≡◌, ◌∙◌, ℕ, ◌+◌, ◌<◌, List, ◌∷◌, Option, Some, length, get_or, map, if◌then◌else◌, Vec, Global, drop, refl, sym, ap}
use Rattle.rev_num.specs.declared.value.ValueKind.{ValueKind}
use Rattle.rev_syntax.specs.Trees.{Declaration}
use Rattle.rev_syntax.specs.View.{declaration, parameter}
use Rattle.rev_syntax.specs.declared.tree.Name.{Name as RName}
use Rattle.rev_syntax.specs.declared.tree.Param.{Param}
use Rattle.rev_syntax.specs.declared.tree.Expr.{Expr}
use Rattle.rev_syntax.specs.declared.tree.Decl.{Decl}
use Rattle.rev_syntax.specs.declared.tree.Decl.TheVariants as decl
use Rattle.name_tables.specs.Names.{Name, same}
use Rattle.name_tables.specs.Table.{Table, find, added}
use Rattle.name_tables.proofs.Tables.{or_else, find-added, or_else-step}
use Rattle.typed_programs.specs.FunRules as rule
use Rattle.typed_programs.specs.Least.{first_of, least}
use Rattle.merge_decl.specs.Uses.{use_of, uses_of}
use Rattle.merge_decl.specs.declared.uses.Use as held
use Rattle.typed_programs.specs.declared.expanded.FunHead.{FunHead}
use Rattle.typed_programs.specs.declared.fun_fault.MergeFault.{MergeFault}
use Rattle.typed_programs.proofs.Leasts.{first_of-assoc, least-append}
use Rattle.typed_programs.proofs.Declared.{drop_at}

pub broken_step : (named : Name → Option FunHead) (us : List held.Use) (i : ℕ) (u : held.Use)
    (best b b' all : Option MergeFault)
    → i < length us → u ≡ get_or us i u
    → b ≡ least rule.place rule.rank (rule.broken_by (use_of u) (named u.name.now.text.items))
    → b' ≡ first_of rule.place rule.rank best b
    → first_of rule.place rule.rank best (least rule.place rule.rank (rule.broken_in named (uses_of (drop i us)))) ≡ all
    → first_of rule.place rule.rank b' (least rule.place rule.rank (rule.broken_in named (uses_of (drop (i + 1) us))))
    ≡ all
broken_step named us i u best b b' all h e p q r =
    let here = rule.broken_by (use_of u) (named u.name.now.text.items) in
    let rest = rule.broken_in named (uses_of (drop (i + 1) us)) in
    ap (λ x. first_of rule.place rule.rank x (least rule.place rule.rank rest))
    (q ∙ ap (λ x. first_of rule.place rule.rank best x) p)
    ∙ first_of-assoc rule.place rule.rank best (least rule.place rule.rank here) (least rule.place rule.rank rest)
    ∙ ap (λ x. first_of rule.place rule.rank best x) (sym (least-append rule.place rule.rank here rest))
    ∙ ap (λ l. first_of rule.place rule.rank best (least rule.place rule.rank (rule.broken_in named (uses_of l))))
    (sym (drop_at us i u h e))
    ∙ r

-- a declaration that is no fun
other_decl : (d : Decl) → ((x : RName) (ps : Vec Param Global) (r : ValueKind) (b : Expr) → d ≡ decl.Fun x ps r b → ⊥)
    → (i k : ℕ) (rest : List Declaration) (name : Name)
    → rule.first_fun i k (declaration d ∷ rest) name ≡ rule.first_fun (i + 1) k rest name
other_decl (decl.Fun x ps r b) h i k rest name = absurd (h x ps r b refl)
other_decl (decl.Merge x m j r b) h i k rest name = refl
other_decl (decl.Shared x by at holds size first) h i k rest name = refl
other_decl (decl.Proc x ps r b) h i k rest name = refl

abbrev found_from : Table FunHead → ℕ → ℕ → List Decl → Name → Option FunHead
found_from t i k ds name = or_else (find name t) (rule.first_fun i k (map declaration ds) name)

pub other_turn : (ds : List Decl) (i k k' : ℕ) (d : Decl) (t t' : Table FunHead) (name : Name) (all : Option FunHead)
    → i < length ds → d ≡ get_or ds i d
    → ((x : RName) (ps : Vec Param Global) (r : ValueKind) (b : Expr) → d ≡ decl.Fun x ps r b → ⊥) → t' ≡ t → k' ≡ k
    → found_from t i k (drop i ds) name ≡ all → found_from t' (i + 1) k' (drop (i + 1) ds) name ≡ all
other_turn ds i k k' d t t' name all h e n p q r =
    (λ j. found_from (p j) (i + 1) (q j) (drop (i + 1) ds) name)
    ∙ ap (λ x. or_else (find name t) x) (sym (other_decl d n i k (map declaration (drop (i + 1) ds)) name))
    ∙ ap (λ l. found_from t i k l name) (sym (drop_at ds i d h e))
    ∙ r

pub fun_turn : (ds : List Decl) (i k k' : ℕ) (d : Decl) (t t' : Table FunHead) (name : Name) (all : Option FunHead)
    (x : RName) (ps : Vec Param Global) (r : ValueKind) (b : Expr) (key : Name) (params : ℕ)
    → i < length ds → d ≡ get_or ds i d → d ≡ decl.Fun x ps r b → key ≡ x.text.items
    → params ≡ length (map parameter ps.items)
    → t' ≡ added t key (rule.head i k params) → k' ≡ k + 1
    → found_from t i k (drop i ds) name ≡ all → found_from t' (i + 1) k' (drop (i + 1) ds) name ≡ all
fun_turn ds i k k' d t t' name all x ps r b key params h e is p l a q goes =
    let rest = rule.first_fun (i + 1) (k + 1) (map declaration (drop (i + 1) ds)) name in
    (λ j. found_from (a j) (i + 1) (q j) (drop (i + 1) ds) name)
    ∙ ap (λ o. or_else o rest) (find-added name key (rule.head i k params) t)
    ∙ or_else-step (find name t) (same name key) (rule.head i k params) rest
    ∙ (λ j. or_else (find name t) (if same name (p j) then Some (rule.head i k (l j)) else rest))
    ∙ ap (λ y. or_else (find name t) (rule.first_fun i k (declaration y ∷ map declaration (drop (i + 1) ds)) name))
    (sym is)
    ∙ ap (λ l. found_from t i k l name) (sym (drop_at ds i d h e))
    ∙ goes
