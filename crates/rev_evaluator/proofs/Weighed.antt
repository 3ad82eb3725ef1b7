-- The weights of funs by name and by number.
use Rattle.std.proofs.Common.{◌≡◌, ◌∙◌, ℕ, zero, suc, ◌+◌, ◌<◌, Bool, true, false, if◌then◌else◌, List, [], ◌∷◌, take, length, Option, Some, None, slice_get, option_and_then, refl, sym, ap, arith}
use Rattle.rev_syntax.specs.Trees.{Expression, Declaration, fun, merge, shared, proc, ProgramTree}
use Rattle.name_tables.specs.Names.{Name, same}
use Rattle.name_tables.specs.Table.{Table, find, added}
use Rattle.typed_programs.specs.FunRules.{first_fun, merge_decls}
use Rattle.typed_programs.specs.Evaluation.{body_at, fun_body}
use Rattle.typed_programs.specs.Weights.{known_weight, expression_weight, weights_with, weights_after, weights_before, weight_by, weight_at, weight_within, name_within, weight_of, merge_weight, declaration_weight}
use Rattle.typed_programs.specs.declared.expanded.FunHead.{FunHead}
use Rattle.name_tables.proofs.Tables.{or_else, find-added}

-- what a name has it keeps
stays : (name : Name) (x : ℕ) (ws : Table ℕ) (es : List Declaration) → find name ws ≡ Some x
    → find name (weights_after ws es) ≡ Some x
stays name x ws [] h = h
stays name x ws (fun w ps r body ∷ es) h =
    stays name x (added ws w.text (expression_weight ws body)) es
    (find-added name w.text (expression_weight ws body) ws
    ∙ ap (λ o. or_else o (if same name w.text then Some (expression_weight ws body) else None)) h)
stays name x ws (merge w m j r body ∷ es) h = stays name x ws es h
stays name x ws (shared y ∷ es) h = stays name x ws es h
stays name x ws (proc w ps r body ∷ es) h = stays name x ws es h

-- the first fun of a name is at number i, and from there on the name has its weight
abbrev Known : Name → ℕ → List Declaration → FunHead → Type 0
Known name d es head =
    (i : ℕ) × (head.decl ≡ d + i)
    × ((ws : Table ℕ) (n : ℕ) → find name ws ≡ None → i < n
    → find name (weights_after ws (take n es)) ≡ Some (weight_by (weights_after ws (take i es)) (slice_get es i)))

module _ (name : Name) (head : FunHead) where
  next : (d : ℕ) (e : Declaration) (es : List Declaration)
      → ((ws : Table ℕ) → find name ws ≡ None → find name (weights_with ws e) ≡ None) → Known name (d + 1) es head
      → Known name d (e ∷ es) head
  next d e es none k = (suc k.0, (let q = k.1 in omega arith), at)
    where
      at : (ws : Table ℕ) (n : ℕ) → find name ws ≡ None → suc k.0 < n
          → find name (weights_after ws (take n (e ∷ es)))
          ≡ Some (weight_by (weights_after ws (take (suc k.0) (e ∷ es))) (slice_get (e ∷ es) (suc k.0)))
      at ws zero h l = absurd (omega arith)
      at ws (suc n) h l = k.2 (weights_with ws e) n (none ws h) (omega arith)

  known : (d k : ℕ) (es : List Declaration) → first_fun d k es name ≡ Some head → Known name d es head
  known d k [] h = cc
  known d k (fun w ps r body ∷ es) h = by (same name w.text) refl h (known (d + 1) (k + 1) es)
    where
      here : (ws : Table ℕ) (n : ℕ) → same name w.text ≡ true → find name ws ≡ None → 0 < n
          → find name (weights_after ws (take n (fun w ps r body ∷ es))) ≡ Some (expression_weight ws body)
      here ws zero q e l = absurd (omega arith)
      here ws (suc n) q e l =
          stays name (expression_weight ws body) (added ws w.text (expression_weight ws body)) (take n es)
          (find-added name w.text (expression_weight ws body) ws
          ∙ (λ i. or_else (e i) (if q i then Some (expression_weight ws body) else None)))

      other : same name w.text ≡ false → (ws : Table ℕ) → find name ws ≡ None
          → find name (added ws w.text (expression_weight ws body)) ≡ None
      other q ws e =
          find-added name w.text (expression_weight ws body) ws
          ∙ (λ i. or_else (e i) (if q i then Some (expression_weight ws body) else None))

      by : (b : Bool) → same name w.text ≡ b
          → (if b then Some (record { decl = d; number = k; params = length ps })
          else first_fun (d + 1) (k + 1) es name)
          ≡ Some head
          → (first_fun (d + 1) (k + 1) es name ≡ Some head → Known name (d + 1) es head)
          → Known name d (fun w ps r body ∷ es) head
      by true q g rest = (0, (let e : head.decl ≡ d = cc in omega arith), λ ws n e l. here ws n q e l)
      by false q g rest = next d (fun w ps r body) es (other q) (rest g)
  known d k (merge w m j r body ∷ es) h = next d (merge w m j r body) es (λ ws e. e) (known (d + 1) k es h)
  known d k (shared x ∷ es) h = next d (shared x) es (λ ws e. e) (known (d + 1) k es h)
  known d k (proc w ps r body ∷ es) h = next d (proc w ps r body) es (λ ws e. e) (known (d + 1) k es h)

-- the weight of a name is that of the fun that it means
pub name_weight : (es : List Declaration) (n : ℕ) (name : Name) (head : FunHead) → first_fun 0 0 es name ≡ Some head
    → head.decl < n → weight_at es head.decl ≡ name_within es n name
unfolding weights_before weight_at
name_weight es n name head h early =
    let k = known name head 0 0 es h in
    let at : head.decl ≡ k.0 = (let q = k.1 in omega arith) in
    ap (λ d. weight_by (weights_after [] (take d es)) (slice_get es d)) at
    ∙ sym (ap known_weight (k.2 [] n refl (omega arith)))

weight_some : (ws : Table ℕ) (o : Option Declaration) (body : Expression) → option_and_then fun_body o ≡ Some body
    → weight_by ws o ≡ expression_weight ws body
weight_some ws None body h = cc
weight_some ws (Some (fun w ps r b)) body h = ap (expression_weight ws) (some b body h)
  where
    some : (b c : Expression) → Some b ≡ Some c → b ≡ c
    some b c h = cc
weight_some ws (Some (merge w m j r b)) body h = cc
weight_some ws (Some (shared x)) body h = cc
weight_some ws (Some (proc w ps r b)) body h = cc

-- the weight of a fun is that of its body
pub body_weight : (es : List Declaration) (d : ℕ) (body : Expression) → body_at es d ≡ Some body
    → weight_at es d ≡ weight_within es d body
unfolding body_at weight_at
body_weight es d body h = weight_some (weights_before es d) (slice_get es d) body h

-- the weight of a merge by the number of its declaration
pub merge_weighs : (p : ProgramTree) (k d : ℕ) (e : Declaration) → slice_get (merge_decls 0 p.declarations) k ≡ Some d
    → Some e ≡ slice_get p.declarations d → declaration_weight (weights_before p.declarations d) e ≡ merge_weight p k
unfolding merge_weight weight_at
merge_weighs p k d e h g = ap (weight_by (weights_before p.declarations d)) g ∙ ap (weight_of p.declarations) (sym h)
