-- Where the handles of a changed local state come from.
use Rattle.std.proofs.Common.{◌≡◌, ◌⊎◌, inl, inr, ℕ, zero, suc, ◌+◌, Bool, true, false, cond, List, [], ◌∷◌, map, Option, Some, None, refl, ap, ◌∙◌}
use Rattle.rev_num.specs.Path.{Path}
use Rattle.rev_num.specs.declared.value.Value.{Value}
use Rattle.rev_num.specs.declared.value.Value.TheVariants as v
use Rattle.rev_syntax.specs.Trees.{Expression, Expressions}
use Rattle.name_tables.specs.Names.{Name, same}
use Rattle.name_tables.specs.Table.{Table, find}
use Rattle.typed_programs.specs.Value.{scalar, array}
use Rattle.typed_programs.specs.Definitions.{funs_in}
use Rattle.typed_programs.specs.Layout.{SharedVariable, variables}
use Rattle.revision_calculus.specs.Program.{variable_named, Setting}
use Rattle.revision_calculus.specs.State.{Location, view, view_at, write_at, fresh, Frame, Local}
use Rattle.revision_calculus.specs.Evaluation.{top_locals, read_shared, env, eval, evals, with_local}
use Rattle.revision_calculus.specs.Step.{locals_of}
use Rattle.revision_calculus.specs.HandlesHeld.{IsHandle, LocationsHold, LocalsHold, FramesHold, Holds, in_locations, in_frames}
use Rattle.revision_calculus.proofs.Values.{OfOk, OfOthers, OfEach, OfEnv, OfShared, OfLocal, value_ok, values_ok, funs_ok}

-- ---- locations

pub seen_held : (m : Location) (ms : List Location) (q : Path) → IsHandle (view m) q → LocationsHold (m ∷ ms) q
seen_held m ms q e = go m.written refl e
  where
    go : (w : Option Value) → m.written ≡ w → elim w [ None ↦ m.base | Some x ↦ x ] ≡ v.Rev (Some q)
        → LocationsHold (m ∷ ms) q
    go None f e = inl (inl e)
    go (Some x) f e = inl (inr (f ∙ ap Some e))

pub seen_at_held : (ms : List Location) (n : ℕ) (q : Path) → IsHandle (view_at ms n) q → LocationsHold ms q
seen_at_held [] n q e = absurd cc
seen_at_held (m ∷ ms) zero q e = seen_held m ms q e
seen_at_held (m ∷ ms) (suc n) q e = inr (seen_at_held ms n q e)

pub write_held : (ms : List Location) (n : ℕ) (x : Value) (q : Path) → LocationsHold (write_at ms n x) q
    → LocationsHold ms q ⊎ IsHandle x q
write_held [] n x q none = absurd none
write_held (m ∷ ms) zero x q (inl (inl e)) = inl (inl (inl e))
write_held (m ∷ ms) zero x q (inl (inr e)) = inr cc
write_held (m ∷ ms) zero x q (inr h) = inl (inr h)
write_held (m ∷ ms) (suc n) x q (inl h) = inl (inl h)
write_held (m ∷ ms) (suc n) x q (inr h) = go (write_held ms n x q h)
  where
    go : LocationsHold ms q ⊎ IsHandle x q → LocationsHold (m ∷ ms) q ⊎ IsHandle x q
    go (inl i) = inl (inr i)
    go (inr e) = inr e

pub fresh_held : (ms : List Location) (q : Path) → LocationsHold (fresh (map view ms)) q → LocationsHold ms q
fresh_held [] q none = none
fresh_held (m ∷ ms) q (inl (inl e)) = seen_held m ms q e
fresh_held (m ∷ ms) q (inl (inr e)) = absurd cc
fresh_held (m ∷ ms) q (inr h) = inr (fresh_held ms q h)

-- ---- locals

pub find_held : (es : Table Value) (name : Name) (q : Path) → find name es ≡ Some (v.Rev (Some q)) → LocalsHold es q
find_held [] name q e = absurd cc
find_held (x ∷ es) name q e = go (λ f. find_held es name q f) (same name x.0) e
  where
    go : (find name es ≡ Some (v.Rev (Some q)) → LocalsHold es q) → (b : Bool)
        → cond b (Some x.1) (find name es) ≡ Some (v.Rev (Some q)) → LocalsHold (x ∷ es) q
    go later true e = inl cc
    go later false e = inr (later e)

pub with_local_held : (es : Table Value) (name : Name) (x : Value) (q : Path) → LocalsHold (with_local es name x) q
    → LocalsHold es q ⊎ IsHandle x q
with_local_held [] name x q (inl e) = inr e
with_local_held [] name x q (inr none) = absurd none
with_local_held (e ∷ es) name x q h = go (λ i. with_local_held es name x q i) (same name e.0) h
  where
    go : (LocalsHold (with_local es name x) q → LocalsHold es q ⊎ IsHandle x q) → (b : Bool)
        → LocalsHold (cond b ((e.0, x) ∷ es) (e ∷ with_local es name x)) q → LocalsHold (e ∷ es) q ⊎ IsHandle x q
    go later true (inl i) = inr i
    go later true (inr i) = inl (inr i)
    go later false (inl i) = inl (inl i)
    go later false (inr i) = wider (later i)
      where
        wider : LocalsHold es q ⊎ IsHandle x q → LocalsHold (e ∷ es) q ⊎ IsHandle x q
        wider (inl j) = inl (inr j)
        wider (inr j) = inr j

-- if the value is the handle of a revision, the local state holds that handle
abbrev pub Held : Local → Value → Type 0
Held l x = (q : Path) → IsHandle x q → Holds l q

pub not_held : (l : Local) → OfOthers (Held l)
not_held l = record { int = λ z q e. absurd cc; bool = λ x q e. absurd cc; none = λ q e. absurd cc }

pub locals_of_held : (l : Local) (ps : List Name) (xs : List Value) (q : Path) → OfEach (Held l) (not_held l) xs
    → LocalsHold (locals_of ps xs) q → Holds l q
locals_of_held l [] xs q ks none = absurd none
locals_of_held l (p ∷ ps) [] q ks none = absurd none
locals_of_held l (p ∷ ps) (x ∷ xs) q ks (inl e) = ks.0 q e
locals_of_held l (p ∷ ps) (x ∷ xs) q ks (inr i) = locals_of_held l ps xs q ks.1 i

-- ---- evaluation

module _ (s : Setting) (l : Local) where
  top_held : (fs : List Frame) (q : Path) → LocalsHold (top_locals fs) q → FramesHold fs q
  top_held [] q none = none
  top_held (f ∷ fs) q h = inl h

  local_ok : (name : Name) → OfLocal (Held l) (not_held l) (find name (top_locals l.frames))
  local_ok name = go (find name (top_locals l.frames)) refl
    where
      go : (o : Option Value) → find name (top_locals l.frames) ≡ o → OfLocal (Held l) (not_held l) o
      go None e = tt
      go (Some x) e = λ q f. in_frames (top_held l.frames q (find_held (top_locals l.frames) name q (e ∙ ap Some f)))

  shared_ok : (o : Option SharedVariable) → OfShared (Held l) (not_held l) (read_shared o l.locations)
  shared_ok None = tt
  shared_ok (Some x) = go x.info.array
    where
      go : (b : Bool)
          → OfShared (Held l) (not_held l)
          (cond b (array x.info.cells (λ i. view_at l.locations (x.info.base + i)))
          (scalar (view_at l.locations x.info.base)))
      go true = λ i q e. in_locations (seen_at_held l.locations (x.info.base + i) q e)
      go false = λ q e. in_locations (seen_at_held l.locations x.info.base q e)

  env_ok : OfEnv (Held l) (not_held l) (env s l)
  env_ok = record { local = local_ok; shared = λ name. shared_ok (variable_named (variables s.program) name) }

  -- a handle that is an expression's value is held
  pub eval_held : (e : Expression) → OfOk (Held l) (eval s l e)
  eval_held e = value_ok (Held l) (not_held l) _ (env s l) (funs_ok (Held l) (not_held l) (funs_in s.program)) env_ok e

  pub evals_held : (es : Expressions) → OfOk (OfEach (Held l) (not_held l)) (evals s l es)
  evals_held es =
      values_ok (Held l) (not_held l) _ (env s l) (funs_ok (Held l) (not_held l) (funs_in s.program)) env_ok es
