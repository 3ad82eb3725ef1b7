-- The locals of funs and merges.
use Rattle.std.proofs.Common.{◌≡◌, ◌∙◌, ℕ, zero, suc, ◌+◌, ◌<◌, ◌≤◌, Bool, true, false, if◌then◌else◌, List, [], ◌∷◌, map, drop, length, get_or, Option, Some, None, refl, sym, ap, arith}
use Rattle.rev_num.specs.declared.value.Value.{Value}
use Rattle.rev_syntax.specs.View.{parameter}
use Rattle.rev_syntax.specs.declared.tree.Param.{Param}
use Rattle.name_tables.specs.Names.{Name, same}
use Rattle.typed_programs.specs.Definitions.{names_of}
use Rattle.typed_programs.specs.Value.{bind, bind_all, nothing}
use Rattle.typed_programs.specs.Evaluation.{Values}
use Rattle.std.specs.Borrow.{Bor}
use Rattle.rev_evaluator.specs.Seen.{seen}
use Rattle.rev_evaluator.specs.Locals.{local, locals_step}
use Rattle.rev_evaluator.specs.declared.locals.Locals as locals
use Rattle.rev_evaluator.specs.declared.locals.Locals.{Locals}
use Rattle.rev_evaluator.specs.declared.locals.Locals.TheOpen.{Locals-F}
use Rattle.rev_evaluator.specs.declared.locals.Locals.TheFolds.{fold-roll-Locals}
use Rattle.rev_evaluator.specs.declared.locals.Locals.TheVariants.{rolls-Empty, rolls-Bound, rolls-Passed}
use Rattle.rev_evaluator.specs.declared.seen.Seen.{Seen}
use Rattle.typed_programs.proofs.Declared.{drop_at}
use Rattle.name_tables.proofs.Tables.{or_else}

-- of earlier locals, those of a name alone count for it
pub bind_all-at : (l m : Values) (ps : List Name) (xs : List Value) (name : Name) → l name ≡ m name
    → bind_all l ps xs name ≡ bind_all m ps xs name
bind_all-at l m [] xs name h = h
bind_all-at l m (p ∷ ps) [] name h = h
bind_all-at l m (p ∷ ps) (x ∷ xs) name h =
    bind_all-at (bind l p x) (bind m p x) ps xs name (ap (λ o. if same name p then Some x else o) h)

bound_behind : (o m k : Option Value) (b : Bool) (x : Value) → o ≡ or_else m k
    → (if b then Some x else o) ≡ or_else (if b then Some x else m) k
bound_behind o m k true x h = refl
bound_behind o m k false x h = h

-- arguments hide what is behind them
pub bind_all-behind : (l m : Values) (k : Option Value) (ps : List Name) (xs : List Value) (name : Name)
    → l name ≡ or_else (m name) k → bind_all l ps xs name ≡ or_else (bind_all m ps xs name) k
bind_all-behind l m k [] xs name h = h
bind_all-behind l m k (p ∷ ps) [] name h = h
bind_all-behind l m k (p ∷ ps) (x ∷ xs) name h =
    bind_all-behind (bind l p x) (bind m p x) k ps xs name (bound_behind (l name) (m name) k (same name p) x h)

-- a name among arguments, and one behind them
pub found_passed : (l : Values) (ps : List Name) (xs : List Value) (name : Name) (x : Value)
    → Some x ≡ bind_all nothing ps xs name → Some x ≡ bind_all l ps xs name
found_passed l ps xs name x h =
    ap (λ o. or_else o (l name)) h ∙ sym (bind_all-behind l nothing (l name) ps xs name refl)

pub found_behind : (l : Values) (ps : List Name) (xs : List Value) (name : Name) (r : Option Value)
    → None ≡ bind_all nothing ps xs name → r ≡ l name → r ≡ bind_all l ps xs name
found_behind l ps xs name r h k =
    k ∙ ap (λ o. or_else o (l name)) h ∙ sym (bind_all-behind l nothing (l name) ps xs name refl)

-- a parameter of the name, and another
bound_by : (o : Option Value) (p : Name) (ps : List Name) (x : Value) (xs : List Value) (name : Name) (b : Bool)
    → same name p ≡ b
    → bind_all (λ n. o) (p ∷ ps) (x ∷ xs) name ≡ bind_all (λ n. if b then Some x else o) ps xs name
bound_by o p ps x xs name b h =
    bind_all-at (bind (λ n. o) p x) (λ n. if b then Some x else o) ps xs name (ap (λ c. if c then Some x else o) h)

no_value : (l : Values) (ps : List Name) (name : Name) → bind_all l ps [] name ≡ l name
no_value l [] name = refl
no_value l (p ∷ ps) name = refl

abbrev left_at : Option Value → List Param → List Seen → Name → Option Value
left_at o ps xs name = bind_all (λ n. o) (names_of (map parameter ps)) (map seen xs) name

drop-all : {A : Type 0} (xs : List A) (i : ℕ) → length xs ≤ i → drop i xs ≡ []
drop-all [] zero h = refl
drop-all [] (suc i) h = refl
drop-all (y ∷ xs) zero h = absurd (omega arith)
drop-all (y ∷ xs) (suc i) h = drop-all xs i (omega arith)

module _ (params : List Param) (values : List Seen) (name : Name) (i : ℕ) (p : Param) where
  -- a parameter that has a value
  pub passed_turn : (o o' : Option Value) (x : Seen) (all : Option Value) (b : Bool) → i < length params
      → p ≡ get_or params i p → i < length values → x ≡ get_or values i x
      → same name p.name.text.items ≡ b → o' ≡ (if b then Some (seen x) else o)
      → left_at o (drop i params) (drop i values) name ≡ all
      → left_at o' (drop (i + 1) params) (drop (i + 1) values) name ≡ all
  passed_turn o o' x all b h e h' e' s k goes =
      ap (λ n. left_at n (drop (i + 1) params) (drop (i + 1) values) name) k
      ∙ sym (bound_by o p.name.text.items (names_of (map parameter (drop (i + 1) params))) (seen x)
      (map seen (drop (i + 1) values)) name b s)
      ∙ (λ j. left_at o (sym (drop_at params i p h e) j) (sym (drop_at values i x h' e') j) name)
      ∙ goes

  -- a parameter that has none
  pub unpassed_turn : (o o' : Option Value) (all : Option Value) → length values ≤ i → o' ≡ o
      → left_at o (drop i params) (drop i values) name ≡ all
      → left_at o' (drop (i + 1) params) (drop (i + 1) values) name ≡ all
  unpassed_turn o o' all g k goes =
      ap (λ n. left_at n (drop (i + 1) params) (drop (i + 1) values) name) k
      ∙ ap (λ xs. left_at o (drop (i + 1) params) xs name) (drop-all values (i + 1) (omega arith))
      ∙ no_value (λ n. o) (names_of (map parameter (drop (i + 1) params))) name
      ∙ sym (no_value (λ n. o) (names_of (map parameter (drop i params))) name)
      ∙ ap (λ xs. left_at o (drop i params) xs name) (sym (drop-all values i g))
      ∙ goes

-- ---- locals

pub local-Empty : local locals.Empty ≡ nothing
local-Empty = ap local (sym rolls-Empty) ∙ fold-roll-Locals (Name → Option Value) locals_step Locals-F.Empty

pub local-Bound : (name : Bor Name) (value : Seen) (rest : Bor Locals)
    → local (locals.Bound name value rest) ≡ bind (local rest.now) name.now (seen value)
local-Bound name value rest =
    ap local (sym (rolls-Bound name value rest))
    ∙ fold-roll-Locals (Name → Option Value) locals_step (Locals-F.Bound name value rest)

pub local-Passed : (params : Bor (List Param)) (values : Bor (List Seen)) (rest : Bor Locals)
    → local (locals.Passed params values rest)
    ≡ bind_all (local rest.now) (names_of (map parameter params.now)) (map seen values.now)
local-Passed params values rest =
    ap local (sym (rolls-Passed params values rest))
    ∙ fold-roll-Locals (Name → Option Value) locals_step (Locals-F.Passed params values rest)

pub ruleset local_values = (local-Empty, local-Bound, local-Passed)
