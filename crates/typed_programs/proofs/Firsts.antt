-- What is among two lists, and where a list of faults has its first.
--
--   left_among, right_among, among_split, last_among, more_among   what is among a list of two parts
--   one_first, no_first                                            two first faults are alike; no faults have none
--   first_from, known_or_later                                     where the first fun of a name is
use Rattle.std.proofs.Common.{◌≡◌, ℕ, inl, inr, subst, arith, List, [], ◌≤◌, ◌+◌, Bool, true, false, cond, ◌∷◌, ◌++◌, length, Some, ap, ◌⊎◌, if◌then◌else◌, Option, None, refl}
use Rattle.typed_programs.specs.Least.{Among, IsBefore, IsFirst}
use Rattle.rev_num.specs.declared.value.ValueKind.{ValueKind}
use Rattle.rev_syntax.specs.Trees.{PlacedName, Parameter, Expression, Declaration, fun, merge, shared, proc}
use Rattle.name_tables.specs.Names.{Name, same}
use Rattle.typed_programs.specs.FunRules.{first_fun, head}
use Rattle.typed_programs.specs.declared.expanded.FunHead.{FunHead}
use Rattle.name_tables.proofs.Tables.{or_else}

-- what is among the first of two lists, or the second, is among both
pub left_among : {A : Type 0} (xs ys : List A) (x : A) → Among xs x → Among (xs ++ ys) x
left_among [] ys x h = absurd h
left_among (y ∷ xs) ys x (inl e) = inl e
left_among (y ∷ xs) ys x (inr h) = inr (left_among xs ys x h)

pub right_among : {A : Type 0} (xs ys : List A) (x : A) → Among ys x → Among (xs ++ ys) x
right_among [] ys x h = h
right_among (y ∷ xs) ys x h = inr (right_among xs ys x h)

-- and what is among both is among one of them
pub among_split : {A : Type 0} (xs ys : List A) (x : A) → Among (xs ++ ys) x → Among xs x ⊎ Among ys x
among_split [] ys x h = inr h
among_split (y ∷ xs) ys x (inl e) = inl (inl e)
among_split (y ∷ xs) ys x (inr h) = by (among_split xs ys x h)
  where
    by : Among xs x ⊎ Among ys x → Among (y ∷ xs) x ⊎ Among ys x
    by (inl a) = inl (inr a)
    by (inr b) = inr b

pub last_among : {A : Type 0} (xs : List A) (y x : A) → Among (xs ++ y ∷ []) x → Among xs x ⊎ (y ≡ x)
last_among xs y x h = by (among_split xs (y ∷ []) x h)
  where
    by : Among xs x ⊎ Among (y ∷ []) x → Among xs x ⊎ (y ≡ x)
    by (inl a) = inl a
    by (inr (inl e)) = inr e
    by (inr (inr b)) = absurd b

-- what is among some is among others, where both have one more
pub more_among : {A : Type 0} (xs ys : List A) (y : A) → ((x : A) → Among xs x → Among ys x) → (x : A)
    → Among (y ∷ xs) x → Among (ys ++ y ∷ []) x
more_among xs ys y known x (inl e) = right_among ys (y ∷ []) x (inl e)
more_among xs ys y known x (inr h) = left_among ys (y ∷ []) x (known x h)

module _ {F : Type 0} (place rank : F → ℕ) where
  alike : (a b : F) → IsBefore place rank a b → IsBefore place rank b a → (place a ≡ place b) × (rank a ≡ rank b)
  alike a b (inl h) (inl k) = absurd (omega arith)
  alike a b (inl h) (inr k) = absurd (omega (arith, h, k.0))
  alike a b (inr h) (inl k) = absurd (omega (arith, k, h.0))
  alike a b (inr h) (inr k) = (h.0, omega (arith, h.1, k.1))

  -- two first faults stand at one place and have one rank
  pub one_first : (fs : List F) (a b : F) → IsFirst place rank fs a → IsFirst place rank fs b
      → (place a ≡ place b) × (rank a ≡ rank b)
  one_first fs a b h k = alike a b (h.first b k.among) (k.first a h.among)

  -- no faults have no first
  pub no_first : (fs : List F) (a : F) → fs ≡ [] → IsFirst place rank fs a → ⊥
  no_first fs a none h = subst (λ (gs : List F). Among gs a) none h.among

-- the number of a declaration is none of those before
pub first_from : (d n : ℕ) (es : List Declaration) (name : Name) (h : FunHead) → first_fun d n es name ≡ Some h
    → d ≤ h.decl
first_from d n [] name h e = absurd cc
first_from d n (fun w ps r body ∷ es) name h e = by (same name w.text) (first_from (d + 1) (n + 1) es name h) e
  where
    by : (x : Bool) → (first_fun (d + 1) (n + 1) es name ≡ Some h → d + 1 ≤ h.decl)
        → cond x (Some (head d n (length ps))) (first_fun (d + 1) (n + 1) es name) ≡ Some h → d ≤ h.decl
    by true later q = let is : head d n (length ps) ≡ h = cc in let at : d ≡ h.decl = ap (λ y. y.decl) is in omega arith
    by false later q = let more : d + 1 ≤ h.decl = later q in omega arith
first_from d n (merge w m j r body ∷ es) name h e =
    let more : d + 1 ≤ h.decl = first_from (d + 1) n es name h e in omega arith
first_from d n (shared x ∷ es) name h e = let more : d + 1 ≤ h.decl = first_from (d + 1) n es name h e in omega arith
first_from d n (proc w ps r body ∷ es) name h e =
    let more : d + 1 ≤ h.decl = first_from (d + 1) n es name h e in omega arith

-- past one more fun a name that means a fun is known, or its first fun is further behind
pub known_or_later : {A : Type 0} (known : Option A) (f : A) (d n : ℕ) (w : PlacedName) (ps : List Parameter)
    (r : ValueKind) (body : Expression) (es : List Declaration) (name : Name) (h : FunHead)
    → ((g : A) × (known ≡ Some g)) ⊎ (first_fun d n (fun w ps r body ∷ es) name ≡ Some h)
    → ((g : A) × (or_else known (if same name w.text then Some f else None) ≡ Some g))
    ⊎ (first_fun (d + 1) (n + 1) es name ≡ Some h)
known_or_later {A} known f d n w ps r body es name h (inl g) =
    inl (g.0, ap (λ o. or_else o (if same name w.text then Some f else None)) g.1)
known_or_later {A} known f d n w ps r body es name h (inr q) = by (same name w.text) q
  where
    found : (o : Option A) → (g : A) × (or_else o (Some f) ≡ Some g)
    found None = (f, refl)
    found (Some g) = (g, refl)

    by : (x : Bool) → cond x (Some (head d n (length ps))) (first_fun (d + 1) (n + 1) es name) ≡ Some h
        → ((g : A) × (or_else known (if x then Some f else None) ≡ Some g))
        ⊎ (first_fun (d + 1) (n + 1) es name ≡ Some h)
    by true e = inl (found known)
    by false e = inr e
