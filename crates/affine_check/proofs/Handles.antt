-- In a typed program the trails of the handles have exactly the second uses and the uses in loops.
use Rattle.std.proofs.Common.{◌≡◌, ◌∙◌, ℕ, ◌+◌, ◌⊎◌, inl, inr, Bool, true, false, cond, ◌&&◌, ◌||◌, Option, Some, None, List, [], ◌∷◌, ◌++◌, refl, sym, ap, subst, true≢false}
use Rattle.std.specs.Prelude.{if◌then◌else◌}
use Rattle.std.proofs.lemmas.Bool.{and_from as hold}
pub use Rattle.std.proofs.lemmas.Bool.{or_cases as either, or_left as left, or_right as right, and_parts as both_hold}
use Rattle.rev_num.specs.declared.value.ValueKind.{ValueKind}
use Rattle.rev_num.specs.declared.value.ValueKind.TheVariants as k
use Rattle.rev_syntax.specs.Trees.{Parameter, Expression, placed, int, bool, no_rev, var, cell, apply, input, inputs, pick, unary, chain, Expressions, no_expressions, expression, RightSide, plain, called, forked, tried, Statement, statement, StatementForm, bind, assign, assign_cell, choose, choose_or, repeat, call, return, fork, join, print, assert, Statements, no_statements, statements, Arms, no_arms, arm}
use Rattle.rev_syntax.proofs.Lists.{same-self}
use Rattle.name_tables.specs.Names.{Name, same}
use Rattle.name_tables.specs.Table.{find, added}
use Rattle.name_tables.proofs.Tables.{same_equal, find-added, or_else}
use Rattle.typed_programs.specs.declared.names.Holder.{Holder}
use Rattle.typed_programs.specs.Kinds.{Names, Locals, right_side_kind}
use Rattle.typed_programs.specs.Typing.{HasKind, ScalarHas, ArgsHave}
use Rattle.typed_programs.specs.Judgement.{RightSideHas, ReturnTyped, StatementTyped, StatementFormTyped, StatementsTyped, ArmsTyped}
use Rattle.typed_programs.specs.Scopes.{locals_after, bound}
use Rattle.typed_programs.proofs.Scopes.{statement_scope}
use Rattle.affine_check.specs.Live.{statement_passes}
use Rattle.affine_check.specs.SecondUses.{expression_places, expressions_places, right_side_places, value_places, ahead, statement_ahead, statement_form_ahead, arms_ahead, if_rev, expression_twice, expressions_twice, right_side_twice, value_twice, twice, statement_twice, statement_form_twice, arms_twice}
use Rattle.affine_check.proofs.Meaning.{kept, still_free}
use Rattle.affine_check.specs.declared.fault.AffineFault.{AffineFault}
use Rattle.affine_check.specs.declared.fault.AffineFault.TheVariants.{UsedTwice}
use Rattle.affine_check.specs.Walk.{is_handle, named, start, trail, misused}
use Rattle.affine_check.proofs.Bounds.{meets, any, any-append}
use Rattle.affine_check.proofs.Trails.{second, after_use, again_args, again_right, again, again_statement, again_form, again_arms, loops, misuse}
use Rattle.affine_check.proofs.Found.{handles, handles_statement, handles_form, handles_arms}

-- ---- tests

abbrev pub Holds : Bool → Type 0
Holds b = b ≡ true

pub arm_both : {P Q A : Type 0} → P ⊎ Q → (P → A) → (Q → A) → A
arm_both (inl i) f g = f i
arm_both (inr i) f g = g i

pub never : {A : Type 0} → Holds false → A
never h = absurd (true≢false (sym h))

-- ---- names and scopes

-- the name is that of a handle
abbrev pub IsHandle : Locals → Name → Type 0
IsHandle l n = find n l ≡ Some (Some k.Rev)

-- a handle of which this holds
abbrev pub SomeHandle : Locals → (Name → Bool) → Type 0
SomeHandle l P = (n : Name) × IsHandle l n × Holds (P n)

is_rev : (m : Option (Option ValueKind)) → Holds (is_handle m) → m ≡ Some (Some k.Rev)
is_rev None h = never h
is_rev (Some None) h = never h
is_rev (Some (Some k.Int)) h = never h
is_rev (Some (Some k.Bool)) h = never h
is_rev (Some (Some k.Rev)) h = refl

-- the name of no local in scope and of no shared variable
abbrev pub IsFree : Names → Locals → Name → Type 0
IsFree c l n = (find n l ≡ None) × (c.shared n ≡ None)

was_free : (n w : Name) (l : Locals) (x : Option ValueKind) → find n (added l w x) ≡ None → find n l ≡ None
was_free n w l x h = by (find n l) refl
  where
    by : (o : Option (Option ValueKind)) → find n l ≡ o → find n l ≡ None
    by None e = e
    by (Some m) e = absurd (let clash : Some m ≡ None = sym (kept n w l x m e) ∙ h in cc)

pub was_handle : (n w : Name) (l : Locals) (x : Option ValueKind) → IsHandle (added l w x) n → IsHandle l n ⊎ (n ≡ w)
was_handle n w l x h = by (same n w) refl
  where
    old : (o : Option (Option ValueKind)) → or_else o None ≡ Some (Some k.Rev) → o ≡ Some (Some k.Rev)
    old None e = e
    old (Some m) e = e

    by : (d : Bool) → same n w ≡ d → IsHandle l n ⊎ (n ≡ w)
    by true e = inr (same_equal n w e)
    by false e = inl (old (find n l)
        (ap (λ d. or_else (find n l) (if d then Some x else None)) (sym e) ∙ sym (find-added n w x l) ∙ h))

-- the statement binds the name
abbrev pub Binds : Statement → Name → Type 0
Binds (statement at line (bind w r)) n = n ≡ w.text
Binds (statement at line (assign w r)) n = ⊥
Binds (statement at line (assign_cell w index e)) n = ⊥
Binds (statement at line (choose arms)) n = ⊥
Binds (statement at line (choose_or arms last)) n = ⊥
Binds (statement at line (repeat test body)) n = ⊥
Binds (statement at line (call w args)) n = ⊥
Binds (statement at line (return e)) n = ⊥
Binds (statement at line (fork w args)) n = ⊥
Binds (statement at line (join handle)) n = ⊥
Binds (statement at line (print items)) n = ⊥
Binds (statement at line (assert test)) n = ⊥

pub scope_handle : (c : Names) (l : Locals) (x : Statement) (n : Name) → IsHandle l n → IsHandle (locals_after c l x) n
scope_handle c l (statement at line (bind w r)) n h = kept n w.text l (right_side_kind c l r) (Some k.Rev) h
scope_handle c l (statement at line (assign w r)) n h = h
scope_handle c l (statement at line (assign_cell w index e)) n h = h
scope_handle c l (statement at line (choose arms)) n h = h
scope_handle c l (statement at line (choose_or arms last)) n h = h
scope_handle c l (statement at line (repeat test body)) n h = h
scope_handle c l (statement at line (call w args)) n h = h
scope_handle c l (statement at line (return e)) n h = h
scope_handle c l (statement at line (fork w args)) n h = h
scope_handle c l (statement at line (join handle)) n h = h
scope_handle c l (statement at line (print items)) n h = h
scope_handle c l (statement at line (assert test)) n h = h

pub scope_free : (c : Names) (l : Locals) (x : Statement) (n : Name) → find n (locals_after c l x) ≡ None
    → find n l ≡ None
scope_free c l (statement at line (bind w r)) n h = was_free n w.text l (right_side_kind c l r) h
scope_free c l (statement at line (assign w r)) n h = h
scope_free c l (statement at line (assign_cell w index e)) n h = h
scope_free c l (statement at line (choose arms)) n h = h
scope_free c l (statement at line (choose_or arms last)) n h = h
scope_free c l (statement at line (repeat test body)) n h = h
scope_free c l (statement at line (call w args)) n h = h
scope_free c l (statement at line (return e)) n h = h
scope_free c l (statement at line (fork w args)) n h = h
scope_free c l (statement at line (join handle)) n h = h
scope_free c l (statement at line (print items)) n h = h
scope_free c l (statement at line (assert test)) n h = h

pub scope_was : (c : Names) (l : Locals) (x : Statement) (n : Name) → IsHandle (locals_after c l x) n
    → IsHandle l n ⊎ Binds x n
scope_was c l (statement at line (bind w r)) n h = was_handle n w.text l (right_side_kind c l r) h
scope_was c l (statement at line (assign w r)) n h = inl h
scope_was c l (statement at line (assign_cell w index e)) n h = inl h
scope_was c l (statement at line (choose arms)) n h = inl h
scope_was c l (statement at line (choose_or arms last)) n h = inl h
scope_was c l (statement at line (repeat test body)) n h = inl h
scope_was c l (statement at line (call w args)) n h = inl h
scope_was c l (statement at line (return e)) n h = inl h
scope_was c l (statement at line (fork w args)) n h = inl h
scope_was c l (statement at line (join handle)) n h = inl h
scope_was c l (statement at line (print items)) n h = inl h
scope_was c l (statement at line (assert test)) n h = inl h

pub binds_free : (c : Names) (result : Option ValueKind) (l l' : Locals) (x : Statement) (n : Name)
    → StatementTyped c result l x l' → Binds x n → IsFree c l n
binds_free c result l l' (statement at line (bind w r)) n typed e =
    (ap (λ m. find m l) e ∙ typed.0.0, ap c.shared e ∙ typed.0.1)
binds_free c result l l' (statement at line (assign w r)) n typed e = absurd e
binds_free c result l l' (statement at line (assign_cell w index v)) n typed e = absurd e
binds_free c result l l' (statement at line (choose arms)) n typed e = absurd e
binds_free c result l l' (statement at line (choose_or arms last)) n typed e = absurd e
binds_free c result l l' (statement at line (repeat test body)) n typed e = absurd e
binds_free c result l l' (statement at line (call w args)) n typed e = absurd e
binds_free c result l l' (statement at line (return v)) n typed e = absurd e
binds_free c result l l' (statement at line (fork w args)) n typed e = absurd e
binds_free c result l l' (statement at line (join handle)) n typed e = absurd e
binds_free c result l l' (statement at line (print items)) n typed e = absurd e
binds_free c result l l' (statement at line (assert test)) n typed e = absurd e

module _ (last_place last_rank : ℕ) where
  abbrev pub twice_in : List ℕ → Bool
  twice_in ps = second last_place last_rank ps

  abbrev pub follows : Name → Statements → List ℕ → Bool
  follows n xs later = again last_place last_rank n xs later

  abbrev pub looped : Name → Bool → Statements → Bool
  looped n inside xs = loops last_place last_rank n inside xs

  -- places of two lists, as faults of one kind
  module _ (make : ℕ → AffineFault) where
    abbrev pub OneOf : List ℕ → Type 0
    OneOf ps = Holds (any last_place last_rank make ps)

    pub any_either : (xs ys : List ℕ) → OneOf (xs ++ ys) → OneOf xs ⊎ OneOf ys
    any_either xs ys h =
        either (any last_place last_rank make xs) (any last_place last_rank make ys)
        (sym (any-append last_place last_rank make xs ys) ∙ h)

    pub any_left : (xs ys : List ℕ) → OneOf xs → OneOf (xs ++ ys)
    any_left xs ys h =
        any-append last_place last_rank make xs ys
        ∙ left (any last_place last_rank make xs) (any last_place last_rank make ys) h

    pub any_right : (xs ys : List ℕ) → OneOf ys → OneOf (xs ++ ys)
    any_right xs ys h =
        any-append last_place last_rank make xs ys
        ∙ right (any last_place last_rank make xs) (any last_place last_rank make ys) h

    -- from those of a block, or of the blocks behind it and what else there is
    pub any_arms : {P Q R : Type 0} (xs ys : List ℕ) → P ⊎ Q → (P → OneOf xs) → (Q → OneOf ys ⊎ R)
        → OneOf (xs ++ ys) ⊎ R
    any_arms xs ys (inl i) f g = inl (any_left xs ys (f i))
    any_arms {P} {Q} {R} xs ys (inr i) f g = by (g i)
      where
        by : OneOf ys ⊎ R → OneOf (xs ++ ys) ⊎ R
        by (inl j) = inl (any_right xs ys j)
        by (inr j) = inr j

  pub none_append : (xs ys : List ℕ) → twice_in xs ≡ false → twice_in ys ≡ false → twice_in (xs ++ ys) ≡ false
  none_append xs ys p q = any-append last_place last_rank (λ at. UsedTwice at) xs ys ∙ (λ i. p i || q i)

  -- ---- a name that means nothing is used nowhere

  module _ (c : Names) where
    free_use : (n : Name) (l : Locals) (x : Expression) (t : ValueKind) → HasKind c l x t → IsFree c l n
        → twice_in (expression_places n x) ≡ false
    free_use n l (placed at (int z)) t has free = refl
    free_use n l (placed at (bool z)) t has free = refl
    free_use n l (placed at no_rev) t has free = refl
    free_use n l (placed at (var w)) t has free = by (same n w.text) refl
      where
        by : (d : Bool) → same n w.text ≡ d → twice_in (if d then w.at ∷ [] else []) ≡ false
        by false e = refl
        by true e =
            let name = same_equal n w.text e in
            absurd (let P : Option (Option ValueKind) → Option Holder → Type 0 = λ o h. ScalarHas o h t in
            subst (λ h. P None h) (ap c.shared (sym name) ∙ free.1)
            (subst (λ o. P o (c.shared w.text)) (ap (λ m. find m l) (sym name) ∙ free.0) has))
    free_use n l (placed at (cell w index)) t has free = refl
    free_use n l (placed at (apply w args)) t has free = refl
    free_use n l (placed at (input i index)) t has free = refl
    free_use n l (placed at (inputs i)) t has free = refl
    free_use n l (placed at (pick test x y)) t has free = refl
    free_use n l (placed at (unary op e)) t has free = refl
    free_use n l (placed at (chain first rest)) t has free = refl

    free_args : (n : Name) (l : Locals) (ps : List Parameter) (xs : Expressions) (i : ℕ) → ArgsHave c l ps i xs
        → IsFree c l n → twice_in (expressions_places n xs) ≡ false
    free_args n l ps no_expressions i have free = refl
    free_args n l ps (expression x xs) i have free =
        none_append (expression_places n x) (expressions_places n xs) (free_use n l x have.0.0 have.0.1 free)
        (free_args n l ps xs (i + 1) have.1 free)

    free_right : (n : Name) (l : Locals) (r : RightSide) (t : ValueKind) → RightSideHas c l r t → IsFree c l n
        → twice_in (right_side_places n r) ≡ false
    free_right n l (plain e) t has free = refl
    free_right n l (called at w args) t has free = free_args n l _ args 0 has.1.2 free
    free_right n l (forked at w args) t has free = free_args n l _ args 0 has.1.1.2 free
    free_right n l (tried at handle) t has free = free_use n l handle k.Rev has.1 free

    free_value : (n : Name) (l : Locals) (result : Option ValueKind) (e : Option Expression) → ReturnTyped c l result e
        → IsFree c l n → twice_in (value_places n e) ≡ false
    free_value n l None None has free = refl
    free_value n l None (Some e) has free = absurd has
    free_value n l (Some t) None has free = refl
    free_value n l (Some t) (Some e) has free = free_use n l e t has free

    mutual
      pub free_ahead : (n : Name) (result : Option ValueKind) (l : Locals) (xs : Statements) (later : List ℕ)
          → StatementsTyped c result l xs → IsFree c l n → twice_in later ≡ false → twice_in (ahead n xs later) ≡ false
      free_ahead n result l no_statements later typed free none = none
      free_ahead n result l (statements x rest) later typed free none =
          free_statement n result l typed.0 x (ahead n rest later) typed.1 free
          (λ h. free_ahead n result typed.0 rest later typed.2 (h, free.1) none)

      free_statement : (n : Name) (result : Option ValueKind) (l l' : Locals) (x : Statement) (later : List ℕ)
          → StatementTyped c result l x l' → IsFree c l n → (find n l' ≡ None → twice_in later ≡ false)
          → twice_in (statement_ahead n x later) ≡ false
      free_statement n result l l' (statement at line form) later typed free none =
          free_form n result l l' form later typed free none

      free_form : (n : Name) (result : Option ValueKind) (l l' : Locals) (x : StatementForm) (later : List ℕ)
          → StatementFormTyped c result l x l' → IsFree c l n → (find n l' ≡ None → twice_in later ≡ false)
          → twice_in (statement_form_ahead n x later) ≡ false
      free_form n result l l' (bind w r) later typed free none =
          none_append (right_side_places n r) (if same n w.text then [] else later)
          (free_right n l r typed.1.0 typed.1.1 free) (by (same n w.text) refl)
        where
          by : (d : Bool) → same n w.text ≡ d → twice_in (if d then [] else later) ≡ false
          by true e = refl
          by false e = none (ap (λ m. find n m) typed.1.2 ∙ still_free n w.text l (Some typed.1.0) e free.0)
      free_form n result l l' (assign w r) later typed free none =
          none_append (right_side_places n r) (if same n w.text then [] else later)
          (free_right n l r typed.0.0 typed.0.2 free) (by (same n w.text))
        where
          by : (d : Bool) → twice_in (if d then [] else later) ≡ false
          by true = refl
          by false = none (ap (λ m. find n m) typed.1 ∙ free.0)
      free_form n result l l' (assign_cell w index e) later typed free none = none (ap (λ m. find n m) typed.1 ∙ free.0)
      free_form n result l l' (choose arms) later typed free none =
          let empty = none (ap (λ m. find n m) typed.1 ∙ free.0) in
          free_arms n result l arms later later typed.0 free empty empty
      free_form n result l l' (choose_or arms last) later typed free none =
          let empty = none (ap (λ m. find n m) typed.1 ∙ free.0) in
          free_arms n result l arms (ahead n last later) later typed.0.0 free
          (free_ahead n result l last later typed.0.1 free empty) empty
      free_form n result l l' (repeat test body) later typed free none =
          none_append (ahead n body []) later (free_ahead n result l body [] typed.0.1 free refl)
          (none (ap (λ m. find n m) typed.1 ∙ free.0))
      free_form n result l l' (call w args) later typed free none =
          none_append (expressions_places n args) later (free_args n l _ args 0 typed.0.1.2 free)
          (none (ap (λ m. find n m) typed.1 ∙ free.0))
      free_form n result l l' (return e) later typed free none = free_value n l result e typed.0 free
      free_form n result l l' (fork w args) later typed free none =
          none_append (expressions_places n args) later (free_args n l _ args 0 typed.0.1.2 free)
          (none (ap (λ m. find n m) typed.1 ∙ free.0))
      free_form n result l l' (join handle) later typed free none =
          none_append (expression_places n handle) later (free_use n l handle k.Rev typed.0 free)
          (none (ap (λ m. find n m) typed.1 ∙ free.0))
      free_form n result l l' (print items) later typed free none = none (ap (λ m. find n m) typed.1 ∙ free.0)
      free_form n result l l' (assert test) later typed free none = none (ap (λ m. find n m) typed.1 ∙ free.0)

      free_arms : (n : Name) (result : Option ValueKind) (l : Locals) (xs : Arms) (others later : List ℕ)
          → ArmsTyped c result l xs → IsFree c l n → twice_in others ≡ false → twice_in later ≡ false
          → twice_in (arms_ahead n xs others later) ≡ false
      free_arms n result l no_arms others later typed free none empty = none
      free_arms n result l (arm test body rest) others later typed free none empty =
          none_append (ahead n body later) (arms_ahead n rest others later)
          (free_ahead n result l body later typed.1 free empty)
          (free_arms n result l rest others later typed.2 free none empty)

    -- ---- second uses

    used_if : (m : Option (Option ValueKind)) (ps : List ℕ) → Holds (twice_in (if_rev m ps))
        → (m ≡ Some (Some k.Rev)) × Holds (twice_in ps)
    used_if None ps h = never h
    used_if (Some None) ps h = never h
    used_if (Some (Some k.Int)) ps h = never h
    used_if (Some (Some k.Bool)) ps h = never h
    used_if (Some (Some k.Rev)) ps h = (refl, h)

    abbrev behind_use : Name → Expression → List ℕ → Bool
    behind_use n x later = after_use last_place last_rank n (named n x) later

    -- where an expression uses a handle twice, or once before a later use, some handle has a use behind its use here
    use_complete : (l : Locals) (x : Expression) (K : Name → List ℕ) → Holds (twice_in (expression_twice l x K))
        → SomeHandle l (λ n. behind_use n x (K n))
    use_complete l (placed at (int z)) K h = never h
    use_complete l (placed at (bool z)) K h = never h
    use_complete l (placed at no_rev) K h = never h
    use_complete l (placed at (var w)) K h =
        let u = used_if (find w.text l) (K w.text) h in (
          w.text,
          u.0,
          subst (λ d. Holds (after_use last_place last_rank w.text (if d then Some w.at else None) (K w.text)))
              (sym (same-self w.text)) u.1,
        )
    use_complete l (placed at (cell w index)) K h = never h
    use_complete l (placed at (apply w args)) K h = never h
    use_complete l (placed at (input i index)) K h = never h
    use_complete l (placed at (inputs i)) K h = never h
    use_complete l (placed at (pick test x y)) K h = never h
    use_complete l (placed at (unary op e)) K h = never h
    use_complete l (placed at (chain first rest)) K h = never h

    use_sound : (l : Locals) (x : Expression) (K : Name → List ℕ) (n : Name) → IsHandle l n
        → Holds (behind_use n x (K n)) → Holds (twice_in (expression_twice l x K))
    use_sound l (placed at (int z)) K n is h = never h
    use_sound l (placed at (bool z)) K n is h = never h
    use_sound l (placed at no_rev) K n is h = never h
    use_sound l (placed at (var w)) K n is h = by (same n w.text) refl h
      where
        by : (d : Bool) → same n w.text ≡ d
            → Holds (after_use last_place last_rank n (if d then Some w.at else None) (K n))
            → Holds (twice_in (if_rev (find w.text l) (K w.text)))
        by false e i = never i
        by true e i =
            let name = same_equal n w.text e in
            subst (λ m. Holds (twice_in (if_rev (find m l) (K m)))) name
            (subst (λ m. Holds (twice_in (if_rev m (K n)))) (sym is) i)
    use_sound l (placed at (cell w index)) K n is h = never h
    use_sound l (placed at (apply w args)) K n is h = never h
    use_sound l (placed at (input i index)) K n is h = never h
    use_sound l (placed at (inputs i)) K n is h = never h
    use_sound l (placed at (pick test x y)) K n is h = never h
    use_sound l (placed at (unary op e)) K n is h = never h
    use_sound l (placed at (chain first rest)) K n is h = never h

    abbrev behind_args : Name → Expressions → List ℕ → Bool
    behind_args n xs later = again_args last_place last_rank n xs later

    args_complete : (l : Locals) (xs : Expressions) (K : Name → List ℕ) → Holds (twice_in (expressions_twice l xs K))
        → SomeHandle l (λ n. behind_args n xs (K n))
    args_complete l no_expressions K h = never h
    args_complete l (expression x xs) K h =
        by (any_either (λ at. UsedTwice at) (expression_twice l x (λ n. expressions_places n xs ++ K n))
        (expressions_twice l xs K) h)
        (args_complete l xs K)
      where
        by : Holds (twice_in (expression_twice l x (λ n. expressions_places n xs ++ K n)))
            ⊎ Holds (twice_in (expressions_twice l xs K))
            → (Holds (twice_in (expressions_twice l xs K)) → SomeHandle l (λ n. behind_args n xs (K n)))
            → SomeHandle l (λ n. behind_args n (expression x xs) (K n))
        by (inl i) rest =
            let u = use_complete l x (λ n. expressions_places n xs ++ K n) i in
            (u.0, u.1, left (behind_use u.0 x (expressions_places u.0 xs ++ K u.0)) (behind_args u.0 xs (K u.0)) u.2)
        by (inr i) rest =
            let u = rest i in
            (u.0, u.1, right (behind_use u.0 x (expressions_places u.0 xs ++ K u.0)) (behind_args u.0 xs (K u.0)) u.2)

    args_sound : (l : Locals) (xs : Expressions) (K : Name → List ℕ) (n : Name) → IsHandle l n
        → Holds (behind_args n xs (K n)) → Holds (twice_in (expressions_twice l xs K))
    args_sound l no_expressions K n is h = never h
    args_sound l (expression x xs) K n is h =
        by (either (behind_use n x (expressions_places n xs ++ K n)) (behind_args n xs (K n)) h)
        (args_sound l xs K n is)
      where
        by : Holds (behind_use n x (expressions_places n xs ++ K n)) ⊎ Holds (behind_args n xs (K n))
            → (Holds (behind_args n xs (K n)) → Holds (twice_in (expressions_twice l xs K)))
            → Holds (twice_in (expressions_twice l (expression x xs) K))
        by (inl i) rest =
            any_left (λ at. UsedTwice at) (expression_twice l x (λ m. expressions_places m xs ++ K m))
            (expressions_twice l xs K) (use_sound l x (λ m. expressions_places m xs ++ K m) n is i)
        by (inr i) rest =
            any_right (λ at. UsedTwice at) (expression_twice l x (λ m. expressions_places m xs ++ K m))
            (expressions_twice l xs K) (rest i)

    abbrev behind_right : Name → RightSide → List ℕ → Bool
    behind_right n r later = again_right last_place last_rank n r later

    right_complete : (l : Locals) (r : RightSide) (K : Name → List ℕ) → Holds (twice_in (right_side_twice l r K))
        → SomeHandle l (λ n. behind_right n r (K n))
    right_complete l (plain e) K h = never h
    right_complete l (called at w args) K h = args_complete l args K h
    right_complete l (forked at w args) K h = args_complete l args K h
    right_complete l (tried at handle) K h = use_complete l handle K h

    right_sound : (l : Locals) (r : RightSide) (K : Name → List ℕ) (n : Name) → IsHandle l n
        → Holds (behind_right n r (K n)) → Holds (twice_in (right_side_twice l r K))
    right_sound l (plain e) K n is h = never h
    right_sound l (called at w args) K n is h = args_sound l args K n is h
    right_sound l (forked at w args) K n is h = args_sound l args K n is h
    right_sound l (tried at handle) K n is h = use_sound l handle K n is h

    value_none : {A : Type 0} (l : Locals) (e : Option Expression) → Holds (twice_in (value_twice l e)) → A
    value_none l None h = never h
    value_none l (Some e) h = never h

    -- where names that mean nothing are not used behind
    abbrev pub Closed : Locals → (Name → List ℕ) → Type 0
    Closed l K = (n : Name) → IsFree c l n → twice_in (K n) ≡ false

    abbrev pub trails : Locals → Bool → Statements → Bool
    trails l first xs = handles last_place last_rank c l first xs

    abbrev pub trails_of : Locals → Bool → Statements → Statement → Bool
    trails_of l first rest x = handles_statement last_place last_rank c l first rest x

    abbrev pub trails_in : Locals → Bool → Arms → Bool
    trails_in l first xs = handles_arms last_place last_rank c l first xs

    -- what a trail finds of the handle of this name, in the rest of its block
    pub misuse_is : (first : Bool) (m : Option (Option ValueKind)) (n : Name) (rest : Statements) (later : List ℕ)
        → m ≡ Some (Some k.Rev) → twice_in later ≡ false
        → meets last_place last_rank (misused first m n rest) ≡ (looped n false rest || (first && follows n rest later))
    misuse_is first m n rest later is none =
        ap (λ o. meets last_place last_rank (misused first o n rest)) is
        ∙ misuse last_place last_rank n first rest later none

    -- where a trail finds a name misused, that name is of a handle
    pub misuse_of : (first : Bool) (m : Option (Option ValueKind)) (n : Name) (rest : Statements)
        → Holds (meets last_place last_rank (misused first m n rest)) → m ≡ Some (Some k.Rev)
    misuse_of first m n rest h = is_rev m (by (is_handle m) h)
      where
        by : (d : Bool)
            → Holds (meets last_place last_rank (if d then (trail n false (start first) rest).found else None))
            → Holds d
        by true i = refl
        by false i = never i

    pub bound_trail : (first : Bool) (l : Locals) (rest : Statements) (x : Statement) (n : Name) (later : List ℕ)
        → Binds x n → IsHandle (locals_after c l x) n → twice_in later ≡ false
        → Holds (looped n false rest || (first && follows n rest later)) → Holds (trails_of l first rest x)
    bound_trail first l rest (statement at line (bind w r)) n later e is none h =
        misuse_is first (find w.text (bound c l w r)) w.text rest later (ap (λ m. find m (bound c l w r)) (sym e) ∙ is)
        none
        ∙ subst (λ m. Holds (looped m false rest || (first && follows m rest later))) e h
    bound_trail first l rest (statement at line (assign w r)) n later e is none h = absurd e
    bound_trail first l rest (statement at line (assign_cell w index v)) n later e is none h = absurd e
    bound_trail first l rest (statement at line (choose arms)) n later e is none h = absurd e
    bound_trail first l rest (statement at line (choose_or arms last)) n later e is none h = absurd e
    bound_trail first l rest (statement at line (repeat test body)) n later e is none h = absurd e
    bound_trail first l rest (statement at line (call w args)) n later e is none h = absurd e
    bound_trail first l rest (statement at line (return v)) n later e is none h = absurd e
    bound_trail first l rest (statement at line (fork w args)) n later e is none h = absurd e
    bound_trail first l rest (statement at line (join handle)) n later e is none h = absurd e
    bound_trail first l rest (statement at line (print items)) n later e is none h = absurd e
    bound_trail first l rest (statement at line (assert test)) n later e is none h = absurd e

    passed : (d : Bool) (ps : List ℕ) → Holds (twice_in (cond d ps [])) → Holds d × Holds (twice_in ps)
    passed true ps h = (refl, h)
    passed false ps h = never h

    pub pass : (d : Bool) (ps : List ℕ) → Holds d → Holds (twice_in ps) → Holds (twice_in (cond d ps []))
    pass true ps e h = h
    pass false ps e h = never e

    abbrev follows_statement : Name → Statement → List ℕ → Bool
    follows_statement n x later = again_statement last_place last_rank n x later

    abbrev follows_arms : Name → Arms → Bool → List ℕ → Bool
    follows_arms n xs other later = again_arms last_place last_rank n xs other later

    arms_other : (n : Name) (xs : Arms) (other : Bool) (later : List ℕ) → Holds other
        → Holds (follows_arms n xs other later)
    arms_other n no_arms other later h = h
    arms_other n (arm test body rest) other later h =
        right (follows n body later) (follows_arms n rest other later) (arms_other n rest other later h)

    abbrev InStatements : Locals → Statement → Statements → (Name → List ℕ) → Type 0
    InStatements l x rest K =
        SomeHandle l (λ n. follows n (statements x rest) (K n)) ⊎ Holds (trails l true (statements x rest))

    abbrev InArms : Locals → Statements → Arms → (Name → Bool) → (Name → List ℕ) → Type 0
    InArms l body rest others K =
        SomeHandle l (λ n. follows n body (K n) || follows_arms n rest (others n) (K n))
        ⊎ Holds (trails l true body || trails_in l true rest)

    abbrev InLast : Locals → Arms → Statements → (Name → List ℕ) → Type 0
    InLast l arms last K =
        SomeHandle l (λ n. follows_arms n arms (follows n last (K n)) (K n))
        ⊎ Holds (trails_in l true arms || trails l true last)

    -- a statement, and those behind it
    complete_both : (l : Locals) (x : Statement) (rest : Statements) (K : Name → List ℕ)
        → ((n : Name) → Binds x n → twice_in (K n) ≡ false)
        → (Holds (twice_in (statement_twice c l x (λ n. ahead n rest (K n))))
        → SomeHandle l (λ n. follows_statement n x (ahead n rest (K n))) ⊎ Holds (trails_of l true rest x))
        → (Holds (twice_in (twice c (locals_after c l x) rest K))
        → SomeHandle (locals_after c l x) (λ n. follows n rest (K n)) ⊎ Holds (trails (locals_after c l x) true rest))
        → Holds (twice_in (twice c l (statements x rest) K)) → InStatements l x rest K
    complete_both l x rest K none first behind h =
        by (any_either (λ at. UsedTwice at) (statement_twice c l x (λ n. ahead n rest (K n)))
        (cond (statement_passes x) (twice c (locals_after c l x) rest K) []) h)
      where
        here : SomeHandle l (λ n. follows_statement n x (ahead n rest (K n))) ⊎ Holds (trails_of l true rest x)
            → InStatements l x rest K
        here (inl u) = inl (
          u.0,
          u.1,
          left (follows_statement u.0 x (ahead u.0 rest (K u.0))) (statement_passes x && follows u.0 rest (K u.0)) u.2,
        )
        here (inr t) = inr (left (trails_of l true rest x) (trails (locals_after c l x) (statement_passes x) rest) t)

        of_name : (n : Name) → Holds (statement_passes x) → IsHandle (locals_after c l x) n
            → Holds (follows n rest (K n)) → IsHandle l n ⊎ Binds x n → InStatements l x rest K
        of_name n p is f (inl old) = inl (
          n,
          old,
          right (follows_statement n x (ahead n rest (K n))) (statement_passes x && follows n rest (K n))
              (hold (statement_passes x) (follows n rest (K n)) p f),
        )
        of_name n p is f (inr b) =
            inr (left (trails_of l true rest x) (trails (locals_after c l x) (statement_passes x) rest)
            (bound_trail true l rest x n (K n) b is (none n b) (right (looped n false rest) (follows n rest (K n)) f)))

        there : Holds (statement_passes x)
            → SomeHandle (locals_after c l x) (λ n. follows n rest (K n))
            ⊎ Holds (trails (locals_after c l x) true rest)
            → InStatements l x rest K
        there p (inl u) = of_name u.0 p u.1 u.2 (scope_was c l x u.0 u.1)
        there p (inr t) =
            inr (right (trails_of l true rest x) (trails (locals_after c l x) (statement_passes x) rest)
            (subst (λ d. Holds (trails (locals_after c l x) d rest)) (sym p) t))

        by : Holds (twice_in (statement_twice c l x (λ n. ahead n rest (K n))))
            ⊎ Holds (twice_in (cond (statement_passes x) (twice c (locals_after c l x) rest K) []))
            → InStatements l x rest K
        by (inl i) = here (first i)
        by (inr i) =
            let q = passed (statement_passes x) (twice c (locals_after c l x) rest K) i in there q.0 (behind q.1)

    arms_both : (l : Locals) (body : Statements) (rest : Arms) (others : Name → Bool) (K : Name → List ℕ)
        → (Holds (twice_in (twice c l body K)) → SomeHandle l (λ n. follows n body (K n)) ⊎ Holds (trails l true body))
        → (Holds (twice_in (arms_twice c l rest K))
        → SomeHandle l (λ n. follows_arms n rest (others n) (K n)) ⊎ Holds (trails_in l true rest))
        → Holds (twice_in (twice c l body K ++ arms_twice c l rest K)) → InArms l body rest others K
    arms_both l body rest others K first behind h =
        by (any_either (λ at. UsedTwice at) (twice c l body K) (arms_twice c l rest K) h)
      where
        here : SomeHandle l (λ n. follows n body (K n)) ⊎ Holds (trails l true body) → InArms l body rest others K
        here (inl u) = inl (u.0, u.1, left (follows u.0 body (K u.0)) (follows_arms u.0 rest (others u.0) (K u.0)) u.2)
        here (inr t) = inr (left (trails l true body) (trails_in l true rest) t)

        there : SomeHandle l (λ n. follows_arms n rest (others n) (K n)) ⊎ Holds (trails_in l true rest)
            → InArms l body rest others K
        there (inl u) =
            inl (u.0, u.1, right (follows u.0 body (K u.0)) (follows_arms u.0 rest (others u.0) (K u.0)) u.2)
        there (inr t) = inr (right (trails l true body) (trails_in l true rest) t)

        by : Holds (twice_in (twice c l body K)) ⊎ Holds (twice_in (arms_twice c l rest K))
            → InArms l body rest others K
        by (inl i) = here (first i)
        by (inr i) = there (behind i)

    last_both : (l : Locals) (arms : Arms) (last : Statements) (K : Name → List ℕ)
        → (Holds (twice_in (arms_twice c l arms K))
        → SomeHandle l (λ n. follows_arms n arms (follows n last (K n)) (K n)) ⊎ Holds (trails_in l true arms))
        → (Holds (twice_in (twice c l last K)) → SomeHandle l (λ n. follows n last (K n)) ⊎ Holds (trails l true last))
        → Holds (twice_in (arms_twice c l arms K ++ twice c l last K)) → InLast l arms last K
    last_both l arms last K first behind h =
        by (any_either (λ at. UsedTwice at) (arms_twice c l arms K) (twice c l last K) h)
      where
        here : SomeHandle l (λ n. follows_arms n arms (follows n last (K n)) (K n)) ⊎ Holds (trails_in l true arms)
            → InLast l arms last K
        here (inl u) = inl u
        here (inr t) = inr (left (trails_in l true arms) (trails l true last) t)

        there : SomeHandle l (λ n. follows n last (K n)) ⊎ Holds (trails l true last) → InLast l arms last K
        there (inl u) = inl (u.0, u.1, arms_other u.0 arms (follows u.0 last (K u.0)) (K u.0) u.2)
        there (inr t) = inr (right (trails_in l true arms) (trails l true last) t)

        by : Holds (twice_in (arms_twice c l arms K)) ⊎ Holds (twice_in (twice c l last K)) → InLast l arms last K
        by (inl i) = here (first i)
        by (inr i) = there (behind i)

    mutual
      pub complete : (result : Option ValueKind) (l : Locals) (xs : Statements) (K : Name → List ℕ)
          → StatementsTyped c result l xs → Closed l K → Holds (twice_in (twice c l xs K))
          → SomeHandle l (λ n. follows n xs (K n)) ⊎ Holds (trails l true xs)
      complete result l no_statements K typed closed h = never h
      complete result l (statements x rest) K typed closed h =
          complete_both l x rest K (λ n b. closed n (binds_free c result l typed.0 x n typed.1 b))
          (λ i. complete_statement result l typed.0 x rest (λ n. ahead n rest (K n)) typed.1
          (λ e n free.
          free_ahead n result typed.0 rest (K n) typed.2 (ap (λ m. find n m) e ∙ free.0, free.1) (closed n free))
          i)
          (λ i. complete result (locals_after c l x) rest K
          (subst (λ m. StatementsTyped c result m rest) (statement_scope c result l typed.0 x typed.1) typed.2)
          (λ n free. closed n (scope_free c l x n free.0, free.1)) i)
          h

      complete_statement : (result : Option ValueKind) (l l' : Locals) (x : Statement) (rest : Statements)
          (K : Name → List ℕ)
          → StatementTyped c result l x l' → (l' ≡ l → Closed l K) → Holds (twice_in (statement_twice c l x K))
          → SomeHandle l (λ n. follows_statement n x (K n)) ⊎ Holds (trails_of l true rest x)
      complete_statement result l l' (statement at line form) rest K typed closed h =
          complete_form result l l' form rest K typed closed h

      complete_form : (result : Option ValueKind) (l l' : Locals) (x : StatementForm) (rest : Statements)
          (K : Name → List ℕ)
          → StatementFormTyped c result l x l' → (l' ≡ l → Closed l K) → Holds (twice_in (statement_form_twice c l x K))
          → SomeHandle l (λ n. again_form last_place last_rank n x (K n))
          ⊎ Holds (handles_form last_place last_rank c l true rest x)
      complete_form result l l' (bind w r) rest K typed closed h =
          inl (right_complete l r (λ n. if same n w.text then [] else K n) h)
      complete_form result l l' (assign w r) rest K typed closed h =
          inl (right_complete l r (λ n. if same n w.text then [] else K n) h)
      complete_form result l l' (assign_cell w index e) rest K typed closed h = never h
      complete_form result l l' (choose arms) rest K typed closed h =
          complete_arms result l arms (λ n. false) K typed.0 (closed typed.1) h
      complete_form result l l' (choose_or arms last) rest K typed closed h =
          last_both l arms last K
          (λ i. complete_arms result l arms (λ n. follows n last (K n)) K typed.0.0 (closed typed.1) i)
          (λ i. complete result l last K typed.0.1 (closed typed.1) i) h
      complete_form result l l' (repeat test body) rest K typed closed h =
          complete result l body (λ n. ahead n body [] ++ K n) typed.0.1
          (λ n free.
          none_append (ahead n body []) (K n) (free_ahead n result l body [] typed.0.1 free refl)
          (closed typed.1 n free))
          h
      complete_form result l l' (call w args) rest K typed closed h = inl (args_complete l args K h)
      complete_form result l l' (return e) rest K typed closed h = value_none l e h
      complete_form result l l' (fork w args) rest K typed closed h = inl (args_complete l args K h)
      complete_form result l l' (join handle) rest K typed closed h = inl (use_complete l handle K h)
      complete_form result l l' (print items) rest K typed closed h = never h
      complete_form result l l' (assert test) rest K typed closed h = never h

      complete_arms : (result : Option ValueKind) (l : Locals) (xs : Arms) (others : Name → Bool) (K : Name → List ℕ)
          → ArmsTyped c result l xs → Closed l K → Holds (twice_in (arms_twice c l xs K))
          → SomeHandle l (λ n. follows_arms n xs (others n) (K n)) ⊎ Holds (trails_in l true xs)
      complete_arms result l no_arms others K typed closed h = never h
      complete_arms result l (arm test body rest) others K typed closed h =
          arms_both l body rest others K (λ i. complete result l body K typed.1 closed i)
          (λ i. complete_arms result l rest others K typed.2 closed i) h

    sound_both : (l : Locals) (x : Statement) (rest : Statements) (K : Name → List ℕ) (n : Name)
        → Holds (follows_statement n x (ahead n rest (K n))) ⊎ Holds (statement_passes x && follows n rest (K n))
        → (Holds (follows_statement n x (ahead n rest (K n)))
        → Holds (twice_in (statement_twice c l x (λ m. ahead m rest (K m)))))
        → (Holds (follows n rest (K n)) → Holds (twice_in (twice c (locals_after c l x) rest K)))
        → Holds (twice_in (twice c l (statements x rest) K))
    sound_both l x rest K n (inl i) first behind =
        any_left (λ at. UsedTwice at) (statement_twice c l x (λ m. ahead m rest (K m)))
        (cond (statement_passes x) (twice c (locals_after c l x) rest K) []) (first i)
    sound_both l x rest K n (inr i) first behind =
        let q = both_hold (statement_passes x) (follows n rest (K n)) i in
        any_right (λ at. UsedTwice at) (statement_twice c l x (λ m. ahead m rest (K m)))
        (cond (statement_passes x) (twice c (locals_after c l x) rest K) [])
        (pass (statement_passes x) (twice c (locals_after c l x) rest K) q.0 (behind q.1))

    mutual
      pub sound : (l : Locals) (xs : Statements) (K : Name → List ℕ) (n : Name) → IsHandle l n
          → Holds (follows n xs (K n)) → Holds (twice_in (twice c l xs K))
      sound l no_statements K n is h = never h
      sound l (statements x rest) K n is h =
          sound_both l x rest K n
          (either (follows_statement n x (ahead n rest (K n))) (statement_passes x && follows n rest (K n)) h)
          (λ i. sound_statement l x (λ m. ahead m rest (K m)) n is i)
          (λ i. sound (locals_after c l x) rest K n (scope_handle c l x n is) i)

      sound_statement : (l : Locals) (x : Statement) (K : Name → List ℕ) (n : Name) → IsHandle l n
          → Holds (follows_statement n x (K n)) → Holds (twice_in (statement_twice c l x K))
      sound_statement l (statement at line form) K n is h = sound_form l form K n is h

      sound_form : (l : Locals) (x : StatementForm) (K : Name → List ℕ) (n : Name) → IsHandle l n
          → Holds (again_form last_place last_rank n x (K n)) → Holds (twice_in (statement_form_twice c l x K))
      sound_form l (bind w r) K n is h = right_sound l r (λ m. if same m w.text then [] else K m) n is h
      sound_form l (assign w r) K n is h = right_sound l r (λ m. if same m w.text then [] else K m) n is h
      sound_form l (assign_cell w index e) K n is h = never h
      sound_form l (choose arms) K n is h = arm_both (sound_arms l arms K n is false h) (λ i. i) (λ i. never i)
      sound_form l (choose_or arms last) K n is h =
          arm_both (sound_arms l arms K n is (follows n last (K n)) h)
          (λ i. any_left (λ at. UsedTwice at) (arms_twice c l arms K) (twice c l last K) i)
          (λ i. any_right (λ at. UsedTwice at) (arms_twice c l arms K) (twice c l last K) (sound l last K n is i))
      sound_form l (repeat test body) K n is h = sound l body (λ m. ahead m body [] ++ K m) n is h
      sound_form l (call w args) K n is h = args_sound l args K n is h
      sound_form l (return e) K n is h = never h
      sound_form l (fork w args) K n is h = args_sound l args K n is h
      sound_form l (join handle) K n is h = use_sound l handle K n is h
      sound_form l (print items) K n is h = never h
      sound_form l (assert test) K n is h = never h

      sound_arms : (l : Locals) (xs : Arms) (K : Name → List ℕ) (n : Name) → IsHandle l n → (other : Bool)
          → Holds (follows_arms n xs other (K n)) → Holds (twice_in (arms_twice c l xs K)) ⊎ Holds other
      sound_arms l no_arms K n is other h = inr h
      sound_arms l (arm test body rest) K n is other h =
          any_arms (λ at. UsedTwice at) (twice c l body K) (arms_twice c l rest K)
          (either (follows n body (K n)) (follows_arms n rest other (K n)) h) (λ i. sound l body K n is i)
          (λ i. sound_arms l rest K n is other i)
