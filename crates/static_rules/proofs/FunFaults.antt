-- The list of faults of funs has exactly those of the rules, and the same first one.
use Rattle.std.proofs.Common.{◌≡◌, ◌∙◌, ◌≢◌, inl, inr, ℕ, ◌+◌, ◌≤◌, Bool, true, false, cond, nat_eq, nat_le, Option, Some, None, List, [], ◌∷◌, ◌++◌, length, refl, sym, ap, subst, arith}
use Rattle.std.proofs.lemmas.Bool.Decides.{nat_tests}
use Rattle.std.specs.Cmp.Lexicographic.{same_text, other_text}
use Rattle.rev_num.specs.declared.value.ValueKind.{ValueKind}
use Rattle.rev_syntax.specs.Trees.{PlacedName, Parameter, Expression, Declaration, fun, merge, shared, proc, ProgramTree}
use Rattle.name_tables.specs.Names.{Name, same}
use Rattle.typed_programs.specs.FunRules.{Use, count, uses_in, first_fun, fun_named, later_here, arity_here, broken_by, broken_in, fun_faults}
use Rattle.typed_programs.specs.Least.{Among}
use Rattle.typed_programs.specs.declared.expanded.FunHead.{FunHead}
use Rattle.typed_programs.specs.declared.fun_fault.MergeFault.{MergeFault}
use Rattle.typed_programs.specs.declared.fun_fault.MergeFault.TheVariants.{UnknownFun, LaterFun, Arity}
use Rattle.typed_programs.proofs.Lists.{equal, unequal}
use Rattle.static_rules.specs.Funs.{IsFunOf, IsFirstFun, BreaksFun, unknown_fun, later_fun, other_arity}
use Rattle.static_rules.specs.Laws.{SameFuns, SameFirstFun, FunsKept}
use Rattle.static_rules.proofs.Blocks.{among_at, behind_by}
use Rattle.static_rules.proofs.FunUses.{Has, has_front, has_end, IsApplied, each_applied, use_applied}
use Rattle.static_rules.proofs.Expressions.{counts}

-- ---- the fun that a name means

-- a fun of these declarations that is the first of its name
record IsFound (es : List Declaration) (name : Name) (d : ℕ) (h : FunHead) : Type 0 where
  before : List Declaration
  word : PlacedName
  params : List Parameter
  result : ValueKind
  body : Expression
  behind : List Declaration
  parts : es ≡ before ++ fun word params result body ∷ behind
  named : word.text ≡ name
  first : (e : Declaration) → Among before e → IsFunOf name e → ⊥
  number : h.decl ≡ d + length before
  counted : h.params ≡ length params

found_later : (x : Declaration) (es : List Declaration) (name : Name) (d : ℕ) (h : FunHead) → (IsFunOf name x → ⊥)
    → IsFound es name (d + 1) h → IsFound (x ∷ es) name d h
found_later x es name d h other f = record {
  before = x ∷ f.before;
  word = f.word;
  params = f.params;
  result = f.result;
  body = f.body;
  behind = f.behind;
  parts = ap (λ l. x ∷ l) f.parts;
  named = f.named;
  first = λ e m is. elim m [ inl q ↦ other (subst (λ y. IsFunOf name y) (sym q) is) | inr r ↦ f.first e r is ];
  number = let n = f.number in omega arith;
  counted = f.counted;
}

found : (es : List Declaration) (d k : ℕ) (name : Name) (h : FunHead) → first_fun d k es name ≡ Some h
    → IsFound es name d h
found [] d k name h is = absurd (let q : None ≡ Some h = is in cc)
found (fun w ps r body ∷ es) d k name h is = by (found es (d + 1) (k + 1) name h) (same name w.text) refl is
  where
    by : (first_fun (d + 1) (k + 1) es name ≡ Some h → IsFound es name (d + 1) h) → (b : Bool) → same name w.text ≡ b
        → cond b (Some (record { decl = d; number = k; params = length ps })) (first_fun (d + 1) (k + 1) es name)
        ≡ Some h
        → IsFound (fun w ps r body ∷ es) name d h
    by later true e q =
        let s : record { decl = d; number = k; params = length ps } ≡ h = cc in
        record {
          before = [];
          word = w;
          params = ps;
          result = r;
          body = body;
          behind = es;
          parts = refl;
          named = sym (same_text name w.text (sym e));
          first = λ x m i. absurd m;
          number = subst (λ (g : FunHead). g.decl ≡ d + 0) s (let z : d ≡ d + 0 = omega arith in z);
          counted = subst (λ (g : FunHead). g.params ≡ length ps) s refl;
        }
    by later false e q =
        found_later (fun w ps r body) es name d h (λ i. other_text name w.text (sym e) (sym i)) (later q)
found (merge w m j r body ∷ es) d k name h is =
    found_later (merge w m j r body) es name d h (λ i. i) (found es (d + 1) k name h is)
found (shared x ∷ es) d k name h is = found_later (shared x) es name d h (λ i. i) (found es (d + 1) k name h is)
found (proc w ps r body ∷ es) d k name h is =
    found_later (proc w ps r body) es name d h (λ i. i) (found es (d + 1) k name h is)

-- no fun of a name
none_later : (x : Declaration) (es : List Declaration) (name : Name) → (IsFunOf name x → ⊥)
    → ((e : Declaration) → Among es e → IsFunOf name e → ⊥) → (e : Declaration) → Among (x ∷ es) e → IsFunOf name e → ⊥
none_later x es name other h e (inl q) is = other (subst (λ y. IsFunOf name y) (sym q) is)
none_later x es name other h e (inr m) is = h e m is

missing : (es : List Declaration) (d k : ℕ) (name : Name) → first_fun d k es name ≡ None → (e : Declaration)
    → Among es e → IsFunOf name e → ⊥
missing [] d k name is = λ e m i. m
missing (fun w ps r body ∷ es) d k name is = by (missing es (d + 1) (k + 1) name) (same name w.text) refl is
  where
    by : (first_fun (d + 1) (k + 1) es name ≡ None → (e : Declaration) → Among es e → IsFunOf name e → ⊥) → (b : Bool)
        → same name w.text ≡ b
        → cond b (Some (record { decl = d; number = k; params = length ps })) (first_fun (d + 1) (k + 1) es name) ≡ None
        → (e : Declaration) → Among (fun w ps r body ∷ es) e → IsFunOf name e → ⊥
    by later true e q = absurd (let c : Some (record { decl = d; number = k; params = length ps }) ≡ None = q in cc)
    by later false e q = none_later (fun w ps r body) es name (λ i. other_text name w.text (sym e) (sym i)) (later q)
missing (merge w m j r body ∷ es) d k name is =
    none_later (merge w m j r body) es name (λ i. i) (missing es (d + 1) k name is)
missing (shared x ∷ es) d k name is = none_later (shared x) es name (λ i. i) (missing es (d + 1) k name is)
missing (proc w ps r body ∷ es) d k name is =
    none_later (proc w ps r body) es name (λ i. i) (missing es (d + 1) k name is)

-- what is read of the fun that a name means
record IsHead (o : Option FunHead) (decl params : ℕ) : Type 0 where
  head : FunHead
  is : o ≡ Some head
  number : head.decl ≡ decl
  counted : head.params ≡ params

one_more : (d : ℕ) (x : Declaration) (before : List Declaration) (o : Option FunHead) (params : ℕ)
    → IsHead o (d + 1 + length before) params → IsHead o (d + length (x ∷ before)) params
one_more d x before o params h =
    subst (λ n. IsHead o n params) (let z : d + 1 + length before ≡ d + length (x ∷ before) = omega arith in z) h

head_at : (before : List Declaration) (w : PlacedName) (ps : List Parameter) (r : ValueKind) (body : Expression)
    (behind : List Declaration) (d k : ℕ) (name : Name)
    → w.text ≡ name → ((e : Declaration) → Among before e → IsFunOf name e → ⊥)
    → IsHead (first_fun d k (before ++ fun w ps r body ∷ behind) name) (d + length before) (length ps)
head_at [] w ps r body behind d k name named first = by (same name w.text) refl
  where
    by : (b : Bool) → same name w.text ≡ b
        → IsHead
        (cond b (Some (record { decl = d; number = k; params = length ps })) (first_fun (d + 1) (k + 1) behind name))
        (d + 0) (length ps)
    by true e = record {
      head = record { decl = d; number = k; params = length ps };
      is = refl;
      number = omega arith;
      counted = refl;
    }
    by false e = absurd (other_text name w.text (sym e) (sym named))
head_at (fun v qs x b ∷ before) w ps r body behind d k name named first =
    by (head_at before w ps r body behind (d + 1) (k + 1) name named (λ e m. first e (inr m))) (same name v.text) refl
  where
    by :
        IsHead (first_fun (d + 1) (k + 1) (before ++ fun w ps r body ∷ behind) name) (d + 1 + length before) (length ps)
        → (c : Bool) → same name v.text ≡ c
        → IsHead (cond c (Some (record { decl = d; number = k; params = length qs }))
        (first_fun (d + 1) (k + 1) (before ++ fun w ps r body ∷ behind) name))
        (d + length (fun v qs x b ∷ before)) (length ps)
    by later true e = absurd (first (fun v qs x b) (inl refl) (sym (same_text name v.text (sym e))))
    by later false e = one_more d (fun v qs x b) before _ _ later
head_at (merge v m j x b ∷ before) w ps r body behind d k name named first =
    one_more d (merge v m j x b) before _ _
    (head_at before w ps r body behind (d + 1) k name named (λ e n. first e (inr n)))
head_at (shared x ∷ before) w ps r body behind d k name named first =
    one_more d (shared x) before _ _ (head_at before w ps r body behind (d + 1) k name named (λ e m. first e (inr m)))
head_at (proc v qs x b ∷ before) w ps r body behind d k name named first =
    one_more d (proc v qs x b) before _ _
    (head_at before w ps r body behind (d + 1) k name named (λ e m. first e (inr m)))

among_parts : {A : Type 0} (xs before : List A) (x : A) (behind : List A) → xs ≡ before ++ x ∷ behind → Among xs x
among_parts xs before x behind e = among_at before x xs (behind_by before x behind xs e)

-- a name that no fun has
no_head : (o : Option FunHead) → ((h : FunHead) → o ≡ Some h → ⊥) → o ≡ None
no_head None h = refl
no_head (Some x) h = absurd (h x refl)

-- ---- the faults of a list of applications

broken_of : (named : Name → Option FunHead) (us : List Use) (f : MergeFault) → Among (broken_in named us) f
    → (u : Use) × Among us u × Has (broken_by u (named u.name.text)) f
broken_of named [] f m = absurd m
broken_of named (u ∷ us) f m = split (broken_of named us f) (broken_by u (named u.name.text)) (λ x. x) m
  where
    split : (Among (broken_in named us) f → (v : Use) × Among us v × Has (broken_by v (named v.name.text)) f)
        → (xs : List MergeFault) → (Among xs f → Among (broken_by u (named u.name.text)) f)
        → Among (xs ++ broken_in named us) f
        → (v : Use) × Among (u ∷ us) v × Has (broken_by v (named v.name.text)) f
    split later [] h n = let g = later n in (g.0, inr g.1, g.2)
    split later (x ∷ xs) h (inl is) = (u, inl refl, record { it = h (inl is) })
    split later (x ∷ xs) h (inr n) = split later xs (λ y. h (inr y)) n

broken_at : (named : Name → Option FunHead) (us : List Use) (u : Use) (f : MergeFault) → Among us u
    → Has (broken_by u (named u.name.text)) f → Has (broken_in named us) f
broken_at named [] u f m h = absurd m
broken_at named (v ∷ us) u f (inl is) h =
    has_front _ _ f (subst (λ w. Has (broken_by w (named w.name.text)) f) (sym is) h)
broken_at named (v ∷ us) u f (inr m) h = has_end (broken_by v (named v.name.text)) _ f (broken_at named us u f m h)

-- ---- from the list to the rules

module _ (p : ProgramTree) where
  first_of : (name : Name) (h : FunHead) → IsFound p.declarations name 0 h
      → (before : List Declaration) × (ps : List Parameter) × IsFirstFun p name before ps × (h.decl ≡ length before)
      × (h.params ≡ length ps)
  first_of name h f = (
    f.before,
    f.params,
    record {
      word = f.word;
      result = f.result;
      body = f.body;
      stands = record { rest = f.behind; parts = f.parts };
      named = f.named;
      first = f.first;
    },
    (let n = f.number in let z : h.decl ≡ length f.before = omega arith in z),
    f.counted,
  )

  broken_head : (u : Use) (h : FunHead) (f : MergeFault) → fun_named p u.name.text ≡ Some h → IsApplied p u
      → Among (later_here u h ++ arity_here u h) f → BreaksFun p f
  broken_head u h f is a m = late (nat_le u.within h.decl) refl m
    where
      known : (before : List Declaration) × (ps : List Parameter) × IsFirstFun p u.name.text before ps
          × (h.decl ≡ length before) × (h.params ≡ length ps)
      known = first_of u.name.text h (found p.declarations 0 0 u.name.text h is)

      counted : (b : Bool) → nat_eq u.args h.params ≡ b → Among (cond b [] (Arity u.name.at ∷ [])) f → BreaksFun p f
      counted true e n = absurd n
      counted false e (inl q) =
          let different : u.args ≢ h.params = unequal u.args h.params e in
          subst (λ g. BreaksFun p g) q
          (other_arity a.applies known.2 (λ c. different (sym a.counted ∙ sym (counts _) ∙ c ∙ sym known.4)))
      counted false e (inr n) = absurd n

      late : (b : Bool) → nat_le u.within h.decl ≡ b → Among (cond b (LaterFun u.name.at ∷ []) [] ++ arity_here u h) f
          → BreaksFun p f
      late true e (inl q) =
          let below : u.within ≤ h.decl = grind (arith, nat_tests) in
          let number = known.3 in
          subst (λ g. BreaksFun p g) q
          (later_fun a.applies known.2 (let z : u.within ≤ length known.0 = omega arith in z))
      late true e (inr n) = counted (nat_eq u.args h.params) refl n
      late false e n = counted (nat_eq u.args h.params) refl n

  broken_use : (u : Use) (o : Option FunHead) (f : MergeFault) → fun_named p u.name.text ≡ o → IsApplied p u
      → Among (broken_by u o) f → BreaksFun p f
  broken_use u None f is a (inl q) =
      subst (λ g. BreaksFun p g) q (unknown_fun a.applies (missing p.declarations 0 0 u.name.text is))
  broken_use u None f is a (inr n) = absurd n
  broken_use u (Some h) f is a m = broken_head u h f is a m

  of_list : (f : MergeFault) → Among (fun_faults p) f → BreaksFun p f
  of_list f m =
      let g = broken_of (fun_named p) (uses_in p) f m in
      broken_use g.0 (fun_named p g.0.name.text) f refl (each_applied p g.0 g.1) g.2.it

  -- ---- from the rules to the list

  no_fun : (name : Name) → ((e : Declaration) → Among p.declarations e → IsFunOf name e → ⊥) → fun_named p name ≡ None
  no_fun name h = no_head (fun_named p name) (λ x is. by x (found p.declarations 0 0 name x is))
    where
      by : (x : FunHead) → IsFound p.declarations name 0 x → ⊥
      by x f = h (fun f.word f.params f.result f.body) (among_parts p.declarations f.before _ f.behind f.parts) f.named

  the_head : (name : Name) (before : List Declaration) (ps : List Parameter) → IsFirstFun p name before ps
      → IsHead (fun_named p name) (length before) (length ps)
  the_head name before ps f =
      subst (λ es. IsHead (first_fun 0 0 es name) (length before) (length ps)) (sym f.stands.parts)
      (subst (λ n. IsHead (first_fun 0 0 (before ++ fun f.word ps f.result f.body ∷ f.stands.rest) name) n (length ps))
      (let z : 0 + length before ≡ length before = omega arith in z)
      (head_at before f.word ps f.result f.body f.stands.rest 0 0 name f.named f.first))

  is_late : (u : Use) (h : FunHead) → u.within ≤ h.decl → Has (later_here u h) (LaterFun u.name.at)
  is_late u h le = by (nat_le u.within h.decl) refl
    where
      by : (b : Bool) → nat_le u.within h.decl ≡ b → Has (cond b (LaterFun u.name.at ∷ []) []) (LaterFun u.name.at)
      by true e = record { it = inl refl }
      by false e = absurd (grind (arith, nat_tests))

  is_other : (u : Use) (h : FunHead) → u.args ≢ h.params → Has (arity_here u h) (Arity u.name.at)
  is_other u h ne = by (nat_eq u.args h.params) refl
    where
      by : (b : Bool) → nat_eq u.args h.params ≡ b → Has (cond b [] (Arity u.name.at ∷ [])) (Arity u.name.at)
      by true e = absurd (ne (equal u.args h.params e))
      by false e = record { it = inl refl }

  to_list : (f : MergeFault) → BreaksFun p f → Has (fun_faults p) f
  to_list _ (unknown_fun {n = n} {w = w} {args = args} a none) =
      let u : Use = record { name = w; args = count args; within = n } in
      broken_at (fun_named p) (uses_in p) u _ (use_applied p a).it
      (subst (λ o. Has (broken_by u o) (UnknownFun w.at)) (sym (no_fun w.text none)) (record { it = inl refl }))
  to_list _ (later_fun {n = n} {w = w} {args = args} {before = before} {ps = ps} a first le) =
      let u : Use = record { name = w; args = count args; within = n } in
      let h = the_head w.text before ps first in
      let d = h.number in
      broken_at (fun_named p) (uses_in p) u _ (use_applied p a).it
      (subst (λ o. Has (broken_by u o) (LaterFun w.at)) (sym h.is)
      (has_front _ _ _ (is_late u h.head (let z : n ≤ h.head.decl = omega arith in z))))
  to_list _ (other_arity {n = n} {w = w} {args = args} {before = before} {ps = ps} a first ne) =
      let u : Use = record { name = w; args = count args; within = n } in
      let h = the_head w.text before ps first in
      broken_at (fun_named p) (uses_in p) u _ (use_applied p a).it
      (subst (λ o. Has (broken_by u o) (Arity w.at)) (sym h.is)
      (has_end (later_here u h.head) _ _ (is_other u h.head (λ e. ne (counts args ∙ (e ∙ h.counted))))))

-- ---- the laws

pub same_funs : SameFuns
same_funs p f = (of_list p f, λ b. (to_list p f b).it)

pub same_first_fun : SameFirstFun
same_first_fun p f = (
  λ h. record { broken = of_list p f h.among; first = λ g b. h.first g (to_list p g b).it },
  λ h. record { among = (to_list p f h.broken).it; first = λ g m. h.first g (of_list p g m) },
)

none_among : {A : Type 0} (xs : List A) → ((x : A) → Among xs x → ⊥) → xs ≡ []
none_among [] h = refl
none_among (x ∷ xs) h = absurd (h x (inl refl))

pub funs_kept : FunsKept
funs_kept p = (
  λ e f b. subst (λ fs. Among fs f) e (to_list p f b).it,
  λ h. none_among (fun_faults p) (λ f m. h f (of_list p f m)),
)
