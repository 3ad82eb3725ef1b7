-- The merges of a program's locations are the code's merge blocks.
--   coded_value        the word of a new value, or the same fault
--   merge_alike        the merge of the words of three values is the word of that of the values
--   laid_from          the code has the merges of the program, by location, each declared
--   alike_from         wherever the joinee wrote
use Rattle.std.proofs.Common.{◌≡◌, ◌∙◌, ℕ, zero, suc, ◌+◌, Bool, true, false, List, [], ◌∷◌, ◌++◌, length, map, replicate, Option, Some, None, option_map, refl, sym, ap, subst, append_assoc, length-append, arith}
use Rattle.std.specs.Prelude.{slice_get, if◌then◌else◌, is_some, Result, Ok, Err}
use Rattle.std.proofs.lemmas.List.{length-replicate}
use Rattle.rev_num.specs.Path.{Path}
use Rattle.rev_num.specs.declared.value.Value.{Value}
use Rattle.rev_num.specs.declared.value.Value.TheVariants as v
use Rattle.rev_num.specs.declared.value.ValueKind.{ValueKind}
use Rattle.rev_num.specs.declared.value.ValueKind.TheVariants as k
use Rattle.rev_num.specs.declared.value.NumFault.{NumFault}
use Rattle.rev_num.specs.declared.outcome.Cause.TheVariants as cause
use Rattle.rev_syntax.specs.Trees.{PlacedName, Declaration, fun, merge, shared, proc, ProgramTree}
use Rattle.typed_programs.specs.Least.{Among}
use Rattle.name_tables.specs.Names.{Name, same}
use Rattle.typed_programs.specs.Value.{Answer, FunDef}
use Rattle.typed_programs.specs.Definitions.{fun_def, MergeDef, merge_def, merges_after, merges_in, merged, merge_value_of}
use Rattle.typed_programs.specs.Evaluation.{merge_answer}
use Rattle.typed_programs.proofs.Firsts.{more_among}
use Rattle.typed_programs.specs.Kinds.{Names}
use Rattle.typed_programs.specs.Judgement.{ByTyped, DeclarationsTyped}
use Rattle.typed_programs.specs.Layout.{merge_at, merge_of, variable_behind, variables_behind}
use Rattle.typed_programs.specs.Scopes.{cells_of}
use Rattle.revision_calculus.specs.State.{Location, view}
use Rattle.revision_calculus.specs.Join.{merges_of, number_value}
use Rattle.revision_calculus.specs.Kinded.{IsAccepted, IsOf, IsNumberOrFault, declared_kinds, MergesLocation, MergesLocations}
use Rattle.rev_code.specs.Words.{Word}
use Rattle.rev_code.specs.Funs.{values}
use Rattle.version_map.specs.Composing.{Merges}
use Rattle.code_generation.specs.Numbers.{merge_number}
use Rattle.code_generation.specs.Generated.{merge_entry, var_of, code_of}
use Rattle.code_generation.proofs.Merges.{counted, merge_known}
use Rattle.expression_meaning.specs.Agrees.{word, coded}
use Rattle.expression_meaning.proofs.Funs.{program_merges}
use Rattle.program_meaning.specs.Composes.{merge_value, merge_there}
use Rattle.program_meaning.specs.Composes as rule
use Rattle.code_machine.specs.Local.{CodeRun}
use Rattle.code_machine.specs.Joining.{merge_in, word_or_fault, merged_by, merged_there, merges}
use Rattle.code_machine.specs.Joining as joining

abbrev pub coded_value : Result Value NumFault → Result (Word Path) NumFault
coded_value (Ok x) = Ok (word x)
coded_value (Err f) = Err f

-- ---- one merge

pub answer_alike : (a : Answer) → IsNumberOrFault a
    → word_or_fault (Some (coded a)) ≡ coded_value (number_value (merge_answer a))
answer_alike (Ok (v.Int z)) is = refl
answer_alike (Ok (v.Bool z)) is = absurd (let q : k.Bool ≡ k.Int = is in cc)
answer_alike (Ok (v.Rev z)) is = absurd (let q : k.Rev ≡ k.Int = is in cc)
answer_alike (Err cause.Overflow) is = refl
answer_alike (Err cause.ZeroDivisor) is = refl
answer_alike (Err cause.Index) is = absurd is
answer_alike (Err cause.Assert) is = absurd is
answer_alike (Err cause.JoinNone) is = absurd is
answer_alike (Err cause.CallDepth) is = absurd is
answer_alike (Err cause.Spent) is = absurd is
answer_alike (Err (cause.Merge n f)) is = absurd is

-- a location has no merge, or a declared one
abbrev pub IsDeclared : ProgramTree → Option ℕ → Type 0
IsDeclared p None = Unit {0}
IsDeclared p (Some n) = (d : MergeDef) × (slice_get (merges_in p) n ≡ Some d)

abbrev pub coded_merge : List Declaration → Option ℕ → Option ℕ
coded_merge es None = None
coded_merge es (Some n) = Some (merge_number n es)

module _ (p : ProgramTree) (well : IsAccepted p) where
  value_is : (n : ℕ) (d : MergeDef) → slice_get (merges_in p) n ≡ Some d → (x y z : Value)
      → merge_value_of p n x y z ≡ merged d x y z
  unfolding merge_value_of
  value_is n d is x y z = ap (λ o. Rattle.typed_programs.specs.Definitions.merged_by o x y z) is

  ints_alike : (n : ℕ) → IsDeclared p (Some n) → (x y z : Value) → IsOf k.Int x → IsOf k.Int y → IsOf k.Int z
      → IsNumberOrFault (merge_value_of p n x y z)
      → merged_by (values (code_of p)) (coded_merge p.declarations (Some n)) (word x) (word y) (word z)
      ≡ coded_value (merge_value p (Some n) x y z)
  ints_alike n d (v.Int x) (v.Int y) (v.Int z) kx ky kz is =
      let e : merge_value_of p n (v.Int x) (v.Int y) (v.Int z) ≡ merged d.0 (v.Int x) (v.Int y) (v.Int z) =
      value_is n d.0 d.1 (v.Int x) (v.Int y) (v.Int z) in
      ap word_or_fault (program_merges p well n d.0 d.1 x y z)
      ∙ answer_alike (merged d.0 (v.Int x) (v.Int y) (v.Int z)) (subst IsNumberOrFault e is)
      ∙ ap (λ a. coded_value (number_value (merge_answer a))) (sym e)
  ints_alike n d (v.Bool x) y z kx ky kz is = absurd (let q : k.Bool ≡ k.Int = kx in cc)
  ints_alike n d (v.Rev x) y z kx ky kz is = absurd (let q : k.Rev ≡ k.Int = kx in cc)
  ints_alike n d (v.Int x) (v.Bool y) z kx ky kz is = absurd (let q : k.Bool ≡ k.Int = ky in cc)
  ints_alike n d (v.Int x) (v.Rev y) z kx ky kz is = absurd (let q : k.Rev ≡ k.Int = ky in cc)
  ints_alike n d (v.Int x) (v.Int y) (v.Bool z) kx ky kz is = absurd (let q : k.Bool ≡ k.Int = kz in cc)
  ints_alike n d (v.Int x) (v.Int y) (v.Rev z) kx ky kz is = absurd (let q : k.Rev ≡ k.Int = kz in cc)

  -- of a location, where the joinee wrote x
  merge_alike : (o : Option ℕ) → IsDeclared p o → (m j : Location) (x : Value) → MergesLocation p o m j (Some x)
      → merged_by (values (code_of p)) (coded_merge p.declarations o) (word (view m)) (word x) (word j.base)
      ≡ coded_value (merge_value p o (view m) x j.base)
  merge_alike None d m j x is = refl
  merge_alike (Some n) d m j x is = ints_alike n d (view m) x j.base is.main is.join is.root is.answer

-- ---- declared merges

abbrev Found : List FunDef → List Declaration → ℕ → Type 0
Found fs es n = (d : MergeDef) × (slice_get (merges_after fs es) n ≡ Some d)

-- a merge that is found stands among all of the program
merge_there_is : (fs : List FunDef) (before rest : List Declaration) (name : Name) (n : ℕ)
    → merge_at name before ≡ Some n → Found fs (before ++ rest) n
merge_there_is fs [] rest name n h = absurd (let z : None ≡ Some n = h in cc)
merge_there_is fs (fun w ps r body ∷ es) rest name n h = merge_there_is (fun_def w ps body ∷ fs) es rest name n h
merge_there_is fs (shared x ∷ es) rest name n h = merge_there_is fs es rest name n h
merge_there_is fs (proc w ps r body ∷ es) rest name n h = merge_there_is fs es rest name n h
merge_there_is fs (merge w m j r body ∷ es) rest name n h =
    by (same name w.text) n h (λ i e. merge_there_is fs es rest name i e)
  where
    by : (d : Bool) (q : ℕ) → (if d then Some 0 else option_map (λ i. 1 + i) (merge_at name es)) ≡ Some q
        → ((i : ℕ) → merge_at name es ≡ Some i → Found fs (es ++ rest) i) → Found fs (merge w m j r body ∷ es ++ rest) q
    by true q e rec =
        let z : 0 ≡ q = (let y : Some 0 ≡ Some q = e in cc) in
        subst (Found fs (merge w m j r body ∷ es ++ rest)) z (merge_def fs w m j r body, refl)
    by false q e rec =
        let c = counted (merge_at name es) q e in
        subst (Found fs (merge w m j r body ∷ es ++ rest)) (sym c.2) (rec c.0 c.1)

-- ---- by location

abbrev pub AllDeclared : ProgramTree → List (Option ℕ) → Type 0
AllDeclared p [] = Unit {0}
AllDeclared p (o ∷ os) = IsDeclared p o × AllDeclared p os

pub record AreLaid (p : ProgramTree) (laid es : List Declaration) : Type 0 where
  pub same : joining.merges_of (map (var_of p.declarations) (variables_behind laid es))
      ≡ map (coded_merge p.declarations) (merges_of (variables_behind laid es))
  pub declared : AllDeclared p (merges_of (variables_behind laid es))
  pub count : length (merges_of (variables_behind laid es)) ≡ length (declared_kinds es)

cells_same : (p : ProgramTree) (n : ℕ) (o c : Option ℕ) (os cs : List (Option ℕ)) → c ≡ coded_merge p.declarations o
    → cs ≡ map (coded_merge p.declarations) os
    → replicate n c ++ cs ≡ map (coded_merge p.declarations) (replicate n o ++ os)
cells_same p zero o c os cs e h = h
cells_same p (suc n) o c os cs e h = let z = cells_same p n o c os cs e h in λ j. e j ∷ z j

cells_declared : (p : ProgramTree) (n : ℕ) (o : Option ℕ) (os : List (Option ℕ)) → IsDeclared p o → AllDeclared p os
    → AllDeclared p (replicate n o ++ os)
cells_declared p zero o os d ds = ds
cells_declared p (suc n) o os d ds = (d, cells_declared p n o os d ds)

module _ (p : ProgramTree) (outer inner : Names) where
  -- what a variable has by its declaration
  abbrev Coded : (laid : List Declaration) → Option PlacedName → Type 0
  Coded laid by =
      ((if is_some by then Some (merge_entry p.declarations (merge_of laid by)) else None)
      ≡ coded_merge p.declarations (merge_of laid by))
      × IsDeclared p (merge_of laid by)

  one_coded : (before laid rest : List Declaration) (by : Option PlacedName) (t : ValueKind) → ByTyped before by t
      → ((e : Declaration) → Among before e → Among laid e) → p.declarations ≡ laid ++ rest → Coded laid by
  one_coded before laid rest None t typed known all = (refl, tt)
  one_coded before laid rest (Some w) t typed known all =
      let e = typed.0 in
      let n = merge_known laid w.text e.0 (known e.0 e.1) e.2 in
      let d = merge_there_is [] laid rest w.text n.0 n.1 in
      let there : IsDeclared p (Some n.0) = (d.0, ap (λ es. slice_get (merges_after [] es) n.0) all ∙ d.1) in (
        ap (λ o. Some (merge_entry p.declarations o)) n.1 ∙ ap (coded_merge p.declarations) (sym n.1),
        subst (IsDeclared p) (sym n.1) there,
      )

  split : (laid es : List Declaration) (e : Declaration) → p.declarations ≡ laid ++ e ∷ es
      → p.declarations ≡ (laid ++ e ∷ []) ++ es
  split laid es e h = h ∙ sym (append_assoc laid (e ∷ []) es)

  pub laid_from : (before laid es : List Declaration) → DeclarationsTyped outer inner before es
      → ((e : Declaration) → Among before e → Among laid e) → p.declarations ≡ laid ++ es → AreLaid p laid es
  laid_from before laid [] typed known all = record { same = refl; declared = tt; count = refl }
  laid_from before laid (fun w ps r body ∷ es) typed known all =
      let d : Declaration = fun w ps r body in
      let l = laid_from (d ∷ before) (laid ++ d ∷ []) es typed.1 (more_among before laid d known)
      (split laid es d all) in
      record { same = l.same; declared = l.declared; count = l.count }
  laid_from before laid (merge w m j r body ∷ es) typed known all =
      let d : Declaration = merge w m j r body in
      let l = laid_from (d ∷ before) (laid ++ d ∷ []) es typed.1 (more_among before laid d known)
      (split laid es d all) in
      record { same = l.same; declared = l.declared; count = l.count }
  laid_from before laid (proc w ps r body ∷ es) typed known all =
      let d : Declaration = proc w ps r body in
      let l = laid_from (d ∷ before) (laid ++ d ∷ []) es typed.1 (more_among before laid d known)
      (split laid es d all) in
      record { same = l.same; declared = l.declared; count = l.count }
  laid_from before laid (shared x ∷ es) typed known all =
      let d : Declaration = shared x in
      let l = laid_from (d ∷ before) (laid ++ d ∷ []) es typed.1 (more_among before laid d known)
      (split laid es d all) in
      let c = one_coded before laid (shared x ∷ es) x.by x.holds typed.0.by known all in
      let later : List (Option ℕ) = merges_of (variables_behind (laid ++ d ∷ []) es) in
      record {
        same = cells_same p (cells_of x.size) (merge_of laid x.by)
            (merge_in (var_of p.declarations (variable_behind laid x))) later
            (joining.merges_of (map (var_of p.declarations) (variables_behind (laid ++ d ∷ []) es))) c.0 l.same;
        declared = cells_declared p (cells_of x.size) (merge_of laid x.by) later c.1 l.declared;
        count = length-append (replicate (cells_of x.size) (merge_of laid x.by)) later
            ∙ (λ j. length-replicate (cells_of x.size) (merge_of laid x.by) j + l.count j)
            ∙ sym (length-append (replicate (cells_of x.size) x.holds) (declared_kinds es)
            ∙ ap (λ n. n + length (declared_kinds es)) (length-replicate (cells_of x.size) x.holds));
      }

-- ---- wherever the joinee wrote

abbrev pub AlikeAt : Merges (Word Path) → Merges Value → ℕ → Location → Location → Option Value → Type 0
AlikeAt words values n m j None = Unit {0}
AlikeAt words values n m j (Some x) =
    words n (word (view m)) (word x) (word j.base) ≡ coded_value (values n (view m) x j.base)

abbrev pub Alike : Merges (Word Path) → Merges Value → ℕ → List Location → List Location → Type 0
Alike words values n (m ∷ ms) (j ∷ js) = AlikeAt words values n m j j.written × Alike words values (suc n) ms js
Alike words values n [] js = Unit {0}
Alike words values n (m ∷ ms) [] = Unit {0}

pub get_map : {A B : Type 0} (f : A → B) (xs : List A) (n : ℕ) (x : A) → slice_get xs n ≡ Some x
    → slice_get (map f xs) n ≡ Some (f x)
get_map f [] n x h = absurd (let z : None ≡ Some x = h in cc)
get_map f (y ∷ xs) zero x h = (let z : Some y ≡ Some x = h in let q : y ≡ x = cc in ap (λ i. Some (f i)) q)
get_map f (y ∷ xs) (suc n) x h = get_map f xs n x h

module _ (g : CodeRun) (p : ProgramTree) (well : IsAccepted p) (is : g.code ≡ code_of p) (all : List (Option ℕ))
    (same : joining.merges_of (code_of p).vars ≡ map (coded_merge p.declarations) all) where
  one_alike : (n : ℕ) (o : Option ℕ) → slice_get all n ≡ Some o → IsDeclared p o → (m j : Location) (w : Option Value)
      → MergesLocation p o m j w → AlikeAt (merges g) (rule.merges_in p all) n m j w
  one_alike n o at d m j None h = tt
  one_alike n o at d m j (Some x) h =
      let there : slice_get (joining.merges_of (code_of p).vars) n ≡ Some (coded_merge p.declarations o) =
      ap (λ xs. slice_get xs n) same ∙ get_map (coded_merge p.declarations) all n o at in
      ap (λ c. merged_there (values c) (slice_get (joining.merges_of c.vars) n) (word (view m)) (word x) (word j.base))
      is
      ∙ ap (λ q. merged_there (values (code_of p)) q (word (view m)) (word x) (word j.base)) there
      ∙ merge_alike p well o d m j x h
      ∙ ap (λ q. coded_value (merge_there p q (view m) x j.base)) (sym at)

  pub alike_from : (n : ℕ) (os : List (Option ℕ)) (ms js : List Location)
      → ((i : ℕ) → slice_get os i ≡ slice_get all (n + i)) → AllDeclared p os → length ms ≡ length os
      → MergesLocations p os ms js → Alike (merges g) (rule.merges_in p all) n ms js
  alike_from n os [] js at ds long h = tt
  alike_from n os (m ∷ ms) [] at ds long h = tt
  alike_from n [] (m ∷ ms) (j ∷ js) at ds long h = absurd (omega arith)
  alike_from n (o ∷ os) (m ∷ ms) (j ∷ js) at ds long h = (
    one_alike n o (ap (slice_get all) (let z : n ≡ n + 0 = omega arith in z) ∙ sym (at 0)) ds.0 m j j.written h.0,
    alike_from (suc n) os ms js
        (λ i. at (suc i) ∙ ap (slice_get all) (let z : n + suc i ≡ suc n + i = omega arith in z)) ds.1
        (omega (arith, long)) h.1,
  )
