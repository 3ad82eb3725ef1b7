-- The funs and merges of a program, one declaration after the other.
use Rattle.std.proofs.Common.{◌≡◌, ◌∙◌, ◌⊎◌, inl, inr, ℕ, ℤ, zero, suc, ◌+◌, Bool, true, false, ◌&&◌, IsTrue, List, [], ◌∷◌, ◌++◌, length, map, Option, Some, None, refl, sym, ap, subst, arith}
use Rattle.std.specs.Prelude.{nat_le, if◌then◌else◌, slice_get}
use Rattle.std.specs.List.{list_all}
use Rattle.std.proofs.lemmas.Bool.{leb-false}
use Rattle.rev_num.specs.Path.{Path}
use Rattle.rev_num.specs.declared.value.Value.TheVariants as v
use Rattle.rev_num.specs.declared.value.ValueKind.{ValueKind}
use Rattle.rev_num.specs.declared.value.ValueKind.TheVariants as k
use Rattle.rev_syntax.specs.Trees.{PlacedName, Parameter, Expression, Declaration, fun, merge, shared, proc, ProgramTree}
use Rattle.rev_syntax.specs.Small.{name_formed, expression_small, parameter_formed, declaration_small}
use Rattle.name_tables.specs.Names.{Name, same}
use Rattle.typed_programs.specs.FunRules.{Use, expression_uses, statements_uses, later_here, broken_by, broken_in, declarations_uses, first_fun}
use Rattle.typed_programs.specs.FunRules as rule
use Rattle.typed_programs.specs.declared.expanded.FunHead.{FunHead}
use Rattle.typed_programs.specs.Value as value
use Rattle.std.specs.Option.{option_or}
use Rattle.typed_programs.specs.Value.{FunDef, fun_value, funs_of}
use Rattle.typed_programs.specs.Definitions.{fun_def, funs_after, funs_in, MergeDef, merge_def, merges_after, merges_in, merged}
use Rattle.name_tables.proofs.Tables.{or_else, or_else-none, or_else-step}
use Rattle.typed_programs.specs.Kinds.{Callee, Names}
use Rattle.typed_programs.proofs.Lists.{parts, failed, and_parts}
use Rattle.typed_programs.specs.Scopes.{fun_named, outside, within}
use Rattle.typed_programs.specs.Judgement.{DeclarationsTyped}
use Rattle.typed_programs.proofs.Applying.{broken_parts, small_formed}
use Rattle.typed_programs.proofs.DeclsSound.{program_typed}
use Rattle.revision_calculus.specs.Kinded.{IsAccepted}
use Rattle.rev_code.specs.declared.code.Code.{Code}
use Rattle.rev_code.specs.declared.code.CodeBlock.{CodeBlock}
use Rattle.rev_code.specs.Words as wd
use Rattle.rev_code.specs.Words.{Word}
use Rattle.rev_code.specs.State.{Fun}
use Rattle.rev_code.specs.Step.{value_at}
use Rattle.rev_code.specs.Funs.{setting, setting_of_fun, values, values_from, value_of}
use Rattle.code_generation.specs.Numbers.{Numbers, numbers, fun_number, merge_number}
use Rattle.code_generation.specs.Generated.{fun_block, merge_block, value_blocks, body_blocks, code_of, kinds_of}
use Rattle.expression_meaning.specs.Agrees.{word, coded, IsOfKind, FunReads}
use Rattle.expression_meaning.specs.Blocks.{IsBody, merge_params}
use Rattle.typed_programs.proofs.Firsts.{first_from, known_or_later}
use Rattle.typed_programs.proofs.MergeParams.{merge_new}
use Rattle.typed_programs.proofs.Uses.{OfUses, uses_fine}
use Rattle.expression_meaning.proofs.Uses.{Use_can, applies}
use Rattle.expression_meaning.proofs.Blocks.{fun_gives, merge_gives, take_all, kinds_length}
use Rattle.code_generation.proofs.BlockPlaces.{Stand, first_stands, rest_stands, all_stand}

-- ---- lists of values

-- what a block gives it gives with more blocks behind
gives_more : (fs gs : List (Fun Path)) (n : ℕ) (args : List (Word Path)) (o : _)
    → value_at (slice_get fs n) args ≡ Some o → value_at (slice_get (fs ++ gs) n) args ≡ Some o
gives_more [] gs n args o h = absurd (let z : None ≡ Some o = h in cc)
gives_more (f ∷ fs) gs zero args o h = h
gives_more (f ∷ fs) gs (suc n) args o h = gives_more fs gs n args o h

at_end : (fs : List (Fun Path)) (f : Fun Path) (n : ℕ) → length fs ≡ n → slice_get (fs ++ f ∷ []) n ≡ Some f
at_end [] f zero h = refl
at_end [] f (suc n) h = absurd (omega (arith, h))
at_end (g ∷ fs) f zero h = absurd (omega (arith, h))
at_end (g ∷ fs) f (suc n) h = at_end fs f n (omega (arith, h))

one_longer : (fs : List (Fun Path)) (f : Fun Path) (n : ℕ) → length fs ≡ n → length (fs ++ f ∷ []) ≡ suc n
one_longer [] f n h = omega (arith, h)
one_longer (g ∷ fs) f zero h = absurd (omega (arith, h))
one_longer (g ∷ fs) f (suc n) h = ap suc (one_longer fs f n (omega (arith, h)))

gives_from : (code : Code) (fs : List (Fun Path)) (m : ℕ) (bs : List CodeBlock) (n : ℕ) (args : List (Word Path))
    (o : _)
    → value_at (slice_get fs n) args ≡ Some o → value_at (slice_get (values_from code fs m bs) n) args ≡ Some o
gives_from code fs m [] n args o h = h
gives_from code fs m (b ∷ bs) n args o h =
    gives_from code (fs ++ value_of code fs m b ∷ []) (suc m) bs n args o
    (gives_more fs (value_of code fs m b ∷ []) n args o h)

-- what a fun reads does not depend on what stands behind its block
reads_by : (code : Code) (fs gs : List (Fun Path)) (n : ℕ) (f : Callee) (g : Option value.Fun)
    → ((args : List (Word Path)) (o : _) → value_at (slice_get fs n) args ≡ Some o
    → value_at (slice_get gs n) args ≡ Some o)
    → FunReads (setting_of_fun code fs) n f g → FunReads (setting_of_fun code gs) n f g
reads_by code fs gs n f g more h = record {
  block = h.block;
  is = h.is;
  class = h.class;
  params = h.params;
  gives = λ xs t are has. (let z = h.gives xs t are has in (more (map word xs) _ z.0, z.1));
}

-- ---- the declarations of a program

module _ (p : ProgramTree) where
  abbrev inner : Names
  inner = within p.declarations

  abbrev code : Code
  code = code_of p

  abbrev n : Numbers
  n = numbers p

  -- a fun that is declared has its block and value, and no other is declared
  abbrev Fits : List (Fun Path) → Name → Option Callee → Option value.Fun → Type 0
  Fits before name None None = Unit {0}
  Fits before name None (Some g) = ⊥
  Fits before name (Some f) None = ⊥
  Fits before name (Some f) (Some g) = FunReads (setting_of_fun code before) (n.fun name) f (Some g)

  fits_fun : (before : List (Fun Path)) (name : Name) (f : Callee) (o : Option Callee) (g : Option value.Fun)
      → Fits before name o g → o ≡ Some f → FunReads (setting_of_fun code before) (n.fun name) f g
  fits_fun before name f None g is e = absurd (let z : None ≡ Some f = e in cc)
  fits_fun before name f (Some d) None is e = absurd is
  fits_fun before name f (Some d) (Some g) is e =
      subst (λ y. FunReads (setting_of_fun code before) (n.fun name) y (Some g)) (let z : d ≡ f = cc in z) is

  fits_more : (before : List (Fun Path)) (new : Fun Path) (name : Name) (known : Option Callee) (o : Option value.Fun)
      (d : Bool) (f : Callee) (g : value.Fun)
      → Fits before name known o
      → (known ≡ None → d ≡ true → FunReads (setting_of_fun code (before ++ new ∷ [])) (n.fun name) f (Some g))
      → Fits (before ++ new ∷ []) name (or_else known (if d then Some f else None))
      (option_or o (if d then Some g else None))
  fits_more before new name None None true f g is more = more refl refl
  fits_more before new name None None false f g is more = tt
  fits_more before new name None (Some h) d f g is more = absurd is
  fits_more before new name (Some y) None d f g is more = absurd is
  fits_more before new name (Some y) (Some h) d f g is more =
      reads_by code before (before ++ new ∷ []) (n.fun name) y (Some h)
      (λ args o e. gives_more before (new ∷ []) (n.fun name) args o e) is

  fits_same : (before : List (Fun Path)) (new : Fun Path) (name : Name) (known : Option Callee) (o : Option value.Fun)
      → Fits before name known o → Fits (before ++ new ∷ []) name known o
  fits_same before new name None None is = tt
  fits_same before new name None (Some h) is = absurd is
  fits_same before new name (Some y) None is = absurd is
  fits_same before new name (Some y) (Some h) is =
      reads_by code before (before ++ new ∷ []) (n.fun name) y (Some h)
      (λ args o e. gives_more before (new ∷ []) (n.fun name) args o e) is

  record Sofar (fs : List FunDef) (known : Name → Option Callee) (before : List (Fun Path)) (at d m : ℕ)
      (rest : List Declaration) : Type 0 where
    many : length before ≡ at
    fits : (name : Name) → Fits before name (known name) (funs_of fs name)
    all : (name : Name) → fun_named p.declarations name ≡ or_else (known name) (fun_named rest name)
    heads : (name : Name) (h : FunHead) → rule.fun_named p name ≡ Some h
        → ((f : Callee) × (known name ≡ Some f)) ⊎ (first_fun d m rest name ≡ Some h)
    number : (name : Name) → known name ≡ None → n.fun name ≡ at + fun_number name rest

  can_use : (fs : List FunDef) (known : Name → Option Callee) (before : List (Fun Path)) (at d m : ℕ)
      (rest : List Declaration)
      → Sofar fs known before at d m rest → (x : Use) → broken_by x (rule.fun_named p x.name.text) ≡ []
      → Use_can inner (λ name f. FunReads (setting_of_fun code before) (n.fun name) f (funs_of fs name)) d x
  can_use fs known before at d m rest sofar x fine within f means = by (rule.fun_named p x.name.text) refl fine
    where
      earlier : (h : FunHead) → nat_le x.within h.decl ≡ false
          → ((g : Callee) × (known x.name.text ≡ Some g)) ⊎ (first_fun d m rest x.name.text ≡ Some h)
          → FunReads (setting_of_fun code before) (n.fun x.name.text) f (funs_of fs x.name.text)
      earlier h e (inl g) =
          let is_g : or_else (known x.name.text) (fun_named rest x.name.text) ≡ Some g.0 =
          ap (λ o. or_else o (fun_named rest x.name.text)) g.1 in
          fits_fun before x.name.text f (known x.name.text) (funs_of fs x.name.text) (sofar.fits x.name.text)
          (g.1 ∙ sym is_g ∙ sym (sofar.all x.name.text) ∙ means)
      earlier h e (inr q) =
          let from = first_from d m rest x.name.text h q in
          let less = leb-false x.within h.decl e in
          absurd (omega (arith, from, less, within))

      by : (o : Option FunHead) → rule.fun_named p x.name.text ≡ o → broken_by x o ≡ []
          → FunReads (setting_of_fun code before) (n.fun x.name.text) f (funs_of fs x.name.text)
      by None e q = absurd cc
      by (Some h) e q =
          earlier h (failed (nat_le x.within h.decl) _ (parts (later_here x h) _ q).0) (sofar.heads x.name.text h e)

  can_apply : (fs : List FunDef) (known : Name → Option Callee) (before : List (Fun Path)) (at d m : ℕ)
      (rest : List Declaration)
      → Sofar fs known before at d m rest → (xs : List Use) → broken_in (rule.fun_named p) xs ≡ []
      → OfUses (Use_can inner (λ name f. FunReads (setting_of_fun code before) (n.fun name) f (funs_of fs name)) d) xs
  can_apply fs known before at d m rest sofar =
      uses_fine (Use_can inner (λ name f. FunReads (setting_of_fun code before) (n.fun name) f (funs_of fs name)) d)
      (rule.fun_named p) (can_use fs known before at d m rest sofar)

  -- ---- one fun more

  module _ (fs : List FunDef) (known : Name → Option Callee) (before : List (Fun Path)) (at d m : ℕ) (w : PlacedName)
      (ps : List Parameter) (r : ValueKind) (body : Expression) (es : List Declaration)
      (sofar : Sofar fs known before at d m (fun w ps r body ∷ es))
      (is : IsBody code before n inner (funs_of fs) ps r body)
      (here : slice_get code.blocks at ≡ Some (fun_block n ps r body)) where
    abbrev f : Callee
    f = record { params = ps; result = Some r }

    abbrev new : Fun Path
    new = value_of code before at (fun_block n ps r body)

    new_reads : (name : Name) → known name ≡ None → same name w.text ≡ true
        → FunReads (setting_of_fun code (before ++ new ∷ [])) (n.fun name) f
        (Some (fun_value (funs_of fs) (fun_def w ps body)))
    new_reads name none e =
        let num : n.fun name ≡ at =
        sofar.number name none ∙ ap (λ x. at + (if x then 0 else suc (fun_number name es))) e
        ∙ (let z : at + 0 ≡ at = omega arith in z) in
        record {
          block = fun_block n ps r body;
          is = ap (slice_get code.blocks) num ∙ here;
          class = refl;
          params = take_all (kinds_of ps) (length ps) (kinds_length ps);
          gives = λ xs t are has. (let z = fun_gives code before at n inner (funs_of fs) ps r body is here xs are in (
            ap (λ q. value_at (slice_get (before ++ new ∷ []) q) (map word xs)) num
                ∙ ap (λ o. value_at o (map word xs)) (at_end before new at sofar.many) ∙ z.0,
            subst (λ u. IsOfKind u (fun_value (funs_of fs) (fun_def w ps body) xs))
                (let q : Some r ≡ Some t = has in let s : r ≡ t = cc in s) z.1,
          ));
        }

    next_number : (name : Name) (o : Option Callee) (x : Bool) → known name ≡ o → same name w.text ≡ x
        → or_else o (if x then Some f else None) ≡ None → n.fun name ≡ suc at + fun_number name es
    next_number name (Some y) x q e h = absurd (let z : Some y ≡ None = h in cc)
    next_number name None true q e h = absurd (let z : Some f ≡ None = h in cc)
    next_number name None false q e h =
        sofar.number name q ∙ ap (λ z. at + (if z then 0 else suc (fun_number name es))) e
        ∙ (let z : at + suc (fun_number name es) ≡ suc at + fun_number name es = omega arith in z)

    one_more : Sofar (fun_def w ps body ∷ fs) (λ name. or_else (known name) (if same name w.text then Some f else None))
        (before ++ new ∷ []) (suc at) (d + 1) (m + 1) es
    one_more = record {
      many = one_longer before new at sofar.many;
      fits = λ name.
          fits_more before new name (known name) (funs_of fs name) (same name w.text) f
          (fun_value (funs_of fs) (fun_def w ps body)) (sofar.fits name) (new_reads name);
      all = λ name. sofar.all name ∙ sym (or_else-step (known name) (same name w.text) f (fun_named es name));
      heads = λ name h e. known_or_later (known name) f d m w ps r body es name h (sofar.heads name h e);
      number = λ name h. next_number name (known name) (same name w.text) refl refl h;
    }

  -- ---- all of them

  record Done (fs : List FunDef) (ds : List MergeDef) (vs : List (Fun Path)) (at : ℕ)
      (rest : List Declaration) : Type 0 where
    funs : (name : Name) (f : Callee) → fun_named p.declarations name ≡ Some f
        → FunReads (setting_of_fun code vs) (n.fun name) f (funs_of fs name)
    merges : (k : ℕ) (dd : MergeDef) → slice_get ds k ≡ Some dd → (x y z : ℤ)
        → value_at (slice_get vs (at + merge_number k rest)) (wd.int x ∷ wd.int y ∷ wd.int z ∷ [])
        ≡ Some (coded (merged dd (v.Int x) (v.Int y) (v.Int z)))

  walk : (fs : List FunDef) (known : Name → Option Callee) (before : List (Fun Path)) (at d m all : ℕ)
      (passed rest : List Declaration) (tail : List CodeBlock)
      → Sofar fs known before at d m rest → DeclarationsTyped (outside p.declarations) inner passed rest
      → broken_in (rule.fun_named p) (declarations_uses all d rest) ≡ [] → IsTrue (list_all declaration_small rest)
      → Stand p at (value_blocks n rest ++ tail)
      → Done (funs_after fs rest) (merges_after fs rest) (values_from code before at (value_blocks n rest ++ tail)) at
      rest
  walk fs known before at d m all passed [] tail sofar typed fine small stand = record {
    funs = λ name f h.
        reads_by code before (values_from code before at tail) (n.fun name) f (funs_of fs name)
        (λ args o e. gives_from code before at tail (n.fun name) args o e)
        (fits_fun before name f (known name) (funs_of fs name) (sofar.fits name)
        (sym (sofar.all name ∙ or_else-none (known name)) ∙ h));
    merges = λ k dd h x y z. absurd (let q : None ≡ Some dd = h in cc);
  }
  walk fs known before at d m all passed (fun w ps r body ∷ es) tail sofar typed fine small stand =
      let uses = broken_parts (rule.fun_named p) (expression_uses d body) (declarations_uses all (d + 1) es) fine in
      let smalls = and_parts (declaration_small (fun w ps r body)) (list_all declaration_small es) small in
      let formed = and_parts (name_formed w && list_all parameter_formed ps) (expression_small body) smalls.0 in
      let here = first_stands p at (fun_block n ps r body) (value_blocks n es ++ tail) stand in
      let can =
      applies inner (λ name f. FunReads (setting_of_fun code before) (n.fun name) f (funs_of fs name)) d body
      (can_apply fs known before at d m (fun w ps r body ∷ es) sofar (expression_uses d body) uses.0) in
      let is : IsBody code before n inner (funs_of fs) ps r body = record {
        closed = λ name. refl;
        inside = refl;
        params = typed.0.params;
        kind = typed.0.body;
        formed = small_formed body formed.1;
        applies = can;
      } in
      let later =
      walk (fun_def w ps body ∷ fs) _ (before ++ value_of code before at (fun_block n ps r body) ∷ []) (suc at) (d + 1)
      (m + 1) all (fun w ps r body ∷ passed) es tail (one_more fs known before at d m w ps r body es sofar is here)
      typed.1 uses.1 smalls.1 (rest_stands p at (fun_block n ps r body) (value_blocks n es ++ tail) stand) in
      record {
        funs = later.funs;
        merges = λ k dd h x y z.
            ap (λ q. value_at
            (slice_get (values_from code before at (fun_block n ps r body ∷ value_blocks n es ++ tail)) q)
            (wd.int x ∷ wd.int y ∷ wd.int z ∷ []))
            (let q : at + suc (merge_number k es) ≡ suc at + merge_number k es = omega arith in q)
            ∙ later.merges k dd h x y z;
      }
  walk fs known before at d m all passed (merge w mm j r body ∷ es) tail sofar typed fine small stand =
      let uses = broken_parts (rule.fun_named p) (expression_uses d body) (declarations_uses all (d + 1) es) fine in
      let smalls = and_parts (declaration_small (merge w mm j r body)) (list_all declaration_small es) small in
      let formed =
      and_parts (name_formed w && name_formed mm && name_formed j && name_formed r) (expression_small body) smalls.0 in
      let b : CodeBlock = merge_block n mm j r body in
      let new : Fun Path = value_of code before at b in
      let here = first_stands p at b (value_blocks n es ++ tail) stand in
      let can =
      applies inner (λ name f. FunReads (setting_of_fun code before) (n.fun name) f (funs_of fs name)) d body
      (can_apply fs known before at d m (merge w mm j r body ∷ es) sofar (expression_uses d body) uses.0) in
      let is : IsBody code before n inner (funs_of fs) (merge_params mm j r) k.Int body = record {
        closed = λ name. refl;
        inside = refl;
        params = merge_new inner (λ name. refl) mm j r typed.0.params;
        kind = typed.0.body;
        formed = small_formed body formed.1;
        applies = can;
      } in
      let next : Sofar fs known (before ++ new ∷ []) (suc at) (d + 1) m es = record {
        many = one_longer before new at sofar.many;
        fits = λ name. fits_same before new name (known name) (funs_of fs name) (sofar.fits name);
        all = sofar.all;
        heads = sofar.heads;
        number = λ name h.
            sofar.number name h
            ∙ (let z : at + suc (fun_number name es) ≡ suc at + fun_number name es = omega arith in z);
      } in
      let later =
      walk fs known (before ++ new ∷ []) (suc at) (d + 1) m all (merge w mm j r body ∷ passed) es tail next typed.1
      uses.1 smalls.1 (rest_stands p at b (value_blocks n es ++ tail) stand) in
      record {
        funs = later.funs;
        merges = merges_by fs before at (merge w mm j r body) w mm j r body es tail is here sofar.many later.merges;
      }
    where
      merges_by : (fs : List FunDef) (before : List (Fun Path)) (at : ℕ) (e : Declaration) (w m j r : PlacedName)
          (body : Expression) (es : List Declaration) (tail : List CodeBlock)
          → IsBody code before n inner (funs_of fs) (merge_params m j r) k.Int body
          → slice_get code.blocks at ≡ Some (merge_block n m j r body) → length before ≡ at
          → ((q : ℕ) (dd : MergeDef) → slice_get (merges_after fs es) q ≡ Some dd → (x y z : ℤ)
          → value_at (slice_get (values_from code (before ++ value_of code before at (merge_block n m j r body) ∷ [])
          (suc at) (value_blocks n es ++ tail))
          (suc at + merge_number q es))
          (wd.int x ∷ wd.int y ∷ wd.int z ∷ [])
          ≡ Some (coded (merged dd (v.Int x) (v.Int y) (v.Int z))))
          → (q : ℕ) (dd : MergeDef) → slice_get (merge_def fs w m j r body ∷ merges_after fs es) q ≡ Some dd
          → (x y z : ℤ)
          → value_at (slice_get (values_from code (before ++ value_of code before at (merge_block n m j r body) ∷ [])
          (suc at) (value_blocks n es ++ tail))
          (at + merge_number q (merge w m j r body ∷ es)))
          (wd.int x ∷ wd.int y ∷ wd.int z ∷ [])
          ≡ Some (coded (merged dd (v.Int x) (v.Int y) (v.Int z)))
      merges_by fs before at e w m j r body es tail is here many later zero dd h x y z =
          let args : List (Word Path) = wd.int x ∷ wd.int y ∷ wd.int z ∷ [] in
          let new : Fun Path = value_of code before at (merge_block n m j r body) in
          let vs : List (Fun Path) = values_from code (before ++ new ∷ []) (suc at) (value_blocks n es ++ tail) in
          let g = merge_gives code before at n inner (funs_of fs) m j r body is here (v.Int x ∷ v.Int y ∷ v.Int z ∷ [])
          (refl, (refl, (refl, tt))) in
          let first : value_at (slice_get (before ++ new ∷ []) at) args
          ≡ Some (coded (merged (merge_def fs w m j r body) (v.Int x) (v.Int y) (v.Int z))) =
          ap (λ o. value_at o args) (at_end before new at many) ∙ g.0 in
          subst (λ t. value_at (slice_get vs (at + 0)) args ≡ Some (coded (merged t (v.Int x) (v.Int y) (v.Int z))))
          (let q : merge_def fs w m j r body ≡ dd = cc in q)
          (ap (λ q. value_at (slice_get vs q) args) (let q : at + 0 ≡ at = omega arith in q)
          ∙ gives_from code (before ++ new ∷ []) (suc at) (value_blocks n es ++ tail) at args _ first)
      merges_by fs before at e w m j r body es tail is here many later (suc q) dd h x y z =
          ap (λ i. value_at (slice_get
          (values_from code (before ++ value_of code before at (merge_block n m j r body) ∷ []) (suc at)
          (value_blocks n es ++ tail))
          i)
          (wd.int x ∷ wd.int y ∷ wd.int z ∷ []))
          (let i : at + suc (merge_number q es) ≡ suc at + merge_number q es = omega arith in i)
          ∙ later q dd h x y z
  walk fs known before at d m all passed (shared x ∷ es) tail sofar typed fine small stand =
      let smalls = and_parts (declaration_small (shared x)) (list_all declaration_small es) small in
      let later =
      walk fs known before at (d + 1) m all (shared x ∷ passed) es tail
      (record { many = sofar.many; fits = sofar.fits; all = sofar.all; heads = sofar.heads; number = sofar.number })
      typed.1 fine smalls.1 stand in
      record { funs = later.funs; merges = later.merges }
  walk fs known before at d m all passed (proc w ps r body ∷ es) tail sofar typed fine small stand =
      let uses = broken_parts (rule.fun_named p) (statements_uses all body) (declarations_uses all (d + 1) es) fine in
      let smalls = and_parts (declaration_small (proc w ps r body)) (list_all declaration_small es) small in
      let later =
      walk fs known before at (d + 1) m all (proc w ps r body ∷ passed) es tail
      (record { many = sofar.many; fits = sofar.fits; all = sofar.all; heads = sofar.heads; number = sofar.number })
      typed.1 uses.1 smalls.1 stand in
      record { funs = later.funs; merges = later.merges }

  module _ (well : IsAccepted p) where
    done : Done (funs_in p) (merges_in p) (values code) 0 p.declarations
    done =
        let uses =
        broken_parts (rule.fun_named p) (declarations_uses (length p.declarations) 0 p.declarations)
        (statements_uses (length p.declarations) p.main) well.funs in
        let kept = program_typed p well.small well.funs well.rules in
        walk [] (λ name. None) [] 0 0 0 (length p.declarations) [] p.declarations
        (body_blocks n (outside p.declarations) p.declarations p.main 0)
        (record {
          many = refl;
          fits = λ name. tt;
          all = λ name. refl;
          heads = λ name h e. inr e;
          number = λ name h.
              (let z : fun_number name p.declarations ≡ 0 + fun_number name p.declarations = omega arith in z);
        })
        kept.declarations uses.0 well.small.declarations (all_stand p)

pub program_funs : (p : ProgramTree) → IsAccepted p → (numbers_in : List ℤ) (share : ℕ) (name : Name) (f : Callee)
    → fun_named p.declarations name ≡ Some f
    → FunReads (setting (code_of p) numbers_in share) ((numbers p).fun name) f (funs_of (funs_in p) name)
program_funs p well numbers_in share name f h =
    let d = (done p well).funs name f h in
    record { block = d.block; is = d.is; class = d.class; params = d.params; gives = d.gives }

pub program_merges : (p : ProgramTree) → IsAccepted p → (k : ℕ) (d : MergeDef) → slice_get (merges_in p) k ≡ Some d
    → (x y z : ℤ)
    → value_at (slice_get (values {H = Path} (code_of p)) (merge_number k p.declarations))
    (wd.int x ∷ wd.int y ∷ wd.int z ∷ [])
    ≡ Some (coded (merged d (v.Int x) (v.Int y) (v.Int z)))
program_merges p well k d h x y z =
    ap (λ q. value_at (slice_get (values (code_of p)) q) (wd.int x ∷ wd.int y ∷ wd.int z ∷ []))
    (let q : merge_number k p.declarations ≡ 0 + merge_number k p.declarations = omega arith in q)
    ∙ (done p well).merges k d h x y z
