-- What stands in the blocks of a program's code when they begin.
use Rattle.std.proofs.Common.{◌≡◌, ◌∙◌, ◌≤◌, ℕ, zero, suc, ◌+◌, Bool, true, false, cond, IsTrue, List, [], ◌∷◌, ◌++◌, length, map, drop, Option, Some, None, refl, sym, ap, subst, arith, true≢false}
use Rattle.std.specs.Prelude.{slice_get, if◌then◌else◌}
use Rattle.rev_num.specs.Path.{Path}
use Rattle.rev_num.specs.declared.value.Value.{Value}
use Rattle.rev_num.specs.declared.value.ValueKind.{ValueKind}
use Rattle.rev_num.specs.declared.value.ValueKind.TheVariants as k
use Rattle.rev_syntax.specs.Trees.{Parameter, Statements, no_statements, statements, Declaration, fun, merge, shared, proc}
use Rattle.rev_syntax.specs.Small.{statements_small}
use Rattle.name_tables.specs.Names.{Name, same}
use Rattle.name_tables.specs.Table.{find, added}
use Rattle.typed_programs.specs.Definitions.{names_of}
use Rattle.name_tables.proofs.Tables.{or_else, or_else-none, or_else-step, find-added}
use Rattle.typed_programs.specs.Kinds.{Callee, Names, Locals}
use Rattle.typed_programs.specs.Judgement.{ParamsNew, StatementsTyped, Returns}
use Rattle.typed_programs.specs.Scopes as scopes
use Rattle.typed_programs.specs.Scopes.{proc_named}
use Rattle.typed_programs.specs.Layout.{procedures_from}
use Rattle.revision_calculus.specs.Program.{procedure_named, Setting}
use Rattle.revision_calculus.specs.Step.{append, locals_of}
use Rattle.revision_calculus.specs.Kinded.{names}
use Rattle.rev_code.specs.declared.code.Instr.TheVariants as i
use Rattle.rev_code.specs.declared.code.CodeBlock.{CodeBlock}
use Rattle.rev_code.specs.Words as words
use Rattle.rev_code.specs.Words.{Word, zero_word}
use Rattle.rev_code.specs.Step.{first_locals}
use Rattle.code_rules.specs.Tables.{is_main}
use Rattle.code_generation.specs.Numbers.{proc_number, Scope, with_params}
use Rattle.code_generation.specs.Sizes.{statements_size, statements_prints}
use Rattle.code_generation.specs.Statements.{Spot, statements_code}
use Rattle.code_generation.specs.Prints.{statements_kinds, statements_layouts, statements_texts}
use Rattle.code_generation.specs.Generated.{end_code, kinds_of, body_code, body_locals, fun_block, merge_block, proc_block, main_block, value_blocks, body_blocks, texts_of, layouts_of}
use Rattle.code_generation.specs.Stands.{HasAt, HasItems}
use Rattle.code_generation.proofs.Standing.{parts_stand, whole_stands}
use Rattle.code_generation.proofs.Lengths.{statements_length, statements_prints_length}
use Rattle.expression_meaning.specs.Agrees.{word, ArgsAre}
use Rattle.expression_meaning.proofs.Blocks.{kinds_length}
use Rattle.expression_meaning.proofs.Words.{word_kind}
use Rattle.expression_meaning.specs.Places.{Tables, AreNames, BlockStands, EndAt, Follows}
use Rattle.expression_meaning.specs.States.{word_kinds, IsSame, AreLocals, IsTop}
use Rattle.expression_meaning.proofs.Parts.{within_self, names_added}
use Rattle.expression_meaning.proofs.BlockPlaces.{block_follows}

nothing : Unit {0}
nothing = tt

append_none : (xs : Statements) → append xs no_statements ≡ xs
append_none no_statements = refl
append_none (statements x xs) = ap (λ z. statements x z) (append_none xs)

-- ---- parameters

params_names : (c : Names) (kinds : List ValueKind) (ps : List Parameter) (scope : Scope) (l : Locals) (m : ℕ)
    → ParamsNew c l ps → HasItems kinds m (kinds_of ps) → AreNames kinds scope l m
    → AreNames kinds (with_params scope m ps) (scopes.with_params l ps) (m + length ps)
params_names c kinds [] scope l m new has are =
    subst (λ n. AreNames kinds scope l n) (let z : m ≡ m + 0 = omega arith in z) are
params_names c kinds (p ∷ ps) scope l m new has are =
    subst (λ n.
    AreNames kinds (with_params (added scope p.name.text m) (suc m) ps)
    (scopes.with_params (added l p.name.text (Some p.kind)) ps) n)
    (let z : suc m + length ps ≡ m + suc (length ps) = omega arith in z)
    (params_names c kinds ps (added scope p.name.text m) (added l p.name.text (Some p.kind)) (suc m) new.1 has.1
    (names_added kinds scope l m p.name.text p.kind are new.0.0 has.0))

-- the number of a parameter, of which the first has this number
abbrev number_of : Name → ℕ → List Parameter → Option ℕ
number_of name m [] = None
number_of name m (p ∷ ps) = if same name p.name.text then Some m else number_of name (suc m) ps

find_number : (scope : Scope) (m : ℕ) (ps : List Parameter) (name : Name)
    → find name (with_params scope m ps) ≡ or_else (find name scope) (number_of name m ps)
find_number scope m [] name = sym (or_else-none (find name scope))
find_number scope m (p ∷ ps) name =
    find_number (added scope p.name.text m) (suc m) ps name
    ∙ ap (λ o. or_else o (number_of name (suc m) ps)) (find-added name p.name.text m scope)
    ∙ or_else-step (find name scope) (same name p.name.text) m (number_of name (suc m) ps)

number_from : (m : ℕ) (ps : List Parameter) (name : Name) (j : ℕ) → number_of name m ps ≡ Some j → m ≤ j
number_from m [] name j h = absurd (let z : None ≡ Some j = h in cc)
number_from m (p ∷ ps) name j h = by (same name p.name.text) h (number_from (suc m) ps name j)
  where
    by : (d : Bool) → (if d then Some m else number_of name (suc m) ps) ≡ Some j
        → (number_of name (suc m) ps ≡ Some j → suc m ≤ j) → m ≤ j
    by true q rec = let z : m ≡ j = cc in omega (arith, z)
    by false q rec = let z = rec q in omega (arith, z)

-- each parameter has its argument
params_same : (m : ℕ) (ps : List Parameter) (xs : List Value) (rest : List (Word Path)) (name : Name) (j : ℕ)
    → ArgsAre ps xs → number_of name m ps ≡ Some (m + j)
    → IsSame (find name (locals_of (names_of ps) xs)) (slice_get (map word xs ++ rest) j)
params_same m [] xs rest name j are h = absurd (let z : None ≡ Some (m + j) = h in cc)
params_same m (p ∷ ps) [] rest name j are h = absurd are
params_same m (p ∷ ps) (x ∷ xs) rest name j are h =
    by (same name p.name.text) j h (λ q e. params_same (suc m) ps xs rest name q are.1 e)
  where
    by : (d : Bool) (j : ℕ) → (if d then Some m else number_of name (suc m) ps) ≡ Some (m + j)
        → ((q : ℕ) → number_of name (suc m) ps ≡ Some (suc m + q)
        → IsSame (find name (locals_of (names_of ps) xs)) (slice_get (map word xs ++ rest) q))
        → IsSame (cond d (Some x) (find name (locals_of (names_of ps) xs)))
        (slice_get (word x ∷ (map word xs ++ rest)) j)
    by true zero q rec = refl
    by true (suc j) q rec = absurd (let z : m ≡ m + suc j = cc in omega (arith, z))
    by false zero q rec = absurd (let z = number_from (suc m) ps name (m + 0) q in omega (arith, z))
    by false (suc j) q rec = rec j (q ∙ ap Some (let z : m + suc j ≡ suc m + j = omega arith in z))

zero_kind : (t : ValueKind) → words.kind_of {H = Path} (zero_word t) ≡ t
zero_kind k.Int = refl
zero_kind k.Bool = refl
zero_kind k.Rev = refl

zeros : (ks : List ValueKind) → word_kinds (map zero_word ks) ≡ ks
zeros [] = refl
zeros (t ∷ ks) = let a = zero_kind t in let z = zeros ks in λ j. a j ∷ z j

first_kinds : (ps : List Parameter) (xs : List Value) (ks : List ValueKind) → ArgsAre ps xs
    → word_kinds (map word xs ++ map zero_word (drop (length (map word xs)) (kinds_of ps ++ ks))) ≡ kinds_of ps ++ ks
first_kinds [] [] ks are = zeros ks
first_kinds [] (x ∷ xs) ks are = absurd are
first_kinds (p ∷ ps) [] ks are = absurd are
first_kinds (p ∷ ps) (x ∷ xs) ks are =
    let a = word_kind x ∙ are.0 in let z = first_kinds ps xs ks are.1 in λ j. a j ∷ z j

params_locals : (ps : List Parameter) (xs : List Value) (ks : List ValueKind) → ArgsAre ps xs
    → AreLocals (kinds_of ps ++ ks) (with_params [] 0 ps) None (locals_of (names_of ps) xs)
    (map word xs ++ map zero_word (drop (length (map word xs)) (kinds_of ps ++ ks)))
params_locals ps xs ks are = record {
  kinds = first_kinds ps xs ks are;
  same = λ name m waits h.
      params_same 0 ps xs (map zero_word (drop (length (map word xs)) (kinds_of ps ++ ks))) name m are
      (sym (find_number [] 0 ps name) ∙ h ∙ ap Some (let z : m ≡ 0 + m = omega arith in z));
}

-- ---- bodies

-- the block of a body with its layouts and texts
pub record BodyIs (s : Setting) (g : Tables) (ps : List Parameter) (result : Option ValueKind) (body : Statements)
    (b : CodeBlock) : Type 0 where
  pub layout : ℕ
  pub text : ℕ
  pub locals : b.locals ≡ body_locals (names s) ps body
  pub instrs : b.instrs ≡ body_code g.numbers ps result body layout
  pub gives : b.result ≡ result
  pub layouts :
      HasItems g.setting.code.layouts layout (statements_layouts (names s) (scopes.with_params [] ps) text body)
  pub texts : HasItems g.setting.code.texts text (statements_texts body)

module _ (s : Setting) (g : Tables) where
  body_top : (ps : List Parameter) (result : Option ValueKind) (body : Statements) (b : CodeBlock)
      → BodyIs s g ps result body b → ParamsNew (names s) [] ps
      → StatementsTyped (names s) result (scopes.with_params [] ps) body
      → IsTrue (statements_small body) → Follows s g b (with_params [] 0 ps) body 0
  body_top ps result body b is new typed small =
      subst (λ z. Follows s g b scope z 0) (append_none body)
      (block_follows s g b scope scope ls sp is.text body no_statements stands (within_self scope) (ends b.result refl))
    where
      scope : Scope
      scope = with_params [] 0 ps

      ls : Locals
      ls = scopes.with_params [] ps

      sp : Spot
      sp = record { at = 0; local = length ps; layout = is.layout }

      all_kinds : HasItems b.locals 0 (kinds_of ps)
          × HasItems b.locals (0 + length ps) (statements_kinds (names s) (scopes.with_params [] ps) body)
      all_kinds = parts_stand b.locals (kinds_of ps) (statements_kinds (names s) (scopes.with_params [] ps) body) 0
          (length ps) (sym (kinds_length ps)) (subst (λ z. HasItems b.locals 0 z) is.locals (whole_stands b.locals))

      all_code : HasAt b.instrs 0 (statements_code g.numbers (with_params [] 0 ps) body
          (record { at = 0; local = length ps; layout = is.layout }))
          × HasAt b.instrs (0 + statements_size g.numbers body) (end_code result body)
      all_code =
          parts_stand b.instrs (statements_code g.numbers (with_params [] 0 ps) body
          (record { at = 0; local = length ps; layout = is.layout }))
          (end_code result body) 0 (statements_size g.numbers body)
          (statements_length g.numbers (with_params [] 0 ps) body
          (record { at = 0; local = length ps; layout = is.layout }))
          (subst (HasAt b.instrs 0) is.instrs (whole_stands b.instrs))

      empty : AreNames b.locals [] [] 0
      empty = record {
        local = λ name t h. absurd (let z : None ≡ Some t = h in cc);
        kind = λ name m h. absurd (let z : None ≡ Some m = h in cc);
        below = λ name m h. absurd (let z : None ≡ Some m = h in cc);
        apart = λ name other m h j. absurd (let z : None ≡ Some m = h in cc);
      }

      stands : BlockStands s g b (with_params [] 0 ps) (scopes.with_params [] ps)
          (record { at = 0; local = length ps; layout = is.layout }) is.text body
      stands = record {
        known = subst (λ n. AreNames b.locals (with_params [] 0 ps) (scopes.with_params [] ps) n)
            (let z : 0 + length ps ≡ length ps = omega arith in z)
            (params_names (names s) b.locals ps [] [] 0 new all_kinds.0 empty);
        typed = subst (λ z. StatementsTyped (names s) z (scopes.with_params [] ps) body) (sym is.gives) typed;
        small = small;
        code = all_code.0;
        kinds = subst (λ n. HasItems b.locals n (statements_kinds (names s) (scopes.with_params [] ps) body))
            (let z : 0 + length ps ≡ length ps = omega arith in z) all_kinds.1;
        layouts = is.layouts;
        texts = is.texts;
      }

      ends : (o : Option ValueKind) → b.result ≡ o → EndAt s g b b.result (0 + statements_size g.numbers body)
      ends None e =
          let none : result ≡ None = sym is.gives ∙ e in
          let here : HasAt b.instrs (0 + statements_size g.numbers body) (i.Return ∷ []) =
          subst (λ z. HasAt b.instrs (0 + statements_size g.numbers body) (end_code z body)) none all_code.1 in
          subst (λ z. EndAt s g b z (0 + statements_size g.numbers body)) (sym e)
          (0 + statements_size g.numbers body, (0, refl), here.0)
      ends (Some t) e = subst (λ z. EndAt s g b z (0 + statements_size g.numbers body)) (sym e) nothing

  -- a frame of a body
  pub body_begins : (ps : List Parameter) (result : Option ValueKind) (body : Statements) (b : CodeBlock)
      → BodyIs s g ps result body b → ParamsNew (names s) [] ps
      → StatementsTyped (names s) result (scopes.with_params [] ps) body
      → IsTrue (statements_small body) → Returns result body → (xs : List Value) (left : Option Name) → ArgsAre ps xs
      → IsTop s g b (record { locals = locals_of (names_of ps) xs; rest = body; left = left }) 0
      (first_locals b (map word xs))
  body_begins ps result body b is new typed small returns xs left are = record {
    scope = with_params [] 0 ps;
    locals = subst (λ z.
        AreLocals z (with_params [] 0 ps) None (locals_of (names_of ps) xs)
        (map word xs ++ map zero_word (drop (length (map word xs)) z)))
        (sym is.locals) (params_locals ps xs (statements_kinds (names s) (scopes.with_params [] ps) body) are);
    follows = body_top ps result body b is new typed small;
    returns = subst (λ z. Returns z body) (sym is.gives) returns;
  }

  -- ---- the blocks of procedures and of `main`

  pub proc_body : (name : Name) (es : List Declaration) (m : Statements) (layout text d : ℕ) (f : Callee)
      → HasItems g.setting.code.layouts layout (layouts_of (names s) text es m)
      → HasItems g.setting.code.texts text (texts_of es m) → proc_named es name ≡ Some f
      → (k : ℕ)
      × ((slice_get (body_blocks g.numbers (names s) es m layout) (proc_number name es)
      ≡ Some (proc_block g.numbers (names s) f.params f.result (procedure_named (procedures_from d es) name).body k))
      × BodyIs s g f.params f.result (procedure_named (procedures_from d es) name).body
      (proc_block g.numbers (names s) f.params f.result (procedure_named (procedures_from d es) name).body k))
  proc_body name [] m layout text d f has htext h = absurd (let z : None ≡ Some f = h in cc)
  proc_body name (proc w ps r body ∷ es) m layout text d f has htext h =
      let both =
      parts_stand g.setting.code.layouts (statements_layouts (names s) (scopes.with_params [] ps) text body)
      (layouts_of (names s) (text + length (statements_texts body)) es m) layout (statements_prints body)
      (statements_prints_length (names s) (scopes.with_params [] ps) text body) has in
      let texts =
      parts_stand g.setting.code.texts (statements_texts body) (texts_of es m) text (length (statements_texts body))
      refl htext in
      let here : BodyIs s g ps r body (proc_block g.numbers (names s) ps r body layout) = record {
        layout = layout;
        text = text;
        locals = refl;
        instrs = refl;
        gives = refl;
        layouts = both.0;
        texts = texts.0;
      } in
      by (same name w.text) h here
      (λ q. proc_body name es m (layout + statements_prints body) (text + length (statements_texts body)) (d + 1) f
      both.1 texts.1 q)
    where
      by : (x : Bool) → (if x then Some (record { params = ps; result = r }) else proc_named es name) ≡ Some f
          → BodyIs s g ps r body (proc_block g.numbers (names s) ps r body layout)
          → (proc_named es name ≡ Some f
          → (k : ℕ)
          × ((slice_get (body_blocks g.numbers (names s) es m (layout + statements_prints body)) (proc_number name es)
          ≡ Some
          (proc_block g.numbers (names s) f.params f.result (procedure_named (procedures_from (d + 1) es) name).body k))
          × BodyIs s g f.params f.result (procedure_named (procedures_from (d + 1) es) name).body
          (proc_block g.numbers (names s) f.params f.result (procedure_named (procedures_from (d + 1) es) name).body
          k)))
          → (k : ℕ)
          × ((slice_get (proc_block g.numbers (names s) ps r body layout
          ∷ body_blocks g.numbers (names s) es m (layout + statements_prints body))
          (if x then 0 else suc (proc_number name es))
          ≡ Some (proc_block g.numbers (names s) f.params f.result
          (if x then (record { decl = d; name = w.text; params = names_of ps; body = body })
          else procedure_named (procedures_from (d + 1) es) name).body
          k))
          × BodyIs s g f.params f.result
          (if x then (record { decl = d; name = w.text; params = names_of ps; body = body })
          else procedure_named (procedures_from (d + 1) es) name).body
          (proc_block g.numbers (names s) f.params f.result
          (if x then (record { decl = d; name = w.text; params = names_of ps; body = body })
          else procedure_named (procedures_from (d + 1) es) name).body
          k))
      by true e here rec =
          subst (λ q.
          (k : ℕ)
          × ((slice_get (proc_block g.numbers (names s) ps r body layout
          ∷ body_blocks g.numbers (names s) es m (layout + statements_prints body))
          0
          ≡ Some (proc_block g.numbers (names s) q.params q.result body k))
          × BodyIs s g q.params q.result body (proc_block g.numbers (names s) q.params q.result body k)))
          (let z : record { params = ps; result = r } ≡ f = cc in z) (layout, (refl, here))
      by false e here rec = rec e
  proc_body name (fun w ps r body ∷ es) m layout text d f has htext h =
      proc_body name es m layout text (d + 1) f has htext h
  proc_body name (merge w mm j r body ∷ es) m layout text d f has htext h =
      proc_body name es m layout text (d + 1) f has htext h
  proc_body name (shared x ∷ es) m layout text d f has htext h = proc_body name es m layout text (d + 1) f has htext h

  -- the only block of class `main`
  pub main_body : (es : List Declaration) (m : Statements) (layout text n : ℕ) (b : CodeBlock)
      → HasItems g.setting.code.layouts layout (layouts_of (names s) text es m)
      → HasItems g.setting.code.texts text (texts_of es m)
      → slice_get (body_blocks g.numbers (names s) es m layout) n ≡ Some b → is_main b.class ≡ true
      → BodyIs s g [] None m b
  main_body [] m layout text zero b has htext h e =
      subst (λ z. BodyIs s g [] None m z) (let z : main_block g.numbers (names s) m layout ≡ b = cc in z) (record {
        layout = layout;
        text = text;
        locals = refl;
        instrs = refl;
        gives = refl;
        layouts = has;
        texts = htext;
      })
  main_body [] m layout text (suc n) b has htext h e = absurd (let z : None ≡ Some b = h in cc)
  main_body (proc w ps r body ∷ es) m layout text zero b has htext h e =
      absurd (let z : proc_block g.numbers (names s) ps r body layout ≡ b = cc in
      let q : false ≡ true = ap (λ y. is_main y.class) z ∙ e in
      true≢false (sym q))
  main_body (proc w ps r body ∷ es) m layout text (suc n) b has htext h e =
      let both =
      parts_stand g.setting.code.layouts (statements_layouts (names s) (scopes.with_params [] ps) text body)
      (layouts_of (names s) (text + length (statements_texts body)) es m) layout (statements_prints body)
      (statements_prints_length (names s) (scopes.with_params [] ps) text body) has in
      let texts =
      parts_stand g.setting.code.texts (statements_texts body) (texts_of es m) text (length (statements_texts body))
      refl htext in
      main_body es m (layout + statements_prints body) (text + length (statements_texts body)) n b both.1 texts.1 h e
  main_body (fun w ps r body ∷ es) m layout text n b has htext h e = main_body es m layout text n b has htext h e
  main_body (merge w mm j r body ∷ es) m layout text n b has htext h e = main_body es m layout text n b has htext h e
  main_body (shared x ∷ es) m layout text n b has htext h e = main_body es m layout text n b has htext h e

  pub main_of : (es : List Declaration) (bs : List CodeBlock) (n : ℕ) (b : CodeBlock)
      → slice_get (value_blocks g.numbers es ++ bs) n ≡ Some b → is_main b.class ≡ true
      → (j : ℕ) × (slice_get bs j ≡ Some b)
  main_of [] bs n b h e = (n, h)
  main_of (fun w ps r body ∷ es) bs zero b h e =
      absurd (let z : fun_block g.numbers ps r body ≡ b = cc in
      let q : false ≡ true = ap (λ y. is_main y.class) z ∙ e in
      true≢false (sym q))
  main_of (fun w ps r body ∷ es) bs (suc n) b h e = main_of es bs n b h e
  main_of (merge w mm j r body ∷ es) bs zero b h e =
      absurd (let z : merge_block g.numbers mm j r body ≡ b = cc in
      let q : false ≡ true = ap (λ y. is_main y.class) z ∙ e in
      true≢false (sym q))
  main_of (merge w mm j r body ∷ es) bs (suc n) b h e = main_of es bs n b h e
  main_of (shared x ∷ es) bs n b h e = main_of es bs n b h e
  main_of (proc w ps r body ∷ es) bs n b h e = main_of es bs n b h e
