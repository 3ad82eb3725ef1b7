-- A print writes the line of its items.
use Rattle.std.proofs.Common.{◌≡◌, ◌≢◌, ◌∙◌, ℕ, suc, ◌+◌, true, false, IsTrue, List, [], ◌∷◌, ◌++◌, map, Some, None, refl, sym, ap, subst, arith}
use Rattle.std.specs.Prelude.{slice_get, Result, Ok, Err}
use Rattle.std.specs.List.{list_all, join_with_byte}
use Rattle.rev_num.specs.Path.{Path}
use Rattle.rev_num.specs.declared.value.Value.{Value}
use Rattle.rev_num.specs.declared.value.Value.TheVariants as v
use Rattle.rev_num.specs.declared.value.ValueKind.{ValueKind}
use Rattle.rev_num.specs.declared.value.ValueKind.TheVariants as k
use Rattle.rev_num.specs.Value.{kind_of}
use Rattle.rev_num.specs.declared.outcome.Cause.{Cause}
use Rattle.rev_syntax.specs.Trees.{Parameter, PrintItem, text, shown}
use Rattle.rev_syntax.specs.Small.{item_small}
use Rattle.rev_report.specs.Outcome.{value_text}
use Rattle.typed_programs.specs.Value.{Answer, and_then}
use Rattle.typed_programs.specs.Kinds.{Locals, kind_in}
use Rattle.typed_programs.proofs.Lists.{and_parts}
use Rattle.typed_programs.proofs.Typings.{complete}
use Rattle.typed_programs.specs.Judgement.{ItemsTyped}
use Rattle.typed_programs.proofs.Applying.{small_formed}
use Rattle.revision_machine.specs.Machine.{Moves}
use Rattle.revision_calculus.specs.Program.{Setting}
use Rattle.revision_calculus.specs.State.{Frame, Local}
use Rattle.revision_calculus.specs.Evaluation.{eval}
use Rattle.revision_calculus.specs.Step.{item_texts, line_of, with_answer}
use Rattle.revision_calculus.specs.Kinded.{names}
use Rattle.rev_code.specs.declared.code.Instr.TheVariants as i
use Rattle.rev_code.specs.declared.code.CodeBlock.{CodeBlock}
use Rattle.rev_code.specs.declared.code.LayoutItem.{LayoutItem}
use Rattle.rev_code.specs.declared.code.LayoutItem.TheVariants as item
use Rattle.rev_code.specs.Words.{Word}
use Rattle.rev_code.specs.State.{State}
use Rattle.rev_code.specs.Printing as printing
use Rattle.rev_code.specs.Printing.{printed_kinds, word_text, pieces}
use Rattle.rev_code.specs.Step as r
use Rattle.rev_code.specs.Step.{goes, step}
use Rattle.code_generation.specs.Numbers.{Scope}
use Rattle.code_generation.specs.Expressions.{expression_size, expression_code}
use Rattle.code_generation.specs.Sizes.{items_size}
use Rattle.code_generation.specs.Statements.{items_code}
use Rattle.code_generation.specs.Prints.{items_texts, value_item, layout_of}
use Rattle.code_generation.specs.Stands.{HasAt, HasItems}
use Rattle.code_generation.proofs.Standing.{parts_stand}
use Rattle.code_generation.proofs.Lengths.{expression_length}
use Rattle.code_generation.specs.Generated.{kinds_of}
use Rattle.expression_meaning.specs.Agrees.{word, ArgsAre, at_with, pushed, Onward, Gives}
use Rattle.expression_meaning.specs.Agrees as agrees
use Rattle.expression_meaning.proofs.Words.{found, left_below}
use Rattle.expression_meaning.specs.Places.{Tables, AreNames}
use Rattle.program_meaning.proofs.Linked.{IsLinked}
use Rattle.program_meaning.proofs.Reading.{Ready, evaluates}
use Rattle.program_meaning.proofs.Resume.{onward, one}
use Rattle.program_meaning.proofs.Calls.{Comes_to, did_on, trap}

-- ---- values of these kinds

abbrev KindsAre : List ValueKind → List Value → Type 0
KindsAre [] [] = Unit {0}
KindsAre [] (x ∷ xs) = ⊥
KindsAre (t ∷ ts) [] = ⊥
KindsAre (t ∷ ts) (x ∷ xs) = (kind_of x ≡ t) × KindsAre ts xs

-- parameters of these kinds
abbrev as_params : List ValueKind → List Parameter
as_params [] = []
as_params (t ∷ ts) = record { name = record { text = []; at = 0 }; kind_at = 0; kind = t } ∷ as_params ts

kinds_back : (ts : List ValueKind) → kinds_of (as_params ts) ≡ ts
kinds_back [] = refl
kinds_back (t ∷ ts) = ap (λ z. t ∷ z) (kinds_back ts)

as_args : (ts : List ValueKind) (xs : List Value) → KindsAre ts xs → ArgsAre (as_params ts) xs
as_args [] [] h = tt
as_args [] (x ∷ xs) h = absurd h
as_args (t ∷ ts) [] h = absurd h
as_args (t ∷ ts) (x ∷ xs) h = (h.0, as_args ts xs h.1)

-- the uppermost words are those of the values
printed_there : (ts : List ValueKind) (xs : List Value) (stack : List (Word Path)) → KindsAre ts xs
    → r.arguments ts (pushed xs stack) ≡ Some (map word xs)
printed_there ts xs stack h =
    ap (λ z. r.arguments z (pushed xs stack)) (sym (kinds_back ts)) ∙ found (as_params ts) xs stack (as_args ts xs h)

-- ---- texts

text_of_word : (x : Value) → kind_of x ≢ k.Rev → word_text (word x) ≡ value_text x
text_of_word (v.Int z) h = refl
text_of_word (v.Bool true) h = refl
text_of_word (v.Bool false) h = refl
text_of_word (v.Rev q) h = absurd (h refl)

-- one value in front
value_piece : (texts : List (List ℕ)) (t : ValueKind) (items : List LayoutItem) (w : Word Path) (ws : List (Word Path))
    → t ≢ k.Rev → pieces texts (value_item (Some t) ∷ items) (w ∷ ws) ≡ word_text w ∷ pieces texts items ws
value_piece texts k.Int items w ws h = refl
value_piece texts k.Bool items w ws h = refl
value_piece texts k.Rev items w ws h = absurd (h refl)

value_kinds : (t : ValueKind) (items : List LayoutItem) → t ≢ k.Rev
    → printed_kinds (value_item (Some t) ∷ items) ≡ t ∷ printed_kinds items
value_kinds k.Int items h = refl
value_kinds k.Bool items h = refl
value_kinds k.Rev items h = absurd (h refl)

module _ (s : Setting) (g : Tables) (lk : IsLinked s g) (p : Path) where
  abbrev all_texts : List (List ℕ)
  all_texts = g.setting.code.texts

  -- what the code of items gives
  abbrev ItemsGive : State Path → (at : ℕ) → List (Word Path) → (to : ℕ) → List LayoutItem
      → Result (List (List ℕ)) Cause → Type 0
  ItemsGive c at stack to items (Ok texts) =
      (xs : List Value) × KindsAre (printed_kinds items) xs × (pieces all_texts items (map word xs) ≡ texts)
      × Onward g.setting (at_with c at stack) (at_with c to (pushed xs stack))
  ItemsGive c at stack to items (Err e) =
      (m : ℕ) × (words : List (Word Path)) × Onward g.setting (at_with c at stack) (at_with c m words)
      × (step g.setting (at_with c m words) ≡ r.traps (at_with c m words) e)

  onward_on : (x y z : State Path) → Onward g.setting x y → Onward g.setting y z → Onward g.setting x z
  onward_on x y z agrees.stay h = h
  onward_on x y z (agrees.move q j t) h = agrees.move q j (onward_on _ y z t h)

  text_first : (c : State Path) (at : ℕ) (stack : List (Word Path)) (to n : ℕ) (bytes : List ℕ)
      (items : List LayoutItem) (o : Result (List (List ℕ)) Cause)
      → slice_get all_texts n ≡ Some bytes → ItemsGive c at stack to items o
      → ItemsGive c at stack to (item.Text n ∷ items) (and_then o (λ xs. Ok (bytes ∷ xs)))
  text_first c at stack to n bytes items (Ok texts) here h =
      (h.0, h.1, (let e = here in let q = h.2 in λ j. elim (e j) [ None ↦ [] | Some t ↦ t ] ∷ q j), h.3)
  text_first c at stack to n bytes items (Err e) here h = h

  value_first : (c : State Path) (at m to : ℕ) (stack : List (Word Path)) (t : ValueKind) (items : List LayoutItem)
      (a : Answer) (o : Result (List (List ℕ)) Cause)
      → t ≢ k.Rev → Gives g.setting c at stack m stack t a
      → ((x : Value) → ItemsGive c m (word x ∷ stack) to items o)
      → ItemsGive c at stack to (value_item (Some t) ∷ items)
      (and_then (and_then a (λ x. Ok (value_text x))) (λ y. and_then o (λ xs. Ok (y ∷ xs))))
  value_first c at m to stack t items (Ok x) (Ok texts) shows h q =
      let z = q x in
      let kinds : KindsAre (printed_kinds (value_item (Some t) ∷ items)) (x ∷ z.0) =
      subst (λ ts. KindsAre ts (x ∷ z.0)) (sym (value_kinds t items shows)) (h.0, z.1) in
      let no_handle : kind_of x ≢ k.Rev = λ e. shows (sym h.0 ∙ e) in
      let same : pieces all_texts (value_item (Some t) ∷ items) (word x ∷ map word z.0) ≡ value_text x ∷ texts =
      value_piece all_texts t items (word x) (map word z.0) shows
      ∙ (let a = text_of_word x no_handle in let b = z.2 in λ j. a j ∷ b j) in
      (x ∷ z.0, kinds, same, onward_on _ _ _ h.1 z.3)
  value_first c at m to stack t items (Ok x) (Err e) shows h q = let z = q x in (z.0, z.1, onward_on _ _ _ h.1 z.2, z.3)
  value_first c at m to stack t items (Err e) o shows h q = h

  module _ (b : CodeBlock) (scope : Scope) (ls : Locals) (next : ℕ) (l : Local) (f : Frame) (fs : List Frame)
      (c : State Path) (rd : Ready s g b scope l f fs c) (are : AreNames b.locals scope ls next) where
    items_run : (items : List PrintItem) (at n : ℕ) (stack : List (Word Path)) → ItemsTyped (names s) ls items
        → IsTrue (list_all item_small items) → HasAt b.instrs at (items_code g.numbers scope items at)
        → HasItems all_texts n (items_texts items)
        → ItemsGive c at stack (at + items_size items) (layout_of (names s) ls n items) (item_texts s l items)
    items_run [] at n stack typed small here has = (
      [],
      tt,
      refl,
      subst (λ q. Onward g.setting (at_with c at stack) (at_with c q stack)) (let z : at ≡ at + 0 = omega arith in z)
          agrees.stay,
    )
    items_run (text q bytes ∷ items) at n stack typed small here has =
        text_first c at stack (at + items_size items) n bytes (layout_of (names s) ls (suc n) items)
        (item_texts s l items) has.0
        (items_run items at (suc n) stack typed.1
        (and_parts (item_small (text q bytes)) (list_all item_small items) small).1 here has.1)
    items_run (shown e ∷ items) at n stack typed small here has =
        let t : ValueKind = typed.0.0 in
        let m : ℕ = at + expression_size e in
        let parts =
        parts_stand b.instrs (expression_code g.numbers scope e at) (items_code g.numbers scope items m) at
        (expression_size e) (expression_length g.numbers scope e at) here in
        let smalls = and_parts (item_small (shown e)) (list_all item_small items) small in
        let kind : kind_in (names s) ls e ≡ Some t = (complete (names s) ls e t typed.0.1).1 in
        subst (λ o.
        ItemsGive c at stack (at + (expression_size e + items_size items))
        (value_item o ∷ layout_of (names s) ls n items) (item_texts s l (shown e ∷ items)))
        (sym kind)
        (subst (λ q.
        ItemsGive c at stack q (value_item (Some t) ∷ layout_of (names s) ls n items)
        (item_texts s l (shown e ∷ items)))
        (let z : m + items_size items ≡ at + (expression_size e + items_size items) = omega arith in z)
        (value_first c at m (m + items_size items) stack t (layout_of (names s) ls n items) (eval s l e)
        (item_texts s l items) typed.0.2
        (evaluates s g lk b scope ls next l f fs c rd are e t at stack typed.0.1 (small_formed e smalls.0) parts.0)
        (λ x. items_run items m n (word x ∷ stack) typed.1 smalls.1 parts.1 has)))

    -- the line is written, and then what follows
    pub prints : (items : List PrintItem) (at n layout : ℕ) → ItemsTyped (names s) ls items
        → IsTrue (list_all item_small items) → HasAt b.instrs at (items_code g.numbers scope items at)
        → HasItems all_texts n (items_texts items)
        → slice_get b.instrs (at + items_size items) ≡ Some (i.Print layout)
        → slice_get g.setting.code.layouts layout ≡ Some (layout_of (names s) ls n items)
        → ((line : List ℕ)
        → Comes_to s g p (record c { at = suc (at + items_size items); stack = []; text = c.text ++ line })
        (Moves (record l { text = l.text ++ line })))
        → Comes_to s g p (at_with c at [])
        (with_answer p l (item_texts s l items) (λ xs. Moves (record l { text = l.text ++ line_of xs })))
    prints items at n layout typed small code has here there follows =
        by (item_texts s l items) (items_run items at n [] typed small code has)
      where
        by : (o : Result (List (List ℕ)) Cause)
            → ItemsGive c at [] (at + items_size items) (layout_of (names s) ls n items) o
            → Comes_to s g p (at_with c at [])
            (with_answer p l o (λ xs. Moves (record l { text = l.text ++ line_of xs })))
        by (Err e) h = trap s g p (at_with c at []) (at_with c h.0 h.1) l e rd.shared (onward s g _ _ h.2) h.3
        by (Ok texts) h =
            let a : State Path = at_with c (at + items_size items) (pushed h.0 []) in
            let c2 : State Path =
            record c { at = suc (at + items_size items); stack = []; text = c.text ++ line_of texts } in
            let wrote : printing.line_of all_texts (layout_of (names s) ls n items) (map word h.0) ≡ line_of texts =
            ap (λ z. join_with_byte 32 z ++ 10 ∷ []) h.2 in
            let step_so : step g.setting a ≡ goes c2 =
            one s g b a (i.Print layout) (goes c2) rd.is here
            (ap (r.print all_texts a) there
            ∙ ap (r.print_with all_texts a (layout_of (names s) ls n items))
            (printed_there (printed_kinds (layout_of (names s) ls n items)) h.0 [] h.1)
            ∙ (let e = left_below h.0 [] in
            let q = wrote in
            λ j. goes (record c2 { stack = e j; text = c.text ++ q j }))) in
            did_on s g p (at_with c at []) a (Moves (record l { text = l.text ++ line_of texts })) (onward s g _ _ h.3)
            (did_on s g p a c2 (Moves (record l { text = l.text ++ line_of texts })) (r.more step_so r.none)
            (follows (line_of texts)))
