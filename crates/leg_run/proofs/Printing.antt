-- The instruction Print: the line of its layout with the words that it takes is what the step of code prints.
use Rattle.std.proofs.Common.{◌≡◌, ◌∙◌, ℕ, zero, suc, ◌+◌, ◌-◌, ◌≤◌, Bool, true, false, ℤ, List, [], ◌∷◌, ◌++◌, length, map, reverse, take, drop, get_or, Option, Some, None, refl, sym, ap, subst, arith}
use Rattle.std.specs.Prelude.{slice_get, slice_index_or}
use Rattle.std.specs.List.{join_with_byte}
use Rattle.std.proofs.lemmas.List.{append_assoc}
use Rattle.rev_num.specs.declared.value.ValueKind.TheVariants as k
use Rattle.rev_num.proofs.Lists.{false_no}
use Rattle.rev_code.specs.declared.code.Code.{Code}
use Rattle.rev_code.specs.declared.code.CodeBlock.{CodeBlock}
use Rattle.rev_code.specs.declared.code.Instr.TheVariants as i
use Rattle.rev_code.specs.declared.code.LayoutItem.{LayoutItem}
use Rattle.rev_code.specs.declared.code.LayoutItem.TheVariants as item
use Rattle.rev_code.specs.Words.{Word, int, bool, rev}
use Rattle.rev_code.specs.State.{State}
use Rattle.rev_code.specs.Step as s
use Rattle.rev_code.specs.Step.{goes, print_with, step}
use Rattle.rev_code.specs.Funs.{setting}
use Rattle.rev_code.specs.Printing.{line_of, pieces, printed_kinds}
use Rattle.code_rules.specs.Shapes.{begins, layout_kinds}
use Rattle.code_rules.specs.Pass.{is_layout}
use Rattle.code_rules.specs.Verdict.{first_fault}
use Rattle.fun_run.proofs.Slices.{drop_at}
use Rattle.code_soundness.specs.Typed.{kinds_of}
use Rattle.code_soundness.proofs.Lists.{kinds_length, reverse_length, taken}
use Rattle.block_run.specs.Agreement.{AreWords, IsWord}
use Rattle.block_run.specs.Area.{low, run_of, stack_of}
use Rattle.block_run.specs.Standing.{program, Here, IsRoomy}
use Rattle.block_run.specs.declared.registers.Registers.{Registers}
use Rattle.fun_run.proofs.Calls.{taken_enough}
use Rattle.fun_run.proofs.Running.{stack_dropped}
use Rattle.fun_run.proofs.Slices.{stack_slice, words_drop, words_reverse, words_take}
use Rattle.leg_run.specs.declared.revision.Run.{Run}
use Rattle.leg_run.specs.Changes.{Printed}
use Rattle.leg_run.specs.Ends.{GoesOn}
use Rattle.leg_run.specs.Printed.{bytes_from, gap_at, item_bytes, width_of, widths}
use Rattle.leg_run.specs.Standing.{AreBelow, Stands, listed_as}
use Rattle.leg_run.proofs.Frames as f
use Rattle.leg_run.proofs.Frames.{arguments_are}

-- ---- what stands for items

pub widths_are : (items : List LayoutItem) → widths items ≡ length (printed_kinds items)
widths_are [] = refl
widths_are (item.Text n ∷ items) = let r = widths_are items in omega (arith, r)
widths_are (item.Int ∷ items) = let r = widths_are items in omega (arith, r)
widths_are (item.Bool ∷ items) = let r = widths_are items in omega (arith, r)

pub one_width : (items : List LayoutItem) (n : ℕ) (x : LayoutItem) → slice_get items n ≡ Some x
    → widths (drop n items) ≡ width_of x + widths (drop (n + 1) items)
one_width items n x e = ap widths (drop_at items n x e)

pub one_more : (texts : List (List ℕ)) (items : List LayoutItem) (ws : List ℕ) (n at : ℕ) (x : LayoutItem)
    → slice_get items n ≡ Some x → (t0 t1 t2 : List ℕ)
    → t1 ≡ t0 ++ gap_at n → t2 ≡ t1 ++ item_bytes texts x (slice_index_or ws at 0)
    → t2 ++ bytes_from (gap_at (n + 1)) texts (drop (n + 1) items) ws (at + width_of x)
    ≡ t0 ++ bytes_from (gap_at n) texts (drop n items) ws at
one_more texts items ws n at x e t0 t1 t2 f g =
    let rest = bytes_from (32 ∷ []) texts (drop (n + 1) items) ws (at + width_of x) in
    let this = item_bytes texts x (slice_index_or ws at 0) in
    let gap : gap_at (n + 1) ≡ 32 ∷ [] = (let z : n + 1 ≡ suc n = omega arith in ap gap_at z) in
    ap (λ k. t2 ++ bytes_from k texts (drop (n + 1) items) ws (at + width_of x)) gap
    ∙ ap (λ xs. xs ++ rest) (g ∙ ap (λ xs. xs ++ this) f)
    ∙ append_assoc (t0 ++ gap_at n) this rest
    ∙ append_assoc t0 (gap_at n) (this ++ rest)
    ∙ ap (λ xs. t0 ++ bytes_from (gap_at n) texts xs ws at) (sym (drop_at items n x e))

-- words of an area from a place on
abbrev pub There : List (Word ℕ) → List ℕ → ℕ → Type 0
There [] ws at = Unit {0}
There (x ∷ args) ws at = IsWord x (get_or ws at 0) × There args ws (at + 1)

pub there_from : (args : List (Word ℕ)) (ws : List ℕ) (at : ℕ) → AreWords args (take (length args) (drop at ws))
    → There args ws at
there_from [] ws at h = tt
there_from (x ∷ args) [] zero h = absurd h
there_from (x ∷ args) [] (suc at) h = absurd h
there_from (x ∷ args) (w ∷ ws) zero h = (h.0, shifted args ws 0 (there_from args ws 0 h.1))
  where
    shifted : (args : List (Word ℕ)) (ws : List ℕ) (at : ℕ) → There args ws at → There args (w ∷ ws) (at + 1)
    shifted [] ws at h = tt
    shifted (y ∷ args) ws at h = (
      subst (λ m. IsWord y (get_or (w ∷ ws) m 0)) (let e : suc at ≡ at + 1 = omega arith in e) h.0,
      shifted args ws (at + 1) h.1,
    )
there_from (x ∷ args) (w ∷ ws) (suc at) h =
    subst (There (x ∷ args) (w ∷ ws)) (let e : at + 1 ≡ suc at = omega arith in e)
    (shifted (x ∷ args) ws at (there_from (x ∷ args) ws at h))
  where
    shifted : (args : List (Word ℕ)) (ws : List ℕ) (at : ℕ) → There args ws at → There args (w ∷ ws) (at + 1)
    shifted [] ws at h = tt
    shifted (y ∷ args) ws at h = (
      subst (λ m. IsWord y (get_or (w ∷ ws) m 0)) (let e : suc at ≡ at + 1 = omega arith in e) h.0,
      shifted args ws (at + 1) h.1,
    )

-- pieces, each behind a space
abbrev spaced : List (List ℕ) → List ℕ
spaced [] = []
spaced (p ∷ ps) = 32 ∷ (p ++ spaced ps)

joined : (p : List ℕ) (ps : List (List ℕ)) → join_with_byte 32 (p ∷ ps) ≡ p ++ spaced ps
joined p [] = sym (Rattle.std.proofs.lemmas.List.append-nil p)
joined p (q ∷ ps) = ap (λ xs. p ++ (32 ∷ xs)) (joined q ps)

int_bytes : (texts : List (List ℕ)) (z : ℤ) (w : ℕ) → IsWord (int z) w
    → item_bytes texts item.Int w ≡ Rattle.rev_code.specs.Printing.word_text {H = ℕ} (int z)
int_bytes texts z w h = ap Rattle.std.specs.Fmt.signed_decimal (sym h.1)

bool_bytes : (texts : List (List ℕ)) (v : Bool) (w : ℕ) → IsWord (bool v) w
    → item_bytes texts item.Bool w ≡ Rattle.rev_code.specs.Printing.word_text {H = ℕ} (bool v)
bool_bytes texts true w h = ap (λ n. item_bytes texts item.Bool n) h
bool_bytes texts false w h = ap (λ n. item_bytes texts item.Bool n) h

pub behind_spaces : (texts : List (List ℕ)) (items : List LayoutItem) (args : List (Word ℕ)) (ws : List ℕ) (at : ℕ)
    → kinds_of args ≡ printed_kinds items → There args ws at
    → bytes_from (32 ∷ []) texts items ws at ≡ spaced (pieces texts items args)
behind_spaces texts [] args ws at e h = refl
behind_spaces texts (item.Text n ∷ items) args ws at e h =
    let r = behind_spaces texts items args ws (at + 0) e
    (subst (There args ws) (let z : at ≡ at + 0 = omega arith in z) h) in
    ap (λ xs. 32 ∷ (Rattle.rev_code.specs.Printing.text_at texts n ++ xs)) r
behind_spaces texts (item.Int ∷ items) [] ws at e h = absurd (let clash : [] ≡ k.Int ∷ printed_kinds items = e in cc)
behind_spaces texts (item.Int ∷ items) (int z ∷ args) ws at e h =
    let r = behind_spaces texts items args ws (at + 1) (let q : kinds_of args ≡ printed_kinds items = cc in q) h.1 in
    let a = int_bytes texts z (get_or ws at 0) h.0 in λ j. 32 ∷ (a j ++ r j)
behind_spaces texts (item.Int ∷ items) (bool v ∷ args) ws at e h =
    absurd (let clash : k.Bool ∷ kinds_of args ≡ k.Int ∷ printed_kinds items = e in cc)
behind_spaces texts (item.Int ∷ items) (rev v ∷ args) ws at e h =
    absurd (let clash : k.Rev ∷ kinds_of args ≡ k.Int ∷ printed_kinds items = e in cc)
behind_spaces texts (item.Bool ∷ items) [] ws at e h = absurd (let clash : [] ≡ k.Bool ∷ printed_kinds items = e in cc)
behind_spaces texts (item.Bool ∷ items) (bool v ∷ args) ws at e h =
    let r = behind_spaces texts items args ws (at + 1) (let q : kinds_of args ≡ printed_kinds items = cc in q) h.1 in
    let a = bool_bytes texts v (get_or ws at 0) h.0 in λ j. 32 ∷ (a j ++ r j)
behind_spaces texts (item.Bool ∷ items) (int v ∷ args) ws at e h =
    absurd (let clash : k.Int ∷ kinds_of args ≡ k.Bool ∷ printed_kinds items = e in cc)
behind_spaces texts (item.Bool ∷ items) (rev v ∷ args) ws at e h =
    absurd (let clash : k.Rev ∷ kinds_of args ≡ k.Bool ∷ printed_kinds items = e in cc)

pub line_is : (texts : List (List ℕ)) (items : List LayoutItem) (args : List (Word ℕ)) (ws : List ℕ) (at : ℕ)
    → kinds_of args ≡ printed_kinds items → There args ws at
    → bytes_from [] texts items ws at ≡ join_with_byte 32 (pieces texts items args)
line_is texts [] args ws at e h = refl
line_is texts (x ∷ items) args ws at e h =
    by (pieces texts (x ∷ items) args) (behind_spaces texts (x ∷ items) args ws at e h)
  where
    by : (ps : List (List ℕ))
        → 32 ∷ (item_bytes texts x (get_or ws at 0) ++ bytes_from (32 ∷ []) texts items ws (at + width_of x))
        ≡ spaced ps
        → item_bytes texts x (get_or ws at 0) ++ bytes_from (32 ∷ []) texts items ws (at + width_of x)
        ≡ join_with_byte 32 ps
    by [] r = absurd (clash r)
      where
        clash : {xs : List ℕ} → 32 ∷ xs ≡ [] → ⊥
        clash h = cc
    by (p ∷ ps) r =
        (let q :
        item_bytes texts x (get_or ws at 0) ++ bytes_from (32 ∷ []) texts items ws (at + width_of x) ≡ p ++ spaced ps =
        tail_same r in
        q ∙ sym (joined p ps))
      where
        tail_same : {xs ys : List ℕ} → 32 ∷ xs ≡ 32 ∷ ys → xs ≡ ys
        tail_same h = cc

-- ---- a Print

module _ (code : Code) (ok : first_fault code ≡ None) (inputs : List ℤ) (share : ℕ) (run : Run) (seen : ℕ → ℕ)
    (root : ℕ → Option ℕ) (c : State ℕ)
    (st : Stands code inputs share run seen root c) (b : CodeBlock)
    (is : slice_get code.blocks run.registers.block ≡ Some b)
    (n : ℕ) (at : slice_get b.instrs run.registers.at ≡ Some (i.Print n)) where
  some_layout : (o : Option (List LayoutItem)) → is_layout o ≡ true → (items : List LayoutItem) × (o ≡ Some items)
  some_layout None h = false_no h
  some_layout (Some items) h = (items, refl)

  pub layout : (items : List LayoutItem) × (slice_get code.layouts n ≡ Some items)
  layout = some_layout (slice_get code.layouts n) (f.named code ok inputs share run seen root c st b is (i.Print n) at)

  pub record Prints (items : List LayoutItem) : Type 0 where
    pub args : List (Word ℕ)
    pub kinds : kinds_of args ≡ printed_kinds items
    pub many : length args ≡ widths items
    pub are : args ≡ reverse (take (widths items) c.stack)
    pub enough : widths items ≤ length c.stack
    pub comes : step (setting code inputs share) c
        ≡ goes
        (record c { at = suc c.at; stack = drop (length args) c.stack; text = c.text ++ line_of code.texts items args })

  module _ (items : List LayoutItem) (named : slice_get code.layouts n ≡ Some items) where
    pub prints : Prints items
    prints =
        let found =
        subst (λ o. begins (reverse (layout_kinds o)) (kinds_of c.stack) ≡ true) named
        (f.found code ok inputs share run seen root c st b is (i.Print n) at) in
        let t = taken (printed_kinds items) c.stack found in
        let wide = widths_are items in
        let many : length t.args ≡ widths items = sym (kinds_length t.args) ∙ ap length t.same ∙ sym wide in
        let are : t.args ≡ reverse (take (widths items) c.stack) =
        arguments_are (printed_kinds items) c.stack t.args t.is ∙ ap (λ m. reverse (take m c.stack)) (sym wide) in
        record {
          args = t.args;
          kinds = t.same;
          many = many;
          are = are;
          enough = taken_enough (widths items) c.stack
              (sym (reverse_length (take (widths items) c.stack)) ∙ sym (ap length are) ∙ many);
          comes = f.step_is code ok inputs share run seen root c st b is (i.Print n) at
              ∙ ap (s.print code.texts c) named
              ∙ ap (print_with code.texts c items) t.is;
        }

    pub above : low b run.registers + widths items ≤ run.registers.top
    above =
        let h = f.height code ok inputs share run seen root c st b is in
        let o = (f.here code ok inputs share run seen root c st b is).top in
        let m = prints.enough in omega (arith, h, o, m)

    args_there : There prints.args run.words.items (run.registers.top - widths items)
    args_there =
        let q = prints in
        let hd = f.here code ok inputs share run seen root c st b is in
        let t = hd.top in
        let u = f.top_inside code ok inputs share run seen root c st b is in
        let a = above in
        let v : low b run.registers + (run.registers.top - low b run.registers) - widths items
        ≡ run.registers.top - widths items = omega (arith, t) in
        let g = stack_slice run.words.items (low b run.registers) (run.registers.top - low b run.registers)
        (widths items) (omega (arith, a)) (omega (arith, t, u)) in
        let w = words_reverse (take (widths items) c.stack)
        (take (widths items) (run_of b run.words.items run.registers).stack)
        (words_take (widths items) c.stack (run_of b run.words.items run.registers).stack hd.run.stack) in
        there_from q.args run.words.items (run.registers.top - widths items)
        (subst (λ m. AreWords q.args (take m (drop (run.registers.top - widths items) run.words.items))) (sym q.many)
        (subst (λ xs. AreWords xs (take (widths items) (drop (run.registers.top - widths items) run.words.items)))
        (sym q.are)
        (subst (λ m. AreWords (reverse (take (widths items) c.stack)) (take (widths items) (drop m run.words.items))) v
        (subst (AreWords (reverse (take (widths items) c.stack))) g w))))

    pub print_goes : (run' : Run) → Printed code.texts items run run' → GoesOn code inputs share c run' seen root
    print_goes run' p =
        let q = prints in
        let hd = f.here code ok inputs share run seen root c st b is in
        let up = above in
        let next : State ℕ = record c {
          at = suc c.at;
          stack = drop (length q.args) c.stack;
          text = c.text ++ line_of code.texts items q.args;
        } in
        let there : Registers =
        record run.registers { at = run.registers.at + 1; top = run.registers.top - widths items } in
        let height : run.registers.top - low b run.registers
        ≡ widths items + (run.registers.top - widths items - low b run.registers) = omega (arith, up) in
        let here : Here code inputs (program share) b next run.words.items there seen root = record {
          good = f.next_good code ok inputs share run seen root c st b is next q.comes;
          inputs_are = refl;
          block = hd.block;
          run = record {
            at = (let e = hd.run.at in omega (arith, e));
            locals = hd.run.locals;
            stack = subst (λ m.
                AreWords (drop m c.stack)
                (stack_of run.words.items (low b run.registers)
                (run.registers.top - widths items - low b run.registers)))
                (sym q.many)
                (subst (AreWords (drop (widths items) c.stack))
                (stack_dropped run.words.items (low b run.registers) (run.registers.top - low b run.registers)
                (widths items) (run.registers.top - widths items - low b run.registers) height)
                (words_drop (widths items) c.stack (run_of b run.words.items run.registers).stack hd.run.stack));
            fuel = hd.run.fuel;
            line = hd.run.line;
          };
          top = omega (arith, up);
          locations = hd.locations;
          many = hd.many;
        } in
        record {
          next = next;
          goes = q.comes;
          stands = record {
            body = b;
            is = ap (λ (z : Registers). slice_get code.blocks z.block) p.registers ∙ is;
            here = subst (λ z. Here code inputs (program share) b next run'.words.items z seen root) (sym p.registers)
                (subst (λ ws. Here code inputs (program share) b next ws there seen root) (sym p.words) here);
            below = subst (λ (z : Registers). AreBelow code run'.words.items z.base c.below (reverse run'.below.items))
                (sym p.registers)
                (subst (λ ws. AreBelow code ws run.registers.base c.below (reverse run'.below.items)) (sym p.words)
                (subst (λ xs. AreBelow code run.words.items run.registers.base c.below (reverse xs)) (sym p.below)
                st.below));
            room = subst (λ z. IsRoomy code b z (length run'.words.items)) (sym p.registers)
                (subst (λ (ws : List ℕ). IsRoomy code b there (length ws)) (sym p.words)
                (f.roomy code ok inputs share run seen root c st b is));
            forks = st.forks ∙ sym p.forks;
            listed = st.listed ∙ ap (map listed_as) (sym p.meetings);
            text = (let l =
                line_is code.texts items q.args run.words.items (run.registers.top - widths items) q.kinds args_there in
                let x = st.text in
                (λ j. x j ++ (sym l j ++ 10 ∷ []))
                ∙ sym (append_assoc run.text.items
                (bytes_from [] code.texts items run.words.items (run.registers.top - widths items)) (10 ∷ []))
                ∙ sym p.text);
            few = (let a = st.few in let e = p.forks in let d = ap length p.meetings in omega (arith, a, e, d));
          };
        }
