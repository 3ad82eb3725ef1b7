-- Funs and merges have values: each block by those before it.
use Rattle.std.proofs.Common.{◌≡◌, ◌∙◌, ℕ, zero, suc, ◌+◌, ◌<◌, ◌≤◌, Bool, true, false, not, ◌&&◌, ℤ, List, [], ◌∷◌, ◌++◌, length, take, Option, Some, None, refl, sym, ap, subst, arith, true≢false}
use Rattle.std.specs.Prelude.{slice_get, nat_lt, nat_eq, if◌then◌else◌}
use Rattle.std.specs.List.{list_all}
use Rattle.std.proofs.lemmas.Bool.Decides.{nat_tests}
use Rattle.rev_num.specs.declared.value.ValueKind.{ValueKind}
use Rattle.rev_num.specs.declared.value.ValueKind.TheVariants as k
use Rattle.rev_num.specs.Value.{same_kind}
use Rattle.rev_num.proofs.SameKinds.{same_kind_is}
use Rattle.rev_code.specs.declared.code.BlockClass.{BlockClass}
use Rattle.rev_code.specs.declared.code.BlockClass.TheVariants as class
use Rattle.rev_code.specs.declared.code.Code.{Code}
use Rattle.rev_code.specs.declared.code.CodeBlock.{CodeBlock}
use Rattle.rev_code.specs.declared.code.CodeVar.{CodeVar}
use Rattle.rev_code.specs.Words.{Word, int}
use Rattle.rev_code.specs.State.{Fun, State}
use Rattle.rev_code.specs.Step.{Comes, goes, traps, forks, joins, ends, stuck, step, reach, onward, params, value_at}
use Rattle.rev_code.specs.Funs.{fun_start, answer, setting_of_fun, value_of, values_from, values}
use Rattle.code_rules.specs.Pass.{Note, is_value_class}
use Rattle.code_rules.specs.Tables.{is_var, is_block, fits_class, has_result, names_well, blocks_well, lines_well, ends_in_main, merges_well, is_name, has_cells, is_start, is_merge_class, is_int_merge, is_int_result, are_three_ints, no_merge}
use Rattle.std.specs.Prelude.{nat_le}
use Rattle.code_soundness.specs.Typed.{kinds_of, IsTyped}
use Rattle.code_soundness.specs.AcceptedCode.{IsAccepted}
use Rattle.code_soundness.specs.Funs.{HasValue, IsFunStep}
use Rattle.code_soundness.proofs.Basics.{take_whole, take_front, get_last}
use Rattle.code_soundness.proofs.Lists.{append_length, and_parts, some_eq, none_some, some_within, within_some, all_at, get_append_left, get_append_right, fits_kinds}
use Rattle.code_soundness.proofs.Well.{Well, Known}
use Rattle.code_soundness.proofs.Acting.{step_well}
use Rattle.code_soundness.proofs.Frames.{begun, begins_empty}

-- ---- what the tables say

module _ (code : Code) (named : names_well code ≡ true) where
  pub block_well : (n : ℕ) (b : CodeBlock) → slice_get code.blocks n ≡ Some b → is_block b ≡ true
  block_well n b e =
      let p = and_parts (blocks_well code && list_all (is_var code) code.vars) (lines_well code) named in
      let q = and_parts (blocks_well code) (list_all (is_var code) code.vars) p.0 in
      all_at is_block code.blocks n b (and_parts (ends_in_main code.blocks) (list_all is_block code.blocks) q.0).1 e

  pub var_well : (n : ℕ) (v : CodeVar) → slice_get code.vars n ≡ Some v → is_var code v ≡ true
  var_well n v e =
      let p = and_parts (blocks_well code && list_all (is_var code) code.vars) (lines_well code) named in
      all_at (is_var code) code.vars n v (and_parts (blocks_well code) (list_all (is_var code) code.vars) p.0).1 e

needs_result : (x : BlockClass) (n : ℕ) (has : Bool) → is_value_class x ≡ true → fits_class x n has ≡ true → has ≡ true
needs_result class.Fun n has p h = h
needs_result class.Merge n has p h = h
needs_result class.Proc n has p h = absurd (true≢false (sym p))
needs_result class.Main n has p h = absurd (true≢false (sym p))

abbrev is_some_kind : Option ValueKind → Bool
is_some_kind o = elim o [ None ↦ false | Some x ↦ true ]

-- ---- one block

module _ {H : Type 0} (code : Code) (notes : ℕ → ℕ → Note) (ok : IsAccepted code notes) (before : List (Fun H)) (n : ℕ)
    (b : CodeBlock) (is : slice_get code.blocks n ≡ Some b) (value : is_value_class b.class ≡ true)
    (known : Known (setting_of_fun code before) notes n) where
  result_there : None ≡ b.result → ⊥
  result_there e =
      let h = (and_parts (fits_class b.class b.params (has_result b)) (nat_le b.params (length b.locals))
      (block_well code ok.named n b is)).0 in
      true≢false (sym (needs_result b.class b.params (has_result b) value h) ∙ ap is_some_kind (sym e))

  same_body : (c : State H) (t : IsTyped code notes c) → c.block ≡ n → t.frame.body ≡ b
  same_body c t e = some_eq (sym t.frame.is ∙ ap (slice_get code.blocks) e ∙ is)

  well : (c : State H) → IsTyped code notes c → c.block ≡ n
      → Well (setting_of_fun code before) notes c b (step (setting_of_fun code before) c)
  well c t e =
      let z = same_body c t e in
      let x = within_some b.instrs c.at (subst (λ y. c.at < length y.instrs) z t.frame.inside) in
      step_well (setting_of_fun code before) notes ok c b
      (subst (Known (setting_of_fun code before) notes) (sym e) known) x.0
      (record {
        is = ap (slice_get code.blocks) e ∙ is;
        here = x.1;
        locals = t.frame.kinds ∙ ap (λ y. y.locals) z;
        stack = t.stack;
        below = t.below;
        program = λ p. absurd (true≢false (sym value ∙ p));
      })

  abbrev Runs : ℕ → State H → Type 0
  Runs left c =
      IsTyped code notes c → c.block ≡ n → length b.instrs ≤ suc left + c.at
      → HasValue b.result (answer (reach (setting_of_fun code before) left c))

  -- what a step comes to, where a further run has a value
  finished : (c : State H) (left : ℕ) → c.block ≡ n → length b.instrs ≤ suc left + c.at
      → (then_at : (c' : State H) → Comes H)
      → ((c' : State H) → IsTyped code notes c' → c'.block ≡ n → c.at < c'.at → c'.at < length b.instrs
      → HasValue b.result (answer (then_at c')))
      → (o : Comes H) → Well (setting_of_fun code before) notes c b o → HasValue b.result (answer (onward then_at o))
  finished c left e len then_at next (goes c') w =
      let q = w.ahead value in
      let z = q.block ∙ e in
      next c' w.typed z q.later (subst (λ y. c'.at < length y.instrs) (same_body c' w.typed z) w.typed.frame.inside)
  finished c left e len then_at next (traps c' x) w = w value
  finished c left e len then_at next (forks c' m args) w = absurd (true≢false (sym value ∙ w.class))
  finished c left e len then_at next (joins c' try h) w = absurd (true≢false (sym value ∙ w.class))
  finished c left e len then_at next (ends c' None) w = absurd (result_there w)
  finished c left e len then_at next (ends c' (Some v)) w = sym w
  finished c left e len then_at next stuck w = absurd w

  onward_goes : (o : Comes H) → onward goes o ≡ o
  onward_goes (goes c) = refl
  onward_goes (traps c x) = refl
  onward_goes (forks c m args) = refl
  onward_goes (joins c try h) = refl
  onward_goes (ends c w) = refl
  onward_goes stuck = refl

  runs : (left : ℕ) (c : State H) → Runs left c
  runs zero c t e len =
      subst (λ o. HasValue b.result (answer o)) (onward_goes (step (setting_of_fun code before) c))
      (finished c zero e len goes (λ c' t' e' later inside. absurd (omega (arith, len, later, inside)))
      (step (setting_of_fun code before) c) (well c t e))
  runs (suc left) c t e len =
      finished c (suc left) e len (reach (setting_of_fun code before) left)
      (λ c' t' e' later inside. runs left c' t' e' (omega (arith, len, later)))
      (step (setting_of_fun code before) c) (well c t e)

  pub has_value : (args : List (Word H)) → kinds_of args ≡ params b → HasValue b.result (value_of code before n b args)
  has_value args e =
      subst (λ d.
      HasValue b.result
      (if d then answer (reach (setting_of_fun code before) (length b.instrs) (fun_start n b args)) else None))
      (sym (fits_kinds (params b) args e))
      (runs (length b.instrs) (fun_start n b args)
      (record { frame = begun code notes ok n b is args e; stack = begins_empty code notes ok n b is; below = tt }) refl
      (omega arith))

-- ---- all blocks

module _ {H : Type 0} (code : Code) (notes : ℕ → ℕ → Note) (ok : IsAccepted code notes) where
  abbrev K : List (Fun H) → ℕ → Type 0
  K before upto = Known (setting_of_fun code before) notes upto

  one_more : (before : List (Fun H)) (n : ℕ) (b : CodeBlock) → length before ≡ n → slice_get code.blocks n ≡ Some b
      → K before n → K (before ++ value_of code before n b ∷ []) (suc n)
  one_more before n b len is known m f less here value args e = by (nat_lt m n) refl
    where
      by : (d : Bool) → nat_lt m n ≡ d
          → HasValue f.result (value_at (slice_get (before ++ value_of code before n b ∷ []) m) args)
      by true q =
          let l : m < n = grind (arith, nat_tests, q) in
          let g = within_some before m (omega (arith, l, len)) in
          subst (λ o. HasValue f.result (value_at o args))
          (g.1 ∙ sym (get_append_left before (value_of code before n b ∷ []) m g.0 g.1)) (known m f l here value args e)
      by false q =
          let z : m ≡ n = grind (arith, nat_tests, q, less) in
          let y : length before + 0 ≡ m = omega (arith, len, z) in
          let there : slice_get (before ++ value_of code before n b ∷ []) m ≡ Some (value_of code before n b) =
          ap (slice_get (before ++ value_of code before n b ∷ [])) (sym y)
          ∙ get_append_right before (value_of code before n b ∷ []) 0 in
          let w : f ≡ b = some_eq (sym here ∙ ap (slice_get code.blocks) z ∙ is) in
          subst (λ o. HasValue f.result (value_at o args)) (sym there)
          (subst (λ u. HasValue u.result (value_of code before n b args)) (sym w)
          (has_value code notes ok before n b is (ap (λ u. is_value_class u.class) (sym w) ∙ value) known args
          (e ∙ ap params w)))

  all_known : (bs : List CodeBlock) (before : List (Fun H)) (n : ℕ) → length before ≡ n
      → ((j : ℕ) (b : CodeBlock) → slice_get bs j ≡ Some b → slice_get code.blocks (n + j) ≡ Some b) → K before n
      → K (values_from code before n bs) (n + length bs)
  all_known [] before n len rest known m f less here value args e = known m f (omega (arith, less)) here value args e
  all_known (b ∷ bs) before n len rest known m f less here value args e =
      let z : n + 0 ≡ n = omega arith in
      let is : slice_get code.blocks n ≡ Some b = ap (slice_get code.blocks) (sym z) ∙ rest 0 b refl in
      all_known bs (before ++ value_of code before n b ∷ []) (suc n)
      (let l = append_length before (value_of code before n b ∷ []) in omega (arith, l, len))
      (λ j y q. let w : suc n + j ≡ n + suc j = omega arith in ap (slice_get code.blocks) w ∙ rest (suc j) y q)
      (one_more before n b len is known) m f (omega (arith, less)) here value args e

  pub values_known : (upto : ℕ) → K (values code) upto
  values_known upto m f less here value args e =
      let w = some_within code.blocks m f here in
      all_known code.blocks [] 0 refl (λ j b q. let z : 0 + j ≡ j = omega arith in ap (slice_get code.blocks) z ∙ q)
      (λ m f less. absurd (omega (arith, less))) m f (omega (arith, w)) here value args e

  pub fun_value : (n : ℕ) (b : CodeBlock) → slice_get code.blocks n ≡ Some b → is_value_class b.class ≡ true
      → (args : List (Word H)) → kinds_of args ≡ params b
      → HasValue b.result (value_at (slice_get (values code) n) args)
  fun_value n b is value args e = values_known (suc n) n b (omega arith) is value args e

-- ---- values by blocks, and steps

pub take_less : {A : Type 0} (xs : List A) (n : ℕ) → take n (take (suc n) xs) ≡ take n xs
take_less xs zero = refl
take_less [] (suc n) = refl
take_less (x ∷ xs) (suc n) = ap (λ z. x ∷ z) (take_less xs n)

pub get_take : {A : Type 0} (xs : List A) (m n : ℕ) → m < n → slice_get (take n xs) m ≡ slice_get xs m
get_take xs m zero h = absurd (omega (arith, h))
get_take [] m (suc n) h = refl
get_take (x ∷ xs) zero (suc n) h = refl
get_take (x ∷ xs) (suc m) (suc n) h = get_take xs m n (omega (arith, h))

module _ {H : Type 0} (code : Code) where
  long_more : (before : List (Fun H)) (n : ℕ) (v : Fun H) → length before ≡ n → length (before ++ v ∷ []) ≡ suc n
  long_more before n v h = let l = append_length before (v ∷ []) in omega (arith, l, h)

  kept_front : (bs : List CodeBlock) (before : List (Fun H)) (n : ℕ) → length before ≡ n
      → take n (values_from code before n bs) ≡ before
  kept_front [] before n h = take_whole before n h
  kept_front (b ∷ bs) before n h =
      let r = kept_front bs (before ++ value_of code before n b ∷ []) (suc n)
      (long_more before n (value_of code before n b) h) in
      sym (take_less (values_from code (before ++ value_of code before n b ∷ []) (suc n) bs) n) ∙ ap (take n) r
      ∙ take_front before (value_of code before n b ∷ []) n h

  by_blocks : (bs : List CodeBlock) (before : List (Fun H)) (n : ℕ) → length before ≡ n → (j : ℕ) (b : CodeBlock)
      → slice_get bs j ≡ Some b
      → slice_get (values_from code before n bs) (n + j)
      ≡ Some (value_of code (take (n + j) (values_from code before n bs)) (n + j) b)
  by_blocks [] before n h j b e = absurd (none_some e)
  by_blocks (y ∷ bs) before n h zero b e =
      let z : n + 0 ≡ n = omega arith in
      let f = kept_front bs (before ++ value_of code before n y ∷ []) (suc n)
      (long_more before n (value_of code before n y) h) in
      let g = kept_front (y ∷ bs) before n h in
      let there : slice_get (values_from code before n (y ∷ bs)) n ≡ Some (value_of code before n y) =
      sym (get_take (values_from code before n (y ∷ bs)) n (suc n) (omega arith)) ∙ ap (λ l. slice_get l n) f
      ∙ get_last before (value_of code before n y) n h in
      let here : slice_get (values_from code before n (y ∷ bs)) n
      ≡ Some (value_of code (take n (values_from code before n (y ∷ bs))) n b) =
      there ∙ (λ j. Some (value_of code (sym g j) n (some_eq e j))) in
      subst (λ m.
      slice_get (values_from code before n (y ∷ bs)) m
      ≡ Some (value_of code (take m (values_from code before n (y ∷ bs))) m b))
      (sym z) here
  by_blocks (y ∷ bs) before n h (suc j) b e =
      let z : suc n + j ≡ n + suc j = omega arith in
      let r = by_blocks bs (before ++ value_of code before n y ∷ []) (suc n)
      (long_more before n (value_of code before n y) h) j b e in
      subst (λ m.
      slice_get (values_from code before n (y ∷ bs)) m
      ≡ Some (value_of code (take m (values_from code before n (y ∷ bs))) m b))
      z r

  pub values_by_blocks : (n : ℕ) (b : CodeBlock) → slice_get code.blocks n ≡ Some b
      → slice_get (values {H = H} code) n ≡ Some (value_of code (take n (values code)) n b)
  values_by_blocks n b e =
      let z : 0 + n ≡ n = omega arith in
      subst (λ m. slice_get (values {H = H} code) m ≡ Some (value_of code (take m (values code)) m b)) z
      (by_blocks code.blocks [] 0 refl n b e)

module _ {H : Type 0} (code : Code) (notes : ℕ → ℕ → Note) (ok : IsAccepted code notes) (n : ℕ) (b : CodeBlock)
    (is : slice_get code.blocks n ≡ Some b) where
  pub fun_starts : (args : List (Word H)) → kinds_of args ≡ params b → IsTyped code notes (fun_start n b args)
  fun_starts args e =
      record { frame = begun code notes ok n b is args e; stack = begins_empty code notes ok n b is; below = tt }

  known_front : Known (setting_of_fun {H = H} code (take n (values code))) notes n
  known_front m f less here value args e =
      subst (λ o. HasValue f.result (value_at o args)) (sym (get_take (values code) m n less))
      (fun_value code notes ok m f here value args e)

  pub fun_step : is_value_class b.class ≡ true → (c : State H) → IsTyped code notes c → c.block ≡ n
      → IsFunStep code notes b c (step (setting_of_fun code (take n (values code))) c)
  fun_step value c t e =
      by (step (setting_of_fun code (take n (values code))) c)
      (well code notes ok (take n (values code)) n b is value known_front c t e)
    where
      by : (o : Comes H) → Well (setting_of_fun code (take n (values code))) notes c b o → IsFunStep code notes b c o
      by (goes c') w =
          (let a = w.ahead value in record { typed = w.typed; block = a.block; later = a.later; below = a.below })
      by (traps c' x) w = w value
      by (ends c' v) w = w
      by (forks c' m args) w = true≢false (sym value ∙ w.class)
      by (joins c' try h) w = true≢false (sym value ∙ w.class)
      by stuck w = w

-- ---- merges

pub three_ints : (kinds : List ValueKind) → are_three_ints kinds ≡ true → take 3 kinds ≡ k.Int ∷ k.Int ∷ k.Int ∷ []
three_ints [] h = absurd (true≢false (sym h))
three_ints (x ∷ []) h = absurd (true≢false (sym h))
three_ints (x ∷ y ∷ []) h = absurd (true≢false (sym h))
three_ints (x ∷ y ∷ z ∷ kinds) h =
    let p = and_parts (same_kind x k.Int && same_kind y k.Int) (same_kind z k.Int) h in
    let q = and_parts (same_kind x k.Int) (same_kind y k.Int) p.0 in
    let a = same_kind_is x k.Int q.0 in
    let b = same_kind_is y k.Int q.1 in
    let c = same_kind_is z k.Int p.1 in λ j. a j ∷ b j ∷ c j ∷ []

pub merge_evaluates : (x : BlockClass) → is_merge_class x ≡ true → is_value_class x ≡ true
merge_evaluates class.Merge h = refl
merge_evaluates class.Fun h = absurd (true≢false (sym h))
merge_evaluates class.Proc h = absurd (true≢false (sym h))
merge_evaluates class.Main h = absurd (true≢false (sym h))

int_result : (o : Option ValueKind) → is_int_result o ≡ true → o ≡ Some k.Int
int_result None h = absurd (true≢false (sym h))
int_result (Some x) h = ap Some (same_kind_is x k.Int h)

module _ (code : Code) (notes : ℕ → ℕ → Note) (ok : IsAccepted code notes) (n : ℕ) (v : CodeVar)
    (is : slice_get code.vars n ≡ Some v) (cumulative : v.cumulative ≡ true) where
  merge_parts : ((same_kind v.kind k.Int && not (nat_eq v.merge no_merge)) ≡ true)
      × (is_int_merge (slice_get code.blocks v.merge) ≡ true)
  merge_parts =
      let p = and_parts (is_name v.name && has_cells v.array v.cells && is_start v.kind v.start) (merges_well code v)
      (var_well code ok.named n v is) in
      and_parts (same_kind v.kind k.Int && not (nat_eq v.merge no_merge)) (is_int_merge (slice_get code.blocks v.merge))
      (sym (ap (λ d.
      if d
      then (same_kind v.kind k.Int && not (nat_eq v.merge no_merge) && is_int_merge (slice_get code.blocks v.merge))
      else nat_eq v.merge no_merge)
      cumulative)
      ∙ p.1)

  pub merge_kind : v.kind ≡ k.Int
  merge_kind = same_kind_is v.kind k.Int
      (and_parts (same_kind v.kind k.Int) (not (nat_eq v.merge no_merge)) merge_parts.0).0

  pub merge_value : (H : Type 0) (x y z : ℤ)
      → HasValue {H = H} (Some k.Int) (value_at (slice_get (values code) v.merge) (int x ∷ int y ∷ int z ∷ []))
  merge_value H x y z = by (slice_get code.blocks v.merge) refl merge_parts.1
    where
      by : (o : Option CodeBlock) → slice_get code.blocks v.merge ≡ o → is_int_merge o ≡ true
          → HasValue {H = H} (Some k.Int) (value_at (slice_get (values code) v.merge) (int x ∷ int y ∷ int z ∷ []))
      by None e h = absurd (true≢false (sym h))
      by (Some b) e h =
          let p = and_parts (is_merge_class b.class && nat_eq b.params 3 && are_three_ints b.locals)
          (is_int_result b.result) h in
          let q = and_parts (is_merge_class b.class && nat_eq b.params 3) (are_three_ints b.locals) p.0 in
          let r = and_parts (is_merge_class b.class) (nat_eq b.params 3) q.0 in
          let three : b.params ≡ 3 = (let g = r.1 in grind (arith, nat_tests, g)) in
          let kinds : params b ≡ k.Int ∷ k.Int ∷ k.Int ∷ [] =
          ap (λ m. take m b.locals) three ∙ three_ints b.locals q.1 in
          subst (λ o. HasValue {H = H} o (value_at (slice_get (values code) v.merge) (int x ∷ int y ∷ int z ∷ [])))
          (int_result b.result p.1)
          (fun_value code notes ok v.merge b e (merge_evaluates b.class r.0) (int x ∷ int y ∷ int z ∷ []) (sym kinds))
