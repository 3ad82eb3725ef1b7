-- What an instruction does is the same whatever a handle is, and whatever number of forks a state has.
use Rattle.std.proofs.Common.{◌≡◌, ◌∙◌, ℕ, zero, suc, Bool, true, false, cond, not, ℤ, List, [], ◌∷◌, ◌++◌, length, map, take, drop, reverse, Option, Some, None, Result, Ok, Err, refl, sym, ap}
use Rattle.std.proofs.lemmas.List.{map-append, reverse-append}
use Rattle.std.specs.Prelude.{slice_get, slice_set, nat_lt, if◌then◌else◌, int_lt, int_le}
use Rattle.rev_num.specs.declared.value.ValueKind.{ValueKind}
use Rattle.rev_num.specs.declared.value.ValueKind.TheVariants as k
use Rattle.rev_num.specs.declared.value.NumFault.{NumFault}
use Rattle.rev_num.specs.declared.outcome.Cause.{Cause}
use Rattle.rev_num.specs.declared.outcome.Cause.TheVariants as cause
use Rattle.rev_num.specs.Arith.{sum_of, difference_of, product_of, quotient_of, remainder_of, negation_of}
use Rattle.rev_num.specs.Value.{same_kind}
use Rattle.rev_code.specs.declared.code.Code.{Code}
use Rattle.rev_code.specs.declared.code.CodeBlock.{CodeBlock}
use Rattle.rev_code.specs.declared.code.Instr.{Instr}
use Rattle.rev_code.specs.declared.code.Instr.TheVariants as i
use Rattle.rev_code.specs.declared.code.LayoutItem.{LayoutItem}
use Rattle.rev_code.specs.declared.code.LayoutItem.TheVariants as item
use Rattle.rev_code.specs.Words.{Word, int, bool, rev, kind_of, fits, zero_word}
use Rattle.rev_code.specs.State.{Location, Frame, Fun, State, Setting, seen, seen_at, written_at}
use Rattle.rev_code.specs.Variables.{Place, scalar, array, cell_at}
use Rattle.rev_code.specs.Printing.{printed_kinds, word_text, pieces}
use Rattle.rev_code.specs.Step as r
use Rattle.rev_code.specs.Step.{Comes, goes, traps, forks, joins, ends, stuck, act, act_at, act_in, step, onward, reach, only, is_fun, is_procedure, arguments, value_at, params}
use Rattle.rev_code.specs.Funs as funs
use Rattle.code_machine.specs.Renamed.{renamed_word, renamed_written, renamed_location, renamed_frame, renamed_as}

reverse_map : {A B : Type 0} (f : A → B) (xs : List A) → reverse (map f xs) ≡ map f (reverse xs)
reverse_map f [] = refl
reverse_map f (x ∷ xs) =
    reverse-append (f x ∷ []) (map f xs) ∙ ap (λ z. z ++ f x ∷ []) (reverse_map f xs)
    ∙ sym (map-append f (reverse xs) (x ∷ [])) ∙ ap (map f) (sym (reverse-append (x ∷ []) xs))

take_map : {A B : Type 0} (f : A → B) (n : ℕ) (xs : List A) → take n (map f xs) ≡ map f (take n xs)
take_map f zero xs = refl
take_map f (suc n) [] = refl
take_map f (suc n) (x ∷ xs) = ap (λ z. f x ∷ z) (take_map f n xs)

drop_map : {A B : Type 0} (f : A → B) (n : ℕ) (xs : List A) → drop n (map f xs) ≡ map f (drop n xs)
drop_map f zero xs = refl
drop_map f (suc n) [] = refl
drop_map f (suc n) (x ∷ xs) = drop_map f n xs

length_map : {A B : Type 0} (f : A → B) (xs : List A) → length (map f xs) ≡ length xs
length_map f [] = refl
length_map f (x ∷ xs) = ap suc (length_map f xs)

module _ {H K : Type 0} (f : H → K) where
  abbrev word : Word H → Word K
  word w = renamed_word f w

  abbrev words : List (Word H) → List (Word K)
  words ws = map (renamed_word f) ws

  abbrev pub renamed_answer : Option (Result (Word H) Cause) → Option (Result (Word K) Cause)
  renamed_answer None = None
  renamed_answer (Some (Ok w)) = Some (Ok (word w))
  renamed_answer (Some (Err e)) = Some (Err e)

  abbrev renamed_args : Option (List (Word H)) → Option (List (Word K))
  renamed_args None = None
  renamed_args (Some ws) = Some (words ws)

  -- ---- words and lists

  kind_same : (w : Word H) → kind_of (word w) ≡ kind_of w
  kind_same (int n) = refl
  kind_same (bool b) = refl
  kind_same (rev h) = refl

  fits_same : (xs : List ValueKind) (ws : List (Word H)) → fits xs (words ws) ≡ fits xs ws
  fits_same [] [] = refl
  fits_same [] (w ∷ ws) = refl
  fits_same (x ∷ xs) [] = refl
  fits_same (x ∷ xs) (w ∷ ws) =
      let a = kind_same w in let b = fits_same xs ws in λ j. Rattle.std.specs.Prelude.◌&&◌ (same_kind x (a j)) (b j)

  get_same : (ws : List (Word H)) (n : ℕ) → slice_get (words ws) n ≡ renamed_written f (slice_get ws n)
  get_same [] n = refl
  get_same (w ∷ ws) zero = refl
  get_same (w ∷ ws) (suc n) = get_same ws n

  set_same : (ws : List (Word H)) (n : ℕ) (w : Word H) → slice_set (words ws) n (word w) ≡ words (slice_set ws n w)
  set_same [] n w = refl
  set_same (x ∷ ws) zero w = refl
  set_same (x ∷ ws) (suc n) w = ap (λ z. word x ∷ z) (set_same ws n w)

  pub seen_same : (l : Location H) → seen (renamed_location f l) ≡ word (seen l)
  seen_same l = by l.written
    where
      by : (o : Option (Word H))
          → seen (record { snapshot = word l.snapshot; written = renamed_written f o })
          ≡ word (seen (record { snapshot = l.snapshot; written = o }))
      by None = refl
      by (Some w) = refl

  pub seen_at_same : (ls : List (Location H)) (n : ℕ)
      → seen_at (map (renamed_location f) ls) n ≡ renamed_written f (seen_at ls n)
  seen_at_same [] n = refl
  seen_at_same (l ∷ ls) zero = ap Some (seen_same l)
  seen_at_same (l ∷ ls) (suc n) = seen_at_same ls n

  pub written_at_same : (ls : List (Location H)) (n : ℕ) (w : Word H)
      → written_at (map (renamed_location f) ls) n (word w) ≡ map (renamed_location f) (written_at ls n w)
  written_at_same [] n w = refl
  written_at_same (l ∷ ls) zero w = refl
  written_at_same (l ∷ ls) (suc n) w = ap (λ z. renamed_location f l ∷ z) (written_at_same ls n w)

  zero_same : (x : ValueKind) → zero_word x ≡ word (zero_word x)
  zero_same k.Int = refl
  zero_same k.Bool = refl
  zero_same k.Rev = refl

  zeros_same : (xs : List ValueKind) → map zero_word xs ≡ words (map zero_word xs)
  zeros_same [] = refl
  zeros_same (x ∷ xs) = let a = zero_same x in let b = zeros_same xs in λ j. a j ∷ b j

  pub first_locals_same : (b : CodeBlock) (args : List (Word H))
      → r.first_locals b (words args) ≡ words (r.first_locals b args)
  first_locals_same b args =
      ap (λ n. words args ++ map zero_word (drop n b.locals)) (length_map word args)
      ∙ ap (λ z. words args ++ z) (zeros_same (drop (length args) b.locals))
      ∙ sym (map-append word args (map zero_word (drop (length args) b.locals)))

  pub rest_same : (args stack : List (Word H))
      → drop (length (words args)) (words stack) ≡ words (drop (length args) stack)
  rest_same args stack = ap (λ n. drop n (words stack)) (length_map word args) ∙ drop_map word (length args) stack

  chosen : (d : Bool) (ws : List (Word H))
      → (if d then Some (words ws) else None) ≡ renamed_args (if d then Some ws else None)
  chosen true ws = refl
  chosen false ws = refl

  arguments_same : (xs : List ValueKind) (stack : List (Word H))
      → arguments xs (words stack) ≡ renamed_args (arguments xs stack)
  arguments_same xs stack =
      let args = reverse (take (length xs) stack) in
      let e : reverse (take (length xs) (words stack)) ≡ words args =
      ap reverse (take_map word (length xs) stack) ∙ reverse_map word (take (length xs) stack) in
      ap (λ z. if fits xs z then Some z else None) e
      ∙ ap (λ d. if d then Some (words args) else None) (fits_same xs args) ∙ chosen (fits xs args) args

  text_same : (w : Word H) → word_text (word w) ≡ word_text w
  text_same (int n) = refl
  text_same (bool true) = refl
  text_same (bool false) = refl
  text_same (rev h) = refl

  pieces_same : (texts : List (List ℕ)) (items : List LayoutItem) (ws : List (Word H))
      → pieces texts items (words ws) ≡ pieces texts items ws
  pieces_same texts [] ws = refl
  pieces_same texts (item.Text n ∷ items) ws =
      ap (λ z. Rattle.rev_code.specs.Printing.text_at texts n ∷ z) (pieces_same texts items ws)
  pieces_same texts (item.Int ∷ items) [] = refl
  pieces_same texts (item.Int ∷ items) (w ∷ ws) =
      let a = text_same w in let b = pieces_same texts items ws in λ j. a j ∷ b j
  pieces_same texts (item.Bool ∷ items) [] = refl
  pieces_same texts (item.Bool ∷ items) (w ∷ ws) =
      let a = text_same w in let b = pieces_same texts items ws in λ j. a j ∷ b j

  -- a fun and the same fun
  abbrev pub SameFun : Option (Fun H) → Option (Fun K) → Type 0
  SameFun x y = (args : List (Word H)) → value_at y (words args) ≡ renamed_answer (value_at x args)

  -- ---- instructions, of states with this number of forks

  module _ (forks_made : ℕ) where
    abbrev st : State H → State K
    st c = renamed_as f forks_made c

    abbrev pub renamed_comes : Comes H → Comes K
    renamed_comes (goes c) = goes (st c)
    renamed_comes (traps c e) = traps (st c) e
    renamed_comes (forks c n args) = forks (st c) n (words args)
    renamed_comes (joins c try h) = joins (st c) try (f h)
    renamed_comes (ends c w) = ends (st c) (renamed_written f w)
    renamed_comes stuck = stuck

    abbrev cm : Comes H → Comes K
    cm o = renamed_comes o

    n_if : (d : Bool) (x y : Comes H) → cond d (cm x) (cm y) ≡ cm (cond d x y)
    n_if true x y = refl
    n_if false x y = refl

    module _ (c : State H) where
      n_number : (rest : List (Word H)) (v : Result ℤ NumFault)
          → r.number (st c) (words rest) v ≡ cm (r.number c rest v)
      n_number rest (Ok z) = refl
      n_number rest (Err e) = refl

      n_ints : (g : ℤ → ℤ → Result ℤ NumFault) (ws : List (Word H))
          → r.of_ints g (st c) (words ws) ≡ cm (r.of_ints g c ws)
      n_ints g (int y ∷ int x ∷ rest) = n_number rest (g x y)
      n_ints g _ = refl

      n_int : (g : ℤ → Result ℤ NumFault) (ws : List (Word H)) → r.of_int g (st c) (words ws) ≡ cm (r.of_int g c ws)
      n_int g (int x ∷ rest) = n_number rest (g x)
      n_int g _ = refl

      n_not : (ws : List (Word H)) → r.of_bool (st c) (words ws) ≡ cm (r.of_bool c ws)
      n_not (bool b ∷ rest) = refl
      n_not _ = refl

      n_equality : (t : Bool → Bool) (ws : List (Word H)) → r.equality t (st c) (words ws) ≡ cm (r.equality t c ws)
      n_equality t (int y ∷ int x ∷ rest) = refl
      n_equality t (bool y ∷ bool x ∷ rest) = refl
      n_equality t _ = refl

      n_order : (g : ℤ → ℤ → Bool) (ws : List (Word H)) → r.order g (st c) (words ws) ≡ cm (r.order g c ws)
      n_order g (int y ∷ int x ∷ rest) = refl
      n_order g _ = refl

      n_pushes : (rest : List (Word H)) (o : Option (Word H))
          → r.pushes (st c) (words rest) (renamed_written f o) ≡ cm (r.pushes c rest o)
      n_pushes rest None = refl
      n_pushes rest (Some w) = refl

      n_local : (n : ℕ) (o : Option ValueKind) (ws : List (Word H))
          → r.into_local (st c) n o (words ws) ≡ cm (r.into_local c n o ws)
      n_local n (Some x) (w ∷ rest) =
          let a = kind_same w in
          let b = set_same c.locals n w in
          (λ j. if same_kind x (a j) then goes (record (st c) { at = suc c.at; stack = words rest; locals = b j })
          else stuck)
          ∙ n_if (same_kind x (kind_of w))
          (goes (record c { at = suc c.at; stack = rest; locals = slice_set c.locals n w })) stuck
      n_local n (Some x) [] = refl
      n_local n None ws = refl

      n_from_scalar : (o : Option Place) → r.from_scalar (st c) o ≡ cm (r.from_scalar c o)
      n_from_scalar None = refl
      n_from_scalar (Some q) =
          ap (r.pushes (st c) (words c.stack)) (seen_at_same c.locations q.first)
          ∙ n_pushes c.stack (seen_at c.locations q.first)

      n_write : (rest : List (Word H)) (l : ℕ) (w : Word H)
          → r.after_write (st c) (words rest) l (word w) ≡ cm (r.after_write c rest l w)
      n_write rest l w =
          let e = written_at_same c.locations l w in
          λ j. goes (record (st c) { at = suc c.at; stack = words rest; locations = e j })

      n_into_scalar : (o : Option Place) (ws : List (Word H))
          → r.into_scalar (st c) o (words ws) ≡ cm (r.into_scalar c o ws)
      n_into_scalar (Some q) (w ∷ rest) =
          let a = kind_same w in
          let b = n_write rest q.first w in
          (λ j. if same_kind q.var.kind (a j) then b j else stuck)
          ∙ n_if (same_kind q.var.kind (kind_of w)) (r.after_write c rest q.first w) stuck
      n_into_scalar (Some q) [] = refl
      n_into_scalar None ws = refl

      n_read : (rest : List (Word H)) (o : Option ℕ) → r.read_cell (st c) (words rest) o ≡ cm (r.read_cell c rest o)
      n_read rest None = refl
      n_read rest (Some l) =
          ap (r.pushes (st c) (words rest)) (seen_at_same c.locations l) ∙ n_pushes rest (seen_at c.locations l)

      n_from_cell : (o : Option Place) (ws : List (Word H)) → r.from_cell (st c) o (words ws) ≡ cm (r.from_cell c o ws)
      n_from_cell (Some q) (int n ∷ rest) = n_read rest (cell_at q n)
      n_from_cell _ _ = refl

      n_write_cell : (rest : List (Word H)) (w : Word H) (o : Option ℕ)
          → r.write_cell (st c) (words rest) (word w) o ≡ cm (r.write_cell c rest w o)
      n_write_cell rest w None = refl
      n_write_cell rest w (Some l) = n_write rest l w

      n_into_cell : (o : Option Place) (ws : List (Word H)) → r.into_cell (st c) o (words ws) ≡ cm (r.into_cell c o ws)
      n_into_cell (Some q) (w ∷ int n ∷ rest) =
          let a = kind_same w in
          let b = n_write_cell rest w (cell_at q n) in
          (λ j. if same_kind q.var.kind (a j) then b j else stuck)
          ∙ n_if (same_kind q.var.kind (kind_of w)) (r.write_cell c rest w (cell_at q n)) stuck
      n_into_cell _ _ = refl

      n_test : (o : Option ℕ) → r.test_cell (st c) o ≡ cm (r.test_cell c o)
      n_test None = refl
      n_test (Some l) = refl

      n_over_cell : (o : Option Place) (ws : List (Word H)) → r.over_cell (st c) o (words ws) ≡ cm (r.over_cell c o ws)
      n_over_cell (Some q) (int n ∷ rest) = n_test (cell_at q n)
      n_over_cell _ _ = refl

      n_input : (rest : List (Word H)) (o : Option ℤ) → r.read_input (st c) (words rest) o ≡ cm (r.read_input c rest o)
      n_input rest None = refl
      n_input rest (Some z) = refl

      n_from_input : (inputs : List ℤ) (ws : List (Word H))
          → r.from_input inputs (st c) (words ws) ≡ cm (r.from_input inputs c ws)
      n_from_input inputs (int n ∷ rest) = n_input rest (r.input_at inputs n)
      n_from_input inputs _ = refl

      n_jump_if : (d : Bool) (to : ℕ) (ws : List (Word H)) → r.jump_if d to (st c) (words ws) ≡ cm (r.jump_if d to c ws)
      n_jump_if true to (bool b ∷ rest) = refl
      n_jump_if false to (bool b ∷ rest) = refl
      n_jump_if true to [] = refl
      n_jump_if true to (int n ∷ rest) = refl
      n_jump_if true to (rev n ∷ rest) = refl
      n_jump_if false to [] = refl
      n_jump_if false to (int n ∷ rest) = refl
      n_jump_if false to (rev n ∷ rest) = refl

      n_value : (rest : List (Word H)) (o : Option (Result (Word H) Cause))
          → r.value_or_trap (st c) (words rest) (renamed_answer o) ≡ cm (r.value_or_trap c rest o)
      n_value rest None = refl
      n_value rest (Some (Ok w)) = refl
      n_value rest (Some (Err e)) = refl

      n_apply_to : (x : Option (Fun H)) (y : Option (Fun K)) → SameFun x y → (o : Option (List (Word H)))
          → r.apply_to (st c) y (renamed_args o) ≡ cm (r.apply_to c x o)
      n_apply_to x y same None = refl
      n_apply_to x y same (Some args) =
          (let a = rest_same args c.stack in let b = same args in λ j. r.value_or_trap (st c) (a j) (b j))
          ∙ n_value (drop (length args) c.stack) (value_at x args)

      n_apply : (o : Option CodeBlock) (x : Option (Fun H)) (y : Option (Fun K)) → SameFun x y
          → r.apply (st c) o y ≡ cm (r.apply c o x)
      n_apply None x y same = refl
      n_apply (Some b) x y same =
          ap (r.apply_to (st c) y) (arguments_same (params b) c.stack)
          ∙ n_apply_to x y same (arguments (params b) c.stack)

      n_charge : (line fuel : ℕ) → r.charge (st c) line fuel ≡ cm (r.charge c line fuel)
      n_charge line zero = refl
      n_charge line (suc fuel) = refl

      n_enter : (n : ℕ) (b : CodeBlock) (args : List (Word H))
          → r.enter (st c) n b (words args) ≡ st (r.enter c n b args)
      n_enter n b args =
          let a = first_locals_same b args in
          let e = rest_same args c.stack in
          λ j. record (st c) {
            block = n;
            at = 0;
            locals = a j;
            stack = e j;
            below = record { block = c.block; at = suc c.at; locals = words c.locals } ∷ map (renamed_frame f) c.below;
          }

      n_call_with : (n : ℕ) (b : CodeBlock) (o : Option (List (Word H)))
          → r.call_with (st c) n b (renamed_args o) ≡ cm (r.call_with c n b o)
      n_call_with n b None = refl
      n_call_with n b (Some args) =
          let a = length_map (renamed_frame f) c.below in
          let e = n_enter n b args in
          (λ j. if nat_lt (suc (a j)) r.most_frames then goes (e j) else traps (st c) cause.CallDepth)
          ∙ n_if (nat_lt (suc (length c.below)) r.most_frames) (goes (r.enter c n b args)) (traps c cause.CallDepth)

      n_call : (n : ℕ) (o : Option CodeBlock) → r.call (st c) n o ≡ cm (r.call c n o)
      n_call n None = refl
      n_call n (Some b) =
          ap (r.call_with (st c) n b) (arguments_same (params b) c.stack)
          ∙ n_call_with n b (arguments (params b) c.stack)

      n_fork_with : (n : ℕ) (o : Option (List (Word H)))
          → r.fork_with (st c) n (renamed_args o) ≡ cm (r.fork_with c n o)
      n_fork_with n None = refl
      n_fork_with n (Some args) = refl

      n_fork : (n : ℕ) (o : Option CodeBlock) → r.fork (st c) n o ≡ cm (r.fork c n o)
      n_fork n None = refl
      n_fork n (Some b) =
          ap (r.fork_with (st c) n) (arguments_same (params b) c.stack) ∙ n_fork_with n (arguments (params b) c.stack)

      n_join : (try : Bool) (ws : List (Word H)) → r.join (st c) try (words ws) ≡ cm (r.join c try ws)
      n_join try (rev (Some h) ∷ rest) = refl
      n_join try (rev None ∷ rest) = refl
      n_join try _ = refl

      n_leave : (fs : List (Frame H)) (w : Option (Word H))
          → r.leave (st c) (map (renamed_frame f) fs) (renamed_written f w) ≡ cm (r.leave c fs w)
      n_leave [] w = refl
      n_leave (x ∷ fs) w = refl

      n_return : (o : Option ValueKind) (ws : List (Word H)) → r.return (st c) o (words ws) ≡ cm (r.return c o ws)
      n_return None ws = n_leave c.below None
      n_return (Some x) [] = refl
      n_return (Some x) (w ∷ rest) =
          let a = kind_same w in
          let b = n_leave c.below (Some w) in
          (λ j. if same_kind x (a j) then b j else stuck)
          ∙ n_if (same_kind x (kind_of w)) (r.leave c c.below (Some w)) stuck

      n_print_with : (texts : List (List ℕ)) (items : List LayoutItem) (o : Option (List (Word H)))
          → r.print_with texts (st c) items (renamed_args o) ≡ cm (r.print_with texts c items o)
      n_print_with texts items None = refl
      n_print_with texts items (Some ws) =
          let a = rest_same ws c.stack in
          let b = pieces_same texts items ws in
          λ j. goes (record (st c) {
            at = suc c.at;
            stack = a j;
            text = c.text ++ (Rattle.std.specs.List.join_with_byte 32 (b j) ++ 10 ∷ []);
          })

      n_print : (texts : List (List ℕ)) (o : Option (List LayoutItem)) → r.print texts (st c) o ≡ cm (r.print texts c o)
      n_print texts None = refl
      n_print texts (Some items) =
          ap (r.print_with texts (st c) items) (arguments_same (printed_kinds items) c.stack)
          ∙ n_print_with texts items (arguments (printed_kinds items) c.stack)

      n_assert : (ws : List (Word H)) → r.assert (st c) (words ws) ≡ cm (r.assert c ws)
      n_assert (bool b ∷ rest) = n_if b (r.on c rest) (traps c cause.Assert)
      n_assert _ = refl

      n_pop : (ws : List (Word H)) → r.pop (st c) (words ws) ≡ cm (r.pop c ws)
      n_pop [] = refl
      n_pop (w ∷ rest) = refl

  module _ (code : Code) (inputs : List ℤ) (share : ℕ) (xs : List (Fun H)) (ys : List (Fun K))
      (same : (n : ℕ) → SameFun (slice_get xs n) (slice_get ys n)) where
    abbrev sh : Setting H
    sh = record { code = code; funs = xs; inputs = inputs; share = share }

    abbrev sk : Setting K
    sk = record { code = code; funs = ys; inputs = inputs; share = share }

    module _ (m : ℕ) where
      act_same : (b : CodeBlock) (c : State H) (x : Instr)
          → act sk b (renamed_as f m c) x ≡ renamed_comes m (act sh b c x)
      act_same b c (i.PushInt n) = refl
      act_same b c (i.PushBool v) = refl
      act_same b c i.PushNone = refl
      act_same b c (i.LoadLocal n) =
          ap (r.pushes (renamed_as f m c) (words c.stack)) (get_same c.locals n)
          ∙ n_pushes m c c.stack (slice_get c.locals n)
      act_same b c (i.StoreLocal n) = n_local m c n (slice_get b.locals n) c.stack
      act_same b c (i.LoadShared v) = n_from_scalar m c (scalar code.vars v)
      act_same b c (i.StoreShared v) = n_into_scalar m c (scalar code.vars v) c.stack
      act_same b c (i.LoadCell v) = n_from_cell m c (array code.vars v) c.stack
      act_same b c (i.StoreCell v) = n_into_cell m c (array code.vars v) c.stack
      act_same b c (i.CheckCell v) = n_over_cell m c (array code.vars v) c.stack
      act_same b c i.LoadInput = n_from_input m c inputs c.stack
      act_same b c i.CountInput = refl
      act_same b c i.Add = n_ints m c sum_of c.stack
      act_same b c i.Sub = n_ints m c difference_of c.stack
      act_same b c i.Mul = n_ints m c product_of c.stack
      act_same b c i.Div = n_ints m c quotient_of c.stack
      act_same b c i.Rem = n_ints m c remainder_of c.stack
      act_same b c i.Neg = n_int m c negation_of c.stack
      act_same b c i.Not = n_not m c c.stack
      act_same b c i.Eq = n_equality m c (λ e. e) c.stack
      act_same b c i.Ne = n_equality m c not c.stack
      act_same b c i.Lt = n_order m c int_lt c.stack
      act_same b c i.Le = n_order m c int_le c.stack
      act_same b c i.Gt = n_order m c (λ x y. int_lt y x) c.stack
      act_same b c i.Ge = n_order m c (λ x y. int_le y x) c.stack
      act_same b c (i.Jump to) = refl
      act_same b c (i.JumpIfFalse to) = n_jump_if m c false to c.stack
      act_same b c (i.JumpIfTrue to) = n_jump_if m c true to c.stack
      act_same b c (i.Apply n) =
          n_apply m c (only is_fun (slice_get code.blocks n)) (slice_get xs n) (slice_get ys n) (same n)
      act_same b c (i.Charge line) = n_charge m c line c.fuel
      act_same b c (i.Call n) = n_call m c n (only is_procedure (slice_get code.blocks n))
      act_same b c (i.Fork n) = n_fork m c n (only is_procedure (slice_get code.blocks n))
      act_same b c i.Join = n_join m c false c.stack
      act_same b c (i.Print n) = n_print m c code.texts (slice_get code.layouts n)
      act_same b c i.Assert = n_assert m c c.stack
      act_same b c i.Return = n_return m c b.result c.stack
      act_same b c i.Pop = n_pop m c c.stack
      act_same b c i.TryJoin = n_join m c true c.stack

      at_same : (b : CodeBlock) (c : State H) (o : Option Instr)
          → act_at sk b (renamed_as f m c) o ≡ renamed_comes m (act_at sh b c o)
      at_same b c None = refl
      at_same b c (Some x) = act_same b c x

      in_same : (c : State H) (o : Option CodeBlock) → act_in sk (renamed_as f m c) o ≡ renamed_comes m (act_in sh c o)
      in_same c None = refl
      in_same c (Some b) = at_same b c (slice_get b.instrs c.at)

      pub step_same : (c : State H) → step sk (renamed_as f m c) ≡ renamed_comes m (step sh c)
      step_same c = in_same c (slice_get code.blocks c.block)

      onward_same : (k : ℕ) → ((c : State H) → reach sk k (renamed_as f m c) ≡ renamed_comes m (reach sh k c))
          → (o : Comes H)
          → onward (λ d. reach sk k d) (renamed_comes m o) ≡ renamed_comes m (onward (λ d. reach sh k d) o)
      onward_same k rec (goes c) = rec c
      onward_same k rec (traps c e) = refl
      onward_same k rec (forks c n args) = refl
      onward_same k rec (joins c try h) = refl
      onward_same k rec (ends c w) = refl
      onward_same k rec stuck = refl

      pub reach_same : (k : ℕ) (c : State H) → reach sk k (renamed_as f m c) ≡ renamed_comes m (reach sh k c)
      reach_same zero c = step_same c
      reach_same (suc k) c =
          ap (onward (λ d. reach sk k d)) (step_same c) ∙ onward_same k (λ d. reach_same k d) (step sh c)

  -- ---- funs

  answer_same : (m : ℕ) (o : Comes H) → funs.answer (renamed_comes m o) ≡ renamed_answer (funs.answer o)
  answer_same m (ends c (Some w)) = refl
  answer_same m (ends c None) = refl
  answer_same m (traps c e) = refl
  answer_same m (goes c) = refl
  answer_same m (forks c n args) = refl
  answer_same m (joins c try h) = refl
  answer_same m stuck = refl

  abbrev pub SameFuns : List (Fun H) → List (Fun K) → Type 0
  SameFuns [] [] = Unit {0}
  SameFuns (x ∷ xs) (y ∷ ys) = SameFun (Some x) (Some y) × SameFuns xs ys
  SameFuns [] (y ∷ ys) = ⊥
  SameFuns (x ∷ xs) [] = ⊥

  pub funs_get : (xs : List (Fun H)) (ys : List (Fun K)) → SameFuns xs ys → (n : ℕ)
      → SameFun (slice_get xs n) (slice_get ys n)
  funs_get [] [] s n args = refl
  funs_get (x ∷ xs) (y ∷ ys) s zero args = s.0 args
  funs_get (x ∷ xs) (y ∷ ys) s (suc n) args = funs_get xs ys s.1 n args
  funs_get [] (y ∷ ys) s n args = absurd s
  funs_get (x ∷ xs) [] s n args = absurd s

  funs_append : (xs : List (Fun H)) (ys : List (Fun K)) (x : Fun H) (y : Fun K) → SameFuns xs ys
      → SameFun (Some x) (Some y) → SameFuns (xs ++ x ∷ []) (ys ++ y ∷ [])
  funs_append [] [] x y s t = (t, tt)
  funs_append (u ∷ xs) (v ∷ ys) x y s t = (s.0, funs_append xs ys x y s.1 t)
  funs_append [] (v ∷ ys) x y s t = absurd s
  funs_append (u ∷ xs) [] x y s t = absurd s

  answer_if : (d : Bool) (o : Option (Result (Word H) Cause))
      → cond d (renamed_answer o) None ≡ renamed_answer (cond d o None)
  answer_if true o = refl
  answer_if false o = refl

  value_same : (code : Code) (xs : List (Fun H)) (ys : List (Fun K)) → SameFuns xs ys → (n : ℕ) (b : CodeBlock)
      → SameFun (Some (funs.value_of code xs n b)) (Some (funs.value_of code ys n b))
  value_same code xs ys s n b args =
      let d = fits_same (params b) args in
      let start : funs.fun_start n b (words args) ≡ renamed_as f 0 (funs.fun_start n b args) =
      (let e = first_locals_same b args in
      λ j. record {
        block = n;
        at = 0;
        locals = e j;
        stack = [];
        below = [];
        locations = [];
        fuel = 0;
        forks = 0;
        listed = [];
        text = [];
        line = 0;
      }) in
      let run = reach_same code [] 0 xs ys (funs_get xs ys s) 0 (length b.instrs) (funs.fun_start n b args) in
      let e : funs.answer (reach (funs.setting_of_fun code ys) (length b.instrs) (funs.fun_start n b (words args)))
      ≡ renamed_answer (funs.answer (reach (funs.setting_of_fun code xs) (length b.instrs) (funs.fun_start n b args))) =
      ap (λ z. funs.answer (reach (funs.setting_of_fun code ys) (length b.instrs) z)) start ∙ ap funs.answer run
      ∙ answer_same 0 (reach (funs.setting_of_fun code xs) (length b.instrs) (funs.fun_start n b args)) in
      (λ j. cond (d j) (e j) None)
      ∙ answer_if (fits (params b) args)
      (funs.answer (reach (funs.setting_of_fun code xs) (length b.instrs) (funs.fun_start n b args)))

  values_from_same : (code : Code) (xs : List (Fun H)) (ys : List (Fun K)) (n : ℕ) (bs : List CodeBlock)
      → SameFuns xs ys → SameFuns (funs.values_from code xs n bs) (funs.values_from code ys n bs)
  values_from_same code xs ys n [] s = s
  values_from_same code xs ys n (b ∷ bs) s =
      values_from_same code (xs ++ funs.value_of code xs n b ∷ []) (ys ++ funs.value_of code ys n b ∷ []) (suc n) bs
      (funs_append xs ys (funs.value_of code xs n b) (funs.value_of code ys n b) s (value_same code xs ys s n b))

  pub values_same : (code : Code) (n : ℕ) → SameFun (slice_get (funs.values code) n) (slice_get (funs.values code) n)
  values_same code n = funs_get (funs.values code) (funs.values code) (values_from_same code [] [] 0 code.blocks tt) n
