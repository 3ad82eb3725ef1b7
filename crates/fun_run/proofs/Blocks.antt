-- The merge blocks of code.
use Rattle.std.proofs.Common.{◌≡◌, ◌∙◌, ℕ, zero, suc, ◌+◌, ◌<◌, ◌≤◌, ◌^◌, ◌-◌, Bool, true, false, ◌&&◌, not, pos, negsuc, List, [], ◌∷◌, ◌++◌, take, length, set, Option, Some, None, refl, sym, ap, subst, arith, true≢false}
use Rattle.std.specs.Prelude.{Result, Ok, Err, slice_get, nat_eq, nat_lt, replicate, if◌then◌else◌}
use Rattle.std.proofs.lemmas.Bool.Decides.{nat_tests}
use Rattle.rev_num.specs.declared.value.NumFault.{NumFault}
use Rattle.rev_num.specs.declared.value.NumFault.TheVariants as fault
use Rattle.rev_num.specs.declared.value.ValueKind.{ValueKind}
use Rattle.rev_num.specs.declared.value.ValueKind.TheVariants as k
use Rattle.rev_num.specs.declared.outcome.Cause.{Cause}
use Rattle.rev_num.specs.Words.{int_of, word_of}
use Rattle.rev_num.specs.Value.{same_kind}
use Rattle.rev_code.specs.declared.code.Code.{Code}
use Rattle.rev_code.specs.declared.code.CodeBlock.{CodeBlock}
use Rattle.rev_code.specs.declared.code.CodeVar.{CodeVar}
use Rattle.rev_code.specs.Words.{Word, int, bool, rev, kind_of}
use Rattle.rev_code.specs.Step.{params, cause_of}
use Rattle.rev_code.specs.Funs.{values}
use Rattle.code_rules.specs.Pass.{is_value_class}
use Rattle.code_rules.specs.Tables.{is_name, has_cells, is_start, merges_well, is_merge_class, is_int_merge, is_int_result, are_three_ints, no_merge}
use Rattle.code_rules.specs.Verdict.{first_fault}
use Rattle.code_soundness.specs.Typed.{location_kinds}
use Rattle.code_soundness.specs.AcceptedCode.{IsAccepted, notes_of}
use Rattle.code_soundness.proofs.Accepting.{no_fault_accepted, no_fault_costs}
use Rattle.code_soundness.proofs.Evaluating.{var_well, merge_kind, three_ints, merge_evaluates}
use Rattle.code_soundness.proofs.Lists.{and_parts, none_some, some_eq}
use Rattle.block_run.specs.Agreement.{IsWord, AreWords}
use Rattle.block_run.proofs.Numbers as numbers
use Rattle.block_run.specs.Area.{count}
use Rattle.block_run.specs.Standing.{IsOfValue}
use Rattle.fun_run.specs.Values.{HasRoom, IsArgs, IsValue}
use Rattle.fun_run.specs.Rooms.{AreRooms}
use Rattle.code_machine.specs.Local.{CodeRun}
use Rattle.code_machine.specs.Joining as joining
use Rattle.code_machine.specs.Joining.{merge_in, merges_of, merged_by, merged_there, fault_of}
use Rattle.fun_run.specs.Merging.{word_for, word_or_fault, int_word, merged_words, word_merges, ServesMerges, HasShortNumbers, IsMerged, IsShort, AreMergesOf, BlocksGiveTheMerges}
use Rattle.fun_run.proofs.Short.{Fits, merge_fits, short_word}
use Rattle.code_machine.proofs.Typing.{merged_var}

-- ---- the variable of a location with a merge block

record IsOfVariable (vs : List CodeVar) (block l : ℕ) : Type 0 where
  number : ℕ
  var : CodeVar
  is : slice_get vs number ≡ Some var
  cumulative : var.cumulative ≡ true
  merge : var.merge ≡ block
  kind : slice_get (location_kinds vs) l ≡ Some var.kind

variable_of : (vs : List CodeVar) (l block : ℕ) → slice_get (merges_of vs) l ≡ Some (Some block)
    → IsOfVariable vs block l
variable_of [] l block e = absurd (none_some e)
variable_of (v ∷ vs) l block e =
    let r = by v.cells l (λ m a. variable_of vs m block a) e in
    record { number = r.0; var = r.1; is = r.2; cumulative = r.3; merge = r.4; kind = r.5 }
  where
    by : (cells m : ℕ) → ((m : ℕ) → slice_get (merges_of vs) m ≡ Some (Some block) → IsOfVariable vs block m)
        → slice_get (replicate cells (merge_in v) ++ merges_of vs) m ≡ Some (Some block)
        → (number : ℕ) × (var : CodeVar) × (slice_get (v ∷ vs) number ≡ Some var) × (var.cumulative ≡ true)
        × (var.merge ≡ block) × (slice_get (replicate cells v.kind ++ location_kinds vs) m ≡ Some var.kind)
    by zero m rec e = let r = rec m e in (suc r.number, r.var, r.is, r.cumulative, r.merge, r.kind)
    by (suc cells) zero rec e = let p = merged_var v block (some_eq e) in (zero, v, refl, p.0, p.1, refl)
    by (suc cells) (suc m) rec e = by cells m rec e

-- ---- the block

pub record IsMergeBlock (code : Code) (n : ℕ) : Type 0 where
  pub body : CodeBlock
  pub is : slice_get code.blocks n ≡ Some body
  pub class : is_value_class body.class ≡ true
  pub three : params body ≡ k.Int ∷ k.Int ∷ k.Int ∷ []

block_in : (code : Code) (n : ℕ) (o : Option CodeBlock) → slice_get code.blocks n ≡ o → is_int_merge o ≡ true
    → IsMergeBlock code n
block_in code n None e h = absurd (true≢false (sym h))
block_in code n (Some b) e h =
    let p = and_parts (is_merge_class b.class && nat_eq b.params 3 && are_three_ints b.locals) (is_int_result b.result)
    h in
    let q = and_parts (is_merge_class b.class && nat_eq b.params 3) (are_three_ints b.locals) p.0 in
    let r = and_parts (is_merge_class b.class) (nat_eq b.params 3) q.0 in
    let three : b.params ≡ 3 = (let g = r.1 in grind (arith, nat_tests, g)) in
    record {
      body = b;
      is = e;
      class = merge_evaluates b.class r.0;
      three = ap (λ m. take m b.locals) three ∙ three_ints b.locals q.1;
    }

module _ (code : Code) (ok : IsAccepted code (notes_of code)) where
  pub block_of : (l n : ℕ) → slice_get (merges_of code.vars) l ≡ Some (Some n) → IsMergeBlock code n
  block_of l n e =
      let v = variable_of code.vars l n e in
      let p = and_parts (is_name v.var.name && has_cells v.var.array v.var.cells && is_start v.var.kind v.var.start)
      (merges_well code v.var) (var_well code ok.named v.number v.var v.is) in
      let q = and_parts (same_kind v.var.kind k.Int && not (nat_eq v.var.merge no_merge))
      (is_int_merge (slice_get code.blocks v.var.merge))
      (sym (ap (λ d.
      if d
      then (same_kind v.var.kind k.Int && not (nat_eq v.var.merge no_merge)
      && is_int_merge (slice_get code.blocks v.var.merge))
      else nat_eq v.var.merge no_merge)
      v.cumulative)
      ∙ p.1) in
      subst (IsMergeBlock code) v.merge (block_in code v.var.merge (slice_get code.blocks v.var.merge) refl q.1)

  pub int_there : (l n : ℕ) (kind : ValueKind) → slice_get (merges_of code.vars) l ≡ Some (Some n)
      → slice_get (location_kinds code.vars) l ≡ Some kind → kind ≡ k.Int
  int_there l n kind e h =
      let v = variable_of code.vars l n e in
      some_eq (sym h ∙ v.kind) ∙ merge_kind code (notes_of code) ok v.number v.var v.is v.cumulative

  pub of_value : (l n : ℕ) → slice_get (merges_of code.vars) l ≡ Some (Some n) → IsOfValue code n
  of_value l n e = let b = block_of l n e in (b.body, b.is, b.class)

  pub three_words : (l n : ℕ) → slice_get (merges_of code.vars) l ≡ Some (Some n) → (u v w : ℕ) → u < 2 ^ 64
      → v < 2 ^ 64 → w < 2 ^ 64
      → (ws : List ℕ) → take 3 ws ≡ u ∷ v ∷ w ∷ [] → IsArgs code n (int_word u ∷ int_word v ∷ int_word w ∷ []) ws 0
  three_words l n e u v w a b c ws is =
      let m = block_of l n e in
      record {
        body = m.body;
        is = m.is;
        kinds = sym m.three;
        words = subst (AreWords (int_word u ∷ int_word v ∷ int_word w ∷ [])) (sym is)
            ((a, refl), ((b, refl), ((c, refl), tt)));
      }

-- what is no less than each room serves each fun and merge
pub serves : (code : Code) (rooms : List ℕ) → AreRooms code rooms → (size : ℕ)
    → ((n room : ℕ) → slice_get rooms n ≡ Some room → room ≤ size) → ServesMerges code size
serves code rooms are size each n costs cost v of is =
    let room = are n v.0 v.1 in
    let need = room.enough.need v.2 costs of cost is in
    let small = each n room.room room.is in
    omega (arith, need, small)

-- the area has what the block needs
pub has_room : (code : Code) → first_fault code ≡ None → (n size : ℕ) → IsOfValue code n → ServesMerges code size
    → HasRoom code n 0 size
has_room code ok n size v serve =
    let costs = no_fault_costs code ok in
    let is = costs.1.each n v.0 v.1 in
    let need = serve n costs.0 _ v costs.1 is in
    record { costs = costs.0; are = costs.1; cost = _; is = is; room = omega (arith, need) }

-- ---- values

fault_back : (f : NumFault) → fault_of (cause_of f) ≡ f
fault_back fault.Overflow = refl
fault_back fault.ZeroDivisor = refl

word_small : (w : ℕ) → w < 2 ^ 64 → word_of (int_of w) ≡ w
word_small w h = by (nat_lt w (2 ^ 63)) refl
  where
    by : (d : Bool) → nat_lt w (2 ^ 63) ≡ d → word_of (if d then pos w else negsuc (2 ^ 64 - 1 - w)) ≡ w
    by true e = refl
    by false e = omega (arith, h)

word_is : (x : Word ℕ) (w : ℕ) → IsWord x w → word_for x ≡ w
word_is (int z) w h = ap word_of h.1 ∙ word_small w h.0
word_is (bool b) w h = sym h
word_is (rev r) w h = sym h

-- the answer of an evaluation is the word or the fault of the value
pub answer_is : (o : Option (Result (Word ℕ) Cause)) (r : Result ℕ NumFault) → IsValue o r
    → r ≡ word_or_fault (joining.word_or_fault o)
answer_is None r h = absurd h
answer_is (Some (Ok x)) (Ok w) h = ap Ok (sym (word_is x w h))
answer_is (Some (Ok x)) (Err f) h = absurd h
answer_is (Some (Err e)) (Ok w) h = absurd h
answer_is (Some (Err e)) (Err f) h = ap Err (sym (ap fault_of h ∙ fault_back f))

-- ---- the law

int_is : (x : Word ℕ) (u : ℕ) → kind_of x ≡ k.Int → IsWord x u → x ≡ int_word u
int_is (int z) u e h = ap int h.1
int_is (bool b) u e h = absurd (let c : k.Bool ≡ k.Int = e in cc)
int_is (rev r) u e h = absurd (let c : k.Rev ≡ k.Int = e in cc)

stands : (r : Result (Word ℕ) NumFault) → Fits r → IsMerged r (word_or_fault r)
stands (Ok (int z)) h = (numbers.word_small z h, numbers.word_back z h)
stands (Ok (bool b)) h = refl
stands (Ok (rev r)) h = refl
stands (Err f) h = refl

pub blocks_give : BlocksGiveTheMerges
blocks_give g ok numbers l kind there x y z u v w a b c = by (slice_get (merges_of g.code.vars) l) refl
  where
    by : (o : Option (Option ℕ)) → slice_get (merges_of g.code.vars) l ≡ o
        → IsMerged (merged_there (values g.code) o x y z) (merged_words g.code o u v w)
    by None e = b.word
    by (Some None) e = b.word
    by (Some (Some n)) e =
        let int' = int_there g.code (no_fault_accepted g.code ok) l n kind e there in
        let p = int_is x u (a.of_kind ∙ int') a.word in
        let q = int_is y v (b.of_kind ∙ int') b.word in
        let r = int_is z w (c.of_kind ∙ int') c.word in
        let m = merged_by (values g.code) (Some n) (int_word u) (int_word v) (int_word w) in
        subst (λ s. IsMerged s (word_or_fault m))
        (λ j. merged_by (values g.code) (Some n) (sym p j) (sym q j) (sym r j))
        (stands m (merge_fits g.code numbers n (int_word u) (int_word v) (int_word w)
        (subst IsShort p (short_word x u a.word)) (subst IsShort q (short_word y v b.word))
        (subst IsShort r (short_word z w c.word))))

-- of code that is this one
pub given_for : (code : Code) → first_fault code ≡ None → HasShortNumbers code → (g : CodeRun) → g.code ≡ code
    → AreMergesOf g (word_merges code)
given_for code ok numbers g e =
    subst (λ c. AreMergesOf g (word_merges c)) e
    (blocks_give g (ap first_fault e ∙ ok) (subst HasShortNumbers (sym e) numbers))

-- ---- the table of merge blocks

pub replicate_more : {A : Type 0} (n : ℕ) (x : A) → replicate (n + 1) x ≡ replicate n x ++ x ∷ []
replicate_more n x = (let e : n + 1 ≡ suc n = omega arith in ap (λ m. replicate m x) e) ∙ by n
  where
    by : (m : ℕ) → replicate (suc m) x ≡ replicate m x ++ x ∷ []
    by zero = refl
    by (suc m) = ap (λ ys. x ∷ ys) (by m)

-- ---- the three words

pub put_three_is : (ws : List ℕ) (u v w : ℕ) → 3 ≤ length ws → take 3 (set (set (set ws 0 u) 1 v) 2 w) ≡ u ∷ v ∷ w ∷ []
put_three_is [] u v w h = absurd (omega (arith, h))
put_three_is (a ∷ []) u v w h = absurd (omega (arith, h))
put_three_is (a ∷ b ∷ []) u v w h = absurd (omega (arith, h))
put_three_is (a ∷ b ∷ c ∷ ws) u v w h = refl

-- ---- how many

cells_length : (n : ℕ) (x : Option ℕ) (xs : List (Option ℕ)) → length (replicate n x ++ xs) ≡ n + length xs
cells_length zero x xs = omega arith
cells_length (suc n) x xs = let r = cells_length n x xs in omega (arith, r)

pub merges_many : (vs : List CodeVar) → length (merges_of vs) ≡ count vs
merges_many [] = refl
merges_many (v ∷ vs) = cells_length v.cells (merge_in v) (merges_of vs) ∙ (let r = merges_many vs in omega (arith, r))
