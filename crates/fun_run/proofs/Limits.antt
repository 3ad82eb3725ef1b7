-- What verified code needs at most is room enough.
use Rattle.std.proofs.Common.{◌≡◌, ◌∙◌, ℕ, zero, suc, ◌+◌, ◌<◌, ◌≤◌, Bool, true, false, List, [], ◌∷◌, ◌++◌, length, take, Option, Some, None, refl, sym, ap, subst, arith, true≢false}
use Rattle.std.specs.Prelude.{slice_get, slice_index_or, max, min, nat_lt, if◌then◌else◌}
use Rattle.std.proofs.Math.Nat.{le-min, min-le_right}
use Rattle.std.proofs.lemmas.List.{length-take}
use Rattle.std.proofs.lemmas.Option.{get_or_from_slice_get, slice_get_past}
use Rattle.std.proofs.lemmas.Bool.Decides.{nat_tests}
use Rattle.rev_code.specs.declared.code.Code.{Code}
use Rattle.rev_code.specs.declared.code.CodeBlock.{CodeBlock}
use Rattle.rev_code.specs.declared.code.Instr.{Instr}
use Rattle.rev_code.specs.declared.code.Instr.TheVariants as i
use Rattle.code_rules.specs.declared.Cost.{Cost}
use Rattle.code_rules.specs.Tables as rules
use Rattle.code_rules.proofs.Limits.{small_block, small_parts}
use Rattle.code_rules.specs.Pass.{Passed, applied, before, block_cost, cost_at, cost_of, gone, greatest_depth, greatest_need, is_value_class, no_cost, passed}
use Rattle.code_rules.specs.Shapes.{shape_after}
use Rattle.code_rules.specs.Verdict.{first_fault}
use Rattle.code_soundness.specs.Certificate.{note_at}
use Rattle.code_soundness.proofs.Basics.{append_length, before_next, some_eq, some_within, within_some}
use Rattle.code_soundness.specs.AcceptedCode.{AreCosts, IsAccepted, all_passed, notes_in, notes_of}
use Rattle.code_soundness.proofs.Accepting.{no_fault_accepted, no_fault_costs}
use Rattle.code_soundness.proofs.Evaluating.{get_take}
use Rattle.code_soundness.proofs.Lists.{all_at, get_append_left, get_append_right}
use Rattle.code_soundness.proofs.Rooms.{place_room}
use Rattle.fun_run.specs.Rooms.{HasRoomFor, IsRoom, greatest_room, room_applied, room_of}
use Rattle.fun_run.proofs.Depths.{depth_whole, take_all}

-- ---- a table

-- the rooms of the blocks before this one serve them
abbrev pub Serve : Code → List ℕ → ℕ → Type 0
Serve code rooms n = (m : ℕ) (y : CodeBlock) → m < n → slice_get code.blocks m ≡ Some y → HasRoomFor code rooms m y

more_rooms : (code : Code) (rooms : List ℕ) (r m : ℕ) (y : CodeBlock) → HasRoomFor code rooms m y
    → HasRoomFor code (rooms ++ r ∷ []) m y
more_rooms code rooms r m y h =
    record { room = h.room; is = get_append_left rooms (r ∷ []) m h.room h.is; enough = h.enough }

last_room : (code : Code) (rooms : List ℕ) (r n m : ℕ) (b y : CodeBlock) → length rooms ≡ n → m ≡ n → b ≡ y
    → IsRoom code n b r → HasRoomFor code (rooms ++ r ∷ []) m y
last_room code rooms r n m b y many e u serves =
    let w : m ≡ length rooms + 0 = omega (arith, e, many) in
    record {
      room = r;
      is = ap (slice_get (rooms ++ r ∷ [])) w ∙ get_append_right rooms (r ∷ []) 0;
      enough = subst (λ (k : ℕ). IsRoom code k y r) (sym e) (subst (λ (v : CodeBlock). IsRoom code n v r) u serves);
    }

pub one_room : (code : Code) (rooms rooms' : List ℕ) (n r : ℕ) (b : CodeBlock) → length rooms ≡ n → Serve code rooms n
    → slice_get code.blocks n ≡ Some b
    → IsRoom code n b r → rooms' ≡ rooms ++ r ∷ [] → (length rooms' ≡ n + 1) × Serve code rooms' (n + 1)
one_room code rooms rooms' n r b many each at serves e = (
  ap length e ∙ append_length rooms (r ∷ []) ∙ ap (λ m. m + 1) many,
  λ m y h is. subst (λ xs. HasRoomFor code xs m y) (sym e) (by m y h is (nat_lt m n) refl),
)
  where
    by : (m : ℕ) (y : CodeBlock) → m < n + 1 → slice_get code.blocks m ≡ Some y → (d : Bool) → nat_lt m n ≡ d
        → HasRoomFor code (rooms ++ r ∷ []) m y
    by m y h is true d = more_rooms code rooms r m y (each m y (grind (arith, nat_tests, d)) is)
    by m y h is false d =
        let z : m ≡ n = grind (arith, nat_tests, d, h) in
        last_room code rooms r n m b y many z (some_eq (sym at ∙ ap (slice_get code.blocks) (sym z) ∙ is)) serves

-- ---- depth

no_applied : (x : Instr) → (applied [] x).need ≡ 0
no_applied (i.Apply f) = refl
no_applied _ = refl

no_need : (done : List Passed) → greatest_need [] done ≡ 0
no_need [] = refl
no_need (p ∷ done) = let r = no_need done in let a = no_applied p.instr in omega (arith, r, a)

value_room : (rooms : List ℕ) (b : CodeBlock) → is_value_class b.class ≡ true
    → room_of rooms b ≡ min (length b.locals + min (length b.instrs) 65536 + greatest_room rooms b.instrs) 65536
value_room rooms b h =
    ap (λ (d : Bool).
    if d then min (length b.locals + min (length b.instrs) 65536 + greatest_room rooms b.instrs) 65536
    else length b.locals + min (length b.instrs) 4096)
    h

program_room : (rooms : List ℕ) (b : CodeBlock) → is_value_class b.class ≡ false
    → room_of rooms b ≡ length b.locals + min (length b.instrs) 4096
program_room rooms b h =
    ap (λ (d : Bool).
    if d then min (length b.locals + min (length b.instrs) 65536 + greatest_room rooms b.instrs) 65536
    else length b.locals + min (length b.instrs) 4096)
    h

-- ---- what an instruction applies

-- the cost of a block that is neither fun nor merge
no_cost_of : (code : Code) (costs : List Cost) (y : CodeBlock) (done : List Passed) → is_value_class y.class ≡ false
    → block_cost code costs y done ≡ no_cost
no_cost_of code costs y done h = ap (λ (d : Bool). if d then cost_of code costs y done else no_cost) h

value_cost : (code : Code) (costs : List Cost) (y : CodeBlock) (done : List Passed) → is_value_class y.class ≡ true
    → block_cost code costs y done ≡ cost_of code costs y done
value_cost code costs y done h = ap (λ (d : Bool). if d then cost_of code costs y done else no_cost) h

cost_there : (costs : List Cost) (f : ℕ) (c : Cost) → slice_get costs f ≡ Some c → cost_at costs f ≡ c
cost_there costs f c e = ap (λ (o : Option Cost). elim o [ None ↦ no_cost | Some x ↦ x ]) e

none_there : (costs : List Cost) (f : ℕ) → slice_get costs f ≡ None → cost_at costs f ≡ no_cost
none_there costs f e = ap (λ (o : Option Cost). elim o [ None ↦ no_cost | Some x ↦ x ]) e

module _ (code : Code) (rooms : List ℕ) (costs : List Cost) (are : AreCosts code costs) where
  -- of a block whose room serves it
  need_of : (f : ℕ) (y : CodeBlock) → slice_get code.blocks f ≡ Some y → HasRoomFor code rooms f y
      → (block_cost code (take f costs) y (all_passed code y)).need ≤ slice_index_or rooms f 0
  need_of f y y_is h = by (is_value_class y.class) refl
    where
      room_is : slice_index_or rooms f 0 ≡ h.room
      room_is = get_or_from_slice_get rooms f h.room 0 h.is

      by : (d : Bool) → is_value_class y.class ≡ d
          → (block_cost code (take f costs) y (all_passed code y)).need ≤ slice_index_or rooms f 0
      by true v = (let q =
          h.enough.need v costs are (block_cost code (take f costs) y (all_passed code y)) (are.each f y y_is) in
          let e = room_is in
          omega (arith, q, e))
      by false v = (let q = ap (λ (c : Cost). c.need) (no_cost_of code (take f costs) y (all_passed code y) v) in
          omega (arith, q))

  module _ (n : ℕ) (b : CodeBlock) (is : slice_get code.blocks n ≡ Some b) (each : Serve code rooms n) where
    fun_need : (f : ℕ) → (cost_at (take n costs) f).need ≤ slice_index_or rooms f 0
    fun_need f = by (nat_lt f n) refl
      where
        by : (d : Bool) → nat_lt f n ≡ d → (cost_at (take n costs) f).need ≤ slice_index_or rooms f 0
        by true d =
            let lt : f < n = grind (arith, nat_tests, d) in
            let w = some_within code.blocks n b is in
            let y = within_some code.blocks f (omega (arith, lt, w)) in
            let c = cost_there (take n costs) f _ (get_take costs f n lt ∙ are.each f y.0 y.1) in
            let e = ap (λ (x : Cost). x.need) c in
            let q = need_of f y.0 y.1 (each f y.0 lt y.1) in
            omega (arith, e, q)
        by false d =
            let le : n ≤ f = grind (arith, nat_tests, d) in
            let m = length-take n costs in
            let past : length (take n costs) ≤ f = omega (arith, le, m) in
            let e = ap (λ (x : Cost). x.need) (none_there (take n costs) f (slice_get_past (take n costs) f past)) in
            omega (arith, e)

    one_need : (x : Instr) → (applied (take n costs) x).need ≤ room_applied rooms x
    one_need (i.Apply f) = fun_need f
    one_need _ = omega arith

    all_need : (done : List Passed) (xs : List Instr)
        → greatest_need (take n costs) (gone code b done xs)
        ≤ max (greatest_need (take n costs) done) (greatest_room rooms xs)
    all_need done [] = omega arith
    all_need done (x ∷ xs) =
        let r = all_need (passed code b done x ∷ done) xs in let o = one_need x in omega (arith, r, o)

    value_need : is_value_class b.class ≡ true → (cost : Cost) → slice_get costs n ≡ Some cost
        → cost.need ≤ room_of rooms b
    value_need v cost c_is =
        let same = some_eq (sym c_is ∙ are.each n b is) ∙ value_cost code (take n costs) b (all_passed code b) v in
        let e = ap (λ (c : Cost). c.need) same in
        let d = depth_whole code b in
        let g = all_need [] b.instrs in
        let most = are.need n cost c_is in
        let r = value_room rooms b v in
        let own : cost.need ≤ length b.locals + min (length b.instrs) 65536 + greatest_room rooms b.instrs =
        omega (arith, e, d, g, most) in
        let m = le-min {k = cost.need} {a =
        length b.locals + min (length b.instrs) 65536 + greatest_room rooms b.instrs} {b = 65536}
        own most in
        omega (arith, r, m)

-- ---- a block

module _ (code : Code) (ok : first_fault code ≡ None) (n : ℕ) (b : CodeBlock)
    (is : slice_get code.blocks n ≡ Some b) where
  accepted : IsAccepted code (notes_of code)
  accepted = no_fault_accepted code ok

  same_depth : (at : ℕ) → length (notes_of code n at).shape ≡ length (note_at code b at).shape
  same_depth at = ap (λ o. length (notes_in code o at).shape) is

  pub few_locals : length b.locals ≤ 64
  few_locals = (small_block b
      (all_at rules.is_small_block code.blocks n b (small_parts code accepted.small).each_block is)).0

  depth_before : is_value_class b.class ≡ false → (at : ℕ) → at ≤ length b.instrs
      → greatest_depth code b (before code b at) ≤ 4096
  depth_before program zero h = omega arith
  depth_before program (suc at) h =
      let x = within_some b.instrs at (omega (arith, h)) in
      let e = before_next code b at x.0 x.1 in
      let r = depth_before program at (omega (arith, h)) in
      let small = ((accepted.certified n b is).each at x.0 x.1).small program in
      let there : length (shape_after code b (notes_of code n at).shape x.0)
      ≡ length (shape_after code b (note_at code b at).shape x.0) =
      ap (λ o. length (shape_after code b (notes_in code o at).shape x.0)) is in
      let one : length (shape_after code b (note_at code b at).shape x.0) ≤ 4096 = omega (arith, small, there) in
      subst (λ ps. greatest_depth code b ps ≤ 4096) (sym e) (omega (arith, one, r))

  depth : is_value_class b.class ≡ false → (at : ℕ) → at < length b.instrs
      → length (notes_of code n at).shape ≤ min (length b.instrs) 4096
  depth program at h =
      let x = within_some b.instrs at h in
      let p = place_room code b [] at x.0 x.1 in
      let z = no_need (gone code b [] b.instrs) in
      let w = ap (λ xs. greatest_depth code b (gone code b [] xs)) (take_all b.instrs) in
      let d = depth_before program (length b.instrs) (omega arith) in
      let g = depth_whole code b in
      let s = same_depth at in
      le-min {k = length (notes_of code n at).shape} {a = length b.instrs} {b = 4096} (omega (arith, p, z, g, s))
      (omega (arith, p, z, w, d, s))

  module _ (rooms : List ℕ) (each : Serve code rooms n) where
    of_value : is_value_class b.class ≡ true → IsRoom code n b (room_of rooms b)
    of_value h =
        let e = value_room rooms b h in
        let l = few_locals in
        let k = no_fault_costs code ok in
        let c = k.1.each n b is in
        let need = value_need code rooms k.0 k.1 n b is each h _ c in
        let few = min-le_right (length b.locals + min (length b.instrs) 65536 + greatest_room rooms b.instrs) 65536 in
        record {
          deep = λ at inside.
              let x = within_some b.instrs at inside in
              let r = k.1.room n b _ is c h at x.0 x.1 in
              omega (arith, need, r);
          need = λ v costs are cost there. value_need code rooms costs are n b is each h cost there;
          few = omega (arith, e, few);
          frame = (let own = ap (λ (x : Cost). x.need) (value_cost code (take n k.0) b (all_passed code b) h) in
              omega (arith, need, own));
        }

    of_program : is_value_class b.class ≡ false → IsRoom code n b (room_of rooms b)
    of_program h =
        let e = program_room rooms b h in
        let l = few_locals in
        record {
          deep = λ at inside. (let d = depth h at inside in omega (arith, e, d));
          need = λ v costs are cost c. absurd (true≢false (sym v ∙ h));
          few = (let m = min-le_right (length b.instrs) 4096 in omega (arith, e, l, m));
          frame = omega (arith, e);
        }

    pub room_there : IsRoom code n b (room_of rooms b)
    room_there = by (is_value_class b.class) refl
      where
        by : (d : Bool) → is_value_class b.class ≡ d → IsRoom code n b (room_of rooms b)
        by true h = of_value h
        by false h = of_program h
