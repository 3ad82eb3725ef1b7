-- At each place of a block the stack, and what the fun that is applied there needs, are within what the block needs.
use Rattle.std.proofs.Common.{◌≡◌, ℕ, zero, suc, ◌+◌, ◌≤◌, Bool, true, false, ◌&&◌, List, [], ◌∷◌, length, take, Option, Some, None, refl, ap, arith}
use Rattle.std.specs.Prelude.{slice_get, if◌then◌else◌}
use Rattle.rev_code.specs.declared.code.Code.{Code}
use Rattle.rev_code.specs.declared.code.CodeBlock.{CodeBlock}
use Rattle.rev_code.specs.declared.code.Instr.{Instr}
use Rattle.code_rules.specs.declared.Cost.{Cost}
use Rattle.code_rules.specs.Shapes.{same_shape}
use Rattle.code_rules.specs.Pass.{Note, Passed, after, applied, arrival, before, fallen, falls, gone, greatest_depth, greatest_need, joined, jumped, known, leads_to, meet, passed, target}
use Rattle.code_soundness.specs.Certificate.{note_at}
use Rattle.code_soundness.proofs.Basics.{some_eq, none_some}

-- ---- what is known on arrival is no deeper than what an instruction before has left

module _ (code : Code) (b : CodeBlock) where
  abbrev Low : ℕ → Option Note → Type 0
  Low depth None = Unit {0}
  Low depth (Some m) = length m.shape ≤ depth

  fallen_low : (done : List Passed) → Low (greatest_depth code b done) (fallen code b done)
  fallen_low [] = tt
  fallen_low (p ∷ done) = by (falls p.instr)
    where
      by : (d : Bool) → Low (greatest_depth code b (p ∷ done)) (if d then Some (after code b p) else None)
      by true = omega arith
      by false = tt

  low_up : (depth more : ℕ) (o : Option Note) → depth ≤ more → Low depth o → Low more o
  low_up depth more None le h = tt
  low_up depth more (Some m) le h = omega (arith, le, h)

  joined_shape : (o : Option Note) (m : Note) → (joined o m).shape ≡ m.shape
  joined_shape None m = refl
  joined_shape (Some q) m = refl

  jumped_low : (to : ℕ) (done : List Passed) → Low (greatest_depth code b done) (jumped code b to done)
  jumped_low to [] = tt
  jumped_low to (p ∷ done) = by (leads_to to (target p.instr)) (jumped_low to done)
    where
      by : (d : Bool) → Low (greatest_depth code b done) (jumped code b to done)
          → Low (greatest_depth code b (p ∷ done))
          (if d then Some (joined (jumped code b to done) (after code b p)) else jumped code b to done)
      by true h = (let z :
          length (joined (jumped code b to done) (after code b p)).shape ≡ length (after code b p).shape =
          ap length (joined_shape (jumped code b to done) (after code b p)) in
          omega (arith, z))
      by false h = low_up (greatest_depth code b done) (greatest_depth code b (p ∷ done)) (jumped code b to done)
          (omega arith) h

  meet_low : (depth : ℕ) (o o' : Option Note) → Low depth o → Low depth o' → length (known (meet o o')).shape ≤ depth
  meet_low depth None None h g = omega arith
  meet_low depth None (Some m) h g = g
  meet_low depth (Some m) None h g = h
  meet_low depth (Some m) (Some q) h g = by (same_shape m.shape q.shape)
    where
      both : Note
      both = record { shape = m.shape; paid = m.paid && q.paid }

      by : (d : Bool)
          → length (known (if d then Some (record { shape = m.shape; paid = m.paid && q.paid }) else None)).shape
          ≤ depth
      by true = h
      by false = omega arith

  pub arrival_low : (done : List Passed) → length (known (arrival code b done)).shape ≤ greatest_depth code b done
  arrival_low done =
      meet_low (greatest_depth code b done) (fallen code b done) (jumped code b (length done) done) (fallen_low done)
      (jumped_low (length done) done)

  -- ---- more instructions

  depth_gone : (done : List Passed) (xs : List Instr)
      → greatest_depth code b done ≤ greatest_depth code b (gone code b done xs)
  depth_gone done [] = omega arith
  depth_gone done (x ∷ xs) = let r = depth_gone (passed code b done x ∷ done) xs in omega (arith, r)

  need_gone : (costs : List Cost) (done : List Passed) (xs : List Instr)
      → greatest_need costs done ≤ greatest_need costs (gone code b done xs)
  need_gone costs done [] = omega arith
  need_gone costs done (x ∷ xs) = let r = need_gone costs (passed code b done x ∷ done) xs in omega (arith, r)

  -- the pass up to a place, and on from there
  record Split (done : List Passed) (xs : List Instr) (at : ℕ) (x : Instr) : Type 0 where
    rest : List Instr
    whole : gone code b done xs
        ≡ gone code b (passed code b (gone code b done (take at xs)) x ∷ gone code b done (take at xs)) rest

  split : (xs : List Instr) (done : List Passed) (at : ℕ) (x : Instr) → slice_get xs at ≡ Some x → Split done xs at x
  split [] done at x h = absurd (none_some h)
  split (y ∷ xs) done zero x h =
      record { rest = xs; whole = ap (λ u. gone code b (passed code b done u ∷ done) xs) (some_eq h) }
  split (y ∷ xs) done (suc at) x h =
      let r = split xs (passed code b done y ∷ done) at x h in record { rest = r.rest; whole = r.whole }

  pub place_room : (costs : List Cost) (at : ℕ) (x : Instr) → slice_get b.instrs at ≡ Some x
      → length (note_at code b at).shape + (applied costs x).need
      ≤ greatest_depth code b (gone code b [] b.instrs) + greatest_need costs (gone code b [] b.instrs)
  place_room costs at x here =
      let r = split b.instrs [] at x here in
      let a = arrival_low (before code b at) in
      let d = depth_gone (passed code b (before code b at) x ∷ before code b at) r.rest in
      let m = need_gone costs (passed code b (before code b at) x ∷ before code b at) r.rest in
      let e : greatest_depth code b (gone code b [] b.instrs)
      ≡ greatest_depth code b (gone code b (passed code b (before code b at) x ∷ before code b at) r.rest) =
      ap (greatest_depth code b) r.whole in
      let f : greatest_need costs (gone code b [] b.instrs)
      ≡ greatest_need costs (gone code b (passed code b (before code b at) x ∷ before code b at) r.rest) =
      ap (greatest_need costs) r.whole in
      omega (arith, a, d, m, e, f)
