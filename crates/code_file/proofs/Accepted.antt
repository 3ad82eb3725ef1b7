-- The limits of the verifier are within the counts of a file.
use Rattle.std.proofs.Common.{◌≡◌, ℕ, zero, suc, ◌<◌, ◌≤◌, Bool, true, false, List, [], ◌∷◌, length, All, Option, Some, None, refl, arith}
use Rattle.std.specs.Prelude.{nat_le, if◌then◌else◌}
use Rattle.std.specs.List.{list_all}
use Rattle.std.proofs.lemmas.Bool.Decides.{nat_tests}
use Rattle.rev_code.specs.declared.code.CodeBlock.{CodeBlock}
use Rattle.code_rules.specs.declared.Fault.{Fault}
use Rattle.code_rules.specs.Pass.{blocks_fault}
use Rattle.code_rules.specs.Tables as tables
use Rattle.code_rules.proofs.Limits.{small_block, small_parts}
use Rattle.code_file.specs.Counts.{HasShortName, IsShort, IsShortBlock, IsShortLayout}
use Rattle.code_file.specs.Laws.{AcceptedIsCounted}
use Rattle.rev_num.proofs.Lists.{and_left, and_right}

pub each : {A : Type 0} (f : A → Bool) (P : A → Type 0) → ((x : A) → f x ≡ true → P x) → (xs : List A)
    → list_all f xs ≡ true → All P xs
each f P to [] h k d lt = absurd (omega arith)
each f P to (x ∷ xs) h zero d lt = to x (and_left (f x) (list_all f xs) h)
each f P to (x ∷ xs) h (suc k) d lt = each f P to xs (and_right (f x) (list_all f xs) h) k d (omega arith)

under : {n : ℕ} (m k : ℕ) → n ≤ m → m < k → n < k
under m k h lt = omega arith

short_block : (b : CodeBlock) → tables.is_small_block b ≡ true → IsShortBlock b
short_block b h =
    let s = small_block b h in
    record { locals = under 64 256 s.0 (omega arith); instrs = under 4294967295 4294967296 s.1 (omega arith) }

below : (n m k : ℕ) → nat_le n m ≡ true → m < k → n < k
below n m k h lt = grind (arith, nat_tests)

no_fault : (a b : Bool) (o : Option Fault) (f g : Fault) → (if a then (if b then o else Some f) else Some g) ≡ None
    → b ≡ true
no_fault true true o f g e = refl
no_fault true false o f g e = absurd (cc)
no_fault false b o f g e = absurd (cc)

pub accepted : AcceptedIsCounted
accepted code none few =
    let h = no_fault (tables.names_well code) (tables.is_small code) (blocks_fault code [] 0 code.blocks) _ _ none in
    let s = small_parts code h in
    record {
      vars = under 65535 65536 s.vars (omega arith);
      names = each tables.has_small_name HasShortName
          (λ v p. below (length v.name) 4294967295 4294967296 p (omega arith)) code.vars s.names;
      locations = under 4096 4294967296 s.locations (omega arith);
      texts = under 4294967295 4294967296 s.texts (omega arith);
      each_text = each tables.is_small_text IsShort (λ t p. below (length t) 4294967295 4294967296 p (omega arith))
          code.texts s.each_text;
      layouts = under 4294967295 4294967296 s.layouts (omega arith);
      each_layout =
          each tables.is_small_layout IsShortLayout (λ l p. below (length l) 64 256 p (omega arith)) code.layouts
          s.each_layout;
      blocks = under 65535 65536 s.blocks (omega arith);
      each_block = each tables.is_small_block IsShortBlock short_block code.blocks s.each_block;
      tries = few;
    }
