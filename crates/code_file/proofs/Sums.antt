-- Sums from a place on.
use Rattle.std.proofs.Common.{◌≡◌, ◌∙◌, ℕ, zero, suc, min, ◌+◌, ◌<◌, ◌≤◌, List, [], ◌∷◌, length, drop, refl, sym, ap, arith, get_or}
use Rattle.std.proofs.lemmas.List.Sums.{sum-map, sum_by-drop_more}
use Rattle.rev_code.specs.declared.code.CodeBlock.{CodeBlock}
use Rattle.rev_code.specs.declared.code.CodeVar.{CodeVar}
use Rattle.rev_code.specs.declared.code.Instr.{Instr}
use Rattle.code_rules.specs.Tables.{locations}
use Rattle.code_file.specs.Parts.{try_count, tries_in, tries}

pub locations_more : (xs : List CodeVar) (n : ℕ) (d : CodeVar) → n < length xs
    → locations (drop n xs) ≡ (get_or xs n d).cells + locations (drop (n + 1) xs)
locations_more xs n d h =
    sum-map (λ (x : CodeVar). x.cells) (drop n xs)
    ∙ sum_by-drop_more (λ (x : CodeVar). x.cells) xs n d h
    ∙ ap (λ k. (get_or xs n d).cells + k) (sym (sum-map (λ (x : CodeVar). x.cells) (drop (n + 1) xs)))

pub tries_in_more : (xs : List Instr) (n : ℕ) (d : Instr) → n < length xs
    → tries_in (drop n xs) ≡ try_count (get_or xs n d) + tries_in (drop (n + 1) xs)
tries_in_more xs n d h = sum_by-drop_more try_count xs n d h

pub tries_more : (xs : List CodeBlock) (n : ℕ) (d : CodeBlock) → n < length xs
    → tries (drop n xs) ≡ tries_in (get_or xs n d).instrs + tries (drop (n + 1) xs)
tries_more xs n d h = sum_by-drop_more (λ (b : CodeBlock). tries_in b.instrs) xs n d h

pub past : {A : Type 0} (xs : List A) (n : ℕ) → length xs ≤ n → drop n xs ≡ []
past [] zero h = refl
past [] (suc n) h = refl
past (x ∷ xs) zero h = absurd (omega (arith, h))
past (x ∷ xs) (suc n) h = past xs n (omega (arith, h))

-- at the end what was counted is all
pub locations_end : (total : ℕ) (xs : List CodeVar) (n : ℕ) → length xs ≤ n → total ≤ 18446744073709551615 →
    min (total + locations (drop n xs)) 18446744073709551615 ≡ min (locations xs) 18446744073709551615
    → total ≡ min (locations xs) 18446744073709551615
locations_end total xs n h fits e =
    let z : locations (drop n xs) ≡ 0 = ap locations (past xs n h) in
    omega arith

pub tries_in_end : (total : ℕ) (xs : List Instr) (n : ℕ) → length xs ≤ n → total ≤ 18446744073709551615 →
    min (total + tries_in (drop n xs)) 18446744073709551615 ≡ min (tries_in xs) 18446744073709551615
    → total ≡ min (tries_in xs) 18446744073709551615
tries_in_end total xs n h fits e =
    let z : tries_in (drop n xs) ≡ 0 = ap tries_in (past xs n h) in
    omega arith

pub tries_end : (total : ℕ) (xs : List CodeBlock) (n : ℕ) → length xs ≤ n → total ≤ 18446744073709551615 →
    min (total + tries (drop n xs)) 18446744073709551615 ≡ min (tries xs) 18446744073709551615
    → total ≡ min (tries xs) 18446744073709551615
tries_end total xs n h fits e =
    let z : tries (drop n xs) ≡ 0 = ap tries (past xs n h) in
    omega arith
