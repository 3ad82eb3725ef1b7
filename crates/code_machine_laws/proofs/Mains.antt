-- Verified code has one main block: the last.
use Rattle.std.proofs.Common.{◌≡◌, refl, subst, ap, ℕ, zero, suc, List, [], ◌∷◌, true}
use Rattle.std.specs.Prelude.{◌&&◌, not, Some, None, slice_get}
use Rattle.std.specs.List.{list_all}
use Rattle.rev_code.specs.declared.code.Code.{Code}
use Rattle.rev_code.specs.declared.code.CodeBlock.{CodeBlock}
use Rattle.code_rules.specs.Tables.{blocks_well, ends_in_main, is_block, is_main, is_var, lines_well}
use Rattle.code_rules.specs.Verdict.{first_fault}
use Rattle.code_machine.proofs.Acts.{and_parts}
use Rattle.code_machine.proofs.Legs.{no_fault_accepted}
use Rattle.code_machine.specs.Local.{CodeRun, IsVerified}
use Rattle.code_machine.specs.Machines.{IsMain}

pub ends_so : (code : Code) → first_fault code ≡ None → ends_in_main code.blocks ≡ true
ends_so code ok =
    let a = no_fault_accepted code ok in
    let p = and_parts (blocks_well code && list_all (is_var code) code.vars) (lines_well code) a.named in
    let q = and_parts (blocks_well code) (list_all (is_var code) code.vars) p.0 in
    (and_parts (ends_in_main code.blocks) (list_all is_block code.blocks) q.0).0

-- a main block of these
pub record IsMainOf (bs : List CodeBlock) (n : ℕ) : Type 0 where
  pub body : CodeBlock
  pub is : slice_get bs n ≡ Some body
  pub class : is_main body.class ≡ true

some_main : (bs : List CodeBlock) → ends_in_main bs ≡ true → (n : ℕ) × IsMainOf bs n
some_main [] h = cc
some_main (b ∷ []) h = (0, record { body = b; is = refl; class = h })
some_main (b ∷ c ∷ bs) h =
    let rest = some_main (c ∷ bs) (and_parts _ (ends_in_main (c ∷ bs)) h).1 in
    (suc rest.0, record { body = rest.1.body; is = rest.1.is; class = rest.1.class })

-- a block that is followed by others is none
first_is_none : (b : CodeBlock) (rest : List CodeBlock) → not (is_main b.class) ≡ true → IsMainOf (b ∷ rest) 0 → ⊥
first_is_none b rest other m =
    let e : Some b ≡ Some m.body = m.is in
    let same : b ≡ m.body = cc in
    let is = m.class in
    let n : not (is_main m.body.class) ≡ true = subst (λ (x : CodeBlock). not (is_main x.class) ≡ true) same other in
    cc

-- the last of all
one_main : (bs : List CodeBlock) → ends_in_main bs ≡ true → (n k : ℕ) → IsMainOf bs n → IsMainOf bs k → n ≡ k
one_main [] h n k m l = cc
one_main (b ∷ []) h zero zero m l = refl
one_main (b ∷ []) h zero (suc k) m l = let e = l.is in cc
one_main (b ∷ []) h (suc n) k m l = let e = m.is in cc
one_main (b ∷ c ∷ bs) h zero k m l = absurd (first_is_none b (c ∷ bs) (and_parts _ (ends_in_main (c ∷ bs)) h).0 m)
one_main (b ∷ c ∷ bs) h (suc n) zero m l = absurd (first_is_none b (c ∷ bs) (and_parts _ (ends_in_main (c ∷ bs)) h).0 l)
one_main (b ∷ c ∷ bs) h (suc n) (suc k) m l =
    ap suc (one_main (c ∷ bs) (and_parts _ (ends_in_main (c ∷ bs)) h).1 n k
    (record { body = m.body; is = m.is; class = m.class }) (record { body = l.body; is = l.is; class = l.class }))

module _ (g : CodeRun) (ok : IsVerified g) where
  pub has_main : (n : ℕ) × IsMain g n
  has_main = let m = some_main g.code.blocks (ends_so g.code ok) in
      (m.0, record { body = m.1.body; is = m.1.is; class = m.1.class })

  pub main_is_one : (n k : ℕ) → IsMain g n → IsMain g k → n ≡ k
  main_is_one n k m l =
      one_main g.code.blocks (ends_so g.code ok) n k
      (record { body = m.body; is = m.is; class = m.class }) (record { body = l.body; is = l.is; class = l.class })
