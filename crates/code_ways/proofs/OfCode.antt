-- The first fault of code is its first fault in words.
use Rattle.std.proofs.Common.{◌≡◌, ◌∙◌, inl, inr, ℕ, zero, suc, ◌+◌, ◌-◌, ◌<◌, ◌≤◌, Bool, true, false, List, [], ◌∷◌, ◌++◌, length, take, Option, Some, None, refl, sym, ap, subst, arith, true≢false}
use Rattle.std.specs.Prelude.{slice_get, nat_lt, nat_eq, if◌then◌else◌, Result, Ok, Err, ◌↔◌}
use Rattle.std.proofs.lemmas.Bool.Decides.{nat_tests}
use Rattle.rev_code.specs.declared.code.Code.{Code}
use Rattle.rev_code.specs.declared.code.CodeBlock.{CodeBlock}
use Rattle.rev_code.specs.declared.code.Instr.{Instr}
use Rattle.code_rules.specs.declared.Cost.{Cost}
use Rattle.code_rules.specs.declared.Fault.{Fault}
use Rattle.code_rules.specs.declared.Rule.{Rule}
use Rattle.code_rules.specs.declared.Rule.TheVariants as rule
use Rattle.code_rules.specs.Pass.{is_value_class, no_cost, cost_of, block_fault, blocks_fault, fault_or, scan, before, gone, greatest_depth}
use Rattle.code_rules.specs.Tables.{names_well, is_small}
use Rattle.code_rules.specs.Verdict.{first_fault, of_tables}
use Rattle.code_soundness.proofs.Basics.{append_length, take_whole, take_front, get_last, some_eq, none_some, some_within, within_some, take_some}
use Rattle.code_soundness.proofs.Costs.{block_costs}
use Rattle.code_ways.specs.Breaks.{IsDeepest, cost_upto}
use Rattle.code_ways.specs.OfCode.{IsCost, IsFine, AreFine, AllFine, IsBlockFault, IsInstrFault, IsFirst}
use Rattle.code_ways.proofs.Depths.{cost_before, deepest}
use Rattle.code_ways.proofs.Exact.{err_eq, ok_err, finds, accepts, same_fault, known_whole}
use Rattle.rev_num.proofs.Lists.{get_append}

take_left : {A : Type 0} (xs ys : List A) (n : ℕ) → n ≤ length xs → take n (xs ++ ys) ≡ take n xs
take_left xs ys zero h = refl
take_left [] ys (suc n) h = absurd (omega (arith, h))
take_left (x ∷ xs) ys (suc n) h = ap (λ z. x ∷ z) (take_left xs ys n (omega (arith, h)))

-- ---- one block

module _ (code : Code) (costs : List Cost) (n : ℕ) (b : CodeBlock) where
  some_instrs : (c : Cost) → block_fault code costs n b ≡ Ok c → 0 < length b.instrs
  some_instrs c h = by (nat_eq (length b.instrs) 0) refl h
    where
      by : (d : Bool) → nat_eq (length b.instrs) 0 ≡ d
          → (if d then Err (0, rule.FallsOff) else scan code costs n b [] b.instrs) ≡ Ok c → 0 < length b.instrs
      by true e g = absurd (ok_err (Err (0, rule.FallsOff)) c (0, rule.FallsOff) g refl)
      by false e g = grind (arith, nat_tests, e)

  last_is : (m : ℕ) → length b.instrs ≡ suc m → length b.instrs - 1 ≡ m
  last_is m h = omega (arith, h)

  cost_is : (c : Cost) → block_fault code costs n b ≡ Ok c → (m : ℕ) → length b.instrs ≡ suc m
      → IsCost (is_value_class b.class) code costs b c
  cost_is c h m e = by (is_value_class b.class) (block_costs code costs n b c h)
    where
      whole : gone code b [] b.instrs ≡ before code b (suc m)
      whole = ap (gone code b []) (sym (take_whole b.instrs (length b.instrs) refl) ∙ ap (λ l. take l b.instrs) e)

      le : suc m ≤ length b.instrs
      le = omega (arith, e)

      x : (y : Instr) × (slice_get b.instrs m ≡ Some y)
      x = within_some b.instrs m (let l = le in omega (arith, l))

      by : (d : Bool) → c ≡ (if d then cost_of code costs b (gone code b [] b.instrs) else no_cost)
          → IsCost d code costs b c
      by false g = g
      by true g =
          subst (λ l. (depth : ℕ) × IsDeepest code b l depth × (c ≡ cost_upto costs b l depth)) (sym (last_is m e)) (
            greatest_depth code b (before code b (suc m)),
            deepest code costs n b m x.0 x.1 le (known_whole code costs n b c h (suc m) le),
            g ∙ ap (cost_of code costs b) whole ∙ cost_before code costs b m le,
          )

  pub block_fine : (c : Cost) → block_fault code costs n b ≡ Ok c → IsFine code costs n b c
  block_fine c h =
      let s = some_instrs c h in
      record {
        some = s;
        keeps = accepts code costs n b s c h;
        cost = cost_is c h (length b.instrs - 1) (omega (arith, s));
      }

  pub block_at_fault : (at : ℕ) (r : Rule) → block_fault code costs n b ≡ Err (at, r) → IsBlockFault code costs n b at r
  block_at_fault at r h = by (nat_eq (length b.instrs) 0) refl h
    where
      by : (d : Bool) → nat_eq (length b.instrs) 0 ≡ d
          → (if d then Err (0, rule.FallsOff) else scan code costs n b [] b.instrs) ≡ Err (at, r)
          → IsBlockFault code costs n b at r
      by true e g =
          let z = err_eq (Err (0, rule.FallsOff)) (0, rule.FallsOff) (at, r) refl g in
          inl (grind (arith, nat_tests, e), ap (λ u. u.0) (sym z), ap (λ u. u.1) (sym z))
      by false e g = inr (finds code costs n b (grind (arith, nat_tests, e)) at r h)

  -- a block costs one thing
  pub cost_unique : (c c' : Cost) → IsFine code costs n b c → IsFine code costs n b c' → c ≡ c'
  cost_unique c c' f g = by (is_value_class b.class) f.cost g.cost
    where
      by : (d : Bool) → IsCost d code costs b c → IsCost d code costs b c' → c ≡ c'
      by false p q = p ∙ sym q
      by true p q =
          let l = p.1.most q.0 q.1.some in
          let m = q.1.most p.0 p.1.some in
          let z : p.0 ≡ q.0 = omega (arith, l, m) in
          p.2 ∙ ap (cost_upto costs b (length b.instrs - 1)) z ∙ sym q.2

  pub fault_unique : (at at' : ℕ) (r r' : Rule) → IsBlockFault code costs n b at r → IsBlockFault code costs n b at' r'
      → (at ≡ at') × (r ≡ r')
  fault_unique at at' r r' (inl p) (inl q) = (p.1 ∙ sym q.1, p.2 ∙ sym q.2)
  fault_unique at at' r r' (inl p) (inr g) =
      absurd (let i = some_within b.instrs at' g.instr g.is in let e = p.0 in omega (arith, i, e))
  fault_unique at at' r r' (inr f) (inl q) =
      absurd (let i = some_within b.instrs at f.instr f.is in let e = q.0 in omega (arith, i, e))
  fault_unique at at' r r' (inr f) (inr g) =
      same_fault code costs n b (let i = some_within b.instrs at f.instr f.is in omega (arith, i)) at at' r r' f g

  pub fine_or_fault : (c : Cost) (at : ℕ) (r : Rule) → IsFine code costs n b c → IsBlockFault code costs n b at r → ⊥
  fine_or_fault c at r f (inl q) = (let s = f.some in let e = q.0 in omega (arith, s, e))
  fine_or_fault c at r f (inr g) = f.keeps at g.instr g.is r g.breaks.breaks

-- ---- all blocks

module _ (code : Code) where
  abbrev Outcome : Option Fault → Type 0
  Outcome None = AllFine code
  Outcome (Some f) = IsInstrFault code f

  one_more : (costs : List Cost) (n : ℕ) (b : CodeBlock) (c : Cost) → length costs ≡ n
      → slice_get code.blocks n ≡ Some b → AreFine code costs → IsFine code costs n b c → AreFine code (costs ++ c ∷ [])
  one_more costs n b c len is fine new j b' c' is_b is_c = by (nat_lt j n) refl
    where
      by : (d : Bool) → nat_lt j n ≡ d → IsFine code (take j (costs ++ c ∷ [])) j b' c'
      by true e =
          let less : j < n = grind (arith, nat_tests, e) in
          subst (λ l. IsFine code l j b' c') (sym (take_left costs (c ∷ []) j (omega (arith, less, len))))
          (fine j b' c' is_b (sym (get_append costs (c ∷ []) j (omega (arith, less, len))) ∙ is_c))
      by false e =
          let i = some_within (costs ++ c ∷ []) j c' is_c in
          let l = append_length costs (c ∷ []) in
          let z : j ≡ n = grind (arith, nat_tests, e, i, l, len) in
          let y : b ≡ b' = some_eq (sym is ∙ ap (slice_get code.blocks) (sym z) ∙ is_b) in
          let w : c ≡ c' = some_eq (sym (get_last costs c j (len ∙ sym z)) ∙ is_c) in
          subst (λ u. IsFine code (take j (costs ++ c ∷ [])) j u c') y
          (subst (λ u. IsFine code (take j (costs ++ c ∷ [])) j b u) w
          (subst (λ l. IsFine code l j b c) (sym (take_front costs (c ∷ []) j (len ∙ sym z)))
          (subst (λ m. IsFine code costs m b c) (sym z) new)))

  walk : (bs : List CodeBlock) (costs : List Cost) (n : ℕ) → length costs ≡ n
      → ((j : ℕ) (b : CodeBlock) → slice_get bs j ≡ Some b → slice_get code.blocks (n + j) ≡ Some b)
      → n + length bs ≡ length code.blocks → AreFine code costs → Outcome (blocks_fault code costs n bs)
  walk [] costs n len rest all fine = record { costs = costs; all = omega (arith, len, all); fine = fine }
  walk (b ∷ bs) costs n len rest all fine =
      by (block_fault code costs n b) refl (λ c. walk bs (costs ++ c ∷ []) (suc n))
    where
      is : slice_get code.blocks n ≡ Some b
      is = (let z : n ≡ n + 0 = omega arith in ap (slice_get code.blocks) z ∙ rest 0 b refl)

      by : (o : Result Cost (ℕ × Rule)) → block_fault code costs n b ≡ o
          → ((c : Cost) → length (costs ++ c ∷ []) ≡ suc n
          → ((j : ℕ) (u : CodeBlock) → slice_get bs j ≡ Some u → slice_get code.blocks (suc n + j) ≡ Some u)
          → suc n + length bs ≡ length code.blocks → AreFine code (costs ++ c ∷ [])
          → Outcome (blocks_fault code (costs ++ c ∷ []) (suc n) bs))
          → Outcome (fault_or n o (λ cost. blocks_fault code (costs ++ cost ∷ []) (suc n) bs))
      by (Err q) e more = record {
        costs = costs;
        behind = len;
        fine = fine;
        body = b;
        is = is;
        fault = block_at_fault code costs n b q.0 q.1 e;
      }
      by (Ok c) e more =
          more c (let l = append_length costs (c ∷ []) in omega (arith, l, len))
          (λ j u h. (let z : suc n + j ≡ n + suc j = omega arith in ap (slice_get code.blocks) z ∙ rest (suc j) u h))
          (omega (arith, all))
          (one_more costs n b c len is fine (block_fine code costs n b c e))

  outcome : Outcome (blocks_fault code [] 0 code.blocks)
  outcome = walk code.blocks [] 0 refl (λ j b h. (let z : 0 + j ≡ j = omega arith in ap (slice_get code.blocks) z ∙ h))
      (omega arith) (λ j b c is_b is_c. absurd (none_some is_c))

  -- the same blocks cost the same
  agree : (costs costs' : List Cost) → AreFine code costs → AreFine code costs' → (m : ℕ) → m ≤ length costs
      → m ≤ length costs' → m ≤ length code.blocks → take m costs ≡ take m costs'
  agree costs costs' f g zero le le' within = refl
  agree costs costs' f g (suc m) le le' within =
      let b = within_some code.blocks m (omega (arith, within)) in
      let c = within_some costs m (omega (arith, le)) in
      let c' = within_some costs' m (omega (arith, le')) in
      let r = agree costs costs' f g m (omega (arith, le)) (omega (arith, le')) (omega (arith, within)) in
      let z : c.0 ≡ c'.0 =
      cost_unique code (take m costs') m b.0 c.0 c'.0 (subst (λ l. IsFine code l m b.0 c.0) r (f m b.0 c.0 b.1 c.1))
      (g m b.0 c'.0 b.1 c'.1) in
      take_some costs m c.0 c.1 ∙ (λ j. r j ++ z j ∷ []) ∙ sym (take_some costs' m c'.0 c'.1)

  module _ (f : Fault) (h : IsInstrFault code f) where
    in_code : f.block < length code.blocks
    in_code = some_within code.blocks f.block h.body h.is

    -- the costs of the blocks before the fault
    pub same_costs : (costs' : List Cost) → AreFine code costs' → f.block ≤ length costs'
        → take f.block costs' ≡ h.costs
    same_costs costs' g le =
        let i = in_code in
        let e = h.behind in
        agree costs' h.costs g h.fine f.block le (omega (arith, e)) (omega (arith, i))
        ∙ ap (λ m. take m h.costs) (sym e) ∙ take_whole h.costs (length h.costs) refl

    pub not_fine : (costs' : List Cost) → AreFine code costs' → f.block < length costs' → ⊥
    not_fine costs' g less =
        let c = within_some costs' f.block less in
        fine_or_fault code h.costs f.block h.body c.0 f.at f.rule
        (subst (λ l. IsFine code l f.block h.body c.0) (same_costs costs' g (omega (arith, less)))
        (g f.block h.body c.0 h.is c.1))
        h.fault

  same_first : (f g : Fault) → IsInstrFault code f → IsInstrFault code g → f ≡ g
  same_first f g p q = by (nat_lt f.block g.block) refl (nat_lt g.block f.block) refl
    where
      by : (d : Bool) → nat_lt f.block g.block ≡ d → (e : Bool) → nat_lt g.block f.block ≡ e → f ≡ g
      by true d e z = absurd (let l = q.behind in not_fine f p q.costs q.fine (grind (arith, nat_tests, d, l)))
      by false d true z = absurd (let l = p.behind in not_fine g q p.costs p.fine (grind (arith, nat_tests, z, l)))
      by false d false z =
          let w : f.block ≡ g.block = grind (arith, nat_tests, d, z) in
          let lq = q.behind in
          let c : q.costs ≡ p.costs =
          sym (take_whole q.costs (length q.costs) refl) ∙ ap (λ m. take m q.costs) (lq ∙ sym w)
          ∙ same_costs f p q.costs q.fine (omega (arith, lq, w)) in
          let y : q.body ≡ p.body = some_eq (sym q.is ∙ ap (slice_get code.blocks) (sym w) ∙ p.is) in
          let t : IsBlockFault code p.costs f.block p.body g.at g.rule =
          subst (λ l. IsBlockFault code l f.block p.body g.at g.rule) c
          (subst (λ u. IsBlockFault code q.costs f.block u g.at g.rule) y
          (subst (λ m. IsBlockFault code q.costs m q.body g.at g.rule) (sym w) q.fault)) in
          let s = fault_unique code p.costs f.block p.body f.at g.at f.rule g.rule p.fault t in
          λ j. record { block = w j; at = s.0 j; rule = s.1 j }

  pub first_is : (f : Fault) → (first_fault code ≡ Some f) ↔ IsFirst (names_well code) (is_small code) code f
  first_is f = by (names_well code) (is_small code)
    where
      back : (o : Option Fault) → Outcome o → IsInstrFault code f → o ≡ Some f
      back None w h = absurd (let i = in_code f h in let l = w.all in not_fine f h w.costs w.fine (omega (arith, i, l)))
      back (Some g) w h = ap Some (same_first g f w h)

      by : (d e : Bool)
          → ((if d then (if e then blocks_fault code [] 0 code.blocks else Some (of_tables rule.LimitOf))
          else Some (of_tables rule.BadOperand))
          ≡ Some f)
          ↔ IsFirst d e code f
      by false e = (λ h. sym (some_eq h), λ h. ap Some (sym h))
      by true false = (λ h. sym (some_eq h), λ h. ap Some (sym h))
      by true true = (λ h. subst Outcome h outcome, back (blocks_fault code [] 0 code.blocks) outcome)

  pub none_is : (first_fault code ≡ None) ↔ ((names_well code ≡ true) × (is_small code ≡ true) × AllFine code)
  none_is = by (names_well code) (is_small code)
    where
      back : (o : Option Fault) → Outcome o → AllFine code → o ≡ None
      back None w h = refl
      back (Some g) w h =
          absurd (let i = in_code g w in let l = h.all in not_fine g w h.costs h.fine (omega (arith, i, l)))

      by : (d e : Bool)
          → ((if d then (if e then blocks_fault code [] 0 code.blocks else Some (of_tables rule.LimitOf))
          else Some (of_tables rule.BadOperand))
          ≡ None)
          ↔ ((d ≡ true) × (e ≡ true) × AllFine code)
      by false e = (λ h. absurd (none_some (sym h)), λ h. absurd (true≢false (sym h.0)))
      by true false = (λ h. absurd (none_some (sym h)), λ h. absurd (true≢false (sym h.1)))
      by true true =
          (λ h. (refl, refl, subst Outcome h outcome), λ h. back (blocks_fault code [] 0 code.blocks) outcome h.2)
