-- What was written, location by location, and places by their numbers.
use Rattle.std.proofs.Common.{◌≡◌, ◌⊎◌, inl, inr, ℕ, zero, suc, ◌+◌, ◌<◌, ◌≤◌, List, [], ◌∷◌, ◌++◌, length, drop, get_or, min, Option, Some, None, refl, sym, ap, ◌∙◌, append_assoc, arith}
use Rattle.std.proofs.lemmas.Bool.{cases_order}
use Rattle.std.proofs.lemmas.List.{append-nil, drop_all, drop_more}
use Rattle.rev_num.specs.declared.value.Value.{Value}
use Rattle.revision_calculus.specs.State.{Location}
use Rattle.trace_diagram.specs.declared.diagram.Change.{Change}
use Rattle.audit_rules.specs.Parts.{change_of, changes, place_at}

-- ---- the writes, location by location

change_more : (p : List ℕ) (m : Location) (o : Option Value) (rest : List Change)
    → change_of p m o rest ≡ change_of p m o [] ++ rest
change_more p m None rest = refl
change_more p m (Some x) rest = refl

pub changes_more : (ps : List (List ℕ)) (ms : List Location) (n : ℕ) (p : List ℕ) (m : Location) (out new : List Change)
    (whole : List Change)
    → n < length ps → n < length ms → p ≡ get_or ps n p → m ≡ get_or ms n m
    → new ≡ out ++ change_of p m m.written [] → out ++ changes (drop n ps) (drop n ms) ≡ whole
    → new ++ changes (drop (n + 1) ps) (drop (n + 1) ms) ≡ whole
changes_more ps ms n p m out new whole lp lm ip im pushed so_far =
    let rest : List Change = changes (drop (n + 1) ps) (drop (n + 1) ms) in
    let front : drop n ps ≡ p ∷ drop (n + 1) ps = drop_more ps n p lp ∙ ap (λ v. v ∷ drop (n + 1) ps) (sym ip) in
    let other : drop n ms ≡ m ∷ drop (n + 1) ms = drop_more ms n m lm ∙ ap (λ v. v ∷ drop (n + 1) ms) (sym im) in
    let split : changes (drop n ps) (drop n ms) ≡ change_of p m m.written [] ++ rest =
    (λ i. changes (front i) (other i)) ∙ change_more p m m.written rest in
    ap (λ l. l ++ rest) pushed ∙ append_assoc out (change_of p m m.written []) rest ∙ ap (λ l. out ++ l) (sym split)
    ∙ so_far

pub changes_all : (ps : List (List ℕ)) (ms : List Location) (n : ℕ) (out whole : List Change)
    → (length ps ≤ n) ⊎ (length ms ≤ n) → out ++ changes (drop n ps) (drop n ms) ≡ whole → out ≡ whole
changes_all ps ms n out whole (inl few) so_far =
    sym (append-nil out) ∙ ap (λ l. out ++ l) (sym (ap (λ l. changes l (drop n ms)) (drop_all n ps few))) ∙ so_far
changes_all ps ms n out whole (inr few) so_far =
    sym (append-nil out)
    ∙ ap (λ l. out ++ l) (sym (ap (λ l. changes (drop n ps) l) (drop_all n ms few) ∙ none (drop n ps))) ∙ so_far
  where
    none : (ls : List (List ℕ)) → changes ls [] ≡ []
    none [] = refl
    none (l ∷ ls) = refl

pub run_out : (a b n : ℕ) → min a b ≤ n → (a ≤ n) ⊎ (b ≤ n)
run_out a b n few = go (cases_order a b)
  where
    go : (a ≡ b) ⊎ ((a < b) ⊎ (b < a)) → (a ≤ n) ⊎ (b ≤ n)
    go (inl same) = inl (omega arith)
    go (inr (inl less)) = inl (omega arith)
    go (inr (inr more)) = inr (omega arith)

-- ---- places by their numbers

pub place_in : (ps : List (List ℕ)) (n : ℕ) (p : List ℕ) → n < length ps → p ≡ get_or ps n p → p ≡ place_at ps n
place_in [] n p less is = absurd (omega arith)
place_in (x ∷ ps) zero p less is = is
place_in (x ∷ ps) (suc n) p less is = place_in ps n p (omega arith) is

pub place_out : (ps : List (List ℕ)) (n : ℕ) → length ps ≤ n → place_at ps n ≡ []
place_out [] n few = refl
place_out (x ∷ ps) zero few = absurd (omega arith)
place_out (x ∷ ps) (suc n) few = place_out ps n (omega arith)
