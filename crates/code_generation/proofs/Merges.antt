-- A merge that is declared is found by its name.
use Rattle.std.proofs.Common.{◌≡◌, ◌∙◌, ◌⊎◌, inl, inr, ℕ, suc, ◌+◌, Bool, true, false, List, [], ◌∷◌, Option, Some, None, refl, sym, ap, subst, arith, true≢false}
use Rattle.std.specs.Prelude.{option_map, if◌then◌else◌}
use Rattle.rev_syntax.specs.Trees.{Declaration, fun, merge, shared, proc}
use Rattle.rev_syntax.proofs.Lists.{same-self}
use Rattle.typed_programs.specs.Least.{Among}
use Rattle.name_tables.specs.Names.{Name, same}
use Rattle.typed_programs.specs.Judgement.{IsMergeOf}
use Rattle.typed_programs.specs.Layout.{merge_at}

pub counted : (o : Option ℕ) (m : ℕ) → option_map (λ n. 1 + n) o ≡ Some m → (j : ℕ) × (o ≡ Some j) × (m ≡ suc j)
counted None m h = absurd (let z : None ≡ Some m = h in cc)
counted (Some j) m h = (j, refl, (let z : Some (1 + j) ≡ Some m = h in let q : 1 + j ≡ m = cc in omega (arith, q)))

-- a merge that is declared is found
pub merge_known : (before : List Declaration) (name : Name) (e : Declaration) → Among before e → IsMergeOf name e
    → (m : ℕ) × (merge_at name before ≡ Some m)
merge_known [] name e h is = absurd h
merge_known (merge w m j r body ∷ es) name e h is = by (same name w.text) refl h (λ g. merge_known es name e g is)
  where
    some : (o : Option ℕ) → ((q : ℕ) × (o ≡ Some q)) → (q : ℕ) × (option_map (λ n. 1 + n) o ≡ Some q)
    some o f = (1 + f.0, ap (option_map (λ n. 1 + n)) f.1)

    by : (d : Bool) → same name w.text ≡ d → (merge w m j r body ≡ e) ⊎ Among es e
        → (Among es e → (q : ℕ) × (merge_at name es ≡ Some q))
        → (q : ℕ) × ((if d then Some 0 else option_map (λ n. 1 + n) (merge_at name es)) ≡ Some q)
    by true q g rec = (0, refl)
    by false q (inl g) rec =
        let z : IsMergeOf name (merge w m j r body) = subst (IsMergeOf name) (sym g) is in
        absurd (true≢false (sym (ap (λ y. same y w.text) (sym z) ∙ same-self w.text) ∙ q))
    by false q (inr g) rec = some (merge_at name es) (rec g)
merge_known (fun w ps r body ∷ es) name e (inl g) is = absurd (subst (IsMergeOf name) (sym g) is)
merge_known (fun w ps r body ∷ es) name e (inr g) is = merge_known es name e g is
merge_known (shared x ∷ es) name e (inl g) is = absurd (subst (IsMergeOf name) (sym g) is)
merge_known (shared x ∷ es) name e (inr g) is = merge_known es name e g is
merge_known (proc w ps r body ∷ es) name e (inl g) is = absurd (subst (IsMergeOf name) (sym g) is)
merge_known (proc w ps r body ∷ es) name e (inr g) is = merge_known es name e g is
