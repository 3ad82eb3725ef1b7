-- A program keeps the affine rule, or has one first breach of it.
use Rattle.std.proofs.Common.{◌≡◌, ◌∙◌, ◌<◌, ◌≤◌, ◌⊎◌, inl, inr, refl, sym, subst, ap, ℕ, List, arith}
use Rattle.std.specs.Prelude.{Option, Some, None, Result, Ok, Err}
use Rattle.rev_syntax.specs.Trees.{ProgramTree}
use Rattle.rev_report.specs.Refusals.{status_of}
use Rattle.rev_report.specs.declared.refusal.Refusal.{Refusal}
use Rattle.revision_calculus.specs.Kinded.{IsAccepted}
use Rattle.revision_calculus.proofs.FunKinds.{rules_kept}
use Rattle.affine_check.specs.Affine.{Breach, copied, stored, used_twice, in_loop, Breakage, IsFirstBroken, number}
use Rattle.affine_check.specs.Laws.{Decides}
use Rattle.affine_check.specs.Places.{first_breakage}
use Rattle.affine_check.proofs.Places.{decided}
use Rattle.affine_check.specs.Faults.{Refuses}
use Rattle.affine_check.specs.declared.fault.AffineFault.{AffineFault}
use Rattle.affine_check.specs.declared.fault.AffineFault.TheVariants as affine
use Rattle.mode_reports.specs.Affine.{KeepsAffine, breach_fault, report_of_affine}
use Rattle.mode_reports.specs.Stops.{Meets, stop_of}
use Rattle.mode_reports.specs.Texts.{fault_at}
use Rattle.mode_reports.specs.declared.stop.Stop.{Stop}
use Rattle.mode_reports.proofs.Stages.{One}

same_breach : (b c : Breach) → number b ≡ number c → b ≡ c
same_breach copied copied e = refl
same_breach copied stored e = absurd (omega (arith, e))
same_breach copied used_twice e = absurd (omega (arith, e))
same_breach copied in_loop e = absurd (omega (arith, e))
same_breach stored copied e = absurd (omega (arith, e))
same_breach stored stored e = refl
same_breach stored used_twice e = absurd (omega (arith, e))
same_breach stored in_loop e = absurd (omega (arith, e))
same_breach used_twice copied e = absurd (omega (arith, e))
same_breach used_twice stored e = absurd (omega (arith, e))
same_breach used_twice used_twice e = refl
same_breach used_twice in_loop e = absurd (omega (arith, e))
same_breach in_loop copied e = absurd (omega (arith, e))
same_breach in_loop stored e = absurd (omega (arith, e))
same_breach in_loop used_twice e = absurd (omega (arith, e))
same_breach in_loop in_loop e = refl

same_pair : (a b m n : ℕ) → (a < b) ⊎ ((a ≡ b) × (m ≤ n)) → (b < a) ⊎ ((b ≡ a) × (n ≤ m)) → (a ≡ b) × (m ≡ n)
same_pair a b m n (inl x) (inl y) = absurd (omega (arith, x, y))
same_pair a b m n (inl x) (inr y) = absurd (let e = y.0 in omega (arith, x, e))
same_pair a b m n (inr x) (inl y) = absurd (let e = x.0 in omega (arith, y, e))
same_pair a b m n (inr x) (inr y) = (x.0, (let p = x.1 in let q = y.1 in omega (arith, p, q)))

one_first : (text : List ℕ) (p : ProgramTree) (f g : Breakage) → IsFirstBroken p f → IsFirstBroken p g
    → fault_at text f.at (breach_fault f.how) ≡ fault_at text g.at (breach_fault g.how)
one_first text p f g h k =
    let pair =
    same_pair f.at g.at (number f.how) (number g.how) (h.first g.how g.at k.broken) (k.first f.how f.at h.broken) in
    let how = same_breach f.how g.how pair.1 in
    ap (λ (n : ℕ). fault_at text n (breach_fault f.how)) pair.0
    ∙ ap (λ (b : Breach). fault_at text g.at (breach_fault b)) how

pub one_affine : (text : List ℕ) (p : ProgramTree) → One (KeepsAffine text p)
one_affine text p (Ok q) (Ok r) h k = ap (λ (x : ProgramTree). Ok x) (h.0 ∙ sym k.0)
one_affine text p (Ok q) (Err s) h k = absurd (h.1 k.0.how k.0.at k.1.broken)
one_affine text p (Err r) (Ok q) h k = absurd (k.1 h.0.how h.0.at h.1.broken)
one_affine text p (Err r) (Err s) h k = ap (λ (x : Refusal). Err x) (h.2 ∙ one_first text p h.0 k.0 h.1 k.1 ∙ sym k.2)

pub some_affine : (text : List ℕ) (p : ProgramTree) → IsAccepted p
    → (found : Result ProgramTree Refusal) × KeepsAffine text p found
some_affine text p accepted = by (first_breakage p) (decided p (rules_kept p accepted))
  where
    by : (o : Option Breakage) → Decides p o → (found : Result ProgramTree Refusal) × KeepsAffine text p found
    by None h = (Ok p, (refl, h))
    by (Some f) h = (Err (fault_at text f.at (breach_fault f.how)), (f, h, refl))

pub affine_refused : (text : List ℕ) (p : ProgramTree) (f : Refusal) → KeepsAffine text p (Err f) → status_of f ≡ 2
affine_refused text p f h = ap status_of h.2

-- what the checker refuses is refused
pub refuses_affine :
    {X : Type 0} (view : X → ProgramTree) (text : List ℕ) (p : ProgramTree) (f : AffineFault) (e : Stop)
    → e ≡ stop_of (report_of_affine text f) → Refuses p f → Meets view (Err e) (KeepsAffine text p)
refuses_affine view text p f e is h = subst (λ (x : Stop). Meets view (Err x) (KeepsAffine text p)) (sym is) (go f h)
  where
    go : (g : AffineFault) → Refuses p g → Meets view (Err (stop_of (report_of_affine text g))) (KeepsAffine text p)
    go (affine.Copied at) k = (record { at = at; how = copied }, k, refl)
    go (affine.Stored at) k = (record { at = at; how = stored }, k, refl)
    go (affine.UsedTwice at) k = (record { at = at; how = used_twice }, k, refl)
    go (affine.InLoop at) k = (record { at = at; how = in_loop }, k, refl)
    go affine.OutOfMemory k = tt
