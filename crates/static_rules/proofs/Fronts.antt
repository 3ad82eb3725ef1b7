-- A program is well typed, or there is one first rule that it breaks.
use Rattle.std.proofs.Common.{◌≡◌, ◌∙◌, ◌⊎◌, inl, inr, ℕ, ◌<◌, ◌≤◌, cond, nat_eq, Option, Some, None, List, [], ◌∷◌, refl, sym, ap, subst, arith}
use Rattle.rev_syntax.specs.Trees.{ProgramTree}
use Rattle.rev_syntax.specs.Small.{IsSmall}
use Rattle.typed_programs.specs.FunRules.{fun_faults}
use Rattle.typed_programs.specs.FunRules as funs
use Rattle.typed_programs.specs.declared.fun_fault.MergeFault.{MergeFault}
use Rattle.typed_programs.specs.declared.fun_fault.MergeFault.TheVariants as fun
use Rattle.typed_programs.specs.Least.{IsFirst, Among, least}
use Rattle.typed_programs.proofs.Leasts.{first_is, none_is}
use Rattle.rev_report.specs.declared.limit.Limit.{Limit}
use Rattle.rev_report.specs.declared.limit.Limit.TheVariants.{Locations, Procedures, Funs, Parameters, Locals, Items, Weight}
use Rattle.typed_programs.specs.declared.fault.TypeFault.{TypeFault}
use Rattle.typed_programs.specs.declared.fault.TypeFault.TheVariants.{UnknownName, Redeclared, WrongType, WrongCount, NoReturn, LimitOf, OutOfMemory}
use Rattle.typed_programs.specs.Faults.{place, rank, HasLimit, exceeded}
use Rattle.typed_programs.specs.Program.{faults}
use Rattle.typed_programs.specs.Accepted.{IsWellTyped}
use Rattle.typed_programs.proofs.Accepting.{well_typed, accepts}
use Rattle.rev_types.proofs.OwnLimits.{own_limits}
use Rattle.static_rules.specs.Front.{Outcome, of_funs, accepted, of_types, fault_in}
use Rattle.static_rules.specs.Breaks.{BreaksNone, IsFirstBroken}
use Rattle.static_rules.specs.Laws.{Decided, SameFirst, OneOutcome, TypedWhereNone}
use Rattle.static_rules.specs.Funs.{IsFirstBrokenFun}
use Rattle.static_rules.proofs.FunFaults.{same_first_fun, funs_kept}
use Rattle.static_rules.proofs.Whole.{same}

-- the fault of this place and number
abbrev fault_of : ℕ → ℕ → TypeFault
fault_of at n =
    cond (nat_eq n 1) (UnknownName at)
    (cond (nat_eq n 2) (Redeclared at)
    (cond (nat_eq n 3) (WrongType at) (cond (nat_eq n 4) (WrongCount at) (cond (nat_eq n 5) (NoReturn at)
    (cond (nat_eq n 6) (exceeded at Locations)
    (cond (nat_eq n 7) (exceeded at Procedures)
    (cond (nat_eq n 8) (exceeded at Funs) (cond (nat_eq n 9) (exceeded at Parameters)
    (cond (nat_eq n 10) (exceeded at Locals)
    (cond (nat_eq n 11) (exceeded at Items) (cond (nat_eq n 12) (exceeded at Weight) OutOfMemory)))))))))))

limit_is : (at : ℕ) (which : Limit) → exceeded at which ≡ fault_of at (rank (exceeded at which))
limit_is at Locations = refl
limit_is at Procedures = refl
limit_is at Funs = refl
limit_is at Parameters = refl
limit_is at Locals = refl
limit_is at Items = refl
limit_is at Weight = refl

fault_is : (f : TypeFault) → HasLimit f → f ≡ fault_of (place f) (rank f)
fault_is (UnknownName at) h = refl
fault_is (Redeclared at) h = refl
fault_is (WrongType at) h = refl
fault_is (WrongCount at) h = refl
fault_is (NoReturn at) h = refl
fault_is (LimitOf at which limit) h = ap (λ n. LimitOf at which n) h ∙ limit_is at which
fault_is OutOfMemory h = refl

same_place : (a b m n : ℕ) → (a < b) ⊎ ((a ≡ b) × (m ≤ n)) → (b < a) ⊎ ((b ≡ a) × (n ≤ m)) → (a ≡ b) × (m ≡ n)
same_place a b m n (inl h) (inl g) = absurd (omega arith)
same_place a b m n (inl h) (inr g) = let e = g.0 in absurd (omega arith)
same_place a b m n (inr h) (inl g) = let e = h.0 in absurd (omega arith)
same_place a b m n (inr h) (inr g) = let e = h.1 in let d = g.1 in (h.0, omega arith)

one_first : (p : ProgramTree) (f g : TypeFault) → IsFirstBroken p f → IsFirstBroken p g → f ≡ g
one_first p f g a b =
    let e = same_place (place f) (place g) (rank f) (rank g) (a.first g b.broken) (b.first f a.broken) in
    fault_is f (own_limits p f ((same p f).1 a.broken)) ∙ (λ i. fault_of (e.0 i) (e.1 i))
    ∙ sym (fault_is g (own_limits p g ((same p g).1 b.broken)))

pub first_broken : (p : ProgramTree) (f : TypeFault) → IsFirst place rank (faults p) f → IsFirstBroken p f
first_broken p f h = record { broken = (same p f).0 h.among; first = λ g b. h.first g ((same p g).1 b) }

decide : (p : ProgramTree) → IsSmall p → fun_faults p ≡ [] → (o : Option TypeFault) → least place rank (faults p) ≡ o
    → IsWellTyped p ⊎ ((f : TypeFault) × IsFirstBroken p f)
decide p small funs None e = inl (well_typed p small funs (none_is place rank (faults p) e))
decide p small funs (Some f) e = inr (f, first_broken p f (first_is place rank (faults p) f e))

-- ---- where nothing is broken

-- what is well typed breaks nothing
pub none_broken : (p : ProgramTree) → IsWellTyped p → BreaksNone p
none_broken p w f b = absurd (subst (λ fs. Among fs f) (accepts p w) ((same p f).1 b))

none_among : (fs : List TypeFault) → ((f : TypeFault) → Among fs f → ⊥) → fs ≡ []
none_among [] h = refl
none_among (f ∷ fs) h = absurd (h f (inl refl))

-- and the checker's list is empty where nothing is broken
pub none_listed : (p : ProgramTree) → BreaksNone p → faults p ≡ []
none_listed p h = none_among (faults p) (λ f m. h f ((same p f).0 m))

pub typed_where_none : TypedWhereNone
typed_where_none p small kept = (λ h. well_typed p small ((funs_kept p).1 kept) (none_listed p h), none_broken p)

pub decided : Decided
decided p small kept = record {
  one = decide p small ((funs_kept p).1 kept) _ refl;
  not_both = λ f w b. none_broken p w f b;
  only = one_first p;
}

pub same_first : SameFirst
same_first p f =
    (first_broken p f, λ h. record { among = (same p f).1 h.broken; first = λ g m. h.first g ((same p g).0 m) })

-- ---- one outcome

fun_of : ℕ → ℕ → MergeFault
fun_of at n =
    cond (nat_eq n (funs.rank (fun.UnknownFun at))) (fun.UnknownFun at)
    (cond (nat_eq n (funs.rank (fun.LaterFun at))) (fun.LaterFun at)
    (cond (nat_eq n (funs.rank (fun.Arity at))) (fun.Arity at) fun.OutOfMemory))

fun_is : (f : MergeFault) → f ≡ fun_of (funs.place f) (funs.rank f)
unfolding fun_of
fun_is (fun.UnknownFun at) = refl
fun_is (fun.LaterFun at) = refl
fun_is (fun.Arity at) = refl
fun_is fun.OutOfMemory = refl

one_fun : (p : ProgramTree) (f g : MergeFault) → IsFirstBrokenFun p f → IsFirstBrokenFun p g → f ≡ g
one_fun p f g a b =
    let e = same_place (funs.place f) (funs.place g) (funs.rank f) (funs.rank g) (a.first g b.broken)
    (b.first f a.broken) in
    fun_is f ∙ (λ i. fun_of (e.0 i) (e.1 i)) ∙ sym (fun_is g)

one_outcome : (p : ProgramTree) → IsSmall p → (a b : Outcome p) → fault_in p a ≡ fault_in p b
one_outcome p small (of_funs f h) (of_funs g k) = (λ i. (Some (one_fun p f g h k i), None))
one_outcome p small (of_funs f h) (accepted e w) = absurd (e f h.broken)
one_outcome p small (of_funs f h) (of_types e g k) = absurd (e f h.broken)
one_outcome p small (accepted e w) (of_funs g k) = absurd (e g k.broken)
one_outcome p small (accepted e w) (accepted d v) = refl
one_outcome p small (accepted e w) (of_types d g k) = absurd ((decided p small e).not_both g w k.broken)
one_outcome p small (of_types e f h) (of_funs g k) = absurd (e g k.broken)
one_outcome p small (of_types e f h) (accepted d w) = absurd ((decided p small e).not_both f w h.broken)
one_outcome p small (of_types e f h) (of_types d g k) = (λ i. (None, Some (one_first p f g h k i)))

some_outcome : (p : ProgramTree) → IsSmall p → (o : Option MergeFault) → least funs.place funs.rank (fun_faults p) ≡ o
    → Outcome p
some_outcome p small (Some f) e = of_funs f ((same_first_fun p f).0 (first_is funs.place funs.rank (fun_faults p) f e))
some_outcome p small None e =
    let kept = (funs_kept p).0 (none_is funs.place funs.rank (fun_faults p) e) in elim ((decided p small kept).one) [
      | inl w ↦ accepted kept w
      | inr g ↦ of_types kept g.0 g.1
    ]

pub has_one : OneOutcome
has_one p small = record { outcome = some_outcome p small _ refl; one = one_outcome p small }
