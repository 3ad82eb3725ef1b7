-- Each fault of a limit that a program breaks has the number of that limit.
use Rattle.std.proofs.Common.{◌≡◌, inl, inr, List, [], ◌∷◌, ◌++◌, map, refl, sym, ap, subst}
use Rattle.std.proofs.lemmas.List.{map-append}
use Rattle.typed_programs.specs.Least.{Among}
use Rattle.typed_programs.specs.declared.fault.TypeFault.{TypeFault}
use Rattle.typed_programs.specs.declared.fault.TypeFault.TheVariants.{UnknownName, Redeclared, WrongType, WrongCount, NoReturn, LimitOf, OutOfMemory}
use Rattle.typed_programs.specs.Faults.{HasLimit, exceeded}
use Rattle.typed_programs.specs.Laws.{OwnLimits}
use Rattle.typed_programs.specs.Program.{faults}
use Rattle.rev_types.proofs.FirstOfFaults.{program_first}

-- the fault with the number of its limit
own : TypeFault → TypeFault
own (LimitOf at which limit) = exceeded at which
own (UnknownName at) = UnknownName at
own (Redeclared at) = Redeclared at
own (WrongType at) = WrongType at
own (WrongCount at) = WrongCount at
own (NoReturn at) = NoReturn at
own OutOfMemory = OutOfMemory

is_own : (f : TypeFault) → HasLimit f → own f ≡ f
unfolding own
is_own (LimitOf at which limit) h = ap (λ n. LimitOf at which n) (sym h)
is_own (UnknownName at) h = refl
is_own (Redeclared at) h = refl
is_own (WrongType at) h = refl
is_own (WrongCount at) h = refl
is_own (NoReturn at) h = refl
is_own OutOfMemory h = refl

own_limit : (f : TypeFault) → HasLimit (own f)
unfolding own
own_limit (LimitOf at which limit) = refl
own_limit (UnknownName at) = tt
own_limit (Redeclared at) = tt
own_limit (WrongType at) = tt
own_limit (WrongCount at) = tt
own_limit (NoReturn at) = tt
own_limit OutOfMemory = tt

each : (fs : List TypeFault) → map own fs ≡ fs → (f : TypeFault) → Among fs f → HasLimit f
each [] e f m = absurd m
each (g ∷ gs) e f (inl is) =
    let same : own g ≡ g = cc in subst (λ x. HasLimit x) is (subst (λ x. HasLimit x) same (own_limit g))
each (g ∷ gs) e f (inr there) = let same : map own gs ≡ gs = cc in each gs same f there

pub own_limits : OwnLimits
own_limits p =
    each (faults p)
    (program_first [] (λ f. f ∷ []) (λ xs ys. xs ++ ys) [] (λ f. f ∷ []) (λ xs ys. xs ++ ys) (λ fs. map own fs) refl
    (λ f h. ap (λ x. x ∷ []) (is_own f h)) (λ xs ys. map-append own xs ys) p)
