-- What is shown of programs that keep the affine rule, and of the places where others break it.
--
-- `NeverTwice` is on every order of the steps of a run, `OwnerLaw` and `NoneShared` on the handles of
-- each state that it reaches.
-- `FindsBreaches` and `OnlyBreaches` are on the lists of places, and `Decides` on the first place.
-- `SecondUsesMeanHandles` is on what a second use means.
use Rattle.std.specs.Prelude.{◌≡◌, ◌≢◌, ℕ, List, [], ◌∷◌, Option, Some, None}
use Rattle.rev_num.specs.Path.{Path}
use Rattle.rev_num.specs.declared.value.ValueKind.TheVariants as k
use Rattle.rev_syntax.specs.Trees.{Declaration, fun, merge, shared, proc, Statements, ProgramTree}
use Rattle.typed_programs.specs.Least.{Among}
use Rattle.typed_programs.specs.Kinds.{Names, Locals}
use Rattle.typed_programs.specs.Scopes.{outside, with_params}
use Rattle.revision_machine.specs.Machine.{Entry, Global, Live, Reached, Twice}
use Rattle.revision_machine.specs.Laws.{local_of}
use Rattle.revision_calculus.specs.Program.{Setting}
use Rattle.revision_calculus.specs.State.{Local}
use Rattle.revision_calculus.specs.HandlesHeld.{LocationsHold}
use Rattle.revision_calculus.specs.Calculus.{calculus, main}
use Rattle.affine_check.specs.Affine.{Breach, Breakage, Breaks, IsAffine, IsFirstBroken, UsedTwice}
use Rattle.affine_check.specs.Owned.{OneOwner}
use Rattle.affine_check.specs.Places.{places}

-- no run from this fuel reaches the state of a second join
abbrev pub NeverTwice : Setting → ℕ → Type 0
NeverTwice s fuel = (g : Global Local) → Reached (calculus s) (main s fuel) g → g ≢ Twice

-- in each state that a run reaches, each revision has one owner at most
abbrev pub OwnerLaw : Setting → ℕ → Type 0
OwnerLaw s fuel = (revs : Path → Option (Entry Local)) → Reached (calculus s) (main s fuel) (Live revs) → OneOwner revs

-- and no shared variable has a handle, neither in a snapshot nor in what a revision has written
abbrev pub NoneShared : Setting → ℕ → Type 0
NoneShared s fuel =
    (revs : Path → Option (Entry Local)) → Reached (calculus s) (main s fuel) (Live revs)
    → (r : Path) (e : Entry Local) → revs r ≡ Some e
    → (q : Path) → LocationsHold (local_of e).locations q → ⊥

-- the lists have each place where the program breaks the rule
abbrev pub FindsBreaches : ProgramTree → Type 0
FindsBreaches p = (b : Breach) (at : ℕ) → Breaks p b at → Among (places p b) at

-- and no other place
abbrev pub OnlyBreaches : ProgramTree → Type 0
OnlyBreaches p = (b : Breach) (at : ℕ) → Among (places p b) at → Breaks p b at

-- with no breakage the program keeps the rule, and with one it is the first
abbrev pub Decides : ProgramTree → Option Breakage → Type 0
Decides p None = IsAffine p
Decides p (Some f) = IsFirstBroken p f

-- the second of two uses, too, means a rev local. No name in scope is declared anew, so with no new
-- value between them both mean the same local.
abbrev pub MeansHandle : Names → Locals → Statements → Type 0
MeansHandle c l body = (at : ℕ) (u : UsedTwice c l body at) → u.means ≡ Some (Some k.Rev)

abbrev pub DeclarationsMeanHandles : Names → List Declaration → Type 0
DeclarationsMeanHandles c [] = Unit {0}
DeclarationsMeanHandles c (fun w ps r body ∷ es) = DeclarationsMeanHandles c es
DeclarationsMeanHandles c (merge w m j r body ∷ es) = DeclarationsMeanHandles c es
DeclarationsMeanHandles c (shared x ∷ es) = DeclarationsMeanHandles c es
DeclarationsMeanHandles c (proc w ps r body ∷ es) =
    MeansHandle c (with_params [] ps) body × DeclarationsMeanHandles c es

-- wherever the program uses a handle twice
abbrev pub SecondUsesMeanHandles : ProgramTree → Type 0
SecondUsesMeanHandles p =
    DeclarationsMeanHandles (outside p.declarations) p.declarations
    × MeansHandle (outside p.declarations) [] p.main

-- the first breakage of the program is this one, at this place
abbrev pub IsRefused : ProgramTree → Breach → ℕ → Type 0
IsRefused p b at = IsFirstBroken p (record { at = at; how = b })
