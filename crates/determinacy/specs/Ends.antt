-- What a join sees of the revision that is joined.
--   SameWrite         a location is written where another is, with the same value and from the same root
--   AllSame           so are locations, one by one
--   JoinIsByTheEnd    two joinees with the same writes, text, fuel and phase are joined alike
use Rattle.std.specs.Prelude.{◌≡◌, List, [], ◌∷◌, Some}
use Rattle.rev_num.specs.Path.{Path}
use Rattle.rev_num.specs.declared.value.Value.{Value}
use Rattle.revision_calculus.specs.Program.{Setting}
use Rattle.revision_calculus.specs.State.{Location, Local}
use Rattle.revision_calculus.specs.Join.{join}

pub record SameWrite (j i : Location) : Type 0 where
  pub written : i.written ≡ j.written
  pub base : (x : Value) → j.written ≡ Some x → i.base ≡ j.base

abbrev pub AllSame : List Location → List Location → Type 0
AllSame [] [] = Unit {0}
AllSame [] (i ∷ is) = ⊥
AllSame (j ∷ js) [] = ⊥
AllSame (j ∷ js) (i ∷ is) = SameWrite j i × AllSame js is

abbrev pub JoinIsByTheEnd : Type 0
JoinIsByTheEnd =
    (s : Setting) (r q : Path) (l j i : Local) → AllSame j.locations i.locations
    → i.text ≡ j.text → i.fuel ≡ j.fuel → i.phase ≡ j.phase → join s r l q i ≡ join s r l q j
