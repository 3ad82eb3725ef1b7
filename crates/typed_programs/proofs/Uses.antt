-- What holds of each application in a list.
use Rattle.std.proofs.Common.{◌≡◌, Option, List, [], ◌∷◌, ◌++◌}
use Rattle.name_tables.specs.Names.{Name}
use Rattle.typed_programs.specs.FunRules.{Use, broken_by, broken_in}
use Rattle.typed_programs.specs.declared.expanded.FunHead.{FunHead}
use Rattle.typed_programs.proofs.Lists.{parts}

abbrev pub OfUses : (Use → Type 0) → List Use → Type 0
OfUses P [] = Unit {0}
OfUses P (x ∷ xs) = P x × OfUses P xs

-- what holds of those of two lists holds of those of each
pub uses_parts : (P : Use → Type 0) (xs ys : List Use) → OfUses P (xs ++ ys) → OfUses P xs × OfUses P ys
uses_parts P [] ys h = (tt, h)
uses_parts P (x ∷ xs) ys h = let rest = uses_parts P xs ys h.1 in ((h.0, rest.0), rest.1)

-- what holds of each that breaks no rule holds of all where none breaks one
pub uses_fine : (P : Use → Type 0) (funs : Name → Option FunHead)
    → ((x : Use) → broken_by x (funs x.name.text) ≡ [] → P x) → (xs : List Use) → broken_in funs xs ≡ [] → OfUses P xs
uses_fine P funs each [] fine = tt
uses_fine P funs each (x ∷ xs) fine =
    let both = parts (broken_by x (funs x.name.text)) (broken_in funs xs) fine in
    (each x both.0, uses_fine P funs each xs both.1)
