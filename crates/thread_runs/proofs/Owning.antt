-- Ends that are taken one by one as values that own what they tell.
use Rattle.std.proofs.Common.{◌≡◌, List, [], ◌∷◌, ◌++◌, Option, sym, subst, append_assoc, append-nil}
use Rattle.std.specs.Global.{Box}
use Rattle.run_revision.specs.CodeValues.{LeftValue}
use Rattle.version_map.specs.declared.end.EndValue.{EndValue}
use Rattle.thread_runs.specs.Ends.{IsOwned, AreOwned}

-- with whatever stands for the rest
abbrev pub Goes : List (Option LeftValue) → List (Option (Box EndValue)) → List (Option LeftValue) → Type 0
Goes whole owned rest = (vs : List (Option (Box EndValue))) → AreOwned rest vs → AreOwned whole (owned ++ vs)

pub one_owned : (whole : List (Option LeftValue)) (owned : List (Option (Box EndValue)))
    (rest left : List (Option LeftValue)) (e : Option LeftValue) (v : Option (Box EndValue))
    → Goes whole owned rest → rest ≡ e ∷ left → IsOwned e v → Goes whole (owned ++ v ∷ []) left
one_owned whole owned rest left e v goes is one = λ vs h.
    subst (AreOwned whole) (sym (append_assoc owned (v ∷ []) vs))
    (goes (v ∷ vs) (subst (λ l. AreOwned l (v ∷ vs)) (sym is) (one, h)))

pub all_owned : (whole : List (Option LeftValue)) (owned : List (Option (Box EndValue)))
    (rest : List (Option LeftValue))
    → Goes whole owned rest → rest ≡ [] → AreOwned whole owned
all_owned whole owned rest goes none =
    subst (AreOwned whole) (append-nil owned) (goes [] (subst (λ l. AreOwned l []) (sym none) tt))
