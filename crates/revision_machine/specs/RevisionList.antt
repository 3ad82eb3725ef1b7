-- The state that a list of revisions shows.
use Rattle.std.specs.Prelude.{◌≡◌, List, [], ◌∷◌, Bool, true, false, None}
use Rattle.std.specs.Coded.{×_prop, Unit-prop}
use Rattle.rev_num.specs.Path.{Path}
use Rattle.revision_machine.specs.PathMap.{PathMap, with_at}
use Rattle.revision_machine.specs.Machine.{Entry, Plain, Joined}
use Rattle.revision_machine.specs.Laws.{IsDistinct}
use Rattle.revision_machine.specs.declared.state.RevisionRow.{RevisionRow}

abbrev pub paths : {L : Type 0} → List (RevisionRow L) → List Path
paths [] = []
paths (s ∷ ss) = s.path ∷ paths ss

abbrev pub entry_with : {L : Type 0} → Bool → L → Entry L
entry_with true l = Joined l
entry_with false l = Plain l

abbrev pub entry_of : {L : Type 0} → RevisionRow L → Entry L
entry_of s = entry_with s.joined s.state

abbrev pub globe : {L : Type 0} → List (RevisionRow L) → PathMap (Entry L)
globe [] p = None
globe (s ∷ ss) p = with_at (globe ss) s.path (entry_of s) p

pub distinct_prop : (ps : List Path) → IsProp (IsDistinct ps)
distinct_prop [] = Unit-prop
distinct_prop (p ∷ ps) = ×_prop (λ f g i x. let e : f x ≡ g x = absurd (f x) in e i) (distinct_prop ps)
