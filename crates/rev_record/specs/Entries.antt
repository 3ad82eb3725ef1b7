-- Entries of leaf revisions, and what they stand for.
--   paths      their paths
--   AreKnown   they stand for these, which were recorded in runs of this code
use Rattle.std.specs.Prelude.{List, [], ◌∷◌}
use Rattle.rev_num.specs.Path.{Path}
use Rattle.rev_code.specs.declared.code.Code.{Code}
use Rattle.code_memos.specs.Leaf.{Known}
use Rattle.code_memos.specs.ByNumber.{KnownFor}
use Rattle.rev_record.specs.declared.entry.LeafEntry.{LeafEntry}
use Rattle.rev_record.specs.Standing.{StandsFor}

abbrev pub paths : List LeafEntry → List Path
paths [] = []
paths (k ∷ ks) = k.path ∷ paths ks

abbrev pub AreKnown : Code → List LeafEntry → List Known → Type 0
AreKnown code [] [] = Unit {0}
AreKnown code (k ∷ ks) (e ∷ es) = StandsFor k e × KnownFor code e × AreKnown code ks es
AreKnown code [] (e ∷ es) = ⊥
AreKnown code (k ∷ ks) [] = ⊥
