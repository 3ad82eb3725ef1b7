-- Maps from paths.
use Rattle.std.specs.Prelude.{Option, Some, cond}
use Rattle.rev_num.specs.Path.{Path, same}

abbrev pub PathMap : Type 0 → Type 0
PathMap A = Path → Option A

-- m, with a at r
abbrev pub with_at : {A : Type 0} → PathMap A → Path → A → PathMap A
with_at m r a p = cond (same r p) (Some a) (m p)
