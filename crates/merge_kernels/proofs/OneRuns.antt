-- Written locations that are merged by one definition, one by one.
--   location_more   a location more is put, whose merge by the definition gives a word
use Rattle.std.proofs.Common.{◌≡◌, ◌∙◌, ap, sym, ℕ, ◌+◌, ◌<◌, ◌≤◌, List, length, drop, set, get_or, Ok, arith}
use Rattle.std.proofs.lemmas.Option.{slice_get-get_or}
use Rattle.rev_syntax.specs.Trees.{Expression}
use Rattle.version_map.specs.declared.end.Written.{Written}
use Rattle.version_map.specs.Composing.{Merges}
use Rattle.version_map.specs.Following.{Follow}
use Rattle.version_map.specs.Parts.{HasPut}
use Rattle.version_map.proofs.Composing.{puts_more}
use Rattle.merge_kernels.specs.Rows.{AreValues}
use Rattle.merge_kernels.specs.Words.{merged}
use Rattle.merge_kernels.proofs.RowRuns.{behind}

pub location_more : (e : Expression) (m : Merges ℕ) (mains : List ℕ) (ws : List Written) (at first n i d v : ℕ)
    (z : Written) (old mid : List ℕ)
    → length mains ≡ length ws → length mid ≡ length ws → at + n ≤ length ws → i < n
    → Follow (drop at ws) first n → AreValues e m first n
    → Ok v ≡ merged e (get_or mains (at + i) d) (get_or ws (at + i) z).value (get_or ws (at + i) z).root
    → HasPut m mains ws at i old mid → HasPut m mains ws at (i + 1) old (set mid (at + i) v)
location_more e m mains ws at first n i d v z old mid same long room more follow values is put =
    let w = get_or ws (at + i) z in
    let main = get_or mains (at + i) d in
    let here : w.location ≡ first + i =
    follow i w more (behind at i ws ∙ slice_get-get_or ws (at + i) z (omega (arith, room, more))) in
    puts_more m mains ws at i d v z old mid (omega (arith, same, room, more)) (omega (arith, room, more))
    (omega (arith, long, room, more))
    (is ∙ (sym (values i more main w.value w.root) ∙ ap (λ l. m l main w.value w.root) (sym here))) put
