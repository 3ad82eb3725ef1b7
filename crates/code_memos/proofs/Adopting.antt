-- A valid entry tells what the leg of a fresh revision of a world does.
use Rattle.std.proofs.Common.{◌≡◌, ◌∙◌, ℕ, ℤ, List, length, Option, Some, None, sym, ap}
use Rattle.rev_num.specs.Path.{Path}
use Rattle.rev_code.specs.State.{State}
use Rattle.rev_code.specs.Step.{Comes, goes, traps, forks, joins, ends, stuck}
use Rattle.revision_machine.specs.Numbered as numbers
use Rattle.revision_machine.specs.Numbered.{number_of, leg_at, leg_of}
use Rattle.code_machine.specs.Local.{CodeRun, under, Local, running, end_of}
use Rattle.code_machine.specs.Leg.{leg, clock}
use Rattle.code_machine.specs.Machines.{Act, Goes, act_of, wish_of, numbered}
use Rattle.code_machine.specs.Renamed.{renamed, renamed_as}
use Rattle.code_machine.proofs.Acts.{leg_same}
use Rattle.code_memos.specs.Renaming.{renamed_end}
use Rattle.code_memos.specs.Leaf.{Fresh, IsFresh, ended_by, Known, IsKnown, IsValid, rerooted}
use Rattle.code_memos.specs.Worlds.{other, ValidIsTheLeg}
use Rattle.code_memos.proofs.Leaving.{valid_is_the_end, fresh_over, no}
use Rattle.code_memos.proofs.Reading.{event_same, named_local, named_option, ended_named, end_named}

abbrev goes_to : {H : Type 0} → Option (Local H) → Act H → Act H
goes_to None a = a
goes_to (Some l) a = Goes l

pub goes_ended : {H : Type 0} (g : CodeRun) (o : Comes H) (l : Local H) → ended_by o ≡ Some l → act_of g o ≡ Goes l
goes_ended g (traps c e) l h = ap (λ z. goes_to z (Goes l)) h
goes_ended g (ends c w) l h = ap (λ z. goes_to z (Goes l)) h
goes_ended g (goes c) l h = absurd (no l h)
goes_ended g (forks c n args) l h = absurd (no l h)
goes_ended g (joins c try m) l h = absurd (no l h)
goes_ended g stuck l h = absurd (no l h)

-- by paths: the leg ends it with what the entry has
pub record EndsSo (g : CodeRun) (d : State Path) (f : Fresh Path) (e : Known) : Type 0 where
  pub after : Local Path
  pub ended : ended_by (leg g d) ≡ Some after
  pub end_is : end_of after ≡ rerooted f.snapshot e.end

pub valid_ends : (g : CodeRun) (path : Path) (c : State Path) (e : Known)
    (known : IsKnown (under g) (clock g c) path c e) (inputs : List ℤ) (share : ℕ)
    (r : Path) (f : Fresh Path) (d : State Path) → IsFresh g.code f d → length f.snapshot ≡ length known.begins.snapshot
    → IsValid e r f inputs → EndsSo (other g inputs share) d f e
valid_ends g path c e known inputs share r f d fresh many valid =
    let g' = other g inputs share in
    let whole = valid_is_the_end (under g) (clock g c) path r c d e known f inputs share fresh many valid in
    let at = fresh_over g.code known.begins f c d known.fresh fresh (sym known.block_is ∙ valid.block_is)
    (sym known.args_are ∙ valid.args_are) (sym known.fuel_is ∙ valid.fuel_is) many in
    let same_clock : clock g' d ≡ clock g c = ap (clock g') at in
    record {
      after = whole.after;
      ended = ap (λ k. ended_by (Rattle.rev_code.specs.Step.reach (under g') k d)) same_clock ∙ whole.ended;
      end_is = whole.end_is;
    }

pub valid_is_the_leg : ValidIsTheLeg
valid_is_the_leg g path c e known inputs share w n r t a b there rel f d is fresh many valid =
    let g' = other g inputs share in
    let whole = valid_ends g path c e known inputs share r f d fresh many valid in
    let number = number_of t in
    let state : b ≡ record { state = renamed_as number d.forks d; phase = running } = rel.is ∙ ap (renamed number) is in
    let its : ended_by (leg g' (renamed_as number d.forks d)) ≡ Some (named_local number d.forks whole.after) =
    ap ended_by (leg_same number g' d.forks d ∙ event_same number g'.code g'.inputs g'.share d.forks (leg g' d))
    ∙ ended_named number d.forks (leg g' d) ∙ ap (named_option number d.forks) whole.ended in
    let after = named_local number d.forks whole.after in
    let does : (numbered g').next b ≡ numbers.Goes after =
    ap (numbered g').next state ∙ ap wish_of (goes_ended g' (leg g' (renamed_as number d.forks d)) after its) in
    record {
      after = after;
      leg = ap (leg_at (numbered g') w n) there ∙ ap (leg_of (numbered g') w n r b) does;
      end_is = end_named number d.forks whole.after ∙ ap (renamed_end number) whole.end_is;
    }
