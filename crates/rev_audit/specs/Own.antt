-- A revision's own run, with the children that it forks.
--
-- `Goes` is an own run up to a state; `Stops` is what comes of it where nothing more is done;
-- `IsUnderWay` says that the
-- run is that of a revision that begins.
use Rattle.std.specs.Prelude.{◌≡◌, ◌+◌, ◌<◌, ◌^◌, ℕ, List, [], ◌∷◌, ◌++◌, Option, Some, None}
use Rattle.rev_num.specs.Path.{Path, child}
use Rattle.revision_machine.specs.Machine.{Moves, Forks, Joins, Ended}
use Rattle.revision_calculus.specs.Program.{Setting}
use Rattle.revision_calculus.specs.State.{Local}
use Rattle.revision_calculus.specs.Step.{next}
use Rattle.revision_calculus.specs.Calculus.{main, calculus}
use Rattle.rev_audit.specs.declared.alone.LocalState.{LocalState}
use Rattle.stated_parts.specs.declared.ends.AloneEnd.{AloneEnd}
use Rattle.rev_audit.specs.Alone.{JoinsEnd}
use Rattle.trace_diagram.specs.declared.diagram.Part.{Part}
use Rattle.audit_rules.specs.Audited.{Computed, made, joined_twice, missing, IsTwice, taken, Begins}
use Rattle.audit_rules.specs.Parts.{calculus_parts, part_of}
use Rattle.audit_rules.specs.Traces.{part_at}
use Rattle.rev_audit.specs.declared.run.Stop.{Stop}
use Rattle.rev_audit.specs.declared.run.Stop.TheVariants as stop
use Rattle.rev_audit.specs.declared.joinee.Joinee.{Joinee}
use Rattle.rev_audit.specs.declared.joinee.Joinee.TheVariants as joinee

module _ (s : Setting) (fuel : ℕ) (parts : List Part) where
  -- r, at l, joined q before, or a stated part earlier in post-order did
  abbrev pub JoinedBefore : Path → Local → Path → Type 0
  JoinedBefore = IsTwice (calculus s) (calculus_parts s fuel) (part_at parts)

  -- what r, at l, is after its join of q by what the stated part of q tells, if that can be taken
  abbrev pub taken_of : Path → Local → Path → Option Local
  taken_of r l q = taken (calculus s) (calculus_parts s fuel) (part_at parts) r l q (part_at parts q)

  -- r's own run begins at this state
  abbrev pub BeginsAt : Path → Local → Type 0
  BeginsAt = Begins (calculus s) (calculus_parts s fuel) (main s fuel) (part_at parts)

  -- r's own run goes from a to this state, and forks these children on the way
  pub data Goes (r : Path) (a : Local) : Local → List LocalState → Type 0 where
    at_first : Goes r a a []
    moved : (l l' : Local) (ks : List LocalState) → Goes r a l ks → next s r l ≡ Moves l' → Goes r a l' ks
    forked : (l l' : Local) (c : LocalState) (ks : List LocalState) → Goes r a l ks → next s r l ≡ Forks l' c.local
        → c.path ≡ child r l.forks → Goes r a l' (ks ++ c ∷ [])
    joined : (l l' : Local) (q : Path) (ks : List LocalState) → Goes r a l ks → next s r l ≡ Joins q
        → (JoinedBefore r l q → ⊥) → taken_of r l q ≡ Some l' → Goes r a l' ks

  -- nothing more comes of it
  pub data Stops (r : Path) (l : Local) : Computed Part → Type 0 where
    ended : next s r l ≡ Ended → Stops r l (made (part_of s r l))
    twice : (q : Path) → next s r l ≡ Joins q → JoinedBefore r l q → Stops r l joined_twice
    wants : (q : Path) → next s r l ≡ Joins q → (JoinedBefore r l q → ⊥) → taken_of r l q ≡ None → Stops r l missing

  -- r's own run from a comes to this, and forks these children
  pub record ComesTo (r : Path) (a : Local) (c : Computed Part) (ks : List LocalState) : Type 0 where
    pub last : Local
    pub goes : Goes r a last ks
    pub stops : Stops r last c

  -- r's own run has come to this state, and has forked these children
  pub record IsUnderWay (r : Path) (l : Local) (ks : List LocalState) : Type 0 where
    pub first : Local
    pub begins : BeginsAt r first
    pub goes : Goes r first l ks

  -- what the revision at r comes to by its next join, or its end
  abbrev pub StopsAt : Path → Local → Stop → Type 0
  StopsAt r l (stop.Wants q) = next s r l ≡ Joins q
  StopsAt r l stop.Ended = next s r l ≡ Ended

  -- each state after a join of a revision that ended so is what r, at l, is after its join of q
  pub record TakesEnd (r : Path) (l : Local) (q : Path) (e : AloneEnd) : Type 0 where
    pub room : l.fuel + e.fuel < 2 ^ 64
    pub is : (l' : Local) → JoinsEnd s r l q e l' → taken_of r l q ≡ Some l'

  -- r, at l, takes this end of q, or can take none
  abbrev pub TakesOrNot : Path → Local → Path → Option AloneEnd → Type 0
  TakesOrNot r l q None = taken_of r l q ≡ None
  TakesOrNot r l q (Some e) = TakesEnd r l q e

  -- what comes of the join of q by r, at l
  abbrev pub IsJoinee : Path → Local → Path → Joinee → Type 0
  IsJoinee r l q (joinee.Told e) = (JoinedBefore r l q → ⊥) × TakesEnd r l q e
  IsJoinee r l q joinee.Twice = JoinedBefore r l q
  IsJoinee r l q joinee.Missing = (JoinedBefore r l q → ⊥) × (taken_of r l q ≡ None)
