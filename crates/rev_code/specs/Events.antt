-- What forks and joins leave. An event has the state at which it comes (`Step.antt`); here is what the revisions are
-- behind it. A fork pays nothing, since a Charge has paid for it.
--   start              the first revision
--   parent, child      a forker, once it is told its child's handle, and the child
--   past_join          a joiner behind its Join or TryJoin, which pushes whether the joined revision was done
use Rattle.std.specs.Prelude.{ℕ, suc, ◌-◌, ◌/◌, min, Bool, true, false, List, [], ◌∷◌, ◌++◌, length, drop, map, Some, None}
use Rattle.rev_code.specs.declared.code.CodeBlock.{CodeBlock}
use Rattle.rev_code.specs.Words.{Word, bool, rev}
use Rattle.rev_code.specs.State.{Location, State, forked, joined, seen}
use Rattle.rev_code.specs.Step.{first_locals}

-- a revision with one frame, this block, these arguments, this snapshot and this fuel
abbrev pub start : {H : Type 0} → ℕ → CodeBlock → List (Word H) → List (Location H) → (fuel : ℕ) → State H
start n b args locations fuel = record {
  block = n;
  at = 0;
  locals = first_locals b args;
  stack = [];
  below = [];
  locations = locations;
  fuel = fuel;
  forks = 0;
  listed = [];
  text = [];
  line = 0;
}

-- what a child gets of the forker's fuel
abbrev pub part : (share fuel : ℕ) → ℕ
part share fuel = min share (fuel / 2)

-- the forker at its Fork of a child with these arguments, told the handle
abbrev pub parent : {H : Type 0} → (share : ℕ) → State H → List (Word H) → H → State H
parent share c args h = record c {
  at = suc c.at;
  stack = rev (Some h) ∷ drop (length args) c.stack;
  fuel = c.fuel - part share c.fuel;
  forks = suc c.forks;
  listed = c.listed ++ forked h c.line ∷ [];
}

-- its view is the snapshot of its child
abbrev pub view : {H : Type 0} → List (Location H) → List (Location H)
view locations = map (λ l. record { snapshot = seen l; written = None }) locations

abbrev pub child : {H : Type 0} → (share : ℕ) → State H → ℕ → CodeBlock → List (Word H) → State H
child share c n b args = start n b args (view c.locations) (part share c.fuel)

abbrev pub told : {H : Type 0} → (try done : Bool) → List (Word H) → List (Word H)
told true done rest = bool done ∷ rest
told false done rest = rest

-- a joiner behind its join, which it lists
abbrev pub past_join : {H : Type 0} → State H → (try done : Bool) → H → State H
past_join c try done h = record c {
  at = suc c.at;
  stack = told try done (drop 1 c.stack);
  listed = c.listed ++ joined h c.line ∷ [];
}
