-- A revision whose first leg is its last, and what is kept of it.
--   Fresh       what a revision begins with
--   IsFresh     a state before its first instruction
--   ended_by    the revision behind a leg that ends it
--   Known       what is kept of a leaf revision: what it began with, but for its snapshot;
--               what it read; and what it left
--   IsKnown     of this run
--   IsValid     for a revision of another run that begins with this
--   rerooted    what it left, over another snapshot: the roots of its writes are that snapshot's
use Rattle.std.specs.Prelude.{◌≡◌, ℕ, ℤ, true, List, map, Option, Some, None, slice_get}
use Rattle.rev_num.specs.Path.{Path}
use Rattle.rev_code.specs.declared.code.Code.{Code}
use Rattle.rev_code.specs.declared.code.CodeBlock.{CodeBlock}
use Rattle.rev_code.specs.Words.{Word, fits}
use Rattle.rev_code.specs.State.{Location, Setting, State}
use Rattle.rev_code.specs.Step.{Comes, goes, traps, forks, joins, ends, stuck, reach, params}
use Rattle.rev_code.specs.Events.{start}
use Rattle.code_machine_laws.specs.Reads.{Read, reach_reads}
use Rattle.code_machine_laws.specs.Moved.{AllAgree}
use Rattle.version_map.specs.Composing.{Entry}
use Rattle.code_machine.specs.Local.{done, trapped, Local, has_ended, End, end_of}

pub record Fresh (H : Type 0) : Type 0 where
  pub block : ℕ
  pub args : List (Word H)
  -- by location
  pub snapshot : List (Word H)
  pub fuel : ℕ

abbrev pub unwritten : {H : Type 0} → List (Word H) → List (Location H)
unwritten ws = map (λ w. record { snapshot = w; written = None }) ws

pub record IsFresh {H : Type 0} (code : Code) (f : Fresh H) (c : State H) : Type 0 where
  pub body : CodeBlock
  pub is : slice_get code.blocks f.block ≡ Some body
  -- as many arguments as the block has parameters, and of their kinds
  pub fits : fits (params body) f.args ≡ true
  pub state : c ≡ start f.block body f.args (unwritten f.snapshot) f.fuel

-- the state with which the revision ends; where it comes to a fork or a join there is none
abbrev pub ended_by : {H : Type 0} → Comes H → Option (Local H)
ended_by (traps c e) = Some (has_ended c (trapped (record { cause = e; line = c.line; origin = None })))
ended_by (ends c w) = Some (has_ended c done)
ended_by (goes c) = None
ended_by (forks c n args) = None
ended_by (joins c try h) = None
ended_by stuck = None

-- ---- what is kept

pub record Known : Type 0 where
  pub path : Path
  pub block : ℕ
  pub args : List (Word Path)
  pub fuel : ℕ
  pub reads : List (Read Path)
  pub end : End Path

-- by a leg of at most so many instructions more
pub record IsKnown (s : Setting Path) (k : ℕ) (path : Path) (c : State Path) (e : Known) : Type 0 where
  pub begins : Fresh Path
  pub fresh : IsFresh s.code begins c
  pub after : Local Path
  pub ended : ended_by (reach s k c) ≡ Some after
  pub path_is : e.path ≡ path
  pub block_is : e.block ≡ begins.block
  pub args_are : e.args ≡ begins.args
  pub fuel_is : e.fuel ≡ begins.fuel
  pub reads_are : e.reads ≡ reach_reads s k c
  pub end_is : e.end ≡ end_of after

pub record IsValid (e : Known) (path : Path) (f : Fresh Path) (inputs : List ℤ) : Type 0 where
  pub path_is : e.path ≡ path
  pub block_is : e.block ≡ f.block
  pub args_are : e.args ≡ f.args
  pub fuel_is : e.fuel ≡ f.fuel
  pub reads_agree : AllAgree f.snapshot inputs e.reads

-- ---- what it leaves over another snapshot

abbrev pub root_or : {W : Type 0} → Option W → W → W
root_or None w = w
root_or (Some x) w = x

abbrev pub reroot : {W : Type 0} → (root : ℕ → Option W) → Entry W → Entry W
reroot root e = record { location = e.location; value = e.value; root = root_or (root e.location) e.root }

abbrev pub rerooted : {H : Type 0} → List (Word H) → End H → End H
rerooted snapshot e = record e { written = map (reroot (slice_get snapshot)) e.written }
