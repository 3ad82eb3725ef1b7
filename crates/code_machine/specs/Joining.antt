-- The join of a revision that has ended.
--   merges       the merge of each location, by the code's merge blocks
--   composed     what a joiner takes over of a joinee that is done (of `version_map`)
--   absorb       the joiner with the joinee's writes, text and fuel, or with the fault of the first
--                merge that faults
--   inherit      the joiner of a joinee that trapped: at a TryJoin the joinee's writes, text and
--                fuel are dropped and the joiner goes on; else the joiner traps with the joinee's
--                cause, line and origin
--   join_end     the joiner behind its join
use Rattle.std.specs.Prelude.{ℕ, ◌+◌, pos, Bool, true, false, if◌then◌else◌, List, [], ◌∷◌, ◌++◌, map, replicate, Option, Some, None, Result, Ok, Err, slice_get}
use Rattle.rev_num.specs.declared.value.NumFault.{NumFault}
use Rattle.rev_num.specs.declared.value.NumFault.TheVariants as fault
use Rattle.rev_num.specs.declared.outcome.Cause.{Cause}
use Rattle.rev_num.specs.declared.outcome.Cause.TheVariants as cause
use Rattle.rev_code.specs.declared.code.CodeVar.{CodeVar}
use Rattle.rev_code.specs.Words.{Word, int}
use Rattle.rev_code.specs.State.{Location, joined, State, Fun, seen_at, written_at}
use Rattle.rev_code.specs.Step.{Comes, goes, traps, forks, joins, ends, stuck, value_at}
use Rattle.rev_code.specs.Funs.{values}
use Rattle.rev_code.specs.Events.{past_join}
use Rattle.version_map.specs.Composing.{Entry, Merges, Composition, composed}
use Rattle.code_machine.specs.Local.{CodeRun, Trap, Phase, running, done, trapped, Local, at_work, has_ended, End, end_of}
use Rattle.code_machine.specs.Leg.{leg}

-- ---- merges

abbrev pub merge_in : CodeVar → Option ℕ
merge_in v = if v.cumulative then Some v.merge else None

-- of each location: the merge block of its variable, or none where it is versioned
abbrev pub merges_of : List CodeVar → List (Option ℕ)
merges_of [] = []
merges_of (v ∷ vs) = replicate v.cells (merge_in v) ++ merges_of vs

-- a merge of verified code has a value, or one of these two faults
abbrev pub fault_of : Cause → NumFault
fault_of cause.ZeroDivisor = fault.ZeroDivisor
fault_of _ = fault.Overflow

abbrev pub word_or_fault : {H : Type 0} → Option (Result (Word H) Cause) → Result (Word H) NumFault
word_or_fault (Some (Ok w)) = Ok w
word_or_fault (Some (Err e)) = Err (fault_of e)
word_or_fault None = Err fault.Overflow

-- a versioned location takes the joinee's word, a cumulative one what its block gives for the three
abbrev pub merged_by : {H : Type 0}
    → List (Fun H) → Option ℕ → (main join root : Word H) → Result (Word H) NumFault
merged_by funs None main join root = Ok join
merged_by funs (Some n) main join root =
    word_or_fault (value_at (slice_get funs n) (main ∷ join ∷ root ∷ []))

-- of the location with this number; beyond the last there is none
abbrev pub merged_there : {H : Type 0}
    → List (Fun H) → Option (Option ℕ) → (main join root : Word H) → Result (Word H) NumFault
merged_there funs None main join root = Ok join
merged_there funs (Some n) main join root = merged_by funs n main join root

abbrev pub merges : {H : Type 0} → CodeRun → Merges (Word H)
merges g n = merged_there (values g.code) (slice_get (merges_of g.code.vars) n)

-- ---- words

-- the word of the joiner's view; beyond the last location 0
abbrev pub main_at : {H : Type 0} → Option (Word H) → Word H
main_at None = int (pos 0)
main_at (Some w) = w

-- the joiner's view where the joinee wrote
abbrev pub mains : {H : Type 0} → List (Location H) → List (Entry (Word H)) → List (Word H)
mains ls es = map (λ e. main_at (seen_at ls e.location)) es

-- the new words, each written to its location
abbrev pub written_all : {H : Type 0}
    → List (Location H) → List (Entry (Word H)) → List (Word H) → List (Location H)
written_all ls (e ∷ es) (w ∷ ws) = written_all (written_at ls e.location w) es ws
written_all ls [] ws = ls
written_all ls (e ∷ es) [] = ls

-- ---- joiners

-- with the join in its list
abbrev pub note : {H : Type 0} → H → State H → State H
note h c = record c { listed = c.listed ++ joined h c.line ∷ [] }

abbrev pub trap_at : {H : Type 0} → H → State H → (origin : Option H) → Cause → ℕ → Local H
trap_at h c origin e line =
    has_ended (note h c) (trapped (record { cause = e; line = line; origin = origin }))

abbrev pub absorb : {H : Type 0}
    → State H → (try : Bool) → H → End H → Composition (Word H) → Local H
absorb c try h j (Ok ws) = at_work (record (past_join c try true h) {
  locations = written_all c.locations j.written ws;
  fuel = c.fuel + j.fuel;
  text = c.text ++ j.text;
})
absorb c try h j (Err f) = trap_at h c None (cause.Merge f.0 f.1) c.line

-- the revision that trapped first, where h has this trap
abbrev pub origin_of : {H : Type 0} → H → Option H → H
origin_of h None = h
origin_of h (Some first) = first

abbrev pub inherit : {H : Type 0} → State H → (try : Bool) → H → Trap H → Local H
inherit c true h t = at_work (past_join c true false h)
inherit c false h t = trap_at h c (Some (origin_of h t.origin)) t.cause t.line

-- where the joinee has not ended there is no join
abbrev pub join_in : {H : Type 0} → CodeRun → State H → (try : Bool) → H → End H → Phase H → Local H
join_in g c try h j done =
    absorb c try h j (composed (merges g) (mains c.locations j.written) j.written)
join_in g c try h j (trapped t) = inherit c try h t
join_in g c try h j running = at_work c

-- a joiner whose leg comes to this, after it joined a revision with this end
abbrev pub join_end : {H : Type 0} → CodeRun → Local H → Comes H → End H → Local H
join_end g l (joins c try h) j = join_in g c try h j j.phase
join_end g l (goes c) j = l
join_end g l (traps c e) j = l
join_end g l (forks c n args) j = l
join_end g l (ends c w) j = l
join_end g l stuck j = l

-- the joiner after its leg, which joined this revision
abbrev pub join : {H : Type 0} → CodeRun → Local H → Local H → Local H
join g l j = join_end g l (leg g l.state) (end_of j)
