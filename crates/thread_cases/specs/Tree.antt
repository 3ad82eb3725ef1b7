-- A tree of revisions as a machine by numbers. Each but the leaves forks two children and joins two revisions, or the
-- first one forks leaves in rounds, and joins them, or forks two revisions with rounds of their own, or a leaf and one
-- of these.
--   next, joined   what a revision does next, and what a join makes of it
--   goes_on, is_early   it has not ended, or may fork
use Rattle.std.specs.Prelude.{◌≡◌, ℕ, ◌+◌, ◌-◌, ◌^◌, ◌==◌, min, Bool, true, false, cond}
use Rattle.revision_machine.specs.Numbered.{Wish, Bears, Wants, Goes, Stops}
use Rattle.thread_cases.specs.declared.node.Node.{Node}
use Rattle.thread_cases.specs.declared.node.Way.{Way}
use Rattle.thread_cases.specs.declared.node.Way.TheVariants.{Adds, Again, Traps, Tries, Rounds, Strays, Pairs, Beside}
use Rattle.thread_cases.specs.declared.node.Stage.{Stage}
use Rattle.thread_cases.specs.declared.node.Stage.TheVariants.{Begins, Forked, JoinsFirst, JoinsSecond, Between, Ends, Over}

-- the leaves of such a tree end by a trap
abbrev pub leaf_traps : Way → Bool
leaf_traps Adds = false
leaf_traps Again = false
leaf_traps Traps = true
leaf_traps Tries = true
leaf_traps Rounds = false
leaf_traps Strays = false
leaf_traps Pairs = false
leaf_traps Beside = false

-- a joiner in such a tree outlives a trap
abbrev pub outlives : Way → Bool
outlives Adds = false
outlives Again = false
outlives Traps = false
outlives Tries = true
outlives Rounds = false
outlives Strays = false
outlives Pairs = false
outlives Beside = false

abbrev pub root : Way → ℕ → Node
root way depth = record {
  way = way;
  depth = depth;
  stage = Begins;
  first = 0;
  second = 0;
  forks = 0;
  leaves = 0;
  trapped = false;
  by_join = false;
}

-- what a revision forks that forks its first child, or its second
abbrev pub first_child : Way → Node → Node
first_child Adds l = root Adds (l.depth - 1)
first_child Again l = root Again (l.depth - 1)
first_child Traps l = root Traps (l.depth - 1)
first_child Tries l = root Tries (l.depth - 1)
first_child Rounds l = root Rounds 0
first_child Strays l = root Strays 0
first_child Pairs l = root Rounds l.depth
first_child Beside l = root Beside 0

abbrev pub second_child : Way → Node → Node
second_child Adds l = root Adds (l.depth - 1)
second_child Again l = root Again (l.depth - 1)
second_child Traps l = root Traps (l.depth - 1)
second_child Tries l = root Tries (l.depth - 1)
second_child Rounds l = root Rounds 0
second_child Strays l = root Strays 0
second_child Pairs l = root Strays l.depth
second_child Beside l = root Rounds l.depth

abbrev pub child_at : Stage → Node → Node
child_at Begins l = first_child l.way l
child_at Forked l = second_child l.way l
child_at JoinsFirst l = first_child l.way l
child_at JoinsSecond l = first_child l.way l
child_at Between l = first_child l.way l
child_at Ends l = first_child l.way l
child_at Over l = first_child l.way l

-- what it forks
abbrev pub child_of : Node → Node
child_of l = child_at l.stage l

-- behind a round
abbrev pub next_round : Node → Node
next_round l = record l { depth = l.depth - 1; stage = Between }

-- once it knows the number of a leaf that strays: it joins the one before, where there is one
abbrev pub strayed : Node → ℕ → Node
strayed l n =
    cond (l.second == 0) (next_round (record l { first = l.second; second = n }))
    (record l { first = l.second; second = n; stage = JoinsSecond })

abbrev pub first_told : Way → Node → ℕ → Node
first_told Adds l n = record l { first = n; stage = Forked }
first_told Again l n = record l { first = n; stage = Forked }
first_told Traps l n = record l { first = n; stage = Forked }
first_told Tries l n = record l { first = n; stage = Forked }
first_told Rounds l n = record l { first = n; stage = JoinsFirst }
first_told Strays l n = record l { first = n; stage = JoinsFirst }
first_told Pairs l n = record l { first = n; stage = Forked }
first_told Beside l n = record l { first = n; stage = Forked }

abbrev pub second_told : Way → Node → ℕ → Node
second_told Adds l n = record l { second = n; stage = JoinsFirst }
second_told Again l n = record l { second = n; stage = JoinsFirst }
second_told Traps l n = record l { second = n; stage = JoinsFirst }
second_told Tries l n = record l { second = n; stage = JoinsFirst }
second_told Rounds l n = record l { second = n; stage = JoinsFirst }
second_told Strays l n = strayed l n
second_told Pairs l n = record l { second = n; stage = JoinsFirst }
second_told Beside l n = record l { second = n; stage = JoinsFirst }

abbrev pub counted : Node → Node
counted l = record l { forks = min (l.forks + 1) (2 ^ 32 - 1) }

-- the forker, once it knows its child's number
abbrev pub told_at : Stage → Node → ℕ → Node
told_at Begins l n = first_told l.way (counted l) n
told_at Forked l n = second_told l.way (counted l) n
told_at JoinsFirst l n = l
told_at JoinsSecond l n = l
told_at Between l n = first_told l.way (counted l) n
told_at Ends l n = l
told_at Over l n = l

abbrev pub after_fork : Node → ℕ → Node
after_fork l n = told_at l.stage l n

-- behind the join of its first child, and behind another join
abbrev pub first_joined : Way → Node → Node
first_joined Adds l = record l { stage = JoinsSecond }
first_joined Again l = record l { stage = JoinsSecond }
first_joined Traps l = record l { stage = JoinsSecond }
first_joined Tries l = record l { stage = JoinsSecond }
first_joined Rounds l = next_round l
first_joined Strays l = record l { stage = Forked }
first_joined Pairs l = record l { stage = JoinsSecond }
first_joined Beside l = record l { stage = JoinsSecond }

abbrev pub second_joined : Way → Node → Node
second_joined Adds l = record l { stage = Ends }
second_joined Again l = record l { stage = Ends }
second_joined Traps l = record l { stage = Ends }
second_joined Tries l = record l { stage = Ends }
second_joined Rounds l = next_round l
second_joined Strays l = next_round l
second_joined Pairs l = record l { stage = Ends }
second_joined Beside l = record l { stage = Ends }

abbrev pub behind_join : Stage → Node → Node
behind_join Begins l = second_joined l.way l
behind_join Forked l = second_joined l.way l
behind_join JoinsFirst l = first_joined l.way l
behind_join JoinsSecond l = second_joined l.way l
behind_join Between l = second_joined l.way l
behind_join Ends l = second_joined l.way l
behind_join Over l = second_joined l.way l

-- the number that it joins
abbrev pub joinee_at : Stage → Way → Node → ℕ
joinee_at JoinsSecond Adds l = l.second
joinee_at JoinsSecond Again l = l.first
joinee_at JoinsSecond Traps l = l.second
joinee_at JoinsSecond Tries l = l.second
joinee_at JoinsSecond Rounds l = l.first
joinee_at JoinsSecond Strays l = l.first
joinee_at JoinsSecond Pairs l = l.second
joinee_at JoinsSecond Beside l = l.first
joinee_at Begins way l = l.first
joinee_at Forked way l = l.first
joinee_at JoinsFirst way l = l.first
joinee_at Between way l = l.first
joinee_at Ends way l = l.first
joinee_at Over way l = l.first

abbrev pub joinee : Node → ℕ
joinee l = joinee_at l.stage l.way l

abbrev pub outlived : Node → Node
outlived l = behind_join l.stage l

-- it takes the leaves in, or outlives the trap of its joinee, or is trapped by it
abbrev pub joined : Node → Node → Node
joined l e = cond e.trapped
    (cond (outlives l.way) (outlived l) (record l { stage = Over; trapped = true; by_join = true }))
    (record (outlived l) { leaves = min (l.leaves + e.leaves) (2 ^ 32 - 1) })

-- the end of its last leg: a leaf counts itself
abbrev pub ended_at : Stage → Node → Node
ended_at Begins l = record l { stage = Over; leaves = 1; trapped = leaf_traps l.way; by_join = false }
ended_at Forked l = record l { stage = Over; by_join = false }
ended_at JoinsFirst l = record l { stage = Over; by_join = false }
ended_at JoinsSecond l = record l { stage = Over; by_join = false }
ended_at Between l = record l { stage = Over; by_join = false }
ended_at Ends l = record l { stage = Over; by_join = false }
ended_at Over l = record l { stage = Over; by_join = false }

abbrev pub ended : Node → Node
ended l = ended_at l.stage l

abbrev pub next_at : Stage → Node → Wish Node
next_at Begins l = cond (l.depth == 0) (Goes (ended l)) (Bears (after_fork l) (child_of l))
next_at Forked l = Bears (after_fork l) (child_of l)
next_at JoinsFirst l = Wants (joinee l)
next_at JoinsSecond l = Wants (joinee l)
next_at Between l = cond (l.depth == 0) (Goes (ended l)) (Bears (after_fork l) (child_of l))
next_at Ends l = Goes (ended l)
next_at Over l = Stops

abbrev pub next : Node → Wish Node
next l = next_at l.stage l

-- an end is the state in which its revision ended
abbrev pub is_end : Node → Node → Type 0
is_end e l = e ≡ l

-- it has not ended
abbrev pub goes_on : Stage → Bool
goes_on Begins = true
goes_on Forked = true
goes_on JoinsFirst = true
goes_on JoinsSecond = true
goes_on Between = true
goes_on Ends = true
goes_on Over = false

-- it may fork
abbrev pub is_early : Stage → Bool
is_early Begins = true
is_early Forked = true
is_early JoinsFirst = false
is_early JoinsSecond = false
is_early Between = true
is_early Ends = false
is_early Over = false
