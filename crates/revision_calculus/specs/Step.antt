-- What a revision does next: a step of its own, a fork, a join, or nothing more.
--
-- `traps` ends it with a cause; `enter` puts a block before what remains and `select` finds the block of an `if`;
-- `calls` adds a frame and `end_frame` ends one; `forks` makes a child with a part of the fuel;
-- `joins` comes to a join;
-- `does` is what each statement does, and `next` the event of a revision.
use Rattle.std.specs.Prelude.{ℕ, zero, suc, ◌-◌, ◌/◌, min, nat_le, if◌then◌else◌, List, [], ◌∷◌, ◌++◌, length, map, Option, Some, None, Result, Ok, Err}
use Rattle.std.specs.List.{join_with_byte, zip}
-- the first of these names with the first of these values, and so on
pub use Rattle.std.specs.List.{zip as locals_of}
use Rattle.rev_num.specs.Path.{Path, child}
use Rattle.rev_num.specs.declared.value.Value.{Value}
use Rattle.rev_num.specs.declared.value.Value.TheVariants as v
use Rattle.rev_num.specs.declared.outcome.Cause.{Cause}
use Rattle.rev_num.specs.declared.outcome.Cause.TheVariants as cause
use Rattle.rev_syntax.specs.Trees.{RightSide, plain, called, tried, PrintItem, text, shown, Statement, statement, bind, assign, assign_cell, choose, choose_or, repeat, call, return, fork, join, print, assert, Statements, no_statements, statements, Arms, no_arms, arm}
use Rattle.rev_syntax.specs.Trees as t
use Rattle.rev_report.specs.Lines.{space, with_line_feed}
use Rattle.rev_report.specs.Outcome.{value_text}
use Rattle.revision_machine.specs.Machine.{Event, Moves, Forks, Joins, Ended}
use Rattle.name_tables.specs.Names.{Name}
use Rattle.typed_programs.specs.Value.{and_then, truth_of, number_of}
use Rattle.typed_programs.specs.Layout.{procedures, Procedure}
use Rattle.revision_calculus.specs.Program.{procedure_named, Setting}
use Rattle.revision_calculus.specs.State.{begun, view, write_at, Frame, forked, Phase, running, joining, done, trapped, Local}
use Rattle.revision_calculus.specs.Evaluation.{eval, evals, on_top, set, give, cell_location}
pub use Rattle.rev_num.specs.Limits.{most_frames}

-- ---- traps

-- r traps with this cause, at the line charged last
abbrev pub traps : Path → Local → Cause → Event Local
traps r l c = Moves (record l { phase = trapped (record { cause = c; line = l.line; origin = r }) })

-- the revision goes on with what was computed, or traps with its cause
abbrev pub with_answer : {A : Type 0} → Path → Local → Result A Cause → (A → Event Local) → Event Local
with_answer r l (Ok x) go = go x
with_answer r l (Err c) go = traps r l c

-- ---- blocks

-- the first statements, and then the others
abbrev pub append : Statements → Statements → Statements
append no_statements ys = ys
append (statements x xs) ys = statements x (append xs ys)

-- the statements of a block are put before the rest of the top frame
abbrev pub enter : Statements → Local → Local
enter block l = record l { frames = on_top (λ f. record f { rest = append block f.rest }) l.frames }

-- the block of the first test that is true, or the last one
abbrev pub select : Setting → Local → Arms → Statements → Result Statements Cause
select s l no_arms last = Ok last
select s l (arm test block arms) last =
    and_then (eval s l test) (λ x. if truth_of x then Ok block else select s l arms last)

-- ---- frames

-- a frame of a procedure, whose arguments are in its parameters
abbrev pub frame_of : Procedure → List Value → Option Name → Frame
frame_of p args left = record { locals = zip p.params args; rest = p.body; left = left }

abbrev pub calls : Setting → Path → Local → Option Name → Name → List Value → Event Local
calls s r l left name args =
    if nat_le most_frames (length l.frames) then traps r l cause.CallDepth
    else Moves (record l { frames = frame_of (procedure_named (procedures s.program) name) args left ∷ l.frames })

abbrev pub finish : Local → Local
finish l = record l { frames = []; phase = done }

-- the top frame of these ends with this value or none; in the first frame the revision is done
abbrev pub end_frame : Setting → Local → List Frame → Option Value → Local
end_frame s l [] x = finish l
end_frame s l (f ∷ []) x = finish l
end_frame s l (f ∷ g ∷ fs) x = give s (record l { frames = g ∷ fs }) f.left x

-- ---- forks and joins

-- what a fork gives to its child of the fuel that is left
abbrev pub part : Setting → ℕ → ℕ
part s fuel = min s.share (fuel / 2)

-- the forker keeps the rest, counts the fork and lists it
abbrev pub forker : Setting → Path → Local → Local
forker s r l = record l {
  fuel = l.fuel - part s l.fuel;
  forks = suc l.forks;
  noted = l.noted ++ forked (child r l.forks) l.line ∷ [];
}

-- the child begins the procedure in the forker's view
abbrev pub new_child : Setting → Local → Procedure → List Value → Local
new_child s l p args = begun (map view l.locations) (frame_of p args None) (part s l.fuel)

abbrev pub forks : Setting → Path → Local → Option Name → Name → List Value → Event Local
forks s r l left name args =
    Forks
    (give s (forker s r l) left (Some (v.Rev (Some (child r l.forks)))))
    (new_child s l (procedure_named (procedures s.program) name) args)

abbrev pub joins : Path → Local → Option Name → Value → Event Local
joins r l left (v.Rev (Some q)) = Moves (record l { phase = joining q left })
joins r l left _ = traps r l cause.JoinNone

-- ---- print

abbrev pub item_text : Setting → Local → PrintItem → Result (List ℕ) Cause
item_text s l (text at bytes) = Ok bytes
item_text s l (shown e) = and_then (eval s l e) (λ x. Ok (value_text x))

abbrev pub item_texts : Setting → Local → List PrintItem → Result (List (List ℕ)) Cause
item_texts s l [] = Ok []
item_texts s l (i ∷ is) = and_then (item_text s l i) (λ x. and_then (item_texts s l is) (λ xs. Ok (x ∷ xs)))

-- one space between two items, and a line feed
abbrev pub line_of : List (List ℕ) → List ℕ
line_of items = with_line_feed (join_with_byte space items)

-- ---- statements

-- a right side, whose value goes to the left side of this name
abbrev pub by_right : Setting → Path → Local → Name → RightSide → Event Local
by_right s r l name (plain e) = with_answer r l (eval s l e) (λ x. Moves (set s l name x))
by_right s r l name (called at p args) = with_answer r l (evals s l args) (calls s r l (Some name) p.text)
by_right s r l name (t.forked at p args) = with_answer r l (evals s l args) (forks s r l (Some name) p.text)
by_right s r l name (tried at handle) = with_answer r l (eval s l handle) (joins r l (Some name))

-- what a statement does to a revision that paid for it, and in whose top frame it no longer stands
abbrev pub does : Setting → Path → Local → Statement → Event Local
does s r l (statement at line (bind x right)) = by_right s r l x.text right
does s r l (statement at line (assign x right)) = by_right s r l x.text right
does s r l (statement at line (assign_cell a index e)) =
    with_answer r l (and_then (eval s l index) (λ i. cell_location s a.text (number_of i)))
    (λ n. with_answer r l (eval s l e) (λ x. Moves (record l { locations = write_at l.locations n x })))
does s r l (statement at line (choose arms)) =
    with_answer r l (select s l arms no_statements) (λ block. Moves (enter block l))
does s r l (statement at line (choose_or arms last)) =
    with_answer r l (select s l arms last) (λ block. Moves (enter block l))
does s r l (statement at line (repeat test block)) =
    with_answer r l (eval s l test)
    (λ x. Moves (
    if truth_of x then enter block (enter (statements (statement at line (repeat test block)) no_statements) l) else l))
does s r l (statement at line (call p args)) = with_answer r l (evals s l args) (calls s r l None p.text)
does s r l (statement at line (return None)) = Moves (end_frame s l l.frames None)
does s r l (statement at line (return (Some e))) =
    with_answer r l (eval s l e) (λ x. Moves (end_frame s l l.frames (Some x)))
does s r l (statement at line (fork p args)) = with_answer r l (evals s l args) (forks s r l None p.text)
does s r l (statement at line (join handle)) = with_answer r l (eval s l handle) (joins r l None)
does s r l (statement at line (print items)) =
    with_answer r l (item_texts s l items) (λ xs. Moves (record l { text = l.text ++ line_of xs }))
does s r l (statement at line (assert test)) =
    with_answer r l (eval s l test) (λ x. if truth_of x then Moves l else traps r l cause.Assert)

-- a statement begins: it pays 1, or the revision traps with the statement's line
abbrev pub begins : Setting → Path → Local → (fuel : ℕ) → Frame → List Frame → Statement → Statements → Event Local
begins s r l zero f fs (statement at line form) rest = traps r (record l { line = line }) cause.Spent
begins s r l (suc fuel) f fs (statement at line form) rest =
    does s r (record l { fuel = fuel; line = line; frames = record f { rest = rest } ∷ fs }) (statement at line form)

-- the next statement of the top frame, or the end of that frame
abbrev pub by_rest : Setting → Path → Local → Frame → List Frame → Statements → Event Local
by_rest s r l f fs no_statements = Moves (end_frame s l (f ∷ fs) None)
by_rest s r l f fs (statements x rest) = begins s r l l.fuel f fs x rest

abbrev pub by_frames : Setting → Path → Local → List Frame → Event Local
by_frames s r l [] = Moves (finish l)
by_frames s r l (f ∷ fs) = by_rest s r l f fs f.rest

abbrev pub by_phase : Setting → Path → Local → Phase → Event Local
by_phase s r l running = by_frames s r l l.frames
by_phase s r l (joining q left) = Joins q
by_phase s r l _ = Ended

abbrev pub next : Setting → Path → Local → Event Local
next s r l = by_phase s r l l.phase
