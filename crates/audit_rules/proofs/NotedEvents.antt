-- What each event does to the list of forks and joins.
use Rattle.std.proofs.Common.{◌≡◌, ℕ, zero, suc, ◌+◌, Bool, true, false, cond, List, [], ◌∷◌, ◌++◌, length, Option, Some, None, Result, Ok, Err, refl, subst}
use Rattle.std.specs.Prelude.{nat_le, if◌then◌else◌}
use Rattle.rev_num.specs.Path.{Path, child}
use Rattle.rev_num.specs.declared.value.Value.{Value}
use Rattle.rev_num.specs.declared.value.Value.TheVariants as v
use Rattle.rev_num.specs.declared.outcome.Cause.{Cause}
use Rattle.rev_num.specs.declared.outcome.Cause.TheVariants as cause
use Rattle.rev_syntax.specs.Trees.{RightSide, plain, called, tried, Statement, statement, bind, assign, assign_cell, choose, choose_or, repeat, call, return, fork, join, print, assert, Statements, no_statements, statements}
use Rattle.rev_syntax.specs.Trees as t
use Rattle.revision_machine.specs.Machine.{Event, Moves, Forks, Joins, Ended}
use Rattle.name_tables.specs.Names.{Name}
use Rattle.typed_programs.specs.Value.{and_then, truth_of, number_of}
use Rattle.typed_programs.specs.Layout.{SharedVariable, variables, procedures}
use Rattle.revision_calculus.specs.Program.{variable_named, procedure_named, Setting}
use Rattle.revision_calculus.specs.State.{write_at, Frame, Noted, forked, joined, Phase, running, joining, done, trapped, Local}
use Rattle.revision_calculus.specs.Evaluation.{eval, evals, set_named, set, give, cell_location}
use Rattle.revision_calculus.specs.Step as spec
use Rattle.revision_calculus.specs.Step.{traps, with_answer, enter, select, most_frames, frame_of, calls, end_frame, forker, joins, item_texts, line_of, by_right, does, begins, by_rest, by_frames, by_phase, next}
use Rattle.revision_calculus.specs.Join.{Composition, merged, faults, absorb, inherit, join_in, left_side, note, compose, merges_of}
use Rattle.revision_calculus.specs.Join as whole

-- a local statement lists nothing, a fork its child, which begins with an empty list
abbrev pub Lists : Path → List Noted → Event Local → Type 0
Lists r ns (Moves l') = l'.noted ≡ ns
Lists r ns (Forks l' c) = ((k : ℕ) × (line : ℕ) × (l'.noted ≡ ns ++ forked (child r k) line ∷ [])) × (c.noted ≡ [])
Lists r ns (Joins q) = Unit {0}
Lists r ns Ended = Unit {0}

pub set_noted : (s : Setting) (l : Local) (name : Name) (x : Value) → (set s l name x).noted ≡ l.noted
set_noted s l name x = go (variable_named (variables s.program) name)
  where
    go : (o : Option SharedVariable) → (set_named o l name x).noted ≡ l.noted
    go (Some y) = refl
    go None = refl

pub give_noted : (s : Setting) (l : Local) (left : Option Name) (x : Option Value) → (give s l left x).noted ≡ l.noted
give_noted s l (Some name) (Some x) = set_noted s l name x
give_noted s l (Some name) None = refl
give_noted s l None x = refl

returned_noted : (s : Setting) (l : Local) (fs : List Frame) (x : Option Value) → (end_frame s l fs x).noted ≡ l.noted
returned_noted s l [] x = refl
returned_noted s l (f ∷ []) x = refl
returned_noted s l (f ∷ g ∷ fs) x = give_noted s (record l { frames = g ∷ fs }) f.left x

module _ (s : Setting) (r : Path) (l : Local) where
  abbrev Ok_here : Event Local → Type 0
  Ok_here e = Lists r l.noted e

  answer_lists : {A : Type 0} (a : Result A Cause) (go : A → Event Local) → ((x : A) → Ok_here (go x))
      → Ok_here (with_answer r l a go)
  answer_lists (Ok x) go k = k x
  answer_lists (Err c) go k = refl

  cond_lists : (b : Bool) (x y : Event Local) → Ok_here x → Ok_here y → Ok_here (cond b x y)
  cond_lists true x y p q = p
  cond_lists false x y p q = q

  cond_same : (b : Bool) (x y : Local) → x.noted ≡ l.noted → y.noted ≡ l.noted → (cond b x y).noted ≡ l.noted
  cond_same true x y p q = p
  cond_same false x y p q = q

  calls_lists : (left : Option Name) (name : Name) (args : List Value) → Ok_here (calls s r l left name args)
  calls_lists left name args =
      cond_lists (nat_le most_frames (length l.frames)) (traps r l cause.CallDepth)
      (Moves (record l { frames = frame_of (procedure_named (procedures s.program) name) args left ∷ l.frames })) refl
      refl

  forks_lists : (left : Option Name) (name : Name) (args : List Value) → Ok_here (spec.forks s r l left name args)
  forks_lists left name args =
      ((l.forks, l.line, give_noted s (forker s r l) left (Some (v.Rev (Some (child r l.forks))))), refl)

  joins_lists : (left : Option Name) (x : Value) → Ok_here (joins r l left x)
  joins_lists left (v.Rev (Some q)) = refl
  joins_lists left (v.Rev None) = refl
  joins_lists left (v.Int z) = refl
  joins_lists left (v.Bool b) = refl

  right_lists : (name : Name) (right : RightSide) → Ok_here (by_right s r l name right)
  right_lists name (plain e) = answer_lists (eval s l e) (λ x. Moves (set s l name x)) (λ x. set_noted s l name x)
  right_lists name (called at p args) =
      answer_lists (evals s l args) (calls s r l (Some name) p.text) (calls_lists (Some name) p.text)
  right_lists name (t.forked at p args) =
      answer_lists (evals s l args) (spec.forks s r l (Some name) p.text) (forks_lists (Some name) p.text)
  right_lists name (tried at handle) = answer_lists (eval s l handle) (joins r l (Some name)) (joins_lists (Some name))

  does_lists : (x : Statement) → Ok_here (does s r l x)
  does_lists (statement at line (bind x right)) = right_lists x.text right
  does_lists (statement at line (assign x right)) = right_lists x.text right
  does_lists (statement at line (assign_cell a index e)) =
      answer_lists (and_then (eval s l index) (λ i. cell_location s a.text (number_of i)))
      (λ n. with_answer r l (eval s l e) (λ x. Moves (record l { locations = write_at l.locations n x })))
      (λ n. answer_lists (eval s l e) (λ x. Moves (record l { locations = write_at l.locations n x })) (λ x. refl))
  does_lists (statement at line (choose arms)) =
      answer_lists (select s l arms no_statements) (λ block. Moves (enter block l)) (λ block. refl)
  does_lists (statement at line (choose_or arms last)) =
      answer_lists (select s l arms last) (λ block. Moves (enter block l)) (λ block. refl)
  does_lists (statement at line (repeat test block)) =
      answer_lists (eval s l test)
      (λ x. Moves (if truth_of x
      then enter block (enter (statements (statement at line (repeat test block)) no_statements) l) else l))
      (λ x. cond_same (truth_of x)
      (enter block (enter (statements (statement at line (repeat test block)) no_statements) l)) l refl refl)
  does_lists (statement at line (call p args)) =
      answer_lists (evals s l args) (calls s r l None p.text) (calls_lists None p.text)
  does_lists (statement at line (return None)) = returned_noted s l l.frames None
  does_lists (statement at line (return (Some e))) =
      answer_lists (eval s l e) (λ x. Moves (end_frame s l l.frames (Some x)))
      (λ x. returned_noted s l l.frames (Some x))
  does_lists (statement at line (fork p args)) =
      answer_lists (evals s l args) (spec.forks s r l None p.text) (forks_lists None p.text)
  does_lists (statement at line (join handle)) = answer_lists (eval s l handle) (joins r l None) (joins_lists None)
  does_lists (statement at line (print items)) =
      answer_lists (item_texts s l items) (λ xs. Moves (record l { text = l.text ++ line_of xs })) (λ xs. refl)
  does_lists (statement at line (assert test)) =
      answer_lists (eval s l test) (λ x. if truth_of x then Moves l else traps r l cause.Assert)
      (λ x. cond_lists (truth_of x) (Moves l) (traps r l cause.Assert) refl refl)

module _ (s : Setting) (r : Path) (l : Local) where
  begins_lists : (fuel : ℕ) (f : Frame) (fs : List Frame) (x : Statement) (rest : Statements)
      → Lists r l.noted (begins s r l fuel f fs x rest)
  begins_lists zero f fs (statement at line act) rest = refl
  begins_lists (suc fuel) f fs (statement at line act) rest =
      does_lists s r (record l { fuel = fuel; line = line; frames = record f { rest = rest } ∷ fs })
      (statement at line act)

  rest_lists : (f : Frame) (fs : List Frame) (rest : Statements) → Lists r l.noted (by_rest s r l f fs rest)
  rest_lists f fs no_statements = returned_noted s l (f ∷ fs) None
  rest_lists f fs (statements x rest) = begins_lists l.fuel f fs x rest

  frames_lists : (fs : List Frame) → Lists r l.noted (by_frames s r l fs)
  frames_lists [] = refl
  frames_lists (f ∷ fs) = rest_lists f fs f.rest

  phase_lists : (p : Phase) → Lists r l.noted (by_phase s r l p)
  phase_lists running = frames_lists l.frames
  phase_lists (joining q left) = tt
  phase_lists done = tt
  phase_lists (trapped tr) = tt

  pub event_lists : {e : Event Local} → next s r l ≡ e → Lists r l.noted e
  event_lists is = subst (Lists r l.noted) is (phase_lists l.phase)

  -- a join lists itself
  pub join_noted : (q : Path) (j : Local) → (whole.join s r l q j).noted ≡ l.noted ++ joined q l.line ∷ []
  join_noted q j = go j.phase
    where
      by_compose : (c : Composition)
          → (absorb s r (note q l) (left_side l.phase) j c).noted ≡ l.noted ++ joined q l.line ∷ []
      by_compose (faults n f) = refl
      by_compose (merged locations) =
          give_noted s (record (note q l) {
            locations = locations;
            text = l.text ++ j.text;
            fuel = l.fuel + j.fuel;
            phase = running;
          }) (left_side l.phase) (Some (v.Bool true))

      by_drop : (left : Option Name) (p : Phase) → (inherit s (note q l) left p).noted ≡ l.noted ++ joined q l.line ∷ []
      by_drop None p = refl
      by_drop (Some name) p = give_noted s (record (note q l) { phase = running }) (Some name) (Some (v.Bool false))

      go : (p : Phase) → (join_in s r (note q l) (left_side l.phase) j p).noted ≡ l.noted ++ joined q l.line ∷ []
      go done = by_compose (compose s.program 0 (merges_of (variables s.program)) l.locations j.locations)
      go (trapped tr) = by_drop (left_side l.phase) (trapped tr)
      go running = refl
      go (joining p left) = refl
