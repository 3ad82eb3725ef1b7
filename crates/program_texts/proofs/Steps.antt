-- Each step of a revision whose state fits gives states that fit.
use Rattle.std.proofs.Common.{◌≡◌, ℕ, zero, suc, ◌+◌, ◌<◌, ◌^◌, Bool, true, false, cond, List, [], ◌∷◌, ◌++◌, map, length, Option, Some, None, Result, Ok, Err, subst, arith}
use Rattle.std.specs.Prelude.{nat_le, if◌then◌else◌}
use Rattle.std.specs.List.{AllByRecursion}
use Rattle.rev_num.specs.Path.{Path, child}
use Rattle.rev_num.specs.declared.value.Value.{Value}
use Rattle.rev_num.specs.declared.value.Value.TheVariants as v
use Rattle.rev_num.specs.declared.outcome.Cause.{Cause}
use Rattle.rev_num.specs.declared.outcome.Cause.TheVariants as cause
use Rattle.rev_syntax.specs.Trees.{RightSide, plain, called, tried, PrintItem, text, shown, Expression, Expressions, Statement, statement, bind, assign, assign_cell, choose, choose_or, repeat, call, return, fork, join, print, assert, Statements, no_statements, statements, Arms, no_arms, arm, Declaration, fun, merge, shared, proc}
use Rattle.rev_syntax.specs.Trees as t
use Rattle.revision_machine.specs.Machine.{Event, Moves, Forks, Joins, Ended}
use Rattle.name_tables.specs.Names.{Name, same}
use Rattle.typed_programs.specs.Value.{and_then, truth_of, number_of}
use Rattle.typed_programs.specs.Layout.{procedures, procedures_from, Procedure}
use Rattle.block_run.specs.Agreement.{AreInputs}
use Rattle.revision_calculus.specs.Program.{procedure_named, Setting}
use Rattle.revision_calculus.specs.State.{view, write_at, Frame, forked, Phase, running, joining, done, trapped, Local}
use Rattle.revision_calculus.specs.Evaluation.{eval, evals, set, cell_location}
use Rattle.revision_calculus.specs.Step as spec
use Rattle.revision_calculus.specs.Step.{traps, with_answer, enter, select, most_frames, frame_of, calls, finish, end_frame, forker, joins, item_text, item_texts, line_of, by_right, does, begins, by_rest, by_frames, by_phase, next}
use Rattle.revision_calculus.proofs.Values.{OfOk, then_ok}
use Rattle.trace_diagram.specs.Lines.{FitsPath, FitsValue}
use Rattle.trace_diagram.proofs.Forks.{fits_more}
use Rattle.program_texts.specs.Written.{ExpressionWritten, ExpressionsWritten, RightSideWritten, ItemWritten, StatementWritten, StatementsWritten, ArmsWritten, DeclarationWritten, IsWritten}
use Rattle.program_texts.proofs.WrittenTexts.{IsPrinted, items_printed, more_lines, no_lines, one_line, text_printed, value_printed}
use Rattle.program_texts.proofs.WrittenValues.{FitsIfAny, FitsEach}
use Rattle.program_texts.proofs.States.{FrameFits, FramesFit, StateFits, entered_fits, eval_fits, evals_fit, frame_fits, fresh_fits, give_fits, noted_more, set_fits, views_fit, with_frames, with_locations, with_phase, write_fits}

-- ---- procedures

procedures_written : (d : ℕ) (es : List Declaration) → AllByRecursion DeclarationWritten es
    → AllByRecursion (λ p. StatementsWritten p.body) (procedures_from d es)
procedures_written d [] h = tt
procedures_written d (fun w ps r body ∷ es) h = procedures_written (d + 1) es h.1
procedures_written d (merge w m j r body ∷ es) h = procedures_written (d + 1) es h.1
procedures_written d (shared x ∷ es) h = procedures_written (d + 1) es h.1
procedures_written d (proc w ps r body ∷ es) h = (h.0, procedures_written (d + 1) es h.1)

named_written : (ps : List Procedure) (name : Name) → AllByRecursion (λ p. StatementsWritten p.body) ps
    → StatementsWritten (procedure_named ps name).body
named_written [] name h = tt
named_written (p ∷ ps) name h = by (same name p.name) (named_written ps name h.1)
  where
    by : (b : Bool) → StatementsWritten (procedure_named ps name).body
        → StatementsWritten (cond b p (procedure_named ps name)).body
    by true later = h.0
    by false later = later

-- ---- what a step gives

abbrev pub EventFits : Path → ℕ → Event Local → Type 0
EventFits r k (Moves l') = StateFits r l'
EventFits r k (Forks l' c) = StateFits r l' × StateFits (child r k) c
EventFits r k (Joins q) = Unit {0}
EventFits r k Ended = Unit {0}

-- nothing is said of what was computed
abbrev Any : {A : Type 0} → A → Type 0
Any x = Unit {0}

any_ok : {A : Type 0} (a : Result A Cause) → OfOk Any a
any_ok (Ok x) = tt
any_ok (Err c) = tt

module _ (s : Setting) (written : IsWritten s.program) (inputs : AreInputs s.inputs) (r : Path) where
  proc_written : (name : Name) → StatementsWritten (procedure_named (procedures s.program) name).body
  proc_written name =
      named_written (procedures s.program) name (procedures_written 0 s.program.declarations written.declarations)

  finish_fits : (l : Local) → StateFits r l → StateFits r (finish l)
  finish_fits l h = with_phase (with_frames h [] tt) done tt

  ended_fits : (l : Local) (fs : List Frame) (x : Option Value) → StateFits r l → FramesFit fs → FitsIfAny x
      → StateFits r (end_frame s l fs x)
  ended_fits l [] x h k fit = finish_fits l h
  ended_fits l (f ∷ []) x h k fit = finish_fits l h
  ended_fits l (f ∷ g ∷ fs) x h k fit =
      give_fits s r (record l { frames = g ∷ fs }) f.left x (with_frames h (g ∷ fs) k.1) fit

  -- a state that pays for a statement, whose forks are few
  module _ (l : Local) (h : StateFits r l) (few : l.forks < 2 ^ 32) where
    abbrev Ok_here : Event Local → Type 0
    Ok_here e = EventFits r l.forks e

    traps_fit : (c : Cause) → Ok_here (traps r l c)
    traps_fit c = with_phase h _ (h.line, h.path)

    answer_fits : {A : Type 0} (P : A → Type 0) (a : Result A Cause) (go : A → Event Local) → OfOk P a
        → ((x : A) → P x → Ok_here (go x)) → Ok_here (with_answer r l a go)
    answer_fits P (Ok x) go p k = k x p
    answer_fits P (Err c) go p k = traps_fit c

    cond_event : (b : Bool) (x y : Event Local) → Ok_here x → Ok_here y → Ok_here (cond b x y)
    cond_event true x y p q = p
    cond_event false x y p q = q

    cond_state : (b : Bool) (x y : Local) → StateFits r x → StateFits r y → StateFits r (cond b x y)
    cond_state true x y p q = p
    cond_state false x y p q = q

    of_value : (e : Expression) (go : Value → Event Local) → ExpressionWritten e
        → ((x : Value) → FitsValue x → Ok_here (go x)) → Ok_here (with_answer r l (eval s l e) go)
    of_value e go w k = answer_fits FitsValue (eval s l e) go (eval_fits s written inputs r l h e w) k

    of_values : (es : Expressions) (go : List Value → Event Local) → ExpressionsWritten es
        → ((xs : List Value) → FitsEach xs → Ok_here (go xs)) → Ok_here (with_answer r l (evals s l es) go)
    of_values es go w k = answer_fits FitsEach (evals s l es) go (evals_fit s written inputs r l h es w) k

    enter_fits : (block : Statements) → StatementsWritten block → StateFits r (enter block l)
    enter_fits block w = with_frames h _ (entered_fits block l.frames w h.frames)

    calls_fit : (left : Option Name) (name : Name) (args : List Value) → FitsEach args
        → Ok_here (calls s r l left name args)
    calls_fit left name args k =
        cond_event (nat_le most_frames (length l.frames)) (traps r l cause.CallDepth)
        (Moves (record l { frames = frame_of (procedure_named (procedures s.program) name) args left ∷ l.frames }))
        (traps_fit cause.CallDepth)
        (with_frames h _
        (frame_fits (procedure_named (procedures s.program) name) args left (proc_written name) k, h.frames))

    child_path : FitsPath (child r l.forks)
    child_path = fits_more r l.forks h.path few

    forks_fit : (left : Option Name) (name : Name) (args : List Value) → FitsEach args
        → Ok_here (spec.forks s r l left name args)
    forks_fit left name args k = (
      give_fits s r (forker s r l) left (Some (v.Rev (Some (child r l.forks))))
          (record {
            path = h.path;
            locations = h.locations;
            frames = h.frames;
            noted = noted_more l.noted (forked (child r l.forks) l.line) h.noted (child_path, h.line);
            text = h.text;
            line = h.line;
            phase = h.phase;
          }) child_path,
      record {
        path = child_path;
        locations = fresh_fits (map view l.locations) (views_fit l.locations h.locations);
        frames = (frame_fits (procedure_named (procedures s.program) name) args None (proc_written name) k, tt);
        noted = tt;
        text = no_lines;
        line = omega arith;
        phase = tt;
      },
    )

    joins_fit : (left : Option Name) (x : Value) → FitsValue x → Ok_here (joins r l left x)
    joins_fit left (v.Rev (Some q)) k = with_phase h (joining q left) k
    joins_fit left (v.Rev None) k = traps_fit cause.JoinNone
    joins_fit left (v.Int z) k = traps_fit cause.JoinNone
    joins_fit left (v.Bool true) k = traps_fit cause.JoinNone
    joins_fit left (v.Bool false) k = traps_fit cause.JoinNone

    right_fits : (name : Name) (right : RightSide) → RightSideWritten right → Ok_here (by_right s r l name right)
    right_fits name (plain e) w = of_value e (λ x. Moves (set s l name x)) w (λ x k. set_fits s r l name x h k)
    right_fits name (called at p args) w =
        of_values args (calls s r l (Some name) p.text) w (calls_fit (Some name) p.text)
    right_fits name (t.forked at p args) w =
        of_values args (spec.forks s r l (Some name) p.text) w (forks_fit (Some name) p.text)
    right_fits name (tried at handle) w = of_value handle (joins r l (Some name)) w (joins_fit (Some name))

    select_written : (arms : Arms) (last : Statements) → ArmsWritten arms → StatementsWritten last
        → OfOk StatementsWritten (select s l arms last)
    select_written no_arms last w k = k
    select_written (arm test block arms) last w k =
        then_ok Any StatementsWritten (eval s l test) (λ x. if truth_of x then Ok block else select s l arms last)
        (any_ok (eval s l test))
        (let later = select_written arms last w.2 k in λ x any. by (truth_of x) later)
      where
        by : (b : Bool) → OfOk StatementsWritten (select s l arms last)
            → OfOk StatementsWritten (if b then Ok block else select s l arms last)
        by true later = w.1
        by false later = later

    item_printed : (x : PrintItem) → ItemWritten x → OfOk IsPrinted (item_text s l x)
    item_printed (text at bytes) w = text_printed bytes w
    item_printed (shown e) w =
        then_ok FitsValue IsPrinted (eval s l e) _ (eval_fits s written inputs r l h e w) (λ x k. value_printed x k)

    texts_printed : (xs : List PrintItem) → AllByRecursion ItemWritten xs
        → OfOk (AllByRecursion IsPrinted) (item_texts s l xs)
    texts_printed [] w = tt
    texts_printed (x ∷ xs) w =
        then_ok IsPrinted (AllByRecursion IsPrinted) (item_text s l x) _ (item_printed x w.0)
        (let later = texts_printed xs w.1 in
        λ y k. then_ok (AllByRecursion IsPrinted) (AllByRecursion IsPrinted) (item_texts s l xs) _ later
        (λ ys ks. (k, ks)))

    does_fits : (x : Statement) → StatementWritten x → Ok_here (does s r l x)
    does_fits (statement at line (bind x right)) w = right_fits x.text right w.1
    does_fits (statement at line (assign x right)) w = right_fits x.text right w.1
    does_fits (statement at line (assign_cell a index e)) w =
        answer_fits Any (and_then (eval s l index) (λ i. cell_location s a.text (number_of i)))
        (λ n. with_answer r l (eval s l e) (λ x. Moves (record l { locations = write_at l.locations n x }))) (any_ok _)
        (λ n any. of_value e (λ x. Moves (record l { locations = write_at l.locations n x })) w.1.1
        (λ x k. with_locations h _ (write_fits l.locations n x h.locations k)))
    does_fits (statement at line (choose arms)) w =
        answer_fits StatementsWritten (select s l arms no_statements) (λ block. Moves (enter block l))
        (select_written arms no_statements w.1 tt) enter_fits
    does_fits (statement at line (choose_or arms last)) w =
        answer_fits StatementsWritten (select s l arms last) (λ block. Moves (enter block l))
        (select_written arms last w.1.0 w.1.1) enter_fits
    does_fits (statement at line (repeat test block)) w =
        of_value test (λ x.
        Moves (if truth_of x
        then enter block (enter (statements (statement at line (repeat test block)) no_statements) l) else l))
        w.1.0
        (λ x k. cond_state (truth_of x)
        (enter block (enter (statements (statement at line (repeat test block)) no_statements) l)) l again h)
      where
        once : StateFits r (enter (statements (statement at line (repeat test block)) no_statements) l)
        once = enter_fits (statements (statement at line (repeat test block)) no_statements) (w, tt)

        again : StateFits r (enter block (enter (statements (statement at line (repeat test block)) no_statements) l))
        again = with_frames once _ (entered_fits block _ w.1.1 once.frames)
    does_fits (statement at line (call p args)) w = of_values args (calls s r l None p.text) w.1 (calls_fit None p.text)
    does_fits (statement at line (return None)) w = ended_fits l l.frames None h h.frames tt
    does_fits (statement at line (return (Some e))) w =
        of_value e (λ x. Moves (end_frame s l l.frames (Some x))) w.1
        (λ x k. ended_fits l l.frames (Some x) h h.frames k)
    does_fits (statement at line (fork p args)) w =
        of_values args (spec.forks s r l None p.text) w.1 (forks_fit None p.text)
    does_fits (statement at line (join handle)) w = of_value handle (joins r l None) w.1 (joins_fit None)
    does_fits (statement at line (print items)) w =
        answer_fits (AllByRecursion IsPrinted) (item_texts s l items)
        (λ xs. Moves (record l { text = l.text ++ line_of xs })) (texts_printed items w.1)
        (λ xs k. record {
          path = h.path;
          locations = h.locations;
          frames = h.frames;
          noted = h.noted;
          text = more_lines l.text (line_of xs) h.text (one_line _ (items_printed xs k));
          line = h.line;
          phase = h.phase;
        })
    does_fits (statement at line (assert test)) w =
        of_value test (λ x. if truth_of x then Moves l else traps r l cause.Assert) w.1
        (λ x k. cond_event (truth_of x) (Moves l) (traps r l cause.Assert) h (traps_fit cause.Assert))

  module _ (l : Local) (h : StateFits r l) (few : l.forks < 2 ^ 32) where
    begins_fits : (fuel : ℕ) (f : Frame) (fs : List Frame) (x : Statement) (rest : Statements) → FrameFits f
        → FramesFit fs → StatementWritten x → StatementsWritten rest
        → EventFits r l.forks (begins s r l fuel f fs x rest)
    begins_fits zero f fs (statement at line form) rest hf hfs w k =
        record {
          path = h.path;
          locations = h.locations;
          frames = h.frames;
          noted = h.noted;
          text = h.text;
          line = w.0;
          phase = (w.0, h.path);
        }
    begins_fits (suc fuel) f fs (statement at line form) rest hf hfs w k =
        does_fits (record l { fuel = fuel; line = line; frames = record f { rest = rest } ∷ fs })
        (record {
          path = h.path;
          locations = h.locations;
          frames = (record { locals = hf.locals; rest = k }, hfs);
          noted = h.noted;
          text = h.text;
          line = w.0;
          phase = h.phase;
        }) few (statement at line form) w

    rest_fits : (f : Frame) (fs : List Frame) (rest : Statements) → FrameFits f → FramesFit fs → StatementsWritten rest
        → EventFits r l.forks (by_rest s r l f fs rest)
    rest_fits f fs no_statements hf hfs w = ended_fits l (f ∷ fs) None h (hf, hfs) tt
    rest_fits f fs (statements x rest) hf hfs w = begins_fits l.fuel f fs x rest hf hfs w.0 w.1

    frames_fit : (fs : List Frame) → FramesFit fs → EventFits r l.forks (by_frames s r l fs)
    frames_fit [] k = finish_fits l h
    frames_fit (f ∷ fs) k = rest_fits f fs f.rest k.0 k.1 k.0.rest

    phase_fits : (p : Phase) → EventFits r l.forks (by_phase s r l p)
    phase_fits running = frames_fit l.frames h.frames
    phase_fits (joining q left) = tt
    phase_fits done = tt
    phase_fits (trapped tr) = tt

    pub event_fits : {e : Event Local} → next s r l ≡ e → EventFits r l.forks e
    event_fits is = subst (EventFits r l.forks) is (phase_fits l.phase)
