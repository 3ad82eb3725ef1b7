-- Calls, forks, joins and returns.
use Rattle.std.proofs.Common.{◌≡◌, ◌∙◌, ℕ, suc, ◌-◌, Bool, true, false, cond, List, [], ◌∷◌, ◌++◌, length, map, Option, Some, None, refl, sym, ap, subst, arith}
use Rattle.std.specs.Prelude.{slice_get, if◌then◌else◌, Result, Ok, Err, is_some, nat_lt, nat_le, min, ◌/◌}
use Rattle.std.proofs.lemmas.Bool.Decides.{nat_tests}
use Rattle.rev_num.specs.Path.{Path, child}
use Rattle.rev_num.specs.declared.value.Value.{Value}
use Rattle.rev_num.specs.declared.value.Value.TheVariants as v
use Rattle.rev_num.specs.declared.value.ValueKind.{ValueKind}
use Rattle.rev_num.specs.declared.value.ValueKind.TheVariants as k
use Rattle.rev_num.specs.Value.{kind_of, same_kind}
use Rattle.rev_num.specs.declared.outcome.Cause.{Cause}
use Rattle.rev_num.specs.declared.outcome.Cause.TheVariants as cause
use Rattle.rev_num.proofs.SameKinds.{same_kind_self}
use Rattle.rev_syntax.specs.Trees.{Parameter}
use Rattle.name_tables.specs.Names.{Name}
use Rattle.typed_programs.specs.Value.{Answer, and_then}
use Rattle.typed_programs.specs.Kinds.{Callee}
use Rattle.typed_programs.specs.Layout.{SharedVariable, variables, procedures}
use Rattle.revision_machine.specs.Machine.{Event, Moves, Forks, Joins, Ended}
use Rattle.revision_calculus.specs.Program.{variable_named, procedure_named, Setting}
use Rattle.revision_calculus.specs.State as source
use Rattle.revision_calculus.specs.State.{Frame, Noted, Phase, running, joining, done, trapped, Local}
use Rattle.revision_calculus.specs.Evaluation.{set_named, give}
use Rattle.revision_calculus.specs.Step.{traps, with_answer, most_frames, frame_of, calls, end_frame, part, forker, forks, joins}
use Rattle.revision_calculus.specs.Kinded.{names}
use Rattle.rev_code.specs.declared.code.Instr.TheVariants as i
use Rattle.rev_code.specs.declared.code.CodeBlock.{CodeBlock}
use Rattle.rev_code.specs.Words as words
use Rattle.rev_code.specs.Words.{Word}
use Rattle.rev_code.specs.State as code
use Rattle.rev_code.specs.State.{State}
use Rattle.rev_code.specs.Step as r
use Rattle.rev_code.specs.Step.{goes, act, step, Steps}
use Rattle.rev_code.specs.Events as events
use Rattle.code_generation.specs.Numbers.{Scope}
use Rattle.expression_meaning.specs.Agrees.{word, ArgsAre, at_with, pushed, Gives, GiveAll}
use Rattle.expression_meaning.proofs.Words.{word_kind, found, left_below}
use Rattle.expression_meaning.specs.Places.{Tables}
use Rattle.expression_meaning.specs.States.{entry, IsShared, Below, StandsAt, Behind, joined_kind, join_of}
use Rattle.expression_meaning.proofs.Locals.{view_fresh}
use Rattle.program_meaning.specs.Steps.{Carries, Walks, DidMove, Did}
use Rattle.program_meaning.proofs.Linked.{IsProc, IsLinked}
use Rattle.program_meaning.proofs.Reading.{Ready}
use Rattle.program_meaning.proofs.Resume.{goes_on, onward, one, Resumed, resume}

-- ---- depth

depth_true : (n : ℕ) → nat_lt n 1000 ≡ true → nat_le 1000 n ≡ false
depth_true n e = grind (arith, nat_tests)

depth_false : (n : ℕ) → nat_lt n 1000 ≡ false → nat_le 1000 n ≡ true
depth_false n e = grind (arith, nat_tests)

-- ---- lists of forks and joins

pub entries_on : (ns : List Noted) (n : Noted) → map entry ns ++ entry n ∷ [] ≡ map entry (ns ++ n ∷ [])
entries_on [] n = refl
entries_on (m ∷ ns) n = ap (λ z. entry m ∷ z) (entries_on ns n)

module _ (s : Setting) (g : Tables) (p : Path) where
  abbrev pub Comes_to : State Path → Event Local → Type 0
  Comes_to a e = Did s g p (Steps g.setting) a e

  -- ---- on the way

  pub moved : (a c : State Path) (l : Local) → l.phase ≡ running → Steps g.setting a c → StandsAt s g l c
      → Comes_to a (Moves l)
  moved a c l e on st = subst (λ ph. DidMove s g p (Steps g.setting) a l ph) (sym e) (c, on, st)

  move_on : (a b : State Path) (l : Local) (ph : Phase) → Steps g.setting a b → DidMove s g p (Steps g.setting) b l ph
      → DidMove s g p (Steps g.setting) a l ph
  move_on a b l running h d = (d.0, goes_on s g a b d.0 h d.1, d.2)
  move_on a b l (joining q left) h d = (d.0, goes_on s g a b d.0 h d.1, d.2, d.3)
  move_on a b l done h d = (d.0, d.1, goes_on s g a b d.0 h d.2, d.3, d.4)
  move_on a b l (trapped t) h d = (d.0, d.1, goes_on s g a b d.0 h d.2, d.3, d.4, d.5, d.6)

  pub did_on : (a b : State Path) (e : Event Local) → Steps g.setting a b → Comes_to b e → Comes_to a e
  did_on a b (Moves l) h d = move_on a b l l.phase h d
  did_on a b (Forks l kid) h d = record {
    at = d.at;
    on = goes_on s g a b d.at h d.on;
    number = d.number;
    block = d.block;
    is = d.is;
    args = d.args;
    forks = d.forks;
    forking = d.forking;
    forking_is = d.forking_is;
    here = d.here;
    told = d.told;
    on_told = d.on_told;
    few = d.few;
    stands = d.stands;
    child_stands = d.child_stands;
    counted = d.counted;
    phase = d.phase;
    child_phase = d.child_phase;
  }
  did_on a b (Joins q) h d = absurd d
  did_on a b Ended h d = absurd d

  -- behind an instruction the code has walked
  walked_move : (a b : State Path) (l : Local) (ph : Phase) → step g.setting a ≡ goes b
      → DidMove s g p (Steps g.setting) b l ph → DidMove s g p (Walks g) a l ph
  walked_move a b l running h d = (d.0, record { first = b; goes_to = h; more = d.1 }, d.2)
  walked_move a b l (joining q left) h d = (d.0, record { first = b; goes_to = h; more = d.1 }, d.2, d.3)
  walked_move a b l done h d = (d.0, d.1, r.more h d.2, d.3, d.4)
  walked_move a b l (trapped t) h d = (d.0, d.1, r.more h d.2, d.3, d.4, d.5, d.6)

  pub walked : (a b : State Path) (e : Event Local) → step g.setting a ≡ goes b → Comes_to b e → Did s g p (Walks g) a e
  walked a b (Moves l) h d = walked_move a b l l.phase h d
  walked a b (Forks l kid) h d = record {
    at = d.at;
    on = record { first = b; goes_to = h; more = d.on };
    number = d.number;
    block = d.block;
    is = d.is;
    args = d.args;
    forks = d.forks;
    forking = d.forking;
    forking_is = d.forking_is;
    here = d.here;
    told = d.told;
    on_told = d.on_told;
    few = d.few;
    stands = d.stands;
    child_stands = d.child_stands;
    counted = d.counted;
    phase = d.phase;
    child_phase = d.child_phase;
  }
  walked a b (Joins q) h d = absurd d
  walked a b Ended h d = absurd d

  walk_on : (a b c : State Path) → Steps g.setting a b → Walks g b c → Walks g a c
  walk_on a b c r.none w = w
  walk_on a b c (r.more {c' = m} e t) w =
      record { first = m; goes_to = e; more = goes_on s g m b c t (r.more w.goes_to w.more) }

  walk_move_on : (a b : State Path) (l : Local) (ph : Phase) → Steps g.setting a b → DidMove s g p (Walks g) b l ph
      → DidMove s g p (Walks g) a l ph
  walk_move_on a b l running h d = (d.0, walk_on a b d.0 h d.1, d.2)
  walk_move_on a b l (joining q left) h d = (d.0, walk_on a b d.0 h d.1, d.2, d.3)
  walk_move_on a b l done h d = (d.0, d.1, goes_on s g a b d.0 h d.2, d.3, d.4)
  walk_move_on a b l (trapped t) h d = (d.0, d.1, goes_on s g a b d.0 h d.2, d.3, d.4, d.5, d.6)

  -- steps, and then a walk
  pub then_walks : (a b : State Path) (e : Event Local) → Steps g.setting a b → Did s g p (Walks g) b e
      → Did s g p (Walks g) a e
  then_walks a b (Moves l) h d = walk_move_on a b l l.phase h d
  then_walks a b (Forks l kid) h d = record {
    at = d.at;
    on = walk_on a b d.at h d.on;
    number = d.number;
    block = d.block;
    is = d.is;
    args = d.args;
    forks = d.forks;
    forking = d.forking;
    forking_is = d.forking_is;
    here = d.here;
    told = d.told;
    on_told = d.on_told;
    few = d.few;
    stands = d.stands;
    child_stands = d.child_stands;
    counted = d.counted;
    phase = d.phase;
    child_phase = d.child_phase;
  }
  then_walks a b (Joins q) h d = absurd d
  then_walks a b Ended h d = absurd d

  unwalked_move : (a : State Path) (l : Local) (ph : Phase) → DidMove s g p (Walks g) a l ph
      → DidMove s g p (Steps g.setting) a l ph
  unwalked_move a l running d = (d.0, r.more d.1.goes_to d.1.more, d.2)
  unwalked_move a l (joining q left) d = (d.0, r.more d.1.goes_to d.1.more, d.2, d.3)
  unwalked_move a l done d = d
  unwalked_move a l (trapped t) d = d

  pub unwalked : (a : State Path) (l : Local) → Did s g p (Walks g) a (Moves l) → Comes_to a (Moves l)
  unwalked a l d = unwalked_move a l l.phase d

  pub trap : (a c : State Path) (l : Local) (e : Cause) → IsShared l c → Steps g.setting a c
      → step g.setting c ≡ r.traps c e → Comes_to a (traps p l e)
  trap a c l e sh on st = (c, c, on, st, sym sh.5, refl, sh)

  pub after_value : (c : State Path) (l : Local) (at to : ℕ) (ws stack : List (Word Path)) (t : ValueKind) (o : Answer)
      (go : Value → Event Local)
      → IsShared l c → Gives g.setting c at ws to stack t o
      → ((x : Value) → kind_of x ≡ t → Comes_to (at_with c to (word x ∷ stack)) (go x))
      → Comes_to (at_with c at ws) (with_answer p l o go)
  after_value c l at to ws stack t (Ok x) go sh h f =
      did_on (at_with c at ws) (at_with c to (word x ∷ stack)) (go x) (onward s g _ _ h.1) (f x h.0)
  after_value c l at to ws stack t (Err e) go sh h f =
      trap (at_with c at ws) (at_with c h.0 h.1) l e sh (onward s g _ _ h.2) h.3

  -- an answer, and then another
  pub after_then : {A : Type 0} (c : State Path) (l : Local) (at to : ℕ) (t : ValueKind) (o : Answer)
      (go : Value → Result A Cause) (goes_so : A → Event Local)
      → IsShared l c → Gives g.setting c at [] to [] t o
      → ((x : Value) → kind_of x ≡ t → Comes_to (at_with c to (word x ∷ [])) (with_answer p l (go x) goes_so))
      → Comes_to (at_with c at []) (with_answer p l (and_then o go) goes_so)
  after_then c l at to t (Ok x) go goes_so sh h f =
      did_on (at_with c at []) (at_with c to (word x ∷ [])) (with_answer p l (go x) goes_so) (onward s g _ _ h.1)
      (f x h.0)
  after_then c l at to t (Err e) go goes_so sh h f =
      trap (at_with c at []) (at_with c h.0 h.1) l e sh (onward s g _ _ h.2) h.3

  pub after_all : (c : State Path) (l : Local) (at to : ℕ) (ws stack : List (Word Path)) (ps : List Parameter)
      (o : Result (List Value) Cause) (go : List Value → Event Local)
      → IsShared l c → GiveAll g.setting c at ws to stack ps o
      → ((xs : List Value) → ArgsAre ps xs → Comes_to (at_with c to (pushed xs stack)) (go xs))
      → Comes_to (at_with c at ws) (with_answer p l o go)
  after_all c l at to ws stack ps (Ok xs) go sh h f =
      did_on (at_with c at ws) (at_with c to (pushed xs stack)) (go xs) (onward s g _ _ h.1) (f xs h.0)
  after_all c l at to ws stack ps (Err e) go sh h f =
      trap (at_with c at ws) (at_with c h.0 h.1) l e sh (onward s g _ _ h.2) h.3

  set_phase : (o : Option SharedVariable) (l : Local) (w : Name) (x : Value) → (set_named o l w x).phase ≡ l.phase
  set_phase None l w x = refl
  set_phase (Some y) l w x = refl

  pub give_phase : (l : Local) (left : Option Name) (x : Option Value) → (give s l left x).phase ≡ l.phase
  give_phase l None x = refl
  give_phase l (Some w) None = refl
  give_phase l (Some w) (Some x) = set_phase (variable_named (variables s.program) w) l w x

  set_forks : (o : Option SharedVariable) (l : Local) (w : Name) (x : Value) → (set_named o l w x).forks ≡ l.forks
  set_forks None l w x = refl
  set_forks (Some y) l w x = refl

  give_forks : (l : Local) (left : Option Name) (x : Option Value) → (give s l left x).forks ≡ l.forks
  give_forks l None x = refl
  give_forks l (Some w) None = refl
  give_forks l (Some w) (Some x) = set_forks (variable_named (variables s.program) w) l w x

  -- ---- calls

  below_length : (left : Option Name) (given : Option ValueKind) (fs : List Frame) (ws : List (code.Frame Path))
      → Below s g left given fs ws → length ws ≡ length fs
  below_length left given [] [] h = refl
  below_length left given [] (w ∷ ws) h = absurd h
  below_length left given (f ∷ fs) [] h = absurd h
  below_length left given (f ∷ fs) (w ∷ ws) h = ap suc (below_length f.left h.0.result fs ws h.2)

  call_end : (a c2 : State Path) (l l2 : Local) (n : ℕ) (z : Bool) → IsShared l a → l2.phase ≡ running
      → nat_lt n 1000 ≡ z → length l.frames ≡ n
      → step g.setting a ≡ cond z (goes c2) (r.traps a cause.CallDepth) → StandsAt s g l2 c2
      → Comes_to a (cond (nat_le most_frames (length l.frames)) (traps p l cause.CallDepth) (Moves l2))
  call_end a c2 l l2 n true sh ph e len here st =
      let d : nat_le most_frames (length l.frames) ≡ false = ap (nat_le most_frames) len ∙ depth_true n e in
      subst (λ y. Comes_to a (cond y (traps p l cause.CallDepth) (Moves l2))) (sym d)
      (moved a c2 l2 ph (r.more here r.none) st)
  call_end a c2 l l2 n false sh ph e len here st =
      let d : nat_le most_frames (length l.frames) ≡ true = ap (nat_le most_frames) len ∙ depth_false n e in
      subst (λ y. Comes_to a (cond y (traps p l cause.CallDepth) (Moves l2))) (sym d)
      (trap a a l cause.CallDepth sh r.none here)

  module _ (lk : IsLinked s g) where
    pub gave : (l : Local) (left : Option Name) (given : Option ValueKind) (x : Option Value) (f : Frame)
        (fs : List Frame) (c : State Path) (ws : List (Word Path))
        → l.phase ≡ running → Behind s g l left given f fs c → Carries given x ws
        → Comes_to (at_with c c.at ws) (Moves (give s l left x))
    gave l left given x f fs c ws e h is =
        let d = resume s g lk l left given x f fs c ws h is in
        moved (at_with c c.at ws) d.c (give s l left x) (give_phase l left x ∙ e) d.on d.stand

    -- the block of a procedure, and its arguments on the stack
    proc_there : (name : Name) (q : Callee) (d : IsProc s g name q)
        → r.only r.is_procedure (slice_get g.setting.code.blocks (g.numbers.proc name)) ≡ Some d.block
    proc_there name q d =
        ap (r.only r.is_procedure) d.is ∙ ap (λ z. if r.is_procedure z then Some d.block else None) d.class

    args_there : (name : Name) (q : Callee) (d : IsProc s g name q) (xs : List Value) → ArgsAre q.params xs
        → r.arguments (r.params d.block) (pushed xs []) ≡ Some (map word xs)
    args_there name q d xs are = ap (λ z. r.arguments z (pushed xs [])) d.params ∙ found q.params xs [] are

    module _ (b : CodeBlock) (scope : Scope) (l : Local) (f : Frame) (fs : List Frame) (c : State Path)
        (rd : Ready s g b scope l f fs c) (name : Name) (q : Callee) (known : (names s).procs name ≡ Some q) (m : ℕ)
        (left : Option Name) where
      pub called : slice_get b.instrs m ≡ Some (i.Call (g.numbers.proc name))
          → Behind s g l left q.result f fs (at_with c (suc m) []) → (xs : List Value) → ArgsAre q.params xs
          → Comes_to (at_with c m (pushed xs [])) (calls s p l left name xs)
      called here bh xs are =
          let d = lk.procs name q known in
          let n : ℕ = g.numbers.proc name in
          let a : State Path = at_with c m (pushed xs []) in
          let pr = procedure_named (procedures s.program) name in
          let waiting : code.Frame Path = record { block = c.block; at = suc m; locals = c.locals } in
          let c2 : State Path = record c {
            block = n;
            at = 0;
            locals = r.first_locals d.block (map word xs);
            stack = [];
            below = waiting ∷ c.below;
          } in
          let l2 : Local = record l { frames = frame_of pr xs left ∷ l.frames } in
          let entered : r.enter a n d.block (map word xs) ≡ c2 =
          (let e = left_below xs [] in λ j. record c2 { stack = e j }) in
          let z : Bool = nat_lt (suc (length c.below)) 1000 in
          let goes_so : step g.setting a ≡ cond z (goes c2) (r.traps a cause.CallDepth) =
          one s g b a (i.Call n) (cond z (goes c2) (r.traps a cause.CallDepth)) rd.is here
          (ap (r.call a n) (proc_there name q d) ∙ ap (r.call_with a n d.block) (args_there name q d xs are)
          ∙ ap (λ y. cond z (goes y) (r.traps a cause.CallDepth)) entered) in
          let len : length l.frames ≡ suc (length c.below) =
          ap length rd.frames ∙ ap suc (sym (below_length f.left bh.block.result fs c.below bh.below)) in
          let under : Below s g left d.block.result (f ∷ fs) (waiting ∷ c.below) =
          subst (λ y. Below s g left y (f ∷ fs) (waiting ∷ c.below)) (sym d.result) (bh.block, bh.waits, bh.below) in
          let st : StandsAt s g l2 c2 = (
            frame_of pr xs left,
            f ∷ fs,
            record {
              shared = rd.shared;
              frames = ap (λ y. frame_of pr xs left ∷ y) rd.frames;
              block = d.block;
              is = d.is;
              stack = refl;
              top = d.begins xs left are;
              below = under;
            },
          ) in
          call_end a c2 l l2 (suc (length c.below)) z rd.shared rd.phase refl len goes_so st

      -- ---- forks

      pub forked : slice_get b.instrs m ≡ Some (i.Fork (g.numbers.proc name))
          → Behind s g l left (Some k.Rev) f fs (at_with c (suc m) []) → (xs : List Value) → ArgsAre q.params xs
          → Comes_to (at_with c m (pushed xs [])) (forks s p l left name xs)
      forked here bh xs are =
          let d = lk.procs name q known in
          let n : ℕ = g.numbers.proc name in
          let a : State Path = at_with c m (pushed xs []) in
          let args : List (Word Path) = map word xs in
          let pr = procedure_named (procedures s.program) name in
          let goes_so : step g.setting a ≡ r.forks a n args =
          one s g b a (i.Fork n) (r.forks a n args) rd.is here
          (ap (r.fork a n) (proc_there name q d) ∙ ap (r.fork_with a n) (args_there name q d xs are)) in
          let parts : events.part g.setting.share c.fuel ≡ part s l.fuel =
          (let x = lk.share in let e = rd.shared.1 in λ j. min (x j) (e j / 2)) in
          let fuels : c.fuel - events.part g.setting.share c.fuel ≡ l.fuel - part s l.fuel =
          (let e = rd.shared.1 in let x = parts in λ j. e j - x j) in
          let told : State Path = events.parent g.setting.share a args (child p c.forks) in
          let l1 : Local = forker s p l in
          let kid : Value = v.Rev (Some (child p l.forks)) in
          let listed : told.listed ≡ map entry l1.noted =
          (let e = rd.shared.3 in
          let n' = rd.shared.2 in
          let x = rd.shared.5 in
          λ j. e j ++ code.forked (child p (n' j)) (x j) ∷ [])
          ∙ entries_on l.noted (source.forked (child p l.forks) l.line) in
          let sh : IsShared l1 told = (rd.shared.0, fuels, ap suc rd.shared.2, listed, rd.shared.4, rd.shared.5) in
          let bh' : Behind s g l1 left (Some k.Rev) f fs told =
          record { shared = sh; frames = rd.frames; block = bh.block; waits = bh.waits; below = bh.below } in
          let stack : told.stack ≡ word kid ∷ [] =
          (let e = left_below xs [] in let n' = rd.shared.2 in λ j. words.rev (Some (child p (n' j))) ∷ e j) in
          let got = resume s g lk l1 left (Some k.Rev) (Some kid) f fs told (word kid ∷ []) bh' (refl, refl) in
          let back : Resumed s g (give s l1 left (Some kid)) told =
          subst (λ y. Resumed s g (give s l1 left (Some kid)) (at_with told told.at y)) (sym stack) got in
          record {
            at = a;
            on = r.none;
            number = n;
            block = d.block;
            is = d.is;
            args = args;
            forks = goes_so;
            forking = b;
            forking_is = rd.is;
            here = here;
            told = back.c;
            on_told = back.on;
            few = back.few;
            stands = back.stand;
            child_stands = (
              frame_of pr xs None,
              [],
              record {
                shared = (ap events.view rd.shared.0 ∙ view_fresh l.locations, parts, refl, refl, refl, refl);
                frames = refl;
                block = d.block;
                is = d.is;
                stack = refl;
                top = d.begins xs None are;
                below = tt;
              },
            );
            counted = give_forks l1 left (Some kid) ∙ ap suc (sym rd.shared.2);
            phase = give_phase l1 left (Some kid) ∙ rd.phase;
            child_phase = refl;
          }

    -- ---- joins

    join_act : (left : Option Name) (b : CodeBlock) (a : State Path)
        → act g.setting b a (join_of s g left) ≡ r.join a (is_some left) a.stack
    join_act None b a = refl
    join_act (Some w) b a = refl

    pub joined : (b : CodeBlock) (scope : Scope) (l : Local) (f : Frame) (fs : List Frame) (c : State Path) (m : ℕ)
        (left : Option Name)
        → Ready s g b scope l f fs c → slice_get b.instrs m ≡ Some (join_of s g left)
        → Behind s g l left (joined_kind s g left) f fs (at_with c (suc m) []) → (x : Value) → kind_of x ≡ k.Rev
        → Comes_to (at_with c m (word x ∷ [])) (joins p l left x)
    joined b scope l f fs c m left rd is bh x kx = by x kx
      where
        here : (ws : List (Word Path)) → step g.setting (at_with c m ws) ≡ r.join (at_with c m ws) (is_some left) ws
        here ws = one s g b (at_with c m ws) (join_of s g left) (r.join (at_with c m ws) (is_some left) ws) rd.is is
            (join_act left b (at_with c m ws))

        by : (x : Value) → kind_of x ≡ k.Rev → Comes_to (at_with c m (word x ∷ [])) (joins p l left x)
        by (v.Rev (Some q)) kx = (
          at_with c m (words.rev (Some q) ∷ []),
          r.none,
          here (words.rev (Some q) ∷ []),
          record {
            top = f;
            others = fs;
            stack = refl;
            behind = record {
              shared = bh.shared;
              frames = bh.frames;
              block = bh.block;
              waits = bh.waits;
              below = bh.below;
            };
            block = b;
            is = rd.is;
            here = is;
          },
        )
        by (v.Rev None) kx =
            trap (at_with c m (words.rev None ∷ [])) (at_with c m (words.rev None ∷ [])) l cause.JoinNone rd.shared
            r.none (here (words.rev None ∷ []))
        by (v.Int z) kx = absurd (let q : k.Int ≡ k.Rev = kx in cc)
        by (v.Bool z) kx = absurd (let q : k.Bool ≡ k.Rev = kx in cc)

    -- ---- returns

    return_below : (b : CodeBlock) (l : Local) (f : Frame) (fs : List Frame) (below : List (code.Frame Path))
        (c : State Path) (at : ℕ) (ws : List (Word Path)) (x : Option Value) (w : Option (Word Path))
        → IsShared l c → l.phase ≡ running → step g.setting (at_with c at ws) ≡ r.leave (at_with c at ws) below w
        → Carries b.result x ws → Below s g f.left b.result fs below
        → Did s g p (Walks g) (at_with c at ws) (Moves (end_frame s l (f ∷ fs) x))
    return_below b l f [] [] c at ws x w sh ph here is un = (at_with c at ws, w, r.none, here, sh)
    return_below b l f [] (u ∷ below) c at ws x w sh ph here is un = absurd un
    return_below b l f (h ∷ fs) [] c at ws x w sh ph here is un = absurd un
    return_below b l f (h ∷ fs) (u ∷ below) c at ws x w sh ph here is un =
        let c2 : State Path = record c { block = u.block; at = u.at; locals = u.locals; stack = []; below = below } in
        let l2 : Local = record l { frames = h ∷ fs } in
        let bh : Behind s g l2 f.left b.result h fs c2 =
        record { shared = sh; frames = refl; block = un.0; waits = un.1; below = un.2 } in
        walked (at_with c at ws) (at_with c2 u.at ws) (Moves (give s l2 f.left x)) here
        (gave l2 f.left b.result x h fs c2 ws ph bh is)

    return_came : (o : Option ValueKind) (a : State Path) (x : Option Value) (ws : List (Word Path)) → Carries o x ws
        → (w : Option (Word Path)) × (r.return a o ws ≡ r.leave a a.below w)
    return_came None a x ws is = (None, refl)
    return_came (Some t) a None ws is = absurd is
    return_came (Some t) a (Some x) ws is = (
      Some (word x),
      ap (r.return a (Some t)) is.0
          ∙ ap (λ d. if d then r.leave a a.below (Some (word x)) else r.stuck)
          (ap (same_kind t) (word_kind x ∙ is.1) ∙ same_kind_self t),
    )

    pub returned : (b : CodeBlock) (l : Local) (f : Frame) (fs : List Frame) (c : State Path) (at : ℕ)
        (ws : List (Word Path)) (x : Option Value)
        → IsShared l c → l.phase ≡ running → slice_get g.setting.code.blocks c.block ≡ Some b
        → slice_get b.instrs at ≡ Some i.Return → Carries b.result x ws → Below s g f.left b.result fs c.below
        → Did s g p (Walks g) (at_with c at ws) (Moves (end_frame s l (f ∷ fs) x))
    returned b l f fs c at ws x sh ph here is ca un =
        let w = return_came b.result (at_with c at ws) x ws ca in
        return_below b l f fs c.below c at ws x w.0 sh ph
        (one s g b (at_with c at ws) i.Return (r.leave (at_with c at ws) c.below w.0) here is w.1) ca un
