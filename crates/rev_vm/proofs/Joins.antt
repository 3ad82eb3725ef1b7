-- Joiners behind their joins.
--   joiner_wrote, its_writes   what the joiner's memory has as written is what the joiner wrote
--   after_join     the revision stands for the joiner behind its join
--   mains_joined   a joiner's words stand for its view where the joinee wrote
--   new_words      new words stand for those of the definition
use Rattle.std.proofs.Common.{◌≡◌, ◌∙◌, ℕ, zero, suc, ◌+◌, ◌-◌, ◌<◌, ◌≤◌, Bool, true, false, List, [], ◌∷◌, ◌++◌, drop, length, map, set, get_or, Option, None, refl, sym, ap, subst, arith}
use Rattle.std.specs.Prelude.{Result, Ok, Err}
use Rattle.rev_num.specs.declared.value.NumFault.{NumFault}
use Rattle.rev_num.specs.declared.value.ValueKind.{ValueKind}
use Rattle.rev_num.specs.declared.outcome.Cause.TheVariants as cause
use Rattle.rev_code.specs.declared.code.CodeBlock.{CodeBlock}
use Rattle.rev_code.specs.Words.{Word, bool}
use Rattle.rev_code.specs.State.{Location, State, seen_at, written_at}
use Rattle.rev_code.specs.Events.{told, past_join}
use Rattle.code_soundness.specs.Safe.{joiner}
use Rattle.code_soundness.specs.Typed.{AreLocations, location_kinds, IsRevision}
use Rattle.code_soundness.specs.AcceptedCode.{IsAccepted, notes_of}
use Rattle.code_soundness.proofs.Accepting.{no_fault_accepted}
use Rattle.code_soundness.proofs.Lists.{some_within}
use Rattle.code_soundness.proofs.Reaching.{is_safe}
use Rattle.code_soundness.proofs.Variables.{seen_there}
use Rattle.block_run.specs.Agreement.{IsWord, AreWords}
use Rattle.block_run.specs.Plain.{flag}
use Rattle.block_run.specs.declared.registers.Registers.{Registers}
use Rattle.block_run.specs.Area.{count, low, stack_of}
use Rattle.block_run.specs.Remembering.{Kept, written_below}
use Rattle.block_run.specs.Standing.{AreSeen}
use Rattle.block_run.proofs.Onward.{kept_seen, words_length, written_length, stack_length, reads_seen}
use Rattle.block_run.proofs.Stacks.{stack_push, stack_drop_one}
use Rattle.fun_run.proofs.Slices.{words_drop}
use Rattle.version_map.specs.declared.delta.Delta.{Delta}
use Rattle.version_map.specs.declared.end.EndValue.{EndValue}
use Rattle.version_map.specs.declared.end.Finish.{Finish}
use Rattle.version_map.specs.declared.end.Finish.TheVariants as finish
use Rattle.version_map.specs.declared.end.Written.{Written}
use Rattle.version_map.specs.declared.joining.MergeTrap.{MergeTrap}
use Rattle.version_map.specs.Deltas.{at}
use Rattle.version_map.specs.Overlay as overlay
use Rattle.version_map.specs.Overlay.{Agree}
use Rattle.version_map.specs.Composing.{Entry, Merges, Composition, and_later, composed, entries}
use Rattle.code_machine.specs.Local.{CodeRun, under, Phase, running, done, trapped, at_work, End, end_of, written_from}
use Rattle.code_machine.specs.Joining.{note, merges, main_at, mains, written_all, absorb, join_in, trap_at}
use Rattle.fun_run.specs.Merging.{IsOfKind, AreJoined, AreMergesOf, IsComposedAs}
use Rattle.fun_run.proofs.Composing.{composes_alike}
use Rattle.leg_run.specs.declared.revision.Run.{Run}
use Rattle.leg_run.specs.Standing.{listed_as, Stands}
use Rattle.rev_vm.specs.Meaning.{IsAt, IsAtJoin, IsClaimed, IsEnd, IsReady, IsTold, IsPopped, IsPast, IsTakenOver, AreWritten, IsPhase}
use Rattle.rev_vm.specs.Writes.{AreAtEntries, HasWritten}
use Rattle.rev_vm.proofs.Firsts.{kinds_many}
use Rattle.rev_vm.proofs.Leaving.{written_as}
use Rattle.rev_vm.proofs.Frames.{IsAbove, nothing_new, one_set, OnStack, stays}
use Rattle.rev_vm.proofs.Fitting.{AreFit, written_kinds}
use Rattle.rev_vm.proofs.Meets.{Meets, IsJoining, meets}

-- behind the join, with this word in place of the handle, or without it
abbrev pub Behind : (try : Bool) → ℕ → Run → Run → Type 0
Behind true w r r' = IsTold w r r'
Behind false w r r' = IsPopped r r'

pub behind_past : (try : Bool) (r r' : Run) → IsPast try r r' → Behind try 1 r r'
behind_past true r r' h = h
behind_past false r r' h = h

-- and with this fuel and this text
pub record IsAfter (r r' : Run) (has : ℕ) (printed : List ℕ) : Type 0 where
  pub block : r'.registers.block ≡ r.registers.block
  pub at : r'.registers.at ≡ r.registers.at
  pub base : r'.registers.base ≡ r.registers.base
  pub top : r'.registers.top ≡ r.registers.top
  pub line : r'.registers.line ≡ r.registers.line
  pub fuel : r'.registers.fuel ≡ has
  pub words : r'.words ≡ r.words
  pub below : r'.below ≡ r.below
  pub forks : r'.forks ≡ r.forks
  pub meetings : r'.meetings ≡ r.meetings
  pub text : r'.text.items ≡ printed

pub taken_after : (try : Bool) (more : ℕ) (text : List ℕ) (r r' : Run) (h : IsTakenOver try more text r r')
    → IsAfter h.between r' (h.between.registers.fuel + more) (h.between.text.items ++ text)
taken_after try more text r r' h = record {
  block = ap (λ (z : Registers). z.block) h.registers;
  at = ap (λ (z : Registers). z.at) h.registers;
  base = ap (λ (z : Registers). z.base) h.registers;
  top = ap (λ (z : Registers). z.top) h.registers;
  line = ap (λ (z : Registers). z.line) h.registers;
  fuel = ap (λ (z : Registers). z.fuel) h.registers;
  words = h.words;
  below = h.below;
  forks = h.forks;
  meetings = h.meetings;
  text = h.text;
}

pub past_fuel : (try : Bool) (r r' : Run) → IsPast try r r' → r'.registers.fuel ≡ r.registers.fuel
past_fuel true r r' h = ap (λ (z : Registers). z.fuel) h.registers
past_fuel false r r' h = ap (λ (z : Registers). z.fuel) h.registers

pub past_text : (try : Bool) (r r' : Run) → IsPast try r r' → r'.text.items ≡ r.text.items
past_text true r r' h = ap (λ v. v.items) h.text
past_text false r r' h = ap (λ v. v.items) h.text

module _ (g : CodeRun) (run : Run) (delta : Delta) (base : ℕ → ℕ) (first : Delta) (try : Bool) (on : ℕ)
    (c : State ℕ) (h : IsAtJoin g run delta base first try on c) where
  b : CodeBlock
  b = h.stands.stands.body

  pub accepted : IsAccepted g.code (notes_of g.code)
  accepted = no_fault_accepted g.code h.stands.verified

  pub revision : IsRevision g.code (notes_of g.code) c
  revision = let r : IsRevision g.code (notes_of g.code) (note on c) = h.stands.stands.here.good in
      record {
        typed = record { frame = r.typed.frame; stack = r.typed.stack; below = r.typed.below };
        program = r.program;
        locations = r.locations;
        shallow = r.shallow;
        few = r.few;
      }

  pub joiner_wrote : (size : ℕ) → size ≡ count g.code.vars
      → AreWritten (location_kinds g.code.vars) (written_from 0 c.locations)
      (written_below (overlay.under delta base) (at first) size)
  joiner_wrote size sized =
      let all = kinds_many g.code.vars in
      written_as (location_kinds g.code.vars) c.locations (overlay.under delta base) (at first) size
      (omega (arith, sized, all)) revision.locations h.stands.stands.here.locations

  joining : IsJoining c c on
  joining = subst (Meets (under g) c) h.joins (meets (under g) c)

  found : low h.stands.stands.body run.registers + 1 ≤ run.registers.top
  found =
      let s = h.stands.stands in
      let n = words_length c.stack
      (stack_of run.words.items (low s.body run.registers) (run.registers.top - low s.body run.registers))
      s.here.run.stack in
      let m = stack_length run.words.items (low s.body run.registers) (run.registers.top - low s.body run.registers) in
      let k = ap length joining.stack in
      let t = s.here.top in omega (arith, n, m, k, t)

  below_top : AreWords (drop 1 c.stack)
      (stack_of run.words.items (low h.stands.stands.body run.registers)
      (run.registers.top - 1 - low h.stands.stands.body run.registers))
  below_top =
      let s = h.stands.stands in
      let f = found in
      let height :
      run.registers.top - low s.body run.registers ≡ suc (run.registers.top - 1 - low s.body run.registers) =
      omega (arith, f) in
      subst (AreWords (drop 1 c.stack)) (stack_drop_one run.words.items (low s.body run.registers) _ _ height)
      (words_drop 1 c.stack
      (stack_of run.words.items (low s.body run.registers) (run.registers.top - low s.body run.registers))
      s.here.run.stack)

  module _ (ready : IsReady run) (mid run' : Run) (was_done : Bool) (ls : List (Location ℕ))
      (fits : AreLocations (location_kinds g.code.vars) ls) (fuel : ℕ) (text : List ℕ)
      (a : IsAfter mid run' fuel text) where
    abbrev After : State ℕ
    After = joiner c try was_done on ls fuel text

    good : IsRevision g.code (notes_of g.code) (joiner c try was_done on ls fuel text)
    good = (is_safe ℕ g.code (notes_of g.code) accepted g.inputs g.share c revision).joins c try on h.joins was_done ls
        fits fuel text

    on_told : try ≡ true → IsTold (flag was_done) run mid
        → OnStack g h.stands.stands.body run run' (note on c) (joiner c try was_done on ls fuel text)
    on_told is k =
        let s = h.stands.stands in
        let l = low s.body run.registers in
        let f = found in
        let w = ready.within in
        let rows = k.registers in
        let words : run'.words.items ≡ set run.words.items (run.registers.top - 1) (flag was_done) =
        ap (λ v. v.items) a.words ∙ k.words in
        let top : run'.registers.top ≡ run.registers.top = a.top ∙ ap (λ (z : Registers). z.top) rows in
        let height : run.registers.top - l ≡ suc (run.registers.top - 1 - l) = omega (arith, f) in
        let place : run.registers.top - 1 ≡ l + (run.registers.top - 1 - l) = omega (arith, f) in
        let push =
        stack_push run.words.items l (run.registers.top - 1 - l) (run.registers.top - 1) (run.registers.top - l)
        (flag was_done) place height (omega (arith, f, w)) in
        record {
          revision = good;
          block = refl;
          locals = refl;
          below = refl;
          same_block = a.block ∙ ap (λ (z : Registers). z.block) rows;
          same_base = a.base ∙ ap (λ (z : Registers). z.base) rows;
          waits = a.below ∙ k.below;
          at = (let i = a.at in
              let j = ap (λ (z : Registers). z.at) rows in
              let m = s.here.run.at in
              omega (arith, i, j, m));
          fuel = a.fuel;
          line = a.line ∙ ap (λ (z : Registers). z.line) rows ∙ s.here.run.line;
          words = subst (IsAbove l run.words.items) (sym words)
              (one_set l (run.registers.top - 1) (flag was_done) run.words.items (omega (arith, f)));
          top = (let t = s.here.top in omega (arith, t, top));
          stack = subst
              (λ t. AreWords (told t was_done (drop 1 c.stack)) (stack_of run'.words.items l (run'.registers.top - l)))
              (sym is)
              (subst (λ m. AreWords (bool was_done ∷ drop 1 c.stack) (stack_of run'.words.items l (m - l))) (sym top)
              (subst (λ ws. AreWords (bool was_done ∷ drop 1 c.stack) (stack_of ws l (run.registers.top - l)))
              (sym words)
              (subst (AreWords (bool was_done ∷ drop 1 c.stack)) (sym push) (refl, below_top))));
          forks = s.forks ∙ sym (a.forks ∙ k.forks);
          listed = s.listed ∙ sym (ap (λ v. map listed_as v.items) (a.meetings ∙ k.meetings));
          text = sym a.text;
          few = (let i = a.forks ∙ k.forks in
              let j = ap (λ v. length v.items) (a.meetings ∙ k.meetings) in
              let m = s.few in
              omega (arith, i, j, m));
        }

    on_popped : try ≡ false → IsPopped run mid
        → OnStack g h.stands.stands.body run run' (note on c) (joiner c try was_done on ls fuel text)
    on_popped is k =
        let s = h.stands.stands in
        let l = low s.body run.registers in
        let f = found in
        let rows = k.registers in
        let words : run'.words.items ≡ run.words.items = ap (λ v. v.items) (a.words ∙ k.words) in
        let top : run'.registers.top ≡ run.registers.top - 1 = a.top ∙ ap (λ (z : Registers). z.top) rows in
        record {
          revision = good;
          block = refl;
          locals = refl;
          below = refl;
          same_block = a.block ∙ ap (λ (z : Registers). z.block) rows;
          same_base = a.base ∙ ap (λ (z : Registers). z.base) rows;
          waits = a.below ∙ k.below;
          at = (let i = a.at in
              let j = ap (λ (z : Registers). z.at) rows in
              let m = s.here.run.at in
              omega (arith, i, j, m));
          fuel = a.fuel;
          line = a.line ∙ ap (λ (z : Registers). z.line) rows ∙ s.here.run.line;
          words = subst (IsAbove l run.words.items) (sym words) (nothing_new l run.words.items);
          top = omega (arith, f, top);
          stack = subst
              (λ t. AreWords (told t was_done (drop 1 c.stack)) (stack_of run'.words.items l (run'.registers.top - l)))
              (sym is)
              (subst (λ m. AreWords (drop 1 c.stack) (stack_of run'.words.items l (m - l))) (sym top)
              (subst (λ ws. AreWords (drop 1 c.stack) (stack_of ws l (run.registers.top - 1 - l))) (sym words)
              below_top));
          forks = s.forks ∙ sym (a.forks ∙ k.forks);
          listed = s.listed ∙ sym (ap (λ v. map listed_as v.items) (a.meetings ∙ k.meetings));
          text = sym a.text;
          few = (let i = a.forks ∙ k.forks in
              let j = ap (λ v. length v.items) (a.meetings ∙ k.meetings) in
              let m = s.few in
              omega (arith, i, j, m));
        }

    on_stack : (t : Bool) → try ≡ t → Behind t (flag was_done) run mid
        → OnStack g h.stands.stands.body run run' (note on c) (joiner c try was_done on ls fuel text)
    on_stack true is k = on_told is k
    on_stack false is k = on_popped is k

    pub after_join : Behind try (flag was_done) run mid → (seen : ℕ → ℕ) (root : ℕ → Option ℕ) → AreSeen ls seen root
        → length ls ≤ count g.code.vars
        → Stands g.code g.inputs g.share run' seen root (joiner c try was_done on ls fuel text)
    after_join k seen root there many =
        stays g run run' _ seen _ root (note on c) (joiner c try was_done on ls fuel text) h.stands.stands
        (on_stack try refl k) there many

-- ---- what the joinee wrote

pub fit_of : (kinds : List ValueKind) (es : List (Entry (Word ℕ))) (ws : List Written) → AreWritten kinds es ws
    → AreFit kinds es
fit_of kinds [] [] h = tt
fit_of kinds (e ∷ es) (w ∷ ws) h = (
  record { kind = h.0.kind; there = h.0.there; value = h.0.value.of_kind; root = h.0.root.of_kind },
  fit_of kinds es ws h.1,
)
fit_of kinds [] (w ∷ ws) h = absurd h
fit_of kinds (e ∷ es) [] h = absurd h

pub at_entries : (kinds : List ValueKind) (es : List (Entry (Word ℕ))) (ws : List Written) → AreWritten kinds es ws
    → AreAtEntries es ws
at_entries kinds [] [] h = tt
at_entries kinds (e ∷ es) (w ∷ ws) h = (h.0.location, at_entries kinds es ws h.1)
at_entries kinds [] (w ∷ ws) h = absurd h
at_entries kinds (e ∷ es) [] h = absurd h

pub mains_joined : (kinds : List ValueKind) (ls : List (Location ℕ)) (seen : ℕ → ℕ) (root : ℕ → Option ℕ)
    → AreLocations kinds ls → AreSeen ls seen root
    → (es : List (Entry (Word ℕ))) (ws : List Written) → AreWritten kinds es ws
    → AreJoined kinds es (mains ls es) (entries ws) (map (λ w. seen w.location) ws)
mains_joined kinds ls seen root fits there [] [] h = tt
mains_joined kinds ls seen root fits there (e ∷ es) (w ∷ ws) h =
    let i = h.0 in
    let s = seen_there kinds ls e.location i.kind fits i.there in
    let word = reads_seen ls seen root there e.location s.0 s.1 in
    let main : IsOfKind i.kind (main_at (seen_at ls e.location)) (seen w.location) =
    subst (λ o. IsOfKind i.kind (main_at o) (seen w.location)) (sym s.1)
    (record { of_kind = s.2; word = subst (λ m. IsWord s.0 (seen m)) (sym i.location) word }) in (
      record { location = i.location; kind = i.kind; there = i.there; main = main; value = i.value; root = i.root },
      mains_joined kinds ls seen root fits there es ws h.1,
    )
mains_joined kinds ls seen root fits there [] (w ∷ ws) h = absurd h
mains_joined kinds ls seen root fits there (e ∷ es) [] h = absurd h

-- ---- compositions

pub record HasWords (c : Composition (Word ℕ)) (values : List ℕ) : Type 0 where
  pub words : List (Word ℕ)
  pub is : c ≡ Ok words
  pub stand : AreWords words values

pub new_words : (c : Composition (Word ℕ)) (d : Composition ℕ) (values : List ℕ) → d ≡ Ok values → IsComposedAs c d
    → HasWords c values
new_words (Ok xs) d values e h = record { words = xs; is = refl; stand = subst (IsComposedAs (Ok xs)) e h }
new_words (Err f) d values e h = absurd (subst (IsComposedAs (Err f)) e h)

pub same_fault : (c : Composition (Word ℕ)) (d : Composition ℕ) (f : ℕ × NumFault) → d ≡ Err f → IsComposedAs c d
    → c ≡ Err f
same_fault (Ok xs) d f e h = absurd (subst (IsComposedAs (Ok xs)) e h)
same_fault (Err x) d f e h = ap Err (subst (IsComposedAs (Err x)) e h)

pub is_done : (p : Phase ℕ) (f : Finish) → f ≡ finish.Done → IsPhase p f → p ≡ done
is_done p f e h = by p (subst (IsPhase p) e h)
  where
    by : (p : Phase ℕ) → IsPhase p finish.Done → p ≡ done
    by running h = absurd h
    by done h = refl
    by (trapped t) h = absurd h

-- ---- a TryJoin of a revision that has trapped

pub its_writes : (g : CodeRun) {run : Run} {delta : Delta} {base : ℕ → ℕ} {first : Delta} {try : Bool} {on : ℕ}
    (c : State ℕ) → IsAtJoin g run delta base first try on c → {size : ℕ} → size ≡ count g.code.vars
    → AreWritten (location_kinds g.code.vars) (written_from 0 c.locations)
    (written_below (overlay.under delta base) (at first) size)
its_writes g {run} {delta} {base} {first} {try} {on} c h {size} sized =
    joiner_wrote g run delta base first try on c h size sized

pub dropped_at : (g : CodeRun) {run run' : Run} {delta : Delta} {base : ℕ → ℕ} {first : Delta} {try : Bool} {on : ℕ}
    (c : State ℕ)
    → IsAtJoin g run delta base first try on c → IsReady run → try ≡ true → IsTold 0 run run'
    → IsAt g run' delta base first (past_join c true false on)
dropped_at g {run} {run'} {delta} {base} {first} {try} {on} c h ready is k =
    let s = h.stands.stands in
    let a : IsAfter run' run' c.fuel c.text = record {
      block = refl;
      at = refl;
      base = refl;
      top = refl;
      line = refl;
      fuel = ap (λ (z : Registers). z.fuel) k.registers ∙ s.here.run.fuel;
      words = refl;
      below = refl;
      forks = refl;
      meetings = refl;
      text = ap (λ v. v.items) k.text ∙ sym s.text;
    } in
    record {
      verified = h.stands.verified;
      stands = subst
          (λ t. Stands g.code g.inputs g.share run' (overlay.under delta base) (at first) (past_join c t false on)) is
          (after_join g run delta base first try on c h ready run' run' false c.locations
          (revision g run delta base first try on c h).locations c.fuel c.text a
          (subst (λ t. Behind t 0 run run') (sym is) k) (overlay.under delta base) (at first) s.here.locations
          s.here.many);
      size = h.stands.size;
    }

-- ---- a join of a revision that is done

all_length : (ls : List (Location ℕ)) (es : List (Entry (Word ℕ))) (xs : List (Word ℕ))
    → length (written_all ls es xs) ≡ length ls
all_length ls [] xs = refl
all_length ls (e ∷ es) [] = refl
all_length ls (e ∷ es) (x ∷ xs) = all_length (written_at ls e.location x) es xs ∙ written_length ls e.location x

module _ (g : CodeRun) (run : Run) (delta : Delta) (base : ℕ → ℕ) (first : Delta) (try : Bool) (on : ℕ)
    (v : EndValue) (c : State ℕ) (j : End ℕ)
    (h : IsClaimed g run delta base first try on v c j) (words : Merges ℕ) (are : AreMergesOf g words)
    (size : ℕ) (sized : size ≡ count g.code.vars)
    (seen1 : ℕ → ℕ) (agree : Agree size seen1 (overlay.under delta base)) where
  many : length c.locations ≤ size
  many = let m = h.joiner.stands.stands.here.many in omega (arith, m, sized)

  fits : AreLocations (location_kinds g.code.vars) c.locations
  fits = (revision g run delta base first try on c h.joiner).locations

  seen_now : AreSeen c.locations seen1 (at first)
  seen_now = kept_seen c.locations (overlay.under delta base) seen1 (at first) (at first)
      h.joiner.stands.stands.here.locations size many (record { words = agree; roots = λ l i. refl })

  abbrev pub Plain : Composition ℕ
  Plain = composed words (map (λ w. seen1 w.location) v.written) (entries v.written)

  alike : IsComposedAs (composed (merges g) (mains c.locations j.written) j.written)
      (composed words (map (λ w. seen1 w.location) v.written) (entries v.written))
  alike = composes_alike g words are j.written (mains c.locations j.written) (entries v.written)
      (map (λ w. seen1 w.location) v.written)
      (mains_joined (location_kinds g.code.vars) c.locations seen1 (at first) fits seen_now j.written v.written
      h.joinee.written)

  phase : j.phase ≡ done
  phase = is_done j.phase v.finish h.done h.joinee.phase

  pub settled_trap : (seen2 : ℕ → ℕ) (root2 : ℕ → Option ℕ) → Kept size seen1 seen2 (at first) root2 → (t : MergeTrap)
      → composed words (map (λ w. seen1 w.location) v.written) (entries v.written) ≡ Err (t.location, t.fault)
      → (v' : EndValue) → v'.written ≡ written_below seen2 root2 size → v'.text ≡ run.text.items
      → v'.fuel ≡ run.registers.fuel → v'.finish
      ≡ finish.Trapped (record { cause = cause.Merge t.location t.fault; line = run.registers.line; origin = None })
      → IsEnd g (end_of (join_in g c try on j j.phase)) v'
  settled_trap seen2 root2 kept t is v' wrote text fuel ends =
      let s = h.joiner.stands.stands in
      let all = kinds_many g.code.vars in
      let seen_then = kept_seen c.locations seen1 seen2 (at first) root2 seen_now size many kept in
      let fault =
      same_fault (composed (merges g) (mains c.locations j.written) j.written)
      (composed words (map (λ w. seen1 w.location) v.written) (entries v.written)) (t.location, t.fault) is alike in
      let l : join_in g c try on j j.phase ≡ trap_at on c None (cause.Merge t.location t.fault) c.line =
      ap (join_in g c try on j) phase ∙ ap (absorb c try on j) fault in
      subst (λ l. IsEnd g (end_of l) v') (sym l) (record {
        written = subst (AreWritten (location_kinds g.code.vars) (written_from 0 c.locations)) (sym wrote)
            (written_as (location_kinds g.code.vars) c.locations seen2 root2 size (omega (arith, sized, all)) fits
            seen_then);
        text = text ∙ sym s.text;
        fuel = fuel ∙ s.here.run.fuel;
        phase = subst
            (IsPhase (trapped (record { cause = cause.Merge t.location t.fault; line = c.line; origin = None })))
            (sym ends) (record { cause = refl; line = s.here.run.line; origin = refl });
      })

  module _ (values : List ℕ)
      (is : composed words (map (λ w. seen1 w.location) v.written) (entries v.written) ≡ Ok values)
      (seen2 seen3 : ℕ → ℕ) (root2 root3 : ℕ → Option ℕ)
      (kept : Kept size seen1 seen2 (at first) root2) (wrote : HasWritten size v.written values seen2 root2 seen3 root3)
      (run' : Run) (took : IsTakenOver try v.fuel v.text run run') (ready : IsReady run) where
    pub record IsSettled : Type 0 where
      pub next : State ℕ
      pub is_next : join_in g c try on j j.phase ≡ at_work next
      pub stand : Stands g.code g.inputs g.share run' seen3 root3 next

    pub settled_run : IsSettled
    settled_run =
        let s = h.joiner.stands.stands in
        let n = new_words (composed (merges g) (mains c.locations j.written) j.written)
        (composed words (map (λ w. seen1 w.location) v.written) (entries v.written)) values is alike in
        let ls = written_all c.locations j.written n.words in
        let typed =
        written_kinds g h.joiner.stands.verified j.written c.locations c.locations n.words
        (fit_of (location_kinds g.code.vars) j.written v.written h.joinee.written) fits fits n.is in
        let seen_then = kept_seen c.locations seen1 seen2 (at first) root2 seen_now size many kept in
        let there =
        wrote c.locations j.written n.words many seen_then
        (at_entries (location_kinds g.code.vars) j.written v.written h.joinee.written) n.stand in
        let after = taken_after try v.fuel v.text run run' took in
        let same_fuel : took.between.registers.fuel ≡ c.fuel =
        past_fuel try run took.between took.past ∙ s.here.run.fuel in
        let more_fuel = h.joinee.fuel in
        let same_text : took.between.text.items ≡ c.text = past_text try run took.between took.past ∙ sym s.text in
        let more_text = h.joinee.text in
        let a : IsAfter took.between run' (c.fuel + j.fuel) (c.text ++ j.text) = record {
          block = after.block;
          at = after.at;
          base = after.base;
          top = after.top;
          line = after.line;
          fuel = after.fuel ∙ (λ i. same_fuel i + more_fuel i);
          words = after.words;
          below = after.below;
          forks = after.forks;
          meetings = after.meetings;
          text = after.text ∙ (λ i. same_text i ++ more_text i);
        } in
        record {
          next = joiner c try true on ls (c.fuel + j.fuel) (c.text ++ j.text);
          is_next = ap (join_in g c try on j) phase ∙ ap (absorb c try on j) n.is;
          stand = after_join g run delta base first try on c h.joiner ready took.between run' true ls typed
              (c.fuel + j.fuel) (c.text ++ j.text) a
              (behind_past try run took.between took.past) seen3 root3 there
              (let e = all_length c.locations j.written n.words in let m = s.here.many in omega (arith, e, m));
        }

-- ---- places and numbers of words

pub within_all : (kinds : List ValueKind) (es : List (Entry (Word ℕ))) (ws : List Written) → AreWritten kinds es ws
    → (i : ℕ) (d : Written) → i < length ws → (get_or ws i d).location < length kinds
within_all kinds (e ∷ es) (w ∷ ws) h zero d less =
    (let q = h.0 in let e = some_within kinds e.location q.kind q.there in let l = q.location in omega (arith, e, l))
within_all kinds (e ∷ es) (w ∷ ws) h (suc i) d less = within_all kinds es ws h.1 i d (omega (arith, less))
within_all kinds [] [] h i d less = absurd (omega (arith, less))
within_all kinds [] (w ∷ ws) h i d less = absurd h
within_all kinds (e ∷ es) [] h i d less = absurd h

later_many : (n : ℕ) (r : Result ℕ NumFault) (c : Composition ℕ) (ws : List ℕ) → and_later n r c ≡ Ok ws
    → (us : List ℕ) × (c ≡ Ok us) × (length ws ≡ suc (length us))
later_many n (Ok w) (Ok us) ws e =
    (us, refl, (let z : Ok (w ∷ us) ≡ Ok ws = e in let y : w ∷ us ≡ ws = cc in sym (ap length y)))
later_many n (Ok w) (Err f) ws e = absurd (let z : Err f ≡ Ok ws = e in cc)
later_many n (Err f) c ws e = absurd (let z : Err (n, f) ≡ Ok ws = e in cc)

pub values_many : (merge : Merges ℕ) (see : Written → ℕ) (ws : List Written) (values : List ℕ)
    → composed merge (map see ws) (entries ws) ≡ Ok values → length values ≡ length ws
values_many merge see [] values e = (let z : Ok [] ≡ Ok values = e in let y : [] ≡ values = cc in sym (ap length y))
values_many merge see (w ∷ ws) values e =
    let l = later_many w.location (merge w.location (see w) w.value w.root) (composed merge (map see ws) (entries ws))
    values e in
    l.2 ∙ ap suc (values_many merge see ws l.0 l.1)
