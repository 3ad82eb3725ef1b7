-- Handles of states: how they are renamed, and that a renaming that moves none changes nothing.
use Rattle.std.proofs.Common.{◌≡◌, ◌∙◌, ℕ, List, [], ◌∷◌, ◌++◌, map, Option, Some, None, refl, sym, ap}
use Rattle.std.proofs.lemmas.List.{map-append}
use Rattle.rev_code.specs.Words.{Word, int, bool, rev}
use Rattle.rev_code.specs.State.{Location, Frame, Listed, forked, joined, State}
use Rattle.code_machine.specs.Local.{Phase, running, done, trapped, Local, handle_in, of_word, of_words, of_written, of_locations, of_frames, of_one, of_listed, of_phase, of_state, handles}
use Rattle.code_machine.specs.Renamed.{renamed_handle, renamed_word, renamed_written, renamed_location, renamed_frame, renamed_one, renamed_as, renamed_phase, renamed}

module _ {H : Type 0} (f : H → H) where
  abbrev pub AllFixed : List H → Type 0
  AllFixed [] = Unit {0}
  AllFixed (h ∷ hs) = (f h ≡ h) × AllFixed hs

  pub fixed_parts : (xs ys : List H) → AllFixed (xs ++ ys) → AllFixed xs × AllFixed ys
  fixed_parts [] ys a = (tt, a)
  fixed_parts (x ∷ xs) ys a = let r = fixed_parts xs ys a.1 in ((a.0, r.0), r.1)

  handle_fixed : (h : Option H) → AllFixed (handle_in h) → renamed_handle f h ≡ h
  handle_fixed None a = refl
  handle_fixed (Some h) a = ap Some a.0

  word_fixed : (w : Word H) → AllFixed (of_word w) → renamed_word f w ≡ w
  word_fixed (int n) a = refl
  word_fixed (bool b) a = refl
  word_fixed (rev h) a = ap rev (handle_fixed h a)

  words_fixed : (ws : List (Word H)) → AllFixed (of_words ws) → map (renamed_word f) ws ≡ ws
  words_fixed [] a = refl
  words_fixed (w ∷ ws) a =
      let p = fixed_parts (of_word w) (of_words ws) a in
      let u = word_fixed w p.0 in let v = words_fixed ws p.1 in λ j. u j ∷ v j

  written_fixed : (w : Option (Word H)) → AllFixed (of_written w) → renamed_written f w ≡ w
  written_fixed None a = refl
  written_fixed (Some w) a = ap Some (word_fixed w a)

  locations_fixed : (ls : List (Location H)) → AllFixed (of_locations ls) → map (renamed_location f) ls ≡ ls
  locations_fixed [] a = refl
  locations_fixed (l ∷ ls) a =
      let p = fixed_parts (of_word l.snapshot ++ of_written l.written) (of_locations ls) a in
      let q = fixed_parts (of_word l.snapshot) (of_written l.written) p.0 in
      let u = word_fixed l.snapshot q.0 in let w = written_fixed l.written q.1 in let v = locations_fixed ls p.1 in
      λ j. record { snapshot = u j; written = w j } ∷ v j

  frames_fixed : (fs : List (Frame H)) → AllFixed (of_frames fs) → map (renamed_frame f) fs ≡ fs
  frames_fixed [] a = refl
  frames_fixed (x ∷ fs) a =
      let p = fixed_parts (of_words x.locals) (of_frames fs) a in
      let u = words_fixed x.locals p.0 in let v = frames_fixed fs p.1 in
      λ j. record { block = x.block; at = x.at; locals = u j } ∷ v j

  one_fixed : (x : Listed H) → AllFixed (of_one x) → renamed_one f x ≡ x
  one_fixed (forked h line) a = let e = a.0 in λ j. forked (e j) line
  one_fixed (joined h line) a = let e = a.0 in λ j. joined (e j) line

  listed_fixed : (xs : List (Listed H)) → AllFixed (of_listed xs) → map (renamed_one f) xs ≡ xs
  listed_fixed [] a = refl
  listed_fixed (x ∷ xs) a =
      let p = fixed_parts (of_one x) (of_listed xs) a in
      let u = one_fixed x p.0 in let v = listed_fixed xs p.1 in λ j. u j ∷ v j

  phase_fixed : (x : Phase H) → AllFixed (of_phase x) → renamed_phase f x ≡ x
  phase_fixed running a = refl
  phase_fixed done a = refl
  phase_fixed (trapped t) a =
      let e = handle_fixed t.origin a in λ j. trapped (record { cause = t.cause; line = t.line; origin = e j })

  pub state_fixed : (c : State H) → AllFixed (of_state c) → renamed_as f c.forks c ≡ c
  state_fixed c a =
      let p = fixed_parts (of_words c.stack)
      (of_words c.locals ++ (of_frames c.below ++ (of_locations c.locations ++ of_listed c.listed))) a in
      let q = fixed_parts (of_words c.locals) (of_frames c.below ++ (of_locations c.locations ++ of_listed c.listed))
      p.1 in
      let r = fixed_parts (of_frames c.below) (of_locations c.locations ++ of_listed c.listed) q.1 in
      let s = fixed_parts (of_locations c.locations) (of_listed c.listed) r.1 in
      let stack = words_fixed c.stack p.0 in
      let locals = words_fixed c.locals q.0 in
      let below = frames_fixed c.below r.0 in
      let locations = locations_fixed c.locations s.0 in
      let listed = listed_fixed c.listed s.1 in
      λ j. record c { stack = stack j; locals = locals j; below = below j; locations = locations j; listed = listed j }

  pub local_fixed : (l : Local H) → AllFixed (handles l) → renamed f l ≡ l
  local_fixed l a =
      let p = fixed_parts (of_state l.state) (of_phase l.phase) a in
      let u = state_fixed l.state p.0 in let v = phase_fixed l.phase p.1 in
      λ j. record { state = u j; phase = v j }

-- a renaming that moves no handle at all
pub all_fixed : {H : Type 0} (hs : List H) → AllFixed (λ h. h) hs
all_fixed [] = tt
all_fixed (h ∷ hs) = (refl, all_fixed hs)

module _ {H K : Type 0} (f : H → K) where
  handle_named : (h : Option H) → handle_in (renamed_handle f h) ≡ map f (handle_in h)
  handle_named None = refl
  handle_named (Some h) = refl

  word_named : (w : Word H) → of_word (renamed_word f w) ≡ map f (of_word w)
  word_named (int n) = refl
  word_named (bool b) = refl
  word_named (rev h) = handle_named h

  joint : (xs ys : List H) (us vs : List K) → us ≡ map f xs → vs ≡ map f ys → us ++ vs ≡ map f (xs ++ ys)
  joint xs ys us vs a b = (λ j. a j ++ b j) ∙ sym (map-append f xs ys)

  words_named : (ws : List (Word H)) → of_words (map (renamed_word f) ws) ≡ map f (of_words ws)
  words_named [] = refl
  words_named (w ∷ ws) = joint (of_word w) (of_words ws) _ _ (word_named w) (words_named ws)

  written_named : (w : Option (Word H)) → of_written (renamed_written f w) ≡ map f (of_written w)
  written_named None = refl
  written_named (Some w) = word_named w

  locations_named : (ls : List (Location H)) → of_locations (map (renamed_location f) ls) ≡ map f (of_locations ls)
  locations_named [] = refl
  locations_named (l ∷ ls) =
      joint (of_word l.snapshot ++ of_written l.written) (of_locations ls) _ _
      (joint (of_word l.snapshot) (of_written l.written) _ _ (word_named l.snapshot) (written_named l.written))
      (locations_named ls)

  frames_named : (fs : List (Frame H)) → of_frames (map (renamed_frame f) fs) ≡ map f (of_frames fs)
  frames_named [] = refl
  frames_named (x ∷ fs) = joint (of_words x.locals) (of_frames fs) _ _ (words_named x.locals) (frames_named fs)

  one_named : (x : Listed H) → of_one (renamed_one f x) ≡ map f (of_one x)
  one_named (forked h line) = refl
  one_named (joined h line) = refl

  listed_named : (xs : List (Listed H)) → of_listed (map (renamed_one f) xs) ≡ map f (of_listed xs)
  listed_named [] = refl
  listed_named (x ∷ xs) = joint (of_one x) (of_listed xs) _ _ (one_named x) (listed_named xs)

  phase_named : (x : Phase H) → of_phase (renamed_phase f x) ≡ map f (of_phase x)
  phase_named running = refl
  phase_named done = refl
  phase_named (trapped t) = handle_named t.origin

  state_named : (c : State H) (m : ℕ) → of_state (renamed_as f m c) ≡ map f (of_state c)
  state_named c m =
      joint (of_words c.stack)
      (of_words c.locals ++ (of_frames c.below ++ (of_locations c.locations ++ of_listed c.listed))) _ _
      (words_named c.stack)
      (joint (of_words c.locals) (of_frames c.below ++ (of_locations c.locations ++ of_listed c.listed)) _ _
      (words_named c.locals)
      (joint (of_frames c.below) (of_locations c.locations ++ of_listed c.listed) _ _ (frames_named c.below)
      (joint (of_locations c.locations) (of_listed c.listed) _ _ (locations_named c.locations)
      (listed_named c.listed))))

  pub local_named : (l : Local H) → handles (renamed f l) ≡ map f (handles l)
  local_named l =
      joint (of_state l.state) (of_phase l.phase) _ _ (state_named l.state l.state.forks) (phase_named l.phase)
