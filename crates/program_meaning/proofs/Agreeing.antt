-- Related revisions agree.
--   settled_empty      with an empty stack there is nothing to store
--   work_agrees        a revision at work
--   same_agrees        by paths
--   related_agrees     by numbers
use Rattle.std.proofs.Common.{◌≡◌, ◌∙◌, ◌⊎◌, inl, inr, ℕ, Bool, true, false, ◌&&◌, List, [], ◌∷◌, Option, Some, None, refl, sym, ap, subst}
use Rattle.std.specs.Prelude.{slice_get, map}
use Rattle.rev_num.specs.Path.{Path}
use Rattle.rev_num.proofs.Options.{some_same}
use Rattle.revision_machine.specs.Numbered.{at_number, number_of, or_path}
use Rattle.revision_calculus.specs.Program.{Setting}
use Rattle.revision_calculus.specs.State as source
use Rattle.revision_calculus.specs.State.{Local}
use Rattle.rev_code.specs.declared.code.Instr.{Instr}
use Rattle.rev_code.specs.declared.code.Instr.TheVariants as i
use Rattle.rev_code.specs.declared.code.CodeBlock.{CodeBlock}
use Rattle.rev_code.specs.Words.{Word, int, bool, rev}
use Rattle.rev_code.specs.State.{Location, Frame, Listed, forked, joined, State}
use Rattle.rev_code.specs.Variables.{Place, scalar}
use Rattle.rev_code.specs.Step.{goes, stuck, into_scalar, act_at, act_in, step}
use Rattle.expression_meaning.specs.States.{IsShared}
use Rattle.program_meaning.specs.Steps.{Takes, Few, nowhere, takes}
use Rattle.program_meaning.specs.StatementLaws.{tables}
use Rattle.code_machine.specs.Local as code
use Rattle.code_machine.specs.Local.{running, done, trapped, under, handles}
use Rattle.code_machine.specs.Renamed.{renamed_handle, renamed_word, renamed_written, renamed_location, renamed_frame, renamed_one, renamed_phase, renamed, IsNumbered}
use Rattle.code_machine.proofs.Naming.{local_fixed}
use Rattle.program_meaning.specs.Related.{run_of, IsGiven, IsAtWork, IsSame, works, is_done, is_trapped}
use Rattle.program_meaning.proofs.Takes.{Keeps, few_kept}
use Rattle.program_meaning.specs.Relation.{IsRelatedBy}
use Rattle.program_meaning.specs.Agreement.{is_store, gives, instr_before, stores_given, settled_if, settled, compared, PhaseAgrees, Agrees, read, AgreesBy}
use Rattle.code_machine.proofs.Outcomes.{all_back}

module _ (s : Setting) (c : State Path) where
  -- ---- nothing to store

  stuck_settled : (d : Bool) → settled_if d c stuck ≡ c
  stuck_settled true = refl
  stuck_settled false = refl

  scalar_stuck : (o : Option Place) → into_scalar c o [] ≡ stuck
  scalar_stuck None = refl
  scalar_stuck (Some p) = refl

  empty_at : (b : CodeBlock) (x : Option Instr) (given : Option Instr)
      → slice_get (run_of s).code.blocks c.block ≡ Some b → slice_get b.instrs c.at ≡ x → c.stack ≡ []
      → settled_if (is_store x && gives given) c (step (under (run_of s)) c) ≡ c
  empty_at b (Some (i.StoreShared v)) given is here empty =
      let e : step (under (run_of s)) c ≡ stuck =
      ap (act_in (under (run_of s)) c) is ∙ ap (act_at (under (run_of s)) b c) here
      ∙ ap (into_scalar c (scalar (run_of s).code.vars v)) empty ∙ scalar_stuck (scalar (run_of s).code.vars v) in
      ap (settled_if (gives given) c) e ∙ stuck_settled (gives given)
  empty_at b None given is here empty = refl
  empty_at b (Some _) given is here empty = refl

  empty_in : (o : Option CodeBlock) → slice_get (run_of s).code.blocks c.block ≡ o → c.stack ≡ []
      → settled_if (stores_given o c.at) c (step (under (run_of s)) c) ≡ c
  empty_in None is empty = refl
  empty_in (Some b) is empty = empty_at b (slice_get b.instrs c.at) (instr_before b.instrs c.at) is refl empty

  settled_empty : c.stack ≡ [] → settled (run_of s) c ≡ c
  settled_empty empty = empty_in (slice_get (run_of s).code.blocks c.block) refl empty

  -- ---- by the instruction that takes the word

  -- it stores to no location
  plain_at : (b : CodeBlock) (x : Instr) → slice_get (run_of s).code.blocks c.block ≡ Some b
      → slice_get b.instrs c.at ≡ Some x → is_store (Some x) ≡ false → settled (run_of s) c ≡ c
  plain_at b x is here plain =
      ap (λ o. settled_if (stores_given o c.at) c (step (under (run_of s)) c)) is
      ∙ ap (λ o. settled_if (is_store o && gives (instr_before b.instrs c.at)) c (step (under (run_of s)) c)) here
      ∙ ap (λ d. settled_if (d && gives (instr_before b.instrs c.at)) c (step (under (run_of s)) c)) plain

  -- it stores what was given
  stores_at : (b : CodeBlock) (v : ℕ) (given : IsGiven s c) (d : State Path)
      → slice_get (run_of s).code.blocks c.block ≡ Some b → slice_get b.instrs c.at ≡ Some (i.StoreShared v)
      → step (under (run_of s)) c ≡ goes d → settled (run_of s) c ≡ d
  stores_at b v given d is here e =
      let same : given.block ≡ b = some_same given.block b (sym given.is ∙ is) in
      let there : gives (instr_before b.instrs c.at) ≡ true =
      ap (λ n. gives (instr_before b.instrs n)) given.behind ∙ ap (λ x. gives (slice_get x.instrs given.at)) (sym same)
      ∙ ap gives given.there ∙ given.gives in
      ap (λ o. settled_if (stores_given o c.at) c (step (under (run_of s)) c)) is
      ∙ ap (λ o. settled_if (is_store o && gives (instr_before b.instrs c.at)) c (step (under (run_of s)) c)) here
      ∙ (λ n. settled_if (there n) c (e n))

module _ (s : Setting) where
  shared_on : (l : Local) (a c : State Path) → Keeps a c → IsShared l c → IsShared l a
  shared_on l a c k h = (sym k.0 ∙ h.0, sym k.1 ∙ h.1, sym k.2 ∙ h.2, sym k.3 ∙ h.3, sym k.4 ∙ h.4, sym k.5 ∙ h.5)

  takes_agree : (l : Local) (c on : State Path) (b : CodeBlock) (x : Instr) → IsShared l on → (c ≡ on) ⊎ IsGiven s c
      → on.stack ≡ [] → slice_get (run_of s).code.blocks c.block ≡ Some b → slice_get b.instrs c.at ≡ Some x → Takes x
      → step (under (run_of s)) c ≡ goes on → IsShared l (settled (run_of s) c)
  takes_agree l c on b x sh (inl same) empty is here t e =
      let z : c.stack ≡ [] = ap (λ a. a.stack) same ∙ empty in
      subst (IsShared l) (sym (settled_empty s c z ∙ same)) sh
  takes_agree l c on b (i.StoreShared v) sh (inr given) empty is here t e =
      subst (IsShared l) (sym (stores_at s c b v given on is here e)) sh
  takes_agree l c on b (i.StoreLocal n) sh (inr given) empty is here t e =
      subst (IsShared l) (sym (plain_at s c b (i.StoreLocal n) is here refl))
      (shared_on l c on (few_kept (tables s) c on b (i.StoreLocal n) refl is here t e) sh)
  takes_agree l c on b i.Pop sh (inr given) empty is here t e =
      subst (IsShared l) (sym (plain_at s c b i.Pop is here refl))
      (shared_on l c on (few_kept (tables s) c on b i.Pop refl is here t e) sh)
  takes_agree l c on b _ sh (inr given) empty is here t e = absurd t

  few_agree : (l : Local) (c on : State Path) → IsShared l on → (c ≡ on) ⊎ IsGiven s c → on.stack ≡ []
      → Few (tables s) c on → IsShared l (settled (run_of s) c)
  few_agree l c on sh given empty (nowhere same) =
      let z : c.stack ≡ [] = ap (λ a. a.stack) same ∙ empty in
      subst (IsShared l) (sym (settled_empty s c z ∙ same)) sh
  few_agree l c on sh given empty (takes b x is here t e) = takes_agree l c on b x sh given empty is here t e

  work_agrees : (l : Local) (c : State Path) → IsAtWork s l c → IsShared l (settled (run_of s) c)
  work_agrees l c h = few_agree l c h.on h.stands.2.shared h.given h.stands.2.stack h.few

  phase_agrees : (r : Path) (p q : source.Phase) (x y : code.Phase Path) → p ≡ q → x ≡ y → PhaseAgrees r q y
      → PhaseAgrees r p x
  phase_agrees r p q x y e f h = subst (λ z. PhaseAgrees r z x) (sym e) (subst (PhaseAgrees r q) (sym f) h)

  shared_agrees : (l : Local) (c : State Path) (x y : code.Phase Path) → x ≡ y → IsShared l (compared (run_of s) c y)
      → IsShared l (compared (run_of s) c x)
  shared_agrees l c x y e h = subst (λ z. IsShared l (compared (run_of s) c z)) (sym e) h

  pub same_agrees : (r : Path) (l : Local) (k : code.Local Path) → IsSame s r l k → Agrees s r l k
  same_agrees r l k (works e h) = record {
    phase = phase_agrees r l.phase source.running k.phase running h.phase e tt;
    shared = shared_agrees l k.state k.phase running e (work_agrees l k.state h);
  }
  same_agrees r l k (is_done e f sh) = record {
    phase = phase_agrees r l.phase source.done k.phase done f e tt;
    shared = shared_agrees l k.state k.phase done e sh;
  }
  same_agrees r l k (is_trapped t u e f is sh) = record {
    phase = phase_agrees r l.phase (source.trapped t) k.phase (trapped u) f e is;
    shared = shared_agrees l k.state k.phase (trapped u) e sh;
  }

-- ---- numbers read as paths

module _ {H K L : Type 0} (f : H → K) (g : K → L) where
  handle_twice : (h : Option H) → renamed_handle g (renamed_handle f h) ≡ renamed_handle (λ x. g (f x)) h
  handle_twice None = refl
  handle_twice (Some h) = refl

  word_twice : (w : Word H) → renamed_word g (renamed_word f w) ≡ renamed_word (λ x. g (f x)) w
  word_twice (int n) = refl
  word_twice (bool b) = refl
  word_twice (rev h) = ap rev (handle_twice h)

  words_twice : (ws : List (Word H))
      → map (renamed_word g) (map (renamed_word f) ws) ≡ map (renamed_word (λ x. g (f x))) ws
  words_twice [] = refl
  words_twice (w ∷ ws) = let a = word_twice w in let b = words_twice ws in λ j. a j ∷ b j

  written_twice : (w : Option (Word H)) → renamed_written g (renamed_written f w) ≡ renamed_written (λ x. g (f x)) w
  written_twice None = refl
  written_twice (Some w) = ap Some (word_twice w)

  locations_twice : (ls : List (Location H))
      → map (renamed_location g) (map (renamed_location f) ls) ≡ map (renamed_location (λ x. g (f x))) ls
  locations_twice [] = refl
  locations_twice (l ∷ ls) =
      let a = word_twice l.snapshot in let b = written_twice l.written in let c = locations_twice ls in
      λ j. record { snapshot = a j; written = b j } ∷ c j

  frames_twice : (xs : List (Frame H))
      → map (renamed_frame g) (map (renamed_frame f) xs) ≡ map (renamed_frame (λ x. g (f x))) xs
  frames_twice [] = refl
  frames_twice (x ∷ xs) =
      let a = words_twice x.locals in let b = frames_twice xs in
      λ j. record { block = x.block; at = x.at; locals = a j } ∷ b j

  one_twice : (x : Listed H) → renamed_one g (renamed_one f x) ≡ renamed_one (λ y. g (f y)) x
  one_twice (forked h line) = refl
  one_twice (joined h line) = refl

  listed_twice : (xs : List (Listed H))
      → map (renamed_one g) (map (renamed_one f) xs) ≡ map (renamed_one (λ x. g (f x))) xs
  listed_twice [] = refl
  listed_twice (x ∷ xs) = let a = one_twice x in let b = listed_twice xs in λ j. a j ∷ b j

  phase_twice : (p : code.Phase H) → renamed_phase g (renamed_phase f p) ≡ renamed_phase (λ x. g (f x)) p
  phase_twice running = refl
  phase_twice done = refl
  phase_twice (trapped t) =
      let a = handle_twice t.origin in λ j. trapped (record { cause = t.cause; line = t.line; origin = a j })

  local_twice : (k : code.Local H) → renamed g (renamed f k) ≡ renamed (λ x. g (f x)) k
  local_twice k =
      let c = k.state in
      let locals = words_twice c.locals in
      let stack = words_twice c.stack in
      let below = frames_twice c.below in
      let locations = locations_twice c.locations in
      let listed = listed_twice c.listed in
      let phase = phase_twice k.phase in
      λ j. record {
        state = record {
          block = c.block;
          at = c.at;
          locals = locals j;
          stack = stack j;
          below = below j;
          locations = locations j;
          fuel = c.fuel;
          forks = c.forks;
          listed = listed j;
          text = c.text;
          line = c.line;
        };
        phase = phase j;
      }

module _ (t : List Path) where
  pub read_back : (r : Path) (k : code.Local Path) (b : code.Local ℕ) → IsNumbered t r k b → read t b ≡ k
  read_back r k b is =
      ap (read t) is.is
      ∙ local_twice (number_of t) (λ n. or_path (at_number t n) []) k
      ∙ local_fixed (λ q. or_path (at_number t (number_of t q)) []) k (all_back t (handles k) is.known)

pub related_agrees : (s : Setting) (t : List Path) (r : Path) (l : Local) (k : code.Local ℕ) → IsRelatedBy s t r l k
    → AgreesBy s t r l k
related_agrees s t r l k rel =
    subst (Agrees s r l) (sym (read_back t r rel.0 k rel.2)) (same_agrees s r l rel.0 rel.1.0)
