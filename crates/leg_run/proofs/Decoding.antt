-- Words that stand for words of kinds are those words, read by the kinds; so a revision stands for its own state alone.
use Rattle.std.proofs.Common.{◌≡◌, ◌∙◌, ℕ, suc, ◌+◌, ◌-◌, true, false, List, [], ◌∷◌, length, map, reverse, take, drop, Option, Some, None, refl, sym, ap, subst, arith}
use Rattle.std.specs.Prelude.{slice_get}
use Rattle.rev_num.specs.declared.value.ValueKind.{ValueKind}
use Rattle.rev_num.specs.declared.value.ValueKind.TheVariants as k
use Rattle.rev_code.specs.declared.code.Code.{Code}
use Rattle.rev_code.specs.declared.code.CodeBlock.{CodeBlock}
use Rattle.rev_code.specs.Words.{Word, int, bool, rev, kind_of}
use Rattle.rev_code.specs.State.{Frame, Location, State}
use Rattle.code_soundness.proofs.Basics.{some_eq}
use Rattle.code_soundness.specs.Typed.{kinds_of, location_kinds, AllWaiting, AreLocations, IsLocation, IsFrame}
use Rattle.code_soundness.specs.AcceptedCode.{notes_of}
use Rattle.block_run.specs.Agreement.{IsWord, AreWords}
use Rattle.block_run.specs.Area.{low, stack_of}
use Rattle.block_run.specs.Standing.{IsSeen, AreSeen}
use Rattle.leg_run.specs.declared.revision.Run.{Run}
use Rattle.leg_run.specs.declared.revision.Waiting.{Waiting}
use Rattle.leg_run.specs.Ends.{Leaves, with_frames}
use Rattle.leg_run.specs.Standing.{AreBelow, StandsForItsState, frame_of, location_as, locals_at, locals_of, locations_from, stack_base, state_of, word_as, words_as}

-- ---- words

word_is : (x : Word ℕ) (w : ℕ) → IsWord x w → x ≡ word_as (kind_of x) w
word_is (int z) w h = ap int h.1
word_is (bool true) w h = subst (λ v. bool true ≡ word_as k.Bool v) (sym h) refl
word_is (bool false) w h = subst (λ v. bool false ≡ word_as k.Bool v) (sym h) refl
word_is (rev None) w h = subst (λ v. rev None ≡ word_as k.Rev v) (sym h) refl
word_is (rev (Some n)) w h = subst (λ v. rev (Some n) ≡ word_as k.Rev v) (sym h) refl

pub word_of_kind : (x : Word ℕ) (w : ℕ) (kind : ValueKind) → IsWord x w → kind_of x ≡ kind → x ≡ word_as kind w
word_of_kind x w kind h e = word_is x w h ∙ ap (λ t. word_as t w) e

words_are : (xs : List (Word ℕ)) (ws : List ℕ) → AreWords xs ws → xs ≡ words_as (kinds_of xs) ws
words_are [] ws h = refl
words_are (x ∷ xs) [] h = absurd h
words_are (x ∷ xs) (w ∷ ws) h = let a = word_is x w h.0 in let b = words_are xs ws h.1 in λ i. a i ∷ b i

pub words_of_kinds : (xs : List (Word ℕ)) (ws : List ℕ) (kinds : List ValueKind) → AreWords xs ws → kinds_of xs ≡ kinds
    → xs ≡ words_as kinds ws
words_of_kinds xs ws kinds h e = words_are xs ws h ∙ ap (λ t. words_as t ws) e

-- ---- locations

location_is : (x : Location ℕ) (kind : ValueKind) (w : ℕ) (root : Option ℕ) → IsLocation kind x → IsSeen x w root
    → x ≡ location_as kind w root
location_is x kind w None t h =
    let a = word_of_kind x.snapshot w kind h.1 t.snapshot in
    let b = h.0 in
    λ i. record { snapshot = a i; written = b i }
location_is x kind w (Some root) t h =
    let a = word_of_kind x.snapshot root kind h.3 t.snapshot in
    let b = h.1 ∙ ap Some (word_of_kind h.0 w kind h.2 (t.written h.0 h.1)) in
    λ i. record { snapshot = a i; written = b i }

locations_are : (kinds : List ValueKind) (xs : List (Location ℕ)) (n : ℕ) (seen : ℕ → ℕ) (root : ℕ → Option ℕ)
    → AreLocations kinds xs
    → ((l : ℕ) (x : Location ℕ) → slice_get xs l ≡ Some x → IsSeen x (seen (n + l)) (root (n + l)))
    → xs ≡ locations_from n kinds seen root
locations_are [] [] n seen root t h = refl
locations_are [] (x ∷ xs) n seen root t h = absurd t
locations_are (kind ∷ kinds) [] n seen root t h = absurd t
locations_are (kind ∷ kinds) (x ∷ xs) n seen root t h =
    let e : n + 0 ≡ n = omega arith in
    let a = location_is x kind (seen n) (root n) t.0 (subst (λ m. IsSeen x (seen m) (root m)) e (h 0 x refl)) in
    let b = locations_are kinds xs (suc n) seen root t.1
    (λ l y at.
    subst (λ m. IsSeen y (seen m) (root m)) (let f : n + suc l ≡ suc n + l = omega arith in f) (h (suc l) y at)) in
    λ i. a i ∷ b i

pub seen_locations : (kinds : List ValueKind) (xs : List (Location ℕ)) (seen : ℕ → ℕ) (root : ℕ → Option ℕ)
    → AreLocations kinds xs → AreSeen xs seen root → xs ≡ locations_from 0 kinds seen root
seen_locations kinds xs seen root t h =
    locations_are kinds xs 0 seen root t
    (λ l x at. subst (λ m. IsSeen x (seen m) (root m)) (let f : l ≡ 0 + l = omega arith in f) (h l x at))

-- ---- frames

block_locals : (code : Code) (n : ℕ) (b : CodeBlock) → slice_get code.blocks n ≡ Some b
    → locals_of (slice_get code.blocks n) ≡ b.locals
block_locals code n b is = ap locals_of is

pub locals_are : (code : Code) (n : ℕ) (b : CodeBlock) (base : ℕ) (ws : List ℕ) (xs : List (Word ℕ))
    → slice_get code.blocks n ≡ Some b
    → kinds_of xs ≡ b.locals → AreWords xs (take (length b.locals) (drop base ws)) → xs ≡ locals_at code n base ws
locals_are code n b base ws xs is t h =
    let e = block_locals code n b is in
    words_of_kinds xs (take (length (locals_of (slice_get code.blocks n))) (drop base ws))
    (locals_of (slice_get code.blocks n))
    (subst (λ (ks : List ValueKind). AreWords xs (take (length ks) (drop base ws))) (sym e) h) (t ∙ sym e)

frame_kinds : (code : Code) (block at : ℕ) (xs : List (Word ℕ)) (b : CodeBlock) → IsFrame code block at xs
    → slice_get code.blocks block ≡ Some b → kinds_of xs ≡ b.locals
frame_kinds code block at xs b f is =
    let e : f.body ≡ b = some_eq (sym f.is ∙ is) in f.kinds ∙ ap (λ (y : CodeBlock). y.locals) e

below_are : (code : Code) (ws : List ℕ) (above : ℕ) (fs : List (Frame ℕ)) (waits : List Waiting) (block : ℕ)
    → AllWaiting code (notes_of code) fs block
    → AreBelow code ws above fs waits → fs ≡ map (frame_of code ws) waits
below_are code ws above [] [] block t h = refl
below_are code ws above [] (w ∷ waits) block t h = absurd h
below_are code ws above (f ∷ fs) [] block t h = absurd h
below_are code ws above (f ∷ fs) (w ∷ waits) block t h =
    let b = h.0.block in let a = h.0.at in
    let is : slice_get code.blocks f.block ≡ Some h.0.body = ap (slice_get code.blocks) b ∙ h.0.is in
    let l = locals_are code w.block h.0.body w.base ws f.locals h.0.is
    (frame_kinds code f.block f.at f.locals h.0.body t.0.frame is) h.0.locals in
    let r = below_are code ws w.base fs waits f.block t.1 h.1 in
    λ i. record { block = b i; at = a i; locals = l i } ∷ r i

-- ---- the state

-- all but the frames
pub leaves_state : (code : Code) (run : Run) (seen : ℕ → ℕ) (root : ℕ → Option ℕ) (c : State ℕ)
    → Leaves code run seen root c → c ≡ with_frames (state_of code run seen root) c
leaves_state code run seen root c l =
    let locations = seen_locations (location_kinds code.vars) c.locations seen root l.kinds l.locations in
    let fuel = l.fuel in let forks = l.forks in let listed = l.listed in let text = l.text in let line = l.line in
    λ i. record {
      block = c.block;
      at = c.at;
      locals = c.locals;
      stack = c.stack;
      below = c.below;
      locations = locations i;
      fuel = fuel i;
      forks = forks i;
      listed = listed i;
      text = text i;
      line = line i;
    }

pub its_state : StandsForItsState
its_state code inputs share run seen root c s =
    let r = run.registers in
    let ws = run.words.items in
    let t = s.here.good.typed in
    let block = s.here.block in
    let at = sym s.here.run.at in
    let locals = locals_are code run.registers.block s.body run.registers.base run.words.items c.locals s.is
    (frame_kinds code c.block c.at c.locals s.body t.frame (ap (slice_get code.blocks) block ∙ s.is))
    s.here.run.locals in
    let shape : kinds_of c.stack ≡ (notes_of code run.registers.block run.registers.at).shape =
    t.stack ∙ ap (λ n. (notes_of code n c.at).shape) block ∙ ap (λ n. (notes_of code run.registers.block n).shape) at in
    let base : low s.body run.registers ≡ stack_base code run.registers.block run.registers.base =
    ap (λ (ks : List ValueKind). run.registers.base + length ks)
    (sym (block_locals code run.registers.block s.body s.is)) in
    let stack = words_of_kinds c.stack _ _ s.here.run.stack shape
    ∙ ap (λ n.
    words_as (notes_of code run.registers.block run.registers.at).shape
    (stack_of run.words.items n (run.registers.top - n)))
    base in
    let below =
    below_are code run.words.items run.registers.base c.below (reverse run.below.items) c.block t.below s.below in
    leaves_state code run seen root c
    (record {
      locations = s.here.locations;
      kinds = s.here.good.locations;
      fuel = sym s.here.run.fuel;
      line = sym s.here.run.line;
      forks = s.forks;
      listed = s.listed;
      text = s.text;
    })
    ∙ (λ i. record (state_of code run seen root) {
      block = block i;
      at = at i;
      locals = locals i;
      stack = stack i;
      below = below i;
    })
