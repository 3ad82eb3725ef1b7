-- First frames.
use Rattle.std.proofs.Common.{◌≡◌, ◌∙◌, ℕ, zero, suc, ◌+◌, ◌-◌, ◌<◌, ◌≤◌, List, [], ◌∷◌, ◌++◌, length, map, take, drop, reverse, replicate, set, get_or, Option, Some, None, refl, sym, ap, subst, arith}
use Rattle.std.specs.Prelude.{slice_get}
use Rattle.std.proofs.lemmas.List.{length-drop}
use Rattle.rev_num.specs.declared.value.ValueKind.{ValueKind}
use Rattle.rev_num.specs.declared.value.ValueKind.TheVariants as k
use Rattle.rev_num.proofs.Options.{none_some}
use Rattle.rev_code.specs.declared.code.CodeBlock.{CodeBlock}
use Rattle.rev_code.specs.declared.code.CodeVar.{CodeVar}
use Rattle.rev_code.specs.Words.{Word, zero_word}
use Rattle.rev_code.specs.State.{Location, State, seen}
use Rattle.rev_code.specs.Step.{first_locals}
use Rattle.rev_code.specs.Events as events
use Rattle.code_soundness.specs.Typed.{IsRevision, AreLocations, location_kinds}
use Rattle.code_soundness.specs.AcceptedCode.{notes_of}
use Rattle.code_rules.specs.Verdict.{first_fault}
use Rattle.code_soundness.proofs.Accepting.{no_fault_accepted}
use Rattle.code_soundness.proofs.Lists.{some_eq}
use Rattle.code_soundness.proofs.Reaching.{procedures_start}
use Rattle.block_run.specs.Agreement.{AreWords}
use Rattle.block_run.specs.declared.registers.Registers.{Registers}
use Rattle.block_run.specs.Area.{count, low, stack_of}
use Rattle.block_run.specs.Standing.{AreSeen, IsSeen}
use Rattle.block_run.proofs.Onward.{kept_seen, word_seen, words_length}
use Rattle.fun_run.proofs.Slices.{words_append}
use Rattle.version_map.specs.declared.delta.Delta.{Delta}
use Rattle.version_map.specs.Deltas.{at, locations, IsEmpty}
use Rattle.version_map.specs.Overlay as overlay
use Rattle.code_machine.specs.Local.{CodeRun}
use Rattle.leg_run.specs.declared.revision.Run.{Run}
use Rattle.leg_run.specs.declared.setting.CodeSetting.{CodeSetting}
use Rattle.fun_run.specs.Rooms.{IsRoom}
use Rattle.leg_run.specs.Standing.{AreBelow, listed_as, Stands}
use Rattle.rev_vm.specs.Starts.{Begins, IsCalled, IsFirst, run_under}

zero_words : (kinds : List ValueKind) → AreWords (map (zero_word {H = ℕ}) kinds) (replicate (length kinds) 0)
zero_words [] = tt
zero_words (k.Int ∷ kinds) = ((omega arith, refl), zero_words kinds)
zero_words (k.Bool ∷ kinds) = (refl, zero_words kinds)
zero_words (k.Rev ∷ kinds) = (refl, zero_words kinds)

-- a state in a first frame, over these locations
abbrev pub first_state : (n : ℕ) → CodeBlock → List (Word ℕ) → List (Location ℕ) → (fuel : ℕ) → State ℕ
first_state n b xs ls fuel = events.start n b xs ls fuel

pub first_stands : (g : CodeRun) (n : ℕ) (b : CodeBlock) → slice_get g.code.blocks n ≡ Some b
    → (xs : List (Word ℕ)) (ls : List (Location ℕ)) (fuel : ℕ)
    → IsRevision g.code (notes_of g.code) (first_state n b xs ls fuel)
    → (r : Run) (args : List ℕ) (room : ℕ) → IsRoom g.code n b room → AreWords xs args → IsFirst b n args room fuel r
    → (sees : ℕ → ℕ) (root : ℕ → Option ℕ) → AreSeen ls sees root → length ls ≤ count g.code.vars
    → Stands g.code g.inputs g.share r sees root (first_state n b xs ls fuel)
first_stands g n b is xs ls fuel good r args room roomy stand f sees root there many =
    let block = ap (λ (z : Registers). z.block) f.registers in
    let base : r.registers.base ≡ 0 = ap (λ (z : Registers). z.base) f.registers in
    let top : r.registers.top ≡ length b.locals = ap (λ (z : Registers). z.top) f.registers in
    let same : length xs ≡ length args = words_length xs args stand in
    let rest : AreWords (map zero_word (drop (length xs) b.locals)) (replicate (length b.locals - length args) 0) =
    subst (λ m. AreWords (map zero_word (drop (length xs) b.locals)) (replicate m 0))
    (length-drop (length xs) b.locals ∙ ap (λ m. length b.locals - m) same) (zero_words (drop (length xs) b.locals)) in
    record {
      body = b;
      is = ap (slice_get g.code.blocks) block ∙ is;
      here = record {
        good = good;
        inputs_are = refl;
        block = sym block;
        run = record {
          at = ap (λ (z : Registers). z.at) f.registers;
          locals = subst (λ m. AreWords (first_locals b xs) (take (length b.locals) (drop m r.words.items))) (sym base)
              (subst (AreWords (first_locals b xs)) (sym f.locals)
              (words_append xs (map zero_word (drop (length xs) b.locals)) args
              (replicate (length b.locals - length args) 0) stand rest));
          stack = (let z : r.registers.top - low b r.registers ≡ 0 = omega (arith, base, top) in
              subst (λ m. AreWords [] (stack_of r.words.items (low b r.registers) m)) (sym z) tt);
          fuel = ap (λ (z : Registers). z.fuel) f.registers;
          line = ap (λ (z : Registers). z.line) f.registers;
        };
        top = omega (arith, base, top);
        locations = there;
        many = many;
      };
      below = subst (λ ws. AreBelow g.code r.words.items r.registers.base [] (reverse ws)) (sym f.below) tt;
      room = λ at inside. (
          let d = roomy.deep at inside in
          let l = f.long in
          let e : length (notes_of g.code r.registers.block at).shape ≡ length (notes_of g.code n at).shape =
          ap (λ m. length (notes_of g.code m at).shape) block in
          omega (arith, d, l, e, base)
          );
      forks = sym f.forks;
      listed = sym (ap (λ ms. map listed_as ms) f.meetings);
      text = sym f.text;
      few = (let e = f.forks in omega (arith, e));
    }

-- ---- what a child sees

mapped : (f : Location ℕ → Location ℕ) (ls : List (Location ℕ)) (l : ℕ) (x : Location ℕ)
    → slice_get (map f ls) l ≡ Some x → (y : Location ℕ) × (slice_get ls l ≡ Some y) × (f y ≡ x)
mapped f [] l x h = absurd (none_some h)
mapped f (y ∷ ls) zero x h = (y, refl, some_eq h)
mapped f (y ∷ ls) (suc l) x h = mapped f ls l x h

pub view_seen : (ls : List (Location ℕ)) (sees : ℕ → ℕ) (root : ℕ → Option ℕ) → AreSeen ls sees root
    → AreSeen (events.view ls) sees (λ l. None)
view_seen ls sees root h = λ l x is.
    let m = mapped (λ y. record { snapshot = seen y; written = None }) ls l x is in
    subst (λ x. IsSeen x (sees l) None) m.2 (refl, word_seen m.0 (sees l) (root l) (h l m.0 m.1))

map_length : (f : Location ℕ → Location ℕ) (ls : List (Location ℕ)) → length (map f ls) ≡ length ls
map_length f [] = refl
map_length f (l ∷ ls) = ap suc (map_length f ls)

pub view_many : (ls : List (Location ℕ)) → length (events.view ls) ≡ length ls
view_many ls = map_length _ ls

-- ---- what a first revision sees

cells_many : (n : ℕ) (x : ValueKind) (xs : List ValueKind) → length (replicate n x ++ xs) ≡ n + length xs
cells_many zero x xs = omega arith
cells_many (suc n) x xs = let r = cells_many n x xs in omega (arith, r)

pub kinds_many : (vs : List CodeVar) → length (location_kinds vs) ≡ count vs
kinds_many [] = refl
kinds_many (v ∷ vs) = cells_many v.cells v.kind (location_kinds vs) ∙ (let r = kinds_many vs in omega (arith, r))

pub same_many : (kinds : List ValueKind) (ls : List (Location ℕ)) → AreLocations kinds ls → length ls ≡ length kinds
same_many [] [] h = refl
same_many (x ∷ kinds) (l ∷ ls) h = ap suc (same_many kinds ls h.1)
same_many [] (l ∷ ls) h = absurd h
same_many (x ∷ kinds) [] h = absurd h

pub locations_many : (vs : List CodeVar) (ls : List (Location ℕ)) → AreLocations (location_kinds vs) ls
    → length ls ≤ count vs
locations_many vs ls h = let a = same_many (location_kinds vs) ls h in let b = kinds_many vs in omega (arith, a, b)

-- ---- starts

pub start_stands : (s : CodeSetting) → first_fault s.code ≡ None → (n : ℕ) (args : List ℕ) (fuel : ℕ) (run : Run)
    → Begins s n args fuel run
    → (b : CodeBlock) (xs : List (Word ℕ)) (ls : List (Location ℕ)) → IsCalled (run_under s) n b xs args
    → AreLocations (location_kinds s.code.vars) ls
    → (sees : ℕ → ℕ) (root : ℕ → Option ℕ) → AreSeen ls sees root
    → Stands s.code s.inputs.items s.share run sees root (events.start n b xs ls fuel)
start_stands s ok n args fuel run r b xs ls k typed sees root there =
    let same : r.body ≡ b = some_eq (sym r.is ∙ k.is) in
    first_stands (run_under s) n b k.is xs ls fuel
    (procedures_start ℕ s.code (notes_of s.code) (no_fault_accepted s.code ok) n b k.is k.program xs k.kinds ls typed
    fuel)
    run args r.room (subst (λ y. IsRoom s.code n y r.room) same r.enough) k.stand
    (subst (λ y. IsFirst y n args r.room fuel run) same r.first) sees root there (locations_many s.code.vars ls typed)

-- nothing is written yet
pub unwritten : (size : ℕ) (delta first : Delta) (base : ℕ → ℕ) (ls : List (Location ℕ)) → length ls ≤ size
    → locations delta ≡ size → IsEmpty delta → locations first ≡ size → IsEmpty first
    → AreSeen ls base (λ l. None) → AreSeen ls (overlay.under delta base) (at first)
unwritten size delta first base ls many d empty f none there =
    kept_seen ls base (overlay.under delta base) (λ l. None) (at first) there size many (record {
      words = λ l i. ap (overlay.word_or (base l)) (empty l (omega (arith, i, d)));
      roots = λ l i. none l (omega (arith, i, f));
    })

-- ---- arguments at the front

pub front_more : (ws args : List ℕ) (i d : ℕ) → i < length args → length args ≤ length ws
    → set (take i args ++ drop i ws) i (get_or args i d) ≡ take (i + 1) args ++ drop (i + 1) ws
front_more ws args i d h k =
    by ws args i h k ∙ (let e : suc i ≡ i + 1 = omega arith in ap (λ m. take m args ++ drop m ws) e)
  where
    by : (ws args : List ℕ) (i : ℕ) → i < length args → length args ≤ length ws
        → set (take i args ++ drop i ws) i (get_or args i d) ≡ take (suc i) args ++ drop (suc i) ws
    by ws [] i h k = absurd (omega (arith, h))
    by [] (a ∷ args) i h k = absurd (omega (arith, k))
    by (w ∷ ws) (a ∷ args) zero h k = refl
    by (w ∷ ws) (a ∷ args) (suc i) h k = ap (λ xs. a ∷ xs) (by ws args i (omega (arith, h)) (omega (arith, k)))
