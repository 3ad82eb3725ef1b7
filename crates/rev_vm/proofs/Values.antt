-- What a value stands for is the state or the end that is a function of it.
use Rattle.std.proofs.Common.{◌≡◌, ◌∙◌, ℕ, List, [], ◌∷◌, ◌++◌, map, refl, sym, ap}
use Rattle.std.specs.Prelude.{slice_get}
use Rattle.rev_num.specs.declared.value.ValueKind.{ValueKind}
use Rattle.rev_code.specs.Words.{Word}
use Rattle.rev_code.specs.State.{State, joined}
use Rattle.code_rules.specs.Shapes.{kind_or_int}
use Rattle.code_soundness.specs.Typed.{location_kinds}
use Rattle.version_map.specs.declared.end.CodeTrap.{CodeTrap}
use Rattle.version_map.specs.declared.end.Finish.{Finish}
use Rattle.version_map.specs.declared.end.Finish.TheVariants as finish
use Rattle.version_map.specs.declared.end.Written.{Written}
use Rattle.version_map.specs.Composing.{Entry}
use Rattle.version_map.specs.Deltas.{at}
use Rattle.version_map.specs.Overlay as overlay
use Rattle.code_machine.specs.Local.{Trap, Phase, running, done, trapped}
use Rattle.code_machine.specs.Joining.{join_in, note}
use Rattle.leg_run.specs.Standing.{word_as}
use Rattle.leg_run.proofs.Decoding.{its_state, word_of_kind}
use Rattle.rev_vm.specs.Meaning.{AreWritten, IsPhase, IsTrap, IsWritten}
use Rattle.rev_vm.specs.States.{all_but_last, before_join, entry_as, phase_as, state_at}
use Rattle.rev_vm.specs.Laws.{ClaimsOneState, HasOneState, JoinsInOneState, LeavesOneEnd}

pub one_state : HasOneState
one_state g run delta base first c h =
    its_state g.code g.inputs g.share run (overlay.under delta base) (at first) c h.stands

without_last : {A : Type 0} (xs : List A) (x : A) → all_but_last (xs ++ x ∷ []) ≡ xs
without_last [] x = refl
without_last (y ∷ []) x = refl
without_last (y ∷ z ∷ zs) x = ap (λ ys. y ∷ ys) (without_last (z ∷ zs) x)

pub one_joining : JoinsInOneState
one_joining g run delta base first try on c h =
    let e : note on c ≡ state_at g run delta base first = one_state g run delta base first (note on c) h.stands in
    let w : all_but_last (c.listed ++ joined on c.line ∷ []) ≡ c.listed = without_last c.listed (joined on c.line) in
    let a : c ≡ record c { listed = all_but_last (c.listed ++ joined on c.line ∷ []) } =
    λ i. record c { listed = sym w i } in
    let d :
    record c { listed = all_but_last (c.listed ++ joined on c.line ∷ []) } ≡ before_join g run delta base first =
    ap (λ (s : State ℕ). record s { listed = all_but_last s.listed }) e in
    a ∙ d

-- ---- ends

entry_is : (kinds : List ValueKind) (e : Entry (Word ℕ)) (w : Written) → IsWritten kinds e w → e ≡ entry_as kinds w
entry_is kinds e w h =
    let kind = sym (ap kind_or_int (ap (slice_get kinds) h.location ∙ h.there)) in
    let value = word_of_kind e.value w.value h.kind h.value.word h.value.of_kind ∙ ap (λ x. word_as x w.value) kind in
    let root = word_of_kind e.root w.root h.kind h.root.word h.root.of_kind ∙ ap (λ x. word_as x w.root) kind in
    let l = sym h.location in
    λ i. record { location = l i; value = value i; root = root i }

entries_are : (kinds : List ValueKind) (es : List (Entry (Word ℕ))) (ws : List Written) → AreWritten kinds es ws
    → es ≡ map (entry_as kinds) ws
entries_are kinds [] [] h = refl
entries_are kinds [] (w ∷ ws) h = absurd h
entries_are kinds (e ∷ es) [] h = absurd h
entries_are kinds (e ∷ es) (w ∷ ws) h =
    let a = entry_is kinds e w h.0 in let b = entries_are kinds es ws h.1 in λ i. a i ∷ b i

trap_is : (t : Trap ℕ) (u : CodeTrap) → IsTrap t u → t ≡ record { cause = u.cause; line = u.line; origin = u.origin }
trap_is t u h =
    let a = sym h.cause in
    let b = sym h.line in
    let c = sym h.origin in
    λ i. record { cause = a i; line = b i; origin = c i }

phase_is : (p : Phase ℕ) (f : Finish) → IsPhase p f → p ≡ phase_as f
phase_is running f h = absurd h
phase_is done finish.Done h = refl
phase_is done (finish.Trapped u) h = absurd h
phase_is (trapped t) finish.Done h = absurd h
phase_is (trapped t) (finish.Trapped u) h = ap trapped (trap_is t u h)

pub one_end : LeavesOneEnd
one_end g j v h =
    let a = entries_are (location_kinds g.code.vars) j.written v.written h.written in
    let b = sym h.text in
    let c = sym h.fuel in
    let d = phase_is j.phase v.finish h.phase in
    λ i. record { written = a i; text = b i; fuel = c i; phase = d i }

pub one_claim : ClaimsOneState
one_claim g run delta base first try on v c j h =
    let a = one_joining g run delta base first try on c h.joiner in
    let b = one_end g j v h.joinee in
    λ i. join_in g (a i) try on (b i) (b i).phase
