-- Revisions that agree and have ended have the same part.
use Rattle.std.proofs.Common.{◌≡◌, ◌≢◌, ◌∙◌, ℕ, suc, ◌+◌, ◌≤◌, List, [], ◌∷◌, length, map, Option, Some, None, refl, sym, ap, arith}
use Rattle.rev_num.specs.Path.{Path}
use Rattle.rev_num.specs.declared.value.Value.{Value}
use Rattle.trace_diagram.specs.declared.diagram.PartEnd.TheVariants as part_end
use Rattle.revision_calculus.specs.Program.{Setting}
use Rattle.revision_calculus.specs.State as source
use Rattle.rev_code.specs.State.{State}
use Rattle.expression_meaning.specs.States.{location_word, entry, IsShared}
use Rattle.code_machine.specs.Local as code
use Rattle.code_machine.specs.Local.{Phase, running, done, trapped, written_from}
use Rattle.program_meaning.specs.Related as related
use Rattle.program_meaning.specs.Related.{run_of}
use Rattle.program_meaning.specs.Agreement.{compared, PhaseAgrees, read, AgreesBy}
use Rattle.audit_rules.specs.Parts as calculus_parts
use Rattle.audit_rules.specs.Parts.{place_at, cause_place, part_of}
use Rattle.code_traces.specs.Parts.{places, event_of, origin_at, end_at, change_of, part_by, path_in, part_in}
use Rattle.code_traces.proofs.Readings.{part_read}
use Rattle.code_traces.proofs.Places.{same_places}
use Rattle.program_meaning.proofs.Ends.{value_back}

-- ---- by paths

event_same : (x : source.Noted) → event_of (λ p. p) (entry x) ≡ calculus_parts.event_of x
event_same (source.forked q line) = refl
event_same (source.joined q line) = refl

events_same : (xs : List source.Noted) → map (event_of (λ p. p)) (map entry xs) ≡ map calculus_parts.event_of xs
events_same [] = refl
events_same (x ∷ xs) = let a = event_same x in let b = events_same xs in λ i. a i ∷ b i

-- from the location with this number on, where these are the places from there on
changes_same : (all : List (List ℕ)) (n : ℕ) (ps : List (List ℕ)) (ms : List source.Location) → length ms ≤ length ps
    → ((k j : ℕ) → j ≡ n + k → place_at all j ≡ place_at ps k)
    → map (change_of (λ p. p) all) (written_from n (map location_word ms)) ≡ calculus_parts.changes ps ms
changes_same all n [] [] few at = refl
changes_same all n (p ∷ ps) [] few at = refl
changes_same all n [] (m ∷ ms) few at = absurd (omega (arith, few))
changes_same all n (p ∷ ps) (m ∷ ms) few at =
    by m.written (changes_same all (suc n) ps ms (omega (arith, few)) (λ k j is. at (suc k) j (omega (arith, is))))
  where
    here : place_at all n ≡ p
    here = at 0 n (omega arith)

    by : (w : Option Value)
        → map (change_of (λ p. p) all) (written_from (suc n) (map location_word ms)) ≡ calculus_parts.changes ps ms
        → map (change_of (λ p. p) all)
        (written_from n (location_word (record { base = m.base; written = w }) ∷ map location_word ms))
        ≡ calculus_parts.change_of p m w (calculus_parts.changes ps ms)
    by None later = later
    by (Some x) later =
        let value = value_back x in let root = value_back m.base in let place = here in
        λ i. record { place = place i; value = value i; root = root i } ∷ later i

end_same : (ps : List (List ℕ)) (r : Path) (ph : source.Phase) (x : Phase Path) → PhaseAgrees r ph x
    → end_at (λ p. p) ps r x ≡ calculus_parts.end_at ps ph
end_same ps r source.running running h = refl
end_same ps r source.running done h = absurd h
end_same ps r source.running (trapped u) h = absurd h
end_same ps r (source.joining q left) x h = absurd h
end_same ps r source.done running h = absurd h
end_same ps r source.done done h = refl
end_same ps r source.done (trapped u) h = absurd h
end_same ps r (source.trapped t) running h = absurd h
end_same ps r (source.trapped t) done h = absurd h
end_same ps r (source.trapped t) (trapped u) h =
    let cause = h.cause in let line = h.line in let origin = h.origin ∙ same_origin u.origin in
    λ i. part_end.Trapped (record { cause = sym cause i; line = sym line i; origin = sym origin i })
    (cause_place ps (sym cause i))
  where
    same_origin : (o : Option Path) → related.origin_at r o ≡ origin_at (λ p. p) r o
    same_origin None = refl
    same_origin (Some q) = refl

module _ (s : Setting) (r : Path) (l : source.Local) (few : length l.locations ≤ length (calculus_parts.places s)) where
  shared_part : (c : State Path) (x : Phase Path) → IsShared l c → PhaseAgrees r l.phase x
      → part_by (λ p. p) (run_of s) r (record { state = c; phase = x }) ≡ part_of s r l
  shared_part c x sh ph =
      let ps : List (List ℕ) = places (run_of s).code.vars in
      let qs : List (List ℕ) = calculus_parts.places s in
      let same : places (run_of s).code.vars ≡ calculus_parts.places s = same_places s in
      let events : map (event_of (λ p. p)) c.listed ≡ map calculus_parts.event_of l.noted =
      ap (map (event_of (λ p. p))) sh.3 ∙ events_same l.noted in
      let end :
      end_at (λ p. p) (places (run_of s).code.vars) r x ≡ calculus_parts.end_at (calculus_parts.places s) l.phase =
      ap (λ v. end_at (λ p. p) v r x) same ∙ end_same (calculus_parts.places s) r l.phase x ph in
      let written : map (change_of (λ p. p) (places (run_of s).code.vars)) (written_from 0 c.locations)
      ≡ calculus_parts.changes (calculus_parts.places s) l.locations =
      ap (λ v. map (change_of (λ p. p) v) (written_from 0 c.locations)) same
      ∙ ap (λ ls. map (change_of (λ p. p) (calculus_parts.places s)) (written_from 0 ls)) sh.0
      ∙ changes_same (calculus_parts.places s) 0 (calculus_parts.places s) l.locations few
      (λ k j is. ap (place_at (calculus_parts.places s)) (omega (arith, is))) in
      let fuel = sh.1 in let text = sh.4 in
      λ i. record { path = r; events = events i; end = end i; fuel = fuel i; written = written i; text = text i }

  -- where it has ended it counts as it is
  agreed_part : (c : State Path) (x : Phase Path) → x ≢ running → IsShared l (compared (run_of s) c x)
      → PhaseAgrees r l.phase x → part_by (λ p. p) (run_of s) r (record { state = c; phase = x }) ≡ part_of s r l
  agreed_part c running over sh ph = absurd (over refl)
  agreed_part c done over sh ph = shared_part c done sh ph
  agreed_part c (trapped u) over sh ph = shared_part c (trapped u) sh ph

  -- ---- by numbers

  pub same_part : (t : List Path) (k : code.Local ℕ) → AgreesBy s t r l k → (read t k).phase ≢ running
      → part_in (run_of s) t r k ≡ part_of s r l
  same_part t k h over =
      sym (part_read (path_in t) (λ p. p) (run_of s) r k)
      ∙ agreed_part (read t k).state (read t k).phase over h.shared h.phase
