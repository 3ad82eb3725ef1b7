-- A joiner whose state fits has one that fits after its join of a revision whose state fits.
use Rattle.std.proofs.Common.{◌≡◌, ℕ, suc, ◌+◌, true, false, ℤ, List, [], ◌∷◌, ◌++◌, Option, Some, None, Result, Ok, Err, refl}
use Rattle.rev_num.specs.Path.{Path}
use Rattle.rev_num.specs.Arith.{fits_i64}
use Rattle.rev_num.specs.declared.value.Value.{Value}
use Rattle.rev_num.specs.declared.value.Value.TheVariants as v
use Rattle.rev_num.specs.declared.value.NumFault.{NumFault}
use Rattle.rev_num.specs.declared.outcome.Cause.TheVariants as cause
use Rattle.rev_syntax.specs.Trees.{ProgramTree}
use Rattle.name_tables.specs.Names.{Name}
use Rattle.typed_programs.specs.Value.{Answer, number_of}
use Rattle.typed_programs.specs.Evaluation.{merge_answer}
use Rattle.typed_programs.specs.Layout.{variables}
use Rattle.revision_calculus.specs.Program.{Setting}
use Rattle.revision_calculus.specs.State.{Location, view, joined, Phase, running, joining, done, trapped, Local}
use Rattle.revision_calculus.specs.Join.{merges_of, merge_of_numbers, number_value, new_value, overwrite, join_location, Composition, merged, faults, and_later, compose, absorb, inherit, join_in, left_side, note, join}
use Rattle.revision_calculus.proofs.Values.{OfOk}
use Rattle.trace_diagram.specs.Lines.{FitsValue}
use Rattle.program_texts.specs.Written.{IsWritten}
use Rattle.program_texts.proofs.WrittenTexts.{more_lines}
use Rattle.program_texts.proofs.WrittenValues.{FitsIfAny, number_fits, merge_fits}
use Rattle.program_texts.proofs.States.{LocationFits, LocationsFit, PhaseFits, StateFits, give_fits, noted_more, view_fits, with_phase}

-- ---- merges

abbrev IsInt : ℤ → Type 0
IsInt z = fits_i64 z ≡ true

answer_int : (a : Answer) → OfOk FitsValue a → OfOk IsInt (merge_answer a)
answer_int (Ok x) h = number_fits x h
answer_int (Err cause.Overflow) h = tt
answer_int (Err cause.ZeroDivisor) h = tt
answer_int (Err cause.Index) h = refl
answer_int (Err cause.Assert) h = refl
answer_int (Err cause.JoinNone) h = refl
answer_int (Err cause.CallDepth) h = refl
answer_int (Err cause.Spent) h = refl
answer_int (Err (cause.Merge n f)) h = refl

number_value_fits : (a : Result ℤ NumFault) → OfOk IsInt a → OfOk FitsValue (number_value a)
number_value_fits (Ok z) h = h
number_value_fits (Err f) h = tt

module _ (p : ProgramTree) (written : IsWritten p) where
  new_fits : (merge : Option ℕ) (m j : Location) (x : Value) → LocationFits m → LocationFits j → FitsValue x
      → OfOk FitsValue (new_value p merge m j x)
  new_fits None m j x h k fit = fit
  new_fits (Some n) m j x h k fit =
      let main = number_fits (view m) (view_fits m h) in
      let mine = number_fits x fit in
      let root = number_fits j.base k.base in
      number_value_fits (merge_of_numbers p n (number_of (view m)) (number_of x) (number_of j.base))
      (answer_int _ (merge_fits p written n (v.Int (number_of (view m))) (v.Int (number_of x))
      (v.Int (number_of j.base)) main mine root))

  overwrite_fits : (m : Location) (a : Result Value NumFault) → LocationFits m → OfOk FitsValue a
      → OfOk LocationFits (overwrite m a)
  overwrite_fits m (Ok x) h k = record { base = h.base; written = k }
  overwrite_fits m (Err f) h k = tt

  location_fits : (merge : Option ℕ) (m j : Location) (x : Option Value) → LocationFits m → LocationFits j → FitsIfAny x
      → OfOk LocationFits (join_location p merge m j x)
  location_fits merge m j None h k fit = h
  location_fits merge m j (Some x) h k fit = overwrite_fits m (new_value p merge m j x) h (new_fits merge m j x h k fit)

  abbrev CompositionFits : Composition → Type 0
  CompositionFits (merged ms) = LocationsFit ms
  CompositionFits (faults n f) = Unit {0}

  later_fits : (n : ℕ) (a : Result Location NumFault) (c : Composition) → OfOk LocationFits a → CompositionFits c
      → CompositionFits (and_later n a c)
  later_fits n (Err f) c h k = tt
  later_fits n (Ok m) (faults i f) h k = tt
  later_fits n (Ok m) (merged ms) h k = (h, k)

  compose_fits : (n : ℕ) (ks : List (Option ℕ)) (ms js : List Location) → LocationsFit ms → LocationsFit js
      → CompositionFits (compose p n ks ms js)
  compose_fits n [] ms js h k = h
  compose_fits n (i ∷ ks) [] js h k = h
  compose_fits n (i ∷ ks) (m ∷ ms) [] h k = h
  compose_fits n (i ∷ ks) (m ∷ ms) (j ∷ js) h k =
      later_fits n (join_location p i m j j.written) (compose p (suc n) ks ms js)
      (location_fits i m j j.written h.0 k.0 k.0.written) (compose_fits (suc n) ks ms js h.1 k.1)

-- ---- the joiner

module _ (s : Setting) (written : IsWritten s.program) (r q : Path) (l j : Local) (h : StateFits r l)
    (k : StateFits q j) where
  noted_fits : StateFits r (note q l)
  noted_fits = record {
    path = h.path;
    locations = h.locations;
    frames = h.frames;
    noted = noted_more l.noted (joined q l.line) h.noted (k.path, h.line);
    text = h.text;
    line = h.line;
    phase = h.phase;
  }

  absorb_fits : (left : Option Name) (c : Composition) → CompositionFits s.program written c
      → StateFits r (absorb s r (note q l) left j c)
  absorb_fits left (faults n f) fit =
      let m = noted_fits in with_phase m _ (m.line, m.path)
  absorb_fits left (merged locations) fit =
      let m = noted_fits in
      give_fits s r
      (record (note q l) { locations = locations; text = l.text ++ j.text; fuel = l.fuel + j.fuel; phase = running })
      left (Some (v.Bool true))
      (record {
        path = m.path;
        locations = fit;
        frames = m.frames;
        noted = m.noted;
        text = more_lines l.text j.text h.text k.text;
        line = m.line;
        phase = tt;
      }) tt

  inherit_fits : (left : Option Name) (p : Phase) → PhaseFits p → StateFits r (inherit s (note q l) left p)
  inherit_fits None p fit =
      with_phase noted_fits p fit
  inherit_fits (Some name) p fit =
      give_fits s r (record (note q l) { phase = running }) (Some name) (Some (v.Bool false))
      (with_phase noted_fits running tt) tt

  pub join_fits : StateFits r (join s r l q j)
  join_fits = by j.phase k.phase
    where
      by : (p : Phase) → PhaseFits p → StateFits r (join_in s r (note q l) (left_side l.phase) j p)
      by done fit =
          absorb_fits (left_side l.phase)
          (compose s.program 0 (merges_of (variables s.program)) l.locations j.locations)
          (compose_fits s.program written 0 (merges_of (variables s.program)) l.locations j.locations h.locations
          k.locations)
      by (trapped t) fit = inherit_fits (left_side l.phase) (trapped t) fit
      by running fit = noted_fits
      by (joining i left) fit = noted_fits
