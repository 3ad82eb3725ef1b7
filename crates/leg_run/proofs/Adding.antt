-- Marks of several reads, and notes that get them one behind another.
use Rattle.std.proofs.Common.{◌≡◌, ◌∙◌, ℕ, Bool, true, false, List, [], ◌∷◌, ◌++◌, refl, sym, ap}
use Rattle.std.proofs.lemmas.List.{map-append}
use Rattle.std.specs.Prelude.{◌||◌, nat_eq, is_some}
use Rattle.version_map.specs.Deltas.{at}
pub use Rattle.code_machine_laws.proofs.LegReads.{leg_reads_of_steps}
use Rattle.code_machine_laws.specs.Reads.{Read}
use Rattle.block_run.specs.declared.notes.ReadMarks.{ReadMarks}
use Rattle.block_run.specs.Marks.{Mark, location, input, count, has_location, has_input, has_count, HasMarked}
use Rattle.leg_run.specs.Marks.{mark_of, marks_of}

or_three : (a b c : Bool) → (b || (a || c)) ≡ ((a || b) || c)
or_three true true c = refl
or_three true false c = refl
or_three false true c = refl
or_three false false c = refl

or_more : (a b c : Bool) → ((a || b) || c) ≡ (a || (b || c))
or_more true b c = refl
or_more false b c = refl

location_more : (ms ns : List Mark) (n : ℕ) → has_location (ms ++ ns) n ≡ (has_location ms n || has_location ns n)
location_more [] ns n = refl
location_more (location m ∷ ms) ns n =
    ap (λ z. nat_eq m n || z) (location_more ms ns n)
    ∙ sym (or_more (nat_eq m n) (has_location ms n) (has_location ns n))
location_more (input m ∷ ms) ns n = location_more ms ns n
location_more (count ∷ ms) ns n = location_more ms ns n

input_more : (ms ns : List Mark) (n : ℕ) → has_input (ms ++ ns) n ≡ (has_input ms n || has_input ns n)
input_more [] ns n = refl
input_more (location m ∷ ms) ns n = input_more ms ns n
input_more (input m ∷ ms) ns n =
    ap (λ z. nat_eq m n || z) (input_more ms ns n) ∙ sym (or_more (nat_eq m n) (has_input ms n) (has_input ns n))
input_more (count ∷ ms) ns n = input_more ms ns n

count_more : (ms ns : List Mark) → has_count (ms ++ ns) ≡ (has_count ms || has_count ns)
count_more [] ns = refl
count_more (location m ∷ ms) ns = count_more ms ns
count_more (input m ∷ ms) ns = count_more ms ns
count_more (count ∷ ms) ns = refl

pub none_marked : (x : ReadMarks) → HasMarked x x []
none_marked x =
    record { locations_are = λ n. refl; inputs_are = λ n. refl; count_is = refl; size = refl; positions = refl }

pub marked_more : (x y z : ReadMarks) (ms ns : List Mark) → HasMarked x y ms → HasMarked y z ns
    → HasMarked x z (ms ++ ns)
marked_more x y z ms ns h k = record {
  locations_are = λ n.
      k.locations_are n ∙ ap (λ v. has_location ns n || v) (h.locations_are n)
      ∙ or_three (has_location ms n) (has_location ns n) (is_some (at x.locations n))
      ∙ ap (λ v. v || is_some (at x.locations n)) (sym (location_more ms ns n));
  inputs_are = λ n.
      k.inputs_are n ∙ ap (λ v. has_input ns n || v) (h.inputs_are n)
      ∙ or_three (has_input ms n) (has_input ns n) (is_some (at x.inputs n))
      ∙ ap (λ v. v || is_some (at x.inputs n)) (sym (input_more ms ns n));
  count_is = k.count_is ∙ ap (λ v. has_count ns || v) h.count_is ∙ or_three (has_count ms) (has_count ns) x.count
      ∙ ap (λ v. v || x.count) (sym (count_more ms ns));
  size = k.size ∙ h.size;
  positions = k.positions ∙ h.positions;
}

module _ {H : Type 0} where
  pub marks_more : (rs qs : List (Read H)) → marks_of (rs ++ qs) ≡ marks_of rs ++ marks_of qs
  marks_more rs qs = map-append mark_of rs qs
