-- The entry that is made stands for that of which the machine tells.
use Rattle.std.proofs.Common.{◌≡◌, ◌∙◌, ◌⊎◌, inl, inr, ℕ, Bool, true, false, ℤ, List, [], ◌∷◌, length, map, Option, Some, refl, sym, ap, subst, arith, true≢false}
use Rattle.std.specs.Prelude.{◌||◌, nat_eq}
use Rattle.std.proofs.lemmas.Option.{slice_get_within}
use Rattle.rev_num.specs.Path.{Path}
use Rattle.rev_num.specs.declared.value.Value.{Value}
use Rattle.rev_num.proofs.Lists.{or_true}
use Rattle.rev_num.proofs.Options.{none_some, some_eq}
use Rattle.rev_code.specs.declared.code.Code.{Code}
use Rattle.rev_code.specs.declared.code.CodeVar.{CodeVar}
use Rattle.rev_code.specs.Words.{Word}
use Rattle.code_soundness.specs.Typed.{location_kinds}
use Rattle.revision_machine.specs.Laws.{IsIn}
use Rattle.revision_machine.specs.Numbered.{number_of, path_in}
use Rattle.revision_machine.proofs.Bearing.{in_front, in_back}
use Rattle.version_map.specs.Composing.{Entry}
use Rattle.version_map.specs.Deltas.{at}
use Rattle.version_map.specs.declared.end.EndValue.{EndValue}
use Rattle.version_map.specs.declared.end.Finish.{Finish}
use Rattle.version_map.specs.declared.end.Finish.TheVariants as finish
use Rattle.version_map.specs.declared.end.Written.{Written}
use Rattle.code_machine_laws.specs.Reads as reads
use Rattle.code_machine_laws.specs.Reads.{Read}
use Rattle.code_machine_laws.specs.Moved.{AllAgree}
use Rattle.block_run.specs.declared.notes.ReadMarks.{ReadMarks}
use Rattle.leg_run.specs.Marks.{marks_of, has_location, has_input, has_count}
use Rattle.code_machine.specs.Local.{CodeRun, Phase, running, done, trapped, of_word}
use Rattle.code_machine.specs.Renamed.{renamed_phase}
use Rattle.code_memos.specs.Leaf.{Fresh, Known}
use Rattle.code_memos.specs.Renaming.{renamed_entry}
use Rattle.code_world.specs.declared.freshness.FreshStart as rust
use Rattle.rev_vm.specs.Meaning.{AreWritten, IsPhase}
use Rattle.rev_record.specs.declared.entry.Given.{Given}
use Rattle.rev_record.specs.declared.entry.KeptValue.{KeptValue}
use Rattle.rev_record.specs.declared.entry.LeafEntry.{LeafEntry}
use Rattle.rev_record.specs.Begins.{BeginsAt}
use Rattle.rev_record.specs.Standing.{Has, HasReads, IsLeafEnd, StandsFor, given, kept, kept_write, value}
use Rattle.rev_record.specs.Told.{HasNoted, IsAlone, IsTold, of_values}
use Rattle.rev_record.specs.Words.{HasGiven, HasRead, count_of, kept_at, leaf_end, value_at, written_of}
use Rattle.rev_record.proofs.Lists.{has_first, has_later, has_none, has_one}
use Rattle.rev_record.proofs.Validity.{all_each}
use Rattle.rev_record.proofs.Words.{seen, value_in}

-- ---- marks of reads

module _ where
  marked_here : (n m : ℕ) (b : Bool) → (n ≡ m) → (nat_eq m n || b) ≡ true
  marked_here n m b e = grind (arith, e)

  location_marked : (rs : List (Read Path)) (n : ℕ) (w : Word Path) → Has rs (reads.location n w)
      → has_location (marks_of rs) n ≡ true
  location_marked [] n w i = has_none (reads.location n w) i
  location_marked (x ∷ rs) n w i = by x (λ j. location_marked rs n w j) (has_one (reads.location n w) x rs i)
    where
      by : (x : Read Path) → (Has rs (reads.location n w) → has_location (marks_of rs) n ≡ true)
          → (reads.location n w ≡ x) ⊎ Has rs (reads.location n w)
          → has_location (marks_of (x ∷ rs)) n ≡ true
      by (reads.location m u) later (inl e) =
          marked_here n m (has_location (marks_of rs) n) (let z : reads.location n w ≡ reads.location m u = e in cc)
      by (reads.location m u) later (inr j) = ap (λ b. nat_eq m n || b) (later j) ∙ or_true (nat_eq m n)
      by (reads.input m z) later (inl e) = absurd (let y : reads.location n w ≡ reads.input m z = e in cc)
      by (reads.input m z) later (inr j) = later j
      by (reads.count m) later (inl e) = absurd (let y : reads.location n w ≡ reads.count m = e in cc)
      by (reads.count m) later (inr j) = later j

  input_marked : (rs : List (Read Path)) (n : ℕ) (v : ℤ) → Has rs (reads.input n v) → has_input (marks_of rs) n ≡ true
  input_marked [] n v i = has_none (reads.input n v) i
  input_marked (x ∷ rs) n v i = by x (λ j. input_marked rs n v j) (has_one (reads.input n v) x rs i)
    where
      by : (x : Read Path) → (Has rs (reads.input n v) → has_input (marks_of rs) n ≡ true)
          → (reads.input n v ≡ x) ⊎ Has rs (reads.input n v)
          → has_input (marks_of (x ∷ rs)) n ≡ true
      by (reads.location m u) later (inl e) = absurd (let y : reads.input n v ≡ reads.location m u = e in cc)
      by (reads.location m u) later (inr j) = later j
      by (reads.input m z) later (inl e) =
          marked_here n m (has_input (marks_of rs) n) (let y : reads.input n v ≡ reads.input m z = e in cc)
      by (reads.input m z) later (inr j) = ap (λ b. nat_eq m n || b) (later j) ∙ or_true (nat_eq m n)
      by (reads.count m) later (inl e) = absurd (let y : reads.input n v ≡ reads.count m = e in cc)
      by (reads.count m) later (inr j) = later j

  count_marked : (rs : List (Read Path)) (n : ℕ) → Has rs (reads.count n) → has_count (marks_of rs) ≡ true
  count_marked [] n i = has_none (reads.count n) i
  count_marked (x ∷ rs) n i = by x (λ j. count_marked rs n j) (has_one (reads.count n) x rs i)
    where
      by : (x : Read Path) → (Has rs (reads.count n) → has_count (marks_of rs) ≡ true)
          → (reads.count n ≡ x) ⊎ Has rs (reads.count n) → has_count (marks_of (x ∷ rs)) ≡ true
      by (reads.location m u) later (inl e) = absurd (let y : reads.count n ≡ reads.location m u = e in cc)
      by (reads.location m u) later (inr j) = later j
      by (reads.input m z) later (inl e) = absurd (let y : reads.count n ≡ reads.input m z = e in cc)
      by (reads.input m z) later (inr j) = later j
      by (reads.count m) later h = refl

  -- and a mark is of a read

  either_true : (m n : ℕ) (b : Bool) → (nat_eq m n || b) ≡ true → (m ≡ n) ⊎ (b ≡ true)
  either_true m n b e = by (nat_eq m n) refl e
    where
      by : (d : Bool) → nat_eq m n ≡ d → (d || b) ≡ true → (m ≡ n) ⊎ (b ≡ true)
      by true is e = inl (grind (arith, is))
      by false is e = inr e

  marked_location : (rs : List (Read Path)) (n : ℕ) → has_location (marks_of rs) n ≡ true
      → (w : Word Path) × Has rs (reads.location n w)
  marked_location [] n e = absurd (true≢false (sym e))
  marked_location (reads.location m u ∷ rs) n e =
      by (λ h. marked_location rs n h) (either_true m n (has_location (marks_of rs) n) e)
    where
      by : (has_location (marks_of rs) n ≡ true → (w : Word Path) × Has rs (reads.location n w))
          → (m ≡ n) ⊎ (has_location (marks_of rs) n ≡ true)
          → (w : Word Path) × Has (reads.location m u ∷ rs) (reads.location n w)
      by later (inl is) = (u, (0, ap (λ z. Some (reads.location z u)) is))
      by later (inr h) = let x = later h in (x.0, has_later (reads.location n x.0) (reads.location m u) rs x.1)
  marked_location (reads.input m z ∷ rs) n e =
      let x = marked_location rs n e in (x.0, has_later (reads.location n x.0) (reads.input m z) rs x.1)
  marked_location (reads.count m ∷ rs) n e =
      let x = marked_location rs n e in (x.0, has_later (reads.location n x.0) (reads.count m) rs x.1)

  marked_input : (rs : List (Read Path)) (n : ℕ) → has_input (marks_of rs) n ≡ true → (v : ℤ) × Has rs (reads.input n v)
  marked_input [] n e = absurd (true≢false (sym e))
  marked_input (reads.location m u ∷ rs) n e =
      let x = marked_input rs n e in (x.0, has_later (reads.input n x.0) (reads.location m u) rs x.1)
  marked_input (reads.input m z ∷ rs) n e =
      by (λ h. marked_input rs n h) (either_true m n (has_input (marks_of rs) n) e)
    where
      by : (has_input (marks_of rs) n ≡ true → (v : ℤ) × Has rs (reads.input n v))
          → (m ≡ n) ⊎ (has_input (marks_of rs) n ≡ true)
          → (v : ℤ) × Has (reads.input m z ∷ rs) (reads.input n v)
      by later (inl is) = (z, (0, ap (λ y. Some (reads.input y z)) is))
      by later (inr h) = let x = later h in (x.0, has_later (reads.input n x.0) (reads.input m z) rs x.1)
  marked_input (reads.count m ∷ rs) n e =
      let x = marked_input rs n e in (x.0, has_later (reads.input n x.0) (reads.count m) rs x.1)

  marked_count : (rs : List (Read Path)) → has_count (marks_of rs) ≡ true → (n : ℕ) × Has rs (reads.count n)
  marked_count [] e = absurd (true≢false (sym e))
  marked_count (reads.location m u ∷ rs) e =
      let x = marked_count rs e in (x.0, has_later (reads.count x.0) (reads.location m u) rs x.1)
  marked_count (reads.input m z ∷ rs) e =
      let x = marked_count rs e in (x.0, has_later (reads.count x.0) (reads.input m z) rs x.1)
  marked_count (reads.count m ∷ rs) e = (m, has_first (reads.count m) rs)

-- ---- reads

module _ (code : Code) (t : List Path) (f : Fresh Path) (x : rust.FreshStart) (b : BeginsAt code t f x)
    (inputs : List ℤ) (noted : ReadMarks)
    (rs : List (Read Path)) (agree : AllAgree f.snapshot inputs rs) (notes : HasNoted noted (marks_of rs))
    (k : LeafEntry)
    (locations : HasRead (path_in t) code.vars (at noted.locations) x.base.items (length x.base.items) k.locations)
    (positions : HasGiven (at noted.inputs) inputs (length inputs) k.inputs)
    (count : k.count ≡ count_of noted.count inputs) where
  count_there : (n : ℕ) → Has rs (reads.count n) → k.count ≡ Some n
  count_there n i =
      count ∙ ap (λ z. count_of z inputs) (notes.count_is ∙ count_marked rs n i)
      ∙ ap Some (all_each f.snapshot inputs rs agree (reads.count n) i)

  count_back : (n : ℕ) → k.count ≡ Some n → Has rs (reads.count n)
  count_back n e = by noted.count refl (sym count ∙ e)
    where
      by : (d : Bool) → noted.count ≡ d → count_of d inputs ≡ Some n → Has rs (reads.count n)
      by false is h = none_some h
      by true is h =
          let m = marked_count rs (sym notes.count_is ∙ is) in
          let same : m.0 ≡ n = sym (all_each f.snapshot inputs rs agree (reads.count m.0) m.1) ∙ some_eq h in
          subst (λ z. Has rs (reads.count z)) same m.1

  location_there : (n : ℕ) (w : Word Path) → Has rs (reads.location n w) → Has k.locations (kept n w)
  location_there n w i =
      let e = all_each f.snapshot inputs rs agree (reads.location n w) i in
      let s = seen t code.vars f.snapshot x.base.items b.base n w e in
      let h = locations.all n s.0 (slice_get_within x.base.items n s.0 s.1)
      (notes.locations_are n ∙ location_marked rs n w i) s.1 in
      subst (Has k.locations) (ap (λ z. record { location = n; value = z }) s.2) h

  location_back : (y : KeptValue) → Has k.locations y
      → (w : Word Path) × (y.value ≡ value w) × Has rs (reads.location y.location w)
  location_back y i =
      let h = locations.only y i in
      let m = marked_location rs y.location (sym (notes.locations_are y.location) ∙ h.2) in
      let e = all_each f.snapshot inputs rs agree (reads.location y.location m.0) m.1 in
      let s = seen t code.vars f.snapshot x.base.items b.base y.location m.0 e in
      let same : s.0 ≡ h.0 = some_eq (sym s.1 ∙ h.3) in
      (m.0, h.4 ∙ ap (value_at (path_in t) code.vars y.location) (sym same) ∙ s.2, m.1)

  position_back : (y : Given) → Has k.inputs y → Has rs (reads.input y.position y.number)
  position_back y i =
      let h = positions.only y i in
      let m = marked_input rs y.position (sym (notes.inputs_are y.position) ∙ h.1) in
      let e = all_each f.snapshot inputs rs agree (reads.input y.position m.0) m.1 in
      let same : m.0 ≡ y.number = some_eq (sym e ∙ h.2) in
      subst (λ z. Has rs (reads.input y.position z)) same m.1

  position_there : (n : ℕ) (z : ℤ) → Has rs (reads.input n z) → Has k.inputs (given n z)
  position_there n z i =
      let e = all_each f.snapshot inputs rs agree (reads.input n z) i in
      positions.all n z (slice_get_within inputs n z e) (notes.inputs_are n ∙ input_marked rs n z i) e

  has_reads : HasReads k rs
  has_reads = record {
    locations = location_there;
    no_location = location_back;
    positions = position_there;
    no_position = position_back;
    counts = count_there;
    no_count = count_back;
  }

pub read_same : (path : ℕ → Path) (noted : ℕ → Option ℕ) (vars vars' : List CodeVar) (base base' : List ℕ)
    (read read' : List KeptValue)
    → vars ≡ vars' → base ≡ base' → read ≡ read'
    → HasRead path vars noted base (length base) read → HasRead path vars' noted base' (length base') read'
read_same path noted vars vars' base base' read read' v b r h =
    subst (λ z. HasRead path z noted base' (length base') read') v
    (subst (λ z. HasRead path vars noted z (length z) read') b (subst (HasRead path vars noted base (length base)) r h))

-- ---- ends

leaf_ends : (t : List Path) (p : Phase Path) (f : Finish) → IsAlone p → IsPhase (renamed_phase (number_of t) p) f
    → IsLeafEnd p (leaf_end f)
leaf_ends t running f alone is = absurd alone
leaf_ends t done finish.Done alone is = tt
leaf_ends t done (finish.Trapped u) alone is = absurd is
leaf_ends t (trapped p) finish.Done alone is = absurd is
leaf_ends t (trapped p) (finish.Trapped u) alone is = (sym is.cause, sym is.line, alone)

module _ (t : List Path) (vars : List CodeVar) where
  -- what was written has the values of the entry's words
  writes_are : (es : List (Entry (Word Path))) (ws : List Written)
      → AreWritten (location_kinds vars) (map (renamed_entry (number_of t)) es) ws
      → ((q : Path) → IsIn q (of_values es) → IsIn q t) → written_of (path_in t) vars ws ≡ map kept_write es
  writes_are [] [] a named = refl
  writes_are [] (w ∷ ws) a named = absurd a
  writes_are (e ∷ es) [] a named = absurd a
  writes_are (e ∷ es) (w ∷ ws) a named =
      let h = a.0 in
      let one = value_in t vars e.location h.kind h.there e.value w.value
      (record { is = h.value; named = λ q i. named q (in_front (of_word e.value) (of_values es) q i) }) in
      let rest = writes_are es ws a.1 (λ q i. named q (in_back (of_word e.value) (of_values es) q i)) in
      let place = h.location in
      (λ j. kept_at (path_in t) vars (place j) w.value ∷ written_of (path_in t) vars ws)
      ∙ (λ j. record { location = e.location; value = one j } ∷ rest j)

-- ---- whole entries

-- the parts of an entry that is made, by the machine's words
pub record IsMade (g : CodeRun) (t : List Path) (r : Path) (x : rust.FreshStart) (noted : ReadMarks) (v : EndValue)
    (args : List Value) (k : LeafEntry) : Type 0 where
  pub path : k.path ≡ r
  pub block : k.block ≡ x.block
  pub args_are : k.args ≡ args
  pub fuel : k.fuel ≡ x.fuel
  pub locations : HasRead (path_in t) g.code.vars (at noted.locations) x.base.items (length x.base.items) k.locations
  pub positions : HasGiven (at noted.inputs) g.inputs (length g.inputs) k.inputs
  pub count : k.count ≡ count_of noted.count g.inputs
  pub written : k.written ≡ written_of (path_in t) g.code.vars v.written
  pub text : k.text ≡ v.text
  pub rest : k.rest ≡ v.fuel
  pub end : k.end ≡ leaf_end v.finish

pub made_stands : (g : CodeRun) (t : List Path) (f : Fresh Path) (x : rust.FreshStart) (b : BeginsAt g.code t f x)
    (noted : ReadMarks) (v : EndValue) (e : Known)
    → IsTold g t f noted v e
    → (args : List Value) → args ≡ map value f.args → (k : LeafEntry) → IsMade g t e.path x noted v args k
    → StandsFor k e
made_stands g t f x b noted v e told args values k m = record {
  path = m.path;
  block = m.block ∙ b.block ∙ sym told.own.block_is;
  args = m.args_are ∙ values ∙ ap (map value) (sym told.own.args_are);
  fuel = m.fuel ∙ b.fuel ∙ sym told.own.fuel_is;
  reads = has_reads g.code t f x b g.inputs noted e.reads told.own.reads_agree told.noted_are k m.locations m.positions
      m.count;
  written = m.written ∙ writes_are t g.code.vars e.end.written v.written told.end.written told.named;
  text = m.text ∙ told.end.text;
  rest = m.rest ∙ told.end.fuel;
  end = subst (IsLeafEnd e.end.phase) (sym m.end) (leaf_ends t e.end.phase v.finish told.alone told.end.phase);
}
