-- What is left over another snapshot, as an end value.
use Rattle.std.proofs.Common.{◌≡◌, ◌∙◌, ◌⊎◌, inl, inr, cond, ℕ, zero, suc, ◌<◌, ◌≤◌, List, [], ◌∷◌, length, map, Some, refl, sym, ap, subst, arith}
use Rattle.std.specs.Prelude.{slice_get}
use Rattle.std.proofs.lemmas.Option.{get_or_from_slice_get, slice_get_within}
use Rattle.rev_num.specs.Path.{Path}
use Rattle.rev_num.specs.declared.value.ValueKind.{ValueKind}
use Rattle.rev_num.proofs.Lists.{within_some}
use Rattle.rev_num.proofs.Options.{none_some, some_eq}
use Rattle.rev_code.specs.declared.code.Code.{Code}
use Rattle.rev_code.specs.Words.{Word, int, bool, rev, kind_of}
use Rattle.code_soundness.specs.Typed.{location_kinds}
use Rattle.revision_machine.specs.Laws.{IsIn}
use Rattle.revision_machine.specs.Numbered.{number_of}
use Rattle.revision_machine.proofs.Paths.{apart-same}
use Rattle.version_map.specs.Ascending.{IsAscending}
use Rattle.version_map.specs.Composing.{Entry}
use Rattle.version_map.specs.declared.end.EndValue.{EndValue}
use Rattle.version_map.specs.declared.end.Written.{Written}
use Rattle.block_run.specs.Agreement.{IsWord}
use Rattle.code_machine.specs.Ends.{AreEntries, Ascend, IsEntry}
use Rattle.code_machine.specs.Local.{CodeRun, Phase, running, done, trapped}
use Rattle.code_machine.specs.Renamed.{renamed_handle, renamed_phase, renamed_word}
use Rattle.code_memos.specs.Leaf.{Fresh, Known, reroot, rerooted, root_or}
use Rattle.code_memos.specs.Renaming.{renamed_end, renamed_entry}
use Rattle.code_world.specs.declared.freshness.FreshStart as rust
use Rattle.rev_vm.specs.Meaning.{AreWritten, IsEnd, IsPhase, IsWritten}
use Rattle.rev_record.specs.declared.entry.KeptValue.{KeptValue}
use Rattle.rev_record.specs.declared.entry.LeafEnd.{LeafEnd}
use Rattle.rev_record.specs.declared.entry.LeafEnd.TheVariants as leaf
use Rattle.rev_record.specs.declared.entry.LeafEntry.{LeafEntry}
use Rattle.rev_record.specs.Begins.{AreWordsAt, BeginsAt}
use Rattle.rev_record.specs.Standing.{EndFits, Has, IsLeafEnd, StandsFor, kept_write}
use Rattle.rev_record.specs.Words.{AreInside, AreOver, IsOver, finish_of}
use Rattle.rev_record.proofs.Lists.{has_none, has_one}
use Rattle.rev_record.proofs.Words.{number_there, words_many}

kind_named : {H K : Type 0} (f : H → K) (w : Word H) → kind_of (renamed_word f w) ≡ kind_of w
kind_named f (int z) = refl
kind_named f (bool b) = refl
kind_named f (rev h) = refl

-- a path that is none of these has the number behind the last
pub number_absent : (ps : List Path) (q : Path) → (IsIn q ps → ⊥) → number_of ps q ≡ length ps
number_absent [] q none = refl
number_absent (p ∷ ps) q none =
    ap (λ b. cond b zero (suc (number_of ps q))) (apart-same p q (λ e. none (inl (sym e))))
    ∙ ap suc (number_absent ps q (λ i. none (inr i)))

pub over_same : (t : List Path) (base base' : List ℕ) (ks ks' : List KeptValue) (ws ws' : List Written) → base ≡ base'
    → ks ≡ ks' → ws' ≡ ws → AreOver t base ks ws → AreOver t base' ks' ws'
over_same t base base' ks ks' ws ws' b k w o =
    subst (AreOver t base' ks') (sym w) (subst (λ z. AreOver t base' z ws) k (subst (λ z. AreOver t z ks ws) b o))

-- ---- order

module _ (t : List Path) (base : List ℕ) where
  no_less : (n : ℕ) (es : List (Entry (Word Path))) (ws : List Written) → Ascend n es
      → AreOver t base (map kept_write es) ws → (j : ℕ) (w : Written) → slice_get ws j ≡ Some w → n ≤ w.location
  no_less n [] [] a o j w e = none_some e
  no_less n [] (u ∷ ws) a o j w e = absurd o
  no_less n (x ∷ es) [] a o j w e = absurd o
  no_less n (x ∷ es) (u ∷ ws) a o zero w e =
      let p = ap (λ (z : Written). z.location) (some_eq e) in
      let q = o.0.location in
      let r = a.0 in
      omega (arith, p, q, r)
  no_less n (x ∷ es) (u ∷ ws) a o (suc j) w e =
      let h = no_less (suc x.location) es ws a.1 o.1 j w e in let r = a.0 in omega (arith, h, r)

  pub ascends : (n : ℕ) (es : List (Entry (Word Path))) (ws : List Written) → Ascend n es
      → AreOver t base (map kept_write es) ws → IsAscending ws
  ascends n [] [] a o i j v w less p q = none_some p
  ascends n [] (u ∷ ws) a o i j v w less p q = absurd o
  ascends n (x ∷ es) [] a o i j v w less p q = absurd o
  ascends n (x ∷ es) (u ∷ ws) a o i zero v w less p q = absurd (omega (arith, less))
  ascends n (x ∷ es) (u ∷ ws) a o zero (suc j) v w less p q =
      let h = no_less (suc x.location) es ws a.1 o.1 j w q in
      let same = ap (λ (z : Written). z.location) (some_eq p) in
      let place = o.0.location in
      omega (arith, h, same, place)
  ascends n (x ∷ es) (u ∷ ws) a o (suc i) (suc j) v w less p q =
      ascends (suc x.location) es ws a.1 o.1 i j v w (omega (arith, less)) p q

-- ---- places

inside_of : (kinds : List ValueKind) (es : List (Entry (Word Path))) → AreEntries kinds es → (x : KeptValue)
    → Has (map kept_write es) x → x.location < length kinds
inside_of kinds [] f x i = has_none x i
inside_of kinds (e ∷ es) f x i = by (λ j. inside_of kinds es f.1 x j) (has_one x (kept_write e) (map kept_write es) i)
  where
    by : (Has (map kept_write es) x → x.location < length kinds) → (x ≡ kept_write e) ⊎ Has (map kept_write es) x
        → x.location < length kinds
    by later (inr j) = later j
    by later (inl is) =
        let h = slice_get_within kinds e.location f.0.kind f.0.there in
        let same = ap (λ (z : KeptValue). z.location) is in
        omega (arith, h, same)

pub writes_inside : (code : Code) (t : List Path) (f : Fresh Path) (x : rust.FreshStart) → BeginsAt code t f x
    → (k : LeafEntry) (e : Known) → StandsFor k e → EndFits code e.end → AreInside (length x.base.items) k.written
writes_inside code t f x b k e s fits y i =
    let h = inside_of (location_kinds code.vars) e.end.written fits.fit y (subst (λ z. Has z y) s.written i) in
    let many = (words_many t (location_kinds code.vars) f.snapshot x.base.items b.base).0 in
    omega (arith, h, many)

-- ---- words

module _ (t : List Path) (kinds : List ValueKind) (snapshot : List (Word Path)) (base : List ℕ)
    (a : AreWordsAt t kinds snapshot base) where
  written_one : (e : Entry (Word Path)) (w : Written) → IsEntry kinds e → IsOver t base (kept_write e) w
      → IsWritten kinds (renamed_entry (number_of t) (reroot (slice_get snapshot) e)) w
  written_one e w f o =
      let inside = slice_get_within kinds e.location f.kind f.there in
      let many = (words_many t kinds snapshot base a).1 in
      let u = within_some snapshot e.location (omega (arith, inside, many)) in
      let h = number_there t kinds snapshot base a e.location u.0 u.1 in
      let kind : h.kind ≡ f.kind = some_eq (sym h.kind_is ∙ f.there) in
      let root : root_or (slice_get snapshot e.location) e.root ≡ u.0 = ap (λ z. root_or z e.root) u.1 in
      let word : h.number ≡ w.root = sym (get_or_from_slice_get base e.location h.number 0 h.number_is) ∙ sym o.root in
      record {
        location = o.location;
        kind = f.kind;
        there = f.there;
        value = record { of_kind = kind_named (number_of t) e.value ∙ f.value; word = o.value_is e.value refl };
        root = record {
          of_kind = ap (λ z. kind_of (renamed_word (number_of t) z)) root ∙ h.at.is.of_kind ∙ kind;
          word = subst (IsWord (renamed_word (number_of t) (root_or (slice_get snapshot e.location) e.root))) word
              (subst (λ z. IsWord (renamed_word (number_of t) z) h.number) (sym root) h.at.is.word);
        };
      }

  written_are : (es : List (Entry (Word Path))) (ws : List Written) → AreEntries kinds es
      → AreOver t base (map kept_write es) ws
      → AreWritten kinds (map (renamed_entry (number_of t)) (map (reroot (slice_get snapshot)) es)) ws
  written_are [] [] f o = tt
  written_are [] (w ∷ ws) f o = absurd o
  written_are (e ∷ es) [] f o = absurd o
  written_are (e ∷ es) (w ∷ ws) f o = (written_one e w f.0 o.0, written_are es ws f.1 o.1)

leaf_phase : (t : List Path) (p : Phase Path) (f : LeafEnd) → IsLeafEnd p f
    → IsPhase (renamed_phase (number_of t) p) (finish_of f)
leaf_phase t running f h = absurd h
leaf_phase t done leaf.Done h = tt
leaf_phase t done (leaf.Trapped cause line) h = absurd h
leaf_phase t (trapped u) leaf.Done h = absurd h
leaf_phase t (trapped u) (leaf.Trapped cause line) h =
    record { cause = sym h.0; line = sym h.1; origin = ap (renamed_handle (number_of t)) (sym h.2) }

-- ---- ends

module _ (code : Code) (t : List Path) (f : Fresh Path) (x : rust.FreshStart) (b : BeginsAt code t f x) (k : LeafEntry)
    (e : Known) (s : StandsFor k e) (fits : EndFits code e.end) where
  over_there : (ws : List Written) → AreOver t x.base.items k.written ws
      → AreOver t x.base.items (map kept_write e.end.written) ws
  over_there ws o = subst (λ z. AreOver t x.base.items z ws) s.written o

  pub ascending_over : (ws : List Written) → AreOver t x.base.items k.written ws → IsAscending ws
  ascending_over ws o = ascends t x.base.items 0 e.end.written ws fits.ascend (over_there ws o)

  pub end_is : (g : CodeRun) → g.code ≡ code → (v : EndValue) → AreOver t x.base.items k.written v.written
      → v.text ≡ k.text → v.fuel ≡ k.rest → v.finish ≡ finish_of k.end
      → IsEnd g (renamed_end (number_of t) (rerooted f.snapshot e.end)) v
  end_is g same v o text fuel finish = record {
    written = subst (λ (z : Code).
        AreWritten (location_kinds z.vars)
        (map (renamed_entry (number_of t)) (map (reroot (slice_get f.snapshot)) e.end.written)) v.written)
        (sym same)
        (written_are t (location_kinds code.vars) f.snapshot x.base.items b.base e.end.written v.written fits.fit
        (over_there v.written o));
    text = text ∙ s.text;
    fuel = fuel ∙ s.rest;
    phase = subst (IsPhase (renamed_phase (number_of t) e.end.phase)) (sym finish)
        (leaf_phase t e.end.phase k.end s.end);
  }
