-- The words of `main`'s view, over a snapshot with the start words.
use Rattle.std.proofs.Common.{◌≡◌, ◌∙◌, ℕ, zero, suc, true, List, [], ◌∷◌, ◌++◌, length, get_or, replicate, Option, Some, None, refl, sym, ap, arith}
use Rattle.std.specs.Prelude.{slice_get, nat_eq, ◌&&◌}
use Rattle.std.proofs.lemmas.Bool.Decides.{nat_tests}
use Rattle.std.proofs.lemmas.Option.{get_or_from_slice_get, slice_get_within}
use Rattle.rev_num.specs.declared.value.ValueKind.{ValueKind}
use Rattle.rev_num.specs.declared.value.ValueKind.TheVariants as k
use Rattle.rev_code.specs.declared.code.Code.{Code}
use Rattle.rev_code.specs.declared.code.CodeVar.{CodeVar}
use Rattle.rev_code.specs.Words.{Word, start_word}
use Rattle.rev_code.specs.State.{Location, seen, seen_at}
use Rattle.rev_code.specs.Variables.{start_locations}
use Rattle.code_rules.specs.Tables as rules
use Rattle.code_rules.specs.Verdict.{first_fault}
use Rattle.code_soundness.proofs.Basics.{and_parts}
use Rattle.code_soundness.specs.Typed.{location_kinds}
use Rattle.code_soundness.proofs.Accepting.{no_fault_accepted}
use Rattle.code_soundness.proofs.Evaluating.{var_well}
use Rattle.version_map.specs.declared.end.Written.{Written}
use Rattle.code_machine.specs.Joining.{main_at}
use Rattle.code_machine.specs.Local.{written_from}
use Rattle.leg_run.specs.Standing.{word_as, words_as}
use Rattle.leg_run.proofs.Decoding.{word_of_kind}
use Rattle.code_machine_laws.specs.Reached.{snapshots}
use Rattle.rev_vm.specs.Meaning.{AreWritten}
use Rattle.rev_vm.specs.Opening.{words_at_start}
use Rattle.code_runs.specs.Words.{written_over}
use Rattle.code_runs.proofs.Overlays.{IsThere, word_there, as_many}

-- ---- what the rules say of variables

pub record IsGood (v : CodeVar) : Type 0 where
  pub cells : rules.has_cells v.array v.cells ≡ true
  pub start : rules.is_start v.kind v.start ≡ true

abbrev pub AreGood : List CodeVar → Type 0
AreGood [] = Unit {0}
AreGood (v ∷ vs) = IsGood v × AreGood vs

good_from : (vs : List CodeVar) → ((n : ℕ) (v : CodeVar) → slice_get vs n ≡ Some v → IsGood v) → AreGood vs
good_from [] h = tt
good_from (v ∷ vs) h = (h 0 v refl, good_from vs (λ n u at. h (suc n) u at))

pub good : (code : Code) → first_fault code ≡ None → AreGood code.vars
good code ok = good_from code.vars (λ n v at.
    let q = var_well code (no_fault_accepted code ok).named n v at in
    let a = and_parts (rules.is_name v.name && rules.has_cells v.array v.cells && rules.is_start v.kind v.start)
    (rules.merges_well code v) q in
    let b = and_parts (rules.is_name v.name && rules.has_cells v.array v.cells) (rules.is_start v.kind v.start) a.0 in
    let c = and_parts (rules.is_name v.name) (rules.has_cells v.array v.cells) b.0 in
    record { cells = c.1; start = b.1 })

-- ---- the start

start_as : (x : ValueKind) (w : ℕ) → rules.is_start x w ≡ true → start_word {H = ℕ} x w ≡ word_as x w
start_as k.Int w h = refl
start_as k.Bool w h = refl
start_as k.Rev zero h = refl
start_as k.Rev (suc w) h = absurd (let z : nat_eq (suc w) 0 ≡ true = h in grind (arith, nat_tests, z))

cells_as : (x : ValueKind) (w n : ℕ) (ls : List (Location ℕ)) (kinds : List ValueKind) (ws : List ℕ)
    → start_word {H = ℕ} x w ≡ word_as x w → snapshots ls ≡ words_as kinds ws
    → snapshots (replicate n (record { snapshot = start_word x w; written = None }) ++ ls)
    ≡ words_as (replicate n x ++ kinds) (replicate n w ++ ws)
cells_as x w zero ls kinds ws here rest = rest
cells_as x w (suc n) ls kinds ws here rest = let more = cells_as x w n ls kinds ws here rest in λ i. here i ∷ more i

pub starts_as : (vs : List CodeVar) → AreGood vs
    → snapshots (start_locations {H = ℕ} vs) ≡ words_as (location_kinds vs) (words_at_start vs)
starts_as [] h = refl
starts_as (v ∷ vs) h =
    cells_as v.kind v.start v.cells (start_locations vs) (location_kinds vs) (words_at_start vs)
    (start_as v.kind v.start h.0.start) (starts_as vs h.1)

-- ---- locations over these words

record Lies (ls : List (Location ℕ)) (ws : List ℕ) (n : ℕ) (kind : ValueKind) : Type 0 where
  location : Location ℕ
  word : ℕ
  there : slice_get ls n ≡ Some location
  at : slice_get ws n ≡ Some word
  snapshot : location.snapshot ≡ word_as kind word

lies : (ls : List (Location ℕ)) (kinds : List ValueKind) (ws : List ℕ) (n : ℕ) (kind : ValueKind)
    → snapshots ls ≡ words_as kinds ws → length ws ≡ length kinds → slice_get kinds n ≡ Some kind → Lies ls ws n kind
lies ls [] ws n kind e many at = absurd (let z : None ≡ Some kind = at in cc)
lies ls (x ∷ kinds) [] n kind e many at = absurd (omega (arith, many))
lies [] (x ∷ kinds) (w ∷ ws) n kind e many at = absurd (let z : [] ≡ word_as x w ∷ words_as kinds ws = e in cc)
lies (l ∷ ls) (x ∷ kinds) (w ∷ ws) zero kind e many at =
    let z : l.snapshot ∷ snapshots ls ≡ word_as x w ∷ words_as kinds ws = e in
    let first : l.snapshot ≡ word_as x w = cc in
    let same : x ≡ kind = (let y : Some x ≡ Some kind = at in cc) in
    record { location = l; word = w; there = refl; at = refl; snapshot = first ∙ ap (λ y. word_as y w) same }
lies (l ∷ ls) (x ∷ kinds) (w ∷ ws) (suc n) kind e many at =
    let z : l.snapshot ∷ snapshots ls ≡ word_as x w ∷ words_as kinds ws = e in
    let rest : snapshots ls ≡ words_as kinds ws = cc in
    let r = lies ls kinds ws n kind rest (omega (arith, many)) at in
    record { location = r.location; word = r.word; there = r.there; at = r.at; snapshot = r.snapshot }

seen_there : (ls : List (Location ℕ)) (n : ℕ) (l : Location ℕ) → slice_get ls n ≡ Some l → seen_at ls n ≡ Some (seen l)
seen_there [] n l at = absurd (let z : None ≡ Some l = at in cc)
seen_there (x ∷ ls) zero l at =
    let e : x ≡ l = (let z : Some x ≡ Some l = at in cc) in ap (λ (y : Location ℕ). Some (seen y)) e
seen_there (x ∷ ls) (suc n) l at = seen_there ls n l at

-- the words of the view are those that were written, and else those of the start
pub view_word : (vs : List CodeVar) → AreGood vs → (ls : List (Location ℕ)) (written : List Written)
    → snapshots ls ≡ snapshots (start_locations {H = ℕ} vs) → AreWritten (location_kinds vs) (written_from 0 ls) written
    → (n : ℕ) (kind : ValueKind) → slice_get (location_kinds vs) n ≡ Some kind
    → main_at (seen_at ls n) ≡ word_as kind (get_or (written_over (words_at_start vs) written) n 0)
view_word vs h ls written starts are n kind at =
    ap main_at (seen_there ls n here.location here.there)
    ∙ by here.location.written
    (word_there (location_kinds vs) 0 ls written (words_at_start vs) n n here.location are here.there (omega arith)
    (slice_get_within (words_at_start vs) n here.word here.at))
  where
    here : Lies ls (words_at_start vs) n kind
    here = lies ls (location_kinds vs) (words_at_start vs) n kind (starts ∙ starts_as vs h) (as_many vs) at

    by : (o : Option (Word ℕ))
        → IsThere (location_kinds vs) n o (slice_get (words_at_start vs) n)
        (slice_get (written_over (words_at_start vs) written) n)
        → elim o as (λ x. Word ℕ) [ None ↦ here.location.snapshot | Some w ↦ w ]
        ≡ word_as kind (get_or (written_over (words_at_start vs) written) n 0)
    by None same =
        let word = get_or_from_slice_get (written_over (words_at_start vs) written) n here.word 0 (same ∙ here.at) in
        here.snapshot ∙ ap (word_as kind) (sym word)
    by (Some x) (v, is, other, there, of) =
        let word = get_or_from_slice_get (written_over (words_at_start vs) written) n v 0 is in
        let same : other ≡ kind = (let z : Some other ≡ Some kind = sym there ∙ at in cc) in
        word_of_kind x v other of.word of.of_kind ∙ ap (λ y. word_as y v) same ∙ ap (word_as kind) (sym word)
