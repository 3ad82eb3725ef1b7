-- Bits in a row of mask words.
--   rows_over        each location has a mask word
--   bit_set          a location's bit after its mask word was written
--   bit_else         the other locations' bits then
--   one_or_zero      no bit is both
--   chosen_some      a value is there only where the bit is 1
--   not_chosen       and none only where it is 0
--   mask_after       the mask that lies behind the words, after one of its words and a word
--   has_row          the mask behind the words has a row that the cells have
--   bit_else_after   the other locations' bits then
--   word_else_after  the other locations' words then
use Rattle.std.proofs.Common.{◌≡◌, ◌≢◌, ℕ, ◌+◌, ◌/◌, ◌%◌, ◌<◌, ◌≤◌, List, length}
use Rattle.std.proofs.Common.{get_or, set, sym, ap, ◌∙◌, arith, get_or-set_same, get_or-set_other}
use Rattle.std.proofs.Common.{None, Some, Option, drop, subst, Bool, cond, ne_eqb}
use Rattle.std.proofs.lemmas.List.{drop-set-lt, drop-set-add, get_or-drop, length-drop}
use Rattle.std.specs.Int.{bit_at}
use mathlib.Core.Logic.{dite}
use native.Mathlib.Decide.{ℕ_discrete}
use Rattle.version_map.specs.Masks.{rows, bit_in, chosen}

pub rows_over : (n l : ℕ) → l < n → l / 64 < rows n
rows_over n l h = omega arith

pub rows_few : (n : ℕ) → n ≤ 4096 → rows n ≤ 64
rows_few n h = omega arith

pub bit_set : (mask : List ℕ) (l x : ℕ) → l / 64 < length mask
    → bit_in (set mask (l / 64) x) l ≡ bit_at x (l % 64)
bit_set mask l x h = ap (λ (z : ℕ). bit_at z (l % 64)) (get_or-set_same mask (l / 64) x 0 h)

pub bit_else : (mask : List ℕ) (l k x : ℕ) → l / 64 < length mask → k ≢ l
    → ((i : ℕ) → i ≢ l % 64 → bit_at x i ≡ bit_at (get_or mask (l / 64) 0) i)
    → bit_in (set mask (l / 64) x) k ≡ bit_in mask k
bit_else mask l k x h ne keep = dite (ℕ_discrete (k / 64) (l / 64))
    (λ e. ap (λ (z : ℕ). bit_at (get_or (set mask (l / 64) x) z 0) (k % 64)) e
    ∙ (ap (λ (z : ℕ). bit_at z (k % 64)) (get_or-set_same mask (l / 64) x 0 h)
    ∙ (keep (k % 64) (λ q. ne (omega arith))
    ∙ ap (λ (z : ℕ). bit_at (get_or mask z 0) (k % 64)) (sym e))))
    (λ n. ap (λ (z : ℕ). bit_at z (k % 64)) (get_or-set_other mask (l / 64) (k / 64) x 0 n))

pub mask_after : (n : ℕ) (cells : List ℕ) (l row x w : ℕ) → l < n
    → drop n (set (set cells (n + row) x) l w) ≡ set (drop n cells) row x
mask_after n cells l row x w h = drop-set-lt n (set cells (n + row) x) l w h
    ∙ drop-set-add n cells row x

pub has_row : (n row : ℕ) (cells : List ℕ) → n + row < length cells → row < length (drop n cells)
has_row n row cells h = let e = length-drop n cells in omega arith

pub bit_else_after : (n : ℕ) (cells : List ℕ) (l k x w : ℕ) → l < n → n + l / 64 < length cells
    → k ≢ l → ((i : ℕ) → i ≢ l % 64 → bit_at x i ≡ bit_at (get_or cells (n + l / 64) 0) i)
    → bit_in (drop n (set (set cells (n + l / 64) x) l w)) k ≡ bit_in (drop n cells) k
bit_else_after n cells l k x w low h ne keep =
    ap (λ (m : List ℕ). bit_in m k) (mask_after n cells l (l / 64) x w low)
    ∙ bit_else (drop n cells) l k x (has_row n (l / 64) cells h) ne
    (λ i apart. keep i apart ∙ ap (λ (z : ℕ). bit_at z i) (sym (get_or-drop n cells (l / 64) 0)))

pub word_else_after : (n : ℕ) (cells : List ℕ) (l k row x w : ℕ) → k < n → k ≢ l
    → get_or (set (set cells (n + row) x) l w) k 0 ≡ get_or cells k 0
word_else_after n cells l k row x w low ne = get_or-set_other (set cells (n + row) x) l k w 0 ne
    ∙ get_or-set_other cells (n + row) k x 0 (λ e. omega arith)

pub chosen_one : (b w x : ℕ) → b ≡ 1 → w ≡ x → chosen b w ≡ Some x
chosen_one b w x e q = (λ i. chosen (e i) (q i))

pub chosen_zero : (b w : ℕ) → b ≡ 0 → chosen b w ≡ None
chosen_zero b w e = ap (λ (z : ℕ). chosen z w) e

pub one_or_zero : (b : ℕ) → b ≡ 1 → b ≡ 0 → ⊥
one_or_zero b one none = omega arith

-- a value is there only where the bit is 1
pub chosen_some : (b w : ℕ) → chosen b w ≢ None → chosen b w ≡ Some w
chosen_some b w some = dite (ℕ_discrete b 1)
    (λ one. ap (λ (z : ℕ). chosen z w) one)
    (λ ne. absurd (some (ap (λ (t : Bool). cond t (Some w) None) (ne_eqb b 1 ne))))

abbrev IsNone : Option ℕ → Type 0
IsNone None = ⊥
IsNone (Some w) = Unit {0}

pub not_chosen : (b w : ℕ) → b < 2 → chosen b w ≡ None → b ≡ 0
not_chosen b w h e = dite (ℕ_discrete b 1)
    (λ one. absurd (subst IsNone (sym (ap (λ (z : ℕ). chosen z w) one) ∙ e) tt))
    (λ ne. omega arith)
