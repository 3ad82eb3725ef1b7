-- The text of `load` in chunks, line by line, and how each is cut into pieces.
use Rattle.std.proofs.Common.{◌≡◌, ℕ, ◌+◌, ◌*◌, ◌<◌, ◌≤◌, ◌^◌, Bool, true, false, ◌&&◌, List, [], ◌∷◌, ◌++◌, length, take, drop, map, refl, sym, ap, ◌∙◌, subst, arith, append_assoc}
use Rattle.std.specs.Prelude.{Some, Ok, pos, codes, ◌%◌, ◌==◌, if◌then◌else◌}
use Rattle.std.specs.Fmt.{decimal}
use Rattle.std.specs.List.{list_all, prefix_len, range_with_len}
use Rattle.std.proofs.Math.Nat.{mod-lt}
use Rattle.std.specs.Str.{all_ascii_digits}
use Rattle.std.proofs.lemmas.Fmt.{decimal_nonempty, digits_decimal}
use Rattle.std.proofs.Math.Seq.{take-append_seam, drop-append_seam}
use Rattle.rev_num.specs.Decimal.{decimal_in}
use Rattle.rev_num.proofs.Decimals.{own, decimal_in-signed_decimal, fits_pos}
use Rattle.rev_syntax.specs.Bytes.{is_digit, is_letter}
use Rattle.rev_syntax.specs.Tokens.{Piece, Leads, Next, begins_with_letter}
use Rattle.rev_syntax.specs.Scan.{scan_from, number_scan, number_cut, cut, Answers}
use Rattle.rev_syntax.specs.declared.token.PieceKind.TheVariants as piece
use Rattle.rev_syntax.specs.declared.token.TokenKind.TheVariants as k
use Rattle.rev_syntax.proofs.Exact.{exact}
use Rattle.rev_syntax.proofs.Lists.{both, first_passes, exact-prefix}
use Rattle.rev_syntax.proofs.PieceKinds.{blank-no_digit, letter-no_digit}
use Rattle.rev_words.specs.Load as load
use Rattle.rev_words.specs.Load.{declarations, load_text, prints, procedures, statements_from}
use Rattle.program_texts.proofs.Cuts.{cut_some, cut_leads, leads_append}
use Rattle.program_texts.proofs.Chunks.{Chunk, IsCut, chunk, text_of, AllCut}

-- ---- a number and a byte behind it

abbrev pub number : ℕ → Piece
number n = record { kind = piece.Token (k.Int (pos n)); bytes = decimal n }

only_digits : (ds : List ℕ) → all_ascii_digits ds ≡ true → list_all is_digit ds ≡ true
only_digits [] h = refl
only_digits (d ∷ ds) h =
    let parts = both (is_digit d) (all_ascii_digits ds) h in
    ap (λ b. b && list_all is_digit ds) parts.0 ∙ only_digits ds parts.1

-- what is scanned where the text begins with digits
scanned : (d : ℕ) (ds rest : List ℕ) (n : ℕ) → list_all is_digit (d ∷ ds) ≡ true → decimal_in (d ∷ ds) ≡ Some (pos n)
    → first_passes is_digit rest ≡ false → begins_with_letter rest ≡ false
    → scan_from 0 d (ds ++ rest) ≡ Ok (cut (piece.Token (k.Int (pos n))) (length (d ∷ ds)))
scanned d ds rest n digits value stop plain =
    let first = (both (is_digit d) (list_all is_digit ds) digits).0 in
    let no_blank = blank-no_digit d first in
    let no_letter = letter-no_digit d first in
    let size : prefix_len is_digit ((d ∷ ds) ++ rest) ≡ length (d ∷ ds) =
    exact-prefix is_digit (d ∷ ds) rest digits stop in
    let front : take (length (d ∷ ds)) ((d ∷ ds) ++ rest) ≡ d ∷ ds = take-append_seam (d ∷ ds) rest in
    let back : drop (length (d ∷ ds)) ((d ∷ ds) ++ rest) ≡ rest = drop-append_seam (d ∷ ds) rest in
    let scan : scan_from 0 d (ds ++ rest) ≡ number_scan 0 ((d ∷ ds) ++ rest) = rw (no_blank, no_letter, first) refl in
    scan
    ∙ ap (λ m. number_cut m (decimal_in (take m ((d ∷ ds) ++ rest))) (begins_with_letter (drop m ((d ∷ ds) ++ rest))) 0)
    size
    ∙ ap (λ l.
    number_cut (length (d ∷ ds)) (decimal_in l) (begins_with_letter (drop (length (d ∷ ds)) ((d ∷ ds) ++ rest))) 0)
    front
    ∙ ap (λ o. number_cut (length (d ∷ ds)) o (begins_with_letter (drop (length (d ∷ ds)) ((d ∷ ds) ++ rest))) 0) value
    ∙ ap (λ l. number_cut (length (d ∷ ds)) (Some (pos n)) (begins_with_letter l) 0) back
    ∙ ap (λ b. number_cut (length (d ∷ ds)) (Some (pos n)) b 0) plain

next_number : (w rest : List ℕ) (n : ℕ) → 0 < length w → list_all is_digit w ≡ true → decimal_in w ≡ Some (pos n)
    → first_passes is_digit rest ≡ false → begins_with_letter rest ≡ false
    → Next (w ++ rest) (record { kind = piece.Token (k.Int (pos n)); bytes = w }) rest
next_number [] rest n some digits value stop plain = absurd (omega arith)
next_number (d ∷ ds) rest n some digits value stop plain =
    let a : Answers 0 (d ∷ (ds ++ rest)) (Ok (cut (piece.Token (k.Int (pos n))) (length (d ∷ ds)))) =
    subst (Answers 0 (d ∷ (ds ++ rest))) (scanned d ds rest n digits value stop plain) (exact 0 d (ds ++ rest)) in
    let front : take (length (d ∷ ds)) ((d ∷ ds) ++ rest) ≡ d ∷ ds = take-append_seam (d ∷ ds) rest in
    let back : drop (length (d ∷ ds)) ((d ∷ ds) ++ rest) ≡ rest = drop-append_seam (d ∷ ds) rest in
    subst (λ l. Next ((d ∷ ds) ++ rest) (record { kind = piece.Token (k.Int (pos n)); bytes = d ∷ ds }) l) back
    (subst (λ l.
    Next ((d ∷ ds) ++ rest) (record { kind = piece.Token (k.Int (pos n)); bytes = l })
    (drop (length (d ∷ ds)) ((d ∷ ds) ++ rest)))
    front a.0)

abbrev most : ℕ
most = 500

number_leads : (n : ℕ) → n ≤ most → (b : ℕ) (rest : List ℕ) → is_digit b ≡ false → is_letter b ≡ false
    → Leads (number n ∷ []) (decimal n ++ b ∷ rest) (b ∷ rest)
number_leads n few b rest no_digit no_letter =
    let small : n < 2 ^ 64 = omega (arith, few) in
    let fits = fits_pos n (omega (arith, few)) in (
      b ∷ rest,
      next_number (decimal n) (b ∷ rest) n (decimal_nonempty n small)
          (only_digits (decimal n) (digits_decimal own n small)) (decimal_in-signed_decimal (pos n) fits) no_digit
          no_letter,
      refl,
    )

-- ---- the statements

-- a statement of the loop: a cell, and a constant
pub data Line : Type 0 where
  add_remainder : ℕ → ℕ → Line
  add_constant : ℕ → ℕ → Line
  set_product : ℕ → ℕ → Line

abbrev line_text : Line → List ℕ
line_text (add_remainder x c) =
    codes "a[" ++ (decimal x ++ (codes "] = a[" ++ (decimal x ++ (codes "] + k % (" ++ (decimal c ++ codes " + 1);")))))
line_text (add_constant x c) =
    codes "b[" ++ (decimal x ++ (codes "] = b[" ++ (decimal x ++ (codes "] + " ++ (decimal c ++ codes ";")))))
line_text (set_product x c) = codes "v[" ++ (decimal x ++ (codes "] = k * " ++ (decimal c ++ codes ";")))

abbrev pub line : List ℕ → List ℕ
line w = w ++ 10 ∷ []

abbrev cut_pieces : ℕ → List ℕ → List Piece
cut_pieces n w = (chunk n w).pieces

abbrev pub statement_pieces : Line → List Piece
statement_pieces (add_remainder x c) =
    cut_pieces 2 (codes "a[") ++ number x
    ∷ (cut_pieces 6 (codes "] = a[") ++ number x
    ∷ (cut_pieces 9 (codes "] + k % (") ++ number c ∷ cut_pieces 7 (line (codes " + 1);"))))
statement_pieces (add_constant x c) =
    cut_pieces 2 (codes "b[") ++ number x
    ∷ (cut_pieces 6 (codes "] = b[") ++ number x
    ∷ (cut_pieces 4 (codes "] + ") ++ number c ∷ cut_pieces 2 (line (codes ";"))))
statement_pieces (set_product x c) =
    cut_pieces 2 (codes "v[") ++ number x
    ∷ (cut_pieces 8 (codes "] = k * ") ++ number c ∷ cut_pieces 2 (line (codes ";")))

abbrev pub statement_chunk : Line → Chunk
statement_chunk s = record { text = line (line_text s); pieces = statement_pieces s }

-- its numbers are small
abbrev pub IsSmall : Line → Type 0
IsSmall (add_remainder x c) = (x ≤ most) × (c ≤ most)
IsSmall (add_constant x c) = (x ≤ most) × (c ≤ most)
IsSmall (set_product x c) = (x ≤ most) × (c ≤ most)

-- a line feed and more behind what stands behind other bytes
over : (ds r more : List ℕ) → ((ds ++ r) ++ 10 ∷ []) ++ more ≡ ds ++ ((r ++ 10 ∷ []) ++ more)
over ds r more = ap (λ l. l ++ more) (append_assoc ds r (10 ∷ [])) ∙ append_assoc ds (r ++ 10 ∷ []) more

-- fixed bytes, a number, and the rest
number_behind : (m : ℕ) (w : List ℕ) (ps : List Piece) (n : ℕ) (b : ℕ) (r more : List ℕ) (qs : List Piece)
    (end : List ℕ)
    → n ≤ most → is_digit b ≡ false → is_letter b ≡ false
    → ((v : List ℕ) → Leads ps (w ++ (decimal n ++ v)) (decimal n ++ v)) → Leads qs (((b ∷ r) ++ 10 ∷ []) ++ more) end
    → Leads (ps ++ number n ∷ qs) ((line (w ++ (decimal n ++ b ∷ r))) ++ more) end
number_behind m w ps n b r more qs end few no_digit no_letter first rest =
    let whole : (line (w ++ (decimal n ++ b ∷ r))) ++ more ≡ w ++ (decimal n ++ (((b ∷ r) ++ 10 ∷ []) ++ more)) =
    over w (decimal n ++ b ∷ r) more ∙ ap (λ l. w ++ l) (over (decimal n) (b ∷ r) more) in
    subst (λ v. Leads (ps ++ number n ∷ qs) v end) (sym whole)
    (leads_append ps (number n ∷ qs) (w ++ (decimal n ++ (((b ∷ r) ++ 10 ∷ []) ++ more)))
    (decimal n ++ (((b ∷ r) ++ 10 ∷ []) ++ more)) end (first (((b ∷ r) ++ 10 ∷ []) ++ more))
    (leads_append (number n ∷ []) qs (decimal n ++ (((b ∷ r) ++ 10 ∷ []) ++ more)) (((b ∷ r) ++ 10 ∷ []) ++ more) end
    (number_leads n few b ((r ++ 10 ∷ []) ++ more) no_digit no_letter) rest))

statement_cut : (s : Line) → IsSmall s → IsCut (statement_chunk s)
statement_cut (add_remainder x c) h more =
    number_behind 2 (codes "a[") (cut_pieces 2 (codes "a[")) x 93
    (codes " = a[" ++ (decimal x ++ (codes "] + k % (" ++ (decimal c ++ codes " + 1);")))) more
    (cut_pieces 6 (codes "] = a[") ++ number x
    ∷ (cut_pieces 9 (codes "] + k % (") ++ number c ∷ cut_pieces 7 (line (codes " + 1);"))))
    more h.0 refl refl
    (λ v. cut_leads 2 (codes "a[" ++ (decimal x ++ v)) (cut_pieces 2 (codes "a[")) (decimal x ++ v) refl)
    (number_behind 6 (codes "] = a[") (cut_pieces 6 (codes "] = a[")) x 93
    (codes " + k % (" ++ (decimal c ++ codes " + 1);")) more
    (cut_pieces 9 (codes "] + k % (") ++ number c ∷ cut_pieces 7 (line (codes " + 1);"))) more h.0 refl refl
    (λ v. cut_leads 6 (codes "] = a[" ++ (decimal x ++ v)) (cut_pieces 6 (codes "] = a[")) (decimal x ++ v) refl)
    (number_behind 9 (codes "] + k % (") (cut_pieces 9 (codes "] + k % (")) c 32 (codes "+ 1);") more
    (cut_pieces 7 (line (codes " + 1);"))) more h.1 refl refl
    (λ v. cut_leads 9 (codes "] + k % (" ++ (decimal c ++ v)) (cut_pieces 9 (codes "] + k % (")) (decimal c ++ v) refl)
    (cut_leads 7 (line (codes " + 1);") ++ more) (cut_pieces 7 (line (codes " + 1);"))) more refl)))
statement_cut (add_constant x c) h more =
    number_behind 2 (codes "b[") (cut_pieces 2 (codes "b[")) x 93
    (codes " = b[" ++ (decimal x ++ (codes "] + " ++ (decimal c ++ codes ";")))) more
    (cut_pieces 6 (codes "] = b[") ++ number x
    ∷ (cut_pieces 4 (codes "] + ") ++ number c ∷ cut_pieces 2 (line (codes ";"))))
    more h.0 refl refl
    (λ v. cut_leads 2 (codes "b[" ++ (decimal x ++ v)) (cut_pieces 2 (codes "b[")) (decimal x ++ v) refl)
    (number_behind 6 (codes "] = b[") (cut_pieces 6 (codes "] = b[")) x 93 (codes " + " ++ (decimal c ++ codes ";"))
    more (cut_pieces 4 (codes "] + ") ++ number c ∷ cut_pieces 2 (line (codes ";"))) more h.0 refl refl
    (λ v. cut_leads 6 (codes "] = b[" ++ (decimal x ++ v)) (cut_pieces 6 (codes "] = b[")) (decimal x ++ v) refl)
    (number_behind 4 (codes "] + ") (cut_pieces 4 (codes "] + ")) c 59 ([]) more (cut_pieces 2 (line (codes ";"))) more
    h.1 refl refl
    (λ v. cut_leads 4 (codes "] + " ++ (decimal c ++ v)) (cut_pieces 4 (codes "] + ")) (decimal c ++ v) refl)
    (cut_leads 2 (line (codes ";") ++ more) (cut_pieces 2 (line (codes ";"))) more refl)))
statement_cut (set_product x c) h more =
    number_behind 2 (codes "v[") (cut_pieces 2 (codes "v[")) x 93 (codes " = k * " ++ (decimal c ++ codes ";")) more
    (cut_pieces 8 (codes "] = k * ") ++ number c ∷ cut_pieces 2 (line (codes ";"))) more h.0 refl refl
    (λ v. cut_leads 2 (codes "v[" ++ (decimal x ++ v)) (cut_pieces 2 (codes "v[")) (decimal x ++ v) refl)
    (number_behind 8 (codes "] = k * ") (cut_pieces 8 (codes "] = k * ")) c 59 ([]) more
    (cut_pieces 2 (line (codes ";"))) more h.1 refl refl
    (λ v. cut_leads 8 (codes "] = k * " ++ (decimal c ++ v)) (cut_pieces 8 (codes "] = k * ")) (decimal c ++ v) refl)
    (cut_leads 2 (line (codes ";") ++ more) (cut_pieces 2 (line (codes ";"))) more refl))

-- ---- the other lines

abbrev pub sum_line : Chunk
sum_line = chunk 26 (line (codes "merge sum(m, j, r) = m + j - r;"))

abbrev pub most_line : Chunk
most_line = chunk 31 (line (codes "merge most(m, j, r) = pick(j > m, j, m);"))

abbrev pub a_line : Chunk
a_line = chunk 16 (line (codes "cumulative a : int[16] by sum;"))

abbrev pub b_line : Chunk
b_line = chunk 16 (line (codes "cumulative b : int[16] by most;"))

abbrev pub v_line : Chunk
v_line = chunk 12 (line (codes "versioned v : int[16];"))

abbrev pub work_line : Chunk
work_line = chunk 12 (line (codes "proc work(k: int) {"))

abbrev pub let_line : Chunk
let_line = chunk 9 (line (codes "let t = 0;"))

abbrev pub while_line : Chunk
while_line = chunk 10 (line (codes "while t < 50 {"))

abbrev pub step_line : Chunk
step_line = chunk 11 (line (codes "t = t + 1;"))

abbrev pub end_line : Chunk
end_line = chunk 2 (line (codes "}"))

abbrev pub main_line : Chunk
main_line = chunk 4 (line (codes "main {"))

-- the procedure that forks, seven lines
abbrev pub go_lines : Chunk
go_lines = chunk 57 (
    (line (codes "proc go(n: int) {"))
    ++ (line (codes "if n > 0 {"))
    ++ (line (codes "let h = rfork work(n);"))
    ++ (line (codes "call go(n - 1);"))
    ++ (line (codes "rjoin h;"))
    ++ (line (codes "}"))
    ++ (line (codes "}")))

abbrev pub start_line : ℕ → Chunk
start_line size = record {
  text = line (load.start size);
  pieces = cut_pieces 4 (codes "call go(") ++ number size ∷ cut_pieces 3 (line (codes ");"));
}

abbrev pub a_low : Chunk
a_low = chunk 50 (line (codes "print a[0], a[1], a[2], a[3], a[4], a[5], a[6], a[7];"))

abbrev pub a_high : Chunk
a_high = chunk 50 (line (codes "print a[8], a[9], a[10], a[11], a[12], a[13], a[14], a[15];"))

abbrev pub b_low : Chunk
b_low = chunk 50 (line (codes "print b[0], b[1], b[2], b[3], b[4], b[5], b[6], b[7];"))

abbrev pub b_high : Chunk
b_high = chunk 50 (line (codes "print b[8], b[9], b[10], b[11], b[12], b[13], b[14], b[15];"))

abbrev pub v_low : Chunk
v_low = chunk 50 (line (codes "print v[0], v[1], v[2], v[3], v[4], v[5], v[6], v[7];"))

abbrev pub v_high : Chunk
v_high = chunk 50 (line (codes "print v[8], v[9], v[10], v[11], v[12], v[13], v[14], v[15];"))

start_cut : (size : ℕ) → size ≤ most → IsCut (start_line size)
start_cut size few more =
    number_behind 4 (codes "call go(") (cut_pieces 4 (codes "call go(")) size 41 (codes ";") more
    (cut_pieces 3 (line (codes ");"))) more few refl refl
    (λ v. cut_leads 4 (codes "call go(" ++ (decimal size ++ v)) (cut_pieces 4 (codes "call go(")) (decimal size ++ v)
    refl)
    (cut_leads 3 (line (codes ");") ++ more) (cut_pieces 3 (line (codes ");"))) more refl)

-- ---- all of them

-- before the statements, and behind them
abbrev pub first_chunks : List Chunk → List Chunk
first_chunks cs =
    sum_line ∷ most_line ∷ a_line ∷ b_line ∷ v_line ∷ work_line ∷ let_line ∷ while_line ∷ cs

abbrev pub last_chunks : ℕ → List Chunk
last_chunks size =
    step_line ∷ end_line ∷ end_line ∷ go_lines ∷ main_line ∷ start_line size
    ∷ a_low ∷ a_high ∷ b_low ∷ b_high ∷ v_low ∷ v_high ∷ end_line ∷ []

abbrev pub statement_chunks : List Line → List Chunk → List Chunk
statement_chunks [] cs = cs
statement_chunks (s ∷ ss) cs = statement_chunk s ∷ statement_chunks ss cs

-- the statement that three numbers give, and the i-th of a seed
abbrev line_of : ℕ → ℕ → ℕ → Line
line_of first second third =
    if first % 3 == 0 then add_remainder (second % 16) (third % 100)
    else if first % 3 == 1 then add_constant (second % 16) (third % 100)
    else set_product (second % 16) (third % 100)

abbrev line_at : ℕ → ℕ → Line
line_at seed i = line_of (load.draw seed (3 * i + 1)) (load.draw seed (3 * i + 2)) (load.draw seed (3 * i + 3))

abbrev pub lines_from : ℕ → List Line
lines_from seed = map (line_at seed) (range_with_len 0 32)

-- it has the text of the statement
same_line : (first second third : ℕ) (x y : Bool) → (first % 3 == 0) ≡ x → (first % 3 == 1) ≡ y
    → load.statement_text (load.statement_of first second third) ≡ line_text (line_of first second third)
same_line first second third true y e f = rw e refl
same_line first second third false true e f = rw (e, f) refl
same_line first second third false false e f = rw (e, f) refl

same_lines : (seed : ℕ) (is : List ℕ)
    → map load.statement_text (map (load.statement_at seed) is) ≡ map line_text (map (line_at seed) is)
same_lines seed [] = refl
same_lines seed (i ∷ is) =
    ap (λ l. l ∷ map load.statement_text (map (load.statement_at seed) is))
    (same_line (load.draw seed (3 * i + 1)) (load.draw seed (3 * i + 2)) (load.draw seed (3 * i + 3)) _ _ refl refl)
    ∙ ap (λ ls. line_text (line_at seed i) ∷ ls) (same_lines seed is)

statements_same : (seed : ℕ) → map load.statement_text (load.statements_from seed 32) ≡ map line_text (lines_from seed)
unfolding statements_from
statements_same seed = same_lines seed (range_with_len 0 32)

abbrev pub all_chunks : ℕ → ℕ → List Chunk
all_chunks seed size = first_chunks (statement_chunks (lines_from seed) (last_chunks size))

statements_text : (ss : List Line) (ls : List (List ℕ)) (cs : List Chunk) → load.lines ls ≡ text_of cs
    → load.lines (map line_text ss ++ ls) ≡ text_of (statement_chunks ss cs)
statements_text [] ls cs h = h
statements_text (s ∷ ss) ls cs h = ap (λ l. line (line_text s) ++ l) (statements_text ss ls cs h)

last_text : (size : ℕ) → load.lines (load.procedures ++ (load.start size ∷ load.prints)) ≡ text_of (last_chunks size)
unfolding procedures prints
last_text size = refl

pub whole_text : (seed size : ℕ) → load.load_text seed size ≡ text_of (all_chunks seed size)
unfolding load_text declarations
whole_text seed size =
    ap (λ l. text_of (first_chunks []) ++ load.lines (l ++ (load.procedures ++ (load.start size ∷ load.prints))))
    (statements_same seed)
    ∙ ap (λ l. text_of (first_chunks []) ++ l)
    (statements_text (lines_from seed) (load.procedures ++ (load.start size ∷ load.prints)) (last_chunks size)
    (last_text size))

abbrev AllSmall : List Line → Type 0
AllSmall [] = Unit {0}
AllSmall (s ∷ ss) = IsSmall s × AllSmall ss

small_made : (x y : Bool) (cell constant : ℕ) → cell ≤ most → constant ≤ most
    → IsSmall
    (if x then add_remainder cell constant else if y then add_constant cell constant else set_product cell constant)
small_made true y cell constant m n = (m, n)
small_made false true cell constant m n = (m, n)
small_made false false cell constant m n = (m, n)

small_at : (seed i : ℕ) → IsSmall (line_at seed i)
small_at seed i =
    let first = load.draw seed (3 * i + 1) in
    let second = load.draw seed (3 * i + 2) in
    let third = load.draw seed (3 * i + 3) in
    let x : second % 16 < 16 = mod-lt second (omega arith) in
    let y : third % 100 < 100 = mod-lt third (omega arith) in
    small_made (first % 3 == 0) (first % 3 == 1) (second % 16) (third % 100) (omega (arith, x)) (omega (arith, y))

small_map : (seed : ℕ) (is : List ℕ) → AllSmall (map (line_at seed) is)
small_map seed [] = tt
small_map seed (i ∷ is) = (small_at seed i, small_map seed is)

all_small : (seed : ℕ) → AllSmall (lines_from seed)
all_small seed = small_map seed (range_with_len 0 32)

statements_cut : (ss : List Line) (cs : List Chunk) → AllSmall ss → AllCut cs → AllCut (statement_chunks ss cs)
statements_cut [] cs small h = h
statements_cut (s ∷ ss) cs small h = (statement_cut s small.0, statements_cut ss cs small.1 h)

last_cut : (size : ℕ) → size ≤ most → AllCut (last_chunks size)
last_cut size few =
    let fixed : (c : Chunk) (n : ℕ) → ((more : List ℕ) → cut_some n (c.text ++ more) ≡ Some (c.pieces, more))
    → IsCut c = λ c n is more. cut_leads n (c.text ++ more) c.pieces more (is more) in (
      fixed step_line 11 (λ more. refl),
      (
        fixed end_line 2 (λ more. refl),
        (
          fixed end_line 2 (λ more. refl),
          (
            fixed go_lines 57 (λ more. refl),
            (
              fixed main_line 4 (λ more. refl),
              (
                start_cut size few,
                (
                  fixed a_low 50 (λ more. refl),
                  (
                    fixed a_high 50 (λ more. refl),
                    (
                      fixed b_low 50 (λ more. refl),
                      (
                        fixed b_high 50 (λ more. refl),
                        (
                          fixed v_low 50 (λ more. refl),
                          (fixed v_high 50 (λ more. refl), (fixed end_line 2 (λ more. refl), tt)),
                        ),
                      ),
                    ),
                  ),
                ),
              ),
            ),
          ),
        ),
      ),
    )

pub all_cut : (seed size : ℕ) → size ≤ most → AllCut (all_chunks seed size)
all_cut seed size few =
    let fixed : (c : Chunk) (n : ℕ) → ((more : List ℕ) → cut_some n (c.text ++ more) ≡ Some (c.pieces, more))
    → IsCut c = λ c n is more. cut_leads n (c.text ++ more) c.pieces more (is more) in (
      fixed sum_line 26 (λ more. refl),
      (
        fixed most_line 31 (λ more. refl),
        (
          fixed a_line 16 (λ more. refl),
          (
            fixed b_line 16 (λ more. refl),
            (
              fixed v_line 12 (λ more. refl),
              (
                fixed work_line 12 (λ more. refl),
                (
                  fixed let_line 9 (λ more. refl),
                  (
                    fixed while_line 10 (λ more. refl),
                    statements_cut (lines_from seed) (last_chunks size) (all_small seed) (last_cut size few),
                  ),
                ),
              ),
            ),
          ),
        ),
      ),
    )
