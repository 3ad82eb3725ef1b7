-- What is printed are whole lines of printable bytes.
use Rattle.std.proofs.Common.{◌≡◌, ◌∙◌, ℕ, suc, ◌^◌, ◌<◌, true, false, ◌&&◌, ℤ, pos, negsuc, List, [], ◌∷◌, ◌++◌, Some, None, refl, sym, ap, subst, arith, rules, append_assoc}
use Rattle.std.specs.Prelude.{nat_le, not, ◌==◌, IsTrue}
use Rattle.std.specs.Fmt.{decimal, signed_decimal}
use Rattle.std.specs.List.{flat_map, join_with_byte, list_all, AllByRecursion}
use Rattle.std.specs.Str.{all_ascii_digits}
use Rattle.std.proofs.lemmas.Bool.{and_from, and_parts, le-leb}
use Rattle.std.proofs.lemmas.Fmt.{digits_decimal}
use Rattle.std.proofs.lemmas.List.{append-nil}
use Rattle.std.proofs.lemmas.List.Folds.{list_all-append}
use Rattle.std.proofs.lemmas.Str.Parse.{tells_all_ascii_digits}
use Rattle.rev_num.specs.Path.{Path}
use Rattle.rev_num.specs.Arith.{fits_i64}
use Rattle.rev_num.specs.Text.{path_text}
use Rattle.rev_num.specs.declared.value.Value.{Value}
use Rattle.rev_num.specs.declared.value.Value.TheVariants as v
use Rattle.rev_num.proofs.Decimals.{own}
use Rattle.rev_syntax.specs.Bytes.{is_text_byte}
use Rattle.rev_report.specs.Lines.{with_line_feed}
use Rattle.rev_report.specs.Outcome.{value_text}
use Rattle.trace_diagram.specs.Lines.{FitsPath, FitsValue, is_printable}
use Rattle.trace_diagram.specs.Traces.{IsText, ended, text_lines}
use Rattle.trace_diagram.proofs.ChangeForms.{fits_pos}
use Rattle.trace_diagram.proofs.Forks.{wide}
use Rattle.trace_diagram.proofs.LineOrder.{flat_append}
use Rattle.trace_diagram.proofs.Partials.{printable_one_line}
use Rattle.trace_diagram.proofs.TextLines.{text_lines-cut}

-- ---- printable bytes

abbrev pub IsPrinted : List ℕ → Type 0
IsPrinted bytes = IsTrue (list_all is_printable bytes)

pub printed_both : (xs ys : List ℕ) → IsPrinted xs → IsPrinted ys → IsPrinted (xs ++ ys)
printed_both xs ys p q =
    list_all-append is_printable xs ys ∙ and_from (list_all is_printable xs) (list_all is_printable ys) p q

printed_more : (b : ℕ) (bs : List ℕ) → is_printable b ≡ true → IsPrinted bs → IsPrinted (b ∷ bs)
printed_more b bs p q = and_from (is_printable b) (list_all is_printable bs) p q

-- the bytes of a text in quotes
pub text_printed : (bytes : List ℕ) → IsTrue (list_all is_text_byte bytes) → IsPrinted bytes
text_printed [] h = refl
text_printed (b ∷ bs) h =
    let both = and_parts (is_text_byte b) (list_all is_text_byte bs) h in
    let here = and_parts (nat_le 32 b && nat_le b 126) (not (b == 34)) both.0 in
    printed_more b bs here.0 (text_printed bs both.1)

-- ---- numbers, paths and values

digits_printed : (ds : List ℕ) → all_ascii_digits ds ≡ true → IsPrinted ds
digits_printed [] h = refl
digits_printed (d ∷ ds) h =
    let parts = tells_all_ascii_digits.parts d ds h in
    let range = parts.0 in
    printed_more d ds (and_from _ _ (le-leb 32 d (omega (arith, range))) (le-leb d 126 (omega (arith, range))))
    (digits_printed ds parts.1)

decimal_printed : (n : ℕ) → n < 2 ^ 64 → IsPrinted (decimal n)
decimal_printed n small = digits_printed (decimal n) (digits_decimal own n small)

signed_printed : (z : ℤ) → fits_i64 z ≡ true → IsPrinted (signed_decimal z)
signed_printed (pos n) h = decimal_printed n (fits_pos n h)
signed_printed (negsuc n) h = printed_more 45 (decimal (suc n)) refl (decimal_printed (suc n) (grind (arith, rules)))

path_printed : (path : Path) → FitsPath path → IsPrinted (path_text path)
path_printed [] h = refl
path_printed (k ∷ []) h = decimal_printed k (wide k h.0)
path_printed (k ∷ j ∷ r) h =
    printed_both (decimal k) (46 ∷ path_text (j ∷ r)) (decimal_printed k (wide k h.0))
    (printed_more 46 (path_text (j ∷ r)) refl (path_printed (j ∷ r) h.1))

pub value_printed : (x : Value) → FitsValue x → IsPrinted (value_text x)
value_printed (v.Int z) h = signed_printed z h
value_printed (v.Bool true) h = refl
value_printed (v.Bool false) h = refl
value_printed (v.Rev None) h = refl
value_printed (v.Rev (Some path)) h = path_printed path h

-- the items of a line, with a space between two of them
pub items_printed : (xs : List (List ℕ)) → AllByRecursion IsPrinted xs → IsPrinted (join_with_byte 32 xs)
items_printed [] h = refl
items_printed (x ∷ []) h = h.0
items_printed (x ∷ y ∷ xs) h =
    printed_both x (32 ∷ join_with_byte 32 (y ∷ xs)) h.0
    (printed_more 32 (join_with_byte 32 (y ∷ xs)) refl (items_printed (y ∷ xs) h.1))

-- ---- lines

-- lines of printable bytes, of which the bytes are the text
pub record AreLines (text : List ℕ) : Type 0 where
  pub lines : List (List ℕ)
  pub is : text ≡ flat_map ended lines
  pub printed : AllByRecursion IsPrinted lines

pub no_lines : AreLines []
no_lines = record { lines = []; is = refl; printed = tt }

pub one_line : (line : List ℕ) → IsPrinted line → AreLines (with_line_feed line)
one_line line h = record { lines = line ∷ []; is = sym (append-nil (ended line)); printed = (h, tt) }

both_printed : (xs ys : List (List ℕ)) → AllByRecursion IsPrinted xs → AllByRecursion IsPrinted ys
    → AllByRecursion IsPrinted (xs ++ ys)
both_printed [] ys p q = q
both_printed (x ∷ xs) ys p q = (p.0, both_printed xs ys p.1 q)

pub more_lines : (a b : List ℕ) → AreLines a → AreLines b → AreLines (a ++ b)
more_lines a b g h = record {
  lines = g.lines ++ h.lines;
  is = ap (λ x. x ++ b) g.is ∙ ap (λ x. flat_map ended g.lines ++ x) h.is ∙ sym (flat_append ended g.lines h.lines);
  printed = both_printed g.lines h.lines g.printed h.printed;
}

lines_of : (ls : List (List ℕ)) → AllByRecursion IsPrinted ls → text_lines (flat_map ended ls) ≡ ls
lines_of [] h = refl
lines_of (l ∷ ls) h =
    ap text_lines (append_assoc l (10 ∷ []) (flat_map ended ls))
    ∙ text_lines-cut l (flat_map ended ls) (printable_one_line l h.0)
    ∙ ap (λ t. l ∷ t) (lines_of ls h.1)

pub is_text : (text : List ℕ) → AreLines text → IsText text
is_text text h =
    let e : text_lines text ≡ h.lines = ap text_lines h.is ∙ lines_of h.lines h.printed in
    record {
      whole = h.is ∙ ap (flat_map ended) (sym e);
      printable = subst (AllByRecursion IsPrinted) (sym e) h.printed;
    }
