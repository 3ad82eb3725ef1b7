-- The lines of a text, one after another.
use Rattle.std.proofs.Common.{◌≡◌, ◌∙◌, sym, ap, ℕ, suc, arith, Bool, true, false, List, [], ◌∷◌, ◌++◌, length, map, refl}
use Rattle.std.proofs.lemmas.List.{append-nil}
use Rattle.std.specs.Prelude.{◌==◌, if◌then◌else◌}
use Rattle.std.proofs.lemmas.Bool.{eqb-true, true≢false}
use Rattle.std.specs.List.{flat_map, onto_first}
use Rattle.trace_diagram.specs.Cuts.{IsCut, IsWithout}
use Rattle.trace_diagram.specs.Lines.{quoted}
use Rattle.trace_diagram.specs.Traces.{IsOneLine, ended, text_lines}

-- the first line, and the lines behind it
pub text_lines-cut : (line more : List ℕ) → IsOneLine line → text_lines (line ++ 10 ∷ more) ≡ line ∷ text_lines more
text_lines-cut [] more one = refl
text_lines-cut (b ∷ line) more one = by_test (b == 10) refl (text_lines-cut line more one.1)
  where
    by_test : (t : Bool) → (b == 10) ≡ t → text_lines (line ++ 10 ∷ more) ≡ line ∷ text_lines more
        → (if t then [] ∷ text_lines (line ++ 10 ∷ more) else onto_first b (text_lines (line ++ 10 ∷ more)))
        ≡ (b ∷ line) ∷ text_lines more
    by_test true is later = absurd (one.0 (eqb-true b 10 is))
    by_test false is later = ap (onto_first b) later

-- the line that is cut off is the first
pub lines_cut : (line rest more : List ℕ) → IsCut 10 rest line more → text_lines rest ≡ line ∷ text_lines more
lines_cut line rest more h = ap text_lines h.is ∙ text_lines-cut line more h.first

-- what has no line feed is one line, if it is anything
pub text_lines-last : (b : ℕ) (bs : List ℕ) → IsWithout 10 (b ∷ bs) → text_lines (b ∷ bs) ≡ (b ∷ bs) ∷ []
text_lines-last b [] h = not_ended (b == 10) refl
  where
    not_ended : (t : Bool) → (b == 10) ≡ t → (if t then [] ∷ [] else onto_first b []) ≡ (b ∷ []) ∷ []
    not_ended true is = absurd (h.0 (eqb-true b 10 is))
    not_ended false is = refl
text_lines-last b (c ∷ bs) h = not_ended (b == 10) refl (text_lines-last c bs h.1)
  where
    not_ended : (t : Bool) → (b == 10) ≡ t → text_lines (c ∷ bs) ≡ (c ∷ bs) ∷ []
        → (if t then [] ∷ text_lines (c ∷ bs) else onto_first b (text_lines (c ∷ bs))) ≡ (b ∷ c ∷ bs) ∷ []
    not_ended true is later = absurd (h.0 (eqb-true b 10 is))
    not_ended false is later = ap (onto_first b) later

-- the lines of such a rest, printed
pub last_line : (rest out new : List ℕ) → IsWithout 10 rest → (length rest == 0) ≡ false
    → new ≡ out ++ ended (quoted rest) → new ≡ out ++ flat_map ended (map quoted (text_lines rest))
last_line [] out new none some pushed = absurd (true≢false some)
last_line (b ∷ bs) out new none some pushed =
    let lines : flat_map ended (map quoted (text_lines (b ∷ bs))) ≡ ended (quoted (b ∷ bs)) ++ [] =
    ap (λ ls. flat_map ended (map quoted ls)) (text_lines-last b bs none) in
    pushed ∙ ap (λ l. out ++ l) (sym (lines ∙ append-nil (ended (quoted (b ∷ bs)))))

pub no_line : (rest out new : List ℕ) → (length rest == 0) ≡ true → new ≡ out
    → new ≡ out ++ flat_map ended (map quoted (text_lines rest))
no_line [] out new none same = same ∙ sym (append-nil out)
no_line (b ∷ bs) out new none same =
    let e : suc (length bs) ≡ 0 = eqb-true (suc (length bs)) 0 none in absurd (omega arith)
