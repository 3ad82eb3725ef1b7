-- The stages of a trace's lines: of each stage and line there is one next stage at most.
use Rattle.std.proofs.Common.{◌≡◌, ◌∙◌, ◌⊎◌, inl, inr, sym, ap, subst, ℕ, List, [], ◌∷◌, get_or, refl, arith}
use Rattle.std.specs.Prelude.{codes}
use Rattle.std.proofs.lemmas.Fmt.{decimal_injective}
use Rattle.std.specs.Fmt.{decimal}
use Rattle.rev_num.specs.Path.{Path}
use Rattle.rev_num.specs.Text.{path_text}
use Rattle.trace_diagram.specs.Cuts.{IsWithout}
use Rattle.trace_diagram.specs.Following.{Stage, no_part, in_events, at_fuel, in_writes, in_text, BeginsPart, WritesPlace, Behind, Follows, Goes}
use Rattle.trace_diagram.specs.Lines.{FitsPath, end_text, event_text, head_text}
use Rattle.trace_diagram.specs.declared.diagram.TraceEvent.{TraceEvent}
use Rattle.trace_diagram.specs.declared.diagram.TraceEvent.TheVariants as event
use Rattle.trace_diagram.specs.declared.diagram.PartEnd.{PartEnd}
use Rattle.trace_diagram.specs.declared.diagram.PartEnd.TheVariants as part_end
use Rattle.trace_diagram.proofs.Cutting.{append_cancel, cut_once, not_without, without-append}
use Rattle.trace_diagram.proofs.Forks.{decimal_without, wide, no_dot}

-- ---- a path is known from its text

letterless : (k : ℕ) (r : Path) → FitsPath (k ∷ r) → IsWithout 109 (path_text (k ∷ r))
letterless k [] fit = decimal_without 109 k (λ digit. omega (arith, digit)) (wide k fit.0)
letterless k (j ∷ r) fit =
    without-append 109 (decimal k) (46 ∷ path_text (j ∷ r))
    (decimal_without 109 k (λ digit. omega (arith, digit)) (wide k fit.0))
    (λ e. omega arith, letterless j r fit.1)

first_digit : (k : ℕ) (r : Path) → FitsPath (k ∷ r) → codes "main" ≡ path_text (k ∷ r) → ⊥
first_digit k r fit is =
    let none : IsWithout 109 (codes "main") = subst (IsWithout 109) (sym is) (letterless k r fit) in none.0 refl

pub path_injective : (p q : Path) → FitsPath p → FitsPath q → path_text p ≡ path_text q → p ≡ q
path_injective [] [] f g is = refl
path_injective [] (k ∷ q) f g is = absurd (first_digit k q g is)
path_injective (j ∷ p) [] f g is = absurd (first_digit j p f (sym is))
path_injective (j ∷ []) (k ∷ []) f g is = ap (λ n. n ∷ []) (decimal_injective j k (wide j f.0) (wide k g.0) is)
path_injective (j ∷ []) (k ∷ i ∷ q) f g is =
    absurd (not_without 46 (decimal k) (path_text (i ∷ q)) (subst (IsWithout 46) is (no_dot j f.0)))
path_injective (j ∷ h ∷ p) (k ∷ []) f g is =
    absurd (not_without 46 (decimal j) (path_text (h ∷ p)) (subst (IsWithout 46) (sym is) (no_dot k g.0)))
path_injective (j ∷ h ∷ p) (k ∷ i ∷ q) f g is =
    let both =
    cut_once 46 (decimal j) (path_text (h ∷ p)) (decimal k) (path_text (i ∷ q)) (no_dot j f.0) (no_dot k g.0) is in
    let heads = decimal_injective j k (wide j f.0) (wide k g.0) both.0 in
    let tails = path_injective (h ∷ p) (i ∷ q) f.1 g.1 both.1 in
    λ x. heads x ∷ tails x

pub head_injective : (p q : Path) → FitsPath p → FitsPath q → head_text p ≡ head_text q → p ≡ q
head_injective p q f g is = path_injective p q f g (append_cancel (codes "revision ") (path_text p) (path_text q) is)

-- ---- two lines of different kinds

pub first : (l m : List ℕ) → l ≡ m → get_or l 0 0 ≡ get_or m 0 0
first l m is = ap (λ b. get_or b 0 0) is

event_first : (e : TraceEvent) → (get_or (event_text e) 0 0 ≡ 102) ⊎ (get_or (event_text e) 0 0 ≡ 106)
event_first (event.Forked q l) = inl refl
event_first (event.Joined q l) = inr refl

end_first : (e : PartEnd) → get_or (end_text e) 0 0 ≡ 101
end_first part_end.Done = refl
end_first (part_end.Trapped t p) = refl

pub event_no_end : (e : TraceEvent) (x : PartEnd) (line : List ℕ) → event_text e ≡ line → end_text x ≡ line → ⊥
event_no_end e x line is at = go (event_first e)
  where
    same : get_or (event_text e) 0 0 ≡ get_or (end_text x) 0 0
    same = first (event_text e) (end_text x) (is ∙ sym at)

    go : (get_or (event_text e) 0 0 ≡ 102) ⊎ (get_or (event_text e) 0 0 ≡ 106) → ⊥
    go (inl f) = absurd (let k = sym (end_first x) ∙ sym same ∙ f in omega (arith, k))
    go (inr f) = absurd (let k = sym (end_first x) ∙ sym same ∙ f in omega (arith, k))

-- ---- one next stage

part_next : (line : List ℕ) (a b : Stage) → BeginsPart line a → BeginsPart line b → a ≡ b
part_next line a b x y =
    x.to ∙ ap in_events (head_injective x.path y.path x.fits y.fits (x.is ∙ sym y.is)) ∙ sym y.to

behind_next : (r : Path) (line : List ℕ) (a b : Stage) → Behind r line a → Behind r line b → a ≡ b
behind_next r line a b (inl x) (inl y) = x.to ∙ sym y.to
behind_next r line a b (inr x) (inr y) = part_next line a b x.part y.part
behind_next r line a b (inl x) (inr y) = absurd (let k = first _ _ (x.quote.is ∙ sym y.part.is) in omega (arith, k))
behind_next r line a b (inr x) (inl y) = absurd (let k = first _ _ (y.quote.is ∙ sym x.part.is) in omega (arith, k))

no_write : (r : Path) (line : List ℕ) (a b : Stage) → WritesPlace r line a → Behind r line b → ⊥
no_write r line a b x (inl y) = let k = first _ _ (x.is ∙ sym y.quote.is) in omega (arith, k)
no_write r line a b x (inr y) = let k = first _ _ (x.is ∙ sym y.part.is) in omega (arith, k)

pub one_next : (s : Stage) (line : List ℕ) (a b : Stage) → Follows s line a → Follows s line b → a ≡ b
one_next no_part line a b x y = part_next line a b x y
one_next (in_events r) line a b (inl x) (inl y) = x.to ∙ sym y.to
one_next (in_events r) line a b (inr x) (inr y) = x.to ∙ sym y.to
one_next (in_events r) line a b (inl x) (inr y) = absurd (event_no_end x.entry y.end line x.is y.is)
one_next (in_events r) line a b (inr x) (inl y) = absurd (event_no_end y.entry x.end line y.is x.is)
one_next (at_fuel r) line a b x y = x.to ∙ sym y.to
one_next (in_writes r) line a b (inl x) (inl y) = x.to ∙ sym y.to
one_next (in_writes r) line a b (inr x) (inr y) = behind_next r line a b x y
one_next (in_writes r) line a b (inl x) (inr y) = absurd (no_write r line a b x y)
one_next (in_writes r) line a b (inr x) (inl y) = absurd (no_write r line b a y x)
one_next (in_text r) line a b x y = behind_next r line a b x y

-- after a line that follows, the rest goes on from the next stage
pub goes_behind : (s next : Stage) (line : List ℕ) (lines : List (List ℕ)) → Follows s line next → Goes s (line ∷ lines)
    → Goes next lines
goes_behind s next line lines follows goes =
    subst (λ n. Goes n lines) (one_next s line goes.0 next goes.1 follows) goes.2
