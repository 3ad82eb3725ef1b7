-- The pieces of a line are cut in one way.
use Rattle.std.proofs.Common.{◌≡◌, ◌≢◌, ◌∙◌, sym, ap, subst, ℕ, ◌<◌, ◌^◌, List, [], ◌∷◌, ◌++◌, get_or, refl, arith, append_assoc}
use Rattle.std.specs.Prelude.{codes}
use Rattle.std.specs.Fmt.{decimal}
use Rattle.std.specs.Int.{IsInRange}
use Rattle.rev_num.specs.Path.{Path}
use Rattle.rev_num.specs.Text.{path_text}
use Rattle.rev_num.specs.declared.outcome.Cause.TheVariants as cause
use Rattle.rev_num.specs.declared.value.NumFault.{NumFault}
use Rattle.rev_num.specs.declared.value.NumFault.TheVariants as fault
use Rattle.trace_diagram.specs.Cuts.{IsCut, IsWithout}
use Rattle.trace_diagram.specs.Ends.{FitsLocated, IsMerge, LacksMerge, LacksPlain, located_text, where_text}
use Rattle.trace_diagram.specs.Lines.{FitsEvent, FitsPath, cause_text, event_text, fault_text}
use Rattle.trace_diagram.specs.Places.{IsPlace}
use Rattle.trace_diagram.specs.Reading.{LacksPrefix}
use Rattle.trace_diagram.specs.declared.diagram.TraceEvent.{TraceEvent}
use Rattle.trace_diagram.specs.declared.diagram.TraceEvent.TheVariants as event
use Rattle.trace_diagram.specs.declared.lines.Located.{Located}
use Rattle.trace_diagram.proofs.Cutting.{append_cancel, cut_once, not_without, without-append}
use Rattle.trace_diagram.proofs.Forks.{decimal_without, wide}
use Rattle.trace_diagram.proofs.PlaceForms.{place_without}

-- ---- paths

pub path_without : (b : ℕ) → (IsInRange 48 57 b → ⊥) → b ≢ 46 → IsWithout b (codes "main") → (path : Path)
    → FitsPath path → IsWithout b (path_text path)
path_without b digit dot letters [] fit = letters
path_without b digit dot letters (k ∷ []) fit = decimal_without b k digit (wide k fit.0)
path_without b digit dot letters (k ∷ j ∷ r) fit =
    without-append b (decimal k) (46 ∷ path_text (j ∷ r)) (decimal_without b k digit (wide k fit.0))
    (λ same. dot (sym same), path_without b digit dot letters (j ∷ r) fit.1)

pub no_space : (path : Path) → FitsPath path → IsWithout 32 (path_text path)
no_space path fit =
    path_without 32 (λ digit. omega (arith, digit)) (λ same. omega arith)
    (λ e. omega arith, (λ e. omega arith, (λ e. omega arith, (λ e. omega arith, tt)))) path fit

-- ---- a path and a line

pub record LocatedParts (x : Located) (front rest : List ℕ) : Type 0 where
  pub path : path_text x.path ≡ front
  pub line : codes "line " ++ decimal x.line ≡ rest

pub located_parts : (x : Located) (bytes front rest : List ℕ) → IsCut 32 bytes front rest → FitsLocated x
    → located_text x ≡ bytes → LocatedParts x front rest
located_parts x bytes front rest cut fit is =
    let both =
    cut_once 32 (path_text x.path) (codes "line " ++ decimal x.line) front rest (no_space x.path fit.0) cut.first
    (is ∙ cut.is) in
    record { path = both.0; line = both.1 }

pub unlocated : (bytes : List ℕ) → IsWithout 32 bytes → (x : Located) → FitsLocated x → located_text x ≡ bytes → ⊥
unlocated bytes none x fit is =
    not_without 32 (path_text x.path) (codes "line " ++ decimal x.line) (subst (IsWithout 32) (sym is) none)

-- ---- forks and joins

pub no_fork : (line rest : List ℕ) → line ≡ codes "forked " ++ rest
    → ((x : Located) → FitsLocated x → located_text x ≡ rest → ⊥) → (e : TraceEvent) → FitsEvent e → event_text e ≡ line
    → ⊥
no_fork line rest at none (event.Forked child l) fit is =
    none (record { path = child; line = l }) fit (append_cancel (codes "forked ") _ _ (is ∙ at))
no_fork line rest at none (event.Joined on l) fit is = let e = ap (λ b. get_or b 0 0) (is ∙ at) in omega (arith, e)

pub no_join : (line rest : List ℕ) → line ≡ codes "joined " ++ rest
    → ((x : Located) → FitsLocated x → located_text x ≡ rest → ⊥) → (e : TraceEvent) → FitsEvent e → event_text e ≡ line
    → ⊥
no_join line rest at none (event.Joined on l) fit is =
    none (record { path = on; line = l }) fit (append_cancel (codes "joined ") _ _ (is ∙ at))
no_join line rest at none (event.Forked child l) fit is = let e = ap (λ b. get_or b 0 0) (is ∙ at) in omega (arith, e)

-- ---- causes

pub no_cause : (bytes : List ℕ) → LacksPrefix bytes (codes "overflow") → LacksPrefix bytes (codes "zero divisor")
    → LacksPrefix bytes (codes "index") → LacksPrefix bytes (codes "assert") → LacksPrefix bytes (codes "join of none")
    → LacksPrefix bytes (codes "call depth") → LacksPrefix bytes (codes "fuel spent") → LacksPlain bytes
no_cause bytes o z i a j d f cause.Overflow rest h = o rest h.text
no_cause bytes o z i a j d f cause.ZeroDivisor rest h = z rest h.text
no_cause bytes o z i a j d f cause.Index rest h = i rest h.text
no_cause bytes o z i a j d f cause.Assert rest h = a rest h.text
no_cause bytes o z i a j d f cause.JoinNone rest h = j rest h.text
no_cause bytes o z i a j d f cause.CallDepth rest h = d rest h.text
no_cause bytes o z i a j d f cause.Spent rest h = f rest h.text
no_cause bytes o z i a j d f (cause.Merge n x) rest h = h.plain

-- ---- merges

-- behind the colon
abbrev pub behind_colon : NumFault → List ℕ → List ℕ
behind_colon f rest = (codes " " ++ fault_text f) ++ rest

pub merge_split : (place : List ℕ) (f : NumFault) (rest : List ℕ)
    → cause_text (cause.Merge 0 f) place ++ rest ≡ codes "merge of " ++ (place ++ 58 ∷ behind_colon f rest)
merge_split place f rest = ap (λ t. codes "merge of " ++ t) (append_assoc place (codes ": " ++ fault_text f) rest)

pub no_colon : (place : List ℕ) → IsPlace place → IsWithout 58 place
no_colon place h = place_without 58 refl (λ e. omega arith) (λ e. omega arith) place h

pub record MergeParts (place : List ℕ) (f : NumFault) (rest p more : List ℕ) : Type 0 where
  pub place_is : place ≡ p
  pub behind : behind_colon f rest ≡ more

pub merge_parts : (bytes named p more : List ℕ) → bytes ≡ codes "merge of " ++ named → IsCut 58 named p more
    → (place : List ℕ) (f : NumFault) (rest : List ℕ) → IsMerge place f bytes rest → MergeParts place f rest p more
merge_parts bytes named p more at cut place f rest h =
    let split : place ++ 58 ∷ behind_colon f rest ≡ named =
    append_cancel (codes "merge of ") _ _ (sym (merge_split place f rest) ∙ sym h.text ∙ at) in
    let both = cut_once 58 place (behind_colon f rest) p more (no_colon place h.place_is) cut.first (split ∙ cut.is) in
    record { place_is = both.0; behind = both.1 }

pub no_merge_colon : (bytes named : List ℕ) → bytes ≡ codes "merge of " ++ named → IsWithout 58 named → LacksMerge bytes
no_merge_colon bytes named at none place f rest h =
    let split : place ++ 58 ∷ behind_colon f rest ≡ named =
    append_cancel (codes "merge of ") _ _ (sym (merge_split place f rest) ∙ sym h.text ∙ at) in
    not_without 58 place (behind_colon f rest) (subst (IsWithout 58) (sym split) none)

pub no_merge_place : (bytes named p more : List ℕ) → bytes ≡ codes "merge of " ++ named → IsCut 58 named p more
    → (IsPlace p → ⊥) → LacksMerge bytes
no_merge_place bytes named p more at cut none place f rest h =
    none (subst IsPlace (merge_parts bytes named p more at cut place f rest h).place_is h.place_is)

pub no_merge_fault : (bytes named p more : List ℕ) → bytes ≡ codes "merge of " ++ named → IsCut 58 named p more
    → LacksPrefix more (codes " overflow") → LacksPrefix more (codes " zero divisor") → LacksMerge bytes
no_merge_fault bytes named p more at cut o z place f rest h =
    go f (merge_parts bytes named p more at cut place f rest h).behind
  where
    go : (g : NumFault) → behind_colon g rest ≡ more → ⊥
    go fault.Overflow is = o rest (sym is)
    go fault.ZeroDivisor is = z rest (sym is)

pub is_merge : {bytes named p more rest : List ℕ} (f : NumFault) → bytes ≡ codes "merge of " ++ named
    → IsCut 58 named p more → IsPlace p → more ≡ behind_colon f rest → IsMerge p f bytes rest
is_merge {p} {rest} f at cut place is =
    record {
      place_is = place;
      text = at ∙ ap (λ t. codes "merge of " ++ t) (cut.is ∙ ap (λ t. p ++ 58 ∷ t) is) ∙ sym (merge_split p f rest);
    }

-- ---- where a revision trapped

pub record WhereParts (x : Located) (front rest : List ℕ) : Type 0 where
  pub line : decimal x.line ≡ front
  pub path : codes "in revision " ++ path_text x.path ≡ rest

pub line_without : (n : ℕ) → n < 2 ^ 32 → IsWithout 32 (decimal n)
line_without n small = decimal_without 32 n (λ digit. omega (arith, digit)) (wide n small)

pub where_parts : (bytes digits front rest : List ℕ) → bytes ≡ codes " at line " ++ digits → IsCut 32 digits front rest
    → (x : Located) → FitsLocated x → where_text x ≡ bytes → WhereParts x front rest
where_parts bytes digits front rest at cut x fit is =
    let behind : decimal x.line ++ 32 ∷ (codes "in revision " ++ path_text x.path) ≡ digits =
    append_cancel (codes " at line ") _ _ (is ∙ at) in
    let both =
    cut_once 32 (decimal x.line) (codes "in revision " ++ path_text x.path) front rest (line_without x.line fit.1)
    cut.first (behind ∙ cut.is) in
    record { line = both.0; path = both.1 }

pub nowhere : (bytes digits : List ℕ) → bytes ≡ codes " at line " ++ digits → IsWithout 32 digits → (x : Located)
    → FitsLocated x → where_text x ≡ bytes → ⊥
nowhere bytes digits at none x fit is =
    let behind : decimal x.line ++ 32 ∷ (codes "in revision " ++ path_text x.path) ≡ digits =
    append_cancel (codes " at line ") _ _ (is ∙ at) in
    not_without 32 (decimal x.line) (codes "in revision " ++ path_text x.path) (subst (IsWithout 32) (sym behind) none)

pub where_is : {bytes digits front rest p : List ℕ} (x : Located) → bytes ≡ codes " at line " ++ digits
    → IsCut 32 digits front rest → decimal x.line ≡ front → rest ≡ codes "in revision " ++ p → path_text x.path ≡ p
    → where_text x ≡ bytes
where_is {front} {p} x at cut line is path =
    ap (λ t. codes " at line " ++ (decimal x.line ++ (codes " in revision " ++ t))) path
    ∙ ap (λ t. codes " at line " ++ (t ++ (codes " in revision " ++ p))) line
    ∙ ap (λ t. codes " at line " ++ (front ++ 32 ∷ t)) (sym is)
    ∙ ap (λ t. codes " at line " ++ t) (sym cut.is)
    ∙ sym at
