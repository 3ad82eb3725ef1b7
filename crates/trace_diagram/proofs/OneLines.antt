-- No line of a trace has a line feed.
use Rattle.std.proofs.Common.{◌≡◌, inl, inr, subst, ℕ, ◌<◌, ◌^◌, true, List, [], ◌∷◌, ◌++◌, refl, arith}
use Rattle.std.specs.Prelude.{codes, not, ◌==◌}
use Rattle.std.specs.Int.{IsInRange}
use Rattle.std.specs.List.{list_all, AllByRecursion}
use Rattle.std.specs.Fmt.{decimal}
use Rattle.rev_num.specs.Path.{Path}
use Rattle.rev_num.specs.Text.{path_text}
use Rattle.rev_num.specs.declared.outcome.Cause.{Cause}
use Rattle.rev_num.specs.declared.outcome.Cause.TheVariants as cause
use Rattle.rev_num.specs.declared.value.NumFault.{NumFault}
use Rattle.rev_num.specs.declared.value.NumFault.TheVariants as fault
use Rattle.trace_diagram.specs.Cuts.{IsWithout}
use Rattle.trace_diagram.specs.Following.{Stage, no_part, in_events, at_fuel, in_writes, in_text, BeginsPart, Behind, Follows, Goes}
use Rattle.trace_diagram.specs.Lines.{FitsChange, FitsEnd, FitsEvent, FitsPath, IsPlaceOf, cause_text, change_text, end_text, event_text, fault_text, fuel_text, head_text}
use Rattle.trace_diagram.specs.Places.{IsPlace}
use Rattle.trace_diagram.specs.Traces.{IsOneLine}
use Rattle.trace_diagram.specs.declared.diagram.Change.{Change}
use Rattle.trace_diagram.specs.declared.diagram.PartEnd.{PartEnd}
use Rattle.trace_diagram.specs.declared.diagram.PartEnd.TheVariants as part_end
use Rattle.trace_diagram.specs.declared.diagram.TraceEvent.{TraceEvent}
use Rattle.trace_diagram.specs.declared.diagram.TraceEvent.TheVariants as event
use Rattle.trace_diagram.proofs.ChangeForms.{NoValueByte, value_without}
use Rattle.trace_diagram.proofs.Cutting.{without-append}
use Rattle.trace_diagram.proofs.Forks.{decimal_without, wide}
use Rattle.trace_diagram.proofs.LineForms.{path_without}
use Rattle.trace_diagram.proofs.Partials.{printable_one_line}
use Rattle.trace_diagram.proofs.PlaceForms.{all_without, place_without}

word : (xs : List ℕ) → list_all (λ c. not (c == 10)) xs ≡ true → IsWithout 10 xs
word xs h = all_without (λ c. not (c == 10)) 10 refl xs h

no_digit : IsInRange 48 57 10 → ⊥
no_digit digit = omega (arith, digit)

feed : NoValueByte 10
feed = record {
  digit = no_digit;
  dot = λ e. omega arith;
  minus = λ e. omega arith;
  sign = λ e. omega arith;
  main = word (codes "main") refl;
  yes = word (codes "true") refl;
  nay = word (codes "false") refl;
  none = word (codes "none") refl;
}

path_line : (r : Path) → FitsPath r → IsWithout 10 (path_text r)
path_line r fit = path_without 10 no_digit feed.dot feed.main r fit

small_line : (n : ℕ) → n < 2 ^ 32 → IsWithout 10 (decimal n)
small_line n small = decimal_without 10 n no_digit (wide n small)

place_line : (place : List ℕ) → IsPlace place → IsWithout 10 place
place_line place h = place_without 10 refl (λ e. omega arith) (λ e. omega arith) place h

head_line : (r : Path) → FitsPath r → IsWithout 10 (head_text r)
head_line r fit = without-append 10 (codes "revision ") (path_text r) (word (codes "revision ") refl) (path_line r fit)

located_line : (r : Path) (n : ℕ) → FitsPath r → n < 2 ^ 32
    → IsWithout 10 (path_text r ++ (codes " line " ++ decimal n))
located_line r n fit small =
    without-append 10 (path_text r) (codes " line " ++ decimal n) (path_line r fit)
    (without-append 10 (codes " line ") (decimal n) (word (codes " line ") refl) (small_line n small))

event_line : (e : TraceEvent) → FitsEvent e → IsWithout 10 (event_text e)
event_line (event.Forked r n) fit =
    without-append 10 (codes "forked ") (path_text r ++ (codes " line " ++ decimal n)) (word (codes "forked ") refl)
    (located_line r n fit.0 fit.1)
event_line (event.Joined r n) fit =
    without-append 10 (codes "joined ") (path_text r ++ (codes " line " ++ decimal n)) (word (codes "joined ") refl)
    (located_line r n fit.0 fit.1)

fault_line : (f : NumFault) → IsWithout 10 (codes ": " ++ fault_text f)
fault_line fault.Overflow = word (codes ": overflow") refl
fault_line fault.ZeroDivisor = word (codes ": zero divisor") refl

cause_line : (c : Cause) (place : List ℕ) → IsPlaceOf c place → IsWithout 10 (cause_text c place)
cause_line cause.Overflow place h = word (codes "overflow") refl
cause_line cause.ZeroDivisor place h = word (codes "zero divisor") refl
cause_line cause.Index place h = word (codes "index") refl
cause_line cause.Assert place h = word (codes "assert") refl
cause_line cause.JoinNone place h = word (codes "join of none") refl
cause_line cause.CallDepth place h = word (codes "call depth") refl
cause_line cause.Spent place h = word (codes "fuel spent") refl
cause_line (cause.Merge n f) place h =
    without-append 10 (codes "merge of ") (place ++ (codes ": " ++ fault_text f)) (word (codes "merge of ") refl)
    (without-append 10 place (codes ": " ++ fault_text f) (place_line place h) (fault_line f))

where_line : (n : ℕ) (r : Path) → n < 2 ^ 32 → FitsPath r
    → IsWithout 10 (codes " at line " ++ (decimal n ++ (codes " in revision " ++ path_text r)))
where_line n r small fit =
    without-append 10 (codes " at line ") (decimal n ++ (codes " in revision " ++ path_text r))
    (word (codes " at line ") refl)
    (without-append 10 (decimal n) (codes " in revision " ++ path_text r) (small_line n small)
    (without-append 10 (codes " in revision ") (path_text r) (word (codes " in revision ") refl) (path_line r fit)))

end_line : (e : PartEnd) → FitsEnd e → IsWithout 10 (end_text e)
end_line part_end.Done fit = word (codes "end done") refl
end_line (part_end.Trapped t p) fit =
    without-append 10 (codes "end ")
    (cause_text t.cause p ++ (codes " at line " ++ (decimal t.line ++ (codes " in revision " ++ path_text t.origin))))
    (word (codes "end ") refl)
    (without-append 10 (cause_text t.cause p)
    (codes " at line " ++ (decimal t.line ++ (codes " in revision " ++ path_text t.origin)))
    (cause_line t.cause p fit.place_of)
    (where_line t.line t.origin fit.small fit.path))

fuel_line : (n : ℕ) → n < 2 ^ 64 → IsWithout 10 (fuel_text n)
fuel_line n small =
    without-append 10 (codes "fuel ") (decimal n) (word (codes "fuel ") refl) (decimal_without 10 n no_digit small)

change_line : (c : Change) → FitsChange c → IsWithout 10 (change_text c)
change_line c fit =
    let value = value_without 10 feed c.value fit.value in
    let root = value_without 10 feed c.root fit.root in
    without-append 10 (codes "write ") _ (word (codes "write ") refl)
    (without-append 10 c.place _ (place_line c.place fit.place)
    (without-append 10 (codes " ") _ (word (codes " ") refl)
    (without-append 10 _ _ value (without-append 10 (codes " root ") _ (word (codes " root ") refl) root))))

part_line : (line : List ℕ) (next : Stage) → BeginsPart line next → IsOneLine line
part_line line next h = subst IsOneLine h.is (head_line h.path h.fits)

behind_line : (r : Path) (line : List ℕ) (next : Stage) → Behind r line next → IsOneLine line
behind_line r line next (inl h) =
    subst IsOneLine h.quote.is
    (without-append 10 (codes "> ") h.text (word (codes "> ") refl) (printable_one_line h.text h.quote.printable))
behind_line r line next (inr h) = part_line line next h.part

pub follows_line : (s : Stage) (line : List ℕ) (next : Stage) → Follows s line next → IsOneLine line
follows_line no_part line next h = part_line line next h
follows_line (in_events r) line next (inl h) = subst IsOneLine h.is (event_line h.entry h.fits)
follows_line (in_events r) line next (inr h) = subst IsOneLine h.is (end_line h.end h.fits)
follows_line (at_fuel r) line next h = subst IsOneLine h.is (fuel_line h.fuel h.fits)
follows_line (in_writes r) line next (inl h) = subst IsOneLine h.is (change_line h.change h.fits)
follows_line (in_writes r) line next (inr h) = behind_line r line next h
follows_line (in_text r) line next h = behind_line r line next h

pub goes_lines : (s : Stage) (lines : List (List ℕ)) → Goes s lines → AllByRecursion IsOneLine lines
goes_lines s [] h = tt
goes_lines s (line ∷ lines) h = (follows_line s line h.0 h.1, goes_lines h.0 lines h.2)
