-- What names mean where one more is in scope.
use Rattle.std.proofs.Common.{◌≡◌, ◌∙◌, ℕ, Bool, true, false, Some, None, refl, sym, ap}
use Rattle.std.specs.Prelude.{slice_get, if◌then◌else◌}
use Rattle.rev_num.specs.declared.value.ValueKind.{ValueKind}
use Rattle.name_tables.specs.Names.{Name, same}
use Rattle.name_tables.specs.Table.{find, added}
use Rattle.name_tables.proofs.Tables.{same_equal, find-added, or_else, or_else-none}
use Rattle.typed_programs.specs.Kinds.{Names, Locals}
use Rattle.rev_code.specs.declared.code.Code.{Code}
use Rattle.rev_code.specs.declared.code.CodeBlock.{CodeBlock}
use Rattle.code_generation.specs.Numbers.{Numbers, Scope}
use Rattle.generated_certificates.specs.Means.{NamesMean}

-- with one name more
pub name_bound : (code : Code) (b : CodeBlock) (n : Numbers) (c : Names) (l : Locals) (scope : Scope) (w : Name)
    (t : ValueKind) (i : ℕ)
    → NamesMean code b n c l scope → find w l ≡ None → slice_get b.locals i ≡ Some t
    → NamesMean code b n c (added l w (Some t)) (added scope w i)
name_bound code b n c l scope w t i m new here = record {
  locals = λ name u h. is name u (same name w) refl (sym (find-added name w (Some t) l) ∙ h);
  free = λ name h. not_there name (same name w) refl (sym (find-added name w (Some t) l) ∙ h);
  shared = m.shared;
  inputs = m.inputs;
}
  where
    missing : (name : Name) → same name w ≡ true → find name l ≡ None
    missing name e = ap (λ y. find y l) (same_equal name w e) ∙ new

    is : (name : Name) (u : ValueKind) (d : Bool) → same name w ≡ d
        → or_else (find name l) (if d then Some (Some t) else None) ≡ Some (Some u)
        → (j : ℕ) × (find name (added scope w i) ≡ Some j) × (slice_get b.locals j ≡ Some u)
    is name u true e h =
        let gone = missing name e in
        let kt : t ≡ u =
        (let q : Some (Some t) ≡ Some (Some u) = sym (ap (λ o. or_else o (Some (Some t))) gone) ∙ h in cc) in (
          i,
          find-added name w i scope ∙ ap (λ d. or_else (find name scope) (if d then Some i else None)) e
              ∙ ap (λ o. or_else o (Some i)) (m.free name gone),
          here ∙ ap Some kt,
        )
    is name u false e h =
        let d = m.locals name u (sym (or_else-none (find name l)) ∙ h) in (
          d.0,
          find-added name w i scope ∙ ap (λ d. or_else (find name scope) (if d then Some i else None)) e
              ∙ or_else-none (find name scope) ∙ d.1,
          d.2,
        )

    not_there : (name : Name) (d : Bool) → same name w ≡ d
        → or_else (find name l) (if d then Some (Some t) else None) ≡ None → find name (added scope w i) ≡ None
    not_there name true e h =
        absurd (let q : Some (Some t) ≡ None = sym (ap (λ o. or_else o (Some (Some t))) (missing name e)) ∙ h in cc)
    not_there name false e h =
        find-added name w i scope ∙ ap (λ d. or_else (find name scope) (if d then Some i else None)) e
        ∙ or_else-none (find name scope) ∙ m.free name (sym (or_else-none (find name l)) ∙ h)
