-- Behind its parameters a body reads its arguments.
use Rattle.std.proofs.Common.{◌≡◌, ◌∙◌, ℕ, suc, ◌+◌, Bool, true, false, List, [], ◌∷◌, map, Option, Some, None, refl, sym, ap, arith}
use Rattle.std.specs.Prelude.{slice_get, if◌then◌else◌}
use Rattle.rev_num.specs.Path.{Path}
use Rattle.rev_num.specs.declared.value.Value.{Value}
use Rattle.rev_num.specs.declared.value.ValueKind.{ValueKind}
use Rattle.rev_num.specs.Value.{kind_of}
use Rattle.rev_syntax.specs.Trees.{Parameter}
use Rattle.name_tables.specs.Names.{Name, same}
use Rattle.name_tables.specs.Table.{find, added}
use Rattle.typed_programs.specs.Definitions.{names_of}
use Rattle.typed_programs.specs.Value.{bind, bind_all}
use Rattle.name_tables.proofs.Tables.{same_equal, find-added, or_else, or_else-none}
use Rattle.typed_programs.specs.Kinds.{Names, Locals}
use Rattle.typed_programs.specs.Judgement.{ParamsNew}
use Rattle.typed_programs.specs.Scopes as scopes
use Rattle.rev_code.specs.Words.{Word}
use Rattle.code_generation.specs.Numbers.{Scope, with_params}
use Rattle.expression_meaning.specs.Agrees.{word, ArgsAre}

pub record Known (l : Locals) (scope : Scope) (local : Name → Option Value) (words : List (Word Path)) : Type 0 where
  pub known : (name : Name) (t : ValueKind) → find name l ≡ Some (Some t)
      → (j : ℕ) × (find name scope ≡ Some j)
      × ((x : Value) × (local name ≡ Some x) × (kind_of x ≡ t) × (slice_get words j ≡ Some (word x)))
  pub free : (name : Name) → find name l ≡ None → (find name scope ≡ None) × (local name ≡ None)

one_param : (w : Name) (kind : ValueKind) (x : Value) (m : ℕ) (l : Locals) (scope : Scope) (local : Name → Option Value)
    (words : List (Word Path))
    → find w l ≡ None → kind_of x ≡ kind → slice_get words m ≡ Some (word x) → Known l scope local words
    → Known (added l w (Some kind)) (added scope w m) (bind local w x) words
one_param w kind x m l scope local words new kx here kn = record {
  known = λ name t h. is name t (same name w) refl (sym (find-added name w (Some kind) l) ∙ h);
  free = λ name h. not_there name (same name w) refl (sym (find-added name w (Some kind) l) ∙ h);
}
  where
    missing : (name : Name) → same name w ≡ true → find name l ≡ None
    missing name e = ap (λ y. find y l) (same_equal name w e) ∙ new

    is : (name : Name) (t : ValueKind) (d : Bool) → same name w ≡ d
        → or_else (find name l) (if d then Some (Some kind) else None) ≡ Some (Some t)
        → (j : ℕ) × (find name (added scope w m) ≡ Some j)
        × ((y : Value) × (bind local w x name ≡ Some y) × (kind_of y ≡ t) × (slice_get words j ≡ Some (word y)))
    is name t true e h =
        let gone = missing name e in
        let kt : kind ≡ t =
        (let q : Some (Some kind) ≡ Some (Some t) = sym (ap (λ o. or_else o (Some (Some kind))) gone) ∙ h in cc) in (
          m,
          find-added name w m scope ∙ ap (λ d. or_else (find name scope) (if d then Some m else None)) e
              ∙ ap (λ o. or_else o (Some m)) (kn.free name gone).0,
          (x, ap (λ d. if d then Some x else local name) e, kx ∙ kt, here),
        )
    is name t false e h =
        let d = kn.known name t (sym (or_else-none (find name l)) ∙ h) in (
          d.0,
          find-added name w m scope ∙ ap (λ d. or_else (find name scope) (if d then Some m else None)) e
              ∙ or_else-none (find name scope) ∙ d.1,
          (d.2.0, ap (λ d. if d then Some x else local name) e ∙ d.2.1, d.2.2, d.2.3),
        )

    not_there : (name : Name) (d : Bool) → same name w ≡ d
        → or_else (find name l) (if d then Some (Some kind) else None) ≡ None
        → (find name (added scope w m) ≡ None) × (bind local w x name ≡ None)
    not_there name true e h =
        absurd (let q : Some (Some kind) ≡ None = sym (ap (λ o. or_else o (Some (Some kind))) (missing name e)) ∙ h in
        cc)
    not_there name false e h =
        let d = kn.free name (sym (or_else-none (find name l)) ∙ h) in (
          find-added name w m scope ∙ ap (λ d. or_else (find name scope) (if d then Some m else None)) e
              ∙ or_else-none (find name scope) ∙ d.0,
          ap (λ d. if d then Some x else local name) e ∙ d.1,
        )

pub params_known : (c : Names) (ps : List Parameter) (xs : List Value) (m : ℕ) (l : Locals) (scope : Scope)
    (local : Name → Option Value) (words : List (Word Path))
    → ParamsNew c l ps → ArgsAre ps xs
    → ((j : ℕ) → slice_get words (m + j) ≡ slice_get (map word xs) j) → Known l scope local words
    → Known (scopes.with_params l ps) (with_params scope m ps) (bind_all local (names_of ps) xs) words
params_known c [] [] m l scope local words new is at kn = kn
params_known c [] (x ∷ xs) m l scope local words new is at kn = absurd is
params_known c (p ∷ ps) [] m l scope local words new is at kn = absurd is
params_known c (p ∷ ps) (x ∷ xs) m l scope local words new is at kn =
    let here : slice_get words m ≡ Some (word x) = ap (slice_get words) (let z : m ≡ m + 0 = omega arith in z) ∙ at 0 in
    params_known c ps xs (suc m) (added l p.name.text (Some p.kind)) (added scope p.name.text m)
    (bind local p.name.text x) words new.1 is.1
    (λ j. ap (slice_get words) (let z : suc m + j ≡ m + suc j = omega arith in z) ∙ at (suc j))
    (one_param p.name.text p.kind x m l scope local words new.0.0 is.0 here kn)
