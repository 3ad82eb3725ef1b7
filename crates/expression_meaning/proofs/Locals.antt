-- The words of locals and of locations, as values are assigned.
use Rattle.std.proofs.Common.{◌≡◌, ◌≢◌, ◌∙◌, ℕ, zero, suc, Bool, true, false, cond, List, [], ◌∷◌, map, Option, Some, None, refl, sym, ap, subst}
use Rattle.std.specs.Prelude.{slice_get, slice_set}
use Rattle.std.specs.Cmp.Lexicographic.{other_text}
use Rattle.std.proofs.lemmas.Option.{slice_get_within}
use Rattle.rev_num.specs.Path.{Path}
use Rattle.rev_num.specs.declared.value.Value.{Value}
use Rattle.rev_num.specs.declared.value.ValueKind.{ValueKind}
use Rattle.rev_num.specs.Value.{kind_of}
use Rattle.name_tables.specs.Names.{Name, same}
use Rattle.name_tables.specs.Table.{Table, find, added}
use Rattle.name_tables.proofs.Tables.{same_equal, or_else, or_else-none, find-added}
use Rattle.revision_calculus.specs.State as source
use Rattle.revision_calculus.specs.State.{view_at, write_at}
use Rattle.revision_calculus.specs.Evaluation.{with_local}
use Rattle.revision_calculus.specs.Kinded.{LocationsAre}
use Rattle.revision_calculus.proofs.LocationKinds.{IsAt}
use Rattle.revision_calculus.proofs.ScopeKinds.{find-with_local}
use Rattle.rev_code.specs.Words as words
use Rattle.rev_code.specs.Words.{Word}
use Rattle.rev_code.specs.State as code
use Rattle.rev_code.specs.State.{seen_at, written_at}
use Rattle.rev_code.specs.Events as events
use Rattle.code_generation.specs.Numbers.{Scope}
use Rattle.expression_meaning.specs.Agrees.{word}
use Rattle.expression_meaning.proofs.Words.{word_kind}
use Rattle.expression_meaning.specs.Places.{IsWithin}
use Rattle.expression_meaning.specs.States.{written_word, location_word, word_kinds, IsSame, AreLocals}
use Rattle.rev_num.proofs.Lists.{get_set, get_set_other}

kinds-set : (ws : List (Word Path)) (n : ℕ) (w : Word Path) → slice_get (word_kinds ws) n ≡ Some (words.kind_of w)
    → word_kinds (slice_set ws n w) ≡ word_kinds ws
kinds-set [] n w e = refl
kinds-set (u ∷ ws) zero w e = let f : words.kind_of u ≡ words.kind_of w = cc in λ i. sym f i ∷ word_kinds ws
kinds-set (u ∷ ws) (suc n) w e = ap (λ ks. words.kind_of u ∷ ks) (kinds-set ws n w e)

kinds-get : (ws : List (Word Path)) (n : ℕ) (t : ValueKind) → slice_get (word_kinds ws) n ≡ Some t
    → (u : Word Path) × (slice_get ws n ≡ Some u)
kinds-get [] n t e = absurd (let z : None ≡ Some t = e in cc)
kinds-get (u ∷ ws) zero t e = (u, refl)
kinds-get (u ∷ ws) (suc n) t e = kinds-get ws n t e

-- the word of a local of a kind is of that kind
pub kind-there : (ws : List (Word Path)) (n : ℕ) (t : ValueKind) (u : Word Path) → slice_get (word_kinds ws) n ≡ Some t
    → slice_get ws n ≡ Some u → words.kind_of u ≡ t
kind-there [] n t u e h = absurd (let z : None ≡ Some u = h in cc)
kind-there (w ∷ ws) zero t u e h =
    let p : w ≡ u = cc in let q : words.kind_of w ≡ t = cc in ap words.kind_of (sym p) ∙ q
kind-there (w ∷ ws) (suc n) t u e h = kind-there ws n t u e h

-- ---- locals

-- fewer names in scope
pub locals_within : (ks : List ValueKind) (inner outer : Scope) (waits : Option Name) (values : Table Value)
    (ws : List (Word Path))
    → IsWithin inner outer → AreLocals ks outer waits values ws → AreLocals ks inner waits values ws
locals_within ks inner outer waits values ws inside are =
    record { kinds = are.kinds; same = λ name n d h. are.same name n d (inside name n h) }

-- a name that has a value may also wait for one
pub locals_wait : (ks : List ValueKind) (scope : Scope) (waits : Option Name) (values : Table Value)
    (ws : List (Word Path))
    → AreLocals ks scope None values ws → AreLocals ks scope waits values ws
locals_wait ks scope waits values ws are =
    record { kinds = are.kinds; same = λ name n d h. are.same name n (λ e. cc) h }

-- a `let` puts its name in scope, which waits for its value
pub locals_let : (ks : List ValueKind) (scope : Scope) (w : Name) (m : ℕ) (values : Table Value) (ws : List (Word Path))
    → AreLocals ks scope None values ws → AreLocals ks (added scope w m) (Some w) values ws
locals_let ks scope w m values ws are = record { kinds = are.kinds; same = go }
  where
    go : (name : Name) (n : ℕ) → Some w ≢ Some name → find name (added scope w m) ≡ Some n
        → IsSame (find name values) (slice_get ws n)
    go name n d h = by (same name w) refl (sym (find-added name w m scope) ∙ h)
      where
        by : (c : Bool) → same name w ≡ c → or_else (find name scope) (cond c (Some m) None) ≡ Some n
            → IsSame (find name values) (slice_get ws n)
        by true e q = absurd (d (ap Some (sym (same_equal name w e))))
        by false e q = are.same name n (λ z. cc) (sym (or_else-none (find name scope)) ∙ q)

-- the name that waited has its value
pub locals_set :
    (ks : List ValueKind) (scope : Scope) (w : Name) (m : ℕ) (x : Value) (values : Table Value) (ws : List (Word Path))
    → AreLocals ks scope (Some w) values ws → find w scope ≡ Some m → slice_get ks m ≡ Some (kind_of x)
    → ((name other : Name) (n : ℕ) → find name scope ≡ Some n → find other scope ≡ Some n → name ≡ other)
    → AreLocals ks scope None (with_local values w x) (slice_set ws m (word x))
locals_set ks scope w m x values ws are found kind apart =
    record {
      kinds = kinds-set ws m (word x) (ap (λ q. slice_get q m) are.kinds ∙ kind ∙ ap Some (sym (word_kind x)))
          ∙ are.kinds;
      same = go;
    }
  where
    there : (u' : Word Path) × (slice_get ws m ≡ Some u')
    there = kinds-get ws m (kind_of x) (ap (λ q. slice_get q m) are.kinds ∙ kind)

    go : (name : Name) (n : ℕ) → None ≢ Some name → find name scope ≡ Some n
        → IsSame (find name (with_local values w x)) (slice_get (slice_set ws m (word x)) n)
    go name n d h =
        subst (λ o. IsSame o (slice_get (slice_set ws m (word x)) n)) (sym (find-with_local values w x name))
        (by (same name w) refl)
      where
        by : (c : Bool) → same name w ≡ c
            → IsSame (cond c (Some x) (find name values)) (slice_get (slice_set ws m (word x)) n)
        by true e =
            let mn : m ≡ n =
            (let q : Some m ≡ Some n = sym found ∙ ap (λ z. find z scope) (sym (same_equal name w e)) ∙ h in cc) in
            ap (slice_get (slice_set ws m (word x))) (sym mn)
            ∙ get_set ws m (word x) (slice_get_within ws m there.0 there.1)
        by false e =
            let ne : n ≢ m = λ q. other_text name w (sym e) (apart name w m (h ∙ ap Some q) found) in
            subst (IsSame (find name values)) (sym (get_set_other ws n m (word x) ne))
            (are.same name n (λ q. other_text name w (sym e) (let z : w ≡ name = cc in sym z)) h)

-- where the name that waits is not in scope, all locals have their values
pub locals_shared : (ks : List ValueKind) (scope : Scope) (w : Name) (values : Table Value) (ws : List (Word Path))
    → find w scope ≡ None → AreLocals ks scope (Some w) values ws → AreLocals ks scope None values ws
locals_shared ks scope w values ws none are = record {
  kinds = are.kinds;
  same = λ name n d h.
      are.same name n
      (λ e. let z : w ≡ name = cc in let q : None ≡ Some n = sym none ∙ ap (λ y. find y scope) z ∙ h in cc) h;
}

-- ---- locations

pub seen_word : (m : source.Location) → code.seen (location_word m) ≡ word (source.view m)
seen_word m = by m.written
  where
    by : (w : Option Value)
        → elim (written_word w) [ None ↦ word m.base | Some u ↦ u ] ≡ word (elim w [ None ↦ m.base | Some x ↦ x ])
    by None = refl
    by (Some x) = refl

-- a location that the kinds know
pub seen_there : (ts : List ValueKind) (ms : List source.Location) (n : ℕ) (t : ValueKind) → LocationsAre ts ms
    → IsAt ts n t → seen_at (map location_word ms) n ≡ Some (word (view_at ms n))
seen_there [] ms n t are at = absurd at
seen_there (u ∷ ts) [] n t are at = absurd are
seen_there (u ∷ ts) (m ∷ ms) zero t are at = ap Some (seen_word m)
seen_there (u ∷ ts) (m ∷ ms) (suc n) t are at = seen_there ts ms n t are.1 at

pub written_there : (ms : List source.Location) (n : ℕ) (x : Value)
    → written_at (map location_word ms) n (word x) ≡ map location_word (write_at ms n x)
written_there [] n x = refl
written_there (m ∷ ms) zero x = refl
written_there (m ∷ ms) (suc n) x = ap (λ z. location_word m ∷ z) (written_there ms n x)

-- the snapshot of a child
pub view_fresh : (ms : List source.Location)
    → events.view (map location_word ms) ≡ map location_word (source.fresh (map source.view ms))
view_fresh [] = refl
view_fresh (m ∷ ms) =
    let a = seen_word m in let z = view_fresh ms in λ i. record { snapshot = a i; written = None } ∷ z i
