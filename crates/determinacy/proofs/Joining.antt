-- A join depends on the joined revision by its end alone.
use Rattle.std.proofs.Common.{◌≡◌, ◌∙◌, ℕ, suc, List, [], ◌∷◌, Option, Some, None, refl, ap}
use Rattle.rev_num.specs.declared.value.Value.{Value}
use Rattle.rev_syntax.specs.Trees.{ProgramTree}
use Rattle.typed_programs.specs.Layout.{variables}
use Rattle.revision_calculus.specs.State.{Location, Phase, running, joining, done, trapped}
use Rattle.revision_calculus.specs.Join.{merges_of, new_value, overwrite, join_location, Composition, merged, faults, and_later, compose, absorb, join_in, left_side, note}
use Rattle.determinacy.specs.Ends.{SameWrite, AllSame, JoinIsByTheEnd}

-- ---- compose

join_location_same : (p : ProgramTree) (k : Option ℕ) (m j i : Location) → SameWrite j i
    → join_location p k m i i.written ≡ join_location p k m j j.written
join_location_same p k m j i h = go j.written refl
  where
    new_same : (k : Option ℕ) (x : Value) → i.base ≡ j.base → new_value p k m i x ≡ new_value p k m j x
    new_same None x e = refl
    new_same (Some n) x e = ap (λ b. new_value p (Some n) m (record { base = b; written = None }) x) e

    go : (w : Option Value) → j.written ≡ w → join_location p k m i i.written ≡ join_location p k m j w
    go None e = ap (join_location p k m i) (h.written ∙ e)
    go (Some x) e = ap (join_location p k m i) (h.written ∙ e) ∙ ap (λ a. overwrite m a) (new_same k x (h.base x e))

compose_same : (p : ProgramTree) (n : ℕ) (ks : List (Option ℕ)) (ms js is : List Location) → AllSame js is
    → compose p n ks ms is ≡ compose p n ks ms js
compose_same p n [] ms js is h = refl
compose_same p n (k ∷ ks) [] js is h = refl
compose_same p n (k ∷ ks) (m ∷ ms) [] [] h = refl
compose_same p n (k ∷ ks) (m ∷ ms) [] (i ∷ is) h = absurd h
compose_same p n (k ∷ ks) (m ∷ ms) (j ∷ js) [] h = absurd h
compose_same p n (k ∷ ks) (m ∷ ms) (j ∷ js) (i ∷ is) h =
    let one : join_location p k m i i.written ≡ join_location p k m j j.written = join_location_same p k m j i h.0 in
    let rest : compose p (suc n) ks ms is ≡ compose p (suc n) ks ms js = compose_same p (suc n) ks ms js is h.1 in
    λ x. and_later n (one x) (rest x)

-- ---- the join

pub join_same : JoinIsByTheEnd
join_same s r q l j i locations text fuel phase =
    ap (λ p. join_in s r (note q l) (left_side l.phase) i p) phase ∙ go j.phase
  where
    by_compose : (c : Composition)
        → absorb s r (note q l) (left_side l.phase) i c ≡ absorb s r (note q l) (left_side l.phase) j c
    by_compose (faults n f) = refl
    by_compose (merged ms) =
        λ x. absorb s r (note q l) (left_side l.phase) (record j { text = text x; fuel = fuel x }) (merged ms)

    go : (p : Phase) → join_in s r (note q l) (left_side l.phase) i p ≡ join_in s r (note q l) (left_side l.phase) j p
    go done =
        ap (absorb s r (note q l) (left_side l.phase) i)
        (compose_same s.program 0 (merges_of (variables s.program)) l.locations j.locations i.locations locations)
        ∙ by_compose (compose s.program 0 (merges_of (variables s.program)) l.locations j.locations)
    go (trapped t) = refl
    go running = refl
    go (joining p left) = refl
