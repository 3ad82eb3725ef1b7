-- Compositions on words stand for those on words of kinds.
use Rattle.std.proofs.Common.{◌≡◌, ℕ, [], ◌∷◌, sym, subst}
use Rattle.std.specs.Prelude.{Result, Ok, Err}
use Rattle.rev_num.specs.declared.value.NumFault.{NumFault}
use Rattle.rev_code.specs.Words.{Word}
use Rattle.block_run.specs.Agreement.{IsWord}
use Rattle.version_map.specs.Composing.{Composition, before_later, and_later, composed}
use Rattle.code_machine.specs.Joining.{merges}
use Rattle.fun_run.specs.Merging.{IsMerged, IsComposedAs, ComposesAlike}

before : (x : Word ℕ) (w : ℕ) → IsWord x w → (c : Composition (Word ℕ)) (d : Composition ℕ) → IsComposedAs c d
    → IsComposedAs (before_later x c) (before_later w d)
before x w h (Ok xs) (Ok ws) k = (h, k)
before x w h (Ok xs) (Err f) k = k
before x w h (Err e) (Ok ws) k = k
before x w h (Err e) (Err f) k = k

one : (l m : ℕ) → m ≡ l → (r : Result (Word ℕ) NumFault) (s : Result ℕ NumFault) → IsMerged r s
    → (c : Composition (Word ℕ)) (d : Composition ℕ) → IsComposedAs c d
    → IsComposedAs (and_later l r c) (and_later m s d)
one l m e (Ok x) (Ok w) h c d k = before x w h c d k
one l m e (Ok x) (Err f) h c d k = absurd h
one l m e (Err e') (Ok w) h c d k = absurd h
one l m e (Err e') (Err f) h c d k = λ j. (sym e j, h j)

pub composes_alike : ComposesAlike
composes_alike g words are [] [] [] [] h = tt
composes_alike g words are (e ∷ es) (x ∷ xs) (f ∷ fs) (u ∷ us) h =
    let i = h.0 in
    let m = are e.location i.kind i.there x e.value e.root u f.value f.root i.main i.value i.root in
    one e.location f.location i.location (merges g e.location x e.value e.root) (words f.location u f.value f.root)
    (subst (λ l. IsMerged (merges g e.location x e.value e.root) (words l u f.value f.root)) (sym i.location) m)
    (composed (merges g) xs es) (composed words us fs) (composes_alike g words are es xs fs us h.1)
composes_alike g words are [] [] [] (u ∷ us) h = absurd h
composes_alike g words are [] [] (f ∷ fs) us h = absurd h
composes_alike g words are [] (x ∷ xs) fs us h = absurd h
composes_alike g words are (e ∷ es) [] fs us h = absurd h
composes_alike g words are (e ∷ es) (x ∷ xs) [] us h = absurd h
composes_alike g words are (e ∷ es) (x ∷ xs) (f ∷ fs) [] h = absurd h
