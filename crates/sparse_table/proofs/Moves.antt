-- One step on a word, under the invariant. Assumes `Logic`.
use Rattle.std.proofs.Common.{◌≡◌, ℕ, zero, suc, ◌+◌, ◌*◌, ◌<◌, ◌≤◌, List, [], ◌∷◌, ◌++◌, length, get_or, set}
use Rattle.std.proofs.Common.{sym, refl, ap, ◌∙◌, arith, length-set, get_or-set_other}
use Rattle.std.specs.Prelude.{replicate}
use mathlib.Core.Option as maybe
use lib.ListN.{get_elem?}
use seplogic.Ra.Ura.{Ura}
use base.Stored.{Coded}
use base.Logic.{SProp, ent, sep, ex, all, guard, guard_i, upd, emp, apply∗, all_e, upd_i}
use base.Fml.{Lft, Share, Fml, ftrue, fsep, fex, fbor, finv, flft}
use types.Logic.{Logic, sem}
use types.Kit.{‵, raw, ◌⊛◌, some, given, ◌$◌, ◌∵◌, !, qed, by, move, keep, drop, use0, split, join, fsplit}
use types.Kit.{fsplit3, fjoin, fjoin3, fpick, fpack, pick, learn, show, check, frame, each, assume, suffices}
use types.Kit.{settle, done, use1, use2, use3, rewrite}
use contract.Monad.{fact as known, fact_i, fact_use}
use denote.RawPtr.{Ptr, block_ptr, block_of, count_of}
use denote.Steps.{nothing}
use Rattle.core.specs.Sync.RawAtomic.{asks, always}
use Rattle.core.proofs.raw_atomic.Asked.{borrowed, Lies, Again}
use Rattle.atomic_table.specs.Seated.{word, fact, roster}
use Rattle.atomic_table.proofs.Roster.{Moved, moves, Joined, joins, apart}
use Rattle.sparse_table.specs.Words.{State, blank, away, laid, stepped, Allows, Takes, Lays, Splits, Joins}
use Rattle.sparse_table.specs.Owned.{spot, row, Sized, WordsId, age, mine, standing, inner, common}
use Rattle.sparse_table.proofs.Rows.{Reset, row_at, number_out, number_in, takes, lays}

pub set_same : (ns : List ℕ) (i : ℕ) → set ns i (get_or ns i 0) ≡ ns
set_same [] i = refl
set_same (n ∷ ns) zero = refl
set_same (n ∷ ns) (suc i) = λ j. n ∷ set_same ns i j

laid_long : (xs ns : List ℕ) (i : ℕ) → length (laid ns i xs) ≡ length ns
laid_long [] ns i = refl
laid_long (x ∷ xs) ns i = laid_long xs (set ns i x) (i + 1) ∙ length-set ns i x

module _ {M : Type 1} {𝓤 : Ura M} (𝓛 : Logic 𝓤) {V : Type 0} (cv : Coded V) (holds : State V → Type 0) (p : Ptr)
    (z : WordsId) where
  open 𝓛 use {H, A}

  abbrev Pr : Type 2
  Pr = SProp 𝓤

  abbrev ◌⊢◌ : Pr → Pr → Type 1
  P ⊢ Q = ent 𝓤 P Q

  abbrev ◌∗◌ : Pr → Pr → Pr
  P ∗ Q = sep 𝓤 P Q

  abbrev ⟦◌⟧ : Fml → Pr
  ⟦ P ⟧ = sem 𝓛 P

  infix 26 ◌⊢◌
  infixr 35 ◌∗◌
  abbrev κ : Lft
  κ = age z

  abbrev C : Fml
  C = common cv.code holds p z

  abbrev γ : ℕ
  γ = z.views_name

  abbrev sat : ℕ → V → Fml
  sat = mine cv.code z

  abbrev all_views : State V → Fml
  all_views s = roster cv.code γ 0 s.views

  pub common_twice : ⟦ C ⟧ ⊢ ⟦ C ⟧ ∗ ⟦ C ⟧
  common_twice = let I : Fml = finv (fbor κ (inner cv.code holds p z)) in qed 𝓛 (‵ C ∷ []) ∵ fsplit ! $ fpick !
      (λ at. drop ! $ use1 𝓛 (‵ I ⊛ ‵ I) (𝓛.invs.inv_dup (fbor κ (inner cv.code holds p z))) $ split ! $
      nothing ! $ fpack ! (Sized p z.words) (λ _. ftrue) at $ fjoin ! $ frame ! $ nothing ! $ fpack !
      (Sized p z.words) (λ _. ftrue) at $ done !)

  pub placed : ⟦ C ⟧ ⊢ known 𝓤 (Sized p z.words)
  placed = qed 𝓛 (‵ C ∷ []) ∵ fsplit ! $ keep ! (0 ∷ []) $ done !

  module _ (q : Share) where
    abbrev b : ℕ
    b = block_of p

    abbrev o : ℕ
    o = count_of p

    abbrev I : Fml
    I = inner cv.code holds p z

    abbrev pub Fits : State V → Type 0
    Fits s = holds s × (length s.words ≡ z.words)

    -- the words and views of a state that meets the rule, and what the step leaves
    abbrev pub Next : Fml → State V → Pr
    Next out t = guard 𝓤 (Fits t) (⟦ row b o t.words ⟧ ∗ ⟦ all_views t ⟧ ∗ ⟦ out ⟧)

    -- the word i, which is a number, becomes f of what it was, where the rest can follow
    pub opened : (i : ℕ) (f : ℕ → ℕ) (after : ℕ → Fml) (K : Fml) → i < z.words
        → ((s : State V) → Fits s → ⟦ all_views s ⟧ ∗ ⟦ K ⟧ ⊢ guard 𝓤 (get_or s.words i 0 < blank)
        (⟦ all_views s ⟧ ∗ ⟦ K ⟧))
        → ((s : State V) → Fits s → get_or s.words i 0 < blank → ⟦ row b o (set s.words i (f (get_or s.words i 0))) ⟧
        ∗ ⟦ all_views s ⟧ ∗ ⟦ K ⟧ ⊢ upd 𝓤 (ex 𝓤 (Next (after (get_or s.words i 0)))))
        → ((n : ℕ) → n < blank → f n < blank)
        → ⟦ C ⟧ ∗ A.lft κ q ∗ ⟦ K ⟧ ⊢ asks 𝓛 (block_ptr b (i * 8 + o)) f always (λ n. fsep (flft κ q) (after n))
    opened i f after K inside lives law small =
        let e : ℕ = i * 8 + o in let X = ‵ K in let G : Pr = ex 𝓤 (Lies 𝓛 κ q I b e f always after) in
        qed 𝓛 (‵ C ∷ ‵ (flft κ q) ∷ ‵ K ∷ []) ∵ fsplit ! $ drop ! $
        by ! (borrowed 𝓛 κ q I b e f always after (types.Kit.mean 𝓛 X) (qed 𝓛 (‵ I ∷ X ∷ []) ∵ suffices ! _
        (upd_i 𝓤 G) $ fpick ! (λ s. fsplit3 ! $ move ! (2 ∷ []) $ fpick ! (λ so. drop ! $
        let ns : List ℕ = s.words in let n : ℕ = get_or ns i 0 in let long : length ns ≡ z.words = so.1 in
        let Z : Pr = ⟦ I ⟧ ∗ ⟦ after n ⟧ in
        move ! (1 ∷ 2 ∷ []) $ use2 𝓛 (given (n < blank) (‵ (all_views s) ⊛ ‵ K)) (lives s so) $ learn !
        (λ live. split ! $ move ! (2 ∷ []) $
        use1 𝓛 (‵ (spot b e n) ⊛ raw (all 𝓤 (Reset 𝓛 b o e ns i))) (row_at 𝓛 b o e ns i (omega arith) refl) $ split ! $
        use1 𝓛 (‵ (word b e n)) (number_out 𝓛 b e n live) $
        show ! (Lies 𝓛 κ q I b e f always after) n $ frame ! $ each ! (λ (_ : Unit {0}). Again 𝓛 κ q I b e f always
        after n) (λ _.
        use1 𝓛 (raw (Reset 𝓛 b o e ns i (f n))) (all_e 𝓤 (Reset 𝓛 b o e ns i) (f n)) $ assume ! (‵ (word b e (f n)))
        $ use1 𝓛 (‵ (spot b e (f n))) (number_in 𝓛 b e (f n) (small n live)) $
        use2 𝓛 (‵ (row b o (set ns i (f n)))) (apply∗ 𝓤 ⟦ spot b e (f n) ⟧ ⟦ row b o (set ns i (f n)) ⟧) $
        use3 𝓛 (raw (upd 𝓤 (ex 𝓤 (Next (after n))))) (law s so live) $
        settle 𝓛 Z (some (λ (t : State V). given (Fits t) (‵ (row b o t.words) ⊛ ‵ (all_views t) ⊛ ‵ (after n)))) $
        pick ! (λ t. learn ! (λ good. types.Kit.split3 ! $
        nothing ! $ fpack ! (Fits t) (λ _. ftrue) good $
        move ! (1 ∷ 2 ∷ 0 ∷ []) $ fjoin3 ! $ fpack ! (State V) (standing cv.code holds p z) t $ suffices ! _
        (upd_i 𝓤 Z) $ done !))))))))

    -- the seat's view is the roster's
    at_view : (s : State V) (id : ℕ) (v : V) (φ : Type 0) → (get_elem? s.views id ≡ maybe.some v → φ)
        → ⟦ all_views s ⟧ ∗ ⟦ sat id v ⟧ ⊢ known 𝓤 φ
    at_view s id v φ so = qed 𝓛 (‵ (all_views s) ∷ ‵ (sat id v) ∷ []) ∵
        use2 𝓛 (given (get_elem? s.views id ≡ maybe.some v) (raw (all 𝓤 (Moved 𝓛 cv γ 0 s.views id id))))
        (moves 𝓛 cv γ s.views 0 id id v (omega arith)) $ learn ! (λ at.
        drop ! $ use0 𝓛 (raw (known 𝓤 φ)) (fact_i 𝓤 φ (emp 𝓤) (so at)) $ done !)

    seen_live : (i : ℕ) (s : State V) (id : ℕ) (v : V) → (get_elem? s.views id ≡ maybe.some v → get_or s.words i 0 <
        blank)
        → ⟦ all_views s ⟧ ∗ ⟦ sat id v ⟧ ⊢ guard 𝓤 (get_or s.words i 0 < blank) (⟦ all_views s ⟧ ∗ ⟦ sat id v ⟧)
    seen_live i s id v so = let φ : Type 0 = get_or s.words i 0 < blank in fact_use 𝓤 φ (at_view s id v φ so)
        (guard_i 𝓤 φ (⟦ all_views s ⟧ ∗ ⟦ sat id v ⟧))

    module _ (id : ℕ) (v : V) (i : ℕ) (f : ℕ → ℕ) (then : ℕ → V → Type 0) where
      abbrev pub next : ℕ → V → Fml
      next n u = fsep (fact (then n u)) (sat id u)

      abbrev pub after : ℕ → Fml
      after n = fex V (next n)

      pub steps : i < z.words → Allows holds id v i f then → ((n : ℕ) → n < blank → f n < blank)
          → ⟦ C ⟧ ∗ A.lft κ q ∗ ⟦ sat id v ⟧ ⊢ asks 𝓛 (block_ptr b (i * 8 + o)) f always (λ n. fsep (flft κ q)
          (after n))
      steps inside law small = opened i f after (sat id v) inside (λ s so. seen_live i s id v
          (λ at. (law s so.0 at).0)) (λ s so live.
          let n : ℕ = get_or s.words i 0 in let Z : Pr = ex 𝓤 (Next (after n)) in
          qed 𝓛 (‵ (row b o (set s.words i (f n))) ∷ ‵ (all_views s) ∷ ‵ (sat id v) ∷ []) ∵ move ! (1 ∷ 2 ∷ []) $
          use2 𝓛 (given (get_elem? s.views id ≡ maybe.some v) (raw (all 𝓤 (Moved 𝓛 cv γ 0 s.views id id))))
          (moves 𝓛 cv γ s.views 0 id id v (omega arith)) $ learn ! (λ at.
          let r = law s so.0 at in let u : V = r.1 in let t : State V = stepped s i (f n) id u in
          use1 𝓛 (raw (Moved 𝓛 cv γ 0 s.views id id u)) (all_e 𝓤 (Moved 𝓛 cv γ 0 s.views id id) u) $ settle 𝓛 Z
          (‵ (all_views t) ⊛ ‵ (sat id u)) $ split ! $
          suffices ! _ (upd_i 𝓤 Z) $ show ! (Next (after n)) t $ check ! (r.2, length-set s.words i (f n) ∙ so.1) $
          move ! (2 ∷ 0 ∷ []) $ frame ! $ frame ! $ show ! (λ (x : V). ⟦ next n x ⟧) u $
          nothing ! $ fpack ! (then n u) (λ _. ftrue) r.3 $ done !)) small

    module _ (id : ℕ) (v l r : V) where
      abbrev pub two : ℕ → Fml
      two j = fsep (sat id l) (sat j r)

      pub forks : 0 < z.words → Splits holds id v l r → ⟦ C ⟧ ∗ A.lft κ q ∗ ⟦ sat id v ⟧ ⊢ asks 𝓛
          (block_ptr b (0 * 8 + o)) (λ n. n) always (λ n. fsep (flft κ q) (fex ℕ two))
      forks inside law = opened 0 (λ n. n) (λ _. fex ℕ two) (sat id v) inside (λ s so. seen_live 0 s id v
          (λ at. (law s so.0 at).0)) (λ s so live.
          let Z : Pr = ex 𝓤 (Next (fex ℕ two)) in let vs : List V = set s.views id l in
          let t : State V = record { words = s.words; views = vs ++ r ∷ [] } in
          qed 𝓛 (‵ (row b o (set s.words 0 (get_or s.words 0 0))) ∷ ‵ (all_views s) ∷ ‵ (sat id v) ∷ []) ∵ rewrite !
          0 (λ (ns : List ℕ). ‵ (row b o ns)) (set_same s.words 0) refl $ move ! (1 ∷ 2 ∷ []) $
          use2 𝓛 (given (get_elem? s.views id ≡ maybe.some v) (raw (all 𝓤 (Moved 𝓛 cv γ 0 s.views id id))))
          (moves 𝓛 cv γ s.views 0 id id v (omega arith)) $ learn ! (λ at.
          use1 𝓛 (raw (Moved 𝓛 cv γ 0 s.views id id l)) (all_e 𝓤 (Moved 𝓛 cv γ 0 s.views id id) l) $ settle 𝓛 Z
          (‵ (roster cv.code γ 0 vs) ⊛ ‵ (sat id l)) $ split ! $
          use1 𝓛 (raw (upd 𝓤 (ex 𝓤 (Joined 𝓛 cv γ 0 vs r)))) (joins 𝓛 cv γ vs 0 r) $ settle 𝓛 Z
          (some (λ (j : ℕ). ‵ (roster cv.code γ 0 (vs ++ r ∷ [])) ⊛ ‵ (sat j r))) $ pick ! (λ j. split ! $
          suffices ! _ (upd_i 𝓤 Z) $ show ! (Next (fex ℕ two)) t $ check ! ((law s so.0 at).1, so.1) $ move !
          (3 ∷ 0 ∷ []) $ frame ! $ frame ! $ show ! (λ (x : ℕ). ⟦ two x ⟧) j $ move ! (1 ∷ 0 ∷ []) $ done !)))
          (λ n l. l)

    module _ (id : ℕ) (v : V) (other : ℕ) (it both spent : V) where
      abbrev pub merged : Fml
      merged = fsep (sat id both) (sat other spent)

      abbrev pair : Fml
      pair = fsep (sat id v) (sat other it)

      pub absorbs : 0 < z.words → Joins holds id v other it both spent
          → ⟦ C ⟧ ∗ A.lft κ q ∗ ⟦ pair ⟧ ⊢ asks 𝓛 (block_ptr b (0 * 8 + o)) (λ n. n) always
          (λ n. fsep (flft κ q) merged)
      absorbs inside law = opened 0 (λ n. n) (λ _. merged) pair inside
          (λ s so. let φ : Type 0 = get_or s.words 0 0 < blank in let P : Pr = ⟦ all_views s ⟧ ∗ ⟦ pair ⟧ in
          fact_use 𝓤 φ (
          qed 𝓛 (‵ (all_views s) ∷ ‵ pair ∷ []) ∵ move ! (1 ∷ []) $ fsplit ! $ move ! (2 ∷ 0 ∷ []) $
          use2 𝓛 (raw (known 𝓤 φ)) (at_view s id v φ (λ at. law.0 s so.0 at)) $ keep ! (0 ∷ []) $ done !)
          (guard_i 𝓤 φ P)) (λ s so few.
          let Z : Pr = ex 𝓤 (Next merged) in let vs : List V = set s.views id both in
          let t : State V = record { words = s.words; views = set vs other spent } in
          qed 𝓛 (‵ (row b o (set s.words 0 (get_or s.words 0 0))) ∷ ‵ (all_views s) ∷ ‵ pair ∷ []) ∵ rewrite ! 0
          (λ (ns : List ℕ). ‵ (row b o ns)) (set_same s.words 0) refl $ move ! (2 ∷ []) $ fsplit ! $
          use2 𝓛 (given (¬ (other ≡ id)) (‵ (sat id v) ⊛ ‵ (sat other it))) (apart 𝓛 cv γ id other v it) $ learn !
          (λ ne. split ! $ move ! (3 ∷ 0 ∷ []) $
          use2 𝓛 (given (get_elem? s.views id ≡ maybe.some v) (raw (all 𝓤 (Moved 𝓛 cv γ 0 s.views id id))))
          (moves 𝓛 cv γ s.views 0 id id v (omega arith)) $ learn ! (λ at.
          use1 𝓛 (raw (Moved 𝓛 cv γ 0 s.views id id both)) (all_e 𝓤 (Moved 𝓛 cv γ 0 s.views id id) both) $ settle 𝓛 Z
          (‵ (roster cv.code γ 0 vs) ⊛ ‵ (sat id both)) $ split ! $ move ! (0 ∷ 2 ∷ []) $
          use2 𝓛 (given (get_elem? vs other ≡ maybe.some it) (raw (all 𝓤 (Moved 𝓛 cv γ 0 vs other other))))
          (moves 𝓛 cv γ vs 0 other other it (omega arith)) $ learn ! (λ at'.
          use1 𝓛 (raw (Moved 𝓛 cv γ 0 vs other other spent)) (all_e 𝓤 (Moved 𝓛 cv γ 0 vs other other) spent) $ settle
          𝓛 Z (‵ (all_views t) ⊛ ‵ (sat other spent)) $ split ! $
          suffices ! _ (upd_i 𝓤 Z) $ show ! (Next merged) t $ check ! (law.1 s so.0 at ne at', so.1) $ move !
          (3 ∷ 0 ∷ 2 ∷ 1 ∷ []) $ done !)))) (λ n l. l)

    module _ (id : ℕ) (v : V) (i n from : ℕ) (then : V → Type 0) where
      abbrev told : V → Fml
      told u = fsep (fact (then u)) (sat id u)

      abbrev pub became : Fml
      became = fex V told

      abbrev pub at_from : ℕ
      at_from = from * 8 + o

      -- the seat, and the blank words that left
      abbrev pub taken : ℕ → Fml
      taken count = fsep became (row b at_from (replicate count blank))

      pub takes_off : (count : ℕ) → i < z.words → from + count ≤ z.words → n < blank → Takes holds id v i n from
          count then
          → ⟦ C ⟧ ∗ A.lft κ q ∗ ⟦ sat id v ⟧ ⊢ asks 𝓛 (block_ptr b (i * 8 + o)) (λ _. n) always (λ _. fsep (flft κ q)
          (taken count))
      takes_off count inside room small law = opened i (λ _. n) (λ _. taken count) (sat id v) inside
          (λ s so. seen_live i s id v (λ at. (law s so.0 at).0)) (λ s so live.
          let Z : Pr = ex 𝓤 (Next (taken count)) in let ns : List ℕ = set s.words i n in
          let ms : List ℕ = laid ns from (replicate count away) in
          qed 𝓛 (‵ (row b o ns) ∷ ‵ (all_views s) ∷ ‵ (sat id v) ∷ []) ∵ move ! (1 ∷ 2 ∷ []) $
          use2 𝓛 (given (get_elem? s.views id ≡ maybe.some v) (raw (all 𝓤 (Moved 𝓛 cv γ 0 s.views id id))))
          (moves 𝓛 cv γ s.views 0 id id v (omega arith)) $ learn ! (λ at.
          let r = law s so.0 at in let u : V = r.2 in let t : State V = record {
            words = ms;
            views = set s.views id
                u;
          } in let long : length ns ≡ length s.words = length-set s.words i n in let all : length s.words ≡
          z.words = so.1 in
          let are : (k : ℕ) → k < count → get_or ns (from + k) 0 ≡ blank = λ k low. get_or-set_other s.words i
          (from + k) n 0 (λ e. let hit : get_or s.words i 0 ≡ blank = ap (λ (x : ℕ). get_or s.words x 0) (sym e)
          ∙ r.1 k low in omega arith) ∙ r.1 k low in
          use1 𝓛 (raw (Moved 𝓛 cv γ 0 s.views id id u)) (all_e 𝓤 (Moved 𝓛 cv γ 0 s.views id id) u) $ settle 𝓛 Z
          (‵ (all_views t) ⊛ ‵ (sat id u)) $ split ! $ move ! (2 ∷ []) $
          use1 𝓛 (‵ (row b at_from (replicate count blank)) ⊛ ‵ (row b o ms)) (takes 𝓛 b o at_from count ns from
          (omega arith) refl are) $ split ! $
          suffices ! _ (upd_i 𝓤 Z) $ show ! (Next (taken count)) t $ check ! (
            r.3,
            laid_long (replicate count away)
                ns from ∙ (long ∙ all),
          ) $ move ! (1 ∷ 2 ∷ 3 ∷ 0 ∷ []) $ frame ! $ frame ! $
          nothing ! $ fpack ! (then u) (λ _. ftrue) r.4 $ fjoin ! $ fpack ! V told u $ done !)) (λ m l. small)

      pub lays_on : (xs : List ℕ) → i < z.words → from + length xs ≤ z.words → n < blank → Lays holds id v i n from
          xs then
          → ⟦ C ⟧ ∗ A.lft κ q ∗ ⟦ fsep (sat id v) (row b at_from xs) ⟧ ⊢ asks 𝓛 (block_ptr b (i * 8 + o))
          (λ _. n) always (λ _. fsep (flft κ q) became)
      lays_on xs inside room small law = let K : Fml = fsep (sat id v) (row b at_from xs) in opened i (λ _. n)
          (λ _. became) K inside
          (λ s so. let φ : Type 0 = get_or s.words i 0 < blank in let P : Pr = ⟦ all_views s ⟧ ∗ ⟦ K ⟧ in fact_use 𝓤 φ (
          qed 𝓛 (‵ (all_views s) ∷ ‵ K ∷ []) ∵ move ! (1 ∷ []) $ fsplit ! $ move ! (2 ∷ 0 ∷ []) $
          use2 𝓛 (raw (known 𝓤 φ)) (at_view s id v φ (λ at. (law s so.0 at).0)) $ keep ! (0 ∷ []) $ done !)
          (guard_i 𝓤 φ P)) (λ s so live.
          let Z : Pr = ex 𝓤 (Next became) in let ns : List ℕ = set s.words i n in let ms : List ℕ = laid ns from xs in
          qed 𝓛 (‵ (row b o ns) ∷ ‵ (all_views s) ∷ ‵ K ∷ []) ∵ move ! (2 ∷ []) $ fsplit ! $ move ! (3 ∷ 0 ∷ []) $
          use2 𝓛 (given (get_elem? s.views id ≡ maybe.some v) (raw (all 𝓤 (Moved 𝓛 cv γ 0 s.views id id))))
          (moves 𝓛 cv γ s.views 0 id id v (omega arith)) $ learn ! (λ at.
          let r = law s so.0 at in let u : V = r.1 in let t : State V = record {
            words = ms;
            views = set s.views id
                u;
          } in let long : length ns ≡ length s.words = length-set s.words i n in let all : length s.words ≡
          z.words = so.1 in
          use1 𝓛 (raw (Moved 𝓛 cv γ 0 s.views id id u)) (all_e 𝓤 (Moved 𝓛 cv γ 0 s.views id id) u) $ settle 𝓛 Z
          (‵ (all_views t) ⊛ ‵ (sat id u)) $ split ! $ move ! (3 ∷ 2 ∷ []) $
          use2 𝓛 (‵ (row b o ms)) (lays 𝓛 b o at_from xs ns from (omega arith) refl) $
          suffices ! _ (upd_i 𝓤 Z) $ show ! (Next became) t $ check ! (r.2, laid_long xs ns from ∙ (long ∙ all)) $
          move ! (0 ∷ 1 ∷ 2 ∷ []) $ frame ! $ frame ! $
          nothing ! $ fpack ! (then u) (λ _. ftrue) r.3 $ fjoin ! $ fpack ! V told u $ done !)) (λ m l. small)
