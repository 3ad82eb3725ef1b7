-- How a span goes under the invariant, and comes back. Assumes `Logic`.
use Rattle.std.proofs.Common.{◌≡◌, ℕ, ◌*◌, ◌^◌, ◌<◌, List, [], ◌∷◌, length, sym, refl, subst, arith}
use mathlib.Core.Option as maybe
use lib.ListN.{get_elem?}
use seplogic.Ra.Ura.{Ura}
use base.Fraction.{full_share}
use base.Share.{quarter, three_quarters}
use base.Stored.{Coded}
use base.Logic.{SProp, ent, sep, ex, guard}
use base.Fml.{Lft, Fml, ftrue, fbor, flent, flft, finv}
use types.Logic.{Logic, sem}
use types.Kit.{‵, raw, ◌⊛◌, some, given, later, ◌$◌, ◌∵◌, !, qed, by, move, keep, drop, split, split3, fsplit}
use types.Kit.{fsplit3, fjoin, fjoin3, fpick, fpack, pick, learn, show, check, use0, use1, use2, updating}
use types.Kit.{await, now, done}
use types.Tokens.{lft_new, lft_end, bor_new, lent_back}
use types.Keyed.{entries_new, entries_take}
use types.Owned.{basic}
use denote.RawPtr.{Ptr, InBlock}
use denote.Steps.{nothing}
use Rattle.atomic_table.specs.Seated.{halved, seen, unused, roster}
use Rattle.atomic_table.proofs.Roster.{resets, Moved, moves}
use Rattle.sparse_table.specs.Words.{State, opening, Final, Seen}
use Rattle.sparse_table.specs.Owned.{row, span, Sized, WordsId, age, mine, standing, inner, common, words_own}

module _ {M : Type 1} {𝓤 : Ura M} (𝓛 : Logic 𝓤) where
  open 𝓛 use {H, A}

  abbrev Pr : Type 2
  Pr = SProp 𝓤

  abbrev ◌⊢◌ : Pr → Pr → Type 1
  P ⊢ Q = ent 𝓤 P Q

  abbrev ◌∗◌ : Pr → Pr → Pr
  P ∗ Q = sep 𝓤 P Q

  abbrev ⟦◌⟧ : Fml → Pr
  ⟦ P ⟧ = sem 𝓛 P

  infix 26 ◌⊢◌
  infixr 35 ◌∗◌
  pub span_lies : (p : Ptr) (ns : List ℕ) → ⟦ span p ns ⟧ ⊢ guard 𝓤 (Sized p (length ns)) ⟦ span p ns ⟧
  span_lies p ns = qed 𝓛 (‵ (span p ns) ∷ []) ∵ fsplit ! $ fpick ! (λ f. check ! f $ fpack ! (Sized p (length ns))
      (λ _. ftrue) f $ done !)

  module _ {V : Type 0} (cv : Coded V) (holds : State V → Type 0) (w : Ptr) where
    module _ (ns : List ℕ) (v : V) where
      abbrev pub Dealt : WordsId → Pr
      Dealt z = guard 𝓤 ((z.words ≡ length ns) × InBlock w) (⟦ words_own cv.code holds w z ⟧ ∗ ⟦ mine cv.code z 0 v ⟧)

      pub deals : holds (opening ns v) → ⟦ span w ns ⟧ ⊢ H.⇛ (ex 𝓤 Dealt)
      unfolding Rattle.sparse_table.specs.Owned.seal
      deals good = qed 𝓛 (‵ (span w ns) ∷ []) ∵ updating ! $ fsplit ! $ fpick ! (λ fw. drop ! $ lft_new ! tt
          (λ a. let κ : Lft = a ∷ [] in
          use0 𝓛 (later (some (λ (γ : ℕ). ‵ (unused cv.code γ 0 v)))) (base.Logic.via 𝓤 _ (entries_new halved 𝓛 0
          (λ _. (full_share, cv.code v))) (basic 𝓛 (ex 𝓤 (λ (γ : ℕ). ⟦ unused cv.code γ 0 v ⟧)))) $ await ! tt $
          pick ! (λ γ.
          let z : WordsId = record { words = length ns; views_name = γ; atom = a } in let s₀ : State V = opening ns
          v in let I : Fml = inner cv.code holds w z in
          let L : Fml = seen cv.code γ 0 quarter v in let Mine : Fml = seen cv.code γ 0 three_quarters v in
          use1 𝓛 (‵ (seen cv.code γ 0 full_share v) ⊛ ‵ (unused cv.code γ 1 v)) (entries_take halved 𝓛 γ 0
          (λ _. (full_share, cv.code v))) $ split ! $
          use1 𝓛 (later (‵ L ⊛ ‵ Mine)) (base.Logic.via 𝓤 _ (resets 𝓛 cv γ 0 v v) (basic 𝓛 (⟦ L ⟧ ∗ ⟦ Mine ⟧))) $
          await ! tt $ split ! $ move ! (2 ∷ []) $ fpack ! V (unused cv.code γ 1) v $ move ! (1 ∷ 0 ∷ []) $ fjoin
          ! $
          nothing ! $ fpack ! (holds s₀ × (length ns ≡ length ns)) (λ _. ftrue) (good, refl) $
          move ! (4 ∷ 1 ∷ 0 ∷ []) $ fjoin3 ! $ fpack ! (State V) (standing cv.code holds w z) s₀ $ bor_new ! tt κ $
          use1 𝓛 (later (‵ (finv (fbor κ I)))) (𝓛.invs.inv_new (fbor κ I)) $ await ! tt $ nothing ! $ fpack !
          (Sized w (length ns)) (λ _. ftrue) fw $ fjoin ! $
          move ! (3 ∷ 0 ∷ 1 ∷ []) $ fjoin3 ! $
          now ! $ show ! Dealt z $ check ! (refl, fw.0) $ done !)))

    module _ (z : WordsId) where
      abbrev pub Gathered : (State V → Type 0) → Fml → List ℕ → Pr
      Gathered good K ns = guard 𝓤 ((length ns ≡ z.words) × Final good ns × InBlock w) (⟦ span w ns ⟧ ∗ ⟦ K ⟧)

      pub words_lie : ⟦ words_own cv.code holds w z ⟧ ⊢ guard 𝓤 (InBlock w) ⟦ words_own cv.code holds w z ⟧
      unfolding Rattle.sparse_table.specs.Owned.seal
      words_lie = qed 𝓛 (‵ (flft (age z) full_share) ∷ ‵ (common cv.code holds w z) ∷ ‵
          (flent (age z) (inner cv.code holds w z)) ∷ []) ∵ move ! (1 ∷ []) $ fsplit ! $ fpick ! (λ at.
          check ! at.0 $ fpack ! (Sized w z.words) (λ _. ftrue) at $ fjoin ! $ move ! (1 ∷ 0 ∷ []) $ done !)

      gathers_by : (K : Fml) (good : State V → Type 0) → ((s : State V) → holds s → ⟦ roster cv.code z.views_name 0
          s.views ⟧ ∗ ⟦ K ⟧ ⊢ guard 𝓤 (good s) (H.⇛ ⟦ K ⟧))
          → ⟦ words_own cv.code holds w z ⟧ ∗ ⟦ K ⟧ ⊢ H.⇛ (ex 𝓤 (Gathered good K))
      unfolding Rattle.sparse_table.specs.Owned.seal
      gathers_by K good tells = let κ : Lft = age z in
          qed 𝓛 ((‵ (flft κ full_share) ⊛ ‵ (common cv.code holds w z) ⊛ ‵ (flent κ (inner cv.code holds w z))) ∷ ‵ K
          ∷ []) ∵ updating ! $ split3 ! $ lft_end ! tt $
          move ! (1 ∷ []) $ fsplit ! $ fpick ! (λ at. drop ! $ drop ! $ lent_back ! tt $
          fpick ! (λ s. fsplit3 ! $ move ! (2 ∷ []) $ fpick ! (λ so. drop ! $ move ! (1 ∷ 2 ∷ []) $ use2 𝓛
          (given (good s) (later (‵ K))) (tells s so.0) $ learn ! (λ fine. await ! tt $ move ! (1 ∷ []) $
          nothing ! $ fpack ! (Sized w (length s.words)) (λ _. ftrue) (
            at.0,
            subst (λ (n : ℕ). n * 8 < 2 ^ 63)
                (sym so.1) at.1,
          ) $ fjoin ! $
          now ! $ show ! (Gathered good K) s.words $ check ! (so.1, (s, fine, refl), at.0) $ done !))))

      pub gathers : ⟦ words_own cv.code holds w z ⟧ ⊢ H.⇛ (ex 𝓤 (Gathered holds ftrue))
      gathers = qed 𝓛 (‵ (words_own cv.code holds w z) ∷ []) ∵ nothing ! $ move ! (1 ∷ 0 ∷ []) $ by !
          (gathers_by ftrue holds (λ s h. qed 𝓛 (‵ (roster cv.code z.views_name 0 s.views) ∷ ‵ ftrue ∷ []) ∵ check !
          h $ keep ! (1 ∷ []) $ by ! (𝓛.laws.⇛_intro _)))

      pub gathers_with : (id : ℕ) (v : V) → ⟦ words_own cv.code holds w z ⟧ ∗ ⟦ mine cv.code z id v ⟧ ⊢ H.⇛
          (ex 𝓤 (Gathered (Seen holds id v) (mine cv.code z id v)))
      gathers_with id v = gathers_by (mine cv.code z id v) (Seen holds id v)
          (λ s h. qed 𝓛 (‵ (roster cv.code z.views_name 0 s.views) ∷ ‵ (mine cv.code z id v) ∷ []) ∵
          use2 𝓛 (given (get_elem? s.views id ≡ maybe.some v)
          (raw (base.Logic.all 𝓤 (Moved 𝓛 cv z.views_name 0 s.views id id)))) (moves 𝓛 cv z.views_name s.views 0
          id id v (omega arith)) $ learn ! (λ at.
          check ! (h, at) $ updating ! $ let Again = Moved 𝓛 cv z.views_name 0 s.views id id in
          let Half : Fml = seen cv.code z.views_name id three_quarters v in let All : Fml = roster cv.code
          z.views_name 0 (lib.ListN.set s.views id v) in
          use1 𝓛 (raw (Again v)) (base.Logic.all_e 𝓤 Again v) $ use1 𝓛 (later (‵ All ⊛ ‵ Half))
          (basic 𝓛 (⟦ All ⟧ ∗ ⟦ Half ⟧)) $ await ! tt $ split ! $ drop ! $ now ! $ done !))
