-- A row of spots: one comes out and goes back, blank ones leave, and numbers come. Assumes `Logic`.
use Rattle.std.proofs.Common.{◌≡◌, ℕ, zero, suc, ◌+◌, ◌*◌, ◌<◌, ◌≤◌, Bool, true, List, [], ◌∷◌, length, get_or}
use Rattle.std.proofs.Common.{set, sym, refl, ap, ◌∙◌, subst, arith, length-set, get_or-set_other, w64}
use Rattle.std.specs.Prelude.{replicate, ◌==◌}
use Rattle.std.proofs.lemmas.Bool.{lt-ltb}
use seplogic.Ra.Ura.{Ura}
use mir.Syntax.{ty_int}
use mir.Val.{vint}
use base.Logic.{SProp, ent, sep, wand, ex, all, guard, emp, id⊢, via, apply∗, all_e}
use base.Fml.{Fml, ftrue, froom}
use lib.Dec.{ltb}
use types.Logic.{Logic, sem}
use types.Kit.{‵, raw, ◌⊛◌, ◌$◌, ◌∵◌, !, qed, by, move, keep, drop, split, fsplit, fjoin, frame, each, assume}
use types.Kit.{use0, use1, use2, rewrite, done}
use Rattle.atomic_table.specs.Seated.{word}
use Rattle.sparse_table.specs.Words.{blank, away, laid}
use Rattle.sparse_table.specs.Owned.{spot_of, spot, row, words_ty}

pub is_number : (n : ℕ) → n < blank → ltb n blank ≡ true
is_number n l = lt-ltb n blank l

module _ {M : Type 1} {𝓤 : Ura M} (𝓛 : Logic 𝓤) where
  open 𝓛 use {H}

  abbrev Pr : Type 2
  Pr = SProp 𝓤

  abbrev ◌⊢◌ : Pr → Pr → Type 1
  P ⊢ Q = ent 𝓤 P Q

  abbrev ◌∗◌ : Pr → Pr → Pr
  P ∗ Q = sep 𝓤 P Q

  abbrev ◌-∗◌ : Pr → Pr → Pr
  P -∗ Q = wand 𝓤 P Q

  abbrev ⟦◌⟧ : Fml → Pr
  ⟦ P ⟧ = sem 𝓛 P

  infix 26 ◌⊢◌
  infixr 35 ◌∗◌
  infixr 30 ◌-∗◌
  pub number_out : (b o n : ℕ) → n < blank → ⟦ spot b o n ⟧ ⊢ ⟦ word b o n ⟧
  number_out b o n l = subst (λ (x : Bool). ⟦ spot_of x (n == blank) b o n ⟧ ⊢ ⟦ word b o n ⟧) (sym (is_number n l))
      (id⊢ 𝓤 _)

  pub number_in : (b o n : ℕ) → n < blank → ⟦ word b o n ⟧ ⊢ ⟦ spot b o n ⟧
  number_in b o n l = subst (λ (x : Bool). ⟦ word b o n ⟧ ⊢ ⟦ spot_of x (n == blank) b o n ⟧) (sym (is_number n l))
      (id⊢ 𝓤 _)

  pub blank_out : (b o n : ℕ) → n ≡ blank → ⟦ spot b o n ⟧ ⊢ ⟦ froom (ty_int w64) b o ⟧
  blank_out b o n e = subst (λ (x : ℕ). ⟦ spot b o x ⟧ ⊢ ⟦ froom (ty_int w64) b o ⟧) (sym e) (id⊢ 𝓤 _)

  pub blank_in : (b o : ℕ) → ⟦ froom (ty_int w64) b o ⟧ ⊢ ⟦ spot b o blank ⟧
  blank_in b o = id⊢ 𝓤 _

  abbrev pub Reset : ℕ → ℕ → ℕ → List ℕ → ℕ → ℕ → Pr
  Reset b o p ns i m = ⟦ spot b p m ⟧ -∗ ⟦ row b o (set ns i m) ⟧

  pub row_at : (b o p : ℕ) (ns : List ℕ) (i : ℕ) → i < length ns → p ≡ i * 8 + o → ⟦ row b o ns ⟧ ⊢ ⟦ spot b p
      (get_or ns i 0) ⟧ ∗ all 𝓤 (Reset b o p ns i)
  row_at b o p [] i l e = absurd (omega arith)
  row_at b o p (n ∷ ns) zero l e = let same : o ≡ p = omega arith in subst (λ (x : ℕ). ⟦ row b o (n ∷ ns) ⟧ ⊢ ⟦ spot
      b x n ⟧ ∗ all 𝓤 (Reset b o x (n ∷ ns) zero)) same
      (qed 𝓛 (‵ (spot b o n) ∷ ‵ (row b (o + 8) ns) ∷ []) ∵ frame ! $ each ! (Reset b o o (n ∷ ns) zero)
      (λ m. assume ! (‵ (spot b o m)) $ done !))
  row_at b o p (n ∷ ns) (suc i) l e =
      qed 𝓛 (‵ (spot b o n) ∷ ‵ (row b (o + 8) ns) ∷ []) ∵ move ! (1 ∷ []) $ use1 𝓛 (‵ (spot b p (get_or ns i 0)) ⊛
      raw (all 𝓤 (Reset b (o + 8) p ns i))) (row_at b (o + 8) p ns i (omega arith) (omega arith)) $ split ! $
      frame ! $
      each ! (Reset b o p (n ∷ ns) (suc i)) (λ m. use1 𝓛 (raw (Reset b (o + 8) p ns i m))
      (all_e 𝓤 (Reset b (o + 8) p ns i) m) $ assume ! (‵ (spot b p m)) $
      use2 𝓛 (‵ (row b (o + 8) (set ns i m))) (apply∗ 𝓤 ⟦ spot b p m ⟧ ⟦ row b (o + 8) (set ns i m) ⟧) $ move !
      (1 ∷ 0 ∷ []) $ done !)

  pub put_at : (b o p : ℕ) (ns : List ℕ) (i m : ℕ) → i < length ns → p ≡ i * 8 + o → ⟦ row b o ns ⟧ ∗ ⟦ spot b p m ⟧
      ⊢ ⟦ row b o (set ns i m) ⟧
  put_at b o p ns i m l e = qed 𝓛 (‵ (row b o ns) ∷ ‵ (spot b p m) ∷ []) ∵ use1 𝓛 (‵ (spot b p (get_or ns i 0)) ⊛ raw
      (all 𝓤 (Reset b o p ns i))) (row_at b o p ns i l e) $ split ! $ drop ! $
      use1 𝓛 (raw (Reset b o p ns i m)) (all_e 𝓤 (Reset b o p ns i) m) $ move ! (1 ∷ 0 ∷ []) $ by !
      (apply∗ 𝓤 ⟦ spot b p m ⟧ ⟦ row b o (set ns i m) ⟧)

  -- words that are owned on their own come into a row, to where they lie in it: from its word i on
  pub lays : (b o p : ℕ) (xs ns : List ℕ) (i : ℕ) → i + length xs ≤ length ns → p ≡ i * 8 + o → ⟦ row b o ns ⟧ ∗ ⟦
      row b p xs ⟧ ⊢ ⟦ row b o (laid ns i xs) ⟧
  lays b o p [] ns i l e = base.Logic.fst∗ 𝓤 ⟦ row b o ns ⟧ (emp 𝓤)
  lays b o p (x ∷ xs) ns i l e = let long : length (set ns i x) ≡ length ns = length-set ns i x in
      qed 𝓛 (‵ (row b o ns) ∷ ‵ (row b p (x ∷ xs)) ∷ []) ∵ move ! (1 ∷ []) $ fsplit ! $ move ! (2 ∷ 0 ∷ []) $ use2 𝓛
      (‵ (row b o (set ns i x))) (put_at b o p ns i x (omega arith) e) $
      by ! (lays b o (p + 8) xs (set ns i x) (i + 1) (omega arith) (omega arith))

  -- blank words leave
  pub takes : (b o p : ℕ) (count : ℕ) (ns : List ℕ) (i : ℕ) → i + count ≤ length ns → p ≡ i * 8 + o
      → ((k : ℕ) → k < count → get_or ns (i + k) 0 ≡ blank)
      → ⟦ row b o ns ⟧ ⊢ ⟦ row b p (replicate count blank) ⟧ ∗ ⟦ row b o (laid ns i (replicate count away)) ⟧
  takes b o p zero ns i l e are = base.Logic.emp∗ 𝓤 ⟦ row b o ns ⟧
  takes b o p (suc count) ns i l e are = let ms : List ℕ = set ns i away in let long : length ms ≡ length ns =
      length-set ns i away in
      let first : get_or ns i 0 ≡ blank = ap (λ (x : ℕ). get_or ns x 0) (let r : i ≡ i + 0 = omega arith in r)
      ∙ are 0 (omega arith) in
      let rest : (k : ℕ) → k < count → get_or ms (i + 1 + k) 0 ≡ blank = λ k low. get_or-set_other ns i
      (i + 1 + k) away 0 (λ q. omega arith)
      ∙ (ap (λ (x : ℕ). get_or ns x 0) (let r : i + 1 + k ≡ i + suc k = omega arith in r) ∙ are (suc k)
      (omega arith)) in
      qed 𝓛 (‵ (row b o ns) ∷ []) ∵ use1 𝓛 (‵ (spot b p (get_or ns i 0)) ⊛ raw (all 𝓤 (Reset b o p ns i)))
      (row_at b o p ns i (omega arith) e) $ split ! $ rewrite ! 0 (λ (x : ℕ). ‵ (spot b p x)) first refl $
      move ! (1 ∷ []) $ use1 𝓛 (raw (Reset b o p ns i away)) (all_e 𝓤 (Reset b o p ns i) away) $ use0 𝓛
      (‵ (spot b p away)) (id⊢ 𝓤 (emp 𝓤)) $
      use2 𝓛 (‵ (row b o ms)) (apply∗ 𝓤 ⟦ spot b p away ⟧ ⟦ row b o ms ⟧) $
      use1 𝓛 (‵ (row b (p + 8) (replicate count blank)) ⊛ ‵ (row b o (laid ms (i + 1) (replicate count away))))
      (takes b o (p + 8) count ms (i + 1) (omega arith) (omega arith) rest) $ split ! $
      move ! (2 ∷ 0 ∷ []) $ fjoin ! $ frame ! $ done !

  -- memory that was not written
  pub fresh : (n b o : ℕ) → ⟦ froom (words_ty n) b o ⟧ ⊢ ⟦ row b o (replicate n blank) ⟧
  fresh zero b o = qed 𝓛 (‵ (froom (words_ty 0) b o) ∷ []) ∵ drop ! $ done !
  fresh (suc n) b o = qed 𝓛 (‵ (froom (words_ty (suc n)) b o) ∷ []) ∵
      use1 𝓛 (‵ (froom (ty_int w64) b o) ⊛ ‵ (froom (words_ty n) b (o + 8))) (𝓛.laws.room_uncons (ty_int w64) n b o)
      $ split ! $ frame ! $ by ! (fresh n b (o + 8))

  pub spot_room : (b o n : ℕ) → n ≤ blank → ⟦ spot b o n ⟧ ⊢ ⟦ froom (ty_int w64) b o ⟧
  spot_room b o n l = mathlib.Core.Logic.dite (native.Mathlib.Decide.ℕ_discrete n blank) (blank_out b o n)
      (λ ne. via 𝓤 _ (number_out b o n (omega arith)) (𝓛.laws.at_room (ty_int w64) b o (vint w64 n)))

  pub emptied : (ns : List ℕ) (b o : ℕ) → ((k : ℕ) → k < length ns → get_or ns k 0 ≤ blank) → ⟦ row b o ns ⟧ ⊢ ⟦
      froom (words_ty (length ns)) b o ⟧
  emptied [] b o here = qed 𝓛 (‵ ftrue ∷ []) ∵ use0 𝓛 (‵ (froom (words_ty 0) b o)) (𝓛.laws.room_nil (ty_int w64) b o)
      $ keep ! (0 ∷ []) $ done !
  emptied (n ∷ ns) b o here = qed 𝓛 (‵ (spot b o n) ∷ ‵ (row b (o + 8) ns) ∷ []) ∵ use1 𝓛
      (‵ (froom (ty_int w64) b o)) (spot_room b o n (here 0 (omega arith))) $ move ! (1 ∷ []) $
      use1 𝓛 (‵ (froom (words_ty (length ns)) b (o + 8))) (emptied ns b (o + 8) (λ k l. here (suc k) (omega arith)))
      $ move ! (1 ∷ 0 ∷ []) $
      by ! (𝓛.laws.room_cons (ty_int w64) (length ns) b o)
