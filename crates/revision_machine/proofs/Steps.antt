-- A step of the machine, as a change of the list of revisions.
use Rattle.std.proofs.Common.{◌≡◌, ◌≢◌, ℕ, zero, suc, ◌<◌, Bool, true, false, List, [], ◌∷◌, ◌++◌, length, get_or, set, Some, refl, sym, ap, ◌∙◌, subst, arith, length-set}
use Rattle.std.proofs.lemmas.List.{get_or_default, set-get_or, get_or-set_other}
use Rattle.rev_num.specs.Path.{Path, child}
use Rattle.revision_machine.specs.PathMap.{with_at}
use Rattle.revision_machine.specs.Machine.{Moves, Forks, Joins, Ended, Machine, Plain, Joined, Twice, Live, step, step_at, happens, join_at, join_ended}
use Rattle.revision_machine.specs.Laws.{IsIn, IsDistinct, IsForked}
use Rattle.revision_machine.proofs.Forker.{fresh_of}
use Rattle.revision_machine.proofs.Way.{ended_apart}
use Rattle.revision_machine.specs.declared.state.RevisionRow.{RevisionRow}
use Rattle.revision_machine.specs.RevisionList.{paths, entry_with, entry_of, globe}
use Rattle.revision_machine.specs.StepOutcomes.{WaitsOn, IsEndedEntry}
use Rattle.revision_machine.specs.ListStep.{IsAt, with_state, with_mark}
use Rattle.revision_machine.proofs.RevisionList.{globe_at, globe-set, globe-push, paths-set, in_globe, distinct_revisions-push}

-- x is read at the place i
abbrev pub Reads : {L : Type 0} → List (RevisionRow L) → ℕ → RevisionRow L → Type 0
Reads revisions i x = x ≡ get_or revisions i x

module _ {L : Type 0} where
  pub same_read : (revisions : List (RevisionRow L)) (i : ℕ) (x y : RevisionRow L) → i < length revisions
      → Reads revisions i x → Reads revisions i y → x ≡ y
  same_read revisions i x y lt a b = a ∙ get_or_default revisions i x y lt ∙ sym b

  read_path : (revisions : List (RevisionRow L)) (i : ℕ) (p : Path) (x : RevisionRow L) → IsAt revisions i p
      → Reads revisions i x → x.path ≡ p
  read_path revisions i p x at r = ap (λ v. v.path) r ∙ at.path x

  pub set_back : (revisions : List (RevisionRow L)) (i : ℕ) (x : RevisionRow L) (l : L) → Reads revisions i x
      → l ≡ x.state
      → set revisions i (with_state x l) ≡ revisions
  set_back revisions i x l r e =
      ap (λ v. set revisions i (with_state x v)) e ∙ ap (set revisions i) r ∙ set-get_or revisions i x

  pub distinct_set : (revisions : List (RevisionRow L)) (i : ℕ) (x t : RevisionRow L) → IsDistinct (paths revisions)
      → i < length revisions → Reads revisions i x → t.path ≡ x.path → IsDistinct (paths (set revisions i t))
  distinct_set revisions i x t d lt r e =
      subst IsDistinct (sym (paths-set revisions i x t lt (e ∙ ap (λ v. v.path) r))) d

  -- one revision with its state or mark changed
  pub shown_set : (revisions : List (RevisionRow L)) (i : ℕ) (p : Path) (x t : RevisionRow L)
      → IsDistinct (paths revisions)
      → IsAt revisions i p → Reads revisions i x → t.path ≡ x.path
      → globe (set revisions i t) ≡ with_at (globe revisions) p (entry_of t)
  shown_set revisions i p x t d at r e =
      globe-set revisions i x t d at.within (e ∙ ap (λ v. v.path) r)
      ∙ ap (λ v. with_at (globe revisions) v (entry_of t)) (e ∙ read_path revisions i p x at r)

  -- what stands there
  pub shown_at : (revisions : List (RevisionRow L)) (i : ℕ) (p : Path) (x : RevisionRow L)
      → IsDistinct (paths revisions)
      → IsAt revisions i p → Reads revisions i x → globe revisions p ≡ Some (entry_of x)
  shown_at revisions i p x d at r =
      ap (globe revisions) (sym (at.path x)) ∙ globe_at revisions i x d at.within ∙ ap (λ v. Some (entry_of v)) (sym r)

module _ (M : Machine) (revisions : List (RevisionRow M.Local)) (i : ℕ) (p : Path)
    (distinct : IsDistinct (paths revisions)) (at : IsAt revisions i p) (x : RevisionRow M.Local)
    (r : Reads revisions i x) where
  stands : (b : Bool) → x.joined ≡ b → globe revisions p ≡ Some (entry_with b x.state)
  stands b e = shown_at revisions i p x distinct at r ∙ ap (λ b. Some (entry_with b x.state)) e

  pub over_marked : x.joined ≡ true → IsEndedEntry M p (globe revisions p)
  over_marked e = subst (IsEndedEntry M p) (sym (stands true e)) tt

  pub over_ended : x.joined ≡ false → M.next p x.state ≡ Ended → IsEndedEntry M p (globe revisions p)
  over_ended e f = subst (IsEndedEntry M p) (sym (stands false e)) f

  does : x.joined ≡ false → step M (Live (globe revisions)) p ≡ happens M (globe revisions) p x.state (M.next p x.state)
  does e = ap (step_at M (globe revisions) p)
      (shown_at revisions i p x distinct at r ∙ ap (λ b. Some (entry_with b x.state)) e)

  pub moved : x.joined ≡ false → (l : M.Local) → M.next p x.state ≡ Moves l
      → step M (Live (globe revisions)) p ≡ Some (Live (globe (set revisions i (with_state x l))))
  moved e l f =
      does e ∙ ap (happens M (globe revisions) p x.state) f
      ∙ ap (λ m. Some (Live m))
      (sym (shown_set revisions i p x (with_state x l) distinct at r refl
      ∙ ap (λ b. with_at (globe revisions) p (entry_with b l)) e))

  module _ (forked : IsForked M (globe revisions)) where
    out : x.joined ≡ false → IsIn (child p (M.forks x.state)) (paths revisions) → ⊥
    out e = in_globe revisions (child p (M.forks x.state))
        (fresh_of M (globe revisions) forked p x.state
        (shown_at revisions i p x distinct at r ∙ ap (λ b. Some (entry_with b x.state)) e))

    pub distinct_forked : x.joined ≡ false → (l : M.Local) (t : RevisionRow M.Local)
        → t.path ≡ child p (M.forks x.state)
        → IsDistinct (paths (set revisions i (with_state x l) ++ t ∷ []))
    distinct_forked e l t f =
        let ps : paths (set revisions i (with_state x l)) ≡ paths revisions =
        paths-set revisions i x (with_state x l) at.within (ap (λ v. v.path) r) in
        distinct_revisions-push (set revisions i (with_state x l)) t (subst IsDistinct (sym ps) distinct)
        (λ v. out e (subst (λ w. IsIn w (paths revisions)) f (subst (IsIn t.path) ps v)))

    pub forks : x.joined ≡ false → (l c : M.Local) (t : RevisionRow M.Local) → M.next p x.state ≡ Forks l c
        → t.path ≡ child p (M.forks x.state) → entry_of t ≡ Plain c
        → step M (Live (globe revisions)) p ≡ Some (Live (globe (set revisions i (with_state x l) ++ t ∷ [])))
    forks e l c t f tp te =
        let ps : paths (set revisions i (with_state x l)) ≡ paths revisions =
        paths-set revisions i x (with_state x l) at.within (ap (λ v. v.path) r) in
        let pushed =
        globe-push (set revisions i (with_state x l)) t
        (λ v. out e (subst (λ w. IsIn w (paths revisions)) tp (subst (IsIn t.path) ps v))) in
        let set_is : globe (set revisions i (with_state x l)) ≡ with_at (globe revisions) p (Plain l) =
        shown_set revisions i p x (with_state x l) distinct at r refl
        ∙ ap (λ b. with_at (globe revisions) p (entry_with b l)) e in
        does e ∙ ap (happens M (globe revisions) p x.state) f
        ∙ ap (λ m. Some (Live m))
        (sym (pushed ∙ ap (λ m. with_at m t.path (entry_of t)) set_is
        ∙ ap (λ v. with_at (with_at (globe revisions) p (Plain l)) v (entry_of t)) tp
        ∙ ap (with_at (with_at (globe revisions) p (Plain l)) (child p (M.forks x.state))) te))

  module _ (q : Path) (plain : x.joined ≡ false) (joins : M.next p x.state ≡ Joins q) where
    wants : step M (Live (globe revisions)) p ≡ join_at M (globe revisions) p x.state q (globe revisions q)
    wants = does plain ∙ ap (happens M (globe revisions) p x.state) joins

    module _ (j : ℕ) (there : IsAt revisions j q) (y : RevisionRow M.Local) (s : Reads revisions j y) where
      pub twice : y.joined ≡ true → step M (Live (globe revisions)) p ≡ Some Twice
      twice e = wants
          ∙ ap (join_at M (globe revisions) p x.state q)
          (shown_at revisions j q y distinct there s ∙ ap (λ b. Some (entry_with b y.state)) e)

      ends : y.joined ≡ false
          → step M (Live (globe revisions)) p ≡ join_ended M (globe revisions) p x.state q y.state (M.next q y.state)
      ends e = wants
          ∙ ap (join_at M (globe revisions) p x.state q)
          (shown_at revisions j q y distinct there s ∙ ap (λ b. Some (entry_with b y.state)) e)

      pub waits : y.joined ≡ false → M.next q y.state ≢ Ended → WaitsOn M (globe revisions) p q
      waits e not = record {
        state = x.state;
        stands = stands false plain;
        joins = joins;
        target = y.state;
        target_stands = shown_at revisions j q y distinct there s ∙ ap (λ b. Some (entry_with b y.state)) e;
        goes_on = not;
      }

      pub apart_paths : y.joined ≡ false → M.next q y.state ≡ Ended → p ≢ q
      apart_paths e f =
          ended_apart M (globe revisions) p q x.state y.state
          (shown_at revisions i p x distinct at r ∙ ap (λ b. Some (entry_with b x.state)) plain)
          (λ g. let clash : Joins q ≡ Ended = sym joins ∙ g in cc)
          (shown_at revisions j q y distinct there s ∙ ap (λ b. Some (entry_with b y.state)) e) f

      pub differ : y.joined ≡ false → M.next q y.state ≡ Ended → j ≢ i
      differ e f g = apart_paths e f (sym (at.path x) ∙ ap (λ n. (get_or revisions n x).path) (sym g) ∙ there.path x)

      -- the joinee's revision is as it was
      other_read : y.joined ≡ false → M.next q y.state ≡ Ended → (l : M.Local) (z : RevisionRow M.Local)
          → Reads (set revisions i (with_state x l)) j z → z ≡ y
      other_read e f l z t =
          same_read revisions j z y there.within (t ∙ get_or-set_other revisions i j (with_state x l) z (differ e f)) s

      pub distinct_joined : (l : M.Local) (z : RevisionRow M.Local) → Reads (set revisions i (with_state x l)) j z
          → IsDistinct (paths (set (set revisions i (with_state x l)) j (with_mark z)))
      distinct_joined l z t =
          let within : j < length (set revisions i (with_state x l)) =
          subst (λ n. j < n) (sym (length-set revisions i (with_state x l))) there.within in
          distinct_set (set revisions i (with_state x l)) j z (with_mark z)
          (distinct_set revisions i x (with_state x l) distinct at.within r refl) within t refl

      pub joined : y.joined ≡ false → M.next q y.state ≡ Ended → (l : M.Local) → l ≡ M.join p x.state q y.state
          → (z : RevisionRow M.Local) → Reads (set revisions i (with_state x l)) j z
          → step M (Live (globe revisions)) p
          ≡ Some (Live (globe (set (set revisions i (with_state x l)) j (with_mark z))))
      joined e f l le z t =
          let a : RevisionRow M.Local = with_state x l in
          let zy : z ≡ y = other_read e f l z t in
          let within : j < length (set revisions i a) =
          subst (λ n. j < n) (sym (length-set revisions i a)) there.within in
          let here : IsAt (set revisions i a) j q = record {
            within = within;
            path = λ d. ap (λ v. v.path) (get_or-set_other revisions i j a d (differ e f)) ∙ there.path d;
          } in
          let first : globe (set revisions i a) ≡ with_at (globe revisions) p (Plain l) =
          shown_set revisions i p x a distinct at r refl
          ∙ ap (λ b. with_at (globe revisions) p (entry_with b l)) plain in
          let both :
          globe (set (set revisions i a) j (with_mark z)) ≡ with_at (globe (set revisions i a)) q (Joined z.state) =
          shown_set (set revisions i a) j q z (with_mark z) (distinct_set revisions i x a distinct at.within r refl)
          here t refl in
          ends e ∙ ap (join_ended M (globe revisions) p x.state q y.state) f
          ∙ ap (λ v. Some (Live (with_at (with_at (globe revisions) p (Plain v)) q (Joined y.state)))) (sym le)
          ∙ ap (λ m. Some (Live m))
          (sym (both ∙ ap (λ m. with_at m q (Joined z.state)) first
          ∙ ap (λ v. with_at (with_at (globe revisions) p (Plain l)) q (Joined v)) (ap (λ v. v.state) zy)))

      -- the joinee's revision, read before the joiner's is written
      read_after : y.joined ≡ false → M.next q y.state ≡ Ended → (l : M.Local)
          → Reads (set revisions i (with_state x l)) j y
      read_after e f l = s ∙ sym (get_or-set_other revisions i j (with_state x l) y (differ e f))

      pub joins_both : y.joined ≡ false → M.next q y.state ≡ Ended
          → step M (Live (globe revisions)) p
          ≡ Some (Live (globe (set (set revisions i (with_state x (M.join p x.state q y.state))) j (with_mark y))))
      joins_both e f = joined e f (M.join p x.state q y.state) refl y (read_after e f (M.join p x.state q y.state))

      pub distinct_both : y.joined ≡ false → M.next q y.state ≡ Ended → (l : M.Local)
          → IsDistinct (paths (set (set revisions i (with_state x l)) j (with_mark y)))
      distinct_both e f l = distinct_joined l y (read_after e f l)

-- what stands at a place, read with any default
module _ {L : Type 0} (revisions : List (RevisionRow L)) (i : ℕ) (lt : i < length revisions) (d : RevisionRow L) where
  pub reads : Reads revisions i (get_or revisions i d)
  reads = get_or_default revisions i d (get_or revisions i d) lt

  pub at_place : IsAt revisions i (get_or revisions i d).path
  at_place = record { within = lt; path = λ e. ap (λ v. v.path) (get_or_default revisions i e d lt) }

  pub read_is : (x : RevisionRow L) → Reads revisions i x → x ≡ get_or revisions i d
  read_is x r = r ∙ get_or_default revisions i x d lt

pub revision_at : {L : Type 0} (revisions : List (RevisionRow L)) (i : ℕ) → i < length revisions
    → (x : RevisionRow L) × Reads revisions i x
revision_at [] i lt = absurd (omega arith)
revision_at (s ∷ ss) zero lt = (s, refl)
revision_at (s ∷ ss) (suc i) lt = revision_at ss i (omega arith)
