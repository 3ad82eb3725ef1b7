-- The machine values of the words, a seat, a span and a right. Assumes `Logic`.
use Rattle.std.proofs.Common.{◌≡◌, ℕ, ◌+◌, ◌%◌, ◌^◌, ◌<◌, T, arith, Bool, true, false, List, [], ◌∷◌, ◌++◌}
use Rattle.std.proofs.Common.{refl, ap, ◌∙◌}
use seplogic.Ra.Ura.{Ura}
use mir.Syntax.{Ty, ty_ptr, ty_struct, tcons, tnil}
use mir.Val.{Val, vstruct, vcons, vnil, of_list, has_ty, WT}
use base.Logic.{ent, emp}
use prog.Atomic.{either}
use types.Logic.{Logic, sem}
use denote.RattleType.{RattleType}
use denote.Laws.{Is}
use denote.Opens.{Opens}
use denote.Copied.{Struct-Copied}
use denote.RawPtr.{Ptr, block_ptr, null_ptr, ptr_val, InBlock}
use denote.Shadow.{makes_shadow}
use denote.Struct.Laws.{RawPtr-copy, field_copy}
use denote.Struct.Struct.{Struct}
use denote.Struct.Owning.{shape}
use denote.Struct.Tuple.{Tuple}
use Rattle.core.specs.contracts.marker.PhantomData as marker
use Rattle.core.specs.declared.alloc.Allocator as Allocator
use Rattle.sparse_table.specs.Words.{blank}
use Rattle.sparse_table.specs.declared.words.WordRule.{Ghosts}
use Rattle.sparse_table.specs.contracts.words.Words as hand
use Rattle.sparse_table.specs.contracts.words.Seat as seat
use Rattle.sparse_table.specs.contracts.span.Span as spans
use Rattle.sparse_table.specs.contracts.span.Right as right
pub use Rattle.atomic_table.proofs.Fields.{Ptr-Good, token_val, strip_of, strip_good, pair_of}

pub either_small : (c : Bool) (x y : ℕ) → x < blank → y < blank → either c x y < blank
either_small true x y lx ly = lx
either_small false x y lx ly = ly

pub small_sum : (n k : ℕ) → (n + k) % 2 ^ 64 < blank
small_sum n k = omega arith

abbrev pub hand_of : Ptr → Val
hand_of w = vstruct (vcons (ptr_val w) (vcons (vstruct vnil) vnil))

abbrev hand_ty : Ty
hand_ty = ty_struct [] (tcons ty_ptr (tcons (ty_struct [] tnil) tnil))

abbrev token_ty : Ty
token_ty = ty_struct [] (tcons (ty_struct [] tnil) tnil)

pub hand_good : (w : Ptr) → InBlock w → T (has_ty hand_ty (hand_of w)) × WT (hand_of w)
hand_good (block_ptr b o) i = (tt, (tt, (tt, tt)))
hand_good null_ptr i = absurd i

pub dealt_good : (w : Ptr) → InBlock w → T (has_ty (ty_struct [] (tcons hand_ty (tcons token_ty tnil)))
    (pair_of (hand_of w) token_val)) × WT (pair_of (hand_of w) token_val)
dealt_good (block_ptr b o) i = (tt, ((tt, (tt, tt)), ((tt, tt), tt)))
dealt_good null_ptr i = absurd i

module _ (U X Y : RattleType) (g : Ghosts Y.Denot U.Denot X.Denot) where
  abbrev pub HandData : RattleType
  HandData = Struct (shape (hand.the_type U X Y g))

  pub hand_told : (w : Ptr) (vs : List Val) → Is HandData (w, (tt, tt)) vs → vs ≡ hand_of w ∷ []
  hand_told w vs is = is.1.0 ∙ ap (λ (ws : List Val). vstruct (of_list (ws ++ (is.0.1.0 ++ []))) ∷ []) is.1.1.0
      ∙ ap (λ (ws : List Val). vstruct (of_list (ptr_val w ∷ (ws ++ []))) ∷ []) is.1.1.1.0.1.0

  module _ {M : Type 1} {𝓤 : Ura M} (𝓛 : Logic 𝓤) (w : Ptr) where
    pub hand_made : ent 𝓤 (emp 𝓤) (sem 𝓛 (HandData.own_val (w, (tt, tt)) (hand_of w ∷ [])))
    hand_made = makes_shadow 𝓛 (HandData.own_val (w, (tt, tt)) (hand_of w ∷ []))
        (λ vss. (tt, (tt, ((λ uss. (tt, tt)), tt))))
        ((ptr_val w ∷ [], (vstruct vnil ∷ [], tt)), (refl, (refl, ((tt, (refl, tt)), tt))))

  pub hand_opens : {M : Type 1} {𝓤 : Ura M} (𝓛 : Logic 𝓤) → Opens 𝓛 HandData
  hand_opens {M} {𝓤 = 𝓤} 𝓛 = (Struct-Copied 𝓛 (shape (hand.the_type U X Y g)) (refl, (refl, tt))
      (RawPtr-copy.copied M 𝓤 𝓛, ((field_copy (marker.the_type (Tuple (Y ∷ U ∷ X ∷ []))) tt).copied M 𝓤 𝓛, tt))).opens

module _ (U : RattleType) where
  abbrev pub Token : RattleType
  Token = Struct (shape (seat.the_type U))

  pub token_told : (vs : List Val) → Is Token (tt, tt) vs → vs ≡ token_val ∷ []
  token_told vs is = is.1.0 ∙ ap (λ (ws : List Val). vstruct (of_list (ws ++ [])) ∷ []) is.1.1.0.1.0

  pub token_made : {M : Type 1} {𝓤 : Ura M} (𝓛 : Logic 𝓤) → ent 𝓤 (emp 𝓤)
      (sem 𝓛 (Token.own_val (tt, tt) (token_val ∷ [])))
  token_made 𝓛 = makes_shadow 𝓛 (Token.own_val (tt, tt) (token_val ∷ [])) (λ vss. (tt, ((λ uss. (tt, tt)), tt)))
      ((vstruct vnil ∷ [], tt), (refl, ((tt, (refl, tt)), tt)))

abbrev pub SpanData : RattleType
SpanData = Struct (shape spans.the_type)

pub span_told : (p : Ptr) (vs : List Val) → Is SpanData (p, tt) vs → vs ≡ strip_of p ∷ []
span_told p vs is = is.1.0 ∙ ap (λ (ws : List Val). vstruct (of_list (ws ++ [])) ∷ []) is.1.1.0

pub span_made : {M : Type 1} {𝓤 : Ura M} (𝓛 : Logic 𝓤) (p : Ptr) → ent 𝓤 (emp 𝓤) (sem 𝓛 (SpanData.own_val (p, tt)
    (strip_of p ∷ [])))
span_made 𝓛 p = makes_shadow 𝓛 (SpanData.own_val (p, tt) (strip_of p ∷ [])) (λ vss. (tt, (tt, tt)))
    ((ptr_val p ∷ [], tt), (refl, (refl, tt)))

module _ (Z : RattleType) (g : Allocator.Ghosts Z.Denot) where
  abbrev pub RightData : RattleType
  RightData = Struct (shape (right.the_type Z g))

  pub right_told : (vs : List Val) → Is RightData (tt, tt) vs → vs ≡ token_val ∷ []
  right_told vs is = is.1.0 ∙ ap (λ (ws : List Val). vstruct (of_list (ws ++ [])) ∷ []) is.1.1.0.1.0

  pub right_made : {M : Type 1} {𝓤 : Ura M} (𝓛 : Logic 𝓤) → ent 𝓤 (emp 𝓤) (sem 𝓛 (RightData.own_val (tt, tt)
      (token_val ∷ [])))
  right_made 𝓛 = makes_shadow 𝓛 (RightData.own_val (tt, tt) (token_val ∷ [])) (λ vss. (tt, ((λ uss. (tt, tt)), tt)))
      ((vstruct vnil ∷ [], tt), (refl, ((tt, (refl, tt)), tt)))
