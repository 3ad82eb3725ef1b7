-- A span goes under the invariant, and the first seat is made.
use Rattle.atomic_table.proofs.Names.{◌≡◌, ℕ, List, [], ◌∷◌, ◌++◌, length, refl, a_type, dcons, dnil, named}
use Rattle.atomic_table.proofs.Names.{Val, vptr, vstruct, inst_fn, SProp, emp, ftrue, fsep, ‵, raw, ◌⊛◌, some}
use Rattle.atomic_table.proofs.Names.{given, later, ◌$◌, ◌∵◌, !, qed, by, move, keep, drop, split, join, fsplit}
use Rattle.atomic_table.proofs.Names.{fjoin, fjoin3, fpack, pick, learn, use0, use1, await, feq_i, stop, fld}
use Rattle.atomic_table.proofs.Names.{of_opd, no_more, and_then, returns, enter, alloc_all, pass_all, free_all}
use Rattle.atomic_table.proofs.Names.{look_at, get, get_in, sets, agg, sub, whole, tables, yes, RattleType}
use Rattle.atomic_table.proofs.Names.{owns, Valss, types_at, plain, Ptr, nothing, param, bounded, alive, Stays}
use Rattle.atomic_table.proofs.Names.{stay_dropped, walk_of, Goes-dropped, fact, fact_i, Coded, RefOf, shr_vals}
use Rattle.atomic_table.proofs.Names.{shr_Tells, of_list, InBlock}
use Rattle.atomic_table.proofs.Walks.{proved, leaves}
use Rattle.sparse_table.specs.Words.{opening}
use Rattle.sparse_table.specs.Owned.{WordsId, Sized, span, mine, words_own}
use Rattle.sparse_table.specs.contracts.words.Words as table
use Rattle.sparse_table.specs.contracts.words.Seat as seat
use Rattle.sparse_table.specs.contracts.span.Span as spans
use Rattle.sparse_table.proofs.Fields.{hand_of, HandData, hand_made, hand_good, Ptr-Good, Token, token_val}
use Rattle.sparse_table.proofs.Fields.{token_made, strip_of, pair_of, strip_good, dealt_good, span_told}
use Rattle.sparse_table.proofs.Dealing.{span_lies, deals}
use Rattle.sparse_table.specs.contracts.words.Words.deal.{ended, clauses}
use Rattle.sparse_table.specs.contracts.words.Words.deal.Key.{name as #self}
use Rattle.sparse_table.proofs.words.Words.deal.Statement.{statement}
use Rattle.sparse_table.proofs.words.Words.deal.Code as code

pub deal_spec : {M : Type 1} → statement M
deal_spec 𝓤 𝓛 𝓜 𝓡 wired U Q P _ _ _ g d _ =
    let H = 𝓛.H in let 𝓣 = tables 𝓤 H 𝓜 𝓡 𝓡.env in let W : RattleType = param 0 U in let X : RattleType = param 1
    Q in let Y : RattleType = param 2 P in let cv : Coded U.Denot = W.coded in
    let inst = bounded (a_type ∷ a_type ∷ a_type ∷ []) (U, (Q, (P, tt))) (dcons d dnil) in
    let fn = inst_fn inst code.function in let c = clauses U Q P g d 𝓛 𝓜.mem 𝓡.returns in
    let En = ended U Q P g d in
    let Row : RattleType = table.the_row W X Y g in let Sr : RattleType = seat.the_row W in
    let Ws : RattleType = spans.the_row in
    let hs : Stays En.signature.params En.kept = (
      stay_dropped (RefOf (0 ∷ []) tt (plain (λ _. X)) (λ _. tt)) yes,
      (stay_dropped (plain (λ _. Ws)) yes, tt),
    ) in
    proved 𝓛 En hs c 𝓜 𝓡 (
      Goes-dropped 𝓛 4 (RefOf (0 ∷ []) tt (plain (λ _. X)) (λ _. tt)) yes (λ κs x f. refl),
      (Goes-dropped 𝓛 4 (plain (λ _. Ws)) yes (λ κs x f. refl), tt),
    ) (#self inst) fn (code.unfolded 𝓤 H 𝓜 𝓡 wired
    (U, (Q, (P, tt))) d)
    (λ κs. (shr_vals, ((λ x. strip_of x.ptr ∷ []), tt))) (λ κs. (
      shr_Tells (named 0) κs.0 X,
      ((λ x vs so. span_told x.ptr vs so.0), tt),
    )) (λ κs qs bounds a gh are.
    let key : Q.Denot = a.0.now in let at : Val = vptr a.0.ref_ptr.0 a.0.ref_ptr.1 in let w : Ptr = a.1.0.ptr in
    let ns : List ℕ = a.1.0.items in let v : U.Denot = g.first key in let u : Val = pair_of (hand_of w) token_val
    in
    let y : (walk_of 𝓛 En hs c).Ghost = ((κs, qs, bounds, a, (at ∷ [], (strip_of w ∷ [], tt))), gh) in let Post : Val
    → SProp 𝓤 = (walk_of 𝓛 En hs c).post y in
    qed 𝓛 ((raw (alive 𝓛 En.signature κs qs) ⊛ ‵ (owns (types_at En.signature.params κs) a y.0.4)) ∷ raw
    (fact 𝓤 _) ∷ raw (fact 𝓤 _) ∷ raw (fact 𝓤 _) ∷ given ((g.holds key) (opening ns v)) (‵ ftrue) ∷ []) ∵
    keep ! (4 ∷ 0 ∷ []) $ learn ! (λ good. drop ! $ split ! $ move ! (1 ∷ []) $ fsplit ! $ drop ! $ fsplit ! $ fsplit
    ! $ drop ! $
    use1 𝓛 (given (Sized w (length ns)) (‵ (span w ns))) (span_lies 𝓛 w ns) $ learn ! (λ fw.
    enter ! 𝓣.C 𝓣.Λ fn (at ∷ strip_of w ∷ []) Post $ alloc_all ! (λ l. pass_all ! refl (
      (tt, tt),
      (
        strip_good w fw.0,
        tt,
      ),
    ) $
    use1 𝓛 (later (some (λ (z : WordsId). given ((z.words ≡ length ns) × InBlock w)
    (‵ (words_own cv.code (g.holds key) w z) ⊛ ‵ (mine cv.code z 0 v))))) (deals 𝓛 cv (g.holds key) w ns v good)
    $ await ! tt $ pick ! (λ z. learn ! (λ so. split ! $
    let t : Row.Denot = record { ptr = w; marker = record {}; id = z; key = key } in
    let r : Sr.Denot = record { marker = record {}; words = z; id = 0; view = v } in
    let A₁ : Type 0 = (z.words ≡ length ns) × (w ≡ w) × (key ≡ key) in let A₂ : Type 0 = (z ≡ z) × (0 ≡ 0) × (v ≡ v) in
    use0 𝓛 (‵ ((HandData W X Y g).own_val (w, (tt, tt)) (hand_of w ∷ []))) (hand_made W X Y g 𝓛 w) $ fjoin ! $ move !
    (1 ∷ []) $
    use0 𝓛 (‵ ((Token W).own_val (tt, tt) (token_val ∷ []))) (token_made W 𝓛) $ fjoin ! $ nothing ! $ move !
    (2 ∷ 1 ∷ 0 ∷ []) $ fjoin3 ! $ feq_i ! (List Val) (u ∷ []) (u ∷ []) refl $ fjoin ! $
    fpack ! (Valss (Row ∷ Sr ∷ [])) (λ vss. fsep (base.Fml.feq (List Val) (u ∷ [])
    (vstruct (of_list (vss.0 ++ (vss.1.0 ++ []))) ∷ [])) (owns (Row ∷ Sr ∷ []) (t, (r, tt)) vss))
    (hand_of w ∷ [], (token_val ∷ [], tt)) $
    sets ! (of_opd ! (get_in ! (fld ! refl (stop !)) (sub ! 0 refl (whole !)))) refl (Ptr-Good w fw.0) $ sets !
    (agg ! (no_more !)) refl (tt, tt) $
    sets ! (agg ! (and_then ! (get ! refl) (and_then ! (get ! refl) (no_more !)))) refl (hand_good w fw.0) $ sets !
    (agg ! (no_more !)) refl (tt, tt) $ sets ! (agg ! (and_then ! (get ! refl) (no_more !))) refl (tt, (tt, tt)) $
    sets ! (agg ! (and_then ! (get ! refl) (and_then ! (get ! refl) (no_more !)))) refl (dealt_good w fw.0) $
    use0 𝓛 (raw (fact 𝓤 A₂)) (fact_i 𝓤 A₂ (emp 𝓤) (refl, refl, refl)) $ use0 𝓛 (raw (fact 𝓤 A₁)) (fact_i 𝓤 A₁ (emp 𝓤)
    (so.0, refl, refl)) $ join ! $
    nothing ! $ nothing ! $ fjoin ! $ nothing ! $ fjoin ! $ returns ! (look_at ! 0 refl) $ free_all ! refl $ keep !
    (4 ∷ 0 ∷ 2 ∷ 1 ∷ []) $ by ! (leaves 𝓛 En hs c y u (t, r) (tt, (tt, tt)) (tt, (tt, tt)))))))))
