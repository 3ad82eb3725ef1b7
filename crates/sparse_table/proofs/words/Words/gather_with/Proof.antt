-- The same, in a state that has the seat's view.
use Rattle.atomic_table.proofs.Names.{◌≡◌, ℕ, List, [], ◌∷◌, length, sym, refl, a_type, dcons, dnil, named, Val}
use Rattle.atomic_table.proofs.Names.{vptr, inst_fn, SProp, emp, Fml, ftrue, fsep, flft, ‵, raw, ◌⊛◌, some}
use Rattle.atomic_table.proofs.Names.{given, later, ◌$◌, ◌∵◌, !, qed, by, move, keep, drop, split, join, fsplit}
use Rattle.atomic_table.proofs.Names.{fsplit3, fjoin, fjoin3, pick, learn, use0, use1, use2, await, rewrite}
use Rattle.atomic_table.proofs.Names.{feq_i, stop, fld, of_opd, no_more, and_then, returns, enter, alloc_all}
use Rattle.atomic_table.proofs.Names.{pass_all, free_all, look_at, get, get_in, sets, agg, sub, whole, tables}
use Rattle.atomic_table.proofs.Names.{no, RattleType, owns, types_at, plain, Ptr, nothing, param, bounded}
use Rattle.atomic_table.proofs.Names.{Stays, stay_dropped, walk_of, Goes-dropped, fact, fact_i, Coded, mut_vals}
use Rattle.atomic_table.proofs.Names.{mut_Tells, opens, closes, stay_ref, Goes-ref, InBlock}
use Rattle.atomic_table.proofs.Walks.{proved, leaves}
use Rattle.sparse_table.specs.Words.{Final, Seen}
use Rattle.sparse_table.specs.Owned.{WordsId, span, mine, words_own}
use Rattle.sparse_table.specs.contracts.words.Words as table
use Rattle.sparse_table.specs.contracts.words.Seat as seat
use Rattle.sparse_table.specs.contracts.span.Span as spans
use Rattle.sparse_table.proofs.Fields.{hand_of, hand_told, hand_good, Ptr-Good, strip_of, strip_good, SpanData}
use Rattle.sparse_table.proofs.Fields.{span_made}
use Rattle.sparse_table.proofs.Dealing.{words_lie, gathers_with}
use Rattle.sparse_table.specs.contracts.words.Words.gather_with.{ended, clauses}
use Rattle.sparse_table.specs.contracts.words.Words.gather_with.Key.{name as #self}
use Rattle.sparse_table.proofs.words.Words.gather_with.Statement.{statement}
use Rattle.sparse_table.proofs.words.Words.gather_with.Code as code

pub gather_with_spec : {M : Type 1} → statement M
gather_with_spec 𝓤 𝓛 𝓜 𝓡 wired U Q P _ _ _ g d _ =
    let H = 𝓛.H in let 𝓣 = tables 𝓤 H 𝓜 𝓡 𝓡.env in let W : RattleType = param 0 U in let X : RattleType = param 1
    Q in let Y : RattleType = param 2 P in let cv : Coded U.Denot = W.coded in
    let inst = bounded (a_type ∷ a_type ∷ a_type ∷ []) (U, (Q, (P, tt))) (dcons d dnil) in
    let fn = inst_fn inst code.function in let c = clauses U Q P g d 𝓛 𝓜.mem 𝓡.returns in
    let En = ended U Q P g d in
    let Row : RattleType = table.the_row W X Y g in let Sr : RattleType = seat.the_row W in
    let Ws : RattleType = spans.the_row in
    let hs : Stays En.signature.params En.kept = (
      stay_dropped (plain (λ _. Row)) no,
      (
        stay_ref (0 ∷ []) tt
            (plain (λ _. Sr)),
        tt,
      ),
    ) in
    proved 𝓛 En hs c 𝓜 𝓡 (
      Goes-dropped 𝓛 4 (plain (λ _. Row)) no (λ κs x f. refl),
      (Goes-ref 𝓛 4 0 tt (plain (λ _. Sr)), tt),
    ) (#self inst) fn (code.unfolded 𝓤 H 𝓜 𝓡 wired (U, (Q, (P, tt))) d)
    (λ κs. ((λ x. hand_of x.ptr ∷ []), (mut_vals, tt))) (λ κs. (
      (λ x vs so. hand_told W X Y g x.ptr vs so.0),
      (mut_Tells (named 0) κs.0 Sr, tt),
    )) (λ κs qs bounds a gh are.
    let w : Ptr = a.0.ptr in let z : WordsId = a.0.id in let b' : ℕ = a.1.0.ref_ptr.0 in
    let o' : ℕ = a.1.0.ref_ptr.1 in let h : Sr.Denot = a.1.0.now in let good = Seen (g.holds a.0.key) h.id
    h.view in let Mine : WordsId → Fml = λ x. mine cv.code x h.id h.view in
    let others : Fml = fsep (flft κs.1.0 qs.1.0) (fsep (flft κs.1.1.0 qs.1.1.0) (fsep (flft κs.1.1.1.0 qs.1.1.1.0)
    ftrue)) in let Owns : Fml = words_own cv.code (g.holds a.0.key) w z in
    let y : (walk_of 𝓛 En hs c).Ghost = ((κs, qs, bounds, a, (hand_of w ∷ [], (vptr b' o' ∷ [], tt))), gh) in
    let Post : Val → SProp 𝓤 = (walk_of 𝓛 En hs c).post y in
    qed 𝓛 (((‵ (flft κs.0 qs.0) ⊛ ‵ others) ⊛ ‵ (owns (types_at En.signature.params κs) a y.0.4)) ∷ raw
    (fact 𝓤 _) ∷ raw (fact 𝓤 _) ∷ raw (fact 𝓤 _) ∷ given (h.words ≡ z) (‵ ftrue) ∷ []) ∵
    keep ! (4 ∷ 0 ∷ []) $ learn ! (λ same. drop ! $ split ! $ split ! $ move ! (2 ∷ []) $ fsplit3 ! $ fsplit ! $ move
    ! (2 ∷ []) $ fsplit3 ! $ keep ! (4 ∷ 1 ∷ 2 ∷ 6 ∷ 7 ∷ []) $
    use1 𝓛 (given (InBlock w) (‵ Owns)) (words_lie 𝓛 cv (g.holds a.0.key) w z) $ learn ! (λ at.
    enter ! 𝓣.C 𝓣.Λ fn (hand_of w ∷ vptr b' o' ∷ []) Post $ alloc_all ! (λ l. pass_all ! refl (
      hand_good w at,
      ((tt, tt), tt),
    ) $
    move ! (1 ∷ 2 ∷ 3 ∷ []) $ opens ! tt Sr b' o' (λ ts. move ! (1 ∷ []) $ fsplit ! $ rewrite ! 1 (λ (x : WordsId). ‵
    (Mine x)) same refl $ move ! (6 ∷ 1 ∷ []) $
    use2 𝓛 (later (some (λ (ns : List ℕ). given ((length ns ≡ z.words) × Final good ns × InBlock w)
    (‵ (span w ns) ⊛ ‵ (Mine z))))) (gathers_with 𝓛 cv (g.holds a.0.key) w z h.id h.view) $ await ! tt $ pick !
    (λ ns. learn ! (λ so. split ! $
    rewrite ! 1 (λ (x : WordsId). ‵ (Mine x)) (sym same) refl $ move ! (2 ∷ 1 ∷ []) $ fjoin ! $ move !
    (2 ∷ 0 ∷ 3 ∷ 4 ∷ 5 ∷ []) $ closes ! tt Sr h ts b' o' $ feq_i ! (List Val) (vptr b' o' ∷ []) (vptr b' o' ∷ [])
    refl $ fjoin3 ! $
    nothing ! $ move ! (1 ∷ 0 ∷ []) $ fjoin ! $ nothing ! $ fjoin ! $ move ! (1 ∷ 3 ∷ []) $ join ! $ move ! (2 ∷ []) $
    let r : Ws.Denot = record { ptr = w; items = ns } in let A : Type 0 = (w ≡ w) × (length ns ≡ z.words)
    × Final good ns in
    use0 𝓛 (‵ (SpanData.own_val (w, tt) (strip_of w ∷ []))) (span_made 𝓛 w) $ fjoin ! $
    sets ! (of_opd ! (get_in ! (fld ! refl (stop !)) (sub ! 0 refl (whole !)))) refl (Ptr-Good w at) $
    sets ! (agg ! (and_then ! (get ! refl) (no_more !))) refl (strip_good w at) $
    use0 𝓛 (raw (fact 𝓤 A)) (fact_i 𝓤 A (emp 𝓤) (refl, so.0, so.1)) $
    returns ! (look_at ! 0 refl) $ free_all ! refl $ keep ! (2 ∷ 3 ∷ 1 ∷ 0 ∷ []) $ by ! (leaves 𝓛 En hs c y
    (strip_of w) r (tt, (h, tt)) (tt, (tt, tt))))))))))
