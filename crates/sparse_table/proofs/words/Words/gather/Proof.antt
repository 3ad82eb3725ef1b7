-- The lifetime of the words ends, and what was lent comes back.
use Rattle.atomic_table.proofs.Names.{◌≡◌, ℕ, List, [], ◌∷◌, length, refl, a_type, dcons, dnil, Val, inst_fn}
use Rattle.atomic_table.proofs.Names.{SProp, emp, Fml, ftrue, ‵, raw, ◌⊛◌, some, given, later, ◌$◌, ◌∵◌, !, qed}
use Rattle.atomic_table.proofs.Names.{by, move, keep, drop, split, fsplit, fjoin, pick, learn, use0, use1}
use Rattle.atomic_table.proofs.Names.{await, stop, fld, of_opd, no_more, and_then, returns, enter, alloc_all}
use Rattle.atomic_table.proofs.Names.{pass_all, free_all, look_at, get, get_in, sets, agg, sub, whole, tables}
use Rattle.atomic_table.proofs.Names.{no, RattleType, owns, types_at, plain, Ptr, nothing, param, bounded}
use Rattle.atomic_table.proofs.Names.{alive, Stays, stay_dropped, walk_of, Goes-dropped, fact, fact_i, Coded}
use Rattle.atomic_table.proofs.Names.{InBlock}
use Rattle.atomic_table.proofs.Walks.{proved, leaves}
use Rattle.sparse_table.specs.Words.{Final}
use Rattle.sparse_table.specs.Owned.{WordsId, span, words_own}
use Rattle.sparse_table.specs.contracts.words.Words as table
use Rattle.sparse_table.specs.contracts.span.Span as spans
use Rattle.sparse_table.proofs.Fields.{hand_of, hand_told, hand_good, Ptr-Good, strip_of, strip_good, SpanData}
use Rattle.sparse_table.proofs.Fields.{span_made}
use Rattle.sparse_table.proofs.Dealing.{words_lie, gathers}
use Rattle.sparse_table.specs.contracts.words.Words.gather.{ended, clauses}
use Rattle.sparse_table.specs.contracts.words.Words.gather.Key.{name as #self}
use Rattle.sparse_table.proofs.words.Words.gather.Statement.{statement}
use Rattle.sparse_table.proofs.words.Words.gather.Code as code

pub gather_spec : {M : Type 1} → statement M
gather_spec 𝓤 𝓛 𝓜 𝓡 wired U Q P _ _ _ g d _ =
    let H = 𝓛.H in let 𝓣 = tables 𝓤 H 𝓜 𝓡 𝓡.env in let W : RattleType = param 0 U in let X : RattleType = param 1
    Q in let Y : RattleType = param 2 P in let cv : Coded U.Denot = W.coded in
    let inst = bounded (a_type ∷ a_type ∷ a_type ∷ []) (U, (Q, (P, tt))) (dcons d dnil) in
    let fn = inst_fn inst code.function in let c = clauses U Q P g d 𝓛 𝓜.mem 𝓡.returns in
    let En = ended U Q P g d in
    let Row : RattleType = table.the_row W X Y g in let Ws : RattleType = spans.the_row in
    let hs : Stays En.signature.params En.kept = (stay_dropped (plain (λ _. Row)) no, tt) in
    proved 𝓛 En hs c 𝓜 𝓡 (Goes-dropped 𝓛 3 (plain (λ _. Row)) no (λ κs x f. refl), tt) (#self inst) fn
    (code.unfolded 𝓤 H 𝓜 𝓡 wired (U, (Q, (P, tt))) d)
    (λ κs. ((λ x. hand_of x.ptr ∷ []), tt)) (λ κs. ((λ x vs so. hand_told W X Y g x.ptr vs so.0), tt))
    (λ κs qs bounds a gh are.
    let w : Ptr = a.0.ptr in let z : WordsId = a.0.id in let Owns : Fml = words_own cv.code (g.holds a.0.key) w z in
    let y : (walk_of 𝓛 En hs c).Ghost = ((κs, qs, bounds, a, (hand_of w ∷ [], tt)), gh) in let Post : Val → SProp 𝓤 =
    (walk_of 𝓛 En hs c).post y in
    qed 𝓛 ((raw (alive 𝓛 En.signature κs qs) ⊛ ‵ (owns (types_at En.signature.params κs) a y.0.4)) ∷ raw
    ((c κs a).requires gh) ∷ []) ∵
    split ! $ move ! (1 ∷ []) $ fsplit ! $ fsplit ! $ keep ! (1 ∷ 3 ∷ []) $
    use1 𝓛 (given (InBlock w) (‵ Owns)) (words_lie 𝓛 cv (g.holds a.0.key) w z) $ learn ! (λ at.
    enter ! 𝓣.C 𝓣.Λ fn (hand_of w ∷ []) Post $ alloc_all ! (λ l. pass_all ! refl (hand_good w at, tt) $
    use1 𝓛 (later (some (λ (ns : List ℕ). given ((length ns ≡ z.words) × Final (g.holds a.0.key) ns × InBlock w)
    (‵ (span w ns) ⊛ ‵ ftrue)))) (gathers 𝓛 cv (g.holds a.0.key) w z) $ await ! tt $ pick !
    (λ ns. learn ! (λ so. split ! $ move ! (1 ∷ []) $ drop ! $
    let r : Ws.Denot = record { ptr = w; items = ns } in let A : Type 0 = (w ≡ w) × (length ns ≡ z.words) × Final
    (g.holds a.0.key) ns in
    use0 𝓛 (‵ (SpanData.own_val (w, tt) (strip_of w ∷ []))) (span_made 𝓛 w) $ fjoin ! $
    sets ! (of_opd ! (get_in ! (fld ! refl (stop !)) (sub ! 0 refl (whole !)))) refl (Ptr-Good w at) $
    sets ! (agg ! (and_then ! (get ! refl) (no_more !))) refl (strip_good w at) $
    use0 𝓛 (raw (fact 𝓤 A)) (fact_i 𝓤 A (emp 𝓤) (refl, so.0, so.1)) $
    nothing ! $ nothing ! $ fjoin ! $ returns ! (look_at ! 0 refl) $ free_all ! refl $ keep ! (3 ∷ 0 ∷ 2 ∷ 1 ∷ []) $
    by ! (leaves 𝓛 En hs c y (strip_of w) r (tt, tt) (tt, tt)))))))
