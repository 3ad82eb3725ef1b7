-- `lay` is a store, and a span comes to where it lies.
use Rattle.atomic_table.proofs.Names.{◌≡◌, ◌≤◌, length, InBlock, subst, ℕ, ◌+◌, ◌*◌, ◌^◌, ◌<◌, List, [], ◌∷◌}
use Rattle.atomic_table.proofs.Names.{sym, refl, ap, arith, lit<, w64, a_type, dcons, dnil, named, Val, vunit}
use Rattle.atomic_table.proofs.Names.{vint, vptr, inst_fn, SProp, emp, Lft, Fml, ftrue, fsep, flft, sem, ‵, raw}
use Rattle.atomic_table.proofs.Names.{◌⊛◌, given, mean, at_ret, ◌$◌, ◌∵◌, !, qed, by, move, keep, drop, split}
use Rattle.atomic_table.proofs.Names.{split3, join, fsplit, fsplit3, fjoin, fjoin3, fpick, learn, use0, use1}
use Rattle.atomic_table.proofs.Names.{use3, rewrite, feq_i, stop, fld, load, lit, unit_lit, of_opd, bin}
use Rattle.atomic_table.proofs.Names.{no_more, and_then, first, blocks, exec, Calls-last, returns, enter}
use Rattle.atomic_table.proofs.Names.{alloc_all, pass_all, free_all, look_at, get, through, sets, lands_last}
use Rattle.atomic_table.proofs.Names.{is, env, agg, sub, whole, look_in, tables, yes, RattleType, owns}
use Rattle.atomic_table.proofs.Names.{types_at, plain, Ptr, block_ptr, ptr_val, nothing, param, bounded, Stays}
use Rattle.atomic_table.proofs.Names.{stay_dropped, walk_of, Goes-dropped, fact, fact_i, fact_use, Is, shows}
use Rattle.atomic_table.proofs.Names.{cell_at, peeks, block_of, count_of, at_block, Coded, via, guard_i, RefOf}
use Rattle.atomic_table.proofs.Names.{u64, usize, mut_vals, mut_Tells, shr_vals, shr_Tells, uint_vals}
use Rattle.atomic_table.proofs.Names.{uint_Tells, opens, closes, stay_ref, Goes-ref, unhide, hidden_shr, looks}
use Rattle.atomic_table.proofs.Names.{shuts, lent_out, Tuple, shr_bor-open, obor_close, tokens_halve}
use Rattle.atomic_table.proofs.Walks.{proved, leaves}
use Rattle.core.proofs.atomic.Steps.{tail}
use Rattle.core.specs.contracts.marker.PhantomData as marker
use Rattle.sparse_table.specs.Words.{step, Lays}
use Rattle.sparse_table.specs.contracts.span.Span as spans
use Rattle.sparse_table.specs.Owned.{WordsId, Sized, row, place, age, common, mine}
use Rattle.sparse_table.specs.contracts.words.Words as table
use Rattle.sparse_table.specs.contracts.words.Seat as seat
use Rattle.sparse_table.proofs.Fields.{hand_of, HandData, hand_told, hand_opens, strip_of, strip_good, span_told}
use Rattle.sparse_table.proofs.Moves.{placed, lays_on, became}
use Rattle.atomic_table.proofs.Calls.{fm, seq_cst, stored, has_stored, stores}
use Rattle.sparse_table.specs.contracts.words.Words.lay.{ended, clauses}
use Rattle.sparse_table.specs.contracts.words.Words.lay.Key.{name as #self}
use Rattle.sparse_table.proofs.words.Words.lay.Statement.{statement}
use Rattle.sparse_table.proofs.words.Words.lay.Code as code

pub lay_spec : {M : Type 1} → statement M
unfolding Rattle.sparse_table.specs.Owned.seal
lay_spec 𝓤 𝓛 𝓜 𝓡 wired U Q P Mv _ _ _ _ g d g' d' _ _ =
    let H = 𝓛.H in let 𝓣 = tables 𝓤 H 𝓜 𝓡 𝓡.env in let W : RattleType = param 0 U in let X : RattleType = param 1
    Q in let Y : RattleType = param 2 P in let En = ended U Q P Mv g d g' d' in
    let inst = bounded (a_type ∷ a_type ∷ a_type ∷ a_type ∷ []) (U, (Q, (P, (Mv, tt)))) (dcons d (dcons d' dnil)) in
    let fn = inst_fn inst code.function in
    let Row : RattleType = table.the_row W X Y g in let Sr : RattleType = seat.the_row W in
    let D : RattleType = HandData W X Y g in let self = RefOf (0 ∷ []) tt (plain (λ _. Row)) (λ _. tt) in
    let sitter = plain (λ _. Sr) in
    let hs : Stays En.signature.params En.kept = (
      stay_dropped self yes,
      (
        stay_ref (1 ∷ []) tt sitter,
        (
          stay_dropped (plain (λ _. usize)) yes,
          (
            stay_dropped (plain (λ _. u64)) yes,
            (stay_dropped (plain (λ _. usize)) yes, (stay_dropped (plain (λ _. spans.the_row)) yes, tt)),
          ),
        ),
      ),
    ) in
    let c = clauses U Q P Mv g d g' d' 𝓛 𝓜.mem 𝓡.returns in
    proved 𝓛 En hs c 𝓜 𝓡 (
      Goes-dropped 𝓛 6 self yes (λ κs x f. refl),
      (
        Goes-ref 𝓛 6 1 tt sitter,
        (
          Goes-dropped 𝓛 6 (plain (λ _. usize)) yes (λ κs x f. refl),
          (
            Goes-dropped 𝓛 6 (plain (λ _. u64)) yes
                (λ κs x f. refl),
            (
              Goes-dropped 𝓛 6 (plain (λ _. usize)) yes (λ κs x f. refl),
              (Goes-dropped 𝓛 6 (plain (λ _. spans.the_row)) yes (λ κs x f. refl), tt),
            ),
          ),
        ),
      ),
    ) (#self inst) fn
    (code.unfolded 𝓤 H 𝓜 𝓡 wired (U, (Q, (P, (Mv, tt)))) d d')
    (λ κs. (
      shr_vals,
      (
        mut_vals,
        (
          uint_vals w64,
          (
            uint_vals w64,
            (
              uint_vals w64,
              (
                (λ x. strip_of x.ptr ∷ []),
                tt,
              ),
            ),
          ),
        ),
      ),
    )) (λ κs. (
      shr_Tells (named 0) κs.0 Row,
      (
        mut_Tells (named 1) κs.1.0 Sr,
        (
          uint_Tells w64,
          (uint_Tells w64, (uint_Tells w64, ((λ x vs so. span_told x.ptr vs so.0), tt))),
        ),
      ),
    )) (λ κs qs bounds a gh are.
    let b : ℕ = a.0.ref_ptr.0 in let o : ℕ = a.0.ref_ptr.1 in let κ : Lft = κs.0 in let t : Row.Denot = a.0.now in
    let w : Ptr = t.ptr in let z : WordsId = t.id in let α : Lft = age z in
    let us : List Val = hand_of w ∷ [] in let cv : Coded U.Denot = W.coded in let C : Fml = common cv.code
    (g.holds t.key) w z in
    let b' : ℕ = a.1.0.ref_ptr.0 in let o' : ℕ = a.1.0.ref_ptr.1 in let h : Sr.Denot = a.1.0.now in
    let id : ℕ = h.id in let v : U.Denot = h.view in let i : ℕ = a.1.1.0 in
    let m : ℕ = a.1.1.1.0 in let from : ℕ = a.1.1.1.1.0 in let sp : Ptr = a.1.1.1.1.1.0.ptr in
    let xs : List ℕ = a.1.1.1.1.1.0.items in let then : U.Denot → Type 0 = g'.then (step i m 0) v m in
    let y : (walk_of 𝓛 En hs c).Ghost = (
      (
        κs,
        qs,
        bounds,
        a,
        (
          vptr a.0.ref_ptr.0 a.0.ref_ptr.1 ∷ [],
          (
            vptr a.1.0.ref_ptr.0 a.1.0.ref_ptr.1 ∷ [],
            (
              vint w64 a.1.1.0 ∷ [],
              (
                vint w64 a.1.1.1.0 ∷ [],
                (vint w64 a.1.1.1.1.0 ∷ [], (strip_of sp ∷ [], tt)),
              ),
            ),
          ),
        ),
      ),
      gh,
    ) in let Post : Val → SProp 𝓤 =
    (walk_of 𝓛 En hs c).post y in
    let others : Fml = fsep (flft κs.1.1.0 qs.1.1.0) (fsep (flft κs.1.1.1.0 qs.1.1.1.0)
    (fsep (flft κs.1.1.1.1.0 qs.1.1.1.1.0) (fsep (flft κs.1.1.1.1.1.0 qs.1.1.1.1.1.0) ftrue))) in
    qed 𝓛 (((‵ (flft κs.0 qs.0) ⊛ ‵ (flft κs.1.0 qs.1.0) ⊛ ‵ others) ⊛ ‵ (owns (types_at En.signature.params κs) a
    y.0.4)) ∷ raw (fact 𝓤 _) ∷ raw (fact 𝓤 _) ∷ raw (fact 𝓤 _) ∷ raw (fact 𝓤 _) ∷ given ((h.words ≡ z)
    × (i < z.words) × (sp ≡ place w from) × (from + length xs ≤ z.words) × Lays (g.holds t.key) id v i m from xs
    then) (‵ ftrue) ∷ []) ∵
    keep ! (5 ∷ 0 ∷ []) $ learn ! (λ asked. drop ! $ split ! $ split3 ! $ move ! (3 ∷ []) $ fsplit3 ! $ fsplit ! $
    move ! (2 ∷ []) $ fsplit3 ! $ move ! (5 ∷ []) $ fsplit3 ! $ move ! (2 ∷ []) $ fsplit3 ! $ move !
    (1 ∷ []) $ fsplit ! $ move ! (1 ∷ []) $ fsplit ! $ keep ! (11 ∷ 12 ∷ 8 ∷ 9 ∷ 13 ∷ 14 ∷ 1 ∷ []) $
    rewrite ! 6 (λ (u : Ptr). ‵ (row (block_of u) (count_of u) xs)) asked.2 refl $
    enter ! 𝓣.C 𝓣.Λ fn (vptr a.0.ref_ptr.0 a.0.ref_ptr.1 ∷ vptr a.1.0.ref_ptr.0 a.1.0.ref_ptr.1 ∷ vint w64 a.1.1.0 ∷
    vint w64 a.1.1.1.0 ∷ vint w64 a.1.1.1.1.0 ∷ strip_of sp ∷ []) Post $ alloc_all ! (λ l. pass_all ! refl (
      (tt, tt),
      (
        (tt, tt),
        (
          (tt, record { fits = are.1.1.0.1 }),
          (
            (tt, record { fits = are.1.1.1.0.1 }),
            ((tt, record { fits = are.1.1.1.1.0.1 }), (strip_good sp (subst InBlock (sym asked.2) tt), tt)),
          ),
        ),
      ),
    ) $ let Ev
    = env fn.locals l in
    use1 𝓛 (‵ (hidden_shr D κ (w, (tt, tt)) b o) ⊛ ‵ (base.Fml.fhide (table.the_lent W X Y g t (block_ptr b o) κ)))
    (lent_out 𝓛 (table.struct W X Y g) (table.the_codes U.Denot Q.Denot P.Denot W.coded X.coded Y.coded
    (marker.the_row (Tuple (Y ∷ W ∷ X ∷ []))).coded) (table.the_heap W X Y g) (table.the_lent W X Y g) κ t b o) $
    split ! $ move ! (1 ∷ []) $ unhide ! $ fsplit ! $ move ! (1 ∷ []) $
    use1 𝓛 (given (Sized w z.words) (‵ C)) (fact_use 𝓤 _ (placed 𝓛 cv (g.holds t.key) w z)
    (guard_i 𝓤 (Sized w z.words) (sem 𝓛 C))) $ learn ! (λ at. move ! (2 ∷ 3 ∷ []) $
    looks ! tt D (hand_opens W X Y g 𝓛) (w, (tt, tt)) b o (λ q' vs. move ! (1 ∷ []) $ peeks ! D (Is D) (shows 𝓛 D)
    (w, (tt, tt)) vs (λ is-so. let ev : vs ≡ us = hand_told W X Y g w vs is-so in
    rewrite ! 1 (λ (ws : List Val). ‵ (cell_at q' D.mir ws b o)) ev refl $ let inside : i < z.words = asked.1 in
    let room : z.words * 8 < 2 ^ 63 = at.1 in let small : i * 8 < 2 ^ 64 = omega arith in
    let e : ℕ = i * 8 + count_of w in first ! $ blocks ! $
    sets ! (is ! (of_opd ! (load ! (through ! refl (fld ! refl (stop !))) (look_in ! 1 (sub ! 0 refl (whole !)))))
    (ap ptr_val (at_block w at.0))) refl (tt, tt) $
    sets ! (bin ! (get ! refl) (lit ! tt) (record { fits = small })) refl (tt, record { fits = small }) $ sets !
    (bin ! (get ! refl) (get ! refl) tt) refl (tt, tt) $
    rewrite ! 1 (λ (ws : List Val). ‵ (cell_at q' D.mir ws b o)) (sym ev) refl $ move ! (1 ∷ 0 ∷ 2 ∷ []) $ shuts ! tt
    D q' (w, (tt, tt)) vs b o $ move ! (3 ∷ 0 ∷ []) $
    shr_bor-open ! tt (tokens_halve 𝓛 α) (λ s. let out : ℕ → Fml = λ n. fsep (flft α s)
    (became 𝓛 cv (g.holds t.key) w z s id v i m from then) in move ! (4 ∷ 5 ∷ 6 ∷ []) $ opens ! tt Sr b' o'
    (λ ts. move ! (1 ∷ []) $ fsplit ! $ rewrite ! 1 (λ (x : WordsId). ‵ (mine cv.code x id v)) asked.0 refl $
    move ! (1 ∷ 11 ∷ []) $ fjoin ! $ move ! (9 ∷ 7 ∷ 0 ∷ []) $
    use3 𝓛 (raw (𝓣.C _ (vptr (block_of w) e ∷ vint w64 a.1.1.1.0 ∷ seq_cst ∷ []) (λ u. mean 𝓛 (stored (out 0) u))))
    (via 𝓤 _ (lays_on 𝓛 cv (g.holds t.key) w z s id v i m from then xs inside asked.3 are.1.1.1.0.1 asked.4)
    (stores 𝓛 𝓜 𝓡 (code.calls-core::raw_atomic::store 𝓡.env wired) (block_ptr (block_of w) e) a.1.1.1.0
    are.1.1.1.0.1 (out 0))) $
    sets ! (agg ! (and_then ! (lit ! tt) (no_more !))) refl (tt, (record { fits = lit< tt }, tt)) $
    Calls-last ! (fm 𝓛 𝓜 𝓡) (stored (out 0)) (and_then ! (get ! refl) (and_then ! (get ! refl)
    (and_then ! (get ! refl) (no_more !)))) (λ u. has_stored ! (out 0) (let n : ℕ = 0 in
    lands_last ! refl (tt, tt) $ exec ! 𝓣.C 𝓣.Λ Ev (tail fn.body) (at_ret Ev Post) $ sets ! (of_opd ! (unit_lit !))
    refl (tt, tt) $
    fsplit ! $ move ! (7 ∷ 0 ∷ []) $ obor_close ! tt $ drop ! $ move ! (1 ∷ []) $ fpick ! (λ v'. fsplit ! $ fpick !
    (λ so. drop ! $
    let h' : Sr.Denot = record { marker = h.marker; words = z; id = id; view = v' } in let Told : Type 0 =
    (z ≡ h.words) × (id ≡ id) × then v' in
    move ! (2 ∷ 0 ∷ []) $ fjoin ! $ move ! (2 ∷ 0 ∷ 3 ∷ 4 ∷ 5 ∷ []) $ closes ! tt Sr h' ts b' o' $ feq_i ! (List Val)
    (vptr b' o' ∷ []) (vptr b' o' ∷ []) refl $ fjoin3 ! $
    nothing ! $ nothing ! $ fjoin ! $ nothing ! $ fjoin ! $ nothing ! $ fjoin ! $ nothing ! $ fjoin ! $ move !
    (1 ∷ 0 ∷ []) $ fjoin ! $ nothing ! $ fjoin ! $ move ! (1 ∷ 4 ∷ []) $ join ! $ move ! (2 ∷ 0 ∷ []) $ join ! $
    use0 𝓛 (raw (fact 𝓤 Told)) (fact_i 𝓤 Told (emp 𝓤) (sym asked.0, refl, so)) $ feq_i ! (List Val) (vunit ∷ [])
    (vunit ∷ []) refl $
    returns ! (look_at ! 0 refl) $ free_all ! refl $ keep ! (2 ∷ 3 ∷ 0 ∷ 1 ∷ []) $ by ! (leaves 𝓛 En hs c y vunit tt
    (tt, (h', (tt, (tt, (tt, (tt, tt)))))) (tt, (tt, (tt, (tt, (tt, (tt, tt)))))))))))))))))))
