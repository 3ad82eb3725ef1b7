-- `put` is a plain write.
use Rattle.atomic_table.proofs.Names.{◌≡◌, ◌≤◌, u64, vunit, unit_lit, subst, ℕ, ◌+◌, ◌*◌, ◌^◌, ◌<◌, List, []}
use Rattle.atomic_table.proofs.Names.{◌∷◌, length, sym, refl, ap, ◌∙◌, arith, w64, named, Val, vint, vptr}
use Rattle.atomic_table.proofs.Names.{SProp, emp, all, apply∗, all_e, ftrue, flft, ‵, raw, ◌⊛◌, given, at_ret}
use Rattle.atomic_table.proofs.Names.{◌$◌, ◌∵◌, !, qed, by, move, keep, drop, split, join, fsplit, fsplit3}
use Rattle.atomic_table.proofs.Names.{fjoin, fjoin3, fpick, fpack, learn, use0, use1, use2, rewrite, feq_i}
use Rattle.atomic_table.proofs.Names.{stop, fld, load, lit, of_opd, bin, first, blocks, exec, returns, enter}
use Rattle.atomic_table.proofs.Names.{alloc_all, pass_all, free_all, look_at, get, through, sets, env, sub}
use Rattle.atomic_table.proofs.Names.{whole, look_in, tables, yes, owns, types_at, plain, Ptr, block_ptr}
use Rattle.atomic_table.proofs.Names.{nothing, Stays, stay_dropped, stay_ref, walk_of, Goes-dropped, Goes-ref}
use Rattle.atomic_table.proofs.Names.{fact, fact_i, shows, cell_at, peeks, block_of, count_of, at_block}
use Rattle.atomic_table.proofs.Names.{full_share, usize, mut_vals, mut_Tells, uint_vals, uint_Tells, opens}
use Rattle.atomic_table.proofs.Names.{closes}
use types.Logic.{sem}
use types.Run.{init, assigns_last}
use base.Fml.{froom}
use lib.ListN.{get_or, set, length-set}
use mir.Syntax.{ty_int}
use Rattle.core.proofs.atomic.Steps.{tail}
use Rattle.atomic_table.proofs.Walks.{proved, leaves}
use Rattle.sparse_table.specs.Words.{blank}
use Rattle.sparse_table.specs.Owned.{spot, row, Sized}
use Rattle.sparse_table.specs.contracts.span.Span as spans
use Rattle.sparse_table.proofs.Fields.{strip_of, span_told}
use Rattle.sparse_table.proofs.Rows.{Reset, row_at, number_in, spot_room}
use Rattle.sparse_table.specs.contracts.span.Span.put.{ended, clauses}
use Rattle.sparse_table.specs.contracts.span.Span.put.Key.{name as #self}
use Rattle.sparse_table.proofs.span.Span.put.Statement.{statement}
use Rattle.sparse_table.proofs.span.Span.put.Code as code

pub put_spec : {M : Type 1} → statement M
put_spec 𝓤 𝓛 𝓜 𝓡 wired =
    let H = 𝓛.H in let 𝓣 = tables 𝓤 H 𝓜 𝓡 𝓡.env in let Ws = spans.the_row in let En = ended in
    let c = clauses 𝓛 𝓜.mem 𝓡.returns in let fn = code.function in
    let hs : Stays En.signature.params En.kept = (
      stay_ref (0 ∷ []) tt (plain (λ _. Ws)),
      (stay_dropped (plain (λ _. usize)) yes, (stay_dropped (plain (λ _. u64)) yes, tt)),
    ) in
    proved 𝓛 En hs c 𝓜 𝓡 (
      Goes-ref 𝓛 1 0 tt (plain (λ _. Ws)),
      (
        Goes-dropped 𝓛 1 (plain (λ _. usize)) yes
            (λ κs x f. refl),
        (Goes-dropped 𝓛 1 (plain (λ _. u64)) yes (λ κs x f. refl), tt),
      ),
    ) #self fn
    (code.unfolded 𝓤 H 𝓜 𝓡 wired)
    (λ κs. (mut_vals, (uint_vals w64, (uint_vals w64, tt)))) (λ κs. (
      mut_Tells (named 0) κs.0 Ws,
      (
        uint_Tells w64,
        (uint_Tells w64, tt),
      ),
    )) (λ κs qs bounds a gh are.
    let b' : ℕ = a.0.ref_ptr.0 in let o' : ℕ = a.0.ref_ptr.1 in let h : Ws.Denot = a.0.now in let p : Ptr = h.ptr in
    let ns : List ℕ = h.items in let i : ℕ = a.1.0 in let n : ℕ = get_or ns i 0 in
    let b : ℕ = block_of p in let o : ℕ = count_of p in let e : ℕ = i * 8 + o in let x : ℕ = a.1.1.0 in
    let ms : List ℕ = set ns i x in
    let y : (walk_of 𝓛 En hs c).Ghost = (
      (
        κs,
        qs,
        bounds,
        a,
        (
          vptr b' o' ∷ [],
          (
            vint w64 i ∷ [],
            (
              vint w64 x ∷ [],
              tt,
            ),
          ),
        ),
      ),
      gh,
    ) in let Post : Val → SProp 𝓤 = (walk_of 𝓛 En hs c).post y in
    qed 𝓛 (((‵ (flft κs.0 qs.0) ⊛ ‵ ftrue) ⊛ ‵ (owns (types_at En.signature.params κs) a y.0.4)) ∷ given
    ((i < length ns) × (n ≤ blank)) (‵ ftrue) ∷ []) ∵
    move ! (1 ∷ []) $ learn ! (λ asked. drop ! $ split ! $ split ! $ move ! (2 ∷ []) $ fsplit ! $ fsplit3 ! $ keep !
    (1 ∷ 2 ∷ 4 ∷ 5 ∷ []) $
    enter ! 𝓣.C 𝓣.Λ fn (vptr b' o' ∷ vint w64 i ∷ vint w64 x ∷ []) Post $ alloc_all ! (λ l. pass_all ! refl
    ((tt, tt), ((tt, record { fits = are.1.0.1 }), ((tt, record { fits = are.1.1.0.1 }), tt))) $ let Ev = env
    fn.locals l in
    opens ! tt Ws b' o' (λ ts. move ! (1 ∷ []) $ peeks ! Ws _ (shows 𝓛 Ws) h ts (λ is. fsplit ! $ move !
    (1 ∷ []) $ fsplit ! $ fpick ! (λ sized. drop ! $
    let ev : ts ≡ strip_of (block_ptr b o) ∷ [] = span_told p ts is.0 ∙ ap (λ (q : Ptr). strip_of q ∷ [])
    (at_block p sized.0) in let Cell = λ (ws : List Val). ‵ (cell_at full_share Ws.mir ws b' o') in
    use1 𝓛 (‵ (spot b e n) ⊛ raw (all 𝓤 (Reset 𝓛 b o e ns i))) (row_at 𝓛 b o e ns i asked.0 refl) $ split ! $ use1 𝓛
    (‵ (froom (ty_int w64) b e)) (spot_room 𝓛 b e n asked.1) $
    rewrite ! 3 Cell ev refl $ let near : i * 8 < 2 ^ 64 = (let k = sized.1 in let l = asked.0 in omega arith) in
    first ! $ blocks ! $
    sets ! (of_opd ! (load ! (through ! refl (fld ! refl (stop !))) (look_in ! 3 (sub ! 0 refl (whole !))))) refl
    (tt, tt) $
    sets ! (bin ! (get ! refl) (lit ! tt) (record { fits = near })) refl (tt, record { fits = near }) $ sets !
    (bin ! (get ! refl) (get ! refl) tt) refl (tt, tt) $
    assigns_last ! (of_opd ! (get ! refl)) (through ! refl (stop !))
    (init ! 0 refl (tt, record { fits = are.1.1.0.1 })) $ exec ! 𝓣.C 𝓣.Λ Ev (tail fn.body) (at_ret Ev Post) $
    sets ! (of_opd ! (unit_lit !)) refl (tt, tt) $
    rewrite ! 3 Cell (sym ev) refl $ use1 𝓛 (‵ (spot b e x)) (number_in 𝓛 b e x are.1.1.0.1) $ move ! (1 ∷ []) $ use1
    𝓛 (raw (Reset 𝓛 b o e ns i x)) (all_e 𝓤 (Reset 𝓛 b o e ns i) x) $ move ! (1 ∷ 0 ∷ []) $
    use2 𝓛 (‵ (row b o ms)) (apply∗ 𝓤 (sem 𝓛 (spot b e x)) (sem 𝓛 (row b o ms))) $
    nothing ! $ fpack ! (Sized p (length ms)) (λ _. ftrue) (
      sized.0,
      subst (λ (k : ℕ). k * 8 < 2 ^ 63)
          (sym (length-set ns i x)) sized.1,
    ) $ fjoin ! $ move ! (1 ∷ []) $ fjoin ! $ move ! (1 ∷ []) $
    closes ! tt Ws (record { ptr = p; items = ms }) ts b' o' $ feq_i ! (List Val) (vptr b' o' ∷ []) (vptr b' o' ∷ [])
    refl $ fjoin3 ! $ nothing ! $ nothing ! $ fjoin ! $ nothing ! $ fjoin ! $ move ! (1 ∷ 0 ∷ []) $ fjoin ! $
    move ! (1 ∷ 2 ∷ []) $ join ! $
    let Told : Type 0 = (p ≡ p) × (ms ≡ ms) in use0 𝓛 (raw (fact 𝓤 Told)) (fact_i 𝓤 Told (emp 𝓤) (refl, refl)) $
    feq_i ! (List Val) (vunit ∷ []) (vunit ∷ []) refl $
    returns ! (look_at ! 0 refl) $ free_all ! refl $ keep ! (2 ∷ 3 ∷ 0 ∷ 1 ∷ []) $ by ! (leaves 𝓛 En hs c y vunit tt
    (record { ptr = p; items = ms }, (tt, (tt, tt))) (tt, (tt, (tt, tt))))))))))
