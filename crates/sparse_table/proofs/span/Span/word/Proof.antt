-- `word` is a plain read.
use Rattle.atomic_table.proofs.Names.{◌≡◌, ℕ, ◌+◌, ◌*◌, ◌^◌, ◌<◌, List, [], ◌∷◌, length, sym, refl, ap, ◌∙◌}
use Rattle.atomic_table.proofs.Names.{arith, w64, named, Val, vint, vptr, SProp, emp, all, apply∗, all_e, ftrue}
use Rattle.atomic_table.proofs.Names.{flft, ‵, raw, ◌⊛◌, given, at_ret, ◌$◌, ◌∵◌, !, qed, by, move, keep, drop}
use Rattle.atomic_table.proofs.Names.{split, join, fsplit, fsplit3, fjoin, fjoin3, fpick, fpack, learn, use0}
use Rattle.atomic_table.proofs.Names.{use1, use2, rewrite, feq_i, flt_i, stop, fld, load, lit, of_opd, bin}
use Rattle.atomic_table.proofs.Names.{first, blocks, exec, returns, enter, alloc_all, pass_all, free_all}
use Rattle.atomic_table.proofs.Names.{look_at, get, through, sets, env, sub, whole, look_in, tables, yes, owns}
use Rattle.atomic_table.proofs.Names.{types_at, plain, Ptr, block_ptr, nothing, Stays, stay_dropped, stay_ref}
use Rattle.atomic_table.proofs.Names.{walk_of, Goes-dropped, Goes-ref, fact, fact_i, shows, cell_at, peeks}
use Rattle.atomic_table.proofs.Names.{block_of, count_of, at_block, full_share, usize, mut_vals, mut_Tells}
use Rattle.atomic_table.proofs.Names.{uint_vals, uint_Tells, opens, closes, WT}
use types.Run.{look}
use types.ByLocal.{sets_last}
use types.Logic.{sem}
use lib.Dec.{T}
use lib.ListN.{get_or, set}
use mir.Syntax.{ty_int}
use mir.Val.{has_ty}
use Rattle.core.proofs.atomic.Steps.{tail}
use Rattle.atomic_table.proofs.Walks.{proved, leaves}
use Rattle.atomic_table.specs.Seated.{word}
use Rattle.sparse_table.specs.Words.{blank}
use Rattle.sparse_table.specs.Owned.{spot, row, Sized}
use Rattle.sparse_table.specs.contracts.span.Span as spans
use Rattle.sparse_table.proofs.Fields.{strip_of, span_told}
use Rattle.sparse_table.proofs.Moves.{set_same}
use Rattle.sparse_table.proofs.Rows.{Reset, row_at, number_out, number_in}
use Rattle.sparse_table.specs.contracts.span.Span.word.{ended, clauses}
use Rattle.sparse_table.specs.contracts.span.Span.word.Key.{name as #self}
use Rattle.sparse_table.proofs.span.Span.word.Statement.{statement}
use Rattle.sparse_table.proofs.span.Span.word.Code as code

pub word_spec : {M : Type 1} → statement M
word_spec 𝓤 𝓛 𝓜 𝓡 wired =
    let H = 𝓛.H in let 𝓣 = tables 𝓤 H 𝓜 𝓡 𝓡.env in let Ws = spans.the_row in let En = ended in
    let c = clauses 𝓛 𝓜.mem 𝓡.returns in let fn = code.function in
    let hs : Stays En.signature.params En.kept = (
      stay_ref (0 ∷ []) tt (plain (λ _. Ws)),
      (stay_dropped (plain (λ _. usize)) yes, tt),
    ) in
    proved 𝓛 En hs c 𝓜 𝓡 (
      Goes-ref 𝓛 1 0 tt (plain (λ _. Ws)),
      (
        Goes-dropped 𝓛 1 (plain (λ _. usize)) yes
            (λ κs x f. refl),
        tt,
      ),
    ) #self fn (code.unfolded 𝓤 H 𝓜 𝓡 wired)
    (λ κs. (mut_vals, (uint_vals w64, tt))) (λ κs. (mut_Tells (named 0) κs.0 Ws, (uint_Tells w64, tt)))
    (λ κs qs bounds a gh are.
    let b' : ℕ = a.0.ref_ptr.0 in let o' : ℕ = a.0.ref_ptr.1 in let h : Ws.Denot = a.0.now in let p : Ptr = h.ptr in
    let ns : List ℕ = h.items in let i : ℕ = a.1.0 in let n : ℕ = get_or ns i 0 in
    let b : ℕ = block_of p in let o : ℕ = count_of p in let e : ℕ = i * 8 + o in
    let y : (walk_of 𝓛 En hs c).Ghost = ((κs, qs, bounds, a, (vptr b' o' ∷ [], (vint w64 i ∷ [], tt))), gh) in
    let Post : Val → SProp 𝓤 = (walk_of 𝓛 En hs c).post y in
    qed 𝓛 (((‵ (flft κs.0 qs.0) ⊛ ‵ ftrue) ⊛ ‵ (owns (types_at En.signature.params κs) a y.0.4)) ∷ given
    ((i < length ns) × (n < blank)) (‵ ftrue) ∷ []) ∵
    move ! (1 ∷ []) $ learn ! (λ asked. drop ! $ split ! $ split ! $ move ! (2 ∷ []) $ fsplit ! $ fsplit3 ! $ keep !
    (1 ∷ 2 ∷ 4 ∷ 5 ∷ []) $
    enter ! 𝓣.C 𝓣.Λ fn (vptr b' o' ∷ vint w64 i ∷ []) Post $ alloc_all ! (λ l. pass_all ! refl
    ((tt, tt), ((tt, record { fits = are.1.0.1 }), tt)) $ let Ev = env fn.locals l in
    opens ! tt Ws b' o' (λ ts. move ! (1 ∷ []) $ peeks ! Ws _ (shows 𝓛 Ws) h ts (λ is. fsplit ! $ move !
    (1 ∷ []) $ fsplit ! $ fpick ! (λ sized. drop ! $
    let ev : ts ≡ strip_of (block_ptr b o) ∷ [] = span_told p ts is.0 ∙ ap (λ (q : Ptr). strip_of q ∷ [])
    (at_block p sized.0) in let Cell = λ (ws : List Val). ‵ (cell_at full_share Ws.mir ws b' o') in
    use1 𝓛 (‵ (spot b e n) ⊛ raw (all 𝓤 (Reset 𝓛 b o e ns i))) (row_at 𝓛 b o e ns i asked.0 refl) $ split ! $ use1 𝓛
    (‵ (word b e n)) (number_out 𝓛 b e n asked.1) $
    use1 𝓛 (given (T (has_ty (ty_int w64) (vint w64 n)) × WT (vint w64 n)) (‵ (word b e n))) (𝓛.laws.at_wt full_share
    (ty_int w64) b e (vint w64 n)) $ learn ! (λ typed.
    rewrite ! 3 Cell ev refl $ let near : i * 8 < 2 ^ 64 = (let x = sized.1 in let l = asked.0 in omega arith) in
    first ! $ blocks ! $
    sets ! (of_opd ! (load ! (through ! refl (fld ! refl (stop !))) (look_in ! 3 (sub ! 0 refl (whole !))))) refl
    (tt, tt) $
    sets ! (bin ! (get ! refl) (lit ! tt) (record { fits = near })) refl (tt, record { fits = near }) $ sets !
    (bin ! (get ! refl) (get ! refl) tt) refl (tt, tt) $
    sets_last ! (of_opd ! (load ! (through ! refl (stop !)) (look ! 0 refl))) refl typed $ exec ! 𝓣.C 𝓣.Λ Ev
    (tail fn.body) (at_ret Ev Post) $ sets ! (of_opd ! (get ! refl)) refl typed $
    rewrite ! 3 Cell (sym ev) refl $ use1 𝓛 (‵ (spot b e n)) (number_in 𝓛 b e n asked.1) $ move ! (1 ∷ []) $ use1 𝓛
    (raw (Reset 𝓛 b o e ns i n)) (all_e 𝓤 (Reset 𝓛 b o e ns i) n) $ move ! (1 ∷ 0 ∷ []) $
    use2 𝓛 (‵ (row b o (set ns i n))) (apply∗ 𝓤 (sem 𝓛 (spot b e n)) (sem 𝓛 (row b o (set ns i n)))) $ rewrite ! 0
    (λ (xs : List ℕ). ‵ (row b o xs)) (set_same ns i) refl $
    nothing ! $ fpack ! (Sized p (length ns)) (λ _. ftrue) sized $ fjoin ! $ move ! (1 ∷ []) $ fjoin ! $ move !
    (1 ∷ []) $
    closes ! tt Ws h ts b' o' $ feq_i ! (List Val) (vptr b' o' ∷ []) (vptr b' o' ∷ []) refl $ fjoin3 ! $ nothing ! $
    nothing ! $ fjoin ! $ move ! (1 ∷ 0 ∷ []) $ fjoin ! $ move ! (1 ∷ 2 ∷ []) $ join ! $
    let Told : Type 0 = (h ≡ h) × (n ≡ n) in use0 𝓛 (raw (fact 𝓤 Told)) (fact_i 𝓤 Told (emp 𝓤) (refl, refl)) $ flt_i
    ! n (2 ^ 64) typed.1.fits $ feq_i ! (List Val) (vint w64 n ∷ []) (vint w64 n ∷ []) refl $ fjoin ! $
    returns ! (look_at ! 0 refl) $ free_all ! refl $ keep ! (2 ∷ 3 ∷ 0 ∷ 1 ∷ []) $ by ! (leaves 𝓛 En hs c y
    (vint w64 n) n (h, (tt, tt)) (tt, (tt, tt))))))))))
