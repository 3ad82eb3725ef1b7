-- `release` puts the words together and gives the room back.
use Rattle.std.proofs.Common.{◌≡◌, ℕ, ◌*◌, ◌^◌, ◌<◌, ◌≤◌, List, [], ◌∷◌, length, get_or, sym, refl, subst}
use Rattle.std.proofs.Common.{arith, lit<, w64}
use mir.Syntax.{Ty, a_type, dcons, dnil, named}
use mir.Val.{Val, vunit, vint, vptr}
use mir.MapTy.{inst_fn}
use base.Logic.{SProp, ent, id⊢}
use base.Fml.{Lft, Share, Fml, ftrue, fsep, flft, froom, Incl-trans}
use prog.Wp.{WpFn}
use prog.Capped.{capped_is}
use types.Kit.{◌∵◌, ‵, raw, ◌⊛◌, given, later, at_ret, ◌$◌, !, qed, by, move, keep, use1, use3, drop, split}
use types.Kit.{join, fsplit, fsplit3, fjoin, fpick, learn, suffices, await, rewrite, feq_i}
use types.Run.{stop, fld, unit_lit, lit, of_opd, bin, no_more, and_then, first, blocks, exec, returns, enter}
use types.ByLocal.{alloc_all, pass_all, free_all, look_at, get, get_in, sets, lands_last, env}
use types.Part.{sub, whole as all_of_it}
use contract.Running.{tables}
use contract.Monad.{fact}
use contract.BorrowLft.{◌⊑◌}
use denote.Exit.{yes, no}
use denote.RattleType.{RattleType, owns}
use denote.Signature.{types_at, plain}
use denote.RawPtr.{Ptr, block_ptr, block_of, count_of, at_block}
use denote.Steps.{nothing, heard}
use denote.Param.{param, bounded}
use denote.Builtin.{RefOf, usize}
use denote.Ref.{shr_vals, shr_Tells}
use denote.Plain.{uint_vals, uint_Tells}
use denote.Triple.Call.{calls_at_last}
use denote.Triple.Walked.{Stays, stay_dropped, walk_of, Goes-dropped}
use Rattle.core.proofs.atomic.Steps.{tail}
use Rattle.core.proofs.alloc.Calls.{Al as Handle, Gives, at_gives, Gives-goes, Gives-Gives}
use Rattle.atomic_table.proofs.Walks.{proved, leaves}
use Rattle.atomic_table.proofs.Calls.{fm}
use Rattle.sparse_table.specs.Words.{blank}
use Rattle.sparse_table.specs.Owned.{words_ty}
use Rattle.sparse_table.specs.contracts.span.Span as spans
use Rattle.sparse_table.specs.contracts.span.Right as right
use Rattle.sparse_table.proofs.Fields.{token_val, strip_of, strip_good, span_told, right_told}
use Rattle.sparse_table.proofs.Rows.{emptied}
use Rattle.sparse_table.specs.contracts.span.Span.release.{ended, clauses}
use Rattle.sparse_table.specs.contracts.span.Span.release.Key.{name as #self}
use Rattle.sparse_table.proofs.span.Span.release.Statement.{statement}
use Rattle.sparse_table.proofs.span.Span.release.Code as code

pub release_spec : {M : Type 1} → statement M
release_spec 𝓤 𝓛 𝓜 𝓡 wired Al LA ga da dd met _ =
    let H = 𝓛.H in let 𝓣 = tables 𝓤 H 𝓜 𝓡 𝓡.env in let Z : RattleType = param 0 Al in
    let Ws : RattleType = spans.the_row in let Rr : RattleType = right.the_row Z ga in
    let En = ended Al ga da dd in let c = clauses Al ga da dd 𝓛 𝓜.mem 𝓡.returns in let inst = bounded (a_type ∷ [])
    (Al, tt) (dcons da (dcons dd dnil)) in let fn = inst_fn inst code.function in
    let Hd : Handle = record { row = Al; laws = LA; g = ga; d = da; drops = dd } in let handle = RefOf (0 ∷ []) tt
    (plain (λ _. Z)) (λ _. tt) in
    let hs : Stays En.signature.params En.kept = (
      stay_dropped (plain (λ _. Ws)) yes,
      (stay_dropped (plain (λ _. Rr)) no, (stay_dropped handle yes, (stay_dropped (plain (λ _. usize)) yes, tt))),
    )
    in
    proved 𝓛 En hs c 𝓜 𝓡 (
      Goes-dropped 𝓛 2 (plain (λ _. Ws)) yes (λ κs x f. refl),
      (
        Goes-dropped 𝓛 2 (plain (λ _. Rr)) no (λ κs x f. refl),
        (
          Goes-dropped 𝓛 2 handle yes (λ κs x f. refl),
          (Goes-dropped 𝓛 2 (plain (λ _. usize)) yes (λ κs x f. refl), tt),
        ),
      ),
    ) (#self inst) fn
    (code.unfolded 𝓤 H 𝓜 𝓡 wired (Al, tt) da dd)
    (λ κs. ((λ x. strip_of x.ptr ∷ []), ((λ _. token_val ∷ []), (shr_vals, (uint_vals w64, tt)))))
    (λ κs. (
      (λ x vs so. span_told x.ptr vs so.0),
      (
        (λ x vs so. right_told Z ga vs so.0),
        (shr_Tells (named 0) κs.0 Z, (uint_Tells w64, tt)),
      ),
    )) (λ κs qs bounds a gh are.
    let h : Ws.Denot = a.0 in let r : Rr.Denot = a.1.0 in let hp : ℕ × ℕ = a.1.1.0.ref_ptr in
    let heap : Al.Denot = a.1.1.0.now in let p : Ptr = h.ptr in let ns : List ℕ = h.items in
    let n : ℕ = a.1.1.1.0 in let τ : Ty = words_ty n in let s : ℕ = n * 8 in let κ : Lft = κs.0 in
    let q : Share = qs.0 in let token : Ty → Ptr → Fml = ga.dealloc_token heap in
    let y : (walk_of 𝓛 En hs c).Ghost = (
      (
        κs,
        qs,
        bounds,
        a,
        (
          strip_of p ∷ [],
          (
            token_val ∷ [],
            (
              vptr hp.0 hp.1 ∷ [],
              (vint w64 n ∷ [], tt),
            ),
          ),
        ),
      ),
      gh,
    ) in let Post : Val → SProp 𝓤 = (walk_of 𝓛 En hs c).post y in
    let others : Fml = fsep (flft κs.1.0 qs.1.0) ftrue in let Of : Type 0 = (r.heap ≡ heap) × (r.at ≡ p)
    × (r.len ≡ n) × (length ns ≡ n) in let Here : Type 0 = (k : ℕ) → k < n → get_or ns k 0 ≤ blank in
    let b : ℕ = block_of p in let o : ℕ = count_of p in let p' : Ptr = block_ptr b o in
    let us : Ptr → List Val = λ u. strip_of u ∷ token_val ∷ vptr hp.0 hp.1 ∷ vint w64 n ∷ [] in let Run : List Val
    → SProp 𝓤 = λ ws. WpFn 𝓤 H 𝓣.C 𝓣.Λ fn ws Post in
    qed 𝓛 (((‵ (flft κ q) ⊛ ‵ others) ⊛ ‵ (owns (types_at En.signature.params κs) a y.0.4)) ∷ raw
    (fact 𝓤 (κs.1.0 ⊑ Al.lives)) ∷ raw (fact 𝓤 Of) ∷ raw (fact 𝓤 Here) ∷ []) ∵
    move ! (1 ∷ 2 ∷ 3 ∷ []) $ heard ! (κs.1.0 ⊑ Al.lives) (λ inside. heard ! Of (λ asked. heard ! Here
    (λ here. split ! $ split ! $ move ! (2 ∷ []) $ fsplit3 ! $ fsplit ! $ move ! (1 ∷ []) $ fsplit ! $ fpick !
    (λ sized. drop ! $
    move ! (2 ∷ []) $ fsplit ! $ move ! (4 ∷ []) $ fsplit ! $ fsplit ! $ keep ! (4 ∷ 5 ∷ 1 ∷ 7 ∷ 8 ∷ []) $
    rewrite ! 0 (λ (u : Al.Denot × Ptr × ℕ). ‵ (ga.dealloc_token u.0 (words_ty u.2) u.1))
    (λ i. (asked.0 i, asked.1 i, asked.2 i)) refl $
    use1 𝓛 (‵ (token τ p')) (subst (λ (u : Ptr). ent 𝓤 (types.Logic.sem 𝓛 (token τ u)) (types.Logic.sem 𝓛
    (token τ p'))) (sym (at_block p sized.0)) (id⊢ 𝓤 _)) $ move ! (1 ∷ 0 ∷ []) $
    use1 𝓛 (‵ (froom (words_ty (length ns)) b o)) (emptied 𝓛 ns b o (λ k l. here k (let z = asked.3 in omega arith)))
    $ rewrite ! 0 (λ (k : ℕ). ‵ (froom (words_ty k) b o)) asked.3 refl $
    let small : s < 2 ^ 64 = (let x : length ns * 8 < 2 ^ 63 = sized.1 in let z = asked.3 in omega arith) in
    suffices ! (Run (us p')) (subst (λ (u : Ptr). ent 𝓤 (Run (us p')) (Run (us u))) (sym (at_block p sized.0))
    (id⊢ 𝓤 (Run (us p')))) $
    enter ! 𝓣.C 𝓣.Λ fn (us p') Post $ alloc_all ! (λ l. pass_all ! refl (
      strip_good p' tt,
      (
        (tt, (tt, tt)),
        ((tt, tt), ((tt, record { fits = are.1.1.1.0.1 }), tt)),
      ),
    ) $ let Ev = env fn.locals l in
    sets ! (of_opd ! (get_in ! (fld ! refl (stop !)) (sub ! 0 refl (all_of_it !)))) refl (tt, tt) $ first ! $ blocks
    ! $ sets ! (of_opd ! (get ! refl)) refl (tt, tt) $
    sets ! (bin ! (get ! refl) (lit ! tt) (record { fits = small })) refl (tt, record { fits = small }) $
    move ! (2 ∷ 3 ∷ []) $ join ! $ move ! (1 ∷ 2 ∷ 0 ∷ []) $ let Asks = Gives Hd 𝓛 𝓜.mem 𝓡.returns in
    let w : Asks.Ghost = at_gives Hd 𝓛 𝓜.mem 𝓡.returns κ q hp heap b o s 8 τ in
    use3 𝓛 (raw (Asks.pre w)) (Gives-goes Hd 𝓛 𝓜.mem 𝓡.returns κ q hp heap (Incl-trans bounds.0 inside) b o s 8 τ
    (capped_is s small) (capped_is 8 (lit< tt)) small (lit< tt)) $
    calls_at_last ! (fm 𝓛 𝓜 𝓡) Asks (met.deallocate dd) w (and_then ! (get ! refl) (and_then ! (get ! refl)
    (and_then ! (get ! refl) (and_then ! (lit ! tt) (no_more !))))) (λ u.
    use1 𝓛 (later (given (u ≡ vunit) (‵ (flft κ q)))) (Gives-Gives Hd 𝓛 𝓜.mem 𝓡.returns κ q hp heap b o s 8 τ u) $
    await ! tt $ learn ! (λ e. lands_last ! refl
    (subst (λ (z : Val). lib.Dec.T (mir.Val.has_ty mir.Syntax.ty_unit z) × mir.Val.WT z) (sym e) (tt, tt)) $
    exec ! 𝓣.C 𝓣.Λ Ev (tail (tail fn.body)) (at_ret Ev Post) $ sets ! (of_opd ! (unit_lit !)) refl (tt, tt) $ join !
    $ nothing ! $ feq_i ! (List Val) (vunit ∷ []) (vunit ∷ []) refl $ nothing ! $ nothing ! $ fjoin ! $ nothing !
    $ fjoin ! $ nothing ! $ fjoin ! $ nothing ! $ fjoin ! $
    returns ! (look_at ! 0 refl) $ free_all ! refl $ keep ! (3 ∷ 0 ∷ 1 ∷ 2 ∷ []) $ by ! (leaves 𝓛 En hs c y vunit tt
    (tt, (tt, (tt, (tt, tt)))) (tt, (tt, (tt, (tt, tt)))))))))))))
