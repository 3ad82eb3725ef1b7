-- `allocate` asks the allocator for the room of so many words.
use Rattle.std.proofs.Common.{◌≡◌, ℕ, ◌*◌, ◌^◌, ◌<◌, List, [], ◌∷◌, length, sym, refl, subst, arith, lit<, w64}
use Rattle.std.proofs.Common.{true, false}
use Rattle.std.specs.Prelude.{replicate}
use lib.ListN.{length-replicate}
use mir.Syntax.{Ty, Body, a_type, dcons, dnil, named}
use mir.Val.{Val, vint, vptr, vstruct, vcons, vnil}
use mir.MapTy.{inst_fn}
use base.Logic.{SProp, emp}
use base.Fml.{Lft, Share, Fml, ftrue, fsep, flft, Incl-trans}
use prog.Capped.{capped_is}
use prog.Wp.{Wp, after_seq, at_return}
use types.Kit.{◌∵◌, ‵, raw, ◌⊛◌, later, at_ret, ◌$◌, !, qed, by, move, keep, use0, use1, use2, split, join}
use types.Kit.{fsplit, fjoin, fpack, await, feq_i, any_q}
use types.Match.{live, vrt, in_variant}
use types.Run.{stop, fld, lit, switches_on, of_opd, bin, no_more, and_then, first, exec, returns, enter}
use types.ByLocal.{alloc_all, pass_all, free_all, look_at, get, get_in, get_tag, sets, sets_last, lands_as, env}
use types.Part.{agg, whole as all_of_it}
use contract.Running.{tables}
use contract.Monad.{fact, fact_i}
use contract.BorrowLft.{◌⊑◌}
use denote.Exit.{yes}
use denote.RattleType.{RattleType, owns, Valss}
use denote.Signature.{types_at, plain}
use denote.RawPtr.{Ptr, block_ptr}
use denote.Shadow.{makes_shadow}
use denote.Steps.{nothing, heard}
use denote.Param.{param, bounded}
use denote.Builtin.{RefOf, usize}
use denote.Ref.{shr_vals, shr_Tells}
use denote.Plain.{uint_vals, uint_Tells}
use denote.Struct.Struct.{within}
use denote.Struct.Declared as declared
use denote.Struct.Tuple.{Tuple, tuple_type}
use denote.Triple.Call.{calls_at}
use denote.Triple.Walked.{Stays, stay_dropped, walk_of, Goes-dropped}
use Rattle.core.specs.declared.result.Result.TheVariants.{Ok, Err}
use Rattle.core.specs.contracts.result.Result as Res
use Rattle.core.specs.contracts.alloc.AllocError as refusal
use Rattle.core.proofs.once.Made.{ok_of, err_of}
use Rattle.core.proofs.slots.Bodies.{after, head, arm_body}
use Rattle.core.proofs.alloc.Calls.{Al as Handle, Answer-typed, Takes, at_takes, Answered, Takes-goes}
use Rattle.core.proofs.alloc.Calls.{Takes-gives, answers}
use Rattle.atomic_table.proofs.Walks.{proved, leaves}
use Rattle.atomic_table.proofs.Calls.{fm}
use Rattle.sparse_table.specs.Words.{blank}
use Rattle.sparse_table.specs.Owned.{row, Sized, words_ty}
use Rattle.sparse_table.specs.contracts.span.Span as spans
use Rattle.sparse_table.specs.contracts.span.Right as right
use Rattle.sparse_table.proofs.Fields.{token_val, strip_of, SpanData, span_made, RightData, right_made}
use Rattle.sparse_table.proofs.Rows.{fresh}
use Rattle.sparse_table.specs.contracts.span.allocate.{ended, clauses}
use Rattle.sparse_table.specs.contracts.span.allocate.Key.{name as #self}
use Rattle.sparse_table.proofs.span.allocate.Statement.{statement}
use Rattle.sparse_table.proofs.span.allocate.Code as code

pub allocate_spec : {M : Type 1} → statement M
allocate_spec 𝓤 𝓛 𝓜 𝓡 wired Al LA ga da dd met _ =
    let H = 𝓛.H in let 𝓣 = tables 𝓤 H 𝓜 𝓡 𝓡.env in let Z : RattleType = param 0 Al in
    let Ws : RattleType = spans.the_row in let Rr : RattleType = right.the_row Z ga in
    let En = ended Al ga da dd in let c = clauses Al ga da dd 𝓛 𝓜.mem 𝓡.returns in let inst = bounded (a_type ∷ [])
    (Al, tt) (dcons da (dcons dd dnil)) in let fn = inst_fn inst code.function in
    let Hd : Handle = record { row = Al; laws = LA; g = ga; d = da; drops = dd } in let handle = RefOf (0 ∷ []) tt
    (plain (λ _. Z)) (λ _. tt) in
    let hs : Stays En.signature.params En.kept = (
      stay_dropped handle yes,
      (
        stay_dropped (plain (λ _. usize)) yes,
        tt,
      ),
    ) in let Two : RattleType = Tuple (Ws ∷ Rr ∷ []) in let Out : RattleType = Res.the_row Two refusal.the_row
    in
    proved 𝓛 En hs c 𝓜 𝓡 (
      Goes-dropped 𝓛 2 handle yes (λ κs x f. refl),
      (
        Goes-dropped 𝓛 2 (plain (λ _. usize)) yes
            (λ κs x f. refl),
        tt,
      ),
    ) (#self inst) fn (code.unfolded 𝓤 H 𝓜 𝓡 wired (Al, tt) da dd)
    (λ κs. (shr_vals, (uint_vals w64, tt))) (λ κs. (shr_Tells (named 0) κs.0 Z, (uint_Tells w64, tt)))
    (λ κs qs bounds a gh are.
    let hp : ℕ × ℕ = a.0.ref_ptr in let heap : Al.Denot = a.0.now in let n : ℕ = a.1.0 in let τ : Ty = words_ty n in
    let s : ℕ = n * 8 in let κ : Lft = κs.0 in let q : Share = qs.0 in let token : Ty → Ptr
    → Fml = ga.dealloc_token heap in let xs : List ℕ = replicate n blank in
    let y : (walk_of 𝓛 En hs c).Ghost = ((κs, qs, bounds, a, (vptr hp.0 hp.1 ∷ [], (vint w64 n ∷ [], tt))), gh) in
    let Post : Val → SProp 𝓤 = (walk_of 𝓛 En hs c).post y in
    let others : Fml = fsep (flft κs.1.0 qs.1.0) ftrue in let Fit : Type 0 = n * 8 < 2 ^ 63 in
    qed 𝓛 (((‵ (flft κ q) ⊛ ‵ others) ⊛ ‵ (owns (types_at En.signature.params κs) a y.0.4)) ∷ raw
    (fact 𝓤 (κs.1.0 ⊑ Al.lives)) ∷ raw (fact 𝓤 Fit) ∷ []) ∵
    move ! (1 ∷ 2 ∷ []) $ heard ! (κs.1.0 ⊑ Al.lives) (λ inside. heard ! Fit (λ fits. let small : s < 2 ^ 64 =
    (let x = fits in omega arith) in split ! $ split ! $ move ! (2 ∷ []) $ fsplit ! $ fsplit ! $ keep !
    (1 ∷ 3 ∷ 4 ∷ []) $
    enter ! 𝓣.C 𝓣.Λ fn (vptr hp.0 hp.1 ∷ vint w64 n ∷ []) Post $ alloc_all ! (λ l. pass_all ! refl
    ((tt, tt), ((tt, record { fits = are.1.0.1 }), tt)) $ let Ev = env fn.locals l in let both : Body = head
    (after 2 fn.body) in
    let Then = any_q (after_seq 𝓤 H (Wp 𝓤 H 𝓣.C 𝓣.Λ Ev (after 3 fn.body) (at_return 𝓤 H Ev Post))
    (at_return 𝓤 H Ev Post)) in let Asked = Takes Hd 𝓛 𝓜.mem 𝓡.returns in let w : Asked.Ghost = at_takes Hd 𝓛
    𝓜.mem 𝓡.returns κ q hp heap s 8 τ in
    sets ! (bin ! (get ! refl) (lit ! tt) (record { fits = small })) refl (tt, record { fits = small }) $
    use2 𝓛 (raw (Asked.pre w)) (Takes-goes Hd 𝓛 𝓜.mem 𝓡.returns κ q hp heap (Incl-trans bounds.0 inside) s 8 τ
    (capped_is s small) (capped_is 8 (lit< tt)) small (lit< tt)) $
    calls_at ! (fm 𝓛 𝓜 𝓡) Asked (met.allocate dd) w (and_then ! (get ! refl) (and_then ! (get ! refl)
    (and_then ! (lit ! tt) (no_more !)))) (λ u.
    use1 𝓛 (later (raw (Answered Hd 𝓛 𝓜.mem 𝓡.returns heap τ u) ⊛ ‵ (flft κ q))) (Takes-gives Hd 𝓛 𝓜.mem 𝓡.returns κ
    q hp heap s 8 τ u) $ await ! tt $ split ! $ move ! (1 ∷ 2 ∷ []) $ join ! $ move ! (1 ∷ []) $
    answers Hd ! 𝓜.mem 𝓡.returns heap τ u
    (λ b o e. let p : Ptr = block_ptr b o in let r₀ : Ws.Denot = record { ptr = p; items = xs } in
    let r₁ : Rr.Denot = record { marker = record {}; heap = heap; at = p; len = n } in
    let pair : Val = vstruct (vcons (strip_of p) (vcons token_val vnil)) in let val : Val = live 0
    (vcons pair vnil) in let good : mir.Val.WT val = (
      record { fits = lit< tt },
      (
        ((tt, tt), ((tt, tt), tt)),
        tt,
      ),
    ) in
    let Told : Type 0 = (xs ≡ xs) × (heap ≡ heap) × (p ≡ p) × (n ≡ n) in use1 𝓛 (‵ (row b o xs)) (fresh 𝓛 n b o) $
    nothing ! $ fpack ! (Sized p (length xs)) (λ _. ftrue) (
      tt,
      subst (λ (k : ℕ). k * 8 < 2 ^ 63)
          (sym (length-replicate n blank)) fits,
    ) $ fjoin ! $
    lands_as ! e refl (Answer-typed true b o) $ first ! $ switches_on ! (get_tag ! (vrt ! refl (fld ! refl (stop !)))
    (all_of_it !)) $ exec ! 𝓣.C 𝓣.Λ Ev (arm_body 0 both) Then $
    sets ! (of_opd ! (get_in ! (vrt ! refl (fld ! refl (stop !))) (in_variant ! 0 0 refl refl (all_of_it !)))) refl
    (tt, tt) $ sets ! (of_opd ! (get ! refl)) refl (tt, tt) $
    sets ! (agg ! (no_more !)) refl (tt, tt) $ sets ! (agg ! (and_then ! (get ! refl) (no_more !))) refl
    (tt, (tt, tt)) $ sets ! (agg ! (and_then ! (get ! refl) (no_more !))) refl (tt, (tt, tt)) $
    sets ! (agg ! (and_then ! (get ! refl) (and_then ! (get ! refl) (no_more !)))) refl
    (tt, ((tt, tt), ((tt, tt), tt))) $
    sets_last ! (agg ! (and_then ! (lit ! tt) (and_then ! (get ! refl) (no_more !)))) refl (tt, good) $ exec ! 𝓣.C
    𝓣.Λ Ev (after 3 fn.body) (at_ret Ev Post) $ sets ! (of_opd ! (get ! refl)) refl (tt, good) $
    use0 𝓛 (‵ (SpanData.own_val (p, tt) (strip_of p ∷ []))) (span_made 𝓛 p) $ fjoin ! $ move ! (1 ∷ []) $
    use0 𝓛 (‵ ((RightData Z ga).own_val (tt, tt) (token_val ∷ []))) (right_made Z ga 𝓛) $ fjoin ! $ nothing ! $ move
    ! (1 ∷ 0 ∷ []) $ fjoin ! $ move ! (1 ∷ 0 ∷ []) $ fjoin ! $
    feq_i ! (List Val) (pair ∷ []) (pair ∷ []) refl $ fjoin ! $
    fpack ! (Valss (Ws ∷ Rr ∷ [])) (within (declared.shape (tuple_type (Ws ∷ Rr ∷ []))) (r₀, (r₁, tt)) (pair ∷ []))
    (strip_of p ∷ [], (token_val ∷ [], tt)) $
    use1 𝓛 (‵ (Out.own_val (Ok (r₀, r₁)) (val ∷ []))) (ok_of 𝓛 Two refusal.the_row (r₀, r₁) pair) $
    use0 𝓛 (raw (fact 𝓤 Told)) (fact_i 𝓤 Told (emp 𝓤) (refl, refl, refl, refl)) $ nothing ! $ nothing ! $ fjoin ! $
    nothing ! $ fjoin ! $
    returns ! (look_at ! 0 refl) $ free_all ! refl $ keep ! (3 ∷ 0 ∷ 2 ∷ 1 ∷ []) $ by ! (leaves 𝓛 En hs c y val
    (Ok (r₀, r₁)) (tt, (tt, tt)) (tt, (tt, tt))))
    (λ e. let val : Val = live 1 (vcons (vstruct vnil) vnil) in let good : mir.Val.WT val =
    (record { fits = lit< tt }, (tt, tt)) in let F : Fml = refusal.the_row.own_val (record {})
    (vstruct vnil ∷ []) in
    lands_as ! e refl (Answer-typed false 0 0) $ first ! $ switches_on !
    (get_tag ! (vrt ! refl (fld ! refl (stop !))) (all_of_it !)) $ exec ! 𝓣.C 𝓣.Λ Ev (arm_body 1 both) Then $
    sets ! (of_opd ! (get_in ! (vrt ! refl (fld ! refl (stop !))) (in_variant ! 1 0 refl refl (all_of_it !)))) refl
    (tt, tt) $
    sets_last ! (agg ! (and_then ! (lit ! tt) (and_then ! (get ! refl) (no_more !)))) refl (tt, good) $ exec ! 𝓣.C
    𝓣.Λ Ev (after 3 fn.body) (at_ret Ev Post) $ sets ! (of_opd ! (get ! refl)) refl (tt, good) $
    use0 𝓛 (‵ F) (makes_shadow 𝓛 F (λ uss. (tt, tt)) (tt, (refl, tt))) $ use1 𝓛 (‵ (Out.own_val (Err (record {}))
    (val ∷ []))) (err_of 𝓛 Two refusal.the_row (record {}) (vstruct vnil)) $
    use0 𝓛 (raw (fact 𝓤 (Unit {0}))) (fact_i 𝓤 (Unit {0}) (emp 𝓤) tt) $ nothing ! $ nothing ! $ fjoin ! $ nothing ! $
    fjoin ! $
    returns ! (look_at ! 0 refl) $ free_all ! refl $ keep ! (3 ∷ 0 ∷ 2 ∷ 1 ∷ []) $ by ! (leaves 𝓛 En hs c y val
    (Err (record {})) (tt, (tt, tt)) (tt, (tt, tt)))))))))
