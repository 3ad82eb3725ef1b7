-- The blocks of procedures and of `main` are accepted.
use Rattle.std.proofs.Common.{◌≡◌, ◌∙◌, ◌≤◌, ℕ, suc, ◌+◌, Bool, true, false, ◌&&◌, IsTrue, List, [], ◌∷◌, ◌++◌, length, length-append, map, Option, Some, None, refl, sym, ap, subst, arith, true≢false}
use Rattle.std.specs.Prelude.{slice_get, if◌then◌else◌, Ok}
use Rattle.std.specs.List.{list_all}
use Rattle.rev_num.specs.declared.value.ValueKind.{ValueKind}
use Rattle.rev_syntax.specs.Trees.{Parameter, Statements, Declaration, fun, merge, shared, proc, ProgramTree}
use Rattle.rev_syntax.specs.Small.{name_formed, parameter_formed, statements_small, declaration_small}
use Rattle.name_tables.specs.Names.{Name, same}
use Rattle.name_tables.specs.Table.{Table}
use Rattle.typed_programs.specs.FunRules.{first_fun, head}
use Rattle.typed_programs.specs.declared.expanded.FunHead.{FunHead}
use Rattle.typed_programs.specs.Weights.{weights_with}
use Rattle.typed_programs.specs.declared.names.Holder.{Holder}
use Rattle.typed_programs.specs.Kinds.{Callee, Names, Locals}
use Rattle.typed_programs.proofs.Lists.{and_parts}
use Rattle.typed_programs.specs.Scopes as scopes
use Rattle.typed_programs.specs.Scopes.{fun_named, proc_named, shared_named, outside, within, holder}
use Rattle.typed_programs.specs.Judgement.{ParamsNew, StatementsTyped, DeclarationsTyped}
use Rattle.typed_programs.specs.Limits.{BodyWithin, StatementsPrint, DeclarationsWithin}
use Rattle.typed_programs.specs.Layout.{SharedVariable, variable_behind, variables_behind, procedures}
use Rattle.revision_calculus.specs.Program.{procedure_named}
use Rattle.rev_code.specs.declared.code.Code.{Code}
use Rattle.rev_code.specs.declared.code.CodeBlock.{CodeBlock}
use Rattle.rev_code.specs.declared.code.Instr.TheVariants as i
use Rattle.code_rules.specs.declared.Cost.{Cost}
use Rattle.code_rules.specs.Pass.{is_value_class, block_fault, blocks_fault, fault_or, most_words}
use Rattle.code_soundness.proofs.Basics.{take_front}
use Rattle.code_generation.specs.Numbers.{Numbers, numbers, Scope, with_params, var_number, has_result}
use Rattle.code_generation.specs.Sizes.{statements_prints}
use Rattle.code_generation.specs.Prints.{statements_kinds, statements_texts, statements_layouts}
use Rattle.code_generation.specs.Generated.{kinds_of, var_of, body_code, body_locals, proc_block, main_block, body_blocks, layouts_of, code_of}
use Rattle.code_generation.proofs.Naming.{proc_stands}
use Rattle.code_generation.proofs.Inside.{jumps_stay}
use Rattle.code_generation.proofs.Lengths.{statements_prints_length}
use Rattle.generated_certificates.specs.Means.{NamesMean}
use Rattle.generated_certificates.specs.Bodies.{ProcMeans, BodyMeans}
use Rattle.generated_certificates.specs.RulesKept.{IsWithin}
use Rattle.generated_blocks.specs.Notes.{body_notes}
use Rattle.generated_blocks.proofs.Certificates.{returns_at_end, accepts}
use Rattle.generated_blocks.proofs.Params.{params_mean}
use Rattle.generated_blocks.proofs.Bodies.{body_kept, body_returns}
use Rattle.code_generation.proofs.BlockPlaces.{Stand, first_stands, rest_stands}
use Rattle.generated_blocks.proofs.Funs.{fun_means, AllBefore}
use Rattle.code_generation.proofs.BlockRules.{kinds_length}
use Rattle.code_generation.specs.Stands.{HasItems}
use Rattle.code_generation.proofs.Standing.{parts_stand, whole_stands}

-- ---- shared variables

-- the first variable of a name, in the table of variables
shared_stands : (all before es : List Declaration) (name : Name) (h : Holder) → shared_named es name ≡ Some h
    → (x : SharedVariable)
    × (slice_get (map (var_of all) (variables_behind before es)) (var_number name (variables_behind before es))
    ≡ Some (var_of all x))
    × (x.declared.holds ≡ h.kind) × (x.info.array ≡ h.array)
shared_stands all before [] name h e = absurd (let z : None ≡ Some h = e in cc)
shared_stands all before (shared x ∷ es) name h e =
    by (same name x.name.text) e (shared_stands all (before ++ shared x ∷ []) es name h)
  where
    more : List SharedVariable
    more = variables_behind (before ++ shared x ∷ []) es

    by : (d : Bool) → (if d then Some (holder x) else shared_named es name) ≡ Some h
        → (shared_named es name ≡ Some h
        → (y : SharedVariable)
        × (slice_get (map (var_of all) (variables_behind (before ++ shared x ∷ []) es))
        (var_number name (variables_behind (before ++ shared x ∷ []) es))
        ≡ Some (var_of all y))
        × (y.declared.holds ≡ h.kind) × (y.info.array ≡ h.array))
        → (y : SharedVariable)
        × (slice_get
        (var_of all (variable_behind before x) ∷ map (var_of all) (variables_behind (before ++ shared x ∷ []) es))
        (if d then 0 else suc (var_number name (variables_behind (before ++ shared x ∷ []) es)))
        ≡ Some (var_of all y))
        × (y.declared.holds ≡ h.kind) × (y.info.array ≡ h.array)
    by true q rec =
        let z : holder x ≡ h = cc in (variable_behind before x, refl, ap (λ y. y.kind) z, ap (λ y. y.array) z)
    by false q rec = rec q
shared_stands all before (fun w ps r body ∷ es) name h e =
    shared_stands all (before ++ fun w ps r body ∷ []) es name h e
shared_stands all before (merge w m j r body ∷ es) name h e =
    shared_stands all (before ++ merge w m j r body ∷ []) es name h e
shared_stands all before (proc w ps r body ∷ es) name h e =
    shared_stands all (before ++ proc w ps r body ∷ []) es name h e

-- ---- limits of parameters

pub few_of_fun : (ws : Table ℕ) (es : List Declaration) (name : Name) (f : Callee) → DeclarationsWithin ws es
    → fun_named es name ≡ Some f → length f.params ≤ 8
few_of_fun ws [] name f h e = absurd (let z : None ≡ Some f = e in cc)
few_of_fun ws (fun w ps r body ∷ es) name f h e =
    by (same name w.text) e (few_of_fun (weights_with ws (fun w ps r body)) es name f h.1)
  where
    by : (d : Bool) → (if d then Some (record { params = ps; result = Some r }) else fun_named es name) ≡ Some f
        → (fun_named es name ≡ Some f → length f.params ≤ 8) → length f.params ≤ 8
    by true q rec =
        subst (λ g. length g.params ≤ 8) (let z : record { params = ps; result = Some r } ≡ f = cc in z) h.0.0
    by false q rec = rec q
few_of_fun ws (merge w m j r body ∷ es) name f h e = few_of_fun ws es name f h.1 e
few_of_fun ws (shared x ∷ es) name f h e = few_of_fun ws es name f h.1 e
few_of_fun ws (proc w ps r body ∷ es) name f h e = few_of_fun ws es name f h.1 e

few_of_proc : (ws : Table ℕ) (es : List Declaration) (name : Name) (f : Callee) → DeclarationsWithin ws es
    → proc_named es name ≡ Some f → length f.params ≤ 8
few_of_proc ws [] name f h e = absurd (let z : None ≡ Some f = e in cc)
few_of_proc ws (proc w ps r body ∷ es) name f h e = by (same name w.text) e (few_of_proc ws es name f h.1)
  where
    by : (d : Bool) → (if d then Some (record { params = ps; result = r }) else proc_named es name) ≡ Some f
        → (proc_named es name ≡ Some f → length f.params ≤ 8) → length f.params ≤ 8
    by true q rec = subst (λ g. length g.params ≤ 8) (let z : record { params = ps; result = r } ≡ f = cc in z) h.0.0
    by false q rec = rec q
few_of_proc ws (fun w ps r body ∷ es) name f h e = few_of_proc (weights_with ws (fun w ps r body)) es name f h.1 e
few_of_proc ws (merge w m j r body ∷ es) name f h e = few_of_proc ws es name f h.1 e
few_of_proc ws (shared x ∷ es) name f h e = few_of_proc ws es name f h.1 e

-- a fun of the program has a number among those that the checker names
fun_head : (d m : ℕ) (es : List Declaration) (name : Name) (f : Callee) → fun_named es name ≡ Some f
    → (h : FunHead) × (first_fun d m es name ≡ Some h)
fun_head d m [] name f e = absurd (let z : None ≡ Some f = e in cc)
fun_head d m (fun w ps r body ∷ es) name f e = by (same name w.text) e (fun_head (d + 1) (m + 1) es name f)
  where
    by : (x : Bool) → (if x then Some (record { params = ps; result = Some r }) else fun_named es name) ≡ Some f
        → (fun_named es name ≡ Some f → (h : FunHead) × (first_fun (d + 1) (m + 1) es name ≡ Some h))
        → (h : FunHead) × ((if x then Some (head d m (length ps)) else first_fun (d + 1) (m + 1) es name) ≡ Some h)
    by true q rec = (head d m (length ps), refl)
    by false q rec = rec q
fun_head d m (merge w x j r body ∷ es) name f e = fun_head (d + 1) m es name f e
fun_head d m (shared x ∷ es) name f e = fun_head (d + 1) m es name f e
fun_head d m (proc w ps r body ∷ es) name f e = fun_head (d + 1) m es name f e

module _ (p : ProgramTree) (limits : DeclarationsWithin [] p.declarations) where
  abbrev outer : Names
  outer = outside p.declarations

  abbrev code : Code
  code = code_of p

  abbrev n : Numbers
  n = numbers p

  proc_means : (name : Name) (f : Callee) → proc_named p.declarations name ≡ Some f → ProcMeans code n name f
  proc_means name f h =
      let d = proc_stands p name f h in
      record {
        block = proc_block n outer f.params f.result (procedure_named (procedures p) name).body d.layout;
        is = d.stands;
        class = refl;
        params = take_front (kinds_of f.params)
            (statements_kinds outer (scopes.with_params [] f.params) (procedure_named (procedures p) name).body)
            (length f.params) (kinds_length f.params);
        result = refl;
        gives = ap has_result h;
        few = few_of_proc [] p.declarations name f limits h;
      }

  body_means : (at : ℕ) (b : CodeBlock) → AllBefore p at → is_value_class b.class ≡ false → BodyMeans code at b n outer
  unfolding AllBefore
  body_means at b before v = record {
    outside = v;
    funs = λ name f e.
        (let h = fun_head 0 0 p.declarations name f e in record {
          means = fun_means p at name f e (before name h.0 h.1);
          few = few_of_fun [] p.declarations name f limits e;
        });
    procs = proc_means;
  }

  nothing_known : (b : CodeBlock) → is_value_class b.class ≡ false → NamesMean code b n outer [] []
  nothing_known b v = record {
    locals = λ name t e. absurd (let z : None ≡ Some (Some t) = e in cc);
    free = λ name e. refl;
    shared = λ name h e.
        (let d = shared_stands p.declarations [] p.declarations name h e in
        record { var = var_of p.declarations d.0; is = d.1; kind = d.2; array = d.3; outside = v });
    inputs = λ e. v;
  }

  -- a block of a procedure or of `main`
  block_accepted : (costs : List Cost) (at : ℕ) → AllBefore p at
      → (b : CodeBlock) (ps : List Parameter) (result : Option ValueKind) (body : Statements) (texts layout : ℕ)
      → is_value_class b.class ≡ false → b.result ≡ result → b.locals ≡ body_locals outer ps body
      → b.instrs ≡ body_code n ps result body layout
      → slice_get code.blocks at ≡ Some b → ParamsNew outer [] ps
      → StatementsTyped outer result (scopes.with_params [] ps) body → statements_small body ≡ true
      → StatementsPrint body
      → HasItems code.layouts layout (statements_layouts outer (scopes.with_params [] ps) texts body)
      → (cost : Cost) × (block_fault code costs at b ≡ Ok cost)
  block_accepted costs at before b ps result body texts layout v res locals instrs here new ty sm pr lays =
      let scope : Scope = with_params [] 0 ps in
      let ends = body_returns n scope result body (record { at = 0; local = length ps; layout = layout }) in
      let is_end : b.instrs ≡ ends.0 ++ i.Return ∷ [] = instrs ∙ ends.1 in
      let w : IsWithin b most_words = record {
        jumps = λ j x e. jumps_stay p at b j x here e;
        ends = returns_at_end b ends.0 is_end;
        small = λ e. omega arith;
      } in
      let all_locals =
      subst (λ xs. HasItems xs 0 (body_locals outer ps body)) (sym locals) (whole_stands (body_locals outer ps body)) in
      let kinds =
      parts_stand b.locals (kinds_of ps) (statements_kinds outer (scopes.with_params [] ps) body) 0 (length ps)
      (kinds_length ps) all_locals in
      let named = params_mean code b n outer ps 0 [] [] new kinds.0 (nothing_known b v) in
      let from : 0 + length ps ≡ length ps = omega arith in
      let kept =
      body_kept code at b n outer result w (body_means at b before v) res ps body texts layout named ty sm pr
      (subst (λ z. HasItems b.locals z (statements_kinds outer (scopes.with_params [] ps) body)) from kinds.1) lays
      instrs in
      let long = ap length is_end ∙ length-append ends.0 (i.Return ∷ []) in
      accepts code at b (body_notes outer n ps result body) most_words kept.0 (omega (arith, long)) kept.1 costs
      (λ e. absurd (true≢false (sym e ∙ v)))

  more_before : (at : ℕ) → AllBefore p at → AllBefore p (suc at)
  unfolding AllBefore
  more_before at h name f e = let less = h name f e in omega (arith, less)

  -- all of them
  pub bodies_accepted : (costs : List Cost) (at texts layout : ℕ) (ws : Table ℕ) (passed rest : List Declaration)
      → AllBefore p at → DeclarationsTyped outer (within p.declarations) passed rest → DeclarationsWithin ws rest
      → IsTrue (list_all declaration_small rest) → StatementsTyped outer None [] p.main
      → IsTrue (statements_small p.main) → BodyWithin 0 p.main
      → HasItems code.layouts layout (layouts_of outer texts rest p.main)
      → Stand p at (body_blocks n outer rest p.main layout)
      → blocks_fault code costs at (body_blocks n outer rest p.main layout) ≡ None
  bodies_accepted costs at texts layout ws passed [] before typed' within' small main main_small main_within lays
      stand =
      let here = first_stands p at (main_block n outer p.main layout) [] stand in
      let acc =
      block_accepted costs at before (main_block n outer p.main layout) [] None p.main texts layout refl refl refl refl
      here tt main main_small main_within.1 lays in
      ap (λ o. fault_or at o (λ cost. blocks_fault code (costs ++ cost ∷ []) (suc at) [])) acc.1
  bodies_accepted costs at texts layout ws passed (proc w ps r body ∷ es) before typed' within' small main main_small
      main_within lays stand =
      let b : CodeBlock = proc_block n outer ps r body layout in
      let more : ℕ = layout + statements_prints body in
      let here = first_stands p at b (body_blocks n outer es p.main more) stand in
      let smalls = and_parts (declaration_small (proc w ps r body)) (list_all declaration_small es) small in
      let small_body = (and_parts (name_formed w && list_all parameter_formed ps) (statements_small body) smalls.0).1 in
      let l : Locals = scopes.with_params [] ps in
      let both =
      parts_stand code.layouts (statements_layouts outer l texts body)
      (layouts_of outer (texts + length (statements_texts body)) es p.main) layout (statements_prints body)
      (statements_prints_length outer l texts body) lays in
      let acc =
      block_accepted costs at before b ps r body texts layout refl refl refl refl here typed'.0.params typed'.0.body
      small_body within'.0.1.1 both.0 in
      ap (λ o. fault_or at o
      (λ cost. blocks_fault code (costs ++ cost ∷ []) (suc at) (body_blocks n outer es p.main more)))
      acc.1
      ∙ bodies_accepted (costs ++ acc.0 ∷ []) (suc at) (texts + length (statements_texts body)) more ws
      (proc w ps r body ∷ passed) es (more_before at before) typed'.1 within'.1 smalls.1 main main_small main_within
      both.1 (rest_stands p at b (body_blocks n outer es p.main more) stand)
  bodies_accepted costs at texts layout ws passed (fun w ps r body ∷ es) before typed' within' small main main_small
      main_within lays stand =
      bodies_accepted costs at texts layout (weights_with ws (fun w ps r body)) (fun w ps r body ∷ passed) es before
      typed'.1 within'.1 (and_parts (declaration_small (fun w ps r body)) (list_all declaration_small es) small).1 main
      main_small main_within lays stand
  bodies_accepted costs at texts layout ws passed (merge w m j r body ∷ es) before typed' within' small main main_small
      main_within lays stand =
      bodies_accepted costs at texts layout ws (merge w m j r body ∷ passed) es before typed'.1 within'.1
      (and_parts (declaration_small (merge w m j r body)) (list_all declaration_small es) small).1 main main_small
      main_within lays stand
  bodies_accepted costs at texts layout ws passed (shared x ∷ es) before typed' within' small main main_small
      main_within lays stand =
      bodies_accepted costs at texts layout ws (shared x ∷ passed) es before typed'.1 within'.1
      (and_parts (declaration_small (shared x)) (list_all declaration_small es) small).1 main main_small main_within
      lays stand
