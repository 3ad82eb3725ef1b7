-- The blocks of funs and merges are accepted, one declaration after the other.
use Rattle.std.proofs.Common.{◌≡◌, ◌∙◌, ◌⊎◌, inl, inr, ◌<◌, ◌≤◌, ℕ, suc, ◌+◌, ◌*◌, Bool, true, false, ◌&&◌, ◌||◌, IsTrue, List, [], ◌∷◌, ◌++◌, length, length-append, take, Option, Some, None, refl, sym, ap, subst, arith, true≢false}
use Rattle.std.specs.Prelude.{slice_get, nat_lt, nat_le, if◌then◌else◌, Ok}
use Rattle.std.specs.List.{list_all}
use Rattle.std.proofs.lemmas.Bool.{leb-false}
use Rattle.std.proofs.lemmas.Bool.Decides.{nat_tests}
use Rattle.std.proofs.lemmas.List.{append-nil}
use Rattle.rev_num.proofs.Lists.{get_append}
use Rattle.rev_num.specs.declared.value.ValueKind.{ValueKind}
use Rattle.rev_num.specs.declared.value.ValueKind.TheVariants as k
use Rattle.rev_syntax.specs.Trees.{PlacedName, Parameter, Expression, Declaration, fun, merge, shared, proc, ProgramTree}
use Rattle.rev_syntax.specs.Small.{name_formed, expression_small, parameter_formed, declaration_small}
use Rattle.name_tables.specs.Names.{Name, same}
use Rattle.name_tables.specs.Table.{Table, find, added}
use Rattle.typed_programs.specs.FunRules.{Use, expression_uses, statements_uses, later_here, broken_by, broken_in, declarations_uses, first_fun, head}
use Rattle.typed_programs.specs.FunRules as rule
use Rattle.typed_programs.specs.declared.expanded.FunHead.{FunHead}
use Rattle.typed_programs.specs.Weights.{expression_weight}
use Rattle.name_tables.proofs.Tables.{find-added, or_else, or_else-none}
use Rattle.typed_programs.specs.Kinds.{Callee, Names, Locals}
use Rattle.typed_programs.specs.Typing.{HasKind}
use Rattle.typed_programs.proofs.Lists.{parts, failed, and_parts}
use Rattle.typed_programs.specs.Scopes as scopes
use Rattle.typed_programs.specs.Scopes.{fun_named, outside, within}
use Rattle.typed_programs.specs.Judgement.{ParamsNew, DeclarationsTyped}
use Rattle.typed_programs.specs.Limits.{funs, DeclarationsWithin}
use Rattle.typed_programs.proofs.Applying.{broken_parts, small_formed}
use Rattle.rev_code.specs.declared.code.Code.{Code}
use Rattle.rev_code.specs.declared.code.CodeBlock.{CodeBlock}
use Rattle.rev_code.specs.declared.code.Instr.TheVariants as i
use Rattle.code_rules.specs.declared.Cost.{Cost}
use Rattle.code_rules.specs.Pass.{is_value_class, block_fault, blocks_fault, fault_or, cost_at, no_cost, costs_too_much, most_need, most_count}
use Rattle.code_ways.specs.Breaks.{need_of_applied, total_count}
use Rattle.code_ways.specs.Certified.{cost_at_depth}
use Rattle.code_generation.specs.Numbers.{Numbers, numbers, Scope, fun_number, with_params}
use Rattle.code_generation.specs.Expressions.{expression_code}
use Rattle.code_generation.specs.Generated.{kinds_of, fun_block, merge_block, value_blocks, code_of}
use Rattle.code_generation.proofs.Naming.{fun_stands}
use Rattle.code_generation.proofs.Inside.{jumps_stay}
use Rattle.expression_meaning.specs.Blocks.{merge_params}
use Rattle.expression_meaning.proofs.Typed.{Typed}
use Rattle.expression_meaning.proofs.Typing.{typed}
use Rattle.typed_programs.proofs.Firsts.{first_from}
use Rattle.typed_programs.proofs.MergeParams.{merge_new}
use Rattle.typed_programs.proofs.Uses.{OfUses, uses_fine}
use Rattle.expression_meaning.proofs.Uses.{Use_can, applies}
use Rattle.generated_certificates.specs.Expressions.{expression_depth}
use Rattle.generated_certificates.specs.Means.{FunMeans, NamesMean}
use Rattle.generated_certificates.specs.RulesKept.{IsWithin}
use Rattle.generated_blocks.specs.Notes.{value_notes}
use Rattle.generated_blocks.proofs.Certificates.{returns_at_end, accepts, at_most}
use Rattle.generated_blocks.proofs.Weights.{IsPaid, count_both, need_both, depth_within, costs_within}
use Rattle.generated_blocks.proofs.Params.{params_mean}
use Rattle.generated_blocks.proofs.Bodies.{value_kept}
use Rattle.code_generation.proofs.BlockRules.{kinds_length}
use Rattle.code_soundness.proofs.Basics.{get_last, take_front}
use Rattle.code_generation.proofs.BlockPlaces.{Stand, first_stands, rest_stands}
use Rattle.code_generation.proofs.Standing.{whole_stands}

-- ---- limits

within_limits : (c : Cost) → c.need ≤ 65536 → c.count ≤ 262144 → costs_too_much c ≡ false
within_limits c p q =
    let a : nat_lt most_need c.need ≡ false = grind (arith, nat_tests, p) in
    let b : nat_lt most_count c.count ≡ false = grind (arith, nat_tests, q) in
    λ j. a j || b j

-- ---- the funs of a program

module _ (p : ProgramTree) where
  abbrev inner : Names
  inner = within p.declarations

  abbrev code : Code
  code = code_of p

  abbrev n : Numbers
  n = numbers p

  pub fun_means : (at : ℕ) (name : Name) (f : Callee) → fun_named p.declarations name ≡ Some f → n.fun name < at
      → FunMeans code at n name f
  fun_means at name f h less =
      let d = fun_stands p name f h in
      record {
        earlier = less;
        block = fun_block n f.params d.result d.body;
        is = d.stands;
        class = refl;
        params = ap (take (length f.params)) (sym (append-nil (kinds_of f.params)))
            ∙ take_front (kinds_of f.params) [] (length f.params) (kinds_length f.params);
        result = sym d.gives;
      }

  -- the fun of a name comes later: its head and its number are those from there on, and it has no weight yet
  record Ahead (ws : Table ℕ) (at d m : ℕ) (rest : List Declaration) (name : Name) (h : FunHead) : Type 0 where
    first : first_fun d m rest name ≡ Some h
    number : n.fun name ≡ at + fun_number name rest
    free : find name ws ≡ None

  -- what is known at the block `at`, with these declarations still to come: each block before has its cost, and
  -- each fun is paid for under its name, or comes later
  record Sofar (ws : Table ℕ) (costs : List Cost) (at d m : ℕ) (rest : List Declaration) : Type 0 where
    many : length costs ≡ at
    names : (name : Name) (h : FunHead) → rule.fun_named p name ≡ Some h
        → ((f : Callee) → IsPaid ws costs at n name f) ⊎ Ahead ws at d m rest name h

  module _ (ws : Table ℕ) (costs : List Cost) (at d m : ℕ) (rest : List Declaration)
      (sofar : Sofar ws costs at d m rest) (Can : Name → Callee → Type 0)
      (able : (name : Name) (f : Callee) → IsPaid ws costs at n name f → fun_named p.declarations name ≡ Some f
      → Can name f) where
    can_use : (x : Use) → broken_by x (rule.fun_named p x.name.text) ≡ [] → Use_can inner Can d x
    can_use x fine in_front f means = by (rule.fun_named p x.name.text) refl fine
      where
        earlier : (h : FunHead) → nat_le x.within h.decl ≡ false
            → ((f : Callee) → IsPaid ws costs at n x.name.text f) ⊎ Ahead ws at d m rest x.name.text h
            → Can x.name.text f
        earlier h e (inl g) = able x.name.text f (g f) means
        earlier h e (inr q) =
            let from = first_from d m rest x.name.text h q.first in
            let less = leb-false x.within h.decl e in
            absurd (omega (arith, from, less, in_front))

        by : (o : Option FunHead) → rule.fun_named p x.name.text ≡ o → broken_by x o ≡ [] → Can x.name.text f
        by None e q = absurd cc
        by (Some h) e q =
            earlier h (failed (nat_le x.within h.decl) _ (parts (later_here x h) _ q).0) (sofar.names x.name.text h e)

    can_apply : (xs : List Use) → broken_in (rule.fun_named p) xs ≡ [] → OfUses (Use_can inner Can d) xs
    can_apply = uses_fine (Use_can inner Can d) (rule.fun_named p) can_use

  -- ---- one block

  record Accepted (ws : Table ℕ) (costs : List Cost) (at : ℕ) (b : CodeBlock) (weight : ℕ) : Type 0 where
    cost : Cost
    is : block_fault code costs at b ≡ Ok cost
    count : cost.count ≤ 4 * weight
    need : 8 * cost.need ≤ 7 * weight + 72 * suc at

  block_accepted : (few : (name : Name) (f : Callee) → fun_named p.declarations name ≡ Some f → length f.params ≤ 8)
      (ws : Table ℕ) (costs : List Cost) (at d m : ℕ) (rest : List Declaration)
      → Sofar ws costs at d m rest → at < 256
      → (b : CodeBlock) (ps : List Parameter) (r : ValueKind) (body : Expression) → ParamsNew inner [] ps
      → HasKind inner (scopes.with_params [] ps) body r → expression_small body ≡ true
      → broken_in (rule.fun_named p) (expression_uses d body) ≡ [] → length ps ≤ 8 → expression_weight ws body ≤ 65536
      → slice_get code.blocks at ≡ Some b → is_value_class b.class ≡ true → b.locals ≡ kinds_of ps → b.result ≡ Some r
      → b.instrs ≡ expression_code n (with_params [] 0 ps) body 0 ++ i.Return ∷ []
      → Accepted ws costs at b (expression_weight ws body)
  block_accepted few ws costs at d m rest sofar under b ps r body new has small fine params light here value locals
      result instrs =
      let l : Locals = scopes.with_params [] ps in
      let scope : Scope = with_params [] 0 ps in
      let deepest : ℕ = expression_depth body in
      let formed = small_formed body small in
      let uses : (Can : Name → Callee → Type 0)
      → ((name : Name) (f : Callee) → IsPaid ws costs at n name f → fun_named p.declarations name ≡ Some f → Can name f)
      → Typed inner l Can body r
      = λ Can able.
      typed inner l Can body r has formed
      (applies inner Can d body (can_apply ws costs at d m rest sofar Can able (expression_uses d body) fine)) in
      let means = uses (λ name f. FunMeans code at n name f) (λ name f paid e. fun_means at name f e paid.earlier) in
      let short = uses (λ name f. length f.params ≤ 8) (λ name f paid e. few name f e) in
      let paid = uses (λ name f. IsPaid ws costs at n name f) (λ name f paid e. paid) in
      let w : IsWithin b deepest = record {
        jumps = λ j x e. jumps_stay p at b j x here e;
        ends = returns_at_end b (expression_code n scope body 0) instrs;
        small = λ e. absurd (true≢false (sym value ∙ e));
      } in
      let known : NamesMean code b n inner [] [] = record {
        locals = λ name t e. absurd (let z : None ≡ Some (Some t) = e in cc);
        free = λ name e. refl;
        shared = λ name h e. absurd (let z : None ≡ Some h = e in cc);
        inputs = λ e. absurd (true≢false e);
      } in
      let named =
      params_mean code b n inner ps 0 [] [] new
      (subst (λ xs. Rattle.code_generation.specs.Stands.HasItems xs 0 (kinds_of ps)) (sym locals)
      (whole_stands (kinds_of ps)))
      known in
      let kept = value_kept code at b deepest n inner l scope w named body r means result instrs (omega arith) in
      let long = ap length instrs ∙ length-append (expression_code n scope body 0) (i.Return ∷ []) in
      let some : 0 < length b.instrs = omega (arith, long) in
      let depth = depth_within inner l (λ name f. length f.params ≤ 8) (λ name f h. h) body r short in
      let costs_in = costs_within ws costs at n scope inner l body r 0 paid in
      let c1 = costs_in.count in
      let c2 = costs_in.need in
      let all_count : total_count costs b.instrs ≡ total_count costs (expression_code n scope body 0) + 1 =
      ap (total_count costs) instrs ∙ count_both costs (expression_code n scope body 0) (i.Return ∷ []) in
      let need_two = need_both costs (expression_code n scope body 0) (i.Return ∷ []) in
      let all_need : need_of_applied costs b.instrs ≡ need_of_applied costs (expression_code n scope body 0) =
      ap (need_of_applied costs) instrs ∙ omega (arith, need_two) in
      let many : length b.locals ≡ length ps = ap length locals ∙ kinds_length ps in
      let need_in :
      8 * (length b.locals + deepest + need_of_applied costs b.instrs) ≤ 7 * expression_weight ws body + 72 * suc at =
      omega (arith, depth, c2, all_need, many, params) in
      let count_in : total_count costs b.instrs ≤ 4 * expression_weight ws body = omega (arith, c1, all_count) in
      let cheap = within_limits (cost_at_depth costs b deepest) (omega (arith, need_in, light, under))
      (omega (arith, count_in, light)) in
      let found = accepts code at b (value_notes inner l body) deepest kept.0 some kept.1 costs (λ e. cheap) in
      let bound = at_most code at b (value_notes inner l body) deepest kept.0 some kept.1 costs found.0 value found.1 in
      let b1 = bound.need in
      let b2 = bound.count in
      record { cost = found.0; is = found.1; count = omega (arith, b2, count_in); need = omega (arith, b1, need_in) }

  -- ---- one more

  paid_more : (ws : Table ℕ) (costs : List Cost) (at : ℕ) (w : Name) (weight : ℕ) (new : Cost) (name : Name)
      (f : Callee)
      → length costs ≡ at → IsPaid ws costs at n name f
      → IsPaid (added ws w weight) (costs ++ new ∷ []) (suc at) n name f
  paid_more ws costs at w weight new name f many h =
      let e = h.earlier in
      let same_cost : cost_at (costs ++ new ∷ []) (n.fun name) ≡ cost_at costs (n.fun name) =
      ap (λ o. elim o [ None ↦ no_cost | Some c ↦ c ])
      (get_append costs (new ∷ []) (n.fun name) (omega (arith, e, many))) in
      let c1 = h.count in
      let c2 = h.need in
      record {
        weight = h.weight;
        found = find-added name w weight ws ∙ ap (λ o. or_else o (if same name w then Some weight else None)) h.found;
        earlier = omega (arith, e);
        count = subst (λ c. c.count ≤ 4 * h.weight) (sym same_cost) c1;
        need = subst (λ c. 8 * c.need ≤ 7 * h.weight + 72 * suc at) (sym same_cost) (omega (arith, c2));
      }

  paid_same : (ws : Table ℕ) (costs : List Cost) (at : ℕ) (new : Cost) (name : Name) (f : Callee) → length costs ≡ at
      → IsPaid ws costs at n name f → IsPaid ws (costs ++ new ∷ []) (suc at) n name f
  paid_same ws costs at new name f many h =
      let e = h.earlier in
      let same_cost : cost_at (costs ++ new ∷ []) (n.fun name) ≡ cost_at costs (n.fun name) =
      ap (λ o. elim o [ None ↦ no_cost | Some c ↦ c ])
      (get_append costs (new ∷ []) (n.fun name) (omega (arith, e, many))) in
      let c1 = h.count in
      let c2 = h.need in
      record {
        weight = h.weight;
        found = h.found;
        earlier = omega (arith, e);
        count = subst (λ c. c.count ≤ 4 * h.weight) (sym same_cost) c1;
        need = subst (λ c. 8 * c.need ≤ 7 * h.weight + 72 * suc at) (sym same_cost) (omega (arith, c2));
      }

  longer : (costs : List Cost) (new : Cost) (at : ℕ) → length costs ≡ at → length (costs ++ new ∷ []) ≡ suc at
  longer costs new at h = let z = length-append costs (new ∷ []) in omega (arith, z, h)

  -- so it is behind a fun too, with its weight under its name and the cost of its block
  after_fun : (ws : Table ℕ) (costs : List Cost) (at d m : ℕ) (w : PlacedName) (ps : List Parameter) (r : ValueKind)
      (body : Expression) (es : List Declaration)
      → Sofar ws costs at d m (fun w ps r body ∷ es)
      → Accepted ws costs at (fun_block n ps r body) (expression_weight ws body) → (new : Cost)
      → new.count ≤ 4 * expression_weight ws body → 8 * new.need ≤ 7 * expression_weight ws body + 72 * suc at
      → Sofar (added ws w.text (expression_weight ws body)) (costs ++ new ∷ []) (suc at) (d + 1) (m + 1) es
  after_fun ws costs at d m w ps r body es sofar acc new count need =
      record { many = longer costs new at sofar.many; names = λ name h e. one name h (sofar.names name h e) }
    where
      weight : ℕ
      weight = expression_weight ws body

      here : (name : Name) (h : FunHead) (x : Bool) → same name w.text ≡ x
          → Ahead ws at d m (fun w ps r body ∷ es) name h
          → (if x then Some (head d m (length ps)) else first_fun (d + 1) (m + 1) es name) ≡ Some h
          → ((f : Callee) → IsPaid (added ws w.text (expression_weight ws body)) (costs ++ new ∷ []) (suc at) n name f)
          ⊎ Ahead (added ws w.text (expression_weight ws body)) (suc at) (d + 1) (m + 1) es name h
      here name h true e a q =
          let num : n.fun name ≡ at =
          a.number ∙ ap (λ x. at + (if x then 0 else suc (fun_number name es))) e
          ∙ (let z : at + 0 ≡ at = omega arith in z) in
          let is_cost : cost_at (costs ++ new ∷ []) (n.fun name) ≡ new =
          ap (λ o. elim o [ None ↦ no_cost | Some c ↦ c ])
          (ap (slice_get (costs ++ new ∷ [])) num ∙ get_last costs new at sofar.many) in
          inl (λ f. record {
            weight = expression_weight ws body;
            found = find-added name w.text (expression_weight ws body) ws
                ∙ ap (λ x. or_else (find name ws) (if x then Some (expression_weight ws body) else None)) e
                ∙ ap (λ o. or_else o (Some (expression_weight ws body))) a.free;
            earlier = omega (arith, num);
            count = subst (λ c. c.count ≤ 4 * expression_weight ws body) (sym is_cost) count;
            need = subst (λ c. 8 * c.need ≤ 7 * expression_weight ws body + 72 * suc at) (sym is_cost) need;
          })
      here name h false e a q =
          inr (record {
            first = q;
            number = a.number ∙ ap (λ x. at + (if x then 0 else suc (fun_number name es))) e
                ∙ (let z : at + suc (fun_number name es) ≡ suc at + fun_number name es = omega arith in z);
            free = find-added name w.text (expression_weight ws body) ws
                ∙ ap (λ x. or_else (find name ws) (if x then Some (expression_weight ws body) else None)) e
                ∙ or_else-none (find name ws) ∙ a.free;
          })

      one : (name : Name) (h : FunHead)
          → ((f : Callee) → IsPaid ws costs at n name f) ⊎ Ahead ws at d m (fun w ps r body ∷ es) name h
          → ((f : Callee) → IsPaid (added ws w.text (expression_weight ws body)) (costs ++ new ∷ []) (suc at) n name f)
          ⊎ Ahead (added ws w.text (expression_weight ws body)) (suc at) (d + 1) (m + 1) es name h
      one name h (inl g) =
          inl (λ f. paid_more ws costs at w.text (expression_weight ws body) new name f sofar.many (g f))
      one name h (inr a) = here name h (same name w.text) refl a a.first

  after_merge : (ws : Table ℕ) (costs : List Cost) (at d m : ℕ) (w x j r : PlacedName) (body : Expression)
      (es : List Declaration)
      → Sofar ws costs at d m (merge w x j r body ∷ es) → (new : Cost)
      → Sofar ws (costs ++ new ∷ []) (suc at) (d + 1) m es
  after_merge ws costs at d m w x j r body es sofar new =
      record { many = longer costs new at sofar.many; names = λ name h e. one name h (sofar.names name h e) }
    where
      one : (name : Name) (h : FunHead)
          → ((f : Callee) → IsPaid ws costs at n name f) ⊎ Ahead ws at d m (merge w x j r body ∷ es) name h
          → ((f : Callee) → IsPaid ws (costs ++ new ∷ []) (suc at) n name f) ⊎ Ahead ws (suc at) (d + 1) m es name h
      one name h (inl g) = inl (λ f. paid_same ws costs at new name f sofar.many (g f))
      one name h (inr a) = inr (record {
        first = a.first;
        number = a.number ∙ (let z : at + suc (fun_number name es) ≡ suc at + fun_number name es = omega arith in z);
        free = a.free;
      })

  after_other : (ws : Table ℕ) (costs : List Cost) (at d m : ℕ) (x : Declaration) (es : List Declaration)
      → ((name : Name) → first_fun d m (x ∷ es) name ≡ first_fun (d + 1) m es name)
      → ((name : Name) → fun_number name (x ∷ es) ≡ fun_number name es) → Sofar ws costs at d m (x ∷ es)
      → Sofar ws costs at (d + 1) m es
  after_other ws costs at d m x es firsts nums sofar =
      record { many = sofar.many; names = λ name h e. one name h (sofar.names name h e) }
    where
      one : (name : Name) (h : FunHead) → ((f : Callee) → IsPaid ws costs at n name f) ⊎ Ahead ws at d m (x ∷ es) name h
          → ((f : Callee) → IsPaid ws costs at n name f) ⊎ Ahead ws at (d + 1) m es name h
      one name h (inl g) = inl g
      one name h (inr a) = inr (record {
        first = sym (firsts name) ∙ a.first;
        number = a.number ∙ ap (λ z. at + z) (nums name);
        free = a.free;
      })

  -- ---- all of them

  -- all funs are declared before what comes behind
  unfoldable pub AllBefore : ℕ → Type 0
  AllBefore at = (name : Name) (h : FunHead) → rule.fun_named p name ≡ Some h → n.fun name < at

  module _ (few : (name : Name) (f : Callee) → fun_named p.declarations name ≡ Some f → length f.params ≤ 8)
      (tail : List CodeBlock)
      (later : (costs : List Cost) (at : ℕ) → length costs ≡ at → AllBefore at → Stand p at tail
      → blocks_fault code costs at tail ≡ None) where
    walk : (ws : Table ℕ) (costs : List Cost) (at d m all : ℕ) (passed rest : List Declaration)
        → Sofar ws costs at d m rest → at + funs rest ≤ 256
        → DeclarationsTyped (outside p.declarations) inner passed rest → DeclarationsWithin ws rest
        → broken_in (rule.fun_named p) (declarations_uses all d rest) ≡ [] → IsTrue (list_all declaration_small rest)
        → Stand p at (value_blocks n rest ++ tail) → blocks_fault code costs at (value_blocks n rest ++ tail) ≡ None
    unfolding AllBefore
    walk ws costs at d m all passed [] sofar under typed' within' fine small stand =
        later costs at sofar.many before stand
      where
        before : (name : Name) (h : FunHead) → rule.fun_named p name ≡ Some h → n.fun name < at
        before name h e = by (sofar.names name h e)
          where
            by : ((f : Callee) → IsPaid ws costs at n name f) ⊎ Ahead ws at d m [] name h → n.fun name < at
            by (inl g) = (g (record { params = []; result = None })).earlier
            by (inr a) = absurd (let z : None ≡ Some h = a.first in cc)
    walk ws costs at d m all passed (fun w ps r body ∷ es) sofar under typed' within' fine small stand =
        let uses = broken_parts (rule.fun_named p) (expression_uses d body) (declarations_uses all (d + 1) es) fine in
        let smalls = and_parts (declaration_small (fun w ps r body)) (list_all declaration_small es) small in
        let small_body =
        (and_parts (name_formed w && list_all parameter_formed ps) (expression_small body) smalls.0).1 in
        let b : CodeBlock = fun_block n ps r body in
        let here = first_stands p at b (value_blocks n es ++ tail) stand in
        let acc =
        block_accepted few ws costs at d m (fun w ps r body ∷ es) sofar (omega (arith, under)) b ps r body
        typed'.0.params typed'.0.body small_body uses.0 within'.0.0 within'.0.1 here refl refl refl refl in
        ap (λ o. fault_or at o (λ cost. blocks_fault code (costs ++ cost ∷ []) (suc at) (value_blocks n es ++ tail)))
        acc.is
        ∙ walk (added ws w.text (expression_weight ws body)) (costs ++ acc.cost ∷ []) (suc at) (d + 1) (m + 1) all
        (fun w ps r body ∷ passed) es (after_fun ws costs at d m w ps r body es sofar acc acc.cost acc.count acc.need)
        (omega (arith, under)) typed'.1 within'.1 uses.1 smalls.1 (rest_stands p at b (value_blocks n es ++ tail) stand)
    walk ws costs at d m all passed (merge w x j r body ∷ es) sofar under typed' within' fine small stand =
        let uses = broken_parts (rule.fun_named p) (expression_uses d body) (declarations_uses all (d + 1) es) fine in
        let smalls = and_parts (declaration_small (merge w x j r body)) (list_all declaration_small es) small in
        let small_body =
        (and_parts (name_formed w && name_formed x && name_formed j && name_formed r) (expression_small body)
        smalls.0).1 in
        let b : CodeBlock = merge_block n x j r body in
        let here = first_stands p at b (value_blocks n es ++ tail) stand in
        let acc =
        block_accepted few ws costs at d m (merge w x j r body ∷ es) sofar (omega (arith, under)) b (merge_params x j r)
        k.Int body (merge_new inner (λ name. refl) x j r typed'.0.params) typed'.0.body small_body uses.0 (omega arith)
        within'.0 here refl refl refl refl in
        ap (λ o. fault_or at o (λ cost. blocks_fault code (costs ++ cost ∷ []) (suc at) (value_blocks n es ++ tail)))
        acc.is
        ∙ walk ws (costs ++ acc.cost ∷ []) (suc at) (d + 1) m all (merge w x j r body ∷ passed) es
        (after_merge ws costs at d m w x j r body es sofar acc.cost) (omega (arith, under)) typed'.1 within'.1 uses.1
        smalls.1 (rest_stands p at b (value_blocks n es ++ tail) stand)
    walk ws costs at d m all passed (shared x ∷ es) sofar under typed' within' fine small stand =
        let smalls = and_parts (declaration_small (shared x)) (list_all declaration_small es) small in
        walk ws costs at (d + 1) m all (shared x ∷ passed) es
        (after_other ws costs at d m (shared x) es (λ name. refl) (λ name. refl) sofar) under typed'.1 within'.1 fine
        smalls.1 stand
    walk ws costs at d m all passed (proc w ps r body ∷ es) sofar under typed' within' fine small stand =
        let uses = broken_parts (rule.fun_named p) (statements_uses all body) (declarations_uses all (d + 1) es) fine in
        let smalls = and_parts (declaration_small (proc w ps r body)) (list_all declaration_small es) small in
        walk ws costs at (d + 1) m all (proc w ps r body ∷ passed) es
        (after_other ws costs at d m (proc w ps r body) es (λ name. refl) (λ name. refl) sofar) under typed'.1 within'.1
        uses.1 smalls.1 stand

    -- from the first declaration on
    pub funs_accepted : (all : ℕ) → funs p.declarations ≤ 256
        → DeclarationsTyped (outside p.declarations) inner [] p.declarations → DeclarationsWithin [] p.declarations
        → broken_in (rule.fun_named p) (declarations_uses all 0 p.declarations) ≡ []
        → IsTrue (list_all declaration_small p.declarations)
        → Stand p 0 (value_blocks n p.declarations ++ tail)
        → blocks_fault code [] 0 (value_blocks n p.declarations ++ tail) ≡ None
    funs_accepted all under typed' within' fine small stand =
        walk [] [] 0 0 0 all [] p.declarations (record {
          many = refl;
          names = λ name h e. inr (record {
            first = e;
            number = (let z : fun_number name p.declarations ≡ 0 + fun_number name p.declarations = omega arith in z);
            free = refl;
          });
        }) (omega (arith, under)) typed' within' fine small stand
