-- The block of a fun or merge gives the value of its body.
use Rattle.std.proofs.Common.{◌≡◌, ◌∙◌, ◌<◌, ◌≤◌, ℕ, zero, suc, ◌+◌, List, [], ◌∷◌, ◌++◌, length, map, take, Option, Some, None, Ok, Err, refl, sym, ap, subst, arith, true≢false}
use Rattle.std.specs.Prelude.{slice_get, if◌then◌else◌}
use Rattle.rev_num.specs.Path.{Path}
use Rattle.rev_num.specs.declared.value.Value.{Value}
use Rattle.rev_num.specs.declared.value.ValueKind.{ValueKind}
use Rattle.rev_num.specs.declared.value.ValueKind.TheVariants as k
use Rattle.rev_num.specs.declared.outcome.Cause.{Cause}
use Rattle.rev_num.specs.Value.{kind_of, same_kind}
use Rattle.rev_num.proofs.SameKinds.{same_kind_self}
use Rattle.rev_syntax.specs.Trees.{PlacedName, Parameter, Expression}
use Rattle.typed_programs.specs.Definitions.{names_of}
use Rattle.typed_programs.specs.Value as value
use Rattle.typed_programs.specs.Value.{Answer, Env, Funs, inside, value_by}
use Rattle.typed_programs.specs.Kinds.{Names}
use Rattle.typed_programs.specs.Scopes as scopes
use Rattle.rev_code.specs.declared.code.Code.{Code}
use Rattle.rev_code.specs.declared.code.CodeBlock.{CodeBlock}
use Rattle.rev_code.specs.declared.code.Instr.{Instr}
use Rattle.rev_code.specs.declared.code.Instr.TheVariants as i
use Rattle.rev_code.specs.Words.{fits}
use Rattle.rev_code.specs.State.{Fun, State, Setting}
use Rattle.rev_code.specs.Step as r
use Rattle.rev_code.specs.Step.{Comes, traps, ends, act_at, act_in, step, params, reach, onward}
use Rattle.rev_code.specs.Funs.{fun_start, answer, setting_of_fun, value_of}
use Rattle.code_generation.specs.Numbers.{Numbers, Scope, with_params}
use Rattle.code_generation.specs.Expressions.{expression_size, expression_code}
use Rattle.code_generation.specs.Generated.{fun_block, merge_block, kinds_of}
use Rattle.code_generation.specs.Stands.{HasAt}
use Rattle.code_generation.proofs.Standing.{parts_stand, whole_stands}
use Rattle.code_generation.proofs.Lengths.{and_one, expression_length}
use Rattle.expression_meaning.specs.Agrees as g
use Rattle.expression_meaning.specs.Agrees.{word, coded, IsOfKind, ArgsAre, FunReads, Reads, at_with, Gives, Onward}
use Rattle.expression_meaning.specs.Blocks.{IsBody, BlockGives, merge_params}
use Rattle.expression_meaning.proofs.Typing.{typed}
use Rattle.expression_meaning.proofs.Words.{args_fit, word_kind}
use Rattle.expression_meaning.proofs.Runs.{expression_runs}
use Rattle.expression_meaning.proofs.Params.{Known, params_known}
use Rattle.rev_num.proofs.Lists.{get_append_left}

pub take_all : {A : Type 0} (xs : List A) (n : ℕ) → n ≡ length xs → take n xs ≡ xs
take_all [] zero h = refl
take_all [] (suc n) h = absurd (omega (arith, h))
take_all (x ∷ xs) zero h = absurd (omega (arith, h))
take_all (x ∷ xs) (suc n) h = ap (λ z. x ∷ z) (take_all xs n (omega (arith, h)))

pub kinds_length : (ps : List Parameter) → length ps ≡ length (kinds_of ps)
kinds_length [] = refl
kinds_length (p ∷ ps) = ap suc (kinds_length ps)

-- ---- steps to later places are counted by the places

module _ (s : Setting Path) where
  later : (x y : State Path) → Onward s x y → x.at ≤ y.at
  later x y g.stay = omega arith
  later x y (g.move {c' = m} q j h) = let z = later m y h in omega (arith, j, z)

  -- an event, behind steps
  reached : (x y : State Path) (o : Comes Path) (n : ℕ) → Onward s x y → step s y ≡ o
      → ((f : State Path → Comes Path) → onward f o ≡ o) → y.at ≤ x.at + n → reach s n x ≡ o
  reached x y o zero g.stay e f h = e
  reached x y o (suc n) g.stay e f h = ap (onward (λ c. reach s n c)) e ∙ f (λ c. reach s n c)
  reached x y o zero (g.move {c' = m} q j p) e f h = absurd (let z = later m y p in omega (arith, j, z, h))
  reached x y o (suc n) (g.move {c' = m} q j p) e f h =
      ap (onward (λ c. reach s n c)) q ∙ reached m y o n p e f (omega (arith, j, h))

  get_inside : (xs : List Instr) (n : ℕ) (x : Instr) → slice_get xs n ≡ Some x → n < length xs
  get_inside [] n x h = absurd (let z : None ≡ Some x = h in cc)
  get_inside (y ∷ xs) zero x h = omega arith
  get_inside (y ∷ xs) (suc n) x h = let z = get_inside xs n x h in omega (arith, z)

  -- what traps is an instruction
  traps_inside : (b : CodeBlock) (c : State Path) (x : Cause) → slice_get s.code.blocks c.block ≡ Some b
      → step s c ≡ traps c x → c.at < length b.instrs
  traps_inside b c x here h = by (slice_get b.instrs c.at) refl
    where
      by : (o : Option Instr) → slice_get b.instrs c.at ≡ o → c.at < length b.instrs
      by (Some y) q = get_inside b.instrs c.at y q
      by None q = absurd (let z : r.stuck ≡ traps c x = sym (ap (act_in s c) here ∙ ap (act_at s b c) q) ∙ h in cc)

-- ---- a body in a frame of its own

module _ (code : Code) (before : List (Fun Path)) (at : ℕ) (n : Numbers) (c : Names) (fs : Funs) (ps : List Parameter)
    (r' : ValueKind) (body : Expression) (b : CodeBlock) where
  abbrev s : Setting Path
  s = setting_of_fun code before

  abbrev scope : Scope
  scope = with_params [] 0 ps

  module _ (is : IsBody code before n c fs ps r' body) (here : slice_get code.blocks at ≡ Some b)
      (locals : b.locals ≡ kinds_of ps) (count : b.params ≡ length ps) (result : b.result ≡ Some r')
      (instrs : b.instrs ≡ expression_code n scope body 0 ++ i.Return ∷ []) (xs : List Value)
      (args : ArgsAre ps xs) where
    abbrev a : State Path
    a = fun_start at b (map word xs)

    abbrev e : Env
    e = inside (names_of ps) xs

    known : Known (scopes.with_params [] ps) scope (value.bind_all value.nothing (names_of ps) xs) (map word xs)
    known = params_known c ps xs 0 [] [] value.nothing (map word xs) is.params args
        (λ j. ap (slice_get (map word xs)) (let z : 0 + j ≡ j = omega arith in z))
        (record { known = λ name t h. absurd (let z : None ≡ Some (Some t) = h in cc); free = λ name h. (refl, refl) })

    reads : Reads s n b scope c (scopes.with_params [] ps) e a
    reads = record {
      is = here;
      locals = λ name t h.
          (let d = known.known name t h in
          (d.0, d.1, (d.2.0, d.2.1, d.2.2, get_append_left (map word xs) _ d.0 (word d.2.0) d.2.3)));
      outside = λ name h no is_shared. known.free name no;
      scalars = λ name h no is_shared. absurd (let z : None ≡ Some h = sym (is.closed name) ∙ is_shared in cc);
      arrays = λ name h no is_shared. absurd (let z : None ≡ Some h = sym (is.closed name) ∙ is_shared in cc);
      inputs = λ h. absurd (true≢false (sym is.inside ∙ h));
    }

    abbrev size : ℕ
    size = expression_size body

    stands : HasAt b.instrs 0 (expression_code n scope body 0) × HasAt b.instrs (0 + size) (i.Return ∷ [])
    stands = parts_stand b.instrs (expression_code n scope body 0) (i.Return ∷ []) 0 size
        (expression_length n scope body 0) (subst (HasAt b.instrs 0) instrs (whole_stands b.instrs))

    runs : Gives s a 0 [] (0 + size) [] r' (value_by fs e body)
    runs = expression_runs s n b scope c (scopes.with_params [] ps) fs e a reads body r' 0 []
        (typed c (scopes.with_params [] ps) (λ name f. FunReads s (n.fun name) f (fs name)) body r' is.kind is.formed
        is.applies)
        stands.0

    long : length b.instrs ≡ size + 1
    long = ap length instrs ∙ and_one (expression_code n scope body 0) i.Return size (expression_length n scope body 0)

    -- the Return of a value
    returns : (x : Value) → kind_of x ≡ r'
        → step s (at_with a (0 + size) (word x ∷ [])) ≡ ends (at_with a (0 + size) (word x ∷ [])) (Some (word x))
    returns x kx =
        ap (act_in s (at_with a (0 + size) (word x ∷ []))) here
        ∙ ap (act_at s b (at_with a (0 + size) (word x ∷ []))) stands.1.0
        ∙ ap (λ o. r.return (at_with a (0 + size) (word x ∷ [])) o (word x ∷ [])) result
        ∙ ap (λ d. if d then ends (at_with a (0 + size) (word x ∷ [])) (Some (word x)) else r.stuck)
        (ap (same_kind r') (word_kind x ∙ kx) ∙ same_kind_self r')

    by_answer : (o : Answer) → Gives s a 0 [] (0 + size) [] r' o
        → (answer (reach s (length b.instrs) a) ≡ Some (coded o)) × IsOfKind r' o
    by_answer (Ok x) h = (
      ap answer (reached s a (at_with a (0 + size) (word x ∷ []))
          (ends (at_with a (0 + size) (word x ∷ [])) (Some (word x))) (length b.instrs) h.1 (returns x h.0) (λ f. refl)
          (let z = long in omega (arith, z))),
      h.0,
    )
    by_answer (Err x) h = (
      ap answer (reached s a (at_with a h.0 h.1) (traps (at_with a h.0 h.1) x) (length b.instrs) h.2 h.3 (λ f. refl)
          (let z = traps_inside s b (at_with a h.0 h.1) x here h.3 in omega (arith, z))),
      tt,
    )

    params_kinds : params b ≡ kinds_of ps
    params_kinds =
        ap (λ z. take z b.locals) count ∙ ap (take (length ps)) locals
        ∙ take_all (kinds_of ps) (length ps) (kinds_length ps)

    gives :
        (value_of code before at b (map word xs) ≡ Some (coded (value_by fs e body))) × IsOfKind r' (value_by fs e body)
    gives =
        let z = by_answer (value_by fs e body) runs in (
          ap (λ d. if d then answer (reach s (length b.instrs) a) else None)
              (ap (λ kinds. fits kinds (map word xs)) params_kinds ∙ args_fit ps xs args)
              ∙ z.0,
          z.1,
        )

pub fun_gives : (code : Code) (before : List (Fun Path)) (at : ℕ) (n : Numbers) (c : Names) (fs : Funs)
    (ps : List Parameter) (t : ValueKind) (body : Expression)
    → IsBody code before n c fs ps t body
    → slice_get code.blocks at ≡ Some (fun_block n ps t body)
    → BlockGives code before at (fun_block n ps t body) fs ps t body
fun_gives code before at n c fs ps t body is here xs args =
    gives code before at n c fs ps t body (fun_block n ps t body) is here refl refl refl refl xs args

pub merge_gives : (code : Code) (before : List (Fun Path)) (at : ℕ) (n : Numbers) (c : Names) (fs : Funs)
    (m j root : PlacedName) (body : Expression)
    → IsBody code before n c fs (merge_params m j root) k.Int body
    → slice_get code.blocks at ≡ Some (merge_block n m j root body)
    → BlockGives code before at (merge_block n m j root body) fs (merge_params m j root) k.Int body
merge_gives code before at n c fs m j root body is here xs args =
    gives code before at n c fs (merge_params m j root) k.Int body (merge_block n m j root body) is here refl refl refl
    refl xs args
