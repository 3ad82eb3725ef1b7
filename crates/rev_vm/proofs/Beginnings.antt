-- A revision before its first instruction.
use Rattle.std.proofs.Common.{◌≡◌, ◌∙◌, ℕ, ◌+◌, ◌-◌, ◌≤◌, List, length, map, take, drop, Some, sym, ap, subst, arith}
use Rattle.std.specs.Prelude.{slice_get, slice_range}
use Rattle.std.proofs.Math.Nat.{min-le_right}
use Rattle.std.proofs.lemmas.List.{length-map, length-take, take-take}
use Rattle.rev_num.proofs.Options.{some_eq}
use Rattle.rev_code.specs.declared.code.CodeBlock.{CodeBlock}
use Rattle.rev_code.specs.State.{Listed, State}
use Rattle.rev_code.specs.Step.{params}
use Rattle.block_run.specs.Agreement.{AreWords}
use Rattle.version_map.specs.declared.delta.Delta.{Delta}
use Rattle.version_map.specs.Deltas.{at}
use Rattle.version_map.specs.Overlay as overlay
use Rattle.fun_run.proofs.Slices.{words_take}
use Rattle.code_machine.specs.Local.{CodeRun}
use Rattle.code_memos.specs.Leaf.{Fresh, IsFresh}
use Rattle.code_memos.proofs.Entries.{args_are}
use Rattle.leg_run.specs.declared.revision.Meeting.{Meeting}
use Rattle.leg_run.specs.declared.revision.Run.{Run}
use Rattle.leg_run.specs.Standing.{listed_as}
use Rattle.leg_run.proofs.Frames.{top_inside}
use Rattle.rev_vm.specs.Meaning.{IsAt}

-- as many meetings as the list of the state has entries
pub listed_many : (xs : List (Listed ℕ)) (ms : List Meeting) → xs ≡ map listed_as ms → length ms ≡ length xs
listed_many xs ms e = sym (length-map ms listed_as) ∙ ap length (sym e)

pub range_here : (xs : List ℕ) (b k : ℕ) → slice_range xs b (b + k) ≡ take k (drop b xs)
range_here xs b k = let e : b + k - b ≡ k = omega arith in ap (λ m. take m (drop b xs)) e

params_few : (b : CodeBlock) → length (params b) ≤ length b.locals
params_few b =
    let e = length-take b.params b.locals in let m = min-le_right b.params (length b.locals) in omega (arith, e, m)

module _ (g : CodeRun) (run : Run) (delta : Delta) (base : ℕ → ℕ) (first : Delta) (c : State ℕ)
    (h : IsAt g run delta base first c)
    (b : CodeBlock) (is : slice_get g.code.blocks run.registers.block ≡ Some b) where
  pub first_inside : run.registers.base + length (params b) ≤ length run.words.items
  first_inside =
      let s = h.stands in
      let same : s.body ≡ b = some_eq (sym s.is ∙ is) in
      let few = params_few b in
      let all = ap (λ (x : CodeBlock). length x.locals) same in
      let low : run.registers.base + length s.body.locals ≤ run.registers.top = s.here.top in
      let top =
      top_inside g.code h.verified g.inputs g.share run (overlay.under delta base) (at first) c s s.body s.is in
      omega (arith, few, all, low, top)

  pub first_args : (f : Fresh ℕ) → IsFresh g.code f c
      → AreWords f.args (take (length (params b)) (drop run.registers.base run.words.items))
  first_args f k =
      let s = h.stands in
      let same : s.body ≡ b = some_eq (sym s.is ∙ is) in
      let body : k.body ≡ b =
      some_eq
      (sym k.is ∙ ap (slice_get g.code.blocks) (sym (ap (λ (x : State ℕ). x.block) k.state) ∙ s.here.block) ∙ is) in
      let locals : AreWords c.locals (take (length s.body.locals) (drop run.registers.base run.words.items)) =
      s.here.run.locals in
      let few : length (params b) ≤ length s.body.locals =
      (let p = params_few b in let a = ap (λ (x : CodeBlock). length x.locals) same in omega (arith, p, a)) in
      let words =
      words_take (length (params b)) c.locals (take (length s.body.locals) (drop run.registers.base run.words.items))
      locals in
      let args : take (length (params b)) c.locals ≡ f.args =
      ap (λ (x : CodeBlock). take (length (params x)) c.locals) (sym body) ∙ args_are g.code f c k in
      subst (λ xs. AreWords xs (take (length (params b)) (drop run.registers.base run.words.items))) args
      (subst (AreWords (take (length (params b)) c.locals))
      (take-take (length (params b)) (length s.body.locals) (drop run.registers.base run.words.items) few) words)

pub inside_of : (base size : ℕ) (b b' : CodeBlock) (count : ℕ) → b ≡ b' → count ≡ length (params b')
    → base + length (params b) ≤ size → base + count ≤ size
inside_of base size b b' count same is h =
    let e = ap (λ (x : CodeBlock). length (params x)) same in omega (arith, e, is, h)
