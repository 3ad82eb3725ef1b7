-- A revision has one entry, whatever the schedule.
use Rattle.std.proofs.Common.{◌≡◌, ◌∙◌, ℕ, suc, Bool, true, false, List, [], ◌∷◌, ◌++◌, length, take, drop, map, Some, refl, sym, ap, subst}
use Rattle.std.specs.Prelude.{slice_get, ◌&&◌}
use Rattle.rev_num.specs.Path.{Path}
use Rattle.rev_num.specs.declared.value.ValueKind.{ValueKind}
use Rattle.rev_code.specs.declared.code.Code.{Code}
use Rattle.rev_code.specs.Words.{Word, fits, kind_of, zero_word}
use Rattle.rev_code.specs.State.{State}
use Rattle.rev_code.specs.Step.{params}
use Rattle.rev_num.specs.Value.{same_kind}
use Rattle.code_machine.specs.Local.{CodeRun, under, at_work, end_of}
use Rattle.code_machine.specs.Leg.{clock}
use Rattle.code_machine.specs.Machines.{machine, IsMain}
use Rattle.code_machine.proofs.MachineConditions.{counts}
use Rattle.code_memos.specs.Births.{Born}
use Rattle.code_memos.proofs.Births.{one_birth}
use Rattle.code_memos.specs.Leaf.{Fresh, IsFresh, Known, IsKnown}
use Rattle.code_memos.specs.Memo.{first, IsLeaf, IsEntry, IsAmong, OneEntry, OneMemo}
use Rattle.code_memos.proofs.Leaving.{one_body}

-- ---- what a fresh state tells

and_rest : (a b : Bool) → (a && b) ≡ true → b ≡ true
and_rest true b h = h
and_rest false b h = absurd (let z : false ≡ true = h in cc)

module _ {H : Type 0} where
  pub fits_length : (kinds : List ValueKind) (ws : List (Word H)) → fits kinds ws ≡ true → length ws ≡ length kinds
  fits_length [] [] h = refl
  fits_length [] (w ∷ ws) h = absurd (let z : false ≡ true = h in cc)
  fits_length (k ∷ kinds) [] h = absurd (let z : false ≡ true = h in cc)
  fits_length (k ∷ kinds) (w ∷ ws) h =
      ap suc (fits_length kinds ws (and_rest (same_kind k (kind_of w)) (fits kinds ws) h))

  take_first : (xs ys : List (Word H)) → take (length xs) (xs ++ ys) ≡ xs
  take_first [] ys = refl
  take_first (x ∷ xs) ys = ap (λ z. x ∷ z) (take_first xs ys)

  -- the arguments are the first locals
  pub args_are : (code : Code) (f : Fresh H) (c : State H) (a : IsFresh code f c)
      → take (length (params a.body)) c.locals ≡ f.args
  args_are code f c a =
      ap (λ z. take (length (params a.body)) z.locals) a.state
      ∙ ap (λ n. take n (f.args ++ map zero_word (drop (length f.args) a.body.locals)))
      (sym (fits_length (params a.body) f.args a.fits))
      ∙ take_first f.args (map zero_word (drop (length f.args) a.body.locals))

  pub one_args : (code : Code) (f f' : Fresh H) (c : State H) → IsFresh code f c → IsFresh code f' c → f.args ≡ f'.args
  one_args code f f' c a a' =
      let block : f.block ≡ f'.block = sym (ap (λ z. z.block) a.state) ∙ ap (λ z. z.block) a'.state in
      let body =
      one_body (slice_get code.blocks f.block) a.body a'.body a.is (ap (slice_get code.blocks) block ∙ a'.is) in
      sym (args_are code f c a) ∙ ap (λ b. take (length (params b)) c.locals) body ∙ args_are code f' c a'

known_one : (g : CodeRun) (c : State Path) (e e' : Known) → e.path ≡ e'.path → IsKnown (under g) (clock g c) e.path c e
    → IsKnown (under g) (clock g c) e'.path c e' → e ≡ e'
known_one g c e e' path k k' =
    let block : e.block ≡ e'.block =
    k.block_is ∙ sym (ap (λ z. z.block) k.fresh.state) ∙ ap (λ z. z.block) k'.fresh.state ∙ sym k'.block_is in
    let args : e.args ≡ e'.args =
    k.args_are ∙ one_args g.code k.begins k'.begins c k.fresh k'.fresh ∙ sym k'.args_are in
    let fuel : e.fuel ≡ e'.fuel =
    k.fuel_is ∙ sym (ap (λ z. z.fuel) k.fresh.state) ∙ ap (λ z. z.fuel) k'.fresh.state ∙ sym k'.fuel_is in
    let reads : e.reads ≡ e'.reads = k.reads_are ∙ sym k'.reads_are in
    let after : k.after ≡ k'.after = (let z : Some k.after ≡ Some k'.after = sym k.ended ∙ k'.ended in cc) in
    let end : e.end ≡ e'.end = k.end_is ∙ ap end_of after ∙ sym k'.end_is in
    λ j. record { path = path j; block = block j; args = args j; fuel = fuel j; reads = reads j; end = end j }

pub one_entry : OneEntry
one_entry g ok number main fuel rs h complete e e' x x' path =
    let same : at_work x.state ≡ at_work x'.state =
    one_birth (machine g) (first g number main fuel) (counts g ok) rs h complete e.path (at_work x.state)
    (at_work x'.state) x.born
    (subst (λ p. Born (machine g) (first g number main fuel) p (at_work x'.state)) (sym path) x'.born) in
    let state : x.state ≡ x'.state = ap (λ l. l.state) same in
    known_one g x'.state e e' path (subst (λ c. IsKnown (under g) (clock g c) e.path c e) state x.known) x'.known

-- an entry is one of a leaf
leaf_of : (g : CodeRun) (number : ℕ) (main : IsMain g number) (fuel : ℕ) (e : Known) (x : IsEntry g number main fuel e)
    → IsLeaf g number main fuel e.path x.known.begins
leaf_of g number main fuel e x =
    record { state = x.state; born = x.born; fresh = x.known.fresh; after = x.known.after; ends = x.known.ended }

among_is : (g : CodeRun) (number : ℕ) (main : IsMain g number) (fuel : ℕ) (e e' : Known) (es : List Known) → e ≡ e'
    → IsAmong g number main fuel e es → IsAmong g number main fuel e' es
among_is g number main fuel e e' es same h = subst (λ z. IsAmong g number main fuel z es) same h

pub one_memo : OneMemo
one_memo g ok number main fuel rs h complete es es' m m' e i =
    let x = m.each e i in
    let found = m'.all e.path x.known.begins (leaf_of g number main fuel e x) in
    let x' = m'.each found.0 found.1 in
    among_is g number main fuel found.0 e es' (one_entry g ok number main fuel rs h complete found.0 e x' x found.2)
    found.1
