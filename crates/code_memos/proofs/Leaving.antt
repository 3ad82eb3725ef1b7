-- A valid entry tells how a fresh revision ends.
use Rattle.std.proofs.Common.{◌≡◌, ◌∙◌, ℕ, zero, suc, ◌+◌, List, [], ◌∷◌, length, map, Option, Some, None, refl, sym, ap, subst, arith}
use Rattle.std.specs.Prelude.{slice_get}
use Rattle.rev_code.specs.declared.code.Code.{Code}
use Rattle.rev_code.specs.declared.code.CodeBlock.{CodeBlock}
use Rattle.rev_code.specs.Words.{Word}
use Rattle.rev_code.specs.State.{Location, Setting, State, written_at}
use Rattle.rev_code.specs.Step.{Comes, goes, traps, forks, joins, ends, stuck, reach}
use Rattle.rev_code.specs.Events.{start}
use Rattle.code_machine_laws.specs.Forms.{ComesTo, to_next, to_write, to_payment, to_trap, to_fork, to_join, to_end, to_nothing}
use Rattle.code_machine_laws.proofs.Forms.{holds_of_reach}
use Rattle.code_machine_laws.specs.Reads.{reach_reads}
use Rattle.code_machine_laws.specs.Moved.{over, moved, moved_comes, AllAgree}
use Rattle.code_machine_laws.specs.ReadLaws.{with_inputs}
use Rattle.code_machine_laws.proofs.Moving.{reach_same}
use Rattle.code_machine.specs.Local.{Local, with_entry, written_from, end_of}
use Rattle.code_memos.specs.Leaf.{Fresh, unwritten, IsFresh, ended_by, root_or, reroot, rerooted}
use Rattle.code_memos.specs.Laws.{ValidIsTheEnd}

-- ---- legs keep the number of locations

abbrev HasMany : {H : Type 0} → State H → Comes H → Type 0
HasMany c (goes d) = length d.locations ≡ length c.locations
HasMany c (traps d e) = length d.locations ≡ length c.locations
HasMany c (forks d n args) = length d.locations ≡ length c.locations
HasMany c (joins d try h) = length d.locations ≡ length c.locations
HasMany c (ends d w) = length d.locations ≡ length c.locations
HasMany c stuck = Unit {0}

module _ {H : Type 0} where
  written_many : (ls : List (Location H)) (n : ℕ) (w : Word H) → length (written_at ls n w) ≡ length ls
  written_many [] n w = refl
  written_many (l ∷ ls) zero w = refl
  written_many (l ∷ ls) (suc n) w = ap suc (written_many ls n w)

  form_many : (s : Setting H) (c : State H) (o : Comes H) → ComesTo s c o → HasMany c o
  form_many s c o (to_next block at locals stack below text more) = refl
  form_many s c o (to_write rest l w) = written_many c.locations l w
  form_many s c o (to_payment line fuel e) = refl
  form_many s c o (to_trap line e) = refl
  form_many s c o (to_fork n body args is e) = refl
  form_many s c o (to_join try h rest e) = refl
  form_many s c o (to_end w) = refl
  form_many s c o to_nothing = tt

  later_many : (c d : State H) (o : Comes H) → length d.locations ≡ length c.locations → HasMany d o → HasMany c o
  later_many c d (goes e) h k = k ∙ h
  later_many c d (traps e x) h k = k ∙ h
  later_many c d (forks e n args) h k = k ∙ h
  later_many c d (joins e try m) h k = k ∙ h
  later_many c d (ends e w) h k = k ∙ h
  later_many c d stuck h k = tt

  reach_many : (s : Setting H) (k : ℕ) (c : State H) → HasMany c (reach s k c)
  reach_many s k c = holds_of_reach s HasMany (form_many s) later_many k c

-- ---- ends over another snapshot

module _ {H : Type 0} where
  written_over : (n : ℕ) (ls : List (Location H)) (ys : List (Word H)) (root : ℕ → Option (Word H))
      → ((k : ℕ) → root (n + k) ≡ slice_get ys k) → length ys ≡ length ls
      → written_from n (over ys ls) ≡ map (reroot root) (written_from n ls)
  written_over n [] [] root at e = refl
  written_over n [] (y ∷ ys) root at e = absurd (omega (arith, e))
  written_over n (l ∷ ls) [] root at e = absurd (omega (arith, e))
  written_over n (l ∷ ls) (y ∷ ys) root at e =
      ap (with_entry n l.written y) (written_over (suc n) ls ys root later (omega (arith, e))) ∙ by l.written
    where
      later : (k : ℕ) → root (suc n + k) ≡ slice_get ys k
      later k = ap root (let p : suc n + k ≡ n + suc k = omega arith in p) ∙ at (suc k)

      here : root n ≡ Some y
      here = ap root (let p : n ≡ n + 0 = omega arith in p) ∙ at 0

      by : (o : Option (Word H))
          → with_entry n o y (map (reroot root) (written_from (suc n) ls))
          ≡ map (reroot root) (with_entry n o l.snapshot (written_from (suc n) ls))
      by None = refl
      by (Some w) =
          let p : y ≡ root_or (root n) l.snapshot = sym (ap (λ z. root_or z l.snapshot) here) in
          λ j. record { location = n; value = w; root = p j } ∷ map (reroot root) (written_from (suc n) ls)

  abbrev moved_local : List (Word H) → Local H → Local H
  moved_local ys l = record { state = moved ys l.state; phase = l.phase }

  end_over : (ys : List (Word H)) (l : Local H) → length ys ≡ length l.state.locations
      → end_of (moved_local ys l) ≡ rerooted ys (end_of l)
  end_over ys l e =
      let p = written_over 0 l.state.locations ys (slice_get ys)
      (λ k. ap (slice_get ys) (let q : 0 + k ≡ k = omega arith in q)) e in
      λ j. record { written = p j; text = l.state.text; fuel = l.state.fuel; phase = l.phase }

  -- ---- the end of a leg

  abbrev ended_by_moved : List (Word H) → Option (Local H) → Option (Local H)
  ended_by_moved ys None = None
  ended_by_moved ys (Some l) = Some (moved_local ys l)

  pub no : (l : Local H) → None ≡ Some l → ⊥
  no l e = let z : None ≡ Some l = e in cc

  ended_over : (ys : List (Word H)) (o : Comes H) (l : Local H) → ended_by o ≡ Some l
      → ended_by (moved_comes ys o) ≡ Some (moved_local ys l)
  ended_over ys (traps c e) l h = ap (ended_by_moved ys) h
  ended_over ys (ends c w) l h = ap (ended_by_moved ys) h
  ended_over ys (goes c) l h = absurd (no l h)
  ended_over ys (forks c n args) l h = absurd (no l h)
  ended_over ys (joins c try m) l h = absurd (no l h)
  ended_over ys stuck l h = absurd (no l h)

  abbrev many_in : State H → Option (Local H) → ℕ
  many_in c None = length c.locations
  many_in c (Some l) = length l.state.locations

  many_ended : (c : State H) (o : Comes H) (l : Local H) → ended_by o ≡ Some l → HasMany c o
      → length l.state.locations ≡ length c.locations
  many_ended c (traps d e) l h k = ap (many_in c) (sym h) ∙ k
  many_ended c (ends d w) l h k = ap (many_in c) (sym h) ∙ k
  many_ended c (goes d) l h k = absurd (no l h)
  many_ended c (forks d n args) l h k = absurd (no l h)
  many_ended c (joins d try m) l h k = absurd (no l h)
  many_ended c stuck l h k = absurd (no l h)

-- ---- fresh revisions

pub one_body : (o : Option CodeBlock) (a b : CodeBlock) → o ≡ Some a → o ≡ Some b → a ≡ b
one_body o a b h k = let z : Some a ≡ Some b = sym h ∙ k in cc

module _ {H : Type 0} where
  over_unwritten : (xs ys : List (Word H)) → length ys ≡ length xs → over ys (unwritten xs) ≡ unwritten ys
  over_unwritten [] [] e = refl
  over_unwritten [] (y ∷ ys) e = absurd (omega (arith, e))
  over_unwritten (x ∷ xs) [] e = absurd (omega (arith, e))
  over_unwritten (x ∷ xs) (y ∷ ys) e =
      ap (λ z. record { snapshot = y; written = None } ∷ z) (over_unwritten xs ys (omega (arith, e)))

  length_unwritten : (xs : List (Word H)) → length (unwritten xs) ≡ length xs
  length_unwritten [] = refl
  length_unwritten (x ∷ xs) = ap suc (length_unwritten xs)

  -- a fresh revision that begins with the same, but for the snapshot, is the other one over its snapshot
  pub fresh_over : (code : Code) (f f' : Fresh H) (c c' : State H) → IsFresh code f c → IsFresh code f' c'
      → f.block ≡ f'.block → f.args ≡ f'.args → f.fuel ≡ f'.fuel → length f'.snapshot ≡ length f.snapshot
      → c' ≡ moved f'.snapshot c
  fresh_over code f f' c c' a b block args fuel many =
      let body =
      one_body (slice_get code.blocks f.block) a.body b.body a.is (ap (slice_get code.blocks) block ∙ b.is) in
      let ls = over_unwritten f.snapshot f'.snapshot many in
      b.state ∙ (λ j. start (sym block j) (sym body j) (sym args j) (unwritten f'.snapshot) (sym fuel j))
      ∙ (λ j. start f.block a.body f.args (sym ls j) f.fuel)
      ∙ sym (ap (moved f'.snapshot) a.state)

pub valid_is_the_end : ValidIsTheEnd
valid_is_the_end s k path path' c c' e known f' inputs share fresh many valid =
    let f = known.begins in
    let at = fresh_over s.code f f' c c' known.fresh fresh (sym known.block_is ∙ valid.block_is)
    (sym known.args_are ∙ valid.args_are) (sym known.fuel_is ∙ valid.fuel_is) many in
    let agree = subst (λ rs. AllAgree f'.snapshot inputs rs) known.reads_are valid.reads_agree in
    let same = reach_same s f'.snapshot inputs share k c agree in
    let ended = ended_over f'.snapshot (reach s k c) known.after known.ended in
    let long : length f'.snapshot ≡ length known.after.state.locations =
    many ∙ sym (length_unwritten f.snapshot) ∙ sym (ap (λ z. length z.locations) known.fresh.state)
    ∙ sym (many_ended c (reach s k c) known.after known.ended (reach_many s k c)) in
    record {
      after = moved_local f'.snapshot known.after;
      ended = ap (λ z. ended_by (reach (with_inputs s inputs share) k z)) at ∙ ap ended_by same.0 ∙ ended;
      end_is = end_over f'.snapshot known.after long ∙ ap (rerooted f'.snapshot) (sym known.end_is);
      reads_are = ap (reach_reads (with_inputs s inputs share) k) at ∙ same.1 ∙ sym known.reads_are;
    }
