-- One number of revisions that are reused, whichever memo of a run it is by.
use Rattle.std.proofs.Common.{◌≡◌, ◌∙◌, inl, inr, refl, sym, ap, subst, ℕ, List, [], ◌∷◌}
use Rattle.std.specs.Prelude.{slice_get}
use Rattle.rev_num.specs.Path.{Path}
use Rattle.rev_num.proofs.Options.{some_eq}
use Rattle.rev_code.specs.declared.code.CodeBlock.{CodeBlock}
use Rattle.code_memos.specs.Births.{Born}
use Rattle.revision_machine.specs.Machine.{Global, Twice, Live, start, Complete}
use Rattle.revision_machine.specs.Laws.{IsDistinct}
use Rattle.revision_machine.proofs.Ends.{unique_end}
use Rattle.code_machine.specs.Local.{CodeRun, IsVerified, Local, at_work}
use Rattle.code_machine.specs.Machines.{machine, IsMain, start_in}
use Rattle.code_machine.proofs.MachineConditions.{counts}
use Rattle.code_machine_laws.proofs.Mains.{main_is_one}
use Rattle.code_memos.specs.Leaf.{Fresh, Known}
use Rattle.code_memos.specs.Memo.{first, IsLeaf, IsEntry, IsAmong, paths_of, IsMemo, HasValid, IsReused, MemoOf, ReusedOf}
use Rattle.code_memos.specs.ByNumber.{HasMemo, HasReused}
use Rattle.code_memos.proofs.Entries.{one_memo}
use Rattle.code_memos.proofs.Recorded.{reused_is_one}
use Rattle.rev_record.specs.MemoLaws.{OneReused}

-- ---- by another proof of which block is that of `main`

one_body : (g : CodeRun) (ok : IsVerified g) (n k : ℕ) (m : IsMain g n) (l : IsMain g k) → m.body ≡ l.body
one_body g ok n k m l =
    some_eq (sym m.is ∙ ap (slice_get g.code.blocks) (main_is_one g ok n k m l) ∙ l.is)

one_first : (g : CodeRun) (ok : IsVerified g) (n k : ℕ) (m : IsMain g n) (l : IsMain g k) (fuel : ℕ)
    → first g n m fuel ≡ first g k l fuel
one_first g ok n k m l fuel =
    ap (λ (i : ℕ). start_in g i m.body fuel) (main_is_one g ok n k m l)
    ∙ ap (λ (b : CodeBlock). start_in g k b fuel) (one_body g ok n k m l)

module _ (g : CodeRun) (n k : ℕ) (m : IsMain g n) (l : IsMain g k) (fuel : ℕ) where
  among : (e : Known) (es : List Known) → IsAmong g n m fuel e es → IsAmong g k l fuel e es
  among e [] i = i
  among e (x ∷ es) (inl is) = inl is
  among e (x ∷ es) (inr i) = inr (among e es i)

  same_paths : (es : List Known) → paths_of g n m fuel es ≡ paths_of g k l fuel es
  same_paths [] = refl
  same_paths (e ∷ es) = ap (λ ps. e.path ∷ ps) (same_paths es)

  module _ (same : first g n m fuel ≡ first g k l fuel) where
    born : (r : Path) (x : Local Path) → Born (machine g) (first g n m fuel) r x
        → Born (machine g) (first g k l fuel) r x
    born r x h = subst (λ s. Born (machine g) s r x) same h

    leaf : (r : Path) (f : Fresh Path) → IsLeaf g n m fuel r f → IsLeaf g k l fuel r f
    leaf r f x = record {
      state = x.state;
      born = born r (at_work x.state) x.born;
      fresh = x.fresh;
      after = x.after;
      ends = x.ends;
    }

    entry : (e : Known) → IsEntry g n m fuel e → IsEntry g k l fuel e
    entry e x = record { state = x.state; born = born e.path (at_work x.state) x.born; known = x.known }

    complete : (rs : List Path) (h : Global (Local Path))
        → Complete (machine g) (start (machine g) (first g n m fuel)) rs h
        → Complete (machine g) (start (machine g) (first g k l fuel)) rs h
    complete rs h c = subst (λ s. Complete (machine g) (start (machine g) s) rs h) same c

module _ (g : CodeRun) (n k : ℕ) (m : IsMain g n) (l : IsMain g k) (fuel : ℕ)
    (same : first g n m fuel ≡ first g k l fuel) where
  memo_by : (es : List Known) → IsMemo g n m fuel es → IsMemo g k l fuel es
  memo_by es x = record {
    each = λ e i. entry g n k m l fuel same e (x.each e (among g k n l m fuel e es i));
    all = λ r f h.
        let found = x.all r f (leaf g k n l m fuel (sym same) r f h) in
        (found.0, among g n k m l fuel found.0 es found.1, found.2);
    once = subst IsDistinct (same_paths g n k m l fuel es) x.once;
  }

  valid_by : (es : List Known) (r : Path) → HasValid g n m fuel es r → HasValid g k l fuel es r
  valid_by es r h = (h.0, leaf g n k m l fuel same r h.0 h.1, h.2, among g n k m l fuel h.2 es h.3, h.4)

  end_memo_by : (h : Global (Local Path)) (es : List Known) → MemoOf g n m fuel h es → MemoOf g k l fuel h es
  end_memo_by Twice es x = x
  end_memo_by (Live revs) es x = memo_by es x

  memo_moved : (es : List Known) → HasMemo g n m fuel es → HasMemo g k l fuel es
  memo_moved es x = (x.0, x.1, complete g n k m l fuel same x.0 x.1 x.2, end_memo_by x.1 es x.3)

module _ (g : CodeRun) (n k : ℕ) (m : IsMain g n) (l : IsMain g k) (fuel : ℕ)
    (same : first g n m fuel ≡ first g k l fuel) where
  reused_by : (es : List Known) (c : ℕ) → IsReused g n m fuel es c → IsReused g k l fuel es c
  reused_by es c x = record {
    paths = x.paths;
    distinct = x.distinct;
    are = λ r. (
      λ i. valid_by g n k m l fuel same es r ((x.are r).0 i),
      λ v. (x.are r).1 (valid_by g k n l m fuel (sym same) es r v),
    );
    count = x.count;
  }

  end_reused_by : (h : Global (Local Path)) (es : List Known) (c : ℕ) → ReusedOf g n m fuel h es c
      → ReusedOf g k l fuel h es c
  end_reused_by Twice es c x = x
  end_reused_by (Live revs) es c x = reused_by es c x

  reused_moved : (es : List Known) (c : ℕ) → HasReused g n m fuel es c → HasReused g k l fuel es c
  reused_moved es c x = (x.0, x.1, complete g n k m l fuel same x.0 x.1 x.2, end_reused_by x.1 es c x.3)

-- ---- one end

one_end : (g : CodeRun) (ok : IsVerified g) (n : ℕ) (m : IsMain g n) (fuel : ℕ) (rs qs : List Path)
    (h i : Global (Local Path))
    → Complete (machine g) (start (machine g) (first g n m fuel)) rs h
    → Complete (machine g) (start (machine g) (first g n m fuel)) qs i → h ≡ i
one_end g ok n m fuel rs qs h i one two =
    unique_end (machine g) (first g n m fuel) (counts g ok) (start (machine g) (first g n m fuel)) h i rs qs
    (record { by = []; runs = refl }) one two

-- ---- the same entries

abbrev Within : (g : CodeRun) (n : ℕ) (m : IsMain g n) (fuel : ℕ) → List Known → List Known → Type 0
Within g n m fuel es es' = (e : Known) → IsAmong g n m fuel e es → IsAmong g n m fuel e es'

within_nothing : (g : CodeRun) (n : ℕ) (m : IsMain g n) (fuel : ℕ) (es es' : List Known) → es ≡ []
    → Within g n m fuel es es'
within_nothing g n m fuel es es' none e i = absurd (subst (λ xs. IsAmong g n m fuel e xs) none i)

memo_within : (g : CodeRun) (ok : IsVerified g) (n : ℕ) (m : IsMain g n) (fuel : ℕ) (es es' : List Known)
    → HasMemo g n m fuel es → HasMemo g n m fuel es' → Within g n m fuel es es'
memo_within g ok n m fuel es es' a b =
    by a.1 a.2 a.3 (subst (λ h. MemoOf g n m fuel h es') (one_end g ok n m fuel b.0 a.0 b.1 a.1 b.2 a.2) b.3)
  where
    by : (h : Global (Local Path)) → Complete (machine g) (start (machine g) (first g n m fuel)) a.0 h
        → MemoOf g n m fuel h es → MemoOf g n m fuel h es' → Within g n m fuel es es'
    by Twice c x y = within_nothing g n m fuel es es' x
    by (Live revs) c x y = λ e i. one_memo g ok n m fuel a.0 revs c es es' x y e i

-- ---- one number

module _ (g : CodeRun) (n : ℕ) (m : IsMain g n) (fuel : ℕ) (es es' : List Known) where
  valid_within : Within g n m fuel es es' → (r : Path) → HasValid g n m fuel es r → HasValid g n m fuel es' r
  valid_within sub r h = (h.0, h.1, h.2, sub h.2 h.3, h.4)

reused_within : (g : CodeRun) (n : ℕ) (m : IsMain g n) (fuel : ℕ) (es es' : List Known) → Within g n m fuel es es'
    → Within g n m fuel es' es
    → (c : ℕ) → IsReused g n m fuel es c → IsReused g n m fuel es' c
reused_within g n m fuel es es' sub back c x = record {
  paths = x.paths;
  distinct = x.distinct;
  are = λ r. (
    λ i. valid_within g n m fuel es es' sub r ((x.are r).0 i),
    λ v. (x.are r).1 (valid_within g n m fuel es' es back r v),
  );
  count = x.count;
}

same_number : (g : CodeRun) (ok : IsVerified g) (n : ℕ) (m : IsMain g n) (fuel : ℕ) (es es' : List Known)
    → Within g n m fuel es es' → Within g n m fuel es' es
    → (c d : ℕ) → HasReused g n m fuel es c → HasReused g n m fuel es' d → c ≡ d
same_number g ok n m fuel es es' sub back c d a b =
    by a.1 a.3 (subst (λ h. ReusedOf g n m fuel h es' d) (one_end g ok n m fuel b.0 a.0 b.1 a.1 b.2 a.2) b.3)
  where
    by : (h : Global (Local Path)) → ReusedOf g n m fuel h es c → ReusedOf g n m fuel h es' d → c ≡ d
    by Twice x y = x ∙ sym y
    by (Live revs) x y = reused_is_one g n m fuel es' c d (reused_within g n m fuel es es' sub back c x) y

-- by the runs of other code: the entries are the same whatever run has them
within_by : (g i : CodeRun) (n k : ℕ) (m : IsMain g n) (l : IsMain i k) (fuel fuel' : ℕ) (es es' : List Known)
    → Within g n m fuel es es' → Within i k l fuel' es es'
within_by g i n k m l fuel fuel' es es' sub e h = there es' (sub e (here es h))
  where
    here : (xs : List Known) → IsAmong i k l fuel' e xs → IsAmong g n m fuel e xs
    here [] h = h
    here (x ∷ xs) (inl is) = inl is
    here (x ∷ xs) (inr j) = inr (here xs j)

    there : (xs : List Known) → IsAmong g n m fuel e xs → IsAmong i k l fuel' e xs
    there [] h = h
    there (x ∷ xs) (inl is) = inl is
    there (x ∷ xs) (inr j) = inr (there xs j)

pub one_reused : OneReused
one_reused before now ok ok' fuel fuel' es es' a b c d x y =
    let memo =
    memo_moved before b.number a.number b.main a.main fuel (one_first before ok b.number a.number b.main a.main fuel)
    es' b.memo in
    let sub = memo_within before ok a.number a.main fuel es es' a.memo memo in
    let back = memo_within before ok a.number a.main fuel es' es memo a.memo in
    let reused =
    reused_moved now y.number x.number y.main x.main fuel' (one_first now ok' y.number x.number y.main x.main fuel') es'
    d y.reused in
    same_number now ok' x.number x.main fuel' es es'
    (within_by before now a.number x.number a.main x.main fuel fuel' es es' sub)
    (within_by before now a.number x.number a.main x.main fuel fuel' es' es back) c d x.reused reused
