-- A store that was opened with the words with which the shared variables start.
use Rattle.std.proofs.Common.{◌≡◌, refl, ℕ, ◌+◌, List, [], ◌∷◌, ◌++◌, length, None, ap, ◌∙◌, arith}
use Rattle.std.specs.Prelude.{vec_len, slice_index}
use Rattle.std.specs.declared.vec.Vec.{Vec}
use Rattle.std.specs.declared.alloc.Global.{Global}
use Rattle.rev_code.specs.declared.code.CodeVar.{CodeVar}
use Rattle.block_run.specs.Area.{count}
use Rattle.rev_vm.specs.Opening.{AreShort, words_at_start}
use Rattle.rev_vm.proofs.Mains.{start_many, starts_with}
use Rattle.segment_store.specs.declared.store.Hold.{Hold}
use Rattle.segment_store.specs.declared.store.Store.{Store}
use Rattle.segment_store.specs.Places.{view}
use Rattle.segment_store.specs.Names.{IsOf, IsSameHold}
use Rattle.std.specs.List.{sum_by}
use Rattle.std.proofs.lemmas.List.Sums.{sum_by-append}
use Rattle.run_revision.specs.Hands.{HandValue}
use Rattle.rev_workers.specs.Hands.{kept_by}
use Rattle.segment_store.specs.Own.{root_in}
use Rattle.segment_store.specs.Base.{value}
use Rattle.segment_store.specs.Entry.{Entry}
use Rattle.rev_workers.specs.Stores.{IsOpened}

pub words_many : (vars : List CodeVar) (words : Vec ℕ Global) → words.items ≡ words_at_start vars
    → vec_len words ≡ count vars
words_many vars words e = words.ok.0 ∙ (ap length e ∙ start_many vars)

pub opened_is :
    (vars : List CodeVar) (words : Vec ℕ Global) (s : Store) (h : Hold)
    → words.items ≡ words_at_start vars → AreShort words.items → IsOf s h
    → (view h.seat).chain ≡ [] → h.own ≡ None → s.initial ≡ words → IsOpened vars s h
opened_is vars words s h e short of chain own initial = (
  of,
  ap vec_len initial ∙ words_many vars words e,
  λ l w is.
      let q = starts_with vars words.items e short l w is in (
        ap (λ (es : List Entry). value s.masks (root_in s.initial h.own) es l) chain
            ∙ (ap (λ o. slice_index (root_in s.initial o) l) own
            ∙ (ap (λ (ws : Vec ℕ Global). slice_index ws.items l) initial ∙ q.0)),
        q.1,
      ),
)

-- another hold of the same chain and words
pub opened_same :
    (vars : List CodeVar) (s : Store) (h k : Hold) → IsOpened vars s h → IsOf s k → IsSameHold h k → IsOpened vars s k
opened_same vars s h k opened of same = (
  of,
  opened.1,
  λ l w is.
      let q = opened.2 l w is in (
        ap (λ (es : List Entry). value s.masks (root_in s.initial k.own) es l) same.0
            ∙ (ap (λ o. value s.masks (root_in s.initial o) (view h.seat).chain l) same.1 ∙ q.0),
        q.1,
      ),
)

pub kept_more : (xs : List HandValue) (x : HandValue) → kept_by (xs ++ x ∷ []) ≡ kept_by xs + x.kept
kept_more xs x =
    let a = sum_by-append (λ (h : HandValue). h.kept) xs (x ∷ []) in
    let b : sum_by (λ (h : HandValue). h.kept) (x ∷ []) ≡ 0 + x.kept = refl in
    omega (arith, a, b)

pub last_of : {A B : Type 0} → A × B → B
last_of p = p.1
