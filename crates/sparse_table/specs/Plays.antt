-- What each step on a word tells the seat that makes it.
use Rattle.std.specs.Prelude.{◌≡◌, ℕ, ◌-◌, ◌^◌, ◌<◌, []}
use mathlib.Core.Option as maybe
use Rattle.atomic_table.specs.Table as table
use Rattle.sparse_table.specs.Words as raw
use Rattle.sparse_table.specs.declared.rule.Doing.{Doing}
use Rattle.sparse_table.specs.Parts.{IsPart, head_at, flag_at, doing, aimed, knowing}

abbrev pub UserSat : Type 0 → Type 0
UserSat V = table.Me (Unit {0}) V

abbrev pub UserThen : Type 0 → Type 1
UserThen V = table.Step (Unit {0}) → UserSat V → ℕ → UserSat V → Type 0

abbrev pub Then : Type 0 → Type 1
Then V = raw.Step → Doing V → ℕ → Doing V → Type 0

module _ {V : Type 0} where
  abbrev pub mine : Doing V → UserSat V
  mine d = (d.client, [])

  -- after a step of the user's
  abbrev pub settled : Doing V → V → Doing V
  settled d w = doing d.trail w

  abbrev pub told_at : UserThen V → ℕ → ℕ → ℕ → Doing V → ℕ → Doing V → Type 0
  told_at then i a b d n e = (w : V) × (e ≡ settled d w)
      × then (table.step 0 i a b maybe.none) (mine d) n (w, [])

  -- the part whose first word, or whose flag, this is
  abbrev pub PartAt : (ℕ → ℕ → ℕ → ℕ) → Doing V → ℕ → ℕ → Type 0
  PartAt place d j c = IsPart d.trail.words d.trail.width c × (j ≡ place d.trail.words d.trail.shift c)

  -- a step on the first word of a part
  abbrev pub head_told : UserThen V → Then V
  head_told then st d n e = (c : ℕ) → PartAt head_at d st.word c
      → told_at then c st.first st.second d n e

  -- the same where the operand is what is taken off
  abbrev pub head_cut : UserThen V → Then V
  head_cut then st d n e = (c : ℕ) → PartAt head_at d st.word c
      → told_at then c (2 ^ 64 - st.first) 0 d n e

  -- a step on another word
  abbrev pub inner_told : UserThen V → Then V
  inner_told then st d n e = told_at then st.word st.first st.second d n e

  -- whether the part is there, for a seat that is to make it where it is not
  abbrev pub begun : Then V
  begun st d n e = (c : ℕ) → PartAt flag_at d st.word c
      → (n ≡ 0 → e ≡ aimed d 1 c) × (0 < n → e ≡ knowing d c)

  abbrev pub took : Then V
  took st d n e = e ≡ aimed d 2 d.trail.part

  abbrev pub entered : Then V
  entered st d n e = e ≡ knowing d d.trail.part
