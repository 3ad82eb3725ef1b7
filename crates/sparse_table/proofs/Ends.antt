-- What lies there at the end, and the words that the user sees.
use Rattle.std.proofs.Common.{◌≡◌, ◌≢◌, ℕ, ◌+◌, ◌*◌, ◌/◌, ◌%◌, ◌<◌, ◌≤◌, inr, ⊎_elim, Bool, cond, ◌==◌, List}
use Rattle.std.proofs.Common.{map, length, get_or, sym, refl, ap, ◌∙◌, subst, arith}
use Rattle.std.specs.List.{range_with_len}
use Rattle.std.proofs.lemmas.Bool.{eq-eqb}
use Rattle.std.proofs.lemmas.Bool.Decides.{eqb_tells}
use Rattle.std.proofs.lemmas.List.{ext_get_or}
use Rattle.std.proofs.lemmas.List.FromFn.{length-map-range_with_len, get_or-map-range_with_len}
use Rattle.std.proofs.Math.Nat.{mod-eq-sub-div-mul, div-mul-le_self, add-mul-mod_self_right, zero-mod, mod-le, mod-lt}
use lib.ListN.{get_elem?}
use mathlib.Core.Logic.{dite}
use mathlib.Core.Option.{some}
use native.Mathlib.Decide.{ℕ_discrete, dec_le}
use Rattle.atomic_table.specs.Table as table
use Rattle.atomic_table.proofs.Lists.{at_map}
use Rattle.sparse_table.specs.Words as raw
use Rattle.sparse_table.specs.Words.{blank}
use Rattle.sparse_table.specs.declared.rule.Doing.{Doing}
use Rattle.sparse_table.specs.Parts.{IsPart, IsInner, head_at, flag_at, total_of, client, seen, State, Rules}
use Rattle.sparse_table.specs.Ended.{part_of, word_in, words_in, Ending, AreLast}
use Rattle.sparse_table.proofs.Changes.{F}

-- a word lies first in a part, or further on in it
module _ (words width : ℕ) (one : 1 < width) (i : ℕ) (low : i < words) where
  is_part : IsPart words width (part_of width i)
  is_part = let q : ℕ = i / width in let e = mod-eq-sub-div-mul i width in let le = div-mul-le_self i width in
      let is : part_of width i ≡ q * width = omega arith in (
        (let l = mod-le i width in omega arith),
        ap (λ (y : ℕ). y % width) is ∙ (ap (λ (y : ℕ). y % width) (let z : q * width ≡ 0 + q * width = omega arith in z)
            ∙ (add-mul-mod_self_right 0 q width ∙ zero-mod width)),
      )

  is_inner : i % width ≢ 0 → IsInner width (part_of width i) i
  is_inner ne = let l = mod-le i width in let h : i % width < width = mod-lt i (omega arith) in
      ((omega arith), (omega arith))

-- a first word
pub head_in : (words width shift : ℕ) (ns : List ℕ) (c : ℕ) → IsPart words width c → get_or
    (words_in words width shift ns) c 0 ≡ get_or ns (head_at words shift c) 0
unfolding Rattle.sparse_table.specs.Ended.words_in
head_in words width shift ns c pc = let f : ℕ → ℕ = word_in words width shift ns in let x : ℕ = get_or ns
    (head_at words shift c) 0 in
    let y : ℕ = cond (get_or ns (flag_at words shift (part_of width c)) 0 == 1) (get_or ns c 0) 0 in
    get_or-map-range_with_len f 0 words c c 0 pc.0 (omega arith) ∙ ap (λ (b : Bool). cond b x y)
    (eq-eqb (c % width) 0 pc.1)

module _ {V : Type 0} (holds : table.State (Unit {0}) V → Type 0) (makes : V → ℕ → Type 0) (needs : ℕ → ℕ → Bool)
    (words width shift : ℕ) (s : State V) (r : Rules holds makes needs words width shift s) where
  abbrev ns : List ℕ
  ns = s.words

  abbrev G : ℕ → ℕ
  G c = F holds makes needs words width shift ns c

  word_at : (i : ℕ) → i < words → word_in words width shift ns i ≡ get_or r.all i 0
  word_at i low = let one = r.sizes.0 in let c : ℕ = part_of width i in let pc = is_part words width one i low in
      let f : ℕ = get_or ns (flag_at words shift c) 0 in
      let x : ℕ = get_or ns (head_at words shift i) 0 in let y : ℕ = cond (f == 1) (get_or ns i 0) 0 in
      ⊎_elim
      (λ t. ap (λ (b : Bool). cond b x y) t.0 ∙ r.heads i (low, t.1))
      (λ t. ap (λ (b : Bool). cond b x y) t.0 ∙ (let pi = is_inner words width one i low t.1 in ⊎_elim
      (λ u. ap (λ (b : Bool). cond b (get_or ns i 0) 0) u.0 ∙ (r.there c i pc pi u.1).0)
      (λ u. ap (λ (b : Bool). cond b (get_or ns i 0) 0) u.0 ∙ sym (⊎_elim (λ g. absurd (u.1 g)) (λ g. g)
      (r.zeros c i pc pi)))
      (eqb_tells f 1)))
      (eqb_tells (i % width) 0)

  pub words_long : length (words_in words width shift ns) ≡ words
  unfolding Rattle.sparse_table.specs.Ended.words_in
  words_long = length-map-range_with_len (word_in words width shift ns) 0 words

  pub words_are : words_in words width shift ns ≡ r.all
  unfolding Rattle.sparse_table.specs.Ended.words_in
  words_are = let f : ℕ → ℕ = word_in words width shift ns in let long = length-map-range_with_len f 0 words in
      let same = r.long.0 in
      ext_get_or 0 (map f (range_with_len 0 words)) r.all (long ∙ sym same)
      (λ i lt. let low : i < words = omega arith in get_or-map-range_with_len f 0 words i i 0 low (omega arith)
      ∙ word_at i low)

  pub at_end : Ending words width shift (total_of words shift) ns
  at_end = record {
    numbers = λ j le. r.numbers j (inr le);
    here = λ calm j low. dite (dec_le words j) (λ le. let l = r.numbers j (inr le) in omega arith)
        (λ no. inside calm j (omega arith));
  } where
    inside : ((c : ℕ) → IsPart words width c → ¬ (get_or ns (flag_at words shift c) 0 ≡ 2)) → (j : ℕ) → j < words
        → get_or ns j 0 ≤ blank
    inside calm j low = let one = r.sizes.0 in let c : ℕ = part_of width j in let pc = is_part words width one j
        low in dite (ℕ_discrete (j % width) 0)
        (λ e. r.firsts j (low, e))
        (λ ne. let pj = is_inner words width one j low ne in ⊎_elim
        (λ z. let u = r.unmade c j pc pj z in omega arith)
        (λ m. ⊎_elim (λ f. let u = (r.there c j pc pj f).1 in omega arith) (λ f. absurd (calm c pc f.0)) m)
        (r.flags c pc))

  pub are_last : AreLast holds (words_in words width shift ns)
  are_last = (seen r.all (map (client {V = V}) s.views), r.agreed, sym words_are, refl)

  pub are_last_seen : (id : ℕ) (d : Doing V) → get_elem? s.views id ≡ some d → AreLast (table.Seen holds id d.client)
      (words_in words width shift ns)
  are_last_seen id d at = (
    seen r.all (map (client {V = V}) s.views),
    (
      r.agreed,
      at_map (client {V = V}) s.views id d
          at,
    ),
    sym words_are,
    refl,
  )

-- the same as the table's fields have it
module _ {V : Type 0} (holds : table.State (Unit {0}) V → Type 0) (makes : V → ℕ → Type 0) (needs : ℕ → ℕ → Bool)
    (words width shift len wide by : ℕ) (kw : words ≡ len) (kd : width ≡ wide) (ks : shift ≡ by) (ns : List ℕ) where
  abbrev R : State V → Type 0
  R = Rules holds makes needs words width shift

  moved : (F : ℕ → ℕ → ℕ → List ℕ → Type 0) (ms : List ℕ) → ms ≡ ns → F words width shift ms → F len wide by ns
  moved F ms e x = subst (λ (z : ℕ × ℕ × ℕ × List ℕ). F z.0 z.1 z.2 z.3) (λ i. (kw i, kd i, ks i, e i)) x

  pub ending_at : (total : ℕ) → total ≡ total_of len by → raw.Final R ns → Ending len wide by total ns
  ending_at total all f = subst (λ (z : ℕ). Ending len wide by z ns) (sym all) (moved (λ a b c ms. Ending a b c
      (total_of a c) ms) f.0.words f.2 (at_end holds makes needs words width shift f.0 f.1))

  pub long_at : raw.Final R ns → length (words_in len wide by ns) ≡ len
  long_at f = moved (λ a b c ms. length (words_in a b c ms) ≡ a) f.0.words f.2 (words_long holds makes needs words
      width shift f.0 f.1)

  pub last_at : raw.Final R ns → AreLast holds (words_in len wide by ns)
  last_at f = moved (λ a b c ms. AreLast holds (words_in a b c ms)) f.0.words f.2 (are_last holds makes needs words
      width shift f.0 f.1)

  module _ (id : ℕ) (d : Doing V) where
    pub plain : raw.Final (raw.Seen R id d) ns → raw.Final R ns
    plain f = (f.0, f.1.0, f.2)

    pub last_seen_at : raw.Final (raw.Seen R id d) ns → AreLast (table.Seen holds id d.client) (words_in len wide by ns)
    last_seen_at f = moved (λ a b c ms. AreLast (table.Seen holds id d.client) (words_in a b c ms)) f.0.words f.2
        (are_last_seen holds makes needs words width shift f.0 f.1.0 id d f.1.1)
