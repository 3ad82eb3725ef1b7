-- One call of a stream after another: what both together take, give and leave.
use Rattle.std.proofs.Common.{◌≡◌, ◌∙◌, ap, sym, refl, List, [], ℕ, ◌++◌, append_assoc, arith, take, drop, length, length-drop, ◌+◌, ◌-◌, ◌≤◌, ◌<◌}
use Rattle.std.proofs.Math.Seq.{take-add}
use Rattle.std.proofs.lemmas.Grind.{common_steps}
use Rattle.std.proofs.lemmas.List.{take_all}
use Rattle.std.specs.Prelude.{Some, Ok}
use Rattle.rev_io.specs.Stream.{Stream, Gave, Leave, Reads, Took}

pub took_more : {a b c : Stream} {x y xy : List ℕ} → Took a x b → Took b y c → xy ≡ x ++ y → Took a xy c
took_more {x} {y} first second whole = record {
  told = λ held is.
      second.told _ (first.told held is) ∙ ap Some (append_assoc held x y ∙ ap (λ bytes. held ++ bytes) (sym whole));
  calm = second.calm ∙ first.calm;
}

pub leave_more : (a b c : Stream) (x y : List ℕ) → Leave a x b → Leave b y c → Leave a (x ++ y) c
leave_more a b c x y first second all is =
    let one = first all is in
    let two = second one.0 one.1 in
    (two.0, two.1, one.2 ∙ ap (λ rest. x ++ rest) two.2 ∙ sym (append_assoc x y two.0))

pub gave_more : {a b c : Stream} {x y : List ℕ} → Gave a x b → Gave b y c → Gave a (x ++ y) c
gave_more {a} {b} {c} {x} {y} first second = record {
  told = leave_more a b c x y first.told second.told;
  calm = second.calm ∙ first.calm;
}

-- the bytes done, and the first n of the slice behind them
pub taken : (done n : ℕ) (bytes : List ℕ)
    → take (done + n) bytes ≡ take done bytes ++ take n (take (length bytes - done) (drop done bytes))
taken done n bytes =
    rw (take_all (length bytes - done) (drop done bytes) (omega (arith, length-drop done bytes)))
    (take-add done n bytes)

-- a call that moved the first n bytes to the front of the room
pub moved : (left rest before after : List ℕ) (n faults faults' : ℕ) → n ≤ length before → n ≤ length left
    → after ≡ take n left ++ drop n before → rest ≡ drop n left → faults' ≡ faults
    → (n ≡ 0 → 0 < length before → left ≡ [])
    → Reads (record { told = Some left; faults = faults }) (record { told = Some rest; faults = faults' }) before after
    (Ok n)
moved left rest before after n faults faults' room has front behind_ same at_end = (
  room,
  record {
    told = λ all is. (rest, refl, whole all is);
    calm = same;
  },
  λ none some all is. all_is all is ∙ at_end none some,
)
  where
    all_is : (all : List ℕ) → Some left ≡ Some all → all ≡ left
    all_is all is = cc

    first : take n after ≡ take n left
    first = rw front (grind (arith, common_steps))

    whole : (all : List ℕ) → Some left ≡ Some all → all ≡ take n after ++ rest
    whole all is = all_is all is ∙ rw (first, behind_) (grind (arith, common_steps))
