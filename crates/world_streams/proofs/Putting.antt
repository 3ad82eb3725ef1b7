-- What a sink took, piece after piece.
use Rattle.std.proofs.Common.{◌≡◌, ◌∙◌, inl, inr, ℕ, zero, suc, ◌≤◌, ◌+◌, List, [], ◌∷◌, ◌++◌, take, drop, length, Some, refl, sym, ap, append-nil, append_assoc, length-append, arith}
use Rattle.std.proofs.lemmas.Grind.{common_steps}
use Rattle.std.proofs.Math.Seq.{take-length}
use Rattle.rev_io.specs.Stream.{Stream, Rose, Took, TookSome}
use Rattle.code_machine_laws.specs.Forms.{Grows}

-- ---- lists

pub drop_front : (xs ys : List ℕ) → drop (length xs) (xs ++ ys) ≡ ys
drop_front [] ys = refl
drop_front (x ∷ xs) ys = grind (arith, common_steps, drop_front xs ys)

take_front : (xs ys : List ℕ) (n : ℕ) → (m : ℕ) × (take n xs ≡ take m (xs ++ ys))
take_front [] ys n = (0, grind (arith, common_steps))
take_front (x ∷ xs) ys zero = (0, refl)
take_front (x ∷ xs) ys (suc n) = let k = take_front xs ys n in (suc k.0, ap (λ z. x ∷ z) k.1)

take_behind : (xs ys : List ℕ) (n : ℕ) → xs ++ take n ys ≡ take (length xs + n) (xs ++ ys)
take_behind [] ys n = grind (arith, common_steps)
take_behind (x ∷ xs) ys n =
    let z : length (x ∷ xs) + n ≡ suc (length xs + n) = omega arith in
    ap (λ w. x ∷ w) (take_behind xs ys n) ∙ sym (ap (λ k. take k (x ∷ (xs ++ ys))) z)

pub grows_length : (old new : List ℕ) → Grows old new → length old ≤ length new
grows_length old new (more, e) = let k = ap length e in let l = length-append old more in omega (arith, k, l)

pub grows_by : (old new : List ℕ) → Grows old new → new ≡ old ++ drop (length old) new
grows_by old new (more, e) = e ∙ ap (λ z. old ++ z) (sym (ap (drop (length old)) e ∙ drop_front old more))

-- ---- sinks

pub took_none : (old : Stream) → Took old [] old
took_none old = record { told = λ held is. is ∙ ap Some (sym (append-nil held)); calm = refl }

pub some_none : (old new : Stream) (bytes : List ℕ) → new ≡ old → TookSome old bytes new
some_none old new bytes e held is = (0, ap (λ (s : Stream). s.told) e ∙ is ∙ ap Some (sym (append-nil held)))

pub some_all : (old new : Stream) (bytes : List ℕ) → Took old bytes new → TookSome old bytes new
some_all old new bytes t held is = (length bytes, rw take-length (t.told held is))

-- a first part of a first part
pub some_longer : (old new : Stream) (x xy : List ℕ) → Grows x xy → TookSome old x new → TookSome old xy new
some_longer old new x xy (y, e) t held is =
    let k = t held is in
    let m = take_front x y k.0 in
    (m.0, k.1 ∙ ap (λ z. Some (held ++ z)) (m.1 ∙ ap (take m.0) (sym e)))

-- some behind all of what came before
pub some_behind : (a b c : Stream) (x y xy : List ℕ) → Took a x b → TookSome b y c → xy ≡ x ++ y → TookSome a xy c
some_behind a b c x y xy first second whole held is =
    let k = second (held ++ x) (first.told held is) in (
      length x + k.0,
      k.1
          ∙ ap Some (append_assoc held x (take k.0 y)
          ∙ ap (λ z. held ++ z) (take_behind x y k.0 ∙ ap (take (length x + k.0)) (sym whole))),
    )

pub rose_behind : (a b c : Stream) (x : List ℕ) → Took a x b → Rose b c → Rose a c
rose_behind a b c x first (inl less) = inl (let e = first.calm in omega (arith, e, less))
rose_behind a b c x first (inr both) = inr (sym first.calm ∙ both.0, both.1)
