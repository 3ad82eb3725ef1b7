-- What is read is spelled so: field by field.
use Rattle.std.proofs.Common.{◌≡◌, ◌∙◌, ℕ, zero, suc, ◌-◌, ◌<◌, ◌≤◌, Bool, true, false, if◌then◌else◌, List, [], ◌∷◌, ◌++◌, length, take, drop, Option, Some, None, refl, sym, ap, subst, append_assoc, arith, nat_le, All}
use Rattle.std.proofs.lemmas.Grind.{common_steps}
use Rattle.std.proofs.lemmas.List.{append-nil, take-append-drop, length-take-le}
use Rattle.std.proofs.lemmas.Nat.{be_bytes_2, be_bytes_4, be_bytes_8}
use Rattle.std.specs.Int.{w16, w32, w64, to_be_bytes, from_be_bytes}
use Rattle.std.specs.List.{flat_map}
use Rattle.code_file.specs.declared.fault.ReadFault.{ReadFault}
use Rattle.code_file.specs.declared.fault.ReadFault.TheVariants as fault
use Rattle.code_file.specs.Laws.{AreBytes, Is8, Is16, Is32, Is64}
use Rattle.code_file.specs.Fields.{Reading, Got, Failed, Field, and_then, go_on, give, bytes_of, number_8, number_16, number_32, number_64, tested, test_by, or_bad, more}

-- what was read of these bytes, and what it means
pub record Taken {A : Type 0} (W : A → List ℕ → Type 0) (a : A) (bytes rest : List ℕ) : Type 0 where
  pub used : List ℕ
  pub cut : bytes ≡ used ++ rest
  pub means : W a used

pub record Takes {A : Type 0} (r : Field A) (W : A → List ℕ → Type 0) : Type 0 where
  pub taken : (whole : ℕ) (bytes : List ℕ) (a : A) (rest : List ℕ) → AreBytes bytes → r whole bytes ≡ Got a rest
      → Taken W a bytes rest

-- the bytes that were used are those of the value, which is good
pub record Spelled {A : Type 0} (bytes_of : A → List ℕ) (Good : A → Type 0) (a : A) (used : List ℕ) : Type 0 where
  pub same : used ≡ bytes_of a
  pub good : Good a

-- ---- bytes

pub rest_bytes : (used rest : List ℕ) → AreBytes (used ++ rest) → AreBytes rest
rest_bytes [] rest h = h
rest_bytes (u ∷ used) rest h = rest_bytes used rest (λ i. h (suc i))

first_byte : (u : ℕ) (used : List ℕ) → u < 256 → AreBytes used → AreBytes (u ∷ used)
first_byte u used h g zero = h
first_byte u used h g (suc i) = g i

pub front_bytes : (used rest : List ℕ) → AreBytes (used ++ rest) → AreBytes used
front_bytes [] rest h = λ i. omega arith
front_bytes (u ∷ used) rest h = first_byte u used (h zero) (front_bytes used rest (λ i. h (suc i)))

inv_if : {A : Type 0} (b : Bool) (x : A) (y : List ℕ) (f : ReadFault) (a : A) (rest : List ℕ)
    → (if b then Got x y else Failed f) ≡ Got a rest → (b ≡ true) × (x ≡ a) × (y ≡ rest)
inv_if true x y f a rest e = (refl, (cc), (cc))
inv_if false x y f a rest e = absurd (cc)

long : (bytes : List ℕ) (n : ℕ) → nat_le n (length bytes) ≡ true → n ≤ length bytes
long bytes n e = grind (arith, common_steps)

bound_16 : (bs : List ℕ) → length bs ≡ 2 → AreBytes bs → from_be_bytes w16 bs < 65536
bound_16 [] e h = absurd (omega (arith, e))
bound_16 (x0 ∷ []) e h = absurd (omega (arith, e))
bound_16 (x0 ∷ x1 ∷ []) e h =
    let b0 : x0 < 256 = h 0 in
    let b1 : x1 < 256 = h 1 in
    omega arith
bound_16 (x0 ∷ x1 ∷ y ∷ ys) e h = absurd (omega (arith, e))

bound_32 : (bs : List ℕ) → length bs ≡ 4 → AreBytes bs → from_be_bytes w32 bs < 4294967296
bound_32 [] e h = absurd (omega (arith, e))
bound_32 (x0 ∷ []) e h = absurd (omega (arith, e))
bound_32 (x0 ∷ x1 ∷ []) e h = absurd (omega (arith, e))
bound_32 (x0 ∷ x1 ∷ x2 ∷ []) e h = absurd (omega (arith, e))
bound_32 (x0 ∷ x1 ∷ x2 ∷ x3 ∷ []) e h =
    let b0 : x0 < 256 = h 0 in
    let b1 : x1 < 256 = h 1 in
    let b2 : x2 < 256 = h 2 in
    let b3 : x3 < 256 = h 3 in
    omega arith
bound_32 (x0 ∷ x1 ∷ x2 ∷ x3 ∷ y ∷ ys) e h = absurd (omega (arith, e))

bound_64 : (bs : List ℕ) → length bs ≡ 8 → AreBytes bs → from_be_bytes w64 bs < 18446744073709551616
bound_64 [] e h = absurd (omega (arith, e))
bound_64 (x0 ∷ []) e h = absurd (omega (arith, e))
bound_64 (x0 ∷ x1 ∷ []) e h = absurd (omega (arith, e))
bound_64 (x0 ∷ x1 ∷ x2 ∷ []) e h = absurd (omega (arith, e))
bound_64 (x0 ∷ x1 ∷ x2 ∷ x3 ∷ []) e h = absurd (omega (arith, e))
bound_64 (x0 ∷ x1 ∷ x2 ∷ x3 ∷ x4 ∷ []) e h = absurd (omega (arith, e))
bound_64 (x0 ∷ x1 ∷ x2 ∷ x3 ∷ x4 ∷ x5 ∷ []) e h = absurd (omega (arith, e))
bound_64 (x0 ∷ x1 ∷ x2 ∷ x3 ∷ x4 ∷ x5 ∷ x6 ∷ []) e h = absurd (omega (arith, e))
bound_64 (x0 ∷ x1 ∷ x2 ∷ x3 ∷ x4 ∷ x5 ∷ x6 ∷ x7 ∷ []) e h =
    let b0 : x0 < 256 = h 0 in
    let b1 : x1 < 256 = h 1 in
    let b2 : x2 < 256 = h 2 in
    let b3 : x3 < 256 = h 3 in
    let b4 : x4 < 256 = h 4 in
    let b5 : x5 < 256 = h 5 in
    let b6 : x6 < 256 = h 6 in
    let b7 : x7 < 256 = h 7 in
    omega arith
bound_64 (x0 ∷ x1 ∷ x2 ∷ x3 ∷ x4 ∷ x5 ∷ x6 ∷ x7 ∷ y ∷ ys) e h = absurd (omega (arith, e))

pub number_8_takes : Takes number_8 (λ n used. Spelled (λ x. x ∷ []) Is8 n used)
number_8_takes = record { taken = taken }
  where
    taken : (whole : ℕ) (bytes : List ℕ) (n : ℕ) (rest : List ℕ) → AreBytes bytes → number_8 whole bytes ≡ Got n rest
        → Taken (λ m used. Spelled (λ x. x ∷ []) Is8 m used) n bytes rest
    taken whole [] n rest h e = absurd (cc)
    taken whole (b ∷ bytes) n rest h e =
        let x : b ≡ n = cc in
        let y : bytes ≡ rest = cc in
        record {
          used = b ∷ [];
          cut = ap (λ l. b ∷ l) y;
          means = record { same = ap (λ k. k ∷ []) x; good = subst (λ k. k < 256) x (h 0) };
        }

pub number_16_takes : Takes number_16 (λ n used. Spelled (λ x. to_be_bytes w16 x) Is16 n used)
number_16_takes = record {
  taken = λ whole bytes n rest h e.
      let p = inv_if (nat_le 2 (length bytes)) (from_be_bytes w16 (take 2 bytes)) (drop 2 bytes) (fault.Truncated whole)
      n rest e in
      let le : 2 ≤ length bytes = long bytes 2 p.0 in
      let cut : bytes ≡ take 2 bytes ++ rest = sym (take-append-drop 2 bytes) ∙ ap (λ r. take 2 bytes ++ r) p.2 in
      let front : AreBytes (take 2 bytes) = front_bytes (take 2 bytes) rest (subst AreBytes cut h) in
      record {
        used = take 2 bytes;
        cut = cut;
        means = record {
          same = sym (be_bytes_2 (take 2 bytes) n (length-take-le 2 bytes le) front (sym p.1));
          good = subst (λ x. x < 65536) p.1 (bound_16 (take 2 bytes) (length-take-le 2 bytes le) front);
        };
      };
}

pub number_32_takes : Takes number_32 (λ n used. Spelled (λ x. to_be_bytes w32 x) Is32 n used)
number_32_takes = record {
  taken = λ whole bytes n rest h e.
      let p = inv_if (nat_le 4 (length bytes)) (from_be_bytes w32 (take 4 bytes)) (drop 4 bytes) (fault.Truncated whole)
      n rest e in
      let le : 4 ≤ length bytes = long bytes 4 p.0 in
      let cut : bytes ≡ take 4 bytes ++ rest = sym (take-append-drop 4 bytes) ∙ ap (λ r. take 4 bytes ++ r) p.2 in
      let front : AreBytes (take 4 bytes) = front_bytes (take 4 bytes) rest (subst AreBytes cut h) in
      record {
        used = take 4 bytes;
        cut = cut;
        means = record {
          same = sym (be_bytes_4 (take 4 bytes) n (length-take-le 4 bytes le) front (sym p.1));
          good = subst (λ x. x < 4294967296) p.1 (bound_32 (take 4 bytes) (length-take-le 4 bytes le) front);
        };
      };
}

pub number_64_takes : Takes number_64 (λ n used. Spelled (λ x. to_be_bytes w64 x) Is64 n used)
number_64_takes = record {
  taken = λ whole bytes n rest h e.
      let p = inv_if (nat_le 8 (length bytes)) (from_be_bytes w64 (take 8 bytes)) (drop 8 bytes) (fault.Truncated whole)
      n rest e in
      let le : 8 ≤ length bytes = long bytes 8 p.0 in
      let cut : bytes ≡ take 8 bytes ++ rest = sym (take-append-drop 8 bytes) ∙ ap (λ r. take 8 bytes ++ r) p.2 in
      let front : AreBytes (take 8 bytes) = front_bytes (take 8 bytes) rest (subst AreBytes cut h) in
      record {
        used = take 8 bytes;
        cut = cut;
        means = record {
          same = sym (be_bytes_8 (take 8 bytes) n (length-take-le 8 bytes le) front (sym p.1));
          good = subst (λ x. x < 18446744073709551616) p.1 (bound_64 (take 8 bytes) (length-take-le 8 bytes le) front);
        };
      };
}

pub bytes_takes : (n : ℕ) → Takes (bytes_of n) (λ a used. Spelled (λ x. x) (λ x. length x ≡ n) a used)
bytes_takes n = record {
  taken = λ whole bytes a rest h e.
      let p = inv_if (nat_le n (length bytes)) (take n bytes) (drop n bytes) (fault.Truncated whole) a rest e in
      record {
        used = take n bytes;
        cut = sym (take-append-drop n bytes) ∙ ap (λ r. take n bytes ++ r) p.2;
        means = record { same = p.1; good = subst (λ x. length x ≡ n) p.1 (length-take-le n bytes (long bytes n p.0)) };
      };
}

-- ---- one after another

pub record Then {A B : Type 0} (W : A → List ℕ → Type 0) (V : A → B → List ℕ → Type 0) (b : B)
    (used : List ℕ) : Type 0 where
  pub first : A
  pub front : List ℕ
  pub behind : List ℕ
  pub cut : used ≡ front ++ behind
  pub of_first : W first front
  pub of_rest : V first b behind

record Went {A B : Type 0} (x : Reading A) (k : A → Field B) (whole : ℕ) (b : B) (rest : List ℕ) : Type 0 where
  a : A
  mid : List ℕ
  got : x ≡ Got a mid
  on : k a whole mid ≡ Got b rest

went : {A B : Type 0} (x : Reading A) (k : A → Field B) (whole : ℕ) (b : B) (rest : List ℕ)
    → go_on x k whole ≡ Got b rest → Went x k whole b rest
went (Got a mid) k whole b rest e = record { a = a; mid = mid; got = refl; on = e }
went (Failed f) k whole b rest e = absurd (cc)

pub then_takes : {A B : Type 0} {W : A → List ℕ → Type 0} {V : A → B → List ℕ → Type 0} (r : Field A) (k : A → Field B)
    →
    Takes r W → ((a : A) → Takes (k a) (V a)) → Takes (and_then r k) (Then W V)
unfolding and_then
then_takes r k first rest' = record {
  taken = λ whole bytes b rest h e.
      let w = went (r whole bytes) k whole b rest e in
      let t = first.taken whole bytes w.a w.mid h w.got in
      let u = (rest' w.a).taken whole w.mid b rest (rest_bytes t.used w.mid (subst AreBytes t.cut h)) w.on in
      record {
        used = t.used ++ u.used;
        cut = t.cut ∙ ap (λ l. t.used ++ l) u.cut ∙ sym (append_assoc t.used u.used rest);
        means = record {
          first = w.a;
          front = t.used;
          behind = u.used;
          cut = refl;
          of_first = t.means;
          of_rest = u.means;
        };
      };
}

pub record Given {A : Type 0} (a : A) (b : A) (used : List ℕ) : Type 0 where
  pub same : b ≡ a
  pub none : used ≡ []

pub give_takes : {A : Type 0} (a : A) → Takes (give a) (Given a)
give_takes a = record {
  taken = λ whole bytes b rest h e.
      let x : b ≡ a = cc in
      let y : bytes ≡ rest = cc in
      record { used = []; cut = y; means = record { same = x; none = refl } };
}

pub record Tested {A B : Type 0} (test : A → Option B) (W : A → List ℕ → Type 0) (b : B) (used : List ℕ) : Type 0 where
  pub value : A
  pub passes : test value ≡ Some b
  pub of_value : W value used

record Passed {A B : Type 0} (test : A → Option B) (x : Reading A) (b : B) (rest : List ℕ) : Type 0 where
  a : A
  got : x ≡ Got a rest
  passes : test a ≡ Some b

passed_or : {A B : Type 0} (test : A → Option B) (a : A) (o : Option B) (at : ℕ) (b : B) (mid rest : List ℕ)
    → test a ≡ o → or_bad at o mid ≡ Got b rest → Passed test (Got a mid) b rest
passed_or test a (Some c) at b mid rest e f =
    let x : c ≡ b = cc in
    let y : mid ≡ rest = cc in
    record { a = a; got = ap (Got a) y; passes = e ∙ ap (λ v. Some v) x }
passed_or test a None at b mid rest e f = absurd (cc)

passed : {A B : Type 0} (test : A → Option B) (x : Reading A) (at : ℕ) (b : B) (rest : List ℕ)
    → test_by test at x ≡ Got b rest → Passed test x b rest
passed test (Got a mid) at b rest e = passed_or test a (test a) at b mid rest refl e
passed test (Failed f) at b rest e = absurd (cc)

pub tested_takes : {A B : Type 0} {W : A → List ℕ → Type 0} (test : A → Option B) (r : Field A) → Takes r W
    → Takes (tested test r) (Tested test W)
unfolding tested
tested_takes test r h = record {
  taken = λ whole bytes b rest g e.
      let p = passed test (r whole bytes) (whole - length bytes) b rest e in
      let t = h.taken whole bytes p.a rest g p.got in
      record { used = t.used; cut = t.cut; means = record { value = p.a; passes = p.passes; of_value = t.means } };
}

pub weaken : {A : Type 0} {W V : A → List ℕ → Type 0} (r : Field A) → Takes r W
    → ((a : A) (used : List ℕ) → W a used → V a used) → Takes r V
weaken r h f = record {
  taken = λ whole bytes a rest g e.
      let t = h.taken whole bytes a rest g e in
      record { used = t.used; cut = t.cut; means = f a t.used t.means };
}

-- ---- lists

-- one of several parts, and what holds behind it
pub record Part {A : Type 0} (bytes_of : A → List ℕ) (P : A → Type 0) (Inv : List A → Type 0) (pre : List A) (a : A)
    (used : List ℕ) : Type 0 where
  pub same : used ≡ bytes_of a
  pub good : P a
  pub next : Inv (pre ++ (a ∷ []))

pub record Parts {A : Type 0} (bytes_of : A → List ℕ) (P : A → Type 0) (Inv : List A → Type 0) (n : ℕ)
    (done all : List A) (used : List ℕ) : Type 0 where
  pub xs : List A
  pub all_of : all ≡ done ++ xs
  pub many : length xs ≡ n
  pub same : used ≡ flat_map bytes_of xs
  pub good : All P xs
  pub kept : Inv all

all_more : {A : Type 0} (P : A → Type 0) (x : A) (xs : List A) → P x → All P xs → All P (x ∷ xs)
all_more P x xs p ps zero d h = p
all_more P x xs p ps (suc k) d h = ps k d (omega arith)

pub more_takes : {A : Type 0} (bytes_of : A → List ℕ) (P : A → Type 0) (Inv : List A → Type 0) (part : List A → Field A)
    →
    ((pre : List A) → Inv pre → Takes (part pre) (Part bytes_of P Inv pre)) → (n : ℕ) (done : List A) → Inv done →
    Takes (more n part done) (Parts bytes_of P Inv n done)
unfolding more
more_takes bytes_of P Inv part each zero done kept = record {
  taken = λ whole bytes all rest h e.
      let x : all ≡ done = cc in
      let y : bytes ≡ rest = cc in
      record {
        used = [];
        cut = y;
        means = record {
          xs = [];
          all_of = x ∙ sym (append-nil done);
          many = refl;
          same = refl;
          good = λ k d lt. absurd (omega arith);
          kept = subst Inv (sym x) kept;
        };
      };
}
more_takes bytes_of P Inv part each (suc n) done kept = record {
  taken = λ whole bytes all rest h e.
      let w = went (part done whole bytes) (λ a. more n part (done ++ (a ∷ []))) whole all rest e in
      let t = (each done kept).taken whole bytes w.a w.mid h w.got in
      let u = (more_takes bytes_of P Inv part each n (done ++ (w.a ∷ [])) t.means.next).taken whole w.mid all rest
      (rest_bytes t.used w.mid (subst AreBytes t.cut h)) w.on in
      record {
        used = t.used ++ u.used;
        cut = t.cut ∙ ap (λ l. t.used ++ l) u.cut ∙ sym (append_assoc t.used u.used rest);
        means = record {
          xs = w.a ∷ u.means.xs;
          all_of = u.means.all_of ∙ append_assoc done (w.a ∷ []) u.means.xs;
          many = ap (λ k. suc k) u.means.many;
          same = ap (λ l. l ++ u.used) t.means.same ∙ ap (λ l. bytes_of w.a ++ l) u.means.same;
          good = all_more P w.a u.means.xs t.means.good u.means.good;
          kept = u.means.kept;
        };
      };
}
