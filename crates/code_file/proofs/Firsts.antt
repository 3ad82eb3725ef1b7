-- Where a first fault stands. What a field says of bytes it says of whatever begins with those that it took, and of
-- fewer of them that they are cut short.
--   Took      a field gave a value, and took these bytes for it
--   Broke     a field that stands at `start` broke at `at`, by these bytes
--   Steady    all that a field gives and all bad fields in it are so
use Rattle.std.proofs.Common.{◌≡◌, ◌∙◌, ◌⊎◌, inl, inr, ℕ, zero, suc, ◌+◌, ◌-◌, ◌<◌, ◌≤◌, Bool, true, false, if◌then◌else◌, List, [], ◌∷◌, ◌++◌, length, take, drop, Option, Some, None, refl, sym, ap, subst, append_assoc, length-append, arith, nat_le}
use Rattle.std.specs.Prelude.{codes, nat_eq}
use Rattle.std.proofs.lemmas.Bool.Decides.{nat_tests}
use Rattle.std.proofs.lemmas.List.{append-nil, length-take, length-take-le, take-append-drop, take-append-le, take_at}
use Rattle.std.specs.Int.{w16, w32, w64, from_be_bytes}
use Rattle.std.specs.List.{starts_with}
use Rattle.rev_code.specs.declared.code.Code.{Code}
use Rattle.rev_code.specs.declared.code.LayoutItem.TheVariants as item
use Rattle.code_rules.specs.Tables.{locations}
use Rattle.code_file.specs.declared.fault.ReadFault.{ReadFault}
use Rattle.code_file.specs.declared.fault.ReadFault.TheVariants as fault
use Rattle.code_file.specs.declared.version.Version.{Version}
use Rattle.code_file.specs.Fields.{Reading, Got, Failed, Field, and_then, bytes_of, give, go_on, more, number_8, number_16, number_32, number_64, or_bad, test_by, tested}
use Rattle.code_file.specs.Parts.{Operand, Plain, Truth, Byte, Short, Long, Word, has_tries, is_wide, tries, version_of}
use Rattle.code_file.specs.Files.{file_of}
use Rattle.code_file.specs.Reads.{as_version, at_end, block, blocks, code_of, file, instr, instrs, layout, layout_item, layouts, locals, location_count, magic, name, or_bad_version, reading, text, texts, try_total, var, vars, version as version_field, with_operand}
use Rattle.code_file.specs.Laws.{BadFieldIsFirst, CutIsTruncated, HasFile, MoreIsTrailing, ReadsBack}
use Rattle.code_file.proofs.Written.{decoded}
use Rattle.code_file.proofs.FileRead.{magic_if, same_list}

record Took {A : Type 0} (r : Field A) (a : A) (bytes rest : List ℕ) : Type 0 where
  used : List ℕ
  split : bytes ≡ used ++ rest
  again : (whole : ℕ) (behind : List ℕ) → r whole (used ++ behind) ≡ Got a behind
  cut : (whole n : ℕ) → n < length used → r whole (take n used) ≡ Failed (fault.Truncated whole)

record Broke {A : Type 0} (r : Field A) (start : ℕ) (bytes : List ℕ) (at : ℕ) : Type 0 where
  used : List ℕ
  rest : List ℕ
  split : bytes ≡ used ++ rest
  from : start ≤ at
  upto : at ≤ start + length used
  again : (behind : List ℕ) → r (start + length (used ++ behind)) (used ++ behind) ≡ Failed (fault.BadField at)
  cut : (whole n : ℕ) → n < length used → r whole (take n used) ≡ Failed (fault.Truncated whole)

record Steady {A : Type 0} (r : Field A) : Type 0 where
  took : (whole : ℕ) (bytes : List ℕ) (a : A) (rest : List ℕ) → r whole bytes ≡ Got a rest → Took r a bytes rest
  broke : (start : ℕ) (bytes : List ℕ) (at : ℕ) → r (start + length bytes) bytes ≡ Failed (fault.BadField at)
      → Broke r start bytes at

-- ---- one field

give_steady : {A : Type 0} (a : A) → Steady (give a)
give_steady a = record {
  took = λ whole bytes b rest e.
      let same : a ≡ b = cc in
      let left : bytes ≡ rest = cc in
      record {
        used = [];
        split = left;
        again = λ whole' behind. ap (λ x. Got x behind) same;
        cut = λ whole' n lt. absurd (omega (arith, lt));
      };
  broke = λ start bytes at e. absurd (cc);
}

-- so many bytes, which are decoded
abbrev sized : {A : Type 0} → ℕ → (List ℕ → A) → Field A
sized n f whole bytes =
    if nat_le n (length bytes) then Got (f (take n bytes)) (drop n bytes) else Failed (fault.Truncated whole)

too_few : {A : Type 0} (n m : ℕ) (f : List ℕ → A) (whole : ℕ) (bytes : List ℕ) → m < n
    → sized n f whole (take m bytes) ≡ Failed (fault.Truncated whole)
too_few n m f whole bytes lt =
    let short = length-take m bytes in
    let not : nat_le n (length (take m bytes)) ≡ false = grind (arith, nat_tests) in
    ap (λ (b : Bool).
    if b then Got (f (take n (take m bytes))) (drop n (take m bytes)) else Failed (fault.Truncated whole))
    not

sized_took : {A : Type 0} (n : ℕ) (f : List ℕ → A) (whole : ℕ) (bytes : List ℕ) (a : A) (rest : List ℕ)
    → sized n f whole bytes ≡ Got a rest → Took (sized n f) a bytes rest
sized_took {A = A} n f whole bytes a rest e = go (nat_le n (length bytes)) refl e
  where
    go : (b : Bool) → nat_le n (length bytes) ≡ b
        → (if b then Got (f (take n bytes)) (drop n bytes) else Failed (fault.Truncated whole)) ≡ Got a rest
        → Took (sized n f) a bytes rest
    go false t y = absurd (cc)
    go true t y =
        let enough : n ≤ length bytes = grind (arith, nat_tests) in
        let long : length (take n bytes) ≡ n = length-take-le n bytes enough in
        let same : f (take n bytes) ≡ a = cc in
        let left : drop n bytes ≡ rest = cc in
        record {
          used = take n bytes;
          split = sym (take-append-drop n bytes) ∙ ap (λ l. take n bytes ++ l) left;
          again = λ whole' behind.
              decoded f (Failed (fault.Truncated whole')) (take n bytes) behind n long ∙ ap (λ x. Got x behind) same;
          cut = λ whole' m lt. too_few n m f whole' (take n bytes) (omega (arith, lt, long));
        }

sized_sound : {A : Type 0} (n : ℕ) (f : List ℕ → A) (whole : ℕ) (bytes : List ℕ) (at : ℕ)
    → sized n f whole bytes ≡ Failed (fault.BadField at) → ⊥
sized_sound {A = A} n f whole bytes at e = go (nat_le n (length bytes)) e
  where
    go : (b : Bool)
        → (if b then Got (f (take n bytes)) (drop n bytes) else Failed (fault.Truncated whole))
        ≡ Failed (fault.BadField at)
        → ⊥
    go true y = absurd (cc)
    go false y = absurd (cc)

sized_steady : {A : Type 0} (n : ℕ) (f : List ℕ → A) → Steady (sized n f)
sized_steady n f = record {
  took = λ whole bytes a rest e. sized_took n f whole bytes a rest e;
  broke = λ start bytes at e. absurd (sized_sound n f (start + length bytes) bytes at e);
}

bytes_steady : (n : ℕ) → Steady (bytes_of n)
bytes_steady n = sized_steady n (λ x. x)

number_16_steady : Steady number_16
number_16_steady = sized_steady 2 (from_be_bytes w16)

number_32_steady : Steady number_32
number_32_steady = sized_steady 4 (from_be_bytes w32)

number_64_steady : Steady number_64
number_64_steady = sized_steady 8 (from_be_bytes w64)

none_of_one : (b whole n : ℕ) → n < 1 → number_8 whole (take n (b ∷ [])) ≡ Failed (fault.Truncated whole)
none_of_one b whole zero lt = refl
none_of_one b whole (suc n) lt = absurd (omega (arith, lt))

number_8_took : (whole : ℕ) (bytes : List ℕ) (a : ℕ) (rest : List ℕ) → number_8 whole bytes ≡ Got a rest
    → Took number_8 a bytes rest
number_8_took whole [] a rest e = absurd (cc)
number_8_took whole (b ∷ bytes) a rest e =
    let same : b ≡ a = cc in
    let left : bytes ≡ rest = cc in
    record {
      used = b ∷ [];
      split = ap (λ l. b ∷ l) left;
      again = λ whole' behind. ap (λ x. Got x behind) same;
      cut = none_of_one b;
    }

number_8_sound : (whole : ℕ) (bytes : List ℕ) (at : ℕ) → number_8 whole bytes ≡ Failed (fault.BadField at) → ⊥
number_8_sound whole [] at e = absurd (cc)
number_8_sound whole (b ∷ bytes) at e = absurd (cc)

number_8_steady : Steady number_8
number_8_steady = record {
  took = λ whole bytes a rest e. number_8_took whole bytes a rest e;
  broke = λ start bytes at e. absurd (number_8_sound (start + length bytes) bytes at e);
}

-- ---- a field behind another

-- fewer bytes than two lists have: fewer than the first, or the first and fewer than the second
abbrev Fewer : (xs ys : List ℕ) (n : ℕ) → Type 0
Fewer xs ys n =
    ((n < length xs) × (take n (xs ++ ys) ≡ take n xs))
    ⊎ ((m : ℕ) × (m < length ys) × (take n (xs ++ ys) ≡ xs ++ take m ys))

fewer_more : (x : ℕ) (xs ys : List ℕ) (n : ℕ) → Fewer xs ys n → Fewer (x ∷ xs) ys (suc n)
fewer_more x xs ys n (inl p) = (let lt = p.0 in inl (omega (arith, lt), ap (λ l. x ∷ l) p.1))
fewer_more x xs ys n (inr p) = inr (p.0, p.1, ap (λ l. x ∷ l) p.2)

fewer : (xs ys : List ℕ) (n : ℕ) → n < length (xs ++ ys) → Fewer xs ys n
fewer [] ys n h = inr (n, h, refl)
fewer (x ∷ xs) ys zero h = inl (omega arith, refl)
fewer (x ∷ xs) ys (suc n) h = fewer_more x xs ys n (fewer xs ys n (omega (arith, h)))

module _ {A B : Type 0} (r : Field A) (k : A → Field B) where
  then_cut : (a : A) (u v : List ℕ) → ((whole : ℕ) (behind : List ℕ) → r whole (u ++ behind) ≡ Got a behind)
      → ((whole n : ℕ) → n < length u → r whole (take n u) ≡ Failed (fault.Truncated whole))
      → ((whole n : ℕ) → n < length v → k a whole (take n v) ≡ Failed (fault.Truncated whole))
      → (whole n : ℕ) → n < length (u ++ v) → and_then r k whole (take n (u ++ v)) ≡ Failed (fault.Truncated whole)
  unfolding and_then
  then_cut a u v again first second whole n lt = go (fewer u v n lt)
    where
      go : Fewer u v n → go_on (r whole (take n (u ++ v))) k whole ≡ Failed (fault.Truncated whole)
      go (inl p) = ap (λ l. go_on (r whole l) k whole) p.1 ∙ ap (λ x. go_on x k whole) (first whole n p.0)
      go (inr p) = ap (λ l. go_on (r whole l) k whole) p.2 ∙ ap (λ x. go_on x k whole) (again whole (take p.0 v))
          ∙ second whole p.0 p.1

  both_took : (a : A) (b : B) (bytes mid rest : List ℕ) → Took r a bytes mid → Took (k a) b mid rest
      → Took (and_then r k) b bytes rest
  unfolding and_then
  both_took a b bytes mid rest p q = record {
    used = p.used ++ q.used;
    split = p.split ∙ ap (λ l. p.used ++ l) q.split ∙ sym (append_assoc p.used q.used rest);
    again = λ whole behind.
        ap (λ l. go_on (r whole l) k whole) (append_assoc p.used q.used behind)
        ∙ ap (λ x. go_on x k whole) (p.again whole (q.used ++ behind))
        ∙ q.again whole behind;
    cut = then_cut a p.used q.used p.again p.cut q.cut;
  }

  first_broke : (start : ℕ) (bytes : List ℕ) (at : ℕ) → Broke r start bytes at → Broke (and_then r k) start bytes at
  unfolding and_then
  first_broke start bytes at p = record {
    used = p.used;
    rest = p.rest;
    split = p.split;
    from = p.from;
    upto = p.upto;
    again = λ behind. ap (λ x. go_on x k (start + length (p.used ++ behind))) (p.again behind);
    cut = λ whole n lt. ap (λ x. go_on x k whole) (p.cut whole n lt);
  }

  -- by the bytes behind those of the first field
  behind_at : (start : ℕ) (u v : List ℕ) → start + length (u ++ v) ≡ (start + length u) + length v
  behind_at start u v = let l = length-append u v in omega (arith, l)

  second_broke : (a : A) (start : ℕ) (bytes mid : List ℕ) (at : ℕ) → (p : Took r a bytes mid)
      → Broke (k a) (start + length p.used) mid at → Broke (and_then r k) start bytes at
  unfolding and_then
  second_broke a start bytes mid at p q =
      let from = q.from in
      let upto = q.upto in
      let long = length-append p.used q.used in
      record {
        used = p.used ++ q.used;
        rest = q.rest;
        split = p.split ∙ ap (λ l. p.used ++ l) q.split ∙ sym (append_assoc p.used q.used q.rest);
        from = omega (arith, from);
        upto = omega (arith, upto, long);
        again = λ behind.
            let whole = start + length ((p.used ++ q.used) ++ behind) in
            ap (λ l. go_on (r whole l) k whole) (append_assoc p.used q.used behind)
            ∙ ap (λ x. go_on x k whole) (p.again whole (q.used ++ behind))
            ∙ ap (λ w. k a w (q.used ++ behind))
            (ap (λ l. start + length l) (append_assoc p.used q.used behind) ∙ behind_at start p.used (q.used ++ behind))
            ∙ q.again behind;
        cut = then_cut a p.used q.used p.again p.cut q.cut;
      }

  then_steady : Steady r → ((a : A) → Steady (k a)) → Steady (and_then r k)
  unfolding and_then
  then_steady first next = record { took = took; broke = broke }
    where
      took : (whole : ℕ) (bytes : List ℕ) (b : B) (rest : List ℕ) → go_on (r whole bytes) k whole ≡ Got b rest
          → Took (and_then r k) b bytes rest
      took whole bytes b rest e = go (r whole bytes) refl e
        where
          go : (x : Reading A) → r whole bytes ≡ x → go_on x k whole ≡ Got b rest → Took (and_then r k) b bytes rest
          go (Got a mid) t y =
              both_took a b bytes mid rest (first.took whole bytes a mid t) ((next a).took whole mid b rest y)
          go (Failed f) t y = absurd (cc)

      broke : (start : ℕ) (bytes : List ℕ) (at : ℕ)
          → go_on (r (start + length bytes) bytes) k (start + length bytes) ≡ Failed (fault.BadField at)
          → Broke (and_then r k) start bytes at
      broke start bytes at e = go (r (start + length bytes) bytes) refl e
        where
          go : (x : Reading A) → r (start + length bytes) bytes ≡ x
              → go_on x k (start + length bytes) ≡ Failed (fault.BadField at) → Broke (and_then r k) start bytes at
          go (Got a mid) t y =
              let p = first.took (start + length bytes) bytes a mid t in
              let whole : start + length bytes ≡ (start + length p.used) + length mid =
              ap (λ l. start + length l) p.split ∙ behind_at start p.used mid in
              second_broke a start bytes mid at p
              ((next a).broke (start + length p.used) mid at (ap (λ w. k a w mid) (sym whole) ∙ y))
          go (Failed f) t y =
              first_broke start bytes at
              (first.broke start bytes at
              (let same : f ≡ fault.BadField at = cc in t ∙ ap (λ (g : ReadFault). Failed g) same))

-- ---- a field whose value is tested

module _ {A B : Type 0} (test : A → Option B) (r : Field A) where
  tested_took : (a : A) (b : B) (bytes rest : List ℕ) → test a ≡ Some b → Took r a bytes rest
      → Took (tested test r) b bytes rest
  unfolding tested
  tested_took a b bytes rest e p = record {
    used = p.used;
    split = p.split;
    again = λ whole behind.
        ap (test_by test (whole - length (p.used ++ behind))) (p.again whole behind)
        ∙ ap (λ o. or_bad (whole - length (p.used ++ behind)) o behind) e;
    cut = λ whole n lt. ap (test_by test (whole - length (take n p.used))) (p.cut whole n lt);
  }

  within_broke : (start : ℕ) (bytes : List ℕ) (at : ℕ) → Broke r start bytes at → Broke (tested test r) start bytes at
  unfolding tested
  within_broke start bytes at p = record {
    used = p.used;
    rest = p.rest;
    split = p.split;
    from = p.from;
    upto = p.upto;
    again = λ behind.
        ap (test_by test ((start + length (p.used ++ behind)) - length (p.used ++ behind))) (p.again behind);
    cut = λ whole n lt. ap (test_by test (whole - length (take n p.used))) (p.cut whole n lt);
  }

  at_start : (start n : ℕ) → (start + n) - n ≡ start
  at_start start n = omega arith

  test_broke : (a : A) (start : ℕ) (bytes rest : List ℕ) (at : ℕ) → test a ≡ None → Took r a bytes rest → at ≡ start
      → Broke (tested test r) start bytes at
  unfolding tested
  test_broke a start bytes rest at e p same = record {
    used = p.used;
    rest = rest;
    split = p.split;
    from = omega (arith, same);
    upto = omega (arith, same);
    again = λ behind.
        let n = length (p.used ++ behind) in
        ap (test_by test ((start + n) - n)) (p.again (start + n) behind)
        ∙ ap (λ o. or_bad ((start + n) - n) o behind) e
        ∙ ap (λ m. Failed (fault.BadField m)) (at_start start n ∙ sym same);
    cut = λ whole n lt. ap (test_by test (whole - length (take n p.used))) (p.cut whole n lt);
  }

  tested_steady : Steady r → Steady (tested test r)
  unfolding tested
  tested_steady first = record { took = took; broke = broke }
    where
      took : (whole : ℕ) (bytes : List ℕ) (b : B) (rest : List ℕ)
          → test_by test (whole - length bytes) (r whole bytes) ≡ Got b rest → Took (tested test r) b bytes rest
      took whole bytes b rest e = go (r whole bytes) refl e
        where
          of_test : (a : A) (mid : List ℕ) (o : Option B) → test a ≡ o → r whole bytes ≡ Got a mid
              → or_bad (whole - length bytes) o mid ≡ Got b rest → Took (tested test r) b bytes rest
          of_test a mid (Some c) s t y =
              let same : c ≡ b = cc in
              let left : mid ≡ rest = cc in
              tested_took a b bytes rest (s ∙ ap (λ z. Some z) same)
              (first.took whole bytes a rest (t ∙ ap (λ l. Got a l) left))
          of_test a mid None s t y = absurd (cc)

          go : (x : Reading A) → r whole bytes ≡ x → test_by test (whole - length bytes) x ≡ Got b rest
              → Took (tested test r) b bytes rest
          go (Got a mid) t y = of_test a mid (test a) refl t y
          go (Failed f) t y = absurd (cc)

      broke : (start : ℕ) (bytes : List ℕ) (at : ℕ)
          → test_by test ((start + length bytes) - length bytes) (r (start + length bytes) bytes)
          ≡ Failed (fault.BadField at)
          → Broke (tested test r) start bytes at
      broke start bytes at e = go (r (start + length bytes) bytes) refl e
        where
          of_test : (a : A) (mid : List ℕ) (o : Option B) → test a ≡ o → r (start + length bytes) bytes ≡ Got a mid
              → or_bad ((start + length bytes) - length bytes) o mid ≡ Failed (fault.BadField at)
              → Broke (tested test r) start bytes at
          of_test a mid (Some c) s t y = absurd (cc)
          of_test a mid None s t y =
              let same : (start + length bytes) - length bytes ≡ at = cc in
              test_broke a start bytes mid at s (first.took (start + length bytes) bytes a mid t)
              (sym same ∙ at_start start (length bytes))

          go : (x : Reading A) → r (start + length bytes) bytes ≡ x
              → test_by test ((start + length bytes) - length bytes) x ≡ Failed (fault.BadField at)
              → Broke (tested test r) start bytes at
          go (Got a mid) t y = of_test a mid (test a) refl t y
          go (Failed f) t y =
              within_broke start bytes at
              (first.broke start bytes at
              (let same : f ≡ fault.BadField at = cc in t ∙ ap (λ (g : ReadFault). Failed g) same))

-- ---- several parts

-- fields that say the same
alike : {A : Type 0} (r s : Field A) → ((whole : ℕ) (bytes : List ℕ) → s whole bytes ≡ r whole bytes) → Steady s
    → Steady r
alike r s same h = subst Steady (λ j whole bytes. same whole bytes j) h

more_steady : {A : Type 0} (n : ℕ) (part : List A → Field A) → ((done : List A) → Steady (part done)) → (done : List A)
    → Steady (more n part done)
unfolding more and_then
more_steady zero part steady done = alike (more zero part done) (give done) (λ whole bytes. refl) (give_steady done)
more_steady (suc n) part steady done =
    alike (more (suc n) part done) (and_then (part done) (λ a. more n part (done ++ (a ∷ [])))) (λ whole bytes. refl)
    (then_steady (part done) (λ a. more n part (done ++ (a ∷ []))) (steady done)
    (λ a. more_steady n part steady (done ++ (a ∷ []))))

-- ---- field by field

magic_cut : (whole n : ℕ) → n < 4 → magic whole (take n (codes "REVC")) ≡ Failed (fault.Truncated whole)
magic_cut whole zero lt = refl
magic_cut whole (suc zero) lt = refl
magic_cut whole (suc (suc zero)) lt = refl
magic_cut whole (suc (suc (suc zero))) lt = refl
magic_cut whole (suc (suc (suc (suc n)))) lt = absurd (omega (arith, lt))

magic_took : (whole : ℕ) (bytes : List ℕ) (u : Unit {0}) (rest : List ℕ) → magic whole bytes ≡ Got u rest
    → Took magic u bytes rest
magic_took whole bytes u rest e =
    let p = magic_if (starts_with nat_eq bytes (codes "REVC")) (starts_with nat_eq (codes "REVC") bytes) whole
    (drop 4 bytes) u rest e in
    record {
      used = codes "REVC";
      split = sym (take-append-drop 4 bytes)
          ∙ ap (λ l. l ++ drop 4 bytes) (sym (same_list (codes "REVC") (take 4 bytes) p.0))
          ∙ ap (λ l. codes "REVC" ++ l) p.1;
      again = λ whole' behind. refl;
      cut = magic_cut;
    }

passed : Unit {0}
passed = tt

magic_sound : (whole : ℕ) (bytes : List ℕ) (at : ℕ) → magic whole bytes ≡ Failed (fault.BadField at) → ⊥
magic_sound whole bytes at e = go (starts_with nat_eq bytes (codes "REVC")) (starts_with nat_eq (codes "REVC") bytes) e
  where
    go : (b c : Bool)
        → (if b then Got passed (drop 4 bytes) else if c then Failed (fault.Truncated whole) else Failed fault.BadMagic)
        ≡ Failed (fault.BadField at)
        → ⊥
    go true c y = absurd (cc)
    go false true y = absurd (cc)
    go false false y = absurd (cc)

magic_steady : Steady magic
magic_steady = record {
  took = λ whole bytes u rest e. magic_took whole bytes u rest e;
  broke = λ start bytes at e. absurd (magic_sound (start + length bytes) bytes at e);
}

version_took : (whole : ℕ) (bytes : List ℕ) (v : Version) (rest : List ℕ) → version_field whole bytes ≡ Got v rest
    → Took version_field v bytes rest
version_took whole bytes v rest e = go (number_16 whole bytes) refl e
  where
    of_number : (n : ℕ) (mid : List ℕ) (o : Option Version) → version_of n ≡ o → number_16 whole bytes ≡ Got n mid
        → or_bad_version o mid ≡ Got v rest → Took version_field v bytes rest
    of_number n mid (Some w) s t y =
        let same : w ≡ v = cc in
        let left : mid ≡ rest = cc in
        let p = number_16_steady.took whole bytes n rest (t ∙ ap (λ l. Got n l) left) in
        record {
          used = p.used;
          split = p.split;
          again = λ whole' behind.
              ap as_version (p.again whole' behind) ∙ ap (λ o. or_bad_version o behind) (s ∙ ap (λ z. Some z) same);
          cut = λ whole' m lt. ap as_version (p.cut whole' m lt);
        }
    of_number n mid None s t y = absurd (cc)

    go : (x : Reading ℕ) → number_16 whole bytes ≡ x → as_version x ≡ Got v rest → Took version_field v bytes rest
    go (Got n mid) t y = of_number n mid (version_of n) refl t y
    go (Failed f) t y = absurd (cc)

version_sound : (whole : ℕ) (bytes : List ℕ) (at : ℕ) → version_field whole bytes ≡ Failed (fault.BadField at) → ⊥
version_sound whole bytes at e = go (number_16 whole bytes) refl e
  where
    of_number : (o : Option Version) (mid : List ℕ) → or_bad_version o mid ≡ Failed (fault.BadField at) → ⊥
    of_number (Some w) mid y = absurd (cc)
    of_number None mid y = absurd (cc)

    go : (x : Reading ℕ) → number_16 whole bytes ≡ x → as_version x ≡ Failed (fault.BadField at) → ⊥
    go (Got n mid) t y = of_number (version_of n) mid y
    go (Failed f) t y =
        sized_sound 2 (from_be_bytes w16) whole bytes at
        (let same : f ≡ fault.BadField at = cc in t ∙ ap (λ (g : ReadFault). Failed g) same)

version_steady : Steady version_field
version_steady = record {
  took = λ whole bytes v rest e. version_took whole bytes v rest e;
  broke = λ start bytes at e. absurd (version_sound (start + length bytes) bytes at e);
}

name_steady : Steady name
unfolding name
name_steady = then_steady number_32 _ number_32_steady (λ n. tested_steady _ _ (bytes_steady n))

var_steady : (wide : Bool) (before : ℕ) → Steady (var wide before)
unfolding var
var_steady wide before =
    then_steady name _ name_steady (λ _.
    then_steady _ _ (tested_steady _ _ number_8_steady) (λ _.
    then_steady _ _ (tested_steady _ _ number_8_steady) (λ _.
    then_steady _ _ (tested_steady _ _ number_8_steady) (λ _.
    then_steady _ _ (tested_steady _ _ number_32_steady) (λ _.
    then_steady _ _ (tested_steady _ _ number_64_steady) (λ _.
    then_steady _ _ (tested_steady _ _ number_16_steady) (λ _.
    give_steady _)))))))

vars_steady : (wide : Bool) → Steady (vars wide)
unfolding vars
vars_steady wide =
    then_steady number_16 _ number_16_steady
    (λ n. more_steady n (λ done. var wide (locations done)) (λ done. var_steady wide (locations done)) [])

location_count_steady : (wide : Bool) (sum : ℕ) → Steady (location_count wide sum)
unfolding location_count
location_count_steady true sum = tested_steady _ _ number_32_steady
location_count_steady false sum = give_steady passed

text_steady : Steady text
unfolding text
text_steady = then_steady number_32 _ number_32_steady (λ n. tested_steady _ _ (bytes_steady n))

texts_steady : Steady texts
unfolding texts
texts_steady = then_steady number_32 _ number_32_steady (λ n. more_steady n (λ _. text) (λ _. text_steady) [])

layout_item_steady : Steady layout_item
unfolding layout_item
layout_item_steady = then_steady _ _ (tested_steady _ _ number_8_steady) (λ sort. go (nat_eq sort 0) (nat_eq sort 1))
  where
    go : (a b : Bool)
        → Steady
        (if a then give item.Int else if b then give item.Bool else and_then number_32 (λ n. give (item.Text n)))
    go true b = give_steady item.Int
    go false true = give_steady item.Bool
    go false false = then_steady number_32 _ number_32_steady (λ n. give_steady (item.Text n))

layout_steady : Steady layout
unfolding layout
layout_steady =
    then_steady number_8 _ number_8_steady (λ n. more_steady n (λ _. layout_item) (λ _. layout_item_steady) [])

layouts_steady : Steady layouts
unfolding layouts
layouts_steady = then_steady number_32 _ number_32_steady (λ n. more_steady n (λ _. layout) (λ _. layout_steady) [])

operand_steady : (o : Operand) → Steady (with_operand o)
operand_steady (Plain i) = give_steady i
operand_steady (Truth make) = then_steady _ _ (tested_steady _ _ number_8_steady) (λ b. give_steady (make b))
operand_steady (Byte make) = then_steady number_8 _ number_8_steady (λ n. give_steady (make n))
operand_steady (Short make) = then_steady number_16 _ number_16_steady (λ n. give_steady (make n))
operand_steady (Long make) = then_steady number_32 _ number_32_steady (λ n. give_steady (make n))
operand_steady (Word make) = then_steady number_64 _ number_64_steady (λ n. give_steady (make n))

instr_steady : (may_try : Bool) → Steady (instr may_try)
unfolding instr
instr_steady may_try = then_steady _ _ (tested_steady _ _ number_8_steady) operand_steady

instrs_steady : (may_try : Bool) → Steady (instrs may_try)
unfolding instrs
instrs_steady may_try =
    then_steady number_32 _ number_32_steady (λ n. more_steady n (λ _. instr may_try) (λ _. instr_steady may_try) [])

locals_steady : Steady locals
unfolding locals
locals_steady =
    then_steady number_8 _ number_8_steady (λ n. more_steady n _ (λ _. tested_steady _ _ number_8_steady) [])

block_steady : (may_try : Bool) → Steady (block may_try)
unfolding block
block_steady may_try =
    then_steady _ _ (tested_steady _ _ number_8_steady) (λ _.
    then_steady number_8 _ number_8_steady (λ _.
    then_steady _ _ (tested_steady _ _ number_8_steady) (λ _.
    then_steady locals _ locals_steady (λ _.
    then_steady (instrs may_try) _ (instrs_steady may_try) (λ _.
    give_steady _)))))

blocks_steady : (may_try : Bool) → Steady (blocks may_try)
unfolding blocks
blocks_steady may_try =
    then_steady number_16 _ number_16_steady (λ n. more_steady n (λ _. block may_try) (λ _. block_steady may_try) [])

try_total_steady : (may_try wide : Bool) (sum : ℕ) → Steady (try_total may_try wide sum)
unfolding try_total
try_total_steady true wide sum = tested_steady _ _ number_32_steady
try_total_steady false wide sum = give_steady passed

code_steady : (wide may_try : Bool) → Steady (code_of wide may_try)
unfolding code_of
code_steady wide may_try =
    then_steady (vars wide) _ (vars_steady wide) (λ vars'.
    then_steady (location_count wide (locations vars')) _ (location_count_steady wide (locations vars')) (λ _.
    then_steady texts _ texts_steady (λ _.
    then_steady layouts _ layouts_steady (λ _.
    then_steady (blocks may_try) _ (blocks_steady may_try) (λ blocks'.
    then_steady (try_total may_try wide (tries blocks')) _ (try_total_steady may_try wide (tries blocks')) (λ _.
    give_steady _))))))

-- ---- the file: its fields, and the end

abbrev fields : Field Code
fields = and_then magic (λ _. and_then version_field (λ v. code_of (is_wide v) (has_tries v)))

abbrev ended : Code → Field Code
ended code = and_then at_end (λ _. give code)

fields_steady : Steady fields
fields_steady =
    then_steady magic _ magic_steady
    (λ _. then_steady version_field _ version_steady (λ v. code_steady (is_wide v) (has_tries v)))

in_turn : {A B C : Type 0} (x : Reading A) (k : A → Field B) (l : B → Field C) (whole : ℕ)
    → go_on x (λ a. and_then (k a) l) whole ≡ go_on (go_on x k whole) l whole
unfolding and_then
in_turn (Got a rest) k l whole = refl
in_turn (Failed f) k l whole = refl

file_is : (whole : ℕ) (bytes : List ℕ) → file whole bytes ≡ go_on (fields whole bytes) ended whole
unfolding file and_then
file_is whole bytes =
    ap (λ (k : Unit {0} → Field Code). go_on (magic whole bytes) k whole)
    (λ j u w l. in_turn (version_field w l) (λ v. code_of (is_wide v) (has_tries v)) ended w j)
    ∙ in_turn (magic whole bytes) (λ _. and_then version_field (λ v. code_of (is_wide v) (has_tries v))) ended whole

end_got : (whole : ℕ) (code c : Code) (mid : List ℕ) → ended c whole mid ≡ Got code [] → Got c mid ≡ Got code []
unfolding and_then
end_got whole code c [] e = e
end_got whole code c (b ∷ mid) e = absurd (cc)

end_sound : (whole : ℕ) (c : Code) (mid : List ℕ) (at : ℕ) → ended c whole mid ≡ Failed (fault.BadField at) → ⊥
unfolding and_then
end_sound whole c [] at e = absurd (cc)
end_sound whole c (b ∷ mid) at e = absurd (cc)

end_behind : (whole : ℕ) (c : Code) (b : ℕ) (mid : List ℕ)
    → ended c whole (b ∷ mid) ≡ Failed (fault.Trailing (whole - length (b ∷ mid)))
unfolding and_then
end_behind whole c b mid = refl

fields_got : (whole : ℕ) (bytes : List ℕ) (code : Code) → file whole bytes ≡ Got code []
    → fields whole bytes ≡ Got code []
fields_got whole bytes code e = go (fields whole bytes) refl (sym (file_is whole bytes) ∙ e)
  where
    go : (x : Reading Code) → fields whole bytes ≡ x → go_on x ended whole ≡ Got code []
        → fields whole bytes ≡ Got code []
    go (Got c mid) t y = t ∙ end_got whole code c mid y
    go (Failed f) t y = absurd (cc)

fields_bad : (whole : ℕ) (bytes : List ℕ) (at : ℕ) → file whole bytes ≡ Failed (fault.BadField at)
    → fields whole bytes ≡ Failed (fault.BadField at)
fields_bad whole bytes at e = go (fields whole bytes) refl (sym (file_is whole bytes) ∙ e)
  where
    go : (x : Reading Code) → fields whole bytes ≡ x → go_on x ended whole ≡ Failed (fault.BadField at)
        → fields whole bytes ≡ Failed (fault.BadField at)
    go (Got c mid) t y = absurd (end_sound whole c mid at y)
    go (Failed f) t y = t ∙ ap (λ (g : ReadFault). Failed g) (let same : f ≡ fault.BadField at = cc in same)

whole_is : (bytes : List ℕ) (n : ℕ) → length bytes ≡ n → reading bytes ≡ go_on (fields n bytes) ended n
whole_is bytes n e = ap (λ w. file w bytes) e ∙ file_is n bytes

-- ---- the laws

took_file : ReadsBack → (code : Code) → HasFile code → Took fields code (file_of code) []
took_file back code has =
    fields_steady.took (length (file_of code)) (file_of code) code []
    (fields_got (length (file_of code)) (file_of code) code (back code has))

pub cut_is_truncated : ReadsBack → CutIsTruncated
cut_is_truncated back code n has lt =
    let t = took_file back code has in
    let all : file_of code ≡ t.used = t.split ∙ append-nil t.used in
    whole_is (take n (file_of code)) n (length-take-le n (file_of code) (omega (arith, lt)))
    ∙ ap (λ l. go_on (fields n (take n l)) ended n) all
    ∙ ap (λ x. go_on x ended n) (t.cut n n (subst (λ l. n < length l) all lt))

pub more_is_trailing : ReadsBack → MoreIsTrailing
more_is_trailing back code b rest has =
    let t = took_file back code has in
    let all : file_of code ≡ t.used = t.split ∙ append-nil t.used in
    let bytes = file_of code ++ b ∷ rest in
    let whole = length bytes in
    let long = length-append (file_of code) (b ∷ rest) in
    whole_is bytes whole refl
    ∙ ap (λ l. go_on (fields whole (l ++ b ∷ rest)) ended whole) all
    ∙ ap (λ x. go_on x ended whole) (t.again whole (b ∷ rest))
    ∙ end_behind whole code b rest
    ∙ ap (λ n. Failed (fault.Trailing n))
    (let z : whole - length (b ∷ rest) ≡ length (file_of code) = omega (arith, long) in z)

pub bad_field_is_first : ReadsBack → BadFieldIsFirst
bad_field_is_first back bytes at e =
    let zero_more : (n : ℕ) → 0 + n ≡ n = λ n. (let z : 0 + n ≡ n = omega arith in z) in
    let q = fields_steady.broke 0 bytes at
    (ap (λ w. fields w bytes) (zero_more (length bytes)) ∙ fields_bad (length bytes) bytes at e) in
    let end = length q.used in
    let upto = q.upto in
    let long = ap length q.split ∙ length-append q.used q.rest in
    let begins : take end bytes ≡ q.used = ap (take end) q.split ∙ take_at q.used q.rest end refl in
    let same : (rest : List ℕ) → reading (take end bytes ++ rest) ≡ Failed (fault.BadField at) = λ rest.
    ap (λ l. reading (l ++ rest)) begins
    ∙ whole_is (q.used ++ rest) (0 + length (q.used ++ rest)) (sym (zero_more (length (q.used ++ rest))))
    ∙ ap (λ x. go_on x ended (0 + length (q.used ++ rest))) (q.again rest) in (
      end,
      record {
        starts = omega (arith, upto);
        within = omega (arith, long);
        short = λ n lt.
            ap reading (ap (take n) q.split ∙ take-append-le n q.used q.rest (omega (arith, lt)))
            ∙ whole_is (take n q.used) n (length-take-le n q.used (omega (arith, lt)))
            ∙ ap (λ x. go_on x ended n) (q.cut n n lt);
        same = same;
        none = λ code rest has is. not_both code at (sym (back code has) ∙ ap reading is ∙ same rest);
      },
    )
  where
    not_both : (code : Code) (at : ℕ) → Got code [] ≡ Failed (fault.BadField at) → ⊥
    not_both code at y = absurd (cc)
