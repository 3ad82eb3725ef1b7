-- What is read is the file of what was read.
use Rattle.std.proofs.Common.{◌≡◌, ◌∙◌, ℕ, ◌<◌, ◌≤◌, Bool, true, false, ◌&&◌, ◌||◌, if◌then◌else◌, List, [], ◌∷◌, ◌++◌, length, map, take, drop, All, Option, Some, None, refl, sym, ap, arith, nat_eq, nat_lt, codes}
use Rattle.std.proofs.lemmas.Grind.{common_steps}
use Rattle.std.proofs.lemmas.List.{append-nil}
use Rattle.std.specs.Int.{w16, w32, to_be_bytes}
use Rattle.std.specs.List.{flat_map, sum_by, starts_with}
use Rattle.std.specs.Cmp.Lexicographic.{pointwise}
use Rattle.std.proofs.lemmas.List.{take-append-drop}
use Rattle.code_file.specs.declared.fault.ReadFault.TheVariants as fault
use Rattle.std.proofs.lemmas.List.Sums.{sum_by-append, sum_by-cons}
use Rattle.std.proofs.Common.{get_or, subst}
use Rattle.rev_num.specs.declared.value.ValueKind.{ValueKind}
use Rattle.rev_num.specs.Laws.{WordsAndNumbersAreInverse}
use Rattle.rev_code.specs.declared.code.Code.{Code}
use Rattle.rev_code.specs.declared.code.CodeBlock.{CodeBlock}
use Rattle.code_rules.specs.Tables.{locations}
use Rattle.code_file.specs.declared.version.Version.{Version}
use Rattle.code_file.specs.declared.version.Version.TheVariants as version
use Rattle.code_file.specs.Counts.{HasShortName, IsShort, IsShortLayout, IsShortBlock}
use Rattle.code_file.specs.Fields.{Reading, Got, Failed, and_then, give, number_8, number_16, number_32, tested, more}
use Rattle.code_file.specs.Parts.{when, kind_of, result_of, class_of, version_of, is_text, is_wide, has_tries, tries, tries_in}
use Rattle.code_file.specs.Files.{kind_byte, result_byte, class_byte, block_bytes, version_number, location_bytes, try_bytes, body_bytes, file_of}
use Rattle.code_file.specs.Laws.{Is8, Is16, IsVar, IsText, IsItem, IsBlock, HasFile}
use Rattle.code_file.specs.Reads.{magic, as_version, or_bad_version, version as version_field, vars, location_count, texts, layouts, instrs, locals, block, blocks, try_total, code_of, at_end, file, reading}
use Rattle.code_file.specs.Laws.{AreBytes, IsFile}
use Rattle.std.specs.Prelude.{Result, Ok, Err, IfOk, OnOk}
use Rattle.code_file.specs.declared.fault.ReadFault.{ReadFault}
use Rattle.code_file.specs.Fields.{Follows}
use Rattle.code_file.proofs.Spelled.{Taken, Takes, Spelled, then_takes, tested_takes, number_8_takes, number_16_takes, number_32_takes, weaken, give_takes}
use Rattle.code_file.proofs.FieldRead.{Counts, InstrParts, LayoutGood, LongText, VarParts, byte_takes, class_forth, counted_takes, instrs_takes, join, kind_forth, layouts_takes, plain_takes, result_forth, room_kept, texts_takes, vars_takes, version_forth}

-- ---- blocks

pub one_byte : (xs : List ValueKind) → flat_map (λ k. kind_byte k ∷ []) xs ≡ map kind_byte xs
one_byte [] = refl
one_byte (x ∷ xs) = ap (λ l. kind_byte x ∷ l) (one_byte xs)

record FewLocals (kinds : List ValueKind) : Type 0 where
  few : length kinds < 256

locals_takes : Takes locals (Spelled (λ kinds. length kinds ∷ map kind_byte kinds) FewLocals)
unfolding locals
locals_takes =
    weaken (and_then number_8 (λ count. more count (λ _. tested kind_of number_8) []))
    (plain_takes number_8 (λ n. n ∷ []) Is8 (λ k. kind_byte k ∷ []) (λ _. Unit {0}) (tested kind_of number_8)
    number_8_takes (byte_takes kind_of kind_byte kind_forth))
    (λ a used t. record { same = t.same ∙ ap (λ l. length a ∷ l) (one_byte a); good = record { few = t.few } })

record BlockGood (tries' : Bool) (b : CodeBlock) : Type 0 where
  is : IsBlock b
  short : IsShortBlock b
  may : tries' ≡ false → tries_in b.instrs ≡ 0

block_takes : WordsAndNumbersAreInverse → (tries' : Bool)
    → Takes (block tries') (Spelled block_bytes (BlockGood tries'))
unfolding block block_bytes InstrParts
block_takes words tries' =
    weaken (block tries')
    (then_takes (tested class_of number_8) _ (byte_takes class_of class_byte class_forth) (λ class'.
    then_takes number_8 _ number_8_takes (λ params.
    then_takes (tested result_of number_8) _ (byte_takes result_of result_byte result_forth) (λ result.
    then_takes locals _ locals_takes (λ locals'.
    then_takes (instrs tries') _ (instrs_takes words tries') (λ instrs'.
    give_takes (record { class = class'; params = params; result = result; locals = locals'; instrs = instrs' })))))))
    (λ v used a.
    let b = a.of_rest in
    let c = b.of_rest in
    let d = c.of_rest in
    let e = d.of_rest in
    subst (λ x. Spelled block_bytes (BlockGood tries') x used) (sym e.of_rest.same)
    (record {
      same =
          join used a.front a.behind _ _ a.cut a.of_first.same
          (join a.behind b.front b.behind _ _ b.cut b.of_first.same
          (join b.behind c.front c.behind _ _ c.cut c.of_first.same
          (join c.behind d.front d.behind _ _ d.cut d.of_first.same
          (e.cut ∙ ap (λ l. e.front ++ l) e.of_rest.none ∙ append-nil e.front ∙ e.of_first.same))));
      good = record {
        is = record { params = b.of_first.good; instrs = e.of_first.good };
        short = record { locals = d.of_first.good.few; instrs = e.of_first.few };
        may = e.of_first.kept;
      };
    }))

BlockParts : (tries' : Bool) → List CodeBlock → List ℕ → Type 0
BlockParts tries' =
    Counts (λ n. to_be_bytes w16 n) Is16 block_bytes (λ b. IsBlock b × IsShortBlock b)
    (λ done. tries' ≡ false → tries done ≡ 0)

blocks_takes : WordsAndNumbersAreInverse → (tries' : Bool) → Takes (blocks tries') (BlockParts tries')
unfolding blocks BlockParts
blocks_takes words tries' =
    counted_takes number_16 (λ n. to_be_bytes w16 n) Is16 block_bytes (λ b. IsBlock b × IsShortBlock b)
    (λ done. tries' ≡ false → tries done ≡ 0) (λ _. block tries') number_16_takes (λ without. refl)
    (λ pre kept. weaken (block tries') (block_takes words tries') (λ x used t. record {
      same = t.same;
      good = (t.good.is, t.good.short);
      next = λ without.
          let a = sum_by-append (λ (b : CodeBlock). tries_in b.instrs) pre (x ∷ []) in
          let b = sum_by-cons (λ (b : CodeBlock). tries_in b.instrs) x [] in
          let c : tries pre ≡ 0 = kept without in
          let d : tries_in x.instrs ≡ 0 = t.good.may without in
          let z : sum_by (λ (b : CodeBlock). tries_in b.instrs) [] ≡ 0 = refl in
          omega arith;
    }))

-- ---- the file

when_if : (b : Bool) (u : Unit {0}) → (if b then Some tt else None) ≡ Some u → b ≡ true
when_if true u e = refl
when_if false u e = absurd (cc)

record LocationRead (wide : Bool) (sum : ℕ) (used : List ℕ) : Type 0 where
  same : used ≡ location_bytes wide sum
  many : wide ≡ true → 64 < sum
  fits : wide ≡ true → sum < 4294967296

location_test : (n sum : ℕ) → (nat_eq n sum && nat_lt 64 n) ≡ true → (n ≡ sum) × (64 < sum)
location_test n sum e = (same, let z = same in grind (arith, common_steps))
  where
    same : n ≡ sum
    same = grind (arith, common_steps)

location_takes : (wide : Bool) (sum : ℕ) → Takes (location_count wide sum) (λ u used. LocationRead wide sum used)
unfolding location_count
location_takes true sum =
    weaken (tested (when (λ n. nat_eq n sum && nat_lt 64 n)) number_32)
    (tested_takes (when (λ n. nat_eq n sum && nat_lt 64 n)) number_32 number_32_takes)
    (λ u used t.
    let p = location_test t.value sum (when_if (nat_eq t.value sum && nat_lt 64 t.value) u t.passes) in
    record {
      same = t.of_value.same ∙ ap (λ n. to_be_bytes w32 n) p.0;
      many = λ w. p.1;
      fits = λ w. subst (λ n. n < 4294967296) p.0 t.of_value.good;
    })
location_takes false sum = weaken (give tt) (give_takes tt)
    (λ u used t. record { same = t.none; many = λ w. absurd (cc); fits = λ w. absurd (cc) })

record TriesRead (tries' wide : Bool) (sum : ℕ) (used : List ℕ) : Type 0 where
  same : used ≡ try_bytes tries' sum
  some : tries' ≡ true → wide ≡ false → 0 < sum
  fits : tries' ≡ true → sum < 4294967296

tries_test : (wide : Bool) (n sum : ℕ) → (nat_eq n sum && (wide || nat_lt 0 n)) ≡ true
    → (n ≡ sum) × (wide ≡ false → 0 < sum)
tries_test true n sum e = (let same : n ≡ sum = grind (arith, common_steps) in same, λ w. absurd (cc))
tries_test false n sum e = (same, λ w. let z = same in grind (arith, common_steps))
  where
    same : n ≡ sum
    same = grind (arith, common_steps)

try_takes : (tries' wide : Bool) (sum : ℕ)
    → Takes (try_total tries' wide sum) (λ u used. TriesRead tries' wide sum used)
unfolding try_total
try_takes true wide sum =
    weaken (tested (when (λ n. nat_eq n sum && (wide || nat_lt 0 n))) number_32)
    (tested_takes (when (λ n. nat_eq n sum && (wide || nat_lt 0 n))) number_32 number_32_takes)
    (λ u used t.
    let p = tries_test wide t.value sum (when_if (nat_eq t.value sum && (wide || nat_lt 0 t.value)) u t.passes) in
    record {
      same = t.of_value.same ∙ ap (λ n. to_be_bytes w32 n) p.0;
      some = λ yes. p.1;
      fits = λ yes. subst (λ n. n < 4294967296) p.0 t.of_value.good;
    })
try_takes false wide sum = weaken (give tt) (give_takes tt)
    (λ u used t. record { same = t.none; some = λ w. absurd (cc); fits = λ w. absurd (cc) })

record CodeRead (wide tries' : Bool) (code : Code) (used : List ℕ) : Type 0 where
  same : used ≡ body_bytes wide tries' code
  has : HasFile code
  small : wide ≡ false → locations code.vars ≤ 64
  many : wide ≡ true → 64 < locations code.vars
  without : tries' ≡ false → tries code.blocks ≡ 0
  some : tries' ≡ true → wide ≡ false → 0 < tries code.blocks

all_both : {A : Type 0} (P Q R : A → Type 0) (xs : List A) → ((x : A) → P x → Q x) → All P xs → All Q xs
all_both P Q R xs f h = λ k d lt. f (get_or xs k d) (h k d lt)

by_cases : (b : Bool) (n : ℕ) → (b ≡ false → n ≤ 64) → (b ≡ true → n < 4294967296) → n < 4294967296
by_cases true n f g = g refl
by_cases false n f g = let h = f refl in omega arith

by_tries : (b : Bool) (n : ℕ) → (b ≡ false → n ≡ 0) → (b ≡ true → n < 4294967296) → n < 4294967296
by_tries true n f g = g refl
by_tries false n f g = let h = f refl in omega arith

code_takes : WordsAndNumbersAreInverse → (wide tries' : Bool) → Takes (code_of wide tries') (CodeRead wide tries')
unfolding code_of body_bytes VarParts BlockParts room_kept
code_takes words wide tries' =
    weaken (code_of wide tries')
    (then_takes (vars wide) _ (vars_takes wide) (λ vars'.
    then_takes (location_count wide (locations vars')) _ (location_takes wide (locations vars')) (λ _.
    then_takes texts _ texts_takes (λ texts'.
    then_takes layouts _ layouts_takes (λ layouts'.
    then_takes (blocks tries') _ (blocks_takes words tries') (λ blocks'.
    then_takes (try_total tries' wide (tries blocks')) _ (try_takes tries' wide (tries blocks')) (λ _.
    give_takes (record { vars = vars'; texts = texts'; layouts = layouts'; blocks = blocks' }))))))))
    (λ v used a.
    let b = a.of_rest in
    let c = b.of_rest in
    let d = c.of_rest in
    let e = d.of_rest in
    let f = e.of_rest in
    subst (λ x. CodeRead wide tries' x used) (sym f.of_rest.same)
    (record {
      same =
          join used a.front a.behind _ _ a.cut a.of_first.same
          (join a.behind b.front b.behind _ _ b.cut b.of_first.same
          (join b.behind c.front c.behind _ _ c.cut c.of_first.same
          (join c.behind d.front d.behind _ _ d.cut d.of_first.same
          (join d.behind e.front e.behind _ _ e.cut e.of_first.same
          (f.cut ∙ ap (λ l. f.front ++ l) f.of_rest.none ∙ append-nil f.front ∙ f.of_first.same)))));
      has = record {
        counted = record {
          vars = a.of_first.few;
          names = all_both (λ v. IsVar v × HasShortName v) HasShortName HasShortName a.first (λ x p. p.1)
              a.of_first.good;
          locations = by_cases wide (locations a.first) a.of_first.kept b.of_first.fits;
          texts = c.of_first.few;
          each_text = all_both (LongText is_text) IsShort IsShort c.first (λ x p. p.short) c.of_first.good;
          layouts = d.of_first.few;
          each_layout = all_both LayoutGood IsShortLayout IsShortLayout d.first (λ x p. p.short) d.of_first.good;
          blocks = e.of_first.few;
          each_block = all_both (λ b. IsBlock b × IsShortBlock b) IsShortBlock IsShortBlock e.first (λ x p. p.1)
              e.of_first.good;
          tries = by_tries tries' (tries e.first) e.of_first.kept f.of_first.fits;
        };
        vars = all_both (λ v. IsVar v × HasShortName v) IsVar IsVar a.first (λ x p. p.0) a.of_first.good;
        texts = all_both (LongText is_text) IsText IsText c.first (λ x p. p.passes) c.of_first.good;
        items = all_both LayoutGood (All IsItem) (All IsItem) d.first (λ x p. p.is) d.of_first.good;
        blocks = all_both (λ b. IsBlock b × IsShortBlock b) IsBlock IsBlock e.first (λ x p. p.0) e.of_first.good;
      };
      small = a.of_first.kept;
      many = b.of_first.many;
      without = e.of_first.kept;
      some = f.of_first.some;
    }))

-- ---- the head and the end

same_cons : (x y : ℕ) (xs ys : List ℕ) (a b : Bool) → nat_eq x y ≡ a → (a && b) ≡ true → (b ≡ true → xs ≡ ys)
    → x ∷ xs ≡ y ∷ ys
same_cons x y xs ys true b f h tail =
    let z : x ≡ y = grind (arith, common_steps) in
    let w : xs ≡ ys = tail h in
    ap (λ n. n ∷ xs) z ∙ ap (λ l. y ∷ l) w
same_cons x y xs ys false b f h tail = absurd (cc)

pub same_list : (xs ys : List ℕ) → pointwise nat_eq xs ys ≡ true → xs ≡ ys
same_list [] [] e = refl
same_list [] (y ∷ ys) e = absurd (cc)
same_list (x ∷ xs) [] e = absurd (cc)
same_list (x ∷ xs) (y ∷ ys) e = same_cons x y xs ys (nat_eq x y) (pointwise nat_eq xs ys) refl e (same_list xs ys)

pub magic_if : (b c : Bool) (whole : ℕ) (bytes : List ℕ) (u : Unit {0}) (rest : List ℕ) →
    (if b then Got tt bytes else if c then Failed (fault.Truncated whole) else Failed fault.BadMagic) ≡ Got u rest
    → (b ≡ true) × (bytes ≡ rest)
magic_if true c whole bytes u rest e = (refl, (cc))
magic_if false true whole bytes u rest e = absurd (cc)
magic_if false false whole bytes u rest e = absurd (cc)

magic_takes : Takes magic (λ u used. used ≡ codes "REVC")
magic_takes = record {
  taken = λ whole bytes u rest h e.
      let p = magic_if (starts_with nat_eq bytes (codes "REVC")) (starts_with nat_eq (codes "REVC") bytes) whole
      (drop 4 bytes) u rest e in
      record {
        used = take 4 bytes;
        cut = sym (take-append-drop 4 bytes) ∙ ap (λ l. take 4 bytes ++ l) p.1;
        means = sym (same_list (codes "REVC") (take 4 bytes) p.0);
      };
}

record VersionRead (x : Reading ℕ) (v : Version) (rest : List ℕ) : Type 0 where
  n : ℕ
  got : x ≡ Got n rest
  is : n ≡ version_number v

version_or : (n : ℕ) (o : Option Version) (v : Version) (mid rest : List ℕ) → version_of n ≡ o
    → or_bad_version o mid ≡ Got v rest → VersionRead (Got n mid) v rest
version_or n (Some w) v mid rest e f =
    let x : w ≡ v = cc in
    let y : mid ≡ rest = cc in
    record { n = n; got = ap (Got n) y; is = version_forth n v (e ∙ ap (λ u. Some u) x) }
version_or n None v mid rest e f = absurd (cc)

version_if : (x : Reading ℕ) (v : Version) (rest : List ℕ) → as_version x ≡ Got v rest → VersionRead x v rest
version_if (Got n mid) v rest e = version_or n (version_of n) v mid rest refl e
version_if (Failed f) v rest e = absurd (cc)

version_takes : Takes version_field (λ v used. used ≡ to_be_bytes w16 (version_number v))
version_takes = record {
  taken = λ whole bytes v rest h e.
      let p = version_if (number_16 whole bytes) v rest e in
      let t = number_16_takes.taken whole bytes p.n rest h p.got in
      record { used = t.used; cut = t.cut; means = t.means.same ∙ ap (λ n. to_be_bytes w16 n) p.is };
}

end_takes : Takes at_end (λ u used. used ≡ [])
end_takes = record { taken = taken }
  where
    taken : (whole : ℕ) (bytes : List ℕ) (u : Unit {0}) (rest : List ℕ) → AreBytes bytes
        → at_end whole bytes ≡ Got u rest → Taken (λ u used. used ≡ []) u bytes rest
    taken whole [] u rest h e = let y : [] ≡ rest = cc in record { used = []; cut = y; means = refl }
    taken whole (b ∷ bytes) u rest h e = absurd (cc)

the_version : (sum total : ℕ) (v : Version) → (is_wide v ≡ false → sum ≤ 64) → (is_wide v ≡ true → 64 < sum)
    → (has_tries v ≡ false → total ≡ 0) → (has_tries v ≡ true → is_wide v ≡ false → 0 < total) →
    (if nat_lt 64 sum then version.Three else if nat_lt 0 total then version.Two else version.One) ≡ v
the_version sum total version.One a b c d = let x = a refl in let y = c refl in grind (arith, common_steps)
the_version sum total version.Two a b c d = let x = a refl in let y = d refl refl in grind (arith, common_steps)
the_version sum total version.Three a b c d = let x = b refl in grind (arith, common_steps)

file_takes : WordsAndNumbersAreInverse → Takes file (λ code used. IsFile code used)
unfolding file file_of
file_takes words =
    weaken file
    (then_takes magic _ magic_takes (λ _.
    then_takes version_field _ version_takes (λ v.
    then_takes (code_of (is_wide v) (has_tries v)) _ (code_takes words (is_wide v) (has_tries v)) (λ code'.
    then_takes at_end _ end_takes (λ _.
    give_takes code')))))
    (λ code used a.
    let b = a.of_rest in
    let c = b.of_rest in
    let d = c.of_rest in
    let v = b.first in
    let is = the_version (locations c.first.vars) (tries c.first.blocks) v c.of_first.small c.of_first.many
    c.of_first.without c.of_first.some in
    subst (λ x. IsFile x used) (sym d.of_rest.same)
    (record {
      has = c.of_first.has;
      spelled =
          join used a.front a.behind _ _ a.cut a.of_first
          (join a.behind b.front b.behind _ _ b.cut b.of_first
          (c.cut ∙ ap (λ l. c.front ++ l) (d.cut ∙ ap (λ l. l ++ d.behind) d.of_first ∙ d.of_rest.none)
          ∙ append-nil c.front ∙ c.of_first.same))
          ∙ ap
          (λ w. codes "REVC" ++ (to_be_bytes w16 (version_number w) ++ body_bytes (is_wide w) (has_tries w) c.first))
          (sym is);
    }))

pub file_read : WordsAndNumbersAreInverse → (bytes : List ℕ) (code : Code) → AreBytes bytes
    → reading bytes ≡ Got code [] → IsFile code bytes
file_read words bytes code h e =
    let t = (file_takes words).taken (length bytes) bytes code [] h e in
    subst (λ l. IsFile code l) (sym (t.cut ∙ append-nil t.used)) t.means

-- the answer of a reader of a whole file
pub file_or_fault : WordsAndNumbersAreInverse
    → (bytes : List ℕ) (result : Result Code ReadFault) (whole : ℕ) (rest left : List ℕ) → AreBytes bytes →
    whole ≡ length bytes → rest ≡ bytes → Follows (file whole rest) result left → OnOk result (left ≡ [])
    → IfOk result (λ code. IsFile code bytes)
file_or_fault words bytes (Ok code) whole rest left fit a b follows end =
    file_read words bytes code fit
    (ap (λ w. file w bytes) (sym a) ∙ ap (λ r. file whole r) (sym b) ∙ follows ∙ ap (λ l. Got code l) end)
file_or_fault words bytes (Err f) whole rest left fit a b follows end = tt
