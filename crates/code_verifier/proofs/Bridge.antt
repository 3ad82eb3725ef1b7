-- What numbers of shapes say is what the rules say of shapes.
use Rattle.std.proofs.Common.{◌≡◌, ◌≢◌, ◌∙◌, ◌⊎◌, inl, inr, ℕ, suc, ◌<◌, ◌≤◌, Bool, true, false, not, ◌&&◌, List, [], ◌∷◌, length, Option, Some, None, refl, sym, ap, subst, arith, true≢false}
use Rattle.std.specs.Prelude.{slice_get, slice_set, nat_lt, nat_eq, if◌then◌else◌}
use Rattle.std.proofs.lemmas.Bool.Decides.{nat_tests}
use Rattle.std.proofs.lemmas.List.{length-set}
use Rattle.rev_code.specs.declared.code.Code.{Code}
use Rattle.rev_code.specs.declared.code.CodeBlock.{CodeBlock}
use Rattle.code_rules.specs.Shapes.{Shape, same_shape}
use Rattle.code_rules.specs.Pass as pass
use Rattle.code_rules.specs.Pass.{Note, Passed, after, leads_to, joined, jumped, meet, is_other, clashes, target, falls}
use Rattle.code_verifier.specs.declared.mark.Mark.{Mark}
use Rattle.code_verifier.specs.ShapesByNumber.{Extends, shape_at}
use Rattle.code_verifier.specs.Marking.{AllInRange, met, other_at, clashes_at, joined_mark, kept, leap, IsMark, Marks, Stands}
use Rattle.code_verifier.proofs.Tries.{shape_extends}
use Rattle.code_soundness.proofs.Basics.{within_some}
use Rattle.rev_num.proofs.Lists.{get_set, get_set_other}
use Rattle.rev_num.proofs.Options.{some_same as some_eq}

-- ---- more shapes

pub mark_extends : (old new' : List Shape) → Extends old new' → (o : Option Mark) (n : Option Note) → Marks old o n
    → Marks new' o n
mark_extends old new' e None None h = tt
mark_extends old new' e None (Some n) h = h
mark_extends old new' e (Some m) None h = h
mark_extends old new' e (Some m) (Some n) h = record {
  within = (let l = e.longer in let w = h.within in omega (arith, l, w));
  shape = shape_extends old new' m.shape e h.within ∙ h.shape;
  paid = h.paid;
}

-- ---- where ways meet

meets_by : (shapes : List Shape) (x y : Mark) (m n : Note) → IsMark shapes x m → IsMark shapes y n → (d e : Bool)
    → d ≡ e
    → Marks shapes (if d then Some (record { shape = x.shape; paid = x.paid && y.paid }) else None)
    (if e then Some (record { shape = m.shape; paid = m.paid && n.paid }) else None)
meets_by shapes x y m n p q true true h =
    record { within = p.within; shape = p.shape; paid = (λ i. p.paid i && q.paid i) }
meets_by shapes x y m n p q false false h = tt
meets_by shapes x y m n p q true false h = absurd (true≢false h)
meets_by shapes x y m n p q false true h = absurd (true≢false (sym h))

pub meets : (shapes : List Shape) → 0 < length shapes → shape_at shapes 0 ≡ [] → (a b : Option Mark) (m n : Option Note)
    → Marks shapes a m → Marks shapes b n → Marks shapes (met shapes a b) (meet m n)
meets shapes l z None None None None p q = record { within = l; shape = z; paid = refl }
meets shapes l z None None None (Some n) p q = absurd q
meets shapes l z None None (Some m) n p q = absurd p
meets shapes l z None (Some y) None None p q = absurd q
meets shapes l z None (Some y) None (Some n) p q = q
meets shapes l z None (Some y) (Some m) n p q = absurd p
meets shapes l z (Some x) b None n p q = absurd p
meets shapes l z (Some x) None (Some m) None p q = p
meets shapes l z (Some x) None (Some m) (Some n) p q = absurd q
meets shapes l z (Some x) (Some y) (Some m) None p q = absurd q
meets shapes l z (Some x) (Some y) (Some m) (Some n) p q =
    meets_by shapes x y m n p q (same_shape (shape_at shapes x.shape) (shape_at shapes y.shape))
    (same_shape m.shape n.shape) (λ i. same_shape (p.shape i) (q.shape i))

-- ---- jumps

others : (shapes : List Shape) (id : ℕ) (s : Shape) → shape_at shapes id ≡ s → (o : Option Mark) (n : Option Note)
    → Marks shapes o n → other_at shapes id (Some o) ≡ is_other s n
others shapes id s e None None h = refl
others shapes id s e None (Some n) h = absurd h
others shapes id s e (Some m) None h = absurd h
others shapes id s e (Some m) (Some n) h = λ i. not (same_shape (e i) (h.shape i))

pub clash_is : (code : Code) (b : CodeBlock) (done : List Passed) (shapes : List Shape) (ahead : List (Option Mark))
    (last : Option Mark)
    → Stands code b done shapes ahead last
    → (id : ℕ) (s : Shape) → shape_at shapes id ≡ s → (at : ℕ) → length done ≡ at → (to : Option ℕ)
    → ((t : ℕ) → to ≡ Some t → t < length b.instrs) → clashes_at shapes ahead at id to ≡ clashes code b done s to
clash_is code b done shapes ahead last st id s e at len None h = refl
clash_is code b done shapes ahead last st id s e at len (Some to) h =
    by (nat_lt at to) refl
    ∙ ap (λ y. if nat_lt y to then is_other s (jumped code b to done) else nat_lt 0 (length s)) (sym len)
  where
    by : (d : Bool) → nat_lt at to ≡ d
        → (if d then other_at shapes id (slice_get ahead to) else nat_lt 0 (length (shape_at shapes id)))
        ≡ (if d then is_other s (jumped code b to done) else nat_lt 0 (length s))
    by false q = ap (λ y. nat_lt 0 (length y)) e
    by true q =
        let l = st.long in
        let t = h to refl in
        let o = within_some ahead to (omega (arith, l, t)) in
        let le : length done ≤ to = grind (arith, nat_tests, q, len) in
        ap (other_at shapes id) o.1 ∙ others shapes id s e o.0 (jumped code b to done) (st.marks to o.0 le o.1)

joined_marks : (shapes : List Shape) (x : Mark) (n : Note) → IsMark shapes x n → (o : Option Mark) (m : Option Note)
    → Marks shapes o m → IsMark shapes (joined_mark o x) (joined m n)
joined_marks shapes x n h None None p = h
joined_marks shapes x n h None (Some m) p = absurd p
joined_marks shapes x n h (Some y) None p = absurd p
joined_marks shapes x n h (Some y) (Some m) p =
    record { within = h.within; shape = h.shape; paid = (λ i. p.paid i && h.paid i) }

nat_eq_self : (n : ℕ) → nat_eq n n ≡ true
nat_eq_self n = grind (arith, nat_tests)

module _ (code : Code) (b : CodeBlock) (done : List Passed) (shapes : List Shape) (ahead : List (Option Mark))
    (last : Option Mark) (st : Stands code b done shapes ahead last)
    (p : Passed) (x : Mark) (mark : IsMark shapes x (after code b p)) where
  record Leapt (to : Option ℕ) (ahead' : List (Option Mark)) : Type 0 where
    range : AllInRange shapes ahead'
    long : length ahead' ≡ length b.instrs
    marks : (u : ℕ) (o : Option Mark) → suc (length done) ≤ u → slice_get ahead' u ≡ Some o
        → Marks shapes o
        (if leads_to u to then Some (joined (jumped code b u done) (after code b p)) else jumped code b u done)

  leads_not : (u t : ℕ) → u ≢ t → leads_to u (Some t) ≡ false
  leads_not u t d = grind (arith, nat_tests, d)

  still : (to : Option ℕ) → ((u : ℕ) → suc (length done) ≤ u → leads_to u to ≡ false) → Leapt to ahead
  still to h = record {
    range = st.range;
    long = st.long;
    marks = λ u o le e.
        subst (λ d.
        Marks shapes o (if d then Some (joined (jumped code b u done) (after code b p)) else jumped code b u done))
        (sym (h u le)) (st.marks u o (omega (arith, le)) e);
  }

  kept_get : (t : ℕ) → t < length ahead
      → Marks shapes (kept (slice_get ahead t)) (jumped code b t done) ⊎ (t < length done)
  kept_get t l = by (nat_lt t (length done)) refl
    where
      by : (d : Bool) → nat_lt t (length done) ≡ d
          → Marks shapes (kept (slice_get ahead t)) (jumped code b t done) ⊎ (t < length done)
      by true q = inr (grind (arith, nat_tests, q))
      by false q =
          let o = within_some ahead t l in
          inl (subst (λ y. Marks shapes (kept y) (jumped code b t done)) (sym o.1)
          (st.marks t o.0 (grind (arith, nat_tests, q)) o.1))

  leapt : (at : ℕ) → length done ≡ at → (to : Option ℕ) → ((t : ℕ) → to ≡ Some t → t < length b.instrs)
      → Leapt to (leap ahead at x to)
  leapt at len None h = still None (λ u le. refl)
  leapt at len (Some t) h = by (nat_lt at t) refl
    where
      long' : t < length ahead
      long' = let l = st.long in let i = h t refl in omega (arith, l, i)

      new' : Mark
      new' = joined_mark (kept (slice_get ahead t)) x

      by : (d : Bool) → nat_lt at t ≡ d
          → Leapt (Some t) (if d then slice_set ahead t (Some (joined_mark (kept (slice_get ahead t)) x)) else ahead)
      by false q = still (Some t) (λ u le. leads_not u t (λ e. grind (arith, nat_tests, q, le, len, e)))
      by true q = record {
        range = λ u m e. by_range u m e (nat_eq u t) refl;
        long = length-set ahead t (Some (joined_mark (kept (slice_get ahead t)) x)) ∙ st.long;
        marks = λ u o le e. by_marks u o le e (nat_eq u t) refl;
      }
        where
          is_new :
              IsMark shapes (joined_mark (kept (slice_get ahead t)) x) (joined (jumped code b t done) (after code b p))
          is_new = elim (kept_get t long') [
            | inl k ↦ joined_marks shapes x (after code b p) mark (kept (slice_get ahead t)) (jumped code b t done) k
            | inr l ↦ absurd (grind (arith, nat_tests, q, len, l))
          ]

          by_range : (u : ℕ) (m : Mark)
              → slice_get (slice_set ahead t (Some (joined_mark (kept (slice_get ahead t)) x))) u ≡ Some (Some m)
              → (d : Bool) → nat_eq u t ≡ d → m.shape < length shapes
          by_range u m e true r =
              let z : u ≡ t = grind (arith, nat_tests, r) in
              let w : joined_mark (kept (slice_get ahead t)) x ≡ m =
              some_eq _ _ (some_eq _ _ (sym (get_set ahead t (Some (joined_mark (kept (slice_get ahead t)) x)) long')
              ∙ ap (slice_get (slice_set ahead t (Some (joined_mark (kept (slice_get ahead t)) x)))) (sym z) ∙ e)) in
              subst (λ y. y.shape < length shapes) w is_new.within
          by_range u m e false r =
              st.range u m (sym (get_set_other ahead u t (Some (joined_mark (kept (slice_get ahead t)) x))
              (λ z. grind (arith, nat_tests, r, z)))
              ∙ e)

          by_marks : (u : ℕ) (o : Option Mark) → suc (length done) ≤ u
              → slice_get (slice_set ahead t (Some (joined_mark (kept (slice_get ahead t)) x))) u ≡ Some o → (d : Bool)
              → nat_eq u t ≡ d
              → Marks shapes o (if leads_to u (Some t) then Some (joined (jumped code b u done) (after code b p))
              else jumped code b u done)
          by_marks u o le e true r =
              let z : u ≡ t = grind (arith, nat_tests, r) in
              let w : Some (joined_mark (kept (slice_get ahead t)) x) ≡ o =
              some_eq _ _ (sym (get_set ahead t (Some (joined_mark (kept (slice_get ahead t)) x)) long')
              ∙ ap (slice_get (slice_set ahead t (Some (joined_mark (kept (slice_get ahead t)) x)))) (sym z) ∙ e) in
              let l : leads_to u (Some t) ≡ true = ap (λ y. nat_eq t y) z ∙ nat_eq_self t in
              subst (λ d.
              Marks shapes o
              (if d then Some (joined (jumped code b u done) (after code b p)) else jumped code b u done))
              (sym l)
              (subst (λ y. Marks shapes o (Some (joined (jumped code b y done) (after code b p)))) (sym z)
              (subst (λ y. Marks shapes y (Some (joined (jumped code b t done) (after code b p)))) w is_new))
          by_marks u o le e false r =
              subst (λ d.
              Marks shapes o
              (if d then Some (joined (jumped code b u done) (after code b p)) else jumped code b u done))
              (sym (leads_not u t (λ z. grind (arith, nat_tests, r, z))))
              (st.marks u o (omega (arith, le))
              (sym (get_set_other ahead u t (Some (joined_mark (kept (slice_get ahead t)) x))
              (λ z. grind (arith, nat_tests, r, z)))
              ∙ e))

  fallen_marks : (d : Bool) → Marks shapes (if d then Some x else None) (if d then Some (after code b p) else None)
  fallen_marks true = mark
  fallen_marks false = tt

  -- behind the next instruction
  pub stands_next : (at : ℕ) → length done ≡ at → ((t : ℕ) → target p.instr ≡ Some t → t < length b.instrs)
      → Stands code b (p ∷ done) shapes (leap ahead at x (target p.instr)) (if falls p.instr then Some x else None)
  stands_next at len h =
      let l = leapt at len (target p.instr) h in
      record {
        some = st.some;
        empty = st.empty;
        range = l.range;
        long = l.long;
        fallen = fallen_marks (falls p.instr);
        marks = λ u o le e. l.marks u o le e;
      }

-- with more shapes
pub stands_more : (code : Code) (b : CodeBlock) (done : List Passed) (old new' : List Shape)
    (ahead : List (Option Mark)) (last : Option Mark)
    → Extends old new' → Stands code b done old ahead last → Stands code b done new' ahead last
stands_more code b done old new' ahead last e st = record {
  some = (let l = e.longer in let s = st.some in omega (arith, l, s));
  empty = shape_extends old new' 0 e st.some ∙ st.empty;
  range = λ to m g. (let l = e.longer in let r = st.range to m g in omega (arith, l, r));
  long = st.long;
  fallen = mark_extends old new' e last (pass.fallen code b done) st.fallen;
  marks = λ to o le g. mark_extends old new' e o (jumped code b to done) (st.marks to o le g);
}
