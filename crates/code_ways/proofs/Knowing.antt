-- What the pass notes on arrival is what ways bring, at each place before which no rule is broken.
--   Known   one shape arrives, which is noted; where the note says paid and no Charge stands there, every way has
--           paid; where it does not say so, one way has not
use Rattle.std.proofs.Common.{◌≡◌, ◌≢◌, ◌∙◌, ◌⊎◌, inl, inr, ℕ, zero, suc, ◌<◌, ◌≤◌, Bool, true, false, cond, not, ◌&&◌, ◌||◌, List, length, Option, Some, None, refl, sym, ap, subst, arith, true≢false}
use Rattle.std.specs.Prelude.{slice_get, nat_lt, if◌then◌else◌}
use Rattle.std.proofs.lemmas.Bool.Decides.{nat_tests}
use Rattle.rev_code.specs.declared.code.Code.{Code}
use Rattle.rev_code.specs.declared.code.CodeBlock.{CodeBlock}
use Rattle.rev_code.specs.declared.code.Instr.{Instr}
use Rattle.rev_code.specs.declared.code.Instr.TheVariants as i
use Rattle.code_rules.specs.declared.Cost.{Cost}
use Rattle.code_rules.specs.Shapes.{Shape, same_shape, shape_after}
use Rattle.code_rules.specs.Pass.{Note, entry, arrival, before, fallen, jumped, joined, leads_to, meet, is_other, clashes, falls, target, paid_after, is_charge, is_value_class, bad_jump, no_cost}
use Rattle.code_soundness.specs.Certificate.{Fits, leaves, note_at}
use Rattle.code_soundness.proofs.Basics.{and_parts, same_is, not_false, some_eq, none_some, within_some, before_next, before_length, same_self}
use Rattle.code_soundness.proofs.ShapesOnArrival.{meet_now, meet_mark, leads_self, leads_is}
use Rattle.code_soundness.proofs.Accepted.{Whole}
use Rattle.code_ways.specs.Ways.{IsStart, first, behind, Arrives, starts, falls_on, jumps_on, Way, begins, goes_on, jumps}
pub use Rattle.rev_num.proofs.Lists.{or_true}

-- an instruction pays, uses up a payment, or keeps it
pub after_paid : (x : Instr) (p d : Bool) → (is_charge (Some x) ≡ false → p ≡ true → d ≡ true) → paid_after p x ≡ true
    → paid_after d x ≡ true
after_paid (i.Charge line) p d h e = refl
after_paid (i.Call n) p d h e = e
after_paid (i.Fork n) p d h e = e
after_paid _ p d h e = h refl e

suc_eq : (m n : ℕ) → suc m ≡ suc n → m ≡ n
suc_eq m n h = omega (arith, h)

module _ (code : Code) (costs : List Cost) (n : ℕ) (b : CodeBlock) where
  -- no rule is broken before this place
  abbrev pub Good : ℕ → Type 0
  Good at = (j : ℕ) (x : Instr) → j < at → slice_get b.instrs j ≡ Some x → Whole code costs n b no_cost j x

  pub record Known (at : ℕ) : Type 0 where
    pub shapes : (s : Shape) → Arrives code b at s → s ≡ (note_at code b at).shape
    pub arrives : Arrives code b at (note_at code b at).shape
    pub way : Way b at (note_at code b at).paid
    pub paid : is_charge (slice_get b.instrs at) ≡ false → (d : Bool) → Way b at d → (note_at code b at).paid ≡ true
        → d ≡ true

  abbrev pub AllKnown : ℕ → Type 0
  AllKnown at = (j : ℕ) → j < at → Known j

  -- ---- earlier jumps

  -- some of the instructions before `at` jump to this place, and this is what they bring
  pub record LedTo (to at : ℕ) (m : Note) : Type 0 where
    pub from : ℕ
    pub earlier : from < at
    pub instr : Instr
    pub is : slice_get b.instrs from ≡ Some instr
    pub jumps : target instr ≡ Some to
    pub each : (j : ℕ) (x : Instr) → j < at → slice_get b.instrs j ≡ Some x → target x ≡ Some to
        → Fits (leaves code b (note_at code b j) x) m
    pub arrives : Arrives code b to m.shape
    pub way : Way b to m.paid

  abbrev pub Led : ℕ → ℕ → Option Note → Type 0
  Led to at None = (j : ℕ) (x : Instr) → j < at → slice_get b.instrs j ≡ Some x → target x ≡ Some to → ⊥
  Led to at (Some m) = LedTo to at m

  -- one more instruction, which jumps elsewhere
  led_past : (to at : ℕ) (y : Instr) → slice_get b.instrs at ≡ Some y → leads_to to (target y) ≡ false
      → (o : Option Note) → Led to at o → Led to (suc at) o
  led_past to at y here other o l = by o l
    where
      earlier : (j : ℕ) (x : Instr) → j < suc at → slice_get b.instrs j ≡ Some x → target x ≡ Some to → j < at
      earlier j x less is tg = go (nat_lt j at) refl
        where
          go : (d : Bool) → nat_lt j at ≡ d → j < at
          go true e = grind (arith, nat_tests, e)
          go false e =
              let z : j ≡ at = grind (arith, nat_tests, e, less) in
              let w : x ≡ y = some_eq (sym is ∙ ap (slice_get b.instrs) z ∙ here) in
              absurd (true≢false (sym (ap (leads_to to) (ap target (sym w) ∙ tg) ∙ leads_self to) ∙ other))

      by : (o : Option Note) → Led to at o → Led to (suc at) o
      by None l = λ j x less is tg. l j x (earlier j x less is tg) is tg
      by (Some m) l = record {
        from = l.from;
        earlier = (let e = l.earlier in omega (arith, e));
        instr = l.instr;
        is = l.is;
        jumps = l.jumps;
        each = λ j x less is tg. l.each j x (earlier j x less is tg) is tg;
        arrives = l.arrives;
        way = l.way;
      }

  -- one more instruction, which jumps there with the shape that others bring
  led_more : (to at : ℕ) (y : Instr) → slice_get b.instrs at ≡ Some y → target y ≡ Some to → at < to
      → Whole code costs n b no_cost at y → Known at
      → (o : Option Note) → is_other (shape_after code b (note_at code b at).shape y) o ≡ false → Led to at o
      → LedTo to (suc at) (joined o (leaves code b (note_at code b at) y))
  led_more to at y here tg less w known o same l = record {
    from = at;
    earlier = omega arith;
    instr = y;
    is = here;
    jumps = tg;
    each = λ j x le is t. each j x is t (nat_lt j at) refl le;
    arrives = subst (Arrives code b to) (shape_of o)
        (jumps_on at to (note_at code b at).shape y known.arrives here tg less);
    way = way o l;
  }
    where
      mine : Way b to (paid_after (note_at code b at).paid y)
      mine = jumps at to (note_at code b at).paid y known.way here tg w.jump

      shape_of : (o : Option Note)
          → shape_after code b (note_at code b at).shape y ≡ (joined o (leaves code b (note_at code b at) y)).shape
      shape_of None = refl
      shape_of (Some q) = refl

      way : (o : Option Note) → Led to at o → Way b to (joined o (leaves code b (note_at code b at) y)).paid
      way None l = mine
      way (Some q) l = both q.paid l.way
        where
          both : (d : Bool) → Way b to d → Way b to (d && paid_after (note_at code b at).paid y)
          both true v = mine
          both false v = v

      self : (o : Option Note)
          → Fits (leaves code b (note_at code b at) y) (joined o (leaves code b (note_at code b at) y))
      self None = record { shape = refl; paid = λ e. e }
      self (Some q) =
          record { shape = refl; paid = λ e. (and_parts q.paid (paid_after (note_at code b at).paid y) e).1 }

      other : (o : Option Note) → is_other (shape_after code b (note_at code b at).shape y) o ≡ false → Led to at o
          → (j : ℕ) (x : Instr) → j < at → slice_get b.instrs j ≡ Some x → target x ≡ Some to
          → Fits (leaves code b (note_at code b j) x) (joined o (leaves code b (note_at code b at) y))
      other None e l j x le is t = absurd (l j x le is t)
      other (Some q) e l j x le is t =
          let f = l.each j x le is t in
          record {
            shape = f.shape
                ∙ sym (same_is (shape_after code b (note_at code b at).shape y) q.shape
                (not_false (same_shape (shape_after code b (note_at code b at).shape y) q.shape) e));
            paid = λ h. f.paid (and_parts q.paid (paid_after (note_at code b at).paid y) h).0;
          }

      each : (j : ℕ) (x : Instr) → slice_get b.instrs j ≡ Some x → target x ≡ Some to → (d : Bool) → nat_lt j at ≡ d
          → j < suc at → Fits (leaves code b (note_at code b j) x) (joined o (leaves code b (note_at code b at) y))
      each j x is t true e le = other o same l j x (grind (arith, nat_tests, e)) is t
      each j x is t false e le =
          let z : at ≡ j = grind (arith, nat_tests, e, le) in
          let v : y ≡ x = some_eq (sym here ∙ ap (slice_get b.instrs) z ∙ is) in
          subst (λ u. Fits (leaves code b (note_at code b u) x) (joined o (leaves code b (note_at code b at) y))) z
          (subst (λ u. Fits (leaves code b (note_at code b at) u) (joined o (leaves code b (note_at code b at) y))) v
          (self o))

  pub led : (to at : ℕ) → at ≤ to → at ≤ length b.instrs → Good at → AllKnown at
      → Led to at (jumped code b to (before code b at))
  led to zero le within good known = λ j x less is tg. omega (arith, less)
  led to (suc at) le within good known =
      by (leads_to to (target y.0)) refl
      (led to at (omega (arith, le)) (omega (arith, within)) (λ j x less is. good j x (omega (arith, less)) is)
      (λ j less. known j (omega (arith, less))))
    where
      y : (x : Instr) × (slice_get b.instrs at ≡ Some x)
      y = within_some b.instrs at (omega (arith, within))

      next : jumped code b to (before code b (suc at))
          ≡ (if leads_to to (target y.0)
          then Some (joined (jumped code b to (before code b at)) (leaves code b (note_at code b at) y.0))
          else jumped code b to (before code b at))
      next = ap (jumped code b to) (before_next code b at y.0 y.1)

      by : (d : Bool) → leads_to to (target y.0) ≡ d → Led to at (jumped code b to (before code b at))
          → Led to (suc at) (jumped code b to (before code b (suc at)))
      by false q l =
          subst (Led to (suc at)) (sym (next
          ∙ ap (λ d.
          if d then Some (joined (jumped code b to (before code b at)) (leaves code b (note_at code b at) y.0))
          else jumped code b to (before code b at))
          q))
          (led_past to at y.0 y.1 q (jumped code b to (before code b at)) l)
      by true q l =
          let tg = leads_is to (target y.0) q in
          let w = good at y.0 (omega arith) y.1 in
          let len = before_length code b at (omega (arith, within)) in
          let lt : nat_lt (length (before code b at)) to ≡ true = grind (arith, nat_tests, len, le) in
          let c :
          clashes code b (before code b at) (shape_after code b (note_at code b at).shape y.0) (Some to) ≡ false =
          ap (clashes code b (before code b at) (shape_after code b (note_at code b at).shape y.0)) (sym tg)
          ∙ w.clash in
          let o :
          is_other (shape_after code b (note_at code b at).shape y.0) (jumped code b to (before code b at)) ≡ false =
          sym (ap (λ d.
          if d then is_other (shape_after code b (note_at code b at).shape y.0) (jumped code b to (before code b at))
          else nat_lt 0 (length (shape_after code b (note_at code b at).shape y.0)))
          lt)
          ∙ c in
          subst (Led to (suc at)) (sym (next
          ∙ ap (λ d.
          if d then Some (joined (jumped code b to (before code b at)) (leaves code b (note_at code b at) y.0))
          else jumped code b to (before code b at))
          q))
          (led_more to at y.0 y.1 tg (omega (arith, le)) w (known at (omega arith))
          (jumped code b to (before code b at)) o l)

  -- ---- the instruction before

  pub record FellTo (at : ℕ) (m : Note) : Type 0 where
    pub from : ℕ
    pub before_it : at ≡ suc from
    pub instr : Instr
    pub is : slice_get b.instrs from ≡ Some instr
    pub falls_there : falls instr ≡ true
    pub same : m ≡ leaves code b (note_at code b from) instr

  pub record BeginsAt (at from : ℕ) : Type 0 where
    pub before_it : at ≡ suc from
    pub instr : Instr
    pub is : slice_get b.instrs from ≡ Some instr
    pub falls_not : falls instr ≡ false

  abbrev pub Fell : ℕ → Option Note → Type 0
  Fell at None = (at ≡ 0) ⊎ ((from : ℕ) × BeginsAt at from)
  Fell at (Some m) = FellTo at m

  pub fell : (at : ℕ) → at ≤ length b.instrs → Fell at (fallen code b (before code b at))
  fell zero le = inl refl
  fell (suc at) le =
      subst (Fell (suc at)) (sym (ap (fallen code b) (before_next code b at y.0 y.1))) (by (falls y.0) refl)
    where
      y : (x : Instr) × (slice_get b.instrs at ≡ Some x)
      y = within_some b.instrs at (omega (arith, le))

      by : (d : Bool) → falls y.0 ≡ d
          → Fell (suc at) (if falls y.0 then Some (leaves code b (note_at code b at) y.0) else None)
      by true e = subst (λ d. Fell (suc at) (if d then Some (leaves code b (note_at code b at) y.0) else None)) (sym e)
          (record { from = at; before_it = refl; instr = y.0; is = y.1; falls_there = e; same = refl })
      by false e = subst (λ d. Fell (suc at) (if d then Some (leaves code b (note_at code b at) y.0) else None)) (sym e)
          (inr (at, record { before_it = refl; instr = y.0; is = y.1; falls_not = e }))

  -- ---- both together

  -- what leads to a place fits its note
  record Enters (at : ℕ) (u : Note) : Type 0 where
    start : IsStart b at → u ≡ entry
    from_before : (p : ℕ) (x : Instr) → at ≡ suc p → slice_get b.instrs p ≡ Some x → falls x ≡ true
        → Fits (leaves code b (note_at code b p) x) u
    from_jump : (p : ℕ) (x : Instr) → p < at → slice_get b.instrs p ≡ Some x → target x ≡ Some at
        → Fits (leaves code b (note_at code b p) x) u

  start_fell : (at : ℕ) (o : Option Note) → IsStart b at → Fell at o → o ≡ None
  start_fell at None st f = refl
  start_fell _ (Some m) first f = absurd (let e = f.before_it in omega (arith, e))
  start_fell _ (Some m) (behind p x here nf none) f =
      let e = suc_eq p f.from f.before_it in
      let z : x ≡ f.instr = some_eq (sym here ∙ ap (slice_get b.instrs) e ∙ f.is) in
      absurd (true≢false (sym f.falls_there ∙ ap falls (sym z) ∙ nf))

  start_led : (at : ℕ) (o : Option Note) → IsStart b at → Led at at o → o ≡ None
  start_led at None st l = refl
  start_led _ (Some m) first l = absurd (let e = l.earlier in omega (arith, e))
  start_led _ (Some m) (behind p x here nf none) l =
      absurd (none (record { from = l.from; earlier = l.earlier; instr = l.instr; is = l.is; jumps = l.jumps }))

  fell_fits : (at : ℕ) (o o' : Option Note) (u : Note) → Fell at o → meet o o' ≡ Some u → (p : ℕ) (x : Instr)
      → at ≡ suc p → slice_get b.instrs p ≡ Some x → falls x ≡ true → Fits (leaves code b (note_at code b p) x) u
  fell_fits at None o' u (inl z) e p x at_p here fa = absurd (omega (arith, z, at_p))
  fell_fits at None o' u (inr f) e p x at_p here fa =
      let q = suc_eq p f.0 (sym at_p ∙ f.1.before_it) in
      let z : x ≡ f.1.instr = some_eq (sym here ∙ ap (slice_get b.instrs) q ∙ f.1.is) in
      absurd (true≢false (sym fa ∙ ap falls z ∙ f.1.falls_not))
  fell_fits at (Some m) o' u f e p x at_p here fa =
      let q = suc_eq p f.from (sym at_p ∙ f.before_it) in
      let z : x ≡ f.instr = some_eq (sym here ∙ ap (slice_get b.instrs) q ∙ f.is) in
      let same : m ≡ leaves code b (note_at code b p) x =
      f.same ∙ (λ j. leaves code b (note_at code b (sym q j)) (sym z j)) in
      subst (λ y. Fits y u) same (meet_now m o' u e)

  led_fits : (at : ℕ) (o o' : Option Note) (u : Note) → Led at at o' → meet o o' ≡ Some u → (p : ℕ) (x : Instr) → p < at
      → slice_get b.instrs p ≡ Some x → target x ≡ Some at → Fits (leaves code b (note_at code b p) x) u
  led_fits at o None u l e p x less here tg = absurd (l p x less here tg)
  led_fits at o (Some q) u l e p x less here tg =
      let f = l.each p x less here tg in
      let g = meet_mark o q u e in
      record { shape = f.shape ∙ g.shape; paid = λ h. f.paid (g.paid h) }

  enters : (at : ℕ) (o o' : Option Note) (u : Note) → Fell at o → Led at at o' → meet o o' ≡ Some u → Enters at u
  enters at o o' u f l e = record {
    start = λ st.
        (let z = start_fell at o st f in let y = start_led at o' st l in some_eq (sym e ∙ (λ j. meet (z j) (y j))));
    from_before = fell_fits at o o' u f e;
    from_jump = led_fits at o o' u l e;
  }

  -- a way brings what is noted
  record Brought (at : ℕ) (u : Note) : Type 0 where
    arrives : Arrives code b at u.shape
    way : Way b at u.paid

  brought_start : (at : ℕ) → (at ≡ 0) ⊎ ((from : ℕ) × BeginsAt at from) → Led at at None → IsStart b at
  brought_start at (inl z) l = subst (IsStart b) (sym z) first
  brought_start at (inr f) l =
      subst (IsStart b) (sym f.1.before_it)
      (behind f.0 f.1.instr f.1.is f.1.falls_not
      (λ j. l j.from j.instr (let e = j.earlier in let z = f.1.before_it in omega (arith, e, z)) j.is
      (j.jumps ∙ ap Some (sym f.1.before_it))))

  brought_on : (at : ℕ) (m : Note) → FellTo at m → AllKnown at → Brought at m
  brought_on at m f known =
      let k = known f.from (let e = f.before_it in omega (arith, e)) in
      subst (Brought at) (sym f.same)
      (subst (λ z. Brought z (leaves code b (note_at code b f.from) f.instr)) (sym f.before_it)
      (record {
        arrives = falls_on f.from (note_at code b f.from).shape f.instr k.arrives f.is f.falls_there;
        way = goes_on f.from (note_at code b f.from).paid f.instr k.way f.is f.falls_there;
      }))

  brought : (at : ℕ) (o o' : Option Note) (u : Note) → Fell at o → Led at at o' → AllKnown at → meet o o' ≡ Some u
      → Brought at u
  brought at None None u f l known e =
      let st = brought_start at f l in
      subst (Brought at) (some_eq e) (record { arrives = starts at st; way = begins at st })
  brought at (Some m) None u f l known e = subst (Brought at) (some_eq e) (brought_on at m f known)
  brought at None (Some q) u f l known e = subst (Brought at) (some_eq e) (record { arrives = l.arrives; way = l.way })
  brought at (Some m) (Some q) u f l known e = by (same_shape m.shape q.shape) e
    where
      on : Brought at m
      on = brought_on at m f known

      both : (p : Bool) → Way b at p → Way b at (p && q.paid)
      both true v = l.way
      both false v = v

      by : (d : Bool) → cond d (Some (record { shape = m.shape; paid = m.paid && q.paid })) None ≡ Some u → Brought at u
      by true g = subst (Brought at) (some_eq g) (record { arrives = on.arrives; way = both m.paid on.way })
      by false g = absurd (none_some g)

  shapes_are : (at : ℕ) (u : Note) → Enters at u → AllKnown at → (s : Shape) → Arrives code b at s → s ≡ u.shape
  shapes_are at u t known _ (starts _ st) = ap (λ z. z.shape) (sym (t.start st))
  shapes_are _ u t known _ (falls_on p s x w here f) =
      ap (λ z. shape_after code b z x) ((known p (omega arith)).shapes s w) ∙ (t.from_before p x refl here f).shape
  shapes_are at u t known _ (jumps_on p to s x w here tg less) =
      ap (λ z. shape_after code b z x) ((known p less).shapes s w) ∙ (t.from_jump p x less here tg).shape

  paid_are : (at : ℕ) (u : Note) → Enters at u → AllKnown at → at < length b.instrs
      → is_charge (slice_get b.instrs at) ≡ false → (d : Bool) → Way b at d → u.paid ≡ true → d ≡ true
  paid_are at u t known inside ch _ (begins _ st) e = sym (ap (λ z. z.paid) (t.start st)) ∙ e
  paid_are _ u t known inside ch _ (goes_on p d x w here f) e =
      after_paid x (note_at code b p).paid d (λ z q. (known p (omega arith)).paid (ap is_charge here ∙ z) d w q)
      ((t.from_before p x refl here f).paid e)
  paid_are at u t known inside ch _ (jumps p to d x w here tg ok) e = by (nat_lt p to) refl
    where
      by : (z : Bool) → nat_lt p to ≡ z → paid_after d x ≡ true
      by true z =
          let less : p < to = grind (arith, nat_tests, z) in
          after_paid x (note_at code b p).paid d (λ y q. (known p less).paid (ap is_charge here ∙ y) d w q)
          ((t.from_jump p x less here tg).paid e)
      by false z = absurd (
          let bad : bad_jump b p (Some to) ≡ false = ap (bad_jump b p) (sym tg) ∙ ok in
          let y : nat_lt to (length b.instrs) ≡ true = grind (arith, nat_tests, inside) in
          let c : (not (nat_lt to (length b.instrs))
          || (not (nat_lt p to) && (is_value_class b.class || not (is_charge (slice_get b.instrs to)))))
          ≡ (is_value_class b.class || true) =
          (λ j. not (y j) || (not (z j) && (is_value_class b.class || not (ch j)))) in
          true≢false (sym (or_true (is_value_class b.class)) ∙ sym c ∙ bad))

  pub known_at : (at : ℕ) → at < length b.instrs → Good at → AllKnown at
      → arrival code b (before code b at) ≡ Some (note_at code b at) → Known at
  known_at at inside good known e = record {
    shapes = shapes_are at (note_at code b at) t known;
    arrives = u.arrives;
    way = u.way;
    paid = paid_are at (note_at code b at) t known inside;
  }
    where
      len : length (before code b at) ≡ at
      len = before_length code b at (omega (arith, inside))

      f : Fell at (fallen code b (before code b at))
      f = fell at (omega (arith, inside))

      l : Led at at (jumped code b at (before code b at))
      l = led at at (omega arith) (omega (arith, inside)) good known

      met : meet (fallen code b (before code b at)) (jumped code b at (before code b at)) ≡ Some (note_at code b at)
      met = ap (λ m. meet (fallen code b (before code b at)) (jumped code b m (before code b at))) (sym len) ∙ e

      t : Enters at (note_at code b at)
      t = enters at (fallen code b (before code b at)) (jumped code b at (before code b at)) (note_at code b at) f l met

      u : Brought at (note_at code b at)
      u = brought at (fallen code b (before code b at)) (jumped code b at (before code b at)) (note_at code b at) f l
          known met

  pub all_known : (at : ℕ) → at ≤ length b.instrs → Good at → AllKnown at
  all_known zero le good j less = absurd (omega (arith, less))
  all_known (suc at) le good j less =
      by (all_known at (omega (arith, le)) (λ m x l is. good m x (omega (arith, l)) is)) (nat_lt j at) refl
    where
      by : AllKnown at → (d : Bool) → nat_lt j at ≡ d → Known j
      by known true e = known j (grind (arith, nat_tests, e))
      by known false e =
          let z : at ≡ j = grind (arith, nat_tests, e, less) in
          let y = within_some b.instrs at (omega (arith, le)) in
          subst Known z (known_at at (omega (arith, le)) (λ m x l is. good m x (omega (arith, l)) is) known
          (good at y.0 (omega arith) y.1).arrives)

  -- where nothing is known on arrival, two ways bring different shapes
  pub record Differs (at : ℕ) : Type 0 where
    pub one : Shape
    pub other : Shape
    pub arrives_one : Arrives code b at one
    pub arrives_other : Arrives code b at other
    pub apart : one ≢ other

  pub differ_at : (at : ℕ) → at < length b.instrs → Good at → AllKnown at → arrival code b (before code b at) ≡ None
      → Differs at
  differ_at at inside good known e =
      by (fallen code b (before code b at)) (jumped code b at (before code b at)) (fell at (omega (arith, inside)))
      (led at at (omega arith) (omega (arith, inside)) good known)
      (ap (λ m. meet (fallen code b (before code b at)) (jumped code b m (before code b at))) (sym len) ∙ e)
    where
      len : length (before code b at) ≡ at
      len = before_length code b at (omega (arith, inside))

      by : (o o' : Option Note) → Fell at o → Led at at o' → meet o o' ≡ None → Differs at
      by None None f l g = absurd (none_some (sym g))
      by None (Some q) f l g = absurd (none_some (sym g))
      by (Some m) None f l g = absurd (none_some (sym g))
      by (Some m) (Some q) f l g = record {
        one = m.shape;
        other = q.shape;
        arrives_one = (brought_on at m f known).arrives;
        arrives_other = l.arrives;
        apart = λ z. apart_by (ap (same_shape m.shape) (sym z) ∙ same_self m.shape) g;
      }
        where
          both : Note
          both = record { shape = m.shape; paid = m.paid && q.paid }

          apart_by : same_shape m.shape q.shape ≡ true → meet (Some m) (Some q) ≡ None → ⊥
          apart_by y g = none_some (sym (sym (ap (λ d. if d then Some both else None) y) ∙ g))
