-- What is known on arrival, where the instruction before and earlier jumps meet.
use Rattle.std.proofs.Common.{◌≡◌, ◌∙◌, ℕ, Bool, true, false, cond, ◌&&◌, Option, Some, None, refl, sym, ap, arith, true≢false}
use Rattle.std.proofs.lemmas.Bool.Decides.{nat_tests}
use Rattle.code_rules.specs.Shapes.{same_shape}
use Rattle.code_rules.specs.Pass.{Note, joined, leads_to, meet}
use Rattle.code_soundness.specs.Certificate.{Fits}
use Rattle.code_soundness.proofs.Basics.{and_parts, same_is}

pub meet_now : (m : Note) (o : Option Note) (u : Note) → meet (Some m) o ≡ Some u → Fits m u
meet_now m None u e = (let z : m ≡ u = cc in record { shape = ap (λ y. y.shape) z; paid = λ h. ap (λ y. y.paid) z ∙ h })
meet_now m (Some q) u e = by (same_shape m.shape q.shape) e
  where
    by : (d : Bool) → cond d (Some (record { shape = m.shape; paid = m.paid && q.paid })) None ≡ Some u → Fits m u
    by true e = (let z : record { shape = m.shape; paid = m.paid && q.paid } ≡ u = cc in
        record { shape = ap (λ y. y.shape) z; paid = λ h. (and_parts m.paid q.paid (ap (λ y. y.paid) z ∙ h)).0 })
    by false e = absurd (let z : None ≡ Some u = e in cc)

pub meet_mark : (o : Option Note) (m u : Note) → meet o (Some m) ≡ Some u → Fits m u
meet_mark None m u e =
    (let z : m ≡ u = cc in record { shape = ap (λ y. y.shape) z; paid = λ h. ap (λ y. y.paid) z ∙ h })
meet_mark (Some q) m u e = by (same_shape q.shape m.shape) refl e
  where
    by : (d : Bool) → same_shape q.shape m.shape ≡ d
        → cond d (Some (record { shape = q.shape; paid = q.paid && m.paid })) None ≡ Some u → Fits m u
    by true s e =
        (let z : record { shape = q.shape; paid = q.paid && m.paid } ≡ u = cc in record {
          shape = sym (same_is q.shape m.shape s) ∙ ap (λ y. y.shape) z;
          paid = λ h. (and_parts q.paid m.paid (ap (λ y. y.paid) z ∙ h)).1;
        })
    by false s e = absurd (let z : None ≡ Some u = e in cc)

pub fits_on : (m u v : Note) → Fits m u → Fits u v → Fits m v
fits_on m u v f h = record { shape = f.shape ∙ h.shape; paid = λ e. f.paid (h.paid e) }

pub joined_fits : (o : Option Note) (m : Note) → Fits m (joined o m)
joined_fits None m = record { shape = refl; paid = λ h. h }
joined_fits (Some q) m = record { shape = refl; paid = λ h. (and_parts q.paid m.paid h).1 }

pub leads_self : (to : ℕ) → leads_to to (Some to) ≡ true
leads_self to = grind (arith, nat_tests)

pub leads_is : (to : ℕ) (o : Option ℕ) → leads_to to o ≡ true → o ≡ Some to
leads_is to None h = absurd (true≢false (sym h))
leads_is to (Some u) h = ap Some (let z : u ≡ to = grind (arith, nat_tests, h) in z)
