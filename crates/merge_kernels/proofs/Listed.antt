-- Links one after another.
use Rattle.std.proofs.Common.{◌≡◌, ◌≢◌, ◌∙◌, ap, refl, suc, length, Bool, false, ◌&&◌, nat_eq, List, [], ◌∷◌, ◌++◌, Option, Some, None}
use Rattle.std.proofs.Math.Bool.{and-false}
use Rattle.rev_syntax.specs.Trees.{Expression, Links, no_links}
use Rattle.rev_syntax.specs.View.{links_of}
use Rattle.rev_syntax.specs.declared.tree.BinaryOp.{BinaryOp}
use Rattle.merge_kernels.specs.Closing.{with_link}
use Rattle.merge_kernels.specs.Equal.{op_number, equal, equal_links}

-- the links of these, before others
abbrev pub before_links : List (BinaryOp × Expression) → Option Links → Option Links
before_links [] o = o
before_links (x ∷ xs) o = with_link x.0 (Some x.1) (before_links xs o)

pub before_more : (xs : List (BinaryOp × Expression)) (op : BinaryOp) (e : Expression) (o : Option Links)
    → before_links (xs ++ (op, e) ∷ []) o ≡ before_links xs (with_link op (Some e) o)
before_more [] op e o = refl
before_more (x ∷ xs) op e o = ap (with_link x.0 (Some x.1)) (before_more xs op e o)

pub before_none : (xs : List (BinaryOp × Expression)) → before_links xs None ≡ None
before_none [] = refl
before_none (x ∷ xs) = ap (with_link x.0 (Some x.1)) (before_none xs)

pub before_all : (xs : List (BinaryOp × Expression)) → before_links xs (Some no_links) ≡ Some (links_of xs)
before_all [] = refl
before_all (x ∷ xs) = ap (with_link x.0 (Some x.1)) (before_all xs)

-- lists of other lengths are not equal
pub uneven : (xs ys : List (BinaryOp × Expression)) → length xs ≢ length ys
    → equal_links (links_of xs) (links_of ys) ≡ false
uneven [] [] h = absurd (h refl)
uneven [] (y ∷ ys) h = refl
uneven (x ∷ xs) [] h = refl
uneven (x ∷ xs) (y ∷ ys) h =
    let p : Bool = nat_eq (op_number x.0) (op_number y.0) in
    let q : Bool = equal x.1 y.1 in
    ap (λ r. p && (q && r)) (uneven xs ys (λ e. h (ap suc e))) ∙ (ap (λ r. p && r) (and-false q) ∙ and-false p)
