-- What several calls have appended, one after another.
use Rattle.std.proofs.Common.{◌≡◌, ◌∙◌, ℕ, List, ◌++◌, ap, append_assoc}

pub two : (o a b x y : List ℕ) → a ≡ o ++ x → b ≡ a ++ y → b ≡ o ++ (x ++ y)
two o a b x y p q = q ∙ ap (λ l. l ++ y) p ∙ append_assoc o x y

pub three : (o a b c x y z : List ℕ) → a ≡ o ++ x → b ≡ a ++ y → c ≡ b ++ z → c ≡ o ++ (x ++ (y ++ z))
three o a b c x y z p q r = two o a c x (y ++ z) p (two a b c y z q r)

pub five : (o a b c d e x y z u v : List ℕ) → a ≡ o ++ x → b ≡ a ++ y → c ≡ b ++ z → d ≡ c ++ u → e ≡ d ++ v
    → e ≡ o ++ (x ++ (y ++ (z ++ (u ++ v))))
five o a b c d e x y z u v p q r s t =
    two o a e x (y ++ (z ++ (u ++ v))) p (two a b e y (z ++ (u ++ v)) q (three b c d e z u v r s t))
