-- The list of classes of tokens has them all.
use Rattle.std.proofs.Common.{◌≡◌, Bool, true, ◌&&◌}
use Rattle.std.specs.List.{list_all}
use Rattle.rev_num.proofs.Lists.{and_left, and_right}
use Rattle.rev_syntax.specs.Words as words
use Rattle.rev_syntax.proofs.FixedWords.{each-fixed}
use Rattle.rev_expressions.specs.Classes.{Class, classes}
use Rattle.rev_expressions.specs.Classes as class

pub complete : (p : Class → Bool) → list_all p classes ≡ true → (s : Class) → p s ≡ true
complete p h c = by c
  where
    fixed_too : Bool
    fixed_too = list_all (λ f. p (class.fixed f)) words.fixed

    behind_name : p class.number && (p class.text && fixed_too) ≡ true
    behind_name = and_right (p class.name) (p class.number && (p class.text && fixed_too)) h

    behind_number : p class.text && fixed_too ≡ true
    behind_number = and_right (p class.number) (p class.text && fixed_too) behind_name

    by : (c : Class) → p c ≡ true
    by class.name = and_left (p class.name) (p class.number && (p class.text && fixed_too)) h
    by class.number = and_left (p class.number) (p class.text && fixed_too) behind_name
    by class.text = and_left (p class.text) fixed_too behind_number
    by (class.fixed f) = each-fixed (λ f. p (class.fixed f)) (and_right (p class.text) fixed_too behind_number) f
