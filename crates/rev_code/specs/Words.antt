-- Words, which are what stacks, locals and locations hold.
--   Word       an int, a bool, or a handle, of which `H` says what it is: a revision's number, or its path
--   kind_of    the kind of a word
--   fits       whether words have these kinds, one by one
use Rattle.std.specs.Prelude.{ℕ, ℤ, pos, Bool, true, false, ◌&&◌, not, List, [], ◌∷◌, Option, None, nat_eq}
use Rattle.rev_num.specs.declared.value.ValueKind.{ValueKind}
use Rattle.rev_num.specs.declared.value.ValueKind.TheVariants as k
use Rattle.rev_num.specs.Words.{int_of}
use Rattle.rev_num.specs.Value.{same_kind}

pub data Word (H : Type 0) : Type 0 where
  int : ℤ → Word H
  bool : Bool → Word H
  -- a handle, or `none`
  rev : Option H → Word H

abbrev pub kind_of : {H : Type 0} → Word H → ValueKind
kind_of (int n) = k.Int
kind_of (bool b) = k.Bool
kind_of (rev h) = k.Rev

-- whether the words have these kinds, one by one, and are as many
abbrev pub fits : {H : Type 0} → List ValueKind → List (Word H) → Bool
fits [] [] = true
fits [] (w ∷ ws) = false
fits (x ∷ xs) [] = false
fits (x ∷ xs) (w ∷ ws) = same_kind x (kind_of w) && fits xs ws

-- 0, `false` or `none`
abbrev pub zero_word : {H : Type 0} → ValueKind → Word H
zero_word k.Int = int (pos 0)
zero_word k.Bool = bool false
zero_word k.Rev = rev None

-- the word of a start value, which 64 bits give: of a handle there is none but `none`
abbrev pub start_word : {H : Type 0} → ValueKind → ℕ → Word H
start_word k.Int w = int (int_of w)
start_word k.Bool w = bool (not (nat_eq w 0))
start_word k.Rev w = rev None
