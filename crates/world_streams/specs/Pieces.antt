-- What a sink took, piece after piece.
--   PartsAreLonger   a first part of a first part is one
--   PartsGoBehind    a first part of a second piece, behind all of the first, is one of both
--   RisesGoBehind    a count that rose behind a piece has risen
use Rattle.std.specs.Prelude.{ℕ, ◌≡◌, ◌++◌, List}
use Rattle.rev_io.specs.Stream.{Stream, Rose, Took, TookSome}
use Rattle.code_machine_laws.specs.Forms.{Grows}

abbrev pub PartsAreLonger : Type 0
PartsAreLonger =
    (old new : Stream) (x xy : List ℕ) → Grows x xy → TookSome old x new → TookSome old xy new

abbrev pub PartsGoBehind : Type 0
PartsGoBehind =
    (a b c : Stream) (x y xy : List ℕ) → Took a x b → TookSome b y c → xy ≡ x ++ y
    → TookSome a xy c

abbrev pub RisesGoBehind : Type 0
RisesGoBehind = (a b c : Stream) (x : List ℕ) → Took a x b → Rose b c → Rose a c
