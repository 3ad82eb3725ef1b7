-- A seat is of the table that has its name.
use Rattle.std.proofs.Common.{◌≡◌, ℕ, List, [], ◌∷◌, ap}
use Rattle.sparse_table.specs.Owned.{WordsId}
use Rattle.sparse_table.specs.declared.table.Table.{Table}
use Rattle.sparse_table.specs.declared.table.Seat.{Seat}
use Rattle.sparse_table.specs.Seats.{IsOf, IsStill, IsSame, table_name, seat_name}

abbrev head_of : List ℕ → ℕ
head_of [] = 0
head_of (x ∷ xs) = x

abbrev tail_of : List ℕ → List ℕ
tail_of [] = []
tail_of (x ∷ xs) = xs

abbrev name_by : ℕ → ℕ → ℕ → WordsId → List ℕ
name_by words width shift z = words ∷ width ∷ shift ∷ z.words ∷ z.views_name ∷ z.atom ∷ []

module _ {V : Type 0} where
  module _ {K P : Type 0} (t : Table V K P) (s : Seat V) where
    pub named : IsOf t s → seat_name s ≡ table_name t
    named own = λ i. name_by (own.1 i) (own.2 i) (own.3 i) (own.0 i)

    pub of_named : seat_name s ≡ table_name t → IsOf t s
    of_named e = let one = ap tail_of e in let two = ap tail_of one in let three = ap tail_of two in
        let four = ap tail_of three in let five = ap tail_of four in (
          (λ i. record { words = ap head_of three i; views_name = ap head_of four i; atom = ap head_of five i }),
          ap head_of e,
          ap head_of one,
          ap head_of two,
        )

  module _ (s u : Seat V) where
    pub still_named : IsStill s u → seat_name u ≡ seat_name s
    still_named k = λ i. name_by (k.2 i).words (k.2 i).width (k.2 i).shift (k.0 i)

    pub same_named : IsSame s u → seat_name u ≡ seat_name s
    same_named k = λ i. name_by (k.2 i) (k.3 i) (k.4 i) (k.0 i)
