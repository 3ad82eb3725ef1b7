-- How many words the frames of each block need.
--   IsRoom      so many words serve a block: its locals and its stack at each place, and, where it is a fun or merge,
--               all that it needs with the funs that it applies
--   AreRooms    a table of them
--   are_rooms_prop   in one way at most
--   room_of     as many words as serve a block of verified code, by the rooms of the blocks before it
use Rattle.std.specs.Prelude.{ℕ, ◌≡◌, ◌<◌, ◌≤◌, ◌+◌, ◌^◌, max, min, true, if◌then◌else◌, List, [], ◌∷◌, length, Option, Some, None, slice_get, slice_index_or}
use Rattle.std.proofs.Common.{◌∙◌, ap, subst, sym}
use Rattle.std.specs.Coded.{Coded-set, coded_ℕ, coded_option, le_prop, ×_prop}
use Rattle.rev_code.specs.declared.code.Code.{Code}
use Rattle.rev_code.specs.declared.code.CodeBlock.{CodeBlock}
use Rattle.rev_code.specs.declared.code.Instr.{Instr}
use Rattle.rev_code.specs.declared.code.Instr.TheVariants as i
use Rattle.code_rules.specs.declared.Cost.{Cost}
use Rattle.code_rules.specs.Pass.{is_value_class, most_need, most_words}
use Rattle.code_soundness.specs.AcceptedCode.{notes_of, AreCosts}

pub record IsRoom (code : Code) (n : ℕ) (b : CodeBlock) (room : ℕ) : Type 0 where
  pub deep : (at : ℕ) → at < length b.instrs → length b.locals + length (notes_of code n at).shape ≤ room
  pub need : is_value_class b.class ≡ true → (costs : List Cost) → AreCosts code costs → (cost : Cost)
      → slice_get costs n ≡ Some cost → cost.need ≤ room
  pub few : room < 2 ^ 32
  pub frame : length b.locals ≤ room

pub record HasRoomFor (code : Code) (rooms : List ℕ) (n : ℕ) (b : CodeBlock) : Type 0 where
  pub room : ℕ
  pub is : slice_get rooms n ≡ Some room
  pub enough : IsRoom code n b room

abbrev pub AreRooms : Code → (rooms : List ℕ) → Type 0
AreRooms code rooms = (n : ℕ) (b : CodeBlock) → slice_get code.blocks n ≡ Some b → HasRoomFor code rooms n b

-- ---- a table has them in one way

is_room_prop : (code : Code) (n : ℕ) (b : CodeBlock) (room : ℕ) → IsProp (IsRoom code n b room)
is_room_prop code n b room = λ x y i. record {
  deep = λ at w. le_prop (x.deep at w) (y.deep at w) i;
  need = λ v costs are cost is. le_prop (x.need v costs are cost is) (y.need v costs are cost is) i;
  few = le_prop x.few y.few i;
  frame = le_prop x.frame y.frame i;
}

abbrev Room : Code → (rooms : List ℕ) (n : ℕ) → CodeBlock → ℕ → Type 0
Room code rooms n b room = (slice_get rooms n ≡ Some room) × IsRoom code n b room

room_prop : (code : Code) (rooms : List ℕ) (n : ℕ) (b : CodeBlock) (room : ℕ) → IsProp (Room code rooms n b room)
room_prop code rooms n b room =
    ×_prop (Coded-set (coded_option coded_ℕ) (slice_get rooms n) (Some room)) (is_room_prop code n b room)

abbrev with_room : (code : Code) (rooms : List ℕ) (n : ℕ) (b : CodeBlock) (room : ℕ) → Room code rooms n b room
    → HasRoomFor code rooms n b
with_room code rooms n b room r = record { room = room; is = r.0; enough = r.1 }

abbrev room_or : Option ℕ → ℕ
room_or None = 0
room_or (Some room) = room

has_room_prop : (code : Code) (rooms : List ℕ) (n : ℕ) (b : CodeBlock) → IsProp (HasRoomFor code rooms n b)
has_room_prop code rooms n b = λ x y.
    let same : x.room ≡ y.room = ap room_or (sym x.is ∙ y.is) in
    subst (λ room. (r : Room code rooms n b room) → x ≡ with_room code rooms n b room r) same
    (λ r. ap (with_room code rooms n b x.room) (room_prop code rooms n b x.room (x.is, x.enough) r))
    (y.is, y.enough)

pub are_rooms_prop : (code : Code) (rooms : List ℕ) → IsProp (AreRooms code rooms)
are_rooms_prop code rooms = λ f g i n b is. has_room_prop code rooms n b (f n b is) (g n b is) i

-- ---- rooms that serve, where those of the blocks before are in the table

-- the room of the fun that an instruction applies
abbrev pub room_applied : (rooms : List ℕ) → Instr → ℕ
room_applied rooms (i.Apply f) = slice_index_or rooms f 0
room_applied rooms _ = 0

abbrev pub greatest_room : (rooms : List ℕ) → List Instr → ℕ
greatest_room rooms [] = 0
greatest_room rooms (x ∷ xs) = max (room_applied rooms x) (greatest_room rooms xs)

-- the locals and a word for each instruction, as far as the limit of a stack; for a fun or merge also what those need
-- that it applies, as far as the limit of such a need
abbrev pub room_of : (rooms : List ℕ) → CodeBlock → ℕ
room_of rooms b =
    if is_value_class b.class
    then min (length b.locals + min (length b.instrs) most_need + greatest_room rooms b.instrs) most_need
    else length b.locals + min (length b.instrs) most_words
