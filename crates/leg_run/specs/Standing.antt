-- For which state of the definition a running revision stands.
--   word_as         a word, read as one of a kind
--   locations_from  locations, by the words that a memory sees, and those at the fork where it has written
--   state_of        the state: each word is read by the kind that verified code has there
--   IsFrameOf       a frame that waits, on the area of words
--   Stands          a running revision stands for a state of accepted code
--   IsStanding      it stands for its own state
use Rattle.std.specs.Prelude.{ℕ, zero, suc, ◌≡◌, ◌<◌, ◌≤◌, ◌+◌, ◌-◌, not, nat_eq, ℤ, List, [], ◌∷◌, length, map, reverse, take, drop, Option, Some, None, slice_get}
use Rattle.rev_num.specs.declared.value.ValueKind.{ValueKind}
use Rattle.rev_num.specs.declared.value.ValueKind.TheVariants as k
use Rattle.rev_num.specs.Words.{int_of}
use Rattle.rev_code.specs.declared.code.Code.{Code}
use Rattle.rev_code.specs.declared.code.CodeBlock.{CodeBlock}
use Rattle.rev_code.specs.Words.{Word, int, bool, rev}
use Rattle.rev_code.specs.State.{Frame, Listed, Location, State, forked, joined}
use Rattle.code_soundness.specs.Typed.{location_kinds}
use Rattle.code_soundness.specs.AcceptedCode.{notes_of}
use Rattle.block_run.specs.Agreement.{AreWords}
use Rattle.block_run.specs.Area.{stack_of}
use Rattle.block_run.specs.Standing.{program, Here, IsRoomy}
use Rattle.leg_run.specs.declared.revision.Meeting.{Meeting}
use Rattle.leg_run.specs.declared.revision.Meeting.TheVariants as meeting
use Rattle.leg_run.specs.declared.revision.Run.{Run}
use Rattle.leg_run.specs.declared.revision.Waiting.{Waiting}

-- ---- words of a kind

abbrev pub handle_as : ℕ → Option ℕ
handle_as zero = None
handle_as (suc n) = Some n

abbrev pub word_as : ValueKind → ℕ → Word ℕ
word_as k.Int w = int (int_of w)
word_as k.Bool w = bool (not (nat_eq w 0))
word_as k.Rev w = rev (handle_as w)

abbrev pub words_as : List ValueKind → List ℕ → List (Word ℕ)
words_as [] ws = []
words_as (x ∷ kinds) [] = []
words_as (x ∷ kinds) (w ∷ ws) = word_as x w ∷ words_as kinds ws

-- ---- frames

abbrev pub locals_of : Option CodeBlock → List ValueKind
locals_of None = []
locals_of (Some b) = b.locals

-- the locals of a frame of that block, from this place of the area on
abbrev pub locals_at : Code → (block base : ℕ) → List ℕ → List (Word ℕ)
locals_at code block base ws =
    let kinds = locals_of (slice_get code.blocks block) in
    words_as kinds (take (length kinds) (drop base ws))

abbrev pub frame_of : Code → List ℕ → Waiting → Frame ℕ
frame_of code ws w = record { block = w.block; at = w.at; locals = locals_at code w.block w.base ws }

-- where the stack of a frame of that block begins
abbrev pub stack_base : Code → (block base : ℕ) → ℕ
stack_base code block base = base + length (locals_of (slice_get code.blocks block))

-- ---- locations

abbrev pub location_as : ValueKind → (word : ℕ) → (root : Option ℕ) → Location ℕ
location_as x w None = record { snapshot = word_as x w; written = None }
location_as x w (Some root) = record { snapshot = word_as x root; written = Some (word_as x w) }

-- from the location of this number on
abbrev pub locations_from : ℕ → List ValueKind → (seen : ℕ → ℕ) → (root : ℕ → Option ℕ) → List (Location ℕ)
locations_from n [] seen root = []
locations_from n (x ∷ kinds) seen root = location_as x (seen n) (root n) ∷ locations_from (suc n) kinds seen root

-- ---- the state

abbrev pub listed_as : Meeting → Listed ℕ
listed_as (meeting.Forked revision line) = forked revision line
listed_as (meeting.Joined revision line) = joined revision line

abbrev pub state_of : Code → Run → (seen : ℕ → ℕ) → (root : ℕ → Option ℕ) → State ℕ
state_of code run seen root =
    let r = run.registers in
    let low = stack_base code r.block r.base in
    record {
      block = r.block;
      at = r.at;
      locals = locals_at code r.block r.base run.words.items;
      stack = words_as (notes_of code r.block r.at).shape (stack_of run.words.items low (r.top - low));
      below = map (frame_of code run.words.items) (reverse run.below.items);
      locations = locations_from 0 (location_kinds code.vars) seen root;
      fuel = r.fuel;
      forks = run.forks;
      listed = map listed_as run.meetings.items;
      text = run.text.items;
      line = r.line;
    }

-- ---- what it stands for

-- a frame that waits below one whose locals begin at this place, with room for its stack at each place
pub record IsFrameOf (code : Code) (ws : List ℕ) (above : ℕ) (f : Frame ℕ) (w : Waiting) : Type 0 where
  pub body : CodeBlock
  pub is : slice_get code.blocks w.block ≡ Some body
  pub block : f.block ≡ w.block
  pub at : f.at ≡ w.at
  pub locals : AreWords f.locals (take (length body.locals) (drop w.base ws))
  pub behind : w.base + length body.locals ≡ above
  pub room : (at : ℕ) → at < length body.instrs → above + length (notes_of code w.block at).shape ≤ length ws

-- the frames below, the innermost first
abbrev pub AreBelow : Code → (ws : List ℕ) → (above : ℕ) → List (Frame ℕ) → List Waiting → Type 0
AreBelow code ws above [] [] = Unit {0}
AreBelow code ws above (f ∷ fs) (w ∷ waits) = IsFrameOf code ws above f w × AreBelow code ws w.base fs waits
AreBelow code ws above [] (w ∷ waits) = ⊥
AreBelow code ws above (f ∷ fs) [] = ⊥

pub record Stands (code : Code) (inputs : List ℤ) (share : ℕ) (run : Run) (seen : ℕ → ℕ) (root : ℕ → Option ℕ)
    (c : State ℕ) : Type 0 where
  pub body : CodeBlock
  pub is : slice_get code.blocks run.registers.block ≡ Some body
  pub here : Here code inputs (program share) body c run.words.items run.registers seen root
  pub below : AreBelow code run.words.items run.registers.base c.below (reverse run.below.items)
  pub room : IsRoomy code body run.registers (length run.words.items)
  pub forks : c.forks ≡ run.forks
  pub listed : c.listed ≡ map listed_as run.meetings.items
  pub text : c.text ≡ run.text.items
  -- each fork is listed
  pub few : run.forks ≤ length run.meetings.items

abbrev pub IsStanding : Code → List ℤ → (share : ℕ) → Run → (seen : ℕ → ℕ) → (root : ℕ → Option ℕ) → Type 0
IsStanding code inputs share run seen root = Stands code inputs share run seen root (state_of code run seen root)

-- ---- laws

-- a revision stands for no state but its own
abbrev pub StandsForItsState : Type 0
StandsForItsState =
    (code : Code) (inputs : List ℤ) (share : ℕ) (run : Run) (seen : ℕ → ℕ) (root : ℕ → Option ℕ) (c : State ℕ)
    → Stands code inputs share run seen root c → c ≡ state_of code run seen root
