-- What a step of code comes to, whatever its instruction.
--   Grows             the second text is the first with more behind it
--   ComesTo           the forms, and of each what it leaves as it was
--   StepsHaveForms    each step has one of them
--   Says              a text and what comes after it: the text there is that text with more behind it
--   ReachesSay        wherever several steps lead, the text is the one before with more behind it
use Rattle.std.specs.Prelude.{ℕ, suc, ◌≡◌, Bool, List, ◌∷◌, ◌++◌, Option, Some, slice_get}
use Rattle.rev_num.specs.declared.outcome.Cause.{Cause}
use Rattle.rev_code.specs.declared.code.CodeBlock.{CodeBlock}
use Rattle.rev_code.specs.Words.{Word, rev}
use Rattle.rev_code.specs.State.{Frame, Setting, State}
use Rattle.rev_code.specs.Step.{Comes, goes, traps, forks, joins, ends, stuck, after_write, arguments, params, is_procedure, only, reach, step}

abbrev pub Grows : List ℕ → List ℕ → Type 0
Grows old new = (more : List ℕ) × (new ≡ old ++ more)

-- what state c may come to under s
pub data ComesTo {H : Type 0} (s : Setting H) (c : State H) : Comes H → Type 0 where
  -- another place, other words in its frames and on its stack, or more text behind its own
  to_next : (block at : ℕ) (locals stack : List (Word H)) (below : List (Frame H)) (text : List ℕ)
      → Grows c.text text
      → ComesTo s c (goes (record c
      { block = block; at = at; locals = locals; stack = stack; below = below; text = text }))
  to_write : (rest : List (Word H)) (l : ℕ) (w : Word H) → ComesTo s c (after_write c rest l w)
  to_payment : (line fuel : ℕ) → c.fuel ≡ suc fuel
      → ComesTo s c (goes (record c { at = suc c.at; fuel = fuel; line = line }))
  -- the line may be one that the state could not pay
  to_trap : (line : ℕ) (e : Cause) → ComesTo s c (traps (record c { line = line }) e)
  -- of a procedure, whose arguments are the words on top
  to_fork : (n : ℕ) (body : CodeBlock) (args : List (Word H))
      → only is_procedure (slice_get s.code.blocks n) ≡ Some body
      → arguments (params body) c.stack ≡ Some args → ComesTo s c (forks c n args)
  -- of the handle on top
  to_join : (try : Bool) (h : H) (rest : List (Word H)) → c.stack ≡ rev (Some h) ∷ rest → ComesTo s c (joins c try h)
  to_end : (w : Option (Word H)) → ComesTo s c (ends c w)
  to_nothing : ComesTo s c stuck

abbrev pub StepsHaveForms : Type 0 → Type 0
StepsHaveForms H = (s : Setting H) (c : State H) → ComesTo s c (step s c)

-- of code that is stuck nothing is said
abbrev pub Says : {H : Type 0} → List ℕ → Comes H → Type 0
Says text (goes d) = Grows text d.text
Says text (traps d e) = Grows text d.text
Says text (forks d n args) = Grows text d.text
Says text (joins d try h) = Grows text d.text
Says text (ends d w) = Grows text d.text
Says text stuck = Unit {0}

abbrev pub ReachesSay : Type 0 → Type 0
ReachesSay H = (s : Setting H) (k : ℕ) (c : State H) → Says c.text (reach s k c)
