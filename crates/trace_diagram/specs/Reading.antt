-- What is read of some bytes.
--   Reads        what fits and is spelled so, or that there is none
--   LacksPrefix  nothing stands behind a prefix, since the bytes don't begin with it
--   IsQuote      the line quotes a printable text
use Rattle.std.specs.Prelude.{◌≡◌, ℕ, ◌<◌, List, ◌++◌, length, Option, Some, None, Vec, IsTrue}
use Rattle.std.specs.List.{list_all}
use Rattle.rev_num.specs.Path.{Path}
use Rattle.rev_num.specs.Text.{path_text}
use Rattle.rev_num.specs.declared.value.Value.{Value}
use Rattle.rev_num.specs.declared.value.Value.TheVariants as value
use Rattle.trace_diagram.specs.Lines.{FitsPath, is_printable, quoted}

-- what fits and has these bytes as its text, or none where nothing has
abbrev pub Reads : {A : Type 0} → (A → Type 0) → (A → List ℕ) → List ℕ → Option A → Type 0
Reads Fits text bytes (Some x) = Fits x × (text x ≡ bytes)
Reads Fits text bytes None = (x : _) → Fits x → text x ≡ bytes → ⊥

-- the bytes are not the prefix and some bytes behind it
abbrev pub LacksPrefix : List ℕ → List ℕ → Type 0
LacksPrefix bytes prefix = (rest : List ℕ) → bytes ≡ prefix ++ rest → ⊥

-- a path with one number at least
pub record Forks (path : Path) : Type 0 where
  pub some : 0 < length path
  pub fit : FitsPath path

-- the bytes are numbers of 32 bits with dots between them, or none is their text
abbrev pub ReadsForks : {A : Type 0} → List ℕ → Option (Vec ℕ A) → Type 0
ReadsForks bytes (Some forks) = Forks forks.items × (path_text forks.items ≡ bytes)
ReadsForks bytes None = (path : Path) → Forks path → path_text path ≡ bytes → ⊥

-- a value whose text has no `@` in front
abbrev pub IsPlainValue : Value → Type 0
IsPlainValue (value.Int n) = Unit {0}
IsPlainValue (value.Bool b) = Unit {0}
IsPlainValue (value.Rev None) = Unit {0}
IsPlainValue (value.Rev (Some path)) = ⊥

-- the line quotes this text, which is printable
pub record IsQuote (line text : List ℕ) : Type 0 where
  pub printable : IsTrue (list_all is_printable text)
  pub is : quoted text ≡ line

abbrev pub IsNoQuote : List ℕ → Type 0
IsNoQuote line = (text : List ℕ) → IsQuote line text → ⊥
