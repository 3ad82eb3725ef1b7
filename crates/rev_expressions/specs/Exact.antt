-- When the next token decides a grammar, by tests that compute over a list of all kinds of token.
--   extends: the kinds that may go on behind a whole word of a form
--   is_decided: whether each choice of a form is decided by the next token
--   is_plain: whether a form derives some tokens that open no level
--   Decided: the next token decides all inner rules of a grammar
use Rattle.std.specs.Prelude.{List, ◌≡◌, Bool, true, false, not, ◌&&◌, ◌||◌}
use Rattle.std.specs.List.{list_all}
use Rattle.rev_expressions.specs.Form.{Alphabet, Form, nothing, token, level, both, either, many, Rules}
use Rattle.rev_expressions.specs.Reader.{nullable, first}

module _ (G : Alphabet) (Ext : G.Inner → G.Kind → Bool) where
  -- the kinds of token that may go on behind a whole word of the form, where an inner rule is gone on with by these
  abbrev pub extends : {A : Type 0} → Form G A → G.Kind → Bool
  extends (nothing a) k = false
  extends (token s val) k = false
  extends (level s i val) k = Ext i k
  extends (both f P Q) k = extends Q k || (nullable G Q && extends P k)
  extends (either P Q) k = extends P k || (extends Q k || (nullable G Q && first G P k))
  extends (many f ends P) k = first G P k || extends P k

  module _ (kinds : List G.Kind) where
    -- no kind passes both tests
    abbrev pub are_apart : (G.Kind → Bool) → (G.Kind → Bool) → Bool
    are_apart p q = list_all (λ k. not (p k && q k)) kinds

    -- each choice of the form is decided by the next token
    abbrev pub is_decided : {A : Type 0} → Form G A → Bool
    is_decided (nothing a) = true
    is_decided (token s val) = true
    is_decided (level s i val) = true
    is_decided (both f P Q) = is_decided P && (is_decided Q && are_apart (extends P) (first G Q))
    is_decided (either P Q) =
        is_decided P && (is_decided Q && (not (nullable G P) && are_apart (first G P) (first G Q)))
    is_decided (many f ends P) =
        is_decided P && (not (nullable G P) && are_apart (extends P) (first G P))

  -- whether the form derives some tokens that open no level
  abbrev pub is_plain : {A : Type 0} → Form G A → Bool
  is_plain (nothing a) = true
  is_plain (token s val) = true
  is_plain (level s i val) = false
  is_plain (both f P Q) = is_plain P && is_plain Q
  is_plain (either P Q) = is_plain P || is_plain Q
  is_plain (many f ends P) = true

-- The next token decides a grammar. The list has all kinds of token, and each inner rule goes on only
-- with kinds that `Ext` has for it.
pub record Decided (G : Alphabet) (rules : Rules G) (Ext : G.Inner → G.Kind → Bool)
    (kinds : List G.Kind) : Type 0 where
  pub complete : (p : G.Kind → Bool) → list_all p kinds ≡ true → (k : G.Kind) → p k ≡ true
  pub sample : (s : G.Kind) → (t : G.Token) × (G.is s (G.kind t) ≡ true)
  pub decided : (i : G.Inner) → is_decided G Ext kinds (rules i) ≡ true
  pub extended : (i : G.Inner) (k : G.Kind) → extends G Ext (rules i) k ≡ true → Ext i k ≡ true
  pub plain : (i : G.Inner) → is_plain G Ext (rules i) ≡ true
