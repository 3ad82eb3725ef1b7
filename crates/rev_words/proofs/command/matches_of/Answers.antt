-- Answers of matches_of: the command is of the simple form for which the parser's answers are defined.
use Rattle.std.proofs.Common.{rules, ap, false, map, ◌≡◌, ◌∙◌, List, [], ◌∷◌, sym, refl, inl, inr}
use Rattle.std.specs.Prelude.{Err}
use Rattle.clap.specs.Words.{HasKind, Kinds, kind_of}
use Rattle.clap.specs.declared.error.Error.{Error}
use Rattle.clap.specs.declared.error.ErrorKind.TheVariants as kind
use Rattle.rev_words.specs.declared.fault.WordsFault.{WordsFault}
use Rattle.rev_words.specs.declared.fault.WordsFault.TheVariants.{Usage, OutOfMemory}
use Rattle.rev_words.specs.Answer.{Finds}
use Rattle.rev_words.specs.Reading.{is_taken}
use Rattle.std.specs.String.{string_bytes}
use Rattle.clap.specs.Words.{App, Text, fault_of, is_simple, is_simple_and_free, matches_of}
use Rattle.clap.specs.Walk.{is_empty}
use Rattle.rev_words.specs.Command as spec
use Rattle.rev_words.proofs.Simple.{free, simple}
use Rattle.rev_words.proofs.command.matches_of.Goals as goal

-- an error that is not of memory shows that a step was at fault
refused : (kinds : Kinds) (e : Error) → HasKind kinds e → (kind_of e ≡ kind.OutOfMemory → ⊥) → is_empty kinds ≡ false
refused [] e (inl h) never = absurd (never h)
refused [] e (inr h) never = absurd h
refused (k ∷ ks) e h never = search rules

pub returns-in-Ok : goal.returns-in-Ok
returns-in-Ok c =
    let is = c.in_ok-command.ensures in
    let none = c.in-Ok.ensures.kinds (ap is_simple_and_free is ∙ free) in (
      ap (λ (a : App). is_empty (fault_of a (map string_bytes c.args.words.now))) (sym is) ∙ ap is_empty none,
      (c.in-Ok.ensures.matches (ap is_simple is ∙ simple)).0
          ∙ ap (λ (a : App). matches_of a (map string_bytes c.args.words.now)) is,
    )

pub returns-in-Err : goal.returns-in-Err
returns-in-Err c =
    let is = c.in_ok-command.ensures in
    let kinds = c.in-Err.ensures.kinds (ap is_simple_and_free is ∙ free) in
    let usage : c.fault_of.result ≡ Usage
    → is_empty (fault_of spec.command (map string_bytes c.args.words.now)) ≡ false = λ u.
    ap (λ (a : App). is_empty (fault_of a (map string_bytes c.args.words.now))) (sym is)
    ∙ refused _ c.in-Err.error kinds (c.fault_of.ensures.0 u) in
    finds c.fault_of.result _ usage
  where
    finds : (f : WordsFault) (words : List Text) → (f ≡ Usage → is_taken words ≡ false) → Finds (Err f) words
    finds Usage words h = h refl
    finds OutOfMemory words h = tt
