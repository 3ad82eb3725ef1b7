-- What `parse` gives is what the definition of an option's number says.
use Rattle.std.proofs.Common.{◌≡◌, ℕ, false, refl, arith}
use Rattle.std.specs.Prelude.{Result, Ok, Err}
use Rattle.std.specs.Result.{result_ok}
use Rattle.std.specs.Str.Parse.{ParsesUnsigned}
use Rattle.std.proofs.lemmas.Bool.{false_from_ne_true}
use Rattle.clap.specs.Words.{Text}
use Rattle.clap.specs.ValueTests.{accepts}
use Rattle.clap.specs.declared.builder.ValueParser.TheVariants as vp
use Rattle.clap.proofs.ValueTestLemmas.{accepts-Accepts, Accepts-accepts}
use Rattle.rev_words.specs.Reading.{natural_of}

pub natural_of-parses : {E : Type 0} (text : Text) (r : Result ℕ E) → ParsesUnsigned 64 10 text r
    → result_ok r ≡ natural_of text
natural_of-parses text (Ok x) h =
    let accepted =
    Accepts-accepts false (vp.Unsigned 0 18446744073709551615) text (h.0.0, h.0.1, omega arith, omega (arith, h.0.1)) in
    rw (accepted, h.1) refl
natural_of-parses text (Err e) h =
    let none = false_from_ne_true (accepts false (vp.Unsigned 0 18446744073709551615) text) (λ t.
    let a = accepts-Accepts false (vp.Unsigned 0 18446744073709551615) text t in h (a.0, a.1)) in
    rw none refl
