-- The command keeps to what clap's specification covers.
use Rattle.std.proofs.Common.{◌≡◌, refl, true}
use Rattle.clap.proofs.OnLiterals.{clap_on_literals}
use Rattle.clap.specs.Words.{is_simple, is_simple_and_free}
use Rattle.rev_words.specs.Command.{command}

pub simple : is_simple command ≡ true
unfolding clap_on_literals command
simple = refl

pub free : is_simple_and_free command ≡ true
unfolding clap_on_literals command
free = refl
