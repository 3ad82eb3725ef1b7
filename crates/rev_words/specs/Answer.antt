-- What the calls answer: wrong usage exactly where there is nothing to find or to read, unless
-- memory runs out.
use Rattle.std.specs.Prelude.{◌≡◌, true, false, List, Option, Some, None, Result, Ok, Err, ⊤}
use Rattle.clap.specs.declared.parser.ArgMatches.{ArgMatches}
use Rattle.clap.specs.Words.{Text, found_of, matches_of, rows_of}
use Rattle.rev_words.specs.Command.{command}
use Rattle.rev_words.specs.Reading.{is_taken}
use Rattle.rev_words.specs.declared.fault.WordsFault.{WordsFault}
use Rattle.rev_words.specs.declared.fault.WordsFault.TheVariants as faults

-- the command's matches, exactly where it takes the words
abbrev pub Finds : Result ArgMatches WordsFault → List Text → Type 0
Finds (Ok m) words = (is_taken words ≡ true) × (rows_of (found_of m) ≡ matches_of command words)
Finds (Err faults.Usage) words = is_taken words ≡ false
Finds (Err faults.OutOfMemory) words = ⊤

-- what there is to read, as contracts see the answer
abbrev pub Gives : {X Y : Type 0} → (X → Y) → Result X WordsFault → Option Y → Type 0
Gives view (Ok x) r = r ≡ Some (view x)
Gives view (Err faults.Usage) r = r ≡ None
Gives view (Err faults.OutOfMemory) r = ⊤
