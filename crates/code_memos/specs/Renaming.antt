-- What a revision reads, comes to and leaves, with other handles: each handle h as f h.
use Rattle.std.specs.Prelude.{ℕ, map}
use Rattle.rev_code.specs.Words.{Word}
use Rattle.rev_code.specs.Step.{Comes, goes, traps, forks, joins, ends, stuck}
use Rattle.code_machine_laws.specs.Reads.{Read, location, input, count}
use Rattle.version_map.specs.Composing.{Entry}
use Rattle.code_machine.specs.Local.{End}
use Rattle.code_machine.specs.Renamed.{renamed_word, renamed_written, renamed_as, renamed_phase}

module _ {H K : Type 0} (f : H → K) where
  abbrev pub renamed_read : Read H → Read K
  renamed_read (location n w) = location n (renamed_word f w)
  renamed_read (input n z) = input n z
  renamed_read (count k) = count k

  abbrev pub renamed_entry : Entry (Word H) → Entry (Word K)
  renamed_entry e = record { location = e.location; value = renamed_word f e.value; root = renamed_word f e.root }

  abbrev pub renamed_end : End H → End K
  renamed_end e = record {
    written = map renamed_entry e.written;
    text = e.text;
    fuel = e.fuel;
    phase = renamed_phase f e.phase;
  }

  abbrev pub renamed_event : ℕ → Comes H → Comes K
  renamed_event m (goes c) = goes (renamed_as f m c)
  renamed_event m (traps c e) = traps (renamed_as f m c) e
  renamed_event m (forks c n args) = forks (renamed_as f m c) n (map (renamed_word f) args)
  renamed_event m (joins c try h) = joins (renamed_as f m c) try (f h)
  renamed_event m (ends c w) = ends (renamed_as f m c) (renamed_written f w)
  renamed_event m stuck = stuck
