-- The merges of versioned locations: each takes the joinee's word.
use Rattle.std.specs.Prelude.{ℕ, Ok}
use Rattle.version_map.specs.Composing.{Merges}

abbrev pub versioned : Merges ℕ
versioned location main join root = Ok join
