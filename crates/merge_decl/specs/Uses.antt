-- What a contract sees of collected applications.
use Rattle.std.specs.Prelude.{List, map}
use Rattle.rev_syntax.specs.View.{placed_name}
use Rattle.merge_decl.specs.declared.uses.Use as held
use Rattle.typed_programs.specs.FunRules.{Use}

abbrev pub use_of : held.Use → Use
use_of u = record { name = placed_name u.name.now; args = u.args; within = u.within }

abbrev pub uses_of : List held.Use → List Use
uses_of us = map use_of us
