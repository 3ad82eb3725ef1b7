-- The names of a merge's parameters, as they lie in a text.
use Rattle.merge_kernels.specs.Closing.{Names}
use Rattle.merge_kernels.specs.declared.parameters.Parameters.{Parameters}

abbrev pub names_of : Parameters → Names
names_of p = record { main = p.main.now; join = p.join.now; root = p.root.now }
