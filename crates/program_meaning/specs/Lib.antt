-- Definitions of program_meaning: the code of a program's statements does what they do, it joins as the calculus
-- does, each legal schedule of it agrees with a run of the calculus, and its outcome is the program's.
pub mod Steps
pub mod StatementLaws
pub mod Composes
pub mod Related
pub mod JoinLaws
pub mod Merges
pub mod Legs
pub mod Relation
pub mod Agreement
pub mod Laws
pub mod OutcomeLaws
