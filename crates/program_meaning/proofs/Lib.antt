-- Proofs of program_meaning: the code of a program's statements does what they do, it joins as the calculus
-- does, each legal schedule of it agrees with a run of the calculus, and its outcome is the program's.
pub mod Linked
pub mod Reading
pub mod Resume
pub mod Calls
pub mod Prints
pub mod Assigning
pub mod Choosing
pub mod Forms
pub mod Programs
pub mod Starts
pub mod BehindJoins
pub mod RuleComposing
pub mod Merging
pub mod Composing
pub mod Takes
pub mod Joins
pub mod EachHandle
pub mod Legs
pub mod Through
pub mod Simulating
pub mod Agreeing
pub mod WeakerRelations
pub mod Ends
pub mod Schedules
pub mod Outcomes
