-- Proofs of code_world: a world of revisions that run code, on one thread: its start, its legs, also with notes
-- of what they read, ends that are taken over, what `main` has printed and what it left.
pub mod Coming
pub mod Rows
pub mod Finding
pub mod Turning
pub mod Worlds
pub mod Beginning
pub mod Ended
pub mod Listed
pub mod Touching
pub mod Saying
pub mod AdoptedEnds
pub mod Begun
pub mod HasRead
