-- A revision that makes a leg has a note.
use Rattle.std.proofs.Common.{◌≡◌, ℕ, ◌<◌, List, length, arith}
use Rattle.revision_machine.specs.Machine.{Plain}
use Rattle.revision_machine.specs.Numbered.{Entries, World, Both, Listing}
use Rattle.code_machine.specs.Local.{CodeRun, Local, Phase}
use Rattle.code_world.specs.declared.answer.LegAnswer.{LegAnswer}
use Rattle.code_world.specs.declared.answer.LegAnswer.TheVariants as answer
use Rattle.code_world.specs.declared.world.World as rust
use Rattle.code_world.specs.Answers.{IsInPhase, LegAnswers}
use Rattle.revision_machine.proofs.Lists.{at_below}
use Rattle.world_runs.specs.declared.noted.Noted.{Noted}
use Rattle.world_runs.specs.Notes.{NotesOf}

in_phase_below : (u : Entries (Local ℕ)) (n : ℕ) (p : Phase ℕ) → IsInPhase u n p → n < length u
in_phase_below u n p (r, l, at, is) = at_below u n (r, Plain l) at

module _ (g : CodeRun) where
  pub below_forked : (w : World (Local ℕ)) (n k : ℕ) (v : rust.World) → LegAnswers g w n (answer.Forked k) v
      → (ns : List Noted) → NotesOf g w ns → n < length ns
  below_forked Both n k v (e, is) ns noted =
      absurd (let z : ◌≡◌ {A = LegAnswer} (answer.Forked k) answer.Twice = e in cc)
  below_forked (Listing w) n k v (t, is, (u, leaves, (r, l, f, b, at, bears), number, phase, many)) ns noted =
      let a = at_below w n (r, Plain l) at in let count = noted.count in omega (arith, a, count)

  pub below_joined : (w : World (Local ℕ)) (n k : ℕ) (v : rust.World) → LegAnswers g w n (answer.Joined k) v
      → (ns : List Noted) → NotesOf g w ns → n < length ns
  below_joined Both n k v (e, is) ns noted =
      absurd (let z : ◌≡◌ {A = LegAnswer} (answer.Joined k) answer.Twice = e in cc)
  below_joined (Listing w) n k v (t, is, (u, leaves, (r, l, at, wants), phase, many)) ns noted =
      let a = at_below w n (r, Plain l) at in let count = noted.count in omega (arith, a, count)

  pub below_ended : (w : World (Local ℕ)) (n : ℕ) (v : rust.World) → LegAnswers g w n answer.Ended v → (ns : List Noted)
      → NotesOf g w ns → n < length ns
  below_ended Both n v (e, is) ns noted = absurd (let z : ◌≡◌ {A = LegAnswer} answer.Ended answer.Twice = e in cc)
  below_ended (Listing w) n v (t, is, (u, leaves, phase, many)) ns noted =
      let a = in_phase_below u n _ phase in let count = noted.count in omega (arith, a, count, many)

  pub below_trapped : (w : World (Local ℕ)) (n : ℕ) (v : rust.World) → LegAnswers g w n answer.Trapped v
      → (ns : List Noted) → NotesOf g w ns → n < length ns
  below_trapped Both n v (e, is) ns noted = absurd (let z : ◌≡◌ {A = LegAnswer} answer.Trapped answer.Twice = e in cc)
  below_trapped (Listing w) n v (t, is, (u, leaves, e, phase, many)) ns noted =
      let a = in_phase_below u n _ phase in let count = noted.count in omega (arith, a, count, many)
