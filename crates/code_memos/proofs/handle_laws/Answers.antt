-- Answers of handle_laws: steps commute with a renaming of handles, and so do legs and what an ended revision leaves.
use Rattle.code_memos.proofs.Reading.{legs_are_renamed, ends_are_renamed}
use Rattle.code_memos.proofs.handle_laws.Goals as goal

pub returns-clause-legs : goal.returns-clause-legs
returns-clause-legs g c = λ f code inputs share k m d. legs_are_renamed f code inputs share k m d

pub returns-clause-ends : goal.returns-clause-ends
returns-clause-ends g c = λ f code inputs share k m d l e. ends_are_renamed f code inputs share k m d l e
