-- With what a revision begins, by number and by path.
--   IsWordAt    a word of a machine stands for one of this kind, where these are the paths of the revisions by number
--   AreWordsAt  words, one by one
--   BeginsAt    what is said of a revision before its first instruction stands for that with which it begins
use Rattle.std.specs.Prelude.{◌≡◌, ℕ, List, [], ◌∷◌, Some, slice_get}
use Rattle.rev_num.specs.Path.{Path}
use Rattle.rev_num.specs.declared.value.ValueKind.{ValueKind}
use Rattle.rev_code.specs.declared.code.Code.{Code}
use Rattle.rev_code.specs.declared.code.CodeBlock.{CodeBlock}
use Rattle.rev_code.specs.Step.{params}
use Rattle.rev_code.specs.Words.{Word}
use Rattle.revision_machine.specs.Laws.{IsIn, IsDistinct}
use Rattle.revision_machine.specs.Numbered.{number_of}
use Rattle.code_soundness.specs.Typed.{location_kinds}
use Rattle.fun_run.specs.Merging.{IsOfKind}
use Rattle.code_machine.specs.Local.{of_word}
use Rattle.code_machine.specs.Renamed.{renamed_word}
use Rattle.code_memos.specs.Leaf.{Fresh}
use Rattle.code_world.specs.declared.freshness.FreshStart as rust

pub record IsWordAt (t : List Path) (kind : ValueKind) (w : Word Path) (word : ℕ) : Type 0 where
  pub is : IsOfKind kind (renamed_word (number_of t) w) word
  pub named : (q : Path) → IsIn q (of_word w) → IsIn q t

abbrev pub AreWordsAt : (t : List Path) → List ValueKind → List (Word Path) → List ℕ → Type 0
AreWordsAt t [] [] [] = Unit {0}
AreWordsAt t (k ∷ kinds) (w ∷ ws) (x ∷ xs) = IsWordAt t k w x × AreWordsAt t kinds ws xs
AreWordsAt t _ _ _ = ⊥

pub record BeginsAt (code : Code) (t : List Path) (f : Fresh Path) (x : rust.FreshStart) : Type 0 where
  pub distinct : IsDistinct t
  pub block : x.block ≡ f.block
  pub body : CodeBlock
  pub is : slice_get code.blocks f.block ≡ Some body
  pub args : AreWordsAt t (params body) f.args x.args.items
  pub base : AreWordsAt t (location_kinds code.vars) f.snapshot x.base.items
  pub fuel : x.fuel ≡ f.fuel
