-- What a seat has done to the core, without its own number: the steps but Put, which stands in what
-- the view says of the segment that it builds.
--   acts s         what the step s does
--   acts_of i ss   what the holder i does in the steps ss
use Rattle.std.proofs.Common.{◌≡◌, ℕ, zero, suc, List, [], ◌∷◌, ◌++◌, cond, eqb, refl, sym, ap, ◌∙◌}
use base.Stored.{Coded, coded×, coded_ℕ, coded_via}
use Rattle.seg_core.specs.Steps as core

pub data Act : Type 0 where
  claim : ℕ → Act
  publish : ℕ → Act
  share : ℕ → Act
  hand_on : ℕ → Act
  release : ℕ → Act
  collapse : ℕ → Act

-- a number for the kind, and the segment
abbrev pub kind : Act → ℕ × ℕ
kind (claim c) = (0, c)
kind (publish c) = (1, c)
kind (share c) = (2, c)
kind (hand_on c) = (3, c)
kind (release c) = (4, c)
kind (collapse c) = (5, c)

abbrev pub of_kind : ℕ → ℕ → Act
of_kind zero c = claim c
of_kind (suc zero) c = publish c
of_kind (suc (suc zero)) c = share c
of_kind (suc (suc (suc zero))) c = hand_on c
of_kind (suc (suc (suc (suc zero)))) c = release c
of_kind (suc (suc (suc (suc (suc n))))) c = collapse c

pub kind_back : (a : Act) → of_kind (kind a).0 (kind a).1 ≡ a
kind_back (claim c) = refl
kind_back (publish c) = refl
kind_back (share c) = refl
kind_back (hand_on c) = refl
kind_back (release c) = refl
kind_back (collapse c) = refl

abbrev pub act_coded : Coded Act
act_coded = coded_via (coded× coded_ℕ coded_ℕ) kind (λ x y e. sym (kind_back x)
    ∙ (ap (λ (p : ℕ × ℕ). of_kind p.0 p.1) e ∙ kind_back y))

abbrev pub acts : core.CoreStep → List Act
acts (core.claim h c) = claim c ∷ []
acts (core.put h c l w) = []
acts (core.publish h c) = publish c ∷ []
acts (core.share h c) = share c ∷ []
acts (core.hand_on h c to) = hand_on c ∷ []
acts (core.release h c) = release c ∷ []
acts (core.collapse h c) = collapse c ∷ []

abbrev pub acts_of : ℕ → List core.CoreStep → List Act
acts_of i [] = []
acts_of i (s ∷ ss) = cond (eqb (core.holder s) i) (acts s ++ acts_of i ss) (acts_of i ss)
