-- Each text that is not too long has one finding.
use Rattle.std.proofs.Common.{◌≡◌, ◌∙◌, ◌≤◌, ℕ, List, length, refl, sym, subst, ap, inl, inr}
use Rattle.std.specs.Prelude.{Option, Some, None, Result, Ok, Err}
use Rattle.rev_syntax.specs.Trees.{ProgramTree}
use Rattle.rev_syntax.specs.Small.{IsSmall}
use Rattle.rev_syntax.specs.Tokens.{IsTokens, IsFirstFault}
use Rattle.rev_syntax.specs.declared.token.Token.{Token}
use Rattle.rev_syntax.specs.declared.scan.LexFault.{LexFault}
use Rattle.rev_syntax.proofs.Unique.{one-list, one-fault, no-fault, some-reading, Reading}
use Rattle.rev_parse.specs.Verdicts.{Verdict, tree, unexpected, too_deep, IsVerdict}
use Rattle.rev_parse.proofs.OneVerdict.{one_verdict}
use Rattle.rev_parse.proofs.SomeVerdict.{some_verdict}
use Rattle.rev_parse.proofs.SmallPrograms.{program_small}
use Rattle.typed_programs.specs.declared.fun_fault.MergeFault.{MergeFault}
use Rattle.typed_programs.specs.declared.fault.TypeFault.{TypeFault}
use Rattle.typed_programs.proofs.Accepting.{accepts}
use Rattle.static_rules.specs.Front.{Outcome, fault_in}
use Rattle.static_rules.specs.Front as outcome
use Rattle.static_rules.proofs.FunFaults.{funs_kept}
use Rattle.static_rules.specs.Breaks.{BreaksNone}
use Rattle.static_rules.proofs.Fronts.{has_one, none_broken, typed_where_none}
use Rattle.rev_report.specs.declared.refusal.Refusal.{Refusal}
use Rattle.mode_reports.specs.declared.sizes.TheConstants.{SOURCE_LIMIT as source_limit}
use Rattle.mode_reports.specs.Stages.{Onward}
use Rattle.mode_reports.specs.Texts.{Checks, ChecksTokens, ChecksTree, Cuts, KeepsFuns, KeepsTypes, reading}
use Rattle.rev_top.specs.Findings.{Finding, lexical, syntax, of_funs, of_rules, accepted, HasVerdict, IsSyntaxFault, IsFinding, IsReady, HasOneFinding, FrontEnd}

module _ (text : List ℕ) (short : length text ≤ source_limit) where
  one_of_verdicts : (v w : Verdict) → HasVerdict text v → HasVerdict text w → v ≡ w
  one_of_verdicts v w h k =
      let e = one-list text h.tokens k.tokens h.cut k.cut in
      one_verdict text k.tokens v w (subst (λ (ts : List Token). IsVerdict text ts v) e h.verdict) k.verdict

  one_tree : (p q : ProgramTree) → HasVerdict text (tree p) → HasVerdict text (tree q) → q ≡ p
  one_tree p q h k = let e : tree q ≡ tree p = one_of_verdicts (tree q) (tree p) k h in cc

  no_tokens : {X : Type 0} (f : LexFault) (v : Verdict) → IsFirstFault text f → HasVerdict text v → X
  no_tokens f v h k = absurd (no-fault text k.tokens f k.cut h)

  no_tree : {X : Type 0} (v : Verdict) (p : ProgramTree) → HasVerdict text v → IsSyntaxFault v
      → HasVerdict text (tree p) → X
  no_tree v p h is k = absurd (subst (λ (w : Verdict). IsSyntaxFault w) (one_of_verdicts v (tree p) h k) is)

  small : (p : ProgramTree) → HasVerdict text (tree p) → IsSmall p
  small p h = program_small text h.tokens p h.verdict h.cut short

  -- a finding of which each other is the same
  record IsOnly : Type 0 where
    finding : Finding
    found : IsFinding text finding
    each : (a : Finding) → IsFinding text a → a ≡ finding

  -- ---- a fault of the tokens

  at_lexical : (f : LexFault) → IsFirstFault text f → (a : Finding) → IsFinding text a → a ≡ lexical f
  at_lexical f h (lexical g) k = ap (λ (x : LexFault). lexical x) (one-fault text g f k h)
  at_lexical f h (syntax v) k = no_tokens f v h k.0
  at_lexical f h (of_funs p g) k = no_tokens f (tree p) h k.0
  at_lexical f h (of_rules p g) k = no_tokens f (tree p) h k.0
  at_lexical f h (accepted p) k = no_tokens f (tree p) h k.0

  -- ---- a fault of the syntax

  at_syntax : (v : Verdict) → HasVerdict text v → IsSyntaxFault v → (a : Finding) → IsFinding text a → a ≡ syntax v
  at_syntax v h is (lexical g) k = no_tokens g v k h
  at_syntax v h is (syntax w) k = ap (λ (x : Verdict). syntax x) (one_of_verdicts w v k.0 h)
  at_syntax v h is (of_funs p g) k = no_tree v p h is k.0
  at_syntax v h is (of_rules p g) k = no_tree v p h is k.0
  at_syntax v h is (accepted p) k = no_tree v p h is k.0

  -- ---- a tree

  finding_by : ProgramTree → Option MergeFault × Option TypeFault → Finding
  finding_by p (Some f, g) = of_funs p f
  finding_by p (None, Some g) = of_rules p g
  finding_by p (None, None) = accepted p

  found_by : (p : ProgramTree) → HasVerdict text (tree p) → (o : Outcome p)
      → IsFinding text (finding_by p (fault_in p o))
  unfolding finding_by
  found_by p h (outcome.of_funs f k) = (h, k)
  found_by p h (outcome.accepted kept k) = (h, kept, k)
  found_by p h (outcome.of_types kept f k) = (h, kept, k)

  module _ (p : ProgramTree) (h : HasVerdict text (tree p)) (o : Outcome p) where
    same_outcome : (x : Outcome p) → finding_by p (fault_in p x) ≡ finding_by p (fault_in p o)
    same_outcome x = ap (λ (y : Option MergeFault × Option TypeFault). finding_by p y) ((has_one p (small p h)).one x o)

    -- the finding of a program that is this one
    of_this : (a : Finding) → IsFinding text a → a ≡ finding_by p (fault_in p o)
    unfolding finding_by
    of_this (lexical g) k = no_tokens g (tree p) k h
    of_this (syntax v) k = no_tree v p k.0 k.1 h
    of_this (of_funs q g) k =
        subst (λ (r : ProgramTree). IsFinding text (of_funs r g) → of_funs r g ≡ finding_by p (fault_in p o))
        (sym (one_tree p q h k.0)) (λ l. same_outcome (outcome.of_funs g l.1)) k
    of_this (of_rules q g) k =
        subst (λ (r : ProgramTree). IsFinding text (of_rules r g) → of_rules r g ≡ finding_by p (fault_in p o))
        (sym (one_tree p q h k.0)) (λ l. same_outcome (outcome.of_types l.1 g l.2)) k
    of_this (accepted q) k =
        subst (λ (r : ProgramTree). IsFinding text (accepted r) → accepted r ≡ finding_by p (fault_in p o))
        (sym (one_tree p q h k.0)) (λ l. same_outcome (outcome.accepted l.1 l.2)) k

  -- ---- all cases

  of_verdict : (v : Verdict) → HasVerdict text v → IsOnly
  of_verdict (tree p) h =
      let o = (has_one p (small p h)).outcome in
      record { finding = finding_by p (fault_in p o); found = found_by p h o; each = of_this p h o }
  of_verdict (unexpected at) h =
      record { finding = syntax (unexpected at); found = (h, tt); each = at_syntax (unexpected at) h tt }
  of_verdict (too_deep at) h =
      record { finding = syntax (too_deep at); found = (h, tt); each = at_syntax (too_deep at) h tt }

  of_reading : Reading text → IsOnly
  of_reading (inl h) =
      let v = some_verdict text h.0 in of_verdict v.0 (record { tokens = h.0; cut = h.1; verdict = v.1 })
  of_reading (inr h) = record { finding = lexical h.0; found = h.1; each = at_lexical h.0 h.1 }

  -- ---- what is accepted

  is_ready : (p : ProgramTree) → IsFinding text (accepted p) → IsReady p
  is_ready p h = record { small = small p h.0; funs = (funs_kept p).1 h.1; rules = accepts p h.2 }

  of_kept : (ts : List Token) (p q : ProgramTree) → IsTokens text ts → IsVerdict text ts (tree p)
      → (a : Result ProgramTree Refusal) → KeepsFuns text p a → Onward (KeepsTypes text) a (Ok q)
      → IsFinding text (accepted q)
  of_kept ts p q cut v (Ok r) h k =
      let e : q ≡ p = k.0 ∙ h.0 in
      let d : r ≡ p = h.0 in
      subst (λ (x : ProgramTree). IsFinding text (accepted x)) (sym e)
      (let here : HasVerdict text (tree p) = record { tokens = ts; cut = cut; verdict = v } in
      (here, h.1, (typed_where_none p (small p here) h.1).0 (subst (λ (x : ProgramTree). BreaksNone x) d k.1)))
  of_kept ts p q cut v (Err f) h k = cc

  of_read : (ts : List Token) (q : ProgramTree) → IsTokens text ts → (v : Verdict) → IsVerdict text ts v
      → Onward (ChecksTree text) (reading text v) (Ok q) → IsFinding text (accepted q)
  of_read ts q cut (tree p) v k = of_kept ts p q cut v k.0 k.1 k.2
  of_read ts q cut (unexpected at) v k = cc
  of_read ts q cut (too_deep at) v k = cc

  of_cut : (q : ProgramTree) (c : Result (List Token) Refusal) → Cuts text c → Onward (ChecksTokens text) c (Ok q)
      → IsFinding text (accepted q)
  of_cut q (Ok ts) cut k =
      of_read ts q cut k.1.0 k.1.1
      (subst (λ (a : Result ProgramTree Refusal). Onward (ChecksTree text) a (Ok q)) k.1.2 k.2)
  of_cut q (Err f) cut k = cc

  of_check : (q : ProgramTree) → Checks text (Ok q) → IsFinding text (accepted q)
  unfolding Checks
  of_check q h = of_cut q h.0 h.1 h.2

  to_check : (q : ProgramTree) → IsFinding text (accepted q) → Checks text (Ok q)
  unfolding Checks
  to_check q h =
      (Ok h.0.tokens, h.0.cut, (Ok q, (tree q, h.0.verdict, refl), (Ok q, (refl, h.1), (refl, none_broken q h.2))))

  front : HasOneFinding text
  front =
      let one = of_reading (some-reading text) in
      record {
        finding = one.finding;
        found = one.found;
        only = λ a b h k. one.each a h ∙ sym (one.each b k);
        same = λ p. (of_check p, to_check p);
        ready = is_ready;
      }

pub front_end : FrontEnd
front_end text short = front text short
