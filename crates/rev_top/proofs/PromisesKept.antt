-- Each promise of the top call follows from what happened.
use Rattle.std.proofs.Common.{◌≡◌, ◌∙◌, sym, subst, List, [], ℕ, ◌<◌, ◌+◌, ◌++◌, ◌⊎◌, inl, inr, arith, true, ap, length, rules}
use Rattle.std.proofs.lemmas.List.{take_all}
use Rattle.std.specs.Prelude.{Option, Some, None, is_some}
use Rattle.rev_io.specs.Stream.{Stream, GaveAtMost, Rose, Took, TookSome}
use Rattle.rev_words.specs.Reading.{reading}
use Rattle.rev_words.specs.declared.Words.{Words}
use Rattle.rev_report.specs.Refusals.{shown}
use Rattle.mode_reports.specs.Answer.{Answer, Answers, Takes, reads}
use Rattle.thread_runs.specs.declared.ran.Ran.{Ran}
use Rattle.rev_top.specs.Delivery.{Wrote, all_written, err_failed, no_room_at_err, no_room_at_out, out_failed}
use Rattle.rev_top.specs.Promises.{Calm, Cut, Feeds, IsPartOf, IsRefused, IsWritten, Keeps}
use Rattle.rev_top.specs.Rans.{Happened, answered, no_report}
use Rattle.rev_top.proofs.Answering.{Why, answer_to, at_most_5, failed, out_of, plain, unread, why}
use Rattle.rev_top.proofs.OneAnswers.{one_answer_to}
use Rattle.rev_top.proofs.Writing.{written}

has_none : (w : Option Words) → is_some w ≡ true → w ≡ None → ⊥
has_none None some none = cc
has_none (Some w) some none = cc

unread_of : (r : Option ℕ) (old new : Stream) → Takes r old new → r ≡ None → new ≡ old
unread_of None old new h is = h
unread_of (Some limit) old new h is = cc

most_of : (r : Option ℕ) (old new : Stream) → Takes r old new → (limit : ℕ) → r ≡ Some limit
    → GaveAtMost (limit + 1) old new
most_of None old new h limit is = cc
most_of (Some most) old new h limit is =
    let same : most ≡ limit = cc in subst (λ (n : ℕ). GaveAtMost (n + 1) old new) same h

-- what took all took a first part, and so did what took nothing
some_of : (old new : Stream) (bytes : List ℕ) → Took old bytes new → TookSome old bytes new
some_of old new bytes h held told = (
  length bytes,
  h.told held told ∙ ap (λ (t : List ℕ). Some (held ++ t)) (sym (take_all (length bytes) bytes (omega arith))),
)

none_of : (old new : Stream) (bytes : List ℕ) → new ≡ old → TookSome old bytes new
none_of old new bytes same held told = (0, ap (λ (x : Stream). x.told) same ∙ told ∙ grind rules)

-- the status with its cause: the words and the source, a sink, or memory
abbrev Causes : Option Words → Stream → Stream → Type 0 → ℕ → Type 0
Causes w old new Sinks status = Why w old new status ⊎ (((status ≡ 6) × Sinks) ⊎ (status ≡ 7))

module _ (w : Option Words) (old new : Stream) (Sinks : Type 0) (status : ℕ) where
  usage_of : Causes w old new Sinks status → status ≡ 4 → w ≡ None
  usage_of (inl (unread none is)) at = none
  usage_of (inl (failed a b c is)) at = absurd (omega arith)
  usage_of (inl (plain a b most)) at = absurd (omega arith)
  usage_of (inr (inl both)) at = absurd (omega (arith, both.0))
  usage_of (inr (inr is)) at = absurd (omega arith)

  no_reading_of : Causes w old new Sinks status → w ≡ None → (status ≡ 4) ⊎ Cut status
  no_reading_of (inl (unread a is)) none = inl is
  no_reading_of (inl (failed some b c is)) none = absurd (has_none w some none)
  no_reading_of (inl (plain some b most)) none = absurd (has_none w some none)
  no_reading_of (inr (inl both)) none = inr (inl both.0)
  no_reading_of (inr (inr is)) none = inr (inr is)

  read_fault_of : Causes w old new Sinks status → status ≡ 5 → (reads w ≡ None → ⊥) × Rose old new
  read_fault_of (inl (unread none is)) at = absurd (omega arith)
  read_fault_of (inl (failed a read rose is)) at = (read, rose)
  read_fault_of (inl (plain a b most)) at = absurd (omega arith)
  read_fault_of (inr (inl both)) at = absurd (omega (arith, both.0))
  read_fault_of (inr (inr is)) at = absurd (omega arith)

  source_failed_of : (w ≡ None → new ≡ old) → Causes w old new Sinks status → old.faults < new.faults
      → (status ≡ 5) ⊎ Cut status
  source_failed_of same (inl (unread none is)) rose = absurd (omega (arith, ap (λ (x : Stream). x.faults) (same none)))
  source_failed_of same (inl (failed a b c is)) rose = inl is
  source_failed_of same (inl (plain a calm most)) rose = absurd (omega arith)
  source_failed_of same (inr (inl both)) rose = inr (inl both.0)
  source_failed_of same (inr (inr is)) rose = inr (inr is)

  write_fault_of : Causes w old new Sinks status → status ≡ 6 → Sinks
  write_fault_of (inl y) at = absurd (omega (arith, at_most_5 w old new status y))
  write_fault_of (inr (inl both)) at = both.1
  write_fault_of (inr (inr is)) at = absurd (omega arith)

module _ (w : Option Words) (source source' out out' err err' : Stream) (ran : Option Ran) (status : ℕ) where
  causes : Happened w source source' out out' err err' ran status
      → Causes w source source' (Rose out out' ⊎ Rose err err') status
  causes (answered a h l (all_written wrote)) =
      inl (subst (λ (n : ℕ). Why w source source' n) (sym wrote.ends) (why w source source' a h))
  causes (answered a h l (out_failed is d)) = inr (inl (is, inl d.rose))
  causes (answered a h l (err_failed is d)) = inr (inl (is, inr d.rose))
  causes (answered a h l (no_room_at_out is d)) = inr (inr is)
  causes (answered a h l (no_room_at_err is d)) = inr (inr is)
  causes (no_report is none d) = inr (inr is)

  -- what was written where nothing cut it short
  written_of : Happened w source source' out out' err err' ran status → (Cut status → ⊥)
      → (a : Answer) × Answers w source source' a × Wrote (shown a) out out' err err' status
  written_of (answered a h l (all_written wrote)) whole = (a, h, wrote)
  written_of (answered a h l (out_failed is d)) whole = absurd (whole (inl is))
  written_of (answered a h l (err_failed is d)) whole = absurd (whole (inl is))
  written_of (answered a h l (no_room_at_out is d)) whole = absurd (whole (inr is))
  written_of (answered a h l (no_room_at_err is d)) whole = absurd (whole (inr is))
  written_of (no_report is none d) whole = absurd (whole (inr is))

  -- where nothing failed, no sink cut the answer short
  not_cut : Happened w source source' out out' err err' ran status → Calm out out' err err' status → Cut status → ⊥
  not_cut h calm (inl is) = go (write_fault_of w source source' (Rose out out' ⊎ Rose err err') status (causes h) is)
    where
      go : Rose out out' ⊎ Rose err err' → ⊥
      go (inl rose) = calm.wrote rose
      go (inr rose) = calm.told rose
  not_cut h calm (inr is) = calm.room is

  headline_of : Happened w source source' out out' err err' ran status → Calm out out' err err' status
      → (all : List ℕ) → Feeds (reads w) source source' all → IsWritten w all out out' err err' status
  headline_of h calm all fed =
      let one = written_of h (not_cut h calm) in
      record {
        output = shown one.0;
        writes = written w all one.0 (answer_to w source source' one.0 one.1 all fed);
        wrote = one.2;
      }

  out_failed_of : Happened w source source' out out' err err' ran status → out.faults < out'.faults → status ≡ 6
  out_failed_of (answered a h l (all_written wrote)) rose = absurd (omega (arith, wrote.on_out.calm))
  out_failed_of (answered a h l (out_failed is d)) rose = is
  out_failed_of (answered a h l (err_failed is d)) rose = is
  out_failed_of (answered a h l (no_room_at_out is d)) rose = absurd (omega (arith, d.calm))
  out_failed_of (answered a h l (no_room_at_err is d)) rose = absurd (omega (arith, d.on_out.calm))
  out_failed_of (no_report is none d) rose = absurd (omega (arith, ap (λ (x : Stream). x.faults) d.untouched))

  err_failed_of : Happened w source source' out out' err err' ran status → err.faults < err'.faults → Cut status
  err_failed_of (answered a h l (all_written wrote)) rose = absurd (omega (arith, wrote.on_err.calm))
  err_failed_of (answered a h l (out_failed is d)) rose = inl is
  err_failed_of (answered a h l (err_failed is d)) rose = inl is
  err_failed_of (answered a h l (no_room_at_out is d)) rose = inr is
  err_failed_of (answered a h l (no_room_at_err is d)) rose = inr is
  err_failed_of (no_report is none d) rose = inr is

  uncut : IsRefused status → Cut status → ⊥
  uncut (inl two) (inl six) = absurd (omega arith)
  uncut (inl two) (inr seven) = absurd (omega arith)
  uncut (inr (inl four)) (inl six) = absurd (omega arith)
  uncut (inr (inl four)) (inr seven) = absurd (omega arith)
  uncut (inr (inr five)) (inl six) = absurd (omega arith)
  uncut (inr (inr five)) (inr seven) = absurd (omega arith)

  refusal_of : Happened w source source' out out' err err' ran status → IsRefused status → Took out [] out'
  refusal_of h refused =
      let one = written_of h (uncut refused) in
      subst (λ (bytes : List ℕ). Took out bytes out')
      (out_of w source source' one.0 one.1 (subst (λ (n : ℕ). IsRefused n) one.2.ends refused)) one.2.on_out

-- a first part of an answer, where memory ran out
module _ (texts : List (List ℕ)) (source source' out out' err err' : Stream) (ran : Option Ran) (status : ℕ) where
  no_room_of : Happened (reading texts) source source' out out' err err' ran status → status ≡ 7 → (all : List ℕ)
      → Feeds (reads (reading texts)) source source' all
      → IsPartOf (reading texts) all out out' err err'
  no_room_of (answered a h l (all_written wrote)) at all fed =
      absurd (omega (
        arith,
        wrote.ends,
        at_most_5 (reading texts) source source' (shown a).status (why (reading texts) source source' a h),
      ))
  no_room_of (answered a h l (out_failed is d)) at all fed = absurd (omega arith)
  no_room_of (answered a h l (err_failed is d)) at all fed = absurd (omega arith)
  no_room_of (answered a h l (no_room_at_out is d)) at all fed =
      record {
        answer = a;
        says = answer_to (reading texts) source source' a h all fed;
        on_out = d.part;
        on_err = inr d.message;
      }
  no_room_of (answered a h l (no_room_at_err is d)) at all fed =
      record {
        answer = a;
        says = answer_to (reading texts) source source' a h all fed;
        on_out = some_of out out' (shown a).out d.on_out;
        on_err = inl d.part;
      }
  no_room_of (no_report is none d) at all fed =
      let one = one_answer_to texts all in
      record {
        answer = one.answer;
        says = one.says;
        on_out = none_of out out' (shown one.answer).out d.untouched;
        on_err = inr d.message;
      }

pub keeps : (texts : List (List ℕ)) {source source' out out' err err' : Stream} {ran : Option Ran} {status : ℕ}
    → Happened (reading texts) source source' out out' err err' ran status
    → Takes (reads (reading texts)) source source'
    → Keeps (reading texts) source source' out out' err err' ran status
keeps texts {source} {source'} {out} {out'} {err} {err'} {ran} {status} h takes =
    let w : Option Words = reading texts in
    let cause = causes w source source' out out' err err' ran status h in
    let untouched : reads w ≡ None → source' ≡ source = unread_of (reads w) source source' takes in
    record {
      happened = h;
      headline = headline_of w source source' out out' err err' ran status h;
      usage = usage_of w source source' (Rose out out' ⊎ Rose err err') status cause;
      no_reading = no_reading_of w source source' (Rose out out' ⊎ Rose err err') status cause;
      unread = untouched;
      most_read = most_of (reads w) source source' takes;
      read_fault = read_fault_of w source source' (Rose out out' ⊎ Rose err err') status cause;
      source_failed =
          source_failed_of w source source' (Rose out out' ⊎ Rose err err') status (λ none. untouched (ap reads none))
          cause;
      write_fault = write_fault_of w source source' (Rose out out' ⊎ Rose err err') status cause;
      out_failed = out_failed_of w source source' out out' err err' ran status h;
      err_failed = err_failed_of w source source' out out' err err' ran status h;
      refusal = refusal_of w source source' out out' err err' ran status h;
      no_room = no_room_of texts source source' out out' err err' ran status h;
    }
