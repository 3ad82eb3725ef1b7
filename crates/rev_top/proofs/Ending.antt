-- How a call ends whose run wrote to `out` as it ran, and how a refusal is delivered.
use Rattle.std.proofs.Common.{◌≡◌, ℕ, List, Ok, Err, inl, inr, sym, subst}
use Rattle.std.specs.Prelude.{IfOk, Result}
use Rattle.rev_io.specs.Stream.{Stream, Rose, Took, TookSome}
use Rattle.rev_io.specs.declared.SinkFault.TheVariants as sink
use Rattle.rev_io.proofs.Whole.{all_taken}
use Rattle.rev_report.specs.Refusals.{no_memory, refused as written, shown}
use Rattle.rev_report.specs.declared.refusal.Refusal.{Refusal}
use Rattle.rev_report.specs.Report.{Output, output}
use Rattle.rev_report.specs.declared.report.Report.{Report}
use Rattle.rev_report.specs.Status.{no_memory_status, write_fault_status}
use Rattle.rev_top.specs.Delivery.{Delivered, NoReport, all_written, err_failed, no_room_at_err, no_room_at_out, out_failed}
use Rattle.rev_top.specs.Streaming.{DeliversRefusal}
use Rattle.mode_reports.specs.declared.stop.Stop.{Stop}
use Rattle.mode_reports.specs.declared.stop.Stop.TheVariants as stops

module _ (o : Output) (old new err err' : Stream) (took : Took old o.out new) where
  pub wrote : (bytes : List ℕ) → bytes ≡ o.err → (status : ℕ) → status ≡ o.status → Took err bytes err'
      → Delivered o old new err err' status
  wrote bytes e status s h = all_written (record { ends = s; on_out = took; on_err = subst (λ b. Took err b err') e h })

  pub failed : (bytes : List ℕ) → bytes ≡ o.err → (status : ℕ) → status ≡ write_fault_status → Rose err err'
      → TookSome err bytes err' → Delivered o old new err err' status
  failed bytes e status s rose h =
      err_failed s (record { on_out = took; rose = rose; part = subst (λ b. TookSome err b err') e h })

  pub cut : (bytes : List ℕ) → bytes ≡ o.err → (status : ℕ) → status ≡ no_memory_status → err'.faults ≡ err.faults
      → TookSome err bytes err' → Delivered o old new err err' status
  cut bytes e status s calm h =
      no_room_at_err s (record { on_out = took; calm = calm; part = subst (λ b. TookSome err b err') e h })

  -- no memory for the report behind the run
  pub no_report : (status : ℕ) → status ≡ no_memory_status → TookSome err no_memory err'
      → Delivered o old new err err' status
  no_report status s h =
      no_room_at_out s (record { calm = took.calm; part = all_taken old new o.out took; message = h })

module _ (o : Output) (old new err err' : Stream) (part : TookSome old o.out new) where
  pub fails : (status : ℕ) → status ≡ write_fault_status → Rose old new → err' ≡ err
      → Delivered o old new err err' status
  fails status s rose same = out_failed s (record { rose = rose; part = part; untouched = same })

  pub no_room : (status : ℕ) → status ≡ no_memory_status → new.faults ≡ old.faults → TookSome err no_memory err'
      → Delivered o old new err err' status
  no_room status s calm h = no_room_at_out s (record { calm = calm; part = part; message = h })

-- ---- a refusal

-- the report that is made of it
pub report_made : {X : Type 0} (e : Stop) (f : Refusal) → e ≡ stops.Refused f → (r : Result Report X)
    → IfOk r (λ x. output x ≡ written f)
    → IfOk r (λ x. (g : Refusal) × (e ≡ stops.Refused g) × (output x ≡ shown (Err g)))
report_made e f is (Ok x) h = (f, is, h)
report_made e f is (Err x) h = tt

module _ (e : Stop) {out out' err err' : Stream} {status : ℕ} where
  pub refusal_delivered : (f : Refusal) → e ≡ stops.Refused f → (o : Output) → o ≡ shown (Err f)
      → Delivered o out out' err err' status
      → DeliversRefusal e out out' err err' status
  refusal_delivered f is o same d =
      subst (λ (x : Stop). DeliversRefusal x out out' err err' status) (sym is)
      (inl (subst (λ (x : Output). Delivered x out out' err err' status) same d))

  pub refusal_lost : status ≡ no_memory_status → NoReport out out' err err' → DeliversRefusal e out out' err err' status
  refusal_lost s n = go e
    where
      go : (x : Stop) → DeliversRefusal x out out' err err' status
      go (stops.Refused f) = inr (s, n)
      go stops.OutOfMemory = (s, n)
