-- Answers of TurnHub::take_next: what is ready first has a record, and is out with the seat then.
use Rattle.std.proofs.Common.{rules, ◌≡◌, true, [], ◌∷◌, None, Some, length, sym, ap, ◌∙◌, subst, arith}
use Rattle.hub_core.specs.declared.status.Status.TheVariants.{Out}
use Rattle.hub_core.specs.declared.state.HubState.TheVariants.{All}
use Rattle.hub_core.specs.declared.deed.Deed.TheVariants.{Draws}
use Rattle.hub_core.specs.declared.desk.Desk.{Desk}
use Rattle.hub_core.specs.Chains.{IsWithin, Takes, IsAsLong}
use Rattle.hub_core.specs.Found.{is_ready}
use Rattle.hub_core.specs.Marks.{first_in}
use Rattle.hub_core.specs.Recorded.{put_record}
use Rattle.hub_core.specs.Tally.{record_at}
use Rattle.turn_hub.specs.Turns.{IsIn}
use Rattle.turn_hub.specs.Plans.{HasPlan}
use Rattle.turn_hub.proofs.Values.{same_plan, hand_same, in_same}
use Rattle.turn_hub.proofs.Draws.{can_take, draw_told, drawn, take_record, take_ready, take_rests, take_within, take_hand, take_ran, take_retried, none_says, idle_says, finished_says}
use Rattle.turn_hub.proofs.hub.TurnHub.take_next.Goals as goal

pub carry_out-desk-requires-clause-can : goal.carry_out-desk-requires-clause-can
carry_out-desk-requires-clause-can g c =
    let m = g.L.Revision.machine in
    let ends = g.L.Revision.ends in
    let v = c.args.place.now.me.0 in
    let old = c.args.desk.value in
    let held = c.deref_mut-held.result.now in
    let n = c.in-Some.number in
    let desk = record held { plan = c.plan_draw.new.plan } in
    let same = same_plan old held c.plan_draw.new.plan c.deref_mut-held.ensures.value in
    let hand = hand_same m ends v old desk c.requires.told.1.hand same in
    let free : desk.state ≡ All = same.state ∙ c.requires.free in
    let first : first_in desk.records.queue.ready ≡ Some n = sym c.first_ready.ensures ∙ c.in-Some.is in
    let plan : HasPlan desk (Draws n ∷ []) None None = c.plan_draw.ensures in
    can_take m ends v desk hand free n first plan

pub take-requires : goal.take-requires
take-requires g c =
    let m = g.L.Revision.machine in
    let ends = g.L.Revision.ends in
    let v = c.args.place.now.me.0 in
    let old = c.args.desk.value in
    let held = c.deref_mut-held.result.now in
    let n = c.in-Some.number in
    let desk = record held { plan = c.plan_draw.new.plan } in
    let same = same_plan old held c.plan_draw.new.plan c.deref_mut-held.ensures.value in
    let hand = hand_same m ends v old desk c.requires.told.1.hand same in
    let free : desk.state ≡ All = same.state ∙ c.requires.free in
    let first : first_in desk.records.queue.ready ≡ Some n = sym c.first_ready.ensures ∙ c.in-Some.is in
    let plan : HasPlan desk (Draws n ∷ []) None None = c.plan_draw.ensures in
    let w = c.carry_out-desk.new.place.me.0 in
    let tally = c.carry_out-desk.result.1 in
    let entered = c.carry_out-desk.ensures.entered in
    let is : c.deref_mut-last.result.now ≡ desk =
    c.deref_mut-last.ensures.value ∙ ap (λ x. x.value) c.carry_out-desk.ensures.same in
    subst (λ (z : Desk _ _ _). IsWithin z.records.queue.ready (length z.records.queue.links.items)) (sym is)
    (take_within m ends v desk hand free n first w tally plan entered)

pub exchange-requires : goal.exchange-requires
exchange-requires g c =
    let m = g.L.Revision.machine in
    let ends = g.L.Revision.ends in
    let v = c.args.place.now.me.0 in
    let old = c.args.desk.value in
    let held = c.deref_mut-held.result.now in
    let n = c.in-Some.number in
    let desk = record held { plan = c.plan_draw.new.plan } in
    let same = same_plan old held c.plan_draw.new.plan c.deref_mut-held.ensures.value in
    let hand = hand_same m ends v old desk c.requires.told.1.hand same in
    let free : desk.state ≡ All = same.state ∙ c.requires.free in
    let first : first_in desk.records.queue.ready ≡ Some n = sym c.first_ready.ensures ∙ c.in-Some.is in
    let plan : HasPlan desk (Draws n ∷ []) None None = c.plan_draw.ensures in
    let w = c.carry_out-desk.new.place.me.0 in
    let tally = c.carry_out-desk.result.1 in
    let entered = c.carry_out-desk.ensures.entered in
    let is : c.deref_mut-last.result.now ≡ desk =
    c.deref_mut-last.ensures.value ∙ ap (λ x. x.value) c.carry_out-desk.ensures.same in (
      (drawn m ends v desk hand free n first w tally plan entered).0,
      ap (λ z. record_at z.records.list.items n) is ∙
          take_record m ends v desk hand free n first w tally plan entered,
    )

pub put_home-requires-in-Ready-clause-hand : goal.put_home-requires-in-Ready-clause-hand
put_home-requires-in-Ready-clause-hand g c =
    let m = g.L.Revision.machine in
    let ends = g.L.Revision.ends in
    let v = c.args.place.now.me.0 in
    let old = c.args.desk.value in
    let held = c.deref_mut-held.result.now in
    let n = c.in-Some.number in
    let desk = record held { plan = c.plan_draw.new.plan } in
    let same = same_plan old held c.plan_draw.new.plan c.deref_mut-held.ensures.value in
    let hand = hand_same m ends v old desk c.requires.told.1.hand same in
    let free : desk.state ≡ All = same.state ∙ c.requires.free in
    let first : first_in desk.records.queue.ready ≡ Some n = sym c.first_ready.ensures ∙ c.in-Some.is in
    let plan : HasPlan desk (Draws n ∷ []) None None = c.plan_draw.ensures in
    let w = c.carry_out-desk.new.place.me.0 in
    let tally = c.carry_out-desk.result.1 in
    let entered = c.carry_out-desk.ensures.entered in
    let is : c.deref_mut-last.result.now ≡ desk =
    c.deref_mut-last.ensures.value ∙ ap (λ x. x.value) c.carry_out-desk.ensures.same in
    let last = c.deref_mut-last.result.now in
    let result : c.take.result ≡ Some n =
    sym c.take.ensures.first ∙ (ap (λ z. first_in z.records.queue.ready) is ∙ first) in
    let takes : Takes last.records.queue c.exchange.new.self.queue (Some n) =
    subst (λ q. Takes last.records.queue q (Some n)) (sym c.exchange.ensures.queue)
    (subst (λ o. Takes last.records.queue c.take.new.self o) result c.take.ensures.lists) in
    let counts =
    subst (λ q. (q.unfinished ≡ last.records.queue.unfinished) × IsAsLong last.records.queue q)
    (sym c.exchange.ensures.queue) c.take.ensures.same in
    take_hand m ends v desk hand free n first w tally plan entered (record last { records = c.exchange.new.self })
    (c.exchange.ensures.now ∙ ap (λ z. put_record z.records.list.items n Out) is)
    (subst (λ z. Takes z.records.queue c.exchange.new.self.queue (Some n)) is takes)
    (subst (λ z. (c.exchange.new.self.queue.unfinished ≡ z.records.queue.unfinished)
    × IsAsLong z.records.queue c.exchange.new.self.queue) is counts)
    (ap (λ z. z.journal) is) (ap (λ z. z.state) is) (ap (λ z. z.lent) is) (ap (λ z. z.strays) is)

pub put_home-requires-in-Waiting-clause-hand : goal.put_home-requires-in-Waiting-clause-hand
put_home-requires-in-Waiting-clause-hand g c =
    let m = g.L.Revision.machine in
    let ends = g.L.Revision.ends in
    let v = c.args.place.now.me.0 in
    let old = c.args.desk.value in
    let held = c.deref_mut-held.result.now in
    let n = c.in-Some.number in
    let desk = record held { plan = c.plan_draw.new.plan } in
    let same = same_plan old held c.plan_draw.new.plan c.deref_mut-held.ensures.value in
    let hand = hand_same m ends v old desk c.requires.told.1.hand same in
    let free : desk.state ≡ All = same.state ∙ c.requires.free in
    let first : first_in desk.records.queue.ready ≡ Some n = sym c.first_ready.ensures ∙ c.in-Some.is in
    let plan : HasPlan desk (Draws n ∷ []) None None = c.plan_draw.ensures in
    let w = c.carry_out-desk.new.place.me.0 in
    let tally = c.carry_out-desk.result.1 in
    let entered = c.carry_out-desk.ensures.entered in
    let is : c.deref_mut-last.result.now ≡ desk =
    c.deref_mut-last.ensures.value ∙ ap (λ x. x.value) c.carry_out-desk.ensures.same in
    let last = c.deref_mut-last.result.now in
    let result : c.take.result ≡ Some n =
    sym c.take.ensures.first ∙ (ap (λ z. first_in z.records.queue.ready) is ∙ first) in
    let takes : Takes last.records.queue c.exchange.new.self.queue (Some n) =
    subst (λ q. Takes last.records.queue q (Some n)) (sym c.exchange.ensures.queue)
    (subst (λ o. Takes last.records.queue c.take.new.self o) result c.take.ensures.lists) in
    let counts =
    subst (λ q. (q.unfinished ≡ last.records.queue.unfinished) × IsAsLong last.records.queue q)
    (sym c.exchange.ensures.queue) c.take.ensures.same in
    take_hand m ends v desk hand free n first w tally plan entered (record last { records = c.exchange.new.self })
    (c.exchange.ensures.now ∙ ap (λ z. put_record z.records.list.items n Out) is)
    (subst (λ z. Takes z.records.queue c.exchange.new.self.queue (Some n)) is takes)
    (subst (λ z. (c.exchange.new.self.queue.unfinished ≡ z.records.queue.unfinished)
    × IsAsLong z.records.queue c.exchange.new.self.queue) is counts)
    (ap (λ z. z.journal) is) (ap (λ z. z.state) is) (ap (λ z. z.lent) is) (ap (λ z. z.strays) is)

pub empty-requires : goal.empty-requires
empty-requires g c =
    let m = g.L.Revision.machine in
    let ends = g.L.Revision.ends in
    let v = c.args.place.now.me.0 in
    let old = c.args.desk.value in
    let held = c.deref_mut-held.result.now in
    let n = c.in-Some.number in
    let desk = record held { plan = c.plan_draw.new.plan } in
    let same = same_plan old held c.plan_draw.new.plan c.deref_mut-held.ensures.value in
    let hand = hand_same m ends v old desk c.requires.told.1.hand same in
    let free : desk.state ≡ All = same.state ∙ c.requires.free in
    let first : first_in desk.records.queue.ready ≡ Some n = sym c.first_ready.ensures ∙ c.in-Some.is in
    let plan : HasPlan desk (Draws n ∷ []) None None = c.plan_draw.ensures in
    let w = c.carry_out-desk.new.place.me.0 in
    let tally = c.carry_out-desk.result.1 in
    let entered = c.carry_out-desk.ensures.entered in
    let is : c.deref_mut-last.result.now ≡ desk =
    c.deref_mut-last.ensures.value ∙ ap (λ x. x.value) c.carry_out-desk.ensures.same in
    let was = sym (ap (λ z. record_at z.records.list.items n) is) ∙ c.exchange.ensures.was in
    let ready : is_ready m (draw_told m ends v desk hand free n first w tally plan entered).slots (Some
    c.exchange.result) ≡ true =
    take_ready m ends v desk hand free n first w tally plan entered c.exchange.result was in
    search rules

pub returns-in-Ready-clause-rests : goal.returns-in-Ready-clause-rests
returns-in-Ready-clause-rests g c =
    let m = g.L.Revision.machine in
    let ends = g.L.Revision.ends in
    let v = c.args.place.now.me.0 in
    let old = c.args.desk.value in
    let held = c.deref_mut-held.result.now in
    let n = c.in-Some.number in
    let desk = record held { plan = c.plan_draw.new.plan } in
    let same = same_plan old held c.plan_draw.new.plan c.deref_mut-held.ensures.value in
    let hand = hand_same m ends v old desk c.requires.told.1.hand same in
    let free : desk.state ≡ All = same.state ∙ c.requires.free in
    let first : first_in desk.records.queue.ready ≡ Some n = sym c.first_ready.ensures ∙ c.in-Some.is in
    let plan : HasPlan desk (Draws n ∷ []) None None = c.plan_draw.ensures in
    let w = c.carry_out-desk.new.place.me.0 in
    let tally = c.carry_out-desk.result.1 in
    let entered = c.carry_out-desk.ensures.entered in
    let is : c.deref_mut-last.result.now ≡ desk =
    c.deref_mut-last.ensures.value ∙ ap (λ x. x.value) c.carry_out-desk.ensures.same in
    let at = c.put_home-in-Ready.ensures.rests in
    let r = take_rests m ends v desk hand free n first w tally plan entered c.put_home-in-Ready.new.place.me.0 (ap
    (λ x. x.0) at) in
    let limit = r.3 in
    (ap (λ x. x.0.seat.has) at, ap (λ x. x.1) at, r.0, r.1, r.2, omega arith)

pub returns-in-Ready-clause-mine : goal.returns-in-Ready-clause-mine
returns-in-Ready-clause-mine g c =
    let m = g.L.Revision.machine in
    let ends = g.L.Revision.ends in
    let v = c.args.place.now.me.0 in
    let old = c.args.desk.value in
    let held = c.deref_mut-held.result.now in
    let n = c.in-Some.number in
    let desk = record held { plan = c.plan_draw.new.plan } in
    let same = same_plan old held c.plan_draw.new.plan c.deref_mut-held.ensures.value in
    let hand = hand_same m ends v old desk c.requires.told.1.hand same in
    let free : desk.state ≡ All = same.state ∙ c.requires.free in
    let first : first_in desk.records.queue.ready ≡ Some n = sym c.first_ready.ensures ∙ c.in-Some.is in
    let plan : HasPlan desk (Draws n ∷ []) None None = c.plan_draw.ensures in
    let w = c.carry_out-desk.new.place.me.0 in
    let tally = c.carry_out-desk.result.1 in
    let entered = c.carry_out-desk.ensures.entered in
    let is : c.deref_mut-last.result.now ≡ desk =
    c.deref_mut-last.ensures.value ∙ ap (λ x. x.value) c.carry_out-desk.ensures.same in
    (take_rests m ends v desk hand free n first w tally plan entered c.put_home-in-Ready.new.place.me.0 (ap (λ x.
    x.0) c.put_home-in-Ready.ensures.rests)).4

pub returns-in-Ready-clause-answer : goal.returns-in-Ready-clause-answer
returns-in-Ready-clause-answer g c =
    let m = g.L.Revision.machine in
    let ends = g.L.Revision.ends in
    let v = c.args.place.now.me.0 in
    let old = c.args.desk.value in
    let held = c.deref_mut-held.result.now in
    let n = c.in-Some.number in
    let desk = record held { plan = c.plan_draw.new.plan } in
    let same = same_plan old held c.plan_draw.new.plan c.deref_mut-held.ensures.value in
    let hand = hand_same m ends v old desk c.requires.told.1.hand same in
    let free : desk.state ≡ All = same.state ∙ c.requires.free in
    let first : first_in desk.records.queue.ready ≡ Some n = sym c.first_ready.ensures ∙ c.in-Some.is in
    let plan : HasPlan desk (Draws n ∷ []) None None = c.plan_draw.ensures in
    let w = c.carry_out-desk.new.place.me.0 in
    let tally = c.carry_out-desk.result.1 in
    let entered = c.carry_out-desk.ensures.entered in
    let is : c.deref_mut-last.result.now ≡ desk =
    c.deref_mut-last.ensures.value ∙ ap (λ x. x.value) c.carry_out-desk.ensures.same in
    let was = sym (ap (λ z. record_at z.records.list.items n) is) ∙ c.exchange.ensures.was in
    λ v0 h. take_ran m ends v desk hand free n first w tally plan entered v0 c.put_home-in-Ready.new.place.me.0
    (in_same m ends v0 v old desk h same)
    (ap (λ x. x.0) c.put_home-in-Ready.ensures.rests) c.in-Ready.runner (was ∙ ap Some c.in-Ready.is)

pub returns-in-Waiting-clause-rests : goal.returns-in-Waiting-clause-rests
returns-in-Waiting-clause-rests g c =
    let m = g.L.Revision.machine in
    let ends = g.L.Revision.ends in
    let v = c.args.place.now.me.0 in
    let old = c.args.desk.value in
    let held = c.deref_mut-held.result.now in
    let n = c.in-Some.number in
    let desk = record held { plan = c.plan_draw.new.plan } in
    let same = same_plan old held c.plan_draw.new.plan c.deref_mut-held.ensures.value in
    let hand = hand_same m ends v old desk c.requires.told.1.hand same in
    let free : desk.state ≡ All = same.state ∙ c.requires.free in
    let first : first_in desk.records.queue.ready ≡ Some n = sym c.first_ready.ensures ∙ c.in-Some.is in
    let plan : HasPlan desk (Draws n ∷ []) None None = c.plan_draw.ensures in
    let w = c.carry_out-desk.new.place.me.0 in
    let tally = c.carry_out-desk.result.1 in
    let entered = c.carry_out-desk.ensures.entered in
    let is : c.deref_mut-last.result.now ≡ desk =
    c.deref_mut-last.ensures.value ∙ ap (λ x. x.value) c.carry_out-desk.ensures.same in
    let at = c.put_home-in-Waiting.ensures.rests in
    let r = take_rests m ends v desk hand free n first w tally plan entered c.put_home-in-Waiting.new.place.me.0 (ap
    (λ x. x.0) at) in
    let limit = r.3 in
    (ap (λ x. x.0.seat.has) at, ap (λ x. x.1) at, r.0, r.1, r.2, omega arith)

pub returns-in-Waiting-clause-mine : goal.returns-in-Waiting-clause-mine
returns-in-Waiting-clause-mine g c =
    let m = g.L.Revision.machine in
    let ends = g.L.Revision.ends in
    let v = c.args.place.now.me.0 in
    let old = c.args.desk.value in
    let held = c.deref_mut-held.result.now in
    let n = c.in-Some.number in
    let desk = record held { plan = c.plan_draw.new.plan } in
    let same = same_plan old held c.plan_draw.new.plan c.deref_mut-held.ensures.value in
    let hand = hand_same m ends v old desk c.requires.told.1.hand same in
    let free : desk.state ≡ All = same.state ∙ c.requires.free in
    let first : first_in desk.records.queue.ready ≡ Some n = sym c.first_ready.ensures ∙ c.in-Some.is in
    let plan : HasPlan desk (Draws n ∷ []) None None = c.plan_draw.ensures in
    let w = c.carry_out-desk.new.place.me.0 in
    let tally = c.carry_out-desk.result.1 in
    let entered = c.carry_out-desk.ensures.entered in
    let is : c.deref_mut-last.result.now ≡ desk =
    c.deref_mut-last.ensures.value ∙ ap (λ x. x.value) c.carry_out-desk.ensures.same in
    (take_rests m ends v desk hand free n first w tally plan entered c.put_home-in-Waiting.new.place.me.0 (ap (λ x.
    x.0) c.put_home-in-Waiting.ensures.rests)).4

pub returns-in-Waiting-clause-answer : goal.returns-in-Waiting-clause-answer
returns-in-Waiting-clause-answer g c =
    let m = g.L.Revision.machine in
    let ends = g.L.Revision.ends in
    let v = c.args.place.now.me.0 in
    let old = c.args.desk.value in
    let held = c.deref_mut-held.result.now in
    let n = c.in-Some.number in
    let desk = record held { plan = c.plan_draw.new.plan } in
    let same = same_plan old held c.plan_draw.new.plan c.deref_mut-held.ensures.value in
    let hand = hand_same m ends v old desk c.requires.told.1.hand same in
    let free : desk.state ≡ All = same.state ∙ c.requires.free in
    let first : first_in desk.records.queue.ready ≡ Some n = sym c.first_ready.ensures ∙ c.in-Some.is in
    let plan : HasPlan desk (Draws n ∷ []) None None = c.plan_draw.ensures in
    let w = c.carry_out-desk.new.place.me.0 in
    let tally = c.carry_out-desk.result.1 in
    let entered = c.carry_out-desk.ensures.entered in
    let is : c.deref_mut-last.result.now ≡ desk =
    c.deref_mut-last.ensures.value ∙ ap (λ x. x.value) c.carry_out-desk.ensures.same in
    let was = sym (ap (λ z. record_at z.records.list.items n) is) ∙ c.exchange.ensures.was in
    λ v0 h. take_retried m ends v desk hand free n first w tally plan entered v0
    c.put_home-in-Waiting.new.place.me.0 (in_same m ends v0 v old desk h same)
    (ap (λ x. x.0) c.put_home-in-Waiting.ensures.rests) c.in-Waiting.at (was ∙ ap Some c.in-Waiting.is)

pub returns-in_default-clause-answer : goal.returns-in_default-clause-answer
returns-in_default-clause-answer g c =
    let m = g.L.Revision.machine in
    let ends = g.L.Revision.ends in
    let held = c.deref_mut-held.result.now in
    let value = c.deref_mut-held.ensures.value in
    let none : c.first_ready.result ≡ None = search rules in
    λ v0 h. none_says m ends v0 c.args.place.now.me.0 c.put_home.new.place.me.0 held
    (subst (λ x. IsIn m ends v0 c.args.place.now.me.0 x) (sym value) h) (ap (λ x. x.state) value ∙ c.requires.free)
    (sym c.first_ready.ensures ∙ none) (ap (λ x. x.0) c.put_home.ensures.rests)

pub returns-in_default-clause-none : goal.returns-in_default-clause-none
returns-in_default-clause-none g c =
    let m = g.L.Revision.machine in
    let ends = g.L.Revision.ends in
    let held = c.deref_mut-held.result.now in
    let value = c.deref_mut-held.ensures.value in
    let none : c.first_ready.result ≡ None = search rules in
    let count = ap (λ x. x.records.queue.unfinished) value in
    λ v0 h _.
    let at = subst (λ x. IsIn m ends v0 c.args.place.now.me.0 x) (sym value) h in
    let free = ap (λ x. x.state) value ∙ c.requires.free in
    let first = sym c.first_ready.ensures ∙ none in
    let is = ap (λ x. x.0) c.put_home.ensures.rests in (
      (λ some. idle_says m ends v0 c.args.place.now.me.0 c.put_home.new.place.me.0 held at free first is
          (λ q. some (sym count ∙ q))),
      (λ zero. finished_says m ends v0 c.args.place.now.me.0 c.put_home.new.place.me.0 held at free first is
          (count ∙ zero)),
    )
