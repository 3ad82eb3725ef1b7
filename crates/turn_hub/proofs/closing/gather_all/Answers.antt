-- Answers of gather_all: the seat that is taken in adds its parts, passes, turns and rounds, and what it saw.
use Rattle.std.proofs.Common.{rules, ◌≡◌, [], ◌∷◌, ◌++◌, length, map, option_to_list, vec_len, sym, ap, ◌∙◌, subst, arith}
use Rattle.hub_core.proofs.Lists.{many_more}
use Rattle.hub_core.specs.Passes.{named, AreStartsOf}
use Rattle.hub_core.specs.Views.{either_saw, either_halt}
use Rattle.hub_core.specs.Woven.{triples}
use Rattle.hub_core.specs.Ordered.{all_rounds}
use Rattle.hub_core.proofs.Passes.{starts_parts}
use Rattle.turn_hub.specs.Seats.{AreOf, AreBehind}
use Rattle.turn_hub.specs.Closing.{saw_of, halt_known, held_by}
use Rattle.turn_hub.proofs.Rows.{are_front, saw_last, saw_first, halt_last, halt_next, held_more, named_both, behind_more, no_more_seats, map_items, lists_more}
use Rattle.turn_hub.proofs.closing.gather_all.Goals as goal

pub append-requires : goal.append-requires
append-requires g c =
    let none : vec_len c.args.lists.now ≡ 0 = search rules in
    let room = c.requires.room.1 in
    let some = c.requires.some in
    omega arith

pub loop-init : goal.loop-init
loop-init g c =
    let items : c.args.seats.items ≡ c.pop.new.self.items ++ c.unwrap-first.result ∷ [] =
    c.pop.ensures.items ∙ ap (λ o. c.pop.new.self.items ++ option_to_list o) c.unwrap-first.ensures in
    let places = map_items _ _ _ items (λ s. s.place) in
    let f = are_front _ _ _ (subst (AreOf c.args.turn.now.shared.table_id) places c.requires.own) in
    let one = c.unwrap-first.result.idle in
    let parts = one.2 in
    let none : vec_len c.args.lists.now ≡ 0 = search rules in
    let long = c.append.ensures.len in
    let wide = c.append.ensures.capacity in
    let room = c.requires.room.1 in
    let len = ap length items ∙ many_more c.pop.new.self.items c.unwrap-first.result in (
      f.1,
      one.0,
      one.1,
      omega arith,
      omega arith,
      search rules,
      f.0,
      (λ h. saw_first (map (λ s. s.place) c.pop.new.self.items) c.unwrap-first.result.place
          (ap saw_of (sym places) ∙ h)),
      sym (halt_last (map (λ s. s.place) c.pop.new.self.items) c.unwrap-first.result.place)
          ∙ ap halt_known (sym places),
      (λ log one all.
          subst (AreBehind log) (sym places)
          (behind_more log (map (λ s. s.place) c.pop.new.self.items) c.unwrap-first.result.place all one)),
      (λ n.
          let a = held_more n (map (λ s. s.place) c.pop.new.self.items) c.unwrap-first.result.place in
          let b = ap (held_by n) places in
          omega arith),
      lists_more _ _ _ c.append.ensures.items
          ∙ (ap (λ l. all_rounds (map (λ r. triples r.items) l) ++ triples c.unwrap-first.result.rounds.items)
          c.requires.room.0
          ∙ c.unwrap-first.result.made),
      omega arith,
      omega arith,
    )

pub append-requires-in-loop : goal.append-requires-in-loop
append-requires-in-loop g c =
    let i = c.loop.invariant in
    let items : c.loop.rest.items ≡ c.pop-in-loop.new.self.items ++ c.unwrap-seat.result ∷ [] =
    c.pop-in-loop.ensures.items ∙ ap (λ o. c.pop-in-loop.new.self.items ++ option_to_list o) c.unwrap-seat.ensures in
    let len = ap length items ∙ many_more c.pop-in-loop.new.self.items c.unwrap-seat.result in
    let a = i.12 in
    let b = i.13 in
    omega arith

pub gather-requires : goal.gather-requires
gather-requires g c =
    let i = c.loop.invariant in
    let items : c.loop.rest.items ≡ c.pop-in-loop.new.self.items ++ c.unwrap-seat.result ∷ [] =
    c.pop-in-loop.ensures.items ∙ ap (λ o. c.pop-in-loop.new.self.items ++ option_to_list o) c.unwrap-seat.ensures in
    let places = map_items _ _ _ items (λ s. s.place) in
    let f = are_front _ _ _ (subst (AreOf c.args.turn.now.shared.table_id) places i.6) in
    let one = c.unwrap-seat.result.idle in
    let parts = one.2 in
    record {
      own = (i.0, (i.1, i.2, i.3), f.1, (one.0, one.1, omega arith));
      sized = c.requires.sized;
    }

pub loop-preserved : goal.loop-preserved
loop-preserved g c =
    let i = c.loop.invariant in
    let items : c.loop.rest.items ≡ c.pop-in-loop.new.self.items ++ c.unwrap-seat.result ∷ [] =
    c.pop-in-loop.ensures.items ∙ ap (λ o. c.pop-in-loop.new.self.items ++ option_to_list o) c.unwrap-seat.ensures in
    let places = map_items _ _ _ items (λ s. s.place) in
    let f = are_front _ _ _ (subst (AreOf c.args.turn.now.shared.table_id) places i.6) in
    let one = c.unwrap-seat.result.idle in
    let its_parts = one.2 in
    let len = ap length items ∙ many_more c.pop-in-loop.new.self.items c.unwrap-seat.result in
    let me = c.gather.ensures.1 in
    let parts = ap (λ m. m.0.seat.parts) me in
    let sum = i.4 in
    let count = i.5 in
    let lists = i.12 in
    let room = i.13 in
    let long = c.append-in-loop.ensures.len in
    let wide = c.append-in-loop.ensures.capacity in (
      c.gather.ensures.0 ∙ i.0,
      ap (λ m. m.0.seat.has) me,
      ap (λ m. m.1) me,
      (let some = i.3 in omega arith),
      omega arith,
      omega arith,
      f.0,
      (λ h. ap (λ m. either_saw m.0.seat.saw (saw_of (map (λ s. s.place) c.pop-in-loop.new.self.items))) me
          ∙ saw_last c.loop.all.me.0.seat.saw (map (λ s. s.place) c.pop-in-loop.new.self.items)
          c.unwrap-seat.result.place
          (ap (λ l. either_saw c.loop.all.me.0.seat.saw (saw_of l)) (sym places) ∙ i.7 h)),
      ap (λ m. either_halt m.0.seat.halt (halt_known (map (λ s. s.place) c.pop-in-loop.new.self.items))) me
          ∙ (halt_next c.loop.all.me.0.seat.halt (map (λ s. s.place) c.pop-in-loop.new.self.items)
          c.unwrap-seat.result.place
          ∙ (ap (λ l. either_halt c.loop.all.me.0.seat.halt (halt_known l)) (sym places) ∙ i.8)),
      (λ log both all.
          let p = starts_parts log c.loop.all.me.0.seat.turns c.unwrap-seat.result.place.me.0.seat.turns
          (subst (AreStartsOf log) (ap (λ m. m.0.seat.turns) me) both) in
          i.9 log p.0 (subst (AreBehind log) (sym places)
          (behind_more log (map (λ s. s.place) c.pop-in-loop.new.self.items) c.unwrap-seat.result.place all p.1))),
      (λ n.
          let a = held_more n (map (λ s. s.place) c.pop-in-loop.new.self.items) c.unwrap-seat.result.place in
          let b = ap (held_by n) places in
          let p = ap (λ m. named n m.0.seat.passes) me in
          let q = named_both n c.loop.all.me.0.seat.passes c.unwrap-seat.result.place.me.0.seat.passes in
          let r = i.10 n in
          omega arith),
      lists_more _ _ _ c.append-in-loop.ensures.items
          ∙ (ap (λ l. l ++ triples c.unwrap-seat.result.rounds.items) i.11
          ∙ (ap (λ l. c.loop.all.me.0.rounds ++ l) c.unwrap-seat.result.made ∙ sym (ap (λ m. m.0.rounds) me))),
      omega arith,
      omega arith,
    )

pub returns-clause-behind : goal.returns-clause-behind
returns-clause-behind g c =
    let none : length c.loop.rest.items ≡ 0 = search rules in
    λ log one.
    c.loop.invariant.9 log one
    (subst (λ l. AreBehind log (map (λ s. s.place) l)) (sym (no_more_seats c.loop.rest.items none)) tt)
