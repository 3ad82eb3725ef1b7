-- Answers of Starts::keep: a start goes to the place of its part, and of two without a part the sooner is kept.
use Rattle.std.proofs.Common.{◌≡◌, ◌∙◌, ap, arith, length, subst, sym}
use Rattle.std.proofs.lemmas.Option.{slice_get_within}
use Rattle.revision_state.specs.Views.{given}
use Rattle.rev_audit.specs.Sweep.{Grows, Holds, IsStarts, sooner_of}
use Rattle.stated_parts.proofs.Accepted.{accepted}
use Rattle.stated_parts.proofs.Finding.{found_part, lost_part}
use Rattle.rev_audit.proofs.Sweeps.{keep_stated, keep_unstated, sooner_here, sooner_kept, sooner_which}
use Rattle.rev_audit.proofs.starts.Starts.keep.Goals as goal

pub index_mut-requires : goal.index_mut-requires
index_mut-requires c =
    let t = c.args.stated.now in
    let h = found_part t.parts.now t.indices.map t.indexed c.args.child.path c.in-Some.k
    (sym c.in-Some.is ∙ c.find.ensures) in
    let w = slice_get_within t.parts.now c.in-Some.k h.part h.stands in
    let count = c.requires.kept.count in
    let len = c.args.self.now.starts.ok.0 in
    omega (arith, w, count, len)

pub returns-in-Some : goal.returns-in-Some
returns-in-Some c =
    let t = c.args.stated.now in
    let h = found_part t.parts.now t.indices.map t.indexed c.args.child.path c.in-Some.k
    (sym c.in-Some.is ∙ c.find.ensures) in
    let k = keep_stated (given t.setting) t.fuel t.parts.now (accepted t.setting) c.requires.order
    c.args.self.now.starts.items c.args.self.now.unstated c.args.child c.in-Some.k h.part c.requires.kept
    c.requires.begins h.stands h.path in
    record { kept = k.0; grows = k.1; holds = k.2 }

pub returns-in-None : goal.returns-in-None
returns-in-None c =
    let t = c.args.stated.now in
    let x = c.args.child in
    let a = c.args.self.now.starts.items in
    let u = c.args.self.now.unstated in
    let is : c.sooner.result ≡ sooner_of x u = c.sooner.ensures ∙ ap (sooner_of x) c.take-other.ensures.value in
    let lost = lost_part t.parts.now t.indices.map t.indexed x.path (sym c.in-None.is ∙ c.find.ensures) in
    let k = keep_unstated (given t.setting) t.fuel t.parts.now (accepted t.setting) c.requires.order a u (sooner_of x u)
    x c.requires.kept c.requires.begins lost (sooner_which x u) (sooner_here x u) (sooner_kept x u) in
    record {
      kept = subst (IsStarts (given t.setting) t.fuel t.parts.now a) (sym is) k.0;
      grows = subst (λ v. Grows a a u v) (sym is) k.1;
      holds = subst (λ v. Holds (given t.setting) t.fuel t.parts.now (length t.parts.now) a v x) (sym is) k.2;
    }
