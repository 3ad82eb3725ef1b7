-- A value comes to its left side.
use Rattle.std.proofs.Common.{◌≡◌, ◌∙◌, ℕ, zero, suc, true, List, [], ◌∷◌, map, Option, Some, None, refl, sym, ap, subst}
use Rattle.std.specs.Prelude.{slice_get, slice_set, if◌then◌else◌}
use Rattle.rev_num.specs.Path.{Path}
use Rattle.rev_num.specs.declared.value.Value.{Value}
use Rattle.rev_num.specs.declared.value.ValueKind.{ValueKind}
use Rattle.rev_num.specs.Value.{kind_of, same_kind}
use Rattle.rev_num.proofs.SameKinds.{same_kind_self}
use Rattle.name_tables.specs.Names.{Name}
use Rattle.name_tables.specs.Table.{find}
use Rattle.typed_programs.specs.Judgement.{Returns}
use Rattle.revision_calculus.specs.Program.{Setting}
use Rattle.revision_calculus.specs.State.{Frame, Local, write_at}
use Rattle.revision_calculus.specs.Evaluation.{on_top, set_local, set_named, set, give}
use Rattle.rev_code.specs.declared.code.Instr.{Instr}
use Rattle.rev_code.specs.declared.code.Instr.TheVariants as i
use Rattle.rev_code.specs.declared.code.CodeBlock.{CodeBlock}
use Rattle.rev_code.specs.Words as words
use Rattle.rev_code.specs.Words.{Word}
use Rattle.rev_code.specs.State.{State, written_at}
use Rattle.rev_code.specs.Variables.{Place, scalar}
use Rattle.rev_code.specs.Step as r
use Rattle.rev_code.specs.Step.{Comes, goes, act, act_at, act_in, step, Steps}
use Rattle.code_generation.specs.Numbers.{Scope}
use Rattle.code_generation.specs.Generated.{var_of}
use Rattle.expression_meaning.specs.Agrees.{word, at_with, Onward}
use Rattle.expression_meaning.specs.Agrees as agrees
use Rattle.expression_meaning.proofs.Words.{word_kind}
use Rattle.expression_meaning.specs.Places.{Tables, Leads, Follows}
use Rattle.expression_meaning.specs.States.{location_word, IsShared, AreLocals, LeftBy, Below, StandsAt, Behind}
use Rattle.expression_meaning.proofs.Locals.{locals_set, locals_shared, written_there}
use Rattle.program_meaning.specs.Steps.{Carries, Takes, Few, nowhere, takes}
use Rattle.program_meaning.proofs.Linked.{IsLinked}
use Rattle.program_meaning.proofs.Reading.{scalar_there}

nothing : Unit {0}
nothing = tt

module _ (s : Setting) (g : Tables) where
  pub stays : (a b : State Path) → a ≡ b → Steps g.setting a b
  stays a b e = subst (λ z. Steps g.setting a z) e r.none

  pub goes_on : (a b c : State Path) → Steps g.setting a b → Steps g.setting b c → Steps g.setting a c
  goes_on a b c r.none h = h
  goes_on a b c (r.more e t) h = r.more e (goes_on _ b c t h)

  pub onward : (a b : State Path) → Onward g.setting a b → Steps g.setting a b
  onward a b agrees.stay = r.none
  onward a b (agrees.move e j t) = r.more e (onward _ b t)

  -- the instruction at a place
  pub one : (b : CodeBlock) (c : State Path) (x : Instr) (o : Comes Path)
      → slice_get g.setting.code.blocks c.block ≡ Some b → slice_get b.instrs c.at ≡ Some x → act g.setting b c x ≡ o
      → step g.setting c ≡ o
  one b c x o e h a = ap (act_in g.setting c) e ∙ ap (act_at g.setting b c) h ∙ a

  pub leads : (b : CodeBlock) (c : State Path) (n at to : ℕ) (ws : List (Word Path))
      → slice_get g.setting.code.blocks c.block ≡ Some b → Leads s g b n at to
      → Steps g.setting (at_with c at ws) (at_with c to ws)
  leads b c zero at to ws is e = stays (at_with c at ws) (at_with c to ws) (ap (λ n. at_with c n ws) e)
  leads b c (suc n) at to ws is h =
      r.more (one b (at_with c at ws) (i.Jump h.0) (goes (at_with c h.0 ws)) is h.1 refl) (leads b c n h.0 to ws is h.2)

  -- the code before a statement
  pub stands : (l : Local) (f : Frame) (fs : List Frame) (c : State Path) (b : CodeBlock) (scope : Scope) (at : ℕ)
      → IsShared l c → l.frames ≡ f ∷ fs → slice_get g.setting.code.blocks c.block ≡ Some b
      → AreLocals b.locals scope None f.locals c.locals
      → Follows s g b scope f.rest at → Returns b.result f.rest → Below s g f.left b.result fs c.below
      → StandsAt s g l (at_with c at [])
  stands l f fs c b scope at shared frames is locals follows returns below = (
    f,
    fs,
    record {
      shared = shared;
      frames = frames;
      block = b;
      is = is;
      stack = refl;
      top = record { scope = scope; locals = locals; follows = follows; returns = returns };
      below = below;
    },
  )

  pub record Resumed (l : Local) (a : State Path) : Type 0 where
    pub c : State Path
    pub on : Steps g.setting a c
    pub stand : StandsAt s g l c
    pub few : Few g a c

  -- one instruction takes the word
  resumed : (l : Local) (a c : State Path) (b : CodeBlock) (x : Instr)
      → slice_get g.setting.code.blocks a.block ≡ Some b → slice_get b.instrs a.at ≡ Some x → Takes x
      → step g.setting a ≡ goes c → StandsAt s g l c → Resumed l a
  resumed l a c b x is here can e st = record { c = c; on = r.more e r.none; stand = st; few = takes b x is here can e }

  -- a local takes the value
  resume_local : (l : Local) (w : Name) (t : ValueKind) (x : Value) (f : Frame) (fs : List Frame) (c : State Path)
      (m : ℕ) (h : Behind s g l (Some w) (Some t) f fs c)
      → find w h.waits.scope ≡ Some m → LeftBy s g h.block (Some m) w t c.at → h.waits.to ≡ suc c.at → kind_of x ≡ t
      → Resumed (set s l w x) (at_with c c.at (word x ∷ []))
  resume_local l w t x f fs c m h found left to of =
      let c' : State Path = record c { at = suc c.at; stack = []; locals = slice_set c.locals m (word x) } in
      let l' : Local = record l { frames = on_top (λ k. set_local k w x) l.frames } in
      let e : set_named None l w x ≡ set s l w x = ap (λ o. set_named o l w x) (sym left.2) in
      let kn : slice_get h.block.locals m ≡ Some (kind_of x) = left.1 ∙ ap Some (sym of) in
      let a : State Path = at_with c c.at (word x ∷ []) in
      let here : step g.setting a ≡ goes c' =
      one h.block a (i.StoreLocal m) (goes c') h.waits.is left.0
      (ap (λ o. r.into_local a m o (word x ∷ [])) kn
      ∙ ap (λ d. if d then goes c' else r.stuck)
      (ap (same_kind (kind_of x)) (word_kind x) ∙ same_kind_self (kind_of x))) in
      let st : StandsAt s g l' (at_with c' h.waits.to []) =
      stands l' (set_local f w x) fs c' h.block h.waits.scope h.waits.to h.shared
      (ap (on_top (λ k. set_local k w x)) h.frames) h.waits.is
      (locals_set h.block.locals h.waits.scope w m x f.locals c.locals h.waits.locals found kn h.waits.apart)
      h.waits.follows h.waits.returns h.below in
      resumed (set s l w x) a c' h.block (i.StoreLocal m) h.waits.is left.0 nothing here
      (subst (λ k. StandsAt s g k c') e (subst (λ n. StandsAt s g l' (at_with c' n [])) to st))

  module _ (lk : IsLinked s g) where
    -- a shared variable takes the value
    resume_shared : (l : Local) (w : Name) (t : ValueKind) (x : Value) (f : Frame) (fs : List Frame) (c : State Path)
        (h : Behind s g l (Some w) (Some t) f fs c)
        → find w h.waits.scope ≡ None → LeftBy s g h.block None w t c.at → h.waits.to ≡ suc c.at → kind_of x ≡ t
        → Resumed (set s l w x) (at_with c c.at (word x ∷ []))
    resume_shared l w t x f fs c h absent left to of =
        let y = left.0 in
        let p : Place = record { var = var_of s.program.declarations y; first = y.info.base } in
        let c' : State Path =
        record c { at = suc c.at; stack = []; locations = written_at c.locations y.info.base (word x) } in
        let l' : Local = record l { locations = write_at l.locations y.info.base x } in
        let e : set_named (Some y) l w x ≡ set s l w x = ap (λ o. set_named o l w x) (sym left.2) in
        let a : State Path = at_with c c.at (word x ∷ []) in
        let there : scalar g.setting.code.vars (g.numbers.var w) ≡ Some p = scalar_there s g lk w y left.2 left.3 in
        let kind : same_kind y.declared.holds (words.kind_of (word x)) ≡ true =
        ap (same_kind y.declared.holds) (word_kind x ∙ of ∙ sym left.4) ∙ same_kind_self y.declared.holds in
        let here : step g.setting a ≡ goes c' =
        one h.block a (i.StoreShared (g.numbers.var w)) (goes c') h.waits.is left.1
        (ap (λ o. r.into_scalar a o (word x ∷ [])) there ∙ ap (λ d. if d then goes c' else r.stuck) kind) in
        let same : c'.locations ≡ map location_word l'.locations =
        ap (λ z. written_at z y.info.base (word x)) h.shared.0 ∙ written_there l.locations y.info.base x in
        let st : StandsAt s g l' (at_with c' h.waits.to []) =
        stands l' f fs c' h.block h.waits.scope h.waits.to
        (same, h.shared.1, h.shared.2, h.shared.3, h.shared.4, h.shared.5) h.frames h.waits.is
        (locals_shared h.block.locals h.waits.scope w f.locals c.locals absent h.waits.locals) h.waits.follows
        h.waits.returns h.below in
        resumed (set s l w x) a c' h.block (i.StoreShared (g.numbers.var w)) h.waits.is left.1 nothing here
        (subst (λ k. StandsAt s g k c') e (subst (λ n. StandsAt s g l' (at_with c' n [])) to st))

    resume_by : (l : Local) (w : Name) (t : ValueKind) (x : Value) (f : Frame) (fs : List Frame) (c : State Path)
        (h : Behind s g l (Some w) (Some t) f fs c) (o : Option ℕ)
        → find w h.waits.scope ≡ o → LeftBy s g h.block o w t c.at → h.waits.to ≡ suc c.at → kind_of x ≡ t
        → Resumed (set s l w x) (at_with c c.at (word x ∷ []))
    resume_by l w t x f fs c h None found left to of = resume_shared l w t x f fs c h found left to of
    resume_by l w t x f fs c h (Some m) found left to of = resume_local l w t x f fs c m h found left to of

    stand_behind : (l : Local) (given : Option ValueKind) (f : Frame) (fs : List Frame) (c : State Path)
        (h : Behind s g l None given f fs c)
        → StandsAt s g l (at_with c h.waits.to [])
    stand_behind l given f fs c h =
        stands l f fs c h.block h.waits.scope h.waits.to h.shared h.frames h.waits.is h.waits.locals h.waits.follows
        h.waits.returns h.below

    pub resume : (l : Local) (left : Option Name) (given : Option ValueKind) (x : Option Value) (f : Frame)
        (fs : List Frame) (c : State Path) (ws : List (Word Path))
        → Behind s g l left given f fs c → Carries given x ws
        → Resumed (give s l left x) (at_with c c.at ws)
    resume l None None x f fs c ws h e =
        let z = h.waits.back in
        let same : at_with c c.at ws ≡ at_with c h.waits.to [] = λ j. at_with c (sym z j) (e j) in
        record {
          c = at_with c h.waits.to [];
          on = stays (at_with c c.at ws) (at_with c h.waits.to []) same;
          stand = stand_behind l None f fs c h;
          few = nowhere same;
        }
    resume l None (Some t) None f fs c ws h e = absurd e
    resume l None (Some t) (Some x) f fs c ws h e =
        let z = h.waits.back in
        let st : StandsAt s g l (at_with c (suc c.at) []) =
        subst (λ n. StandsAt s g l (at_with c n [])) z.1 (stand_behind l (Some t) f fs c h) in
        subst (λ q. Resumed l (at_with c c.at q)) (sym e.0)
        (resumed l (at_with c c.at (word x ∷ [])) (at_with c (suc c.at) []) h.block i.Pop h.waits.is z.0 nothing
        (one h.block (at_with c c.at (word x ∷ [])) i.Pop (goes (at_with c (suc c.at) [])) h.waits.is z.0 refl) st)
    resume l (Some w) None x f fs c ws h e = absurd h.waits.back
    resume l (Some w) (Some t) None f fs c ws h e = absurd e
    resume l (Some w) (Some t) (Some x) f fs c ws h e =
        subst (λ q. Resumed (set s l w x) (at_with c c.at q)) (sym e.0)
        (resume_by l w t x f fs c h (find w h.waits.scope) refl h.waits.back.0 h.waits.back.1 e.1)
