-- A revision in the same frame, with another stack.
--   IsAbove     what changed of the area lies at or above a place
--   OnStack     what is to be shown of the new state
--   stays       then the revision stands for it
use Rattle.std.proofs.Common.{◌≡◌, ◌∙◌, ℕ, ◌+◌, ◌-◌, ◌≤◌, List, [], ◌∷◌, take, drop, length, map, reverse, set, refl, sym, ap, subst, arith, Option}
use Rattle.std.specs.Prelude.{slice_get}
use Rattle.std.proofs.lemmas.List.{drop-take, length-set, take-set-le}
use Rattle.rev_code.specs.declared.code.CodeBlock.{CodeBlock}
use Rattle.rev_code.specs.declared.code.Code.{Code}
use Rattle.rev_code.specs.State.{Frame, State}
use Rattle.code_soundness.specs.Typed.{IsRevision}
use Rattle.code_soundness.specs.AcceptedCode.{notes_of}
use Rattle.block_run.specs.Agreement.{AreWords}
use Rattle.block_run.specs.Area.{count, low, stack_of}
use Rattle.block_run.specs.Standing.{AreSeen}
use Rattle.fun_run.proofs.Slices.{take_shorter}
use Rattle.code_machine.specs.Local.{CodeRun}
use Rattle.leg_run.specs.declared.revision.Run.{Run}
use Rattle.leg_run.specs.declared.revision.Waiting.{Waiting}
use Rattle.leg_run.specs.Standing.{listed_as, AreBelow, Stands}

pub record IsAbove (place : ℕ) (ws ws' : List ℕ) : Type 0 where
  pub below : take place ws' ≡ take place ws
  pub long : length ws' ≡ length ws

pub nothing_new : (place : ℕ) (ws : List ℕ) → IsAbove place ws ws
nothing_new place ws = record { below = refl; long = refl }

pub one_set : (place j w : ℕ) (ws : List ℕ) → place ≤ j → IsAbove place ws (set ws j w)
one_set place j w ws h = record { below = take-set-le place ws j w h; long = length-set ws j w }

slice_same : (place base n : ℕ) (ws ws' : List ℕ) → base + n ≤ place → IsAbove place ws ws'
    → take n (drop base ws') ≡ take n (drop base ws)
slice_same place base n ws ws' h a =
    sym (drop-take base n ws') ∙ ap (drop base) (take_shorter ws' ws place (base + n) h a.below) ∙ drop-take base n ws

frames_same : (code : Code) (place above : ℕ) (ws ws' : List ℕ) (fs : List (Frame ℕ)) (waits : List Waiting)
    → above ≤ place → IsAbove place ws ws' → AreBelow code ws above fs waits → AreBelow code ws' above fs waits
frames_same code place above ws ws' [] [] h a k = tt
frames_same code place above ws ws' (f ∷ fs) (w ∷ waits) h a k =
    let q = k.0 in
    let b = q.behind in (
      record {
        body = q.body;
        is = q.is;
        block = q.block;
        at = q.at;
        locals = subst (AreWords f.locals)
            (sym (slice_same place w.base (length q.body.locals) ws ws' (omega (arith, h, b)) a)) q.locals;
        behind = q.behind;
        room = λ at inside. (let r = q.room at inside in let l = a.long in omega (arith, r, l));
      },
      frames_same code place w.base ws ws' fs waits (omega (arith, h, b)) a k.1,
    )
frames_same code place above ws ws' [] (w ∷ waits) h a k = absurd k
frames_same code place above ws ws' (f ∷ fs) [] h a k = absurd k

pub record OnStack (g : CodeRun) (b : CodeBlock) (run run' : Run) (c c' : State ℕ) : Type 0 where
  pub revision : IsRevision g.code (notes_of g.code) c'
  pub block : c'.block ≡ c.block
  pub locals : c'.locals ≡ c.locals
  pub below : c'.below ≡ c.below
  pub same_block : run'.registers.block ≡ run.registers.block
  pub same_base : run'.registers.base ≡ run.registers.base
  pub waits : run'.below ≡ run.below
  pub at : run'.registers.at ≡ c'.at
  pub fuel : run'.registers.fuel ≡ c'.fuel
  pub line : run'.registers.line ≡ c'.line
  pub words : IsAbove (low b run.registers) run.words.items run'.words.items
  pub top : low b run.registers ≤ run'.registers.top
  pub stack :
      AreWords c'.stack (stack_of run'.words.items (low b run.registers) (run'.registers.top - low b run.registers))
  pub forks : c'.forks ≡ run'.forks
  pub listed : c'.listed ≡ map listed_as run'.meetings.items
  pub text : c'.text ≡ run'.text.items
  pub few : run'.forks ≤ length run'.meetings.items

module _ (g : CodeRun) (run run' : Run) (seen seen' : ℕ → ℕ) (root root' : ℕ → Option ℕ) (c c' : State ℕ) where
  pub stays : (s : Stands g.code g.inputs g.share run seen root c) → OnStack g s.body run run' c c'
      → AreSeen c'.locations seen' root' → length c'.locations ≤ count g.code.vars
      → Stands g.code g.inputs g.share run' seen' root' c'
  stays s o seen_there many =
      let b = s.body in
      let same_low : low b run'.registers ≡ low b run.registers = ap (λ m. m + length b.locals) o.same_base in
      record {
        body = b;
        is = ap (slice_get g.code.blocks) o.same_block ∙ s.is;
        here = record {
          good = o.revision;
          inputs_are = s.here.inputs_are;
          block = o.block ∙ s.here.block ∙ sym o.same_block;
          run = record {
            at = o.at;
            locals = subst (λ xs. AreWords xs (take (length b.locals) (drop run'.registers.base run'.words.items)))
                (sym o.locals)
                (subst (λ m. AreWords c.locals (take (length b.locals) (drop m run'.words.items))) (sym o.same_base)
                (subst (AreWords c.locals)
                (sym (slice_same (low b run.registers) run.registers.base (length b.locals) run.words.items
                run'.words.items (omega arith) o.words))
                s.here.run.locals));
            stack = subst (λ m. AreWords c'.stack (stack_of run'.words.items m (run'.registers.top - m))) (sym same_low)
                o.stack;
            fuel = o.fuel;
            line = o.line;
          };
          top = (let t = o.top in omega (arith, t, same_low));
          locations = seen_there;
          many = many;
        };
        below = subst (λ fs. AreBelow g.code run'.words.items run'.registers.base fs (reverse run'.below.items))
            (sym o.below)
            (subst (λ m. AreBelow g.code run'.words.items m c.below (reverse run'.below.items)) (sym o.same_base)
            (subst (λ ws. AreBelow g.code run'.words.items run.registers.base c.below (reverse ws))
            (sym (ap (λ v. v.items) o.waits))
            (frames_same g.code (low b run.registers) run.registers.base run.words.items run'.words.items c.below
            (reverse run.below.items) (omega arith) o.words s.below)));
        room = λ at inside. (
            let r = s.room at inside in
            let l = o.words.long in
            let n : length (notes_of g.code run'.registers.block at).shape
            ≡ length (notes_of g.code run.registers.block at).shape =
            ap (λ m. length (notes_of g.code m at).shape) o.same_block in
            omega (arith, r, l, n, same_low)
            );
        forks = o.forks;
        listed = o.listed;
        text = o.text;
        few = o.few;
      }
