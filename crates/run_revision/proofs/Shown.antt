-- The world of a schedule is that of the code, with what runs at each state.
use Rattle.std.proofs.Common.{◌≡◌, refl, ℕ, zero, suc, List, [], ◌∷◌, ◌++◌, length, Option, Some, None, ap, ◌∙◌}
use Rattle.rev_num.specs.Path.{Path, child}
use Rattle.revision_machine.specs.Machine.{Entry, Plain, Joined}
use Rattle.revision_machine.specs.Numbered.{Wish, Goes, Bears, Wants, Stops, Entries, World, Both, Listing, at_number, put_number, join_stopped, join_number, leg_of, leg_at, leg}
use Rattle.hub_core.specs.Replay.{goes_on, replay}
use Rattle.code_machine.specs.Local.{CodeRun, Local}
use Rattle.code_machine.specs.Machines.{numbered}
use Rattle.run_revision.specs.CodeState.{state_of, told, states, shown_entry, shown_at, shown_all, shown, shown_some}

abbrev W : Type 0
W = Entries (Local ℕ)

pub at_shown : (g : CodeRun) (w : W) (n : ℕ) → at_number (shown_all g w) n ≡ shown_at g (at_number w n)
at_shown g [] n = refl
at_shown g ((r, e) ∷ w) zero = refl
at_shown g ((r, e) ∷ w) (suc n) = at_shown g w n

put_shown : (g : CodeRun) (w : W) (n : ℕ) (r : Path) (e : Entry (Local ℕ))
    → put_number (shown_all g w) n (r, shown_entry g e) ≡ shown_all g (put_number w n (r, e))
put_shown g [] n r e = refl
put_shown g ((q, x) ∷ w) zero r e = refl
put_shown g ((q, x) ∷ w) (suc n) r e = ap (λ l. (q, shown_entry g x) ∷ l) (put_shown g w n r e)

more_shown : (g : CodeRun) (w : W) (r : Path) (e : Entry (Local ℕ))
    → shown_all g w ++ (r, shown_entry g e) ∷ [] ≡ shown_all g (w ++ (r, e) ∷ [])
more_shown g [] r e = refl
more_shown g ((q, x) ∷ w) r e = ap (λ l. (q, shown_entry g x) ∷ l) (more_shown g w r e)

pub as_many : (g : CodeRun) (w : W) → length (shown_all g w) ≡ length w
as_many g [] = refl
as_many g ((q, x) ∷ w) = ap suc (as_many g w)

-- the same put into both
put_plain : (g : CodeRun) (w : W) (n : ℕ) (r : Path) (l : Local ℕ)
    → put_number (shown_all g w) n (r, Plain (state_of g l)) ≡ shown_all g (put_number w n (r, Plain l))
put_plain g w n r l = put_shown g w n r (Plain l)

stopped : (g : CodeRun) (w : W) (n : ℕ) (r : Path) (l : Local ℕ) (m : ℕ) (q : Path) (lq : Local ℕ) (v : Wish (Local ℕ))
    → join_stopped states (shown_all g w) n r (state_of g l) m q (state_of g lq) (told g v)
    ≡ shown_some g (join_stopped (numbered g) w n r l m q lq v)
stopped g w n r l m q lq (Goes x) = refl
stopped g w n r l m q lq (Bears f c) = refl
stopped g w n r l m q lq (Wants k) = refl
stopped g w n r l m q lq Stops =
    ap (λ u. Some (Listing (put_number u m (q, Joined (state_of g lq))))) (put_plain g w n r ((numbered g).join l m lq))
    ∙ ap (λ u. Some (Listing u)) (put_shown g (put_number w n (r, Plain ((numbered g).join l m lq))) m q (Joined lq))

joins : (g : CodeRun) (w : W) (n : ℕ) (r : Path) (l : Local ℕ) (m : ℕ) (o : Option (Path × Entry (Local ℕ)))
    → join_number states (shown_all g w) n r (state_of g l) m (shown_at g o)
    ≡ shown_some g (join_number (numbered g) w n r l m o)
joins g w n r l m None = refl
joins g w n r l m (Some (q, Joined lq)) = refl
joins g w n r l m (Some (q, Plain lq)) = stopped g w n r l m q lq ((numbered g).next lq)

legs_of : (g : CodeRun) (w : W) (n : ℕ) (r : Path) (l : Local ℕ) (v : Wish (Local ℕ))
    → leg_of states (shown_all g w) n r (state_of g l) (told g v) ≡ shown_some g (leg_of (numbered g) w n r l v)
legs_of g w n r l (Goes x) = ap (λ u. Some (Listing u)) (put_plain g w n r x)
legs_of g w n r l (Bears f c) =
    ap (λ k. Some (Listing
    (put_number (shown_all g w) n (r, Plain (state_of g (f k))) ++ (child r l.state.forks, Plain (state_of g c)) ∷ [])))
    (as_many g w)
    ∙ (ap (λ u. Some (Listing (u ++ (child r l.state.forks, Plain (state_of g c)) ∷ [])))
    (put_plain g w n r (f (length w)))
    ∙ ap (λ u. Some (Listing u))
    (more_shown g (put_number w n (r, Plain (f (length w)))) (child r l.state.forks) (Plain c)))
legs_of g w n r l (Wants m) =
    ap (join_number states (shown_all g w) n r (state_of g l) m) (at_shown g w m) ∙ joins g w n r l m (at_number w m)
legs_of g w n r l Stops = refl

legs_at : (g : CodeRun) (w : W) (n : ℕ) (o : Option (Path × Entry (Local ℕ)))
    → leg_at states (shown_all g w) n (shown_at g o) ≡ shown_some g (leg_at (numbered g) w n o)
legs_at g w n None = refl
legs_at g w n (Some (r, Joined l)) = refl
legs_at g w n (Some (r, Plain l)) = legs_of g w n r l ((numbered g).next l)

pub legs : (g : CodeRun) (v : World (Local ℕ)) (n : ℕ) → leg states (shown g v) n ≡ shown_some g (leg (numbered g) v n)
legs g Both n = refl
legs g (Listing w) n = ap (leg_at states (shown_all g w) n) (at_shown g w n) ∙ legs_at g w n (at_number w n)

go_on : (g : CodeRun) (o : Option (World (Local ℕ))) (ns : List ℕ)
    → goes_on states (shown_some g o) ns ≡ shown_some g (goes_on (numbered g) o ns)
go_on g None ns = refl
go_on g (Some v) [] = refl
go_on g (Some v) (n ∷ ns) = ap (λ o. goes_on states o ns) (legs g v n) ∙ go_on g (leg (numbered g) v n) ns

pub replays : (g : CodeRun) (main : Local ℕ) (ns : List ℕ)
    → replay states (state_of g main) ns ≡ shown_some g (replay (numbered g) main ns)
replays g main ns = go_on g (Some (Listing (([], Plain main) ∷ []))) ns
