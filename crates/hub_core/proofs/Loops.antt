-- A round in the world of a schedule: the end of a revision, its join by another, and the next fork of that one.
use Rattle.std.proofs.Common.{◌≡◌, ◌≢◌, ℕ, suc, List, [], ◌∷◌, ◌++◌, length, Some, sym, refl, ap, ◌∙◌, subst}
use Rattle.revision_machine.specs.Numbered.{Goes, Bears, Wants, Numbered, Entries, Listing, at_number, put_number}
use Rattle.revision_machine.proofs.Paths.{some_inj}
use Rattle.revision_machine.proofs.Numbers.{length-paths}
use Rattle.revision_machine.proofs.Lists.{put_other, put_length, at_length}
use Rattle.hub_core.specs.declared.status.Status.TheVariants.{Ready, Out, Gone}
use Rattle.hub_core.specs.Replay.{state_after}
use Rattle.hub_core.specs.Hub.{Values, Statuses, AllFit, Tied, Forks, Joins, EndsLeg}
use Rattle.hub_core.proofs.Hub as hub
use Rattle.hub_core.proofs.Moves.{put_last, looped}

listed : {L : Type 0} → (w v : Entries L) → Listing w ≡ Listing v → w ≡ v
listed w v e = cc

module _ (N : Numbered) (V : Values N) where
  fits_length : (slots : Statuses N V) (w : Entries N.Local) → AllFit N V slots w → length slots ≡ length w
  fits_length [] [] all = refl
  fits_length [] (y ∷ w) all = absurd all
  fits_length (t ∷ slots) [] all = absurd all
  fits_length (t ∷ slots) (y ∷ w) all = ap suc (fits_length slots w all.1)

  module _ (main : N.Local) where
    -- each revision has a forker
    pub forkers_long : (log : List ℕ) (a : Statuses N V) (fs : List ℕ) → Tied N V main log a fs → length fs ≡ length a
    forkers_long log a fs t = t.forked.long ∙ (length-paths t.world ∙ sym (fits_length a t.world t.fits))

    -- two tables of one schedule are of one world
    pub as_long : (log : List ℕ) (a b : Statuses N V) (fs gs : List ℕ) → Tied N V main log a fs
        → Tied N V main log b gs → length a ≡ length b
    as_long log a b fs gs t u =
        fits_length a t.world t.fits
        ∙ (ap length (listed t.world u.world (some_inj (sym t.replays ∙ u.replays)))
        ∙ sym (fits_length b u.world u.fits))

    pub record AfterLoop (log : List ℕ) (slots : Statuses N V) (fs : List ℕ) (m k : ℕ) (f : ℕ → N.Local) (c : V.Runner)
        : Type 0 where
      pub apart : k ≢ m
      pub tied : Tied N V main (((log ++ m ∷ []) ++ k ∷ []) ++ k ∷ []) (looped slots m) (fs ++ k ∷ [])
      pub forker : state_after N main (((log ++ m ∷ []) ++ k ∷ []) ++ k ∷ []) k ≡ Some (f (length slots))
      pub child :
          state_after N main (((log ++ m ∷ []) ++ k ∷ []) ++ k ∷ []) (length slots) ≡ Some (V.runs c)

    pub looped_tied : (log : List ℕ) (slots : Statuses N V) (fs : List ℕ) → Tied N V main log slots fs
        → (m k : ℕ) (a : V.AtJoin) (e : V.End) (c : V.Runner) (f : ℕ → N.Local)
        → at_number slots m ≡ Some Out → at_number slots k ≡ Some Out → EndsLeg N V main log m e
        → Joins N V main log k a → V.on a ≡ m → N.next (V.joined a e) ≡ Bears f (V.runs c)
        → AfterLoop log slots fs m k f c
    looped_tied log slots fs t m k a e c f out_m out_k p q on bears =
        let apart : k ≢ m = λ is.
        let same : q.state ≡ p.state = some_inj (sym q.stands ∙ (ap (state_after N main log) is ∙ p.stands)) in
        let clash : Wants (V.on a) ≡ Goes p.last = sym q.comes.0 ∙ (ap N.next same ∙ p.goes) in cc in
        let s = hub.settled N V main log slots fs t m k a e out_m out_k p q on in
        let joined : Statuses N V = put_number slots m Gone in
        let here : at_number joined k ≡ Some Out = put_other slots m k Gone apart ∙ out_k in
        let forks : Forks N V main ((log ++ m ∷ []) ++ k ∷ []) k c =
        record { state = V.joined a e; forker = f; stands = s.1; bears = bears } in
        let g = hub.forked N V main ((log ++ m ∷ []) ++ k ∷ []) joined fs s.0 k c here forks in
        let long : length joined ≡ length slots = put_length slots m Gone in
        let h =
        hub.taken N V main (((log ++ m ∷ []) ++ k ∷ []) ++ k ∷ []) (joined ++ Ready c ∷ []) (fs ++ k ∷ []) g.0
        (length joined) c (at_length joined (Ready c) []) in
        record {
          apart = apart;
          tied = subst (λ z. Tied N V main (((log ++ m ∷ []) ++ k ∷ []) ++ k ∷ []) z (fs ++ k ∷ []))
              (put_last joined (Ready c) Out) h.0;
          forker = g.1 ∙ ap (λ i. Some (f i)) long;
          child = ap (state_after N main (((log ++ m ∷ []) ++ k ∷ []) ++ k ∷ [])) (sym long) ∙ g.2;
        }
