-- A table of revisions stands for a world, also after a write and with one more.
use Rattle.std.proofs.Common.{◌≡◌, ◌⊎◌, inl, inr, ◌∙◌, ℕ, zero, suc, ◌+◌, ◌≤◌, List, [], ◌∷◌, ◌++◌, length, Some, None, refl, sym, ap, subst, arith}
use Rattle.rev_num.specs.Path.{Path, child}
use Rattle.revision_machine.specs.Machine.{Entry}
use Rattle.revision_machine.specs.Laws.{local_of}
use Rattle.revision_machine.specs.Numbered.{Entries, at_number, put_number}
use Rattle.code_machine.specs.Local.{CodeRun, Local}
use Rattle.code_world.specs.declared.slot.WorldSlot.{WorldSlot}
use Rattle.code_world.specs.declared.table.Birth.{Birth}
use Rattle.code_world.specs.Slots.{IsEntry}
use Rattle.code_world.specs.Tables.{AreSlots, AreForks, HasPath, AreNamed, forks_of}
use Rattle.code_world.specs.Turns.{born, forked_once}
pub use Rattle.rev_num.proofs.Options.{none_some, some_eq as some_same}
use Rattle.revision_machine.proofs.Lists.{at_front, at_length, at_more, at_below, at_put, put_length}

-- ---- lists

module _ {A : Type 0} where
  pub more_length : (xs : List A) (x : A) → length (xs ++ x ∷ []) ≡ suc (length xs)
  more_length [] x = refl
  more_length (y ∷ xs) x = ap suc (more_length xs x)

-- ---- slots

module _ (g : CodeRun) where
  pub slot_at : (ss : List WorldSlot) (w : Entries (Local ℕ)) → AreSlots g ss w → (n : ℕ) (s : WorldSlot)
      → at_number ss n ≡ Some s
      → (r : Path) × (e : Entry (Local ℕ)) × (at_number w n ≡ Some (r, e)) × IsEntry g s e
  slot_at [] [] h n s e = none_some e
  slot_at (x ∷ ss) (y ∷ w) h zero s e = (y.0, y.1, refl, subst (λ k. IsEntry g k y.1) (some_same e) h.0)
  slot_at (x ∷ ss) (y ∷ w) h (suc n) s e = slot_at ss w h.1 n s e
  slot_at [] (y ∷ w) h n s e = absurd h
  slot_at (x ∷ ss) [] h n s e = absurd h

  pub slot_none : (ss : List WorldSlot) (w : Entries (Local ℕ)) → AreSlots g ss w → (n : ℕ) → at_number ss n ≡ None
      → at_number w n ≡ None
  slot_none [] [] h n e = refl
  slot_none (x ∷ ss) (y ∷ w) h zero e = none_some (sym e)
  slot_none (x ∷ ss) (y ∷ w) h (suc n) e = slot_none ss w h.1 n e
  slot_none [] (y ∷ w) h n e = absurd h
  slot_none (x ∷ ss) [] h n e = absurd h

  pub slots_many : (ss : List WorldSlot) (w : Entries (Local ℕ)) → AreSlots g ss w → length ss ≡ length w
  slots_many [] [] h = refl
  slots_many (x ∷ ss) (y ∷ w) h = ap suc (slots_many ss w h.1)
  slots_many [] (y ∷ w) h = absurd h
  slots_many (x ∷ ss) [] h = absurd h

  pub slots_put : (ss : List WorldSlot) (w : Entries (Local ℕ)) → AreSlots g ss w
      → (n : ℕ) (s : WorldSlot) (r : Path) (e : Entry (Local ℕ)) → IsEntry g s e
      → AreSlots g (put_number ss n s) (put_number w n (r, e))
  slots_put [] [] h n s r e is = tt
  slots_put (x ∷ ss) (y ∷ w) h zero s r e is = (is, h.1)
  slots_put (x ∷ ss) (y ∷ w) h (suc n) s r e is = (h.0, slots_put ss w h.1 n s r e is)
  slots_put [] (y ∷ w) h n s r e is = absurd h
  slots_put (x ∷ ss) [] h n s r e is = absurd h

  pub slots_more : (ss : List WorldSlot) (w : Entries (Local ℕ)) → AreSlots g ss w
      → (s : WorldSlot) (r : Path) (e : Entry (Local ℕ)) → IsEntry g s e
      → AreSlots g (ss ++ s ∷ []) (w ++ (r, e) ∷ [])
  slots_more [] [] h s r e is = (is, tt)
  slots_more (x ∷ ss) (y ∷ w) h s r e is = (h.0, slots_more ss w h.1 s r e is)
  slots_more [] (y ∷ w) h s r e is = absurd h
  slots_more (x ∷ ss) [] h s r e is = absurd h

-- ---- forks

pub forks_at : (bs : List Birth) (w : Entries (Local ℕ)) → AreForks bs w → (n : ℕ) (b : Birth) → at_number bs n ≡ Some b
    → (r : Path) (e : Entry (Local ℕ)) → at_number w n ≡ Some (r, e)
    → b.forks ≡ (local_of e).state.forks
forks_at [] [] h n b i r e j = none_some i
forks_at (x ∷ bs) (y ∷ w) h zero b i r e j =
    ap (λ k. k.forks) (sym (some_same i)) ∙ h.0 ∙ ap (λ k. (local_of {L = Local ℕ} k.1).state.forks) (some_same j)
forks_at (x ∷ bs) (y ∷ w) h (suc n) b i r e j = forks_at bs w h.1 n b i r e j
forks_at [] (y ∷ w) h n b i r e j = absurd h
forks_at (x ∷ bs) [] h n b i r e j = absurd h

pub births_many : (bs : List Birth) (w : Entries (Local ℕ)) → AreForks bs w → length bs ≡ length w
births_many [] [] h = refl
births_many (x ∷ bs) (y ∷ w) h = ap suc (births_many bs w h.1)
births_many [] (y ∷ w) h = absurd h
births_many (x ∷ bs) [] h = absurd h

-- a revision that goes on, with as many forks
pub forks_kept : (bs : List Birth) (w : Entries (Local ℕ)) → AreForks bs w
    → (n : ℕ) (r q : Path) (e f : Entry (Local ℕ)) → at_number w n ≡ Some (r, e)
    → (local_of f).state.forks ≡ (local_of e).state.forks → AreForks bs (put_number w n (q, f))
forks_kept [] [] h n r q e f i same = tt
forks_kept (x ∷ bs) (y ∷ w) h zero r q e f i same =
    (h.0 ∙ ap (λ k. (local_of {L = Local ℕ} k.1).state.forks) (some_same i) ∙ sym same, h.1)
forks_kept (x ∷ bs) (y ∷ w) h (suc n) r q e f i same = (h.0, forks_kept bs w h.1 n r q e f i same)
forks_kept [] (y ∷ w) h n r q e f i same = absurd h
forks_kept (x ∷ bs) [] h n r q e f i same = absurd h

pub forks_put : (bs : List Birth) (w : Entries (Local ℕ)) → AreForks bs w
    → (n : ℕ) (b : Birth) (r : Path) (e : Entry (Local ℕ)) → b.forks ≡ (local_of e).state.forks
    → AreForks (put_number bs n b) (put_number w n (r, e))
forks_put [] [] h n b r e is = tt
forks_put (x ∷ bs) (y ∷ w) h zero b r e is = (is, h.1)
forks_put (x ∷ bs) (y ∷ w) h (suc n) b r e is = (h.0, forks_put bs w h.1 n b r e is)
forks_put [] (y ∷ w) h n b r e is = absurd h
forks_put (x ∷ bs) [] h n b r e is = absurd h

pub forks_more : (bs : List Birth) (w : Entries (Local ℕ)) → AreForks bs w
    → (b : Birth) (r : Path) (e : Entry (Local ℕ)) → b.forks ≡ (local_of e).state.forks
    → AreForks (bs ++ b ∷ []) (w ++ (r, e) ∷ [])
forks_more [] [] h b r e is = (is, tt)
forks_more (x ∷ bs) (y ∷ w) h b r e is = (h.0, forks_more bs w h.1 b r e is)
forks_more [] (y ∷ w) h b r e is = absurd h
forks_more (x ∷ bs) [] h b r e is = absurd h

pub sum_put : (bs : List Birth) (n : ℕ) (b d : Birth) → at_number bs n ≡ Some b
    → forks_of (put_number bs n d) + b.forks ≡ forks_of bs + d.forks
sum_put [] n b d e = none_some e
sum_put (x ∷ bs) zero b d e = let s : x.forks ≡ b.forks = ap (λ k. k.forks) (some_same e) in omega (arith, s)
sum_put (x ∷ bs) (suc n) b d e = let h = sum_put bs n b d e in omega (arith, h)

pub sum_more : (bs : List Birth) (b : Birth) → forks_of (bs ++ b ∷ []) ≡ forks_of bs + b.forks
sum_more [] b = omega arith
sum_more (x ∷ bs) b = let h = sum_more bs b in omega (arith, h)

pub sum_one : (bs : List Birth) (n : ℕ) (b : Birth) → at_number bs n ≡ Some b → b.forks ≤ forks_of bs
sum_one [] n b e = none_some e
sum_one (x ∷ bs) zero b e = let s : x.forks ≡ b.forks = ap (λ k. k.forks) (some_same e) in omega (arith, s)
sum_one (x ∷ bs) (suc n) b e = let h = sum_one bs n b e in omega (arith, h)

-- ---- paths

pub path_more : (ps : List Path) (p : Path) (n : ℕ) (b : Birth) → HasPath ps n b → HasPath (ps ++ p ∷ []) n b
path_more ps p zero b h = at_front ps (p ∷ []) 0 [] h
path_more ps p (suc n) b (q, le, of, is) =
    (q, le, at_front ps (p ∷ []) b.forker q of, at_front ps (p ∷ []) (suc n) (child q b.place) is)

-- one more fork of a revision, and its child
pub named_born : (bs : List Birth) (ps : List Path) → length bs ≡ length ps → AreNamed bs ps → (n : ℕ) (b : Birth)
    → at_number bs n ≡ Some b → (r : Path) → at_number ps n ≡ Some r
    → AreNamed (born bs n b) (ps ++ child r b.forks ∷ [])
named_born bs ps many named n b at r path m d e =
    by (at_more (put_number bs n (forked_once b)) (record { forker = n; place = b.forks; forks = 0 }) m d e)
  where
    kept : (at_number bs m ≡ Some d) ⊎ ((m ≡ n) × (d ≡ forked_once b)) → HasPath (ps ++ child r b.forks ∷ []) m d
    kept (inl h) = path_more ps (child r b.forks) m d (named m d h)
    kept (inr h) =
        subst (HasPath (ps ++ child r b.forks ∷ []) m) (sym h.1)
        (other m (path_more ps (child r b.forks) m b (named m b (ap (at_number bs) h.0 ∙ at))))
      where
        other : (k : ℕ) → HasPath (ps ++ child r b.forks ∷ []) k b
            → HasPath (ps ++ child r b.forks ∷ []) k (forked_once b)
        other zero h = h
        other (suc k) h = h

    last : (k : ℕ) → k ≡ length ps
        → HasPath (ps ++ child r b.forks ∷ []) k (record { forker = n; place = b.forks; forks = 0 })
    last zero is = absurd (let h = at_below ps n r path in omega (arith, h, is))
    last (suc k) is = (
      r,
      (let h = at_below ps n r path in omega (arith, h, is)),
      at_front ps (child r b.forks ∷ []) n r path,
      ap (at_number (ps ++ child r b.forks ∷ [])) is ∙ at_length ps (child r b.forks) [],
    )

    by : (at_number (put_number bs n (forked_once b)) m ≡ Some d)
        ⊎ ((m ≡ length (put_number bs n (forked_once b))) × (d ≡ record { forker = n; place = b.forks; forks = 0 }))
        → HasPath (ps ++ child r b.forks ∷ []) m d
    by (inl h) = kept (at_put bs n (forked_once b) m d h)
    by (inr h) = subst (HasPath (ps ++ child r b.forks ∷ []) m) (sym h.1)
        (last m (h.0 ∙ put_length bs n (forked_once b) ∙ many))
