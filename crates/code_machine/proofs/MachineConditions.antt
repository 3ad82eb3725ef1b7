-- The machine of verified code, by paths and by numbers, keeps the conditions of revisions.
use Rattle.std.proofs.Common.{◌≡◌, ℕ, suc, ◌+◌, ◌≤◌, List, refl, ap, subst}
use Rattle.rev_num.specs.Path.{Path, child}
use Rattle.revision_machine.specs.Machine as revisions
use Rattle.revision_machine.specs.Numbered.{number_of, at_number, or_path, event_by, machine_by}
use Rattle.revision_machine.specs.Conditions.{Counts, Spends, PaysForks}
use Rattle.code_machine.specs.Local.{CodeRun, IsVerified, Local}
use Rattle.code_machine.specs.Machines.{Act, Goes, Bears, Wants, Stops, act, wish_of, machine, numbered}
use Rattle.code_machine.specs.Weights.{weight, pay}
use Rattle.code_machine.proofs.Holding.{of_moves, of_forks, of_joins}
use Rattle.code_machine.proofs.Paying.{MoveOk, BearOk, WantOk, ActOk, act_ok, join_ok, join_keeps_forks}

module _ (g : CodeRun) (ok : IsVerified g) where
  module _ {H : Type 0} (l : Local H) where
    went : (l' : Local H) → act g l ≡ Goes l' → MoveOk g l l'
    went l' e = subst (ActOk g l) e (act_ok g ok l)

    bore : (u : H → Local H) (c : Local H) → act g l ≡ Bears u c → BearOk g l u c
    bore u c e = subst (ActOk g l) e (act_ok g ok l)

    wanted : (q : H) → act g l ≡ Wants q → WantOk g l
    wanted q e = subst (ActOk g l) e (act_ok g ok l)

  -- ---- by paths

  -- a fork that is told its child's handle
  record BirthOk {H : Type 0} (l l' c : Local H) : Type 0 where
    forks : l'.state.forks ≡ suc l.state.forks
    none : c.state.forks ≡ 0
    weighs : weight g l' + weight g c + 1 ≤ weight g l
    pays : pay g l' + pay g c + 1 ≤ pay g l

  birth : {H : Type 0} (l l' c : Local H) (u : H → Local H) (h : H) → act g l ≡ Bears u c → u h ≡ l' → BirthOk l l' c
  birth l l' c u h e is =
      let b = bore l u c e in
      subst (λ z. BirthOk l z c) is (record { forks = b.forks h; none = b.none; weighs = b.weight h; pays = b.pay h })

  born : (r : Path) (l l' c : Local Path) → (machine g).next r l ≡ revisions.Forks l' c → BirthOk l l' c
  born r l l' c e =
      let b = of_forks r l.state.forks (act g l) l' c e in birth l l' c b.0 (child r l.state.forks) b.1 b.2

  pub counts : Counts (machine g)
  counts = record {
    moves = λ r l l' e. (went l l' (of_moves r l.state.forks (act g l) l' e)).forks;
    forker = λ r l l' c e. (born r l l' c e).forks;
    forked = λ r l l' c e. (born r l l' c e).none;
    joins = λ r q l lq e. join_keeps_forks g l lq;
  }

  pub spends : Spends (machine g) 1 (λ l. weight g l)
  spends = record {
    moves = λ r l l' e. (went l l' (of_moves r l.state.forks (act g l) l' e)).weight;
    forks = λ r l l' c e. (born r l l' c e).weighs;
    wants = λ r q l e. (wanted l q (of_joins r l.state.forks (act g l) q e)).weight;
    joins = λ r q l lq e f. (join_ok g ok l lq (wanted l q (of_joins r l.state.forks (act g l) q e)).works).weight;
  }

  pub pays : PaysForks (machine g) (λ l. pay g l)
  pays = record {
    moves = λ r l l' e. (went l l' (of_moves r l.state.forks (act g l) l' e)).pay;
    forks = λ r l l' c e. (born r l l' c e).pays;
    joins = λ r q l lq e f. (join_ok g ok l lq (wanted l q (of_joins r l.state.forks (act g l) q e)).works).pay;
  }

  -- ---- by numbers, for any table of paths

  module _ (t : List Path) where
    pub by_moves : (r : Path) (k : ℕ) (a : Act ℕ) (l' : Local ℕ) → event_by t r k (wish_of a) ≡ revisions.Moves l'
        → a ≡ Goes l'
    by_moves r k (Goes l) l' e =
        (let z : l ≡ l' = (let w : revisions.Moves l ≡ revisions.Moves l' = e in cc) in ap Goes z)
    by_moves r k (Bears u c) l' e =
        absurd (let w : revisions.Forks (u (number_of t (child r k))) c ≡ revisions.Moves l' = e in cc)
    by_moves r k (Wants m) l' e =
        absurd (let w : revisions.Joins (or_path (at_number t m) r) ≡ revisions.Moves l' = e in cc)
    by_moves r k Stops l' e = absurd (let w : revisions.Ended ≡ revisions.Moves l' = e in cc)

    pub by_forks : (r : Path) (k : ℕ) (a : Act ℕ) (l' c : Local ℕ) → event_by t r k (wish_of a) ≡ revisions.Forks l' c
        → (u : ℕ → Local ℕ) × (a ≡ Bears u c) × (u (number_of t (child r k)) ≡ l')
    by_forks r k (Bears u d) l' c e =
        let z : d ≡ c = (let w : revisions.Forks (u (number_of t (child r k))) d ≡ revisions.Forks l' c = e in cc) in
        let y : u (number_of t (child r k)) ≡ l' =
        (let w : revisions.Forks (u (number_of t (child r k))) d ≡ revisions.Forks l' c = e in cc) in
        (u, ap (Bears u) z, y)
    by_forks r k (Goes l) l' c e = absurd (let w : revisions.Moves l ≡ revisions.Forks l' c = e in cc)
    by_forks r k (Wants m) l' c e =
        absurd (let w : revisions.Joins (or_path (at_number t m) r) ≡ revisions.Forks l' c = e in cc)
    by_forks r k Stops l' c e = absurd (let w : revisions.Ended ≡ revisions.Forks l' c = e in cc)

    by_joins : (r : Path) (k : ℕ) (a : Act ℕ) (q : Path) → event_by t r k (wish_of a) ≡ revisions.Joins q
        → (m : ℕ) × (a ≡ Wants m)
    by_joins r k (Wants m) q e = (m, refl)
    by_joins r k (Goes l) q e = absurd (let w : revisions.Moves l ≡ revisions.Joins q = e in cc)
    by_joins r k (Bears u c) q e =
        absurd (let w : revisions.Forks (u (number_of t (child r k))) c ≡ revisions.Joins q = e in cc)
    by_joins r k Stops q e = absurd (let w : revisions.Ended ≡ revisions.Joins q = e in cc)

    born_by : (r : Path) (l l' c : Local ℕ) → (machine_by (numbered g) t).next r l ≡ revisions.Forks l' c
        → BirthOk l l' c
    born_by r l l' c e =
        let b = by_forks r l.state.forks (act g l) l' c e in
        birth l l' c b.0 (number_of t (child r l.state.forks)) b.1 b.2

    pub named_counts : Counts (machine_by (numbered g) t)
    named_counts = record {
      moves = λ r l l' e. (went l l' (by_moves r l.state.forks (act g l) l' e)).forks;
      forker = λ r l l' c e. (born_by r l l' c e).forks;
      forked = λ r l l' c e. (born_by r l l' c e).none;
      joins = λ r q l lq e. join_keeps_forks g l lq;
    }

    pub named_spends : Spends (machine_by (numbered g) t) 1 (λ l. weight g l)
    named_spends = record {
      moves = λ r l l' e. (went l l' (by_moves r l.state.forks (act g l) l' e)).weight;
      forks = λ r l l' c e. (born_by r l l' c e).weighs;
      wants = λ r q l e. let b = by_joins r l.state.forks (act g l) q e in (wanted l b.0 b.1).weight;
      joins = λ r q l lq e f.
          let b = by_joins r l.state.forks (act g l) q e in (join_ok g ok l lq (wanted l b.0 b.1).works).weight;
    }

    pub named_pays : PaysForks (machine_by (numbered g) t) (λ l. pay g l)
    named_pays = record {
      moves = λ r l l' e. (went l l' (by_moves r l.state.forks (act g l) l' e)).pay;
      forks = λ r l l' c e. (born_by r l l' c e).pays;
      joins = λ r q l lq e f.
          let b = by_joins r l.state.forks (act g l) q e in (join_ok g ok l lq (wanted l b.0 b.1).works).pay;
    }
