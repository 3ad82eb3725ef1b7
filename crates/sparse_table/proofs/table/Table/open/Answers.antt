-- Answers of Table::open: all words are blank but first words, flags and the word 0, and so they meet the rule.
use Rattle.std.proofs.Common.{◌≡◌, ℕ, ◌+◌, ◌*◌, ◌/◌, ◌^◌, List, [], length, get_or, set, sym, refl, ap, ◌∙◌}
use Rattle.std.proofs.Common.{subst, arith, rules, length-set, get_or-set_other}
use Rattle.std.specs.Prelude.{replicate}
use Rattle.sparse_table.specs.Words.{blank, laid, opening}
use Rattle.sparse_table.specs.Parts.{Rules, resting}
use Rattle.sparse_table.proofs.Opened.{bare_words, started, bare_long, started_long, blank_at, zero_at, opened}
use Rattle.sparse_table.proofs.table.Table.open.Goals as goal

-- the words after the loop
written : (len shift : ℕ) (items old : List ℕ) → old ≡ replicate (len + 2 * (len / 2 ^ shift + 1)) blank
    → items ≡ laid old len (replicate (2 * (len / 2 ^ shift + 1)) 0) → items ≡ bare_words len shift 0
written len shift items old was is = is ∙ ap (λ (xs : List ℕ). laid xs len (replicate (2 * (len / 2 ^ shift + 1)) 0))
    was

pub put-requires : goal.put-requires
put-requires g c = let len : ℕ = c.args.len in let by : ℕ = c.shift_of-shift.result in
    let pos = c.requires.sizes.0 in let items : List ℕ = c.write_zeros.new.span.items in
    let is = written len by items c.in_ok-span.span.items c.in_ok-span.ensures.0 c.write_zeros.ensures.1 in (
      (let long = ap length is ∙ bare_long len by 0 in omega arith),
      (let q = ap (λ (xs : List ℕ). get_or xs 0 0) is ∙ blank_at len by 0 0 pos in omega arith),
    )

pub put-requires-2 : goal.put-requires-2
put-requires-2 g c = let len : ℕ = c.args.len in let by : ℕ = c.shift_of-shift.result in
    let pos = c.requires.sizes.0 in let items : List ℕ = c.write_zeros.new.span.items in
    let is = written len by items c.in_ok-span.span.items c.in_ok-span.ensures.0 c.write_zeros.ensures.1 in
    let e = c.put.ensures.1 in (
      (let long = ap length e ∙ (length-set items 0 0 ∙ (ap length is ∙ bare_long len by 0)) in omega arith),
      (let q = ap (λ (xs : List ℕ). get_or xs len 0) e ∙ (get_or-set_other items 0 len 0 0 (λ z. omega arith)
          ∙ (ap (λ (xs : List ℕ). get_or xs len 0) is ∙ zero_at len by 0 len (omega arith))) in omega arith),
    )

pub deal-words-requires : goal.deal-words-requires
deal-words-requires g c = let len : ℕ = c.args.len in let by : ℕ = c.shift_of-shift.result in
    let items : List ℕ = c.write_zeros.new.span.items in let z = c.requires.sizes in let b = c.requires.bare in
    let is = written len by items c.in_ok-span.span.items c.in_ok-span.ensures.0 c.write_zeros.ensures.1 in
    let last : c.put-2.new.self.items ≡ started len by c.args.first = c.put-2.ensures.1 ∙ ap
    (λ (xs : List ℕ). set xs len c.args.first) (c.put.ensures.1 ∙ ap (λ (xs : List ℕ). set xs 0 0) is) in
    subst (λ (xs : List ℕ). Rules (g.P.PartRule.holds c.args.about) g.P.PartRule.makes g.P.PartRule.needs len
    c.args.width by (opening xs (resting len c.args.width by [] (g.P.PartRule.first c.args.about)))) (sym last)
    (opened (g.P.PartRule.holds c.args.about) g.P.PartRule.makes g.P.PartRule.needs len c.args.width by c.args.first
    (g.P.PartRule.first c.args.about) (search rules)
    (z.3, c.shift_of-shift.ensures.0, z.2, z.0) b.0 b.1 c.requires.rule)

pub invariant_of-table : goal.invariant_of-table
invariant_of-table g c = let len : ℕ = c.args.len in let by : ℕ = c.shift_of-shift.result in
    let items : List ℕ = c.write_zeros.new.span.items in let z = c.requires.sizes in
    let w = c.deal-words.ensures.words in let r = c.in_ok-span.ensures in let key = w.2 in
    let is = written len by items c.in_ok-span.span.items r.0 c.write_zeros.ensures.1 in
    let last : c.put-2.new.self.items ≡ started len by c.args.first = c.put-2.ensures.1 ∙ ap
    (λ (xs : List ℕ). set xs len c.args.first) (c.put.ensures.1 ∙ ap (λ (xs : List ℕ). set xs 0 0) is) in record {
      keyed = (
        (λ i. (key i).words),
        (λ i. (key i).width),
        (λ i. (key i).shift),
        w.0 ∙ (ap length last
            ∙ started_long len by c.args.first),
        refl,
      );
      sized = (z.0, z.1, z.2, z.3, c.shift_of-shift.ensures.0, c.shift_of-shift.ensures.1);
      owed = (r.1, r.2 ∙ sym (w.1 ∙ (c.put-2.ensures.0 ∙ (c.put.ensures.0 ∙ c.write_zeros.ensures.0))), r.3);
    }
