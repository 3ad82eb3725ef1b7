-- Answers of Store::base_word: words of its own are the base of a hold without a chain, and else the walk finds it.
use Rattle.std.proofs.Common.{arith, rules, sym, ◌∙◌}
use Rattle.std.proofs.lemmas.List.{get_or_read_under}
use Rattle.segment_store.proofs.ChainWalks.{sound}
use Rattle.segment_store.proofs.Forks.{own_value}
use Rattle.segment_store.proofs.store.Store.base_word.Goals as goal

pub walk-requires-clause-chain : goal.walk-requires-clause-chain
walk-requires-clause-chain c = let r = c.requires.rests.0 in (r.head, r.deep, sound _ _ _ _ r.whole)

pub returns-in-Some-clause-value : goal.returns-in-Some-clause-value
returns-in-Some-clause-value c = let r = c.requires.rests in
    let own = r.1 c.in-Some.words c.in-Some.is in let own0 = own.0 in
    let w = c.args.self.now.wide in let w0 = w.0 in let l = c.requires.inside in
    let read = get_or_read_under c.in-Some.words.items c.args.location c.in-Some.words.len
    c.index.result.now 0 c.index.ensures (omega arith) (search rules) in
    read ∙ sym (own_value c.args.self.now.initial c.in-Some.words c.args.own.now
    c.args.location r.0 r.1 c.in-Some.is)
