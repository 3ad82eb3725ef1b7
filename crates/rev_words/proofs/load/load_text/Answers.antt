-- Answers of load_text: the five parts in a row are the text by definition, which is short at any size.
use Rattle.std.proofs.Common.{◌≡◌, ◌∙◌, ◌≤◌, ap, length, subst, sym, rules, arith}
use Rattle.std.specs.String.{string_bytes}
use Rattle.rev_words.specs.Load.{declarations, lines, load_text}
use Rattle.rev_words.proofs.Loads.{load_text-short, whole-text}
use Rattle.rev_words.proofs.load.load_text.Goals as goal

pub returns : goal.returns
returns c =
    let first : string_bytes c.append_declarations.new.text ≡ lines declarations = search rules in
    let whole : string_bytes c.append_prints.new.text ≡ load_text c.args.seed c.args.size =
    whole-text c.args.seed c.args.size first c.in_ok-append_statements.ensures
    c.in_ok-append_procedures.ensures
    c.in_ok-append_start.ensures c.in_ok-append_prints.ensures in
    let bytes : c.into_bytes.result.items ≡ load_text c.args.seed c.args.size =
    ap (λ v. v.items) c.into_bytes.ensures.value ∙ whole in
    record {
      text = bytes;
      short = subst (λ t. length t ≤ 1048576) (sym bytes) (load_text-short c.args.seed c.args.size (omega arith));
    }
