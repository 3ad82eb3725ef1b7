-- Answers of append_var: the five pieces that are appended one after another are the bytes of the variable.
use Rattle.std.proofs.Common.{◌∙◌, ◌++◌, ap}
use Rattle.code_file.specs.Files.{text_bytes, var_bytes}
use Rattle.code_file.proofs.Joined.{five}
use Rattle.code_file.proofs.write.append_var.Goals as goal

pub returns : goal.returns
unfolding var_bytes
returns c =
    five c.args.out.now.items c.append_text.new.out.items c.append_sorts.new.out.items c.append_32.new.out.items
    c.append_64.new.out.items c.append_16.new.out.items
    (text_bytes c.args.var.now.name) _ _ _ _
    (c.in_ok-append_text.ensures ∙ ap (λ name. c.args.out.now.items ++ text_bytes name) c.as_slice.ensures)
    c.in_ok-append_sorts.ensures c.in_ok-append_32.ensures c.in_ok-append_64.ensures c.in_ok-append_16.ensures
