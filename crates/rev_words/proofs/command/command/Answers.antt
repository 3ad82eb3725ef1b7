-- Answers of command: two settings and then each argument in its turn build the command of the definition.
use Rattle.std.proofs.Common.{ap, ap₂, true, codes, ◌≡◌, ◌∙◌}
use Rattle.std.proofs.lemmas.Result.{IfOk-weaker}
use Rattle.clap.specs.Words.{app_of, new_app, with_rule}
use Rattle.clap.specs.Simple.{app_of_fields, on_top}
use Rattle.rev_words.specs.Command as spec
use Rattle.rev_words.proofs.command.command.Goals as goal

-- each argument in its turn
pub returns : goal.returns
unfolding spec.command
returns c =
    let named :
    app_of c.no_binary_name.result ≡ on_top (λ s. record s { no_binary_name = true }) (new_app (codes "revise")) =
    ap app_of_fields c.no_binary_name.ensures
    ∙ ap (on_top (λ s. record s { no_binary_name = true })) c.new.ensures.app in
    let bare : app_of c.disable_help_flag.result ≡ spec.bare (new_app (codes "revise")) =
    ap app_of_fields c.disable_help_flag.ensures ∙ ap (on_top (λ s. record s { disable_help_flag = true })) named in
    let a1 = c.in_ok-arg.ensures.shape c.mode_argument.ensures.local
    ∙ ap₂ with_rule bare c.mode_argument.ensures.rule in
    let a2 = c.in_ok-arg-2.ensures.shape c.numbers_argument.ensures.local
    ∙ ap₂ with_rule a1 c.numbers_argument.ensures.rule in
    let a3 = c.in_ok-arg-3.ensures.shape c.number_option.ensures.local
    ∙ ap₂ with_rule a2 c.number_option.ensures.rule in
    let a4 = c.in_ok-arg-4.ensures.shape c.number_option-2.ensures.local
    ∙ ap₂ with_rule a3 c.number_option-2.ensures.rule in
    let a5 = c.in_ok-arg-5.ensures.shape c.number_option-3.ensures.local
    ∙ ap₂ with_rule a4 c.number_option-3.ensures.rule in
    let a6 = c.in_ok-arg-6.ensures.shape c.number_option-4.ensures.local
    ∙ ap₂ with_rule a5 c.number_option-4.ensures.rule in
    let a7 = c.in_ok-arg-7.ensures.shape c.flag.ensures.local ∙ ap₂ with_rule a6 c.flag.ensures.rule in
    let a8 = c.in_ok-arg-8.ensures.shape c.text_option.ensures.local ∙ ap₂ with_rule a7 c.text_option.ensures.rule in
    let a9 = c.in_ok-arg-9.ensures.shape c.number_option-5.ensures.local
    ∙ ap₂ with_rule a8 c.number_option-5.ensures.rule in
    let a10 =
    c.in_ok-arg-10.ensures.shape c.number_option-6.ensures.local ∙ ap₂ with_rule a9 c.number_option-6.ensures.rule in
    IfOk-weaker c.arg-11.result _ _
    (λ r h. h.shape c.text_option-2.ensures.local ∙ ap₂ with_rule a10 c.text_option-2.ensures.rule) c.arg-11.ensures
