use Rattle.std.proofs.Common.{rules, ap, ap₂, ◌≡◌, ◌∙◌, codes, true}
use Rattle.std.proofs.lemmas.Result.{IfOk-weaker}
use Rattle.clap.specs.Words.{App, app_of, new_app, rule_of, with_rule}
use Rattle.clap.specs.Simple.{app_of_fields}
use Rattle.clap.specs.declared.builder.command.Command.{Command}
use Rattle.clap.specs.declared.builder.command.Command.TheOpen.{Command-F}
use Rattle.solve_words.specs.Reading.{script_rule}
use Rattle.solve_words.proofs.words.command.Goals as goal

abbrev set : App → App
set a = record a { top = record a.top { no_binary_name = true; disable_help_flag = true } }

pub returns : goal.returns
returns c =
    let script : rule_of c.action-script.result ≡ script_rule = search rules in
    let start : app_of c.disable_help_flag.result ≡ set (new_app (codes "simsat")) =
    ap app_of_fields c.disable_help_flag.ensures ∙ ap (λ (f : Command-F Command). app_of_fields (record f { disable_help_flag = true })) c.no_binary_name.ensures ∙ ap set c.new-2.ensures.app in
    let one = c.in_ok-arg.ensures.shape (search rules) ∙ ap₂ with_rule start script in
    let two = c.in_ok-arg-2.ensures.shape c.option.ensures.local ∙ ap₂ with_rule one c.option.ensures.rule in
    let three = c.in_ok-arg-3.ensures.shape c.option-2.ensures.local ∙ ap₂ with_rule two c.option-2.ensures.rule in
    let four = c.in_ok-arg-4.ensures.shape c.option-3.ensures.local ∙ ap₂ with_rule three c.option-3.ensures.rule in
    let five = c.in_ok-arg-5.ensures.shape c.option-4.ensures.local ∙ ap₂ with_rule four c.option-4.ensures.rule in
    IfOk-weaker c.arg-6.result _ _ (λ r added. added.shape c.option-5.ensures.local ∙ ap₂ with_rule five c.option-5.ensures.rule) c.arg-6.ensures
