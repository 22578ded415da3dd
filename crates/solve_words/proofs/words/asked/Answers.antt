use Rattle.std.proofs.Common.{ap, ◌∙◌, map}
use Rattle.std.proofs.lemmas.Result.{IfOk-weaker}
use Rattle.std.specs.Prelude.{option_map, string_bytes}
use Rattle.clap.specs.Words.{app_of, found_of, kind_of}
use Rattle.solve_words.specs.Seen.{asking_of}
use Rattle.solve_words.specs.Words.{asking_by}
use Rattle.solve_words.proofs.Final.{not_taken, taken}
use Rattle.solve_words.proofs.words.asked.Goals as goal

pub returns-in-Ok-try_get_matches_from : goal.returns-in-Ok-try_get_matches_from
returns-in-Ok-try_get_matches_from c =
    c.meaning.ensures ∙ ap asking_by c.words_found.ensures
    ∙ taken (app_of c.in-Ok.command) (map string_bytes c.args.words.now) (found_of c.in-Ok-try_get_matches_from.found) c.in-Ok.ensures
    (λ simple. (c.in-Ok-try_get_matches_from.ensures.matches simple).0) c.in-Ok-try_get_matches_from.ensures.kinds

pub returns-in-Err-try_get_matches_from : goal.returns-in-Err-try_get_matches_from
returns-in-Err-try_get_matches_from c =
    IfOk-weaker c.refused.result _ _
    (λ a h. ap (option_map asking_of) h.0
    ∙ not_taken (app_of c.in-Ok.command) (map string_bytes c.args.words.now) (kind_of c.in-Err-try_get_matches_from.error) c.in-Ok.ensures c.in-Err-try_get_matches_from.ensures.kinds h.1) c.refused.ensures
