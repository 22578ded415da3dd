-- How `clap` is told of the arguments, and what it finds for each.
use Rattle.std.specs.Prelude.{List, [], ◌∷◌, Some, codes, option_map, true}
use Rattle.clap.specs.Words.{App, Rule, first_value, new_app, new_rule}
use Rattle.clap.specs.declared.builder.action.ArgAction.TheVariants.{Set}
use Rattle.clap.specs.declared.parser.matches.Found.{Found}
use Rattle.solve_words.specs.declared.words.Given.{Given}
use Rattle.solve_words.specs.Seen.{text_of}
use Rattle.solve_words.specs.Words.{Settings, Word}

-- ---- what it is told

-- an argument that takes a value, and is no option
abbrev pub script_rule : Rule
script_rule = record (new_rule (codes "script")) { action = Some Set }

-- an option that takes a value
abbrev pub option_rule : Word → Rule
option_rule name = record (new_rule name) { long = Some name; action = Some Set }

abbrev pub rules : List Rule
rules = script_rule ∷ option_rule (codes "strategy") ∷ option_rule (codes "journal") ∷ option_rule (codes "workers") ∷ option_rule (codes "rounds")
    ∷ option_rule (codes "generate") ∷ []

abbrev pub command : App
command = record {
  top = record (new_app (codes "simsat")).top {
    rules = rules;
    no_binary_name = true;
    disable_help_flag = true;
  };
  subs = [];
}

-- ---- what it finds

-- the settings in these words
abbrev pub settings_of : Given → Settings
settings_of g = record {
  script = option_map text_of g.script;
  strategy = option_map text_of g.strategy;
  journal = option_map text_of g.journal;
  workers = option_map text_of g.workers;
  rounds = option_map text_of g.rounds;
  generate = option_map text_of g.generate;
}

-- the settings in what a parse found
abbrev pub settings_in : Found → Settings
settings_in f = record {
  script = first_value f (codes "script");
  strategy = first_value f (codes "strategy");
  journal = first_value f (codes "journal");
  workers = first_value f (codes "workers");
  rounds = first_value f (codes "rounds");
  generate = first_value f (codes "generate");
}
