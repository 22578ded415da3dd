-- The printed line of a script's fault.
use Rattle.std.specs.Prelude.{ℕ, ◌++◌, List, [], codes, decimal}
use Rattle.ss_names.specs.Kind.{kind_number, kind_name}
use Rattle.ss_names.specs.declared.ScriptFault.{ScriptFault}
use Rattle.ss_names.specs.declared.ScriptFault.TheVariants.{Bad, Memory}

-- kind, name, line, column
abbrev pub refusal_text : ScriptFault → List ℕ
refusal_text (Bad kind line column) =
    codes "refused " ++ (decimal (kind_number kind) ++ (codes " " ++ (kind_name kind ++ (codes " " ++ (decimal line ++ (codes " " ++ (decimal column ++ codes "\n")))))))
refusal_text Memory = []
