-- A table of words, as contracts see it.
use Rattle.std.specs.Prelude.{ℕ, List}
use Rattle.ss_names.specs.declared.table.Names.{Names}
use Rattle.ss_names.specs.Words.{words_of}

-- the words in the order of their rows
abbrev pub words : {n : ℕ} → Names n → List (List ℕ)
words t = words_of t.lens t.text.now
