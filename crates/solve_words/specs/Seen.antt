-- What the answer says, without where its texts lie in memory.
use Rattle.std.specs.Prelude.{ℕ, List, option_map}
use Rattle.std.specs.Borrow.{Bor}
use Rattle.solve_words.specs.declared.words.Names.{Names}
use Rattle.solve_words.specs.declared.words.Asking.{Asking}
use Rattle.solve_words.specs.declared.words.Asking.TheVariants.{Solve, Generate}
use Rattle.solve_words.specs.Words as words

abbrev pub text_of : Bor (List ℕ) → words.Word
text_of s = s.now

abbrev pub names_of : Names → words.Names
names_of n = record {
  script = text_of n.script;
  strategy = text_of n.strategy;
  journal = option_map text_of n.journal;
  workers = n.workers;
  rounds = n.rounds;
}

abbrev pub asking_of : Asking → words.Asking
asking_of (Solve n) = words.solve (names_of n)
asking_of (Generate size rounds) = words.generate size rounds
