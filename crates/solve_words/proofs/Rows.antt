-- Words and what they ask, worked out.
use Rattle.std.proofs.Common.{◌≡◌, ℕ, [], ◌∷◌, Option, Some, None, refl, codes}
use Rattle.solve_words.specs.Words.{Asking, Word, asking_by, generate, pieces, settings, solve, words_of}

abbrev run : Word → Word → Option Word → ℕ → ℕ → Option Asking
run script strategy journal workers rounds = Some (solve (record { script = script; strategy = strategy; journal = journal; workers = workers; rounds = rounds }))

-- ---- a script

script_and_strategy : words_of (codes "a" ∷ codes "--strategy" ∷ codes "s" ∷ []) ≡ run (codes "a") (codes "s") None 2 256
unfolding words_of pieces settings asking_by
script_and_strategy = refl

strategy_first : words_of (codes "--strategy" ∷ codes "s" ∷ codes "a" ∷ []) ≡ run (codes "a") (codes "s") None 2 256
unfolding words_of pieces settings asking_by
strategy_first = refl

strategy_in_one_word : words_of (codes "a" ∷ codes "--strategy=s" ∷ []) ≡ run (codes "a") (codes "s") None 2 256
unfolding words_of pieces settings asking_by
strategy_in_one_word = refl

journal : words_of (codes "a" ∷ codes "--strategy" ∷ codes "s" ∷ codes "--journal" ∷ codes "j" ∷ []) ≡ run (codes "a") (codes "s") (Some (codes "j")) 2 256
unfolding words_of pieces settings asking_by
journal = refl

journal_in_one_word : words_of (codes "--journal=j" ∷ codes "a" ∷ codes "--strategy" ∷ codes "s" ∷ []) ≡ run (codes "a") (codes "s") (Some (codes "j")) 2 256
unfolding words_of pieces settings asking_by
journal_in_one_word = refl

all_in_any_order : words_of (codes "--rounds" ∷ codes "7" ∷ codes "--workers=8" ∷ codes "a" ∷ codes "--journal" ∷ codes "j" ∷ codes "--strategy" ∷ codes "s" ∷ []) ≡ run (codes "a") (codes "s") (Some (codes "j")) 8 7
unfolding words_of pieces settings asking_by
all_in_any_order = refl

no_workers : words_of (codes "a" ∷ codes "--strategy" ∷ codes "s" ∷ codes "--workers" ∷ codes "0" ∷ []) ≡ run (codes "a") (codes "s") None 0 256
unfolding words_of pieces settings asking_by
no_workers = refl

most_workers : words_of (codes "a" ∷ codes "--strategy" ∷ codes "s" ∷ codes "--workers=64" ∷ []) ≡ run (codes "a") (codes "s") None 64 256
unfolding words_of pieces settings asking_by
most_workers = refl

no_rounds : words_of (codes "a" ∷ codes "--strategy" ∷ codes "s" ∷ codes "--rounds" ∷ codes "0" ∷ []) ≡ run (codes "a") (codes "s") None 2 0
unfolding words_of pieces settings asking_by
no_rounds = refl

most_rounds : words_of (codes "a" ∷ codes "--strategy" ∷ codes "s" ∷ codes "--rounds=4096" ∷ []) ≡ run (codes "a") (codes "s") None 2 4096
unfolding words_of pieces settings asking_by
most_rounds = refl

script_behind_dashes : words_of (codes "--strategy" ∷ codes "s" ∷ codes "--" ∷ codes "a" ∷ []) ≡ run (codes "a") (codes "s") None 2 256
unfolding words_of pieces settings asking_by
script_behind_dashes = refl

dashes_at_the_end : words_of (codes "a" ∷ codes "--strategy" ∷ codes "s" ∷ codes "--" ∷ []) ≡ run (codes "a") (codes "s") None 2 256
unfolding words_of pieces settings asking_by
dashes_at_the_end = refl

equals_in_a_value : words_of (codes "a" ∷ codes "--strategy=s=t" ∷ []) ≡ run (codes "a") (codes "s=t") None 2 256
unfolding words_of pieces settings asking_by
equals_in_a_value = refl

equals_in_the_script : words_of (codes "a=b" ∷ codes "--strategy" ∷ codes "s" ∷ []) ≡ run (codes "a=b") (codes "s") None 2 256
unfolding words_of pieces settings asking_by
equals_in_the_script = refl

space_in_a_name : words_of (codes "a b" ∷ codes "--strategy" ∷ codes "s" ∷ []) ≡ run (codes "a b") (codes "s") None 2 256
unfolding words_of pieces settings asking_by
space_in_a_name = refl

dash_inside_a_name : words_of (codes "a-b" ∷ codes "--strategy" ∷ codes "s" ∷ []) ≡ run (codes "a-b") (codes "s") None 2 256
unfolding words_of pieces settings asking_by
dash_inside_a_name = refl

script_as_an_option_is_named : words_of (codes "strategy" ∷ codes "--strategy" ∷ codes "s" ∷ []) ≡ run (codes "strategy") (codes "s") None 2 256
unfolding words_of pieces settings asking_by
script_as_an_option_is_named = refl

value_in_the_next_word_with_equals : words_of (codes "a" ∷ codes "--strategy" ∷ codes "s=t" ∷ []) ≡ run (codes "a") (codes "s=t") None 2 256
unfolding words_of pieces settings asking_by
value_in_the_next_word_with_equals = refl

-- ---- a problem that is made by itself

size_one : words_of (codes "--generate" ∷ codes "1" ∷ []) ≡ Some (generate 1 256)
unfolding words_of pieces settings asking_by
size_one = refl

size_32 : words_of (codes "--generate" ∷ codes "32" ∷ []) ≡ Some (generate 32 256)
unfolding words_of pieces settings asking_by
size_32 = refl

size_64_in_one_word : words_of (codes "--generate=64" ∷ []) ≡ Some (generate 64 256)
unfolding words_of pieces settings asking_by
size_64_in_one_word = refl

size_and_rounds : words_of (codes "--rounds" ∷ codes "5" ∷ codes "--generate" ∷ codes "3" ∷ []) ≡ Some (generate 3 5)
unfolding words_of pieces settings asking_by
size_and_rounds = refl

size_and_dashes : words_of (codes "--generate" ∷ codes "3" ∷ codes "--" ∷ []) ≡ Some (generate 3 256)
unfolding words_of pieces settings asking_by
size_and_dashes = refl

-- ---- neither

nothing : words_of ([]) ≡ None
unfolding words_of pieces settings asking_by
nothing = refl

script_alone : words_of (codes "a" ∷ []) ≡ None
unfolding words_of pieces settings asking_by
script_alone = refl

strategy_alone : words_of (codes "--strategy" ∷ codes "s" ∷ []) ≡ None
unfolding words_of pieces settings asking_by
strategy_alone = refl

dashes_alone : words_of (codes "--" ∷ []) ≡ None
unfolding words_of pieces settings asking_by
dashes_alone = refl

strategy_without_a_value : words_of (codes "a" ∷ codes "--strategy" ∷ []) ≡ None
unfolding words_of pieces settings asking_by
strategy_without_a_value = refl

empty_strategy : words_of (codes "a" ∷ codes "--strategy=" ∷ []) ≡ None
unfolding words_of pieces settings asking_by
empty_strategy = refl

empty_script : words_of (codes "" ∷ codes "--strategy" ∷ codes "s" ∷ []) ≡ None
unfolding words_of pieces settings asking_by
empty_script = refl

empty_journal : words_of (codes "a" ∷ codes "--strategy" ∷ codes "s" ∷ codes "--journal" ∷ codes "" ∷ []) ≡ None
unfolding words_of pieces settings asking_by
empty_journal = refl

two_scripts : words_of (codes "a" ∷ codes "b" ∷ codes "--strategy" ∷ codes "s" ∷ []) ≡ None
unfolding words_of pieces settings asking_by
two_scripts = refl

second_script_behind_dashes : words_of (codes "a" ∷ codes "--strategy" ∷ codes "s" ∷ codes "--" ∷ codes "b" ∷ []) ≡ None
unfolding words_of pieces settings asking_by
second_script_behind_dashes = refl

strategy_twice : words_of (codes "a" ∷ codes "--strategy" ∷ codes "s" ∷ codes "--strategy" ∷ codes "t" ∷ []) ≡ None
unfolding words_of pieces settings asking_by
strategy_twice = refl

strategy_twice_in_both_ways : words_of (codes "a" ∷ codes "--strategy" ∷ codes "s" ∷ codes "--strategy=s" ∷ []) ≡ None
unfolding words_of pieces settings asking_by
strategy_twice_in_both_ways = refl

rounds_twice : words_of (codes "a" ∷ codes "--strategy" ∷ codes "s" ∷ codes "--rounds" ∷ codes "1" ∷ codes "--rounds" ∷ codes "1" ∷ []) ≡ None
unfolding words_of pieces settings asking_by
rounds_twice = refl

generate_twice : words_of (codes "--generate" ∷ codes "1" ∷ codes "--generate" ∷ codes "1" ∷ []) ≡ None
unfolding words_of pieces settings asking_by
generate_twice = refl

dashes_twice : words_of (codes "a" ∷ codes "--strategy" ∷ codes "s" ∷ codes "--" ∷ codes "--" ∷ []) ≡ None
unfolding words_of pieces settings asking_by
dashes_twice = refl

option_behind_dashes : words_of (codes "a" ∷ codes "--" ∷ codes "--strategy=s" ∷ []) ≡ None
unfolding words_of pieces settings asking_by
option_behind_dashes = refl

value_is_an_option : words_of (codes "a" ∷ codes "--strategy" ∷ codes "--journal" ∷ codes "j" ∷ []) ≡ None
unfolding words_of pieces settings asking_by
value_is_an_option = refl

value_begins_with_a_dash : words_of (codes "a" ∷ codes "--strategy" ∷ codes "-s" ∷ []) ≡ None
unfolding words_of pieces settings asking_by
value_begins_with_a_dash = refl

value_begins_with_a_dash_in_one_word : words_of (codes "a" ∷ codes "--strategy=-s" ∷ []) ≡ None
unfolding words_of pieces settings asking_by
value_begins_with_a_dash_in_one_word = refl

value_is_a_dash : words_of (codes "a" ∷ codes "--strategy" ∷ codes "-" ∷ []) ≡ None
unfolding words_of pieces settings asking_by
value_is_a_dash = refl

value_is_two_dashes : words_of (codes "a" ∷ codes "--strategy" ∷ codes "--" ∷ codes "s" ∷ []) ≡ None
unfolding words_of pieces settings asking_by
value_is_two_dashes = refl

script_begins_with_a_dash : words_of (codes "-a" ∷ codes "--strategy" ∷ codes "s" ∷ []) ≡ None
unfolding words_of pieces settings asking_by
script_begins_with_a_dash = refl

script_is_a_dash : words_of (codes "-" ∷ codes "--strategy" ∷ codes "s" ∷ []) ≡ None
unfolding words_of pieces settings asking_by
script_is_a_dash = refl

script_behind_dashes_begins_with_one : words_of (codes "--strategy" ∷ codes "s" ∷ codes "--" ∷ codes "-a" ∷ []) ≡ None
unfolding words_of pieces settings asking_by
script_behind_dashes_begins_with_one = refl

unknown_option : words_of (codes "a" ∷ codes "--strategy" ∷ codes "s" ∷ codes "--seed" ∷ codes "1" ∷ []) ≡ None
unfolding words_of pieces settings asking_by
unknown_option = refl

unknown_option_in_one_word : words_of (codes "a" ∷ codes "--strategy" ∷ codes "s" ∷ codes "--seed=1" ∷ []) ≡ None
unfolding words_of pieces settings asking_by
unknown_option_in_one_word = refl

script_as_an_option : words_of (codes "--script=a" ∷ codes "--strategy" ∷ codes "s" ∷ []) ≡ None
unfolding words_of pieces settings asking_by
script_as_an_option = refl

name_cut_short : words_of (codes "a" ∷ codes "--strat" ∷ codes "s" ∷ []) ≡ None
unfolding words_of pieces settings asking_by
name_cut_short = refl

name_with_a_capital : words_of (codes "a" ∷ codes "--Strategy" ∷ codes "s" ∷ []) ≡ None
unfolding words_of pieces settings asking_by
name_with_a_capital = refl

no_name_before_equals : words_of (codes "a" ∷ codes "--strategy" ∷ codes "s" ∷ codes "--=s" ∷ []) ≡ None
unfolding words_of pieces settings asking_by
no_name_before_equals = refl

help : words_of (codes "--help" ∷ []) ≡ None
unfolding words_of pieces settings asking_by
help = refl

help_in_short : words_of (codes "-h" ∷ []) ≡ None
unfolding words_of pieces settings asking_by
help_in_short = refl

version : words_of (codes "--version" ∷ []) ≡ None
unfolding words_of pieces settings asking_by
version = refl

same_script_and_strategy : words_of (codes "a" ∷ codes "--strategy" ∷ codes "a" ∷ []) ≡ None
unfolding words_of pieces settings asking_by
same_script_and_strategy = refl

same_script_and_journal : words_of (codes "a" ∷ codes "--strategy" ∷ codes "s" ∷ codes "--journal" ∷ codes "a" ∷ []) ≡ None
unfolding words_of pieces settings asking_by
same_script_and_journal = refl

same_strategy_and_journal : words_of (codes "a" ∷ codes "--strategy" ∷ codes "s" ∷ codes "--journal" ∷ codes "s" ∷ []) ≡ None
unfolding words_of pieces settings asking_by
same_strategy_and_journal = refl

workers_65 : words_of (codes "a" ∷ codes "--strategy" ∷ codes "s" ∷ codes "--workers" ∷ codes "65" ∷ []) ≡ None
unfolding words_of pieces settings asking_by
workers_65 = refl

workers_01 : words_of (codes "a" ∷ codes "--strategy" ∷ codes "s" ∷ codes "--workers" ∷ codes "01" ∷ []) ≡ None
unfolding words_of pieces settings asking_by
workers_01 = refl

workers_00 : words_of (codes "a" ∷ codes "--strategy" ∷ codes "s" ∷ codes "--workers" ∷ codes "00" ∷ []) ≡ None
unfolding words_of pieces settings asking_by
workers_00 = refl

workers_plus_1 : words_of (codes "a" ∷ codes "--strategy" ∷ codes "s" ∷ codes "--workers" ∷ codes "+1" ∷ []) ≡ None
unfolding words_of pieces settings asking_by
workers_plus_1 = refl

workers_minus_1 : words_of (codes "a" ∷ codes "--strategy" ∷ codes "s" ∷ codes "--workers" ∷ codes "-1" ∷ []) ≡ None
unfolding words_of pieces settings asking_by
workers_minus_1 = refl

workers_are_no_number : words_of (codes "a" ∷ codes "--strategy" ∷ codes "s" ∷ codes "--workers" ∷ codes "two" ∷ []) ≡ None
unfolding words_of pieces settings asking_by
workers_are_no_number = refl

workers_are_empty : words_of (codes "a" ∷ codes "--strategy" ∷ codes "s" ∷ codes "--workers=" ∷ []) ≡ None
unfolding words_of pieces settings asking_by
workers_are_empty = refl

rounds_4097 : words_of (codes "a" ∷ codes "--strategy" ∷ codes "s" ∷ codes "--rounds" ∷ codes "4097" ∷ []) ≡ None
unfolding words_of pieces settings asking_by
rounds_4097 = refl

rounds_of_many_digits : words_of (codes "a" ∷ codes "--strategy" ∷ codes "s" ∷ codes "--rounds" ∷ codes "18446744073709551617" ∷ []) ≡ None
unfolding words_of pieces settings asking_by
rounds_of_many_digits = refl

size_0 : words_of (codes "--generate" ∷ codes "0" ∷ []) ≡ None
unfolding words_of pieces settings asking_by
size_0 = refl

size_65 : words_of (codes "--generate" ∷ codes "65" ∷ []) ≡ None
unfolding words_of pieces settings asking_by
size_65 = refl

size_and_script : words_of (codes "a" ∷ codes "--generate" ∷ codes "1" ∷ []) ≡ None
unfolding words_of pieces settings asking_by
size_and_script = refl

size_script_and_strategy : words_of (codes "a" ∷ codes "--strategy" ∷ codes "s" ∷ codes "--generate" ∷ codes "1" ∷ []) ≡ None
unfolding words_of pieces settings asking_by
size_script_and_strategy = refl

size_and_strategy : words_of (codes "--strategy" ∷ codes "s" ∷ codes "--generate" ∷ codes "1" ∷ []) ≡ None
unfolding words_of pieces settings asking_by
size_and_strategy = refl

size_and_journal : words_of (codes "--journal" ∷ codes "j" ∷ codes "--generate" ∷ codes "1" ∷ []) ≡ None
unfolding words_of pieces settings asking_by
size_and_journal = refl

size_and_workers : words_of (codes "--workers" ∷ codes "2" ∷ codes "--generate" ∷ codes "1" ∷ []) ≡ None
unfolding words_of pieces settings asking_by
size_and_workers = refl
