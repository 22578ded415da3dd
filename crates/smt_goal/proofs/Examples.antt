-- The meanings of small scripts, worked out.
use Rattle.std.proofs.Common.{refl}
use Rattle.smt_lex.specs.Piece.{piece_at}
use Rattle.smt_lex.specs.Run.{kind_of, is_symbol_byte}
use Rattle.smt_lex.specs.Tokens.{tokens_at}
use Rattle.smt_tree.specs.Expressions.{expressions}
use Rattle.lin_term.specs.Literal.{gcd}
use Rattle.smt_term.specs.Operator.{operator_named}
use Rattle.smt_term.specs.Apply.{application, expansion, divided}
use Rattle.smt_term.specs.Terms.{atom, head_of, index_head, sorted, term}
use Rattle.smt_goal.specs.Command.{obeyed, command}
use Rattle.smt_goal.specs.Script.{read, obeyed_all}
use Rattle.smt_goal.specs.Rows.{AreAsked, AreRefused}

pub asked : AreAsked
unfolding read obeyed_all obeyed command tokens_at piece_at kind_of is_symbol_byte expressions operator_named application expansion divided atom head_of index_head sorted term gcd
asked = record { empty = refl; no_assertion = refl; at_cap = refl; junk = refl; whole = refl }

pub refused : AreRefused
unfolding read obeyed_all obeyed command tokens_at piece_at kind_of is_symbol_byte expressions operator_named application expansion divided atom head_of index_head sorted term gcd
refused = record { linear = refl; divisor = refl; unknown = refl; sort_of_other_logic = refl; unclosed = refl; number = refl; push = refl; early_check = refl; logic = refl; second_logic = refl; setting = refl; divisor_first = refl; head_first = refl; arguments_first = refl; left_steps = refl; let_binding = refl; let_term = refl; let_parallel = refl; no_bindings = refl; binding_form = refl; binder_body = refl; index = refl; index_word = refl; index_form = refl; bare = refl; applied_constant = refl; annotation = refl; use_wide = refl; use_zero = refl; no_recursion = refl; declared_twice = refl; reserved = refl; operator_name = refl; fun_arguments = refl; after_check = refl; wide_decimal = refl }
