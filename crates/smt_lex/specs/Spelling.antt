-- How tokens are spelled, and what stands between them. (SMT-LIB 2.6, section 3.1.)
use Rattle.std.specs.Prelude.{◌≡◌, ◌<◌, ℕ, Bool, true, false, not, ◌||◌, ◌&&◌, ◌==◌, if◌then◌else◌, List, [], ◌∷◌, ◌++◌, length, take, Option, Some, None, IsSome, slice_index, Ok, Err}
use Rattle.std.specs.List.{list_all, prefix_len}
use Rattle.ss_names.specs.declared.fault.FaultKind.TheVariants as kind
use Rattle.ss_names.specs.declared.fault.ScriptFault.{ScriptFault}
use Rattle.ss_names.specs.declared.fault.ScriptFault.TheVariants as fault
use Rattle.smt_lex.specs.declared.token.TokenKind.{TokenKind}
use Rattle.smt_lex.specs.declared.token.TokenKind.TheVariants.{Left, Right, Text, Quoted}
use Rattle.smt_lex.specs.Run.{is_blank, is_of_run, kind_of}
use Rattle.smt_lex.specs.Place.{Place, place, past, start}
use Rattle.smt_lex.specs.Lexeme.{Lexeme, Found}

-- White space and comments: whether the bytes end inside a comment, and None where others are among them. A comment goes
-- from `;` to the end of its line.
abbrev pub blanks : Bool → List ℕ → Option Bool
blanks inside [] = Some inside
blanks true (b ∷ z) = blanks (not (b == 10)) z
blanks false (b ∷ z) = if is_blank b then blanks false z else (if b == 59 then blanks true z else None)

-- the bytes that spell a token
abbrev pub spelled : TokenKind → List ℕ → List ℕ
spelled Text text = 34 ∷ text ++ 34 ∷ []
spelled Quoted text = 124 ∷ text ++ 124 ∷ []
spelled _ text = text

-- each quote is doubled; the flag says that the byte before is a first quote
abbrev pub are_doubled : Bool → List ℕ → Bool
are_doubled first [] = not first
are_doubled true (b ∷ z) = b == 34 && are_doubled false z
are_doubled false (b ∷ z) = are_doubled (b == 34) z

-- a token of this kind can have this text
abbrev pub IsToken : TokenKind → List ℕ → Type 0
IsToken Left text = text ≡ 40 ∷ []
IsToken Right text = text ≡ 41 ∷ []
IsToken Text text = are_doubled false text ≡ true
IsToken Quoted text = list_all (λ b. not (b == 124 || b == 92)) text ≡ true
IsToken k text = kind_of text ≡ Some k

-- a token of this kind goes no further where these bytes follow
abbrev pub IsOver : TokenKind → List ℕ → Type 0
IsOver Left rest = Unit {0}
IsOver Right rest = Unit {0}
IsOver Text rest = (slice_index rest 0 == 34) ≡ false
IsOver Quoted rest = Unit {0}
IsOver _ rest = prefix_len is_of_run rest ≡ 0

-- behind a gap of white space and whole comments stands this token, at its place
pub record IsNext (p : Place) (z gap : List ℕ) (t : Lexeme) (rest : List ℕ) : Type 0 where
  pub bytes : z ≡ gap ++ (spelled t.kind t.text ++ rest)
  pub blank : blanks false gap ≡ Some false
  pub at : place t.line t.column ≡ past p gap
  pub token : IsToken t.kind t.text
  pub over : IsOver t.kind rest

-- no token stands at the front of these bytes, whatever its kind and text
abbrev pub IsNoToken : List ℕ → Type 0
IsNoToken z = (k : TokenKind) (text rest : List ℕ) → z ≡ spelled k text ++ rest → IsToken k text → IsOver k rest → ⊥

-- behind such a gap, which goes no further, stands what is no token, and the fault is at its first byte
pub record IsRefused (p : Place) (z gap rest : List ℕ) (f : ScriptFault) : Type 0 where
  pub bytes : z ≡ gap ++ rest
  pub blank : blanks false gap ≡ Some false
  pub some : 0 < length rest
  pub ends : blanks false (take 1 rest) ≡ None
  pub none : IsNoToken rest
  pub fault : f ≡ fault.Bad kind.Token (past p gap).line (past p gap).column

-- the text that begins at this place is spelled by these tokens, and by the fault behind them, which is the last
abbrev pub Reads : Place → List ℕ → List Found → Type 0
Reads p z [] = IsSome (blanks false z)
Reads p z (Ok t ∷ ts) = (gap : List ℕ) × (rest : List ℕ) × IsNext p z gap t rest × Reads (past (past p gap) (spelled t.kind t.text)) rest ts
Reads p z (Err f ∷ ts) = (gap : List ℕ) × (rest : List ℕ) × IsRefused p z gap rest f × (ts ≡ [])

abbrev pub AreTokensOf : List ℕ → List Found → Type 0
AreTokensOf z ts = Reads start z ts
