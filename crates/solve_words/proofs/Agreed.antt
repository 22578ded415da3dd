-- What `clap` finds in the words asks for what the words ask.
use Rattle.std.proofs.Common.{◌≡◌, ◌∙◌, inl, inr, ℕ, Bool, true, false, ◌&&◌, ◌||◌, List, [], ◌∷◌, ◌++◌, Option, Some, None, is_some, option_map, map, refl, sym, ap, subst, codes, true≢false}
use Rattle.std.specs.Prelude.{if◌then◌else◌, option_and_then}
use Rattle.std.specs.Str.{bytes_eq}
use Rattle.clap.specs.Words.{Row, Rule, first_of, matches_of}
use Rattle.clap.specs.Walk.{Held, Waiting, Walk, after_flag, after_step, arg_by_long, idle, is_pending, long_met, next, option, plain_word, pushed, settled, used, value, walked, word_met}
use Rattle.clap.specs.Kinds.{IsAmong, Kinds, or_else}
use Rattle.clap.specs.Faults.{fault_of, long_fault, settle_fault, step_fault, turn_fault, use_fault, word_fault}
use Rattle.clap.specs.declared.error.kind.ErrorKind.{ErrorKind}
use Rattle.clap.specs.declared.error.kind.ErrorKind.TheVariants as kind
use Rattle.solve_words.specs.Words.{Asking, Piece, Settings, Word, asking_by, before, last_piece, name_in, pieces, plain, setting, settings, value_in, with_value, words_of}
use Rattle.solve_words.specs.Reading.{command}
use Rattle.solve_words.proofs.Steps.{args, first_is, lookup, option_arg, repeat_kinds, rows_for, run_end, run_from, run_is, run_more, script_arg, top, unless, use_fault_is, used_is, with_no_kind}
use Rattle.solve_words.proofs.Gathered.{IsArg, Use, by_name, bytes_same, joined, known, lookup_new, lookup_other, no_script_name, put, puts, same_bytes, settings_are, settings_at}
use Rattle.solve_words.proofs.Doomed.{doomed, ends}
use Rattle.solve_words.proofs.Turns.{Fails, Goes, IsOther, IsPend, Look, Settles, dashes, dashes_idle, dashes_option, has_script, held, joined_all, known_long, long_faults, long_meets, look, never_settles, pend, settles, state, word_fails, word_goes}

-- ---- what is asked by what `clap` finds

abbrev pub settings_by : List Row → Settings
settings_by rows = record {
  script = first_of (codes "script") rows;
  strategy = first_of (codes "strategy") rows;
  journal = first_of (codes "journal") rows;
  workers = first_of (codes "workers") rows;
  rounds = first_of (codes "rounds") rows;
  generate = first_of (codes "generate") rows;
}

abbrev pub answer : Option (List Row) → Option Asking
answer = option_and_then (λ rows. asking_by (settings_by rows))

-- from a place of the walk on
abbrev found_from : Walk → List Word → Option Asking
found_from w ws = answer (run_from w ws)

found_fails : (w : Walk) (word : Word) (ws : List Word) (k : ErrorKind) (ks : Kinds) → turn_fault top [] w word ≡ k ∷ ks → found_from w (word ∷ ws) ≡ None
found_fails w word ws k ks e = ap answer (run_more w word ws ∙ ap (λ (x : Kinds). unless x (run_from (walked args [] w word) ws)) e)

found_goes : (w to : Walk) (word : Word) (ws : List Word) → turn_fault top [] w word ≡ [] → walked args [] w word ≡ to → found_from w (word ∷ ws) ≡ found_from to ws
found_goes w to word ws e goes = ap answer (run_more w word ws ∙ (λ i. unless (e i) (run_from (goes i) ws)))

rows_settings : (us : List Use) → settings_by (rows_for us) ≡ settings_at us
rows_settings us = λ i. record {
  script = first_is (codes "script") us i;
  strategy = first_is (codes "strategy") us i;
  journal = first_is (codes "journal") us i;
  workers = first_is (codes "workers") us i;
  rounds = first_is (codes "rounds") us i;
  generate = first_is (codes "generate") us i;
}

found_end : (us : List Use) (p : Option Use) (w : Waiting) (position : ℕ) (t : Bool) → Settles us p → found_from (state (held us (pend p)) w position t) [] ≡ ends (joined_all us p)
found_end us p w position t (inl h) = ap answer (run_end (state (held us (pend p)) w position t)) ∙ rw (h.1, h.0) refl
found_end us p w position t (inr h) =
    ap answer (run_end (state (held us (pend p)) w position t))
    ∙ (λ i. answer (with_no_kind (h.2 i) (h.3 i).rows)) ∙ ap asking_by (rows_settings h.0) ∙ sym (ap ends h.1)

-- ---- what is asked by what the words say

-- behind these uses
abbrev asks_behind : List Use → Option (List Piece) → Option Asking
asks_behind us o = option_and_then (λ ps. ends (puts us ps)) o

abbrev asks_from : Option (List Use) → List Word → Option Asking
asks_from o ws = option_and_then (λ us. asks_behind us (pieces ws)) o

-- of an option without a value so far
abbrev value_asks : List Use → Word → List Word → Option Asking
value_asks us n [] = None
value_asks us n (v ∷ ws) = asks_from (joined us (n, v)) ws

ends_of : (o : Option (List Use)) (f : List Use → Option (List Use)) → ends (option_and_then f o) ≡ option_and_then (λ us. ends (f us)) o
ends_of None f = refl
ends_of (Some us) f = refl

one_piece : (us : List Use) (p : Piece) (o : Option (List Piece)) → asks_behind us (option_map (before p) o) ≡ option_and_then (λ more. asks_behind more o) (put p us)
one_piece us p None = go (put p us)
  where
    go : (x : Option (List Use)) → None ≡ option_and_then (λ more. asks_behind more None) x
    go None = refl
    go (Some more) = refl
one_piece us p (Some ps) = ends_of (put p us) (λ more. puts more ps)

pieces_dashes : (ws : List Word) → pieces (dashes ∷ ws) ≡ Some (map plain ws)
unfolding pieces
pieces_dashes [] = refl
pieces_dashes (v ∷ ws) = refl

pieces_other : (w : Word) (ws : List Word) → IsOther w → pieces (w ∷ ws) ≡ option_map (before (plain w)) (pieces ws)
unfolding pieces
pieces_other w [] h = rw (h.no_dashes, h.no_option) refl
pieces_other w (v ∷ ws) h = rw (h.no_dashes, h.no_option) refl

abbrev long_pieces : Word → Option Word → List Word → Option (List Piece)
long_pieces n (Some v) ws = option_map (before (setting n v)) (pieces ws)
long_pieces n None [] = None
long_pieces n None (v ∷ ws) = option_map (before (setting n v)) (pieces ws)

pieces_long : (c : ℕ) (r : Word) (ws : List Word) → pieces ((45 ∷ 45 ∷ c ∷ r) ∷ ws) ≡ long_pieces (name_in (c ∷ r)) (value_in (c ∷ r)) ws
unfolding pieces
pieces_long c r [] = go (value_in (c ∷ r))
  where
    go : (o : Option Word) → last_piece (name_in (c ∷ r)) o ≡ long_pieces (name_in (c ∷ r)) o []
    go (Some v) = refl
    go None = refl
pieces_long c r (v ∷ ws) = go (value_in (c ∷ r))
  where
    go : (o : Option Word) → with_value (name_in (c ∷ r)) o v (pieces (v ∷ ws)) (pieces ws) ≡ long_pieces (name_in (c ∷ r)) o (v ∷ ws)
    go (Some x) = refl
    go None = refl

-- an option that is none asks nothing
unknown_asks : (us : List Use) (n : Word) (o : Option Word) (ws : List Word) → known n ≡ false → asks_behind us (long_pieces n o ws) ≡ None
unknown_asks us n (Some v) ws e = one_piece us (setting n v) (pieces ws) ∙ rw e refl
unknown_asks us n None [] e = refl
unknown_asks us n None (v ∷ ws) e = one_piece us (setting n v) (pieces ws) ∙ rw e refl

known_put : (us : List Use) (n v : Word) → known n ≡ true → put (setting n v) us ≡ joined us (n, v)
known_put us n v e = rw e refl

-- a use whose value begins with `-` asks nothing
dash_joined : (us : List Use) (n x : Word) (o : Option (List Piece)) → IsArg n → option_and_then (λ more. asks_behind more o) (joined us (n, 45 ∷ x)) ≡ None
dash_joined us n x o arg = go (lookup n us) refl o
  where
    go : (l : Option Word) → lookup n us ≡ l → (o : Option (List Piece)) → option_and_then (λ more. asks_behind more o) (joined us (n, 45 ∷ x)) ≡ None
    go (Some y) is o = rw is refl
    go None is None = rw is refl
    go None is (Some ps) = rw is (doomed n arg x (us ++ (n, 45 ∷ x) ∷ []) ps (lookup_new n (45 ∷ x) us is))

-- ---- a word for a positional

abbrev position_at : Bool → ℕ
position_at b = if b then 2 else 1

no_several : {X : Type 0} (b : Bool) (x y : X) → (if b && false then x else y) ≡ y
no_several true x y = refl
no_several false x y = refl

-- the first one is the script
value_fault : (h : Held) → step_fault top 1 h value ≡ settle_fault args false h
value_fault h = no_several (is_pending script_arg h.pending) [] (settle_fault args false h)

value_goes : (h : Held) (w : Waiting) (t : Bool) (word : Word) → after_step args word (state h w 1 t) h value ≡ state (pushed (codes "script") word (settled args h)) idle 2 t
value_goes h w t word = λ i. state (pushed (codes "script") word (no_several (is_pending script_arg h.pending) h (settled args h) i)) idle 2 (no_or t i)
  where
    no_or : (b : Bool) → (b || false) ≡ b
    no_or true = refl
    no_or false = refl

abbrev script_use : Word → Use
script_use word = (codes "script", word)

-- where the walk goes on with what is asked, if it goes on from what is joined with the script
script_goes : (us : List Use) (p : Option Use) (t b : Bool) (word : Word) (ws : List Word) (go_on : List Use → Option Asking) → Settles us p → has_script us p ≡ b
    → turn_fault top [] (state (held us (pend p)) idle (position_at b) t) word ≡ step_fault top (position_at b) (held us (pend p)) value
    → walked args [] (state (held us (pend p)) idle (position_at b) t) word ≡ after_step args word (state (held us (pend p)) idle (position_at b) t) (held us (pend p)) value
    → ((m : List Use) → is_some (lookup (codes "script") m) ≡ false
    → found_from (state (held m (pend (Some (script_use word)))) idle 2 t) ws ≡ option_and_then go_on (joined m (script_use word)))
    → found_from (state (held us (pend p)) idle (position_at b) t) (word ∷ ws) ≡ option_and_then (λ m. option_and_then go_on (joined m (script_use word))) (joined_all us p)
script_goes us p t true word ws go_on s has fault goes on = found_fails _ word ws kind.UnknownArgument [] fault ∙ sym (no_second s)
  where
    no_second : Settles us p → option_and_then (λ m. option_and_then go_on (joined m (script_use word))) (joined_all us p) ≡ None
    no_second (inl h) = rw h.0 refl
    no_second (inr h) = rw (h.1, h.4 ∙ has) refl
script_goes us p t false word ws go_on (inl h) has fault goes on =
    found_fails _ word ws kind.ArgumentConflict [] (fault ∙ value_fault (held us (pend p)) ∙ h.1) ∙ rw h.0 refl
script_goes us p t false word ws go_on (inr h) has fault goes on =
    found_goes _ (state (held h.0 (pend (Some (script_use word)))) idle 2 t) word ws (fault ∙ value_fault (held us (pend p)) ∙ h.2)
    (goes ∙ value_goes (held us (pend p)) idle t word ∙ ap (λ (x : Held). state (pushed (codes "script") word x) idle 2 t) h.3)
    ∙ on h.0 (h.4 ∙ has) ∙ sym (ap (option_and_then (λ m. option_and_then go_on (joined m (script_use word)))) h.1)

-- ---- behind `--`

trailing_fault : (us : List Use) (p : Option (Word × List Word)) (w : Waiting) (position : ℕ) (word : Word)
    → (turn_fault top [] (state (held us p) w position true) word ≡ step_fault top position (held us p) value)
    × (walked args [] (state (held us p) w position true) word ≡ after_step args word (state (held us p) w position true) (held us p) value)
unfolding walked
trailing_fault us p w position word = (refl, refl)

trailing_asks : (ws : List Word) (us : List Use) (p : Option Use) (b : Bool) → IsPend p → has_script us p ≡ b
    → found_from (state (held us (pend p)) idle (position_at b) true) ws ≡ option_and_then (λ m. ends (puts m (map plain ws))) (joined_all us p)
trailing_asks [] us p b arg has = found_end us p idle (position_at b) true (settles us p arg) ∙ go (joined_all us p)
  where
    go : (o : Option (List Use)) → ends o ≡ option_and_then (λ m. ends (puts m [])) o
    go None = refl
    go (Some m) = refl
trailing_asks (v ∷ ws) us p b arg has =
    let turn = trailing_fault us (pend p) idle (position_at b) v in
    script_goes us p true b v ws (λ m. ends (puts m (map plain ws))) (settles us p arg) has turn.0 turn.1
    (λ m none. trailing_asks ws m (Some (script_use v)) true (inl refl) (rw none refl))
    ∙ go (joined_all us p)
  where
    go : (o : Option (List Use)) → option_and_then (λ m. option_and_then (λ more. ends (puts more (map plain ws))) (joined m (script_use v))) o
        ≡ option_and_then (λ m. ends (puts m (map plain (v ∷ ws)))) o
    go None = refl
    go (Some m) = sym (ends_of (joined m (script_use v)) (λ more. puts more (map plain ws)))

-- `--` where a value is wanted
no_value_asks : (ws : List Word) (us : List Use) (n : Word) (b : Bool) → known n ≡ true → found_from (state (held us (Some (n, []))) (option n) (position_at b) true) ws ≡ None
no_value_asks [] us n b k = ap answer (run_end (state (held us (Some (n, []))) (option n) (position_at b) true)) ∙ rw (never_settles us n k) refl
no_value_asks (v ∷ ws) us n true k = found_fails _ v ws kind.UnknownArgument [] (trailing_fault us (Some (n, [])) (option n) 2 v).0
no_value_asks (v ∷ ws) us n false k =
    found_fails _ v ws kind.InvalidValue [] ((trailing_fault us (Some (n, [])) (option n) 1 v).0 ∙ value_fault (held us (Some (n, []))) ∙ never_settles us n k)

-- ---- between two words

abbrev Idle : List Word → Type 0
Idle ws = (us : List Use) (p : Option Use) (b : Bool) → IsPend p → has_script us p ≡ b
    → found_from (state (held us (pend p)) idle (position_at b) false) ws ≡ asks_from (joined_all us p) ws

-- an option waits for its value
abbrev Waits : List Word → Type 0
Waits ws = (us : List Use) (n : Word) (b : Bool) → known n ≡ true → is_some (lookup (codes "script") us) ≡ b
    → found_from (state (held us (Some (n, []))) (option n) (position_at b) false) ws ≡ value_asks us n ws

or_false : (b : Bool) → (b || false) ≡ b
or_false true = refl
or_false false = refl

both_false : (a b : Bool) → (a || b) ≡ false → (a ≡ false) × (b ≡ false)
both_false false b e = (refl, e)
both_false true b e = absurd (true≢false e)

other_way : (n k : Word) → bytes_eq n k ≡ false → bytes_eq k n ≡ false
other_way n k e = go (bytes_eq k n) refl
  where
    go : (b : Bool) → bytes_eq k n ≡ b → b ≡ false
    go false f = refl
    go true f = absurd (true≢false (sym (subst (λ (x : Word). bytes_eq n x ≡ true) (sym (same_bytes k n f)) (bytes_same n)) ∙ e))

unknown_long : (n : Word) → known n ≡ false → arg_by_long args n ≡ None
unknown_long n e =
    let a = both_false (bytes_eq n (codes "strategy")) _ e in
    let b = both_false (bytes_eq n (codes "journal")) _ a.1 in
    let c = both_false (bytes_eq n (codes "workers")) _ b.1 in
    let d = both_false (bytes_eq n (codes "rounds")) _ c.1 in
    let g = both_false (bytes_eq n (codes "generate")) _ d.1 in
    rw (other_way n (codes "strategy") a.0, other_way n (codes "journal") b.0, other_way n (codes "workers") c.0, other_way n (codes "rounds") d.0, other_way n (codes "generate") g.0) refl

abbrev long_word : ℕ → Word → Word
long_word c r = 45 ∷ 45 ∷ c ∷ r

-- ---- a long option where nothing waits

unknown_fails : (h : Held) (w : Waiting) (c : ℕ) (r : Word) → known (name_in (c ∷ r)) ≡ false → word_fault top [] false w (long_word c r) h ≡ kind.UnknownArgument ∷ []
unknown_fails h w c r e = long_faults h w c r ∙ ap (λ (o : Option Rule). long_fault args false o (value_in (c ∷ r)) h) (unknown_long (name_in (c ∷ r)) e)

known_fault : (h : Held) (w : Waiting) (c : ℕ) (r : Word) (o : Option Word) → known (name_in (c ∷ r)) ≡ true → value_in (c ∷ r) ≡ o
    → word_fault top [] false w (long_word c r) h ≡ long_fault args false (Some (option_arg (name_in (c ∷ r)))) o h
known_fault h w c r o k is = long_faults h w c r ∙ (λ i. long_fault args false (known_long (name_in (c ∷ r)) k i) (is i) h)

known_meets : (h : Held) (w : Waiting) (position c : ℕ) (r : Word) (o : Option Word) → known (name_in (c ∷ r)) ≡ true → value_in (c ∷ r) ≡ o
    → word_met args [] false w position (long_word c r) h
    ≡ after_flag args w (long_word c r) (long_met args (Some (option_arg (name_in (c ∷ r)))) o h).0 (long_met args (Some (option_arg (name_in (c ∷ r)))) o h).1
known_meets h w position c r o k is =
    long_meets h w position c r
    ∙ (λ i. after_flag args w (long_word c r) (long_met args (known_long (name_in (c ∷ r)) k i) (is i) h).0 (long_met args (known_long (name_in (c ∷ r)) k i) (is i) h).1)

asks_long : (o : Option (List Use)) (c : ℕ) (r : Word) (ws : List Word) → asks_from o (long_word c r ∷ ws) ≡ option_and_then (λ us. asks_behind us (long_pieces (name_in (c ∷ r)) (value_in (c ∷ r)) ws)) o
asks_long o c r ws = ap (λ (x : Option (List Piece)). option_and_then (λ us. asks_behind us x) o) (pieces_long c r ws)

script_stays : (us : List Use) (n v : Word) → known n ≡ true → is_some (lookup (codes "script") (us ++ (n, v) ∷ [])) ≡ is_some (lookup (codes "script") us)
script_stays us n v k = ap (λ (o : Option Word). is_some o) (lookup_other (codes "script") us (n, v) (no_script_name n k))

idle_long_value : (c : ℕ) (r v : Word) (ws : List Word) → Idle ws → known (name_in (c ∷ r)) ≡ true → value_in (c ∷ r) ≡ Some v
    → (us : List Use) (p : Option Use) (b : Bool) → has_script us p ≡ b → Settles us p
    → found_from (state (held us (pend p)) idle (position_at b) false) (long_word c r ∷ ws) ≡ asks_from (joined_all us p) (long_word c r ∷ ws)
idle_long_value c r v ws ih k is us p b has (inl h) =
    found_fails _ (long_word c r) ws kind.ArgumentConflict []
    (word_fails (held us (pend p)) idle (position_at b) (long_word c r) kind.ArgumentConflict [] (known_fault (held us (pend p)) idle c r (Some v) k is ∙ rw h.1 refl))
    ∙ rw h.0 refl
idle_long_value c r v ws ih k is us p b has (inr h) =
    go (lookup (name_in (c ∷ r)) h.0) refl ∙ sym (one_piece h.0 (setting (name_in (c ∷ r)) v) (pieces ws) ∙ ap (option_and_then (λ more. asks_behind more (pieces ws))) (known_put h.0 (name_in (c ∷ r)) v k))
    ∙ sym (ap (λ (o : Option Word). asks_behind h.0 (long_pieces (name_in (c ∷ r)) o ws)) is)
    ∙ sym (ap (option_and_then (λ us. asks_behind us (long_pieces (name_in (c ∷ r)) (value_in (c ∷ r)) ws))) h.1)
    ∙ sym (asks_long (joined_all us p) c r ws)
  where
    n : Word
    n = name_in (c ∷ r)

    fault : word_fault top [] false idle (long_word c r) (held us (pend p)) ≡ repeat_kinds (is_some (lookup n h.0))
    fault = known_fault (held us (pend p)) idle c r (Some v) k is ∙ (λ i. or_else (h.2 i) (use_fault false (option_arg n) (v ∷ []) (h.3 i).rows)) ∙ use_fault_is n (Some n) None v h.0

    go : (o : Option Word) → lookup n h.0 ≡ o
        → found_from (state (held us (pend p)) idle (position_at b) false) (long_word c r ∷ ws) ≡ option_and_then (λ more. asks_behind more (pieces ws)) (joined h.0 (n, v))
    go (Some x) there =
        found_fails _ (long_word c r) ws kind.ArgumentConflict []
        (word_fails (held us (pend p)) idle (position_at b) (long_word c r) kind.ArgumentConflict [] (fault ∙ rw there refl))
        ∙ rw there refl
    go None there =
        let met : word_met args [] false idle (position_at b) (long_word c r) (held us (pend p)) ≡ (held (h.0 ++ (n, v) ∷ []) None, next idle) =
        known_meets (held us (pend p)) idle (position_at b) c r (Some v) k is
        ∙ (λ i. (record { rows = used (option_arg n) (v ∷ []) (h.3 i).rows; pending = None; skip = 0 }, next idle))
        ∙ (λ i. (record { rows = used_is n (Some n) None v h.0 there i; pending = None; skip = 0 }, next idle)) in
        let turn = word_goes (held us (pend p)) (held (h.0 ++ (n, v) ∷ []) None) idle (position_at b) (long_word c r) (next idle) (fault ∙ rw there refl) met in
        found_goes _ (state (held (h.0 ++ (n, v) ∷ []) None) idle (position_at b) false) (long_word c r) ws turn.0 turn.1
        ∙ ih (h.0 ++ (n, v) ∷ []) None b tt (or_false _ ∙ script_stays h.0 n v k ∙ h.4 ∙ has)
        ∙ rw there refl

idle_long_alone : (c : ℕ) (r : Word) (ws : List Word) → Waits ws → known (name_in (c ∷ r)) ≡ true → value_in (c ∷ r) ≡ None
    → (us : List Use) (p : Option Use) (b : Bool) → has_script us p ≡ b → Settles us p
    → found_from (state (held us (pend p)) idle (position_at b) false) (long_word c r ∷ ws) ≡ asks_from (joined_all us p) (long_word c r ∷ ws)
idle_long_alone c r ws ih k is us p b has (inl h) =
    found_fails _ (long_word c r) ws kind.ArgumentConflict []
    (word_fails (held us (pend p)) idle (position_at b) (long_word c r) kind.ArgumentConflict [] (known_fault (held us (pend p)) idle c r None k is ∙ h.1))
    ∙ rw h.0 refl
idle_long_alone c r ws ih k is us p b has (inr h) =
    found_goes _ (state (held h.0 (Some (n, []))) (option n) (position_at b) false) (long_word c r) ws turn.0 turn.1
    ∙ ih h.0 n b k (h.4 ∙ has) ∙ value ws
    ∙ sym (ap (λ (o : Option Word). asks_behind h.0 (long_pieces n o ws)) is)
    ∙ sym (ap (option_and_then (λ us. asks_behind us (long_pieces n (value_in (c ∷ r)) ws))) h.1)
    ∙ sym (asks_long (joined_all us p) c r ws)
  where
    n : Word
    n = name_in (c ∷ r)

    met : word_met args [] false idle (position_at b) (long_word c r) (held us (pend p)) ≡ (held h.0 (Some (n, [])), next (option n))
    met = known_meets (held us (pend p)) idle (position_at b) c r None k is ∙ (λ i. (record (h.3 i) { pending = Some (n, []) }, next (option n)))

    turn : (turn_fault top [] (state (held us (pend p)) idle (position_at b) false) (long_word c r) ≡ [])
        × (walked args [] (state (held us (pend p)) idle (position_at b) false) (long_word c r) ≡ state (held h.0 (Some (n, []))) (option n) (position_at b) false)
    turn = word_goes (held us (pend p)) (held h.0 (Some (n, []))) idle (position_at b) (long_word c r) (next (option n)) (known_fault (held us (pend p)) idle c r None k is ∙ h.2) met

    value : (ws : List Word) → value_asks h.0 n ws ≡ asks_behind h.0 (long_pieces n None ws)
    value [] = refl
    value (v ∷ ws) = sym (one_piece h.0 (setting n v) (pieces ws) ∙ ap (option_and_then (λ more. asks_behind more (pieces ws))) (known_put h.0 n v k))

none_of : {X Y : Type 0} (f : X → Option Y) (o : Option X) → ((x : X) → f x ≡ None) → option_and_then f o ≡ None
none_of f None h = refl
none_of f (Some x) h = h x

idle_long : (c : ℕ) (r : Word) (ws : List Word) → Idle ws → Waits ws → (us : List Use) (p : Option Use) (b : Bool) → IsPend p → has_script us p ≡ b
    → found_from (state (held us (pend p)) idle (position_at b) false) (long_word c r ∷ ws) ≡ asks_from (joined_all us p) (long_word c r ∷ ws)
idle_long c r ws ih ihw us p b arg has = go (known (name_in (c ∷ r))) refl (value_in (c ∷ r)) refl
  where
    go : (x : Bool) → known (name_in (c ∷ r)) ≡ x → (o : Option Word) → value_in (c ∷ r) ≡ o
        → found_from (state (held us (pend p)) idle (position_at b) false) (long_word c r ∷ ws) ≡ asks_from (joined_all us p) (long_word c r ∷ ws)
    go true k (Some v) is = idle_long_value c r v ws ih k is us p b has (settles us p arg)
    go true k None is = idle_long_alone c r ws ihw k is us p b has (settles us p arg)
    go false k o is =
        found_fails _ (long_word c r) ws kind.UnknownArgument []
        (word_fails (held us (pend p)) idle (position_at b) (long_word c r) kind.UnknownArgument [] (unknown_fails (held us (pend p)) idle c r k))
        ∙ sym (asks_long (joined_all us p) c r ws
        ∙ none_of (λ us. asks_behind us (long_pieces (name_in (c ∷ r)) (value_in (c ∷ r)) ws)) (joined_all us p) (λ us. unknown_asks us (name_in (c ∷ r)) (value_in (c ∷ r)) ws k))

-- ---- any word where nothing waits

idle_fails : (word x : Word) (ws : List Word) → IsOther word → word ≡ 45 ∷ x → Fails word → (us : List Use) (p : Option Use) (b : Bool)
    → found_from (state (held us (pend p)) idle (position_at b) false) (word ∷ ws) ≡ asks_from (joined_all us p) (word ∷ ws)
idle_fails word x ws other is fails us p b =
    found_fails _ word ws kind.UnknownArgument [] (word_fails (held us (pend p)) idle (position_at b) word kind.UnknownArgument [] (fails (held us (pend p)) idle refl))
    ∙ sym (ap (λ (o : Option (List Piece)). option_and_then (λ m. asks_behind m o) (joined_all us p)) (pieces_other word ws other)
    ∙ none_of (λ m. asks_behind m (option_map (before (plain word)) (pieces ws))) (joined_all us p) none)
  where
    none : (m : List Use) → asks_behind m (option_map (before (plain word)) (pieces ws)) ≡ None
    none m =
        one_piece m (plain word) (pieces ws) ∙ ap (λ (y : Word). option_and_then (λ more. asks_behind more (pieces ws)) (joined m (script_use y))) is
        ∙ dash_joined m (codes "script") x (pieces ws) (inl refl)

idle_goes : (word : Word) (ws : List Word) → Idle ws → IsOther word → Goes word → (us : List Use) (p : Option Use) (b : Bool) → IsPend p → has_script us p ≡ b
    → found_from (state (held us (pend p)) idle (position_at b) false) (word ∷ ws) ≡ asks_from (joined_all us p) (word ∷ ws)
idle_goes word ws ih other goes us p b arg has =
    script_goes us p false b word ws (λ m. asks_behind m (pieces ws)) (settles us p arg) has turn.0 turn.1
    (λ m none. ih m (Some (script_use word)) true (inl refl) (rw none refl))
    ∙ per (joined_all us p)
    ∙ sym (ap (λ (o : Option (List Piece)). option_and_then (λ m. asks_behind m o) (joined_all us p)) (pieces_other word ws other))
  where
    fate : (word_fault top [] false idle word (held us (pend p)) ≡ []) × (word_met args [] false idle (position_at b) word (held us (pend p)) ≡ (held us (pend p), value))
    fate = goes us (pend p) idle (position_at b)

    turn : (turn_fault top [] (state (held us (pend p)) idle (position_at b) false) word ≡ step_fault top (position_at b) (held us (pend p)) value)
        × (walked args [] (state (held us (pend p)) idle (position_at b) false) word ≡ after_step args word (state (held us (pend p)) idle (position_at b) false) (held us (pend p)) value)
    turn = word_goes (held us (pend p)) (held us (pend p)) idle (position_at b) word value fate.0 fate.1

    per : (o : Option (List Use)) → option_and_then (λ m. option_and_then (λ more. asks_behind more (pieces ws)) (joined m (script_use word))) o
        ≡ option_and_then (λ m. asks_behind m (option_map (before (plain word)) (pieces ws))) o
    per None = refl
    per (Some m) = sym (one_piece m (plain word) (pieces ws))

idle_dashes : (ws : List Word) (us : List Use) (p : Option Use) (b : Bool) → IsPend p → has_script us p ≡ b
    → found_from (state (held us (pend p)) idle (position_at b) false) (dashes ∷ ws) ≡ asks_from (joined_all us p) (dashes ∷ ws)
idle_dashes ws us p b arg has =
    let turn = dashes_idle (held us (pend p)) (position_at b) in
    found_goes _ (state (held us (pend p)) idle (position_at b) true) dashes ws turn.0 turn.1
    ∙ trailing_asks ws us p b arg has
    ∙ sym (ap (λ (o : Option (List Piece)). option_and_then (λ m. asks_behind m o) (joined_all us p)) (pieces_dashes ws))

idle_word : (word : Word) (ws : List Word) → Idle ws → Waits ws → Look word → Idle (word ∷ ws)
idle_word word ws ih ihw (inl e) us p b arg has =
    subst (λ (x : Word). found_from (state (held us (pend p)) idle (position_at b) false) (x ∷ ws) ≡ asks_from (joined_all us p) (x ∷ ws)) (sym e) (idle_dashes ws us p b arg has)
idle_word word ws ih ihw (inr (inl l)) us p b arg has =
    subst (λ (x : Word). found_from (state (held us (pend p)) idle (position_at b) false) (x ∷ ws) ≡ asks_from (joined_all us p) (x ∷ ws)) (sym l.2)
    (idle_long l.0 l.1 ws ih ihw us p b arg has)
idle_word word ws ih ihw (inr (inr (o, inl f))) us p b arg has = idle_fails word f.0 ws o f.1 f.2 us p b
idle_word word ws ih ihw (inr (inr (o, inr g))) us p b arg has = idle_goes word ws ih o g us p b arg has

-- ---- any word where an option waits for its value

-- the word begins with `-`, and fails
waits_fails : (word x : Word) (ws : List Word) (k : ErrorKind) (us : List Use) (n : Word) (b : Bool) → known n ≡ true → word ≡ 45 ∷ x
    → word_fault top [] false (option n) word (held us (Some (n, []))) ≡ k ∷ []
    → found_from (state (held us (Some (n, []))) (option n) (position_at b) false) (word ∷ ws) ≡ value_asks us n (word ∷ ws)
waits_fails word x ws k us n b known_n is fault =
    found_fails _ word ws k [] (word_fails (held us (Some (n, []))) (option n) (position_at b) word k [] fault)
    ∙ sym (ap (λ (y : Word). asks_from (joined us (n, y)) ws) is ∙ dash_joined us n x (pieces ws) (inr known_n))

waits_dashes : (ws : List Word) (us : List Use) (n : Word) (b : Bool) → known n ≡ true
    → found_from (state (held us (Some (n, []))) (option n) (position_at b) false) (dashes ∷ ws) ≡ value_asks us n (dashes ∷ ws)
waits_dashes ws us n b k =
    let turn = dashes_option (held us (Some (n, []))) n (position_at b) in
    found_goes _ (state (held us (Some (n, []))) (option n) (position_at b) true) dashes ws turn.0 turn.1
    ∙ no_value_asks ws us n b k
    ∙ sym (dash_joined us n (45 ∷ []) (pieces ws) (inr k))

waits_long : (c : ℕ) (r : Word) (ws : List Word) (us : List Use) (n : Word) (b : Bool) → known n ≡ true
    → found_from (state (held us (Some (n, []))) (option n) (position_at b) false) (long_word c r ∷ ws) ≡ value_asks us n (long_word c r ∷ ws)
waits_long c r ws us n b k = go (known (name_in (c ∷ r))) refl (value_in (c ∷ r)) refl
  where
    go : (x : Bool) → known (name_in (c ∷ r)) ≡ x → (o : Option Word) → value_in (c ∷ r) ≡ o
        → found_from (state (held us (Some (n, []))) (option n) (position_at b) false) (long_word c r ∷ ws) ≡ value_asks us n (long_word c r ∷ ws)
    go false e o is = waits_fails (long_word c r) (45 ∷ c ∷ r) ws kind.UnknownArgument us n b k refl (unknown_fails (held us (Some (n, []))) (option n) c r e)
    go true e (Some v) is =
        waits_fails (long_word c r) (45 ∷ c ∷ r) ws kind.InvalidValue us n b k refl
        (known_fault (held us (Some (n, []))) (option n) c r (Some v) e is
        ∙ ap (λ (ks : Kinds). or_else ks (use_fault false (option_arg (name_in (c ∷ r))) (v ∷ []) (settled args (held us (Some (n, [])))).rows)) (never_settles us n k))
    go true e None is =
        waits_fails (long_word c r) (45 ∷ c ∷ r) ws kind.InvalidValue us n b k refl
        (known_fault (held us (Some (n, []))) (option n) c r None e is ∙ never_settles us n k)

value_taken : (n : Word) → known n ≡ true → (us : List Use) (v : Word) → plain_word args (option n) v (held us (Some (n, []))) ≡ (held us (pend (Some (n, v))), next idle)
value_taken = by_name (λ n. (us : List Use) (v : Word) → plain_word args (option n) v (held us (Some (n, []))) ≡ (held us (pend (Some (n, v))), next idle))
    (λ us v. refl) (λ us v. refl) (λ us v. refl) (λ us v. refl) (λ us v. refl)

waits_goes : (word : Word) (ws : List Word) → Idle ws → Goes word → Waits (word ∷ ws)
waits_goes word ws ih goes us n b k has =
    let fate = goes us (Some (n, [])) (option n) (position_at b) in
    let turn = word_goes (held us (Some (n, []))) (held us (pend (Some (n, word)))) (option n) (position_at b) word (next idle) fate.0 (fate.1 ∙ value_taken n k us word) in
    found_goes _ (state (held us (pend (Some (n, word)))) idle (position_at b) false) word ws turn.0 turn.1
    ∙ ih us (Some (n, word)) b (inr k) (ap (λ (x : Bool). is_some (lookup (codes "script") us) || x) (no_script_name n k) ∙ or_false _ ∙ has)

waits_word : (word : Word) (ws : List Word) → Idle ws → Look word → Waits (word ∷ ws)
waits_word word ws ih (inl e) us n b k has =
    subst (λ (x : Word). found_from (state (held us (Some (n, []))) (option n) (position_at b) false) (x ∷ ws) ≡ value_asks us n (x ∷ ws)) (sym e) (waits_dashes ws us n b k)
waits_word word ws ih (inr (inl l)) us n b k has =
    subst (λ (x : Word). found_from (state (held us (Some (n, []))) (option n) (position_at b) false) (x ∷ ws) ≡ value_asks us n (x ∷ ws)) (sym l.2)
    (waits_long l.0 l.1 ws us n b k)
waits_word word ws ih (inr (inr (o, inl f))) us n b k has =
    waits_fails word f.0 ws kind.UnknownArgument us n b k f.1 (f.2 (held us (Some (n, []))) (option n) refl)
waits_word word ws ih (inr (inr (o, inr g))) us n b k has = waits_goes word ws ih g us n b k has

-- ---- all words

idle_end : Idle []
unfolding pieces
idle_end us p b arg has = found_end us p idle (position_at b) false (settles us p arg) ∙ go (joined_all us p)
  where
    go : (o : Option (List Use)) → ends o ≡ asks_from o []
    go None = refl
    go (Some m) = refl

waits_end : Waits []
waits_end us n b k has = ap answer (run_end (state (held us (Some (n, []))) (option n) (position_at b) false)) ∙ rw (never_settles us n k) refl

agreed : (ws : List Word) → Idle ws × Waits ws
agreed [] = (idle_end, waits_end)
agreed (word ∷ ws) = both_more (agreed ws)
  where
    both_more : Idle ws × Waits ws → Idle (word ∷ ws) × Waits (word ∷ ws)
    both_more ih = (idle_word word ws ih.0 ih.1 (look word), waits_word word ws ih.0 (look word))

-- what `clap` finds, where it does not fail, asks for what the words ask
pub words_are : (ws : List Word) → words_of ws ≡ answer (with_no_kind (fault_of command ws) (matches_of command ws))
unfolding words_of
words_are ws = go (pieces ws) ∙ sym ((agreed ws).0 [] None false tt refl) ∙ ap answer (sym (run_is ws))
  where
    of : (o : Option (List Use)) → option_and_then asking_by (option_map settings_at o) ≡ ends o
    of None = refl
    of (Some us) = refl

    go : (o : Option (List Piece)) → option_and_then asking_by (option_and_then settings o) ≡ option_and_then (λ m. asks_behind m o) (Some [])
    go None = refl
    go (Some ps) = ap (option_and_then asking_by) (settings_are ps) ∙ of (puts [] ps)

pub found_asks : (ws : List Word) → fault_of command ws ≡ [] → words_of ws ≡ asking_by (settings_by (matches_of command ws))
found_asks ws none = words_are ws ∙ ap (λ (ks : Kinds). answer (with_no_kind ks (matches_of command ws))) none

pub refused_asks : (ws : List Word) (k : ErrorKind) → IsAmong k (fault_of command ws) → words_of ws ≡ None
refused_asks ws k among = words_are ws ∙ go (fault_of command ws) among
  where
    go : (ks : Kinds) → IsAmong k ks → answer (with_no_kind ks (matches_of command ws)) ≡ None
    go [] h = absurd h
    go (x ∷ ks) h = refl
