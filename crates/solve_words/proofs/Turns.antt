-- What one word does to the walk over the words.
use Rattle.std.proofs.Common.{◌≡◌, ◌∙◌, ◌⊎◌, inl, inr, ℕ, Bool, true, false, cond, ◌||◌, List, [], ◌∷◌, ◌++◌, Option, Some, None, is_some, refl, sym, ap, subst, codes, length}
use Rattle.std.specs.Prelude.{slice_get, ◌==◌, ⊤}
use Rattle.std.proofs.lemmas.Bool.{eqb-true}
use Rattle.std.specs.Str.{bytes_eq, chars}
use Rattle.clap.specs.Words.{Text}
use Rattle.clap.specs.Lexer.{long_of, short_of}
use Rattle.clap.specs.Walk.{Held, Outcome, Step, Waiting, Walk, after_flag, after_step, arg_by_id, arg_by_long, bundle, bundle_met, bundle_step, idle, long_met, option, plain_word, positional, settled, subcommand_met, subcommand_or_other, walked, word_met}
use Rattle.clap.specs.Walk.{plain as no_flag}
use Rattle.clap.specs.Kinds.{Kinds, or_else}
use Rattle.clap.specs.Faults.{bundle_step_fault, flags_fault, long_fault, other_fault, settle_fault, step_fault, turn_fault, word_fault}
use Rattle.clap.specs.declared.error.kind.ErrorKind.{ErrorKind}
use Rattle.clap.specs.declared.error.kind.ErrorKind.TheVariants as kind
use Rattle.solve_words.specs.Words.{Word, is_dashes, is_option, name_in, value_in}
use Rattle.solve_words.proofs.Steps.{args, lookup, one_value, option_arg, repeat_kinds, rows_for, top, use_fault_is, used_is}
use Rattle.solve_words.proofs.Gathered.{IsArg, Use, by_arg, by_name, joined, known, lookup_more, or_some}

-- ---- where the walk stands

abbrev pub held : List Use → Option (Word × List Word) → Held
held us p = record { rows = rows_for us; pending = p; skip = 0 }

abbrev pub state : Held → Waiting → ℕ → Bool → Walk
state h w position is_trailing = record { held = h; waiting = w; position = position; is_trailing = is_trailing; stopped = None }

-- a use whose value was read, and which is not yet among the rows
abbrev pub pend : Option Use → Option (Word × List Word)
pend None = None
pend (Some u) = Some (u.0, u.1 ∷ [])

abbrev pub joined_all : List Use → Option Use → Option (List Use)
joined_all us None = Some us
joined_all us (Some u) = joined us u

abbrev pub IsPend : Option Use → Type 0
IsPend None = ⊤
IsPend (Some u) = IsArg u.0

abbrev pub is_script_use : Option Use → Bool
is_script_use None = false
is_script_use (Some u) = bytes_eq u.0 (codes "script")

abbrev pub has_script : List Use → Option Use → Bool
has_script us p = is_some (lookup (codes "script") us) || is_script_use p

-- ---- what is pending joins the rows, or is there already

abbrev pub Settles : List Use → Option Use → Type 0
Settles us p = ((joined_all us p ≡ None) × (settle_fault args false (held us (pend p)) ≡ kind.ArgumentConflict ∷ []))
    ⊎ ((m : List Use) × (joined_all us p ≡ Some m) × (settle_fault args false (held us (pend p)) ≡ []) × (settled args (held us (pend p)) ≡ held m None)
    × (is_some (lookup (codes "script") m) ≡ has_script us p))

abbrev IsRule : Word → Type 0
IsRule n = (long : Option Word) × (index : Option ℕ) × (arg_by_id args n ≡ Some (one_value n long index))

is_rule : (n : Word) → IsArg n → IsRule n
is_rule = by_arg IsRule (None, Some 1, refl) (Some (codes "strategy"), None, refl) (Some (codes "journal"), None, refl) (Some (codes "workers"), None, refl)
    (Some (codes "rounds"), None, refl) (Some (codes "generate"), None, refl)

no_script_yet : (b : Bool) → (b || false) ≡ b
no_script_yet true = refl
no_script_yet false = refl

script_more : (us : List Use) (u : Use) → is_some (lookup (codes "script") (us ++ u ∷ [])) ≡ has_script us (Some u)
script_more us u = ap (λ (o : Option Word). is_some o) (lookup_more (codes "script") us u) ∙ go (lookup (codes "script") us) (bytes_eq u.0 (codes "script"))
  where
    go : (o : Option Word) (b : Bool) → is_some (or_some o (cond b (Some u.1) None)) ≡ (is_some o || b)
    go None true = refl
    go None false = refl
    go (Some x) b = refl

pub settles : (us : List Use) (p : Option Use) → IsPend p → Settles us p
settles us None arg = inr (us, refl, refl, refl, sym (no_script_yet (is_some (lookup (codes "script") us))))
settles us (Some u) arg = go (is_rule u.0 arg) (lookup u.0 us) refl
  where
    go : IsRule u.0 → (o : Option Word) → lookup u.0 us ≡ o → Settles us (Some u)
    go r o is =
        let fault : settle_fault args false (held us (pend (Some u))) ≡ repeat_kinds (is_some (lookup u.0 us)) = rw r.2 (use_fault_is u.0 r.0 r.1 u.1 us) in
        of o is fault
      where
        of : (o : Option Word) → lookup u.0 us ≡ o → settle_fault args false (held us (pend (Some u))) ≡ repeat_kinds (is_some (lookup u.0 us)) → Settles us (Some u)
        of (Some x) is fault = inl (rw is refl, fault ∙ rw is refl)
        of None is fault =
            let rows : (settled args (held us (pend (Some u)))).rows ≡ rows_for (us ++ u ∷ []) = rw r.2 (used_is u.0 r.0 r.1 u.1 us is) in
            inr (us ++ u ∷ [], rw is refl, fault ∙ rw is refl, ap (λ rs. record { rows = rs; pending = None; skip = 0 }) rows, script_more us u)

-- an option without its value
pub never_settles : (us : List Use) (n : Word) → known n ≡ true → settle_fault args false (held us (Some (n, []))) ≡ kind.InvalidValue ∷ []
never_settles us = by_name (λ n. settle_fault args false (held us (Some (n, []))) ≡ kind.InvalidValue ∷ []) refl refl refl refl refl

-- ---- a word, by what it looks like

pub word_fails : (h : Held) (w : Waiting) (position : ℕ) (word : Word) (k : ErrorKind) (ks : Kinds) → word_fault top [] false w word h ≡ k ∷ ks
    → turn_fault top [] (state h w position false) word ≡ k ∷ ks
word_fails h w position word k ks e =
    ap (λ (x : Kinds). or_else x (step_fault top position (word_met args [] false w position word h).0 (word_met args [] false w position word h).1)) e

pub word_goes : (h to : Held) (w : Waiting) (position : ℕ) (word : Word) (s : Step) → word_fault top [] false w word h ≡ [] → word_met args [] false w position word h ≡ (to, s)
    → (turn_fault top [] (state h w position false) word ≡ step_fault top position to s) × (walked args [] (state h w position false) word ≡ after_step args word (state h w position false) to s)
unfolding walked
word_goes h to w position word s none met =
    ((λ i. or_else (none i) (step_fault top position (met i).0 (met i).1)), (λ i. after_step args word (state h w position false) (met i).0 (met i).1))

abbrev pub dashes : Word
dashes = 45 ∷ 45 ∷ []

-- `--` alone
pub dashes_idle : (h : Held) (position : ℕ) → (turn_fault top [] (state h idle position false) dashes ≡ []) × (walked args [] (state h idle position false) dashes ≡ state h idle position true)
unfolding walked
dashes_idle h position = (refl, refl)

pub dashes_option : (h : Held) (n : Word) (position : ℕ)
    → (turn_fault top [] (state h (option n) position false) dashes ≡ []) × (walked args [] (state h (option n) position false) dashes ≡ state h (option n) position true)
unfolding walked
dashes_option h n position = (refl, refl)

-- ---- a long option

pub known_long : (n : Word) → known n ≡ true → arg_by_long args n ≡ Some (option_arg n)
known_long = by_name (λ n. arg_by_long args n ≡ Some (option_arg n)) refl refl refl refl refl

abbrev IsWaiting : Waiting → Type 0
IsWaiting w = (word : Word) → subcommand_met [] w word ≡ None

pub no_subcommand : (w : Waiting) → IsWaiting w
no_subcommand idle word = refl
no_subcommand (option n) word = refl
no_subcommand positional word = refl

pub long_faults : (h : Held) (w : Waiting) (c : ℕ) (r : Word) → word_fault top [] false w (45 ∷ 45 ∷ c ∷ r) h ≡ long_fault args false (arg_by_long args (name_in (c ∷ r))) (value_in (c ∷ r)) h
long_faults h w c r = ap (λ (o : Option Text). other_fault top o (45 ∷ 45 ∷ c ∷ r) h) (no_subcommand w (45 ∷ 45 ∷ c ∷ r))

pub long_meets : (h : Held) (w : Waiting) (position c : ℕ) (r : Word)
    → word_met args [] false w position (45 ∷ 45 ∷ c ∷ r) h
    ≡ after_flag args w (45 ∷ 45 ∷ c ∷ r) (long_met args (arg_by_long args (name_in (c ∷ r))) (value_in (c ∷ r)) h).0 (long_met args (arg_by_long args (name_in (c ∷ r))) (value_in (c ∷ r)) h).1
long_meets h w position c r = ap (λ (o : Option Text). subcommand_or_other args o w position (45 ∷ 45 ∷ c ∷ r) h) (no_subcommand w (45 ∷ 45 ∷ c ∷ r))

-- ---- other words

-- what a word is that is no option and not `--`
pub record IsOther (word : Word) : Type 0 where
  pub no_dashes : is_dashes word ≡ false
  pub no_option : is_option word ≡ false

-- it fails
abbrev pub Fails : Word → Type 0
Fails word = (h : Held) (w : Waiting) → h.skip ≡ 0 → word_fault top [] false w word h ≡ kind.UnknownArgument ∷ []

-- it goes to what waits
abbrev pub Goes : Word → Type 0
Goes word = (us : List Use) (p : Option (Word × List Word)) (w : Waiting) (position : ℕ)
    → (word_fault top [] false w word (held us p) ≡ []) × (word_met args [] false w position word (held us p) ≡ plain_word args w word (held us p))

abbrev dash_next : ℕ → Word → Word
dash_next c r = 45 ∷ c ∷ r

no_dashes_next : (c : ℕ) (r : Word) → (c == 45) ≡ false → is_dashes (dash_next c r) ≡ false
no_dashes_next c r e = rw e refl

no_long_next : (c : ℕ) (r : Word) → (c == 45) ≡ false → long_of (dash_next c r) ≡ None
no_long_next c r e = rw e refl

short_next : (c : ℕ) (r : Word) → (c == 45) ≡ false → short_of (dash_next c r) ≡ Some (c ∷ r)
short_next c r e = rw e refl

-- one dash before further bytes
short_faults : (h : Held) (w : Waiting) (c : ℕ) (r : Word) → (c == 45) ≡ false → h.skip ≡ 0
    → word_fault top [] false w (dash_next c r) h ≡ flags_fault args false (length (c ∷ r)) (c ∷ r) 0 (record h { skip = 0 })
short_faults h w c r e skip =
    ap (λ (o : Option Text). other_fault top o (dash_next c r) h) (no_subcommand w (dash_next c r))
    ∙ rw (no_dashes_next c r e, no_long_next c r e, short_next c r e, skip) refl

short_meets : (us : List Use) (p : Option (Word × List Word)) (w : Waiting) (position c : ℕ) (r : Word) → (c == 45) ≡ false
    → word_met args [] false w position (dash_next c r) (held us p)
    ≡ after_flag args w (dash_next c r) (bundle args (c ∷ r) (held us p)).0 (bundle args (c ∷ r) (held us p)).1
short_meets us p w position c r e =
    ap (λ (o : Option Text). subcommand_or_other args o w position (dash_next c r) (held us p)) (no_subcommand w (dash_next c r))
    ∙ rw (no_dashes_next c r e, no_long_next c r e, short_next c r e) refl

-- no argument has a short name
flags_fail : (c x : ℕ) (r : Word) (h : Held) → slice_get (chars (c ∷ r)) 0 ≡ Some x → flags_fault args false (length (c ∷ r)) (c ∷ r) 0 h ≡ kind.UnknownArgument ∷ []
unfolding flags_fault
flags_fail c x r h e = ap (λ (o : Option ℕ). bundle_step_fault args false o (c ∷ r) 0 h (flags_fault args false (length r))) e

no_flags_fail : (c : ℕ) (r : Word) (h : Held) → slice_get (chars (c ∷ r)) 0 ≡ None → flags_fault args false (length (c ∷ r)) (c ∷ r) 0 h ≡ []
unfolding flags_fault
no_flags_fail c r h e = ap (λ (o : Option ℕ). bundle_step_fault args false o (c ∷ r) 0 h (flags_fault args false (length r))) e

no_flags_meet : (c : ℕ) (r : Word) (us : List Use) (p : Option (Word × List Word)) → slice_get (chars (c ∷ r)) 0 ≡ None → bundle args (c ∷ r) (held us p) ≡ (held us p, no_flag)
unfolding bundle_met
no_flags_meet c r us p e = ap (λ (o : Option ℕ). bundle_step args o (c ∷ r) 0 no_flag (held us p) (bundle_met args (length r))) e

pub plain_goes : (word : Word) → is_dashes word ≡ false → long_of word ≡ None → short_of word ≡ None → Goes word
plain_goes word d l s us p w position = (
  ap (λ (o : Option Text). other_fault top o word (held us p)) (no_subcommand w word) ∙ rw (d, l, s) refl,
  ap (λ (o : Option Text). subcommand_or_other args o w position word (held us p)) (no_subcommand w word) ∙ rw (d, l, s) refl,
)

-- what a word is
abbrev pub Look : Word → Type 0
Look word = (word ≡ dashes) ⊎ (((c : ℕ) × (r : Word) × (word ≡ 45 ∷ 45 ∷ c ∷ r)) ⊎ (IsOther word × (((x : Word) × (word ≡ 45 ∷ x) × Fails word) ⊎ Goes word)))

look_short : (c : ℕ) (r : Word) → (c == 45) ≡ false → Look (dash_next c r)
look_short c r e = inr (inr (other, go (slice_get (chars (c ∷ r)) 0) refl))
  where
    other : IsOther (dash_next c r)
    other = record { no_dashes = rw e refl; no_option = rw e refl }

    go : (o : Option ℕ) → slice_get (chars (c ∷ r)) 0 ≡ o → ((x : Word) × (dash_next c r ≡ 45 ∷ x) × Fails (dash_next c r)) ⊎ Goes (dash_next c r)
    go (Some x) is = inl (c ∷ r, refl, λ h w skip. short_faults h w c r e skip ∙ flags_fail c x r (record h { skip = 0 }) is)
    go None is = inr (no_char is)
      where
        no_char : slice_get (chars (c ∷ r)) 0 ≡ None → Goes (dash_next c r)
        no_char is us p w position = (
          short_faults (held us p) w c r e refl ∙ no_flags_fail c r (held us p) is,
          short_meets us p w position c r e ∙ ap (λ (m : Held × Outcome). after_flag args w (dash_next c r) m.0 m.1) (no_flags_meet c r us p is),
        )

look_dash : (c : ℕ) (r : Word) → Look (dash_next c r)
look_dash c r = go (c == 45) refl r
  where
    go : (b : Bool) → (c == 45) ≡ b → (r : Word) → Look (dash_next c r)
    go false e r = look_short c r e
    go true e [] = let is : c ≡ 45 = eqb-true c 45 e in inl (ap (λ (k : ℕ). 45 ∷ k ∷ []) is)
    go true e (d ∷ r) = let is : c ≡ 45 = eqb-true c 45 e in inr (inl (d, r, ap (λ (k : ℕ). 45 ∷ k ∷ d ∷ r) is))

look_other : (a : ℕ) (r : Word) → (a == 45) ≡ false → Look (a ∷ r)
look_other a [] e = inr (inr (record { no_dashes = rw e refl; no_option = rw e refl }, inr (plain_goes (a ∷ []) (rw e refl) (rw e refl) (rw e refl))))
look_other a (c ∷ r) e = inr (inr (record { no_dashes = rw e refl; no_option = rw e refl }, inr (plain_goes (a ∷ c ∷ r) (rw e refl) (rw e refl) (rw e refl))))

pub look : (word : Word) → Look word
look [] = inr (inr (record { no_dashes = refl; no_option = refl }, inr (plain_goes [] refl refl refl)))
look (a ∷ r) = go (a == 45) refl r
  where
    dash : (r : Word) → Look (45 ∷ r)
    dash [] = inr (inr (record { no_dashes = refl; no_option = refl }, inr (plain_goes (45 ∷ []) refl refl refl)))
    dash (c ∷ r) = look_dash c r

    go : (b : Bool) → (a == 45) ≡ b → (r : Word) → Look (a ∷ r)
    go false e r = look_other a r e
    go true e r = let is : 45 ≡ a = sym (eqb-true a 45 e) in subst (λ (k : ℕ). Look (k ∷ r)) is (dash r)
