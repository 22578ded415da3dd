-- What is found, use by use: the settings of the pieces are those of the uses put together one after the other.
use Rattle.std.proofs.Common.{◌≡◌, ◌∙◌, ◌⊎◌, inl, inr, Bool, true, false, cond, ◌||◌, List, [], ◌∷◌, ◌++◌, Option, Some, None, is_some, option_map, refl, sym, ap, subst, codes, true≢false}
use Rattle.std.specs.Prelude.{if◌then◌else◌, option_and_then}
use Rattle.std.specs.List.{flat_map, list_all, list_any}
use Rattle.std.specs.Str.{bytes_eq}
use Rattle.std.proofs.lemmas.Slice.Eq.{bytes_eq-Decides}
use Rattle.solve_words.specs.Words.{Piece, Settings, Word, at_most_one, gathered, is_known, named, plain, plain_of, setting, settings, value_for}
use Rattle.solve_words.proofs.Steps.{lookup}

abbrev pub Use : Type 0
Use = Word × Word

-- ---- names of options

abbrev pub known : Word → Bool
known n = list_any (bytes_eq n) (codes "strategy" ∷ codes "journal" ∷ codes "workers" ∷ codes "rounds" ∷ codes "generate" ∷ [])

abbrev pub IsArg : Word → Type 0
IsArg id = (id ≡ codes "script") ⊎ (known id ≡ true)

pub same_bytes : (xs ys : Word) → bytes_eq xs ys ≡ true → xs ≡ ys
same_bytes xs ys e = (bytes_eq-Decides xs ys).0 e

pub bytes_same : (xs : Word) → bytes_eq xs xs ≡ true
bytes_same xs = (bytes_eq-Decides xs xs).1 refl

pub by_name : (P : Word → Type 0) → P (codes "strategy") → P (codes "journal") → P (codes "workers") → P (codes "rounds") → P (codes "generate")
    → (n : Word) → known n ≡ true → P n
by_name P s j w r g n e =
    pick (codes "strategy") s _ (λ e1.
    pick (codes "journal") j _ (λ e2.
    pick (codes "workers") w _ (λ e3.
    pick (codes "rounds") r _ (λ e4.
    pick (codes "generate") g _ (λ e5. absurd (true≢false (sym e5))) e4) e3) e2) e1) e
  where
    pick : (k : Word) → P k → (rest : Bool) → (rest ≡ true → P n) → (bytes_eq n k || rest) ≡ true → P n
    pick k p rest next f = go (bytes_eq n k) refl f
      where
        go : (b : Bool) → bytes_eq n k ≡ b → (b || rest) ≡ true → P n
        go true is h = subst P (sym (same_bytes n k is)) p
        go false is h = next h

pub by_arg : (P : Word → Type 0) → P (codes "script") → P (codes "strategy") → P (codes "journal") → P (codes "workers") → P (codes "rounds") → P (codes "generate")
    → (n : Word) → IsArg n → P n
by_arg P f s j w r g n (inl e) = subst P (sym e) f
by_arg P f s j w r g n (inr e) = by_name P s j w r g n e

pub no_script_name : (n : Word) → known n ≡ true → bytes_eq n (codes "script") ≡ false
no_script_name = by_name (λ n. bytes_eq n (codes "script") ≡ false) refl refl refl refl refl

-- ---- uses put together

abbrev pub joined : List Use → Use → Option (List Use)
joined us u = if is_some (lookup u.0 us) then None else Some (us ++ u ∷ [])

abbrev pub put : Piece → List Use → Option (List Use)
put (setting n v) us = if known n then joined us (n, v) else None
put (plain w) us = joined us (codes "script", w)

abbrev pub puts : List Use → List Piece → Option (List Use)
puts us [] = Some us
puts us (p ∷ ps) = option_and_then (λ more. puts more ps) (put p us)

abbrev pub settings_at : List Use → Settings
settings_at us = record {
  script = lookup (codes "script") us;
  strategy = lookup (codes "strategy") us;
  journal = lookup (codes "journal") us;
  workers = lookup (codes "workers") us;
  rounds = lookup (codes "rounds") us;
  generate = lookup (codes "generate") us;
}

abbrev pub or_some : {X : Type 0} → Option X → Option X → Option X
or_some None y = y
or_some (Some x) y = Some x

pub lookup_more : (id : Word) (us : List Use) (u : Use) → lookup id (us ++ u ∷ []) ≡ or_some (lookup id us) (cond (bytes_eq u.0 id) (Some u.1) None)
lookup_more id [] u = refl
lookup_more id (x ∷ us) u = go (bytes_eq x.0 id) (lookup_more id us u)
  where
    go : (b : Bool) → lookup id (us ++ u ∷ []) ≡ or_some (lookup id us) (cond (bytes_eq u.0 id) (Some u.1) None)
        → cond b (Some x.1) (lookup id (us ++ u ∷ [])) ≡ or_some (cond b (Some x.1) (lookup id us)) (cond (bytes_eq u.0 id) (Some u.1) None)
    go true e = refl
    go false e = e

pub lookup_new : (n v : Word) (us : List Use) → lookup n us ≡ None → lookup n (us ++ (n, v) ∷ []) ≡ Some v
lookup_new n v us none = lookup_more n us (n, v) ∙ rw (none, bytes_same n) refl

pub lookup_kept : (id x : Word) (us : List Use) (u : Use) → lookup id us ≡ Some x → lookup id (us ++ u ∷ []) ≡ Some x
lookup_kept id x us u is = lookup_more id us u ∙ rw is refl

pub lookup_other : (id : Word) (us : List Use) (u : Use) → bytes_eq u.0 id ≡ false → lookup id (us ++ u ∷ []) ≡ lookup id us
lookup_other id us u other = lookup_more id us u ∙ rw other (go (lookup id us))
  where
    go : (o : Option Word) → or_some o None ≡ o
    go None = refl
    go (Some x) = refl

-- ---- the same settings

abbrev values_from : List Use → List Piece → Word → Option (Option Word)
values_from us ps id = at_most_one (named (lookup id us) ++ flat_map (value_for id) ps)

abbrev script_from : List Use → List Piece → Option (Option Word)
script_from us ps = at_most_one (named (lookup (codes "script") us) ++ flat_map plain_of ps)

abbrev settings_from : List Use → List Piece → Option Settings
settings_from us ps =
    if list_all is_known ps
    then gathered (script_from us ps) (values_from us ps (codes "strategy")) (values_from us ps (codes "journal")) (values_from us ps (codes "workers"))
    (values_from us ps (codes "rounds")) (values_from us ps (codes "generate"))
    else None

one_there : (o : Option Word) → at_most_one (named o ++ []) ≡ Some o
one_there None = refl
one_there (Some x) = refl

ends_so : (us : List Use) → settings_from us [] ≡ Some (settings_at us)
ends_so us =
    rw (
      one_there (lookup (codes "script") us),
      one_there (lookup (codes "strategy") us),
      one_there (lookup (codes "journal") us),
      one_there (lookup (codes "workers") us),
      one_there (lookup (codes "rounds") us),
      one_there (lookup (codes "generate") us),
    ) refl

-- a new use stands with those before it, or at the head of those behind it
fresh : (id n v : Word) (us : List Use) (rest : List Word) → lookup n us ≡ None
    → named (lookup id us) ++ (value_for id (setting n v) ++ rest) ≡ named (lookup id (us ++ (n, v) ∷ [])) ++ rest
fresh id n v us rest none = go (bytes_eq n id) refl
  where
    go : (b : Bool) → bytes_eq n id ≡ b → named (lookup id us) ++ ((if b then v ∷ [] else []) ++ rest) ≡ named (lookup id (us ++ (n, v) ∷ [])) ++ rest
    go true is =
        let same = same_bytes n id is in
        let before : lookup id us ≡ None = subst (λ (k : Word). lookup k us ≡ None) same none in
        let after : lookup id (us ++ (n, v) ∷ []) ≡ Some v = subst (λ (k : Word). lookup k (us ++ (n, v) ∷ []) ≡ Some v) same (lookup_new n v us none) in
        rw (before, after) refl
    go false is = rw (lookup_other id us (n, v) is) refl

if_same : {X : Type 0} (b : Bool) (x y : Option X) → x ≡ y → (if b then x else None) ≡ (if b then y else None)
if_same true x y e = e
if_same false x y e = refl

if_none : {X : Type 0} (b : Bool) (x : Option X) → x ≡ None → (if b then x else None) ≡ None
if_none true x e = e
if_none false x e = refl

abbrev Got : Type 0
Got = Option (Option Word)

none_1 : (b c d e f : Got) → gathered None b c d e f ≡ None
none_1 b c d e f = refl

none_2 : (a c d e f : Got) → gathered a None c d e f ≡ None
none_2 None c d e f = refl
none_2 (Some a) c d e f = refl

none_3 : (a b d e f : Got) → gathered a b None d e f ≡ None
none_3 None b d e f = refl
none_3 (Some a) None d e f = refl
none_3 (Some a) (Some b) d e f = refl

none_4 : (a b c e f : Got) → gathered a b c None e f ≡ None
none_4 None b c e f = refl
none_4 (Some a) None c e f = refl
none_4 (Some a) (Some b) None e f = refl
none_4 (Some a) (Some b) (Some c) e f = refl

none_5 : (a b c d f : Got) → gathered a b c d None f ≡ None
none_5 None b c d f = refl
none_5 (Some a) None c d f = refl
none_5 (Some a) (Some b) None d f = refl
none_5 (Some a) (Some b) (Some c) None f = refl
none_5 (Some a) (Some b) (Some c) (Some d) f = refl

none_6 : (a b c d e : Got) → gathered a b c d e None ≡ None
none_6 None b c d e = refl
none_6 (Some a) None c d e = refl
none_6 (Some a) (Some b) None d e = refl
none_6 (Some a) (Some b) (Some c) None e = refl
none_6 (Some a) (Some b) (Some c) (Some d) None = refl
none_6 (Some a) (Some b) (Some c) (Some d) (Some e) = refl

-- the option is there already
again : (us : List Use) (v : Word) (ps : List Piece) (n : Word) → known n ≡ true → (x : Word) → lookup n us ≡ Some x → settings_from us (setting n v ∷ ps) ≡ None
again us v ps = by_name (λ n. (x : Word) → lookup n us ≡ Some x → settings_from us (setting n v ∷ ps) ≡ None)
    (λ x is. if_none (list_all is_known ps) _ (rw is (none_2 (script_from us ps) (got (codes "strategy") (codes "journal")) (got (codes "strategy") (codes "workers")) (got (codes "strategy") (codes "rounds")) (got (codes "strategy") (codes "generate")))))
    (λ x is. if_none (list_all is_known ps) _ (rw is (none_3 (script_from us ps) (got (codes "journal") (codes "strategy")) (got (codes "journal") (codes "workers")) (got (codes "journal") (codes "rounds")) (got (codes "journal") (codes "generate")))))
    (λ x is. if_none (list_all is_known ps) _ (rw is (none_4 (script_from us ps) (got (codes "workers") (codes "strategy")) (got (codes "workers") (codes "journal")) (got (codes "workers") (codes "rounds")) (got (codes "workers") (codes "generate")))))
    (λ x is. if_none (list_all is_known ps) _ (rw is (none_5 (script_from us ps) (got (codes "rounds") (codes "strategy")) (got (codes "rounds") (codes "journal")) (got (codes "rounds") (codes "workers")) (got (codes "rounds") (codes "generate")))))
    (λ x is. if_none (list_all is_known ps) _ (rw is (none_6 (script_from us ps) (got (codes "generate") (codes "strategy")) (got (codes "generate") (codes "journal")) (got (codes "generate") (codes "workers")) (got (codes "generate") (codes "rounds")))))
  where
    got : Word → Word → Got
    got n id = values_from us (setting n v ∷ ps) id

abbrev after_put : List Piece → Option (List Use) → Option Settings
after_put ps o = option_and_then (λ more. settings_from more ps) o

put_option : (us : List Use) (n v : Word) (ps : List Piece) → settings_from us (setting n v ∷ ps) ≡ after_put ps (put (setting n v) us)
put_option us n v ps = of (known n) refl
  where
    there : (o : Option Word) → lookup n us ≡ o → known n ≡ true → settings_from us (setting n v ∷ ps) ≡ after_put ps (if is_some o then None else Some (us ++ (n, v) ∷ []))
    there (Some x) is k = again us v ps n k x is
    there None is k =
        let script : script_from us (setting n v ∷ ps) ≡ script_from (us ++ (n, v) ∷ []) ps =
        ap (λ (o : Option Word). at_most_one (named o ++ flat_map plain_of ps)) (sym (lookup_other (codes "script") us (n, v) (no_script_name n k))) in
        let value = λ (id : Word). ap at_most_one (fresh id n v us (flat_map (value_for id) ps) is) in
        rw k (if_same (list_all is_known ps) _ _
        (λ i. gathered (script i) (value (codes "strategy") i) (value (codes "journal") i) (value (codes "workers") i) (value (codes "rounds") i) (value (codes "generate") i)))

    of : (b : Bool) → known n ≡ b → settings_from us (setting n v ∷ ps) ≡ after_put ps (if b then joined us (n, v) else None)
    of true k = there (lookup n us) refl k
    of false k = rw k refl

put_plain : (us : List Use) (w : Word) (ps : List Piece) → settings_from us (plain w ∷ ps) ≡ after_put ps (put (plain w) us)
put_plain us w ps = there (lookup (codes "script") us) refl
  where
    u : Use
    u = (codes "script", w)

    there : (o : Option Word) → lookup (codes "script") us ≡ o → settings_from us (plain w ∷ ps) ≡ after_put ps (if is_some o then None else Some (us ++ u ∷ []))
    there (Some x) is = if_none (list_all is_known ps) _ (rw is refl)
    there None is = if_same (list_all is_known ps) _ _
        (rw (
          is,
          lookup_new (codes "script") w us is,
          lookup_other (codes "strategy") us u refl,
          lookup_other (codes "journal") us u refl,
          lookup_other (codes "workers") us u refl,
          lookup_other (codes "rounds") us u refl,
          lookup_other (codes "generate") us u refl,
        ) refl)

put_one : (us : List Use) (p : Piece) (ps : List Piece) → settings_from us (p ∷ ps) ≡ after_put ps (put p us)
put_one us (setting n v) ps = put_option us n v ps
put_one us (plain w) ps = put_plain us w ps

settings_puts : (us : List Use) (ps : List Piece) → settings_from us ps ≡ option_map settings_at (puts us ps)
settings_puts us [] = ends_so us
settings_puts us (p ∷ ps) = put_one us p ps ∙ go (put p us) (λ (more : List Use). settings_puts more ps)
  where
    go : (o : Option (List Use)) → ((more : List Use) → settings_from more ps ≡ option_map settings_at (puts more ps))
        → after_put ps o ≡ option_map settings_at (option_and_then (λ more. puts more ps) o)
    go None ih = refl
    go (Some more) ih = ih more

pub settings_are : (ps : List Piece) → settings ps ≡ option_map settings_at (puts [] ps)
unfolding settings
settings_are ps = settings_puts [] ps
