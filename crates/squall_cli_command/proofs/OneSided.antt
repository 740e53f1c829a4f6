-- The kinds of a fault all ask for help, or none of them does. Only `clap`'s own command `help` could answer in both
-- ways, and the program's commands have none.
use Rattle.std.proofs.Common.{◌≡◌, ◌+◌, ◌&&◌, ◌||◌, ◌==◌, ℕ, zero, suc, Bool, true, false, List, [], ◌∷◌, length, refl, ap, inl, inr}
use Rattle.std.specs.Prelude.{Option, Some, None, is_some, not, if◌then◌else◌, find, nat_lt, drop, encode_utf8, slice_get, min, codes}
use Rattle.std.specs.Option.{option_map_or}
use Rattle.std.specs.List.{list_any}
use Rattle.std.specs.Str.{bytes_eq, chars}
use Rattle.clap.specs.Kinds.{Kinds, IsAmong, or_else, value_kinds, values_kinds, range_kinds, request_kinds, check_kinds}
use Rattle.clap.specs.ValueTests.{accepts}
use Rattle.clap.specs.Values.{refused_kind}
use Rattle.clap.specs.Lexer.{short_of, long_of}
use Rattle.clap.specs.Facts.{explicit_source, parser_of_value, unwrap_or_range}
use Rattle.clap.specs.Matches.{count_text}
use Rattle.clap.specs.Walk.{Held, Names, Row, Rule, Step, Text, Walk, action_of, answers_to, arg_by_id, arg_by_index, arg_by_long, arg_by_short, attached_value, count_of, has_row, is_empty, is_pending, most_values, reacted, settled, subcommand_met, takes_several, takes_values, value, next, trailing, subcommand, values_or_missing, walk, walk_from, walked, with_default, word_met, finished, nothing_held}
use Rattle.clap.specs.Simple.{App, Shape, label_of, names_of, entered, built, argument_words}
use Rattle.clap.specs.Faults.{values_fault, count_fault, repeat_fault, set_fault, action_fault, use_fault, settle_fault, react_fault, option_fault, long_fault, short_fault, bundle_step_fault, flags_fault, bundle_fault, flag_word_fault, other_fault, word_fault, positional_fault, stray_fault, step_fault, turn_fault, walk_fault, given_default_fault, default_fault, defaults_fault, check_fault, level_fault, entered_fault, built_fault, fault_of}
use Rattle.clap.specs.declared.builder.action.ArgAction.{ArgAction}
use Rattle.clap.specs.declared.builder.action.ArgAction.TheVariants as action
use Rattle.clap.specs.declared.builder.value_parser.ValueParser.{ValueParser}
use Rattle.clap.specs.declared.error.kind.ErrorKind.{ErrorKind}
use Rattle.clap.specs.declared.error.kind.ErrorKind.TheVariants as kind
use Rattle.clap.specs.Takes.{is_given}
use Rattle.squall_cli_command.specs.Line.{shows_help, squall_app}

pub record IsOneSided (ks : Kinds) : Type 0 where
  pub same : (j k : ErrorKind) → IsAmong j ks → IsAmong k ks → shows_help j ≡ shows_help k

none : IsOneSided []
none = record { same = λ j k a b. absurd a }

one_same : (x j k : ErrorKind) → IsAmong j (x ∷ []) → IsAmong k (x ∷ []) → shows_help j ≡ shows_help k
one_same x j k (inl e) (inl f) = cc
one_same x j k (inl e) (inr h) = absurd h
one_same x j k (inr h) b = absurd h

one : (x : ErrorKind) → IsOneSided (x ∷ [])
one x = record { same = one_same x }

stray_plain : (k : ErrorKind) → IsAmong k (kind.UnknownArgument ∷ kind.InvalidSubcommand ∷ []) → shows_help k ≡ false
stray_plain k (inl e) = ap shows_help e
stray_plain k (inr (inl e)) = ap shows_help e
stray_plain k (inr (inr h)) = absurd h

stray_two : IsOneSided (kind.UnknownArgument ∷ kind.InvalidSubcommand ∷ [])
stray_two = record { same = λ j k a b. let ja = stray_plain j a in let kb = stray_plain k b in cc }

either : (a b : Kinds) → IsOneSided a → IsOneSided b → IsOneSided (or_else a b)
either [] b ha hb = hb
either (x ∷ xs) b ha hb = ha

choice : (t : Bool) (a b : Kinds) → IsOneSided a → IsOneSided b → IsOneSided (if t then a else b)
choice true a b ha hb = ha
choice false a b ha hb = hb

at_some : {X : Type 0} (f : X → Kinds) (o : Option X) → ((x : X) → IsOneSided (f x)) → IsOneSided (option_map_or f o [])
at_some f None h = none
at_some f (Some x) h = h x

-- ---- one use of an argument

value_side : (i : Bool) (p : ValueParser) (t : Text) → IsOneSided (value_kinds i p t)
value_side i p t = choice (accepts i p t) [] (refused_kind p ∷ []) none (one (refused_kind p))

values_side : (i : Bool) (p : ValueParser) (ts : List Text) → IsOneSided (values_kinds i p ts)
values_side i p [] = none
values_side i p (t ∷ ts) = either (value_kinds i p t) (values_kinds i p ts) (value_side i p t) (values_side i p ts)

range_cases : (a b c d e : Bool) → IsOneSided (if a then kind.InvalidValue ∷ []
    else (if b then (if c then [] else kind.WrongNumberOfValues ∷ [])
    else (if d then kind.TooFewValues ∷ [] else (if e then kind.TooManyValues ∷ [] else []))))
range_cases true b c d e = one kind.InvalidValue
range_cases false true true d e = none
range_cases false true false d e = one kind.WrongNumberOfValues
range_cases false false c true e = one kind.TooFewValues
range_cases false false c false true = one kind.TooManyValues
range_cases false false c false false = none

range_side : (least most n : ℕ) → IsOneSided (range_kinds least most n)
range_side least most n = range_cases (nat_lt 0 least && n == 0) (least == most) (least == n) (nat_lt n least) (nat_lt most n)

request_side : (a : ArgAction) → IsOneSided (request_kinds a)
request_side action.Set = none
request_side action.Append = none
request_side action.SetTrue = none
request_side action.SetFalse = none
request_side action.Count = none
request_side action.Help = one kind.DisplayHelp
request_side action.HelpShort = one kind.DisplayHelp
request_side action.HelpLong = one kind.DisplayHelp
request_side action.Version = one kind.DisplayVersion

count_side : (a : Rule) (vs : List Text) (rows : List Row) → IsOneSided (count_fault a vs rows)
count_side a [] rows = value_side a.ignore_case (parser_of_value a.parser) (count_text (min (count_of a.id rows + 1) 255))
count_side a (v ∷ vs) rows = values_side a.ignore_case (parser_of_value a.parser) (v ∷ vs)

set_side : (again : Bool) (a : Rule) (vs : List Text) (rows : List Row) → IsOneSided (set_fault again a vs rows)
set_side again a vs rows = either (repeat_fault again a.id rows) (values_fault a vs)
    (choice (has_row a.id rows && not again) (kind.ArgumentConflict ∷ []) [] (one kind.ArgumentConflict) none)
    (values_side a.ignore_case (parser_of_value a.parser) vs)

action_side : (x : ArgAction) (again : Bool) (a : Rule) (vs : List Text) (rows : List Row) → IsOneSided (action_fault x again a vs rows)
action_side action.Set again a vs rows = set_side again a vs rows
action_side action.SetTrue again a vs rows = set_side again a vs rows
action_side action.SetFalse again a vs rows = set_side again a vs rows
action_side action.Append again a vs rows = values_side a.ignore_case (parser_of_value a.parser) vs
action_side action.Count again a vs rows = count_side a vs rows
action_side action.Help again a vs rows = one kind.DisplayHelp
action_side action.HelpShort again a vs rows = one kind.DisplayHelp
action_side action.HelpLong again a vs rows = one kind.DisplayHelp
action_side action.Version again a vs rows = one kind.DisplayVersion

use_side : (again : Bool) (a : Rule) (vs : List Text) (rows : List Row) → IsOneSided (use_fault again a vs rows)
use_side again a vs rows =
    let least = (unwrap_or_range a.range).start_inclusive in
    either (range_kinds least (most_values a) (length vs)) (action_fault (action_of a) again a (values_or_missing a vs) rows)
    (range_side least (most_values a) (length vs)) (action_side (action_of a) again a (values_or_missing a vs) rows)

-- ---- the walk

settle_side : (c : List Rule) (again : Bool) (h : Held) → IsOneSided (settle_fault c again h)
settle_side c again h = at_some (λ (p : Text × List Text). option_map_or (λ a. use_fault again a p.1 h.rows) (arg_by_id c p.0) []) h.pending
    (λ p. at_some (λ a. use_fault again a p.1 h.rows) (arg_by_id c p.0) (λ a. use_side again a p.1 h.rows))

react_side : (c : List Rule) (again : Bool) (a : Rule) (vs : List Text) (h : Held) → IsOneSided (react_fault c again a vs h)
react_side c again a vs h = either (settle_fault c again h) (use_fault again a vs (settled c h).rows) (settle_side c again h) (use_side again a vs (settled c h).rows)

option_side : (c : List Rule) (again : Bool) (a : Rule) (v : Option Text) (h : Held) → IsOneSided (option_fault c again a v h)
option_side c again a (Some v) h = react_side c again a (v ∷ []) h
option_side c again a None h = settle_side c again h

long_side : (c : List Rule) (again : Bool) (o : Option Rule) (v : Option Text) (h : Held) → IsOneSided (long_fault c again o v h)
long_side c again None v h = one kind.UnknownArgument
long_side c again (Some a) v h = choice (takes_values a) (option_fault c again a v h)
    (if is_some v then kind.TooManyValues ∷ [] else react_fault c again a [] h) (option_side c again a v h)
    (choice (is_some v) (kind.TooManyValues ∷ []) (react_fault c again a [] h) (one kind.TooManyValues) (react_side c again a [] h))

short_side : (c : List Rule) (again : Bool) (o : Option Rule) (rest : Text) (h : Held) (next_fault : Held → Kinds)
    → ((g : Held) → IsOneSided (next_fault g)) → IsOneSided (short_fault c again o rest h next_fault)
short_side c again None rest h f side = one kind.UnknownArgument
short_side c again (Some a) rest h f side = choice (takes_values a) (option_fault c again a (attached_value rest) h)
    (or_else (react_fault c again a [] h) (f (reacted c a [] h)))
    (option_side c again a (attached_value rest) h)
    (either (react_fault c again a [] h) (f (reacted c a [] h)) (react_side c again a [] h) (side (reacted c a [] h)))

bundle_step_side : (c : List Rule) (again : Bool) (o : Option ℕ) (flags : Text) (skip : ℕ) (h : Held) (f : Text → ℕ → Held → Kinds)
    → ((t : Text) (n : ℕ) (g : Held) → IsOneSided (f t n g)) → IsOneSided (bundle_step_fault c again o flags skip h f)
bundle_step_side c again None flags skip h f side = none
bundle_step_side c again (Some x) flags zero h f side =
    let rest = drop (length (encode_utf8 x)) flags in
    short_side c again (arg_by_short c x) rest h (f rest 0) (side rest 0)
bundle_step_side c again (Some x) flags (suc skip) h f side = side (drop (length (encode_utf8 x)) flags) skip h

flags_side : (c : List Rule) (again : Bool) (k : ℕ) (flags : Text) (skip : ℕ) (h : Held) → IsOneSided (flags_fault c again k flags skip h)
unfolding flags_fault
flags_side c again zero flags skip h = none
flags_side c again (suc k) flags skip h =
    bundle_step_side c again (slice_get (chars flags) 0) flags skip h (flags_fault c again k) (flags_side c again k)

flag_word_side : (c : List Rule) (again : Bool) (o : Option (Text × Option Text)) (word : Text) (h : Held) → IsOneSided (flag_word_fault c again o word h)
flag_word_side c again (Some p) word h = long_side c again (arg_by_long c p.0) p.1 h
flag_word_side c again None word h = at_some (λ flags. bundle_fault c again flags h) (short_of word) (λ flags. flags_side c again (length flags) flags h.skip (record h { skip = 0 }))

help_side : (b d : Bool) → d ≡ true → IsOneSided (if b && not d then kind.DisplayHelp ∷ kind.InvalidSubcommand ∷ [] else [])
help_side b false e = absurd cc
help_side true true e = none
help_side false true e = none

positional_side : (c : List Rule) (again : Bool) (a : Rule) (h : Held) → IsOneSided (positional_fault c again a h)
positional_side c again a h = choice (is_pending a h.pending && takes_several a) [] (settle_fault c again h) none (settle_side c again h)

stray_side : (s : Shape) → IsOneSided (stray_fault s)
stray_side s = choice s.is_leaf (kind.UnknownArgument ∷ []) (kind.UnknownArgument ∷ kind.InvalidSubcommand ∷ []) (one kind.UnknownArgument) stray_two

position_side : (s : Shape) (h : Held) (o : Option Rule)
    → IsOneSided (option_map_or (λ a. positional_fault s.rules s.args_override_self a h) o (stray_fault s))
position_side s h None = stray_side s
position_side s h (Some a) = positional_side s.rules s.args_override_self a h

step_side : (s : Shape) (position : ℕ) (h : Held) (x : Step) → IsOneSided (step_fault s position h x)
step_side s position h value = position_side s h (arg_by_index s.rules position)
step_side s position h (next w) = none
step_side s position h (trailing n) = none
step_side s position h (subcommand t) = none

-- ---- after the walk

given_default_side : (a : Rule) (vs : List Text) → IsOneSided (given_default_fault a vs)
given_default_side a vs = either (request_kinds (action_of a)) (values_fault a vs) (request_side (action_of a)) (values_side a.ignore_case (parser_of_value a.parser) vs)

default_side : (rows : List Row) (a : Rule) → IsOneSided (default_fault rows a)
default_side rows a = choice (has_row a.id rows || is_empty a.defaults) [] (given_default_fault a a.defaults) none (given_default_side a a.defaults)

defaults_side : (rows : List Row) (c : List Rule) → IsOneSided (defaults_fault rows c)
unfolding defaults_fault
defaults_side rows [] = none
defaults_side rows (a ∷ rest) = either (default_fault rows a) (defaults_fault (with_default rows a) rest) (default_side rows a) (defaults_side (with_default rows a) rest)

check_side : (h s a : Bool) → IsOneSided (check_kinds h s a)
check_side true s a = one kind.DisplayHelpOnMissingArgumentOrSubcommand
check_side false true a = one kind.MissingSubcommand
check_side false false true = one kind.MissingRequiredArgument
check_side false false false = none

-- ---- a level, of a command without a command `help` of `clap`'s

module _ (s : Shape) (quiet : s.disable_help_subcommand ≡ true) where
  other_side : (o : Option Text) (word : Text) (h : Held) → IsOneSided (other_fault s o word h)
  other_side (Some name) word h = help_side (bytes_eq name (codes "help")) s.disable_help_subcommand quiet
  other_side None word h = choice (bytes_eq word (45 ∷ 45 ∷ [])) [] (flag_word_fault s.rules s.args_override_self (long_of word) word h) none (flag_word_side s.rules s.args_override_self (long_of word) word h)

  turn_side : (names : Names) (w : Walk) (word : Text) → IsOneSided (turn_fault s names w word)
  turn_side names w word =
      let met = word_met s.rules names w.is_trailing w.waiting w.position word w.held in
      choice (is_some w.stopped) [] (or_else (word_fault s names w.is_trailing w.waiting word w.held) (step_fault s w.position met.0 met.1)) none
      (either (word_fault s names w.is_trailing w.waiting word w.held) (step_fault s w.position met.0 met.1)
      (choice w.is_trailing [] (other_fault s (subcommand_met names w.waiting word) word w.held) none (other_side (subcommand_met names w.waiting word) word w.held))
      (step_side s w.position met.0 met.1))

  walk_side : (names : Names) (w : Walk) (words : List Text) → IsOneSided (walk_fault s names w words)
  unfolding walk_fault
  walk_side names w [] = none
  walk_side names w (word ∷ rest) = either (turn_fault s names w word) (walk_fault s names (walked s.rules names w word) rest)
      (turn_side names w word) (walk_side names (walked s.rules names w word) rest)

  pub level_side : (names : Names) (h : Held) (words : List Text) (has_subcommand : Bool) (below : Kinds)
      → IsOneSided below → IsOneSided (level_fault s names h words has_subcommand below)
  level_side names h words has_subcommand below side =
      let end = (walk s.rules names h words).held in
      let rows = (settled s.rules end).rows in
      let checks = check_fault s (finished s.rules end) has_subcommand in
      let after = or_else (settle_fault s.rules s.args_override_self end) (or_else (defaults_fault rows s.rules) checks) in
      either (walk_fault s names (walk_from h) words) (or_else below after) (walk_side names (walk_from h) words)
      (either below after side
      (either (settle_fault s.rules s.args_override_self end) (or_else (defaults_fault rows s.rules) checks) (settle_side s.rules s.args_override_self end)
      (either (defaults_fault rows s.rules) checks (defaults_side rows s.rules)
      (check_side
      (not has_subcommand && (s.arg_required_else_help && not (list_any (λ r. explicit_source r.source) (finished s.rules end))))
      (not has_subcommand && s.subcommand_required)
      (not (s.subcommand_negates_reqs && has_subcommand) && list_any (λ a. a.required && not (is_given a.id (finished s.rules end))) s.rules)))))

-- ---- a command with subcommands

abbrev AreQuiet : List Shape → Type 0
AreQuiet [] = Unit {0}
AreQuiet (s ∷ rest) = (s.disable_help_subcommand ≡ true) × AreQuiet rest

picked_side : (f : Shape → Kinds) (b : Bool) (s : Shape) (o : Option Shape) → IsOneSided (f s) → IsOneSided (option_map_or f o [])
    → IsOneSided (option_map_or f (if b then Some s else o) [])
picked_side f true s o first rest = first
picked_side f false s o first rest = rest

found_side : (f : Shape → Kinds) (test : Shape → Bool) (subs : List Shape) → ((s : Shape) → s.disable_help_subcommand ≡ true → IsOneSided (f s))
    → AreQuiet subs → IsOneSided (option_map_or f (find test subs) [])
found_side f test [] h quiet = none
found_side f test (s ∷ rest) h quiet = picked_side f (test s) s (find test rest) (h s quiet.0) (found_side f test rest h quiet.1)

entered_side : (a : App) (stop : Option (Text × List Text)) → AreQuiet a.subs → IsOneSided (entered_fault a stop)
entered_side a None quiet = none
entered_side a (Some p) quiet = found_side (λ s. level_fault s [] nothing_held p.1 false []) (λ s. answers_to p.0 (label_of s)) a.subs
    (λ s e. level_side s e [] nothing_held p.1 false [] none) quiet

built_side : (a : App) (h : Held) (words : List Text) → a.top.disable_help_subcommand ≡ true → AreQuiet a.subs → IsOneSided (built_fault a h words)
built_side a h words top subs =
    let stop = (walk a.top.rules (names_of a) h words).stopped in
    level_side a.top top (names_of a) h words (is_some (entered a stop)) (entered_fault a stop) (entered_side a stop subs)

pub squall_side : (words : List Text) → IsOneSided (fault_of squall_app words)
squall_side words = built_side (built squall_app) nothing_held (argument_words squall_app words) refl
    (refl, (refl, (refl, (refl, (refl, (refl, (refl, (refl, (refl, (refl, (refl, (refl, (refl, (refl, (refl, (refl, (refl, (refl, (refl, (refl, tt))))))))))))))))))))
