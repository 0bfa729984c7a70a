-- Clap's walk over the words of a line finds the line's job.
use Rattle.std.proofs.Common.{◌≡◌, ◌∙◌, ◌||◌, ◌&&◌, ◌++◌, ℕ, Bool, true, false, List, [], ◌∷◌, length, Option, Some, None, refl, ap, sym, subst, cond, codes, append-nil, append_assoc}
use Rattle.std.specs.Prelude.{IsUtf8, option_and_then, option_map, is_some}
use Rattle.std.specs.List.{fold}
use Rattle.std.specs.Str.{bytes_eq}
use Rattle.dj_cursor.specs.trusted.Options.{◌>>=◌}
use Rattle.clap.specs.Kinds.{or_else}
use Rattle.clap.specs.Words.{Row, Rule, Text, Kinds, fault_of, matches_of}
use Rattle.clap.specs.Lexer.{long_of, short_of}
use Rattle.clap.specs.Walk.{Held, Step, Waiting, Walk, idle, option, positional, next, trailing, value, word_met, after_step, walked, walk_from, nothing_held, settled, reacted, has_row, is_pending, all_of, pushed, used_by_id, arg_by_id, arg_by_long}
use Rattle.clap.specs.Faults.{word_fault, step_fault, turn_fault, walk_fault, settle_fault, repeat_fault, use_fault}
use Rattle.clap.specs.declared.error.ErrorKind.{ErrorKind}
use Rattle.clap.specs.declared.error.ErrorKind.TheVariants.{UnknownArgument, InvalidValue, ArgumentConflict}
use Rattle.dj_command_line.specs.trusted.Words.{Word, Given, Job, Line, Plain, Joined, part_of, begins_with, is_numeral, with_option, with_plain, line_from, line_job, job_of}
use Rattle.dj_command_line.specs.WordsApp.{app, job_in}
use Rattle.dj_command_line.proofs.Forms.{dashes, Form, plain_form, dash_form, DashForm, stray_form, end_form, named_form, joined_form, forms, after_dash}
use Rattle.dj_command_line.proofs.Rules.{rules, Known, Unknown, an_option, no_option, named, known_rule, command_rule, words_rule, long_rule}
use Rattle.dj_command_line.proofs.AfterWalk.{top, fault_is, matches_are}
use Rattle.dj_command_line.proofs.WordWalks.{met_end, fault_end, met_plain, fault_plain, met_named, fault_named, met_joined, fault_joined, fault_unknown, fault_stray, met_due, use_of_option, no_value, nothing_after}
use Rattle.dj_command_line.proofs.OptionLaws.{and_false, named_so, unknown_option, no_numeral, given_twice}
use Rattle.dj_command_line.proofs.RowLemmas.{has_row_is}
use Rattle.dj_command_line.proofs.Holding.{Holds, Same, in_neither, in_both, no_command_row, with_command, with_operand, with_given, rows_job}
use Rattle.dj_command_line.proofs.Holding as holding

-- ---- the walk, word by word

abbrev pub is_fine : Kinds → Bool
is_fine [] = true
is_fine (k ∷ ks) = false

-- the rows that a walk from here finds, where it refuses nothing
unfoldable pub found : Walk → List Word → Option (List Row)
found w [] = cond (is_fine (settle_fault rules false w.held)) (Some (settled rules w.held).rows) None
found w (word ∷ rest) = cond (is_fine (turn_fault top [] w word)) (found (walked rules [] w word) rest) None

one_turn : (t f s : Kinds) (x y : Option (List Row)) → cond (is_fine (or_else f s)) x None ≡ y → cond (is_fine (or_else (or_else t f) s)) x None ≡ cond (is_fine t) y None
one_turn [] f s x y e = e
one_turn (k ∷ ks) f s x y e = refl

by_walk : (words : List Word) (w : Walk)
    → cond (is_fine (or_else (walk_fault top [] w words) (settle_fault rules false (fold (walked rules []) w words).held))) (Some (settled rules (fold (walked rules []) w words).held).rows) None ≡ found w words
unfolding walk_fault found
by_walk [] w = refl
by_walk (word ∷ rest) w =
    one_turn (turn_fault top [] w word) (walk_fault top [] (walked rules [] w word) rest)
    (settle_fault rules false (fold (walked rules []) (walked rules [] w word) rest).held) _ _ (by_walk rest (walked rules [] w word))

abbrev pub at : Held → Waiting → ℕ → Bool → Walk
at h waiting position ended = record { held = h; waiting = waiting; position = position; is_trailing = ended; stopped = None }

turn : (h : Held) (waiting : Waiting) (p : ℕ) (ended : Bool) (word : Word) (rest : List Word) (f : Kinds) (m : Held × Step)
    → word_fault top [] ended waiting word h ≡ f → word_met rules [] ended waiting p word h ≡ m
    → found (at h waiting p ended) (word ∷ rest)
    ≡ cond (is_fine (or_else f (step_fault top p m.0 m.1))) (found (after_step rules word (at h waiting p ended) m.0 m.1) rest) None
unfolding walked found
turn h waiting p ended word rest f m fault met =
    (λ i. cond (is_fine (or_else (fault i) (step_fault top p (met i).0 (met i).1))) (found (after_step rules word (at h waiting p ended) (met i).0 (met i).1) rest) None)

refuses : (h : Held) (waiting : Waiting) (p : ℕ) (ended : Bool) (word : Word) (rest : List Word) (k : ErrorKind) (ks : Kinds)
    → word_fault top [] ended waiting word h ≡ k ∷ ks → found (at h waiting p ended) (word ∷ rest) ≡ None
unfolding found
refuses h waiting p ended word rest k ks fault =
    let met : Held × Step = word_met rules [] ended waiting p word h in
    (λ i. cond (is_fine (or_else (fault i) (step_fault top p met.0 met.1))) (found (walked rules [] (at h waiting p ended) word) rest) None)

-- ---- a plain word goes to a positional

abbrev pub place : List Word → ℕ
place [] = 1
place (command ∷ operands) = 2

-- what waits after a positional
abbrev pub waiting_after : List Word → Waiting
waiting_after [] = idle
waiting_after (command ∷ operands) = positional

abbrev pub name_at : List Word → Text
name_at [] = codes "command"
name_at (command ∷ operands) = codes "words"

abbrev pub with_value : List Word → Word → Held → Held
with_value plain word h = record { rows = (settled rules h).rows; pending = Some (name_at plain, word ∷ []); skip = h.skip }

or_false : (b : Bool) → (b || false) ≡ b
or_false true = refl
or_false false = refl

-- what is held is settled, unless that is refused
value_step : (h : Held) (waiting : Waiting) (ended : Bool) (word : Word) (rest : List Word) (plain : List Word) (f : Kinds) → settle_fault rules false h ≡ f
    → word_fault top [] ended waiting word h ≡ [] → word_met rules [] ended waiting (place plain) word h ≡ (h, value)
    → found (at h waiting (place plain) ended) (word ∷ rest) ≡ cond (is_fine f) (found (at (with_value plain word h) (waiting_after plain) (place (plain ++ word ∷ [])) ended) rest) None
value_step h waiting ended word rest [] f settles fault met =
    let several : (is_pending command_rule h.pending && false) ≡ false = and_false (is_pending command_rule h.pending) in
    let still : (ended || false) ≡ ended = or_false ended in
    turn h waiting 1 ended word rest [] (h, value) fault met
    ∙ (λ i. cond (is_fine (cond (several i) [] (settles i)))
    (found (at (pushed (codes "command") word (cond (several i) h (settled rules h))) idle 2 (still i)) rest) None)
value_step h waiting ended word rest (command ∷ operands) f settles fault met =
    let several : (is_pending words_rule h.pending && false) ≡ false = and_false (is_pending words_rule h.pending) in
    let still : (ended || false) ≡ ended = or_false ended in
    turn h waiting 2 ended word rest [] (h, value) fault met
    ∙ (λ i. cond (is_fine (cond (several i) [] (settles i)))
    (found (at (pushed (codes "words") word (cond (several i) h (settled rules h))) positional 2 (still i)) rest) None)

-- ---- states that hold a line, and states that a later word or the end refuses

pub record Ready (h : Held) (options : List Given) (plain : List Word) : Type 0 where
  pub quiet : settle_fault rules false h ≡ []
  pub skip : h.skip ≡ 0
  pub holds : Holds (settled rules h).rows options plain

not_repeated : (name : Text) (rows : List Row) → has_row name rows ≡ false → repeat_fault false name rows ≡ []
not_repeated name rows none = rw none refl

repeated : (name : Text) (rows : List Row) → has_row name rows ≡ true → repeat_fault false name rows ≡ ArgumentConflict ∷ []
repeated name rows one = rw one refl

ready_after : (word : Word) (h : Held) (options : List Given) (plain : List Word) → Ready h options plain → Ready (with_value plain word h) options (plain ++ word ∷ [])
ready_after word h options [] r = record {
  quiet = nothing_after (repeat_fault false (codes "command") (settled rules h).rows) ∙ not_repeated (codes "command") (settled rules h).rows (no_command_row (settled rules h).rows options r.holds);
  skip = r.skip;
  holds = with_command word (settled rules h).rows options r.holds;
}
ready_after word h options (command ∷ operands) r = record {
  quiet = refl;
  skip = r.skip;
  holds = with_operand word (settled rules h).rows options command operands r.holds;
}

at_end : (h : Held) (waiting : Waiting) (p : ℕ) (ended : Bool) (f : Kinds) → settle_fault rules false h ≡ f → found (at h waiting p ended) [] ≡ cond (is_fine f) (Some (settled rules h).rows) None
unfolding found
at_end h waiting p ended f settles = ap (λ (k : Kinds). cond (is_fine k) (Some (settled rules h).rows) None) settles

-- ---- after --

abbrev job_found : Option (List Row) → Option Job
job_found rows = option_and_then job_in rows

pub after_end : (words : List Word) (h : Held) (waiting : Waiting) (options : List Given) (plain : List Word) → Ready h options plain
    → job_found (found (at h waiting (place plain) true) words) ≡ line_job (plain ++ words) options
after_end [] h waiting options plain r =
    ap job_found (at_end h waiting (place plain) true [] r.quiet) ∙ rows_job (settled rules h).rows options plain r.holds
    ∙ ap (λ (l : List Word). line_job l options) (sym (append-nil plain))
after_end (word ∷ rest) h waiting options plain r =
    ap job_found (value_step h waiting true word rest plain [] r.quiet refl refl)
    ∙ after_end rest (with_value plain word h) (waiting_after plain) options (plain ++ word ∷ []) (ready_after word h options plain r)
    ∙ ap (λ (l : List Word). line_job l options) (append_assoc plain (word ∷ []) rest)

lost_after_end : (words : List Word) (h : Held) (waiting : Waiting) (plain : List Word) (k : ErrorKind) (ks : Kinds) → settle_fault rules false h ≡ k ∷ ks
    → found (at h waiting (place plain) true) words ≡ None
lost_after_end [] h waiting plain k ks settles = at_end h waiting (place plain) true (k ∷ ks) settles
lost_after_end (word ∷ rest) h waiting plain k ks settles = value_step h waiting true word rest plain (k ∷ ks) settles refl refl

-- ---- a state that is refused

abbrev pub AllUtf8 : List Word → Type 0
AllUtf8 [] = Unit {0}
AllUtf8 (word ∷ rest) = IsUtf8 word × AllUtf8 rest

lost_at_dash : (word : Word) → DashForm word → IsUtf8 word → (rest : List Word) (h : Held) (waiting : Waiting) (plain : List Word) (k : ErrorKind) (ks : Kinds) → settle_fault rules false h ≡ k ∷ ks
    → h.skip ≡ 0 → found (at h waiting (place plain) false) (word ∷ rest) ≡ None
lost_at_dash word (stray_form y ys part long short other) utf8 rest h waiting plain k ks settles skip =
    let first = after_dash y ys utf8 in
    refuses h waiting (place plain) false _ rest UnknownArgument [] (fault_stray waiting (45 ∷ y ∷ ys) y first.0 ys h skip other long short first.1)
lost_at_dash word (end_form _ part end) utf8 rest h waiting plain k ks settles skip =
    turn h waiting (place plain) false word rest [] (h, trailing (place plain)) (fault_end waiting word h end) (met_end waiting (place plain) word h end)
    ∙ lost_after_end rest h waiting plain k ks settles
lost_at_dash word (named_form _ name part long other) utf8 rest h waiting plain k ks settles skip = elim (named name) [
  | an_option _ known its ↦ refuses h waiting (place plain) false word rest k ks (fault_named waiting word name h other long its ∙ settles)
  | no_option _ unknown none ↦ refuses h waiting (place plain) false word rest UnknownArgument [] (fault_unknown waiting word name None h other long none)
]
lost_at_dash word (joined_form _ name v part long other) utf8 rest h waiting plain k ks settles skip = elim (named name) [
  | an_option _ known its ↦ refuses h waiting (place plain) false word rest k ks (fault_joined waiting word name v h other long its
      ∙ ap (λ (f : Kinds). or_else f (use_fault false (long_rule name) (v ∷ []) (settled rules h).rows)) settles)
  | no_option _ unknown none ↦ refuses h waiting (place plain) false word rest UnknownArgument [] (fault_unknown waiting word name (Some v) h other long none)
]

-- no option waits
pub data Free : Waiting → Type 0 where
  when_idle : Free idle
  when_positional : Free positional

met_when_free : (waiting : Waiting) (p : ℕ) (word : Word) (h : Held) → Free waiting → bytes_eq word dashes ≡ false → long_of word ≡ None → short_of word ≡ None
    → word_met rules [] false waiting p word h ≡ (h, value)
met_when_free _ p word h when_idle other long short = (met_plain p word h other long short).0
met_when_free _ p word h when_positional other long short = (met_plain p word h other long short).1

lost : (words : List Word) → AllUtf8 words → (h : Held) (waiting : Waiting) → Free waiting → (plain : List Word) (k : ErrorKind) (ks : Kinds) → settle_fault rules false h ≡ k ∷ ks → h.skip ≡ 0
    → found (at h waiting (place plain) false) words ≡ None
lost [] utf8 h waiting free plain k ks settles skip = at_end h waiting (place plain) false (k ∷ ks) settles
lost (word ∷ rest) utf8 h waiting free plain k ks settles skip = elim (forms word) [
  | plain_form _ part long short other numeral ↦ value_step h waiting false word rest plain (k ∷ ks) settles (fault_plain waiting word h other long short)
      (met_when_free waiting (place plain) word h free other long short)
  | dash_form _ begins form ↦ lost_at_dash word form utf8.0 rest h waiting plain k ks settles skip
]

-- ---- the job of a line, where a part of it is held

abbrev pub job_from : List Word → List Given → Option Line → Option Job
job_from plain options line = option_and_then (λ (l : Line). line_job (plain ++ l.plain) (options ++ l.options)) line

more_plain : (plain : List Word) (options : List Given) (word : Word) (line : Option Line) → job_from (plain ++ word ∷ []) options line ≡ job_from plain options (option_map (with_plain word) line)
more_plain plain options word None = refl
more_plain plain options word (Some l) = ap (λ (p : List Word). line_job p (options ++ l.options)) (append_assoc plain (word ∷ []) l.plain)

more_options : (plain : List Word) (options : List Given) (name v : Word) (line : Option Line) → job_from plain (options ++ (name, v) ∷ []) line ≡ job_from plain options (option_map (with_option name v) line)
more_options plain options name v None = refl
more_options plain options name v (Some l) = ap (λ (o : List Given). line_job (plain ++ l.plain) o) (append_assoc options ((name, v) ∷ []) l.options)

unknown_more : (plain : List Word) (options : List Given) (name v : Word) (line : Option Line) → Unknown name → job_from plain options (option_map (with_option name v) line) ≡ None
unknown_more plain options name v None unknown = refl
unknown_more plain options name v (Some l) unknown = unknown_option (plain ++ l.plain) options name v l.options unknown

twice_more : (plain : List Word) (options : List Given) (name v before : Word) (line : Option Line) → Known name → named_so name options ≡ (name, before) ∷ [] → job_from plain options (option_map (with_option name v) line) ≡ None
twice_more plain options name v before None known has = refl
twice_more plain options name v before (Some l) known has = given_twice (plain ++ l.plain) options name v before l.options known has

no_numeral_more : (plain : List Word) (options : List Given) (name v : Word) (line : Option Line) → Known name → is_numeral v ≡ false → job_from plain options (option_map (with_option name v) line) ≡ None
no_numeral_more plain options name v None known none = refl
no_numeral_more plain options name v (Some l) known none = no_numeral (plain ++ l.plain) options name v l.options known none

none_or : (plain : List Word) (options : List Given) (b : Bool) (line : Option Line) → job_from plain options line ≡ None → job_from plain options (cond b None line) ≡ None
none_or plain options true line none = refl
none_or plain options false line none = none

unknown_named : (plain : List Word) (options : List Given) (name : Word) (rest : List Word) → Unknown name → job_from plain options (line_from (Some name) rest) ≡ None
unknown_named plain options name [] unknown = refl
unknown_named plain options name (v ∷ rest) unknown =
    none_or plain options (begins_with (codes "-") v) (option_map (with_option name v) (line_from None rest)) (unknown_more plain options name v (line_from None rest) unknown)

-- ---- the claims

abbrev ReadyClaim : List Word → Type 0
ReadyClaim words = (h : Held) (waiting : Waiting) → Free waiting → (options : List Given) (plain : List Word) → Ready h options plain
    → job_found (found (at h waiting (place plain) false) words) ≡ job_from plain options (line_from None words)

abbrev due_held : List Row → Word → Held
due_held rows name = record { rows = rows; pending = Some (name, []); skip = 0 }

abbrev DueClaim : List Word → Type 0
DueClaim words = (rows : List Row) (name : Word) → Known name → (options : List Given) (plain : List Word) → Holds rows options plain
    → job_found (found (at (due_held rows name) (option name) (place plain) false) words) ≡ job_from plain options (line_from (Some name) words)

free_after : (plain : List Word) → Free (waiting_after plain)
free_after [] = when_idle
free_after (command ∷ operands) = when_positional

ready_at_plain : (word : Word) (rest : List Word) → ReadyClaim rest → (h : Held) (waiting : Waiting) → Free waiting → (options : List Given) (plain : List Word) → Ready h options plain
    → part_of word ≡ Plain word → long_of word ≡ None → short_of word ≡ None → bytes_eq word dashes ≡ false
    → job_found (found (at h waiting (place plain) false) (word ∷ rest)) ≡ job_from plain options (line_from None (word ∷ rest))
ready_at_plain word rest later h waiting free options plain r part long short other =
    let line : line_from None (word ∷ rest) ≡ option_map (with_plain word) (line_from None rest) = rw (part, line_from) refl in
    ap job_found (value_step h waiting false word rest plain [] r.quiet (fault_plain waiting word h other long short) (met_when_free waiting (place plain) word h free other long short))
    ∙ later (with_value plain word h) (waiting_after plain) (free_after plain) options (plain ++ word ∷ []) (ready_after word h options plain r)
    ∙ more_plain plain options word (line_from None rest) ∙ ap (job_from plain options) (sym line)

use_is : (name v : Word) (rows : List Row) → use_fault false (long_rule name) (v ∷ []) rows ≡ repeat_fault false name rows
use_is name v rows = nothing_after (repeat_fault false name rows)

row_none : (name : Word) (rows : List Row) → all_of name rows ≡ None → has_row name rows ≡ false
row_none name rows none = has_row_is name rows ∙ ap (λ (o : Option (List Text)). is_some o) none

row_one : (name v : Word) (rows : List Row) → all_of name rows ≡ Some (v ∷ []) → has_row name rows ≡ true
row_one name v rows one = has_row_is name rows ∙ ap (λ (o : Option (List Text)). is_some o) one

ready_at_joined : (word : Word) (rest : List Word) → ReadyClaim rest → (h : Held) (waiting : Waiting) (options : List Given) (plain : List Word) → Ready h options plain
    → (name v : Word) → part_of word ≡ Joined name v → long_of word ≡ Some (name, Some v) → bytes_eq word dashes ≡ false → Known name → arg_by_long rules name ≡ Some (long_rule name)
    → Same name (settled rules h).rows options
    → job_found (found (at h waiting (place plain) false) (word ∷ rest)) ≡ job_from plain options (option_map (with_option name v) (line_from None rest))
ready_at_joined word rest later h waiting options plain r name v part long other known its (in_neither no_row not_given) =
    let once : use_fault false (long_rule name) (v ∷ []) (settled rules h).rows ≡ [] = use_is name v (settled rules h).rows ∙ not_repeated name (settled rules h).rows (row_none name (settled rules h).rows no_row) in
    let fault : word_fault top [] false waiting word h ≡ [] = fault_joined waiting word name v h other long its ∙ (λ i. or_else (r.quiet i) (once i)) in
    ap job_found (turn h waiting (place plain) false word rest [] (reacted rules (long_rule name) (v ∷ []) h, next idle) fault (met_joined waiting (place plain) word name v h other long its))
    ∙ later (reacted rules (long_rule name) (v ∷ []) h) idle when_idle (options ++ (name, v) ∷ []) plain (record {
      quiet = refl;
      skip = r.skip;
      holds = with_given name v (settled rules h).rows options plain known no_row not_given r.holds;
    })
    ∙ more_options plain options name v (line_from None rest)
ready_at_joined word rest later h waiting options plain r name v part long other known its (in_both before a_row given) =
    let again : use_fault false (long_rule name) (v ∷ []) (settled rules h).rows ≡ ArgumentConflict ∷ [] = use_is name v (settled rules h).rows ∙ repeated name (settled rules h).rows (row_one name before (settled rules h).rows a_row) in
    let fault : word_fault top [] false waiting word h ≡ ArgumentConflict ∷ [] = fault_joined waiting word name v h other long its ∙ (λ i. or_else (r.quiet i) (again i)) in
    ap job_found (refuses h waiting (place plain) false word rest ArgumentConflict [] fault)
    ∙ sym (twice_more plain options name v before (line_from None rest) known given)

ready_at_named : (word : Word) (rest : List Word) → DueClaim rest → (h : Held) (waiting : Waiting) (options : List Given) (plain : List Word) → Ready h options plain
    → (name : Word) → long_of word ≡ Some (name, None) → bytes_eq word dashes ≡ false → Known name → arg_by_long rules name ≡ Some (long_rule name)
    → job_found (found (at h waiting (place plain) false) (word ∷ rest)) ≡ job_from plain options (line_from (Some name) rest)
ready_at_named word rest due h waiting options plain r name long other known its =
    ap job_found (turn h waiting (place plain) false word rest [] (record (settled rules h) { pending = Some (name, []) }, next (option name))
    (fault_named waiting word name h other long its ∙ r.quiet) (met_named waiting (place plain) word name h other long its)
    ∙ (λ i. found (at (record { rows = (settled rules h).rows; pending = Some (name, []); skip = r.skip i }) (option name) (place plain) false) rest))
    ∙ due (settled rules h).rows name known options plain r.holds

ready_at_dash : (word : Word) → DashForm word → IsUtf8 word → (rest : List Word) → ReadyClaim rest → DueClaim rest → (h : Held) (waiting : Waiting) (options : List Given) (plain : List Word) → Ready h options plain
    → job_found (found (at h waiting (place plain) false) (word ∷ rest)) ≡ job_from plain options (line_from None (word ∷ rest))
ready_at_dash word (stray_form y ys part long short other) utf8 rest later due h waiting options plain r =
    let first = after_dash y ys utf8 in
    let line : line_from None ((45 ∷ y ∷ ys) ∷ rest) ≡ None = rw (part, line_from) refl in
    ap job_found (refuses h waiting (place plain) false _ rest UnknownArgument [] (fault_stray waiting (45 ∷ y ∷ ys) y first.0 ys h r.skip other long short first.1))
    ∙ ap (job_from plain options) (sym line)
ready_at_dash word (end_form _ part end) utf8 rest later due h waiting options plain r =
    let line : line_from None (word ∷ rest) ≡ Some (record { options = []; plain = rest }) = rw (part, line_from) refl in
    ap job_found (turn h waiting (place plain) false word rest [] (h, trailing (place plain)) (fault_end waiting word h end) (met_end waiting (place plain) word h end))
    ∙ after_end rest h waiting options plain r ∙ ap (λ (o : List Given). line_job (plain ++ rest) o) (sym (append-nil options)) ∙ ap (job_from plain options) (sym line)
ready_at_dash word (named_form _ name part long other) utf8 rest later due h waiting options plain r =
    let line : line_from None (word ∷ rest) ≡ line_from (Some name) rest = rw (part, line_from) refl in
    elim (named name) [
      | an_option _ known its ↦ ready_at_named word rest due h waiting options plain r name long other known its ∙ ap (job_from plain options) (sym line)
      | no_option _ unknown none ↦ ap job_found (refuses h waiting (place plain) false word rest UnknownArgument [] (fault_unknown waiting word name None h other long none))
          ∙ sym (unknown_named plain options name rest unknown) ∙ ap (job_from plain options) (sym line)
    ]
ready_at_dash word (joined_form _ name v part long other) utf8 rest later due h waiting options plain r =
    let line : line_from None (word ∷ rest) ≡ option_map (with_option name v) (line_from None rest) = rw (part, line_from) refl in
    elim (named name) [
      | an_option _ known its ↦ ready_at_joined word rest later h waiting options plain r name v part long other known its (r.holds.same name known) ∙ ap (job_from plain options) (sym line)
      | no_option _ unknown none ↦ ap job_found (refuses h waiting (place plain) false word rest UnknownArgument [] (fault_unknown waiting word name (Some v) h other long none))
          ∙ sym (unknown_more plain options name v (line_from None rest) unknown) ∙ ap (job_from plain options) (sym line)
    ]

-- the word is the value of the option that waits
due_at_plain : (word : Word) (rest : List Word) → AllUtf8 rest → ReadyClaim rest → (rows : List Row) (name : Word) → Known name → (options : List Given) (plain : List Word) → Holds rows options plain
    → long_of word ≡ None → short_of word ≡ None → bytes_eq word dashes ≡ false → (begins_with (codes "-") word ≡ true → is_numeral word ≡ false) → Same name rows options
    → job_found (found (at (due_held rows name) (option name) (place plain) false) (word ∷ rest)) ≡ job_from plain options (line_from (Some name) (word ∷ rest))
due_at_plain word rest utf8 later rows name known options plain h long short other numeral same =
    let its : arg_by_id rules name ≡ Some (long_rule name) = known_rule name known in
    ap job_found (turn (due_held rows name) (option name) (place plain) false word rest [] (taken, next idle) (fault_plain (option name) word (due_held rows name) other long short)
    (met_due (place plain) word name rows other long short its))
    ∙ by_same its same
  where
    taken : Held
    taken = record { rows = rows; pending = Some (name, word ∷ []); skip = 0 }

    unless_dash : (b : Bool) → begins_with (codes "-") word ≡ b → job_from plain options (option_map (with_option name word) (line_from None rest)) ≡ job_from plain options (cond b None (option_map (with_option name word) (line_from None rest)))
    unless_dash true begins = no_numeral_more plain options name word (line_from None rest) known (numeral begins)
    unless_dash false begins = refl

    by_same : arg_by_id rules name ≡ Some (long_rule name) → Same name rows options
        → job_found (found (at taken idle (place plain) false) rest) ≡ job_from plain options (line_from (Some name) (word ∷ rest))
    by_same its (in_neither no_row not_given) =
        later taken idle when_idle (options ++ (name, word) ∷ []) plain (record {
          quiet = use_of_option name word rows its ∙ not_repeated name rows (row_none name rows no_row);
          skip = refl;
          holds = subst (λ (a : Option Rule). Holds (used_by_id a (word ∷ []) rows) (options ++ (name, word) ∷ []) plain) (sym its) (with_given name word rows options plain known no_row not_given h);
        })
        ∙ more_options plain options name word (line_from None rest) ∙ unless_dash (begins_with (codes "-") word) refl
    by_same its (in_both before a_row given) =
        ap job_found (lost rest utf8 taken idle when_idle plain ArgumentConflict [] (use_of_option name word rows its ∙ repeated name rows (row_one name before rows a_row)) refl)
        ∙ sym (none_or plain options (begins_with (codes "-") word) (option_map (with_option name word) (line_from None rest)) (twice_more plain options name word before (line_from None rest) known given))

due_at_dash : (word : Word) → DashForm word → begins_with (codes "-") word ≡ true → IsUtf8 word → (rest : List Word) (rows : List Row) (name : Word) → Known name → (options : List Given) (plain : List Word)
    → job_found (found (at (due_held rows name) (option name) (place plain) false) (word ∷ rest)) ≡ job_from plain options (line_from (Some name) (word ∷ rest))
due_at_dash word form begins utf8 rest rows name known options plain =
    ap job_found (lost_at_dash word form utf8 rest (due_held rows name) (option name) plain InvalidValue [] (no_value name rows (known_rule name known)) refl)
    ∙ sym (ap (λ (b : Bool). job_from plain options (cond b None (option_map (with_option name word) (line_from None rest)))) begins)

claims : (words : List Word) → AllUtf8 words → ReadyClaim words × DueClaim words
claims [] utf8 = (
  (λ h waiting free options plain r. ap job_found (at_end h waiting (place plain) false [] r.quiet) ∙ rows_job (settled rules h).rows options plain r.holds
      ∙ sym ((λ i. line_job (append-nil plain i) (append-nil options i)))),
  (λ rows name known options plain h. ap job_found (at_end (due_held rows name) (option name) (place plain) false (InvalidValue ∷ []) (no_value name rows (known_rule name known)))),
)
claims (word ∷ rest) utf8 = go (forms word) (claims rest utf8.1) where
  go : Form word → ReadyClaim rest × DueClaim rest → ReadyClaim (word ∷ rest) × DueClaim (word ∷ rest)
  go (plain_form _ part long short other numeral) later = (
    (λ h waiting free options plain r. ready_at_plain word rest later.0 h waiting free options plain r part long short other),
    (λ rows name known options plain h. due_at_plain word rest utf8.1 later.0 rows name known options plain h long short other numeral (h.same name known)),
  )
  go (dash_form _ begins form) later = (
    (λ h waiting free options plain r. ready_at_dash word form utf8.0 rest later.0 later.1 h waiting options plain r),
    (λ rows name known options plain h. due_at_dash word form begins utf8.0 rest rows name known options plain),
  )

-- ---- the whole line

in_steps : (line : Option Line) → job_from [] [] line ≡ (line >>= λ l. line_job l.plain l.options)
in_steps None = refl
in_steps (Some l) = refl

all_found : (words : List Word) → AllUtf8 words → job_found (found (walk_from nothing_held) words) ≡ job_of words
all_found words utf8 =
    (claims words utf8).0 nothing_held idle when_idle [] [] (record { quiet = refl; skip = refl; holds = holding.nothing_held }) ∙ in_steps (line_from None words)

by_clap : (words : List Word) → cond (is_fine (fault_of app words)) (Some (matches_of app words)) None ≡ found (walk_from nothing_held) words
by_clap words = (λ i. cond (is_fine (fault_is words i)) (Some (matches_are words i)) None) ∙ by_walk words (walk_from nothing_held)

-- words that clap takes ask for the job of its matches
pub taken_words : (words : List Word) → AllUtf8 words → fault_of app words ≡ [] → job_in (matches_of app words) ≡ job_of words
taken_words words utf8 fine =
    sym (ap (λ (f : Kinds). job_found (cond (is_fine f) (Some (matches_of app words)) None)) fine) ∙ ap job_found (by_clap words) ∙ all_found words utf8

not_fine : (f : Kinds) → (length f ≡ 0 → ⊥) → is_fine f ≡ false
not_fine [] some = absurd (some refl)
not_fine (k ∷ ks) some = refl

-- and words that it refuses ask for none
pub refused_words : (words : List Word) → AllUtf8 words → (length (fault_of app words) ≡ 0 → ⊥) → job_of words ≡ None
refused_words words utf8 some =
    sym (ap (λ (b : Bool). job_found (cond b (Some (matches_of app words)) None)) (sym (not_fine (fault_of app words) some)) ∙ ap job_found (by_clap words) ∙ all_found words utf8)
