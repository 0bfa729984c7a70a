-- What clap's walk does at one word, by what the word is.
use Rattle.std.proofs.Common.{◌≡◌, ◌∙◌, ℕ, true, false, List, [], ◌∷◌, Option, Some, None, refl, ap}
use Rattle.std.specs.Str.{bytes_eq, chars}
use Rattle.std.specs.Prelude.{slice_get}
use Rattle.std.proofs.lemmas.Slice.Eq.{bytes_eq-Decides}
use Rattle.clap.specs.Kinds.{or_else}
use Rattle.clap.specs.Words.{Row, Text, Kinds}
use Rattle.clap.specs.Lexer.{long_of, short_of}
use Rattle.clap.specs.Walk.{Held, Waiting, idle, option, positional, next, trailing, value, word_met, subcommand_met, subcommand_or_other, arg_by_long, arg_by_id, settled, reacted}
use Rattle.clap.specs.Faults.{word_fault, other_fault, react_fault, settle_fault, repeat_fault, flags_fault}
use Rattle.clap.specs.declared.error.ErrorKind.TheVariants.{UnknownArgument, InvalidValue}
use Rattle.dj_command_line.proofs.Forms.{dashes}
use Rattle.dj_command_line.proofs.Rules.{rules, long_rule}
use Rattle.dj_command_line.proofs.AfterWalk.{top}

no_subcommand : (w : Waiting) (word : Text) → subcommand_met [] w word ≡ None
no_subcommand idle word = refl
no_subcommand (option id) word = refl
no_subcommand positional word = refl

met_as : (w : Waiting) (p : ℕ) (word : Text) (h : Held) → word_met rules [] false w p word h ≡ subcommand_or_other rules None w p word h
met_as w p word h = ap (λ (o : Option Text). subcommand_or_other rules o w p word h) (no_subcommand w word)

fault_as_met : (w : Waiting) (word : Text) (h : Held) → word_fault top [] false w word h ≡ other_fault top None word h
fault_as_met w word h = ap (λ (o : Option Text). other_fault top o word h) (no_subcommand w word)

pub nothing_after : (k : Kinds) → or_else k [] ≡ k
nothing_after [] = refl
nothing_after (k ∷ ks) = refl

-- ---- --

pub met_end : (w : Waiting) (p : ℕ) (word : Text) (h : Held) → bytes_eq word dashes ≡ true → word_met rules [] false w p word h ≡ (h, trailing p)
met_end w p word h end = met_as w p word h ∙ rw end refl

pub fault_end : (w : Waiting) (word : Text) (h : Held) → bytes_eq word dashes ≡ true → word_fault top [] false w word h ≡ []
fault_end w word h end = fault_as_met w word h ∙ rw end refl

-- ---- a plain word

pub met_plain : (p : ℕ) (word : Text) (h : Held) → bytes_eq word dashes ≡ false → long_of word ≡ None → short_of word ≡ None
    → (word_met rules [] false idle p word h ≡ (h, value)) × (word_met rules [] false positional p word h ≡ (h, value))
met_plain p word h other long short = (rw (other, long, short) refl, rw (other, long, short) refl)

pub fault_plain : (w : Waiting) (word : Text) (h : Held) → bytes_eq word dashes ≡ false → long_of word ≡ None → short_of word ≡ None → word_fault top [] false w word h ≡ []
fault_plain w word h other long short = fault_as_met w word h ∙ rw (other, long, short) refl

-- ---- --NAME and --NAME=VALUE

pub met_named : (w : Waiting) (p : ℕ) (word name : Text) (h : Held) → bytes_eq word dashes ≡ false → long_of word ≡ Some (name, None) → arg_by_long rules name ≡ Some (long_rule name)
    → word_met rules [] false w p word h ≡ (record (settled rules h) { pending = Some (name, []) }, next (option name))
met_named w p word name h other long known = met_as w p word h ∙ rw (other, long, known) refl

pub fault_named : (w : Waiting) (word name : Text) (h : Held) → bytes_eq word dashes ≡ false → long_of word ≡ Some (name, None) → arg_by_long rules name ≡ Some (long_rule name)
    → word_fault top [] false w word h ≡ settle_fault rules false h
fault_named w word name h other long known = fault_as_met w word h ∙ rw (other, long, known) refl

pub met_joined : (w : Waiting) (p : ℕ) (word name v : Text) (h : Held) → bytes_eq word dashes ≡ false → long_of word ≡ Some (name, Some v) → arg_by_long rules name ≡ Some (long_rule name)
    → word_met rules [] false w p word h ≡ (reacted rules (long_rule name) (v ∷ []) h, next idle)
met_joined w p word name v h other long known = met_as w p word h ∙ rw (other, long, known) refl

pub fault_joined : (w : Waiting) (word name v : Text) (h : Held) → bytes_eq word dashes ≡ false → long_of word ≡ Some (name, Some v) → arg_by_long rules name ≡ Some (long_rule name)
    → word_fault top [] false w word h ≡ react_fault rules false (long_rule name) (v ∷ []) h
fault_joined w word name v h other long known = fault_as_met w word h ∙ rw (other, long, known) refl

pub fault_unknown : (w : Waiting) (word name : Text) (v : Option Text) (h : Held) → bytes_eq word dashes ≡ false → long_of word ≡ Some (name, v) → arg_by_long rules name ≡ None
    → word_fault top [] false w word h ≡ UnknownArgument ∷ []
fault_unknown w word name v h other long unknown = fault_as_met w word h ∙ rw (other, long, unknown) refl

-- ---- a word that is no option

pub fault_stray : (w : Waiting) (word : Text) (y x : ℕ) (ys : Text) (h : Held) → h.skip ≡ 0 → bytes_eq word dashes ≡ false → long_of word ≡ None → short_of word ≡ Some (y ∷ ys)
    → slice_get (chars (y ∷ ys)) 0 ≡ Some x → word_fault top [] false w word h ≡ UnknownArgument ∷ []
unfolding flags_fault
fault_stray w word y x ys h skip other long short first = fault_as_met w word h ∙ rw (other, long, short, skip, first) refl

-- ---- a plain word where an option waits, and any word after --

same_name : (name : Text) → bytes_eq name name ≡ true
same_name name = (bytes_eq-Decides name name).1 refl

pub met_due : (p : ℕ) (word name : Text) (rows : List Row) → bytes_eq word dashes ≡ false → long_of word ≡ None → short_of word ≡ None → arg_by_id rules name ≡ Some (long_rule name)
    → word_met rules [] false (option name) p word (record { rows = rows; pending = Some (name, []); skip = 0 })
    ≡ (record { rows = rows; pending = Some (name, word ∷ []); skip = 0 }, next idle)
met_due p word name rows other long short known = rw (other, long, short, known, same_name name) refl

pub met_ended : (w : Waiting) (p : ℕ) (word : Text) (h : Held) → word_met rules [] true w p word h ≡ (h, value)
met_ended w p word h = refl

pub fault_ended : (w : Waiting) (word : Text) (h : Held) → word_fault top [] true w word h ≡ []
fault_ended w word h = refl

-- ---- the use of an option: it may stand once, and wants a value

pub use_of_option : (name v : Text) (rows : List Row) → arg_by_id rules name ≡ Some (long_rule name)
    → settle_fault rules false (record { rows = rows; pending = Some (name, v ∷ []); skip = 0 }) ≡ repeat_fault false name rows
use_of_option name v rows known = rw known (nothing_after (repeat_fault false name rows))

pub no_value : (name : Text) (rows : List Row) → arg_by_id rules name ≡ Some (long_rule name)
    → settle_fault rules false (record { rows = rows; pending = Some (name, []); skip = 0 }) ≡ InvalidValue ∷ []
no_value name rows known = rw known refl
