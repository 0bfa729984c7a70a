-- The job that the words of a command line ask for, without the program's name.
--
-- Choices. An option's name ends at the first =. The value after it may be empty or begin with a dash, which a value in a word of its own may not; neither
-- value is a number, so both forms give no job. An option takes the next word as its value whatever its name is: a line with an option that the command
-- doesn't have gives no job in any case. Leading zeros count as digits. A single dash and the empty word are plain words.
use Rattle.std.specs.Prelude.{ℕ, ◌+◌, ◌-◌, ◌*◌, ◌==◌, ◌&&◌, Bool, List, [], ◌∷◌, Option, Some, None, length, take, drop, filter, fold, codes, nat_eq, nat_lt, nat_le, option_map, if◌then◌else◌}
use Rattle.std.specs.Char.{is_ascii_digit}
use Rattle.std.specs.Cmp.Lexicographic.{pointwise}
use Rattle.std.specs.List.{starts_with, ends_with, list_any, list_all, before_first, after_first}
use Rattle.dj_cursor.specs.trusted.Options.{◌>>=◌}
use Rattle.dj_names.specs.declared.run.Thresholds.{Thresholds}

-- a word: the bytes of its UTF-8
abbrev pub Word : Type 0
Word = List ℕ

abbrev pub is_word : Word → Word → Bool
is_word word other = pointwise nat_eq word other

abbrev pub begins_with : Word → Word → Bool
begins_with start word = starts_with nat_eq word start

-- ---- the parts of a line

-- what a word is, before `--` and where no option waits for its value
pub data WordPart : Type 0 where
  -- a plain word: the command or one of its operands
  Plain : Word → WordPart
  -- --NAME=VALUE
  Joined : Word → Word → WordPart
  -- --NAME, whose value is the next word
  Named : Word → WordPart
  -- --
  EndOfOptions : WordPart
  -- a dash with something after it that is no option
  Stray : WordPart

-- after the two dashes comes the name, up to the first =, and then the value
abbrev pub option_part : Word → WordPart
option_part text =
    if list_any (λ c. c == 61) text then Joined (before_first (λ c. c == 61) text) (after_first (λ c. c == 61) text) else Named text

abbrev pub part_of : Word → WordPart
part_of word =
    if is_word word (codes "--") then EndOfOptions
    else if begins_with (codes "--") word then option_part (drop 2 word)
    else if begins_with (codes "-") word && nat_lt 1 (length word) then Stray
    else Plain word

-- ---- the line

-- an option's name and its value
abbrev pub Given : Type 0
Given = Word × Word

-- a line of words: its options and its plain words, each in order
pub record Line : Type 0 where
  pub options : List Given
  pub plain : List Word

abbrev pub with_option : Word → Word → Line → Line
with_option name value line = record line { options = (name, value) ∷ line.options }

abbrev pub with_plain : Word → Line → Line
with_plain word line = record line { plain = word ∷ line.plain }

-- the words from here on, where an option of this name waits for its value, or no option does
abbrev pub line_from : Option Word → List Word → Option Line
line_from None [] = Some (record { options = []; plain = [] })
line_from (Some name) [] = None
line_from (Some name) (value ∷ rest) =
    if begins_with (codes "-") value then None else option_map (with_option name value) (line_from None rest)
line_from None (word ∷ rest) = elim (part_of word) [
  | Plain w ↦ option_map (with_plain w) (line_from None rest)
  | Joined name value ↦ option_map (with_option name value) (line_from None rest)
  | Named name ↦ line_from (Some name) rest
  | EndOfOptions ↦ Some (record { options = []; plain = rest })
  | Stray ↦ None
]

abbrev pub line_of : List Word → Option Line
line_of words = line_from None words

-- ---- numbers

abbrev pub decimal_value : Word → ℕ
decimal_value text = fold (λ n digit. n * 10 + (digit - 48)) 0 text

-- one to ten ASCII digits
abbrev pub is_numeral : Word → Bool
is_numeral text = nat_le 1 (length text) && nat_le (length text) 10 && list_all is_ascii_digit text

-- the number that the word writes, where it lies between these two
abbrev pub number_between : ℕ → ℕ → Word → Option ℕ
number_between least most text =
    if is_numeral text && nat_le least (decimal_value text) && nat_le (decimal_value text) most then Some (decimal_value text) else None

-- ---- options

-- an option of a command: its name, its greatest value, and its value where it isn't given
pub record Setting : Type 0 where
  pub name : Word
  pub most : ℕ
  pub default : ℕ

abbrev pub alloc_setting : Setting
alloc_setting = record { name = codes "alloc"; most = 1073741824; default = 67108864 }

abbrev pub invoke_setting : Setting
invoke_setting = record { name = codes "invoke"; most = 1073741824; default = 1000000 }

abbrev pub jump_setting : Setting
jump_setting = record { name = codes "jump"; most = 1073741824; default = 1000000 }

abbrev pub throw_setting : Setting
throw_setting = record { name = codes "throw"; most = 1048576; default = 1000000 }

abbrev pub steps_setting : Setting
steps_setting = record { name = codes "steps"; most = 100000000; default = 10000000 }

-- each option is one that the command has
abbrev pub has_only : List Setting → List Given → Bool
has_only settings options = list_all (λ given. list_any (λ s. is_word given.0 s.name) settings) options

-- the option's number: the default where it isn't given; none where it is given twice
abbrev pub number_given : Setting → List Given → Option ℕ
number_given s [] = Some s.default
number_given s (given ∷ []) = number_between 0 s.most given.1
number_given s (given ∷ other ∷ others) = None

abbrev pub number_of : Setting → List Given → Option ℕ
number_of s options = number_given s (filter (λ given. is_word given.0 s.name) options)

abbrev pub given_thresholds : List Given → Option Thresholds
given_thresholds options = do
  alloc ← number_of alloc_setting options
  invoke ← number_of invoke_setting options
  jump ← number_of jump_setting options
  throw ← number_of throw_setting options
  Some (record { alloc = alloc; invoke = invoke; jump = jump; throw = throw })

abbrev pub thresholds_of : List Given → Option Thresholds
thresholds_of options =
    if has_only (alloc_setting ∷ invoke_setting ∷ jump_setting ∷ throw_setting ∷ []) options then given_thresholds options else None

abbrev pub steps_of : List Given → Option ℕ
steps_of options = if has_only (steps_setting ∷ []) options then number_of steps_setting options else None

-- ---- commands

-- a command with its words and numbers. A class name keeps its dots here; `entry_name` makes slashes of them
pub data Job : Type 0 where
  -- check FOLDER
  Check : Word → Job
  -- verify FOLDER ENTRY INPUT
  Verify : Word → Word → Word → Thresholds → Job
  -- rewrite FOLDER CLASS
  Rewrite : Word → Word → Job
  -- raw FOLDER ENTRY INPUT, and the most steps
  Raw : Word → Word → Word → ℕ → Job
  -- assemble FILE
  Assemble : Word → Job
  -- sample SEED COUNT
  Sample : ℕ → ℕ → Job

-- one slash at the end of a folder is dropped
abbrev pub without_slash : Word → Word
without_slash folder = if ends_with nat_eq folder (codes "/") then take (length folder - 1) folder else folder

-- the plain words after the command, exactly as many as it takes, and its options
abbrev pub check_job : List Word → List Given → Option Job
check_job (folder ∷ []) [] = Some (Check (without_slash folder))
check_job _ _ = None

abbrev pub verify_job : List Word → List Given → Option Job
verify_job (folder ∷ entry ∷ input ∷ []) options = option_map (Verify (without_slash folder) entry input) (thresholds_of options)
verify_job _ _ = None

abbrev pub rewrite_job : List Word → List Given → Option Job
rewrite_job (folder ∷ class ∷ []) [] = Some (Rewrite (without_slash folder) class)
rewrite_job _ _ = None

abbrev pub raw_job : List Word → List Given → Option Job
raw_job (folder ∷ entry ∷ input ∷ []) options = option_map (Raw (without_slash folder) entry input) (steps_of options)
raw_job _ _ = None

abbrev pub assemble_job : List Word → List Given → Option Job
assemble_job (file ∷ []) [] = Some (Assemble file)
assemble_job _ _ = None

abbrev pub sample_job : List Word → List Given → Option Job
sample_job (seed ∷ count ∷ []) [] = do
  s ← number_between 0 65536 seed
  c ← number_between 1 1000 count
  Some (Sample s c)
sample_job _ _ = None

abbrev pub command_job : Word → List Word → List Given → Option Job
command_job command operands options =
    if is_word command (codes "check") then check_job operands options
    else if is_word command (codes "verify") then verify_job operands options
    else if is_word command (codes "rewrite") then rewrite_job operands options
    else if is_word command (codes "raw") then raw_job operands options
    else if is_word command (codes "assemble") then assemble_job operands options
    else if is_word command (codes "sample") then sample_job operands options
    else None

-- the first plain word is the command
abbrev pub line_job : List Word → List Given → Option Job
line_job [] options = None
line_job (command ∷ operands) options = command_job command operands options

abbrev pub job_of : List Word → Option Job
job_of words = do
  line ← line_of words
  line_job line.plain line.options
