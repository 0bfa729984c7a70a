-- What the rows of clap hold of a line, and the job of those rows.
use Rattle.std.proofs.Common.{◌≡◌, ◌∙◌, inl, inr, ◌&&◌, ◌++◌, ℕ, Bool, true, false, List, [], ◌∷◌, Option, Some, None, refl, ap, sym, subst, cond, codes, not, append-nil, unwrap_or}
use Rattle.std.specs.Prelude.{is_some, option_and_then, slice_get}
use Rattle.std.specs.List.{list_all}
use Rattle.std.specs.Str.{bytes_eq}
use Rattle.std.proofs.lemmas.List.Elements.{filter-append}
use Rattle.dj_cursor.specs.trusted.Options.{◌>>=◌}
use Rattle.dj_names.specs.declared.run.Thresholds.{Thresholds}
use Rattle.clap.specs.Words.{Row, Text, all_of, first_of}
use Rattle.clap.specs.Walk.{has_row, used, reading_by}
use Rattle.dj_command_line.specs.trusted.Words.{Word, Given, Setting, is_word, number_of, number_given, has_only, thresholds_of, steps_of, command_job, line_job, check_job, verify_job, rewrite_job, raw_job, assemble_job, sample_job, alloc_setting, invoke_setting, jump_setting, throw_setting, steps_setting}
use Rattle.dj_command_line.specs.WordsApp.{values_of, has_no_threshold, has_no_value, number_in, thresholds_in, steps_in, verify_in, raw_in, job_of_values, job_in}
use Rattle.dj_command_line.proofs.Rules.{Known, is_alloc, is_invoke, is_jump, is_throw, is_steps, command_rule, words_rule, long_rule, same_or}
use Rattle.dj_command_line.proofs.NoJobs.{no_check, no_rewrite, no_assemble, no_sample}
use Rattle.dj_command_line.proofs.OptionLaws.{and_false, named_so, named_at, itself, threshold_settings}
use Rattle.dj_command_line.proofs.RowLemmas.{added, values_here, values_elsewhere, used_option, used_command, used_words, has_row_is, first_is_head}

-- ---- what rows hold

-- an option of this name is in neither, or in both, once and with one value
pub data Same (name : Word) (rows : List Row) (options : List Given) : Type 0 where
  in_neither : all_of name rows ≡ None → named_so name options ≡ [] → Same name rows options
  in_both : (value : Word) → all_of name rows ≡ Some (value ∷ []) → named_so name options ≡ (name, value) ∷ [] → Same name rows options

abbrev pub AllKnown : List Given → Type 0
AllKnown [] = Unit {0}
AllKnown (given ∷ rest) = Known given.0 × AllKnown rest

abbrev pub command_values : List Word → Option (List Word)
command_values [] = None
command_values (command ∷ operands) = Some (command ∷ [])

abbrev pub words_values : List Word → Option (List Word)
words_values [] = None
words_values (command ∷ []) = None
words_values (command ∷ operand ∷ operands) = Some (operand ∷ operands)

pub record Holds (rows : List Row) (options : List Given) (plain : List Word) : Type 0 where
  pub command : all_of (codes "command") rows ≡ command_values plain
  pub words : all_of (codes "words") rows ≡ words_values plain
  pub known : AllKnown options
  pub same : (name : Word) → Known name → Same name rows options

pub nothing_held : Holds [] [] []
nothing_held = record { command = refl; words = refl; known = tt; same = λ name known. in_neither refl refl }

-- ---- one more word, and one more option

same_rows : (name : Word) (rows later : List Row) (options : List Given) → all_of name later ≡ all_of name rows → Same name rows options → Same name later options
same_rows name rows later options e (in_neither a b) = in_neither (e ∙ a) b
same_rows name rows later options e (in_both value a b) = in_both value (e ∙ a) b

-- the names of options are not those of the plain words
apart_command : (name : Word) → Known name → (bytes_eq (codes "command") name ≡ false) × (bytes_eq name (codes "command") ≡ false)
apart_command _ is_alloc = (refl, refl)
apart_command _ is_invoke = (refl, refl)
apart_command _ is_jump = (refl, refl)
apart_command _ is_throw = (refl, refl)
apart_command _ is_steps = (refl, refl)

apart_words : (name : Word) → Known name → (bytes_eq (codes "words") name ≡ false) × (bytes_eq name (codes "words") ≡ false)
apart_words _ is_alloc = (refl, refl)
apart_words _ is_invoke = (refl, refl)
apart_words _ is_jump = (refl, refl)
apart_words _ is_throw = (refl, refl)
apart_words _ is_steps = (refl, refl)

pub no_command_row : (rows : List Row) (options : List Given) → Holds rows options [] → has_row (codes "command") rows ≡ false
no_command_row rows options h = has_row_is (codes "command") rows ∙ ap (λ (o : Option (List Text)). is_some o) h.command

pub with_command : (word : Word) (rows : List Row) (options : List Given) → Holds rows options [] → Holds (used command_rule (word ∷ []) rows) options (word ∷ [])
with_command word rows options h =
    subst (λ (rs : List Row). Holds rs options (word ∷ [])) (sym (used_command word rows (no_command_row rows options h))) (record {
      command = values_here (codes "command") word (reading_by command_rule) rows refl ∙ ap (λ (o : Option (List Text)). Some (unwrap_or o [] ++ word ∷ [])) h.command;
      words = values_elsewhere (codes "command") (codes "words") word (reading_by command_rule) rows refl ∙ h.words;
      known = h.known;
      same = λ name known. same_rows name rows _ options (values_elsewhere (codes "command") name word (reading_by command_rule) rows (apart_command name known).0) (h.same name known);
    })

longer : (command : Word) (operands : List Word) (word : Word) → Some (unwrap_or (words_values (command ∷ operands)) [] ++ word ∷ []) ≡ words_values ((command ∷ operands) ++ word ∷ [])
longer command [] word = refl
longer command (operand ∷ operands) word = refl

pub with_operand : (word : Word) (rows : List Row) (options : List Given) (command : Word) (operands : List Word) → Holds rows options (command ∷ operands)
    → Holds (used words_rule (word ∷ []) rows) options ((command ∷ operands) ++ word ∷ [])
with_operand word rows options command operands h =
    subst (λ (rs : List Row). Holds rs options ((command ∷ operands) ++ word ∷ [])) (sym (used_words word rows)) (record {
      command = values_elsewhere (codes "words") (codes "command") word (reading_by words_rule) rows refl ∙ h.command;
      words = values_here (codes "words") word (reading_by words_rule) rows refl ∙ ap (λ (o : Option (List Text)). Some (unwrap_or o [] ++ word ∷ [])) h.words ∙ longer command operands word;
      known = h.known;
      same = λ name known. same_rows name rows _ options (values_elsewhere (codes "words") name word (reading_by words_rule) rows (apart_words name known).0) (h.same name known);
    })

one_more_known : (options : List Given) (name value : Word) → Known name → AllKnown options → AllKnown (options ++ (name, value) ∷ [])
one_more_known [] name value known all = (known, tt)
one_more_known (x ∷ xs) name value known all = (all.0, one_more_known xs name value known all.1)

not_named : (other : Word) (options : List Given) (name value : Word) → bytes_eq name other ≡ false → named_so other (options ++ (name, value) ∷ []) ≡ named_so other options
not_named other options name value differ =
    filter-append (λ (given : Given). is_word given.0 other) options ((name, value) ∷ [])
    ∙ ap (λ (l : List Given). named_so other options ++ l) (rw differ refl) ∙ append-nil (named_so other options)

same_after : (name value : Word) (rows : List Row) (options : List Given) → Known name → all_of name rows ≡ None → named_so name options ≡ []
    → (other : Word) → Same other rows options → Same other (added (long_rule name) value rows) (options ++ (name, value) ∷ [])
same_after name value rows options known no_row not_given other before = elim (same_or name other) [
  | inl e ↦ subst (λ (n : Word). Same n (added (long_rule name) value rows) (options ++ (name, value) ∷ [])) e
      (in_both value
      (values_here name value (reading_by (long_rule name)) rows (itself name known) ∙ ap (λ (o : Option (List Text)). Some (unwrap_or o [] ++ value ∷ [])) no_row)
      (named_at name options (name, value) [] (itself name known) ∙ ap (λ (l : List Given). l ++ (name, value) ∷ []) not_given))
  | inr differ ↦ elsewhere_too (values_elsewhere name other value (reading_by (long_rule name)) rows differ) (not_named other options name value differ) before
] where
  elsewhere_too : all_of other (added (long_rule name) value rows) ≡ all_of other rows → named_so other (options ++ (name, value) ∷ []) ≡ named_so other options
      → Same other rows options → Same other (added (long_rule name) value rows) (options ++ (name, value) ∷ [])
  elsewhere_too a b (in_neither c d) = in_neither (a ∙ c) (b ∙ d)
  elsewhere_too a b (in_both v c d) = in_both v (a ∙ c) (b ∙ d)

pub with_given : (name value : Word) (rows : List Row) (options : List Given) (plain : List Word) → Known name → all_of name rows ≡ None → named_so name options ≡ []
    → Holds rows options plain → Holds (used (long_rule name) (value ∷ []) rows) (options ++ (name, value) ∷ []) plain
with_given name value rows options plain known no_row not_given h =
    let none : has_row name rows ≡ false = has_row_is name rows ∙ ap (λ (o : Option (List Text)). is_some o) no_row in
    subst (λ (rs : List Row). Holds rs (options ++ (name, value) ∷ []) plain) (sym (used_option name value rows none)) (record {
      command = values_elsewhere name (codes "command") value (reading_by (long_rule name)) rows (apart_command name known).1 ∙ h.command;
      words = values_elsewhere name (codes "words") value (reading_by (long_rule name)) rows (apart_words name known).1 ∙ h.words;
      known = one_more_known options name value known h.known;
      same = λ other its. same_after name value rows options known no_row not_given other (h.same other its);
    })

-- ---- the job of the rows

abbrev lacks : Word → List Given → Bool
lacks name options = list_all (λ given. not (is_word given.0 name)) options

abbrev is_none : List Given → Bool
is_none [] = true
is_none (x ∷ xs) = false

lacks_named : (name : Word) (options : List Given) → lacks name options ≡ is_none (named_so name options)
lacks_named name [] = refl
lacks_named name (x ∷ xs) = go (is_word x.0 name) refl (lacks_named name xs) where
  go : (b : Bool) → is_word x.0 name ≡ b → lacks name xs ≡ is_none (named_so name xs) → lacks name (x ∷ xs) ≡ is_none (named_so name (x ∷ xs))
  go true e rest = rw e refl
  go false e rest = rw e rest

first_value : (name : Word) (rows : List Row) (o : Option (List Text)) → all_of name rows ≡ o → first_of name rows ≡ option_and_then (λ (vs : List Text). slice_get vs 0) o
first_value name rows o e = first_is_head name rows ∙ ap (option_and_then (λ (vs : List Text). slice_get vs 0)) e

lacks_first : (name : Word) (rows : List Row) (options : List Given) → Same name rows options → lacks name options ≡ not (is_some (first_of name rows))
lacks_first name rows options (in_neither a b) =
    lacks_named name options ∙ ap is_none b ∙ ap (λ (o : Option Word). not (is_some o)) (sym (first_value name rows None a))
lacks_first name rows options (in_both value a b) =
    lacks_named name options ∙ ap is_none b ∙ ap (λ (o : Option Word). not (is_some o)) (sym (first_value name rows (Some (value ∷ [])) a))

number_is : (s : Setting) (rows : List Row) (options : List Given) → Same s.name rows options → number_of s options ≡ number_in s (first_of s.name rows)
number_is s rows options (in_neither a b) = ap (number_given s) b ∙ ap (number_in s) (sym (first_value s.name rows None a))
number_is s rows options (in_both value a b) = ap (number_given s) b ∙ ap (number_in s) (sym (first_value s.name rows (Some (value ∷ [])) a))

-- known options fit verify where none is for raw, and raw where none is for verify
fits_verify : (options : List Given) → AllKnown options → has_only threshold_settings options ≡ lacks (codes "steps") options
fits_verify [] all = refl
fits_verify ((name, value) ∷ rest) all = go name all.0 (fits_verify rest all.1) where
  go : (n : Word) → Known n → has_only threshold_settings rest ≡ lacks (codes "steps") rest
      → has_only threshold_settings ((n, value) ∷ rest) ≡ lacks (codes "steps") ((n, value) ∷ rest)
  go _ is_alloc e = e
  go _ is_invoke e = e
  go _ is_jump e = e
  go _ is_throw e = e
  go _ is_steps e = refl

abbrev lacks_thresholds : List Given → Bool
lacks_thresholds options = lacks (codes "alloc") options && (lacks (codes "invoke") options && (lacks (codes "jump") options && lacks (codes "throw") options))

fits_raw : (options : List Given) → AllKnown options → has_only (steps_setting ∷ []) options ≡ lacks_thresholds options
fits_raw [] all = refl
fits_raw ((name, value) ∷ rest) all = go name all.0 (fits_raw rest all.1) where
  a : Bool
  a = lacks (codes "alloc") rest

  b : Bool
  b = lacks (codes "invoke") rest

  c : Bool
  c = lacks (codes "jump") rest

  go : (n : Word) → Known n → has_only (steps_setting ∷ []) rest ≡ lacks_thresholds rest
      → has_only (steps_setting ∷ []) ((n, value) ∷ rest) ≡ lacks_thresholds ((n, value) ∷ rest)
  go _ is_alloc e = refl
  go _ is_invoke e = sym (and_false a)
  go _ is_jump e = sym (ap (λ (x : Bool). a && x) (and_false b) ∙ and_false a)
  go _ is_throw e = sym (ap (λ (x : Bool). a && (b && x)) (and_false c) ∙ ap (λ (x : Bool). a && x) (and_false b) ∙ and_false a)
  go _ is_steps e = e

fits_neither : (options : List Given) → AllKnown options → is_none options ≡ (has_only (steps_setting ∷ []) options && has_only threshold_settings options)
fits_neither [] all = refl
fits_neither ((name, value) ∷ rest) all = go name all.0 where
  go : (n : Word) → Known n → false ≡ (has_only (steps_setting ∷ []) ((n, value) ∷ rest) && has_only threshold_settings ((n, value) ∷ rest))
  go _ is_alloc = refl
  go _ is_invoke = refl
  go _ is_jump = refl
  go _ is_throw = refl
  go _ is_steps = sym (and_false (has_only (steps_setting ∷ []) rest))

-- the same for the values in the rows
no_steps : (rows : List Row) (options : List Given) (plain : List Word) → Holds rows options plain → has_only threshold_settings options ≡ not (is_some (values_of rows).steps)
no_steps rows options plain h = fits_verify options h.known ∙ lacks_first (codes "steps") rows options (h.same (codes "steps") is_steps)

no_thresholds : (rows : List Row) (options : List Given) (plain : List Word) → Holds rows options plain → has_only (steps_setting ∷ []) options ≡ has_no_threshold (values_of rows)
no_thresholds rows options plain h =
    let a : lacks (codes "alloc") options ≡ not (is_some (first_of (codes "alloc") rows)) = lacks_first (codes "alloc") rows options (h.same (codes "alloc") is_alloc) in
    let b : lacks (codes "invoke") options ≡ not (is_some (first_of (codes "invoke") rows)) = lacks_first (codes "invoke") rows options (h.same (codes "invoke") is_invoke) in
    let c : lacks (codes "jump") options ≡ not (is_some (first_of (codes "jump") rows)) = lacks_first (codes "jump") rows options (h.same (codes "jump") is_jump) in
    let d : lacks (codes "throw") options ≡ not (is_some (first_of (codes "throw") rows)) = lacks_first (codes "throw") rows options (h.same (codes "throw") is_throw) in
    fits_raw options h.known ∙ (λ i. a i && (b i && (c i && d i)))

no_options : (rows : List Row) (options : List Given) (plain : List Word) → Holds rows options plain → is_none options ≡ has_no_value (values_of rows)
no_options rows options plain h =
    let a : has_only (steps_setting ∷ []) options ≡ has_no_threshold (values_of rows) = no_thresholds rows options plain h in
    let b : has_only threshold_settings options ≡ not (is_some (values_of rows).steps) = no_steps rows options plain h in
    fits_neither options h.known ∙ (λ i. a i && b i)

thresholds_are : (rows : List Row) (options : List Given) (plain : List Word) → Holds rows options plain → thresholds_of options ≡ thresholds_in (values_of rows)
thresholds_are rows options plain h =
    let only : has_only threshold_settings options ≡ not (is_some (values_of rows).steps) = no_steps rows options plain h in
    let a : number_of alloc_setting options ≡ number_in alloc_setting (first_of (codes "alloc") rows) = number_is alloc_setting rows options (h.same (codes "alloc") is_alloc) in
    let b : number_of invoke_setting options ≡ number_in invoke_setting (first_of (codes "invoke") rows) = number_is invoke_setting rows options (h.same (codes "invoke") is_invoke) in
    let c : number_of jump_setting options ≡ number_in jump_setting (first_of (codes "jump") rows) = number_is jump_setting rows options (h.same (codes "jump") is_jump) in
    let d : number_of throw_setting options ≡ number_in throw_setting (first_of (codes "throw") rows) = number_is throw_setting rows options (h.same (codes "throw") is_throw) in
    (λ i. cond (only i) (thresholds_by (a i) (b i) (c i) (d i)) None)
  where
    thresholds_by : Option ℕ → Option ℕ → Option ℕ → Option ℕ → Option Thresholds
    thresholds_by a b c d = do
      alloc ← a
      invoke ← b
      jump ← c
      throw ← d
      Some (record { alloc = alloc; invoke = invoke; jump = jump; throw = throw })

steps_are : (rows : List Row) (options : List Given) (plain : List Word) → Holds rows options plain → steps_of options ≡ steps_in (values_of rows)
steps_are rows options plain h =
    let only : has_only (steps_setting ∷ []) options ≡ has_no_threshold (values_of rows) = no_thresholds rows options plain h in
    let n : number_of steps_setting options ≡ number_in steps_setting (first_of (codes "steps") rows) = number_is steps_setting rows options (h.same (codes "steps") is_steps) in
    (λ i. cond (only i) (n i) None)

check_none : (operands : List Word) (options : List Given) → check_job operands options ≡ cond (is_none options) (check_job operands []) None
check_none operands [] = refl
check_none operands (o ∷ os) = no_check operands o os

rewrite_none : (operands : List Word) (options : List Given) → rewrite_job operands options ≡ cond (is_none options) (rewrite_job operands []) None
rewrite_none operands [] = refl
rewrite_none operands (o ∷ os) = no_rewrite operands o os

assemble_none : (operands : List Word) (options : List Given) → assemble_job operands options ≡ cond (is_none options) (assemble_job operands []) None
assemble_none operands [] = refl
assemble_none operands (o ∷ os) = no_assemble operands o os

sample_none : (operands : List Word) (options : List Given) → sample_job operands options ≡ cond (is_none options) (sample_job operands []) None
sample_none operands [] = refl
sample_none operands (o ∷ os) = no_sample operands o os

verify_none : (operands : List Word) (options : List Given) → verify_job operands options ≡ verify_in operands (thresholds_of options)
verify_none [] options = refl
verify_none (a ∷ []) options = refl
verify_none (a ∷ b ∷ []) options = refl
verify_none (a ∷ b ∷ c ∷ []) options = refl
verify_none (a ∷ b ∷ c ∷ d ∷ rest) options = refl

raw_none : (operands : List Word) (options : List Given) → raw_job operands options ≡ raw_in operands (steps_of options)
raw_none [] options = refl
raw_none (a ∷ []) options = refl
raw_none (a ∷ b ∷ []) options = refl
raw_none (a ∷ b ∷ c ∷ []) options = refl
raw_none (a ∷ b ∷ c ∷ d ∷ rest) options = refl

command_is : (rows : List Row) (options : List Given) (plain : List Word) (command : Word) (operands : List Word) → Holds rows options plain
    → command_job command operands options ≡ job_of_values command operands (values_of rows)
command_is rows options plain command operands h =
    let e : is_none options ≡ has_no_value (values_of rows) = no_options rows options plain h in
    let check : check_job operands options ≡ cond (has_no_value (values_of rows)) (check_job operands []) None = check_none operands options ∙ ap (λ (b : Bool). cond b (check_job operands []) None) e in
    let verify : verify_job operands options ≡ verify_in operands (thresholds_in (values_of rows)) = verify_none operands options ∙ ap (verify_in operands) (thresholds_are rows options plain h) in
    let rewrite : rewrite_job operands options ≡ cond (has_no_value (values_of rows)) (rewrite_job operands []) None = rewrite_none operands options ∙ ap (λ (b : Bool). cond b (rewrite_job operands []) None) e in
    let raw : raw_job operands options ≡ raw_in operands (steps_in (values_of rows)) = raw_none operands options ∙ ap (raw_in operands) (steps_are rows options plain h) in
    let assemble : assemble_job operands options ≡ cond (has_no_value (values_of rows)) (assemble_job operands []) None = assemble_none operands options ∙ ap (λ (b : Bool). cond b (assemble_job operands []) None) e in
    let sample : sample_job operands options ≡ cond (has_no_value (values_of rows)) (sample_job operands []) None = sample_none operands options ∙ ap (λ (b : Bool). cond b (sample_job operands []) None) e in
    (λ i. cond (is_word command (codes "check")) (check i) (cond (is_word command (codes "verify")) (verify i) (cond (is_word command (codes "rewrite")) (rewrite i)
    (cond (is_word command (codes "raw")) (raw i) (cond (is_word command (codes "assemble")) (assemble i) (cond (is_word command (codes "sample")) (sample i) None))))))

operands_of : List Word → List Word
operands_of [] = []
operands_of (command ∷ operands) = operands

operands_are : (command : Word) (operands : List Word) → unwrap_or (words_values (command ∷ operands)) [] ≡ operands
operands_are command [] = refl
operands_are command (operand ∷ operands) = refl

-- the rows that hold a line give the line's job
pub rows_job : (rows : List Row) (options : List Given) (plain : List Word) → Holds rows options plain → job_in rows ≡ line_job plain options
rows_job rows options [] h =
    ap (option_and_then (λ (command : Word). job_of_values command (unwrap_or (all_of (codes "words") rows) []) (values_of rows))) (first_value (codes "command") rows None h.command)
rows_job rows options (command ∷ operands) h =
    ap (option_and_then (λ (c : Word). job_of_values c (unwrap_or (all_of (codes "words") rows) []) (values_of rows))) (first_value (codes "command") rows (Some (command ∷ [])) h.command)
    ∙ ap (λ (l : List Word). job_of_values command l (values_of rows)) (ap (λ (o : Option (List Text)). unwrap_or o []) h.words ∙ operands_are command operands)
    ∙ sym (command_is rows options (command ∷ operands) command operands h)
