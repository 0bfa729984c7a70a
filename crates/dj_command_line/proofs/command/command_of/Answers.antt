use Rattle.std.proofs.Common.{◌≡◌, ◌≢◌, ◌∙◌, sym, ap, refl, subst, List, [], ◌∷◌, Option, None, Some, MatchOption, String, map, string_bytes, length}
use Rattle.std.specs.Prelude.{option_and_then}
use Rattle.std.proofs.lemmas.Str.{IsUtf8-string_bytes}
use Rattle.dj_cursor.specs.trusted.Options.{◌>>=◌}
use Rattle.clap.specs.Words.{Row, found_of, rows_of, fault_of, matches_of}
use Rattle.clap.specs.declared.parser.matches.ArgMatches.{ArgMatches}
use Rattle.dj_command_line.specs.trusted.Words.{Word, Job, job_of}
use Rattle.dj_command_line.specs.trusted.DoneJobs.{done, done_job_of}
use Rattle.dj_command_line.specs.WordsApp.{app, job_in}
use Rattle.dj_command_line.proofs.Walking.{AllUtf8, taken_words, refused_words}
use Rattle.dj_command_line.proofs.command.command_of.Goals as goal

all_utf8 : {Z : Type 0} (words : List (String Z)) → AllUtf8 (map string_bytes words)
all_utf8 [] = tt
all_utf8 (word ∷ rest) = (IsUtf8-string_bytes word, all_utf8 rest)

in_steps : (job : Option Job) → option_and_then done job ≡ (job >>= done)
in_steps None = refl
in_steps (Some job) = refl

-- what reading a line says of its matches
abbrev Reads : List Word → Option ArgMatches → Type 0
Reads words line = MatchOption line (length (fault_of app words) ≢ 0) (λ m. (fault_of app words ≡ []) × (rows_of (found_of m) ≡ matches_of app words))

pub returns-in-Some : goal.returns-in-Some
unfolding done_job_of
returns-in-Some c =
    let words : List Word = map string_bytes c.args.words.now in
    let reads : Reads words (Some c.in-Some.matches) = subst (Reads words) c.in-Some.is c.in_ok-matches.ensures.some in
    record {
      some = c.command_in.ensures ∙ ap (λ (rows : List Row). option_and_then done (job_in rows)) reads.1
          ∙ ap (option_and_then done) (taken_words words (all_utf8 c.args.words.now) reads.0) ∙ in_steps (job_of words);
    }

pub returns-in-None : goal.returns-in-None
unfolding done_job_of
returns-in-None c =
    let words : List Word = map string_bytes c.args.words.now in
    let reads : Reads words None = subst (Reads words) c.in-None.is c.in_ok-matches.ensures.some in
    record {
      some = sym (ap (λ (job : Option Job). job >>= done) (refused_words words (all_utf8 c.args.words.now) reads));
    }
