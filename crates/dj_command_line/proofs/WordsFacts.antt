-- The jobs of lines of words in plain values.
use Rattle.std.specs.Prelude.{◌≡◌, ℕ, ◌==◌, List, [], ◌∷◌, Option, Some, None, map, codes}
use Rattle.std.specs.List.{slice_split}
use Rattle.std.proofs.Common.{refl}
use Rattle.dj_command_line.specs.trusted.Words.{Word, Plain, Joined, Named, EndOfOptions, Stray, Line, line_of, part_of, Job, Check, Verify, Rewrite, Raw, Assemble, Sample, job_of}
use Rattle.dj_command_line.specs.trusted.DoneJobs.{done_job_of}
use Rattle.dj_command_line.specs.trusted.DoneJobs as done

-- a line whose words stand between single spaces; two spaces have an empty word between them
abbrev words_in : List ℕ → List Word
words_in line = slice_split (λ c. c == 32) line

abbrev jobs_of : List (List ℕ) → List (Option Job)
jobs_of lines = map (λ line. job_of (words_in line)) lines

-- verify c A in, with these thresholds
abbrev verified : ℕ → ℕ → ℕ → ℕ → Option Job
verified alloc invoke jump throw =
    Some (Verify (codes "c") (codes "A") (codes "in") (record { alloc = alloc; invoke = invoke; jump = jump; throw = throw }))

abbrev raw_for : ℕ → Option Job
raw_for steps = Some (Raw (codes "c") (codes "A") (codes "in") steps)

-- ---- words and lines

-- a name ends at the first =; a dash alone and the empty word are plain
parts : map part_of (codes "c" ∷ [] ∷ codes "-" ∷ codes "a-b=c" ∷ codes "--" ∷ codes "-c" ∷ codes "-=" ∷ codes "--jump" ∷ codes "---" ∷ codes "--jump=5" ∷ codes "--jump=5=5" ∷ codes "--jump=" ∷ codes "--=5" ∷ [])
    ≡ Plain (codes "c") ∷ Plain [] ∷ Plain (codes "-") ∷ Plain (codes "a-b=c") ∷ EndOfOptions ∷ Stray ∷ Stray ∷ Named (codes "jump") ∷ Named (codes "-") ∷ Joined (codes "jump") (codes "5") ∷ Joined (codes "jump") (codes "5=5") ∷ Joined (codes "jump") [] ∷ Joined [] (codes "5") ∷ []
parts = refl

abbrev lines_of : List (List ℕ) → List (Option Line)
lines_of lines = map (λ line. line_of (words_in line)) lines

-- the options and the plain words stand in order; a value after = may begin with a dash; after -- all words are plain
whole_lines : lines_of (codes "a b" ∷ codes "--x 1 a --y=2 b --x 3" ∷ codes "--x=-1" ∷ codes "a -- --x 1 --" ∷ codes "--x  a" ∷ codes "--x= a" ∷ [])
    ≡ Some (record { options = []; plain = codes "a" ∷ codes "b" ∷ [] })
    ∷ Some (record { options = (codes "x", codes "1") ∷ (codes "y", codes "2") ∷ (codes "x", codes "3") ∷ []; plain = codes "a" ∷ codes "b" ∷ [] })
    ∷ Some (record { options = (codes "x", codes "-1") ∷ []; plain = [] })
    ∷ Some (record { options = []; plain = codes "a" ∷ codes "--x" ∷ codes "1" ∷ codes "--" ∷ [] })
    ∷ Some (record { options = (codes "x", []) ∷ []; plain = codes "a" ∷ [] })
    ∷ Some (record { options = (codes "x", []) ∷ []; plain = codes "a" ∷ [] })
    ∷ []
whole_lines = refl

-- no value, a next word that begins with a dash in place of one, and a dash that begins no option
no_lines : lines_of (codes "--x" ∷ codes "a --x" ∷ codes "--x -1" ∷ codes "--x -" ∷ codes "--x --" ∷ codes "--x -- 1" ∷ codes "--x --y 1" ∷ codes "--x --y=1" ∷ codes "-x" ∷ codes "a -x b" ∷ codes "-x=1" ∷ [])
    ≡ None ∷ None ∷ None ∷ None ∷ None ∷ None ∷ None ∷ None ∷ None ∷ None ∷ None ∷ []
no_lines = refl

-- ---- commands and their plain words

each_command : jobs_of (codes "check c" ∷ codes "verify c A in" ∷ codes "rewrite c A" ∷ codes "raw c A in" ∷ codes "assemble t" ∷ codes "sample 7 9" ∷ [])
    ≡ Some (Check (codes "c")) ∷ verified 67108864 1000000 1000000 1000000 ∷ Some (Rewrite (codes "c") (codes "A")) ∷ raw_for 10000000 ∷ Some (Assemble (codes "t")) ∷ Some (Sample 7 9) ∷ []
each_command = refl

no_command : map job_of ([] ∷ ([] ∷ []) ∷ (codes "Check" ∷ codes "c" ∷ []) ∷ (codes "asemble" ∷ codes "t" ∷ []) ∷ (codes "help" ∷ []) ∷ (codes "help" ∷ codes "check" ∷ []) ∷ (codes "version" ∷ []) ∷ [])
    ≡ None ∷ None ∷ None ∷ None ∷ None ∷ None ∷ None ∷ []
no_command = refl

-- commands of another day, and what other programs answer with help or a version
no_such_command : jobs_of (codes "show 1 1" ∷ codes "fleet 1 1 1" ∷ codes "trail 1 1 1 1" ∷ codes "audit 1 1 1 1" ∷ codes "--help" ∷ codes "--version" ∷ codes "-h" ∷ codes "check c -h" ∷ codes "check c -V" ∷ codes "check c --help" ∷ codes "check c --version" ∷ codes "check -c" ∷ [])
    ≡ None ∷ None ∷ None ∷ None ∷ None ∷ None ∷ None ∷ None ∷ None ∷ None ∷ None ∷ None ∷ []
no_such_command = refl

-- a word too few, and one too many
wrong_counts : jobs_of (codes "check" ∷ codes "check c c" ∷ codes "verify c A" ∷ codes "verify c A in x" ∷ codes "rewrite c" ∷ codes "rewrite c A in" ∷ codes "raw c A" ∷ codes "raw c A in x" ∷ codes "assemble" ∷ codes "assemble t t" ∷ codes "sample 1" ∷ codes "sample 1 1 1" ∷ [])
    ≡ None ∷ None ∷ None ∷ None ∷ None ∷ None ∷ None ∷ None ∷ None ∷ None ∷ None ∷ None ∷ []
wrong_counts = refl

-- one slash at the end of a folder is dropped, of any command that has one, and of no other word; the dots of an entry stay here
slashes : jobs_of (codes "check c/" ∷ codes "check c//" ∷ codes "check /" ∷ codes "check /c" ∷ codes "rewrite c/ a.b/" ∷ codes "assemble t/" ∷ codes "assemble u" ∷ codes "assemble c" ∷ codes "raw c/ a.b/ in/" ∷ [])
    ≡ Some (Check (codes "c")) ∷ Some (Check (codes "c/")) ∷ Some (Check []) ∷ Some (Check (codes "/c")) ∷ Some (Rewrite (codes "c") (codes "a.b/")) ∷ Some (Assemble (codes "t/")) ∷ Some (Assemble (codes "u")) ∷ Some (Assemble (codes "c")) ∷ Some (Raw (codes "c") (codes "a.b/") (codes "in/") 10000000) ∷ []
slashes = refl

slashes_of_verify : jobs_of (codes "verify c a.b.A in" ∷ codes "verify c/ a.b.A/ in/" ∷ [])
    ≡ Some (Verify (codes "c") (codes "a.b.A") (codes "in") (record { alloc = 67108864; invoke = 1000000; jump = 1000000; throw = 1000000 }))
    ∷ Some (Verify (codes "c") (codes "a.b.A/") (codes "in/") (record { alloc = 67108864; invoke = 1000000; jump = 1000000; throw = 1000000 })) ∷ []
slashes_of_verify = refl

-- ---- plain words

-- a dash alone, the empty word and a dash within are plain; the dash of any other word makes it no plain word
dashes_within : jobs_of (codes "assemble -" ∷ codes "check -" ∷ codes "check " ∷ codes "check c-" ∷ codes "check a--b=c" ∷ codes "check -c" ∷ codes "assemble -1" ∷ codes "sample -1 1" ∷ codes "check ---" ∷ codes "- c" ∷ [])
    ≡ Some (Assemble (codes "-")) ∷ Some (Check (codes "-")) ∷ Some (Check []) ∷ Some (Check (codes "c-")) ∷ Some (Check (codes "a--b=c")) ∷ None ∷ None ∷ None ∷ None ∷ None ∷ []
dashes_within = refl

-- the first -- is left out, wherever it stands, and every word after it is plain
after_dashes : jobs_of (codes "check -- c" ∷ codes "-- check c" ∷ codes "check c --" ∷ codes "assemble -- t" ∷ codes "-- assemble t" ∷ codes "assemble t --" ∷ codes "assemble -- --" ∷ codes "check -- --jump" ∷ codes "check -- -c" ∷ codes "check -- --jump=5" ∷ codes "sample 1 -- 1" ∷ [])
    ≡ Some (Check (codes "c")) ∷ Some (Check (codes "c")) ∷ Some (Check (codes "c")) ∷ Some (Assemble (codes "t")) ∷ Some (Assemble (codes "t")) ∷ Some (Assemble (codes "t")) ∷ Some (Assemble (codes "--")) ∷ Some (Check (codes "--jump")) ∷ Some (Check (codes "-c")) ∷ Some (Check (codes "--jump=5")) ∷ Some (Sample 1 1) ∷ []
after_dashes = refl

-- before it options are read, and after it none is; only one is left out
around_dashes : jobs_of (codes "verify c A -- in" ∷ codes "verify c --jump 5 A -- in" ∷ codes "--jump=5 -- verify c A in" ∷ codes "verify c A -- in --jump 5" ∷ codes "verify c A -- --jump 5 in" ∷ codes "verify c A -- --jump=5" ∷ codes "check -- c --" ∷ codes "check -- --" ∷ codes "--" ∷ codes "-- --" ∷ codes "-- -- check c" ∷ codes "-- --help" ∷ [])
    ≡ verified 67108864 1000000 1000000 1000000 ∷ verified 67108864 1000000 5 1000000 ∷ verified 67108864 1000000 5 1000000 ∷ None ∷ None ∷ Some (Verify (codes "c") (codes "A") (codes "--jump=5") (record { alloc = 67108864; invoke = 1000000; jump = 1000000; throw = 1000000 })) ∷ None ∷ Some (Check (codes "--")) ∷ None ∷ None ∷ None ∷ None ∷ []
around_dashes = refl

-- ---- options

-- each by itself, in both forms, anywhere, before the command too
options_anywhere : jobs_of (codes "verify c A in --alloc=0" ∷ codes "verify c A in --invoke 0" ∷ codes "verify c --jump=6 A in" ∷ codes "verify c A --throw 7 in" ∷ codes "verify --alloc=31 c A in" ∷ codes "--alloc 0 verify --invoke=0 c --jump 0 A in --throw 0" ∷ codes "--throw=1 --jump=2 --invoke=3 --alloc=4 verify c A in" ∷ [])
    ≡ verified 0 1000000 1000000 1000000 ∷ verified 67108864 0 1000000 1000000 ∷ verified 67108864 1000000 6 1000000 ∷ verified 67108864 1000000 1000000 7 ∷ verified 31 1000000 1000000 1000000 ∷ verified 0 0 0 0 ∷ verified 4 3 2 1 ∷ []
options_anywhere = refl

steps_anywhere : jobs_of (codes "--steps 5 raw c A in" ∷ codes "raw c A in --steps=5" ∷ codes "raw c --steps 5 A in" ∷ codes "raw c A -- in --steps=5" ∷ [])
    ≡ raw_for 5 ∷ raw_for 5 ∷ raw_for 5 ∷ None ∷ []
steps_anywhere = refl

folder_before_option : jobs_of (codes "verify A --jump=6 c in" ∷ [])
    ≡ Some (Verify (codes "A") (codes "c") (codes "in") (record { alloc = 67108864; invoke = 1000000; jump = 6; throw = 1000000 })) ∷ []
folder_before_option = refl

-- an option stands once at most, in whatever forms and with whatever values
given_twice : jobs_of (codes "verify c A in --jump 5 --jump 5" ∷ codes "verify c A in --jump=5 --alloc 9 --jump 6" ∷ codes "--jump=5 verify c A in --jump=5" ∷ codes "raw c A in --steps 5 --steps=5" ∷ [])
    ≡ None ∷ None ∷ None ∷ None ∷ []
given_twice = refl

-- an option of another command, of none, with a name that is cut short, in capitals, or empty
other_options : jobs_of (codes "check c --jump 5" ∷ codes "check --steps=5 c" ∷ codes "rewrite c A --alloc 5" ∷ codes "assemble t --jump 5" ∷ codes "sample 1 1 --steps 5" ∷ codes "verify c A in --steps 5" ∷ codes "raw c A in --jump 5" ∷ codes "verify c A in --jum 5" ∷ codes "verify c A in --jumps 5" ∷ codes "verify c A in --Jump 5" ∷ codes "verify c A in --=5" ∷ codes "verify c A in -jump 5" ∷ codes "verify c A in --other" ∷ codes "verify c A in --other=5" ∷ [])
    ≡ None ∷ None ∷ None ∷ None ∷ None ∷ None ∷ None ∷ None ∷ None ∷ None ∷ None ∷ None ∷ None ∷ None ∷ []
other_options = refl

-- no value, or a next word that begins with a dash: an option, --, a dash alone
no_value : jobs_of (codes "verify c A in --jump" ∷ codes "verify c A --jump in" ∷ codes "verify c A in --jump --alloc 6" ∷ codes "verify c A in --jump --alloc=6" ∷ codes "verify c A in --jump -- 6" ∷ codes "verify c A in --jump -6" ∷ codes "verify c A in --jump -" ∷ codes "verify c A in --jump " ∷ codes "verify c A in --jump=" ∷ codes "verify c A in --jump=-1" ∷ [])
    ≡ None ∷ None ∷ None ∷ None ∷ None ∷ None ∷ None ∷ None ∷ None ∷ None ∷ []
no_value = refl

-- ---- numbers

-- the least number, ten digits with leading zeros, and the greatest number
thresholds : jobs_of (codes "verify c A in --alloc=0" ∷ codes "verify c A in --alloc 32" ∷ codes "verify c A in --alloc=0000000009" ∷ codes "verify c A in --alloc 1073741824" ∷ codes "verify c A in --invoke=0" ∷ codes "verify c A in --invoke=0000000009" ∷ codes "verify c A in --invoke 1073741824" ∷ [])
    ≡ verified 0 1000000 1000000 1000000 ∷ verified 32 1000000 1000000 1000000 ∷ verified 9 1000000 1000000 1000000 ∷ verified 1073741824 1000000 1000000 1000000 ∷ verified 67108864 0 1000000 1000000 ∷ verified 67108864 9 1000000 1000000 ∷ verified 67108864 1073741824 1000000 1000000 ∷ []
thresholds = refl

other_thresholds : jobs_of (codes "verify c A in --jump=0" ∷ codes "verify c A in --jump=0000000009" ∷ codes "verify c A in --jump 1073741824" ∷ codes "verify c A in --throw=0" ∷ codes "verify c A in --throw=0000000009" ∷ codes "verify c A in --throw 1048576" ∷ [])
    ≡ verified 67108864 1000000 0 1000000 ∷ verified 67108864 1000000 9 1000000 ∷ verified 67108864 1000000 1073741824 1000000 ∷ verified 67108864 1000000 1000000 0 ∷ verified 67108864 1000000 1000000 9 ∷ verified 67108864 1000000 1000000 1048576 ∷ []
other_thresholds = refl

other_numbers : jobs_of (codes "raw c A in --steps=0" ∷ codes "raw c A in --steps=0000000009" ∷ codes "raw c A in --steps 100000000" ∷ codes "sample 0 1" ∷ codes "sample 65536 1000" ∷ codes "sample 0000065536 0000000001" ∷ [])
    ≡ raw_for 0 ∷ raw_for 9 ∷ raw_for 100000000 ∷ Some (Sample 0 1) ∷ Some (Sample 65536 1000) ∷ Some (Sample 65536 1) ∷ []
other_numbers = refl

-- the next ones
past_most : jobs_of (codes "verify c A in --alloc=1073741825" ∷ codes "verify c A in --invoke=1073741825" ∷ codes "verify c A in --jump=1073741825" ∷ codes "verify c A in --throw=1048577" ∷ codes "raw c A in --steps=100000001" ∷ codes "sample 65537 1" ∷ codes "sample 1 0" ∷ codes "sample 1 1001" ∷ codes "verify c A in --jump=9999999999" ∷ codes "verify c A in --jump=99999999999999999999" ∷ [])
    ≡ None ∷ None ∷ None ∷ None ∷ None ∷ None ∷ None ∷ None ∷ None ∷ None ∷ []
past_most = refl

-- eleven digits, whatever the number
eleven_digits : jobs_of (codes "verify c A in --alloc=00000000009" ∷ codes "verify c A in --invoke=00000000009" ∷ codes "verify c A in --jump=00000000009" ∷ codes "verify c A in --throw=00000000009" ∷ codes "raw c A in --steps=00000000009" ∷ codes "sample 00000000009 1" ∷ codes "sample 1 00000000009" ∷ [])
    ≡ None ∷ None ∷ None ∷ None ∷ None ∷ None ∷ None ∷ []
eleven_digits = refl

-- what other readers take for numbers
no_numbers : jobs_of (codes "verify c A in --jump x" ∷ codes "verify c A in --jump=5.0" ∷ codes "verify c A in --jump=0x5" ∷ codes "verify c A in --jump=+5" ∷ codes "verify c A in --jump=1_0" ∷ codes "verify c A in --jump=5=5" ∷ codes "verify c A in --jump=1:" ∷ codes "verify c A in --jump=1/" ∷ codes "sample x 1" ∷ codes "sample 1 " ∷ codes "sample 1 1.0" ∷ [])
    ≡ None ∷ None ∷ None ∷ None ∷ None ∷ None ∷ None ∷ None ∷ None ∷ None ∷ None ∷ []
no_numbers = refl

-- verify c A in with --jump= and these bytes: a five with a space before or after it, of Arabic or of full width, and the plain five
abbrev with_jump : List ℕ → Option Job
with_jump value = job_of (codes "verify" ∷ codes "c" ∷ codes "A" ∷ codes "in" ∷ (45 ∷ 45 ∷ 106 ∷ 117 ∷ 109 ∷ 112 ∷ 61 ∷ value) ∷ [])

fives : map with_jump ((32 ∷ 53 ∷ []) ∷ (53 ∷ 32 ∷ []) ∷ (217 ∷ 165 ∷ []) ∷ (239 ∷ 188 ∷ 149 ∷ []) ∷ (53 ∷ []) ∷ [])
    ≡ None ∷ None ∷ None ∷ None ∷ verified 67108864 1000000 5 1000000 ∷ []
fives = refl

-- ---- what is done so far

done_so_far : map (λ line. done_job_of (words_in line)) (codes "check c" ∷ codes "verify c A in --jump=5" ∷ codes "raw 1 1 1" ∷ codes "--steps 5 raw c A in" ∷ codes "rewrite 1 1" ∷ codes "assemble t/" ∷ codes "assemble" ∷ codes "assemble t u" ∷ codes "assemble t --jump 5" ∷ codes "sample 1 1" ∷ codes "show 1 1" ∷ codes "check" ∷ [])
    ≡ Some (done.OnFolder (done.Check (codes "c"))) ∷ Some (done.OnFolder (done.Verify (codes "c") (codes "A") (codes "in") (record { alloc = 67108864; invoke = 1000000; jump = 5; throw = 1000000 })))
    ∷ Some (done.OnFolder (done.Raw (codes "1") (codes "1") (codes "1") 10000000)) ∷ Some (done.OnFolder (done.Raw (codes "c") (codes "A") (codes "in") 5)) ∷ None
    ∷ Some (done.Assemble (codes "t/")) ∷ None ∷ None ∷ None ∷ None ∷ None ∷ None ∷ []
unfolding done_job_of
done_so_far = refl

-- ---- raw runs

abbrev done_raw : ℕ → Option done.DoneJob
done_raw steps = Some (done.OnFolder (done.Raw (codes "c") (codes "A") (codes "in") steps))

raw_steps : map (λ line. done_job_of (words_in line)) (codes "raw c A in" ∷ codes "raw c/ A in" ∷ codes "raw c A in --steps 0" ∷ codes "raw --steps=0000000005 c A in" ∷ codes "raw c A in --steps=100000000" ∷ codes "raw c --steps 6 -- A in" ∷ [])
    ≡ done_raw 10000000 ∷ done_raw 10000000 ∷ done_raw 0 ∷ done_raw 5 ∷ done_raw 100000000 ∷ done_raw 6 ∷ []
unfolding done_job_of
raw_steps = refl

-- the steps twice, past their most, in eleven digits, without digits, or without a value
raw_wrong_steps : map (λ line. done_job_of (words_in line)) (codes "raw c A in --steps 5 --steps 6" ∷ codes "--steps=5 raw c A in --steps=5" ∷ codes "raw c A in --steps 100000001" ∷ codes "raw c A in --steps=00000000005" ∷ codes "raw c A in --steps 99999999999" ∷ codes "raw c A in --steps x" ∷ codes "raw c A in --steps=" ∷ codes "raw c A in --steps" ∷ codes "raw c A in --steps -5" ∷ codes "raw c A --steps in" ∷ [])
    ≡ None ∷ None ∷ None ∷ None ∷ None ∷ None ∷ None ∷ None ∷ None ∷ None ∷ []
unfolding done_job_of
raw_wrong_steps = refl

-- a threshold, beside the steps too, and the steps of another command
raw_wrong_options : map (λ line. done_job_of (words_in line)) (codes "raw c A in --alloc 5" ∷ codes "raw c A in --invoke=5" ∷ codes "raw c A in --jump 5" ∷ codes "raw c A in --throw=5" ∷ codes "raw c A in --steps 5 --alloc 5" ∷ codes "raw c A in --step 5" ∷ codes "verify c A in --steps 5" ∷ codes "check c --steps 5" ∷ codes "assemble t --steps=5" ∷ [])
    ≡ None ∷ None ∷ None ∷ None ∷ None ∷ None ∷ None ∷ None ∷ None ∷ []
unfolding done_job_of
raw_wrong_options = refl

-- no INPUT, no ENTRY, a word too many, and an INPUT after -- that looks like an option
raw_wrong_words : map (λ line. done_job_of (words_in line)) (codes "raw c A" ∷ codes "raw c" ∷ codes "raw" ∷ codes "raw c A in x" ∷ codes "raw c A --steps 5" ∷ codes "raw c A in -- --steps 5" ∷ codes "Raw c A in" ∷ [])
    ≡ None ∷ None ∷ None ∷ None ∷ None ∷ None ∷ None ∷ []
unfolding done_job_of
raw_wrong_words = refl
