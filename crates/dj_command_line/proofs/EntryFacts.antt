-- Words that may stand for ENTRY, FOLDER and INPUT, and what the settings of options are, by plain values.
use Rattle.std.specs.Prelude.{◌≡◌, ℕ, ◌==◌, true, false, List, [], ◌∷◌, Option, Some, None, map, codes}
use Rattle.std.specs.List.{slice_split}
use Rattle.std.proofs.Common.{refl}
use Rattle.dj_command_line.specs.trusted.Words.{Word, is_word, begins_with, is_numeral, decimal_value, number_between, alloc_setting, invoke_setting, jump_setting, throw_setting, steps_setting, without_slash, Job, Raw, Verify, job_of}

abbrev words_in : List ℕ → List Word
words_in line = slice_split (λ c. c == 32) line

abbrev jobs_of : List (List ℕ) → List (Option Job)
jobs_of lines = map (λ line. job_of (words_in line)) lines

-- a run of the class that the word names
abbrev entered : Word → Option Job
entered entry = Some (Raw (codes "c") entry (codes "in") 10000000)

-- ---- ENTRY

-- dots, slashes and dashes within stay as they are, and so do names that no class has; a dash alone is plain, and so is the empty word
entries : jobs_of (codes "raw c a.b.A in" ∷ codes "raw c a/b/A in" ∷ codes "raw c a.b/A in" ∷ codes "raw c a-b in" ∷ codes "raw c A- in" ∷ codes "raw c . in" ∷ codes "raw c .A in" ∷ codes "raw c A/ in" ∷ codes "raw c A.class in" ∷ codes "raw c - in" ∷ codes "raw c  in" ∷ codes "raw c raw in" ∷ [])
    ≡ entered (codes "a.b.A") ∷ entered (codes "a/b/A") ∷ entered (codes "a.b/A") ∷ entered (codes "a-b") ∷ entered (codes "A-") ∷ entered (codes ".") ∷ entered (codes ".A") ∷ entered (codes "A/") ∷ entered (codes "A.class") ∷ entered (codes "-") ∷ entered [] ∷ entered (codes "raw") ∷ []
entries = refl

-- one that begins with a dash is none, unless it stands after --
dashed_entries : jobs_of (codes "raw c -A in" ∷ codes "raw c --A in" ∷ codes "raw c -x in" ∷ codes "raw c -- -A in" ∷ codes "raw c -- --A in" ∷ codes "raw -- c -x in" ∷ codes "-- raw c -- in" ∷ codes "raw c -- -- in" ∷ codes "raw c A -- -in" ∷ [])
    ≡ None ∷ None ∷ None ∷ entered (codes "-A") ∷ entered (codes "--A") ∷ entered (codes "-x") ∷ entered (codes "--") ∷ entered (codes "--") ∷ Some (Raw (codes "c") (codes "A") (codes "-in") 10000000) ∷ []
dashed_entries = refl

-- the same of the other command that has one
verified_entries : jobs_of (codes "verify c a.b-c/A in" ∷ codes "verify c -A in" ∷ codes "verify c -- -A in" ∷ codes "verify c - in" ∷ [])
    ≡ Some (Verify (codes "c") (codes "a.b-c/A") (codes "in") (record { alloc = 67108864; invoke = 1000000; jump = 1000000; throw = 1000000 })) ∷ None
    ∷ Some (Verify (codes "c") (codes "-A") (codes "in") (record { alloc = 67108864; invoke = 1000000; jump = 1000000; throw = 1000000 }))
    ∷ Some (Verify (codes "c") (codes "-") (codes "in") (record { alloc = 67108864; invoke = 1000000; jump = 1000000; throw = 1000000 })) ∷ []
verified_entries = refl

-- ---- the number of steps

abbrev stepped : ℕ → Option Job
stepped steps = Some (Raw (codes "c") (codes "A") (codes "in") steps)

-- none, one in the same word and in a word of its own, and one behind -- that is no option
steps : jobs_of (codes "raw c A in --steps 0" ∷ codes "raw c A in --steps=0" ∷ codes "raw c A in --steps=5" ∷ codes "raw c A in --steps 5" ∷ codes "raw c A in --steps" ∷ codes "raw c A in --steps=" ∷ codes "raw c A in -steps=5" ∷ codes "raw c A in --Steps=5" ∷ codes "raw c A in -- --steps=5" ∷ codes "raw c A -- --steps=5" ∷ [])
    ≡ stepped 0 ∷ stepped 0 ∷ stepped 5 ∷ stepped 5 ∷ None ∷ None ∷ None ∷ None ∷ None ∷ Some (Raw (codes "c") (codes "A") (codes "--steps=5") 10000000) ∷ []
steps = refl

-- ---- settings, as docs/REPORT.md has them

settings : alloc_setting ∷ invoke_setting ∷ jump_setting ∷ throw_setting ∷ steps_setting ∷ []
    ≡ record { name = codes "alloc"; most = 1073741824; default = 67108864 } ∷ record { name = codes "invoke"; most = 1073741824; default = 1000000 } ∷ record { name = codes "jump"; most = 1073741824; default = 1000000 }
    ∷ record { name = codes "throw"; most = 1048576; default = 1000000 } ∷ record { name = codes "steps"; most = 100000000; default = 10000000 } ∷ []
settings = refl

-- ---- parts of the definition

same_words : map (is_word (codes "raw")) (codes "raw" ∷ codes "ra" ∷ codes "raws" ∷ codes "Raw" ∷ [] ∷ []) ≡ true ∷ false ∷ false ∷ false ∷ false ∷ []
same_words = refl

beginnings : map (begins_with (codes "--")) (codes "--" ∷ codes "--a" ∷ codes "-" ∷ codes "-a-" ∷ codes "a--" ∷ [] ∷ []) ≡ true ∷ true ∷ false ∷ false ∷ false ∷ false ∷ []
beginnings = refl

-- one to ten digits, and no other byte, not even those beside the digits
numerals : map is_numeral (codes "0" ∷ codes "9" ∷ codes "0000000000" ∷ codes "9999999999" ∷ codes "00000000000" ∷ [] ∷ codes "/" ∷ codes ":" ∷ codes "1a" ∷ codes "+1" ∷ codes "-1" ∷ codes "1 " ∷ [])
    ≡ true ∷ true ∷ true ∷ true ∷ false ∷ false ∷ false ∷ false ∷ false ∷ false ∷ false ∷ false ∷ []
numerals = refl

values : map decimal_value (codes "0" ∷ codes "7" ∷ codes "10" ∷ codes "0123456789" ∷ codes "9999999999" ∷ []) ≡ 0 ∷ 7 ∷ 10 ∷ 123456789 ∷ 9999999999 ∷ []
values = refl

-- both ends count
between : map (number_between 2 10) (codes "1" ∷ codes "2" ∷ codes "10" ∷ codes "11" ∷ codes "x" ∷ []) ≡ None ∷ Some 2 ∷ Some 10 ∷ None ∷ None ∷ []
between = refl

-- one slash, at the end
folders : map without_slash (codes "c/" ∷ codes "c" ∷ codes "c//" ∷ codes "/c" ∷ codes "c/." ∷ codes "/" ∷ [] ∷ []) ≡ codes "c" ∷ codes "c" ∷ codes "c/" ∷ codes "/c" ∷ codes "c/." ∷ [] ∷ [] ∷ []
folders = refl
