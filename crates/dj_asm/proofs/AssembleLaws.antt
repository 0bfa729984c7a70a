-- The passes of the assembler together: the first line that is too large, and the answer for the text.
use Rattle.std.proofs.Common.{◌≡◌, ◌≢◌, ℕ, ◌<◌, ◌≤◌, ◌⊎◌, inl, inr, Bool, true, false, nat_le, if◌then◌else◌, Contains, List, [], Option, Some, None, Result, Ok, Err, length, map, refl, sym, ◌∙◌, ap, subst, slice_get, arith}
use Rattle.std.proofs.lemmas.Bool.{leb-true, leb-false}
use Rattle.dj_asm_source.specs.declared.error.AsmError.{AsmError}
use Rattle.dj_asm_source.specs.declared.error.AsmError.TheVariants as asm_errors
use Rattle.dj_asm_source.specs.trusted.Faults.{WordFault}
use Rattle.dj_asm_source.specs.trusted.Labels.{LabelFault}
use Rattle.dj_asm_source.specs.trusted.Sources.{Source}
use Rattle.dj_asm_source.specs.SourceLines.{TextLines, AreLinesOf, IsFirstFault}
use Rattle.dj_asm_pool.specs.trusted.Room.{IsPastPool, NoLine}
use Rattle.dj_asm_pool.specs.Room.{IsFirst}
use Rattle.dj_asm.specs.trusted.Large.{IsTooLarge}
use Rattle.dj_asm.specs.trusted.Texts.{IsTextOfBytes, TextFault}
use Rattle.dj_asm_pool.specs.trusted.Entries.{Entry, each_once, index_of}
use Rattle.dj_asm_pool.specs.trusted.Needs.{needs_of, needed_entry, entries_of}
use Rattle.dj_asm_pool.specs.Pooling.{all_kept, found_index}
use Rattle.dj_asm_pool.specs.PoolNeeds.{IsPoolOf}
use Rattle.dj_asm_pool.proofs.EntryLaws.{once_has}
use Rattle.dj_asm_pool.proofs.FoundEntries.{found_some, found_with_room}
use Rattle.dj_asm_pool.proofs.PoolOnce.{whole}
use Rattle.dj_asm_pool.proofs.SourcePool.{entry_has_room}
use Rattle.dj_asm.specs.Assembling.{IsJudged, IsFirstBeside, IsFitting, AreFileBytes}
use Rattle.dj_asm.specs.Answers.{IsAsmFault, Yields, GivesFile, least_of, large_at}
use Rattle.dj_asm.proofs.OneFile.{one_file}
use Rattle.dj_asm.proofs.OneFault.{one_fault, no_file_where_fault}

-- ---- the least of two places

chosen : (s : Source) (a b : ℕ) (test : Bool) → nat_le a b ≡ test → IsFirst (IsPastPool s) (Some a) → IsFirstBeside s (Some b)
    → IsFirst (IsTooLarge s) (if test then Some a else Some b)
chosen s a b true e lacking first =
    let at_most = leb-true a b e in
    (inl lacking.0, λ earlier less large. lacking.1 earlier less (first.1 earlier (omega (arith, at_most, less)) large))
chosen s a b false e lacking first =
    let above = leb-false a b e in
    (first.0, λ earlier less large. lacking.1 earlier (omega (arith, above, less)) (first.1 earlier less large))

pub first_of_both : (s : Source) (lacking first : Option ℕ) → IsFirst (IsPastPool s) lacking → IsFirstBeside s first → IsFirst (IsTooLarge s) (least_of lacking first)
first_of_both s None None lacking first = λ place large. lacking place (first place large)
first_of_both s None (Some b) lacking first = (first.0, λ earlier less large. lacking earlier (first.1 earlier less large))
first_of_both s (Some a) None lacking first = (inl lacking.0, λ earlier less large. lacking.1 earlier less (first earlier large))
first_of_both s (Some a) (Some b) lacking first = chosen s a b (nat_le a b) refl lacking first

-- ---- answers

-- the fault of the first line that is too large
pub large_fault : (text : List ℕ) (read : TextLines) (place line : ℕ) (is : AreLinesOf text read) → IsFirst (IsTooLarge is.source) (Some place) → slice_get read.numbers place ≡ Some line
    → TextFault text (asm_errors.Large line)
large_fault text read place line is first number = inr (inr (record {
  source = is.source;
  is_text = is.is_text;
  labelled = is.labelled;
  place = place;
  large = first.0;
  first = first.1;
  line = line;
  number = ap (λ numbers. slice_get numbers place) (sym is.numbers_are) ∙ number;
  reported = refl;
}))

word_or_label : (text : List ℕ) (e : AsmError) → WordFault text e ⊎ LabelFault text e → TextFault text e
word_or_label text e (inl fault) = inl fault
word_or_label text e (inr fault) = inr (inl fault)

-- the lines of a text and their pool may be judged
pub judged : (text : List ℕ) (read : TextLines) (kept : List Entry) (lacking : Option ℕ) (is : AreLinesOf text read) → IsPoolOf is.source kept lacking → IsJudged is.source read.lines kept
judged text read kept lacking is pool = record { allowed = is.is_text.allowed; labelled = is.labelled; lines_are = is.lines_are; kept_is = pool.kept_is }

-- indexes count from 1
index_some : (es : List Entry) (e : Entry) → 1 ≤ index_of es e
unfolding index_of
index_some es e = omega arith

-- where no line lacks an entry the pool has all entries of the source
all_there : (s : Source) (kept : List Entry) (lacking : Option ℕ) → IsPoolOf s kept lacking → NoLine (IsPastPool s) → kept ≡ entries_of s
all_there s kept lacking pool none =
    let needed = map needed_entry (needs_of s) in
    pool.kept_is ∙ whole needed (λ e in'.
    let there : Contains (each_once needed) e = once_has needed e in' in
    let room = entry_has_room s none e there in
    let index = found_with_room needed e in' room in
    found_some (all_kept [] needed) e (subst (λ n. 1 ≤ n) (sym index) (index_some (each_once needed) e)))

-- the lines of a text fit a class file, where none is too large
pub fitting : (text : List ℕ) (read : TextLines) (kept : List Entry) (lacking : Option ℕ) (is : AreLinesOf text read) → IsPoolOf is.source kept lacking → NoLine (IsTooLarge is.source)
    → IsFitting is.source read.lines kept
fitting text read kept lacking is pool fits = record {
  allowed = is.is_text.allowed;
  labelled = is.labelled;
  fits = fits;
  lines_are = is.lines_are;
  kept_is = all_there is.source kept lacking pool (λ place past. fits place (inl past));
}

-- the text means the file of its source, where no line is too large
pub text_bytes : (text : List ℕ) (read : TextLines) (bytes : List ℕ) (is : AreLinesOf text read) → NoLine (IsTooLarge is.source) → AreFileBytes is.source bytes → IsTextOfBytes text bytes
text_bytes text read bytes is fits file = record {
  source = is.source;
  is_text = is.is_text;
  labelled = is.labelled;
  fits = fits;
  file = file.file;
  is_file = file.is_file;
  spelled = file.spelled;
}

-- the fault of a text's words or labels
pub read_fault : (text : List ℕ) (e : AsmError) → IsFirstFault text e → IsAsmFault text e
read_fault text asm_errors.Memory fault = tt
read_fault text (asm_errors.Syntax line column) fault = word_or_label text (asm_errors.Syntax line column) fault
read_fault text (asm_errors.Label line) fault = word_or_label text (asm_errors.Label line) fault
read_fault text (asm_errors.Large line) fault = word_or_label text (asm_errors.Large line) fault

-- the answer of the lines of a text with a line that is too large
pub large_answer : (text : List ℕ) (read : TextLines) (place : ℕ) (is : AreLinesOf text read) → IsFirst (IsTooLarge is.source) (Some place) → IsAsmFault text (large_at read.numbers place)
large_answer text read place is first = by_number (slice_get read.numbers place) refl where
  reported : Option ℕ → AsmError
  reported None = asm_errors.Memory
  reported (Some line) = asm_errors.Large line

  by_number : (line : Option ℕ) → slice_get read.numbers place ≡ line → IsAsmFault text (reported line)
  by_number None e = tt
  by_number (Some line) e = large_fault text read place line is first e

-- ---- the answer is the one that there is

pub yields_file : (text bytes : List ℕ) (result : Result (List ℕ) AsmError) → GivesFile text result → IsTextOfBytes text bytes → Yields result (Ok bytes)
yields_file text bytes (Ok b) gives means = inl (ap Ok (one_file text b bytes gives means))
yields_file text bytes (Err asm_errors.Memory) gives means = inr refl
yields_file text bytes (Err (asm_errors.Syntax line column)) gives means = absurd (no_file_where_fault text bytes (asm_errors.Syntax line column) means gives)
yields_file text bytes (Err (asm_errors.Label line)) gives means = absurd (no_file_where_fault text bytes (asm_errors.Label line) means gives)
yields_file text bytes (Err (asm_errors.Large line)) gives means = absurd (no_file_where_fault text bytes (asm_errors.Large line) means gives)

pub yields_fault : (text : List ℕ) (e : AsmError) (result : Result (List ℕ) AsmError) → GivesFile text result → TextFault text e → Yields result (Err e)
yields_fault text e (Ok b) gives fault = absurd (no_file_where_fault text b e gives fault)
yields_fault text e (Err asm_errors.Memory) gives fault = inr refl
yields_fault text e (Err (asm_errors.Syntax line column)) gives fault = inl (ap Err (one_fault text (asm_errors.Syntax line column) e gives fault))
yields_fault text e (Err (asm_errors.Label line)) gives fault = inl (ap Err (one_fault text (asm_errors.Label line) e gives fault))
yields_fault text e (Err (asm_errors.Large line)) gives fault = inl (ap Err (one_fault text (asm_errors.Large line) e gives fault))

-- ---- the passes together

-- all fits, where neither the pool nor the judge found a line
pub none_found : (text : List ℕ) (read : TextLines) (kept : List Entry) (lacking large : Option ℕ) (is : AreLinesOf text read) → IsPoolOf is.source kept lacking
    → (IsJudged is.source read.lines kept → IsFirstBeside is.source large) → least_of lacking large ≡ None → IsFitting is.source read.lines kept
none_found text read kept lacking large is pool judge none =
    fitting text read kept lacking is pool
    (subst (IsFirst (IsTooLarge is.source)) none (first_of_both is.source lacking large pool.lacking_is (judge (judged text read kept lacking is pool))))

-- all fits, or one found a line
pub fits_or_found : (text : List ℕ) (read : TextLines) (kept : List Entry) (lacking large : Option ℕ) (is : AreLinesOf text read) → IsPoolOf is.source kept lacking
    → (IsJudged is.source read.lines kept → IsFirstBeside is.source large) → (first : Option ℕ) → least_of lacking large ≡ first → IsFitting is.source read.lines kept ⊎ (first ≢ None)
fits_or_found text read kept lacking large is pool judge None none = inl (none_found text read kept lacking large is pool judge none)
fits_or_found text read kept lacking large is pool judge (Some place) found = inr (λ same. absurd cc)
