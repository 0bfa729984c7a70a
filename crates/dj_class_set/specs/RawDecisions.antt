-- Used by the code alone: what a judgement by the rules of `raw` says of files.
use Rattle.std.specs.Prelude.{◌≢◌, List, []}
use Rattle.dj_edge.specs.trusted.Held.{File}
use Rattle.dj_names.specs.trusted.Types.{Name}
use Rattle.dj_names.specs.trusted.Library.{raw_library}
use Rattle.dj_class_set.specs.trusted.RawRules.{AreRawViolations}
use Rattle.dj_class_set.specs.Late.{LinksFiles}
use Rattle.dj_class_set.specs.declared.raw_rules.RawDecided.{RawDecided}
use Rattle.dj_class_set.specs.declared.raw_rules.RawDecided.TheVariants as judgements

-- these are the violations of the files, of which there are some; or there are none, and it links their classes with those of the library
abbrev pub IsRawDecided : List File → Name → RawDecided → Type 0
IsRawDecided files class (judgements.Rejected violations) = AreRawViolations files class violations × (violations ≢ [])
IsRawDecided files class (judgements.Accepted linked) = AreRawViolations files class [] × LinksFiles raw_library files linked
