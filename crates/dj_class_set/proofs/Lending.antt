-- The files of a set, lent: what those that judge them ask, and what they answer of the set.
use Rattle.std.proofs.Common.{◌≡◌, ◌∙◌, ◌<◌, ◌≤◌, ◌^◌, List, length, map, All, sym, ap, subst, arith}
use Rattle.std.proofs.lemmas.List.{length-map}
use Rattle.std.proofs.lemmas.List.Elements.{All-weaker, All-from_recursion}
use Rattle.dj_edge.specs.trusted.Held.{File}
use Rattle.dj_edge.proofs.Lists.{All-unmap}
use Rattle.dj_report.specs.declared.report.PathFile.{PathFile}
use Rattle.dj_file_rules.specs.Views.{path_file_view}
use Rattle.dj_class_set.specs.ClassSets.{IsClassSet}
use Rattle.dj_class_set.specs.trusted.Limits.{most_files, most_file_bytes}

module _ (files lent : List PathFile) (set : List File) (same : files ≡ lent) (view : map path_file_view lent ≡ set) where
  pub lent_view : map path_file_view files ≡ set
  lent_view = ap (map path_file_view) same ∙ view

  pub lent_few : IsClassSet set → length files ≤ most_files
  lent_few is =
      let size : length (map path_file_view files) ≡ length set = ap length lent_view in
      omega (arith, is.few, size, length-map files path_file_view)

  pub lent_short : IsClassSet set → All (λ file. length file.bytes.now < 2 ^ 32) files
  lent_short is =
      let Fits : File → Type 0 = λ file. length file.1 ≤ most_file_bytes in
      let Short : File → Type 0 = λ file. length file.1 < 2 ^ 32 in
      All-unmap path_file_view Short files
      (All-weaker Fits Short (λ file fits. omega arith) (map path_file_view files)
      (subst (All Fits) (sym lent_view) (All-from_recursion Fits set is.within.each)))
