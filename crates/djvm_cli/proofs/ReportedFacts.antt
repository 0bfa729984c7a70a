-- What is reported is what was compared: the number in a report on a limit is the one that was passed. And no threshold of the words passes the most that a run may be charged.
use Rattle.std.proofs.Common.{◌≡◌, ℕ, ◌<◌, ◌⊎◌, List, ◌++◌, length, Some, codes, inl, inr, refl, ap, arith}
use Rattle.std.specs.Fmt.{decimal, digits}
use Rattle.dj_edge.specs.trusted.Held.{File}
use Rattle.dj_names.specs.declared.run.Thresholds.{Thresholds}
use Rattle.dj_report.specs.declared.report.Report.{Report}
use Rattle.dj_report.specs.trusted.Text.{report_text}
use Rattle.dj_class_set.specs.trusted.Limits.{most_files, most_file_bytes, most_total_bytes, most_input_bytes, IsFirstPast, IsTooLong, IsTooMuch}
use Rattle.dj_class_set.specs.Limits.{most_thresholds, IsWithinMost}
use Rattle.dj_command_line.specs.trusted.Words.{alloc_setting, invoke_setting, jump_setting, throw_setting}
use Rattle.djvm_cli.specs.trusted.Report.{CountsFiles, ReadsInput, ReadsFiles}

-- ---- limits

reported-files : (files : List File) (report : Report) → CountsFiles files (Some report) → (report_text report ≡ codes "LIMIT files " ++ decimal most_files ++ codes "\n") × (most_files < length files)
unfolding digits
reported-files files report h = (ap report_text h.0, h.1)

reported-input : (path input : List ℕ) (report : Report) → ReadsInput path (Some input) (Some report) → (report_text report ≡ codes "LIMIT input " ++ decimal most_input_bytes ++ codes "\n") × (most_input_bytes < length input)
unfolding digits
reported-input path input report h = (ap report_text h.0, h.1)

reported-bytes : (files : List File) (report : Report) → ReadsFiles files (Some report)
    → ((report_text report ≡ codes "LIMIT file " ++ decimal most_file_bytes ++ codes "\n") × IsFirstPast IsTooLong files)
    ⊎ ((report_text report ≡ codes "LIMIT total " ++ decimal most_total_bytes ++ codes "\n") × IsFirstPast IsTooMuch files)
unfolding digits
reported-bytes files report (inl long) = inl (ap report_text long.0, long.1)
reported-bytes files report (inr much) = inr (ap report_text much.0, much.1)

-- ---- thresholds

abbrev mosts : Thresholds
mosts = record { alloc = alloc_setting.most; invoke = invoke_setting.most; jump = jump_setting.most; throw = throw_setting.most }

abbrev defaults : Thresholds
defaults = record { alloc = alloc_setting.default; invoke = invoke_setting.default; jump = jump_setting.default; throw = throw_setting.default }

thresholds-most : mosts ≡ most_thresholds
thresholds-most = refl

thresholds-default : IsWithinMost defaults
thresholds-default = record { alloc = omega arith; invoke = omega arith; jump = omega arith; throw = omega arith }
