-- Beside trusted/Jobs.antt: what no clause of the call `djvm` reaches.
use Rattle.std.specs.Prelude.{⊤}
use Rattle.dj_class_set.specs.Limits.{IsWithinMost}
use Rattle.dj_command_line.specs.trusted.DoneJobs.{DoneJob, FolderJob, Check, Verify, Raw, OnFolder, Assemble}

-- the thresholds of the job are at most their maxima
abbrev pub IsAllowed : FolderJob → Type 0
IsAllowed (Check folder) = ⊤
IsAllowed (Verify folder entry input most) = IsWithinMost most
IsAllowed (Raw folder entry input steps) = ⊤

-- the same for a job that has thresholds
abbrev pub IsAllowedJob : DoneJob → Type 0
IsAllowedJob (OnFolder job) = IsAllowed job
IsAllowedJob (Assemble file) = ⊤
