-- What the jobs that djvm does have in common.
use Rattle.std.specs.Prelude.{⊤, List, ℕ, Option, Some}
use Rattle.dj_command_line.specs.trusted.DoneJobs.{DoneJob, FolderJob, Check, Verify, Raw, OnFolder}

abbrev pub folder_of : FolderJob → List ℕ
folder_of (Check folder) = folder
folder_of (Verify folder entry input most) = folder
folder_of (Raw folder entry input steps) = folder

-- the job is `raw`, whose library asks the host
abbrev pub IsRawJob : Option DoneJob → Type 0
IsRawJob (Some (OnFolder (Raw folder entry input steps))) = ⊤
IsRawJob job = ⊥
