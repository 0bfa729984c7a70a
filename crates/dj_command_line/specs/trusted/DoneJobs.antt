-- The jobs of the commands that djvm does so far. Words that ask for another command give no job.
use Rattle.std.specs.Prelude.{ℕ, List, Option, Some, None}
use Rattle.dj_cursor.specs.trusted.Options.{◌>>=◌}
use Rattle.dj_names.specs.declared.run.Thresholds.{Thresholds}
use Rattle.dj_command_line.specs.trusted.Words.{Word, Job, job_of}
use Rattle.dj_command_line.specs.trusted.Words as words

-- a job on the class files of a folder
pub data FolderJob : Type 0 where
  -- check FOLDER
  Check : Word → FolderJob
  -- verify FOLDER ENTRY INPUT
  Verify : Word → Word → Word → Thresholds → FolderJob
  -- raw FOLDER ENTRY INPUT, and the most steps
  Raw : Word → Word → Word → ℕ → FolderJob

pub data DoneJob : Type 0 where
  OnFolder : FolderJob → DoneJob
  -- assemble FILE
  Assemble : Word → DoneJob

abbrev pub done : Job → Option DoneJob
done (words.Check folder) = Some (OnFolder (Check folder))
done (words.Verify folder entry input most) = Some (OnFolder (Verify folder entry input most))
done (words.Raw folder entry input steps) = Some (OnFolder (Raw folder entry input steps))
done (words.Assemble file) = Some (Assemble file)
done _ = None

unfoldable pub done_job_of : List Word → Option DoneJob
done_job_of words = do
  job ← job_of words
  done job
