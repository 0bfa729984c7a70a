-- The program's values as the definitions see them.
use Rattle.std.specs.Prelude.{List, Option, map, option_map}
use Rattle.std.specs.Borrow.{Bor}
use Rattle.dj_command_line.specs.trusted.Words.{Word}
use Rattle.dj_command_line.specs.trusted.DoneJobs.{DoneJob, FolderJob, Check, Verify, Raw, OnFolder, Assemble}
use Rattle.dj_command_line.specs.WordsApp.{Values}
use Rattle.dj_command_line.specs.declared.command.Command.{Command}
use Rattle.dj_command_line.specs.declared.command.Command.TheVariants as commands
use Rattle.dj_command_line.specs.declared.command.FolderCommand.{FolderCommand}
use Rattle.dj_command_line.specs.declared.command.FolderCommand.TheVariants as folder_commands
use Rattle.dj_command_line.specs.declared.options.Options.{Options}

-- the job that a command does
abbrev pub folder_job_view : FolderCommand → FolderJob
folder_job_view (folder_commands.Check folder) = Check folder.now
folder_job_view (folder_commands.Verify folder entry input thresholds) = Verify folder.now entry.now input.now thresholds
folder_job_view (folder_commands.Raw folder entry input steps) = Raw folder.now entry.now input.now steps

abbrev pub job_view : Command → DoneJob
job_view (commands.OnFolder command) = OnFolder (folder_job_view command)
job_view (commands.Assemble file) = Assemble file.now

abbrev pub texts : List (Bor Word) → List Word
texts words = map (λ word. word.now) words

abbrev pub text_given : Option (Bor Word) → Option Word
text_given word = option_map (λ w. w.now) word

abbrev pub values_view : Options → Values
values_view options = record {
  alloc = text_given options.alloc;
  invoke = text_given options.invoke;
  jump = text_given options.jump;
  throw = text_given options.throw;
  steps = text_given options.steps;
}
