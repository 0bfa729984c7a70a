-- The system of folders and files that a store reads.
use Rattle.dj_edge.specs.declared.folder_files.FolderFiles.{FolderFiles}

abbrev pub system_of : {S F : Type 0} → FolderFiles S F → S
system_of files = files.system
