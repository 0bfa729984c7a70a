use Rattle.dj_class.specs.Views.{class_of}
use Rattle.dj_loader.proofs.Files.{methods_valid, methods_sound}
use Rattle.dj_loader.proofs.file_parts.file_parts.Goals as goal

pub codes_of-requires-clause-valid : goal.codes_of-requires-clause-valid
codes_of-requires-clause-valid c = methods_valid (class_of c.args.view.now) c.as_slice-methods.result.now c.as_slice-methods.ensures c.requires.valid

pub codes_of-requires-clause-sound : goal.codes_of-requires-clause-sound
codes_of-requires-clause-sound c = methods_sound (class_of c.args.view.now) c.as_slice-methods.result.now c.as_slice-methods.ensures c.requires.sound
