-- The code of a method as it is kept.
use Rattle.dj_program.specs.trusted.Codes.{CodeParts}
use Rattle.dj_program.specs.declared.code.MethodCode.{MethodCode}

abbrev pub parts_of : MethodCode → CodeParts
parts_of code = record {
  max_stack = code.max_stack;
  max_locals = code.max_locals;
  labelled = code.code;
  frames = code.frames;
}
