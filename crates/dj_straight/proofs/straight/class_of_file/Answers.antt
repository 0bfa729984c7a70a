use Rattle.std.proofs.Common.{subst}
use Rattle.dj_class.specs.Views.{class_of}
use Rattle.dj_class.specs.trusted.ClassFile.{IsClassFile, IsMalformed}
use Rattle.dj_file_rules.specs.Reads.{IsViewOf}
use Rattle.dj_straight.specs.Methods.{class_view}
use Rattle.dj_straight.specs.trusted.Straight.{IsStraightClass, IsStraightFile}
use Rattle.dj_straight.proofs.StraightCode.{ok_finds}
use Rattle.dj_straight.proofs.Straights.{file_class}
use Rattle.dj_straight.proofs.straight.class_of_file.Goals as goal

pub straight_class-requires : goal.straight_class-requires
straight_class-requires c =
    let is : IsClassFile c.args.file.now.bytes.now (class_of c.in-Class.class) = subst (IsViewOf c.args.file.now.bytes.now) c.in-Class.is c.requires in
    is.valid

pub returns-in-Class : goal.returns-in-Class
returns-in-Class c =
    let is : IsClassFile c.args.file.now.bytes.now (class_of c.in-Class.class) = subst (IsViewOf c.args.file.now.bytes.now) c.in-Class.is c.requires in
    let same = file_class c.args.file.now.bytes.now (class_of c.in-Class.class) is in
    ok_finds c.straight_class.result class_view (IsStraightClass (class_of c.in-Class.class)) (IsStraightFile c.args.file.now.bytes.now) same.0 same.1 c.straight_class.ensures

pub returns-in-Malformed : goal.returns-in-Malformed
returns-in-Malformed c = λ y file.
    let none : IsMalformed c.args.file.now.bytes.now = subst (IsViewOf c.args.file.now.bytes.now) c.in-Malformed.is c.requires in
    none file.0 file.1
