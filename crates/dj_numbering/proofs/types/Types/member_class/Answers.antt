use Rattle.std.proofs.Common.{◌≡◌, length, ap, subst, ◌∙◌, arith}
use Rattle.dj_model.specs.trusted.Types.{object_name}
use Rattle.dj_model.specs.trusted.Program.{Program}
use Rattle.dj_class_table.specs.Tables.{class_number}
use Rattle.dj_resolution.proofs.Resolution.{DoNamesDiffer, object_within}
use Rattle.dj_numbering.specs.Typed.{Typed, AreArrays}
use Rattle.dj_numbering.proofs.Homes.{home_of_class, home_of_array}
use Rattle.dj_numbering.proofs.types.Types.member_class.Goals as goal

pub returns-then-class-class_count-clause-is : goal.returns-then-class-class_count-clause-is
returns-then-class-class_count-clause-is c =
    let typed = c.args.self.now in
    let program : Typed → Program = λ t. t.program in
    let differ = subst DoNamesDiffer (c.classes.ensures ∙ ap program c.self.view_is) c.names_differ.ensures in
    let count = c.class_count.ensures.count ∙ ap length (c.classes-2.ensures ∙ ap program c.self.view_is) in
    let lt = c.if-class-class_count.true in
    home_of_class typed c.args.class differ (omega (arith, count, lt))

pub returns-else-class-class_count-clause-is : goal.returns-else-class-class_count-clause-is
returns-else-class-class_count-clause-is c =
    let typed = c.args.self.now in
    let program : Typed → Program = λ t. t.program in
    let arrays = subst (λ (t : Typed). AreArrays t.program t.arrays) c.self.view_is c.self.invariant.arrays_are.are_arrays in
    let count = c.class_count.ensures.count ∙ ap length (c.classes-2.ensures ∙ ap program c.self.view_is) in
    let object = subst (λ (t : Typed). c.object.result ≡ class_number t.program (object_name t.prefix)) c.self.view_is c.object.ensures in
    home_of_array typed c.args.class c.class_count.result c.object.result arrays count c.requires c.if-class-class_count.false object

pub returns-else-class-class_count-clause-there : goal.returns-else-class-class_count-clause-there
returns-else-class-class_count-clause-there c =
    let object = subst (λ (t : Typed). c.object.result ≡ class_number t.program (object_name t.prefix)) c.self.view_is c.object.ensures in
    object_within c.args.self.now.program (object_name c.args.self.now.prefix) c.object.result object
