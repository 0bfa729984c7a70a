use Rattle.std.proofs.Common.{Bool, ◌↔◌, ◌⊎◌, List, map, IsTrue, inl, inr, subst}
use Rattle.dj_edge.proofs.Lists.{ok_so}
use Rattle.dj_names.specs.trusted.Names.{IsUnqualifiedName, IsMethodName}
use Rattle.dj_names.specs.trusted.Descriptors.{IsFieldDescriptor, IsMethodDescriptor}
use Rattle.dj_class.specs.trusted.ClassFile.{MemberInfo}
use Rattle.dj_class.specs.Members.{member_of}
use Rattle.dj_class.specs.Views.{class_of}
use Rattle.dj_early_rules.specs.trusted.Heads.{AreRepeated}
use Rattle.dj_early_rules.specs.Gathered.{names_of, HasAgain}
use Rattle.dj_early_rules.proofs.RepeatLaws.{again_repeated, first_repeats, other_repeats}
use Rattle.dj_early_rules.proofs.repeats.has_repeats.Goals as goal

pub returns-then-fields : goal.returns-then-fields
returns-then-fields c =
    let view = c.args.view.now in
    let texts = c.args.texts.now in
    first_repeats (AreRepeated view.pool view.fields) (AreRepeated view.pool view.methods) c.in_ok-fields.fields
    (again_repeated IsUnqualifiedName IsFieldDescriptor (class_of view) texts view.fields c.in_ok-fields.fields c.requires.texts c.requires.numbered (λ m own. inl own) c.requires.valid.fields
    (subst (λ (ms : List MemberInfo). IsTrue c.in_ok-fields.fields ↔ HasAgain (names_of texts ms)) c.as_slice.ensures c.in_ok-fields.ensures))
    c.if-fields.true

pub returns : goal.returns
returns c =
    let view = c.args.view.now in
    let texts = c.args.texts.now in
    let fields = again_repeated IsUnqualifiedName IsFieldDescriptor (class_of view) texts view.fields c.in_ok-fields.fields c.requires.texts c.requires.numbered (λ m own. inl own) c.requires.valid.fields
    (subst (λ (ms : List MemberInfo). IsTrue c.in_ok-fields.fields ↔ HasAgain (names_of texts ms)) c.as_slice.ensures c.in_ok-fields.ensures) in
    ok_so c.has_again-2.result (λ b. IsTrue b ↔ HasAgain (names_of texts (map member_of c.as_slice-2.result.now))) (λ b. IsTrue b ↔ (AreRepeated view.pool view.fields ⊎ AreRepeated view.pool view.methods))
    (λ (b : Bool) reported. other_repeats (AreRepeated view.pool view.fields) (AreRepeated view.pool view.methods) c.in_ok-fields.fields b fields c.if-fields.false
    (again_repeated IsMethodName IsMethodDescriptor (class_of view) texts view.methods b c.requires.texts c.requires.numbered (λ m own. inr own) c.requires.valid.methods
    (subst (λ (ms : List MemberInfo). IsTrue b ↔ HasAgain (names_of texts ms)) c.as_slice-2.ensures reported)))
    c.has_again-2.ensures
