use Rattle.std.proofs.Common.{length, ap, arith}
use Rattle.dj_names.specs.trusted.Names.{IsMethodName}
use Rattle.dj_names.specs.trusted.Descriptors.{IsMethodDescriptor}
use Rattle.dj_class.specs.Members.{member_of}
use Rattle.dj_class.specs.Views.{class_of}
use Rattle.dj_class.specs.trusted.ClassFile.{IsMethod}
use Rattle.dj_rewrite.proofs.NewMembers.{length_map, at_member}
use Rattle.dj_rewrite.proofs.LargeTexts.{text_there, texts_more, texts_all}
use Rattle.dj_rewrite.proofs.large.add_texts.Goals as goal

pub bounds-answers-i : goal.bounds-answers-i
bounds-answers-i c =
    let same = ap length c.as_slice-method-items.ensures in
    omega (arith, same, length_map member_of c.as_slice-method-items.result.now)

pub add_text-requires-clause-name : goal.add_text-requires-clause-name
add_text-requires-clause-name c =
    text_there IsMethodName c.args.view.now.pool (member_of c.method-item.result).name
    (at_member (IsMethod c.args.view.now.pool) c.as_slice-method-items.result.now c.args.view.now.methods c.loop-i.i c.method-item.result c.as_slice-method-items.ensures
    c.requires.valid.methods c.loop-i-test.true c.method-item.is).name

pub add_text-requires-clause-desc : goal.add_text-requires-clause-desc
add_text-requires-clause-desc c =
    text_there IsMethodDescriptor c.args.view.now.pool (member_of c.method-item.result).desc
    (at_member (IsMethod c.args.view.now.pool) c.as_slice-method-items.result.now c.args.view.now.methods c.loop-i.i c.method-item.result c.as_slice-method-items.ensures
    c.requires.valid.methods c.loop-i-test.true c.method-item.is).desc

pub loop-i-preserved : goal.loop-i-preserved
loop-i-preserved c =
    texts_more (class_of c.args.view.now) c.args.answers.now c.as_slice-method-items.result.now c.as_slice-method-items.ensures c.requires.answers c.loop-i.i c.method-item.result c.index-answers-i.result
    c.args.texts.now.items c.loop-i.texts.items c.add_text.new.texts.items c.loop-i-test.true c.method-item.is c.index-answers-i.is c.loop-i.invariant c.in_ok-add_text.ensures

pub returns : goal.returns
returns c =
    texts_all (class_of c.args.view.now) c.args.answers.now c.as_slice-method-items.result.now c.as_slice-method-items.ensures c.requires.answers c.loop-i.i
    c.args.texts.now.items c.loop-i.texts.items c.loop-i-test.false c.loop-i.invariant
