use Rattle.std.proofs.Common.{◌≡◌, ℕ, List, take, drop, length, ap, ap₂, sym, ◌∙◌, arith}
use Rattle.dj_class.specs.trusted.ClassFile.{MemberInfo}
use Rattle.dj_rewrite.specs.Members.{fields_with, methods_with}
use Rattle.dj_rewrite.proofs.NewMembers.{count_of}
use Rattle.dj_rewrite.proofs.file.new_view.Goals as goal

pub split_at-requires : goal.split_at-requires
split_at-requires c =
    let fields = count_of c.as_slice-fields.result.now c.args.view.now.fields c.as_slice-fields.ensures in
    omega (arith, fields)

pub fields_with-requires : goal.fields_with-requires
fields_with-requires c = omega arith

pub methods_with-requires-clause-answers : goal.methods_with-requires-clause-answers
methods_with-requires-clause-answers c = c.requires.answers ∙ sym (count_of c.as_slice-methods.result.now c.args.view.now.methods c.as_slice-methods.ensures)

pub methods_with-requires-clause-descs : goal.methods_with-requires-clause-descs
methods_with-requires-clause-descs c =
    let fields = count_of c.as_slice-fields.result.now c.args.view.now.fields c.as_slice-fields.ensures in
    let methods = count_of c.as_slice-methods.result.now c.args.view.now.methods c.as_slice-methods.ensures in
    omega (arith, fields, methods)

pub returns : goal.returns
returns c =
    let count = count_of c.as_slice-fields.result.now c.args.view.now.fields c.as_slice-fields.ensures in
    let front : c.split_at.result.0.now ≡ take (length c.args.view.now.fields) c.args.descs.now = c.split_at.ensures.front ∙ ap (λ (n : ℕ). take n c.args.descs.now) count in
    let back : c.split_at.result.1.now ≡ drop (length c.args.view.now.fields) c.args.descs.now = c.split_at.ensures.back ∙ ap (λ (n : ℕ). drop n c.args.descs.now) count in
    let fields = c.in_ok-new_fields.ensures ∙ ap₂ (λ (fs : List MemberInfo) (ds : List ℕ). fields_with c.args.view.now.pool fs ds) c.as_slice-fields.ensures front in
    let methods = c.in_ok-new_methods.ensures ∙ ap₂ (λ (ms : List MemberInfo) (ds : List ℕ). methods_with ms c.args.answers.now ds) c.as_slice-methods.ensures back in
    λ i. record {
      minor = c.args.view.now.minor;
      major = c.args.view.now.major;
      pool = c.args.pool;
      flags = c.args.view.now.flags;
      this_class = c.args.view.now.this_class;
      super_class = c.args.view.now.super_class;
      interfaces = c.in_ok-new_interfaces.ensures i;
      fields = fields i;
      methods = methods i;
      attributes = c.new-no_attributes.ensures i;
    }
