use Rattle.std.proofs.Common.{◌≡◌, ℕ, List, [], ◌∷◌, map, filter, length, Option, Result, Err, sym, ap, subst, ◌∙◌, codes, arith}
use Rattle.std.proofs.lemmas.Result.{err_from_is_err_and}
use Rattle.dj_pool.specs.trusted.Pool.{Constant}
use Rattle.dj_class.specs.declared.class.Attribute.{Attribute}
use Rattle.dj_class.specs.Parts.{attribute_of}
use Rattle.dj_class.specs.Members.{member_of}
use Rattle.dj_class.specs.trusted.ClassFile.{AttributeInfo, MemberInfo}
use Rattle.dj_class.specs.trusted.Code.{CodeInfo, IsCode}
use Rattle.dj_class.specs.CodeViews.{code_of}
use Rattle.dj_early_rules.specs.trusted.Attributes.{is_named}
use Rattle.dj_early_rules.specs.Passes.{IsWholeMethod, IsMethodView}
use Rattle.dj_program.specs.Views.{parts_of}
use Rattle.dj_image.specs.Imaged.{program_of}
use Rattle.dj_rewrite_code.specs.declared.error.CodeError.{CodeError}
use Rattle.dj_rewrite_code.specs.declared.error.CodeError.TheVariants as errors
use Rattle.dj_rewrite_code.specs.declared.method.CodeBody.{CodeBody}
use Rattle.dj_model.specs.trusted.Program.{Program}
use Rattle.dj_program.specs.trusted.Codes.{CodeParts}
use Rattle.dj_rewritten.specs.TooLarge.{DoesNotFit}
use Rattle.dj_rewrite_code.specs.Answers.{groups_by, WritesCode, RewritesMethod, HasLargeCode}
use Rattle.dj_rewrite_code.proofs.Known as known
use Rattle.dj_rewrite_code.proofs.Rows.{length_map}
use Rattle.dj_rewrite_code.proofs.method.rewrite_code.Goals as goal

-- the attribute that is found is the one
found_one : (pool : List Constant) (m : MemberInfo) (own found : List Attribute) (codes_found : List AttributeInfo) (body : List ℕ) → map attribute_of own ≡ m.attributes
    → codes_found ≡ filter (is_named pool (codes "Code")) (map attribute_of own) → map attribute_of found ≡ codes_found
    → (one : known.IsOneAttribute (filter (is_named pool (codes "Code")) m.attributes) body) → map attribute_of found ≡ one.attribute ∷ []
found_one pool m own found codes_found body mine are seen one =
    seen ∙ are ∙ ap (filter (is_named pool (codes "Code"))) mine ∙ one.one

same_head : (a b : AttributeInfo) → a ∷ [] ≡ b ∷ [] → a ≡ b
same_head a b e = cc

refused : (program : Program) (pool : List Constant) (first : ℕ) (m : MemberInfo) (info : CodeInfo) (parts : CodeParts)
    → (DoesNotFit first (groups_by program pool parts) parts → HasLargeCode program pool first m) → (e : CodeError) → WritesCode program pool first info parts (Err e)
    → RewritesMethod program pool first m (Err e)
refused program pool first m info parts large errors.TooLarge such = large such
refused program pool first m info parts large errors.Memory such = such

pub returns-in-Bodiless : goal.returns-in-Bodiless
returns-in-Bodiless c =
    let m = member_of c.args.method.now in
    known.none_left c.args.pool.now m (subst (IsMethodView c.args.pool.now m) c.in-Bodiless.is c.in_ok-code.ensures).1

pub only-attribute-requires : goal.only-attribute-requires
only-attribute-requires c =
    let m = member_of c.args.method.now in
    let w : IsWholeMethod c.args.pool.now m c.in-Whole.code = subst (IsMethodView c.args.pool.now m) c.in-Whole.is c.in_ok-code.ensures in
    let one = known.one_attribute c.args.pool.now m w.body w.one in
    let found = found_one c.args.pool.now m c.as_slice.result.now c.as_slice-2.result.now c.in_ok-codes.codes w.body c.as_slice.ensures c.in_ok-codes.ensures c.as_slice-2.ensures one in
    sym (length_map attribute_of c.as_slice-2.result.now) ∙ ap length found

pub view_of-requires-clause-short : goal.view_of-requires-clause-short
view_of-requires-clause-short c =
    let m = member_of c.args.method.now in
    let w : IsWholeMethod c.args.pool.now m c.in-Whole.code = subst (IsMethodView c.args.pool.now m) c.in-Whole.is c.in_ok-code.ensures in
    let one = known.one_attribute c.args.pool.now m w.body w.one in
    let found = found_one c.args.pool.now m c.as_slice.result.now c.as_slice-2.result.now c.in_ok-codes.codes w.body c.as_slice.ensures c.in_ok-codes.ensures c.as_slice-2.ensures one in
    let same = same_head (attribute_of c.only-attribute.result) one.attribute (sym c.only-attribute.ensures ∙ found) in
    let body = ap (λ (a : AttributeInfo). length a.body) same ∙ ap length one.has in
    let short = known.short_body c.args.pool.now m w.body c.requires.known.short one in
    omega (arith, body, short)

pub view_of-requires-clause-code : goal.view_of-requires-clause-code
view_of-requires-clause-code c =
    let m = member_of c.args.method.now in
    let w : IsWholeMethod c.args.pool.now m c.in-Whole.code = subst (IsMethodView c.args.pool.now m) c.in-Whole.is c.in_ok-code.ensures in
    let one = known.one_attribute c.args.pool.now m w.body w.one in
    let found = found_one c.args.pool.now m c.as_slice.result.now c.as_slice-2.result.now c.in_ok-codes.codes w.body c.as_slice.ensures c.in_ok-codes.ensures c.as_slice-2.ensures one in
    let same = same_head (attribute_of c.only-attribute.result) one.attribute (sym c.only-attribute.ensures ∙ found) in
    let body : c.only-attribute.result.body.now ≡ w.body = ap (λ (a : AttributeInfo). a.body) same ∙ one.has in
    (w.whole.info, subst (λ (b : List ℕ). IsCode b w.whole.info) (sym body) w.whole.is)

pub rewrite_body-requires : goal.rewrite_body-requires
rewrite_body-requires c =
    let m = member_of c.args.method.now in
    let w : IsWholeMethod c.args.pool.now m c.in-Whole.code = subst (IsMethodView c.args.pool.now m) c.in-Whole.is c.in_ok-code.ensures in
    let one = known.one_attribute c.args.pool.now m w.body w.one in
    let found = found_one c.args.pool.now m c.as_slice.result.now c.as_slice-2.result.now c.in_ok-codes.codes w.body c.as_slice.ensures c.in_ok-codes.ensures c.as_slice-2.ensures one in
    let same = same_head (attribute_of c.only-attribute.result) one.attribute (sym c.only-attribute.ensures ∙ found) in
    let body : c.only-attribute.result.body.now ≡ w.body = ap (λ (a : AttributeInfo). a.body) same ∙ one.has in
    let is : IsCode w.body (code_of c.in_ok-view.view) = subst (λ (b : List ℕ). IsCode b (code_of c.in_ok-view.view)) body c.in_ok-view.ensures in
    let code = c.method_code-code.ensures c.args.pool.now m w in
    known.can_rewrite c.stack_map_is_well_formed.ensures (program_of c.args.image.now) c.args.pool.now c.args.first m (parts_of c.method_code-code.result) w.body (code_of c.in_ok-view.view)
    c.requires.first c.requires.valid c.requires.known code w.one is (known.short_body c.args.pool.now m w.body c.requires.known.short one)

pub returns-in_err-body : goal.returns-in_err-body
returns-in_err-body c =
    let m = member_of c.args.method.now in
    let program = program_of c.args.image.now in
    let w : IsWholeMethod c.args.pool.now m c.in-Whole.code = subst (IsMethodView c.args.pool.now m) c.in-Whole.is c.in_ok-code.ensures in
    let one = known.one_attribute c.args.pool.now m w.body w.one in
    let found = found_one c.args.pool.now m c.as_slice.result.now c.as_slice-2.result.now c.in_ok-codes.codes w.body c.as_slice.ensures c.in_ok-codes.ensures c.as_slice-2.ensures one in
    let same = same_head (attribute_of c.only-attribute.result) one.attribute (sym c.only-attribute.ensures ∙ found) in
    let body : c.only-attribute.result.body.now ≡ w.body = ap (λ (a : AttributeInfo). a.body) same ∙ one.has in
    let is : IsCode w.body (code_of c.in_ok-view.view) = subst (λ (b : List ℕ). IsCode b (code_of c.in_ok-view.view)) body c.in_ok-view.ensures in
    let parts = parts_of c.method_code-code.result in
    let code = c.method_code-code.ensures c.args.pool.now m w in
    let p = err_from_is_err_and c.from_residual-in_err-body.result c.from_residual-in_err-body.ensures.1 in
    let given : WritesCode program c.args.pool.now c.args.first (code_of c.in_ok-view.view) parts (Err p.0) =
    subst (λ (e : CodeError). WritesCode program c.args.pool.now c.args.first (code_of c.in_ok-view.view) parts (Err e)) (sym p.2) c.in_err-body.ensures in
    let large = known.code_large c.stack_map_is_well_formed.ensures program c.args.pool.now c.args.first m parts w.body (code_of c.in_ok-view.view)
    c.requires.first c.requires.valid c.requires.known code w.one is in
    subst (λ (r : Result (Option CodeBody) CodeError). RewritesMethod program c.args.pool.now c.args.first m r) (sym p.1)
    (refused program c.args.pool.now c.args.first m (code_of c.in_ok-view.view) parts large p.0 given)

pub returns : goal.returns
returns c =
    let m = member_of c.args.method.now in
    let w : IsWholeMethod c.args.pool.now m c.in-Whole.code = subst (IsMethodView c.args.pool.now m) c.in-Whole.is c.in_ok-code.ensures in
    let one = known.one_attribute c.args.pool.now m w.body w.one in
    let found = found_one c.args.pool.now m c.as_slice.result.now c.as_slice-2.result.now c.in_ok-codes.codes w.body c.as_slice.ensures c.in_ok-codes.ensures c.as_slice-2.ensures one in
    let same = same_head (attribute_of c.only-attribute.result) one.attribute (sym c.only-attribute.ensures ∙ found) in
    let body : c.only-attribute.result.body.now ≡ w.body = ap (λ (a : AttributeInfo). a.body) same ∙ one.has in
    let is : IsCode w.body (code_of c.in_ok-view.view) = subst (λ (b : List ℕ). IsCode b (code_of c.in_ok-view.view)) body c.in_ok-view.ensures in
    let code = c.method_code-code.ensures c.args.pool.now m w in
    known.body_rewritten c.stack_map_is_well_formed.ensures (program_of c.args.image.now) c.args.pool.now c.args.first m (parts_of c.method_code-code.result) w.body (code_of c.in_ok-view.view)
    c.requires.first c.requires.valid c.requires.known code w.one is (attribute_of c.only-attribute.result) c.in_ok-body.body (one.one ∙ ap (λ (a : AttributeInfo). a ∷ []) (sym same)) c.in_ok-body.ensures
