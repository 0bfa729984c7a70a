use Rattle.std.proofs.Common.{◌≡◌, List, ℕ, All, Some, sym, subst, ◌∙◌}
use Rattle.dj_class.specs.Views.{class_of}
use Rattle.dj_rename.specs.declared.error.RenameError.TheVariants as errors
use Rattle.dj_rename.specs.Refusals.{IsDescIndex, AreAppended, RefusesTexts, refusal}
use Rattle.dj_rewrite.proofs.Validity.{descs_described}
use Rattle.dj_rewrite.proofs.Refusals.{refused_large}
use Rattle.dj_rewrite.proofs.file.rewrite_file.Goals as goal

pub rename_texts-requires-clause-described : goal.rename_texts-requires-clause-described
rename_texts-requires-clause-described c =
    subst (λ (ds : List ℕ). All (IsDescIndex c.args.view.now.pool) ds) (sym (c.as_slice-descs.ensures.value ∙ c.in_ok-indexes.ensures)) (descs_described (class_of c.args.view.now) c.requires.valid)

pub with_texts-requires-clause-descs : goal.with_texts-requires-clause-descs
with_texts-requires-clause-descs c = c.as_slice-descs.ensures.value ∙ c.in_ok-indexes.ensures

pub with_texts-requires-clause-texts : goal.with_texts-requires-clause-texts
with_texts-requires-clause-texts c =
    subst (λ (ds : List ℕ). AreAppended c.args.view.now.pool ds c.in-Ok.texts) (c.as_slice-descs.ensures.value ∙ c.in_ok-indexes.ensures) c.in-Ok.ensures.ok

pub large_pool-requires-clause-large : goal.large_pool-requires-clause-large
large_pool-requires-clause-large c =
    let told : refusal c.args.view.now.pool c.as_slice-descs.result.now ≡ Some errors.Full = subst (RefusesTexts c.args.view.now.pool c.as_slice-descs.result.now) c.in-Err-Full.field-0-is c.in-Err-Full.ensures.err in
    refused_large (class_of c.args.view.now) errors.Full (λ e. absurd cc)
    (subst (λ (ds : List ℕ). refusal c.args.view.now.pool ds ≡ Some errors.Full) (c.as_slice-descs.ensures.value ∙ c.in_ok-indexes.ensures) told)

pub large_pool-requires-in-Err-Long-clause-large : goal.large_pool-requires-in-Err-Long-clause-large
large_pool-requires-in-Err-Long-clause-large c =
    let told : refusal c.args.view.now.pool c.as_slice-descs.result.now ≡ Some (errors.Long c.in-Err-Long.field-0-0) =
    subst (RefusesTexts c.args.view.now.pool c.as_slice-descs.result.now) c.in-Err-Long.field-0-is c.in-Err-Long.ensures.err in
    refused_large (class_of c.args.view.now) (errors.Long c.in-Err-Long.field-0-0) (λ e. absurd cc)
    (subst (λ (ds : List ℕ). refusal c.args.view.now.pool ds ≡ Some (errors.Long c.in-Err-Long.field-0-0)) (c.as_slice-descs.ensures.value ∙ c.in_ok-indexes.ensures) told)
