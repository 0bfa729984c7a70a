use Rattle.std.proofs.Common.{◌≡◌, ◌+◌, ◌-◌, ◌<◌, ◌≤◌, ◌∷◌, ◌++◌, [], List, ℕ, length, ap, ◌∙◌, arith}
use Rattle.std.proofs.lemmas.Result.{err_from_is_err_and}
use Rattle.dj_cursor.specs.Options.{FailsRead}
use Rattle.dj_names.specs.declared.descriptor.Ty.{Ty}
use Rattle.dj_names.specs.trusted.Descriptors.{type_slots}
use Rattle.dj_names.specs.trusted.DescReading.{params_read}
use Rattle.dj_names.specs.DescReading.{is_memory}
use Rattle.dj_names.proofs.DescLaws.{with_prefix, read_one_more, read_fails, read_is_full}
use Rattle.dj_names.proofs.read.params_of.Goals as goal

pub loop-preserved : goal.loop-preserved
loop-preserved c =
    let slots : c.type_slots_of-slots.result ≡ type_slots c.in_ok-ty.ty = c.type_slots_of-slots.ensures in
    let few : c.loop.slots + type_slots c.in_ok-ty.ty ≤ 255 = omega arith in
    let step = read_one_more c.loop.params (length c.args.bytes.now) c.loop.counter c.loop.slots c.loop.rest.now c.in_ok-ty.ty c.in_ok-ty.after.now (params_read (length c.args.bytes.now) 0 c.args.bytes.now) (omega arith) c.in_default.ensures.other c.in_ok-ty.ensures few c.loop.invariant.reads in
    record {
      few = omega arith;
      reads =
          ap (λ (ps : List Ty). with_prefix ps (params_read (length c.args.bytes.now - (c.loop.counter + 1)) (c.loop.slots + c.type_slots_of-slots.result) c.in_ok-ty.after.now)) c.in_ok-push.ensures.ok
          ∙ ap (λ (n : ℕ). with_prefix (c.loop.params ++ c.in_ok-ty.ty ∷ []) (params_read (length c.args.bytes.now - (c.loop.counter + 1)) (c.loop.slots + n) c.in_ok-ty.after.now)) slots
          ∙ step;
    }

pub returns-in_err-ty : goal.returns-in_err-ty
returns-in_err-ty c =
    let fails : FailsRead (is_memory c.in_err-ty.field-0.0) (params_read (length c.args.bytes.now) 0 c.args.bytes.now) =
    read_fails c.in_err-ty.field-0.0 c.loop.params (length c.args.bytes.now) c.loop.counter c.loop.slots c.loop.rest.now (params_read (length c.args.bytes.now) 0 c.args.bytes.now) (omega arith) c.in_default.ensures.other c.in_err-ty.ensures c.loop.invariant.reads in
    let p = err_from_is_err_and c.from_residual.result c.from_residual.ensures.1 in
    rw (p.1, p.2) fails

pub returns-then-slots-gt255 : goal.returns-then-slots-gt255
returns-then-slots-gt255 c =
    let slots : c.type_slots_of-slots.result ≡ type_slots c.in_ok-ty.ty = c.type_slots_of-slots.ensures in
    let full : 255 < c.loop.slots + type_slots c.in_ok-ty.ty = omega arith in
    read_is_full c.loop.params (length c.args.bytes.now) c.loop.counter c.loop.slots c.loop.rest.now c.in_ok-ty.ty c.in_ok-ty.after.now (params_read (length c.args.bytes.now) 0 c.args.bytes.now) (omega arith) c.in_default.ensures.other c.in_ok-ty.ensures full c.loop.invariant.reads
